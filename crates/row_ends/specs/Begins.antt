-- A begin: where it may come, and what it did.
use Rattle.std.specs.Prelude.{◌≡◌, ◌+◌, ◌<◌, ◌^◌, ℕ, suc, true, false, ◌++◌, [], ◌∷◌, None}
use Rattle.session_state.specs.core_state.Events as happening
use Rattle.session_state.specs.core_state.Needs.{may}
use Rattle.session_state.specs.core_state.States.{flushed_by_all}
use Rattle.session_state.specs.flush_avoidance.Clocks.{after_begin}
use Rattle.session_state.specs.row_words.declared.event.Event.TheVariants.{Begin}
use Rattle.session_state.specs.row_words.Openings.{opening}
use Rattle.session_state.specs.rows_trait.declared.view.View.{View}
use Rattle.session_state.specs.rows_trait.Views.{state}
use Rattle.session_state.specs.worker_log.Logs.{Log, limit, used}
use Rattle.session_state.specs.declared.session.Session.{Session}

-- ## The session

-- a session after a begin that found its log flushed up to this number
abbrev pub begun_session : Session → ℕ → Session
begun_session x floor = record x { is_open = true; clock = after_begin x.clock floor; txn = x.txn + 1; first = None; undo = []; is_half_aborted = false }

-- No test refuses it: the engine works, no transaction is open, the clock has not come to its end, and blocks for changes are left.
pub record MayBegin (x : Session) (log : Log) : Type 0 where
  pub works : x.works ≡ true
  pub closed : x.is_open ≡ false
  pub small : x.clock.clock < 2 ^ 62
  pub room : used log < limit log

-- ## The begin

-- The begin was seen next, where all logs were found flushed as they are; the session goes on by it, and its transaction has the next number.
pub record Begins (v w : View) (x y : Session) (number : ℕ) : Type 0 where
  pub floor : ℕ
  pub floor_is : floor ≡ flushed_by_all (opening v.given) (state v).core
  pub given : w.given ≡ v.given
  pub seen : w.seen ≡ v.seen ++ Begin x.own floor ∷ []
  pub met : may (opening v.given) (state v).core (happening.Event.Begin x.own floor) ≡ true
  pub next : number ≡ suc ((state v).core.worker x.own).txn
  pub session : y ≡ begun_session x floor
