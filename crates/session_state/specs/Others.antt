-- Several sessions on the same rows: what one has in memory lasts while a call of another goes on.
use Rattle.std.specs.Prelude.{◌≡◌, ℕ, Bool, true, false, ◌==◌, List, ◌++◌}
use Rattle.map_model.specs.Lists.{all}
use Rattle.btree_descent.specs.core_state.Steps.{AllMet}
use Rattle.btree_descent.specs.row_words.declared.event.Event.{Event}
use Rattle.btree_descent.specs.row_words.declared.event.Event.TheVariants as told
use Rattle.btree_descent.specs.row_words.Moments.{events_of}
use Rattle.btree_descent.specs.row_words.Openings.{opening}
use Rattle.btree_descent.specs.rows_trait.declared.view.View.{View}
use Rattle.btree_descent.specs.rows_trait.Views.{Shape, state}
use Rattle.engine_calls.specs.worker_log.Logs.{Log}
use Rattle.session_state.specs.Holds.{Holds}
use Rattle.session_state.specs.declared.session.Session.{Session}

-- an event that comes in a call of session `own`: one of its worker; a page that is brought into a frame; or a miss, which changes nothing
abbrev pub is_of : (own : ℕ) → Event → Bool
is_of own (told.Begin w f) = w == own
is_of own (told.Lock w i m) = w == own
is_of own (told.Read w p k a) = w == own
is_of own (told.Next w p k a) = w == own
is_of own (told.Change w p k v) = w == own
is_of own (told.PutBack w p) = w == own
is_of own (told.Split w l r q i) = w == own
is_of own (told.Lift w c) = w == own
is_of own (told.Join w l r q) = w == own
is_of own (told.Drop w c) = w == own
is_of own (told.Purge w p keys) = w == own
is_of own (told.End w commit f) = w == own
is_of own (told.Unlock w i) = w == own
is_of own (told.Flush w n) = w == own
is_of own (told.Miss w) = true
is_of own (told.Load p f) = true
is_of own _ = false

-- from the one view to the other, events of session `own` alone were seen, each where its need was met
pub record Steps (own : ℕ) (v w : View) : Type 0 where
  pub events : List Event
  pub given : w.given ≡ v.given
  pub seen : w.seen ≡ v.seen ++ events
  pub are_own : all (is_of own) events ≡ true
  pub met : AllMet (opening v.given) (state v).core (events_of events)

-- one call behind another
abbrev pub EverySteps : Type 0
EverySteps = (own : ℕ) (v u w : View) → Steps own v u → Steps own u w → Steps own v w

-- Behind the steps of y, session x of the same rows is as between two calls, with the free pages that y has left.
abbrev pub EveryOther : Type 0
EveryOther = (z : Shape) (v w : View) (x y : Session) (log log_of_y : Log) → Holds z v x log → Holds z w y log_of_y → (x.own ≡ y.own → ⊥) → x.workers ≡ y.workers → x.frames ≡ y.frames → x.held.count ≡ y.held.count
    → Steps y.own v w → Holds z w (record x { free = y.free }) log
