-- Where each session of an engine stands: one in the store, which has the turn, and the others at desks.
use Rattle.std.specs.Prelude.{◌≡◌, ◌<◌, ◌≤◌, ◌==◌, ◌-◌, ℕ, suc, List, get_or, length, if◌then◌else◌}
use Rattle.session_state.specs.worker_log.Logs.{Log}
use Rattle.session_desks.specs.declared.desk.Desk.{Desk}

-- where the desk of a session stands that has not the turn: session 1 stands in for whoever has it
abbrev pub place_of : (turn session : ℕ) → ℕ
place_of turn session = (if session == 1 then turn else session) - 2

-- the desk of a session
abbrev pub desk_of : (work : Desk) → (desks : List Desk) → (session : ℕ) → Desk
desk_of work desks session = if session == work.session.own then work else get_or desks (place_of work.session.own session) work

-- the log of each
abbrev pub log_of : (work : Desk) → (desks : List Desk) → (session : ℕ) → Log
log_of work desks session = (desk_of work desks session).log

-- there is a desk for each session, which has its number, of so many
pub record AreSeated (work : Desk) (desks : List Desk) : Type 0 where
  pub count : suc (length desks) ≡ work.session.workers
  pub low : 0 < work.session.own
  pub high : work.session.own ≤ work.session.workers
  pub own : (w : ℕ) → 0 < w → w ≤ work.session.workers → (desk_of work desks w).session.own ≡ w
  pub workers : (w : ℕ) → 0 < w → w ≤ work.session.workers → (desk_of work desks w).session.workers ≡ work.session.workers

-- The session has the turn, with the free pages. All sessions are as they were, but for what they know of free pages, and so are their logs.
pub record Turned (session : ℕ) (old new : Desk) (desks_old desks_new : List Desk) : Type 0 where
  pub own : new.session.own ≡ session
  pub workers : new.session.workers ≡ old.session.workers
  pub count : length desks_new ≡ length desks_old
  pub free : new.session.free ≡ old.session.free
  pub session_of : (w : ℕ) → 0 < w → w ≤ old.session.workers → (desk_of new desks_new w).session ≡ record (desk_of old desks_old w).session { free = (desk_of new desks_new w).session.free }
  pub log_of : (w : ℕ) → 0 < w → w ≤ old.session.workers → (desk_of new desks_new w).log ≡ (desk_of old desks_old w).log
