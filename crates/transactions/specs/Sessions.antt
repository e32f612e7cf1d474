-- All sessions of a place.
use Rattle.std.specs.Prelude.{◌≡◌, ◌-◌, ℕ, suc, true, false, List, [], length, replicate, Some, slice_get, slice_set}
use Rattle.std.specs.Borrow.{Lends, MutBor, Fml}
use Rattle.core_state.specs.Openings.{Opening}
use Rattle.core_state.specs.Needs.{is_worker}
use Rattle.transactions.specs.contracts.session.Session as one
use Rattle.transactions.specs.contracts.sessions.Sessions as all
use Rattle.transactions.specs.declared.session.Session.{Session}
use Rattle.transactions.specs.Memory.{memory_of, IsUsual, Knows}

-- A session with this number, of so many lock rows, which has done nothing. Where nothing has happened yet, it knows what the core has of
-- its worker.
pub record IsNew (rows number : ℕ) (s : Session) : Type 0 where
  pub memory : memory_of s ≡ record { session = number; is_open = false; is_half = false; held = replicate rows false; undo = [] }
  pub knows : (g : Opening) → IsUsual g rows → is_worker g number ≡ true → Knows g [] (memory_of s)

-- so many new sessions: 1, 2, ..
pub record AreNew (sessions rows : ℕ) (list : List Session) : Type 0 where
  pub count : length list ≡ sessions
  pub each : (i : ℕ) (s : Session) → slice_get list i ≡ Some s → IsNew rows (suc i) s

-- all sessions, once the one with this number is no more lent: the others are as they were
abbrev pub LendsSession : MutBor (List Session) → ℕ → MutBor Session → Fml
LendsSession s number r = Lends all.the_row one.the_row s r (slice_set s.now (number - 1))
