-- What a session knows while others step.
use Rattle.std.specs.Prelude.{◌≡◌, ◌<◌, ◌==◌, ◌++◌, ℕ, suc, false, List, length, Some, slice_get, slice_set}
use Rattle.core_state.specs.Openings.{Opening}
use Rattle.core_state.specs.Events.{Event}
use Rattle.transactions.specs.Steps.{AreOnly, AreQuiet}
use Rattle.core_state.specs.Steps.{state_after, AllMet}
use Rattle.transactions.specs.declared.session.Session.{Session}
use Rattle.transactions.specs.Memory.{Memory, memory_of, Knows}

-- It lasts through events that are no steps of its own, and where nobody else steps, through the steps of another.
pub record OtherLaws (g : Opening) (es more : List Event) (m : Memory) (w : ℕ) : Type 0 where
  pub quiet : Knows g es m → AllMet g (state_after g es) more → AreQuiet m.session more → Knows g (es ++ more) m
  pub only : Knows g es m → AllMet g (state_after g es) more → (w == m.session) ≡ false → AreOnly w more → Knows g (es ++ more) m

abbrev pub EveryOther : Type 0
EveryOther = (g : Opening) (es more : List Event) (m : Memory) (w : ℕ) → OtherLaws g es more m w

-- Sessions 1, 2, .. know what the core has of them.
pub record AllKnow (g : Opening) (es : List Event) (sessions : List Session) : Type 0 where
  pub number : (i : ℕ) (s : Session) → slice_get sessions i ≡ Some s → s.session ≡ suc i
  pub knows : (i : ℕ) (s : Session) → slice_get sessions i ≡ Some s → Knows g es (memory_of s)

-- After a call of one of them, where nobody else stepped, they all do.
abbrev pub EverySession : Type 0
EverySession = (g : Opening) (es more : List Event) (sessions : List Session) (i : ℕ) (now : Session) → AllKnow g es sessions → i < length sessions → now.session ≡ suc i → Knows g (es ++ more) (memory_of now) →
    AllMet g (state_after g es) more → AreOnly (suc i) more → AllKnow g (es ++ more) (slice_set sessions i now)
