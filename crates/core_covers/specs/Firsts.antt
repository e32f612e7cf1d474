-- The first record of a session's open transaction: of any kind, one that changes the tree too.
use Rattle.std.specs.Prelude.{◌≡◌, ◌<◌, ◌≤◌, ℕ, Bool, true, false, ◌&&◌, ◌==◌, List, [], ◌∷◌, ◌++◌, Option, Some, None, if◌then◌else◌}
use Rattle.map_model.specs.Lists.{Has}
use Rattle.core_paging.specs.image_model.Entries.{Entry, is_record}
use Rattle.core_paging.specs.core_state.Openings.{Opening}
use Rattle.core_paging.specs.core_state.States.{State}
use Rattle.core_paging.specs.core_state.Events.{Event}
use Rattle.core_paging.specs.core_state.Needs.{may}
use Rattle.core_paging.specs.core_state.Steps.{state_after}

-- a record of transaction t of worker w
abbrev pub is_own : (w t : ℕ) → Entry → Bool
is_own w t r = is_record r.kind && ((r.log == w) && (r.txn == t))

-- the one, or else the other
abbrev pub or_else : Option ℕ → Option ℕ → Option ℕ
or_else (Some n) other = Some n
or_else None other = other

-- the number of the oldest of these
abbrev pub oldest : (Entry → Bool) → List Entry → Option ℕ
oldest own [] = None
oldest own (r ∷ earlier) = or_else (oldest own earlier) (if own r then Some r.number else None)

-- the number of the first record of w's transaction, if it is open and has one
abbrev pub first_of : State → ℕ → Option ℕ
first_of s w = if (s.worker w).is_open then oldest (is_own w (s.worker w).txn) s.entries else None

-- below the first record of each open transaction
abbrev pub IsBelowFirsts : Opening → State → ℕ → Type 0
IsBelowFirsts g s x = (w n : ℕ) → 0 < w → w ≤ g.workers → first_of s w ≡ Some n → x < n

-- the open transaction has a first record, and r is not earlier
pub record IsNotBeforeFirst (s : State) (w : ℕ) (r : Entry) : Type 0 where
  pub first : ℕ
  pub is : first_of s w ≡ Some first
  pub low : first ≤ r.number

-- What it is in a run.
pub record FirstLaws (g : Opening) (es : List Event) (w : ℕ) : Type 0 where
  -- it is the least of the transaction's records
  pub least : (r : Entry) → Has r (state_after g es).entries → ((state_after g es).worker w).is_open ≡ true → is_own w ((state_after g es).worker w).txn r ≡ true → IsNotBeforeFirst (state_after g es) w r
  -- behind a begin and behind an end there is none
  pub begin : (f : ℕ) → may g (state_after g es) (Event.Begin w f) ≡ true → first_of (state_after g (es ++ Event.Begin w f ∷ [])) w ≡ None
  pub end : (commit : Bool) (f : ℕ) → may g (state_after g es) (Event.End w commit f) ≡ true → first_of (state_after g (es ++ Event.End w commit f ∷ [])) w ≡ None

-- in each run, of each worker
abbrev pub EveryFirst : Type 0
EveryFirst = (g : Opening) (es : List Event) (w : ℕ) → FirstLaws g es w

-- From one state to another, in which the worker is in the same transaction: nothing was entered, or a record that is not its own, or one that is.
pub record FirstSteps (s t : State) (w : ℕ) : Type 0 where
  pub same : t.entries ≡ s.entries → first_of t w ≡ first_of s w
  pub other : (r : Entry) → t.entries ≡ r ∷ s.entries → is_own w (s.worker w).txn r ≡ false → first_of t w ≡ first_of s w
  pub own : (r : Entry) → t.entries ≡ r ∷ s.entries → (s.worker w).is_open ≡ true → is_own w (s.worker w).txn r ≡ true → first_of t w ≡ or_else (first_of s w) (Some r.number)

-- between any two
abbrev pub EveryFirstStep : Type 0
EveryFirstStep = (s t : State) (w : ℕ) → (t.worker w).is_open ≡ (s.worker w).is_open → (t.worker w).txn ≡ (s.worker w).txn → FirstSteps s t w
