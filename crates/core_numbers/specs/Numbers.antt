-- How far numbers go, where begins and records come only while their worker's clock is low.
use Rattle.std.specs.Prelude.{◌≡◌, ◌≤◌, ◌<◌, ◌+◌, ◌*◌, ◌^◌, ℕ, zero, suc, max, true, false, length, ltb, List, [], ◌∷◌, if◌then◌else◌}
use Rattle.core_state.specs.Events.{Event}
use Rattle.core_state.specs.Openings.{Opening}
use Rattle.core_state.specs.States.{State, Worker}
use Rattle.core_state.specs.Steps.{step, run}

-- the worker's clock is below 2^62
abbrev pub IsYoung : State → ℕ → Type 0
IsYoung s w = (s.worker w).clock < 2 ^ 62

-- a begin, or a record of pages that is no put-back, comes only while its worker's clock is below 2^62
abbrev pub IsTame : State → Event → Type 0
IsTame s (Event.Begin w f) = IsYoung s w
IsTame s (Event.Change w p k v) = IsYoung s w
IsTame s (Event.Split w l r q i) = IsYoung s w
IsTame s (Event.Lift w c) = IsYoung s w
IsTame s (Event.Join w l r q) = IsYoung s w
IsTame s (Event.Drop w c) = IsYoung s w
IsTame s (Event.Purge w p keys) = IsYoung s w
IsTame s _ = Unit {0}

-- each of them at the moment at which it comes, whether its need is met or not
abbrev pub AreTame : Opening → State → List Event → Type 0
AreTame g s [] = Unit {0}
AreTame g s (e ∷ es) = IsTame s e × AreTame g (step g s e) es

-- how many numbers a worker may take yet at its clock's end and behind it: a change, 64 put-backs and an end; once it is there, what
-- its open transaction has to put back, and the end
abbrev pub left_to : Worker → ℕ
left_to a = if ltb a.clock (2 ^ 62) then 66 else (if a.is_open then suc (length a.changes) else 0)

-- workers 1 to n together
abbrev pub left_to_all : (ℕ → Worker) → ℕ → ℕ
left_to_all worker zero = 0
left_to_all worker (suc n) = left_to (worker (suc n)) + left_to_all worker n

-- no stamp, no clock and no end is above this
pub record AreUpTo (s : State) (top : ℕ) : Type 0 where
  pub page : (p : ℕ) → (s.page p).gsn ≤ top
  pub saved : (p : ℕ) → (s.saved p).gsn ≤ top
  pub row : (i : ℕ) → (s.row i).number ≤ top
  pub read_end : (i : ℕ) → (s.row i).read_end ≤ top
  pub clock : (w : ℕ) → (s.worker w).clock ≤ top
  pub end : (w : ℕ) → (s.worker w).end ≤ top

-- the greatest number that can come
abbrev pub last_of : (base workers : ℕ) → ℕ
last_of base workers = max base (2 ^ 62 + 66 * workers)

-- the numbers so far, and those that may come, are behind it
pub record AreLow (base n : ℕ) (s : State) : Type 0 where
  pub top : ℕ
  pub up_to : AreUpTo s top
  pub room : top + left_to_all s.worker n ≤ last_of base n

-- So much is known of numbers; who is open is a worker, and has few changes. No clock is below the base, so nobody begins where that is
-- at 2^62 or above.
pub record AreNumbered (base : ℕ) (g : Opening) (s : State) : Type 0 where
  pub low : AreLow base g.workers s
  pub few : (w : ℕ) → length (s.worker w).changes ≤ 64
  pub worker : (w : ℕ) → (s.worker w).is_open ≡ true → (0 < w) × (w ≤ g.workers)
  pub based : (w : ℕ) → base ≤ (s.worker w).clock
  pub young : (w : ℕ) → (s.worker w).is_open ≡ true → base < 2 ^ 62

-- it is so at the start
abbrev pub EveryStart : Type 0
EveryStart = (g : Opening) (s : State) (base : ℕ) → AreUpTo s base → ((w : ℕ) → (s.worker w).clock ≡ base) → ((w : ℕ) → (s.worker w).is_open ≡ false) → ((w : ℕ) → (s.worker w).changes ≡ []) → AreNumbered base g s

-- and behind every such list of events
abbrev pub EveryNumber : Type 0
EveryNumber = (g : Opening) (base : ℕ) (s : State) (es : List Event) → g.changes ≤ 64 → AreNumbered base g s → AreTame g s es → AreNumbered base g (run g s es)

-- then the next number of a worker that is open has room, whatever pages it touches first
abbrev pub EveryNext : Type 0
EveryNext = (base : ℕ) (g : Opening) (s : State) (h : AreNumbered base g s) (w : ℕ) → (s.worker w).is_open ≡ true → suc h.low.top ≤ 2 ^ 62 + 66 * g.workers
