-- A walk over the queue from its head.
use Rattle.std.specs.Prelude.{◌≡◌, ℕ, suc, List, slice_get, Some}
use Rattle.cooling_stage.specs.declared.stage.Cooling.{Cooling}
use Rattle.cooling_stage.specs.Queue.{found, behind, IsOnce}

-- what stands at a place is found by its page, and behind it stands the next one, if any
pub record IsPlace (q : List Cooling) (i : ℕ) (x : Cooling) : Type 0 where
  pub here : found x.page q ≡ Some x
  pub next : slice_get (behind x.page q) 0 ≡ slice_get q (suc i)

-- so it is at each place
abbrev pub EveryPlace : Type 0
EveryPlace = (q : List Cooling) → IsOnce q → (i : ℕ) (x : Cooling) → slice_get q i ≡ Some x → IsPlace q i x
