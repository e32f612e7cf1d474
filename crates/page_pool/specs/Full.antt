-- When no frame can be given: a turn has found no page to cool, and no page of the queue can be evicted.
use Rattle.std.specs.Prelude.{◌≡◌, ◌<◌, ◌≤◌, ◌⊎◌, ℕ, Bool, true, false, Some}
use Rattle.page_model.specs.Check.{names_page}
use Rattle.page_model.specs.Tree.{IsTree}
use Rattle.lean_proto.specs.core_state.Openings.{Opening}
use Rattle.lean_proto.specs.core_state.States.{State, nodes_of, flushed_by_all, is_hot, is_cooling, in_frame, epoch_of}
use Rattle.lean_proto.specs.core_state.Needs.{has_hot_child, is_empty_frame}

-- The pages of a way are those of a descent: with a page, each that names it.
abbrev pub IsWay : Opening → State → (ℕ → Bool) → Type 0
IsWay g s way = (q p : ℕ) → q < g.format.pages → names_page (s.page q).node p ≡ true → way p ≡ true → way q ≡ true

-- each hot page off the way has a hot child, so none can be cooled
abbrev pub NoCandidate : Opening → State → (ℕ → Bool) → Type 0
NoCandidate g s way = (p : ℕ) → p < g.format.pages → is_hot (s.place p) ≡ true → way p ≡ false → has_hot_child g s p ≡ true

-- A worker is inside that did not enter later than the page began to cool. Whoever a page waits for is such a worker.
pub record IsHeldBack (s : State) (p : ℕ) : Type 0 where
  pub worker : ℕ
  pub epoch : ℕ
  pub inside : s.inside worker ≡ Some epoch
  pub early : epoch ≤ epoch_of (s.place p)

-- the number of each cooling page is above what is flushed everywhere, or the page is held back by a worker
abbrev pub NoneRipe : Opening → State → Type 0
NoneRipe g s = (p : ℕ) → p < g.format.pages → is_cooling (s.place p) ≡ true → (flushed_by_all g s < (s.page p).gsn) ⊎ IsHeldBack s p

-- a page of the way stands in the frame, or one above what is flushed everywhere, or one that is held back by a worker
pub record IsTaken (g : Opening) (s : State) (way : ℕ → Bool) (f : ℕ) : Type 0 where
  pub page : ℕ
  pub below : page < g.format.pages
  pub here : in_frame (s.place page) f ≡ true
  pub why : (way page ≡ true) ⊎ ((flushed_by_all g s < (s.page page).gsn) ⊎ IsHeldBack s page)

-- then so it is of each frame that is not empty
abbrev pub EveryFull : Type 0
EveryFull = (g : Opening) (s : State) (way : ℕ → Bool) → IsTree g.format (nodes_of s) → IsWay g s way → NoCandidate g s way → NoneRipe g s → (f : ℕ) → is_empty_frame g s f ≡ false → IsTaken g s way f
