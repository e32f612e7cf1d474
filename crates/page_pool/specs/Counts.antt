-- How many frames are empty, and how many have a page.
use Rattle.std.specs.Prelude.{◌≡◌, ◌+◌, ℕ, length}
use Rattle.lean_proto.specs.core_state.Lists.{count_below}
use Rattle.lean_proto.specs.core_state.Openings.{Opening}
use Rattle.lean_proto.specs.core_state.States.{State, is_hot}
use Rattle.lean_proto.specs.core_paging.Paging.{Residence}
use Rattle.page_pool.specs.Pools.{Pool, Agrees}

-- how many pages are hot
abbrev pub hot_pages : Opening → State → ℕ
hot_pages g s = count_below g.format.pages (λ p. is_hot (s.place p))

-- a frame is empty, or has one page, which cools or is hot
abbrev pub EveryFrame : Type 0
EveryFrame = (g : Opening) (s : State) (k : Pool) → Residence g s → Agrees g s k → length k.empty + length k.queue + hot_pages g s ≡ g.frames
