-- Why a descent that is begun again, each time behind the coming of the page at which it stopped, ends.
use Rattle.std.specs.Prelude.{◌≡◌, ◌<◌, ◌≤◌, ℕ, suc, true, false}
use Rattle.page_model.specs.Nodes.{covers}
use Rattle.page_model.specs.Tree.{IsTree}
use Rattle.core_crash.specs.core_paging.Paging.{Residence}
use Rattle.core_crash.specs.core_state.Openings.{Opening}
use Rattle.core_crash.specs.core_state.States.{State, is_hot, nodes_of}

-- each page of the key's way is hot, from this level up
abbrev pub IsWarmFrom : Opening → State → (key level : ℕ) → Type 0
IsWarmFrom g s key n = (p : ℕ) → p < g.format.pages → covers (s.page p).node key ≡ true → n ≤ (s.page p).node.level → is_hot (s.place p) ≡ true

-- where the pages are a tree, and places are in order
pub record WarmLaws (g : Opening) (s : State) (key : ℕ) : Type 0 where
  -- at first, above all levels
  pub first : IsTree g.format (nodes_of s) → IsWarmFrom g s key (suc (nodes_of s 0).level)
  -- a page of the way that is not hot is below
  pub lower : (p n : ℕ) → IsWarmFrom g s key n → p < g.format.pages → covers (s.page p).node key ≡ true → is_hot (s.place p) ≡ false → (s.page p).node.level < n
  -- and when it is hot, the way is so from it up
  pub up : IsTree g.format (nodes_of s) → Residence g s → (p : ℕ) → p < g.format.pages → covers (s.page p).node key ≡ true → is_hot (s.place p) ≡ true → IsWarmFrom g s key (s.page p).node.level

-- at each state, of each key
abbrev pub EveryWarm : Type 0
EveryWarm = (g : Opening) (s : State) (key : ℕ) → WarmLaws g s key
