-- Room for a key: which nodes on its way from the root are full, and which pages are free.
use Rattle.std.specs.Prelude.{◌≡◌, ◌↔◌, ◌<◌, ◌≤◌, ℕ, zero, suc, Bool, true, false, ◌&&◌, ltb, ◌==◌, List, [], ◌∷◌, length, if◌then◌else◌}
use Rattle.map_model.specs.Lists.{Has}
use Rattle.page_model.specs.Check.{some_below}
use Rattle.page_model.specs.Nodes.{Node, covers}
use Rattle.page_model.specs.Pairs.{Span}
use Rattle.page_model.specs.Tree.{Names, IsTree}
use Rattle.core_crash.specs.core_state.Openings.{Opening}
use Rattle.core_crash.specs.core_state.States.{State, nodes_of}
use Rattle.core_crash.specs.core_state.Events.{Event}
use Rattle.core_crash.specs.core_state.Needs.{may}
use Rattle.core_crash.specs.core_state.Steps.{happens}

-- ## The nodes of the way

-- the node of this level on the key's way is full
abbrev pub is_full_at : Opening → State → (k level : ℕ) → Bool
is_full_at g s k l = some_below g.format.pages (λ p. covers (s.page p).node k && (((s.page p).node.level == l) && (length (s.page p).node.pairs == g.format.room)))

-- of so many levels from this one up, how many nodes of the way are full, one above another
abbrev pub full_from : Opening → State → (k n level : ℕ) → ℕ
full_from g s k zero l = 0
full_from g s k (suc n) l = if is_full_at g s k l then suc (full_from g s k n (suc l)) else 0

-- from the leaf up
abbrev pub full_run : Opening → State → ℕ → ℕ
full_run g s k = full_from g s k (suc g.format.levels) 0

-- all nodes of the way are full, the root too
abbrev pub is_all_full : Opening → State → ℕ → Bool
is_all_full g s k = ltb (nodes_of s 0).level (full_run g s k)

-- how many pages room for the key takes: one for each split, and one for a lift
abbrev pub room_takes : Opening → State → ℕ → ℕ
room_takes g s k = if is_all_full g s k then suc (full_run g s k) else full_run g s k

-- ## Free pages

-- the free ones of so many pages from this one on, in rising order
abbrev pub frees_from : (ℕ → Node) → (n page : ℕ) → List ℕ
frees_from node zero p = []
frees_from node (suc n) p = if (node p).live then frees_from node n (suc p) else p ∷ frees_from node n (suc p)

-- the free pages, the least first
abbrev pub free_list : Opening → State → List ℕ
free_list g s = frees_from (nodes_of s) g.format.pages 0

-- ## Laws

-- the nodes of a key's way by level, up to the root's level h
pub record IsWay (g : Opening) (s : State) (k h : ℕ) (page : ℕ → ℕ) : Type 0 where
  pub root : (nodes_of s 0).level ≡ h
  pub below : (l : ℕ) → l ≤ h → page l < g.format.pages
  pub covers : (l : ℕ) → l ≤ h → covers (s.page (page l)).node k ≡ true
  pub level : (l : ℕ) → l ≤ h → (s.page (page l)).node.level ≡ l

-- what holds of room for a key
pub record RoomLaws (g : Opening) (s : State) (k : ℕ) : Type 0 where
  -- one page above another: the parent, by the pair that names the child
  pub parent : IsTree g.format (nodes_of s) → (q : ℕ) → q < g.format.pages → (z : Span) → Names (nodes_of s q) z → z.low ≤ k → k < z.high →
      (covers (nodes_of s q) k ≡ true) × (covers (nodes_of s z.child) k ≡ true) × (suc (nodes_of s z.child).level ≡ (nodes_of s q).level)
  -- two nodes of a level do not share a key
  pub one : IsTree g.format (nodes_of s) → (p q : ℕ) → p < g.format.pages → q < g.format.pages → covers (nodes_of s p) k ≡ true → covers (nodes_of s q) k ≡ true → (nodes_of s p).level ≡ (nodes_of s q).level → p ≡ q
  -- the run ends at the lowest node that is not full, or with the root
  pub run : IsTree g.format (nodes_of s) → (h : ℕ) (page : ℕ → ℕ) → IsWay g s k h page → (n : ℕ) → n ≤ suc h → ((l : ℕ) → l < n → length (s.page (page l)).node.pairs ≡ g.format.room) →
      (n ≤ h → length (s.page (page n)).node.pairs ≡ g.format.room → ⊥) → full_run g s k ≡ n
  -- the free list: what is in it, and what events make of it
  pub free : (p : ℕ) → Has p (free_list g s) ↔ ((p < g.format.pages) × ((nodes_of s p).live ≡ false))
  pub split : IsTree g.format (nodes_of s) → (w l r q i : ℕ) (rest : List ℕ) → may g s (Event.Split w l r q i) ≡ true → free_list g s ≡ r ∷ rest → free_list g (happens g s (Event.Split w l r q i)) ≡ rest
  pub lift : IsTree g.format (nodes_of s) → (w c : ℕ) (rest : List ℕ) → may g s (Event.Lift w c) ≡ true → free_list g s ≡ c ∷ rest → free_list g (happens g s (Event.Lift w c)) ≡ rest
  pub change : (w p key v : ℕ) → may g s (Event.Change w p key v) ≡ true → free_list g (happens g s (Event.Change w p key v)) ≡ free_list g s
  pub same : (t : State) → ((p : ℕ) → (nodes_of t p).live ≡ (nodes_of s p).live) → free_list g t ≡ free_list g s

-- of each state of any opening, and each key
abbrev pub EveryRoom : Type 0
EveryRoom = (g : Opening) (s : State) (k : ℕ) → RoomLaws g s k
