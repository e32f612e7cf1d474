-- What a del of a live key does to the tree before it changes the key.
use Rattle.std.specs.Prelude.{◌≡◌, ◌+◌, ◌-◌, ℕ, zero, suc, Bool, false, ◌&&◌, ◌||◌, not, leb, ltb, ◌==◌, List, [], ◌∷◌, length, Option, Some, None, if◌then◌else◌}
use Rattle.map_model.specs.Lists.{any}
use Rattle.map_model.specs.declared.call.Call.{Call}
use Rattle.map_model.specs.declared.call.Call.TheVariants as call
use Rattle.page_model.specs.Check.{is_nil}
use Rattle.page_model.specs.Nodes.{covers}
use Rattle.page_model.specs.Pairs.{Pair}
use Rattle.page_model.specs.Redo.{is_some}
use Rattle.core_commit.specs.core_state.Events.{Event}
use Rattle.core_commit.specs.core_state.Needs.{value_in}
use Rattle.core_commit.specs.core_state.Openings.{Opening}
use Rattle.core_commit.specs.core_state.States.{State, nodes_of}
use Rattle.core_commit.specs.core_state.Steps.{step}
use Rattle.core_calls.specs.Steps.{is_structure}
use Rattle.tidy_rules.specs.Purges.{purgeable}
use Rattle.tidy_rules.specs.Rooms.{MakesRoom}

-- ## Pages

-- a page is thin with so many pairs, or with fewer
abbrev pub thin_most : ℕ
thin_most = 15

-- the page of this level on the key's way, among the first n
abbrev pub page_among : State → (key level n : ℕ) → Option ℕ
page_among s key l zero = None
page_among s key l (suc n) = if covers (nodes_of s n) key && ((nodes_of s n).level == l) then Some n else page_among s key l n

abbrev pub page_at : Opening → State → (key level : ℕ) → Option ℕ
page_at g s key l = page_among s key l g.format.pages

-- it is not the root, and is thin
abbrev pub is_thin : State → Option ℕ → Bool
is_thin s None = false
is_thin s (Some p) = not (p == 0) && leb (length (nodes_of s p).pairs) thin_most

-- The leaf is not the root, has a value for the key, and is thin without the tombstones that nobody can need.
abbrev pub is_thin_leaf : Opening → State → (key : ℕ) → Option ℕ → Bool
is_thin_leaf g s key None = false
is_thin_leaf g s key (Some p) = not (p == 0) && (is_some (value_in g.format (nodes_of s p) key) && leb (length (nodes_of s p).pairs) (thin_most + length (purgeable g s (nodes_of s p).pairs)))

-- ## Joins and the drop

-- two pages beside each other
pub record Sisters : Type 0 where
  pub left : ℕ
  pub right : ℕ

-- those that are joined where this page of a parent with these pairs is thin: it and the next one; where it is the last, the one before it and itself
abbrev pub sisters : List Pair → (p : ℕ) → Option Sisters
sisters [] p = None
sisters (x ∷ []) p = None
sisters (x ∷ y ∷ ys) p = if (x.word == p) || ((y.word == p) && is_nil ys) then Some (record { left = x.word; right = y.word }) else sisters (y ∷ ys) p

-- they are joined under page q, if both together have few pairs enough
abbrev pub join_of : (own : ℕ) → Opening → State → (q : ℕ) → Option Sisters → Option Event
join_of own g s q None = None
join_of own g s q (Some b) = if leb (length (nodes_of s b.left).pairs + length (nodes_of s b.right).pairs) g.joined then Some (Event.Join own b.left b.right q) else None

-- the join of a page, whose parent is the other one
abbrev pub join_under : (own : ℕ) → Opening → State → (page parent : Option ℕ) → Option Event
join_under own g s (Some p) (Some q) = join_of own g s q (sisters (nodes_of s q).pairs p)
join_under own g s _ _ = None

-- the drop of the root's one child, where it has one
abbrev pub drop_of : (own : ℕ) → List Pair → Option Event
drop_of own (x ∷ []) = Some (Event.Drop own x.word)
drop_of own _ = None

abbrev pub next_drop : (own : ℕ) → State → Option Event
next_drop own s = if ltb 0 (nodes_of s 0).level then drop_of own (nodes_of s 0).pairs else None

-- ## The way up

-- the first event, if there is one, or else the second
abbrev pub first_of : (a b : Option Event) → Option Event
first_of (Some e) b = Some e
first_of None b = b

-- From this level up, over so many levels: the lowest join of a page of the key's way. The walk ends at the first page that is not thin; behind it comes the drop.
abbrev pub next_up : (own : ℕ) → Opening → State → (key n level : ℕ) → Option Event
next_up own g s key zero l = next_drop own s
next_up own g s key (suc n) l = if is_thin s (page_at g s key l) then first_of (join_under own g s (page_at g s key l) (page_at g s key (suc l))) (next_up own g s key n (suc l)) else next_drop own s

-- ## Step by step

-- How far a tidying has come: nothing was done; the leaf was thin, and all below this level is done; it is over.
pub data Stage : Type 0 where
  Before : Stage
  From : (level : ℕ) → Stage
  Over : Stage

-- the purge of these keys of a leaf, if there are any, or else this event
abbrev pub purge_or : (own : ℕ) → (leaf : Option ℕ) → List ℕ → Option Event → Option Event
purge_or own (Some p) (k ∷ ks) e = Some (Event.Purge own p (k ∷ ks))
purge_or own _ _ e = e

-- the keys that go of a leaf
abbrev pub purgeable_in : Opening → State → (leaf : Option ℕ) → List ℕ
purgeable_in g s None = []
purgeable_in g s (Some p) = purgeable g s (nodes_of s p).pairs

-- The next change of the tree, if one is left. Where the leaf of a live key is thin without the tombstones that nobody can need, these go, all with one
-- purge; then each level is joined where it is thin, whether or not the one below was; last comes the drop. A page of the greatest level is the root, which
-- is not joined.
abbrev pub next_tidy : (own : ℕ) → Opening → State → (key : ℕ) → Stage → Option Event
next_tidy own g s key Stage.Before =
    if is_thin_leaf g s key (page_at g s key 0) then purge_or own (page_at g s key 0) (purgeable_in g s (page_at g s key 0)) (next_up own g s key g.format.levels 0) else None
next_tidy own g s key (Stage.From l) = next_up own g s key (g.format.levels - l) l
next_tidy own g s key Stage.Over = None

-- how far it has come behind an event
abbrev pub behind : State → Stage → Event → Stage
behind s at (Event.Purge w p keys) = Stage.From 0
behind s at (Event.Join w l r q) = Stage.From (nodes_of s q).level
behind s at (Event.Drop w c) = Stage.Over
behind s at (Event.Change w p k v) = Stage.Over
behind s at e = at

-- each change of the tree is the next one, and the key is changed where none is left
abbrev pub IsNextTidy : (own : ℕ) → Opening → State → (key : ℕ) → Stage → Event → Type 0
IsNextTidy own g s key at (Event.Purge w p keys) = next_tidy own g s key at ≡ Some (Event.Purge w p keys)
IsNextTidy own g s key at (Event.Join w l r q) = next_tidy own g s key at ≡ Some (Event.Join w l r q)
IsNextTidy own g s key at (Event.Drop w c) = next_tidy own g s key at ≡ Some (Event.Drop w c)
IsNextTidy own g s key at (Event.Split w l r q i) = ⊥
IsNextTidy own g s key at (Event.Lift w c) = ⊥
IsNextTidy own g s key at (Event.Change w p k v) = next_tidy own g s key at ≡ None
IsNextTidy own g s key at e = Unit {0}

-- so does each event, at its place
abbrev pub Tidies : (own : ℕ) → Opening → State → (key : ℕ) → Stage → List Event → Type 0
Tidies own g s key at [] = Unit {0}
Tidies own g s key at (e ∷ es) = IsNextTidy own g s key at e × Tidies own g (step g s e) key (behind s at e) es

-- a put of session `own` makes room for its key, a del tidies, and every other call leaves the tree as it is
abbrev pub ChangesTree : (own : ℕ) → Opening → State → Call → List Event → Type 0
ChangesTree own g s (call.Put key value) es = MakesRoom own g s key es
ChangesTree own g s (call.Del key) es = Tidies own g s key Stage.Before es
ChangesTree own g s _ es = any is_structure es ≡ false
