-- Undo: the changes of the lost are set back by key. A list of entries has the one to be set back first as its first.
use Rattle.std.specs.Prelude.{if◌then◌else◌, ℕ, Bool, ◌&&◌, not, List, [], ◌∷◌}
use Rattle.map_model.specs.Lists.{upd}
use Rattle.page_model.specs.Pairs.{put}
use Rattle.page_model.specs.Nodes.{Format, Node, holds}
use Rattle.page_model.specs.Tree.{lookup}
use Rattle.image_model.specs.Entries.{Entry, is_write}
use Rattle.image_model.specs.Ends.{reach, ended}
use Rattle.image_model.specs.Redo.{Redone}

-- a write that counts, of a transaction that is not ended
abbrev pub is_lost : (logs floor : ℕ) → List Entry → Redone → Entry → Bool
is_lost logs floor z d r = is_write r.kind && (d.counts r.log r.number && not (ended (reach logs floor z) z r))

abbrev pub undo_one : (Entry → Bool) → (ℕ → ℕ) → Entry → ℕ → ℕ
undo_one lost m r = if lost r then upd m r.key r.before else m

-- the words of keys after the lost writes were set back
abbrev pub undo : (Entry → Bool) → List Entry → (ℕ → ℕ) → ℕ → ℕ
undo lost [] m = m
undo lost (r ∷ z) m = undo lost z (undo_one lost m r)

abbrev pub nodes_of : Redone → ℕ → Node
nodes_of d p = (d.page p).node

-- the words of keys that redo leaves
abbrev pub values : Format → Redone → ℕ → ℕ
values f d k = lookup f (nodes_of d) k

-- the same in the leaves: the key's word in the leaf that has it
abbrev pub set_in : ℕ → ℕ → Node → Node
set_in k w v = if holds v k then record v { pairs = put k w v.pairs } else v

abbrev pub undo_node : (Entry → Bool) → List Entry → Node → Node
undo_node lost [] v = v
undo_node lost (r ∷ z) v = undo_node lost z (if lost r then set_in r.key r.before v else v)
