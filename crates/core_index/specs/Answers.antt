-- The calls of all sessions and their answers, in the order in which they happened; and the map that the pages hold.
use Rattle.map_model.specs.Maps.{Map, MapCall, MapAnswer, IsMap}
use Rattle.map_model.specs.Histories.{Step, last_write, over, IsLegal}
use Rattle.page_model.specs.Tree.{IsTree, value}
use Rattle.core_commit.specs.image_model.Entries.{Entry}
use Rattle.core_commit.specs.image_model.Histories.{write_call}
use Rattle.core_commit.specs.core_state.States.{State, start, nodes_of}
use Rattle.core_commit.specs.core_state.Openings.{Opening}
use Rattle.core_commit.specs.core_state.Events.{Event}
use Rattle.core_commit.specs.core_state.Needs.{value_in, may}
use Rattle.core_commit.specs.core_state.Steps.{step, run}
use Rattle.std.specs.Prelude.{◌≡◌, ℕ, true, List, [], ◌∷◌, if◌then◌else◌}

-- a write is answered the value before it
abbrev pub write_told : Opening → State → (w p k v : ℕ) → Step
write_told g s w p k v = record { session = w; call = write_call g.format k v; answer = MapAnswer.Was (value_in g.format (s.page p).node k) }

-- the newest change is put back
abbrev pub put_back_told : Opening → State → (w p : ℕ) → List Entry → List Step → List Step
put_back_told g s w p [] earlier = earlier
put_back_told g s w p (c ∷ cs) earlier = write_told g s w p c.key c.before ∷ earlier

-- the calls with that of an event, if it is one
abbrev pub told : Opening → State → Event → List Step → List Step
told g s (Event.Read w p k a) earlier = record { session = w; call = MapCall.Get k; answer = MapAnswer.Value a } ∷ earlier
told g s (Event.Peek w p k a) earlier = record { session = w; call = MapCall.Get k; answer = MapAnswer.Value a } ∷ earlier
told g s (Event.Next w p k a) earlier = record { session = w; call = MapCall.Next k; answer = a } ∷ earlier
told g s (Event.Change w p k v) earlier = write_told g s w p k v ∷ earlier
told g s (Event.Put_back w p) earlier = put_back_told g s w p (s.worker w).changes earlier
told g s _ earlier = earlier

-- of a list of events, those that may happen
abbrev pub history : Opening → State → List Event → List Step → List Step
history g s [] earlier = earlier
history g s (e ∷ es) earlier = history g (step g s e) es (if may g s e then told g s e earlier else earlier)

-- the map that the pages of a state hold: the union of all leaf pairs without tombstones
abbrev pub map_in : Opening → State → Map
map_in g s k = value g.format (nodes_of s) k

-- Where the opening is faithful, the calls are a legal history from the map of the start.
abbrev pub EveryLegal : Type 0
EveryLegal = (g : Opening) → g.faithful ≡ true → (es : List Event) → IsLegal (map_in g (start g)) (history g (start g) es [])

-- The pages hold a map, and where the opening is faithful it is the one after these calls.
pub record Holds (g : Opening) (es : List Event) : Type 0 where
  pub map : g.faithful ≡ true → (k : ℕ) → map_in g (run g (start g) es) k ≡ over (map_in g (start g)) (last_write (history g (start g) es [])) k
  pub ranges : IsMap (map_in g (run g (start g) es))

-- so after every list of events
abbrev pub EveryMap : Type 0
EveryMap = (g : Opening) (es : List Event) → Holds g es

-- They are a tree, each page well formed.
abbrev pub EveryTree : Type 0
EveryTree = (g : Opening) (es : List Event) → IsTree g.format (nodes_of (run g (start g) es))
