-- What events tell of a session's transactions: begins, calls, put-backs and ends.
use Rattle.std.specs.Prelude.{ℕ, suc, Bool, true, false, List, [], ◌∷◌, Option, Some, None, if◌then◌else◌}
use Rattle.map_model.specs.Maps.{MapCall, MapAnswer}
use Rattle.core_crash.specs.image_model.Entries.{Entry}
use Rattle.core_crash.specs.image_model.Histories.{write_call}
use Rattle.core_crash.specs.core_state.Openings.{Opening}
use Rattle.core_crash.specs.core_state.States.{State}
use Rattle.core_crash.specs.core_state.Events.{Event}
use Rattle.core_crash.specs.core_state.Local.{is_of}
use Rattle.core_crash.specs.core_state.Needs.{is_held_by, value_in, may}
use Rattle.core_crash.specs.core_state.Steps.{step}

-- A begin, with the transaction's number; a call that was answered, and whether its key's row was held alone; a change that was
-- put back; an end, with the transaction's number and its own.
pub data Mark : Type 0 where
  Began : (number : ℕ) → Mark
  Called : (call : MapCall) → (answer : MapAnswer) → (alone : Bool) → Mark
  Back : (call : MapCall) → (answer : MapAnswer) → Mark
  Ended : (commit : Bool) → (number at : ℕ) → Mark

-- a write is answered the value before it
abbrev pub was_in : Opening → State → (p k : ℕ) → MapAnswer
was_in g s p k = MapAnswer.Was (value_in g.format (s.page p).node k)

-- a key's value in its leaf
abbrev pub found_in : Opening → State → (w p k : ℕ) → Mark
found_in g s w p k = Called (MapCall.Get k) (MapAnswer.Value (value_in g.format (s.page p).node k)) (is_held_by (s.row (g.row_of k)).holder w)

-- a pair that follows was found; of a gap nothing is told
abbrev pub met_in : Opening → State → (w p : ℕ) → MapAnswer → Option Mark
met_in g s w p (MapAnswer.Pair k v) = Some (found_in g s w p k)
met_in g s w p _ = None

-- the newest change is put back
abbrev pub back_in : Opening → State → (p : ℕ) → List Entry → Option Mark
back_in g s p [] = None
back_in g s p (c ∷ cs) = Some (Back (write_call g.format c.key c.before) (was_in g s p c.key))

-- what an event tells of its session
abbrev pub mark : Opening → State → Event → Option Mark
mark g s (Event.Begin w f) = Some (Began (suc (s.worker w).txn))
mark g s (Event.Read w p k a) = Some (found_in g s w p k)
mark g s (Event.Next w p k a) = met_in g s w p a
mark g s (Event.Change w p k v) = Some (Called (write_call g.format k v) (was_in g s p k) true)
mark g s (Event.Put_back w p) = back_in g s p (s.worker w).changes
mark g s (Event.End w commit f) = Some (Ended commit (s.worker w).txn (suc (s.worker w).clock))
mark g s _ = None

-- one more, if it is one
abbrev pub onto : {A : Type 0} → Option A → List A → List A
onto None earlier = earlier
onto (Some x) earlier = x ∷ earlier

-- what events tell of session w, put before what was told: the newest first
abbrev pub marks : Opening → State → List Event → (w : ℕ) → List Mark → List Mark
marks g s [] w earlier = earlier
marks g s (e ∷ es) w earlier = marks g (step g s e) es w (if may g s e then (if is_of e w then onto (mark g s e) earlier else earlier) else earlier)

-- a change was put back, and the transaction has not ended since
abbrev pub is_half : List Mark → Bool
is_half [] = false
is_half (Began n ∷ earlier) = false
is_half (Ended commit n at ∷ earlier) = false
is_half (Back c a ∷ earlier) = true
is_half (Called c a alone ∷ earlier) = is_half earlier
