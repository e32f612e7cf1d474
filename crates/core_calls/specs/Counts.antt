-- How a session's transactions are counted, and how they are undone.
use Rattle.std.specs.Prelude.{◌≡◌, ◌<◌, ℕ, suc, false, List, [], ◌∷◌, Option, Some, None}
use Rattle.map_model.specs.Maps.{MapCall, MapAnswer}
use Rattle.core_crash.specs.core_state.Openings.{Opening}
use Rattle.core_crash.specs.core_state.Events.{Event}
use Rattle.core_calls.specs.Marks.{Mark, Began, Called, Back, Ended}
use Rattle.core_calls.specs.Deeds.{Outcome, marks_by, Answers}

-- how many transactions began
abbrev pub begun_in : List Mark → ℕ
begun_in [] = 0
begun_in (Began n ∷ earlier) = suc (begun_in earlier)
begun_in (_ ∷ earlier) = begun_in earlier

-- the number is above those of all ends
abbrev pub IsAbove : ℕ → List Mark → Type 0
IsAbove at [] = Unit {0}
IsAbove at (Ended commit n a ∷ earlier) = IsAbove at earlier × (a < at)
IsAbove at (_ ∷ earlier) = IsAbove at earlier

-- A change: its key, and the value before it.
pub record Undo : Type 0 where
  pub key : ℕ
  pub value : Option ℕ

-- a call that changes a key, put before the changes
abbrev pub undo_onto : MapCall → MapAnswer → List Undo → List Undo
undo_onto (MapCall.Put k v) (MapAnswer.Was a) us = record { key = k; value = a } ∷ us
undo_onto (MapCall.Del k) (MapAnswer.Was a) us = record { key = k; value = a } ∷ us
undo_onto c a us = us

-- but for the newest
abbrev pub without_first : List Undo → List Undo
without_first [] = []
without_first (u ∷ us) = us

-- the changes of the open transaction that were not put back, the newest first
abbrev pub undo_in : List Mark → List Undo
undo_in [] = []
undo_in (Began n ∷ earlier) = []
undo_in (Ended commit n at ∷ earlier) = []
undo_in (Called c a alone ∷ earlier) = undo_onto c a (undo_in earlier)
undo_in (Back c a ∷ earlier) = without_first (undo_in earlier)

-- the call that gives a key this value, or none
abbrev pub value_call : ℕ → Option ℕ → MapCall
value_call k (Some v) = MapCall.Put k v
value_call k None = MapCall.Del k

-- c puts back the newest change
abbrev pub UndoesNewest : MapCall → List Undo → Type 0
UndoesNewest c [] = ⊥
UndoesNewest c (u ∷ us) = c ≡ value_call u.key u.value

-- Begins are counted from 1, an end has the number of the last begin, the numbers of ends rise; each put-back puts back the newest change
-- that is left, and an abort comes when none is left.
abbrev pub AreOrdered : List Mark → Type 0
AreOrdered [] = Unit {0}
AreOrdered (Began n ∷ earlier) = AreOrdered earlier × (n ≡ suc (begun_in earlier))
AreOrdered (Called c a alone ∷ earlier) = AreOrdered earlier
AreOrdered (Back c a ∷ earlier) = AreOrdered earlier × UndoesNewest c (undo_in earlier)
AreOrdered (Ended commit n at ∷ earlier) = AreOrdered earlier × (n ≡ begun_in earlier) × IsAbove at earlier × (commit ≡ false → undo_in earlier ≡ [])

-- so are those of each session's outcomes
abbrev pub EveryOrdered : Type 0
EveryOrdered = (g : Opening) (es : List Event) (xs : List Outcome) → Answers g es xs → (w : ℕ) → AreOrdered (marks_by w xs)
