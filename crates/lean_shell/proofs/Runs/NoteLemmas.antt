-- A line that is put changes no area, and adds no crash but by its note.
use Rattle.std.proofs.Common.{◌≡◌, inl, refl, sym, subst, arith}
use Rattle.lean_disk.specs.Calls.{Noted}
use Rattle.lean_disk.specs.Story.{Story}
use Rattle.lean_disk.specs.Told.{TellsSame, OnlyNotes}
use Rattle.buffered_engine.specs.lean_edge.declared.sink.Put.{Put}
use Rattle.buffered_engine.specs.lean_edge.declared.sink.Put.TheVariants.{Done, Failed}

pub tells_same : (s : Story) → TellsSame s s
tells_same s = record { counts = refl; tells = λ a. refl; areas = refl; area = λ a. refl; notes = refl; moment = refl; past = λ m c left. left; keeps = λ m c left. left }

pub put_same : {D : Type 0} (story : D → Story) (old new : D) (r : Put) → (r ≡ Failed → new ≡ old) → r ≡ Failed → TellsSame (story old) (story new)
put_same story old new r same is = subst (λ d. TellsSame (story old) (story d)) (sym (same is)) (tells_same (story old))

no_notes : (old new : Story) → TellsSame old new → OnlyNotes old new
no_notes old new t = record { area = t.area; tells = t.tells; areas = t.areas; counts = t.counts; later = (let e = t.moment in omega arith); nothing_else = λ m c left. inl (t.past m c left) }

a_note : (old new : Story) → Noted old new → OnlyNotes old new
a_note old new n = record { area = n.area; tells = n.tells; areas = n.areas; counts = n.counts; later = n.later; nothing_else = n.nothing_else }

pub put_notes : (old new : Story) (r : Put) → (r ≡ Done → Noted old new) → (r ≡ Failed → TellsSame old new) → OnlyNotes old new
put_notes old new Done noted same = a_note old new (noted refl)
put_notes old new Failed noted same = no_notes old new (same refl)
