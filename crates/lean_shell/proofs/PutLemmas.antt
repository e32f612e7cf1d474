-- A line that is put changes no area, and adds no crash but by its note.
use Rattle.std.proofs.Common.{◌≡◌, inl, inr, ⊎_elim, ◌≤◌, ◌-◌, ℕ, List, length, take, refl, sym, ◌∙◌, ap, subst, arith}
use Rattle.lean_disk.specs.Area.{Area, Leaves, Write}
use Rattle.lean_disk.specs.Calls.{Noted}
use Rattle.lean_disk.specs.Moments.{LeavesOnly}
use Rattle.lean_disk.specs.Story.{Crash, IsLawful, LeavesNow, Story}
use Rattle.lean_disk.proofs.MomentLemmas.{goes_on_by}
use Rattle.buffered_engine.specs.lean_edge.declared.sink.Put.{Put}
use Rattle.buffered_engine.specs.lean_edge.declared.sink.Put.TheVariants.{Done, Failed}
use Rattle.buffered_engine.specs.image_model.Fair.{piece, IsFair}
use Rattle.buffered_engine.specs.disk_format.Formatted.{FormatLeaves, HasFairMasters, HasMaster, HasPages, IsFormatted, IsMaster, IsSealedMaster, writes_since}
use Rattle.lean_disk.specs.Told.{OnlyNotes}
use Rattle.buffered_engine.specs.disk_format.declared.shape.Shape.{Shape}

no_notes : (s : Story) → OnlyNotes s s
no_notes s = record { area = λ a. refl; tells = λ a. refl; areas = refl; counts = refl; later = omega arith; nothing_else = λ m c left. inl left }

a_note : (old new : Story) → Noted old new → OnlyNotes old new
a_note old new n = record { area = n.area; tells = n.tells; areas = n.areas; counts = n.counts; later = n.later; nothing_else = n.nothing_else }

pub put_notes : {D : Type 0} (story : D → Story) (old new : D) (r : Put) → (r ≡ Done → Noted (story old) (story new)) → (r ≡ Failed → new ≡ old) → OnlyNotes (story old) (story new)
put_notes story old new Done noted same = a_note (story old) (story new) (noted refl)
put_notes story old new Failed noted same = subst (λ d. OnlyNotes (story old) (story d)) (sym (same refl)) (no_notes (story old))

-- what is said of the bytes and the writes alone
pub record IsOfBytes (P : Crash → Type 0) : Type 0 where
  pub same : (c d : Crash) → ((a : ℕ) → d.image a ≡ c.image a) → ((a : ℕ) → d.writes a ≡ c.writes a) → P c → P d

-- what holds at every moment still does when a line was noted
pub noted_moments : (old mid new : Story) (P : Crash → Type 0) → IsOfBytes P → IsLawful mid → old.moment ≤ mid.moment → LeavesOnly old mid P → OnlyNotes mid new → LeavesOnly old new P
noted_moments old mid new P of_bytes law later run notes = goes_on_by old mid new P run notes.nothing_else
    (λ c now.
    let then : Crash = record { notes = mid.notes; writes = c.writes; image = c.image } in
    let was : LeavesNow mid then = record {
      counts = sym notes.counts ∙ now.counts;
      notes = refl;
      writes = λ a told. now.writes a (notes.tells a ∙ told) ∙ ap_writes (notes.area a);
      leaves = λ a told. subst (λ (x : Area). Leaves x (c.image a)) (notes.area a) (now.leaves a (notes.tells a ∙ told));
    } in
    of_bytes.same then c (λ a. refl) (λ a. refl) (run.each mid.moment then later (law.counts_now then was)))
  where
    ap_writes : {x y : Area} → x ≡ y → x.writes ≡ y.writes
    ap_writes e = ap (λ (x : Area). x.writes) e

pub format_of_bytes : (shape : Shape) (s : Story) → IsOfBytes (FormatLeaves shape s)
format_of_bytes shape s = record {
  same = λ c d images writes is. record {
    logs = λ a lt told. subst (Leaves (s.area a)) (sym (images a)) (is.logs a lt told);
    untouched = λ t0 has a told. subst (Leaves (s.area a)) (sym (images a)) (is.untouched t0 has a told);
    formatted = λ t0 t1 fair none.
        let since : writes_since s 0 d ≡ writes_since s 0 c = ap (λ (ws : List Write). take (length ws - length (s.area 0).writes) ws) (writes 0) in
        let fair_0 : IsFair 1024 IsSealedMaster (s.area 0).bytes (writes_since s 0 c) (d.image 0) = subst (λ (ws : List Write). IsFair 1024 IsSealedMaster (s.area 0).bytes ws (d.image 0)) since fair in
        let fair_c : HasFairMasters s c = subst (λ (bs : List ℕ). IsFair 1024 IsSealedMaster (s.area 0).bytes (writes_since s 0 c) bs) (images 0) fair_0 in
        ⊎_elim
        (λ (no : HasMaster (c.image 0) → ⊥). inl (subst (λ (bs : List ℕ). HasMaster bs → ⊥) (sym (images 0)) no))
        (λ (yes_ : IsFormatted shape c.image). inr (record {
          master = ap (piece 1024 0) (images 0) ∙ yes_.master;
          no_other = λ m. yes_.no_other (subst (λ (bs : List ℕ). IsMaster 1 (piece 1024 1 bs)) (images 0) m);
          pages = subst (HasPages shape.pages) (sym (images 1)) yes_.pages;
        }))
        (is.formatted t0 t1 fair_c none);
  };
}
