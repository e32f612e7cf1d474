-- How `format` ends, from what it did and what went out.
use Rattle.std.proofs.Common.{◌≡◌, ◌⊎◌, inl, inr, ⊎_elim, ◌<◌, ℕ, refl, sym, ◌∙◌, ap, subst, arith}
use Rattle.buffered_engine.specs.image_model.Fair.{piece}
use Rattle.lean_disk.specs.Area.{Area}
use Rattle.lean_disk.specs.Faults.{HasCause}
use Rattle.lean_disk.specs.Moments.{LeavesOnly}
use Rattle.lean_disk.specs.Story.{IsLawful, Story, Tells}
use Rattle.buffered_engine.specs.lean_edge.Outside.{Held}
use Rattle.buffered_engine.specs.lean_edge.declared.sink.Put.{Put}
use Rattle.buffered_engine.specs.lean_edge.declared.sink.Put.TheVariants as put
use Rattle.lean_shell.specs.Endings.{FinishedPut, FormatEnds, IsFormatStatus, WentOut, finished, last_line, number_of}
use Rattle.lean_disk.specs.Told.{TellsOn, OnlyNotes}
use Rattle.buffered_engine.specs.disk_format.Formatted.{FormatLeaves, HasMaster, HasPages, IsFormatted, IsMaster, IsNewDisk, IsUntouched, Keeps}
use Rattle.lean_shell.specs.declared.failure.Failure.{Failure}
use Rattle.lean_shell.specs.declared.failure.Failure.TheVariants.{Usage, DiskFault, Memory, AlreadyFormatted}
use Rattle.buffered_engine.specs.disk_format.declared.shape.Shape.{Shape}
use Rattle.lean_disk.proofs.MomentLemmas.{started}
use Rattle.buffered_engine.proofs.disk_format.CrashLemmas.{not_touched}
use Rattle.lean_shell.proofs.PutLemmas.{noted_moments, format_of_bytes}

-- each failure has a status of its own
pub same_failure : (f g : Failure) → number_of f ≡ number_of g → f ≡ g
same_failure Usage Usage e = refl
same_failure DiskFault DiskFault e = refl
same_failure Memory Memory e = refl
same_failure AlreadyFormatted AlreadyFormatted e = refl
same_failure Usage DiskFault e = absurd (omega (arith, e))
same_failure Usage Memory e = absurd (omega (arith, e))
same_failure Usage AlreadyFormatted e = absurd (omega (arith, e))
same_failure DiskFault Usage e = absurd (omega (arith, e))
same_failure DiskFault Memory e = absurd (omega (arith, e))
same_failure DiskFault AlreadyFormatted e = absurd (omega (arith, e))
same_failure Memory Usage e = absurd (omega (arith, e))
same_failure Memory DiskFault e = absurd (omega (arith, e))
same_failure Memory AlreadyFormatted e = absurd (omega (arith, e))
same_failure AlreadyFormatted Usage e = absurd (omega (arith, e))
same_failure AlreadyFormatted DiskFault e = absurd (omega (arith, e))
same_failure AlreadyFormatted Memory e = absurd (omega (arith, e))

-- no failure has status 0 or 5
no_failure : (f : Failure) (n : ℕ) → n ≡ number_of f → (n ≡ 0) ⊎ (n ≡ 5) → ⊥
no_failure Usage n e is = ⊎_elim (λ z. omega (arith, e, z)) (λ z. omega (arith, e, z)) is
no_failure DiskFault n e is = ⊎_elim (λ z. omega (arith, e, z)) (λ z. omega (arith, e, z)) is
no_failure Memory n e is = ⊎_elim (λ z. omega (arith, e, z)) (λ z. omega (arith, e, z)) is
no_failure AlreadyFormatted n e is = ⊎_elim (λ z. omega (arith, e, z)) (λ z. omega (arith, e, z)) is

status_known : (f : Failure) (n : ℕ) → n ≡ number_of f → (f ≡ Usage → ⊥) → IsFormatStatus n
status_known Usage n e other = absurd (other refl)
status_known DiskFault n e other = inr (inr (inl e))
status_known Memory n e other = inr (inr (inr (inl e)))
status_known AlreadyFormatted n e other = inr (inr (inr (inr e)))

-- a line that was put ends with 0 or 5
ways : (r : Put) (n : ℕ) → n ≡ finished r → (n ≡ 0) ⊎ (n ≡ 5)
ways put.Done n e = inl e
ways put.Failed n e = inr e

was_failed : (r : Put) (n : ℕ) → n ≡ finished r → n ≡ 5 → r ≡ put.Failed
was_failed put.Done n e five_is = absurd (omega (arith, e, five_is))
was_failed put.Failed n e five_is = refl

module _ (shape : Shape) (s0 s s1 : Story) (law : IsLawful s) (keeps : Keeps s0 s) (run : LeavesOnly s0 s (FormatLeaves shape s0))
    (logs : (a : ℕ) → 1 < a → s.area a ≡ s0.area a) (notes : OnlyNotes s s1) (held0 held1 : Held) (sink0 sink1 disk0 disk1 : ℕ) where
  moments : LeavesOnly s0 s1 (FormatLeaves shape s0)
  moments = noted_moments s0 s s1 (FormatLeaves shape s0) (format_of_bytes shape s0) law keeps.later run notes

  logs_1 : (a : ℕ) → 1 < a → s1.area a ≡ s0.area a
  logs_1 a lt = notes.area a ∙ logs a lt

  on : TellsOn s0 s1
  on = record {
    counts = notes.counts ∙ keeps.counts;
    tells = λ a. notes.tells a ∙ keeps.tells a;
    areas = notes.areas ∙ keeps.areas;
    later = let a = keeps.later in let b = notes.later in omega arith;
  }

  new_1 : IsNewDisk shape s0 s → IsNewDisk shape s0 s1
  new_1 new = record {
    formatted = λ t0 t1.
        let is : IsFormatted shape (λ a. (s.area a).bytes) = new.formatted t0 t1 in
        record {
          master = ap (λ (x : Area). piece 1024 0 x.bytes) (notes.area 0) ∙ is.master;
          no_other = λ m. is.no_other (subst (λ (x : Area). IsMaster 1 (piece 1024 1 x.bytes)) (notes.area 0) m);
          pages = subst (λ (x : Area). HasPages shape.pages x.bytes) (sym (notes.area 1)) is.pages;
        };
    clean = λ a lt told. ap (λ (x : Area). x.unsynced) (notes.area a) ∙ new.clean a lt told;
  }

  pub failed : (f : Failure) (status : ℕ) → status ≡ number_of f → (f ≡ Usage → ⊥) → WentOut (last_line f) held0 held1 sink0 sink1
      → (f ≡ AlreadyFormatted → Tells s0 0 → HasMaster (s0.area 0).bytes) → ((f ≡ Memory) ⊎ (f ≡ AlreadyFormatted) → IsUntouched s0 s) → HasCause disk0 disk1 (f ≡ DiskFault)
      → FormatEnds shape status s0 s1 held0 held1 sink0 sink1 disk0 disk1
  failed f status is no_usage out already same cause = record {
    known = status_known f status is no_usage;
    words = λ e. no_usage (same_failure f Usage (sym is ∙ e));
    cause_write_fault = record { later = out.cause.later; cause = λ e. absurd (no_failure f status is (inr e)) };
    cause_disk_fault = record { later = cause.later; cause = λ e. cause.cause (same_failure f DiskFault (sym is ∙ e)); calm = λ n. cause.calm (λ e. n (is ∙ ap number_of e)) };
    cause_already_formatted = λ e. already (same_failure f AlreadyFormatted (sym is ∙ e));
    no_master = λ e. absurd (no_failure f status is e);
    printed = λ e. absurd (no_failure f status is e);
    failed = λ other e. subst (λ (h : Failure). WentOut (last_line h) held0 held1 sink0 sink1) (same_failure f other (sym is ∙ e)) out;
    after = λ e. absurd (no_failure f status is e);
    same = λ e a. notes.area a ∙ same (⊎_elim (λ z. inl (same_failure f Memory (sym is ∙ z))) (λ z. inr (same_failure f AlreadyFormatted (sym is ∙ z))) e) a;
    logs = logs_1;
    tells_on = on;
    any_moment = moments;
  }

  pub finished_well : (status : ℕ) → FinishedPut shape status held0 held1 sink0 sink1 → IsNewDisk shape s0 s → (Tells s0 0 → HasMaster (s0.area 0).bytes → ⊥) → disk1 ≡ disk0
      → FormatEnds shape status s0 s1 held0 held1 sink0 sink1 disk0 disk1
  finished_well status fin new none same_disk = record {
    known = ⊎_elim inl (λ e. inr (inl e)) (ways fin.answer status fin.status_is);
    words = λ e. ⊎_elim (λ z. omega (arith, e, z)) (λ z. omega (arith, e, z)) (ways fin.answer status fin.status_is);
    cause_write_fault = record { later = fin.cause.later; cause = λ e. fin.cause.cause (was_failed fin.answer status fin.status_is e) };
    cause_disk_fault = record { later = omega (arith, same_disk); cause = λ e. absurd (⊎_elim (λ z. omega (arith, e, z)) (λ z. omega (arith, e, z)) (ways fin.answer status fin.status_is)); calm = λ n. same_disk };
    cause_already_formatted = λ e. absurd (⊎_elim (λ z. omega (arith, e, z)) (λ z. omega (arith, e, z)) (ways fin.answer status fin.status_is));
    no_master = λ e. none;
    printed = λ e. fin;
    failed = λ failure e. absurd (no_failure failure status e (ways fin.answer status fin.status_is));
    after = λ e. new_1 new;
    same = λ e. absurd (⊎_elim
        (λ z. ⊎_elim (λ w. omega (arith, z, w)) (λ w. omega (arith, z, w)) e)
        (λ z. ⊎_elim (λ w. omega (arith, z, w)) (λ w. omega (arith, z, w)) e)
        (ways fin.answer status fin.status_is));
    logs = logs_1;
    tells_on = on;
    any_moment = moments;
  }

-- nothing was done
pub keeps_all : (s : Story) → Keeps s s
keeps_all s = record { notes = refl; tells = λ a. refl; areas = refl; counts = refl; later = omega arith }

-- before the first call
pub unmoved : (shape : Shape) (s : Story) → IsLawful s → LeavesOnly s s (FormatLeaves shape s)
unmoved shape s law = started s (FormatLeaves shape s) law (λ c now. not_touched shape s c now.leaves (now.writes 0))
