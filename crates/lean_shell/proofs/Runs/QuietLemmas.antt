-- What a crash leaves of a disk of a run before a call is answered.
use Rattle.std.proofs.Common.{◌≡◌, ◌⊎◌, inl, inr, ⊎_elim, ◌+◌, ℕ, suc, List, [], length, Option, Some, refl, sym, ◌∙◌, ap, subst, arith, codes}
use mathlib.Core.Path.{fun_ext}
use Rattle.map_model.specs.Lists.{Has}
use Rattle.map_model.specs.Transcripts as model
use Rattle.buffered_engine.specs.image_model.Fair.{IsFair}
use Rattle.buffered_engine.specs.image_model.Images.{map_of, won_by}
use Rattle.lean_disk.specs.Area.{Leaves}
use Rattle.lean_disk.specs.Moments.{AsAt}
use Rattle.lean_disk.specs.Story.{Crash, Story, areas_of}
use Rattle.buffered_engine.specs.disk_slots.declared.master.Master.{Master}
use Rattle.buffered_engine.specs.core_calls.Fronts.{Done}
use Rattle.buffered_engine.specs.core_state.Openings.{Opening}
use Rattle.buffered_engine.specs.disk_image.Fair.{IsFairCrash}
use Rattle.buffered_engine.specs.disk_image.Masters.{IsOfRun}
use Rattle.buffered_engine.specs.disk_image.MasterSlots.{master_on}
use Rattle.buffered_engine.specs.disk_image.Shown.{Areas, DiskStandsFor, IsCleanDisk, image_by}
use Rattle.buffered_engine.specs.recovery.Crashes.{Lasts, RecoveryLeaves, ShowsStill, StandsStill}
use Rattle.buffered_engine.specs.recovery.Masters.{IsSameOrNext}
use Rattle.transcripts.specs.Transcripts.{first_lines, transcript, IsQuiet}
use Rattle.lean_shell.specs.Crashes.{IsUnwritten, MasterLeaves}
use Rattle.lean_shell.specs.Headline.{RunLeaves}
use Rattle.lean_shell.specs.Starts.{IsOfOpening}
use Rattle.buffered_engine.specs.paged_engine.declared.opening.Size.{Size}
use Rattle.lean_shell.specs.Inside.Lefts.{IsSameBut, Lives, LivesOn}
use Rattle.lean_shell.proofs.Runs.NearLemmas.{near_still}

pub run_leaves : (size : Size) (AreIts : Opening → List Done → Option Done → Type 0) (m : Master) (s : Story) (input put : List ℕ) (c : Crash) → LivesOn size AreIts m s input put c → RunLeaves m s input put c
run_leaves size AreIts m s input put c (inl u) = inl u
run_leaves size AreIts m s input put c (inr l) = inr (λ fair. (l fair).survives)

pub master_leaves : (size : Size) (AreIts : Opening → List Done → Option Done → Type 0) (m : Master) (s : Story) (input put : List ℕ) (c : Crash) → LivesOn size AreIts m s input put c → MasterLeaves size AreIts m s input put c
master_leaves size AreIts m s input put c (inl u) = inl u
master_leaves size AreIts m s input put c (inr l) = inr (λ fair. (l fair).master)

-- what the disk shows is by the same master or the one of the opening
made_of : (m n : Master) (area image : Areas) → ShowsStill m area n image → (n ≡ m) ⊎ IsOfOpening m area n
made_of m n area image (inl same) = inl same.0
made_of m n area image (inr next) = inr (record { first = n; next = next.is; events = []; later = record { sequence = omega arith; most = omega arith; generation = refl; pages = refl; blocks = refl; logs = refl } })

-- the next master is of the run that began with the other
of_run : (m n : Master) → IsSameOrNext m n → IsOfRun m n
of_run m n same = ⊎_elim
    (λ (e : n ≡ m). record { pages = same.pages; blocks = same.blocks; logs = same.logs; generation = inl (ap (λ (x : Master). x.generation) e); sequence = let q : n.sequence ≡ m.sequence = ap (λ (x : Master). x.sequence) e in omega arith })
    (λ (e : (n.sequence ≡ suc m.sequence) × (n.generation ≡ suc m.generation)). record { pages = same.pages; blocks = same.blocks; logs = same.logs; generation = inr e.1; sequence = let q : n.sequence ≡ suc m.sequence = e.0 in omega arith })
    same.numbers

module _ (size : Size) (AreIts : Opening → List Done → Option Done → Type 0) (m : Master) (s : Story) (clean : IsCleanDisk m (areas_of s)) (input put : List ℕ) (lines : ℕ) (quiet : IsQuiet (length m.heads) input (first_lines lines put)) where
  unwritten : (c d : Crash) → IsSameBut c d → d.notes ≡ s.notes + lines → AsAt s c → IsUnwritten m s input put d
  unwritten c d same notes at = record {
    lines = lines;
    notes = notes;
    quiet = quiet;
    writes = λ a told. same.writes a ∙ at.writes a told;
    leaves = λ a told. subst (Leaves (s.area a)) (sym (same.image a)) (at.leaves a told);
  }

  lasts : (c d : Crash) → IsSameBut c d → d.notes ≡ s.notes + lines → Lasts m s c → IsFairCrash (length m.heads) s d → Lives size AreIts m s input put d
  lasts c d same notes l fair =
      let masters = fair.masters l.masters (same.writes 0 ∙ l.masters_are) in
      let pages = fair.pages l.pages (same.writes 1 ∙ l.pages_are) in
      let still : StandsStill m (areas_of s) c.image = l.stands (subst (λ (b : List ℕ). IsFair 1024 (Rattle.buffered_engine.specs.disk_slots.Slots.IsSealed (codes "LEANMAST")) (s.area 0).bytes l.masters b) (same.image 0) masters)
      (subst (λ (b : List ℕ). IsFair 1024 (Rattle.buffered_engine.specs.disk_slots.Slots.IsSealed (codes "LEANPAGE")) (s.area 1).bytes l.pages b) (same.image 1) pages) in
      let images : d.image ≡ c.image = fun_ext same.image in
      let none : model.journal (transcript (length m.heads) input (first_lines lines put)) ≡ [] = ap model.journal quiet.transcript_is in
      record {
        master = record { n = still.next; counts = subst (λ (i : Areas). master_on (i 0) ≡ Some still.next) (sym images) still.clean.master; is = made_of m still.next (areas_of s) c.image still.shows; left = inl (record { lines = lines; notes = notes; quiet = quiet; shows = subst (λ (i : Areas). ShowsStill m (areas_of s) still.next i) (sym images) still.shows }) };
        survives = record {
          lines = lines;
          notes = notes;
          by_then = [];
          by_then_is = inl (sym none);
          serial = tt;
          falls = tt;
          numbers = λ r has commit u there. absurd there;
          n = still.next;
          of_run = of_run m still.next still.same;
          near = near_still m s d still.next still.same (subst (λ (i : Areas). ShowsStill m (areas_of s) still.next i) (sym images) still.shows);
          clean = subst (IsCleanDisk still.next) (sym images) still.clean;
          kept_ones = [];
          kept_is = refl;
          closed = λ t u h. absurd h;
          stands = subst (λ (i : Areas). DiskStandsFor still.next i (map_of (image_by m (areas_of s))) (won_by (image_by still.next i))) (sym images)
              (record {
                master = still.clean.master;
                readable = still.clean.readable;
                stands = record { sound = still.clean.clean.sound; map = λ k. sym (still.map k); won = refl };
              });
          reported = λ name h. absurd (subst (Has name) quiet.durables_are h);
        };
      }

  pub quiet_leaves : (c d : Crash) → IsSameBut c d → d.notes ≡ s.notes + lines → RecoveryLeaves m s c → LivesOn size AreIts m s input put d
  quiet_leaves c d same notes (inl at) = inl (unwritten c d same notes at)
  quiet_leaves c d same notes (inr l) = inr (lasts c d same notes l)
