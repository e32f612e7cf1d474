-- `format` as a whole, from what reading, the pages and the master each say.
use Rattle.std.proofs.Common.{◌≡◌, inl, inr, ⊎_elim, ◌<◌, ◌≤◌, ◌+◌, ◌-◌, ℕ, zero, suc, List, [], ◌∷◌, ◌++◌, length, take, drop, replicate, refl, sym, ◌∙◌, ap, subst, arith}
use Rattle.std.proofs.lemmas.Bool.{cases_eq}
use Rattle.std.proofs.lemmas.List.{take_at, drop_at}
use Rattle.master_store.specs.image_model.Fair.{piece}
use Rattle.lean_disk.specs.Area.{Area, Leaves, put_over, synced, written}
use Rattle.lean_disk.specs.Moments.{AsAt, LeavesOnly, Framed, CrashIn, OnlyReads}
use Rattle.lean_disk.specs.Story.{Crash, Story, Tells}
use Rattle.lean_disk.proofs.MomentLemmas.{then, weaker}
use Rattle.master_store.specs.Masters.{WritesOnce}
use Rattle.disk_format.specs.Formatted.{Anything, HasMaster, HasPages, HasSyncedPages, IsMaster, IsNewDisk, IsUntouched, FormatLeaves, Keeps}
use Rattle.disk_format.specs.Fresh.{first_slot}
use Rattle.disk_format.specs.declared.shape.Shape.{Shape}
use Rattle.disk_format.proofs.FreshLemmas.{length-first_slot}
use Rattle.disk_format.proofs.CrashLemmas.{not_touched, besides_pages, with_master}

positive : (a : ℕ) → (a ≡ 0 → ⊥) → 0 < a
positive zero other = absurd (other refl)
positive (suc a) other = omega arith

module _ (shape : Shape) (s0 s1 : Story) (still : OnlyReads s0 s1) where
  -- reading changes no area
  pub same_1 : IsUntouched s0 s1
  same_1 = still.area

  pub read_moments : LeavesOnly s0 s1 (FormatLeaves shape s0)
  read_moments = weaker s0 s1 (AsAt s0) (FormatLeaves shape s0) (λ c was. not_touched shape s0 c was.leaves (was.writes 0)) still.any_moment

  module _ (few : shape.workers ≤ 16) (none : Tells s0 0 → HasMaster (s0.area 0).bytes → ⊥) (s2 : Story) (laying : LeavesOnly s1 s2 (CrashIn s1 1 Anything)) (frame : Framed 1 s1 s2) where
    told_1 : (a : ℕ) → Tells s0 a → Tells s1 a
    told_1 a told = still.tells a ∙ told

    leaves_1 : (c : Crash) (a : ℕ) → Leaves (s1.area a) (c.image a) → Leaves (s0.area a) (c.image a)
    leaves_1 c a = subst (λ (x : Area). Leaves x (c.image a)) (same_1 a)

    lay_moments : LeavesOnly s1 s2 (FormatLeaves shape s0)
    lay_moments = weaker s1 s2 (CrashIn s1 1 Anything) (FormatLeaves shape s0)
        (λ c in_1. besides_pages shape s0 c few none
        (λ a lt told. leaves_1 c a (in_1.leaves a (λ e. absurd (omega (arith, e, lt))) (told_1 a told)))
        (λ t0. in_1.writes 0 (λ e. absurd (omega (arith, e))) (told_1 0 t0) ∙ ap (λ (x : Area). x.writes) (same_1 0)))
        laying

    pub pages_moments : LeavesOnly s0 s2 (FormatLeaves shape s0)
    pages_moments = then s0 s1 s2 (FormatLeaves shape s0) read_moments lay_moments

    pub same_2 : (a : ℕ) → (a ≡ 1 → ⊥) → s2.area a ≡ s0.area a
    same_2 a other = frame.elsewhere a other ∙ same_1 a

    pub keeps_2 : Keeps s0 s2
    keeps_2 = record {
      notes = frame.notes ∙ still.notes;
      tells = λ a. frame.tells a ∙ still.tells a;
      areas = frame.areas ∙ still.areas;
      counts = frame.counts ∙ still.counts;
      later = omega (arith, frame.later, still.later);
    }

    module _ (synced_pages : Tells s2 1 → HasSyncedPages shape.pages (s2.area 1)) (s3 : Story)
        (writing : LeavesOnly s2 s3 (CrashIn s2 0 (WritesOnce 0 (first_slot shape) (s2.area 0)))) (frame3 : Framed 0 s2 s3) where
      told_2 : (a : ℕ) → Tells s0 a → Tells s2 a
      told_2 a told = frame.tells a ∙ told_1 a told

      area_0 : s2.area 0 ≡ s0.area 0
      area_0 = same_2 0 (λ e. absurd (omega (arith, e)))

      master_moments : LeavesOnly s2 s3 (FormatLeaves shape s0)
      master_moments = weaker s2 s3 (CrashIn s2 0 (WritesOnce 0 (first_slot shape) (s2.area 0))) (FormatLeaves shape s0)
          (λ c in_0. with_master shape s0 c few none
          (λ a lt told. subst (λ (x : Area). Leaves x (c.image a)) (same_2 a (λ e. absurd (omega (arith, e, lt)))) (in_0.leaves a (λ e. absurd (omega (arith, e, lt))) (told_2 a told)))
          (λ t0. ⊎_elim
          (λ e. inl (e ∙ ap (λ (x : Area). x.writes) area_0))
          (λ e. inr (e ∙ ap (λ (x : Area). (0, first_slot shape) ∷ x.writes) area_0))
          in_0.here.writes_are)
          (λ t1. let t2 : Tells s2 1 = told_2 1 t1 in
          let leaves : Leaves (s2.area 1) (c.image 1) = in_0.leaves 1 (λ e. absurd (omega (arith, e))) t2 in
          subst (HasPages shape.pages) (sym (leaves.clean (synced_pages t2).clean)) (synced_pages t2).fresh))
          writing

      pub all_moments : LeavesOnly s0 s3 (FormatLeaves shape s0)
      all_moments = then s0 s2 s3 (FormatLeaves shape s0) pages_moments master_moments

      pub keeps_3 : Keeps s0 s3
      keeps_3 = record {
        notes = frame3.notes ∙ keeps_2.notes;
        tells = λ a. frame3.tells a ∙ keeps_2.tells a;
        areas = frame3.areas ∙ keeps_2.areas;
        counts = frame3.counts ∙ keeps_2.counts;
        later = omega (arith, frame3.later, keeps_2.later);
      }

      pub logs_3 : (a : ℕ) → 1 < a → s3.area a ≡ s0.area a
      logs_3 a lt = frame3.elsewhere a (λ e. absurd (omega (arith, e, lt))) ∙ same_2 a (λ e. absurd (omega (arith, e, lt)))

      -- the slot stands in front, and behind it what stood there
      slots : (old : List ℕ) → put_over 0 (first_slot shape) old ≡ first_slot shape ++ drop 1024 old
      slots old =
          let none_before : 0 - length old ≡ 0 = omega arith in
          let behind : 0 + length (first_slot shape) ≡ 1024 = omega (arith, length-first_slot shape few) in
          let slot : List ℕ = first_slot shape in
          ap (λ (n : ℕ). replicate n 0 ++ slot ++ drop (0 + length slot) old) none_before ∙ ap (λ (n : ℕ). slot ++ drop n old) behind

      no_second : (old : List ℕ) → IsMaster 1 (piece 1024 1 (put_over 0 (first_slot shape) old)) → IsMaster 1 (piece 1024 1 old)
      no_second old m = subst (λ (bs : List ℕ). IsMaster 1 (take 1024 bs)) (ap (drop 1024) (slots old) ∙ drop_at (first_slot shape) (drop 1024 old) 1024 (length-first_slot shape few)) m

      -- all is written and synced
      pub new_disk : (Tells s3 0 → s3.area 0 ≡ synced (written 0 (first_slot shape) (s2.area 0))) → IsNewDisk shape s0 s3
      new_disk is = record {
        formatted = λ t0 t1.
            let pages : HasSyncedPages shape.pages (s2.area 1) = synced_pages (told_2 1 t1) in
            let bytes_0 : (s3.area 0).bytes ≡ put_over 0 (first_slot shape) (s0.area 0).bytes = ap (λ (x : Area). x.bytes) (is (keeps_3.tells 0 ∙ t0)) ∙ ap (λ (x : Area). put_over 0 (first_slot shape) x.bytes) area_0 in
            record {
              master = ap (take 1024) (bytes_0 ∙ slots (s0.area 0).bytes) ∙ take_at (first_slot shape) (drop 1024 (s0.area 0).bytes) 1024 (length-first_slot shape few);
              no_other = λ m. none t0 (inr (no_second (s0.area 0).bytes (subst (λ (bs : List ℕ). IsMaster 1 (piece 1024 1 bs)) bytes_0 m)));
              pages = subst (λ (x : Area). HasPages shape.pages x.bytes) (sym (frame3.elsewhere 1 (λ e. absurd (omega (arith, e))))) pages.fresh;
            };
        clean = λ a lt told. ⊎_elim
            (λ (e : a ≡ 0). subst (λ (b : ℕ). (s3.area b).unsynced ≡ []) (sym e) (ap (λ (x : Area). x.unsynced) (is (keeps_3.tells 0 ∙ subst (Tells s0) e told))))
            (λ (other : a ≡ 0 → ⊥). let one : a ≡ 1 = omega (arith, lt, positive a other) in
            subst (λ (b : ℕ). (s3.area b).unsynced ≡ []) (sym one) (ap (λ (x : Area). x.unsynced) (frame3.elsewhere 1 (λ e. absurd (omega (arith, e)))) ∙ (synced_pages (told_2 1 (subst (Tells s0) one told))).clean))
            (cases_eq a 0);
      }
