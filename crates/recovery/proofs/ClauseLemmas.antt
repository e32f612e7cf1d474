-- What recovery's clauses say, from what its steps say.
use Rattle.std.proofs.Common.{◌≡◌, ◌<◌, ◌≤◌, ◌*◌, ◌%◌, ◌^◌, ℕ, Bool, true, false, List, length, get_or, Some, slice_get, IsTrue, sym, ◌∙◌, ap, subst, inl, inr, arith}
use Rattle.std.proofs.lemmas.Option.{slice_get_within}
use Rattle.page_model.specs.Tree.{IsTree}
use Rattle.lean_disk.specs.Area.{synced, written}
use Rattle.lean_disk.specs.Moments.{AsAt, CrashIn, Framed, LeavesOnly}
use Rattle.lean_disk.specs.Story.{Story, Tells, areas_of}
use Rattle.lean_disk.specs.declared.disk.Did.{Did}
use Rattle.lean_disk.specs.declared.disk.Did.TheVariants.{Done}
use Rattle.lean_disk.proofs.MomentLemmas.{then, weaker}
use Rattle.master_store.specs.disk_slots.Masters.{master_slot, IsMaster}
use Rattle.master_store.specs.disk_slots.declared.master.Master.{Master}
use Rattle.master_store.specs.disk_image.MasterSlots.{master_on}
use Rattle.master_store.specs.disk_image.Shown.{IsCleanDisk, image_by}
use Rattle.master_store.specs.page_store.Runs.{IsReady}
use Rattle.master_store.specs.page_store.Saved.{LeavesSaves, Save}
use Rattle.record_redo.specs.Pages as redo_images
use Rattle.recovery.specs.Crashes.{RecoveryLeaves}
use Rattle.recovery.specs.Inside.{AreSettled, IsPrepared, IsReadied, IsTurned, OnlySettles, SavesAll, saves_to, turned}
use Rattle.master_store.specs.Masters.{IsOfSlot, WritesOnce}
use Rattle.recovery.specs.Masters.{IsOpenable, next_master}
use Rattle.recovery.specs.Installed.{HasInstalled}
use Rattle.recovery.specs.Opened.{IsOpened, IsRecovered, IsWhole, IsGreatest}
use Rattle.recovery.specs.Telling.{TellsAll}
use Rattle.recovery.specs.declared.opening.Recovered.{Recovered}
use Rattle.recovery.specs.declared.prepare.Prepared.{Prepared}
use Rattle.recovery.proofs.InstallLemmas.{installed}
use Rattle.recovery.proofs.LastLemmas.{opened, saving, writing}
use Rattle.master_store.proofs.SlotLemmas.{master_is, slot_of}
use Rattle.recovery.proofs.MasterLemmas.{valid_next}
use Rattle.master_store.specs.disk_image.Formats.{format_of}
use Rattle.node_tree.specs.Nodes.{nodes_of}

-- nothing was written
pub settled_moments : (m : Master) (logs : ℕ) (s0 s : Story) → OnlySettles logs s0 s → LeavesOnly s0 s (RecoveryLeaves m s0)
settled_moments m logs s0 s settles = weaker s0 s (AsAt s0) (RecoveryLeaves m s0) (λ c at. inl at) settles.any_moment

module _ {most : ℕ} (it : Prepared) (readied : IsReadied it) (openable : IsOpenable most it.master) (s0 s4 : Story) (logs : ℕ) (settles : OnlySettles logs s0 s4) (t : TellsAll most s0) (all : AreSettled most (length it.master.heads) s0 s4) (prepared : IsPrepared (areas_of s0) it)
    (m : Master) (seated : IsTrue s4.counts → Tells s4 1) where
  abbrev these : List Save
  these = saves_to it.pages.items it.slots.items it.marks.items it.master.pages

  ready : IsReady 1 s4
  ready = record { seated = seated; clean = λ told. let e = all t 1 (omega arith) in record { clean = e.clean; end = e.end } }

  told_1 : Tells s4 1
  told_1 = settles.tells 1 ∙ t.pages

  -- ## Which writes it made

  pub installs : master_on (areas_of s0 0) ≡ Some m → (s6 : Story) (result : Did) → (IsReady 1 s4 → SavesAll it.master.pages s4 these result s6) → result ≡ Done → (s7 : Story) → Framed 0 s6 s7 → (r : Recovered)
      → s7.area 0 ≡ synced (written (1024 * (r.master.sequence % 2)) (master_slot r.master) (s6.area 0)) → HasInstalled m r s0 s7
  installs counts s6 result saves done s7 frame r wrote = subst (λ (k : Master). HasInstalled k r s0 s7) (master_is it.master m (sym prepared.master ∙ counts))
      (installed it readied s0 s4 logs settles prepared.based ((saves ready).are done) s6 s7 (saves ready).run.frame ((saves ready).done done told_1) frame r prepared wrote)

  -- ## Of a clean disk

  module _ (clean_m : IsCleanDisk m (areas_of s0)) where
    -- the master that was chosen is the disk's
    same_master : it.master ≡ m
    same_master = master_is it.master m (sym prepared.master ∙ clean_m.master)

    clean : IsCleanDisk it.master (areas_of s0)
    clean = subst (λ (k : Master). IsCleanDisk k (areas_of s0)) (sym same_master) clean_m

    module _ (s6 : Story) (result : Did) (saves : IsReady 1 s4 → SavesAll it.master.pages s4 these result s6) where
      saving_moments : LeavesOnly s0 s6 (RecoveryLeaves it.master s0)
      saving_moments = then s0 s4 s6 (RecoveryLeaves it.master s0) (settled_moments it.master logs s0 s4 settles)
          (weaker s4 s6 (CrashIn s4 1 (LeavesSaves it.master.pages (s4.area 1) these)) (RecoveryLeaves it.master s0)
          (λ c at. inr (saving it readied openable s0 s4 logs settles t (all t) prepared clean c at)) (saves ready).run.any_moment)

      pub saved_moments : LeavesOnly s0 s6 (RecoveryLeaves m s0)
      saved_moments = subst (λ (k : Master). LeavesOnly s0 s6 (RecoveryLeaves k s0)) same_master saving_moments

      module _ (done : result ≡ Done) (wide : it.base < 2 ^ 64) (next : Master) (next_is : next ≡ next_master it.master it.base) (s7 : Story) where
        abbrev place : ℕ
        place = 1024 * slot_of (next_master it.master it.base)

        pub written_moments : LeavesOnly s6 s7 (CrashIn s6 0 (WritesOnce (1024 * (next.sequence % 2)) (master_slot next) (s6.area 0))) → LeavesOnly s0 s7 (RecoveryLeaves m s0)
        written_moments run = subst (λ (k : Master). LeavesOnly s0 s7 (RecoveryLeaves k s0)) same_master (then s0 s6 s7 (RecoveryLeaves it.master s0) saving_moments
            (weaker s6 s7 (CrashIn s6 0 (WritesOnce (1024 * slot_of (next_master it.master it.base)) (master_slot (next_master it.master it.base)) (s6.area 0))) (RecoveryLeaves it.master s0)
            (λ c at. inr (writing it readied openable s0 s4 logs settles t (all t) prepared clean s6 (saves ready).run.frame ((saves ready).are done) ((saves ready).done done told_1) wide c at))
            (subst (λ (k : Master). LeavesOnly s6 s7 (CrashIn s6 0 (WritesOnce (1024 * (k.sequence % 2)) (master_slot k) (s6.area 0)))) next_is run)))

        pub opens : Framed 0 s6 s7 → s7.area 0 ≡ synced (written (1024 * (next.sequence % 2)) (master_slot next) (s6.area 0)) → (r : Recovered) → r.pages ≡ it.pages → r.master ≡ next
            → length it.ahead.items ≡ it.master.pages → IsTurned it.marks.items it.ahead.items it.slots.items r.slots.items → IsOpened m (areas_of s0) r s7
        opens frame wrote r pages is marks turns = subst (λ (k : Master). IsOpened k (areas_of s0) r s7) same_master
            (opened it readied openable s0 s4 logs settles t (all t) prepared clean s6 (saves ready).run.frame ((saves ready).are done) ((saves ready).done done told_1) wide s7 frame
            (subst (λ (k : Master). s7.area 0 ≡ synced (written (1024 * (k.sequence % 2)) (master_slot k) (s6.area 0))) next_is wrote) r pages (is ∙ next_is) marks turns)

-- ## The answer

module _ {most : ℕ} (it : Prepared) (readied : IsReadied it) (openable : IsOpenable most it.master) (r : Recovered) (pages : r.pages ≡ it.pages) (winners : r.winners ≡ it.winners) (undone : r.undone ≡ it.undone) (master : r.master ≡ next_master it.master it.base) where
  pub answers : (s0 : Story) → IsPrepared (areas_of s0) it → (m : Master) × IsOpenable most m × IsRecovered m (areas_of s0) r
  answers s0 prepared = (
    it.master,
    openable,
    record {
      sound = prepared.sound;
      count = ap (λ v. length v.items) pages ∙ readied.count;
      page = λ p v e.
          let e2 : slice_get it.pages.items p ≡ Some v = ap (λ xs. slice_get xs.items p) (sym pages) ∙ e in
          let l : p < it.master.pages = (let w : p < length it.pages.items = slice_get_within it.pages.items p v e2 in let c : length it.pages.items ≡ it.master.pages = readied.count in omega arith) in
          record { own = readied.own p v e2; is = sym (ap redo_images.page_or e2) ∙ prepared.pages p l; saved = readied.saved p v e2 };
      won = winners ∙ prepared.won;
      lost = undone ∙ prepared.lost;
      base = subst (λ (k : Master). IsGreatest (image_by it.master (areas_of s0)) k.floor) (sym master) prepared.greatest;
      master = master ∙ ap (next_master it.master) (sym (ap (λ (k : Master). k.floor) master));
    },
  )

  pub wholes : it.base < 2 ^ 64 → IsTurned it.marks.items it.ahead.items it.slots.items r.slots.items → IsWhole r
  wholes wide turns = record {
    count = ap (λ v. length v.items) pages ∙ (readied.count ∙ sym (ap (λ (k : Master). k.pages) master));
    places = turns.count ∙ (readied.places ∙ sym (ap (λ (k : Master). k.pages) master));
    halves = λ p l.
        let lt : p < it.master.pages = subst (λ (k : Master). p < k.pages) master l in
        subst (λ (i : ℕ). i < 2) (sym (turns.each p (let c : length it.slots.items ≡ it.master.pages = readied.places in omega arith)))
        (turned_half (get_or it.marks.items p false) (get_or it.ahead.items p false) (get_or it.slots.items p 0) (readied.halves p lt));
    own = λ p v e. readied.own p v (ap (λ xs. slice_get xs.items p) (sym pages) ∙ e);
    tree = subst (λ (k : Master). IsTree (format_of k.pages) (nodes_of r.pages.items)) (sym master)
        (subst (λ xs. IsTree (format_of it.master.pages) (nodes_of xs.items)) (sym pages) readied.tree);
    numbers = λ p v e. subst (λ (k : Master). v.gsn ≤ k.floor) (sym master) (readied.numbers p v (ap (λ xs. slice_get xs.items p) (sym pages) ∙ e));
    logs = λ p v e. readied.logs p v (ap (λ xs. slice_get xs.items p) (sym pages) ∙ e);
    master = subst IsOfSlot (sym master) (slot_of (next_master it.master it.base), next_master_valid);
  }
    where
      turned_half : (on a : Bool) (i : ℕ) → i < 2 → turned on a i < 2
      turned_half true a i h = omega arith
      turned_half false true i h = omega arith
      turned_half false false i h = h

      next_master_valid : IsMaster (slot_of (next_master it.master it.base)) (next_master it.master it.base)
      next_master_valid = valid_next it.master it.base (readied.valid.0, readied.valid.1) openable wide
