-- Which writes recovery made.
use Rattle.std.proofs.Common.{◌≡◌, ◌*◌, ◌%◌, ℕ, zero, suc, Bool, true, false, cond, List, ◌∷◌, ◌++◌, map, slice_index_or, sym, ap, ◌∙◌, subst, arith}
use Rattle.page_model.specs.Page.{Page}
use Rattle.lean_disk.specs.Area.{Area, Write, synced, written}
use Rattle.lean_disk.specs.Moments.{Framed}
use Rattle.lean_disk.specs.Story.{Story, areas_of}
use Rattle.master_store.specs.disk_slots.Masters.{master_slot}
use Rattle.master_store.specs.page_store.Laws.{IsRead}
use Rattle.master_store.specs.page_store.Saved.{AreApart, AreSaves, HoldsSaves, IsSpared, Reaches, Save, saved, write_of}
use Rattle.master_store.proofs.page_store.HeldLemmas.{every_read}
use Rattle.recovery.specs.Inside.{IsBased, IsPrepared, IsReadied, OnlySettles, save_of, saves_to}
use Rattle.recovery.specs.Installed.{HasInstalled}
use Rattle.recovery.specs.declared.opening.Recovered.{Recovered}
use Rattle.recovery.specs.declared.prepare.Prepared.{Prepared}
use Rattle.recovery.proofs.FinishLemmas.{cause_of, is_recovery, reaches, saves_has}

-- each page is saved once
module _ (pages : List Page) (slots : List ℕ) (marks : List Bool) where
  spared : (n i : ℕ) → IsSpared n i (saves_to pages slots marks n)
  spared n i s h page slot =
      let m = saves_has pages slots marks n s h in
      let same = ap (λ (x : Save). x.page) m.is in
      let l = m.lt in absurd (omega arith)

  apart : (n : ℕ) → AreApart (saves_to pages slots marks n)
  apart zero = tt
  apart (suc n) = go (apart n) (slice_index_or marks n false)
    where
      go : AreApart (saves_to pages slots marks n) → (b : Bool) → AreApart (cond b (save_of pages slots n ∷ saves_to pages slots marks n) (saves_to pages slots marks n))
      go ih true = (spared n (save_of pages slots n).slot, ih)
      go ih false = ih

module _ (it : Prepared) (readied : IsReadied it) (s0 s4 : Story) (logs : ℕ) (settles : OnlySettles logs s0 s4) (based : IsBased (areas_of s0) it) where
  abbrev these : List Save
  these = saves_to it.pages.items it.slots.items it.marks.items it.master.pages

  module _ (are : AreSaves it.master.pages these) where
    -- the area of the pages when all are saved
    pub read_then : IsRead it.master.pages these (s4.area 1)
    read_then = every_read it.master.pages these (s4.area 1) are (subst (Reaches it.master.pages) (sym (settles.bytes 1)) (reaches it readied (areas_of s0) based))

    pub holds_saves : HoldsSaves it.master.pages (s0.area 1).bytes these (saved these (s4.area 1)).bytes
    holds_saves = subst (λ (b : List ℕ). HoldsSaves it.master.pages b these (saved these (s4.area 1)).bytes) (settles.bytes 1) read_then.holds

    module _ (s6 s7 : Story) (pages_frame : Framed 1 s4 s6) (done : s6.area 1 ≡ synced (saved these (s4.area 1))) (master_frame : Framed 0 s6 s7) (r : Recovered)
        (prepared : IsPrepared (areas_of s0) it) (wrote : s7.area 0 ≡ synced (written (1024 * (r.master.sequence % 2)) (master_slot r.master) (s6.area 0))) where
      area_0 : s6.area 0 ≡ s4.area 0
      area_0 = pages_frame.elsewhere 0 (λ e. absurd (omega arith))

      area_1 : s7.area 1 ≡ synced (saved these (s4.area 1))
      area_1 = master_frame.elsewhere 1 (λ e. absurd (omega arith)) ∙ done

      pub installed : HasInstalled it.master r s0 s7
      installed = record {
        master = ap (λ (x : Area). x.writes) wrote ∙ ap (λ (l : List Write). (1024 * (r.master.sequence % 2), master_slot r.master) ∷ l) (ap (λ (x : Area). x.writes) area_0 ∙ settles.writes 0);
        saves = these;
        are = are;
        apart = apart it.pages.items it.slots.items it.marks.items it.master.pages;
        own = λ x h. let k = (is_recovery it readied (areas_of s0) prepared).saves x h in record { generation = k.generation; page_is = k.page_is; cause = cause_of it readied (areas_of s0) prepared x h };
        pages = ap (λ (x : Area). x.writes) area_1 ∙ (read_then.writes ∙ ap (λ (l : List Write). map write_of these ++ l) (settles.writes 1));
        holds = subst (HoldsSaves it.master.pages (s0.area 1).bytes these) (sym (ap (λ (x : Area). x.bytes) area_1)) holds_saves;
      }
