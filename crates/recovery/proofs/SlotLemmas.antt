-- The slots that recovery gives, where the disk told of its pages.
use Rattle.std.proofs.Common.{◌≡◌, ◌<◌, ◌≤◌, ℕ, false, List, length, get_or, Some, slice_get, IsTrue, refl, sym, ◌∙◌, ap, subst, arith}
use Rattle.lean_disk.specs.Area.{Area, synced}
use Rattle.lean_disk.specs.Moments.{Framed}
use Rattle.lean_disk.specs.Story.{Story, Tells, areas_of}
use Rattle.lean_disk.specs.declared.disk.Did.{Did}
use Rattle.lean_disk.specs.declared.disk.Did.TheVariants.{Done}
use Rattle.page_model.specs.Page.{Page}
use Rattle.master_store.specs.disk_slots.declared.master.Master.{Master}
use Rattle.master_store.specs.disk_image.Shown.{page_slot_in}
use Rattle.master_store.specs.page_store.Runs.{IsReady}
use Rattle.master_store.specs.page_store.Saved.{HoldsSaves, Save, saved}
use Rattle.recovery.specs.Inside.{IsBased, IsReadied, IsTurned, OnlySettles, SavesAll, saves_to}
use Rattle.recovery.specs.Masters.{next_master}
use Rattle.recovery.specs.Opened.{Counts, HasSlots, IsSettled}
use Rattle.recovery.specs.declared.opening.Recovered.{Recovered}
use Rattle.recovery.specs.declared.prepare.Prepared.{Prepared}
use Rattle.recovery.proofs.CountLemmas.{counts, is_within, latest}
use Rattle.recovery.proofs.FinishLemmas.{page_at}
use Rattle.recovery.proofs.InstallLemmas.{holds_saves}

module _ (it : Prepared) (readied : IsReadied it) (s0 s4 : Story) (logs : ℕ) (settles : OnlySettles logs s0 s4) (told : Tells s0 1) (first : IsSettled (s4.area 1)) (based : IsBased (areas_of s0) it)
    (seated : IsTrue s4.counts → Tells s4 1) (s6 : Story) (result : Did)
    (saves : IsReady 1 s4 → SavesAll it.master.pages s4 (saves_to it.pages.items it.slots.items it.marks.items it.master.pages) result s6) (done : result ≡ Done) (s7 : Story) (frame : Framed 0 s6 s7) where
  abbrev these : List Save
  these = saves_to it.pages.items it.slots.items it.marks.items it.master.pages

  all : SavesAll it.master.pages s4 these result s6
  all = saves (record { seated = seated; clean = λ _. record { clean = first.clean; end = first.end } })

  area_1 : s7.area 1 ≡ synced (saved these (s4.area 1))
  area_1 = frame.elsewhere 1 (λ e. absurd (omega arith)) ∙ all.done done (settles.tells 1 ∙ told)

  holds : HoldsSaves it.master.pages (s0.area 1).bytes these (s7.area 1).bytes
  holds = subst (HoldsSaves it.master.pages (s0.area 1).bytes these) (sym (ap (λ (x : Area). x.bytes) area_1)) (holds_saves it readied s0 s4 logs settles based (all.are done))

  module _ (r : Recovered) (pages : r.pages ≡ it.pages) (master : r.master ≡ next_master it.master it.base) (long : length it.ahead.items ≡ it.master.pages)
      (turns : IsTurned it.marks.items it.ahead.items it.slots.items r.slots.items) where
    many : r.master.pages ≡ it.master.pages
    many = ap (λ (k : Master). k.pages) master

    counts_at : (p : ℕ) (v : Page) → slice_get it.pages.items p ≡ Some v → Counts it.master.pages (s7.area 1).bytes p (get_or r.slots.items p 0) v
    counts_at p v e =
        let lt : p < it.master.pages = is_within it readied (areas_of s0) based (areas_of s7) holds p v e in
        subst (λ (i : ℕ). Counts it.master.pages (s7.area 1).bytes p i v) (sym (turns.each p (let c : length it.slots.items ≡ it.master.pages = readied.places in omega arith)))
        (counts it readied (areas_of s0) based (areas_of s7) holds p v e (get_or it.ahead.items p false) (based.ahead p (omega arith)))

    pub has_slots : HasSlots r s7
    has_slots = record {
      counts = λ p v e. subst (λ (n : ℕ). Counts n (s7.area 1).bytes p (get_or r.slots.items p 0) v) (sym many) (counts_at p v (ap (λ xs. slice_get xs.items p) (sym pages) ∙ e));
      latest = λ p i y lt li e.
          let v = page_at it readied p (let m = many in omega arith) in
          let low = latest it readied (areas_of s0) based (areas_of s7) holds p v.0 v.1 i y li (ap (λ (n : ℕ). page_slot_in n p i (s7.area 1).bytes) (sym many) ∙ e) in
          subst (λ (k : Master). y.generation ≤ k.generation) (sym master) low;
      settled = subst IsSettled (sym area_1) (record { clean = refl; end = refl });
    }
