-- Which slot of a page counts when the marked pages are saved, where the disk told of its pages.
use Rattle.std.proofs.Common.{◌≡◌, ◌⊎◌, ◌<◌, ◌≤◌, ◌-◌, ℕ, suc, Bool, true, false, List, length, get_or, Some, slice_get, slice_index_or, refl, sym, ◌∙◌, ap, inl, inr, ⊎_elim, arith, true≢false}
use Rattle.std.proofs.lemmas.Bool.{cases_Bool, cases_eq, cases_lt}
use Rattle.std.proofs.lemmas.Option.{slice_get_within, same_Some}
use Rattle.page_model.specs.Page.{Page}
use Rattle.master_store.specs.disk_image.Shown.{Areas, page_slot_in}
use Rattle.master_store.specs.page_store.Bases.{IsAhead, IsBase, YieldsTo}
use Rattle.master_store.specs.page_store.Saved.{HoldsOne, HoldsSaves, IsSpared, Save}
use Rattle.recovery.specs.Inside.{IsBased, IsReadied, IsStray, page_or, save_of, saves_to, turned}
use Rattle.recovery.specs.Opened.{Counts}
use Rattle.recovery.specs.declared.prepare.Prepared.{Prepared}
use Rattle.recovery.proofs.FinishLemmas.{IsMarked, has_saves, old_at, saves_has}

module _ (it : Prepared) (readied : IsReadied it) (area : Areas) (based : IsBased area it) (image : Areas)
    (holds : HoldsSaves it.master.pages (area 1) (saves_to it.pages.items it.slots.items it.marks.items it.master.pages) (image 1))
    (p : ℕ) (v : Page) (there : slice_get it.pages.items p ≡ Some v) where
  abbrev these : List Save
  these = saves_to it.pages.items it.slots.items it.marks.items it.master.pages

  abbrev slot : ℕ
  slot = get_or it.slots.items p 0

  pub is_within : p < it.master.pages
  is_within = let w : p < length it.pages.items = slice_get_within it.pages.items p v there in let c : length it.pages.items ≡ it.master.pages = readied.count in omega arith

  half : get_or it.slots.items p 0 < 2
  half = readied.halves p is_within

  -- ## The base's slot is never saved to

  old : (b : Page) × (slice_get based.old p ≡ Some b)
  old = old_at it readied area based p is_within

  was : IsBase it.master p area (record { node = old.0; slot = get_or it.slots.items p 0 })
  was = based.bases p old.0 old.1

  base_spared : IsSpared p (get_or it.slots.items p 0) these
  base_spared s has at in_slot =
      let k = saves_has it.pages.items it.slots.items it.marks.items it.master.pages s has in
      let same : k.p ≡ p = sym (ap (λ (x : Save). x.page) k.is) ∙ at in
      let spare : s.slot ≡ 1 - get_or it.slots.items k.p 0 = ap (λ (x : Save). x.slot) k.is in
      let here : get_or it.slots.items k.p 0 ≡ get_or it.slots.items p 0 = ap (λ (i : ℕ). get_or it.slots.items i 0) same in
      let h : get_or it.slots.items p 0 < 2 = half in
      omega (arith, spare, here, h, in_slot)

  base_stays : page_slot_in it.master.pages p slot (image 1) ≡ Some old.0
  base_stays = holds.other p (get_or it.slots.items p 0) half base_spared ∙ was.there

  -- ## A marked page is saved to the other one

  pub saved_there : slice_index_or it.marks.items p false ≡ true → page_slot_in it.master.pages p (1 - get_or it.slots.items p 0) (image 1) ≡ Some v
  saved_there on =
      let h : HoldsOne it.master.pages these p (1 - get_or it.slots.items p 0) (image 1) =
      holds.each (save_of it.pages.items it.slots.items p) (has_saves it.pages.items it.slots.items it.marks.items it.master.pages p is_within on) in
      h.there ∙ ap Some (node h.save h.page_is (saves_has it.pages.items it.slots.items it.marks.items it.master.pages h.save h.has))
    where
      node : (s : Save) → s.page ≡ p → IsMarked it.pages.items it.slots.items it.marks.items it.master.pages s → s.node ≡ v
      node s at k =
          let same : k.p ≡ p = sym (ap (λ (x : Save). x.page) k.is) ∙ at in
          ap (λ (x : Save). x.node) k.is ∙ (ap (λ (q : ℕ). page_or q (slice_get it.pages.items q)) same ∙ ap (page_or p) there)

  -- ## Any other stands where it stood

  module _ (off : slice_index_or it.marks.items p false ≡ false) where
    spared : (j : ℕ) → IsSpared p j these
    spared j s has at in_slot =
        let k = saves_has it.pages.items it.slots.items it.marks.items it.master.pages s has in
        let same : k.p ≡ p = sym (ap (λ (x : Save). x.page) k.is) ∙ at in
        true≢false (sym k.mark ∙ (ap (λ (q : ℕ). slice_index_or it.marks.items q false) same ∙ off))

    pub stays : (j : ℕ) → j < 2 → page_slot_in it.master.pages p j (image 1) ≡ page_slot_in it.master.pages p j (area 1)
    stays j l = holds.other p j l (spared j)

    here : slice_get based.old p ≡ Some v
    here = sym (based.same p off) ∙ there

    pub base : IsBase it.master p area (record { node = v; slot = get_or it.slots.items p 0 })
    base = based.bases p v here

    again : IsStray it.master p area (record { node = v; slot = get_or it.slots.items p 0 }) false
    again = based.again p v off here

  -- ## Which slot counts

  abbrev CountsAt : ℕ → Type 0
  CountsAt at = Counts it.master.pages (image 1) p at v

  flip : 1 - get_or it.slots.items p 0 < 2
  flip = omega arith

  -- beside a page of a later generation the base does not count
  base_yields : (x : Page) → it.master.generation < x.generation → (y : Page) → page_slot_in it.master.pages p (1 - (1 - slot)) (image 1) ≡ Some y → YieldsTo (record { node = x; slot = 1 - slot }) y
  base_yields x late y e =
      let back : 1 - (1 - slot) ≡ slot = (let h : get_or it.slots.items p 0 < 2 = half in omega arith) in
      let same : old.0 ≡ y = same_Some old.0 y (sym base_stays ∙ (ap (λ (i : ℕ). page_slot_in it.master.pages p i (image 1)) (sym back) ∙ e)) in
      inl (inl (let g = ap (λ (z : Page). z.generation) same in let l : old.0.generation ≤ it.master.generation = was.own.generation in omega arith))

  saved_counts : slice_index_or it.marks.items p false ≡ true → CountsAt (1 - slot)
  saved_counts on = record { node = v; there = saved_there on; is = refl; other = base_yields v (let new = based.stamped p v on there in omega arith) }

  ahead_counts : slice_index_or it.marks.items p false ≡ false → IsAhead it.master p area slot true → CountsAt (1 - slot)
  ahead_counts off is = record { node = is.0; there = stays off (1 - slot) flip ∙ is.1; is = (again off is.0 is.1 is.2).1; other = base_yields is.0 is.2 }

  base_counts : slice_index_or it.marks.items p false ≡ false → IsAhead it.master p area slot false → CountsAt slot
  base_counts off is = record {
    node = v;
    there = stays off slot half ∙ (base off).there;
    is = refl;
    other = λ y e. let stood = sym (stays off (1 - slot) flip) ∙ e in (base off).yields y stood (is y stood);
  }

  pub counts : (ahead : Bool) → IsAhead it.master p area slot ahead → CountsAt (turned (slice_index_or it.marks.items p false) ahead slot)
  counts ahead is = go (slice_index_or it.marks.items p false) refl ahead is
    where
      go : (on : Bool) → slice_index_or it.marks.items p false ≡ on → (a : Bool) → IsAhead it.master p area slot a → CountsAt (turned on a slot)
      go true e a is = saved_counts e
      go false e true is = ahead_counts e is
      go false e false is = base_counts e is

  -- ## No slot is of a later generation than the next master's

  other_latest : (y : Page) → page_slot_in it.master.pages p (1 - slot) (image 1) ≡ Some y → y.generation ≤ suc it.master.generation
  other_latest y e = ⊎_elim
      (λ (on : slice_index_or it.marks.items p false ≡ true).
      let same : v ≡ y = same_Some v y (sym (saved_there on) ∙ e) in
      let g = ap (λ (z : Page). z.generation) same in let new = based.stamped p v on there in omega arith)
      (λ (off : slice_index_or it.marks.items p false ≡ false). unmarked off (cases_lt it.master.generation y.generation))
      (cases_Bool (slice_index_or it.marks.items p false))
    where
      unmarked : slice_index_or it.marks.items p false ≡ false → (it.master.generation < y.generation) ⊎ (y.generation ≤ it.master.generation) → y.generation ≤ suc it.master.generation
      unmarked off (inl late) = let k = (again off y (sym (stays off (1 - slot) flip) ∙ e) late).0 in omega arith
      unmarked off (inr low) = omega arith

  pub latest : (j : ℕ) (y : Page) → j < 2 → page_slot_in it.master.pages p j (image 1) ≡ Some y → y.generation ≤ suc it.master.generation
  latest j y l e = ⊎_elim
      (λ (q : j ≡ slot).
      let same : old.0 ≡ y = same_Some old.0 y (sym base_stays ∙ (ap (λ (i : ℕ). page_slot_in it.master.pages p i (image 1)) (sym q) ∙ e)) in
      let g = ap (λ (z : Page). z.generation) same in let low : old.0.generation ≤ it.master.generation = was.own.generation in omega arith)
      (λ (ne : j ≡ slot → ⊥).
      let q : j ≡ 1 - slot = (let h : get_or it.slots.items p 0 < 2 = half in omega (arith, ne, l, h)) in
      other_latest y (ap (λ (i : ℕ). page_slot_in it.master.pages p i (image 1)) (sym q) ∙ e))
      (cases_eq j slot)
