-- Behind the recovery of a disk that tells of its pages the slot that is given for a page holds it, and is on the disk.
use Rattle.std.proofs.Common.{◌≡◌, ◌<◌, ◌≤◌, ◌+◌, ℕ, zero, suc, List, [], ◌∷◌, length, map, get_or, Some, slice_get, refl, sym, ap, ◌∙◌, subst, arith}
use Rattle.std.proofs.lemmas.Option.{none-some, same_Some, slice_get-get_or}
use Rattle.page_model.specs.Nodes.{free}
use Rattle.page_model.specs.Page.{Page, new_page}
use Rattle.lean_disk.specs.Area.{Area, IsApart}
use Rattle.lean_disk.specs.Story.{Story, Tells}
use Rattle.session_state.specs.disk_image.PageSlots.{page_in}
use Rattle.session_state.specs.row_words.declared.given.Given.{Given}
use Rattle.session_state.specs.rows_trait.Views.{first_plain, state}
use Rattle.session_state.specs.rows_trait.declared.view.View.{View}
use Rattle.session_state.specs.page_store.Bases.{image_page}
use Rattle.session_state.specs.page_store.Laws.{EveryWhole}
use Rattle.session_state.specs.page_store.Saved.{Reaches, place_of}
use Rattle.session_state.specs.page_store.Slots.{slot_bytes}
use Rattle.page_calls.specs.declared.slots.Slot.{Slot}
use Rattle.page_calls.specs.Slots.{last_slot, opened_slot}
use Rattle.page_calls.specs.Mirrors.{IsMirror, IsOnDisk, Mirrors}
use Rattle.page_provider.specs.Providers.{Provider}
use Rattle.session_state.specs.row_opening.Rooted.{IsRooted}
use Rattle.recovery.specs.Opened.{Counts, HasSlots, IsSettled, IsWhole}
use Rattle.recovery.specs.declared.opening.Recovered.{Recovered}
use Rattle.paged_opening.specs.Opened.{HasOpened, given_by}
use Rattle.paged_opening.specs.declared.opening.Opened as code
use Rattle.paged_opening.proofs.PageLemmas.{page_is}

-- ## Slots that are made of firm ones

pub opened_length : (ns : List ℕ) → length (map opened_slot ns) ≡ length ns
opened_length [] = refl
opened_length (x ∷ ns) = ap suc (opened_length ns)

-- a slot is that of a firm one
pub opened_at : (p : ℕ) (ns : List ℕ) (s : Slot) → slice_get (map opened_slot ns) p ≡ Some s → (p < length ns) × (s ≡ opened_slot (get_or ns p 0))
opened_at p [] s e = absurd (none-some s e)
opened_at zero (x ∷ ns) s e = (omega arith, sym (same_Some (opened_slot x) s e))
opened_at (suc p) (x ∷ ns) s e = let k = opened_at p ns s e in ((let l = k.0 in omega arith), k.1)

there_is : (p : ℕ) (ns : List ℕ) → p < length ns → slice_get (map opened_slot ns) p ≡ Some (opened_slot (get_or ns p 0))
there_is p [] lt = absurd (omega arith)
there_is zero (n ∷ ns) lt = refl
there_is (suc p) (n ∷ ns) lt = there_is p ns (omega arith)

pub last_is : (n : ℕ) → n < 2 → last_slot (opened_slot n) ≡ n
last_is zero lt = refl
last_is (suc zero) lt = refl
last_is (suc (suc n)) lt = absurd (omega arith)

-- a settled area has nothing that a crash may lose
on_disk : (at : ℕ) (area : Area) → IsSettled area → at + 1024 ≤ length area.bytes → IsOnDisk at area
on_disk at area settled whole = record {
  within = let e = settled.end in omega arith;
  apart = λ j low high. subst (IsApart j) (sym settled.clean) tt;
}

-- ## Recovered pages

module _ (whole : EveryWhole) (r : Recovered) (s : Story) (is : IsWhole r) (slots : HasSlots r s) where
  abbrev bytes : List ℕ
  bytes = (s.area 1).bytes

  abbrev at : ℕ → ℕ
  at p = get_or r.slots.items p 0

  abbrev page : ℕ → Page
  page p = get_or r.pages.items p (new_page p free)

  many : length (map opened_slot r.slots.items) ≡ r.master.pages
  many = opened_length r.slots.items ∙ is.places

  here : (p : ℕ) → p < r.master.pages → slice_get r.pages.items p ≡ Some (page p)
  here p lt = slice_get-get_or r.pages.items p (new_page p free) (let k = is.count in omega arith)

  counts : (p : ℕ) → p < r.master.pages → Counts r.master.pages bytes p (at p) (page p)
  counts p lt = slots.counts p (page p) (here p lt)

  within : (p : ℕ) → p < r.master.pages → place_of p (at p) + 1024 ≤ length bytes
  within p lt = let c = counts p lt in whole r.master.pages p (at p) bytes c.node c.there

  module _ (v : Given) (rooted : IsRooted r.pages.items v) where
    saved_is : (p : ℕ) → p < r.master.pages → image_page (page p) ≡ (state (first_plain v)).core.saved p
    saved_is p lt = sym (rooted.saved p ∙ ap image_page (page_is r.pages.items p (page p) (here p lt)))

    -- what the slot of a page holds is what is saved of it
    held_is : (p : ℕ) → p < r.master.pages → (y : Page) → page_in p (length (map opened_slot r.slots.items)) (slot_bytes p (last_slot (opened_slot (at p))) bytes) ≡ Some y → image_page y ≡ (state (first_plain v)).core.saved p
    held_is p lt y e =
        let c = counts p lt in
        let read : page_in p r.master.pages (slot_bytes p (at p) bytes) ≡ Some y = subst (λ (i : ℕ). page_in p r.master.pages (slot_bytes p i bytes) ≡ Some y) (last_is (at p) (is.halves p lt))
        (subst (λ (n : ℕ). page_in p n (slot_bytes p (last_slot (opened_slot (at p))) bytes) ≡ Some y) many e) in
        ap image_page (same_Some y c.node (sym read ∙ c.there)) ∙ (c.is ∙ saved_is p lt)

    mirrors : (generation : ℕ) → Mirrors (map opened_slot r.slots.items) generation (state (first_plain v)).core.saved s
    mirrors generation told p lt y holds =
        let few : p < r.master.pages = let k = many in omega arith in
        held_is p few y (holds (opened_slot (at p)) (there_is p r.slots.items (let k = is.places in omega arith))).0

    last_page : (n : ℕ) → n ≡ r.master.pages → Reaches n bytes
    last_page zero e = omega arith
    last_page (suc n) e = let w = within n (omega arith) in let h = is.halves n (omega arith) in omega arith

    mirror : (generation : ℕ) → IsMirror (map opened_slot r.slots.items) generation (state (first_plain v)).core.saved s
    mirror generation = record {
      mirrors = mirrors generation;
      spans = λ told. last_page (length (map opened_slot r.slots.items)) many;
      on_disk = λ p t e late.
          let k = opened_at p r.slots.items t e in
          let few : p < r.master.pages = let l = k.0 in let a = is.places in omega arith in
          let last : last_slot t ≡ at p = ap last_slot k.1 ∙ last_is (at p) (is.halves p few) in
          on_disk (place_of p (last_slot t)) (s.area 1) slots.settled (subst (λ (i : ℕ). place_of p i + 1024 ≤ length bytes) (sym last) (within p few));
    }

-- ## The opening

pub mirrored : EveryWhole → (frames locks most : ℕ) (s0 s : Story) (x : code.Opened) → HasOpened frames locks most s0 s x → Tells s0 1 → IsMirror x.pager.slots x.pager.generation (state x.seat.view).core.saved s
mirrored whole frames locks most s0 s x h told =
    let r = h.recovered in
    let v = given_by (s.tells 1) frames locks r in
    let made = mirror whole r s h.is.whole (h.is.slots told) v h.paged.rooted r.master.generation in
    let here = subst (λ (u : View). IsMirror (map opened_slot r.slots.items) r.master.generation (state u).core.saved s) (sym h.paged.view) made in
    subst (λ (z : Provider). IsMirror z.slots z.generation (state x.seat.view).core.saved s) (sym h.paged.pager) here
