-- What a read gives of an area over which pages were saved.
use Rattle.std.proofs.Common.{◌≡◌, inl, inr, ⊎_elim, ℕ, ◌+◌, ◌*◌, ◌≤◌, ◌<◌, List, [], ◌∷◌, ◌++◌, length, map, Some, refl, sym, ◌∙◌, ap, subst, arith, codes}
use Rattle.std.proofs.lemmas.Bool.{cases_eq}
use Rattle.map_model.specs.Lists.{Has}
use Rattle.disk_image.specs.image_model.Fair.{piece, IsWritten}
use Rattle.disk_image.proofs.image_model.FairLemmas.{among_more, exactly}
use Rattle.lean_disk.specs.Area.{Area, Write}
use Rattle.lean_disk.specs.Inside.Areas.{length-put_over}
use Rattle.disk_image.specs.disk_slots.Slots.{IsSealed}
use Rattle.disk_image.specs.disk_slots.Pages.{page_slot}
use Rattle.disk_image.specs.PageSlots.{page_in}
use Rattle.disk_image.specs.Shown.{page_slot_in}
use Rattle.page_store.specs.Laws.{EveryRead}
use Rattle.page_store.specs.Saved.{Save, AreApart, AreSaves, HoldsOne, IsFairSince, IsSave, IsSpared, Reaches, place_of, saved, write_of}
use Rattle.page_store.proofs.PieceLemmas.{page_there, place_is, same_page, slot_size, write_here, write_other}

-- of saves that are apart, those of one slot are one
pub apart_one : (saves : List Save) → AreApart saves → (s t : Save) → Has s saves → Has t saves → t.page ≡ s.page → t.slot ≡ s.slot → t ≡ s
apart_one [] apart s t hs ht page slot = absurd hs
apart_one (x ∷ xs) apart s t (inl es) (inl et) page slot = et ∙ sym es
apart_one (x ∷ xs) apart s t (inl es) (inr ht) page slot = absurd (apart.0 t ht (page ∙ ap (λ (y : Save). y.page) es) (slot ∙ ap (λ (y : Save). y.slot) es))
apart_one (x ∷ xs) apart s t (inr hs) (inl et) page slot = absurd (apart.0 s hs (sym page ∙ ap (λ (y : Save). y.page) et) (sym slot ∙ ap (λ (y : Save). y.slot) et))
apart_one (x ∷ xs) apart s t (inr hs) (inr ht) page slot = apart_one xs apart.1 s t hs ht page slot

-- one save more
pub one_more : (pages : ℕ) (s : Save) (saves : List Save) (p i : ℕ) (bytes now : List ℕ) → page_slot_in pages p i now ≡ page_slot_in pages p i bytes → HoldsOne pages saves p i bytes → HoldsOne pages (s ∷ saves) p i now
one_more pages s saves p i bytes now same h = record { save = h.save; has = inr h.has; page_is = h.page_is; slot_is = h.slot_is; there = same ∙ h.there }

pub longer : (saves : List Save) (start : Area) → length start.bytes ≤ length (saved saves start).bytes
longer [] start = omega arith
longer (s ∷ saves) start =
    let before = longer saves start in
    let more = length-put_over (place_of s.page s.slot) (page_slot s.node) (saved saves start).bytes in
    omega (arith, before, more)

pub writes_of : (saves : List Save) (start : Area) → (saved saves start).writes ≡ map write_of saves ++ start.writes
writes_of [] start = refl
writes_of (s ∷ saves) start = ap (λ (ws : List Write). write_of s ∷ ws) (writes_of saves start)

pub first_of_all : (saves : List Save) (start : Area) → (saved saves start).first ≡ start.first
first_of_all [] start = refl
first_of_all (s ∷ saves) start = first_of_all saves start

module _ (pages : ℕ) (start : Area) (reaches : Reaches pages start.bytes) where
  reach : (s : Save) (saves : List Save) → IsSave pages s → place_of s.page s.slot ≤ length (saved saves start).bytes
  reach s saves is =
      let more = longer saves start in
      let within = is.within in
      let half = is.half in
      omega (arith, more, within, half, reaches)

  module _ (s : Save) (saves : List Save) (is : IsSave pages s) where
    abbrev q : ℕ
    q = 2 * s.page + s.slot

    abbrev before : List ℕ
    before = (saved saves start).bytes

    abbrev after : List ℕ
    after = (saved (s ∷ saves) start).bytes

    here : piece 1024 q after ≡ page_slot s.node
    here = write_here (place_of s.page s.slot) q (page_slot s.node) before (place_is s.page s.slot) (slot_size pages s.page s.node is.stored) (reach s saves is)

    other : (r : ℕ) → (r ≡ q → ⊥) → piece 1024 r after ≡ piece 1024 r before
    other = write_other (place_of s.page s.slot) q (page_slot s.node) before (place_is s.page s.slot) (slot_size pages s.page s.node is.stored) (reach s saves is)

    there : page_slot_in pages s.page s.slot after ≡ Some s.node
    there = page_there pages s.page s.slot after s.node is.stored here

  reads_other : (saves : List Save) → AreSaves pages saves → (p i : ℕ) → i < 2 → IsSpared p i saves → piece 1024 (2 * p + i) (saved saves start).bytes ≡ piece 1024 (2 * p + i) start.bytes
  reads_other [] are p i half spared = refl
  reads_other (s ∷ saves) are p i half spared =
      other s saves (are s (inl refl)) (2 * p + i) (λ e. let same = same_page p i s.page s.slot half (are s (inl refl)).half e in spared s (inl refl) same.0 same.1)
      ∙ reads_other saves (λ t has. are t (inr has)) p i half (λ t has. spared t (inr has))

  reads_each : (saves : List Save) → AreSaves pages saves → (t : Save) → Has t saves → HoldsOne pages saves t.page t.slot (saved saves start).bytes
  reads_each [] are t has = absurd has
  reads_each (s ∷ saves) are t (inl e) = record {
    save = s;
    has = inl refl;
    page_is = ap (λ (y : Save). y.page) (sym e);
    slot_is = ap (λ (y : Save). y.slot) (sym e);
    there = subst (λ (y : Save). page_slot_in pages y.page y.slot (saved (s ∷ saves) start).bytes ≡ Some s.node) (sym e) (there s saves (are s (inl refl)));
  }
  reads_each (s ∷ saves) are t (inr has) = ⊎_elim
      (λ (e : 2 * t.page + t.slot ≡ 2 * s.page + s.slot).
      let same = same_page t.page t.slot s.page s.slot (are t (inr has)).half (are s (inl refl)).half e in record {
        save = s;
        has = inl refl;
        page_is = same.0;
        slot_is = same.1;
        there = subst (λ (p : ℕ). page_slot_in pages p t.slot (saved (s ∷ saves) start).bytes ≡ Some s.node) same.0
            (subst (λ (i : ℕ). page_slot_in pages s.page i (saved (s ∷ saves) start).bytes ≡ Some s.node) same.1 (there s saves (are s (inl refl))));
      })
      (λ (ne : 2 * t.page + t.slot ≡ 2 * s.page + s.slot → ⊥).
      one_more pages s saves t.page t.slot (saved saves start).bytes (saved (s ∷ saves) start).bytes
      (ap (page_in t.page pages) (other s saves (are s (inl refl)) (2 * t.page + t.slot) ne))
      (reads_each saves (λ u h. are u (inr h)) t has))
      (cases_eq (2 * t.page + t.slot) (2 * s.page + s.slot))

  reads_fair : (saves : List Save) → AreSaves pages saves → IsFairSince start.bytes (map write_of saves) (saved saves start).bytes
  reads_fair [] are r sealed = inl refl
  reads_fair (s ∷ saves) are r sealed = ⊎_elim
      (λ (e : r ≡ 2 * s.page + s.slot).
      let bytes : piece 1024 r (saved (s ∷ saves) start).bytes ≡ page_slot s.node = ap (λ (k : ℕ). piece 1024 k (saved (s ∷ saves) start).bytes) e ∙ here s saves (are s (inl refl)) in
      let place : 1024 * r ≡ place_of s.page s.slot = omega (arith, e) in
      let same : ◌≡◌ {A = Write} (1024 * r, piece 1024 r (saved (s ∷ saves) start).bytes) (write_of s) = λ k. (place k, bytes k) in
      inr (exactly 1024 r (piece 1024 r (saved (s ∷ saves) start).bytes) start.bytes (map write_of (s ∷ saves)) (omega arith) (ap (λ (b : List ℕ). length b) bytes ∙ slot_size pages s.page s.node (are s (inl refl)).stored) (inl same)))
      (λ (ne : r ≡ 2 * s.page + s.slot → ⊥).
      let same : piece 1024 r (saved (s ∷ saves) start).bytes ≡ piece 1024 r (saved saves start).bytes = other s saves (are s (inl refl)) r ne in
      ⊎_elim (λ old. inl (same ∙ old))
      (λ has. inr (among_more 1024 r (piece 1024 r (saved (s ∷ saves) start).bytes) start.bytes (write_of s) (map write_of saves) (subst (λ (b : List ℕ). IsWritten 1024 r b start.bytes (map write_of saves)) (sym same) has)))
      (reads_fair saves (λ t has. are t (inr has)) r (subst (IsSealed (codes "LEANPAGE")) same sealed)))
      (cases_eq r (2 * s.page + s.slot))

pub every_read : EveryRead
every_read pages saves start are reaches = record {
  holds = record {
    other = λ p i half spared. ap (page_in p pages) (reads_other pages start reaches saves are p i half spared);
    each = reads_each pages start reaches saves are;
    one = λ apart s has.
        let it = reads_each pages start reaches saves are s has in
        it.there ∙ ap (λ (y : Save). Some y.node) (apart_one saves apart s it.save has it.has it.page_is it.slot_is);
  };
  fair = reads_fair pages start reaches saves are;
  writes = writes_of saves start;
  first = first_of_all saves start;
  longer = longer saves start;
}
