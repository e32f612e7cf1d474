-- Pieces of an area, one slot each, and the pages that they hold.
use Rattle.std.proofs.Common.{◌≡◌, inl, ⊎_elim, ℕ, ◌+◌, ◌-◌, ◌*◌, ◌≤◌, ◌<◌, max, min, List, ◌++◌, length, get_or, take, drop, replicate, Option, Some, None, refl, sym, ◌∙◌, ap, arith, append_assoc, length-append, length-drop, codes}
use Rattle.std.proofs.lemmas.Bool.{cases_eq, cases_lt}
use Rattle.std.proofs.lemmas.List.{length-take, length-replicate, drop_at, take_at, take_min, drop-drop, get_or-take, get_or-drop, ext_get_or}
use Rattle.page_model.specs.Page.{Page}
use Rattle.disk_image.specs.image_model.Fair.{piece}
use Rattle.lean_disk.specs.Area.{put_over}
use Rattle.lean_disk.specs.Inside.Areas.{put_over_apart}
use Rattle.disk_image.specs.disk_slots.Slots.{IsSealed}
use Rattle.disk_image.specs.disk_slots.Pages.{page_slot, IsPage}
use Rattle.disk_image.proofs.disk_slots.LawLemmas.{every_page}
use Rattle.disk_image.specs.Shown.{page_slot_in}
use Rattle.disk_image.proofs.PageSlotLemmas.{every_page_in}
use Rattle.page_store.specs.Laws.{EveryWhole}
use Rattle.page_store.specs.Saved.{place_of}

-- ## Pieces

pub same_piece : (q : ℕ) (c d : List ℕ) → 1024 * q + 1024 ≤ length c → 1024 * q + 1024 ≤ length d → ((j : ℕ) → 1024 * q ≤ j → j < 1024 * q + 1024 → get_or c j 0 ≡ get_or d j 0) → piece 1024 q c ≡ piece 1024 q d
same_piece q c d lc ld same = ext_get_or 0 (piece 1024 q c) (piece 1024 q d) (omega (arith, length-take {A = ℕ}, length-drop {A = ℕ}))
    (λ i lt. let below : i < 1024 = omega (arith, lt, length-take 1024 (drop (1024 * q) c)) in
    get_or-take 1024 (drop (1024 * q) c) i 0 below ∙ get_or-drop (1024 * q) c i 0 ∙ same (1024 * q + i) (omega arith) (omega (arith, below)) ∙ sym (get_or-drop (1024 * q) d i 0) ∙ sym (get_or-take 1024 (drop (1024 * q) d) i 0 below))

pub piece_within : (q : ℕ) (c : List ℕ) → length (piece 1024 q c) ≡ 1024 → 1024 * q + 1024 ≤ length c
piece_within q c whole = omega (arith, whole, length-take 1024 (drop (1024 * q) c), length-drop (1024 * q) c)

-- one slot is written, which begins within the bytes or at their end
module _ (at q : ℕ) (slot old : List ℕ) (is : at ≡ 1024 * q) (whole : length slot ≡ 1024) (reach : at ≤ length old) where
  abbrev now : List ℕ
  now = put_over at slot old

  pub write_size : length now ≡ max (length old) (at + 1024)
  write_size = omega (arith, whole, reach, length-append {A = ℕ}, length-take {A = ℕ}, length-replicate {A = ℕ}, length-drop {A = ℕ})

  abbrev prefix : List ℕ
  prefix = take at old ++ replicate (at - length old) 0

  prefix_size : length prefix ≡ at
  prefix_size = omega (arith, reach, length-append {A = ℕ}, length-take {A = ℕ}, length-replicate {A = ℕ})

  pub write_here : piece 1024 q now ≡ slot
  write_here =
      let rest : List ℕ = drop (at + length slot) old in
      ap (λ (n : ℕ). take 1024 (drop n now)) (sym is) ∙ ap (λ (l : List ℕ). take 1024 (drop at l)) (append_assoc prefix slot rest) ∙ ap (take 1024) (drop_at prefix (slot ++ rest) at prefix_size) ∙ take_at slot rest 1024 whole

  pub write_other : (r : ℕ) → (r ≡ q → ⊥) → piece 1024 r now ≡ piece 1024 r old
  write_other r ne = ⊎_elim
      (λ (l : r < q). same_piece r now old (omega (arith, l, write_size, reach, is)) (omega (arith, l, reach, is))
      (λ j from to. put_over_apart at slot old j (omega (arith, l, to, reach, is)) (inl (omega (arith, l, to, is)))))
      (λ (l : q ≤ r).
      let rest : List ℕ = drop (at + length slot) old in
      let most : length (prefix ++ slot) ≡ at + length slot = omega (arith, length-append prefix slot, prefix_size) in
      let past : at + length slot ≤ 1024 * r = ⊎_elim (λ (e : r ≡ q). absurd (ne e)) (λ (no : r ≡ q → ⊥). omega (arith, l, no, whole, is)) (cases_eq r q) in
      let k : ℕ = 1024 * r - (at + length slot) in
      let k_is : at + length slot + k ≡ 1024 * r = omega (arith, past) in
      ap (take 1024) (ap (λ (i : ℕ). drop i now) (sym k_is) ∙ sym (drop-drop k (at + length slot) now) ∙ ap (drop k) (drop_at (prefix ++ slot) rest (at + length slot) most)
      ∙ drop-drop k (at + length slot) old ∙ ap (λ (i : ℕ). drop i old) k_is))
      (cases_lt r q)

-- ## The pages that they hold

pub place_is : (p i : ℕ) → place_of p i ≡ 1024 * (2 * p + i)
place_is p i = omega arith

-- two slots of pages that are one
pub same_page : (p i r k : ℕ) → i < 2 → k < 2 → 2 * p + i ≡ 2 * r + k → (r ≡ p) × (k ≡ i)
same_page p i r k li lk e = (omega (arith, li, lk, e), omega (arith, li, lk, e))

pub page_sealed : (pages p i : ℕ) (bytes : List ℕ) (page : Page) → page_slot_in pages p i bytes ≡ Some page → IsSealed (codes "LEANPAGE") (piece 1024 (2 * p + i) bytes)
page_sealed pages p i bytes page has = (every_page p pages page).sealed (piece 1024 (2 * p + i) bytes) ((every_page_in p pages (piece 1024 (2 * p + i) bytes) page).0 has)

pub every_whole : EveryWhole
every_whole pages p i bytes page has =
    let long : 1024 * (2 * p + i) + 1024 ≤ length bytes = piece_within (2 * p + i) bytes (page_sealed pages p i bytes page has).long in
    omega (arith, long)

-- a slot that is spelled holds its page
pub page_there : (pages p i : ℕ) (bytes : List ℕ) (page : Page) → IsPage p pages page → piece 1024 (2 * p + i) bytes ≡ page_slot page → page_slot_in pages p i bytes ≡ Some page
page_there pages p i bytes page is same = (every_page_in p pages (piece 1024 (2 * p + i) bytes) page).1 (record { holds = is; spelled = same })

-- it is whole
pub slot_size : (pages p : ℕ) (page : Page) → IsPage p pages page → length (page_slot page) ≡ 1024
slot_size pages p page is = ((every_page p pages page).sealed (page_slot page) (record { holds = is; spelled = refl })).long

-- what is no page of any kind is none
pub none_of : (o : Option Page) → ((x : Page) → o ≡ Some x → ⊥) → o ≡ None
none_of (Some x) never = absurd (never x refl)
none_of None never = refl

-- ## Reads

-- what a read of a slot gives is what stands in it, up to the area's end
pub read_piece : (p i n : ℕ) (bytes before after : List ℕ) → length before ≡ 1024 → (n ≡ min (length before) (length bytes - place_of p i)) × (after ≡ take n (drop (place_of p i) bytes) ++ drop n before) → take n after ≡ piece 1024 (2 * p + i) bytes
read_piece p i n bytes before after long gave =
    let rest : List ℕ = drop (place_of p i) bytes in
    let size : length rest ≡ length bytes - place_of p i = length-drop (place_of p i) bytes in
    let fits : length (take n rest) ≡ n = omega (arith, gave.0, length-take n rest, size) in
    let count : n ≡ min 1024 (length rest) = omega (arith, gave.0, long, size) in
    ap (take n) gave.1 ∙ (take_at (take n rest) (drop n before) n fits ∙ (ap (λ (k : ℕ). take k rest) count ∙ (take_min 1024 rest ∙ ap (λ (k : ℕ). take 1024 (drop k bytes)) (place_is p i))))
