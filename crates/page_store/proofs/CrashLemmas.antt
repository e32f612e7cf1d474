-- What a crash leaves of an area over which pages are saved.
use Rattle.std.proofs.Common.{◌≡◌, codes, ◌⊎◌, inl, inr, ⊎_elim, ℕ, ◌+◌, ◌*◌, ◌≤◌, ◌<◌, List, [], ◌∷◌, length, get_or, map, Option, Some, None, refl, sym, ◌∙◌, ap, subst, arith}
use Rattle.std.proofs.lemmas.Bool.{cases_lt}
use Rattle.map_model.specs.Lists.{Has}
use Rattle.page_model.specs.Page.{Page}
use Rattle.disk_image.specs.image_model.Fair.{piece}
use Rattle.disk_image.proofs.image_model.FairLemmas.{IsOfOne, narrow}
use Rattle.lean_disk.specs.Area.{Area, IsApart, Leaves, Write, torn}
use Rattle.lean_disk.specs.Inside.Areas.{put_over_apart}
use Rattle.disk_image.specs.disk_slots.Pages.{page_slot, IsPage}
use Rattle.disk_image.specs.disk_slots.Slots.{IsSealed}
use Rattle.disk_image.specs.PageSlots.{page_in}
use Rattle.disk_image.specs.Shown.{page_slot_in}
use Rattle.page_store.specs.Laws.{EveryFewer, EveryLeft}
use Rattle.page_store.specs.Saved.{Save, AreSaves, HoldsOne, IsFairSince, IsOneOf, IsSpared, IsSynced, LeavesSaves, MayHoldSaves, place_of, saved, write_of}
use Rattle.page_store.proofs.PieceLemmas.{every_whole, none_of, page_sealed, page_there, place_is, same_page, same_piece, slot_size}
use Rattle.page_store.proofs.HeldLemmas.{longer, writes_of}

-- ## Bytes that stand

-- the byte is in none of the slots
abbrev IsOff : ℕ → List Save → Type 0
IsOff j saves = (s : Save) → Has s saves → (j < place_of s.page s.slot) ⊎ (place_of s.page s.slot + 1024 ≤ j)

-- the bytes of a slot that is spared are in none
off : (pages : ℕ) (saves : List Save) → AreSaves pages saves → (p i : ℕ) → i < 2 → IsSpared p i saves → (j : ℕ) → 1024 * (2 * p + i) ≤ j → j < 1024 * (2 * p + i) + 1024 → IsOff j saves
off pages saves are p i half spared j from to s has =
    let other_half = (are s has).half in
    ⊎_elim
    (λ (l : 2 * p + i < 2 * s.page + s.slot). inl (omega (arith, l, to)))
    (λ (l : 2 * s.page + s.slot ≤ 2 * p + i). ⊎_elim
    (λ (m : 2 * s.page + s.slot < 2 * p + i). inr (omega (arith, m, from)))
    (λ (m : 2 * p + i ≤ 2 * s.page + s.slot).
    let e : 2 * p + i ≡ 2 * s.page + s.slot = omega (arith, l, m) in
    let same = same_page p i s.page s.slot half other_half e in
    absurd (spared s has same.0 same.1))
    (cases_lt (2 * s.page + s.slot) (2 * p + i)))
    (cases_lt (2 * p + i) (2 * s.page + s.slot))

-- the slots are as long as their range
off_range : (pages : ℕ) (s : Save) (saves : List Save) → AreSaves pages (s ∷ saves) → (j : ℕ) → IsOff j (s ∷ saves) → (j < place_of s.page s.slot) ⊎ (place_of s.page s.slot + length (page_slot s.node) ≤ j)
off_range pages s saves are j is =
    let size : length (page_slot s.node) ≡ 1024 = slot_size pages s.page s.node (are s (inl refl)).stored in
    ⊎_elim (λ l. inl l) (λ r. inr (omega (arith, r, size))) (is s (inl refl))

off_apart : (pages : ℕ) (start : Area) → start.unsynced ≡ [] → (saves : List Save) → AreSaves pages saves → (j : ℕ) → IsOff j saves → IsApart j (saved saves start).unsynced
off_apart pages start clean [] are j is = subst (IsApart j) (sym clean) tt
off_apart pages start clean (s ∷ saves) are j is = (off_range pages s saves are j is, off_apart pages start clean saves (λ t has. are t (inr has)) j (λ t has. is t (inr has)))

off_stands : (pages : ℕ) (start : Area) (saves : List Save) → AreSaves pages saves → (j : ℕ) → IsOff j saves → j < length start.bytes → get_or (saved saves start).bytes j 0 ≡ get_or start.bytes j 0
off_stands pages start [] are j is lt = refl
off_stands pages start (s ∷ saves) are j is lt =
    let more = longer saves start in
    put_over_apart (place_of s.page s.slot) (page_slot s.node) (saved saves start).bytes j (omega (arith, more, lt)) (off_range pages s saves are j is)
    ∙ off_stands pages start saves (λ t has. are t (inr has)) j (λ t has. is t (inr has)) lt

same_end : (saves : List Save) (start : Area) → (saved saves start).end ≡ start.end
same_end [] start = refl
same_end (s ∷ saves) start = same_end saves start

-- bytes that stand but in the slots
record Stands (start : Area) (saves : List Save) (c : List ℕ) : Type 0 where
  no_shorter : length start.bytes ≤ length c
  same : (j : ℕ) → j < length start.bytes → IsOff j saves → get_or c j 0 ≡ get_or start.bytes j 0

stands_between : (pages : ℕ) (saves : List Save) (start : Area) → AreSaves pages saves → IsSynced start → (c : List ℕ) → Leaves (saved saves start) c → Stands start saves c
stands_between pages saves start are is c left =
    let ends : (saved saves start).end ≡ length start.bytes = same_end saves start ∙ is.end in
    let least = left.no_shorter in record {
      no_shorter = omega (arith, ends, least);
      same = λ j lt off_all. left.same j (omega (arith, ends, lt)) (off_apart pages start is.clean saves are j off_all) ∙ off_stands pages start saves are j off_all lt;
    }

stands_during : (pages : ℕ) (s : Save) (saves : List Save) (start : Area) → AreSaves pages (s ∷ saves) → IsSynced start → (c : List ℕ)
    → Leaves (torn (place_of s.page s.slot) (page_slot s.node) (saved saves start)) c → Stands start (s ∷ saves) c
stands_during pages s saves start are is c left =
    let ends : (saved saves start).end ≡ length start.bytes = same_end saves start ∙ is.end in
    let least = left.no_shorter in record {
      no_shorter = omega (arith, ends, least);
      same = λ j lt off_all. left.same j (omega (arith, ends, lt)) (off_range pages s saves are j off_all, off_apart pages start is.clean saves (λ t has. are t (inr has)) j (λ t has. off_all t (inr has)))
          ∙ off_stands pages start saves (λ t has. are t (inr has)) j (λ t has. off_all t (inr has)) lt;
    }

-- ## What fair bytes hold

module _ (pages : ℕ) (start : Area) (saves : List Save) (are : AreSaves pages saves) (since : List Write) (own : (w : Write) → Has w since → IsOneOf saves w) (c : List ℕ) (fair : IsFairSince start.bytes since c) where
  -- each write is of one slot
  of_one : (w : Write) → Has w since → IsOfOne 1024 w
  of_one w has =
      let one = own w has in
      let s : Save = one.save in record {
        slot = 2 * s.page + s.slot;
        place = ap (λ (x : Write). x.0) one.at ∙ place_is s.page s.slot;
        whole = ap (λ (x : Write). length x.1) one.at ∙ slot_size pages s.page s.node (are s one.has).stored;
      }

  -- a write of slot i of page p is a save of it
  its_save : (p i : ℕ) → i < 2 → Has (1024 * (2 * p + i), piece 1024 (2 * p + i) c) since → HoldsOne pages saves p i c
  its_save p i half has =
      let one = own (1024 * (2 * p + i), piece 1024 (2 * p + i) c) has in
      let s : Save = one.save in
      let is = are s one.has in
      let place : 1024 * (2 * p + i) ≡ place_of s.page s.slot = ap (λ (w : Write). w.0) one.at in
      let bytes : piece 1024 (2 * p + i) c ≡ page_slot s.node = ap (λ (w : Write). w.1) one.at in
      let e : 2 * p + i ≡ 2 * s.page + s.slot = omega (arith, place) in
      let same = same_page p i s.page s.slot half is.half e in
      let stored : IsPage p pages s.node = subst (λ (n : ℕ). IsPage n pages s.node) same.0 is.stored in record {
        save = s;
        has = one.has;
        page_is = same.0;
        slot_is = same.1;
        there = page_there pages p i c s.node stored bytes;
      }

  -- a page that stands in it stood there, or was saved there
  pub stood_or_saved : (p i : ℕ) → i < 2 → (page : Page) → page_slot_in pages p i c ≡ Some page → (page_slot_in pages p i c ≡ page_slot_in pages p i start.bytes) ⊎ HoldsOne pages saves p i c
  stood_or_saved p i half page has = ⊎_elim
      (λ (stood : piece 1024 (2 * p + i) c ≡ piece 1024 (2 * p + i) start.bytes). inl (ap (page_in p pages) stood))
      (λ (wrote : Has (1024 * (2 * p + i), piece 1024 (2 * p + i) c) since). inr (its_save p i half wrote))
      (narrow 1024 (IsSealed (codes "LEANPAGE")) start.bytes since c (omega arith) of_one fair (2 * p + i) (page_sealed pages p i c page has))

  each : (p i : ℕ) → i < 2 → (o : Option Page) → page_slot_in pages p i c ≡ o → (page_slot_in pages p i c ≡ page_slot_in pages p i start.bytes) ⊎ (HoldsOne pages saves p i c ⊎ (page_slot_in pages p i c ≡ None))
  each p i half (Some page) is = ⊎_elim (λ stood. inl stood) (λ one. inr (inl one)) (stood_or_saved p i half page is)
  each p i half None is = inr (inr is)

  module _ (stands : Stands start saves c) where
    other : (p i : ℕ) → i < 2 → IsSpared p i saves → page_slot_in pages p i c ≡ page_slot_in pages p i start.bytes
    other p i half spared = ⊎_elim
        (λ (short : length start.bytes < place_of p i + 1024).
        let first : page_slot_in pages p i start.bytes ≡ None = none_of (page_slot_in pages p i start.bytes) (λ x has. absurd (let whole = every_whole pages p i start.bytes x has in omega (arith, whole, short))) in
        let now : page_slot_in pages p i c ≡ None = none_of (page_slot_in pages p i c) (λ x has. ⊎_elim
        (λ (stood : page_slot_in pages p i c ≡ page_slot_in pages p i start.bytes). absurd (let whole = every_whole pages p i start.bytes x (sym stood ∙ has) in omega (arith, whole, short)))
        (λ (one : HoldsOne pages saves p i c). spared one.save one.has one.page_is one.slot_is)
        (stood_or_saved p i half x has)) in
        now ∙ sym first)
        (λ (whole : place_of p i + 1024 ≤ length start.bytes).
        let longer_still = stands.no_shorter in
        ap (page_in p pages) (same_piece (2 * p + i) c start.bytes (omega (arith, whole, longer_still)) (omega (arith, whole))
        (λ j from to. stands.same j (omega (arith, whole, to)) (off pages saves are p i half spared j from to))))
        (cases_lt (length start.bytes) (place_of p i + 1024))

    may_hold : MayHoldSaves pages start.bytes saves c
    may_hold = record { other = other; each = λ p i half. each p i half (page_slot_in pages p i c) refl }

-- ## The laws

own_writes : (saves : List Save) (w : Write) → Has w (map write_of saves) → IsOneOf saves w
own_writes [] w has = absurd has
own_writes (s ∷ saves) w (inl e) = record { save = s; has = inl refl; at = e }
own_writes (s ∷ saves) w (inr has) = let it = own_writes saves w has in record { save = it.save; has = inr it.has; at = it.at }

leaves_between : (pages : ℕ) (saves : List Save) (start : Area) → AreSaves pages saves → IsSynced start → (c : List ℕ) → Leaves (saved saves start) c → LeavesSaves pages start saves (saved saves start).writes c
leaves_between pages saves start are is c left = record {
  since = map write_of saves;
  writes_are = writes_of saves start;
  own = own_writes saves;
  holds = λ fair. may_hold pages start saves are (map write_of saves) (own_writes saves) c fair (stands_between pages saves start are is c left);
}

leaves_during : (pages : ℕ) (s : Save) (rest : List Save) (start : Area) → AreSaves pages (s ∷ rest) → IsSynced start → (writes : List Write) (c : List ℕ)
    → (writes ≡ write_of s ∷ (saved rest start).writes) ⊎ (writes ≡ (saved rest start).writes)
    → Leaves (torn (place_of s.page s.slot) (page_slot s.node) (saved rest start)) c → LeavesSaves pages start (s ∷ rest) writes c
leaves_during pages s rest start are is writes c (inl made) left = record {
  since = map write_of (s ∷ rest);
  writes_are = made ∙ ap (λ (ws : List Write). write_of s ∷ ws) (writes_of rest start);
  own = own_writes (s ∷ rest);
  holds = λ fair. may_hold pages start (s ∷ rest) are (map write_of (s ∷ rest)) (own_writes (s ∷ rest)) c fair (stands_during pages s rest start are is c left);
}
leaves_during pages s rest start are is writes c (inr none) left =
    let own : (w : Write) → Has w (map write_of rest) → IsOneOf (s ∷ rest) w = λ w has. own_writes (s ∷ rest) w (inr has) in record {
      since = map write_of rest;
      writes_are = none ∙ writes_of rest start;
      own = own;
      holds = λ fair. may_hold pages start (s ∷ rest) are (map write_of rest) own c fair (stands_during pages s rest start are is c left);
    }

pub every_left : EveryLeft
every_left pages saves start are is = record {
  between = leaves_between pages saves start are is;
  during = λ s rest split writes c made left.
      subst (λ (l : List Save). LeavesSaves pages start l writes c) (sym split) (leaves_during pages s rest start (subst (AreSaves pages) split are) is writes c made left);
}

holds_fewer : (pages : ℕ) (few more : List Save) → ((s : Save) → Has s few → Has s more) → (p i : ℕ) (c : List ℕ) → HoldsOne pages few p i c → HoldsOne pages more p i c
holds_fewer pages few more among p i c h = record { save = h.save; has = among h.save h.has; page_is = h.page_is; slot_is = h.slot_is; there = h.there }

pub every_fewer : EveryFewer
every_fewer pages start few more writes c among left = record {
  since = left.since;
  writes_are = left.writes_are;
  own = λ w has. let it = left.own w has in record { save = it.save; has = among it.save it.has; at = it.at };
  holds = λ fair. let it = left.holds fair in record {
    other = λ p i half spared. it.other p i half (λ s has. spared s (among s has));
    each = λ p i half. ⊎_elim (λ stood. inl stood) (λ rest. inr (⊎_elim (λ one. inl (holds_fewer pages few more among p i c one)) (λ none. inr none) rest)) (it.each p i half);
  };
}
