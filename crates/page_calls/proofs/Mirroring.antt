-- What the slots that were written last hold behind each call.
use Rattle.std.proofs.Common.{◌≡◌, ◌⊎◌, inl, inr, ⊎_elim, ◌<◌, ◌≤◌, ◌+◌, ◌-◌, ◌*◌, ℕ, zero, suc, Bool, true, false, not, cond, List, [], ◌∷◌, length, map, drop, get_or, Some, slice_get, length-append, length-drop, refl, sym, ap, subst, ◌∙◌, arith}
use Rattle.std.proofs.lemmas.Bool.{cases_eq, cases_lt}
use Rattle.std.proofs.lemmas.List.{length-take, length-replicate, get_or-take, get_or-drop, ext_get_or}
use Rattle.std.proofs.lemmas.Option.{same_Some}
use Rattle.map_model.specs.Lists.{Has, upd}
use Rattle.map_model.proofs.ListLemmas.{upd_same, upd_other}
use Rattle.page_model.specs.Page.{Page}
use Rattle.disk_runs.specs.image_model.Entries.{Contents}
use Rattle.disk_runs.specs.image_model.Fair.{piece}
use Rattle.disk_runs.specs.core_state.Openings.{Opening}
use Rattle.disk_runs.specs.core_state.Events.{Event}
use Rattle.disk_runs.specs.core_state.Steps.{state_after}
use Rattle.lean_disk.specs.Area.{Area, IsApart, put_over}
use Rattle.lean_disk.specs.Calls.{Synced, Wrote}
use Rattle.lean_disk.specs.Moments.{OnlyReads}
use Rattle.lean_disk.specs.Story.{Crash, IsLawful, Story, Tells}
use Rattle.lean_disk.specs.declared.disk.Did.{Did}
use Rattle.lean_disk.specs.declared.disk.Did.TheVariants as did
use Rattle.disk_runs.specs.disk_slots.Laws.{EveryPage}
use Rattle.disk_runs.specs.disk_slots.Pages.{IsPage, page_slot}
use Rattle.disk_runs.specs.disk_image.PageSlots.{page_in}
use Rattle.disk_runs.specs.page_store.Bases.{image_page}
use Rattle.disk_runs.specs.page_store.Laws.{EveryRead, EveryWhole, IsRead}
use Rattle.disk_runs.specs.page_store.Saved.{AreSaves, IsSave, Reaches, Save, place_of, saved}
use Rattle.disk_runs.specs.page_store.Slots.{HoldsIn, slot_bytes}
use Rattle.disk_runs.specs.page_store.declared.slot.Held.TheVariants as held
use Rattle.disk_runs.specs.Pages.{IsFirm}
use Rattle.disk_runs.specs.Stands.{Known}
use Rattle.page_calls.specs.declared.slots.Slot.{Slot}
use Rattle.page_calls.specs.Slots.{last_slot, number_of, opened_slot, saved_slot, settled_slot}
use Rattle.page_calls.specs.Calls.{IsOn, bounds_of}
use Rattle.page_calls.specs.Mirrors.{EveryStart, FailsMirrors, HoldsLast, IsMirror, LoadsMirrored, IsOnDisk, KeepsMirrors, Mirrors, SavesMirrors, Spans}
use Rattle.page_calls.proofs.Knowing.{map_length, number_one, opened_length, saved_length}
use Rattle.page_calls.proofs.Loading.{held_is, other_number}

-- ## The slots of a page before a call and behind it

-- each page has one
there_is : (ss : List Slot) (p : ℕ) → p < length ss → (s : Slot) × (slice_get ss p ≡ Some s)
there_is [] p lt = absurd (omega arith)
there_is (x ∷ xs) zero lt = (x, refl)
there_is (x ∷ xs) (suc p) lt = there_is xs p (omega arith)

there_few : (ss : List Slot) (p : ℕ) (s : Slot) → slice_get ss p ≡ Some s → p < length ss
there_few [] p s e = absurd (cc)
there_few (x ∷ xs) zero s e = omega arith
there_few (x ∷ xs) (suc p) s e = let l = there_few xs p s e in omega (arith, l)

number_half : (b : Bool) → number_of b < 2
number_half true = omega arith
number_half false = omega arith

last_half : (s : Slot) → last_slot s < 2
last_half s = number_half (cond s.late (not s.second) s.second)

-- a slot of the list was, in the list is: the same one was written last
record Goes (is : List Slot) (p : ℕ) (s : Slot) : Type 0 where
  pub to : Slot
  pub there : slice_get is p ≡ Some to
  pub same : last_slot to ≡ last_slot s

stays : (p : ℕ) (ss : List Slot) (s : Slot) → slice_get ss p ≡ Some s → Goes ss p s
stays p ss s e = record { to = s; there = e; same = refl }

settled_last : (s : Slot) → last_slot (settled_slot s) ≡ last_slot s
settled_last s = go s.late refl
  where
    go : (b : Bool) → s.late ≡ b → last_slot (cond b (record { second = not s.second; late = false }) s) ≡ number_of (cond b (not s.second) s.second)
    go true e = refl
    go false e = ap (λ b. number_of (cond b (not s.second) s.second)) e

settles : (p : ℕ) (ss : List Slot) (s : Slot) → slice_get ss p ≡ Some s → Goes (map settled_slot ss) p s
settles p [] s e = absurd (cc)
settles zero (x ∷ xs) s e = record { to = settled_slot x; there = refl; same = settled_last x ∙ ap last_slot (same_Some x s e) }
settles (suc p) (x ∷ xs) s e = let k = settles p xs s e in record { to = k.to; there = k.there; same = k.same }

-- the page that is saved
saved_here : (p : ℕ) (ss : List Slot) (s : Slot) → slice_get ss p ≡ Some s → slice_get (saved_slot p ss) p ≡ Some (record { second = s.second; late = true })
saved_here p [] s e = absurd (cc)
saved_here zero (x ∷ xs) s e = ap (λ (y : Slot). Some (record { second = y.second; late = true })) (same_Some x s e)
saved_here (suc p) (x ∷ xs) s e = saved_here p xs s e

-- and any other
saved_beside : (p q : ℕ) (ss : List Slot) → (p ≡ q → ⊥) → slice_get (saved_slot p ss) q ≡ slice_get ss q
saved_beside p q [] ne = refl
saved_beside zero zero (x ∷ xs) ne = absurd (ne refl)
saved_beside zero (suc q) (x ∷ xs) ne = refl
saved_beside (suc p) zero (x ∷ xs) ne = refl
saved_beside (suc p) (suc q) (x ∷ xs) ne = saved_beside p q xs (λ e. ne (ap suc e))

-- ## What stands there

-- what a slot holds, another one holds that has the same page
holds_as : (n m g p i k : ℕ) (b c : List ℕ) (x : Page) → n ≡ m → page_in p m (slot_bytes p i b) ≡ page_in p m (slot_bytes p k c) → HoldsIn (record { pages = n; generation = g }) p (slot_bytes p i b) (held.Page x) → HoldsIn (record { pages = m; generation = g }) p (slot_bytes p k c) (held.Page x)
holds_as n m g p i k b c x count same h = (sym same ∙ (ap (λ (j : ℕ). page_in p j (slot_bytes p i b)) (sym count) ∙ h.0), h.1)

-- where each page's slot is the same, and so are the bytes
keeps_mirrors : (was is : List Slot) (old new : Story) → length is ≡ length was → ((p : ℕ) (s : Slot) → slice_get was p ≡ Some s → Goes is p s) → new.tells 1 ≡ old.tells 1 → (new.area 1).bytes ≡ (old.area 1).bytes → KeepsMirrors was is old new
keeps_mirrors was is old new count goes tells bytes = record {
  mirrors = λ kept g m told p lt y holds. m (sym tells ∙ told) p (omega (arith, lt, count)) y (λ s e.
      let k = goes p s e in
      holds_as (length is) (length was) g p (last_slot k.to) (last_slot s) (new.area 1).bytes (old.area 1).bytes y count
      (ap (λ (i : ℕ). page_in p (length was) (slot_bytes p i (new.area 1).bytes)) k.same ∙ ap (λ (b : List ℕ). page_in p (length was) (slot_bytes p (last_slot s) b)) bytes)
      (holds k.to k.there));
  spans = λ spans told. let r = spans (sym tells ∙ told) in let long = ap (λ (b : List ℕ). length b) bytes in omega (arith, r, long, count);
}

pub reads_mirrors : (slots : List Slot) (old new : Story) → OnlyReads old new → KeepsMirrors slots slots old new
reads_mirrors slots old new reads = keeps_mirrors slots slots old new refl (λ p s e. stays p slots s e) (reads.tells 1) (ap (λ (a : Area). a.bytes) (reads.area 1))

pub unsettled_mirrors : (slots : List Slot) (old new : Story) (result : Did) → Synced 1 result old new → KeepsMirrors slots slots old new
unsettled_mirrors slots old new result synced = keeps_mirrors slots slots old new refl (λ p s e. stays p slots s e) (synced.time.tells 1) synced.bytes

pub settled_mirrors : (slots : List Slot) (old new : Story) (result : Did) → Synced 1 result old new → KeepsMirrors slots (map settled_slot slots) old new
settled_mirrors slots old new result synced = keeps_mirrors slots (map settled_slot slots) old new (map_length slots) (λ p s e. settles p slots s e) (synced.time.tells 1) synced.bytes

-- ## A load

pub loads_mirrored : (slots : List Slot) (g p : ℕ) (s : Slot) (now : Story) (y : Page) → slice_get slots p ≡ Some s → p < length slots → (Tells now 1 → HoldsIn (bounds_of slots g) p (slot_bytes p (last_slot s) (now.area 1).bytes) (held.Page y)) → LoadsMirrored slots g p now y
loads_mirrored slots g p s now y there lt given kept m told = m told p lt y (λ t e.
    subst (λ (z : Slot). HoldsIn (bounds_of slots g) p (slot_bytes p (last_slot z) (now.area 1).bytes) (held.Page y)) (same_Some s t (sym there ∙ e)) (given told))

-- ## A save

-- the bytes are no fewer
longer : (at : ℕ) (bytes old : List ℕ) → length old ≤ length (put_over at bytes old)
longer at bytes old = omega (arith, length-append {A = ℕ}, length-take {A = ℕ}, length-replicate {A = ℕ}, length-drop {A = ℕ})

-- where two have the same bytes from a place on
same_slot : (q : ℕ) (c d : List ℕ) → 1024 * q + 1024 ≤ length c → 1024 * q + 1024 ≤ length d → ((j : ℕ) → 1024 * q ≤ j → j < 1024 * q + 1024 → get_or c j 0 ≡ get_or d j 0) → piece 1024 q c ≡ piece 1024 q d
same_slot q c d lc ld same = ext_get_or 0 (piece 1024 q c) (piece 1024 q d) (omega (arith, lc, ld, length-take {A = ℕ}, length-drop {A = ℕ}))
    (λ i lt. let below : i < 1024 = omega (arith, lt, length-take 1024 (drop (1024 * q) c)) in
    get_or-take 1024 (drop (1024 * q) c) i 0 below ∙ get_or-drop (1024 * q) c i 0 ∙ same (1024 * q + i) (omega arith) (omega (arith, below)) ∙ sym (get_or-drop (1024 * q) d i 0) ∙ sym (get_or-take 1024 (drop (1024 * q) d) i 0 below))

-- a byte of a slot is in no other one
off_slot : (p i q k : ℕ) → i < 2 → k < 2 → (p ≡ q → i ≡ k → ⊥) → (j : ℕ) → place_of p i ≤ j → j < place_of p i + 1024 → (j < place_of q k) ⊎ (place_of q k + 1024 ≤ j)
off_slot p i q k li lk ne j from to = ⊎_elim
    (λ (l : 2 * q + k < 2 * p + i). inr (omega (arith, l, from)))
    (λ (l : 2 * p + i ≤ 2 * q + k). ⊎_elim
    (λ (e : 2 * p + i ≡ 2 * q + k). absurd (ne (omega (arith, e, li, lk)) (omega (arith, e, li, lk))))
    (λ (n : 2 * p + i ≡ 2 * q + k → ⊥). inl (omega (arith, n, l, to)))
    (cases_eq (2 * p + i) (2 * q + k)))
    (cases_lt (2 * q + k) (2 * p + i))

-- a byte that is in no range is apart from them
apart_all : (j : ℕ) (rs : List (ℕ × ℕ)) → ((r : ℕ × ℕ) → Has r rs → (j < r.0) ⊎ (r.0 + r.1 ≤ j)) → IsApart j rs
apart_all j [] each = tt
apart_all j (r ∷ rs) each = (each r (inl refl), apart_all j rs (λ q has. each q (inr has)))

-- where nothing was saved since the last sync, the firm slot was written last
firm_last : (s : Slot) → s.late ≡ false → last_slot s ≡ number_of s.second
firm_last s early = ap (λ b. number_of (cond b (not s.second) s.second)) early

module _ (slots : List Slot) (s : Slot) (y : Page) (there : slice_get slots y.number ≡ Some s) (early : s.late ≡ false) (few : y.number < length slots)
    (old new : Story) (slot : ℕ) (other : 1 - number_of s.second ≡ slot) (result : Did) (wrote : Wrote 1 (place_of y.number slot) (page_slot y) result old new) where
  told_old : Tells new 1 → Tells old 1
  told_old told = sym (wrote.time.tells 1) ∙ told

  half : slot < 2
  half = omega (arith, other)

  -- ### It is done
  module _ (law : EveryRead) (done : result ≡ did.Done) where
    abbrev save : Save
    save = record { page = y.number; slot = slot; node = y }

    bytes_are : Tells new 1 → (new.area 1).bytes ≡ put_over (place_of y.number slot) (page_slot y) (old.area 1).bytes
    bytes_are told = ap (λ (a : Area). a.bytes) (wrote.done (told_old told) done)

    spans_saved : Spans slots old → Spans (saved_slot y.number slots) new
    spans_saved spans told =
        let r = spans (told_old told) in
        let more = longer (place_of y.number slot) (page_slot y) (old.area 1).bytes in
        let size = ap (λ (b : List ℕ). length b) (bytes_are told) in
        let count = saved_length y.number slots in
        omega (arith, r, more, size, count)

    module _ (kept : ℕ → Contents) (g : ℕ) (stored : IsPage y.number (length slots) y) (spans : Spans slots old) (m : Mirrors slots g kept old) (told : Tells new 1) where
      are : AreSaves (length slots) (save ∷ [])
      are t (inl e) = subst (IsSave (length slots)) (sym e) (record { within = few; half = half; stored = stored })
      are t (inr h) = absurd h

      read : IsRead (length slots) (save ∷ []) (old.area 1)
      read = law (length slots) (save ∷ []) (old.area 1) are (spans (told_old told))

      -- the page that was saved
      here : (p : ℕ) → y.number ≡ p → (x : Page) → HoldsLast (saved_slot y.number slots) g p (new.area 1).bytes x → x ≡ y
      here p same x holds =
          let h = subst (λ (q : ℕ). HoldsLast (saved_slot y.number slots) g q (new.area 1).bytes x) (sym same) holds (record { second = s.second; late = true }) (saved_here y.number slots s there) in
          let it = holds_as (length (saved_slot y.number slots)) (length slots) g y.number (number_of (not s.second)) slot (new.area 1).bytes (saved (save ∷ []) (old.area 1)).bytes x (saved_length y.number slots)
          (ap (λ (i : ℕ). page_in y.number (length slots) (slot_bytes y.number i (new.area 1).bytes)) (sym (other_number s.second (number_of s.second) refl) ∙ other) ∙ ap (λ (b : List ℕ). page_in y.number (length slots) (slot_bytes y.number slot b)) (bytes_are told)) h in
          same_Some x y (sym it.0 ∙ read.holds.one ((λ t has. absurd has), tt) save (inl refl))

      -- any other
      beside : (p : ℕ) → (y.number ≡ p → ⊥) → (x : Page) → HoldsLast (saved_slot y.number slots) g p (new.area 1).bytes x → HoldsLast slots g p (old.area 1).bytes x
      beside p ne x holds t e =
          holds_as (length (saved_slot y.number slots)) (length slots) g p (last_slot t) (last_slot t) (new.area 1).bytes (old.area 1).bytes x (saved_length y.number slots)
          (ap (λ (b : List ℕ). page_in p (length slots) (slot_bytes p (last_slot t) b)) (bytes_are told) ∙ read.holds.other p (last_slot t) (last_half t) spared)
          (holds t (saved_beside y.number p slots ne ∙ e))
        where
          spared : (u : Save) → Has u (save ∷ []) → u.page ≡ p → u.slot ≡ last_slot t → ⊥
          spared u (inl e) at i = ne (ap (λ (z : Save). z.page) (sym e) ∙ at)
          spared u (inr h) at i = h

      mirrors_saved : (p : ℕ) → p < length (saved_slot y.number slots) → (x : Page) → HoldsLast (saved_slot y.number slots) g p (new.area 1).bytes x → image_page x ≡ upd kept y.number (image_page y) p
      mirrors_saved p lt x holds = ⊎_elim
          (λ (same : y.number ≡ p). ap image_page (here p same x holds) ∙ sym (upd_same kept y.number (image_page y) p (sym same)))
          (λ (ne : y.number ≡ p → ⊥). m (told_old told) p (let n = saved_length y.number slots in omega (arith, lt, n)) x (beside p ne x holds) ∙ sym (upd_other kept y.number (image_page y) p (λ e. ne (sym e))))
          (cases_eq y.number p)

    pub saves_mirrors : SavesMirrors slots (saved_slot y.number slots) y old new
    saves_mirrors = record {
      mirrors = λ kept g stored spans m told. mirrors_saved kept g stored spans m told;
      spans = spans_saved;
    }

  -- ### It failed
  module _ (pages : EveryPage) (was : IsLawful old) (is : IsLawful new) where
    -- the slot that was written last is none that is written now
    off : (p : ℕ) (t : Slot) → slice_get slots p ≡ Some t → (j : ℕ) → place_of p (last_slot t) ≤ j → j < place_of p (last_slot t) + 1024 → (j < place_of y.number slot) ⊎ (place_of y.number slot + 1024 ≤ j)
    off p t e = off_slot p (last_slot t) y.number slot (last_half t) half (λ same last.
        let one : t ≡ s = same_Some t s (sym e ∙ (ap (slice_get slots) same ∙ there)) in
        let firm = ap last_slot one ∙ firm_last s early in
        omega (arith, last, firm, other))

    stands : IsPage y.number (length slots) y → Tells new 1 → (p : ℕ) (t : Slot) → slice_get slots p ≡ Some t → IsOnDisk (place_of p (last_slot t)) (old.area 1) → slot_bytes p (last_slot t) (new.area 1).bytes ≡ slot_bytes p (last_slot t) (old.area 1).bytes
    stands stored told p t e disk =
        let left = wrote.crash (told_old told) (new.area 1).bytes (is.reads_so 1 told) in
        let size : length (page_slot y) ≡ 1024 = ((pages y.number (length slots) y).sealed (page_slot y) (record { holds = stored; spelled = refl })).long in
        let end = disk.within in
        let now_end = left.no_shorter in
        let old_end = (was.reads_so 1 (told_old told)).no_shorter in
        same_slot (2 * p + last_slot t) (new.area 1).bytes (old.area 1).bytes (omega (arith, end, now_end)) (omega (arith, end, old_end))
        (λ j from to. left.same j (omega (arith, end, to))
        (subst (λ (n : ℕ). (j < place_of y.number slot) ⊎ (place_of y.number slot + n ≤ j)) (sym size) (off p t e j (omega (arith, from)) (omega (arith, to))), disk.apart j (omega (arith, from)) (omega (arith, to))))

    pub fails_mirrors : FailsMirrors slots y old new
    fails_mirrors kept g stored m told p t e disk x holds = m (told_old told) p (there_few slots p t e) x (λ u f.
        subst (λ (z : Slot). HoldsIn (bounds_of slots g) p (slot_bytes p (last_slot z) (old.area 1).bytes) (held.Page x)) (same_Some t u (sym e ∙ f))
        (holds_as (length slots) (length slots) g p (last_slot t) (last_slot t) (new.area 1).bytes (old.area 1).bytes x refl (ap (page_in p (length slots)) (stands stored told p t e disk)) (holds t e)))

-- ## Where a run stands, and where one begins

module _ (whole : EveryWhole) (s0 : Crash) (g : Opening) (es : List Event) (x : Known) (slots : List Slot) (generation : ℕ) (now : Story) (on : IsOn g es s0 x slots now) where
  reaches : (n : ℕ) → n ≡ x.master.pages → Reaches (length slots) (now.area 1).bytes
  reaches zero e = let c = on.knows.count in omega (arith, e, c)
  reaches (suc n) e =
      let firm = on.stands.pages.firms n (omega (arith, e)) in
      let end = whole x.master.pages n (x.firm n).slot (now.area 1).bytes (x.firm n).page firm.there in
      let c = on.knows.count in
      omega (arith, e, c, end)

  within : (p : ℕ) (t : Slot) → slice_get slots p ≡ Some t → p < x.master.pages
  within p t e = let c = on.knows.count in let lt = there_few slots p t e in omega (arith, c, lt)

  on_disk : (p : ℕ) (t : Slot) → slice_get slots p ≡ Some t → t.late ≡ false → IsOnDisk (place_of p (last_slot t)) (now.area 1)
  on_disk p t e early = subst (λ (i : ℕ). IsOnDisk (place_of p i) (now.area 1)) (sym (firm_last t early ∙ sym (on.knows.each p t e).0)) (record {
    within = firm.end;
    apart = λ j from to. apart_all j (now.area 1).unsynced (λ range has.
        let it = on.stands.pages.unsynced range has in
        let half = firm.half in
        subst (λ (r : ℕ × ℕ). (j < r.0) ⊎ (r.0 + r.1 ≤ j)) (sym it.2) (off_slot p (x.firm p).slot it.0 (1 - (x.firm it.0).slot) half (omega arith) (λ same k.
        let one = ap (λ (q : ℕ). (x.firm q).slot) same in omega (arith, k, one, half)) j from to));
  })
    where
      firm : IsFirm g es x.master.pages x.master.generation p (x.firm p) (now.area 1)
      firm = on.stands.pages.firms p (within p t e)

  pub mirrored : IsMirror slots generation (state_after g es).saved now
  mirrored = record {
    mirrors = λ told p lt y holds. let k = there_is slots p lt in held_is s0 g es x slots generation p k.0 y now on lt k.1 (holds k.0 k.1);
    spans = λ told. reaches x.master.pages refl;
    on_disk = on_disk;
  }

opened_there : (p : ℕ) (ns : List ℕ) → p < length ns → slice_get (map opened_slot ns) p ≡ Some (opened_slot (get_or ns p 0))
opened_there p [] lt = absurd (omega arith)
opened_there zero (n ∷ ns) lt = refl
opened_there (suc p) (n ∷ ns) lt = opened_there p ns (omega arith)

pub starts : (now : Story) → EveryStart now
starts now firm g kept low given told p lt y holds =
    let few : p < length firm = (let n = opened_length firm in omega (arith, lt, n)) in
    let bytes = (now.area 1).bytes in
    given told p few y (holds_as (length (map opened_slot firm)) (length firm) g p (last_slot (opened_slot (get_or firm p 0))) (get_or firm p 0) bytes bytes y (opened_length firm)
    (ap (λ (i : ℕ). page_in p (length firm) (slot_bytes p i bytes)) (sym (number_one (get_or firm p 0) (low p few))))
    (holds (opened_slot (get_or firm p 0)) (opened_there p firm few)))
