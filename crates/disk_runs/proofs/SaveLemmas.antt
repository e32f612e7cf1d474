-- A page is saved to the slot that is not its firm one, and the pages are synced.
use Rattle.std.proofs.Common.{◌≡◌, ◌⊎◌, inl, inr, ⊎_elim, ◌≤◌, ◌<◌, ◌+◌, ◌-◌, ◌*◌, ℕ, zero, suc, List, ◌∷◌, length, Option, Some, None, refl, sym, ap, ◌∙◌, subst, arith}
use Rattle.std.proofs.lemmas.Bool.{cases_eq, cases_lt}
use Rattle.map_model.specs.Lists.{Has, upd}
use Rattle.page_model.specs.Page.{Page}
use Rattle.master_store.specs.image_model.Entries as entries
use Rattle.master_store.specs.image_model.Fair.{piece}
use Rattle.master_store.specs.image_model.Slots.{newer_page, valid}
use Rattle.lean_disk.specs.Area.{Area, Write, put_over, synced, torn, written}
use Rattle.map_model.proofs.ListLemmas.{upd_same, upd_other}
use Rattle.core_disk.specs.core_state.Openings.{Opening}
use Rattle.core_disk.specs.core_state.Events.{Event}
use Rattle.master_store.specs.disk_slots.Pages.{IsPage, page_slot}
use Rattle.master_store.specs.disk_image.PageSlots.{page_in}
use Rattle.master_store.specs.disk_image.Shown.{page_slot_in, slot_of}
use Rattle.master_store.proofs.disk_image.PageSlotLemmas.{every_page_in}
use Rattle.master_store.specs.page_store.Bases.{image_page}
use Rattle.master_store.specs.page_store.Saved.{place_of}
use Rattle.master_store.proofs.page_store.PieceLemmas.{every_whole, page_there, place_is, same_page, slot_size, write_here, write_other}
use Rattle.core_disk.specs.Held.{IsVersion}
use Rattle.disk_runs.specs.Fair.{IsSlotWrite}
use Rattle.disk_runs.proofs.SlotLemmas.{own_more}
use Rattle.disk_runs.specs.Pages.{Firm, IsBehind, IsFirm, IsLater, IsNoOlder, IsSpare, MayStand, PagesStand, Yields, last_saved, settled}
use Rattle.disk_runs.proofs.PageLemmas.{first_alone, first_counts, first_ties, second_alone, second_counts}

pub page_of_some : (x y : Page) → Some x ≡ Some y → x ≡ y
page_of_some x y e = ap or_x e
  where
    or_x : Option Page → Page
    or_x (Some z) = z
    or_x None = x

behind_then : (z y x : Page) → IsBehind z y → IsBehind y x → IsBehind z x
behind_then z y x (inl a) (inl b) = inl (omega arith)
behind_then z y x (inl a) (inr b) = inl (let e = b.0 in omega arith)
behind_then z y x (inr a) (inl b) = inl (let e = a.0 in omega arith)
behind_then z y x (inr a) (inr b) = inr (a.0 ∙ b.0, let p = a.1 in let q = b.1 in omega arith)

yields_then : (f : Firm) (z x : Page) → Yields f z → IsBehind f.page x → IsBehind z x
yields_then f z x (inl b) n = behind_then z f.page x b n
yields_then f z x (inr tie) (inl l) = inl (let e = tie.1 in omega arith)
yields_then f z x (inr tie) (inr l) = inr (tie.1 ∙ l.0, let e = tie.2 in let q = l.1 in omega arith)

module _ (g : Opening) (es : List Event) (pages generation : ℕ) (first : List ℕ) (older : List Write) (firm : ℕ → Firm) (late : ℕ → Option Page) (area : Area)
    (stands : PagesStand g es pages generation first older firm late area) where
  -- ## One save more
  module _ (p : ℕ) (lt : p < pages) (y : Page) (stored : IsPage p pages y) (own : y.generation ≡ generation) (newer : IsBehind (firm p).page y) (number : (firm p).page.gsn ≤ y.gsn)
      (version : IsVersion g es p (image_page y)) where
    abbrev k : ℕ
    k = 1 - (firm p).slot

    abbrev at : ℕ
    at = place_of p k

    abbrev bytes : List ℕ
    bytes = page_slot y

    half : (firm p).slot < 2
    half = (stands.firms p lt).half

    half_k : k < 2
    half_k = omega arith

    size : length bytes ≡ 1024
    size = slot_size pages p y stored

    mine : MayStand g es generation p (firm p) y
    mine = record { generation_is = omega arith; is = inr ((let e = own in let f = (stands.firms p lt).generation_is in omega arith, number), version) }

    stored_there : page_in p pages bytes ≡ Some y
    stored_there = (every_page_in p pages bytes y).1 (record { holds = stored; spelled = refl })

    new_may : (q i : ℕ) (b : List ℕ) (z : Page) → q < pages → i < 2 → Has (place_of q i, b) ((at, bytes) ∷ stands.since) → page_in q pages b ≡ Some z → MayStand g es generation q (firm q) z
    new_may q i b z lq hi (inr old) e = stands.new q i b z lq hi old e
    new_may q i b z lq hi (inl is) e =
        let places : place_of q i ≡ at = ap (λ (w : Write). w.0) is in
        let same : q ≡ p = (same_page p k q i half_k hi (omega arith)).0 in
        let spelled : b ≡ bytes = ap (λ (w : Write). w.1) is in
        let there : page_in p pages bytes ≡ Some z = subst (λ (v : List ℕ). page_in p pages v ≡ Some z) spelled (subst (λ (u : ℕ). page_in u pages b ≡ Some z) same e) in
        let one : y ≡ z = page_of_some y z (sym stored_there ∙ there) in
        subst (λ (u : ℕ). MayStand g es generation u (firm u) z) (sym same) (subst (MayStand g es generation p (firm p)) one mine)

    late_range : (range : ℕ × ℕ) → Has range ((at, length bytes) ∷ area.unsynced) → (q : ℕ) × (q < pages) × (range ≡ (place_of q (1 - (firm q).slot), 1024))
    late_range range (inl e) = (p, lt, e ∙ ap (λ (n : ℕ). let r : ℕ × ℕ = (at, n) in r) size)
    late_range range (inr old) = stands.unsynced range old

    own_save : (w : Write) → Has w ((at, bytes) ∷ stands.since) → IsSlotWrite w
    own_save = own_more (at, bytes) stands.since (record { slot = 2 * p + k; place = place_is p k; whole = size }) stands.own

    -- while it is written
    pub torn_stands : PagesStand g es pages generation first older firm late (torn at bytes area)
    torn_stands = record {
      since = (at, bytes) ∷ stands.since;
      writes = ap (λ (ws : List Write). (at, bytes) ∷ ws) stands.writes;
      own = own_save;
      firms = λ q lq. let f = stands.firms q lq in record { half = f.half; there = f.there; end = f.end; generation_is = f.generation_is; version = f.version };
      spares = λ q lq. torn_spare q (late q) (stands.spares q lq);
      unsynced = late_range;
      old = stands.old;
      new = new_may;
    }
      where
        torn_spare : (q : ℕ) (o : Option Page) → IsSpare g es pages generation q (firm q) o area → IsSpare g es pages generation q (firm q) o (torn at bytes area)
        torn_spare q None s = s
        torn_spare q (Some z) s = record { there = s.there; generation_is = s.generation_is; newer = s.newer; number = s.number; version = s.version }

    pub torn_since : torn_stands.since ≡ (at, bytes) ∷ stands.since
    unfolding torn_stands
    torn_since = refl

    abbrev after : List ℕ
    after = put_over at bytes area.bytes

    reach : at ≤ length area.bytes
    reach = let w = every_whole pages p (firm p).slot area.bytes (firm p).page (stands.firms p lt).there in let h = half in omega arith

    here : piece 1024 (2 * p + k) after ≡ bytes
    here = write_here at (2 * p + k) bytes area.bytes (place_is p k) size reach

    other : (q i : ℕ) → i < 2 → ((q ≡ p) × (i ≡ k) → ⊥) → page_slot_in pages q i after ≡ page_slot_in pages q i area.bytes
    other q i hi ne = ap (page_in q pages) (write_other at (2 * p + k) bytes area.bytes (place_is p k) size reach (2 * q + i) (λ e. ne (same_page p k q i half_k hi (sym e))))

    off_firm : (q : ℕ) → q < pages → (q ≡ p) × ((firm q).slot ≡ k) → ⊥
    off_firm q lq e = let s : (firm q).slot ≡ (firm p).slot = ap (λ (u : ℕ). (firm u).slot) e.0 in let h = half in let f = e.1 in omega arith

    -- after it was written
    pub written_stands : PagesStand g es pages generation first older firm (upd late p (Some y)) (written at bytes area)
    written_stands = record {
      since = (at, bytes) ∷ stands.since;
      writes = ap (λ (ws : List Write). (at, bytes) ∷ ws) stands.writes;
      own = own_save;
      firms = λ q lq. let f = stands.firms q lq in record {
        half = f.half;
        there = other q (firm q).slot f.half (off_firm q lq) ∙ f.there;
        end = f.end;
        generation_is = f.generation_is;
        version = f.version;
      };
      spares = λ q lq. ⊎_elim (λ (e : q ≡ p). own_spare q e) (λ (ne : q ≡ p → ⊥). other_spare q lq ne) (cases_eq q p);
      unsynced = late_range;
      old = stands.old;
      new = new_may;
    }
      where
        is_later : IsLater g es pages generation p (firm p) y (written at bytes area)
        is_later = record { there = page_there pages p k after y stored here; generation_is = own; newer = newer; number = number; version = version }

        own_spare : (q : ℕ) → q ≡ p → IsSpare g es pages generation q (firm q) (upd late p (Some y) q) (written at bytes area)
        own_spare q e = subst (λ (o : Option Page). IsSpare g es pages generation q (firm q) o (written at bytes area)) (sym (upd_same late p (Some y) q e))
            (subst (λ (u : ℕ). IsLater g es pages generation u (firm u) y (written at bytes area)) (sym e) is_later)

        keep : (q : ℕ) → q < pages → (q ≡ p → ⊥) → (o : Option Page) → IsSpare g es pages generation q (firm q) o area → IsSpare g es pages generation q (firm q) o (written at bytes area)
        keep q lq ne None s = λ z e. s z (sym (other q (1 - (firm q).slot) (omega arith) (λ b. ne b.0)) ∙ e)
        keep q lq ne (Some z) s = record { there = other q (1 - (firm q).slot) (omega arith) (λ b. ne b.0) ∙ s.there; generation_is = s.generation_is; newer = s.newer; number = s.number; version = s.version }

        other_spare : (q : ℕ) → q < pages → (q ≡ p → ⊥) → IsSpare g es pages generation q (firm q) (upd late p (Some y) q) (written at bytes area)
        other_spare q lq ne = subst (λ (o : Option Page). IsSpare g es pages generation q (firm q) o (written at bytes area)) (sym (upd_other late p (Some y) q ne)) (keep q lq ne (late q) (stands.spares q lq))

  -- ## A sync

  firm_after : (p : ℕ) → p < pages → (o : Option Page) → IsSpare g es pages generation p (firm p) o area → IsFirm g es pages generation p (settled (firm p) o) (synced area)
  firm_after p lt None s = let f = stands.firms p lt in record { half = f.half; there = f.there; end = every_whole pages p (firm p).slot area.bytes (firm p).page f.there; generation_is = f.generation_is; version = f.version }
  firm_after p lt (Some y) s = record {
    half = let h = (stands.firms p lt).half in omega arith;
    there = s.there;
    end = every_whole pages p (1 - (firm p).slot) area.bytes y s.there;
    generation_is = let e = s.generation_is in omega arith;
    version = s.version;
  }

  spare_after : (p : ℕ) → p < pages → (o : Option Page) → IsSpare g es pages generation p (firm p) o area → (z : Page) → page_slot_in pages p (1 - (settled (firm p) o).slot) area.bytes ≡ Some z → Yields (settled (firm p) o) z
  spare_after p lt None s z e = s z e
  spare_after p lt (Some y) s z e =
      let f = stands.firms p lt in
      let back : 1 - (1 - (firm p).slot) ≡ (firm p).slot = (let h = f.half in omega arith) in
      let there : page_slot_in pages p (firm p).slot area.bytes ≡ Some z = subst (λ (i : ℕ). page_slot_in pages p i area.bytes ≡ Some z) back e in
      inl (subst (λ (u : Page). IsBehind u y) (page_of_some (firm p).page z (sym f.there ∙ there)) s.newer)

  may_after : (p : ℕ) → (o : Option Page) → IsSpare g es pages generation p (firm p) o area → (z : Page) → MayStand g es generation p (firm p) z → MayStand g es generation p (settled (firm p) o) z
  may_after p None s z m = m
  may_after p (Some y) s z m = record { generation_is = m.generation_is; is = ⊎_elim (λ b. inl (inl (yields_then (firm p) z y b s.newer))) (λ a. compare a.1) m.is }
    where
      compare : IsVersion g es p (image_page z) → Yields (settled (firm p) (Some y)) z ⊎ (IsNoOlder z y × IsVersion g es p (image_page z))
      compare v = ⊎_elim
          (λ (l : z.generation < y.generation). inl (inl (inl l)))
          (λ (ge : y.generation ≤ z.generation).
          let e = s.generation_is in let f = m.generation_is in
          let same : z.generation ≡ y.generation = omega arith in
          ⊎_elim (λ (l : z.gsn < y.gsn). inl (inl (inr (same, l)))) (λ (l : y.gsn ≤ z.gsn). inr ((ge, l), v)) (cases_lt z.gsn y.gsn))
          (cases_lt z.generation y.generation)

  pub synced_stands : PagesStand g es pages generation first older (λ p. settled (firm p) (late p)) (λ _. None) (synced area)
  synced_stands = record {
    since = stands.since;
    writes = stands.writes;
    own = stands.own;
    firms = λ p lt. firm_after p lt (late p) (stands.spares p lt);
    spares = λ p lt. spare_after p lt (late p) (stands.spares p lt);
    unsynced = λ range has. absurd has;
    old = λ p i z lt half e. may_after p (late p) (stands.spares p lt) z (stands.old p i z lt half e);
    new = λ p i b z lt half has e. may_after p (late p) (stands.spares p lt) z (stands.new p i b z lt half has e);
  }

  -- ## A read

  abbrev base_of_two : Option Page → Option Page → Option entries.Contents
  base_of_two a b = newer_page (valid generation (slot_of a)) (valid generation (slot_of b))

  abbrev BaseBy : ℕ → ℕ → Page → Type 0
  BaseBy p i x = (o other : Option Page) → page_slot_in pages p i area.bytes ≡ o → page_slot_in pages p (1 - i) area.bytes ≡ other → base_of_two (page_slot_in pages p 0 area.bytes) (page_slot_in pages p 1 area.bytes) ≡ Some (image_page x)

  -- the page in slot i counts, and the other slot holds an older one or none
  base_by : (p i : ℕ) → i < 2 → (x : Page) → x.generation ≤ generation → page_slot_in pages p i area.bytes ≡ Some x → ((z : Page) → page_slot_in pages p (1 - i) area.bytes ≡ Some z → (z.generation ≤ generation) × Yields (record { slot = i; page = x }) z)
      → base_of_two (page_slot_in pages p 0 area.bytes) (page_slot_in pages p 1 area.bytes) ≡ Some (image_page x)
  base_by p zero h x low e beside = ap (λ (o : Option Page). base_of_two o (page_slot_in pages p 1 area.bytes)) e ∙ go (page_slot_in pages p 1 area.bytes) refl
    where
      go : (o : Option Page) → page_slot_in pages p 1 area.bytes ≡ o → base_of_two (Some x) o ≡ Some (image_page x)
      go None q = first_alone generation x low
      go (Some z) q = let b = beside z q in ⊎_elim (λ l. first_counts generation x low z b.0 l) (λ tie. first_ties generation x low z b.0 tie.1 tie.2) b.1
  base_by p (suc zero) h x low e beside = ap (λ (o : Option Page). base_of_two (page_slot_in pages p 0 area.bytes) o) e ∙ go (page_slot_in pages p 0 area.bytes) refl
    where
      go : (o : Option Page) → page_slot_in pages p 0 area.bytes ≡ o → base_of_two o (Some x) ≡ Some (image_page x)
      go None q = second_alone generation x low
      go (Some z) q = let b = beside z q in ⊎_elim (λ l. second_counts generation x low z b.0 l) (λ tie. absurd (let one = tie.0 in omega arith)) b.1
  base_by p (suc (suc i)) h x low e beside = absurd (omega arith)

  low_yields : (f0 : Firm) (z : Page) → f0.page.generation ≤ generation → Yields f0 z → z.generation ≤ generation
  low_yields f0 z low (inl (inl l)) = omega arith
  low_yields f0 z low (inl (inr l)) = let e = l.0 in omega arith
  low_yields f0 z low (inr tie) = let e = tie.1 in omega arith

  -- the base of a page, as it reads, is its last save
  pub base_read : (p : ℕ) → p < pages → base_of_two (page_slot_in pages p 0 area.bytes) (page_slot_in pages p 1 area.bytes) ≡ Some (image_page (last_saved (firm p) (late p)))
  base_read p lt = go (late p) (stands.spares p lt)
    where
      f : IsFirm g es pages generation p (firm p) area
      f = stands.firms p lt

      go : (o : Option Page) → IsSpare g es pages generation p (firm p) o area → base_of_two (page_slot_in pages p 0 area.bytes) (page_slot_in pages p 1 area.bytes) ≡ Some (image_page (last_saved (firm p) o))
      go None s = base_by p (firm p).slot f.half (firm p).page f.generation_is f.there (λ z e. (low_yields (firm p) z f.generation_is (s z e), s z e))
      go (Some y) s = base_by p (1 - (firm p).slot) (let h = f.half in omega arith) y (let e = s.generation_is in omega arith) s.there
          (λ z e.
          let back : 1 - (1 - (firm p).slot) ≡ (firm p).slot = (let h = f.half in omega arith) in
          let there : page_slot_in pages p (firm p).slot area.bytes ≡ Some z = subst (λ (i : ℕ). page_slot_in pages p i area.bytes ≡ Some z) back e in
          let one : (firm p).page ≡ z = page_of_some (firm p).page z (sym f.there ∙ there) in
          let b : IsBehind z y = subst (λ (u : Page). IsBehind u y) one s.newer in
          (low_yields (record { slot = 1 - (firm p).slot; page = y }) z (let q = s.generation_is in omega arith) (inl b), inl b))

  -- none of its slots, as they read, is of a later generation
  pub slots_read : (p : ℕ) → p < pages → (k : ℕ) → k < 2 → (y : Page) → page_slot_in pages p k area.bytes ≡ Some y → y.generation ≤ generation
  slots_read p lt k half y e = ⊎_elim
      (λ (same : k ≡ (firm p).slot). let q = ap (λ (z : Page). z.generation) (page_of_some (firm p).page y (sym f.there ∙ subst (λ (i : ℕ). page_slot_in pages p i area.bytes ≡ Some y) same e)) in let l = f.generation_is in omega arith)
      (λ (ne : k ≡ (firm p).slot → ⊥). go (late p) (stands.spares p lt) (subst (λ (i : ℕ). page_slot_in pages p i area.bytes ≡ Some y) (let h = f.half in omega arith) e))
      (cases_eq k (firm p).slot)
    where
      f : IsFirm g es pages generation p (firm p) area
      f = stands.firms p lt

      go : (o : Option Page) → IsSpare g es pages generation p (firm p) o area → page_slot_in pages p (1 - (firm p).slot) area.bytes ≡ Some y → y.generation ≤ generation
      go None s there = low_yields (firm p) y f.generation_is (s y there)
      go (Some z) s there = let q = ap (λ (u : Page). u.generation) (page_of_some z y (sym s.there ∙ there)) in let l = s.generation_is in omega arith

  -- and the last save is a version that a crash may leave
  pub version_read : (p : ℕ) → p < pages → IsVersion g es p (image_page (last_saved (firm p) (late p)))
  version_read p lt = go (late p) (stands.spares p lt)
    where
      go : (o : Option Page) → IsSpare g es pages generation p (firm p) o area → IsVersion g es p (image_page (last_saved (firm p) o))
      go None s = (stands.firms p lt).version
      go (Some z) s = s.version
