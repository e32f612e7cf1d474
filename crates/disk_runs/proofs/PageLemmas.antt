-- What a crash leaves of the pages of a run.
use Rattle.std.proofs.Common.{◌≡◌, ◌⊎◌, inl, inr, ⊎_elim, ◌≤◌, ◌<◌, ◌+◌, ◌-◌, ◌*◌, ℕ, zero, suc, Bool, true, false, cond, ◌&&◌, leb, ltb, ◌==◌, List, Option, Some, None, codes, refl, sym, ap, ap₂, ◌∙◌, subst, arith}
use Rattle.std.proofs.lemmas.Bool.{cases_Bool, cases_lt, cases_eq, cond-true, cond-false, or_cases, or_left, or_right, and_parts, and_from, lt-ltb, ltb-true, eq-eqb, eqb-true, le-leb}
use Rattle.map_model.specs.Lists.{Has}
use Rattle.page_model.specs.Page.{Page}
use Rattle.master_store.specs.image_model.Entries as entries
use Rattle.master_store.specs.image_model.Fair.{piece, IsFair}
use Rattle.master_store.specs.image_model.Slots.{Slot, is_older, newer_page, valid}
use Rattle.lean_disk.specs.Area.{Area, IsApart, Leaves, Write}
use Rattle.core_disk.specs.core_state.Openings.{Opening}
use Rattle.core_disk.specs.core_state.Events.{Event}
use Rattle.master_store.specs.disk_slots.Slots.{IsSealed}
use Rattle.master_store.specs.disk_slots.declared.master.Master.{Master}
use Rattle.master_store.specs.disk_image.PageSlots.{page_in}
use Rattle.master_store.specs.disk_image.Shown.{page_slot_in, slot_of}
use Rattle.master_store.specs.page_store.Bases.{image_page}
use Rattle.master_store.specs.page_store.Saved.{place_of}
use Rattle.master_store.proofs.page_store.PieceLemmas.{every_whole, page_sealed, place_is, same_piece}
use Rattle.worker_log.proofs.RingLemmas.{apart}
use Rattle.core_disk.specs.Held.{HoldsPage, IsVersion}
use Rattle.disk_runs.proofs.SlotLemmas as slots
use Rattle.disk_runs.specs.Pages.{Firm, IsBehind, IsFirm, IsNoOlder, IsSpare, MayStand, PagesStand}

-- ## Two slots

abbrev pub slotted : Page → Slot
slotted x = record { generation = x.generation; page = image_page x }

pub older_true : (y x : Page) → IsBehind y x → is_older (slotted y) (slotted x) ≡ true
older_true y x (inl l) = or_left (ltb y.generation x.generation) ((y.generation == x.generation) && ltb y.gsn x.gsn) (lt-ltb y.generation x.generation l)
older_true y x (inr l) = or_right (ltb y.generation x.generation) ((y.generation == x.generation) && ltb y.gsn x.gsn) (and_from (y.generation == x.generation) (ltb y.gsn x.gsn) (eq-eqb y.generation x.generation l.0) (lt-ltb y.gsn x.gsn l.1))

never_both : (y x : Page) → IsBehind y x → IsBehind x y → ⊥
never_both y x (inl l) (inl k) = omega arith
never_both y x (inl l) (inr k) = let e = k.0 in omega arith
never_both y x (inr l) (inl k) = let e = l.0 in omega arith
never_both y x (inr l) (inr k) = let a = l.1 in let b = k.1 in omega arith

pub older_is : (y x : Page) → is_older (slotted y) (slotted x) ≡ true → IsBehind y x
older_is y x e = ⊎_elim
    (λ a. inl (ltb-true y.generation x.generation a))
    (λ b. let p = and_parts (y.generation == x.generation) (ltb y.gsn x.gsn) b in inr (eqb-true y.generation x.generation p.0, ltb-true y.gsn x.gsn p.1))
    (or_cases (ltb y.generation x.generation) ((y.generation == x.generation) && ltb y.gsn x.gsn) e)

older_false : (y x : Page) → IsBehind x y → is_older (slotted y) (slotted x) ≡ false
older_false y x b = ⊎_elim (λ e. absurd (never_both y x (older_is y x e) b)) (λ e. e) (cases_Bool (is_older (slotted y) (slotted x)))

never_older : (x y : Page) → y.generation ≡ x.generation → y.gsn ≡ x.gsn → is_older (slotted x) (slotted y) ≡ false
never_older x y a b = ⊎_elim (λ e. absurd (no (older_is x y e))) (λ e. e) (cases_Bool (is_older (slotted x) (slotted y)))
  where
    no : IsBehind x y → ⊥
    no (inl l) = omega arith
    no (inr l) = let q = l.1 in omega arith

pub valid_is : (generation : ℕ) (x : Page) → x.generation ≤ generation → valid generation (slot_of (Some x)) ≡ Some (slotted x)
valid_is generation x l = cond-true (leb x.generation generation) (Some (slotted x)) None (le-leb x.generation generation l)

choice : {A : Type 0} → (b : Bool) (x y : A) → (cond b x y ≡ x) ⊎ (cond b x y ≡ y)
choice true x y = inl refl
choice false x y = inr refl

-- the base of two slots
abbrev base_of_two : ℕ → Option Page → Option Page → Option entries.Contents
base_of_two generation a b = newer_page (valid generation (slot_of a)) (valid generation (slot_of b))

module _ (generation : ℕ) (x : Page) (low : x.generation ≤ generation) where
  pub first_alone : base_of_two generation (Some x) None ≡ Some (image_page x)
  first_alone = ap (λ (o : Option Slot). newer_page o None) (valid_is generation x low)

  pub second_alone : base_of_two generation None (Some x) ≡ Some (image_page x)
  second_alone = ap (λ (o : Option Slot). newer_page None o) (valid_is generation x low)

  module _ (y : Page) (least : y.generation ≤ generation) where
    two : base_of_two generation (Some x) (Some y) ≡ cond (is_older (slotted x) (slotted y)) (Some (image_page y)) (Some (image_page x))
    two = ap₂ newer_page (valid_is generation x low) (valid_is generation y least)

    two_back : base_of_two generation (Some y) (Some x) ≡ cond (is_older (slotted y) (slotted x)) (Some (image_page x)) (Some (image_page y))
    two_back = ap₂ newer_page (valid_is generation y least) (valid_is generation x low)

    pub first_ties : y.generation ≡ x.generation → y.gsn ≡ x.gsn → base_of_two generation (Some x) (Some y) ≡ Some (image_page x)
    first_ties a b = two ∙ cond-false (is_older (slotted x) (slotted y)) (Some (image_page y)) (Some (image_page x)) (never_older x y a b)

    pub first_counts : IsBehind y x → base_of_two generation (Some x) (Some y) ≡ Some (image_page x)
    first_counts b = two ∙ cond-false (is_older (slotted x) (slotted y)) (Some (image_page y)) (Some (image_page x)) (older_false x y b)

    pub second_counts : IsBehind y x → base_of_two generation (Some y) (Some x) ≡ Some (image_page x)
    second_counts b = two_back ∙ cond-true (is_older (slotted y) (slotted x)) (Some (image_page x)) (Some (image_page y)) (older_true y x b)

    first_one : (base_of_two generation (Some x) (Some y) ≡ Some (image_page x)) ⊎ (base_of_two generation (Some x) (Some y) ≡ Some (image_page y))
    first_one = ⊎_elim (λ e. inr (two ∙ e)) (λ e. inl (two ∙ e)) (choice (is_older (slotted x) (slotted y)) (Some (image_page y)) (Some (image_page x)))

    second_one : (base_of_two generation (Some y) (Some x) ≡ Some (image_page x)) ⊎ (base_of_two generation (Some y) (Some x) ≡ Some (image_page y))
    second_one = ⊎_elim (λ e. inl (two_back ∙ e)) (λ e. inr (two_back ∙ e)) (choice (is_older (slotted y) (slotted x)) (Some (image_page x)) (Some (image_page y)))

-- what stands in the other slot, if a page does
abbrev Beside : Opening → List Event → ℕ → ℕ → Firm → Option Page → Type 0
Beside g es generation p f None = Unit {0}
Beside g es generation p f (Some y) = MayStand g es generation p f y

-- the base, as a version
abbrev Based : Opening → List Event → ℕ → Option entries.Contents → Type 0
Based g es p o = (v : entries.Contents) × IsVersion g es p v × (o ≡ Some v)

module _ (g : Opening) (es : List Event) (generation p : ℕ) (x : Page) (low : x.generation ≤ generation) (version : IsVersion g es p (image_page x)) where
  base_first : (o : Option Page) → Beside g es generation p (record { slot = 0; page = x }) o → Based g es p (base_of_two generation (Some x) o)
  base_first None b = (image_page x, version, first_alone generation x low)
  base_first (Some y) b = ⊎_elim
      (λ yields. ⊎_elim
      (λ behind. (image_page x, version, first_counts generation x low y b.generation_is behind))
      (λ tie. (image_page x, version, first_ties generation x low y b.generation_is tie.1 tie.2))
      yields)
      (λ ahead. ⊎_elim (λ e. (image_page x, version, e)) (λ e. (image_page y, ahead.1, e)) (first_one generation x low y b.generation_is))
      b.is

  base_second : (o : Option Page) → Beside g es generation p (record { slot = 1; page = x }) o → Based g es p (base_of_two generation o (Some x))
  base_second None b = (image_page x, version, second_alone generation x low)
  base_second (Some y) b = ⊎_elim
      (λ yields. ⊎_elim
      (λ behind. (image_page x, version, second_counts generation x low y b.generation_is behind))
      (λ tie. absurd (let one = tie.0 in omega arith))
      yields)
      (λ ahead. ⊎_elim (λ e. (image_page x, version, e)) (λ e. (image_page y, ahead.1, e)) (second_one generation x low y b.generation_is))
      b.is

  slot_low : (f : Firm) (o : Option Page) → Beside g es generation p f o → (z : Slot) → slot_of o ≡ Some z → z.generation ≤ generation
  slot_low f None b z e = absurd (none_some z e)
    where
      none_some : (z : Slot) → ◌≡◌ {A = Option Slot} None (Some z) → ⊥
      none_some z e = cc
  slot_low f0 (Some y) b z e = let q : ◌≡◌ {A = Option Slot} (Some (slotted y)) (Some z) = e in let f : slotted y ≡ z = cc in let h : y.generation ≡ z.generation = ap (λ (s : Slot). s.generation) f in let k = b.generation_is in omega arith

-- ## What a crash leaves

module _ (g : Opening) (es : List Event) (pages generation : ℕ) (first : List ℕ) (older : List Write) (firm : ℕ → Firm) (late : ℕ → Option Page) (area : Area) (stands : PagesStand g es pages generation first older firm late area)
    (c : List ℕ) (left : Leaves area c) (fair : IsFair 1024 (IsSealed (codes "LEANPAGE")) first stands.since c) (p : ℕ) (lt : p < pages) where
  f : IsFirm g es pages generation p (firm p) area
  f = stands.firms p lt

  abbrev i : ℕ
  i = (firm p).slot

  -- the firm slot is none that is not synced
  off : (j : ℕ) → place_of p i ≤ j → j < place_of p i + 1024 → IsApart j area.unsynced
  off j from to = apart j area.unsynced (λ range has.
      let it = stands.unsynced range has in
      let q : ℕ = it.0 in
      let k : ℕ = (firm q).slot in
      let hk : k < 2 = (stands.firms q it.1).half in
      let hi : i < 2 = f.half in
      subst (λ (r : ℕ × ℕ). (j < r.0) ⊎ (r.0 + r.1 ≤ j)) (sym it.2) (beside j from to q k hk hi (λ e. ap (λ (z : ℕ). (firm z).slot) e)))
    where
      beside : (j : ℕ) → place_of p i ≤ j → j < place_of p i + 1024 → (q k : ℕ) → k < 2 → i < 2 → (q ≡ p → k ≡ i) → (j < place_of q (1 - k)) ⊎ (place_of q (1 - k) + 1024 ≤ j)
      beside j from to q k hk hi same = ⊎_elim
          (λ (l : 2 * q + (1 - k) < 2 * p + i). inr (omega (arith, l, from)))
          (λ (l : 2 * p + i ≤ 2 * q + (1 - k)). ⊎_elim
          (λ (e : q ≡ p). let s = same e in inl (omega (arith, e, s, hk, hi, l, to)))
          (λ (ne : q ≡ p → ⊥). inl (omega (arith, ne, hk, hi, l, to)))
          (cases_eq q p))
          (cases_lt (2 * q + (1 - k)) (2 * p + i))

  same : piece 1024 (2 * p + i) c ≡ piece 1024 (2 * p + i) area.bytes
  same =
      let end = f.end in
      let whole = every_whole pages p i area.bytes (firm p).page f.there in
      let longer = left.no_shorter in
      same_piece (2 * p + i) c area.bytes (omega arith) (omega arith) (λ j from to. left.same j (omega arith) (off j (omega arith) (omega arith)))

  there : page_slot_in pages p i c ≡ Some (firm p).page
  there = ap (page_in p pages) same ∙ f.there

  -- whatever page stands in a slot may stand there
  may_stand : (k : ℕ) → k < 2 → (y : Page) → page_slot_in pages p k c ≡ Some y → MayStand g es generation p (firm p) y
  may_stand k half y e = ⊎_elim
      (λ (stood : piece 1024 (2 * p + k) c ≡ piece 1024 (2 * p + k) first). stands.old p k y lt half (ap (page_in p pages) (sym stood) ∙ e))
      (λ (wrote : Has (1024 * (2 * p + k), piece 1024 (2 * p + k) c) stands.since). stands.new p k (piece 1024 (2 * p + k) c) y lt half
      (subst (λ (at : ℕ). Has (at, piece 1024 (2 * p + k) c) stands.since) (sym (place_is p k)) wrote) e)
      (slots.in_slot (IsSealed (codes "LEANPAGE")) first stands.since c stands.own fair (2 * p + k) (page_sealed pages p k c y e))

  beside : (k : ℕ) → k < 2 → (o : Option Page) → page_slot_in pages p k c ≡ o → Beside g es generation p (firm p) o
  beside k half None e = tt
  beside k half (Some y) e = may_stand k half y e

  in_slot : (k : ℕ) → i ≡ k → (o : Option Page) → Beside g es generation p (firm p) o → Beside g es generation p (record { slot = k; page = (firm p).page }) o
  in_slot k e o b = subst (λ (j : ℕ). Beside g es generation p (record { slot = j; page = (firm p).page }) o) e b

  based : (k : ℕ) → i ≡ k → k < 2 → Based g es p (base_of_two generation (page_slot_in pages p 0 c) (page_slot_in pages p 1 c))
  based zero e half =
      let t : page_slot_in pages p 0 c ≡ Some (firm p).page = subst (λ (k : ℕ). page_slot_in pages p k c ≡ Some (firm p).page) e there in
      subst (λ (o : Option Page). Based g es p (base_of_two generation o (page_slot_in pages p 1 c))) (sym t)
      (base_first g es generation p (firm p).page f.generation_is f.version (page_slot_in pages p 1 c) (in_slot 0 e (page_slot_in pages p 1 c) (beside 1 (omega arith) (page_slot_in pages p 1 c) refl)))
  based (suc zero) e half =
      let t : page_slot_in pages p 1 c ≡ Some (firm p).page = subst (λ (k : ℕ). page_slot_in pages p k c ≡ Some (firm p).page) e there in
      subst (λ (o : Option Page). Based g es p (base_of_two generation (page_slot_in pages p 0 c) o)) (sym t)
      (base_second g es generation p (firm p).page f.generation_is f.version (page_slot_in pages p 0 c) (in_slot 1 e (page_slot_in pages p 0 c) (beside 0 (omega arith) (page_slot_in pages p 0 c) refl)))
  based (suc (suc k)) e half = absurd (omega arith)

  pub slots_low : (k : ℕ) (z : Slot) → k < 2 → slot_of (page_slot_in pages p k c) ≡ Some z → z.generation ≤ generation
  slots_low k z half e = slot_low g es generation p (firm p).page f.generation_is f.version (firm p) (page_slot_in pages p k c) (beside k half (page_slot_in pages p k c) refl) z e

  pub is_based : Based g es p (base_of_two generation (page_slot_in pages p 0 c) (page_slot_in pages p 1 c))
  is_based = based i refl f.half

pub holds_page : (g : Opening) (es : List Event) (n : Master) (first : List ℕ) (older : List Write) (firm : ℕ → Firm) (late : ℕ → Option Page) (area : Area) (stands : PagesStand g es n.pages n.generation first older firm late area)
    (c : List ℕ) → Leaves area c → IsFair 1024 (IsSealed (codes "LEANPAGE")) first stands.since c → (p : ℕ) → p < n.pages → HoldsPage g es n p c
holds_page g es n first older firm late area stands c left fair p lt =
    let b = is_based g es n.pages n.generation first older firm late area stands c left fair p lt in record {
      page = b.0;
      version = b.1;
      base = b.2;
      slots = λ k z half e. slots_low g es n.pages n.generation first older firm late area stands c left fair p lt k z half e;
    }

-- ## Events

-- it is as it was where each version that may stand stays one
module _ (g : Opening) (es fs : List Event) (pages generation : ℕ) (first : List ℕ) (older : List Write) (firm : ℕ → Firm) (late : ℕ → Option Page) (area : Area)
    (stay : (p : ℕ) → p < pages → (y : Page) → IsNoOlder y (firm p).page → IsVersion g es p (image_page y) → IsVersion g fs p (image_page y))
    (stands : PagesStand g es pages generation first older firm late area) where
  may : (p : ℕ) → p < pages → (y : Page) → MayStand g es generation p (firm p) y → MayStand g fs generation p (firm p) y
  may p lt y m = record { generation_is = m.generation_is; is = ⊎_elim (λ b. inl b) (λ a. inr (a.0, stay p lt y a.0 a.1)) m.is }

  spare : (p : ℕ) → p < pages → (o : Option Page) → IsSpare g es pages generation p (firm p) o area → IsSpare g fs pages generation p (firm p) o area
  spare p lt None k = k
  spare p lt (Some y) k = record {
    there = k.there;
    generation_is = k.generation_is;
    newer = k.newer;
    number = k.number;
    version = stay p lt y (let e = k.generation_is in let f = (stands.firms p lt).generation_is in omega arith, k.number) k.version;
  }

  pub pages_then : PagesStand g fs pages generation first older firm late area
  pages_then = record {
    since = stands.since;
    writes = stands.writes;
    own = stands.own;
    firms = λ p lt. let f = stands.firms p lt in record { half = f.half; there = f.there; end = f.end; generation_is = f.generation_is; version = stay p lt (firm p).page (omega arith, omega arith) f.version };
    spares = λ p lt. spare p lt (late p) (stands.spares p lt);
    unsynced = stands.unsynced;
    old = λ p i y lt half e. may p lt y (stands.old p i y lt half e);
    new = λ p i b y lt half has e. may p lt y (stands.new p i b y lt half has e);
  }
