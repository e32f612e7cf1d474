-- The newer of two slots, and the base of a page.
use Rattle.std.proofs.Common.{◌≡◌, ◌⊎◌, inl, inr, ⊎_elim, ℕ, zero, suc, ◌+◌, ◌-◌, ◌*◌, ◌≤◌, ◌<◌, Bool, true, false, ◌&&◌, ◌||◌, ◌==◌, ltb, List, length, leb, Option, Some, None, refl, sym, ◌∙◌, ap, subst, arith, true≢false}
use Rattle.std.proofs.lemmas.Bool.{and_from, and_parts, cases_Bool, cases_lt, cond-true, cond-false, eq-eqb, eqb-true, leb-true, le-leb, lt-leb, lt-ltb, le-ltb, ltb-true, ne_eqb, or_cases, or_left, or_right}
use Rattle.std.proofs.lemmas.Option.{same_Some}
use Rattle.page_model.specs.Page.{Page}
use Rattle.disk_image.specs.image_model.Entries as model
use Rattle.disk_image.specs.image_model.Slots.{Slot, base_of, newer_page, valid}
use Rattle.disk_image.specs.disk_slots.declared.master.Master.{Master}
use Rattle.disk_image.specs.PageSlots.{page_in}
use Rattle.disk_image.specs.Shown.{Areas, page_slot_in, shown_by, slot_of}
use Rattle.disk_image.specs.Breaks.{HasNoBase}
use Rattle.page_store.specs.Bases.{IsAhead, IsBase, IsOlder, IsOwn, YieldsTo, image_page}
use Rattle.page_store.specs.Inside.{is_ahead, is_older_page, newest, page_of, valid_in, valid_page}
use Rattle.page_store.specs.Laws.{EveryReach}
use Rattle.page_store.specs.Slots.{HoldsIn, IsHeldOf, IsOf, slot_bytes}
use Rattle.page_store.specs.declared.base.Base.{Base}
use Rattle.page_store.specs.declared.slot.Bounds.{Bounds}
use Rattle.page_store.specs.declared.slot.Held.{Held}
use Rattle.page_store.specs.declared.slot.Held.TheVariants as held
use Rattle.page_store.specs.declared.slot.Seal.TheVariants as seal
use Rattle.page_store.proofs.SlotLemmas.{unsealed}
use Rattle.page_store.proofs.PieceLemmas.{every_whole}

-- ## What is valid

if_valid : (g : ℕ) (p q : Page) → valid_page g (Some p) ≡ Some q → (p ≡ q) × (q.generation ≤ g)
if_valid g p q is = go (cases_Bool (leb p.generation g))
  where
    go : (leb p.generation g ≡ true) ⊎ (leb p.generation g ≡ false) → (p ≡ q) × (q.generation ≤ g)
    go (inl yes_it) =
        let same : ◌≡◌ {A = Option Page} (Some p) (Some q) = sym (cond-true (leb p.generation g) (Some p) None yes_it) ∙ is in
        let e : p ≡ q = cc in
        (e, subst (λ (x : Page). x.generation ≤ g) e (leb-true p.generation g yes_it))
    go (inr no_it) =
        let same : ◌≡◌ {A = Option Page} None (Some q) = sym (cond-false (leb p.generation g) (Some p) None no_it) ∙ is in
        absurd (let never : ⊥ = cc in never)

pub valid_some : (g : ℕ) (o : Option Page) (q : Page) → valid_page g o ≡ Some q → (o ≡ Some q) × (q.generation ≤ g)
valid_some g (Some p) q is = let it = if_valid g p q is in (ap (λ (x : Page). Some x) it.0, it.1)
valid_some g None q is = absurd (let never : ⊥ = cc in never)

valid_is : (g : ℕ) (p : Page) → p.generation ≤ g → valid_page g (Some p) ≡ Some p
valid_is g p le = cond-true (leb p.generation g) (Some p) None (le-leb p.generation g le)

-- what a slot holds is what is valid of it
pub held_valid : (b : Bounds) (p : ℕ) (bytes : List ℕ) (h : Held) → HoldsIn b p bytes h → IsHeldOf b p h → page_of h ≡ valid_page b.generation (page_in p b.pages bytes)
held_valid b p bytes (held.Page x) is own = sym (ap (valid_page b.generation) is.0 ∙ valid_is b.generation x is.1)
held_valid b p bytes (held.NoPage seal.NoSeal) is own = sym (ap (valid_page b.generation) (unsealed p b.pages bytes is))
held_valid b p bytes (held.NoPage seal.Malformed) is own = sym (ap (valid_page b.generation) is.1)
held_valid b p bytes (held.NoPage seal.LaterGeneration) is own = sym (ap (valid_page b.generation) is.1 ∙ cond-false (leb is.0.generation b.generation) (Some is.0) None (lt-leb is.0.generation b.generation is.2))
held_valid b p bytes (held.NoPage seal.Valid) is own = absurd (own refl)

-- whether it is of a later generation
abbrev IsLater : ℕ → Option Page → Bool → Type 0
IsLater g o true = (y : Page) × (o ≡ Some y) × (g < y.generation)
IsLater g o false = (y : Page) → o ≡ Some y → y.generation ≤ g

none_later_held : (g : ℕ) (o : Option Page) → o ≡ None → IsLater g o false
none_later_held g o e y there = absurd (let never : ◌≡◌ {A = Option Page} None (Some y) = sym e ∙ there in cc)

held_later : (b : Bounds) (p : ℕ) (bytes : List ℕ) (h : Held) → HoldsIn b p bytes h → IsHeldOf b p h → IsLater b.generation (page_in p b.pages bytes) (is_ahead h)
held_later b p bytes (held.Page x) is own = λ y e. subst (λ (z : Page). z.generation ≤ b.generation) (same_Some x y (sym is.0 ∙ e)) is.1
held_later b p bytes (held.NoPage seal.NoSeal) is own = none_later_held b.generation (page_in p b.pages bytes) (unsealed p b.pages bytes is)
held_later b p bytes (held.NoPage seal.Malformed) is own = none_later_held b.generation (page_in p b.pages bytes) is.1
held_later b p bytes (held.NoPage seal.LaterGeneration) is own = is
held_later b p bytes (held.NoPage seal.Valid) is own = absurd (own refl)

-- the model's choice among slots is that among what they hold
same_valid : (g : ℕ) (o : Option Page) → valid g (slot_of o) ≡ slot_of (valid_page g o)
same_valid g None = refl
same_valid g (Some p) =
    let slot : Slot = record { generation = p.generation; page = image_page p } in
    elim (cases_Bool (leb p.generation g)) [
      | inl yes_it ↦ cond-true (leb p.generation g) (Some slot) None yes_it ∙ ap slot_of (sym (cond-true (leb p.generation g) (Some p) None yes_it))
      | inr no_it ↦ cond-false (leb p.generation g) (Some slot) None no_it ∙ ap slot_of (sym (cond-false (leb p.generation g) (Some p) None no_it))
    ]

-- ## The newer of two

-- the base is what one of them holds
abbrev IsChoice : Option Page → Option Page → Base → Type 0
IsChoice a b base = ((base.slot ≡ 0) × (a ≡ Some base.node)) ⊎ ((base.slot ≡ 1) × (b ≡ Some base.node))

abbrev in_slot : ℕ → Page → Base
in_slot i x = record { node = x; slot = i }

abbrev model_newer : Option Page → Option Page → Option model.Contents
model_newer a b = newer_page (slot_of a) (slot_of b)

-- what the newest of both is, by what the model takes
record IsTaken (a b : Option Page) (base : Base) : Type 0 where
  choice : IsChoice a b base
  taken : model_newer a b ≡ Some (image_page base.node)

take_first : (a b : Option Page) (x : Page) (base : Base) → a ≡ Some x → model_newer a b ≡ Some (image_page x) → base ≡ in_slot 0 x → IsTaken a b base
take_first a b x base is taken e = record {
  choice = inl (ap (λ (y : Base). y.slot) e, is ∙ ap (λ (y : Base). Some y.node) (sym e));
  taken = taken ∙ ap (λ (y : Base). Some (image_page y.node)) (sym e);
}

take_second : (a b : Option Page) (x : Page) (base : Base) → b ≡ Some x → model_newer a b ≡ Some (image_page x) → base ≡ in_slot 1 x → IsTaken a b base
take_second a b x base is taken e = record {
  choice = inr (ap (λ (y : Base). y.slot) e, is ∙ ap (λ (y : Base). Some y.node) (sym e));
  taken = taken ∙ ap (λ (y : Base). Some (image_page y.node)) (sym e);
}

same_some : (x y : Base) → ◌≡◌ {A = Option Base} (Some x) (Some y) → x ≡ y
same_some x y e = cc

is_taken : (a b : Option Page) (base : Base) → Some base ≡ newest a b → IsTaken a b base
is_taken None None base is = absurd (let never : ⊥ = cc in never)
is_taken (Some x) None base is = take_first (Some x) None x base refl refl (same_some base (in_slot 0 x) is)
is_taken None (Some y) base is = take_second None (Some y) y base refl refl (same_some base (in_slot 1 y) is)
is_taken (Some x) (Some y) base is = go (cases_Bool (is_older_page x y))
  where
    go : (is_older_page x y ≡ true) ⊎ (is_older_page x y ≡ false) → IsTaken (Some x) (Some y) base
    go (inl older) = take_second (Some x) (Some y) y base refl (cond-true (is_older_page x y) (Some (image_page y)) (Some (image_page x)) older)
        (same_some base (in_slot 1 y) (is ∙ cond-true (is_older_page x y) (Some (in_slot 1 y)) (Some (in_slot 0 x)) older))
    go (inr newer) = take_first (Some x) (Some y) x base refl (cond-false (is_older_page x y) (Some (image_page y)) (Some (image_page x)) newer)
        (same_some base (in_slot 0 x) (is ∙ cond-false (is_older_page x y) (Some (in_slot 1 y)) (Some (in_slot 0 x)) newer))

none_taken : (a b : Option Page) → None ≡ newest a b → model_newer a b ≡ None
none_taken None None is = refl
none_taken (Some x) None is = absurd (let never : ⊥ = cc in never)
none_taken None (Some y) is = absurd (let never : ⊥ = cc in never)
none_taken (Some x) (Some y) is = go (cases_Bool (is_older_page x y))
  where
    go : (is_older_page x y ≡ true) ⊎ (is_older_page x y ≡ false) → model_newer (Some x) (Some y) ≡ None
    go (inl older) = absurd (let e : ◌≡◌ {A = Option Base} None (Some (in_slot 1 y)) = is ∙ cond-true (is_older_page x y) (Some (in_slot 1 y)) (Some (in_slot 0 x)) older in let never : ⊥ = cc in never)
    go (inr newer) = absurd (let e : ◌≡◌ {A = Option Base} None (Some (in_slot 0 x)) = is ∙ cond-false (is_older_page x y) (Some (in_slot 1 y)) (Some (in_slot 0 x)) newer in let never : ⊥ = cc in never)

-- neither of both is of a later generation
record IsTop (a b : Option Page) (g : ℕ) : Type 0 where
  first : (x : Page) → a ≡ Some x → x.generation ≤ g
  second : (x : Page) → b ≡ Some x → x.generation ≤ g

older_low : (x y : Page) → is_older_page x y ≡ true → x.generation ≤ y.generation
older_low x y older = ⊎_elim
    (λ (lt : y.generation < x.generation).
    let unequal : (x.generation == y.generation) ≡ false = ne_eqb x.generation y.generation (λ e. absurd (omega (arith, lt, e))) in
    let no_it : is_older_page x y ≡ false = ap (λ b. b || ((x.generation == y.generation) && ltb x.gsn y.gsn)) (le-ltb x.generation y.generation (omega (arith, lt))) ∙ ap (λ b. b && ltb x.gsn y.gsn) unequal in
    absurd (true≢false (sym older ∙ no_it)))
    (λ (le : x.generation ≤ y.generation). le)
    (cases_lt y.generation x.generation)

newer_low : (x y : Page) → is_older_page x y ≡ false → y.generation ≤ x.generation
newer_low x y newer = ⊎_elim
    (λ (lt : x.generation < y.generation). absurd (true≢false (sym (ap (λ b. b || ((x.generation == y.generation) && ltb x.gsn y.gsn)) (lt-ltb x.generation y.generation lt)) ∙ newer)))
    (λ (le : y.generation ≤ x.generation). le)
    (cases_lt x.generation y.generation)

same_low : (x y : Page) (g : ℕ) → ◌≡◌ {A = Option Page} (Some x) (Some y) → x.generation ≤ g → y.generation ≤ g
same_low x y g e le = let same : x ≡ y = cc in subst (λ (z : Page). z.generation ≤ g) same le

is_top : (a b : Option Page) (base : Base) → Some base ≡ newest a b → IsTop a b base.node.generation
is_top None None base is = absurd (let never : ⊥ = cc in never)
is_top (Some x) None base is = subst (λ (y : Base). IsTop (Some x) None y.node.generation) (sym (same_some base (in_slot 0 x) is))
    (record { first = λ z e. same_low x z x.generation e (omega arith); second = λ z e. absurd (let never : ⊥ = cc in never) })
is_top None (Some y) base is = subst (λ (z : Base). IsTop None (Some y) z.node.generation) (sym (same_some base (in_slot 1 y) is))
    (record { first = λ z e. absurd (let never : ⊥ = cc in never); second = λ z e. same_low y z y.generation e (omega arith) })
is_top (Some x) (Some y) base is = go (cases_Bool (is_older_page x y))
  where
    go : (is_older_page x y ≡ true) ⊎ (is_older_page x y ≡ false) → IsTop (Some x) (Some y) base.node.generation
    go (inl older) = subst (λ (z : Base). IsTop (Some x) (Some y) z.node.generation) (sym (same_some base (in_slot 1 y) (is ∙ cond-true (is_older_page x y) (Some (in_slot 1 y)) (Some (in_slot 0 x)) older)))
        (record { first = λ z e. same_low x z y.generation e (older_low x y older); second = λ z e. same_low y z y.generation e (omega arith) })
    go (inr newer) = subst (λ (z : Base). IsTop (Some x) (Some y) z.node.generation) (sym (same_some base (in_slot 0 x) (is ∙ cond-false (is_older_page x y) (Some (in_slot 1 y)) (Some (in_slot 0 x)) newer)))
        (record { first = λ z e. same_low x z x.generation e (omega arith); second = λ z e. same_low y z x.generation e (newer_low x y newer) })

-- what is in the other slot does not count
abbrev IsBeside : Option Page → Option Page → Base → Type 0
IsBeside a b base = (y : Page) → ((base.slot ≡ 0) × (b ≡ Some y)) ⊎ ((base.slot ≡ 1) × (a ≡ Some y)) → YieldsTo base y

older_is : (x y : Page) → is_older_page x y ≡ true → IsOlder x y
older_is x y e = ⊎_elim
    (λ a. inl (ltb-true x.generation y.generation a))
    (λ b. let p = and_parts (x.generation == y.generation) (ltb x.gsn y.gsn) b in inr (eqb-true x.generation y.generation p.0, ltb-true x.gsn y.gsn p.1))
    (or_cases (ltb x.generation y.generation) ((x.generation == y.generation) && ltb x.gsn y.gsn) e)

older_from : (x y : Page) → IsOlder x y → is_older_page x y ≡ true
older_from x y (inl l) = or_left (ltb x.generation y.generation) ((x.generation == y.generation) && ltb x.gsn y.gsn) (lt-ltb x.generation y.generation l)
older_from x y (inr l) = or_right (ltb x.generation y.generation) ((x.generation == y.generation) && ltb x.gsn y.gsn) (and_from (x.generation == y.generation) (ltb x.gsn y.gsn) (eq-eqb x.generation y.generation l.0) (lt-ltb x.gsn y.gsn l.1))

-- what is not newer yields to the page of the first slot
newer_yields : (x y : Page) → is_older_page x y ≡ false → YieldsTo (in_slot 0 x) y
newer_yields x y newer = ⊎_elim
    (λ (l : y.generation < x.generation). inl (inl l))
    (λ (ge : x.generation ≤ y.generation).
    let same : y.generation ≡ x.generation = (let low = newer_low x y newer in omega arith) in
    ⊎_elim
    (λ (l : y.gsn < x.gsn). inl (inr (same, l)))
    (λ (le : x.gsn ≤ y.gsn). ⊎_elim
    (λ (l : x.gsn < y.gsn). absurd (true≢false (sym (older_from x y (inr (sym same, l))) ∙ newer)))
    (λ (l : y.gsn ≤ x.gsn). inr (refl, same, (let q : y.gsn ≡ x.gsn = omega arith in q)))
    (cases_lt x.gsn y.gsn))
    (cases_lt y.gsn x.gsn))
    (cases_lt y.generation x.generation)

beside_first : (a b : Option Page) (x : Page) → ((y : Page) → b ≡ Some y → YieldsTo (in_slot 0 x) y) → IsBeside a b (in_slot 0 x)
beside_first a b x yields y (inl h) = yields y h.1
beside_first a b x yields y (inr h) = absurd (let e = h.0 in omega arith)

beside_second : (a b : Option Page) (x : Page) → ((y : Page) → a ≡ Some y → YieldsTo (in_slot 1 x) y) → IsBeside a b (in_slot 1 x)
beside_second a b x yields y (inl h) = absurd (let e = h.0 in omega arith)
beside_second a b x yields y (inr h) = yields y h.1

is_beside : (a b : Option Page) (base : Base) → Some base ≡ newest a b → IsBeside a b base
is_beside None None base is = absurd (let never : ⊥ = cc in never)
is_beside (Some x) None base is = subst (IsBeside (Some x) None) (sym (same_some base (in_slot 0 x) is)) (beside_first (Some x) None x (λ y e. absurd (let never : ⊥ = cc in never)))
is_beside None (Some y) base is = subst (IsBeside None (Some y)) (sym (same_some base (in_slot 1 y) is)) (beside_second None (Some y) y (λ z e. absurd (let never : ⊥ = cc in never)))
is_beside (Some x) (Some y) base is = go (cases_Bool (is_older_page x y))
  where
    go : (is_older_page x y ≡ true) ⊎ (is_older_page x y ≡ false) → IsBeside (Some x) (Some y) base
    go (inl older) = subst (IsBeside (Some x) (Some y)) (sym (same_some base (in_slot 1 y) (is ∙ cond-true (is_older_page x y) (Some (in_slot 1 y)) (Some (in_slot 0 x)) older)))
        (beside_second (Some x) (Some y) y (λ z e. subst (YieldsTo (in_slot 1 y)) (same_Some x z e) (inl (older_is x y older))))
    go (inr newer) = subst (IsBeside (Some x) (Some y)) (sym (same_some base (in_slot 0 x) (is ∙ cond-false (is_older_page x y) (Some (in_slot 1 y)) (Some (in_slot 0 x)) newer)))
        (beside_first (Some x) (Some y) x (λ z e. subst (YieldsTo (in_slot 0 x)) (same_Some y z e) (newer_yields x y newer)))

-- ## The base

abbrev pub bounds_of : Master → Bounds
bounds_of m = record { pages = m.pages; generation = m.generation }

held_own : (b : Bounds) (page : ℕ) (h : Held) (x : Page) → IsHeldOf b page h → page_of h ≡ Some x → IsOf b page x
held_own b page (held.Page y) x own e = subst (IsOf b page) (same_Some y x e) own
held_own b page (held.NoPage s) x own e = absurd (let never : ⊥ = cc in never)

own_of : (m : Master) (page i : ℕ) (h : Held) (base : Base) → i < 2 → base.slot ≡ i → page_of h ≡ Some base.node → IsHeldOf (bounds_of m) page h → IsOwn m page base
own_of m page i h base half slot is own =
    let it = held_own (bounds_of m) page h base.node own is in
    record { within = omega (arith, half, slot); number = it.number; generation = it.generation }

pub newest_own : (m : Master) (page : ℕ) (first second : Held) (base : Base) → IsHeldOf (bounds_of m) page first → IsHeldOf (bounds_of m) page second → Some base ≡ newest (page_of first) (page_of second) → IsOwn m page base
newest_own m page first second base one two is = ⊎_elim
    (λ (e : (base.slot ≡ 0) × (page_of first ≡ Some base.node)). own_of m page 0 first base (omega arith) e.0 e.1 one)
    (λ (e : (base.slot ≡ 1) × (page_of second ≡ Some base.node)). own_of m page 1 second base (omega arith) e.0 e.1 two)
    (is_taken (page_of first) (page_of second) base is).choice

module _ (m : Master) (page : ℕ) (area : Areas) (first second : Option Page) (one : first ≡ valid_in m page 0 (area 1)) (two : second ≡ valid_in m page 1 (area 1)) where
  model_is : base_of (shown_by m area) page ≡ model_newer first second
  model_is =
      ap (λ (x : Option Slot). newer_page x (valid m.generation (slot_of (page_slot_in m.pages page 1 (area 1))))) (same_valid m.generation (page_slot_in m.pages page 0 (area 1)) ∙ ap slot_of (sym one))
      ∙ ap (newer_page (slot_of first)) (same_valid m.generation (page_slot_in m.pages page 1 (area 1)) ∙ ap slot_of (sym two))

  stands_in : (i : ℕ) (o : Option Page) (base : Base) → o ≡ valid_in m page i (area 1) → base.slot ≡ i → o ≡ Some base.node → page_slot_in m.pages page base.slot (area 1) ≡ Some base.node
  stands_in i o base there slot is = ap (λ (k : ℕ). page_slot_in m.pages page k (area 1)) slot ∙ (valid_some m.generation (page_slot_in m.pages page i (area 1)) base.node (sym there ∙ is)).0

  none_later : (base : Base) → IsTop first second base.node.generation → (i : ℕ) (x : Page) → i < 2 → page_slot_in m.pages page i (area 1) ≡ Some x → x.generation ≤ m.generation → x.generation ≤ base.node.generation
  none_later base top zero x half there low = top.first x (one ∙ (ap (valid_page m.generation) there ∙ valid_is m.generation x low))
  none_later base top (suc zero) x half there low = top.second x (two ∙ (ap (valid_page m.generation) there ∙ valid_is m.generation x low))
  none_later base top (suc (suc i)) x half there low = absurd (omega arith)

  yields_to : (base : Base) → Some base ≡ newest first second → (y : Page) → page_slot_in m.pages page (1 - base.slot) (area 1) ≡ Some y → y.generation ≤ m.generation → YieldsTo base y
  yields_to base is y there low = is_beside first second base is y (⊎_elim
      (λ (e : (base.slot ≡ 0) × (first ≡ Some base.node)). inl (e.0, two ∙ (ap (valid_page m.generation) (ap (λ (k : ℕ). page_slot_in m.pages page (1 - k) (area 1)) (sym e.0) ∙ there) ∙ valid_is m.generation y low)))
      (λ (e : (base.slot ≡ 1) × (second ≡ Some base.node)). inr (e.0, one ∙ (ap (valid_page m.generation) (ap (λ (k : ℕ). page_slot_in m.pages page (1 - k) (area 1)) (sym e.0) ∙ there) ∙ valid_is m.generation y low)))
      (is_taken first second base is).choice)

  pub base_found : (base : Base) → IsOwn m page base → Some base ≡ newest first second → IsBase m page area base
  base_found base own is =
      let it = is_taken first second base is in record {
        own = own;
        is = model_is ∙ it.taken;
        there = ⊎_elim
            (λ (e : (base.slot ≡ 0) × (first ≡ Some base.node)). stands_in 0 first base one e.0 e.1)
            (λ (e : (base.slot ≡ 1) × (second ≡ Some base.node)). stands_in 1 second base two e.0 e.1)
            it.choice;
        newest = none_later base (is_top first second base is);
        yields = yields_to base is;
      }

  pub none_found : page < m.pages → None ≡ newest first second → HasNoBase m area page
  none_found lt is = record { page = lt; none = model_is ∙ none_taken first second is }

-- ## The slot that is not the base's

-- of two slots that hold these the later one is not the base's
pub ahead_found : (m : Master) (page : ℕ) (bytes : List ℕ) (first second : Held) → HoldsIn (bounds_of m) page (slot_bytes page 0 bytes) first → HoldsIn (bounds_of m) page (slot_bytes page 1 bytes) second
    → IsHeldOf (bounds_of m) page first → IsHeldOf (bounds_of m) page second → (base : Base) → Some base ≡ newest (page_of first) (page_of second)
    → (ahead : Bool) → ahead ≡ (is_ahead first || is_ahead second) → IsLater m.generation (page_slot_in m.pages page (1 - base.slot) bytes) ahead
ahead_found m page bytes first second one two own_one own_two base is ahead e = ⊎_elim
    (λ (c : (base.slot ≡ 0) × (page_of first ≡ Some base.node)).
    subst (λ (k : ℕ). IsLater m.generation (page_slot_in m.pages page (1 - k) bytes) ahead) (sym c.0) (subst (IsLater m.generation (page_slot_in m.pages page 1 bytes)) (sym (e ∙ ap (λ z. z || is_ahead second) (valid_early first base.node c.1)))
    (held_later (bounds_of m) page (slot_bytes page 1 bytes) second two own_two)))
    (λ (c : (base.slot ≡ 1) × (page_of second ≡ Some base.node)).
    subst (λ (k : ℕ). IsLater m.generation (page_slot_in m.pages page (1 - k) bytes) ahead) (sym c.0) (subst (IsLater m.generation (page_slot_in m.pages page 0 bytes)) (sym (e ∙ (ap (λ z. is_ahead first || z) (valid_early second base.node c.1) ∙ or_none (is_ahead first))))
    (held_later (bounds_of m) page (slot_bytes page 0 bytes) first one own_one)))
    (is_taken (page_of first) (page_of second) base is).choice
  where
    valid_early : (h : Held) (x : Page) → page_of h ≡ Some x → is_ahead h ≡ false
    valid_early (held.Page y) x q = refl
    valid_early (held.NoPage s) x q = absurd (let never : ⊥ = cc in never)

    or_none : (b : Bool) → (b || false) ≡ b
    or_none true = refl
    or_none false = refl

pub is_ahead_of : (m : Master) (page : ℕ) (area : Areas) (slot : ℕ) (ahead : Bool) → IsLater m.generation (page_slot_in m.pages page (1 - slot) (area 1)) ahead → IsAhead m page area slot ahead
is_ahead_of m page area slot true is = is
is_ahead_of m page area slot false is = is

pub every_reach : EveryReach
every_reach m page area base last is =
    let whole : 2048 * page + 1024 * base.slot + 1024 ≤ length (area 1) = every_whole m.pages page base.slot (area 1) base.node is.there in
    omega (arith, whole, last)
