-- Which slot of a page is firm, and what is saved in a slot.
use Rattle.std.proofs.Common.{◌≡◌, ◌⊎◌, inl, inr, ⊎_elim, ◌≤◌, ◌<◌, ◌-◌, ℕ, Bool, true, false, cond, List, [], ◌∷◌, map, Option, Some, None, refl, sym, ap, ap₂, ◌∙◌, subst, arith, true≢false}
use Rattle.std.proofs.lemmas.Bool.{cases_eq, cases_lt, cond-true, cond-false}
use Rattle.std.proofs.lemmas.Option.{none-some, same_Some}
use Rattle.map_model.specs.Lists.{Has}
use Rattle.page_model.specs.Nodes.{free}
use Rattle.page_model.specs.Page.{Page, new_page}
use Rattle.disk_runs.specs.image_model.Entries.{Contents}
use Rattle.disk_runs.specs.image_model.Slots.{is_older, newer_page, valid}
use Rattle.lean_disk.specs.Area.{Write}
use Rattle.disk_runs.specs.disk_image.Shown.{slot_of}
use Rattle.disk_runs.specs.page_store.Bases.{YieldsTo, image_page}
use Rattle.disk_runs.specs.page_store.Saved.{IsSpared, Save, write_of}
use Rattle.disk_runs.specs.Pages.{Firm, Yields}
use Rattle.disk_runs.proofs.PageLemmas.{first_alone, older_is, older_true, second_alone, slotted, valid_is}

-- ## Of two slots the one that counts

abbrev pub firm_of : Option Page → Option Page → Firm
firm_of (Some x) None = record { slot = 0; page = x }
firm_of None (Some y) = record { slot = 1; page = y }
firm_of (Some x) (Some y) = cond (is_older (slotted x) (slotted y)) (record { slot = 1; page = y }) (record { slot = 0; page = x })
firm_of None None = record { slot = 0; page = new_page 0 free }

-- it counts, and the other one yields
pub record Counts (a b : Option Page) (v : Contents) (f : Firm) : Type 0 where
  pub there : ((f.slot ≡ 0) × (a ≡ Some f.page)) ⊎ ((f.slot ≡ 1) × (b ≡ Some f.page))
  pub is : image_page f.page ≡ v
  pub spare : (y : Page) → ((f.slot ≡ 0) × (b ≡ Some y)) ⊎ ((f.slot ≡ 1) × (a ≡ Some y)) → Yields f y

abbrev pub base_of_two : ℕ → Option Page → Option Page → Option Contents
base_of_two G a b = newer_page (valid G (slot_of a)) (valid G (slot_of b))

-- what is not newer yields to the page in slot 0
not_older : (x y : Page) → is_older (slotted x) (slotted y) ≡ false → Yields (record { slot = 0; page = x }) y
not_older x y e = ⊎_elim
    (λ (l : y.generation < x.generation). inl (inl l))
    (λ (ge : x.generation ≤ y.generation). ⊎_elim
    (λ (l : x.generation < y.generation). absurd (true≢false (sym (older_true x y (inl l)) ∙ e)))
    (λ (le : y.generation ≤ x.generation).
    let same : y.generation ≡ x.generation = omega arith in
    ⊎_elim
    (λ (l : y.gsn < x.gsn). inl (inr (same, l)))
    (λ (g1 : x.gsn ≤ y.gsn). ⊎_elim
    (λ (l : x.gsn < y.gsn). absurd (true≢false (sym (older_true x y (inr (sym same, l))) ∙ e)))
    (λ (l : y.gsn ≤ x.gsn). inr (refl, same, let q : y.gsn ≡ x.gsn = omega arith in q))
    (cases_lt x.gsn y.gsn))
    (cases_lt y.gsn x.gsn))
    (cases_lt x.generation y.generation))
    (cases_lt y.generation x.generation)

pub counts : (G : ℕ) (a b : Option Page) (v : Contents) → ((x : Page) → a ≡ Some x → x.generation ≤ G) → ((y : Page) → b ≡ Some y → y.generation ≤ G) → base_of_two G a b ≡ Some v → Counts a b v (firm_of a b)
counts G None None v la lb e = absurd (none-some v e)
counts G (Some x) None v la lb e = record {
  there = inl (refl, refl);
  is = same_Some (image_page x) v (sym (first_alone G x (la x refl)) ∙ e);
  spare = λ y h. ⊎_elim (λ q. absurd (none-some y q.1)) (λ q. absurd (let z = q.0 in omega arith)) h;
}
counts G None (Some y) v la lb e = record {
  there = inr (refl, refl);
  is = same_Some (image_page y) v (sym (second_alone G y (lb y refl)) ∙ e);
  spare = λ z h. ⊎_elim (λ q. absurd (let k = q.0 in omega arith)) (λ q. absurd (none-some z q.1)) h;
}
counts G (Some x) (Some y) v la lb e = go (is_older (slotted x) (slotted y)) refl
  where
    both : base_of_two G (Some x) (Some y) ≡ cond (is_older (slotted x) (slotted y)) (Some (image_page y)) (Some (image_page x))
    both = ap₂ newer_page (valid_is G x (la x refl)) (valid_is G y (lb y refl))

    go : (o : Bool) → is_older (slotted x) (slotted y) ≡ o → Counts (Some x) (Some y) v (cond o (record { slot = 1; page = y }) (record { slot = 0; page = x }))
    go true q = record {
      there = inr (refl, refl);
      is = same_Some (image_page y) v (sym (both ∙ cond-true (is_older (slotted x) (slotted y)) (Some (image_page y)) (Some (image_page x)) q) ∙ e);
      spare = λ z h. ⊎_elim (λ w. absurd (let k = w.0 in omega arith)) (λ w. inl (subst (λ (u : Page). Rattle.disk_runs.specs.Pages.IsBehind u y) (same_Some x z w.1) (older_is x y q))) h;
    }
    go false q = record {
      there = inl (refl, refl);
      is = same_Some (image_page x) v (sym (both ∙ cond-false (is_older (slotted x) (slotted y)) (Some (image_page y)) (Some (image_page x)) q) ∙ e);
      spare = λ z h. ⊎_elim (λ w. subst (λ (u : Page). Yields (record { slot = 0; page = x }) u) (same_Some y z w.1) (not_older x y q)) (λ w. absurd (let k = w.0 in omega arith)) h;
    }

-- ## Saves

-- one of them is saved in the slot, or none
pub find_save : (p i : ℕ) (saves : List Save) → IsSpared p i saves ⊎ ((x : Save) × Has x saves × (x.page ≡ p) × (x.slot ≡ i))
find_save p i [] = inl (λ s h. absurd h)
find_save p i (x ∷ saves) = go (find_save p i saves) (cases_eq x.page p) (cases_eq x.slot i)
  where
    spared : (x.page ≡ p → x.slot ≡ i → ⊥) → IsSpared p i saves → IsSpared p i (x ∷ saves)
    spared other rest s (inl e) a b = other (ap (λ (z : Save). z.page) (sym e) ∙ a) (ap (λ (z : Save). z.slot) (sym e) ∙ b)
    spared other rest s (inr h) a b = rest s h a b

    go : IsSpared p i saves ⊎ ((x : Save) × Has x saves × (x.page ≡ p) × (x.slot ≡ i)) → (x.page ≡ p) ⊎ (x.page ≡ p → ⊥) → (x.slot ≡ i) ⊎ (x.slot ≡ i → ⊥) → IsSpared p i (x ∷ saves) ⊎ ((y : Save) × Has y (x ∷ saves) × (y.page ≡ p) × (y.slot ≡ i))
    go ih (inl a) (inl b) = inr (x, inl refl, a, b)
    go (inr s) a b = inr (s.0, inr s.1, s.2, s.3)
    go (inl rest) (inr a) b = inl (spared (λ c d. a c) rest)
    go (inl rest) (inl a) (inr b) = inl (spared (λ c d. b d) rest)

-- the write is that of one of them
pub wrote_save : (saves : List Save) (w : Write) → Has w (map write_of saves) → (x : Save) × Has x saves × (w ≡ write_of x)
wrote_save [] w h = absurd h
wrote_save (x ∷ saves) w (inl e) = (x, inl refl, e)
wrote_save (x ∷ saves) w (inr h) = let r = wrote_save saves w h in (r.0, inr r.1, r.2)

-- ## The slot that counts

-- of two slots, of which each counts beside the other, both are one
module _ (f : Firm) (at : ℕ) (x : Page) where
  never_both : (f.slot ≡ at → ⊥) → YieldsTo (record { node = x; slot = at }) f.page → Yields f x → ⊥
  never_both ne (inl (inl a)) (inl (inl b)) = omega arith
  never_both ne (inl (inl a)) (inl (inr b)) = let e = b.0 in omega arith
  never_both ne (inl (inl a)) (inr b) = let e = b.1 in omega arith
  never_both ne (inl (inr a)) (inl (inl b)) = let e = a.0 in omega arith
  never_both ne (inl (inr a)) (inl (inr b)) = let k = a.1 in let l = b.1 in omega arith
  never_both ne (inl (inr a)) (inr b) = let k = a.1 in let l = b.2 in omega arith
  never_both ne (inr a) (inl (inl b)) = let e = a.1 in omega arith
  never_both ne (inr a) (inl (inr b)) = let k = a.2 in let l = b.1 in omega arith
  never_both ne (inr a) (inr b) = ne (b.0 ∙ sym a.0)

  pub one_counts : f.slot < 2 → at < 2 → (f.slot ≡ 1 - at → YieldsTo (record { node = x; slot = at }) f.page) → (at ≡ 1 - f.slot → Yields f x) → f.slot ≡ at
  one_counts half low one two = elim (cases_eq f.slot at) [
    | inl e ↦ e
    | inr ne ↦ absurd (never_both ne (one (omega arith)) (two (omega arith)))
  ]
