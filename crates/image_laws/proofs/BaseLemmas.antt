-- Of two slots, the base is the newer valid one.
use Rattle.std.proofs.Common.{◌≡◌, ◌⊎◌, ◌<◌, ◌≤◌, ℕ, zero, suc, Bool, true, false, cond, ◌&&◌, ◌||◌, ltb, ◌==◌, Option, Some, None, refl, sym, ◌∙◌, ap, subst, inl, inr, arith, true≢false}
use Rattle.std.proofs.lemmas.Bool.{cases_eq, cases_lt, eq-eqb, ne_eqb, lt-ltb, le-ltb, le-leb, lt-leb}
use Rattle.image_model.specs.Entries.{Contents}
use Rattle.image_model.specs.Slots.{Slot, Shown, valid, is_older, newer_page, base_of}
use Rattle.image_laws.specs.Bases.{IsUpTo, IsNewest, BaseLaws, EveryBase}

-- what is known of a slot: it is valid, or there is none that is
pub data Known (g : ℕ) (o : Option Slot) : Type 0 where
  Valid : (x : Slot) → (is : o ≡ Some x) → (low : x.generation ≤ g) → (seen : valid g o ≡ Some x) → Known g o
  Other : (late : (x : Slot) → o ≡ Some x → g < x.generation) → (seen : valid g o ≡ None) → Known g o

some_is : (x y : Slot) → Some x ≡ Some y → x ≡ y
some_is x y e = ap or_x e
  where
    or_x : Option Slot → Slot
    or_x (Some z) = z
    or_x None = x

page_is : (x y : Contents) → Some x ≡ Some y → x ≡ y
page_is x y e = ap or_x e
  where
    or_x : Option Contents → Contents
    or_x (Some z) = z
    or_x None = x

known : (g : ℕ) (o : Option Slot) → Known g o
known g None = Other (λ x e. absurd (cc)) refl
known g (Some x) = go (cases_lt g x.generation)
  where
    go : (g < x.generation) ⊎ (x.generation ≤ g) → Known g (Some x)
    go (inl lt) = Other (λ y e. subst (λ (z : Slot). g < z.generation) (some_is x y e) lt) (ap (λ b. cond b (Some x) None) (lt-leb x.generation g lt))
    go (inr le) = Valid x refl le (ap (λ b. cond b (Some x) None) (le-leb x.generation g le))

same_up_to : (x : Slot) → IsUpTo x x
same_up_to x = inr (refl, omega arith)

older_up_to : (x y : Slot) → is_older x y ≡ true → IsUpTo x y
older_up_to x y e = go (cases_lt x.generation y.generation)
  where
    go : (x.generation < y.generation) ⊎ (y.generation ≤ x.generation) → IsUpTo x y
    go (inl lt) = inl lt
    go (inr le) = tie (cases_eq x.generation y.generation) (cases_lt x.page.gsn y.page.gsn)
      where
        rest : ((x.generation == y.generation) && ltb x.page.gsn y.page.gsn) ≡ true
        rest = ap (λ b. b || ((x.generation == y.generation) && ltb x.page.gsn y.page.gsn)) (sym (le-ltb x.generation y.generation le)) ∙ e

        tie : (x.generation ≡ y.generation) ⊎ (x.generation ≡ y.generation → ⊥) → (x.page.gsn < y.page.gsn) ⊎ (y.page.gsn ≤ x.page.gsn) → IsUpTo x y
        tie (inl same) (inl lt) = inr (same, omega arith)
        tie (inl same) (inr ge) = absurd (true≢false (sym rest ∙ (ap (λ b. b && ltb x.page.gsn y.page.gsn) (eq-eqb x.generation y.generation same) ∙ le-ltb x.page.gsn y.page.gsn ge)))
        tie (inr ne) s = absurd (true≢false (sym rest ∙ ap (λ b. b && ltb x.page.gsn y.page.gsn) (ne_eqb x.generation y.generation ne)))

newer_up_to : (x y : Slot) → is_older x y ≡ false → IsUpTo y x
newer_up_to x y e = go (cases_lt y.generation x.generation)
  where
    go : (y.generation < x.generation) ⊎ (x.generation ≤ y.generation) → IsUpTo y x
    go (inl lt) = inl lt
    go (inr le) = tie (cases_lt x.generation y.generation) (cases_lt x.page.gsn y.page.gsn)
      where
        not_sooner : x.generation < y.generation → ⊥
        not_sooner lt = true≢false (sym (ap (λ b. b || ((x.generation == y.generation) && ltb x.page.gsn y.page.gsn)) (lt-ltb x.generation y.generation lt)) ∙ e)

        tie : (x.generation < y.generation) ⊎ (y.generation ≤ x.generation) → (x.page.gsn < y.page.gsn) ⊎ (y.page.gsn ≤ x.page.gsn) → IsUpTo y x
        tie (inl lt) s = absurd (not_sooner lt)
        tie (inr ge) (inr le') = inr ((let a = ge in let b = le in omega arith), le')
        tie (inr ge) (inl lt) = let same : x.generation ≡ y.generation = (let a = ge in let b = le in omega arith) in
            absurd (true≢false (sym (or_true (ltb x.generation y.generation) ((x.generation == y.generation) && ltb x.page.gsn y.page.gsn)
            (ap (λ b. b && ltb x.page.gsn y.page.gsn) (eq-eqb x.generation y.generation same) ∙ lt-ltb x.page.gsn y.page.gsn lt)) ∙ e))
          where
            or_true : (a b : Bool) → b ≡ true → (a || b) ≡ true
            or_true true b h = refl
            or_true false b h = h

module _ (s : Shown) (p : ℕ) where
  -- of the two slots, what is known of each
  two : (P : ℕ → Type 0) → P 0 → P 1 → (i : ℕ) → i < 2 → P i
  two P a b zero l = a
  two P a b (suc zero) l = b
  two P a b (suc (suc i)) l = absurd (omega arith)

  abbrev UpTo : Slot → ℕ → Type 0
  UpTo x i = (y : Slot) → s.slot p i ≡ Some y → y.generation ≤ s.generation → IsUpTo y x

  at : (i : ℕ) (x z : Slot) → s.slot p i ≡ Some x → IsUpTo x z → UpTo z i
  at i x z is up y e low = subst (λ (t : Slot). IsUpTo t z) (some_is x y (sym is ∙ e)) up

  none_at : (i : ℕ) (z : Slot) → ((x : Slot) → s.slot p i ≡ Some x → s.generation < x.generation) → UpTo z i
  none_at i z late y e low = let a = late y e in let b = low in absurd (omega arith)

  newest : (i : ℕ) (x : Slot) (v : Contents) → s.slot p i ≡ Some x → x.page ≡ v → x.generation ≤ s.generation → UpTo x 0 → UpTo x 1 → IsNewest s p v
  newest i x v is page low a b = record { place = i; slot = x; there = is; is_page = page; valid = low; newest = λ j y l e w. two (UpTo x) a b j l y e w }

  laws : Known s.generation (s.slot p 0) → Known s.generation (s.slot p 1) → BaseLaws s p
  laws (Other l0 n0) (Other l1 n1) = record {
    some = λ v e. absurd (no_page v (sym (ap (λ (o : Option Slot). newer_page o (valid s.generation (s.slot p 1))) n0 ∙ ap (λ (o : Option Slot). newer_page None o) n1) ∙ e));
    none = λ e i y l is. two (λ j. (y : Slot) → s.slot p j ≡ Some y → s.generation < y.generation) l0 l1 i l y is;
  }
    where
      no_page : (v : Contents) → None ≡ Some v → ⊥
      no_page v e = cc
  laws (Valid x i0 w0 n0) (Other l1 n1) = record {
    some = λ v e. newest 0 x v i0 (page_is x.page v (sym (ap (λ (o : Option Slot). newer_page o (valid s.generation (s.slot p 1))) n0 ∙ ap (λ (o : Option Slot). newer_page (Some x) o) n1) ∙ e)) w0 (at 0 x x i0 (same_up_to x)) (none_at 1 x l1);
    none = λ e. absurd (no_none (sym (ap (λ (o : Option Slot). newer_page o (valid s.generation (s.slot p 1))) n0 ∙ ap (λ (o : Option Slot). newer_page (Some x) o) n1) ∙ e));
  }
    where
      no_none : Some x.page ≡ None → ⊥
      no_none e = cc
  laws (Other l0 n0) (Valid y i1 w1 n1) = record {
    some = λ v e. newest 1 y v i1 (page_is y.page v (sym (ap (λ (o : Option Slot). newer_page o (valid s.generation (s.slot p 1))) n0 ∙ ap (λ (o : Option Slot). newer_page None o) n1) ∙ e)) w1 (none_at 0 y l0) (at 1 y y i1 (same_up_to y));
    none = λ e. absurd (no_none (sym (ap (λ (o : Option Slot). newer_page o (valid s.generation (s.slot p 1))) n0 ∙ ap (λ (o : Option Slot). newer_page None o) n1) ∙ e));
  }
    where
      no_none : Some y.page ≡ None → ⊥
      no_none e = cc
  laws (Valid x i0 w0 n0) (Valid y i1 w1 n1) = go (is_older x y) refl
    where
      seen : base_of s p ≡ cond (is_older x y) (Some y.page) (Some x.page)
      seen = ap (λ (o : Option Slot). newer_page o (valid s.generation (s.slot p 1))) n0 ∙ ap (λ (o : Option Slot). newer_page (Some x) o) n1

      no_none : (z : Contents) → Some z ≡ None → ⊥
      no_none z e = cc

      go : (b : Bool) → is_older x y ≡ b → BaseLaws s p
      go true o = let is : base_of s p ≡ Some y.page = seen ∙ ap (λ b. cond b (Some y.page) (Some x.page)) o in record {
        some = λ v e. newest 1 y v i1 (page_is y.page v (sym is ∙ e)) w1 (at 0 x y i0 (older_up_to x y o)) (at 1 y y i1 (same_up_to y));
        none = λ e. absurd (no_none y.page (sym is ∙ e));
      }
      go false o = let is : base_of s p ≡ Some x.page = seen ∙ ap (λ b. cond b (Some y.page) (Some x.page)) o in record {
        some = λ v e. newest 0 x v i0 (page_is x.page v (sym is ∙ e)) w0 (at 0 x x i0 (same_up_to x)) (at 1 y x i1 (newer_up_to x y o));
        none = λ e. absurd (no_none x.page (sym is ∙ e));
      }

pub every_base : EveryBase
every_base s p = laws s p (known s.generation (s.slot p 0)) (known s.generation (s.slot p 1))
