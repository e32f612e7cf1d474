-- Pages in memory, one of them changed.
use Rattle.std.proofs.Common.{◌≡◌, ◌<◌, ◌⊎◌, ℕ, zero, suc, Bool, true, false, cond, ◌==◌, List, [], ◌∷◌, length, get_or, set, Some, slice_get, refl, sym, ◌∙◌, ap, subst, inl, inr, arith, true≢false}
use Rattle.std.proofs.lemmas.Bool.{cases_eq, cases_Bool, eq-eqb, ne_eqb, cond-true, cond-false}
use Rattle.std.proofs.lemmas.List.{length-set, get_or-set_same, get_or-set_other}
use Rattle.std.proofs.lemmas.Option.{slice_get-get_or, same_Some, slice_get_within}
use mathlib.Core.Path.{fun_ext}
use Rattle.page_model.specs.Page.{Page}
use Rattle.disk_image.specs.image_model.Entries.{Contents}
use Rattle.record_redo.specs.Pages.{page_of, page_or, pages_of, SameOwn, Keeps, MarksFor}

-- ## Places of a list

pub get_set : {A : Type 0} (xs : List A) (i : ℕ) (y : A) → i < length xs → slice_get (set xs i y) i ≡ Some y
get_set [] i y l = absurd (omega arith)
get_set (x ∷ xs) zero y l = refl
get_set (x ∷ xs) (suc i) y l = get_set xs i y (omega arith)

pub get_other : {A : Type 0} (xs : List A) (i p : ℕ) (y : A) → (p ≡ i → ⊥) → slice_get (set xs i y) p ≡ slice_get xs p
get_other [] i p y n = refl
get_other (x ∷ xs) zero zero y n = absurd (n refl)
get_other (x ∷ xs) zero (suc p) y n = refl
get_other (x ∷ xs) (suc i) zero y n = refl
get_other (x ∷ xs) (suc i) (suc p) y n = get_other xs i p y (λ e. n (ap suc e))

-- ## Pages by their numbers

pub page_here : (pages : List Page) (i : ℕ) (d : Page) → i < length pages → pages_of pages i ≡ page_of (get_or pages i d)
page_here pages i d l = ap page_or (slice_get-get_or pages i d l)

-- the number of a page that was read
pub number_here : (pages : List Page) (i g : ℕ) (d : Page) → i < length pages → g ≡ (get_or pages i d).gsn → (pages_of pages i).gsn ≡ g
number_here pages i g d l e = ap (λ (v : Contents). v.gsn) (page_here pages i d l) ∙ sym e

pub pages_set : (pages : List Page) (i : ℕ) (y : Page) → i < length pages → pages_of (set pages i y) ≡ (λ p. cond (p == i) (page_of y) (pages_of pages p))
pages_set pages i y l = fun_ext (λ p. elim (cases_eq p i) [
  | inl e ↦ ap (pages_of (set pages i y)) e ∙ (ap page_or (get_set pages i y l) ∙ sym (cond-true (p == i) (page_of y) (pages_of pages p) (eq-eqb p i e)))
  | inr n ↦ ap page_or (get_other pages i p y n) ∙ sym (cond-false (p == i) (page_of y) (pages_of pages p) (ne_eqb p i n))
])

-- ## What changes keep

pub keeps_all : (pages : List Page) (marks : List Bool) → Keeps pages pages marks marks
keeps_all pages marks = record {
  count = refl;
  marks = refl;
  own = λ p x y a b. let e = same_Some x y (sym a ∙ b) in record { number = ap (λ (z : Page). z.number) (sym e); generation = ap (λ (z : Page). z.generation) (sym e) };
  stay = λ p h. h;
  same = λ p h. refl;
}

some_before : (before after : List Page) → length after ≡ length before → (p : ℕ) (y : Page) → slice_get after p ≡ Some y → (x : Page) × (slice_get before p ≡ Some x)
some_before before after e p y h =
    let l : p < length before = omega (arith, slice_get_within after p y h, e) in
    (get_or before p y, slice_get-get_or before p y l)

pub keeps_both : (a b c : List Page) (m n o : List Bool) → Keeps a b m n → Keeps b c n o → Keeps a c m o
keeps_both a b c m n o f g = record {
  count = g.count ∙ f.count;
  marks = g.marks ∙ f.marks;
  own = λ p x z h k. let y = some_before b c g.count p z k in let u = f.own p x y.0 h y.1 in let v = g.own p y.0 z y.1 k in record { number = v.number ∙ u.number; generation = v.generation ∙ u.generation };
  stay = λ p h. g.stay p (f.stay p h);
  same = λ p h. g.same p h ∙ f.same p (unmarked p h);
}
  where
    unmarked : (p : ℕ) → get_or o p false ≡ false → get_or n p false ≡ false
    unmarked p h = elim (cases_Bool (get_or n p false)) [ inl t ↦ absurd (true≢false (sym (g.stay p t) ∙ h)) | inr e ↦ e ]

-- a page is changed and marked
pub keeps_set : (pages : List Page) (marks : List Bool) (i : ℕ) (d y : Page) → length marks ≡ length pages → i < length pages → SameOwn (get_or pages i d) y →
    Keeps pages (set pages i y) marks (set marks i true)
keeps_set pages marks i d y long l own = record {
  count = length-set pages i y;
  marks = length-set marks i true;
  own = λ p u v a b. elim (cases_eq p i) [
    | inl e ↦
        let eu : get_or pages i d ≡ u = same_Some (get_or pages i d) u (sym (slice_get-get_or pages i d l) ∙ (ap (slice_get pages) (sym e) ∙ a)) in
        let ev : y ≡ v = same_Some y v (sym (get_set pages i y l) ∙ (ap (slice_get (set pages i y)) (sym e) ∙ b)) in
        subst (λ (w : Page). SameOwn w v) eu (subst (λ (w : Page). SameOwn (get_or pages i d) w) ev own)
    | inr n ↦
        let e : u ≡ v = same_Some u v (sym a ∙ (sym (get_other pages i p y n) ∙ b)) in
        subst (λ (w : Page). SameOwn u w) e (record { number = refl; generation = refl })
  ];
  stay = λ p h. elim (cases_eq p i) [
    | inl e ↦ ap (λ q. get_or (set marks i true) q false) e ∙ get_or-set_same marks i true false (omega (arith, long, l))
    | inr n ↦ get_or-set_other marks i p true false n ∙ h
  ];
  same = λ p h. elim (cases_eq p i) [
    | inl e ↦ absurd (true≢false (sym (ap (λ q. get_or (set marks i true) q false) e ∙ get_or-set_same marks i true false (omega (arith, long, l))) ∙ h))
    | inr n ↦ get_other pages i p y n
  ];
}

-- ## Why marks were set

pub marks_none : (why : ℕ → Bool) (marks : List Bool) → MarksFor why marks marks
marks_none why marks = record { at = λ p h. inl h }

pub marks_both : (why and then : ℕ → Bool) (a b c : List Bool) → ((p : ℕ) → why p ≡ true → then p ≡ true) → ((p : ℕ) → and p ≡ true → then p ≡ true) → MarksFor why a b → MarksFor and b c → MarksFor then a c
marks_both why and then a b c f g one two = record { at = λ p h. back p (two.at p h) }
  where
    first : (p : ℕ) → (get_or a p false ≡ true) ⊎ (why p ≡ true) → (get_or a p false ≡ true) ⊎ (then p ≡ true)
    first p (inl e) = inl e
    first p (inr e) = inr (f p e)

    back : (p : ℕ) → (get_or b p false ≡ true) ⊎ (and p ≡ true) → (get_or a p false ≡ true) ⊎ (then p ≡ true)
    back p (inl e) = first p (one.at p e)
    back p (inr e) = inr (g p e)
