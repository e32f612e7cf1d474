-- What is known of the slots, behind an opening, after a save and after a sync.
use Rattle.std.proofs.Common.{◌≡◌, ◌≢◌, ◌<◌, ◌+◌, ◌-◌, ◌==◌, ℕ, zero, suc, Bool, true, false, not, cond, List, [], ◌∷◌, ◌++◌, length, map, get_or, Option, Some, None, slice_get, set, refl, sym, ap, ◌∙◌, arith, inl, inr}
use Rattle.std.proofs.lemmas.Bool.{cases_eq}
use Rattle.map_model.proofs.ListLemmas.{upd_same, upd_other}
use Rattle.page_model.specs.Page.{Page}
use Rattle.page_calls.specs.declared.slots.Slot.{Slot}
use Rattle.page_calls.specs.Slots.{Knows, number_of, is_some, opened_slot, settled_slot, saved_slot}
use Rattle.disk_runs.specs.Pages.{Firm, settled}
use Rattle.disk_runs.specs.PageLaws.{with_late, with_settled}
use Rattle.disk_runs.specs.Stands.{Known}

-- ## One slot

some_is : (a b : Slot) → Some a ≡ Some b → a ≡ b
some_is a b e = ap (λ (o : Option Slot). or_a o) e
  where
    or_a : Option Slot → Slot
    or_a None = a
    or_a (Some x) = x

none_not : (s : Slot) → None ≡ Some s → ⊥
none_not s e = cc

-- a slot at its place
pub saved_set : (p : ℕ) (ss : List Slot) (s : Slot) → slice_get ss p ≡ Some s → set ss p (record { second = s.second; late = true }) ≡ saved_slot p ss
saved_set p [] s e = refl
saved_set zero (x ∷ xs) s e = ap (λ (y : Slot). record { second = y.second; late = true } ∷ xs) (sym (some_is x s e))
saved_set (suc p) (x ∷ xs) s e = ap (λ ys. x ∷ ys) (saved_set p xs s e)

pub saved_length : (p : ℕ) (ss : List Slot) → length (saved_slot p ss) ≡ length ss
saved_length p [] = refl
saved_length zero (x ∷ xs) = refl
saved_length (suc p) (x ∷ xs) = ap suc (saved_length p xs)

-- what stands there after a save
record At (p q : ℕ) (ss : List Slot) (s : Slot) : Type 0 where
  pub was : Slot
  pub there : slice_get ss q ≡ Some was
  pub here : p ≡ q → s ≡ record { second = was.second; late = true }
  pub other : p ≢ q → s ≡ was

saved_at : (p q : ℕ) (ss : List Slot) (s : Slot) → slice_get (saved_slot p ss) q ≡ Some s → At p q ss s
saved_at p q [] s e = absurd (none_not s e)
saved_at zero zero (x ∷ xs) s e = record { was = x; there = refl; here = λ _. sym (some_is (record { second = x.second; late = true }) s e); other = λ ne. absurd (ne refl) }
saved_at zero (suc q) (x ∷ xs) s e = record { was = s; there = e; here = λ z. absurd (omega arith); other = λ _. refl }
saved_at (suc p) zero (x ∷ xs) s e = record { was = x; there = refl; here = λ z. absurd (omega arith); other = λ _. sym (some_is x s e) }
saved_at (suc p) (suc q) (x ∷ xs) s e = let k = saved_at p q xs s e in record { was = k.was; there = k.there; here = λ z. k.here (omega arith); other = λ ne. k.other (λ z. ne (ap suc z)) }

-- ## All slots

pub map_length : (ss : List Slot) → length (map settled_slot ss) ≡ length ss
map_length [] = refl
map_length (x ∷ xs) = ap suc (map_length xs)

record Was (q : ℕ) (ss : List Slot) (s : Slot) : Type 0 where
  pub was : Slot
  pub there : slice_get ss q ≡ Some was
  pub is : s ≡ settled_slot was

map_at : (q : ℕ) (ss : List Slot) (s : Slot) → slice_get (map settled_slot ss) q ≡ Some s → Was q ss s
map_at q [] s e = absurd (none_not s e)
map_at zero (x ∷ xs) s e = record { was = x; there = refl; is = sym (some_is (settled_slot x) s e) }
map_at (suc q) (x ∷ xs) s e = let k = map_at q xs s e in record { was = k.was; there = k.there; is = k.is }

-- the first n slots are settled
abbrev pub settled_first : ℕ → List Slot → List Slot
settled_first zero ss = ss
settled_first (suc n) [] = []
settled_first (suc n) (s ∷ ss) = settled_slot s ∷ settled_first n ss

pub first_none : (ss : List Slot) → settled_first 0 ss ≡ ss
first_none ss = refl

pub first_length : (n : ℕ) (ss : List Slot) → length (settled_first n ss) ≡ length ss
first_length zero ss = refl
first_length (suc n) [] = refl
first_length (suc n) (s ∷ ss) = ap suc (first_length n ss)

pub first_all : (ss : List Slot) → settled_first (length ss) ss ≡ map settled_slot ss
first_all [] = refl
first_all (s ∷ ss) = ap (λ ys. settled_slot s ∷ ys) (first_all ss)

pub first_more : (n : ℕ) (ss : List Slot) (s : Slot) → slice_get (settled_first n ss) n ≡ Some s → set (settled_first n ss) n (settled_slot s) ≡ settled_first (n + 1) ss
first_more zero [] s e = absurd (none_not s e)
first_more zero (x ∷ xs) s e = ap (λ (y : Slot). settled_slot y ∷ xs) (sym (some_is x s e))
first_more (suc n) [] s e = absurd (none_not s e)
first_more (suc n) (x ∷ xs) s e = ap (λ ys. settled_slot x ∷ ys) (first_more n xs s e) ∙ (let f : suc (n + 1) ≡ suc n + 1 = omega arith in ap (λ k. settled_first k (x ∷ xs)) f)

-- ## What is known

pub knows_saved : (slots : List Slot) (x : Known) (p : ℕ) (y : Page) → Knows slots x → Knows (saved_slot p slots) (with_late x p y)
knows_saved slots x p y k = record {
  count = saved_length p slots ∙ k.count;
  each = λ q s e.
      let a = saved_at p q slots s e in
      let old = k.each q a.was a.there in
      elim (cases_eq p q) [
        | inl same ↦ (old.0 ∙ ap (λ (z : Slot). number_of z.second) (sym (a.here same)), ap (λ o. is_some o) (upd_same x.late p (Some y) q (sym same)) ∙ ap (λ (z : Slot). z.late) (sym (a.here same)))
        | inr ne ↦ (old.0 ∙ ap (λ (z : Slot). number_of z.second) (sym (a.other ne)), ap (λ o. is_some o) (upd_other x.late p (Some y) q (λ z. ne (sym z))) ∙ (old.1 ∙ ap (λ (z : Slot). z.late) (sym (a.other ne))))
      ];
}

-- of one page after a sync
settles_one : (firm : Firm) (late : Option Page) (s : Slot) → firm.slot ≡ number_of s.second → is_some late ≡ s.late → ((settled firm late).slot ≡ number_of (settled_slot s).second) × (false ≡ (settled_slot s).late)
settles_one firm None s a b = go s.late b
  where
    go : (l : Bool) → false ≡ l → (firm.slot ≡ number_of (cond l (record { second = not s.second; late = false }) s).second) × (false ≡ (cond l (record { second = not s.second; late = false }) s).late)
    go true e = absurd (cc)
    go false e = (a, b)
settles_one firm (Some y) s a b = go s.late b
  where
    turned : (o : Bool) → firm.slot ≡ number_of o → 1 - firm.slot ≡ number_of (not o)
    turned true e = omega arith
    turned false e = omega arith

    go : (l : Bool) → true ≡ l → (1 - firm.slot ≡ number_of (cond l (record { second = not s.second; late = false }) s).second) × (false ≡ (cond l (record { second = not s.second; late = false }) s).late)
    go false e = absurd (cc)
    go true e = (turned s.second a, refl)

pub knows_settled : (slots : List Slot) (x : Known) → Knows slots x → Knows (map settled_slot slots) (with_settled x)
knows_settled slots x k = record {
  count = map_length slots ∙ k.count;
  each = λ q s e.
      let a = map_at q slots s e in
      let old = k.each q a.was a.there in
      let n = settles_one (x.firm q) (x.late q) a.was old.0 old.1 in
      (n.0 ∙ ap (λ (z : Slot). number_of z.second) (sym a.is), n.1 ∙ ap (λ (z : Slot). z.late) (sym a.is));
}

-- ## Where a run begins

-- the first n of these slots, behind an opening
abbrev pub opened_first : ℕ → List ℕ → List Slot
opened_first zero ns = []
opened_first (suc n) [] = []
opened_first (suc n) (x ∷ ns) = opened_slot x ∷ opened_first n ns

pub opened_more : (n : ℕ) (ns : List ℕ) → n < length ns → opened_first n ns ++ opened_slot (get_or ns n 0) ∷ [] ≡ opened_first (n + 1) ns
opened_more n [] lt = absurd (omega arith)
opened_more zero (x ∷ ns) lt = refl
opened_more (suc n) (x ∷ ns) lt = ap (λ ys. opened_slot x ∷ ys) (opened_more n ns (omega arith)) ∙ (let f : suc (n + 1) ≡ suc n + 1 = omega arith in ap (λ k. opened_first k (x ∷ ns)) f)

pub opened_all : (ns : List ℕ) → opened_first (length ns) ns ≡ map opened_slot ns
opened_all [] = refl
opened_all (x ∷ ns) = ap (λ ys. opened_slot x ∷ ys) (opened_all ns)

pub opened_length : (ns : List ℕ) → length (map opened_slot ns) ≡ length ns
opened_length [] = refl
opened_length (x ∷ ns) = ap suc (opened_length ns)

opened_at : (p : ℕ) (ns : List ℕ) (s : Slot) → slice_get (map opened_slot ns) p ≡ Some s → (p < length ns) × (s ≡ opened_slot (get_or ns p 0))
opened_at p [] s e = absurd (none_not s e)
opened_at zero (x ∷ ns) s e = (omega arith, sym (some_is (opened_slot x) s e))
opened_at (suc p) (x ∷ ns) s e = let k = opened_at p ns s e in ((let l = k.0 in omega arith), k.1)

pub number_one : (n : ℕ) → n < 2 → n ≡ number_of (n == 1)
number_one zero lt = refl
number_one (suc zero) lt = refl
number_one (suc (suc n)) lt = absurd (omega arith)

pub knows_opened : (x : Known) (ns : List ℕ) → length ns ≡ x.master.pages → ((p : ℕ) → p < x.master.pages → (x.firm p).slot ≡ get_or ns p 0) → ((p : ℕ) → p < x.master.pages → (x.firm p).slot < 2)
    → ((p : ℕ) → x.late p ≡ None) → Knows (map opened_slot ns) x
knows_opened x ns count firm half none = record {
  count = opened_length ns ∙ count;
  each = λ p s e.
      let k = opened_at p ns s e in
      let lt : p < x.master.pages = (let l = k.0 in omega arith) in
      let is = firm p lt in
      let low : get_or ns p 0 < 2 = (let h = half p lt in omega arith) in
      (is ∙ (number_one (get_or ns p 0) low ∙ ap (λ (z : Slot). number_of z.second) (sym k.1)), ap (λ o. is_some o) (none p) ∙ ap (λ (z : Slot). z.late) (sym k.1));
}

-- what an index gives
pub get_some : (ss : List Slot) (i : ℕ) (s : Slot) → i < length ss → s ≡ get_or ss i s → slice_get ss i ≡ Some s
get_some [] i s lt e = absurd (omega arith)
get_some (x ∷ xs) zero s lt e = ap Some (sym e)
get_some (x ∷ xs) (suc i) s lt e = get_some xs i s (omega arith) e
