-- Facts on lists and places.
use Rattle.core_paging.specs.Paging.{one_if}
use Rattle.map_model.specs.Lists.{all, Has}
use Rattle.core_commit.specs.core_state.Lists.{all_below, times, without, at_end}
use Rattle.core_commit.specs.core_state.States.{Place, is_hot, is_cooling, is_cold, in_frame, frame_of, waits_for, left_by}
use Rattle.core_commit.specs.core_state.States.Place.{Hot, Cooling, Cold}
use Rattle.map_model.proofs.ListLemmas.{upd_same, upd_other}
use Rattle.std.proofs.Common.{◌≡◌, ◌<◌, ◌+◌, ℕ, zero, suc, Bool, true, false, cond, ◌||◌, ◌==◌, List, [], ◌∷◌, refl, sym, ap, ◌∙◌, inl, inr, arith, true≢false}
use Rattle.std.proofs.lemmas.Bool.{cases_eq, eq-eqb, ne_eqb, eqb-true, and_parts, cond-false}

pub below : (n : ℕ) (p : ℕ → Bool) → all_below n p ≡ true → (i : ℕ) → i < n → p i ≡ true
below zero p h i l = absurd (omega arith)
below (suc n) p h i l =
    let q = and_parts (p n) (all_below n p) h in
    let ih = below n p q.1 i in
    elim (cases_eq i n) [ inl e ↦ ap p e ∙ q.0 | inr ne ↦ ih (omega arith) ]

pub all_has : {A : Type 0} (p : A → Bool) (xs : List A) → all p xs ≡ true → (x : A) → Has x xs → p x ≡ true
all_has p [] h x i = absurd i
all_has p (y ∷ ys) h x (inl e) = ap p e ∙ (and_parts (p y) (all p ys) h).0
all_has p (y ∷ ys) h x (inr i) = all_has p ys (and_parts (p y) (all p ys) h).1 x i

-- ## The queue

pub times_end : (p q : ℕ) (xs : List ℕ) → times p (at_end xs q) ≡ times p xs + one_if (q == p)
times_end p q [] = go (q == p)
  where
    go : (b : Bool) → cond b 1 0 ≡ 0 + one_if b
    go true = omega arith
    go false = omega arith
times_end p q (x ∷ xs) = go (times_end p q xs) (x == p)
  where
    go : times p (at_end xs q) ≡ times p xs + one_if (q == p) → (b : Bool) → cond b (suc (times p (at_end xs q))) (times p (at_end xs q)) ≡ cond b (suc (times p xs)) (times p xs) + one_if (q == p)
    go ih true = omega arith
    go ih false = ih

pub times_gone : (p : ℕ) (xs : List ℕ) → times p (without p xs) ≡ 0
times_gone p [] = refl
times_gone p (x ∷ xs) = go (times_gone p xs) (x == p) refl
  where
    go : times p (without p xs) ≡ 0 → (b : Bool) → x == p ≡ b → times p (cond b (without p xs) (x ∷ without p xs)) ≡ 0
    go ih true e = ih
    go ih false e = cond-false (x == p) (suc (times p (without p xs))) (times p (without p xs)) e ∙ ih

pub times_kept : (p q : ℕ) (xs : List ℕ) → (p ≡ q → ⊥) → times p (without q xs) ≡ times p xs
times_kept p q [] n = refl
times_kept p q (x ∷ xs) n = go (times_kept p q xs n) (x == q) refl
  where
    go : times p (without q xs) ≡ times p xs → (b : Bool) → x == q ≡ b → times p (cond b (without q xs) (x ∷ without q xs)) ≡ times p (x ∷ xs)
    go ih true e = ih ∙ sym (cond-false (x == p) (suc (times p xs)) (times p xs) (ne_eqb x p (λ z. n (sym z ∙ eqb-true x q e))))
    go ih false e = ap (λ (t : ℕ). cond (x == p) (suc t) t) ih

-- ## Places

pub hot_frame : (x : Place) → is_hot x ≡ true → x ≡ Hot (frame_of x)
hot_frame (Hot f) h = refl
hot_frame (Cooling f e v) h = absurd (true≢false (sym h))
hot_frame Cold h = absurd (true≢false (sym h))

-- where a page stands, its frame is that one
pub framed : (x : Place) (f : ℕ) → in_frame x f ≡ true → frame_of x ≡ f
framed (Hot g) f h = eqb-true g f h
framed (Cooling g e v) f h = eqb-true g f h
framed Cold f h = absurd (true≢false (sym h))

pub in_own : (x : Place) → is_cold x ≡ false → in_frame x (frame_of x) ≡ true
in_own (Hot f) h = eq-eqb f f refl
in_own (Cooling f e v) h = eq-eqb f f refl
in_own Cold h = absurd (true≢false h)

pub hot_not_cold : (x : Place) → is_hot x ≡ true → is_cold x ≡ false
hot_not_cold (Hot f) h = refl
hot_not_cold (Cooling f e v) h = refl
hot_not_cold Cold h = absurd (true≢false (sym h))

pub hot_not_cooling : (x : Place) → is_hot x ≡ true → is_cooling x ≡ false
hot_not_cooling (Hot f) h = refl
hot_not_cooling (Cooling f e v) h = absurd (true≢false (sym h))
hot_not_cooling Cold h = refl

pub cooling_not_cold : (x : Place) → is_cooling x ≡ true → is_cold x ≡ false
cooling_not_cold (Hot f) h = refl
cooling_not_cold (Cooling f e v) h = refl
cooling_not_cold Cold h = absurd (true≢false (sym h))

pub cold_not_cooling : (x : Place) → is_cold x ≡ true → is_cooling x ≡ false
cold_not_cooling (Hot f) h = refl
cold_not_cooling (Cooling f e v) h = absurd (true≢false (sym h))
cold_not_cooling Cold h = refl

pub framed_not_cold : (x : Place) (f : ℕ) → in_frame x f ≡ true → is_cold x ≡ false
framed_not_cold (Hot g) f h = refl
framed_not_cold (Cooling g e v) f h = refl
framed_not_cold Cold f h = absurd (true≢false (sym h))

-- a Leave changes only for whom a page waits
pub left_hot : (w : ℕ) (x : Place) → is_hot (left_by w x) ≡ is_hot x
left_hot w (Hot f) = refl
left_hot w (Cooling f e v) = refl
left_hot w Cold = refl

pub left_cooling : (w : ℕ) (x : Place) → is_cooling (left_by w x) ≡ is_cooling x
left_cooling w (Hot f) = refl
left_cooling w (Cooling f e v) = refl
left_cooling w Cold = refl

pub left_cold : (w : ℕ) (x : Place) → is_cold (left_by w x) ≡ is_cold x
left_cold w (Hot f) = refl
left_cold w (Cooling f e v) = refl
left_cold w Cold = refl

pub left_frame : (w : ℕ) (x : Place) (f : ℕ) → in_frame (left_by w x) f ≡ in_frame x f
left_frame w (Hot g) f = refl
left_frame w (Cooling g e v) f = refl
left_frame w Cold f = refl

pub left_waits : (w v : ℕ) (x : Place) → (v ≡ w → ⊥) → waits_for (left_by w x) v ≡ waits_for x v
left_waits w v (Hot g) n = refl
left_waits w v (Cooling g e u) n = upd_other u w false v n
left_waits w v Cold n = refl

pub left_no_more : (w : ℕ) (x : Place) → waits_for (left_by w x) w ≡ false
left_no_more w (Hot g) = refl
left_no_more w (Cooling g e u) = upd_same u w false w refl
left_no_more w Cold = refl

pub own_frame : (x : Place) (f : ℕ) → is_cold x ≡ false → (frame_of x == f) ≡ in_frame x f
own_frame (Hot g) f h = refl
own_frame (Cooling g e v) f h = refl
own_frame Cold f h = absurd (true≢false h)

pub hot_not_waiting : (x : Place) (w : ℕ) → is_hot x ≡ true → waits_for x w ≡ false
hot_not_waiting (Hot f) w h = refl
hot_not_waiting (Cooling f e v) w h = absurd (true≢false (sym h))
hot_not_waiting Cold w h = absurd (true≢false (sym h))

pub or_off : (x y : Bool) → (x || y) ≡ false → (x ≡ false) × (y ≡ false)
or_off true y h = absurd (true≢false h)
or_off false y h = (refl, h)
