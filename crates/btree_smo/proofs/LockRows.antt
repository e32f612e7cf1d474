-- Lock rows that are latched one after the other beside the row of a leaf.
use Rattle.std.proofs.Common.{◌≡◌, ◌≢◌, ◌==◌, ◌<◌, ◌+◌, ◌⊎◌, inl, inr, ℕ, Bool, true, false, List, [], ◌∷◌, ◌++◌, append-nil, refl, sym, ap, subst, ◌∙◌, eq-eqb, arith, true≢false}
use Rattle.std.proofs.lemmas.Bool.{cond-true, cond-false, eqb-true, ne_eqb}
use Rattle.page_model.specs.Pairs.{is_in}
use Rattle.btree_descent.specs.row_words.declared.event.Event.{Event}
use Rattle.btree_descent.specs.row_words.declared.given.Given.{Given}
use Rattle.btree_descent.specs.row_words.Moments.{Moment}
use Rattle.btree_descent.specs.row_words.Openings.{opening}
use Rattle.btree_descent.specs.row_words.Sealed.{stepped, run}
use Rattle.btree_descent.proofs.row_words.Stays.{cases}
use Rattle.btree_descent.specs.rows_trait.declared.view.Hold.{Hold}
use Rattle.btree_descent.specs.rows_trait.declared.view.View.{View}
use Rattle.btree_descent.specs.rows_trait.Layout.{rows_of}
use Rattle.btree_descent.specs.rows_trait.Views.{Shape, AreApart, after_all, state, hold, holds, held_at}
use Rattle.btree_descent.specs.rows_trait.Turns.{Ran, Stepped}
use Rattle.btree_descent.proofs.rows_trait.Runs.{ran_none}
use Rattle.key_locks.proofs.Staying.{row_apart}
use Rattle.btree_descent.specs.lean_proto.Purges.{IsQuiet}
use Rattle.held_rows.specs.Rows.{Waited, Stood, HoldsOne}
use Rattle.held_rows.specs.Waits.{waited_then, moment_run}
use Rattle.btree_smo.specs.Inside.Quiet.{with_holds, IsTaken}
use Rattle.btree_smo.specs.Inside.Purging.{IsKept, IsPlace, AreDistinct, Holding}
use Rattle.btree_smo.proofs.Quieting.{ran_held}

-- ## Lists

pub in_append : (j y : ℕ) (xs : List ℕ) → is_in j (xs ++ y ∷ []) ≡ true → (is_in j xs ≡ true) ⊎ (y ≡ j)
in_append j y [] h = cases (y == j) (λ t. inr (eqb-true y j t)) (λ n. absurd (true≢false (sym h ∙ cond-false (y == j) true false n)))
in_append j y (x ∷ xs) h = cases (x == j)
    (λ t. inl (cond-true (x == j) true (is_in j xs) t))
    (λ n. elim (in_append j y xs (sym (cond-false (x == j) true (is_in j (xs ++ y ∷ [])) n) ∙ h)) [ inl a ↦ inl (cond-false (x == j) true (is_in j xs) n ∙ a) | inr b ↦ inr b ])

pub in_left : (j y : ℕ) (xs : List ℕ) → is_in j xs ≡ true → is_in j (xs ++ y ∷ []) ≡ true
in_left j y [] h = absurd (true≢false (sym h))
in_left j y (x ∷ xs) h = cases (x == j)
    (λ t. cond-true (x == j) true (is_in j (xs ++ y ∷ [])) t)
    (λ n. cond-false (x == j) true (is_in j (xs ++ y ∷ [])) n ∙ in_left j y xs (sym (cond-false (x == j) true (is_in j xs) n) ∙ h))

pub in_last : (y : ℕ) (xs : List ℕ) → is_in y (xs ++ y ∷ []) ≡ true
in_last y [] = cond-true (y == y) true false (eq-eqb y y refl)
in_last y (x ∷ xs) = cases (x == y)
    (λ t. cond-true (x == y) true (is_in y (xs ++ y ∷ [])) t)
    (λ n. cond-false (x == y) true (is_in y (xs ++ y ∷ [])) n ∙ in_last y xs)

-- nothing that is not in it
not_in : (j y : ℕ) (xs : List ℕ) → is_in j xs ≡ false → y ≢ j → is_in j (xs ++ y ∷ []) ≡ false
not_in j y xs h ne = cases (is_in j (xs ++ y ∷ [])) (λ t. elim (in_append j y xs t) [ inl a ↦ absurd (true≢false (sym a ∙ h)) | inr b ↦ absurd (ne b) ]) (λ n. n)

pub distinct_more : (y : ℕ) (xs : List ℕ) → is_in y xs ≡ false → AreDistinct xs → AreDistinct (xs ++ y ∷ [])
distinct_more y [] h d = (refl, tt)
distinct_more y (x ∷ xs) h d = cases (x == y)
    (λ t. absurd (true≢false (sym (cond-true (x == y) true (is_in y xs) t) ∙ h)))
    (λ n. (not_in x y xs d.0 (λ e. true≢false (sym (eq-eqb x y (sym e)) ∙ n)), distinct_more y xs (sym (cond-false (x == y) true (is_in y xs) n) ∙ h) d.1))

-- ## What is held besides

-- what is apart from a view is apart from one that holds fewer rows
apart_less : (v u : View) → u.given ≡ v.given → u.actor ≡ v.actor → ((row : ℕ) → holds v.held row ≡ true → holds u.held row ≡ true) → (es : List Event) (m : Moment) → AreApart u m es → AreApart v m es
apart_less v u g a h [] m y = tt
apart_less v u g a h (e ∷ es) m y = (
  record {
    other = λ x. y.0.other (x ∙ sym a);
    part = y.0.part;
    rows = λ row q. ap (λ z. Rattle.btree_descent.specs.row_words.Sealed.changes z m e row) (sym g) ∙ y.0.rows row (h row q);
  },
  apart_less v u g a h es (stepped v.given m e) (subst (λ (q : Given). AreApart u (stepped q m e) es) g y.1),
)

ran_bare : {alone : Bool} {v w : View} {es : List Event} (hs ks : List Hold) → Ran alone v es w → Ran alone (record v { held = hs }) es (record w { held = ks })
ran_bare hs ks r = record { more = r.more; seen = r.seen; own = r.own; all = r.all; part = r.part; since = record { acts = r.since.acts; steps = r.since.steps }; given = r.given; actor = r.actor; live = r.live; made = r.made; ended = r.ended }

-- others that were apart from all that is held now were apart from what was held at first
less_waited : {alone : Bool} {w u : View} (v : View) → ((q : ℕ) → holds v.held q ≡ true → holds w.held q ≡ true) → Waited alone w u → Waited alone (with_holds w v) (with_holds u v)
less_waited {alone} {w} {u} v less k = record {
  ran = ran_bare v.held v.held k.ran;
  between = k.between;
  quiet = k.quiet;
  apart = apart_less (with_holds w v) w refl refl less k.between (state w) k.apart;
  seen = k.seen;
  rows = λ q. refl;
}

-- where nobody else steps nothing changes
pub same_moment : {alone : Bool} {v w : View} → Waited alone v w → alone ≡ true → state w ≡ state v
same_moment {alone} {v} {w} k y = (λ i. after_all (k.ran.given i) (k.seen i)) ∙ ((λ i. after_all v.given (v.seen ++ k.quiet y i)) ∙ ap (after_all v.given) (append-nil v.seen))

pub kept_on : {z : Shape} {v w : View} {row : ℕ} → w.held ≡ v.held → IsKept z v row → IsKept z w row
kept_on {z} {v} {w} {row} e f = record {
  mine = ap (λ hs. holds hs row) e ∙ f.mine;
  inside = f.inside;
  done = ap (λ hs. (held_at hs row).done) e ∙ f.done;
  same = ap (λ hs. (held_at hs row).now) e ∙ (f.same ∙ sym (ap (λ hs. (held_at hs row).was) e));
}

-- the steps do not hang on what is held
pub bare_since : {v w : View} (x : View) → Stepped v (with_holds w x) → Stepped v w
bare_since x o = record { acts = o.acts; steps = o.steps }

-- ## Holding

pub hold_none : {z : Shape} (frames f leaf : ℕ) (v : View) → HoldsOne z v leaf → Holding z frames f leaf [] v v
hold_none {z} frames f leaf v h = record {
  stood = record { waited = record { ran = ran_held v.held (ran_none z.alone v); between = []; quiet = λ y. refl; apart = tt; seen = sym (append-nil v.seen); rows = λ q. refl }; held = refl };
  less = λ q t. t;
  leaf_is = refl;
  each = λ i t. absurd (true≢false (sym t));
  quiet = λ i t. absurd (true≢false (sym t));
  only = λ q t. inl (h.only q t);
  distinct = tt;
}

-- the row of a held place stays while others step
pub place_stays : {alone : Bool} {w u : View} (frames i : ℕ) → (opening w.given).frames ≡ frames → Waited alone w u → holds w.held (frames + i) ≡ true → (state u).core.row i ≡ (state w).core.row i
place_stays {alone} {w} {u} frames i is k mine = ap (λ m. m.core.row i) (moment_run k) ∙ row_apart w (frames + i) i (ap (λ n. n + i) is) mine k.between (state w) k.apart

pub hold_stood : {z : Shape} {frames f leaf : ℕ} {places : List ℕ} {v w u : View} → (opening v.given).frames ≡ frames → Holding z frames f leaf places v w → Stood z.alone w u → Holding z frames f leaf places v u
hold_stood {z} {frames} {f} {leaf} {places} {v} {w} {u} is h s = record {
  stood = record { waited = waited_then h.stood.waited (less_waited v h.less s.waited); held = refl };
  less = λ q t. ap (λ hs. holds hs q) s.held ∙ h.less q t;
  leaf_is = ap (λ hs. held_at hs leaf) s.held ∙ h.leaf_is;
  each = λ i t. kept_on s.held (h.each i t);
  quiet = λ i t. subst (λ o. IsQuiet o f) (sym (place_stays frames i (ap (λ (g : Given). (opening g).frames) h.stood.waited.ran.given ∙ is) s.waited (h.each i t).mine)) (h.quiet i t);
  only = λ q t. h.only q (sym (ap (λ hs. holds hs q) s.held) ∙ t);
  distinct = h.distinct;
}

-- a place in a list is one in a longer list
wider : {frames q : ℕ} (y : ℕ) (places : List ℕ) → IsPlace frames places q → IsPlace frames (places ++ y ∷ []) q
wider y places p = record { place = p.place; among = in_left p.place y places p.among; is = p.is }

pub hold_taken : {z : Shape} {frames f leaf : ℕ} {places : List ℕ} {v w u : View} (i : ℕ) → (opening v.given).frames ≡ frames → frames + i < rows_of z.sizes → holds v.held leaf ≡ true → Holding z frames f leaf places v w → is_in i places ≡ false
    → IsTaken z frames i f w u → Holding z frames f leaf (places ++ i ∷ []) v u
hold_taken {z} {frames} {f} {leaf} {places} {v} {w} {u} i is inside mine h none t = record {
  stood = record { waited = waited_then h.stood.waited (less_waited v h.less t.grew); held = refl };
  less = λ q x. more q (h.less q x);
  leaf_is = old leaf far ∙ h.leaf_is;
  each = each;
  quiet = quiet;
  only = only;
  distinct = distinct_more i places none h.distinct;
}
  where
    row : ℕ
    row = frames + i

    new : Hold
    new = hold row t.took.version t.took.was t.took.was false

    held_is : u.held ≡ new ∷ w.held
    held_is = t.took.held

    more : (q : ℕ) → holds w.held q ≡ true → holds u.held q ≡ true
    more q x = ap (λ hs. holds hs q) held_is ∙ cases (row == q) (λ y. cond-true (row == q) true (holds w.held q) y) (λ n. cond-false (row == q) true (holds w.held q) n ∙ x)

    -- another row than the new one
    other : (q : ℕ) → holds w.held q ≡ true → row ≢ q
    other q x e = true≢false (sym (ap (holds w.held) e ∙ x) ∙ t.took.fresh)

    old : (q : ℕ) → row ≢ q → held_at u.held q ≡ held_at w.held q
    old q ne = ap (λ hs. held_at hs q) held_is ∙ cond-false (row == q) new (held_at w.held q) (ne_eqb row q ne)

    far : row ≢ leaf
    far = other leaf (h.less leaf mine)

    here : held_at u.held row ≡ new
    here = ap (λ hs. held_at hs row) held_is ∙ cond-true (row == row) new (held_at w.held row) (eq-eqb row row refl)

    mine_new : holds u.held row ≡ true
    mine_new = ap (λ hs. holds hs row) held_is ∙ cond-true (row == row) true (holds w.held row) (eq-eqb row row refl)

    newest : IsKept z u row
    newest = record { mine = mine_new; inside = inside; done = ap (λ x. x.done) here; same = ap (λ x. x.now) here ∙ sym (ap (λ x. x.was) here) }

    each : (j : ℕ) → is_in j (places ++ i ∷ []) ≡ true → IsKept z u (frames + j)
    each j x = elim (in_append j i places x) [
      | inl y ↦ let k = h.each j y in let o = old (frames + j) (other (frames + j) k.mine) in
          record { mine = more (frames + j) k.mine; inside = k.inside; done = ap (λ b. b.done) o ∙ k.done; same = ap (λ b. b.now) o ∙ (k.same ∙ sym (ap (λ b. b.was) o)) }
      | inr e ↦ subst (λ n. IsKept z u (frames + n)) e newest
    ]

    quiet : (j : ℕ) → is_in j (places ++ i ∷ []) ≡ true → IsQuiet ((state u).core.row j) f
    quiet j x = elim (in_append j i places x) [
      | inl y ↦ subst (λ o. IsQuiet o f) (sym (place_stays frames j (ap (λ (g : Given). (opening g).frames) h.stood.waited.ran.given ∙ is) t.grew (h.each j y).mine)) (h.quiet j y)
      | inr e ↦ subst (λ n. IsQuiet ((state u).core.row n) f) e t.quiet
    ]

    only : (q : ℕ) → holds u.held q ≡ true → (q ≡ leaf) ⊎ IsPlace frames (places ++ i ∷ []) q
    only q x = cases (row == q)
        (λ y. inr (record { place = i; among = in_last i places; is = sym (eqb-true row q y) }))
        (λ n. elim (h.only q (sym (ap (λ hs. holds hs q) held_is ∙ cond-false (row == q) true (holds w.held q) n) ∙ x)) [ inl a ↦ inl a | inr b ↦ inr (wider i places b) ])

-- a place that is not among those that are held is free of this seat
pub place_free : {z : Shape} {frames f leaf : ℕ} {places : List ℕ} {v w : View} (i : ℕ) → leaf < frames → Holding z frames f leaf places v w → is_in i places ≡ false → holds w.held (frames + i) ≡ false
place_free {z} {frames} {f} {leaf} {places} {v} {w} i lt h none = cases (holds w.held (frames + i))
    (λ y. elim (h.only (frames + i) y) [
      | inl e ↦ absurd (omega arith)
      | inr p ↦ let e = p.is in let same : p.place ≡ i = omega arith in absurd (true≢false (sym (ap (λ n. is_in n places) (sym same) ∙ p.among) ∙ none))
    ])
    (λ n. n)
