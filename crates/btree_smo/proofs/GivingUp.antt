-- Lock rows that are given up one after the other.
use Rattle.std.proofs.Common.{◌≡◌, ◌≢◌, ◌==◌, ◌+◌, ◌⊎◌, inl, inr, ℕ, Bool, true, List, [], ◌∷◌, sym, ap, ◌∙◌, arith, true≢false}
use Rattle.std.proofs.lemmas.Bool.{cond-false, eqb-true, ne_eqb}
use Rattle.page_model.specs.Pairs.{is_in}
use Rattle.btree_descent.proofs.row_words.Stays.{cases}
use Rattle.btree_descent.specs.rows_trait.declared.view.View.{View}
use Rattle.btree_descent.specs.rows_trait.Views.{Shape, holds}
use Rattle.btree_descent.specs.rows_trait.Turns.{Released}
use Rattle.btree_descent.proofs.rows_trait.Runs.{ran_none}
use Rattle.held_rows.specs.Rows.{IsOpen}
use Rattle.held_rows.specs.Waits.{missed_then}
use Rattle.held_rows.proofs.GivingUp as held
use Rattle.held_rows.proofs.Holding.{none_held}
use Rattle.btree_smo.specs.Outcomes.{MissedUpTo}
use Rattle.btree_smo.specs.Inside.Purging.{IsKept, IsPlace, KeepsPlaces, KeepsBeside}

kept_open : {z : Shape} {v : View} {row : ℕ} → IsKept z v row → IsOpen z v row
kept_open k = record { mine = k.mine; inside = k.inside; done = k.done }

-- a row that had no event is given up, which is a miss
pub kept_missed : {z : Shape} {v w : View} {row : ℕ} → IsKept z v row → Released z row v w → MissedUpTo 1 z.alone v w
kept_missed k r = held.released_missed (kept_open k) r

-- another one stays as it was
still_kept : {z : Shape} {v w : View} {row q : ℕ} → q ≢ row → IsKept z v q → Released z row v w → IsKept z w q
still_kept ne k r = record {
  mine = held.still_holds r ne ∙ k.mine;
  inside = k.inside;
  done = ap (λ h. h.done) (held.still_at r ne) ∙ k.done;
  same = held.still_unchanged r ne k.same;
}

-- the first of them is given up
pub keeps_next : {z : Shape} {frames x : ℕ} {xs : List ℕ} {u w : View} → KeepsPlaces z u frames (x ∷ xs) → Released z (frames + x) u w → KeepsPlaces z w frames xs
keeps_next {z} {frames} {x} {xs} {u} {w} k r = record { each = each; only = held.held_before r (IsPlace frames xs) either; distinct = k.distinct.1 }
  where
    other : (i : ℕ) → is_in i xs ≡ true → x ≢ i
    other i h e = true≢false (sym (ap (λ n. is_in n xs) e ∙ h) ∙ k.distinct.0)

    wide : (i : ℕ) → is_in i xs ≡ true → is_in i (x ∷ xs) ≡ true
    wide i h = cond-false (x == i) true (is_in i xs) (ne_eqb x i (other i h)) ∙ h

    each : (i : ℕ) → is_in i xs ≡ true → IsKept z w (frames + i)
    each i h = still_kept (λ e. other i h (omega arith)) (k.each i (wide i h)) r

    either : (q : ℕ) → holds u.held q ≡ true → (q ≡ frames + x) ⊎ IsPlace frames xs q
    either q h =
        let p = k.only q h in
        cases (x == p.place)
        (λ y. inl (p.is ∙ ap (λ n. frames + n) (sym (eqb-true x p.place y))))
        (λ n. inr (record { place = p.place; among = sym (cond-false (x == p.place) true (is_in p.place xs) n) ∙ p.among; is = p.is }))

pub keeps_none : {z : Shape} {frames : ℕ} {w : View} → KeepsPlaces z w frames [] → w.held ≡ []
keeps_none {w = w} k = none_held w.held (λ q h. true≢false (sym (k.only q h).among))

pub missed_none : (alone : Bool) (v : View) → MissedUpTo 0 alone v v
missed_none alone v = record { events = []; ran = ran_none alone v; misses = tt; few = omega arith }

pub missed_one : {z : Shape} {row n : ℕ} {v u w : View} → IsKept z u row → Released z row u w → MissedUpTo n z.alone v u → MissedUpTo (n + 1) z.alone v w
missed_one k r m = missed_then m (kept_missed k r)

-- the leaf's row is given up first
pub beside_left : {z : Shape} {frames leaf : ℕ} {places : List ℕ} {u w : View} → KeepsBeside z u frames leaf places → Released z leaf u w → KeepsPlaces z w frames places
beside_left {frames = frames} {places = places} k r = record {
  each = λ i h. still_kept (λ e. k.far i h (sym e)) (k.each i h) r;
  only = held.held_before r (IsPlace frames places) k.only;
  distinct = k.distinct;
}
