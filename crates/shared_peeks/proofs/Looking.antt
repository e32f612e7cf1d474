-- What one peek leaves, and what sixty leave.
use Rattle.std.proofs.Common.{◌≡◌, ℕ, suc, ◌+◌, ◌<◌, Bool, true, false, List, [], ◌∷◌, ◌++◌, length, Some, None, refl, sym, ap, subst, ◌∙◌, arith, length-append}
use Rattle.btree_descent.specs.row_words.declared.event.Event.{Event}
use Rattle.btree_descent.specs.row_words.declared.event.Event.TheVariants.{Peek, Miss}
use Rattle.btree_descent.specs.row_words.declared.given.Given.{Given}
use Rattle.btree_descent.specs.row_words.Openings.{opening}
use Rattle.btree_descent.specs.rows_trait.declared.view.View.{View}
use Rattle.btree_descent.specs.rows_trait.Turns.{Ran}
use Rattle.btree_descent.specs.rows_trait.Views.{Shape}
use Rattle.btree_descent.proofs.rows_trait.Runs.{ran_append}
use Rattle.btree_descent.specs.declared.peek.Peeked.{Peeked}
use Rattle.btree_descent.specs.declared.peek.Peeked.TheVariants as peeked
use Rattle.btree_descent.specs.Descents.{Sized}
use Rattle.btree_descent.specs.Peeks.{Went}
use Rattle.shared_peeks.specs.Peeked.{HasLooked, ArePeeks, bit}

pub looked_of : (worker key : ℕ) (v w : View) (a : Peeked) (b : Bool) → Went false worker key v a w → (b ≡ true → a ≡ peeked.Found key) → HasLooked worker key b v w
looked_of worker key v w (peeked.Found x) b went own = record { events = Peek worker went.page key (Some x) ∷ []; ran = went.ran; found = λ y. (went.page, (let e = own y in let same : x ≡ key = cc in ap (λ z. Peek worker went.page key (Some z) ∷ []) same)) }
looked_of worker key v w peeked.Absent b went own = record { events = Peek worker went.page key None ∷ []; ran = went.ran; found = λ y. (let e = own y in absurd (cc)) }
looked_of worker key v w (peeked.Cold p) b went own = record { events = []; ran = went.ran; found = λ y. (let e = own y in absurd (cc)) }
looked_of worker key v w (peeked.Moved m) b went own = record { events = Miss worker ∷ []; ran = went; found = λ y. (let e = own y in absurd (cc)) }
looked_of worker key v w (peeked.Latched l) b went own = record { events = Miss worker ∷ []; ran = went; found = λ y. (let e = own y in absurd (cc)) }

pub sized_on : (z : Shape) (v w : View) (frames : ℕ) → w.given ≡ v.given → Sized z v frames → Sized z w frames
sized_on z v w frames same s = record { some = s.some; shape = s.shape; given = ap (λ (g : Given). (opening g).frames) same ∙ s.given }

peeks_more : (worker from key page : ℕ) (es : List Event) → ArePeeks worker from es → length es + from ≡ key → ArePeeks worker from (es ++ Peek worker page key (Some key) ∷ [])
peeks_more worker from key page [] a e = (page, (let s : from ≡ key = omega arith in ap (λ z. Peek worker page z (Some z)) (sym s)), tt)
peeks_more worker from key page (x ∷ xs) a e = (a.0, a.1, peeks_more worker (suc from) key page xs a.2 (omega arith))

-- a key more was looked at
pub next_key : (worker key good : ℕ) (found : Bool) (v u w : View) (es : List Event) → Ran false v es u → (good + 1 ≡ key → ArePeeks worker 1 es × (length es + 1 ≡ key)) → good < key → HasLooked worker key found u w
    → (fs : List Event) × Ran false v fs w × ((good + bit found) + 1 ≡ key + 1 → ArePeeks worker 1 fs × (length fs + 1 ≡ key + 1))
next_key worker key good true v u w es r old less l =
    let one = l.found refl in
    let fs = es ++ l.events in (
      fs,
      ran_append false v es u l.events w r l.ran,
      λ e. let o = old (omega arith) in
          let s : fs ≡ es ++ Peek worker one.0 key (Some key) ∷ [] = ap (λ z. es ++ z) one.1 in
          (subst (ArePeeks worker 1) (sym s) (peeks_more worker 1 key one.0 es o.0 o.1), (let n = ap length s in let m = length-append es (Peek worker one.0 key (Some key) ∷ []) in let k = o.1 in omega arith)),
    )
next_key worker key good false v u w es r old less l = (es ++ l.events, ran_append false v es u l.events w r l.ran, λ e. absurd (omega arith))

pub bit_small : (b : Bool) → bit b < 2
bit_small true = omega arith
bit_small false = omega arith
