-- Which events the steps of a look append, and that they change nothing.
use Rattle.std.proofs.Common.{◌≡◌, ◌≢◌, ◌==◌, ◌%◌, ℕ, Bool, true, false, List, [], ◌∷◌, refl, arith, eq-eqb, ne_eqb}
use Rattle.std.specs.Prelude.{if◌then◌else◌}
use Rattle.rows_trait.specs.row_words.declared.event.Event.{Event}
use Rattle.rows_trait.specs.row_words.declared.event.Event.TheVariants.{Miss}
use Rattle.rows_trait.specs.row_words.declared.given.Given.{Given}
use Rattle.rows_trait.specs.row_words.Moments.{actor_of, is_rising}
use Rattle.rows_trait.proofs.row_words.SealedLemmas.{is_silent, silent_changes, silent_sets, silent_part}
use Rattle.rows_trait.specs.Views.{IsEven, AreSilent}
use Rattle.version_latch.specs.Named.{missed, checked}

pub one_silent : (p : ℕ → Bool) (v : Given) (e : Event) → p (actor_of e) ≡ true → is_silent e ≡ true → is_rising e ≡ false → AreSilent p v (e ∷ [])
one_silent p v e a s calm = (record { own = a; part = silent_part e s; rows = λ m q. silent_changes v m e q s; words = λ c i. silent_sets e c i s; calm = calm }, tt)

pub either_silent : (p : ℕ → Bool) (v : Given) (b : Bool) (xs ys : List Event) → AreSilent p v xs → AreSilent p v ys → AreSilent p v (if b then xs else ys)
either_silent p v true xs ys a b = a
either_silent p v false xs ys a b = b

pub missed_silent : (p : ℕ → Bool) (v : Given) (worker n : ℕ) → p worker ≡ true → AreSilent p v (missed worker n)
missed_silent p v worker n m = either_silent p v (n % 2 == 0) [] (Miss worker ∷ []) tt (one_silent p v (Miss worker) m refl refl)

pub checked_silent : (p : ℕ → Bool) (v : Given) (worker version n : ℕ) → p worker ≡ true → AreSilent p v (checked worker version n)
checked_silent p v worker version n m = either_silent p v (n == version) [] (Miss worker ∷ []) tt (one_silent p v (Miss worker) m refl refl)

pub missed_even : (worker n : ℕ) → IsEven n → missed worker n ≡ []
missed_even worker n e = rw (eq-eqb (n % 2) 0 e) refl

pub missed_odd : (worker n : ℕ) → n % 2 ≡ 1 → missed worker n ≡ Miss worker ∷ []
missed_odd worker n e = rw (ne_eqb (n % 2) 0 (λ z. omega arith)) refl

pub checked_same : (worker version : ℕ) → checked worker version version ≡ []
checked_same worker version = rw (eq-eqb version version refl) refl

pub checked_other : (worker version n : ℕ) → n ≢ version → checked worker version n ≡ Miss worker ∷ []
checked_other worker version n ne = rw (ne_eqb n version ne) refl
