-- A text with no sign and no leading zero is parsed exactly where it spells a number.
use Rattle.std.proofs.Common.{◌≡◌, ◌<◌, ◌^◌, ℕ, zero, suc, List, [], ◌∷◌, sym, refl, ◌∙◌, ap, subst, Result, Ok, Err, IfSome, IfNone, arith}
use Rattle.std.specs.Fmt.{decimal}
use Rattle.std.specs.Str.Parse.{ParsesUnsigned, AllDigits, digits_value}
use Rattle.std.specs.Result.{result_ok}
use Rattle.std.proofs.lemmas.Str.Parse.{IsNumeralModel, numerals_by_value, tells_digits, parse_plain}
use Rattle.std.proofs.lemmas.Fmt.{parse-decimal, decimal-digits_value, decimal_nonempty, decimal_digit, decimal_injective, first_decimal}
use Rattle.lean_shell.specs.Words.{IsNumberIn, IsPlain}

own : IsNumeralModel (AllDigits 10) (digits_value 10)
own = numerals_by_value (AllDigits 10) tells_digits

pub parsed : {E : Type 0} (bs : List ℕ) (r : Result ℕ E) → IsPlain bs → ParsesUnsigned 64 10 bs r → IfSome (result_ok r) (λ n. bs ≡ decimal n)
parsed {E} bs (Ok n) plain h =
    let p = parse_plain own {E = E} 64 bs (Ok n) h plain.no_sign in
    let below : digits_value 10 bs < 2 ^ 64 = p.0.2 in
    sym (ap decimal p.1 ∙ decimal-digits_value own bs p.0.0 p.0.1 plain.no_zero (omega (arith, below)))
parsed bs (Err e) plain h = tt

pub not_parsed : {E : Type 0} (bs : List ℕ) (r : Result ℕ E) → ParsesUnsigned 64 10 bs r → IfNone (result_ok r) ((n : ℕ) → n < 2 ^ 64 → bs ≡ decimal n → ⊥)
not_parsed bs (Ok n) h = tt
not_parsed {E} bs (Err e) h = λ n small is.
    let gives : Err e ≡ Ok n = parse-decimal {E = E} 64 n bs (Err e) small (omega (arith, small)) is h in cc

plain_digit : IsPlain (48 ∷ [])
plain_digit = record { some = omega arith; no_sign = λ e. absurd (omega (arith, e)); no_zero = λ e. refl }

plain_decimal : (n : ℕ) → n < 2 ^ 64 → IsPlain (decimal n)
plain_decimal zero small = subst IsPlain (sym (decimal_digit 0 (omega arith))) plain_digit
plain_decimal (suc n) small =
    let first = first_decimal (suc n) (omega arith) small in
    record { some = decimal_nonempty (suc n) small; no_sign = λ e. absurd (omega (arith, e, first)); no_zero = λ e. absurd (omega (arith, e, first)) }

pub not_plain : (bs : List ℕ) → (IsPlain bs → ⊥) → (n : ℕ) → n < 2 ^ 64 → bs ≡ decimal n → ⊥
not_plain bs not_so n small is = not_so (subst IsPlain (sym is) (plain_decimal n (omega (arith, small))))

-- one text spells one number
pub same_number : (text : List ℕ) (m n from to : ℕ) → m < 2 ^ 64 → to < 2 ^ 64 → text ≡ decimal m → IsNumberIn from to text n → m ≡ n
same_number text m n from to small end is other = decimal_injective m n (omega (arith, small)) (omega (arith, end, other.most)) (sym is ∙ other.spelled)
