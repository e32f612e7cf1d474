-- The generator behind some words, and one more.
use Rattle.std.proofs.Common.{◌≡◌, ℕ, zero, suc, ◌+◌, ◌-◌, ◌*◌, ◌/◌, ◌%◌, ◌^◌, ◌<◌, refl, sym, ap, ◌∙◌, arith}
use Rattle.std.specs.Int.{w32, rotate_right}
use Rattle.std.proofs.Math.Nat.{div-le_self, mod-lt}
use Rattle.std.proofs.lemmas.Nat.{or_lt}
use Rattle.rand_pcg.specs.Lcg.{Lcg, next, next_state, state_after}
use Rattle.rand_pcg.specs.Pcg.{multiplier_64}
use Rattle.workload.specs.Draws.{behind_words, generator_of, word}
use Rattle.workload.specs.Inside.{drawn_from}

-- the last of some steps, taken by itself
last_step : (w m p n s : ℕ) → next_state w m p (state_after w m p n s) ≡ state_after w m p (suc n) s
unfolding state_after
last_step w m p zero s = refl
last_step w m p (suc n) s = last_step w m p n (next_state w m p s)

with_state : ℕ → ℕ → Lcg
with_state p s = record { state = s; increment = p }

no_words : (number : ℕ) → generator_of number ≡ behind_words number 0
unfolding state_after
no_words number = refl

-- before the first word
pub first_words : (number : ℕ) → generator_of number ≡ behind_words number (8 * 0 + (0 - 1))
first_words number = no_words number

-- behind one word more
next_words : (number n k : ℕ) → k ≡ suc n → next 64 multiplier_64 (behind_words number n) ≡ behind_words number k
unfolding with_state
next_words number n k more =
    let g = generator_of number in
    ap (with_state g.increment) (last_step 64 multiplier_64 g.increment n g.state) ∙ ap (behind_words number) (sym more)

-- behind the line at a place, if that is not the last
pub drawn_on : (number done place : ℕ) → place < 9
    → drawn_from place (behind_words number (8 * done + (place - 1))) ≡ behind_words number (8 * done + (suc place - 1))
drawn_on number done zero lt = refl
drawn_on number done (suc zero) lt = next_words number (8 * done + 0) (8 * done + 1) (omega arith)
drawn_on number done (suc (suc zero)) lt = next_words number (8 * done + 1) (8 * done + 2) (omega arith)
drawn_on number done (suc (suc (suc zero))) lt = next_words number (8 * done + 2) (8 * done + 3) (omega arith)
drawn_on number done (suc (suc (suc (suc zero)))) lt = next_words number (8 * done + 3) (8 * done + 4) (omega arith)
drawn_on number done (suc (suc (suc (suc (suc zero))))) lt = next_words number (8 * done + 4) (8 * done + 5) (omega arith)
drawn_on number done (suc (suc (suc (suc (suc (suc zero)))))) lt = next_words number (8 * done + 5) (8 * done + 6) (omega arith)
drawn_on number done (suc (suc (suc (suc (suc (suc (suc zero))))))) lt = next_words number (8 * done + 6) (8 * done + 7) (omega arith)
drawn_on number done (suc (suc (suc (suc (suc (suc (suc (suc zero)))))))) lt = next_words number (8 * done + 7) (8 * done + 8) (omega arith)
drawn_on number done (suc (suc (suc (suc (suc (suc (suc (suc (suc n))))))))) lt = absurd (omega arith)

-- and behind the last one
pub drawn_all : (number done : ℕ) → behind_words number (8 * done + (9 - 1)) ≡ behind_words number (8 * suc done + (0 - 1))
drawn_all number done = ap (behind_words number) (omega arith)

rotated : (x by : ℕ) → x < 2 ^ 32 → rotate_right w32 x by < 2 ^ 32
rotated x by lt =
    let a = x / 2 ^ (by % 32) in
    let b = x * 2 ^ ((32 - by % 32) % 32) % 2 ^ 32 in
    let le = div-le_self x (2 ^ (by % 32)) in
    let a_lt : a < 2 ^ 32 = omega arith in
    let b_lt : b < 2 ^ 32 = mod-lt (x * 2 ^ ((32 - by % 32) % 32)) {m = 2 ^ 32} (omega arith) in
    or_lt 32 a b a_lt b_lt

-- a word has 32 bits
pub word_small : (number n : ℕ) → word number n < 2 ^ 32
word_small number n = rotated _ _ (mod-lt _ {m = 2 ^ 32} (omega arith))
