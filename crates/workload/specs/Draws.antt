-- The words that a workload draws, and what a word asks.
use Rattle.std.specs.Prelude.{if◌then◌else◌, ◌==◌, ◌/◌, ◌%◌, ℕ}
use Rattle.rand_pcg.specs.Lcg.{Lcg, advance, increment_of, started}
use Rattle.rand_pcg.specs.Pcg.{multiplier_64, pcg32}
use Rattle.map_model.specs.declared.call.Call.{Call}
use Rattle.map_model.specs.declared.call.Call.TheVariants.{Get, Put, Del}

-- the generator of a number, before its first word: a Pcg32 of stream 1
abbrev pub generator_of : ℕ → Lcg
generator_of number = started 64 multiplier_64 number (increment_of 64 1)

-- the same behind n words
abbrev pub behind_words : (number n : ℕ) → Lcg
behind_words number n = advance 64 multiplier_64 n (generator_of number)

-- the word of this number, counted from 0
abbrev pub word : (number n : ℕ) → ℕ
word number n = (pcg32 (behind_words number n)).0

-- what a word asks: a key, and by two bits above it a get, a del, or, in two cases of four, a put of the word itself
abbrev pub key_of : ℕ → ℕ
key_of w = w % 1000

abbrev pub operation_of : ℕ → ℕ
operation_of w = w / 65536 % 4

abbrev pub draw : ℕ → Call
draw w = if operation_of w == 0 then Get (key_of w) else if operation_of w == 3 then Del (key_of w) else Put (key_of w) w
