-- The lines of a workload.
use Rattle.std.specs.Prelude.{if◌then◌else◌, ◌==◌, ◌+◌, ◌-◌, ◌*◌, ◌/◌, ◌%◌, ℕ, zero, suc, List, [], ◌∷◌, ◌++◌}
use Rattle.map_model.specs.declared.call.Call.{Call}
use Rattle.map_model.specs.declared.call.Call.TheVariants.{Begin, Commit}
use Rattle.script_lang.specs.declared.line.Line.{Line}
use Rattle.workload.specs.Draws.{draw, word}

-- the session of the transaction of this number, counted from 0: sessions take turns
abbrev pub session_of : (workers i : ℕ) → ℕ
session_of workers i = 1 + i % workers

-- its line that asks this
abbrev pub ask : (workers i : ℕ) → Call → Line
ask workers i c = record { session = session_of workers i; call = c }

-- its draw of this number, counted from 0: eight words are drawn for each transaction
abbrev pub drawn : (number workers i j : ℕ) → Line
drawn number workers i j = ask workers i (draw (word number (8 * i + j)))

-- the lines of a transaction: a begin, eight draws, a commit
abbrev pub transaction : (number workers i : ℕ) → List Line
transaction number workers i =
    ask workers i Begin ∷ drawn number workers i 0 ∷ drawn number workers i 1 ∷ drawn number workers i 2 ∷ drawn number workers i 3 ∷ drawn number workers i 4
    ∷ drawn number workers i 5 ∷ drawn number workers i 6 ∷ drawn number workers i 7 ∷ ask workers i Commit ∷ []

-- so many transactions, from this one on
abbrev pub transactions : (number workers i count : ℕ) → List Line
transactions number workers i zero = []
transactions number workers i (suc count) = transaction number workers i ++ transactions number workers (suc i) count

-- the lines of a workload of a number: so many transactions of so many workers' sessions
abbrev pub lines_of : (number count workers : ℕ) → List Line
lines_of number count workers = transactions number workers 0 count

-- The same line by line: what the line at this place of a transaction asks, counted from 0,
abbrev pub call_at : (number i place : ℕ) → Call
call_at number i place = if place == 0 then Begin else if place == 9 then Commit else draw (word number (8 * i + (place - 1)))

-- and the line of this number, counted from 0
abbrev pub line_at : (number workers n : ℕ) → Line
line_at number workers n = ask workers (n / 10) (call_at number (n / 10) (n % 10))
