-- What stands between two lines of a workload.
use Rattle.std.specs.Prelude.{if◌then◌else◌, ◌==◌, ◌≡◌, ◌≤◌, ◌<◌, ◌+◌, ◌-◌, ◌*◌, ℕ, List, drop}
use Rattle.rand_pcg.specs.Lcg.{Lcg}
use Rattle.rand_pcg.specs.Pcg.{pcg32}
use Rattle.map_model.specs.declared.call.Call.{Call}
use Rattle.map_model.specs.declared.call.Call.TheVariants.{Begin, Commit}
use Rattle.script_lang.specs.declared.line.Line.{Line}
use Rattle.workload.specs.Draws.{behind_words, draw}
use Rattle.workload.specs.Lines.{transactions}

-- the lines to come of the transactions from `done` on, the first of them from `place` on
abbrev pub to_come : (number count workers done place : ℕ) → List Line
to_come number count workers done place = drop place (transactions number workers done (count - done))

-- so many transactions are done, and of the next one the lines before `place`: the generator is behind their words
pub record Stands (number count workers done place : ℕ) (words : Lcg) : Type 0 where
  pub drawn : words ≡ behind_words number (8 * done + (place - 1))
  pub within : place < 10
  pub so_far : done ≤ count
  pub some : 1 ≤ workers

-- what is asked there
abbrev pub asked : (place : ℕ) → Lcg → Call
asked place g = if place == 0 then Begin else if place == 9 then Commit else draw (pcg32 g).0

-- and the generator behind it
abbrev pub drawn_from : (place : ℕ) → Lcg → Lcg
drawn_from place g = if place == 0 then g else if place == 9 then g else (pcg32 g).1
