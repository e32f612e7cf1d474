use Rattle.std.proofs.Common.{◌≡◌, length}
use Rattle.rows_trait.specs.Inside.{flushed_words}
use Rattle.rows_trait.proofs.plain.set_flushed.Given as goal

abbrev pub invariant-loop-w : goal.invariant-loop-w
invariant-loop-w l = record { items : l.words.items ≡ flushed_words l.w l.fn.words.items l.number; size : length l.words.items ≡ length l.fn.words.items }
