use Rattle.log_record.specs.Spelling.{pair_text, PairFits}
use Rattle.log_record.proofs.ItemLemmas.{Read}
use Rattle.log_record.proofs.items.fill_pairs.Given as goal

abbrev pub invariant-loop-i : goal.invariant-loop-i
invariant-loop-i l = Read PairFits pair_text 16 l.bytes l.rest l.i l.pairs
