use Rattle.lean_bytes.specs.Numbers.{number_bytes}
use Rattle.log_record.specs.Spelling.{KeyFits}
use Rattle.log_record.proofs.ItemLemmas.{Read}
use Rattle.log_record.proofs.items.fill_keys.Given as goal

abbrev pub invariant-loop-i : goal.invariant-loop-i
invariant-loop-i l = Read KeyFits (number_bytes 8) 8 l.bytes l.rest l.i l.keys
