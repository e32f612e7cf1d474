use Rattle.log_block.proofs.block.+are_records.Given as goal

abbrev pub decreases-are_records : goal.decreases-are_records
decreases-are_records l = l.count
