use Rattle.engine_calls.proofs.every_entry.Goals as goal
use Rattle.engine_calls.proofs.EntryLemmas.{every_entry}

pub returns : goal.returns
returns c = every_entry
