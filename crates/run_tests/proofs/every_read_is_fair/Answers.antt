use Rattle.std.specs.Prelude.{codes}
use Rattle.lean_shell.specs.disk_slots.Slots as slots
use Rattle.lean_shell.specs.log_block.Block as blocks
use Rattle.run_tests.proofs.ReadLemmas as read
use Rattle.run_tests.proofs.every_read_is_fair.Goals as goal

pub returns-clause-masters : goal.returns-clause-masters
returns-clause-masters c = read.every_read_is_fair 1024 (slots.IsSealed (codes "LEANMAST"))

pub returns-clause-pages : goal.returns-clause-pages
returns-clause-pages c = read.every_read_is_fair 1024 (slots.IsSealed (codes "LEANPAGE"))

pub returns-clause-log : goal.returns-clause-log
returns-clause-log c = read.every_read_is_fair 2048 blocks.IsSealed
