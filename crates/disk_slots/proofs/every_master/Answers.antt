use Rattle.disk_slots.proofs.LawLemmas.{every_master}
use Rattle.disk_slots.proofs.every_master.Goals as goal

pub returns : goal.returns
returns c = every_master
