use Rattle.disk_image.proofs.every_master_in.Goals as goal
use Rattle.disk_image.proofs.MasterSlotLemmas.{every_master_in}

pub returns : goal.returns
returns c = every_master_in
