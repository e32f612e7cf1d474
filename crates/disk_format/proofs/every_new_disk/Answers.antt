use Rattle.disk_format.proofs.NewDiskLemmas as new
use Rattle.disk_format.proofs.every_new_disk.Goals as goal

pub returns : goal.returns
returns c = new.every_new_disk
