use Rattle.lean_disk.specs.Inside.Laws.{areas_whole}
use Rattle.lean_disk.proofs.laws.every_area.Goals as goal

pub returns : goal.returns
returns c d a counts = areas_whole d.own d.areas.items d.made d.notes a counts
