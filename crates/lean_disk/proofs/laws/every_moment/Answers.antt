use Rattle.lean_disk.proofs.LawLemmas as law
use Rattle.lean_disk.proofs.laws.every_moment.Goals as goal

pub returns : goal.returns
returns c = law.every_moment
