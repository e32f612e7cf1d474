use Rattle.disk_slots.proofs.LawLemmas.{every_page}
use Rattle.disk_slots.proofs.every_page.Goals as goal

pub returns : goal.returns
returns c = every_page
