use Rattle.disk_image.proofs.every_page_in.Goals as goal
use Rattle.disk_image.proofs.PageSlotLemmas.{every_page_in}

pub returns : goal.returns
returns c = every_page_in
