use Rattle.disk_image.proofs.every_block_in.Goals as goal
use Rattle.disk_image.proofs.BlockInLemmas.{every_block_in}

pub returns : goal.returns
returns c = every_block_in
