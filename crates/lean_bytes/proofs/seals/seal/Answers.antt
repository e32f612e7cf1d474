use Rattle.std.proofs.Common.{take, ap, ◌∙◌}
use Rattle.lean_bytes.specs.Seals.{seal_of}
use Rattle.lean_bytes.proofs.seals.seal.Goals as goal

pub returns : goal.returns
unfolding seal_of
returns c = c.copy_from_slice.ensures.after ∙ ap (take 16) (c.finalize-digest.ensures _ (c.update-2.ensures _ (c.update.ensures _ c.new-hasher.ensures)))
