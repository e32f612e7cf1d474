use Rattle.std.proofs.Common.{◌≡◌, ◌++◌, vec_len}
use Rattle.plain_images.proofs.redone.over.Given as goal

abbrev pub invariant-loop-one : goal.invariant-loop-one
invariant-loop-one l = l.newer.items ++ l.placed.items ≡ l.initial.newer.items ++ l.initial.placed.items

abbrev pub decreases-loop-one : goal.decreases-loop-one
decreases-loop-one l = vec_len l.newer
