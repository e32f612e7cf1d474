use Rattle.std.proofs.Common.{◌≡◌, ℕ, drop}
use Rattle.page_model.specs.Pairs.{find}
use Rattle.page_model.specs.Redo.{all_keys}
use Rattle.plain_core.specs.Structure.{is_dead_in}
use Rattle.plain_core.specs.Records.{node_of}
use Rattle.plain_core.proofs.records.Node.are_dead.Given as goal

abbrev pub invariant-loop-key : goal.invariant-loop-key
invariant-loop-key l =
    let g = λ (k : ℕ). is_dead_in l.dead (find k (node_of l.self).pairs) in
    all_keys g l.keys ≡ all_keys g (drop l.key-index l.keys)
