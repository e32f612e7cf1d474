use Rattle.std.proofs.Common.{◌≡◌, ℕ, drop}
use Rattle.page_model.specs.Redo.{all_keys, has_key}
use Rattle.plain_images.specs.Pages.{node_of}
use Rattle.plain_images.proofs.checks.has_keys.Given as goal

abbrev pub invariant-loop-key : goal.invariant-loop-key
invariant-loop-key l =
    let g = λ (k : ℕ). has_key k (node_of l.node) in
    all_keys g l.keys ≡ all_keys g (drop l.key-index l.keys)
