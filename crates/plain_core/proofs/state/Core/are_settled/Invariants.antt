use Rattle.std.proofs.Common.{◌≡◌, ℕ, drop}
use Rattle.page_model.specs.Redo.{all_keys}
use Rattle.plain_core.specs.Structure.{is_settled_in}
use Rattle.plain_core.specs.States.{state_of}
use Rattle.plain_core.proofs.state.Core.are_settled.Given as goal

abbrev pub invariant-loop-key : goal.invariant-loop-key
invariant-loop-key l =
    let g = λ (k : ℕ). is_settled_in l.self.settings (state_of l.self) k in
    all_keys g l.keys ≡ all_keys g (drop l.key-index l.keys)
