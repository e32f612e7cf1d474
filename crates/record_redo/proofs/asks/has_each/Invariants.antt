use Rattle.std.proofs.Common.{◌≡◌, drop}
use Rattle.page_model.specs.Redo.{all_keys, has_key}
use Rattle.record_redo.proofs.asks.has_each.Given as goal

abbrev pub invariant-loop-i : goal.invariant-loop-i
invariant-loop-i l = all_keys (λ k. has_key k l.node.node) (drop l.i l.keys) ≡ all_keys (λ k. has_key k l.node.node) l.keys
