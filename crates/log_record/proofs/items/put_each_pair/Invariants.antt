use Rattle.std.proofs.Common.{◌≡◌, ◌+◌, ◌*◌, ◌++◌, ℕ, List, take}
use Rattle.std.specs.List.{flat_map}
use Rattle.log_record.specs.Spelling.{Holds, pair_text}
use Rattle.log_record.proofs.items.put_each_pair.Given as goal

abbrev pub invariant-loop-pair : goal.invariant-loop-pair
invariant-loop-pair l = record {
  place : l.end ≡ l.at + 16 * l.pair-index;
  written : (prefix first : List ℕ) → Holds prefix first l.fn.into l.at → Holds (prefix ++ flat_map pair_text (take l.pair-index l.pairs)) first l.into l.end;
}
