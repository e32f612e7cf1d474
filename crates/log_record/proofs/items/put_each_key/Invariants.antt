use Rattle.std.proofs.Common.{◌≡◌, ◌+◌, ◌*◌, ◌++◌, ℕ, List, take}
use Rattle.std.specs.List.{flat_map}
use Rattle.lean_bytes.specs.Numbers.{number_bytes}
use Rattle.log_record.specs.Spelling.{Holds}
use Rattle.log_record.proofs.items.put_each_key.Given as goal

abbrev pub invariant-loop-key : goal.invariant-loop-key
invariant-loop-key l = record {
  place : l.end ≡ l.at + 8 * l.key-index;
  written : (prefix first : List ℕ) → Holds prefix first l.fn.into l.at → Holds (prefix ++ flat_map (number_bytes 8) (take l.key-index l.keys)) first l.into l.end;
}
