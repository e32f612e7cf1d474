use Rattle.std.proofs.Common.{◌≡◌, ◌*◌, length, take, map}
use Rattle.disk_image.specs.btree_node.Words.{flat}
use Rattle.disk_image.specs.log_record.Model.{model_pair}
use Rattle.record_redo.proofs.flat.put_pairs.Given as goal

abbrev pub invariant-loop-i : goal.invariant-loop-i
invariant-loop-i l = record {
  long : length l.words ≡ 120;
  spelled : take (2 * l.i) l.words ≡ flat (map model_pair (take l.i l.pairs));
}
