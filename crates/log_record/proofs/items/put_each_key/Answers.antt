use Rattle.std.proofs.Common.{◌++◌, take, arith}
use Rattle.std.specs.List.{flat_map}
use Rattle.lean_bytes.specs.Numbers.{number_bytes}
use Rattle.log_record.proofs.ItemLemmas.{put_more}
use Rattle.log_record.proofs.items.put_each_key.Goals as goal

pub loop-key-preserved : goal.loop-key-preserved
loop-key-preserved c =
    let k = c.loop-key.key-index in
    record {
      place = omega arith;
      written = λ prefix first h. put_more (number_bytes 8) c.args.keys.now k 0 prefix first c.put_word-end.new.into c.put_word-end.result c.loop-key-test.true
          (c.put_word-end.ensures.written (prefix ++ flat_map (number_bytes 8) (take k c.args.keys.now)) first (c.loop-key.invariant.written prefix first h));
    }
