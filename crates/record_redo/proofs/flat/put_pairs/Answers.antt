use Rattle.std.proofs.Common.{◌+◌, ◌*◌, get_or, set, ◌∙◌}
use Rattle.std.proofs.lemmas.List.{length-set}
use Rattle.disk_image.specs.log_record.declared.record.Pair.{Pair}
use Rattle.record_redo.proofs.MakeLemmas.{spelled_more}
use Rattle.record_redo.proofs.flat.put_pairs.Goals as goal

abbrev none : Pair
none = record { key = 0; word = 0 }

pub loop-i-preserved : goal.loop-i-preserved
loop-i-preserved c =
    let i = c.loop-i.i in
    let ws = c.loop-i.words in
    let x = get_or c.args.pairs.now i none in
    record {
      long = length-set (set ws (2 * i) x.key) (2 * i + 1) x.word ∙ (length-set ws (2 * i) x.key ∙ c.loop-i.invariant.long);
      spelled = spelled_more c.args.pairs.now ws i none c.loop-i.invariant.long c.requires c.loop-i-test.true c.loop-i.invariant.spelled;
    }
