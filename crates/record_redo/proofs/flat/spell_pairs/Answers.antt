use Rattle.std.proofs.Common.{◌*◌, length, take, ◌∙◌, ap}
use Rattle.disk_image.specs.btree_node.Words.{flat}
use Rattle.record_redo.specs.Inside.{record_in}
use Rattle.record_redo.proofs.MakeLemmas.{words_from}
use Rattle.record_redo.proofs.flat.spell_pairs.Goals as goal

pub returns-clause-spelled : goal.returns-clause-spelled
returns-clause-spelled c =
    words_from (record_in c.args.body.now).pairs (take (2 * length c.pairs_of-pairs.result.now) c.put_pairs.new.words) (c.put_pairs.ensures ∙ ap flat c.pairs_of-pairs.ensures.answer)
