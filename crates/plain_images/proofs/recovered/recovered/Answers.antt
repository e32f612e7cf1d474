use Rattle.plain_images.proofs.ReadLemmas.{word_read}
use Rattle.plain_images.proofs.recovered.recovered.Goals as goal

pub returns : goal.returns
returns c =
    word_read c.args.image.now c.in_ok-replayed.replayed c.in_ok-replayed.ensures c.deref.result.now c.args.key c.in_ok-word.word c.undo_word.result
    c.deref.ensures.value c.in_ok-word.ensures c.undo_word.ensures
