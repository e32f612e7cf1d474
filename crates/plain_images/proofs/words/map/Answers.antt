use Rattle.plain_images.proofs.ReadLemmas.{IsMap, map_read}
use Rattle.plain_images.proofs.words.map.Goals as goal

pub returns : goal.returns
returns c =
    let m : IsMap c.args.image.now c.in_ok-values.values.items =
    map_read c.args.image.now c.in_ok-replayed.replayed c.in_ok-replayed.ensures c.deref.result.now c.in_ok-words.words.items c.in_ok-undone.undone.items c.deref-2.result.now c.in_ok-values.values.items
    c.deref.ensures.value c.in_ok-words.ensures c.in_ok-undone.ensures c.deref-2.ensures.value c.in_ok-values.ensures in
    record { values = m.finds; rising = m.rises }
