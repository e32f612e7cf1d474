use Rattle.plain_images.specs.Damages.{told}
use Rattle.plain_images.proofs.ReadLemmas.{damage_read}
use Rattle.plain_images.proofs.damages.first_damage.Goals as goal

pub returns : goal.returns
returns c =
    damage_read c.args.image.now c.in_ok-replayed.replayed c.in_ok-replayed.ensures c.as_slice-logs.result.now c.as_slice-bases.result.now c.deref.result.now
    (told c.first_missing.result) (told c.first_unordered.result) (told c.in_ok-undoable.undoable) (told c.in_ok-broken.broken) (told c.in_ok-lacking.lacking)
    (told c.or_first.result) (told c.or_first-late.result) (told c.or_first-2.result) (told c.or_first-3.result)
    c.as_slice-logs.ensures.value c.as_slice-bases.ensures.value c.deref.ensures.value
    c.first_missing.ensures c.first_unordered.ensures c.in_ok-undoable.ensures c.in_ok-broken.ensures c.in_ok-lacking.ensures
    c.or_first.ensures c.or_first-late.ensures c.or_first-2.ensures c.or_first-3.ensures
