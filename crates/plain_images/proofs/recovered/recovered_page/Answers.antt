use Rattle.std.proofs.Common.{refl}
use Rattle.plain_images.specs.Records.{page_of}
use Rattle.plain_images.proofs.ReadLemmas.{page_read}
use Rattle.plain_images.proofs.recovered.recovered_page.Goals as goal

pub returns : goal.returns
returns c =
    page_read c.args.image.now c.in_ok-replayed.replayed c.in_ok-replayed.ensures c.deref.result.now c.deref-2.result.now c.args.page (page_of c.in_ok-was.was')
    (page_of (record { number = c.in_ok-was.was'.number; log = c.in_ok-was.was'.log; node = c.in_ok-node.node })) c.deref.ensures.value c.deref-2.ensures.value c.in_ok-was.ensures refl refl c.in_ok-node.ensures
