use Rattle.std.proofs.Common.{◌∙◌, ap, map}
use Rattle.core_state.specs.Steps as steps
use Rattle.plain_images.specs.Pages.{pair_of}
use Rattle.plain_core.specs.Records.{page_of}
use Rattle.plain_core.proofs.Runs.{fetched}
use Rattle.plain_core.proofs.state.Core.fetch.Goals as goal

pub returns : goal.returns
returns c =
    let v = c.in_ok-found.ensures ∙ ap (λ p. steps.with_pairs (map pair_of c.args.pairs.now) (page_of p)) c.get.ensures in
    fetched c.args.self.now c.set_page.new.self c.set_saved.new.self c.args.page (page_of c.in_ok-found.found) (page_of c.in_ok-saved.saved) _ c.in_ok-set_page.ensures c.in_ok-set_saved.ensures v (c.in_ok-saved.ensures ∙ v)
