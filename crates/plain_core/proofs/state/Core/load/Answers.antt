use Rattle.std.proofs.Common.{◌∙◌, ap}
use Rattle.core_state.specs.States as states
use Rattle.plain_core.specs.Records.{page_of}
use Rattle.plain_core.proofs.Runs.{loaded}
use Rattle.plain_core.proofs.state.Core.load.Goals as goal

pub returns : goal.returns
returns c = loaded c.args.self.now c.set_place.new.self c.set_page.new.self c.args.page (states.Place.Hot c.args.frame) (page_of c.in_ok-saved.saved) _ c.in_ok-set_place.ensures c.in_ok-set_page.ensures (c.in_ok-saved.ensures ∙ ap page_of c.get.ensures)
