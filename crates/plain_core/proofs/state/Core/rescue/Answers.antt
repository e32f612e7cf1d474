use Rattle.std.proofs.Common.{◌∙◌, ap}
use Rattle.core_state.specs.Lists as lists
use Rattle.core_state.specs.States as states
use Rattle.plain_core.specs.States.{place_of}
use Rattle.plain_core.proofs.Runs.{stands}
use Rattle.plain_core.proofs.state.Core.rescue.Goals as goal

pub returns : goal.returns
returns c =
    let s = c.args.self.now in
    let f = c.frame-frame.ensures ∙ ap (λ l. states.frame_of (place_of l)) c.get.ensures in
    stands s c.take_out.new.self c.args.page (lists.without c.args.page s.queue.items) _ _ c.in_ok-take_out.ensures (ap states.Place.Hot f)
