use Rattle.std.proofs.Common.{◌∙◌, ap}
use mathlib.Core.Path.{fun_ext}
use Rattle.core_state.specs.States as states
use Rattle.plain_core.specs.Tables.{at}
use Rattle.plain_core.specs.States.{place_of}
use Rattle.plain_core.proofs.Runs.{queued}
use Rattle.plain_core.proofs.state.Core.cool.Goals as goal

pub returns : goal.returns
returns c =
    let s = c.args.self.now in
    let f = c.frame.ensures ∙ ap (λ l. states.frame_of (place_of l)) c.get.ensures in
    let v = fun_ext c.in_ok-waited.ensures in
    queued s c.set_place.new.self c.enqueue.new.self c.args.page _ _ c.in_ok-set_place.ensures c.in_ok-enqueue.ensures
    (ap (λ n. states.Place.Cooling n s.epoch (at c.in_ok-waited.waited)) f ∙ ap (λ w. states.Place.Cooling (states.frame_of (place_of (at s.places c.args.page))) s.epoch w) v)
