use Rattle.std.proofs.Common.{◌≡◌, ◌↔◌, Bool, true, subst, sym}
use Rattle.session_desks.specs.Parts.{MaySync, here, shape}
use Rattle.session_desks.proofs.MayFlushes.{all_decided}
use Rattle.session_desks.proofs.machine.Machine.may_sync.Goals as goal

pub returns : goal.returns
returns g c =
    let s = c.args.self.now in
    subst (λ (b : Bool). (b ≡ true) ↔ MaySync s) (sym c.all_may_flush.ensures)
    (all_decided c.every_flush.ensures (shape s) s.seat.view (here s) s.desks.items c.requires.machine.desks)
