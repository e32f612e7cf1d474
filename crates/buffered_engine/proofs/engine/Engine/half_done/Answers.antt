use Rattle.std.proofs.Common.{◌≤◌, sym, ap, ◌∙◌, subst}
use Rattle.buffered_engine.specs.States.{InRun, State}
use Rattle.buffered_engine.proofs.DurableLemmas.{half_in, seated_in, works_of}
use Rattle.buffered_engine.proofs.engine.Engine.half_done.Goals as goal

pub is_half-requires-clause-seated : goal.is_half-requires-clause-seated
is_half-requires-clause-seated g c =
    seated_in g.D.Disk.story c.self.inside.machine c.self.inside.next c.self.inside.scan c.self.inside.unripe
    (ap (λ s. s.works) c.self.view_is ∙ works_of c.is_working.result c.in_ok-is_working.field-0 c.args.self.now.works c.in_ok-is_working.was c.is_working.ensures.cause) c.self.invariant.0

pub returns-clause-is_half_aborted : goal.returns-clause-is_half_aborted
returns-clause-is_half_aborted g c o xs names run =
    c.is_half.ensures ∙ half_in g.D.Disk.story c.self.inside.machine c.self.inside.next c.self.inside.scan c.self.inside.unripe
    (ap (λ s. s.works) c.self.view_is ∙ works_of c.is_working.result c.in_ok-is_working.field-0 c.args.self.now.works c.in_ok-is_working.was c.is_working.ensures.cause) c.self.invariant.0
    c.args.session c.requires.session.0 (subst (λ s. c.args.session ≤ s.sessions) (sym c.self.view_is) c.requires.session.1) o xs names (subst (λ (s : State g.row.D.Denot). InRun s o xs names) (sym c.self.view_is) run)
