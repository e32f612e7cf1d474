use Rattle.std.proofs.Common.{Option, sym, ap, ◌∙◌, subst, rules}
use Rattle.group_commit.specs.declared.receipts.Receipt.{Receipt}
use Rattle.buffered_engine.specs.Calls.{AskedScan, TellsFewer}
use Rattle.buffered_engine.specs.Inside.Asks.{put_ends}
use Rattle.buffered_engine.specs.Inside.Calm.{IsCalm}
use Rattle.buffered_engine.specs.Inside.Parts.{state_by}
use Rattle.buffered_engine.specs.States.{State}
use Rattle.buffered_engine.proofs.StateLemmas.{scan_engine, scan_fewer, scan_went}
use Rattle.buffered_engine.proofs.engine.Engine.ask_scan.Goals as goal

pub returns-clause-went : goal.returns-clause-went
returns-clause-went g c =
    let m = c.self.inside.machine in
    let n = c.scan_step-response.new.machine in
    let r = c.scan_step-response.result in
    let e = c.scan_step-response.ensures in
    let ends = c.self.inside.unripe in
    subst (λ (s : State g.row.D.Denot). AskedScan g.D.Disk.story r.answer s (state_by n c.next_behind-self-inside.result c.scan_step-response.new.scan ends)) c.self.view_is
    (scan_went c.every_reached.ensures c.every_outcome.ensures c.every_rise.ensures g.D.Disk.story g.D.Disk.faults m n c.self.inside.next c.next_behind-self-inside.result c.self.inside.scan c.scan_step-response.new.scan ends ends (search rules) c.self.invariant.0 r c.next_behind-self-inside.ensures
    (sym (ap (λ (o : Option Receipt). put_ends o r.answer ends) e.none)) e.behind.1 (ap (λ s. s.next) c.self.view_is ∙ c.requires.next) e.turn e.behind.0 e.went)

pub returns-clause-fewer : goal.returns-clause-fewer
returns-clause-fewer g c works =
    let m = c.self.inside.machine in
    let n = c.scan_step-response.new.machine in
    let r = c.scan_step-response.result in
    let e = c.scan_step-response.ensures in
    let ends = c.self.inside.unripe in
    subst (λ (s : State g.row.D.Denot). TellsFewer s (state_by n c.next_behind-self-inside.result c.scan_step-response.new.scan ends)) c.self.view_is
    (scan_fewer c.every_reached.ensures c.every_outcome.ensures c.every_rise.ensures g.D.Disk.story g.D.Disk.faults m n c.self.inside.next c.next_behind-self-inside.result c.self.inside.scan c.scan_step-response.new.scan ends ends (search rules) c.self.invariant.0 r c.next_behind-self-inside.ensures
    (sym (ap (λ (o : Option Receipt). put_ends o r.answer ends) e.none)) e.behind.1 (ap (λ s. s.next) c.self.view_is ∙ c.requires.next) e.turn e.behind.0 e.went works)

pub invariant_of-self : goal.invariant_of-self
invariant_of-self g c =
    let m = c.self.inside.machine in
    let n = c.scan_step-response.new.machine in
    let r = c.scan_step-response.result in
    let e = c.scan_step-response.ensures in
    let ends = c.self.inside.unripe in (
      scan_engine c.every_reached.ensures c.every_outcome.ensures c.every_rise.ensures g.D.Disk.story g.D.Disk.faults m n c.self.inside.next c.next_behind-self-inside.result c.self.inside.scan c.scan_step-response.new.scan ends ends (search rules) c.self.invariant.0 r c.next_behind-self-inside.ensures
          (sym (ap (λ (o : Option Receipt). put_ends o r.answer ends) e.none)) e.behind.1 (ap (λ s. s.next) c.self.view_is ∙ c.requires.next) e.turn e.behind.0 e.went,
      subst (λ k. IsCalm c.self.inside.calm k ends) (sym e.went.session.0) c.self.invariant.1,
    )

pub scan_step-response-requires-clause-ready : goal.scan_step-response-requires-clause-ready
scan_step-response-requires-clause-ready g c κs within = c.self.invariant.0.ready (search rules)

pub scan_step-response-requires-clause-within : goal.scan_step-response-requires-clause-within
scan_step-response-requires-clause-within g c κs within = c.self.invariant.0.within
