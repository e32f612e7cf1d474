use Rattle.std.proofs.Common.{refl, ap, ◌∙◌, subst, rules}
use Rattle.buffered_engine.specs.Calls.{AskedAbort}
use Rattle.buffered_engine.specs.Inside.Parts.{state_by}
use Rattle.buffered_engine.specs.States.{State}
use Rattle.buffered_engine.proofs.AskingLemmas.{once_abort}
use Rattle.buffered_engine.proofs.CalmLemmas.{calm_behind_put}
use Rattle.buffered_engine.proofs.StateLemmas.{abort_engine, abort_went, room_abort_of}
use Rattle.buffered_engine.proofs.engine.Engine.ask_abort.Goals as goal

pub returns-clause-went : goal.returns-clause-went
returns-clause-went g c =
    let m = c.self.inside.machine in
    let n = c.abort-response.new.machine in
    let e = c.abort-response.ensures in
    subst (λ (s : State g.row.D.Denot). AskedAbort g.D.Disk.story c.abort-response.result.answer s (state_by n c.next_behind-self-inside.result c.self.inside.scan c.put_end.new.unripe)) c.self.view_is
    (abort_went c.every_reached.ensures c.every_outcome.ensures c.every_rise.ensures g.D.Disk.story g.D.Disk.faults m n c.self.inside.next c.next_behind-self-inside.result c.self.inside.scan c.self.inside.scan c.self.inside.unripe c.put_end.new.unripe (search rules) c.self.invariant.0 c.abort-response.result c.next_behind-self-inside.ensures c.put_end.ensures c.self.invariant.0.within
    (ap (λ s. s.next) c.self.view_is ∙ c.requires.next) e.turn refl e.went e.due)

pub invariant_of-self : goal.invariant_of-self
invariant_of-self g c =
    let m = c.self.inside.machine in
    let n = c.abort-response.new.machine in
    let e = c.abort-response.ensures in (
      abort_engine c.every_reached.ensures c.every_outcome.ensures c.every_rise.ensures g.D.Disk.story g.D.Disk.faults m n c.self.inside.next c.next_behind-self-inside.result c.self.inside.scan c.self.inside.scan c.self.inside.unripe c.put_end.new.unripe (search rules) c.self.invariant.0 c.abort-response.result c.next_behind-self-inside.ensures c.put_end.ensures c.self.invariant.0.within
          (ap (λ s. s.next) c.self.view_is ∙ c.requires.next) e.turn refl e.went e.due,
      calm_behind_put c.self.inside.calm c.end_calm.new.calm c.abort-response.result.receipt c.abort-response.result.answer m.machine.work.session.workers n.machine.work.session.workers c.self.inside.unripe c.put_end.new.unripe
          c.end_calm.ensures c.put_end.ensures e.went.session.0 c.self.invariant.1,
    )

pub abort-response-requires-clause-ready : goal.abort-response-requires-clause-ready
abort-response-requires-clause-ready g c κs within = c.self.invariant.0.ready (search rules)

pub put_end-requires-clause-room : goal.put_end-requires-clause-room
put_end-requires-clause-room g c =
    let m = c.self.inside.machine in
    let n = c.abort-response.new.machine in
    let e = c.abort-response.ensures in
    (room_abort_of c.every_reached.ensures c.every_outcome.ensures c.every_rise.ensures g.D.Disk.story g.D.Disk.faults m n c.self.inside.next _ c.self.inside.scan c.self.inside.scan c.self.inside.unripe _ (search rules) c.self.invariant.0 c.abort-response.result refl refl c.self.invariant.0.within
    (ap (λ s. s.next) c.self.view_is ∙ c.requires.next) e.turn refl e.went e.due).1

pub put_end-requires-clause-log : goal.put_end-requires-clause-log
put_end-requires-clause-log g c =
    let m = c.self.inside.machine in
    let n = c.abort-response.new.machine in
    let e = c.abort-response.ensures in
    (room_abort_of c.every_reached.ensures c.every_outcome.ensures c.every_rise.ensures g.D.Disk.story g.D.Disk.faults m n c.self.inside.next _ c.self.inside.scan c.self.inside.scan c.self.inside.unripe _ (search rules) c.self.invariant.0 c.abort-response.result refl refl c.self.invariant.0.within
    (ap (λ s. s.next) c.self.view_is ∙ c.requires.next) e.turn refl e.went e.due).0

pub returns-clause-last : goal.returns-clause-last
returns-clause-last g c = let w = c.abort-response.ensures.went in once_abort c.abort-response.result.answer w.to w.may
