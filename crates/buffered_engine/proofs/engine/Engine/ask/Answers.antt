use Rattle.std.proofs.Common.{refl, sym, ap, ◌∙◌, subst, rules}
use Rattle.paged_scans.specs.engine_trait.Calls.{IsAsked}
use Rattle.buffered_engine.specs.Calls.{Asked}
use Rattle.buffered_engine.specs.Inside.Parts.{state_by}
use Rattle.buffered_engine.specs.States.{State}
use Rattle.buffered_engine.proofs.CalmLemmas.{calm_behind_put}
use Rattle.buffered_engine.proofs.StateLemmas.{asked_engine, asked_went, room_asked}
use Rattle.buffered_engine.proofs.engine.Engine.ask.Goals as goal

pub returns-clause-asked : goal.returns-clause-asked
returns-clause-asked g c =
    let m = c.self.inside.machine in
    let n = c.ask-response.new.machine in
    let e = c.ask-response.ensures in
    subst (λ (s : State g.row.D.Denot). Asked g.D.Disk.story c.args.session c.args.call.now c.ask-response.result.answer s (state_by n c.next_behind-self-inside.result c.ask-response.new.scan c.put_end.new.unripe)) c.self.view_is
    (asked_went c.every_reached.ensures c.every_outcome.ensures c.every_rise.ensures g.D.Disk.story g.D.Disk.faults m n c.self.inside.next c.next_behind-self-inside.result c.self.inside.scan c.ask-response.new.scan c.self.inside.unripe c.put_end.new.unripe (search rules) c.self.invariant.0 c.ask-response.result c.next_behind-self-inside.ensures c.put_end.ensures e.scan.1
    c.args.session c.args.call.now c.is_long-is_long.result (ap (λ s. s.next) c.self.view_is ∙ c.requires.next) (subst (λ s. IsAsked s.sessions c.args.session c.args.call.now) (sym c.self.view_is) c.requires.asked) c.is_long-is_long.ensures e.turn e.scan.0 e.went)

pub invariant_of-self : goal.invariant_of-self
invariant_of-self g c =
    let m = c.self.inside.machine in
    let n = c.ask-response.new.machine in
    let e = c.ask-response.ensures in (
      asked_engine c.every_reached.ensures c.every_outcome.ensures c.every_rise.ensures g.D.Disk.story g.D.Disk.faults m n c.self.inside.next c.next_behind-self-inside.result c.self.inside.scan c.ask-response.new.scan c.self.inside.unripe c.put_end.new.unripe (search rules) c.self.invariant.0 c.ask-response.result c.next_behind-self-inside.ensures c.put_end.ensures e.scan.1
          c.args.session c.args.call.now c.is_long-is_long.result (ap (λ s. s.next) c.self.view_is ∙ c.requires.next) (subst (λ s. IsAsked s.sessions c.args.session c.args.call.now) (sym c.self.view_is) c.requires.asked) c.is_long-is_long.ensures e.turn e.scan.0 e.went,
      calm_behind_put c.self.inside.calm c.end_calm.new.calm c.ask-response.result.receipt c.ask-response.result.answer m.machine.work.session.workers n.machine.work.session.workers c.self.inside.unripe c.put_end.new.unripe
          c.end_calm.ensures c.put_end.ensures e.went.session.0 c.self.invariant.1,
    )

pub ask-response-requires-clause-ready : goal.ask-response-requires-clause-ready
ask-response-requires-clause-ready g c κs within = c.self.invariant.0.ready (search rules)

pub put_end-requires-clause-room : goal.put_end-requires-clause-room
put_end-requires-clause-room g c =
    let m = c.self.inside.machine in
    let n = c.ask-response.new.machine in
    let e = c.ask-response.ensures in
    (room_asked c.every_reached.ensures c.every_outcome.ensures c.every_rise.ensures g.D.Disk.story g.D.Disk.faults m n c.self.inside.next _ c.self.inside.scan c.ask-response.new.scan c.self.inside.unripe _ (search rules) c.self.invariant.0 c.ask-response.result refl refl e.scan.1
    c.args.session c.args.call.now c.is_long-is_long.result (ap (λ s. s.next) c.self.view_is ∙ c.requires.next) (subst (λ s. IsAsked s.sessions c.args.session c.args.call.now) (sym c.self.view_is) c.requires.asked) c.is_long-is_long.ensures e.turn e.scan.0 e.went).1

pub put_end-requires-clause-log : goal.put_end-requires-clause-log
put_end-requires-clause-log g c =
    let m = c.self.inside.machine in
    let n = c.ask-response.new.machine in
    let e = c.ask-response.ensures in
    (room_asked c.every_reached.ensures c.every_outcome.ensures c.every_rise.ensures g.D.Disk.story g.D.Disk.faults m n c.self.inside.next _ c.self.inside.scan c.ask-response.new.scan c.self.inside.unripe _ (search rules) c.self.invariant.0 c.ask-response.result refl refl e.scan.1
    c.args.session c.args.call.now c.is_long-is_long.result (ap (λ s. s.next) c.self.view_is ∙ c.requires.next) (subst (λ s. IsAsked s.sessions c.args.session c.args.call.now) (sym c.self.view_is) c.requires.asked) c.is_long-is_long.ensures e.turn e.scan.0 e.went).0

pub ask-response-requires-clause-within : goal.ask-response-requires-clause-within
ask-response-requires-clause-within g c κs within = c.self.invariant.0.within
