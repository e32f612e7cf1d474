use Rattle.std.proofs.Common.{Result, subst}
use Rattle.map_model.specs.declared.call.Answer.{Answer}
use Rattle.map_model.specs.declared.call.Call.TheVariants as calls
use Rattle.buffered_engine.specs.Calls.{Asked}
use Rattle.buffered_engine.proofs.ResultLemmas.{committed_is, receipt_is, receipt_some, served_end}
use Rattle.buffered_engine.proofs.engine.Engine.commit.Goals as goal
use Rattle.paged_scans.specs.engine_trait.declared.unserved.Unanswered.{Unanswered}

pub returns-in-Some-clause-asked : goal.returns-in-Some-clause-asked
returns-in-Some-clause-asked g c =
    subst (λ (a : Result Answer Unanswered). Asked g.D.Disk.story c.args.session calls.Commit a c.args.self.now c.ask-response.new.self) c.in-Some.ensures.unserved c.ask-response.ensures.asked

pub returns-clause-asked : goal.returns-clause-asked
returns-clause-asked g c =
    let e = c.ask-response.ensures in
    let a = c.ask-response.result.answer in
    let k = served_end a e.to c.in_default.ensures.served in
    subst (λ (a : Result Answer Unanswered). Asked g.D.Disk.story c.args.session calls.Commit a c.args.self.now c.ask-response.new.self)
    (committed_is c.args.self.now.works c.args.session c.args.self.now.view c.ask-response.new.self.view a c.ask-response.result.receipt c.in-Some-receipt.receipt k.0 k.1 e.asked.broken e.ends k.2 c.in-Some-receipt.is) e.asked

pub returns-clause-receipt : goal.returns-clause-receipt
returns-clause-receipt g c =
    let e = c.ask-response.ensures in
    let a = c.ask-response.result.answer in
    let k = served_end a e.to c.in_default.ensures.served in
    receipt_is c.args.self.now.works c.args.session c.args.self.now.view c.ask-response.new.self.view a c.ask-response.result.receipt c.in-Some-receipt.receipt k.0 k.1 e.asked.broken e.ends k.2 c.in-Some-receipt.is

-- an end that was answered has a receipt
pub unreachable-requires : goal.unreachable-requires
unreachable-requires g c =
    let e = c.ask-response.ensures in
    let a = c.ask-response.result.answer in
    let k = served_end a e.to c.in_default.ensures.served in
    receipt_some c.args.self.now.works c.args.session c.args.self.now.view c.ask-response.new.self.view a c.ask-response.result.receipt k.0 k.1 e.asked.broken e.ends k.2 c.in-None.is
