use Rattle.std.proofs.Common.{◌∙◌, ap, false}
use Rattle.core_state.specs.States as model
use Rattle.core_state.specs.Steps as steps
use Rattle.plain_core.specs.Inside.{written_in, write_entry_in, write_kind, tail}
use Rattle.plain_core.specs.Tables.{at}
use Rattle.plain_core.specs.Records.{page_of, entry_of}
use Rattle.plain_core.specs.States.{worker_of}
use Rattle.plain_core.proofs.Runs.{recorded}
use Rattle.plain_core.proofs.state.Core.put_word_back.Goals as goal

pub returns : goal.returns
returns c =
    let own = c.args.worker in
    let s = c.args.self.now in
    let dead = s.settings.dead in
    let A = steps.touch own (worker_of (at s.workers own)) (page_of (at s.pages c.args.page)).gsn (page_of (at s.pages c.args.page)).last in
    let a = c.in_ok-met.ensures ∙ ap (λ b. steps.touch own (worker_of b) c.get-2.result.now.number c.get-2.result.now.log) c.get.ensures ∙ ap (λ p. steps.touch own (worker_of (at s.workers own)) (page_of p).gsn (page_of p).last) c.get-2.ensures in
    let e = c.in_ok-entry.ensures ∙ ap (λ z. write_entry_in (write_kind false) own z c.args.page (page_of c.get-leaf.result.now) dead c.args.key c.args.word) a ∙ ap (λ p. write_entry_in (write_kind false) own A c.args.page (page_of p) dead c.args.key c.args.word) c.get-leaf.ensures in
    let v = c.in_ok-written.ensures ∙ ap (λ p. written_in own c.in_ok-entry.entry.number (page_of p) c.args.key c.args.word) c.get-leaf.ensures in
    let w = c.in_ok-writer.ensures ∙ ap (λ (z : model.Worker). let t : model.Worker = record z { clock = c.in_ok-entry.entry.number; changes = tail z.changes } in t) a in
    λ x. recorded s c.write.new.self false own c.args.page dead c.args.key c.args.word A (entry_of c.in_ok-entry.entry) (page_of c.in_ok-written.written) (worker_of c.in_ok-writer.writer) (λ r. tail (worker_of (at s.workers own)).changes) c.in_ok-write.ensures e v w
