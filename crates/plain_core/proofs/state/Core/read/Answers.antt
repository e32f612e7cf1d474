use Rattle.std.proofs.Common.{◌∙◌, ap}
use Rattle.page_model.specs.Pairs as paired
use Rattle.page_model.specs.Tree.{word_or}
use Rattle.core_state.specs.Needs as needs
use Rattle.core_state.specs.Steps as steps
use Rattle.plain_core.specs.Tables.{at}
use Rattle.plain_core.specs.Records.{node_of, page_of, entry_of}
use Rattle.plain_core.specs.States.{row_of, worker_of}
use Rattle.plain_core.proofs.Runs.{entered, ap3}
use Rattle.plain_core.proofs.state.Core.read.Goals as goal

pub returns : goal.returns
returns c =
    let own = c.args.worker in
    let key = c.args.key in
    let s = c.args.self.now in
    let a = c.in_ok-reader.ensures ∙ ap (λ b. steps.touch own (worker_of b) c.get-2.result.now.number c.get-2.result.now.log) c.get.ensures ∙ ap (λ p. steps.touch own (worker_of (at s.workers own)) (page_of p).gsn (page_of p).last) c.get-2.ensures in
    let v = c.word_in-word.ensures ∙ ap (λ p. word_or s.settings.dead (paired.find key (node_of p.node).pairs)) c.get-3.ensures in
    let b = c.is_held_by-alone.ensures ∙ ap (λ o. needs.is_held_by (row_of o).holder own) c.get-4.ensures ∙ ap (λ i. needs.is_held_by (row_of (at s.rows i)).holder own) c.row_of.ensures in
    let e = c.read_entry-entry.ensures ∙ ap3 (λ z n t. steps.read_entry own z key n t) a v b in
    λ x. entered s c.enter.new.self c.set_worker.new.self (entry_of c.read_entry-entry.result) _ own (worker_of c.in_ok-reader.reader) _ c.in_ok-enter.ensures c.in_ok-set_worker.ensures e a
