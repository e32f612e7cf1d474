use Rattle.std.proofs.Common.{◌∙◌, ap, if◌then◌else◌}
use Rattle.core_state.specs.image_model.Entries as logged
use Rattle.core_state.specs.Steps as steps
use Rattle.plain_core.specs.Tables.{at}
use Rattle.plain_core.specs.Records.{entry_of}
use Rattle.plain_core.specs.States.{worker_of}
use Rattle.plain_core.proofs.Runs.{entered}
use Rattle.plain_core.proofs.state.Core.end.Goals as goal

pub returns : goal.returns
returns c =
    let e = c.in_ok-entry.ensures ∙ ap (λ a. steps.end_entry (if c.args.commit then logged.Kind.Commit else logged.Kind.Abort) c.args.worker (worker_of a) c.args.flushed) c.get.ensures in
    let f = c.finished-finished.ensures ∙ ap (λ a. steps.finished (worker_of a) c.in_ok-entry.entry.number) c.get-2.ensures ∙ ap (λ (r : logged.Entry). steps.finished (worker_of (at c.args.self.now.workers c.args.worker)) r.number) e in
    entered c.args.self.now c.enter.new.self c.set_worker.new.self (entry_of c.in_ok-entry.entry) _ c.args.worker (worker_of c.finished-finished.result) _ c.in_ok-enter.ensures c.in_ok-set_worker.ensures e f
