use Rattle.std.proofs.Common.{◌∙◌, ap}
use Rattle.core_state.specs.Steps as steps
use Rattle.plain_core.specs.Tables.{at}
use Rattle.plain_core.specs.States.{row_of, worker_of}
use Rattle.plain_core.specs.Events.{mode_of}
use Rattle.plain_core.proofs.Runs.{rowed}
use Rattle.plain_core.proofs.state.Core.lock.Goals as goal

pub returns : goal.returns
returns c =
    let e = c.in_ok-locked.ensures ∙ ap (λ o. steps.locked (row_of o) c.args.worker (mode_of c.args.mode)) c.get.ensures in
    let f = c.in_ok-locker.ensures ∙ ap (λ a. steps.at_row c.args.worker (worker_of a) (row_of c.get-3.result.now)) c.get-2.ensures ∙ ap (λ o. steps.at_row c.args.worker (worker_of (at c.args.self.now.workers c.args.worker)) (row_of o)) c.get-3.ensures in
    rowed c.args.self.now c.set_row.new.self c.set_worker.new.self c.args.row (row_of c.in_ok-locked.locked) _ c.args.worker (worker_of c.in_ok-locker.locker) _ c.in_ok-set_row.ensures c.in_ok-set_worker.ensures e f
