use Rattle.std.proofs.lemmas.List.{get_or_read}
use Rattle.mem_journal.proofs.LogLemmas.{entered, kept, on_err}
use Rattle.mem_journal.proofs.log.enter.Goals as goal

pub returns-in_err-push-clause-same : goal.returns-in_err-push-clause-same
returns-in_err-push-clause-same c =
    let at = get_or_read c.args.logs.now.items c.args.w c.index_mut.result.now c.requires c.index_mut.ensures.value c.index_mut.result.now in
    on_err c.from_residual.result _ (kept c.args.logs.now.items c.args.w c.index_mut.result.now c.push.new.self at c.in_err-push.ensures.items)

pub returns-clause-after : goal.returns-clause-after
returns-clause-after c =
    let at = get_or_read c.args.logs.now.items c.args.w c.index_mut.result.now c.requires c.index_mut.ensures.value c.index_mut.result.now in
    entered c.args.logs.now.items c.args.w c.index_mut.result.now c.push.new.self c.args.added c.requires at c.in_ok-push.ensures.items
