use Rattle.std.proofs.Common.{ap, not, ◌∙◌}
use Rattle.map_model.specs.Lists.{any}
use Rattle.plain_core.specs.Inside.{is_unripe}
use Rattle.plain_core.specs.Tables.{at}
use Rattle.plain_core.specs.Records.{entries_of}
use Rattle.plain_core.proofs.state.Core.is_ripe_up_to.Goals as goal

pub returns : goal.returns
returns c =
    let s = c.args.self.now in
    let n = c.args.number in
    ap not (c.has_unripe.ensures
    ∙ ap (λ l. any (is_unripe (at s.flushed) c.flushed_by_all.result n (entries_of l)) (entries_of l)) c.deref.ensures.value
    ∙ ap (λ f. any (is_unripe (at s.flushed) f n (entries_of s.entries.items)) (entries_of s.entries.items)) c.flushed_by_all.ensures)
