use Rattle.std.proofs.Common.{◌∙◌, ap, List, ℕ}
use Rattle.page_model.specs.Page as stored
use Rattle.btree_smo.specs.Inside.Purging.{leaf_after}
use Rattle.btree_smo.proofs.PurgedPages.{purged_as}
use Rattle.btree_smo.proofs.purge.make.Goals as goal

pub finish-requires-clause-purged : goal.finish-requires-clause-purged
finish-requires-clause-purged g c =
    let r = c.requires in
    purged_as r.purging r.actor r.sound r.number (c.clear.ensures.after ∙ ap (λ (ks : List ℕ). leaf_after c.args.node ks c.args.number c.args.worker) c.all.ensures.is) c.clear.ensures.short (c.number.ensures ∙ ap (λ (q : stored.Page). q.number) c.clear.ensures.after)
