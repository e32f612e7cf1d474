use Rattle.std.proofs.Common.{sym, subst}
use Rattle.rows_trait.specs.Turns.{MayPublish, Published}
use Rattle.held_rows.proofs.Settling.{named_once, one_went}
use Rattle.held_rows.proofs.publishing.publish_one.Goals as goal

pub returns-clause-went : goal.returns-clause-went
returns-clause-went g c e is =
    let z = g.R.Rows.shape c.args.rows.now in
    let v = g.R.Rows.view c.args.seat.now in
    let s = c.publish_as.ensures.step in
    let p = subst (λ f. Published z c.args.hold.row f v (g.R.Rows.view c.publish_as.new.seat)) (sym (named_once is s.1)) s.2 in
    let m = subst (λ f. MayPublish z c.args.hold.row f v) (sym (named_once is c.requires.event.1)) c.requires.event.2 in
    one_went p m.actor c.requires.one
