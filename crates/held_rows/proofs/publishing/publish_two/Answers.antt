use Rattle.std.proofs.Common.{refl, sym, subst}
use Rattle.rows_trait.specs.Turns.{MayPublish, Published}
use Rattle.held_rows.specs.Publishing.{IsChanged}
use Rattle.held_rows.proofs.Settling.{named_once, second_free, two_went}
use Rattle.held_rows.proofs.GivingUp.{released_as}
use Rattle.held_rows.proofs.publishing.publish_two.Goals as goal

pub release-requires-clause-held : goal.release-requires-clause-held
release-requires-clause-held g c =
    let z = g.R.Rows.shape c.args.rows.now in
    let v = g.R.Rows.view c.args.seat.now in
    let s = c.publish_as.ensures.step in
    let its = subst (λ f. IsChanged z v f c.args.second.row) (named_once c.requires.event.1 s.1) c.requires.event.3 in
    second_free s.2 c.requires.two its

pub returns-clause-went : goal.returns-clause-went
returns-clause-went g c e is =
    let z = g.R.Rows.shape c.args.rows.now in
    let v = g.R.Rows.view c.args.seat.now in
    let s = c.publish_as.ensures.step in
    let p = subst (λ f. Published z c.args.first.row f v (g.R.Rows.view c.publish_as.new.seat)) (sym (named_once is s.1)) s.2 in
    let m = subst (λ f. MayPublish z c.args.first.row f v) (sym (named_once is c.requires.event.1)) c.requires.event.2 in
    let its = subst (λ f. IsChanged z v f c.args.second.row) (sym (named_once is c.requires.event.1)) c.requires.event.3 in
    two_went p c.requires.two its m.actor (released_as c.publish_as.ensures.fits.1 refl c.release.ensures.step)
