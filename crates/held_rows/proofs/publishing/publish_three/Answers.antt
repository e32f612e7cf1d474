use Rattle.std.proofs.Common.{◌∙◌, refl, sym, subst}
use Rattle.rows_trait.specs.Turns.{MayPublish, Published}
use Rattle.held_rows.specs.Publishing.{IsChanged}
use Rattle.held_rows.proofs.Settling.{named_once, middle_free, third_free, three_went}
use Rattle.held_rows.proofs.GivingUp.{released_as}
use Rattle.held_rows.proofs.publishing.publish_three.Goals as goal

pub release-requires-clause-held : goal.release-requires-clause-held
release-requires-clause-held g c =
    let z = g.R.Rows.shape c.args.rows.now in
    let v = g.R.Rows.view c.args.seat.now in
    let s = c.publish_as.ensures.step in
    let same = named_once c.requires.event.1 s.1 in
    let second = subst (λ f. IsChanged z v f c.args.second.row) same c.requires.event.3 in
    let third = subst (λ f. IsChanged z v f c.args.third.row) same c.requires.event.4 in
    middle_free s.2 c.requires.three second third

pub release-requires-2-clause-held : goal.release-requires-2-clause-held
release-requires-2-clause-held g c =
    let z = g.R.Rows.shape c.args.rows.now in
    let v = g.R.Rows.view c.args.seat.now in
    let s = c.publish_as.ensures.step in
    let same = named_once c.requires.event.1 s.1 in
    let second = subst (λ f. IsChanged z v f c.args.second.row) same c.requires.event.3 in
    let third = subst (λ f. IsChanged z v f c.args.third.row) same c.requires.event.4 in
    third_free s.2 c.requires.three second third (released_as c.publish_as.ensures.fits.1 refl c.release.ensures.step)

pub returns-clause-went : goal.returns-clause-went
returns-clause-went g c e is =
    let z = g.R.Rows.shape c.args.rows.now in
    let v = g.R.Rows.view c.args.seat.now in
    let s = c.publish_as.ensures.step in
    let p = subst (λ f. Published z c.args.first.row f v (g.R.Rows.view c.publish_as.new.seat)) (sym (named_once is s.1)) s.2 in
    let same = sym (named_once is c.requires.event.1) in
    let m = subst (λ f. MayPublish z c.args.first.row f v) same c.requires.event.2 in
    let second = subst (λ f. IsChanged z v f c.args.second.row) same c.requires.event.3 in
    let third = subst (λ f. IsChanged z v f c.args.third.row) same c.requires.event.4 in
    let r = released_as c.publish_as.ensures.fits.1 refl c.release.ensures.step in
    let w = released_as (c.release.ensures.fits.1 ∙ c.publish_as.ensures.fits.1) refl c.release-2.ensures.step in
    three_went p c.requires.three second third r m.actor w
