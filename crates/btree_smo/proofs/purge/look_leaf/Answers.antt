use Rattle.std.proofs.Common.{◌∙◌, ◌≡◌, ◌≤◌, ◌&&◌, ◌==◌, ℕ, false, refl, sym, ap, subst}
use Rattle.std.proofs.lemmas.Bool.{and_left, and_right, ne_eqb}
use Rattle.page_model.specs.Page as stored
use Rattle.page_model.specs.Nodes.{is_leaf}
use Rattle.btree_descent.specs.row_words.declared.given.Given.{Given}
use Rattle.btree_descent.specs.row_words.Moments.{Moment}
use Rattle.btree_descent.specs.Known.{Sound}
use Rattle.btree_descent.specs.declared.put.TheConstants.{LAST_NUMBER}
use Rattle.btree_descent.proofs.Calls.{sound_after}
use Rattle.btree_smo.specs.Inside.{StandsIn}
use Rattle.btree_smo.specs.Purges.{IsNoLeaf}
use Rattle.btree_smo.specs.Outcomes.{IsSpentIn}
use Rattle.btree_smo.proofs.Reading.{reads, one_page}
use Rattle.btree_smo.proofs.purge.look_leaf.Goals as goal

-- a page that is no leaf
no_leaf : {v : Given} {m : Moment} {row : ℕ} (n : stored.Page) → Sound v m → StandsIn v m row n → is_leaf n.node ≡ false → IsNoLeaf row row v m
no_leaf {v} {m} {row} n sound it e = record {
  row_is = refl;
  none = λ p h.
      let r = reads it in
      ap (λ q. is_leaf (m.core.page q).node) (one_page p n.number sound.residence h it.stands) ∙ ((λ i. sym r.live i && (sym r.level i == 0)) ∙ e);
}

spent : {v : Given} {m : Moment} {row : ℕ} (n : stored.Page) → StandsIn v m row n → LAST_NUMBER ≤ n.gsn → IsSpentIn v m row
spent n it le = record { page = n.number; stands = it.stands; spent = subst (λ x. LAST_NUMBER ≤ x) (reads it).gsn le }

pub returns-in_default-clause-err : goal.returns-in_default-clause-err
returns-in_default-clause-err g c = record { row_is = refl; none = λ p h. absurd (c.in_default.ensures.none p h) }

pub returns-then-not-is_live-clause-err : goal.returns-then-not-is_live-clause-err
returns-then-not-is_live-clause-err g c =
    let w = g.R.Rows.view c.page_in.new.seat in
    let sound = sound_after (g.R.Rows.view c.args.seat.now) w c.page_in.ensures.stood.waited.ran.given c.requires.sound in
    no_leaf c.in-Some.node sound c.in-Some.ensures.some (and_left c.in-Some.node.node.live _ (sym c.is_live.ensures ∙ c.if-not-is_live.true))

pub returns-then-level-ne0-clause-err : goal.returns-then-level-ne0-clause-err
returns-then-level-ne0-clause-err g c =
    let w = g.R.Rows.view c.page_in.new.seat in
    let sound = sound_after (g.R.Rows.view c.args.seat.now) w c.page_in.ensures.stood.waited.ran.given c.requires.sound in
    no_leaf c.in-Some.node sound c.in-Some.ensures.some (and_right c.in-Some.node.node.live _ (ne_eqb c.in-Some.node.node.level 0 (λ e. c.if-level-ne0.true (c.level.ensures.answer ∙ e))))

pub returns-then-gsn-ge-LAST_NUMBER-clause-err : goal.returns-then-gsn-ge-LAST_NUMBER-clause-err
returns-then-gsn-ge-LAST_NUMBER-clause-err g c = spent c.in-Some.node c.in-Some.ensures.some (subst (λ x. LAST_NUMBER ≤ x) c.gsn.ensures c.if-gsn-ge-LAST_NUMBER.true)
