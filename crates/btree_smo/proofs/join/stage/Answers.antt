use Rattle.std.proofs.Common.{◌∙◌, ◌∷◌, refl, ap}
use Rattle.disk_image.proofs.btree_node.FlatLemmas.{words-whole, words-pairs_of}
use Rattle.disk_image.specs.log_record.declared.record.Record.{Record}
use Rattle.disk_image.specs.log_record.declared.record.Body.TheVariants as body
use Rattle.btree_smo.proofs.join.stage.Goals as goal

pub pairs_of-pairs-requires-clause-whole : goal.pairs_of-pairs-requires-clause-whole
pairs_of-pairs-requires-clause-whole g c = words-whole c.pairs.result.now c.args.joining.now.image.node.pairs c.pairs.ensures.answer

pub returns-clause-staged : goal.returns-clause-staged
returns-clause-staged g c =
    let l = c.args.joining.now in
    let r : Record = record { txn = c.txn.result; gsn = c.next-number.result; body = body.Join c.reference.result c.reference-2.result c.reference-3.result c.low.result c.high.result c.pairs_of-pairs.result } in (
      r,
      c.in_ok-stage.ensures.staged ∙ ap (λ rs. r ∷ rs) (c.next-number.ensures.staged ∙ (c.touch-3.ensures.staged ∙ (c.touch-2.ensures.staged ∙ c.touch.ensures.staged))),
      record {
        txn_is = c.txn.ensures ∙ (c.next-number.ensures.same.1 ∙ (c.touch-3.ensures.same.1 ∙ (c.touch-2.ensures.same.1 ∙ c.touch.ensures.same.1)));
        number_is = refl;
        pairs = c.pairs_of-pairs.result;
        body_is = (λ i. body.Join (record { page = c.reference.ensures.page i; prev = c.reference.ensures.prev i }) (record { page = c.reference-2.ensures.page i; prev = c.reference-2.ensures.prev i }) (record { page = c.reference-3.ensures.page i; prev = c.reference-3.ensures.prev i }) (c.low.ensures i) (c.high.ensures i) c.pairs_of-pairs.result);
        pairs_are = c.pairs_of-pairs.ensures.pairs ∙ words-pairs_of c.pairs.result.now l.image.node.pairs c.pairs.ensures.answer;
      },
    )

pub stage-requires-clause-fits : goal.stage-requires-clause-fits
stage-requires-clause-fits g c = record { txn = c.txn.type_inv; gsn = c.next-number.type_inv; body = (c.reference.ensures.fits, c.reference-2.ensures.fits, c.reference-3.ensures.fits, c.low.type_inv, c.high.type_inv, c.pairs_of-pairs.ensures.fits) }
