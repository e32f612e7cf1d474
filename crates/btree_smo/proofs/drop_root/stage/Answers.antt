use Rattle.std.proofs.Common.{◌∙◌, ◌∷◌, refl, ap}
use Rattle.disk_image.proofs.btree_node.FlatLemmas.{words-whole, words-pairs_of}
use Rattle.disk_image.specs.log_record.declared.record.Record.{Record}
use Rattle.disk_image.specs.log_record.declared.record.Body.TheVariants as body
use Rattle.btree_smo.proofs.drop_root.stage.Goals as goal

pub pairs_of-pairs-requires-clause-whole : goal.pairs_of-pairs-requires-clause-whole
pairs_of-pairs-requires-clause-whole g c = words-whole c.pairs.result.now c.args.dropping.now.image.node.pairs c.pairs.ensures.answer

pub returns-clause-staged : goal.returns-clause-staged
returns-clause-staged g c =
    let l = c.args.dropping.now in
    let r : Record = record { txn = c.txn.result; gsn = c.next-number.result; body = body.DropRoot c.gsn-3.result (record { page = c.number.result; prev = c.gsn-4.result }) c.level.result c.pairs_of-pairs.result } in (
      r,
      c.in_ok-stage.ensures.staged ∙ ap (λ rs. r ∷ rs) (c.next-number.ensures.staged ∙ (c.touch-2.ensures.staged ∙ c.touch.ensures.staged)),
      record {
        txn_is = c.txn.ensures ∙ (c.next-number.ensures.same.1 ∙ (c.touch-2.ensures.same.1 ∙ c.touch.ensures.same.1));
        number_is = refl;
        pairs = c.pairs_of-pairs.result;
        body_is = (λ i. body.DropRoot (c.gsn-3.ensures i) (record { page = c.number.ensures i; prev = c.gsn-4.ensures i }) (c.level.ensures.answer i) c.pairs_of-pairs.result);
        pairs_are = c.pairs_of-pairs.ensures.pairs ∙ words-pairs_of c.pairs.result.now l.image.node.pairs c.pairs.ensures.answer;
      },
    )
