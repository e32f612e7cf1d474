use Rattle.std.proofs.Common.{◌<◌, ◌∷◌, ◌++◌, ℕ, List, [], length, length-set, take, sym, ap, subst, arith, ◌∙◌}
use Rattle.std.specs.Prelude.{slice_index}
use Rattle.std.specs.List.{All}
use Rattle.std.proofs.lemmas.List.{take_more, take_more_set}
use Rattle.std.proofs.lemmas.List.Elements.{All-push}
use Rattle.disk_image.specs.log_record.Spelling.{KeyFits}
use Rattle.btree_smo.proofs.Words.{key_behind}
use Rattle.btree_smo.proofs.record.fill_keys.Goals as goal

pub loop-i-preserved : goal.loop-i-preserved
loop-i-preserved c =
    let inv = c.loop-i.invariant in
    let i = c.loop-i.i in
    let ks = c.loop-i.keys in
    let list = c.args.list.now in
    let x = slice_index list i in
    let lt : i < length ks = (let n = inv.size in let t = c.loop-i-test.true in let f = c.requires.few in omega arith) in record {
      reach = (let t = c.loop-i-test.true in omega arith);
      first = take_more_set ks i x lt ∙ (ap (λ (ys : List ℕ). ys ++ x ∷ []) inv.first ∙ sym (take_more list i 0 c.loop-i-test.true));
      fits = subst (All KeyFits) (sym (take_more_set ks i x lt)) (All-push KeyFits (take i ks) x inv.fits (search));
      rest = key_behind ks i (length list) x c.loop-i-test.true ∙ inv.rest;
      size = length-set ks i _ ∙ inv.size;
    }
