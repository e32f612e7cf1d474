use Rattle.std.proofs.Common.{◌≡◌, ◌∙◌, length-set, refl, ap, sym, subst, arith, length, take}
use Rattle.std.specs.Prelude.{slice_index}
use Rattle.std.proofs.lemmas.List.{ext_get_or, get_or-take, length-take-le}
use Rattle.rows_trait.specs.Views.{Shape, held_at, holds}
use Rattle.rows_trait.specs.Turns.{Loaded}
use Rattle.held_rows.specs.Waits.{stood_none, stood_then, stood_load}
use Rattle.held_rows.proofs.Storing.{one_more}
use Rattle.held_rows.proofs.words.load.Goals as goal

pub loop-i-init : goal.loop-i-init
loop-i-init g c = record {
  fits = (c.requires.fits, refl);
  size = c.told-into;
  stood = stood_none (g.R.Rows.shape c.args.rows.now).alone (g.R.Rows.view c.args.seat.now);
  words = λ i lt. absurd (omega arith);
}

pub loop-i-preserved : goal.loop-i-preserved
loop-i-preserved g c =
    let v = g.R.Rows.view c.args.seat.now in
    let u = g.R.Rows.view c.loop-i.seat in
    let w = g.R.Rows.view c.load_word.new.seat in
    let row = c.args.hold.now.row in
    let f = c.requires.frame in
    let inv = c.loop-i.invariant in
    let i = c.loop-i.i in
    let x = c.load_word.result in
    let l = subst (λ (s : Shape). Loaded s row i u x w) inv.fits.1 c.load_word.ensures.step in
    let mine = ap (λ hs. holds hs row) inv.stood.held ∙ f.mine in
    let word : x ≡ slice_index (held_at v.held row).was i = l.own mine ∙ (ap (λ hs. slice_index (held_at hs row).now i) inv.stood.held ∙ ap (λ ws. slice_index ws i) f.same) in record {
      fits = (c.load_word.ensures.fits, c.load_word.ensures.shape ∙ inv.fits.1);
      size = length-set c.loop-i.into i x ∙ inv.size;
      stood = stood_then inv.stood (stood_load l);
      words = one_more c.loop-i.into (held_at v.held row).was i x (let n = inv.size in omega arith) inv.words word;
    }

pub returns-clause-words : goal.returns-clause-words
returns-clause-words g c =
    let was = (held_at (g.R.Rows.view c.args.seat.now).held c.args.hold.now.row).was in
    let n : length (take 126 was) ≡ 126 = length-take-le 126 was (let s = c.requires.frame.size in omega arith) in
    let size = c.loop-i.invariant.size in
    ext_get_or 0 c.loop-i.into (take 126 was) (size ∙ sym n) (λ i lt. c.loop-i.invariant.words i (omega arith) ∙ sym (get_or-take 126 was i 0 (omega arith)))
