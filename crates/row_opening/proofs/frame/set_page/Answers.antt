use Rattle.std.proofs.Common.{◌^◌, set, ap, ◌∙◌}
use borrow.Rule.Slice.PartMut.{put_mid}
use Rattle.row_opening.proofs.Links.{copied, finished}
use Rattle.row_opening.proofs.frame.set_page.Goals as goal

pub returns : goal.returns
returns c =
    let p = c.args.page.now in
    let row = c.args.row.now in
    let copy = c.copy_from_slice.new.self in
    let is = copied p row copy c.requires.zeros (c.copy_from_slice.ensures.after ∙ c.words.ensures.answer.spelled) in
    ap (λ b. set (set (put_mid 1 126 row copy) 127 (2 ^ 63)) 128 b) c.gsn.ensures ∙ finished p (put_mid 1 126 row copy) _ p.gsn c.words.ensures.answer.fits.room is
