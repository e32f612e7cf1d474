use Rattle.std.proofs.Common.{[], sym, ap, subst, ◌∙◌, arith}
use Rattle.btree_descent.specs.Known.{IsSound}
use Rattle.btree_descent.specs.row_words.declared.given.Given.{Given}
use Rattle.btree_descent.specs.row_words.Openings.{opening}
use Rattle.shared_rows.specs.Ruled.{maker, made_by}
use Rattle.shared_peeks.proofs.Two.{can_start}
use Rattle.shared_peeks.proofs.finds.find_by_two.Goals as goal

pub find_both-requires-clause-first : goal.find_both-requires-clause-first
find_both-requires-clause-first g c κs within =
    let v = c.args.seat.view in
    let m = ap (λ z. z.0) c.in-Ok.ensures.ok.4 in
    can_start c.in-Ok.rows v c.args.plain.frames 1 c.seat.result c.seat.ensures.made.0 (c.seat.ensures.made.1 ∙ ap (λ z. (made_by z, [])) m) c.in-Ok.ensures.ok.0 c.requires.some c.requires.given c.requires.sound c.in-Ok.ensures.tame

pub find_both-requires-clause-second : goal.find_both-requires-clause-second
find_both-requires-clause-second g c κs within =
    let v = c.args.seat.view in
    let m = ap (λ z. maker z.0) c.in-Ok.ensures.ok.4 in
    let n = ap (λ z. z.0) c.seat.ensures.maker.1 ∙ m in
    can_start c.in-Ok.rows v c.args.plain.frames 2 c.seat-2.result c.seat-2.ensures.made.0 (c.seat-2.ensures.made.1 ∙ ap (λ z. (made_by z, [])) n) c.in-Ok.ensures.ok.0 c.requires.some c.requires.given c.requires.sound c.in-Ok.ensures.tame

pub returns : goal.returns
returns g c =
    let n = ap (λ z. z.0) c.seat-2.ensures.maker.1 ∙ ap maker (ap (λ z. z.0) c.seat.ensures.maker.1 ∙ ap (λ z. maker z.0) c.in-Ok.ensures.ok.4) in
    let b = c.gather-plain.ensures.front in
    let same = ap (λ z. z.given) b.view ∙ ap (λ z. z.given) n in
    let frames = c.gather-plain.ensures.sizes.0 ∙ c.in-Ok.ensures.ok.0 in record {
      again = record {
        picture = c.gather-plain.ensures.picture;
        held = ap (λ z. z.held) b.view;
        some = let s = c.requires.some in let f = frames in omega arith;
        given = ap (λ (z : Given). (opening z).frames) same ∙ (c.requires.given ∙ sym frames);
        sound = subst IsSound (sym same) c.requires.sound;
      };
    }
