use Rattle.std.proofs.Common.{[], refl, sym, ap, subst, ◌∙◌, arith}
use Rattle.btree_descent.specs.Known.{IsSound}
use Rattle.btree_descent.specs.row_words.declared.given.Given.{Given}
use Rattle.btree_descent.specs.row_words.Openings.{opening}
use Rattle.shared_rows.specs.Ruled.{maker, made_by}
use Rattle.shared_peeks.proofs.Locking.{can_lock}
use Rattle.shared_peeks.proofs.locks.lock_by_two.Goals as goal

pub lock_both-requires-clause-first : goal.lock_both-requires-clause-first
lock_both-requires-clause-first g c κs within =
    let q = c.requires in
    let v = c.args.seat.view in
    let m = ap (λ z. z.0) c.in-Ok.ensures.ok.4 in
    (can_lock c.in-Ok.rows v c.args.plain.frames c.args.plain.locks 1 c.seat.result c.seat.ensures.made.0 (c.seat.ensures.made.1 ∙ ap (λ z. (made_by z, [])) m) c.in-Ok.ensures.ok.0 c.in-Ok.ensures.ok.1 q.share.some q.share.given q.share.sound c.in-Ok.ensures.tame q.some q.small q.rows q.few (record { one = omega arith; among = let t = q.two in omega arith }) q.sound q.first, refl)

pub lock_both-requires-clause-second : goal.lock_both-requires-clause-second
lock_both-requires-clause-second g c κs within =
    let q = c.requires in
    let v = c.args.seat.view in
    let m = ap (λ z. maker z.0) c.in-Ok.ensures.ok.4 in
    let n = ap (λ z. z.0) c.seat.ensures.maker.1 ∙ m in
    (can_lock c.in-Ok.rows v c.args.plain.frames c.args.plain.locks 2 c.seat-2.result c.seat-2.ensures.made.0 (c.seat-2.ensures.made.1 ∙ ap (λ z. (made_by z, [])) n) c.in-Ok.ensures.ok.0 c.in-Ok.ensures.ok.1 q.share.some q.share.given q.share.sound c.in-Ok.ensures.tame q.some q.small q.rows q.few (record { one = omega arith; among = q.two }) q.sound q.second, refl)

pub returns : goal.returns
returns g c =
    let n = ap (λ z. z.0) c.seat-2.ensures.maker.1 ∙ ap maker (ap (λ z. z.0) c.seat.ensures.maker.1 ∙ ap (λ z. maker z.0) c.in-Ok.ensures.ok.4) in
    let b = c.gather-plain.ensures.front in
    let same = ap (λ z. z.given) b.view ∙ ap (λ z. z.given) n in
    let frames = c.gather-plain.ensures.sizes.0 ∙ c.in-Ok.ensures.ok.0 in record {
      again = record {
        picture = c.gather-plain.ensures.picture;
        held = ap (λ z. z.held) b.view;
        some = let s = c.requires.share.some in let f = frames in omega arith;
        given = ap (λ (z : Given). (opening z).frames) same ∙ (c.requires.share.given ∙ sym frames);
        sound = subst IsSound (sym same) c.requires.share.sound;
      };
    }
