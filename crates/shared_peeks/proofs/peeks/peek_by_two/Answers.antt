use Rattle.std.proofs.Common.{[], refl, sym, ap, subst, ◌∙◌, arith}
use Rattle.btree_descent.specs.Known.{IsSound}
use Rattle.btree_descent.specs.row_words.declared.given.Given.{Given}
use Rattle.btree_descent.specs.row_words.Openings.{opening}
use Rattle.shared_rows.specs.Ruled.{maker, made_by}
use Rattle.shared_peeks.proofs.Two.{each_peeked, can_start}
use Rattle.shared_peeks.proofs.peeks.peek_by_two.Goals as goal

pub peek_both-requires-clause-first : goal.peek_both-requires-clause-first
peek_both-requires-clause-first g c κs within =
    let v = c.args.seat.view in
    let m = ap (λ z. z.0) c.in-Ok.ensures.ok.4 in
    can_start c.in-Ok.rows v c.args.plain.frames 1 c.seat.result c.seat.ensures.made.0 (c.seat.ensures.made.1 ∙ ap (λ z. (made_by z, [])) m) c.in-Ok.ensures.ok.0 c.requires.some c.requires.given c.requires.sound c.in-Ok.ensures.tame

pub peek_both-requires-clause-second : goal.peek_both-requires-clause-second
peek_both-requires-clause-second g c κs within =
    let v = c.args.seat.view in
    let m = ap (λ z. maker z.0) c.in-Ok.ensures.ok.4 in
    let n = ap (λ z. z.0) c.seat.ensures.maker.1 ∙ m in
    can_start c.in-Ok.rows v c.args.plain.frames 2 c.seat-2.result c.seat-2.ensures.made.0 (c.seat-2.ensures.made.1 ∙ ap (λ z. (made_by z, [])) n) c.in-Ok.ensures.ok.0 c.requires.some c.requires.given c.requires.sound c.in-Ok.ensures.tame

pub returns-clause-again : goal.returns-clause-again
returns-clause-again g c =
    let n = ap (λ z. z.0) c.seat-2.ensures.maker.1 ∙ ap maker (ap (λ z. z.0) c.seat.ensures.maker.1 ∙ ap (λ z. maker z.0) c.in-Ok.ensures.ok.4) in
    let b = c.gather-plain.ensures.front in
    let same = ap (λ z. z.given) b.view ∙ ap (λ z. z.given) n in
    let frames = c.gather-plain.ensures.sizes.0 ∙ c.in-Ok.ensures.ok.0 in record {
      picture = c.gather-plain.ensures.picture;
      held = ap (λ z. z.held) b.view;
      some = let s = c.requires.some in let f = frames in omega arith;
      given = ap (λ (z : Given). (opening z).frames) same ∙ (c.requires.given ∙ sym frames);
      sound = subst IsSound (sym same) c.requires.sound;
    }

pub returns-clause-front : goal.returns-clause-front
returns-clause-front g c e =
    let v = c.args.seat.view in
    let m1 = ap (λ z. z.0) c.seat.ensures.maker.1 ∙ ap (λ z. maker z.0) c.in-Ok.ensures.ok.4 in
    let n = ap (λ z. z.0) c.seat-2.ensures.maker.1 ∙ ap maker m1 in
    let s1 = ap (λ z. z.0) c.seat.ensures.made.1 ∙ ap (λ z. made_by z.0) c.in-Ok.ensures.ok.4 in
    let s2 = ap (λ z. z.0) c.seat-2.ensures.made.1 ∙ ap made_by m1 in
    let p1 = c.peek_both.ensures.first in
    let p2 = c.peek_both.ensures.second in
    let all = c.both-good.ensures e in
    each_peeked v c.seat-2.new.maker_seat.me.0 c.seat.result.me.0 c.seat-2.result.me.0 c.peek_both.new.first.seat.me.0 c.peek_both.new.second.seat.me.0 c.gather-plain.result.1.view c.peek_both.new.first.seat c.peek_both.new.second.seat p1.events p2.events
    (ap (λ z. z.seen) n) (ap (λ z. z.actor) n) (ap (λ z. z.made) n) (ap (λ z. z.actor) s1) (ap (λ z. z.actor) s2) (ap (λ z. z.seen) s1) (ap (λ z. z.seen) s2) p1.ran p2.ran refl refl (p1.good all.0) (p2.good all.1) c.gather-plain.ensures.front
