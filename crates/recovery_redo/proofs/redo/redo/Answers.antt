use Rattle.std.proofs.Common.{◌≡◌, ◌+◌, suc, get_or, refl, subst, arith}
use Rattle.recovery_redo.specs.Inside.{FailsAt}
use Rattle.recovery_redo.proofs.LogLemmas.{nothing}
use Rattle.record_redo.proofs.PageLemmas.{keeps_both}
use Rattle.recovery_redo.proofs.RedoLemmas.{redone_more, fails_here}
use Rattle.recovery_redo.proofs.MarkLemmas.{named_more}
use Rattle.recovery_redo.proofs.redo.redo.Goals as goal

pub loop-i-preserved : goal.loop-i-preserved
loop-i-preserved c =
    let k = c.loop-i.i in
    let items = c.args.index.now in
    let x = get_or items k nothing in
    let l = c.loop-i-test.true in let e = c.len-i-end.ensures in let f = c.requires.flags in let a = c.loop-i.auto.counted in
    record {
      redone = redone_more c.args.pages.now c.loop-i.pages items c.loop-i.counted k x nothing (omega arith) refl c.loop-i.auto.pages c.loop-i.invariant.redone
          c.redo_one.new.pages (k + 1) c.in-Some.counts (omega arith) (omega arith) (c.in-Some.ensures.passes nothing) (c.in-Some.ensures.counts nothing) (c.in-Some.ensures.after refl nothing);
      kept = keeps_both c.args.pages.now c.loop-i.pages c.redo_one.new.pages c.args.changed.now c.loop-i.changed c.redo_one.new.changed c.loop-i.invariant.kept (c.in-Some.ensures.kept refl);
      only = named_more items k (k + 1) x nothing c.args.changed.now c.loop-i.changed c.redo_one.new.changed (omega arith) (omega arith) refl
          c.loop-i.invariant.only (c.in-Some.ensures.only refl nothing);
    }

pub returns-in_default-clause-cause : goal.returns-in_default-clause-cause
returns-in_default-clause-cause c = λ a place same.
    let k = c.loop-i.i in
    let items = c.args.index.now in
    let x = get_or items k nothing in
    let l = c.loop-i-test.true in let e = c.len-i-end.ensures in
    let d = c.damaged_by.ensures nothing in
    let p : x.place ≡ place = cc in
    let q : a ≡ suc x.log = cc in
    subst (FailsAt c.args.pages.now items a) p
    (fails_here c.args.pages.now c.loop-i.pages items c.loop-i.counted k x nothing (omega arith) refl c.loop-i.auto.pages c.loop-i.invariant.redone (c.in_default.ensures.passes nothing) a q)
