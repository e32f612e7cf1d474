use Rattle.std.proofs.Common.{◌≡◌, ◌-◌, suc, get_or, refl, subst, arith}
use Rattle.recovery_redo.proofs.LogLemmas.{nothing}
use Rattle.recovery_redo.proofs.UndoLemmas.{undone_more, lacks_here}
use Rattle.recovery_redo.proofs.MarkLemmas.{leaves_later}
use Rattle.recovery_scan.specs.Records.{entries_of}
use Rattle.recovery_redo.specs.Inside.{LacksAt}
use Rattle.recovery_redo.proofs.undo.undo.Goals as goal

pub loop-left-preserved : goal.loop-left-preserved
loop-left-preserved c =
    let left = c.loop-left.left in
    let w = c.loop-left.invariant.within in let t = c.loop-left-test.true in
    undone_more c.args.pages.now c.loop-left.pages c.args.changed.now c.loop-left.changed c.args.index.now c.args.counted.now c.args.ended.now left (left - 1) (get_or c.args.index.now (left - 1) nothing) nothing
    (omega arith) (omega arith) refl c.loop-left.invariant c.undo_one.new.pages c.undo_one.new.changed c.requires.words
    (c.if-not-undo_one.ensures.answer nothing) (c.if-not-undo_one.ensures.after refl nothing) (c.if-not-undo_one.ensures.kept refl) (c.if-not-undo_one.ensures.only refl nothing)

pub returns-then-not-undo_one-clause-cause : goal.returns-then-not-undo_one-clause-cause
returns-then-not-undo_one-clause-cause c = λ a place same.
    let left = c.loop-left.left in
    let x = get_or c.args.index.now (left - 1) nothing in
    let w = c.loop-left.invariant.within in let t = c.loop-left-test.true in
    let d = c.damaged_by.ensures nothing in
    let p : x.place ≡ place = cc in
    let q : a ≡ suc x.log = cc in
    subst (LacksAt c.args.pages.now c.args.index.now c.args.counted.now c.args.ended.now a) p
    (lacks_here c.args.pages.now c.loop-left.pages c.args.changed.now c.loop-left.changed c.args.index.now c.args.counted.now c.args.ended.now left (left - 1) x nothing
    (omega arith) (omega arith) refl c.loop-left.invariant (c.if-not-undo_one.ensures.answer nothing) a q)

pub returns-clause-only : goal.returns-clause-only
returns-clause-only c = leaves_later (entries_of c.args.index.now) c.args.pages.now c.loop-left.pages c.args.changed.now c.loop-left.changed c.loop-left.invariant.fences c.loop-left.invariant.only
