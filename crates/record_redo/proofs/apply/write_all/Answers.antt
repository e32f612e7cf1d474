use Rattle.std.proofs.Common.{◌≡◌, ◌<◌, List, length, get_or, true, sym, ◌∙◌, ap, subst}
use Rattle.std.proofs.lemmas.List.{drop_all}
use Rattle.page_model.specs.Records.{Ref}
use Rattle.disk_image.specs.Records.{entry_of}
use Rattle.disk_image.specs.log_record.declared.record.PageRef.{PageRef}
use Rattle.record_redo.specs.Pages.{pages_of}
use Rattle.record_redo.specs.Inside.{is_among, model_refs, steps}
use Rattle.record_redo.proofs.AskLemmas.{nowhere}
use Rattle.record_redo.proofs.StepLemmas.{Distinct}
use Rattle.record_redo.proofs.PassLemmas.{distinct_refs}
use Rattle.record_redo.proofs.WriteLemmas.{among_at, below_at, writing_none, can_next, writing_more}
use Rattle.record_redo.proofs.apply.write_all.Goals as goal

pub loop-i-init : goal.loop-i-init
loop-i-init c =
    let r = entry_of c.args.log c.args.entry.now in let body = c.args.entry.now.body in
    writing_none c.args.pages.now c.args.changed.now r body (model_refs c.args.refs.now) (subst (λ (fs : List Ref). Distinct fs) (sym c.requires.refs) (distinct_refs body c.requires.sayable)) c.requires.can

pub write_one-requires-clause-among : goal.write_one-requires-clause-among
write_one-requires-clause-among c =
    subst (λ (fs : List Ref). is_among fs (get_or c.args.refs.now c.loop-i.i nowhere).page ≡ true) c.requires.refs (among_at c.args.refs.now c.loop-i.i nowhere c.loop-i-test.true)

pub write_one-requires-clause-below : goal.write_one-requires-clause-below
write_one-requires-clause-below c =
    subst (λ n. (get_or c.args.refs.now c.loop-i.i nowhere).page < n) (sym c.loop-i.invariant.kept.count)
    (below_at (length c.args.pages.now) c.args.refs.now c.loop-i.i nowhere c.loop-i-test.true c.requires.below)

pub write_one-requires-clause-can : goal.write_one-requires-clause-can
write_one-requires-clause-can c =
    let r = entry_of c.args.log c.args.entry.now in let body = c.args.entry.now.body in
    can_next c.args.pages.now c.loop-i.pages c.args.changed.now c.loop-i.changed r body (model_refs c.args.refs.now) c.args.refs.now c.loop-i.i nowhere c.loop-i-test.true c.loop-i.invariant

pub loop-i-preserved : goal.loop-i-preserved
loop-i-preserved c =
    let r = entry_of c.args.log c.args.entry.now in let body = c.args.entry.now.body in
    writing_more c.args.pages.now c.loop-i.pages c.args.changed.now c.loop-i.changed r body (model_refs c.args.refs.now) c.args.refs.now c.loop-i.i nowhere c.loop-i-test.true c.loop-i.invariant
    c.write_one.new.pages c.write_one.new.changed c.write_one.ensures.after c.write_one.ensures.kept c.write_one.ensures.only

pub returns-clause-after : goal.returns-clause-after
returns-clause-after c =
    let r = entry_of c.args.log c.args.entry.now in
    sym (ap (λ (xs : List PageRef). steps r (model_refs xs) (pages_of c.loop-i.pages)) (drop_all c.loop-i.i c.args.refs.now c.loop-i-test.false)) ∙ c.loop-i.invariant.after
