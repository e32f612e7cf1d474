use Rattle.std.proofs.Common.{◌≡◌, ◌∙◌, Bool, List, length, true, false, sym, ap}
use Rattle.page_model.specs.Records.{Ref}
use Rattle.disk_image.specs.Records.{entry_of, refs_of}
use Rattle.record_redo.specs.Pages.{pages_of}
use Rattle.record_redo.specs.Inside.{model_refs, are_below, are_met, can_all, steps}
use Rattle.record_redo.proofs.StepLemmas.{steps_redone, none_redone}
use Rattle.record_redo.proofs.PassLemmas.{distinct_refs, missing, uncounted, unsayable, decided}
use Rattle.record_redo.proofs.redo.redo_pages.Goals as goal

-- a test of the refs is one of the record's
turned : (F : List Ref → Bool) (xs ys : List Ref) (b c : Bool) → xs ≡ ys → b ≡ F xs → b ≡ c → F ys ≡ c
turned F xs ys b c e f g = ap F (sym e) ∙ sym f ∙ g

pub returns-then-not-are_there-clause-passes : goal.returns-then-not-are_there-clause-passes
returns-then-not-are_there-clause-passes c =
    let pages = c.args.pages.now in let x = c.args.entry.now in
    let there = turned (are_below (length pages)) (model_refs c.args.refs.now) (refs_of x.body) c.are_there.result false c.requires.refs c.are_there.ensures c.if-not-are_there.true in
    missing (length pages) (pages_of pages) c.args.log x there

pub returns-then-not-are_met-clause-passes : goal.returns-then-not-are_met-clause-passes
returns-then-not-are_met-clause-passes c =
    let pages = c.args.pages.now in let x = c.args.entry.now in
    let there = turned (are_below (length pages)) (model_refs c.args.refs.now) (refs_of x.body) c.are_there.result true c.requires.refs c.are_there.ensures c.if-not-are_there.false in
    let met = turned (are_met (pages_of pages) x.gsn) (model_refs c.args.refs.now) (refs_of x.body) c.are_met.result false c.requires.refs c.are_met.ensures c.if-not-are_met.true in
    uncounted (length pages) (pages_of pages) c.args.log x there met

pub returns-then-not-are_met-clause-counts : goal.returns-then-not-are_met-clause-counts
returns-then-not-are_met-clause-counts c =
    let pages = c.args.pages.now in let x = c.args.entry.now in
    sym (turned (are_met (pages_of pages) x.gsn) (model_refs c.args.refs.now) (refs_of x.body) c.are_met.result false c.requires.refs c.are_met.ensures c.if-not-are_met.true)

pub returns-then-not-are_met-clause-after : goal.returns-then-not-are_met-clause-after
returns-then-not-are_met-clause-after c = λ _.
    let pages = c.args.pages.now in let x = c.args.entry.now in
    none_redone (entry_of c.args.log x) (pages_of pages)
    (turned (are_met (pages_of pages) x.gsn) (model_refs c.args.refs.now) (refs_of x.body) c.are_met.result false c.requires.refs c.are_met.ensures c.if-not-are_met.true)

pub returns-then-not-is_sayable-clause-passes : goal.returns-then-not-is_sayable-clause-passes
returns-then-not-is_sayable-clause-passes c =
    let pages = c.args.pages.now in let x = c.args.entry.now in
    let there = turned (are_below (length pages)) (model_refs c.args.refs.now) (refs_of x.body) c.are_there.result true c.requires.refs c.are_there.ensures c.if-not-are_there.false in
    let met = turned (are_met (pages_of pages) x.gsn) (model_refs c.args.refs.now) (refs_of x.body) c.are_met.result true c.requires.refs c.are_met.ensures c.if-not-are_met.false in
    unsayable (length pages) (pages_of pages) c.args.log x c.requires.page there met (sym c.is_sayable.ensures ∙ c.if-not-is_sayable.true)

pub returns-then-not-can_all-clause-passes : goal.returns-then-not-can_all-clause-passes
returns-then-not-can_all-clause-passes c =
    let pages = c.args.pages.now in let x = c.args.entry.now in
    let there = turned (are_below (length pages)) (model_refs c.args.refs.now) (refs_of x.body) c.are_there.result true c.requires.refs c.are_there.ensures c.if-not-are_there.false in
    let met = turned (are_met (pages_of pages) x.gsn) (model_refs c.args.refs.now) (refs_of x.body) c.are_met.result true c.requires.refs c.are_met.ensures c.if-not-are_met.false in
    let can = turned (can_all x.body (pages_of pages)) (model_refs c.args.refs.now) (refs_of x.body) c.can_all.result false c.requires.refs c.can_all.ensures c.if-not-can_all.true in
    decided (length pages) (pages_of pages) c.args.log x c.requires.page there met false (sym c.is_sayable.ensures ∙ c.if-not-is_sayable.false) can

pub returns-clause-passes : goal.returns-clause-passes
returns-clause-passes c =
    let pages = c.args.pages.now in let x = c.args.entry.now in
    let there = turned (are_below (length pages)) (model_refs c.args.refs.now) (refs_of x.body) c.are_there.result true c.requires.refs c.are_there.ensures c.if-not-are_there.false in
    let met = turned (are_met (pages_of pages) x.gsn) (model_refs c.args.refs.now) (refs_of x.body) c.are_met.result true c.requires.refs c.are_met.ensures c.if-not-are_met.false in
    let can = turned (can_all x.body (pages_of pages)) (model_refs c.args.refs.now) (refs_of x.body) c.can_all.result true c.requires.refs c.can_all.ensures c.if-not-can_all.false in
    decided (length pages) (pages_of pages) c.args.log x c.requires.page there met true (sym c.is_sayable.ensures ∙ c.if-not-is_sayable.false) can

pub returns-clause-counts : goal.returns-clause-counts
returns-clause-counts c =
    let pages = c.args.pages.now in let x = c.args.entry.now in
    sym (turned (are_met (pages_of pages) x.gsn) (model_refs c.args.refs.now) (refs_of x.body) c.are_met.result true c.requires.refs c.are_met.ensures c.if-not-are_met.false)

pub returns-clause-after : goal.returns-clause-after
returns-clause-after c = λ _.
    let pages = c.args.pages.now in let x = c.args.entry.now in let r = entry_of c.args.log x in
    c.write_all.ensures.after ∙ ap (λ (fs : List Ref). steps r fs (pages_of pages)) c.requires.refs
    ∙ steps_redone r (pages_of pages) (distinct_refs x.body (sym c.is_sayable.ensures ∙ c.if-not-is_sayable.false))
    (turned (are_met (pages_of pages) x.gsn) (model_refs c.args.refs.now) (refs_of x.body) c.are_met.result true c.requires.refs c.are_met.ensures c.if-not-are_met.false)
