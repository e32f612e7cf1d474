use Rattle.std.proofs.Common.{◌∙◌, List, length, true, false, sym, ap}
use Rattle.std.proofs.lemmas.Bool.{lt-ltb, le-ltb}
use Rattle.page_model.specs.Records.{Ref}
use Rattle.disk_image.specs.Records.{entry_of, refs_of}
use Rattle.disk_image.specs.log_record.Model.{model_ref}
use Rattle.record_redo.specs.Pages.{pages_of}
use Rattle.record_redo.specs.Inside.{steps}
use Rattle.record_redo.proofs.LeafLemmas.{below_as, met_as, can_as}
use Rattle.record_redo.proofs.StepLemmas.{steps_redone, none_redone}
use Rattle.record_redo.proofs.PassLemmas.{distinct_refs, missing, uncounted, unsayable, decided}
use Rattle.record_redo.proofs.redo.redo_leaf.Goals as goal

pub returns-then-place-pages-clause-passes : goal.returns-then-place-pages-clause-passes
returns-then-place-pages-clause-passes c =
    let pages = c.args.pages.now in let x = c.args.entry.now in let f = model_ref c.args.leaf in
    missing (length pages) (pages_of pages) c.args.log x (below_as (refs_of x.body) f c.requires.one (length pages) false (le-ltb f.page (length pages) c.if-place-pages.true))

pub returns-then-not-is_met-clause-passes : goal.returns-then-not-is_met-clause-passes
returns-then-not-is_met-clause-passes c =
    let pages = c.args.pages.now in let x = c.args.entry.now in let f = model_ref c.args.leaf in
    let there = below_as (refs_of x.body) f c.requires.one (length pages) true (lt-ltb f.page (length pages) c.if-place-pages.false) in
    let met = met_as (refs_of x.body) f c.requires.one pages c.index-pages-place.result x.gsn c.is_met.result c.if-place-pages.false c.is_met.ensures ∙ c.if-not-is_met.true in
    uncounted (length pages) (pages_of pages) c.args.log x there met

pub returns-then-not-is_met-clause-counts : goal.returns-then-not-is_met-clause-counts
returns-then-not-is_met-clause-counts c =
    let pages = c.args.pages.now in let x = c.args.entry.now in let f = model_ref c.args.leaf in
    let met = met_as (refs_of x.body) f c.requires.one pages c.index-pages-place.result x.gsn c.is_met.result c.if-place-pages.false c.is_met.ensures ∙ c.if-not-is_met.true in
    sym met

pub returns-then-not-is_met-clause-after : goal.returns-then-not-is_met-clause-after
returns-then-not-is_met-clause-after c = λ _.
    let pages = c.args.pages.now in let x = c.args.entry.now in let f = model_ref c.args.leaf in
    let met = met_as (refs_of x.body) f c.requires.one pages c.index-pages-place.result x.gsn c.is_met.result c.if-place-pages.false c.is_met.ensures ∙ c.if-not-is_met.true in
    none_redone (entry_of c.args.log x) (pages_of pages) met

pub returns-then-not-is_sayable-clause-passes : goal.returns-then-not-is_sayable-clause-passes
returns-then-not-is_sayable-clause-passes c =
    let pages = c.args.pages.now in let x = c.args.entry.now in let f = model_ref c.args.leaf in
    let there = below_as (refs_of x.body) f c.requires.one (length pages) true (lt-ltb f.page (length pages) c.if-place-pages.false) in
    let met = met_as (refs_of x.body) f c.requires.one pages c.index-pages-place.result x.gsn c.is_met.result c.if-place-pages.false c.is_met.ensures ∙ c.if-not-is_met.false in
    unsayable (length pages) (pages_of pages) c.args.log x c.requires.page there met (sym c.is_sayable.ensures ∙ c.if-not-is_sayable.true)

pub returns-then-not-can_one-clause-passes : goal.returns-then-not-can_one-clause-passes
returns-then-not-can_one-clause-passes c =
    let pages = c.args.pages.now in let x = c.args.entry.now in let f = model_ref c.args.leaf in
    let there = below_as (refs_of x.body) f c.requires.one (length pages) true (lt-ltb f.page (length pages) c.if-place-pages.false) in
    let met = met_as (refs_of x.body) f c.requires.one pages c.index-pages-place.result x.gsn c.is_met.result c.if-place-pages.false c.is_met.ensures ∙ c.if-not-is_met.false in
    let can = can_as (refs_of x.body) f c.requires.one pages c.index-pages-place-2.result x.body c.can_one.result c.if-place-pages.false c.can_one.ensures ∙ c.if-not-can_one.true in
    decided (length pages) (pages_of pages) c.args.log x c.requires.page there met false (sym c.is_sayable.ensures ∙ c.if-not-is_sayable.false) can

pub returns-clause-passes : goal.returns-clause-passes
returns-clause-passes c =
    let pages = c.args.pages.now in let x = c.args.entry.now in let f = model_ref c.args.leaf in
    let there = below_as (refs_of x.body) f c.requires.one (length pages) true (lt-ltb f.page (length pages) c.if-place-pages.false) in
    let met = met_as (refs_of x.body) f c.requires.one pages c.index-pages-place.result x.gsn c.is_met.result c.if-place-pages.false c.is_met.ensures ∙ c.if-not-is_met.false in
    let can = can_as (refs_of x.body) f c.requires.one pages c.index-pages-place-2.result x.body c.can_one.result c.if-place-pages.false c.can_one.ensures ∙ c.if-not-can_one.false in
    decided (length pages) (pages_of pages) c.args.log x c.requires.page there met true (sym c.is_sayable.ensures ∙ c.if-not-is_sayable.false) can

pub returns-clause-counts : goal.returns-clause-counts
returns-clause-counts c =
    let pages = c.args.pages.now in let x = c.args.entry.now in let f = model_ref c.args.leaf in
    let met = met_as (refs_of x.body) f c.requires.one pages c.index-pages-place.result x.gsn c.is_met.result c.if-place-pages.false c.is_met.ensures ∙ c.if-not-is_met.false in
    sym met

pub returns-clause-after : goal.returns-clause-after
returns-clause-after c = λ _.
    let pages = c.args.pages.now in let x = c.args.entry.now in let f = model_ref c.args.leaf in
    let met = met_as (refs_of x.body) f c.requires.one pages c.index-pages-place.result x.gsn c.is_met.result c.if-place-pages.false c.is_met.ensures ∙ c.if-not-is_met.false in
    let r = entry_of c.args.log x in
    c.write_one.ensures.after ∙ ap (λ (fs : List Ref). steps r fs (pages_of pages)) (sym c.requires.one)
    ∙ steps_redone r (pages_of pages) (distinct_refs x.body (sym c.is_sayable.ensures ∙ c.if-not-is_sayable.false)) met
