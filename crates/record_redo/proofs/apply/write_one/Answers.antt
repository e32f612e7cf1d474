use Rattle.std.proofs.Common.{◌≡◌, Bool, true, false, not, ◌||◌, sym, ◌∙◌, ap, true≢false}
use Rattle.std.proofs.lemmas.Bool.{eq-eqb}
use Rattle.disk_image.specs.image_model.Entries.{Contents, written}
use Rattle.disk_image.specs.Records.{entry_of}
use Rattle.disk_image.specs.log_record.Model.{model_ref}
use Rattle.record_redo.specs.Pages.{pages_of}
use Rattle.record_redo.specs.Inside.{can_be, is_at}
use Rattle.record_redo.proofs.PageLemmas.{page_here, number_here, keeps_set}
use Rattle.record_redo.proofs.WriteLemmas.{step_none, step_set}
use Rattle.record_redo.proofs.apply.write_one.Goals as goal

asked : (a b : Bool) → a ≡ true → (not a || b) ≡ true → b ≡ true
asked true b e h = h
asked false b e h = absurd (true≢false (sym e))

pub returns-then-gsn-at-clause-after : goal.returns-then-gsn-at-clause-after
returns-then-gsn-at-clause-after c =
    let pages = c.args.pages.now in let x = c.args.at in
    let g = number_here pages x.page c.gsn.result c.index-pages-place.result c.requires.below c.gsn.ensures in
    step_none (entry_of c.args.log c.args.entry.now) (model_ref x) (pages_of pages) (λ e. c.if-gsn-at.true (sym g ∙ e))

pub write-requires-clause-can : goal.write-requires-clause-can
write-requires-clause-can c =
    let pages = c.args.pages.now in let x = c.args.at in let body = c.args.entry.now.body in
    let g = number_here pages x.page c.gsn.result c.index-pages-place.result c.requires.below c.gsn.ensures in
    sym (ap (λ (v : Contents). can_be body x.page v.node) (page_here pages x.page c.index-pages-place-2.result c.requires.below))
    ∙ asked (is_at (pages_of pages) (model_ref x)) (can_be body x.page (pages_of pages x.page).node) (eq-eqb (pages_of pages x.page).gsn x.prev (g ∙ c.if-gsn-at.false)) c.requires.can

pub returns-clause-after : goal.returns-clause-after
returns-clause-after c =
    let pages = c.args.pages.now in let x = c.args.at in let r = entry_of c.args.log c.args.entry.now in
    let g = number_here pages x.page c.gsn.result c.index-pages-place.result c.requires.below c.gsn.ensures in
    step_set pages r (model_ref x) c.write.new.node c.requires.below (g ∙ c.if-gsn-at.false)
    (c.write.ensures.written ∙ ap (written r x.page) (sym (page_here pages x.page c.index-pages-place-2.result c.requires.below)))

pub returns-clause-kept : goal.returns-clause-kept
returns-clause-kept c = keeps_set c.args.pages.now c.args.changed.now c.args.at.page c.index-pages-place-2.result c.write.new.node c.requires.marks c.requires.below c.write.ensures.own
