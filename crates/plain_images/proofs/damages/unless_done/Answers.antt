use Rattle.std.proofs.Common.{ap, ◌∙◌, sym, cond, Some, None}
use Rattle.image_model.specs.Damage as rules
use Rattle.plain_images.specs.Pages.{format_of}
use Rattle.std.proofs.Common.{length}
use Rattle.plain_images.specs.Records.{entry_of, entries_of}
use Rattle.plain_images.specs.Images.{bases_of, pages_of, redone_of}
use Rattle.plain_images.proofs.DamageLemmas.{is_undoable}
use Rattle.plain_images.proofs.damages.unless_done.Goals as goal

pub returns-then-branch : goal.returns-then-branch
returns-then-branch c =
    ap (λ b. cond b None (Some (rules.Damage.Undoable c.args.entry.now.log c.args.entry.now.number))) (sym c.if-branch.true)
    ∙ is_undoable (format_of (length c.args.bases.now)) (bases_of c.args.bases.now) (pages_of c.args.bases.now c.as_slice-placed.result.now) (entry_of c.args.entry.now) (entries_of c.args.before.now) (redone_of c.args.bases.now c.in_ok-redone.redone) c.in_ok-passes.field-0
    (ap (pages_of c.args.bases.now) c.as_slice-placed.ensures.value) c.in_ok-redone.ensures c.in_ok-passes.ensures

pub returns : goal.returns
returns c =
    ap (λ b. cond b None (Some (rules.Damage.Undoable c.args.entry.now.log c.args.entry.now.number))) (sym c.if-branch.false)
    ∙ is_undoable (format_of (length c.args.bases.now)) (bases_of c.args.bases.now) (pages_of c.args.bases.now c.as_slice-placed.result.now) (entry_of c.args.entry.now) (entries_of c.args.before.now) (redone_of c.args.bases.now c.in_ok-redone.redone) c.in_ok-passes.field-0
    (ap (pages_of c.args.bases.now) c.as_slice-placed.ensures.value) c.in_ok-redone.ensures c.in_ok-passes.ensures
