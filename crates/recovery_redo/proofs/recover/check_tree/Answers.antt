use Rattle.std.proofs.Common.{◌≡◌, ◌<◌, length, sym, ◌∙◌, arith, subst}
use Rattle.disk_image.specs.Formats.{format_of}
use Rattle.node_tree.specs.Nodes.{nodes_of}
use Rattle.recovery_redo.specs.Inside.{BreaksAt}
use Rattle.recovery_redo.proofs.recover.check_tree.Goals as goal

pub returns-in-Ok-None-clause-tree : goal.returns-in-Ok-None-clause-tree
returns-in-Ok-None-clause-tree c =
    let pages = c.args.pages.now in
    let some : 0 < length pages = grind arith in
    (c.every_check.ensures (format_of (length pages)) (nodes_of pages)).sound some (sym c.in-Ok-None.ensures ∙ c.in-Ok-None.field-0-is)

pub returns-in-Ok-Some-clause-cause : goal.returns-in-Ok-Some-clause-cause
returns-in-Ok-Some-clause-cause c a page same some =
    let pages = c.args.pages.now in
    let least = (c.every_check.ensures (format_of (length pages)) (nodes_of pages)).least c.in-Ok-Some.page (sym c.in-Ok-Some.ensures ∙ c.in-Ok-Some.field-0-is) in
    let here : BreaksAt pages c.in-Ok-Some.page = record { within = least.0; fails = least.1 } in
    let area : a ≡ 1 = cc in
    let at : c.in-Ok-Some.page ≡ page = cc in
    (area, subst (BreaksAt pages) at here)
