use Rattle.std.proofs.Common.{ap, ◌∙◌, List, length}
use Rattle.page_model.specs.Check.{first_break}
use Rattle.image_model.specs.Damage as rules
use Rattle.image_model.specs.Undo.{nodes_of}
use Rattle.plain_images.specs.declared.pages.Node.{Node}
use Rattle.plain_images.specs.Pages.{nodes, format_of}
use Rattle.plain_images.specs.Images.{redone_of}
use Rattle.plain_images.proofs.DamageLemmas.{break_taken}
use Rattle.plain_images.proofs.damages.first_broken.Goals as goal

pub returns-in-Some : goal.returns-in-Some
returns-in-Some c =
    ap (rules.page_damage rules.Damage.Broken) (c.in-Some.ensures ∙ ap (λ (t : List Node). first_break (format_of (length t)) (nodes t)) c.deref.ensures.value
    ∙ break_taken (length c.args.bases.now) (nodes_of (redone_of c.args.bases.now c.args.redone.now)) c.in_ok-nodes.nodes.items c.in_ok-nodes.ensures)

pub returns : goal.returns
returns c =
    ap (rules.page_damage rules.Damage.Broken) (c.in-None.ensures ∙ ap (λ (t : List Node). first_break (format_of (length t)) (nodes t)) c.deref.ensures.value
    ∙ break_taken (length c.args.bases.now) (nodes_of (redone_of c.args.bases.now c.args.redone.now)) c.in_ok-nodes.nodes.items c.in_ok-nodes.ensures)
