use Rattle.std.proofs.Common.{◌≡◌}
use Rattle.page_model.specs.Check as check
use Rattle.plain_images.specs.Pages.{nodes}
use Rattle.plain_images.proofs.tree.is_child_of_some.Given as goal

abbrev pub invariant-loop-other : goal.invariant-loop-other
invariant-loop-other l = l.named ≡ check.some_below l.other (λ q. check.names_page (nodes l.pages q) l.page)
