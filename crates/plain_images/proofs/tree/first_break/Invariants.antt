use Rattle.std.proofs.Common.{◌≡◌, length}
use Rattle.page_model.specs.Check as check
use Rattle.plain_images.specs.Pages.{nodes, format_of}
use Rattle.plain_images.proofs.tree.first_break.Given as goal

abbrev pub invariant-loop-page : goal.invariant-loop-page
invariant-loop-page l = l.first ≡ check.first_bad l.page (check.page_ok (format_of (length l.pages)) (nodes l.pages))
