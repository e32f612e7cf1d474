-- The pages below are kept.
use Rattle.std.proofs.Common.{◌≡◌, ◌<◌}
use Rattle.paged_opening.specs.Opened.{cold_to}
use Rattle.paged_opening.proofs.cold.cold_pages_of.Given as goal

abbrev pub invariant-loop-page : goal.invariant-loop-page
invariant-loop-page l = (0 < l.page) × (l.kept ≡ cold_to l.pages l.page)
