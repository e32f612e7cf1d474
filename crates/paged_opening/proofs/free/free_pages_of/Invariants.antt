use Rattle.std.proofs.Common.{◌≡◌}
use Rattle.paged_opening.proofs.FreeLemmas.{free_to}
use Rattle.paged_opening.proofs.free.free_pages_of.Given as goal

abbrev pub invariant-loop-page : goal.invariant-loop-page
invariant-loop-page l = l.free ≡ free_to l.page l.pages
