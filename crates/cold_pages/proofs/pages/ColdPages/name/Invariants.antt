-- What is left of the pairs makes of the table what all of them do.
use Rattle.std.proofs.Common.{◌≡◌, length, drop}
use Rattle.cold_pages.specs.Kept.{named}
use Rattle.cold_pages.proofs.pages.ColdPages.name.Given as goal

abbrev pub invariant-loop-i : goal.invariant-loop-i
invariant-loop-i l = (named l.parent (drop l.i l.node.node.pairs) l.self ≡ named l.parent l.node.node.pairs l.fn.self) × (length l.self ≡ length l.fn.self)
