use Rattle.std.proofs.Common.{◌≡◌, ◌==◌, map, drop}
use Rattle.page_model.specs.Pairs as paired
use Rattle.page_model.specs.Records.{any}
use Rattle.plain_images.specs.Pages.{pair_of}
use Rattle.plain_core.proofs.records.Node.names_page.Given as goal

abbrev pub invariant-loop-pair : goal.invariant-loop-pair
invariant-loop-pair l =
    let g = λ (s : paired.Span). s.child == l.page in
    any g (paired.spans (map pair_of l.self.pairs.items) l.self.high) ≡ any g (paired.spans (map pair_of (drop l.pair-index l.self.pairs.items)) l.self.high)
