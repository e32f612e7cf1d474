use Rattle.std.proofs.Common.{◌≡◌, map, drop}
use Rattle.core_state.specs.Needs as needs
use Rattle.plain_images.specs.Pages.{pair_of}
use Rattle.plain_core.specs.States.{Rest, format_of}
use Rattle.plain_core.proofs.scan.following.Given as goal

abbrev pub invariant-loop-pair : goal.invariant-loop-pair
invariant-loop-pair l = (x : Rest l.settings) → needs.following (format_of l.settings x) l.key (map pair_of l.pairs) l.high ≡ needs.following (format_of l.settings x) l.key (map pair_of (drop l.pair-index l.pairs)) l.high
