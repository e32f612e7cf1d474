use Rattle.std.proofs.Common.{◌≡◌, ◌++◌, ◌-◌, length, take, drop}
use Rattle.std.specs.Prelude.{reverse}
use Rattle.engine_trait.specs.tidy_rules.Laws.{put_in}
use Rattle.session_state.proofs.free.place_of.Given as goal

abbrev pub invariant-loop-n : goal.invariant-loop-n
invariant-loop-n l = put_in l.fn.page (reverse l.falling) ≡ reverse (drop (length l.falling - l.n) l.falling) ++ put_in l.fn.page (reverse (take (length l.falling - l.n) l.falling))
