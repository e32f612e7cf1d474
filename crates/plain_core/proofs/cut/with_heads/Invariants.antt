use Rattle.std.proofs.Common.{◌≡◌, ◌++◌, ℕ, max, min, drop}
use Rattle.plain_core.specs.Inside.{heads_at}
use Rattle.plain_core.specs.Tables.{at}
use Rattle.plain_core.proofs.cut.with_heads.Given as goal

abbrev pub invariant-loop-placed : goal.invariant-loop-placed
invariant-loop-placed l =
    let f : ℕ → ℕ = λ w. max (at l.heads w) (min (at l.asked w) l.number) in
    l.all.items ++ heads_at f (drop l.placed-index l.places) ≡ l.fn.list.items ++ heads_at f l.places
