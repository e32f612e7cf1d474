use Rattle.std.proofs.Common.{◌≡◌, ◌≤◌, ◌⊎◌, vec_capacity, suc, ◌+◌, ◌-◌, ◌++◌, length}
use Rattle.page_provider.specs.Fresh.{down_to_one}
use Rattle.page_provider.proofs.pager.empty_frames.Given as goal

abbrev pub invariant-loop-i : goal.invariant-loop-i
invariant-loop-i l = record {
  rest : down_to_one l.frames ≡ l.empty.items ++ down_to_one (suc l.frames - l.i);
  count : length l.empty.items + 1 ≡ l.i;
  top : (l.i ≤ l.frames) ⊎ (l.i ≡ 1);
  room : l.frames ≤ vec_capacity l.empty;
}
