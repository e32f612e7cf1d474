use Rattle.std.proofs.Common.{◌≡◌, ◌≤◌, ◌-◌, ◌^◌, length, vec_capacity, vec_len}
use Rattle.std.specs.Prelude.{reverse}
use Rattle.engine_calls.specs.core_calls.Room.{frees_from}
use Rattle.session_state.specs.Free.{nodes_in}
use Rattle.session_state.proofs.free.FreePages.new.Given as goal

abbrev pub invariant-loop-n : goal.invariant-loop-n
invariant-loop-n l = record {
  few : vec_len l.falling ≤ l.n;
  room : length l.pages ≤ vec_capacity l.falling;
  all : 2 ^ 16 ≤ vec_capacity l.falling;
  free : reverse l.falling.items ≡ frees_from (nodes_in l.pages) l.n (length l.pages - l.n);
}
