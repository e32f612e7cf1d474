-- The run by hand, computed.
use Rattle.page_model.specs.Nodes.{Format, Node, free}
use Rattle.page_model.specs.Tree.{IsTree}
use Rattle.page_model.proofs.Check as page_check
use Rattle.core_commit.specs.core_state.Openings.{Opening}
use Rattle.core_paging.specs.Example.{WorkedExample}
use Rattle.std.proofs.Common.{◌^◌, ◌-◌, ℕ, zero, suc, true, [], refl, arith}

abbrev format : Format
format = record { pages = 4; room = 2; levels = 7; dead = 2 ^ 63; top = 2 ^ 64 - 1; some = omega arith; wide = omega arith }

-- one empty leaf, the rest free
abbrev node : ℕ → Node
node zero = record { live = true; level = 0; low = 0; high = 2 ^ 64 - 1; pairs = [] }
node (suc p) = free

tree : IsTree format node
tree = (page_check.every_check format node).sound (omega arith) refl

abbrev opening : Opening
opening = record {
  faithful = true;
  workers = 2;
  frames = 4;
  row_of = λ k. k;
  changes = 64;
  joined = 2;
  base = 0;
  format = format;
  gsn = λ _. 0;
  last = λ _. 0;
  node = node;
  some_worker = omega arith;
  some_frame = omega arith;
  fit = omega arith;
  keys = omega arith;
  values = omega arith;
  low = λ p. omega arith;
  tree = tree;
}

pub worked : WorkedExample
worked = record {
  g = opening;
  first = (refl, (refl, (refl, (refl, (refl, (refl, (refl, (refl, (refl, (refl, (refl, (refl, (refl, (refl, (refl, (refl, tt))))))))))))))));
  second = (refl, (refl, (refl, (refl, (refl, (refl, (refl, (refl, (refl, tt)))))))));
  evicted = refl;
  third = (refl, (refl, (refl, (refl, (refl, (refl, (refl, (refl, (refl, (refl, (refl, (refl, (refl, (refl, (refl, (refl, (refl, (refl, (refl, tt)))))))))))))))))));
  level = refl;
  cut = refl;
}
