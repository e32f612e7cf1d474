-- A tidying, computed.
use Rattle.std.proofs.Common.{◌^◌, true, refl, arith}
use Rattle.page_model.specs.Nodes.{Format}
use Rattle.page_model.specs.Tree.{IsTree}
use Rattle.page_model.proofs.Check.{every_check}
use Rattle.core_commit.specs.core_state.Openings.{Opening}
use Rattle.tidy_rules.specs.Rows.{WorkedTidying, two_leaves}

abbrev format : Format
format = record { pages = 3; room = 60; levels = 7; dead = 2 ^ 63; top = 100; some = omega arith; wide = omega arith }

is_tree : IsTree format two_leaves
is_tree = (every_check format two_leaves).sound (omega arith) refl

abbrev opening : Opening
opening = record {
  faithful = true;
  workers = 1;
  frames = 3;
  row_of = λ k. k;
  changes = 64;
  joined = 45;
  base = 81;
  format = format;
  gsn = λ _. 0;
  last = λ _. 0;
  node = two_leaves;
  some_worker = omega arith;
  some_frame = omega arith;
  fit = omega arith;
  keys = omega arith;
  values = omega arith;
  low = λ p. omega arith;
  tree = is_tree;
}

pub tidying : WorkedTidying
tidying = record {
  opening = opening;
  base = refl;
  joined = refl;
  nodes = λ p. refl;
  tidies = (refl, (refl, (refl, refl)));
  root = refl;
  freed = refl;
  numbers = refl;
}
