-- Room that is made in a full leaf, computed.
use Rattle.std.proofs.Common.{◌≡◌, ◌<◌, ℕ, zero, suc, true, List, [], ◌∷◌, length, refl, arith}
use Rattle.page_model.specs.Nodes.{Format, Node, free}
use Rattle.page_model.specs.Tree.{IsTree}
use Rattle.page_model.proofs.Check.{every_check}
use Rattle.core_crash.specs.core_state.Openings.{Opening}
use Rattle.core_calls.specs.Rows.{WorkedRoom}

abbrev format : Format
format = record { pages = 3; room = 2; levels = 1; dead = 1000; top = 100; some = omega arith; wide = omega arith }

-- a full leaf, and free pages
abbrev node : ℕ → Node
node zero = record { live = true; level = 0; low = 0; high = 100; pairs = record { key = 1; word = 10 } ∷ record { key = 2; word = 20 } ∷ [] }
node (suc p) = free

is_tree : IsTree format node
is_tree = (every_check format node).sound (omega arith) refl

abbrev opening : Opening
opening = record {
  faithful = true;
  workers = 1;
  frames = 3;
  row_of = λ k. k;
  changes = 64;
  joined = 1;
  base = 0;
  format = format;
  gsn = λ _. 0;
  last = λ _. 0;
  node = node;
  some_worker = omega arith;
  some_frame = omega arith;
  fit = omega arith;
  keys = omega arith;
  values = omega arith;
  low = λ p. omega arith;
  tree = is_tree;
}

fewer : (l : List ℕ) (n : ℕ) → l ≡ [] → n ≡ 3 → length l < n
fewer l n a b = rw (a, b) (omega arith)

pub room : WorkedRoom
room = record {
  opening = opening;
  takes_two = refl;
  two_free = refl;
  takes_one = refl;
  one_free = refl;
  takes_none = refl;
  none_free = refl;
  takes_three = refl;
  takes_none_there = refl;
  tall = record { leaf = record { page = 2; within = omega arith; leaf = refl; without = refl; full = refl }; all = refl; level = refl };
  short = record { leaf = record { page = 2; within = omega arith; leaf = refl; without = refl; full = refl }; few = fewer _ _ refl refl };
}
