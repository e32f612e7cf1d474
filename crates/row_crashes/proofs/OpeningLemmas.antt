-- An opening of two workers on sixteen fresh pages.
use Rattle.std.proofs.Common.{true, refl, arith}
use Rattle.page_model.specs.Nodes.{free}
use Rattle.page_model.specs.Tree.{IsTree}
use Rattle.page_model.proofs.Check as page_check
use Rattle.disk_runs.specs.core_state.Openings.{Opening}
use Rattle.disk_runs.specs.disk_image.Formats.{format_of}
use Rattle.row_crashes.specs.Row.{RowOpens}
use Rattle.row_crashes.proofs.RowLemmas.{nodes}

pub tree : IsTree (format_of 16) (nodes (λ _. free))
tree = (page_check.every_check (format_of 16) (nodes (λ _. free))).sound (omega arith) refl

abbrev pub opening : Opening
opening = record {
  faithful = true;
  workers = 2;
  frames = 16;
  row_of = λ k. k;
  changes = 64;
  joined = 45;
  base = 0;
  format = format_of 16;
  gsn = λ _. 0;
  last = λ _. 0;
  node = nodes (λ _. free);
  some_worker = omega arith;
  some_frame = omega arith;
  fit = omega arith;
  keys = omega arith;
  values = omega arith;
  low = λ p. omega arith;
  tree = tree;
}

pub row_opening : RowOpens
row_opening = record {
  opening = opening;
  is = record { workers = refl; base = refl; leaf = refl; five = refl; six = refl; changes = omega arith };
  format = refl;
}
