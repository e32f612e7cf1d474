use Rattle.std.proofs.Common.{refl}
use Rattle.disk_runs.specs.Openings.{opened}
use Rattle.row_crashes.proofs.laws.every_begun.Goals as goal

pub returns : goal.returns
returns g c h s0 n log firm is opens = record {
  opening = is;
  known = opened n log firm (g.D.Disk.story c.args.now.now);
  stands = c.every_opened.ensures s0 h n log firm opens;
  master = refl;
  first_is = refl;
  second_is = refl;
}
