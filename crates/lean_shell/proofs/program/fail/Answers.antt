use Rattle.lean_shell.proofs.PutLemmas.{put_notes}
use Rattle.lean_shell.proofs.program.fail.Goals as goal

pub returns-clause-noted : goal.returns-clause-noted
returns-clause-noted g c = put_notes g.D.Disk.story c.args.disk.now c.put.new.disk c.put.result c.put.ensures.noted c.put.ensures.not_noted
