use Rattle.script_lang.specs.Notices.{Notice}
use Rattle.lean_shell.proofs.Runs.LineLemmas.{whole_line}
use Rattle.lean_shell.proofs.engine_lines.put_last.Goals as goal

pub put_line-requires-after_bounds : goal.put_line-requires-after_bounds
put_line-requires-after_bounds g c κs within = whole_line c.notices_are_no_replies.ensures Notice.ReadFault tt _ c.fixed_lines.ensures.read_fault

pub put_line-requires-in-DiskFault-after_bounds : goal.put_line-requires-in-DiskFault-after_bounds
put_line-requires-in-DiskFault-after_bounds g c κs within = whole_line c.notices_are_no_replies.ensures Notice.DiskFault tt _ c.fixed_lines.ensures.disk_fault
