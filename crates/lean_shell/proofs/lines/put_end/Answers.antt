use Rattle.script_lang.specs.Notices.{Notice}
use Rattle.lean_shell.proofs.Runs.LineLemmas.{whole_line}
use Rattle.lean_shell.proofs.lines.put_end.Goals as goal

pub put_line-requires-after_bounds : goal.put_line-requires-after_bounds
put_line-requires-after_bounds g c κs within = whole_line c.notices_are_no_replies.ensures Notice.End tt _ c.fixed_lines.ensures.end
