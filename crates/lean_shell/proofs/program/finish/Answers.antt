use Rattle.std.proofs.Common.{arith}
use Rattle.script_lang.specs.Notices.{Notice, notice_text}
use Rattle.script_lang.proofs.PieceLemmas.{one_whole_line}
use Rattle.lean_shell.proofs.program.finish.Goals as goal

pub put-requires : goal.put-requires
put-requires g c = one_whole_line (notice_text (Notice.Formatted c.args.shape.workers c.args.shape.pages c.args.shape.blocks)) (c.notices_are_no_replies.ensures (Notice.Formatted c.args.shape.workers c.args.shape.pages c.args.shape.blocks) (omega arith, omega arith, omega arith)).1 c.formatted_bytes-end.ensures
