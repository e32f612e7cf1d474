use Rattle.script_lang.specs.Notices.{Notice, notice_text}
use Rattle.script_lang.proofs.PieceLemmas.{one_whole_line}
use Rattle.lean_shell.proofs.engine_lines.put_opened.Goals as goal

pub put_line-requires-after_bounds : goal.put_line-requires-after_bounds
put_line-requires-after_bounds g c κs within =
    one_whole_line (notice_text (Notice.Opened c.args.generation c.args.winners c.args.undone)) (c.notices_are_no_replies.ensures (Notice.Opened c.args.generation c.args.winners c.args.undone) (c.ranges.generation.fits, c.ranges.winners.fits, c.ranges.undone.fits)).1 c.opened_bytes-end.ensures
