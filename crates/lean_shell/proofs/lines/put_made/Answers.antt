use Rattle.std.proofs.Common.{List, ℕ, subst}
use Rattle.script_lang.specs.Notices.{Notice, notice_text}
use Rattle.lean_shell.specs.Lines.{IsPut, line_of}
use Rattle.script_lang.proofs.PieceLemmas.{held_text, one_whole_line}
use Rattle.lean_shell.proofs.lines.put_made.Goals as goal

pub returns-clause-put : goal.returns-clause-put
returns-clause-put g c =
    subst (λ (line : List ℕ). IsPut line c.put_line.result (g.K.Sink.held c.args.sink.now) (g.K.Sink.held c.put_line.new.sink) (g.D.Disk.story c.args.disk.now) (g.D.Disk.story c.put_line.new.disk))
    (held_text (line_of (Notice.Made c.args.count c.args.refused c.args.pairs c.args.sum)) c.made_bytes-end.ensures) c.put_line.ensures.put

pub put_line-requires-after_bounds : goal.put_line-requires-after_bounds
put_line-requires-after_bounds g c κs within =
    one_whole_line (notice_text (Notice.Made c.args.count c.args.refused c.args.pairs c.args.sum)) (c.notices_are_no_replies.ensures (Notice.Made c.args.count c.args.refused c.args.pairs c.args.sum) (c.ranges.count.fits, c.ranges.refused.fits, c.ranges.pairs.fits, c.ranges.sum.fits)).1 c.made_bytes-end.ensures
