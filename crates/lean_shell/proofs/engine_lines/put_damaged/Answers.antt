use Rattle.std.proofs.Common.{List, ℕ, subst, arith}
use Rattle.script_lang.specs.Notices.{Notice, notice_text}
use Rattle.lean_shell.specs.Lines.{IsPut, line_of}
use Rattle.script_lang.proofs.PieceLemmas.{held_text, one_whole_line}
use Rattle.lean_shell.proofs.engine_lines.put_damaged.Goals as goal

pub returns-clause-put : goal.returns-clause-put
returns-clause-put g c =
    subst (λ (line : List ℕ). IsPut line c.put_line.result (g.K.Sink.held c.args.sink.now) (g.K.Sink.held c.put_line.new.sink) (g.D.Disk.story (g.E.Calls.disk c.args.engine.now)) (g.D.Disk.story (g.E.Calls.disk c.put_line.new.engine)))
    (held_text (line_of (Notice.Damaged 1 c.args.place)) c.damaged_bytes-end.ensures) c.put_line.ensures.put

pub put_line-requires-after_bounds : goal.put_line-requires-after_bounds
put_line-requires-after_bounds g c κs within = one_whole_line (notice_text (Notice.Damaged 1 c.args.place)) (c.notices_are_no_replies.ensures (Notice.Damaged 1 c.args.place) (omega arith, c.ranges.place.fits)).1 c.damaged_bytes-end.ensures
