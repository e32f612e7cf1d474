use Rattle.std.proofs.Common.{◌+◌, ◌≡◌}
use Rattle.log_calls.specs.Calls.{StagesOn}
use Rattle.log_calls.proofs.CallLemmas.{frame, moments, notes, on_ok, one_more, staged_last, stages, within}
use Rattle.log_calls.proofs.calls.stage_end.Goals as goal

pub returns-clause-stands : goal.returns-clause-stands
returns-clause-stands g c =
    let s = g.D.Disk.story in
    on_ok (StagesOn c.args.number c.args.entry.now c.args.log.now c.stage_end_on.new.log (s c.args.disk.now) (s c.stage_end_on.new.disk)) c.stage_end_on.result
    c.stage_end_on.ensures.log c.stage_end_on.ensures.kept (λ after kept. stages (1 + c.args.number) c.args.number (one_more c.args.number) c.args.log.now c.stage_end_on.new.log (s
    c.args.disk.now) (s c.stage_end_on.new.disk) c.every_version.ensures c.every_staged.ensures c.args.entry.now c.requires.rises c.stage_end_on.ensures.ranges after
    c.stage_end_on.ensures.frame kept)

pub returns-clause-any_moment : goal.returns-clause-any_moment
returns-clause-any_moment g c =
    let s = g.D.Disk.story in
    moments (1 + c.args.number) c.args.number (one_more c.args.number) c.args.log.now c.stage_end_on.new.log (s c.args.disk.now) (s c.stage_end_on.new.disk) c.every_kept.ensures
    c.every_prefix.ensures c.every_sealed.ensures c.stage_end_on.ensures.any_moment

pub returns-clause-told : goal.returns-clause-told
returns-clause-told g c =
    let s = g.D.Disk.story in
    notes (1 + c.args.number) c.args.number (one_more c.args.number) c.args.log.now c.stage_end_on.new.log (s c.args.disk.now) (s c.stage_end_on.new.disk)
    c.stage_end_on.ensures.any_moment

pub returns-clause-last : goal.returns-clause-last
returns-clause-last g c =
    on_ok (c.stage_end_on.new.log.last ≡ c.args.entry.now.gsn) c.stage_end_on.result c.stage_end_on.ensures.log c.stage_end_on.ensures.log (λ after same. staged_last
    c.args.entry.now c.args.log.now c.stage_end_on.new.log after)

pub returns-clause-same_notes : goal.returns-clause-same_notes
returns-clause-same_notes g c = c.stage_end_on.ensures.frame.notes

pub returns-clause-within : goal.returns-clause-within
returns-clause-within g c =
    let s = g.D.Disk.story in
    within (1 + c.args.number) c.args.number (one_more c.args.number) c.args.log.now c.stage_end_on.new.log (s c.args.disk.now) (s c.stage_end_on.new.disk) c.stage_end_on.ensures.any_moment

pub returns-clause-frame : goal.returns-clause-frame
returns-clause-frame g c =
    let s = g.D.Disk.story in
    frame (1 + c.args.number) c.args.number (one_more c.args.number) c.args.log.now c.stage_end_on.new.log (s c.args.disk.now) (s c.stage_end_on.new.disk) c.stage_end_on.ensures.frame
