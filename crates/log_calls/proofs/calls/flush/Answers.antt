use Rattle.std.proofs.Common.{◌+◌}
use Rattle.log_calls.specs.Calls.{FlushesOn}
use Rattle.log_calls.proofs.CallLemmas.{flushes, frame, moments, notes, on_ok, one_more, within}
use Rattle.log_calls.proofs.calls.flush.Goals as goal

pub returns-clause-stands : goal.returns-clause-stands
returns-clause-stands g c =
    let s = g.D.Disk.story in
    on_ok (FlushesOn c.args.number c.args.log.now c.flush_on.new.log (s c.args.disk.now) (s c.flush_on.new.disk)) c.flush_on.result c.flush_on.ensures.log c.flush_on.ensures.kept
    (λ after kept. flushes (1 + c.args.number) c.args.number (one_more c.args.number) c.args.log.now c.flush_on.new.log (s c.args.disk.now) (s c.flush_on.new.disk)
    c.every_version.ensures c.every_flushed.ensures c.flush_on.ensures.ranges after c.flush_on.ensures.frame kept)

pub returns-clause-any_moment : goal.returns-clause-any_moment
returns-clause-any_moment g c =
    let s = g.D.Disk.story in
    moments (1 + c.args.number) c.args.number (one_more c.args.number) c.args.log.now c.flush_on.new.log (s c.args.disk.now) (s c.flush_on.new.disk) c.every_kept.ensures
    c.every_prefix.ensures c.every_sealed.ensures c.flush_on.ensures.any_moment

pub returns-clause-told : goal.returns-clause-told
returns-clause-told g c =
    let s = g.D.Disk.story in
    notes (1 + c.args.number) c.args.number (one_more c.args.number) c.args.log.now c.flush_on.new.log (s c.args.disk.now) (s c.flush_on.new.disk) c.flush_on.ensures.any_moment

pub returns-clause-same_notes : goal.returns-clause-same_notes
returns-clause-same_notes g c = c.flush_on.ensures.frame.notes

pub returns-clause-within : goal.returns-clause-within
returns-clause-within g c =
    let s = g.D.Disk.story in
    within (1 + c.args.number) c.args.number (one_more c.args.number) c.args.log.now c.flush_on.new.log (s c.args.disk.now) (s c.flush_on.new.disk) c.flush_on.ensures.any_moment

pub returns-clause-frame : goal.returns-clause-frame
returns-clause-frame g c =
    let s = g.D.Disk.story in
    frame (1 + c.args.number) c.args.number (one_more c.args.number) c.args.log.now c.flush_on.new.log (s c.args.disk.now) (s c.flush_on.new.disk) c.flush_on.ensures.frame
