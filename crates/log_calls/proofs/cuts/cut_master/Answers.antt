use Rattle.log_calls.proofs.CutLemmas.{cuts, either}
use Rattle.log_calls.proofs.SyncLemmas.{within}
use Rattle.log_calls.proofs.cuts.cut_master.Goals as goal

pub returns-clause-stands : goal.returns-clause-stands
returns-clause-stands g c = λ done.
    let is = c.write_on.ensures in
    cuts c.every_version.ensures c.every_cut.ensures c.every_passed.ensures c.every_kept.ensures c.every_prefix.ensures c.every_sealed.ensures c.args.master.now c.write_on.result (g.D.Disk.story c.args.disk.now) (g.D.Disk.story c.write_on.new.disk)
    (record { done = is.done; frame = is.frame; any_moment = is.any_moment }) done

pub returns-clause-any_moment : goal.returns-clause-any_moment
returns-clause-any_moment g c =
    let is = c.write_on.ensures in
    either c.every_version.ensures c.every_cut.ensures c.every_passed.ensures c.every_kept.ensures c.every_prefix.ensures c.every_sealed.ensures c.args.master.now c.write_on.result (g.D.Disk.story c.args.disk.now) (g.D.Disk.story c.write_on.new.disk)
    (record { done = is.done; frame = is.frame; any_moment = is.any_moment })

pub returns-clause-within : goal.returns-clause-within
returns-clause-within g c =
    let is = c.write_on.ensures in
    within c.args.master.now (g.D.Disk.story c.args.disk.now) (g.D.Disk.story c.write_on.new.disk) is.any_moment

pub returns-clause-same_notes : goal.returns-clause-same_notes
returns-clause-same_notes g c = c.write_on.ensures.frame.notes
