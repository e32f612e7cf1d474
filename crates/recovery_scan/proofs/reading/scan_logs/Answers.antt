use Rattle.std.proofs.Common.{Err, length, ◌∙◌, ap}
use Rattle.std.specs.declared.result.Result.{Result}
use Rattle.lean_disk.specs.Story.{areas_of}
use Rattle.recovery_scan.specs.declared.reading.Unread.{Unread}
use Rattle.recovery_scan.proofs.LogLemmas.{scanned, of_logs_sorted}
use Rattle.recovery_scan.proofs.reading.scan_logs.Goals as goal

-- the error of an answer
abbrev error_or : {A : Type 0} → Unread → Result A Unread → Unread
error_or d (Err e) = e
error_or d _ = d

pub returns-in-Err-clause-cause_damaged : goal.returns-in-Err-clause-cause_damaged
returns-in-Err-clause-cause_damaged g c log place same = c.gather_logs.ensures.cause_damaged log place (c.in-Err.is ∙ ap Err (ap (error_or c.in-Err.unread) same))

pub returns-in-Ok-sort-clause-found : goal.returns-in-Ok-sort-clause-found
returns-in-Ok-sort-clause-found g c told =
    scanned c.gather_logs.new.index c.sort.new.self c.in-Ok-sort.ensures.after c.args.master.now (areas_of (g.D.Disk.story c.args.disk.now)) (c.in-Ok.ensures.found told)

pub returns-in-Ok-sort-clause-logs : goal.returns-in-Ok-sort-clause-logs
returns-in-Ok-sort-clause-logs g c =
    of_logs_sorted c.gather_logs.new.index c.sort.new.self c.in-Ok-sort.ensures.after (length c.args.master.now.heads) c.in-Ok.ensures.logs
