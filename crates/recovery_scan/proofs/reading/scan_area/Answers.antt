use Rattle.std.proofs.Common.{◌≡◌, ℕ, suc, Err, subst}
use Rattle.lean_disk.specs.Story.{Tells, areas_of}
use Rattle.recovery_scan.specs.declared.reading.Unread.TheVariants.{Damaged}
use Rattle.recovery_scan.specs.Scans.{IsBadLog}
use Rattle.recovery_scan.proofs.reading.scan_area.Goals as goal

pub returns-clause-cause_damaged : goal.returns-clause-cause_damaged
returns-clause-cause_damaged g c =
    let story = g.D.Disk.story in
    subst (λ d. (w place : ℕ) → c.scan_log.result ≡ Err (Damaged w place) → (w ≡ c.args.log) × (Tells (story d) (suc w) → IsBadLog c.args.master.now w (areas_of (story d)) place)) c.new.ensures.disk c.scan_log.ensures.cause_damaged
