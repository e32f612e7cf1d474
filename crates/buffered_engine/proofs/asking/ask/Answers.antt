use Rattle.std.proofs.Common.{◌≡◌, ℕ, List, sym, ap, ◌∙◌, subst, true≢false}
use Rattle.paged_scans.specs.core_calls.Fronts.{Done}
use Rattle.paged_scans.specs.core_state.Openings.{Opening}
use Rattle.paged_scans.specs.engine_trait.Calls.{IsAsked}
use Rattle.map_model.specs.declared.call.Call.{Call}
use Rattle.map_model.specs.declared.call.Call.TheVariants as calls
use Rattle.paged_scans.specs.paged_desks.Calls.{OnLine}
use Rattle.paged_ends.specs.Ends.{OnBegin}
use Rattle.paged_scans.specs.Calls.{IsIn, StandsAt}
use Rattle.paged_scans.specs.declared.scans.Scan.{Scan}
use Rattle.buffered_engine.specs.Calls.{MayBe}
use Rattle.buffered_engine.specs.Inside.Asks.{OnAsked}
use Rattle.buffered_engine.specs.Inside.Parts.{MachineWent}
use Rattle.buffered_engine.specs.Inside.Scans.{scan_behind, scan_of}
use Rattle.buffered_engine.proofs.AskingLemmas.{may_more, once_sync}
use Rattle.buffered_engine.proofs.ScanLemmas.{new_in, scan_kept, stands_new}
use Rattle.buffered_engine.proofs.TurnLemmas.{asker, on_line, went_turned}
use Rattle.buffered_engine.proofs.WentLemmas.{went_more}
use Rattle.buffered_engine.proofs.asking.ask.Goals as goal

pub returns-in-Sync-clause-went : goal.returns-in-Sync-clause-went
returns-in-Sync-clause-went g c =
    let o = c.args.machine.now in
    let n = c.sync.new.machine in
    let story = g.D.Disk.story in
    let faults = g.D.Disk.faults in
    let i = subst (λ (q : Call). IsAsked o.machine.work.session.workers c.args.session q) c.in-Sync.is c.requires.asked in
    subst (λ (q : Call). MachineWent story faults (OnAsked c.args.session q c.args.is_long) o.machine.work.session.workers c.args.session q c.sync.result o n) (sym c.in-Sync.is)
    (subst (λ (k : ℕ). MachineWent story faults (OnAsked k calls.Sync c.args.is_long) o.machine.work.session.workers k calls.Sync c.sync.result o n) (sym i) (went_more story faults OnLine 0 calls.Sync c.sync.result o n o.machine.work.session.workers c.sync.ensures))

pub returns-in-Sync-clause-turn : goal.returns-in-Sync-clause-turn
returns-in-Sync-clause-turn g c works more = absurd (true≢false (sym (once_sync c.sync.result.answer c.sync.ensures.to c.sync.ensures.may) ∙ more))

pub returns-in-Sync-clause-scan : goal.returns-in-Sync-clause-scan
returns-in-Sync-clause-scan g c = (subst (λ (q : Call). c.args.scan.now ≡ scan_behind c.sync.result.answer (scan_of q c.args.scan.now)) (sym c.in-Sync.is) (scan_kept calls.Sync c.sync.result.answer c.args.scan.now c.sync.ensures.to (λ from to q. absurd (cc))), c.requires.within)

pub returns-in-Begin-clause-went : goal.returns-in-Begin-clause-went
returns-in-Begin-clause-went g c =
    let o = c.args.machine.now in
    let t = c.turn_to.new.machine in
    let n = c.begin.new.machine in
    let story = g.D.Disk.story in
    let faults = g.D.Disk.faults in
    let i = subst (λ (q : Call). IsAsked o.machine.work.session.workers c.args.session q) c.in-Begin.is c.requires.asked in
    subst (λ (q : Call). MachineWent story faults (OnAsked c.args.session q c.args.is_long) o.machine.work.session.workers c.args.session q c.begin.result o n) (sym c.in-Begin.is)
    (went_turned story c.args.session o t c.turn_to.ensures.turned i.0 i.1 (λ (x : Opening) (xs : List Done). OnBegin c.args.session c.args.is_long x xs) (λ (k : ℕ) (x : Opening) (xs : List Done). OnBegin k c.args.is_long x xs) (λ x xs h. h) calls.Begin
    faults 1 o.machine.work.session.workers c.begin.result n (may_more o.machine.work.session.workers c.begin.result.answer) c.begin.ensures.went)

pub returns-in-Begin-clause-scan : goal.returns-in-Begin-clause-scan
returns-in-Begin-clause-scan g c = (subst (λ (q : Call). c.args.scan.now ≡ scan_behind c.begin.result.answer (scan_of q c.args.scan.now)) (sym c.in-Begin.is) (scan_kept calls.Begin c.begin.result.answer c.args.scan.now c.begin.ensures.went.to (λ from to q. absurd (cc))), c.requires.within)

pub returns-in-Abort-clause-scan : goal.returns-in-Abort-clause-scan
returns-in-Abort-clause-scan g c = (subst (λ (q : Call). c.args.scan.now ≡ scan_behind c.abort.result.answer (scan_of q c.args.scan.now)) (sym c.in-Abort.is) (scan_kept calls.Abort c.abort.result.answer c.args.scan.now c.abort.ensures.went.to (λ from to q. absurd (cc))), c.requires.within)

pub returns-in_default-clause-scan : goal.returns-in_default-clause-scan
returns-in_default-clause-scan g c = (scan_kept c.args.call.now c.row_call.result.answer c.args.scan.now c.row_call.ensures.went.to c.in_default.not-Scan, c.requires.within)

pub returns-in-Abort-clause-went : goal.returns-in-Abort-clause-went
returns-in-Abort-clause-went g c =
    let o = c.args.machine.now in
    let t = c.turn_to-in-Abort.new.machine in
    let n = c.abort.new.machine in
    let story = g.D.Disk.story in
    let faults = g.D.Disk.faults in
    let i = subst (λ (q : Call). IsAsked o.machine.work.session.workers c.args.session q) c.in-Abort.is c.requires.asked in
    subst (λ (q : Call). MachineWent story faults (OnAsked c.args.session q c.args.is_long) o.machine.work.session.workers c.args.session q c.abort.result o n) (sym c.in-Abort.is)
    (went_turned story c.args.session o t c.turn_to-in-Abort.ensures.turned i.0 i.1 (λ (x : Opening) (xs : List Done). OnLine x xs) (λ (k : ℕ) (x : Opening) (xs : List Done). OnLine x xs) (λ x xs h. h) calls.Abort
    faults 1 o.machine.work.session.workers c.abort.result n (may_more o.machine.work.session.workers c.abort.result.answer) c.abort.ensures.went)

pub returns-in_default-clause-went : goal.returns-in_default-clause-went
returns-in_default-clause-went g c =
    let o = c.args.machine.now in
    let t = c.turn_to-in_default.new.machine in
    let n = c.row_call.new.machine in
    let i = asker o.machine.work.session.workers c.args.session c.args.call.now c.in_default.not-Sync c.requires.asked in
    went_turned g.D.Disk.story c.args.session o t c.turn_to-in_default.ensures.turned i.0 i.1 (λ (x : Opening) (xs : List Done). OnAsked c.args.session c.args.call.now c.args.is_long x xs) (λ (k : ℕ) (x : Opening) (xs : List Done). OnLine x xs)
    (λ x xs h. on_line c.args.session c.args.call.now c.args.is_long x xs h) c.args.call.now
    g.D.Disk.faults t.machine.work.session.workers o.machine.work.session.workers c.row_call.result n (λ may. subst (λ (k : ℕ). MayBe k c.row_call.result.answer) c.turn_to-in_default.ensures.turned.turned.workers may) c.row_call.ensures.went

pub returns-in-Scan-clause-went : goal.returns-in-Scan-clause-went
returns-in-Scan-clause-went g c =
    let o = c.args.machine.now in
    let t = c.turn_to-in-Scan.new.machine in
    let n = c.scan_step.new.machine in
    let story = g.D.Disk.story in
    let faults = g.D.Disk.faults in
    let many = o.machine.work.session.workers in
    let first = c.new.result in
    let i = subst (λ (q : Call). IsAsked o.machine.work.session.workers c.args.session q) c.in-Scan.is c.requires.asked in
    subst (λ (q : Call). MachineWent story faults (OnAsked c.args.session q c.args.is_long) o.machine.work.session.workers c.args.session q c.scan_step.result o n) (sym c.in-Scan.is)
    (subst (λ (y : Scan). MachineWent story faults (λ (x : Opening) (xs : List Done). OnLine x xs) many c.args.session (calls.Scan y.from y.to) c.scan_step.result o n) c.new.ensures
    (went_turned story c.args.session o t c.turn_to-in-Scan.ensures.turned i.0 i.1 (λ (x : Opening) (xs : List Done). OnLine x xs) (λ (k : ℕ) (x : Opening) (xs : List Done). StandsAt k first x xs)
    (λ x xs line. subst (λ (y : Scan). StandsAt c.args.session y x xs) (sym c.new.ensures) (stands_new c.args.session c.in-Scan.from c.in-Scan.to x xs line)) (calls.Scan first.from first.to)
    faults t.machine.work.session.workers many c.scan_step.result n (λ may. subst (λ (k : ℕ). MayBe k c.scan_step.result.answer) c.turn_to-in-Scan.ensures.turned.turned.workers may) c.scan_step.ensures.went))

pub returns-in-Scan-clause-scan : goal.returns-in-Scan-clause-scan
returns-in-Scan-clause-scan g c =
    (subst (λ (q : Call). c.scan_step.new.scan ≡ scan_behind c.scan_step.result.answer (scan_of q c.args.scan.now)) (sym c.in-Scan.is) (c.scan_step.ensures.behind.0 ∙ ap (λ (y : Scan). scan_behind c.scan_step.result.answer y) c.new.ensures), c.scan_step.ensures.behind.1)

pub scan_step-requires-clause-within : goal.scan_step-requires-clause-within
scan_step-requires-clause-within g c κs within =
    let i = subst (λ (q : Call). IsAsked c.args.machine.now.machine.work.session.workers c.args.session q) c.in-Scan.is c.requires.asked in
    subst IsIn (sym c.new.ensures) (new_in c.in-Scan.from c.in-Scan.to i.2.0 i.2.1)
