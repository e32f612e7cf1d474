use Rattle.std.proofs.Common.{◌≡◌, None, ℕ, refl}
use Rattle.map_model.specs.declared.call.Call.{Call}
use Rattle.map_model.specs.declared.call.Call.TheVariants as call
use Rattle.paged_scans.specs.paged_calls.Calls.{del_answer, get_answer, put_answer}
use Rattle.paged_scans.specs.paged_desks.Calls.{OnLine}
use Rattle.paged_scans.specs.paged_desks.Machines.{view_of}
use Rattle.paged_ends.specs.Ends.{commit_answer}
use Rattle.buffered_engine.specs.Inside.Asks.{IsRowCall, receipt_in}
use Rattle.buffered_engine.specs.Inside.Parts.{MachineWent}
use Rattle.buffered_engine.proofs.WentLemmas.{call_went, commit_ends, commits, dels, dels_none, gets, gets_none, puts, puts_none, told_as, went_more}
use Rattle.buffered_engine.proofs.machine.row_call.Goals as goal

pub returns-in-Get-clause-went : goal.returns-in-Get-clause-went
returns-in-Get-clause-went g c =
    let m = c.args.machine.now in
    let n = c.get.new.machine in
    let own = m.machine.work.session.own in
    let many = m.machine.work.session.workers in
    let r = c.get.result in
    let e = c.get.ensures in
    let story = g.D.Disk.story in
    let faults = g.D.Disk.faults in
    told_as (λ q t. MachineWent story faults OnLine many own q t m n) c.args.call.now (call.Get c.in-Get.key) c.value.result (record { answer = get_answer r; receipt = None }) c.in-Get.is c.value.ensures
    (call_went story faults OnLine many own (call.Get c.in-Get.key) get_answer (gets many c.in-Get.key) None m n r c.requires.ready (e.does c.requires.ready.works) (gets_none own (view_of m) (view_of n) r) e.ready e.fits e.session e.works e.come e.cause_broken e.cause_disk_fault)

pub returns-in-Put-clause-went : goal.returns-in-Put-clause-went
returns-in-Put-clause-went g c =
    let m = c.args.machine.now in
    let n = c.put.new.machine in
    let own = m.machine.work.session.own in
    let many = m.machine.work.session.workers in
    let r = c.put.result in
    let e = c.put.ensures in
    let story = g.D.Disk.story in
    let faults = g.D.Disk.faults in
    told_as (λ q t. MachineWent story faults OnLine many own q t m n) c.args.call.now (call.Put c.in-Put.key c.in-Put.value) c.was.result (record { answer = put_answer r; receipt = None }) c.in-Put.is c.was.ensures.put
    (call_went story faults OnLine many own (call.Put c.in-Put.key c.in-Put.value) put_answer (puts many c.in-Put.key c.in-Put.value) None m n r c.requires.ready (e.does c.requires.ready.works) (puts_none own (view_of m) (view_of n) r) e.ready e.fits e.session e.works e.come e.cause_broken e.cause_disk_fault)

pub returns-in-Del-clause-went : goal.returns-in-Del-clause-went
returns-in-Del-clause-went g c =
    let m = c.args.machine.now in
    let n = c.del.new.machine in
    let own = m.machine.work.session.own in
    let many = m.machine.work.session.workers in
    let r = c.del.result in
    let e = c.del.ensures in
    let story = g.D.Disk.story in
    let faults = g.D.Disk.faults in
    told_as (λ q t. MachineWent story faults OnLine many own q t m n) c.args.call.now (call.Del c.in-Del.key) c.was-in-Del.result (record { answer = del_answer r; receipt = None }) c.in-Del.is c.was-in-Del.ensures.del
    (call_went story faults OnLine many own (call.Del c.in-Del.key) del_answer (dels many c.in-Del.key) None m n r c.requires.ready (e.does c.requires.ready.works) (dels_none own (view_of m) (view_of n) r) e.ready e.fits e.session e.works e.come e.cause_broken e.cause_disk_fault)

-- a call of the rows that is no other one is a commit
commit_is : (c : Call) → IsRowCall c → ((key : ℕ) → c ≡ call.Get key → ⊥) → ((key value : ℕ) → c ≡ call.Put key value → ⊥) → ((key : ℕ) → c ≡ call.Del key → ⊥) → c ≡ call.Commit
commit_is (call.Get key) r get put del = absurd (get key refl)
commit_is (call.Put key value) r get put del = absurd (put key value refl)
commit_is (call.Del key) r get put del = absurd (del key refl)
commit_is call.Commit r get put del = refl
commit_is _ r get put del = absurd r

pub returns-in_default-clause-went : goal.returns-in_default-clause-went
returns-in_default-clause-went g c =
    let m = c.args.machine.now in
    let n = c.commit.new.machine in
    let own = m.machine.work.session.own in
    let many = m.machine.work.session.workers in
    let r = c.commit.result in
    let e = c.commit.ensures in
    let story = g.D.Disk.story in
    let faults = g.D.Disk.faults in
    told_as (λ q t. MachineWent story faults OnLine many own q t m n) c.args.call.now call.Commit c.committed.result (record { answer = commit_answer r; receipt = receipt_in own r })
    (commit_is c.args.call.now c.requires.call c.in_default.not-Get c.in_default.not-Put c.in_default.not-Del) c.committed.ensures
    (went_more story faults OnLine own call.Commit (record { answer = commit_answer r; receipt = receipt_in own r }) m n many
    (call_went story faults OnLine 1 own call.Commit commit_answer (commits 1) (receipt_in own r) m n r c.requires.ready (e.does c.requires.ready.works) (commit_ends story m n e.ready e.turn r e.works e.receipt) e.ready e.fits e.session e.works e.come e.cause_broken e.cause_disk_fault))
