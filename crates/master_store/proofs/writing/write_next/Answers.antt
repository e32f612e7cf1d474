use Rattle.std.proofs.Common.{◌≡◌, ◌*◌, ◌%◌, List, ℕ, IsTrue, subst, ◌∙◌, ap}
use Rattle.page_store.specs.disk_slots.Masters.{master_slot}
use Rattle.lean_disk.specs.Area.{synced}
use Rattle.lean_disk.specs.Calls.{Synced, Wrote}
use Rattle.lean_disk.specs.Story.{Seat, Tells}
use Rattle.master_store.specs.Masters.{LeavesMasters, WritesOnce}
use Rattle.master_store.proofs.AccountLemmas.{kept_more, leaves_masters}
use Rattle.master_store.proofs.WriteLemmas.{while_synced, while_written}
use Rattle.master_store.proofs.writing.write_next.Goals as goal

pub returns-clause-any_moment : goal.returns-clause-any_moment
returns-clause-any_moment g c =
    let s0 = g.P.Part.story c.args.dev.now in
    let s1 = g.P.Part.story c.write.new.self in
    let s2 = g.P.Part.story c.sync.new.self in
    let at : ℕ = 1024 * (c.args.master.now.sequence % 2) in
    let slot : List ℕ = master_slot c.args.master.now in
    let seat : (g.P.Part.seat c.write.new.self).area ≡ 0 = ap (λ (q : Seat). q.area) c.write.ensures.seat ∙ c.requires.seat in
    let did : Synced 0 c.sync.result s1 s2 = subst (λ (a : ℕ). Synced a c.sync.result s1 s2) seat c.sync.ensures.synced in
    let wrote : Wrote 0 at slot c.write.result s0 s1 =
    subst (λ (b : List ℕ). Wrote 0 at b c.write.result s0 s1) c.master_bytes.ensures (subst (λ (a : ℕ). Wrote a at c.master_bytes.new.into c.write.result s0 s1) c.requires.seat c.write.ensures.wrote) in
    while_synced at slot 0 s0 s1 (g.met.P.Part.lawful c.args.dev.now) (subst (λ (a : ℕ). IsTrue s0.counts → Tells s0 a) c.requires.seat (g.met.P.Part.seated c.args.dev.now)) c.write.result wrote
    (WritesOnce at slot (s0.area 0)) (λ told ws image once. once) s2 c.sync.result did

pub returns-clause-kept : goal.returns-clause-kept
returns-clause-kept g c = λ is x told kept next.
    let s0 = g.P.Part.story c.args.dev.now in
    let s1 = g.P.Part.story c.write.new.self in
    let s2 = g.P.Part.story c.sync.new.self in
    let at : ℕ = 1024 * (c.args.master.now.sequence % 2) in
    let slot : List ℕ = master_slot c.args.master.now in
    let seat : (g.P.Part.seat c.write.new.self).area ≡ 0 = ap (λ (q : Seat). q.area) c.write.ensures.seat ∙ c.requires.seat in
    let did : Synced 0 c.sync.result s1 s2 = subst (λ (a : ℕ). Synced a c.sync.result s1 s2) seat c.sync.ensures.synced in
    let wrote : Wrote 0 at slot c.write.result s0 s1 =
    subst (λ (b : List ℕ). Wrote 0 at b c.write.result s0 s1) c.master_bytes.ensures (subst (λ (a : ℕ). Wrote a at c.master_bytes.new.into c.write.result s0 s1) c.requires.seat c.write.ensures.wrote) in
    kept_more x c.args.master.now (s0.area 0) kept next (s2.area 0) (did.done (wrote.time.tells 0 ∙ told) is ∙ ap synced (wrote.done told c.in-Done.is))

pub returns-in_default-clause-masters_any_moment : goal.returns-in_default-clause-masters_any_moment
returns-in_default-clause-masters_any_moment g c = λ x kept next.
    let s0 = g.P.Part.story c.args.dev.now in
    let s1 = g.P.Part.story c.write.new.self in
    let at : ℕ = 1024 * (c.args.master.now.sequence % 2) in
    let slot : List ℕ = master_slot c.args.master.now in
    let wrote : Wrote 0 at slot c.write.result s0 s1 =
    subst (λ (b : List ℕ). Wrote 0 at b c.write.result s0 s1) c.master_bytes.ensures (subst (λ (a : ℕ). Wrote a at c.master_bytes.new.into c.write.result s0 s1) c.requires.seat c.write.ensures.wrote) in
    while_written at slot 0 s0 s1 (g.met.P.Part.lawful c.args.dev.now) (subst (λ (a : ℕ). IsTrue s0.counts → Tells s0 a) c.requires.seat (g.met.P.Part.seated c.args.dev.now)) c.write.result wrote
    (LeavesMasters x c.args.master.now) (λ told. leaves_masters x c.args.master.now (s0.area 0) (kept told) next)

pub returns-clause-masters_any_moment : goal.returns-clause-masters_any_moment
returns-clause-masters_any_moment g c = λ x kept next.
    let s0 = g.P.Part.story c.args.dev.now in
    let s1 = g.P.Part.story c.write.new.self in
    let s2 = g.P.Part.story c.sync.new.self in
    let at : ℕ = 1024 * (c.args.master.now.sequence % 2) in
    let slot : List ℕ = master_slot c.args.master.now in
    let seat : (g.P.Part.seat c.write.new.self).area ≡ 0 = ap (λ (q : Seat). q.area) c.write.ensures.seat ∙ c.requires.seat in
    let did : Synced 0 c.sync.result s1 s2 = subst (λ (a : ℕ). Synced a c.sync.result s1 s2) seat c.sync.ensures.synced in
    let wrote : Wrote 0 at slot c.write.result s0 s1 =
    subst (λ (b : List ℕ). Wrote 0 at b c.write.result s0 s1) c.master_bytes.ensures (subst (λ (a : ℕ). Wrote a at c.master_bytes.new.into c.write.result s0 s1) c.requires.seat c.write.ensures.wrote) in
    while_synced at slot 0 s0 s1 (g.met.P.Part.lawful c.args.dev.now) (subst (λ (a : ℕ). IsTrue s0.counts → Tells s0 a) c.requires.seat (g.met.P.Part.seated c.args.dev.now)) c.write.result wrote
    (LeavesMasters x c.args.master.now) (λ told. leaves_masters x c.args.master.now (s0.area 0) (kept told) next) s2 c.sync.result did
