use Rattle.std.proofs.Common.{◌≡◌, ◌^◌, ◌<◌, ◌≤◌, ◌+◌, ℕ, suc, Bool, List, length, refl, ap, subst, ◌∙◌, arith}
use Rattle.std.proofs.lemmas.List.{length-replicate}
use Rattle.lean_disk.specs.Story.{Tells}
use Rattle.master_store.specs.disk_slots.declared.master.Master.{Master}
use Rattle.recovery.specs.Inside.{IsTurned}
use Rattle.recovery.specs.Masters.{next_master}
use Rattle.recovery.proofs.ClauseLemmas.{answers, installs, opens, saved_moments, wholes, written_moments}
use Rattle.recovery.proofs.SlotLemmas.{has_slots}
use Rattle.recovery.proofs.opening.recover.Goals as goal

pub returns-in_default-clause-any_moment : goal.returns-in_default-clause-any_moment
returns-in_default-clause-any_moment g c m t clean =
    let story = g.D.Disk.story in
    let e = c.in-Ok.ensures in
    saved_moments c.in-Ok.it e.readied e.openable (story c.args.disk.now) (story c.prepare.new.disk) c.args.most e.settles t e.settled (e.prepared t) m
    (((g.met.D.Disk g.world.𝓛 g.world.𝓜 g.world.𝓡 ((λ s x. x), (λ x. x), (λ x. x), (λ x. x))).whole c.prepare.new.disk) 1) clean
    (story c.save_changed.new.disk) c.save_changed.result c.save_changed.ensures.saves

pub returns-in_default-write_next-clause-any_moment : goal.returns-in_default-write_next-clause-any_moment
returns-in_default-write_next-clause-any_moment g c m t clean =
    let story = g.D.Disk.story in
    let e = c.in-Ok.ensures in
    let next = c.next_master-master in
    let wide : c.in-Ok.it.base < 2 ^ 64 = subst (λ (k : Master). k.floor < 2 ^ 64) next.ensures.answer next.ensures.wide in
    written_moments c.in-Ok.it e.readied e.openable (story c.args.disk.now) (story c.prepare.new.disk) c.args.most e.settles t e.settled (e.prepared t) m
    (((g.met.D.Disk g.world.𝓛 g.world.𝓜 g.world.𝓡 ((λ s x. x), (λ x. x), (λ x. x), (λ x. x))).whole c.prepare.new.disk) 1) clean
    (story c.save_changed.new.disk) c.save_changed.result c.save_changed.ensures.saves c.in-Done.is wide next.result next.ensures.answer (story c.write_next.new.disk) c.write_next.ensures.any_moment

pub returns-clause-any_moment : goal.returns-clause-any_moment
returns-clause-any_moment g c m t clean =
    let story = g.D.Disk.story in
    let e = c.in-Ok.ensures in
    let next = c.next_master-master in
    let wide : c.in-Ok.it.base < 2 ^ 64 = subst (λ (k : Master). k.floor < 2 ^ 64) next.ensures.answer next.ensures.wide in
    written_moments c.in-Ok.it e.readied e.openable (story c.args.disk.now) (story c.prepare.new.disk) c.args.most e.settles t e.settled (e.prepared t) m
    (((g.met.D.Disk g.world.𝓛 g.world.𝓜 g.world.𝓡 ((λ s x. x), (λ x. x), (λ x. x), (λ x. x))).whole c.prepare.new.disk) 1) clean
    (story c.save_changed.new.disk) c.save_changed.result c.save_changed.ensures.saves c.in-Done.is wide next.result next.ensures.answer (story c.write_next.new.disk) c.write_next.ensures.any_moment

-- the marks are those of the pages
turned_by : (changed marks ahead others : List Bool) (old new : List ℕ) → marks ≡ changed → others ≡ ahead → IsTurned marks others old new → IsTurned changed ahead old new
turned_by changed marks ahead others old new one two is = subst (λ bs. IsTurned changed bs old new) two (subst (λ bs. IsTurned bs others old new) one is)

pub returns-clause-opened : goal.returns-clause-opened
returns-clause-opened g c t m clean =
    let story = g.D.Disk.story in
    let s0 = story c.args.disk.now in
    let s4 = story c.prepare.new.disk in
    let s6 = story c.save_changed.new.disk in
    let e = c.in-Ok.ensures in
    let next = c.next_master-master in
    let wide : c.in-Ok.it.base < 2 ^ 64 = subst (λ (k : Master). k.floor < 2 ^ 64) next.ensures.answer next.ensures.wide in
    let told : Tells s6 0 = c.save_changed.ensures.frame.tells 0 ∙ (e.settles.tells 0 ∙ t.master) in
    opens c.in-Ok.it e.readied e.openable s0 s4 c.args.most e.settles t e.settled (e.prepared t) m
    (((g.met.D.Disk g.world.𝓛 g.world.𝓜 g.world.𝓡 ((λ s x. x), (λ x. x), (λ x. x), (λ x. x))).whole c.prepare.new.disk) 1) clean
    s6 c.save_changed.result c.save_changed.ensures.saves c.in-Done.is wide next.result next.ensures.answer (story c.write_next.new.disk) c.write_next.ensures.frame (c.write_next.ensures.done (c.in-Done-write_next).is told) _ refl refl e.marks (turned_by c.in-Ok.it.marks.items c.deref.result.now c.in-Ok.it.ahead.items c.deref-2.result.now c.in-Ok.it.slots.items c.turn-slots.result.items c.deref.ensures.value c.deref-2.ensures.value c.turn-slots.ensures)

pub returns-clause-slots : goal.returns-clause-slots
returns-clause-slots g c told =
    let story = g.D.Disk.story in
    let e = c.in-Ok.ensures in
    has_slots c.in-Ok.it e.readied (story c.args.disk.now) (story c.prepare.new.disk) c.args.most e.settles told (e.pages told) (e.based told)
    (((g.met.D.Disk g.world.𝓛 g.world.𝓜 g.world.𝓡 ((λ s x. x), (λ x. x), (λ x. x), (λ x. x))).whole c.prepare.new.disk) 1)
    (story c.save_changed.new.disk) c.save_changed.result c.save_changed.ensures.saves c.in-Done.is (story c.write_next.new.disk) c.write_next.ensures.frame _ refl c.next_master-master.ensures.answer
    e.marks (turned_by c.in-Ok.it.marks.items c.deref.result.now c.in-Ok.it.ahead.items c.deref-2.result.now c.in-Ok.it.slots.items c.turn-slots.result.items c.deref.ensures.value c.deref-2.ensures.value c.turn-slots.ensures)

pub returns-clause-installed : goal.returns-clause-installed
returns-clause-installed g c t m counts =
    let story = g.D.Disk.story in
    let s0 = story c.args.disk.now in
    let s6 = story c.save_changed.new.disk in
    let e = c.in-Ok.ensures in
    let told : Tells s6 0 = c.save_changed.ensures.frame.tells 0 ∙ (e.settles.tells 0 ∙ t.master) in
    installs c.in-Ok.it e.readied e.openable s0 (story c.prepare.new.disk) c.args.most e.settles t e.settled (e.prepared t) m
    (((g.met.D.Disk g.world.𝓛 g.world.𝓜 g.world.𝓡 ((λ s x. x), (λ x. x), (λ x. x), (λ x. x))).whole c.prepare.new.disk) 1)
    counts s6 c.save_changed.result c.save_changed.ensures.saves c.in-Done.is (story c.write_next.new.disk) c.write_next.ensures.frame _ (c.write_next.ensures.done (c.in-Done-write_next).is told)

pub returns-clause-answer : goal.returns-clause-answer
returns-clause-answer g c t =
    let story = g.D.Disk.story in
    let e = c.in-Ok.ensures in
    answers c.in-Ok.it e.readied e.openable _ refl refl refl c.next_master-master.ensures.answer (story c.args.disk.now) (e.prepared t)

pub returns-clause-whole : goal.returns-clause-whole
returns-clause-whole g c =
    let next = c.next_master-master in
    let wide : c.in-Ok.it.base < 2 ^ 64 = subst (λ (k : Master). k.floor < 2 ^ 64) next.ensures.answer next.ensures.wide in
    wholes c.in-Ok.it c.in-Ok.ensures.readied c.in-Ok.ensures.openable _ refl refl refl next.ensures.answer wide (turned_by c.in-Ok.it.marks.items c.deref.result.now c.in-Ok.it.ahead.items c.deref-2.result.now c.in-Ok.it.slots.items c.turn-slots.result.items c.deref.ensures.value c.deref-2.ensures.value c.turn-slots.ensures)

-- the next master has as many logs
as_many : (m : Master) (base : ℕ) (next : Master) → next ≡ next_master m base → length next.heads ≡ length m.heads
as_many m base next is = ap (λ (k : Master). length k.heads) is ∙ length-replicate (length m.heads) 0

pub returns-clause-few : goal.returns-clause-few
returns-clause-few g c =
    let m = c.in-Ok.it.master in
    let openable = c.in-Ok.ensures.openable in
    let same : length (c.next_master-master.result).heads ≡ length m.heads = as_many m c.in-Ok.it.base c.next_master-master.result c.next_master-master.ensures.answer in
    let few : length m.heads ≤ c.args.most = openable.few in
    omega arith

pub returns-clause-sequence : goal.returns-clause-sequence
returns-clause-sequence g c =
    let m = c.in-Ok.it.master in
    let low : m.sequence + 1 < 2 ^ 61 = c.in-Ok.ensures.openable.sequence in
    let next : (c.next_master-master.result).sequence ≡ suc m.sequence = ap (λ (k : Master). k.sequence) c.next_master-master.ensures.answer in
    omega arith

pub returns-clause-beyond : goal.returns-clause-beyond
returns-clause-beyond g c a high =
    let m = c.in-Ok.it.master in
    let same : length (c.next_master-master.result).heads ≡ length m.heads = as_many m c.in-Ok.it.base c.next_master-master.result c.next_master-master.ensures.answer in
    c.write_next.ensures.frame.elsewhere a (λ e. absurd (omega arith)) ∙ c.save_changed.ensures.frame.elsewhere a (λ e. absurd (omega arith)) ∙ c.in-Ok.ensures.own.others a (omega arith)
