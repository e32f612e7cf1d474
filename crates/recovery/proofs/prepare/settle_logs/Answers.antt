use Rattle.std.proofs.Common.{◌+◌, refl, ◌∙◌, arith}
use Rattle.lean_disk.proofs.FaultLemmas.{done_still}
use Rattle.recovery.proofs.SettleLemmas.{settled_more, settles_synced, settles_then, settles_unmoved}
use Rattle.recovery.proofs.prepare.settle_logs.Goals as goal

pub loop-log-init : goal.loop-log-init
loop-log-init g c =
    let s0 = g.D.Disk.story c.args.disk.now in
    record {
      settles = settles_unmoved c.args.logs s0 ((g.met.D.Disk g.world.𝓛 g.world.𝓜 g.world.𝓡 ((λ s x. x), (λ x. x), (λ x. x), (λ x. x))).lawful c.args.disk.now);
      same = λ a l. refl;
      each = λ w a b told. absurd (omega arith);
      faults = refl;
    }

pub loop-log-preserved : goal.loop-log-preserved
loop-log-preserved g c =
    let s0 = g.D.Disk.story c.args.disk.now in
    let s = g.D.Disk.story c.loop-log.disk in
    let s1 = g.D.Disk.story c.sync.new.self in
    let inv = c.loop-log.invariant in
    let log = c.loop-log.log in
    let law = ((g.met.D.Disk g.world.𝓛 g.world.𝓜 g.world.𝓡 ((λ s x. x), (λ x. x), (λ x. x), (λ x. x))).lawful c.loop-log.disk) in
    let did = c.sync.ensures.synced in
    record {
      settles = settles_then c.args.logs s0 s s1 inv.settles (settles_synced c.args.logs (2 + log) (omega arith) c.sync.result s s1 law did);
      same = λ a l. did.elsewhere a (λ e. absurd (omega arith)) ∙ inv.same a l;
      each = settled_more log c.sync.result s0 s s1 inv.each inv.settles.tells law did c.in-Done.is;
      faults = done_still (g.D.Disk.faults c.args.disk.now) (g.D.Disk.faults c.loop-log.disk) (g.D.Disk.faults c.sync.new.self) c.sync.result inv.faults c.sync.ensures.cause c.in-Done.is;
    }
