use Rattle.std.proofs.Common.{sym, subst}
use Rattle.lean_disk.specs.Calls.{Synced}
use Rattle.page_calls.specs.Mirrors.{KeepsMirrors}
use Rattle.page_calls.proofs.Saving.{settles_moments, settles_on}
use Rattle.page_calls.proofs.Mirroring.{settled_mirrors, unsettled_mirrors}
use Rattle.page_calls.proofs.calls.settle.Goals as goal

pub returns-in_default-clause-any_moment : goal.returns-in_default-clause-any_moment
returns-in_default-clause-any_moment g c =
    settles_moments c.every_kept.ensures c.every_prefix.ensures c.every_sealed.ensures c.every_version.ensures c.args.slots.now (g.P.Part.story c.args.dev.now) (g.P.Part.story c.sync.new.self) (g.met.P.Part.lawful c.args.dev.now) c.sync.result
    (subst (λ a. Synced a c.sync.result (g.P.Part.story c.args.dev.now) (g.P.Part.story c.sync.new.self)) c.requires.seat c.sync.ensures.synced)

pub returns-clause-any_moment : goal.returns-clause-any_moment
returns-clause-any_moment g c =
    settles_moments c.every_kept.ensures c.every_prefix.ensures c.every_sealed.ensures c.every_version.ensures c.args.slots.now (g.P.Part.story c.args.dev.now) (g.P.Part.story c.sync.new.self) (g.met.P.Part.lawful c.args.dev.now) c.sync.result
    (subst (λ a. Synced a c.sync.result (g.P.Part.story c.args.dev.now) (g.P.Part.story c.sync.new.self)) c.requires.seat c.sync.ensures.synced)

pub returns-clause-stands : goal.returns-clause-stands
returns-clause-stands g c = λ _. subst (λ n. Rattle.page_calls.specs.Calls.SettlesOn c.args.slots.now n (g.P.Part.story c.args.dev.now) (g.P.Part.story c.sync.new.self)) (sym c.settle.ensures)
    (settles_on c.every_kept.ensures c.every_prefix.ensures c.every_sealed.ensures c.every_version.ensures c.args.slots.now (g.P.Part.story c.args.dev.now) (g.P.Part.story c.sync.new.self) (g.met.P.Part.lawful c.args.dev.now) c.sync.result
    (subst (λ a. Synced a c.sync.result (g.P.Part.story c.args.dev.now) (g.P.Part.story c.sync.new.self)) c.requires.seat c.sync.ensures.synced) c.in-Done.is)

pub returns-in_default-clause-mirrors : goal.returns-in_default-clause-mirrors
returns-in_default-clause-mirrors g c =
    unsettled_mirrors c.args.slots.now (g.P.Part.story c.args.dev.now) (g.P.Part.story c.sync.new.self) c.sync.result
    (subst (λ a. Synced a c.sync.result (g.P.Part.story c.args.dev.now) (g.P.Part.story c.sync.new.self)) c.requires.seat c.sync.ensures.synced)

pub returns-clause-mirrors : goal.returns-clause-mirrors
returns-clause-mirrors g c = subst (λ n. KeepsMirrors c.args.slots.now n (g.P.Part.story c.args.dev.now) (g.P.Part.story c.sync.new.self)) (sym c.settle.ensures)
    (settled_mirrors c.args.slots.now (g.P.Part.story c.args.dev.now) (g.P.Part.story c.sync.new.self) c.sync.result
    (subst (λ a. Synced a c.sync.result (g.P.Part.story c.args.dev.now) (g.P.Part.story c.sync.new.self)) c.requires.seat c.sync.ensures.synced))
