use Rattle.std.proofs.Common.{◌+◌, refl, sym, ◌∙◌}
use Rattle.lean_disk.proofs.MomentLemmas.{framed}
use Rattle.log_calls.proofs.WholeLemmas.{still, still_notes, still_within, whole_none, whole_some}
use Rattle.log_calls.proofs.wholes.flush_whole.Goals as goal

pub returns-then-last-flushed-clause-stands : goal.returns-then-last-flushed-clause-stands
returns-then-last-flushed-clause-stands g c = λ s0 g' es x it ends.
    whole_none c.args.number c.args.log.now c.args.log.now (g.D.Disk.story c.args.disk.now) (g.D.Disk.story c.args.disk.now) s0 g' es x it (sym c.last.ensures.answer ∙ (c.if-last-flushed.true ∙ c.flushed.ensures)) refl refl

pub returns-then-last-flushed-clause-any_moment : goal.returns-then-last-flushed-clause-any_moment
returns-then-last-flushed-clause-any_moment g c =
    let law = ((g.met.D.Disk g.world.𝓛 g.world.𝓜 g.world.𝓡 ((λ s x. x), (λ x. x), (λ x. x), (λ x. x))).lawful c.args.disk.now) in
    still c.every_kept.ensures c.every_prefix.ensures c.every_sealed.ensures c.args.number c.args.log.now (g.D.Disk.story c.args.disk.now) law

pub returns-then-last-flushed-clause-told : goal.returns-then-last-flushed-clause-told
returns-then-last-flushed-clause-told g c =
    let law = ((g.met.D.Disk g.world.𝓛 g.world.𝓜 g.world.𝓡 ((λ s x. x), (λ x. x), (λ x. x), (λ x. x))).lawful c.args.disk.now) in
    still_notes c.args.number c.args.log.now (g.D.Disk.story c.args.disk.now) law

pub returns-then-last-flushed-clause-within : goal.returns-then-last-flushed-clause-within
returns-then-last-flushed-clause-within g c =
    let law = ((g.met.D.Disk g.world.𝓛 g.world.𝓜 g.world.𝓡 ((λ s x. x), (λ x. x), (λ x. x), (λ x. x))).lawful c.args.disk.now) in
    still_within c.args.number c.args.log.now (g.D.Disk.story c.args.disk.now) law

pub returns-then-last-flushed-clause-frame : goal.returns-then-last-flushed-clause-frame
returns-then-last-flushed-clause-frame g c = framed (c.args.number + 1) (g.D.Disk.story c.args.disk.now)

pub returns-clause-stands : goal.returns-clause-stands
returns-clause-stands g c = λ s0 g' es x it ends.
    whole_some c.args.number c.args.log.now c.flush.new.log (g.D.Disk.story c.args.disk.now) (g.D.Disk.story c.flush.new.disk) s0 g' es x it
    (λ e. c.if-last-flushed.false (c.last.ensures.answer ∙ (e ∙ sym c.flushed.ensures))) ends c.in_ok-flush.ensures.after c.in_ok-flush.ensures.stands

pub returns-then-last-flushed-clause-after : goal.returns-then-last-flushed-clause-after
returns-then-last-flushed-clause-after g c = λ differs. absurd (differs (sym c.last.ensures.answer ∙ (c.if-last-flushed.true ∙ c.flushed.ensures)))

pub returns-clause-after : goal.returns-clause-after
returns-clause-after g c = λ differs. c.in_ok-flush.ensures.after
