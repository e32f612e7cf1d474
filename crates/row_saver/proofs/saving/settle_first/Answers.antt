use Rattle.page_provider.proofs.Saves.{rest_moments, settled_early, settles_on}
use Rattle.std.proofs.Common.{◌≡◌, Some, refl, slice_get, subst}
use Rattle.lean_disk.proofs.MomentLemmas.{framed}
use Rattle.page_provider.proofs.Framing.{within_none}
use Rattle.page_provider.proofs.Parts.{cause_none}
use Rattle.lean_disk.proofs.FaultLemmas.{done_only}
use Rattle.row_saver.proofs.saving.settle_first.Goals as goal

pub returns-then-not-of-clause-any_moment : goal.returns-then-not-of-clause-any_moment
returns-then-not-of-clause-any_moment g c = rest_moments c.every_kept.ensures c.every_prefix.ensures c.every_sealed.ensures c.args.slots.now (g.P.Part.story c.args.dev.now) (g.met.P.Part.lawful c.args.dev.now)

pub returns-clause-stands : goal.returns-clause-stands
returns-clause-stands g c = λ done. settles_on (c.settle.ensures.stands done)

pub returns-clause-early : goal.returns-clause-early
returns-clause-early g c = λ done s there. settled_early c.args.page c.args.slots.now s (subst (λ ss. slice_get ss c.args.page ≡ Some s) (c.settle.ensures.after done) there)

pub returns-then-not-of-clause-frame : goal.returns-then-not-of-clause-frame
returns-then-not-of-clause-frame g c = framed 1 (g.P.Part.story c.args.dev.now)

pub returns-then-not-of-clause-within : goal.returns-then-not-of-clause-within
returns-then-not-of-clause-within g c = within_none (g.met.P.Part.lawful c.args.dev.now)

pub returns-then-not-of-clause-cause : goal.returns-then-not-of-clause-cause
returns-then-not-of-clause-cause g c = cause_none (done_only _ refl)
