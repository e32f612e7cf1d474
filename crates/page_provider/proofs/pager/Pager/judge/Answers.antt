use Rattle.std.proofs.Common.{◌∙◌, ◌<◌, sym, ap, subst}
use Rattle.page_provider.specs.Providers.{Provider}
use Rattle.page_provider.proofs.Judging.{entry_fits, is_judge, judged_above, judged_held, judged_yes}
use Rattle.page_provider.proofs.Keeping.{keeps_ran}
use Rattle.page_provider.proofs.Asks.{sized_of}
use Rattle.page_provider.proofs.pager.Pager.judge.Goals as goal

pub number-requires-clause-frame : goal.number-requires-clause-frame
number-requires-clause-frame g c = subst (λ n. c.args.entry.frame < n) (sym (c.frames.ensures ∙ ap (λ (p : Provider). p.frames) c.self.view_is)) (entry_fits c.laws.ensures.rows c.requires.keeps c.requires.there)

pub returns-then-branch-flushed-clause-ok : goal.returns-then-branch-flushed-clause-ok
returns-then-branch-flushed-clause-ok g c = judged_above c.laws.ensures.rows c.requires.keeps c.requires.held c.requires.flushed c.requires.there c.in_ok-number.ensures.ok c.in_ok-number.ensures.fits.2 c.if-branch-flushed.true

pub ripe-requires-clause-judge : goal.ripe-requires-clause-judge
ripe-requires-clause-judge g c = let laws = c.laws.ensures.rows in is_judge c.in_ok-number.ensures.fits.1 (keeps_ran laws.stood laws.standing tt c.in_ok-number.ensures.ok.ran c.requires.keeps)

pub returns-in-Yes-clause-ok : goal.returns-in-Yes-clause-ok
returns-in-Yes-clause-ok g c =
    judged_yes c.laws.ensures.rows c.requires.keeps c.requires.held c.requires.flushed c.requires.there c.in_ok-number.ensures.ok c.in_ok-number.ensures.fits.2 c.in_ok-number.ensures.fits.1
    (ap (λ (p : Provider). p.workers) c.self.view_is) c.if-branch-flushed.false c.in-Yes.ensures.after

pub returns-in-Held-clause-ok : goal.returns-in-Held-clause-ok
returns-in-Held-clause-ok g c =
    judged_held c.laws.ensures.rows c.requires.keeps c.requires.held c.requires.flushed c.requires.there c.in_ok-number.ensures.ok c.in_ok-number.ensures.fits.2 c.in_ok-number.ensures.fits.1 c.in-Held.ensures.after

pub number-requires-clause-sized : goal.number-requires-clause-sized
number-requires-clause-sized g c = sized_of c.requires.keeps (c.frames.ensures ∙ ap (λ (p : Provider). p.frames) c.self.view_is)
