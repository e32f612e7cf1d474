use Rattle.std.proofs.Common.{◌∙◌, sym, ap, subst}
use Rattle.std.specs.Prelude.{IfOk}
use Rattle.std.proofs.lemmas.Result.{IfErr-weaker}
use Rattle.btree_descent.proofs.rows_trait.Runs.{ran_none}
use Rattle.page_provider.specs.Faults.{ColdCause, Faulted, IsAstray}
use Rattle.page_provider.specs.Providers.{Provider}
use Rattle.page_provider.specs.Refusals.{IsOfRow}
use Rattle.page_provider.proofs.Faulting.{broken_refused, found_at, free_cold, free_parents, quiet_disk}
use Rattle.page_provider.proofs.Losses.{cold_row}
use Rattle.page_provider.proofs.Writing.{disked_misses}
use Rattle.page_provider.proofs.Mirrored.{mirrored_unseen}
use Rattle.lean_disk.proofs.MomentLemmas.{framed}
use Rattle.page_provider.proofs.Framing.{within_none}
use Rattle.page_provider.proofs.Unwritten.{reads_untouched}
use Rattle.page_provider.proofs.pager.Pager.fault.Goals as goal

pub returns-then-self-clause-err : goal.returns-then-self-clause-err
returns-then-self-clause-err g c = broken_refused c.args.path.now c.requires.keeps c.requires.held (ap (λ (p : Provider). p.broken) (sym c.self.view_is) ∙ c.if-self.true)

pub returns-then-self-clause-disk : goal.returns-then-self-clause-disk
returns-then-self-clause-disk g c = disked_misses c.laws.ensures.disk (g.met.P.Part.lawful c.args.dev.now) (ran_none (g.R.Rows.shape c.args.rows.now).alone (g.R.Rows.view c.args.seat.now)) tt

pub rescue-requires-clause-there : goal.rescue-requires-clause-there
rescue-requires-clause-there g c = (found_at c.args.page c.self.view_is c.in-Some.ensures).1

pub returns-in-Some-clause-ok : goal.returns-in-Some-clause-ok
returns-in-Some-clause-ok g c =
    let z = g.R.Rows.shape c.args.rows.now in
    let v = g.R.Rows.view c.args.seat.now in
    let w = g.R.Rows.view c.rescue.new.seat in
    subst (λ p. IfOk c.rescue.result (λ come. Faulted 5 z c.args.path.now v c.args.self.now p come w c.rescue.new.self)) (found_at c.args.page c.self.view_is c.in-Some.ensures).0 c.rescue.ensures.ok

pub returns-in-Some-clause-disk : goal.returns-in-Some-clause-disk
returns-in-Some-clause-disk g c = quiet_disk c.laws.ensures.disk (g.met.P.Part.lawful c.args.dev.now) c.rescue.ensures.unseen

pub returns-in-Some-clause-astray : goal.returns-in-Some-clause-astray
returns-in-Some-clause-astray g c = λ only well a. c.rescue.ensures.astray only (subst (λ p. IsAstray (g.R.Rows.view c.args.seat.now) p) (sym (found_at c.args.page c.self.view_is c.in-Some.ensures).0) a)

pub bring-requires-clause-cold : goal.bring-requires-clause-cold
bring-requires-clause-cold g c = free_cold c.args.page c.laws.ensures.rows c.self.view_is c.requires.keeps c.requires.below c.in_default.ensures c.if-contains.ensures

pub bring-requires-clause-parent : goal.bring-requires-clause-parent
bring-requires-clause-parent g c = λ only. free_parents c.args.page c.self.view_is c.requires.keeps c.requires.below c.if-contains.ensures

pub returns-then-self-clause-mirrors : goal.returns-then-self-clause-mirrors
returns-then-self-clause-mirrors g c = λ m well. m

pub returns-in-Some-clause-mirrors : goal.returns-in-Some-clause-mirrors
returns-in-Some-clause-mirrors g c = mirrored_unseen c.requires.keeps c.rescue.ensures.unseen

pub returns-then-self-clause-frame : goal.returns-then-self-clause-frame
returns-then-self-clause-frame g c = framed 1 (g.P.Part.story c.args.dev.now)

pub returns-in-Some-clause-frame : goal.returns-in-Some-clause-frame
returns-in-Some-clause-frame g c = framed 1 (g.P.Part.story c.args.dev.now)

pub returns-then-self-clause-within : goal.returns-then-self-clause-within
returns-then-self-clause-within g c = within_none (g.met.P.Part.lawful c.args.dev.now)

pub returns-in-Some-clause-within : goal.returns-in-Some-clause-within
returns-in-Some-clause-within g c = within_none (g.met.P.Part.lawful c.args.dev.now)

pub returns-then-self-clause-reads : goal.returns-then-self-clause-reads
returns-then-self-clause-reads g c = reads_untouched (g.met.P.Part.lawful c.args.dev.now) (ran_none (g.R.Rows.shape c.args.rows.now).alone (g.R.Rows.view c.args.seat.now))

pub returns-in-Some-clause-reads : goal.returns-in-Some-clause-reads
returns-in-Some-clause-reads g c = reads_untouched (g.met.P.Part.lawful c.args.dev.now) c.rescue.ensures.unseen.ran

pub returns-in-Some-clause-cold : goal.returns-in-Some-clause-cold
returns-in-Some-clause-cold g c =
    let v = g.R.Rows.view c.args.seat.now in
    IfErr-weaker c.rescue.result IsOfRow (ColdCause v c.args.page) (λ why k. cold_row v c.args.page why k) c.rescue.ensures.kind
