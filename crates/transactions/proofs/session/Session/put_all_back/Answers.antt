use Rattle.std.proofs.Common.{◌∙◌, ◌<◌, ℕ, ◌++◌, refl, sym, subst}
use Rattle.transactions.specs.declared.session.Session.{Session}
use Rattle.transactions.specs.Kinds.{in_any}
use Rattle.transactions.specs.Memory.{memory_of}
use Rattle.transactions.specs.Calls.{IsNoStep, IsBacksFirst, AreBacksFirst, Halves, Refused}
use Rattle.transactions.proofs.EndLemmas.{backs_none, backs_then, backs_break, halves}
use Rattle.transactions.proofs.MemoryLemmas.{length_newest}
use Rattle.transactions.proofs.session.Session.put_all_back.Goals as goal

pub loop-self-init : goal.loop-self-init
loop-self-init g c = (c.requires.rows, refl, (refl, refl, refl), λ o es s k. backs_none g.T.Place.stands g.T.Place.leaves g.T.Place.alone in_any g.T.Place.cause o (g.met.T.Place.rests o) (g.met.T.Place.joins o) es c.args.place.now (memory_of c.args.self.now) s k)

pub returns-in-Err-clause-does : goal.returns-in-Err-clause-does
returns-in-Err-clause-does g c o es s k =
    let m = memory_of c.args.self.now in
    let n = memory_of c.loop-self.self in
    let b = c.loop-self.invariant.3 o es s k in
    let r = c.in-Err.ensures.does o _ b.leads.did.goes.stands b.leads.knows in
    subst (λ (x : Session). Refused g.T.Place.stands g.T.Place.leaves g.T.Place.alone in_any g.T.Place.cause o es c.args.place.now c.put_one_back.new.place m (memory_of x) (Halves m (memory_of x)) (AreBacksFirst m) c.in-Err.hindrance) (sym c.in-Err.ensures.kept)
    (halves g.T.Place.stands g.T.Place.leaves g.T.Place.alone in_any g.T.Place.cause o (g.met.T.Place.rests o) (g.met.T.Place.joins o) es c.args.place.now c.loop-self.place c.put_one_back.new.place m n (IsBacksFirst n.session) (AreBacksFirst m) c.in-Err.hindrance c.loop-self.invariant.2.1 b
    (backs_break g.T.Place.stands g.T.Place.leaves g.T.Place.alone in_any g.T.Place.cause o (g.met.T.Place.rests o) (g.met.T.Place.joins o) es c.args.place.now c.loop-self.place m n c.loop-self.invariant.2.1 (subst (λ (x : ℕ). 0 < x) (sym (length_newest c.loop-self.self.count c.loop-self.self.undo.items)) c.loop-self-test.true) b)
    (subst (λ (x : Session). Refused g.T.Place.stands g.T.Place.leaves g.T.Place.alone in_any g.T.Place.cause o (es ++ b.leads.did.more) c.loop-self.place c.put_one_back.new.place n (memory_of x) IsNoStep (IsBacksFirst n.session) c.in-Err.hindrance) c.in-Err.ensures.kept r))

pub loop-self-preserved : goal.loop-self-preserved
loop-self-preserved g c =
    let inv = c.loop-self.invariant in
    let rows = c.put_one_back.ensures.rows in
    let same = c.put_one_back.ensures.same in (
      rows.0,
      rows.1 ∙ inv.1,
      (same.0 ∙ inv.2.0, same.1 ∙ inv.2.1, same.2 ∙ inv.2.2),
      λ o es s k. let b = inv.3 o es s k in
          backs_then g.T.Place.stands g.T.Place.leaves g.T.Place.alone in_any g.T.Place.cause o (g.met.T.Place.rests o) (g.met.T.Place.joins o) es c.args.place.now c.loop-self.place c.put_one_back.new.place (memory_of c.args.self.now) (memory_of c.loop-self.self) (memory_of c.put_one_back.new.self) inv.2.1 b
          (c.in_default.ensures.does o _ b.leads.did.goes.stands b.leads.knows),
    )
