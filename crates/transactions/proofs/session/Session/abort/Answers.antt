use Rattle.std.proofs.Common.{◌++◌, ℕ, inl, false, ap, sym, subst}
use Rattle.transactions.specs.declared.session.Session.{Session}
use Rattle.transactions.specs.Kinds.{in_any}
use Rattle.transactions.specs.Memory.{memory_of, newest}
use Rattle.transactions.specs.Calls.{IsNoStep, IsEndsFirst, AreBacksFirst, IsAbortsFirst, Halves, Refused}
use Rattle.transactions.proofs.CallLemmas.{leads_still, refused_as}
use Rattle.transactions.proofs.EndLemmas.{aborts_all, ends_break, halves}
use Rattle.transactions.proofs.session.Session.abort.Goals as goal

pub returns-then-not-self-clause-does : goal.returns-then-not-self-clause-does
returns-then-not-self-clause-does g c o es s k = leads_still g.T.Place.stands g.T.Place.leaves g.T.Place.alone in_any g.T.Place.cause o (g.met.T.Place.rests o) (g.met.T.Place.joins o) es c.args.place.now (memory_of c.args.self.now) s k

pub returns-in-Ok-finish-clause-does : goal.returns-in-Ok-finish-clause-does
returns-in-Ok-finish-clause-does g c o es s k =
    let b = c.in-Ok.ensures.does o es s k in
    let same = c.put_all_back.ensures.same in
    aborts_all g.T.Place.stands g.T.Place.leaves g.T.Place.alone in_any g.T.Place.cause o (g.met.T.Place.rests o) (g.met.T.Place.joins o) es c.args.place.now c.put_all_back.new.place c.finish.new.place (memory_of c.args.self.now) (memory_of c.put_all_back.new.self) (memory_of c.finish.new.self) c.in-Ok-finish.receipt
    same.1 (ap (λ v. v.items) same.2) (ap (λ (i : ℕ). newest i c.put_all_back.new.self.undo.items) c.in-Ok.ensures.none) b (c.in-Ok-finish.ensures.does o _ b.leads.did.goes.stands b.leads.knows)

pub returns-in-Err-finish-clause-does : goal.returns-in-Err-finish-clause-does
returns-in-Err-finish-clause-does g c o es s k =
    let m = memory_of c.args.self.now in
    let n = memory_of c.put_all_back.new.self in
    let b = c.in-Ok.ensures.does o es s k in
    let r = c.in-Err-finish.ensures.does o _ b.leads.did.goes.stands b.leads.knows in
    subst (λ (x : Session). Refused g.T.Place.stands g.T.Place.leaves g.T.Place.alone in_any g.T.Place.cause o es c.args.place.now c.finish.new.place m (memory_of x) (Halves m (memory_of x)) (IsAbortsFirst m) c.in-Err-finish.hindrance) (sym c.in-Err-finish.ensures.same)
    (halves g.T.Place.stands g.T.Place.leaves g.T.Place.alone in_any g.T.Place.cause o (g.met.T.Place.rests o) (g.met.T.Place.joins o) es c.args.place.now c.put_all_back.new.place c.finish.new.place m n (IsEndsFirst n.session false) (IsAbortsFirst m) c.in-Err-finish.hindrance c.put_all_back.ensures.same.1 b
    (ends_break g.T.Place.stands g.T.Place.leaves g.T.Place.alone in_any g.T.Place.cause o (g.met.T.Place.rests o) (g.met.T.Place.joins o) es c.args.place.now c.put_all_back.new.place m n c.put_all_back.ensures.same.1 (ap (λ (i : ℕ). newest i c.put_all_back.new.self.undo.items) c.in-Ok.ensures.none) b)
    (subst (λ (x : Session). Refused g.T.Place.stands g.T.Place.leaves g.T.Place.alone in_any g.T.Place.cause o (es ++ b.leads.did.more) c.put_all_back.new.place c.finish.new.place n (memory_of x) IsNoStep (IsEndsFirst n.session false) c.in-Err-finish.hindrance) c.in-Err-finish.ensures.same r))

pub returns-in-Err-clause-does : goal.returns-in-Err-clause-does
returns-in-Err-clause-does g c o es s k =
    let m = memory_of c.args.self.now in
    let n = memory_of c.put_all_back.new.self in
    refused_as g.T.Place.stands g.T.Place.leaves g.T.Place.alone in_any g.T.Place.cause o (g.met.T.Place.rests o) (g.met.T.Place.joins o) es c.args.place.now c.put_all_back.new.place m n (Halves m n) (AreBacksFirst m) (IsAbortsFirst m) c.in-Err.hindrance (λ l f. inl f) (c.in-Err.ensures.does o es s k)
