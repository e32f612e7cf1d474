use Rattle.std.proofs.Common.{◌≡◌, [], ◌∷◌, ◌∙◌, true, sym, subst, inl, refl}
use Rattle.core_state.specs.Events.{Event, Mode}
use Rattle.transactions.specs.Paths.{IsFirstOf}
use Rattle.transactions.specs.declared.hindrance.Mode.TheVariants as modes
use Rattle.transactions.specs.declared.session.Session.{Session}
use Rattle.transactions.specs.Kinds.{in_any}
use Rattle.transactions.specs.Memory.{memory_of}
use Rattle.transactions.specs.Calls.{IsTry, IsLocked, IsReadsFirst, Refused}
use Rattle.transactions.proofs.CallLemmas.{declines_still, closed_tests, is_closed, locked_leads, row_held_by, gets_all, tried, refused_first}
use Rattle.transactions.proofs.session.Session.get.Goals as goal

pub returns-in-Some-clause-does : goal.returns-in-Some-clause-does
returns-in-Some-clause-does g c o es s k =
    declines_still g.T.Place.stands g.T.Place.leaves g.T.Place.alone in_any g.T.Place.cause o (g.met.T.Place.rests o) (g.met.T.Place.joins o) es c.args.place.now (memory_of c.args.self.now) (IsTry c.args.self.now.session (o.row_of c.args.key) Mode.Shared) (IsLocked c.args.self.now.session (o.row_of c.args.key) Mode.Shared (IsReadsFirst c.args.self.now.session c.args.key)) c.in-Some.refusal
    (closed_tests c.args.self.now.is_open c.args.self.now.is_half c.in-Some.refusal (sym c.closed_refusal.ensures ∙ c.in-Some.is)) s k

pub returns-in-Ok-find-clause-does : goal.returns-in-Ok-find-clause-does
returns-in-Ok-find-clause-does g c o es s k =
    let a = c.args.place.now in
    let b = c.take_row.new.place in
    let m = memory_of c.args.self.now in
    let n = memory_of c.take_row.new.self in
    let after = c.in-Ok.ensures.after in
    let open_before = (is_closed c.args.self.now.is_open c.args.self.now.is_half (sym c.closed_refusal.ensures ∙ c.in_default.is)).0 in
    let op : n.is_open ≡ true = after.0 ∙ open_before in
    let l = c.in-Ok.ensures.does o es s k.ties in
    let d = locked_leads g.T.Place.stands g.T.Place.leaves g.T.Place.alone in_any g.T.Place.cause o (g.met.T.Place.rests o) (g.met.T.Place.joins o) es a b m n c.args.key modes.Shared op l in
    gets_all g.T.Place.stands g.T.Place.leaves g.T.Place.alone in_any g.T.Place.cause o (g.met.T.Place.rests o) (g.met.T.Place.joins o) es a b c.find.new.self m n c.args.key c.in-Ok-find.value op after.4 l
    (c.in-Ok-find.ensures.does o _ d.did.goes.stands (d.knows.ties.is_open ∙ op) (row_held_by g.T.Place.stands g.T.Place.leaves g.T.Place.alone in_any g.T.Place.cause o (g.met.T.Place.rests o) (g.met.T.Place.joins o) es a b m n c.args.key modes.Shared op after.4 l))

pub returns-in-Err-find-clause-does : goal.returns-in-Err-find-clause-does
returns-in-Err-find-clause-does g c o es s k =
    let a = c.args.place.now in
    let b = c.take_row.new.place in
    let m = memory_of c.args.self.now in
    let n = memory_of c.take_row.new.self in
    let after = c.in-Ok.ensures.after in
    let open_before = (is_closed c.args.self.now.is_open c.args.self.now.is_half (sym c.closed_refusal.ensures ∙ c.in_default.is)).0 in
    let op : n.is_open ≡ true = after.0 ∙ open_before in
    let l = c.in-Ok.ensures.does o es s k.ties in
    let d = locked_leads g.T.Place.stands g.T.Place.leaves g.T.Place.alone in_any g.T.Place.cause o (g.met.T.Place.rests o) (g.met.T.Place.joins o) es a b m n c.args.key modes.Shared op l in
    tried g.T.Place.stands g.T.Place.leaves g.T.Place.alone in_any g.T.Place.cause o (g.met.T.Place.rests o) (g.met.T.Place.joins o) es a b c.find.new.self m n c.args.key modes.Shared c.in-Err-find.hindrance (λ w. IsReadsFirst w c.args.key) op after.4 l
    (c.in-Err-find.ensures.does o _ d.did.goes.stands (d.knows.ties.is_open ∙ op) (row_held_by g.T.Place.stands g.T.Place.leaves g.T.Place.alone in_any g.T.Place.cause o (g.met.T.Place.rests o) (g.met.T.Place.joins o) es a b m n c.args.key modes.Shared op after.4 l))

pub returns-in-Err-clause-does : goal.returns-in-Err-clause-does
returns-in-Err-clause-does g c o es s k =
    let m = memory_of c.args.self.now in
    subst (λ (x : Session). Refused g.T.Place.stands g.T.Place.leaves g.T.Place.alone in_any g.T.Place.cause o es c.args.place.now c.take_row.new.place m (memory_of x) (IsTry c.args.self.now.session (o.row_of c.args.key) Mode.Shared) (IsLocked c.args.self.now.session (o.row_of c.args.key) Mode.Shared (IsReadsFirst c.args.self.now.session c.args.key)) c.in-Err.hindrance) (sym c.in-Err.ensures.same)
    (refused_first g.T.Place.stands g.T.Place.leaves g.T.Place.alone in_any g.T.Place.cause o (g.met.T.Place.rests o) (g.met.T.Place.joins o) es c.args.place.now c.take_row.new.place m (IsTry c.args.self.now.session (o.row_of c.args.key) Mode.Shared) (IsFirstOf (Event.Lock c.args.self.now.session (o.row_of c.args.key) Mode.Shared ∷ [])) (IsLocked c.args.self.now.session (o.row_of c.args.key) Mode.Shared (IsReadsFirst c.args.self.now.session c.args.key)) c.in-Err.hindrance (inl refl) (λ l f. inl f) s k (c.in-Err.ensures.does o es s k.ties))
