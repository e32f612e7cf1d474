use Rattle.std.proofs.Common.{◌≡◌, [], ◌∷◌, ◌==◌, ◌∙◌, true, length, ap₂, sym, subst, inl, refl}
use Rattle.core_state.specs.Events.{Event, Mode}
use Rattle.transactions.specs.Paths.{IsFirstOf}
use Rattle.transactions.specs.declared.hindrance.Mode.TheVariants as modes
use Rattle.transactions.specs.declared.session.Session.{Session}
use Rattle.transactions.specs.Kinds.{in_any, in_changes}
use Rattle.transactions.specs.Memory.{memory_of, newest}
use Rattle.transactions.specs.Calls.{IsTry, IsLocked, IsDelsFirst, Refused, log_refusal}
use Rattle.transactions.proofs.KindLemmas.{locked_as, hindered_as, wider_changes}
use Rattle.transactions.proofs.CallLemmas.{declines_still, change_tests, may_change, locked_leads, row_alone_by, dels_all, refused_first}
use Rattle.transactions.proofs.session.Session.del.Goals as goal

pub returns-in-Some-clause-does : goal.returns-in-Some-clause-does
returns-in-Some-clause-does g c o es s k =
    declines_still g.T.Place.stands g.T.Place.leaves g.T.Place.alone in_changes g.T.Place.cause o (g.met.T.Place.rests o) (g.met.T.Place.joins o) es c.args.place.now (memory_of c.args.self.now) (IsTry c.args.self.now.session (o.row_of c.args.key) Mode.Alone) (IsLocked c.args.self.now.session (o.row_of c.args.key) Mode.Alone (IsDelsFirst c.args.self.now.session c.args.key)) c.in-Some.refusal
    (change_tests c.args.self.now.is_open c.args.self.now.is_half (length (newest c.args.self.now.count c.args.self.now.undo.items) == 64)
    (g.T.Journal.used c.args.place.now c.args.self.now.session) (g.T.Journal.limit c.args.place.now c.args.self.now.session) (g.T.Journal.clock_of c.args.place.now c.args.self.now.session)
    c.in-Some.refusal (sym c.change_refusal.ensures ∙ c.in-Some.is)) s k

pub returns-in-Ok-clause-does : goal.returns-in-Ok-clause-does
returns-in-Ok-clause-does g c o es s k =
    let a = c.args.place.now in
    let b = c.take_row.new.place in
    let m = memory_of c.args.self.now in
    let n = memory_of c.take_row.new.self in
    let after = c.in-Ok.ensures.after in
    let first = (may_change c.args.self.now.is_open c.args.self.now.is_half (length (newest c.args.self.now.count c.args.self.now.undo.items) == 64)
    (log_refusal (g.T.Journal.used c.args.place.now c.args.self.now.session) (g.T.Journal.limit c.args.place.now c.args.self.now.session) (g.T.Journal.clock_of c.args.place.now c.args.self.now.session))
    (sym c.change_refusal.ensures ∙ c.in_default.is)).0 in
    let op : n.is_open ≡ true = after.0 ∙ first in
    let l = locked_as g.T.Place.stands g.T.Place.leaves g.T.Place.alone in_any in_changes wider_changes g.T.Place.cause o es a b m n c.args.key modes.Alone (c.in-Ok.ensures.does o es s k.ties) in
    let d = locked_leads g.T.Place.stands g.T.Place.leaves g.T.Place.alone in_changes g.T.Place.cause o (g.met.T.Place.rests o) (g.met.T.Place.joins o) es a b m n c.args.key modes.Alone op l in
    dels_all g.T.Place.stands g.T.Place.leaves g.T.Place.alone in_changes g.T.Place.cause o (g.met.T.Place.rests o) (g.met.T.Place.joins o) es a b c.del_in.new.place m n (memory_of c.del_in.new.self) c.args.key (λ w. IsDelsFirst w c.args.key) c.del_in.result op after.4 (ap₂ (λ i v. newest i v.items) after.3 after.2) l c.del_in.ensures.hindered
    (c.del_in.ensures.does o _ d.did.goes.stands d.knows op (row_alone_by g.T.Place.stands g.T.Place.leaves g.T.Place.alone in_changes g.T.Place.cause o (g.met.T.Place.rests o) (g.met.T.Place.joins o) es a b m n c.args.key op after.4 l))

pub returns-in-Err-clause-does : goal.returns-in-Err-clause-does
returns-in-Err-clause-does g c o es s k =
    let m = memory_of c.args.self.now in
    subst (λ (x : Session). Refused g.T.Place.stands g.T.Place.leaves g.T.Place.alone in_changes g.T.Place.cause o es c.args.place.now c.take_row.new.place m (memory_of x) (IsTry c.args.self.now.session (o.row_of c.args.key) Mode.Alone) (IsLocked c.args.self.now.session (o.row_of c.args.key) Mode.Alone (IsDelsFirst c.args.self.now.session c.args.key)) c.in-Err.hindrance) (sym c.in-Err.ensures.same)
    (refused_first g.T.Place.stands g.T.Place.leaves g.T.Place.alone in_changes g.T.Place.cause o (g.met.T.Place.rests o) (g.met.T.Place.joins o) es c.args.place.now c.take_row.new.place m (IsTry c.args.self.now.session (o.row_of c.args.key) Mode.Alone) (IsFirstOf (Event.Lock c.args.self.now.session (o.row_of c.args.key) Mode.Alone ∷ [])) (IsLocked c.args.self.now.session (o.row_of c.args.key) Mode.Alone (IsDelsFirst c.args.self.now.session c.args.key)) c.in-Err.hindrance (inl refl) (λ l f. inl f) s k
    (hindered_as g.T.Place.stands g.T.Place.leaves g.T.Place.alone in_any in_changes wider_changes g.T.Place.cause o es c.args.self.now.session (IsFirstOf (Event.Lock c.args.self.now.session (o.row_of c.args.key) Mode.Alone ∷ [])) [] c.in-Err.hindrance c.args.place.now c.take_row.new.place (c.in-Err.ensures.does o es s k.ties)))
