use Rattle.std.proofs.Common.{◌<◌, ◌^◌, ◌∙◌, ℕ, Some, sym, subst, refl}
use Rattle.std.proofs.lemmas.Bool.{cond-true, lt-ltb}
use Rattle.std.proofs.Common.{ltb, None}
use Rattle.transactions.specs.Kinds.{in_changes}
use Rattle.transactions.specs.Memory.{memory_of}
use Rattle.transactions.specs.Answers.{Deleted}
use Rattle.transactions.specs.Calls.{IsNoStep, IsDelsFirst}
use Rattle.transactions.proofs.CallLemmas.{changes_as, few, refused_first, reads}
use Rattle.transactions.proofs.MemoryLemmas.{length_newest}
use Rattle.transactions.proofs.session.Session.del_in.Goals as goal

pub returns-in-Ok-Some-clause-does : goal.returns-in-Ok-Some-clause-does
returns-in-Ok-Some-clause-does g c o es s k op alone =
    let m = memory_of c.args.self.now in
    let v = c.in-Ok-Some.value in
    let small = subst (λ (n : ℕ). n < 64) (sym (length_newest c.args.self.now.count c.args.self.now.undo.items)) c.requires.few in
    let r = subst (Deleted g.T.Place.stands g.T.Place.leaves g.T.Place.alone o es c.args.self.now.session c.args.key c.args.place.now c.leaf_del.new.self) c.in-Ok-Some.field-0-is (c.in-Ok-Some.ensures.does o es s (k.ties.is_open ∙ op) (few g.T.Place.stands g.T.Place.leaves g.T.Place.alone in_changes g.T.Place.cause o (g.met.T.Place.rests o) (g.met.T.Place.joins o) es m k.ties small) alone) in
    changes_as g.T.Place.stands g.T.Place.leaves g.T.Place.alone in_changes g.T.Place.cause o (g.met.T.Place.rests o) (g.met.T.Place.joins o) es c.args.place.now c.leaf_del.new.self m (memory_of c.remember.new.self) r.1 c.args.key (2 ^ 63) (Some v) (Some v) k op c.remember.ensures.memory (sym (cond-true (ltb v (2 ^ 63)) (Some v) None (lt-ltb v (2 ^ 63) r.0))) r.2

pub returns-in-Ok-None-clause-does : goal.returns-in-Ok-None-clause-does
returns-in-Ok-None-clause-does g c o es s k op alone =
    let m = memory_of c.args.self.now in
    let small = subst (λ (n : ℕ). n < 64) (sym (length_newest c.args.self.now.count c.args.self.now.undo.items)) c.requires.few in
    let r = subst (Deleted g.T.Place.stands g.T.Place.leaves g.T.Place.alone o es c.args.self.now.session c.args.key c.args.place.now c.leaf_del.new.self) c.in-Ok-None.field-0-is (c.in-Ok-None.ensures.does o es s (k.ties.is_open ∙ op) (few g.T.Place.stands g.T.Place.leaves g.T.Place.alone in_changes g.T.Place.cause o (g.met.T.Place.rests o) (g.met.T.Place.joins o) es m k.ties small) alone) in
    (r.0, reads g.T.Place.stands g.T.Place.leaves g.T.Place.alone in_changes g.T.Place.cause o (g.met.T.Place.rests o) (g.met.T.Place.joins o) es c.args.place.now c.leaf_del.new.self m r.0 c.args.key None k r.1)

pub returns-in-Err-clause-does : goal.returns-in-Err-clause-does
returns-in-Err-clause-does g c o es s k op alone =
    let m = memory_of c.args.self.now in
    let small = subst (λ (n : ℕ). n < 64) (sym (length_newest c.args.self.now.count c.args.self.now.undo.items)) c.requires.few in
    refused_first g.T.Place.stands g.T.Place.leaves g.T.Place.alone in_changes g.T.Place.cause o (g.met.T.Place.rests o) (g.met.T.Place.joins o) es c.args.place.now c.leaf_del.new.self m IsNoStep (IsDelsFirst c.args.self.now.session c.args.key) (IsDelsFirst c.args.self.now.session c.args.key) c.in-Err.hindrance refl (λ l f. f) s k
    (c.in-Err.ensures.does o es s (k.ties.is_open ∙ op) (few g.T.Place.stands g.T.Place.leaves g.T.Place.alone in_changes g.T.Place.cause o (g.met.T.Place.rests o) (g.met.T.Place.joins o) es m k.ties small) alone)
