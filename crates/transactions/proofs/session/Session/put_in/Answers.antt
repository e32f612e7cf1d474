use Rattle.std.proofs.Common.{◌<◌, ◌∙◌, ℕ, sym, subst, refl}
use Rattle.transactions.specs.Kinds.{in_changes}
use Rattle.transactions.specs.Memory.{memory_of}
use Rattle.transactions.specs.Calls.{IsNoStep, IsChangesFirst}
use Rattle.transactions.proofs.CallLemmas.{changes_as, few, refused_first}
use Rattle.transactions.proofs.MemoryLemmas.{length_newest}
use Rattle.transactions.proofs.session.Session.put_in.Goals as goal

pub returns-in-Ok-clause-does : goal.returns-in-Ok-clause-does
returns-in-Ok-clause-does g c o es s k op alone =
    let m = memory_of c.args.self.now in
    let small = subst (λ (n : ℕ). n < 64) (sym (length_newest c.args.self.now.count c.args.self.now.undo.items)) c.requires.few in
    let r = c.in-Ok.ensures.does o es s (k.ties.is_open ∙ op) (few g.T.Place.stands g.T.Place.leaves g.T.Place.alone in_changes g.T.Place.cause o (g.met.T.Place.rests o) (g.met.T.Place.joins o) es m k.ties small) alone in
    changes_as g.T.Place.stands g.T.Place.leaves g.T.Place.alone in_changes g.T.Place.cause o (g.met.T.Place.rests o) (g.met.T.Place.joins o) es c.args.place.now c.leaf_put.new.self m (memory_of c.remember.new.self) r.0 c.args.key c.args.value c.in-Ok.was c.live_value.result k op c.remember.ensures.memory c.live_value.ensures r.1

pub returns-in-Err-clause-does : goal.returns-in-Err-clause-does
returns-in-Err-clause-does g c o es s k op alone =
    let m = memory_of c.args.self.now in
    let small = subst (λ (n : ℕ). n < 64) (sym (length_newest c.args.self.now.count c.args.self.now.undo.items)) c.requires.few in
    refused_first g.T.Place.stands g.T.Place.leaves g.T.Place.alone in_changes g.T.Place.cause o (g.met.T.Place.rests o) (g.met.T.Place.joins o) es c.args.place.now c.leaf_put.new.self m IsNoStep (IsChangesFirst c.args.self.now.session c.args.key c.args.value) (IsChangesFirst c.args.self.now.session c.args.key c.args.value) c.in-Err.hindrance refl (λ l f. f) s k
    (c.in-Err.ensures.does o es s (k.ties.is_open ∙ op) (few g.T.Place.stands g.T.Place.leaves g.T.Place.alone in_changes g.T.Place.cause o (g.met.T.Place.rests o) (g.met.T.Place.joins o) es m k.ties small) alone)
