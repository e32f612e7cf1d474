use Rattle.std.proofs.Common.{◌≡◌, ◌-◌, ◌∙◌, ◌<◌, ◌∷◌, suc, length, ap, refl, sym, arith}
use Rattle.std.proofs.lemmas.List.{get_or_read}
use Rattle.transactions.specs.declared.session.Undo.{Undo}
use Rattle.core_state.specs.Steps.{state_after}
use Rattle.transactions.specs.Kinds.{in_any}
use Rattle.transactions.specs.Memory.{memory_of, newest, no_undo}
use Rattle.transactions.specs.Calls.{IsNoStep, IsBacksFirst}
use Rattle.transactions.proofs.CallLemmas.{refused_first}
use Rattle.transactions.proofs.EndLemmas.{newest_split, split, backs_now}
use Rattle.transactions.proofs.session.Session.put_one_back.Goals as goal

pub returns-in-Ok-clause-does : goal.returns-in-Ok-clause-does
returns-in-Ok-clause-does g c o es s k =
    let old = c.args.self.now in
    let sized = old.sized in
    let before = old.count - 1 in
    let e : old.count ≡ suc (old.count - 1) = omega arith in
    let lt : old.count - 1 < length old.undo.items = omega arith in
    let u = c.index-undo.result.now in
    let is = get_or_read old.undo.items (old.count - 1) u lt c.index-undo.ensures no_undo in
    let undo = newest_split old.undo.items old.count (old.count - 1) e ∙ ap (λ (x : Undo). x ∷ newest (old.count - 1) old.undo.items) (sym is) in
    let x = split ((state_after o es).worker old.session).changes u (newest (old.count - 1) old.undo.items) (k.ties.undo ∙ undo) in
    backs_now g.T.Place.stands g.T.Place.leaves g.T.Place.alone in_any g.T.Place.cause o (g.met.T.Place.rests o) (g.met.T.Place.joins o) es c.args.place.now c.leaf_put_back.new.self (memory_of old) u (newest (old.count - 1) old.undo.items) k c.requires.open undo x
    (c.in-Ok.ensures.does o es x.first x.others s (k.ties.is_open ∙ c.requires.open) x.whole x.key x.word)

pub returns-in-Err-clause-does : goal.returns-in-Err-clause-does
returns-in-Err-clause-does g c o es s k =
    let old = c.args.self.now in
    let sized = old.sized in
    let e : old.count ≡ suc (old.count - 1) = omega arith in
    let lt : old.count - 1 < length old.undo.items = omega arith in
    let u = c.index-undo.result.now in
    let is = get_or_read old.undo.items (old.count - 1) u lt c.index-undo.ensures no_undo in
    let undo = newest_split old.undo.items old.count (old.count - 1) e ∙ ap (λ (x : Undo). x ∷ newest (old.count - 1) old.undo.items) (sym is) in
    let x = split ((state_after o es).worker old.session).changes u (newest (old.count - 1) old.undo.items) (k.ties.undo ∙ undo) in
    refused_first g.T.Place.stands g.T.Place.leaves g.T.Place.alone in_any g.T.Place.cause o (g.met.T.Place.rests o) (g.met.T.Place.joins o) es c.args.place.now c.leaf_put_back.new.self (memory_of old) IsNoStep (IsBacksFirst old.session) (IsBacksFirst old.session) c.in-Err.hindrance refl (λ l f. f) s k
    (c.in-Err.ensures.does o es x.first x.others s (k.ties.is_open ∙ c.requires.open) x.whole x.key x.word)
