use Rattle.std.proofs.Common.{◌≡◌, ◌+◌, ◌++◌, ◌∷◌, [], ℕ, List, length, slice_get, Some, sym, ap, ◌∙◌, subst, arith}
use Rattle.std.proofs.lemmas.List.{length-append}
use Rattle.paged_engine.specs.Openings.{IsFurther}
use Rattle.paged_desks.specs.session_desks.declared.desk.Desk.{Desk}
use Rattle.paged_engine.proofs.MadeLemmas.{more_made}
use Rattle.paged_engine.proofs.seats.further_desks.Goals as goal

pub loop-number-preserved : goal.loop-number-preserved
loop-number-preserved c =
    let n = c.args.master.now in
    let x = c.args.first.now in
    let inv = c.loop-number.invariant in
    let desks = c.loop-number.desks.items in
    let d = c.in_ok-further_desk.field-0 in
    let items : c.push_reserved.new.self.items ≡ desks ++ d ∷ [] = c.push_reserved.ensures.items in
    record {
      count = let many : length (c.push_reserved.new.self.items) ≡ length desks + 1 = ap (λ (xs : List Desk). length xs) items ∙ length-append desks (d ∷ []) in let was : length desks + 2 ≡ c.loop-number.number = inv.count in omega arith;
      each = subst (λ (xs : List Desk). (at : ℕ) (e : Desk) → slice_get xs at ≡ Some e → IsFurther n x (at + 2) e) (sym items) (more_made n x desks d c.loop-number.number inv.count inv.each c.in_ok-further_desk.ensures);
      room = omega (arith, inv.room, c.push_reserved.ensures.capacity);
    }
