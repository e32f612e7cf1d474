use Rattle.std.proofs.Common.{false, Bool, List, ◌++◌, ◌∙◌, ap, sym, arith}
use Rattle.std.proofs.lemmas.List.{append-nil, drop_all}
use Rattle.map_model.specs.Lists.{upd}
use Rattle.plain_core.specs.declared.table.Placed.{Placed}
use Rattle.plain_core.specs.Tables.{found}
use Rattle.plain_core.proofs.effects.Table+bool.without.Goals as goal

pub returns : goal.returns
returns c =
    let all = sym (append-nil c.loop-change.changes.items)
    ∙ ap (λ zs. c.loop-change.changes.items ++ zs) (sym (drop_all c.loop-change.change-index c.args.self.now.changes.items (omega (arith, c.loop-change-test.false, c.deref-change-items.ensures.len))))
    ∙ c.loop-change.invariant in
    c.in_ok-set.ensures ∙ ap (λ (xs : List (Placed Bool)). upd (λ i. found xs c.args.self.now.default i) c.args.place false) all
