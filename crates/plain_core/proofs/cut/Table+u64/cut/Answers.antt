use Rattle.std.proofs.Common.{◌∙◌, ap, ℕ, ◌++◌, max, min}
use Rattle.plain_core.specs.Inside.{heads_at}
use Rattle.plain_core.specs.Tables.{at, found}
use Rattle.plain_core.proofs.Meanings.{found_both}
use Rattle.plain_core.proofs.cut.Table+u64.cut.Goals as goal

pub returns : goal.returns
returns c =
    let a = c.args.self.now in
    let b = c.args.asked.now in
    let n = c.args.number in
    let f : ℕ → ℕ = λ w. max (at a w) (min (at b w) n) in
    let own = c.in_ok-own.ensures ∙ ap (λ l. l ++ heads_at f c.deref.result.now) c.new.ensures.items ∙ ap (heads_at f) c.deref.ensures.value in
    let all = c.in_ok-changes.ensures ∙ ap (λ l. l ++ heads_at f c.deref-2.result.now) own ∙ ap (λ l. heads_at f a.changes.items ++ heads_at f l) c.deref-2.ensures.value in
    let d = c.max.ensures ∙ ap (max a.default) c.min.ensures in
    λ w. ap (λ l. found l c.max.result w) all ∙ ap (λ e. found (heads_at f a.changes.items ++ heads_at f b.changes.items) e w) d
    ∙ found_both (λ (x y : ℕ). max x (min y n)) a.changes.items b.changes.items a.default b.default w
