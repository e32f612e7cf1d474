-- The children of a node are named one by one.
use Rattle.std.proofs.Common.{◌≡◌, ◌+◌, ◌<◌, ℕ, suc, List, length, drop, refl, sym, ap, ◌∙◌, subst, arith}
use Rattle.std.proofs.lemmas.List.{length-set}
use Rattle.page_model.specs.Pairs.{Has, Pair}
use Rattle.page_model.specs.Needs.{key_at}
use Rattle.page_model.specs.Page.{word_at}
use Rattle.cold_pages.specs.declared.kept.Kept.{Kept}
use Rattle.cold_pages.specs.Kept.{kept_of, named}
use Rattle.cold_pages.proofs.PairLemmas.{pair_at}
use Rattle.cold_pages.proofs.TableLemmas.{children_inner, children_none, drop_all, drop_one, under}
use Rattle.cold_pages.proofs.pages.ColdPages.name.Goals as goal

pub name_one-requires-clause-child : goal.name_one-requires-clause-child
name_one-requires-clause-child c =
    let n = c.args.node.now.node in
    let e = c.level.ensures.answer in
    let no = c.if-level-eq0.false in
    let inner : 0 < n.level = omega arith in
    let test = c.loop-i-test.true in
    let count = c.count-i-end.ensures.answer in
    let h = pair_at n.pairs c.loop-i.i (omega arith) in
    let w = c.requires.within _ (subst (λ (xs : List Pair). Has (record { key = key_at c.loop-i.i n.pairs; word = word_at c.loop-i.i n.pairs }) xs) (sym (children_inner n inner)) h) in
    let same = c.loop-i.invariant.1 in
    let is = c.word_at.ensures in
    omega arith

pub loop-i-preserved : goal.loop-i-preserved
loop-i-preserved c =
    let n = c.args.node.now.node in
    let i = c.loop-i.i in
    let test = c.loop-i-test.true in
    let count = c.count-i-end.ensures.answer in
    let one : i + 1 ≡ suc i = omega arith in
    let d = drop_one n.pairs i (omega arith) in (
      ap (λ (k : ℕ). named c.args.parent (drop k n.pairs) c.name_one.new.self) one
          ∙ (ap (named c.args.parent (drop (suc i) n.pairs)) (rw (c.name_one.ensures, c.key_at.ensures, c.word_at.ensures) refl)
          ∙ (ap (λ (xs : List Pair). named c.args.parent xs c.loop-i.self) (sym d) ∙ c.loop-i.invariant.0)),
      ap (λ (t : List Kept). length t) c.name_one.ensures ∙ (length-set c.loop-i.self c.word_at.result (under c.args.parent c.key_at.result (kept_of c.loop-i.self c.word_at.result)) ∙ c.loop-i.invariant.1),
    )

pub returns-then-level-eq0 : goal.returns-then-level-eq0
returns-then-level-eq0 c = ap (λ (xs : List Pair). named c.args.parent xs c.args.self.now) (sym (children_none c.args.node.now.node (sym c.level.ensures.answer ∙ c.if-level-eq0.true)))

pub returns : goal.returns
returns c =
    let n = c.args.node.now.node in
    let e = c.level.ensures.answer in
    let no = c.if-level-eq0.false in
    let inner : 0 < n.level = omega arith in
    let test = c.loop-i-test.false in
    let end = c.loop-i.auto.i-end in
    let count = c.count-i-end.ensures.answer in
    let at : c.loop-i.i ≡ length n.pairs = omega arith in
    ap (λ (xs : List Pair). named c.args.parent xs c.loop-i.self) (sym (ap (λ (k : ℕ). drop k n.pairs) at ∙ drop_all n.pairs))
    ∙ (c.loop-i.invariant.0 ∙ ap (λ (xs : List Pair). named c.args.parent xs c.args.self.now) (sym (children_inner n inner)))
