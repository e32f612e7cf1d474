use Rattle.std.proofs.Common.{◌≡◌, ◌≢◌, ◌==◌, ◌+◌, ◌^◌, ◌∙◌, Bool, true, false, refl, sym, ap, arith, true≢false}
use Rattle.std.proofs.lemmas.Bool.Decides.{nat_tests}
use Rattle.page_model.specs.Page.{word_at}
use Rattle.btree_descent.specs.row_words.Words.{is_inner}
use Rattle.row_image.proofs.Naming.{hot_child_at, no_hot_child}
use Rattle.row_image.proofs.sight.Sight.hot_child.Goals as goal

pub returns-then-not-names_pages-clause-none : goal.returns-then-not-names_pages-clause-none
returns-then-not-names_pages-clause-none c v m few sound it =
    let none : is_inner c.args.self.now.node.node ≡ false = sym c.names_pages.ensures ∙ c.if-not-names_pages.true in
    no_hot_child v m c.args.self.now.glimpse.row c.args.self.now.node sound it few (λ inner j f l s e. absurd (true≢false (sym inner ∙ none)))

pub returns-in-Some-clause-first : goal.returns-in-Some-clause-first
returns-in-Some-clause-first c =
    let inner : is_inner c.args.self.now.node.node ≡ true = sym c.names_pages.ensures ∙ c.if-not-names_pages.false in
    let word = sym c.word_at.ensures ∙ c.in-Some.ensures.some in
    (c.loop-i.i, record { inner = inner; short = (let e = c.count-i-end.ensures.answer in let l = c.loop-i-test.true in omega arith); word_is = word; before = λ j l. c.loop-i.invariant j c.in-Some.frame l (omega arith) }, c.loop-i.invariant)

pub returns-in-Some-clause-some : goal.returns-in-Some-clause-some
returns-in-Some-clause-some c v m sound it =
    let inner : is_inner c.args.self.now.node.node ≡ true = sym c.names_pages.ensures ∙ c.if-not-names_pages.false in
    let word = sym c.word_at.ensures ∙ c.in-Some.ensures.some in
    hot_child_at v m c.args.self.now.glimpse.row c.args.self.now.node sound it c.loop-i.i c.in-Some.frame inner (let e = c.count-i-end.ensures.answer in let l = c.loop-i-test.true in omega arith) word

pub loop-i-preserved : goal.loop-i-preserved
loop-i-preserved c j f lt small = at (j == c.loop-i.i) refl
  where
    at : (b : Bool) → (j == c.loop-i.i) ≡ b → word_at j c.args.self.now.node.node.pairs ≢ 2 ^ 63 + f
    at true e =
        let is : j ≡ c.loop-i.i = grind (arith, nat_tests) in
        λ z. c.in_default.ensures.none f small (c.word_at.ensures ∙ (ap (λ k. word_at k c.args.self.now.node.node.pairs) (sym is) ∙ z))
    at false e =
        let ne : j ≢ c.loop-i.i = grind (arith, nat_tests) in
        c.loop-i.invariant j f (omega arith) small

pub returns-clause-none : goal.returns-clause-none
returns-clause-none c v m few sound it =
    let none = c.loop-i.invariant in
    no_hot_child v m c.args.self.now.glimpse.row c.args.self.now.node sound it few (λ inner j f l s. none j f (let e = c.count-i-end.ensures.answer in let t = c.loop-i-test.false in omega arith) s)
