-- Two pages that one page names have one level.
use Rattle.std.proofs.Common.{◌≡◌, ltb, ◌<◌, ℕ, suc, true, subst, arith}
use Rattle.std.proofs.lemmas.Bool.{and_from, lt-ltb, ltb-true}
use Rattle.page_model.specs.Tree.{IsTree}
use Rattle.page_model.specs.Check.{names_page}
use Rattle.core_paging.proofs.core_commit.Events.{names_to}
use Rattle.core_paging.specs.core_state.Openings.{Opening}
use Rattle.core_paging.specs.core_state.States.{State, nodes_of}
use Rattle.core_paging.specs.core_state.Events as happening
use Rattle.core_paging.specs.core_state.Needs.{may, needs, are_hot, pages_of, may_join}
use Rattle.version_latch.specs.row_words.Words.{is_inner}
use Rattle.version_latch.proofs.row_words.Stays.{and_true}

-- a page that q names is a node one level below it
pub child_below : (g : Opening) (s : State) (q c : ℕ) → IsTree g.format (nodes_of s) → q < g.format.pages → names_page (s.page q).node c ≡ true
    → ((s.page c).node.live ≡ true) × (suc (s.page c).node.level ≡ (s.page q).node.level)
child_below g s q c tree below named =
    let z = names_to (s.page q).node c named in
    let d = tree.down q below z.0 z.1 in (
      subst (λ p. (s.page p).node.live ≡ true) z.2 d.live,
      subst (λ p. suc (s.page p).node.level ≡ (s.page q).node.level) z.2 d.level,
    )

-- where the left page of a join is inner, so is the right one
pub level_with : (g : Opening) (s : State) (w l r q : ℕ) → IsTree g.format (nodes_of s) → may g s (happening.Event.Join w l r q) ≡ true → is_inner (s.page l).node ≡ true → is_inner (s.page r).node ≡ true
level_with g s w l r q tree ok up =
    let a = and_true (s.worker w).is_open (may_join g (nodes_of s) l r q) (and_true (are_hot s (pages_of (happening.Event.Join w l r q))) (needs g s (happening.Event.Join w l r q)) ok).1 in
    let b = and_true (ltb q g.format.pages) _ a.1 in
    let c = and_true (names_page (s.page q).node l) _ b.1 in
    let d = and_true (names_page (s.page q).node r) _ c.1 in
    let lt = ltb-true q g.format.pages b.0 in
    let x = child_below g s q l tree lt c.0 in
    let y = child_below g s q r tree lt d.0 in
    let low = ltb-true 0 (s.page l).node.level (and_true (s.page l).node.live (ltb 0 (s.page l).node.level) up).1 in
    let e = x.1 in
    let h = y.1 in
    and_from (s.page r).node.live (ltb 0 (s.page r).node.level) y.0 (lt-ltb 0 (s.page r).node.level (omega arith))
