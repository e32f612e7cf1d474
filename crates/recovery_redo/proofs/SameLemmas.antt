-- The test of a page, where pages agree below the number of pages.
use Rattle.std.specs.Prelude.{if◌then◌else◌}
use Rattle.std.proofs.Common.{◌≡◌, ◌<◌, ℕ, zero, suc, Bool, true, ◌&&◌, ◌||◌, not, leb, ltb, ◌==◌, List, [], ◌∷◌, length, refl, sym, ap, ◌∙◌, inl, inr, arith}
use Rattle.std.proofs.lemmas.Bool.{and_parts, ltb-true, cases_Bool, cond-true, cond-false, ne_eqb}
use Rattle.page_model.specs.Pairs as pairs
use Rattle.page_model.specs.Pairs.{Span, spans, first_key}
use Rattle.page_model.specs.Check as check
use Rattle.page_model.proofs.Check.{all_has}
use Rattle.page_model.proofs.Spans.{span_pair}
use Rattle.page_model.specs.Nodes.{Format, Node}

-- ## The test of a page

all_on : {A : Type 0} (p q : A → Bool) (xs : List A) → ((x : A) → pairs.Has x xs → p x ≡ q x) → check.all p xs ≡ check.all q xs
all_on p q [] h = refl
all_on p q (x ∷ xs) h = ap (λ b. b && check.all p xs) (h x (inl refl)) ∙ ap (λ b. q x && b) (all_on p q xs (λ y m. h y (inr m)))

some_on : (n : ℕ) (p q : ℕ → Bool) → ((i : ℕ) → i < n → p i ≡ q i) → check.some_below n p ≡ check.some_below n q
some_on zero p q h = refl
some_on (suc n) p q h = ap (λ b. b || check.some_below n p) (h n (omega arith)) ∙ ap (λ b. q n || b) (some_on n p q (λ i l. h i (omega arith)))

module _ (f : Format) (node other : ℕ → Node) (same : (p : ℕ) → p < f.pages → node p ≡ other p) where
  -- the children of an inner node that is well formed are pages that there are
  module _ (v : Node) (formed : check.is_formed f v ≡ true) (live : v.live ≡ true) (inner : 0 < v.level) where
    abbrev behind_words : Bool
    behind_words = (v.level == 0) || (not (check.is_nil v.pairs) && (first_key v.pairs v.high == v.low))

    words : check.all (check.word_ok f v) v.pairs ≡ true
    words =
        let ok : check.is_node_ok f v ≡ true = sym (cond-true v.live (check.is_node_ok f v) (check.is_free v) live) ∙ formed in
        let a = and_parts (leb (length v.pairs) f.room) (leb v.level f.levels && (check.is_rising v.low v.pairs v.high && (check.all (check.word_ok f v) v.pairs && behind_words))) ok in
        let b = and_parts (leb v.level f.levels) (check.is_rising v.low v.pairs v.high && (check.all (check.word_ok f v) v.pairs && behind_words)) a.1 in
        let c = and_parts (check.is_rising v.low v.pairs v.high) (check.all (check.word_ok f v) v.pairs && behind_words) b.1 in
        (and_parts (check.all (check.word_ok f v) v.pairs) behind_words c.1).0

    child_below : (s : Span) → pairs.Has s (spans v.pairs v.high) → s.child < f.pages
    child_below s m =
        let x = span_pair v.pairs v.high s m in
        let h = all_has (check.word_ok f v) v.pairs words x.0 x.1 in
        let w = and_parts (ltb 0 x.0.word) (ltb x.0.word f.pages) (sym (cond-false (v.level == 0) (leb x.0.word f.dead) (ltb 0 x.0.word && ltb x.0.word f.pages) (ne_eqb v.level 0 (λ e. omega arith))) ∙ h) in
        let b : x.0.word < f.pages = ltb-true x.0.word f.pages w.1 in
        let e = x.2 in
        omega arith

  abbrev are_children : (ℕ → Node) → Node → Bool
  are_children at v = check.all (λ (s : Span). check.is_child v (at s.child) s) (spans v.pairs v.high)

  children_same : (v : Node) → check.is_formed f v ≡ true → check.has_children node v ≡ check.has_children other v
  children_same v h = elim (cases_Bool (v.live && ltb 0 v.level)) [
    | inl e ↦
        let b = and_parts v.live (ltb 0 v.level) e in
        cond-true (v.live && ltb 0 v.level) (are_children node v) true e
        ∙ all_on (λ (s : Span). check.is_child v (node s.child) s) (λ (s : Span). check.is_child v (other s.child) s) (spans v.pairs v.high)
        (λ s m. ap (λ (c : Node). check.is_child v c s) (same s.child (child_below v h b.0 (ltb-true 0 v.level b.1) s m)))
        ∙ sym (cond-true (v.live && ltb 0 v.level) (are_children other v) true e)
    | inr e ↦ cond-false (v.live && ltb 0 v.level) (are_children node v) true e ∙ sym (cond-false (v.live && ltb 0 v.level) (are_children other v) true e)
  ]

  abbrev tested : Node → (at : ℕ → Node) → ℕ → Bool
  tested v at p = check.is_formed f v && (check.is_root f v p && (check.has_children at v && (if v.live && not (p == 0) then check.some_below f.pages (λ q. check.names_page (at q) p) else true)))

  pub page_ok_same : (p : ℕ) → p < f.pages → check.page_ok f node p ≡ check.page_ok f other p
  page_ok_same p l = ap (λ (v : Node). tested v node p) (same p l) ∙ elim (cases_Bool (check.is_formed f (other p))) [
    | inl h ↦ ap (λ b. check.is_formed f (other p) && (check.is_root f (other p) p && (b && (if (other p).live && not (p == 0) then check.some_below f.pages (λ q. check.names_page (node q) p) else true)))) (children_same (other p) h)
        ∙ ap (λ b. check.is_formed f (other p) && (check.is_root f (other p) p && (check.has_children other (other p) && (if (other p).live && not (p == 0) then b else true))))
        (some_on f.pages (λ q. check.names_page (node q) p) (λ q. check.names_page (other q) p) (λ q b. ap (λ (v : Node). check.names_page v p) (same q b)))
    | inr h ↦ ap (λ b. b && (check.is_root f (other p) p && (check.has_children node (other p) && (if (other p).live && not (p == 0) then check.some_below f.pages (λ q. check.names_page (node q) p) else true)))) h
        ∙ sym (ap (λ b. b && (check.is_root f (other p) p && (check.has_children other (other p) && (if (other p).live && not (p == 0) then check.some_below f.pages (λ q. check.names_page (other q) p) else true)))) h)
  ]
