-- Free pages, kept the greatest first.
use Rattle.std.proofs.Common.{◌≡◌, ◌<◌, ◌+◌, ◌-◌, ◌++◌, ℕ, zero, suc, true, false, cond, List, [], ◌∷◌, length, get_or, sym, ap, ◌∙◌, arith}
use Rattle.std.specs.Prelude.{reverse}
use Rattle.std.proofs.lemmas.List.{reverse-append}
use Rattle.page_model.specs.Nodes.{Node}
use Rattle.page_model.specs.Page.{Page}
use Rattle.row_opening.specs.Opened.{page_at}
use Rattle.engine_calls.specs.core_calls.Room.{frees_from}

-- a page that comes behind the others is the first of them in reverse
pub reverse_last : (xs : List ℕ) (x : ℕ) → reverse (xs ++ x ∷ []) ≡ x ∷ reverse xs
reverse_last xs x = reverse-append xs (x ∷ [])

-- the page that stands at a place
pub at_page : (pages : List Page) (p : ℕ) (x : Page) → p < length pages → x ≡ get_or pages p x → page_at pages p ≡ x
at_page [] p x lt e = absurd (omega arith)
at_page (y ∷ ys) zero x lt e = sym e
at_page (y ∷ ys) (suc p) x lt e = at_page ys p x (omega arith) e

-- ## The pages one by one, from the last down

module _ (node : ℕ → Node) (count n : ℕ) (more : n < count) where
  at_is : suc (count - (n + 1)) ≡ count - n
  at_is = omega arith

  next_is : frees_from node (n + 1) (count - (n + 1)) ≡ frees_from node (suc n) (count - (n + 1))
  next_is = let e : n + 1 ≡ suc n = omega arith in ap (λ k. frees_from node k (count - (n + 1))) e

  pub live_next : (node (count - (n + 1))).live ≡ true → frees_from node (n + 1) (count - (n + 1)) ≡ frees_from node n (count - n)
  live_next live = next_is ∙ ((λ i. cond (live i) (frees_from node n (suc (count - (n + 1)))) ((count - (n + 1)) ∷ frees_from node n (suc (count - (n + 1))))) ∙ ap (frees_from node n) at_is)

  pub free_next : (node (count - (n + 1))).live ≡ false → frees_from node (n + 1) (count - (n + 1)) ≡ (count - (n + 1)) ∷ frees_from node n (count - n)
  free_next live = next_is ∙ ((λ i. cond (live i) (frees_from node n (suc (count - (n + 1)))) ((count - (n + 1)) ∷ frees_from node n (suc (count - (n + 1))))) ∙ ap (λ k. (count - (n + 1)) ∷ frees_from node n k) at_is)
