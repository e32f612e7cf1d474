-- The free pages, counted by marks and by the core.
use Rattle.std.proofs.Common.{◌≡◌, ℕ, zero, suc, Bool, true, false, not, ◌&&◌, List, [], ◌∷◌, length, refl, sym, ap, ◌∙◌}
use Rattle.std.specs.Prelude.{if◌then◌else◌}
use Rattle.btree_descent.specs.core_state.Lists.{count_below}
use Rattle.btree_descent.specs.core_state.States.{is_hot}
use Rattle.btree_descent.specs.row_words.Openings.{opening}
use Rattle.btree_descent.specs.rows_trait.Views.{state}
use Rattle.free_pages.specs.Pages.{count, is_in}
use Rattle.page_provider.specs.Fresh.{EveryFree}
use Rattle.page_provider.proofs.Amounts.{count_same}

-- the first one apart
count_front : (n : ℕ) (P : ℕ → Bool) → count_below (suc n) P ≡ (if P 0 then suc (count_below n (λ i. P (suc i))) else count_below n (λ i. P (suc i)))
count_front zero P = refl
count_front (suc n) P = go (P (suc n)) (P 0) (count_below n (λ i. P (suc i))) (count_below (suc n) P) (count_front n P)
  where
    go : (b c : Bool) (m k : ℕ) → k ≡ (if c then suc m else m) → (if b then suc k else k) ≡ (if c then suc (if b then suc m else m) else (if b then suc m else m))
    go true true m k e = ap suc e
    go true false m k e = ap suc e
    go false true m k e = e
    go false false m k e = e

count_list : (xs : List Bool) → count xs ≡ count_below (length xs) (is_in xs)
count_list [] = refl
count_list (x ∷ xs) = ap (λ m. if x then suc m else m) (count_list xs) ∙ sym (count_front (length xs) (is_in (x ∷ xs)))

pub free_are : EveryFree
free_are z v k c = count_list k.free ∙ (ap (λ n. count_below n (is_in k.free)) c.pages
    ∙ count_same (opening v.given).format.pages (λ p. not ((state v).core.page p).node.live && not (is_hot ((state v).core.place p))) (is_in k.free) (λ p lt. c.agrees.free p lt))
