-- The marks of free pages, as they are set one page after another.
use Rattle.std.proofs.Common.{◌≡◌, ◌<◌, ◌+◌, ℕ, zero, suc, Bool, true, false, not, List, [], ◌∷◌, length, replicate, get_or, set, Some, slice_get, refl, sym, ap, ◌∙◌, arith}
use Rattle.std.proofs.lemmas.List.{length-replicate}
use Rattle.std.proofs.lemmas.Option.{none-some, same_Some}
use Rattle.page_model.specs.Page.{Page}
use Rattle.session_state.specs.row_opening.Opened.{page_at}
use Rattle.paged_opening.specs.Opened.{free_of}

-- the marks of the first n pages are set, and no other
abbrev pub free_to : ℕ → List Page → List Bool
free_to zero xs = replicate (length xs) false
free_to (suc n) [] = []
free_to (suc n) (x ∷ xs) = not x.node.live ∷ free_to n xs

pub to_all : (xs : List Page) → free_to (length xs) xs ≡ free_of xs
to_all [] = refl
to_all (x ∷ xs) = ap (λ ys. not x.node.live ∷ ys) (to_all xs)

pub to_length : (n : ℕ) (xs : List Page) → length (free_to n xs) ≡ length xs
to_length zero xs = length-replicate (length xs) false
to_length (suc n) [] = refl
to_length (suc n) (x ∷ xs) = ap suc (to_length n xs)

pub of_length : (xs : List Page) → length (free_of xs) ≡ length xs
of_length [] = refl
of_length (x ∷ xs) = ap suc (of_length xs)

-- one more is looked at
next_free : (n : ℕ) (xs : List Page) (x : Page) → slice_get xs n ≡ Some x → x.node.live ≡ false → free_to (suc n) xs ≡ set (free_to n xs) n true
next_free n [] x e free = absurd (none-some x e)
next_free zero (y ∷ ys) x e free = ap (λ (b : Bool). not b ∷ replicate (length ys) false) (ap (λ (z : Page). z.node.live) (same_Some y x e) ∙ free)
next_free (suc n) (y ∷ ys) x e free = ap (λ zs. not y.node.live ∷ zs) (next_free n ys x e free)

next_live : (n : ℕ) (xs : List Page) (x : Page) → slice_get xs n ≡ Some x → x.node.live ≡ true → free_to (suc n) xs ≡ free_to n xs
next_live n [] x e live = absurd (none-some x e)
next_live zero (y ∷ ys) x e live = ap (λ (b : Bool). not b ∷ replicate (length ys) false) (ap (λ (z : Page). z.node.live) (same_Some y x e) ∙ live)
next_live (suc n) (y ∷ ys) x e live = ap (λ zs. not y.node.live ∷ zs) (next_live n ys x e live)

after : (n : ℕ) (xs : List Page) → free_to (n + 1) xs ≡ free_to (suc n) xs
after n xs = let e : n + 1 ≡ suc n = omega arith in ap (λ k. free_to k xs) e

pub free_next : (n : ℕ) (xs : List Page) (x : Page) → slice_get xs n ≡ Some x → x.node.live ≡ false → free_to (n + 1) xs ≡ set (free_to n xs) n true
free_next n xs x e free = after n xs ∙ next_free n xs x e free

pub live_next : (n : ℕ) (xs : List Page) (x : Page) → slice_get xs n ≡ Some x → x.node.live ≡ true → free_to (n + 1) xs ≡ free_to n xs
live_next n xs x e live = after n xs ∙ next_live n xs x e live

-- the mark of a page
pub marked : (xs : List Page) (p : ℕ) → p < length xs → get_or (free_of xs) p false ≡ not (page_at xs p).node.live
marked [] p lt = absurd (omega arith)
marked (x ∷ xs) zero lt = refl
marked (x ∷ xs) (suc p) lt = marked xs p (omega arith)

-- the page at a place
pub at_page : (xs : List Page) (n : ℕ) (x : Page) → n < length xs → x ≡ get_or xs n x → slice_get xs n ≡ Some x
at_page [] n x lt e = absurd (omega arith)
at_page (y ∷ ys) zero x lt e = ap Some (sym e)
at_page (y ∷ ys) (suc n) x lt e = at_page ys n x (omega arith) e
