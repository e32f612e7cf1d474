-- The greatest of a number and the numbers of pages, page by page.
use Rattle.std.proofs.Common.{◌≡◌, ◌<◌, ◌≤◌, ◌⊎◌, ℕ, suc, max, List, length, get_or, refl, sym, ◌∙◌, ap, inl, inr, arith}
use Rattle.std.proofs.lemmas.Bool.{cases_eq, cases_lt}
use Rattle.page_model.specs.Page.{Page}
use Rattle.disk_image.specs.image_model.Entries as model
use Rattle.record_redo.specs.Pages.{pages_of}
use Rattle.recovery_redo.specs.Inside.{IsAtop}
use Rattle.record_redo.proofs.PageLemmas.{page_here}

-- of the first pages
pub record IsAtopOf (far : ℕ) (pages : List Page) (k n : ℕ) : Type 0 where
  pub low : far ≤ n
  pub each : (p : ℕ) → p < k → (pages_of pages p).gsn ≤ n
  pub met : (n ≡ far) ⊎ ((p : ℕ) × (p < k) × (n ≡ (pages_of pages p).gsn))

pub atop_none : (far : ℕ) (pages : List Page) → IsAtopOf far pages 0 far
atop_none far pages = record { low = omega arith; each = λ p l. absurd (omega arith); met = inl refl }

module _ (far : ℕ) (pages : List Page) (k j n now : ℕ) (x d : Page) (e : j ≡ suc k) (l : k < length pages) (is : x ≡ get_or pages k d) (step : now ≡ max n x.gsn) (before : IsAtopOf far pages k n) where
  here : (pages_of pages k).gsn ≡ x.gsn
  here = ap (λ (v : model.Contents). v.gsn) (page_here pages k d l) ∙ ap (λ (v : Page). v.gsn) (sym is)

  top : (n < x.gsn) ⊎ (x.gsn ≤ n) → (n ≡ far) ⊎ ((p : ℕ) × (p < k) × (n ≡ (pages_of pages p).gsn)) → (now ≡ far) ⊎ ((p : ℕ) × (p < j) × (now ≡ (pages_of pages p).gsn))
  top (inl a) m = inr (k, omega arith, omega (arith, here, step, a))
  top (inr a) (inl b) = inl (omega (arith, step, a, b))
  top (inr a) (inr b) = let w = b.1 in let v = b.2 in inr (b.0, omega arith, omega (arith, step, a, v))

  at_most : (p : ℕ) → p < j → (p ≡ k) ⊎ (p ≡ k → ⊥) → (pages_of pages p).gsn ≤ now
  at_most p h (inl q) = let w = ap (λ (i : ℕ). (pages_of pages i).gsn) q in omega (arith, w, here, step)
  at_most p h (inr ne) = let b = before.each p (omega arith) in omega (arith, b, step)

  pub atop_more : IsAtopOf far pages j now
  atop_more = record {
    low = (let b = before.low in omega (arith, b, step));
    each = λ p h. at_most p h (cases_eq p k);
    met = top (cases_lt n x.gsn) before.met;
  }

pub atop_all : (far : ℕ) (pages : List Page) (k n : ℕ) → k ≡ length pages → IsAtopOf far pages k n → IsAtop far pages n
atop_all far pages k n h a = record {
  low = a.low;
  each = λ p l. a.each p (omega arith);
  met = go a.met;
}
  where
    go : (n ≡ far) ⊎ ((p : ℕ) × (p < k) × (n ≡ (pages_of pages p).gsn)) → (n ≡ far) ⊎ ((p : ℕ) × (p < length pages) × (n ≡ (pages_of pages p).gsn))
    go (inl e) = inl e
    go (inr m) = let w = m.1 in inr (m.0, omega arith, m.2)
