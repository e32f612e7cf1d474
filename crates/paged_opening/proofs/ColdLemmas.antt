-- What is kept of the pages is right as the rows begin.
use Rattle.std.proofs.Common.{◌≡◌, ◌≢◌, ◌≤◌, ◌<◌, ◌+◌, ◌⊎◌, ◌&&◌, ℕ, zero, suc, Bool, true, false, ltb, List, [], ◌∷◌, length, replicate, set, Some, inl, inr, refl, sym, ap, ◌∙◌, subst, arith}
use Rattle.std.proofs.lemmas.Bool.{and_from, cases_lt, le-ltb, lt-ltb}
use Rattle.std.proofs.lemmas.List.{length-replicate, length-set}
use Rattle.session_state.specs.image_model.Entries.{Contents}
use Rattle.page_model.specs.Nodes.{Format}
use Rattle.page_model.specs.Page.{Page}
use Rattle.page_model.specs.Tree.{IsTree}
use Rattle.cold_pages.specs.declared.kept.Kept.{Kept}
use Rattle.cold_pages.specs.Kept.{AreWithin, children, kept_of, left, nothing, own}
use Rattle.cold_pages.specs.Laws.{EveryKept, EveryNew, IsButEntries, IsRight, contents}
use Rattle.cold_pages.proofs.TableLemmas.{length-named}
use Rattle.session_state.specs.row_opening.Opened.{page_at}
use Rattle.paged_opening.specs.Opened.{cold_of, cold_to}

pub cold_length : (pages : List Page) (n : ℕ) → length (cold_to pages n) ≡ length pages
cold_length pages zero = length-replicate (length pages) nothing
cold_length pages (suc zero) = length-replicate (length pages) nothing
cold_length pages (suc (suc n)) =
    let p = suc n in
    let t = cold_to pages p in
    length-named (Some p) (children (page_at pages p).node) (set t p (own (kept_of t p) (page_at pages p)))
    ∙ (length-set t p (own (kept_of t p) (page_at pages p)) ∙ cold_length pages (suc n))

-- one page more
pub cold_next : (pages : List Page) (n : ℕ) → 0 < n → cold_to pages (n + 1) ≡ left (cold_to pages n) n (page_at pages n)
cold_next pages zero l = absurd (let no : ⊥ = omega arith in no)
cold_next pages (suc n) l = let e : suc n + 1 ≡ suc (suc n) = omega arith in ap (cold_to pages) e

no_entries : (xs ys : List Kept) → length xs ≡ 0 → length ys ≡ 0 → xs ≡ ys
no_entries [] [] a b = refl
no_entries [] (y ∷ ys) a b = absurd (let e : suc (length ys) ≡ 0 = b in let no : ⊥ = omega arith in no)
no_entries (x ∷ xs) ys a b = absurd (let e : suc (length xs) ≡ 0 = a in let no : ⊥ = omega arith in no)

-- all of them
pub cold_end : (pages : List Page) (n : ℕ) → length pages ≤ n → (1 ≤ length pages → n ≤ length pages) → cold_to pages n ≡ cold_of pages
cold_end pages n past last = go (cases_lt 0 (length pages))
  where
    go : (0 < length pages) ⊎ (length pages ≤ 0) → cold_to pages n ≡ cold_of pages
    go (inl some) = let up : n ≤ length pages = last (omega arith) in let e : n ≡ length pages = omega arith in ap (cold_to pages) e
    go (inr none) = let z : length pages ≡ 0 = omega arith in no_entries (cold_to pages n) (cold_of pages) (cold_length pages n ∙ z) (cold_length pages (length pages) ∙ z)

but_none : (x : Contents) → IsButEntries x x
but_none x = record { gsn = refl; last = refl; fields = refl; other = λ _. refl }

pub but_same : {x y : Contents} → y ≡ x → IsButEntries x y
but_same {x} {y} e = subst (λ (w : Contents). IsButEntries x w) (sym e) (but_none x)

-- the pages from 1 up to n
abbrev pub is_below : ℕ → ℕ → Bool
is_below n q = ltb 0 q && ltb q n

module _ (every : EveryKept) (new : EveryNew) (f : Format) (pages : List Page) (tree : IsTree f (λ p. (page_at pages p).node)) (many : f.pages ≡ length pages) where
  abbrev page : ℕ → Contents
  page p = contents (page_at pages p)

  none : (cold : ℕ → Bool) → ((q : ℕ) → cold q ≡ false) → IsRight f page cold (replicate (length pages) nothing)
  none cold off =
      let start : IsRight f page (λ q. false) (replicate (length pages) nothing) = subst (λ n. IsRight f page (λ q. false) (replicate n nothing)) many (new f page) in
      (every f page (λ q. false) (replicate (length pages) nothing) tree start).stays page cold (λ q l. off q) (λ q l c. but_none (page q))

  off_zero : (q : ℕ) → is_below 0 q ≡ false
  off_zero q = go (ltb 0 q)
    where
      go : (b : Bool) → (b && ltb q 0) ≡ false
      go true = le-ltb q 0 (omega arith)
      go false = refl

  off_one : (q : ℕ) → is_below 1 q ≡ false
  off_one zero = refl
  off_one (suc q) = go (ltb 0 (suc q))
    where
      go : (b : Bool) → (b && ltb (suc q) 1) ≡ false
      go true = le-ltb (suc q) 1 (omega arith)
      go false = refl

  later : (n q : ℕ) → q ≢ suc n → is_below (suc (suc n)) q ≡ is_below (suc n) q
  later n q ne = ap (λ b. ltb 0 q && b) (go (cases_lt q (suc n)))
    where
      go : (q < suc n) ⊎ (suc n ≤ q) → ltb q (suc (suc n)) ≡ ltb q (suc n)
      go (inl l) = lt-ltb q (suc (suc n)) (omega arith) ∙ sym (lt-ltb q (suc n) l)
      go (inr l) = le-ltb q (suc (suc n)) (omega arith) ∙ sym (le-ltb q (suc n) l)

  pub cold_right : (n : ℕ) → n ≤ length pages → IsRight f page (is_below n) (cold_to pages n)
  cold_right zero l = none (is_below 0) off_zero
  cold_right (suc zero) l = none (is_below 1) off_one
  cold_right (suc (suc n)) l =
      (every f page (is_below (suc n)) (cold_to pages (suc n)) tree (cold_right (suc n) (omega arith))).leaves (suc n) (page_at pages (suc n)) (is_below (suc (suc n)))
      (let m = many in omega arith) refl (λ q m ne. later n q ne) (and_from (ltb 0 (suc n)) (ltb (suc n) (suc (suc n))) (lt-ltb 0 (suc n) (omega arith)) (lt-ltb (suc n) (suc (suc n)) (omega arith)))

  pub within : (p : ℕ) → p < length pages → AreWithin (length pages) (page_at pages p).node
  within p l =
      let start = none (λ q. false) (λ q. refl) in
      subst (λ n. AreWithin n (page_at pages p).node) (length-replicate (length pages) nothing) ((every f page (λ q. false) (replicate (length pages) nothing) tree start).within p (let m = many in omega arith))
