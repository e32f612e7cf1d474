-- One level of a key's way: which page it is, and beside which one it stands.
use Rattle.std.proofs.Common.{◌≡◌, ◌≢◌, ◌⊎◌, inl, inr, ◌≤◌, ◌<◌, ◌+◌, ◌-◌, ◌==◌, ◌&&◌, ◌||◌, ℕ, zero, suc, Bool, true, false, cond, List, [], ◌∷◌, length, Some, None, refl, sym, ap, ◌∙◌, arith, eq-eqb}
use Rattle.std.proofs.lemmas.Bool.{and_from, cases_eq, cond-true, cond-false, eqb-true, ne_eqb}
use Rattle.page_model.specs.Check.{is_nil}
use Rattle.page_model.specs.Nodes.{covers}
use Rattle.page_model.specs.Pairs.{Pair}
use Rattle.page_model.specs.Page.{word_at}
use Rattle.page_model.specs.Tree.{IsTree}
use Rattle.row_changes.specs.session_state.core_calls.Room.{EveryRoom}
use Rattle.row_changes.specs.session_state.core_state.Events.{Event}
use Rattle.row_changes.specs.session_state.core_state.Openings.{Opening}
use Rattle.row_changes.specs.session_state.core_state.States.{State, nodes_of}
use Rattle.row_tidying.specs.tidy_rules.Tidying.{first_of, is_thin, join_under, next_drop, next_up, page_among, page_at, sisters}

-- ## The page of a level

-- it is found among the first n, where no other one is of the way
among_is : (s : State) (key l n p : ℕ) → p < n → covers (nodes_of s p) key ≡ true → (nodes_of s p).level ≡ l → ((q : ℕ) → q < n → covers (nodes_of s q) key ≡ true → (nodes_of s q).level ≡ l → q ≡ p) → page_among s key l n ≡ Some p
among_is s key l zero p lt c e one = absurd (omega arith)
among_is s key l (suc n) p lt c e one =
    go (λ ne. among_is s key l n p (omega arith) c e (λ q below cq eq. one q (omega arith) cq eq)) (covers (nodes_of s n) key) refl ((nodes_of s n).level == l) refl (cases_eq n p)
  where
    go : ((n ≡ p → ⊥) → page_among s key l n ≡ Some p) → (a : Bool) → covers (nodes_of s n) key ≡ a → (b : Bool) → ((nodes_of s n).level == l) ≡ b → (n ≡ p) ⊎ (n ≡ p → ⊥)
        → cond (covers (nodes_of s n) key && ((nodes_of s n).level == l)) (Some n) (page_among s key l n) ≡ Some p
    go later a ea b eb (inl q) =
        cond-true (covers (nodes_of s n) key && ((nodes_of s n).level == l)) (Some n) (page_among s key l n)
        (and_from (covers (nodes_of s n) key) ((nodes_of s n).level == l) (ap (λ (i : ℕ). covers (nodes_of s i) key) q ∙ c) (eq-eqb (nodes_of s n).level l (ap (λ (i : ℕ). (nodes_of s i).level) q ∙ e)))
        ∙ ap Some q
    go later true ea true eb (inr ne) = absurd (ne (one n (omega arith) ea (eqb-true (nodes_of s n).level l eb)))
    go later true ea false eb (inr ne) = (λ i. cond (ea i && eb i) (Some n) (page_among s key l n)) ∙ later ne
    go later false ea b eb (inr ne) = (λ i. cond (ea i && ((nodes_of s n).level == l)) (Some n) (page_among s key l n)) ∙ later ne

pub page_is : EveryRoom → (g : Opening) (s : State) (key l p : ℕ) → IsTree g.format (nodes_of s) → p < g.format.pages → covers (nodes_of s p) key ≡ true → (nodes_of s p).level ≡ l → page_at g s key l ≡ Some p
page_is rooms g s key l p tree lt c e = among_is s key l g.format.pages p lt c e (λ q below cq eq. (rooms g s key).one tree q p below lt cq c (eq ∙ sym e))

-- ## Neighbours

-- the page with the next one
pub next_sister : (xs : List Pair) (at p : ℕ) → suc at < length xs → word_at at xs ≡ p → ((j : ℕ) → j < at → word_at j xs ≢ p) → sisters xs p ≡ Some (record { left = p; right = word_at (suc at) xs })
next_sister [] at p lt e before = absurd (omega arith)
next_sister (x ∷ []) at p lt e before = absurd (omega arith)
next_sister (x ∷ y ∷ ys) zero p lt e before =
    cond-true ((x.word == p) || ((y.word == p) && is_nil ys)) (Some (record { left = x.word; right = y.word })) (sisters (y ∷ ys) p) (ap (λ b. b || ((y.word == p) && is_nil ys)) (eq-eqb x.word p e))
    ∙ ap (λ (w : ℕ). Some (record { left = w; right = y.word })) e
next_sister (x ∷ y ∷ ys) (suc at) p lt e before =
    cond-false ((x.word == p) || ((y.word == p) && is_nil ys)) (Some (record { left = x.word; right = y.word })) (sisters (y ∷ ys) p) (other ys lt)
    ∙ next_sister (y ∷ ys) at p (omega arith) e (λ j below. before (suc j) (omega arith))
  where
    and_false : (b : Bool) → (b && false) ≡ false
    and_false true = refl
    and_false false = refl

    other : (zs : List Pair) → suc (suc at) < length (x ∷ y ∷ zs) → ((x.word == p) || ((y.word == p) && is_nil zs)) ≡ false
    other [] l = absurd (omega arith)
    other (z ∷ zs) l = ap (λ b. b || ((y.word == p) && false)) (ne_eqb x.word p (before 0 (omega arith))) ∙ and_false (y.word == p)

-- the last page with the one before it
pub last_sister : (xs : List Pair) (at p : ℕ) → suc (suc at) ≡ length xs → word_at (suc at) xs ≡ p → ((j : ℕ) → j < suc at → word_at j xs ≢ p) → sisters xs p ≡ Some (record { left = word_at at xs; right = p })
last_sister [] at p lt e before = absurd (omega arith)
last_sister (x ∷ []) at p lt e before = absurd (omega arith)
last_sister (x ∷ y ∷ []) zero p lt e before =
    cond-true ((x.word == p) || ((y.word == p) && true)) (Some (record { left = x.word; right = y.word })) (sisters (y ∷ []) p)
    (ap (λ b. b || ((y.word == p) && true)) (ne_eqb x.word p (before 0 (omega arith))) ∙ ap (λ b. b && true) (eq-eqb y.word p e))
    ∙ ap (λ (w : ℕ). Some (record { left = x.word; right = w })) e
last_sister (x ∷ y ∷ z ∷ zs) zero p lt e before = absurd (omega arith)
last_sister (x ∷ y ∷ ys) (suc at) p lt e before =
    cond-false ((x.word == p) || ((y.word == p) && is_nil ys)) (Some (record { left = x.word; right = y.word })) (sisters (y ∷ ys) p)
    (ap (λ b. b || ((y.word == p) && is_nil ys)) (ne_eqb x.word p (before 0 (omega arith))) ∙ ap (λ b. b && is_nil ys) (ne_eqb y.word p (before 1 (omega arith))))
    ∙ last_sister (y ∷ ys) at p (omega arith) e (λ j below. before (suc j) (omega arith))

-- a page alone has none
pub no_sister : (xs : List Pair) (p : ℕ) → length xs < 2 → sisters xs p ≡ None
no_sister [] p lt = refl
no_sister (x ∷ []) p lt = refl
no_sister (x ∷ y ∷ ys) p lt = absurd (omega arith)

-- ## The way up

module _ (own : ℕ) (g : Opening) (s : State) (key : ℕ) where
  -- behind a level that is thin and is not joined comes the next one
  pub up_passed : (n l : ℕ) → is_thin s (page_at g s key l) ≡ true → join_under own g s (page_at g s key l) (page_at g s key (suc l)) ≡ None → next_up own g s key (suc n) l ≡ next_up own g s key n (suc l)
  up_passed n l thin none =
      cond-true (is_thin s (page_at g s key l)) (first_of (join_under own g s (page_at g s key l) (page_at g s key (suc l))) (next_up own g s key n (suc l))) (next_drop own s) thin
      ∙ ap (λ a. first_of a (next_up own g s key n (suc l))) none

  -- behind one that is not thin the drop
  pub up_thick : (n l : ℕ) → is_thin s (page_at g s key l) ≡ false → next_up own g s key n l ≡ next_drop own s
  up_thick zero l thick = refl
  up_thick (suc n) l thick = cond-false (is_thin s (page_at g s key l)) (first_of (join_under own g s (page_at g s key l) (page_at g s key (suc l))) (next_up own g s key n (suc l))) (next_drop own s) thick

  -- one that is joined is next
  pub up_joins : (n l : ℕ) (e : Event) → is_thin s (page_at g s key l) ≡ true → join_under own g s (page_at g s key l) (page_at g s key (suc l)) ≡ Some e → next_up own g s key (suc n) l ≡ Some e
  up_joins n l e thin joins =
      cond-true (is_thin s (page_at g s key l)) (first_of (join_under own g s (page_at g s key l) (page_at g s key (suc l))) (next_up own g s key n (suc l))) (next_drop own s) thin
      ∙ ap (λ a. first_of a (next_up own g s key n (suc l))) joins

  -- so many passed levels
  pub up_passes : (n l k : ℕ) → k ≤ n → ((j : ℕ) → l ≤ j → j < l + k → is_thin s (page_at g s key j) ≡ true) → ((j : ℕ) → l ≤ j → j < l + k → join_under own g s (page_at g s key j) (page_at g s key (suc j)) ≡ None)
      → next_up own g s key n l ≡ next_up own g s key (n - k) (l + k)
  up_passes n l zero le thin none = (let e : l ≡ l + 0 = omega arith in let f : n ≡ n - 0 = omega arith in λ i. next_up own g s key (f i) (e i))
  up_passes zero l (suc k) le thin none = absurd (omega arith)
  up_passes (suc n) l (suc k) le thin none =
      up_passed n l (thin l (omega arith) (omega arith)) (none l (omega arith) (omega arith))
      ∙ (up_passes n (suc l) k (omega arith) (λ j low high. thin j (omega arith) (omega arith)) (λ j low high. none j (omega arith) (omega arith))
      ∙ (let e : suc l + k ≡ l + suc k = omega arith in let f : n - k ≡ suc n - suc k = omega arith in λ i. next_up own g s key (f i) (e i)))
