-- Pairs of nodes that stand in frames, whose words are swips where the node is an inner one.
use Rattle.std.proofs.Common.{◌≡◌, ◌==◌, ltb, ℕ, zero, suc, Bool, true, false, List, [], ◌∷◌, ◌++◌, refl, ap}
use Rattle.std.specs.Prelude.{if◌then◌else◌}
use Rattle.page_model.specs.Pairs.{Pair, put, keep}
use Rattle.page_model.specs.Nodes.{Node}
use Rattle.page_model.specs.Needs.{key_at}
use Rattle.btree_descent.specs.core_state.States.{Place}
use Rattle.btree_descent.specs.row_words.Words.{swip, swips, is_inner, framed}

module _ (place : ℕ → Place) where
  -- pairs in a frame: with swips where the node is an inner one
  abbrev pub shown : Bool → List Pair → List Pair
  shown b ps = if b then swips place ps else ps

  swips_keep : (p : ℕ → Bool) (ps : List Pair) → keep p (swips place ps) ≡ swips place (keep p ps)
  swips_keep p [] = refl
  swips_keep p (x ∷ xs) = go (p x.key) (swips_keep p xs)
    where
      go : (b : Bool) → keep p (swips place xs) ≡ swips place (keep p xs) → (if b then record { key = x.key; word = swip (place x.word) x.word } ∷ keep p (swips place xs) else keep p (swips place xs)) ≡ swips place (if b then x ∷ keep p xs else keep p xs)
      go true ih = ap (λ (ys : List Pair). record { key = x.key; word = swip (place x.word) x.word } ∷ ys) ih
      go false ih = ih

  pub swips_put : (k w : ℕ) (ps : List Pair) → put k (swip (place w) w) (swips place ps) ≡ swips place (put k w ps)
  swips_put k w [] = refl
  swips_put k w (x ∷ xs) = go (ltb k x.key) (x.key == k) (swips_put k w xs)
    where
      go : (b c : Bool) → put k (swip (place w) w) (swips place xs) ≡ swips place (put k w xs) → (if b then record { key = k; word = swip (place w) w } ∷ record { key = x.key; word = swip (place x.word) x.word } ∷ swips place xs else (if c then record { key = k; word = swip (place w) w } ∷ swips place xs else record { key = x.key; word = swip (place x.word) x.word } ∷ put k (swip (place w) w) (swips place xs)))
          ≡ swips place (if b then record { key = k; word = w } ∷ x ∷ xs else (if c then record { key = k; word = w } ∷ xs else x ∷ put k w xs))
      go true c ih = refl
      go false true ih = refl
      go false false ih = ap (λ (ys : List Pair). record { key = x.key; word = swip (place x.word) x.word } ∷ ys) ih

  swips_key_at : (i : ℕ) (ps : List Pair) → key_at i (swips place ps) ≡ key_at i ps
  swips_key_at i [] = refl
  swips_key_at zero (x ∷ xs) = refl
  swips_key_at (suc i) (x ∷ xs) = swips_key_at i xs

  pub shown_keep : (b : Bool) (p : ℕ → Bool) (ps : List Pair) → keep p (shown b ps) ≡ shown b (keep p ps)
  shown_keep true p ps = swips_keep p ps
  shown_keep false p ps = refl

  swips_append : (ps qs : List Pair) → swips place ps ++ swips place qs ≡ swips place (ps ++ qs)
  swips_append [] qs = refl
  swips_append (x ∷ xs) qs = ap (λ (ys : List Pair). record { key = x.key; word = swip (place x.word) x.word } ∷ ys) (swips_append xs qs)

  pub shown_append : (b : Bool) (ps qs : List Pair) → shown b ps ++ shown b qs ≡ shown b (ps ++ qs)
  shown_append true ps qs = swips_append ps qs
  shown_append false ps qs = refl

  pub shown_key_at : (b : Bool) (i : ℕ) (ps : List Pair) → key_at i (shown b ps) ≡ key_at i ps
  shown_key_at true i ps = swips_key_at i ps
  shown_key_at false i ps = refl

  -- a node in a frame has its pairs so
  pub framed_pairs : (v : Node) → (framed place v).pairs ≡ shown (is_inner v) v.pairs
  framed_pairs v = go (is_inner v)
    where
      go : (b : Bool) → (if b then record v { pairs = swips place v.pairs } else v).pairs ≡ shown b v.pairs
      go true = refl
      go false = refl

  pub framed_as : (v : Node) → framed place v ≡ record v { pairs = shown (is_inner v) v.pairs }
  framed_as v = go (is_inner v)
    where
      go : (b : Bool) → (if b then record v { pairs = swips place v.pairs } else v) ≡ record v { pairs = shown b v.pairs }
      go true = refl
      go false = refl
