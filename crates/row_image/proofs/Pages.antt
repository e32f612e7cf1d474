-- The words of a page as it stands in a frame, and as it is written.
use Rattle.std.proofs.Common.{◌≡◌, ◌≢◌, ◌==◌, ◌||◌, ltb, ◌<◌, ◌≤◌, ◌+◌, ◌-◌, ◌*◌, ◌/◌, ◌%◌, ◌⊎◌, inl, inr, ℕ, zero, suc, Bool, true, false, List, [], ◌∷◌, ◌++◌, length, get_or, replicate, refl, sym, ap, subst, ◌∙◌, arith}
use Rattle.std.proofs.lemmas.List.{length-append, length-replicate}
use Rattle.std.proofs.lemmas.Bool.{lt-ltb}
use Rattle.std.proofs.lemmas.Bool.Decides.{nat_tests}
use Rattle.page_model.specs.Pairs.{Pair, Has, Span, spans}
use Rattle.page_model.specs.Nodes.{Node, WellFormed, NodeOk}
use Rattle.page_model.specs.Page as stored
use Rattle.page_model.specs.Check.{names_page}
use Rattle.map_model.specs.Lists.{any}
use Rattle.btree_descent.specs.btree_node.Words.{flat, words_of, Fits}
use Rattle.btree_descent.proofs.btree_node.FlatLemmas.{two_suc, length-flat}
use Rattle.btree_descent.proofs.btree_node.PlaceLemmas.{rising-ordered}
use Rattle.btree_descent.specs.core_state.States.{Place}
use Rattle.btree_descent.specs.row_words.declared.given.Given.{Given}
use Rattle.btree_descent.specs.row_words.Moments.{Moment}
use Rattle.btree_descent.specs.row_words.Openings.{opening}
use Rattle.btree_descent.specs.row_words.Words.{swip, swips}
use Rattle.btree_descent.specs.Known.{Sound}
use Rattle.row_image.specs.Images.{written}

-- ## The words of a pair

-- the word of pair j, where so many zeros stand behind the pairs
abbrev pub word_in : List Pair → ℕ → ℕ → ℕ
word_in xs n j = get_or (flat xs ++ replicate n 0) (suc (2 * j)) 0

abbrev pub key_in : List Pair → ℕ → ℕ → ℕ
key_in xs n j = get_or (flat xs ++ replicate n 0) (2 * j) 0

abbrev pub zeros : ℕ → List ℕ
zeros n = replicate n 0

zeros_at : (n i : ℕ) → get_or (zeros n) i 0 ≡ 0
zeros_at zero i = refl
zeros_at (suc n) zero = refl
zeros_at (suc n) (suc i) = zeros_at n i

pub swips_key : (place : ℕ → Place) (xs : List Pair) (n j : ℕ) → key_in (swips place xs) n j ≡ key_in xs n j
swips_key place [] n j = refl
swips_key place (x ∷ xs) n zero = refl
swips_key place (x ∷ xs) n (suc j) = rw two_suc (swips_key place xs n j)

-- a pair stands there
pub record IsPair (xs : List Pair) (n j : ℕ) : Type 0 where
  pub pair : Pair
  pub has : Has pair xs
  pub word : word_in xs n j ≡ pair.word
  pub framed : (place : ℕ → Place) → word_in (swips place xs) n j ≡ swip (place pair.word) pair.word

-- no pair stands there
pub record IsBehind (xs : List Pair) (n j : ℕ) : Type 0 where
  pub word : word_in xs n j ≡ 0
  pub framed : (place : ℕ → Place) → word_in (swips place xs) n j ≡ 0

pub pair_or_behind : (xs : List Pair) (n j : ℕ) → IsPair xs n j ⊎ IsBehind xs n j
pair_or_behind [] n j = inr (record { word = zeros_at n (suc (2 * j)); framed = λ place. zeros_at n (suc (2 * j)) })
pair_or_behind (x ∷ xs) n zero = inl (record { pair = x; has = inl refl; word = refl; framed = λ place. refl })
pair_or_behind (x ∷ xs) n (suc j) = further (pair_or_behind xs n j)
  where
    further : IsPair xs n j ⊎ IsBehind xs n j → IsPair (x ∷ xs) n (suc j) ⊎ IsBehind (x ∷ xs) n (suc j)
    further (inl p) = inl (record { pair = p.pair; has = inr p.has; word = rw two_suc p.word; framed = λ place. rw two_suc (p.framed place) })
    further (inr b) = inr (record { word = rw two_suc b.word; framed = λ place. rw two_suc (b.framed place) })

-- ## The words of a page

pub length_words : (p : stored.Page) → length p.node.pairs ≤ 60 → length (words_of p) ≡ 126
length_words p small =
    let zs : List ℕ = replicate (120 - 2 * length p.node.pairs) 0 in
    let a : length (flat p.node.pairs ++ zs) ≡ length (flat p.node.pairs) + length zs = length-append (flat p.node.pairs) zs in
    let b = length-flat p.node.pairs in
    let c : length zs ≡ 120 - 2 * length p.node.pairs = length-replicate {A = ℕ} (120 - 2 * length p.node.pairs) 0 in
    omega arith

pub key_at_words : (p : stored.Page) (j : ℕ) → get_or (words_of p) (6 + 2 * j) 0 ≡ key_in p.node.pairs (120 - 2 * length p.node.pairs) j
key_at_words p j = let six : 6 + 2 * j ≡ suc (suc (suc (suc (suc (suc (2 * j)))))) = omega arith in rw six refl

pub word_at_words : (p : stored.Page) (j : ℕ) → get_or (words_of p) (7 + 2 * j) 0 ≡ word_in p.node.pairs (120 - 2 * length p.node.pairs) j
word_at_words p j = let seven : 7 + 2 * j ≡ suc (suc (suc (suc (suc (suc (suc (2 * j))))))) = omega arith in rw seven refl

-- what holds of the six words of the head, and of the key and the word of each pair, holds of all words
pub each_word : (P : ℕ → Type 0) → ((i : ℕ) → i < 6 → P i) → ((j : ℕ) → j < 60 → P (6 + 2 * j)) → ((j : ℕ) → j < 60 → P (7 + 2 * j)) → (i : ℕ) → i < 126 → P i
each_word P head keys words i lt = go (ltb i 6) refl (i % 2 == 0) refl
  where
    go : (a : Bool) → ltb i 6 ≡ a → (b : Bool) → (i % 2 == 0) ≡ b → P i
    go true e b f = head i (grind (arith, nat_tests))
    go false e true f =
        let six : 6 ≤ i = grind (arith, nat_tests) in
        let even : i % 2 ≡ 0 = grind (arith, nat_tests) in
        let is : 6 + 2 * ((i - 6) / 2) ≡ i = omega arith in
        subst P is (keys ((i - 6) / 2) (omega arith))
    go false e false f =
        let six : 6 ≤ i = grind (arith, nat_tests) in
        let odd : i % 2 ≢ 0 = grind (arith, nat_tests) in
        let is : 7 + 2 * ((i - 6) / 2) ≡ i = omega arith in
        subst P is (words ((i - 6) / 2) (omega arith))

-- a page as it is written can be spelled
pub fits_written : (v : Given) (m : Moment) (p generation : ℕ) → Sound v m → p < (opening v).format.pages → Fits (written m.core p generation)
fits_written v m p generation sound lt = go (m.core.page p).node.live refl
  where
    formed : WellFormed (opening v).format (m.core.page p).node
    formed = sound.tree.formed p lt

    go : (b : Bool) → (m.core.page p).node.live ≡ b → Fits (written m.core p generation)
    go true e =
        let n = (m.core.page p).node in
        let ok : NodeOk (opening v).format n = formed.node e in
        record { room = ok.sized; level = ok.tall; last_log = sound.logs p; ordered = rising-ordered n.low n.pairs n.high ok.rising }
    go false e = subst (λ (n : Node). Fits (record { number = p; gsn = (m.core.page p).gsn; generation = generation; last_log = (m.core.page p).last; node = n })) (sym (formed.other e))
        record { room = omega arith; level = omega arith; last_log = sound.logs p; ordered = tt }

-- ## Names

any_span : (x : Pair) (xs : List Pair) (high : ℕ) → Has x xs → any (λ (s : Span). s.child == x.word) (spans xs high) ≡ true
any_span x [] high h = absurd h
any_span x (y ∷ ys) high (inl e) = let t : (y.word == x.word) ≡ true = ap (λ (z : Pair). y.word == z.word) e ∙ it y.word in rw t refl
  where
    it : (n : ℕ) → (n == n) ≡ true
    it n = grind (arith, nat_tests)
any_span x (y ∷ ys) high (inr h) = or_right (y.word == x.word) (any_span x ys high h)
  where
    or_right : (a : Bool) {b : Bool} → b ≡ true → (a || b) ≡ true
    or_right true e = refl
    or_right false e = e

-- an inner node names the pages of its pairs
pub names_pair : (v : Node) (x : Pair) → v.live ≡ true → 0 < v.level → Has x v.pairs → names_page v x.word ≡ true
names_pair v x l up h = rw (l, lt-ltb 0 v.level up, any_span x v.pairs v.high h) refl
