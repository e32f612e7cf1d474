-- Pages in frames: places, swips, and nodes as they stand there.
use Rattle.std.proofs.Common.{◌≡◌, ◌≢◌, ◌==◌, ◌||◌, ◌&&◌, ltb, leb, ◌<◌, ◌≤◌, ◌+◌, ◌^◌, ℕ, zero, suc, Bool, true, false, List, [], ◌∷◌, length, refl, sym, ap, ◌∙◌, true≢false, arith}
use Rattle.std.specs.Prelude.{slice_index, if◌then◌else◌}
use Rattle.std.proofs.lemmas.Bool.{cond-true, cond-false, lt-ltb, le-leb, le-ltb, eq-eqb}
use Rattle.map_model.specs.Lists.{any}
use Rattle.page_model.specs.Pairs.{Pair, Span, spans, Rising, route}
use Rattle.page_model.specs.Nodes.{Node}
use Rattle.page_model.specs.Needs.{key_at}
use Rattle.page_model.specs.Check.{names_page}
use Rattle.btree_node.specs.Words.{words_of}
use Rattle.core_state.specs.States.{Place, State, is_hot, is_cooling, frame_of, in_frame, left_by}
use Rattle.row_words.specs.Words.{swip, swips, is_inner, framed, framed_page}

-- ## Places

-- a hot page stands in its frame
pub hot_place : (x : Place) (f : ℕ) → x ≡ Place.Hot f → in_frame x f ≡ true
hot_place x f e = ap (λ z. in_frame z f) e ∙ eq-eqb f f refl

pub one_hot : (x : Place) (f : ℕ) → is_hot x ≡ true → frame_of x ≡ f → x ≡ Place.Hot f
one_hot (Place.Hot i) f h e = ap Place.Hot e
one_hot (Place.Cooling i e v) f h d = absurd (true≢false (sym h))
one_hot Place.Cold f h e = absurd (true≢false (sym h))

-- a worker that leaves moves no page
pub in_left : (w : ℕ) (x : Place) (f : ℕ) → in_frame (left_by w x) f ≡ in_frame x f
in_left w (Place.Hot f) i = refl
in_left w (Place.Cooling f e v) i = refl
in_left w Place.Cold i = refl

pub swip_left : (w : ℕ) (x : Place) (p : ℕ) → swip (left_by w x) p ≡ swip x p
swip_left w (Place.Hot f) p = refl
swip_left w (Place.Cooling f e v) p = refl
swip_left w Place.Cold p = refl

-- ## Swips

pub swip_cooling : (x : Place) (p : ℕ) → is_cooling x ≡ true → swip x p ≡ p
swip_cooling (Place.Hot f) p h = absurd (true≢false (sym h))
swip_cooling (Place.Cooling f e v) p h = refl
swip_cooling Place.Cold p h = refl

pub hot_swip : (x : Place) (c : ℕ) → c < 2 ^ 63 → 2 ^ 63 ≤ swip x c → (f : ℕ) × (x ≡ Place.Hot f) × (swip x c ≡ 2 ^ 63 + f)
hot_swip (Place.Hot f) c lt up = (f, refl, refl)
hot_swip (Place.Cooling f e v) c lt up = absurd (omega arith)
hot_swip Place.Cold c lt up = absurd (omega arith)

pub cold_swip : (x : Place) (c : ℕ) → swip x c < 2 ^ 63 → (is_hot x ≡ false) × (swip x c ≡ c)
cold_swip (Place.Hot f) c lt = absurd (omega arith)
cold_swip (Place.Cooling f e v) c lt = (refl, refl)
cold_swip Place.Cold c lt = (refl, refl)

-- ## Words

-- the generation's word aside, words don't hang on it
pub one_word : (s : State) (p a b i : ℕ) → i ≢ 2 → slice_index (words_of (framed_page s p a)) i ≡ slice_index (words_of (framed_page s p b)) i
one_word s p a b zero ne = refl
one_word s p a b (suc zero) ne = refl
one_word s p a b (suc (suc zero)) ne = absurd (ne refl)
one_word s p a b (suc (suc (suc i))) ne = refl

-- ## Nodes in frames

-- what of a node does not hang on its pairs
framed_part : {A : Type 0} (part : Node → A) (place : ℕ → Place) (v : Node) → part (record v { pairs = swips place v.pairs }) ≡ part v → part (framed place v) ≡ part v
framed_part part place v same = go (is_inner v)
  where
    go : (b : Bool) → part (if b then (record v { pairs = swips place v.pairs }) else v) ≡ part v
    go true = same
    go false = refl

pub framed_live : (place : ℕ → Place) (v : Node) → (framed place v).live ≡ v.live
framed_live place v = framed_part (λ z. z.live) place v refl

pub framed_level : (place : ℕ → Place) (v : Node) → (framed place v).level ≡ v.level
framed_level place v = framed_part (λ z. z.level) place v refl

pub framed_low : (place : ℕ → Place) (v : Node) → (framed place v).low ≡ v.low
framed_low place v = framed_part (λ z. z.low) place v refl

pub framed_high : (place : ℕ → Place) (v : Node) → (framed place v).high ≡ v.high
framed_high place v = framed_part (λ z. z.high) place v refl

pub framed_leaf : (place : ℕ → Place) (v : Node) → v.level ≡ 0 → framed place v ≡ v
framed_leaf place v z = let f : is_inner v ≡ false = no_inner v.live in cond-false (is_inner v) (record v { pairs = swips place v.pairs }) v f
  where
    no_inner : (b : Bool) → (b && ltb 0 v.level) ≡ false
    no_inner true = le-ltb 0 v.level (omega arith)
    no_inner false = refl

pub framed_inner : (place : ℕ → Place) (v : Node) → v.live ≡ true → 0 < v.level → framed place v ≡ record v { pairs = swips place v.pairs }
framed_inner place v l up = cond-true (is_inner v) (record v { pairs = swips place v.pairs }) v (rw (l, lt-ltb 0 v.level up) refl)

pub swips_length : (place : ℕ → Place) (xs : List Pair) → length (swips place xs) ≡ length xs
swips_length place [] = refl
swips_length place (x ∷ xs) = let e = swips_length place xs in omega arith

pub swips_rising : (place : ℕ → Place) (low : ℕ) (xs : List Pair) (high : ℕ) → Rising low xs high → Rising low (swips place xs) high
swips_rising place low [] high r = r
swips_rising place low (x ∷ xs) high r = (r.0, swips_rising place (suc x.key) xs high r.1)

pub swips_first : (place : ℕ → Place) (xs : List Pair) → key_at 0 (swips place xs) ≡ key_at 0 xs
swips_first place [] = refl
swips_first place (x ∷ xs) = refl

pub swips_route : (place : ℕ → Place) (xs : List Pair) (k w : ℕ) → route (swips place xs) k (swip (place w) w) ≡ swip (place (route xs k w)) (route xs k w)
swips_route place [] k w = refl
swips_route place (x ∷ xs) k w = go (leb x.key k) (swips_route place xs k x.word)
  where
    go : (b : Bool) → route (swips place xs) k (swip (place x.word) x.word) ≡ swip (place (route xs k x.word)) (route xs k x.word)
        → (if b then route (swips place xs) k (swip (place x.word) x.word) else swip (place w) w) ≡ swip (place (if b then route xs k x.word else w)) (if b then route xs k x.word else w)
    go true ih = ih
    go false ih = refl

-- where a key is above the first one, the word before it doesn't matter
pub swips_routed : (place : ℕ → Place) (xs : List Pair) (k : ℕ) → 0 < length xs → key_at 0 xs ≤ k → route (swips place xs) k 0 ≡ swip (place (route xs k 0)) (route xs k 0)
swips_routed place [] k some le = absurd (omega arith)
swips_routed place (x ∷ xs) k some le = rw (le-leb x.key k le) (swips_route place xs k x.word)

-- ## Two places of the pages that a node names

-- the swips of pairs hang on the pages that they name
pairs_same : (a b : ℕ → Place) (xs : List Pair) (high : ℕ) → ((c : ℕ) → any (λ (x : Span). x.child == c) (spans xs high) ≡ true → swip (b c) c ≡ swip (a c) c) → swips b xs ≡ swips a xs
pairs_same a b [] high h = refl
pairs_same a b (x ∷ xs) high h =
    let it : (x.word == x.word) ≡ true = eq-eqb x.word x.word refl in
    let first : swip (b x.word) x.word ≡ swip (a x.word) x.word = h x.word (rw it refl) in
    let rest = pairs_same a b xs high (λ c t. h c (or_right (x.word == c) t)) in
    (λ i. record { key = x.key; word = first i } ∷ rest i)
  where
    or_right : (p : Bool) {q : Bool} → q ≡ true → (p || q) ≡ true
    or_right true e = refl
    or_right false e = e

-- a node in a frame hangs on the swips of the pages that it names
pub framed_same : (a b : ℕ → Place) (v : Node) → ((c : ℕ) → names_page v c ≡ true → swip (b c) c ≡ swip (a c) c) → framed b v ≡ framed a v
framed_same a b v h = go (is_inner v) refl
  where
    go : (k : Bool) → is_inner v ≡ k → (if k then record v { pairs = swips b v.pairs } else v) ≡ (if k then record v { pairs = swips a v.pairs } else v)
    go true e = ap (λ z. record v { pairs = z }) (pairs_same a b v.pairs v.high (λ c t. h c (rw e t)))
    go false e = refl
