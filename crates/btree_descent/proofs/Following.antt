-- The pair that follows a key in a leaf, and the entries that a walk meets there, entry by entry.
use Rattle.std.proofs.Common.{◌≡◌, ◌&&◌, ltb, leb, ◌<◌, ◌≤◌, ◌+◌, ℕ, zero, suc, Bool, true, false, List, [], ◌∷◌, length, drop, refl, sym, ap, ◌∙◌, arith}
use Rattle.std.specs.Prelude.{if◌then◌else◌, nat_lt}
use Rattle.std.proofs.lemmas.Bool.{cond-true, cond-false, and_from, and_left, and_right, le-ltb, lt-ltb, le-leb, ltb-false}
use Rattle.map_model.specs.Maps.{MapAnswer}
use Rattle.page_model.specs.Pairs.{Pair, Rising}
use Rattle.lean_proto.proofs.btree_node.PlaceLemmas.{rising-from}
use Rattle.page_model.specs.Nodes.{Format}
use Rattle.page_model.specs.Needs.{key_at}
use Rattle.page_model.specs.Page.{word_at}
use Rattle.lean_proto.specs.btree_node.Inside.{place}
use Rattle.lean_proto.specs.core_state.Needs.{following}
use Rattle.core_index.specs.Walks.{met_keys}

-- it hangs on the tombstone's word alone
pub following_as : (f g : Format) (k high : ℕ) (ps : List Pair) → f.dead ≡ g.dead → following f k ps high ≡ following g k ps high
following_as f g k high [] e = refl
following_as f g k high (x ∷ xs) e = (λ i. if leb k x.key && ltb x.word (e i) then MapAnswer.Pair x.key x.word else following_as f g k high xs e i)

-- the pairs before a key's place are passed
pub behind_place : (f : Format) (k high : ℕ) (ps : List Pair) → following f k (drop (place k ps) ps) high ≡ following f k ps high
behind_place f k high [] = refl
behind_place f k high (x ∷ xs) = go (nat_lt x.key k) refl (behind_place f k high xs)
  where
    go : (b : Bool) → nat_lt x.key k ≡ b → following f k (drop (place k xs) xs) high ≡ following f k xs high
        → following f k (drop (if b then suc (place k xs) else 0) (x ∷ xs)) high ≡ (if leb k x.key && ltb x.word f.dead then MapAnswer.Pair x.key x.word else following f k xs high)
    go true e rest = rest ∙ sym (cond-false (leb k x.key && ltb x.word f.dead) (MapAnswer.Pair x.key x.word) (following f k xs high) (and_left (leb k x.key) (ltb x.word f.dead) (below e)))
      where
        below : nat_lt x.key k ≡ true → leb k x.key ≡ false
        below h = Rattle.std.proofs.lemmas.Bool.lt-leb k x.key (Rattle.std.proofs.lemmas.Bool.ltb-true x.key k h)
    go false e rest = refl

-- the pair at a place, and those behind it
pub at_place : (i : ℕ) (ps : List Pair) → i < length ps → drop i ps ≡ record { key = key_at i ps; word = word_at i ps } ∷ drop (i + 1) ps
at_place i [] lt = absurd (omega arith)
at_place zero (x ∷ xs) lt = refl
at_place (suc i) (x ∷ xs) lt = let e : suc (i + 1) ≡ suc i + 1 = omega arith in at_place i xs (omega arith) ∙ ap (λ n. record { key = key_at i xs; word = word_at i xs } ∷ drop n (x ∷ xs)) e

-- a tombstone is passed
pub passed_dead : (f : Format) (k high key word : ℕ) (ps : List Pair) → f.dead ≤ word → following f k (record { key = key; word = word } ∷ ps) high ≡ following f k ps high
passed_dead f k high key word ps le = cond-false (leb k key && ltb word f.dead) (MapAnswer.Pair key word) (following f k ps high) (and_right (leb k key) (ltb word f.dead) (le-ltb word f.dead le))

-- a live pair at or above the key is the one
pub met_live : (f : Format) (k high key word : ℕ) (ps : List Pair) → k ≤ key → word < f.dead → following f k (record { key = key; word = word } ∷ ps) high ≡ MapAnswer.Pair key word
met_live f k high key word ps le lt = cond-true (leb k key && ltb word f.dead) (MapAnswer.Pair key word) (following f k ps high) (and_from (leb k key) (ltb word f.dead) (le-leb k key le) (lt-ltb word f.dead lt))

-- a key that stands at a place behind those below is not below
pub at_or_above : (low high k : ℕ) (ps : List Pair) (i : ℕ) → Rising low ps high → place k ps ≤ i → i < length ps → k ≤ key_at i ps
at_or_above low high k [] i r le lt = absurd (omega arith)
at_or_above low high k (x ∷ xs) i r le lt = go (nat_lt x.key k) refl i le lt (λ j. at_or_above (suc x.key) high k xs j r.1)
  where
    go : (b : Bool) → nat_lt x.key k ≡ b → (i : ℕ) → (if b then suc (place k xs) else 0) ≤ i → i < suc (length xs) → ((j : ℕ) → place k xs ≤ j → j < length xs → k ≤ key_at j xs) → k ≤ key_at i (x ∷ xs)
    go true e zero le lt rest = absurd (omega arith)
    go true e (suc j) le lt rest = rest j (omega arith) (omega arith)
    go false e zero le lt rest = let h = ltb-false x.key k e in omega arith
    go false e (suc j) le lt rest = let h = ltb-false x.key k e in let g = rising-from (suc x.key) high xs j r.1 (omega arith) in omega arith

-- ## What is met

-- it hangs on the tombstone's word alone
pub met_as : (f g : Format) (k : ℕ) (ps : List Pair) → f.dead ≡ g.dead → met_keys f k ps ≡ met_keys g k ps
met_as f g k [] e = refl
met_as f g k (x ∷ xs) e = (λ i. if leb k x.key then x.key ∷ (if ltb x.word (e i) then [] else met_as f g k xs e i) else met_as f g k xs e i)

-- those before a key's place are not met
pub met_behind : (f : Format) (k : ℕ) (ps : List Pair) → met_keys f k ps ≡ met_keys f k (drop (place k ps) ps)
met_behind f k [] = refl
met_behind f k (x ∷ xs) = go (nat_lt x.key k) refl (met_behind f k xs)
  where
    go : (b : Bool) → nat_lt x.key k ≡ b → met_keys f k xs ≡ met_keys f k (drop (place k xs) xs)
        → (if leb k x.key then x.key ∷ (if ltb x.word f.dead then [] else met_keys f k xs) else met_keys f k xs) ≡ met_keys f k (drop (if b then suc (place k xs) else 0) (x ∷ xs))
    go true e rest = cond-false (leb k x.key) (x.key ∷ (if ltb x.word f.dead then [] else met_keys f k xs)) (met_keys f k xs) (Rattle.std.proofs.lemmas.Bool.lt-leb k x.key (Rattle.std.proofs.lemmas.Bool.ltb-true x.key k e)) ∙ rest
    go false e rest = refl

-- one at or above the key is met, and behind a tombstone those that follow
pub met_dead : (f : Format) (k key word : ℕ) (ps : List Pair) → k ≤ key → f.dead ≤ word → met_keys f k (record { key = key; word = word } ∷ ps) ≡ key ∷ met_keys f k ps
met_dead f k key word ps le high =
    cond-true (leb k key) (key ∷ (if ltb word f.dead then [] else met_keys f k ps)) (met_keys f k ps) (le-leb k key le)
    ∙ ap (λ (xs : List ℕ). key ∷ xs) (cond-false (ltb word f.dead) [] (met_keys f k ps) (le-ltb word f.dead high))

-- behind a live pair none
pub met_last : (f : Format) (k key word : ℕ) (ps : List Pair) → k ≤ key → word < f.dead → met_keys f k (record { key = key; word = word } ∷ ps) ≡ key ∷ []
met_last f k key word ps le low =
    cond-true (leb k key) (key ∷ (if ltb word f.dead then [] else met_keys f k ps)) (met_keys f k ps) (le-leb k key le)
    ∙ ap (λ (xs : List ℕ). key ∷ xs) (cond-true (ltb word f.dead) [] (met_keys f k ps) (lt-ltb word f.dead low))

-- the first of them is the entry itself
pub met_first : (f : Format) (k key word : ℕ) (ps : List Pair) → k ≤ key → met_keys f k (record { key = key; word = word } ∷ ps) ≡ key ∷ (if ltb word f.dead then [] else met_keys f k ps)
met_first f k key word ps le = cond-true (leb k key) (key ∷ (if ltb word f.dead then [] else met_keys f k ps)) (met_keys f k ps) (le-leb k key le)
