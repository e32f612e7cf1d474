-- The pairs of a map between two keys.
use Rattle.std.proofs.Common.{◌≡◌, ◌+◌, ◌-◌, ◌==◌, ◌++◌, ℕ, zero, suc, Bool, true, false, ltb, cond, List, [], ◌∷◌, Option, Some, None, refl, sym, ap, ◌∙◌, subst, inl, inr, arith}
use Rattle.std.proofs.lemmas.Bool.{cases_lt, cond-true, cond-false, eq-eqb, eqb-true}
use Rattle.map_model.specs.Maps.{Map, key_end}
use Rattle.page_model.specs.Pairs.{Pair, Rising, find}
use Rattle.page_model.specs.Nodes.{Format, Node}
use Rattle.page_model.specs.Tree.{IsTree, value, value_of}
use Rattle.page_model.proofs.Pairs.{rising_weak, rising_append, find_out, find_beyond, find_append_left, find_append_right}
use Rattle.page_model.proofs.Entries.{entry_beyond}
use Rattle.pair_walk.specs.Listings.{Lists, ArePairsOf, live}
use Rattle.pair_walk.specs.Laws.{HasPairs, ListingLaws}

-- ## Values among pairs

pub rising_live : (dead a : ℕ) (ps : List Pair) (b : ℕ) → Rising a ps b → Rising a (live dead ps) b
rising_live dead a [] b r = r
rising_live dead a (x ∷ xs) b r = go (ltb x.word dead) (rising_live dead (suc x.key) xs b r.1)
  where
    go : (t : Bool) → Rising (suc x.key) (live dead xs) b → Rising a (cond t (x ∷ live dead xs) (live dead xs)) b
    go true i = (r.0, i)
    go false i = let l = r.0 in rising_weak (suc x.key) a (live dead xs) b (omega arith) i

-- a key has a pair among them exactly where its word is a value
pub find_live : (f : Format) (a k : ℕ) (ps : List Pair) (b : ℕ) → Rising a ps b → find k (live f.dead ps) ≡ value_of f (find k ps)
find_live f a k [] b r = refl
find_live f a k (x ∷ xs) b r = go (ltb x.word f.dead) (x.key == k) refl refl (find_live f (suc x.key) k xs b r.1)
  where
    go : (t u : Bool) → ltb x.word f.dead ≡ t → (x.key == k) ≡ u → find k (live f.dead xs) ≡ value_of f (find k xs)
        → find k (cond t (x ∷ live f.dead xs) (live f.dead xs)) ≡ value_of f (cond u (Some x.word) (find k xs))
    go true true d e ih = cond-true (x.key == k) (Some x.word) (find k (live f.dead xs)) e ∙ sym (cond-true (ltb x.word f.dead) (Some x.word) None d)
    go true false d e ih = cond-false (x.key == k) (Some x.word) (find k (live f.dead xs)) e ∙ ih
    go false true d e ih =
        let same = eqb-true x.key k e in
        find_out (suc x.key) k (live f.dead xs) b (rising_live f.dead (suc x.key) xs b r.1) (omega arith) ∙ sym (cond-false (ltb x.word f.dead) (Some x.word) None d)
    go false false d e ih = ih

-- ## Between two keys

lists_none : (map : Map) (a : ℕ) → Lists map a a []
lists_none map a = record { rising = omega arith; all = λ k l h. absurd (omega arith) }

lists_append : (map : Map) (a b c : ℕ) (xs ys : List Pair) → Lists map a b xs → Lists map b c ys → Lists map a c (xs ++ ys)
lists_append map a b c xs ys p q = record {
  rising = rising_append a b c xs ys p.rising q.rising;
  all = λ k l h. elim (cases_lt k b) [
    | inl lt ↦ find_append_left a b c k xs ys p.rising q.rising lt ∙ p.all k l lt
    | inr le ↦ find_append_right a b k xs ys p.rising le ∙ q.all k le h
  ];
}

abbrev one : ℕ → Option ℕ → List Pair
one k None = []
one k (Some v) = record { key = k; word = v } ∷ []

lists_one : (map : Map) (k : ℕ) → Lists map k (suc k) (one k (map k))
lists_one map k = go (map k) refl
  where
    go : (o : Option ℕ) → map k ≡ o → Lists map k (suc k) (one k o)
    go None e = record { rising = omega arith; all = λ j l h. let same : j ≡ k = omega arith in sym (ap map same ∙ e) }
    go (Some v) e = record {
      rising = (omega arith, omega arith);
      all = λ j l h. let same : j ≡ k = omega arith in cond-true (k == j) (Some v) None (eq-eqb k j (sym same)) ∙ sym (ap map same ∙ e);
    }

has_pairs : (map : Map) (n low high : ℕ) → low + n ≡ high → HasPairs map low high
has_pairs map zero low high e = record { pairs = []; are = let same : low ≡ high = omega arith in subst (λ (h : ℕ). Lists map low h []) same (lists_none map low) }
has_pairs map (suc n) low high e = more (has_pairs map n (suc low) high (omega arith))
  where
    more : HasPairs map (suc low) high → HasPairs map low high
    more rest = record { pairs = one low (map low) ++ rest.pairs; are = lists_append map low (suc low) high (one low (map low)) rest.pairs (lists_one map low) rest.are }

-- ## All pairs of a tree

lists_whole : (f : Format) (node : ℕ → Node) (ps : List Pair) → f.top ≡ key_end → IsTree f node → Lists (value f node) 0 key_end ps → ArePairsOf (value f node) ps
lists_whole f node ps top t l = record {
  rising = l.rising;
  all = λ k. elim (cases_lt k key_end) [
    | inl lt ↦ l.all k (omega arith) lt
    | inr le ↦ find_beyond 0 k ps key_end l.rising le ∙ sym (ap (value_of f) (entry_beyond f node t k (omega arith)))
  ];
}

pub every_listing : ListingLaws
every_listing = record {
  some = λ map low high le. has_pairs map (high - low) low high (omega arith);
  joined = lists_append;
  whole = lists_whole;
}
