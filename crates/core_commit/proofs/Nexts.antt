-- The pair that follows a key in a leaf.
use Rattle.page_model.specs.Pairs.{Pair, Rising, find}
use Rattle.page_model.specs.Nodes.{Format, Node, holds}
use Rattle.page_model.proofs.Pairs.{some_none, found_in}
use Rattle.page_model.proofs.Entries.{holds_to, holds_from}
use Rattle.std.proofs.Common.{◌≡◌, ◌≤◌, ◌<◌, ℕ, suc, Bool, true, false, cond, ◌&&◌, leb, ltb, ◌==◌, List, [], ◌∷◌, Some, refl, sym, ap, ap₂, ◌∙◌, arith, true≢false}
use Rattle.std.proofs.lemmas.Bool.{eq-eqb, ne_eqb, eqb-true, and_parts, leb-true, ltb-true, cond-true, cond-false}
use Rattle.map_model.specs.Maps.{MapAnswer}
use Rattle.core_state.specs.States.{State}
use Rattle.core_state.specs.Openings.{Opening}
use Rattle.core_state.specs.Events.{Event}
use Rattle.core_state.specs.Needs.{is_following, following, holds_answer, is_leaf_of, needs}

abbrev is_at : MapAnswer → Bool
is_at (MapAnswer.Pair k v) = true
is_at _ = false

abbrev key_of : MapAnswer → ℕ
key_of (MapAnswer.Pair k v) = k
key_of _ = 0

abbrev word_of : MapAnswer → ℕ
word_of (MapAnswer.Pair k v) = v
word_of _ = 0

pub following_is : (a b : MapAnswer) → is_following a b ≡ true → a ≡ b
following_is (MapAnswer.Pair k v) (MapAnswer.Pair j u) h = let p = and_parts (k == j) (v == u) h in ap₂ (λ (x y : ℕ). MapAnswer.Pair x y) (eqb-true k j p.0) (eqb-true v u p.1)
following_is (MapAnswer.Gap h) (MapAnswer.Gap i) e = ap (λ (x : ℕ). MapAnswer.Gap x) (eqb-true h i e)
following_is _ _ e = absurd (true≢false (sym e))

pub record FollowsAt (f : Format) (k : ℕ) (xs : List Pair) (at word : ℕ) : Type 0 where
  pub least : k ≤ at
  pub live : word < f.dead
  pub found : find at xs ≡ Some word

pub following_at : (f : Format) (k low : ℕ) (xs : List Pair) (high at word : ℕ) → Rising low xs high → following f k xs high ≡ MapAnswer.Pair at word → FollowsAt f k xs at word
following_at f k low [] high at word r e = absurd (true≢false (sym (ap is_at e)))
following_at f k low (x ∷ xs) high at word r e = go (leb k x.key && ltb x.word f.dead) refl e (following_at f k (suc x.key) xs high at word r.1)
  where
    go : (b : Bool) → (leb k x.key && ltb x.word f.dead) ≡ b → cond b (MapAnswer.Pair x.key x.word) (following f k xs high) ≡ MapAnswer.Pair at word → (following f k xs high ≡ MapAnswer.Pair at word → FollowsAt f k xs at word) → FollowsAt f k (x ∷ xs) at word
    go true t q ih =
        let p = and_parts (leb k x.key) (ltb x.word f.dead) t in
        let a : x.key ≡ at = ap key_of q in let b : x.word ≡ word = ap word_of q in
        let l = leb-true k x.key p.0 in let d = ltb-true x.word f.dead p.1 in
        record { least = omega arith; live = omega arith; found = cond-true (x.key == at) (Some x.word) (find at xs) (eq-eqb x.key at a) ∙ ap (λ (z : ℕ). Some z) b }
    go false t q ih =
        let h = ih q in
        let i = found_in (suc x.key) at xs high r.1 (λ z. some_none word (sym h.found ∙ z)) in
        let l = i.0 in
        record { least = h.least; live = h.live; found = cond-false (x.key == at) (Some x.word) (find at xs) (ne_eqb x.key at (λ z. absurd (omega arith))) ∙ h.found }

-- it is in the same leaf
pub follows_in : (v : Node) (k at word : ℕ) → Rising v.low v.pairs v.high → holds v k ≡ true → find at v.pairs ≡ Some word → holds v at ≡ true
follows_in v k at word r h e =
    let a = holds_to v k h in
    let i = found_in v.low at v.pairs v.high r (λ z. some_none word (sym e ∙ z)) in
    holds_from v at (record { lies = record { live = a.lies.live; low = i.0; high = i.1 }; leaf = a.leaf })

-- no other answer is given
pub no_answer : (g : Opening) (s : State) (w p k : ℕ) (a : MapAnswer) → is_following a (following g.format k (s.page p).node.pairs (s.page p).node.high) ≡ false → needs g s (Event.Next w p k a) ≡ true → ⊥
no_answer g s w p k a n m =
    let v = (s.page p).node in
    let f = is_following a (following g.format k v.pairs v.high) in
    let b = and_parts (s.worker w).is_open (is_leaf_of g v p k && (f && holds_answer g s w a)) m in
    let c = and_parts (is_leaf_of g v p k) (f && holds_answer g s w a) b.1 in
    true≢false (sym (and_parts f (holds_answer g s w a) c.1).0 ∙ n)
