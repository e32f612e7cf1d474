-- A walk meets the entries from its key on up to the pair that follows.
use Rattle.map_model.specs.Lists.{Has}
use Rattle.map_model.specs.Maps.{MapAnswer}
use Rattle.page_model.specs.Pairs.{Pair, Rising, find}
use Rattle.page_model.specs.Nodes.{Format}
use Rattle.page_model.proofs.Pairs.{some_none, found_in}
use Rattle.core_commit.specs.core_state.Needs.{following}
use Rattle.core_commit.proofs.Nexts.{following_at}
use Rattle.core_index.specs.Walks.{met_keys, IsUpTo, IsMetIn, EveryWalk}
use Rattle.std.proofs.Common.{◌≡◌, ◌≤◌, ◌<◌, ◌⊎◌, ◌==◌, ℕ, suc, Bool, true, false, cond, ◌&&◌, leb, ltb, List, [], ◌∷◌, Option, Some, None, inl, inr, refl, sym, ap, ◌∙◌, arith, true≢false}
use Rattle.std.proofs.lemmas.Bool.{eqb-true, eq-eqb, eqb-false, ne_eqb, leb-true, cond-true, cond-false, and_left, and_right}

-- below all entries is before what follows
up_first : (f : Format) (k low : ℕ) (xs : List Pair) (high a : ℕ) → a < low → Rising low xs high → IsUpTo (following f k xs high) a
up_first f k low xs high a lt r = go (following f k xs high) refl
  where
    go : (m : MapAnswer) → following f k xs high ≡ m → IsUpTo m a
    go (MapAnswer.Pair at v) e =
        let h = following_at f k low xs high at v r e in
        let i = found_in low at xs high r (λ z. some_none v (sym h.found ∙ z)) in
        let low_is = i.0 in omega arith
    go (MapAnswer.Gap b) e = tt
    go (MapAnswer.Value b) e = tt
    go (MapAnswer.Was b) e = tt

-- an entry behind the first
found_more : (j : ℕ) (x : Pair) (xs : List Pair) → (find j xs ≡ None → ⊥) → find j (x ∷ xs) ≡ None → ⊥
found_more j x xs h = go (x.key == j)
  where
    go : (b : Bool) → cond b (Some x.word) (find j xs) ≡ None → ⊥
    go true e = some_none x.word e
    go false e = h e

pub every_walk : EveryWalk
every_walk f k low [] high j r = ((λ h. absurd h), λ m. m.entry refl)
every_walk f k low (x ∷ xs) high j r = go (leb k x.key) (ltb x.word f.dead) refl refl (every_walk f k (suc x.key) xs high j r.1)
  where
    first : find x.key (x ∷ xs) ≡ Some x.word
    first = cond-true (x.key == x.key) (Some x.word) (find x.key xs) (eq-eqb x.key x.key refl)

    behind : (find j (x ∷ xs) ≡ None → ⊥) → (x.key ≡ j → ⊥) → find j xs ≡ None → ⊥
    behind e ne z = e (cond-false (x.key == j) (Some x.word) (find j xs) (ne_eqb x.key j ne) ∙ z)

    go : (a d : Bool) → leb k x.key ≡ a → ltb x.word f.dead ≡ d
        → (Has j (met_keys f k xs) → IsMetIn f k xs high j) × (IsMetIn f k xs high j → Has j (met_keys f k xs))
        → (Has j (cond a (x.key ∷ cond d [] (met_keys f k xs)) (met_keys f k xs)) → IsMetIn f k (x ∷ xs) high j) × (IsMetIn f k (x ∷ xs) high j → Has j (cond a (x.key ∷ cond d [] (met_keys f k xs)) (met_keys f k xs)))
    go true true p q ih = (there, back)
      where
        it : following f k (x ∷ xs) high ≡ MapAnswer.Pair x.key x.word
        it i = cond (p i && q i) (MapAnswer.Pair x.key x.word) (following f k xs high)

        there : (j ≡ x.key) ⊎ ⊥ → IsMetIn f k (x ∷ xs) high j
        there (inl e) = record {
          above = let l = leb-true k x.key p in omega arith;
          entry = λ z. some_none x.word (sym first ∙ ((λ i. find (sym e i) (x ∷ xs)) ∙ z));
          before = subst_up (sym it) (omega arith);
        }
          where
            subst_up : {m : MapAnswer} → MapAnswer.Pair x.key x.word ≡ m → j ≤ x.key → IsUpTo m j
            subst_up g le = Rattle.std.proofs.Common.subst (λ m. IsUpTo m j) g le
        there (inr e) = absurd e

        back : IsMetIn f k (x ∷ xs) high j → (j ≡ x.key) ⊎ ⊥
        back m = inl (at (j == x.key) refl)
          where
            le : j ≤ x.key
            le = Rattle.std.proofs.Common.subst (λ m. IsUpTo m j) it m.before

            at : (b : Bool) → (j == x.key) ≡ b → j ≡ x.key
            at true e = eqb-true j x.key e
            at false e =
                let ne : x.key ≡ j → ⊥ = λ z. eqb-false j x.key e (sym z) in
                let i = found_in (suc x.key) j xs high r.1 (behind m.entry ne) in
                let a = i.0 in let b = le in absurd (omega arith)
    go true false p q ih = (there, back)
      where
        it : following f k (x ∷ xs) high ≡ following f k xs high
        it = cond-false (leb k x.key && ltb x.word f.dead) (MapAnswer.Pair x.key x.word) (following f k xs high) (and_right (leb k x.key) (ltb x.word f.dead) q)

        there : (j ≡ x.key) ⊎ Has j (met_keys f k xs) → IsMetIn f k (x ∷ xs) high j
        there (inl e) = record {
          above = let l = leb-true k x.key p in omega arith;
          entry = λ z. some_none x.word (sym first ∙ ((λ i. find (sym e i) (x ∷ xs)) ∙ z));
          before = Rattle.std.proofs.Common.subst (λ m. IsUpTo m j) (sym it) (up_first f k (suc x.key) xs high j (omega arith) r.1);
        }
        there (inr h) = let m = ih.0 h in record { above = m.above; entry = found_more j x xs m.entry; before = Rattle.std.proofs.Common.subst (λ m. IsUpTo m j) (sym it) m.before }

        back : IsMetIn f k (x ∷ xs) high j → (j ≡ x.key) ⊎ Has j (met_keys f k xs)
        back m = at (j == x.key) refl
          where
            at : (b : Bool) → (j == x.key) ≡ b → (j ≡ x.key) ⊎ Has j (met_keys f k xs)
            at true e = inl (eqb-true j x.key e)
            at false e = inr (ih.1 (record { above = m.above; entry = behind m.entry (λ z. eqb-false j x.key e (sym z)); before = Rattle.std.proofs.Common.subst (λ m. IsUpTo m j) it m.before }))
    go false d p q ih = (there, back)
      where
        it : following f k (x ∷ xs) high ≡ following f k xs high
        it = cond-false (leb k x.key && ltb x.word f.dead) (MapAnswer.Pair x.key x.word) (following f k xs high) (and_left (leb k x.key) (ltb x.word f.dead) p)

        lower : k ≤ j → x.key ≡ j → ⊥
        lower le e = true≢false (sym (Rattle.std.proofs.lemmas.Bool.le-leb k x.key (omega arith)) ∙ p)

        there : Has j (met_keys f k xs) → IsMetIn f k (x ∷ xs) high j
        there h = let m = ih.0 h in record { above = m.above; entry = found_more j x xs m.entry; before = Rattle.std.proofs.Common.subst (λ m. IsUpTo m j) (sym it) m.before }

        back : IsMetIn f k (x ∷ xs) high j → Has j (met_keys f k xs)
        back m = ih.1 (record { above = m.above; entry = behind m.entry (lower m.above); before = Rattle.std.proofs.Common.subst (λ m. IsUpTo m j) it m.before })
