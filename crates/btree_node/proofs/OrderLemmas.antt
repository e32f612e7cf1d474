-- The test whether pairs are in order, also behind others.
use Rattle.std.proofs.Common.{◌≡◌, ℕ, ◌+◌, ◌%◌, ◌<◌, suc, zero, true, List, [], ◌∷◌, ◌++◌, length, refl, sym, ap, ◌∙◌, subst, arith}
use Rattle.page_model.specs.Pairs.{Pair, Rising}
use Rattle.page_model.specs.Needs.{key_at}
use Rattle.page_model.proofs.Pairs.{rising_le}
use Rattle.btree_node.specs.Words.{pairs_of, IsOrdered}
use Rattle.btree_node.specs.Inside.{rises}
use Rattle.btree_node.proofs.FlatLemmas.{flat-pairs_of}
use Rattle.btree_node.proofs.SpellingLemmas.{rising-from_true, ordered-true, ordered-from_true}
use Rattle.btree_node.proofs.PlaceLemmas.{rising-ordered}

pub words-rise : (low high : ℕ) (ws : List ℕ) → length ws % 2 ≡ 0 → IsOrdered low (pairs_of ws) high → rises low high ws ≡ true
words-rise low high ws even o = sym (ap (rises low high) (flat-pairs_of ws even)) ∙ ordered-true low high (pairs_of ws) o

pub words-from_rise : (low high : ℕ) (ws : List ℕ) → length ws % 2 ≡ 0 → rises low high ws ≡ true → IsOrdered low (pairs_of ws) high
words-from_rise low high ws even e = ordered-from_true low high (pairs_of ws) (ap (rises low high) (flat-pairs_of ws even) ∙ e)

pub none-before : (ps qs : List Pair) → length ps ≡ 0 → ps ++ qs ≡ qs
none-before [] qs e = refl
none-before (p ∷ ps) qs e = absurd (omega arith)

-- what is asked of pairs behind others
pub record Follow (last : ℕ) (ws : List ℕ) (high : ℕ) : Type 0 where
  pub below : last < high
  pub rise : rises (last + 1) high ws ≡ true

follow-rising : (low high n : ℕ) (ps qs : List Pair) → length ps ≡ suc n → Rising low (ps ++ qs) high → Rising (suc (key_at n ps)) qs high
follow-rising low high n [] qs h r = absurd (omega arith)
follow-rising low high zero (p ∷ []) qs h r = r.1
follow-rising low high (suc n) (p ∷ []) qs h r = absurd (omega arith)
follow-rising low high zero (p ∷ x ∷ ps) qs h r = absurd (omega arith)
follow-rising low high (suc n) (p ∷ x ∷ ps) qs h r = follow-rising (suc p.key) high n (x ∷ ps) qs (omega arith) r.1

rising-follow : (low high old n : ℕ) (ps qs : List Pair) → length ps ≡ suc n → Rising low ps old → Rising (suc (key_at n ps)) qs high → Rising low (ps ++ qs) high
rising-follow low high old n [] qs h r s = absurd (omega arith)
rising-follow low high old zero (p ∷ []) qs h r s = (r.0, s)
rising-follow low high old (suc n) (p ∷ []) qs h r s = absurd (omega arith)
rising-follow low high old zero (p ∷ x ∷ ps) qs h r s = absurd (omega arith)
rising-follow low high old (suc n) (p ∷ x ∷ ps) qs h r s = (r.0, rising-follow (suc p.key) high old n (x ∷ ps) qs (omega arith) r.1 s)

append-rising : (low high n : ℕ) (ps qs : List Pair) → length ps ≡ suc n → IsOrdered low (ps ++ qs) high → Rising low (ps ++ qs) high
append-rising low high n [] qs h o = absurd (omega arith)
append-rising low high n (p ∷ ps) qs h o = o

pub follow-from : (low high last n : ℕ) (ps : List Pair) (ws : List ℕ) → length ws % 2 ≡ 0 → length ps ≡ suc n → last ≡ key_at n ps → IsOrdered low (ps ++ pairs_of ws) high → Follow last ws high
follow-from low high last n ps ws even h e o =
    let r = follow-rising low high n ps (pairs_of ws) h (append-rising low high n ps (pairs_of ws) h o) in
    let le = rising_le (suc (key_at n ps)) (pairs_of ws) high r in
    let next : suc (key_at n ps) ≡ last + 1 = omega arith in
    record {
      below = omega arith;
      rise = words-rise (last + 1) high ws even (rising-ordered (last + 1) (pairs_of ws) high (subst (λ j. Rising j (pairs_of ws) high) next r));
    }

pub follow-ordered : (low high old last n : ℕ) (ps : List Pair) (ws : List ℕ) → length ws % 2 ≡ 0 → length ps ≡ suc n → last ≡ key_at n ps → IsOrdered low ps old → Follow last ws high → IsOrdered low (ps ++ pairs_of ws) high
follow-ordered low high old last n [] ws even h e o f = absurd (omega arith)
follow-ordered low high old last n (p ∷ ps) ws even h e o f =
    let b = f.below in
    let next : last + 1 ≡ suc (key_at n (p ∷ ps)) = omega arith in
    let r : Rising (last + 1) (pairs_of ws) high = rising-from_true (last + 1) high (pairs_of ws) (omega arith) (ap (rises (last + 1) high) (flat-pairs_of ws even) ∙ f.rise) in
    rising-follow low high old n (p ∷ ps) (pairs_of ws) h o (subst (λ j. Rising j (pairs_of ws) high) next r)
