-- The order of pairs that move as a whole.
use Rattle.std.proofs.Common.{◌≡◌, ℕ, ◌<◌, ◌≤◌, List, [], ◌∷◌, ◌++◌, length, take, drop, sym, ap, ◌∙◌, subst}
use Rattle.page_model.specs.Pairs.{Pair, Rising}
use Rattle.page_model.specs.Needs.{key_at}
use Rattle.page_model.specs.Page.{Page}
use Rattle.page_model.proofs.Pairs.{rising_below, rising_onward, rising_append}
use Rattle.btree_node.specs.Words.{flat, pairs_of, IsOrdered, Fits}
use Rattle.btree_node.specs.Structure.{filled}
use Rattle.btree_node.proofs.FlatLemmas.{words-pairs_of}
use Rattle.btree_node.proofs.PlaceLemmas.{ordered-rising, rising-ordered, take-below, drop-onward, key-within}

pub left-ordered : (v : Page) (h : ℕ) → Fits v → h < length v.node.pairs → IsOrdered v.node.low (take h v.node.pairs) (key_at h v.node.pairs)
left-ordered v h f lt =
    let ps = v.node.pairs in
    let r = ordered-rising v.node.low ps v.node.high h f.ordered lt in
    let k = key-within v.node.low v.node.high ps h r lt in
    rising-ordered v.node.low (take h ps) (key_at h ps) (subst (λ (qs : List Pair). Rising v.node.low qs (key_at h ps)) (sym (take-below v.node.low v.node.high ps h r lt)) (rising_below v.node.low (key_at h ps) v.node.high ps r k.0))

pub right-ordered : (v : Page) (h : ℕ) → Fits v → h < length v.node.pairs → IsOrdered (key_at h v.node.pairs) (drop h v.node.pairs) v.node.high
right-ordered v h f lt =
    let ps = v.node.pairs in
    let r = ordered-rising v.node.low ps v.node.high h f.ordered lt in
    let k = key-within v.node.low v.node.high ps h r lt in
    rising-ordered (key_at h ps) (drop h ps) v.node.high (subst (λ (qs : List Pair). Rising (key_at h ps) qs v.node.high) (sym (drop-onward v.node.low v.node.high ps h r lt)) (rising_onward v.node.low (key_at h ps) v.node.high ps r k.1))

rising-from_ordered : (low : ℕ) (ps : List Pair) (high : ℕ) → IsOrdered low ps high → low ≤ high → Rising low ps high
rising-from_ordered low [] high o e = e
rising-from_ordered low (p ∷ ps) high o e = o

-- the same where the pairs come as words
pub words-ordered : (ws : List ℕ) (ps : List Pair) (low high a b : ℕ) → ws ≡ flat ps → a ≡ low → b ≡ high → IsOrdered low ps high → IsOrdered a (pairs_of ws) b
words-ordered ws ps low high a b e f g o =
    subst (λ z. IsOrdered a (pairs_of ws) z) (sym g) (subst (λ y. IsOrdered y (pairs_of ws) high) (sym f) (subst (λ (qs : List Pair). IsOrdered low qs high) (sym (words-pairs_of ws ps e)) o))

pub joined-ordered : (v u : Page) (ws : List ℕ) (high : ℕ) → Fits v → Fits u → v.node.high ≡ u.node.low → v.node.low ≤ v.node.high → u.node.low ≤ u.node.high → ws ≡ flat u.node.pairs → high ≡ u.node.high →
    IsOrdered v.node.low (v.node.pairs ++ pairs_of ws) high
joined-ordered v u ws high f g nb low fence e h =
    let ps = v.node.pairs in
    let qs = u.node.pairs in
    let q : Rising v.node.high qs u.node.high = subst (λ a. Rising a qs u.node.high) (sym nb) (rising-from_ordered u.node.low qs u.node.high g.ordered fence) in
    let o : IsOrdered v.node.low (ps ++ qs) u.node.high = rising-ordered v.node.low (ps ++ qs) u.node.high (rising_append v.node.low v.node.high u.node.high ps qs (rising-from_ordered v.node.low ps v.node.high f.ordered low) q) in
    subst (λ z. IsOrdered v.node.low (ps ++ pairs_of ws) z) (sym h) (subst (λ (xs : List Pair). IsOrdered v.node.low (ps ++ xs) u.node.high) (sym (words-pairs_of ws qs e)) o)

pub same-filled : (u : Page) (ps : List Pair) (ws : List ℕ) (level low high l a h : ℕ) → ws ≡ flat ps → l ≡ level → a ≡ low → h ≡ high → filled u l a h (pairs_of ws) ≡ filled u level low high ps
same-filled u ps ws level low high l a h e f g i =
    ap (λ j. filled u j a h (pairs_of ws)) f ∙ ap (λ j. filled u level j h (pairs_of ws)) g ∙ ap (λ j. filled u level low j (pairs_of ws)) i ∙ ap (filled u level low high) (words-pairs_of ws ps e)
