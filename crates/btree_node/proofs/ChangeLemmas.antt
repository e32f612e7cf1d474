-- The words of a page after a change.
use Rattle.std.proofs.Common.{◌≡◌, ℕ, ◌+◌, ◌-◌, ◌*◌, ◌%◌, ◌<◌, ◌≤◌, suc, zero, List, [], ◌∷◌, ◌++◌, length, get_or, set, take, drop, replicate, refl, sym, ap, ◌∙◌, subst, arith, length-drop}
use Rattle.std.proofs.lemmas.List.{length-append, length-set, length-take-le, drop_all, take-append-drop, take_more, drop_more, get_or_append_left, get_or-take, set_at, append_assoc, take_at, drop_at}
use Rattle.std.specs.List.{insert}
use Rattle.std.proofs.lemmas.List.Edits.{length-insert}
use Rattle.page_model.specs.Pairs.{Pair, put}
use Rattle.page_model.specs.Needs.{key_at}
use Rattle.page_model.specs.Page.{Page, with_pairs}
use Rattle.btree_node.specs.Words.{flat, kind_of, packed, header, pair_words, words_of, IsOrdered, Spells}
use Rattle.btree_node.specs.Inside.{pair, spread, IsGap}
use Rattle.btree_node.proofs.FlatLemmas.{two_suc, length-flat, flat-append}
use Rattle.btree_node.proofs.SpellingLemmas.{Written, written, spells-count}
use Rattle.btree_node.proofs.PlaceLemmas.{ordered-put, ordered-set, gap-put}

-- ## A word is written over

set-flat : (ps : List Pair) (zs : List ℕ) (i w : ℕ) → i < length ps → set (flat ps ++ zs) (suc (2 * i)) w ≡ flat (set ps i (pair (key_at i ps) w)) ++ zs
set-flat [] zs i w h = absurd (omega arith)
set-flat (p ∷ ps) zs zero w h = refl
set-flat (p ∷ ps) zs (suc i) w h = rw two_suc (ap (λ (r : List ℕ). p.key ∷ p.word ∷ r) (set-flat ps zs i w (omega arith)))

words-set_word : (v : Page) (i w : ℕ) → i < length v.node.pairs → set (words_of v) (7 + 2 * i) w ≡ words_of (with_pairs v (set v.node.pairs i (pair (key_at i v.node.pairs) w)))
words-set_word v i w h =
    let ps = v.node.pairs in
    let seven : 7 + 2 * i ≡ suc (suc (suc (suc (suc (suc (suc (2 * i))))))) = omega arith in
    let l : length (set ps i (pair (key_at i ps) w)) ≡ length ps = length-set ps i _ in
    rw (seven, l) (ap (λ (r : List ℕ). header v ++ r) (set-flat ps _ i w h))

pub node-set_word : (ws : List ℕ) (v : Page) (i w : ℕ) → Spells ws v → i < length v.node.pairs → Written (set ws (7 + 2 * i) w) (with_pairs v (set v.node.pairs i (pair (key_at i v.node.pairs) w)))
node-set_word ws v i w s h =
    let ps = v.node.pairs in
    let f = s.fits in
    let l : length (set ps i (pair (key_at i ps) w)) ≡ length ps = length-set ps i _ in
    let room = f.room in
    written _ _ (ap (λ (us : List ℕ). set us (7 + 2 * i) w) s.spelled ∙ words-set_word v i w h) (record {
      room = omega arith;
      level = f.level;
      last_log = f.last_log;
      ordered = ordered-set v.node.low v.node.high ps i w f.ordered;
    })

-- ## A gap of two words from `from` on, made by a move of the words up to `end`

pub spread-none : (ws : List ℕ) (end : ℕ) → end + 2 ≤ length ws → ws ≡ spread ws end end
spread-none ws end h =
    let l : length (take end ws) ≡ end = length-take-le end ws (omega arith) in
    let d : drop end (take end ws) ≡ [] = drop_all end (take end ws) (omega arith) in
    rw d (sym (take-append-drop (end + 2) ws))

spread-more : (ws : List ℕ) (i end x : ℕ) → i < end → end + 2 ≤ length ws → x ≡ get_or (spread ws (i + 1) end) i 0 → set (spread ws (i + 1) end) (i + 2) x ≡ spread ws i end
spread-more ws i end x lt h e =
    let t : take (i + 1 + 2) ws ≡ take (i + 2) ws ++ get_or ws (i + 2) 0 ∷ [] =
    (ap (λ j. take j ws) (omega arith)) ∙ take_more ws (i + 2) 0 (omega arith) in
    let lt2 : length (take (i + 2) ws) ≡ i + 2 = length-take-le (i + 2) ws (omega arith) in
    let le2 : length (take end ws) ≡ end = length-take-le end ws (omega arith) in
    let lt3 : length (take (i + 1 + 2) ws) ≡ i + 1 + 2 = length-take-le (i + 1 + 2) ws (omega arith) in
    let rest = drop (i + 1) (take end ws) ++ drop (end + 2) ws in
    let v : x ≡ get_or (take end ws) i 0 = e ∙ get_or_append_left (take (i + 1 + 2) ws) rest 0 i (omega arith) ∙ get_or-take (i + 1 + 2) ws i 0 (omega arith) ∙ sym (get_or-take end ws i 0 lt) in
    let d : drop i (take end ws) ≡ x ∷ drop (i + 1) (take end ws) = drop_more (take end ws) i 0 (omega arith) ∙ ap (λ y. y ∷ drop (i + 1) (take end ws)) (sym v) in
    let s : set (take (i + 2) ws ++ get_or ws (i + 2) 0 ∷ rest) (i + 2) x ≡ take (i + 2) ws ++ x ∷ rest = set_at (take (i + 2) ws) _ rest x (i + 2) lt2 in
    rw (t, d, append_assoc) s

pub spread-step : (ws us : List ℕ) (i end : ℕ) → 0 < i → i ≤ end → end + 2 ≤ length ws → us ≡ spread ws i end → set us (i - 1 + 2) (get_or us (i - 1) 0) ≡ spread ws (i - 1) end
spread-step ws us i end h le l e =
    let i1 : i ≡ i - 1 + 1 = omega arith in
    let e2 : us ≡ spread ws (i - 1 + 1) end = e ∙ ap (λ j. spread ws j end) i1 in
    ap (λ (xs : List ℕ). set xs (i - 1 + 2) (get_or us (i - 1) 0)) e2
    ∙ spread-more ws (i - 1) end (get_or us (i - 1) 0) (omega arith) l (ap (λ (xs : List ℕ). get_or xs (i - 1) 0) e2)

gap-written : (A B Z : List ℕ) (x y k w from end : ℕ) → length A ≡ from → length A + length B ≡ end → set (set (spread (A ++ (B ++ x ∷ y ∷ Z)) from end) from k) (from + 1) w ≡ A ++ (k ∷ w ∷ (B ++ Z))
gap-written A B Z x y k w from end a b =
    let W = A ++ (B ++ x ∷ y ∷ Z) in
    let lw : length W ≡ from + (length B + (length Z + 2)) = simp length-append (omega arith) in
    let e1 : drop from (take end W) ≡ B =
    ap (λ (us : List ℕ). drop from (take end us)) (sym (append_assoc A B (x ∷ y ∷ Z)))
    ∙ ap (drop from) (take_at (A ++ B) (x ∷ y ∷ Z) end (length-append A B ∙ b)) ∙ drop_at A B from a in
    let e2 : drop (end + 2) W ≡ Z =
    ap (drop (end + 2)) (sym (append_assoc A B (x ∷ y ∷ Z)) ∙ sym (append_assoc (A ++ B) (x ∷ y ∷ []) Z))
    ∙ drop_at ((A ++ B) ++ x ∷ y ∷ []) Z (end + 2) (simp length-append (omega arith)) in
    let e3 : take (from + 2) W ≡ A ++ get_or W from 0 ∷ get_or W (from + 1) 0 ∷ [] =
    ap (λ j. take j W) (omega arith) ∙ take_more W (from + 1) 0 (omega arith)
    ∙ ap (λ (us : List ℕ). us ++ get_or W (from + 1) 0 ∷ []) (take_more W from 0 (omega arith) ∙ ap (λ (us : List ℕ). us ++ get_or W from 0 ∷ []) (take_at A _ from a))
    ∙ append_assoc A _ _ in
    let p = get_or W from 0 in
    let q = get_or W (from + 1) 0 in
    let e4 : spread W from end ≡ A ++ (p ∷ q ∷ (B ++ Z)) = rw (e3, e1, e2, append_assoc) refl in
    let e5 : set (A ++ (p ∷ q ∷ (B ++ Z))) from k ≡ A ++ (k ∷ q ∷ (B ++ Z)) = set_at A p (q ∷ (B ++ Z)) k from a in
    let e6 : set (A ++ (k ∷ q ∷ (B ++ Z))) (from + 1) w ≡ A ++ (k ∷ w ∷ (B ++ Z)) =
    ap (λ (us : List ℕ). set us (from + 1) w) (sym (append_assoc A (k ∷ []) (q ∷ (B ++ Z))))
    ∙ set_at (A ++ k ∷ []) q (B ++ Z) w (from + 1) (simp length-append (omega arith)) ∙ append_assoc A (k ∷ []) (w ∷ (B ++ Z)) in
    ap (λ (us : List ℕ). set (set us from k) (from + 1) w) e4 ∙ ap (λ (us : List ℕ). set us (from + 1) w) e5 ∙ e6

-- ## An entry is put in

length-insert_pair : (ps : List Pair) (i : ℕ) (p : Pair) → i ≤ length ps → length (insert ps i p) ≡ suc (length ps)
length-insert_pair ps i p h = length-insert ps i p h ∙ omega arith

words-insert : (v : Page) (at k w : ℕ) → at ≤ length v.node.pairs → length v.node.pairs < 60 → set (set (spread (words_of v) (6 + 2 * at) (6 + 2 * length v.node.pairs)) (6 + 2 * at) k) (7 + 2 * at) w ≡ header v ++ pair_words (insert v.node.pairs at (pair k w))
words-insert v at k w h room =
    let ps = v.node.pairs in
    let n = length ps in
    let A = header v ++ flat (take at ps) in
    let B = flat (drop at ps) in
    let Z : List ℕ = replicate (120 - 2 * suc n) 0 in
    let la : length A ≡ 6 + 2 * at = let e = length-flat (take at ps) in let f = length-take-le at ps h in simp length-append (omega arith) in
    let lb : length A + length B ≡ 6 + 2 * n = let e = length-flat (drop at ps) in let f = length-drop at ps in omega arith in
    let z : replicate (120 - 2 * n) 0 ≡ 0 ∷ 0 ∷ Z = let m : 120 - 2 * n ≡ suc (suc (120 - 2 * suc n)) = omega arith in rw m refl in
    let fs : flat ps ≡ flat (take at ps) ++ B = ap flat (sym (take-append-drop at ps)) ∙ flat-append (take at ps) (drop at ps) in
    let eW : words_of v ≡ A ++ (B ++ 0 ∷ 0 ∷ Z) = rw (z, fs, append_assoc) refl in
    let seven : 7 + 2 * at ≡ 6 + 2 * at + 1 = omega arith in
    let ln : length (insert ps at (pair k w)) ≡ suc n = length-insert_pair ps at (pair k w) h in
    let fi : flat (insert ps at (pair k w)) ≡ flat (take at ps) ++ (k ∷ w ∷ B) = flat-append (take at ps) (pair k w ∷ drop at ps) in
    let out : header v ++ pair_words (insert ps at (pair k w)) ≡ A ++ (k ∷ w ∷ (B ++ Z)) = rw (ln, fi, append_assoc) refl in
    ap (λ j. set (set (spread (words_of v) (6 + 2 * at) (6 + 2 * n)) (6 + 2 * at) k) j w) seven
    ∙ ap (λ (us : List ℕ). set (set (spread us (6 + 2 * at) (6 + 2 * n)) (6 + 2 * at) k) (6 + 2 * at + 1) w) eW
    ∙ gap-written A B Z 0 0 k w (6 + 2 * at) (6 + 2 * n) la lb ∙ sym out

node-insert : (ws us : List ℕ) (v : Page) (at k w : ℕ) → Spells ws v → at ≤ length v.node.pairs → length v.node.pairs < 60 → us ≡ spread ws (6 + 2 * at) (6 + 2 * (get_or ws 3 0 % 256)) → IsOrdered v.node.low (insert v.node.pairs at (pair k w)) v.node.high →
    let ts = set (set us (6 + 2 * at) k) (7 + 2 * at) w in Written (set ts 3 (get_or ts 3 0 + 1)) (with_pairs v (insert v.node.pairs at (pair k w)))
node-insert ws us v at k w s h room e r =
    let f = s.fits in
    let ps = v.node.pairs in
    let qs = insert ps at (pair k w) in
    let b = kind_of v.node.live in
    let c = spells-count ws v s in
    let e1 : us ≡ spread (words_of v) (6 + 2 * at) (6 + 2 * length ps) = e ∙ ap (λ (xs : List ℕ). spread xs (6 + 2 * at) (6 + 2 * (get_or ws 3 0 % 256))) s.spelled ∙ ap (λ m. spread (words_of v) (6 + 2 * at) (6 + 2 * m)) c in
    let e2 : set (set us (6 + 2 * at) k) (7 + 2 * at) w ≡ header v ++ pair_words qs = ap (λ (xs : List ℕ). set (set xs (6 + 2 * at) k) (7 + 2 * at) w) e1 ∙ words-insert v at k w h room in
    let ln : length qs ≡ suc (length ps) = length-insert_pair ps at (pair k w) h in
    let e3 : packed (length ps) v.node.level v.last_log b + 1 ≡ packed (length qs) v.node.level v.last_log b = omega arith in
    written _ _
    (ap (λ (xs : List ℕ). set xs 3 (get_or xs 3 0 + 1)) e2 ∙ ap (λ x. v.number ∷ v.gsn ∷ v.generation ∷ x ∷ v.node.low ∷ v.node.high ∷ pair_words qs) e3)
    (record { room = omega arith; level = f.level; last_log = f.last_log; ordered = r })

pub node-put : (ws us : List ℕ) (v : Page) (at k w : ℕ) → Spells ws v → IsGap k v.node.pairs at → v.node.low ≤ k → k < v.node.high → length v.node.pairs < 60 → us ≡ spread ws (6 + 2 * at) (6 + 2 * (get_or ws 3 0 % 256)) →
    let ts = set (set us (6 + 2 * at) k) (7 + 2 * at) w in Written (set ts 3 (get_or ts 3 0 + 1)) (with_pairs v (put k w v.node.pairs))
node-put ws us v at k w s g l h room e =
    let ps = v.node.pairs in
    let q : insert ps at (pair k w) ≡ put k w ps = gap-put k w ps at g in
    let r = subst (λ (qs : List Pair). IsOrdered v.node.low qs v.node.high) (sym q) (ordered-put v.node.low v.node.high k w ps l h s.fits.ordered) in
    let p = node-insert ws us v at k w s g.within room e r in
    record { page = p.page; same = p.same ∙ ap (with_pairs v) q }
