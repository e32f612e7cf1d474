-- The words of a page whose pairs are set as a whole, or end otherwise.
use Rattle.std.proofs.Common.{◌≡◌, ℕ, ◌+◌, ◌-◌, ◌*◌, ◌/◌, ◌%◌, ◌≤◌, Bool, List, [], ◌∷◌, ◌++◌, length, get_or, set, take, drop, replicate, refl, sym, ap, ◌∙◌, arith, length-drop}
use Rattle.std.proofs.lemmas.List.{length-append, length-take-le, append_assoc, append-nil, take_at, drop_at}
use Rattle.page_model.specs.Pairs.{Pair, keep}
use Rattle.page_model.specs.Page.{Page, with_pairs}
use Rattle.page_model.proofs.Pairs.{rising_keep}
use Rattle.btree_node.specs.Words.{flat, kind_of, packed, header, pair_words, pairs_in, pairs_of, IsOrdered, Spells}
use Rattle.btree_node.specs.Structure.{filled, extended, freed}
use Rattle.btree_node.specs.Inside.{ended, shortened}
use Rattle.btree_node.proofs.FlatLemmas.{length-flat, flat-append, pairs_in-flat, flat-pairs_of, length-pairs_of, flat-cut}
use Rattle.btree_node.proofs.PlaceLemmas.{rising-ordered}
use Rattle.btree_node.proofs.SpellingLemmas.{Written, written, spells-count, one-page}

-- words are written from a place on, and behind them zeros
pub ended-written : (ws us xs ys : List ℕ) (at : ℕ) → at + length xs ≤ length ws → us ≡ take at ws ++ (xs ++ drop (at + length xs) ws) → ys ≡ take (at + length xs) us ++ replicate (126 - (at + length xs)) 0 → ys ≡ ended at ws xs
ended-written ws us xs ys at h e f =
    let Z : List ℕ = replicate (126 - (at + length xs)) 0 in
    let la : length (take at ws ++ xs) ≡ at + length xs = let l = length-append (take at ws) xs in let k = length-take-le at ws (omega arith) in omega arith in
    let t : take (at + length xs) us ≡ take at ws ++ xs = ap (take (at + length xs)) (e ∙ sym (append_assoc (take at ws) xs (drop (at + length xs) ws))) ∙ take_at (take at ws ++ xs) (drop (at + length xs) ws) (at + length xs) la in
    f ∙ ap (λ (zs : List ℕ). zs ++ Z) t ∙ append_assoc (take at ws) xs Z

-- the words up to a pair
take-head : (ws : List ℕ) (v : Page) (k : ℕ) → Spells ws v → k ≤ length v.node.pairs → take (6 + 2 * k) ws ≡ header v ++ flat (take k v.node.pairs)
take-head ws v k s h =
    let ps = v.node.pairs in
    let A = header v ++ flat (take k ps) in
    let Z : List ℕ = replicate (120 - 2 * length ps) 0 in
    let la : length A ≡ 6 + 2 * k = let x = length-flat (take k ps) in let y = length-take-le k ps h in simp length-append (omega arith) in
    ap (take (6 + 2 * k)) (s.spelled ∙ flat-cut (header v) ps k Z) ∙ take_at A (flat (drop k ps) ++ Z) (6 + 2 * k) la

-- the words from a pair on
pub words-from : (ws : List ℕ) (v : Page) (i : ℕ) → Spells ws v → i ≤ length v.node.pairs → take (6 + 2 * (get_or ws 3 0 % 256) - (6 + 2 * i)) (drop (6 + 2 * i) ws) ≡ flat (drop i v.node.pairs)
words-from ws v i s h =
    let ps = v.node.pairs in
    let A = header v ++ flat (take i ps) in
    let B = flat (drop i ps) in
    let Z : List ℕ = replicate (120 - 2 * length ps) 0 in
    let la : length A ≡ 6 + 2 * i = let x = length-flat (take i ps) in let y = length-take-le i ps h in simp length-append (omega arith) in
    let n : length B ≡ 6 + 2 * (get_or ws 3 0 % 256) - (6 + 2 * i) = let x = length-flat (drop i ps) in let y = length-drop i ps in let z = spells-count ws v s in omega arith in
    let d : drop (6 + 2 * i) ws ≡ B ++ Z = ap (drop (6 + 2 * i)) (s.spelled ∙ flat-cut (header v) ps i Z) ∙ drop_at A (B ++ Z) (6 + 2 * i) la in
    ap (take (6 + 2 * (get_or ws 3 0 % 256) - (6 + 2 * i))) d ∙ take_at B Z _ n

-- behind first pairs stand others, and then zeros
ended-words : (v : Page) (ws : List ℕ) (qs rs : List Pair) (at : ℕ) → take at ws ≡ header v ++ flat qs → at ≡ 6 + 2 * length qs → ended at ws (flat rs) ≡ header v ++ pair_words (qs ++ rs)
ended-words v ws qs rs at t e =
    let l = length-flat rs in
    let k = length-append qs rs in
    let Z : List ℕ = replicate (126 - (at + length (flat rs))) 0 in
    let n : 126 - (at + length (flat rs)) ≡ 120 - 2 * length (qs ++ rs) = omega arith in
    ap (λ (xs : List ℕ). xs ++ (flat rs ++ Z)) t
    ∙ append_assoc (header v) (flat qs) (flat rs ++ Z)
    ∙ ap (λ (xs : List ℕ). header v ++ xs) (sym (append_assoc (flat qs) (flat rs) Z) ∙ ap (λ (xs : List ℕ). xs ++ Z) (sym (flat-append qs rs)) ∙ ap (λ j. flat (qs ++ rs) ++ replicate j 0) n)

-- first pairs stand there alone
fewer-words : (v : Page) (ws : List ℕ) (qs : List Pair) (at : ℕ) → take at ws ≡ header v ++ flat qs → at ≡ 6 + 2 * length qs → ended at ws [] ≡ header v ++ pair_words qs
fewer-words v ws qs at t e = ended-words v ws qs [] at t e ∙ ap (λ (rs : List Pair). header v ++ pair_words rs) (append-nil qs)

keep-ordered : (p : ℕ → Bool) (low : ℕ) (ps : List Pair) (high : ℕ) → IsOrdered low ps high → IsOrdered low (keep p ps) high
keep-ordered p low [] high o = tt
keep-ordered p low (x ∷ ps) high o = rising-ordered low (keep p (x ∷ ps)) high (rising_keep p low (x ∷ ps) high o)

pub fill-written : (ws us xs : List ℕ) (v : Page) (level l low high : ℕ) → Spells ws v → level ≤ 7 → length xs ≤ 120 → length xs % 2 ≡ 0 → IsOrdered low (pairs_of xs) high → us ≡ ended 6 ws xs → l ≡ level →
    Written (set (set (set us 3 (length xs / 2 + 256 * l + 65536 * (get_or ws 3 0 / 65536 % 256) + 16777216)) 4 low) 5 high) (filled v level low high (pairs_of xs))
fill-written ws us xs v level l low high s tall room even o e same =
    let f = s.fits in
    let qs = pairs_of xs in
    let lq = length-pairs_of xs in
    let eu : us ≡ header v ++ pair_words qs =
    e ∙ ap (ended 6 ws) (sym (flat-pairs_of xs even)) ∙ ended-words v ws [] qs 6 (take-head ws v 0 s (omega arith)) refl in
    let e2 : get_or ws 3 0 / 65536 % 256 ≡ v.last_log = ap (λ (x : Page). x.last_log) (one-page ws v s) in
    let x : length xs / 2 + 256 * l + 65536 * (get_or ws 3 0 / 65536 % 256) + 16777216 ≡ packed (length qs) level v.last_log 1 = omega arith in
    written _ (filled v level low high qs)
    (ap (λ (zs : List ℕ). set (set (set zs 3 (length xs / 2 + 256 * l + 65536 * (get_or ws 3 0 / 65536 % 256) + 16777216)) 4 low) 5 high) eu
    ∙ ap (λ a. v.number ∷ v.gsn ∷ v.generation ∷ a ∷ low ∷ high ∷ pair_words qs) x)
    (record { room = omega arith; level = tall; last_log = f.last_log; ordered = o })

pub free-written : (ws us : List ℕ) (v : Page) → Spells ws v → us ≡ ended 4 ws [] → Written (set us 3 (65536 * (get_or ws 3 0 / 65536 % 256) + 33554432)) (freed v)
free-written ws us v s e =
    let f = s.fits in
    let e1 : take 4 ws ≡ take 4 (header v) = ap (take 4) s.spelled in
    let e2 : get_or ws 3 0 / 65536 % 256 ≡ v.last_log = ap (λ (x : Page). x.last_log) (one-page ws v s) in
    let x : 65536 * (get_or ws 3 0 / 65536 % 256) + 33554432 ≡ packed 0 0 v.last_log 2 = omega arith in
    written _ (freed v)
    (ap (λ (zs : List ℕ). set zs 3 (65536 * (get_or ws 3 0 / 65536 % 256) + 33554432)) (e ∙ ap (λ (zs : List ℕ). zs ++ replicate 122 0) e1)
    ∙ ap (λ a. v.number ∷ v.gsn ∷ v.generation ∷ a ∷ 0 ∷ 0 ∷ replicate 120 0) x)
    (record { room = omega arith; level = omega arith; last_log = f.last_log; ordered = tt })

pub append-written : (ws us xs : List ℕ) (v : Page) (high : ℕ) → Spells ws v → 2 * length v.node.pairs + length xs ≤ 120 → length xs % 2 ≡ 0 → IsOrdered v.node.low (v.node.pairs ++ pairs_of xs) high → us ≡ ended (6 + 2 * (get_or ws 3 0 % 256)) ws xs →
    Written (set (set us 3 (get_or us 3 0 + length xs / 2)) 5 high) (extended v (pairs_of xs) high)
append-written ws us xs v high s room even o e =
    let f = s.fits in
    let b = kind_of v.node.live in
    let ps = v.node.pairs in
    let qs = pairs_of xs in
    let lq = length-pairs_of xs in
    let la = length-append ps qs in
    let t : take (6 + 2 * length ps) ws ≡ header v ++ flat ps = take-head ws v (length ps) s (omega arith) ∙ ap (λ (rs : List Pair). header v ++ flat rs) (take-whole ps) in
    let eu : us ≡ header v ++ pair_words (ps ++ qs) =
    e ∙ ap (λ j. ended (6 + 2 * j) ws xs) (spells-count ws v s) ∙ ap (ended (6 + 2 * length ps) ws) (sym (flat-pairs_of xs even)) ∙ ended-words v ws ps qs (6 + 2 * length ps) t refl in
    let x : packed (length ps) v.node.level v.last_log b + length xs / 2 ≡ packed (length (ps ++ qs)) v.node.level v.last_log b = omega arith in
    written _ (extended v qs high)
    (ap (λ (zs : List ℕ). set (set zs 3 (get_or zs 3 0 + length xs / 2)) 5 high) eu
    ∙ ap (λ a. v.number ∷ v.gsn ∷ v.generation ∷ a ∷ v.node.low ∷ high ∷ pair_words (ps ++ qs)) x)
    (record { room = omega arith; level = f.level; last_log = f.last_log; ordered = o })
  where
    take-whole : (rs : List Pair) → take (length rs) rs ≡ rs
    take-whole [] = refl
    take-whole (r ∷ rs) = ap (λ (zs : List Pair). r ∷ zs) (take-whole rs)

pub keep-written : (ws us : List ℕ) (v : Page) (k high : ℕ) → Spells ws v → k ≤ length v.node.pairs → IsOrdered v.node.low (take k v.node.pairs) high → us ≡ ended (6 + 2 * k) ws [] →
    Written (set (set us 3 (get_or us 3 0 - get_or ws 3 0 % 256 + k)) 5 high) (shortened v k high)
keep-written ws us v k high s h o e =
    let ps = v.node.pairs in
    let qs = take k ps in
    let n = get_or ws 3 0 % 256 in
    let f = s.fits in
    let room = f.room in
    let b = kind_of v.node.live in
    let c : n ≡ length ps = spells-count ws v s in
    let l : length qs ≡ k = length-take-le k ps h in
    let eu : us ≡ header v ++ pair_words qs = e ∙ fewer-words v ws qs (6 + 2 * k) (take-head ws v k s h) (omega arith) in
    let x : packed (length ps) v.node.level v.last_log b - n + k ≡ packed (length qs) v.node.level v.last_log b = omega arith in
    written _ (shortened v k high)
    (ap (λ (ys : List ℕ). set (set ys 3 (get_or ys 3 0 - n + k)) 5 high) eu
    ∙ ap (λ a. v.number ∷ v.gsn ∷ v.generation ∷ a ∷ v.node.low ∷ high ∷ pair_words qs) x)
    (record { room = omega arith; level = f.level; last_log = f.last_log; ordered = o })

pub purge-written : (ws zs us : List ℕ) (v : Page) (p : ℕ → Bool) (k : ℕ) → Spells ws v → k ≤ get_or ws 3 0 % 256 → length (keep p (pairs_in (get_or ws 3 0 % 256) (drop 6 ws))) ≡ k →
    take (6 + 2 * k) zs ≡ take 6 ws ++ flat (keep p (pairs_in (get_or ws 3 0 % 256) (drop 6 ws))) → us ≡ ended (6 + 2 * k) zs [] →
    Written (set us 3 (get_or us 3 0 - get_or ws 3 0 % 256 + k)) (with_pairs v (keep p v.node.pairs))
purge-written ws zs us v p k s h l t e =
    let n = get_or ws 3 0 % 256 in
    let ps = v.node.pairs in
    let qs = keep p ps in
    let f = s.fits in
    let room = f.room in
    let b = kind_of v.node.live in
    let c : n ≡ length ps = spells-count ws v s in
    let same : pairs_in n (drop 6 ws) ≡ ps = ap (λ j. pairs_in j (drop 6 ws)) c ∙ ap (λ (xs : List ℕ). pairs_in (length ps) (drop 6 xs)) s.spelled ∙ pairs_in-flat ps _ in
    let head : take (6 + 2 * k) zs ≡ header v ++ flat qs = t ∙ ap (λ (xs : List ℕ). take 6 xs ++ flat (keep p (pairs_in n (drop 6 ws)))) s.spelled ∙ ap (λ (rs : List Pair). header v ++ flat (keep p rs)) same in
    let lq : length qs ≡ k = ap (λ (rs : List Pair). length (keep p rs)) (sym same) ∙ l in
    let eu : us ≡ header v ++ pair_words qs = e ∙ fewer-words v zs qs (6 + 2 * k) head (omega arith) in
    let x : packed (length ps) v.node.level v.last_log b - n + k ≡ packed (length qs) v.node.level v.last_log b = omega arith in
    written _ (with_pairs v qs)
    (ap (λ (ys : List ℕ). set ys 3 (get_or ys 3 0 - n + k)) eu
    ∙ ap (λ a. v.number ∷ v.gsn ∷ v.generation ∷ a ∷ v.node.low ∷ v.node.high ∷ pair_words qs) x)
    (record { room = omega arith; level = f.level; last_log = f.last_log; ordered = keep-ordered p v.node.low ps v.node.high f.ordered })
