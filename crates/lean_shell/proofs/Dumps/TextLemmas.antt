-- The lines of pairs, piece by piece.
use Rattle.std.proofs.Common.{◌≡◌, ◌<◌, ◌≤◌, ◌+◌, ◌++◌, ℕ, Bool, true, false, ltb, cond, List, [], ◌∷◌, length, drop, refl, sym, ap, ◌∙◌, append_assoc}
use Rattle.std.proofs.lemmas.Bool.{cond-true, cond-false, lt-ltb, le-ltb}
use Rattle.std.proofs.lemmas.List.{append-nil}
use Rattle.page_model.specs.Pairs.{Pair}
use Rattle.script_lang.specs.Notices.{Notice}
use Rattle.node_tree.proofs.PairLemmas.{pair_at, drop_pair, drop_none}
use Rattle.pair_walk.specs.Listings.{live}
use Rattle.lean_shell.specs.Lines.{line_of}
use Rattle.lean_shell.specs.Dumps.{pair_lines}

pub lines_append : (xs ys : List Pair) → pair_lines (xs ++ ys) ≡ pair_lines xs ++ pair_lines ys
lines_append [] ys = refl
lines_append (x ∷ xs) ys =
    let line = line_of (Notice.Pair x.key x.word) in
    ap (λ (t : List ℕ). line ++ t) (lines_append xs ys) ∙ sym (append_assoc line (pair_lines xs) (pair_lines ys))

live_first : (dead : ℕ) (x : Pair) (xs : List Pair) → live dead (x ∷ xs) ≡ live dead (x ∷ []) ++ live dead xs
live_first dead x xs = go (ltb x.word dead)
  where
    go : (t : Bool) → cond t (x ∷ live dead xs) (live dead xs) ≡ cond t (x ∷ []) [] ++ live dead xs
    go true = refl
    go false = refl

-- the lines of the first pair and of those behind it
pub lines_first : (dead : ℕ) (x : Pair) (xs : List Pair) → pair_lines (live dead (x ∷ xs)) ≡ pair_lines (live dead (x ∷ [])) ++ pair_lines (live dead xs)
lines_first dead x xs = ap pair_lines (live_first dead x xs) ∙ lines_append (live dead (x ∷ [])) (live dead xs)

-- ## The lines of a leaf

-- those from a pair on are that of the pair and those behind it
pub lines_from : (dead : ℕ) (ps : List Pair) (i : ℕ) → i < length ps → pair_lines (live dead (drop i ps)) ≡ pair_lines (live dead (pair_at i ps ∷ [])) ++ pair_lines (live dead (drop (i + 1) ps))
lines_from dead ps i lt = ap (λ (qs : List Pair). pair_lines (live dead qs)) (drop_pair ps i lt) ∙ lines_first dead (pair_at i ps) (drop (i + 1) ps)

pub lines_end : (dead : ℕ) (ps : List Pair) (i : ℕ) → length ps ≤ i → pair_lines (live dead (drop i ps)) ≡ []
lines_end dead ps i le = ap (λ (qs : List Pair). pair_lines (live dead qs)) (drop_none ps i le)

-- a tombstone has no line, and a value has its own
pub line_dead : (dead : ℕ) (x : Pair) → dead ≤ x.word → pair_lines (live dead (x ∷ [])) ≡ []
line_dead dead x le = ap pair_lines (cond-false (ltb x.word dead) (x ∷ []) [] (le-ltb x.word dead le))

pub line_live : (dead : ℕ) (x : Pair) → x.word < dead → pair_lines (live dead (x ∷ [])) ≡ line_of (Notice.Pair x.key x.word)
line_live dead x lt = ap pair_lines (cond-true (ltb x.word dead) (x ∷ []) [] (lt-ltb x.word dead lt)) ∙ append-nil (line_of (Notice.Pair x.key x.word))
