-- The lines of a leaf's pairs, and of leaf after leaf.
use Rattle.std.proofs.Common.{◌≡◌, ◌<◌, ◌≤◌, ◌+◌, ◌++◌, ℕ, List, [], ◌∷◌, length, drop, sym, subst, arith}
use Rattle.map_model.specs.Maps.{Map, key_end, value_end}
use Rattle.page_model.specs.Pairs.{Pair}
use Rattle.node_tree.proofs.PairLemmas.{pair_at}
use Rattle.pair_walk.specs.Laws.{ListingLaws}
use Rattle.pair_walk.specs.Listings.{Lists, live}
use Rattle.lean_disk.specs.Faults.{HasCause}
use Rattle.lean_disk.specs.Story.{Story}
use Rattle.buffered_engine.specs.lean_edge.Outside.{Held}
use Rattle.buffered_engine.specs.lean_edge.declared.sink.Put.{Put}
use Rattle.buffered_engine.specs.lean_edge.declared.sink.Put.TheVariants.{Done, Failed}
use Rattle.script_lang.specs.Notices.{Notice}
use Rattle.lean_shell.specs.Lines.{IsPut, line_of}
use Rattle.lean_shell.specs.Dumps.{map_text, pair_lines}
use Rattle.lean_shell.specs.Inside.Puts.{ArePut, ArePutTo, IsStillToPut, PutsDump, PutsMap, PutsPairs}
use Rattle.lean_shell.specs.Runs.{Counts, first_line}
use Rattle.lean_shell.proofs.Dumps.TextLemmas.{line_dead, line_live, lines_append, lines_end, lines_from}
use Rattle.lean_shell.proofs.Dumps.PutLemmas.{are_put_cut, are_put_line, are_put_none, are_put_same, are_put_then, still_cut, still_more, still_none}

abbrev pub lines : List Pair → List ℕ
lines ps = pair_lines (live value_end ps)

-- ## A pair

pub skipped : (x : Pair) (h : Held) (k : ℕ) (s : Story) → value_end ≤ x.word → ArePut (lines (x ∷ [])) Done h h k k s s
skipped x h k s le = are_put_same [] (lines (x ∷ [])) Done h h k k s s (sym (line_dead value_end x le)) (are_put_none h k s)

pub told : (x : Pair) (r : Put) (h0 h1 : Held) (k0 k1 : ℕ) (s0 s1 : Story) → x.word < value_end → IsPut (line_of (Notice.Pair x.key x.word)) r h0 h1 s0 s1 → HasCause k0 k1 (r ≡ Failed) → ArePut (lines (x ∷ [])) r h0 h1 k0 k1 s0 s1
told x r h0 h1 k0 k1 s0 s1 lt p cause =
    are_put_same (line_of (Notice.Pair x.key x.word)) (lines (x ∷ [])) r h0 h1 k0 k1 s0 s1 (sym (line_live value_end x lt)) (are_put_line (line_of (Notice.Pair x.key x.word)) r h0 h1 k0 k1 s0 s1 p cause)

-- ## A leaf

module _ (ps : List Pair) (i : ℕ) (lt : i < length ps) (h0 h1 h2 : Held) (k0 k1 k2 : ℕ) (s0 s1 s2 : Story) (so : IsStillToPut (lines ps) (lines (drop i ps)) h0 h1 k0 k1 s0 s1)
    (r : Put) (p : ArePut (lines (pair_at i ps ∷ [])) r h1 h2 k1 k2 s1 s2) where
  first : IsStillToPut (lines ps) (lines (pair_at i ps ∷ []) ++ lines (drop (i + 1) ps)) h0 h1 k0 k1 s0 s1
  first = subst (λ (t : List ℕ). IsStillToPut (lines ps) t h0 h1 k0 k1 s0 s1) (lines_from value_end ps i lt) so

  pub leaf_more : r ≡ Done → IsStillToPut (lines ps) (lines (drop (i + 1) ps)) h0 h2 k0 k2 s0 s2
  leaf_more is = still_more (lines ps) (lines (pair_at i ps ∷ [])) (lines (drop (i + 1) ps)) h0 h1 h2 k0 k1 k2 s0 s1 s2 first
      (subst (λ (a : Put). ArePut (lines (pair_at i ps ∷ [])) a h1 h2 k1 k2 s1 s2) is p)

  pub leaf_cut : r ≡ Failed → ArePut (lines ps) Failed h0 h2 k0 k2 s0 s2
  leaf_cut is = still_cut (lines ps) (lines (pair_at i ps ∷ [])) (lines (drop (i + 1) ps)) h0 h1 h2 k0 k1 k2 s0 s1 s2 first
      (subst (λ (a : Put). ArePut (lines (pair_at i ps ∷ [])) a h1 h2 k1 k2 s1 s2) is p)

pub leaf_end : (ps : List Pair) (i : ℕ) → length ps ≤ i → (h0 h1 : Held) (k0 k1 : ℕ) (s0 s1 : Story) → IsStillToPut (lines ps) (lines (drop i ps)) h0 h1 k0 k1 s0 s1 → ArePut (lines ps) Done h0 h1 k0 k1 s0 s1
leaf_end ps i le h0 h1 k0 k1 s0 s1 so = still_none (lines ps) h0 h1 k0 k1 s0 s1 (subst (λ (t : List ℕ). IsStillToPut (lines ps) t h0 h1 k0 k1 s0 s1) (lines_end value_end ps i le) so)

-- ## Leaf after leaf

pub none_put : (map : Map) (h : Held) (k : ℕ) (s : Story) → ArePutTo map 0 h h k k s s
none_put map h k s = record { pairs = []; are = record { rising = omega arith; all = λ j l b. absurd (omega arith) }; put = are_put_none h k s }

module _ (listing : ListingLaws) (map : Map) (fence high : ℕ) (xs : List Pair) (h0 h1 h2 : Held) (k0 k1 k2 : ℕ) (s0 s1 s2 : Story)
    (so : ArePutTo map fence h0 h1 k0 k1 s0 s1) (these : Lists map fence high xs) (r : Put) (p : ArePut (pair_lines xs) r h1 h2 k1 k2 s1 s2) where
  joined : Lists map 0 high (so.pairs ++ xs)
  joined = listing.joined map 0 fence high so.pairs xs so.are these

  both : ArePut (pair_lines (so.pairs ++ xs)) r h0 h2 k0 k2 s0 s2
  both = are_put_same (pair_lines so.pairs ++ pair_lines xs) (pair_lines (so.pairs ++ xs)) r h0 h2 k0 k2 s0 s2 (sym (lines_append so.pairs xs))
      (are_put_then (pair_lines so.pairs) (pair_lines xs) r h0 h1 h2 k0 k1 k2 s0 s1 s2 so.put p)

  pub leaves_more : r ≡ Done → ArePutTo map high h0 h2 k0 k2 s0 s2
  leaves_more is = record { pairs = so.pairs ++ xs; are = joined; put = subst (λ (a : Put). ArePut (pair_lines (so.pairs ++ xs)) a h0 h2 k0 k2 s0 s2) is both }

  -- the lines of the leaves behind are not put any more
  pub leaves_cut : r ≡ Failed → high ≤ key_end → PutsPairs map Failed h0 h2 k0 k2 s0 s2
  leaves_cut is le =
      let rest = listing.some map high key_end le in
      let cut = subst (λ (a : Put). ArePut (pair_lines (so.pairs ++ xs)) a h0 h2 k0 k2 s0 s2) is both in
      record {
        pairs = (so.pairs ++ xs) ++ rest.pairs;
        are = listing.joined map 0 high key_end (so.pairs ++ xs) rest.pairs joined rest.are;
        put = are_put_same (pair_lines (so.pairs ++ xs) ++ pair_lines rest.pairs) (pair_lines ((so.pairs ++ xs) ++ rest.pairs)) Failed h0 h2 k0 k2 s0 s2 (sym (lines_append (so.pairs ++ xs) rest.pairs))
            (are_put_cut (pair_lines (so.pairs ++ xs)) (pair_lines rest.pairs) h0 h2 k0 k2 s0 s2 cut);
      }

pub leaves_end : (map : Map) (fence : ℕ) → fence ≡ key_end → (h0 h1 : Held) (k0 k1 : ℕ) (s0 s1 : Story) → ArePutTo map fence h0 h1 k0 k1 s0 s1 → PutsPairs map Done h0 h1 k0 k1 s0 s1
leaves_end map fence is h0 h1 k0 k1 s0 s1 so = record { pairs = so.pairs; are = subst (λ (n : ℕ). Lists map 0 n so.pairs) is so.are; put = so.put }

-- ## The last line

pub map_cut : (map : Map) (r : Put) → r ≡ Failed → (h0 h1 : Held) (k0 k1 : ℕ) (s0 s1 : Story) → PutsPairs map r h0 h1 k0 k1 s0 s1 → PutsMap map Failed h0 h1 k0 k1 s0 s1
map_cut map r is h0 h1 k0 k1 s0 s1 p = record {
  pairs = p.pairs;
  are = p.are;
  put = are_put_cut (pair_lines p.pairs) (line_of Notice.End) h0 h1 k0 k1 s0 s1 (subst (λ (a : Put). ArePut (pair_lines p.pairs) a h0 h1 k0 k1 s0 s1) is p.put);
}

pub map_end : (map : Map) (a r : Put) → a ≡ Done → (h0 h1 h2 : Held) (k0 k1 k2 : ℕ) (s0 s1 s2 : Story) → PutsPairs map a h0 h1 k0 k1 s0 s1 → IsPut (line_of Notice.End) r h1 h2 s1 s2 → HasCause k1 k2 (r ≡ Failed) → PutsMap map r h0 h2 k0 k2 s0 s2
map_end map a r is h0 h1 h2 k0 k1 k2 s0 s1 s2 p q cause = record {
  pairs = p.pairs;
  are = p.are;
  put = are_put_then (pair_lines p.pairs) (line_of Notice.End) r h0 h1 h2 k0 k1 k2 s0 s1 s2 (subst (λ (b : Put). ArePut (pair_lines p.pairs) b h0 h1 k0 k1 s0 s1) is p.put)
      (are_put_line (line_of Notice.End) r h1 h2 k1 k2 s1 s2 q cause);
}

-- ## The first line

pub opened_cut : ListingLaws → (counts : Counts) (map : Map) (r : Put) → r ≡ Failed → (h0 h1 : Held) (k0 k1 : ℕ) (s0 s1 : Story) → IsPut (first_line counts) r h0 h1 s0 s1 → HasCause k0 k1 (r ≡ Failed)
    → PutsDump counts map Failed h0 h1 k0 k1 s0 s1
opened_cut listing counts map r is h0 h1 k0 k1 s0 s1 p cause = let all = listing.some map 0 key_end (omega arith) in record {
  pairs = all.pairs;
  are = all.are;
  put = are_put_cut (first_line counts) (map_text all.pairs) h0 h1 k0 k1 s0 s1
      (subst (λ (a : Put). ArePut (first_line counts) a h0 h1 k0 k1 s0 s1) is (are_put_line (first_line counts) r h0 h1 k0 k1 s0 s1 p cause));
}

pub opened_then : (counts : Counts) (map : Map) (a r : Put) → a ≡ Done → (h0 h1 h2 : Held) (k0 k1 k2 : ℕ) (s0 s1 s2 : Story) → IsPut (first_line counts) a h0 h1 s0 s1 → HasCause k0 k1 (a ≡ Failed) → PutsMap map r h1 h2 k1 k2 s1 s2
    → PutsDump counts map r h0 h2 k0 k2 s0 s2
opened_then counts map a r is h0 h1 h2 k0 k1 k2 s0 s1 s2 p cause q = record {
  pairs = q.pairs;
  are = q.are;
  put = are_put_then (first_line counts) (map_text q.pairs) r h0 h1 h2 k0 k1 k2 s0 s1 s2
      (subst (λ (b : Put). ArePut (first_line counts) b h0 h1 k0 k1 s0 s1) is (are_put_line (first_line counts) a h0 h1 k0 k1 s0 s1 p cause)) q.put;
}
