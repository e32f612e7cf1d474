-- A walk through the entries of a leaf, as the loaded words tell of it, and the locks of those that it met.
use Rattle.std.proofs.Common.{◌≡◌, ◌<◌, ◌≤◌, ◌+◌, ◌*◌, ◌^◌, inl, inr, ltb, ℕ, List, [], ◌∷◌, ◌++◌, append_assoc, append-nil, length, drop, sym, ap, subst, ◌∙◌, arith}
use Rattle.std.specs.Prelude.{if◌then◌else◌}
use Rattle.map_model.specs.Maps.{MapAnswer}
use Rattle.page_model.specs.Pairs.{Pair}
use Rattle.page_model.specs.Needs.{key_at}
use Rattle.page_model.specs.Page as stored
use Rattle.page_model.specs.Page.{word_at}
use Rattle.lean_proto.specs.btree_node.Inside.{place}
use Rattle.lean_proto.proofs.btree_node.PlaceLemmas.{ordered-rising}
use Rattle.lean_proto.specs.core_state.Needs.{following}
use Rattle.core_index.specs.Walks.{met_keys}
use Rattle.lean_proto.specs.row_words.Moments.{format_of}
use Rattle.lean_proto.specs.rows_trait.declared.view.Act.{Act}
use Rattle.lean_proto.specs.rows_trait.Views.{Knows}
use Rattle.btree_descent.specs.Inside.{IsSeen}
use Rattle.btree_descent.specs.Nexts.{AreLocked, IsFirstUnlocked}
use Rattle.btree_descent.specs.Meets.{Passed}
use Rattle.btree_descent.proofs.Keeping.{seen_key, seen_word}
use Rattle.btree_descent.proofs.Following.{behind_place, at_place, passed_dead, met_live, at_or_above, met_behind, met_dead, met_last, met_first}

-- ## Locks

none_locked : (locked : ℕ → Type 0) → AreLocked locked []
none_locked locked k h = absurd h

one_more : (locked : ℕ → Type 0) (keys : List ℕ) (at : ℕ) → AreLocked locked keys → locked at → AreLocked locked (keys ++ at ∷ [])
one_more locked [] at l h k (inl e) = subst locked (sym e) h
one_more locked [] at l h k (inr e) = absurd e
one_more locked (x ∷ xs) at l h k (inl e) = l k (inl e)
one_more locked (x ∷ xs) at l h k (inr e) = one_more locked xs at (λ j t. l j (inr t)) h k e

-- ## Entry by entry

-- nothing is passed yet
pub passed_none : (locked : ℕ → Type 0) (key i : ℕ) (p : stored.Page) → i ≡ place key p.node.pairs → Passed locked key i p
passed_none locked key i p e = record {
  behind = (omega arith);
  same = ap (λ n. following (format_of 1) key (drop n p.node.pairs) p.node.high) e ∙ behind_place (format_of 1) key p.node.high p.node.pairs;
  keys = [];
  whole = met_behind (format_of 1) key p.node.pairs ∙ ap (λ n. met_keys (format_of 1) key (drop n p.node.pairs)) (sym e);
  locks = none_locked locked;
}

module _ (locked : ℕ → Type 0) (row version count i key at : ℕ) (acts : List Act) (p : stored.Page) (s : IsSeen row version count acts p) (few : count ≤ 60) (lt : i < count)
    (knows_key : Knows row version (6 + 2 * i) at acts) (h : Passed locked key i p) where
  inside : i < length p.node.pairs
  inside = let e = s.size in omega arith

  key_is : at ≡ key_at i p.node.pairs
  key_is = seen_key row version count i at acts p s few lt knows_key

  here : drop i p.node.pairs ≡ record { key = at; word = word_at i p.node.pairs } ∷ drop (i + 1) p.node.pairs
  here = at_place i p.node.pairs inside ∙ (λ j. record { key = sym key_is j; word = word_at i p.node.pairs } ∷ drop (i + 1) p.node.pairs)

  above : key ≤ at
  above = let a = at_or_above p.node.low p.node.high key p.node.pairs i (ordered-rising p.node.low p.node.pairs p.node.high i s.fits.ordered inside) h.behind inside in let e = key_is in omega arith

  -- it is not locked
  pub walk_free : (locked at → ⊥) → IsFirstUnlocked locked at (met_keys (format_of 1) key p.node.pairs)
  walk_free no_lock = record {
    before = h.keys;
    behind = if ltb (word_at i p.node.pairs) (2 ^ 63) then [] else met_keys (format_of 1) key (drop (i + 1) p.node.pairs);
    whole = h.whole ∙ ap (λ (xs : List ℕ). h.keys ++ xs) (ap (met_keys (format_of 1) key) here ∙ met_first (format_of 1) key at (word_at i p.node.pairs) (drop (i + 1) p.node.pairs) above);
    locks = h.locks;
    unlocked = no_lock;
  }

  module _ (word : ℕ) (knows_word : Knows row version (7 + 2 * i) word acts) (lock : locked at) where
    word_is : word ≡ word_at i p.node.pairs
    word_is = seen_word row version count i word acts p s few lt knows_word

    there : drop i p.node.pairs ≡ record { key = at; word = word } ∷ drop (i + 1) p.node.pairs
    there = here ∙ (λ j. record { key = at; word = sym word_is j } ∷ drop (i + 1) p.node.pairs)

    -- it is a tombstone
    pub walk_dead : 2 ^ 63 ≤ word → Passed locked key (i + 1) p
    walk_dead le = record {
      behind = (let b = h.behind in omega arith);
      same = sym (passed_dead (format_of 1) key p.node.high at word (drop (i + 1) p.node.pairs) le) ∙ (ap (λ (ps : List Pair). following (format_of 1) key ps p.node.high) (sym there) ∙ h.same);
      keys = h.keys ++ at ∷ [];
      whole = h.whole ∙ (ap (λ (xs : List ℕ). h.keys ++ xs) (ap (met_keys (format_of 1) key) there ∙ met_dead (format_of 1) key at word (drop (i + 1) p.node.pairs) above le)
          ∙ sym (append_assoc h.keys (at ∷ []) (met_keys (format_of 1) key (drop (i + 1) p.node.pairs))));
      locks = one_more locked h.keys at h.locks lock;
    }

    -- it is live
    pub walk_live : word < 2 ^ 63 → (following (format_of 1) key p.node.pairs p.node.high ≡ MapAnswer.Pair at word) × AreLocked locked (met_keys (format_of 1) key p.node.pairs)
    walk_live small = (sym h.same ∙ (ap (λ (ps : List Pair). following (format_of 1) key ps p.node.high) there ∙ met_live (format_of 1) key p.node.high at word (drop (i + 1) p.node.pairs) above small), all)
      where
        whole : met_keys (format_of 1) key p.node.pairs ≡ h.keys ++ at ∷ []
        whole = h.whole ∙ ap (λ (xs : List ℕ). h.keys ++ xs) (ap (met_keys (format_of 1) key) there ∙ met_last (format_of 1) key at word (drop (i + 1) p.node.pairs) above small)

        all : AreLocked locked (met_keys (format_of 1) key p.node.pairs)
        all = subst (AreLocked locked) (sym whole) (one_more locked h.keys at h.locks lock)

-- at the end of the leaf
pub walk_end : (locked : ℕ → Type 0) (key i : ℕ) (p : stored.Page) → Passed locked key i p → i ≡ length p.node.pairs
    → (following (format_of 1) key p.node.pairs p.node.high ≡ MapAnswer.Gap p.node.high) × AreLocked locked (met_keys (format_of 1) key p.node.pairs)
walk_end locked key i p h e = (sym h.same ∙ ap (λ (ps : List Pair). following (format_of 1) key ps p.node.high) none, subst (AreLocked locked) (sym whole) h.locks)
  where
    none : drop i p.node.pairs ≡ []
    none = ap (λ n. drop n p.node.pairs) e ∙ Rattle.std.proofs.Math.Seq.drop-length p.node.pairs

    whole : met_keys (format_of 1) key p.node.pairs ≡ h.keys
    whole = h.whole ∙ (ap (λ (ps : List Pair). h.keys ++ met_keys (format_of 1) key ps) none ∙ append-nil h.keys)
