-- Keys are settled where their rows are as they were and logs are flushed no less.
use Rattle.std.proofs.Common.{◌≡◌, ◌&&◌, ◌≤◌, ◌==◌, ℕ, Bool, true, false, List, [], ◌∷◌, refl, sym, ap, subst, ◌∙◌, true≢false, arith}
use Rattle.std.specs.Prelude.{if◌then◌else◌}
use Rattle.std.proofs.lemmas.Bool.{and_from, leb-true, le-leb, eq-eqb, cond-true}
use Rattle.page_model.specs.Pairs.{is_in}
use Rattle.page_model.specs.Redo.{all_keys}
use Rattle.core_paging.specs.core_state.Lists.{is_empty}
use Rattle.core_paging.specs.core_state.Openings.{Opening}
use Rattle.core_paging.specs.core_state.States.{State, nodes_of, flushed_by_all}
use Rattle.core_paging.specs.core_state.Events as happening
use Rattle.core_paging.specs.core_state.Needs.{may, needs, are_hot, pages_of, may_purge, is_settled, is_free}
use Rattle.core_paging.proofs.core_commit.Lists.{le_least}
use Rattle.core_paging.proofs.core_commit.Controls.{least_mono}
use Rattle.version_latch.proofs.row_words.Stays.{cases, and_true}
use Rattle.lean_proto.specs.Purges.{CanPurge}

-- what holds of each key that is in the list
all_from : (P : ℕ → Bool) (keys : List ℕ) → ((k : ℕ) → is_in k keys ≡ true → P k ≡ true) → all_keys P keys ≡ true
all_from P [] f = refl
all_from P (k ∷ ks) f = and_from (P k) (all_keys P ks) (f k (ap (λ b. if b then true else is_in k ks) (eq-eqb k k refl)))
    (all_from P ks (λ j h. f j (later (k == j) h)))
  where
    later : {x : Bool} (b : Bool) → x ≡ true → (if b then true else x) ≡ true
    later true h = refl
    later false h = h

all_at : (P : ℕ → Bool) (keys : List ℕ) → all_keys P keys ≡ true → (k : ℕ) → is_in k keys ≡ true → P k ≡ true
all_at P [] h k i = absurd (true≢false (sym i))
all_at P (x ∷ xs) h k i =
    let a = and_true (P x) (all_keys P xs) h in
    cases (x == k)
    (λ y. subst (λ j. P j ≡ true) (let e : x ≡ k = Rattle.std.proofs.lemmas.Bool.eqb-true x k y in e) a.0)
    (λ n. all_at P xs a.1 k (sym (ap (λ b. if b then true else is_in k xs) n) ∙ i))

module _ (g : Opening) (s t : State) (w p : ℕ) (keys : List ℕ) where
  pub settled_on : may g s (happening.Event.Purge w p keys) ≡ true → ((u : ℕ) → s.flushed u ≤ t.flushed u) → ((k : ℕ) → is_in k keys ≡ true → t.row (g.row_of k) ≡ s.row (g.row_of k)) → all_keys (λ k. is_settled g t k) keys ≡ true
  settled_on ok up same = all_from (λ k. is_settled g t k) keys one
    where
      asked : (may_purge g (nodes_of s) p keys && all_keys (λ k. is_settled g s k) keys) ≡ true
      asked = (and_true (s.worker w).is_open (may_purge g (nodes_of s) p keys && all_keys (λ k. is_settled g s k) keys) (and_true (are_hot s (pages_of (happening.Event.Purge w p keys))) (needs g s (happening.Event.Purge w p keys)) ok).1).1

      one : (k : ℕ) → is_in k keys ≡ true → is_settled g t k ≡ true
      one k i =
          let was = all_at (λ j. is_settled g s j) keys (and_true (may_purge g (nodes_of s) p keys) (all_keys (λ j. is_settled g s j) keys) asked).1 k i in
          let a = and_true (is_free (s.row (g.row_of k)).holder) _ was in
          let b = and_true (is_empty (s.row (g.row_of k)).readers) _ a.1 in
          let e = same k i in
          let le = leb-true (s.row (g.row_of k)).number (flushed_by_all g s) b.1 in
          let more = least_mono s.flushed t.flushed g.workers g.some_worker up in
          let n = ap (λ o. o.number) e in
          and_from (is_free (t.row (g.row_of k)).holder) _ (ap (λ o. is_free o.holder) e ∙ a.0)
          (and_from (is_empty (t.row (g.row_of k)).readers) _ (ap (λ o. is_empty o.readers) e ∙ b.0) (le-leb (t.row (g.row_of k)).number (flushed_by_all g t) (omega arith)))

module _ (g : Opening) (s : State) (w p : ℕ) (keys : List ℕ) (f : ℕ) (c : CanPurge g s w p keys f) where
  free_keys : all_keys (λ k. is_settled g s k) keys ≡ true
  free_keys = all_from (λ k. is_settled g s k) keys one
    where
      low : f ≤ flushed_by_all g s
      low = le_least s.flushed g.workers f g.some_worker (λ u q. c.flushed u q.0 q.1)

      one : (k : ℕ) → is_in k keys ≡ true → is_settled g s k ≡ true
      one k i =
          let r = c.rows k i in
          let n = r.number in
          let m = low in
          and_from (is_free (s.row (g.row_of k)).holder) _ r.holder
          (and_from (is_empty (s.row (g.row_of k)).readers) _ (ap is_empty r.readers) (le-leb (s.row (g.row_of k)).number (flushed_by_all g s) (omega arith)))

  pub can_purge : may g s (happening.Event.Purge w p keys) ≡ true
  can_purge = rw (c.hot, c.is_open, c.dead, free_keys) refl
