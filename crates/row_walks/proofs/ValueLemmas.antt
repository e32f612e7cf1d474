-- The values in front of a leaf, and what they say of its tidying.
use Rattle.std.proofs.Common.{◌≡◌, ◌≤◌, ◌<◌, ◌+◌, ◌^◌, ◌==◌, ◌&&◌, ◌%◌, not, leb, ltb, ℕ, zero, suc, Bool, true, false, cond, List, [], ◌∷◌, length, Option, Some, None, Result, Ok, Err, inr, refl, sym, ap, ◌∙◌, subst, arith, true≢false}
use Rattle.std.proofs.lemmas.Bool.{and_parts, cond-false, eqb-true, lt-leb, lt-ltb, ltb-true}
use Rattle.page_model.specs.Nodes.{Node, covers, is_leaf}
use Rattle.page_model.specs.Page as stored
use Rattle.page_model.specs.Page.{word_at}
use Rattle.page_model.specs.Pairs.{Pair, find}
use Rattle.page_model.specs.Redo.{is_some}
use Rattle.page_model.specs.Tree.{value_of}
use Rattle.lean_disk.specs.Faults.{HasCause}
use Rattle.row_changes.specs.session_state.engine_trait.declared.unserved.Unanswered.TheVariants as unanswered
use Rattle.row_changes.specs.session_state.engine_trait.declared.unserved.Unserved.TheVariants as unserved
use Rattle.row_changes.specs.declared.ways.Unmade.{Unmade}
use Rattle.row_changes.specs.declared.ways.Unmade.TheVariants as unmade
use Rattle.row_changes.proofs.StepLemmas.{cause_from, ok_calm}
use Rattle.row_walks.specs.declared.at_once.AtOnce.{AtOnce}
use Rattle.row_walks.specs.declared.at_once.AtOnce.TheVariants as at_once
use Rattle.row_changes.specs.session_state.core_calls.Room.{EveryRoom}
use Rattle.row_changes.specs.session_state.core_state.Needs.{is_settled, value_in}
use Rattle.row_changes.specs.session_state.core_state.Openings.{Opening}
use Rattle.row_changes.specs.session_state.core_state.States.{State, nodes_of}
use Rattle.row_changes.specs.session_state.row_words.declared.event.Event.{Event}
use Rattle.row_changes.specs.session_state.row_words.declared.given.Given.{Given}
use Rattle.row_changes.specs.session_state.row_words.Openings.{opening}
use Rattle.row_changes.specs.session_state.row_words.Words.{framed_page}
use Rattle.row_changes.specs.session_state.rows_trait.declared.view.Act.{Act}
use Rattle.row_changes.specs.session_state.rows_trait.declared.view.View.{View}
use Rattle.row_changes.specs.session_state.rows_trait.Views.{Has, Knows, Shape, after_all, latest, state}
use Rattle.row_changes.specs.session_state.btree_descent.version_latch.Kept.{Kept}
use Rattle.row_changes.specs.session_state.btree_descent.version_latch.declared.glimpse.Glimpse.{Glimpse}
use Rattle.row_changes.specs.session_state.btree_descent.version_latch.declared.glimpse.Moved.{Moved}
use Rattle.row_changes.specs.session_state.btree_descent.declared.descent.Stop.TheVariants as stop
use Rattle.row_changes.specs.session_state.btree_descent.Inside.{IsAgain, IsSeen, IsStopped}
use Rattle.row_changes.specs.session_state.btree_descent.declared.put.Spot.{Spot}
use Rattle.row_changes.specs.session_state.worker_log.Logs.{Log}
use Rattle.row_changes.specs.session_state.Holds.{Holds}
use Rattle.row_changes.specs.session_state.declared.session.Session.{Session}
use Rattle.row_changes.specs.Spots.{HasSpot, IsSpotFor}
use Rattle.row_changes.proofs.PutLemmas.{holds_as, holds_still}
use Rattle.row_changes.proofs.SeenLemmas.{none_seen}
use Rattle.row_changes.proofs.session_state.rows_trait.Causes.{found_after, looked_loads}
use Rattle.row_changes.proofs.session_state.btree_descent.Calls.{frames_after, sound_after}
use Rattle.row_changes.proofs.session_state.btree_descent.Keeping.{seen_before}
use Rattle.row_changes.proofs.session_state.btree_descent.Nodes.{IsLeafIn, leaf_in}
use Rattle.row_changes.proofs.session_state.btree_descent.Spots.{place_find}
use Rattle.row_changes.proofs.session_state.btree_descent.Ways.{leaf_after}
use Rattle.row_tidying.specs.tidy_rules.Laws.{gone}
use Rattle.row_tidying.specs.tidy_rules.Purges.{purgeable}
use Rattle.row_tidying.specs.tidy_rules.Tidying.{Stage, is_thin_leaf, next_tidy, next_up, page_at, purge_or, purgeable_in}
use Rattle.row_walks.specs.Inside.Leaves.{is_value}
use Rattle.row_walks.specs.Inside.Values.{values_of}
use Rattle.row_walks.proofs.LevelLemmas.{page_is}

-- ## Values

-- one pair more
pub values_step : (xs : List Pair) (n : ℕ) → n < length xs → values_of (suc n) xs ≡ cond (ltb (word_at n xs) (2 ^ 63)) (suc (values_of n xs)) (values_of n xs)
values_step [] n lt = absurd (omega arith)
values_step (x ∷ xs) zero lt = refl
values_step (x ∷ xs) (suc n) lt = (λ i. cond (ltb x.word (2 ^ 63)) (suc (values_step xs n (omega arith) i)) (values_step xs n (omega arith) i)) ∙ swap (ltb x.word (2 ^ 63)) (ltb (word_at n xs) (2 ^ 63)) (values_of n xs)
  where
    swap : (a b : Bool) (v : ℕ) → cond a (suc (cond b (suc v) v)) (cond b (suc v) v) ≡ cond b (suc (cond a (suc v) v)) (cond a (suc v) v)
    swap true true v = refl
    swap true false v = refl
    swap false true v = refl
    swap false false v = refl

one_more : (n : ℕ) (xs : List Pair) → values_of (n + 1) xs ≡ values_of (suc n) xs
one_more n xs = let e : n + 1 ≡ suc n = omega arith in ap (λ (k : ℕ). values_of k xs) e

-- behind a value, and behind a tombstone
pub values_more : (xs : List Pair) (n : ℕ) → n < length xs → word_at n xs < 2 ^ 63 → values_of (n + 1) xs ≡ suc (values_of n xs)
values_more xs n lt low = one_more n xs ∙ (values_step xs n lt ∙ ap (λ b. cond b (suc (values_of n xs)) (values_of n xs)) (lt-ltb (word_at n xs) (2 ^ 63) low))

pub values_same : (xs : List Pair) (n : ℕ) → n < length xs → (word_at n xs < 2 ^ 63 → ⊥) → values_of (n + 1) xs ≡ values_of n xs
values_same xs n lt high = one_more n xs ∙ (values_step xs n lt ∙ go (ltb (word_at n xs) (2 ^ 63)) refl)
  where
    go : (b : Bool) → ltb (word_at n xs) (2 ^ 63) ≡ b → cond b (suc (values_of n xs)) (values_of n xs) ≡ values_of n xs
    go true e = absurd (high (ltb-true (word_at n xs) (2 ^ 63) e))
    go false e = refl

-- no value can go
pub values_stay : (g : Opening) (s : State) → g.format.dead ≡ 2 ^ 63 → (xs : List Pair) (n : ℕ) → values_of n xs + length (purgeable g s xs) ≤ length xs
values_stay g s dead [] zero = omega arith
values_stay g s dead [] (suc n) = omega arith
values_stay g s dead (x ∷ xs) zero = go ((x.word == g.format.dead) && is_settled g s x.key) (values_stay g s dead xs zero)
  where
    go : (b : Bool) → 0 + length (purgeable g s xs) ≤ length xs → 0 + length (cond b (x.key ∷ purgeable g s xs) (purgeable g s xs)) ≤ suc (length xs)
    go true ih = omega arith
    go false ih = omega arith
values_stay g s dead (x ∷ xs) (suc n) = go (ltb x.word (2 ^ 63)) refl ((x.word == g.format.dead) && is_settled g s x.key) refl (values_stay g s dead xs n)
  where
    go : (a : Bool) → ltb x.word (2 ^ 63) ≡ a → (b : Bool) → ((x.word == g.format.dead) && is_settled g s x.key) ≡ b → values_of n xs + length (purgeable g s xs) ≤ length xs
        → cond a (suc (values_of n xs)) (values_of n xs) + length (cond b (x.key ∷ purgeable g s xs) (purgeable g s xs)) ≤ suc (length xs)
    go true p true q ih = absurd (let low = ltb-true x.word (2 ^ 63) p in let high = eqb-true x.word g.format.dead (and_parts (x.word == g.format.dead) (is_settled g s x.key) q).0 in let e = dead in omega arith)
    go true p false q ih = omega arith
    go false p true q ih = omega arith
    go false p false q ih = omega arith

-- ## What is next

module _ (g : Opening) (s : State) (key p : ℕ) (found : page_at g s key 0 ≡ Some p) where
  abbrev test : Bool
  test = not (p == 0) && (is_some (value_in g.format (nodes_of s p) key) && leb (length (nodes_of s p).pairs) (15 + length (gone g s p)))

  none_next : test ≡ false → (own : ℕ) → next_tidy own g s key Stage.Before ≡ None
  none_next e own =
      (λ i. cond (is_thin_leaf g s key (found i)) (purge_or own (found i) (purgeable_in g s (found i)) (next_up own g s key g.format.levels 0)) None)
      ∙ cond-false test (purge_or own (Some p) (gone g s p) (next_up own g s key g.format.levels 0)) None e

  and_false : (b : Bool) → (b && false) ≡ false
  and_false true = refl
  and_false false = refl

  pub root_next : p ≡ 0 → (own : ℕ) → next_tidy own g s key Stage.Before ≡ None
  root_next e = none_next (ap (λ (q : ℕ). not (q == 0) && (is_some (value_in g.format (nodes_of s q) key) && leb (length (nodes_of s q).pairs) (15 + length (gone g s q)))) e)

  pub valueless_next : is_some (value_in g.format (nodes_of s p) key) ≡ false → (own : ℕ) → next_tidy own g s key Stage.Before ≡ None
  valueless_next e = none_next (ap (λ b. not (p == 0) && (b && leb (length (nodes_of s p).pairs) (15 + length (gone g s p)))) e ∙ and_false (not (p == 0)))

  pub many_next : g.format.dead ≡ 2 ^ 63 → (n : ℕ) → 15 < values_of n (nodes_of s p).pairs → (own : ℕ) → next_tidy own g s key Stage.Before ≡ None
  many_next dead n many = none_next (
      (λ i. not (p == 0) && (is_some (value_in g.format (nodes_of s p) key) && lt-leb (length (nodes_of s p).pairs) (15 + length (gone g s p)) (let a = values_stay g s dead (nodes_of s p).pairs n in omega arith) i))
      ∙ (ap (λ b. not (p == 0) && b) (and_false (is_some (value_in g.format (nodes_of s p) key))) ∙ and_false (not (p == 0))))

-- ## Looks at a spot

-- one that finds the version again keeps all that is known
pub kept_again : (z : Shape) (worker key : ℕ) (l : Glimpse) (u w : View) → latest l.row u.steps ≡ Some l.version → IsAgain z worker key l u w → Kept z.alone u w
kept_again z worker key l u w last it = record {
  ran = it.ran;
  held = it.looked.held;
  loads = looked_loads z l.row l.version _ u w it.looked;
  has = λ q n h. subst (λ (acts : List Act). Has q n acts) (sym it.looked.steps) (inr h);
  knows = λ q n i x h. subst (λ (acts : List Act). Knows q n i x acts) (sym it.looked.steps) h;
  latest = λ q. ap (latest q) it.looked.steps ∙ go q (l.row == q) refl;
}
  where
    go : (q : ℕ) (b : Bool) → (l.row == q) ≡ b → cond b (Some l.version) (latest q u.steps) ≡ latest q u.steps
    go q true e = sym (subst (λ (r : ℕ). latest r u.steps ≡ Some l.version) (eqb-true l.row q e) last)
    go q false e = refl

-- the spot stays
pub spot_kept : (z y : Shape) (u w : View) (x : Session) (key : ℕ) (s : Spot) → z ≡ y → Kept y.alone u w → HasSpot y u x key s → HasSpot z w x key s
spot_kept z y u w x key s same k h = record {
  at = record {
    leaf = leaf_after z y u w x.own x.frames key s.leaf.glimpse s.leaf.head same k h.at.leaf;
    spot = λ p seen. h.at.spot p (seen_before y.alone s.leaf.glimpse.row s.leaf.glimpse.version (s.leaf.head.packed % 256) u w p k seen);
  };
  start = h.start;
  found = found_after s.leaf.glimpse.row s.leaf.glimpse.version h.start u w h.found k.loads;
  latest = k.latest s.leaf.glimpse.row ∙ h.latest;
}

module _ (rooms : EveryRoom) (z : Shape) (u w : View) (x : Session) (log : Log) (h : Holds z w x log) (key : ℕ) (s : Spot) (spot : HasSpot z u x key s) (it : IsAgain z x.own key s.leaf.glimpse u w) where
  abbrev g : Opening
  g = opening w.given

  abbrev core : State
  core = (state w).core

  abbrev page : ℕ
  page = s.leaf.head.page

  l : IsLeafIn w.given (state w) s.leaf.glimpse.row s.leaf.glimpse.version key s.leaf.head u.steps
  l =
      let a = spot.at.leaf in
      leaf_in w.given (state w) s.leaf.glimpse.row s.leaf.glimpse.version key s.leaf.head u.steps (frames_after z u w x.frames s.leaf.glimpse.row it.ran.given a.on.sized a.on.within) (sound_after u w it.ran.given a.on.sound) (λ i n small known. it.shown i n known) a.head a.node a.level

  found_there : page_at g core key 0 ≡ Some page
  found_there = page_is rooms g core key 0 page (h.rows.tree_sound w.seen).tree l.below (and_parts (is_leaf (nodes_of core page)) (covers (nodes_of core page) key) l.leaf).1 l.level

  entry_is : find key (nodes_of core page).pairs ≡ s.before
  entry_is = ap (λ (n : Node). find key n.pairs) (sym l.bare) ∙ place_find key (framed_page core page 0).node s.at s.before (spot.at.spot (framed_page core page 0) l.seen).place

  -- by each of the three tests
  pub by_many : ((p : stored.Page) → IsSeen s.leaf.glimpse.row s.leaf.glimpse.version (s.leaf.head.packed % 256) u.steps p → (n : ℕ) × (15 < values_of n p.node.pairs)) → (own : ℕ) → next_tidy own g core key Stage.Before ≡ None
  by_many many = let n = many (framed_page core page 0) l.seen in many_next g core key page found_there refl n.0 (subst (λ (k : Node). 15 < values_of n.0 k.pairs) l.bare n.1)

  pub by_root : page ≡ 0 → (own : ℕ) → next_tidy own g core key Stage.Before ≡ None
  by_root = root_next g core key page found_there

  pub by_entry : is_value s.before ≡ false → (own : ℕ) → next_tidy own g core key Stage.Before ≡ None
  by_entry none = valueless_next g core key page found_there (ap (λ (o : Option ℕ). is_some (value_of g.format o)) entry_is ∙ go s.before none)
    where
      go : (o : Option ℕ) → is_value o ≡ false → is_some (value_of g.format o) ≡ false
      go None e = refl
      go (Some word) e = ap (λ b. is_some (cond b (Some word) None)) e

-- ## The look before a del

pub no_value : (b : Bool) → not b ≡ true → b ≡ false
no_value false e = refl
no_value true e = absurd (true≢false (sym e))

module _ (z y : Shape) (same : y ≡ z) (v u w : View) (x : Session) (log : Log) (h : Holds z v x log) (key : ℕ) (s : Spot) (spot : HasSpot z v x key s) (k : Kept z.alone v u) where
  there : HasSpot z u x key s
  there = spot_kept z z v u x key s refl k spot

  module _ (it : IsAgain y x.own key s.leaf.glimpse u w) where
    again_is : IsAgain z x.own key s.leaf.glimpse u w
    again_is = subst (λ (q : Shape). IsAgain q x.own key s.leaf.glimpse u w) same it

    then : Kept z.alone u w
    then = kept_again z x.own key s.leaf.glimpse u w there.latest again_is

    given : w.given ≡ v.given
    given = then.ran.given ∙ k.ran.given

    seen : w.seen ≡ v.seen
    seen = none_seen z.alone u w h.alone then.ran ∙ none_seen z.alone v u h.alone k.ran

    holds_there : Holds z w x log
    holds_there = holds_still z v w x log given seen (then.held ∙ (k.held ∙ h.idle)) h

    pub look_holds : (q : Shape) → q ≡ y → Holds q w x log
    look_holds q e = holds_as z q w x x log log (e ∙ same) refl refl holds_there

    pub look_spot : IsSpotFor z v w x key s
    look_spot = record { given = given; seen = seen; spot = spot_kept z z u w x key s refl then there }

    back : (own : ℕ) → next_tidy own (opening w.given) (state w).core key Stage.Before ≡ None → next_tidy own (opening v.given) (state v).core key Stage.Before ≡ None
    back own e = subst (λ (es : List Event). next_tidy own (opening v.given) (after_all v.given es).core key Stage.Before ≡ None) seen
        (subst (λ (g : Given). next_tidy own (opening g) (after_all g w.seen).core key Stage.Before ≡ None) given e)

    module _ (rooms : EveryRoom) where
      pub look_many : ((p : stored.Page) → IsSeen s.leaf.glimpse.row s.leaf.glimpse.version (s.leaf.head.packed % 256) u.steps p → (n : ℕ) × (15 < values_of n p.node.pairs)) → (own : ℕ) → next_tidy own (opening v.given) (state v).core key Stage.Before ≡ None
      look_many many own = back own (by_many rooms z u w x log holds_there key s there again_is many own)

      pub look_root : s.leaf.head.page ≡ 0 → (own : ℕ) → next_tidy own (opening v.given) (state v).core key Stage.Before ≡ None
      look_root e own = back own (by_root rooms z u w x log holds_there key s there again_is e own)

      pub look_entry : is_value s.before ≡ false → (own : ℕ) → next_tidy own (opening v.given) (state v).core key Stage.Before ≡ None
      look_entry e own = back own (by_entry rooms z u w x log holds_there key s there again_is e own)

  -- it never finds another version
  pub look_found : (m : Moved) → IsStopped y.alone x.own key s.leaf.glimpse u (stop.Moved m) w → ⊥
  look_found m d = d.quiet (ap (λ (q : Shape). q.alone) same ∙ h.alone) (k.held ∙ h.idle) there.latest

-- ## What a del at once tells of faults

abbrev fault_of : (A : Type 0) → Result A Unmade
fault_of A = Err (unmade.Unserved (unserved.Unanswered unanswered.DiskFault))

pub done_told : (a b : ℕ) (was : Option ℕ) → HasCause a b (Ok was ≡ fault_of (Option ℕ)) → HasCause a b (Ok (at_once.Done was) ≡ fault_of AtOnce)
done_told a b was h = cause_from a a b _ _ refl h (λ q. absurd (ok_calm _ _ q)) (λ p. absurd (ok_calm _ _ p))

abbrev del_unmade : Unmade → Result (Option ℕ) Unmade
del_unmade why = Err why

abbrev once_unmade : Unmade → Result AtOnce Unmade
once_unmade why = Err why

pub unmade_told : (a b : ℕ) (why : Unmade) → HasCause a b (del_unmade why ≡ fault_of (Option ℕ)) → HasCause a b (once_unmade why ≡ fault_of AtOnce)
unmade_told a b why h = cause_from a a b _ _ refl h (λ q. ap del_unmade (inner q)) (λ q. ap once_unmade (outer q))
  where
    inner : once_unmade why ≡ fault_of AtOnce → why ≡ unmade.Unserved (unserved.Unanswered unanswered.DiskFault)
    inner q = cc

    outer : del_unmade why ≡ fault_of (Option ℕ) → why ≡ unmade.Unserved (unserved.Unanswered unanswered.DiskFault)
    outer q = cc
