-- A full leaf: where its path ends, that none of its tombstones can go, and that room for its key takes pages.
use Rattle.std.proofs.Common.{◌≡◌, ◌≢◌, ◌⊎◌, inl, inr, ◌≤◌, ◌<◌, ◌+◌, ◌-◌, ◌==◌, ◌&&◌, ◌||◌, ltb, not, ℕ, zero, suc, Bool, true, false, cond, List, [], ◌∷◌, length, Some, None, refl, sym, ap, ◌∙◌, subst, arith, true≢false, eq-eqb}
use Rattle.std.specs.Prelude.{slice_index}
use Rattle.std.proofs.lemmas.Bool.{and_parts, cases_eq, cond-true, cond-false, eqb-true, lt-ltb}
use Rattle.page_model.specs.Check.{some_below}
use Rattle.page_model.specs.Nodes.{covers, holds, is_leaf}
use Rattle.page_model.specs.Pairs.{find}
use Rattle.page_model.specs.Redo.{has_key, is_some}
use Rattle.row_growth.specs.session_state.core_state.Openings.{Opening}
use Rattle.row_growth.specs.session_state.core_state.States.{Place, State, nodes_of}
use Rattle.row_growth.specs.session_state.core_calls.Room.{EveryRoom, full_from, full_run, is_all_full, is_full_at, room_takes}
use Rattle.row_growth.specs.session_state.worker_log.Logs.{Log}
use Rattle.row_growth.specs.session_state.row_words.Openings.{opening}
use Rattle.row_growth.specs.session_state.rows_trait.Views.{Shape, state}
use Rattle.row_growth.specs.session_state.rows_trait.declared.view.View.{View}
use Rattle.row_growth.specs.session_state.lean_proto.Paths.{above}
use Rattle.row_growth.specs.session_state.engine_trait.Refusals.{is_full_for}
use Rattle.row_growth.specs.session_state.Holds.{Holds}
use Rattle.row_growth.specs.session_state.declared.session.Session.{Session}
use Rattle.row_tidying.specs.tidy_rules.Purges.{purgeable}
use Rattle.row_tidying.specs.tidy_rules.Laws.{gone}
use Rattle.row_tidying.specs.tidy_rules.Rooms.{NoneGoes}
use Rattle.row_growth.specs.row_changes.Paths.{IsPathTo, IsUnfit, LeadsToFull}
use Rattle.row_tidying.specs.Changes.{CanPurge}
use Rattle.row_tidying.proofs.MadeLemmas.{sound}

some_is : (a b : ℕ) → Some a ≡ Some b → a ≡ b
some_is a b e = cc

has_below : (n : ℕ) (p : ℕ → Bool) (i : ℕ) → i < n → p i ≡ true → some_below n p ≡ true
has_below zero p i lt e = absurd (omega arith)
has_below (suc n) p i lt e = go (has_below n p i) (cases_eq i n)
  where
    or_right : (a b : Bool) → b ≡ true → (a || b) ≡ true
    or_right true b q = refl
    or_right false b q = q

    go : (i < n → p i ≡ true → some_below n p ≡ true) → (i ≡ n) ⊎ (i ≡ n → ⊥) → some_below (suc n) p ≡ true
    go ih (inl q) = ap (λ b. b || some_below n p) (ap p (sym q) ∙ e)
    go ih (inr q) = or_right (p n) (some_below n p) (ih (omega arith) e)

-- ## The end of a path

-- it has one frame at least
pub path_some : {v : View} {frames key : ℕ} {path : List ℕ} → LeadsToFull v frames key path → 0 < length path
path_some to = let e = ap (λ (ps : List ℕ). length ps) to.path_to.starts in omega arith

-- and the last one is the leaf's
pub path_end : {v : View} {frames key : ℕ} {path : List ℕ} (to : LeadsToFull v frames key path) (frame : ℕ) → above path 0 ≡ Some frame → frame ≡ to.frame
path_end to frame e = some_is frame to.frame (sym e ∙ to.path_to.ends)

pub above_end : (path : List ℕ) → 0 < length path → above path 0 ≡ Some (slice_index path (length path - 1))
above_end path some = ap (λ b. cond b (Some (slice_index path (length path - 1))) None) (lt-ltb 0 (length path) some)

-- ## The leaf

-- where the leaf is full, each node of its level on the key's way is
module _ (g : Opening) (s : State) (key leaf : ℕ) (below : leaf < g.format.pages) (over : holds (nodes_of s leaf) key ≡ true) (full : length (nodes_of s leaf).pairs ≡ g.format.room) where
  at : (is_leaf (nodes_of s leaf) ≡ true) × (covers (nodes_of s leaf) key ≡ true)
  at = and_parts (is_leaf (nodes_of s leaf)) (covers (nodes_of s leaf) key) over

  level : (nodes_of s leaf).level ≡ 0
  level = eqb-true (nodes_of s leaf).level 0 (and_parts (nodes_of s leaf).live ((nodes_of s leaf).level == 0) at.0).1

  full_at : is_full_at g s key 0 ≡ true
  full_at = has_below g.format.pages (λ p. covers (nodes_of s p) key && (((nodes_of s p).level == 0) && (length (nodes_of s p).pairs == g.format.room))) leaf below
      (λ i. at.1 i && (eq-eqb (nodes_of s leaf).level 0 level i && eq-eqb (length (nodes_of s leaf).pairs) g.format.room full i))

  some_run : 0 < full_run g s key
  some_run = let e : full_run g s key ≡ suc (full_from g s key g.format.levels 1) = cond-true (is_full_at g s key 0) (suc (full_from g s key g.format.levels 1)) 0 full_at in omega arith

  -- so room takes a page at least
  pub some_takes : 0 < room_takes g s key
  some_takes = go (is_all_full g s key)
    where
      go : (b : Bool) → 0 < cond b (suc (full_run g s key)) (full_run g s key)
      go true = omega arith
      go false = some_run

-- no other leaf holds the key
pub one_leaf : EveryRoom → (z : Shape) (v : View) (x : Session) (log : Log) → Holds z v x log → (key p q : ℕ) → p < (opening v.given).format.pages → q < (opening v.given).format.pages
    → holds (nodes_of (state v).core p) key ≡ true → holds (nodes_of (state v).core q) key ≡ true → p ≡ q
one_leaf rooms z v x log h key p q below within a b =
    let s = (state v).core in
    let x1 = and_parts (is_leaf (nodes_of s p)) (covers (nodes_of s p) key) a in
    let x2 = and_parts (is_leaf (nodes_of s q)) (covers (nodes_of s q) key) b in
    let l1 = eqb-true (nodes_of s p).level 0 (and_parts (nodes_of s p).live ((nodes_of s p).level == 0) x1.0).1 in
    let l2 = eqb-true (nodes_of s q).level 0 (and_parts (nodes_of s q).live ((nodes_of s q).level == 0) x2.0).1 in
    (rooms (opening v.given) s key).one (sound z v x log h).tree p q below within x1.1 x2.1 (l1 ∙ sym l2)

module _ (z : Shape) (v : View) (x : Session) (log : Log) (h : Holds z v x log) (key : ℕ) (path : List ℕ) (to : LeadsToFull v x.frames key path) where
  abbrev g : Opening
  g = opening v.given

  abbrev s : State
  s = (state v).core

  -- the leaf can be purged
  pub can_purge : (frame : ℕ) → above path 0 ≡ Some frame → CanPurge v frame
  can_purge frame e = record {
    page = to.leaf;
    stands = to.stands ∙ ap Place.Hot (sym (path_end to frame e));
    leaf = (and_parts (is_leaf (nodes_of s to.leaf)) (covers (nodes_of s to.leaf) key) to.unfit.holds).0;
  }

  pub full_for : is_full_for g s key ≡ true
  full_for = has_below g.format.pages (λ q. holds (s.page q).node key && ((length (s.page q).node.pairs == 60) && not (has_key key (s.page q).node))) to.leaf to.unfit.below
      (λ i. to.unfit.holds i && (eq-eqb (length (nodes_of s to.leaf).pairs) 60 to.unfit.full i && not (is_some (to.unfit.none i))))

  pub takes_some : 0 < room_takes g s key
  takes_some = some_takes g s key to.leaf to.unfit.below to.unfit.holds to.unfit.full

  -- where no tombstone of this leaf can go, none of the key's can
  pub none_goes : EveryRoom → gone g s to.leaf ≡ [] → NoneGoes g s key
  none_goes rooms e p below over = ap (λ (q : ℕ). gone g s q) (one_leaf rooms z v x log h key p to.leaf below to.unfit.below over to.unfit.holds) ∙ e
