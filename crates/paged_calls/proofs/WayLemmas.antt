-- Room for a key hangs on the pages that are no leaves, where its leaf is full and none of its tombstones can go.
use Rattle.std.proofs.Common.{◌≡◌, ◌∙◌, ◌⊎◌, inl, inr, ◌≤◌, ◌<◌, ◌||◌, ◌&&◌, ◌==◌, not, ltb, ℕ, zero, suc, Bool, true, false, cond, ◌∷◌, length, Some, None, ap, refl, sym, subst, arith, true≢false}
use Rattle.std.proofs.lemmas.Bool.{and_from, and_parts, cases_eq, eqb-true, ltb-true, ne_eqb}
use Rattle.map_model.specs.declared.call.Refusal.TheVariants.{NoPages, TooTall}
use Rattle.page_model.specs.Check.{some_below}
use Rattle.page_model.specs.Nodes.{Format, Node, covers, holds, is_leaf}
use Rattle.page_model.specs.Redo.{has_key}
use Rattle.paged_desks.specs.core_calls.Room.{free_list, frees_from, full_from, full_run, is_all_full, is_full_at, room_takes}
use Rattle.paged_desks.specs.core_state.Events.{Event}
use Rattle.paged_desks.specs.core_state.Openings.{Opening}
use Rattle.paged_desks.specs.core_state.States.{State, nodes_of}
use Rattle.paged_desks.specs.engine_trait.Refusals.{is_full_for, room_refusal}
use Rattle.paged_desks.specs.session_state.tidy_rules.Growth as growth
use Rattle.paged_desks.specs.session_state.tidy_rules.Growth.{IsLeastFree}
use Rattle.paged_desks.specs.session_state.tidy_rules.Rooms.{IsNextRoom}
use Rattle.paged_calls.specs.Growths.{AreLike, HasWay}
use Rattle.paged_calls.proofs.LikeLemmas.{like_back, like_then}
use Rattle.paged_calls.proofs.NoneLemmas.{none_as, purgeable_as}

-- ## Some page

below_has : (n : ℕ) (f : ℕ → Bool) → some_below n f ≡ true → (i : ℕ) × (i < n) × (f i ≡ true)
below_has zero f e = absurd (true≢false (sym e))
below_has (suc n) f e = go (f n) refl e (below_has n f)
  where
    go : (b : Bool) → f n ≡ b → (b || some_below n f) ≡ true → (some_below n f ≡ true → (i : ℕ) × (i < n) × (f i ≡ true)) → (i : ℕ) × (i < suc n) × (f i ≡ true)
    go true q h ih = (n, omega arith, q)
    go false q h ih = let r = ih h in (r.0, (let lt = r.1 in omega arith), r.2)

pub has_below : (n i : ℕ) (f : ℕ → Bool) → i < n → f i ≡ true → some_below n f ≡ true
has_below zero i f lt e = absurd (omega arith)
has_below (suc n) i f lt e = go (cases_eq i n) (λ below. has_below n i f below e)
  where
    left : (a b : Bool) → a ≡ true → (a || b) ≡ true
    left true b e = refl
    left false b e = absurd (true≢false (sym e))

    right : (a b : Bool) → b ≡ true → (a || b) ≡ true
    right true b e = refl
    right false b e = e

    go : (i ≡ n) ⊎ (i ≡ n → ⊥) → (i < n → some_below n f ≡ true) → (f n || some_below n f) ≡ true
    go (inl q) ih = left (f n) (some_below n f) (subst (λ k. f k ≡ true) q e)
    go (inr q) ih = right (f n) (some_below n f) (ih (omega arith))

-- ## By the format of an opening

module _ (o g : Opening) (e : o.format ≡ g.format) (s : State) (k : ℕ) where
  at_as : (l : ℕ) → is_full_at o s k l ≡ is_full_at g s k l
  at_as l = ap (λ (f : Format). some_below f.pages (λ p. covers (s.page p).node k && (((s.page p).node.level == l) && (length (s.page p).node.pairs == f.room)))) e

  from_as : (n l : ℕ) → full_from o s k n l ≡ full_from g s k n l
  from_as zero l = refl
  from_as (suc n) l = let ih = from_as n (suc l) in (λ i. cond (at_as l i) (suc (ih i)) 0)

  run_as : full_run o s k ≡ full_run g s k
  run_as = ap (λ (f : Format). full_from o s k (suc f.levels) 0) e ∙ from_as (suc g.format.levels) 0

  all_as : is_all_full o s k ≡ is_all_full g s k
  all_as = ap (λ n. ltb (nodes_of s 0).level n) run_as

  pub takes_as : room_takes o s k ≡ room_takes g s k
  takes_as i = cond (all_as i) (suc (run_as i)) (run_as i)

  pub free_as : free_list o s ≡ free_list g s
  free_as = ap (λ (f : Format). frees_from (nodes_of s) f.pages 0) e

  pub full_as : is_full_for o s k ≡ is_full_for g s k
  full_as = ap (λ (f : Format). some_below f.pages (λ p. holds (s.page p).node k && ((length (s.page p).node.pairs == f.room) && not (has_key k (s.page p).node)))) e

  pub refusal_as : room_refusal o s k ≡ room_refusal g s k
  refusal_as i = cond (all_as i && ((nodes_of s 0).level == (e i).levels)) (Some TooTall) (cond (ltb (length (free_as i)) (takes_as i)) (Some NoPages) None)

  least_as : (p : ℕ) → IsLeastFree o s p → IsLeastFree g s p
  least_as p f = (f.0, sym free_as ∙ f.1)

  growth_as : (own : ℕ) (x : Event) → growth.IsNextRoom own o s k x → growth.IsNextRoom own g s k x
  growth_as own (Event.Split w l r q i) n = (n.0, sym full_as ∙ n.1, sym all_as ∙ n.2, n.3, n.4 ∙ run_as, least_as r n.5, n.6)
  growth_as own (Event.Lift w c) n = (n.0, sym full_as ∙ n.1, sym all_as ∙ n.2, least_as c n.3)
  growth_as own _ n = n

  pub next_as : o.row_of ≡ g.row_of → o.workers ≡ g.workers → (own : ℕ) (x : Event) → IsNextRoom own o s k x → IsNextRoom own g s k x
  next_as rows workers own (Event.Purge w p keys) n = (n.0, sym full_as ∙ n.1, n.2, n.3 ∙ purgeable_as o g e rows workers s (nodes_of s p).pairs, n.4)
  next_as rows workers own (Event.Split w l r q i) n = (none_as o g e rows workers s k n.0, growth_as own (Event.Split w l r q i) n.1)
  next_as rows workers own (Event.Lift w c) n = (none_as o g e rows workers s k n.0, growth_as own (Event.Lift w c) n.1)
  next_as rows workers own _ n = n

-- ## Of pages that are the same

pub full_on : (g : Opening) (s t : State) → ((p : ℕ) → t.page p ≡ s.page p) → (k : ℕ) → is_full_for g t k ≡ is_full_for g s k
full_on g s t e k i = some_below g.format.pages (λ p. holds (e p i).node k && ((length (e p i).node.pairs == g.format.room) && not (has_key k (e p i).node)))

none_below : (n : ℕ) → ltb n 0 ≡ false
none_below n = go (ltb n 0) refl
  where
    go : (b : Bool) → ltb n 0 ≡ b → b ≡ false
    go true e = absurd (let lt = ltb-true n 0 e in omega arith)
    go false e = refl

-- ## Of pages that are alike

module _ (g : Opening) (s t : State) (like : AreLike s t) (key : ℕ) where
  covers_same : (p : ℕ) → covers (nodes_of t p) key ≡ covers (nodes_of s p) key
  covers_same p = ap (λ (n : Node). covers n key) (like p).fields

  level_same : (p : ℕ) → (nodes_of t p).level ≡ (nodes_of s p).level
  level_same p = ap (λ (n : Node). n.level) (like p).fields

  live_same : (p : ℕ) → (nodes_of t p).live ≡ (nodes_of s p).live
  live_same p = ap (λ (n : Node). n.live) (like p).fields

  -- of this level above the leaves
  above : (l p : ℕ) → (covers (nodes_of t p) key && (((nodes_of t p).level == suc l) && (length (nodes_of t p).pairs == g.format.room))) ≡ (covers (nodes_of s p) key && (((nodes_of s p).level == suc l) && (length (nodes_of s p).pairs == g.format.room)))
  above l p = go (is_leaf (nodes_of s p)) refl
    where
      go : (b : Bool) → is_leaf (nodes_of s p) ≡ b
          → (covers (nodes_of t p) key && (((nodes_of t p).level == suc l) && (length (nodes_of t p).pairs == g.format.room))) ≡ (covers (nodes_of s p) key && (((nodes_of s p).level == suc l) && (length (nodes_of s p).pairs == g.format.room)))
      go false e = ap (λ (n : Node). covers n key && ((n.level == suc l) && (length n.pairs == g.format.room))) ((like p).other e)
      go true e =
          let z = eqb-true (nodes_of s p).level 0 (and_parts (nodes_of s p).live ((nodes_of s p).level == 0) e).1 in
          let q = level_same p in
          let there : ((nodes_of t p).level == suc l) ≡ false = ne_eqb (nodes_of t p).level (suc l) (λ r. absurd (omega arith)) in
          let here : ((nodes_of s p).level == suc l) ≡ false = ne_eqb (nodes_of s p).level (suc l) (λ r. absurd (omega arith)) in
          (λ i. covers_same p i && (there i && (length (nodes_of t p).pairs == g.format.room))) ∙ (λ i. covers (nodes_of s p) key && (sym here i && (length (nodes_of s p).pairs == g.format.room)))

  at_above : (l : ℕ) → is_full_at g t key (suc l) ≡ is_full_at g s key (suc l)
  at_above l i = some_below g.format.pages (λ p. above l p i)

  from_above : (n l : ℕ) → full_from g t key n (suc l) ≡ full_from g s key n (suc l)
  from_above zero l = refl
  from_above (suc n) l = let ih = from_above n (suc l) in (λ i. cond (at_above l i) (suc (ih i)) 0)

  frees_same : (n p : ℕ) → frees_from (nodes_of t) n p ≡ frees_from (nodes_of s) n p
  frees_same zero p = refl
  frees_same (suc n) p = let ih = frees_same n (suc p) in (λ i. cond (live_same p i) (ih i) (p ∷ ih i))

  pub free_like : free_list g t ≡ free_list g s
  free_like = frees_same g.format.pages 0

  -- where the leaf is full in both
  module _ (leaf : is_full_at g s key 0 ≡ true) (there : is_full_at g t key 0 ≡ true) where
    run_like : full_run g t key ≡ full_run g s key
    run_like = let ih = from_above g.format.levels 0 in (λ i. cond (there i) (suc (ih i)) 0) ∙ (λ i. cond (sym leaf i) (suc (full_from g s key g.format.levels 1)) 0)

    all_like : is_all_full g t key ≡ is_all_full g s key
    all_like i = ltb (level_same 0 i) (run_like i)

    takes_like : room_takes g t key ≡ room_takes g s key
    takes_like i = cond (all_like i) (suc (run_like i)) (run_like i)

    pub refusal_like : room_refusal g t key ≡ room_refusal g s key
    refusal_like i = cond (all_like i && (level_same 0 i == g.format.levels)) (Some TooTall) (cond (ltb (length (free_like i)) (takes_like i)) (Some NoPages) None)

  -- so the other takes no more pages
  pub takes_least : is_full_at g s key 0 ≡ true → room_takes g t key ≤ room_takes g s key
  takes_least leaf = go (is_full_at g t key 0) refl
    where
      go : (b : Bool) → is_full_at g t key 0 ≡ b → room_takes g t key ≤ room_takes g s key
      go true there = let e = takes_like leaf there in omega arith
      go false there =
          let run : full_run g t key ≡ 0 = (λ i. cond (there i) (suc (full_from g t key g.format.levels 1)) 0) in
          let all : is_all_full g t key ≡ false = (λ i. ltb (nodes_of t 0).level (run i)) ∙ none_below (nodes_of t 0).level in
          let takes : room_takes g t key ≡ 0 = (λ i. cond (all i) (suc (run i)) (run i)) in
          omega arith

-- a leaf that is full for the key is full
pub leaf_full : (g : Opening) (s : State) (key : ℕ) → is_full_for g s key ≡ true → is_full_at g s key 0 ≡ true
leaf_full g s key e =
    let f = below_has g.format.pages (λ p. holds (s.page p).node key && ((length (s.page p).node.pairs == g.format.room) && not (has_key key (s.page p).node))) e in
    let n = (s.page f.0).node in
    let a = and_parts (holds n key) ((length n.pairs == g.format.room) && not (has_key key n)) f.2 in
    let b = and_parts (is_leaf n) (covers n key) a.0 in
    let c = and_parts n.live (n.level == 0) b.0 in
    let d = and_parts (length n.pairs == g.format.room) (not (has_key key n)) a.1 in
    has_below g.format.pages f.0 (λ p. covers (s.page p).node key && (((s.page p).node.level == 0) && (length (s.page p).node.pairs == g.format.room))) f.1
    (and_from (covers n key) ((n.level == 0) && (length n.pairs == g.format.room)) b.1 (and_from (n.level == 0) (length n.pairs == g.format.room) c.1 d.0))

-- so there is as much room for it
pub room_like : (g : Opening) (s t : State) (key : ℕ) → AreLike s t → is_full_for g s key ≡ true → is_full_for g t key ≡ true → room_refusal g t key ≡ room_refusal g s key
room_like g s t key like here there = refusal_like g s t like key (leaf_full g s key here) (leaf_full g t key there)

-- where it is full once, and there can be room, there is a way
pub way_of : (g : Opening) (s : State) (key : ℕ) → is_full_for g s key ≡ true → room_refusal g s key ≡ None → HasWay g s key
way_of g s key full fits t like there = room_like g s t key like full there ∙ fits

-- and so there was
pub way_back : (g : Opening) (s t : State) (key : ℕ) → AreLike s t → HasWay g t key → HasWay g s key
way_back g s t key like way u alike full = way u (like_then t s u (like_back s t like) alike) full
