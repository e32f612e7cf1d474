-- A tidying is fixed by the state, is short, and may happen.
use Rattle.std.proofs.Common.{◌≡◌, ◌<◌, ◌≤◌, ◌+◌, ◌-◌, ℕ, zero, suc, Bool, true, false, cond, ◌&&◌, ◌||◌, leb, ltb, ◌==◌, List, [], ◌∷◌, length, Option, Some, None, refl, sym, ap, ◌∙◌, subst, inl, inr, arith, true≢false}
use Rattle.std.proofs.lemmas.Bool.{eq-eqb, eqb-true, and_from, and_parts, lt-ltb, cond-true, cond-false}
use Rattle.map_model.proofs.ListLemmas.{has_any}
use Rattle.page_model.specs.Check.{is_nil, names_page}
use Rattle.page_model.specs.Nodes.{Node, covers}
use Rattle.page_model.specs.Pairs.{Has, Pair, Rising, Span, find, first_key, is_in, spans}
use Rattle.page_model.specs.Redo.{all_keys}
use Rattle.page_model.specs.Tree.{IsTree, Names}
use Rattle.page_model.proofs.Tree.{ok}
use Rattle.core_commit.specs.core_state.Events.{Event}
use Rattle.core_commit.specs.core_state.Needs.{are_hot, is_dead, is_settled, is_single, may, may_drop, may_join, may_purge, needs, pages_of}
use Rattle.core_commit.specs.core_state.Openings.{Opening}
use Rattle.core_commit.specs.core_state.States.{State, nodes_of}
use Rattle.core_commit.specs.core_state.Steps.{step}
use Rattle.tidy_rules.specs.Laws.{EveryTidy, IsFew, IsTidying, counted, is_drop, is_join, is_purge}
use Rattle.tidy_rules.specs.Purges.{purgeable}
use Rattle.tidy_rules.specs.Tidying.{Sisters, Stage, Tidies, behind, drop_of, first_of, is_thin, is_thin_leaf, join_of, join_under, next_drop, next_tidy, next_up, page_among, page_at, purge_or, purgeable_in, sisters}
use Rattle.tidy_rules.proofs.PurgeLemmas.{below_none, goes}

some_is : (a b : Event) → Some a ≡ Some b → a ≡ b
some_is a b e = cc

none_some : {A : Type 0} → (a : Event) → None ≡ Some a → A
none_some a e = absurd (cc)

-- ## One

module _ (own : ℕ) (g : Opening) (key : ℕ) where
  one : (s : State) (at : Stage) (es fs : List Event) → IsTidying own g s key at es → IsTidying own g s key at fs → es ≡ fs
  one s at [] [] a b = refl
  one s at [] (f ∷ fs) a b = none_some f (sym a ∙ b.0)
  one s at (e ∷ es) [] a b = none_some e (sym b ∙ a.0)
  one s at (e ∷ es) (f ∷ fs) a b =
      let q : e ≡ f = some_is e f (sym a.0 ∙ b.0) in
      let rest = one (step g s f) (behind s at f) es fs (subst (λ (k : Event). IsTidying own g (step g s k) key (behind s at k) es) q a.1) b.1 in
      λ i. q i ∷ rest i

-- ## Few

-- how many are still to come from each stage on
abbrev most_purges : Stage → ℕ
most_purges Stage.Before = 1
most_purges (Stage.From l) = 0
most_purges Stage.Over = 0

abbrev most_joins : Opening → Stage → ℕ
most_joins g Stage.Before = g.format.levels
most_joins g (Stage.From l) = g.format.levels - l
most_joins g Stage.Over = 0

abbrev most_drops : Stage → ℕ
most_drops Stage.Before = 1
most_drops (Stage.From l) = 1
most_drops Stage.Over = 0

-- what the way up gives: a join of a page from this level on, over so many levels, or the drop
abbrev IsUp : State → (l n : ℕ) → Option Event → Type 0
IsUp s l n None = Unit {0}
IsUp s l n (Some (Event.Join w a b q)) = (l < (nodes_of s q).level) × ((nodes_of s q).level ≤ l + n)
IsUp s l n (Some (Event.Drop w c)) = Unit {0}
IsUp s l n (Some _) = ⊥

drop_up : (own : ℕ) (s : State) (l n : ℕ) → IsUp s l n (next_drop own s)
drop_up own s l n = go (ltb 0 (nodes_of s 0).level) (nodes_of s 0).pairs
  where
    go : (b : Bool) (xs : List Pair) → IsUp s l n (cond b (drop_of own xs) None)
    go false xs = tt
    go true [] = tt
    go true (x ∷ []) = tt
    go true (x ∷ y ∷ ys) = tt

later_up : (s : State) (l n : ℕ) (e : Option Event) → IsUp s (suc l) n e → IsUp s l (suc n) e
later_up s l n None t = tt
later_up s l n (Some (Event.Join w a b q)) t = let x = t.0 in let y = t.1 in (omega arith, omega arith)
later_up s l n (Some (Event.Drop w c)) t = tt
later_up s l n (Some _) t = absurd t

first_up : (s : State) (l n : ℕ) (a b : Option Event) → IsUp s l n a → IsUp s l n b → IsUp s l n (first_of a b)
first_up s l n None b t u = u
first_up s l n (Some e) b t u = t

-- what is found of a level is a page of the way
page_found : (s : State) (key l n q : ℕ) → page_among s key l n ≡ Some q → (q < n) × (covers (nodes_of s q) key ≡ true) × ((nodes_of s q).level ≡ l)
page_found s key l zero q e = absurd (cc)
page_found s key l (suc n) q e = go (covers (nodes_of s n) key && ((nodes_of s n).level == l)) refl (page_found s key l n q) e
  where
    same : Some n ≡ Some q → n ≡ q
    same e = cc

    go : (b : Bool) → (covers (nodes_of s n) key && ((nodes_of s n).level == l)) ≡ b → (page_among s key l n ≡ Some q → (q < n) × (covers (nodes_of s q) key ≡ true) × ((nodes_of s q).level ≡ l))
        → cond b (Some n) (page_among s key l n) ≡ Some q → (q < suc n) × (covers (nodes_of s q) key ≡ true) × ((nodes_of s q).level ≡ l)
    go true t ih e =
        let is : n ≡ q = same e in
        let a = and_parts (covers (nodes_of s n) key) ((nodes_of s n).level == l) t in
        (omega arith, ap (λ (i : ℕ). covers (nodes_of s i) key) (sym is) ∙ a.0, ap (λ (i : ℕ). (nodes_of s i).level) (sym is) ∙ eqb-true (nodes_of s n).level l a.1)
    go false t ih e = let r = ih e in let lt = r.0 in (omega arith, r.1, r.2)

join_up : (own : ℕ) (g : Opening) (s : State) (l n : ℕ) (p q : Option ℕ) → ((k : ℕ) → q ≡ Some k → (nodes_of s k).level ≡ suc l) → IsUp s l (suc n) (join_under own g s p q)
join_up own g s l n None q h = tt
join_up own g s l n (Some p) None h = tt
join_up own g s l n (Some p) (Some q) h = go (sisters (nodes_of s q).pairs p)
  where
    with_room : (a b : ℕ) (c : Bool) → IsUp s l (suc n) (cond c (Some (Event.Join own a b q)) None)
    with_room a b true = let e = h q refl in (omega arith, omega arith)
    with_room a b false = tt

    go : (b : Option Sisters) → IsUp s l (suc n) (join_of own g s q b)
    go None = tt
    go (Some b) = with_room b.left b.right (leb (length (nodes_of s b.left).pairs + length (nodes_of s b.right).pairs) g.joined)

up_is : (own : ℕ) (g : Opening) (s : State) (key n l : ℕ) → IsUp s l n (next_up own g s key n l)
up_is own g s key zero l = drop_up own s l 0
up_is own g s key (suc n) l = go (is_thin s (page_at g s key l)) (later_up s l n (next_up own g s key n (suc l)) (up_is own g s key n (suc l)))
  where
    go : (b : Bool) → IsUp s l (suc n) (next_up own g s key n (suc l))
        → IsUp s l (suc n) (cond b (first_of (join_under own g s (page_at g s key l) (page_at g s key (suc l))) (next_up own g s key n (suc l))) (next_drop own s))
    go true ih =
        first_up s l (suc n) (join_under own g s (page_at g s key l) (page_at g s key (suc l))) (next_up own g s key n (suc l))
        (join_up own g s l n (page_at g s key l) (page_at g s key (suc l)) (λ k e. (page_found s key (suc l) g.format.pages k e).2)) ih
    go false ih = drop_up own s l (suc n)

-- each event leaves fewer to come
abbrev IsStep : Opening → State → Stage → Option Event → Type 0
IsStep g s at None = Unit {0}
IsStep g s at (Some (Event.Purge w p keys)) = at ≡ Stage.Before
IsStep g s at (Some (Event.Join w l r q)) = (suc (g.format.levels - (nodes_of s q).level) ≤ most_joins g at) × (most_drops at ≡ 1)
IsStep g s at (Some (Event.Drop w c)) = most_drops at ≡ 1
IsStep g s at (Some _) = ⊥

before_step : (g : Opening) (s : State) (e : Option Event) → IsUp s 0 g.format.levels e → IsStep g s Stage.Before e
before_step g s None t = tt
before_step g s (Some (Event.Join w a b q)) t = let x = t.0 in let y = t.1 in (omega arith, refl)
before_step g s (Some (Event.Drop w c)) t = refl
before_step g s (Some _) t = absurd t

from_step : (g : Opening) (s : State) (l : ℕ) (e : Option Event) → IsUp s l (g.format.levels - l) e → IsStep g s (Stage.From l) e
from_step g s l None t = tt
from_step g s l (Some (Event.Join w a b q)) t = let x = t.0 in let y = t.1 in (omega arith, refl)
from_step g s l (Some (Event.Drop w c)) t = refl
from_step g s l (Some _) t = absurd t

purge_step : (own : ℕ) (g : Opening) (s : State) (p : Option ℕ) (keys : List ℕ) (e : Option Event) → IsStep g s Stage.Before e → IsStep g s Stage.Before (purge_or own p keys e)
purge_step own g s None keys e t = t
purge_step own g s (Some p) [] e t = t
purge_step own g s (Some p) (k ∷ ks) e t = refl

step_is : (own : ℕ) (g : Opening) (s : State) (key : ℕ) (at : Stage) → IsStep g s at (next_tidy own g s key at)
step_is own g s key Stage.Before = go (is_thin_leaf g s key (page_at g s key 0))
  where
    go : (b : Bool) → IsStep g s Stage.Before (cond b (purge_or own (page_at g s key 0) (purgeable_in g s (page_at g s key 0)) (next_up own g s key g.format.levels 0)) None)
    go true = purge_step own g s (page_at g s key 0) (purgeable_in g s (page_at g s key 0)) (next_up own g s key g.format.levels 0) (before_step g s (next_up own g s key g.format.levels 0) (up_is own g s key g.format.levels 0))
    go false = tt
step_is own g s key (Stage.From l) = from_step g s l (next_up own g s key (g.format.levels - l) l) (up_is own g s key (g.format.levels - l) l)
step_is own g s key Stage.Over = tt

record FewFrom (g : Opening) (at : Stage) (es : List Event) : Type 0 where
  pub purges : counted is_purge es ≤ most_purges at
  pub joins : counted is_join es ≤ most_joins g at
  pub drops : counted is_drop es ≤ most_drops at

module _ (own : ℕ) (g : Opening) (key : ℕ) where
  few_from : (s : State) (at : Stage) (es : List Event) → Tidies own g s key at es → FewFrom g at es
  few_from s at [] t = record { purges = omega arith; joins = omega arith; drops = omega arith }
  few_from s at (Event.Purge w p keys ∷ es) t =
      let ih = few_from (step g s (Event.Purge w p keys)) (Stage.From 0) es t.1 in
      let is = subst (IsStep g s at) t.0 (step_is own g s key at) in
      let a = ih.purges in let b = ih.joins in let c = ih.drops in
      let x = ap most_purges is in let y = ap (most_joins g) is in let z = ap most_drops is in
      record { purges = omega arith; joins = omega arith; drops = omega arith }
  few_from s at (Event.Join w l r q ∷ es) t =
      let ih = few_from (step g s (Event.Join w l r q)) (Stage.From (nodes_of s q).level) es t.1 in
      let is = subst (IsStep g s at) t.0 (step_is own g s key at) in
      let a = ih.purges in let b = ih.joins in let c = ih.drops in
      let x = is.0 in let y = is.1 in
      record { purges = omega arith; joins = omega arith; drops = omega arith }
  few_from s at (Event.Drop w c ∷ es) t =
      let ih = few_from (step g s (Event.Drop w c)) Stage.Over es t.1 in
      let is = subst (IsStep g s at) t.0 (step_is own g s key at) in
      let a = ih.purges in let b = ih.joins in let d = ih.drops in
      record { purges = omega arith; joins = omega arith; drops = omega arith }
  few_from s at (Event.Split w l r q i ∷ es) t = absurd t.0
  few_from s at (Event.Lift w c ∷ es) t = absurd t.0
  few_from s at (Event.Change w p k v ∷ es) t =
      let ih = few_from (step g s (Event.Change w p k v)) Stage.Over es t.1 in
      let a = ih.purges in let b = ih.joins in let c = ih.drops in
      record { purges = omega arith; joins = omega arith; drops = omega arith }
  few_from s at (e ∷ es) t = let ih = few_from (step g s e) at es t.1 in record { purges = ih.purges; joins = ih.joins; drops = ih.drops }

  few : (s : State) (es : List Event) → Tidies own g s key Stage.Before es → IsFew g es
  few s es t = let f = few_from s Stage.Before es t in record { purges = f.purges; joins = f.joins; drops = f.drops }

-- ## Met

-- what two neighbours under a parent are called there
record IsBeside (xs : List Pair) (high : ℕ) (b : Sisters) : Type 0 where
  pub low : ℕ
  pub between : ℕ
  pub end : ℕ
  pub left : Has (record { child = b.left; low = low; high = between }) (spans xs high)
  pub right : Has (record { child = b.right; low = between; high = end }) (spans xs high)

sisters_beside : (xs : List Pair) (high p : ℕ) (b : Sisters) → sisters xs p ≡ Some b → IsBeside xs high b
sisters_beside [] high p b e = absurd (cc)
sisters_beside (x ∷ []) high p b e = absurd (cc)
sisters_beside (x ∷ y ∷ ys) high p b e = go ((x.word == p) || ((y.word == p) && is_nil ys)) (sisters_beside (y ∷ ys) high p b) e
  where
    same : (c : Sisters) → Some c ≡ Some b → c ≡ b
    same c q = cc

    go : (t : Bool) → (sisters (y ∷ ys) p ≡ Some b → IsBeside (y ∷ ys) high b) → cond t (Some (record { left = x.word; right = y.word })) (sisters (y ∷ ys) p) ≡ Some b → IsBeside (x ∷ y ∷ ys) high b
    go true ih q = subst (IsBeside (x ∷ y ∷ ys) high) (same (record { left = x.word; right = y.word }) q) (record { low = x.key; between = y.key; end = first_key ys high; left = inl refl; right = inr (inl refl) })
    go false ih q = let r = ih q in record { low = r.low; between = r.between; end = r.end; left = inr r.left; right = inr r.right }

-- a node names its child
names_child : (v : Node) (t : Span) → Names v t → names_page v t.child ≡ true
names_child v t n = λ i. (n.live i && lt-ltb 0 v.level n.inner i) && has_any (λ (s : Span). s.child == t.child) (spans v.pairs v.high) t n.has (eq-eqb t.child t.child refl) i

-- what passes at each key of a list passes at all
all_from : (f : ℕ → Bool) (keys : List ℕ) → ((k : ℕ) → is_in k keys ≡ true → f k ≡ true) → all_keys f keys ≡ true
all_from f [] h = refl
all_from f (k ∷ ks) h = and_from (f k) (all_keys f ks) (h k (cond-true (k == k) true (is_in k ks) (eq-eqb k k refl))) (all_from f ks (λ j e. h j (either j (k == j) e)))
  where
    either : (j : ℕ) (b : Bool) → is_in j ks ≡ true → cond b true (is_in j ks) ≡ true
    either j true e = refl
    either j false e = e

module _ (g : Opening) (s : State) where
  -- the keys that go are settled,
  all_settled : (xs : List Pair) → all_keys (λ k. is_settled g s k) (purgeable g s xs) ≡ true
  all_settled [] = refl
  all_settled (x ∷ xs) = go (goes g s x) refl (all_settled xs)
    where
      go : (b : Bool) → goes g s x ≡ b → all_keys (λ k. is_settled g s k) (purgeable g s xs) ≡ true → all_keys (λ k. is_settled g s k) (cond b (x.key ∷ purgeable g s xs) (purgeable g s xs)) ≡ true
      go true e ih = and_from (is_settled g s x.key) (all_keys (λ k. is_settled g s k) (purgeable g s xs)) (and_parts (x.word == g.format.dead) (is_settled g s x.key) e).1 ih
      go false e ih = ih

  -- and tombstones
  one_dead : (a : ℕ) (xs : List Pair) (b : ℕ) → Rising a xs b → (k : ℕ) → is_in k (purgeable g s xs) ≡ true → is_dead g.format (find k xs) ≡ true
  one_dead a [] b r k e = absurd (true≢false (sym e))
  one_dead a (x ∷ xs) b r k e = go (goes g s x) refl (x.key == k) refl (one_dead (suc x.key) xs b r.1 k) e
    where
      go : (t : Bool) → goes g s x ≡ t → (c : Bool) → (x.key == k) ≡ c → (is_in k (purgeable g s xs) ≡ true → is_dead g.format (find k xs) ≡ true)
          → is_in k (cond t (x.key ∷ purgeable g s xs) (purgeable g s xs)) ≡ true → is_dead g.format (cond (x.key == k) (Some x.word) (find k xs)) ≡ true
      go true h true c ih e = ap (is_dead g.format) (cond-true (x.key == k) (Some x.word) (find k xs) c) ∙ (and_parts (x.word == g.format.dead) (is_settled g s x.key) h).0
      go true h false c ih e = ap (is_dead g.format) (cond-false (x.key == k) (Some x.word) (find k xs) c) ∙ ih (sym (cond-false (x.key == k) true (is_in k (purgeable g s xs)) c) ∙ e)
      go false h true c ih e =
          let is : x.key ≡ k = eqb-true x.key k c in
          absurd (true≢false (sym e ∙ below_none g s (suc x.key) xs b k r.1 (omega arith)))
      go false h false c ih e = ap (is_dead g.format) (cond-false (x.key == k) (Some x.word) (find k xs) c) ∙ ih e

  -- what an event needs besides hot pages is so
  abbrev IsGood : Option Event → Type 0
  IsGood None = Unit {0}
  IsGood (Some e) = needs g s e ≡ true

  first_good : (a b : Option Event) → IsGood a → IsGood b → IsGood (first_of a b)
  first_good None b t u = u
  first_good (Some e) b t u = t

  module _ (tree : IsTree g.format (nodes_of s)) (own key : ℕ) (is_open : (s.worker own).is_open ≡ true) where
    drop_good : IsGood (next_drop own s)
    drop_good = go (ltb 0 (nodes_of s 0).level) refl (nodes_of s 0).pairs refl
      where
        go : (b : Bool) → ltb 0 (nodes_of s 0).level ≡ b → (xs : List Pair) → (nodes_of s 0).pairs ≡ xs → IsGood (cond b (drop_of own xs) None)
        go false e xs q = tt
        go true e [] q = tt
        go true e (x ∷ []) q =
            and_from (s.worker own).is_open (may_drop (nodes_of s) x.word) is_open
            (and_from (ltb 0 (nodes_of s 0).level) (is_single (nodes_of s 0).pairs x.word) e (ap (λ ys. is_single ys x.word) q ∙ and_from (x.word == x.word) true (eq-eqb x.word x.word refl) refl))
        go true e (x ∷ y ∷ ys) q = tt

    module _ (p q : ℕ) (found : (q < g.format.pages) × (covers (nodes_of s q) key ≡ true) × (0 < (nodes_of s q).level)) (b : Sisters) (e : sisters (nodes_of s q).pairs p ≡ Some b) where
      abbrev v : Node
      v = nodes_of s q

      live : v.live ≡ true
      live = (and_parts v.live (leb v.low key && ltb key v.high) found.1).0

      k : IsBeside v.pairs v.high b
      k = sisters_beside v.pairs v.high p b e

      left : Names v (record { child = b.left; low = k.low; high = k.between })
      left = record { live = live; inner = found.2; has = k.left }

      right : Names v (record { child = b.right; low = k.between; high = k.end })
      right = record { live = live; inner = found.2; has = k.right }

      meet : (nodes_of s b.left).high ≡ (nodes_of s b.right).low
      meet = (tree.down q found.0 (record { child = b.left; low = k.low; high = k.between }) left).high ∙ sym (tree.down q found.0 (record { child = b.right; low = k.between; high = k.end }) right).low

      joins : leb (length (nodes_of s b.left).pairs + length (nodes_of s b.right).pairs) g.joined ≡ true → needs g s (Event.Join own b.left b.right q) ≡ true
      joins few =
          and_from (s.worker own).is_open (may_join g (nodes_of s) b.left b.right q) is_open
          (and_from (ltb q g.format.pages) (names_page v b.left && (names_page v b.right && (((nodes_of s b.left).high == (nodes_of s b.right).low) && leb (length (nodes_of s b.left).pairs + length (nodes_of s b.right).pairs) g.joined))) (lt-ltb q g.format.pages found.0)
          (and_from (names_page v b.left) (names_page v b.right && (((nodes_of s b.left).high == (nodes_of s b.right).low) && leb (length (nodes_of s b.left).pairs + length (nodes_of s b.right).pairs) g.joined))
          (names_child v (record { child = b.left; low = k.low; high = k.between }) left)
          (and_from (names_page v b.right) (((nodes_of s b.left).high == (nodes_of s b.right).low) && leb (length (nodes_of s b.left).pairs + length (nodes_of s b.right).pairs) g.joined) (names_child v (record { child = b.right; low = k.between; high = k.end }) right)
          (and_from ((nodes_of s b.left).high == (nodes_of s b.right).low) (leb (length (nodes_of s b.left).pairs + length (nodes_of s b.right).pairs) g.joined) (eq-eqb (nodes_of s b.left).high (nodes_of s b.right).low meet) few))))

      with_room : (c : Bool) → leb (length (nodes_of s b.left).pairs + length (nodes_of s b.right).pairs) g.joined ≡ c → IsGood (cond c (Some (Event.Join own b.left b.right q)) None)
      with_room true few = joins few
      with_room false few = tt

    join_good : (p q : Option ℕ) → ((k : ℕ) → q ≡ Some k → (k < g.format.pages) × (covers (nodes_of s k) key ≡ true) × (0 < (nodes_of s k).level)) → IsGood (join_under own g s p q)
    join_good None q h = tt
    join_good (Some p) None h = tt
    join_good (Some p) (Some q) h = go (sisters (nodes_of s q).pairs p) refl
      where
        go : (b : Option Sisters) → sisters (nodes_of s q).pairs p ≡ b → IsGood (join_of own g s q b)
        go None e = tt
        go (Some b) e = with_room p q (h q refl) b e (leb (length (nodes_of s b.left).pairs + length (nodes_of s b.right).pairs) g.joined) refl

    up_good : (n l : ℕ) → IsGood (next_up own g s key n l)
    up_good zero l = drop_good
    up_good (suc n) l = go (is_thin s (page_at g s key l)) (up_good n (suc l))
      where
        parent : (k : ℕ) → page_at g s key (suc l) ≡ Some k → (k < g.format.pages) × (covers (nodes_of s k) key ≡ true) × (0 < (nodes_of s k).level)
        parent k e = let f = page_found s key (suc l) g.format.pages k e in let up = f.2 in (f.0, f.1, omega arith)

        go : (b : Bool) → IsGood (next_up own g s key n (suc l)) → IsGood (cond b (first_of (join_under own g s (page_at g s key l) (page_at g s key (suc l))) (next_up own g s key n (suc l))) (next_drop own s))
        go true ih = first_good (join_under own g s (page_at g s key l) (page_at g s key (suc l))) (next_up own g s key n (suc l)) (join_good (page_at g s key l) (page_at g s key (suc l)) parent) ih
        go false ih = drop_good

    purge_good : (leaf : Option ℕ) → ((p : ℕ) → leaf ≡ Some p → (p < g.format.pages) × (covers (nodes_of s p) key ≡ true) × ((nodes_of s p).level ≡ 0)) → (keys : List ℕ) → purgeable_in g s leaf ≡ keys → (e : Option Event) → IsGood e → IsGood (purge_or own leaf keys e)
    purge_good None h keys q e t = t
    purge_good (Some p) h [] q e t = t
    purge_good (Some p) h (k ∷ ks) q e t =
        let v = nodes_of s p in
        let f = h p refl in
        let live : v.live ≡ true = (and_parts v.live (leb v.low key && ltb key v.high) f.1).0 in
        let dead : all_keys (λ j. is_dead g.format (find j v.pairs)) (purgeable g s v.pairs) ≡ true = all_from (λ j. is_dead g.format (find j v.pairs)) (purgeable g s v.pairs) (one_dead v.low v.pairs v.high (ok g.format (nodes_of s) tree p f.0 live).rising) in
        subst (λ (keys : List ℕ). needs g s (Event.Purge own p keys) ≡ true) q
        (and_from (s.worker own).is_open (may_purge g (nodes_of s) p (purgeable g s v.pairs) && all_keys (λ j. is_settled g s j) (purgeable g s v.pairs)) is_open
        (and_from (may_purge g (nodes_of s) p (purgeable g s v.pairs)) (all_keys (λ j. is_settled g s j) (purgeable g s v.pairs))
        (and_from (ltb p g.format.pages) (v.live && ((v.level == 0) && all_keys (λ j. is_dead g.format (find j v.pairs)) (purgeable g s v.pairs))) (lt-ltb p g.format.pages f.0)
        (and_from v.live ((v.level == 0) && all_keys (λ j. is_dead g.format (find j v.pairs)) (purgeable g s v.pairs)) live
        (and_from (v.level == 0) (all_keys (λ j. is_dead g.format (find j v.pairs)) (purgeable g s v.pairs)) (eq-eqb v.level 0 f.2) dead)))
        (all_settled v.pairs)))

    good : (at : Stage) → IsGood (next_tidy own g s key at)
    good Stage.Before = go (is_thin_leaf g s key (page_at g s key 0))
      where
        go : (b : Bool) → IsGood (cond b (purge_or own (page_at g s key 0) (purgeable_in g s (page_at g s key 0)) (next_up own g s key g.format.levels 0)) None)
        go true = purge_good (page_at g s key 0) (λ p e. page_found s key 0 g.format.pages p e) (purgeable_in g s (page_at g s key 0)) refl (next_up own g s key g.format.levels 0) (up_good g.format.levels 0)
        go false = tt
    good (Stage.From l) = up_good (g.format.levels - l) l
    good Stage.Over = tt

    met : (at : Stage) (e : Event) → next_tidy own g s key at ≡ Some e → are_hot s (pages_of e) ≡ true → may g s e ≡ true
    met at e q hot = and_from (are_hot s (pages_of e)) (needs g s e) hot (subst IsGood q (good at))

pub every_tidy : EveryTidy
every_tidy own g s key = record {
  one = one own g key s;
  few = few own g key s;
  met = λ t o. met g s t own key o;
}
