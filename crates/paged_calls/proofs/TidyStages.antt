-- How many changes of the tree are still to come: fewer behind each.
use Rattle.std.proofs.Common.{◌≡◌, ◌∙◌, ◌≤◌, ◌<◌, ◌+◌, ◌-◌, leb, ltb, ℕ, zero, suc, Bool, true, false, cond, List, [], ◌∷◌, length, Option, Some, None, ap, refl, sym, subst, arith}
use Rattle.page_model.specs.Pairs.{Pair}
use Rattle.paged_desks.specs.core_state.Events as happening
use Rattle.paged_desks.specs.core_state.Openings.{Opening}
use Rattle.paged_desks.specs.core_state.States.{State, nodes_of}
use Rattle.paged_desks.specs.session_state.tidy_rules.Tidying.{Sisters, Stage, behind, drop_of, first_of, is_thin, is_thin_leaf, join_of, join_under, next_drop, next_tidy, next_up, page_at, purge_or, purgeable_in, sisters}
use Rattle.row_walks.specs.Stages.{left_of, level_of, stage_of}
use Rattle.row_walks.specs.declared.steps.At.{At}
use Rattle.row_walks.specs.declared.steps.At.TheVariants as reached
use Rattle.paged_calls.proofs.TidyPages.{page_is}

some_is : {A : Type 0} (a b : A) → Some a ≡ Some b → a ≡ b
some_is a b e = cc

-- ## The way up

-- a join between these levels, or a drop
abbrev IsUp : (s : State) (low high : ℕ) → happening.Event → Type 0
IsUp s low high (happening.Event.Join w l r q) = (suc low ≤ (nodes_of s q).level) × ((nodes_of s q).level ≤ high)
IsUp s low high (happening.Event.Drop w c) = Unit {0}
IsUp s low high _ = ⊥

up_more : (s : State) (low high : ℕ) (e : happening.Event) → IsUp s (suc low) high e → IsUp s low high e
up_more s low high (happening.Event.Join w l r q) k = ((let a = k.0 in omega arith), k.1)
up_more s low high (happening.Event.Drop w c) k = tt
up_more s low high _ k = absurd k

module _ (own : ℕ) (g : Opening) (s : State) (key : ℕ) where
  drop_is : (xs : List Pair) (low high : ℕ) (e : happening.Event) → drop_of own xs ≡ Some e → IsUp s low high e
  drop_is [] low high e k = absurd (cc)
  drop_is (x ∷ []) low high e k = subst (IsUp s low high) (some_is (happening.Event.Drop own x.word) e k) tt
  drop_is (x ∷ y ∷ xs) low high e k = absurd (cc)

  next_drop_is : (low high : ℕ) (e : happening.Event) → next_drop own s ≡ Some e → IsUp s low high e
  next_drop_is low high e k = go (ltb 0 (nodes_of s 0).level) k
    where
      go : (b : Bool) → cond b (drop_of own (nodes_of s 0).pairs) None ≡ Some e → IsUp s low high e
      go true f = drop_is (nodes_of s 0).pairs low high e f
      go false f = absurd (cc)

  join_is : (l high : ℕ) → suc l ≤ high → (p o : Option ℕ) → page_at g s key (suc l) ≡ o → (e : happening.Event) → join_under own g s p o ≡ Some e → IsUp s l high e
  join_is l high le None None at e k = absurd (cc)
  join_is l high le None (Some q) at e k = absurd (cc)
  join_is l high le (Some p) None at e k = absurd (cc)
  join_is l high le (Some p) (Some q) at e k = go (sisters (nodes_of s q).pairs p) k
    where
      level_is : (nodes_of s q).level ≡ suc l
      level_is = (page_is s key (suc l) g.format.pages q at).level

      go : (o : Option Sisters) → join_of own g s q o ≡ Some e → IsUp s l high e
      go None f = absurd (cc)
      go (Some b) f = two (leb (length (nodes_of s b.left).pairs + length (nodes_of s b.right).pairs) g.joined) f
        where
          two : (c : Bool) → cond c (Some (happening.Event.Join own b.left b.right q)) None ≡ Some e → IsUp s l high e
          two true h = subst (IsUp s l high) (some_is (happening.Event.Join own b.left b.right q) e h) ((let a = level_is in omega arith), (let a = level_is in let b = le in omega arith))
          two false h = absurd (cc)

  up_is : (n l high : ℕ) → l + n ≤ high → (e : happening.Event) → next_up own g s key n l ≡ Some e → IsUp s l high e
  up_is zero l high le e k = next_drop_is l high e k
  up_is (suc n) l high le e k = go (is_thin s (page_at g s key l)) (up_is n (suc l) high (let a = le in omega arith) e) k
    where
      both : (o : Option happening.Event) → join_under own g s (page_at g s key l) (page_at g s key (suc l)) ≡ o → (next_up own g s key n (suc l) ≡ Some e → IsUp s (suc l) high e) → first_of o (next_up own g s key n (suc l)) ≡ Some e → IsUp s l high e
      both (Some x) at ih f = join_is l high (let a = le in omega arith) (page_at g s key l) (page_at g s key (suc l)) refl e (at ∙ f)
      both None at ih f = up_more s l high e (ih f)

      go : (b : Bool) → (next_up own g s key n (suc l) ≡ Some e → IsUp s (suc l) high e) → cond b (first_of (join_under own g s (page_at g s key l) (page_at g s key (suc l))) (next_up own g s key n (suc l))) (next_drop own s) ≡ Some e → IsUp s l high e
      go true ih f = both (join_under own g s (page_at g s key l) (page_at g s key (suc l))) refl ih f
      go false ih f = next_drop_is l high e f

  -- the first one purges, or goes up from the leaf
  abbrev IsFirst : happening.Event → Type 0
  IsFirst (happening.Event.Purge w p keys) = Unit {0}
  IsFirst e = IsUp s 0 g.format.levels e

  first_up : (e : happening.Event) → IsUp s 0 g.format.levels e → IsFirst e
  first_up (happening.Event.Purge w p keys) k = tt
  first_up _ k = k

  purge_is : (leaf : Option ℕ) (keys : List ℕ) (o : Option happening.Event) (e : happening.Event) → (o ≡ Some e → IsFirst e) → purge_or own leaf keys o ≡ Some e → IsFirst e
  purge_is (Some p) (k ∷ ks) o e f h = subst IsFirst (some_is (happening.Event.Purge own p (k ∷ ks)) e h) tt
  purge_is (Some p) [] o e f h = f h
  purge_is None [] o e f h = f h
  purge_is None (k ∷ ks) o e f h = f h

  first_is : (e : happening.Event) → next_tidy own g s key Stage.Before ≡ Some e → IsFirst e
  first_is e k = go (is_thin_leaf g s key (page_at g s key 0)) k
    where
      go : (b : Bool) → cond b (purge_or own (page_at g s key 0) (purgeable_in g s (page_at g s key 0)) (next_up own g s key g.format.levels 0)) None ≡ Some e → IsFirst e
      go true f = purge_is (page_at g s key 0) (purgeable_in g s (page_at g s key 0)) (next_up own g s key g.format.levels 0) e (λ h. first_up e (up_is g.format.levels 0 g.format.levels (omega arith) e h)) f
      go false f = absurd (cc)

-- ## Stages

-- which one it is
from_is : (b : At) (k : ℕ) → stage_of b ≡ Stage.From k → b ≡ reached.From k
from_is reached.Before k e = absurd (cc)
from_is (reached.From l) k e = ap reached.From (same e)
  where
    same : Stage.From l ≡ Stage.From k → l ≡ k
    same f = cc
from_is reached.Over k e = absurd (cc)

over_is : (b : At) → stage_of b ≡ Stage.Over → b ≡ reached.Over
over_is reached.Before e = absurd (cc)
over_is (reached.From l) e = absurd (cc)
over_is reached.Over e = refl

pub record IsFewer (levels : ℕ) (a b : At) : Type 0 where
  pub fewer : left_of levels b < left_of levels a
  pub within : level_of b ≤ levels

module _ (own : ℕ) (g : Opening) (s : State) (key : ℕ) (b : At) where
  abbrev levels : ℕ
  levels = g.format.levels

  from_fewer : (a : At) (k : ℕ) → stage_of b ≡ Stage.From k → k ≤ levels → suc (levels - k) < left_of levels a → IsFewer levels a b
  from_fewer a k e le lt = subst (IsFewer levels a) (sym (from_is b k e)) (record { fewer = lt; within = le })

  over_fewer : (a : At) → stage_of b ≡ Stage.Over → 0 < left_of levels a → IsFewer levels a b
  over_fewer a e lt = subst (IsFewer levels a) (sym (over_is b e)) (record { fewer = lt; within = omega arith })

  pub fewer_left : (a : At) (e : happening.Event) → level_of a ≤ levels → next_tidy own g s key (stage_of a) ≡ Some e → stage_of b ≡ behind s (stage_of a) e → IsFewer levels a b
  fewer_left reached.Before (happening.Event.Purge w p keys) le n now = from_fewer reached.Before 0 now (omega arith) (omega arith)
  fewer_left reached.Before (happening.Event.Join w l r q) le n now = let k = first_is own g s key (happening.Event.Join w l r q) n in from_fewer reached.Before (nodes_of s q).level now k.1 (let x = k.0 in let y = k.1 in omega arith)
  fewer_left reached.Before (happening.Event.Drop w c) le n now = over_fewer reached.Before now (omega arith)
  fewer_left reached.Before e le n now = absurd (first_is own g s key e n)
  fewer_left (reached.From l) (happening.Event.Join w x r q) le n now = let k = up_is own g s key (levels - l) l levels (let a = le in omega arith) (happening.Event.Join w x r q) n in from_fewer (reached.From l) (nodes_of s q).level now k.1 (let c = k.0 in let d = k.1 in omega arith)
  fewer_left (reached.From l) (happening.Event.Drop w c) le n now = over_fewer (reached.From l) now (omega arith)
  fewer_left (reached.From l) e le n now = absurd (up_is own g s key (levels - l) l levels (let a = le in omega arith) e n)
  fewer_left reached.Over e le n now = absurd (cc)
