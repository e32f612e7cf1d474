-- The rules of a tidying: what changes neither the tree nor a value, one list of events behind another, and what is next by the sizes of an opening.
use Rattle.std.proofs.Common.{◌≡◌, ◌∙◌, ◌+◌, ◌-◌, ◌&&◌, ◌||◌, ◌==◌, ◌++◌, not, leb, ℕ, zero, suc, Bool, true, false, cond, List, [], ◌∷◌, length, Option, Some, None, ap, refl, sym, subst, true≢false}
use Rattle.map_model.specs.Lists.{any}
use Rattle.page_model.specs.Nodes.{Format}
use Rattle.page_model.specs.Redo.{is_some}
use Rattle.paged_desks.specs.core_calls.Steps.{is_structure}
use Rattle.paged_desks.specs.core_state.Events as happening
use Rattle.paged_desks.specs.core_state.Needs.{value_in}
use Rattle.paged_desks.specs.core_state.Openings.{Opening}
use Rattle.paged_desks.specs.core_state.States.{State, nodes_of}
use Rattle.paged_desks.specs.core_state.Steps.{run, step}
use Rattle.paged_desks.specs.session_state.tidy_rules.Tidying.{IsNextTidy, Sisters, Stage, Tidies, behind, first_of, is_thin, is_thin_leaf, join_of, join_under, next_drop, next_tidy, next_up, page_among, page_at, purge_or, purgeable_in, sisters, thin_most}
use Rattle.paged_calls.specs.Tidyings.{IsTidyingTo, stage_behind}
use Rattle.paged_calls.proofs.NoneLemmas.{purgeable_as}

first_false : (p q : Bool) → (p || q) ≡ false → p ≡ false
first_false true q e = e
first_false false q e = refl

second_false : (p q : Bool) → (p || q) ≡ false → q ≡ false
second_false true q e = absurd (true≢false e)
second_false false q e = e

-- ## What is no change

-- a value is changed
abbrev pub is_write : happening.Event → Bool
is_write (happening.Event.Change w p k v) = true
is_write _ = false

module _ (own : ℕ) (g : Opening) (key : ℕ) where
  next_calm : (s : State) (at : Stage) (e : happening.Event) → is_structure e ≡ false → is_write e ≡ false → IsNextTidy own g s key at e
  next_calm s at (happening.Event.Split w l r q i) h k = absurd (true≢false h)
  next_calm s at (happening.Event.Lift w c) h k = absurd (true≢false h)
  next_calm s at (happening.Event.Join w l r q) h k = absurd (true≢false h)
  next_calm s at (happening.Event.Drop w c) h k = absurd (true≢false h)
  next_calm s at (happening.Event.Purge w p keys) h k = absurd (true≢false h)
  next_calm s at (happening.Event.Change w p j v) h k = absurd (true≢false k)
  next_calm s at _ h k = tt

  behind_calm : (s : State) (at : Stage) (e : happening.Event) → is_structure e ≡ false → is_write e ≡ false → behind s at e ≡ at
  behind_calm s at (happening.Event.Join w l r q) h k = absurd (true≢false h)
  behind_calm s at (happening.Event.Drop w c) h k = absurd (true≢false h)
  behind_calm s at (happening.Event.Purge w p keys) h k = absurd (true≢false h)
  behind_calm s at (happening.Event.Change w p j v) h k = absurd (true≢false k)
  behind_calm s at _ h k = refl

  -- it has come no further
  pub tidies_calm : (s : State) (at : Stage) (es : List happening.Event) → any is_structure es ≡ false → any is_write es ≡ false → IsTidyingTo own key at at g s es
  tidies_calm s at [] h k = record { tidies = tt; now = refl }
  tidies_calm s at (e ∷ es) h k =
      let a = first_false (is_structure e) (any is_structure es) h in
      let b = first_false (is_write e) (any is_write es) k in
      let c = behind_calm s at e a b in
      let d = tidies_calm (step g s e) at es (second_false (is_structure e) (any is_structure es) h) (second_false (is_write e) (any is_write es) k) in
      record {
        tidies = (next_calm s at e a b, subst (λ (x : Stage). Tidies own g (step g s e) key x es) (sym c) d.tidies);
        now = ap (λ (x : Stage). stage_behind g (step g s e) x es) c ∙ d.now;
      }

  -- ## One behind the other

  stage_more : (s : State) (at : Stage) (es fs : List happening.Event) → stage_behind g s at (es ++ fs) ≡ stage_behind g (run g s es) (stage_behind g s at es) fs
  stage_more s at [] fs = refl
  stage_more s at (e ∷ es) fs = stage_more (step g s e) (behind s at e) es fs

  tidies_more : (s : State) (at : Stage) (es fs : List happening.Event) → Tidies own g s key at es → Tidies own g (run g s es) key (stage_behind g s at es) fs → Tidies own g s key at (es ++ fs)
  tidies_more s at [] fs a b = b
  tidies_more s at (e ∷ es) fs a b = (a.0, tidies_more (step g s e) (behind s at e) es fs a.1 b)

  pub tidies_join : (here mid there : Stage) (s : State) (es fs : List happening.Event) → IsTidyingTo own key here mid g s es → IsTidyingTo own key mid there g (run g s es) fs → IsTidyingTo own key here there g s (es ++ fs)
  tidies_join here mid there s es fs a b = record {
    tidies = tidies_more s here es fs a.tidies (subst (λ (x : Stage). Tidies own g (run g s es) key x fs) (sym a.now) b.tidies);
    now = stage_more s here es fs ∙ (ap (λ (x : Stage). stage_behind g (run g s es) x fs) a.now ∙ b.now);
  }

  -- one change of the tree, the next one
  pub tidies_one : (here there : Stage) (s : State) (e : happening.Event) → IsNextTidy own g s key here e → behind s here e ≡ there → IsTidyingTo own key here there g s (e ∷ [])
  tidies_one here there s e n b = record { tidies = (n, tt); now = b }

  -- ## Where the tree is as it was

  abbrev is_before : Stage → Bool
  is_before Stage.Before = true
  is_before _ = false

  behind_not : (s : State) (at : Stage) (e : happening.Event) → is_before at ≡ false → is_before (behind s at e) ≡ false
  behind_not s at (happening.Event.Purge w p keys) k = refl
  behind_not s at (happening.Event.Join w l r q) k = refl
  behind_not s at (happening.Event.Drop w c) k = refl
  behind_not s at (happening.Event.Change w p j v) k = refl
  behind_not s at _ k = k

  stage_not : (s : State) (at : Stage) (es : List happening.Event) → is_before at ≡ false → is_before (stage_behind g s at es) ≡ false
  stage_not s at [] k = k
  stage_not s at (e ∷ es) k = stage_not (step g s e) (behind s at e) es (behind_not s at e k)

  unchanged : (s : State) (es : List happening.Event) → Tidies own g s key Stage.Before es → is_before (stage_behind g s Stage.Before es) ≡ true → any is_structure es ≡ false
  unchanged s [] a b = refl
  unchanged s (happening.Event.Split w l r q i ∷ es) a b = absurd a.0
  unchanged s (happening.Event.Lift w c ∷ es) a b = absurd a.0
  unchanged s (happening.Event.Purge w p keys ∷ es) a b = absurd (true≢false (sym b ∙ stage_not (step g s (happening.Event.Purge w p keys)) (Stage.From 0) es refl))
  unchanged s (happening.Event.Join w l r q ∷ es) a b = absurd (true≢false (sym b ∙ stage_not (step g s (happening.Event.Join w l r q)) (Stage.From (nodes_of s q).level) es refl))
  unchanged s (happening.Event.Drop w c ∷ es) a b = absurd (true≢false (sym b ∙ stage_not (step g s (happening.Event.Drop w c)) Stage.Over es refl))
  unchanged s (happening.Event.Change w p j v ∷ es) a b = absurd (true≢false (sym b ∙ stage_not (step g s (happening.Event.Change w p j v)) Stage.Over es refl))
  unchanged s (e ∷ es) a b = unchanged (step g s e) es a.1 b

  -- a tidying that has not begun has changed nothing
  pub tidies_none : (s : State) (es : List happening.Event) (there : Stage) → IsTidyingTo own key Stage.Before there g s es → there ≡ Stage.Before → any is_structure es ≡ false
  tidies_none s es there t e = unchanged s es t.tidies (ap is_before (t.now ∙ e))

-- ## By the sizes of an opening

module _ (o g : Opening) (format : o.format ≡ g.format) (rows : o.row_of ≡ g.row_of) (workers : o.workers ≡ g.workers) (joined : o.joined ≡ g.joined) (s : State) (own key : ℕ) where
  page_as : (l : ℕ) → page_at o s key l ≡ page_at g s key l
  page_as l = ap (λ (f : Format). page_among s key l f.pages) format

  join_of_as : (q : ℕ) (b : Option Sisters) → join_of own o s q b ≡ join_of own g s q b
  join_of_as q None = refl
  join_of_as q (Some b) = (λ i. cond (leb (length (nodes_of s b.left).pairs + length (nodes_of s b.right).pairs) (joined i)) (Some (happening.Event.Join own b.left b.right q)) None)

  join_as : (p q : Option ℕ) → join_under own o s p q ≡ join_under own g s p q
  join_as (Some p) (Some q) = join_of_as q (sisters (nodes_of s q).pairs p)
  join_as (Some p) None = refl
  join_as None (Some q) = refl
  join_as None None = refl

  joins_as : (l : ℕ) → join_under own o s (page_at o s key l) (page_at o s key (suc l)) ≡ join_under own g s (page_at g s key l) (page_at g s key (suc l))
  joins_as l = join_as (page_at o s key l) (page_at o s key (suc l)) ∙ (λ i. join_under own g s (page_as l i) (page_as (suc l) i))

  up_as : (n l : ℕ) → next_up own o s key n l ≡ next_up own g s key n l
  up_as zero l = refl
  up_as (suc n) l = let ih = up_as n (suc l) in (λ i. cond (is_thin s (page_as l i)) (first_of (joins_as l i) (ih i)) (next_drop own s))

  thin_leaf_as : (leaf : Option ℕ) → is_thin_leaf o s key leaf ≡ is_thin_leaf g s key leaf
  thin_leaf_as None = refl
  thin_leaf_as (Some p) = (λ i. not (p == 0) && (is_some (value_in (format i) (nodes_of s p) key) && leb (length (nodes_of s p).pairs) (thin_most + length (purgeable_as o g format rows workers s (nodes_of s p).pairs i))))

  purgeable_in_as : (leaf : Option ℕ) → purgeable_in o s leaf ≡ purgeable_in g s leaf
  purgeable_in_as None = refl
  purgeable_in_as (Some p) = purgeable_as o g format rows workers s (nodes_of s p).pairs

  all_up_as : (l : ℕ) → next_up own o s key (o.format.levels - l) l ≡ next_up own g s key (g.format.levels - l) l
  all_up_as l = ap (λ (f : Format). next_up own o s key (f.levels - l) l) format ∙ up_as (g.format.levels - l) l

  leaf_up_as : next_up own o s key o.format.levels 0 ≡ next_up own g s key g.format.levels 0
  leaf_up_as = ap (λ (f : Format). next_up own o s key f.levels 0) format ∙ up_as g.format.levels 0

  thin_as : is_thin_leaf o s key (page_at o s key 0) ≡ is_thin_leaf g s key (page_at g s key 0)
  thin_as = thin_leaf_as (page_at o s key 0) ∙ ap (is_thin_leaf g s key) (page_as 0)

  goners_as : purgeable_in o s (page_at o s key 0) ≡ purgeable_in g s (page_at g s key 0)
  goners_as = purgeable_in_as (page_at o s key 0) ∙ ap (purgeable_in g s) (page_as 0)

  pub next_tidy_as : (at : Stage) → next_tidy own o s key at ≡ next_tidy own g s key at
  next_tidy_as Stage.Before = (λ i. cond (thin_as i) (purge_or own (page_as 0 i) (goners_as i) (leaf_up_as i)) None)
  next_tidy_as (Stage.From l) = all_up_as l
  next_tidy_as Stage.Over = refl
