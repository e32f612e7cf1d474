-- A key that is tidied for keeps its value.
use Rattle.std.proofs.Common.{◌≡◌, ◌∙◌, inl, inr, ◌<◌, ◌+◌, ◌^◌, ◌-◌, ◌&&◌, ◌==◌, not, leb, ltb, ℕ, Bool, true, false, cond, length, Option, Some, None, ap, refl, sym, subst, arith, true≢false}
use Rattle.std.proofs.lemmas.Bool.{and_from, and_parts, eq-eqb, ltb-true}
use Rattle.page_model.proofs.Laws.{every_tree}
use Rattle.page_model.specs.Nodes.{Format, Node, holds}
use Rattle.page_model.specs.Redo.{is_some}
use Rattle.page_model.specs.Tree.{IsTree, lookup, value_of, word_or}
use Rattle.paged_desks.proofs.core_commit.Nodes.{lookup_at}
use Rattle.paged_desks.specs.core_state.Events as happening
use Rattle.paged_desks.specs.core_state.Needs.{may, value_in}
use Rattle.paged_desks.specs.core_state.Openings.{Opening}
use Rattle.paged_desks.specs.core_state.States.{State, nodes_of}
use Rattle.paged_desks.specs.core_state.Steps.{happens}
use Rattle.lean_disk.specs.Story.{Story}
use Rattle.row_walks.specs.Steps.{IsShrinkBy, IsTidied}
use Rattle.row_walks.specs.declared.steps.At.{At}
use Rattle.paged_desks.specs.row_words.declared.event.Event.{Event}
use Rattle.paged_desks.specs.row_words.declared.event.Event.TheVariants as told
use Rattle.paged_desks.specs.row_words.declared.given.Given.{Given}
use Rattle.paged_desks.specs.row_words.Moments.{event_of}
use Rattle.paged_desks.specs.row_words.Openings.{opening}
use Rattle.paged_desks.specs.rows_trait.Views.{after_all, state}
use Rattle.paged_desks.specs.session_state.tidy_rules.Tidying.{Stage, is_thin_leaf, next_tidy, next_up, page_at, purge_or, purgeable_in, thin_most}
use Rattle.paged_desks.specs.session_state.tidy_rules.Purges.{purgeable}
use Rattle.paged_desks.specs.Machines.{IsReady, view_of}
use Rattle.paged_desks.specs.declared.machine.PagedMachine.{PagedMachine}
use Rattle.paged_calls.specs.Tidyings.{HasValue, IsLive}
use Rattle.paged_calls.proofs.TidyPages.{page_is}
use Rattle.paged_calls.proofs.TidyWords.{word_drop, word_join, word_purge}

-- ## Words

not_below : (n : ℕ) → ltb n n ≡ false
not_below n = go (ltb n n) refl
  where
    go : (b : Bool) → ltb n n ≡ b → b ≡ false
    go false e = refl
    go true e = let lt = ltb-true n n e in absurd (omega arith)

-- a word is a value where it is below a tombstone's
value_word : (f : Format) (o : Option ℕ) → is_some (value_of f o) ≡ ltb (word_or f.dead o) f.dead
value_word f None = sym (not_below f.dead)
value_word f (Some w) = go (ltb w f.dead)
  where
    go : (b : Bool) → is_some (cond b (Some w) None) ≡ b
    go true = refl
    go false = refl

-- in a leaf of the key
leaf_word : (f : Format) (node : ℕ → Node) (key p : ℕ) → IsTree f node → p < f.pages → holds (node p) key ≡ true → is_some (value_in f (node p) key) ≡ ltb (lookup f node key) f.dead
leaf_word f node key p tree lt h = value_word f _ ∙ ap (λ (w : ℕ). ltb w f.dead) (sym (lookup_at f node key p tree lt h))

-- ## By an event

word_shrink : (own : ℕ) (g : Opening) (s : State) → IsTree g.format (nodes_of s) → (key : ℕ) (e : Event) → IsShrinkBy own e → may g s (event_of e) ≡ true → lookup g.format (nodes_of (happens g s (event_of e))) key ≡ lookup g.format (nodes_of s) key
word_shrink own g s tree key (told.Purge w p keys) k met = word_purge g s tree key w p keys met
word_shrink own g s tree key (told.Join w l r q) k met = word_join g s tree key w l r q met
word_shrink own g s tree key (told.Drop w c) k met = word_drop g s tree key w c met
word_shrink own g s tree key _ k met = absurd k

-- ## Before it

-- where something is tidied the key has a value
module _ (own : ℕ) (g : Opening) (s : State) (key : ℕ) (tree : IsTree g.format (nodes_of s)) where
  thin_word : (o : Option ℕ) → page_at g s key 0 ≡ o → is_thin_leaf g s key o ≡ true → ltb (lookup g.format (nodes_of s) key) g.format.dead ≡ true
  thin_word None at e = absurd (true≢false (sym e))
  thin_word (Some p) at e =
      let n = nodes_of s p in
      let few = leb (length n.pairs) (thin_most + length (purgeable g s n.pairs)) in
      let a = and_parts (not (p == 0)) (is_some (value_in g.format n key) && few) e in
      let b = and_parts (is_some (value_in g.format n key)) few a.1 in
      let k = page_is s key 0 g.format.pages p at in
      let live = (and_parts n.live (leb n.low key && ltb key n.high) k.covers_key).0 in
      let leaf : holds n key ≡ true = and_from (n.live && (n.level == 0)) (n.live && (leb n.low key && ltb key n.high)) (and_from n.live (n.level == 0) live (eq-eqb n.level 0 k.level)) k.covers_key in
      sym (leaf_word g.format (nodes_of s) key p tree k.below leaf) ∙ b.0

  begun_word : (e : happening.Event) → next_tidy own g s key Stage.Before ≡ Some e → ltb (lookup g.format (nodes_of s) key) g.format.dead ≡ true
  begun_word e n = go (is_thin_leaf g s key (page_at g s key 0)) refl n
    where
      go : (b : Bool) → is_thin_leaf g s key (page_at g s key 0) ≡ b → cond b (purge_or own (page_at g s key 0) (purgeable_in g s (page_at g s key 0)) (next_up own g s key g.format.levels 0)) None ≡ Some e → ltb (lookup g.format (nodes_of s) key) g.format.dead ≡ true
      go true at f = thin_word (page_at g s key 0) refl at
      go false at f = absurd (cc)

-- ## A machine

module _ {D : Type 0} (story : D → Story) (key : ℕ) (low : key < 2 ^ 64 - 1) (here there : At) (m n : PagedMachine D) (ready : IsReady story m)
    (c : IsTidied key here there (view_of m) (view_of n) m.machine.work.session n.machine.work.session m.machine.work.log n.machine.work.log (story m.machine.work.disk) (story n.machine.work.disk)) where
  abbrev g : Opening
  g = opening (view_of m).given

  abbrev s : State
  s = (state (view_of m)).core

  tree : IsTree g.format (nodes_of s)
  tree = (ready.keeps.sound (view_of m).seen).tree

  tree_now : IsTree g.format (nodes_of (state (view_of n)).core)
  tree_now = subst (λ (q : Given). IsTree g.format (nodes_of (after_all q (view_of n).seen).core)) (sym c.given) (ready.keeps.sound (view_of n).seen).tree

  word_was : IsLive key here m → ltb (lookup g.format (nodes_of s) key) g.format.dead ≡ true
  word_was (inl b) = begun_word m.machine.work.session.own g s key tree (event_of c.event) (ap (next_tidy m.machine.work.session.own g s key) (sym b) ∙ c.next)
  word_was (inr v) = let a = (every_tree g.format (nodes_of s) tree).leaf key low in sym (leaf_word g.format (nodes_of s) key a.0 tree a.1 a.2) ∙ v a.0 a.1 a.2

  word_now : IsLive key here m → ltb (lookup g.format (nodes_of (state (view_of n)).core) key) g.format.dead ≡ true
  word_now live = ap (λ (w : ℕ). ltb w g.format.dead) (ap (λ (t : State). lookup g.format (nodes_of t) key) c.happened ∙ word_shrink m.machine.work.session.own g s tree key c.event c.by c.met) ∙ word_was live

  pub value_kept : IsLive key here m → HasValue key n
  value_kept live = subst (λ (q : Given). (p : ℕ) → p < (opening q).format.pages → holds (nodes_of (state (view_of n)).core p) key ≡ true → is_some (value_in (opening q).format (nodes_of (state (view_of n)).core p) key) ≡ true) (sym c.given)
      (λ p lt h. leaf_word g.format (nodes_of (state (view_of n)).core) key p tree_now lt h ∙ word_now live)

  pub live_tidied : IsLive key here m → IsLive key there n
  live_tidied live = inr (value_kept live)
