-- The two pages that a drop leaves are those that the nodes became.
use Rattle.std.proofs.Common.{◌≡◌, ◌≢◌, ◌==◌, ◌&&◌, ltb, ◌<◌, ◌≤◌, inl, ℕ, suc, true, false, List, [], ◌∷◌, length, refl, sym, ap, subst, ◌∙◌, eq-eqb, ne_eqb, arith, true≢false}
use Rattle.std.proofs.lemmas.Bool.{eqb-true, ltb-true}
use Rattle.page_model.specs.Pairs.{Pair, Span, first_key}
use Rattle.page_model.specs.Nodes.{Node, NodeOk, free}
use Rattle.page_model.specs.Tree.{IsChild, Names}
use Rattle.page_model.specs.Check.{is_nil}
use Rattle.page_model.specs.Page as stored
use Rattle.disk_image.specs.image_model.Entries.{Contents}
use Rattle.btree_descent.specs.core_state.Openings.{Opening}
use Rattle.btree_descent.specs.core_state.States.{State, nodes_of}
use Rattle.btree_descent.specs.core_state.Events as happening
use Rattle.btree_descent.specs.core_state.Needs.{are_hot, pages_of, needs, may_drop, is_single}
use Rattle.btree_descent.specs.core_state.Steps.{happens}
use Rattle.btree_descent.specs.row_words.declared.given.Given.{Given}
use Rattle.btree_descent.specs.row_words.Moments.{Moment}
use Rattle.btree_descent.specs.row_words.Openings.{opening}
use Rattle.btree_descent.specs.row_words.Words.{is_inner, framed, framed_page}
use Rattle.btree_descent.proofs.row_words.Stays.{and_true}
use Rattle.btree_descent.specs.rows_trait.declared.view.View.{View}
use Rattle.btree_descent.specs.rows_trait.Views.{Shape, state, may}
use Rattle.btree_descent.specs.Known.{Sound, IsSound}
use Rattle.btree_smo.specs.declared.drop_root.Dropping.{Dropping}
use Rattle.btree_smo.specs.Drops.{drop_entry}
use Rattle.held_rows.specs.Rows.{HoldsTwo}
use Rattle.btree_smo.specs.Inside.Dropping.{IsDropping, IsLowered, root_after, child_after}
use Rattle.btree_smo.proofs.Reading.{Reads, reads}
use Rattle.btree_smo.proofs.SplitPages.{two_pages}
use Rattle.btree_smo.proofs.Swips.{shown, framed_as}

-- ## The root's one child

pub one_pair : (xs : List Pair) (c : ℕ) → is_single xs c ≡ true → (k : ℕ) × (xs ≡ record { key = k; word = c } ∷ [])
one_pair [] c h = absurd (true≢false (sym h))
one_pair (x ∷ xs) c h =
    let a = and_true (x.word == c) (is_nil xs) h in
    (x.key, (λ i. record { key = x.key; word = eqb-true x.word c a.0 i } ∷ none xs a.1 i))
  where
    none : (ys : List Pair) → is_nil ys ≡ true → ys ≡ []
    none [] e = refl
    none (y ∷ ys) e = absurd (true≢false (sym e))

-- it is a node one level lower with the root's fences
pub record IsOnly (root child : Node) : Type 0 where
  pub inner : 0 < root.level
  pub live : child.live ≡ true
  pub level : suc child.level ≡ root.level
  pub low : child.low ≡ root.low
  pub high : child.high ≡ root.high

pub only_child : {v : Given} {m : Moment} (c : ℕ) → Sound v m → may_drop (nodes_of m.core) c ≡ true → IsOnly (m.core.page 0).node (m.core.page c).node
only_child {v} {m} c sound ok =
    let root = (m.core.page 0).node in
    let a = and_true (ltb 0 root.level) (is_single root.pairs c) ok in
    let up = ltb-true 0 root.level a.0 in
    let one = one_pair root.pairs c a.1 in
    let k = one.0 in
    let live = sound.tree.root.0 in
    let span : Span = record { child = c; low = k; high = root.high } in
    let names : Names root span = record { live = live; inner = up; has = subst (λ (ps : List Pair). Rattle.page_model.specs.Pairs.Has span (Rattle.page_model.specs.Pairs.spans ps root.high)) (sym one.1) (inl refl) } in
    let is : IsChild root (m.core.page c).node span = sound.tree.down 0 sound.tree.some span names in
    let formed : NodeOk (opening v).format root = (sound.tree.formed 0 sound.tree.some).node live in
    let first : k ≡ root.low = ap (λ (ps : List Pair). first_key ps root.high) (sym one.1) ∙ (formed.first up).1 in record {
      inner = up;
      live = is.live;
      level = is.level;
      low = is.low ∙ first;
      high = is.high;
    }

-- ## The pages

module _ (g : Opening) (s : State) (w c : ℕ) (other : c ≢ 0) where
  abbrev old : Node
  old = (s.page 0).node

  abbrev next : Node
  next = (s.page c).node

  abbrev after : State
  after = happens g s (happening.Event.Drop w c)

  abbrev number : ℕ
  number = (drop_entry w c s).number

  abbrev low_root : Node
  low_root = record { live = old.live; level = next.level; low = old.low; high = old.high; pairs = next.pairs }

  root_contents : after.page 0 ≡ record { gsn = number; last = w; node = low_root }
  root_contents = refl

  child_contents : after.page c ≡ record { gsn = number; last = w; node = free }
  child_contents =
      let a : (c == 0) ≡ false = ne_eqb c 0 other in
      let b : (0 == c) ≡ false = ne_eqb 0 c (λ e. other (sym e)) in
      let d : (c == c) ≡ true = eq-eqb c c refl in
      rw (b, d, a) refl

  -- in their frames
  pub root_left : (n m : stored.Page) (generation : ℕ) → n.number ≡ 0 → n.generation ≡ generation → Reads s n → m.node ≡ framed s.place next → old.live ≡ next.live → root_after n m number w ≡ framed_page after 0 generation
  root_left n m generation zero same r node alive =
      let bare : m.node ≡ record next { pairs = shown s.place (is_inner next) next.pairs } = node ∙ framed_as s.place next in
      let inner : is_inner next ≡ is_inner low_root = ap (λ x. x && ltb 0 next.level) (sym alive) in
      let node_is : (root_after n m number w).node ≡ framed s.place low_root =
      (λ i. record { live = (r.live ∙ ap (λ p. (s.page p).node.live) zero) i; level = (bare i).level; low = (r.low ∙ ap (λ p. (s.page p).node.low) zero) i; high = (r.high ∙ ap (λ p. (s.page p).node.high) zero) i; pairs = (bare i).pairs })
      ∙ ((λ i. record low_root { pairs = shown s.place (inner i) next.pairs }) ∙ sym (framed_as s.place low_root)) in
      (λ i. record { number = zero i; gsn = number; generation = same i; last_log = w; node = node_is i })

  pub child_left : (m : stored.Page) → m.number ≡ c → child_after m number w ≡ framed_page after c m.generation
  child_left m is =
      (λ i. record { number = is i; gsn = ap (λ (y : Contents). y.gsn) (sym child_contents) i; generation = m.generation; last_log = ap (λ (y : Contents). y.last) (sym child_contents) i; node = ap (λ (y : Contents). framed s.place y.node) (sym child_contents) i })

-- ## What is known of a drop

module _ {z : Shape} {v : View} {worker a b : ℕ} (l : Dropping) (t : HoldsTwo z v a b) (first : a ≡ 0) (it : IsDropping v worker b l) (actor : may z.alone v worker ≡ true) (sound : IsSound v.given) where
  abbrev s : State
  s = (state v).core

  abbrev c : ℕ
  c = l.child.number

  fits : may_drop (nodes_of s) c ≡ true
  fits = (and_true (s.worker worker).is_open (may_drop (nodes_of s) c) (and_true (are_hot s (pages_of (happening.Event.Drop worker c))) (needs (opening v.given) s (happening.Event.Drop worker c)) it.met).1).1

  pub only : IsOnly (s.page 0).node (s.page c).node
  only = only_child c (sound v.seen) fits

  other : c ≢ 0
  other = two_pages s.place c 0 b 0 it.child.stands.hot (sound v.seen).residence.root (λ e. t.apart (first ∙ sym e))

  -- the fences of both nodes agree
  pub both_formed : (l.root.node.live ≡ true) × (l.child.node.low ≡ l.root.node.low) × (l.child.node.high ≡ l.root.node.high)
  both_formed =
      let r = reads it.root in
      let q = reads it.child in (
        r.live ∙ (ap (λ p. (s.page p).node.live) it.first ∙ (sound v.seen).tree.root.0),
        q.low ∙ (only.low ∙ sym (r.low ∙ ap (λ p. (s.page p).node.low) it.first)),
        q.high ∙ (only.high ∙ sym (r.high ∙ ap (λ p. (s.page p).node.high) it.first)),
      )

  short : length l.child.node.pairs ≤ 60
  short =
      let formed : NodeOk (opening v.given).format (s.page c).node = ((sound v.seen).tree.formed c it.child.stands.below).node only.live in
      let e = (reads it.child).count in
      let f = formed.sized in omega arith

  pub lowered : (number : ℕ) → number ≡ (drop_entry worker c s).number → IsLowered z v worker c a b (root_after l.root l.child number worker) (child_after l.child number worker)
  lowered number e =
      let r = reads it.root in
      let alive : (s.page 0).node.live ≡ (s.page c).node.live = (sound v.seen).tree.root.0 ∙ sym only.live in
      let root = root_left (opening v.given) s worker c other l.root l.child l.root.generation it.first refl r (ap (λ (q : stored.Page). q.node) it.child.page) alive in
      let child = child_left (opening v.given) s worker c other l.child refl in record {
        two = t;
        actor = actor;
        sound = sound;
        met = it.met;
        young = it.young;
        root_left = record {
          frame = t.first;
          stands = subst (λ q. Rattle.btree_smo.specs.Outcomes.IsHotIn v.given (state v) q l.root.number) (sym first) it.root.stands;
          page = ap (λ x. root_after l.root l.child x worker) e ∙ (root ∙ ap (λ p. framed_page (happens (opening v.given) s (happening.Event.Drop worker c)) p l.root.generation) (sym it.first));
          short = short;
        };
        root_is = it.first;
        child_left = record {
          frame = t.second;
          stands = it.child.stands;
          page = ap (λ x. child_after l.child x worker) e ∙ child;
          short = omega arith;
        };
        child_is = refl;
      }

pub lowered_as : {z : Shape} {v : View} {worker a b x page : ℕ} {r root k child : stored.Page} → x ≡ page → r ≡ root → k ≡ child → IsLowered z v worker page a b root child → IsLowered z v worker x a b r k
lowered_as {z} {v} {worker} {a} {b} {x} {page} {r} {root} {k} {child} e f h it = subst (λ (q : ℕ × stored.Page × stored.Page). IsLowered z v worker q.0 a b q.1 q.2) (λ i. (sym e i, sym f i, sym h i)) it
