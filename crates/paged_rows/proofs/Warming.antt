-- A way that is brought into frames page by page.
use Rattle.std.proofs.Common.{◌≡◌, ◌∙◌, ◌<◌, ◌≤◌, ◌-◌, ◌+◌, ◌⊎◌, ◌||◌, not, ℕ, suc, Bool, true, false, List, [], ap, arith, refl, subst, sym, ◌&&◌, ◌==◌, leb, ltb}
use Rattle.std.proofs.lemmas.Bool.{and_from, and_parts, cases_eq, eqb-true, le-leb, leb-true, lt-ltb, ne_eqb, or_cases, or_right}
use Rattle.core_calls.specs.Warms.{EveryWarm, IsWarmFrom}
use Rattle.btree_descent.specs.core_state.Openings.{Opening}
use Rattle.btree_descent.specs.core_state.States.{Place, State, is_hot, nodes_of}
use Rattle.page_model.specs.Nodes.{Node, covers, is_leaf}
use Rattle.btree_descent.specs.row_words.declared.given.Given.{Given}
use Rattle.btree_descent.specs.row_words.Moments.{Moment}
use Rattle.btree_descent.specs.row_words.Openings.{opening}
use Rattle.btree_descent.specs.rows_trait.declared.view.View.{View}
use Rattle.btree_descent.specs.rows_trait.Views.{Shape, after_all, state}
use Rattle.btree_descent.specs.Known.{Sound}
use Rattle.btree_descent.specs.Puts.{IsLeafAt}
use Rattle.btree_descent.specs.Trails.{IsColdBelow}
use Rattle.paged_rows.specs.Paged.{IsWarm, Paged}
use Rattle.lean_disk.specs.Story.{Story}
use Rattle.page_provider.specs.Disks.{Disked}
use Rattle.page_provider.specs.Moves.{Moved}
use Rattle.page_provider.specs.Providers.{Provider}
use Rattle.page_provider.specs.Sequels.{EverySequel}
use Rattle.page_provider.specs.declared.refusal.Refusal.{Refusal}
use Rattle.paged_rows.specs.Paged.{IsFedIfFaithful, IsFree, IsNamed, IsNamedIn, IsPaged}
use Rattle.page_calls.specs.Mirrors.{Mirrors}
use Rattle.page_provider.specs.Mirrored.{KeepsMirrored}
use Rattle.lean_disk.specs.Moments.{Framed}
use Rattle.std.specs.Prelude.{IsTrue}
use Rattle.paged_rows.specs.Paged.{paged}
use Rattle.paged_rows.specs.Warms.{CrowdedCause, HasCome, HasComeBeside, HasJoined, HasMoved, IsKept, IsLost, IsNeeded, IsOfPage, IsRefusedTo, KeepsRest, LostTo, RestCause, most_a_page}
use Rattle.paged_rows.specs.declared.wanted.Wanted.{Wanted}
use Rattle.paged_rows.specs.declared.wanted.Wanted.TheVariants as want
use Rattle.btree_descent.specs.image_model.Entries.{Contents}
use Rattle.page_model.specs.Check.{names_page}
use Rattle.page_model.specs.Pairs.{Span, spans}
use Rattle.page_provider.specs.Moves.{KeepsPath}
use Rattle.std.proofs.Common.{true≢false, ◌≢◌}
use Rattle.std.proofs.lemmas.Bool.{ltb-true}
use Rattle.map_model.specs.Lists.{any}
use Rattle.map_model.proofs.ListLemmas.{any_has, has_any}
use Rattle.page_model.specs.Tree.{IsTree, Names}
use Rattle.btree_descent.specs.core_state.Lists.{all_below}
use Rattle.btree_descent.specs.core_state.Needs.{has_hot_parent}
use Rattle.page_pool.specs.Full.{IsTaken, IsWay}
use Rattle.cold_pages.specs.Laws.{IsButEntries}
use Rattle.page_provider.specs.Moves.{is_on, way}
use Rattle.btree_descent.specs.core_state.States.{is_cold}
use Rattle.std.proofs.Common.{◌++◌, append-nil}
use Rattle.std.proofs.Common.{Result, IfErr, IfOk, Ok, Err, Some, None, ◌∷◌, inl, inr, length, zero}
use Rattle.std.specs.Prelude.{slice_index}
use Rattle.std.proofs.lemmas.Bool.{cond-true, eq-eqb}
use Rattle.btree_descent.specs.lean_proto.Paths.{above}
use Rattle.btree_descent.specs.Trails.{IsAbove, IsTrail, Routes}
use Rattle.btree_descent.specs.core_state.States.{in_frame}
use Rattle.page_model.proofs.Tree as page_tree
use Rattle.map_model.specs.Lists.{Has}
use Rattle.btree_descent.specs.rows_trait.Turns.{Ran}
use Rattle.btree_descent.specs.Reaches.{CameThere, MetLeaf}
use Rattle.btree_descent.specs.declared.reach.Way.TheVariants.{Cold, Leaf}
use Rattle.btree_descent.specs.Descents.{Sized}
use Rattle.page_provider.specs.Descents.{EveryDescent}
use Rattle.page_provider.specs.Ends.{HasRefused}
use Rattle.page_provider.specs.Faults.{ColdCause, FaultCause, HasPlaced, IsDescent, IsWanted, KeepsOthers, LeadsTo, LostCause}
use Rattle.page_provider.specs.Providers.{Keeps}
use Rattle.page_provider.specs.declared.refusal.Refusal.TheVariants as refusal

-- ## At a moment

module _ (v : Given) (m : Moment) (key : ℕ) (every : EveryWarm) (sound : Sound v m) where
  -- the key's leaf is hot, and so all of the way
  pub leaf_warm : (row page : ℕ) → IsLeafAt v m row page key → IsWarmFrom (opening v) m.core key 0
  leaf_warm row page l =
      let n = (m.core.page page).node in
      let parts = and_parts (is_leaf n) (covers n key) l.leaf in
      let level : n.level ≡ 0 = eqb-true n.level 0 (and_parts n.live (n.level == 0) parts.0).1 in
      subst (λ i. IsWarmFrom (opening v) m.core key i) level ((every (opening v) m.core key).up sound.tree sound.residence page l.below parts.1 (ap is_hot l.hot))

-- a page that a node of the way names for the key covers it
module _ (v : Given) (m : Moment) (key row page : ℕ) (sound : Sound v m) where
  pub cold_covers : IsColdBelow v m key row page → covers (m.core.page page).node key ≡ true
  cold_covers c =
      let d = sound.tree.down c.routes.parent c.routes.below c.routes.span c.routes.names in
      let n = nodes_of m.core c.routes.span.child in
      let low = c.routes.low in let high = c.routes.high in let a = d.low in let b = d.high in
      subst (λ p. covers (m.core.page p).node key ≡ true) c.child
      (and_from n.live (leb n.low key && ltb key n.high) d.live (and_from (leb n.low key) (ltb key n.high) (le-leb n.low key (omega arith)) (lt-ltb key n.high (omega arith))))

-- a way that is warm from a level is so from a higher one
pub warm_up : (g : Opening) (s : State) (key : ℕ) {a b : ℕ} → a ≤ b → IsWarmFrom g s key a → IsWarmFrom g s key b
warm_up g s key le w p below covers level = w p below covers (omega arith)

-- so they do behind a call
pub fed_on : (p q : Paged) (old new : Story) → q.view.given ≡ p.view.given → KeepsMirrored p.view p.pager q.view q.pager old new → Framed 1 old new → q.pager.broken ≡ false → IsFedIfFaithful p old → IsFedIfFaithful q new
fed_on p q old new given keeps frame well h faithful = let f = h (sym (ap (λ (v : Given). v.faithful) given) ∙ faithful) in record { tells = subst IsTrue (sym (frame.tells 1)) f.tells; mirrored = keeps f.mirrored well }

-- ## One page

-- the page of a frame of the way covers the key
routes_cover : (v : Given) (m : Moment) (key f : ℕ) → Sound v m → (r : Routes v m key f) → covers (m.core.page r.parent).node key ≡ true
routes_cover v m key f sound r =
    let n = (m.core.page r.parent).node in
    let a = page_tree.span_fences (opening v).format (nodes_of m.core) sound.tree r.parent r.span r.below r.names in
    let low = r.low in let high = r.high in let b = a.0 in let d = a.2 in
    and_from n.live (leb n.low key && ltb key n.high) r.names.live (and_from (leb n.low key) (ltb key n.high) (le-leb n.low key (omega arith)) (lt-ltb key n.high (omega arith)))

-- a page of the way stands in the frame
pub record Stands (v : Given) (m : Moment) (key frame : ℕ) : Type 0 where
  pub page : ℕ
  pub below : page < (opening v).format.pages
  pub hot : m.core.place page ≡ Place.Hot frame
  pub covered : covers (m.core.page page).node key ≡ true

node_stands : (v : Given) (m : Moment) (key f : ℕ) → Sound v m → Routes v m key f → Stands v m key f
node_stands v m key f sound r = record { page = r.parent; below = r.below; hot = r.hot; covered = routes_cover v m key f sound r }

leaf_stands : (v : Given) (m : Moment) (key f page : ℕ) → IsLeafAt v m f page key → Stands v m key f
leaf_stands v m key f page l = let n = (m.core.page page).node in record { page = page; below = l.below; hot = l.hot; covered = (and_parts (is_leaf n) (covers n key) l.leaf).1 }

-- nobody names a page that is free
free_unnamed : (v : Given) (m : Moment) (q p : ℕ) → Sound v m → q < (opening v).format.pages → names_page (m.core.page q).node p ≡ true → (m.core.page p).node.live ≡ false → ⊥
free_unnamed v m q p sound below names dead =
    let n = (m.core.page q).node in
    let a = and_parts (n.live && ltb 0 n.level) (any (λ (s : Span). s.child == p) (spans n.pairs n.high)) names in
    let b = and_parts n.live (ltb 0 n.level) a.0 in
    let s = any_has (λ (s : Span). s.child == p) (spans n.pairs n.high) a.1 in
    let c = sound.tree.down q below s.0 (record { live = b.0; inner = ltb-true 0 n.level b.1; has = s.1 }) in
    true≢false (sym c.live ∙ (ap (λ i. (m.core.page i).node.live) (eqb-true s.0.child p s.2) ∙ dead))

in_hot : {x : Place} {f : ℕ} → x ≡ Place.Hot f → in_frame x f ≡ true
in_hot {f = f} e = ap (λ q. in_frame q f) e ∙ eq-eqb f f refl

some_same : (a b : ℕ) → Some a ≡ Some b → a ≡ b
some_same a b e = cc

-- what holds of the last frame, and of each that has one below it, holds of all
place_of : (xs : List ℕ) (f : ℕ) → Has f xs → (i : ℕ) × (i < length xs) × (slice_index xs i ≡ f)
place_of [] f h = absurd h
place_of (x ∷ xs) f (inl e) = (0, omega arith, sym e)
place_of (x ∷ xs) f (inr h) = let p = place_of xs f h in let lt = p.1 in (suc p.0, omega arith, p.2)

above_at : (path : List ℕ) (n : ℕ) → n < length path → above path n ≡ Some (slice_index path (length path - suc n))
above_at path n lt = cond-true (ltb n (length path)) (Some (slice_index path (length path - suc n))) None (lt-ltb n (length path) lt)

-- the last frame is one of them
has_at : (xs : List ℕ) (i : ℕ) → i < length xs → Has (slice_index xs i) xs
has_at [] i lt = absurd (omega arith)
has_at (x ∷ xs) zero lt = inl refl
has_at (x ∷ xs) (suc i) lt = inr (has_at xs i (omega arith))

has_last : (path : List ℕ) (f : ℕ) → above path 0 ≡ Some f → Has f path
has_last [] f e = cc
has_last (x ∷ path) f e = subst (λ g. Has g (x ∷ path)) (some_same (slice_index (x ∷ path) (length (x ∷ path) - 1)) f (sym (above_at (x ∷ path) 0 (omega arith)) ∙ e)) (has_at (x ∷ path) (length (x ∷ path) - 1) (omega arith))

-- a page of the way stands hot in one of its frames
hot_on : (path : List ℕ) (p : ℕ) (x : Place) → Has 0 path → (p ≡ 0 → x ≡ Place.Hot 0) → is_on path p x ≡ true → (f : ℕ) × Has f path × (x ≡ Place.Hot f)
hot_on path p (Place.Hot f) root at on = elim (or_cases (p == 0) (any (λ i. i == f) path) on) [
  | inl e ↦ (0, root, at (eqb-true p 0 e))
  | inr e ↦ let a = any_has (λ i. i == f) path e in (f, subst (λ i. Has i path) (eqb-true a.0 f a.2) a.1, refl)
]
hot_on path p (Place.Cooling f e w) root at on = (0, root, at (eqb-true p 0 on))
hot_on path p Place.Cold root at on = (0, root, at (eqb-true p 0 on))

routes_at : (R : ℕ → Type 0) (path : List ℕ) (f : ℕ) → Has f path → (above path 0 ≡ Some f → R f) → ((n next : ℕ) → above path (suc n) ≡ Some f → above path n ≡ Some next → R f) → R f
routes_at R path f has last inner = go (length path - suc p.0) refl
  where
    p : (i : ℕ) × (i < length path) × (slice_index path i ≡ f)
    p = place_of path f has

    at : (n : ℕ) → length path - suc p.0 ≡ n → above path n ≡ Some f
    at n e =
        let lt = p.1 in
        let i : length path - suc n ≡ p.0 = omega arith in
        above_at path n (omega arith) ∙ ap (λ j. Some (slice_index path j)) i ∙ ap (λ x. Some x) p.2

    go : (n : ℕ) → length path - suc p.0 ≡ n → R f
    go zero e = last (at 0 e)
    go (suc n) e = let lt = p.1 in inner n (slice_index path (length path - suc n)) (at (suc n) e) (above_at path n (omega arith))

-- behind a call that has kept the frames of a way from the root, in each of which a page of the way stood
module _ (key : ℕ) (path : List ℕ) (v u : View) (behind : Sound u.given (state u)) (root : Has 0 path) (keeps : KeepsPath path v u) (contents : (p : ℕ) → IsButEntries ((state v).core.page p) ((state u).core.page p)) (stands : (f : ℕ) → Has f path → Stands v.given (state v) key f) where
  on_way : (f : ℕ) → Has f path → (p : ℕ) → (state u).core.place p ≡ Place.Hot f → covers ((state u).core.page p).node key ≡ true
  on_way f has p hot =
      let r = stands f has in
      let stays = keeps f r.page has r.hot in
      let e : p ≡ r.page = behind.residence.one p r.page f (in_hot hot) (in_hot stays) in
      ap (λ q. covers ((state u).core.page q).node key) e ∙ (ap (λ n. covers n key) (contents r.page).fields ∙ r.covered)

  on_path : (p : ℕ) → way path (state u).core p ≡ true → covers ((state u).core.page p).node key ≡ true
  on_path p on = let a = hot_on path p ((state u).core.place p) root (λ e. ap (state u).core.place e ∙ behind.residence.root) on in on_way a.0 a.1 p a.2

  kept : (z : Shape) (is : Provider) (f : ℕ) → IsTaken (opening u.given) (state u).core (way path (state u).core) f → IsKept key f (paged z u is)
  kept z is f t = record { page = t.page; here = t.here; why = elim t.why [ inl on ↦ inl (on_path t.page on) | inr e ↦ inr e ] }

  crowded_by : (x z : Shape) (k is : Provider) (page : ℕ) (wanted : Wanted) (s : Story) (why : Refusal) → x.alone ≡ true → length path ≤ 8 → page < (opening u.given).format.pages → IsNeeded key wanted page (paged z u is) → FaultCause x path v k page s u is why → CrowdedCause key wanted why (paged z u is)
  crowded_by x z k is page wanted s (refusal.PoolFull on latched above held) alone short below needed c =
      let full = c.full.1 alone in
      let none = full.0 in
      let sum = c.full.0 in
      let few = full.1.on_few in record {
        page = page;
        below = below;
        needed = needed;
        cold = c.cold;
        kept = λ f lt. kept z is f (full.1.taken f lt);
        sum = omega arith;
        few = omega arith;
        some_above = full.1.some_above;
        some_held = full.1.some_held;
      }
  crowded_by x z k is page wanted s refusal.NoPages alone short below needed c = absurd c
  crowded_by x z k is page wanted s _ alone short below needed c = tt

-- what is known of the other pages
rest_from : (wanted : Wanted) (p q : Paged) (why : Refusal) → KeepsRest wanted p q → RestCause wanted p why q
rest_from wanted p q (refusal.PoolFull on latched above held) k = k
rest_from wanted p q _ k = tt

-- ## A page that a page of the way names

names_to : (n : Node) (p : ℕ) → names_page n p ≡ true → (s : Span) × Names n s × (s.child ≡ p)
names_to n p h =
    let a = and_parts (n.live && ltb 0 n.level) (any (λ (s : Span). s.child == p) (spans n.pairs n.high)) h in
    let b = and_parts n.live (ltb 0 n.level) a.0 in
    let s = any_has (λ (s : Span). s.child == p) (spans n.pairs n.high) a.1 in
    (s.0, record { live = b.0; inner = ltb-true 0 n.level b.1; has = s.1 }, eqb-true s.0.child p s.2)

not_zero : (n : ℕ) → 0 < n → (n == 0) ≡ false
not_zero n lt = ne_eqb n 0 (λ e. omega arith)

-- which is no leaf
pub inner_of : (n : Node) (p : ℕ) → names_page n p ≡ true → is_leaf n ≡ false
inner_of n p h = let t = names_to n p h in ap (λ b. b && (n.level == 0)) t.1.live ∙ not_zero n.level t.1.inner

each_below : (n : ℕ) (f : ℕ → Bool) → ((q : ℕ) → q < n → f q ≡ true) → all_below n f ≡ true
each_below zero f h = refl
each_below (suc n) f h = and_from (f n) (all_below n f) (h n (omega arith)) (each_below n f (λ q l. h q (omega arith)))

hot_parents : (g : Opening) (s : State) (p : ℕ) → ((q : ℕ) → q < g.format.pages → names_page (s.page q).node p ≡ true → is_hot (s.place q) ≡ true) → has_hot_parent g s p ≡ true
hot_parents g s p h = each_below g.format.pages (λ q. not (names_page (s.page q).node p) || is_hot (s.place q)) (λ q l. go q l (names_page (s.page q).node p) refl)
  where
    go : (q : ℕ) → q < g.format.pages → (b : Bool) → names_page (s.page q).node p ≡ b → (not b || is_hot (s.place q)) ≡ true
    go q l true e = h q l e
    go q l false e = refl

lies_to : (n : Node) (key : ℕ) → covers n key ≡ true → page_tree.Lies n key
lies_to n key h =
    let a = and_parts n.live (leb n.low key && ltb key n.high) h in
    let b = and_parts (leb n.low key) (ltb key n.high) a.1 in
    record { live = a.0; low = leb-true n.low key b.0; high = ltb-true key n.high b.1 }

on_by : (path : List ℕ) (p f : ℕ) (x : Place) → x ≡ Place.Hot f → Has f path → is_on path p x ≡ true
on_by path p f x hot has = ap (is_on path p) hot ∙ or_right (p == 0) (any (λ i. i == f) path) (has_any (λ i. i == f) path f has (eq-eqb f f refl))

-- where a page of the way stands in one of the frames, so does each page of the way above it
module _ (g : Opening) (s : State) (key : ℕ) (path : List ℕ) (tree : IsTree g.format (nodes_of s)) (closed : IsWay g s (way path s)) where
  climb : (d p : ℕ) → p < g.format.pages → page_tree.Lies (nodes_of s p) key → way path s p ≡ true → (q : ℕ) → q < g.format.pages → page_tree.Lies (nodes_of s q) key → (nodes_of s q).level ≡ (nodes_of s p).level + d → way path s q ≡ true
  climb zero p lp cp on q lq cq e = ap (way path s) (page_tree.one g.format (nodes_of s) tree q p key lq lp cq cp (omega arith)) ∙ on
  climb (suc d) p lp cp on q lq cq e = go (cases_eq p 0) (climb d)
    where
      go : (p ≡ 0) ⊎ (p ≡ 0 → ⊥) → ((p : ℕ) → p < g.format.pages → page_tree.Lies (nodes_of s p) key → way path s p ≡ true → (q : ℕ) → q < g.format.pages → page_tree.Lies (nodes_of s q) key → (nodes_of s q).level ≡ (nodes_of s p).level + d → way path s q ≡ true) → way path s q ≡ true
      go (inl z) up = let a = page_tree.tall g.format (nodes_of s) tree q lq cq.live in let b = ap (λ i. (nodes_of s i).level) z in absurd (omega arith)
      go (inr ne) up =
          let u = tree.up p lp cp.live ne in
          let l = (page_tree.named g.format (nodes_of s) tree p u).1 in
          up u.page u.below (page_tree.up_lies g.format (nodes_of s) tree p key u cp) (closed u.page p u.below (names_by (nodes_of s u.page) p u.span u.names u.child) on) q lq cq (omega arith)
        where
          names_by : (n : Node) (p : ℕ) (z : Span) → Names n z → z.child ≡ p → names_page n p ≡ true
          names_by n p z m e = and_from (n.live && ltb 0 n.level) (any (λ (s : Span). s.child == p) (spans n.pairs n.high)) (and_from n.live (ltb 0 n.level) m.live (lt-ltb 0 n.level m.inner)) (has_any (λ (s : Span). s.child == p) (spans n.pairs n.high) z m.has (eq-eqb z.child p e))

contents_same : (a b : Contents) → b.gsn ≡ a.gsn → b.last ≡ a.last → b.node ≡ a.node → b ≡ a
contents_same a b gsn last node = λ i. record { gsn = gsn i; last = last i; node = node i }

-- behind a search that appended nothing
module _ {x y : Shape} {v w : View} {k : Provider} (same : x ≡ y) (i : IsPaged (paged y v k)) (seq : EverySequel) (ran : Ran y.alone v [] w) (free : w.held ≡ v.held) where
  rested : Moved 0 y v k w k
  rested = seq.rest y v w k i.keeps i.held (free ∙ i.held) ran

  pub paged_now : IsPaged (paged x w k)
  paged_now = record { alone = ap (λ (z : Shape). z.alone) same ∙ i.alone; held = free ∙ i.held; keeps = subst (λ (z : Shape). Keeps z w k) (sym same) rested.goes.keeps }

  -- the state is as it was
  now : state w ≡ state v
  now = (λ j. after_all (ran.given j) (ran.seen j)) ∙ (ap (λ es. after_all v.given (v.seen ++ es)) (ran.all i.alone) ∙ ap (after_all v.given) (append-nil v.seen))

  pub leaf_met : {key row : ℕ} → EveryWarm → MetLeaf y.alone key row v w → HasMoved 0 (paged y v k) (paged x w k) × IsWarm (paged x w k) key 0
  leaf_met {key = key} {row = row} every m = (
    record { shape = same; moved = rested; broken = refl },
    leaf_warm w.given (state w) key every (paged_now.keeps.sound w.seen) row m.page m.leaf,
  )

  sound : Sound w.given (state w)
  sound = paged_now.keeps.sound w.seen

  sized : {frames : ℕ} → frames ≡ k.frames → Sized y v frames
  sized frames_are = subst (λ n. Sized y v n) (sym frames_are) i.keeps.sized

  -- a trail is so now, and in each of its frames a page of the way stands, if one does in the last
  led : {frames key row : ℕ} {path : List ℕ} → IsTrail y.alone frames key path row v w → (n frame next : ℕ) → above path (suc n) ≡ Some frame → above path n ≡ Some next → IsAbove w.given (state w) key frame next
  led {key = key} t n frame next a b = subst (λ (q : Given × Moment). IsAbove q.0 q.1 key frame next) (λ j. (sym ran.given j, sym now j)) (t.still i.alone n frame next a b)

  stands : {frames key row : ℕ} {path : List ℕ} → IsTrail y.alone frames key path row v w → Stands w.given (state w) key row → (f : ℕ) → Has f path → Stands w.given (state w) key f
  stands {key = key} {row = row} {path = path} t last f has =
      routes_at (Stands w.given (state w) key) path f has (λ e. subst (Stands w.given (state w) key) (some_same row f (sym t.ends ∙ e)) last) (λ n next a b. node_stands w.given (state w) key f sound (led t n f next a b).routes)

  root_on : {frames key row : ℕ} {path : List ℕ} → IsTrail y.alone frames key path row v w → Has 0 path
  root_on t = subst (λ fs. Has 0 fs) (sym t.starts) (inl refl)

  contents : {u : View} {is : Provider} → Moved most_a_page x w k u is → (p : ℕ) → IsButEntries ((state w).core.page p) ((state u).core.page p)
  contents {u = u} {is = is} m p = seq.pages most_a_page x w u k is paged_now.alone paged_now.keeps m p

  moved_from : {z : Shape} {u : View} {is : Provider} → z ≡ x → Moved most_a_page x w k u is → is.broken ≡ k.broken → HasMoved most_a_page (paged y v k) (paged z u is)
  moved_from {u = u} {is = is} later m broken = record {
    shape = later ∙ same;
    moved = seq.moved 0 most_a_page most_a_page y v w u k k is (omega arith) rested (subst (λ (q : Shape). Moved most_a_page q w k u is) same m);
    broken = broken;
  }

  refused_from : {u : View} {is : Provider} {path : List ℕ} {why : Refusal} → HasRefused most_a_page x path w k why u is → HasRefused most_a_page y [] v k why u is
  refused_from {u = u} {is = is} {path = path} {why = why} h = seq.refused 0 most_a_page most_a_page y path v w u k k is why (omega arith) rested refl (subst (λ (q : Shape). HasRefused most_a_page q path w k why u is) same h)

  -- a page that is cold was so before the search too
  pub lost_from : (page : ℕ) (path : List ℕ) (u : View) (is : Provider) → page < (opening w.given).format.pages → (s : Story) (why : Refusal) → FaultCause x path w k page s u is why → ColdCause w page why → LostTo (paged y v k) s why
  lost_from page path u is below s why c d = go why c d
    where
      as_lost : (r : Refusal) → LostCause k page s r → is_cold ((state w).core.place page) ≡ true → IsLost (paged y v k) page s r
      as_lost r l e = record {
        below = subst (λ (q : Given). page < (opening q).format.pages) ran.given below;
        cold = ap (λ (m : Moment). is_cold (m.core.place page)) (sym now) ∙ e;
        cause = l;
      }

      go : (r : Refusal) → FaultCause x path w k page s u is r → ColdCause w page r → LostTo (paged y v k) s r
      go (refusal.Damaged p counts other) l e = subst (λ q. IsLost (paged y v k) q s (refusal.Damaged q counts other)) (sym l.0) (as_lost (refusal.Damaged page counts other) (refl, l.1) e)
      go (refusal.Altered p) l e = subst (λ q. IsLost (paged y v k) q s (refusal.Altered q)) (sym l.0) (as_lost (refusal.Altered page) (refl, l.1) e)
      go _ l e = tt

  -- ## A page of the way

  module _ {frames key page : ℕ} {path : List ℕ} (there : CameThere y.alone frames key path v (Cold page) w) (every : EveryDescent) (frames_are : frames ≡ k.frames) where
    law : IsDescent y w path × ((p : ℕ) → IsColdBelow w.given (state w) key there.row p → LeadsTo y w path p × (y.alone ≡ true → IsWanted y w p))
    law = every y v w frames key there.row path i.keeps.sound (sized frames_are) ran there.trail

    pub descent_is : IsDescent x w path
    descent_is = subst (λ (z : Shape). IsDescent z w path) (sym same) law.0

    pub leads_is : LeadsTo x w path page
    leads_is = subst (λ (z : Shape). LeadsTo z w path page) (sym same) (law.1 page there.there).0

    pub wanted_is : IsWanted x w page
    wanted_is = subst (λ (z : Shape). IsWanted z w page) (sym same) ((law.1 page there.there).1 i.alone)

    pub has_come : {z : Shape} {u : View} {is : Provider} {frame : ℕ} → z ≡ x → HasPlaced most_a_page x path w k page frame u is → HasCome key frame (paged y v k) (paged z u is)
    has_come later h =
        let cold : IsColdBelow v.given (state v) key there.row page = subst (λ (q : Given × Moment). IsColdBelow q.0 q.1 key there.row page) (λ j. (ran.given j, now j)) there.there in record {
          moved = moved_from later h.moved h.broken;
          page = page;
          below = subst (λ (q : Given). page < (opening q).format.pages) ran.given wanted_is.below;
          covers = cold_covers v.given (state v) key there.row page (i.keeps.sound v.seen) cold;
          cold = cold.cold;
          hot = h.hot;
        }

    -- so the way was not hot
    pub never_warm : IsWarm (paged y v k) key 0 → ⊥
    never_warm m =
        let cold : IsColdBelow v.given (state v) key there.row page = subst (λ (q : Given × Moment). IsColdBelow q.0 q.1 key there.row page) (λ j. (ran.given j, now j)) there.there in
        true≢false (sym (m page (subst (λ (q : Given). page < (opening q).format.pages) ran.given wanted_is.below) (cold_covers v.given (state v) key there.row page (i.keeps.sound v.seen) cold) (omega arith)) ∙ cold.cold)

    -- behind a refused call: of the way from the root to the page that named it each one stands where it stood
    module _ {z : Shape} {u : View} {is : Provider} (s : Story) (why : Refusal) (warms : EveryWarm) (later : z ≡ x) (h : HasRefused most_a_page x path w k why u is) where
      behind : Sound u.given (state u)
      behind = h.moved.goes.keeps.sound u.seen

      given : u.given ≡ w.given
      given = h.moved.goes.ran.given

      last : Stands w.given (state w) key there.row
      last = node_stands w.given (state w) key there.row sound there.there.routes

      needed : covers ((state u).core.page page).node key ≡ true
      needed = ap (λ n. covers n key) (contents h.moved page).fields ∙ cold_covers w.given (state w) key there.row page sound there.there

      -- its parent is hot still, and so all of the way that was
      warm : (level : ℕ) → IsWarm (paged y v k) key level → IsWarm (paged z u is) key level
      warm level m =
          let r = there.there.routes in
          let at : IsWarmFrom (opening w.given) (state w).core key level = subst (λ (q : Given × Moment). IsWarmFrom (opening q.0) q.1.core key level) (λ j. (sym ran.given j, sym now j)) m in
          let under : ((state w).core.page page).node.level < level = (warms (opening w.given) (state w).core key).lower page level at wanted_is.below (cold_covers w.given (state w) key there.row page sound there.there) there.there.cold in
          let child = (sound.tree.down r.parent r.below r.span r.names).level in
          let named = ap (λ p. ((state w).core.page p).node.level) there.there.child in
          let over = ap (λ n. n.level) (contents h.moved r.parent).fields in
          let hot : is_hot ((state u).core.place r.parent) ≡ true = ap is_hot (h.keeps there.row r.parent (has_last path there.row there.trail.ends) r.hot) in
          warm_up (opening u.given) (state u).core key (omega arith)
          ((warms (opening u.given) (state u).core key).up behind.tree behind.residence r.parent (subst (λ (q : Given). r.parent < (opening q).format.pages) (sym given) r.below)
          (ap (λ n. covers n key) (contents h.moved r.parent).fields ∙ routes_cover w.given (state w) key there.row sound r) hot)

      pub lost_to : FaultCause x path w k page s u is why → ColdCause w page why → LostTo (paged y v k) s why
      lost_to = lost_from page path u is wanted_is.below s why

      pub refused_to : FaultCause x path w k page s u is why → IsRefusedTo key want.Way (paged y v k) why (paged z u is)
      refused_to c = record {
        shape = later ∙ same;
        refused = refused_from h;
        warm = warm;
        crowded = crowded_by key path w u behind (root_on there.trail) h.keeps (contents h.moved) (stands there.trail last) x z k is page want.Way s why paged_now.alone there.trail.few (subst (λ (q : Given). page < (opening q).format.pages) (sym given) wanted_is.below) needed c;
        rest = rest_from want.Way (paged y v k) (paged z u is) why tt;
      }

  -- ## Where the way is hot

  module _ {frames key row : ℕ} {path : List ℕ} (there : CameThere y.alone frames key path v (Leaf row) w) (met : MetLeaf y.alone key row v w) (every : EveryDescent) (frames_are : frames ≡ k.frames) where
    pub descent_hot : IsDescent x w path
    descent_hot = subst (λ (z : Shape). IsDescent z w path) (sym same) (every y v w frames key there.row path i.keeps.sound (sized frames_are) ran there.trail).0

    at_row : IsLeafAt w.given (state w) there.row met.page key
    at_row = subst (λ r. IsLeafAt w.given (state w) r met.page key) there.there met.leaf

    leaf_of : ((state w).core.page met.page).node.level ≡ 0
    leaf_of =
        let n = ((state w).core.page met.page).node in
        let leaf = and_parts (is_leaf n) (covers n key) at_row.leaf in
        eqb-true n.level 0 (and_parts n.live (n.level == 0) leaf.0).1

    leaf_covers : covers ((state w).core.page met.page).node key ≡ true
    leaf_covers = let n = ((state w).core.page met.page).node in (and_parts (is_leaf n) (covers n key) at_row.leaf).1

    leaf_last : Stands w.given (state w) key there.row
    leaf_last = leaf_stands w.given (state w) key there.row met.page at_row

    -- behind a call that has kept the way: the leaf is hot still, and so all of the way is
    module _ {z : Shape} {u : View} {is : Provider} (warms : EveryWarm) (later : z ≡ x) (m : Moved most_a_page x w k u is) (keeps : KeepsPath path w u) where
      behind_hot : Sound u.given (state u)
      behind_hot = m.goes.keeps.sound u.seen

      stays_warm : IsWarm (paged z u is) key 0
      stays_warm =
          let level : ((state u).core.page met.page).node.level ≡ 0 = ap (λ n. n.level) (contents m met.page).fields ∙ leaf_of in
          subst (λ j. IsWarmFrom (opening u.given) (state u).core key j) level
          ((warms (opening u.given) (state u).core key).up behind_hot.tree behind_hot.residence met.page (subst (λ (q : Given). met.page < (opening q).format.pages) (sym m.goes.ran.given) at_row.below)
          (ap (λ n. covers n key) (contents m met.page).fields ∙ leaf_covers) (ap is_hot (keeps there.row met.page (has_last path there.row there.trail.ends) at_row.hot)))

    module _ {z : Shape} {u : View} {is : Provider} (s : Story) (why : Refusal) (warms : EveryWarm) (later : z ≡ x) (h : HasRefused most_a_page x path w k why u is) where
      -- behind one that was refused, of a page that was wanted beside it
      refused_hot : (page : ℕ) (wanted : Wanted) → page < (opening w.given).format.pages → IsNeeded key wanted page (paged z u is) → RestCause wanted (paged y v k) why (paged z u is) → FaultCause x path w k page s u is why → IsRefusedTo key wanted (paged y v k) why (paged z u is)
      refused_hot page wanted below needed rest c = record {
        shape = later ∙ same;
        refused = refused_from h;
        warm = λ level _. warm_up (opening u.given) (state u).core key (omega arith) (stays_warm warms later h.moved h.keeps);
        crowded = crowded_by key path w u (behind_hot warms later h.moved h.keeps) (root_on there.trail) h.keeps (contents h.moved) (stands there.trail leaf_last) x z k is page wanted s why paged_now.alone there.trail.few
            (subst (λ (q : Given). page < (opening q).format.pages) (sym h.moved.goes.ran.given) below) needed c;
        rest = rest;
      }

    -- ## A free page

    module _ (page : ℕ) (unused : IsFree (paged y v k) page) where
      below : page < (opening w.given).format.pages
      below = subst (λ (q : Given). page < (opening q).format.pages) (sym ran.given) unused.0

      dead : ((state w).core.page page).node.live ≡ false
      dead = ap (λ (m : Moment). (m.core.page page).node.live) now ∙ unused.1

      pub wanted_free : IsWanted x w page
      wanted_free = record { below = below; at_hand = inr (inl dead) }

      pub leads_free : LeadsTo x w path page
      leads_free only q lt names hot = absurd (free_unnamed w.given (state w) q page sound lt names dead)

      page_same : {u : View} {is : Provider} → Moved most_a_page x w k u is → (state u).core.page page ≡ (state v).core.page page
      page_same {u = u} m =
          let c = contents m page in
          let n = ((state w).core.page page).node in
          contents_same ((state w).core.page page) ((state u).core.page page) c.gsn c.last (c.other (ap (λ b. b && (n.level == 0)) dead)) ∙ ap (λ (m : Moment). m.core.page page) now

      module _ {z : Shape} {u : View} {is : Provider} (warms : EveryWarm) (later : z ≡ x) where
        pub has_joined : {frame : ℕ} → Moved most_a_page x w k u is → KeepsPath path w u → (state u).core.place page ≡ Place.Hot frame → is.broken ≡ k.broken → HasJoined key page frame (paged y v k) (paged z u is)
        has_joined m keeps hot broken = record { moved = moved_from later m broken; hot = hot; same = page_same m; warm = stays_warm warms later m keeps }

        pub refused_free : (s : Story) (why : Refusal) → HasRefused most_a_page x path w k why u is → FaultCause x path w k page s u is why → IsRefusedTo key (want.Free page) (paged y v k) why (paged z u is)
        refused_free s why h c = refused_hot s why warms later h page (want.Free page) below (refl, ap (λ (c : Contents). c.node.live) (page_same h.moved) ∙ unused.1) (rest_from (want.Free page) (paged y v k) (paged z u is) why tt) c

    -- ## A page that a page of the way names

    module _ (page : ℕ) (b : IsNamed (paged y v k) key page) (hot : IsWarm (paged y v k) key 0) where
      parent_below : b.parent < (opening w.given).format.pages
      parent_below = subst (λ (q : Given). b.parent < (opening q).format.pages) (sym ran.given) b.below

      parent_covers : covers ((state w).core.page b.parent).node key ≡ true
      parent_covers = ap (λ (m : Moment). covers (m.core.page b.parent).node key) now ∙ b.on

      parent_names : names_page ((state w).core.page b.parent).node page ≡ true
      parent_names = ap (λ (m : Moment). names_page (m.core.page b.parent).node page) now ∙ b.names

      parent_hot : is_hot ((state w).core.place b.parent) ≡ true
      parent_hot = ap (λ (m : Moment). is_hot (m.core.place b.parent)) now ∙ hot b.parent b.below b.on (omega arith)

      naming : (s : Span) × Names ((state w).core.page b.parent).node s × (s.child ≡ page)
      naming = names_to ((state w).core.page b.parent).node page parent_names

      below_named : page < (opening w.given).format.pages
      below_named = subst (λ p. p < (opening w.given).format.pages) naming.2 (page_tree.child_page (opening w.given).format (nodes_of (state w).core) sound.tree b.parent naming.0 parent_below naming.1).1

      -- a page has one parent
      parent_is : (q : ℕ) → q < (opening w.given).format.pages → names_page ((state w).core.page q).node page ≡ true → q ≡ b.parent
      parent_is q lt names =
          let t = names_to ((state w).core.page q).node page names in
          (page_tree.only (opening w.given).format (nodes_of (state w).core) sound.tree q b.parent t.0 naming.0 lt parent_below t.1 naming.1 (t.2 ∙ sym naming.2)).0

      -- which stands in one of the frames of the way
      parent_on : way path (state w).core b.parent ≡ true
      parent_on =
          let n = nodes_of (state w).core in
          let zero_is = leaf_of in
          climb (opening w.given) (state w).core key path sound.tree (descent_hot.closed paged_now.alone) (n b.parent).level met.page at_row.below (lies_to (n met.page) key leaf_covers)
          (on_by path met.page there.row ((state w).core.place met.page) at_row.hot (has_last path there.row there.trail.ends)) b.parent parent_below (lies_to (n b.parent) key parent_covers) (omega arith)

      pub wanted_named : IsWanted x w page
      wanted_named = record {
        below = below_named;
        at_hand = inr (inr (paged_now.alone, hot_parents (opening w.given) (state w).core page (λ q lt names. ap (λ i. is_hot ((state w).core.place i)) (parent_is q lt names) ∙ parent_hot)));
      }

      pub leads_named : LeadsTo x w path page
      leads_named only q lt names is_hot_there = ap (way path (state w).core) (parent_is q lt names) ∙ parent_on

      -- it is named still
      named_behind : {u : View} {is : Provider} → Moved most_a_page x w k u is → IsNamedIn (opening u.given) (state u).core key page
      named_behind {u = u} m =
          let c = contents m b.parent in
          let n = ((state w).core.page b.parent).node in record {
            parent = b.parent;
            below = subst (λ (q : Given). b.parent < (opening q).format.pages) (sym m.goes.ran.given) parent_below;
            on = ap (λ n. covers n key) c.fields ∙ parent_covers;
            names = ap (λ n. names_page n page) (c.other (inner_of n page parent_names)) ∙ parent_names;
          }

      -- and no other page changed
      others_kept : (u : View) → KeepsOthers x page w u → (p : ℕ) → p ≢ page → (state u).core.page p ≡ (state v).core.page p
      others_kept u others p other = others paged_now.alone p other ∙ ap (λ (s : Moment). s.core.page p) now

      beside_kept : (z : Shape) (u : View) (is : Provider) (s : Story) (why : Refusal) → FaultCause x path w k page s u is why → RestCause (want.Beside page) (paged y v k) why (paged z u is)
      beside_kept z u is s (refusal.PoolFull on latched high held) c = others_kept u c.others
      beside_kept z u is s _ c = tt

      module _ {z : Shape} {u : View} {is : Provider} (warms : EveryWarm) (later : z ≡ x) where
        pub has_come_beside : {frame : ℕ} → Moved most_a_page x w k u is → KeepsPath path w u → (state u).core.place page ≡ Place.Hot frame → is.broken ≡ k.broken → KeepsOthers x page w u → HasComeBeside key page frame (paged y v k) (paged z u is)
        has_come_beside m keeps hot_there broken others = record {
          moved = moved_from later m broken;
          hot = hot_there;
          named = named_behind m;
          like = subst (λ (s : Moment). IsButEntries (s.core.page page) ((state u).core.page page)) now (contents m page);
          same = λ faithful. seq.contents most_a_page x w u k is paged_now.alone (ap (λ (g : Given). g.faithful) ran.given ∙ faithful) paged_now.keeps m page ∙ ap (λ (s : Moment). s.core.page page) now;
          others = others_kept u others;
          warm = stays_warm warms later m keeps;
        }

        pub refused_beside : (s : Story) (why : Refusal) → HasRefused most_a_page x path w k why u is → FaultCause x path w k page s u is why → IsRefusedTo key (want.Beside page) (paged y v k) why (paged z u is)
        refused_beside s why h c = refused_hot s why warms later h page (want.Beside page) below_named (refl, named_behind h.moved) (beside_kept z u is s why c) c

  -- the slots hold what is saved still
  pub fed_now : (s : Story) → IsFedIfFaithful (paged y v k) s → IsFedIfFaithful (paged x w k) s
  fed_now s h faithful =
      let f = h (sym (ap (λ (v : Given). v.faithful) ran.given) ∙ faithful) in record {
        tells = f.tells;
        mirrored = record { mirrors = subst (λ (m : Moment). Mirrors k.slots k.generation m.core.saved s) (sym now) f.mirrored.mirrors; spans = f.mirrored.spans };
      }

-- what was done to the disk behind a search
pub disk_from : {alone : Bool} {v w u : View} {k is : Provider} {old new : Story} → Rattle.page_provider.specs.Sequels.EveryDiskSequel old old new → k.broken ≡ false → Disked alone k v k w old old → Disked alone k w is u old new → Disked alone k v is u old new
disk_from {alone = alone} {v = v} {w = w} {u = u} {k = k} {is = is} sequel well a b = sequel alone v w u k k is well a b

pub if_err : {A E : Type 0} (r : Result A E) (e : E) (P : E → Type 0) → r ≡ Err e → P e → IfErr r P
if_err r e P is p = subst (λ q. IfErr q P) (sym is) p

-- ## As the pager answers

pub moved_if : {x : Shape} {w u : View} {k is : Provider} (path : List ℕ) (page : ℕ) (r : Result ℕ Refusal) → IfOk r (λ frame. HasPlaced most_a_page x path w k page frame u is) → IfErr r (λ why. HasRefused most_a_page x path w k why u is) → Moved most_a_page x w k u is
moved_if path page (Ok frame) h e = h.moved
moved_if path page (Err why) h e = e.moved

pub paged_if : {x z : Shape} {w u : View} {k is : Provider} → z ≡ x → x.alone ≡ true → Moved most_a_page x w k u is → IsPaged (paged z u is)
paged_if {u = u} {is = is} later alone m = record { alone = ap (λ (q : Shape). q.alone) later ∙ alone; held = m.goes.held; keeps = subst (λ (q : Shape). Keeps q u is) (sym later) m.goes.keeps }

pub ok_map : {A E : Type 0} (P Q : A → Type 0) (r : Result A E) → ((a : A) → P a → Q a) → IfOk r P → IfOk r Q
ok_map P Q (Ok a) f h = f a h
ok_map P Q (Err e) f h = tt

pub err_map : {A E : Type 0} (P Q R : E → Type 0) (r : Result A E) → ((e : E) → P e → Q e → R e) → IfErr r P → IfErr r Q → IfErr r R
err_map P Q R (Ok a) f h j = tt
err_map P Q R (Err e) f h j = f e h j

-- it is this page that is not to be had
of_page : (x : Shape) (path : List ℕ) (w : View) (k : Provider) (page : ℕ) (s : Story) (u : View) (is : Provider) (why : Refusal) → FaultCause x path w k page s u is why → IsOfPage page why
of_page x path w k page s u is (refusal.Damaged p counts other) c = c.0
of_page x path w k page s u is (refusal.Altered p) c = c.0
of_page x path w k page s u is _ c = tt

pub which_if : (x : Shape) (path : List ℕ) (w : View) (k : Provider) (page : ℕ) (s : Story) (u : View) (is : Provider) (r : Result ℕ Refusal) → IfErr r (FaultCause x path w k page s u is) → IfErr r (IsOfPage page)
which_if x path w k page s u is (Ok frame) c = tt
which_if x path w k page s u is (Err why) c = of_page x path w k page s u is why c
