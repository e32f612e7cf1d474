-- A page that is asked for: what the queue, the free pages and the frames tell of it, and what the call has done by then.
use Rattle.std.proofs.Common.{◌≡◌, ◌<◌, ◌||◌, ◌&&◌, not, ltb, inl, inr, ℕ, zero, suc, Bool, true, false, List, [], ◌∷◌, length, Option, Some, None, Ok, refl, sym, ap, subst, ◌∙◌, arith, true≢false}
use Rattle.std.specs.Prelude.{Result, Err, IfErr, IfOk}
use Rattle.std.proofs.lemmas.Bool.{and_from, eq-eqb, lt-ltb}
use Rattle.map_model.specs.Lists.{all}
use Rattle.page_model.specs.Check.{names_page}
use Rattle.page_model.specs.Nodes.{Node}
use Rattle.page_model.specs.Page as stored
use Rattle.page_model.specs.Page.{word_at}
use Rattle.page_model.specs.Pairs.{Pair, Span, spans}
use Rattle.page_model.specs.Pairs as pairs
use Rattle.page_model.specs.Tree.{Names, Parent}
use Rattle.page_model.proofs.Tree as page_tree
use Rattle.page_moves.proofs.Words.{is_inner_to, named_at}
use Rattle.row_image.proofs.Pages.{names_pair}
use Rattle.btree_descent.specs.core_state.Needs.{has_hot_parent}
use Rattle.btree_descent.specs.core_state.Openings.{Opening}
use Rattle.btree_descent.specs.core_state.States.{Place, State, is_cold, is_cooling, is_hot, in_frame, nodes_of}
use Rattle.btree_descent.specs.row_words.Moments.{Moment}
use Rattle.btree_descent.specs.row_words.declared.event.Event.TheVariants as told
use Rattle.btree_descent.specs.row_words.Openings.{opening}
use Rattle.btree_descent.specs.row_words.Words.{framed_page}
use Rattle.btree_descent.specs.row_words.declared.given.Given.{Given}
use Rattle.btree_descent.proofs.row_words.Stays.{below_false}
use Rattle.btree_descent.specs.rows_trait.declared.view.View.{View}
use Rattle.btree_descent.specs.rows_trait.Views.{Shape, state}
use Rattle.btree_descent.specs.rows_trait.Turns.{Ran}
use Rattle.btree_descent.proofs.rows_trait.Runs.{ran_append}
use Rattle.btree_descent.specs.Known.{Sound}
use Rattle.lean_disk.specs.Story.{IsLawful, Story}
use Rattle.btree_descent.specs.lean_proto.Still.{Stood}
use Rattle.cooling_stage.specs.declared.stage.Cooling.{Cooling}
use Rattle.cooling_stage.specs.Queue.{found}
use Rattle.free_pages.specs.Pages.{is_in}
use Rattle.page_pool.specs.Queues.{IsFound, entry_of}
use Rattle.row_image.specs.Hot.{StandsIn}
use Rattle.row_image.specs.Looks.{Watched}
use Rattle.row_image.specs.Sights.{HasNone, NamesAt}
use Rattle.page_provider.specs.declared.refusal.Refusal.{Refusal}
use Rattle.page_provider.specs.declared.refusal.Refusal.TheVariants as refusal
use Rattle.page_provider.specs.Comes.{HasCome}
use Rattle.page_provider.specs.Cools.{Idle}
use Rattle.page_provider.specs.Ends.{HasRefused}
use Rattle.page_provider.specs.Faults.{FaultCause, Faulted, HasLost, IsAstray, IsDescent, IsWanted, LeadsTo}
use Rattle.page_provider.specs.Disks.{Disked}
use Rattle.page_provider.specs.Finds.{Halts, IsNamedIn, Naming, NoneNames, Standing}
use Rattle.page_provider.specs.Gives.{Gives}
use Rattle.page_provider.specs.Inside.{Missed}
use Rattle.page_provider.specs.Laws.{DiskLaws, RowLaws}
use Rattle.page_provider.specs.Moves.{KeepsPath, Moved, way}
use Rattle.page_provider.specs.Providers.{Provider, Keeps, pool}
use Rattle.page_provider.specs.Comes.{IsUnseen}
use Rattle.page_provider.specs.Refusals.{IsOfRow, IsOthers}
use Rattle.page_provider.proofs.Easing.{eased_path, eased_stood}
use Rattle.page_provider.proofs.Joins.{met_misses}
use Rattle.page_provider.proofs.Unsaved.{misses_none, misses_quiet}
use Rattle.page_provider.proofs.Keeping.{keeps_ran, ran_stood}
use Rattle.page_provider.proofs.Moving.{halts_refused, missed_halts, moved_none, moved_then, moved_up, path_none, path_then, refused_then, refused_up, same_none}
use Rattle.page_provider.proofs.Pools.{found_entry}
use Rattle.page_provider.proofs.Standing.{core_none}
use Rattle.page_provider.proofs.Running.{disked_quiet}
use Rattle.page_provider.proofs.Shares.{needed_before, share_before}
use Rattle.page_provider.proofs.Sightings.{missed_before, state_same}
use Rattle.page_provider.proofs.Coming as coming
use Rattle.page_provider.proofs.Coming.{hot_parents, names_to}
use Rattle.page_provider.proofs.Writing.{disked_misses}

-- ## What the queue and the free pages tell

-- a page that is not hot and not in the queue is cold
pub cold_of : {z : Shape} {v : View} {k : Provider} (page : ℕ) → RowLaws → Keeps z v k → found page k.queue ≡ None → is_hot ((state v).core.place page) ≡ false → is_cold ((state v).core.place page) ≡ true
cold_of {v = v} {k = k} page laws c absent off =
    go ((state v).core.place page) (sym absent ∙ (laws.queues (opening v.given) (state v).core (pool k) (c.sound v.seen).residence c.agrees).told page) off
  where
    go : (x : Place) → None ≡ entry_of page x → is_hot x ≡ false → is_cold x ≡ true
    go (Place.Hot f) t h = absurd (true≢false h)
    go (Place.Cooling f e w) t h = absurd (cc)
    go Place.Cold t h = refl

-- neither a node nor hot
pub free_of : {z : Shape} {v : View} {k : Provider} {page : ℕ} → Keeps z v k → page < (opening v.given).format.pages → is_in k.free page ≡ true → (((state v).core.page page).node.live ≡ false) × (is_hot ((state v).core.place page) ≡ false)
free_of {v = v} {page = page} c below free = both ((state v).core.page page).node.live (is_hot ((state v).core.place page)) (sym free ∙ c.agrees.free page below)
  where
    both : (a b : Bool) → true ≡ (not a && not b) → (a ≡ false) × (b ≡ false)
    both true b h = absurd (true≢false h)
    both false true h = absurd (true≢false h)
    both false false h = (refl, refl)

-- a node, if it is not hot
pub used_of : {z : Shape} {v : View} {k : Provider} {page : ℕ} → Keeps z v k → page < (opening v.given).format.pages → is_in k.free page ≡ false → is_hot ((state v).core.place page) ≡ false → ((state v).core.page page).node.live ≡ true
used_of {v = v} {page = page} c below used off = one ((state v).core.page page).node.live (is_hot ((state v).core.place page)) (sym used ∙ c.agrees.free page below) off
  where
    one : (a b : Bool) → false ≡ (not a && not b) → b ≡ false → a ≡ true
    one true b h k = refl
    one false true h k = absurd (true≢false k)
    one false false h k = absurd (true≢false (sym h))

-- ## Hot parents

-- each page that names it is hot
pub parent_hot : (g : Opening) (s : State) (p q : ℕ) → has_hot_parent g s p ≡ true → q < g.format.pages → names_page (s.page q).node p ≡ true → is_hot (s.place q) ≡ true
parent_hot g s p q h l n = go (names_page (s.page q).node p) n (below_false g.format.pages (λ q. not (names_page (s.page q).node p) || is_hot (s.place q)) h q l)
  where
    go : (b : Bool) → b ≡ true → (not b || is_hot (s.place q)) ≡ true → is_hot (s.place q) ≡ true
    go true e k = k
    go false e k = absurd (true≢false (sym e))

-- no page names a free one
pub parents_free : {g : Given} {m : Moment} {p : ℕ} → Sound g m → (m.core.page p).node.live ≡ false → has_hot_parent (opening g) m.core p ≡ true
parents_free {g = g} {m = m} {p = p} s free = coming.free_parents (opening g) m.core p s.tree free

-- the one page that names it is hot
pub parents_named : {g : Given} {m : Moment} {p q at : ℕ} → Sound g m → q < (opening g).format.pages → is_hot (m.core.place q) ≡ true → NamesAt m q at p → has_hot_parent (opening g) m.core p ≡ true
parents_named {g = g} {m = m} {p = p} {q = q} {at = at} s lt hot n = hot_parents (opening g) m.core p (λ o l is.
    let t = names_to (m.core.page o).node p is in
    let x = named_at (m.core.page q).node.pairs (m.core.page q).node.high at n.short in
    let inner = is_inner_to (m.core.page q).node n.inner in
    let one = page_tree.only (opening g).format (nodes_of m.core) s.tree q o x.span t.0 lt l (record { live = inner.0; inner = inner.1; has = x.has }) t.1 (x.child ∙ (n.names ∙ sym t.2)) in
    subst (λ i. is_hot (m.core.place i) ≡ true) one.0 hot)

-- where the pair of a node in a frame has the number of a page, that page is not hot, and the node is its parent
pub record IsNamed (g : Given) (m : Moment) (page : ℕ) : Type 0 where
  pub off : is_hot (m.core.place page) ≡ false
  pub parent : has_hot_parent (opening g) m.core page ≡ true

pub named : {u : View} {page row : ℕ} → RowLaws → Sound u.given (state u) → page < (opening u.given).format.pages → IsNamedIn row page u → IsNamed u.given (state u) page
named {u = u} {page = page} {row = row} laws sound below h =
    let few = sound.few in
    let o = (laws.pairs u.given (state u) row h.node sound h.stands).cold h.at page h.pair.inner h.pair.short h.pair.word_is (omega arith) in
    record { off = o.1; parent = parents_named sound h.stands.stands.below (ap is_hot h.stands.stands.hot) o.0 }

-- ## No hot parent

index : (xs : List Pair) (high : ℕ) (s : Span) → pairs.Has s (spans xs high) → (at : ℕ) × (at < length xs) × (word_at at xs ≡ s.child)
index [] high s h = absurd h
index (x ∷ xs) high s (inl e) = (0, omega arith, ap (λ (t : Span). t.child) (sym e))
index (x ∷ xs) high s (inr h) = let o = index xs high s h in let lt = o.1 in (suc o.0, omega arith, o.2)

names_by : (n : Node) (s : Span) (p : ℕ) → Names n s → s.child ≡ p → names_page n p ≡ true
names_by n s p h e =
    let o = index n.pairs n.high s h.has in
    let x = at_pair n.pairs o.0 o.1 in
    subst (λ i. names_page n i ≡ true) (x.2 ∙ (o.2 ∙ e)) (names_pair n x.0 h.live h.inner x.1)
  where
    at_pair : (xs : List Pair) (at : ℕ) → at < length xs → (x : Pair) × pairs.Has x xs × (x.word ≡ word_at at xs)
    at_pair [] at lt = absurd (omega arith)
    at_pair (x ∷ xs) zero lt = (x, inl refl, refl)
    at_pair (x ∷ xs) (suc at) lt = let o = at_pair xs at (omega arith) in (o.0, inr o.1, o.2)

hot_frame : (x : Place) → is_hot x ≡ true → (f : ℕ) × (x ≡ Place.Hot f)
hot_frame (Place.Hot f) h = (f, refl)
hot_frame (Place.Cooling f e w) h = absurd (true≢false (sym h))
hot_frame Place.Cold h = absurd (true≢false (sym h))

-- no node in a frame names a page that is a node and not hot: so its parent is not hot
pub unnamed : (v : View) {page frames : ℕ} → RowLaws → Sound v.given (state v) → frames ≡ (opening v.given).frames → page < (opening v.given).format.pages → ((state v).core.page page).node.live ≡ true → is_hot ((state v).core.place page) ≡ false → NoneNames frames page v
    → has_hot_parent (opening v.given) (state v).core page ≡ false
unnamed v {page = page} {frames = frames} laws sound all below live off none = go (has_hot_parent (opening v.given) (state v).core page) refl
  where
    s : State
    s = (state v).core

    other : page ≡ 0 → ⊥
    other e = true≢false (sym (ap is_hot (ap s.place e ∙ sound.residence.root)) ∙ off)

    up : Parent (opening v.given).format (nodes_of s) page
    up = sound.tree.up page below live other

    contra : has_hot_parent (opening v.given) s page ≡ true → ⊥
    contra h =
        let q = up.page in
        let n : stored.Page = framed_page s q 0 in
        let is = names_by (s.page q).node up.span page up.names up.child in
        let f = hot_frame (s.place q) (parent_hot (opening v.given) s page q h up.below is) in
        let lt : f.0 < (opening v.given).frames = (sound.residence.within q f.0 (ap (λ x. in_frame x f.0) f.1 ∙ eq-eqb f.0 f.0 refl)).1 in
        let stands : StandsIn v.given (state v) f.0 n = record { stands = record { below = up.below; hot = f.1 }; page = refl } in
        let o = index (s.page q).node.pairs (s.page q).node.high up.span up.names.has in
        let at : NamesAt (state v) q o.0 page = record { inner = and_from (s.page q).node.live (ltb 0 (s.page q).node.level) up.names.live (lt-ltb 0 (s.page q).node.level up.names.inner); short = o.1; names = o.2 ∙ up.child } in
        let w = (laws.pairs v.given (state v) f.0 n sound stands).named_cold o.0 page at off in
        none f.0 n (omega arith) stands w.0 o.0 w.1 w.2

    go : (b : Bool) → has_hot_parent (opening v.given) s page ≡ b → b ≡ false
    go true e = absurd (contra e)
    go false e = refl

-- ## Behind a look

module _ (z : Shape) {v u : View} (r : Ran z.alone v [] u) where
  moment_is : z.alone ≡ true → (P : Given → Moment → Type 0) → P v.given (state v) → P u.given (state u)
  moment_is only P h = subst (λ (x : Given × Moment). P x.0 x.1) (λ i. (sym r.given i, sym (state_same r only) i)) h

  moment_was : z.alone ≡ true → (P : Given → Moment → Type 0) → P u.given (state u) → P v.given (state v)
  moment_was only P h = subst (λ (x : Given × Moment). P x.0 x.1) (λ i. (r.given i, state_same r only i)) h

  pub descent_on : {path : List ℕ} → IsDescent z v path → IsDescent z u path
  descent_on {path} d = record {
    within = λ f h. subst (λ (g : Given). f < (opening g).frames) (sym r.given) (d.within f h);
    root = d.root;
    closed = λ only. moment_is only (λ g m. Rattle.page_pool.specs.Full.IsWay (opening g) m.core (way path m.core)) (d.closed only);
  }

  pub leads_on : (path : List ℕ) (page : ℕ) → LeadsTo z v path page → LeadsTo z u path page
  leads_on path page l = λ only. moment_is only (λ g m. (q : ℕ) → q < (opening g).format.pages → names_page (m.core.page q).node page ≡ true → is_hot (m.core.place q) ≡ true → way path m.core q ≡ true) (l only)

  pub astray_was : {page : ℕ} → z.alone ≡ true → IsAstray u page → IsAstray v page
  astray_was {page} only a = record {
    hot = moment_was only (λ g m. is_hot (m.core.place page) ≡ false) a.hot;
    live = moment_was only (λ g m. (m.core.page page).node.live ≡ true) a.live;
    parent = moment_was only (λ g m. has_hot_parent (opening g) m.core page ≡ false) a.parent;
  }

  pub astray_on : {page : ℕ} → z.alone ≡ true → IsAstray v page → IsAstray u page
  astray_on {page} only a = record {
    hot = moment_is only (λ g m. is_hot (m.core.place page) ≡ false) a.hot;
    live = moment_is only (λ g m. (m.core.page page).node.live ≡ true) a.live;
    parent = moment_is only (λ g m. has_hot_parent (opening g) m.core page ≡ false) a.parent;
  }

  page_before : z.alone ≡ true → (p : ℕ) → (state u).core.page p ≡ (state v).core.page p
  page_before alone p = ap (λ (s : State). s.page p) (core_none r alone)

  pub cause_before : (path : List ℕ) (k is : Provider) (page : ℕ) (s : Story) (w : View) (why : Refusal) → FaultCause z path u k page s w is why → FaultCause z path v k page s w is why
  cause_before path k is page s w (refusal.PoolFull on latched above held) d = record { full = d.full; cold = d.cold; others = λ alone p other. d.others alone p other ∙ page_before alone p }
  cause_before path k is page s w refusal.NoPages d = d
  cause_before path k is page s w (refusal.Damaged p counts other) d = d
  cause_before path k is page s w (refusal.Altered p) d = d
  cause_before path k is page s w _ d = tt

  module _ {k : Provider} (laws : RowLaws) (c : Keeps z v k) where
    pub stood_look : Stood v u
    stood_look = ran_stood laws.stood c tt r

    pub gives_on : {page : ℕ} {s : Story} → Gives v k page s → Gives u k page s
    gives_on {page} g = record { tells = g.tells; saved = λ y h. g.saved y h ∙ sym (stood_look.saved page) }

    pub path_look : (path : List ℕ) → KeepsPath path v u
    path_look path = eased_path v u path (eased_stood stood_look)

    pub moved_look : v.held ≡ [] → u.held ≡ v.held → Moved 0 z v k u k
    moved_look none held = record {
      events = [];
      goes = record { ran = r; held = held ∙ none; keeps = keeps_ran laws.stood laws.standing tt r c };
      pagers = tt;
      ticked = tt;
      few = omega arith;
      met = met_misses z.alone v u [] c.actor r tt;
      same = same_none;
    }

    pub refused_before : {n : ℕ} {path : List ℕ} {w : View} {is : Provider} {why : Refusal} → v.held ≡ [] → u.held ≡ v.held → HasRefused n z path u k why w is → HasRefused n z path v k why w is
    refused_before {n} {path} none held h = refused_up (omega arith) (refused_then (moved_look none held) (path_look path) refl h)

    pub faulted_before : (n : ℕ) (path : List ℕ) (page : ℕ) (w : View) (is : Provider) → v.held ≡ [] → u.held ≡ v.held → (come : Option ℕ) → Faulted n z path u k page come w is → Faulted n z path v k page come w is
    faulted_before n path page w is none held (Some f) h = record { moved = moved_up (omega arith) (moved_then (moved_look none held) h.moved); keeps = path_then path v u w (path_look path) h.keeps; hot = h.hot; broken = h.broken; needed = λ alone. needed_before r (h.needed alone); enough = λ alone cold. share_before k is r (h.enough alone (stood_look.cold page ∙ cold)); others = λ alone p other. h.others alone p other ∙ page_before alone p }
    faulted_before n path page w is none held None h =
        let off = sym (stood_look.hot page) ∙ h.hot in
        record {
          moved = moved_up (omega arith) (moved_then (moved_look none held) h.moved);
          keeps = path_then path v u w (path_look path) h.keeps;
          broken = h.broken;
          hot = off;
          live = ap (λ x. x.node.live) (sym (stood_look.page page off)) ∙ h.live;
          astray = λ only. let a = h.astray only in (astray_was only a.0, a.1);
        }

-- ## What no hot node names

hot_cold : (x : Place) → is_hot x ≡ true → is_cold x ≡ false
hot_cold (Place.Hot f) h = refl
hot_cold (Place.Cooling f e w) h = absurd (true≢false (sym h))
hot_cold Place.Cold h = absurd (true≢false (sym h))

-- no node names it, where nobody else steps, and this is where it stands
pub standing_faulted : {z : Shape} {v u : View} (w : View) {k : Provider} {page frames : ℕ} (path : List ℕ) → RowLaws → Keeps z v k → v.held ≡ [] → w.held ≡ v.held → frames ≡ k.frames → page < (opening v.given).format.pages → is_in k.free page ≡ false
    → Ran z.alone v [] u → (z.alone ≡ true → NoneNames frames page u) → (come : Option ℕ) → Standing z u page come w → Faulted 5 z path v k page come w k
standing_faulted {z = z} {v = v} {u = u} w {page = page} path laws c none held all below used r names (Some f) h =
    let t = ran_append z.alone v [] u [] w r h.0 in
    record { moved = moved_up (omega arith) (moved_look z t laws c none held); keeps = path_look z t laws c path; hot = h.1; broken = refl; needed = λ alone. record { events = []; ran = t; few = inl refl }; enough = λ alone cold. absurd (true≢false (sym cold ∙ hot_cold ((state v).core.place page) (sym ((stood_look z t laws c).hot page) ∙ ap is_hot h.1))); others = λ alone p other. page_before z t alone p }
standing_faulted {z = z} {v = v} {u = u} w {k = k} {page = page} {frames = frames} path laws c none held all below used r names None h =
    let t = ran_append z.alone v [] u [] w r h.0 in
    let off = sym ((stood_look z t laws c).hot page) ∙ h.1 in
    let live = used_of c below used off in
    record {
      moved = moved_up (omega arith) (moved_look z t laws c none held);
      keeps = path_look z t laws c path;
      broken = refl;
      hot = off;
      live = live;
      astray = λ only. (
        record {
          hot = off;
          live = live;
          parent = unnamed v laws (c.sound v.seen) (all ∙ sym c.sized.given) below live off (moment_was z r only (λ g m. (f : ℕ) (n : stored.Page) → f < frames → StandsIn g m f n → HasNone n page) (names only));
        },
        refl,
      );
    }

-- a look that was refused
pub missed_refused : {z : Shape} {v u : View} {k : Provider} {path : List ℕ} {why : Refusal} → RowLaws → Keeps z v k → v.held ≡ [] → Missed z v why u → HasRefused 5 z path v k why u k
missed_refused laws c none m = refused_up (omega arith) (halts_refused laws c none (missed_halts none m))

pub standing_ran : (z : Shape) {v w : View} (page : ℕ) (come : Option ℕ) → Standing z v page come w → Ran z.alone v [] w
standing_ran z page (Some f) h = h.0
standing_ran z page None h = h.0

module _ {z y : Shape} {v u : View} (w : View) {k : Provider} (page : ℕ) (path : List ℕ) (laws : RowLaws) (c : Keeps z v k) (none : v.held ≡ []) (same : y ≡ z) (looked : Watched z.alone v u) where
  -- the same, where no node names it
  pub settled : {frames word : ℕ} → w.held ≡ u.held → frames ≡ k.frames → word ≡ page → page < (opening v.given).format.pages → is_in k.free page ≡ false → Naming z v frames word None u → (come : Option ℕ) → Standing y u page come w → Faulted 5 z path v k page come w k
  settled {frames} held all is below used names come h =
      standing_faulted w path laws c none (held ∙ looked.held) all below used looked.ran (subst (λ n. z.alone ≡ true → NoneNames frames n u) is names.1) come (subst (λ (s : Shape). Standing s u page come w) same h)

  pub unsettled : (why : Refusal) → Missed y u why w → HasRefused 5 z path v k why w k
  unsettled why m = missed_refused laws c none (missed_before same looked m)

  pub settled_disk : {s : Story} → DiskLaws → IsLawful s → (r : Result (Option ℕ) Refusal) → IfOk r (λ come. Standing y u page come w) → IfErr r (λ why. Missed y u why w) → Disked z.alone k v k w s s
  settled_disk disk law (Ok come) a b = disked_misses disk law (ran_append z.alone v [] u [] w looked.ran (standing_ran z page come (subst (λ (s : Shape). Standing s u page come w) same a))) tt
  settled_disk disk law (Err why) a b = let m = missed_before same looked b in disked_misses disk law m.ran m.few

  -- the answer where no hot node names the page
  pub settled_astray : IsAstray v page → z.alone ≡ true → (r : Result (Option ℕ) Refusal) → IfOk r (λ come. Standing y u page come w) → IfErr r (λ why. Missed y u why w) → IfErr r IsOthers → r ≡ Ok None
  settled_astray a only (Ok (Some f)) x m o =
      let h = subst (λ (s : Shape). Standing s u page (Some f) w) same x in
      let t = ran_append z.alone v [] u [] w looked.ran h.0 in
      absurd (true≢false (sym (ap is_hot h.1) ∙ (astray_on z t only a).hot))
  settled_astray a only (Ok None) x m o = refl
  settled_astray a only (Err why) x m o = absurd ((missed_before same looked m).quiet only none o)

-- ## What a hot node names

pub named_on : {z : Shape} {v u : View} {k : Provider} {page word row : ℕ} → RowLaws → Keeps z v k → page < (opening v.given).format.pages → word ≡ page → Ran z.alone v [] u → IsNamedIn row word u → IsNamed u.given (state u) page
named_on {v = v} {u = u} {page = page} {row = row} laws c below is r h =
    named laws ((keeps_ran laws.stood laws.standing tt r c).sound u.seen) (subst (λ (g : Given). page < (opening g).format.pages) (sym r.given) below) (subst (λ n. IsNamedIn row n u) is h)

pub no_astray : (z : Shape) {v u : View} {page : ℕ} {A : Type 0} → Ran z.alone v [] u → IsNamed u.given (state u) page → z.alone ≡ true → IsAstray v page → A
no_astray z r n only a = absurd (true≢false (sym n.parent ∙ (astray_on z r only a).parent))

-- ## At the beginning

-- what the queue has of the page
pub found_at : {k now : Provider} {entry : Cooling} (page : ℕ) → k ≡ now → Some entry ≡ found page k.queue → (entry.page ≡ page) × (found entry.page now.queue ≡ Some entry)
found_at {now = now} {entry = entry} page same is =
    let here : found page now.queue ≡ Some entry = ap (λ (p : Provider). found page p.queue) (sym same) ∙ sym is in
    let e = (found_entry page now.queue entry here).page in
    (e, ap (λ n. found n now.queue) e ∙ here)

-- a free page that is not in the queue
pub free_cold : {z : Shape} {v : View} {k now : Provider} (page : ℕ) → RowLaws → k ≡ now → Keeps z v now → page < (opening v.given).format.pages → None ≡ found page k.queue → true ≡ is_in k.free page → is_cold ((state v).core.place page) ≡ true
free_cold page laws same c below absent free =
    cold_of page laws c (ap (λ (p : Provider). found page p.queue) (sym same) ∙ sym absent) (free_of c below (ap (λ (p : Provider). is_in p.free page) (sym same) ∙ sym free)).1

pub free_parents : {z : Shape} {v : View} {k now : Provider} (page : ℕ) → k ≡ now → Keeps z v now → page < (opening v.given).format.pages → true ≡ is_in k.free page → has_hot_parent (opening v.given) (state v).core page ≡ true
free_parents {v = v} page same c below free = parents_free (c.sound v.seen) (free_of c below (ap (λ (p : Provider). is_in p.free page) (sym same) ∙ sym free)).0

pub free_used : {z : Shape} {v : View} {k now : Provider} {A : Type 0} (page : ℕ) → k ≡ now → Keeps z v now → page < (opening v.given).format.pages → true ≡ is_in k.free page → IsAstray v page → A
free_used page same c below free a = absurd (true≢false (sym a.live ∙ (free_of c below (ap (λ (p : Provider). is_in p.free page) (sym same) ∙ sym free)).0))

-- a page that is hot or free, or has a hot parent where nobody else steps, comes
pub wanted_comes : {z : Shape} {v u : View} {k is : Provider} {path : List ℕ} {page n : ℕ} → IsWanted z v page → HasLost n z path v k page u is → ⊥
wanted_comes w h = elim w.at_hand [
  | inl hot ↦ true≢false (sym hot ∙ h.hot)
  | inr rest ↦ elim rest [
    | inl free ↦ true≢false (sym h.live ∙ free)
    | inr p ↦ true≢false (sym p.1 ∙ (h.astray p.0).0.parent)
  ]
]

-- ## Refusals

or_off : (b : Bool) → b ≡ (b || false)
or_off true = refl
or_off false = refl

-- an earlier call had failed
pub broken_refused : {z : Shape} {v : View} {k : Provider} (path : List ℕ) → Keeps z v k → v.held ≡ [] → k.broken ≡ true → HasRefused 5 z path v k refusal.Broken v k
broken_refused {z = z} {v = v} {k = k} path c none well = record {
  moved = moved_up (omega arith) (moved_none c none);
  keeps = path_none path v;
  broken = or_off k.broken;
  cause = tt;
  quiet = λ alone o. o;
  earlier = λ e. well;
}

-- the disk does not see a part of the call
pub quiet_disk : {alone : Bool} {v u : View} {k is : Provider} {s : Story} → DiskLaws → IsLawful s → IsUnseen alone v k u is → Disked alone k v is u s s
quiet_disk disk law q = disked_quiet disk law q.ran q.quiet q.slots q.generation

pub row_cause : (z : Shape) (path : List ℕ) (v : View) (k is : Provider) (page : ℕ) (s : Story) (u : View) (why : Refusal) → IsOfRow why → FaultCause z path v k page s u is why
row_cause z path v k is page s u (refusal.Moved m) o = tt
row_cause z path v k is page s u (refusal.Latched l) o = tt
row_cause z path v k is page s u (refusal.RowSpent row) o = tt
row_cause z path v k is page s u _ o = absurd o

-- so the device did not fail
pub row_calm : {A : Type 0} (r : Result A Refusal) → IfErr r IsOfRow → r ≡ Err refusal.DiskFault → ⊥
row_calm r k e = subst (λ q. IfErr q IsOfRow) e k

pub others_row : (why : Refusal) → IsOthers why → IsOfRow why
others_row (refusal.Moved m) o = tt
others_row (refusal.Latched l) o = tt
others_row _ o = absurd o

-- ## A page of the queue

cool_off : (x : Place) → is_cooling x ≡ true → is_hot x ≡ false
cool_off (Place.Hot f) h = absurd (true≢false (sym h))
cool_off (Place.Cooling f e w) h = refl
cool_off Place.Cold h = absurd (true≢false (sym h))

module _ {z : Shape} {v : View} {now : Provider} {entry : Cooling} (laws : RowLaws) (c : Keeps z v now) (there : found entry.page now.queue ≡ Some entry) where
  entry_is : IsFound (opening v.given) (state v).core entry.page entry
  entry_is = (laws.queues (opening v.given) (state v).core (pool now) (c.sound v.seen).residence c.agrees).cooling entry.page entry there

  pub entry_off : is_hot ((state v).core.place entry.page) ≡ false
  entry_off = cool_off ((state v).core.place entry.page) entry_is.cooling

  pub entry_below : entry.page < (opening v.given).format.pages
  entry_below = entry_is.below

  pub entry_marked : {k : Provider} → k ≡ now → entry.page < length k.free
  entry_marked same = let a = entry_is.below in let b = c.pages in let d = ap (λ (p : Provider). length p.free) same in omega arith

  pub entry_free : {k : Provider} → k ≡ now → true ≡ is_in k.free entry.page → ((state v).core.page entry.page).node.live ≡ false
  entry_free same free = (free_of c entry_below (ap (λ (p : Provider). is_in p.free entry.page) (sym same) ∙ sym free)).0

  pub entry_live : {k : Provider} → k ≡ now → false ≡ is_in k.free entry.page → ((state v).core.page entry.page).node.live ≡ true
  entry_live same used = used_of c entry_below (ap (λ (p : Provider). is_in p.free entry.page) (sym same) ∙ sym used) entry_off

  -- no node in a frame names it
  pub entry_lost : {u : View} {is : Provider} (path : List ℕ) → ((state v).core.page entry.page).node.live ≡ true → Idle z v now u is × (is ≡ now) × (z.alone ≡ true → has_hot_parent (opening v.given) (state v).core entry.page ≡ false) → HasLost 5 z path v now entry.page u is
  entry_lost {u} {is} path live i = record {
    moved = moved_up (omega arith) i.0.moved;
    keeps = eased_path v u path (eased_stood (ran_stood laws.stood c tt (subst (λ es. Ran z.alone v es u) i.0.events_are i.0.moved.goes.ran)));
    broken = ap (λ (p : Provider). p.broken) i.1;
    hot = entry_off;
    live = live;
    astray = λ only. (record { hot = entry_off; live = live; parent = i.2 only }, i.1);
  }

pub rescue_quiet : {z : Shape} {v u : View} {k is : Provider} {page frame : ℕ} → HasCome z (told.Rescue page) page frame v k u is → IsUnseen z.alone v k u is
rescue_quiet {page = page} h = record { events = told.Rescue page ∷ []; ran = h.goes.ran; quiet = refl; none = (refl, tt); slots = ap (λ (p : Provider). p.slots) h.memory; generation = ap (λ (p : Provider). p.generation) h.memory }

pub halts_quiet : {z : Shape} {v u : View} {k is : Provider} {n : ℕ} {why : Refusal} → is ≡ k → Halts n z v why u → IsUnseen z.alone v k u is
halts_quiet same h = record {
  events = h.stopped.missed.events;
  ran = h.stopped.missed.ran;
  quiet = misses_quiet h.stopped.missed.events h.stopped.missed.misses;
  none = misses_none h.stopped.missed.events h.stopped.missed.misses;
  slots = ap (λ (p : Provider). p.slots) same;
  generation = ap (λ (p : Provider). p.generation) same;
}

pub idle_quiet : {z : Shape} {v u : View} {k is : Provider} → Idle z v k u is → is ≡ k → IsUnseen z.alone v k u is
idle_quiet {z = z} {v = v} {u = u} i same = record { events = []; ran = subst (λ es. Ran z.alone v es u) i.events_are i.moved.goes.ran; quiet = refl; none = tt; slots = ap (λ (p : Provider). p.slots) same; generation = ap (λ (p : Provider). p.generation) same }

pub halted : {z : Shape} {v u : View} {k is : Provider} {why : Refusal} (path : List ℕ) → RowLaws → Keeps z v k → v.held ≡ [] → is ≡ k → Halts 2 z v why u → HasRefused 5 z path v k why u is
halted {z = z} {v = v} {u = u} {k = k} {why = why} path laws c none same h = subst (λ (p : Provider). HasRefused 5 z path v k why u p) (sym same) (refused_up (omega arith) (halts_refused laws c none h))
