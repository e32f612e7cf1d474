-- Each event keeps pages where they may be.
use Rattle.map_model.specs.Lists.{upd}
use Rattle.map_model.specs.Maps.{MapAnswer}
use Rattle.core_commit.specs.image_model.Entries.{Kind, Entry, Contents, touches, written}
use Rattle.page_model.specs.Pairs.{Pair}
use Rattle.page_model.specs.Nodes.{Node}
use Rattle.page_model.specs.Tree.{IsTree}
use Rattle.page_model.specs.Records.{Record}
use Rattle.page_model.specs.Check.{names_page}
use Rattle.page_model.specs.Needs as record_needs
use Rattle.page_model.proofs.Tree.{child_page}
use Rattle.core_commit.specs.core_state.Lists.{all_below, times, without, at_end}
use Rattle.core_commit.specs.core_state.States.{Place, State, start, nodes_of, gsns_of, is_hot, is_cooling, is_cold, in_frame, frame_of, waits_for, left_by}
use Rattle.core_commit.specs.core_state.Openings.{Opening}
use Rattle.core_commit.specs.core_state.States.Place.{Hot, Cooling, Cold}
use Rattle.core_commit.specs.core_state.Events.{Event}
use Rattle.core_commit.specs.core_state.Needs.{are_hot, pages_of, has_hot_parent, has_hot_child, is_empty_frame, is_dirty, is_inside, needs}
use Rattle.core_commit.specs.core_state.Steps.{at_pages, page_entry, write_entry, moves, put_back, follows, happens}
use Rattle.map_model.proofs.ListLemmas.{upd_other}
use Rattle.core_commit.proofs.Events.{names_to}
use Rattle.core_commit.proofs.Copies.{at_place as at_upd, loaded, above_pages}
use Rattle.core_commit.proofs.Fetched.{fetch_is, fetch_names}
use Rattle.core_commit.proofs.Runs.{Good}
use Rattle.core_paging.specs.Paging.{one_if}
use Rattle.core_paging.proofs.Places.{below, times_end, times_gone, times_kept, hot_not_cold, hot_not_cooling, cooling_not_cold, cold_not_cooling, left_hot, left_cooling, left_frame, own_frame}
use Rattle.std.proofs.Common.{◌≡◌, ◌<◌, ℕ, suc, Bool, true, false, cond, ◌&&◌, ◌||◌, not, ltb, ◌==◌, List, [], ◌∷◌, ◌⊎◌, refl, sym, ap, ◌∙◌, subst, inl, inr, arith, true≢false}
use Rattle.std.proofs.lemmas.Bool.{eq-eqb, ne_eqb, eqb-true, and_parts, and_from, or_cases, ltb-true, not-true}

pub record Placed (g : Opening) (node : ℕ → Node) (place : ℕ → Place) (waiting : List ℕ) : Type 0 where
  pub one : (p q f : ℕ) → in_frame (place p) f ≡ true → in_frame (place q) f ≡ true → p ≡ q
  pub within : (p f : ℕ) → in_frame (place p) f ≡ true → (p < g.format.pages) × (f < g.frames)
  pub root : place 0 ≡ Hot 0
  pub parent : (q p : ℕ) → q < g.format.pages → names_page (node q) p ≡ true → is_hot (place p) ≡ true → is_hot (place q) ≡ true
  pub queue : (p : ℕ) → times p waiting ≡ one_if (is_cooling (place p))

abbrev pub PlacedIn : Opening → State → Type 0
PlacedIn g s = Placed g (nodes_of s) s.place s.queue

-- ## Children

-- a named page is one that there is, and not the root
pub named_below : (g : Opening) (node : ℕ → Node) → IsTree g.format node → (q p : ℕ) → q < g.format.pages → names_page (node q) p ≡ true → (0 < p) × (p < g.format.pages)
named_below g node t q p l h =
    let z = names_to (node q) p h in
    let c = child_page g.format node t q z.0 l z.1 in
    (subst (λ (i : ℕ). 0 < i) z.2 (let a = c.0 in omega arith), subst (λ (i : ℕ). i < g.format.pages) z.2 c.1)

-- ## Frames

-- no page comes into a frame
abbrev Within : (ℕ → Place) → (ℕ → Place) → Type 0
Within new old = (p f : ℕ) → in_frame (new p) f ≡ true → in_frame (old p) f ≡ true

within_upd : (place : ℕ → Place) (p : ℕ) (x : Place) → ((f : ℕ) → in_frame x f ≡ true → in_frame (place p) f ≡ true) → Within (upd place p x) place
within_upd place p x h j f = at_upd (λ j y. in_frame y f ≡ true → in_frame (place j) f ≡ true) place p x j (λ e q. ap (λ (i : ℕ). in_frame (place i) f) e ∙ h f q) (λ _ q. q)

-- ## Records

-- a record's pages are hot
pub placed_records : (g : Opening) (s : State) → PlacedIn g s → (x : Entry) → ((p : ℕ) → touches p x ≡ true → is_hot (s.place p) ≡ true) →
    Placed g (λ p. (cond (touches p x) (written x p (s.page p)) (s.page p)).node) s.place s.queue
placed_records g s k x h = record { one = k.one; within = k.within; root = k.root; parent = parent; queue = k.queue }
  where
    parent : (q p : ℕ) → q < g.format.pages → names_page (cond (touches q x) (written x q (s.page q)) (s.page q)).node p ≡ true → is_hot (s.place p) ≡ true → is_hot (s.place q) ≡ true
    parent q p l = go (touches q x) refl
      where
        go : (b : Bool) → touches q x ≡ b → names_page (cond b (written x q (s.page q)) (s.page q)).node p ≡ true → is_hot (s.place p) ≡ true → is_hot (s.place q) ≡ true
        go true t n r = h q t
        go false t n r = k.parent q p l n r

-- ## Hot parents

parent_hot : (g : Opening) (s : State) (p : ℕ) → has_hot_parent g s p ≡ true → (q : ℕ) → q < g.format.pages → names_page (nodes_of s q) p ≡ true → is_hot (s.place q) ≡ true
parent_hot g s p h q l k =
    elim (or_cases (not (names_page (nodes_of s q) p)) (is_hot (s.place q)) (below g.format.pages (λ q. not (names_page (nodes_of s q) p) || is_hot (s.place q)) h q l)) [
      | inl n ↦ absurd (true≢false (sym k ∙ not-true (names_page (nodes_of s q) p) n))
      | inr t ↦ t
    ]

no_hot_child : (g : Opening) (s : State) → IsTree g.format (nodes_of s) → (p : ℕ) → p < g.format.pages → not (has_hot_child g s p) ≡ true → (c : ℕ) → names_page (nodes_of s p) c ≡ true → is_hot (s.place c) ≡ true → ⊥
no_hot_child g s tr p l h c k t =
    let a = twice (all_below g.format.pages (λ c. not (names_page (nodes_of s p) c && is_hot (s.place c)))) h in
    let b = not-true (names_page (nodes_of s p) c && is_hot (s.place c)) (below g.format.pages (λ c. not (names_page (nodes_of s p) c && is_hot (s.place c))) a c (named_below g (nodes_of s) tr p c l k).1) in
    true≢false (sym (and_from (names_page (nodes_of s p) c) (is_hot (s.place c)) k t) ∙ b)
  where
    twice : (b : Bool) → not (not b) ≡ true → b ≡ true
    twice true e = refl
    twice false e = e

-- page p becomes hot, and so is its parent
hot_parents : (g : Opening) (s : State) (p f : ℕ) → PlacedIn g s → has_hot_parent g s p ≡ true → (q c : ℕ) → q < g.format.pages → names_page (nodes_of s q) c ≡ true → is_hot (upd s.place p (Hot f) c) ≡ true → is_hot (upd s.place p (Hot f) q) ≡ true
hot_parents g s p f i h q c l k = at_upd (λ j x. names_page (nodes_of s q) j ≡ true → is_hot x ≡ true → is_hot (upd s.place p (Hot f) q) ≡ true) s.place p (Hot f) c
    (λ e k _. hotter (parent_hot g s p h q l (ap (λ (j : ℕ). names_page (nodes_of s q) j) (sym e) ∙ k)))
    (λ _ k t. hotter (i.parent q c l k t)) k
  where
    hotter : is_hot (s.place q) ≡ true → is_hot (upd s.place p (Hot f) q) ≡ true
    hotter t = at_upd (λ j x. is_hot (s.place j) ≡ true → is_hot x ≡ true) s.place p (Hot f) q (λ _ _. refl) (λ _ b. b) t

-- page p, which is not hot, or has no hot child, is not hot from then on
cool_parents : (g : Opening) (s : State) (p : ℕ) (x : Place) → PlacedIn g s → is_hot x ≡ false → (p < g.format.pages → (c : ℕ) → names_page (nodes_of s p) c ≡ true → is_hot (s.place c) ≡ true → ⊥) →
    (q c : ℕ) → q < g.format.pages → names_page (nodes_of s q) c ≡ true → is_hot (upd s.place p x c) ≡ true → is_hot (upd s.place p x q) ≡ true
cool_parents g s p x i cold none q c l k = at_upd (λ j y. names_page (nodes_of s q) j ≡ true → is_hot y ≡ true → is_hot (upd s.place p x q) ≡ true) s.place p x c
    (λ _ _ t. absurd (true≢false (sym t ∙ cold)))
    (λ _ k t. ap is_hot (upd_other s.place p x q (λ z. none (subst (λ (j : ℕ). j < g.format.pages) z l) c (ap (λ (j : ℕ). names_page (nodes_of s j) c) (sym z) ∙ k) t)) ∙ i.parent q c l k t) k

-- ## The queue

-- p comes in, or goes
queue_in : (s : State) (p : ℕ) (x : Place) → ((c : ℕ) → times c s.queue ≡ one_if (is_cooling (s.place c))) → is_cooling (s.place p) ≡ false → is_cooling x ≡ true → (c : ℕ) → times c (at_end s.queue p) ≡ one_if (is_cooling (upd s.place p x c))
queue_in s p x h was now c = at_upd (λ j y. times j (at_end s.queue p) ≡ one_if (is_cooling y)) s.place p x c
    (λ e. let t = times_end c p s.queue in let a = h c ∙ ap one_if (ap (λ (j : ℕ). is_cooling (s.place j)) e ∙ was) in let b = ap one_if (eq-eqb p c (sym e)) in (omega arith) ∙ sym (ap one_if now))
    (λ n. let t = times_end c p s.queue in let a = ap one_if (ne_eqb p c (λ z. n (sym z))) in let b = h c in (omega arith))

queue_out : (s : State) (p : ℕ) (x : Place) → ((c : ℕ) → times c s.queue ≡ one_if (is_cooling (s.place c))) → is_cooling x ≡ false → (c : ℕ) → times c (without p s.queue) ≡ one_if (is_cooling (upd s.place p x c))
queue_out s p x h now c = at_upd (λ j y. times j (without p s.queue) ≡ one_if (is_cooling y)) s.place p x c
    (λ e. ap (λ (j : ℕ). times j (without p s.queue)) e ∙ (times_gone p s.queue ∙ sym (ap one_if now)))
    (λ n. times_kept c p s.queue n ∙ h c)

-- ## The events

-- not page 0
not_root : (s : State) (p : ℕ) → s.place 0 ≡ Hot 0 → is_hot (s.place p) ≡ false → 0 ≡ p → ⊥
not_root s p r h e = true≢false (sym (ap is_hot r) ∙ (ap (λ (j : ℕ). is_hot (s.place j)) e ∙ h))

pub cold_not_hot : (x : Place) → is_cold x ≡ true → is_hot x ≡ false
cold_not_hot (Hot f) h = absurd (true≢false (sym h))
cold_not_hot (Cooling f e v) h = refl
cold_not_hot Cold h = refl

pub cooling_not_hot : (x : Place) → is_cooling x ≡ true → is_hot x ≡ false
cooling_not_hot (Hot f) h = absurd (true≢false (sym h))
cooling_not_hot (Cooling f e v) h = refl
cooling_not_hot Cold h = refl

-- a leaf names no page, whatever it is read with
placed_fetch : (g : Opening) (s : State) → Good g s → PlacedIn g s → (p : ℕ) (pairs : List Pair) → needs g s (Event.Fetch p pairs) ≡ true → PlacedIn g (happens g s (Event.Fetch p pairs))
placed_fetch g s good i p pairs m = record {
  one = i.one;
  within = i.within;
  root = i.root;
  parent = λ q c l k h. i.parent q c l (sym (fetch_names g s good.copied p pairs (fetch_is g s p pairs m) q c) ∙ k) h;
  queue = i.queue;
}

placed_load : (g : Opening) (s : State) → Good g s → PlacedIn g s → (p f : ℕ) → needs g s (Event.Load p f) ≡ true → PlacedIn g (happens g s (Event.Load p f))
placed_load g s good i p f m = record {
  one = one;
  within = λ a j h. elim (which a j h) [ inl e ↦ (subst (λ z. z < g.format.pages) (sym e.0) (ltb-true p g.format.pages m1.0), subst (λ z. z < g.frames) (sym e.1) (ltb-true f g.frames m2.0)) | inr o ↦ i.within a j o ];
  root = upd_other s.place p (Hot f) 0 (not_root s p i.root (cold_not_hot (s.place p) m3.0)) ∙ i.root;
  parent = λ q c l k. hot_parents g s p f i m4.0 q c l (sym (ap (λ (v : Contents). names_page v.node c) (loaded s.page s.saved s.place good.copied p m3.0 q)) ∙ k);
  queue = queue;
}
  where
    m1 : (ltb p g.format.pages ≡ true) × ((ltb f g.frames && (is_cold (s.place p) && (has_hot_parent g s p && is_empty_frame g s f))) ≡ true)
    m1 = and_parts (ltb p g.format.pages) (ltb f g.frames && (is_cold (s.place p) && (has_hot_parent g s p && is_empty_frame g s f))) m

    m2 : (ltb f g.frames ≡ true) × ((is_cold (s.place p) && (has_hot_parent g s p && is_empty_frame g s f)) ≡ true)
    m2 = and_parts (ltb f g.frames) (is_cold (s.place p) && (has_hot_parent g s p && is_empty_frame g s f)) m1.1

    m3 : (is_cold (s.place p) ≡ true) × ((has_hot_parent g s p && is_empty_frame g s f) ≡ true)
    m3 = and_parts (is_cold (s.place p)) (has_hot_parent g s p && is_empty_frame g s f) m2.1

    m4 : (has_hot_parent g s p ≡ true) × (is_empty_frame g s f ≡ true)
    m4 = and_parts (has_hot_parent g s p) (is_empty_frame g s f) m3.1

    -- it is p's, or was one before
    which : (a j : ℕ) → in_frame (upd s.place p (Hot f) a) j ≡ true → ((a ≡ p) × (j ≡ f)) ⊎ (in_frame (s.place a) j ≡ true)
    which a j = at_upd (λ a x. in_frame x j ≡ true → ((a ≡ p) × (j ≡ f)) ⊎ (in_frame (s.place a) j ≡ true)) s.place p (Hot f) a (λ e h. inl (e, sym (eqb-true f j h))) (λ _ h. inr h)

    full : (a j : ℕ) → j ≡ f → in_frame (s.place a) j ≡ true → ⊥
    full a j e h =
        let hf : in_frame (s.place a) f ≡ true = ap (λ (z : ℕ). in_frame (s.place a) z) (sym e) ∙ h in
        true≢false (sym hf ∙ not-true (in_frame (s.place a) f) (below g.format.pages (λ q. not (in_frame (s.place q) f)) m4.1 a (i.within a f hf).0))

    one : (a b j : ℕ) → in_frame (upd s.place p (Hot f) a) j ≡ true → in_frame (upd s.place p (Hot f) b) j ≡ true → a ≡ b
    one a b j ha hb = go (which a j ha) (which b j hb)
      where
        go : ((a ≡ p) × (j ≡ f)) ⊎ (in_frame (s.place a) j ≡ true) → ((b ≡ p) × (j ≡ f)) ⊎ (in_frame (s.place b) j ≡ true) → a ≡ b
        go (inl x) (inl y) = x.0 ∙ sym y.0
        go (inl x) (inr y) = absurd (full b j x.1 y)
        go (inr x) (inl y) = absurd (full a j y.1 x)
        go (inr x) (inr y) = i.one a b j x y

    queue : (c : ℕ) → times c s.queue ≡ one_if (is_cooling (upd s.place p (Hot f) c))
    queue c = at_upd (λ j x. times j s.queue ≡ one_if (is_cooling x)) s.place p (Hot f) c (λ e. i.queue c ∙ ap one_if (ap (λ (j : ℕ). is_cooling (s.place j)) e ∙ cold_not_cooling (s.place p) m3.0)) (λ _. i.queue c)

placed_cool : (g : Opening) (s : State) → IsTree g.format (nodes_of s) → PlacedIn g s → (p : ℕ) → is_hot (s.place p) ≡ true → needs g s (Event.Cool p) ≡ true → PlacedIn g (happens g s (Event.Cool p))
placed_cool g s tr i p hot m = record {
  one = λ a b f ha hb. i.one a b f (less a f ha) (less b f hb);
  within = λ a f h. i.within a f (less a f h);
  root = upd_other s.place p x 0 (λ z. true≢false (sym (eq-eqb p 0 (sym z)) ∙ not-true (p == 0) m1.0)) ∙ i.root;
  parent = cool_parents g s p x i refl (λ l. no_hot_child g s tr p l m1.1);
  queue = queue_in s p x i.queue (hot_not_cooling (s.place p) hot) refl;
}
  where
    x : Place
    x = Cooling (frame_of (s.place p)) s.epoch (λ w. is_inside (s.inside w))

    m1 : (not (p == 0) ≡ true) × (not (has_hot_child g s p) ≡ true)
    m1 = and_parts (not (p == 0)) (not (has_hot_child g s p)) m

    less : Within (upd s.place p x) s.place
    less = within_upd s.place p x (λ f h. sym (own_frame (s.place p) f (hot_not_cold (s.place p) hot)) ∙ h)

placed_rescue : (g : Opening) (s : State) → PlacedIn g s → (p : ℕ) → needs g s (Event.Rescue p) ≡ true → PlacedIn g (happens g s (Event.Rescue p))
placed_rescue g s i p m = record {
  one = λ a b f ha hb. i.one a b f (less a f ha) (less b f hb);
  within = λ a f h. i.within a f (less a f h);
  root = upd_other s.place p x 0 (not_root s p i.root (cooling_not_hot (s.place p) m1.0)) ∙ i.root;
  parent = hot_parents g s p (frame_of (s.place p)) i m1.1;
  queue = queue_out s p x i.queue refl;
}
  where
    x : Place
    x = Hot (frame_of (s.place p))

    m1 : (is_cooling (s.place p) ≡ true) × (has_hot_parent g s p ≡ true)
    m1 = and_parts (is_cooling (s.place p)) (has_hot_parent g s p) m

    less : Within (upd s.place p x) s.place
    less = within_upd s.place p x (λ f h. sym (own_frame (s.place p) f (cooling_not_cold (s.place p) m1.0)) ∙ h)

placed_evict : (g : Opening) (s : State) → PlacedIn g s → (p : ℕ) → is_cooling (s.place p) ≡ true → PlacedIn g (happens g s (Event.Evict p))
placed_evict g s i p c = record {
  one = λ a b f ha hb. i.one a b f (less a f ha) (less b f hb);
  within = λ a f h. i.within a f (less a f h);
  root = upd_other s.place p Cold 0 (not_root s p i.root not_hot) ∙ i.root;
  parent = cool_parents g s p Cold i refl (λ l c k t. true≢false (sym (i.parent p c l k t) ∙ not_hot));
  queue = queue_out s p Cold i.queue refl;
}
  where
    not_hot : is_hot (s.place p) ≡ false
    not_hot = cooling_not_hot (s.place p) c

    less : Within (upd s.place p Cold) s.place
    less = within_upd s.place p Cold (λ f h. absurd (true≢false (sym h)))

placed_leave : (g : Opening) (s : State) → PlacedIn g s → (w : ℕ) → PlacedIn g (happens g s (Event.Leave w))
placed_leave g s i w = record {
  one = λ a b f ha hb. i.one a b f (sym (left_frame w (s.place a) f) ∙ ha) (sym (left_frame w (s.place b) f) ∙ hb);
  within = λ a f h. i.within a f (sym (left_frame w (s.place a) f) ∙ h);
  root = ap (left_by w) i.root;
  parent = λ q c l k h. left_hot w (s.place q) ∙ i.parent q c l k (sym (left_hot w (s.place c)) ∙ h);
  queue = λ c. i.queue c ∙ sym (ap one_if (left_cooling w (s.place c)));
}

placed_moves : (g : Opening) (s : State) → Good g s → PlacedIn g s → (K : Kind) (w : ℕ) (ps : List ℕ) (y : Record) → are_hot s ps ≡ true → PlacedIn g (moves s K w ps y)
placed_moves g s good i K w ps y h = placed_records g s i x (λ p t. (above_pages g s good.inv w ps x h refl refl p t).0)
  where
    x : Entry
    x = page_entry K s w (at_pages s w (s.worker w) ps) ps y

pub evict_cooling : (g : Opening) (s : State) (p : ℕ) → needs g s (Event.Evict p) ≡ true → is_cooling (s.place p) ≡ true
evict_cooling g s p m = (and_parts (is_cooling (s.place p)) (not (is_dirty s p) && all_below (suc g.workers) (λ w. not (waits_for (s.place p) w))) m).0

pub placed_event : (g : Opening) (s : State) → Good g s → PlacedIn g s → (e : Event) → are_hot s (pages_of e) ≡ true → needs g s e ≡ true → PlacedIn g (happens g s e)
placed_event g s good i (Event.Leave w) h m = placed_leave g s i w
placed_event g s good i (Event.Next w p k a) h m = go a
  where
    go : (a : MapAnswer) → PlacedIn g (follows g s w p a)
    go (MapAnswer.Pair at word) = i
    go (MapAnswer.Gap b) = i
    go (MapAnswer.Value v) = i
    go (MapAnswer.Was v) = i
placed_event g s good i (Event.Change w p k v) h m = placed_records g s i x (λ q t. (above_pages g s good.inv w (p ∷ []) x h refl refl q t).0)
  where
    x : Entry
    x = write_entry g Kind.Change s w (at_pages s w (s.worker w) (p ∷ [])) p k v
placed_event g s good i (Event.Put_back w p) h m = go (s.worker w).changes
  where
    go : (cs : List Entry) → PlacedIn g (put_back g s w p cs)
    go [] = i
    go (c ∷ cs) = placed_records g s i x (λ q t. (above_pages g s good.inv w (p ∷ []) x h refl refl q t).0)
      where
        x : Entry
        x = write_entry g Kind.Put_back s w (at_pages s w (s.worker w) (p ∷ [])) p c.key c.before
placed_event g s good i (Event.Split w l r q j) h m = placed_moves g s good i Kind.Split w (l ∷ r ∷ q ∷ []) (record_needs.split_record (nodes_of s) (gsns_of s) l r q j) h
placed_event g s good i (Event.Lift w c) h m = placed_moves g s good i Kind.Lift w (0 ∷ c ∷ []) (record_needs.lift_record (nodes_of s) (gsns_of s) c) h
placed_event g s good i (Event.Join w l r q) h m = placed_moves g s good i Kind.Join w (l ∷ r ∷ q ∷ []) (record_needs.join_record (nodes_of s) (gsns_of s) l r q) h
placed_event g s good i (Event.Drop w c) h m = placed_moves g s good i Kind.Drop w (0 ∷ c ∷ []) (record_needs.drop_record (nodes_of s) (gsns_of s) c) h
placed_event g s good i (Event.Purge w p keys) h m = placed_moves g s good i Kind.Purge w (p ∷ []) (record_needs.purge_record (gsns_of s) p keys) h
placed_event g s good i (Event.Fetch p pairs) h m = placed_fetch g s good i p pairs m
placed_event g s good i (Event.Load p f) h m = placed_load g s good i p f m
placed_event g s good i (Event.Cool p) h m = placed_cool g s good.inv.tree i p (and_parts (is_hot (s.place p)) true h).0 m
placed_event g s good i (Event.Rescue p) h m = placed_rescue g s i p m
placed_event g s good i (Event.Evict p) h m = placed_evict g s i p (evict_cooling g s p m)
placed_event g s good i _ h m = i

pub placed_start : (g : Opening) → PlacedIn g (start g)
placed_start g = record {
  one = λ p q f a b. only p f a ∙ sym (only q f b);
  within = λ p f h. (subst (λ i. i < g.format.pages) (sym (only p f h)) g.tree.some, subst (λ i. i < g.frames) (zeroth p f h) g.some_frame);
  root = refl;
  parent = λ q p l k. parent q p l k;
  queue = λ p. at_upd (λ j x. 0 ≡ one_if (is_cooling x)) (λ _. Cold) 0 (Hot 0) p (λ _. refl) (λ _. refl);
}
  where
    only : (p f : ℕ) → in_frame (upd (λ _. Cold) 0 (Hot 0) p) f ≡ true → p ≡ 0
    only p f = at_upd (λ j x. in_frame x f ≡ true → j ≡ 0) (λ _. Cold) 0 (Hot 0) p (λ e _. e) (λ _ h. absurd (true≢false (sym h)))

    zeroth : (p f : ℕ) → in_frame (upd (λ _. Cold) 0 (Hot 0) p) f ≡ true → 0 ≡ f
    zeroth p f = at_upd (λ j x. in_frame x f ≡ true → 0 ≡ f) (λ _. Cold) 0 (Hot 0) p (λ _ h. eqb-true 0 f h) (λ _ h. absurd (true≢false (sym h)))

    parent : (q p : ℕ) → q < g.format.pages → names_page (g.node q) p ≡ true → is_hot (upd (λ _. Cold) 0 (Hot 0) p) ≡ true → is_hot (upd (λ _. Cold) 0 (Hot 0) q) ≡ true
    parent q p l k = at_upd (λ j x. names_page (g.node q) j ≡ true → is_hot x ≡ true → is_hot (upd (λ _. Cold) 0 (Hot 0) q) ≡ true) (λ _. Cold) 0 (Hot 0) p
        (λ e k _. let z = (named_below g g.node g.tree q 0 l (ap (λ (j : ℕ). names_page (g.node q) j) (sym e) ∙ k)).0 in absurd (omega arith)) (λ _ _ h. absurd (true≢false (sym h))) k
