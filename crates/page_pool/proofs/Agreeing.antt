-- What the pager knows agrees with the core behind each event.
use Rattle.std.proofs.Common.{◌≡◌, ◌≢◌, ◌<◌, ◌==◌, ◌&&◌, not, ltb, ℕ, zero, suc, Bool, true, false, List, [], ◌∷◌, ◌++◌, map, inl, inr, refl, sym, ap, subst, ◌∙◌, arith, true≢false}
use Rattle.std.specs.Prelude.{if◌then◌else◌}
use Rattle.std.proofs.lemmas.Bool.{eq-eqb, eqb-true, eqb-false, ne_eqb, cases_eq, cond-true, cond-false, ltb-true}
use Rattle.map_model.specs.Lists.{Has, upd}
use Rattle.lean_proto.specs.core_state.Lists.{all_below, at_end}
use Rattle.lean_proto.specs.core_state.Lists as core
use Rattle.lean_proto.specs.core_state.Openings.{Opening}
use Rattle.lean_proto.specs.core_state.States.{Place, State, is_hot, is_cooling, is_cold, in_frame, frame_of, epoch_of, waits_for}
use Rattle.lean_proto.specs.core_state.Events.{Event}
use Rattle.lean_proto.specs.core_state.Needs.{may, has_hot_parent, has_hot_child, is_empty_frame, is_dirty, is_inside}
use Rattle.lean_proto.specs.core_state.Steps.{happens}
use Rattle.lean_proto.specs.core_paging.Paging.{Residence}
use Rattle.lean_proto.proofs.core_paging.Places.{own_frame, framed, cooling_not_cold, hot_not_cold, hot_not_cooling, in_own}
use Rattle.lean_proto.specs.row_words.declared.given.Given.{Given}
use Rattle.lean_proto.specs.row_words.Openings.{opening}
use Rattle.lean_proto.proofs.row_words.Stays as words
use Rattle.lean_proto.specs.rows_trait.Views.{state}
use Rattle.cooling_stage.specs.declared.stage.Cooling.{Cooling}
use Rattle.cooling_stage.specs.Queue.{without}
use Rattle.page_pool.proofs.Numbers.{all_same, has_end, end_keeps, end_has, once_end, once_others, others_to, others_from}
use Rattle.page_pool.specs.Pools.{Pool, IsEntry, Agrees, after, EveryPool, EveryStanding}

-- ## Lists

abbrev page_of : Cooling → ℕ
page_of = λ x. x.page

map_end : (q : List Cooling) (x : Cooling) → map page_of (q ++ x ∷ []) ≡ at_end (map page_of q) x.page
map_end [] x = refl
map_end (y ∷ ys) x = ap (λ l. y.page ∷ l) (map_end ys x)

map_without : (p : ℕ) (q : List Cooling) → map page_of (without p q) ≡ core.without p (map page_of q)
map_without p [] = refl
map_without p (y ∷ ys) = go (map_without p ys) (y.page == p)
  where
    go : map page_of (without p ys) ≡ core.without p (map page_of ys) → (b : Bool) → map page_of (if b then without p ys else y ∷ without p ys) ≡ (if b then core.without p (map page_of ys) else y.page ∷ core.without p (map page_of ys))
    go ih true = ih
    go ih false = ap (λ l. y.page ∷ l) ih

has_without : (p : ℕ) (q : List Cooling) (x : Cooling) → Has x (without p q) → (Has x q) × (x.page ≢ p)
has_without p [] x h = absurd h
has_without p (y ∷ ys) x h = go (y.page == p) refl (λ i. has_without p ys x i) h
  where
    go : (b : Bool) → (y.page == p) ≡ b → (Has x (without p ys) → (Has x ys) × (x.page ≢ p)) → Has x (if b then without p ys else y ∷ without p ys) → (Has x (y ∷ ys)) × (x.page ≢ p)
    go true e ih h = let k = ih h in (inr k.0, k.1)
    go false e ih (inl is) = (inl is, λ z. eqb-false y.page p e (ap page_of (sym is) ∙ z))
    go false e ih (inr h) = let k = ih h in (inr k.0, k.1)

-- ## A page's place changes

module _ (g : Opening) (s t : State) (p : ℕ) (x : Place) (place_is : t.place ≡ upd s.place p x) where
  at_p : t.place p ≡ x
  at_p = ap (λ f. f p) place_is ∙ words.here s.place p x p (eq-eqb p p refl)

  other : (q : ℕ) → q ≢ p → t.place q ≡ s.place q
  other q ne = ap (λ f. f q) place_is ∙ words.kept s.place p x q (ne_eqb p q (λ e. ne (sym e)))

  -- the entries of other pages
  entry_on : (y : Cooling) → y.page ≢ p → IsEntry s y → IsEntry t y
  entry_on y ne i = let e = other y.page ne in record { frame = ap (λ z. in_frame z y.frame) e ∙ i.frame; cooling = ap is_cooling e ∙ i.cooling; epoch = ap epoch_of e ∙ i.epoch }

  -- the frames stay empty, or not, where it stays in its frame
  empty_same : ((f : ℕ) → in_frame x f ≡ in_frame (s.place p) f) → (f : ℕ) → is_empty_frame g t f ≡ is_empty_frame g s f
  empty_same same f = all_same g.format.pages (λ q. not (in_frame (t.place q) f)) (λ q. not (in_frame (s.place q) f)) (λ q l. elim (cases_eq q p) [
    | inl e ↦ ap not (subst (λ j. in_frame (t.place j) f ≡ in_frame (s.place j) f) (sym e) (ap (λ z. in_frame z f) at_p ∙ same f))
    | inr ne ↦ ap (λ z. not (in_frame z f)) (other q ne)
  ])

  free_on : (k : ℕ → Bool) (b : Bool) → ((q : ℕ) → q < g.format.pages → k q ≡ (not (s.page q).node.live && not (is_hot (s.place q)))) → ((q : ℕ) → t.page q ≡ s.page q)
      → b ≡ (not (s.page p).node.live && not (is_hot x)) → (q : ℕ) → q < g.format.pages → upd k p b q ≡ (not (t.page q).node.live && not (is_hot (t.place q)))
  free_on k b old pages is q lt = elim (cases_eq q p) [
    | inl e ↦ subst (λ j. upd k p b j ≡ (not (t.page j).node.live && not (is_hot (t.place j)))) (sym e) (words.here k p b p (eq-eqb p p refl) ∙ (is ∙ sym (λ i. not (pages p i).node.live && not (is_hot (at_p i)))))
    | inr ne ↦ words.kept k p b q (ne_eqb p q (λ e. ne (sym e))) ∙ (old q lt ∙ sym (λ i. not (pages q i).node.live && not (is_hot (other q ne i))))
  ]

  free_same : (k : ℕ → Bool) → ((q : ℕ) → q < g.format.pages → k q ≡ (not (s.page q).node.live && not (is_hot (s.place q)))) → ((q : ℕ) → t.page q ≡ s.page q)
      → is_hot x ≡ is_hot (s.place p) → (q : ℕ) → q < g.format.pages → k q ≡ (not (t.page q).node.live && not (is_hot (t.place q)))
  free_same k old pages is q lt = elim (cases_eq q p) [
    | inl e ↦ old q lt ∙ subst (λ j. (not (s.page j).node.live && not (is_hot (s.place j))) ≡ (not (t.page j).node.live && not (is_hot (t.place j)))) (sym e) (sym (λ i. not (pages p i).node.live && not ((ap is_hot at_p ∙ is) i)))
    | inr ne ↦ old q lt ∙ sym (λ i. not (pages q i).node.live && not (is_hot (other q ne i)))
  ]

-- a page in the queue is neither hot nor cold
not_this : (s : State) (y : Cooling) (p : ℕ) → IsEntry s y → is_cooling (s.place p) ≡ false → y.page ≢ p
not_this s y p i off e = true≢false (sym i.cooling ∙ (ap (λ j. is_cooling (s.place j)) e ∙ off))

off_cold : (x : Place) → is_cold x ≡ true → is_cooling x ≡ false
off_cold (Place.Hot f) h = refl
off_cold (Place.Cooling f e w) h = absurd (true≢false (sym h))
off_cold Place.Cold h = refl

out_cold : (x : Place) (f : ℕ) → is_cold x ≡ true → in_frame x f ≡ false
out_cold (Place.Hot i) f h = absurd (true≢false (sym h))
out_cold (Place.Cooling i e w) f h = absurd (true≢false (sym h))
out_cold Place.Cold f h = refl

cool_off : (x : Place) → is_cooling x ≡ true → is_hot x ≡ false
cool_off (Place.Hot f) h = absurd (true≢false (sym h))
cool_off (Place.Cooling f e w) h = refl
cool_off Place.Cold h = refl

and_false : (b : Bool) → (b && false) ≡ false
and_false true = refl
and_false false = refl

and_same : (b : Bool) → (b && true) ≡ b
and_same true = refl
and_same false = refl

empty_from : (g : Opening) (s : State) (f : ℕ) → ((q : ℕ) → q < g.format.pages → in_frame (s.place q) f ≡ false) → is_empty_frame g s f ≡ true
empty_from g s f h = go g.format.pages h
  where
    go : (n : ℕ) → ((q : ℕ) → q < n → in_frame (s.place q) f ≡ false) → all_below n (λ q. not (in_frame (s.place q) f)) ≡ true
    go zero h = refl
    go (suc n) h = Rattle.std.proofs.lemmas.Bool.and_from (not (in_frame (s.place n) f)) (all_below n (λ q. not (in_frame (s.place q) f))) (ap not (h n (omega arith))) (go n (λ q l. h q (omega arith)))

pub empty_to : (g : Opening) (s : State) (f q : ℕ) → is_empty_frame g s f ≡ true → q < g.format.pages → in_frame (s.place q) f ≡ false
empty_to g s f q h lt = words.not_true (in_frame (s.place q) f) (words.below_false g.format.pages (λ o. not (in_frame (s.place o) f)) h q lt)

-- ## The events

cools : (g : Opening) (s : State) (p : ℕ) (k : Pool) → may g s (Event.Cool p) ≡ true → Agrees g s k → Agrees g (happens g s (Event.Cool p)) (after s (Event.Cool p) k)
cools g s p k m a = record {
  queue = map_end k.queue it ∙ ap (λ l. at_end l p) a.queue;
  entries = λ y h. elim (has_end y it k.queue h) [
    | inl i ↦ entry_on g s t p x refl y (not_this s y p (a.entries y i) (hot_not_cooling (s.place p) hot)) (a.entries y i)
    | inr e ↦ subst (IsEntry t) (sym e) (record {
      frame = ap (λ z. in_frame z (frame_of (s.place p))) (at_p g s t p x refl) ∙ eq-eqb (frame_of (s.place p)) (frame_of (s.place p)) refl;
      cooling = ap is_cooling (at_p g s t p x refl);
      epoch = ap epoch_of (at_p g s t p x refl);
    })
  ];
  empty = λ f h. let o = a.empty f h in (o.0, empty_same g s t p x refl same f ∙ o.1);
  every = λ f lt e. a.every f lt (sym (empty_same g s t p x refl same f) ∙ e);
  once = a.once;
  free = free_on g s t p x refl k.free (not (s.page p).node.live) a.free (λ q. refl) (sym (and_same (not (s.page p).node.live)));
}
  where
    x : Place
    x = Place.Cooling (frame_of (s.place p)) s.epoch (λ w. is_inside (s.inside w))

    t : State
    t = happens g s (Event.Cool p)

    it : Cooling
    it = record { page = p; frame = frame_of (s.place p); epoch = s.epoch }

    hot : is_hot (s.place p) ≡ true
    hot = (words.and_true (is_hot (s.place p)) true (words.and_true (is_hot (s.place p) && true) (not (p == 0) && not (has_hot_child g s p)) m).0).0

    same : (f : ℕ) → in_frame x f ≡ in_frame (s.place p) f
    same f = own_frame (s.place p) f (hot_not_cold (s.place p) hot)

rescues : (g : Opening) (s : State) (p : ℕ) (k : Pool) → may g s (Event.Rescue p) ≡ true → Agrees g s k → Agrees g (happens g s (Event.Rescue p)) (after s (Event.Rescue p) k)
rescues g s p k m a = record {
  queue = map_without p k.queue ∙ ap (core.without p) a.queue;
  entries = λ y h. let o = has_without p k.queue y h in entry_on g s t p x refl y o.1 (a.entries y o.0);
  empty = λ f h. let o = a.empty f h in (o.0, empty_same g s t p x refl same f ∙ o.1);
  every = λ f lt e. a.every f lt (sym (empty_same g s t p x refl same f) ∙ e);
  once = a.once;
  free = free_on g s t p x refl k.free false a.free (λ q. refl) (sym (and_false (not (s.page p).node.live)));
}
  where
    x : Place
    x = Place.Hot (frame_of (s.place p))

    t : State
    t = happens g s (Event.Rescue p)

    cool : is_cooling (s.place p) ≡ true
    cool = (words.and_true (is_cooling (s.place p)) (has_hot_parent g s p) m).0

    same : (f : ℕ) → in_frame x f ≡ in_frame (s.place p) f
    same f = own_frame (s.place p) f (cooling_not_cold (s.place p) cool)

evicts : (g : Opening) (s : State) (p : ℕ) (k : Pool) → may g s (Event.Evict p) ≡ true → Residence g s → Agrees g s k → Agrees g (happens g s (Event.Evict p)) (after s (Event.Evict p) k)
evicts g s p k m r a = record {
  queue = map_without p k.queue ∙ ap (core.without p) a.queue;
  entries = λ y h. let o = has_without p k.queue y h in entry_on g s t p Place.Cold refl y o.1 (a.entries y o.0);
  empty = emptied;
  every = every;
  once = once_end k.empty (frame_of (s.place p)) a.once (λ h. true≢false (sym home ∙ empty_to g s (frame_of (s.place p)) p (a.empty (frame_of (s.place p)) h).1 (r.within p (frame_of (s.place p)) home).0));
  free = free_same g s t p Place.Cold refl k.free a.free (λ q. refl) (sym (cool_off (s.place p) cool));
}
  where
    t : State
    t = happens g s (Event.Evict p)

    cool : is_cooling (s.place p) ≡ true
    cool = (words.and_true (is_cooling (s.place p)) (not (is_dirty s p) && all_below (suc g.workers) (λ w. not (waits_for (s.place p) w))) m).0

    home : in_frame (s.place p) (frame_of (s.place p)) ≡ true
    home = in_own (s.place p) (cooling_not_cold (s.place p) cool)

    -- a page that stands in a frame behind it stood there before, and is another
    before : (q f : ℕ) → in_frame (t.place q) f ≡ true → (in_frame (s.place q) f ≡ true) × (q ≢ p)
    before q f h = elim (cases_eq q p) [
      | inl e ↦ absurd (true≢false (sym (subst (λ j. in_frame (t.place j) f ≡ true) e h) ∙ ap (λ z. in_frame z f) (at_p g s t p Place.Cold refl)))
      | inr ne ↦ (ap (λ z. in_frame z f) (sym (other g s t p Place.Cold refl q ne)) ∙ h, ne)
    ]

    still : (f : ℕ) → is_empty_frame g s f ≡ true → is_empty_frame g t f ≡ true
    still f e = empty_from g t f (λ q lt. words.cases (in_frame (t.place q) f) (λ y. absurd (true≢false (sym (before q f y).0 ∙ empty_to g s f q e lt))) (λ n. n))

    -- the frame of the page, in which no other stood
    own : is_empty_frame g t (frame_of (s.place p)) ≡ true
    own = empty_from g t (frame_of (s.place p)) (λ q lt. words.cases (in_frame (t.place q) (frame_of (s.place p))) (λ y. let b = before q (frame_of (s.place p)) y in absurd (b.1 (r.one q p (frame_of (s.place p)) b.0 home))) (λ n. n))

    emptied : (f : ℕ) → Has f (k.empty ++ frame_of (s.place p) ∷ []) → (f < g.frames) × (is_empty_frame g t f ≡ true)
    emptied f h = elim (has_end f (frame_of (s.place p)) k.empty h) [
      | inl i ↦ (let o = a.empty f i in (o.0, still f o.1))
      | inr e ↦ subst (λ j. (j < g.frames) × (is_empty_frame g t j ≡ true)) (sym e) ((r.within p (frame_of (s.place p)) home).1, own)
    ]

    every : (f : ℕ) → f < g.frames → is_empty_frame g t f ≡ true → Has f (k.empty ++ frame_of (s.place p) ∷ [])
    every f lt e = elim (cases_eq f (frame_of (s.place p))) [
      | inl is ↦ end_has f (frame_of (s.place p)) k.empty is
      | inr ne ↦ end_keeps f (frame_of (s.place p)) k.empty (a.every f lt (empty_from g s f (λ q l. words.cases (in_frame (s.place q) f)
          (λ y. elim (cases_eq q p) [
            | inl own ↦ absurd (ne (sym (framed (s.place p) f (subst (λ j. in_frame (s.place j) f ≡ true) own y))))
            | inr away ↦ absurd (true≢false (sym (ap (λ z. in_frame z f) (other g s t p Place.Cold refl q away) ∙ y) ∙ empty_to g t f q e l))
          ])
          (λ n. n))))
    ]

loads : (g : Opening) (s : State) (p f : ℕ) (k : Pool) → may g s (Event.Load p f) ≡ true → Residence g s → Agrees g s k → Agrees g (happens g s (Event.Load p f)) (after s (Event.Load p f) k)
loads g s p f k m r a = record {
  queue = a.queue;
  entries = λ y h. let i = a.entries y h in entry_on g s t p (Place.Hot f) refl y (not_this s y p i (off_cold (s.place p) cold)) i;
  empty = λ i h.
      let o = others_to f k.empty i h in
      let w = a.empty i o.0 in (
        w.0,
        empty_from g t i (λ q lt. elim (cases_eq q p) [
          | inl e ↦ subst (λ j. in_frame (t.place j) i ≡ false) (sym e) (ap (λ z. in_frame z i) (at_p g s t p (Place.Hot f) refl) ∙ ne_eqb f i (λ z. o.1 (sym z)))
          | inr ne ↦ ap (λ z. in_frame z i) (other g s t p (Place.Hot f) refl q ne) ∙ empty_to g s i q w.1 lt
        ]),
      );
  every = λ i lt e.
      let ne : i ≢ f = λ z. true≢false (sym (ap (λ y. in_frame y f) (at_p g s t p (Place.Hot f) refl) ∙ eq-eqb f f refl) ∙ empty_to g t f p (subst (λ j. is_empty_frame g t j ≡ true) z e) below) in
      others_from f k.empty i (a.every i lt (empty_from g s i (λ q l. elim (cases_eq q p) [
        | inl own ↦ subst (λ j. in_frame (s.place j) i ≡ false) (sym own) (out_cold (s.place p) i cold)
        | inr away ↦ ap (λ z. in_frame z i) (sym (other g s t p (Place.Hot f) refl q away)) ∙ empty_to g t i q e l
      ]))) ne;
  once = once_others f k.empty a.once;
  free = free_on g s t p (Place.Hot f) refl k.free false a.free pages (sym (and_false (not (s.page p).node.live)));
}
  where
    t : State
    t = happens g s (Event.Load p f)

    parts : (p < g.format.pages) × (is_cold (s.place p) ≡ true)
    parts =
        let x = words.and_true (ltb p g.format.pages) (ltb f g.frames && (is_cold (s.place p) && (has_hot_parent g s p && is_empty_frame g s f))) m in
        let y = words.and_true (ltb f g.frames) (is_cold (s.place p) && (has_hot_parent g s p && is_empty_frame g s f)) x.1 in
        (ltb-true p g.format.pages x.0, (words.and_true (is_cold (s.place p)) (has_hot_parent g s p && is_empty_frame g s f) y.1).0)

    below : p < g.format.pages
    below = parts.0

    cold : is_cold (s.place p) ≡ true
    cold = parts.1

    pages : (q : ℕ) → t.page q ≡ s.page q
    pages q = words.cases (p == q)
        (λ y. words.here s.page p (s.saved p) q y ∙ (sym (r.cold p cold) ∙ ap s.page (eqb-true p q y)))
        (λ n. words.kept s.page p (s.saved p) q n)

same_places : (g : Opening) (s t : State) (k : Pool) → t.place ≡ s.place → t.page ≡ s.page → t.queue ≡ s.queue → Agrees g s k → Agrees g t k
same_places g s t k e d q a = record {
  queue = a.queue ∙ sym q;
  entries = λ y h. let i = a.entries y h in record { frame = ap (λ z. in_frame (z y.page) y.frame) e ∙ i.frame; cooling = ap (λ z. is_cooling (z y.page)) e ∙ i.cooling; epoch = ap (λ z. epoch_of (z y.page)) e ∙ i.epoch };
  empty = λ f h. let o = a.empty f h in (o.0, ap (λ z. all_below g.format.pages (λ j. not (in_frame (z j) f))) e ∙ o.1);
  every = λ f lt h. a.every f lt (sym (ap (λ z. all_below g.format.pages (λ j. not (in_frame (z j) f))) e) ∙ h);
  once = a.once;
  free = λ p lt. a.free p lt ∙ sym (λ i. not (d i p).node.live && not (is_hot (e i p)));
}

pub every_pool : EveryPool
every_pool g s (Event.Load p f) k is m r a = loads g s p f k m r a
every_pool g s (Event.Cool p) k is m r a = cools g s p k m a
every_pool g s (Event.Rescue p) k is m r a = rescues g s p k m a
every_pool g s (Event.Save p) k is m r a = same_places g s (happens g s (Event.Save p)) k refl refl refl a
every_pool g s (Event.Evict p) k is m r a = evicts g s p k m r a
every_pool g s Event.Tick k is m r a = same_places g s (happens g s Event.Tick) k refl refl refl a
every_pool g s _ k is m r a = absurd (true≢false (sym is))

-- ## What workers do

-- a hot page may become free or a node, but is not free and not hot either way
pub every_standing : EveryStanding
every_standing v u k given st a = subst (λ (g : Given). Agrees (opening g) (state u).core k) (sym given) (record {
  queue = a.queue ∙ sym st.queue;
  entries = λ y h. let i = a.entries y h in record { frame = st.frame y.page y.frame ∙ i.frame; cooling = st.cooling y.page ∙ i.cooling; epoch = st.since y.page ∙ i.epoch };
  empty = λ f h. let o = a.empty f h in (o.0, all_same (opening v.given).format.pages (λ j. not (in_frame ((state u).core.place j) f)) (λ j. not (in_frame ((state v).core.place j) f)) (λ j l. ap not (st.frame j f)) ∙ o.1);
  every = λ f lt h. a.every f lt (sym (all_same (opening v.given).format.pages (λ j. not (in_frame ((state u).core.place j) f)) (λ j. not (in_frame ((state v).core.place j) f)) (λ j l. ap not (st.frame j f))) ∙ h);
  once = a.once;
  free = λ p lt. a.free p lt ∙ words.cases (is_hot ((state v).core.place p))
      (λ y. ap (λ b. not ((state v).core.page p).node.live && not b) y ∙ (and_false (not ((state v).core.page p).node.live) ∙ sym (ap (λ b. not ((state u).core.page p).node.live && not b) (st.hot p ∙ y) ∙ and_false (not ((state u).core.page p).node.live))))
      (λ n. sym (λ i. not (st.page p n i).node.live && not (st.hot p i)));
})
