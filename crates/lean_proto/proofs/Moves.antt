-- A page may be cooled, rescued, saved and evicted by a publish, whatever others did meanwhile: the pager alone moves pages and saves
-- them, the page stands in a row that it holds, and so does the page that names it where its swip changes.
use Rattle.std.proofs.Common.{◌≡◌, ◌≢◌, ◌==◌, ◌||◌, ◌&&◌, not, ltb, leb, ◌<◌, ◌≤◌, ◌-◌, ℕ, zero, suc, Bool, true, false, List, [], ◌∷◌, ◌++◌, refl, sym, ap, subst, ◌∙◌, true≢false, arith}
use Rattle.std.specs.Prelude.{slice_index, if◌then◌else◌}
use Rattle.std.proofs.lemmas.Bool.{cond-true, cond-false, eq-eqb, lt-ltb, eqb-true, leb-true, le-leb, and_from}
use Rattle.map_model.specs.Lists.{upd}
use Rattle.core_paging.specs.image_model.Entries.{Contents, Entry}
use Rattle.page_model.specs.Tree.{Names, IsTree}
use Rattle.page_model.specs.Check.{names_page}
use Rattle.page_model.proofs.Tree.{child_page, only}
use Rattle.version_latch.specs.btree_node.Words.{words_of}
use Rattle.core_paging.specs.core_state.Lists.{all_below}
use Rattle.core_paging.specs.core_state.Openings.{Opening}
use Rattle.core_paging.specs.core_state.States.{Place, State, flushed_by_all, nodes_of, is_hot, is_cooling, is_cold, in_frame, frame_of, waits_for, left_by}
use Rattle.core_paging.specs.core_state.Events as happening
use Rattle.core_paging.specs.core_state.Needs as core
use Rattle.core_paging.specs.core_state.Needs.{has_hot_parent, has_hot_child, is_empty_frame, is_dirty, is_inside}
use Rattle.core_paging.specs.core_state.Steps.{happens, put_back}
use Rattle.core_paging.specs.core_state.Steps as steps
use Rattle.core_paging.specs.core_state.Local.{publishes_row}
use Rattle.core_paging.proofs.core_state.Locality.{every_local}
use Rattle.core_paging.proofs.core_commit.Controls.{least_mono}
use Rattle.core_paging.proofs.core_commit.Events.{names_to}
use Rattle.core_paging.specs.Paging.{Residence}
use Rattle.core_paging.proofs.Places.{left_frame, left_waits, left_no_more, own_frame, in_own, hot_not_cold, cooling_not_cold}
use Rattle.version_latch.specs.row_words.declared.event.Event.{Event}
use Rattle.version_latch.specs.row_words.declared.event.Event.TheVariants as told
use Rattle.version_latch.specs.row_words.declared.event.Met.TheVariants as met
use Rattle.version_latch.specs.row_words.Moments.{Moment, event_of, actor_of, pager}
use Rattle.version_latch.specs.row_words.Openings.{opening}
use Rattle.version_latch.specs.row_words.Sealed.{stepped, run, Shown, changes, sets}
use Rattle.version_latch.specs.row_words.Words.{swip, framed as as_framed, ShowsPage, ShowsFrame, Shows, has_parent_in, publishes, publishes_frame}
use Rattle.version_latch.proofs.row_words.Frames.{hot_place, framed_same}
use Rattle.version_latch.proofs.row_words.Stays as words
use Rattle.version_latch.proofs.row_words.Stays.{cases, some_below, and_true}
use Rattle.version_latch.specs.rows_trait.declared.view.View.{View}
use Rattle.version_latch.specs.rows_trait.Views.{Shape, after_all, state, AreApart, holds, held_at, may}
use Rattle.version_latch.specs.rows_trait.Turns.{Leaves, MayPublish}
use Rattle.version_latch.proofs.rows_trait.EventLemmas.{apart_sync}
use Rattle.lean_proto.specs.Ready.{IsReady}
use Rattle.lean_proto.proofs.Growing.{flushed_on}
use Rattle.lean_proto.proofs.Loads.{SamePlaces, places_none, places_on, place_on, all_same, names_from}
use Rattle.lean_proto.proofs.Meanwhile.{meanwhile}
use Rattle.lean_proto.proofs.Near.{hot_at}

-- ## What events of others leave

-- a page in a frame that the event does not change
page_next : (v : View) (f p : ℕ) → f < (opening v.given).frames → (e : Event) (m : Moment) → changes v.given m e f ≡ false → in_frame (m.core.place p) f ≡ true → (stepped v.given m e).core.page p ≡ m.core.page p
unfolding changes stepped
page_next v f p lt e m off i = go (core.may (opening v.given) m.core (event_of e)) refl
  where
    frame : publishes_frame (opening v.given) m.core (event_of e) f ≡ false
    frame = sym (cond-true (ltb f (opening v.given).frames) (publishes_frame (opening v.given) m.core (event_of e) f) (publishes_row (event_of e) (f - (opening v.given).frames)) (lt-ltb f (opening v.given).frames lt)) ∙ off

    go : (b : Bool) → core.may (opening v.given) m.core (event_of e) ≡ b → (if b then happens (opening v.given) m.core (event_of e) else m.core).page p ≡ m.core.page p
    go true met = (every_local (opening v.given) m.core (event_of e)).pages p (words.not_published (opening v.given) m.core (event_of e) f p met frame i)
    go false met = refl

-- a page in a held frame
pub page_on : (v : View) → v.actor ≡ pager → (f p : ℕ) → f < (opening v.given).frames → holds v.held f ≡ true → (es : List Event) (m : Moment) → AreApart v m es → in_frame (m.core.place p) f ≡ true
    → (run v.given m es).core.page p ≡ m.core.page p
page_on v is f p lt mine [] m a i = refl
page_on v is f p lt mine (e ∷ es) m a i =
    let n = stepped v.given m e in
    let stays : in_frame (n.core.place p) f ≡ true = place_on (λ x. in_frame x f) (λ w x. left_frame w x f) v is (e ∷ []) m (a.0, tt) p ∙ i in
    page_on v is f p lt mine es n a.1 stays ∙ page_next v f p lt e m (a.0.rows f mine) i

-- for whom a page waits grows by the pager alone
unwaited_left : (u w : ℕ) (x : Place) → waits_for x w ≡ false → waits_for (left_by u x) w ≡ false
unwaited_left u w x h = cases (w == u)
    (λ y. subst (λ j. waits_for (left_by u x) j ≡ false) (sym (eqb-true w u y)) (left_no_more u x))
    (λ n. left_waits u w x (λ e. true≢false (sym (eq-eqb w u e) ∙ n)) ∙ h)

pub unwaited_happens : (g : Opening) (s : State) (e : Event) (q w : ℕ) → actor_of e ≢ pager → waits_for (s.place q) w ≡ false → waits_for ((happens g s (event_of e)).place q) w ≡ false
unwaited_happens g s (told.Leave u) q w ne h = unwaited_left u w (s.place q) h
unwaited_happens g s (told.Load p f) q w ne h = absurd (ne refl)
unwaited_happens g s (told.Cool p) q w ne h = absurd (ne refl)
unwaited_happens g s (told.Rescue p) q w ne h = absurd (ne refl)
unwaited_happens g s (told.Evict p) q w ne h = absurd (ne refl)
unwaited_happens g s (told.PutBack u p) q w ne h = go (s.worker u).changes
  where
    go : (cs : List Entry) → waits_for ((put_back g s u p cs).place q) w ≡ false
    go [] = h
    go (c ∷ cs) = h
unwaited_happens g s (told.Next u p k (met.Pair at word)) q w ne h = h
unwaited_happens g s (told.Next u p k (met.Gap b)) q w ne h = h
unwaited_happens g s _ q w ne h = h

pub unwaited_on : (v : View) → v.actor ≡ pager → (es : List Event) (m : Moment) → AreApart v m es → (q w : ℕ) → waits_for (m.core.place q) w ≡ false → waits_for ((run v.given m es).core.place q) w ≡ false
unfolding stepped
unwaited_on v is [] m a q w h = h
unwaited_on v is (e ∷ es) m a q w h = unwaited_on v is es (stepped v.given m e) a.1 q w (go (core.may (opening v.given) m.core (event_of e)))
  where
    go : (b : Bool) → waits_for ((if b then happens (opening v.given) m.core (event_of e) else m.core).place q) w ≡ false
    go true = unwaited_happens (opening v.given) m.core e q w (λ z. a.0.other (z ∙ sym is)) h
    go false = h

-- What stays of a page that stands in a held frame, and of all places.
pub record Stays (v : View) (s t : State) : Type 0 where
  pub places : SamePlaces s t
  pub unwaited : (q w : ℕ) → waits_for (s.place q) w ≡ false → waits_for (t.place q) w ≡ false
  pub flushed : flushed_by_all (opening v.given) s ≤ flushed_by_all (opening v.given) t
  pub page : (f p : ℕ) → f < (opening v.given).frames → holds v.held f ≡ true → in_frame (s.place p) f ≡ true → t.page p ≡ s.page p

stays_none : (v : View) (s : State) → Stays v s s
stays_none v s = record { places = places_none s; unwaited = λ q w h. h; flushed = omega arith; page = λ f p lt mine i. refl }

stays_on : (v : View) → v.actor ≡ pager → (es : List Event) (m : Moment) → AreApart v m es → Stays v m.core (run v.given m es).core
stays_on v is es m a = record {
  places = places_on v is es m a;
  unwaited = unwaited_on v is es m a;
  flushed = least_mono m.core.flushed (run v.given m es).core.flushed (opening v.given).workers (opening v.given).some_worker (flushed_on v.given es m (apart_sync v m es a));
  page = λ f p lt mine i. page_on v is f p lt mine es m a i;
}

-- whatever others did
pub stays_all : (z : Shape) (v : View) → may z.alone v pager ≡ true → (between : List Event) → (z.alone ≡ true → between ≡ []) → AreApart v (state v) between
    → Stays v (state v).core (after_all v.given (v.seen ++ between)).core
stays_all z v actor = meanwhile z v pager (λ m. Stays v (state v).core m.core) actor (stays_none v (state v).core) (λ es is a. stays_on v is es (state v) a)

-- ## What is shown

-- what a page shows hangs on this
pub record Seen (s t : State) (c : ℕ) : Type 0 where
  pub page : t.page c ≡ s.page c
  pub saved : t.saved c ≡ s.saved c
  pub cooling : is_cooling (t.place c) ≡ is_cooling (s.place c)
  pub swips : (d : ℕ) → swip (t.place d) d ≡ swip (s.place d) d

shows_seen : (s t : State) (c i x : ℕ) → Seen s t c → ShowsPage s c i x → ShowsPage t c i x
shows_seen s t c i x n old =
    let node : as_framed t.place (t.page c).node ≡ as_framed s.place (s.page c).node = ap (λ z. as_framed t.place z.node) n.page ∙ framed_same s.place t.place (s.page c).node (λ d _. n.swips d) in record {
      page = λ l. let o = old.page l in
          (o.0, o.1 ∙ ap (λ z. slice_index (words_of z) i) (sym (λ j. record { number = c; gsn = (n.page j).gsn; generation = o.0; last_log = (n.page j).last; node = node j })));
      marked = λ l k. old.marked l (sym n.cooling ∙ k);
      hint = λ l k. old.hint l (sym n.cooling ∙ k);
      saved = λ l. old.saved l ∙ ap (λ z. z.gsn) (sym n.saved);
    }

-- and what a frame shows on its pages
pub row_seen : (g : Opening) (s t : State) (row : ℕ) → ((q i : ℕ) → in_frame (t.place q) i ≡ in_frame (s.place q) i) → ((c : ℕ) → c < g.format.pages → in_frame (s.place c) row ≡ true → Seen s t c)
    → (i x : ℕ) → ShowsFrame g s row i x → ShowsFrame g t row i x
row_seen g s t row frames seen i x old = record {
  page = λ c lt inside. let before = sym (frames c row) ∙ inside in shows_seen s t c i x (seen c lt before) (old.page c lt before);
  empty = λ at none. old.empty at (all_same g.format.pages (λ q. not (in_frame (s.place q) row)) (λ q. not (in_frame (t.place q) row)) (λ q l. ap not (sym (frames q row))) ∙ none);
}

-- What an event of no lock row leaves in its rows at a moment it leaves at another one.
leaves_at : (z : Shape) (v : View) (row : ℕ) (e : Event) (m n : Moment) → ((j : ℕ) → publishes_row (event_of e) j ≡ false)
    → core.may (opening v.given) m.core (event_of e) ≡ true → core.may (opening v.given) n.core (event_of e) ≡ true
    → ((q : ℕ) → publishes_frame (opening v.given) n.core (event_of e) q ≡ publishes_frame (opening v.given) m.core (event_of e) q)
    → ((q i x : ℕ) → publishes_frame (opening v.given) m.core (event_of e) q ≡ true → ShowsFrame (opening v.given) (happens (opening v.given) m.core (event_of e)) q i x → ShowsFrame (opening v.given) (happens (opening v.given) n.core (event_of e)) q i x)
    → Leaves z row e v m → Leaves z row e v n
unfolding changes stepped Shown
leaves_at z v row e m n none before after same shows l = record {
  here = row_same row ∙ l.here;
  rows = λ q h. let was = sym (row_same q) ∙ h in let old = l.rows q was in (
    old.0,
    λ i lt. subst (λ s. Shows g s q i (slice_index (held_at v.held q).now i)) (sym after_is)
        (shows_after q i (slice_index (held_at v.held q).now i) was (subst (λ s. Shows g s q i (slice_index (held_at v.held q).now i)) before_is (old.1 i lt))),
  );
}
  where
    g : Opening
    g = opening v.given

    before_is : steps.step g m.core (event_of e) ≡ happens g m.core (event_of e)
    before_is = cond-true (core.may g m.core (event_of e)) (happens g m.core (event_of e)) m.core before

    after_is : steps.step g n.core (event_of e) ≡ happens g n.core (event_of e)
    after_is = cond-true (core.may g n.core (event_of e)) (happens g n.core (event_of e)) n.core after

    row_same : (q : ℕ) → publishes g n.core (event_of e) q ≡ publishes g m.core (event_of e) q
    row_same q = ap (λ b. if ltb q g.frames then b else publishes_row (event_of e) (q - g.frames)) (same q)

    shows_after : (q i x : ℕ) → publishes g m.core (event_of e) q ≡ true → Shows g (happens g m.core (event_of e)) q i x → Shows g (happens g n.core (event_of e)) q i x
    shows_after q i x h old = record {
      frame = λ y. shows q i x (sym (cond-true (ltb q g.frames) (publishes_frame g m.core (event_of e) q) (publishes_row (event_of e) (q - g.frames)) y) ∙ h) (old.frame y);
      lock = λ n. absurd (true≢false (sym h ∙ (cond-false (ltb q g.frames) (publishes_frame g m.core (event_of e) q) (publishes_row (event_of e) (q - g.frames)) n ∙ none (q - g.frames))));
    }

-- ## A page's place changes

module _ (p : ℕ) (s t : State) (k : SamePlaces s t) (a b : Place) (frame : (i : ℕ) → in_frame b i ≡ in_frame a i) (cool : is_cooling b ≡ is_cooling a) (link : swip b p ≡ swip a p) where
  frames_after : (q i : ℕ) → in_frame (upd t.place p b q) i ≡ in_frame (upd s.place p a q) i
  frames_after q i = cases (p == q)
      (λ y. ap (λ z. in_frame z i) (words.here t.place p b q y) ∙ (frame i ∙ sym (ap (λ z. in_frame z i) (words.here s.place p a q y))))
      (λ n. ap (λ z. in_frame z i) (words.kept t.place p b q n) ∙ (k.frame q i ∙ sym (ap (λ z. in_frame z i) (words.kept s.place p a q n))))

  cools_after : (q : ℕ) → is_cooling (upd t.place p b q) ≡ is_cooling (upd s.place p a q)
  cools_after q = cases (p == q)
      (λ y. ap is_cooling (words.here t.place p b q y) ∙ (cool ∙ sym (ap is_cooling (words.here s.place p a q y))))
      (λ n. ap is_cooling (words.kept t.place p b q n) ∙ (k.cooling q ∙ sym (ap is_cooling (words.kept s.place p a q n))))

  links_after : (q : ℕ) → swip (upd t.place p b q) q ≡ swip (upd s.place p a q) q
  links_after q = cases (p == q)
      (λ y. ap (λ z. swip z q) (words.here t.place p b q y) ∙ (subst (λ j. swip b j ≡ swip a j) (eqb-true p q y) link ∙ sym (ap (λ z. swip z q) (words.here s.place p a q y))))
      (λ n. ap (λ z. swip z q) (words.kept t.place p b q n) ∙ (k.swips q ∙ sym (ap (λ z. swip z q) (words.kept s.place p a q n))))

-- a frame that is in one place is in the other
frame_same : (x y : Place) → is_cold x ≡ false → is_cold y ≡ false → ((i : ℕ) → in_frame y i ≡ in_frame x i) → (i : ℕ) → (frame_of y == i) ≡ (frame_of x == i)
frame_same x y a b same i = own_frame y i b ∙ (same i ∙ sym (own_frame x i a))

not_cold : (x : Place) → (is_hot x ≡ true) → is_cold x ≡ false
not_cold x h = hot_not_cold x h

-- ## What it rests on

-- page p, and the pages that name it, are the same
pub record Around (g : Opening) (p : ℕ) (s t : State) : Type 0 where
  pub places : SamePlaces s t
  pub own : t.page p ≡ s.page p
  pub named : (q : ℕ) → q < g.format.pages → names_page (t.page q).node p ≡ names_page (s.page q).node p
  pub near : (q : ℕ) → q < g.format.pages → names_page (s.page q).node p ≡ true → t.page q ≡ s.page q

module _ (g : Opening) (p : ℕ) (s t : State) (tree_before : IsTree g.format (nodes_of s)) (tree_after : IsTree g.format (nodes_of t)) (below : p < g.format.pages)
    (places : SamePlaces s t) (own : t.page p ≡ s.page p) (near : (q : ℕ) → q < g.format.pages → names_page (s.page q).node p ≡ true → t.page q ≡ s.page q) where
  -- who names it after them named it before
  named_before : (q : ℕ) → q < g.format.pages → names_page (t.page q).node p ≡ true → names_page (s.page q).node p ≡ true
  named_before q lt n =
      let z = names_to (t.page q).node p n in
      let some = child_page g.format (nodes_of t) tree_after q z.0 lt z.1 in
      let ne : p ≢ 0 = λ e. let a = some.0 in let b = z.2 ∙ e in absurd (omega arith) in
      let live : (s.page p).node.live ≡ true = ap (λ y. y.node.live) (sym own) ∙ subst (λ j. (t.page j).node.live ≡ true) z.2 (tree_after.down q lt z.0 z.1).live in
      let u = tree_before.up p below live ne in
      let old = near u.page u.below (names_from (s.page u.page).node u.span p u.names u.child) in
      let is : q ≡ u.page = (only g.format (nodes_of t) tree_after q u.page z.0 u.span lt u.below z.1 (subst (λ (w : Contents). Names w.node u.span) (sym old) u.names) (z.2 ∙ sym u.child)).0 in
      subst (λ j. names_page (s.page j).node p ≡ true) (sym is) (names_from (s.page u.page).node u.span p u.names u.child)

  pub around : Around g p s t
  around = record {
    places = places;
    own = own;
    named = λ q lt. cases (names_page (t.page q).node p)
        (λ y. y ∙ sym (named_before q lt y))
        (λ n. cases (names_page (s.page q).node p)
        (λ y. absurd (true≢false (sym y ∙ (ap (λ w. names_page w.node p) (sym (near q lt y)) ∙ n))))
        (λ no. n ∙ sym no));
    near = near;
  }

-- ## Its rows

pub any_of : (a b c : Bool) → c ≡ true → ((a || false) || (b || (c || false))) ≡ true
any_of true b c h = refl
any_of false true c h = refl
any_of false false true h = refl
any_of false false false h = h

pub first_of : (a b : Bool) → a ≡ true → ((a || false) || b) ≡ true
first_of true b h = refl
first_of false b h = absurd (true≢false (sym h))

-- the two rows of an event that changes the swip of page p
abbrev pub links : Opening → State → ℕ → ℕ → Bool
links g s p row = (in_frame (s.place p) row || false) || (false || (has_parent_in g s row p || false))

-- the row of page p alone
abbrev pub lone : State → ℕ → ℕ → Bool
lone s p row = (in_frame (s.place p) row || false) || (false || false)

pub parent_in : (g : Opening) (s : State) (p q row : ℕ) → q < g.format.pages → names_page (s.page q).node p ≡ true → in_frame (s.place q) row ≡ true → has_parent_in g s row p ≡ true
parent_in g s p q row below n i = cases (has_parent_in g s row p) (λ y. y)
    (λ no. absurd (true≢false (sym (rw (n, i) refl) ∙ words.not_true (names_page (s.page q).node p && in_frame (s.place q) row) (words.below_false g.format.pages (λ q. not (names_page (s.page q).node p && in_frame (s.place q) row))
    (words.not_false (all_below g.format.pages (λ q. not (names_page (s.page q).node p && in_frame (s.place q) row))) no) q below))))

module _ (g : Opening) (p : ℕ) (s t : State) (k : Around g p s t) where
  links_same : (row : ℕ) → links g t p row ≡ links g s p row
  links_same row =
      let own = k.places.frame p row in
      let parent : has_parent_in g t row p ≡ has_parent_in g s row p = ap not (all_same g.format.pages (λ q. not (names_page (t.page q).node p && in_frame (t.place q) row)) (λ q. not (names_page (s.page q).node p && in_frame (s.place q) row))
      (λ q l. let a = k.named q l in let b = k.places.frame q row in (λ i. not (a i && b i)))) in
      (λ i. (own i || false) || (false || (parent i || false)))

  -- a page in one of them is p, or names it
  page_in_links : Residence g s → (row c : ℕ) → links g s p row ≡ true → c < g.format.pages → in_frame (s.place c) row ≡ true → t.page c ≡ s.page c
  page_in_links r row c h lt i = cases (in_frame (s.place p) row)
      (λ y. subst (λ j. t.page j ≡ s.page j) (r.one p c row y i) k.own)
      (λ n. let q = some_below g.format.pages (λ q. names_page (s.page q).node p && in_frame (s.place q) row) (only_parent (in_frame (s.place p) row) (has_parent_in g s row p) n h) in
      let a = words.and_true (names_page (s.page q.0).node p) (in_frame (s.place q.0) row) q.2 in
      subst (λ j. t.page j ≡ s.page j) (r.one q.0 c row a.1 i) (k.near q.0 q.1 a.0))
    where
      only_parent : (a c : Bool) → a ≡ false → ((a || false) || (false || (c || false))) ≡ true → c ≡ true
      only_parent true c x h = absurd (true≢false x)
      only_parent false true x h = refl
      only_parent false false x h = h

  -- what they show behind a change of its place
  links_shown : Residence g s → (a b : Place) → ((i : ℕ) → in_frame b i ≡ in_frame a i) → is_cooling b ≡ is_cooling a → swip b p ≡ swip a p → ((i : ℕ) → in_frame a i ≡ in_frame (s.place p) i)
      → (u w : State) → u.place ≡ upd s.place p a → w.place ≡ upd t.place p b → u.page ≡ s.page → w.page ≡ t.page → u.saved ≡ s.saved → w.saved ≡ t.saved
      → (row i x : ℕ) → links g s p row ≡ true → ShowsFrame g u row i x → ShowsFrame g w row i x
  links_shown r a b frame cool link where_is u w up wp ug wg us ws row i x h old = row_seen g u w row
      (λ q j. ap (λ f. in_frame (f q) j) wp ∙ (frames_after p s t k.places a b frame cool link q j ∙ sym (ap (λ f. in_frame (f q) j) up)))
      (λ c lt inside. record {
        page = ap (λ f. f c) wg ∙ (page_in_links r row c h lt (before c inside) ∙ sym (ap (λ f. f c) ug));
        saved = ap (λ f. f c) ws ∙ (k.places.saved c ∙ sym (ap (λ f. f c) us));
        cooling = ap (λ f. is_cooling (f c)) wp ∙ (cools_after p s t k.places a b frame cool link c ∙ sym (ap (λ f. is_cooling (f c)) up));
        swips = λ d. ap (λ f. swip (f d) d) wp ∙ (links_after p s t k.places a b frame cool link d ∙ sym (ap (λ f. swip (f d) d) up));
      }) i x old
    where
      before : (c : ℕ) → in_frame (u.place c) row ≡ true → in_frame (s.place c) row ≡ true
      before c inside = cases (p == c)
          (λ y. subst (λ j. in_frame (s.place j) row ≡ true) (eqb-true p c y) (sym (where_is row) ∙ (sym (ap (λ z. in_frame z row) (words.here s.place p a c y)) ∙ (sym (ap (λ f. in_frame (f c) row) up) ∙ inside))))
          (λ n. sym (ap (λ z. in_frame z row) (words.kept s.place p a c n)) ∙ (sym (ap (λ f. in_frame (f c) row) up) ∙ inside))

-- ## Needs

cool_met : (g : Opening) (s : State) (p : ℕ) → core.may g s (happening.Event.Cool p) ≡ true → is_hot (s.place p) ≡ true
cool_met g s p m = (and_true (is_hot (s.place p)) true (and_true (is_hot (s.place p) && true) (not (p == 0) && not (has_hot_child g s p)) m).0).0

pub cool_again : (g : Opening) (p : ℕ) (s t : State) → SamePlaces s t → t.page p ≡ s.page p → core.may g t (happening.Event.Cool p) ≡ core.may g s (happening.Event.Cool p)
cool_again g p s t k own =
    let hot = k.hot p in
    let child : has_hot_child g t p ≡ has_hot_child g s p = ap not (all_same g.format.pages (λ c. not (names_page (t.page p).node c && is_hot (t.place c))) (λ c. not (names_page (s.page p).node c && is_hot (s.place c)))
    (λ c l. let h = k.hot c in (λ i. not (names_page (own i).node c && h i)))) in
    (λ i. (hot i && true) && (not (p == 0) && not (child i)))

pub rescue_again : (g : Opening) (p : ℕ) (s t : State) → Around g p s t → core.may g t (happening.Event.Rescue p) ≡ core.may g s (happening.Event.Rescue p)
rescue_again g p s t k =
    let cool = k.places.cooling p in
    let parents : has_hot_parent g t p ≡ has_hot_parent g s p = all_same g.format.pages (λ q. not (names_page (t.page q).node p) || is_hot (t.place q)) (λ q. not (names_page (s.page q).node p) || is_hot (s.place q))
    (λ q l. let a = k.named q l in let b = k.places.hot q in (λ i. not (a i) || b i)) in
    (λ i. cool i && parents i)

pub save_again : (g : Opening) (p : ℕ) (s t : State) → SamePlaces s t → t.page p ≡ s.page p → flushed_by_all g s ≤ flushed_by_all g t → core.may g s (happening.Event.Save p) ≡ true → core.may g t (happening.Event.Save p) ≡ true
save_again g p s t k own up m =
    let a = and_true (not (is_cold (s.place p))) (leb (s.page p).gsn (flushed_by_all g s)) m in
    let low = leb-true (s.page p).gsn (flushed_by_all g s) a.1 in
    let e : (t.page p).gsn ≡ (s.page p).gsn = ap (λ c. c.gsn) own in
    and_from (not (is_cold (t.place p))) (leb (t.page p).gsn (flushed_by_all g t)) (ap not (k.cold p) ∙ a.0) (le-leb (t.page p).gsn (flushed_by_all g t) (omega arith))

all_more : (n : ℕ) (P Q : ℕ → Bool) → ((p : ℕ) → P p ≡ true → Q p ≡ true) → all_below n P ≡ true → all_below n Q ≡ true
all_more zero P Q f h = refl
all_more (suc n) P Q f h = let a = and_true (P n) (all_below n P) h in and_from (Q n) (all_below n Q) (f n a.0) (all_more n P Q f a.1)

pub evict_again : (g : Opening) (p : ℕ) (s t : State) → SamePlaces s t → ((q w : ℕ) → waits_for (s.place q) w ≡ false → waits_for (t.place q) w ≡ false) → t.page p ≡ s.page p
    → core.may g s (happening.Event.Evict p) ≡ true → core.may g t (happening.Event.Evict p) ≡ true
evict_again g p s t k unwaited own m =
    let a = and_true (is_cooling (s.place p)) (not (is_dirty s p) && all_below (suc g.workers) (λ w. not (waits_for (s.place p) w))) m in
    let b = and_true (not (is_dirty s p)) (all_below (suc g.workers) (λ w. not (waits_for (s.place p) w))) a.1 in
    let saved = k.saved p in
    let dirty : is_dirty t p ≡ is_dirty s p = (λ i. ltb (saved i).gsn (own i).gsn) in
    and_from (is_cooling (t.place p)) (not (is_dirty t p) && all_below (suc g.workers) (λ w. not (waits_for (t.place p) w))) (k.cooling p ∙ a.0)
    (and_from (not (is_dirty t p)) (all_below (suc g.workers) (λ w. not (waits_for (t.place p) w))) (ap not dirty ∙ b.0)
    (all_more (suc g.workers) (λ w. not (waits_for (s.place p) w)) (λ w. not (waits_for (t.place p) w)) (λ w h. ap not (unwaited p w (words.not_true (waits_for (s.place p) w) h))) b.1))

-- the frame of a cooling page
pub cooling_at : (x : Place) → is_cooling x ≡ true → in_frame x (frame_of x) ≡ true
cooling_at x h = in_own x (cooling_not_cold x h)

-- ## Whatever others did

-- a frame row that the event changes
pub row_changes : (v : View) (m : Moment) (e : Event) (r : ℕ) → r < (opening v.given).frames → publishes_frame (opening v.given) m.core (event_of e) r ≡ true → changes v.given m e r ≡ true
unfolding changes
row_changes v m e r lt h = cond-true (ltb r (opening v.given).frames) (publishes_frame (opening v.given) m.core (event_of e) r) (publishes_row (event_of e) (r - (opening v.given).frames)) (lt-ltb r (opening v.given).frames lt) ∙ h

module _ (z : Shape) (v : View) (row p : ℕ) (e : Event) (it : IsReady z v row e) (moves : actor_of e ≡ pager) where
  abbrev o : Opening
  o = opening v.given

  abbrev m0 : Moment
  m0 = state v

  residence : Residence o m0.core
  residence = (it.order v.seen).places

  abbrev at : List Event → Moment
  at between = after_all v.given (v.seen ++ between)

  -- a page in a frame that the event changes
  own_page : (f c : ℕ) → in_frame (m0.core.place c) f ≡ true → publishes_frame o m0.core (event_of e) f ≡ true → (t : State) → Stays v m0.core t → t.page c ≡ m0.core.page c
  own_page f c i h t k =
      let lt = (residence.within c f i).1 in
      k.page f c lt (it.leaves.rows f (row_changes v m0 e f lt h)).0 i

  stays : (between : List Event) → (z.alone ≡ true → between ≡ []) → AreApart v m0 between → Stays v m0.core (at between).core
  stays = stays_all z v (subst (λ a. may z.alone v a ≡ true) moves it.actor)

  module _ (standing : is_cold (m0.core.place p) ≡ false) where
    abbrev here : ℕ
    here = frame_of (m0.core.place p)

    within : p < o.format.pages
    within = (residence.within p here (in_own (m0.core.place p) standing)).0

    -- where its swip changes
    module _ (is_links : (s : State) (q : ℕ) → publishes_frame o s (event_of e) q ≡ links o s p q)
        (parents : (q : ℕ) → q < o.format.pages → names_page (m0.core.page q).node p ≡ true → is_hot (m0.core.place q) ≡ true) where
      its_page : (t : State) → Stays v m0.core t → t.page p ≡ m0.core.page p
      its_page t k = let i = in_own (m0.core.place p) standing in own_page here p i (is_links m0.core here ∙ first_of (in_frame (m0.core.place p) here) (false || (has_parent_in o m0.core here p || false)) i) t k

      around_all : (between : List Event) → (z.alone ≡ true → between ≡ []) → AreApart v m0 between → Around o p m0.core (at between).core
      around_all between quiet apart =
          let k = stays between quiet apart in
          around o p m0.core (at between).core (it.order v.seen).tree (it.order (v.seen ++ between)).tree within k.places (its_page (at between).core k)
          (λ q lt n. let r = hot_at (m0.core.place q) (parents q lt n) in let i = hot_place (m0.core.place q) r.0 r.1 in
          own_page r.0 q i (is_links m0.core r.0 ∙ any_of (in_frame (m0.core.place p) r.0) false (has_parent_in o m0.core r.0 p) (parent_in o m0.core p q r.0 lt n i)) (at between).core k)

    -- where only its own row changes
    module _ (is_lone : (s : State) (q : ℕ) → publishes_frame o s (event_of e) q ≡ lone s p q) where
      lone_page : (t : State) → Stays v m0.core t → t.page p ≡ m0.core.page p
      lone_page t k = let i = in_own (m0.core.place p) standing in own_page here p i (is_lone m0.core here ∙ first_of (in_frame (m0.core.place p) here) (false || false) i) t k

      lone_same : (t : State) → Stays v m0.core t → (q : ℕ) → publishes_frame o t (event_of e) q ≡ publishes_frame o m0.core (event_of e) q
      lone_same t k q = is_lone t q ∙ ((λ i. (k.places.frame p q i || false) || (false || false)) ∙ sym (is_lone m0.core q))

      -- a page in its row is it
      lone_one : (q c : ℕ) → publishes_frame o m0.core (event_of e) q ≡ true → in_frame (m0.core.place c) q ≡ true → p ≡ c
      lone_one q c h i = residence.one p c q (bare (in_frame (m0.core.place p) q) (sym (is_lone m0.core q) ∙ h)) i
        where
          bare : (b : Bool) → ((b || false) || (false || false)) ≡ true → b ≡ true
          bare true x = refl
          bare false x = x

-- ## The four events

no_words_of : (e : Event) → ((c i : ℕ) → Rattle.version_latch.specs.row_words.Laws.sets e c i ≡ false) → (c i : ℕ) → sets e c i ≡ false
unfolding sets
no_words_of e h c i = h c i

pub cool_ready : (z : Shape) (v : View) (row p : ℕ) → IsReady z v row (told.Cool p) → MayPublish z row (told.Cool p) v
cool_ready z v row p it = record {
  actor = it.actor;
  part = refl;
  words = no_words_of (told.Cool p) (λ c i. refl);
  tame = it.tame;
  leaves = λ between quiet apart.
      let k = around_all z v row p (told.Cool p) it refl standing (λ s q. refl) parents between quiet apart in
      let t = (after_all v.given (v.seen ++ between)).core in
      let there : is_cold (t.place p) ≡ false = k.places.cold p ∙ standing in
      leaves_at z v row (told.Cool p) (state v) (after_all v.given (v.seen ++ between)) (λ j. refl) it.met (cool_again g p s t k.places k.own ∙ it.met) (links_same g p s t k)
      (λ q i x h old. links_shown g p s t k (it.order v.seen).places (Place.Cooling (frame_of (s.place p)) s.epoch (λ w. is_inside (s.inside w))) (Place.Cooling (frame_of (t.place p)) t.epoch (λ w. is_inside (t.inside w)))
      (frame_same (s.place p) (t.place p) standing there (k.places.frame p)) refl refl (λ j. own_frame (s.place p) j standing)
      (happens g s (happening.Event.Cool p)) (happens g t (happening.Event.Cool p)) refl refl refl refl refl refl q i x h old)
      it.leaves;
}
  where
    g : Opening
    g = opening v.given

    s : State
    s = (state v).core

    hot : is_hot (s.place p) ≡ true
    hot = cool_met g s p it.met

    standing : is_cold (s.place p) ≡ false
    standing = hot_not_cold (s.place p) hot

    parents : (q : ℕ) → q < g.format.pages → names_page (s.page q).node p ≡ true → is_hot (s.place q) ≡ true
    parents q lt n = (it.order v.seen).places.parent q p lt n hot

pub rescue_ready : (z : Shape) (v : View) (row p : ℕ) → IsReady z v row (told.Rescue p) → MayPublish z row (told.Rescue p) v
rescue_ready z v row p it = record {
  actor = it.actor;
  part = refl;
  words = no_words_of (told.Rescue p) (λ c i. refl);
  tame = it.tame;
  leaves = λ between quiet apart.
      let k = around_all z v row p (told.Rescue p) it refl standing (λ s q. refl) parents between quiet apart in
      let t = (after_all v.given (v.seen ++ between)).core in
      let there : is_cold (t.place p) ≡ false = k.places.cold p ∙ standing in
      let frames = frame_same (s.place p) (t.place p) standing there (k.places.frame p) in
      let one : frame_of (t.place p) ≡ frame_of (s.place p) = eqb-true (frame_of (t.place p)) (frame_of (s.place p)) (frames (frame_of (s.place p)) ∙ eq-eqb (frame_of (s.place p)) (frame_of (s.place p)) refl) in
      leaves_at z v row (told.Rescue p) (state v) (after_all v.given (v.seen ++ between)) (λ j. refl) it.met (rescue_again g p s t k ∙ it.met) (links_same g p s t k)
      (λ q i x h old. links_shown g p s t k (it.order v.seen).places (Place.Hot (frame_of (s.place p))) (Place.Hot (frame_of (t.place p)))
      frames refl (ap (λ f. swip (Place.Hot f) p) one) (λ j. own_frame (s.place p) j standing)
      (happens g s (happening.Event.Rescue p)) (happens g t (happening.Event.Rescue p)) refl refl refl refl refl refl q i x h old)
      it.leaves;
}
  where
    g : Opening
    g = opening v.given

    s : State
    s = (state v).core

    met : (is_cooling (s.place p) ≡ true) × (has_hot_parent g s p ≡ true)
    met = and_true (is_cooling (s.place p)) (has_hot_parent g s p) it.met

    standing : is_cold (s.place p) ≡ false
    standing = cooling_not_cold (s.place p) met.0

    parents : (q : ℕ) → q < g.format.pages → names_page (s.page q).node p ≡ true → is_hot (s.place q) ≡ true
    parents q lt n = parent_hot (names_page (s.page q).node p) (is_hot (s.place q)) n (words.below_false g.format.pages (λ q. not (names_page (s.page q).node p) || is_hot (s.place q)) met.1 q lt)
      where
        parent_hot : (a b : Bool) → a ≡ true → (not a || b) ≡ true → b ≡ true
        parent_hot true b e h = h
        parent_hot false b e h = absurd (true≢false (sym e))

pub save_ready : (z : Shape) (v : View) (row p : ℕ) → IsReady z v row (told.Save p) → MayPublish z row (told.Save p) v
save_ready z v row p it = record {
  actor = it.actor;
  part = refl;
  words = no_words_of (told.Save p) (λ c i. refl);
  tame = it.tame;
  leaves = λ between quiet apart.
      let k = stays z v row p (told.Save p) it refl between quiet apart in
      let t = (after_all v.given (v.seen ++ between)).core in
      let own : t.page p ≡ s.page p = lone_page z v row p (told.Save p) it refl standing (λ s q. refl) t k in
      leaves_at z v row (told.Save p) (state v) (after_all v.given (v.seen ++ between)) (λ j. refl) it.met (save_again g p s t k.places own k.flushed it.met) (lone_same z v row p (told.Save p) it refl standing (λ s q. refl) t k)
      (λ q i x h old. row_seen g (happens g s (happening.Event.Save p)) (happens g t (happening.Event.Save p)) q (k.places.frame)
      (λ c lt inside. let is = lone_one z v row p (told.Save p) it refl standing (λ s q. refl) q c h inside in record {
        page = subst (λ j. t.page j ≡ s.page j) is own;
        saved = subst (λ j. upd t.saved p (t.page p) j ≡ upd s.saved p (s.page p) j) is (words.here t.saved p (t.page p) p (eq-eqb p p refl) ∙ (own ∙ sym (words.here s.saved p (s.page p) p (eq-eqb p p refl))));
        cooling = k.places.cooling c;
        swips = k.places.swips;
      }) i x old)
      it.leaves;
}
  where
    g : Opening
    g = opening v.given

    s : State
    s = (state v).core

    standing : is_cold (s.place p) ≡ false
    standing = words.not_true (is_cold (s.place p)) (and_true (not (is_cold (s.place p))) (leb (s.page p).gsn (flushed_by_all g s)) it.met).0

pub evict_ready : (z : Shape) (v : View) (row p : ℕ) → IsReady z v row (told.Evict p) → MayPublish z row (told.Evict p) v
evict_ready z v row p it = record {
  actor = it.actor;
  part = refl;
  words = no_words_of (told.Evict p) (λ c i. refl);
  tame = it.tame;
  leaves = λ between quiet apart.
      let k = stays z v row p (told.Evict p) it refl between quiet apart in
      let t = (after_all v.given (v.seen ++ between)).core in
      let own : t.page p ≡ s.page p = lone_page z v row p (told.Evict p) it refl standing (λ s q. refl) t k in
      leaves_at z v row (told.Evict p) (state v) (after_all v.given (v.seen ++ between)) (λ j. refl) it.met (evict_again g p s t k.places k.unwaited own it.met) (lone_same z v row p (told.Evict p) it refl standing (λ s q. refl) t k)
      (λ q i x h old. row_seen g (happens g s (happening.Event.Evict p)) (happens g t (happening.Event.Evict p)) q (frames_after p s t k.places Place.Cold Place.Cold (λ i. refl) refl refl)
      (λ c lt inside. absurd (gone q c h inside)) i x old)
      it.leaves;
}
  where
    g : Opening
    g = opening v.given

    s : State
    s = (state v).core

    standing : is_cold (s.place p) ≡ false
    standing = cooling_not_cold (s.place p) (and_true (is_cooling (s.place p)) (not (is_dirty s p) && all_below (suc g.workers) (λ w. not (waits_for (s.place p) w))) it.met).0

    -- no page stands in its row behind it
    gone : (q c : ℕ) → publishes_frame g s (happening.Event.Evict p) q ≡ true → in_frame (upd s.place p Place.Cold c) q ≡ true → ⊥
    gone q c h inside = cases (p == c)
        (λ y. true≢false (sym inside ∙ ap (λ x. in_frame x q) (words.here s.place p Place.Cold c y)))
        (λ n. let before = ap (λ x. in_frame x q) (sym (words.kept s.place p Place.Cold c n)) ∙ inside in
        let is = lone_one z v row p (told.Evict p) it refl standing (λ s q. refl) q c h before in
        true≢false (sym (eq-eqb p c is) ∙ n))
