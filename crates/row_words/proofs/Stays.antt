-- An event changes the rows alone that it publishes.
use Rattle.std.proofs.Common.{◌≡◌, ◌≢◌, ◌==◌, ◌||◌, ◌&&◌, not, ltb, ◌<◌, ◌-◌, ℕ, zero, suc, Bool, true, false, List, [], ◌∷◌, refl, sym, ap, subst, ◌∙◌, true≢false, arith}
use Rattle.std.specs.Prelude.{slice_index}
use Rattle.std.proofs.lemmas.Bool.{cond-false, cond-true, ne_eqb, eqb-false, eqb-true}
use Rattle.std.proofs.lemmas.Bool.Decides.{nat_tests}
use Rattle.map_model.specs.Lists.{upd, any}
use Rattle.map_model.specs.Maps.{MapAnswer}
use Rattle.core_state.specs.image_model.Entries.{Entry}
use Rattle.page_model.specs.Check.{names_page}
use Rattle.btree_node.specs.Words.{words_of}
use Rattle.core_state.specs.Lists.{all_below}
use Rattle.core_state.specs.Openings.{Opening}
use Rattle.core_state.specs.States.{Place, State, is_hot, is_cooling, is_cold, frame_of, in_frame, waits_for}
use Rattle.core_state.specs.Events.{Event}
use Rattle.core_state.specs.Needs.{may, needs, may_have, has_hot_parent, is_dirty, is_inside, is_empty_frame}
use Rattle.core_state.specs.Steps.{happens, follows, put_back}
use Rattle.core_state.specs.Steps as steps
use Rattle.core_state.specs.Local.{published, publishes_page, publishes_row}
use Rattle.core_state.proofs.Locality.{every_local}
use Rattle.row_words.specs.Words.{swip, framed, ShowsPage, ShowsFrame, Shows, lock_words, relinks, relinked, fills, has_parent_in, rewritten, publishes_frame, publishes}
use Rattle.row_words.proofs.Frames.{one_hot, in_left, swip_left, swip_cooling, framed_same}

pub or_false : (a b : Bool) → (a || b) ≡ false → (a ≡ false) × (b ≡ false)
or_false true b e = absurd (true≢false e)
or_false false b e = (refl, e)

pub and_true : (a b : Bool) → (a && b) ≡ true → (a ≡ true) × (b ≡ true)
and_true true b e = (refl, e)
and_true false b e = absurd (true≢false (sym e))

pub cases : {P : Type 0} (b : Bool) → (b ≡ true → P) → (b ≡ false → P) → P
cases true f g = f refl
cases false f g = g refl

-- an update at i leaves j
pub kept : {A : Type 0} (f : ℕ → A) (i : ℕ) (a : A) (j : ℕ) → (i == j) ≡ false → upd f i a j ≡ f j
kept f i a j h = cond-false (j == i) a (f j) (ne_eqb j i (λ e. eqb-false i j h (sym e)))

-- and is a at i
pub here : {A : Type 0} (f : ℕ → A) (i : ℕ) (a : A) (j : ℕ) → (i == j) ≡ true → upd f i a j ≡ a
here f i a j h = let e : (j == i) ≡ true = grind (arith, nat_tests) in cond-true (j == i) a (f j) e

in_hot : (x : Place) (f : ℕ) → is_hot x ≡ true → (frame_of x == f) ≡ true → in_frame x f ≡ true
in_hot (Place.Hot f) i h e = e
in_hot (Place.Cooling f e v) i h d = d
in_hot Place.Cold i h e = absurd (true≢false (sym h))

in_cooling : (x : Place) (f : ℕ) → is_cooling x ≡ true → (frame_of x == f) ≡ true → in_frame x f ≡ true
in_cooling (Place.Hot f) i h e = e
in_cooling (Place.Cooling f e v) i h d = d
in_cooling Place.Cold i h e = absurd (true≢false (sym h))

-- the page of a place that is not in a list of those in the frame
unpublished : (place : ℕ → Place) (f p : ℕ) (l : List ℕ) → any (λ q. in_frame (place q) f) l ≡ false → in_frame (place p) f ≡ true → any (λ q. q == p) l ≡ false
unpublished place f p [] off i = refl
unpublished place f p (q ∷ l) off i =
    let o = or_false (in_frame (place q) f) (any (λ q. in_frame (place q) f) l) off in
    let ih = unpublished place f p l o.1 i in
    let ne : (q == p) ≡ false = cases (q == p) (λ t. absurd (true≢false (sym i ∙ (ap (λ z. in_frame (place z) f) (sym (eqb-true q p t)) ∙ o.0)))) (λ n. n) in
    rw ne ih

-- no page below n
pub below_false : (n : ℕ) (P : ℕ → Bool) → all_below n P ≡ true → (q : ℕ) → q < n → P q ≡ true
below_false zero P h q lt = absurd (omega arith)
below_false (suc n) P h q lt =
    let a = and_true (P n) (all_below n P) h in
    cases (q == n) (λ t. ap P (eqb-true q n t) ∙ a.0) (λ t. below_false n P a.1 q (let d : q ≢ n = eqb-false q n t in omega arith))

-- some number below n passes
pub some_below : (n : ℕ) (P : ℕ → Bool) → not (all_below n (λ q. not (P q))) ≡ true → (q : ℕ) × (q < n) × (P q ≡ true)
some_below zero P h = absurd (true≢false (sym h))
some_below (suc n) P h = cases (P n)
    (λ y. (n, omega arith, y))
    (λ no. let ih = some_below n P (subst (λ (b : Bool). not (not b && all_below n (λ q. not (P q))) ≡ true) no h) in (ih.0, (let l = ih.1 in omega arith), ih.2))

pub not_false : (b : Bool) → not b ≡ false → b ≡ true
not_false true e = refl
not_false false e = absurd (true≢false e)

pub not_true : (b : Bool) → not b ≡ true → b ≡ false
not_true true e = absurd (true≢false (sym e))
not_true false e = refl

all_mono : (n : ℕ) (P Q : ℕ → Bool) → ((p : ℕ) → P p ≡ true → Q p ≡ true) → all_below n P ≡ true → all_below n Q ≡ true
all_mono zero P Q f h = refl
all_mono (suc n) P Q f h = let a = and_true (P n) (all_below n P) h in rw (f n a.0, all_mono n P Q f a.1) refl

cold_out : (x : Place) (f : ℕ) → is_cold x ≡ true → in_frame x f ≡ false
cold_out (Place.Hot f) i h = absurd (true≢false (sym h))
cold_out (Place.Cooling f e v) i h = absurd (true≢false (sym h))
cold_out Place.Cold i h = refl

in_parts : (x : Place) (f : ℕ) → in_frame x f ≡ ((is_hot x || is_cooling x) && (frame_of x == f))
in_parts (Place.Hot f) i = refl
in_parts (Place.Cooling f e v) i = refl
in_parts Place.Cold i = refl

in_same : (x y : Place) (f : ℕ) → is_hot x ≡ is_hot y → is_cooling x ≡ is_cooling y → frame_of x ≡ frame_of y → in_frame x f ≡ in_frame y f
in_same x y f a b c = in_parts x f ∙ ((λ i. (a i || b i) && (c i == f)) ∙ sym (in_parts y f))

-- what holds of none of the pages that the event relinks
pub at_relinked : (P : ℕ → Bool) (e : Event) (c : ℕ) → any P (relinked e) ≡ false → relinks e c ≡ true → P c ≡ false
at_relinked P (Event.Load p f) c off r = ap P (sym (eqb-true p c r)) ∙ (or_false (P p) false off).0
at_relinked P (Event.Cool p) c off r = ap P (sym (eqb-true p c r)) ∙ (or_false (P p) false off).0
at_relinked P (Event.Rescue p) c off r = ap P (sym (eqb-true p c r)) ∙ (or_false (P p) false off).0
at_relinked P _ c off r = absurd (true≢false (sym r))

module _ (g : Opening) (s : State) where
  -- a page stands in a frame after an event only if it did before, or if the event fills the frame
  in_before : (e : Event) (p f : ℕ) → may g s e ≡ true → fills e f ≡ false → in_frame ((happens g s e).place p) f ≡ true → in_frame (s.place p) f ≡ true
  in_before (Event.Leave w) p f m off i = sym (in_left w (s.place p) f) ∙ i
  in_before (Event.Load q h) p f m off i = cases (q == p)
      (λ t. absurd (true≢false (sym i ∙ (ap (λ z. in_frame z f) (here s.place q (Place.Hot h) p t) ∙ off))))
      (λ n. ap (λ z. in_frame z f) (sym (kept s.place q (Place.Hot h) p n)) ∙ i)
  in_before (Event.Cool q) p f m off i =
      let x = Place.Cooling (frame_of (s.place q)) s.epoch (λ w. is_inside (s.inside w)) in cases (q == p)
      (λ t. let j : in_frame x f ≡ true = ap (λ z. in_frame z f) (sym (here s.place q x p t)) ∙ i in
      let hot = (and_true (is_hot (s.place q)) true (and_true (is_hot (s.place q) && true) (needs g s (Event.Cool q)) m).0).0 in
      ap (λ z. in_frame (s.place z) f) (sym (eqb-true q p t)) ∙ in_hot (s.place q) f hot j)
      (λ n. ap (λ z. in_frame z f) (sym (kept s.place q x p n)) ∙ i)
  in_before (Event.Rescue q) p f m off i =
      let x = Place.Hot (frame_of (s.place q)) in cases (q == p)
      (λ t. let j : in_frame x f ≡ true = ap (λ z. in_frame z f) (sym (here s.place q x p t)) ∙ i in
      let cool = (and_true (is_cooling (s.place q)) (has_hot_parent g s q) m).0 in
      ap (λ z. in_frame (s.place z) f) (sym (eqb-true q p t)) ∙ in_cooling (s.place q) f cool j)
      (λ n. ap (λ z. in_frame z f) (sym (kept s.place q x p n)) ∙ i)
  in_before (Event.Evict q) p f m off i = cases (q == p)
      (λ t. absurd (true≢false (sym i ∙ ap (λ z. in_frame z f) (here s.place q Place.Cold p t))))
      (λ n. ap (λ z. in_frame z f) (sym (kept s.place q Place.Cold p n)) ∙ i)
  in_before (Event.Put_back w q) p f m off i = go (s.worker w).changes i
    where
      go : (cs : List Entry) → in_frame ((put_back g s w q cs).place p) f ≡ true → in_frame (s.place p) f ≡ true
      go [] i = i
      go (c ∷ cs) i = i
  in_before (Event.Next w q k a) p f m off i = go a i
    where
      go : (a : MapAnswer) → in_frame ((follows g s w q a).place p) f ≡ true → in_frame (s.place p) f ≡ true
      go (MapAnswer.Pair at word) i = i
      go (MapAnswer.Gap b) i = i
      go (MapAnswer.Value b) i = i
      go (MapAnswer.Was b) i = i
  in_before _ p f m off i = i

  -- the swip of a page, unless the event changes it
  pub swip_same : (e : Event) (c : ℕ) → may g s e ≡ true → relinks e c ≡ false → swip ((happens g s e).place c) c ≡ swip (s.place c) c
  swip_same (Event.Leave w) c m off = swip_left w (s.place c) c
  swip_same (Event.Load q h) c m off = ap (λ z. swip z c) (kept s.place q (Place.Hot h) c off)
  swip_same (Event.Cool q) c m off = ap (λ z. swip z c) (kept s.place q (Place.Cooling (frame_of (s.place q)) s.epoch (λ w. is_inside (s.inside w))) c off)
  swip_same (Event.Rescue q) c m off = ap (λ z. swip z c) (kept s.place q (Place.Hot (frame_of (s.place q))) c off)
  swip_same (Event.Evict q) c m off = cases (q == c)
      (λ t. let cool = (and_true (is_cooling (s.place q)) (not (is_dirty s q) && all_below (suc g.workers) (λ w. not (waits_for (s.place q) w))) m).0 in
      ap (λ z. swip z c) (here s.place q Place.Cold c t) ∙ (sym (swip_cooling (s.place q) c cool) ∙ ap (λ z. swip (s.place z) c) (eqb-true q c t)))
      (λ n. ap (λ z. swip z c) (kept s.place q Place.Cold c n))
  swip_same (Event.Put_back w q) c m off = go (s.worker w).changes
    where
      go : (cs : List Entry) → swip ((put_back g s w q cs).place c) c ≡ swip (s.place c) c
      go [] = refl
      go (x ∷ xs) = refl
  swip_same (Event.Next w q k a) c m off = go a
    where
      go : (a : MapAnswer) → swip ((follows g s w q a).place c) c ≡ swip (s.place c) c
      go (MapAnswer.Pair at word) = refl
      go (MapAnswer.Gap b) = refl
      go (MapAnswer.Value b) = refl
      go (MapAnswer.Was b) = refl
  swip_same _ c m off = refl

  -- a page names none that has no parent in its frame
  pub not_named : (f p c : ℕ) → has_parent_in g s f c ≡ false → p < g.format.pages → in_frame (s.place p) f ≡ true → names_page (s.page p).node c ≡ false
  not_named f p c off lt i =
      let all = not_false (all_below g.format.pages (λ q. not (names_page (s.page q).node c && in_frame (s.place q) f))) off in
      let n = not_true (names_page (s.page p).node c && in_frame (s.place p) f) (below_false g.format.pages (λ q. not (names_page (s.page q).node c && in_frame (s.place q) f)) all p lt) in
      cases (names_page (s.page p).node c) (λ y. absurd (true≢false (sym (rw y i) ∙ n))) (λ z. z)

  -- a page in a frame that the event does not rewrite; one that is read again stands in none
  pub not_published : (e : Event) (f p : ℕ) → may g s e ≡ true → publishes_frame g s e f ≡ false → in_frame (s.place p) f ≡ true → publishes_page e p ≡ false
  not_published (Event.Fetch q pairs) f p m off before = cases (q == p)
      (λ t. let cold = (and_true (is_cold (s.place q)) (may_have g (s.saved q).node pairs) (and_true (ltb q g.format.pages) (is_cold (s.place q) && may_have g (s.saved q).node pairs) m).1).0 in
      absurd (true≢false (sym before ∙ cold_out (s.place p) f (ap (λ z. is_cold (s.place z)) (sym (eqb-true q p t)) ∙ cold))))
      (λ n. rw n refl)
  not_published e f p m off before = unpublished s.place f p (published e) (or_false (any (λ p. in_frame (s.place p) f) (published e)) (fills e f || any (has_parent_in g s f) (relinked e)) off).0 before

  -- a page that stands hot in a frame that the event does not publish stands there as it was
  pub hot_stays : (e : Event) (f p : ℕ) → may g s e ≡ true → publishes_frame g s e f ≡ false → s.place p ≡ Place.Hot f → ((happens g s e).place p ≡ Place.Hot f) × ((happens g s e).page p ≡ s.page p)
  hot_stays e f p m off hot =
      let it : (f == f) ≡ true = grind (arith, nat_tests) in
      let un = not_published e f p m off (ap (λ z. in_frame z f) hot ∙ it) in
      let l = every_local g s e in
      (one_hot ((happens g s e).place p) f (l.hot p un ∙ ap is_hot hot) (l.frame p un ∙ ap frame_of hot), l.pages p un)

  -- a frame that the event does not publish is empty after it only if it was before
  empty_before : (e : Event) (f : ℕ) → may g s e ≡ true → publishes_frame g s e f ≡ false → is_empty_frame g (happens g s e) f ≡ true → is_empty_frame g s f ≡ true
  empty_before e f m off h = all_mono g.format.pages (λ p. not (in_frame ((happens g s e).place p) f)) (λ p. not (in_frame (s.place p) f)) each h
    where
      each : (p : ℕ) → not (in_frame ((happens g s e).place p) f) ≡ true → not (in_frame (s.place p) f) ≡ true
      each p none = cases (in_frame (s.place p) f)
          (λ y. let un = not_published e f p m off y in let l = every_local g s e in
          let same = in_same ((happens g s e).place p) (s.place p) f (l.hot p un) (l.cooling p un) (l.frame p un) in
          absurd (true≢false (sym (same ∙ y) ∙ not_true (in_frame ((happens g s e).place p) f) none)))
          (λ n. ap not n)

  -- the words of a frame that the event does not publish
  frame_stays : (e : Event) (f i x : ℕ) → may g s e ≡ true → publishes_frame g s e f ≡ false
      → ShowsFrame g s f i x
      → (p : ℕ) → p < g.format.pages → in_frame ((happens g s e).place p) f ≡ true → ShowsPage (happens g s e) p i x
  frame_stays e f i x m off shows p lt after =
      let parts = or_false (any (λ p. in_frame (s.place p) f) (rewritten e)) (fills e f || any (has_parent_in g s f) (relinked e)) off in
      let more = or_false (fills e f) (any (has_parent_in g s f) (relinked e)) parts.1 in
      let before = in_before e p f m more.0 after in
      let un = not_published e f p m off before in
      let local = every_local g s e in
      let page = local.pages p un in
      let old = shows.page p lt before in
      let node : framed (happens g s e).place (s.page p).node ≡ framed s.place (s.page p).node =
      framed_same s.place (happens g s e).place (s.page p).node (λ c named. cases (relinks e c)
      (λ y. absurd (true≢false (sym named ∙ not_named f p c (at_relinked (has_parent_in g s f) e c more.1 y) lt before)))
      (λ n. swip_same e c m n)) in
      record {
        page = λ l. let o = old.page l in (o.0, o.1 ∙ ap (λ z. slice_index (words_of z) i) (sym (λ j. record { number = p; gsn = (page j).gsn; generation = o.0; last_log = (page j).last; node = (ap (λ z. framed (happens g s e).place z.node) page ∙ node) j })));
        marked = λ l c. old.marked l (sym (local.cooling p un) ∙ c);
        hint = λ l c. old.hint l (sym (local.cooling p un) ∙ c);
        saved = λ l. old.saved l ∙ ap (λ z. z.gsn) (sym (local.saved p un));
      }

  pub hot_kept : (e : Event) (row p : ℕ) → ltb row g.frames ≡ true → publishes g s e row ≡ false → s.place p ≡ Place.Hot row → ((steps.step g s e).place p ≡ Place.Hot row) × ((steps.step g s e).page p ≡ s.page p)
  hot_kept e row p lt off hot = go (may g s e) refl
    where
      go : (b : Bool) → may g s e ≡ b → ((Rattle.std.specs.Prelude.if◌then◌else◌ b (happens g s e) s).place p ≡ Place.Hot row) × ((Rattle.std.specs.Prelude.if◌then◌else◌ b (happens g s e) s).page p ≡ s.page p)
      go true m = hot_stays e row p m (sym (cond-true (ltb row g.frames) (publishes_frame g s e row) (publishes_row e (row - g.frames)) lt) ∙ off) hot
      go false m = (hot, refl)

  pub stays : (e : Event) (row i x : ℕ) → publishes g s e row ≡ false → Shows g s row i x → Shows g (steps.step g s e) row i x
  stays e row i x off shows = go (may g s e) refl
    where
      framing : ltb row g.frames ≡ true → publishes_frame g s e row ≡ false
      framing t = sym (cond-true (ltb row g.frames) (publishes_frame g s e row) (publishes_row e (row - g.frames)) t) ∙ off

      locking : ltb row g.frames ≡ false → publishes_row e (row - g.frames) ≡ false
      locking t = sym (cond-false (ltb row g.frames) (publishes_frame g s e row) (publishes_row e (row - g.frames)) t) ∙ off

      go : (b : Bool) → may g s e ≡ b → Shows g (Rattle.std.specs.Prelude.if◌then◌else◌ b (happens g s e) s) row i x
      go true m = record {
        frame = λ t. record {
          page = frame_stays e row i x m (framing t) (shows.frame t);
          empty = λ l h. (shows.frame t).empty l (empty_before e row m (framing t) h);
        };
        lock = λ t. shows.lock t ∙ ap (λ z. slice_index (lock_words g.workers z) i) (sym ((every_local g s e).rows (row - g.frames) (locking t)));
      }
      go false m = shows
