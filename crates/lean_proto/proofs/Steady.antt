-- Who is ready to publish a steady event may publish it, whatever others did meanwhile.
use Rattle.std.proofs.Common.{◌≡◌, ◌||◌, not, ltb, ◌<◌, ◌+◌, ◌-◌, ◌≤◌, ℕ, Bool, true, false, List, [], ◌∷◌, ◌++◌, refl, sym, ap, subst, ◌∙◌, true≢false, arith, inl, inr}
use Rattle.std.specs.Prelude.{slice_index, if◌then◌else◌}
use Rattle.std.proofs.lemmas.Bool.{cond-true, cond-false, lt-ltb, le-ltb}
use Rattle.map_model.specs.Lists.{Has, any}
use Rattle.map_model.proofs.ListLemmas.{any_has, has_any, all_to}
use Rattle.core_paging.specs.core_state.Openings.{Opening}
use Rattle.core_paging.specs.core_state.States.{Place, State, is_hot, in_frame}
use Rattle.core_paging.specs.core_state.Events as happening
use Rattle.core_paging.specs.core_state.Needs as core
use Rattle.core_paging.specs.core_state.Needs.{is_held_by, is_empty_frame, pages_of, are_hot, needs}
use Rattle.core_paging.specs.core_state.Steps.{happens}
use Rattle.core_paging.specs.core_state.Steps as steps
use Rattle.core_paging.specs.core_state.Local.{published, publishes_row}
use Rattle.core_paging.proofs.core_state.Locality.{every_local}
use Rattle.core_paging.specs.Paging.{Residence}
use Rattle.version_latch.specs.row_words.declared.event.Event.{Event}
use Rattle.version_latch.specs.row_words.declared.event.Event.TheVariants as told
use Rattle.version_latch.specs.row_words.Moments.{Moment, event_of, actor_of, is_sync, mode_of}
use Rattle.version_latch.specs.row_words.Openings.{opening}
use Rattle.version_latch.specs.row_words.Sealed.{IsTame, stepped, run, Shown, changes, sets}
use Rattle.version_latch.specs.row_words.Words.{ShowsPage, Shows, publishes, publishes_frame, lock_words}
use Rattle.version_latch.proofs.row_words.Stays as words
use Rattle.version_latch.proofs.row_words.Stays.{cases, and_true}
use Rattle.version_latch.specs.rows_trait.declared.view.View.{View}
use Rattle.version_latch.specs.rows_trait.Views.{Shape, after_all, state, AreApart, IsApart, holds, held_at, may}
use Rattle.version_latch.specs.rows_trait.Turns.{Leaves, MayPublish}
use Rattle.version_latch.proofs.rows_trait.EventLemmas.{none_apart, apart_sync, by_none}
use Rattle.lean_proto.specs.Ready.{is_steady, IsReady, EveryReady}
use Rattle.lean_proto.specs.Purges.{EveryPurge}
use Rattle.lean_proto.proofs.Levels.{level_with}
use Rattle.lean_proto.proofs.Growing.{flushed_on}
use Rattle.lean_proto.proofs.Settling.{settled_on, can_purge}
use Rattle.version_latch.proofs.row_words.Frames.{hot_place}
use Rattle.lean_proto.proofs.Near.{SameNear, near_none, near_on, hot_at, shows_near}
use Rattle.lean_proto.proofs.Again.{agree_child, IsPlain, Rest, Again, plain_lock, plain_unlock, plain_change, plain_back, plain_split, plain_lift, plain_join, plain_drop, plain_purge, again_lock, again_unlock, again_change, again_back, again_split, again_lift, again_join, again_drop, again_purge}
use Rattle.lean_proto.proofs.Meanwhile.{meanwhile}
use Rattle.lean_proto.proofs.Owns.{worker_apart, holder_on}
use Rattle.lean_proto.proofs.Loads.{load_ready}
use Rattle.lean_proto.proofs.Moves.{cool_ready, rescue_ready, save_ready, evict_ready}

-- ## What events apart from a view leave

-- a lock row that the view holds
module _ (v : View) (j : ℕ) (mine : holds v.held ((opening v.given).frames + j) ≡ true) where
  abbrev g : Opening
  g = opening v.given

  row_next : (m : Moment) (e : Event) → IsApart v m e → (stepped v.given m e).core.row j ≡ m.core.row j
  unfolding stepped changes
  row_next m e a = go (core.may g m.core (event_of e))
    where
      behind : ltb (g.frames + j) g.frames ≡ false
      behind = le-ltb (g.frames + j) g.frames (omega arith)

      its : (g.frames + j) - g.frames ≡ j
      its = omega arith

      off : publishes_row (event_of e) j ≡ false
      off = ap (publishes_row (event_of e)) (sym its) ∙ (sym (cond-false (ltb (g.frames + j) g.frames) (publishes_frame g m.core (event_of e) (g.frames + j)) (publishes_row (event_of e) ((g.frames + j) - g.frames)) behind) ∙ a.rows (g.frames + j) mine)

      go : (b : Bool) → (if b then happens g m.core (event_of e) else m.core).row j ≡ m.core.row j
      go true = (every_local g m.core (event_of e)).rows j off
      go false = refl

  pub row_on : (es : List Event) (m : Moment) → AreApart v m es → (run v.given m es).core.row j ≡ m.core.row j
  row_on [] m a = refl
  row_on (e ∷ es) m a = row_on es (stepped v.given m e) a.1 ∙ row_next m e a.0

-- what stays of what worker w knows
pub record Keeps (v : View) (w : ℕ) (s t : State) : Type 0 where
  pub worker : t.worker w ≡ s.worker w
  pub alone : (j : ℕ) → is_held_by (s.row j).holder w ≡ true → is_held_by (t.row j).holder w ≡ true
  pub row : (j : ℕ) → holds v.held ((opening v.given).frames + j) ≡ true → t.row j ≡ s.row j
  pub near : (f p : ℕ) → f < (opening v.given).frames → holds v.held f ≡ true → p < (opening v.given).format.pages → s.place p ≡ Place.Hot f → SameNear s t p
  -- logs are flushed no less
  pub flushed : (u : ℕ) → s.flushed u ≤ t.flushed u

keeps_none : (v : View) (w : ℕ) (s : State) → Keeps v w s s
keeps_none v w s = record { worker = refl; alone = λ j h. h; row = λ j mine. refl; near = λ f p lt mine below hot. near_none s p; flushed = λ u. omega arith }

keeps_on : (v : View) (es : List Event) (m : Moment) → AreApart v m es → Keeps v v.actor m.core (run v.given m es).core
keeps_on v es m a =
    let n = by_none v.actor es (none_apart v m es a) in record {
      worker = worker_apart v es m a;
      alone = λ j h. holder_on v.given v.actor j es m n h;
      row = λ j mine. row_on v j mine es m a;
      near = λ f p lt mine below hot. near_on v f p lt mine below es m a hot;
      flushed = flushed_on v.given es m (apart_sync v m es a);
    }

any_same : (P Q : ℕ → Bool) (l : List ℕ) → ((x : ℕ) → Has x l → P x ≡ Q x) → any P l ≡ any Q l
any_same P Q [] f = refl
any_same P Q (x ∷ xs) f =
    let e = f x (inl refl) in
    let r = any_same P Q xs (λ y h. f y (inr h)) in (λ j. e j || r j)

-- ## The rows of an event

-- where page p stands hot, in a row that the view holds
record Stands (v : View) (s : State) (p : ℕ) : Type 0 where
  pub frame : ℕ
  pub hot : s.place p ≡ Place.Hot frame
  pub inside : frame < (opening v.given).frames
  pub held : holds v.held frame ≡ true
  pub below : p < (opening v.given).format.pages

pub empty_not : (g : Opening) (s : State) (f p : ℕ) → p < g.format.pages → in_frame (s.place p) f ≡ true → is_empty_frame g s f ≡ true → ⊥
empty_not g s f p lt i h = true≢false (sym i ∙ words.not_true (in_frame (s.place p) f) (words.below_false g.format.pages (λ q. not (in_frame (s.place q) f)) h p lt))

-- an event that may happen at moment m and leaves its rows there as they are held
module _ (z : Shape) (v : View) (row : ℕ) (e : Event) (plain : IsPlain (event_of e)) (m : Moment)
    (places : Residence (opening v.given) m.core) (met : core.may (opening v.given) m.core (event_of e) ≡ true) (leaves : Leaves z row e v m) where
  abbrev o : Opening
  o = opening v.given

  abbrev c : happening.Event
  c = event_of e

  stands : (p : ℕ) → Has p (published c) → Stands v m.core p
  unfolding changes
  stands p named =
      let hot = hot_at (m.core.place p) (all_to (λ q. is_hot (m.core.place q)) (pages_of c) (and_true (are_hot m.core (pages_of c)) (needs o m.core c) met).0 p (subst (Has p) plain.pages named)) in
      let i = hot_place (m.core.place p) hot.0 hot.1 in
      let w = places.within p hot.0 i in
      let its : publishes o m.core c hot.0 ≡ true =
      cond-true (ltb hot.0 o.frames) (publishes_frame o m.core c hot.0) (publishes_row c (hot.0 - o.frames)) (lt-ltb hot.0 o.frames w.1)
      ∙ (plain.frame o m.core hot.0 ∙ has_any (λ q. in_frame (m.core.place q) hot.0) (published c) p named i) in
      record { frame = hot.0; hot = hot.1; inside = w.1; held = (leaves.rows hot.0 its).0; below = w.0 }

  latched : (j : ℕ) → publishes_row c j ≡ true → holds v.held (o.frames + j) ≡ true
  unfolding changes
  latched j named =
      let behind : ltb (o.frames + j) o.frames ≡ false = le-ltb (o.frames + j) o.frames (omega arith) in
      let at : (o.frames + j) - o.frames ≡ j = omega arith in
      (leaves.rows (o.frames + j) (cond-false (ltb (o.frames + j) o.frames) (publishes_frame o m.core c (o.frames + j)) (publishes_row c ((o.frames + j) - o.frames)) behind ∙ (ap (publishes_row c) at ∙ named))).0

  rests : (w : ℕ) (t : State) → Keeps v w m.core t → Rest m.core t w c
  rests w t k = record {
    worker = k.worker;
    alone = k.alone;
    rows = λ j named. k.row j (latched j named);
    near = λ p named. let s = stands p named in k.near s.frame p s.inside s.held s.below s.hot;
  }

  -- it changes the same rows
  changes_same : (n : Moment) (w : ℕ) → Rest m.core n.core w c → (q : ℕ) → changes v.given n e q ≡ changes v.given m e q
  unfolding changes
  changes_same n w r q =
      let frames : publishes_frame o n.core c q ≡ publishes_frame o m.core c q =
      plain.frame o n.core q ∙ (any_same (λ p. in_frame (n.core.place p) q) (λ p. in_frame (m.core.place p) q) (published c) (λ p named. ap (λ x. in_frame x q) (r.near p named).place) ∙ sym (plain.frame o m.core q)) in
      ap (λ b. if ltb q o.frames then b else publishes_row c (q - o.frames)) frames

  -- what is near its pages after it
  near_after : (n : Moment) (w : ℕ) → Rest m.core n.core w c → Again o m.core n.core c → (p : ℕ) → Has p (published c) → SameNear (happens o m.core c) (happens o n.core c) p
  near_after n w r a p named = record {
    page = a.pages p named;
    saved = ap (λ y. y p) (plain.saved o n.core) ∙ ((r.near p named).saved ∙ sym (ap (λ y. y p) (plain.saved o m.core)));
    place = ap (λ y. y p) (plain.place o n.core) ∙ ((r.near p named).place ∙ sym (ap (λ y. y p) (plain.place o m.core)));
    swips = agree_child (happens o m.core c).place (happens o n.core c).place ((happens o m.core c).page p).node (a.swips p named);
  }

  -- and the words of its rows
  shows_again : (n : Moment) (w : ℕ) → Residence o n.core → Rest m.core n.core w c → Again o m.core n.core c
      → (q i x : ℕ) → publishes o m.core c q ≡ true → Shows o (happens o m.core c) q i x → Shows o (happens o n.core c) q i x
  shows_again n w later r a q i x its shows = record {
    frame = λ t.
        let found = any_has (λ p. in_frame (m.core.place p) q) (published c) (sym (plain.frame o m.core q) ∙ (sym (cond-true (ltb q o.frames) (publishes_frame o m.core c q) (publishes_row c (q - o.frames)) t) ∙ its)) in
        let p = found.0 in
        let below = (stands p found.1).below in
        let now : in_frame (n.core.place p) q ≡ true = ap (λ y. in_frame y q) (r.near p found.1).place ∙ found.2 in
        record {
          page = λ other lt inside.
              subst (λ y. ShowsPage (happens o n.core c) y i x) (later.one p other q now (sym (ap (λ y. in_frame (y other) q) (plain.place o n.core)) ∙ inside))
              (shows_near (happens o m.core c) (happens o n.core c) p i x (near_after n w r a p found.1)
              ((shows.frame t).page p below (ap (λ y. in_frame (y p) q) (plain.place o m.core) ∙ found.2)));
          empty = λ at none. absurd (empty_not o (happens o n.core c) q p below (ap (λ y. in_frame (y p) q) (plain.place o n.core) ∙ now) none);
        };
    lock = λ t. shows.lock t ∙ ap (λ y. slice_index (lock_words o.workers y) i)
        (sym (a.rows (q - o.frames) (sym (cond-false (ltb q o.frames) (publishes_frame o m.core c q) (publishes_row c (q - o.frames)) t) ∙ its)));
  }

  leaves_again : (n : Moment) (w : ℕ) → Residence o n.core → Rest m.core n.core w c → Again o m.core n.core c → Leaves z row e v n
  unfolding changes stepped Shown
  leaves_again n w later r a = record {
    here = changes_same n w r row ∙ leaves.here;
    rows = λ q its.
        let was : publishes o m.core c q ≡ true = sym (changes_same n w r q) ∙ its in
        let l = leaves.rows q was in (
          l.0,
          λ i lt. subst (λ s. Shows o s q i (slice_index (held_at v.held q).now i)) (sym (step_is n.core a.met))
              (shows_again n w later r a q i (slice_index (held_at v.held q).now i) was (subst (λ s. Shows o s q i (slice_index (held_at v.held q).now i)) (step_is m.core met) (l.1 i lt))),
        );
  }
    where
      step_is : (s : State) → core.may o s c ≡ true → steps.step o s c ≡ happens o s c
      step_is s may = cond-true (core.may o s c) (happens o s c) s may

-- ## Publishing

-- an event that may happen again wherever what it rests on is the same
pub may_publish : (z : Shape) (v : View) (row : ℕ) (e : Event) → IsPlain (event_of e) → is_sync e ≡ false → ((c i : ℕ) → sets e c i ≡ false)
    → may z.alone v (actor_of e) ≡ true → ((es : List Event) → Residence (opening v.given) (after_all v.given es).core) → core.may (opening v.given) (state v).core (event_of e) ≡ true → IsTame (state v) e → Leaves z row e v (state v)
    → ((t : State) → Keeps v (actor_of e) (state v).core t → Rest (state v).core t (actor_of e) (event_of e) → Again (opening v.given) (state v).core t (event_of e)) → MayPublish z row e v
may_publish z v row e plain part words actor places met tame leaves again = record {
  actor = actor;
  part = part;
  words = words;
  tame = tame;
  leaves = λ between quiet apart.
      let m = after_all v.given (v.seen ++ between) in
      let kept = meanwhile z v (actor_of e) (λ n. Keeps v (actor_of e) (state v).core n.core) actor (keeps_none v (actor_of e) (state v).core)
      (λ es is a. subst (λ w. Keeps v w (state v).core (run v.given (state v) es).core) is (keeps_on v es (state v) a)) between quiet apart in
      let rest = rests z v row e plain (state v) (places v.seen) met leaves (actor_of e) m.core kept in
      leaves_again z v row e plain (state v) (places v.seen) met leaves m (actor_of e) (places (v.seen ++ between)) rest (again m.core kept rest);
}

no_sync : (e : Event) → is_steady e ≡ true → is_sync e ≡ false
no_sync (told.Sync n) h = absurd (true≢false (sym h))
no_sync _ h = refl

pub no_words : (e : Event) → is_steady e ≡ true → (c i : ℕ) → sets e c i ≡ false
unfolding sets
no_words (told.Lock w i mode) h c j = refl
no_words (told.Unlock w i) h c j = refl
no_words (told.Change w p k x) h c j = refl
no_words (told.PutBack w p) h c j = refl
no_words (told.Split w l r q i) h c j = refl
no_words (told.Lift w d) h c j = refl
no_words (told.Join w l r q) h c j = refl
no_words (told.Drop w d) h c j = refl
no_words (told.Load p f) h c j = refl
no_words (told.Cool p) h c j = refl
no_words (told.Rescue p) h c j = refl
no_words (told.Save p) h c j = refl
no_words (told.Evict p) h c j = refl
no_words _ h c j = absurd (true≢false (sym h))

-- what is ready, of events that move no page
plain_ready : (z : Shape) (v : View) (row : ℕ) (e : Event) → is_steady e ≡ true → IsPlain (event_of e) → IsReady z v row e
    → ((t : State) → Rest (state v).core t (actor_of e) (event_of e) → Again (opening v.given) (state v).core t (event_of e)) → MayPublish z row e v
plain_ready z v row e steady plain r again = may_publish z v row e plain (no_sync e steady) (no_words e steady) r.actor (λ es. (r.order es).places) r.met r.tame r.leaves (λ t kept rest. again t rest)

pub every_ready : EveryReady
every_ready z v row (told.Lock w i mode) h r = plain_ready z v row (told.Lock w i mode) h (plain_lock w i (mode_of mode)) r (λ t rest. again_lock (opening v.given) (state v).core t w i (mode_of mode) r.met rest)
every_ready z v row (told.Unlock w i) h r = plain_ready z v row (told.Unlock w i) h (plain_unlock w i) r (λ t rest. again_unlock (opening v.given) (state v).core t w i r.met rest)
every_ready z v row (told.Change w p k x) h r = plain_ready z v row (told.Change w p k x) h (plain_change w p k x) r (λ t rest. again_change (opening v.given) (state v).core t w p k x r.met rest)
every_ready z v row (told.PutBack w p) h r = plain_ready z v row (told.PutBack w p) h (plain_back w p) r (λ t rest. again_back (opening v.given) (state v).core t w p r.met rest)
every_ready z v row (told.Split w l right q i) h r = plain_ready z v row (told.Split w l right q i) h (plain_split w l right q i) r
    (λ t rest. again_split (opening v.given) (state v).core t w l right q i ((r.order v.seen).tree.formed l left) r.met rest)
  where
    left : l < (opening v.given).format.pages
    left = (stands z v row (told.Split w l right q i) (plain_split w l right q i) (state v) (r.order v.seen).places r.met r.leaves l (inl refl)).below
every_ready z v row (told.Lift w c) h r = plain_ready z v row (told.Lift w c) h (plain_lift w c) r
    (λ t rest. let tree = (r.order v.seen).tree in again_lift (opening v.given) (state v).core t w c (tree.formed 0 tree.some) r.met rest)
every_ready z v row (told.Join w l right q) h r = plain_ready z v row (told.Join w l right q) h (plain_join w l right q) r
    (λ t rest. again_join (opening v.given) (state v).core t w l right q (level_with (opening v.given) (state v).core w l right q (r.order v.seen).tree r.met) r.met rest)
every_ready z v row (told.Drop w c) h r = plain_ready z v row (told.Drop w c) h (plain_drop w c) r
    (λ t rest. again_drop (opening v.given) (state v).core t w c ((r.order v.seen).tree.formed c child) r.met rest)
  where
    child : c < (opening v.given).format.pages
    child = (stands z v row (told.Drop w c) (plain_drop w c) (state v) (r.order v.seen).places r.met r.leaves c (inr (inl refl))).below
every_ready z v row (told.Load p f) h r = load_ready z v row p f r
every_ready z v row (told.Cool p) h r = cool_ready z v row p r
every_ready z v row (told.Rescue p) h r = rescue_ready z v row p r
every_ready z v row (told.Save p) h r = save_ready z v row p r
every_ready z v row (told.Evict p) h r = evict_ready z v row p r
every_ready z v row _ h r = absurd (true≢false (sym h))

-- ## Purges

purge_sets : (w p : ℕ) (keys : List ℕ) (c i : ℕ) → sets (told.Purge w p keys) c i ≡ false
unfolding sets
purge_sets w p keys c i = refl

-- a key whose lock row the view holds is settled still
pub every_purge : EveryPurge
every_purge z v row w p keys = record {
  ready = λ it. let r = it.ready in may_publish z v row (told.Purge w p keys) (plain_purge w p keys) refl (purge_sets w p keys) r.actor (λ es. (r.order es).places) r.met r.tame r.leaves
      (λ t kept rest. again_purge (opening v.given) (state v).core t w p keys r.met
      (settled_on (opening v.given) (state v).core t w p keys r.met kept.flushed (λ k h. kept.row ((opening v.given).row_of k) (it.locks k h))) rest);
  need = λ f c. can_purge (opening v.given) (state v).core w p keys f c;
}
