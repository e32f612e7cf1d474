-- Where pages stand, while the pager appends nothing.
use Rattle.std.proofs.Common.{◌≡◌, ◌≢◌, ◌==◌, ℕ, Bool, true, false, List, [], ◌∷◌, refl, sym, ap, subst, ◌∙◌, true≢false}
use Rattle.std.specs.Prelude.{if◌then◌else◌}
use Rattle.std.proofs.lemmas.Bool.{eqb-true}
use Rattle.map_model.specs.Lists.{Has}
use Rattle.map_model.proofs.ListLemmas.{any_has, all_to}
use Rattle.core_paging.specs.image_model.Entries.{Entry}
use Rattle.core_paging.specs.core_state.Openings.{Opening}
use Rattle.core_paging.specs.core_state.States.{Place, State, is_hot, is_cooling, is_cold, in_frame, epoch_of, waits_for, left_by}
use Rattle.core_paging.specs.core_state.Needs as core
use Rattle.core_paging.specs.core_state.Needs.{pages_of, are_hot, needs}
use Rattle.core_paging.specs.core_state.Steps.{happens, put_back}
use Rattle.core_paging.specs.core_state.Local.{published, publishes_page}
use Rattle.core_paging.proofs.core_state.Locality.{every_local}
use Rattle.core_paging.proofs.Places.{left_hot, left_cooling, left_cold, left_frame}
use Rattle.version_latch.specs.row_words.declared.event.Event.{Event}
use Rattle.version_latch.specs.row_words.declared.event.Event.TheVariants as told
use Rattle.version_latch.specs.row_words.declared.event.Met.TheVariants as met
use Rattle.version_latch.specs.row_words.declared.given.Given.{Given}
use Rattle.version_latch.specs.row_words.Moments.{Moment, event_of, actor_of, pager, by}
use Rattle.version_latch.specs.row_words.Openings.{opening}
use Rattle.version_latch.specs.row_words.Sealed.{begun, stepped, run}
use Rattle.version_latch.proofs.row_words.Stays.{cases, and_true}
use Rattle.version_latch.proofs.row_words.SealedLemmas.{run_append}
use Rattle.version_latch.specs.rows_trait.declared.view.View.{View}
use Rattle.version_latch.specs.rows_trait.Views.{after_all, state}
use Rattle.version_latch.specs.rows_trait.Turns.{Ran}
use Rattle.lean_proto.specs.Still.{IsStill, EveryStood}
use Rattle.lean_proto.proofs.Entering.{epoch_same}
use Rattle.lean_proto.proofs.Loads.{place_same, saved_same}
use Rattle.lean_proto.proofs.Moves.{unwaited_happens}
use Rattle.lean_proto.proofs.Owns.{none_of}

-- ## One event of another

queue_same : (g : Opening) (s : State) (e : Event) → actor_of e ≢ pager → (happens g s (event_of e)).queue ≡ s.queue
queue_same g s (told.Cool p) ne = absurd (ne refl)
queue_same g s (told.Rescue p) ne = absurd (ne refl)
queue_same g s (told.Evict p) ne = absurd (ne refl)
queue_same g s (told.PutBack u p) ne = go (s.worker u).changes
  where
    go : (cs : List Entry) → (put_back g s u p cs).queue ≡ s.queue
    go [] = refl
    go (c ∷ cs) = refl
queue_same g s (told.Next u p k (met.Pair at word)) ne = refl
queue_same g s (told.Next u p k (met.Gap b)) ne = refl
queue_same g s _ ne = refl

-- it changes only pages that it needs hot
is_published : (e : Event) → actor_of e ≢ pager → (q : ℕ) → Has q (published (event_of e)) → Has q (pages_of (event_of e))
is_published (told.Fetch p pairs) ne q h = absurd (ne refl)
is_published (told.Load p f) ne q h = absurd (ne refl)
is_published (told.Cool p) ne q h = absurd (ne refl)
is_published (told.Rescue p) ne q h = absurd (ne refl)
is_published (told.Save p) ne q h = absurd (ne refl)
is_published (told.Evict p) ne q h = absurd (ne refl)
is_published (told.Change w p k v) ne q h = h
is_published (told.PutBack w p) ne q h = h
is_published (told.Split w l r p i) ne q h = h
is_published (told.Lift w c) ne q h = h
is_published (told.Join w l r p) ne q h = h
is_published (told.Drop w c) ne q h = h
is_published (told.Purge w p keys) ne q h = h
is_published _ ne q h = absurd h

page_same : (g : Opening) (s : State) (e : Event) (q : ℕ) → actor_of e ≢ pager → core.may g s (event_of e) ≡ true → is_hot (s.place q) ≡ false → (happens g s (event_of e)).page q ≡ s.page q
page_same g s e q ne m off = (every_local g s (event_of e)).pages q (cases (publishes_page (event_of e) q)
    (λ y. let f = any_has (λ p. p == q) (published (event_of e)) y in
    let has : Has q (published (event_of e)) = subst (λ j. Has j (published (event_of e))) (eqb-true f.0 q f.2) f.1 in
    let hot = all_to (λ p. is_hot (s.place p)) (pages_of (event_of e)) (and_true (are_hot s (pages_of (event_of e))) (needs g s (event_of e)) m).0 q (is_published e ne q has) in
    absurd (true≢false (sym hot ∙ off)))
    (λ n. n))

left_since : (w : ℕ) (x : Place) → epoch_of (left_by w x) ≡ epoch_of x
left_since w (Place.Hot f) = refl
left_since w (Place.Cooling f e v) = refl
left_since w Place.Cold = refl

-- ## Events of others

record Still (s t : State) : Type 0 where
  pub queue : t.queue ≡ s.queue
  pub epoch : t.epoch ≡ s.epoch
  pub hot : (q : ℕ) → is_hot (t.place q) ≡ is_hot (s.place q)
  pub cooling : (q : ℕ) → is_cooling (t.place q) ≡ is_cooling (s.place q)
  pub cold : (q : ℕ) → is_cold (t.place q) ≡ is_cold (s.place q)
  pub frame : (q f : ℕ) → in_frame (t.place q) f ≡ in_frame (s.place q) f
  pub since : (q : ℕ) → epoch_of (t.place q) ≡ epoch_of (s.place q)
  pub saved : (q : ℕ) → t.saved q ≡ s.saved q
  pub page : (q : ℕ) → is_hot (s.place q) ≡ false → t.page q ≡ s.page q
  pub unwaited : (q w : ℕ) → waits_for (s.place q) w ≡ false → waits_for (t.place q) w ≡ false

still_none : (s : State) → Still s s
still_none s = record { queue = refl; epoch = refl; hot = λ q. refl; cooling = λ q. refl; cold = λ q. refl; frame = λ q f. refl; since = λ q. refl; saved = λ q. refl; page = λ q h. refl; unwaited = λ q w h. h }

still_then : (s t u : State) → Still s t → Still t u → Still s u
still_then s t u a b = record {
  queue = b.queue ∙ a.queue;
  epoch = b.epoch ∙ a.epoch;
  hot = λ q. b.hot q ∙ a.hot q;
  cooling = λ q. b.cooling q ∙ a.cooling q;
  cold = λ q. b.cold q ∙ a.cold q;
  frame = λ q f. b.frame q f ∙ a.frame q f;
  since = λ q. b.since q ∙ a.since q;
  saved = λ q. b.saved q ∙ a.saved q;
  page = λ q h. b.page q (a.hot q ∙ h) ∙ a.page q h;
  unwaited = λ q w h. b.unwaited q w (a.unwaited q w h);
}

module _ (v : Given) where
  still_next : (m : Moment) (e : Event) → actor_of e ≢ pager → Still m.core (stepped v m e).core
  unfolding stepped
  still_next m e ne = go (core.may (opening v) m.core (event_of e)) refl
    where
      go : (b : Bool) → core.may (opening v) m.core (event_of e) ≡ b → Still m.core (if b then happens (opening v) m.core (event_of e) else m.core)
      go true ok = record {
        queue = queue_same (opening v) m.core e ne;
        epoch = epoch_same (opening v) m.core e ne;
        hot = λ q. place_same is_hot left_hot (opening v) m.core e q ne;
        cooling = λ q. place_same is_cooling left_cooling (opening v) m.core e q ne;
        cold = λ q. place_same is_cold left_cold (opening v) m.core e q ne;
        frame = λ q f. place_same (λ x. in_frame x f) (λ w x. left_frame w x f) (opening v) m.core e q ne;
        since = λ q. place_same epoch_of left_since (opening v) m.core e q ne;
        saved = λ q. saved_same (opening v) m.core e q ne;
        page = λ q h. page_same (opening v) m.core e q ne ok h;
        unwaited = λ q w h. unwaited_happens (opening v) m.core e q w ne h;
      }
      go false unmet = still_none m.core

  still_on : (es : List Event) (m : Moment) → by pager es ≡ [] → Still m.core (run v m es).core
  still_on [] m none = still_none m.core
  still_on (e ∷ es) m none =
      let o = none_of pager e es none in
      still_then m.core (stepped v m e).core (run v (stepped v m e) es).core (still_next m e o.0) (still_on es (stepped v m e) o.1)

none_more : (alone : Bool) (v u : View) (es : List Event) → IsStill alone v es → (r : Ran alone v es u) → by pager r.more ≡ []
none_more true v u es i r = ap (by pager) (r.all refl) ∙ i
none_more false v u es i r = subst (λ a. by a r.more ≡ []) i.0 (r.own refl ∙ i.1)

pub every_stood : EveryStood
every_stood z v u es i r =
    let e : state u ≡ run v.given (state v) r.more = (λ i. after_all (r.given i) (r.seen i)) ∙ run_append v.given (begun v.given) v.seen r.more in
    let k : Still (state v).core (state u).core = subst (λ (m : Moment). Still (state v).core m.core) (sym e) (still_on v.given r.more (state v) (none_more z.alone v u es i r)) in
    record { queue = k.queue; epoch = k.epoch; hot = k.hot; cooling = k.cooling; cold = k.cold; frame = k.frame; since = k.since; saved = k.saved; page = k.page; unwaited = k.unwaited }
