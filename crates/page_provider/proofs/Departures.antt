-- A cooling page that waits for nobody: what it needs to be saved and to leave stays, and what the pager keeps over
-- both.
use Rattle.std.proofs.Common.{◌≡◌, ◌<◌, ◌≤◌, ◌&&◌, not, ltb, leb, ℕ, zero, suc, Bool, true, false, List, [], ◌∷◌, ◌++◌, append-nil, refl, sym, ap, subst, ◌∙◌, arith, true≢false}
use Rattle.std.proofs.lemmas.Bool.{and_from, le-leb, ltb-true}
use Rattle.map_model.proofs.ListLemmas.{upd_same}
use Rattle.rfa_model.specs.Reaches.{least}
use Rattle.btree_descent.specs.core_state.Lists.{all_below}
use Rattle.btree_descent.specs.core_state.Openings.{Opening}
use Rattle.btree_descent.specs.core_state.States.{Place, State, flushed_by_all, frame_of, in_frame, is_cold, is_cooling, is_hot, waits_for}
use Rattle.btree_descent.specs.core_state.Events as happening
use Rattle.btree_descent.specs.core_state.Needs as core
use Rattle.btree_descent.specs.core_state.Needs.{is_dirty}
use Rattle.btree_descent.specs.core_state.Steps.{happens}
use Rattle.btree_descent.specs.core_paging.Paging.{Residence}
use Rattle.btree_descent.specs.row_words.declared.event.Event.{Event}
use Rattle.btree_descent.specs.row_words.declared.event.Event.TheVariants as told
use Rattle.btree_descent.specs.row_words.declared.given.Given.{Given}
use Rattle.btree_descent.specs.row_words.Openings.{opening}
use Rattle.btree_descent.specs.row_words.Sealed.{heard}
use Rattle.btree_descent.specs.rows_trait.declared.view.Act.TheVariants.{Hear}
use Rattle.btree_descent.specs.rows_trait.declared.view.View.{View}
use Rattle.btree_descent.specs.rows_trait.Views.{Shape, NoSync, holds, state}
use Rattle.btree_descent.specs.rows_trait.Turns.{Heard, Ran}
use Rattle.btree_descent.specs.lean_proto.Controls.{EveryLoad}
use Rattle.btree_descent.specs.lean_proto.Still.{Stood, EveryStood}
use Rattle.cooling_stage.specs.Queue.{without}
use Rattle.page_pool.specs.Pools.{Agrees, EveryPool, EveryStanding}
use Rattle.page_provider.specs.Providers.{Provider, Keeps, pool}
use Rattle.page_provider.specs.Inside.{MayGo}
use Rattle.cold_pages.specs.Kept.{left}
use Rattle.page_model.specs.Page.{Page}
use Rattle.page_moves.specs.Moves.{contents_of}
use Rattle.page_provider.proofs.Kept.{kept_left}
use Rattle.page_provider.proofs.Keeping.{Parted, at_event, by_event, event_happens, keeps_before, keeps_event, stood_after, stood_before}

-- ## Flushed numbers

pub least_up : (f h : ℕ → ℕ) (n : ℕ) → ((c : ℕ) → 0 < c → f c ≤ h c) → least f n ≤ least h n
least_up f h zero up = up 1 (omega arith)
least_up f h (suc n) up = let a = up (suc n) (omega arith) in let b = least_up f h n up in omega arith

-- a load of the word would tell that it never falls
pub flushed_up : EveryLoad → Shape → (v u : View) (more : List Event) → v.held ≡ [] → u.given ≡ v.given → u.seen ≡ v.seen ++ more → NoSync more → (c : ℕ) → 0 < c → (state v).core.flushed c ≤ (state u).core.flushed c
flushed_up every z v u more none given seen part c some =
    let n = heard (state v) c 0 in
    let w : View = record v { steps = Hear c 0 n ∷ v.steps } in
    let h : Heard z c 0 (λ _. []) v n w = record {
      goes = record {
        between = [];
        quiet = λ _. refl;
        apart = tt;
        seen = sym (append-nil (v.seen ++ []) ∙ append-nil v.seen);
        part = λ _. tt;
        since = record { acts = Hear c 0 n ∷ []; steps = refl };
        given = refl;
        actor = refl;
        live = refl;
        made = refl;
        ended = refl;
        stands = λ row mine. absurd (true≢false (sym mine ∙ ap (λ hs. holds hs row) none));
      };
      steps = refl;
      held = refl;
      word = refl;
    } in
    let k = every z v c (λ _. []) n w some h in
    subst (λ m. m ≤ (state u).core.flushed c) (sym k.now) (k.later u more given seen part)

pub low_on : EveryLoad → Shape → (v u : View) (more : List Event) → v.held ≡ [] → u.given ≡ v.given → u.seen ≡ v.seen ++ more → NoSync more → flushed_by_all (opening v.given) (state v).core ≤ flushed_by_all (opening u.given) (state u).core
low_on every z v u more none given seen part =
    subst (λ (g : Given). flushed_by_all (opening v.given) (state v).core ≤ flushed_by_all (opening g) (state u).core) (sym given)
    (least_up (state v).core.flushed (state u).core.flushed (opening v.given).workers (flushed_up every z v u more none given seen part))

-- ## What an event needs

cool_off : (x : Place) → is_cooling x ≡ true → (is_hot x ≡ false) × (is_cold x ≡ false)
cool_off (Place.Hot f) h = absurd (true≢false (sym h))
cool_off (Place.Cooling f e w) h = (refl, refl)
cool_off Place.Cold h = absurd (true≢false (sym h))

pub save_met : (g : Opening) (s : State) (p : ℕ) → is_cooling (s.place p) ≡ true → (s.page p).gsn ≤ flushed_by_all g s → core.may g s (happening.Event.Save p) ≡ true
save_met g s p c low = and_from (not (is_cold (s.place p))) (leb (s.page p).gsn (flushed_by_all g s)) (ap not (cool_off (s.place p) c).1) (le-leb (s.page p).gsn (flushed_by_all g s) low)

none_waits : (n : ℕ) (x : Place) → ((w : ℕ) → w < n → waits_for x w ≡ false) → all_below n (λ w. not (waits_for x w)) ≡ true
none_waits zero x none = refl
none_waits (suc n) x none = and_from (not (waits_for x n)) (all_below n (λ w. not (waits_for x w))) (ap not (none n (omega arith))) (none_waits n x (λ w few. none w (omega arith)))

pub evict_met : (g : Opening) (s : State) (p : ℕ) → is_cooling (s.place p) ≡ true → is_dirty s p ≡ false → ((w : ℕ) → w ≤ g.workers → waits_for (s.place p) w ≡ false) → core.may g s (happening.Event.Evict p) ≡ true
evict_met g s p c clean none = and_from (is_cooling (s.place p)) (not (is_dirty s p) && all_below (suc g.workers) (λ w. not (waits_for (s.place p) w))) c
    (and_from (not (is_dirty s p)) (all_below (suc g.workers) (λ w. not (waits_for (s.place p) w))) (ap not clean) (none_waits (suc g.workers) (s.place p) (λ w few. none w (omega arith))))

-- ## What stays

pub go_on : {v u : View} {p : ℕ} → u.given ≡ v.given → Stood v u → MayGo v p → MayGo u p
go_on {p = p} given st m = record {
  below = subst (λ (g : Given). p < (opening g).format.pages) (sym given) m.below;
  cooling = st.cooling p ∙ m.cooling;
  unwaited = λ w few. st.unwaited p w (m.unwaited w (subst (λ (g : Given). w ≤ (opening g).workers) given few));
}

pub page_on : {v u : View} {p : ℕ} → Stood v u → MayGo v p → (state u).core.page p ≡ (state v).core.page p
page_on {v = v} {p = p} st m = st.page p (cool_off ((state v).core.place p) m.cooling).0

pub dirty_on : {v u : View} {p : ℕ} → Stood v u → MayGo v p → is_dirty (state u).core p ≡ is_dirty (state v).core p
dirty_on {p = p} st m = let a = st.saved p in let b = page_on st m in (λ i. ltb (a i).gsn (b i).gsn)

-- ## A save

same_small : (n : ℕ) → ltb n n ≡ false
same_small n = go (ltb n n) refl
  where
    go : (b : Bool) → ltb n n ≡ b → b ≡ false
    go true e = let l = ltb-true n n e in absurd (omega arith)
    go false e = refl

module _ {z : Shape} {v u : View} {k : Provider} {p : ℕ} (every : EveryStood) (standing : EveryStanding) (pools : EveryPool) (loads : EveryLoad) (none : v.held ≡ []) (c : Keeps z v k) (m : MayGo v p) (low : ((state v).core.page p).gsn ≤ flushed_by_all (opening v.given) (state v).core) (r : Ran z.alone v (told.Save p ∷ []) u) (q : Parted v (told.Save p) u) where
  abbrev s : State
  s = (state (at_event q)).core

  st : Stood v (at_event q)
  st = stood_before z every r.given q

  mid : MayGo (at_event q) p
  mid = go_on refl st m

  save_may : core.may (opening v.given) s (happening.Event.Save p) ≡ true
  save_may = save_met (opening v.given) s p mid.cooling (let a = ap (λ x. x.gsn) (page_on st m) in let b = low_on loads z v (at_event q) q.before none refl refl q.part in omega arith)

  now : (state (by_event q)).core ≡ happens (opening v.given) s (happening.Event.Save p)
  now = event_happens q save_may

  pub saved_keeps : Keeps z u k
  saved_keeps =
      let b = keeps_before every standing r.given q c in
      keeps_event every standing r q c (happens (opening v.given) s (happening.Event.Save p)) now (record {
        frame = refl;
        worker = refl;
        page = refl;
        agrees = pools (opening v.given) s (happening.Event.Save p) (pool k) refl save_may (c.sound (v.seen ++ q.before)).residence b.agrees;
        kept = b.kept;
        epoch = b.epoch;
      })

  behind : MayGo (by_event q) p
  behind = record {
    below = m.below;
    cooling = ap (λ (t : State). is_cooling (t.place p)) now ∙ mid.cooling;
    unwaited = λ w few. ap (λ (t : State). waits_for (t.place p) w) now ∙ mid.unwaited w few;
  }

  pub saved_goes : MayGo u p
  saved_goes = go_on r.given (stood_after z every r.given q) behind

  pub saved_clean : is_dirty (state u).core p ≡ false
  saved_clean = dirty_on (stood_after z every r.given q) behind ∙ (ap (λ (t : State). is_dirty t p) now ∙ (ap (λ x. ltb x.gsn (s.page p).gsn) (upd_same s.saved p (s.page p) p refl) ∙ same_small (s.page p).gsn))

-- ## An eviction

-- behind it the frame is empty, and what the page was is kept
abbrev pub emptied : Provider → (page frame : ℕ) → Page → Provider
emptied k page frame n = record k { queue = without page k.queue; empty = k.empty ++ frame ∷ []; kept = left k.kept page n }

pub framed : (x : Place) (f : ℕ) → in_frame x f ≡ true → frame_of x ≡ f
framed (Place.Hot i) f h = Rattle.std.proofs.lemmas.Bool.eqb-true i f h
framed (Place.Cooling i e w) f h = Rattle.std.proofs.lemmas.Bool.eqb-true i f h
framed Place.Cold f h = absurd (true≢false (sym h))

module _ {z : Shape} {v u : View} {k : Provider} {p : ℕ} (f : ℕ) (every : EveryStood) (standing : EveryStanding) (pools : EveryPool) (c : Keeps z v k) (m : MayGo v p) (clean : is_dirty (state v).core p ≡ false) (here : in_frame ((state v).core.place p) f ≡ true) (r : Ran z.alone v (told.Evict p ∷ []) u) (q : Parted v (told.Evict p) u) (n : Page) (is : contents_of n ≡ (state v).core.page p) where
  abbrev at : State
  at = (state (at_event q)).core

  before : Stood v (at_event q)
  before = stood_before z every r.given q

  ready : MayGo (at_event q) p
  ready = go_on refl before m

  home : frame_of (at.place p) ≡ f
  home = framed (at.place p) f (before.frame p f ∙ here)

  evict_may : core.may (opening v.given) at (happening.Event.Evict p) ≡ true
  evict_may = evict_met (opening v.given) at p ready.cooling (dirty_on before m ∙ clean) ready.unwaited

  kept : Keeps z (at_event q) k
  kept = keeps_before every standing r.given q c

  residence : Residence (opening v.given) at
  residence = (c.sound (v.seen ++ q.before)).residence

  abbrev gone : State
  gone = happens (opening v.given) at (happening.Event.Evict p)

  pub evicted_keeps : Keeps z u (emptied k p f n)
  evicted_keeps = keeps_event every standing r q c gone (event_happens q evict_may) (record {
    frame = refl;
    worker = refl;
    page = refl;
    agrees = subst (λ i. Agrees (opening v.given) gone (record { queue = without p k.queue; empty = k.empty ++ i ∷ []; free = (pool k).free })) home (pools (opening v.given) at (happening.Event.Evict p) (pool k) refl evict_may residence kept.agrees);
    kept = kept_left (opening v.given) at k.kept (c.sound (v.seen ++ q.before)).tree kept.kept p n m.below (is ∙ sym (page_on before m));
    epoch = kept.epoch;
  })
