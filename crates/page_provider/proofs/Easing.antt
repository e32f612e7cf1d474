-- A page that is saved and leaves: no hot page is moved by that, and none comes.
use Rattle.std.proofs.Common.{◌≡◌, ◌≤◌, ◌==◌, ℕ, Bool, true, false, List, [], ◌∷◌, refl, sym, ap, subst, ◌∙◌, true≢false}
use Rattle.std.specs.Prelude.{if◌then◌else◌}
use Rattle.std.proofs.lemmas.Bool.{eqb-true}
use Rattle.map_model.proofs.ListLemmas.{upd_other}
use Rattle.btree_descent.specs.core_state.Openings.{Opening}
use Rattle.btree_descent.specs.core_state.States.{Place, State, flushed_by_all, in_frame, is_cold, is_cooling, is_hot}
use Rattle.btree_descent.specs.core_state.Events as happening
use Rattle.btree_descent.specs.core_state.Needs as core
use Rattle.btree_descent.specs.core_state.Needs.{is_dirty}
use Rattle.btree_descent.specs.core_state.Steps.{happens}
use Rattle.btree_descent.specs.row_words.declared.event.Event.{Event}
use Rattle.btree_descent.specs.row_words.declared.event.Event.TheVariants as told
use Rattle.btree_descent.specs.row_words.declared.given.Given.{Given}
use Rattle.btree_descent.specs.row_words.Moments.{Moment, by, event_of, pager}
use Rattle.btree_descent.specs.row_words.Openings.{opening}
use Rattle.btree_descent.specs.row_words.Sealed.{run, stepped}
use Rattle.btree_descent.specs.rows_trait.declared.view.View.{View}
use Rattle.btree_descent.specs.rows_trait.Views.{NoSync, Shape, state}
use Rattle.btree_descent.specs.rows_trait.Turns.{Ran}
use Rattle.btree_descent.specs.lean_proto.Still.{Stood}
use Rattle.page_provider.specs.Inside.{MayGo}
use Rattle.page_provider.specs.Laws.{RowLaws}
use Rattle.page_provider.specs.Moves.{AreMet, KeepsPath, Rested}
use Rattle.page_provider.specs.Providers.{Provider, Keeps}
use Rattle.page_provider.proofs.Departures.{dirty_on, evict_met, go_on, low_on, page_on, save_met, saved_clean, saved_goes, saved_keeps}
use Rattle.page_provider.proofs.Joins.{met_one}
use Rattle.page_provider.proofs.Keeping.{at_event, event_happens, parted, stood_after, stood_before}
use Rattle.page_provider.proofs.Standing.{core_step, onward, ran_state, state_on, stood_others}

-- ## Places

pub record Eased (s t : State) : Type 0 where
  pub cold : (p : ℕ) → is_cold (s.place p) ≡ true → is_cold (t.place p) ≡ true
  pub saved : (p : ℕ) → is_cold (s.place p) ≡ true → t.saved p ≡ s.saved p
  pub hot : (p f : ℕ) → s.place p ≡ Place.Hot f → t.place p ≡ Place.Hot f

pub eased_then : {s t x : State} → Eased s t → Eased t x → Eased s x
eased_then a b = record {
  cold = λ p h. b.cold p (a.cold p h);
  saved = λ p h. b.saved p (a.cold p h) ∙ a.saved p h;
  hot = λ p f h. b.hot p f (a.hot p f h);
}

pub hot_is : (x : Place) (f : ℕ) → is_hot x ≡ true → in_frame x f ≡ true → x ≡ Place.Hot f
hot_is (Place.Hot i) f h k = ap Place.Hot (eqb-true i f k)
hot_is (Place.Cooling i e w) f h k = absurd (true≢false (sym h))
hot_is Place.Cold f h k = absurd (true≢false (sym h))

pub in_own : (f : ℕ) → in_frame (Place.Hot f) f ≡ true
in_own f = Rattle.std.proofs.Common.eq-eqb f f refl

pub hot_stays : {v u : View} → Stood v u → (p f : ℕ) → (state v).core.place p ≡ Place.Hot f → (state u).core.place p ≡ Place.Hot f
hot_stays {v = v} {u = u} st p f h = hot_is ((state u).core.place p) f (st.hot p ∙ ap is_hot h) (st.frame p f ∙ (ap (λ x. in_frame x f) h ∙ in_own f))

pub eased_stood : {v u : View} → Stood v u → Eased (state v).core (state u).core
eased_stood st = record { cold = λ p h. st.cold p ∙ h; saved = λ p h. st.saved p; hot = hot_stays st }

pub eased_path : (v u : View) (path : List ℕ) → Eased (state v).core (state u).core → KeepsPath path v u
eased_path v u path e f p h k = e.hot p f k

cooling_cold : (x : Place) → is_cooling x ≡ true → is_cold x ≡ true → ⊥
cooling_cold (Place.Hot f) h k = true≢false (sym h)
cooling_cold (Place.Cooling f e w) h k = true≢false (sym k)
cooling_cold Place.Cold h k = true≢false (sym h)

cooling_hot : (x : Place) (f : ℕ) → is_cooling x ≡ true → x ≡ Place.Hot f → ⊥
cooling_hot x f h k = true≢false (sym h ∙ ap is_cooling k)

save_eased : (g : Opening) (s : State) (p : ℕ) → is_cooling (s.place p) ≡ true → Eased s (happens g s (happening.Event.Save p))
save_eased g s p c = record {
  cold = λ q h. h;
  saved = λ q h. upd_other s.saved p (s.page p) q (λ e. cooling_cold (s.place p) c (subst (λ n. is_cold (s.place n) ≡ true) e h));
  hot = λ q f h. h;
}

evict_eased : (g : Opening) (s : State) (p : ℕ) → is_cooling (s.place p) ≡ true → Eased s (happens g s (happening.Event.Evict p))
evict_eased g s p c = record {
  cold = λ q h. ap is_cold (upd_other s.place p Place.Cold q (λ e. cooling_cold (s.place p) c (subst (λ n. is_cold (s.place n) ≡ true) e h))) ∙ h;
  saved = λ q h. refl;
  hot = λ q f h. upd_other s.place p Place.Cold q (λ e. cooling_hot (s.place p) f c (subst (λ n. s.place n ≡ Place.Hot f) e h)) ∙ h;
}

-- ## Pages, where nobody else steps

-- no event changes a page
abbrev pub AreResting : List Event → Type 0
AreResting [] = Unit {0}
AreResting (told.Save p ∷ es) = AreResting es
AreResting (told.Evict p ∷ es) = AreResting es
AreResting (told.Cool p ∷ es) = AreResting es
AreResting (told.Tick ∷ es) = AreResting es
AreResting (told.Miss w ∷ es) = AreResting es
AreResting (_ ∷ es) = ⊥

rest_happens : (g : Opening) (s : State) (e : Event) (es : List Event) → AreResting (e ∷ es) → ((p : ℕ) → (happens g s (event_of e)).page p ≡ s.page p) × AreResting es
rest_happens g s (told.Save q) es r = (λ p. refl, r)
rest_happens g s (told.Evict q) es r = (λ p. refl, r)
rest_happens g s (told.Cool q) es r = (λ p. refl, r)
rest_happens g s told.Tick es r = (λ p. refl, r)
rest_happens g s (told.Miss w) es r = (λ p. refl, r)
rest_happens g s _ es r = absurd r

rest_run : (g : Given) (m : Moment) (es : List Event) → AreResting es → (p : ℕ) → (run g m es).core.page p ≡ m.core.page p
rest_run g m [] r p = refl
rest_run g m (e ∷ es) r p =
    let o = rest_happens (opening g) m.core e es r in
    rest_run g (stepped g m e) es o.1 p ∙ (ap (λ (s : State). s.page p) (core_step g m e) ∙ go (core.may (opening g) m.core (event_of e)) (o.0 p))
  where
    go : (b : Bool) → (happens (opening g) m.core (event_of e)).page p ≡ m.core.page p → (if b then happens (opening g) m.core (event_of e) else m.core).page p ≡ m.core.page p
    go true h = h
    go false h = refl

pub rest_pages : {alone : Bool} {v u : View} {es : List Event} → Ran alone v es u → AreResting es → alone ≡ true → (p : ℕ) → (state u).core.page p ≡ (state v).core.page p
rest_pages {v = v} {u = u} {es = es} r k one p =
    let s = ran_state r ∙ state_on v r.more in
    ap (λ (m : Moment). m.core.page p) s ∙ rest_run v.given (state v) r.more (subst AreResting (sym (r.all one)) k) p

pub eased_rested : {z : Shape} {v u : View} {es : List Event} → Ran z.alone v es u → AreResting es → Eased (state v).core (state u).core → Rested z v u
eased_rested r k e = record { cold = e.cold; saved = e.saved; pages = rest_pages r k }

-- ## A save, and an eviction

module _ {z : Shape} {v u : View} {k : Provider} {p : ℕ} (laws : RowLaws) (none : v.held ≡ []) (c : Keeps z v k) (m : MayGo v p) where
  module _ (low : ((state v).core.page p).gsn ≤ flushed_by_all (opening v.given) (state v).core) (r : Ran z.alone v (told.Save p ∷ []) u) where
    save_need : (before : List Event) → by pager before ≡ [] → NoSync before → core.may (opening v.given) (state (onward v before)).core (happening.Event.Save p) ≡ true
    save_need before first part =
        let st = stood_others laws.stood z v before first in
        let mid : MayGo (onward v before) p = go_on refl st m in
        save_met (opening v.given) (state (onward v before)).core p mid.cooling (let a = ap (λ x. x.gsn) (page_on st m) in let b = low_on laws.loads z v (onward v before) before none refl refl part in omega Rattle.std.proofs.Common.arith)

    pub save_ran : AreMet v.given (state v) r.more
    save_ran = met_one z.alone v u (told.Save p) c.actor r save_need

    pub save_eases : Eased (state v).core (state u).core
    save_eases =
        let q = parted z.alone v u (told.Save p) c.actor r in
        let at : Stood v (at_event q) = stood_before z laws.stood r.given q in
        let mid : MayGo (at_event q) p = go_on refl at m in
        let now = event_happens q (save_need q.before q.first q.part) in
        eased_then (eased_stood at) (eased_then (subst (Eased (state (at_event q)).core) (sym now) (save_eased (opening v.given) (state (at_event q)).core p mid.cooling)) (eased_stood (stood_after z laws.stood r.given q)))

    pub save_keeps : Keeps z u k
    save_keeps = saved_keeps laws.stood laws.standing laws.pools laws.loads none c m low r (parted z.alone v u (told.Save p) c.actor r)

    pub save_goes : MayGo u p
    save_goes = saved_goes laws.stood laws.standing laws.pools laws.loads none c m low r (parted z.alone v u (told.Save p) c.actor r)

    pub save_clean : is_dirty (state u).core p ≡ false
    save_clean = saved_clean laws.stood laws.standing laws.pools laws.loads none c m low r (parted z.alone v u (told.Save p) c.actor r)

  module _ (clean : is_dirty (state v).core p ≡ false) (r : Ran z.alone v (told.Evict p ∷ []) u) where
    evict_need : (before : List Event) → by pager before ≡ [] → NoSync before → core.may (opening v.given) (state (onward v before)).core (happening.Event.Evict p) ≡ true
    evict_need before first part =
        let st = stood_others laws.stood z v before first in
        let mid : MayGo (onward v before) p = go_on refl st m in
        evict_met (opening v.given) (state (onward v before)).core p mid.cooling (dirty_on st m ∙ clean) mid.unwaited

    pub evict_ran : AreMet v.given (state v) r.more
    evict_ran = met_one z.alone v u (told.Evict p) c.actor r evict_need

    pub evict_eases : Eased (state v).core (state u).core
    evict_eases =
        let q = parted z.alone v u (told.Evict p) c.actor r in
        let at : Stood v (at_event q) = stood_before z laws.stood r.given q in
        let mid : MayGo (at_event q) p = go_on refl at m in
        let now = event_happens q (evict_need q.before q.first q.part) in
        eased_then (eased_stood at) (eased_then (subst (Eased (state (at_event q)).core) (sym now) (evict_eased (opening v.given) (state (at_event q)).core p mid.cooling)) (eased_stood (stood_after z laws.stood r.given q)))
