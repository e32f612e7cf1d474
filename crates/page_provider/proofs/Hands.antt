-- The hand: what a step over a frame has shown, and how steps join.
use Rattle.std.proofs.Common.{◌≡◌, ◌≢◌, ◌<◌, ◌≤◌, ◌+◌, ◌^◌, ◌==◌, ◌||◌, ◌&&◌, not, ℕ, zero, suc, Bool, true, false, List, [], ◌∷◌, ◌++◌, length, get_or, Option, Some, None, Ok, Err, append-nil, ltb, inl, inr, refl, sym, ap, subst, ◌∙◌, arith, true≢false, eq-eqb, ne_eqb}
use Rattle.std.specs.List.{IsAnyAnswer}
use Rattle.std.specs.Prelude.{Result, IfErr}
use Rattle.std.proofs.lemmas.Bool.{and_from, eqb-true, ltb-true, ltb-false}
use Rattle.map_model.specs.Lists.{Has, any}
use Rattle.page_model.specs.Check.{names_page}
use Rattle.btree_descent.specs.core_state.Lists.{all_below}
use Rattle.btree_descent.specs.core_state.Openings.{Opening}
use Rattle.btree_descent.specs.core_state.Needs.{has_hot_child}
use Rattle.btree_descent.specs.core_state.States.{Place, State, frame_of, in_frame, is_hot}
use Rattle.btree_descent.specs.core_paging.Paging.{Residence}
use Rattle.btree_descent.proofs.core_paging.Places.{below}
use Rattle.btree_descent.specs.row_words.declared.event.Event.{Event}
use Rattle.btree_descent.specs.row_words.declared.event.Event.TheVariants as told
use Rattle.btree_descent.specs.row_words.declared.given.Given.{Given}
use Rattle.btree_descent.specs.row_words.Openings.{opening}
use Rattle.btree_descent.specs.rows_trait.declared.view.View.{View}
use Rattle.btree_descent.specs.rows_trait.Views.{Shape, after_all, state}
use Rattle.btree_descent.specs.rows_trait.Turns.{Ran}
use Rattle.btree_descent.proofs.rows_trait.Runs.{ran_append, ran_none}
use Rattle.btree_descent.specs.lean_proto.Still.{Stood}
use Rattle.row_image.specs.declared.sight.Sight.{Sight}
use Rattle.row_image.specs.Hot.{IsHotIn}
use Rattle.cooling_stage.specs.declared.stage.Cooling.{Cooling}
use Rattle.page_provider.specs.declared.refusal.Refusal.{Refusal}
use Rattle.page_provider.specs.Cools.{chilled, CoolsOrNot, Hangs, HasCooled, Idle, Passes, Stepped, Steps, Turns}
use Rattle.page_provider.specs.Finds.{Candidate, Halts, HasCandidate, IsSeen, SinceFound, Stalls, Stopped}
use Rattle.page_provider.specs.Laws.{RowLaws}
use Rattle.page_provider.specs.Moves.{IsSame, KeepsPath, Moved, Rested, is_on, way}
use Rattle.page_provider.specs.Providers.{Provider, Keeps}
use Rattle.page_provider.proofs.Easing.{eased_path, eased_rested, eased_stood, hot_is, hot_stays, in_own}
use Rattle.page_provider.proofs.Joins.{met_misses, met_then, ran_join}
use Rattle.page_provider.proofs.Keeping.{keeps_ran, ran_stood}
use Rattle.page_provider.proofs.Moving.{keeps_hand, rested_then, same_none, same_then}
use Rattle.page_provider.proofs.Loaded.{caused_before}

-- ## Lists

any_one : (xs : List ℕ) (row k : ℕ) → k < length xs → ((d : ℕ) → (get_or xs k d == row) ≡ true) → any (λ i. i == row) xs ≡ true
any_one [] row k lt h = absurd (omega arith)
any_one (x ∷ xs) row zero lt h = ap (λ b. b || any (λ i. i == row) xs) (h 0)
any_one (x ∷ xs) row (suc k) lt h = let rest = any_one xs row k (omega arith) h in go (x == row) rest
  where
    go : (b : Bool) → any (λ i. i == row) xs ≡ true → (b || any (λ i. i == row) xs) ≡ true
    go true r = refl
    go false r = r

any_none : (xs : List ℕ) (row : ℕ) → ((k d : ℕ) → k < length xs → (get_or xs k d == row) ≡ false) → any (λ i. i == row) xs ≡ false
any_none [] row h = refl
any_none (x ∷ xs) row h = (λ i. h 0 0 (omega arith) i || any_none xs row (λ k d lt. h (suc k) d (omega arith)) i)

pub any_is : (xs : List ℕ) (row : ℕ) (b : Bool) → IsAnyAnswer (λ y t. (y == row) ≡ t) xs b → any (λ i. i == row) xs ≡ b
any_is xs row true h = any_one xs row h.0 h.1 h.2
any_is xs row false h = any_none xs row (λ k d lt. h k d (omega arith) lt)

-- ## Hot children

has_any : (xs : List ℕ) (f : ℕ) → Has f xs → any (λ i. i == f) xs ≡ true
has_any [] f h = absurd h
has_any (x ∷ xs) f (inl e) = ap (λ b. b || any (λ i. i == f) xs) (eq-eqb x f (sym e))
has_any (x ∷ xs) f (inr h) = let rest = has_any xs f h in go (x == f) rest
  where
    go : (b : Bool) → any (λ i. i == f) xs ≡ true → (b || any (λ i. i == f) xs) ≡ true
    go true r = refl
    go false r = r

pub hot_child : (g : Opening) (s : State) (q c : ℕ) → c < g.format.pages → names_page (s.page q).node c ≡ true → is_hot (s.place c) ≡ true → has_hot_child g s q ≡ true
hot_child g s q c lt names hot = go (all_below g.format.pages (λ i. not (names_page (s.page q).node i && is_hot (s.place i)))) refl
  where
    go : (b : Bool) → all_below g.format.pages (λ i. not (names_page (s.page q).node i && is_hot (s.place i))) ≡ b → not b ≡ true
    go true e = absurd (true≢false (sym (below g.format.pages (λ i. not (names_page (s.page q).node i && is_hot (s.place i))) e c lt) ∙ ap not (and_from (names_page (s.page q).node c) (is_hot (s.place c)) names hot)))
    go false e = refl

hot_frame : (x : Place) → is_hot x ≡ true → x ≡ Place.Hot (frame_of x)
hot_frame (Place.Hot f) h = refl
hot_frame (Place.Cooling f e w) h = absurd (true≢false (sym h))
hot_frame Place.Cold h = absurd (true≢false (sym h))

pub hot_below : {g : Opening} {s : State} → Residence g s → (p : ℕ) → is_hot (s.place p) ≡ true → (p < g.format.pages) × (frame_of (s.place p) < g.frames)
hot_below {s = s} r p h = r.within p (frame_of (s.place p)) (ap (λ x. Rattle.btree_descent.specs.core_state.States.in_frame x (frame_of (s.place p))) (hot_frame (s.place p) h) ∙ in_own (frame_of (s.place p)))

-- ## The way

zero_on : (path : List ℕ) (x : Place) → is_on path 0 x ≡ true
zero_on path (Place.Hot f) = refl
zero_on path (Place.Cooling f e w) = refl
zero_on path Place.Cold = refl

framed_on : (path : List ℕ) (p f : ℕ) → any (λ i. i == f) path ≡ true → is_on path p (Place.Hot f) ≡ true
framed_on path p f h = go (p == 0)
  where
    go : (b : Bool) → (b || any (λ i. i == f) path) ≡ true
    go true = refl
    go false = h

framed_off : (path : List ℕ) (p f : ℕ) → (p ≡ 0 → ⊥) → any (λ i. i == f) path ≡ false → is_on path p (Place.Hot f) ≡ false
framed_off path p f ne h = (λ i. ne_eqb p 0 ne i || h i)

-- it is page 0, or stands hot in a frame of the path
abbrev pub IsOnWay : List ℕ → State → ℕ → Type 0
IsOnWay path s p = way path s p ≡ true

pub zero_way : (path : List ℕ) (s : State) (p : ℕ) → p ≡ 0 → way path s p ≡ true
zero_way path s p e = subst (λ n. way path s n ≡ true) (sym e) (zero_on path (s.place 0))

pub framed_way : (path : List ℕ) (s : State) (p f : ℕ) → s.place p ≡ Place.Hot f → any (λ i. i == f) path ≡ true → way path s p ≡ true
framed_way path s p f hot h = ap (is_on path p) hot ∙ framed_on path p f h

pub framed_off_way : (path : List ℕ) (s : State) (p f : ℕ) → s.place p ≡ Place.Hot f → (p ≡ 0 → ⊥) → any (λ i. i == f) path ≡ false → way path s p ≡ false
framed_off_way path s p f hot ne h = ap (is_on path p) hot ∙ framed_off path p f ne h

-- a page from which the candidate hangs, where that is on the way, is the candidate or has a hot child
pub hangs_child : {g : Opening} {s : State} (path : List ℕ) → Residence g s → (q p : ℕ) (chain : List ℕ) → Hangs s q chain p → way path s p ≡ true → way path s q ≡ false → has_hot_child g s q ≡ true
hangs_child {g = g} {s = s} path r q p [] h on off = absurd (true≢false (sym on ∙ (ap (way path s) (sym h) ∙ off)))
hangs_child {g = g} {s = s} path r q p (c ∷ cs) h on off = hot_child g s q c (hot_below r c h.1).0 h.0 h.1

-- ## Where nothing was appended

quiet_rested : {z : Shape} {v t : View} {k : Provider} → RowLaws → Keeps z v k → Ran z.alone v [] t → Rested z v t
quiet_rested laws c r = eased_rested r tt (eased_stood (ran_stood laws.stood c tt r))

stopped_behind : {n : ℕ} {z : Shape} {v t u : View} {why : Refusal} → Ran z.alone v [] t → Stopped n z t why u → Stopped n z v why u
stopped_behind {z = z} {v = v} {t = t} {u = u} r s = record {
  missed = record { events = s.missed.events; ran = ran_append z.alone v [] t s.missed.events u r s.missed.ran; misses = s.missed.misses; few = s.missed.few };
  held = s.held;
  kind = s.kind;
  quiet = s.quiet;
}

pub idle_ran : {z : Shape} {v t : View} {k : Provider} → RowLaws → Keeps z v k → t.held ≡ [] → Ran z.alone v [] t → Idle z v k t k
idle_ran {z = z} {v = v} {t = t} laws c none r = record {
  moved = record {
    events = [];
    goes = record { ran = r; held = none; keeps = keeps_ran laws.stood laws.standing tt r c };
    pagers = tt;
    ticked = tt;
    few = omega arith;
    met = met_misses z.alone v t [] c.actor r tt;
    same = same_none;
  };
  events_are = refl;
  memory = refl;
  rested = quiet_rested laws c r;
}

-- what ran, where nothing was done
pub idle_is : {z : Shape} {v u : View} {k is : Provider} → Idle z v k u is → Ran z.alone v [] u
idle_is {z = z} {v = v} {u = u} i = subst (λ es. Ran z.alone v es u) i.events_are i.moved.goes.ran

pub idle_path : {z : Shape} {v u : View} {was k : Provider} (path : List ℕ) → RowLaws → Keeps z v was → Idle z v was u k → KeepsPath path v u
idle_path {v = v} {u = u} path laws c i = eased_path v u path (eased_stood (ran_stood laws.stood c tt (idle_is i)))

pub idle_then : {z : Shape} {v t u : View} {a b c : Provider} → Keeps z v a → Idle z v a t b → Idle z t b u c → Idle z v a u c
idle_then {z = z} {v = v} {t = t} {u = u} {a = a} {c = c} keeps x y =
    let r = idle_is x in
    let s = idle_is y in
    record {
      moved = record {
        events = [];
        goes = record { ran = ran_join z.alone v [] t [] u r s; held = y.moved.goes.held; keeps = y.moved.goes.keeps };
        pagers = tt;
        ticked = tt;
        few = omega arith;
        met = met_misses z.alone v u [] keeps.actor (ran_join z.alone v [] t [] u r s) tt;
        same = same_then x.moved.same y.moved.same;
      };
      events_are = refl;
      memory = y.memory ∙ ap (λ (p : Provider). record p { hand = c.hand }) x.memory;
      rested = rested_then x.rested y.rested;
    }

-- where nobody else steps nothing is another state then
pub quiet_state : {alone : Bool} {v t : View} → Ran alone v [] t → alone ≡ true → (t.given ≡ v.given) × (t.seen ≡ v.seen)
quiet_state {v = v} r one = (r.given, r.seen ∙ (ap (λ es. v.seen ++ es) (r.all one) ∙ append-nil v.seen))

-- of frames, what a step over one has shown
abbrev pub IsShown : List ℕ → (f : ℕ) → View → Type 0
IsShown path f u = (q : ℕ) → IsHotIn u.given (state u) f q → way path (state u).core q ≡ false → has_hot_child (opening u.given) (state u).core q ≡ true

pub shown_on : {alone : Bool} {v t : View} (path : List ℕ) (f : ℕ) → Ran alone v [] t → alone ≡ true → IsShown path f v → IsShown path f t
shown_on path f r one h = let s = quiet_state r one in subst (λ (x : Given × List Event). (q : ℕ) → IsHotIn x.0 (after_all x.0 x.1) f q → way path (after_all x.0 x.1).core q ≡ false → has_hot_child (opening x.0) (after_all x.0 x.1).core q ≡ true) (λ i. (sym s.0 i, sym s.1 i)) h

-- ## A page that was cooled

module _ {z : Shape} {v t : View} {was k : Provider} (laws : RowLaws) (c : Keeps z v was) (r : Ran z.alone v [] t) (same : IsSame was k) where
  moved_behind : {n : ℕ} {u : View} {is : Provider} → (x : Moved n z t k u is) → (es : List Event) → x.events ≡ es → (y : Moved n z v was u is) × (y.events ≡ es)
  moved_behind {u = u} x es e = (
    record {
      events = x.events;
      goes = record { ran = ran_join z.alone v [] t x.events u r x.goes.ran; held = x.goes.held; keeps = x.goes.keeps };
      pagers = x.pagers;
      ticked = x.ticked;
      few = x.few;
      met = met_then r x.goes.ran (met_misses z.alone v t [] c.actor r tt) x.met;
      same = same_then same x.same;
    },
    e,
  )

  st : Stood v t
  st = ran_stood laws.stood c tt r

  hot_back : (p f : ℕ) → (state t).core.place p ≡ Place.Hot f → (state v).core.place p ≡ Place.Hot f
  hot_back p f h = hot_is ((state v).core.place p) f (sym (st.hot p) ∙ ap is_hot h) (sym (st.frame p f) ∙ (ap (λ x. in_frame x f) h ∙ in_own f))

  place_same : (p : ℕ) → is_hot ((state v).core.place p) ≡ true → (state t).core.place p ≡ (state v).core.place p
  place_same p h = let f = hot_frame ((state v).core.place p) h in hot_stays st p (frame_of ((state v).core.place p)) f ∙ sym f

  pub cooled_behind : {u : View} {is : Provider} {entry : Cooling} → k ≡ record was { hand = k.hand } → HasCooled z t k entry u is → HasCooled z v was entry u is
  cooled_behind {is = is} {entry = entry} memory h =
      let m = moved_behind h.moved (told.Cool entry.page ∷ (told.Tick ∷ [])) h.events_are in
      record {
        moved = m.0;
        events_are = m.1;
        hot = hot_back entry.page entry.frame h.hot;
        memory = h.memory ∙ ap (λ (p : Provider). chilled p entry is.free is.hand) memory;
        rested = rested_then (quiet_rested laws c r) h.rested;
        others = λ p ne hot. h.others p ne (st.hot p ∙ hot) ∙ place_same p hot;
      }

  pub stepped_behind : {path : List ℕ} {u : View} {is : Provider} {entry : Cooling} → k ≡ record was { hand = k.hand } → Stepped z path t k entry u is → Stepped z path v was entry u is
  stepped_behind {path = path} {entry = entry} memory h = record { cooled = cooled_behind memory h.cooled; off = ap (is_on path entry.page) (hot_back entry.page entry.frame h.cooled.hot ∙ sym h.cooled.hot) ∙ h.off }

pub halts_up : {m n : ℕ} {z : Shape} {v u : View} {why : Refusal} → m ≤ n → Halts m z v why u → Halts n z v why u
halts_up le h = record {
  stopped = record { missed = record { events = h.stopped.missed.events; ran = h.stopped.missed.ran; misses = h.stopped.missed.misses; few = let f = h.stopped.missed.few in omega arith }; held = h.stopped.held; kind = h.stopped.kind; quiet = h.stopped.quiet };
  cause = h.cause;
}

pub err_both : {A E : Type 0} (P Q R : E → Type 0) (r : Result A E) → ((e : E) → P e → Q e → R e) → IfErr r P → IfErr r Q → IfErr r R
err_both P Q R (Ok a) f p q = tt
err_both P Q R (Err e) f p q = f e p q

-- ## A step

pub candidate_none : (path : List ℕ) {z : Shape} {frame : ℕ} {v t : View} {k : Provider} → RowLaws → Keeps z v k → t.held ≡ [] → Candidate z v frame None t → Steps z path frame v k None t k
candidate_none path laws c none h = (idle_ran laws c none h.0, λ one q hot off. absurd (h.1 one q hot))

module _ {z : Shape} {frame : ℕ} {v t : View} {k : Provider} {s : Sight} (laws : RowLaws) (c : Keeps z v k) (none : t.held ≡ []) (h : HasCandidate z v frame s t) where
  pub there : Keeps z t k
  there = keeps_ran laws.stood laws.standing tt h.sight.ran c

  -- it is on the way
  pub candidate_way : (path : List ℕ) → way path (state t).core s.node.number ≡ true → Steps z path frame v k None t k
  candidate_way path on = (idle_ran laws c none h.sight.ran, λ one q hot off. let x = h.hangs one q hot in hangs_child path (there.sound t.seen).residence q s.node.number x.0 x.1 on off)

  pub candidate_zero : (path : List ℕ) → s.node.number ≡ 0 → Steps z path frame v k None t k
  candidate_zero path e = candidate_way path (zero_way path (state t).core s.node.number e)

  pub candidate_framed : (path : List ℕ) → any (λ i. i == s.glimpse.row) path ≡ true → Steps z path frame v k None t k
  candidate_framed path e = candidate_way path (framed_way path (state t).core s.node.number s.glimpse.row h.sight.stands.stands.hot e)

  pub candidate_seen : IsSeen z s t
  candidate_seen =
      let hot = h.sight.stands.stands.hot in
      let in_it = (there.sound t.seen).residence.within s.node.number s.glimpse.row (ap (λ x. in_frame x s.glimpse.row) hot ∙ in_own s.glimpse.row) in
      let lt = in_it.1 in
      let a = there.sized.shape in
      let b = there.sized.given in
      record { inside = omega arith; frame = lt; known = h.sight.known; last = λ _. h.sight.last }

  pub candidate_few : s.node.number < 2 ^ 32
  candidate_few = let lt = h.sight.stands.stands.below in let d = (there.sound t.seen).few in omega arith

  pub candidate_cooled : (path : List ℕ) (u : View) (is : Provider) → (s.node.number ≡ 0 → ⊥) → any (λ i. i == s.glimpse.row) path ≡ false → (done : Option Cooling) → CoolsOrNot z t k s.node.number s.glimpse.row done u is → Steps z path frame v k done u is
  candidate_cooled path u is ne off (Some entry) x =
      let on : (state t).core.place s.node.number ≡ Place.Hot s.glimpse.row = h.sight.stands.stands.hot in
      stepped_behind laws c h.sight.ran same_none refl (record { cooled = x.0; off = subst (λ p. way path (state t).core p ≡ false) (sym x.1) (framed_off_way path (state t).core s.node.number s.glimpse.row on ne off) })
  candidate_cooled path u is ne off None x =
      (subst (λ (p : Provider). Idle z v k u p) (sym x.2) (idle_then c (idle_ran laws c none h.sight.ran) (subst (λ (p : Provider). Idle z t k u p) x.2 x.0)), λ one. absurd (true≢false (sym one ∙ x.1)))

  pub candidate_halts : {n : ℕ} {why : Refusal} {u : View} → Stopped n z t why u → SinceFound s t why u → Halts n z v why u
  candidate_halts {n} {why} {u} x since = record { stopped = stopped_behind h.sight.ran x; cause = since v h.sight.found }

-- a step behind a look
pub steps_behind : {z : Shape} (frame : ℕ) {v t : View} {k : Provider} (path : List ℕ) (u : View) (is : Provider) → RowLaws → Keeps z v k → t.held ≡ [] → Ran z.alone v [] t → (done : Option Cooling) → Steps z path frame t k done u is → Steps z path frame v k done u is
steps_behind frame path u is laws c none r (Some entry) h = stepped_behind laws c r same_none refl h
steps_behind frame path u is laws c none r None h = (idle_then c (idle_ran laws c none r) h.0, h.1)

pub halts_behind : {n : ℕ} {z : Shape} {v t u : View} {why : Refusal} → Ran z.alone v [] t → Halts n z t why u → Halts n z v why u
halts_behind {u = u} {why = why} r h = record { stopped = stopped_behind r h.stopped; cause = caused_before u why r.since h.cause }

-- ## Over frames

pub hand_stalls : {n : ℕ} {z : Shape} {v u w : View} {was k is : Provider} {why : Refusal} → Idle z v was u k → k ≡ is → Halts n z u why w → Stalls n z v was why w is
hand_stalls {w = w} {was = was} {why = why} i same h = record {
  stopped = stopped_behind (idle_is i) h.stopped;
  cause = caused_before w why (idle_is i).since h.cause;
  memory = subst (λ (p : Provider). p ≡ record was { hand = p.hand }) same i.memory;
}

pub stalls_behind : {n : ℕ} {z : Shape} {v u w : View} {was k is : Provider} {why : Refusal} → Idle z v was u k → Stalls n z u k why w is → Stalls n z v was why w is
stalls_behind {w = w} {is = is} {why = why} i h = record {
  stopped = stopped_behind (idle_is i) h.stopped;
  cause = caused_before w why (idle_is i).since h.cause;
  memory = h.memory ∙ ap (λ (p : Provider). record p { hand = is.hand }) i.memory;
}

idle_hand : {z : Shape} {v u : View} {was k : Provider} (hand : ℕ) → Idle z v was u k → Idle z v was u (record k { hand = hand })
idle_hand hand i =
    let x = i.moved in
    record {
      moved = record {
        events = x.events;
        goes = record { ran = x.goes.ran; held = x.goes.held; keeps = keeps_hand refl x.goes.keeps };
        pagers = x.pagers;
        ticked = x.ticked;
        few = x.few;
        met = x.met;
        same = record { frames = x.same.frames; workers = x.same.workers; generation = x.same.generation };
      };
      events_are = i.events_are;
      memory = ap (λ (p : Provider). record p { hand = hand }) i.memory;
      rested = i.rested;
    }

-- what a pass knows before frame `at`
pub record Passed (z : Shape) (path : List ℕ) (from at : ℕ) (v : View) (was : Provider) (u : View) (k : Provider) : Type 0 where
  pub idle : Idle z v was u k
  pub shown : z.alone ≡ true → (f : ℕ) → from ≤ f → f < at → IsShown path f u

pub passed_none : {z : Shape} {path : List ℕ} {from at : ℕ} {v : View} {k : Provider} → RowLaws → Keeps z v k → v.held ≡ [] → at ≤ from → Passed z path from at v k v k
passed_none {z = z} {v = v} laws c none le = record { idle = idle_ran laws c none (ran_none z.alone v); shown = λ one f a b. absurd (omega arith) }

-- the hand goes on, and a step has found nothing
pub passed_on : {z : Shape} {path : List ℕ} {from at : ℕ} {v u w : View} {was k j is : Provider} → Keeps z v was → Passed z path from at v was u k → (hand : ℕ) → j ≡ record k { hand = hand } → Steps z path at u j None w is → Passed z path from (at + 1) v was w is
passed_on {z = z} {path = path} {from = from} {at = at} {v = v} {u = u} {w = w} {was = was} c p hand same s = record {
  idle = idle_then c (subst (λ (x : Provider). Idle z v was u x) (sym same) (idle_hand hand p.idle)) s.0;
  shown = λ one f a b. go one f a b (f == at) refl;
}
  where
    go : z.alone ≡ true → (f : ℕ) → from ≤ f → f < at + 1 → (b : Bool) → (f == at) ≡ b → IsShown path f w
    go one f a lt true e = let same = eqb-true f at e in subst (λ n. IsShown path n w) (sym same) (s.1 one)
    go one f a lt false e = shown_on path f (idle_is s.0) one (p.shown one f a (let ne : f ≢ at = λ q. true≢false (sym (eq-eqb f at q) ∙ e) in omega arith))

pub passed_step : {z : Shape} {path : List ℕ} {from at : ℕ} {v u w : View} {was k j is : Provider} {entry : Cooling} → RowLaws → Keeps z v was → Passed z path from at v was u k → (hand : ℕ) → j ≡ record k { hand = hand } → Stepped z path u j entry w is → Stepped z path v was entry w is
passed_step {z = z} {v = v} {u = u} {was = was} laws c p hand same s =
    let i = subst (λ (x : Provider). Idle z v was u x) (sym same) (idle_hand hand p.idle) in
    stepped_behind laws c (idle_is i) i.moved.same i.memory s

pub passed_stalls : {n : ℕ} {z : Shape} {path : List ℕ} {from at : ℕ} {v u w : View} {was k j is : Provider} {why : Refusal} → Passed z path from at v was u k → (hand : ℕ) → j ≡ record k { hand = hand } → j ≡ is → Halts n z u why w → Stalls n z v was why w is
passed_stalls {z = z} {v = v} {u = u} {was = was} p hand same e h = hand_stalls (subst (λ (x : Provider). Idle z v was u x) (sym same) (idle_hand hand p.idle)) e h

-- ## A turn

pub turned_none : (path : List ℕ) (from : ℕ) {z : Shape} {frames : ℕ} {v t u : View} {was k is : Provider} → Keeps z v was → frames ≡ was.frames → Passes z path from frames v was None t k → Passes z path 0 from t k None u is → Turns z path v was None u is
turned_none path from {z = z} {frames = frames} {v = v} {t = t} {u = u} {was = was} {k = k} {is = is} c count a b =
    let i = idle_then c a.0 b.0 in
    let there = i.moved.goes.keeps in (
      i,
      λ one p lt hot off.
          let f = frame_of ((state u).core.place p) in
          let below = (hot_below (there.sound u.seen).residence p hot).1 in
          let given = there.sized.given in
          let same = i.moved.same.frames in
          go one p (record { below = lt; hot = hot_frame ((state u).core.place p) hot }) off (omega arith) (ltb f from) refl,
    )
  where
    go : z.alone ≡ true → (p : ℕ) → IsHotIn u.given (state u) (frame_of ((state u).core.place p)) p → way path (state u).core p ≡ false → frame_of ((state u).core.place p) < frames → (b : Bool) → ltb (frame_of ((state u).core.place p)) from ≡ b → has_hot_child (opening u.given) (state u).core p ≡ true
    go one p hot off lt true e = b.1 one (frame_of ((state u).core.place p)) p (omega arith) (ltb-true (frame_of ((state u).core.place p)) from e) hot off
    go one p hot off lt false e = shown_on path (frame_of ((state u).core.place p)) (idle_is b.0) one (λ q. a.1 one (frame_of ((state u).core.place p)) q (ltb-false (frame_of ((state u).core.place p)) from e) lt) p hot off

-- the second pass behind the first
pub turned : (path : List ℕ) (from : ℕ) {z : Shape} {frames : ℕ} {v t : View} {was k : Provider} → RowLaws → Keeps z v was → frames ≡ was.frames → Passes z path from frames v was None t k → (u : View) (is : Provider) (done : Option Cooling) → Passes z path 0 from t k done u is → Turns z path v was done u is
turned path from laws c count a u is (Some entry) b = stepped_behind laws c (idle_is a.0) a.0.moved.same a.0.memory b
turned path from laws c count a u is None b = turned_none path from c count a b
