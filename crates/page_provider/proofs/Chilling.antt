-- Pages are cooled one behind another: what holds behind all of them.
use Rattle.std.proofs.Common.{◌≡◌, ◌≢◌, ◌<◌, ◌+◌, ◌==◌, ◌||◌, ◌⊎◌, inl, inr, ℕ, suc, Bool, true, false, List, [], ◌∷◌, ◌++◌, length, length-append, append-nil, append_assoc, None, Some, refl, sym, ap, subst, ◌∙◌, arith, true≢false}
use Rattle.std.specs.Prelude.{if◌then◌else◌}
use Rattle.std.proofs.lemmas.Bool.{cases_eq, eq-eqb, eqb-true}
use Rattle.map_model.specs.Lists.{Has, any}
use Rattle.map_model.proofs.ListLemmas.{upd_other}
use Rattle.rfa_model.specs.Reaches.{least}
use Rattle.btree_descent.specs.core_state.Events as happening
use Rattle.btree_descent.specs.core_state.Needs as core
use Rattle.btree_descent.specs.core_state.Openings.{Opening}
use Rattle.btree_descent.specs.core_state.States.{Place, State, epoch_of, flushed_by_all, in_frame, is_cooling, is_hot}
use Rattle.btree_descent.specs.core_state.Steps.{happens, step}
use Rattle.btree_descent.specs.row_words.declared.event.Event.{Event}
use Rattle.btree_descent.specs.row_words.declared.event.Event.TheVariants.{Cool, Tick}
use Rattle.btree_descent.specs.row_words.declared.given.Given.{Given}
use Rattle.btree_descent.specs.row_words.Moments.{Moment, actor_of, by, pager}
use Rattle.btree_descent.specs.row_words.Openings.{opening}
use Rattle.btree_descent.specs.row_words.Sealed.{stepped}
use Rattle.btree_descent.specs.rows_trait.declared.view.View.{View}
use Rattle.btree_descent.specs.rows_trait.Turns.{Ran}
use Rattle.btree_descent.specs.rows_trait.Views.{Shape, may, state}
use Rattle.btree_descent.proofs.rows_trait.Runs.{ran_append, ran_none}
use Rattle.btree_descent.specs.lean_proto.Still.{Stood}
use Rattle.cooling_stage.specs.declared.stage.Cooling.{Cooling}
use Rattle.cooling_stage.specs.Queue.{found}
use Rattle.page_pool.specs.Full.{IsHeldBack, NoneRipe}
use Rattle.page_provider.specs.Cools.{Chills, HasCooled, Idle, Stepped}
use Rattle.page_provider.specs.Laws.{RowLaws}
use Rattle.page_provider.specs.Leaves.{IsCalm, IsFlushed, NoneLeaves}
use Rattle.page_provider.specs.Moves.{AreMet, KeepsPath, Moved, Rested, is_on, way}
use Rattle.page_provider.specs.Providers.{Provider, Keeps}
use Rattle.page_provider.proofs.Departures.{low_on}
use Rattle.page_provider.proofs.Flushing.{same_state}
use Rattle.page_provider.proofs.Judging.{SomeAbove, SomeHeld, tells}
use Rattle.page_provider.proofs.Keeping.{keeps_ran, plays, ran_stood}
use Rattle.page_provider.specs.Shares.{cools_in}
use Rattle.page_provider.proofs.Moving.{moved_then, rested_then, then_events}
use Rattle.page_provider.proofs.Unsaved.{cools_none, cools_quiet, none_append, quiet_append}
use Rattle.page_provider.proofs.Shares.{cools_append}
use Rattle.page_provider.proofs.Standing.{core_step, onward, ran_state, state_on}

-- ## Where nothing was appended

pub hot_at : (x : Place) (f : ℕ) → is_hot x ≡ true → in_frame x f ≡ true → x ≡ Place.Hot f
hot_at (Place.Hot i) f h e = ap Place.Hot (eqb-true i f e)
hot_at (Place.Cooling i e w) f h k = absurd (true≢false (sym h))
hot_at Place.Cold f h e = absurd (true≢false (sym h))

pub path_stood : (path : List ℕ) {v u : View} → Stood v u → KeepsPath path v u
path_stood path {v} {u} st f p h e = hot_at ((state u).core.place p) f (st.hot p ∙ ap is_hot e) (st.frame p f ∙ (ap (λ (x : Place). in_frame x f) e ∙ eq-eqb f f refl))

pub rested_ran : {z : Shape} {v u : View} {k : Provider} → RowLaws → Keeps z v k → Ran z.alone v [] u → Rested z v u
rested_ran laws c r = let st = ran_stood laws.stood c tt r in record {
  cold = λ p h. st.cold p ∙ h;
  saved = λ p h. st.saved p;
  pages = λ alone p. ap (λ m. m.core.page p) (same_state alone r);
}

by_none : (alone : Bool) {v u : View} → may alone v pager ≡ true → (r : Ran alone v [] u) → by pager r.more ≡ []
by_none true m r = subst (λ (es : List Event). by pager es ≡ []) (sym (r.all refl)) refl
by_none false {v} m r = ap (λ a. by a r.more) (sym (plays false v m refl)) ∙ r.own refl

-- others' events are not the pager's to meet
met_others : (g : Given) (m : Moment) (es : List Event) → by pager es ≡ [] → AreMet g m es
met_others g m [] h = tt
met_others g m (e ∷ es) h = go (λ k. met_others g (stepped g m e) es k) (actor_of e == pager) refl h
  where
    go : (by pager es ≡ [] → AreMet g (stepped g m e) es) → (b : Bool) → (actor_of e == pager) ≡ b → (if b then e ∷ by pager es else by pager es) ≡ [] → AreMet g m (e ∷ es)
    go rest true is k = absurd (cc)
    go rest false is k = (λ a. absurd (true≢false (sym (eq-eqb (actor_of e) pager a) ∙ is)), rest k)

pub moved_ran : {z : Shape} {v u : View} {k : Provider} → RowLaws → Keeps z v k → v.held ≡ [] → Ran z.alone v [] u → u.held ≡ v.held → Moved 0 z v k u k
moved_ran {z = z} {v = v} laws c none r free = record {
  events = [];
  goes = record { ran = r; held = free ∙ none; keeps = keeps_ran laws.stood laws.standing tt r c };
  pagers = tt;
  ticked = tt;
  few = omega arith;
  met = met_others v.given (state v) r.more (by_none z.alone c.actor r);
  same = record { frames = refl; workers = refl; generation = refl };
}

-- ## One behind another

pub chills_ran : {z : Shape} {path : List ℕ} {v u : View} {k : Provider} → RowLaws → Keeps z v k → v.held ≡ [] → Ran z.alone v [] u → u.held ≡ v.held → Chills z path v k u k
unfolding moved_ran
chills_ran {path = path} {k = k} laws c none r free = record {
  moved = moved_ran laws c none r free;
  keeps = path_stood path (ran_stood laws.stood c tt r);
  rested = rested_ran laws c r;
  more = [];
  queue = sym (append-nil k.queue);
  count = refl;
  memory = refl;
}

pub chills_none : {z : Shape} {path : List ℕ} {v : View} {k : Provider} → RowLaws → Keeps z v k → v.held ≡ [] → Chills z path v k v k
chills_none {z = z} {v = v} laws c none = chills_ran laws c none (ran_none z.alone v) refl

memory_then : (a b c : Provider) → b ≡ record a { queue = b.queue; free = b.free; hand = b.hand } → c ≡ record b { queue = c.queue; free = c.free; hand = c.hand } → c ≡ record a { queue = c.queue; free = c.free; hand = c.hand }
memory_then a b c one two = two ∙ ap (λ (p : Provider). record p { queue = c.queue; free = c.free; hand = c.hand }) one

pub chills_then : {z : Shape} {path : List ℕ} {v u w : View} {a b c : Provider} → Chills z path v a u b → Chills z path u b w c → Chills z path v a w c
chills_then {a = a} {b = b} {c = c} one two = record {
  moved = moved_then one.moved two.moved;
  keeps = λ f p h e. two.keeps f p h (one.keeps f p h e);
  rested = rested_then one.rested two.rested;
  more = one.more ++ two.more;
  queue = two.queue ∙ (ap (λ q. q ++ two.more) one.queue ∙ append_assoc a.queue one.more two.more);
  count = let t = ap cools_in (then_events one.moved two.moved) in let d = cools_append one.moved.events two.moved.events in let e = one.count in let f = two.count in let h = length-append one.more two.more in omega arith;
  memory = memory_then a b c one.memory two.memory;
}

any_here : (f : ℕ) (path : List ℕ) → Has f path → any (λ i. i == f) path ≡ true
any_here f [] h = absurd h
any_here f (i ∷ path) (inl e) = go (i == f) (eq-eqb i f (sym e))
  where
    go : (b : Bool) → b ≡ true → (b || any (λ i. i == f) path) ≡ true
    go true h = refl
    go false h = absurd (true≢false (sym h))
any_here f (i ∷ path) (inr h) = go (i == f) (any_here f path h)
  where
    go : (b : Bool) → any (λ i. i == f) path ≡ true → (b || any (λ i. i == f) path) ≡ true
    go true k = refl
    go false k = k

or_right : (a b : Bool) → b ≡ true → (a || b) ≡ true
or_right true b h = refl
or_right false b h = h

-- a page that stands hot in a frame of the path is on the way
pub way_at : (path : List ℕ) (s : State) (f p : ℕ) → Has f path → s.place p ≡ Place.Hot f → way path s p ≡ true
way_at path s f p h e = ap (λ (x : Place). is_on path p x) e ∙ or_right (p == 0) (any (λ i. i == f) path) (any_here f path h)

pub chills_step : {z : Shape} {path : List ℕ} {v u : View} {k is : Provider} {entry : Cooling} → Stepped z path v k entry u is → Chills z path v k u is
chills_step {path = path} {v = v} {u = u} {k = k} {is = is} {entry = entry} s = record {
  moved = s.cooled.moved;
  keeps = λ f p h e.
      let ne : p ≢ entry.page = λ same. true≢false (sym (way_at path (state v).core f p h e) ∙ (ap (λ q. way path (state v).core q) same ∙ s.off)) in
      s.cooled.others p ne (ap is_hot e) ∙ e;
  rested = s.cooled.rested;
  more = entry ∷ [];
  queue = ap (λ (p : Provider). p.queue) s.cooled.memory;
  count = ap cools_in s.cooled.events_are;
  memory = s.cooled.memory ∙ (λ i. record k { queue = sym (ap (λ (p : Provider). p.queue) s.cooled.memory) i; free = is.free; hand = is.hand });
}

-- what ran appended nothing
pub idle_ran : {z : Shape} {v u : View} {k is : Provider} → Idle z v k u is → Ran z.alone v [] u
idle_ran {z = z} {v = v} {u = u} i = subst (λ (es : List Event). Ran z.alone v es u) i.events_are i.moved.goes.ran

pub chills_idle : {z : Shape} {path : List ℕ} {v u : View} {k is : Provider} → RowLaws → Keeps z v k → Idle z v k u is → Chills z path v k u is
chills_idle {path = path} {k = k} {is = is} laws c i =
    let same : is.queue ≡ k.queue = ap (λ (p : Provider). p.queue) i.memory in
    record {
      moved = i.moved;
      keeps = path_stood path (ran_stood laws.stood c tt (idle_ran i));
      rested = i.rested;
      more = [];
      queue = same ∙ sym (append-nil k.queue);
      count = ap cools_in i.events_are;
      memory = i.memory ∙ (λ j. record k { queue = sym same j; free = sym (ap (λ (p : Provider). p.free) i.memory) j; hand = is.hand });
    }

-- ## The disk does not see it

pub chills_calm : {z : Shape} {path : List ℕ} {v u : View} {k is : Provider} → Chills z path v k u is → IsCalm z v k u is
chills_calm h = record { events = h.moved.events; ran = h.moved.goes.ran; quiet = cools_quiet h.moved.events h.moved.ticked h.moved.few; none = cools_none h.moved.events h.moved.ticked h.moved.few; memory = h.memory }

pub calm_then : {z : Shape} {v u w : View} {a b c : Provider} → IsCalm z v a u b → IsCalm z u b w c → IsCalm z v a w c
calm_then {z = z} {v = v} {u = u} {w = w} {a = a} {b = b} {c = c} one two = record {
  events = one.events ++ two.events;
  ran = ran_append z.alone v one.events u two.events w one.ran two.ran;
  quiet = quiet_append one.events two.events one.quiet two.quiet;
  none = none_append one.events two.events one.none two.none;
  memory = memory_then a b c one.memory two.memory;
}

-- ## A page more, where nobody else steps

-- Page p was cooled, and the global epoch went on: nothing else has changed of where pages stand, what they are and who is inside.
record Cooled (s t : State) (p : ℕ) : Type 0 where
  pub others : (q : ℕ) → q ≢ p → t.place q ≡ s.place q
  pub page : (q : ℕ) → t.page q ≡ s.page q
  pub flushed : t.flushed ≡ s.flushed
  pub inside : t.inside ≡ s.inside

cooled_step : (g : Opening) (s : State) (p : ℕ) → Cooled s (step g (step g s (happening.Event.Cool p)) happening.Event.Tick) p
cooled_step g s p = go (core.may g s (happening.Event.Cool p))
  where
    go : (b : Bool) → Cooled s (step g (if b then happens g s (happening.Event.Cool p) else s) happening.Event.Tick) p
    go true = record { others = λ q ne. upd_other s.place p (Place.Cooling (Rattle.btree_descent.specs.core_state.States.frame_of (s.place p)) s.epoch (λ w. core.is_inside (s.inside w))) q ne; page = λ q. refl; flushed = refl; inside = refl }
    go false = record { others = λ q ne. refl; page = λ q. refl; flushed = refl; inside = refl }

-- right behind a cool and a tick
abbrev pub ticked : View → ℕ → View
ticked v p = onward v (Cool p ∷ (Tick ∷ []))

cooled_on : (v : View) (p : ℕ) → Cooled (state v).core (state (ticked v p)).core p
cooled_on v p =
    let one = core_step v.given (state v) (Cool p) in
    let two = core_step v.given (stepped v.given (state v) (Cool p)) Tick in
    let all : (state (ticked v p)).core ≡ step (opening v.given) (step (opening v.given) (state v).core (happening.Event.Cool p)) happening.Event.Tick =
    ap (λ m. m.core) (state_on v (Cool p ∷ (Tick ∷ []))) ∙ (two ∙ ap (λ s. step (opening v.given) s happening.Event.Tick) one) in
    subst (λ t. Cooled (state v).core t p) (sym all) (cooled_step (opening v.given) (state v).core p)

-- what ran leads there
pub ticked_state : {z : Shape} {v u : View} {k is : Provider} {entry : Cooling} → z.alone ≡ true → HasCooled z v k entry u is → state u ≡ state (ticked v entry.page)
ticked_state {z = z} {v = v} {u = u} {entry = entry} alone h =
    let r = subst (λ (es : List Event). Ran z.alone v es u) h.events_are h.moved.goes.ran in
    ran_state r ∙ ap (λ es. state (onward v es)) (r.all alone)

-- ## How far the logs are flushed

no_syncs : (alone : Bool) {v u : View} {p : ℕ} → (r : Ran alone v (Cool p ∷ (Tick ∷ [])) u) → Rattle.btree_descent.specs.rows_trait.Views.NoSync r.more
no_syncs true r = subst Rattle.btree_descent.specs.rows_trait.Views.NoSync (sym (r.all refl)) (refl, (refl, tt))
no_syncs false r = r.part refl

flushed_on : (v : View) (p : ℕ) → flushed_by_all (opening v.given) (state (ticked v p)).core ≡ flushed_by_all (opening v.given) (state v).core
flushed_on v p = ap (λ f. least f (opening v.given).workers) (cooled_on v p).flushed

pub flushed_cooled : {z : Shape} {v u : View} {k is : Provider} {entry : Cooling} {n : ℕ} → RowLaws → v.held ≡ [] → HasCooled z v k entry u is → IsFlushed z n v → IsFlushed z n u
flushed_cooled {z = z} {v = v} {u = u} {entry = entry} {n = n} laws none h f =
    let r = subst (λ (es : List Event). Ran z.alone v es u) h.events_are h.moved.goes.ran in
    record {
      low = let a = low_on laws.loads z v u r.more none r.given r.seen (no_syncs z.alone r) in let b = f.low in omega arith;
      exact = λ alone. f.exact alone ∙ (sym (flushed_on v entry.page) ∙ (λ i. flushed_by_all (opening (sym r.given i)) (sym (ticked_state alone h) i).core));
    }

-- ## The queue

found_end : (x : Cooling) (q : List Cooling) → found x.page q ≡ None → found x.page (q ++ x ∷ []) ≡ Some x
found_end x [] e = ap (λ b. if b then Some x else None) (eq-eqb x.page x.page refl)
found_end x (y ∷ ys) e = go (λ k. found_end x ys k) (y.page == x.page) e
  where
    go : (found x.page ys ≡ None → found x.page (ys ++ x ∷ []) ≡ Some x) → (b : Bool) → (if b then Some y else found x.page ys) ≡ None → (if b then Some y else found x.page (ys ++ x ∷ [])) ≡ Some x
    go rest true k = absurd (cc)
    go rest false k = rest k

-- the page that was cooled stands at its end
pub cooled_there : {z : Shape} {v u : View} {k is : Provider} {entry : Cooling} → RowLaws → Keeps z v k → HasCooled z v k entry u is → found entry.page is.queue ≡ Some entry
cooled_there {v = v} {k = k} {entry = entry} laws c h =
    let absent = (tells laws c).hot entry.page (ap is_hot h.hot) in
    ap (λ (p : Provider). found entry.page p.queue) h.memory ∙ found_end entry k.queue absent

pub cooled_long : {z : Shape} {v u : View} {k is : Provider} {entry : Cooling} → HasCooled z v k entry u is → length is.queue ≡ suc (length k.queue)
cooled_long {k = k} {entry = entry} h = ap (λ (p : Provider). length p.queue) h.memory ∙ (let a = length-append k.queue (entry ∷ []) in omega arith)

-- ## None leaves still

module _ {v : View} {k : Provider} {held : ℕ} (p : ℕ) (n : NoneLeaves k held v) (hot : is_hot ((state v).core.place p) ≡ true) (cools : is_cooling ((state (ticked v p)).core.place p) ≡ true) where
  cd : Cooled (state v).core (state (ticked v p)).core p
  cd = cooled_on v p

  -- a page that cooled is another one
  other : (q : ℕ) → is_cooling ((state v).core.place q) ≡ true → q ≢ p
  other q c e = absurd (true≢false (sym hot ∙ (ap (λ j. is_hot ((state v).core.place j)) (sym e) ∙ Rattle.page_provider.proofs.Judging.not_hot ((state v).core.place q) c)))

  above_on : (q : ℕ) → flushed_by_all (opening v.given) (state v).core < ((state v).core.page q).gsn → flushed_by_all (opening v.given) (state (ticked v p)).core < ((state (ticked v p)).core.page q).gsn
  above_on q h = let a = flushed_on v p in let b = ap (λ c. c.gsn) (cd.page q) in omega arith

  held_on : (q : ℕ) → q ≢ p → IsHeldBack (state v).core q → IsHeldBack (state (ticked v p)).core q
  held_on q ne h = record {
    worker = h.worker;
    epoch = h.epoch;
    inside = ap (λ (f : ℕ → Rattle.std.specs.Prelude.Option ℕ). f h.worker) cd.inside ∙ h.inside;
    early = let a = ap epoch_of (cd.others q ne) in let b = h.early in omega arith;
  }

  still : (q : ℕ) → is_cooling ((state v).core.place q) ≡ true → is_cooling ((state (ticked v p)).core.place q) ≡ true
  still q c = ap is_cooling (cd.others q (other q c)) ∙ c

  some_held_on : SomeHeld v → SomeHeld (ticked v p)
  some_held_on s = (s.0, still s.0 s.1, held_on s.0 (other s.0 s.1) s.2)

  some_above_on : SomeAbove v → SomeAbove (ticked v p)
  some_above_on s = (s.0, still s.0 s.1, above_on s.0 s.2)

  none_on : (flushed_by_all (opening v.given) (state (ticked v p)).core < ((state (ticked v p)).core.page p).gsn) ⊎ IsHeldBack (state (ticked v p)).core p → NoneRipe (opening v.given) (state (ticked v p)).core
  none_on this q below c = elim (cases_eq q p) [
    | inl e ↦ subst (λ j. (flushed_by_all (opening v.given) (state (ticked v p)).core < ((state (ticked v p)).core.page j).gsn) ⊎ IsHeldBack (state (ticked v p)).core j) (sym e) this
    | inr ne ↦ elim (n.none q below (ap is_cooling (sym (cd.others q ne)) ∙ c)) [ inl a ↦ inl (above_on q a) | inr b ↦ inr (held_on q ne b) ]
  ]

  -- so none of the others can leave
  pub none_others : (q : ℕ) → q < (opening v.given).format.pages → q ≢ p → is_cooling ((state (ticked v p)).core.place q) ≡ true → (flushed_by_all (opening v.given) (state (ticked v p)).core < ((state (ticked v p)).core.page q).gsn) ⊎ IsHeldBack (state (ticked v p)).core q
  none_others q below ne c = elim (n.none q below (ap is_cooling (sym (cd.others q ne)) ∙ c)) [ inl a ↦ inl (above_on q a) | inr b ↦ inr (held_on q ne b) ]

  pub none_above : (is : Provider) → flushed_by_all (opening v.given) (state (ticked v p)).core < ((state (ticked v p)).core.page p).gsn → NoneLeaves is held (ticked v p)
  none_above is this = record {
    none = none_on (inl this);
    some_held = λ some. some_held_on (n.some_held some);
    some_above = λ some. (p, cools, this);
  }

  pub none_held : (is : Provider) → length is.queue ≡ suc (length k.queue) → IsHeldBack (state (ticked v p)).core p → NoneLeaves is (held + 1) (ticked v p)
  none_held is long this = record {
    none = none_on (inr this);
    some_held = λ some. (p, cools, this);
    some_above = λ some. some_above_on (n.some_above (omega arith));
  }
