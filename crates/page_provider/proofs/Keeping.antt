-- What a pager keeps: while it appends nothing but misses, whatever others do, and over its own events.
use Rattle.std.proofs.Common.{◌≡◌, ◌<◌, ◌≤◌, ◌^◌, ◌==◌, ◌||◌, Bool, true, false, List, [], ◌∷◌, ◌++◌, length, append_assoc, refl, sym, ap, subst, ◌∙◌, true≢false}
use Rattle.std.specs.Prelude.{if◌then◌else◌}
use Rattle.std.proofs.lemmas.Bool.{eqb-true}
use Rattle.btree_descent.specs.core_state.States.{Place, State, is_cold, is_hot}
use Rattle.btree_descent.specs.core_state.Needs as core
use Rattle.btree_descent.specs.core_state.Steps.{happens, step}
use Rattle.btree_descent.specs.core_paging.Paging.{Waiting}
use Rattle.btree_descent.specs.row_words.declared.event.Event.{Event}
use Rattle.btree_descent.specs.row_words.declared.event.Event.TheVariants as told
use Rattle.btree_descent.specs.row_words.declared.given.Given.{Given}
use Rattle.btree_descent.specs.row_words.Moments.{event_of, actor_of, pager, by}
use Rattle.btree_descent.specs.row_words.Openings.{opening}
use Rattle.btree_descent.specs.rows_trait.declared.view.View.{View}
use Rattle.btree_descent.specs.rows_trait.Views.{Shape, NoSync, after_all, may, state}
use Rattle.btree_descent.specs.rows_trait.Turns.{Ran}
use Rattle.btree_descent.specs.Known.{IsSound}
use Rattle.btree_descent.specs.lean_proto.Still.{Stood, EveryStood}
use Rattle.page_calls.specs.declared.slots.Slot.{Slot}
use Rattle.page_pool.specs.Pools.{Agrees, EveryStanding}
use Rattle.page_provider.specs.Providers.{IsKept, Provider, Keeps, pool}
use Rattle.page_provider.specs.Steps.{AreMisses}
use Rattle.page_provider.proofs.Kept.{kept_same}
use Rattle.page_provider.proofs.Standing.{onward, state_on, core_step, ran_state, stood_same, stood_then, stood_others, stood_misses}

-- ## The seat

-- nobody else steps, or the seat is the pager's
pub plays : (alone : Bool) (v : View) → may alone v pager ≡ true → alone ≡ false → v.actor ≡ pager
plays true v m n = absurd (true≢false n)
plays false v m n = sym (eqb-true pager v.actor m)

misses_by : (es : List Event) → AreMisses es → AreMisses (by pager es)
misses_by [] m = tt
misses_by (told.Miss w ∷ es) m = go (misses_by es m) (w == pager)
  where
    go : AreMisses (by pager es) → (b : Bool) → AreMisses (if b then told.Miss w ∷ by pager es else by pager es)
    go rest true = rest
    go rest false = rest
misses_by (_ ∷ es) m = absurd m

-- what ran has no event of the pager but these
pub by_ran : (alone : Bool) (v u : View) (es : List Event) → may alone v pager ≡ true → (r : Ran alone v es u) → AreMisses es → AreMisses (by pager r.more)
by_ran true v u es m r k = misses_by r.more (subst AreMisses (sym (r.all refl)) k)
by_ran false v u es m r k = subst (λ a. AreMisses (by a r.more)) (plays false v m refl) (subst AreMisses (sym (r.own refl)) k)

pub ran_stood : {z : Shape} {v u : View} {k : Provider} {es : List Event} → EveryStood → Keeps z v k → AreMisses es → Ran z.alone v es u → Stood v u
ran_stood {z = z} {v = v} {u = u} {es = es} every c m r = stood_then (stood_misses every z r.more v (by_ran z.alone v u es c.actor r m)) (stood_same (onward v r.more) u (ap (λ n. n.core) (ran_state r)))

-- ## While it appends nothing but misses

cold_off : (x : Place) → is_cold x ≡ true → is_hot x ≡ false
cold_off (Place.Hot f) h = absurd (true≢false (sym h))
cold_off (Place.Cooling f e w) h = absurd (true≢false (sym h))
cold_off Place.Cold h = refl

pub keeps_stood : {z : Shape} {v u : View} {k : Provider} → EveryStanding → u.given ≡ v.given → u.actor ≡ v.actor → Stood v u → Keeps z v k → Keeps z u k
keeps_stood {z = z} {v = v} {u = u} {k = k} standing given actor st c = record {
  actor = subst (λ a. (z.alone || (pager == a)) ≡ true) (sym actor) c.actor;
  sound = subst IsSound (sym given) c.sound;
  waiting = subst (λ (g : Given). (es : List Event) → Waiting (after_all g es).core) (sym given) c.waiting;
  sized = record { some = c.sized.some; shape = c.sized.shape; given = ap (λ (g : Given). (opening g).frames) given ∙ c.sized.given };
  some = c.some;
  workers = (c.workers.0, ap (λ (g : Given). (opening g).workers) given ∙ c.workers.1);
  pages = c.pages ∙ sym (ap (λ (g : Given). (opening g).format.pages) given);
  agrees = standing v u (pool k) given st c.agrees;
  kept = subst (λ (g : Given). IsKept (opening g) (state u).core k.kept) (sym given)
      (kept_same (opening v.given) (state v).core k.kept (c.sound v.seen).tree c.kept (state u).core st.cold (λ q cold. st.page q (cold_off ((state v).core.place q) cold)));
  epoch = subst (λ n. n ≤ 2 ^ 62) (sym st.epoch) c.epoch;
}

pub keeps_ran : {z : Shape} {v u : View} {k : Provider} {es : List Event} → EveryStood → EveryStanding → AreMisses es → Ran z.alone v es u → Keeps z v k → Keeps z u k
keeps_ran every standing m r c = keeps_stood standing r.given r.actor (ran_stood every c m r) c

-- ## One event of its own

-- What ran is the event, with others' events before it and after it.
pub record Parted (v : View) (e : Event) (u : View) : Type 0 where
  pub before : List Event
  pub after : List Event
  pub seen : u.seen ≡ v.seen ++ (before ++ e ∷ after)
  pub first : by pager before ≡ []
  pub last : by pager after ≡ []
  pub part : NoSync before

record Found (e : Event) (es : List Event) : Type 0 where
  pub before : List Event
  pub after : List Event
  pub is : es ≡ before ++ e ∷ after
  pub first : by pager before ≡ []
  pub last : by pager after ≡ []

abbrev head_of : Event → List Event → Event
head_of d [] = d
head_of d (x ∷ xs) = x

abbrev tail_of : List Event → List Event
tail_of [] = []
tail_of (x ∷ xs) = xs

find : (e : Event) (es : List Event) → by pager es ≡ e ∷ [] → Found e es
find e [] h = absurd (cc)
find e (x ∷ xs) h = go (λ k. find e xs k) (actor_of x == pager) refl h
  where
    go : (by pager xs ≡ e ∷ [] → Found e xs) → (b : Bool) → (actor_of x == pager) ≡ b → (if b then x ∷ by pager xs else by pager xs) ≡ e ∷ [] → Found e (x ∷ xs)
    go rest true is k = record { before = []; after = xs; is = ap (λ y. y ∷ xs) (ap (head_of x) k); first = refl; last = ap tail_of k }
    go rest false is k = let o = rest k in record {
      before = x ∷ o.before;
      after = o.after;
      is = ap (λ ys. x ∷ ys) o.is;
      first = ap (λ b. if b then x ∷ by pager o.before else by pager o.before) is ∙ o.first;
      last = o.last;
    }

sync_first : (es fs : List Event) → NoSync (es ++ fs) → NoSync es
sync_first [] fs h = tt
sync_first (e ∷ es) fs h = (h.0, sync_first es fs h.1)

pub parted : (alone : Bool) (v u : View) (e : Event) → may alone v pager ≡ true → Ran alone v (e ∷ []) u → Parted v e u
parted true v u e m r = record { before = []; after = []; seen = r.seen ∙ ap (λ es. v.seen ++ es) (r.all refl); first = refl; last = refl; part = tt }
parted false v u e m r =
    let f = find e r.more (subst (λ a. by a r.more ≡ e ∷ []) (plays false v m refl) (r.own refl)) in
    record { before = f.before; after = f.after; seen = r.seen ∙ ap (λ es. v.seen ++ es) f.is; first = f.first; last = f.last; part = sync_first f.before (e ∷ f.after) (subst NoSync f.is (r.part refl)) }

-- right before the event, and right behind it
abbrev pub at_event : {v u : View} {e : Event} → Parted v e u → View
at_event {v = v} p = onward v p.before

abbrev pub by_event : {v u : View} {e : Event} → Parted v e u → View
by_event {v = v} {e = e} p = onward (onward v p.before) (e ∷ [])

module _ (z : Shape) {v u : View} {e : Event} (every : EveryStood) (given : u.given ≡ v.given) (p : Parted v e u) where
  pub stood_before : Stood v (at_event p)
  stood_before = stood_others every z v p.before p.first

  pub stood_after : Stood (by_event p) u
  stood_after =
      let whole : u.seen ≡ ((v.seen ++ p.before) ++ e ∷ []) ++ p.after = p.seen ∙ (sym (append_assoc v.seen p.before (e ∷ p.after)) ∙ sym (append_assoc (v.seen ++ p.before) (e ∷ []) p.after)) in
      stood_then (stood_others every z (by_event p) p.after p.last) (stood_same (onward (by_event p) p.after) u (ap (λ n. n.core) (λ i. after_all (given i) (whole i))))

pub event_step : {v u : View} {e : Event} → (p : Parted v e u) → (state (by_event p)).core ≡ step (opening v.given) (state (at_event p)).core (event_of e)
event_step {v = v} {e = e} p = ap (λ n. n.core) (state_on (at_event p) (e ∷ [])) ∙ core_step v.given (state (at_event p)) e

pub event_happens : {v u : View} {e : Event} → (p : Parted v e u) → core.may (opening v.given) (state (at_event p)).core (event_of e) ≡ true → (state (by_event p)).core ≡ happens (opening v.given) (state (at_event p)).core (event_of e)
event_happens {v = v} {e = e} p m = event_step p ∙ ap (λ b. if b then happens (opening v.given) (state (at_event p)).core (event_of e) else (state (at_event p)).core) m

-- what it has to keep by a state to which its event leads
pub record Leads (v : View) (t : State) (was is : Provider) : Type 0 where
  pub frame : is.frames ≡ was.frames
  pub worker : is.workers ≡ was.workers
  pub page : length is.free ≡ length was.free
  pub agrees : Agrees (opening v.given) t (pool is)
  pub kept : IsKept (opening v.given) t is.kept
  pub epoch : t.epoch ≤ 2 ^ 62

pub keeps_before : {z : Shape} {v u : View} {e : Event} {k : Provider} → EveryStood → EveryStanding → u.given ≡ v.given → (p : Parted v e u) → Keeps z v k → Keeps z (at_event p) k
keeps_before {z = z} every standing given p c = keeps_stood standing refl refl (stood_before z every given p) c

module _ {z : Shape} {v u : View} {e : Event} {was is : Provider} (every : EveryStood) (standing : EveryStanding) (r : Ran z.alone v (e ∷ []) u) (p : Parted v e u) (c : Keeps z v was) where
  keeps_by : (t : State) → (state (by_event p)).core ≡ t → Leads v t was is → Keeps z (by_event p) is
  keeps_by t e l = record {
    actor = c.actor;
    sound = c.sound;
    waiting = c.waiting;
    sized = record { some = subst (λ n. 0 < n) (sym l.frame) c.sized.some; shape = c.sized.shape ∙ sym l.frame; given = c.sized.given ∙ sym l.frame };
    some = subst (λ n. 0 < n) (sym l.worker) c.some;
    workers = (c.workers.0 ∙ sym l.worker, c.workers.1 ∙ sym l.worker);
    pages = l.page ∙ c.pages;
    agrees = subst (λ s. Agrees (opening v.given) s (pool is)) (sym e) l.agrees;
    kept = subst (λ (s : State). IsKept (opening v.given) s is.kept) (sym e) l.kept;
    epoch = subst (λ (s : State). s.epoch ≤ 2 ^ 62) (sym e) l.epoch;
  }

  -- behind the event, and whatever others have done since
  pub keeps_event : (t : State) → (state (by_event p)).core ≡ t → Leads v t was is → Keeps z u is
  keeps_event t e l = keeps_stood standing r.given r.actor (stood_after z every r.given p) (keeps_by t e l)

-- what is known of slots, and whether the device failed, it keeps whatever it is
pub keeps_slots : {z : Shape} {v : View} {k : Provider} (slots : List Slot) (broken : Bool) → Keeps z v k → Keeps z v (record k { slots = slots; broken = broken })
keeps_slots slots broken c = record { actor = c.actor; sound = c.sound; waiting = c.waiting; sized = c.sized; some = c.some; workers = c.workers; pages = c.pages; agrees = c.agrees; kept = c.kept; epoch = c.epoch }
