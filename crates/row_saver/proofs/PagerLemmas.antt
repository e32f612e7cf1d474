-- A pager behind saves and misses, and its parts as those of a saver.
use Rattle.std.proofs.Common.{◌≡◌, ◌≤◌, ◌^◌, ◌++◌, ℕ, Bool, true, false, List, [], ◌∷◌, length, Some, refl, sym, ap, subst, ◌∙◌, true≢false, arith, append-nil, append_assoc}
use Rattle.std.specs.Prelude.{if◌then◌else◌}
use Rattle.map_model.specs.Lists.{all}
use Rattle.btree_descent.specs.core_state.Events as happening
use Rattle.btree_descent.specs.core_state.Needs as core
use Rattle.btree_descent.specs.core_state.States.{Place, State, is_cooling}
use Rattle.btree_descent.specs.core_state.Steps.{happens, step}
use Rattle.btree_descent.specs.row_words.declared.event.Event.{Event}
use Rattle.btree_descent.specs.row_words.declared.event.Event.TheVariants.{Miss, Save}
use Rattle.btree_descent.specs.row_words.Openings.{opening}
use Rattle.btree_descent.specs.rows_trait.declared.view.View.{View}
use Rattle.btree_descent.specs.rows_trait.Turns.{Ran}
use Rattle.btree_descent.specs.rows_trait.Views.{Shape, after_all, state}
use Rattle.cooling_stage.specs.declared.stage.Cooling.{Cooling}
use Rattle.page_pool.specs.Pools.{Agrees, EveryPool, EveryStanding}
use Rattle.page_pool.specs.Queues.{EveryQueue, entry_of}
use Rattle.page_provider.specs.Moves.{ArePagers, AreTicked, others_in}
use Rattle.page_provider.specs.Providers.{IsKept, Keeps, Provider, pool}
use Rattle.page_provider.proofs.Keeping.{keeps_slots, keeps_stood}
use Rattle.page_provider.proofs.Standing.{core_miss, core_step, onward, state_on, stood_same}
use Rattle.row_saver.specs.Laws.{EveryReady, EverySaved}
use Rattle.row_saver.specs.Savers.{IsQueue, is_savers}

-- ## The queue

cooling_entry : (p : ℕ) (x : Place) → is_cooling x ≡ true → (y : Cooling) × (entry_of p x ≡ Some y)
cooling_entry p (Place.Hot f) h = absurd (true≢false (sym h))
cooling_entry p (Place.Cooling f e w) h = (record { page = p; frame = f; epoch = e }, refl)
cooling_entry p Place.Cold h = absurd (true≢false (sym h))

pub queue_of : {z : Shape} {v : View} {k : Provider} → EveryQueue → Keeps z v k → IsQueue (state v).core k.queue
queue_of {v = v} {k = k} every c =
    let tells = every (opening v.given) (state v).core (pool k) (c.sound v.seen).residence c.agrees in
    record {
      entries = λ x has. c.agrees.entries x has;
      every = λ p cools. let y = cooling_entry p ((state v).core.place p) cools in (y.0, tells.told p ∙ y.1);
    }

pub ready_is : EveryQueue → EveryReady
ready_is every z v k buffer alone none c begun each size = record {
  seated = record { alone = alone; held = none; sized = c.sized; sound = c.sound; queued = queue_of every c };
  begun = begun;
  pages = each ∙ c.pages;
  size = size;
}

-- ## Saves and misses

savers_pagers : (es : List Event) → all is_savers es ≡ true → ArePagers es
savers_pagers [] a = tt
savers_pagers (Save p ∷ es) a = (refl, savers_pagers es a)
savers_pagers (Miss w ∷ es) a = (refl, savers_pagers es a)
savers_pagers (_ ∷ es) a = absurd (true≢false (sym a))

savers_ticked : (es : List Event) → all is_savers es ≡ true → AreTicked es
savers_ticked [] a = tt
savers_ticked (Save p ∷ es) a = savers_ticked es a
savers_ticked (Miss w ∷ es) a = savers_ticked es a
savers_ticked (_ ∷ es) a = absurd (true≢false (sym a))

savers_others : (es : List Event) → all is_savers es ≡ true → others_in es ≡ length es
savers_others [] a = refl
savers_others (Save p ∷ es) a = let ih = savers_others es a in omega arith
savers_others (Miss w ∷ es) a = let ih = savers_others es a in omega arith
savers_others (_ ∷ es) a = absurd (true≢false (sym a))

module _ (pools : EveryPool) (standing : EveryStanding) {z : Shape} {k : Provider} where
  module _ (v : View) (p : ℕ) (c : Keeps z v k) where
    abbrev s : State
    s = (state v).core

    abbrev w : View
    w = onward v (Save p ∷ [])

    core_is : (state w).core ≡ step (opening v.given) s (happening.Event.Save p)
    core_is = ap (λ m. m.core) (state_on v (Save p ∷ [])) ∙ core_step v.given (state v) (Save p)

    -- behind one that is met, and where it is not nothing has changed
    saved_met : core.may (opening v.given) s (happening.Event.Save p) ≡ true → Keeps z w k
    saved_met e =
        let now : (state w).core ≡ happens (opening v.given) s (happening.Event.Save p) = core_is ∙ ap (λ b. if b then happens (opening v.given) s (happening.Event.Save p) else s) e in
        record {
          actor = c.actor;
          sound = c.sound;
          waiting = c.waiting;
          sized = record { some = c.sized.some; shape = c.sized.shape; given = c.sized.given };
          some = c.some;
          workers = c.workers;
          pages = c.pages;
          agrees = subst (λ (t : State). Agrees (opening v.given) t (pool k)) (sym now) (pools (opening v.given) s (happening.Event.Save p) (pool k) refl e (c.sound v.seen).residence c.agrees);
          kept = subst (λ (t : State). IsKept (opening v.given) t k.kept) (sym now) c.kept;
          epoch = subst (λ (t : State). t.epoch ≤ 2 ^ 62) (sym now) c.epoch;
        }

    saved_not : core.may (opening v.given) s (happening.Event.Save p) ≡ false → Keeps z w k
    saved_not e = keeps_stood standing refl refl (stood_same v w (core_is ∙ ap (λ b. if b then happens (opening v.given) s (happening.Event.Save p) else s) e)) c

    saved_on : Keeps z w k
    saved_on = go (core.may (opening v.given) s (happening.Event.Save p)) refl
      where
        go : (b : Bool) → core.may (opening v.given) s (happening.Event.Save p) ≡ b → Keeps z w k
        go true e = saved_met e
        go false e = saved_not e

  missed_on : (v : View) (a : ℕ) → Keeps z v k → Keeps z (onward v (Miss a ∷ [])) k
  missed_on v a c = keeps_stood standing refl refl (stood_same v (onward v (Miss a ∷ [])) (ap (λ m. m.core) (state_on v (Miss a ∷ [])) ∙ core_miss v.given (state v) a)) c

  keeps_on : (es : List Event) (v : View) → all is_savers es ≡ true → Keeps z v k → Keeps z (onward v es) k
  keeps_on [] v a c = keeps_stood standing refl refl (stood_same v (onward v []) (ap (λ s. (after_all v.given s).core) (append-nil v.seen))) c
  keeps_on (Save p ∷ es) v a c = subst (λ (s : List Event). Keeps z (record v { seen = s }) k) (append_assoc v.seen (Save p ∷ []) es) (keeps_on es (onward v (Save p ∷ [])) a (saved_on v p c))
  keeps_on (Miss w ∷ es) v a c = subst (λ (s : List Event). Keeps z (record v { seen = s }) k) (append_assoc v.seen (Miss w ∷ []) es) (keeps_on es (onward v (Miss w ∷ [])) a (missed_on v w c))
  keeps_on (_ ∷ es) v a c = absurd (true≢false (sym a))

  keeps_savers : {v u : View} {es : List Event} → Ran true v es u → all is_savers es ≡ true → Keeps z v k → Keeps z u k
  keeps_savers {v = v} {u = u} {es = es} r a c =
      let seen : u.seen ≡ v.seen ++ es = r.seen ∙ ap (λ xs. v.seen ++ xs) (r.all refl) in
      keeps_stood standing r.given r.actor (stood_same (onward v es) u (ap (λ m. m.core) (λ i. after_all (r.given i) (seen i)))) (keeps_on es v a c)

pub saved_is : EveryPool → EveryStanding → EverySaved
saved_is pools standing most z y v u k is before after alone c g = record {
  events = g.events;
  goes = record {
    ran = record {
      more = g.ran.more;
      seen = g.ran.seen;
      own = λ n. absurd (true≢false (sym alone ∙ n));
      all = λ _. g.ran.all refl;
      part = λ n. absurd (true≢false (sym alone ∙ n));
      since = g.ran.since;
      given = g.ran.given;
      actor = g.ran.actor;
      live = g.ran.live;
      made = g.ran.made;
      ended = g.ran.ended;
    };
    held = g.held;
    keeps = keeps_slots is k.broken (keeps_savers pools standing g.ran g.are c);
  };
  pagers = savers_pagers g.events g.are;
  ticked = savers_ticked g.events g.are;
  few = let i = savers_others g.events g.are in let j = g.few in omega arith;
  met = g.met;
  same = record { frames = refl; workers = refl; generation = refl };
}
