-- A page has cooled, and the global epoch goes on.
use Rattle.std.proofs.Common.{◌≡◌, ◌<◌, ◌^◌, ℕ, Bool, true, false, List, [], ◌∷◌, ◌++◌, append_assoc, refl, sym, ap, subst, ◌∙◌, arith}
use Rattle.std.specs.Prelude.{if◌then◌else◌}
use Rattle.std.proofs.lemmas.List.{append_cancel_left}
use Rattle.btree_descent.specs.core_state.Openings.{Opening}
use Rattle.btree_descent.specs.core_state.States.{State, is_cold, is_hot}
use Rattle.btree_descent.specs.core_state.Events as happening
use Rattle.btree_descent.specs.core_state.Needs as core
use Rattle.btree_descent.specs.core_state.Steps.{happens, step}
use Rattle.btree_descent.specs.row_words.declared.event.Event.{Event}
use Rattle.btree_descent.specs.row_words.declared.event.Event.TheVariants as told
use Rattle.btree_descent.specs.row_words.declared.given.Given.{Given}
use Rattle.btree_descent.specs.row_words.Moments.{Moment}
use Rattle.btree_descent.specs.row_words.Openings.{opening}
use Rattle.btree_descent.specs.row_words.Sealed.{run, stepped}
use Rattle.btree_descent.specs.rows_trait.declared.view.Act.{Act}
use Rattle.btree_descent.specs.rows_trait.declared.view.Act.TheVariants.{Hear}
use Rattle.btree_descent.specs.rows_trait.declared.view.View.{View}
use Rattle.btree_descent.specs.rows_trait.Causes.{OnlyLoads}
use Rattle.btree_descent.specs.rows_trait.Turns.{Ran}
use Rattle.btree_descent.specs.rows_trait.Views.{Shape, latest, state}
use Rattle.btree_descent.proofs.rows_trait.Causes.{found_after}
use Rattle.btree_descent.proofs.rows_trait.Runs.{ran_append}
use Rattle.epochs.specs.Epochs.{HasTicked, IsStamp}
use Rattle.btree_descent.specs.lean_proto.Still.{Stood}
use Rattle.row_image.specs.declared.sight.Sight.{Sight}
use Rattle.row_image.specs.Sights.{EverySight, IsKnown}
use Rattle.cooling_stage.specs.declared.stage.Cooling.{Cooling}
use Rattle.page_provider.specs.declared.refusal.Refusal.{Refusal}
use Rattle.page_provider.specs.Cools.{HasCooled, HasUnhooked, Idle, chilled}
use Rattle.page_provider.specs.Finds.{IsSeen, SinceFound}
use Rattle.page_provider.specs.Laws.{RowLaws}
use Rattle.page_provider.specs.Moves.{AreMet, Rested}
use Rattle.page_provider.specs.Providers.{Provider, Keeps, pool}
use Rattle.page_provider.proofs.Chills.{met_others, met_parted, none_ran, stood_place}
use Rattle.page_provider.proofs.Keeping.{Parted, at_event, by_event, event_happens, keeps_before, keeps_event, parted, ran_stood, stood_after, stood_before}
use Rattle.page_provider.proofs.Standing.{core_step, onward, ran_state, state_on}
use Rattle.page_provider.proofs.Unlinks.{idle_ran}

-- ## Behind the load of the epoch

stamped_loads : {z : Shape} {v e : View} {n : ℕ} → IsStamp z v n e → OnlyLoads v e
stamped_loads {n = n} k = record { acts = Hear 0 0 n ∷ []; steps = k.steps; loads = tt }

pub seen_stamped : {z : Shape} {s : Sight} {v e : View} {n : ℕ} → EverySight → IsStamp z v n e → IsSeen z s v → IsSeen z s e
seen_stamped {s = s} {v = v} {n = n} every k seen = record {
  inside = seen.inside;
  frame = subst (λ (g : Given). s.glimpse.row < (opening g).frames) (sym k.ran.given) seen.frame;
  known = subst (λ (acts : List Act). IsKnown s acts) (sym k.steps) ((every s).known (Hear 0 0 n ∷ []) v.steps seen.known);
  last = λ alone. ap (λ acts. latest s.glimpse.row acts) k.steps ∙ seen.last alone;
}

pub since_stamped : {z : Shape} {v e : View} {n : ℕ} (w : View) (why : Refusal) (s : Sight) → IsStamp z v n e → SinceFound s e why w → SinceFound s v why w
since_stamped {v = v} {e = e} w why s k b from f = b from (found_after s.glimpse.row s.glimpse.version from v e f (stamped_loads k))

-- ## One after another

met_append : (g : Given) (es fs : List Event) (m : Moment) → AreMet g m es → AreMet g (run g m es) fs → AreMet g m (es ++ fs)
met_append g [] fs m a b = b
met_append g (x ∷ xs) fs m a b = (a.0, met_append g xs fs (stepped g m x) a.1 b)

-- what two runs appended is what both appended
pub met_joined : {alone : Bool} {v w u : View} {es fs gs : List Event} → (a : Ran alone v es w) → (b : Ran alone w fs u) → (r : Ran alone v gs u) → AreMet v.given (state v) a.more → AreMet w.given (state w) b.more → AreMet v.given (state v) r.more
met_joined {v = v} {w = w} {u = u} a b r x y =
    let more_is : r.more ≡ a.more ++ b.more = append_cancel_left v.seen r.more (a.more ++ b.more) (sym r.seen ∙ (b.seen ∙ (ap (λ s. s ++ b.more) a.seen ∙ append_assoc v.seen a.more b.more))) in
    let at : state w ≡ run v.given (state v) a.more = ran_state a ∙ state_on v a.more in
    let later : AreMet v.given (run v.given (state v) a.more) b.more = subst (λ (q : Given × Moment). AreMet q.0 q.1 b.more) (λ i. (a.given i, at i)) y in
    subst (λ es. AreMet v.given (state v) es) (sym more_is) (met_append v.given a.more b.more (state v) x later)

pub rested_join : {z : Shape} {v u w : View} → Rested z v u → Rested z u w → Rested z v w
rested_join a b = record {
  cold = λ j h. b.cold j (a.cold j h);
  saved = λ j h. b.saved j (a.cold j h) ∙ a.saved j h;
  pages = λ alone j. b.pages alone j ∙ a.pages alone j;
}

pub idle_after : {z : Shape} {v e u : View} {was is : Provider} → RowLaws → Keeps z v was → Ran z.alone v [] e → Idle z e was u is → is ≡ was → Idle z v was u is
idle_after {z = z} {v = v} {e = e} {u = u} {was = was} laws c r i same =
    let more : Ran z.alone e [] u = subst (λ es. Ran z.alone e es u) i.events_are i.moved.goes.ran in
    subst (λ p. Idle z v was u p) (sym same) (idle_ran laws c (ran_append z.alone v [] e [] u r more) i.moved.goes.held)

-- ## The epoch goes on

tick_page : (g : Opening) (s : State) (j : ℕ) (b : Bool) → (if b then happens g s happening.Event.Tick else s).page j ≡ s.page j
tick_page g s j true = refl
tick_page g s j false = refl

module _ {z : Shape} {v u : View} {k : Provider} (laws : RowLaws) (c : Keeps z v k) (r : Ran z.alone v (told.Tick ∷ []) u) where
  tick_part : Parted v told.Tick u
  tick_part = parted z.alone v u told.Tick c.actor r

  abbrev tick_at : State
  tick_at = (state (at_event tick_part)).core

  tick_before : Stood v (at_event tick_part)
  tick_before = stood_before z laws.stood r.given tick_part

  tick_behind : Stood (by_event tick_part) u
  tick_behind = stood_after z laws.stood r.given tick_part

  tick_now : (state (by_event tick_part)).core ≡ happens (opening v.given) tick_at happening.Event.Tick
  tick_now = event_happens tick_part refl

  tick_keeps : (state v).core.epoch < 2 ^ 62 → Keeps z u k
  tick_keeps small =
      let kept = keeps_before laws.stood laws.standing r.given tick_part c in
      keeps_event laws.stood laws.standing r tick_part c (happens (opening v.given) tick_at happening.Event.Tick) tick_now (record {
        frame = refl;
        worker = refl;
        page = refl;
        agrees = laws.pools (opening v.given) tick_at happening.Event.Tick (pool k) refl refl (c.sound (v.seen ++ tick_part.before)).residence kept.agrees;
        kept = kept.kept;
        epoch = (let same = tick_before.epoch in omega arith);
      })

  tick_met : AreMet v.given (state v) r.more
  tick_met = met_parted r tick_part refl

  tick_place : (j : ℕ) → is_hot ((state v).core.place j) ≡ true → (state u).core.place j ≡ (state v).core.place j
  tick_place j h =
      let mid : (state (by_event tick_part)).core.place j ≡ (state v).core.place j = ap (λ (s : State). s.place j) tick_now ∙ stood_place j tick_before h in
      stood_place j tick_behind (ap is_hot mid ∙ h) ∙ mid

  tick_rested : Rested z v u
  tick_rested = record {
    cold = λ j h. tick_behind.cold j ∙ (ap (λ (s : State). is_cold (s.place j)) tick_now ∙ (tick_before.cold j ∙ h));
    saved = λ j h. tick_behind.saved j ∙ (ap (λ (s : State). s.saved j) tick_now ∙ tick_before.saved j);
    pages = λ alone j.
        let one : state u ≡ state (onward v (told.Tick ∷ [])) = ran_state r ∙ ap (λ es. state (onward v es)) (r.all alone) in
        let core_is : (state u).core ≡ step (opening v.given) (state v).core happening.Event.Tick = ap (λ n. n.core) (one ∙ state_on v (told.Tick ∷ [])) ∙ core_step v.given (state v) told.Tick in
        ap (λ (s : State). s.page j) core_is ∙ tick_page (opening v.given) (state v).core j (core.may (opening v.given) (state v).core happening.Event.Tick);
  }

-- ## The whole

pub has_cooled : {z : Shape} {v e t u : View} {was is : Provider} {entry : Cooling} → RowLaws → Keeps z v was → IsStamp z v entry.epoch e → v.held ≡ [] → entry.epoch < 2 ^ 62 → HasUnhooked z e was entry t is → HasTicked z t u → HasCooled z v was entry u is × (is.hand ≡ was.hand)
has_cooled {z = z} {v = v} {e = e} {t = t} {u = u} {was = was} {is = is} {entry = entry} laws c k none small h tick =
    let p = entry.page in
    let st = ran_stood laws.stood c tt k.ran in
    let first : Ran z.alone v (told.Cool p ∷ []) t = ran_append z.alone v [] e (told.Cool p ∷ []) t k.ran h.goes.ran in
    let all : Ran z.alone v (told.Cool p ∷ (told.Tick ∷ [])) u = ran_append z.alone v (told.Cool p ∷ []) t (told.Tick ∷ []) u first tick.ran in
    let low : (state t).core.epoch < 2 ^ 62 = (let a = h.epoch in let b = k.epoch_is in omega arith) in
    let met_first : AreMet v.given (state v) first.more = met_joined k.ran h.goes.ran first (met_others v.given k.ran.more (state v) (none_ran z.alone v e c.actor k.ran)) h.met in
    let hand : is.hand ≡ was.hand = ap (λ (x : Provider). x.hand) h.memory in
    let hot_first : is_hot ((state v).core.place p) ≡ true = sym (st.hot p) ∙ ap is_hot h.hot in (
      record {
        moved = record {
          events = told.Cool p ∷ (told.Tick ∷ []);
          goes = record { ran = all; held = tick.held ∙ h.goes.held; keeps = tick_keeps laws h.goes.keeps tick.ran low };
          pagers = (refl, (refl, tt));
          ticked = tt;
          few = omega arith;
          met = met_joined first tick.ran all met_first (tick_met laws h.goes.keeps tick.ran);
          same = record { frames = ap (λ (x : Provider). x.frames) h.memory; workers = ap (λ (x : Provider). x.workers) h.memory; generation = ap (λ (x : Provider). x.generation) h.memory };
        };
        events_are = refl;
        hot = sym (stood_place p st hot_first) ∙ h.hot;
        memory = h.memory ∙ ap (λ n. chilled was entry is.free n) (sym hand);
        rested = rested_join (rested_join (idle_ran laws c k.ran (k.held ∙ none)).rested h.rested) (tick_rested laws h.goes.keeps tick.ran);
        others = λ j ne hot.
            let a = stood_place j st hot in
            let b : (state t).core.place j ≡ (state e).core.place j = h.others j ne (ap is_hot a ∙ hot) in
            tick_place laws h.goes.keeps tick.ran j (ap is_hot (b ∙ a) ∙ hot) ∙ (b ∙ a);
      },
      hand,
    )
