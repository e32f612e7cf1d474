-- A page of a frame, or one that hangs under it, has cooled; or nothing was done.
use Rattle.std.proofs.Common.{◌≡◌, ◌≢◌, ◌<◌, ◌||◌, ℕ, Bool, true, false, List, [], ◌∷◌, None, Some, Option, refl, sym, ap, subst, ◌∙◌, arith}
use Rattle.std.specs.Option.{is_some}
use Rattle.page_model.specs.Tree.{IsTree}
use Rattle.btree_descent.specs.core_state.Openings.{Opening}
use Rattle.btree_descent.specs.core_state.States.{State, is_hot, nodes_of}
use Rattle.btree_descent.proofs.core_paging.ResidenceKept.{named_below}
use Rattle.btree_descent.specs.row_words.declared.event.Event.TheVariants as told
use Rattle.btree_descent.specs.row_words.declared.given.Given.{Given}
use Rattle.btree_descent.specs.row_words.Moments.{Moment}
use Rattle.btree_descent.specs.row_words.Openings.{opening}
use Rattle.btree_descent.specs.rows_trait.declared.view.View.{View}
use Rattle.btree_descent.specs.rows_trait.Turns.{Ran}
use Rattle.btree_descent.specs.rows_trait.Views.{Shape, state}
use Rattle.btree_descent.proofs.rows_trait.Runs.{ran_append, ran_none}
use Rattle.row_image.specs.declared.sight.Sight.{Sight}
use Rattle.row_image.specs.Hot.{IsHotIn}
use Rattle.cooling_stage.specs.declared.stage.Cooling.{Cooling}
use Rattle.page_provider.specs.declared.refusal.Refusal.{Refusal}
use Rattle.page_provider.specs.declared.refusal.Refusal.TheVariants as refusal
use Rattle.page_provider.specs.Cools.{CanCool, CoolsIn, CoolsOrNot, CoolsUnder, Hangs, HasCooled, Idle}
use Rattle.page_provider.specs.Ends.{HasRefused}
use Rattle.page_provider.specs.Finds.{Candidate, HasCandidate, SinceFound, Stopped}
use Rattle.page_provider.specs.Inside.{Missed}
use Rattle.page_provider.specs.Laws.{RowLaws}
use Rattle.page_provider.specs.Providers.{Provider, Keeps}
use Rattle.page_provider.proofs.Chills.{met_others, none_ran, stood_place}
use Rattle.page_provider.proofs.Keeping.{keeps_ran, ran_stood}
use Rattle.page_provider.proofs.Moving.{halts_refused, missed_halts, refused_up}
use Rattle.page_provider.proofs.Ticks.{idle_after, met_joined, rested_join}
use Rattle.page_provider.proofs.Unlinks.{idle_ran, state_alone, stopped_after}

-- page 0 hangs under no other page
no_zero : (g : Opening) (s : State) → IsTree g.format (nodes_of s) → (p : ℕ) → p < g.format.pages → p ≢ 0 → (chain : List ℕ) → Hangs s p chain 0 → ⊥
no_zero g s tree p lt ne [] h = ne h
no_zero g s tree p lt ne (c ∷ cs) h = let b = named_below g (nodes_of s) tree p c lt h.0 in let some = b.0 in no_zero g s tree c b.1 (λ e. absurd (omega arith)) cs h.2

hot_alone : {alone : Bool} {v n : View} {frame page : ℕ} → Ran alone v [] n → alone ≡ true → IsHotIn v.given (state v) frame page → IsHotIn n.given (state n) frame page
hot_alone {frame = frame} {page = page} r alone h = subst (λ (x : Given × Moment). IsHotIn x.0 x.1 frame page) (λ i. (sym r.given i, sym (state_alone r alone) i)) h

by_alone : (b : Bool) → (b ≡ true → ⊥) → b ≡ false
by_alone true none = absurd (none refl)
by_alone false none = refl

-- no page stood hot in the frame
pub idle_bare : {z : Shape} {v n : View} {k : Provider} {frame : ℕ} → RowLaws → Keeps z v k → n.held ≡ [] → (page : ℕ) × CanCool v frame page → Candidate z v frame None n → Idle z v k n k × (z.alone ≡ false)
idle_bare {z = z} laws c none cools k = (idle_ran laws c k.0 none, by_alone z.alone (λ alone. k.1 alone cools.0 (hot_alone k.0 alone cools.1.hot)))

-- page 0 was found
pub idle_zero : {z : Shape} {v n : View} {k : Provider} {frame : ℕ} {s : Sight} → RowLaws → Keeps z v k → n.held ≡ [] → (page : ℕ) × CanCool v frame page → HasCandidate z v frame s n → s.node.number ≡ 0 → Idle z v k n k × (z.alone ≡ false)
idle_zero {z = z} {v = v} {n = n} {s = s} laws c none cools k zero =
    let r = k.sight.ran in
    let sound = (keeps_ran laws.stood laws.standing tt r c).sound n.seen in (
      idle_ran laws c r none,
      by_alone z.alone (λ alone.
          let hot = hot_alone r alone cools.1.hot in
          let h = k.hangs alone cools.0 hot in
          no_zero (opening n.given) (state n).core sound.tree cools.0 hot.below cools.1.other h.0 (subst (λ p. Hangs (state n).core cools.0 h.0 p) zero h.1)),
    )

-- it has cooled, as it is said of a later view
cooled_after : {z : Shape} {v n u : View} {was is : Provider} {entry : Cooling} → RowLaws → Keeps z v was → Ran z.alone v [] n → n.held ≡ [] → HasCooled z n was entry u is → HasCooled z v was entry u is
cooled_after {z = z} {v = v} {n = n} {u = u} {entry = entry} laws c r none h =
    let p = entry.page in
    let st = ran_stood laws.stood c tt r in
    let later : Ran z.alone n (told.Cool p ∷ (told.Tick ∷ [])) u = subst (λ es. Ran z.alone n es u) h.events_are h.moved.goes.ran in
    let all : Ran z.alone v (told.Cool p ∷ (told.Tick ∷ [])) u = ran_append z.alone v [] n (told.Cool p ∷ (told.Tick ∷ [])) u r later in
    let hot_first : is_hot ((state v).core.place p) ≡ true = sym (st.hot p) ∙ ap is_hot h.hot in
    record {
      moved = record {
        events = told.Cool p ∷ (told.Tick ∷ []);
        goes = record { ran = all; held = h.moved.goes.held; keeps = h.moved.goes.keeps };
        pagers = (refl, (refl, tt));
        ticked = tt;
        few = omega arith;
        met = met_joined r h.moved.goes.ran all (met_others v.given r.more (state v) (none_ran z.alone v n c.actor r)) h.moved.met;
        same = h.moved.same;
      };
      events_are = refl;
      hot = sym (stood_place p st hot_first) ∙ h.hot;
      memory = h.memory;
      rested = rested_join (idle_ran laws c r none).rested h.rested;
      others = λ j ne hot. let a = stood_place j st hot in h.others j ne (ap is_hot a ∙ hot) ∙ a;
    }

-- ## The answer

abbrev pub is_there : Option Cooling → Bool
is_there None = false
is_there (Some x) = true

module _ {z : Shape} {v n : View} {was : Provider} {frame : ℕ} (u : View) (is : Provider) (s : Sight) (laws : RowLaws) (c : Keeps z v was) (none : n.held ≡ []) (k : HasCandidate z v frame s n) where
  answered_some : (entry : Cooling) → CoolsOrNot z n was s.node.number s.glimpse.row (Some entry) u is → CoolsUnder z frame v was u is
  answered_some entry h = record {
    entry = entry;
    cooled = cooled_after laws c k.sight.ran none h.0;
    under = λ alone page hot.
        let x = k.hangs alone page (hot_alone k.sight.ran alone hot) in
        (x.0, subst (λ (q : State × ℕ). Hangs q.0 page x.0 q.1) (λ i. ((state_alone k.sight.ran alone i).core, sym h.1 i)) x.1);
  }

  pub answered : (done : Option Cooling) → CoolsOrNot z n was s.node.number s.glimpse.row done u is → CoolsIn z frame v was (is_there done) u is
  answered (Some entry) h = answered_some entry h
  answered None h = (idle_after laws c k.sight.ran h.0 h.2, h.1)

  pub answered_not : {why : Refusal} → v.held ≡ [] → Stopped 2 z n why u → SinceFound s n why u → HasRefused 2 z [] v was why u was
  answered_not {why} first stopped cause = halts_refused laws c first (record { stopped = stopped_after k.sight.ran stopped; cause = cause v k.sight.found })

pub there_is : (done : Option Cooling) → is_some done ≡ is_there done
there_is None = refl
there_is (Some x) = refl

-- ## Refusals

pub cool_broken : {z : Shape} {v : View} {k : Provider} → RowLaws → Keeps z v k → v.held ≡ [] → k.broken ≡ true → HasRefused 2 z [] v k refusal.Broken v k
cool_broken {z = z} {v = v} {k = k} laws c none well =
    let idle = idle_ran laws c (ran_none z.alone v) none in
    record {
      moved = record { events = []; goes = record { ran = ran_none z.alone v; held = none; keeps = c }; pagers = tt; ticked = tt; few = omega arith; met = met_others v.given (ran_none z.alone v).more (state v) (none_ran z.alone v v c.actor (ran_none z.alone v)); same = idle.moved.same };
      keeps = λ f p h e. e;
      broken = or_none k.broken;
      cause = tt;
      quiet = λ alone o. o;
      earlier = λ e. well;
    }
  where
    or_none : (b : Bool) → b ≡ (b || false)
    or_none true = refl
    or_none false = refl

pub cool_missed : {z : Shape} {v n : View} {k : Provider} {why : Refusal} → RowLaws → Keeps z v k → v.held ≡ [] → Missed z v why n → HasRefused 2 z [] v k why n k
cool_missed laws c none m = refused_up (omega arith) (halts_refused laws c none (missed_halts none m))
