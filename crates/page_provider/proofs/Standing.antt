-- What stays of where pages are while the pager appends nothing but misses, and how one event of its own splits what
-- ran.
use Rattle.std.proofs.Common.{◌≡◌, ◌==◌, ℕ, Bool, true, false, List, [], ◌∷◌, ◌++◌, append-nil, append_assoc, refl, ap, subst, ◌∙◌, true≢false}
use Rattle.std.specs.Prelude.{if◌then◌else◌}
use Rattle.btree_descent.specs.core_state.States.{State}
use Rattle.btree_descent.specs.core_state.Steps as steps
use Rattle.btree_descent.specs.row_words.declared.event.Event.{Event}
use Rattle.btree_descent.specs.row_words.declared.event.Event.TheVariants as told
use Rattle.btree_descent.specs.row_words.declared.given.Given.{Given}
use Rattle.btree_descent.specs.row_words.Moments.{Moment, event_of, actor_of, pager, by}
use Rattle.btree_descent.specs.row_words.Openings.{opening}
use Rattle.btree_descent.specs.row_words.Sealed.{begun, stepped, run}
use Rattle.btree_descent.proofs.row_words.SealedLemmas.{run_append}
use Rattle.btree_descent.specs.rows_trait.declared.view.View.{View}
use Rattle.btree_descent.specs.rows_trait.Views.{Shape, after_all, state}
use Rattle.btree_descent.specs.rows_trait.Turns.{Ran}
use Rattle.btree_descent.specs.lean_proto.Still.{Stood, EveryStood}
use Rattle.page_provider.specs.Steps.{AreMisses}

-- what a view knows when these events have been seen too
abbrev pub onward : View → List Event → View
onward v es = record v { seen = v.seen ++ es }

-- ## Two views with one state

pub stood_same : (v u : View) → (state u).core ≡ (state v).core → Stood v u
stood_same v u e = record {
  queue = ap (λ s. s.queue) e;
  epoch = ap (λ s. s.epoch) e;
  hot = λ q. ap (λ s. Rattle.btree_descent.specs.core_state.States.is_hot (s.place q)) e;
  cooling = λ q. ap (λ s. Rattle.btree_descent.specs.core_state.States.is_cooling (s.place q)) e;
  cold = λ q. ap (λ s. Rattle.btree_descent.specs.core_state.States.is_cold (s.place q)) e;
  frame = λ q f. ap (λ s. Rattle.btree_descent.specs.core_state.States.in_frame (s.place q) f) e;
  since = λ q. ap (λ s. Rattle.btree_descent.specs.core_state.States.epoch_of (s.place q)) e;
  saved = λ q. ap (λ s. s.saved q) e;
  page = λ q h. ap (λ s. s.page q) e;
  unwaited = λ q w h. ap (λ s. Rattle.btree_descent.specs.core_state.States.waits_for (s.place q) w) e ∙ h;
}

pub stood_then : {v u w : View} → Stood v u → Stood u w → Stood v w
stood_then a b = record {
  queue = b.queue ∙ a.queue;
  epoch = b.epoch ∙ a.epoch;
  hot = λ q. b.hot q ∙ a.hot q;
  cooling = λ q. b.cooling q ∙ a.cooling q;
  cold = λ q. b.cold q ∙ a.cold q;
  frame = λ q f. b.frame q f ∙ a.frame q f;
  since = λ q. b.since q ∙ a.since q;
  saved = λ q. b.saved q ∙ a.saved q;
  page = λ q h. b.page q (a.hot q ∙ h) ∙ a.page q h;
  unwaited = λ q w h. b.unwaited q w (a.unwaited q w h);
}

-- ## Moments

pub state_on : (v : View) (es : List Event) → state (onward v es) ≡ run v.given (state v) es
state_on v es = run_append v.given (begun v.given) v.seen es

-- the core's step
pub core_step : (v : Given) (m : Moment) (e : Event) → (stepped v m e).core ≡ steps.step (opening v) m.core (event_of e)
unfolding stepped
core_step v m e = refl

pub core_miss : (v : Given) (m : Moment) (w : ℕ) → (stepped v m (told.Miss w)).core ≡ m.core
unfolding stepped
core_miss v m w = refl

-- a view that knows what another one does
pub ran_state : {alone : Bool} {v u : View} {es : List Event} → (r : Ran alone v es u) → state u ≡ state (onward v r.more)
ran_state r = (λ i. after_all (r.given i) (r.seen i))

-- where nobody else steps: behind no event, and behind one
pub core_none : {alone : Bool} {v u : View} → Ran alone v [] u → alone ≡ true → (state u).core ≡ (state v).core
core_none {v = v} r one = ap (λ m. m.core) (ran_state r ∙ (ap (λ es. state (onward v es)) (r.all one) ∙ state_on v []))

pub core_one : {alone : Bool} {v u : View} {e : Event} → Ran alone v (e ∷ []) u → alone ≡ true → (state u).core ≡ steps.step (opening v.given) (state v).core (event_of e)
core_one {v = v} {e = e} r one = ap (λ m. m.core) (ran_state r ∙ (ap (λ es. state (onward v es)) (r.all one) ∙ state_on v (e ∷ []))) ∙ core_step v.given (state v) e

-- ## Events of others, and misses

-- as the only seat would see it
one_ran : (v : View) (es : List Event) → Ran true v es (onward v es)
one_ran v es = record {
  more = es;
  seen = refl;
  own = λ n. absurd (true≢false n);
  all = λ _. refl;
  part = λ n. absurd (true≢false n);
  since = record { acts = []; steps = refl };
  given = refl;
  actor = refl;
  live = refl;
  made = refl;
  ended = refl;
}

module _ (every : EveryStood) (z : Shape) where
  pub stood_others : (v : View) (es : List Event) → by pager es ≡ [] → Stood v (onward v es)
  stood_others v es none = every (record z { alone = true }) v (onward v es) es none (one_ran v es)

  miss_stood : (v : View) (w : ℕ) → Stood v (onward v (told.Miss w ∷ []))
  miss_stood v w = stood_same v (onward v (told.Miss w ∷ [])) (ap (λ m. m.core) (state_on v (told.Miss w ∷ [])) ∙ core_miss v.given (state v) w)

  -- one event of the pager, a miss
  one_miss : (v : View) (e : Event) (es : List Event) → AreMisses (e ∷ es) → Stood v (onward v (e ∷ [])) × AreMisses es
  one_miss v (told.Miss w) es k = (miss_stood v w, k)
  one_miss v _ es k = absurd k

  pub stood_misses : (es : List Event) (v : View) → AreMisses (by pager es) → Stood v (onward v es)
  stood_misses [] v m = stood_same v (onward v []) (ap (λ s. (after_all v.given s).core) (append-nil v.seen))
  stood_misses (e ∷ es) v m = go (λ r. subst (λ (s : List Event). Stood (onward v (e ∷ [])) (record v { seen = s })) (append_assoc v.seen (e ∷ []) es) (stood_misses es (onward v (e ∷ [])) r)) (actor_of e == pager) refl m
    where
      go : (AreMisses (by pager es) → Stood (onward v (e ∷ [])) (onward v (e ∷ es))) → (b : Bool) → (actor_of e == pager) ≡ b → AreMisses (if b then e ∷ by pager es else by pager es) → Stood v (onward v (e ∷ es))
      go rest true is k = let o = one_miss v e (by pager es) k in stood_then o.0 (rest o.1)
      go rest false is k = stood_then (stood_others v (e ∷ []) (ap (λ b. if b then e ∷ [] else []) is)) (rest k)
