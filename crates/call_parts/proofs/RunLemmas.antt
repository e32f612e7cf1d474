-- Events, and where a view stands in a run.
use Rattle.std.proofs.Common.{◌≡◌, ◌++◌, ◌||◌, ◌&&◌, ℕ, Bool, true, false, cond, List, [], ◌∷◌, refl, sym, ap, ◌∙◌, subst, true≢false}
use Rattle.std.proofs.lemmas.List.{append_assoc}
use Rattle.map_model.specs.Lists.{all, any}
use Rattle.session_state.specs.core_state.Openings.{Opening}
use Rattle.session_state.specs.core_state.Events as happening
use Rattle.session_state.specs.core_state.Needs.{may}
use Rattle.session_state.specs.core_state.States.{State, start}
use Rattle.session_state.specs.core_state.Steps as core
use Rattle.session_state.specs.core_state.Steps.{AllMet, happens, state_after}
use Rattle.session_state.proofs.core_state.Runs.{run_more}
use Rattle.session_state.specs.core_calls.Fronts.{Done, front}
use Rattle.session_state.specs.row_words.declared.event.Event.{Event}
use Rattle.session_state.specs.row_words.declared.given.Given.{Given}
use Rattle.session_state.specs.row_words.Moments.{Moment, event_of, events_of}
use Rattle.session_state.specs.row_words.Openings.{opening}
use Rattle.session_state.specs.row_words.Sealed.{begun, run, stepped}
use Rattle.session_state.proofs.row_words.SealedLemmas.{run_append}
use Rattle.session_state.specs.row_opening.Openings.{EveryNeed, EveryReached, Opens}
use Rattle.session_state.specs.rows_trait.declared.view.View.{View}
use Rattle.session_state.specs.rows_trait.Views.{after_all, state}
use Rattle.session_state.specs.worker_log.Logs.{Log}
use Rattle.session_state.specs.engine_calls.Parts.{behind_first}
use Rattle.session_state.specs.engine_trait.Logs.{Logs}
use Rattle.session_state.specs.Ties.{Behind}
use Rattle.session_state.proofs.Moments.{events_more}

-- ## Lists of events

pub any_join : (p : happening.Event → Bool) (es fs : List happening.Event) → any p (es ++ fs) ≡ (any p es || any p fs)
any_join p [] fs = refl
any_join p (e ∷ es) fs = go (p e) (any_join p es fs)
  where
    go : (b : Bool) → any p (es ++ fs) ≡ (any p es || any p fs) → (b || any p (es ++ fs)) ≡ ((b || any p es) || any p fs)
    go true q = refl
    go false q = q

-- both of two are
pub each_true : (p q : Bool) → (p && q) ≡ true → (p ≡ true) × (q ≡ true)
each_true true q x = (refl, x)
each_true false q x = absurd (true≢false (sym x))

-- one that is so of none of them
pub none_of : (p q : happening.Event → Bool) → ((e : happening.Event) → p e ≡ true → q e ≡ false) → (es : List happening.Event) → all p es ≡ true → any q es ≡ false
none_of p q differs [] h = refl
none_of p q differs (e ∷ es) h = let b = each_true (p e) (all p es) h in go (q e) (any q es) (differs e b.0) (none_of p q differs es b.1)
  where
    go : (c d : Bool) → c ≡ false → d ≡ false → (c || d) ≡ false
    go true d x y = absurd (true≢false x)
    go false d x y = y

-- ## Logs

pub logs_join : (w : ℕ) (g : Opening) (es fs : List happening.Event) (s : State) (was mid is : Log) → Logs w g s es was mid → Logs w g (core.run g s es) fs mid is → Logs w g s (es ++ fs) was is
logs_join w g [] fs s was mid is a b = subst (λ k. Logs w g s fs k is) a b
logs_join w g (e ∷ es) fs s was mid is a b = (a.0, a.1, logs_join w g es fs (core.step g s e) a.0 mid is a.2 b)

-- ## Needs

pub met_join : (g : Opening) (s : State) (ys zs : List happening.Event) → AllMet g s ys → AllMet g (core.run g s ys) zs → AllMet g s (ys ++ zs)
met_join g s [] zs p q = q
met_join g s (e ∷ ys) zs p q = (p.0, met_join g (core.step g s e) ys zs p.1 q)

-- of the first ones, and of the others
pub met_first : (g : Opening) (s : State) (ys zs : List happening.Event) → AllMet g s (ys ++ zs) → AllMet g s ys
met_first g s [] zs m = tt
met_first g s (e ∷ ys) zs m = (m.0, met_first g (core.step g s e) ys zs m.1)

pub met_later : (g : Opening) (s : State) (ys zs : List happening.Event) → AllMet g s (ys ++ zs) → AllMet g (core.run g s ys) zs
met_later g s [] zs m = m
met_later g s (e ∷ ys) zs m = met_later g (core.step g s e) ys zs m.1

-- the moment after an event, of rows
stepped_core : (v : Given) (m : Moment) (e : Event) → (stepped v m e).core ≡ core.step (opening v) m.core (event_of e)
unfolding stepped
stepped_core v m e = refl

-- and after several
pub run_core : (v : Given) (m : Moment) (es : List Event) → (run v m es).core ≡ core.run (opening v) m.core (events_of es)
run_core v m [] = refl
run_core v m (e ∷ es) = run_core v (stepped v m e) es ∙ ap (λ s. core.run (opening v) s (events_of es)) (stepped_core v m e)

-- a run of the core that began so
module _ (reached : EveryReached) (needs : EveryNeed) (g : Opening) (k : Given) (o : Opens g k) where
  one_more : (seen : List Event) (e : Event) → after_all k (seen ++ e ∷ []) ≡ stepped k (after_all k seen) e
  one_more seen e = run_append k (begun k) seen (e ∷ [])

  -- a step of the rows is one of the run
  pub step_as : (seen : List Event) (e : Event) → core.step (opening k) (after_all k seen).core (event_of e) ≡ core.step g (after_all k seen).core (event_of e)
  step_as seen e = sym (stepped_core k (after_all k seen) e) ∙ (ap (λ m. m.core) (sym (one_more seen e)) ∙ (reached g k o (seen ++ e ∷ [])
      ∙ (ap (λ ys. state_after g (events_of k.before ++ ys)) (events_more seen (e ∷ [])) ∙ (ap (state_after g) (sym (append_assoc (events_of k.before) (events_of seen) (event_of e ∷ [])))
      ∙ (run_more g (start g) (events_of k.before ++ events_of seen) (event_of e ∷ []) ∙ ap (λ s. core.step g s (event_of e)) (sym (reached g k o seen)))))))

  pub met_on : (seen es : List Event) → AllMet (opening k) (after_all k seen).core (events_of es) → AllMet g (after_all k seen).core (events_of es)
  met_on seen [] m = tt
  met_on seen (e ∷ es) m = (
    needs g k o (after_all k seen).core (event_of e) ∙ m.0,
    subst (λ s. AllMet g s (events_of es)) (there ∙ step_as seen e) (met_on (seen ++ e ∷ []) es (subst (λ s. AllMet (opening k) s (events_of es)) (sym there) m.1)),
  )
    where
      there : (after_all k (seen ++ e ∷ [])).core ≡ core.step (opening k) (after_all k seen).core (event_of e)
      there = ap (λ m. m.core) (one_more seen e) ∙ stepped_core k (after_all k seen) e

-- ## Within a call

-- the state behind the first events, as one of the run
pub front_is : (g : Opening) (xs : List Done) (first : List happening.Event) → state_after g (front xs ++ first) ≡ behind_first g xs first
front_is g xs first = run_more g (start g) (front xs) first

-- the state behind them and further ones
pub first_more : (g : Opening) (xs : List Done) (first more : List happening.Event) → behind_first g xs (first ++ more) ≡ core.run g (behind_first g xs first) more
first_more g xs first more = run_more g (state_after g (front xs)) first more

module _ (reached : EveryReached) (needs : EveryNeed) (g : Opening) (xs : List Done) (first : List happening.Event) (v : View) (b : Behind g xs first v) where
  -- the moment's core is the state behind these events
  pub core_is : (state v).core ≡ behind_first g xs first
  core_is = reached g v.given b.opens v.seen ∙ (ap (state_after g) b.seen ∙ run_more g (start g) (front xs) first)

  -- what was met there is met in the run
  pub met_in : (es : List Event) → AllMet (opening v.given) (state v).core (events_of es) → AllMet g (behind_first g xs first) (events_of es)
  met_in es m = subst (λ s. AllMet g s (events_of es)) core_is (met_on reached needs g v.given b.opens v.seen es m)

  -- what happens there happens in the run
  pub happens_in : (e : Event) → may (opening v.given) (state v).core (event_of e) ≡ true → happens (opening v.given) (state v).core (event_of e) ≡ core.step g (behind_first g xs first) (event_of e)
  happens_in e m = sym (ap (λ c. cond c (happens (opening v.given) (state v).core (event_of e)) (state v).core) m) ∙ (step_as reached needs g v.given b.opens v.seen e ∙ ap (λ s. core.step g s (event_of e)) core_is)

-- and so on, by events that the view has seen next
pub behind_more : (g : Opening) (xs : List Done) (first : List happening.Event) (v : View) → Behind g xs first v → (es : List Event) (w : View) → w.given ≡ v.given → w.seen ≡ v.seen ++ es → AllMet g (behind_first g xs first) (events_of es) → Behind g xs (first ++ events_of es) w
behind_more g xs first v b es w given seen met = record {
  opens = subst (λ k. Opens g k) (sym given) b.opens;
  met = met_join g (state_after g (front xs)) first (events_of es) b.met met;
  seen = (λ i. events_of (given i).before ++ events_of (seen i))
      ∙ (ap (λ ys. events_of v.given.before ++ ys) (events_more v.seen es)
      ∙ (sym (append_assoc (events_of v.given.before) (events_of v.seen) (events_of es))
      ∙ (ap (λ ys. ys ++ events_of es) b.seen ∙ append_assoc (front xs) first (events_of es))));
}
