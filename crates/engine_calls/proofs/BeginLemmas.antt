-- A begin.
use Rattle.std.proofs.Common.{◌≡◌, ℕ, suc, Bool, true, false, cond, ◌==◌, List, [], ◌∷◌, ◌++◌, refl, sym, ap, ◌∙◌, subst, true≢false}
use Rattle.std.proofs.lemmas.List.{append-nil}
use Rattle.map_model.specs.Lists.{any, keep}
use Rattle.run_crashes.specs.core_state.Openings.{Opening}
use Rattle.run_crashes.specs.core_state.States.{State}
use Rattle.run_crashes.specs.core_state.Events.{Event}
use Rattle.run_crashes.specs.core_state.Needs.{may}
use Rattle.run_crashes.specs.core_state.Steps.{state_after}
use Rattle.run_crashes.proofs.core_state.Runs.{met_more}
use Rattle.lean_disk.specs.Story.{Story}
use Rattle.run_crashes.specs.core_disk.Versions.{EveryVersion}
use Rattle.run_crashes.specs.core_calls.Fronts.{Done, front, outcomes}
use Rattle.run_crashes.specs.core_calls.LogEvents.{Prepares, is_log}
use Rattle.run_crashes.specs.core_calls.Marks.{Began, marks}
use Rattle.run_crashes.specs.core_calls.Refusals.{Limits}
use Rattle.run_crashes.specs.core_calls.Runs.{Tells}
use Rattle.run_crashes.specs.core_calls.Steps.{is_step, is_structure}
use Rattle.engine_calls.specs.Begins.{EveryBegin, IsBegin, begun_by}
use Rattle.engine_calls.specs.Parts.{behind_first}
use Rattle.engine_calls.proofs.ComingLemmas.{follows, goes_on}
use Rattle.engine_calls.proofs.MarkLemmas.{any_append, fresh_append, has_mark, keep_append, keep_none, marks_last, steps_none}
use Rattle.engine_calls.proofs.PartLemmas.{quiet}

module _ (l : Limits) (g : Opening) (group : ℕ) (xs : List Done) (before : List Event) (w number f : ℕ) (i : IsBegin l g xs before w number f) where
  -- where it begins
  abbrev s : State
  s = behind_first g xs before

  abbrev begin : Event
  begin = Event.Begin w f

  abbrev done : Done
  done = begun_by before w number f

  silent : any has_mark before ≡ false
  silent = steps_none before i.steps

  met : may g s begin ≡ true
  met = (met_more g (state_after g (front xs)) before (begin ∷ []) i.met).0

  told : (v : ℕ) → marks g (state_after g (front xs)) done.events v [] ≡ cond (w == v) (Began number ∷ []) []
  told v = marks_last g (state_after g (front xs)) before (begin ∷ []) v silent ∙ go (may g s begin) met (w == v)
    where
      go : (a : Bool) → a ≡ true → (b : Bool) → cond a (cond b (Began (suc (s.worker w).txn) ∷ []) []) [] ≡ cond b (Began number ∷ []) []
      go true e true = ap (λ (n : ℕ). Began n ∷ []) (sym i.next)
      go true e false = refl
      go false e b = absurd (true≢false (sym e))

  pub tells : Tells l g group xs done
  tells = record {
    met = i.met;
    fresh = fresh_append g (state_after g (front xs)) before (begin ∷ []) silent (i.flushed, tt);
    told = told;
    in_turn = tt;
    steps = (refl, f, keep_append is_step before (begin ∷ []) ∙ ap (λ (es : List Event). es ++ begin ∷ []) (keep_none is_step before i.steps));
    hindered = follows (outcomes xs) done.outcome i.line tt;
    goes_on = goes_on (outcomes xs) done.outcome i.line;
    structure = λ e. any_append is_structure before (begin ∷ []) i.structure refl;
    logs = (before, f, i.half, refl, subst (λ (es : List Event). Prepares i.half l g xs w es) (sym (keep_append is_log before (begin ∷ []) ∙ append-nil (keep is_log before))) i.prepares);
    refused = tt;
    scans = tt;
    released = λ e. absurd (true≢false (sym e));
  }

pub every_begin : EveryVersion → (old new : Story) → EveryBegin old new
every_begin versions old new l g group xs s0 k a before w number f b x i =
    let y = quiet l g group xs s0 k old new new before a b versions (Event.Begin w f ∷ []) refl x in
    record { answer = tells l g group xs before w number f i; known = a; no_earlier = y.no_earlier; stands = y.stands; notes = y.notes; any_moment = y.any_moment }
