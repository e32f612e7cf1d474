-- A get, and a del of an absent key.
use Rattle.std.proofs.Common.{◌≡◌, ℕ, Bool, true, false, cond, ◌==◌, List, [], ◌∷◌, ◌++◌, Option, None, refl, sym, ap, ◌∙◌, true≢false}
use Rattle.map_model.specs.declared.call.Call.{Call}
use Rattle.map_model.specs.declared.call.Call.TheVariants as call
use Rattle.map_model.specs.Lists.{any, keep}
use Rattle.map_model.specs.Maps.{MapCall, MapAnswer}
use Rattle.run_crashes.specs.core_state.Openings.{Opening}
use Rattle.run_crashes.specs.core_state.States.{State}
use Rattle.run_crashes.specs.core_state.Events.{Event, Mode}
use Rattle.run_crashes.specs.core_state.Needs.{may, value_in}
use Rattle.run_crashes.specs.core_state.Steps.{state_after}
use Rattle.run_crashes.proofs.core_state.Runs.{met_more}
use Rattle.lean_disk.specs.Story.{Story}
use Rattle.run_crashes.specs.core_disk.Versions.{EveryVersion}
use Rattle.run_crashes.specs.core_calls.Deeds.{Absent, Got}
use Rattle.run_crashes.specs.core_calls.Fronts.{AreFresh, Done, front, outcomes}
use Rattle.run_crashes.specs.core_calls.LogEvents.{IsPressed}
use Rattle.run_crashes.proofs.core_calls.WhereLemmas.{syncs_more}
use Rattle.run_crashes.specs.core_calls.Marks.{Called, marks}
use Rattle.run_crashes.specs.core_calls.Refusals.{Limits}
use Rattle.run_crashes.specs.core_calls.Runs.{Tells}
use Rattle.run_crashes.specs.core_calls.Steps.{is_step, is_structure}
use Rattle.engine_calls.specs.Parts.{behind_first}
use Rattle.engine_calls.specs.Puts.{EveryGet, IsRead, is_alone, read_by, taking}
use Rattle.engine_calls.proofs.ComingLemmas.{follows, goes_on}
use Rattle.engine_calls.proofs.MarkLemmas.{any_append, first_none, first_steps, fresh_append, marks_last}
use Rattle.engine_calls.proofs.PartLemmas.{quiet}

module _ (l : Limits) (g : Opening) (group : ℕ) (xs : List Done) (c : Call) (mode : Mode) (before between : List Event) (w page key : ℕ) (value : Option ℕ) (i : IsRead g xs c mode before between w page key value) where
  abbrev first : List Event
  first = taking g w key mode before between

  -- where it is read
  abbrev s : State
  s = behind_first g xs first

  abbrev event : Event
  event = Event.Read w page key value

  met : may g s event ≡ true
  met = (met_more g (state_after g (front xs)) first (event ∷ []) i.met).0

  told : (alone : Bool) → is_alone g xs first w key ≡ alone → (v : ℕ) → marks g (state_after g (front xs)) (first ++ event ∷ []) v [] ≡ cond (w == v) (Called (MapCall.Get key) (MapAnswer.Value value) alone ∷ []) []
  told alone q v = marks_last g (state_after g (front xs)) first (event ∷ []) v (first_none w (g.row_of key) mode before between i.before_steps i.between_steps) ∙ go (may g s event) met (w == v)
    where
      go : (a : Bool) → a ≡ true → (b : Bool) → cond a (cond b (Called (MapCall.Get key) (MapAnswer.Value (value_in g.format (s.page page).node key)) (is_alone g xs first w key) ∷ []) []) []
          ≡ cond b (Called (MapCall.Get key) (MapAnswer.Value value) alone ∷ []) []
      go true e true = ap (λ (o : Option ℕ). Called (MapCall.Get key) (MapAnswer.Value o) (is_alone g xs first w key) ∷ []) (sym i.value_is) ∙ ap (λ (x : Bool). Called (MapCall.Get key) (MapAnswer.Value value) x ∷ []) q
      go true e false = refl
      go false e b = absurd (true≢false (sym e))

  fresh : AreFresh g (state_after g (front xs)) (first ++ event ∷ [])
  fresh = fresh_append g (state_after g (front xs)) first (event ∷ []) (first_none w (g.row_of key) mode before between i.before_steps i.between_steps) (tt, tt)

  steps : keep is_step (first ++ event ∷ []) ≡ Event.Lock w (g.row_of key) mode ∷ event ∷ []
  steps = first_steps w (g.row_of key) mode before between i.before_steps i.between_steps event refl

  structure : any is_structure (first ++ event ∷ []) ≡ false
  structure = any_append is_structure first (event ∷ []) i.structure refl

pub get_tells : (l : Limits) (g : Opening) (group : ℕ) (xs : List Done) (before between : List Event) (w page key : ℕ) (value : Option ℕ)
    → IsRead g xs (call.Get key) Mode.Shared before between w page key value → let first = taking g w key Mode.Shared before between in
    Tells l g group xs (read_by (Got key value (is_alone g xs first w key)) first w page key value)
get_tells l g group xs before between w page key value i =
    let first = taking g w key Mode.Shared before between in
    let done = read_by (Got key value (is_alone g xs first w key)) first w page key value in
    record {
      met = i.met;
      fresh = fresh l g group xs (call.Get key) Mode.Shared before between w page key value i;
      told = told l g group xs (call.Get key) Mode.Shared before between w page key value i (is_alone g xs first w key) refl;
      in_turn = i.whole;
      steps = (refl, page, steps l g group xs (call.Get key) Mode.Shared before between w page key value i);
      hindered = follows (outcomes xs) done.outcome i.line tt;
      goes_on = goes_on (outcomes xs) done.outcome i.line;
      structure = λ e. structure l g group xs (call.Get key) Mode.Shared before between w page key value i;
      logs = syncs_more (IsPressed g (call.Get key)) g first (Event.Read w page key value ∷ []) (state_after g (front xs)) false i.syncs tt;
      refused = tt;
      scans = tt;
      released = λ e. absurd (true≢false (sym e));
    }

pub absent_tells : (l : Limits) (g : Opening) (group : ℕ) (xs : List Done) (before between : List Event) (w page key : ℕ)
    → IsRead g xs (call.Del key) Mode.Alone before between w page key None → let first = taking g w key Mode.Alone before between in is_alone g xs first w key ≡ true
    → Tells l g group xs (read_by (Absent key) first w page key None)
absent_tells l g group xs before between w page key i alone =
    let first = taking g w key Mode.Alone before between in
    let done = read_by (Absent key) first w page key None in
    record {
      met = i.met;
      fresh = fresh l g group xs (call.Del key) Mode.Alone before between w page key None i;
      told = told l g group xs (call.Del key) Mode.Alone before between w page key None i true alone;
      in_turn = i.whole;
      steps = (refl, page, steps l g group xs (call.Del key) Mode.Alone before between w page key None i);
      hindered = follows (outcomes xs) done.outcome i.line tt;
      goes_on = goes_on (outcomes xs) done.outcome i.line;
      structure = λ e. structure l g group xs (call.Del key) Mode.Alone before between w page key None i;
      logs = syncs_more (IsPressed g (call.Del key)) g first (Event.Read w page key None ∷ []) (state_after g (front xs)) false i.syncs tt;
      refused = tt;
      scans = tt;
      released = λ e. absurd (true≢false (sym e));
    }

pub every_get : EveryVersion → (old new : Story) → EveryGet old new
every_get versions old new l g group xs s0 k before between w page key b = record {
  get = λ a value x i.
      let first = taking g w key Mode.Shared before between in
      let y = quiet l g group xs s0 k old new new first a b versions (Event.Read w page key value ∷ []) refl x in
      record { answer = get_tells l g group xs before between w page key value i; known = a; no_earlier = y.no_earlier; stands = y.stands; notes = y.notes; any_moment = y.any_moment };
  absent = λ a x i alone.
      let first = taking g w key Mode.Alone before between in
      let y = quiet l g group xs s0 k old new new first a b versions (Event.Read w page key None ∷ []) refl x in
      record { answer = absent_tells l g group xs before between w page key i alone; known = a; no_earlier = y.no_earlier; stands = y.stands; notes = y.notes; any_moment = y.any_moment };
}
