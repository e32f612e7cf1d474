-- A refusal.
use Rattle.std.proofs.Common.{◌≡◌, ℕ, Bool, true, false, cond, ◌==◌, List, [], refl, sym, ◌∙◌, true≢false}
use Rattle.std.proofs.lemmas.List.{append-nil}
use Rattle.map_model.specs.declared.call.Call.{Call}
use Rattle.map_model.specs.declared.call.Call.TheVariants as call
use Rattle.map_model.specs.declared.call.Refusal.{Refusal}
use Rattle.map_model.specs.declared.call.Refusal.TheVariants as refusal
use Rattle.run_crashes.specs.core_state.Openings.{Opening}
use Rattle.run_crashes.specs.core_state.Events.{Event}
use Rattle.run_crashes.specs.core_state.Steps.{state_after}
use Rattle.lean_disk.specs.Story.{Story}
use Rattle.run_crashes.specs.core_calls.Fronts.{Done, front, outcomes}
use Rattle.run_crashes.specs.core_calls.Marks.{Mark}
use Rattle.run_crashes.specs.core_calls.Refusals.{Limits}
use Rattle.run_crashes.specs.core_calls.Runs.{Tells}
use Rattle.run_crashes.specs.core_calls.Steps.{MayPutBack, call_behind}
use Rattle.engine_calls.specs.Refused.{EveryRefusal, IsRefusal, refused_by}
use Rattle.engine_calls.proofs.MarkLemmas.{fresh_none, marks_none, taken_none}

abbrev nothing : List Mark
nothing = []

no_one : (c : Bool) → nothing ≡ cond c nothing nothing
no_one true = refl
no_one false = refl

-- it put nothing back
no_backs : (c : Call) (why : Refusal) → MayPutBack c why []
no_backs call.Abort refusal.RowSpent = tt
no_backs c why = refl

pub tells : (l : Limits) (g : Opening) (group : ℕ) (xs : List Done) (w : ℕ) (c : Call) (why : Refusal) (es : List Event) → IsRefusal l g xs w c why es → Tells l g group xs (refused_by w c why es)
tells l g group xs w c why es i = record {
  met = i.met;
  fresh = fresh_none g (state_after g (front xs)) es (taken_none w es i.rows);
  told = λ v. marks_none g (state_after g (front xs)) es v [] (taken_none w es i.rows) ∙ no_one (w == v);
  in_turn = tt;
  steps = (refl, no_backs (call_behind (outcomes xs) c) why, i.tries);
  hindered = i.comes.hindered;
  goes_on = i.comes.goes_on;
  structure = i.structure;
  logs = i.due;
  refused = (es, [], sym (append-nil es), i.cause);
  scans = i.scans;
  released = λ e. absurd (true≢false (sym e));
}

pub every_refusal : (old new : Story) → EveryRefusal old new
every_refusal old new l g group xs s0 k a w c why es b x i =
    record { answer = tells l g group xs w c why es i; known = a; no_earlier = x.no_earlier; stands = x.stands; notes = x.notes; any_moment = x.any_moment }
