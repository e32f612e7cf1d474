-- A sync and a checkpoint.
use Rattle.std.proofs.Common.{◌≡◌, ℕ, Bool, true, false, cond, ◌==◌, List, [], ◌∷◌, ◌++◌, refl, sym, ◌∙◌, true≢false}
use Rattle.run_crashes.specs.core_state.Openings.{Opening}
use Rattle.run_crashes.specs.core_state.Events.{Event}
use Rattle.run_crashes.specs.core_state.Steps.{state_after}
use Rattle.lean_disk.specs.Story.{Story}
use Rattle.run_crashes.specs.core_calls.Deeds.{Checkpointed, Synced}
use Rattle.run_crashes.specs.core_calls.Fronts.{Done, front, outcomes}
use Rattle.run_crashes.specs.core_calls.Marks.{Mark, marks}
use Rattle.run_crashes.specs.core_calls.Steps.{is_step}
use Rattle.engine_calls.specs.Syncs.{EverySync, IsKeeping, kept_by}
use Rattle.engine_calls.proofs.ComingLemmas.{follows, goes_on}
use Rattle.engine_calls.proofs.MarkLemmas.{fresh_none, keep_none, marks_none, steps_none}

abbrev nothing : List Mark
nothing = []

no_one : (c : Bool) → nothing ≡ cond c nothing nothing
no_one true = refl
no_one false = refl

told : (g : Opening) (xs : List Done) (es : List Event) → IsKeeping g xs es → (v : ℕ) → marks g (state_after g (front xs)) es v [] ≡ cond (0 == v) nothing nothing
told g xs es i v = marks_none g (state_after g (front xs)) es v [] (steps_none es i.steps) ∙ no_one (0 == v)

pub every_sync : (old new : Story) → EverySync old new
every_sync old new l g group xs s0 k a before b = record {
  sync = λ at x i is_sync.
      let es = before ++ Event.Sync at ∷ [] in
      record {
        answer = record {
          met = i.met;
          fresh = fresh_none g (state_after g (front xs)) es (steps_none es i.steps);
          told = told g xs es i;
          in_turn = tt;
          steps = (refl, keep_none is_step es i.steps);
          hindered = follows (outcomes xs) (kept_by (Synced at) es).outcome i.line tt;
          goes_on = goes_on (outcomes xs) (kept_by (Synced at) es).outcome i.line;
          structure = λ e. i.structure;
          logs = (before, refl, is_sync);
          refused = tt;
          scans = tt;
          released = λ e. absurd (true≢false (sym e));
        };
        known = a;
        no_earlier = x.no_earlier;
        stands = x.stands;
        notes = x.notes;
        any_moment = x.any_moment;
      };
  checkpoint = λ at heads x i is_cut.
      let es = before ++ Event.Cut at heads ∷ [] in
      record {
        answer = record {
          met = i.met;
          fresh = fresh_none g (state_after g (front xs)) es (steps_none es i.steps);
          told = told g xs es i;
          in_turn = tt;
          steps = (refl, keep_none is_step es i.steps);
          hindered = follows (outcomes xs) (kept_by (Checkpointed at) es).outcome i.line tt;
          goes_on = goes_on (outcomes xs) (kept_by (Checkpointed at) es).outcome i.line;
          structure = λ e. i.structure;
          logs = (before, heads, refl, is_cut);
          refused = tt;
          scans = tt;
          released = λ e. absurd (true≢false (sym e));
        };
        known = a;
        no_earlier = x.no_earlier;
        stands = x.stands;
        notes = x.notes;
        any_moment = x.any_moment;
      };
}
