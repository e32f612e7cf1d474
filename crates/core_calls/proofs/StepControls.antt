-- Wrong events of a call are refused.
use Rattle.std.proofs.Common.{◌≡◌, ◌⊎◌, ℕ, List, [], ◌∷◌, inl, inr, sym, subst, true≢false}
use Rattle.map_model.specs.declared.call.Call.{Call}
use Rattle.map_model.specs.declared.call.Call.TheVariants as call
use Rattle.map_model.specs.declared.call.Refusal.{Refusal}
use Rattle.map_model.specs.declared.call.Refusal.TheVariants as refusal
use Rattle.core_crash.specs.core_state.Openings.{Opening}
use Rattle.core_crash.specs.core_state.Events.{Event, Mode}
use Rattle.core_crash.specs.core_state.Steps.{state_after}
use Rattle.core_calls.specs.Controls.{EveryStepControl, StepControls}
use Rattle.core_calls.specs.Fronts.{Done, front, outcomes}
use Rattle.core_calls.specs.LogEvents.{IsPressedYet}
use Rattle.core_calls.specs.Refusals.{Limits}
use Rattle.core_calls.specs.Steps.{Tries, call_behind}
use Rattle.core_calls.proofs.WhereLemmas.{commit_never}

some_none : (e : Event) (es : List Event) → e ∷ es ≡ [] → ⊥
some_none e es q = absurd (cc)

module _ (l : Limits) (g : Opening) (group : ℕ) (w : ℕ) (earlier : List Done) (line : (c : Call) → call_behind (outcomes earlier) c ≡ c) where
  -- what the call did that was asked
  asked : (c : Call) (why : Refusal) (es : List Event) → Tries g w (outcomes earlier) (call_behind (outcomes earlier) c) why es → Tries g w (outcomes earlier) c why es
  asked c why es t = subst (λ d. Tries g w (outcomes earlier) d why es) (line c) t

  taken_none : (p : ℕ) (es : List Event) (i : ℕ) (mode : Mode) → (Event.Put_back w p ∷ es ≡ []) ⊎ (Event.Put_back w p ∷ es ≡ Event.Lock w i mode ∷ []) → ⊥
  taken_none p es i mode (inl q) = absurd (cc)
  taken_none p es i mode (inr q) = absurd (cc)

  controls : StepControls l g group w earlier
  controls = record {
    untaken_get = λ p k a alone t. let q = t.2 in absurd (cc);
    alone_get = λ p k a alone t. let q = t.2 in absurd (cc);
    other_row = λ k v i mode backs t no. let q : Event.Lock w i mode ∷ [] ≡ Event.Lock w (g.row_of k) Mode.Alone ∷ [] = asked (call.Put k v) refusal.NoPages (Event.Lock w i mode ∷ []) t.2 in let same : i ≡ g.row_of k = cc in no same;
    no_row = λ k v backs t. some_none (Event.Lock w (g.row_of k) Mode.Alone) [] (sym (asked (call.Put k v) refusal.NoPages [] t.2));
    busy_begin = λ why e es backs t. some_none e es (asked call.Begin why (e ∷ es) t.2);
    busy_get = λ k e es backs t. some_none e es (asked (call.Get k) refusal.NoTransaction (e ∷ es) t.2);
    get_back = λ k p es backs t. taken_none p es (g.row_of k) Mode.Shared (asked (call.Get k) refusal.RowSpent (Event.Put_back w p ∷ es) t.2);
    idle_sync = λ k n es backs t. t.0;
    late_sync = λ why n es backs t. commit_never g why (state_after g (front earlier)) (subst (λ d. IsPressedYet g d why (state_after g (front earlier))) (line call.Commit) t.0);
    idle_room = λ k v backs e. true≢false (sym e);
  }

pub every_step_control : EveryStepControl
every_step_control l g group w earlier line = controls l g group w earlier line
