-- Which rows a scan takes: events that are no steps take none.
use Rattle.std.proofs.Common.{◌≡◌, ℕ, false, List, [], ◌∷◌, inl, refl, true≢false}
use Rattle.map_model.specs.declared.call.Call.{Call}
use Rattle.map_model.specs.declared.call.Call.TheVariants as call
use Rattle.map_model.specs.declared.call.Refusal.TheVariants as refusal
use Rattle.map_model.specs.Lists.{any}
use Rattle.core_crash.specs.core_state.Openings.{Opening}
use Rattle.core_crash.specs.core_state.States.{State}
use Rattle.core_crash.specs.core_state.Events.{Event}
use Rattle.core_crash.specs.core_state.Steps.{step}
use Rattle.core_calls.specs.Deeds.{Outcome}
use Rattle.core_calls.specs.Scans.{IsOnWay, StopsOnWay, TakesMet}
use Rattle.core_calls.specs.Steps.{is_step, scan_from}
use Rattle.core_calls.proofs.ReleaseLemmas.{or_false}

module _ (g : Opening) (P : State → ℕ → List ℕ → Type 0) where
  -- an event that is no step
  pub takes_rest : (s : State) (at : ℕ) (taken : List ℕ) (e : Event) (es : List Event) → is_step e ≡ false → TakesMet g (step g s e) at taken es P → TakesMet g s at taken (e ∷ es) P
  takes_rest s at taken (Event.Lock w i mode) es h t = absurd (true≢false h)
  takes_rest s at taken (Event.Next w p k a) es h t = absurd (true≢false h)
  takes_rest s at taken _ es h t = t

  pub takes_none : (s : State) (at : ℕ) (taken : List ℕ) (es : List Event) → any is_step es ≡ false → ((t : State) → P t at taken) → TakesMet g s at taken es P
  takes_none s at taken [] h all = all s
  takes_none s at taken (e ∷ es) h all = let q = or_false (is_step e) (any is_step es) h in takes_rest s at taken e es q.0 (takes_none (step g s e) at taken es q.1 all)

-- a call that has made no step
pub stops_none : (g : Opening) (w : ℕ) (earlier : List Outcome) (s : State) (c : Call) (es : List Event) → any is_step es ≡ false → StopsOnWay g w earlier s c refusal.RowSpent es
stops_none g w earlier s (call.Scan from to) es h = takes_none g (IsOnWay g) s (scan_from earlier from) [] es h (λ t. inl refl)
stops_none g w earlier s _ es h = tt
