-- A latch that is spent is so late in a run.
use Rattle.std.proofs.Common.{◌∙◌, inl, inr, ◌≤◌, ◌+◌, ◌^◌, ◌++◌, ℕ, suc, Bool, true, false, cond, List, [], ◌∷◌, length, ap, sym, arith}
use Rattle.std.proofs.lemmas.List.{length-append}
use Rattle.paged_desks.specs.image_model.Entries.{Entry}
use Rattle.map_model.specs.Maps.{MapAnswer}
use Rattle.paged_desks.specs.core_calls.Fronts.{Done, front}
use Rattle.paged_desks.specs.core_state.Events as happening
use Rattle.paged_desks.specs.core_state.Needs.{may}
use Rattle.paged_desks.specs.core_state.Openings.{Opening}
use Rattle.paged_desks.specs.core_state.States.{State, start}
use Rattle.paged_desks.specs.core_state.Steps.{happens, put_back, run, step}
use Rattle.paged_desks.specs.row_opening.Openings.{EveryNeed, EveryReached}
use Rattle.paged_desks.specs.row_words.Moments.{events_of}
use Rattle.paged_desks.specs.rows_trait.declared.view.View.{View}
use Rattle.paged_desks.specs.session_state.Ties.{Behind}
use Rattle.paged_desks.proofs.call_parts.RunLemmas.{core_is, front_is}
use Rattle.paged_desks.specs.Parts.{IsLate}
use Rattle.paged_aborts.proofs.BackEvents.{length_events}

-- so many events stand before it that a latch may be spent
spent_end : (g : Opening) (xs : List Done) (first : List happening.Event) (w : View) → Behind g xs first w → 2 ^ 61 ≤ length w.seen → 2 ^ 61 ≤ length (front xs ++ first)
spent_end g xs first w b many =
    let d = ap (λ es. length es) b.seen in
    let e = length-append (events_of w.given.before) (events_of w.seen) in
    let f = length_events w.seen in
    omega arith

-- ## The global epoch

up : (n : ℕ) → n ≤ suc n
up n = omega arith

-- an event raises it by one at most
epoch_one : (g : Opening) (s : State) (e : happening.Event) → (happens g s e).epoch ≤ suc s.epoch
epoch_one g s (happening.Event.Put_back w p) = at (s.worker w).changes
  where
    at : (cs : List Entry) → (put_back g s w p cs).epoch ≤ suc s.epoch
    at [] = up s.epoch
    at (c ∷ cs) = up s.epoch
epoch_one g s (happening.Event.Next w p k (MapAnswer.Pair j x)) = up s.epoch
epoch_one g s (happening.Event.Next w p k (MapAnswer.Gap h)) = up s.epoch
epoch_one g s (happening.Event.Next w p k _) = up s.epoch
epoch_one g s happening.Event.Tick = (let n = suc s.epoch in omega arith)
epoch_one g s e = up s.epoch

epoch_step : (g : Opening) (s : State) (e : happening.Event) → (step g s e).epoch ≤ suc s.epoch
epoch_step g s e = go (may g s e)
  where
    go : (b : Bool) → (cond b (happens g s e) s).epoch ≤ suc s.epoch
    go true = epoch_one g s e
    go false = up s.epoch

epoch_run : (g : Opening) (es : List happening.Event) (s : State) → (run g s es).epoch ≤ s.epoch + length es
epoch_run g [] s = omega arith
epoch_run g (e ∷ es) s = let a = epoch_run g es (step g s e) in let b = epoch_step g s e in omega arith

-- so it ends late
pub late_end : EveryReached → EveryNeed → (g : Opening) (xs : List Done) (first : List happening.Event) (w : View) → Behind g xs first w → IsLate w → 2 ^ 61 ≤ length (front xs ++ first)
late_end reached needs g xs first w b (inl many) = spent_end g xs first w b many
late_end reached needs g xs first w b (inr old) =
    let a = epoch_run g (front xs ++ first) (start g) in
    let c = ap (λ (s : State). s.epoch) (core_is reached needs g xs first w b ∙ sym (front_is g xs first)) in
    omega arith
