-- What a view that is tied to a run has seen: the state of that run, and which aborts are half done.
use Rattle.std.proofs.Common.{◌≡◌, ℕ, false, List, ◌++◌, append-nil, sym, ap, ◌∙◌}
use Rattle.rfa_model.specs.Reaches.{least}
use Rattle.paged_scans.specs.core_state.Openings.{Opening}
use Rattle.paged_scans.specs.core_state.States.{State, flushed_by_all}
use Rattle.paged_scans.specs.core_state.Events.{Event}
use Rattle.paged_scans.specs.core_state.Steps.{state_after}
use Rattle.paged_scans.specs.core_calls.Fronts.{Done, front}
use Rattle.paged_scans.specs.row_opening.Openings.{EveryReached}
use Rattle.paged_scans.specs.row_words.Moments.{events_of}
use Rattle.paged_scans.specs.row_words.Openings.{opening}
use Rattle.paged_scans.specs.rows_trait.declared.view.View.{View}
use Rattle.paged_scans.specs.rows_trait.Views.{state}
use Rattle.paged_scans.specs.call_parts.Memory.{Memory}
use Rattle.paged_scans.specs.engine_trait.Calls.{is_half_done}
use Rattle.paged_scans.specs.engine_trait.Limits.{limits}
use Rattle.paged_scans.specs.session_state.Ties.{Ties}
use Rattle.paged_scans.specs.paged_desks.Calls.{Tied}
use Rattle.buffered_engine.proofs.HalfMarks.{half_told, halves}

module _ (g : Opening) (group : ℕ) (xs : List Done) (v : View) (m : Memory) (t : Tied g group xs v m) where
  abbrev first : Ties g group xs 0 (is_half_done 0 xs) v
  first = t.ties 0

  -- just the events of the outcomes
  pub events_seen : events_of v.given.before ++ events_of v.seen ≡ front xs
  events_seen = first.seen ∙ (ap (λ (es : List Event). front xs ++ es) (t.begun 0) ∙ append-nil (front xs))

  pub core_is : EveryReached → (state v).core ≡ state_after g (front xs)
  core_is reached = reached g v.given first.opens v.seen ∙ ap (state_after g) events_seen

  pub all_seen : EveryReached → flushed_by_all (opening v.given) (state v).core ≡ flushed_by_all g (state_after g (front xs))
  all_seen reached = ap (least (state v).core.flushed) (sym first.opens.workers) ∙ ap (λ (s : State). flushed_by_all g s) (core_is reached)

  -- by what was seen
  seen_half : (w : ℕ) → is_half_done w xs ≡ halves w (events_of v.given.before ++ events_of v.seen) false
  seen_half w = half_told limits g group xs first.told w ∙ sym (ap (λ (es : List Event). halves w es false) events_seen)

-- so it is the same in each run
pub same_half : (g h : Opening) (group many : ℕ) (xs ys : List Done) (m n : Memory) (v : View) → Tied g group xs v m → Tied h many ys v n → (w : ℕ) → is_half_done w xs ≡ is_half_done w ys
same_half g h group many xs ys m n v t u w = seen_half g group xs v m t w ∙ sym (seen_half h many ys v n u w)
