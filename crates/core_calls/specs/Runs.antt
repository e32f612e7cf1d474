-- One thread: outcomes one after another, each with the events that were done for it.
use Rattle.std.specs.Prelude.{◌≡◌, ℕ, Bool, true, false, ◌==◌, List, [], ◌∷◌, ◌++◌, map, if◌then◌else◌}
use Rattle.map_model.specs.declared.call.Call.TheVariants as call
use Rattle.map_model.specs.Lists.{any, keep}
use Rattle.core_crash.specs.core_state.Openings.{Opening}
use Rattle.core_crash.specs.core_state.Events.{Event}
use Rattle.core_crash.specs.core_state.Needs.{holds_row}
use Rattle.core_crash.specs.core_state.Steps.{run, AllMet, state_after}
use Rattle.map_model.specs.Pairings.{GoesOn}
use Rattle.core_calls.specs.Marks.{marks, is_half}
use Rattle.core_calls.specs.Deeds.{Deed, Committed, Aborted, Refused, asked, may_follow, Outcome, marks_for, marks_by, Answers, in_words}
use Rattle.core_calls.specs.Refusals.{Limits, IsCause}
use Rattle.core_calls.specs.Fronts.{Done, front, outcomes, AreFresh}
use Rattle.core_calls.specs.Steps.{is_step, is_structure, Goes, is_change, FollowsConflict}
use Rattle.core_calls.specs.Scans.{HoldsMet, ScansRows, is_scan}
use Rattle.core_calls.specs.LogEvents.{LogsGo}

-- its session's transaction ends
abbrev pub ends : Deed → Bool
ends (Committed n at) = true
ends (Aborted c n at backs) = true
ends _ = false

-- it was refused at a state that shows why
abbrev pub IsRefused : Limits → Opening → List Done → Done → Deed → Type 0
IsRefused l g earlier x (Refused c why backs) =
    (before : List Event) × (after : List Event) × (x.events ≡ before ++ after)
    × IsCause l g (front earlier ++ before) (run g (state_after g (front earlier)) before) (is_half (marks_by x.outcome.session (outcomes earlier))) x.outcome.session c why
IsRefused l g earlier x _ = Unit {0}

-- Behind these outcomes, the events are done for the next.
pub record Tells (l : Limits) (g : Opening) (group : ℕ) (earlier : List Done) (x : Done) : Type 0 where
  pub met : AllMet g (state_after g (front earlier)) x.events
  pub fresh : AreFresh g (state_after g (front earlier)) x.events
  -- they tell of it, and of no other session
  pub told : (w : ℕ) → marks g (state_after g (front earlier)) x.events w [] ≡ (if x.outcome.session == w then marks_for x.outcome else [])
  pub in_turn : may_follow (is_half (marks_by x.outcome.session (outcomes earlier))) x.outcome.deed
  pub steps : Goes l g x.outcome.session (outcomes earlier) x.outcome.unsaid x.outcome.deed (keep is_step x.events)
  pub scans : ScansRows g x.outcome.session (outcomes earlier) (state_after g (front earlier)) x.outcome.deed x.events
  pub hindered : FollowsConflict (outcomes earlier) x.outcome
  pub goes_on : GoesOn (map in_words (outcomes earlier)) (in_words x.outcome)
  pub structure : is_change x.outcome.deed ≡ false → any is_structure x.events ≡ false
  pub logs : LogsGo l g group earlier x.outcome.session x.outcome.deed x.events
  pub refused : IsRefused l g earlier x x.outcome.deed
  -- behind an end the session holds no row
  pub released : ends x.outcome.deed ≡ true → (i : ℕ) → holds_row ((state_after g (front (x ∷ earlier))).row i) x.outcome.session ≡ false

-- each behind those before it
abbrev pub EachTells : Limits → Opening → ℕ → List Done → Type 0
EachTells l g group [] = Unit {0}
EachTells l g group (x ∷ earlier) = EachTells l g group earlier × Tells l g group earlier x

-- ## At every moment

-- Between two events: what was done by then is that of the outcomes before, or of these and of one commit, whose reply is not out.
pub data Moment (g : Opening) (es : List Event) (earlier : List Outcome) (x : Outcome) : Type 0 where
  Waiting : Answers g es earlier → Moment g es earlier x
  InHand : asked x.deed ≡ call.Commit → Answers g es (x ∷ earlier) → Moment g es earlier x

-- the outcomes are those of all events, and so at each moment of the newest
pub record RunLaws (g : Opening) (earlier : List Done) (x : Done) : Type 0 where
  pub whole : Answers g (front (x ∷ earlier)) (outcomes (x ∷ earlier))
  pub moments : (before after : List Event) → x.events ≡ before ++ after → Moment g (front earlier ++ before) (outcomes earlier) x.outcome

-- in each run
abbrev pub EveryRun : Type 0
EveryRun = (l : Limits) (g : Opening) (group : ℕ) (earlier : List Done) (x : Done) → EachTells l g group (x ∷ earlier) → RunLaws g earlier x

-- ## Rows

-- A session with no open transaction holds no row.
abbrev pub EveryReleased : Type 0
EveryReleased = (l : Limits) (g : Opening) (group : ℕ) (xs : List Done) → EachTells l g group xs →
    (w i : ℕ) → ((state_after g (front xs)).worker w).is_open ≡ false → holds_row ((state_after g (front xs)).row i) w ≡ false

-- Where a scan tells a pair, or is over, its session has the row of each entry that it met, tombstones too.
abbrev pub EveryMet : Type 0
EveryMet = (l : Limits) (g : Opening) (group : ℕ) (earlier : List Done) (x : Done) → Tells l g group earlier x → is_scan x.outcome.deed ≡ true → HoldsMet g (state_after g (front earlier)) x.events
