-- Many threads: rounds of outcomes, each with the events of all workers in it.
use Rattle.std.specs.Prelude.{◌≡◌, ℕ, true, List, [], ◌∷◌, ◌++◌}
use Rattle.map_model.specs.Lists.{Has}
use Rattle.map_model.specs.Journals.{Txn}
use Rattle.map_model.specs.Transcripts.{journal}
use Rattle.core_crash.specs.image_model.Entries.{Entry, Contents}
use Rattle.core_crash.specs.core_state.Openings.{Opening}
use Rattle.core_crash.specs.core_state.Events.{Event}
use Rattle.core_crash.specs.core_state.Needs.{may}
use Rattle.core_crash.specs.core_state.Steps.{state_after}
use Rattle.core_crash.specs.Crashes.{Leaves, image_of}
use Rattle.core_calls.specs.Marks.{marks, is_half}
use Rattle.core_calls.specs.Deeds.{may_follow, Outcome, marks_for, marks_by, AreInTurn, Answers, transcript}
use Rattle.core_calls.specs.Told.{kept_of, Survives}
use Rattle.core_calls.specs.Fronts.{Done}
use Rattle.core_calls.specs.Runs.{Moment}

-- The outcomes of a round as they are printed, the newest first.
pub record Round : Type 0 where
  pub events : List Event
  pub outcomes : List Outcome

-- all events of rounds
abbrev pub all_events : List Round → List Event
all_events [] = []
all_events (x ∷ earlier) = all_events earlier ++ x.events

-- all their outcomes, the newest first
abbrev pub all_outcomes : List Round → List Outcome
all_outcomes [] = []
all_outcomes (x ∷ earlier) = x.outcomes ++ all_outcomes earlier

-- in each round the events of each session tell of its outcomes, in their order
abbrev pub EachSounds : Opening → List Round → Type 0
EachSounds g [] = Unit {0}
EachSounds g (x ∷ earlier) = EachSounds g earlier × ((w : ℕ) → marks g (state_after g (all_events earlier)) x.events w [] ≡ marks_by w x.outcomes)

-- So whatever the workers did beside each other, and in whatever order it is printed, the outcomes are those of all events.
abbrev pub EveryRound : Type 0
EveryRound = (g : Opening) (xs : List Round) → EachSounds g xs → AreInTurn (all_outcomes xs) → Answers g (all_events xs) (all_outcomes xs)

-- ## Behind a round

-- A call that was not finished in its round is executed again on one thread: what it did before counts for its outcome.
pub record Finishes (g : Opening) (es : List Event) (ys : List Outcome) (a : Answers g es ys) (x : Done) : Type 0 where
  pub own : marks g (state_after g es) x.events x.outcome.session [] ++ a.rest x.outcome.session ≡ marks_for x.outcome
  pub others : (w : ℕ) → (w ≡ x.outcome.session → ⊥) → marks g (state_after g es) x.events w [] ≡ []
  pub in_turn : may_follow (is_half (marks_by x.outcome.session ys)) x.outcome.deed

-- with it the outcomes are those of all events, and so at each moment of it
pub record FinishLaws (g : Opening) (es : List Event) (ys : List Outcome) (x : Done) : Type 0 where
  pub whole : Answers g (es ++ x.events) (x.outcome ∷ ys)
  pub moments : (before after : List Event) → x.events ≡ before ++ after → Moment g (es ++ before) ys x.outcome

-- of each such call
abbrev pub EveryFinish : Type 0
EveryFinish = (g : Opening) (es : List Event) (ys : List Outcome) (a : Answers g es ys) (x : Done) → Finishes g es ys a x → FinishLaws g es ys x

-- Last comes a sync, where the opening is faithful. Behind it every image keeps every transaction, so all are in hand, whatever was printed by then.
abbrev pub EveryRoundSynced : Type 0
EveryRoundSynced = (g : Opening) → g.faithful ≡ true → (es : List Event) (n : ℕ) (xs : List Outcome) → Answers g (es ++ Event.Sync n ∷ []) xs → may g (state_after g es) (Event.Sync n) ≡ true →
    (logs : ℕ → List Entry) (page : ℕ → Contents) → Leaves g (es ++ Event.Sync n ∷ []) logs page →
    let s = state_after g (es ++ Event.Sync n ∷ []) in
    let i = image_of g s logs page in
    Survives g s i (journal (transcript xs)) × ((t : Txn) → Has t (journal (transcript xs)) → Has t (kept_of i (journal (transcript xs))))
