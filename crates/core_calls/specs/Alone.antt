-- One worker, whose commits are each flushed at once: behind each commit its durable line follows, and behind no other line one does.
use Rattle.std.specs.Prelude.{◌≡◌, ℕ, List, [], ◌∷◌}
use Rattle.map_model.specs.Journals.{Name}
use Rattle.core_crash.specs.core_state.Openings.{Opening}
use Rattle.core_crash.specs.core_state.Steps.{state_after}
use Rattle.core_calls.specs.Deeds.{Deed, Committed, Outcome}
use Rattle.core_calls.specs.Refusals.{Limits}
use Rattle.core_calls.specs.Fronts.{Done, front}
use Rattle.core_calls.specs.Runs.{EachTells}
use Rattle.core_calls.specs.Durables.{due, durables, moments}

-- the transaction that a session's deed commits
abbrev pub names_by : ℕ → Deed → List Name
names_by w (Committed n at) = record { session = w; number = n } ∷ []
names_by w _ = []

-- the one that an outcome commits
abbrev pub commits_name : Outcome → List Name
commits_name x = names_by x.session x.deed

-- Behind each outcome, the durable lines that are due are that of its commit, or none. Pages may name any log as their last one at the opening.
abbrev pub EveryAlone : Type 0
EveryAlone = (l : Limits) (g : Opening) (x : Done) (xs : List Done) → g.workers ≡ 1 → EachTells l g 1 (x ∷ xs) →
    due g (state_after g (front (x ∷ xs))) (durables g (moments xs)) ≡ commits_name x.outcome
