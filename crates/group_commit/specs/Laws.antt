-- Receipts and queues, in the words of the core.
use Rattle.std.specs.Prelude.{◌≡◌, ◌↔◌, ◌<◌, ◌≤◌, ◌⊎◌, ℕ, Bool, true, false, List, [], ◌∷◌, ◌++◌, length, Option, Some, None}
use Rattle.map_model.specs.Lists.{Has, any}
use Rattle.map_model.specs.Journals.{Name}
use Rattle.core_crash.specs.image_model.Entries.{Entry, is_commit}
use Rattle.core_crash.specs.core_state.Openings.{Opening}
use Rattle.core_crash.specs.core_state.States.{State, start}
use Rattle.core_crash.specs.core_state.Events.{Event}
use Rattle.core_crash.specs.core_state.Local.{is_sync}
use Rattle.core_crash.specs.core_state.Needs.{may}
use Rattle.core_crash.specs.core_state.Steps.{state_after}
use Rattle.core_calls.specs.Durables.{is_ripe, due}
use Rattle.core_calls.specs.Fronts.{Done, front}
use Rattle.core_calls.specs.Refusals.{Limits, waiting}
use Rattle.core_calls.specs.Runs.{EachTells}
use Rattle.group_commit.specs.declared.receipts.Receipt.{Receipt}
use Rattle.group_commit.specs.declared.queue.End.{End}
use Rattle.group_commit.specs.declared.receipts.Ripeness.TheVariants.{Durable, Waits}
use Rattle.group_commit.specs.Outcomes.{IsOfOutcome, ends_by}
use Rattle.group_commit.specs.Ripeness.{ripeness_of}
use Rattle.group_commit.specs.Queues.{queue_of, AreNew, pushed, Takes}
use Rattle.group_commit.specs.Tracks.{AreFlushed, Tells, IsOfEnd, is_ending, Tracks}

-- ## Receipts

-- Of a log of which it waits: how far it is flushed, and that this is less than it should be.
pub record WaitLaws (g : Opening) (s : State) (e : Entry) (w f : ℕ) : Type 0 where
  pub log : (0 < w) × (w ≤ g.workers)
  pub flushed : f ≡ s.flushed w
  -- it is its own log; or that is flushed, and this is the first that is below what it needs
  pub behind : ((w ≡ e.log) × (f < e.number)) ⊎ ((e.number ≤ s.flushed e.log) × (f < e.need) × ((v : ℕ) → 0 < v → v < w → e.need ≤ s.flushed v))

pub record RipeLaws (g : Opening) (s : State) (e : Entry) (fs : List ℕ) (r : Receipt) : Type 0 where
  pub durable : (ripeness_of fs r ≡ Durable) ↔ (is_ripe g s e ≡ true)
  pub waits : (w f : ℕ) → ripeness_of fs r ≡ Waits w f → WaitLaws g s e w f

-- A receipt that tells of a commit.
abbrev pub EveryRipe : Type 0
EveryRipe = (g : Opening) (s : State) (e : Entry) (fs : List ℕ) (r : Receipt) → AreFlushed g s fs → Tells r e → is_commit e.kind ≡ true → 0 < e.log → e.log ≤ g.workers → RipeLaws g s e fs r

-- ## Queues

abbrev pub EveryStart : Type 0
EveryStart = (g : Opening) (qs : List (List End)) → AreNew g.workers qs → Tracks g (start g) [] qs

-- the session ends its transaction, and its receipt is pushed
abbrev pub EveryEnd : Type 0
EveryEnd = (g : Opening) (es : List Event) (told : List Name) (qs : List (List End)) (w : ℕ) (commit : Bool) (f : ℕ) (r : Receipt) →
    Tracks g (state_after g es) told qs → may g (state_after g es) (Event.End w commit f) ≡ true → IsOfEnd (state_after g es) w f r →
    Tracks g (state_after g (es ++ Event.End w commit f ∷ [])) told (pushed r commit qs)

-- other events, whether their needs are met or not
abbrev pub EveryOther : Type 0
EveryOther = (g : Opening) (es others : List Event) (told : List Name) (qs : List (List End)) → any is_ending others ≡ false →
    Tracks g (state_after g es) told qs → Tracks g (state_after g (es ++ others)) told qs

-- What is taken is the durable line that is due first, of a ripe commit; printed, it is told. Lines that are due stand with the last first.
pub record TakenLaws (g : Opening) (s : State) (told : List Name) (new : List (List End)) (r : Receipt) : Type 0 where
  pub entry : Entry
  pub has : Has entry s.entries
  pub tells : Tells r entry
  pub ripe : is_ripe g s entry ≡ true
  pub due_is : due g s told ≡ due g s (record { session = r.log; number = r.txn } ∷ told) ++ record { session = r.log; number = r.txn } ∷ []
  pub tracks : Tracks g s (record { session = r.log; number = r.txn } ∷ told) new

-- Where nothing is taken nothing is due, and the queues have the ends that wait.
pub record NothingLaws (g : Opening) (s : State) (told : List Name) (new : List (List End)) : Type 0 where
  pub due_is : due g s told ≡ []
  pub tracks : Tracks g s told new
  pub waiting_is : (w : ℕ) → 0 < w → w ≤ g.workers → length (queue_of new w) ≡ waiting g s w

abbrev pub TakeLaws : Opening → State → List Name → List (List End) → Option Receipt → Type 0
TakeLaws g s told new (Some r) = TakenLaws g s told new r
TakeLaws g s told new None = NothingLaws g s told new

abbrev pub EveryTake : Type 0
EveryTake = (g : Opening) (es : List Event) (told : List Name) (fs : List ℕ) (old new : List (List End)) (found : Option Receipt) →
    AreFlushed g (state_after g es) fs → Tracks g (state_after g es) told old → Takes fs old found new → TakeLaws g (state_after g es) told new found

-- ## Outcomes

-- Behind an outcome of a run: a commit and an abort are pushed as they happen, with the receipt of which the answer, the session's worker and the state before
-- it tell; and any other outcome leaves the queues as they are. Among the events of a commit there is no sync; of an abort the caller says so.
pub record OutcomeLaws (g : Opening) (xs : List Done) (x : Done) (told : List Name) (qs : List (List End)) : Type 0 where
  pub ends : (commit : Bool) → ends_by x.outcome.deed ≡ Some commit → (commit ≡ false → any is_sync x.events ≡ false) → (r : Receipt) → IsOfOutcome g xs x r → Tracks g (state_after g (front (x ∷ xs))) told (pushed r commit qs)
  pub others : ends_by x.outcome.deed ≡ None → Tracks g (state_after g (front (x ∷ xs))) told qs

abbrev pub EveryOutcome : Type 0
EveryOutcome = (l : Limits) (g : Opening) (group : ℕ) (xs : List Done) (x : Done) (told : List Name) (qs : List (List End)) → EachTells l g group (x ∷ xs) → Tracks g (state_after g (front xs)) told qs
    → OutcomeLaws g xs x told qs
