-- Which commits are to be told as durable, and when.
use Rattle.std.specs.Prelude.{◌≡◌, ◌<◌, ℕ, Bool, true, ◌&&◌, not, leb, ◌==◌, List, [], ◌∷◌, ◌++◌, map, if◌then◌else◌}
use Rattle.map_model.specs.Lists.{Has, any, keep, in_order}
use Rattle.map_model.specs.Journals.{Name, Txn, Journal}
use Rattle.map_model.specs.Laws.{IsFalling}
use Rattle.map_model.specs.Pairings.{is_last}
use Rattle.map_model.specs.Transcripts.{journal}
use Rattle.core_crash.specs.image_model.Entries.{Entry, Contents, is_commit, earlier}
use Rattle.core_crash.specs.image_model.Ends.{name_of, names_of}
use Rattle.core_crash.specs.core_state.Openings.{Opening}
use Rattle.core_crash.specs.core_state.States.{State, flushed_by_all}
use Rattle.core_crash.specs.core_state.Events.{Event}
use Rattle.core_crash.specs.core_state.Steps.{state_after}
use Rattle.core_crash.specs.core_state.Needs.{may}
use Rattle.core_crash.specs.Crashes.{Leaves, image_of}
use Rattle.core_calls.specs.Deeds.{Outcome, Committed, Synced, Answers, answered, transcript}
use Rattle.core_calls.specs.Told.{ByThen, kept_of}
use Rattle.core_calls.specs.Refusals.{Limits}
use Rattle.core_calls.specs.Fronts.{Done, front}
use Rattle.core_calls.specs.LogEvents.{behind}
use Rattle.core_calls.specs.Runs.{EachTells}

-- a commit that is flushed in its own log, and everywhere as far as it needs
abbrev pub is_ripe : Opening → State → Entry → Bool
is_ripe g s e = is_commit e.kind && (leb e.number (s.flushed e.log) && leb e.need (flushed_by_all g s))

-- its transaction is one of these
abbrev pub is_told : List Name → Entry → Bool
is_told told e = any (λ n. (n.session == e.log) && (n.number == e.txn)) told

-- each ripe commit that was not told yet, by number, ties by session; the last first
abbrev pub due_now : Opening → State → List Name → List Entry
due_now g s told = in_order earlier (keep (λ e. is_ripe g s e && not (is_told told e)) s.entries)

-- the durable lines that are due
abbrev pub due : Opening → State → List Name → List Name
due g s told = names_of (due_now g s told)

-- what happened up to the last of some moments
abbrev pub up_to : List (List Event) → List Event
up_to [] = []
up_to (es ∷ before) = up_to before ++ es

-- All durable lines, where at each of the moments those that were due were printed: behind the last outcome of each line, or behind each round.
abbrev pub durables : Opening → List (List Event) → List Name
durables g [] = []
durables g (es ∷ before) = due g (state_after g (up_to (es ∷ before))) (durables g before) ++ durables g before

-- no name stands twice
abbrev pub AreOnce : List Name → Type 0
AreOnce [] = Unit {0}
AreOnce (n ∷ ns) = AreOnce ns × (Has n ns → ⊥)

-- the image that a crash left keeps the transaction
pub record IsKept (g : Opening) (s : State) (logs : ℕ → List Entry) (page : ℕ → Contents) (by_then : Journal) (name : Name) : Type 0 where
  pub txn : Txn
  pub session : txn.session ≡ name.session
  pub number : txn.number ≡ name.number
  pub kept : Has txn (kept_of (image_of g s logs page) by_then)

-- what holds of the durable lines at such moments
pub record DurableLaws (g : Opening) (ms : List (List Event)) : Type 0 where
  -- each that was told was ripe then, and is
  pub told : (n : Name) → Has n (durables g ms) → (e : Entry) × Has e (state_after g (up_to ms)).entries × (is_ripe g (state_after g (up_to ms)) e ≡ true) × (name_of e ≡ n)
  -- and each that is ripe was told
  pub all : (e : Entry) → Has e (state_after g (up_to ms)).entries → is_ripe g (state_after g (up_to ms)) e ≡ true → Has (name_of e) (durables g ms)
  -- once
  pub once : AreOnce (durables g ms)
  -- where the opening is faithful, whatever happens later and wherever a crash falls, it is kept
  pub kept : g.faithful ≡ true → (later : List Event) (xs : List Outcome) → Answers g (up_to ms ++ later) xs → (logs : ℕ → List Entry) (page : ℕ → Contents) → Leaves g (up_to ms ++ later) logs page →
      (told by_then : Journal) → ByThen (image_of g (state_after g (up_to ms ++ later)) logs page) told (journal (transcript xs)) by_then →
      (n : Name) → Has n (durables g ms) → IsKept g (state_after g (up_to ms ++ later)) logs page by_then n
  -- behind a sync each commit was told
  pub synced : (before : List (List Event)) (es : List Event) (at : ℕ) → ms ≡ (es ++ Event.Sync at ∷ []) ∷ before → may g (state_after g (up_to before ++ es)) (Event.Sync at) ≡ true →
      (e : Entry) → Has e (state_after g (up_to ms)).entries → is_commit e.kind ≡ true → Has (name_of e) (durables g ms)

-- at all moments
abbrev pub EveryDurable : Type 0
EveryDurable = (g : Opening) (ms : List (List Event)) → DurableLaws g ms

-- a commit's place in the order of commits
abbrev pub place_of : Entry → Txn
place_of e = record { session = e.log; number = e.txn; at = e.number; calls = [] }

-- They fall by number, ties by session.
abbrev pub EveryDue : Type 0
EveryDue = (g : Opening) (es : List Event) (told : List Name) → IsFalling (map place_of (due_now g (state_after g es) told))

-- ## Of a run

-- what happened behind the newest outcome that was the last of its line
abbrev pub pending : List Done → List Event
pending [] = []
pending (x ∷ earlier) = if is_last (answered x.outcome.deed) then [] else pending earlier ++ x.events

-- its moments: behind the last outcome of each line
abbrev pub moments : List Done → List (List Event)
moments [] = []
moments (x ∷ earlier) = if is_last (answered x.outcome.deed) then (pending earlier ++ x.events) ∷ moments earlier else moments earlier

-- Behind a commit fewer than so many commits of its log wait to be flushed; where each is flushed, and it needs no other log, its line
-- follows at once.
pub record CommitLaws (g : Opening) (group : ℕ) (w n at : ℕ) (x : Done) (xs : List Done) : Type 0 where
  pub few : 0 < group → behind (state_after g (front (x ∷ xs))) w < group
  pub entry : Entry
  pub has : Has entry (state_after g (front (x ∷ xs))).entries
  pub commit : is_commit entry.kind ≡ true
  pub session : entry.log ≡ w
  pub number : entry.txn ≡ n
  pub at_is : entry.number ≡ at
  pub at_once : group ≡ 1 → entry.need ≡ 0 → Has (name_of entry) (due g (state_after g (front (x ∷ xs))) (durables g (moments xs)))

-- behind each commit
abbrev pub EveryCommit : Type 0
EveryCommit = (l : Limits) (g : Opening) (group n at : ℕ) (x : Done) (xs : List Done) → EachTells l g group (x ∷ xs) → x.outcome.deed ≡ Committed n at → CommitLaws g group x.outcome.session n at x xs

-- behind a sync that was answered, all that was committed was told
abbrev pub EverySynced : Type 0
EverySynced = (l : Limits) (g : Opening) (group at : ℕ) (x : Done) (xs : List Done) → EachTells l g group (x ∷ xs) → x.outcome.deed ≡ Synced at →
    (e : Entry) → Has e (state_after g (front (x ∷ xs))).entries → is_commit e.kind ≡ true → Has (name_of e) (durables g (moments (x ∷ xs)))
