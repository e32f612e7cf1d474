-- One thread, and a crash at any moment: what recovery gives, in the words of the lines that were printed by then.
use Rattle.std.specs.Prelude.{◌≡◌, ◌⊎◌, ℕ, true, false, List, [], ◌∷◌, ◌++◌, Option, Some, None}
use Rattle.map_model.specs.Lists.{Has}
use Rattle.map_model.specs.Journals.{Name, Txn, Journal, Serial}
use Rattle.map_model.specs.Laws.{IsFalling}
use Rattle.map_model.specs.Transcripts.{journal}
use Rattle.map_model.specs.Outputs.{Reply, names}
use Rattle.core_crash.specs.image_model.Entries.{Entry, Contents, is_commit}
use Rattle.core_crash.specs.image_model.Ends.{is_kept}
use Rattle.core_crash.specs.image_model.Images.{Image, found}
use Rattle.core_crash.specs.core_state.Openings.{Opening, first_map}
use Rattle.core_crash.specs.core_state.Events.{Event}
use Rattle.core_crash.specs.core_state.Steps.{state_after}
use Rattle.core_crash.specs.Crashes.{Leaves, image_of, journal_in}
use Rattle.core_calls.specs.Marks.{marks}
use Rattle.core_calls.specs.Deeds.{Committed, Outcome, commits, transcript}
use Rattle.core_calls.specs.Told.{SameTxn, Survives}
use Rattle.core_calls.specs.Refusals.{Limits}
use Rattle.core_calls.specs.Fronts.{Done, front, outcomes}
use Rattle.core_calls.specs.Runs.{EachTells}
use Rattle.core_calls.specs.Durables.{IsKept}
use Rattle.core_calls.specs.Printed.{printed}

-- A commit is in hand: it is the next outcome, the image keeps it, and its reply is not out yet. With it the outcomes tell of all.
pub record HasOneInHand (i : Image) (told : List Outcome) (next : Option Outcome) (by_then : Journal) : Type 0 where
  pub outcome : Outcome
  pub is_next : next ≡ Some outcome
  pub number : ℕ
  pub at : ℕ
  pub commit : outcome.deed ≡ Committed number at
  pub all : by_then ≡ journal (transcript (outcome ∷ told))
  -- it is one transaction more
  pub more : Txn
  pub session_is : more.session ≡ outcome.session
  pub number_is : more.number ≡ number
  pub at_is : more.at ≡ at
  pub kept : is_kept i.logs i.floor (found i) more ≡ true
  pub one : Has more by_then
  pub has : (t : Txn) → Has t (journal (transcript told)) → Has t by_then
  pub only : (t : Txn) → Has t by_then → Has t (journal (transcript told)) ⊎ (t ≡ more)

-- the transactions that were told, or these and one in hand
abbrev pub WithOneInHand : Image → List Outcome → Option Outcome → Journal → Type 0
WithOneInHand i told next by_then = (by_then ≡ journal (transcript told)) ⊎ HasOneInHand i told next by_then

-- after these events, where these outcomes were told, and none is executed yet but maybe the next
pub record RunSurvives (g : Opening) (es : List Event) (logs : ℕ → List Entry) (page : ℕ → Contents) (earlier : List Done) (next : Option Outcome) : Type 0 where
  pub by_then : Journal
  pub by_then_is : WithOneInHand (image_of g (state_after g es) logs page) (outcomes earlier) next by_then
  pub serial : Serial (first_map g) by_then
  pub falls : IsFalling by_then
  -- each has happened: it is one of the core's
  pub happened : (t : Txn) → Has t by_then → (u : Txn) × Has u (journal_in g (state_after g es)) × SameTxn t u
  -- a commit that happened has the number of its transaction
  pub numbers : (r : Entry) → Has r (state_after g es).entries → is_commit r.kind ≡ true → (t : Txn) → Has t by_then → t.session ≡ r.log → t.number ≡ r.txn → t.at ≡ r.number
  pub survives : Survives g (state_after g es) (image_of g (state_after g es) logs page) by_then
  -- each that the first of the printed lines report is kept
  pub reported : (newer first : List Reply) → newer ++ first ≡ printed g earlier → (n : Name) → Has n (names first) → IsKept g (state_after g es) logs page by_then n

-- Wherever a crash falls: among the events of the next outcome, behind some of them or behind all, and they need not all have happened; or
-- where a call stopped; or behind the last outcome.
pub record RunCrashes (l : Limits) (g : Opening) (group : ℕ) : Type 0 where
  pub between : (earlier : List Done) (x : Done) (before after : List Event) → EachTells l g group (x ∷ earlier) → x.events ≡ before ++ after →
      (logs : ℕ → List Entry) (page : ℕ → Contents) → Leaves g (front earlier ++ before) logs page → RunSurvives g (front earlier ++ before) logs page earlier (Some x.outcome)
  -- among events of a call that was not finished, which commit nothing
  pub stopped : (earlier : List Done) (rest : List Event) → EachTells l g group earlier → ((w : ℕ) → commits (marks g (state_after g (front earlier)) rest w []) ≡ false) →
      (logs : ℕ → List Entry) (page : ℕ → Contents) → Leaves g (front earlier ++ rest) logs page → RunSurvives g (front earlier ++ rest) logs page earlier None
  pub behind : (earlier : List Done) → EachTells l g group earlier → (logs : ℕ → List Entry) (page : ℕ → Contents) → Leaves g (front earlier) logs page → RunSurvives g (front earlier) logs page earlier None

-- in each run from a faithful opening
abbrev pub EveryRunCrash : Type 0
EveryRunCrash = (l : Limits) (g : Opening) → g.faithful ≡ true → (group : ℕ) → RunCrashes l g group
