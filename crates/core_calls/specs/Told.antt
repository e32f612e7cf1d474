-- When a journal that a transcript tells is the core's, and what holds of it then.
use Rattle.std.specs.Prelude.{◌≡◌, ◌⊎◌, ℕ, true, List, [], ◌∷◌, Some, None}
use Rattle.map_model.specs.Lists.{Has}
use Rattle.map_model.specs.Maps.{MapCall, MapAnswer}
use Rattle.map_model.specs.Histories.{Step}
use Rattle.map_model.specs.Journals.{Txn, Journal, after, Serial, IsClosed}
use Rattle.map_model.specs.Laws.{IsFalling}
use Rattle.map_model.specs.Transcripts.{journal}
use Rattle.core_crash.specs.image_model.Entries.{Entry, Contents}
use Rattle.core_crash.specs.image_model.Ends.{kept, is_kept}
use Rattle.core_crash.specs.image_model.Images.{Image, StandsFor, found, won_by}
use Rattle.core_crash.specs.core_state.Openings.{Opening, first_map}
use Rattle.core_crash.specs.core_state.States.{State}
use Rattle.core_crash.specs.core_state.Events.{Event}
use Rattle.core_crash.specs.core_state.Steps.{state_after}
use Rattle.core_crash.specs.Crashes.{Leaves, image_of, journal_in, IsRipe}
use Rattle.core_calls.specs.Deeds.{Outcome, Answers, transcript}

-- pair by pair
abbrev pub Pairwise : {A B : Type 0} → (A → B → Type 0) → List A → List B → Type 0
Pairwise R [] [] = Unit {0}
Pairwise R (x ∷ xs) (y ∷ ys) = Pairwise R xs ys × R x y
Pairwise R _ _ = ⊥

-- pair by pair, but for some of the second list
abbrev pub Covers : {A B : Type 0} → (A → B → Type 0) → (B → Type 0) → List A → List B → Type 0
Covers R skip [] [] = Unit {0}
Covers R skip (x ∷ xs) [] = ⊥
Covers R skip [] (y ∷ ys) = Covers R skip [] ys × skip y
Covers R skip (x ∷ xs) (y ∷ ys) = (Covers R skip xs ys × R x y) ⊎ (Covers R skip (x ∷ xs) ys × skip y)

-- A call as a transcript has it and as the core's journal has it: the same; or a del that found its key absent, or a pair that a scan
-- met, both of which the core has as reads.
pub data SameCall (x y : Step) : Type 0 where
  Same : x.call ≡ y.call → x.answer ≡ y.answer → SameCall x y
  Absent : (k : ℕ) → x.call ≡ MapCall.Del k → x.answer ≡ MapAnswer.Was None → y.call ≡ MapCall.Get k → y.answer ≡ MapAnswer.Value None → SameCall x y
  Met : (k v : ℕ) → x.call ≡ MapCall.Next k → x.answer ≡ MapAnswer.Pair k v → y.call ≡ MapCall.Get k → y.answer ≡ MapAnswer.Value (Some v) → SameCall x y

-- a read
abbrev pub IsRead : Step → Type 0
IsRead y = (k : ℕ) × (y.call ≡ MapCall.Get k)

-- the same transaction; the core may have reads that nobody was told
pub record SameTxn (t u : Txn) : Type 0 where
  pub session : t.session ≡ u.session
  pub number : t.number ≡ u.number
  pub at : t.at ≡ u.at
  pub calls : Covers SameCall IsRead t.calls u.calls

-- the same transactions, in the same order
abbrev pub SameJournal : Journal → Journal → Type 0
SameJournal j k = Pairwise SameTxn j k

-- the members of a journal that an image keeps
abbrev pub kept_of : Image → Journal → Journal
kept_of i j = kept i.logs i.floor (found i) j

-- what recovery gives from an image that a crash of the state left, in the words of a journal
pub record Survives (g : Opening) (s : State) (i : Image) (j : Journal) : Type 0 where
  pub stands : StandsFor i (after (first_map g) (kept_of i j)) (won_by i)
  pub closed : IsClosed j (kept_of i j)
  pub ripe : (t : Txn) → Has t j → IsRipe g s t → Has t (kept_of i j)

-- The transactions by the time of a crash: those that were told by then, and those in hand that the image keeps.
pub record ByThen (i : Image) (told all by_then : Journal) : Type 0 where
  pub falls : IsFalling by_then
  pub has_told : (t : Txn) → Has t told → Has t by_then
  pub has_kept : (t : Txn) → Has t all → is_kept i.logs i.floor (found i) t ≡ true → Has t by_then
  pub only : (t : Txn) → Has t by_then → Has t all × (Has t told ⊎ (is_kept i.logs i.floor (found i) t ≡ true))

-- What holds of the outcomes of a list of events; what the pages contain is known where the opening is faithful.
pub record ToldLaws (g : Opening) (es : List Event) (xs : List Outcome) : Type 0 where
  -- their journal is the core's
  pub same : SameJournal (journal (transcript xs)) (journal_in g (state_after g es))
  pub falls : IsFalling (journal (transcript xs))
  pub serial : g.faithful ≡ true → Serial (first_map g) (journal (transcript xs))
  -- wherever a crash falls, with whatever was told by then
  pub crash : g.faithful ≡ true → (logs : ℕ → List Entry) (page : ℕ → Contents) → Leaves g es logs page →
      let s = state_after g es in
      let i = image_of g s logs page in
      (told by_then : Journal) → ByThen i told (journal (transcript xs)) by_then → Survives g s i by_then

-- Whatever happened, where the outcomes are those of the events.
abbrev pub EveryTold : Type 0
EveryTold = (g : Opening) (es : List Event) (xs : List Outcome) → Answers g es xs → ToldLaws g es xs
