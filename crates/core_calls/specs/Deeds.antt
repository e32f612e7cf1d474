-- What comes of a line of a script: what it is answered, and which events of its session that stands for.
use Rattle.std.specs.Prelude.{◌≡◌, ℕ, Bool, true, false, ◌==◌, List, [], ◌∷◌, ◌++◌, map, Option, Some, None, if◌then◌else◌}
use Rattle.map_model.specs.declared.call.Call.{Call}
use Rattle.map_model.specs.declared.call.Call.TheVariants as call
use Rattle.map_model.specs.declared.call.Answer.{Answer}
use Rattle.map_model.specs.declared.call.Answer.TheVariants as answer
use Rattle.map_model.specs.declared.call.Refusal.{Refusal}
use Rattle.map_model.specs.Maps.{MapCall, MapAnswer}
use Rattle.map_model.specs.Histories.{Step}
use Rattle.core_crash.specs.core_state.Openings.{Opening}
use Rattle.core_crash.specs.core_state.States.{start}
use Rattle.core_crash.specs.core_state.Events.{Event}
use Rattle.map_model.specs.Pairings.{in_turn}
use Rattle.map_model.specs.declared.call.Answered.{Answered}
use Rattle.core_calls.specs.Marks.{Mark, Began, Called, Back, Ended, marks, is_half}

-- A call with its answer, and what was done for it. A del of an absent key finds it absent, with its row held alone. A scan has a deed for
-- each pair, and one where it ends. An abort, and a call that met a conflict, put changes back.
pub data Deed : Type 0 where
  Begun : (number : ℕ) → Deed
  Got : (key : ℕ) → (value : Option ℕ) → (alone : Bool) → Deed
  Changed : (key value : ℕ) → (was : Option ℕ) → Deed
  Deleted : (key was : ℕ) → Deed
  Absent : (key : ℕ) → Deed
  Met : (from to key value : ℕ) → (alone : Bool) → Deed
  Paused : (from to next : ℕ) → Deed
  Over : (from to : ℕ) → Deed
  Committed : (number at : ℕ) → Deed
  Aborted : (asked : Call) → (number at : ℕ) → (backs : List Step) → Deed
  Refused : (asked : Call) → (why : Refusal) → (backs : List Step) → Deed
  Synced : (at : ℕ) → Deed
  Checkpointed : (at : ℕ) → Deed

-- what was asked
abbrev pub asked : Deed → Call
asked (Begun n) = call.Begin
asked (Got k a alone) = call.Get k
asked (Changed k v a) = call.Put k v
asked (Deleted k a) = call.Del k
asked (Absent k) = call.Del k
asked (Met from to k v alone) = call.Scan from to
asked (Paused from to k) = call.Scan from to
asked (Over from to) = call.Scan from to
asked (Committed n at) = call.Commit
asked (Aborted c n at backs) = c
asked (Refused c r backs) = c
asked (Synced at) = call.Sync
asked (Checkpointed at) = call.Checkpoint

-- what it was answered
abbrev pub answered : Deed → Answer
answered (Begun n) = answer.Begun n
answered (Got k a alone) = answer.Value a
answered (Changed k v a) = answer.Was a
answered (Deleted k a) = answer.Was (Some a)
answered (Absent k) = answer.Was None
answered (Met from to k v alone) = answer.Pair k v
answered (Paused from to k) = answer.More k
answered (Over from to) = answer.End
answered (Committed n at) = answer.Committed n at
answered (Aborted c n at backs) = answer.Aborted n
answered (Refused c r backs) = answer.Refused r
answered (Synced at) = answer.Synced at
answered (Checkpointed at) = answer.Checkpointed at

-- changes that were put back
abbrev pub put_backs : List Step → List Mark
put_backs [] = []
put_backs (x ∷ earlier) = Back x.call x.answer ∷ put_backs earlier

-- what events tell of it, the newest first
abbrev pub marks_of : Deed → List Mark
marks_of (Begun n) = Began n ∷ []
marks_of (Got k a alone) = Called (MapCall.Get k) (MapAnswer.Value a) alone ∷ []
marks_of (Changed k v a) = Called (MapCall.Put k v) (MapAnswer.Was a) true ∷ []
marks_of (Deleted k a) = Called (MapCall.Del k) (MapAnswer.Was (Some a)) true ∷ []
marks_of (Absent k) = Called (MapCall.Get k) (MapAnswer.Value None) true ∷ []
marks_of (Met from to k v alone) = Called (MapCall.Get k) (MapAnswer.Value (Some v)) alone ∷ []
marks_of (Paused from to k) = []
marks_of (Over from to) = []
marks_of (Committed n at) = Ended true n at ∷ []
marks_of (Aborted c n at backs) = Ended false n at ∷ put_backs backs
marks_of (Refused c r backs) = put_backs backs
marks_of (Synced at) = []
marks_of (Checkpointed at) = []

-- Once a change was put back, the transaction can only be aborted.
abbrev pub may_follow : Bool → Deed → Type 0
may_follow half (Got k a alone) = half ≡ false
may_follow half (Changed k v a) = half ≡ false
may_follow half (Deleted k a) = half ≡ false
may_follow half (Absent k) = half ≡ false
may_follow half (Met from to k v alone) = half ≡ false
may_follow half (Committed n at) = half ≡ false
may_follow half _ = Unit {0}

-- A read of which nobody is told: of the pair behind the last of a scan, or of a scan that began anew.
pub record Unsaid : Type 0 where
  pub key : ℕ
  pub value : Option ℕ
  pub alone : Bool

-- what events tell of such reads
abbrev pub reads_of : List Unsaid → List Mark
reads_of [] = []
reads_of (x ∷ earlier) = Called (MapCall.Get x.key) (MapAnswer.Value x.value) x.alone ∷ reads_of earlier

-- A deed of a session, behind reads of which nobody is told; of a sync and a checkpoint the session is 0.
pub record Outcome : Type 0 where
  pub session : ℕ
  pub deed : Deed
  pub unsaid : List Unsaid

-- what events tell of an outcome
abbrev pub marks_for : Outcome → List Mark
marks_for x = marks_of x.deed ++ reads_of x.unsaid

-- what outcomes, the newest first, tell of session w
abbrev pub marks_by : ℕ → List Outcome → List Mark
marks_by w [] = []
marks_by w (x ∷ earlier) = if x.session == w then marks_for x ++ marks_by w earlier else marks_by w earlier

-- each may follow those before it
abbrev pub AreInTurn : List Outcome → Type 0
AreInTurn [] = Unit {0}
AreInTurn (x ∷ earlier) = AreInTurn earlier × may_follow (is_half (marks_by x.session earlier)) x.deed

-- nothing is committed
abbrev pub commits : List Mark → Bool
commits [] = false
commits (Ended true n at ∷ earlier) = true
commits (_ ∷ earlier) = commits earlier

-- The outcomes are those of a list of events: each session's are those of its own events, in their order. Behind them stands what was
-- done for outcomes to come, which commits nothing.
pub record Answers (g : Opening) (es : List Event) (xs : List Outcome) : Type 0 where
  pub rest : ℕ → List Mark
  pub each : (w : ℕ) → marks g (start g) es w [] ≡ rest w ++ marks_by w xs
  pub open_yet : (w : ℕ) → commits (rest w) ≡ false
  pub in_turn : AreInTurn xs

-- an outcome in the words of a transcript
abbrev pub in_words : Outcome → Answered
in_words x = record { session = x.session; call = asked x.deed; answer = answered x.deed }

-- the outcomes as a transcript has them, the oldest first
abbrev pub transcript : List Outcome → List Answered
transcript xs = in_turn (map in_words xs)
