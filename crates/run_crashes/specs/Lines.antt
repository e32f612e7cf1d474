-- What a crash leaves of a run, in the words of the lines that were out by then. Of outcomes and of lines the newest is the first.
use Rattle.std.specs.Prelude.{◌≡◌, ◌+◌, ℕ, true, List, [], ◌∷◌, ◌++◌, length, Option, Some, None}
use Rattle.map_model.specs.Lists.{Has}
use Rattle.map_model.specs.Journals.{Name, Txn, Journal, IsClosed, Serial, after}
use Rattle.map_model.specs.Laws.{IsFalling}
use Rattle.map_model.specs.Outputs.{Reply, names}
use Rattle.disk_runs.specs.image_model.Ends.{kept}
use Rattle.disk_runs.specs.image_model.Entries.{Entry, is_commit}
use Rattle.disk_runs.specs.image_model.Images.{found, won_by}
use Rattle.disk_runs.specs.core_state.Openings.{Opening, first_map}
use Rattle.disk_runs.specs.core_state.Events.{Event}
use Rattle.lean_disk.specs.Story.{Crash}
use Rattle.disk_runs.specs.disk_slots.declared.master.Master.{Master}
use Rattle.disk_runs.specs.disk_image.Shown.{Areas, DiskStandsFor, IsCleanDisk, image_by}
use Rattle.disk_runs.specs.core_disk.Held.{HoldsRun}
use Rattle.disk_runs.specs.Fair.{IsFairFrom}
use Rattle.disk_runs.specs.Masters.{IsOfRunBy}
use Rattle.disk_runs.specs.Moments.{LeavesSome}
use Rattle.core_calls.specs.Crashes.{WithOneInHand}
use Rattle.core_calls.specs.Deeds.{Outcome, answered}
use Rattle.core_calls.specs.Fronts.{Done, front, outcomes}
use Rattle.core_calls.specs.Printed.{due_lines, durable_lines, printed}

-- ## Where a crash fell

-- Behind which events of what came after the outcomes that were heard it fell: none; the first of those that were done for the next one; or events of a
-- call that was not answered, of which Such is so.
pub data FellIn (Such : List Event → Type 0) (next : Option Done) (es : List Event) : Type 0 where
  Between : es ≡ [] → FellIn Such next es
  InCall : (x : Done) → next ≡ Some x → (after : List Event) → es ++ after ≡ x.events → FellIn Such next es
  Stopped : Such es → FellIn Such next es

-- without its events
abbrev pub outcome_of : Option Done → Option Outcome
outcome_of None = None
outcome_of (Some x) = Some x.outcome

-- ## What recovery gives

-- these outcomes, and so no call that was not answered
abbrev pub NoneStopped : List Done → List Event → Type 0
NoneStopped heard es = ⊥

-- These outcomes were heard, with these lines out, and the next one, if there is one, may be in hand. The image is clean; it stands for the map
-- after the kept transactions, by its own winners. The kept are those up to its master's floor and its winners: a closed part of the
-- transactions by then, with each that was reported durable. The disk holds what a crash behind the events of these outcomes and those that it fell
-- behind leaves, by the master that counts; that is of m's run, behind these events.
pub record Recovers (g : Opening) (Such : List Done → List Event → Type 0) (heard : List Done) (next : Option Done) (out : List Reply) (m : Master) (area : Areas) : Type 0 where
  pub n : Master
  -- where the crash fell
  pub behind : List Event
  pub fell : FellIn (Such heard) next behind
  pub of_run : IsOfRunBy (front heard ++ behind) m n
  pub holds : HoldsRun g (front heard ++ behind) n area
  -- the transactions by then: those that were told, and one in hand, if there is one; each commit in the image has the number of its transaction
  pub by_then : Journal
  pub by_then_is : WithOneInHand (image_by n area) (outcomes heard) (outcome_of next) by_then
  pub falls : IsFalling by_then
  pub serial : Serial (first_map g) by_then
  pub numbers : (r : Entry) → Has r (found (image_by n area)) → is_commit r.kind ≡ true → (t : Txn) → Has t by_then → t.session ≡ r.log → t.number ≡ r.txn → t.at ≡ r.number
  -- the kept are closed, and hold each that was reported durable
  pub kept_ones : Journal
  pub kept_is : kept_ones ≡ kept (length n.heads) n.floor (found (image_by n area)) by_then
  pub closed : IsClosed by_then kept_ones
  pub reported : (name : Name) → Has name (names out) → (t : Txn) × Has t kept_ones × (t.session ≡ name.session) × (t.number ≡ name.number)
  -- the image is clean, and stands for the map after them
  pub clean : IsCleanDisk n area
  pub stands : DiskStandsFor n area (after (first_map g) kept_ones) (won_by (image_by n area))

-- ## Moments of a run

-- the oldest of them
abbrev pub next_of : List Done → Option Done
next_of [] = None
next_of (x ∷ []) = Some x
next_of (x ∷ y ∷ earlier) = next_of (y ∷ earlier)

-- A crash in a run of these calls that began as s0, on a disk whose master was m: the first of them were heard, and of the last of these some
-- durable lines may be missing.
pub record RunLeft (g : Opening) (Such : List Done → List Event → Type 0) (xs : List Done) (s0 : Crash) (m : Master) (c : Crash) : Type 0 where
  pub unheard : List Done
  pub heard : List Done
  pub calls : unheard ++ heard ≡ xs
  pub missing : List Name
  pub out : List Reply
  pub lines : durable_lines missing ++ out ≡ printed g heard
  pub notes : c.notes ≡ s0.notes + length out
  pub recovers : IsFairFrom g.workers s0 c → Recovers g Such heard (next_of unheard) out m c.image

-- the lines of an outcome behind earlier ones
abbrev pub lines_of : Opening → List Done → Done → List Reply
lines_of g earlier x = due_lines g earlier x ++ Reply.Answered x.outcome.session (answered x.outcome.deed) ∷ []

-- the notes where all lines of these outcomes are out
abbrev pub notes_of : Opening → List Done → Crash → ℕ
notes_of g xs s0 = s0.notes + length (printed g xs)

-- A crash in a call behind these outcomes, whose events are these: no line of it is out, and the disk holds what one after some of them leaves.
pub record CallLeaves (g : Opening) (xs : List Done) (more : List Event) (s0 : Crash) (n : Master) (c : Crash) : Type 0 where
  pub notes : c.notes ≡ notes_of g xs s0
  pub some : LeavesSome g (front xs) more s0 n c

-- A crash while the lines of an outcome are put: the first of them are out, and the disk holds what one after all events of the call leaves.
pub record PutLeaves (g : Opening) (xs : List Done) (x : Done) (s0 : Crash) (n : Master) (c : Crash) : Type 0 where
  pub later : List Reply
  pub first : List Reply
  pub split : later ++ first ≡ lines_of g xs x
  pub notes : c.notes ≡ notes_of g xs s0 + length first
  pub some : LeavesSome g (front (x ∷ xs)) [] s0 n c
