-- What a call says to a caller.
use Rattle.std.specs.Prelude.{◌≡◌, ◌↔◌, ◌<◌, ◌≤◌, ℕ, Bool, true, false, not, List, ◌∷◌, Result, Ok, Err, IfOk, IfErr, IsErr, MatchOption, Option, Some, IfSome}
use Rattle.map_model.specs.Journals.{Name}
use Rattle.map_model.specs.declared.call.Answer.{Answer}
use Rattle.map_model.specs.declared.call.Answer.TheVariants as answer
use Rattle.map_model.specs.declared.call.Call.{Call}
use Rattle.map_model.specs.declared.call.Call.TheVariants as call
use Rattle.paged_scans.specs.engine_trait.declared.unserved.Unanswered.{Unanswered}
use Rattle.paged_scans.specs.engine_trait.declared.unserved.Unanswered.TheVariants as unanswered
use Rattle.paged_scans.specs.engine_trait.declared.unserved.Unserved.{Unserved}
use Rattle.paged_scans.specs.core_state.Openings.{Opening}
use Rattle.paged_scans.specs.core_calls.Deeds.{asked}
use Rattle.paged_scans.specs.core_calls.Fronts.{Done}
use Rattle.paged_scans.specs.core_calls.Steps.{hindered_in}
use Rattle.lean_disk.specs.Faults.{HasCause}
use Rattle.lean_disk.specs.Story.{Story}
use Rattle.paged_scans.specs.engine_trait.Calls.{HasCome}
use Rattle.paged_scans.specs.call_parts.Deeds.{Does, Fails}
use Rattle.engine_front.specs.Stops.{StandsNot, StopsBy}
use Rattle.engine_front.specs.Turns.{IsTaken, behind_answer, behind_durables, told_with}
use Rattle.engine_front.specs.declared.calls.Durable.{Durable}
use Rattle.engine_front.specs.declared.calls.Next.TheVariants.{Scan}
use Rattle.paged_scans.specs.engine_trait.Serving.{unserved_answer}
use Rattle.group_commit.specs.Queues.{queued}
use Rattle.group_commit.specs.declared.receipts.Receipt.{Receipt}
use Rattle.paged_scans.specs.paged_desks.Calls.{Comes}
use Rattle.buffered_engine.specs.States.{InRun, State, memory_in, pairs_left}
use Rattle.buffered_engine.specs.declared.calls.Aborted.{Aborted}
use Rattle.buffered_engine.specs.declared.calls.Began.{Began}
use Rattle.buffered_engine.specs.declared.calls.Synced.{Synced}

-- ## Answers

-- behind it an engine works no longer
abbrev pub is_stop : Result Answer Unanswered → Bool
is_stop (Ok a) = false
is_stop (Err why) = true

-- an answer is one that has come where there are so many sessions
abbrev pub MayBe : (sessions : ℕ) → Result Answer Unanswered → Type 0
MayBe sessions r = IfOk r (HasCome sessions)

-- a step of a scan, or it was not served
abbrev pub IsStep : Result Answer Unanswered → Type 0
IsStep (Ok (answer.Pair key value)) = Unit {0}
IsStep (Ok (answer.More from)) = Unit {0}
IsStep (Ok answer.End) = Unit {0}
IsStep (Ok (answer.Refused why)) = Unit {0}
IsStep (Err why) = Unit {0}
IsStep r = ⊥

-- the value of a key, or it was not served
abbrev pub IsValue : Result Answer Unanswered → Type 0
IsValue (Ok (answer.Value value)) = Unit {0}
IsValue (Ok (answer.Refused why)) = Unit {0}
IsValue (Err why) = Unit {0}
IsValue r = ⊥

-- what a key had before it was changed, or it was not served
abbrev pub IsWas : Result Answer Unanswered → Type 0
IsWas (Ok (answer.Was was)) = Unit {0}
IsWas (Ok (answer.Refused why)) = Unit {0}
IsWas (Err why) = Unit {0}
IsWas r = ⊥

-- an answer to a call of its kind, or it was not served
abbrev pub IsTo : Call → Result Answer Unanswered → Type 0
IsTo call.Begin (Ok (answer.Begun number)) = Unit {0}
IsTo (call.Get key) r = IsValue r
IsTo (call.Put key value) r = IsWas r
IsTo (call.Del key) r = IsWas r
IsTo (call.Scan from to) r = IsStep r
IsTo call.Commit (Ok (answer.Committed number at)) = Unit {0}
IsTo call.Abort (Ok (answer.Aborted number)) = Unit {0}
IsTo call.Sync (Ok (answer.Synced at)) = Unit {0}
IsTo c (Ok (answer.Refused why)) = Unit {0}
IsTo c (Err why) = Unit {0}
IsTo c r = ⊥

-- ## Results as answers

abbrev pub began_answer : Result Began Unserved → Result Answer Unanswered
began_answer (Ok began) = Ok (answer.Begun began.number)
began_answer (Err why) = unserved_answer why

abbrev pub value_answer : Result (Option ℕ) Unserved → Result Answer Unanswered
value_answer (Ok value) = Ok (answer.Value value)
value_answer (Err why) = unserved_answer why

abbrev pub was_answer : Result (Option ℕ) Unserved → Result Answer Unanswered
was_answer (Ok was) = Ok (answer.Was was)
was_answer (Err why) = unserved_answer why

abbrev pub receipt_answer : Result Receipt Unserved → Result Answer Unanswered
receipt_answer (Ok receipt) = Ok (answer.Committed receipt.txn receipt.gsn)
receipt_answer (Err why) = unserved_answer why

abbrev pub aborted_answer : Result Aborted Unserved → Result Answer Unanswered
aborted_answer (Ok aborted) = Ok (answer.Aborted aborted.number)
aborted_answer (Err why) = unserved_answer why

abbrev pub synced_answer : Result Synced Unserved → Result Answer Unanswered
synced_answer (Ok synced) = Ok (answer.Synced synced.at)
synced_answer (Err why) = unserved_answer why

-- ## A call

-- It was answered so, and the engine stands in the run with one outcome more.
pub record DoesIn {D : Type 0} (g : Opening) (xs : List Done) (names : List Name) (own : ℕ) (c : Call) (a : Answer) (was is : State D) (old new : Story) : Type 0 where
  pub does : Does g was.group xs own c a (memory_in was) (memory_in is) old new
  pub in_run : InRun is g (does.done ∷ xs) names

-- so in each run, or its disk failed, or a page was damaged, and then the disk stood for no run of these outcomes
abbrev pub DoesInRuns : {D : Type 0} → (own : ℕ) → Call → Result Answer Unanswered → (was is : State D) → (old new : Story) → Type 0
DoesInRuns own c r was is old new = (g : Opening) (xs : List Done) (names : List Name) → InRun was g xs names
    → Comes r (λ a. DoesIn g xs names own c a was is old new) (Fails g was.group xs own c (memory_in was) old new) (StandsNot g was.group xs (memory_in was) old)

-- an abort that is due behind the call of the newest outcome
abbrev pub AbortsInRuns : {D : Type 0} → Result Answer Unanswered → (was is : State D) → (old new : Story) → Type 0
AbortsInRuns r was is old new = (g : Opening) (y : Done) (earlier : List Done) (names : List Name) → InRun was g (y ∷ earlier) names → (c : Call) → hindered_in y.outcome.deed ≡ Some c
    → Comes r (λ a. DoesIn g (y ∷ earlier) names y.outcome.session c a was is old new) (Fails g was.group (y ∷ earlier) y.outcome.session c (memory_in was) old new) (StandsNot g was.group (y ∷ earlier) (memory_in was) old)

-- what follows the newest outcome, a pair of a scan
abbrev pub ScansInRuns : {D : Type 0} → Result Answer Unanswered → (was is : State D) → (old new : Story) → Type 0
ScansInRuns r was is old new = (g : Opening) (y : Done) (earlier : List Done) (names : List Name) → InRun was g (y ∷ earlier) names
    → Comes r (λ a. DoesIn g (y ∷ earlier) names y.outcome.session (asked y.outcome.deed) a was is old new) (Fails g was.group (y ∷ earlier) y.outcome.session (asked y.outcome.deed) (memory_in was) old new) (StandsNot g was.group (y ∷ earlier) (memory_in was) old)

-- One call, whatever it did, which took the engine from one state to another.
pub record Went {D : Type 0} (Did : Type 0) (r : Result Answer Unanswered) (was is : State D) : Type 0 where
  pub does : was.works ≡ true → Did
  pub may : MayBe was.sessions r
  pub works : is.works ≡ not (is_stop r)
  pub next : IfOk r (λ a. is.next ≡ behind_answer a)
  pub waits : IsErr r → is.next ≡ was.next
  pub sessions : is.sessions ≡ was.sessions
  pub group : is.group ≡ was.group
  pub same : r ≡ Err unanswered.Broken → is ≡ was
  pub broken : (r ≡ Err unanswered.Broken) ↔ (was.works ≡ false)

-- session `own` asked it
abbrev pub Asked : {D : Type 0} → (story : D → Story) → (own : ℕ) → Call → Result Answer Unanswered → (was is : State D) → Type 0
Asked story own c r was is = Went (DoesInRuns own c r was is (story was.disk) (story is.disk)) r was is

-- an abort was due
abbrev pub AskedAbort : {D : Type 0} → (story : D → Story) → Result Answer Unanswered → (was is : State D) → Type 0
AskedAbort story r was is = Went (AbortsInRuns r was is (story was.disk) (story is.disk)) r was is

-- what follows a pair of a scan was asked
abbrev pub AskedScan : {D : Type 0} → (story : D → Story) → Result Answer Unanswered → (was is : State D) → Type 0
AskedScan story r was is = Went (ScansInRuns r was is (story was.disk) (story is.disk)) r was is

-- where the scan still goes on, it may tell fewer pairs than before
abbrev pub TellsFewer : {D : Type 0} → (was is : State D) → Type 0
TellsFewer was is = is.next ≡ Scan → pairs_left is.scan < pairs_left was.scan

-- it was answered so, by one outcome more in each run
abbrev pub Answered : {D : Type 0} → (story : D → Story) → (own : ℕ) → Call → (was is : State D) → Answer → Type 0
Answered story own c was is a = (g : Opening) (xs : List Done) (names : List Name) → InRun was g xs names
    → (d : Does g was.group xs own c a (memory_in was) (memory_in is) (story was.disk) (story is.disk)) × InRun is g (d.done ∷ xs) names

-- it was not, for this reason, in each run
abbrev pub Stopped : {D : Type 0} → (story : D → Story) → (own : ℕ) → Call → (was is : State D) → Unanswered → Type 0
Stopped story own c was is why = (g : Opening) (xs : List Done) (names : List Name) → InRun was g xs names
    → StopsBy why (Fails g was.group xs own c (memory_in was) (story was.disk) (story is.disk)) (StandsNot g was.group xs (memory_in was) (story was.disk))

-- of an abort that is due
abbrev pub AbortAnswered : {D : Type 0} → (story : D → Story) → (was is : State D) → Answer → Type 0
AbortAnswered story was is a = (g : Opening) (y : Done) (earlier : List Done) (names : List Name) → InRun was g (y ∷ earlier) names → (c : Call) → hindered_in y.outcome.deed ≡ Some c
    → (d : Does g was.group (y ∷ earlier) y.outcome.session c a (memory_in was) (memory_in is) (story was.disk) (story is.disk)) × InRun is g (d.done ∷ y ∷ earlier) names

abbrev pub AbortStopped : {D : Type 0} → (story : D → Story) → (was is : State D) → Unanswered → Type 0
AbortStopped story was is why = (g : Opening) (y : Done) (earlier : List Done) (names : List Name) → InRun was g (y ∷ earlier) names → (c : Call) → hindered_in y.outcome.deed ≡ Some c
    → StopsBy why (Fails g was.group (y ∷ earlier) y.outcome.session c (memory_in was) (story was.disk) (story is.disk)) (StandsNot g was.group (y ∷ earlier) (memory_in was) (story was.disk))

-- of what follows a pair of a scan
abbrev pub ScanAnswered : {D : Type 0} → (story : D → Story) → (was is : State D) → Answer → Type 0
ScanAnswered story was is a = (g : Opening) (y : Done) (earlier : List Done) (names : List Name) → InRun was g (y ∷ earlier) names
    → (d : Does g was.group (y ∷ earlier) y.outcome.session (asked y.outcome.deed) a (memory_in was) (memory_in is) (story was.disk) (story is.disk)) × InRun is g (d.done ∷ y ∷ earlier) names

abbrev pub ScanStopped : {D : Type 0} → (story : D → Story) → (was is : State D) → Unanswered → Type 0
ScanStopped story was is why = (g : Opening) (y : Done) (earlier : List Done) (names : List Name) → InRun was g (y ∷ earlier) names
    → StopsBy why (Fails g was.group (y ∷ earlier) y.outcome.session (asked y.outcome.deed) (memory_in was) (story was.disk) (story is.disk)) (StandsNot g was.group (y ∷ earlier) (memory_in was) (story was.disk))

-- ## What is answered

-- The engine answers, where so many sessions ask, and then this was done; or it is said why not; and where it worked no longer, nothing was.
pub record EngineDoes {D : Type 0} (faults : D → ℕ) (many : ℕ) (Did : Answer → Type 0) (Stops : Unanswered → Type 0) (result : Result Answer Unanswered) (was is : State D) : Type 0 where
  pub does : IfOk result Did
  pub come : IfOk result (HasCome many)
  pub next : IfOk result (λ a. is.next ≡ behind_answer a)
  pub stops : IfErr result Stops
  pub works : is.works ≡ true ↔ (IsErr result → ⊥)
  pub sizes : (is.sessions ≡ was.sessions) × (is.group ≡ was.group)
  pub same : result ≡ Err unanswered.Broken → is ≡ was
  pub cause_broken : (result ≡ Err unanswered.Broken) ↔ (was.works ≡ false)
  pub cause_disk_fault : HasCause (faults was.disk) (faults is.disk) (result ≡ Err unanswered.DiskFault)

-- to what a line of session `own` asks
abbrev pub LineDoes : {D : Type 0} → (story : D → Story) → (faults : D → ℕ) → (own : ℕ) → Call → Result Answer Unanswered → (was is : State D) → Type 0
LineDoes story faults own c result was is = EngineDoes faults was.sessions (Answered story own c was is) (Stopped story own c was is) result was is

-- to the abort of a call that met a conflict
abbrev pub HinderedDoes : {D : Type 0} → (story : D → Story) → (faults : D → ℕ) → Result Answer Unanswered → (was is : State D) → Type 0
HinderedDoes story faults result was is = EngineDoes faults 1 (AbortAnswered story was is) (AbortStopped story was is) result was is

-- to what follows a pair of a scan
abbrev pub ScanDoes : {D : Type 0} → (story : D → Story) → (faults : D → ℕ) → Result Answer Unanswered → (was is : State D) → Type 0
ScanDoes story faults result was is = EngineDoes faults was.sessions (ScanAnswered story was is) (ScanStopped story was is) result was is

-- The durable line that is due first was taken, or none is due; then nothing else has changed but what may be asked next.
pub record DurableDoes {D : Type 0} (result : Option Durable) (was is : State D) : Type 0 where
  pub taken : (g : Opening) (xs : List Done) (names : List Name) → InRun was g xs names → IsTaken g xs names result × InRun is g xs (told_with result names)
  pub next : MatchOption result (is.next ≡ behind_durables was.next) (λ d. is.next ≡ was.next)
  pub session : IfSome result (λ d. (0 < d.session) × (d.session ≤ was.sessions))
  -- so the lines of one call come to an end
  pub fewer : IfSome result (λ d. queued is.ends < queued was.ends)
  pub same : (memory_in is ≡ memory_in was) × (is.works ≡ was.works) × (is.disk ≡ was.disk)
  pub sizes : (is.sessions ≡ was.sessions) × (is.group ≡ was.group)
