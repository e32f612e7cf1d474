-- How an engine asks, and what it is answered.
use Rattle.std.specs.Prelude.{◌≡◌, ◌<◌, ◌≤◌, ◌++◌, ℕ, Bool, true, false, List, ◌∷◌, Option, None, Some, Result, Ok, Err}
use Rattle.map_model.specs.Lists.{Has}
use Rattle.map_model.specs.Maps.{key_end, value_end}
use Rattle.map_model.specs.Pairings.{is_last}
use Rattle.map_model.specs.declared.call.Answer.{Answer}
use Rattle.map_model.specs.declared.call.Answer.TheVariants as answer
use Rattle.map_model.specs.declared.call.Call.{Call}
use Rattle.map_model.specs.declared.call.Call.TheVariants as call
use Rattle.paged_scans.specs.engine_trait.declared.unserved.Unserved.{Unserved}
use Rattle.paged_scans.specs.core_state.Openings.{Opening}
use Rattle.paged_scans.specs.core_calls.Fronts.{Done}
use Rattle.paged_scans.specs.core_calls.Steps.{hindered_in}
use Rattle.paged_scans.specs.row_words.declared.event.Event.{Event}
use Rattle.paged_scans.specs.row_words.declared.event.Event.TheVariants as told
use Rattle.paged_scans.specs.rows_trait.declared.view.View.{View}
use Rattle.engine_front.specs.Turns.{behind_answer}
use Rattle.engine_front.specs.declared.calls.Durable.{Durable}
use Rattle.engine_front.specs.declared.calls.Next.{Next}
use Rattle.group_commit.specs.Queues.{pushed}
use Rattle.group_commit.specs.Ripeness.{flushed_of}
use Rattle.group_commit.specs.declared.queue.End.{End}
use Rattle.group_commit.specs.declared.receipts.Receipt.{Receipt}
use Rattle.paged_scans.specs.row_ends.declared.ending.Ended.{Ended}
use Rattle.paged_scans.specs.worker_log.Logs.{Log}
use Rattle.paged_scans.specs.paged_desks.Calls.{OnLine}
use Rattle.paged_ends.specs.Ends.{OnBegin}
use Rattle.buffered_engine.specs.Receipts.{IsReceipt, flushed_in}
use Rattle.paged_scans.specs.engine_trait.declared.unserved.Unanswered.{Unanswered}

-- ## Calls

-- a call of a session of its rows that is no begin and no abort
abbrev pub IsRowCall : Call → Type 0
IsRowCall (call.Get key) = key < key_end
IsRowCall (call.Put key value) = (key < key_end) × (value < value_end)
IsRowCall (call.Del key) = key < key_end
IsRowCall call.Commit = Unit {0}
IsRowCall _ = ⊥

-- where a call may come: a begin with as many ends of its session as it was told
abbrev pub OnAsked : (own : ℕ) → Call → (is_long : Bool) → Opening → List Done → Type 0
OnAsked own call.Begin is_long g xs = OnBegin own is_long g xs
OnAsked own c is_long g xs = OnLine g xs

-- the abort of the call of the newest outcome, which met a conflict in the session's open transaction
pub record IsDue (own : ℕ) (c : Call) (g : Opening) (xs : List Done) : Type 0 where
  pub newest : Done
  pub earlier : List Done
  pub are : xs ≡ newest ∷ earlier
  pub hindered : hindered_in newest.outcome.deed ≡ Some c
  pub session : newest.outcome.session ≡ own

-- the receipt of an end
abbrev pub receipt_in : (own : ℕ) → Result Ended Unserved → Option Receipt
receipt_in own (Ok e) = Some (record { txn = e.number; log = own; gsn = e.at; need = e.need })
receipt_in own (Err why) = None

-- it was served
abbrev pub IsServed : Result Answer Unanswered → Type 0
IsServed (Ok (answer.Refused why)) = ⊥
IsServed (Ok a) = Unit {0}
IsServed (Err why) = ⊥

-- nothing follows it on its line
abbrev pub ends_line : Result Answer Unanswered → Bool
ends_line (Ok a) = is_last a
ends_line (Err why) = true

-- ## Ends

-- it ends a transaction
abbrev pub ends_in : Result Answer Unanswered → Bool
ends_in (Ok (answer.Committed number at)) = true
ends_in (Ok (answer.Aborted number)) = true
ends_in _ = false

abbrev pub is_commit_in : Result Answer Unanswered → Bool
is_commit_in (Ok (answer.Committed number at)) = true
is_commit_in _ = false

-- among the events of a call the abort of the session found all logs flushed up to this number
pub record FindsFlushed (own flushed : ℕ) (v w : View) : Type 0 where
  pub events : List Event
  pub given : w.given ≡ v.given
  pub seen : w.seen ≡ v.seen ++ events
  pub has : Has (told.End own false flushed) events

-- up to which number all logs were flushed where the end was made: before the call where it is a commit, and as an abort found it
abbrev pub WasFlushed : Result Answer Unanswered → (own : ℕ) → (v w : View) → ℕ → Type 0
WasFlushed (Ok (answer.Aborted number)) own v w flushed = FindsFlushed own flushed v w
WasFlushed _ own v w flushed = flushed ≡ flushed_in v

-- a receipt of the session's end
pub record IsEnding (own : ℕ) (v w : View) (a : Result Answer Unanswered) (r : Receipt) : Type 0 where
  pub flushed : ℕ
  pub was : WasFlushed a own v w flushed
  pub is : IsReceipt own flushed w r

-- What a call of a session came to: its answer, and the receipt of its end, where it ended a transaction.
pub record IsEndOf (own : ℕ) (v w : View) (a : Result Answer Unanswered) (receipt : Option Receipt) : Type 0 where
  pub ended : (r : Receipt) → receipt ≡ Some r → IsEnding own v w a r
  pub none : receipt ≡ None → ends_in a ≡ false
  pub some : (r : Receipt) → receipt ≡ Some r → ends_in a ≡ true
  pub commit : (number at : ℕ) → a ≡ Ok (answer.Committed number at) → (r : Receipt) × (receipt ≡ Some r) × (r.txn ≡ number) × (r.gsn ≡ at)

-- the queues behind it
abbrev pub put_ends : Option Receipt → Result Answer Unanswered → List (List End) → List (List End)
put_ends None a qs = qs
put_ends (Some r) a qs = pushed r (is_commit_in a) qs

-- what may be asked next, where there is an answer
abbrev pub next_behind : Next → Result Answer Unanswered → Next
next_behind next (Ok a) = behind_answer a
next_behind next (Err why) = next

-- ## Flushed numbers

-- the numbers up to which logs 1, 2, .. are flushed, for so many
abbrev pub AreNumbers : (logs : ℕ) → (log : ℕ → Log) → List ℕ → Type 0
AreNumbers logs log numbers = (w : ℕ) → 0 < w → w ≤ logs → flushed_of numbers w ≡ (log w).flushed

-- the durable line of a receipt that was taken
abbrev pub durable_of : Option Receipt → Option Durable
durable_of None = None
durable_of (Some r) = Some (record { session = r.log; number = r.txn })
