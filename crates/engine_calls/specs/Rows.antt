-- A begin, a put and its commit or its abort by hand, on one empty leaf: what a body shows of each can be shown.
use Rattle.std.specs.Prelude.{◌≡◌, ◌^◌, Bool, true, false, List, [], ◌∷◌, None}
use Rattle.map_model.specs.declared.call.Call.TheVariants as call
use Rattle.run_crashes.specs.core_state.Openings.{Opening}
use Rattle.run_crashes.specs.core_state.Events.{Event, Mode}
use Rattle.run_crashes.specs.log_record.declared.record.Body.TheVariants as body
use Rattle.run_crashes.specs.log_record.declared.record.Record.{Record}
use Rattle.run_crashes.specs.core_calls.Deeds.{Changed}
use Rattle.run_crashes.specs.core_calls.Fronts.{Done}
use Rattle.run_crashes.specs.core_calls.Refusals.{Limits}
use Rattle.engine_calls.specs.Aborts.{IsAbort}
use Rattle.engine_calls.specs.Begins.{IsBegin, begun_by}
use Rattle.engine_calls.specs.Commits.{IsCommit, committed_by}
use Rattle.engine_calls.specs.Halves.{IsHalved, halved_by}
use Rattle.engine_calls.specs.Puts.{IsWrite, changed_by, taking}

-- session 1 begins its first transaction
abbrev pub begun : Done
begun = begun_by [] 1 1 0

-- puts 7 at key 5 in page 0
abbrev pub put : Opening → Done
put g = changed_by (Changed 5 7 None) (taking g 1 5 Mode.Alone [] []) 1 0 5 7

-- the record of that: number 1, on a page without a change, where there was no word
abbrev pub put_record : Record
put_record = record { txn = 1; gsn = 1; body = body.Change (record { page = 0; prev = 0 }) 5 (2 ^ 63) 7 }

-- and commits, with a flush or without
abbrev pub committed : Bool → Done
committed due = committed_by [] 1 1 2 0 (5 ∷ []) due

-- the record of the end: number 2, which needs no other log
abbrev pub end_record : Record
end_record = record { txn = 1; gsn = 2; body = body.Commit 0 }

-- its change is put back in page 0
abbrev pub backs : List Event
backs = Event.Put_back 1 0 ∷ []

-- the record of an abort behind that: number 3
abbrev pub abort_record : Record
abort_record = record { txn = 1; gsn = 3; body = body.Abort 0 }

-- an abort is refused behind it
abbrev pub halved : Opening → Done
halved g = halved_by g (put g ∷ begun ∷ []) 1 call.Abort backs

-- In an opening with two workers, one empty leaf and a lock row for each key.
pub record Rows : Type 0 where
  pub opening : Opening
  pub limits : Limits
  pub begin_shown : IsBegin limits opening [] [] 1 1 0
  pub put_events : (put opening).events ≡ Event.Lock 1 5 Mode.Alone ∷ Event.Change 1 0 5 7 ∷ []
  pub put_shown : IsWrite opening (begun ∷ []) (call.Put 5 7) [] [] 1 0 5 7 None put_record
  -- in groups of one there is a flush, in groups of two there is none
  pub flush_events : (committed true).events ≡ Event.End 1 true 0 ∷ Event.Unlock 1 5 ∷ Event.Flush 1 2 ∷ []
  pub flush_shown : IsCommit opening 1 (put opening ∷ begun ∷ []) [] 1 1 2 0 (5 ∷ []) true end_record
  pub no_flush_events : (committed false).events ≡ Event.End 1 true 0 ∷ Event.Unlock 1 5 ∷ []
  pub no_flush_shown : IsCommit opening 2 (put opening ∷ begun ∷ []) [] 1 1 2 0 (5 ∷ []) false end_record
  -- an abort puts the change back and ends the transaction
  pub abort_shown : IsAbort opening (put opening ∷ begun ∷ []) call.Abort backs 1 1 3 0 (5 ∷ []) abort_record
  -- where latches end soon it may be refused behind that, and the next one goes on
  pub soon : Limits
  pub halved_shown : IsHalved soon opening (put opening ∷ begun ∷ []) 1 call.Abort backs
  pub next_shown : IsAbort opening (halved opening ∷ put opening ∷ begun ∷ []) call.Abort [] 1 1 3 0 (5 ∷ []) abort_record
