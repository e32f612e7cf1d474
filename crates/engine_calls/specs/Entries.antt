-- Which records are the entries of a change and of an end.
use Rattle.std.specs.Prelude.{◌≡◌, ℕ, suc}
use Rattle.run_crashes.specs.image_model.Entries.{Kind, word_in}
use Rattle.run_crashes.specs.core_state.Openings.{Opening}
use Rattle.run_crashes.specs.core_state.States.{State, Worker}
use Rattle.run_crashes.specs.core_state.Steps.{end_entry, write_entry}
use Rattle.rfa_model.specs.Stamps.{need_of}
use Rattle.run_crashes.specs.log_record.declared.record.Body.TheVariants as body
use Rattle.run_crashes.specs.log_record.declared.record.Record.{Record}
use Rattle.run_crashes.specs.disk_image.Records.{entry_of}

-- the record of a commit by a worker that found all logs flushed up to f
abbrev pub commit_record : Worker → (f : ℕ) → Record
commit_record a f = record { txn = a.txn; gsn = suc a.clock; body = body.Commit (need_of a.debt f) }

-- and of an abort
abbrev pub abort_record : Worker → (f : ℕ) → Record
abort_record a f = record { txn = a.txn; gsn = suc a.clock; body = body.Abort (need_of a.debt f) }

-- the record of a change in page p by a worker that has touched it
abbrev pub change_record : Opening → State → Worker → (p k v : ℕ) → Record
change_record g s a p k v = record { txn = a.txn; gsn = suc a.clock; body = body.Change (record { page = p; prev = (s.page p).gsn }) k (word_in g.format (s.page p).node k) v }

-- each is its event's entry
pub record EntryLaws (g : Opening) (s : State) (w : ℕ) (a : Worker) : Type 0 where
  pub commit : (f : ℕ) → entry_of w (commit_record a f) ≡ end_entry Kind.Commit w a f
  pub abort : (f : ℕ) → entry_of w (abort_record a f) ≡ end_entry Kind.Abort w a f
  pub change : (p k v : ℕ) → entry_of w (change_record g s a p k v) ≡ write_entry g Kind.Change s w a p k v

-- at each state, of each worker
abbrev pub EveryEntry : Type 0
EveryEntry = (g : Opening) (s : State) (w : ℕ) (a : Worker) → EntryLaws g s w a
