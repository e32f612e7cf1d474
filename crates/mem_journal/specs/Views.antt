-- What a place in memory has, and what each call makes of it.
use Rattle.std.specs.Prelude.{◌<◌, ℕ, suc, Bool, List, [], ◌∷◌, ◌++◌, length, ltb, min, slice_index_or, slice_set, replicate, false, None, if◌then◌else◌}
use Rattle.page_model.specs.Pairs.{Pair, find, put}
use Rattle.rfa_model.specs.Stamps.{need_of}
use Rattle.flush_avoidance.specs.Clocks as clocks
use Rattle.mem_journal.specs.Entries.{pairs_of}
use Rattle.transactions.specs.declared.hindrance.Mode.{Mode}
use Rattle.transactions.specs.declared.hindrance.Receipt.{Receipt}
use Rattle.mem_journal.specs.declared.row.Row.{Row}
use Rattle.mem_journal.specs.declared.worker.Worker.{Worker}
use Rattle.mem_journal.specs.declared.log.Record.{Record}
use Rattle.mem_journal.specs.declared.log.What.TheVariants.{Wrote, Ended}
use Rattle.mem_journal.specs.declared.place.MemJournal.{MemJournal}
use Rattle.mem_journal.specs.Rows.{row_locked, row_unlocked}
use Rattle.mem_journal.specs.Workers.{no_worker}
use Rattle.mem_journal.specs.Logs.{records_of, with_record}

-- the leaf's pairs and its stamp, where keys end, how many pairs there may be, lock rows, workers, the records of their logs, where all numbers began, and committed transactions
pub record View : Type 0 where
  pub pairs : List Pair
  pub number : ℕ
  pub log : ℕ
  pub keys : ℕ
  pub places : ℕ
  pub rows : List Row
  pub workers : List Worker
  pub logs : List (List Record)
  pub base : ℕ
  pub journal : List Receipt

abbrev pub view_of : MemJournal → View
view_of a = record { pairs = pairs_of a.entries.items; number = a.number; log = a.log; keys = a.keys; places = a.places; rows = a.rows.items; workers = a.workers.items; logs = records_of a.logs.items; base = a.base; journal = a.journal.items }

abbrev pub no_row : Row
no_row = record { holder = None; readers = replicate 17 false; number = 0; log = 0; read_end = 0 }

abbrev pub worker_at : View → ℕ → Worker
worker_at v w = slice_index_or v.workers w no_worker

abbrev pub row_at : View → ℕ → Row
row_at v i = slice_index_or v.rows i no_row

abbrev pub log_at : View → ℕ → List Record
log_at v w = slice_index_or v.logs w []

-- how many records stand in w's log, up to the greatest number of 32 bits
abbrev pub used_of : View → ℕ → ℕ
used_of v w = min (length (log_at v w)) 4294967295

-- w's clock; nobody else's moves
abbrev pub clock_at : View → ℕ → ℕ
clock_at v w = if ltb w (length v.workers) then (worker_at v w).clock.clock else v.base

-- w is one of its workers
abbrev pub IsSession : View → ℕ → Type 0
IsSession v w = (0 < w) × (w < length v.workers) × (w < 17) × (w < length v.logs)

abbrev pub with_worker : View → ℕ → Worker → View
with_worker v w b = record v { workers = slice_set v.workers w b }

-- w's transaction begins, where all logs are found flushed up to f
abbrev pub after_begin : View → (w f : ℕ) → View
after_begin v w f = let b = worker_at v w in with_worker v w (record b { clock = clocks.after_begin b.clock f; txn = suc b.txn })

-- w takes the row
abbrev pub after_lock : View → (w i : ℕ) → Mode → View
after_lock v w i mode = let b = worker_at v w in let r = row_at v i in
    record (with_worker v w (record b { clock = clocks.after_raise (clocks.after_touch w b.clock r.number r.log) r.read_end })) { rows = slice_set v.rows i (row_locked r w mode) }

-- w looks at the leaf
abbrev pub after_read : View → (w : ℕ) → View
after_read v w = let b = worker_at v w in with_worker v w (record b { clock = clocks.after_touch w b.clock v.number v.log })

-- and writes there, which its log says
abbrev pub after_write : View → (w k x : ℕ) → View
after_write v w k x = let b = worker_at v w in let c = clocks.after_next (clocks.after_touch w b.clock v.number v.log) in
    record (with_worker v w (record b { clock = c })) { logs = with_record v.logs w (record { number = c.clock; what = Wrote k (find k v.pairs) x }); pairs = put k x v.pairs; number = c.clock; log = w }

-- what the end of w's transaction says
abbrev pub receipt_at : View → (w f : ℕ) → Receipt
receipt_at v w f = let b = worker_at v w in record { txn = b.txn; log = w; gsn = suc b.clock.clock; need = need_of b.clock.debt f }

-- w's transaction ends, which its log says
abbrev pub after_end : View → ℕ → Bool → ℕ → View
after_end v w commit f = let b = worker_at v w in let c = clocks.after_next b.clock in
    record (with_worker v w (record b { clock = c; end = c.clock })) { logs = with_record v.logs w (record { number = c.clock; what = Ended commit }); journal = if commit then v.journal ++ receipt_at v w f ∷ [] else v.journal }

-- w gives up the row
abbrev pub after_unlock : View → (w i : ℕ) → View
after_unlock v w i = record v { rows = slice_set v.rows i (row_unlocked (row_at v i) w (worker_at v w).end) }

-- w's log is flushed up to its last end
abbrev pub after_flush : View → (w : ℕ) → View
after_flush v w = let b = worker_at v w in with_worker v w (record b { flushed = b.end })
