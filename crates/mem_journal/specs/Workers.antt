-- Workers in memory, and the core's.
use Rattle.std.specs.Prelude.{◌≡◌, ◌<◌, ◌==◌, ◌&&◌, ℕ, true, List, if◌then◌else◌, [], ◌∷◌, ◌++◌}
use Rattle.map_model.specs.Lists.{any}
use Rattle.core_commit.specs.image_model.Entries.{Entry, is_record, is_commit}
use Rattle.core_commit.specs.core_state.States as core
use Rattle.transactions.specs.declared.hindrance.Receipt.{Receipt}
use Rattle.mem_journal.specs.declared.worker.Worker.{Worker}

-- no worker
abbrev pub no_worker : Worker
no_worker = record { clock = record { clock = 0; floor = 0; debt = 0 }; txn = 0; end = 0; flushed = 0 }

-- a worker at the start
abbrev pub new_worker : (base : ℕ) → Worker
new_worker base = record { clock = record { clock = base; floor = base; debt = 0 }; txn = 0; end = base; flushed = base }

-- log w has a record of this number
abbrev pub HasRecord : List Entry → (w n : ℕ) → Type 0
HasRecord entries w n = any (λ r. is_record r.kind && ((r.log == w) && (r.number == n))) entries ≡ true

-- it is the core's worker, but for what its transaction is
pub record IsLike (a : core.Worker) (b : Worker) : Type 0 where
  pub clock : a.clock ≡ b.clock.clock
  pub floor : a.floor ≡ b.clock.floor
  pub debt : a.debt ≡ b.clock.debt
  pub txn : a.txn ≡ b.txn
  pub end : a.end ≡ b.end

-- and knows how far its log is flushed; its last end stands in its log, where it is not flushed
pub record IsWorker (s : core.State) (w : ℕ) (b : Worker) : Type 0 where
  pub like : IsLike (s.worker w) b
  pub flushed : s.flushed w ≡ b.flushed
  pub ended : b.flushed < b.end → HasRecord s.entries w b.end

-- what an end says
abbrev pub receipt_of : Entry → Receipt
receipt_of r = record { txn = r.txn; log = r.log; gsn = r.number; need = r.need }

-- the committed transactions, the first one first
abbrev pub committed : List Entry → List Receipt
committed [] = []
committed (r ∷ rs) = if is_commit r.kind then committed rs ++ receipt_of r ∷ [] else committed rs
