-- Logs in memory, and the core's records.
use Rattle.std.specs.Prelude.{ℕ, suc, ◌==◌, ◌&&◌, List, [], ◌∷◌, ◌++◌, map, slice_index_or, slice_set, Vec, if◌then◌else◌}
use Rattle.std.specs.declared.alloc.Global.{Global}
use Rattle.core_commit.specs.image_model.Entries.{Entry, is_record}
use Rattle.mem_journal.specs.declared.log.Record.{Record}

-- each log's records, the oldest first
abbrev pub records_of : List (Vec Record Global) → List (List Record)
records_of logs = map (λ v. v.items) logs

-- the record comes into log w
abbrev pub with_record : List (List Record) → ℕ → Record → List (List Record)
with_record logs w r = slice_set logs w (slice_index_or logs w [] ++ r ∷ [])

-- how many records of log w are entered
abbrev pub count_of : List Entry → ℕ → ℕ
count_of [] w = 0
count_of (r ∷ rs) w = if is_record r.kind && (r.log == w) then suc (count_of rs w) else count_of rs w
