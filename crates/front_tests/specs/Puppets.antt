-- What an engine by rote has in memory: nothing.
use Rattle.std.specs.Prelude.{ℕ, []}
use Rattle.call_parts.specs.Memory.{Memory}
use Rattle.call_parts.specs.worker_log.Logs.{Log}

abbrev pub no_log : Log
no_log = record { generation = 0; log = 0; blocks = 0; head = 0; next = 0; payload = []; count = 0; last = 0; flushed = 0; ends = [] }

abbrev pub no_memory : Memory
no_memory = record { log = λ (w : ℕ). no_log; master = record { sequence = 0; generation = 0; floor = 0; pages = 0; blocks = 0; heads = [] }; slots = [] }
