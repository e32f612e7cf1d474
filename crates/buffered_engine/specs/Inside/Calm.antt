-- When no end that waits can be ripe.
use Rattle.std.specs.Prelude.{◌≡◌, ◌≤◌, ◌<◌, ℕ, List, length, Option, None, Some}
use Rattle.group_commit.specs.Queues.{Takes}
use Rattle.group_commit.specs.Ripeness.{flushed_of}
use Rattle.group_commit.specs.declared.queue.End.{End}
use Rattle.group_commit.specs.declared.receipts.Receipt.{Receipt}
use Rattle.paged_scans.specs.worker_log.Logs.{Log}
use Rattle.buffered_engine.specs.Inside.Asks.{AreNumbers}

-- so many numbers, the same as these
pub record AreSame (logs : ℕ) (numbers fs : List ℕ) : Type 0 where
  pub count : length fs ≡ logs
  pub each : (w : ℕ) → 0 < w → w ≤ logs → flushed_of fs w ≡ flushed_of numbers w

-- where so many logs are flushed up to these numbers, a take finds none of the ends, and leaves them as they are
abbrev pub IsCalm : Option (List ℕ) → (logs : ℕ) → List (List End) → Type 0
IsCalm None logs ends = Unit {0}
IsCalm (Some numbers) logs ends = (fs : List ℕ) → AreSame logs numbers fs → Takes fs ends None ends

-- it is behind a call that ended nothing
abbrev pub calm_behind : Option (List ℕ) → Option Receipt → Option (List ℕ)
calm_behind calm None = calm
calm_behind calm (Some r) = None

-- so many logs are flushed as they were then
pub record AreStill (logs : ℕ) (log : ℕ → Log) (numbers : List ℕ) : Type 0 where
  pub long : logs ≤ length numbers
  pub are : AreNumbers logs log numbers

abbrev pub IsStill : Option (List ℕ) → (logs : ℕ) → (log : ℕ → Log) → Type 0
IsStill None logs log = ⊥
IsStill (Some numbers) logs log = AreStill logs log numbers
