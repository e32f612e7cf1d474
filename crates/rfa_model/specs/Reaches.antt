-- The least flushed number over all logs, and the reach of an image. Logs are 1 to some number.
use Rattle.std.specs.Prelude.{◌≡◌, ◌<◌, ◌≤◌, ℕ, zero, suc, min, max}

-- the least of f 1 .. f n, and f 1 where n is 0
abbrev pub least : (ℕ → ℕ) → ℕ → ℕ
least f zero = f 1
least f (suc n) = min (f (suc n)) (least f n)

-- the least, over the logs, of the greater of the master's floor and the log's greatest number
abbrev pub reach_of : (logs floor : ℕ) → (greatest : ℕ → ℕ) → ℕ
reach_of logs floor greatest = least (λ w. max floor (greatest w)) logs

pub record ReachLaws (logs : ℕ) : Type 0 where
  -- the least is at most each, and is one of them
  pub low : (f : ℕ → ℕ) (w : ℕ) → 0 < w → w ≤ logs → least f logs ≤ f w
  pub met : (f : ℕ → ℕ) → (w : ℕ) × (0 < w) × (w ≤ logs) × (least f logs ≡ f w)
  -- a number that is up to the floor or to each log's greatest is reached, and no other
  pub reached : (floor n : ℕ) (greatest : ℕ → ℕ) → ((w : ℕ) → 0 < w → w ≤ logs → n ≤ max floor (greatest w)) → n ≤ reach_of logs floor greatest
  pub within : (floor w : ℕ) (greatest : ℕ → ℕ) → 0 < w → w ≤ logs → floor < reach_of logs floor greatest → reach_of logs floor greatest ≤ greatest w
  pub floored : (floor : ℕ) (greatest : ℕ → ℕ) → floor ≤ reach_of logs floor greatest

abbrev pub EveryReach : Type 0
EveryReach = (logs : ℕ) → 0 < logs → ReachLaws logs
