-- A clock is the model's worker.
use Rattle.std.specs.Prelude.{◌≡◌, ℕ, Bool, true, false}
use Rattle.rfa_model.specs.Runs.{Worker, Start, start, touched, begun, ended}
use Rattle.flush_avoidance.specs.declared.Clock.{Clock}
use Rattle.flush_avoidance.specs.Clocks.{new_clock, after_touch, after_begin, after_next}

-- the worker of this clock
abbrev pub worker_of : Clock → Bool → Worker
worker_of c is_open = record { clock = c.clock; floor = c.floor; debt = c.debt; is_open = is_open }

-- It starts as the model's does, and goes as it does over touches, begins and ends.
pub record ClockLaws (c : Clock) : Type 0 where
  pub started : (g : Start) (own : ℕ) → worker_of (new_clock g.base) false ≡ (start g).worker own
  pub touched_is : (own number log : ℕ) (is_open : Bool) → worker_of (after_touch own c number log) is_open ≡ touched own (worker_of c is_open) number log
  pub begun_is : (f : ℕ) → worker_of (after_begin c f) true ≡ begun (worker_of c false) f
  pub ended_is : worker_of (after_next c) false ≡ ended (worker_of c true)

abbrev pub EveryClock : Type 0
EveryClock = (c : Clock) → ClockLaws c
