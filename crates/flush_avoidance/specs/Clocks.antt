-- What each call makes of a clock.
use Rattle.std.specs.Prelude.{ℕ, suc, max}
use Rattle.rfa_model.specs.Stamps.{owed, debt_at_begin}
use Rattle.flush_avoidance.specs.declared.Clock.{Clock}

-- all numbers start at the base
abbrev pub new_clock : (base : ℕ) → Clock
new_clock base = record { clock = base; floor = base; debt = 0 }

-- the worker of log `own` meets the stamp (number, log)
abbrev pub after_touch : (own : ℕ) → Clock → (number log : ℕ) → Clock
after_touch own c number log = record c { clock = max c.clock number; debt = owed own c.floor c.debt number log }

-- a number is met for which nothing is owed
abbrev pub after_raise : Clock → (number : ℕ) → Clock
after_raise c number = record c { clock = max c.clock number }

-- a transaction begins, where all logs are found flushed up to f
abbrev pub after_begin : Clock → (f : ℕ) → Clock
after_begin c f = record c { floor = f; debt = debt_at_begin c.debt f }

-- the next number is drawn
abbrev pub after_next : Clock → Clock
after_next c = record c { clock = suc c.clock }

-- the clock with the number and the debt of another, which touches and draws alone have changed
abbrev pub risen : Clock → Clock → Clock
risen c d = record c { clock = d.clock; debt = d.debt }
