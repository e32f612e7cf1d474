-- The limits of an engine, and the loads of its opening.
use Rattle.std.specs.Prelude.{◌^◌, true, false, List, [], ◌∷◌}
use Rattle.page_model.specs.Limits.{waiting_ends}
use Rattle.disk_runs.specs.core_state.Events.{Event}
use Rattle.core_calls.specs.Refusals.{Limits}

-- Clocks end at 2^62. A latch is spent behind 2^61 events at least, fewer than 256 ends of a session wait where it begins a transaction, and no begin makes a step.
-- Whether a log is full is no part of a state of the core: `refusal_in` (Refusals) says of the log itself exactly when it is.
abbrev pub limits : Limits
limits = record { is_full = λ es w used limit. true; steps = false; clock_end = 2 ^ 62; latch_end = 2 ^ 61; waiting = waiting_ends; pairs = 64 }

-- pages are brought into frames
abbrev pub AreLoads : List Event → Type 0
AreLoads [] = Unit {0}
AreLoads (Event.Load p f ∷ es) = AreLoads es
AreLoads _ = ⊥
