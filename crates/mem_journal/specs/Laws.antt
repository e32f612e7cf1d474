-- What a place in memory has is the core's.
use Rattle.std.specs.Prelude.{◌≡◌, ℕ, Bool, true, false, cond, ltb, List, length, refl}
use Rattle.std.proofs.Common.{sym}
use Rattle.std.proofs.lemmas.Bool.{ltb-true, ltb-false}
use Rattle.core_commit.specs.core_state.Openings.{Opening}
use Rattle.core_commit.specs.core_state.Events.{Event}
use Rattle.core_commit.specs.core_state.Steps.{state_after}
use Rattle.mem_journal.specs.declared.place.MemJournal.{MemJournal}
use Rattle.mem_journal.specs.Views.{view_of, clock_at, worker_at}
use Rattle.mem_journal.specs.Places.{Stands}

-- each clock is the core's
pub clock_law : (g : Opening) (es : List Event) (latched : List ℕ) (a : MemJournal) (w : ℕ) → true ≡ true → Stands g es latched a → clock_at (view_of a) w ≡ ((state_after g es).worker w).clock
clock_law g es latched a w h p = go (ltb w (length (view_of a).workers)) refl
  where
    go : (b : Bool) → ltb w (length (view_of a).workers) ≡ b → cond b (worker_at (view_of a) w).clock.clock (view_of a).base ≡ ((state_after g es).worker w).clock
    go true e = sym (p.worker w (ltb-true w (length (view_of a).workers) e)).like.clock
    go false e = sym (p.other w (ltb-false w (length (view_of a).workers) e))
