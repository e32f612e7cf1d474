use Rattle.std.proofs.Common.{◌≡◌, ◌≤◌, ℕ, Bool, ◌&&◌, not}
use Rattle.core_state.specs.Lists.{count_below}
use Rattle.core_state.specs.States as states
use Rattle.plain_core.specs.States.{state_of}
use Rattle.plain_core.proofs.state.Core.free_pages.Given as goal

-- how many pass so far
pub record IsCount (test : ℕ → Bool) (page so_far : ℕ) : Type 0 where
  pub within : so_far ≤ page
  pub count : so_far ≡ count_below page test

abbrev pub invariant-loop-page : goal.invariant-loop-page
invariant-loop-page l = IsCount (λ p. not ((state_of l.self).page p).node.live && not (states.is_hot ((state_of l.self).place p))) l.page l.free
