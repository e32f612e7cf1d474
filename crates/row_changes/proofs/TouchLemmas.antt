-- What a worker has that has met the stamps of pages.
use Rattle.std.proofs.Common.{◌≡◌, ◌≤◌, ℕ, List, [], ◌∷◌, refl, arith}
use Rattle.session_state.specs.core_state.States.{State, Worker}
use Rattle.session_state.specs.core_state.Steps.{at_pages}

-- but for its clock, which does not fall, and its debt it is as it was
pub record Touched (b a : Worker) : Type 0 where
  pub is_open : a.is_open ≡ b.is_open
  pub txn : a.txn ≡ b.txn
  pub clock : b.clock ≤ a.clock
  pub floor : a.floor ≡ b.floor
  pub end : a.end ≡ b.end
  pub changes : a.changes ≡ b.changes

pub touched : (s : State) (own : ℕ) (b : Worker) (ps : List ℕ) → Touched b (at_pages s own b ps)
touched s own b [] = record { is_open = refl; txn = refl; clock = omega arith; floor = refl; end = refl; changes = refl }
touched s own b (p ∷ ps) = let t = touched s own b ps in record { is_open = t.is_open; txn = t.txn; clock = let q = t.clock in omega arith; floor = t.floor; end = t.end; changes = t.changes }
