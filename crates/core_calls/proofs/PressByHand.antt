-- A put that finds no frame, computed.
use Rattle.std.proofs.Common.{◌<◌, ◌^◌, ◌-◌, ℕ, zero, suc, true, [], ◌∷◌, ◌++◌, refl, inl, inr, arith}
use Rattle.std.proofs.lemmas.Bool.{ltb-true}
use Rattle.page_model.specs.Nodes.{Format, Node, free}
use Rattle.page_model.specs.Tree.{IsTree}
use Rattle.page_model.proofs.Check as page_check
use Rattle.core_crash.specs.core_state.Openings.{Opening}
use Rattle.core_crash.specs.core_state.Events.{Event, Mode}
use Rattle.core_crash.specs.core_state.States.{State}
use Rattle.core_crash.specs.core_state.Steps.{run, state_after}
use Rattle.core_calls.specs.LogEvents.{IsTaken, IsTight}
use Rattle.core_calls.specs.Presses.{EveryPress, IsLoose, WorkedPress, crowded}

abbrev format : Format
format = record { pages = 4; room = 2; levels = 7; dead = 2 ^ 63; top = 2 ^ 64 - 1; some = omega arith; wide = omega arith }

-- one empty leaf, the rest free
abbrev node : ℕ → Node
node zero = record { live = true; level = 0; low = 0; high = 2 ^ 64 - 1; pairs = [] }
node (suc p) = free

tree : IsTree format node
tree = (page_check.every_check format node).sound (omega arith) refl

abbrev opening : Opening
opening = record {
  faithful = true;
  workers = 2;
  frames = 4;
  row_of = λ k. k;
  changes = 64;
  joined = 2;
  base = 0;
  format = format;
  gsn = λ _. 0;
  last = λ _. 0;
  node = node;
  some_worker = omega arith;
  some_frame = omega arith;
  fit = omega arith;
  keys = omega arith;
  values = omega arith;
  low = λ p. omega arith;
  tree = tree;
}

abbrev three : Opening
three = record opening { frames = 3; some_frame = omega arith }

abbrev here : State
here = run three (state_after three crowded) (Event.Lock 1 4 Mode.Alone ∷ [])

taken : (f : ℕ) → f < 3 → IsTaken three here 4 f
taken zero l = record { page = 0; here = refl; stays = inl refl }
taken (suc zero) l = record { page = 1; here = refl; stays = inr (ltb-true _ _ refl) }
taken (suc (suc zero)) l = record { page = 2; here = refl; stays = inl refl }
taken (suc (suc (suc f))) l = absurd (omega arith)

tight : IsTight three here 4
tight = record { page = 3; below = omega arith; needed = inr refl; cold = refl; taken = taken }

pub worked : EveryPress → WorkedPress
worked every = record {
  three = three;
  frames_three = refl;
  crowded_met = (refl, (refl, (refl, (refl, (refl, (refl, (refl, (refl, (refl, (refl, (refl, tt)))))))))));
  pressed_met = (refl, (refl, (refl, (refl, (refl, (refl, (refl, (refl, tt))))))));
  pressed_where = (tight, tt);
  four = opening;
  frames_four = refl;
  early = ((refl, (refl, (refl, (refl, (refl, (refl, (refl, (refl, tt)))))))), λ w. (every opening (crowded ++ Event.Lock 1 4 Mode.Alone ∷ []) 4).loose 3 (omega arith) (IsLoose.Empty refl) w.0.taken);
  unsaved = refl;
}
