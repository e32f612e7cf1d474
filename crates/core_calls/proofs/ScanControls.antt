-- Walks that take other rows than a scan are refused.
use Rattle.std.proofs.Common.{◌≡◌, ℕ, Bool, true, false, cond, List, [], ◌∷◌, length, refl, sym, ap, ◌∙◌, arith}
use Rattle.core_crash.specs.core_state.Openings.{Opening}
use Rattle.core_crash.specs.core_state.States.{State}
use Rattle.core_crash.specs.core_state.Events.{Event, Mode}
use Rattle.core_crash.specs.core_state.Needs.{may}
use Rattle.core_crash.specs.core_state.Steps.{happens, step}
use Rattle.core_calls.specs.Controls.{EveryScanControl}
use Rattle.core_calls.specs.Scans.{rows_met}

-- a lock leaves what is met
same_met : (g : Opening) (s : State) (w i : ℕ) (mode : Mode) (p k : ℕ) → rows_met g (step g s (Event.Lock w i mode)) p k ≡ rows_met g s p k
same_met g s w i mode p k = go (may g s (Event.Lock w i mode))
  where
    go : (b : Bool) → rows_met g (cond b (happens g s (Event.Lock w i mode)) s) p k ≡ rows_met g s p k
    go true = refl
    go false = refl

one_two : (i j x : ℕ) → i ∷ [] ≡ x ∷ j ∷ [] → ⊥
one_two i j x e = let n : 1 ≡ 2 = ap (λ (xs : List ℕ). length xs) e in absurd (omega (arith, n))

some_none : (i : ℕ) (xs : List ℕ) → i ∷ xs ≡ [] → ⊥
some_none i xs e = absurd (cc)

pub every_scan_control : EveryScanControl
every_scan_control g s w p at = record {
  passed_over = λ to i j k v is. ((refl, (refl, refl, refl)), λ t. one_two j j i (t.0 ∙ (same_met g s w j Mode.Shared p at ∙ is)));
  not_again = λ to i k v is. ((refl, refl, refl), λ t. some_none i [] (sym (t.0 ∙ is)));
  stray = λ to i high is lt. ((refl, (refl, refl, lt)), λ t. some_none i [] (t.0 ∙ (same_met g s w i Mode.Shared p at ∙ is)));
  more = λ to i high lt. ((refl, refl, (refl, lt)), λ t. some_none i [] t.1);
  far = λ to h none. (tt, λ t. some_none t.0 t.1 (sym t.2.rows ∙ none t.2.page t.2.leaf));
}
