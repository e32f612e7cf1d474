-- Why a call refused: what only loads have found was loaded, and nothing was stored to the latch in between.
use Rattle.std.proofs.Common.{◌≡◌, ◌%◌, ◌∙◌, ◌++◌, inl, inr, ℕ, List, [], ◌∷◌, append_assoc, sym, ap}
use Rattle.btree_descent.specs.rows_trait.declared.view.Act.{Act}
use Rattle.btree_descent.specs.rows_trait.declared.view.Act.TheVariants.{Look, Load, Store, Set, Hear, Turn}
use Rattle.btree_descent.specs.rows_trait.declared.view.View.{View}
use Rattle.btree_descent.specs.rows_trait.Causes.{AreLoads, HasFound, HasMoved, IsLatched}
use Rattle.btree_descent.specs.rows_trait.Turns.{Stepped}
use Rattle.btree_descent.proofs.rows_trait.Causes.{finds_newer}
use Rattle.page_provider.specs.declared.refusal.Refusal.{Refusal}
use Rattle.page_provider.specs.declared.refusal.Refusal.TheVariants as refusal
use Rattle.page_provider.specs.Refusals.{Caused, HasLoaded, HasLoadedTwo, IsOthers, NoSet, SpentAt}

pub loads_unset : (row : ℕ) (acts : List Act) → AreLoads acts → NoSet row acts
loads_unset row [] l = tt
loads_unset row (Look q n at ∷ ss) l = loads_unset row ss l
loads_unset row (Load q i n ∷ ss) l = loads_unset row ss l
loads_unset row (Store q i n ∷ ss) l = absurd l
loads_unset row (Set q n ∷ ss) l = absurd l
loads_unset row (Hear c j n ∷ ss) l = loads_unset row ss l
loads_unset row (Turn c j n ∷ ss) l = absurd l

pub found_loaded : {row n : ℕ} {v u : View} → HasFound row n v u → HasLoaded row n v u
found_loaded h = record { acts = h.loads.acts; steps = h.loads.steps; finds = h.finds }

pub moved_loaded : {row seen found : ℕ} {v u : View} → HasMoved row seen found v u → HasLoadedTwo row seen found v u
moved_loaded {row} h = record { unequal = h.unequal; early = []; acts = h.loads.acts; steps = h.loads.steps; first = h.first; last = h.last; unset = loads_unset row h.loads.acts h.loads.loads }

pub latched_loaded : {row word : ℕ} {v u : View} → IsLatched row word v u → (word % 2 ≡ 1) × HasLoaded row word v u
latched_loaded h = (h.odd, found_loaded h.found)

loaded_before : {row n : ℕ} {v u w : View} → Stepped v u → HasLoaded row n u w → HasLoaded row n v w
loaded_before {row} {n} {v} o h = record { acts = h.acts ++ o.acts; steps = h.steps ∙ (ap (λ ss. h.acts ++ ss) o.steps ∙ sym (append_assoc h.acts o.acts v.steps)); finds = finds_newer row n h.acts o.acts h.finds }

-- what was loaded since a later view was since an earlier one
pub caused_before : {v u : View} (w : View) (why : Refusal) → Stepped v u → Caused u why w → Caused v why w
caused_before {v} w (refusal.Moved m) o h = record {
  unequal = h.unequal;
  early = h.early ++ o.acts;
  acts = h.acts;
  steps = h.steps ∙ ap (λ ss. h.acts ++ ss) (ap (λ ss. h.early ++ ss) o.steps ∙ sym (append_assoc h.early o.acts v.steps));
  first = h.first;
  last = h.last;
  unset = h.unset;
}
caused_before w (refusal.Latched x) o h = (h.0, loaded_before o h.1)
caused_before w (refusal.RowSpent row) o (inl h) = inl (h.0, (h.1.0, h.1.1, loaded_before o h.1.2))
caused_before w (refusal.RowSpent row) o (inr h) = inr h
caused_before w _ o h = tt

-- and so it is of a row that was spent
pub spent_before : {v u : View} {a b : ℕ} (w : View) (why : Refusal) → a ≡ b → Stepped v u → SpentAt a u why w → SpentAt b v why w
spent_before w (refusal.RowSpent row) e o h = (h.0 ∙ e, (h.1.0, (h.1.1.0, h.1.1.1, loaded_before o h.1.1.2)))
spent_before w (refusal.Moved m) e o h = tt
spent_before w (refusal.Latched x) e o h = tt
spent_before w _ e o h = tt

-- no row was spent
pub spent_others : (row : ℕ) (v u : View) (why : Refusal) → IsOthers why → SpentAt row v why u
spent_others row v u (refusal.Moved m) o = tt
spent_others row v u (refusal.Latched l) o = tt
spent_others row v u _ o = absurd o
