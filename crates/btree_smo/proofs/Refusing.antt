-- A change answers as its rows were refused.
use Rattle.std.proofs.Common.{sym, subst}
use Rattle.std.specs.Prelude.{ℕ, List}
use Rattle.btree_descent.specs.rows_trait.declared.view.View.{View}
use Rattle.held_rows.specs.declared.latching.Refusal.{Refusal}
use Rattle.held_rows.specs.declared.latching.Refusal.TheVariants as refusal
use Rattle.held_rows.specs.Latching as held
use Rattle.btree_smo.specs.Outcomes.{Found, Caused, IsUndisturbed}
use Rattle.btree_smo.specs.Inside.{IsMissed, outcome_of}
use Rattle.btree_smo.proofs.Causes.{found_loads, moved_loads, caused_before, caused_after}

pub is_missed : (why : Refusal) → IsMissed (outcome_of why)
is_missed (refusal.Moved m) = tt
is_missed (refusal.Latched l) = tt
is_missed (refusal.RowSpent row) = tt

pub found : (row : ℕ) (v w : View) (why : Refusal) → held.Caused row v why w → Caused v (outcome_of why) w
found row v w (refusal.Moved m) e = moved_loads e.1
found row v w (refusal.Latched l) e = (e.1.odd, found_loads e.1.found)
found row v w (refusal.RowSpent r) e = (e.1.0, e.1.1, subst (λ q. Found q e.1.0 v w) (sym e.0) (found_loads e.1.2))

pub caused_at : {rows : List ℕ} {v w : View} (why : Refusal) → held.CausedAt rows v why w → Caused v (outcome_of why) w
caused_at {w = w} why k = caused_before w (outcome_of why) k.before (caused_after k.from (outcome_of why) (found k.row k.from k.to why k.caused) k.after)

pub undisturbed : (why : Refusal) → held.IsUndisturbed why → IsUndisturbed (outcome_of why)
undisturbed (refusal.Moved m) h = h
undisturbed (refusal.Latched l) h = h
undisturbed (refusal.RowSpent row) h = tt
