-- What a join answers, from the answers of its parts.
use Rattle.std.proofs.Common.{ℕ, Bool, List, [], ◌∷◌, sym, subst, arith}
use Rattle.btree_descent.specs.row_words.declared.event.Event.TheVariants.{Join}
use Rattle.btree_descent.specs.row_words.declared.given.Given.{Given}
use Rattle.btree_descent.specs.rows_trait.declared.view.View.{View}
use Rattle.btree_descent.specs.rows_trait.Views.{state}
use Rattle.btree_descent.specs.rows_trait.Turns.{Ran}
use Rattle.btree_descent.proofs.rows_trait.Runs.{ran_append}
use Rattle.disk_image.specs.log_record.declared.record.Record.{Record}
use Rattle.btree_descent.specs.draw_trait.Clocks.{Clock}
use Rattle.btree_smo.specs.declared.outcome.Outcome.{Outcome}
use Rattle.btree_smo.specs.declared.outcome.Outcome.TheVariants.{Done, Full, TooTall, Stale, Moved, Latched, RowSpent, ClockSpent, Unstaged}
use Rattle.btree_smo.specs.Outcomes.{MissedUpTo, Missed}
use Rattle.btree_smo.specs.Splits.{IsSpent}
use Rattle.btree_smo.specs.Joins.{IsCrowded, IsUnfit, Merged}
use Rattle.btree_smo.specs.Inside.{IsMissed}
use Rattle.btree_smo.specs.Inside.Joining.{NotFit}
use Rattle.btree_smo.proofs.Changing.{given_up, was_so}
use Rattle.held_rows.specs.Waits.{missed_then}
use Rattle.btree_smo.proofs.Answering.{missed_few, onward_after, missed_after, so_after}

-- ## Outcomes

-- a row was not to be had
pub missed_merged : {alone : Bool} {v w : View} (worker a b d : ℕ) (rs now : List Record) (c : Clock) (why : Outcome) → IsMissed why → Missed alone v w → Merged alone worker a b d v rs why w c now
missed_merged worker a b d rs now c Done h m = absurd h
missed_merged worker a b d rs now c (Full row) h m = absurd h
missed_merged worker a b d rs now c TooTall h m = absurd h
missed_merged worker a b d rs now c (Stale row) h m = absurd h
missed_merged worker a b d rs now c (Moved x) h m = m
missed_merged worker a b d rs now c (Latched l) h m = m
missed_merged worker a b d rs now c (RowSpent row) h m = m
missed_merged worker a b d rs now c ClockSpent h m = absurd h
missed_merged worker a b d rs now c (Unstaged u) h m = absurd h

-- the two can't be joined
pub unfit_merged : {alone : Bool} {u w : View} (worker a b d : ℕ) (v : View) (rs now : List Record) (c : Clock) (why : Outcome) → NotFit alone a b d v why u → MissedUpTo 3 alone u w → Merged alone worker a b d v rs why w c now
unfit_merged worker a b d v rs now c Done n m = absurd n
unfit_merged {u = u} worker a b d v rs now c (Full row) n m = (missed_few 3 (omega arith) (given_up n.0 m), was_so n.0 m (subst (λ (g : Given). IsCrowded a b row g (state u)) (sym m.ran.given) n.1))
unfit_merged worker a b d v rs now c TooTall n m = absurd n
unfit_merged {u = u} worker a b d v rs now c (Stale row) n m = (missed_few 3 (omega arith) (given_up n.0 m), was_so n.0 m (subst (λ (g : Given). IsUnfit a b d row g (state u)) (sym m.ran.given) n.1))
unfit_merged worker a b d v rs now c (Moved x) n m = missed_few 4 (omega arith) (missed_then n.missed m)
unfit_merged worker a b d v rs now c (Latched l) n m = missed_few 4 (omega arith) (missed_then n.missed m)
unfit_merged worker a b d v rs now c (RowSpent row) n m = missed_few 4 (omega arith) (missed_then n.missed m)
unfit_merged {u = u} worker a b d v rs now c ClockSpent n m = (missed_few 3 (omega arith) (given_up n.0 m), was_so n.0 m (subst (λ (g : Given). IsSpent a b d g (state u)) (sym m.ran.given) n.1))
unfit_merged worker a b d v rs now c (Unstaged u) n m = absurd n

-- ## After the latches

pub merged_after : {alone : Bool} {v u : View} (worker a b d : ℕ) (w : View) (rs now : List Record) (c : Clock) (why : Outcome) → Ran alone v [] u → Merged alone worker a b d u rs why w c now → Merged alone worker a b d v rs why w c now
unfolding so_after
merged_after {alone} {v} {u} worker a b d w rs now c Done r x =
    let k = x.change in record {
      left = x.left;
      right = x.right;
      parent = x.parent;
      change = record { past = k.past; onward = onward_after r k.onward; ran = ran_append alone v [] u (Join worker x.left x.right x.parent ∷ []) w r k.ran; later = k.later; seen = k.seen; met = k.met; staged = k.staged; clock = k.clock };
      left_hot = x.left_hot;
      right_hot = x.right_hot;
      parent_hot = x.parent_hot;
    }
merged_after worker a b d w rs now c (Full row) r x = (missed_after r x.0, so_after r x.1)
merged_after worker a b d w rs now c TooTall r x = absurd x
merged_after worker a b d w rs now c (Stale row) r x = (missed_after r x.0, so_after r x.1)
merged_after worker a b d w rs now c (Moved y) r x = missed_after r x
merged_after worker a b d w rs now c (Latched l) r x = missed_after r x
merged_after worker a b d w rs now c (RowSpent row) r x = missed_after r x
merged_after worker a b d w rs now c ClockSpent r x = (missed_after r x.0, so_after r x.1)
merged_after worker a b d w rs now c (Unstaged y) r x = let n = x.refused in record { left = x.left; right = x.right; parent = x.parent; refused = record { missed = missed_after r n.missed; met = so_after r n.met; staged = n.staged; clock = n.clock }; left_hot = x.left_hot; right_hot = x.right_hot; parent_hot = x.parent_hot }
