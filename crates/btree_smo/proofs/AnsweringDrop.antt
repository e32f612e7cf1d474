-- What a drop answers, from the answers of its parts.
use Rattle.std.proofs.Common.{ℕ, Bool, List, [], ◌∷◌, sym, subst, arith}
use Rattle.btree_descent.specs.row_words.declared.event.Event.TheVariants.{Drop}
use Rattle.btree_descent.specs.row_words.declared.given.Given.{Given}
use Rattle.btree_descent.specs.rows_trait.declared.view.View.{View}
use Rattle.btree_descent.specs.rows_trait.Views.{state}
use Rattle.btree_descent.specs.rows_trait.Turns.{Ran}
use Rattle.btree_descent.proofs.rows_trait.Runs.{ran_append}
use Rattle.disk_image.specs.log_record.declared.record.Record.{Record}
use Rattle.btree_descent.specs.draw_trait.Clocks.{Clock}
use Rattle.btree_smo.specs.declared.outcome.Outcome.{Outcome}
use Rattle.btree_smo.specs.declared.outcome.Outcome.TheVariants.{Done, Full, TooTall, Stale, Moved, Latched, RowSpent, ClockSpent, Unstaged}
use Rattle.btree_smo.specs.Outcomes.{MissedUpTo, Missed}
use Rattle.btree_smo.specs.Drops.{IsUnfit, IsSpent, Lowered}
use Rattle.btree_smo.specs.Inside.{IsMissed}
use Rattle.btree_smo.specs.Inside.Dropping.{NotFit}
use Rattle.btree_smo.proofs.Changing.{given_up, was_so}
use Rattle.held_rows.specs.Waits.{missed_then}
use Rattle.btree_smo.proofs.Answering.{missed_few, onward_after, missed_after, so_after}

-- a row was not to be had
pub missed_lowered : {alone : Bool} {v w : View} (worker frame : ℕ) (rs now : List Record) (c : Clock) (why : Outcome) → IsMissed why → Missed alone v w → Lowered alone worker frame v rs why w c now
missed_lowered worker frame rs now c Done h m = absurd h
missed_lowered worker frame rs now c (Full row) h m = absurd h
missed_lowered worker frame rs now c TooTall h m = absurd h
missed_lowered worker frame rs now c (Stale row) h m = absurd h
missed_lowered worker frame rs now c (Moved x) h m = m
missed_lowered worker frame rs now c (Latched l) h m = m
missed_lowered worker frame rs now c (RowSpent row) h m = m
missed_lowered worker frame rs now c ClockSpent h m = absurd h
missed_lowered worker frame rs now c (Unstaged u) h m = absurd h

-- the level can't be dropped
pub unfit_lowered : {alone : Bool} {u w : View} (worker frame : ℕ) (v : View) (rs now : List Record) (c : Clock) (why : Outcome) → NotFit alone frame v why u → MissedUpTo 2 alone u w → Lowered alone worker frame v rs why w c now
unfit_lowered worker frame v rs now c Done n m = absurd n
unfit_lowered worker frame v rs now c (Full row) n m = absurd n
unfit_lowered worker frame v rs now c TooTall n m = absurd n
unfit_lowered {u = u} worker frame v rs now c (Stale row) n m = (missed_few 2 (omega arith) (given_up n.0 m), was_so n.0 m (subst (λ (g : Given). IsUnfit frame row g (state u)) (sym m.ran.given) n.1))
unfit_lowered worker frame v rs now c (Moved x) n m = missed_few 3 (omega arith) (missed_then n.missed m)
unfit_lowered worker frame v rs now c (Latched l) n m = missed_few 3 (omega arith) (missed_then n.missed m)
unfit_lowered worker frame v rs now c (RowSpent row) n m = missed_few 3 (omega arith) (missed_then n.missed m)
unfit_lowered {u = u} worker frame v rs now c ClockSpent n m = (missed_few 2 (omega arith) (given_up n.0 m), was_so n.0 m (subst (λ (g : Given). IsSpent frame g (state u)) (sym m.ran.given) n.1))
unfit_lowered worker frame v rs now c (Unstaged u) n m = absurd n

-- after the latches
pub lowered_after : {alone : Bool} {v u : View} (worker frame : ℕ) (w : View) (rs now : List Record) (c : Clock) (why : Outcome) → Ran alone v [] u → Lowered alone worker frame u rs why w c now → Lowered alone worker frame v rs why w c now
unfolding so_after
lowered_after {alone} {v} {u} worker frame w rs now c Done r d =
    let k = d.change in record {
      page = d.page;
      change = record { past = k.past; onward = onward_after r k.onward; ran = ran_append alone v [] u (Drop worker d.page ∷ []) w r k.ran; later = k.later; seen = k.seen; met = k.met; staged = k.staged; clock = k.clock };
      hot = d.hot;
    }
lowered_after worker frame w rs now c (Full row) r d = absurd d
lowered_after worker frame w rs now c TooTall r d = absurd d
lowered_after worker frame w rs now c (Stale row) r d = (missed_after r d.0, so_after r d.1)
lowered_after worker frame w rs now c (Moved x) r d = missed_after r d
lowered_after worker frame w rs now c (Latched l) r d = missed_after r d
lowered_after worker frame w rs now c (RowSpent row) r d = missed_after r d
lowered_after worker frame w rs now c ClockSpent r d = (missed_after r d.0, so_after r d.1)
lowered_after worker frame w rs now c (Unstaged x) r d = let n = d.refused in record { page = d.page; refused = record { missed = missed_after r n.missed; met = so_after r n.met; staged = n.staged; clock = n.clock }; hot = d.hot }
