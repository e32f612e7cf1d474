-- What a purge answers, from the answers of its parts.
use Rattle.std.proofs.Common.{◌≡◌, ◌≢◌, ◌==◌, cond, ◌<◌, ◌≤◌, ◌++◌, ℕ, Bool, true, false, List, [], ◌∷◌, length, refl, sym, ap, subst, ◌∙◌, eq-eqb, arith, true≢false}
use Rattle.btree_descent.specs.core_state.States.{flushed_by_all}
use Rattle.btree_descent.specs.row_words.declared.event.Event.TheVariants.{Purge}
use Rattle.btree_descent.specs.row_words.declared.given.Given.{Given}
use Rattle.btree_descent.specs.row_words.Moments.{Moment}
use Rattle.btree_descent.specs.row_words.Openings.{opening}
use Rattle.btree_descent.specs.row_words.Sealed.{begun, run}
use Rattle.btree_descent.proofs.row_words.SealedLemmas.{run_append}
use Rattle.btree_descent.proofs.row_words.Stays.{cases}
use Rattle.btree_descent.specs.rows_trait.declared.view.View.{View}
use Rattle.btree_descent.specs.rows_trait.Views.{Shape, after_all, state}
use Rattle.btree_descent.specs.rows_trait.Turns.{Ran, Stepped}
use Rattle.btree_descent.proofs.rows_trait.Runs.{ran_append}
use Rattle.btree_descent.proofs.lean_proto.Growing.{flushed_on}
use Rattle.disk_image.specs.log_record.declared.record.Record.{Record}
use Rattle.btree_descent.specs.draw_trait.Clocks.{Clock}
use Rattle.btree_smo.specs.declared.outcome.Outcome.{Outcome}
use Rattle.btree_smo.specs.declared.outcome.Outcome.TheVariants as outcome
use Rattle.btree_smo.specs.declared.purge.Purged.{Purged}
use Rattle.btree_smo.specs.declared.purge.Purged.TheVariants as purged
use Rattle.held_rows.specs.Latching.{Refused}
use Rattle.btree_smo.specs.Inside.{IsMissed}
use Rattle.btree_smo.specs.Purges.{Clears, Declined, IsFloor, Gave, CausedOf}
use Rattle.btree_smo.proofs.Answering.{onward_after, so_after}
use Rattle.btree_smo.proofs.Causes.{caused_before}

-- ## What is known behind a call that appended nothing

-- the moment to which a view leads
moment_ran : {alone : Bool} {v u : View} (r : Ran alone v [] u) → state u ≡ run v.given (state v) r.more
moment_ran {alone} {v} {u} r = (λ i. after_all (r.given i) (r.seen i)) ∙ run_append v.given (begun v.given) v.seen r.more

same_ran : {alone : Bool} {v u : View} (r : Ran alone v [] u) → alone ≡ true → state u ≡ state v
same_ran {alone} {v} {u} r y = (λ i. after_all (r.given i) (r.seen i)) ∙ ((λ i. after_all v.given (v.seen ++ r.all y i)) ∙ ap (after_all v.given) (Rattle.std.proofs.Common.append-nil v.seen))

pub floor_after : {z : Shape} {v u : View} {f : ℕ} → Ran z.alone v [] u → IsFloor z v f → IsFloor z u f
floor_after {z} {v} {u} {f} r i = record {
  low = λ q some among. let a = i.low q some (subst (λ (g : Given). q ≤ (opening g).workers) r.given among) in let b = risen q in omega arith;
  exact = λ y. i.exact y ∙ sym (λ j. flushed_by_all (opening (r.given j)) (same_ran r y j).core);
}
  where
    risen : (q : ℕ) → (state v).core.flushed q ≤ (state u).core.flushed q
    risen q = cases z.alone
        (λ y. subst (λ (m : Moment). (state v).core.flushed q ≤ m.core.flushed q) (sym (same_ran r y)) (omega arith))
        (λ n. subst (λ (m : Moment). (state v).core.flushed q ≤ m.core.flushed q) (sym (moment_ran r)) (flushed_on v.given r.more (state v) (r.part n) q))

gave_after : {alone : Bool} {v u w : View} → Ran alone v [] u → Gave alone u w → Gave alone v w
gave_after {alone} {v} {u} {w} r m = record { events = m.events; ran = ran_append alone v [] u m.events w r m.ran; misses = m.misses; few = m.few }

declined_after : {alone : Bool} {v u : View} (worker frame : ℕ) (w : View) (rs now : List Record) (c : Clock) (why : Outcome) → Ran alone v [] u → Declined alone worker frame u rs why w c now → Declined alone worker frame v rs why w c now
unfolding so_after
declined_after worker frame w rs now c outcome.Done r d = absurd d
declined_after worker frame w rs now c (outcome.Full row) r d = absurd d
declined_after worker frame w rs now c outcome.TooTall r d = absurd d
declined_after worker frame w rs now c (outcome.Stale row) r d = (gave_after r d.0, so_after r d.1)
declined_after worker frame w rs now c (outcome.Moved x) r d = gave_after r d
declined_after worker frame w rs now c (outcome.Latched x) r d = gave_after r d
declined_after worker frame w rs now c (outcome.RowSpent row) r d = gave_after r d
declined_after worker frame w rs now c outcome.ClockSpent r d = (gave_after r d.0, so_after r d.1)
declined_after worker frame w rs now c (outcome.Unstaged x) r d = record { page = d.page; keys = d.keys; missed = gave_after r d.missed; met = so_after r d.met; staged = d.staged; clock = d.clock; hot = d.hot }

pub clears_after : {alone : Bool} {v u : View} (worker frame most : ℕ) (w : View) (rs now : List Record) (c : Clock) (did : Purged) → Ran alone v [] u → Clears alone worker frame most u rs did w c now → Clears alone worker frame most v rs did w c now
unfolding so_after
clears_after {alone} {v} {u} worker frame most w rs now c purged.Done r d = record {
  page = d.page;
  keys = d.keys;
  past = d.past;
  onward = onward_after r d.onward;
  misses = d.misses;
  ran = ran_append alone v [] u (Purge worker d.page d.keys ∷ d.misses) w r d.ran;
  only = d.only;
  later = d.later;
  seen = d.seen;
  met = d.met;
  staged = d.staged;
  clock = d.clock;
  hot = d.hot;
  some = d.some;
  left = d.left;
  all = d.all;
}
clears_after worker frame most w rs now c (purged.Spared left) r d = (gave_after r d.0, so_after r d.1)
clears_after worker frame most w rs now c (purged.Refused why) r d = declined_after worker frame w rs now c why r d

-- ## The leaf's row was not to be had

more : {alone : Bool} {v w : View} → Refused alone v w → Gave alone v w
more r = record { events = r.missed.events; ran = r.missed.ran; misses = r.missed.misses; few = (let l = r.missed.few in omega arith) }

pub missed_declined : {alone : Bool} {v w : View} (worker frame : ℕ) (rs now : List Record) (c : Clock) (why : Outcome) → IsMissed why → Refused alone v w → Declined alone worker frame v rs why w c now
missed_declined worker frame rs now c outcome.Done h r = absurd h
missed_declined worker frame rs now c (outcome.Full row) h r = absurd h
missed_declined worker frame rs now c outcome.TooTall h r = absurd h
missed_declined worker frame rs now c (outcome.Stale row) h r = absurd h
missed_declined worker frame rs now c (outcome.Moved x) h r = more r
missed_declined worker frame rs now c (outcome.Latched x) h r = more r
missed_declined worker frame rs now c (outcome.RowSpent row) h r = more r
missed_declined worker frame rs now c outcome.ClockSpent h r = absurd h
missed_declined worker frame rs now c (outcome.Unstaged x) h r = absurd h

pub caused_of : {v u : View} (w : View) (did : Purged) → Stepped v u → CausedOf u did w → CausedOf v did w
caused_of w purged.Done o c = tt
caused_of w (purged.Spared left) o c = tt
caused_of w (purged.Refused why) o c = caused_before w why o c
