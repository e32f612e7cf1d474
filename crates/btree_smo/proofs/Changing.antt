-- What a change of held pages has appended and staged, whatever it is: the event was published, or its record was not staged.
use Rattle.std.proofs.Common.{◌≡◌, Bool, true, List, ℕ, [], ◌∷◌, ◌++◌, append_assoc, sym, ap, subst, ◌∙◌}
use Rattle.std.proofs.lemmas.Bool.{cond-true}
use Rattle.disk_image.specs.image_model.Entries.{Entry}
use Rattle.btree_descent.specs.core_state.States.{State}
use Rattle.btree_descent.specs.core_state.Needs as core
use Rattle.btree_descent.specs.core_state.Steps.{at_pages, happens}
use Rattle.btree_descent.specs.row_words.declared.event.Event.{Event}
use Rattle.btree_descent.specs.row_words.declared.given.Given.{Given}
use Rattle.btree_descent.specs.row_words.Moments.{Moment, event_of}
use Rattle.btree_descent.specs.row_words.Openings.{opening}
use Rattle.btree_descent.specs.row_words.Sealed.{begun, stepped}
use Rattle.btree_descent.proofs.row_words.SealedLemmas.{run_append}
use Rattle.btree_descent.specs.rows_trait.declared.view.View.{View}
use Rattle.btree_descent.specs.rows_trait.Views.{after_all, state}
use Rattle.btree_descent.proofs.rows_trait.Runs.{ran_append}
use Rattle.disk_image.specs.log_record.declared.record.Record.{Record}
use Rattle.btree_descent.specs.draw_trait.Clocks.{Clock, drawn}
use Rattle.disk_image.specs.Records.{entry_of}
use Rattle.btree_descent.specs.Puts.{Onward, clock_in}
use Rattle.btree_smo.specs.Outcomes.{MissedUpTo, Missed, WasSo, Changed, NotStaged}
use Rattle.held_rows.specs.Rows.{Waited, Stood}
use Rattle.held_rows.specs.Publishing.{Went}

pub onward_all : {alone : Bool} {v u : View} (s : Waited alone v u) (between : List Event) → (alone ≡ true → between ≡ []) → Onward alone v (u.seen ++ between)
onward_all {v = v} s between quiet = record {
  between = s.between ++ between;
  whole = ap (λ ys. ys ++ between) s.seen ∙ append_assoc v.seen s.between between;
  quiet = λ y. (λ i. s.quiet y i ++ quiet y i);
}

-- rows that were given up behind some moment
pub given_up : {most : ℕ} {alone : Bool} {v u w : View} → Stood alone v u → MissedUpTo most alone u w → MissedUpTo most alone v w
given_up {alone = alone} {v = v} {u = u} {w = w} s m = record { events = m.events; ran = ran_append alone v [] u m.events w s.waited.ran m.ran; misses = m.misses; few = m.few }

unfoldable pub was_so : {most : ℕ} {alone : Bool} {v u w : View} {P : Moment → Type 0} → Stood alone v u → MissedUpTo most alone u w → P (state u) → WasSo alone v w P
was_so {v = v} {u = u} {w = w} {P = P} s m so = record {
  past = u.seen;
  onward = record { between = s.waited.between; whole = s.waited.seen; quiet = s.waited.quiet };
  later = m.ran.more;
  seen = m.ran.seen;
  so = subst (λ (g : Given). P (after_all g u.seen)) (sym m.ran.given) so;
}

-- the core's state after an event that may be
pub stepped_core : (v : Given) (m : Moment) (e : Event) → core.may (opening v) m.core (event_of e) ≡ true → (stepped v m e).core ≡ happens (opening v) m.core (event_of e)
unfolding stepped
stepped_core v m e ok = cond-true (core.may (opening v) m.core (event_of e)) (happens (opening v) m.core (event_of e)) m.core ok

module _ {alone : Bool} {v u w : View} (worker : ℕ) (e : Event) (entry : State → Entry) (pages : List ℕ) (rs now : List Record) (c : Clock) (stood : Stood alone v u) where
  -- it went behind the moment that a view tells: it was met there, the record was that of its entry, and the clock is its worker's after it
  unfoldable pub changed_done : (went : Went alone u e w) → core.may (opening u.given) (after_all u.given (u.seen ++ went.between)).core (event_of e) ≡ true
      → (r : Record) × (now ≡ r ∷ rs) × (entry_of worker r ≡ entry (after_all u.given (u.seen ++ went.between)).core)
      → c ≡ clock_in ((happens (opening u.given) (after_all u.given (u.seen ++ went.between)).core (event_of e)).worker worker) → Changed alone worker e entry v rs w c now
  changed_done went met staged clock =
      let past = u.seen ++ went.between in
      let given : w.given ≡ u.given = went.ran.given in
      let m = after_all u.given past in
      let after : after_all u.given (past ++ e ∷ []) ≡ stepped u.given m e = run_append u.given (begun u.given) past (e ∷ []) in
      let ticks : c ≡ clock_in ((after_all u.given (past ++ e ∷ [])).core.worker worker) = clock ∙ (ap (λ (s : State). clock_in (s.worker worker)) (sym (stepped_core u.given m e met)) ∙ ap (λ (x : Moment). clock_in (x.core.worker worker)) (sym after)) in record {
        past = past;
        onward = onward_all stood.waited went.between went.quiet;
        ran = ran_append alone v [] u (e ∷ []) w stood.waited.ran went.ran;
        later = went.later;
        seen = went.seen;
        met = subst (λ (g : Given). core.may (opening g) (after_all g past).core (event_of e) ≡ true) (sym given) met;
        staged = (staged.0, staged.1, subst (λ (g : Given). entry_of worker staged.0 ≡ entry (after_all g past).core) (sym given) staged.2);
        clock = subst (λ (g : Given). c ≡ clock_in ((after_all g (past ++ e ∷ [])).core.worker worker)) (sym given) ticks;
      }

  -- the rows were given up as they stood, and the draw has drawn for these pages
  unfoldable pub change_unstaged : Missed alone u w → core.may (opening u.given) (state u).core (event_of e) ≡ true → now ≡ rs → c ≡ drawn (clock_in (at_pages (state u).core worker ((state u).core.worker worker) pages)) → NotStaged alone worker e pages v rs w c now
  unfolding was_so
  change_unstaged missed met same clock = record {
    missed = given_up stood missed;
    met = was_so stood missed (subst (λ (g : Given). core.may (opening g) (state u).core (event_of e) ≡ true) (sym missed.ran.given) met);
    staged = same;
    clock = subst (λ (g : Given). c ≡ drawn (clock_in (at_pages (after_all g u.seen).core worker ((after_all g u.seen).core.worker worker) pages))) (sym missed.ran.given) clock;
  }
