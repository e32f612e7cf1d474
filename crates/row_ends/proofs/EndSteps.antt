-- What an end says of the events that were seen, as steps of its session.
use Rattle.std.proofs.Common.{◌≡◌, ◌++◌, ◌==◌, ℕ, Bool, true, List, [], ◌∷◌, refl, sym, subst}
use Rattle.std.proofs.lemmas.Bool.{and_from}
use Rattle.map_model.specs.Lists.{all}
use Rattle.session_state.specs.core_state.Steps.{AllMet, step}
use Rattle.lean_disk.specs.Story.{Story}
use Rattle.session_state.specs.worker_log.Logs.{Log}
use Rattle.session_state.specs.row_words.declared.event.Event.{Event}
use Rattle.session_state.specs.row_words.declared.event.Event.TheVariants as event
use Rattle.session_state.specs.row_words.Moments.{event_of}
use Rattle.session_state.specs.row_words.Openings.{opening}
use Rattle.session_state.specs.rows_trait.declared.view.View.{View}
use Rattle.session_state.specs.rows_trait.Views.{state}
use Rattle.held_rows.specs.Steps.{AreMisses}
use Rattle.session_state.specs.declared.session.Session.{Session}
use Rattle.row_ends.specs.Ends.{Ended, HasFlushed, Missed, gives}
use Rattle.session_state.specs.Others.{Steps, is_of}
use Rattle.row_ends.proofs.LatchLemmas.{gives_events}
use Rattle.row_ends.proofs.Misses.{misses_met}
use Rattle.session_state.proofs.OtherLemmas.{is_own, one_step}

misses_own : (own : ℕ) (es : List Event) → AreMisses es → all (is_of own) es ≡ true
misses_own own [] m = refl
misses_own own (event.Miss w ∷ es) m = misses_own own es m
misses_own own (_ ∷ es) m = absurd m

-- misses alone were
pub missed_steps : (own : ℕ) (v w : View) (es : List Event) → AreMisses es → w.given ≡ v.given → w.seen ≡ v.seen ++ es → Steps own v w
missed_steps own v w es m given seen = record { events = es; given = given; seen = seen; are_own = misses_own own es m; met = misses_met (opening v.given) (state v).core es m }

pub latch_steps : (own most : ℕ) (v w : View) → Missed most v w → Steps own v w
latch_steps own most v w m = missed_steps own v w m.misses m.are_misses m.given m.seen

-- ## Ends

gives_own : (own : ℕ) (rows : List ℕ) → all (is_of own) (gives own rows) ≡ true
gives_own own [] = refl
gives_own own (i ∷ rows) = and_from (own == own) (all (is_of own) (gives own rows)) (is_own own) (gives_own own rows)

pub ended_steps : (own most : ℕ) (v w : View) (commit : Bool) (floor : ℕ) → Ended own most v commit floor w → Steps own v w
ended_steps own most v w commit floor e = record {
  events = event.End own commit floor ∷ gives own e.rows;
  given = e.given;
  seen = e.seen;
  are_own = and_from (own == own) (all (is_of own) (gives own e.rows)) (is_own own) (gives_own own e.rows);
  met = (e.met.0, subst (λ es. AllMet (opening v.given) (step (opening v.given) (state v).core (event_of (event.End own commit floor))) es) (sym (gives_events own e.rows)) e.met.1);
}

pub flushed_steps : (v w : View) (x y : Session) (was is : Log) (old new : Story) → HasFlushed v w x y was is old new → Steps x.own v w
flushed_steps v w x y was is old new f = one_step x.own v w (event.Flush x.own x.clock.clock) f.given f.seen (is_own x.own) f.met
