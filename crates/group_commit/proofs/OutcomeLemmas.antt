-- Behind an outcome of a run the queues have what the core has.
use Rattle.std.proofs.Common.{◌≡◌, ℕ, suc, Bool, true, false, cond, leb, List, [], ◌∷◌, ◌++◌, Some, None, refl, sym, ap, ap₂, ◌∙◌, subst}
use Rattle.std.proofs.lemmas.Bool.{cond-true}
use Rattle.std.proofs.lemmas.List.{append_assoc}
use Rattle.map_model.specs.Lists.{keep, any}
use Rattle.map_model.specs.Journals.{Name}
use Rattle.map_model.proofs.ListLemmas.{upd_same}
use Rattle.rfa_model.specs.Reaches.{least}
use Rattle.rfa_model.specs.Stamps.{need_of}
use Rattle.core_crash.specs.core_state.Openings.{Opening}
use Rattle.core_crash.specs.core_state.States.{Worker, State, start, flushed_by_all}
use Rattle.core_crash.specs.core_state.Events.{Event}
use Rattle.core_crash.specs.core_state.Local.{is_sync}
use Rattle.core_crash.specs.core_state.Needs.{may}
use Rattle.core_crash.specs.core_state.Steps.{finished, happens, run, AllMet, state_after}
use Rattle.core_crash.proofs.core_state.Runs.{run_more, met_more}
use Rattle.core_crash.specs.core_commit.Rises.{EveryRise}
use Rattle.core_calls.specs.Deeds.{Deed, Begun, Got, Changed, Deleted, Absent, Met, Paused, Over, Committed, Aborted, Refused, Synced, Checkpointed, Unsaid, Outcome}
use Rattle.core_calls.specs.Refusals.{Limits}
use Rattle.core_calls.specs.Fronts.{Done, front, outcomes, AreFresh}
use Rattle.core_calls.specs.Steps.{is_step, is_structure, Goes, call_behind, is_change}
use Rattle.core_calls.specs.LogEvents.{behind, is_log, Flushes, IsTightSomewhere, LogsGo}
use Rattle.core_calls.proofs.WhereLemmas.{syncs_alone}
use Rattle.core_calls.specs.Runs.{Tells}
use Rattle.group_commit.specs.declared.receipts.Receipt.{Receipt}
use Rattle.group_commit.specs.declared.queue.End.{End}
use Rattle.group_commit.specs.Outcomes.{ends_by, IsOfOutcome}
use Rattle.group_commit.specs.Queues.{pushed}
use Rattle.group_commit.specs.Tracks.{IsOfEnd, is_ending, Tracks}
use Rattle.group_commit.specs.Laws.{OutcomeLaws, EveryOutcome}
use Rattle.group_commit.proofs.OutcomeEvents.{no_end, unlocks_no_end, tries_no_end, walks_no_end, Ends, undoes_ends, EndIn, end_in, none_before, none_left, none_right, no_log, flushed_run, SameEnd, same_after, fresh_end}
use Rattle.group_commit.proofs.TrackLemmas.{every_end, every_other}

-- ## Deeds

-- a deed that is no end has none among its steps
deed_no_end : (l : Limits) (g : Opening) (w : ℕ) (earlier : List Outcome) (us : List Unsaid) (d : Deed) (es : List Event) → ends_by d ≡ None → Goes l g w earlier us d es → any is_ending es ≡ false
deed_no_end l g w earlier us (Begun n) es q h = ap (any is_ending) h.2
deed_no_end l g w earlier us (Got k a alone) es q h = ap (any is_ending) h.2
deed_no_end l g w earlier us (Changed k v a) es q h = ap (any is_ending) h.2
deed_no_end l g w earlier us (Deleted k a) es q h = ap (any is_ending) h.2
deed_no_end l g w earlier us (Absent k) es q h = ap (any is_ending) h.2
deed_no_end l g w earlier us (Met from to k v alone) es q h = walks_no_end w _ es _ h.3
deed_no_end l g w earlier us (Paused from to k) es q h = ap (any is_ending) h.1
deed_no_end l g w earlier us (Over from to) es q h = walks_no_end w _ es _ h.2
deed_no_end l g w earlier us (Committed n at) es q h = absurd (cc)
deed_no_end l g w earlier us (Aborted c n at backs) es q h = absurd (cc)
deed_no_end l g w earlier us (Refused c why backs) es q h = tries_no_end g w earlier (call_behind earlier c) why es h.2
deed_no_end l g w earlier us (Synced at) es q h = ap (any is_ending) h.1
deed_no_end l g w earlier us (Checkpointed at) es q h = ap (any is_ending) h.1

-- ## The end of an outcome

-- no log event comes before it
pub record EndOf (w : ℕ) (commit : Bool) (es : List Event) : Type 0 where
  pub end : EndIn w commit es
  pub no_logs : any is_log end.before ≡ false
  pub no_structure : any is_structure end.after ≡ false

structure_after : (w : ℕ) (commit : Bool) (es : List Event) (e : EndIn w commit es) → any is_structure es ≡ false → any is_structure e.after ≡ false
structure_after w commit es e n = none_right is_structure (e.before) (Event.End w commit e.found ∷ e.after) (sym (ap (any is_structure) e.is) ∙ n)

committed : (g : Opening) (group : ℕ) (s : State) (w at : ℕ) (es : List Event) → EndIn w true es → Flushes g group s w at es → any is_structure es ≡ false → EndOf w true es
committed g group s w at es e f n = record {
  end = e;
  no_logs = none_before is_ending is_log e.before (Event.End w true e.found) e.after f.before (cond (leb group (behind (run g s f.before) w)) (Event.Flush w at ∷ []) []) (sym e.is ∙ f.is) refl (flush_no_end (leb group (behind (run g s f.before) w))) f.else_none;
  no_structure = structure_after w true es e n;
}
  where
    flush_no_end : (b : Bool) → any is_ending (cond b (Event.Flush w at ∷ []) []) ≡ false
    flush_no_end true = refl
    flush_no_end false = refl

aborted : (w : ℕ) (es : List Event) → EndIn w false es → any is_log es ≡ false → any is_structure es ≡ false → EndOf w false es
aborted w es e f n = record {
  end = e;
  no_logs = none_left is_log e.before (Event.End w false e.found ∷ e.after) (sym (ap (any is_log) e.is) ∙ f);
  no_structure = structure_after w false es e n;
}

-- ## Queues go on

module _ (rises : EveryRise) (l : Limits) (g : Opening) (group : ℕ) (xs : List Done) (x : Done) (told : List Name) (qs : List (List End)) (t : Tells l g group xs x) (a : Tracks g (state_after g (front xs)) told qs) where
  abbrev w : ℕ
  w = x.outcome.session

  other : ends_by x.outcome.deed ≡ None → Tracks g (state_after g (front (x ∷ xs))) told qs
  other q = every_other rises g (front xs) x.events told qs (no_end x.events (deed_no_end l g w (outcomes xs) x.outcome.unsaid x.outcome.deed (keep is_step x.events) q t.steps)) a

  module _ (commit : Bool) (e : EndOf w commit x.events) (r : Receipt) (of : IsOfOutcome g xs x r) where
    abbrev before : List Event
    before = front xs ++ e.end.before

    abbrev end : Event
    end = Event.End w commit e.end.found

    abbrev s : State
    s = state_after g (front xs ++ e.end.before)

    here : s ≡ run g (state_after g (front xs)) e.end.before
    here = run_more g (start g) (front xs) e.end.before

    met : may g s end ≡ true
    met = subst (λ (u : State). may g u end ≡ true) (sym here)
        (met_more g (state_after g (front xs)) e.end.before (end ∷ e.end.after) (subst (λ (es : List Event). AllMet g (state_after g (front xs)) es) e.end.is t.met)).0

    -- it finds what all logs had flushed before the call
    found : e.end.found ≡ flushed_by_all g (state_after g (front xs))
    found = fresh_end g e.end.before e.end.after (state_after g (front xs)) w commit e.end.found (subst (λ (es : List Event). AreFresh g (state_after g (front xs)) es) e.end.is t.fresh)
        ∙ ap (λ (f : ℕ → ℕ). least f g.workers) (flushed_run g e.end.before (state_after g (front xs)) e.no_logs)

    -- the events in three parts
    parts : front (x ∷ xs) ≡ (before ++ end ∷ []) ++ e.end.after
    parts = ap (λ (es : List Event). front xs ++ es) e.end.is ∙ (sym (append_assoc (front xs) e.end.before (end ∷ e.end.after)) ∙ sym (append_assoc before (end ∷ []) e.end.after))

    ended : state_after g (before ++ end ∷ []) ≡ happens g s end
    ended = run_more g (start g) before (end ∷ []) ∙ cond-true (may g s end) (happens g s end) s met

    worker_ended : (happens g s end).worker w ≡ finished (s.worker w) (suc (s.worker w).clock)
    worker_ended = upd_same s.worker w (finished (s.worker w) (suc (s.worker w).clock)) w refl

    same : SameEnd (happens g s end) (state_after g (front (x ∷ xs))) w
    same = subst (λ (u : State). SameEnd (happens g s end) u w) (sym (ap (state_after g) parts ∙ run_more g (start g) (before ++ end ∷ []) e.end.after))
        (subst (λ (u : State). SameEnd u (run g (state_after g (before ++ end ∷ [])) e.end.after) w) ended (same_after g e.end.after (state_after g (before ++ end ∷ [])) w e.end.unlocks e.no_structure))

    of_end : IsOfEnd s w e.end.found r
    of_end = record {
      txn = of.txn ∙ (same.txn ∙ ap (λ (b : Worker). b.txn) worker_ended);
      log = of.log;
      gsn = of.gsn ∙ (same.end ∙ ap (λ (b : Worker). b.end) worker_ended);
      need = of.need ∙ ap₂ need_of (same.debt ∙ ap (λ (b : Worker). b.debt) worker_ended) (sym found);
    }

    tracks : Tracks g (state_after g (front (x ∷ xs))) told (pushed r commit qs)
    tracks = subst (λ (es : List Event). Tracks g (state_after g es) told (pushed r commit qs)) (sym parts)
        (every_other rises g (before ++ end ∷ []) e.end.after told (pushed r commit qs) (no_end e.end.after (unlocks_no_end w (keep is_step e.end.after) e.end.unlocks))
        (every_end rises g before told qs w commit e.end.found r (every_other rises g (front xs) e.end.before told qs e.end.none_before a) met of_end))

  ends : (d : Deed) → x.outcome.deed ≡ d → (commit : Bool) → ends_by d ≡ Some commit → (commit ≡ false → any is_sync x.events ≡ false) → EndOf w commit x.events
  ends (Committed n at) q true p k = committed g group (state_after g (front xs)) w at x.events (end_in w true x.events ends_in) (subst (λ (y : Deed). LogsGo l g group xs w y x.events) q t.logs) (t.structure (ap is_change q))
    where
      goes : Goes l g w (outcomes xs) x.outcome.unsaid (Committed n at) (keep is_step x.events)
      goes = subst (λ (y : Deed). Goes l g w (outcomes xs) x.outcome.unsaid y (keep is_step x.events)) q t.steps

      ends_in : Ends w true (keep is_step x.events)
      ends_in = subst (λ (es : List Event). Ends w true es) (sym goes.3) (refl, refl, goes.4)
  ends (Committed n at) q false p k = absurd (cc)
  ends (Aborted c n at backs) q false p k = aborted w x.events (end_in w false x.events (undoes_ends w (keep is_step x.events) goes.1)) (no_log x.events (syncs_alone (IsTightSomewhere g) g x.events (state_after g (front xs)) false logs) (k refl)) (t.structure (ap is_change q))
    where
      goes : Goes l g w (outcomes xs) x.outcome.unsaid (Aborted c n at backs) (keep is_step x.events)
      goes = subst (λ (y : Deed). Goes l g w (outcomes xs) x.outcome.unsaid y (keep is_step x.events)) q t.steps

      logs : LogsGo l g group xs w (Aborted c n at backs) x.events
      logs = subst (λ (y : Deed). LogsGo l g group xs w y x.events) q t.logs
  ends (Aborted c n at backs) q true p k = absurd (cc)
  ends _ q commit p k = absurd (cc)

  outcome_laws : OutcomeLaws g xs x told qs
  outcome_laws = record {
    ends = λ commit q k r of. tracks commit (ends x.outcome.deed refl commit q k) r of;
    others = other;
  }

pub every_outcome : EveryRise → EveryOutcome
every_outcome rises l g group xs x told qs t a = outcome_laws rises l g group xs x told qs t.1 a
