-- Behind an abort in which a sync may have come the queues have what the core has.
use Rattle.std.proofs.Common.{◌≡◌, inl, inr, ◌||◌, ℕ, suc, Bool, true, false, List, [], ◌∷◌, ◌++◌, Some, refl, sym, ap, ap₂, ◌∙◌, subst, true≢false}
use Rattle.std.proofs.lemmas.Bool.{cond-true}
use Rattle.std.proofs.lemmas.List.{append_assoc}
use Rattle.map_model.specs.Lists.{Has, any, keep}
use Rattle.map_model.specs.Journals.{Name}
use Rattle.map_model.proofs.ListLemmas.{upd_same}
use Rattle.rfa_model.specs.Stamps.{need_of}
use Rattle.paged_scans.specs.core_state.Openings.{Opening}
use Rattle.paged_scans.specs.core_state.States.{Worker, State, start}
use Rattle.paged_scans.specs.core_state.Events.{Event}
use Rattle.paged_scans.specs.core_state.Needs.{may}
use Rattle.paged_scans.specs.core_state.Steps.{finished, happens, run, AllMet, state_after}
use Rattle.paged_scans.proofs.core_state.Runs.{run_more, met_more}
use Rattle.paged_scans.specs.core_commit.Rises.{EveryRise}
use Rattle.paged_scans.specs.core_calls.Deeds.{Deed, Aborted, Committed}
use Rattle.paged_scans.specs.core_calls.Refusals.{Limits}
use Rattle.paged_scans.specs.core_calls.Fronts.{Done, front, outcomes}
use Rattle.paged_scans.specs.core_calls.Steps.{is_step, is_structure, Goes, is_change}
use Rattle.paged_scans.specs.core_calls.Runs.{Tells}
use Rattle.group_commit.specs.declared.receipts.Receipt.{Receipt}
use Rattle.group_commit.specs.declared.queue.End.{End}
use Rattle.group_commit.specs.Outcomes.{ends_by}
use Rattle.group_commit.specs.Queues.{pushed}
use Rattle.group_commit.specs.Tracks.{IsOfEnd, is_ending, Tracks}
use Rattle.group_commit.proofs.OutcomeEvents.{EndIn, SameEnd, end_in, no_end, none_right, same_after, undoes_ends, unlocks_no_end}
use Rattle.group_commit.proofs.TrackLemmas.{every_end, every_other}

-- The receipt of the session's end, by what its worker has behind the call, and up to which number its end found all logs flushed.
pub record IsOfAbort (g : Opening) (xs : List Done) (x : Done) (flushed : ℕ) (r : Receipt) : Type 0 where
  pub txn : r.txn ≡ ((state_after g (front (x ∷ xs))).worker x.outcome.session).txn
  pub log : r.log ≡ x.outcome.session
  pub gsn : r.gsn ≡ ((state_after g (front (x ∷ xs))).worker x.outcome.session).end
  pub need : r.need ≡ need_of ((state_after g (front (x ∷ xs))).worker x.outcome.session).debt flushed

-- ## The one end

has_no : (w f : ℕ) (es : List Event) → any is_ending es ≡ false → Has (Event.End w false f) es → ⊥
has_no w f [] n h = h
has_no w f (e ∷ es) n (inl q) = true≢false (sym (ap (λ (b : Bool). b || any is_ending es) (sym (ap is_ending q))) ∙ n)
has_no w f (e ∷ es) n (inr h) = has_no w f es (none_right is_ending (e ∷ []) es n) h

end_is : (w f c : ℕ) (b a : List Event) → any is_ending b ≡ false → any is_ending a ≡ false → Has (Event.End w false f) (b ++ Event.End w false c ∷ a) → f ≡ c
end_is w f c [] a n m (inl q) = cc
end_is w f c [] a n m (inr h) = absurd (has_no w f a m h)
end_is w f c (e ∷ b) a n m (inl q) = absurd (has_no w f (e ∷ b) n (inl q))
end_is w f c (e ∷ b) a n m (inr h) = end_is w f c b a (none_right is_ending (e ∷ []) b n) m h

-- ## Queues go on

module _ (rises : EveryRise) (l : Limits) (g : Opening) (group : ℕ) (xs : List Done) (x : Done) (told : List Name) (qs : List (List End)) (t : Tells l g group xs x) (a : Tracks g (state_after g (front xs)) told qs) where
  abbrev w : ℕ
  w = x.outcome.session

  undone : (d : Deed) → x.outcome.deed ≡ d → ends_by d ≡ Some false → EndIn w false x.events
  undone (Aborted c n at backs) q p = end_in w false x.events (undoes_ends w (keep is_step x.events) (subst (λ (y : Deed). Goes l g w (outcomes xs) x.outcome.unsaid y (keep is_step x.events)) q t.steps).1)
  undone (Committed n at) q p = absurd (cc)
  undone _ q p = absurd (cc)

  unchanged : (d : Deed) → x.outcome.deed ≡ d → ends_by d ≡ Some false → any is_structure x.events ≡ false
  unchanged (Aborted c n at backs) q p = t.structure (ap is_change q)
  unchanged (Committed n at) q p = absurd (cc)
  unchanged _ q p = absurd (cc)

  module _ (e : EndIn w false x.events) (none : any is_structure x.events ≡ false) (flushed : ℕ) (has : Has (Event.End w false flushed) x.events) (r : Receipt) (of : IsOfAbort g xs x flushed r) where
    abbrev before : List Event
    before = front xs ++ e.before

    abbrev end : Event
    end = Event.End w false e.found

    abbrev s : State
    s = state_after g (front xs ++ e.before)

    quiet : any is_ending e.after ≡ false
    quiet = no_end e.after (unlocks_no_end w (keep is_step e.after) e.unlocks)

    found : flushed ≡ e.found
    found = end_is w flushed e.found e.before e.after e.none_before quiet (subst (λ (es : List Event). Has (Event.End w false flushed) es) e.is has)

    no_structure : any is_structure e.after ≡ false
    no_structure = none_right is_structure e.before (end ∷ e.after) (sym (ap (any is_structure) e.is) ∙ none)

    here : s ≡ run g (state_after g (front xs)) e.before
    here = run_more g (start g) (front xs) e.before

    met : may g s end ≡ true
    met = subst (λ (u : State). may g u end ≡ true) (sym here)
        (met_more g (state_after g (front xs)) e.before (end ∷ e.after) (subst (λ (es : List Event). AllMet g (state_after g (front xs)) es) e.is t.met)).0

    -- the events in three parts
    parts : front (x ∷ xs) ≡ (before ++ end ∷ []) ++ e.after
    parts = ap (λ (es : List Event). front xs ++ es) e.is ∙ (sym (append_assoc (front xs) e.before (end ∷ e.after)) ∙ sym (append_assoc before (end ∷ []) e.after))

    ended : state_after g (before ++ end ∷ []) ≡ happens g s end
    ended = run_more g (start g) before (end ∷ []) ∙ cond-true (may g s end) (happens g s end) s met

    worker_ended : (happens g s end).worker w ≡ finished (s.worker w) (suc (s.worker w).clock)
    worker_ended = upd_same s.worker w (finished (s.worker w) (suc (s.worker w).clock)) w refl

    same : SameEnd (happens g s end) (state_after g (front (x ∷ xs))) w
    same = subst (λ (u : State). SameEnd (happens g s end) u w) (sym (ap (state_after g) parts ∙ run_more g (start g) (before ++ end ∷ []) e.after))
        (subst (λ (u : State). SameEnd u (run g (state_after g (before ++ end ∷ [])) e.after) w) ended (same_after g e.after (state_after g (before ++ end ∷ [])) w e.unlocks no_structure))

    of_end : IsOfEnd s w e.found r
    of_end = record {
      txn = of.txn ∙ (same.txn ∙ ap (λ (b : Worker). b.txn) worker_ended);
      log = of.log;
      gsn = of.gsn ∙ (same.end ∙ ap (λ (b : Worker). b.end) worker_ended);
      need = of.need ∙ ap₂ need_of (same.debt ∙ ap (λ (b : Worker). b.debt) worker_ended) found;
    }

    tracks : Tracks g (state_after g (front (x ∷ xs))) told (pushed r false qs)
    tracks = subst (λ (es : List Event). Tracks g (state_after g es) told (pushed r false qs)) (sym parts)
        (every_other rises g (before ++ end ∷ []) e.after told (pushed r false qs) quiet
        (every_end rises g before told qs w false e.found r (every_other rises g (front xs) e.before told qs e.none_before a) met of_end))

  pub abort_tracks : ends_by x.outcome.deed ≡ Some false → (flushed : ℕ) → Has (Event.End w false flushed) x.events → (r : Receipt) → IsOfAbort g xs x flushed r → Tracks g (state_after g (front (x ∷ xs))) told (pushed r false qs)
  abort_tracks q flushed has r of = tracks (undone x.outcome.deed refl q) (unchanged x.outcome.deed refl q) flushed has r of
