-- An abort.
use Rattle.std.proofs.Common.{◌≡◌, ℕ, suc, Bool, true, false, cond, ◌==◌, List, [], ◌∷◌, ◌++◌, Option, None, refl, sym, ap, ap₂, ◌∙◌, subst, append_assoc, true≢false}
use Rattle.std.proofs.lemmas.List.{append-nil}
use Rattle.map_model.specs.declared.call.Call.{Call}
use Rattle.map_model.specs.Histories.{Step}
use Rattle.map_model.specs.Lists.{keep}
use Rattle.run_crashes.specs.image_model.Entries.{Entry, is_record}
use Rattle.run_crashes.specs.core_state.Openings.{Opening}
use Rattle.run_crashes.specs.core_state.States.{State, start}
use Rattle.run_crashes.specs.core_state.Events.{Event}
use Rattle.run_crashes.specs.core_state.Local.{is_of}
use Rattle.run_crashes.specs.core_state.Needs.{holds_row, may}
use Rattle.run_crashes.specs.core_state.Steps.{AllMet, happens, run, state_after, step}
use Rattle.run_crashes.proofs.core_state.Runs.{met_more, run_more}
use Rattle.lean_disk.specs.Story.{Crash, Story}
use Rattle.run_crashes.specs.log_record.declared.record.Record.{Record}
use Rattle.run_crashes.specs.disk_image.Records.{entry_of}
use Rattle.run_crashes.specs.core_disk.Versions.{EveryVersion}
use Rattle.run_crashes.specs.core_calls.Deeds.{commits, put_backs}
use Rattle.run_crashes.specs.core_calls.Fronts.{AreFresh, Done, IsFresh, front}
use Rattle.run_crashes.specs.core_calls.LogEvents.{IsTightSomewhere}
use Rattle.run_crashes.proofs.core_calls.WhereLemmas.{syncs_more, syncs_none}
use Rattle.run_crashes.specs.core_calls.Marks.{Ended, Mark, back_in, mark, marks, onto}
use Rattle.run_crashes.specs.core_calls.Refusals.{Limits}
use Rattle.run_crashes.specs.core_calls.Runs.{Tells}
use Rattle.run_crashes.specs.core_calls.Steps.{Undoes, is_step, is_structure}
use Rattle.run_crashes.proofs.core_calls.RunLemmas.{marks_run}
use Rattle.run_crashes.specs.disk_runs.Laws.{with_log}
use Rattle.run_crashes.specs.disk_runs.Logs.{Records}
use Rattle.run_crashes.specs.disk_runs.Stands.{Known}
use Rattle.engine_calls.specs.Aborts.{AbortLaws, EveryAbort, IsAbort, PutsBack, aborted_by, back_by, backs_by, newest_back}
use Rattle.engine_calls.specs.Clauses.{Between, Nothing}
use Rattle.engine_calls.specs.Commits.{unlocks}
use Rattle.engine_calls.specs.Parts.{Gone, behind_first}
use Rattle.engine_calls.proofs.MarkLemmas.{any_append, fresh_none, has_mark, is_fresh, keep_append, met_first, marks_none, no_mark, no_step}
use Rattle.engine_calls.proofs.PartLemmas.{on_log, quiet, stage, whole}
use Rattle.engine_calls.proofs.UnlockLemmas.{are_unlocks, if_met, unlocks_logs, unlocks_none, unlocks_quiet, unlocks_steps, unlocks_structure}

-- ## Changes that are put back

-- an event that puts one back
first_back : (w : ℕ) (e : Event) (es : List Event) → PutsBack w (e ∷ es) → (p : ℕ) × (e ≡ Event.Put_back w p) × PutsBack w es
first_back w (Event.Put_back v p) es t = (p, ap (λ (x : ℕ). Event.Put_back x p) t.0, t.1)
first_back w _ es t = absurd t

undoes : (w f : ℕ) (es rest : List Event) → PutsBack w es → Undoes w rest → Undoes w (es ++ rest)
undoes w f [] rest t u = u
undoes w f (Event.Put_back v p ∷ es) rest t u = (t.0, undoes w f es rest t.1 u)
undoes w f (_ ∷ es) rest t u = absurd t

-- what session v has been told of these
abbrev pub told_to : (w v : ℕ) → List Step → List Mark
told_to w v earlier = cond (w == v) (put_backs earlier) []

abbrev one : Opening → State → Event → ℕ → List Mark → List Mark
one g s e v ms = cond (may g s e) (cond (is_of e v) (onto (mark g s e) ms) ms) ms

none_back : (g : Opening) (s : State) (e : Event) (earlier : List Step) → has_mark e ≡ false → back_by g s e earlier ≡ earlier
none_back g s (Event.Put_back w p) earlier q = absurd (true≢false q)
none_back g s _ earlier q = refl

silent_one : (g : Opening) (s : State) (e : Event) (w v : ℕ) (earlier : List Step) → has_mark e ≡ false → one g s e v (told_to w v earlier) ≡ told_to w v (back_by g s e earlier)
silent_one g s e w v earlier q = go (may g s e) (is_of e v) (mark g s e) (no_mark g s e q) ∙ ap (told_to w v) (sym (none_back g s e earlier q))
  where
    go : (a b : Bool) (o : Option Mark) → o ≡ None → cond a (cond b (onto o (told_to w v earlier)) (told_to w v earlier)) (told_to w v earlier) ≡ told_to w v earlier
    go false b o n = refl
    go true false o n = refl
    go true true o n = ap (λ (x : Option Mark). onto x (told_to w v earlier)) n

back_one : (g : Opening) (s : State) (p w v : ℕ) (earlier : List Step) → may g s (Event.Put_back w p) ≡ true → one g s (Event.Put_back w p) v (told_to w v earlier) ≡ told_to w v (back_by g s (Event.Put_back w p) earlier)
back_one g s p w v earlier m = go (may g s (Event.Put_back w p)) m (w == v) (s.worker w).changes
  where
    go : (a : Bool) → a ≡ true → (b : Bool) (cs : List Entry) → cond a (cond b (onto (back_in g s p cs) (cond b (put_backs earlier) [])) (cond b (put_backs earlier) [])) (cond b (put_backs earlier) []) ≡ cond b (put_backs (newest_back g s w p cs earlier)) []
    go true e true [] = refl
    go true e true (c ∷ cs) = refl
    go true e false cs = refl
    go false e b cs = absurd (true≢false (sym e))

-- all of them
pub marks_backs : (g : Opening) (s : State) (w : ℕ) (es : List Event) → PutsBack w (keep is_step es) → AllMet g s es → (v : ℕ) (earlier : List Step) → marks g s es v (told_to w v earlier) ≡ told_to w v (backs_by g s es earlier)
marks_backs g s w [] t m v earlier = refl
marks_backs g s w (e ∷ es) t m v earlier = go (is_step e) refl t (λ u. marks_backs g (step g s e) w es u m.1 v (back_by g s e earlier))
  where
    go : (b : Bool) → is_step e ≡ b → PutsBack w (cond b (e ∷ keep is_step es) (keep is_step es))
        → (PutsBack w (keep is_step es) → marks g (step g s e) es v (told_to w v (back_by g s e earlier)) ≡ told_to w v (backs_by g (step g s e) es (back_by g s e earlier)))
        → marks g (step g s e) es v (one g s e v (told_to w v earlier)) ≡ told_to w v (backs_by g (step g s e) es (back_by g s e earlier))
    go true q t h =
        let x = first_back w e (keep is_step es) t in
        ap (marks g (step g s e) es v) (subst (λ (d : Event). may g s d ≡ true → one g s d v (told_to w v earlier) ≡ told_to w v (back_by g s d earlier)) (sym x.1) (back_one g s x.0 w v earlier) m.0) ∙ h x.2
    go false q t h = ap (marks g (step g s e) es v) (silent_one g s e w v earlier (no_step e q)) ∙ h t

pub fresh_back : (g : Opening) (s : State) (w : ℕ) (es more : List Event) → PutsBack w (keep is_step es) → AreFresh g (run g s es) more → AreFresh g s (es ++ more)
fresh_back g s w [] more t f = f
fresh_back g s w (e ∷ es) more t f = go (is_step e) refl t (λ u. fresh_back g (step g s e) w es more u f)
  where
    go : (b : Bool) → is_step e ≡ b → PutsBack w (cond b (e ∷ keep is_step es) (keep is_step es)) → (PutsBack w (keep is_step es) → AreFresh g (step g s e) (es ++ more)) → IsFresh g s e × AreFresh g (step g s e) (es ++ more)
    go true q t h = let x = first_back w e (keep is_step es) t in (subst (λ (d : Event). IsFresh g s d) (sym x.1) tt, h x.2)
    go false q t h = (is_fresh g s e (no_step e q), h t)

commits_backs : (c : Bool) (earlier : List Step) → commits (cond c (put_backs earlier) []) ≡ false
commits_backs false earlier = refl
commits_backs true [] = refl
commits_backs true (x ∷ earlier) = commits_backs true earlier

pub no_one : (c : Bool) → ◌≡◌ {A = List Mark} [] (cond c [] [])
no_one true = refl
no_one false = refl

-- ## The call

module _ (l : Limits) (g : Opening) (group : ℕ) (xs : List Done) (c : Call) (first : List Event) (w number at f : ℕ) (rows : List ℕ) (r : Record) (i : IsAbort g xs c first w number at f rows r) where
  abbrev done : Done
  done = aborted_by g xs c first w number at f rows

  abbrev s0_state : State
  s0_state = state_after g (front xs)

  -- where it ends
  abbrev s : State
  s = behind_first g xs first

  abbrev end_event : Event
  end_event = Event.End w false f

  abbrev backs : List Step
  backs = backs_by g s0_state first []

  first_met : AllMet g s0_state first
  first_met = met_first g s0_state first (end_event ∷ unlocks w rows) i.met

  end_met : may g s end_event ≡ true
  end_met = (met_more g s0_state first (end_event ∷ unlocks w rows) i.met).0

  first_told : (v : ℕ) → marks g s0_state first v [] ≡ told_to w v backs
  first_told v = ap (marks g s0_state first v) (no_one (w == v)) ∙ marks_backs g s0_state w first i.backs first_met v []

  told : (v : ℕ) → marks g s0_state done.events v [] ≡ cond (w == v) ((Ended false number at ∷ put_backs backs) ++ []) []
  told v = marks_run g s0_state first (end_event ∷ unlocks w rows) v []
      ∙ (ap (marks g s (end_event ∷ unlocks w rows) v) (first_told v)
      ∙ (marks_none g (step g s end_event) (unlocks w rows) v (cond (may g s end_event) (cond (w == v) (Ended false (s.worker w).txn (suc (s.worker w).clock) ∷ told_to w v backs) (told_to w v backs)) (told_to w v backs)) (unlocks_none w rows)
      ∙ go (may g s end_event) end_met (w == v)))
    where
      go : (a : Bool) → a ≡ true → (b : Bool) → cond a (cond b (Ended false (s.worker w).txn (suc (s.worker w).clock) ∷ cond b (put_backs backs) []) (cond b (put_backs backs) [])) (cond b (put_backs backs) []) ≡ cond b ((Ended false number at ∷ put_backs backs) ++ []) []
      go true e true = ap₂ (λ (n m : ℕ). Ended false n m ∷ put_backs backs) (sym i.number_is) (sym i.at_is) ∙ sym (append-nil (Ended false number at ∷ put_backs backs))
      go true e false = refl
      go false e b = absurd (true≢false (sym e))

  steps_are : keep is_step done.events ≡ keep is_step first ++ end_event ∷ unlocks w rows
  steps_are = keep_append is_step first (end_event ∷ unlocks w rows) ∙ ap (λ (es : List Event). keep is_step first ++ end_event ∷ es) (unlocks_steps w rows)

  last_state : state_after g (front xs ++ done.events) ≡ behind_first g xs done.events
  last_state = run_more g (start g) (front xs) done.events

  pub tells : Tells l g group xs done
  tells = record {
    met = i.met;
    fresh = fresh_back g s0_state w first (end_event ∷ unlocks w rows) i.backs (i.flushed, fresh_none g (step g s end_event) (unlocks w rows) (unlocks_none w rows));
    told = told;
    in_turn = tt;
    steps = (refl, subst (Undoes w) (sym steps_are) (undoes w f (keep is_step first) (end_event ∷ unlocks w rows) i.backs (refl, are_unlocks w rows)));
    hindered = i.comes.hindered;
    goes_on = i.comes.goes_on;
    structure = λ e. any_append is_structure first (end_event ∷ unlocks w rows) i.structure (unlocks_structure w rows);
    logs = syncs_more (IsTightSomewhere g) g first (end_event ∷ unlocks w rows) s0_state false i.syncs (syncs_none (IsTightSomewhere g) g (end_event ∷ unlocks w rows) s (unlocks_logs w rows));
    refused = tt;
    scans = tt;
    released = λ e j. ap (λ (t : State). holds_row (t.row j) w) last_state ∙ i.released j;
  }

  -- ## The disk

  here : state_after g (front xs ++ first) ≡ s
  here = run_more g (start g) (front xs) first

  behind : state_after g (front xs ++ (first ++ end_event ∷ [])) ≡ happens g s end_event
  behind = run_more g (start g) (front xs) (first ++ end_event ∷ []) ∙ (run_more g s0_state first (end_event ∷ []) ∙ if_met (may g s end_event) end_met s (happens g s end_event))

  records : Records w (entry_of w r) (state_after g (front xs ++ first)) (state_after g (front xs ++ (first ++ end_event ∷ [])))
  records = subst (λ (t : State). Records w (entry_of w r) t (state_after g (front xs ++ (first ++ end_event ∷ [])))) (sym here)
      (subst (λ (t : State). Records w (entry_of w r) s t) (sym behind) (record {
        entries = ap (λ (e : Entry). e ∷ s.entries) (sym i.entry);
        kind = ap (λ (e : Entry). is_record e.kind) i.entry;
        log = refl;
        saved = λ q. refl;
        flushed = λ v. refl;
        head = λ v. refl;
        floor = refl;
      }))

  pub abort_laws : EveryVersion → (s0 : Crash) (k : Known) (old mid new : Story) → Between l g group xs s0 k old → (a : Known) → Gone g xs first s0 k old a mid → AbortLaws l g group xs s0 k c first w number at f rows r a old mid new
  abort_laws versions s0 k old mid new b a gone = record {
    answered = λ log stages on.
        let q = stage l g group xs s0 k old mid new first a b end_event w r log gone (record { low = i.low; high = i.high; event = refl; records = records; stages = stages; on = on }) in
        let n = with_log a w log q.0 in
        let y = subst (λ z. Gone g xs z s0 k old n new) (append_assoc first (end_event ∷ []) (unlocks w rows))
        (quiet l g group xs s0 k old new new (first ++ end_event ∷ []) n b versions (unlocks w rows) (unlocks_quiet w rows) q.1) in
        record { answer = tells; known = n; no_earlier = y.no_earlier; stands = y.stands; notes = y.notes; any_moment = y.any_moment };
    unstaged = λ on. Nothing (first ++ [])
        (subst (λ (z : List Event). (v : ℕ) → commits (marks g s0_state z v []) ≡ false) (sym (append-nil first)) (λ v. ap commits (first_told v) ∙ commits_backs (w == v) backs))
        (whole l g group xs s0 k old mid new first a b [] gone (on_log l g group xs s0 k old mid new first a b [] w i.low i.high gone on));
  }

pub every_abort : EveryVersion → (old mid new : Story) → EveryAbort old mid new
every_abort versions old mid new l g group xs s0 k a c first w number at f rows r b gone i = abort_laws l g group xs c first w number at f rows r i versions s0 k old mid new b a gone
