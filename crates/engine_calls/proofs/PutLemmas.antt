-- A put, and a del of a key that is there.
use Rattle.std.proofs.Common.{◌≡◌, ℕ, Bool, true, false, cond, ◌==◌, ltb, List, [], ◌∷◌, ◌++◌, Option, Some, refl, sym, ap, ◌∙◌, subst, arith, true≢false}
use Rattle.std.proofs.lemmas.Bool.{lt-ltb, le-ltb}
use Rattle.map_model.specs.declared.call.Call.{Call}
use Rattle.map_model.specs.declared.call.Call.TheVariants as call
use Rattle.map_model.specs.Lists.{keep}
use Rattle.map_model.specs.Maps.{MapCall, MapAnswer}
use Rattle.run_crashes.specs.image_model.Entries.{Entry, is_record}
use Rattle.run_crashes.specs.image_model.Histories.{write_call}
use Rattle.run_crashes.specs.core_state.Openings.{Opening}
use Rattle.run_crashes.specs.core_state.States.{State, start}
use Rattle.run_crashes.specs.core_state.Events.{Event, Mode}
use Rattle.run_crashes.specs.core_state.Needs.{may, value_in}
use Rattle.run_crashes.specs.core_state.Steps.{happens, state_after}
use Rattle.run_crashes.proofs.core_state.Runs.{met_more, run_more}
use Rattle.lean_disk.specs.Story.{Crash, Story}
use Rattle.run_crashes.specs.log_record.declared.record.Record.{Record}
use Rattle.run_crashes.specs.disk_image.Records.{entry_of}
use Rattle.run_crashes.specs.core_calls.Deeds.{Changed, Deleted}
use Rattle.run_crashes.specs.core_calls.Fronts.{AreFresh, Done, front, outcomes}
use Rattle.run_crashes.specs.core_calls.Marks.{Called, marks}
use Rattle.run_crashes.specs.core_calls.Refusals.{Limits}
use Rattle.run_crashes.specs.core_calls.Runs.{Tells}
use Rattle.run_crashes.specs.core_calls.Steps.{is_step}
use Rattle.run_crashes.specs.disk_runs.Laws.{with_log}
use Rattle.run_crashes.specs.disk_runs.Logs.{Records}
use Rattle.run_crashes.specs.disk_runs.Stands.{Known}
use Rattle.engine_calls.specs.Clauses.{Between}
use Rattle.engine_calls.specs.Parts.{Gone, behind_first}
use Rattle.engine_calls.specs.Clauses.{Nothing}
use Rattle.engine_calls.specs.Puts.{EveryPut, IsWrite, WriteLaws, changed_by, taking}
use Rattle.engine_calls.proofs.ComingLemmas.{follows, goes_on}
use Rattle.run_crashes.specs.core_calls.LogEvents.{IsPressed}
use Rattle.run_crashes.proofs.core_calls.WhereLemmas.{syncs_more}
use Rattle.engine_calls.proofs.MarkLemmas.{commits_none, first_none, first_steps, fresh_append, marks_last}
use Rattle.engine_calls.proofs.PartLemmas.{on_log, stage, whole}
use Rattle.engine_calls.proofs.UnlockLemmas.{if_met}

module _ (l : Limits) (g : Opening) (group : ℕ) (xs : List Done) (c : Call) (before between : List Event) (w page key word : ℕ) (was : Option ℕ) (r : Record) (i : IsWrite g xs c before between w page key word was r) where
  abbrev first : List Event
  first = taking g w key Mode.Alone before between

  -- where it is changed
  abbrev s : State
  s = behind_first g xs first

  abbrev event : Event
  event = Event.Change w page key word

  met : may g s event ≡ true
  met = (met_more g (state_after g (front xs)) first (event ∷ []) i.met).0

  told : (c : MapCall) → write_call g.format key word ≡ c → (v : ℕ) → marks g (state_after g (front xs)) (first ++ event ∷ []) v [] ≡ cond (w == v) (Called c (MapAnswer.Was was) true ∷ []) []
  told c q v = marks_last g (state_after g (front xs)) first (event ∷ []) v (first_none w (g.row_of key) Mode.Alone before between i.before_steps i.between_steps) ∙ go (may g s event) met (w == v)
    where
      go : (a : Bool) → a ≡ true → (b : Bool) → cond a (cond b (Called (write_call g.format key word) (MapAnswer.Was (value_in g.format (s.page page).node key)) true ∷ []) []) []
          ≡ cond b (Called c (MapAnswer.Was was) true ∷ []) []
      go true e true = ap (λ (o : Option ℕ). Called (write_call g.format key word) (MapAnswer.Was o) true ∷ []) (sym i.was_is) ∙ ap (λ (x : MapCall). Called x (MapAnswer.Was was) true ∷ []) q
      go true e false = refl
      go false e b = absurd (true≢false (sym e))

  fresh : AreFresh g (state_after g (front xs)) (first ++ event ∷ [])
  fresh = fresh_append g (state_after g (front xs)) first (event ∷ []) (first_none w (g.row_of key) Mode.Alone before between i.before_steps i.between_steps) (tt, tt)

  steps : keep is_step (first ++ event ∷ []) ≡ Event.Lock w (g.row_of key) Mode.Alone ∷ event ∷ []
  steps = first_steps w (g.row_of key) Mode.Alone before between i.before_steps i.between_steps event refl

  -- the state where it is changed, and the one behind that, as runs
  here : state_after g (front xs ++ first) ≡ s
  here = run_more g (start g) (front xs) first

  behind : state_after g (front xs ++ (first ++ event ∷ [])) ≡ happens g s event
  behind = run_more g (start g) (front xs) (first ++ event ∷ []) ∙ (run_more g (state_after g (front xs)) first (event ∷ []) ∙ if_met (may g s event) met s (happens g s event))

  records : Records w (entry_of w r) (state_after g (front xs ++ first)) (state_after g (front xs ++ (first ++ event ∷ [])))
  records = subst (λ (t : State). Records w (entry_of w r) t (state_after g (front xs ++ (first ++ event ∷ [])))) (sym here)
      (subst (λ (t : State). Records w (entry_of w r) s t) (sym behind) (record {
        entries = ap (λ (e : Entry). e ∷ s.entries) (sym i.entry);
        kind = ap (λ (e : Entry). is_record e.kind) i.entry;
        log = refl;
        saved = λ q. refl;
        flushed = λ v. refl;
        head = λ v. refl;
        floor = refl;
      }))

  pub write_laws : (s0 : Crash) (k : Known) (old mid new : Story) → Between l g group xs s0 k old → (a : Known) → Gone g xs first s0 k old a mid → (x : Done) → first ++ event ∷ [] ≡ x.events → Tells l g group xs x
      → WriteLaws l g group xs s0 k w r a x old mid new
  write_laws s0 k old mid new b a gone x is tells = record {
    answered = λ log stages on.
        let q = stage l g group xs s0 k old mid new first a b event w r log gone (record { low = i.low; high = i.high; event = refl; records = records; stages = stages; on = on }) in
        let y = subst (λ z. Gone g xs z s0 k old (with_log a w log q.0) new) is q.1 in
        record { answer = tells; known = with_log a w log q.0; no_earlier = y.no_earlier; stands = y.stands; notes = y.notes; any_moment = y.any_moment };
    unstaged = λ on. Nothing (first ++ [])
        (subst (λ (z : List Event). (v : ℕ) → Rattle.run_crashes.specs.core_calls.Deeds.commits (marks g (state_after g (front xs)) z v []) ≡ false) (sym (Rattle.std.proofs.lemmas.List.append-nil first))
        (commits_none g (state_after g (front xs)) first (first_none w (g.row_of key) Mode.Alone before between i.before_steps i.between_steps)))
        (whole l g group xs s0 k old mid new first a b [] gone (on_log l g group xs s0 k old mid new first a b [] w i.low i.high gone on));
  }

-- the word that marks a deletion is no value
pub not_below : (n : ℕ) → ltb n n ≡ false
not_below n = le-ltb n n (omega arith)

pub put_tells : (l : Limits) (g : Opening) (group : ℕ) (xs : List Done) (before between : List Event) (w page key value : ℕ) (was : Option ℕ) (r : Record)
    → IsWrite g xs (call.Put key value) before between w page key value was r → write_call g.format key value ≡ MapCall.Put key value
    → Tells l g group xs (changed_by (Changed key value was) (taking g w key Mode.Alone before between) w page key value)
put_tells l g group xs before between w page key value was r i q =
    let first = taking g w key Mode.Alone before between in
    let done = changed_by (Changed key value was) first w page key value in
    record {
      met = i.met;
      fresh = fresh l g group xs (call.Put key value) before between w page key value was r i;
      told = told l g group xs (call.Put key value) before between w page key value was r i (MapCall.Put key value) q;
      in_turn = i.whole;
      steps = (refl, page, steps l g group xs (call.Put key value) before between w page key value was r i);
      hindered = follows (outcomes xs) done.outcome i.line tt;
      goes_on = goes_on (outcomes xs) done.outcome i.line;
      structure = λ e. absurd (true≢false e);
      logs = syncs_more (IsPressed g (call.Put key value)) g first (Event.Change w page key value ∷ []) (state_after g (front xs)) false i.syncs tt;
      refused = tt;
      scans = tt;
      released = λ e. absurd (true≢false (sym e));
    }

pub del_tells : (l : Limits) (g : Opening) (group : ℕ) (xs : List Done) (before between : List Event) (w page key was : ℕ) (r : Record)
    → IsWrite g xs (call.Del key) before between w page key g.format.dead (Some was) r → write_call g.format key g.format.dead ≡ MapCall.Del key
    → Tells l g group xs (changed_by (Deleted key was) (taking g w key Mode.Alone before between) w page key g.format.dead)
del_tells l g group xs before between w page key was r i q =
    let first = taking g w key Mode.Alone before between in
    let done = changed_by (Deleted key was) first w page key g.format.dead in
    record {
      met = i.met;
      fresh = fresh l g group xs (call.Del key) before between w page key g.format.dead (Some was) r i;
      told = told l g group xs (call.Del key) before between w page key g.format.dead (Some was) r i (MapCall.Del key) q;
      in_turn = i.whole;
      steps = (refl, page, steps l g group xs (call.Del key) before between w page key g.format.dead (Some was) r i);
      hindered = follows (outcomes xs) done.outcome i.line tt;
      goes_on = goes_on (outcomes xs) done.outcome i.line;
      structure = λ e. absurd (true≢false e);
      logs = syncs_more (IsPressed g (call.Del key)) g first (Event.Change w page key g.format.dead ∷ []) (state_after g (front xs)) false i.syncs tt;
      refused = tt;
      scans = tt;
      released = λ e. absurd (true≢false (sym e));
    }

pub every_put : (old mid new : Story) → EveryPut old mid new
every_put old mid new l g group xs s0 k before between w page key b = record {
  put = λ a value was r gone i within.
      let first = taking g w key Mode.Alone before between in
      write_laws l g group xs (call.Put key value) before between w page key value was r i s0 k old mid new b a gone (changed_by (Changed key value was) first w page key value) refl
      (put_tells l g group xs before between w page key value was r i (ap (λ (c : Bool). cond c (MapCall.Put key value) (MapCall.Del key)) (lt-ltb value g.format.dead within)));
  del = λ a was r gone i.
      let first = taking g w key Mode.Alone before between in
      write_laws l g group xs (call.Del key) before between w page key g.format.dead (Some was) r i s0 k old mid new b a gone (changed_by (Deleted key was) first w page key g.format.dead) refl
      (del_tells l g group xs before between w page key was r i (ap (λ (c : Bool). cond c (MapCall.Put key g.format.dead) (MapCall.Del key)) (not_below g.format.dead)));
}
