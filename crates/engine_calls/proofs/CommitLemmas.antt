-- A commit.
use Rattle.std.proofs.Common.{◌≡◌, ◌≤◌, ◌<◌, ℕ, suc, Bool, true, false, cond, ◌==◌, ◌&&◌, ◌||◌, leb, ltb, List, [], ◌∷◌, ◌++◌, length, refl, sym, ap, ◌∙◌, subst, arith, append_assoc, true≢false}
use Rattle.std.proofs.lemmas.Bool.{lt-ltb, le-leb, eq-eqb}
use Rattle.std.proofs.lemmas.List.{append-nil}
use Rattle.map_model.specs.Lists.{any, keep}
use Rattle.map_model.proofs.ListLemmas.{upd_other, upd_same}
use Rattle.run_crashes.specs.image_model.Entries.{Entry, Kind, is_commit, is_record}
use Rattle.run_crashes.specs.core_state.Openings.{Opening}
use Rattle.run_crashes.specs.core_state.States.{Row, State, start}
use Rattle.run_crashes.specs.core_state.Events.{Event}
use Rattle.run_crashes.specs.core_state.Needs.{holds_row, may}
use Rattle.run_crashes.specs.core_state.Steps.{AllMet, end_entry, ends, happens, run, state_after, step}
use Rattle.run_crashes.proofs.core_state.Runs.{met_more, run_more}
use Rattle.lean_disk.specs.Moments.{LeavesOnly}
use Rattle.lean_disk.specs.Story.{Crash, Story}
use Rattle.run_crashes.specs.log_record.declared.record.Record.{Record}
use Rattle.run_crashes.specs.disk_image.Records.{entry_of}
use Rattle.run_crashes.specs.worker_log.Accounts.{Account}
use Rattle.run_crashes.specs.worker_log.Kept.{flushed}
use Rattle.run_crashes.specs.worker_log.Logs.{Log}
use Rattle.run_crashes.specs.core_disk.Versions.{EveryVersion}
use Rattle.run_crashes.specs.core_calls.Deeds.{commits}
use Rattle.run_crashes.specs.core_calls.Fronts.{AreFresh, Done, front, outcomes}
use Rattle.run_crashes.specs.core_calls.LogEvents.{Flushes, behind, is_log}
use Rattle.run_crashes.specs.core_calls.Marks.{Ended, marks}
use Rattle.run_crashes.specs.core_calls.Refusals.{Limits}
use Rattle.run_crashes.specs.core_calls.Runs.{Tells}
use Rattle.run_crashes.specs.core_calls.Steps.{is_step, is_structure}
use Rattle.run_crashes.specs.disk_runs.Laws.{with_log}
use Rattle.run_crashes.specs.disk_runs.Logs.{Flushes as FlushesLog, Records}
use Rattle.run_crashes.specs.disk_runs.Stands.{Known}
use Rattle.log_calls.specs.Calls.{FlushesOn}
use Rattle.run_crashes.specs.Lines.{CallLeaves}
use Rattle.engine_calls.specs.Clauses.{Between, CallAnswers, Nothing, OnLog, Part}
use Rattle.engine_calls.specs.Commits.{CommitLaws, EndStaged, EveryCommit, IsCommit, committed_by, ending, flush_if, unlocks}
use Rattle.engine_calls.specs.Parts.{Gone, behind_first}
use Rattle.engine_calls.proofs.ComingLemmas.{follows, goes_on}
use Rattle.engine_calls.proofs.MarkLemmas.{any_append, commits_none, fresh_append, has_mark, keep_append, keep_none, marks_last, met_first, met_join, steps_none}
use Rattle.engine_calls.proofs.PartLemmas.{flush, on_log, quiet, stage, whole}
use Rattle.engine_calls.proofs.UnlockLemmas.{are_unlocks, entries_same, flushed_same, fresh_behind, if_met, met_behind, no_log, no_marks, no_structure, row_same, steps_are, unlocks_quiet}

both_true : (p q : Bool) → p ≡ true → q ≡ true → (p && q) ≡ true
both_true true q x y = y
both_true false q x y = x

one_true : (p q : Bool) → p ≡ true → (p || q) ≡ true
one_true true q x = refl
one_true false q x = absurd (true≢false (sym x))

module _ (l : Limits) (g : Opening) (group : ℕ) (xs : List Done) (first : List Event) (w number at f : ℕ) (rows : List ℕ) (due : Bool) (r : Record) (i : IsCommit g group xs first w number at f rows due r) where
  abbrev start_state : State
  start_state = state_after g (front xs)

  -- where it ends
  abbrev s : State
  s = behind_first g xs first

  abbrev end_event : Event
  end_event = Event.End w true f

  abbrev entry : Entry
  entry = end_entry Kind.Commit w (s.worker w) f

  abbrev ended : State
  ended = ends s w entry

  abbrev done : Done
  done = committed_by first w number at f rows due

  -- all but the flush
  abbrev lead : List Event
  lead = first ++ ending w f rows

  end_met : may g s end_event ≡ true
  end_met = (met_more g start_state first (ending w f rows) i.met).0

  step_end : step g s end_event ≡ ended
  step_end = if_met (may g s end_event) end_met s ended

  here : state_after g (front xs ++ first) ≡ s
  here = run_more g (start g) (front xs) first

  silent : any has_mark first ≡ false
  silent = steps_none first i.steps

  -- ## Behind the rows that are given back

  abbrev mid_state : State
  mid_state = run g s (ending w f rows)

  lead_state : run g start_state lead ≡ mid_state
  lead_state = run_more g start_state first (ending w f rows)

  mid_is : mid_state ≡ run g ended (unlocks w rows)
  mid_is = ap (λ (t : State). run g t (unlocks w rows)) step_end

  mid_entries : mid_state.entries ≡ entry ∷ s.entries
  mid_entries = ap (λ (t : State). t.entries) mid_is ∙ entries_same g w rows ended

  mid_flushed : mid_state.flushed ≡ s.flushed
  mid_flushed = ap (λ (t : State). t.flushed) mid_is ∙ flushed_same g w rows ended

  -- the log is not flushed beyond the clock
  low_flushed : s.flushed w < at
  low_flushed =
      let c = i.below in
      let n = i.at_is in
      omega arith

  -- the records that the flush is of
  abbrev is_flushed : Entry → Bool
  is_flushed e = is_record e.kind && ((e.log == w) && (e.number == at))

  flush_met : may g mid_state (Event.Flush w at) ≡ true
  flush_met = both_true (leb (mid_state.flushed w) at) (any is_flushed mid_state.entries)
      (le-leb (mid_state.flushed w) at (subst (λ (h : ℕ → ℕ). h w ≤ at) (sym mid_flushed) (let q = low_flushed in omega arith)))
      (subst (λ (h : List Entry). any is_flushed h ≡ true) (sym mid_entries)
      (one_true (is_flushed entry) (any is_flushed s.entries) (both_true (w == w) (suc (s.worker w).clock == at) (eq-eqb w w refl) (eq-eqb (suc (s.worker w).clock) at (sym i.at_is)))))

  -- ## Where a flush is due

  -- a commit of the log that waits, where it is flushed so far
  abbrev waits : (ℕ → ℕ) → Entry → Bool
  waits h e = is_commit e.kind && ((e.log == w) && ltb (h w) e.number)

  -- one more waits
  one_more : behind mid_state w ≡ suc (behind s w)
  one_more = ap (λ (h : ℕ → ℕ). length (keep (waits h) mid_state.entries)) mid_flushed
      ∙ (ap (λ (es : List Entry). length (keep (waits s.flushed) es)) mid_entries ∙ go (waits s.flushed entry) is_one)
    where
      is_one : waits s.flushed entry ≡ true
      is_one = both_true (w == w) (ltb (s.flushed w) (suc (s.worker w).clock)) (eq-eqb w w refl)
          (lt-ltb (s.flushed w) (suc (s.worker w).clock) (subst (λ (n : ℕ). s.flushed w < n) i.at_is low_flushed))

      go : (c : Bool) → c ≡ true → length (cond c (entry ∷ keep (waits s.flushed) s.entries) (keep (waits s.flushed) s.entries)) ≡ suc (length (keep (waits s.flushed) s.entries))
      go true e = refl
      go false e = absurd (true≢false (sym e))

  logs : Flushes g group start_state w at done.events
  logs = record {
    before = lead;
    is = ap (λ (c : Bool). lead ++ flush_if c w at) (sym (ap (λ (t : State). leb group (behind t w)) lead_state ∙ (ap (leb group) one_more ∙ i.due_is)));
    else_none = any_append is_log first (ending w f rows) i.logs (no_log w rows);
  }

  -- ## The answer

  -- its own events
  abbrev own : List Event
  own = ending w f rows ++ flush_if due w at

  events_are : done.events ≡ first ++ own
  events_are = append_assoc first (ending w f rows) (flush_if due w at)

  told : (v : ℕ) → marks g start_state done.events v [] ≡ cond (w == v) (Ended true number at ∷ []) []
  told v = ap (λ (es : List Event). marks g start_state es v []) events_are
      ∙ (marks_last g start_state first own v silent
      ∙ (no_marks g due w at rows (step g s end_event) v (cond (may g s end_event) (cond (w == v) (Ended true (s.worker w).txn (suc (s.worker w).clock) ∷ []) []) [])
      ∙ go (may g s end_event) end_met (w == v)))
    where
      go : (a : Bool) → a ≡ true → (c : Bool) → cond a (cond c (Ended true (s.worker w).txn (suc (s.worker w).clock) ∷ []) []) [] ≡ cond c (Ended true number at ∷ []) []
      go true e true = ap (λ (n : ℕ). Ended true n (suc (s.worker w).clock) ∷ []) (sym i.number_is) ∙ ap (λ (n : ℕ). Ended true number n ∷ []) (sym i.at_is)
      go true e false = refl
      go false e c = absurd (true≢false (sym e))

  own_met : AllMet g s own
  own_met = (end_met, met_behind g due w at rows (step g s end_event) (met_more g start_state first (ending w f rows) i.met).1 flush_met)

  own_steps : keep is_step (first ++ own) ≡ ending w f rows
  own_steps = keep_append is_step first own ∙ (ap (λ (es : List Event). es ++ keep is_step own) (keep_none is_step first i.steps) ∙ ap (λ (es : List Event). end_event ∷ es) (steps_are due w at rows))

  last_state : state_after g (front xs ++ done.events) ≡ run g (run g start_state lead) (flush_if due w at)
  last_state = run_more g (start g) (front xs) done.events ∙ run_more g start_state lead (flush_if due w at)

  pub tells : Tells l g group xs done
  tells = record {
    met = subst (AllMet g start_state) (sym events_are) (met_join g start_state first own (met_first g start_state first (ending w f rows) i.met) own_met);
    fresh = subst (AreFresh g start_state) (sym events_are) (fresh_append g start_state first own silent (i.flushed, fresh_behind g due w at rows (step g s end_event)));
    told = told;
    in_turn = i.whole;
    steps = (refl, f, unlocks w rows, ap (keep is_step) events_are ∙ own_steps, are_unlocks w rows);
    hindered = follows (outcomes xs) done.outcome i.line tt;
    goes_on = goes_on (outcomes xs) done.outcome i.line;
    structure = λ e. ap (any is_structure) events_are ∙ any_append is_structure first own i.structure (no_structure due w at rows);
    logs = logs;
    refused = tt;
    scans = tt;
    released = λ e j. ap (λ (o : Row). holds_row o w) (ap (λ (t : State). t.row j) last_state ∙ row_same g due w at (run g start_state lead) j) ∙ i.released j;
  }

  -- ## Its events on the disk

  behind_end : state_after g (front xs ++ (first ++ end_event ∷ [])) ≡ ended
  behind_end = run_more g (start g) (front xs) (first ++ end_event ∷ []) ∙ (run_more g start_state first (end_event ∷ []) ∙ step_end)

  records : Records w (entry_of w r) (state_after g (front xs ++ first)) (state_after g (front xs ++ (first ++ end_event ∷ [])))
  records = subst (λ (t : State). Records w (entry_of w r) t (state_after g (front xs ++ (first ++ end_event ∷ [])))) (sym here)
      (subst (λ (t : State). Records w (entry_of w r) s t) (sym behind_end) (record {
        entries = ap (λ (e : Entry). e ∷ s.entries) (sym i.entry);
        kind = ap (λ (e : Entry). is_record e.kind) i.entry;
        log = refl;
        saved = λ p. refl;
        flushed = λ v. refl;
        head = λ v. refl;
        floor = refl;
      }))

  lead_run : state_after g (front xs ++ lead) ≡ mid_state
  lead_run = run_more g (start g) (front xs) lead ∙ lead_state

  behind_flush : state_after g (front xs ++ (lead ++ Event.Flush w at ∷ [])) ≡ happens g mid_state (Event.Flush w at)
  behind_flush = run_more g (start g) (front xs) (lead ++ Event.Flush w at ∷ [])
      ∙ (run_more g start_state lead (Event.Flush w at ∷ []) ∙ (ap (λ (t : State). step g t (Event.Flush w at)) lead_state ∙ if_met (may g mid_state (Event.Flush w at)) flush_met mid_state (happens g mid_state (Event.Flush w at))))

  flushes : FlushesLog w at (state_after g (front xs ++ lead)) (state_after g (front xs ++ (lead ++ Event.Flush w at ∷ [])))
  flushes = subst (λ (t : State). FlushesLog w at t (state_after g (front xs ++ (lead ++ Event.Flush w at ∷ [])))) (sym lead_run)
      (subst (λ (t : State). FlushesLog w at mid_state t) (sym behind_flush) (record {
        entries = refl;
        saved = λ p. refl;
        here = upd_same mid_state.flushed w at w refl;
        flushed = λ v ne. upd_other mid_state.flushed w at v ne;
        head = λ v. refl;
        floor = refl;
      }))

  number_of : (log : Log) → log.last ≡ r.gsn → log.last ≡ at
  number_of log q = q ∙ (ap (λ (e : Entry). e.number) i.entry ∙ sym i.at_is)

  with_flush : due ≡ true → lead ++ Event.Flush w at ∷ [] ≡ done.events
  with_flush e = ap (λ (d : Bool). lead ++ flush_if d w at) (sym e)

  without_flush : due ≡ false → lead ≡ done.events
  without_flush e = sym (append-nil lead) ∙ ap (λ (d : Bool). lead ++ flush_if d w at) (sym e)

  -- ## Over a disk that stands for the events before the end

  module _ (s0 : Crash) (k a : Known) (old now : Story) (b : Between l g group xs s0 k old) (gone : Gone g xs first s0 k old a now) where
    -- the end was staged, and the rows given back
    to_lead : EveryVersion → (mid : Story) (log : Log) → EndStaged w r (a.log w) log now mid → (y : Account) × Gone g xs lead s0 k old (with_log a w log y) mid
    to_lead versions mid log x =
        let q = stage l g group xs s0 k old now mid first a b end_event w r log gone (record { low = i.low; high = i.high; event = refl; records = records; stages = x.stages; on = x.stage }) in (
          q.0,
          subst (λ (z : List Event). Gone g xs z s0 k old (with_log a w log q.0) mid) (append_assoc first (end_event ∷ []) (unlocks w rows))
              (quiet l g group xs s0 k old mid mid (first ++ end_event ∷ []) (with_log a w log q.0) b versions (unlocks w rows) (unlocks_quiet w rows) q.1),
        )

    -- the log, as it is known where the end is staged
    known_log : (log : Log) (y : Account) → (with_log a w log y).log w ≡ log
    known_log log y = upd_same a.log w log w refl

    -- where the call has come to the last of its events it is answered
    ends_so : (es : List Event) → es ≡ done.events → (c : Known) (new : Story) → Gone g xs es s0 k old c new → CallAnswers l g group xs done s0 k old new
    ends_so es is c new x = let y = subst (λ (z : List Event). Gone g xs z s0 k old c new) is x in
        record { answer = tells; known = c; no_earlier = y.no_earlier; stands = y.stands; notes = y.notes; any_moment = y.any_moment }

    pub commit_laws : EveryVersion → (mid new : Story) → CommitLaws l g group xs s0 k a done w due r old now mid new
    commit_laws versions mid new = record {
      flushed = λ e mid_log log x y.
          let st = to_lead versions mid mid_log x in
          let c = with_log a w mid_log st.0 in
          ends_so (lead ++ Event.Flush w at ∷ []) (with_flush e) (with_log c w log (flushed (c.account w))) new
          (flush l g group xs s0 k old mid new lead c b (Event.Flush w at) w at log st.1 (record {
            low = i.low;
            high = i.high;
            event = refl;
            flushes = flushes;
            within = subst (λ (z : Log). at ≤ z.last) (sym (known_log mid_log st.0)) (let q = number_of mid_log x.last in omega arith);
            call = subst (λ (z : Log). FlushesOn w z log mid new) (sym (known_log mid_log st.0)) y.flushes;
            on = subst (λ (z : Log). OnLog w z mid new) (sym (known_log mid_log st.0)) y.flush;
          }));
      unflushed = λ e mid_log x on.
          let st = to_lead versions mid mid_log x in
          let c = with_log a w mid_log st.0 in
          Part done tells (subst (λ (z : List Event). LeavesOnly old new (CallLeaves g xs z s0 k.master)) (with_flush e)
          (whole l g group xs s0 k old mid new lead c b (Event.Flush w at ∷ []) st.1
          (on_log l g group xs s0 k old mid new lead c b (Event.Flush w at ∷ []) w i.low i.high st.1 (subst (λ (z : Log). OnLog w z mid new) (sym (known_log mid_log st.0)) on))));
      staged = λ e log x. let st = to_lead versions new log x in ends_so lead (without_flush e) (with_log a w log st.0) new st.1;
      unstaged = λ on. Nothing (first ++ [])
          (subst (λ (z : List Event). (v : ℕ) → commits (marks g start_state z v []) ≡ false) (sym (append-nil first)) (commits_none g start_state first silent))
          (whole l g group xs s0 k old now new first a b [] gone (on_log l g group xs s0 k old now new first a b [] w i.low i.high gone on));
    }

pub every_commit : EveryVersion → (old now mid new : Story) → EveryCommit old now mid new
every_commit versions old now mid new l g group xs s0 k a first w number at f rows due r b gone i = commit_laws l g group xs first w number at f rows due r i s0 k a old now b gone versions mid new
