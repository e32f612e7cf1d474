-- A commit in a run: which outcome it is, or what is left where the log's device failed.
use Rattle.std.proofs.Common.{◌≡◌, ◌∙◌, ◌≤◌, ◌<◌, ◌^◌, ◌++◌, ◌||◌, ℕ, suc, cond, leb, Bool, true, false, List, [], ◌∷◌, length, Some, None, ap, refl, sym, subst, arith}
use Rattle.std.proofs.lemmas.List.{length-append}
use Rattle.map_model.proofs.ListLemmas.{upd_same}
use Rattle.map_model.specs.Lists.{all, any}
use Rattle.map_model.specs.declared.call.Answer.TheVariants as answer
use Rattle.map_model.specs.declared.call.Call.{Call}
use Rattle.map_model.specs.declared.call.Call.TheVariants as call
use Rattle.map_model.specs.declared.call.Refusal.{Refusal}
use Rattle.map_model.specs.declared.call.Refusal.TheVariants as refusal
use Rattle.rfa_model.specs.Reaches.{least}
use Rattle.paged_desks.specs.core_calls.Fronts.{Done, front, outcomes}
use Rattle.paged_desks.specs.core_calls.LogEvents as log_events
use Rattle.paged_desks.specs.core_calls.Runs.{Tells}
use Rattle.paged_desks.specs.core_calls.Steps.{call_behind, is_structure}
use Rattle.paged_desks.specs.core_state.Events as happening
use Rattle.paged_desks.specs.core_state.Needs.{holds_row}
use Rattle.paged_desks.specs.core_state.Openings.{Opening}
use Rattle.paged_desks.specs.core_state.States.{State}
use Rattle.paged_desks.specs.core_state.Steps.{AllMet, state_after}
use Rattle.paged_desks.specs.disk_image.Records.{entry_of}
use Rattle.paged_desks.specs.disk_runs.Quiet.{is_quiet}
use Rattle.paged_desks.proofs.engine_calls.MoveLemmas.{every_move}
use Rattle.paged_desks.proofs.engine_calls.UnlockLemmas.{unlocks_quiet}
use Rattle.paged_desks.specs.engine_calls.Answers.{EveryAnswer}
use Rattle.paged_desks.specs.engine_calls.Clauses.{IsNewLine}
use Rattle.paged_desks.specs.engine_calls.Commits.{IsCommit, committed_by, ending, flush_if, unlocks}
use Rattle.paged_desks.specs.engine_calls.Entries.{EveryEntry, commit_record}
use Rattle.paged_desks.specs.engine_calls.Parts.{behind_first}
use Rattle.paged_desks.specs.engine_trait.Calls.{is_half_done}
use Rattle.paged_desks.specs.engine_trait.Limits.{limits}
use Rattle.paged_desks.specs.engine_trait.Refusals.{refusal_in}
use Rattle.lean_disk.specs.Story.{IsLawful, Story}
use Rattle.paged_desks.specs.log_record.declared.record.Body.TheVariants as body
use Rattle.paged_desks.specs.log_record.declared.record.Record.{Record}
use Rattle.paged_desks.specs.row_words.declared.event.Event.{Event}
use Rattle.paged_desks.specs.row_words.declared.event.Event.TheVariants as told
use Rattle.paged_desks.specs.row_words.Moments.{events_of}
use Rattle.paged_desks.specs.row_words.Openings.{opening}
use Rattle.paged_desks.specs.rows_trait.declared.view.View.{View}
use Rattle.paged_desks.specs.rows_trait.Views.{Shape, state}
use Rattle.row_ends.proofs.LatchLemmas.{gives_events}
use Rattle.row_ends.specs.Ends.{HasFlushed, gives, waiting_session}
use Rattle.row_ends.specs.Outcomes.{HasEnded, end_record}
use Rattle.row_ends.specs.declared.ending.Ended as replies
use Rattle.paged_desks.specs.session_state.Holds.{Holds, IsOf}
use Rattle.paged_desks.specs.session_state.Staging.{KeepsLog}
use Rattle.paged_desks.specs.session_state.Ties.{Behind}
use Rattle.paged_desks.specs.session_state.declared.session.Session.{Session}
use Rattle.paged_desks.specs.log_calls.Calls.{StagesOn}
use Rattle.paged_desks.specs.worker_log.Calls.{After}
use Rattle.paged_desks.specs.worker_log.Logs.{Log}
use Rattle.paged_desks.proofs.call_parts.JoinLemmas.{every_join}
use Rattle.paged_desks.proofs.call_parts.OwnLemmas.{every_own}
use Rattle.paged_desks.proofs.call_parts.RunLemmas.{behind_more, core_is}
use Rattle.paged_desks.proofs.call_parts.SightLemmas.{every_sight}
use Rattle.paged_desks.proofs.call_parts.StepLemmas.{every_step}
use Rattle.paged_desks.specs.call_parts.Deeds.{Answers}
use Rattle.paged_desks.specs.call_parts.Rooms.{ChangesTree}
use Rattle.paged_desks.specs.call_parts.Laws.{EveryEnter}
use Rattle.paged_desks.specs.call_parts.Memory.{Memory, with_own}
use Rattle.paged_desks.specs.call_parts.Parts.{Failed, Part}
use Rattle.paged_desks.specs.call_parts.Steps.{Sees, SeesBetween}
use Rattle.paged_desks.proofs.EndingLemmas.{Grounds, grows_none}

-- ## Parts, with what is in memory

module _ (l : Grounds) (enter : EveryEnter) {D : Type 0} (story : D → Story) (lawful : (d : D) → IsLawful (story d)) (many : ℕ) (v u : View) (x : Session) (was : Memory) (log mid : Log) (log_is : was.log x.own ≡ log) (old at : D) (low : 0 < x.own) (high : x.own ≤ many) (workers : (opening v.given).workers ≡ many)
    (is_of : IsOf x ((state v).core.worker x.own)) (reply : replies.Ended) (e : HasEnded reply true v u x log mid (story old) (story at)) where
  abbrev own : ℕ
  own = x.own

  abbrev end_event : Event
  end_event = told.End own true e.floor

  abbrev later : List Event
  later = gives own e.ended.rows

  abbrev events : List Event
  events = end_event ∷ later

  -- as the core has them
  pub events_are : events_of events ≡ ending own e.floor e.ended.rows
  events_are = ap (λ ys. happening.Event.End own true e.floor ∷ ys) (gives_events own e.ended.rows)

  sees : Sees (end_event ∷ [] ++ later) v u
  sees = record { given = e.ended.given; seen = e.ended.seen; met = subst (AllMet (opening v.given) (state v).core) (sym events_are) e.ended.met }

  between : SeesBetween (end_event ∷ []) later v u
  between = (every_sight (end_event ∷ []) later v u u).split sees

  record_is : end_record true x e.floor ≡ commit_record ((state v).core.worker own) e.floor
  record_is = λ i. record { txn = sym is_of.txn i; gsn = suc (sym is_of.clock i); body = body.Commit (Rattle.rfa_model.specs.Stamps.need_of (sym is_of.debt i) e.floor) }

  abbrev ended : Memory
  ended = with_own own mid was

  staged : Part many (end_event ∷ []) v between.between was ended (story old) (story at)
  staged = (every_own l.reached l.needs (story old) (story at) many own v between.between was mid low high workers).stage end_event (record {
    sees = between.before;
    entry = end_record true x e.floor;
    enters = (enter own v).commit e.floor (end_record true x e.floor) record_is;
    after = subst (λ (k : Log). After (end_record true x e.floor) k mid) (sym log_is) e.after;
    stands = subst (λ (k : Log). StagesOn own (end_record true x e.floor) k mid (story old) (story at)) (sym log_is) e.stands;
    keeps = subst (λ (k : Log). KeepsLog own k (story old) (story at)) (sym log_is) e.keeps;
  })

  quiet : all is_quiet (events_of later) ≡ true
  quiet = subst (λ ys. all is_quiet ys ≡ true) (sym (gives_events own e.ended.rows)) (unlocks_quiet own e.ended.rows)

  given_back : Part many later between.between u ended ended (story at) (story at)
  given_back = (every_step l.reached l.needs l.versions l.kept l.prefixes l.seals (story at) (story at) (lawful at) many between.between u ended).rest later between.behind quiet

  -- the end, and the rows that are given back
  pub end_part : Part many events v u was ended (story old) (story at)
  end_part = (every_join (story old) (story at) (story at) (lawful old) (every_move l.kept l.prefixes l.seals l.versions (story old) (story at) (story at)) many (end_event ∷ []) v between.between u was ended ended).join later staged given_back

  -- ## The flush

  abbrev flush : Event
  flush = told.Flush own (suc x.clock.clock)

  own_is : ended.log own ≡ mid
  own_is = upd_same was.log own mid own refl

  workers_u : (opening u.given).workers ≡ many
  workers_u = subst (λ k. (opening k).workers ≡ many) (sym e.ended.given) workers

  pub flush_part : (w : View) (y : Session) (is : Log) (new : D) → HasFlushed u w (waiting_session x (suc x.clock.clock) (suc x.unflushed)) y mid is (story at) (story new) → KeepsLog own mid (story at) (story new)
      → Part many (events ++ flush ∷ []) v w was (with_own own is ended) (story old) (story new)
  flush_part w y is new f keeps = (every_join (story old) (story at) (story new) (lawful old) (every_move l.kept l.prefixes l.seals l.versions (story old) (story at) (story new)) many events v u w was ended (with_own own is ended)).join (flush ∷ []) end_part
      ((every_own l.reached l.needs (story at) (story new) many own u w ended is low high workers_u).flush (suc x.clock.clock) (record {
        sees = record { given = f.given; seen = f.seen; met = (f.met, tt) };
        within = (let a = ap (λ (k : Log). k.last) own_is in let b = e.last in omega arith);
        after = f.after ∙ ap Rattle.paged_desks.specs.worker_log.Calls.flushed_log (sym own_is);
        stands = subst (λ (k : Log). Rattle.paged_desks.specs.log_calls.Calls.FlushesOn own k is (story at) (story new)) (sym own_is) f.stands;
        keeps = subst (λ (k : Log). KeepsLog own k (story at) (story new)) (sym own_is) keeps;
      }))

  -- or it failed
  pub flush_fails : (new : D) → KeepsLog own mid (story at) (story new) → Failed many false false (events_of events ++ []) v was (story old) (story new)
  flush_fails new keeps = subst (λ (b : Bool × Bool). Failed many b.0 b.1 (events_of events ++ []) v was (story old) (story new)) (λ i. (saves i, syncs i))
      ((every_join (story old) (story at) (story new) (lawful old) (every_move l.kept l.prefixes l.seals l.versions (story old) (story at) (story new)) many events v u u was ended ended).failed false false [] end_part
      ((every_own l.reached l.needs (story at) (story new) many own u u ended mid low high workers_u).fails (subst (λ (k : Log). KeepsLog own k (story at) (story new)) (sym own_is) keeps)))
    where
      unlocks_none : (p : happening.Event → Bool) → ((w i : ℕ) → p (happening.Event.Unlock w i) ≡ false) → (rows : List ℕ) → any p (unlocks own rows) ≡ false
      unlocks_none p h [] = refl
      unlocks_none p h (i ∷ rows) = subst (λ b. (b || any p (unlocks own rows)) ≡ false) (sym (h own i)) (unlocks_none p h rows)

      saves : (any Rattle.paged_desks.specs.call_parts.Areas.is_save (events_of events) || false) ≡ false
      saves = ap (λ ys. any Rattle.paged_desks.specs.call_parts.Areas.is_save ys || false) events_are ∙ ap (λ b. b || false) (unlocks_none Rattle.paged_desks.specs.call_parts.Areas.is_save (λ _ _. refl) e.ended.rows)

      syncs : (any Rattle.paged_desks.specs.core_state.Local.is_sync (events_of events) || false) ≡ false
      syncs = ap (λ ys. any Rattle.paged_desks.specs.core_state.Local.is_sync ys || false) events_are ∙ ap (λ b. b || false) (unlocks_none Rattle.paged_desks.specs.core_state.Local.is_sync (λ _ _. refl) e.ended.rows)

-- ## In a run

refused_never : (n at : ℕ) (why : Refusal) → answer.Committed n at ≡ answer.Refused why → ⊥
refused_never n at why e = absurd (cc)

none_is : (r : Refusal) → None ≡ Some r → ⊥
none_is r e = absurd (cc)

length_unlocks : (w : ℕ) (rows : List ℕ) → length (unlocks w rows) ≡ length rows
length_unlocks w [] = refl
length_unlocks w (i ∷ rows) = ap suc (length_unlocks w rows)

module _ (l : Grounds) (answers : EveryAnswer) (entries : EveryEntry) (g : Opening) (group : ℕ) (xs : List Done) (line : IsNewLine (outcomes xs)) (z : Shape) (v u : View) (x : Session) (log mid : Log) (h : Holds z v x log) (opened : x.is_open ≡ true) (start : Behind g xs [] v) (group_is : group ≡ x.group) (whole : is_half_done x.own xs ≡ false)
    (reply : replies.Ended) (old at : Story) (e : HasEnded reply true v u x log mid old at) where
  abbrev owner : ℕ
  owner = x.own

  abbrev number : ℕ
  number = suc x.clock.clock

  abbrev rows : List ℕ
  rows = e.ended.rows

  abbrev s : State
  s = state_after g (front xs)

  core_v : (state v).core ≡ s
  core_v = core_is l.reached l.needs g xs [] v start

  of_s : IsOf x (s.worker owner)
  of_s = subst (λ (k : State). IsOf x (k.worker owner)) core_v h.session

  asks : call_behind (outcomes xs) call.Commit ≡ call.Commit
  asks = Rattle.paged_desks.proofs.EndingLemmas.line_call xs call.Commit line

  told_are : events_of (told.End owner true e.floor ∷ gives owner rows) ≡ ending owner e.floor rows
  told_are = ap (λ ys. happening.Event.End owner true e.floor ∷ ys) (gives_events owner rows)

  abbrev r : Record
  r = end_record true x e.floor

  r_is : r ≡ commit_record (s.worker owner) e.floor
  r_is = λ i. record { txn = sym of_s.txn i; gsn = suc (sym of_s.clock i); body = body.Commit (Rattle.rfa_model.specs.Stamps.need_of (sym of_s.debt i) e.floor) }

  high : owner ≤ g.workers
  high = let q = start.opens.workers in let n = h.rows.workers in let k = h.rows.high in omega arith

  module _ (met : AllMet g s (ending owner e.floor rows)) where
    behind_end : Behind g xs (ending owner e.floor rows) u
    behind_end = subst (λ ys. Behind g xs ys u) told_are (behind_more g xs [] v start (told.End owner true e.floor ∷ gives owner rows) u e.ended.given e.ended.seen (subst (AllMet g s) (sym told_are) met))

    core_u : (state u).core ≡ behind_first g xs (ending owner e.floor rows)
    core_u = core_is l.reached l.needs g xs (ending owner e.floor rows) u behind_end

    pub is_commit : (due : Bool) → leb group (suc x.unflushed) ≡ due → IsCommit g group xs [] owner x.txn number e.floor rows due r
    is_commit due due_is = record {
      line = line;
      low = h.rows.low;
      high = high;
      steps = refl;
      structure = refl;
      logs = refl;
      met = met;
      flushed = e.floor_is ∙ (λ i. least (core_v i).flushed (sym start.opens.workers i));
      whole = whole;
      number_is = sym of_s.txn;
      at_is = ap suc (sym of_s.clock);
      entry = ap (entry_of owner) r_is ∙ (entries g s owner (s.worker owner)).commit e.floor;
      below = let a = ap (λ (k : State). k.flushed owner) core_v in let b = h.flushed in let c = of_s.clock in let d = h.numbers.order in let k = h.numbers.last in omega arith;
      released = λ i. ap (λ (q : State). holds_row (q.row i) owner) (sym core_u) ∙ e.ended.free i;
      due_is = ap (λ n. leb group (suc n)) (ap (λ (q : State). log_events.behind q owner) (sym core_v) ∙ h.behind) ∙ due_is;
    }

    abbrev pub done : Bool → Done
    done due = committed_by [] owner x.txn number e.floor rows due

    pub tells : (due : Bool) → leb group (suc x.unflushed) ≡ due → Tells limits g group xs (done due)
    tells due due_is = (answers limits g group xs).commit [] owner x.txn number e.floor rows due r (is_commit due due_is)

    few_events : (due : Bool) → length (done due).events ≤ 2 ^ 18
    few_events due =
        let c = e.ended.few in
        let d = h.fewer in
        let k = h.rows.few in
        let p = length-append (ending owner e.floor rows) (flush_if due owner number) in
        let n = length_unlocks owner rows in
        let m = one_most due in
        omega arith
      where
        one_most : (due : Bool) → length (flush_if due owner number) ≤ 1
        one_most true = omega arith
        one_most false = omega arith

    no_change : (due : Bool) → any is_structure (done due).events ≡ false
    no_change due = Rattle.paged_desks.proofs.engine_calls.MarkLemmas.any_append is_structure (ending owner e.floor rows) (flush_if due owner number) (none rows) (flush_none due)
      where
        none : (rows : List ℕ) → any is_structure (unlocks owner rows) ≡ false
        none [] = refl
        none (i ∷ rows) = none rows

        flush_none : (due : Bool) → any is_structure (flush_if due owner number) ≡ false
        flush_none true = refl
        flush_none false = refl

    -- no test refuses it
    free : (q : Refusal) → refusal_in g s owner (is_half_done owner xs) log call.Commit ≡ Some q → ⊥
    free q k = none_is q (sym ((λ i. cond (whole i) (Some refusal.NoTransaction) (cond ((of_s.is_open ∙ opened) i) None (Some refusal.NoTransaction)))) ∙ k)

    pub how : (due : Bool) → Answers g xs (done due) log
    how due = record {
      few = few_events due;
      refused = λ why q. absurd (refused_never x.txn number why q);
      kept = λ why q. absurd (refused_never x.txn number why q);
      refuses = λ why sure q. absurd (free why (subst (λ (c : Call). refusal_in g s owner (is_half_done owner xs) log c ≡ Some why) asks q));
      still = λ why q. grows_none (done due).events (no_change due);
      stays = λ why sure q. no_change due;
      room = subst (λ (c : Call). ChangesTree owner g s c (done due).events) (sym asks) (no_change due);
    }
