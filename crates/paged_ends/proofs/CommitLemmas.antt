-- A commit in every run, by its answer.
use Rattle.std.proofs.Common.{◌≡◌, ◌∙◌, ◌≤◌, ◌<◌, ◌⊎◌, inl, inr, ◌++◌, ℕ, suc, Bool, true, false, List, [], ◌∷◌, ap, refl, sym, subst, arith, append-nil, true≢false}
use Rattle.std.proofs.lemmas.Bool.{cases_eq, le-leb, lt-leb}
use Rattle.map_model.proofs.ListLemmas.{upd_other, upd_same}
use Rattle.map_model.specs.Lists.{upd}
use Rattle.map_model.specs.declared.call.Answer.TheVariants as answer
use Rattle.map_model.specs.declared.call.Call.{Call}
use Rattle.map_model.specs.declared.call.Call.TheVariants as call
use Rattle.paged_desks.specs.core_calls.Fronts.{Done, front, outcomes}
use Rattle.paged_desks.specs.core_state.Events as happening
use Rattle.paged_desks.specs.core_state.Openings.{Opening}
use Rattle.paged_desks.specs.core_state.Steps.{AllMet, state_after}
use Rattle.paged_desks.specs.engine_calls.Answers.{EveryAnswer}
use Rattle.paged_desks.specs.engine_calls.Clauses.{IsNewLine}
use Rattle.paged_desks.specs.engine_calls.Commits.{ending}
use Rattle.paged_desks.specs.engine_calls.Entries.{EveryEntry}
use Rattle.paged_desks.specs.engine_trait.Calls.{is_half_done}
use Rattle.lean_disk.specs.Story.{IsLawful, Story}
use Rattle.paged_desks.specs.row_words.declared.event.Event.{Event}
use Rattle.paged_desks.specs.row_words.declared.event.Event.TheVariants as told
use Rattle.paged_desks.specs.row_words.Moments.{events_of}
use Rattle.paged_desks.specs.row_words.Openings.{opening}
use Rattle.paged_desks.specs.rows_trait.declared.view.View.{View}
use Rattle.row_ends.specs.Ends.{gives}
use Rattle.paged_desks.specs.worker_log.Logs.{Log}
use Rattle.row_ends.specs.Outcomes.{FailsToCommit, HasCommitted, IsGrouped}
use Rattle.row_ends.specs.declared.ending.Ended as replies
use Rattle.paged_desks.proofs.session_state.Moments.{events_more}
use Rattle.paged_desks.specs.session_state.Holds.{Holds, IsSameSession}
use Rattle.paged_desks.specs.session_state.Ties.{Behind}
use Rattle.paged_desks.specs.session_state.declared.session.Session.{Session}
use Rattle.paged_desks.proofs.session_desks.DeskLemmas.{desk_own}
use Rattle.paged_desks.proofs.session_desks.SeatLemmas.{holds_of, turn_high, turn_low}
use Rattle.paged_desks.specs.session_desks.Desks.{desk_of}
use Rattle.paged_desks.specs.session_desks.Parts.{here, shape}
use Rattle.paged_desks.specs.session_desks.declared.desk.Desk.{Desk}
use Rattle.paged_desks.proofs.call_parts.MemoryLemmas.{every_memory}
use Rattle.paged_desks.proofs.call_parts.OwnLemmas.{every_own}
use Rattle.paged_desks.proofs.call_parts.SightLemmas.{every_enter}
use Rattle.paged_desks.specs.call_parts.Deeds.{Fails}
use Rattle.paged_desks.specs.call_parts.Memory.{IsSame, with_own}
use Rattle.paged_desks.specs.call_parts.Parts.{Part}
use Rattle.paged_desks.specs.Calls.{AreHalf, DoesTied, IsAside, Tied}
use Rattle.paged_desks.specs.Machines.{IsReady, memory, view_of}
use Rattle.paged_desks.specs.declared.machine.PagedMachine.{PagedMachine}
use Rattle.paged_desks.proofs.AsideLemmas.{memory_aside, other_desk, own_desk}
use Rattle.paged_desks.proofs.EndingLemmas.{Grounds, begins, does_tied, end_laws, half_own, line_call, workers_of}
use Rattle.paged_ends.proofs.CommitRuns.{done, end_part, flush_fails, flush_part, how, tells}

module _ (l : Grounds) (answers : EveryAnswer) (entries : EveryEntry) {D : Type 0} (story : D → Story) (lawful : (d : D) → IsLawful (story d)) (m n : PagedMachine D) (ready : IsReady story m) (opened : m.machine.work.session.is_open ≡ true) (whole : m.machine.work.session.is_half_aborted ≡ false)
    (g : Opening) (xs : List Done) (many : g.workers ≡ m.machine.work.session.workers) (tied : Tied g m.machine.work.session.group xs (view_of m) (memory m)) (halves : AreHalf g.workers xs m.machine) (line : IsNewLine (outcomes xs)) where
  abbrev x : Session
  x = m.machine.work.session

  abbrev own : ℕ
  own = x.own

  abbrev old : Story
  old = story m.machine.work.disk

  held : Holds (shape m.machine) (view_of m) x m.machine.work.log
  held = holds_of (shape m.machine) (view_of m) (here m.machine) m.machine.desks.items ready.sound.desks

  low : 0 < own
  low = turn_low (shape m.machine) (view_of m) (here m.machine) m.machine.desks.items ready.sound.desks

  high : own ≤ x.workers
  high = turn_high (shape m.machine) (view_of m) (here m.machine) m.machine.desks.items ready.sound.desks

  log_own : (memory m).log own ≡ m.machine.work.log
  log_own = ap (λ (d : Desk). d.log) (desk_own (here m.machine) m.machine.desks.items own refl)

  start : Behind g xs [] (view_of m)
  start = begins g x.group xs (view_of m) (memory m) tied

  workers : (opening (view_of m).given).workers ≡ x.workers
  workers = workers_of g x.group xs (view_of m) (memory m) tied x.workers many

  half : is_half_done own xs ≡ false
  half = halves own low (let e = many in let k = high in omega arith) ∙ (ap (λ (d : Desk). d.session.is_half_aborted) (desk_own (here m.machine) m.machine.desks.items own refl) ∙ whole)

  -- ## It is answered

  module _ (a : IsAside m n) (same : IsSameSession x n.machine.work.session) (ready_n : IsReady story n) (reply : replies.Ended) (c : HasCommitted story reply (view_of m) (view_of n) x n.machine.work.session m.machine.work.log n.machine.work.log m.machine.work.disk n.machine.work.disk) where
    -- its own log in memory, and the others
    memory_n : IsSame x.workers (with_own own n.machine.work.log (memory m)) (memory n)
    memory_n = memory_aside story m n a same ready

    end_all : Part x.workers (told.End own true c.ended.floor ∷ gives own c.ended.ended.rows) (view_of m) c.view (memory m) (with_own own c.log (memory m)) old (story c.disk)
    end_all = end_part l (every_enter entries) story lawful x.workers (view_of m) c.view x (memory m) m.machine.work.log c.log log_own m.machine.work.disk c.disk low high workers held.session reply c.ended

    met_end : Part x.workers (told.End own true c.ended.floor ∷ gives own c.ended.ended.rows) (view_of m) c.view (memory m) (with_own own c.log (memory m)) old (story c.disk) → AllMet g (state_after g (front xs)) (ending own c.ended.floor c.ended.ended.rows)
    met_end p = subst (AllMet g (state_after g (front xs))) (ap (λ ys. happening.Event.End own true c.ended.floor ∷ ys) (Rattle.row_ends.proofs.LatchLemmas.gives_events own c.ended.ended.rows)) (p.logged g xs [] start).met

    met : AllMet g (state_after g (front xs)) (ending own c.ended.floor c.ended.ended.rows)
    met = met_end end_all

    abbrev done_by : Bool → Done
    done_by due = done l answers entries g x.group xs line (shape m.machine) (view_of m) c.view x m.machine.work.log c.log held opened start refl half reply old (story c.disk) c.ended met due

    -- the desks behind it
    n_half : n.machine.work.session.is_half_aborted ≡ false → is_half_done own (done_by true ∷ xs) ≡ (desk_of (here n.machine) n.machine.desks.items own).session.is_half_aborted
    n_half none = half_own own (done_by true) xs refl ∙ sym (ap (λ (d : Desk). d.session.is_half_aborted) (own_desk story m n a same ready) ∙ none)

    n_half_too : n.machine.work.session.is_half_aborted ≡ false → is_half_done own (done_by false ∷ xs) ≡ (desk_of (here n.machine) n.machine.desks.items own).session.is_half_aborted
    n_half_too none = half_own own (done_by false) xs refl ∙ sym (ap (λ (d : Desk). d.session.is_half_aborted) (own_desk story m n a same ready) ∙ none)

    others : (w : ℕ) → 0 < w → w ≤ x.workers → (w ≡ own → ⊥) → (desk_of (here n.machine) n.machine.desks.items w).session.is_half_aborted ≡ (desk_of (here m.machine) m.machine.desks.items w).session.is_half_aborted
    others w lo hi ne = ap (λ (d : Desk). d.session.is_half_aborted) (other_desk story m n a same ready w lo hi ne)

    as_told : DoesTied g x.group xs own call.Commit (answer.Committed x.txn (suc x.clock.clock)) (memory m) n old (story n.machine.work.disk) → DoesTied g x.group xs own call.Commit (answer.Committed reply.number reply.at) (memory m) n old (story n.machine.work.disk)
    as_told d = subst (λ (k : replies.Ended). DoesTied g x.group xs own call.Commit (answer.Committed k.number k.at) (memory m) n old (story n.machine.work.disk)) (sym c.ended.told_is) d

    -- with the log in memory that it has then
    again : (k : ℕ) → (k ≡ own) ⊎ (k ≡ own → ⊥) → upd (memory m).log own n.machine.work.log k ≡ upd (upd (memory m).log own c.log) own n.machine.work.log k
    again k (inl q) = upd_same (memory m).log own n.machine.work.log k q ∙ sym (upd_same (upd (memory m).log own c.log) own n.machine.work.log k q)
    again k (inr ne) = upd_other (memory m).log own n.machine.work.log k ne ∙ (sym (upd_other (memory m).log own c.log k ne) ∙ sym (upd_other (upd (memory m).log own c.log) own n.machine.work.log k ne))

    abbrev es : List Event
    es = (told.End own true c.ended.floor ∷ gives own c.ended.ended.rows) ++ told.Flush own (suc x.clock.clock) ∷ []

    by : IsGrouped story c.view (view_of n) x n.machine.work.session c.log n.machine.work.log c.disk n.machine.work.disk → DoesTied g x.group xs own call.Commit (answer.Committed reply.number reply.at) (memory m) n old (story n.machine.work.disk)
    by (IsGrouped.Waits few view session log disk) = as_told (does_tied l m n old (story n.machine.work.disk) (lawful m.machine.work.disk) g xs many tied halves (told.End own true c.ended.floor ∷ gives own c.ended.ended.rows) part ready_n.logged (same.1, same.2) own call.Commit (answer.Committed x.txn (suc x.clock.clock)) (done_by false)
        (append-nil (ending own c.ended.floor c.ended.ended.rows) ∙ sym events_is) refl refl refl
        (tells l answers entries g x.group xs line (shape m.machine) (view_of m) c.view x m.machine.work.log c.log held opened start refl half reply old (story c.disk) c.ended met false (lt-leb x.group (suc x.unflushed) few))
        (subst (λ k. Rattle.paged_desks.specs.call_parts.Deeds.Answers g xs (done_by false) k) (sym log_own) (how l answers entries g x.group xs line (shape m.machine) (view_of m) c.view x m.machine.work.log c.log held opened start refl half reply old (story c.disk) c.ended met false))
        (n_half_too (ap (λ (k : Session). k.is_half_aborted) session)) others)
      where
        events_is : events_of (told.End own true c.ended.floor ∷ gives own c.ended.ended.rows) ≡ ending own c.ended.floor c.ended.ended.rows
        events_is = ap (λ ys. happening.Event.End own true c.ended.floor ∷ ys) (Rattle.row_ends.proofs.LatchLemmas.gives_events own c.ended.ended.rows)

        at_n : Part x.workers (told.End own true c.ended.floor ∷ gives own c.ended.ended.rows) (view_of m) (view_of n) (memory m) (with_own own n.machine.work.log (memory m)) old (story n.machine.work.disk)
        at_n = subst (λ (q : View × Log × D). Part x.workers (told.End own true c.ended.floor ∷ gives own c.ended.ended.rows) (view_of m) q.0 (memory m) (with_own own q.1 (memory m)) old (story q.2)) (λ i. (sym view i, sym log i, sym disk i)) end_all

        part : Part x.workers (told.End own true c.ended.floor ∷ gives own c.ended.ended.rows) (view_of m) (view_of n) (memory m) (memory n) old (story n.machine.work.disk)
        part = (every_memory old (story n.machine.work.disk) x.workers (view_of m) (view_of n) (memory m) (with_own own n.machine.work.log (memory m)) (memory m) (memory n) workers (record { log = λ k lo hi. refl; master = refl; slots = refl }) memory_n).part (told.End own true c.ended.floor ∷ gives own c.ended.ended.rows) at_n
    by (IsGrouped.Flushed full f keeps) = as_told (does_tied l m n old (story n.machine.work.disk) (lawful m.machine.work.disk) g xs many tied halves es part ready_n.logged (same.1, same.2) own call.Commit (answer.Committed x.txn (suc x.clock.clock)) (done_by true)
        (sym (events_more (told.End own true c.ended.floor ∷ gives own c.ended.ended.rows) (told.Flush own (suc x.clock.clock) ∷ []) ∙ ap (λ ys. ys ++ happening.Event.Flush own (suc x.clock.clock) ∷ []) events_is)) refl refl refl
        (tells l answers entries g x.group xs line (shape m.machine) (view_of m) c.view x m.machine.work.log c.log held opened start refl half reply old (story c.disk) c.ended met true (le-leb x.group (suc x.unflushed) full))
        (subst (λ k. Rattle.paged_desks.specs.call_parts.Deeds.Answers g xs (done_by true) k) (sym log_own) (how l answers entries g x.group xs line (shape m.machine) (view_of m) c.view x m.machine.work.log c.log held opened start refl half reply old (story c.disk) c.ended met true))
        (n_half (ap (λ (k : Session). k.is_half_aborted) f.session)) others)
      where
        events_is : events_of (told.End own true c.ended.floor ∷ gives own c.ended.ended.rows) ≡ ending own c.ended.floor c.ended.ended.rows
        events_is = ap (λ ys. happening.Event.End own true c.ended.floor ∷ ys) (Rattle.row_ends.proofs.LatchLemmas.gives_events own c.ended.ended.rows)

        flushed : Part x.workers es (view_of m) (view_of n) (memory m) (with_own own n.machine.work.log (with_own own c.log (memory m))) old (story n.machine.work.disk)
        flushed = flush_part l (every_enter entries) story lawful x.workers (view_of m) c.view x (memory m) m.machine.work.log c.log log_own m.machine.work.disk c.disk low high workers held.session reply c.ended (view_of n) n.machine.work.session n.machine.work.log n.machine.work.disk f keeps

        part : Part x.workers es (view_of m) (view_of n) (memory m) (memory n) old (story n.machine.work.disk)
        part = (every_memory old (story n.machine.work.disk) x.workers (view_of m) (view_of n) (memory m) (with_own own n.machine.work.log (with_own own c.log (memory m))) (memory m) (memory n) workers (record { log = λ k lo hi. refl; master = refl; slots = refl })
            (record { log = λ k lo hi. memory_n.log k lo hi ∙ again k (cases_eq k own); master = memory_n.master; slots = memory_n.slots })).part es flushed

    pub committed : DoesTied g x.group xs own call.Commit (answer.Committed reply.number reply.at) (memory m) n old (story n.machine.work.disk)
    committed = by c.grouped

  -- ## The log's device failed

  abbrev new : Story
  new = story n.machine.work.disk

  no : (P : Type 0) → false ≡ true → P
  no P q = absurd (true≢false (sym q))

  pub fails_commit : FailsToCommit story (view_of m) x m.machine.work.log m.machine.work.disk n.machine.work.disk → Fails g x.group xs own call.Commit (memory m) old new
  fails_commit (FailsToCommit.Unstaged k) =
      (end_laws g x.group xs (view_of m) (memory m) tied x.workers own call.Commit old new many).fails false false []
      ((every_own l.reached l.needs old new x.workers own (view_of m) (view_of m) (memory m) m.machine.work.log low high workers).fails (subst (λ j. Rattle.paged_desks.specs.session_state.Staging.KeepsLog own j old new) (sym log_own) k))
      (no _) (no _) (subst (λ (d : Call). Rattle.paged_desks.specs.call_parts.Rooms.IsRoomFor g xs own d []) (sym (line_call xs call.Commit line)) (refl, omega arith))
  fails_commit (FailsToCommit.Unflushed reply view log disk e0 full k) =
      (end_laws g x.group xs (view_of m) (memory m) tied x.workers own call.Commit old new many).stops false false (events_of (told.End own true e0.floor ∷ gives own e0.ended.rows) ++ []) (happening.Event.Flush own (suc x.clock.clock) ∷ []) (done l answers entries g x.group xs line (shape m.machine) (view_of m) view x m.machine.work.log log held opened start refl half reply old (story disk) e0 met true)
      (flush_fails l (every_enter entries) story lawful x.workers (view_of m) view x (memory m) m.machine.work.log log log_own m.machine.work.disk disk low high workers held.session reply e0 n.machine.work.disk k) (no _) (no _)
      (ap (λ ys. ys ++ happening.Event.Flush own (suc x.clock.clock) ∷ []) (append-nil (events_of (told.End own true e0.floor ∷ gives own e0.ended.rows)) ∙ events_is)) refl refl
      (tells l answers entries g x.group xs line (shape m.machine) (view_of m) view x m.machine.work.log log held opened start refl half reply old (story disk) e0 met true (le-leb x.group (suc x.unflushed) full))
      (how l answers entries g x.group xs line (shape m.machine) (view_of m) view x m.machine.work.log log held opened start refl half reply old (story disk) e0 met true).few
    where
      events_is : events_of (told.End own true e0.floor ∷ gives own e0.ended.rows) ≡ ending own e0.floor e0.ended.rows
      events_is = ap (λ ys. happening.Event.End own true e0.floor ∷ ys) (Rattle.row_ends.proofs.LatchLemmas.gives_events own e0.ended.rows)

      met : AllMet g (state_after g (front xs)) (ending own e0.floor e0.ended.rows)
      met = subst (AllMet g (state_after g (front xs))) events_is ((end_part l (every_enter entries) story lawful x.workers (view_of m) view x (memory m) m.machine.work.log log log_own m.machine.work.disk disk low high workers held.session reply e0).logged g xs [] start).met
