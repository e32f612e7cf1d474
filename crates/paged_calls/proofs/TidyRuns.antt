-- A del behind the taking of its row, in one run to which its machine is tied: pages came and the tree was tidied, and then it ended so.
use Rattle.std.proofs.Common.{◌≡◌, ◌∙◌, inl, inr, ◌≤◌, ◌<◌, ◌+◌, ◌^◌, ◌%◌, ◌||◌, ◌++◌, ℕ, suc, Bool, true, false, cond, leb, List, [], ◌∷◌, length, Option, Some, None, ap, refl, sym, subst, arith, append-nil, true≢false}
use Rattle.std.proofs.lemmas.Bool.{le-leb, lt-leb}
use Rattle.std.proofs.lemmas.List.{length-append}
use Rattle.map_model.specs.Lists.{all, any, keep}
use Rattle.map_model.specs.declared.call.Answer.TheVariants as answer
use Rattle.map_model.specs.declared.call.Call.{Call}
use Rattle.map_model.specs.declared.call.Call.TheVariants as call
use Rattle.map_model.specs.declared.call.Refusal.{Refusal}
use Rattle.map_model.specs.declared.call.Refusal.TheVariants as refusal
use Rattle.paged_desks.specs.btree_descent.Puts.{change_of}
use Rattle.paged_desks.specs.core_calls.Deeds.{marks_by}
use Rattle.paged_desks.specs.core_calls.Fronts.{Done, front, outcomes}
use Rattle.paged_desks.specs.core_calls.LogEvents.{IsPressedYet, RefusedLogs, SyncsWhere}
use Rattle.paged_desks.specs.core_calls.Marks.{is_half}
use Rattle.paged_desks.specs.core_calls.Refusals.{IsCause}
use Rattle.paged_desks.specs.core_calls.Runs.{EachTells, Tells}
use Rattle.paged_desks.specs.core_calls.Scans.{StopsOnWay}
use Rattle.paged_desks.specs.core_calls.Steps.{TakesRow, Tries, is_behind_row, is_step, is_structure}
use Rattle.paged_desks.specs.core_paging.Paging.{EveryResidence}
use Rattle.paged_desks.proofs.core_state.Runs.{run_more}
use Rattle.paged_desks.specs.core_state.Events as happening
use Rattle.paged_desks.specs.core_state.Local.{is_sync}
use Rattle.paged_desks.specs.core_state.Needs.{may, value_in}
use Rattle.paged_desks.specs.core_state.Openings.{Opening}
use Rattle.paged_desks.specs.core_state.States.{State, Worker}
use Rattle.paged_desks.specs.core_state.States.{start as core_start}
use Rattle.paged_desks.specs.core_state.Steps as core
use Rattle.paged_desks.specs.core_state.Steps.{AllMet, at_pages, state_after}
use Rattle.paged_desks.specs.disk_image.Records.{entry_of}
use Rattle.paged_desks.specs.disk_runs.Stands.{Stands}
use Rattle.paged_desks.proofs.engine_calls.EntryLemmas.{every_entry}
use Rattle.paged_desks.proofs.engine_calls.MarkLemmas.{keep_none}
use Rattle.paged_desks.specs.engine_calls.Answers.{EveryAnswer}
use Rattle.paged_desks.specs.engine_calls.Clauses.{EveryComing, IsNewLine}
use Rattle.paged_desks.specs.engine_calls.Entries.{change_record}
use Rattle.paged_desks.specs.engine_calls.Parts.{behind_first}
use Rattle.paged_desks.specs.engine_calls.Puts.{IsWrite, changed_by, taking}
use Rattle.paged_desks.specs.engine_calls.Refused.{TakesRows, refused_by}
use Rattle.paged_desks.specs.engine_trait.Calls.{call_behind, is_half_done}
use Rattle.paged_desks.specs.engine_trait.Limits.{limits}
use Rattle.paged_desks.specs.engine_trait.Refusals.{IsRefusedFor, change_refusal, in_transaction, lock_refusal, met_refusal, refusal_in}
use Rattle.paged_desks.specs.engine_trait.Rooms.{needs_sync}
use Rattle.paged_desks.specs.image_model.Entries.{Contents, word_in}
use Rattle.paged_desks.specs.key_locks.declared.mode.Mode.TheVariants.{Alone}
use Rattle.paged_desks.specs.key_locks.Rows.{event_mode}
use Rattle.lean_disk.specs.Story.{IsLawful, Story}
use Rattle.paged_desks.specs.log_record.declared.record.Body.TheVariants as body
use Rattle.paged_desks.specs.log_record.declared.record.Record.{Record}
use Rattle.page_model.specs.Nodes.{Format}
use Rattle.paged_desks.specs.row_words.declared.event.Event.{Event}
use Rattle.paged_desks.specs.row_words.declared.event.Event.TheVariants as told
use Rattle.paged_desks.specs.row_words.Moments.{events_of}
use Rattle.paged_desks.specs.row_words.Openings.{opening}
use Rattle.paged_desks.specs.rows_trait.declared.view.View.{View}
use Rattle.paged_desks.specs.rows_trait.Views.{Shape, state}
use Rattle.paged_desks.proofs.session_desks.DeskLemmas.{desk_own}
use Rattle.paged_desks.proofs.session_desks.SeatLemmas.{holds_of}
use Rattle.paged_desks.specs.session_desks.Desks.{desk_of}
use Rattle.paged_desks.specs.session_desks.Parts.{AreAsMany, HasLogs, here, shape}
use Rattle.paged_desks.specs.session_desks.declared.desk.Desk.{Desk}
use Rattle.paged_desks.proofs.session_state.Moments.{events_more}
use Rattle.paged_desks.specs.session_state.Holds.{Holds, IsOf, IsSameSession}
use Rattle.paged_desks.specs.session_state.Staging.{KeepsLog}
use Rattle.paged_desks.specs.session_state.Ties.{Behind}
use Rattle.paged_desks.specs.session_state.declared.session.Session.{Session}
use Rattle.paged_desks.specs.worker_log.Logs.{Log, limit, used}
use Rattle.paged_desks.proofs.call_parts.MemoryLemmas.{every_memory}
use Rattle.paged_desks.proofs.call_parts.OwnLemmas.{every_own}
use Rattle.paged_desks.proofs.call_parts.RunLemmas.{behind_more, core_is}
use Rattle.paged_desks.proofs.call_parts.SightLemmas.{every_enter}
use Rattle.paged_desks.specs.call_parts.Areas.{is_save}
use Rattle.paged_desks.specs.call_parts.Deeds.{Answers, Fails, HasNoneToGo}
use Rattle.paged_desks.specs.call_parts.Memory.{IsSame, with_own}
use Rattle.paged_desks.specs.call_parts.Parts.{Failed, Part}
use Rattle.paged_desks.specs.call_parts.Rooms.{AreRoom, ChangesTree, IsRoomFor, changes_tree, is_paging as pages_come, looks, may_save, takes_row}
use Rattle.paged_desks.specs.call_parts.Steps.{Stages}
use Rattle.row_room.specs.row_changes.Puts.{IsChanged}
use Rattle.paged_desks.specs.Calls.{AreHalf, DoesTied, IsAside, StandsNot, Tied}
use Rattle.paged_desks.specs.Machines.{IsReady, memory, view_of}
use Rattle.paged_desks.specs.Parts.{HasFailed, IsSpent, StandsNowhere}
use Rattle.paged_desks.specs.declared.machine.PagedMachine.{PagedMachine}
use Rattle.paged_desks.proofs.AsideLemmas.{halves_aside, memory_aside}
use Rattle.paged_desks.proofs.EndingLemmas.{Grounds, does_tied, end_laws, fails_by, half_own, refused_tied}
use Rattle.paged_calls.specs.Growths.{IsGoing}
use Rattle.paged_calls.specs.Steps.{HasTaken}
use Rattle.paged_calls.specs.Tests.{change_test}
use Rattle.paged_calls.proofs.ChangeRuns as runs
use Rattle.paged_calls.proofs.ChangeTests.{IsFree, free_of, gate, refusal_is, room_in, tests_in}
use Rattle.paged_calls.proofs.EventLemmas.{length_events, locked_room, room_of, structure_of}
use Rattle.paged_calls.proofs.FullLemmas.{all_more}
use Rattle.paged_calls.proofs.GoingLemmas.{goes}
use Rattle.paged_desks.proofs.HalfLates.{half_late}
use Rattle.paged_calls.proofs.KeyLemmas as keys
use Rattle.paged_calls.proofs.PieceLemmas.{joins_at}
use Rattle.paged_calls.proofs.TakingLemmas.{late_end, none_is}
use Rattle.paged_desks.specs.btree_descent.declared.descent.TheConstants.{TOMBSTONE}
use Rattle.paged_desks.specs.core_calls.Deeds.{Absent, Deleted}
use Rattle.paged_desks.specs.core_calls.LogEvents.{IsPressed}
use Rattle.paged_desks.specs.core_state.Needs.{is_held_by}
use Rattle.paged_desks.specs.engine_calls.Puts.{IsRead, is_alone, read_by}
use Rattle.paged_desks.specs.session_state.tidy_rules.Tidying.{Stage, Tidies, next_tidy}
use Rattle.row_room.specs.row_changes.Reads.{HasRead}
use Rattle.row_walks.specs.Stages.{stage_of}
use Rattle.row_walks.specs.declared.steps.At.{At}
use Rattle.row_walks.specs.declared.steps.At.TheVariants as begun
use Rattle.paged_desks.specs.Calls.{IsBeside}
use Rattle.paged_desks.proofs.StandLemmas.{halves_are}
use Rattle.paged_calls.specs.Tidyings.{HasTidied, IsTidyingTo, is_tidying}
use Rattle.paged_calls.proofs.PieceLemmas.{read_part}
use Rattle.paged_calls.proofs.TakingLemmas.{key_row}
use Rattle.paged_calls.proofs.TidyEvents.{come_writes, tidying_room, tidying_steps}
use Rattle.paged_calls.proofs.TidyRules.{next_tidy_as, tidies_calm, tidies_join, tidies_none, tidies_one}

-- the record of a change in a page of this format
abbrev record_in : Format → (ℕ → Contents) → (txn clock page key word : ℕ) → Record
record_in f pages txn clock page key word = record { txn = txn; gsn = suc clock; body = body.Change (record { page = page; prev = (pages page).gsn }) key (word_in f (pages page).node key) word }

module _ (l : Grounds) (residence : EveryResidence) (answers : EveryAnswer) (coming : EveryComing) {D : Type 0} (story : D → Story) (lawful : (d : D) → IsLawful (story d)) (m : PagedMachine D) (ready : IsReady story m) (key : ℕ) (g : Opening) (xs : List Done) (workers : g.workers ≡ m.machine.work.session.workers)
    (tied : Tied g m.machine.work.session.group xs (view_of m) (memory m)) (halves : AreHalf g.workers xs m.machine) (line : IsNewLine (outcomes xs)) where
  abbrev x : Session
  x = m.machine.work.session

  abbrev own : ℕ
  own = x.own

  abbrev v : View
  v = view_of m

  abbrev z : Shape
  z = shape m.machine

  abbrev c : Call
  c = call.Del key

  abbrev at : State
  at = state_after g (front xs)

  abbrev log : Log
  log = (memory m).log own

  abbrev is_half_aborted : Bool
  is_half_aborted = is_half_done own xs

  abbrev most : Refusal
  most = refusal.LogFull (used log) (limit log)

  holds_m : Holds z v x m.machine.work.log
  holds_m = keys.holds l answers coming story lawful m ready key Alone c refl g xs workers tied halves line

  low : 0 < own
  low = keys.low l answers coming story lawful m ready key Alone c refl g xs workers tied halves line

  high : own ≤ x.workers
  high = keys.high l answers coming story lawful m ready key Alone c refl g xs workers tied halves line

  b0 : Behind g xs [] v
  b0 = keys.b0 l answers coming story lawful m ready key Alone c refl g xs workers tied halves line

  half_is : is_half_aborted ≡ x.is_half_aborted
  half_is = keys.half_is l answers coming story lawful m ready key Alone c refl g xs workers tied halves line

  asks : call_behind (outcomes xs) c ≡ c
  asks = keys.asks l answers coming story lawful m ready key Alone c refl g xs workers tied halves line

  of_0 : IsOf x (at.worker own)
  of_0 = subst (λ (s : State). IsOf x (s.worker own)) (keys.core_at l answers coming story lawful m ready key Alone c refl g xs workers tied halves line) holds_m.session

  -- what its tests come to behind the taking of its row
  abbrev last_in : State → Option Refusal
  last_in s = lock_refusal g s own key happening.Mode.Alone (met_refusal g s own key (room_in g s c))

  module _ (none : change_test x log ≡ None) (u : PagedMachine D) (t : HasTaken key Alone m u) (taken : IsReady story u) (small : u.machine.work.session.clock.clock < 2 ^ 62) where
    abbrev row : ℕ
    row = key % x.held.count

    abbrev lock_at : ℕ → happening.Event
    lock_at i = happening.Event.Lock own i happening.Mode.Alone

    abbrev lock : happening.Event
    lock = lock_at row

    free : IsFree x log
    free = free_of x log ready.works none

    row_is : g.row_of key ≡ row
    row_is = keys.row_is l answers coming story lawful m ready key Alone c refl g xs workers tied halves line u t

    own_is : u.machine.work.session.own ≡ own
    own_is = keys.own_is l answers coming story lawful m ready key Alone c refl g xs workers tied halves line u t

    workers_is : u.machine.work.session.workers ≡ x.workers
    workers_is = ap (λ (y : Session). y.workers) t.takes.session

    group_is : u.machine.work.session.group ≡ x.group
    group_is = ap (λ (y : Session). y.group) t.takes.session

    locked : Part x.workers (told.Lock own row (event_mode Alone) ∷ []) v (view_of u) (memory m) (memory u) (story m.machine.work.disk) (story u.machine.work.disk)
    locked = keys.locked l answers coming story lawful m ready key Alone c refl g xs workers tied halves line u t

    b1 : Behind g xs (lock ∷ []) (view_of u)
    b1 = keys.b1 l answers coming story lawful m ready key Alone c refl g xs workers tied halves line u t

    taken_half : (w : ℕ) → (desk_of (here u.machine) u.machine.desks.items w).session.is_half_aborted ≡ (desk_of (here m.machine) m.machine.desks.items w).session.is_half_aborted
    taken_half = keys.taken_half l answers coming story lawful m ready key Alone c refl g xs workers tied halves line u t

    -- no test refuses it
    unasked : refusal_in g at own is_half_aborted log c ≡ None
    unasked = runs.last_is l answers coming story lawful m ready key c refl g xs workers tied halves line none u t taken
        ∙ ap (λ b. cond b (Some refusal.ClockSpent) None) (lt-leb (2 ^ 62) u.machine.work.session.clock.clock small)

    unrefused : (q : Refusal) → refusal_in g at own is_half_aborted log c ≡ Some q → ⊥
    unrefused q e = none_is q (sym unasked ∙ e)

    -- the state behind the lock
    abbrev held : State
    held = behind_first g xs (lock ∷ [])

    met_lock : may g at lock ≡ true
    met_lock = (locked.logged g xs [] b0).met.0

    -- ## Pages came, and the tree was tidied

    module _ (amount : ℕ) (reached : At) (n : PagedMachine D) (d : HasTidied story key begun.Before reached amount u n) (few : length d.events ≤ 2 ^ 17 + 2 ^ 15) where
      abbrev moves : List happening.Event
      moves = events_of d.events

      abbrev first : List happening.Event
      first = taking g own key happening.Mode.Alone [] moves

      making : all (is_tidying own) d.events ≡ true
      making = subst (λ w. all (is_tidying w) d.events ≡ true) own_is d.making

      came : Part x.workers d.events (view_of u) (view_of n) (memory u) (memory n) (story u.machine.work.disk) (story n.machine.work.disk)
      came = subst (λ k. Part k d.events (view_of u) (view_of n) (memory u) (memory n) (story u.machine.work.disk) (story n.machine.work.disk)) workers_is d.part

      met : AllMet g held moves
      met = (came.logged g xs (lock ∷ []) b1).met

      b2 : Behind g xs (lock ∷ moves) (view_of n)
      b2 = behind_more g xs (lock ∷ []) (view_of u) b1 d.events (view_of n) came.given came.seen met

      so_far : Part x.workers (told.Lock own row (event_mode Alone) ∷ d.events) v (view_of n) (memory m) (memory n) (story m.machine.work.disk) (story n.machine.work.disk)
      so_far = (joins_at l story lawful m.machine.work.disk u.machine.work.disk n.machine.work.disk x.workers (told.Lock own row (event_mode Alone) ∷ []) v (view_of u) (view_of n) (memory m) (memory u) (memory n)).join d.events locked came

      tight : SyncsWhere (IsPressed g c) g at false (lock ∷ moves)
      tight = d.tight g xs (lock ∷ []) b1

      room : IsTidyingTo own key Stage.Before (stage_of reached) g held moves
      room = subst (λ w. IsTidyingTo w key Stage.Before (stage_of reached) g held moves) own_is (d.room g xs (lock ∷ []) b1)

      no_step : any is_step moves ≡ false
      no_step = tidying_steps own d.events making

      kept : keep is_step (lock ∷ moves) ≡ lock ∷ []
      kept = ap (λ ys. lock ∷ ys) (keep_none is_step moves no_step)

      makes : IsTidyingTo own key Stage.Before (stage_of reached) g at (lock ∷ moves)
      makes = record { tidies = (tt, room.tidies); now = room.now }

      few_all : length (lock ∷ moves) ≤ 2 ^ 18
      few_all = let a = few in let b = length_events d.events in omega arith

      as_many : AreAsMany m.machine n.machine
      as_many = (d.same.0 ∙ workers_is, d.same.1 ∙ group_is)

      own_here : n.machine.work.session.own ≡ own
      own_here = d.turn ∙ own_is

      workers_here : n.machine.work.session.workers ≡ x.workers
      workers_here = d.same.0 ∙ workers_is

      half_all : (w : ℕ) → 0 < w → w ≤ x.workers → (desk_of (here n.machine) n.machine.desks.items w).session.is_half_aborted ≡ (desk_of (here m.machine) m.machine.desks.items w).session.is_half_aborted
      half_all w lo hi = d.halves w lo (let e = workers_is in omega arith) ∙ taken_half w

      abbrev there : State
      there = behind_first g xs (lock ∷ moves)

      core_there : (state (view_of n)).core ≡ there
      core_there = core_is l.reached l.needs g xs (lock ∷ moves) (view_of n) b2

      end_is : there ≡ state_after g (front xs ++ (lock ∷ moves))
      end_is = sym (run_more g (core_start g) (front xs) (lock ∷ moves))

      format_is : (opening (view_of n).given).format ≡ g.format
      format_is = sym b2.opens.format

      log_here : (memory n).log own ≡ n.machine.work.log
      log_here = ap (λ (y : Desk). y.log) (desk_own (here n.machine) n.machine.desks.items own (sym own_here))

      workers_in : (opening (view_of n).given).workers ≡ x.workers
      workers_in = sym b2.opens.workers ∙ workers

      -- ## It is refused

      module _ (now : IsReady story n) where
        abbrev y : Session
        y = n.machine.work.session

        of_y : IsOf y (there.worker own)
        of_y = subst (λ (q : State × ℕ). IsOf y (q.0.worker q.1)) (λ i. (core_there i, own_here i)) (holds_of (shape n.machine) (view_of n) (here n.machine) n.machine.desks.items now.sound.desks).session

        -- for this reason
        refused : (why : Refusal) → is_behind_row why ≡ true → TakesRow why own (g.row_of key) happening.Mode.Alone (lock_at (g.row_of key) ∷ []) → IsCause limits g (front xs ++ (lock ∷ moves)) there (is_half (marks_by own (outcomes xs))) own c why
            → ((s : State) (e : Call) → HasNoneToGo g s e why) → IsRefusedFor g there own is_half_aborted log c why → RefusedLogs limits g xs own c why (lock ∷ moves)
            → DoesTied g x.group xs own c (answer.Refused why) (memory m) n (story m.machine.work.disk) (story n.machine.work.disk)
        refused why late tries cause none_goes is_for logs =
            refused_tied l m n (story m.machine.work.disk) (story n.machine.work.disk) (lawful m.machine.work.disk) g xs workers tied halves (told.Lock own row (event_mode Alone) ∷ d.events) so_far now.logged as_many answers own c why refl low high
            (record {
              comes = (coming xs (refused_by own c why (lock ∷ moves)).outcome).new line tt;
              met = (so_far.logged g xs [] b0).met;
              rows = subst (TakesRows own) (sym kept) (refl, tt);
              tries = subst (λ e. Tries g own (outcomes xs) e why (keep is_step (lock ∷ moves))) (sym asks) (subst (TakesRow why own (g.row_of key) happening.Mode.Alone) (sym kept) (subst (λ i. TakesRow why own (g.row_of key) happening.Mode.Alone (lock_at i ∷ [])) row_is tries));
              scans = subst (λ e. StopsOnWay g own (outcomes xs) at e why (lock ∷ moves)) (sym asks) tt;
              structure = λ e. absurd (true≢false (sym late ∙ e));
              cause = cause;
              due = logs;
            })
            (record {
              few = few_all;
              is_for = subst (λ e. IsRefusedFor g (state_after g (front xs ++ (lock ∷ moves))) own is_half_aborted log e why) (sym asks) (subst (λ s. IsRefusedFor g s own is_half_aborted log c why) end_is is_for);
              kept = none_goes (state_after g (front xs ++ (lock ∷ moves))) (call_behind (outcomes xs) c);
              refuses = λ q sure e. absurd (unrefused q (ap (refusal_in g at own is_half_aborted log) (sym asks) ∙ e));
              still = λ q e. absurd (unrefused q (ap (refusal_in g at own is_half_aborted log) (sym asks) ∙ e));
              stays = λ q sure e. absurd (unrefused q (ap (refusal_in g at own is_half_aborted log) (sym asks) ∙ e));
              room = subst (λ e. ChangesTree own g at e (lock ∷ moves)) (sym asks) makes.tidies;
            })
            half_all

        -- with syncs where a page finds no frame
        pressed : (why : Refusal) → SyncsWhere (IsPressedYet g c why) g at false (lock ∷ moves) → SyncsWhere (IsPressedYet g (call_behind (outcomes xs) c) why) g at false (lock ∷ moves)
        pressed why = subst (λ e. SyncsWhere (IsPressedYet g e why) g at false (lock ∷ moves)) (sym asks)

        -- a latch is spent
        late : EachTells limits g x.group xs → IsSpent u n → 2 ^ 61 ≤ length (front xs ++ (lock ∷ moves))
        late each (inl old) = late_end l.reached l.needs g xs (lock ∷ moves) (view_of n) b2 old
        late each (inr h) =
            let a = half_late g x.group xs each h.session (halves h.session h.low (let e = workers in let k = h.high in let o = workers_is in omega arith) ∙ (sym (taken_half h.session) ∙ h.half)) in
            let b = length-append (front xs) (lock ∷ moves) in
            omega arith

        pub del_spent : IsSpent u n → DoesTied g x.group xs own c (answer.Refused refusal.RowSpent) (memory m) n (story m.machine.work.disk) (story n.machine.work.disk)
        del_spent s = refused refusal.RowSpent refl (inr refl) (late (tied.ties own).told s) (λ _ _. tt) (inr (inl refl)) (pressed refusal.RowSpent tight)

        -- what else is tested there
        module _ (f : IsGoing n) where
          tests_there : refusal_in g there own is_half_aborted log c ≡ cond (leb (2 ^ 62) y.clock.clock) (Some refusal.ClockSpent) (last_in there)
          tests_there = refusal_is c key refl g there own is_half_aborted log
              ∙ (ap (λ k. in_transaction there k is_half_aborted (change_refusal there k log (last_in there))) (sym own_here)
              ∙ (tests_in there y log (subst (λ k. IsOf y (there.worker k)) (sym own_here) of_y) is_half_aborted (half_is ∙ (free.whole ∙ sym f.whole)) (last_in there)
              ∙ (λ i. gate (goes y f.is_open f.whole i) (lt-leb 64 (length y.undo) f.few i) (lt-leb (limit log) (used log) free.room i) (leb (2 ^ 62) y.clock.clock) most (last_in there))))

          -- the clock has come to its end
          pub del_stopped : 2 ^ 62 ≤ y.clock.clock → DoesTied g x.group xs own c (answer.Refused refusal.ClockSpent) (memory m) n (story m.machine.work.disk) (story n.machine.work.disk)
          del_stopped spent = refused refusal.ClockSpent refl (inr refl) (let a = of_y.clock in let b = spent in omega arith) (λ _ _. tt) (inl (tests_there ∙ ap (λ b. cond b (Some refusal.ClockSpent) (last_in there)) (le-leb (2 ^ 62) y.clock.clock spent)))
              (pressed refusal.ClockSpent tight)

      -- ## Its disk fails

      -- these events tidied, as far as they came
      room_for : (es : List happening.Event) → all (λ e. takes_row own (g.row_of key) happening.Mode.Alone e || (changes_tree own e || pages_come e)) es ≡ true → Tidies own g at key Stage.Before es → length es ≤ 2 ^ 18 → IsRoomFor g xs own c es
      room_for es all_room made least = ((all_room, made), least)

      made_room : AreRoom own (g.row_of key) happening.Mode.Alone (lock ∷ moves)
      made_room = subst (λ i. AreRoom own i happening.Mode.Alone (lock ∷ moves)) (sym row_is) (locked_room own row happening.Mode.Alone moves (tidying_room own row d.events making))

      -- the log's
      module _ (k : PagedMachine D) (keeps : KeepsLog own n.machine.work.log (story n.machine.work.disk) (story k.machine.work.disk)) where
        abbrev saves : Bool
        saves = any is_save (lock ∷ moves) || false

        abbrev syncs : Bool
        syncs = any is_sync (lock ∷ moves) || false

        failed : Failed x.workers saves syncs ((lock ∷ moves) ++ []) v (memory m) (story m.machine.work.disk) (story k.machine.work.disk)
        failed = (joins_at l story lawful m.machine.work.disk n.machine.work.disk k.machine.work.disk x.workers (told.Lock own row (event_mode Alone) ∷ d.events) v (view_of n) v (memory m) (memory n) (memory n)).failed false false [] so_far
            ((every_own l.reached l.needs (story n.machine.work.disk) (story k.machine.work.disk) x.workers own (view_of n) (view_of n) (memory n) n.machine.work.log low high workers_in).fails
            (subst (λ (q : Log). KeepsLog own q (story n.machine.work.disk) (story k.machine.work.disk)) (sym log_here) keeps))

        may_save_too : may_save xs c ≡ true
        may_save_too = ap looks asks

        pub del_fails_staging : Fails g x.group xs own c (memory m) (story m.machine.work.disk) (story k.machine.work.disk)
        del_fails_staging = (end_laws g x.group xs v (memory m) tied x.workers own c (story m.machine.work.disk) (story k.machine.work.disk) workers).fails saves syncs (lock ∷ moves)
            (subst (λ ys. Failed x.workers saves syncs ys v (memory m) (story m.machine.work.disk) (story k.machine.work.disk)) (append-nil (lock ∷ moves)) failed) (λ _. may_save_too) (λ _. ap (λ b. b || needs_sync g xs own c) may_save_too)
            (subst (λ (e : Call). IsRoomFor g xs own e (lock ∷ moves)) (sym asks) (room_for (lock ∷ moves) made_room makes.tidies few_all))

      -- or that of the pages
      module _ (k : PagedMachine D) (f : HasFailed story n k) (total : length d.events + length f.events ≤ 2 ^ 17 + 2 ^ 15) where
        abbrev all_moves : List happening.Event
        all_moves = (lock ∷ moves) ++ f.events

        failing : Failed x.workers true true f.events (view_of n) (memory n) (story n.machine.work.disk) (story k.machine.work.disk)
        failing = subst (λ w. Failed w true true f.events (view_of n) (memory n) (story n.machine.work.disk) (story k.machine.work.disk)) workers_here f.failed

        or_true : (a : Bool) → (a || true) ≡ true
        or_true true = refl
        or_true false = refl

        failed_all : Failed x.workers true true all_moves v (memory m) (story m.machine.work.disk) (story k.machine.work.disk)
        failed_all = subst (λ (q : Bool × Bool). Failed x.workers q.0 q.1 all_moves v (memory m) (story m.machine.work.disk) (story k.machine.work.disk)) (λ i. (or_true (any is_save (lock ∷ moves)) i, or_true (any is_sync (lock ∷ moves)) i))
            ((joins_at l story lawful m.machine.work.disk n.machine.work.disk k.machine.work.disk x.workers (told.Lock own row (event_mode Alone) ∷ d.events) v (view_of n) v (memory m) (memory n) (memory n)).failed true true f.events so_far failing)

        rest_none : any is_structure f.events ≡ false
        rest_none = structure_of f.events f.paging

        pub del_fault : Fails g x.group xs own c (memory m) (story m.machine.work.disk) (story k.machine.work.disk)
        del_fault = fails_by g x.group xs x.workers workers own c v (memory m) tied line refl (story m.machine.work.disk) (story k.machine.work.disk) all_moves failed_all
            (room_for all_moves
            (all_more (λ e. takes_row own (g.row_of key) happening.Mode.Alone e || (changes_tree own e || pages_come e)) (lock ∷ moves) f.events made_room (room_of own (g.row_of key) happening.Mode.Alone f.events f.paging))
            (tidies_join own g key Stage.Before (stage_of reached) (stage_of reached) at (lock ∷ moves) f.events makes (tidies_calm own g key (core.run g at (lock ∷ moves)) (stage_of reached) f.events rest_none (come_writes f.events f.paging))).tidies
            (let a = total in let b = length-append (lock ∷ moves) f.events in let e = length_events d.events in omega arith))

      -- the disk stands for no run, where a page of it is damaged
      pub del_never : StandsNowhere story n → StandsNot g x.group xs (memory m) (story m.machine.work.disk)
      del_never nowhere s0 k b o =
          let r = so_far.goes g xs [] b0 s0 k (subst (λ ys. Stands g ys s0 k (story m.machine.work.disk)) (sym (append-nil (front xs))) b.stands) o in
          nowhere g xs (lock ∷ moves) b2 s0 r.known r.moved.stands r.has

      abbrev at_first : State
      at_first = behind_first g xs first

      first_is : lock ∷ moves ≡ first
      first_is = ap (λ i. lock_at i ∷ moves) (sym row_is)

      core_first : (state (view_of n)).core ≡ at_first
      core_first = core_there ∙ ap (behind_first g xs) first_is

      -- ## The key has no value

      module _ (now : IsReady story n) (k : PagedMachine D) (beside : IsBeside n k) (same : IsSameSession n.machine.work.session k.machine.work.session) (half_same : k.machine.work.session.is_half_aborted ≡ n.machine.work.session.is_half_aborted) (a : HasRead own (view_of n) (view_of k) key None)
          (alone : is_held_by ((state (view_of n)).core.row (key % n.machine.work.session.held.count)).holder n.machine.work.session.own ≡ true) (unchanged : stage_of reached ≡ Stage.Before) where
        abbrev seen_read : Event
        seen_read = told.Read own a.page key None

        abbrev read : happening.Event
        read = happening.Event.Read own a.page key None

        read_whole : Part x.workers (told.Lock own row (event_mode Alone) ∷ (d.events ++ seen_read ∷ [])) v (view_of k) (memory m) (memory k) (story m.machine.work.disk) (story k.machine.work.disk)
        read_whole = (joins_at l story lawful m.machine.work.disk n.machine.work.disk k.machine.work.disk x.workers (told.Lock own row (event_mode Alone) ∷ d.events) v (view_of n) (view_of k) (memory m) (memory n) (memory k)).join (seen_read ∷ []) so_far
            (read_part l story lawful x.workers own key None n k beside same.0 a)

        read_events : events_of (told.Lock own row (event_mode Alone) ∷ (d.events ++ seen_read ∷ [])) ≡ first ++ read ∷ []
        read_events = ap (λ ys. lock ∷ ys) (events_more d.events (seen_read ∷ [])) ∙ ap (λ i. lock_at i ∷ (moves ++ read ∷ [])) (sym row_is)

        abbrev absent : Done
        absent = read_by (Absent key) first own a.page key None

        no_structure : any is_structure moves ≡ false
        no_structure = tidies_none own g key held moves (stage_of reached) room unchanged

        is_read : IsRead g xs c happening.Mode.Alone [] moves own a.page key None
        is_read = record {
          line = line;
          before_steps = refl;
          between_steps = no_step;
          structure = no_structure;
          syncs = subst (λ ys. SyncsWhere (IsPressed g c) g at false ys) first_is tight;
          met = subst (AllMet g at) read_events (read_whole.logged g xs [] b0).met;
          value_is = a.told ∙ (λ i. value_in (format_is i) ((core_first i).page a.page).node key);
          whole = half_is ∙ free.whole;
        }

        -- its row is held alone
        held_alone : is_alone g xs first own key ≡ true
        held_alone = (λ i. is_held_by ((sym core_first i).row (row_there i)).holder (sym own_here i)) ∙ alone
          where
            row_there : g.row_of key ≡ key % n.machine.work.session.held.count
            row_there = key_row l.reached l.needs g xs (lock ∷ moves) (shape n.machine) (view_of n) n.machine.work.session key b2 (holds_of (shape n.machine) (view_of n) (here n.machine) n.machine.desks.items now.sound.desks).rows

        absent_half : (w : ℕ) → 0 < w → w ≤ x.workers → (desk_of (here k.machine) k.machine.desks.items w).session.is_half_aborted ≡ (desk_of (here m.machine) m.machine.desks.items w).session.is_half_aborted
        absent_half w lo hi = halves_are story n k beside same.0 half_same w ∙ half_all w lo hi

        pub del_missed : HasLogs k.machine → DoesTied g x.group xs own c (answer.Was None) (memory m) k (story m.machine.work.disk) (story k.machine.work.disk)
        del_missed logged = does_tied l m k (story m.machine.work.disk) (story k.machine.work.disk) (lawful m.machine.work.disk) g xs workers tied halves (told.Lock own row (event_mode Alone) ∷ (d.events ++ seen_read ∷ [])) read_whole logged
            (same.1 ∙ as_many.0, same.2 ∙ as_many.1) own c (answer.Was None) absent (sym read_events) refl refl refl ((answers limits g x.group xs).absent [] moves own a.page key is_read held_alone) how
            (half_own own absent xs refl ∙ (half_is ∙ (ap (λ (y : Desk). y.session.is_half_aborted) (sym (desk_own (here m.machine) m.machine.desks.items own refl)) ∙ sym (absent_half own low high)))) (λ w lo hi ne. absent_half w lo hi)
          where
            no_refusal : (q : Refusal) → answer.Was None ≡ answer.Refused q → ⊥
            no_refusal q e = absurd (cc)

            how : Answers g xs absent log
            how = record {
              few = let p = length-append first (read ∷ []) in let q = few in let b = length_events d.events in omega arith;
              refused = λ q e. absurd (no_refusal q e);
              kept = λ q e. absurd (no_refusal q e);
              refuses = λ q sure e. absurd (unrefused q (ap (refusal_in g at own is_half_aborted log) (sym asks) ∙ e));
              still = λ q e. absurd (unrefused q (ap (refusal_in g at own is_half_aborted log) (sym asks) ∙ e));
              stays = λ q sure e. absurd (unrefused q (ap (refusal_in g at own is_half_aborted log) (sym asks) ∙ e));
              room = subst (λ e. ChangesTree own g at e (first ++ read ∷ [])) (sym asks)
                  (tidies_join own g key Stage.Before (stage_of reached) (stage_of reached) at first (read ∷ []) (subst (IsTidyingTo own key Stage.Before (stage_of reached) g at) first_is makes)
                  (tidies_calm own g key (core.run g at first) (stage_of reached) (read ∷ []) refl refl)).tidies;
            }

      -- ## It is done

      module _ (now : IsReady story n) (k : PagedMachine D) (aside : IsAside n k) (same : IsSameSession n.machine.work.session k.machine.work.session) (half_same : k.machine.work.session.is_half_aborted ≡ n.machine.work.session.is_half_aborted) (before : ℕ)
          (a : IsChanged own (view_of n) (view_of k) key TOMBSTONE (Some before) n.machine.work.log k.machine.work.log (story n.machine.work.disk) (story k.machine.work.disk)) (tidy : next_tidy n.machine.work.session.own (opening (view_of n).given) (state (view_of n)).core key (stage_of reached) ≡ None) where
        abbrev seen_change : Event
        seen_change = told.Change own a.page key TOMBSTONE

        abbrev change : happening.Event
        change = happening.Event.Change own a.page key TOMBSTONE

        staged : Part x.workers (seen_change ∷ []) (view_of n) (view_of k) (memory n) (memory k) (story n.machine.work.disk) (story k.machine.work.disk)
        staged = (every_memory (story n.machine.work.disk) (story k.machine.work.disk) x.workers (view_of n) (view_of k) (memory n) (with_own own k.machine.work.log (memory n)) (memory n) (memory k) workers_in (record { log = λ w lo hi. refl; master = refl; slots = refl })
            (subst (λ (q : ℕ × ℕ). IsSame q.0 (with_own q.1 k.machine.work.log (memory n)) (memory k)) (λ i. (workers_here i, own_here i)) (memory_aside story n k aside same now))).part (seen_change ∷ [])
            ((every_own l.reached l.needs (story n.machine.work.disk) (story k.machine.work.disk) x.workers own (view_of n) (view_of k) (memory n) k.machine.work.log low high workers_in).stage seen_change
            (subst (λ (q : Log). Stages own seen_change (view_of n) (view_of k) q k.machine.work.log (story n.machine.work.disk) (story k.machine.work.disk)) (sym log_here) (record {
              sees = record { given = a.given; seen = a.seen; met = (a.met, tt) };
              entry = a.entry;
              enters = (every_enter every_entry own (view_of n)).change a.page key TOMBSTONE a.entry a.entry_is;
              after = a.after;
              stands = a.stands;
              keeps = a.keeps;
            })))

        change_whole : Part x.workers (told.Lock own row (event_mode Alone) ∷ (d.events ++ seen_change ∷ [])) v (view_of k) (memory m) (memory k) (story m.machine.work.disk) (story k.machine.work.disk)
        change_whole = (joins_at l story lawful m.machine.work.disk n.machine.work.disk k.machine.work.disk x.workers (told.Lock own row (event_mode Alone) ∷ d.events) v (view_of n) (view_of k) (memory m) (memory n) (memory k)).join (seen_change ∷ []) so_far staged

        change_events : events_of (told.Lock own row (event_mode Alone) ∷ (d.events ++ seen_change ∷ [])) ≡ first ++ change ∷ []
        change_events = ap (λ ys. lock ∷ ys) (events_more d.events (seen_change ∷ [])) ∙ ap (λ i. lock_at i ∷ (moves ++ change ∷ [])) (sym row_is)

        abbrev worker_there : Worker
        worker_there = at_pages at_first own (at_first.worker own) (a.page ∷ [])

        record_there : change_of (opening (view_of n).given) (state (view_of n)).core own a.page key TOMBSTONE ≡ change_record g at_first worker_there a.page key TOMBSTONE
        record_there i = let s = core_first i in let b = at_pages s own (s.worker own) (a.page ∷ []) in record_in (format_is i) s.page b.txn b.clock a.page key TOMBSTONE

        is_write : IsWrite g xs c [] moves own a.page key TOMBSTONE (Some before) a.entry
        is_write = record {
          line = line;
          low = low;
          high = let p = high in let q = workers in omega arith;
          before_steps = refl;
          between_steps = no_step;
          syncs = subst (λ ys. SyncsWhere (IsPressed g c) g at false ys) first_is tight;
          met = subst (AllMet g at) change_events (change_whole.logged g xs [] b0).met;
          was_is = a.told ∙ (λ i. value_in (format_is i) ((core_first i).page a.page).node key);
          whole = half_is ∙ free.whole;
          entry = ap (entry_of own) (a.entry_is ∙ record_there) ∙ (every_entry g at_first own worker_there).change a.page key TOMBSTONE;
        }

        abbrev done : Done
        done = changed_by (Deleted key before) first own a.page key TOMBSTONE

        -- its word is that of a tombstone in the run too
        dead_is : g.format.dead ≡ TOMBSTONE
        dead_is = ap (λ (f : Format). f.dead) (tied.ties own).opens.format

        tells : Tells limits g x.group xs done
        tells = subst (λ w. IsWrite g xs c [] moves own a.page key w (Some before) a.entry → Tells limits g x.group xs (changed_by (Deleted key before) first own a.page key w)) dead_is
            ((answers limits g x.group xs).del [] moves own a.page key before a.entry) is_write

        change_few : length (first ++ change ∷ []) ≤ 2 ^ 18
        change_few = let p = length-append first (change ∷ []) in let q = few in let b = length_events d.events in omega arith

        -- no change of the tree was left
        tidy_there : next_tidy own g (core.run g at first) key (stage_of reached) ≡ None
        tidy_there = ap (λ s. next_tidy own g s key (stage_of reached)) (sym core_first) ∙ (sym (next_tidy_as (opening (view_of n).given) g format_is (sym b2.opens.locks) (sym b2.opens.workers) (sym b2.opens.joined) (state (view_of n)).core own key (stage_of reached))
            ∙ (ap (λ w. next_tidy w (opening (view_of n).given) (state (view_of n)).core key (stage_of reached)) (sym own_here) ∙ tidy))

        change_makes : Tidies own g at key Stage.Before (first ++ change ∷ [])
        change_makes = (tidies_join own g key Stage.Before (stage_of reached) Stage.Over at first (change ∷ []) (subst (IsTidyingTo own key Stage.Before (stage_of reached) g at) first_is makes)
            (tidies_one own g key (stage_of reached) Stage.Over (core.run g at first) change tidy_there refl)).tidies

        change_half : (w : ℕ) → 0 < w → w ≤ x.workers → (desk_of (here k.machine) k.machine.desks.items w).session.is_half_aborted ≡ (desk_of (here m.machine) m.machine.desks.items w).session.is_half_aborted
        change_half w lo hi = halves_aside story n k aside same now half_same w lo (let q = workers_here in omega arith) ∙ half_all w lo hi

        pub del_done : HasLogs k.machine → DoesTied g x.group xs own c (answer.Was (Some before)) (memory m) k (story m.machine.work.disk) (story k.machine.work.disk)
        del_done logged = does_tied l m k (story m.machine.work.disk) (story k.machine.work.disk) (lawful m.machine.work.disk) g xs workers tied halves (told.Lock own row (event_mode Alone) ∷ (d.events ++ seen_change ∷ [])) change_whole logged
            (same.1 ∙ as_many.0, same.2 ∙ as_many.1) own c (answer.Was (Some before)) done (sym change_events) refl refl refl tells how
            (half_own own done xs refl ∙ (half_is ∙ (ap (λ (y : Desk). y.session.is_half_aborted) (sym (desk_own (here m.machine) m.machine.desks.items own refl)) ∙ sym (change_half own low high)))) (λ w lo hi ne. change_half w lo hi)
          where
            no_refusal : (q : Refusal) → answer.Was (Some before) ≡ answer.Refused q → ⊥
            no_refusal q e = absurd (cc)

            how : Answers g xs done log
            how = record {
              few = change_few;
              refused = λ q e. absurd (no_refusal q e);
              kept = λ q e. absurd (no_refusal q e);
              refuses = λ q sure e. absurd (unrefused q (ap (refusal_in g at own is_half_aborted log) (sym asks) ∙ e));
              still = λ q e. absurd (unrefused q (ap (refusal_in g at own is_half_aborted log) (sym asks) ∙ e));
              stays = λ q sure e. absurd (unrefused q (ap (refusal_in g at own is_half_aborted log) (sym asks) ∙ e));
              room = subst (λ e. ChangesTree own g at e (first ++ change ∷ [])) (sym asks) change_makes;
            }
