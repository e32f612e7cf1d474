-- A call that changes its key, in one run to which its machine is tied.
use Rattle.std.proofs.Common.{◌≡◌, ◌∙◌, ◌⊎◌, inl, inr, ◌≤◌, ◌<◌, ◌^◌, ◌%◌, ◌&&◌, ◌++◌, ℕ, Bool, true, false, cond, leb, List, [], ◌∷◌, length, Option, Some, None, ap, refl, sym, subst, arith}
use Rattle.std.proofs.lemmas.Bool.{le-leb, leb-true, lt-leb}
use Rattle.map_model.proofs.ListLemmas.{upd_same}
use Rattle.map_model.specs.Lists.{any, keep}
use Rattle.map_model.specs.declared.call.Answer.TheVariants as answer
use Rattle.map_model.specs.declared.call.Call.{Call}
use Rattle.map_model.specs.declared.call.Call.TheVariants as call
use Rattle.map_model.specs.declared.call.Refusal.{Refusal}
use Rattle.map_model.specs.declared.call.Refusal.TheVariants as refusal
use Rattle.paged_desks.proofs.core_calls.WhereLemmas.{syncs_weaker}
use Rattle.paged_desks.specs.engine_trait.declared.unserved.Unserved.TheVariants as unserved
use Rattle.paged_desks.specs.core_calls.Deeds.{marks_by}
use Rattle.paged_desks.specs.core_calls.Fronts.{Done, front, outcomes}
use Rattle.paged_desks.specs.core_calls.LogEvents.{IsPressed, IsTight, RefusedLogs, SyncsWhere}
use Rattle.paged_desks.specs.core_calls.Marks.{is_half}
use Rattle.paged_desks.specs.core_calls.Refusals.{Hinders, IsCause}
use Rattle.paged_desks.specs.core_calls.Steps.{TakesRow, is_step, is_structure}
use Rattle.paged_desks.specs.core_state.Events as happening
use Rattle.paged_desks.specs.core_state.Needs.{may, may_hold}
use Rattle.paged_desks.specs.core_state.Openings.{Opening}
use Rattle.paged_desks.specs.core_state.States.{State, Worker}
use Rattle.paged_desks.specs.core_state.States.{start as core_start}
use Rattle.paged_desks.specs.core_state.Steps.{at_row, happens, state_after}
use Rattle.paged_desks.proofs.core_state.Runs.{run_more}
use Rattle.paged_desks.proofs.engine_calls.MarkLemmas.{keep_none}
use Rattle.paged_desks.specs.engine_calls.Answers.{EveryAnswer}
use Rattle.paged_desks.specs.engine_calls.Clauses.{EveryComing, IsNewLine}
use Rattle.paged_desks.specs.engine_calls.Parts.{behind_first}
use Rattle.paged_desks.specs.engine_calls.Refused.{TakesRows}
use Rattle.paged_desks.specs.engine_trait.Calls.{call_behind, is_half_done}
use Rattle.paged_desks.specs.engine_trait.Limits.{limits}
use Rattle.paged_desks.specs.engine_trait.Refusals.{IsRefusedFor, change_refusal, in_transaction, lock_refusal, met_refusal, refusal_in}
use Rattle.paged_desks.specs.key_locks.declared.mode.Mode.TheVariants.{Alone}
use Rattle.paged_desks.specs.key_locks.Rows.{event_mode}
use Rattle.lean_disk.specs.Story.{IsLawful, Story}
use Rattle.paged_desks.specs.row_words.declared.event.Event.TheVariants as told
use Rattle.paged_desks.specs.row_words.Moments.{events_of}
use Rattle.paged_desks.specs.rows_trait.declared.view.View.{View}
use Rattle.paged_desks.specs.rows_trait.Views.{Shape, state}
use Rattle.paged_desks.proofs.session_desks.DeskLemmas.{desk_own}
use Rattle.paged_desks.proofs.session_desks.SeatLemmas.{holds_of}
use Rattle.paged_desks.specs.session_desks.Desks.{desk_of}
use Rattle.paged_desks.specs.session_desks.Parts.{AreAsMany, HasLogs, here, shape}
use Rattle.paged_desks.specs.session_desks.declared.desk.Desk.{Desk}
use Rattle.paged_desks.proofs.session_state.ServingLemmas.{refused_none, refused_was}
use Rattle.paged_desks.proofs.session_state.UndoLemmas.{many_of}
use Rattle.paged_desks.specs.session_state.Holds.{Holds, IsOf}
use Rattle.paged_desks.specs.session_state.Ties.{Behind}
use Rattle.paged_desks.specs.session_state.declared.session.Session.{Session}
use Rattle.paged_desks.specs.worker_log.Logs.{Log, limit, used}
use Rattle.paged_desks.proofs.call_parts.RunLemmas.{core_is}
use Rattle.paged_desks.specs.call_parts.Deeds.{HasNoneToGo}
use Rattle.paged_desks.specs.call_parts.Parts.{Part}
use Rattle.row_room.specs.row_changes.Takes.{NotTaken}
use Rattle.paged_desks.specs.Machines.{IsReady, memory, view_of}
use Rattle.paged_desks.specs.Parts.{most_a_way}
use Rattle.paged_desks.specs.declared.machine.PagedMachine.{PagedMachine}
use Rattle.paged_desks.specs.Calls.{AreHalf, DoesTied, Tied}
use Rattle.paged_calls.specs.Changes.{MayStill}
use Rattle.paged_calls.specs.Steps.{HasCome, HasTaken}
use Rattle.paged_calls.specs.Tests.{change_test, is_going}
use Rattle.paged_calls.proofs.ChangeTests.{free_of, gate, gate_more, gate_none, gate_of, hindered_of, long_of, no_abort, refusal_is, room_in, test_is, tests_in}
use Rattle.paged_calls.proofs.Conflicts.{lock_free, lock_refused}
use Rattle.paged_desks.proofs.EndingLemmas.{IsOr, refused_tied}
use Rattle.paged_calls.proofs.GoingLemmas.{goes, not_going}
use Rattle.paged_calls.proofs.TidyEvents.{paging_writes}
use Rattle.paged_calls.proofs.KeyLemmas as keys
use Rattle.paged_calls.proofs.KeyLemmas.{IsOfKey}
use Rattle.paged_desks.proofs.EndingLemmas.{Grounds}
use Rattle.paged_calls.proofs.PieceLemmas.{behind_as}
use Rattle.paged_calls.proofs.TakingLemmas.{key_free, key_hindered, none_is, some_is, spent_end}

-- ## In one run

module _ (l : Grounds) (answers : EveryAnswer) (coming : EveryComing) {D : Type 0} (story : D → Story) (lawful : (d : D) → IsLawful (story d)) (m : PagedMachine D) (ready : IsReady story m) (key : ℕ) (c : Call) (of_key : IsOfKey c key happening.Mode.Alone) (g : Opening) (xs : List Done) (workers : g.workers ≡ m.machine.work.session.workers)
    (tied : Tied g m.machine.work.session.group xs (view_of m) (memory m)) (halves : AreHalf g.workers xs m.machine) (line : IsNewLine (outcomes xs)) where
  abbrev x : Session
  x = m.machine.work.session

  abbrev own : ℕ
  own = x.own

  abbrev v : View
  v = view_of m

  abbrev z : Shape
  z = shape m.machine

  abbrev at : State
  at = state_after g (front xs)

  abbrev log : Log
  log = (memory m).log own

  abbrev is_half_aborted : Bool
  is_half_aborted = is_half_done own xs

  abbrev most : Refusal
  most = refusal.LogFull (used log) (limit log)

  holds : Holds z v x m.machine.work.log
  holds = keys.holds l answers coming story lawful m ready key Alone c of_key g xs workers tied halves line

  low : 0 < own
  low = keys.low l answers coming story lawful m ready key Alone c of_key g xs workers tied halves line

  high : own ≤ x.workers
  high = keys.high l answers coming story lawful m ready key Alone c of_key g xs workers tied halves line

  b0 : Behind g xs [] v
  b0 = keys.b0 l answers coming story lawful m ready key Alone c of_key g xs workers tied halves line

  half_is : is_half_aborted ≡ x.is_half_aborted
  half_is = keys.half_is l answers coming story lawful m ready key Alone c of_key g xs workers tied halves line

  pub asks : call_behind (outcomes xs) c ≡ c
  asks = keys.asks l answers coming story lawful m ready key Alone c of_key g xs workers tied halves line

  of_0 : IsOf x (at.worker own)
  of_0 = subst (λ (s : State). IsOf x (s.worker own)) (keys.core_at l answers coming story lawful m ready key Alone c of_key g xs workers tied halves line) holds.session

  log_is : log ≡ m.machine.work.log
  log_is = ap (λ (d : Desk). d.log) (desk_own (here m.machine) m.machine.desks.items own refl)

  -- what its tests come to behind the taking of its row
  abbrev last_in : State → Option Refusal
  last_in s = lock_refusal g s own key happening.Mode.Alone (met_refusal g s own key (room_in g s c))

  tests_0 : refusal_in g at own is_half_aborted log c ≡ gate_of x log (last_in at)
  tests_0 = refusal_is c key of_key g at own is_half_aborted log ∙ tests_in at x log of_0 is_half_aborted half_is (last_in at)

  passed : change_test x log ≡ None → refusal_in g at own is_half_aborted log c ≡ last_in at
  passed e = tests_0 ∙ gate_none (is_going x) (leb 64 (length x.undo)) (leb (limit log) (used log)) (leb (2 ^ 62) x.clock.clock) most (last_in at) (refused_none (gate_of x log None) (sym (test_is x log ready.works) ∙ e))

  -- ## It is refused before anything was done

  module _ (n : PagedMachine D) (part : Part x.workers [] v (view_of n) (memory m) (memory n) (story m.machine.work.disk) (story n.machine.work.disk)) (logged : HasLogs n.machine) (as_many : AreAsMany m.machine n.machine)
      (same : (w : ℕ) → 0 < w → w ≤ x.workers → (desk_of (here n.machine) n.machine.desks.items w).session.is_half_aborted ≡ (desk_of (here m.machine) m.machine.desks.items w).session.is_half_aborted) where
    refused_now : (why : Refusal) → TakesRow why own (g.row_of key) happening.Mode.Alone [] → IsCause limits g (front xs ++ []) at (is_half (marks_by own (outcomes xs))) own c why
        → ((s : State) (d : Call) → HasNoneToGo g s d why) → IsRefusedFor g at own is_half_aborted log c why → ((q : Refusal) → refusal_in g at own is_half_aborted log c ≡ Some q → IsOr why q)
        → DoesTied g x.group xs own c (answer.Refused why) (memory m) n (story m.machine.work.disk) (story n.machine.work.disk)
    refused_now = keys.refused_now l answers coming story lawful m ready key Alone c of_key g xs workers tied halves line n part logged as_many same

    record Early (why : Refusal) : Type 0 where
      cause : IsCause limits g (front xs ++ []) at (is_half (marks_by own (outcomes xs))) own c why
      tries : TakesRow why own (g.row_of key) happening.Mode.Alone []
      kept : (s : State) (d : Call) → HasNoneToGo g s d why

    early : (why : Refusal) → change_test x log ≡ Some (unserved.Refused why) → Early why
    early why e = go (is_going x) (leb 64 (length x.undo)) (leb (limit log) (used log)) (leb (2 ^ 62) x.clock.clock) refl refl refl refl (refused_was (gate_of x log None) why (sym (test_is x log ready.works) ∙ e))
      where
        shut : (x.is_half_aborted ≡ true) ⊎ (x.is_open ≡ false) → ((at.worker own).is_open ≡ false) ⊎ ((is_half_aborted ≡ true) × (c ≡ call.Abort → ⊥))
        shut (inl half) = inr (half_is ∙ half, no_abort c key of_key)
        shut (inr closed) = inl (of_0.is_open ∙ closed)

        go : (a b d f : Bool) → is_going x ≡ a → leb 64 (length x.undo) ≡ b → leb (limit log) (used log) ≡ d → leb (2 ^ 62) x.clock.clock ≡ f → gate a b d f most None ≡ Some why → Early why
        go false b d f p q r u e = subst Early (some_is _ why e) (record { cause = shut (not_going x p); tries = refl; kept = λ _ _. tt })
        go true true d f p q r u e = subst Early (some_is _ why e) (record { cause = long_of c key of_key g at own (let a = leb-true 64 (length x.undo) q in let k = many_of (at.worker own).changes x.undo of_0.undo in let o = b0.opens.changes in omega arith); tries = refl; kept = λ _ _. tt })
        go true false true f p q r u e = subst Early (some_is _ why e) (record { cause = refl; tries = refl; kept = λ _ _. tt })
        go true false false true p q r u e = subst Early (some_is _ why e) (record { cause = let a = leb-true (2 ^ 62) x.clock.clock u in let k = of_0.clock in omega arith; tries = inl refl; kept = λ _ _. tt })
        go true false false false p q r u e = absurd (none_is why e)

    -- by a test
    pub tested : (why : Refusal) → change_test x log ≡ Some (unserved.Refused why) → DoesTied g x.group xs own c (answer.Refused why) (memory m) n (story m.machine.work.disk) (story n.machine.work.disk)
    tested why e = refused_now why (early why e).tries (early why e).cause (early why e).kept (inl now) (λ q r. inl (some_is why q (sym now ∙ r)))
      where
        now : refusal_in g at own is_half_aborted log c ≡ Some why
        now = tests_0 ∙ gate_more (is_going x) (leb 64 (length x.undo)) (leb (limit log) (used log)) (leb (2 ^ 62) x.clock.clock) most why (last_in at) (refused_was (gate_of x log None) why (sym (test_is x log ready.works) ∙ e))

    -- since its row is not to be had
    pub not_taken : change_test x log ≡ None → (why : Refusal) → NotTaken why v (view_of n) own (key % x.held.count) Alone → DoesTied g x.group xs own c (answer.Refused why) (memory m) n (story m.machine.work.disk) (story n.machine.work.disk)
    not_taken none refusal.RowSpent s = refused_now refusal.RowSpent (inl refl) (spent_end g xs [] (view_of n) (behind_as g xs [] v (view_of n) s.given s.seen b0) s.many) (λ _ _. tt) (inr (inl refl)) (λ q r. inr (inl refl))
    not_taken none (refusal.Conflict h) s = refused_now (refusal.Conflict h) refl (hindered_of c key of_key g at own h hinders) (λ _ _. tt) (inl now) (λ q r. inl (some_is (refusal.Conflict h) q (sym now ∙ r)))
      where
        hinders : Hinders (at.row (g.row_of key)) own happening.Mode.Alone h
        hinders = key_hindered l.reached l.needs g xs [] z v x key b0 holds.rows (view_of n) Alone h s

        now : refusal_in g at own is_half_aborted log c ≡ Some (refusal.Conflict h)
        now = passed none ∙ lock_refused g at own key happening.Mode.Alone h hinders (met_refusal g at own key (room_in g at c))
    not_taken none _ s = absurd s

  -- ## Behind its row

  module _ (none : change_test x log ≡ None) (u : PagedMachine D) (t : HasTaken key Alone m u) (taken : IsReady story u) where
    abbrev row : ℕ
    row = key % x.held.count

    abbrev lock : happening.Event
    lock = happening.Event.Lock own row happening.Mode.Alone

    abbrev lock_too : happening.Event
    lock_too = happening.Event.Lock own (g.row_of key) happening.Mode.Alone

    row_is : g.row_of key ≡ row
    row_is = keys.row_is l answers coming story lawful m ready key Alone c of_key g xs workers tied halves line u t

    own_is : u.machine.work.session.own ≡ own
    own_is = keys.own_is l answers coming story lawful m ready key Alone c of_key g xs workers tied halves line u t

    workers_is : u.machine.work.session.workers ≡ x.workers
    workers_is = ap (λ (y : Session). y.workers) t.takes.session

    locked : Part x.workers (told.Lock own row (event_mode Alone) ∷ []) v (view_of u) (memory m) (memory u) (story m.machine.work.disk) (story u.machine.work.disk)
    locked = keys.locked l answers coming story lawful m ready key Alone c of_key g xs workers tied halves line u t

    b1 : Behind g xs (lock ∷ []) (view_of u)
    b1 = keys.b1 l answers coming story lawful m ready key Alone c of_key g xs workers tied halves line u t

    -- the row might be had
    row_free : may_hold (at.row (g.row_of key)) own happening.Mode.Alone ≡ true
    row_free = key_free l.reached l.needs g xs [] z v x key b0 holds.rows (view_of u) u.machine.work.session Alone t.takes

    met_lock : may g at lock_too ≡ true
    met_lock = ap (λ b. b && may_hold (at.row (g.row_of key)) own happening.Mode.Alone) (of_0.is_open ∙ (free_of x log ready.works none).is_open) ∙ row_free

    taken_is : happens g at lock_too ≡ (state (view_of u)).core
    taken_is = (λ i. cond (sym met_lock i) (happens g at lock_too) at) ∙ (ap (λ i. behind_first g xs (happening.Event.Lock own i happening.Mode.Alone ∷ [])) row_is ∙ sym (core_is l.reached l.needs g xs (lock ∷ []) (view_of u) b1))

    -- the clock that the row has brought
    clock_is : (at_row own (at.worker own) (at.row (g.row_of key))).clock ≡ u.machine.work.session.clock.clock
    clock_is = sym (ap (λ (a : Worker). a.clock) (upd_same at.worker own (at_row own (at.worker own) (at.row (g.row_of key))) own refl))
        ∙ (ap (λ (s : State). (s.worker own).clock) taken_is ∙ (ap (λ n. ((state (view_of u)).core.worker n).clock) (sym own_is) ∙ (holds_of (shape u.machine) (view_of u) (here u.machine) u.machine.desks.items taken.sound.desks).session.clock))

    -- it is what is left to test
    pub last_is : refusal_in g at own is_half_aborted log c ≡ cond (leb (2 ^ 62) u.machine.work.session.clock.clock) (Some refusal.ClockSpent) (room_in g at c)
    last_is = passed none ∙ (lock_free g at own key happening.Mode.Alone row_free (met_refusal g at own key (room_in g at c)) ∙ (λ i. cond (leb (2 ^ 62) (clock_is i)) (Some refusal.ClockSpent) (room_in g at c)))

    -- pages came
    module _ (n : PagedMachine D) (come : HasCome story key u n) where
      abbrev moves : List happening.Event
      moves = events_of come.events

      b2 : Behind g xs (lock ∷ moves) (view_of n)
      b2 = keys.b2 l answers coming story lawful m ready key Alone c of_key g xs workers tied halves line u t n come

      pub tight : SyncsWhere (λ s. IsTight g s key) g at false (lock ∷ moves)
      tight = keys.tight l answers coming story lawful m ready key Alone c of_key g xs workers tied halves line u t n come

      -- as a del says it
      pub pressed : SyncsWhere (IsPressed g (call.Del key)) g at false (lock ∷ moves)
      pressed = syncs_weaker (λ s. IsTight g s key) (IsPressed g (call.Del key)) (λ s t. inl t) g (lock ∷ moves) at false tight

      no_step : any is_step moves ≡ false
      no_step = keys.no_step l answers coming story lawful m ready key Alone c of_key g xs workers tied halves line u t n come

      no_structure : any is_structure (lock ∷ moves) ≡ false
      no_structure = keys.no_structure l answers coming story lawful m ready key Alone c of_key g xs workers tied halves line u t n come

      half_all : (w : ℕ) → 0 < w → w ≤ x.workers → (desk_of (here n.machine) n.machine.desks.items w).session.is_half_aborted ≡ (desk_of (here m.machine) m.machine.desks.items w).session.is_half_aborted
      half_all = keys.half_all l answers coming story lawful m ready key Alone c of_key g xs workers tied halves line u t n come

      few : length moves ≤ most_a_way
      few = keys.few l answers coming story lawful m ready key Alone c of_key g xs workers tied halves line u t n come

      so_far : Part x.workers (told.Lock own row (event_mode Alone) ∷ come.events) v (view_of n) (memory m) (memory n) (story m.machine.work.disk) (story n.machine.work.disk)
      so_far = keys.so_far l answers coming story lawful m ready key Alone c of_key g xs workers tied halves line u t n come

      own_here : n.machine.work.session.own ≡ own
      own_here = come.turn ∙ own_is

      -- ## Its clock has come to its end

      pub stopped : IsReady story n → MayStill key n → 2 ^ 62 ≤ n.machine.work.session.clock.clock → RefusedLogs limits g xs own c refusal.ClockSpent (lock ∷ moves)
          → DoesTied g x.group xs own c (answer.Refused refusal.ClockSpent) (memory m) n (story m.machine.work.disk) (story n.machine.work.disk)
      stopped now f spent due =
          refused_tied l m n (story m.machine.work.disk) (story n.machine.work.disk) (lawful m.machine.work.disk) g xs workers tied halves (told.Lock own row (event_mode Alone) ∷ come.events) so_far now.logged
          (keys.as_many l answers coming story lawful m ready key Alone c of_key g xs workers tied halves line u t n come) answers own c refusal.ClockSpent refl low high
          (keys.is_refusal l answers coming story lawful m ready key Alone c of_key g xs workers tied halves line refusal.ClockSpent (lock ∷ moves) (so_far.logged g xs [] b0).met (subst (TakesRows own) (sym kept) (refl, tt))
          (subst (λ ys. (ys ≡ []) ⊎ (ys ≡ lock_too ∷ [])) (sym kept) (inr (ap (λ i. happening.Event.Lock own i happening.Mode.Alone ∷ []) (sym row_is)))) no_structure cause due)
          (keys.shown l answers coming story lawful m ready key Alone c of_key g xs workers tied halves line refusal.ClockSpent (lock ∷ moves) (let a = few in omega arith) (λ _ _. tt) (inl refused) (λ q r. inr (inr refl)) no_structure (paging_writes come.events come.paging))
          half_all
        where
          kept : keep is_step (lock ∷ moves) ≡ lock ∷ []
          kept = ap (λ ys. lock ∷ ys) (keep_none is_step moves no_step)

          y : Session
          y = n.machine.work.session

          of_there : (s : State) → (state (view_of n)).core ≡ s → IsOf n.machine.work.session (s.worker n.machine.work.session.own)
          of_there s e = subst (λ (k : State). IsOf n.machine.work.session (k.worker n.machine.work.session.own)) e (holds_of (shape n.machine) (view_of n) (here n.machine) n.machine.desks.items now.sound.desks).session

          behind_is : (state (view_of n)).core ≡ behind_first g xs (lock ∷ moves)
          behind_is = core_is l.reached l.needs g xs (lock ∷ moves) (view_of n) b2

          after_is : (state (view_of n)).core ≡ state_after g (front xs ++ (lock ∷ moves))
          after_is = behind_is ∙ sym (run_more g (core_start g) (front xs) (lock ∷ moves))

          cause : IsCause limits g (front xs ++ (lock ∷ moves)) (behind_first g xs (lock ∷ moves)) (is_half (marks_by own (outcomes xs))) own c refusal.ClockSpent
          cause = let a = (of_there (behind_first g xs (lock ∷ moves)) behind_is).clock in let e = ap (λ k. ((behind_first g xs (lock ∷ moves)).worker k).clock) own_here in let b = spent in omega arith

          refused : refusal_in g (state_after g (front xs ++ (lock ∷ moves))) own is_half_aborted log c ≡ Some refusal.ClockSpent
          refused = refusal_is c key of_key g (state_after g (front xs ++ (lock ∷ moves))) own is_half_aborted log
              ∙ (ap (λ k. in_transaction (state_after g (front xs ++ (lock ∷ moves))) k is_half_aborted (change_refusal (state_after g (front xs ++ (lock ∷ moves))) k log (last_in (state_after g (front xs ++ (lock ∷ moves)))))) (sym own_here)
              ∙ (tests_in (state_after g (front xs ++ (lock ∷ moves))) n.machine.work.session log (of_there (state_after g (front xs ++ (lock ∷ moves))) after_is) is_half_aborted (half_is ∙ ((free_of x log ready.works none).whole ∙ sym f.whole)) (last_in (state_after g (front xs ++ (lock ∷ moves))))
              ∙ (λ i. gate (goes n.machine.work.session f.is_open f.whole i) (lt-leb 64 (length n.machine.work.session.undo) f.few i) (lt-leb (limit log) (used log) (free_of x log ready.works none).room i) (le-leb (2 ^ 62) n.machine.work.session.clock.clock spent i) most (last_in (state_after g (front xs ++ (lock ∷ moves)))))))
