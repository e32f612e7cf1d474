-- A del, in each run to which its machine is tied.
use Rattle.std.proofs.Common.{◌+◌, arith, length, ◌≡◌, ◌∙◌, inl, inr, ◌≤◌, ◌<◌, ◌^◌, ◌%◌, ℕ, true, false, List, ◌∷◌, Option, Some, None, Result, Ok, Err, ap, refl, sym, subst}
use Rattle.map_model.specs.declared.call.Answer.{Answer}
use Rattle.map_model.specs.declared.call.Answer.TheVariants as answer
use Rattle.map_model.specs.declared.call.Call.TheVariants as call
use Rattle.map_model.specs.declared.call.Refusal.{Refusal}
use Rattle.map_model.specs.declared.call.Refusal.TheVariants as refusal
use Rattle.paged_desks.specs.engine_trait.declared.unserved.Unanswered.{Unanswered}
use Rattle.paged_desks.specs.engine_trait.Serving.{unserved_answer}
use Rattle.paged_desks.specs.engine_trait.declared.unserved.Unanswered.TheVariants as unanswered
use Rattle.paged_desks.specs.engine_trait.declared.unserved.Unserved.{Unserved}
use Rattle.paged_desks.specs.engine_trait.declared.unserved.Unserved.TheVariants as unserved
use Rattle.paged_desks.specs.btree_descent.declared.descent.TheConstants.{TOMBSTONE}
use Rattle.paged_desks.specs.core_calls.Fronts.{Done, front}
use Rattle.paged_desks.specs.core_calls.LogEvents.{IsPressedYet, SyncsWhere}
use Rattle.paged_desks.specs.core_state.Events as happening
use Rattle.paged_desks.specs.core_state.Openings.{Opening}
use Rattle.paged_desks.specs.core_state.Steps.{state_after}
use Rattle.paged_desks.specs.engine_calls.Answers.{EveryAnswer}
use Rattle.paged_desks.specs.engine_calls.Clauses.{EveryComing}
use Rattle.paged_desks.specs.engine_trait.Refusals.{clock_refusal}
use Rattle.paged_desks.specs.key_locks.declared.mode.Mode.TheVariants.{Alone}
use Rattle.lean_disk.specs.Story.{IsLawful, Story}
use Rattle.paged_desks.specs.row_words.Moments.{events_of}
use Rattle.paged_desks.specs.session_desks.Parts.{here}
use Rattle.paged_desks.specs.session_desks.declared.desk.Desk.{Desk}
use Rattle.paged_desks.proofs.session_desks.DeskLemmas.{desk_own}
use Rattle.paged_desks.proofs.session_state.ServingLemmas.{refused_not}
use Rattle.paged_desks.specs.session_state.Staging.{KeepsLog}
use Rattle.paged_desks.specs.session_state.declared.session.Session.{Session}
use Rattle.row_room.proofs.row_changes.StepLemmas.{clock_at_end}
use Rattle.row_room.specs.row_changes.Puts.{IsChanged}
use Rattle.row_room.specs.row_changes.Reads.{HasRead}
use Rattle.paged_desks.specs.Machines.{IsReady, memory, view_of}
use Rattle.paged_desks.specs.declared.machine.PagedMachine.{PagedMachine}
use Rattle.paged_desks.specs.Calls.{AreHalf, CallDoes, DoesTied, OnLine, Tied, works_behind}
use Rattle.paged_calls.specs.Calls.{del_answer}
use Rattle.paged_calls.specs.Changes.{MayStill}
use Rattle.paged_calls.specs.Steps.{HasCome, HasNotTaken, HasTaken}
use Rattle.paged_calls.specs.Tests.{change_test}
use Rattle.paged_calls.proofs.ChangeRuns as runs
use Rattle.paged_calls.proofs.ChangeTests.{test_is}
use Rattle.paged_desks.proofs.EndingLemmas.{Grounds}
use Rattle.paged_calls.proofs.PieceLemmas.{none_part}
use Rattle.paged_desks.proofs.StandLemmas.{halves_are}
use Rattle.paged_desks.specs.core_paging.Paging.{EveryResidence}
use Rattle.paged_desks.specs.call_parts.Deeds.{Fails}
use Rattle.row_walks.specs.declared.steps.At.{At}
use Rattle.row_walks.specs.declared.steps.At.TheVariants as begun
use Rattle.paged_calls.specs.Tidyings.{Dels, FailsNeighbour, HasTidied, most_a_del}
use Rattle.paged_calls.proofs.ChangeWarms.{still_self}
use Rattle.paged_calls.proofs.TidyRuns as tidy
use Rattle.paged_calls.proofs.TidyStands.{tidied_none, tidied_up}
use Rattle.paged_desks.specs.page_pool.Counts.{EveryFrame}
use Rattle.paged_desks.proofs.Doing.{hot_few}

module _ (l : Grounds) (residence : EveryResidence) (answers : EveryAnswer) (coming : EveryComing) (frames : EveryFrame) {D : Type 0} (story : D → Story) (lawful : (d : D) → IsLawful (story d)) (m : PagedMachine D) (ready : IsReady story m) (key : ℕ) where
  abbrev x : Session
  x = m.machine.work.session

  abbrev Did : Result Answer Unanswered → PagedMachine D → Type 0
  Did a n = CallDoes story OnLine x.own (call.Del key) a m n

  -- by the log that is in memory
  in_memory : (o : Option Unserved) → change_test x m.machine.work.log ≡ o → change_test x ((memory m).log x.own) ≡ o
  in_memory o e = ap (λ (d : Desk). change_test x d.log) (desk_own (here m.machine) m.machine.desks.items x.own refl) ∙ e

  -- ## It is refused before anything was done

  pub del_tested : (why : Unserved) → change_test x m.machine.work.log ≡ Some why → Did (unserved_answer why) m
  del_tested (unserved.Unanswered fault) e g xs workers tied halves line = absurd (refused_not _ fault (sym (test_is x m.machine.work.log ready.works) ∙ e))
  del_tested (unserved.Refused why) e g xs workers tied halves line =
      runs.tested l answers coming story lawful m ready key (call.Del key) refl g xs workers tied halves line m
      (none_part l story lawful m m (record { shape = refl; disk = refl; log = refl; desks = refl; latches = refl; master = refl; pager = refl }) refl x.workers refl refl) ready.logged (refl, refl) (λ w lo hi. refl) why (in_memory (Some (unserved.Refused why)) e)

  module _ (none : change_test x m.machine.work.log ≡ None) where
    module _ (n : PagedMachine D) (now : IsReady story n) where
      untaken : (why : Refusal) → (s : HasNotTaken why key Alone m n) → (view_of n).given ≡ (view_of m).given → (view_of n).seen ≡ (view_of m).seen → (g : Opening) (xs : List Done) → g.workers ≡ x.workers → Tied g x.group xs (view_of m) (memory m) → AreHalf g.workers xs m.machine → OnLine g xs
          → DoesTied g x.group xs x.own (call.Del key) (answer.Refused why) (memory m) n (story m.machine.work.disk) (story n.machine.work.disk)
      untaken why s given seen g xs workers tied halves line = runs.not_taken l answers coming story lawful m ready key (call.Del key) refl g xs workers tied halves line n
          (none_part l story lawful m n s.beside (ap (λ (y : Session). y.own) s.session) x.workers given seen) now.logged (ap (λ (y : Session). y.workers) s.session, ap (λ (y : Session). y.group) s.session)
          (λ w lo hi. halves_are story m n s.beside (ap (λ (y : Session). y.own) s.session) (ap (λ (y : Session). y.is_half_aborted) s.session) w) (in_memory None none) why s.not_taken

      pub del_untaken : (why : Refusal) → HasNotTaken why key Alone m n → Did (Ok (answer.Refused why)) n
      del_untaken refusal.RowSpent s = untaken refusal.RowSpent s s.not_taken.given s.not_taken.seen
      del_untaken (refusal.Conflict h) s = untaken (refusal.Conflict h) s s.not_taken.given s.not_taken.seen
      del_untaken _ s = absurd s.not_taken

    -- ## Behind its row

    module _ (u : PagedMachine D) (t : HasTaken key Alone m u) (taken : IsReady story u) where
      own_is : u.machine.work.session.own ≡ x.own
      own_is = ap (λ (y : Session). y.own) t.takes.session

      -- its clock has come to its end, by the row or by a sync
      stopped : (n : PagedMachine D) → IsReady story n → HasCome story key u n → MayStill key n → 2 ^ 62 ≤ n.machine.work.session.clock.clock → Did (Ok (answer.Refused refusal.ClockSpent)) n
      stopped n now come may spent g xs workers tied halves line = runs.stopped l answers coming story lawful m ready key (call.Del key) refl g xs workers tied halves line (in_memory None none) u t taken n come now may spent
          (subst (λ d. SyncsWhere (IsPressedYet g d refusal.ClockSpent) g (state_after g (front xs)) false (happening.Event.Lock x.own (key % x.held.count) happening.Mode.Alone ∷ events_of come.events)) (sym (runs.asks l answers coming story lawful m ready key (call.Del key) refl g xs workers tied halves line))
          (runs.pressed l answers coming story lawful m ready key (call.Del key) refl g xs workers tied halves line (in_memory None none) u t taken n come))

      pub del_stopped : (why : Refusal) → HasCome story key u u → MayStill key u → clock_refusal u.machine.work.session.clock.clock None ≡ Some why → Did (Ok (answer.Refused why)) u
      del_stopped why come may e = let q = clock_at_end u.machine.work.session.clock.clock why e in subst (λ p. Did (Ok (answer.Refused p)) u) (sym q.is) (stopped u taken come may q.spent)

      module _ (small : u.machine.work.session.clock.clock < 2 ^ 62) (n : PagedMachine D) where
        few_made : (there : At) (k : PagedMachine D) (d : HasTidied story key begun.Before there most_a_del u k) → length d.events ≤ 2 ^ 17 + 2 ^ 15
        few_made there k d = let a = d.few in let b = hot_few story u taken frames in omega arith

        none_made : HasTidied story key begun.Before begun.Before most_a_del u u
        none_made = tidied_up story key begun.Before begun.Before 0 most_a_del u u (omega arith) (tidied_none l story lawful key begun.Before u u (still_self story u))

        failing : FailsNeighbour story key begun.Before most_a_del u n → (g : Opening) (xs : List Done) → (workers : g.workers ≡ x.workers) → (tied : Tied g x.group xs (view_of m) (memory m)) → (halves : AreHalf g.workers xs m.machine) → OnLine g xs → Fails g x.group xs x.own (call.Del key) (memory m) (story m.machine.work.disk) (story n.machine.work.disk)
        failing f g xs workers tied halves line =
            tidy.del_fault l residence answers coming story lawful m ready key g xs workers tied halves line (in_memory None none) u t taken small most_a_del f.there f.between f.made (few_made f.there f.between f.made) n f.failed
            (let a = f.made.few in let b = hot_few story u taken frames in let c = f.failed.close in omega arith)

        -- by answer
        pub del_did : (r : Result (Option ℕ) Unserved) → (works_behind r ≡ true → IsReady story n) → Dels story key begun.Before most_a_del r u n → Did (del_answer r) n
        del_did (Ok (Some before)) now d g xs workers tied halves line =
            tidy.del_done l residence answers coming story lawful m ready key g xs workers tied halves line (in_memory None none) u t taken small most_a_del d.there d.between d.made (few_made d.there d.between d.made) d.ready n d.aside d.session d.is_half_aborted before
            (subst (λ k. IsChanged k (view_of d.between) (view_of n) key TOMBSTONE (Some before) d.between.machine.work.log n.machine.work.log (story d.between.machine.work.disk) (story n.machine.work.disk)) own_is d.changed) d.tidy (now refl).logged
        del_did (Ok None) now d g xs workers tied halves line =
            tidy.del_missed l residence answers coming story lawful m ready key g xs workers tied halves line (in_memory None none) u t taken small most_a_del d.there d.between d.made (few_made d.there d.between d.made) d.ready n d.beside d.session d.is_half_aborted
            (subst (λ k. HasRead k (view_of d.between) (view_of n) key None) own_is d.read) d.may.row d.unchanged (now refl).logged
        del_did (Err (unserved.Refused refusal.RowSpent)) now d g xs workers tied halves line =
            tidy.del_spent l residence answers coming story lawful m ready key g xs workers tied halves line (in_memory None none) u t taken small most_a_del d.there n d.made (few_made d.there n d.made) (now refl) d.spent
        del_did (Err (unserved.Refused refusal.ClockSpent)) now d g xs workers tied halves line =
            tidy.del_stopped l residence answers coming story lawful m ready key g xs workers tied halves line (in_memory None none) u t taken small most_a_del d.there n d.made (few_made d.there n d.made) (now refl) d.going d.spent
        del_did (Err (unserved.Unanswered unanswered.DiskFault)) now (inl f) g xs workers tied halves line =
            tidy.del_fails_staging l residence answers coming story lawful m ready key g xs workers tied halves line (in_memory None none) u t taken small most_a_del f.there f.between f.made (few_made f.there f.between f.made) n
            (subst (λ k. KeepsLog k f.between.machine.work.log (story f.between.machine.work.disk) (story n.machine.work.disk)) own_is f.keeps)
        del_did (Err (unserved.Unanswered unanswered.DiskFault)) now (inr f) g xs workers tied halves line = failing f g xs workers tied halves line
        del_did (Err (unserved.Unanswered (unanswered.Damaged place))) now d g xs workers tied halves line = (
          failing d.0 g xs workers tied halves line,
          tidy.del_never l residence answers coming story lawful m ready key g xs workers tied halves line (in_memory None none) u t taken small most_a_del begun.Before u none_made (few_made begun.Before u none_made) d.1,
        )
        del_did (Err _) now d g xs workers tied halves line = absurd d
