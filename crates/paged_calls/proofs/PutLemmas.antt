-- A put, in each run to which its machine is tied.
use Rattle.std.proofs.Common.{◌≡◌, ◌∙◌, inl, inr, ◌≤◌, ◌<◌, ◌+◌, ◌^◌, ◌%◌, ℕ, true, false, List, ◌∷◌, Option, Some, None, Result, Ok, Err, length, ap, refl, sym, subst, arith}
use Rattle.map_model.specs.declared.call.Answer.{Answer}
use Rattle.map_model.specs.declared.call.Answer.TheVariants as answer
use Rattle.map_model.specs.declared.call.Call.TheVariants as call
use Rattle.map_model.specs.declared.call.Refusal.{Refusal}
use Rattle.map_model.specs.declared.call.Refusal.TheVariants as refusal
use Rattle.paged_desks.specs.engine_trait.declared.unserved.Unanswered.{Unanswered}
use Rattle.paged_desks.specs.engine_trait.Serving.{unserved_answer}
use Rattle.paged_desks.specs.engine_trait.declared.unserved.Unanswered.TheVariants as unanswered
use Rattle.paged_desks.specs.engine_trait.declared.unserved.Unserved.{Unserved}
use Rattle.paged_desks.specs.engine_trait.declared.unserved.Unserved.TheVariants as unserved
use Rattle.paged_desks.specs.core_calls.Fronts.{Done, front}
use Rattle.paged_desks.specs.core_calls.LogEvents.{IsPressedYet, SyncsWhere}
use Rattle.paged_desks.specs.core_paging.Paging.{EveryResidence}
use Rattle.paged_desks.specs.core_state.Events as happening
use Rattle.paged_desks.specs.core_state.Openings.{Opening}
use Rattle.paged_desks.specs.core_state.Steps.{state_after}
use Rattle.paged_desks.specs.engine_calls.Answers.{EveryAnswer}
use Rattle.paged_desks.specs.engine_calls.Clauses.{EveryComing}
use Rattle.paged_desks.specs.engine_trait.Refusals.{clock_refusal}
use Rattle.paged_desks.specs.key_locks.declared.mode.Mode.TheVariants.{Alone}
use Rattle.lean_disk.specs.Story.{IsLawful, Story}
use Rattle.paged_desks.specs.page_pool.Counts.{EveryFrame}
use Rattle.row_room.proofs.row_changes.StepLemmas.{clock_at_end}
use Rattle.row_room.specs.row_changes.Puts.{IsChanged}
use Rattle.paged_desks.specs.row_words.Moments.{events_of}
use Rattle.paged_desks.proofs.session_desks.DeskLemmas.{desk_own}
use Rattle.paged_desks.specs.session_desks.Parts.{here}
use Rattle.paged_desks.specs.session_desks.declared.desk.Desk.{Desk}
use Rattle.paged_desks.proofs.session_state.ServingLemmas.{refused_not}
use Rattle.paged_desks.specs.session_state.Staging.{KeepsLog}
use Rattle.paged_desks.specs.session_state.declared.session.Session.{Session}
use Rattle.paged_desks.specs.call_parts.Deeds.{Fails}
use Rattle.paged_desks.proofs.Doing.{hot_few}
use Rattle.paged_desks.proofs.EndingLemmas.{Grounds}
use Rattle.paged_desks.proofs.StandLemmas.{halves_are}
use Rattle.paged_desks.specs.Calls.{AreHalf, CallDoes, DoesTied, OnLine, Tied, works_behind}
use Rattle.paged_desks.specs.Machines.{IsReady, memory, view_of}
use Rattle.paged_desks.specs.declared.machine.PagedMachine.{PagedMachine}
use Rattle.paged_calls.specs.Calls.{put_answer}
use Rattle.paged_calls.specs.Changes.{MayStill}
use Rattle.paged_calls.specs.Growths.{HasMade}
use Rattle.paged_calls.specs.Rounds.{FailsComing, Rounds, most_a_put, round_of}
use Rattle.paged_calls.specs.Steps.{HasCome, HasNotTaken, HasTaken}
use Rattle.paged_calls.specs.Tests.{change_test}
use Rattle.paged_calls.proofs.ChangeRuns as runs
use Rattle.paged_calls.proofs.ChangeTests.{test_is}
use Rattle.paged_calls.proofs.GrowthRuns as grown
use Rattle.paged_calls.proofs.ChangeWarms.{still_self}
use Rattle.paged_calls.proofs.MadeLemmas.{made_none, made_up}
use Rattle.paged_calls.proofs.PieceLemmas.{none_part}

module _ (l : Grounds) (residence : EveryResidence) (answers : EveryAnswer) (coming : EveryComing) (frames : EveryFrame) {D : Type 0} (story : D → Story) (lawful : (d : D) → IsLawful (story d)) (m : PagedMachine D) (ready : IsReady story m) (key value : ℕ) where
  abbrev x : Session
  x = m.machine.work.session

  abbrev Did : Result Answer Unanswered → PagedMachine D → Type 0
  Did a n = CallDoes story OnLine x.own (call.Put key value) a m n

  in_memory : (o : Option Unserved) → change_test x m.machine.work.log ≡ o → change_test x ((memory m).log x.own) ≡ o
  in_memory o e = ap (λ (d : Desk). change_test x d.log) (desk_own (here m.machine) m.machine.desks.items x.own refl) ∙ e

  -- ## It is refused before anything was done

  pub put_tested : (why : Unserved) → change_test x m.machine.work.log ≡ Some why → Did (unserved_answer why) m
  put_tested (unserved.Unanswered fault) e g xs workers tied halves line = absurd (refused_not _ fault (sym (test_is x m.machine.work.log ready.works) ∙ e))
  put_tested (unserved.Refused why) e g xs workers tied halves line =
      runs.tested l answers coming story lawful m ready key (call.Put key value) refl g xs workers tied halves line m
      (none_part l story lawful m m (record { shape = refl; disk = refl; log = refl; desks = refl; latches = refl; master = refl; pager = refl }) refl x.workers refl refl) ready.logged (refl, refl) (λ w lo hi. refl) why (in_memory (Some (unserved.Refused why)) e)

  module _ (none : change_test x m.machine.work.log ≡ None) where
    module _ (n : PagedMachine D) (now : IsReady story n) where
      untaken : (why : Refusal) → (s : HasNotTaken why key Alone m n) → (view_of n).given ≡ (view_of m).given → (view_of n).seen ≡ (view_of m).seen → (g : Opening) (xs : List Done) → g.workers ≡ x.workers → Tied g x.group xs (view_of m) (memory m) → AreHalf g.workers xs m.machine → OnLine g xs
          → DoesTied g x.group xs x.own (call.Put key value) (answer.Refused why) (memory m) n (story m.machine.work.disk) (story n.machine.work.disk)
      untaken why s given seen g xs workers tied halves line = runs.not_taken l answers coming story lawful m ready key (call.Put key value) refl g xs workers tied halves line n
          (none_part l story lawful m n s.beside (ap (λ (y : Session). y.own) s.session) x.workers given seen) now.logged (ap (λ (y : Session). y.workers) s.session, ap (λ (y : Session). y.group) s.session)
          (λ w lo hi. halves_are story m n s.beside (ap (λ (y : Session). y.own) s.session) (ap (λ (y : Session). y.is_half_aborted) s.session) w) (in_memory None none) why s.not_taken

      pub put_untaken : (why : Refusal) → HasNotTaken why key Alone m n → Did (Ok (answer.Refused why)) n
      put_untaken refusal.RowSpent s = untaken refusal.RowSpent s s.not_taken.given s.not_taken.seen
      put_untaken (refusal.Conflict h) s = untaken (refusal.Conflict h) s s.not_taken.given s.not_taken.seen
      put_untaken _ s = absurd s.not_taken

    -- ## Behind its row

    module _ (u : PagedMachine D) (t : HasTaken key Alone m u) (taken : IsReady story u) where
      own_is : u.machine.work.session.own ≡ x.own
      own_is = ap (λ (y : Session). y.own) t.takes.session

      -- what the row tells has brought its clock to its end
      pub put_at_end : (why : Refusal) → HasCome story key u u → MayStill key u → clock_refusal u.machine.work.session.clock.clock None ≡ Some why → Did (Ok (answer.Refused why)) u
      put_at_end why come may e = let q = clock_at_end u.machine.work.session.clock.clock why e in subst (λ p. Did (Ok (answer.Refused p)) u) (sym q.is)
          (λ g xs workers tied halves line. runs.stopped l answers coming story lawful m ready key (call.Put key value) refl g xs workers tied halves line (in_memory None none) u t taken u come taken may q.spent
          (subst (λ d. SyncsWhere (IsPressedYet g d refusal.ClockSpent) g (state_after g (front xs)) false (happening.Event.Lock x.own (key % x.held.count) happening.Mode.Alone ∷ events_of come.events)) (sym (runs.asks l answers coming story lawful m ready key (call.Put key value) refl g xs workers tied halves line))
          (runs.tight l answers coming story lawful m ready key (call.Put key value) refl g xs workers tied halves line (in_memory None none) u t taken u come)))

      module _ (small : u.machine.work.session.clock.clock < 2 ^ 62) (fits : value < 2 ^ 63) (n : PagedMachine D) where
        few_made : (k : PagedMachine D) (d : HasMade story key most_a_put u k) → length d.events ≤ 2 ^ 17 + 2 ^ 15
        few_made k d = let a = d.few in let b = hot_few story u taken frames in omega arith

        none_made : HasMade story key most_a_put u u
        none_made = made_up story key 0 most_a_put u u (omega arith) (made_none l residence story lawful key u u (still_self story u))

        failing : FailsComing story key most_a_put u n → (g : Opening) (xs : List Done) → (workers : g.workers ≡ x.workers) → (tied : Tied g x.group xs (view_of m) (memory m)) → (halves : AreHalf g.workers xs m.machine) → OnLine g xs → Fails g x.group xs x.own (call.Put key value) (memory m) (story m.machine.work.disk) (story n.machine.work.disk)
        failing f g xs workers tied halves line =
            grown.put_fault l residence answers coming story lawful m ready key value g xs workers tied halves line (in_memory None none) u t taken small most_a_put f.between f.made (few_made f.between f.made) n f.failed
            (let a = f.made.few in let b = hot_few story u taken frames in let c = f.failed.close in omega arith)

        -- by answer
        pub put_did : (r : Result (Option ℕ) Unserved) → (works_behind r ≡ true → IsReady story n) → Rounds story key value most_a_put (round_of r) u n → Did (put_answer r) n
        put_did (Ok before) now d g xs workers tied halves line =
            grown.put_done l residence answers coming story lawful m ready key value g xs workers tied halves line (in_memory None none) u t taken small most_a_put d.between d.made (few_made d.between d.made) d.ready n d.aside d.session d.is_half_aborted fits before
            (subst (λ k. IsChanged k (view_of d.between) (view_of n) key value before d.between.machine.work.log n.machine.work.log (story d.between.machine.work.disk) (story n.machine.work.disk)) own_is d.changed) (now refl).logged
        put_did (Err (unserved.Refused refusal.RowSpent)) now d g xs workers tied halves line =
            grown.put_spent l residence answers coming story lawful m ready key value g xs workers tied halves line (in_memory None none) u t taken small most_a_put n d.made (few_made n d.made) (now refl) d.spent
        put_did (Err (unserved.Refused refusal.ClockSpent)) now d g xs workers tied halves line =
            grown.put_stopped l residence answers coming story lawful m ready key value g xs workers tied halves line (in_memory None none) u t taken small most_a_put n d.made (few_made n d.made) (now refl) d.going d.spent
        put_did (Err (unserved.Refused refusal.TooTall)) now d g xs workers tied halves line =
            grown.put_tall l residence answers coming story lawful m ready key value g xs workers tied halves line (in_memory None none) u t taken small most_a_put n d.made (few_made n d.made) (now refl) d.going d.leaf d.unfit d.small d.none d.cause
        put_did (Err (unserved.Refused refusal.NoPages)) now d g xs workers tied halves line =
            grown.put_short l residence answers coming story lawful m ready key value g xs workers tied halves line (in_memory None none) u t taken small most_a_put n d.made (few_made n d.made) (now refl) d.going d.leaf d.unfit d.small d.none d.cause
        put_did (Err (unserved.Unanswered unanswered.DiskFault)) now (inl f) g xs workers tied halves line =
            grown.put_fails_staging l residence answers coming story lawful m ready key value g xs workers tied halves line (in_memory None none) u t taken small most_a_put f.between f.made (few_made f.between f.made) n
            (subst (λ k. KeepsLog k f.between.machine.work.log (story f.between.machine.work.disk) (story n.machine.work.disk)) own_is f.keeps)
        put_did (Err (unserved.Unanswered unanswered.DiskFault)) now (inr f) g xs workers tied halves line = failing f g xs workers tied halves line
        put_did (Err (unserved.Unanswered (unanswered.Damaged place))) now d g xs workers tied halves line = (
          failing d.0 g xs workers tied halves line,
          grown.put_never l residence answers coming story lawful m ready key value g xs workers tied halves line (in_memory None none) u t taken small most_a_put u none_made (few_made u none_made) d.1,
        )
        put_did (Err _) now d g xs workers tied halves line = absurd d
