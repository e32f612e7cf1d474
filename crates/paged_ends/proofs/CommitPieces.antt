-- A machine behind a commit that a test did not refuse, by its answer; and a commit that is refused, in every run.
use Rattle.std.proofs.Common.{◌≡◌, ◌∙◌, ◌≤◌, ◌<◌, ◌^◌, ◌⊎◌, inl, inr, ◌↔◌, ◌++◌, ℕ, suc, Bool, true, false, cond, List, [], length, Some, None, Result, Ok, Err, IfErr, ap, refl, sym, subst, arith, append-nil, true≢false}
use Rattle.std.proofs.lemmas.List.{length-append}
use Rattle.map_model.specs.Lists.{keep}
use Rattle.map_model.specs.declared.call.Answer.TheVariants as answer
use Rattle.map_model.specs.declared.call.Call.{Call}
use Rattle.map_model.specs.declared.call.Call.TheVariants as call
use Rattle.map_model.specs.declared.call.Refusal.{Refusal}
use Rattle.map_model.specs.declared.call.Refusal.TheVariants as refusal
use Rattle.paged_desks.specs.engine_trait.Serving.{MayRefuse}
use Rattle.paged_desks.specs.engine_trait.declared.unserved.Unanswered.TheVariants as unanswered
use Rattle.paged_desks.specs.engine_trait.declared.unserved.Unserved.{Unserved}
use Rattle.paged_desks.specs.engine_trait.declared.unserved.Unserved.TheVariants as unserved
use Rattle.paged_desks.proofs.core_calls.WhereLemmas.{refused_kept}
use Rattle.paged_desks.specs.core_calls.Deeds.{marks_by}
use Rattle.paged_desks.specs.core_calls.Fronts.{Done, front, outcomes}
use Rattle.paged_desks.specs.core_calls.LogEvents.{is_log}
use Rattle.paged_desks.specs.core_calls.Marks.{is_half}
use Rattle.paged_desks.specs.core_calls.Scans.{StopsOnWay}
use Rattle.paged_desks.specs.core_calls.Steps.{Tries, call_behind, is_step}
use Rattle.paged_desks.specs.core_state.Events as happening
use Rattle.paged_desks.specs.core_state.Openings.{Opening}
use Rattle.paged_desks.specs.core_state.States.{State}
use Rattle.paged_desks.specs.core_state.Steps.{state_after}
use Rattle.paged_desks.proofs.engine_calls.MarkLemmas.{keep_none}
use Rattle.paged_desks.specs.engine_calls.Answers.{EveryAnswer}
use Rattle.paged_desks.specs.engine_calls.Clauses.{EveryComing, IsNewLine}
use Rattle.paged_desks.specs.engine_calls.Parts.{behind_first}
use Rattle.paged_desks.specs.engine_calls.Refused.{TakesRows, refused_by}
use Rattle.paged_desks.specs.engine_trait.Calls.{is_half_done}
use Rattle.paged_desks.specs.engine_trait.Limits.{limits}
use Rattle.paged_desks.specs.engine_trait.Refusals.{refusal_in}
use Rattle.lean_disk.proofs.MomentLemmas.{framed}
use Rattle.lean_disk.specs.Moments.{Framed}
use Rattle.lean_disk.specs.Story.{IsLawful, Story}
use Rattle.paged_desks.specs.row_words.declared.event.Event.{Event}
use Rattle.paged_desks.specs.row_words.Moments.{events_of}
use Rattle.paged_desks.specs.row_words.Openings.{opening}
use Rattle.paged_desks.specs.rows_trait.Views.{state}
use Rattle.row_ends.proofs.GoingLemmas.{not_going, tests_as}
use Rattle.row_ends.proofs.Misses.{misses_core, misses_log, misses_met, misses_quiet, misses_steps, misses_structure}
use Rattle.row_ends.specs.Outcomes.{Commits, IsSpent}
use Rattle.row_ends.specs.Tests.{is_going}
use Rattle.row_ends.specs.declared.ending.Ended as replies
use Rattle.paged_desks.proofs.session_state.Moments.{seen_state}
use Rattle.paged_desks.specs.session_state.Holds.{Holds, IsSameSession}
use Rattle.paged_desks.specs.session_state.Others.{EveryOther, Steps}
use Rattle.paged_desks.specs.session_state.Ties.{Behind}
use Rattle.paged_desks.specs.session_state.declared.session.Session.{Session}
use Rattle.paged_desks.proofs.session_desks.DeskLemmas.{desk_own}
use Rattle.paged_desks.proofs.session_desks.SeatLemmas.{holds_of, turn_high, turn_low}
use Rattle.paged_desks.specs.session_desks.Machines.{AreLogged}
use Rattle.paged_desks.specs.session_desks.Parts.{SeatFits, here, shape}
use Rattle.paged_desks.specs.session_desks.declared.desk.Desk.{Desk}
use Rattle.paged_desks.specs.worker_log.Logs.{Log}
use Rattle.paged_desks.proofs.call_parts.RunLemmas.{behind_more, core_is}
use Rattle.paged_desks.proofs.call_parts.StepLemmas.{every_step}
use Rattle.paged_desks.specs.call_parts.Memory.{Memory}
use Rattle.paged_desks.specs.call_parts.Rooms.{ChangesTree}
use Rattle.paged_desks.specs.call_parts.Parts.{Part}
use Rattle.paged_desks.specs.Calls.{AreHalf, DoesTied, EndsWork, IsAside, IsBeside, Tied, works_behind}
use Rattle.paged_desks.specs.Machines.{IsReady, memory, view_of}
use Rattle.paged_desks.specs.declared.machine.PagedMachine.{PagedMachine}
use Rattle.paged_desks.proofs.AsideLemmas.{ready_aside}
use Rattle.paged_desks.proofs.EndingLemmas.{Grounds, begins, grows_none, line_call, refused_tied}
use Rattle.paged_desks.proofs.Moments.{length_events}
use Rattle.paged_desks.proofs.StandLemmas.{IsBusy, halves_are, logs_is, memory_is}
use Rattle.paged_ends.proofs.CommitStands.{busy_none, ready_committed}

-- ## It stands

module _ {D : Type 0} (story : D → Story) (law : EveryOther) (m n : PagedMachine D) (ready : IsReady story m) (opened : m.machine.work.session.is_open ≡ true) where
  abbrev x : Session
  x = m.machine.work.session

  abbrev y : Session
  y = n.machine.work.session

  abbrev Did : Result replies.Ended Unserved → Type 0
  Did r = Commits story r (view_of m) (view_of n) x y m.machine.work.log n.machine.work.log m.machine.work.disk n.machine.work.disk

  spent_core : (s : IsSpent (view_of m) (view_of n) x y m.machine.work.log n.machine.work.log m.machine.work.disk n.machine.work.disk) → (state (view_of n)).core ≡ (state (view_of m)).core
  spent_core s = ap (λ k. k.core) (seen_state (view_of m) (view_of n) s.missed.misses s.missed.given s.missed.seen) ∙ misses_core (view_of m).given (state (view_of m)) s.missed.misses s.missed.are_misses

  module _ (a : IsAside m n) (fits : SeatFits n.machine) (same : IsSameSession x y) (works : y.works ≡ true) (holds : Holds (shape n.machine) (view_of n) y n.machine.work.log) (steps : Steps x.own (view_of m) (view_of n)) where
    -- a latch was spent
    spent : IsSpent (view_of m) (view_of n) x y m.machine.work.log n.machine.work.log m.machine.work.disk n.machine.work.disk → IsReady story n
    spent s = ready_aside story m n a same ready law s.missed.given (subst (IsBusy (state (view_of m)).core) (sym (spent_core s)) (busy_none (state (view_of m)).core)) steps
        (subst (λ (d : D). Framed (suc x.own) (story m.machine.work.disk) (story d)) (sym s.disk) (framed (suc x.own) (story m.machine.work.disk))) fits works holds
        (subst (λ (q : State × (ℕ → Log) × ℕ). AreLogged q.0 q.1 q.2) (λ i. (sym (spent_core s) i, sym (logs_is story m n b same.0) i, sym same.1 i)) ready.logged)
      where
        b : IsBeside m n
        b = record { shape = a.shape; disk = s.disk; log = s.log; desks = a.desks; latches = a.latches; master = a.master; pager = a.pager }

    by_answer : (r : Result replies.Ended Unserved) → Did r → works_behind r ≡ true → IsReady story n
    by_answer (Ok told) c on = ready_committed story m n ready opened a same law told c steps fits works holds
    by_answer (Err (unserved.Refused refusal.RowSpent)) c on = spent c
    by_answer (Err (unserved.Unanswered unanswered.DiskFault)) c on = absurd (true≢false (sym on))
    by_answer (Err _) c on = absurd c

  -- ## What is told

  fault_is : ◌≡◌ {A = Result replies.Ended Unserved} (Err (unserved.Refused refusal.RowSpent)) (Err (unserved.Unanswered unanswered.DiskFault)) → ⊥
  fault_is e = absurd (cc)

  ok_err : (told : replies.Ended) → ◌≡◌ {A = Result replies.Ended Unserved} (Ok told) (Err (unserved.Unanswered unanswered.DiskFault)) → ⊥
  ok_err told e = absurd (cc)

  pub works_by : (r : Result replies.Ended Unserved) → Did r → (y.works ≡ true) ↔ (r ≡ Err (unserved.Unanswered unanswered.DiskFault) → ⊥) → y.works ≡ works_behind r
  works_by (Ok told) c w = w.1 (ok_err told)
  works_by (Err (unserved.Refused refusal.RowSpent)) c w = w.1 fault_is
  works_by (Err (unserved.Unanswered unanswered.DiskFault)) c w = go y.works refl
    where
      go : (b : Bool) → y.works ≡ b → y.works ≡ false
      go true e = absurd (w.0 e refl)
      go false e = e
  works_by (Err _) c w = absurd c

  pub comes_by : (r : Result replies.Ended Unserved) → Did r → IfErr r (λ why. MayRefuse 1 why ⊎ EndsWork why)
  comes_by (Ok told) c = tt
  comes_by (Err (unserved.Refused refusal.RowSpent)) c = inl tt
  comes_by (Err (unserved.Unanswered unanswered.DiskFault)) c = inr refl
  comes_by (Err _) c = absurd c

  pub not_broken : (r : Result replies.Ended Unserved) → Did r → r ≡ Err (unserved.Unanswered unanswered.Broken) → ⊥
  not_broken (Ok told) c e = absurd (cc)
  not_broken (Err (unserved.Refused refusal.RowSpent)) c e = absurd (cc)
  not_broken (Err (unserved.Unanswered unanswered.DiskFault)) c e = absurd (cc)
  not_broken (Err _) c e = absurd c

pub ready_by : {D : Type 0} (story : D → Story) → EveryOther → (m n : PagedMachine D) → IsReady story m → m.machine.work.session.is_open ≡ true → (r : Result replies.Ended Unserved) → Commits story r (view_of m) (view_of n) m.machine.work.session n.machine.work.session m.machine.work.log n.machine.work.log m.machine.work.disk n.machine.work.disk → works_behind r ≡ true
    → SeatFits n.machine × (shape n.machine ≡ shape m.machine) → IsSameSession m.machine.work.session n.machine.work.session → (n.machine.work.session.works ≡ true) ↔ (r ≡ Err (unserved.Unanswered unanswered.DiskFault) → ⊥) → (n.machine.work.session.works ≡ true → Holds (shape n.machine) (view_of n) n.machine.work.session n.machine.work.log)
    → (n.machine.work.session.works ≡ true → Steps m.machine.work.session.own (view_of m) (view_of n)) → (n.machine.work.session.works ≡ true → n.machine.latches ≡ m.machine.latches) → n.machine.desks ≡ m.machine.desks → n.machine.master ≡ m.machine.master → n.pager ≡ m.pager → IsReady story n
ready_by story law m n ready opened r c on fits same works holds steps unmarked desks master pager =
    by_answer story law m n ready opened (record { shape = fits.1; desks = desks; latches = unmarked w; master = master; pager = pager }) fits.0 same w (holds w) (steps w) r c on
  where
    w : n.machine.work.session.works ≡ true
    w = works_by story law m n ready opened r c works ∙ on

-- ## It is refused

module _ (l : Grounds) (answers : EveryAnswer) (coming : EveryComing) {D : Type 0} (story : D → Story) (lawful : (d : D) → IsLawful (story d)) (m n : PagedMachine D) (ready : IsReady story m)
    (g : Opening) (xs : List Done) (many : g.workers ≡ m.machine.work.session.workers) (tied : Tied g m.machine.work.session.group xs (view_of m) (memory m)) (halves : AreHalf g.workers xs m.machine) (line : IsNewLine (outcomes xs)) where
  abbrev z : Session
  z = m.machine.work.session

  abbrev own : ℕ
  own = z.own

  held : Holds (shape m.machine) (view_of m) z m.machine.work.log
  held = holds_of (shape m.machine) (view_of m) (here m.machine) m.machine.desks.items ready.sound.desks

  low : 0 < own
  low = turn_low (shape m.machine) (view_of m) (here m.machine) m.machine.desks.items ready.sound.desks

  high : own ≤ z.workers
  high = turn_high (shape m.machine) (view_of m) (here m.machine) m.machine.desks.items ready.sound.desks

  start : Behind g xs [] (view_of m)
  start = begins g z.group xs (view_of m) (memory m) tied

  asks : call_behind (outcomes xs) call.Commit ≡ call.Commit
  asks = line_call xs call.Commit line

  abbrev st : Story
  st = story m.machine.work.disk

  abbrev s : State
  s = state_after g (front xs)

  core_m : (state (view_of m)).core ≡ s
  core_m = core_is l.reached l.needs g xs [] (view_of m) start

  half_is : is_half_done own xs ≡ z.is_half_aborted
  half_is = halves own low (let e = many in let k = high in omega arith) ∙ ap (λ (d : Desk). d.session.is_half_aborted) (desk_own (here m.machine) m.machine.desks.items own refl)

  -- no transaction goes on
  pub closed_does : is_going z ≡ false → DoesTied g z.group xs own call.Commit (answer.Refused refusal.NoTransaction) (memory m) m st st
  closed_does closed = refused_tied l m m st st (lawful m.machine.work.disk) g xs many tied halves [] part ready.logged (refl, refl) answers own call.Commit refusal.NoTransaction refl low high
      (record {
        comes = (coming xs (refused_by own call.Commit refusal.NoTransaction []).outcome).new line tt;
        met = tt;
        rows = tt;
        tries = subst (λ (d : Call). Tries g own (outcomes xs) d refusal.NoTransaction []) (sym asks) refl;
        scans = subst (λ (d : Call). StopsOnWay g own (outcomes xs) s d refusal.NoTransaction []) (sym asks) tt;
        structure = λ _. refl;
        cause = cause (not_going z closed);
        due = refused_kept limits g xs own call.Commit refusal.NoTransaction [] tt refl;
      })
      (record {
        few = omega arith;
        is_for = inl (subst (λ (d : Call). refusal_in g (state_after g (front xs ++ [])) own (is_half_done own xs) ((memory m).log own) d ≡ Some refusal.NoTransaction) (sym asks) (ap (λ ys. refusal_in g (state_after g ys) own (is_half_done own xs) ((memory m).log own) call.Commit) (append-nil (front xs)) ∙ none));
        kept = tt;
        refuses = λ q sure e. inl (some_is refusal.NoTransaction q (sym none ∙ subst (λ (d : Call). refusal_in g s own (is_half_done own xs) ((memory m).log own) d ≡ Some q) asks e));
        still = λ q e. refl;
        stays = λ q sure e. refl;
        room = subst (λ (d : Call). ChangesTree own g s d []) (sym asks) refl;
      })
      (λ w lo hi. refl)
    where
      part : Part z.workers [] (view_of m) (view_of m) (memory m) (memory m) st st
      part = (every_step l.reached l.needs l.versions l.kept l.prefixes l.seals st st (lawful m.machine.work.disk) z.workers (view_of m) (view_of m) (memory m)).none

      open_is : (s.worker own).is_open ≡ z.is_open
      open_is = ap (λ (k : State). (k.worker own).is_open) (sym core_m) ∙ held.session.is_open

      cause : (z.is_half_aborted ≡ true) ⊎ (z.is_open ≡ false) → ((behind_first g xs []).worker own).is_open ≡ false ⊎ ((is_half (marks_by own (outcomes xs)) ≡ true) × (call.Commit ≡ call.Abort → ⊥))
      cause (inl is_half_aborted) = inr (half_is ∙ is_half_aborted, λ e. absurd (cc))
      cause (inr shut) = inl (open_is ∙ shut)

      none : refusal_in g s own (is_half_done own xs) ((memory m).log own) call.Commit ≡ Some refusal.NoTransaction
      none = tests_as s (is_half_done own xs) z open_is half_is None ∙ ap (λ b. cond b None (Some refusal.NoTransaction)) closed

      some_is : (p q : Refusal) → Some p ≡ Some q → p ≡ q
      some_is p q e = cc

  -- a latch has come to its end
  module _ (k : IsSpent (view_of m) (view_of n) z n.machine.work.session m.machine.work.log n.machine.work.log m.machine.work.disk n.machine.work.disk) (a : IsAside m n) (ready_n : IsReady story n) where
    abbrev es : List Event
    es = k.missed.misses

    abbrev first : List happening.Event
    first = events_of es

    b : IsBeside m n
    b = record { shape = a.shape; disk = k.disk; log = k.log; desks = a.desks; latches = a.latches; master = a.master; pager = a.pager }

    part : Part z.workers es (view_of m) (view_of n) (memory m) (memory n) st (story n.machine.work.disk)
    part = subst (λ (q : Memory × D). Part z.workers es (view_of m) (view_of n) (memory m) q.0 st (story q.1)) (λ i. (sym (memory_is story m n b (ap (λ (x : Session). x.own) k.session)) i, sym k.disk i))
        ((every_step l.reached l.needs l.versions l.kept l.prefixes l.seals st st (lawful m.machine.work.disk) z.workers (view_of m) (view_of n) (memory m)).rest es
        (record { given = k.missed.given; seen = k.missed.seen; met = misses_met (opening (view_of m).given) (state (view_of m)).core es k.missed.are_misses }) (misses_quiet es k.missed.are_misses))

    late : 2 ^ 61 ≤ length (front xs ++ first)
    late =
        let b1 = behind_more g xs [] (view_of m) start es (view_of n) k.missed.given k.missed.seen (misses_met g s es k.missed.are_misses) in
        let d = ap (λ ys. length ys) b1.seen in
        let e = length-append (events_of (view_of n).given.before) (events_of (view_of n).seen) in
        let f = length_events (view_of n).seen in
        let k1 = k.late in
        omega arith

    pub spent_does : DoesTied g z.group xs own call.Commit (answer.Refused refusal.RowSpent) (memory m) n st (story n.machine.work.disk)
    spent_does = refused_tied l m n st (story n.machine.work.disk) (lawful m.machine.work.disk) g xs many tied halves es part ready_n.logged (ap (λ (x : Session). x.workers) k.session, ap (λ (x : Session). x.group) k.session) answers own call.Commit refusal.RowSpent refl low high
        (record {
          comes = (coming xs (refused_by own call.Commit refusal.RowSpent first).outcome).new line tt;
          met = misses_met g s es k.missed.are_misses;
          rows = subst (TakesRows own) (sym (keep_none is_step first (misses_steps es k.missed.are_misses))) tt;
          tries = subst (λ (d : Call). Tries g own (outcomes xs) d refusal.RowSpent (keep is_step first)) (sym asks) (keep_none is_step first (misses_steps es k.missed.are_misses));
          scans = subst (λ (d : Call). StopsOnWay g own (outcomes xs) s d refusal.RowSpent first) (sym asks) tt;
          structure = λ _. misses_structure es k.missed.are_misses;
          cause = late;
          due = refused_kept limits g xs own call.Commit refusal.RowSpent first tt (keep_none is_log first (misses_log es k.missed.are_misses));
        })
        (record {
          few = let c = length_events es in let d = k.missed.few in let e = held.fewer in let f = held.rows.few in omega arith;
          is_for = inr (inl refl);
          kept = tt;
          refuses = λ q sure e. inr (inl refl);
          still = λ q e. grows_none first (misses_structure es k.missed.are_misses);
          stays = λ q sure e. misses_structure es k.missed.are_misses;
          room = subst (λ (d : Call). ChangesTree own g s d first) (sym asks) (misses_structure es k.missed.are_misses);
        })
        (λ w lo hi. halves_are story m n b (ap (λ (x : Session). x.own) k.session) (ap (λ (x : Session). x.is_half_aborted) k.session) w)
