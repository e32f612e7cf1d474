-- A begin in every run.
use Rattle.std.proofs.Common.{◌≡◌, ◌∙◌, ◌≤◌, ◌<◌, ◌^◌, ◌⊎◌, ◌↔◌, inl, inr, ℕ, leb, Bool, true, false, cond, List, [], length, Some, None, Result, Ok, Err, IfOk, IfErr, IsErr, ap, refl, sym, subst, arith, append-nil, true≢false}
use Rattle.map_model.specs.Lists.{keep}
use Rattle.map_model.specs.declared.call.Answer.TheVariants as answer
use Rattle.map_model.specs.declared.call.Call.TheVariants as call
use Rattle.map_model.specs.declared.call.Refusal.{Refusal}
use Rattle.map_model.specs.declared.call.Refusal.TheVariants as refusal
use Rattle.paged_desks.specs.engine_trait.Serving.{MayRefuse, refused_by}
use Rattle.paged_desks.specs.engine_trait.declared.unserved.Unserved.{Unserved}
use Rattle.paged_desks.specs.engine_trait.declared.unserved.Unanswered.TheVariants as unanswered
use Rattle.paged_desks.specs.engine_trait.declared.unserved.Unserved.TheVariants as unserved
use Rattle.paged_desks.specs.core_calls.Fronts.{Done, front}
use Rattle.paged_desks.specs.core_calls.LogEvents.{Prepares, PreparesBy, is_log}
use Rattle.paged_desks.specs.core_calls.Steps.{is_step, is_structure}
use Rattle.paged_desks.specs.core_state.Openings.{Opening}
use Rattle.paged_desks.specs.core_state.States.{State}
use Rattle.paged_desks.specs.core_state.Steps.{state_after}
use Rattle.paged_desks.specs.disk_runs.MasterLaws.{raised}
use Rattle.paged_desks.specs.engine_calls.Answers.{EveryAnswer}
use Rattle.paged_desks.specs.engine_calls.Clauses.{EveryComing}
use Rattle.paged_desks.specs.engine_calls.Parts.{behind_first}
use Rattle.paged_desks.specs.engine_trait.Calls.{IsTold, is_half_done}
use Rattle.paged_desks.specs.engine_trait.Limits.{limits}
use Rattle.paged_desks.specs.engine_trait.Refusals.{log_refusal, refusal_in}
use Rattle.paged_desks.specs.engine_trait.Rooms.{needs_sync}
use Rattle.lean_disk.specs.Faults.{HasCause}
use Rattle.lean_disk.specs.Story.{IsLawful, Story}
use Rattle.paged_desks.specs.row_words.Moments.{events_of}
use Rattle.paged_desks.specs.rows_trait.Views.{state}
use Rattle.row_ends.proofs.BeginLemmas.{begin_told, test_is}
use Rattle.row_ends.specs.Tests.{begin_test}
use Rattle.paged_desks.proofs.session_state.ServingLemmas.{refused_none, refused_not, refused_was}
use Rattle.paged_desks.specs.session_state.Holds.{Holds, IsOf}
use Rattle.paged_desks.specs.session_state.Syncs.{flushed_of}
use Rattle.paged_desks.specs.session_state.declared.session.Session.{Session}
use Rattle.paged_desks.proofs.session_desks.DeskLemmas.{desk_own}
use Rattle.paged_desks.proofs.session_desks.SeatLemmas.{holds_of, turn_high, turn_low}
use Rattle.paged_desks.specs.session_desks.Desks.{desk_of}
use Rattle.paged_desks.specs.session_desks.Parts.{AreAsMany, here, shape}
use Rattle.paged_desks.specs.session_desks.declared.desk.Desk.{Desk}
use Rattle.paged_desks.specs.worker_log.Logs.{Log, limit, used}
use Rattle.paged_desks.proofs.call_parts.RunLemmas.{core_is, front_is}
use Rattle.paged_desks.proofs.call_parts.StepLemmas.{every_step}
use Rattle.paged_desks.specs.Calls as calls
use Rattle.paged_desks.specs.Calls.{AreHalf, DoesTied, Tied}
use Rattle.paged_desks.specs.Machines.{IsReady, memory, view_of}
use Rattle.paged_desks.specs.Pages.{IsKept}
use Rattle.paged_desks.specs.Syncs.{IsSynced}
use Rattle.paged_desks.specs.declared.machine.PagedMachine.{PagedMachine}
use Rattle.paged_desks.proofs.EndingLemmas.{Grounds}
use Rattle.paged_ends.proofs.BeginRuns.{Comes, at_p, began, not_begun}
use Rattle.paged_ends.proofs.StayLemmas.{begin_by, limit_of, stays_closed, used_of}
use Rattle.paged_ends.proofs.SyncEvents.{sync_logs, sync_none}
use Rattle.paged_ends.proofs.SyncLemmas.{few_events}
use Rattle.paged_desks.specs.call_parts.Deeds.{Fails}
use Rattle.paged_desks.specs.call_parts.Memory.{Memory}
use Rattle.paged_desks.proofs.StandLemmas.{memory_is}
use Rattle.paged_ends.proofs.BeginStands.{same_begun}
use Rattle.paged_ends.specs.Ends.{KeepsFlushed, OnBegin, begin_answer}
use Rattle.paged_ends.specs.Pieces.{HasBegun}

some_is : {A : Type 0} (r q : A) → Some r ≡ Some q → r ≡ q
some_is r q e = cc

none_is : {A : Type 0} (r : A) → None ≡ Some r → ⊥
none_is r e = absurd (cc)

-- nothing is due where few ends wait
by_nothing : (b : Bool) → b ≡ false → PreparesBy false b []
by_nothing false q = refl
by_nothing true q = absurd (true≢false q)

-- of a machine what is so of its session in a run
module _ (l : Grounds) {D : Type 0} (story : D → Story) (p : PagedMachine D) (ready : IsReady story p) where
  held : Holds (shape p.machine) (view_of p) p.machine.work.session p.machine.work.log
  held = holds_of (shape p.machine) (view_of p) (here p.machine) p.machine.desks.items ready.sound.desks

  pub low_own : 0 < p.machine.work.session.own
  low_own = turn_low (shape p.machine) (view_of p) (here p.machine) p.machine.desks.items ready.sound.desks

  pub high_own : p.machine.work.session.own ≤ p.machine.work.session.workers
  high_own = turn_high (shape p.machine) (view_of p) (here p.machine) p.machine.desks.items ready.sound.desks

  pub log_own : (memory p).log p.machine.work.session.own ≡ p.machine.work.log
  log_own = ap (λ (d : Desk). d.log) (desk_own (here p.machine) p.machine.desks.items p.machine.work.session.own refl)

  pub of_core : (s : State) → (state (view_of p)).core ≡ s → IsOf p.machine.work.session (s.worker p.machine.work.session.own)
  of_core s e = subst (λ (k : State). IsOf p.machine.work.session (k.worker p.machine.work.session.own)) e held.session

module _ (l : Grounds) (answers : EveryAnswer) (coming : EveryComing) {D : Type 0} (story : D → Story) (lawful : (d : D) → IsLawful (story d)) (m : PagedMachine D) (ready : IsReady story m) where
  abbrev x : Session
  x = m.machine.work.session

  abbrev own : ℕ
  own = x.own

  -- ## No sync came

  nothing : Comes story m m []
  nothing = record {
    part = let st = story m.machine.work.disk in (every_step l.reached l.needs l.versions l.kept l.prefixes l.seals st st (lawful m.machine.work.disk) x.workers (view_of m) (view_of m) (memory m)).none;
    steps = refl;
    structure = refl;
    few = omega arith;
    turn = refl;
    same = (refl, refl);
    halves = λ w lo hi. refl;
  }

  module _ (is_long : Bool) (due : is_long ≡ true → x.is_open ≡ true) (g : Opening) (xs : List Done) (many : g.workers ≡ x.workers) (tied : Tied g x.group xs (view_of m) (memory m)) (halves : AreHalf g.workers xs m.machine) (may : OnBegin own is_long g xs) where
    abbrev s : State
    s = state_after g (front xs)

    core_m : (state (view_of m)).core ≡ s
    core_m = core_is l.reached l.needs g xs [] (view_of m) (at_p l answers coming story lawful m m g xs many tied halves may.0 [] nothing (low_own l story m ready) (high_own l story m ready))

    of_s : IsOf x (s.worker own)
    of_s = of_core l story m ready s core_m

    test_in : (log : Log) → begin_test x log ≡ refused_by (refusal_in g s own (is_half_done own xs) log call.Begin)
    test_in log = test_is g s (is_half_done own xs) x log ready.works of_s

    prepares : (s.worker own).is_open ≡ false → Prepares false limits g xs own []
    prepares shut = by_nothing (needs_sync g xs own call.Begin) (may.1 ∙ not_long is_long refl)
      where
        not_long : (b : Bool) → is_long ≡ b → is_long ≡ false
        not_long false e = e
        not_long true e = absurd (true≢false (sym (due e) ∙ (sym of_s.is_open ∙ shut)))

    begun_now : (n : PagedMachine D) → IsReady story n → (number : ℕ) → HasBegun m n number → DoesTied g x.group xs own call.Begin (answer.Begun number) (memory m) n (story m.machine.work.disk) (story n.machine.work.disk)
    begun_now n ready_n number b = began l answers coming story lawful m m g xs many tied halves may.0 [] nothing (low_own l story m ready) (high_own l story m ready) n ready ready_n number b
        (prepares (of_s.is_open ∙ closed)) (λ q e. none_is q (sym none ∙ (sym (λ i. refusal_in g s own (is_half_done own xs) (log_own l story m ready i) call.Begin) ∙ e)))
      where
        none : refusal_in g s own (is_half_done own xs) m.machine.work.log call.Begin ≡ None
        none = refused_none (refusal_in g s own (is_half_done own xs) m.machine.work.log call.Begin) (sym (test_in m.machine.work.log) ∙ b.free)

        closed : x.is_open ≡ false
        closed = open_case x.is_open (refused_none (cond x.is_open (Some refusal.InTransaction) (log_refusal x.clock.clock m.machine.work.log None)) ((λ i. cond (sym ready.works i) (refused_by (cond x.is_open (Some refusal.InTransaction) (log_refusal x.clock.clock m.machine.work.log None))) (Some (unserved.Unanswered unanswered.Broken))) ∙ b.free))
          where
            open_case : (b : Bool) → cond b (Some refusal.InTransaction) (log_refusal x.clock.clock m.machine.work.log None) ≡ None → b ≡ false
            open_case false e = refl
            open_case true e = absurd (none_is refusal.InTransaction (sym e))

    refused_now : (why : Refusal) → begin_test x m.machine.work.log ≡ Some (unserved.Refused why) → DoesTied g x.group xs own call.Begin (answer.Refused why) (memory m) m (story m.machine.work.disk) (story m.machine.work.disk)
    refused_now why e = not_begun l answers coming story lawful m m g xs many tied halves may.0 [] nothing (low_own l story m ready) (high_own l story m ready) ready m.machine.work.log why now
        ((λ i. refusal_in g (state_after g (append-nil (front xs) i)) own (is_half_done own xs) (log_own l story m ready i) call.Begin) ∙ now)
        (λ q k. some_is why q (sym now ∙ ((λ i. refusal_in g s own (is_half_done own xs) (sym (log_own l story m ready) i) call.Begin) ∙ k)))
        prepares (λ _. refl)
      where
        now : refusal_in g s own (is_half_done own xs) m.machine.work.log call.Begin ≡ Some why
        now = refused_was (refusal_in g s own (is_half_done own xs) m.machine.work.log call.Begin) why (sym (test_in m.machine.work.log) ∙ e)

    pub at_once : (n : PagedMachine D) (r : Result ℕ Unserved) → IsReady story n → IfOk r (HasBegun m n) → IfErr r (λ why. (begin_test x m.machine.work.log ≡ Some why) × (n ≡ m))
        → calls.Comes (begin_answer r) (λ a. DoesTied g x.group xs own call.Begin a (memory m) n (story m.machine.work.disk) (story n.machine.work.disk)) (Fails g x.group xs own call.Begin (memory m) (story m.machine.work.disk) (story n.machine.work.disk)) (calls.StandsNot g x.group xs (memory m) (story m.machine.work.disk))
    at_once n (Ok number) ready_n b e = begun_now n ready_n number b
    at_once n (Err (unserved.Refused why)) ready_n b e = subst (λ (k : PagedMachine D). DoesTied g x.group xs own call.Begin (answer.Refused why) (memory m) k (story m.machine.work.disk) (story k.machine.work.disk)) (sym e.1) (refused_now why e.0)
    at_once n (Err (unserved.Unanswered fault)) ready_n b e = absurd (refused_not (refusal_in g s own (is_half_done own xs) m.machine.work.log call.Begin) fault (sym (test_in m.machine.work.log) ∙ e.0))

  -- ## Behind a sync

  module _ (closed : x.is_open ≡ false) (order : m.machine.work.log.head ≤ m.machine.work.log.next) (p : PagedMachine D) (at : ℕ) (made : IsSynced story m p at) (ready_p : IsReady story p) where
    synced : Comes story m p made.events
    synced = record {
      part = made.part;
      steps = sync_none is_step at (events_of made.events) (λ _ _. refl) refl made.sync;
      structure = sync_none is_structure at (events_of made.events) (λ _ _. refl) refl made.sync;
      few = few_events story m ready (length made.events) made.few;
      turn = made.turn;
      same = made.same;
      halves = λ w lo hi. ap (λ (k : Session). k.is_half_aborted) (made.sessions w lo hi).session;
    }

    abbrev y : Session
    y = p.machine.work.session

    -- of the session that has the turn
    kept : IsKept x y
    kept = subst (λ (d : Desk). IsKept x d.session) (desk_own (here p.machine) p.machine.desks.items own (sym made.turn))
        (subst (λ (d : Desk). IsKept d.session (desk_of (here p.machine) p.machine.desks.items own).session) (desk_own (here m.machine) m.machine.desks.items own refl) (made.sessions own (low_own l story m ready) (high_own l story m ready)))

    pub shut : y.is_open ≡ false
    shut = ap (λ (k : Session). k.is_open) kept.session ∙ closed

    log_is : p.machine.work.log ≡ raised (flushed_of m.machine.work.log) at
    log_is = sym (ap (λ (d : Desk). d.log) (desk_own (here p.machine) p.machine.desks.items own (sym made.turn))) ∙ (made.after own (low_own l story m ready) (high_own l story m ready) ∙ ap (λ (k : Log). raised (flushed_of k) at) (log_own l story m ready))

    used_same : used p.machine.work.log ≡ used m.machine.work.log
    used_same = ap used log_is ∙ used_of m.machine.work.log order

    limit_same : limit p.machine.work.log ≡ limit m.machine.work.log
    limit_same = ap limit log_is ∙ limit_of m.machine.work.log

    module _ (g : Opening) (xs : List Done) (many : g.workers ≡ x.workers) (tied : Tied g x.group xs (view_of m) (memory m)) (halves : AreHalf g.workers xs m.machine) (may : OnBegin own true g xs) where
      abbrev s0 : State
      s0 = state_after g (front xs)

      abbrev s1 : State
      s1 = behind_first g xs (events_of made.events)

      core_0 : (state (view_of m)).core ≡ s0
      core_0 = core_is l.reached l.needs g xs [] (view_of m) (at_p l answers coming story lawful m m g xs many tied halves may.0 [] nothing (low_own l story m ready) (high_own l story m ready))

      core_1 : (state (view_of p)).core ≡ s1
      core_1 = core_is l.reached l.needs g xs (events_of made.events) (view_of p) (at_p l answers coming story lawful m p g xs many tied halves may.0 made.events synced (low_own l story m ready) (high_own l story m ready))

      of_0 : IsOf x (s0.worker own)
      of_0 = of_core l story m ready s0 core_0

      of_1 : IsOf y (s1.worker own)
      of_1 = subst (λ (w : ℕ). IsOf y (s1.worker w)) made.turn (of_core l story p ready_p s1 core_1)

      half : Bool
      half = is_half_done own xs

      test_1 : begin_test y p.machine.work.log ≡ refused_by (refusal_in g s1 own half p.machine.work.log call.Begin)
      test_1 = test_is g s1 half y p.machine.work.log ready_p.works (of_core l story p ready_p s1 core_1) ∙ ap (λ (w : ℕ). refused_by (refusal_in g s1 w half p.machine.work.log call.Begin)) made.turn

      -- the log was as full before
      log_kept : refusal_in g s1 own half ((memory m).log own) call.Begin ≡ refusal_in g s1 own half p.machine.work.log call.Begin
      log_kept = (λ i. refusal_in g s1 own half (log_own l story m ready i) call.Begin)
          ∙ (ap (λ (u : ℕ). begin_by s1 own u (limit m.machine.work.log)) (sym used_same) ∙ ap (λ (k : ℕ). begin_by s1 own (used p.machine.work.log) k) (sym limit_same))

      stays : (q : Refusal) → refusal_in g s0 own half ((memory m).log own) call.Begin ≡ Some q → refusal_in g s1 own half p.machine.work.log call.Begin ≡ Some q
      stays q e = stays_closed (s0.worker own).clock (s1.worker own).clock m.machine.work.log p.machine.work.log (s0.worker own).is_open (s1.worker own).is_open (of_0.is_open ∙ closed) (of_1.is_open ∙ (ap (λ (k : Session). k.is_open) kept.session ∙ closed))
          used_same limit_same (let a = of_0.clock in let b = of_1.clock in let c = kept.clock in omega arith) q ((λ i. refusal_in g s0 own half (sym (log_own l story m ready) i) call.Begin) ∙ e)

      prepared : Prepares false limits g xs own (keep is_log (events_of made.events))
      prepared = subst (λ (b : Bool). PreparesBy false b (keep is_log (events_of made.events))) (sym may.1) (at, sync_logs at (events_of made.events) made.sync)

      begun_behind : (n : PagedMachine D) → IsReady story n → (number : ℕ) → HasBegun p n number → DoesTied g x.group xs own call.Begin (answer.Begun number) (memory m) n (story m.machine.work.disk) (story n.machine.work.disk)
      begun_behind n ready_n number b = began l answers coming story lawful m p g xs many tied halves may.0 made.events synced (low_own l story m ready) (high_own l story m ready) n ready_p ready_n number b prepared
          (λ q e. none_is q (sym (refused_none (refusal_in g s1 own half p.machine.work.log call.Begin) (sym test_1 ∙ b.free)) ∙ stays q e))

      refused_behind : (why : Refusal) → begin_test y p.machine.work.log ≡ Some (unserved.Refused why) → DoesTied g x.group xs own call.Begin (answer.Refused why) (memory m) p (story m.machine.work.disk) (story p.machine.work.disk)
      refused_behind why e = not_begun l answers coming story lawful m p g xs many tied halves may.0 made.events synced (low_own l story m ready) (high_own l story m ready) ready_p p.machine.work.log why now
          (ap (λ (k : State). refusal_in g k own half ((memory m).log own) call.Begin) (front_is g xs (events_of made.events)) ∙ (log_kept ∙ now))
          (λ q k. some_is why q (sym now ∙ stays q k)) (λ _. prepared) (λ h. absurd (true≢false (sym h ∙ (of_1.is_open ∙ (ap (λ (k : Session). k.is_open) kept.session ∙ closed)))))
        where
          now : refusal_in g s1 own half p.machine.work.log call.Begin ≡ Some why
          now = refused_was (refusal_in g s1 own half p.machine.work.log call.Begin) why (sym test_1 ∙ e)

      pub behind_sync : (n : PagedMachine D) (r : Result ℕ Unserved) → IsReady story n → IfOk r (HasBegun p n) → IfErr r (λ why. (begin_test y p.machine.work.log ≡ Some why) × (n ≡ p))
          → calls.Comes (begin_answer r) (λ a. DoesTied g x.group xs own call.Begin a (memory m) n (story m.machine.work.disk) (story n.machine.work.disk)) (Fails g x.group xs own call.Begin (memory m) (story m.machine.work.disk) (story n.machine.work.disk)) (calls.StandsNot g x.group xs (memory m) (story m.machine.work.disk))
      behind_sync n (Ok number) ready_n b e = begun_behind n ready_n number b
      behind_sync n (Err (unserved.Refused why)) ready_n b e = subst (λ (k : PagedMachine D). DoesTied g x.group xs own call.Begin (answer.Refused why) (memory m) k (story m.machine.work.disk) (story k.machine.work.disk)) (sym e.1) (refused_behind why e.0)
      behind_sync n (Err (unserved.Unanswered fault)) ready_n b e = absurd (refused_not (refusal_in g s1 own half p.machine.work.log call.Begin) fault (sym test_1 ∙ e.0))

-- ## What is told, and what stays the same

begin_open : (x : Session) (log : Log) → begin_test x log ≡ None → x.works ≡ true
begin_open x log e = go x.works refl e
  where
    go : (b : Bool) → x.works ≡ b → cond b (refused_by (cond x.is_open (Some refusal.InTransaction) (log_refusal x.clock.clock log None))) (Some (unserved.Unanswered unanswered.Broken)) ≡ None → x.works ≡ true
    go true q k = q
    go false q k = absurd (none_is (unserved.Unanswered unanswered.Broken) (sym k))

-- a refusal that a script is told
abbrev Told : Unserved → Type 0
Told (unserved.Refused why) = IsTold why
Told (unserved.Unanswered fault) = ⊥

-- where the machine works, a test that refuses is told of
begin_where : (x : Session) (log : Log) (why : Unserved) → begin_test x log ≡ Some why → ((x.works ≡ true) × Told why) ⊎ ((x.works ≡ false) × (why ≡ unserved.Unanswered unanswered.Broken))
begin_where x log why e = go x.works refl
  where
    told : x.works ≡ true → (r : Unserved) → begin_test x log ≡ Some r → Told r
    told w (unserved.Refused r) h = begin_told x log r w h
    told w (unserved.Unanswered fault) h = absurd (refused_not (cond x.is_open (Some refusal.InTransaction) (log_refusal x.clock.clock log None)) fault ((λ i. cond (sym w i) (refused_by (cond x.is_open (Some refusal.InTransaction) (log_refusal x.clock.clock log None))) (Some (unserved.Unanswered unanswered.Broken))) ∙ h))

    go : (b : Bool) → x.works ≡ b → ((x.works ≡ true) × Told why) ⊎ ((x.works ≡ false) × (why ≡ unserved.Unanswered unanswered.Broken))
    go true q = inl (q, told q why e)
    go false q = inr (q, sym (some_is (unserved.Unanswered unanswered.Broken) why ((λ i. cond (sym q i) (refused_by (cond x.is_open (Some refusal.InTransaction) (log_refusal x.clock.clock log None))) (Some (unserved.Unanswered unanswered.Broken))) ∙ e)))

told_works : (why : Unserved) → Told why → calls.works_behind {A = ℕ} (Err why) ≡ true
told_works (unserved.Refused why) t = refl
told_works (unserved.Unanswered fault) t = absurd t

told_may : (why : Unserved) → Told why → MayRefuse 1 why
told_may (unserved.Refused refusal.InTransaction) t = tt
told_may (unserved.Refused refusal.NoTransaction) t = tt
told_may (unserved.Refused refusal.TooLong) t = tt
told_may (unserved.Refused (refusal.LogFull u k)) t = tt
told_may (unserved.Refused refusal.ClockSpent) t = tt
told_may (unserved.Refused refusal.RowSpent) t = tt
told_may (unserved.Refused refusal.TooTall) t = tt
told_may (unserved.Refused refusal.NoPages) t = tt
told_may _ t = absurd t

-- where no transaction is open, its log or its clock refuses it
late_by : (a b : Bool) (u k : ℕ) (why : Refusal) → cond a (Some (refusal.LogFull u k)) (cond b (Some refusal.ClockSpent) None) ≡ Some why → (why ≡ refusal.InTransaction) ⊎ (why ≡ refusal.RowSpent) → ⊥
late_by true b u k why e (inl q) = absurd (cc)
late_by true b u k why e (inr q) = absurd (cc)
late_by false true u k why e (inl q) = absurd (cc)
late_by false true u k why e (inr q) = absurd (cc)
late_by false false u k why e q = none_is why e

was_refused : (a b : Refusal) → unserved.Refused a ≡ unserved.Refused b → a ≡ b
was_refused a b e = cc

test_late : (x : Session) (log : Log) → x.works ≡ true → x.is_open ≡ false → (why : Unserved) → begin_test x log ≡ Some why → (why ≡ unserved.Refused refusal.InTransaction) ⊎ (why ≡ unserved.Refused refusal.RowSpent) → ⊥
test_late x log works closed (unserved.Unanswered fault) e q = refused_not (cond x.is_open (Some refusal.InTransaction) (log_refusal x.clock.clock log None)) fault ((λ i. cond (sym works i) (refused_by (cond x.is_open (Some refusal.InTransaction) (log_refusal x.clock.clock log None))) (Some (unserved.Unanswered unanswered.Broken))) ∙ e)
test_late x log works closed (unserved.Refused why) e (inl q) =
    late_by (leb (limit log) (used log)) (leb (2 ^ 62) x.clock.clock) (used log) (limit log) why
    (refused_was (cond false (Some refusal.InTransaction) (log_refusal x.clock.clock log None)) why ((λ i. cond (sym works i) (refused_by (cond (sym closed i) (Some refusal.InTransaction) (log_refusal x.clock.clock log None))) (Some (unserved.Unanswered unanswered.Broken))) ∙ e)) (inl (was_refused why refusal.InTransaction q))
test_late x log works closed (unserved.Refused why) e (inr q) =
    late_by (leb (limit log) (used log)) (leb (2 ^ 62) x.clock.clock) (used log) (limit log) why
    (refused_was (cond false (Some refusal.InTransaction) (log_refusal x.clock.clock log None)) why ((λ i. cond (sym works i) (refused_by (cond (sym closed i) (Some refusal.InTransaction) (log_refusal x.clock.clock log None))) (Some (unserved.Unanswered unanswered.Broken))) ∙ e)) (inr (was_refused why refusal.RowSpent q))

err_is : (a b : Unserved) → ◌≡◌ {A = Result ℕ Unserved} (Err a) (Err b) → a ≡ b
err_is a b e = cc

ok_err : (a : ℕ) (b : Unserved) → ◌≡◌ {A = Result ℕ Unserved} (Ok a) (Err b) → ⊥
ok_err a b e = absurd (cc)

module _ {D : Type 0} (m n : PagedMachine D) where
  abbrev Turned : Unserved → Type 0
  Turned why = (begin_test m.machine.work.session m.machine.work.log ≡ Some why) × (n ≡ m)

  pub begun_same : (r : Result ℕ Unserved) → IfErr r Turned → IsErr r → n ≡ m
  begun_same (Ok a) e i = absurd (true≢false (sym i))
  begun_same (Err why) e i = e.1

  pub begun_disk : (r : Result ℕ Unserved) → IfOk r (HasBegun m n) → IfErr r Turned → n.machine.work.disk ≡ m.machine.work.disk
  begun_disk (Ok a) b e = b.beside.disk
  begun_disk (Err why) b e = ap (λ (k : PagedMachine D). k.machine.work.disk) e.1

  pub begun_fault : (r : Result ℕ Unserved) → IfErr r Turned → r ≡ Err (unserved.Unanswered unanswered.DiskFault) → ⊥
  begun_fault (Ok a) e q = ok_err a (unserved.Unanswered unanswered.DiskFault) q
  begun_fault (Err why) e q = elim (begin_where m.machine.work.session m.machine.work.log why e.0) [ inl t ↦ subst Told (err_is why (unserved.Unanswered unanswered.DiskFault) q) t.1 | inr t ↦ differs (sym t.1 ∙ err_is why (unserved.Unanswered unanswered.DiskFault) q) ]
    where
      differs : (unserved.Unanswered unanswered.Broken) ≡ (unserved.Unanswered unanswered.DiskFault) → ⊥
      differs k = absurd (cc)

  pub begun_works : (r : Result ℕ Unserved) → IfOk r (HasBegun m n) → IfErr r Turned → n.machine.work.session.works ≡ m.machine.work.session.works → n.machine.work.session.works ≡ calls.works_behind r
  begun_works (Ok a) b e same = same ∙ begin_open m.machine.work.session m.machine.work.log b.free
  begun_works (Err why) b e same = same ∙ elim (begin_where m.machine.work.session m.machine.work.log why e.0) [ inl t ↦ t.0 ∙ sym (told_works why t.1) | inr t ↦ t.0 ∙ ap (λ (k : Unserved). calls.works_behind {A = ℕ} (Err k)) (sym t.1) ]

  pub begun_comes : (r : Result ℕ Unserved) → IfErr r Turned → IfErr r (λ why. MayRefuse 1 why ⊎ calls.EndsWork why)
  begun_comes (Ok a) e = tt
  begun_comes (Err why) e = elim (begin_where m.machine.work.session m.machine.work.log why e.0) [ inl t ↦ inl (told_may why t.1) | inr t ↦ inr (ap calls.ends_work t.1) ]

  pub begun_broken : (r : Result ℕ Unserved) → IfOk r (HasBegun m n) → IfErr r Turned → (r ≡ Err (unserved.Unanswered unanswered.Broken)) ↔ (m.machine.work.session.works ≡ false)
  begun_broken (Ok a) b e = ((λ q. absurd (ok_err a (unserved.Unanswered unanswered.Broken) q)), (λ q. absurd (true≢false (sym (begin_open m.machine.work.session m.machine.work.log b.free) ∙ q))))
  begun_broken (Err why) b e = elim (begin_where m.machine.work.session m.machine.work.log why e.0) [
    | inl t ↦ ((λ q. absurd (subst Told (err_is why (unserved.Unanswered unanswered.Broken) q) t.1)), (λ q. absurd (true≢false (sym t.0 ∙ q))))
    | inr t ↦ ((λ q. t.0), (λ q. ap (λ (k : Unserved). Err k) t.1))
  ]

  pub begun_late : m.machine.work.session.works ≡ true → m.machine.work.session.is_open ≡ false → (r : Result ℕ Unserved) → IfErr r Turned → (r ≡ Err (unserved.Refused refusal.InTransaction)) ⊎ (r ≡ Err (unserved.Refused refusal.RowSpent)) → ⊥
  begun_late works closed (Ok a) e (inl q) = ok_err a (unserved.Refused refusal.InTransaction) q
  begun_late works closed (Ok a) e (inr q) = ok_err a (unserved.Refused refusal.RowSpent) q
  begun_late works closed (Err why) e (inl q) = test_late m.machine.work.session m.machine.work.log works closed why e.0 (inl (err_is why (unserved.Refused refusal.InTransaction) q))
  begun_late works closed (Err why) e (inr q) = test_late m.machine.work.session m.machine.work.log works closed why e.0 (inr (err_is why (unserved.Refused refusal.RowSpent) q))

-- a sync is due, so what refuses it before one is not its answer
pub same_none : (is_long : Bool) → is_long ≡ true → (A B P : Type 0) → (A → ⊥) → (B → ⊥) → (is_long ≡ false) ⊎ (A ⊎ B) → P
same_none is_long long A B P a b (inl q) = absurd (true≢false (sym long ∙ q))
same_none is_long long A B P a b (inr (inl q)) = absurd (a q)
same_none is_long long A B P a b (inr (inr q)) = absurd (b q)

module _ {D : Type 0} (story : D → Story) (m n : PagedMachine D) where
  pub begun_turn : (r : Result ℕ Unserved) → IfOk r (HasBegun m n) → IfErr r (Turned m n) → n.machine.work.session.own ≡ m.machine.work.session.own
  begun_turn (Ok a) b e = (same_begun story m n a b.begins).0
  begun_turn (Err why) b e = ap (λ (k : PagedMachine D). k.machine.work.session.own) e.1

  pub begun_many : (r : Result ℕ Unserved) → IfOk r (HasBegun m n) → IfErr r (Turned m n) → AreAsMany m.machine n.machine
  begun_many (Ok a) b e = let s = same_begun story m n a b.begins in (s.1, s.2)
  begun_many (Err why) b e = (ap (λ (k : PagedMachine D). k.machine.work.session.workers) e.1, ap (λ (k : PagedMachine D). k.machine.work.session.group) e.1)

  pub begun_flushed : (r : Result ℕ Unserved) → IfOk r (HasBegun m n) → IfErr r (Turned m n) → KeepsFlushed m n
  begun_flushed (Ok a) b e w = ap (λ (k : Memory). (k.log w).flushed) (memory_is story m n b.beside (same_begun story m n a b.begins).0)
  begun_flushed (Err why) b e w = ap (λ (k : PagedMachine D). ((memory k).log w).flushed) e.1

-- a device that was called without a fault, and then was not called
pub calm_from : (a b c : ℕ) (P Q : Type 0) → HasCause a b P → (P → ⊥) → c ≡ b → (Q → ⊥) → HasCause a c Q
calm_from a b c P Q h no_p same no_q = record { later = (let x = h.later in omega arith); cause = λ q. absurd (no_q q); calm = λ _. same ∙ h.calm no_p }
