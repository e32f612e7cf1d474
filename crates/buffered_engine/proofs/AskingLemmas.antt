-- What a call of an engine did in each run in which it stands, and that it stands in one.
use Rattle.std.proofs.Common.{◌≡◌, ◌≤◌, ◌<◌, ℕ, Bool, true, false, not, leb, List, ◌∷◌, length, Option, Some, None, IfSome, arith, refl, sym, ap, ◌∙◌, subst, true≢false, Result, Ok, Err, IfOk}
use Rattle.map_model.specs.Journals.{Name}
use Rattle.map_model.specs.Pairings.{is_last}
use Rattle.map_model.specs.declared.call.Answer.{Answer}
use Rattle.map_model.specs.declared.call.Answer.TheVariants as answer
use Rattle.map_model.specs.declared.call.Call.{Call}
use Rattle.map_model.specs.declared.call.Call.TheVariants as call
use Rattle.map_model.specs.declared.call.Refusal.TheVariants as refusal
use Rattle.paged_scans.specs.engine_trait.declared.unserved.Unanswered.{Unanswered}
use Rattle.page_model.specs.Limits.{most_sessions, waiting_ends}
use Rattle.paged_scans.specs.core_commit.Rises.{EveryRise}
use Rattle.paged_scans.specs.core_state.Openings.{Opening}
use Rattle.paged_scans.specs.core_state.Steps.{state_after}
use Rattle.paged_scans.specs.core_calls.Deeds.{asked}
use Rattle.paged_scans.specs.core_calls.Fronts.{Done, front, outcomes}
use Rattle.paged_scans.specs.core_calls.Refusals.{waiting}
use Rattle.paged_scans.specs.engine_calls.Clauses.{IsNewLine}
use Rattle.lean_disk.specs.Story.{Story}
use Rattle.paged_scans.specs.row_opening.Openings.{EveryReached}
use Rattle.paged_scans.specs.call_parts.Deeds.{Fails}
use Rattle.paged_scans.specs.engine_trait.Calls.{HasCome, IsAsked}
use Rattle.engine_front.specs.Stops.{StandsNot}
use Rattle.engine_front.specs.Turns.{IsNext, behind_answer}
use Rattle.engine_front.specs.declared.calls.Next.{Next}
use Rattle.engine_front.specs.declared.calls.Next.TheVariants as following
use Rattle.engine_front.specs.declared.calls.Next.TheVariants.{Abort, Line}
use Rattle.group_commit.specs.Laws.{EveryOutcome}
use Rattle.group_commit.specs.Queues.{queue_of}
use Rattle.group_commit.specs.declared.queue.End.{End}
use Rattle.group_commit.specs.declared.receipts.Receipt.{Receipt}
use Rattle.paged_scans.specs.rows_trait.declared.view.View.{View}
use Rattle.paged_scans.specs.session_desks.Desks.{desk_of}
use Rattle.paged_scans.specs.session_desks.Parts.{Works, here}
use Rattle.paged_scans.specs.paged_desks.Calls.{AreHalf, CallDoes, Comes, DoesTied}
use Rattle.paged_scans.specs.paged_desks.Machines.{memory, view_of}
use Rattle.paged_scans.specs.paged_desks.declared.machine.PagedMachine.{PagedMachine}
use Rattle.paged_scans.specs.Calls.{StandsAt}
use Rattle.paged_scans.specs.declared.scans.Scan.{Scan}
use Rattle.buffered_engine.specs.Calls.{AbortsInRuns, DoesIn, IsTo, MayBe, ScansInRuns, is_stop}
use Rattle.buffered_engine.specs.Inside.Asks.{IsDue, IsEndOf, OnAsked, ends_in, next_behind, put_ends, ends_line}
use Rattle.buffered_engine.specs.Inside.Parts.{IsEngine, MachineWent, state_by}
use Rattle.buffered_engine.specs.Inside.Scans.{scan_behind}
use Rattle.buffered_engine.specs.States.{GoesOnAt, HasRoom, HasRun, InRun, IsOfTurn, IsSettled, State, WhereDue, WhereScanning, memory_in}
use Rattle.buffered_engine.specs.declared.ends.Response.{Response}
use Rattle.buffered_engine.proofs.AskLemmas.{Room, has_run, in_run_behind, room_in}
use Rattle.buffered_engine.proofs.CallLemmas.{comes_if}
use Rattle.buffered_engine.proofs.SeenLemmas.{same_half}

-- ## Answers

-- an answer that may be where there is one session may be where there are several
pub may_more : (n : ℕ) (r : Result Answer Unanswered) → MayBe 1 r → MayBe n r
may_more n (Ok (answer.Refused (refusal.Conflict h))) m = λ e. m refl
may_more n (Ok (answer.Refused why)) m = m
may_more n (Ok a) m = m
may_more n (Err why) m = tt

-- who ended a transaction is a session
pub some_session : (sessions own : ℕ) (c : Call) (a : Result Answer Unanswered) → IsAsked sessions own c → IsTo c a → ends_in a ≡ true → (0 < own) × (own ≤ sessions)
some_session sessions own call.Sync (Ok (answer.Committed n at)) i t e = absurd t
some_session sessions own call.Sync (Ok (answer.Aborted n)) i t e = absurd t
some_session sessions own call.Sync a i t e = absurd (true≢false (sym e))
some_session sessions own c a i t e = (i.0, i.1)

-- where a call may come in a run, a begin with the ends of its session that wait
pub may_ask : (sessions own : ℕ) (c : Call) (is_long : Bool) (g : Opening) (xs : List Done) → IsAsked sessions own c → IsNewLine (outcomes xs)
    → (c ≡ call.Begin → 0 < own → own ≤ sessions → leb 256 (waiting g (state_after g (front xs)) own) ≡ is_long) → OnAsked own c is_long g xs
may_ask sessions own call.Begin is_long g xs asked line long = (line, long refl asked.0 asked.1)
may_ask sessions own c is_long g xs asked line long = line

begun_by : (c : Call) (a : Result Answer Unanswered) (n : ℕ) → IsTo c a → a ≡ Ok (answer.Begun n) → c ≡ call.Begin
begun_by c a n t e = go c (subst (IsTo c) e t)
  where
    go : (c : Call) → IsTo c (Ok (answer.Begun n)) → c ≡ call.Begin
    go call.Begin t = refl
    go c t = absurd t

-- a sync and an abort are answered once: no session alone meets a conflict
pub once_sync : (r : Result Answer Unanswered) → IsTo call.Sync r → MayBe 1 r → ends_line r ≡ true
once_sync (Ok (answer.Refused (refusal.Conflict h))) to may = absurd (may refl)
once_sync (Ok (answer.Refused why)) to may = refl
once_sync (Ok (answer.Synced at)) to may = refl
once_sync (Ok a) to may = absurd to
once_sync (Err why) to may = refl

pub once_abort : (r : Result Answer Unanswered) → IsTo call.Abort r → MayBe 1 r → IfOk r (λ a. is_last a ≡ true)
once_abort (Ok (answer.Refused (refusal.Conflict h))) to may = absurd (may refl)
once_abort (Ok (answer.Refused why)) to may = refl
once_abort (Ok (answer.Aborted number)) to may = refl
once_abort (Ok a) to may = absurd to
once_abort (Err why) to may = tt

-- behind a call an engine that works has an answer
pub ok_of : (r : Result Answer Unanswered) → not (is_stop r) ≡ true → (a : Answer) × (r ≡ Ok a)
ok_of (Ok a) e = (a, refl)
ok_of (Err why) e = absurd (true≢false (sym e))

-- ## A call

module _ {D : Type 0} (reached : EveryReached) (outcome : EveryOutcome) (rises : EveryRise) (story : D → Story) (m n : PagedMachine D) (next next_new : Next) (scan scan_new : Scan) (ends ends_new : List (List End))
    (works : Works m.machine) (e : IsEngine story m next scan ends) (faults : D → ℕ) (On : Opening → List Done → Type 0) (own : ℕ) (some_call : Call) (r : Response) (w : MachineWent story faults On m.machine.work.session.workers own some_call r m n)
    (next_is : next_new ≡ next_behind next r.answer) (ends_are : ends_new ≡ put_ends r.receipt r.answer ends) (turn : Works n.machine → ends_line r.answer ≡ false → n.machine.work.session.own ≡ own)
    (scan_first : Scan) (scan_is : scan_new ≡ scan_behind r.answer scan_first) where
  abbrev was : State D
  was = state_by m next scan ends

  abbrev is : State D
  is = state_by n next_new scan_new ends_new

  abbrev old : Story
  old = story m.machine.work.disk

  abbrev new : Story
  new = story n.machine.work.disk

  abbrev stood : HasRun was
  stood = e.run works

  module _ (a : Answer) (is_a : r.answer ≡ Ok a) where
    pub going : Works n.machine
    going = w.works ∙ ap (λ (b : Result Answer Unanswered). not (is_stop b)) is_a

    may_a : HasCome m.machine.work.session.workers a
    may_a = subst (MayBe m.machine.work.session.workers) is_a w.may

    ends_a : IsEndOf own (view_of m) (view_of n) (Ok a) r.receipt
    ends_a = subst (λ (b : Result Answer Unanswered). IsEndOf own (view_of m) (view_of n) b r.receipt) is_a w.ends

    put_a : ends_new ≡ put_ends r.receipt (Ok a) ends
    put_a = ends_are ∙ ap (λ (b : Result Answer Unanswered). put_ends r.receipt b ends) is_a

    next_a : next_new ≡ behind_answer a
    next_a = next_is ∙ ap (λ (b : Result Answer Unanswered). next_behind next b) is_a

    scan_a : scan_new ≡ scan_behind (Ok a) scan_first
    scan_a = scan_is ∙ ap (λ (b : Result Answer Unanswered). scan_behind b scan_first) is_a

    pair_a : (key value : ℕ) → a ≡ answer.Pair key value → r.answer ≡ Ok (answer.Pair key value)
    pair_a key value q = is_a ∙ ap (λ (b : Answer). Ok b) q

  half : (g : Opening) (xs : List Done) (names : List Name) → InRun was g xs names → AreHalf g.workers xs m.machine
  half g xs names run u low high = same_half g stood.opening was.group was.group xs stood.done (memory m) (memory m) (view_of m) run.tied stood.in_run.tied u
      ∙ stood.is_half_aborted u low (subst (λ (k : ℕ). u ≤ k) (run.workers ∙ sym stood.in_run.workers) high)

  module _ (c : Call) (May : Opening → List Done → Type 0) (does : CallDoes story May own c r.answer m n)
      (of_scan : (key value : ℕ) → r.answer ≡ Ok (answer.Pair key value) → c ≡ call.Scan scan_first.from scan_first.to)
      (stands : (g : Opening) (xs : List Done) → May g xs → (key value : ℕ) → r.answer ≡ Ok (answer.Pair key value) → StandsAt own scan_first g xs) where
    abbrev Did : Opening → List Done → Answer → Type 0
    Did g xs a = DoesTied g was.group xs own c a (memory m) n old new

    abbrev Failed : Opening → List Done → Type 0
    Failed g xs = Fails g was.group xs own c (memory m) old new

    abbrev Never : Opening → List Done → Type 0
    Never g xs = StandsNot g was.group xs (memory m) old

    pub in_runs : (g : Opening) (xs : List Done) (names : List Name) → InRun was g xs names → May g xs → Comes r.answer (λ a. DoesIn g xs names own c a was is old new) (Failed g xs) (Never g xs)
    in_runs g xs names run may = comes_if r.answer (Did g xs) (λ a. DoesIn g xs names own c a was is old new) (Failed g xs) (Never g xs)
        (λ a is_a d. record { does = d.does; in_run = in_run_behind reached outcome rises m n next next_new scan scan_new ends ends_new own c a r.receipt old new w.session (may_a a is_a) (ends_a a is_a) (put_a a is_a) (next_a a is_a) (λ h. turn (going a is_a) (ap ends_line is_a ∙ h)) scan_first (scan_a a is_a) (λ key value q. of_scan key value (pair_a a is_a key value q)) g xs names run d (λ key value q. stands g xs may key value (pair_a a is_a key value q)) })
        (does g xs run.workers run.tied (half g xs names run) may)

    pub run_behind : (ends_in r.answer ≡ true → 0 < own)
        → ((u : ℕ) → 0 < u → u ≤ stood.opening.workers → Room (desk_of was.work was.desks u).session.is_open (length (queue_of ends u)))
        → ((k : ℕ) → r.answer ≡ Ok (answer.Begun k) → length (queue_of ends own) ≡ waiting stood.opening (state_after stood.opening (front stood.done)) own)
        → May stood.opening stood.done → Works n.machine → HasRun is
    run_behind some room settled here q =
        let k = ok_of r.answer (sym w.works ∙ q) in
        let a = k.0 in
        let is_a : r.answer ≡ Ok k.0 = k.1 in
        has_run reached outcome rises m n next next_new scan scan_new ends ends_new own c a r.receipt old new w.session (may_a a is_a) (ends_a a is_a) (put_a a is_a) (next_a a is_a) (λ h. turn (going a is_a) (ap ends_line is_a ∙ h)) scan_first (scan_a a is_a) (λ key value x. of_scan key value (pair_a a is_a key value x))
        story (e.ready works) (w.ready q) stood
        (subst (λ (b : Result Answer Unanswered). Comes b (Did stood.opening stood.done) (Failed stood.opening stood.done) (Never stood.opening stood.done)) is_a
        (does stood.opening stood.done stood.in_run.workers stood.in_run.tied (half stood.opening stood.done stood.names stood.in_run) here))
        (λ key value x. stands stood.opening stood.done here key value (pair_a a is_a key value x)) (λ x. some (ap ends_in is_a ∙ x)) room (λ x y. settled x (is_a ∙ ap (λ (b : Answer). Ok b) y))

  pub few : n.machine.work.session.workers ≤ most_sessions
  few = subst (λ (k : ℕ). k ≤ most_sessions) (sym w.session.0) e.few

-- ## On a line

module _ {D : Type 0} (was : State D) (line : was.next ≡ Line) where
  pub line_of : (g : Opening) (xs : List Done) (names : List Name) → InRun was g xs names → IsNewLine (outcomes xs)
  line_of g xs names run = subst (λ (n : Next). IsNext n xs) line run.next

  pub settled_of : (g : Opening) (xs : List Done) (names : List Name) → InRun was g xs names → (w : ℕ) → 0 < w → w ≤ g.workers → length (queue_of was.ends w) ≡ waiting g (state_after g (front xs)) w
  settled_of g xs names run = subst (λ (n : Next). IsSettled n ((w : ℕ) → 0 < w → w ≤ g.workers → length (queue_of was.ends w) ≡ waiting g (state_after g (front xs)) w)) line run.settled

  pub asked_of : (own : ℕ) (c : Call) (is_long : Bool) (g : Opening) (xs : List Done) (names : List Name) → InRun was g xs names → IsAsked was.sessions own c → (c ≡ call.Begin → is_long ≡ leb waiting_ends (length (queue_of was.ends own)))
      → OnAsked own c is_long g xs
  asked_of own c is_long g xs names run asked long = may_ask was.sessions own c is_long g xs asked (line_of g xs names run)
      (λ e low high. ap (leb 256) (sym (settled_of g xs names run own low (subst (λ (n : ℕ). own ≤ n) (sym run.workers) high))) ∙ sym (long e))

  pub begun_of : (own : ℕ) (c : Call) (a : Result Answer Unanswered) (g : Opening) (xs : List Done) (names : List Name) → InRun was g xs names → IsAsked was.sessions own c → IsTo c a → (n : ℕ) → a ≡ Ok (answer.Begun n)
      → length (queue_of was.ends own) ≡ waiting g (state_after g (front xs)) own
  begun_of own c a g xs names run asked to n e =
      let i = subst (λ (d : Call). IsAsked was.sessions own d) (begun_by c a n to e) asked in
      settled_of g xs names run own i.0 (subst (λ (k : ℕ). own ≤ k) (sym run.workers) i.1)

  pub room_on_line : (stood : HasRun was) → (w : ℕ) → 0 < w → w ≤ stood.opening.workers → Room (desk_of was.work was.desks w).session.is_open (length (queue_of was.ends w))
  room_on_line stood w low high = room_in Line (desk_of was.work was.desks w).session.is_open (length (queue_of was.ends w)) (waiting stood.opening (state_after stood.opening (front stood.done)) w) (λ e. absurd (cc))
      (subst (λ (n : Next). HasRoom n (desk_of was.work was.desks w).session.is_open (length (queue_of was.ends w)) (waiting stood.opening (state_after stood.opening (front stood.done)) w)) line (stood.room w low high))

-- ## Behind a conflict

module _ {D : Type 0} (was : State D) (due : was.next ≡ Abort) where
  pub room_on_abort : (stood : HasRun was) → (w : ℕ) → 0 < w → w ≤ stood.opening.workers → Room (desk_of was.work was.desks w).session.is_open (length (queue_of was.ends w))
  room_on_abort stood w low high = room_in Abort (desk_of was.work was.desks w).session.is_open (length (queue_of was.ends w)) (waiting stood.opening (state_after stood.opening (front stood.done)) w) (λ e. absurd (cc))
      (subst (λ (n : Next). HasRoom n (desk_of was.work was.desks w).session.is_open (length (queue_of was.ends w)) (waiting stood.opening (state_after stood.opening (front stood.done)) w)) due (stood.room w low high))

  pub open_due : HasRun was → was.work.session.is_open ≡ true
  open_due stood = subst (λ (n : Next). WhereDue n (was.work.session.is_open ≡ true)) due stood.is_open

  -- the call that met it
  pub due_of : (g : Opening) (xs : List Done) (names : List Name) → InRun was g xs names → (c : Call) × IsDue was.turn c g xs
  due_of g xs names run =
      let h = subst (λ (n : Next). IsNext n xs) due run.next in
      (h.hindered, record { newest = h.newest; earlier = h.earlier; are = h.are; hindered = h.is; session = subst (IsOfTurn was.turn) h.are (subst (λ (n : Next). WhereDue n (IsOfTurn was.turn xs)) due run.turn) })

  pub turn_of : (g : Opening) (y : Done) (earlier : List Done) (names : List Name) → InRun was g (y ∷ earlier) names → y.outcome.session ≡ was.turn
  turn_of g y earlier names run = subst (λ (n : Next). WhereDue n (IsOfTurn was.turn (y ∷ earlier))) due run.turn

  pub aborts_in : (is : State D) (r : Result Answer Unanswered) (old new : Story)
      → ((c : Call) (g : Opening) (xs : List Done) (names : List Name) → InRun was g xs names → IsDue was.turn c g xs → Comes r (λ a. DoesIn g xs names was.turn c a was is old new) (Fails g was.group xs was.turn c (memory_in was) old new) (StandsNot g was.group xs (memory_in was) old))
      → AbortsInRuns r was is old new
  aborts_in is r old new does g y earlier names run c h =
      let t = turn_of g y earlier names run in
      subst (λ (k : ℕ). Comes r (λ a. DoesIn g (y ∷ earlier) names k c a was is old new) (Fails g was.group (y ∷ earlier) k c (memory_in was) old new) (StandsNot g was.group (y ∷ earlier) (memory_in was) old)) (sym t)
      (does c g (y ∷ earlier) names run (record { newest = y; earlier = earlier; are = refl; hindered = h; session = t }))

-- ## Behind a pair

module _ {D : Type 0} (was : State D) (due : was.next ≡ following.Scan) where
  pub room_on_scan : (stood : HasRun was) → (w : ℕ) → 0 < w → w ≤ stood.opening.workers → Room (desk_of was.work was.desks w).session.is_open (length (queue_of was.ends w))
  room_on_scan stood w low high = room_in following.Scan (desk_of was.work was.desks w).session.is_open (length (queue_of was.ends w)) (waiting stood.opening (state_after stood.opening (front stood.done)) w) (λ e. absurd (cc))
      (subst (λ (n : Next). HasRoom n (desk_of was.work was.desks w).session.is_open (length (queue_of was.ends w)) (waiting stood.opening (state_after stood.opening (front stood.done)) w)) due (stood.room w low high))

  -- it goes on
  pub going_of : (g : Opening) (xs : List Done) (names : List Name) → InRun was g xs names → GoesOnAt was.turn was.scan g xs
  going_of g xs names run = subst (λ (n : Next). WhereScanning n (GoesOnAt was.turn was.scan g xs)) due run.scan

  pub scans_in : (is : State D) (r : Result Answer Unanswered) (old new : Story)
      → ((g : Opening) (xs : List Done) (names : List Name) → InRun was g xs names → StandsAt was.turn was.scan g xs
      → Comes r (λ a. DoesIn g xs names was.turn (call.Scan was.scan.from was.scan.to) a was is old new) (Fails g was.group xs was.turn (call.Scan was.scan.from was.scan.to) (memory_in was) old new) (StandsNot g was.group xs (memory_in was) old))
      → ScansInRuns r was is old new
  scans_in is r old new does g y earlier names run =
      let s = going_of g (y ∷ earlier) names run in
      let own : y.outcome.session ≡ was.turn = s.0.2 in
      let c : asked y.outcome.deed ≡ call.Scan was.scan.from was.scan.to = s.0.3 in
      subst (λ (q : ℕ × Call). Comes r (λ a. DoesIn g (y ∷ earlier) names q.0 q.1 a was is old new) (Fails g was.group (y ∷ earlier) q.0 q.1 (memory_in was) old new) (StandsNot g was.group (y ∷ earlier) (memory_in was) old)) (λ i. (sym own i, sym c i))
      (does g (y ∷ earlier) names run s.1)

-- ## Room for an end

-- where room is as it is said, an end of the session finds room
pub end_room : (sessions own : ℕ) (a : Result Answer Unanswered) (receipt : Option Receipt) (v w : View) (qs : List (List End)) (opens : ℕ → Bool) → IsEndOf own v w a receipt → (ends_in a ≡ true → (0 < own) × (own ≤ sessions)) → length qs ≡ sessions
    → ((k : ℕ) → 0 < k → k ≤ sessions → Room (opens k) (length (queue_of qs k)))
    → IfSome receipt (λ r. (0 < r.log) × (r.log ≤ length qs)) × IfSome receipt (λ r. length (queue_of qs r.log) < 257)
end_room sessions own a receipt v w qs opens e some many room = go receipt (λ r q. (e.ended r q).is.log) (λ r q. e.some r q)
  where
    go : (o : Option Receipt) → ((r : Receipt) → o ≡ Some r → r.log ≡ own) → ((r : Receipt) → o ≡ Some r → ends_in a ≡ true) → IfSome o (λ r. (0 < r.log) × (r.log ≤ length qs)) × IfSome o (λ r. length (queue_of qs r.log) < 257)
    go None l k = (tt, tt)
    go (Some r) l k =
        let is = l r refl in
        let s = some (k r refl) in
        let low = s.0 in let high = s.1 in
        let m = (room own low high).most in
        let q = ap (λ (n : ℕ). length (queue_of qs n)) is in
        ((omega arith, omega arith), omega arith)
