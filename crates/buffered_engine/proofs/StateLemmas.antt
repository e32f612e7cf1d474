-- An engine's call: what it says, and what holds of the engine behind it.
use Rattle.std.proofs.Common.{◌≡◌, ◌≤◌, ◌<◌, ℕ, Bool, true, false, leb, List, length, IfSome, refl, sym, ap, ◌∙◌, subst, Result, Ok}
use Rattle.map_model.specs.declared.call.Answer.{Answer}
use Rattle.map_model.specs.declared.call.Answer.TheVariants as answer
use Rattle.map_model.specs.declared.call.Call.{Call}
use Rattle.map_model.specs.declared.call.Call.TheVariants as call
use Rattle.page_model.specs.Limits.{waiting_ends}
use Rattle.paged_scans.specs.core_calls.Fronts.{Done}
use Rattle.paged_scans.specs.core_calls.Steps.{is_conflict}
use Rattle.paged_scans.specs.core_commit.Rises.{EveryRise}
use Rattle.paged_scans.specs.core_state.Openings.{Opening}
use Rattle.lean_disk.specs.Story.{Story}
use Rattle.paged_scans.specs.row_opening.Openings.{EveryReached}
use Rattle.paged_scans.specs.engine_trait.Calls.{IsAsked}
use Rattle.engine_front.specs.Turns.{behind_answer, behind_last}
use Rattle.engine_front.specs.declared.calls.Next.{Next}
use Rattle.engine_front.specs.declared.calls.Next.TheVariants as following
use Rattle.engine_front.specs.declared.calls.Next.TheVariants.{Abort, Line}
use Rattle.group_commit.specs.Laws.{EveryOutcome}
use Rattle.group_commit.specs.Queues.{queue_of}
use Rattle.group_commit.specs.declared.queue.End.{End}
use Rattle.paged_scans.specs.session_desks.Desks.{desk_of}
use Rattle.paged_scans.specs.session_desks.Parts.{Works, here, shape}
use Rattle.paged_scans.proofs.session_desks.SeatLemmas.{turn_high, turn_low}
use Rattle.paged_scans.specs.paged_desks.Calls.{CallDoes, OnLine}
use Rattle.paged_scans.specs.paged_desks.Machines.{view_of}
use Rattle.paged_scans.specs.paged_desks.declared.machine.PagedMachine.{PagedMachine}
use Rattle.paged_scans.specs.Calls.{IsIn, StandsAt}
use Rattle.paged_scans.specs.declared.scans.Scan.{Scan}
use Rattle.buffered_engine.specs.Calls.{AbortsInRuns, Asked, AskedAbort, AskedScan, DoesInRuns, IsTo, ScansInRuns, TellsFewer}
use Rattle.buffered_engine.specs.Inside.Asks.{IsDue, OnAsked, next_behind, put_ends, ends_line}
use Rattle.buffered_engine.specs.Inside.Parts.{IsEngine, MachineWent, state_by}
use Rattle.buffered_engine.specs.Inside.Scans.{scan_behind, scan_of}
use Rattle.buffered_engine.specs.States.{HasRun, State, pairs_left}
use Rattle.buffered_engine.specs.declared.ends.Response.{Response}
use Rattle.buffered_engine.proofs.AskingLemmas.{aborts_in, asked_of, begun_of, due_of, end_room, few, going_of, in_runs, open_due, room_on_abort, room_on_line, room_on_scan, run_behind, scans_in, some_session, ok_of}
use Rattle.buffered_engine.proofs.CallLemmas.{went}
use Rattle.buffered_engine.proofs.ScanLemmas.{fewer_left, pair_asked, pair_stands, scan_kept}
use Rattle.buffered_engine.proofs.WentLemmas.{went_more}
use Rattle.paged_scans.specs.engine_trait.declared.unserved.Unanswered.{Unanswered}

no_scan : (b : Bool) → following.Scan ≡ behind_last b → ⊥
no_scan true e = absurd (cc)
no_scan false e = absurd (cc)

module _ {D : Type 0} (reached : EveryReached) (outcome : EveryOutcome) (rises : EveryRise) (story : D → Story) (faults : D → ℕ) (m n : PagedMachine D) (next next_new : Next) (scan scan_new : Scan) (ends ends_new : List (List End)) (works : Works m.machine) (e : IsEngine story m next scan ends) (r : Response)
    (next_is : next_new ≡ next_behind next r.answer) (ends_are : ends_new ≡ put_ends r.receipt r.answer ends) (within : IsIn scan_new) where
  abbrev was : State D
  was = state_by m next scan ends

  abbrev is : State D
  is = state_by n next_new scan_new ends_new

  abbrev a : Result Answer Unanswered
  a = r.answer

  abbrev sessions : ℕ
  sessions = m.machine.work.session.workers

  abbrev old : Story
  old = story m.machine.work.disk

  abbrev new : Story
  new = story n.machine.work.disk

  abbrev stood : HasRun was
  stood = e.run works

  -- ## On a line

  module _ (own : ℕ) (c : Call) (is_long : Bool) (line : next ≡ Line) (asked : IsAsked sessions own c) (long : c ≡ call.Begin → is_long ≡ leb waiting_ends (length (queue_of ends own)))
      (turn : Works n.machine → ends_line a ≡ false → n.machine.work.session.own ≡ own) (scan_is : scan_new ≡ scan_behind a (scan_of c scan)) (w : MachineWent story faults (OnAsked own c is_long) sessions own c r m n) where
    pair_to : (key value : ℕ) → a ≡ Ok (answer.Pair key value) → IsTo c (Ok (answer.Pair key value))
    pair_to key value q = subst (IsTo c) q w.to

    of_scan : (key value : ℕ) → a ≡ Ok (answer.Pair key value) → c ≡ call.Scan (scan_of c scan).from (scan_of c scan).to
    of_scan key value q = pair_asked c scan key value (pair_to key value q)

    stands : (g : Opening) (xs : List Done) → OnAsked own c is_long g xs → (key value : ℕ) → a ≡ Ok (answer.Pair key value) → StandsAt own (scan_of c scan) g xs
    stands g xs on key value q = pair_stands own c is_long scan g xs key value (pair_to key value q) on

    pub asked_went : Asked story own c a was is
    asked_went = went (DoesInRuns own c a was is old new) a was is works
        (λ g xs names run. in_runs reached outcome rises story m n next next_new scan scan_new ends ends_new works e faults (OnAsked own c is_long) own c r w next_is ends_are turn (scan_of c scan) scan_is c (OnAsked own c is_long) w.does of_scan stands g xs names run (asked_of was line own c is_long g xs names run asked long))
        w.may w.works w.not_broken next_is w.session.0 w.session.1

    pub asked_engine : IsEngine story n next_new scan_new ends_new
    asked_engine = record {
      few = few reached outcome rises story m n next next_new scan scan_new ends ends_new works e faults (OnAsked own c is_long) own c r w next_is ends_are turn (scan_of c scan) scan_is;
      fits = w.fits;
      ready = w.ready;
      run = run_behind reached outcome rises story m n next next_new scan scan_new ends ends_new works e faults (OnAsked own c is_long) own c r w next_is ends_are turn (scan_of c scan) scan_is c (OnAsked own c is_long) w.does of_scan stands
          (λ q. (some_session sessions own c a asked w.to q).0) (room_on_line was line stood) (λ k q. begun_of was line own c a stood.opening stood.done stood.names stood.in_run asked w.to k q)
          (asked_of was line own c is_long stood.opening stood.done stood.names stood.in_run asked long);
      within = within;
    }

    -- its end finds room
    pub room_asked : IfSome r.receipt (λ x. (0 < x.log) × (x.log ≤ length ends)) × IfSome r.receipt (λ x. length (queue_of ends x.log) < 257)
    room_asked = end_room sessions own a r.receipt (view_of m) (view_of n) ends (λ k. (desk_of was.work was.desks k).session.is_open) w.ends (some_session sessions own c a asked w.to) (stood.in_run.tracks.sessions ∙ stood.in_run.workers)
        (λ k low high. room_on_line was line stood k low (subst (λ (u : ℕ). k ≤ u) (sym stood.in_run.workers) high))

  -- ## Behind a conflict

  module _ (due : next ≡ Abort) (turn : Works n.machine → n.machine.work.session.own ≡ m.machine.work.session.own) (scan_is : scan_new ≡ scan) (w : MachineWent story faults OnLine 1 m.machine.work.session.own call.Abort r m n)
      (does : m.machine.work.session.is_open ≡ true → (c : Call) → CallDoes story (IsDue m.machine.work.session.own c) m.machine.work.session.own c a m n) where
    abbrev own : ℕ
    own = m.machine.work.session.own

    all : MachineWent story faults OnLine sessions own call.Abort r m n
    all = went_more story faults OnLine own call.Abort r m n sessions w

    is_open : m.machine.work.session.is_open ≡ true
    is_open = open_due was due stood

    seated : (0 < own) × (own ≤ sessions)
    seated = (turn_low (shape m.machine) (view_of m) (here m.machine) m.machine.desks.items (e.ready works).sound.desks, turn_high (shape m.machine) (view_of m) (here m.machine) m.machine.desks.items (e.ready works).sound.desks)

    no_begin : (k : ℕ) → a ≡ Ok (answer.Begun k) → ⊥
    no_begin k q = subst (IsTo call.Abort) q w.to

    no_pair : (key value : ℕ) → a ≡ Ok (answer.Pair key value) → ⊥
    no_pair key value q = subst (IsTo call.Abort) q w.to

    kept : scan_new ≡ scan_behind a scan
    kept = scan_is ∙ scan_kept call.Abort a scan w.to (λ from to q. absurd (cc))

    pub abort_went : AskedAbort story a was is
    abort_went = went (AbortsInRuns a was is old new) a was is works
        (aborts_in was due is a old new (λ c g xs names run. in_runs reached outcome rises story m n next next_new scan scan_new ends ends_new works e faults OnLine own call.Abort r all next_is ends_are (λ b q. turn b) scan kept c (IsDue own c) (does is_open c) (λ key value q. absurd (no_pair key value q)) (λ h ys may key value q. absurd (no_pair key value q)) g xs names run))
        all.may w.works w.not_broken next_is w.session.0 w.session.1

    pub abort_engine : IsEngine story n next_new scan_new ends_new
    abort_engine = let d = due_of was due stood.opening stood.done stood.names stood.in_run in record {
      few = few reached outcome rises story m n next next_new scan scan_new ends ends_new works e faults OnLine own call.Abort r all next_is ends_are (λ b q. turn b) scan kept;
      fits = w.fits;
      ready = w.ready;
      run = run_behind reached outcome rises story m n next next_new scan scan_new ends ends_new works e faults OnLine own call.Abort r all next_is ends_are (λ b q. turn b) scan kept d.0 (IsDue own d.0) (does is_open d.0) (λ key value q. absurd (no_pair key value q)) (λ h ys may key value q. absurd (no_pair key value q))
          (λ q. seated.0) (room_on_abort was due stood) (λ k q. absurd (no_begin k q)) d.1;
      within = within;
    }

    pub room_abort_of : IfSome r.receipt (λ x. (0 < x.log) × (x.log ≤ length ends)) × IfSome r.receipt (λ x. length (queue_of ends x.log) < 257)
    room_abort_of = end_room sessions own a r.receipt (view_of m) (view_of n) ends (λ k. (desk_of was.work was.desks k).session.is_open) w.ends (λ q. seated) (stood.in_run.tracks.sessions ∙ stood.in_run.workers)
        (λ k low high. room_on_abort was due stood k low (subst (λ (u : ℕ). k ≤ u) (sym stood.in_run.workers) high))

  -- ## Behind a pair of a scan

  module _ (due : next ≡ following.Scan) (turn : Works n.machine → n.machine.work.session.own ≡ m.machine.work.session.own) (scan_is : scan_new ≡ scan_behind a scan)
      (w : MachineWent story faults (StandsAt m.machine.work.session.own scan) sessions m.machine.work.session.own (call.Scan scan.from scan.to) r m n) where
    abbrev asker : ℕ
    asker = m.machine.work.session.own

    asker_low : 0 < asker
    asker_low = turn_low (shape m.machine) (view_of m) (here m.machine) m.machine.desks.items (e.ready works).sound.desks

    none_begun : (k : ℕ) → a ≡ Ok (answer.Begun k) → ⊥
    none_begun k q = subst (IsTo (call.Scan scan.from scan.to)) q w.to

    pub scan_went : AskedScan story a was is
    scan_went = went (ScansInRuns a was is old new) a was is works
        (scans_in was due is a old new (λ g xs names run. in_runs reached outcome rises story m n next next_new scan scan_new ends ends_new works e faults (StandsAt asker scan) asker (call.Scan scan.from scan.to) r w next_is ends_are (λ b q. turn b) scan scan_is
        (call.Scan scan.from scan.to) (StandsAt asker scan) w.does (λ key value q. refl) (λ h ys may key value q. may) g xs names run))
        w.may w.works w.not_broken next_is w.session.0 w.session.1

    pub scan_engine : IsEngine story n next_new scan_new ends_new
    scan_engine = record {
      few = few reached outcome rises story m n next next_new scan scan_new ends ends_new works e faults (StandsAt asker scan) asker (call.Scan scan.from scan.to) r w next_is ends_are (λ b q. turn b) scan scan_is;
      fits = w.fits;
      ready = w.ready;
      run = run_behind reached outcome rises story m n next next_new scan scan_new ends ends_new works e faults (StandsAt asker scan) asker (call.Scan scan.from scan.to) r w next_is ends_are (λ b q. turn b) scan scan_is
          (call.Scan scan.from scan.to) (StandsAt asker scan) w.does (λ key value q. refl) (λ h ys may key value q. may)
          (λ q. asker_low) (room_on_scan was due stood) (λ k q. absurd (none_begun k q)) (going_of was due stood.opening stood.done stood.names stood.in_run).1;
      within = within;
    }

    -- behind a pair it has one pair less to tell
    pub scan_fewer : Works n.machine → TellsFewer was is
    scan_fewer q goes =
        let k = ok_of a (sym w.works ∙ q) in
        go k.0 (sym goes ∙ (next_is ∙ ap (λ (b : Result Answer Unanswered). next_behind next b) k.1)) (scan_is ∙ ap (λ (b : Result Answer Unanswered). scan_behind b scan) k.1)
      where
        go : (b : Answer) → following.Scan ≡ behind_answer b → scan_new ≡ scan_behind (Ok b) scan → pairs_left scan_new < pairs_left scan
        go (answer.Pair key value) g k = fewer_left scan.met scan_new.met (ap (λ (x : Scan). x.met) k) within.met
        go (answer.Refused why) g k = absurd (no_scan (is_conflict why) g)
        go b g k = absurd (cc)
