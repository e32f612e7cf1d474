-- Behind a call the engine stands in each run with one outcome more.
use Rattle.std.proofs.Common.{◌≡◌, ◌⊎◌, inl, inr, ◌≤◌, ◌<◌, ◌-◌, ◌++◌, ℕ, suc, Bool, true, false, leb, eqb, List, [], ◌∷◌, length, set, Option, Some, None, refl, sym, ap, ◌∙◌, subst, arith, true≢false, Result, Ok}
use Rattle.std.proofs.lemmas.Bool.{cases_Bool, cases_eq, cond-true, eq-eqb, leb-false}
use Rattle.std.proofs.lemmas.List.{append_assoc, append_cancel_left, length_push}
use Rattle.map_model.specs.Journals.{Name}
use Rattle.map_model.specs.Lists.{Has}
use Rattle.map_model.specs.Pairings.{is_last}
use Rattle.map_model.specs.declared.call.Answer.{Answer}
use Rattle.map_model.specs.declared.call.Answer.TheVariants as answer
use Rattle.map_model.specs.declared.call.Call.{Call}
use Rattle.map_model.specs.declared.call.Call.TheVariants as call
use Rattle.rfa_model.specs.Stamps.{need_of}
use Rattle.paged_scans.specs.core_commit.Rises.{EveryRise}
use Rattle.paged_scans.specs.core_state.Events.{Event}
use Rattle.paged_scans.specs.core_state.Openings.{Opening}
use Rattle.paged_scans.specs.core_state.States as core
use Rattle.paged_scans.specs.core_state.Steps.{state_after}
use Rattle.paged_scans.specs.core_calls.Deeds.{answered}
use Rattle.paged_scans.specs.core_calls.Durables.{due}
use Rattle.paged_scans.specs.core_calls.Fronts.{Done, front}
use Rattle.paged_scans.specs.core_calls.Refusals.{waiting}
use Rattle.paged_scans.specs.core_calls.Runs.{EachTells}
use Rattle.lean_disk.specs.Story.{Story}
use Rattle.paged_scans.specs.row_opening.Openings.{EveryReached}
use Rattle.paged_scans.specs.row_words.declared.event.Event as row
use Rattle.paged_scans.specs.row_words.declared.event.Event.TheVariants as row_event
use Rattle.paged_scans.specs.row_words.declared.given.Given.{Given}
use Rattle.paged_scans.specs.row_words.Moments.{event_of, events_of}
use Rattle.paged_scans.specs.rows_trait.declared.view.View.{View}
use Rattle.paged_scans.specs.rows_trait.Views.{state}
use Rattle.paged_scans.specs.engine_trait.Limits.{limits}
use Rattle.engine_front.specs.Turns.{IsNext, behind_answer, is_conflict_in}
use Rattle.engine_front.specs.declared.calls.Next.{Next}
use Rattle.engine_front.specs.declared.calls.Next.TheVariants.{Durables}
use Rattle.group_commit.specs.Laws.{EveryOutcome, OutcomeLaws}
use Rattle.group_commit.specs.Outcomes.{IsOfOutcome, ends_by}
use Rattle.group_commit.specs.Queues.{pushed, queue_of}
use Rattle.group_commit.specs.Tracks.{Tracks}
use Rattle.group_commit.specs.declared.queue.End.{End}
use Rattle.group_commit.specs.declared.receipts.Receipt.{Receipt}
use Rattle.group_commit.proofs.ListLemmas.{queue_set_other, queue_set_same}
use Rattle.paged_scans.proofs.session_state.Moments.{events_more}
use Rattle.paged_scans.specs.session_desks.Desks.{desk_of}
use Rattle.paged_scans.specs.session_desks.Parts.{AreAsMany, here, shape}
use Rattle.paged_scans.specs.session_desks.declared.desk.Desk.{Desk}
use Rattle.paged_scans.proofs.session_desks.SeatLemmas.{turn_high, turn_low}
use Rattle.paged_scans.specs.paged_desks.Calls.{DoesTied, Tied}
use Rattle.paged_scans.specs.paged_desks.Machines.{IsReady, memory, view_of}
use Rattle.paged_scans.specs.paged_desks.declared.machine.PagedMachine.{PagedMachine}
use Rattle.paged_scans.specs.Calls.{StandsAt}
use Rattle.paged_scans.specs.declared.scans.Scan.{Scan}
use Rattle.buffered_engine.specs.Inside.Asks.{FindsFlushed, IsEndOf, IsEnding, WasFlushed, ends_in, is_commit_in, put_ends}
use Rattle.buffered_engine.specs.Inside.Parts.{state_by}
use Rattle.buffered_engine.specs.Inside.Scans.{scan_behind}
use Rattle.buffered_engine.specs.Receipts.{flushed_in}
use Rattle.buffered_engine.specs.States.{GoesOnAt, HasRoom, HasRun, InRun, IsOfTurn, IsSettled, State, WhereDue, WhereScanning}
use Rattle.buffered_engine.proofs.AbortTracks.{IsOfAbort, abort_tracks}
use Rattle.buffered_engine.proofs.BeginLemmas.{none_wait_behind}
use Rattle.buffered_engine.proofs.DeedLemmas.{Begins, Ends, Neither, Sort, conflict_more, due_behind, end_open, ended, hindered_open, next_behind, scanning_behind, sort, unended, unsettled}
use Rattle.buffered_engine.proofs.OpenMarks.{open_after, open_other, open_own}
use Rattle.buffered_engine.proofs.ScanLemmas.{goes_on}
use Rattle.buffered_engine.proofs.SeenLemmas.{all_seen, core_is, events_seen}
use Rattle.paged_scans.specs.engine_trait.declared.unserved.Unanswered.{Unanswered}
use Rattle.paged_scans.specs.engine_trait.Calls.{HasCome}

-- ## Sessions that are open

-- where the desk of each session is so, as the core has it
pub open_is : {D : Type 0} (story : D → Story) → EveryReached → (m : PagedMachine D) → IsReady story m → (g : Opening) (group : ℕ) (xs : List Done) → Tied g group xs (view_of m) (memory m) → (w : ℕ) → 0 < w → w ≤ m.machine.work.session.workers
    → (desk_of (here m.machine) m.machine.desks.items w).session.is_open ≡ ((state_after g (front xs)).worker w).is_open
open_is story reached m ready g group xs t w low high =
    let d = ready.sound.desks.each w low high in
    sym d.holds.session.is_open
    ∙ (ap (λ (k : ℕ). ((state (view_of m)).core.worker k).is_open) d.own
    ∙ ap (λ (s : core.State). (s.worker w).is_open) (core_is g group xs (view_of m) (memory m) t reached))

pub store_is : (work : Desk) (desks : List Desk) → desk_of work desks work.session.own ≡ work
store_is work desks = cond-true (eqb work.session.own work.session.own) work _ (eq-eqb work.session.own work.session.own refl)

-- ## Room

-- where no durable line is to be told
pub record Room (is_open : Bool) (queue : ℕ) : Type 0 where
  pub most : queue ≤ 256
  pub more : is_open ≡ true → queue < 256

pub room_in : (n : Next) (b : Bool) (q waits : ℕ) → (n ≡ Durables → ⊥) → HasRoom n b q waits → Room b q
room_in Durables b q waits other h = absurd (other refl)
room_in _ true q waits other h = record { most = omega arith; more = λ e. h }
room_in _ false q waits other h = record { most = h; more = λ e. absurd (true≢false (sym e)) }

-- so there is room, whatever may be asked next
has_room : (n : Next) (b : Bool) (q waits : ℕ) → q ≤ 256 → (b ≡ true → q < 256) → HasRoom n b q waits
has_room Durables true q waits m h = inl (h refl)
has_room Durables false q waits m h = m
has_room _ true q waits m h = h refl
has_room _ false q waits m h = m

-- and behind a begin, which may have made all ends durable
durables_room : (b : Bool) (q waits : ℕ) → q ≤ 256 → (b ≡ true → (q < 256) ⊎ ((q ≤ 256) × (waits ≡ 0))) → HasRoom Durables b q waits
durables_room true q waits m h = h refl
durables_room false q waits m h = m

begun_room : (a : Answer) (k : ℕ) (b : Bool) (q waits : ℕ) → a ≡ answer.Begun k → q ≤ 256 → (b ≡ true → (q < 256) ⊎ ((q ≤ 256) × (waits ≡ 0))) → HasRoom (behind_answer a) b q waits
begun_room a k b q waits e m h = subst (λ (p : Answer). HasRoom (behind_answer p) b q waits) (sym e) (durables_room b q waits m h)

-- ## Queues

other_queue : (o : Option Receipt) (a : Result Answer Unanswered) (qs : List (List End)) (own w : ℕ) → ((r : Receipt) → o ≡ Some r → r.log ≡ own) → 0 < own → 0 < w → (w ≡ own → ⊥) → queue_of (put_ends o a qs) w ≡ queue_of qs w
other_queue None a qs own w l z y n = refl
other_queue (Some r) a qs own w l z y n = let e = l r refl in queue_set_other qs r.log w _ (omega arith) y (λ q. n (q ∙ e))

same_queue : (o : Option Receipt) (a : Result Answer Unanswered) (qs : List (List End)) (w : ℕ) → o ≡ None → queue_of (put_ends o a qs) w ≡ queue_of qs w
same_queue o a qs w e = ap (λ (p : Option Receipt). queue_of (put_ends p a qs) w) e

longer_queue : (o : Option Receipt) (a : Result Answer Unanswered) (qs : List (List End)) (w : ℕ) (r : Receipt) → o ≡ Some r → r.log ≡ w → 0 < w → w ≤ length qs → length (queue_of (put_ends o a qs) w) ≡ suc (length (queue_of qs w))
longer_queue o a qs w r e l z h =
    let x : End = record { txn = r.txn; gsn = r.gsn; need = r.need; is_commit = is_commit_in a } in
    ap (λ (p : Option Receipt). length (queue_of (put_ends p a qs) w)) e
    ∙ (ap (λ (k : ℕ). length (queue_of (set qs (k - 1) (queue_of qs k ++ x ∷ [])) w)) l
    ∙ (ap length (queue_set_same qs w (queue_of qs w ++ x ∷ []) z h) ∙ (let p = length_push (queue_of qs w) x in omega arith)))

data Came (o : Option Receipt) : Type 0 where
  Nothing : o ≡ None → Came o
  Receipt_is : (r : Receipt) → o ≡ Some r → Came o

came : (o : Option Receipt) → Came o
came None = Nothing refl
came (Some r) = Receipt_is r refl

-- ## The end of an abort

has_event : (own f : ℕ) (es : List row.Event) → Has (row_event.End own false f) es → Has (Event.End own false f) (events_of es)
has_event own f [] h = h
has_event own f (e ∷ es) (inl q) = inl (ap event_of q)
has_event own f (e ∷ es) (inr h) = inr (has_event own f es h)

pub commit_flushed : (a : Result Answer Unanswered) (own : ℕ) (v w : View) (f : ℕ) → is_commit_in a ≡ true → WasFlushed a own v w f → f ≡ flushed_in v
commit_flushed (Ok (answer.Committed n at)) own v w f k h = h
commit_flushed _ own v w f k h = absurd (true≢false (sym k))

abort_flushed : (a : Result Answer Unanswered) (own : ℕ) (v w : View) (f : ℕ) → ends_in a ≡ true → is_commit_in a ≡ false → WasFlushed a own v w f → FindsFlushed own f v w
abort_flushed (Ok (answer.Committed n at)) own v w f k l h = absurd (true≢false l)
abort_flushed (Ok (answer.Aborted n)) own v w f k l h = h
abort_flushed _ own v w f k l h = absurd (true≢false (sym k))

-- ## An outcome more

module _ {D : Type 0} (reached : EveryReached) (outcome : EveryOutcome) (rises : EveryRise) (m n : PagedMachine D) (next next_new : Next) (scan scan_new : Scan) (ends ends_new : List (List End)) (own : ℕ) (c : Call) (a : Answer) (receipt : Option Receipt) (old new : Story)
    (same : AreAsMany m.machine n.machine) (may : HasCome m.machine.work.session.workers a) (ended_is : IsEndOf own (view_of m) (view_of n) (Ok a) receipt)
    (ends_are : ends_new ≡ put_ends receipt (Ok a) ends) (next_is : next_new ≡ behind_answer a) (turn : is_last a ≡ false → n.machine.work.session.own ≡ own)
    (scan_first : Scan) (scan_is : scan_new ≡ scan_behind (Ok a) scan_first) (of_scan : (key value : ℕ) → a ≡ answer.Pair key value → c ≡ call.Scan scan_first.from scan_first.to) where
  abbrev was : State D
  was = state_by m next scan ends

  abbrev is : State D
  is = state_by n next_new scan_new ends_new

  abbrev v : View
  v = view_of m

  abbrev w : View
  w = view_of n

  module _ (g : Opening) (xs : List Done) (names : List Name) (run : InRun was g xs names) (d : DoesTied g was.group xs own c a (memory m) n old new) where
    abbrev x : Done
    x = d.does.done

    abbrev now : core.State
    now = state_after g (front (x ∷ xs))

    told : EachTells limits g was.group (x ∷ xs)
    told = (d.tied.ties 0).told

    laws : OutcomeLaws g xs x names ends
    laws = outcome limits g was.group xs x names ends told run.tracks

    worker : (f : core.Worker → ℕ) → f ((state w).core.worker own) ≡ f (now.worker x.outcome.session)
    worker f = ap (λ (s : core.State). f (s.worker own)) (core_is g was.group (x ∷ xs) w (memory n) d.tied reached) ∙ ap (λ (k : ℕ). f (now.worker k)) (sym d.does.session)

    module _ (r : Receipt) (e : receipt ≡ Some r) where
      abbrev i : IsEnding own v w (Ok a) r
      i = ended_is.ended r e

      commits : is_commit_in (Ok a) ≡ true → IsOfOutcome g xs x r
      commits k = record {
        txn = i.is.txn ∙ worker (λ (b : core.Worker). b.txn);
        log = i.is.log ∙ sym d.does.session;
        gsn = i.is.gsn ∙ worker (λ (b : core.Worker). b.end);
        need = i.is.need ∙ (ap (λ (f : ℕ). need_of ((state w).core.worker own).debt f) (commit_flushed (Ok a) own v w i.flushed k i.was ∙ all_seen g was.group xs v (memory m) run.tied reached)
            ∙ ap (λ (b : ℕ). need_of b (core.flushed_by_all g (state_after g (front xs)))) (worker (λ (b : core.Worker). b.debt)));
      }

      aborts : IsOfAbort g xs x i.flushed r
      aborts = record {
        txn = i.is.txn ∙ worker (λ (b : core.Worker). b.txn);
        log = i.is.log ∙ sym d.does.session;
        gsn = i.is.gsn ∙ worker (λ (b : core.Worker). b.end);
        need = i.is.need ∙ ap (λ (b : ℕ). need_of b i.flushed) (worker (λ (b : core.Worker). b.debt));
      }

      -- the events of the call are those that the seat has seen in it
      own_events : (f : FindsFlushed own i.flushed v w) → events_of f.events ≡ x.events
      own_events f = append_cancel_left (front xs) (events_of f.events) x.events
          (ap (λ (es : List Event). es ++ events_of f.events) (sym (events_seen g was.group xs v (memory m) run.tied))
          ∙ (append_assoc (events_of v.given.before) (events_of v.seen) (events_of f.events)
          ∙ (ap (λ (es : List Event). events_of v.given.before ++ es) (sym (events_more v.seen f.events))
          ∙ (ap (λ (q : Given). events_of q.before ++ events_of (v.seen ++ f.events)) (sym f.given)
          ∙ (ap (λ (es : List row.Event). events_of w.given.before ++ events_of es) (sym f.seen)
          ∙ events_seen g was.group (x ∷ xs) w (memory n) d.tied)))))

      has_end : FindsFlushed own i.flushed v w → Has (Event.End x.outcome.session false i.flushed) x.events
      has_end f = subst (λ (k : ℕ). Has (Event.End k false i.flushed) x.events) (sym d.does.session) (subst (λ (es : List Event). Has (Event.End own false i.flushed) es) (own_events f) (has_event own i.flushed f.events f.has))

      by : ends_by x.outcome.deed ≡ Some (is_commit_in (Ok a))
      by = ended x a d.does.answer_is (ended_is.some r e)

      pushed_is : (b : Bool) → is_commit_in (Ok a) ≡ b → Tracks g now names (pushed r b ends)
      pushed_is true k = laws.ends true (by ∙ ap Some k) (λ q. absurd (true≢false q)) r (commits k)
      pushed_is false k = abort_tracks rises limits g was.group xs x names ends told.1 run.tracks (by ∙ ap Some k) i.flushed (has_end (abort_flushed (Ok a) own v w i.flushed (ended_is.some r e) k i.was)) r aborts

    tracks : Tracks g now names (put_ends receipt (Ok a) ends)
    tracks = go (came receipt)
      where
        go : Came receipt → Tracks g now names (put_ends receipt (Ok a) ends)
        go (Nothing e) = subst (λ (o : Option Receipt). Tracks g now names (put_ends o (Ok a) ends)) (sym e) (laws.others (unended x a d.does.answer_is (ended_is.none e)))
        go (Receipt_is r e) = subst (λ (o : Option Receipt). Tracks g now names (put_ends o (Ok a) ends)) (sym e) (pushed_is r e (is_commit_in (Ok a)) refl)

    -- a scan goes on behind the pair that it told
    scanning : ((key value : ℕ) → a ≡ answer.Pair key value → StandsAt own scan_first g xs) → (key value : ℕ) → a ≡ answer.Pair key value → GoesOnAt is.turn scan_new g (x ∷ xs)
    scanning stands key value e = subst (λ (q : ℕ × Scan). GoesOnAt q.0 q.1 g (x ∷ xs)) (λ i. (sym (turn (ap is_last e)) i, sym (scan_is ∙ ap (λ (b : Answer). scan_behind (Ok b) scan_first) e) i))
        (goes_on own scan_first g xs x key value (stands key value e) d.does.session (d.does.asked_is ∙ of_scan key value e) (d.does.answer_is ∙ e))

    pub in_run_behind : ((key value : ℕ) → a ≡ answer.Pair key value → StandsAt own scan_first g xs) → InRun is g (x ∷ xs) names
    in_run_behind stands = record {
      workers = run.workers ∙ sym same.0;
      next = subst (λ (k : Next). IsNext k (x ∷ xs)) (sym next_is) (next_behind was.sessions x xs a d.does.answer_is may);
      turn = subst (λ (k : Next). WhereDue k (IsOfTurn is.turn (x ∷ xs))) (sym next_is) (due_behind a (IsOfTurn is.turn (x ∷ xs)) (λ e. d.does.session ∙ sym (turn (conflict_more a e))));
      scan = subst (λ (k : Next). WhereScanning k (GoesOnAt is.turn scan_new g (x ∷ xs))) (sym next_is) (scanning_behind a (GoesOnAt is.turn scan_new g (x ∷ xs)) (scanning stands));
      tied = subst (λ (k : ℕ). Tied g k (x ∷ xs) w (memory n)) (sym same.1) d.tied;
      tracks = subst (λ (qs : List (List End)). Tracks g now names qs) (sym ends_are) tracks;
      told = subst (λ (k : Next). IsSettled k (due g now names ≡ [])) (sym next_is) (unsettled a (due g now names ≡ []));
      settled = subst (λ (k : Next). IsSettled k ((u : ℕ) → 0 < u → u ≤ g.workers → length (queue_of ends_new u) ≡ waiting g now u)) (sym next_is) (unsettled a ((u : ℕ) → 0 < u → u ≤ g.workers → length (queue_of ends_new u) ≡ waiting g now u));
    }

  -- ## In the run in which it stands

  module _ (story : D → Story) (ready : IsReady story m) (ready_new : IsReady story n)
      (stood : HasRun was) (d : DoesTied stood.opening was.group stood.done own c a (memory m) n old new)
      (stands : (key value : ℕ) → a ≡ answer.Pair key value → StandsAt own scan_first stood.opening stood.done)
      (some : ends_in (Ok a) ≡ true → 0 < own)
      (room : (u : ℕ) → 0 < u → u ≤ stood.opening.workers → Room (desk_of was.work was.desks u).session.is_open (length (queue_of ends u)))
      (settled : (k : ℕ) → a ≡ answer.Begun k → length (queue_of ends own) ≡ waiting stood.opening (state_after stood.opening (front stood.done)) own) where
    abbrev g : Opening
    g = stood.opening

    abbrev y : Done
    y = d.does.done

    abbrev s : core.State
    s = state_after g (front stood.done)

    abbrev t : core.State
    t = state_after g (front (y ∷ stood.done))

    -- the desks before and behind it
    abbrev first : ℕ → Desk
    first u = desk_of was.work was.desks u

    abbrev second : ℕ → Desk
    second u = desk_of is.work is.desks u

    ws : (u : ℕ) → u ≤ g.workers → u ≤ was.sessions
    ws u h = subst (λ (k : ℕ). u ≤ k) stood.in_run.workers h

    was_open : (u : ℕ) → 0 < u → u ≤ g.workers → (first u).session.is_open ≡ (s.worker u).is_open
    was_open u low high = open_is story reached m ready g was.group stood.done stood.in_run.tied u low (ws u high)

    is_open : (u : ℕ) → 0 < u → u ≤ g.workers → (second u).session.is_open ≡ (t.worker u).is_open
    is_open u low high = open_is story reached n ready_new g was.group (y ∷ stood.done) d.tied u low (subst (λ (k : ℕ). u ≤ k) (sym same.0) (ws u high))

    of_own : (r : Receipt) → receipt ≡ Some r → r.log ≡ own
    of_own r e = (ended_is.ended r e).is.log

    queues : length ends ≡ g.workers
    queues = stood.in_run.tracks.sessions

    told_of : EachTells limits g was.group (y ∷ stood.done)
    told_of = (d.tied.ties 0).told

    -- an end was open before
    open_before : ends_in (Ok a) ≡ true → (s.worker own).is_open ≡ true
    open_before e = ap (λ (k : ℕ). (s.worker k).is_open) (sym d.does.session)
        ∙ end_open g stood.done y ((memory m).log y.outcome.session) d.does.happens.how told_of.1.hindered (subst (λ (b : Answer). ends_in (Ok b) ≡ true) (sym d.does.answer_is) e)

    unended_queue : ends_in (Ok a) ≡ false → (u : ℕ) → queue_of (put_ends receipt (Ok a) ends) u ≡ queue_of ends u
    unended_queue e u = go (came receipt)
      where
        go : Came receipt → queue_of (put_ends receipt (Ok a) ends) u ≡ queue_of ends u
        go (Nothing q) = same_queue receipt (Ok a) ends u q
        go (Receipt_is r q) = absurd (true≢false (sym (ended_is.some r q) ∙ e))

    -- a desk of another session is as open as before, and its queue is as long
    other_length : (u : ℕ) → 0 < u → (u ≡ own → ⊥) → length (queue_of (put_ends receipt (Ok a) ends) u) ≡ length (queue_of ends u)
    other_length u low k = elim (cases_Bool (ends_in (Ok a))) [
      | inl e ↦ ap length (other_queue receipt (Ok a) ends own u of_own (some e) low k)
      | inr e ↦ ap length (unended_queue e u)
    ]

    other_room : (u : ℕ) → 0 < u → u ≤ g.workers → (u ≡ own → ⊥) → HasRoom (behind_answer a) (second u).session.is_open (length (queue_of (put_ends receipt (Ok a) ends) u)) (waiting g t u)
    other_room u low high k =
        let r = room u low high in
        let q = other_length u low k in
        let o = is_open u low high ∙ (open_other limits g was.group stood.done y told_of.1 u (λ e. k (e ∙ d.does.session)) ∙ sym (was_open u low high)) in
        has_room (behind_answer a) (second u).session.is_open (length (queue_of (put_ends receipt (Ok a) ends) u)) (waiting g t u) (let l = r.most in omega arith)
        (λ e. let l = r.more (sym o ∙ e) in omega arith)

    ended_queue : ends_in (Ok a) ≡ true → 0 < own → own ≤ g.workers → length (queue_of (put_ends receipt (Ok a) ends) own) ≡ suc (length (queue_of ends own))
    ended_queue e low high = go (came receipt)
      where
        go : Came receipt → length (queue_of (put_ends receipt (Ok a) ends) own) ≡ suc (length (queue_of ends own))
        go (Nothing q) = absurd (true≢false (sym e ∙ ended_is.none q))
        go (Receipt_is r q) = longer_queue receipt (Ok a) ends own r q (of_own r q) low (subst (λ (k : ℕ). own ≤ k) (sym queues) high)

    own_open : 0 < own → own ≤ g.workers → (second own).session.is_open ≡ open_after y.outcome.deed (first own).session.is_open
    own_open low high = is_open own low high ∙ (open_own limits g was.group stood.done y told_of.1 own (sym d.does.session) ∙ sym (ap (open_after y.outcome.deed) (was_open own low high)))

    own_room : 0 < own → own ≤ g.workers → HasRoom (behind_answer a) (second own).session.is_open (length (queue_of (put_ends receipt (Ok a) ends) own)) (waiting g t own)
    own_room low high = go (sort y.outcome.deed)
      where
        r : Room (first own).session.is_open (length (queue_of ends own))
        r = room own low high

        go : Sort y.outcome.deed → HasRoom (behind_answer a) (second own).session.is_open (length (queue_of (put_ends receipt (Ok a) ends) own)) (waiting g t own)
        go (Begins k e) =
            let begun = sym d.does.answer_is ∙ ap answered e in
            let q = ap length (unended_queue (ap (λ (b : Answer). ends_in (Ok b)) begun) own) in
            let l = r.most in
            begun_room a k (second own).session.is_open (length (queue_of (put_ends receipt (Ok a) ends) own)) (waiting g t own) begun (omega arith)
            (λ o. elim (cases_Bool (leb 256 (waiting g s own))) [
              | inl long ↦ inr ((omega arith), none_wait_behind g was.group stood.done y k told_of.1 e (subst (λ (j : ℕ). leb 256 (waiting g s j) ≡ true) (sym d.does.session) long) own)
              | inr short ↦ inl (let f = leb-false 256 (waiting g s own) short in let z = settled k begun in omega arith)
            ])
        go (Ends e b) =
            let k = subst (λ (p : Answer). ends_in (Ok p) ≡ true) d.does.answer_is e in
            let q = ended_queue k low high in
            let l = r.more (was_open own low high ∙ open_before k) in
            has_room (behind_answer a) (second own).session.is_open (length (queue_of (put_ends receipt (Ok a) ends) own)) (waiting g t own) (omega arith)
            (λ o. absurd (true≢false (sym o ∙ (own_open low high ∙ b (first own).session.is_open))))
        go (Neither e b) =
            let q = ap length (unended_queue (subst (λ (p : Answer). ends_in (Ok p) ≡ false) d.does.answer_is e) own) in
            let l = r.most in
            has_room (behind_answer a) (second own).session.is_open (length (queue_of (put_ends receipt (Ok a) ends) own)) (waiting g t own) (omega arith)
            (λ o. let f = r.more (sym (own_open low high ∙ b (first own).session.is_open) ∙ o) in omega arith)

    each_room : (u : ℕ) → 0 < u → u ≤ g.workers → HasRoom (behind_answer a) (second u).session.is_open (length (queue_of (put_ends receipt (Ok a) ends) u)) (waiting g t u)
    each_room u low high = elim (cases_eq u own) [
      | inl e ↦ subst (λ (k : ℕ). HasRoom (behind_answer a) (second k).session.is_open (length (queue_of (put_ends receipt (Ok a) ends) k)) (waiting g t k)) (sym e) (own_room (omega arith) (omega arith))
      | inr k ↦ other_room u low high k
    ]

    pub has_run : HasRun is
    has_run = record {
      opening = g;
      done = y ∷ stood.done;
      names = stood.names;
      in_run = in_run_behind g stood.done stood.names stood.in_run d stands;
      is_half_aborted = d.is_half_aborted;
      room = λ u low high. subst (λ (k : Next). HasRoom k (second u).session.is_open (length (queue_of ends_new u)) (waiting g t u)) (sym next_is)
          (subst (λ (qs : List (List End)). HasRoom (behind_answer a) (second u).session.is_open (length (queue_of qs u)) (waiting g t u)) (sym ends_are) (each_room u low high));
      is_open = subst (λ (k : Next). WhereDue k (is.work.session.is_open ≡ true)) (sym next_is) (due_behind a (is.work.session.is_open ≡ true) open_due);
    }
      where
        open_due : is_conflict_in a ≡ true → is.work.session.is_open ≡ true
        open_due e =
            let low = turn_low (shape n.machine) w is.work is.desks ready_new.sound.desks in
            let high = turn_high (shape n.machine) w is.work is.desks ready_new.sound.desks in
            let q = stood.in_run.workers in let l = same.0 in
            ap (λ (b : Desk). b.session.is_open) (sym (store_is is.work is.desks))
            ∙ (is_open is.work.session.own low (omega arith)
            ∙ (ap (λ (k : ℕ). (t.worker k).is_open) (turn (conflict_more a e) ∙ sym d.does.session)
            ∙ hindered_open g was.group stood.done y ((memory m).log y.outcome.session) told_of.1 d.does.happens.how (subst (λ (b : Answer). is_conflict_in b ≡ true) (sym d.does.answer_is) e)))
