-- What a call did behind a turn, it did before it.
use Rattle.std.proofs.Common.{◌≡◌, ◌≤◌, ◌<◌, ◌++◌, ℕ, Bool, List, Some, slice_get, refl, sym, ap, ◌∙◌, subst, arith, Result, Err}
use Rattle.map_model.specs.declared.call.Answer.{Answer}
use Rattle.map_model.specs.declared.call.Call.{Call}
use Rattle.map_model.specs.declared.call.Call.TheVariants as call
use Rattle.paged_scans.specs.engine_trait.declared.unserved.Unanswered.TheVariants as unanswered
use Rattle.paged_scans.specs.core_state.Openings.{Opening}
use Rattle.paged_scans.specs.core_state.Steps.{state_after}
use Rattle.paged_scans.specs.core_calls.Deeds.{asked}
use Rattle.paged_scans.specs.core_calls.Fronts.{Done, front, outcomes}
use Rattle.paged_scans.specs.core_calls.Steps.{call_behind}
use Rattle.paged_scans.specs.disk_runs.Masters.{IsNoEarlier}
use Rattle.paged_scans.specs.disk_runs.Stands.{Known}
use Rattle.paged_scans.specs.disk_slots.declared.master.Master.{Master}
use Rattle.lean_disk.specs.Faults.{HasCause}
use Rattle.lean_disk.specs.Story.{Story}
use Rattle.paged_scans.specs.page_calls.declared.slots.Slot.{Slot}
use Rattle.paged_scans.specs.page_provider.Providers.{Provider}
use Rattle.paged_scans.specs.call_parts.Deeds.{Answers, Does, Fails, Happens}
use Rattle.paged_scans.specs.call_parts.Memory.{IsOf, IsSame, Memory}
use Rattle.paged_scans.specs.engine_trait.Calls.{IsAsked, is_half_done}
use Rattle.paged_scans.specs.engine_trait.Logs.{Logs}
use Rattle.paged_scans.specs.engine_trait.Refusals.{IsRefusedFor, refusal_in}
use Rattle.engine_front.specs.Stops.{StandsNot}
use Rattle.paged_scans.specs.row_words.Openings.{opening}
use Rattle.paged_scans.specs.rows_trait.declared.view.View.{View}
use Rattle.paged_scans.specs.rows_trait.Views.{state}
use Rattle.paged_scans.specs.worker_log.Logs.{Log}
use Rattle.paged_scans.specs.session_desks.Machines.{IsLogged}
use Rattle.paged_scans.proofs.session_desks.SeatLemmas.{holds_of}
use Rattle.paged_scans.specs.session_state.Holds.{Holds}
use Rattle.paged_scans.specs.session_desks.Parts.{IsSound, Works, here, shape}
use Rattle.paged_scans.specs.session_desks.Syncs.{HasOpening}
use Rattle.paged_scans.specs.session_state.declared.session.Session.{Session}
use Rattle.paged_scans.specs.paged_desks.Calls.{AreHalf, CallDoes, DoesTied, OnLine, Tied}
use Rattle.paged_scans.specs.paged_desks.Machines.{IsNobodyInside, IsReady, memory, view_of}
use Rattle.paged_scans.specs.paged_desks.declared.machine.PagedMachine.{PagedMachine}
use Rattle.paged_scans.specs.paged_rows.Paged.{IsFedIfFaithful, paged}
use Rattle.paged_scans.proofs.paged_desks.Moments.{IsFlushed, flushed_none}
use Rattle.paged_scans.proofs.paged_desks.Syncing.{keeps_on}
use Rattle.buffered_engine.specs.Calls.{MayBe}
use Rattle.buffered_engine.specs.Inside.Asks.{IsEndOf, OnAsked}
use Rattle.buffered_engine.specs.Inside.Parts.{IsTurned, MachineWent}
use Rattle.buffered_engine.specs.declared.ends.Response.{Response}
use Rattle.buffered_engine.proofs.CallLemmas.{comes_as}
use Rattle.paged_scans.specs.engine_trait.declared.unserved.Unanswered.{Unanswered}

-- ## Memory that is the same for each session

module _ (g : Opening) (was mid : Memory) (same : IsSame g.workers was mid) where
  known_of : (k : Known) → IsOf g was k → IsOf g mid k
  known_of k i = record {
    log = λ w low high. i.log w low high ∙ sym (same.log w low high);
    master = i.master ∙ sym same.master;
    slots = λ p s e. i.slots p s (ap (λ (ss : List Slot). slice_get ss p) (sym same.slots) ∙ e);
  }

  answers_of : (xs : List Done) (x : Done) (old now : Log) → now ≡ old → Answers g xs x now → Answers g xs x old
  answers_of xs x old now e h = record {
    few = h.few;
    refused = λ why q. subst (λ (l : Log). IsRefusedFor g (state_after g (front xs ++ x.events)) x.outcome.session (is_half_done x.outcome.session xs) l (call_behind (outcomes xs) (asked x.outcome.deed)) why) e (h.refused why q);
    kept = h.kept;
    refuses = λ why sure r. h.refuses why sure (subst (λ (l : Log). refusal_in g (state_after g (front xs)) x.outcome.session (is_half_done x.outcome.session xs) l (call_behind (outcomes xs) (asked x.outcome.deed)) ≡ Some why) (sym e) r);
    still = λ why r. h.still why (subst (λ (l : Log). refusal_in g (state_after g (front xs)) x.outcome.session (is_half_done x.outcome.session xs) l (call_behind (outcomes xs) (asked x.outcome.deed)) ≡ Some why) (sym e) r);
    stays = λ why sure r. h.stays why sure (subst (λ (l : Log). refusal_in g (state_after g (front xs)) x.outcome.session (is_half_done x.outcome.session xs) l (call_behind (outcomes xs) (asked x.outcome.deed)) ≡ Some why) (sym e) r);
    room = h.room;
  }

  abbrev happens_of : (group : ℕ) (xs : List Done) (x : Done) (is : Memory) → 0 < x.outcome.session → x.outcome.session ≤ g.workers → Happens g group xs x mid is → Happens g group xs x was is
  happens_of group xs x is low high h = record {
    tells = h.tells;
    how = answers_of xs x (was.log x.outcome.session) (mid.log x.outcome.session) (same.log x.outcome.session low high) h.how;
    logs = λ w p q. subst (λ (l : Log). Logs w g (state_after g (front xs)) x.events l (is.log w)) (same.log w p q) (h.logs w p q);
    master = λ n. h.master n ∙ same.master;
    no_earlier = subst (λ (m : Master). IsNoEarlier x.events m is.master) same.master h.no_earlier;
  }

  abbrev does_of : (group : ℕ) (xs : List Done) (own : ℕ) (c : Call) (a : Answer) (is : Memory) (old new : Story) → 0 < own → own ≤ g.workers → Does g group xs own c a mid is old new → Does g group xs own c a was is old new
  does_of group xs own c a is old new low high h = record {
    done = h.done;
    session = h.session;
    asked_is = h.asked_is;
    answer_is = h.answer_is;
    happens = happens_of group xs h.done is (subst (λ (w : ℕ). 0 < w) (sym h.session) low) (subst (λ (w : ℕ). w ≤ g.workers) (sym h.session) high) h.happens;
    frame = h.frame;
    keeps = λ s0 k b i. h.keeps s0 k b (known_of k i);
  }

  fails_of : (group : ℕ) (xs : List Done) (own : ℕ) (c : Call) (old new : Story) → Fails g group xs own c mid old new → Fails g group xs own c was old new
  fails_of group xs own c old new h = record { frame = h.frame; leaves = λ s0 k b i. h.leaves s0 k b (known_of k i) }

  stands_not : (group : ℕ) (xs : List Done) (old : Story) → StandsNot g group xs mid old → StandsNot g group xs was old
  stands_not group xs old h s0 k b i = h s0 k b (known_of k i)

-- ## A turn

module _ {D : Type 0} (story : D → Story) (session : ℕ) (m n : PagedMachine D) (t : IsTurned session m n) where
  abbrev many : ℕ
  many = m.machine.work.session.workers

  same_memory : (g : Opening) → g.workers ≡ many → IsSame g.workers (memory m) (memory n)
  same_memory g e = record {
    log = λ w low high. t.turned.log_of w low (subst (λ (k : ℕ). w ≤ k) e high);
    master = t.master;
    slots = ap (λ (k : Provider). k.slots) t.pager;
  }

  tied_turned : (g : Opening) (xs : List Done) → g.workers ≡ many → Tied g m.machine.work.session.group xs (view_of m) (memory m) → Tied g n.machine.work.session.group xs (view_of n) (memory n)
  tied_turned g xs e h = subst (λ (q : ℕ × View). Tied g q.0 xs q.1 (memory n)) (λ i. (sym t.group i, sym t.view i)) (record {
    ties = h.ties;
    begun = h.begun;
    logged = λ w low high. subst (λ (l : Log). IsLogged (state_after g (front xs)) w l) (sym (t.turned.log_of w low (subst (λ (k : ℕ). w ≤ k) e high))) (h.logged w low high);
  })

  half_turned : (g : Opening) (xs : List Done) → g.workers ≡ many → AreHalf g.workers xs m.machine → AreHalf g.workers xs n.machine
  half_turned g xs e h w low high = h w low high ∙ sym (ap (λ (x : Session). x.is_half_aborted) (t.turned.session_of w low (subst (λ (k : ℕ). w ≤ k) e high)))

  module _ (low : 0 < session) (high : session ≤ many) (To : Opening → List Done → Type 0) (May : ℕ → Opening → List Done → Type 0) (to : (g : Opening) (xs : List Done) → To g xs → May session g xs) (c : Call) where
    call_turned : (r : Result Answer Unanswered) (k : PagedMachine D) → CallDoes story (May n.machine.work.session.own) n.machine.work.session.own c r n k → CallDoes story To session c r m k
    call_turned r k h g xs same tied half may =
        comes_as r
        (λ a. DoesTied g n.machine.work.session.group xs n.machine.work.session.own c a (memory n) k (story n.machine.work.disk) (story k.machine.work.disk)) (λ a. DoesTied g m.machine.work.session.group xs session c a (memory m) k (story m.machine.work.disk) (story k.machine.work.disk))
        (Fails g n.machine.work.session.group xs n.machine.work.session.own c (memory n) (story n.machine.work.disk) (story k.machine.work.disk)) (Fails g m.machine.work.session.group xs session c (memory m) (story m.machine.work.disk) (story k.machine.work.disk))
        (StandsNot g n.machine.work.session.group xs (memory n) (story n.machine.work.disk)) (StandsNot g m.machine.work.session.group xs (memory m) (story m.machine.work.disk))
        does fails never
        (h g xs (same ∙ sym t.turned.workers) (tied_turned g xs same tied) (half_turned g xs same half) (subst (λ (w : ℕ). May w g xs) (sym t.turned.own) (to g xs may)))
      where
        does : (a : Answer) → DoesTied g n.machine.work.session.group xs n.machine.work.session.own c a (memory n) k (story n.machine.work.disk) (story k.machine.work.disk) → DoesTied g m.machine.work.session.group xs session c a (memory m) k (story m.machine.work.disk) (story k.machine.work.disk)
        does a x = go (subst (λ (q : ℕ × (ℕ × D)). DoesTied g q.0 xs q.1.0 c a (memory n) k (story q.1.1) (story k.machine.work.disk)) (λ i. (t.group i, (t.turned.own i, t.disk i))) x)
          where
            go : DoesTied g m.machine.work.session.group xs session c a (memory n) k (story m.machine.work.disk) (story k.machine.work.disk) → DoesTied g m.machine.work.session.group xs session c a (memory m) k (story m.machine.work.disk) (story k.machine.work.disk)
            go d = record {
              does = does_of g (memory m) (memory n) (same_memory g same) m.machine.work.session.group xs session c a (memory k) (story m.machine.work.disk) (story k.machine.work.disk) low (subst (λ (w : ℕ). session ≤ w) (sym same) high) d.does;
              tied = d.tied;
              is_half_aborted = d.is_half_aborted;
            }

        fails : Fails g n.machine.work.session.group xs n.machine.work.session.own c (memory n) (story n.machine.work.disk) (story k.machine.work.disk) → Fails g m.machine.work.session.group xs session c (memory m) (story m.machine.work.disk) (story k.machine.work.disk)
        fails x = fails_of g (memory m) (memory n) (same_memory g same) m.machine.work.session.group xs session c (story m.machine.work.disk) (story k.machine.work.disk)
            (subst (λ (q : ℕ × (ℕ × D)). Fails g q.0 xs q.1.0 c (memory n) (story q.1.1) (story k.machine.work.disk)) (λ i. (t.group i, (t.turned.own i, t.disk i))) x)

        never : StandsNot g n.machine.work.session.group xs (memory n) (story n.machine.work.disk) → StandsNot g m.machine.work.session.group xs (memory m) (story m.machine.work.disk)
        never x = stands_not g (memory m) (memory n) (same_memory g same) m.machine.work.session.group xs (story m.machine.work.disk)
            (subst (λ (q : ℕ × D). StandsNot g q.0 xs (memory n) (story q.1)) (λ i. (t.group i, t.disk i)) x)

    -- so it went for whoever asked it
    pub went_turned : (faults : D → ℕ) (few some : ℕ) (r : Response) (k : PagedMachine D) → (MayBe few r.answer → MayBe some r.answer)
        → MachineWent story faults (May n.machine.work.session.own) few n.machine.work.session.own c r n k → MachineWent story faults To some session c r m k
    went_turned faults few some r k told w = record {
      does = call_turned r.answer k w.does;
      to = w.to;
      may = told w.may;
      ends = subst (λ (q : ℕ × View). IsEndOf q.0 q.1 (view_of k) r.answer r.receipt) (λ i. (t.turned.own i, t.view i)) w.ends;
      ready = w.ready;
      fits = w.fits;
      session = (w.session.0 ∙ t.turned.workers, w.session.1 ∙ t.group);
      works = w.works;
      not_broken = w.not_broken;
      cause_disk_fault = subst (λ (d : D). HasCause (faults d) (faults k.machine.work.disk) (r.answer ≡ Err unanswered.DiskFault)) t.disk w.cause_disk_fault;
    }

  -- the machine is as between two calls still
  pub ready_turned : IsSound n.machine → Works n.machine → IsReady story m → IsReady story n
  ready_turned sound works r = subst (λ (k : Provider). IsReady story (record { machine = n.machine; pager = k })) (sym t.pager) (record {
    sound = sound;
    works = works;
    logged = λ w low high. subst (λ (v : View). IsLogged (state v).core w ((memory n).log w)) (sym t.view)
        (let h = subst (λ (k : ℕ). w ≤ k) t.turned.workers high in subst (λ (l : Log). IsLogged (state (view_of m)).core w l) (sym (t.turned.log_of w low h)) (r.logged w low h));
    opens = subst (λ (v : View). HasOpening v.given) (sym t.view) r.opens;
    keeps = keeps_on (shape m.machine) (shape n.machine) (view_of m) (view_of n) m.pager refl given
        (let b = (holds n sound).rows.tree in let x = b.shape in let y = b.given in let z = ap (λ (v : View). (opening v.given).frames) t.view in let e = r.keeps.sized.given in omega arith)
        (let b = (holds n sound).rows in let x = b.sized in let y = b.workers in let z = ap (λ (v : View). (opening v.given).workers) t.view in let e = r.keeps.workers.1 in omega arith)
        still r.keeps;
    well = r.well;
    fed = subst (λ (q : View × D). IsFedIfFaithful (paged (shape n.machine) q.0 m.pager) (story q.1)) (λ i. (sym t.view i, sym t.disk i)) fed;
    slots = record { slots = refl; generation = ap (λ (x : Master). x.generation) t.master ∙ r.slots.generation; count = r.slots.count ∙ sym (ap (λ (x : Master). x.pages) t.master) };
    frames = r.frames;
    few = r.few;
    outside = subst (λ (v : View). IsNobodyInside (state v).core) (sym t.view) r.outside;
  })
    where
      given : (view_of n).given ≡ (view_of m).given
      given = ap (λ (v : View). v.given) t.view

      holds : (k : PagedMachine D) (s : IsSound k.machine) → Holds (shape k.machine) (view_of k) k.machine.work.session k.machine.work.log
      holds k s = holds_of (shape k.machine) (view_of k) (here k.machine) k.machine.desks.items s.desks

      still : IsFlushed (state (view_of m)).core (state (view_of n)).core
      still = subst (λ (v : View). IsFlushed (state (view_of m)).core (state v).core) (sym t.view) (flushed_none (state (view_of m)).core)

      fed : IsFedIfFaithful (paged (shape n.machine) (view_of m) m.pager) (story m.machine.work.disk)
      fed faithful = let f = r.fed faithful in record { tells = f.tells; mirrored = f.mirrored }

-- ## What the session that has the turn did

-- each call comes on a new line
pub on_line : (own : ℕ) (c : Call) (is_long : Bool) (g : Opening) (xs : List Done) → OnAsked own c is_long g xs → OnLine g xs
on_line own call.Begin is_long g xs h = h.0
on_line own c is_long g xs h = h

-- all but a sync are of a session
pub asker : (sessions own : ℕ) (c : Call) → (c ≡ call.Sync → ⊥) → IsAsked sessions own c → (0 < own) × (own ≤ sessions)
asker sessions own call.Sync n i = absurd (n refl)
asker sessions own c n i = (i.0, i.1)
