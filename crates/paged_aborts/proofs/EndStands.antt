-- A machine behind the end of an abort, and its logs.
use Rattle.std.proofs.Common.{◌≡◌, ◌∙◌, ◌≤◌, ◌<◌, ◌⊎◌, inl, inr, ℕ, suc, Bool, true, false, cond, List, [], ◌∷◌, Result, Ok, Err, IfErr, ap, refl, sym, subst, arith, true≢false, ◌↔◌}
use Rattle.std.proofs.lemmas.Bool.{cases_eq}
use Rattle.map_model.specs.Lists.{Has}
use Rattle.paged_desks.specs.image_model.Entries.{Entry, Kind, is_record}
use Rattle.paged_desks.specs.core_state.Events as happening
use Rattle.paged_desks.specs.core_state.Needs.{may}
use Rattle.paged_desks.specs.core_state.Openings.{Opening}
use Rattle.paged_desks.specs.core_state.States.{State}
use Rattle.paged_desks.specs.core_state.Steps.{end_entry, ends, happens, run, step}
use Rattle.paged_desks.specs.engine_calls.Commits.{unlocks}
use Rattle.lean_disk.specs.Moments.{Framed}
use Rattle.lean_disk.proofs.MomentLemmas.{framed}
use Rattle.lean_disk.specs.Story.{Story}
use Rattle.map_model.specs.declared.call.Refusal.TheVariants as refusal
use Rattle.paged_desks.specs.engine_trait.Serving.{MayRefuse}
use Rattle.paged_desks.specs.engine_trait.declared.unserved.Unanswered.TheVariants as unanswered
use Rattle.paged_desks.specs.engine_trait.declared.unserved.Unserved.{Unserved}
use Rattle.paged_desks.specs.engine_trait.declared.unserved.Unserved.TheVariants as unserved
use Rattle.row_ends.proofs.Misses.{misses_core}
use Rattle.paged_desks.specs.row_words.Openings.{opening}
use Rattle.paged_desks.specs.rows_trait.declared.view.View.{View}
use Rattle.paged_desks.specs.rows_trait.Views.{Shape, state}
use Rattle.row_ends.proofs.CommitLemmas.{core_w, entries_w, flushed_w}
use Rattle.row_ends.proofs.OutcomeLemmas.{next}
use Rattle.row_ends.specs.Outcomes.{HasEnded, IsSpent}
use Rattle.row_ends.specs.declared.ending.Ended as replies
use Rattle.paged_desks.proofs.session_state.Moments.{seen_state}
use Rattle.paged_desks.proofs.session_state.StageLemmas.{staged_flushed}
use Rattle.paged_desks.specs.session_state.Holds.{Holds, IsSameSession}
use Rattle.paged_desks.specs.session_state.Others.{EveryOther, Steps}
use Rattle.paged_desks.specs.session_state.Staging.{KeepsLog}
use Rattle.paged_desks.specs.session_state.declared.session.Session.{Session}
use Rattle.paged_desks.proofs.session_desks.DeskLemmas.{desk_own}
use Rattle.paged_desks.proofs.session_desks.SeatLemmas.{holds_of, turn_high, turn_low}
use Rattle.paged_desks.specs.session_desks.Machines.{AreLogged, IsLogged}
use Rattle.paged_desks.specs.session_desks.Parts.{HasLogs, SeatFits, here, logs, shape}
use Rattle.paged_desks.specs.session_desks.declared.desk.Desk.{Desk}
use Rattle.paged_desks.specs.worker_log.Logs.{Log}
use Rattle.paged_desks.specs.Calls.{EndsWork, IsAside, IsBeside, works_behind}
use Rattle.paged_desks.specs.Machines.{IsReady, view_of}
use Rattle.paged_desks.specs.declared.machine.PagedMachine.{PagedMachine}
use Rattle.paged_desks.proofs.AsideLemmas.{other_desk, own_desk, ready_aside}
use Rattle.paged_desks.proofs.StandLemmas.{IsBusy, logs_is}
use Rattle.paged_aborts.specs.Backs.{EndsAbort}

-- ## The state

busy_then : (r s t : State) → IsBusy r s → IsBusy s t → IsBusy r t
busy_then r s t a b = record { entries = b.entries; row = b.row; worker = b.worker; flushed = b.flushed; is = b.is ∙ ap (λ (k : State). record k { entries = b.entries; row = b.row; worker = b.worker; flushed = b.flushed }) a.is }

pub busy_none : (s : State) → IsBusy s s
busy_none s = record { entries = s.entries; row = s.row; worker = s.worker; flushed = s.flushed; is = refl }

busy_unlock : (g : Opening) (s : State) (own i : ℕ) (b : Bool) → IsBusy s (cond b (happens g s (happening.Event.Unlock own i)) s)
busy_unlock g s own i true = let t = happens g s (happening.Event.Unlock own i) in record { entries = t.entries; row = t.row; worker = t.worker; flushed = t.flushed; is = refl }
busy_unlock g s own i false = busy_none s

busy_unlocks : (g : Opening) (own : ℕ) (rows : List ℕ) (s : State) → IsBusy s (run g s (unlocks own rows))
busy_unlocks g own [] s = busy_none s
busy_unlocks g own (i ∷ rows) s = busy_then s (step g s (happening.Event.Unlock own i)) (run g (step g s (happening.Event.Unlock own i)) (unlocks own rows)) (busy_unlock g s own i (may g s (happening.Event.Unlock own i))) (busy_unlocks g own rows (step g s (happening.Event.Unlock own i)))

busy_ends : (s : State) (own : ℕ) (e : Entry) → IsBusy s (ends s own e)
busy_ends s own e = let t = ends s own e in record { entries = t.entries; row = t.row; worker = t.worker; flushed = t.flushed; is = refl }

module _ (z : Shape) (v u : View) (x : Session) (log mid : Log) (h : Holds z v x log) (opened : x.is_open ≡ true) (reply : replies.Ended) (old new : Story) (e : HasEnded reply false v u x log mid old new) where
  abbrev s : State
  s = (state v).core

  abbrev entry : Entry
  entry = end_entry Kind.Abort x.own (s.worker x.own) e.floor

  core_is : (state u).core ≡ run (opening v.given) (ends s x.own entry) (unlocks x.own e.ended.rows)
  core_is = core_w z v x log h opened (suc x.clock.clock) (next x.clock.clock) false e.floor u e.ended

  pub busy_end : IsBusy s (state u).core
  busy_end = subst (IsBusy s) (sym core_is) (busy_then s (ends s x.own entry) (run (opening v.given) (ends s x.own entry) (unlocks x.own e.ended.rows)) (busy_ends s x.own entry) (busy_unlocks (opening v.given) x.own e.ended.rows (ends s x.own entry)))

  entries_is : (state u).core.entries ≡ entry ∷ s.entries
  entries_is = entries_w z v x log h opened (suc x.clock.clock) (next x.clock.clock) false e.floor u e.ended

  flushed_is : (state u).core.flushed ≡ s.flushed
  flushed_is = flushed_w z v x log h opened (suc x.clock.clock) (next x.clock.clock) false e.floor u e.ended

  number_is : entry.number ≡ mid.last
  number_is = let a = h.session.clock in let b = e.last in omega arith

  -- its own log has the record
  pub own_ended : IsLogged s x.own log → IsLogged (state u).core x.own mid
  own_ended l = record {
    last = λ r has k o. last r (subst (λ (es : List Entry). Has r es) entries_is has) k o;
    ends = λ unflushed. (entry, subst (λ (es : List Entry). Has entry es) (sym entries_is) (inl refl), refl, refl, number_is);
    flushed = ap (λ (f : ℕ → ℕ). f x.own) flushed_is ∙ (l.flushed ∙ sym (staged_flushed _ log mid e.after));
  }
    where
      last : (r : Entry) → Has r (entry ∷ s.entries) → is_record r.kind ≡ true → r.log ≡ x.own → r.number ≤ mid.last
      last r (inl q) k o = let a = ap (λ (k : Entry). k.number) q in let b = number_is in omega arith
      last r (inr has) k o = let a = l.last r has k o in let b = h.numbers.last in let c = e.last in omega arith

  -- another one is as it was
  pub other_ended : (w : ℕ) → (w ≡ x.own → ⊥) → (k : Log) → IsLogged s w k → IsLogged (state u).core w k
  other_ended w other k l = record {
    last = λ r has q o. last r (subst (λ (es : List Entry). Has r es) entries_is has) q o;
    ends = λ unflushed. let y = l.ends unflushed in (y.0, subst (λ (es : List Entry). Has y.0 es) (sym entries_is) (inr y.1), y.2, y.3, y.4);
    flushed = ap (λ (f : ℕ → ℕ). f w) flushed_is ∙ l.flushed;
  }
    where
      last : (r : Entry) → Has r (entry ∷ s.entries) → is_record r.kind ≡ true → r.log ≡ w → r.number ≤ k.last
      last r (inl q) i o = absurd (other (sym o ∙ ap (λ (k : Entry). k.log) q))
      last r (inr has) i o = l.last r has i o

-- ## The machine

module _ {D : Type 0} (story : D → Story) (m n : PagedMachine D) (ready : IsReady story m) (opened : m.machine.work.session.is_open ≡ true) (a : IsAside m n) (same : IsSameSession m.machine.work.session n.machine.work.session) where
  abbrev x : Session
  x = m.machine.work.session

  abbrev own : ℕ
  own = x.own

  held : Holds (shape m.machine) (view_of m) x m.machine.work.log
  held = holds_of (shape m.machine) (view_of m) (here m.machine) m.machine.desks.items ready.sound.desks

  low : 0 < own
  low = turn_low (shape m.machine) (view_of m) (here m.machine) m.machine.desks.items ready.sound.desks

  high : own ≤ x.workers
  high = turn_high (shape m.machine) (view_of m) (here m.machine) m.machine.desks.items ready.sound.desks

  -- each log has its records, where the session's own has, and the others are as they were
  logged_by : IsLogged (state (view_of n)).core own n.machine.work.log → ((k : ℕ) → (k ≡ own → ⊥) → (log : Log) → IsLogged (state (view_of m)).core k log → IsLogged (state (view_of n)).core k log) → HasLogs n.machine
  logged_by mine others k lo hi = go (cases_eq k own)
    where
      hi_too : k ≤ x.workers
      hi_too = subst (λ (q : ℕ). k ≤ q) same.1 hi

      go : (k ≡ own) ⊎ (k ≡ own → ⊥) → IsLogged (state (view_of n)).core k (logs n.machine k)
      go (inl e) = subst (λ (q : ℕ). IsLogged (state (view_of n)).core q (logs n.machine q)) (sym e) (subst (λ (d : Desk). IsLogged (state (view_of n)).core own d.log) (sym (own_desk story m n a same ready)) mine)
      go (inr other) = subst (λ (d : Desk). IsLogged (state (view_of n)).core k d.log) (sym (other_desk story m n a same ready k lo hi_too other)) (others k other (logs m.machine k) (ready.logged k lo hi_too))

  own_log : IsLogged (state (view_of m)).core own m.machine.work.log
  own_log = subst (λ (d : Desk). IsLogged (state (view_of m)).core own d.log) (desk_own (here m.machine) m.machine.desks.items own refl) (ready.logged own low high)

  module _ (law : EveryOther) (steps : Steps own (view_of m) (view_of n)) (fits : SeatFits n.machine) (works : n.machine.work.session.works ≡ true) (holds : Holds (shape n.machine) (view_of n) n.machine.work.session n.machine.work.log) where
    -- it ended
    ended : (reply : replies.Ended) → HasEnded reply false (view_of m) (view_of n) x m.machine.work.log n.machine.work.log (story m.machine.work.disk) (story n.machine.work.disk) → IsReady story n
    ended reply e = ready_aside story m n a same ready law steps.given (busy_end (shape m.machine) (view_of m) (view_of n) x m.machine.work.log n.machine.work.log held opened reply (story m.machine.work.disk) (story n.machine.work.disk) e) steps e.keeps.frame fits works holds
        (logged_by (own_ended (shape m.machine) (view_of m) (view_of n) x m.machine.work.log n.machine.work.log held opened reply (story m.machine.work.disk) (story n.machine.work.disk) e own_log)
        (other_ended (shape m.machine) (view_of m) (view_of n) x m.machine.work.log n.machine.work.log held opened reply (story m.machine.work.disk) (story n.machine.work.disk) e))

    -- a latch was spent
    spent : IsSpent (view_of m) (view_of n) x n.machine.work.session m.machine.work.log n.machine.work.log m.machine.work.disk n.machine.work.disk → IsReady story n
    spent k = ready_aside story m n a same ready law k.missed.given (subst (IsBusy (state (view_of m)).core) (sym core) (busy_none (state (view_of m)).core)) steps
        (subst (λ (d : D). Framed (suc own) (story m.machine.work.disk) (story d)) (sym k.disk) (framed (suc own) (story m.machine.work.disk))) fits works holds
        (subst (λ (q : State × (ℕ → Log) × ℕ). AreLogged q.0 q.1 q.2) (λ i. (sym core i, sym (logs_is story m n b same.0) i, sym same.1 i)) ready.logged)
      where
        core : (state (view_of n)).core ≡ (state (view_of m)).core
        core = ap (λ q. q.core) (seen_state (view_of m) (view_of n) k.missed.misses k.missed.given k.missed.seen) ∙ misses_core (view_of m).given (state (view_of m)) k.missed.misses k.missed.are_misses

        b : IsBeside m n
        b = record { shape = a.shape; disk = k.disk; log = k.log; desks = a.desks; latches = a.latches; master = a.master; pager = a.pager }

    pub end_ready : (r : Result replies.Ended Unserved) → EndsAbort story r m n → works_behind r ≡ true → IsReady story n
    end_ready (Ok told) c on = ended told c.0
    end_ready (Err (unserved.Refused refusal.RowSpent)) c on = spent c
    end_ready (Err (unserved.Unanswered unanswered.DiskFault)) c on = absurd (true≢false (sym on))
    end_ready (Err _) c on = absurd c

-- ## What is told

fault_is : ◌≡◌ {A = Result replies.Ended Unserved} (Err (unserved.Refused refusal.RowSpent)) (Err (unserved.Unanswered unanswered.DiskFault)) → ⊥
fault_is e = absurd (cc)

ok_err : (told : replies.Ended) → Ok told ≡ Err (unserved.Unanswered unanswered.DiskFault) → ⊥
ok_err told e = absurd (cc)

pub end_works : {D : Type 0} (story : D → Story) (m n : PagedMachine D) (r : Result replies.Ended Unserved) → EndsAbort story r m n → (n.machine.work.session.works ≡ true) ↔ (r ≡ Err (unserved.Unanswered unanswered.DiskFault) → ⊥) → n.machine.work.session.works ≡ works_behind r
end_works story m n (Ok told) c w = w.1 (ok_err told)
end_works story m n (Err (unserved.Refused refusal.RowSpent)) c w = w.1 fault_is
end_works story m n (Err (unserved.Unanswered unanswered.DiskFault)) c w = go n.machine.work.session.works refl
  where
    go : (b : Bool) → n.machine.work.session.works ≡ b → n.machine.work.session.works ≡ false
    go true e = absurd (w.0 e refl)
    go false e = e
end_works story m n (Err _) c w = absurd c

pub end_comes : {D : Type 0} (story : D → Story) (m n : PagedMachine D) (r : Result replies.Ended Unserved) → EndsAbort story r m n → IfErr r (λ why. MayRefuse 1 why ⊎ EndsWork why)
end_comes story m n (Ok told) c = tt
end_comes story m n (Err (unserved.Refused refusal.RowSpent)) c = inl tt
end_comes story m n (Err (unserved.Unanswered unanswered.DiskFault)) c = inr refl
end_comes story m n (Err _) c = absurd c

pub end_not_broken : {D : Type 0} (story : D → Story) (m n : PagedMachine D) (r : Result replies.Ended Unserved) → EndsAbort story r m n → r ≡ Err (unserved.Unanswered unanswered.Broken) → ⊥
end_not_broken story m n (Ok told) c e = absurd (cc)
end_not_broken story m n (Err (unserved.Refused refusal.RowSpent)) c e = absurd (cc)
end_not_broken story m n (Err (unserved.Unanswered unanswered.DiskFault)) c e = absurd (cc)
end_not_broken story m n (Err _) c e = absurd c

-- what a fault leaves of its log
pub end_keeps : {D : Type 0} (story : D → Story) (m n : PagedMachine D) (r : Result replies.Ended Unserved) → EndsAbort story r m n → r ≡ Err (unserved.Unanswered unanswered.DiskFault) → KeepsLog m.machine.work.session.own m.machine.work.log (story m.machine.work.disk) (story n.machine.work.disk)
end_keeps story m n (Ok told) c e = absurd (cc)
end_keeps story m n (Err (unserved.Refused refusal.RowSpent)) c e = absurd (cc)
end_keeps story m n (Err (unserved.Unanswered unanswered.DiskFault)) c e = c
end_keeps story m n (Err _) c e = absurd c
