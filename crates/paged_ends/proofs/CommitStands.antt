-- A machine behind a commit, and its logs.
use Rattle.std.proofs.Common.{◌≡◌, ◌∙◌, ◌≤◌, ◌<◌, ◌⊎◌, inl, inr, ℕ, suc, Bool, true, false, cond, List, [], ◌∷◌, ap, refl, sym, subst, arith}
use Rattle.std.proofs.lemmas.Bool.{cases_eq}
use Rattle.map_model.proofs.ListLemmas.{upd_other, upd_same}
use Rattle.map_model.specs.Lists.{Has}
use Rattle.paged_desks.specs.image_model.Entries.{Entry, Kind, is_record}
use Rattle.paged_desks.specs.core_state.Events as happening
use Rattle.paged_desks.specs.core_state.Needs.{may}
use Rattle.paged_desks.specs.core_state.Openings.{Opening}
use Rattle.paged_desks.specs.core_state.States.{State}
use Rattle.paged_desks.specs.core_state.Steps.{end_entry, ends, happens, run, step}
use Rattle.paged_desks.specs.engine_calls.Commits.{unlocks}
use Rattle.lean_disk.specs.Moments.{Framed}
use Rattle.lean_disk.specs.Story.{Story}
use Rattle.paged_desks.specs.row_words.declared.event.Event.TheVariants as told
use Rattle.paged_desks.specs.row_words.Openings.{opening}
use Rattle.paged_desks.specs.rows_trait.declared.view.View.{View}
use Rattle.paged_desks.specs.rows_trait.Views.{Shape, state}
use Rattle.row_ends.proofs.CommitLemmas.{core_w, entries_w, flushed_w}
use Rattle.row_ends.proofs.OutcomeLemmas.{next}
use Rattle.row_ends.specs.Ends.{HasFlushed, waiting_session}
use Rattle.row_ends.specs.Outcomes.{HasCommitted, HasEnded, IsGrouped}
use Rattle.row_ends.specs.declared.ending.Ended as replies
use Rattle.paged_desks.proofs.session_state.Frames.{framed_then}
use Rattle.paged_desks.proofs.session_state.Moments.{met_core, seen_state}
use Rattle.paged_desks.proofs.session_state.StageLemmas.{staged_flushed}
use Rattle.paged_desks.specs.session_state.Holds.{Holds, IsSameSession}
use Rattle.paged_desks.specs.session_state.Others.{EveryOther, Steps}
use Rattle.paged_desks.specs.session_state.declared.session.Session.{Session}
use Rattle.paged_desks.proofs.session_desks.DeskLemmas.{desk_own}
use Rattle.paged_desks.proofs.session_desks.SeatLemmas.{holds_of, turn_high, turn_low}
use Rattle.paged_desks.specs.session_desks.Machines.{IsLogged}
use Rattle.paged_desks.specs.session_desks.Parts.{HasLogs, SeatFits, here, logs, shape}
use Rattle.paged_desks.specs.session_desks.declared.desk.Desk.{Desk}
use Rattle.paged_desks.specs.worker_log.Logs.{Log}
use Rattle.paged_desks.specs.Calls.{IsAside}
use Rattle.paged_desks.specs.Machines.{IsReady, view_of}
use Rattle.paged_desks.specs.declared.machine.PagedMachine.{PagedMachine}
use Rattle.paged_desks.proofs.AsideLemmas.{other_desk, own_desk, ready_aside}
use Rattle.paged_desks.proofs.StandLemmas.{IsBusy}

-- ## The state

busy_then : (r s t : State) → IsBusy r s → IsBusy s t → IsBusy r t
busy_then r s t a b = record { entries = b.entries; row = b.row; worker = b.worker; flushed = b.flushed; is = b.is ∙ ap (λ (k : State). record k { entries = b.entries; row = b.row; worker = b.worker; flushed = b.flushed }) a.is }

pub busy_none : (s : State) → IsBusy s s
busy_none s = record { entries = s.entries; row = s.row; worker = s.worker; flushed = s.flushed; is = refl }

busy_unlock : (g : Opening) (s : State) (own i : ℕ) (b : Bool) → IsBusy s (cond b (happens g s (happening.Event.Unlock own i)) s)
busy_unlock g s own i true = let t = happens g s (happening.Event.Unlock own i) in record { entries = t.entries; row = t.row; worker = t.worker; flushed = t.flushed; is = refl }
busy_unlock g s own i false = busy_none s

busy_unlocks : (g : Opening) (own : ℕ) (rows : List ℕ) (s : State) → IsBusy s (run g s (unlocks own rows))
busy_unlocks g own [] s = busy_none s
busy_unlocks g own (i ∷ rows) s = busy_then s (step g s (happening.Event.Unlock own i)) (run g (step g s (happening.Event.Unlock own i)) (unlocks own rows)) (busy_unlock g s own i (may g s (happening.Event.Unlock own i))) (busy_unlocks g own rows (step g s (happening.Event.Unlock own i)))

busy_ends : (s : State) (own : ℕ) (e : Entry) → IsBusy s (ends s own e)
busy_ends s own e = let t = ends s own e in record { entries = t.entries; row = t.row; worker = t.worker; flushed = t.flushed; is = refl }

module _ (z : Shape) (v u : View) (x : Session) (log mid : Log) (h : Holds z v x log) (opened : x.is_open ≡ true) (reply : replies.Ended) (old new : Story) (e : HasEnded reply true v u x log mid old new) where
  abbrev s : State
  s = (state v).core

  abbrev entry : Entry
  entry = end_entry Kind.Commit x.own (s.worker x.own) e.floor

  core_is : (state u).core ≡ run (opening v.given) (ends s x.own entry) (unlocks x.own e.ended.rows)
  core_is = core_w z v x log h opened (suc x.clock.clock) (next x.clock.clock) true e.floor u e.ended

  pub busy_end : IsBusy s (state u).core
  busy_end = subst (IsBusy s) (sym core_is) (busy_then s (ends s x.own entry) (run (opening v.given) (ends s x.own entry) (unlocks x.own e.ended.rows)) (busy_ends s x.own entry) (busy_unlocks (opening v.given) x.own e.ended.rows (ends s x.own entry)))

  entries_is : (state u).core.entries ≡ entry ∷ s.entries
  entries_is = entries_w z v x log h opened (suc x.clock.clock) (next x.clock.clock) true e.floor u e.ended

  flushed_is : (state u).core.flushed ≡ s.flushed
  flushed_is = flushed_w z v x log h opened (suc x.clock.clock) (next x.clock.clock) true e.floor u e.ended

  number_is : entry.number ≡ mid.last
  number_is = let a = h.session.clock in let b = e.last in omega arith

  -- its own log has the record
  pub own_ended : IsLogged s x.own log → IsLogged (state u).core x.own mid
  own_ended l = record {
    last = λ r has k o. last r (subst (λ (es : List Entry). Has r es) entries_is has) k o;
    ends = λ unflushed. (entry, subst (λ (es : List Entry). Has entry es) (sym entries_is) (inl refl), refl, refl, number_is);
    flushed = ap (λ (f : ℕ → ℕ). f x.own) flushed_is ∙ (l.flushed ∙ sym (staged_flushed _ log mid e.after));
  }
    where
      last : (r : Entry) → Has r (entry ∷ s.entries) → is_record r.kind ≡ true → r.log ≡ x.own → r.number ≤ mid.last
      last r (inl q) k o = let a = ap (λ (k : Entry). k.number) q in let b = number_is in omega arith
      last r (inr has) k o = let a = l.last r has k o in let b = h.numbers.last in let c = e.last in omega arith

  -- another one is as it was
  pub other_ended : (w : ℕ) → (w ≡ x.own → ⊥) → (k : Log) → IsLogged s w k → IsLogged (state u).core w k
  other_ended w other k l = record {
    last = λ r has q o. last r (subst (λ (es : List Entry). Has r es) entries_is has) q o;
    ends = λ unflushed. let y = l.ends unflushed in (y.0, subst (λ (es : List Entry). Has y.0 es) (sym entries_is) (inr y.1), y.2, y.3, y.4);
    flushed = ap (λ (f : ℕ → ℕ). f w) flushed_is ∙ l.flushed;
  }
    where
      last : (r : Entry) → Has r (entry ∷ s.entries) → is_record r.kind ≡ true → r.log ≡ w → r.number ≤ k.last
      last r (inl q) i o = absurd (other (sym o ∙ ap (λ (k : Entry). k.log) q))
      last r (inr has) i o = l.last r has i o

-- ## The flush

module _ (u w : View) (x y : Session) (mid is : Log) (old new : Story) (f : HasFlushed u w x y mid is old new) where
  core_flushed : (state w).core ≡ happens (opening u.given) (state u).core (happening.Event.Flush x.own x.clock.clock)
  core_flushed = ap (λ m. m.core) (seen_state u w (told.Flush x.own x.clock.clock ∷ []) f.given f.seen) ∙ met_core u.given (state u) (told.Flush x.own x.clock.clock) f.met

  pub busy_flush : IsBusy (state u).core (state w).core
  busy_flush = let t = happens (opening u.given) (state u).core (happening.Event.Flush x.own x.clock.clock) in record { entries = t.entries; row = t.row; worker = t.worker; flushed = t.flushed; is = core_flushed }

  pub own_flushed : mid.last ≡ x.clock.clock → IsLogged (state u).core x.own mid → IsLogged (state w).core x.own is
  own_flushed at l = record {
    last = λ r has k o. (let a = l.last r (subst (λ (q : State). Has r q.entries) core_flushed has) k o in let b = ap (λ (q : Log). q.last) f.after in omega arith);
    ends = λ unflushed. absurd (unflushed (ap (λ (q : Log). q.last) f.after ∙ sym (ap (λ (q : Log). q.flushed) f.after)));
    flushed = ap (λ (q : State). q.flushed x.own) core_flushed ∙ (upd_same (state u).core.flushed x.own x.clock.clock x.own refl ∙ (sym at ∙ sym (ap (λ (q : Log). q.flushed) f.after)));
  }

  pub other_flushed : (k : ℕ) → (k ≡ x.own → ⊥) → (log : Log) → IsLogged (state u).core k log → IsLogged (state w).core k log
  other_flushed k other log l = record {
    last = λ r has q o. l.last r (subst (λ (q : State). Has r q.entries) core_flushed has) q o;
    ends = λ unflushed. let y = l.ends unflushed in (y.0, subst (λ (q : State). Has y.0 q.entries) (sym core_flushed) y.1, y.2, y.3, y.4);
    flushed = ap (λ (q : State). q.flushed k) core_flushed ∙ (upd_other (state u).core.flushed x.own x.clock.clock k other ∙ l.flushed);
  }

-- ## The machine

module _ {D : Type 0} (story : D → Story) (m n : PagedMachine D) (ready : IsReady story m) (opened : m.machine.work.session.is_open ≡ true) (a : IsAside m n) (same : IsSameSession m.machine.work.session n.machine.work.session) where
  abbrev x : Session
  x = m.machine.work.session

  abbrev own : ℕ
  own = x.own

  held : Holds (shape m.machine) (view_of m) x m.machine.work.log
  held = holds_of (shape m.machine) (view_of m) (here m.machine) m.machine.desks.items ready.sound.desks

  low : 0 < own
  low = turn_low (shape m.machine) (view_of m) (here m.machine) m.machine.desks.items ready.sound.desks

  high : own ≤ x.workers
  high = turn_high (shape m.machine) (view_of m) (here m.machine) m.machine.desks.items ready.sound.desks

  -- each log has its records, where the session's own has, and the others are as they were
  logged_by : IsLogged (state (view_of n)).core own n.machine.work.log → ((k : ℕ) → (k ≡ own → ⊥) → (log : Log) → IsLogged (state (view_of m)).core k log → IsLogged (state (view_of n)).core k log) → HasLogs n.machine
  logged_by mine others k lo hi = go (cases_eq k own)
    where
      hi_too : k ≤ x.workers
      hi_too = subst (λ (q : ℕ). k ≤ q) same.1 hi

      go : (k ≡ own) ⊎ (k ≡ own → ⊥) → IsLogged (state (view_of n)).core k (logs n.machine k)
      go (inl e) = subst (λ (q : ℕ). IsLogged (state (view_of n)).core q (logs n.machine q)) (sym e) (subst (λ (d : Desk). IsLogged (state (view_of n)).core own d.log) (sym (own_desk story m n a same ready)) mine)
      go (inr other) = subst (λ (d : Desk). IsLogged (state (view_of n)).core k d.log) (sym (other_desk story m n a same ready k lo hi_too other)) (others k other (logs m.machine k) (ready.logged k lo hi_too))

  own_log : IsLogged (state (view_of m)).core own m.machine.work.log
  own_log = subst (λ (d : Desk). IsLogged (state (view_of m)).core own d.log) (desk_own (here m.machine) m.machine.desks.items own refl) (ready.logged own low high)

  module _ (law : EveryOther) (reply : replies.Ended) (c : HasCommitted story reply (view_of m) (view_of n) x n.machine.work.session m.machine.work.log n.machine.work.log m.machine.work.disk n.machine.work.disk) (steps : Steps own (view_of m) (view_of n)) (fits : SeatFits n.machine)
      (works : n.machine.work.session.works ≡ true) (holds : Holds (shape n.machine) (view_of n) n.machine.work.session n.machine.work.log) where
    busy : IsBusy (state (view_of m)).core (state c.view).core
    busy = busy_end (shape m.machine) (view_of m) c.view x m.machine.work.log c.log held opened reply (story m.machine.work.disk) (story c.disk) c.ended

    mine : IsLogged (state c.view).core own c.log
    mine = own_ended (shape m.machine) (view_of m) c.view x m.machine.work.log c.log held opened reply (story m.machine.work.disk) (story c.disk) c.ended own_log

    others : (k : ℕ) → (k ≡ own → ⊥) → (log : Log) → IsLogged (state (view_of m)).core k log → IsLogged (state c.view).core k log
    others = other_ended (shape m.machine) (view_of m) c.view x m.machine.work.log c.log held opened reply (story m.machine.work.disk) (story c.disk) c.ended

    abbrev t : Session
    t = waiting_session x (suc x.clock.clock) (suc x.unflushed)

    given : (view_of n).given ≡ (view_of m).given
    given = steps.given

    by : IsGrouped story c.view (view_of n) x n.machine.work.session c.log n.machine.work.log c.disk n.machine.work.disk → IsReady story n
    by (IsGrouped.Waits few view session log disk) = ready_aside story m n a same ready law given (subst (λ (w : View). IsBusy (state (view_of m)).core (state w).core) (sym view) busy) steps
        (subst (λ (d : D). Framed (suc own) (story m.machine.work.disk) (story d)) (sym disk) c.ended.keeps.frame) fits works holds
        (logged_by (subst (λ (q : View × Log). IsLogged (state q.0).core own q.1) (λ i. (sym view i, sym log i)) mine) (subst (λ (w : View). (k : ℕ) → (k ≡ own → ⊥) → (log : Log) → IsLogged (state (view_of m)).core k log → IsLogged (state w).core k log) (sym view) others))
    by (IsGrouped.Flushed full f keeps) = ready_aside story m n a same ready law given (busy_then (state (view_of m)).core (state c.view).core (state (view_of n)).core busy (busy_flush c.view (view_of n) t n.machine.work.session c.log n.machine.work.log (story c.disk) (story n.machine.work.disk) f)) steps
        (framed_then (suc own) (story m.machine.work.disk) (story c.disk) (story n.machine.work.disk) c.ended.keeps.frame keeps.frame) fits works holds
        (logged_by (own_flushed c.view (view_of n) t n.machine.work.session c.log n.machine.work.log (story c.disk) (story n.machine.work.disk) f c.ended.last mine)
        (λ k other log l. other_flushed c.view (view_of n) t n.machine.work.session c.log n.machine.work.log (story c.disk) (story n.machine.work.disk) f k other log (others k other log l)))

    pub ready_committed : IsReady story n
    ready_committed = by c.grouped
