-- A sync in each run.
use Rattle.std.proofs.Common.{◌≡◌, ◌∙◌, ◌≤◌, ◌^◌, ◌==◌, ◌||◌, ℕ, suc, Bool, true, false, cond, List, [], ◌∷◌, None, Some, length, ap, refl, sym, subst, arith, true≢false}
use Rattle.map_model.specs.Lists.{all, any}
use Rattle.map_model.specs.declared.call.Answer.TheVariants as answer
use Rattle.map_model.specs.declared.call.Call.{Call}
use Rattle.map_model.specs.declared.call.Call.TheVariants as call
use Rattle.map_model.specs.declared.call.Refusal.{Refusal}
use Rattle.paged_desks.specs.core_calls.Deeds.{Synced}
use Rattle.paged_desks.specs.core_calls.Fronts.{Done, front, outcomes}
use Rattle.paged_desks.specs.core_calls.Marks.{Mark}
use Rattle.paged_desks.specs.core_calls.Runs.{Tells}
use Rattle.paged_desks.specs.core_calls.Steps.{call_behind, is_step, is_structure}
use Rattle.paged_desks.specs.core_state.Events.{Event}
use Rattle.paged_desks.specs.core_state.Openings.{Opening}
use Rattle.paged_desks.specs.core_state.Steps.{AllMet, state_after}
use Rattle.paged_desks.proofs.engine_calls.ComingLemmas.{follows, goes_on}
use Rattle.paged_desks.proofs.engine_calls.MarkLemmas.{fresh_none, has_mark, keep_none, marks_none}
use Rattle.paged_desks.specs.engine_calls.Clauses.{IsNewLine}
use Rattle.paged_desks.specs.engine_calls.Syncs.{kept_by}
use Rattle.paged_desks.specs.engine_trait.Calls.{is_half_done}
use Rattle.paged_desks.specs.engine_trait.Limits.{limits}
use Rattle.paged_desks.specs.engine_trait.Refusals.{refusal_in}
use Rattle.paged_desks.specs.engine_trait.Rooms.{needs_sync}
use Rattle.lean_disk.specs.Story.{IsLawful, Story}
use Rattle.paged_desks.specs.row_words.Moments.{events_of}
use Rattle.paged_desks.specs.call_parts.Deeds.{Answers, Fails}
use Rattle.paged_desks.specs.call_parts.Rooms.{ChangesTree, IsRoomFor, makes_sync, may_save}
use Rattle.paged_desks.proofs.session_desks.SeatLemmas.{holds_of}
use Rattle.paged_desks.specs.session_desks.Parts.{here, shape}
use Rattle.paged_desks.specs.session_state.declared.session.Session.{Session}
use Rattle.paged_desks.specs.Calls.{AreHalf, DoesTied, Tied}
use Rattle.paged_desks.specs.Machines.{IsReady, memory, view_of}
use Rattle.paged_desks.specs.Syncs.{HasNotSynced, IsSynced}
use Rattle.paged_desks.specs.declared.machine.PagedMachine.{PagedMachine}
use Rattle.paged_desks.proofs.EndingLemmas.{Grounds, begins, does_half, end_laws, grows_none, half_other, line_call}
use Rattle.paged_desks.proofs.Moments.{length_events}
use Rattle.paged_ends.proofs.SyncEvents.{sync_logs, sync_none}

no_one : (c : Bool) → ◌≡◌ {A = List Mark} [] (cond c [] [])
no_one true = refl
no_one false = refl

none_is : (r : Refusal) → None ≡ Some r → ⊥
none_is r e = absurd (cc)

never_refused : (n : ℕ) (why : Refusal) → answer.Synced n ≡ answer.Refused why → ⊥
never_refused n why e = absurd (cc)

-- there are sixteen sessions at most
pub few_events : {D : Type 0} (story : D → Story) (m : PagedMachine D) → IsReady story m → (n : ℕ) → n ≤ suc m.machine.work.session.workers → n ≤ 17
few_events story m ready n few = let a = (holds_of (shape m.machine) (view_of m) (here m.machine) m.machine.desks.items ready.sound.desks).rows.most in omega arith

module _ (l : Grounds) {D : Type 0} (story : D → Story) (lawful : (d : D) → IsLawful (story d)) (m n : PagedMachine D) (ready : IsReady story m) (g : Opening) (xs : List Done) (many : g.workers ≡ m.machine.work.session.workers)
    (tied : Tied g m.machine.work.session.group xs (view_of m) (memory m)) (halves : AreHalf g.workers xs m.machine) where
  -- ## It was made

  module _ (line : IsNewLine (outcomes xs)) (ready_now : IsReady story n) (at : ℕ) (s : IsSynced story m n at) where
    abbrev es : List Event
    es = events_of s.events

    abbrev done : Done
    done = kept_by (Synced at) es

    met : AllMet g (state_after g (front xs)) es
    met = (s.part.logged g xs [] (begins g m.machine.work.session.group xs (view_of m) (memory m) tied)).met

    steps : any is_step es ≡ false
    steps = sync_none is_step at es (λ _ _. refl) refl s.sync

    marks : any has_mark es ≡ false
    marks = sync_none has_mark at es (λ _ _. refl) refl s.sync

    structure : any is_structure es ≡ false
    structure = sync_none is_structure at es (λ _ _. refl) refl s.sync

    asks : call_behind (outcomes xs) call.Sync ≡ call.Sync
    asks = line_call xs call.Sync line

    tells : Tells limits g m.machine.work.session.group xs done
    tells = record {
      met = met;
      fresh = fresh_none g (state_after g (front xs)) es marks;
      told = λ v. marks_none g (state_after g (front xs)) es v [] marks ∙ no_one (0 == v);
      in_turn = tt;
      steps = (refl, keep_none is_step es steps);
      hindered = follows (outcomes xs) done.outcome line tt;
      goes_on = goes_on (outcomes xs) done.outcome line;
      structure = λ e. structure;
      logs = (s.sync.0, s.sync.1, sync_logs at es s.sync);
      refused = tt;
      scans = tt;
      released = λ e. absurd (true≢false (sym e));
    }

    few : length es ≤ 2 ^ 18
    few = let a = few_events story m ready (length s.events) s.few in let b = length_events s.events in omega arith

    abbrev how : Answers g xs done ((memory m).log 0)
    how = record {
      few = few;
      refused = λ why q. absurd (never_refused at why q);
      kept = λ why q. absurd (never_refused at why q);
      refuses = λ why sure q. absurd (none_is why (subst (λ (c : Call). refusal_in g (state_after g (front xs)) 0 (is_half_done 0 xs) ((memory m).log 0) c ≡ Some why) asks q));
      still = λ why q. grows_none es structure;
      stays = λ why sure q. structure;
      room = subst (λ (c : Call). ChangesTree 0 g (state_after g (front xs)) c es) (sym asks) structure;
    }

    half_is : AreHalf g.workers (done ∷ xs) n.machine
    half_is w low high = half_other w done xs (λ q. absurd (omega arith)) ∙ (halves w low high ∙ sym (ap (λ (k : Session). k.is_half_aborted) (s.sessions w low (let e = many in omega arith)).session))

    pub sync_does : DoesTied g m.machine.work.session.group xs 0 call.Sync (answer.Synced at) (memory m) n (story m.machine.work.disk) (story n.machine.work.disk)
    sync_does = does_half l m n (story m.machine.work.disk) (story n.machine.work.disk) (lawful m.machine.work.disk) g xs many tied halves s.events s.part ready_now.logged s.same 0 call.Sync (answer.Synced at) done refl refl refl refl tells how half_is

  -- ## A device failed

  -- of a call that needs it
  pub sync_fails : IsNewLine (outcomes xs) → (own : ℕ) (c : Call) → needs_sync g xs own c ≡ true → HasNotSynced story m n → ((es : List Event) → all makes_sync es ≡ true → length es ≤ 2 ^ 18 → IsRoomFor g xs own c es)
      → Fails g m.machine.work.session.group xs own c (memory m) (story m.machine.work.disk) (story n.machine.work.disk)
  sync_fails line own c needs s room =
      (end_laws g m.machine.work.session.group xs (view_of m) (memory m) tied m.machine.work.session.workers own c (story m.machine.work.disk) (story n.machine.work.disk) many).fails false true s.events s.failed (λ e. absurd (true≢false (sym e)))
      (λ _. or_right (may_save xs c) (needs_sync g xs own c) needs)
      (subst (λ (d : Call). IsRoomFor g xs own d s.events) (sym (line_call xs c line)) (room s.events s.sync (let a = few_events story m ready (length s.events) s.few in omega arith)))
    where
      or_right : (a b : Bool) → b ≡ true → (a || b) ≡ true
      or_right true b e = refl
      or_right false b e = e
