-- A begin and a sync that are refused while an abort is half done.
use Rattle.std.proofs.Common.{◌≡◌, ◌∙◌, ◌≤◌, ◌^◌, inl, inr, ◌==◌, ℕ, Bool, true, false, cond, List, [], length, refl, sym, subst, arith, append-nil}
use Rattle.map_model.specs.declared.call.Answer.TheVariants as answer
use Rattle.map_model.specs.declared.call.Call.{Call}
use Rattle.map_model.specs.declared.call.Refusal.TheVariants as refusal
use Rattle.paged_desks.specs.core_calls.Deeds.{marks_by}
use Rattle.paged_desks.specs.core_calls.Fronts.{Done, front, outcomes}
use Rattle.paged_desks.specs.core_calls.LogEvents.{RefusedLogs}
use Rattle.paged_desks.specs.core_calls.Marks.{Mark, is_half}
use Rattle.paged_desks.specs.core_calls.Scans.{StopsOnWay}
use Rattle.paged_desks.proofs.core_calls.ScanLemmas.{stops_none}
use Rattle.paged_desks.specs.core_calls.Steps.{Tries, call_behind}
use Rattle.paged_desks.specs.core_state.Openings.{Opening}
use Rattle.paged_desks.specs.core_state.States.{State}
use Rattle.paged_desks.specs.core_state.Steps.{state_after}
use Rattle.paged_desks.specs.engine_calls.Answers.{EveryAnswer}
use Rattle.paged_desks.specs.engine_calls.Clauses.{EveryComing, IsNewLine}
use Rattle.paged_desks.specs.engine_calls.Refused.{IsRefusal, refused_by}
use Rattle.paged_desks.specs.engine_trait.Limits.{limits}
use Rattle.lean_disk.specs.Story.{IsLawful, Story}
use Rattle.paged_desks.proofs.call_parts.StepLemmas.{every_step}
use Rattle.paged_desks.specs.call_parts.Parts.{Part}
use Rattle.paged_desks.specs.call_parts.Rooms.{ChangesTree}
use Rattle.paged_desks.specs.Calls.{AreHalf, DoesTied, Tied}
use Rattle.paged_desks.specs.Machines.{IsReady, memory, view_of}
use Rattle.paged_desks.specs.Parts.{HasHalf}
use Rattle.paged_desks.specs.declared.machine.PagedMachine.{PagedMachine}
use Rattle.paged_desks.proofs.EndingLemmas.{Grounds, line_call, refused_half}
use Rattle.paged_desks.proofs.HalfLates.{half_late}

-- nothing was put back
no_marks : (b : Bool) (ms : List Mark) → is_half (cond b ms ms) ≡ is_half ms
no_marks true ms = refl
no_marks false ms = refl

-- of session `own`, or for 0 of nobody
pub spent_does : (l : Grounds) → EveryAnswer → EveryComing → {D : Type 0} (story : D → Story) (lawful : (d : D) → IsLawful (story d)) (m : PagedMachine D) → IsReady story m → HasHalf m → (own : ℕ) (c : Call)
    → ((g : Opening) (xs : List Done) → RefusedLogs limits g xs own c refusal.RowSpent []) → ((g : Opening) (xs : List Done) → Tries g own (outcomes xs) c refusal.RowSpent []) → ((g : Opening) (s : State) → ChangesTree own g s c [])
    → (g : Opening) (xs : List Done) → g.workers ≡ m.machine.work.session.workers → Tied g m.machine.work.session.group xs (view_of m) (memory m) → AreHalf g.workers xs m.machine → IsNewLine (outcomes xs)
    → DoesTied g m.machine.work.session.group xs own c (answer.Refused refusal.RowSpent) (memory m) m (story m.machine.work.disk) (story m.machine.work.disk)
spent_does l answers coming story lawful m ready half own c due tries room g xs many tied halves line =
    refused_half l m m st st (lawful m.machine.work.disk) g xs many tied halves [] part ready.logged (refl, refl) answers own c refusal.RowSpent is_refused
    (record {
      few = omega arith;
      is_for = inr (inl refl);
      kept = tt;
      refuses = λ q sure e. inr (inl refl);
      still = λ q e. refl;
      stays = λ q sure e. refl;
      room = subst (λ (d : Call). ChangesTree own g (state_after g (front xs)) d []) (sym asks) (room g (state_after g (front xs)));
    })
    (λ w low high. no_marks (own == w) (marks_by w (outcomes xs)) ∙ halves w low high)
  where
    st : Story
    st = story m.machine.work.disk

    asks : call_behind (outcomes xs) c ≡ c
    asks = line_call xs c line

    part : Part m.machine.work.session.workers [] (view_of m) (view_of m) (memory m) (memory m) st st
    part = (every_step l.reached l.needs l.versions l.kept l.prefixes l.seals st st (lawful m.machine.work.disk) m.machine.work.session.workers (view_of m) (view_of m) (memory m)).none

    late : 2 ^ 61 ≤ length (front xs)
    late = half_late g m.machine.work.session.group xs (tied.ties 0).told half.session (halves half.session half.low (let e = many in let h = half.high in omega arith) ∙ half.half)

    is_refused : IsRefusal limits g xs own c refusal.RowSpent []
    is_refused = record {
      comes = (coming xs (refused_by own c refusal.RowSpent []).outcome).new line tt;
      met = tt;
      rows = tt;
      tries = subst (λ (d : Call). Tries g own (outcomes xs) d refusal.RowSpent []) (sym asks) (tries g xs);
      scans = subst (λ (d : Call). StopsOnWay g own (outcomes xs) (state_after g (front xs)) d refusal.RowSpent []) (sym asks) (stops_none g own (outcomes xs) (state_after g (front xs)) c [] refl);
      structure = λ _. refl;
      cause = subst (λ es. 2 ^ 61 ≤ length es) (sym (append-nil (front xs))) late;
      due = due g xs;
    }
