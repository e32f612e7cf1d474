-- What an engine tells as durable.
use Rattle.std.proofs.Common.{◌≡◌, inl, inr, ◌↔◌, ◌≤◌, ◌<◌, ℕ, Bool, true, false, List, length, take, Option, Some, None, Result, Ok, IsErr, refl, sym, ap, ◌∙◌, subst, true≢false}
use Rattle.std.proofs.lemmas.Bool.{cases_Bool}
use Rattle.std.proofs.lemmas.List.{length-take-le}
use Rattle.map_model.specs.Journals.{Name}
use Rattle.paged_scans.specs.core_state.Openings.{Opening}
use Rattle.paged_scans.specs.core_calls.Fronts.{Done}
use Rattle.lean_disk.specs.Story.{Story}
use Rattle.paged_scans.specs.engine_trait.Calls.{is_half_done}
use Rattle.engine_front.specs.Turns.{IsTaken, behind_durables, told_with}
use Rattle.engine_front.specs.declared.calls.Next.{Next}
use Rattle.group_commit.specs.Laws.{EveryTake}
use Rattle.group_commit.specs.Queues.{Takes}
use Rattle.group_commit.specs.declared.queue.End.{End}
use Rattle.group_commit.specs.declared.receipts.Receipt.{Receipt}
use Rattle.paged_scans.specs.rows_trait.Views.{state}
use Rattle.paged_scans.specs.session_desks.Desks.{desk_of}
use Rattle.paged_scans.specs.session_desks.Parts.{IsSeated, Works, here, logs, shape}
use Rattle.paged_scans.proofs.session_desks.SeatLemmas.{seated_of}
use Rattle.paged_scans.specs.paged_desks.Machines.{memory, view_of}
use Rattle.paged_scans.specs.paged_desks.declared.machine.PagedMachine.{PagedMachine}
use Rattle.paged_scans.specs.declared.scans.Scan.{Scan}
use Rattle.buffered_engine.specs.Inside.Asks.{AreNumbers, durable_of}
use Rattle.buffered_engine.specs.Inside.Parts.{IsEngine, state_by}
use Rattle.buffered_engine.specs.Receipts.{AreFlushed}
use Rattle.buffered_engine.specs.States.{InRun, State}
use Rattle.buffered_engine.proofs.SeenLemmas.{same_half}
use Rattle.buffered_engine.proofs.TakeLemmas.{flushed_take, has_run_none, has_run_some, in_run_none, in_run_some}

-- no device has failed, where that is the answer
pub works_of : {T E : Type 0} (r : Result T E) (x : T) (works : Bool) → r ≡ Ok x → IsErr r ↔ (works ≡ false) → works ≡ true
works_of r x works e h = elim (cases_Bool works) [ inl t ↦ t | inr f ↦ absurd (true≢false (sym (subst (λ q. IsErr q) e (h.1 f)))) ]

module _ {D : Type 0} (story : D → Story) (m : PagedMachine D) (next : Next) (scan : Scan) (ends : List (List End)) (works : Works m.machine) (e : IsEngine story m next scan ends) where
  abbrev was : State D
  was = state_by m next scan ends

  abbrev many : ℕ
  many = m.machine.work.session.workers

  pub seated_in : IsSeated m.machine
  seated_in = seated_of (shape m.machine) (view_of m) (here m.machine) m.machine.desks.items (e.ready works).sound.desks

  -- each session says whether its abort is half done
  pub half_in : (w : ℕ) → 0 < w → w ≤ many → (g : Opening) (xs : List Done) (names : List Name) → InRun was g xs names → (desk_of (here m.machine) m.machine.desks.items w).session.is_half_aborted ≡ is_half_done w xs
  half_in w low high g xs names run = let s = e.run works in
      sym (same_half g s.opening was.group was.group xs s.done (memory m) (memory m) (view_of m) run.tied s.in_run.tied w
      ∙ s.is_half_aborted w low (subst (λ (n : ℕ). w ≤ n) (sym s.in_run.workers) high))

  -- and its log how far it is flushed
  pub flushed_to : (numbers : List ℕ) → many ≤ length numbers → AreNumbers many (logs m.machine) numbers → AreFlushed was (take many numbers)
  flushed_to numbers long are = record {
    logs = length-take-le many numbers long;
    each = λ w low high. let d = (e.ready works).sound.desks.each w low high in
        flushed_take many w numbers low high ∙ (are w low high ∙ sym (ap (λ (n : ℕ). (state (view_of m)).core.flushed n) (sym d.own) ∙ d.holds.flushed));
  }

  module _ (law : EveryTake) (next_new : Next) (ends_new : List (List End)) (numbers : List ℕ) (found : Option Receipt) (long : many ≤ length numbers)
      (are : AreNumbers many (logs m.machine) numbers) (takes : Takes (take many numbers) ends found ends_new) where
    abbrev is : State D
    is = state_by m next_new scan ends_new

    abbrev Tells : Type 0
    Tells = (g : Opening) (xs : List Done) (names : List Name) → InRun was g xs names → IsTaken g xs names (durable_of found) × InRun is g xs (told_with (durable_of found) names)

    pub tells_some : (r : Receipt) → found ≡ Some r → next_new ≡ next → Tells
    tells_some r q n g xs names run = in_run_some law was is (take many numbers) numbers found refl long are refl refl refl refl refl refl takes g xs names run r q n

    pub tells_none : found ≡ None → next_new ≡ behind_durables next → Tells
    tells_none q n g xs names run = in_run_none law was is (take many numbers) numbers found refl long are refl refl refl refl refl refl takes g xs names run q n

    pub engine_some : (r : Receipt) → found ≡ Some r → next_new ≡ next → IsEngine story m next_new scan ends_new
    engine_some r q n = record { few = e.few; fits = e.fits; ready = e.ready; within = e.within; run = λ w. has_run_some law was is (take many numbers) numbers found refl long are refl refl refl refl refl refl takes (λ k. refl) refl (e.run w) r q n }

    pub engine_none : found ≡ None → next_new ≡ behind_durables next → IsEngine story m next_new scan ends_new
    engine_none q n = record { few = e.few; fits = e.fits; ready = e.ready; within = e.within; run = λ w. has_run_none law was is (take many numbers) numbers found refl long are refl refl refl refl refl refl takes (λ k. refl) refl (e.run w) q n }
