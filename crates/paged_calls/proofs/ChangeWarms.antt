-- What a del did behind the taking of its row: at once, or behind the coming of the pages of its way.
use Rattle.std.proofs.Common.{◌≡◌, ◌∙◌, ◌<◌, ◌%◌, ℕ, true, false, Option, None, Result, Ok, Err, length, ap, refl, sym, subst, true≢false}
use Rattle.map_model.specs.declared.call.Refusal.TheVariants as refusal
use Rattle.paged_desks.specs.engine_trait.declared.unserved.Unanswered.TheVariants as unanswered
use Rattle.paged_desks.specs.engine_trait.declared.unserved.Unserved.{Unserved}
use Rattle.paged_desks.specs.engine_trait.declared.unserved.Unserved.TheVariants as unserved
use Rattle.paged_desks.specs.core_state.Needs.{is_held_by}
use Rattle.paged_desks.specs.core_state.Openings.{Opening}
use Rattle.paged_desks.specs.core_state.States.{State}
use Rattle.lean_disk.specs.Faults.{HasCause}
use Rattle.lean_disk.specs.Story.{Story}
use Rattle.paged_desks.specs.rows_trait.Views.{state}
use Rattle.paged_desks.specs.session_desks.Parts.{AreAsMany, SeatFits}
use Rattle.paged_desks.specs.session_state.declared.session.Session.{Session}
use Rattle.paged_desks.specs.session_state.declared.work.Work.{Work}
use Rattle.paged_desks.specs.worker_log.Logs.{Log, limit, used}
use Rattle.paged_desks.specs.key_locks.declared.mode.Mode.TheVariants.{Alone}
use Rattle.row_room.proofs.row_changes.TakeLemmas.{with_count}
use Rattle.row_room.specs.row_changes.Dels.{Dels}
use Rattle.row_room.specs.row_changes.Puts.{works_behind}
use Rattle.row_room.specs.row_changes.declared.ways.Unmade.{Unmade}
use Rattle.row_room.specs.row_changes.declared.ways.Unmade.TheVariants as unmade
use Rattle.paged_desks.specs.Machines.{IsReady, view_of}
use Rattle.paged_desks.specs.Pages.{goes_on}
use Rattle.paged_desks.specs.Parts.{HasFailed, HasGoneWhere}
use Rattle.paged_desks.specs.declared.machine.PagedMachine.{PagedMachine}
use Rattle.paged_desks.specs.declared.warming.Unwarmed.{Unwarmed}
use Rattle.paged_desks.specs.declared.warming.Unwarmed.TheVariants as stopped
use Rattle.paged_desks.specs.Calls.{IsAside, unserved_of, works_behind as is_working}
use Rattle.paged_calls.specs.Changes.{MayStill, as_made}
use Rattle.paged_calls.specs.Steps.{HasTaken, IsStill}
use Rattle.paged_calls.specs.Tests.{change_test}
use Rattle.paged_calls.proofs.ChangeSteps.{beside_of}
use Rattle.paged_calls.proofs.ChangeTests.{IsFree, free_of, works_of}
use Rattle.paged_calls.proofs.WarmLemmas.{cause_as}

pub still_self : {D : Type 0} (story : D → Story) (m : PagedMachine D) → IsStill story m m
still_self story m = record { given = refl; seen = refl; session = refl; beside = record { shape = refl; disk = refl; log = refl; desks = refl; latches = refl; master = refl; pager = refl } }

-- the key may be changed once its row is taken, where no test refused it
pub may_taken : {D : Type 0} (key : ℕ) (m u : PagedMachine D) → change_test m.machine.work.session m.machine.work.log ≡ None → HasTaken key Alone m u → MayStill key u
may_taken key m u e t = record {
  is_open = ap (λ (x : Session). x.is_open) t.takes.session ∙ f.is_open;
  whole = ap (λ (x : Session). x.is_half_aborted) t.takes.session ∙ f.whole;
  few = subst (λ (x : Session). length x.undo < 64) (sym t.takes.session) f.few;
  room = subst (λ (l : Log). used l < limit l) (sym t.beside.log) f.room;
  row = (λ i. is_held_by ((state (view_of u)).core.row (key % count i)).holder (own i)) ∙ t.takes.alone refl;
}
  where
    f : IsFree m.machine.work.session m.machine.work.log
    f = free_of m.machine.work.session m.machine.work.log (works_of m.machine.work.session m.machine.work.log e) e

    count : u.machine.work.session.held.count ≡ m.machine.work.session.held.count
    count = ap (λ (x : Session). x.held.count) t.takes.session ∙ with_count m.machine.work.session.held (key % m.machine.work.session.held.count)

    own : u.machine.work.session.own ≡ m.machine.work.session.own
    own = ap (λ (x : Session). x.own) t.takes.session

-- a page that is not hot was met
pub still_cold : {D : Type 0} (story : D → Story) (m u : PagedMachine D) → IsAside m u → (view_of u).given ≡ (view_of m).given → (view_of u).seen ≡ (view_of m).seen → u.machine.work ≡ m.machine.work → IsStill story m u
still_cold {D = D} story m u a given seen e = record { given = given; seen = seen; session = ap (λ (k : Work D). k.session) e; beside = beside_of m u a (ap (λ (k : Work D). k.log) e) (ap (λ (k : Work D). k.disk) e) }

-- ## Whether the machine works on

-- what a try came to
abbrev pub HasTried : {D : Type 0} → (story : D → Story) → (key : ℕ) → (m n : PagedMachine D) → Result (Option ℕ) Unmade → Type 0
HasTried story key m n r = Dels r m.machine.work.session.own (view_of m) (view_of n) key m.machine.work.log n.machine.work.log (story m.machine.work.disk) (story n.machine.work.disk) (n.machine.work ≡ m.machine.work) (n.machine.work.disk ≡ m.machine.work.disk)

pub made_works : {D : Type 0} (story : D → Story) (key : ℕ) (m n : PagedMachine D) (r : Result (Option ℕ) Unserved) → HasTried story key m n (as_made r) → works_behind (as_made r) ≡ is_working r
made_works story key m n (Ok was) d = refl
made_works story key m n (Err (unserved.Refused refusal.RowSpent)) d = refl
made_works story key m n (Err (unserved.Unanswered unanswered.DiskFault)) d = refl
made_works story key m n (Err _) d = absurd d

-- ## Where the pages did not come all

module _ {D : Type 0} (story : D → Story) (key most : ℕ) (m n : PagedMachine D) where
  -- the machine behind that
  pub works_unwarmed : (why : Unwarmed) (told : Unserved) → told ≡ unserved_of why → n.machine.work.session.works ≡ goes_on {A = Unit {0}} (Err why) → n.machine.work.session.works ≡ is_working {A = Option ℕ} (Err told)
  works_unwarmed stopped.RowSpent told is e = e ∙ ap (λ (r : Unserved). is_working {A = Option ℕ} (Err r)) (sym is)
  works_unwarmed stopped.DiskFault told is e = e ∙ ap (λ (r : Unserved). is_working {A = Option ℕ} (Err r)) (sym is)
  works_unwarmed (stopped.Damaged page) told is e = e ∙ ap (λ (r : Unserved). is_working {A = Option ℕ} (Err r)) (sym is)
  works_unwarmed (stopped.Altered page) told is e = e ∙ ap (λ (r : Unserved). is_working {A = Option ℕ} (Err r)) (sym is)

  -- it works on where a latch is spent alone
  spent_alone : (P : Type 0) (why : Unwarmed) (told : Unserved) → told ≡ unserved_of why → (goes_on {A = Unit {0}} (Err why) ≡ true → P) → is_working {A = Option ℕ} (Err told) ≡ true → P
  spent_alone P stopped.RowSpent told is p w = p refl
  spent_alone P stopped.DiskFault told is p w = absurd (true≢false (sym w ∙ ap (λ (r : Unserved). is_working {A = Option ℕ} (Err r)) is))
  spent_alone P (stopped.Damaged page) told is p w = absurd (true≢false (sym w ∙ ap (λ (r : Unserved). is_working {A = Option ℕ} (Err r)) is))
  spent_alone P (stopped.Altered page) told is p w = absurd (true≢false (sym w ∙ ap (λ (r : Unserved). is_working {A = Option ℕ} (Err r)) is))

  pub ready_unwarmed : (why : Unwarmed) (told : Unserved) → told ≡ unserved_of why → (goes_on {A = Unit {0}} (Err why) ≡ true → IsReady story n) → is_working {A = Option ℕ} (Err told) ≡ true → IsReady story n
  ready_unwarmed = spent_alone (IsReady story n)

  pub turn_unwarmed : {P : Opening → State → Type 0} (why : Unwarmed) (told : Unserved) → told ≡ unserved_of why → (goes_on {A = Unit {0}} (Err why) ≡ true → HasGoneWhere story P most m n) → is_working {A = Option ℕ} (Err told) ≡ true → n.machine.work.session.own ≡ m.machine.work.session.own
  turn_unwarmed why told is gone = spent_alone (n.machine.work.session.own ≡ m.machine.work.session.own) why told is (λ e. (gone e).paged.turn)

  pub fits_unwarmed : (why : Unwarmed) → (goes_on {A = Unit {0}} (Err why) ≡ true → IsReady story n) → (goes_on {A = Unit {0}} (Err why) ≡ false → HasFailed story m n) → SeatFits n.machine
  fits_unwarmed stopped.RowSpent ready failed = (ready refl).sound.fits
  fits_unwarmed stopped.DiskFault ready failed = (failed refl).fits
  fits_unwarmed (stopped.Damaged page) ready failed = (failed refl).fits
  fits_unwarmed (stopped.Altered page) ready failed = (failed refl).fits

  pub same_unwarmed : {P : Opening → State → Type 0} (why : Unwarmed) → (goes_on {A = Unit {0}} (Err why) ≡ true → HasGoneWhere story P most m n) → (goes_on {A = Unit {0}} (Err why) ≡ false → HasFailed story m n) → AreAsMany m.machine n.machine
  same_unwarmed stopped.RowSpent gone failed = (gone refl).paged.same
  same_unwarmed stopped.DiskFault gone failed = (failed refl).same
  same_unwarmed (stopped.Damaged page) gone failed = (failed refl).same
  same_unwarmed (stopped.Altered page) gone failed = (failed refl).same

-- ## Faults

-- a fault of a warm is told as one of the call
fault_to : (A B : Type 0) (why : Unwarmed) → ◌≡◌ {A = Result A Unwarmed} (Err why) (Err stopped.DiskFault) → ◌≡◌ {A = Result B Unserved} (Err (unserved_of why)) (Err (unserved.Unanswered unanswered.DiskFault))
fault_to A B stopped.DiskFault e = refl
fault_to A B stopped.RowSpent e = absurd (cc)
fault_to A B (stopped.Damaged page) e = absurd (cc)
fault_to A B (stopped.Altered page) e = absurd (cc)

fault_from : (A B : Type 0) (why : Unwarmed) → ◌≡◌ {A = Result B Unserved} (Err (unserved_of why)) (Err (unserved.Unanswered unanswered.DiskFault)) → ◌≡◌ {A = Result A Unwarmed} (Err why) (Err stopped.DiskFault)
fault_from A B stopped.DiskFault e = refl
fault_from A B stopped.RowSpent e = absurd (cc)
fault_from A B (stopped.Damaged page) e = absurd (cc)
fault_from A B (stopped.Altered page) e = absurd (cc)

pub cause_warm : (A B : Type 0) (before now : ℕ) (why : Unwarmed) (told : Unserved) → told ≡ unserved_of why → HasCause before now (◌≡◌ {A = Result A Unwarmed} (Err why) (Err stopped.DiskFault)) → HasCause before now (◌≡◌ {A = Result B Unserved} (Err told) (Err (unserved.Unanswered unanswered.DiskFault)))
cause_warm A B before now why told is h = subst (λ (r : Unserved). HasCause before now (◌≡◌ {A = Result B Unserved} (Err r) (Err (unserved.Unanswered unanswered.DiskFault)))) (sym is) (cause_as before now _ _ (fault_to A B why) (fault_from A B why) h)

-- and one of a try
pub cause_try : (A B : Type 0) (before now : ℕ) (made : Unmade) (why : Unserved) → made ≡ unmade.Unserved why → HasCause before now (◌≡◌ {A = Result A Unmade} (Err made) (Err (unmade.Unserved (unserved.Unanswered unanswered.DiskFault)))) → HasCause before now (◌≡◌ {A = Result B Unserved} (Err why) (Err (unserved.Unanswered unanswered.DiskFault)))
cause_try A B before now made why is h = cause_as before now _ _ to from (subst (λ (r : Unmade). HasCause before now (◌≡◌ {A = Result A Unmade} (Err r) (Err (unmade.Unserved (unserved.Unanswered unanswered.DiskFault))))) is h)
  where
    to : ◌≡◌ {A = Result A Unmade} (Err (unmade.Unserved why)) (Err (unmade.Unserved (unserved.Unanswered unanswered.DiskFault))) → ◌≡◌ {A = Result B Unserved} (Err why) (Err (unserved.Unanswered unanswered.DiskFault))
    to e = cc

    from : ◌≡◌ {A = Result B Unserved} (Err why) (Err (unserved.Unanswered unanswered.DiskFault)) → ◌≡◌ {A = Result A Unmade} (Err (unmade.Unserved why)) (Err (unmade.Unserved (unserved.Unanswered unanswered.DiskFault)))
    from e = cc

made_from : (r : Result (Option ℕ) Unserved) → as_made r ≡ Err (unmade.Unserved (unserved.Unanswered unanswered.DiskFault)) → r ≡ Err (unserved.Unanswered unanswered.DiskFault)
made_from (Ok was) e = absurd (cc)
made_from (Err why) e = cc

pub cause_made : (before now : ℕ) (r : Result (Option ℕ) Unserved) → HasCause before now (as_made r ≡ Err (unmade.Unserved (unserved.Unanswered unanswered.DiskFault))) → HasCause before now (r ≡ Err (unserved.Unanswered unanswered.DiskFault))
cause_made before now r h = cause_as before now _ _ (made_from r) (λ e. ap as_made e) h
