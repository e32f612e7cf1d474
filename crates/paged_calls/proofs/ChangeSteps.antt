-- A machine behind a try to delete, by its answer.
use Rattle.std.proofs.Common.{◌≡◌, ℕ, true, Option, Some, None, Result, Ok, Err, ap, sym, true≢false}
use Rattle.lean_disk.specs.Story.{Story}
use Rattle.map_model.specs.declared.call.Refusal.TheVariants as refusal
use Rattle.paged_desks.specs.engine_trait.declared.unserved.Unanswered.TheVariants as unanswered
use Rattle.paged_desks.specs.engine_trait.declared.unserved.Unserved.TheVariants as unserved
use Rattle.paged_desks.specs.btree_descent.declared.descent.TheConstants.{TOMBSTONE}
use Rattle.paged_desks.specs.page_pool.Pools.{EveryStanding}
use Rattle.row_room.specs.row_changes.Dels.{Dels}
use Rattle.row_room.specs.row_changes.Puts.{works_behind}
use Rattle.row_room.specs.row_changes.declared.ways.Unmade.{Unmade}
use Rattle.row_room.specs.row_changes.declared.ways.Unmade.TheVariants as unmade
use Rattle.row_walks.specs.AtOnce.{DelsAtOnce}
use Rattle.row_walks.specs.declared.at_once.AtOnce.{AtOnce}
use Rattle.row_walks.specs.declared.at_once.AtOnce.TheVariants as at_once
use Rattle.paged_desks.specs.row_words.declared.event.Event.TheVariants as told
use Rattle.paged_desks.specs.session_desks.Parts.{SeatFits, shape}
use Rattle.paged_desks.proofs.session_state.OtherLemmas.{is_own, no_steps, one_step}
use Rattle.paged_desks.specs.session_state.Holds.{Holds, IsSameSession}
use Rattle.paged_desks.specs.session_state.Others.{EveryOther}
use Rattle.paged_desks.specs.session_state.declared.work.Work.{Work}
use Rattle.paged_desks.specs.Machines.{IsReady, view_of}
use Rattle.paged_desks.specs.declared.machine.PagedMachine.{PagedMachine}
use Rattle.paged_desks.specs.Calls.{IsAside}
use Rattle.paged_desks.specs.Calls.{IsBeside}
use Rattle.paged_calls.proofs.ChangeStands.{ready_changed}
use Rattle.paged_desks.proofs.StandLemmas.{looked_one, looked_same, ready_on}

-- where log and disk are as they were too
pub beside_of : {D : Type 0} (m n : PagedMachine D) → IsAside m n → n.machine.work.log ≡ m.machine.work.log → n.machine.work.disk ≡ m.machine.work.disk → IsBeside m n
beside_of m n a log disk = record { shape = a.shape; disk = disk; log = log; desks = a.desks; latches = a.latches; master = a.master; pager = a.pager }

module _ {D : Type 0} (story : D → Story) (law : EveryOther) (standing : EveryStanding) (m n : PagedMachine D) (ready : IsReady story m) (a : IsAside m n) (fits : SeatFits n.machine) (same : IsSameSession m.machine.work.session n.machine.work.session)
    (holds : n.machine.work.session.works ≡ true → Holds (shape n.machine) (view_of n) n.machine.work.session n.machine.work.log) (works : n.machine.work.session.works ≡ true) where
  abbrev own : ℕ
  own = m.machine.work.session.own

  -- nothing was seen
  still : n.machine.work ≡ m.machine.work → (view_of n).given ≡ (view_of m).given → (view_of n).seen ≡ (view_of m).seen → IsReady story n
  still e given seen = ready_on story m n (beside_of m n a (ap (λ (k : Work D). k.log) e) (ap (λ (k : Work D). k.disk) e)) ready law given (looked_same (view_of m) (view_of n) given seen) fits works same (no_steps own (view_of m) (view_of n) given seen) (holds works)

  pub del_ready : (key : ℕ) (r : Result (Option ℕ) Unmade) → works_behind r ≡ true → Dels r own (view_of m) (view_of n) key m.machine.work.log n.machine.work.log (story m.machine.work.disk) (story n.machine.work.disk) (n.machine.work ≡ m.machine.work) (n.machine.work.disk ≡ m.machine.work.disk) → IsReady story n
  del_ready key (Ok (Some before)) w d = ready_changed story m n a same ready law standing key TOMBSTONE (Some before) d fits works (holds works)
  del_ready key (Ok None) w d = ready_on story m n (beside_of m n a d.1 d.2) ready law d.0.given (looked_one (view_of m) (view_of n) (told.Read own d.0.page key None) tt d.0.given d.0.seen) fits works same
      (one_step own (view_of m) (view_of n) (told.Read own d.0.page key None) d.0.given d.0.seen (is_own own) d.0.met) (holds works)
  del_ready key (Err (unmade.Unserved (unserved.Refused refusal.RowSpent))) w d = still d.1 d.0.given d.0.seen
  del_ready key (Err (unmade.Unserved (unserved.Unanswered unanswered.DiskFault))) w d = absurd (true≢false (sym w))
  del_ready key (Err (unmade.Unserved _)) w d = absurd d
  del_ready key (Err (unmade.Cold cold)) w d = still d.1 d.0.given d.0.seen
  del_ready key (Err unmade.Lost) w d = absurd d

  -- and of one at once
  pub at_once_ready : (key : ℕ) (r : Result AtOnce Unmade) → works_behind r ≡ true → DelsAtOnce r key (view_of m) (view_of n) m.machine.work.session m.machine.work.log n.machine.work.log (story m.machine.work.disk) (story n.machine.work.disk) (n.machine.work ≡ m.machine.work) (n.machine.work.disk ≡ m.machine.work.disk) → IsReady story n
  at_once_ready key (Ok (at_once.Done was)) w d = del_ready key (Ok was) w d.1
  at_once_ready key (Ok at_once.MayBeThin) w d = still d.unchanged d.given d.seen
  at_once_ready key (Err (unmade.Unserved (unserved.Refused refusal.RowSpent))) w d = still d.1 d.0.given d.0.seen
  at_once_ready key (Err (unmade.Unserved (unserved.Unanswered unanswered.DiskFault))) w d = absurd (true≢false (sym w))
  at_once_ready key (Err (unmade.Unserved _)) w d = absurd d
  at_once_ready key (Err (unmade.Cold cold)) w d = still d.1 d.0.given d.0.seen
  at_once_ready key (Err unmade.Lost) w d = absurd d
