-- A machine behind a try to put a change back, by its answer.
use Rattle.std.proofs.Common.{◌≡◌, ℕ, true, Result, Ok, Err, ap, sym, true≢false}
use Rattle.lean_disk.specs.Story.{Story}
use Rattle.map_model.specs.declared.call.Refusal.TheVariants as refusal
use Rattle.paged_desks.specs.engine_trait.declared.unserved.Unanswered.TheVariants as unanswered
use Rattle.paged_desks.specs.engine_trait.declared.unserved.Unserved.TheVariants as unserved
use Rattle.paged_desks.specs.page_pool.Pools.{EveryStanding}
use Rattle.row_changes.specs.Puts.{works_behind}
use Rattle.row_changes.specs.declared.ways.Unmade.{Unmade}
use Rattle.row_changes.specs.declared.ways.Unmade.TheVariants as unmade
use Rattle.paged_desks.specs.session_desks.Parts.{SeatFits, shape}
use Rattle.paged_desks.proofs.session_state.OtherLemmas.{no_steps}
use Rattle.paged_desks.specs.session_state.Holds.{Holds, IsSameSession}
use Rattle.paged_desks.specs.session_state.Others.{EveryOther}
use Rattle.paged_desks.specs.session_state.declared.work.Work.{Work}
use Rattle.paged_desks.specs.Calls.{IsAside, IsBeside}
use Rattle.paged_desks.specs.Machines.{IsReady, view_of}
use Rattle.paged_desks.specs.declared.machine.PagedMachine.{PagedMachine}
use Rattle.paged_desks.proofs.StandLemmas.{looked_same, ready_on}
use Rattle.paged_aborts.specs.Backs.{BacksInLeaf}
use Rattle.paged_aborts.proofs.BackStands.{ready_back}

-- where log and disk are as they were too
pub beside_of : {D : Type 0} (m n : PagedMachine D) → IsAside m n → n.machine.work ≡ m.machine.work → IsBeside m n
beside_of {D = D} m n a e = record { shape = a.shape; disk = ap (λ (k : Work D). k.disk) e; log = ap (λ (k : Work D). k.log) e; desks = a.desks; latches = a.latches; master = a.master; pager = a.pager }

module _ {D : Type 0} (story : D → Story) (law : EveryOther) (standing : EveryStanding) (m n : PagedMachine D) (ready : IsReady story m) (a : IsAside m n) (fits : SeatFits n.machine) (same : IsSameSession m.machine.work.session n.machine.work.session)
    (holds : n.machine.work.session.works ≡ true → Holds (shape n.machine) (view_of n) n.machine.work.session n.machine.work.log) (works : n.machine.work.session.works ≡ true) where
  abbrev own : ℕ
  own = m.machine.work.session.own

  -- nothing was seen
  still : n.machine.work ≡ m.machine.work → (view_of n).given ≡ (view_of m).given → (view_of n).seen ≡ (view_of m).seen → IsReady story n
  still e given seen = ready_on story m n (beside_of m n a e) ready law given (looked_same (view_of m) (view_of n) given seen) fits works same (no_steps own (view_of m) (view_of n) given seen) (holds works)

  pub back_ready : (r : Result (Unit {0}) Unmade) → works_behind r ≡ true → BacksInLeaf story r m n → IsReady story n
  back_ready (Ok u) w d = ready_back story m n a same ready law standing d fits works (holds works)
  back_ready (Err (unmade.Unserved (unserved.Refused refusal.RowSpent))) w d = still d.1 d.0.given d.0.seen
  back_ready (Err (unmade.Unserved (unserved.Unanswered unanswered.DiskFault))) w d = absurd (true≢false (sym w))
  back_ready (Err (unmade.Unserved _)) w d = absurd d
  back_ready (Err (unmade.Cold cold)) w d = still d.1 d.0.met.given d.0.met.seen
  back_ready (Err unmade.Lost) w d = still d.1 d.0.given d.0.seen
