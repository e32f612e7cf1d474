-- An engine whose disk noted a line.
use Rattle.std.proofs.Common.{◌≡◌, List, length, refl, sym, subst}
use Rattle.std.specs.Prelude.{IsTrue}
use Rattle.map_model.specs.Journals.{Name}
use Rattle.paged_scans.specs.core_state.Openings.{Opening}
use Rattle.paged_scans.specs.core_calls.Fronts.{Done}
use Rattle.lean_disk.specs.Area.{Area}
use Rattle.lean_disk.specs.Calls.{Noted}
use Rattle.lean_disk.specs.Story.{Story}
use Rattle.lean_edge.specs.declared.sink.Put.{Put}
use Rattle.lean_edge.specs.declared.sink.Put.TheVariants as put
use Rattle.engine_front.specs.declared.calls.Next.{Next}
use Rattle.group_commit.specs.declared.queue.End.{End}
use Rattle.paged_scans.specs.page_calls.Mirrors.{HoldsLast}
use Rattle.paged_scans.specs.page_store.Saved.{Reaches}
use Rattle.paged_scans.specs.paged_desks.Machines.{IsReady, pages}
use Rattle.paged_scans.specs.paged_desks.declared.machine.PagedMachine.{PagedMachine}
use Rattle.paged_scans.specs.paged_rows.Paged.{IsFedIfFaithful, Paged}
use Rattle.paged_scans.specs.declared.scans.Scan.{Scan}
use Rattle.buffered_engine.specs.Inside.Parts.{IsEngine, state_by}
use Rattle.buffered_engine.specs.States.{HasRun, InRun, State}

-- the same on this disk
abbrev pub on_disk : {D : Type 0} → D → PagedMachine D → PagedMachine D
on_disk disk m = record m { machine = record m.machine { work = record m.machine.work { disk = disk } } }

-- what the pages' area tells is the same
fed_noted : (p : Paged) (old new : Story) → Noted old new → IsFedIfFaithful p old → IsFedIfFaithful p new
fed_noted p old new noted h faithful = let f = h faithful in record {
  tells = subst IsTrue (sym (noted.tells 1)) f.tells;
  mirrored = record {
    mirrors = λ t q lt page holds. f.mirrored.mirrors f.tells q lt page (subst (λ (a : Area). HoldsLast p.pager.slots p.pager.generation q a.bytes page) (noted.area 1) holds);
    spans = λ t. subst (λ (a : Area). Reaches (length p.pager.slots) a.bytes) (sym (noted.area 1)) (f.mirrored.spans f.tells);
  };
}

module _ {D : Type 0} (story : D → Story) (m : PagedMachine D) (disk : D) (next : Next) (scan : Scan) (ends : List (List End)) where
  abbrev n : PagedMachine D
  n = on_disk disk m

  abbrev was : State D
  was = state_by m next scan ends

  abbrev is : State D
  is = state_by n next scan ends

  -- it stands in the same runs
  pub in_run_on : (g : Opening) (xs : List Done) (names : List Name) → InRun was g xs names → InRun is g xs names
  in_run_on g xs names r = record { workers = r.workers; next = r.next; turn = r.turn; scan = r.scan; tied = r.tied; tracks = r.tracks; told = r.told; settled = r.settled }

  has_run_on : HasRun was → HasRun is
  has_run_on h = record { opening = h.opening; done = h.done; names = h.names; in_run = in_run_on h.opening h.done h.names h.in_run; is_half_aborted = h.is_half_aborted; room = h.room; is_open = h.is_open }

  ready_on : IsFedIfFaithful (pages m) (story disk) → IsReady story m → IsReady story n
  ready_on fed r = record {
    sound = r.sound;
    works = r.works;
    logged = r.logged;
    opens = r.opens;
    keeps = r.keeps;
    well = r.well;
    fed = fed;
    slots = record { slots = r.slots.slots; generation = r.slots.generation; count = r.slots.count };
    frames = r.frames;
    few = r.few;
    outside = r.outside;
  }

  fed_put : (p : Put) → (p ≡ put.Done → Noted (story m.machine.work.disk) (story disk)) → (p ≡ put.Failed → disk ≡ m.machine.work.disk) → IsFedIfFaithful (pages m) (story m.machine.work.disk) → IsFedIfFaithful (pages m) (story disk)
  fed_put put.Done noted not_noted h = fed_noted (pages m) (story m.machine.work.disk) (story disk) (noted refl) h
  fed_put put.Failed noted not_noted h = subst (λ (d : D). IsFedIfFaithful (pages m) (story d)) (sym (not_noted refl)) h

  pub engine_on : (p : Put) → (p ≡ put.Done → Noted (story m.machine.work.disk) (story disk)) → (p ≡ put.Failed → disk ≡ m.machine.work.disk) → IsEngine story m next scan ends → IsEngine story n next scan ends
  engine_on p noted not_noted e = record { few = e.few; fits = e.fits; within = e.within; ready = λ w. let r = e.ready w in ready_on (fed_put p noted not_noted r.fed) r; run = λ w. has_run_on (e.run w) }
