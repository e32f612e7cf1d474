-- An engine on a disk that was opened.
use Rattle.std.proofs.Common.{◌≡◌, ℕ, Bool, false, List, [], length, refl, sym, ap, subst, arith}
use Rattle.paged_scans.specs.core_state.Openings.{Opening}
use Rattle.paged_scans.specs.core_state.States.{start}
use Rattle.paged_scans.specs.core_calls.Refusals.{waiting}
use Rattle.paged_scans.specs.disk_slots.declared.master.Master.{Master}
use Rattle.lean_disk.specs.Story.{Story}
use Rattle.engine_front.specs.declared.calls.Next.TheVariants.{Line}
use Rattle.group_commit.specs.Laws.{EveryStart}
use Rattle.group_commit.specs.Queues.{AreNew, queue_of}
use Rattle.group_commit.specs.declared.queue.End.{End}
use Rattle.paged_scans.specs.session_desks.Desks.{desk_of}
use Rattle.paged_scans.specs.session_desks.Parts.{here, shape}
use Rattle.paged_scans.proofs.session_desks.SeatLemmas.{holds_of}
use Rattle.paged_scans.specs.paged_desks.Calls.{Tied}
use Rattle.paged_scans.specs.paged_desks.Machines.{IsReady, memory, view_of}
use Rattle.paged_scans.specs.paged_desks.declared.machine.PagedMachine.{PagedMachine}
use Rattle.paged_engine.specs.Openings as paged
use Rattle.paged_engine.specs.declared.opening.Size.{Size}
use Rattle.paged_scans.specs.Calls.{IsIn}
use Rattle.paged_scans.specs.declared.scans.Scan.{Scan}
use Rattle.buffered_engine.specs.Inside.Parts.{IsEngine, state_by}
use Rattle.buffered_engine.specs.Openings.{HasOpened}
use Rattle.buffered_engine.specs.States.{HasRoom, HasRun, InRun, State}

-- a closed session has room in a queue that is empty
room_closed : (is_open : Bool) (q : List End) (waits : ℕ) → is_open ≡ false → q ≡ [] → HasRoom Line is_open (length q) waits
room_closed is_open q waits shut none = subst (λ (b : Bool). HasRoom Line b (length q) waits) (sym shut) (let e = ap (λ (l : List End). length l) none in omega arith)

module _ {D : Type 0} (story : D → Story) (law : EveryStart) (size : Size) (s0 : Story) (m : PagedMachine D) (won lost : ℕ) (ready : IsReady story m) (o : paged.HasOpened story size s0 m won lost) (scan : Scan) (within : IsIn scan) (ends : List (List End)) (new : AreNew m.machine.work.session.workers ends) where
  abbrev g : Opening
  g = o.opening

  abbrev is : State D
  is = state_by m Line scan ends

  tied : Tied g m.machine.work.session.group [] (view_of m) (memory m)
  tied = let b = o.at_start.behind in record {
    ties = λ w. record { opens = b.opens; told = tt; half_is = refl; loads = []; are_loads = tt; few = omega arith; met = b.met; seen = b.seen };
    begun = λ w. refl;
    logged = o.at_start.logged;
  }

  pub in_run : InRun is g [] []
  in_run = record {
    workers = o.at_start.workers;
    next = tt;
    turn = tt;
    scan = tt;
    tied = tied;
    tracks = law g ends (subst (λ k. AreNew k ends) (sym o.at_start.workers) new);
    told = refl;
    settled = λ w low high. ap (λ (q : List End). length q) (new.empty w);
  }

  has_run : HasRun is
  has_run = record {
    opening = g;
    done = [];
    names = [];
    in_run = in_run;
    is_half_aborted = λ w low high. sym (o.at_start.sessions w low high).is_half_aborted;
    room = λ w low high. room_closed (desk_of is.work is.desks w).session.is_open (queue_of ends w) (waiting g (start g) w) (o.at_start.sessions w low high).is_open (new.empty w);
    is_open = tt;
  }

  pub is_engine : IsEngine story m Line scan ends
  is_engine = record {
    few = (holds_of (shape m.machine) (view_of m) (here m.machine) m.machine.desks.items ready.sound.desks).rows.most;
    fits = ready.sound.fits;
    ready = λ _. ready;
    run = λ _. has_run;
    within = within;
  }

  pub has_opened : HasOpened size s0 (story m.machine.work.disk) is m.machine.master.generation won lost
  has_opened = record {
    works = ready.works;
    next = refl;
    group = o.group;
    opening = g;
    in_run = in_run;
    rows = o.rows;
    frames = o.frames;
    faithful = o.faithful;
    recovered = o.recovered;
    is = o.is;
    sessions = o.sessions;
    master = o.master;
    made = o.made;
    generation_is = ap (λ (x : Master). x.generation) o.master;
    won_is = o.won_is;
    lost_is = o.lost_is;
    from = o.from;
    clean = o.clean;
  }
