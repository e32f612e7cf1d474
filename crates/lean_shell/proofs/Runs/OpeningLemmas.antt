-- Where a run begins, from what the engine says of the opening.
use Rattle.std.proofs.Common.{◌≡◌, ◌<◌, ◌≤◌, ℕ, Some, refl, sym, ◌∙◌, ap, subst, arith}
use Rattle.lean_disk.specs.Story.{Story, areas_of}
use Rattle.buffered_engine.specs.disk_slots.declared.master.Master.{Master}
use Rattle.buffered_engine.specs.disk_image.MasterSlots.{master_on}
use Rattle.buffered_engine.specs.disk_image.Shown.{image_by, IsCleanDisk}
use Rattle.buffered_engine.specs.recovery.Masters.{next_master}
use Rattle.buffered_engine.specs.recovery.Opened.{IsGreatest, IsRecovered}
use Rattle.buffered_engine.specs.recovery.Telling.{TellsAll}
use Rattle.run_opening.specs.Starts.{empty_log}
use Rattle.buffered_engine.specs.paged_engine.Openings as engine
use Rattle.buffered_engine.specs.paged_engine.Openings.{BeginsOn}
use Rattle.buffered_engine.specs.Openings.{HasOpened}
use Rattle.buffered_engine.specs.States.{State, memory_in}
use Rattle.buffered_engine.specs.paged_engine.declared.opening.Size.{Size}
use Rattle.lean_shell.specs.Inside.Begins.{Begins, HasStarted, began}
use Rattle.lean_shell.specs.Runs.{Counts, IsFrom, first_log}
use Rattle.lean_shell.specs.Starts.{IsOfSize}
use Rattle.lean_shell.proofs.Runs.BeginLemmas.{next_of_run, one_greatest, some_is}

module _ {D : Type 0} (size : Size) (s0 sa : Story) (e : State D) (generation won lost : ℕ) (o : HasOpened size s0 sa e generation won lost) where
  abbrev pub counts : Counts
  counts = record { generation = generation; winners = won; undone = lost }

  from_engine : engine.IsFrom size.sessions o.opening s0 generation won lost → IsFrom size.sessions o.opening s0 counts
  from_engine f = record { faithful = f.faithful; m = f.m; openable = f.openable; sound = f.sound; starts = f.starts; map = f.map; generation = f.generation_is; won = f.won_is; lost = f.lost_is }

  pub from : TellsAll size.sessions s0 → IsFrom size.sessions o.opening s0 counts
  from tells = from_engine (o.from tells)

  -- the sessions are those of the logs
  few : o.opening.workers ≤ size.sessions
  few = let a = o.in_run.workers in let b = o.sessions in let c = o.is.few in omega arith

  -- the disk was recovered by the master that counts
  recovered : TellsAll size.sessions s0 → (m : Master) → master_on (areas_of s0 0) ≡ Some m → IsRecovered m (areas_of s0) o.recovered
  recovered tells m there = let a = o.is.answer tells in subst (λ (y : Master). IsRecovered y (areas_of s0) o.recovered) (some_is a.0 m (sym a.2.sound.master ∙ there)) a.2

  -- whose greatest number the opening has
  floor_is : TellsAll size.sessions s0 → (m : Master) → master_on (areas_of s0 0) ≡ Some m → o.recovered.master.floor ≡ o.opening.base
  floor_is tells m there =
      let f = o.from tells in
      let one : f.m ≡ m = some_is f.m m (sym f.sound.master ∙ there) in
      one_greatest (image_by m (areas_of s0)) o.recovered.master.floor o.opening.base (recovered tells m there).base (subst (λ (y : Master). IsGreatest (image_by y (areas_of s0)) o.opening.base) one f.starts.base)

  master_is : TellsAll size.sessions s0 → (m : Master) → master_on (areas_of s0 0) ≡ Some m → o.recovered.master ≡ next_master m o.opening.base
  master_is tells m there = (recovered tells m there).master ∙ ap (next_master m) (floor_is tells m there)

  log_is : TellsAll size.sessions s0 → (m : Master) → master_on (areas_of s0 0) ≡ Some m → (w : ℕ) → 0 < w → w ≤ o.opening.workers → (memory_in e).log w ≡ first_log m o.opening.base w
  log_is tells m there w low high =
      (o.made w low (let a = o.in_run.workers in omega arith)).is ∙ ap (λ (n : Master). empty_log n w) (master_is tells m there)

  begins : (m : Master) → TellsAll size.sessions s0 → IsCleanDisk m (areas_of s0) → Begins m s0 sa o.opening (memory_in e)
  begins m tells clean = record {
    next = b.next;
    of_run = next_of_run m (memory_in e).master b.next.base b.next.is;
    starts = b.start;
    map = b.map;
    known = (b.begins (began s0) (record { image = λ a. refl; writes = λ a. refl })).known;
    memory_is = (b.begins (began s0) (record { image = λ a. refl; writes = λ a. refl })).is;
    stands = (b.begins (began s0) (record { image = λ a. refl; writes = λ a. refl })).stands;
  }
    where
      b : BeginsOn o.opening (memory_in e) s0 sa m
      b = o.clean tells m clean

  of_size : IsOfSize size o.opening
  of_size = let t = o.in_run.tied.ties 1 in record { few = few; changes = t.opens.changes; joined = t.opens.joined; rows = o.rows; frames = o.frames }

  pub started : HasStarted size s0 sa o.opening (memory_in e) counts
  started = record {
    of_size = of_size;
    from = from;
    log = log_is;
    master = λ tells m there. o.master ∙ master_is tells m there;
    untouched = λ a high. o.is.beyond a (let b = o.in_run.workers in let d = o.sessions in omega arith);
    begins = begins;
  }
