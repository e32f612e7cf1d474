-- The master of a cut is the next of a run.
use Rattle.std.proofs.Common.{◌≡◌}
use Rattle.disk_runs.specs.core_state.Events.{Event}
use Rattle.disk_runs.specs.disk_image.Laws.{EverySealed}
use Rattle.disk_runs.specs.disk_slots.declared.master.Master.{Master}
use Rattle.lean_disk.specs.Story.{Story}
use Rattle.lean_disk.specs.declared.disk.Did.{Did}
use Rattle.lean_disk.specs.declared.disk.Did.TheVariants as did
use Rattle.disk_runs.specs.worker_log.Laws.{EveryKept, EveryPassed, EveryPrefix}
use Rattle.disk_runs.specs.worker_log.Laws as logs
use Rattle.disk_runs.specs.core_disk.Versions.{EveryVersion}
use Rattle.disk_runs.specs.MasterLaws.{WritesNext, with_cut}
use Rattle.disk_runs.specs.Rings.{heads_of, passed_of}
use Rattle.disk_runs.proofs.CutLemmas.{every_cut}
use Rattle.disk_runs.proofs.NextLemmas.{every_next_master}
use Rattle.disk_runs.proofs.RingLemmas.{every_ring}
use Rattle.log_calls.specs.Cuts.{CutsOn, KeepsCut}

module _ (versions : EveryVersion) (offs : logs.EveryCut) (passes : EveryPassed) (keeps : EveryKept) (prefixes : EveryPrefix) (seals : EverySealed) (m : Master) (r : Did) (old new : Story) (writes : WritesNext m r old new) where
  pub cuts : r ≡ did.Done → CutsOn m old new
  cuts done s0 g es k x stands may is = (every_next_master keeps prefixes seals old new s0 g es (Event.Cut x (heads_of k x)) k (with_cut k m (passed_of k x)) r stands
      (every_cut versions offs old s0 g es k m x (heads_of k x) (passed_of k x) stands (every_ring passes old s0 g es k m x stands may is)) writes).after done

  pub either : KeepsCut m old new
  either s0 g es k x stands may is = (every_next_master keeps prefixes seals old new s0 g es (Event.Cut x (heads_of k x)) k (with_cut k m (passed_of k x)) r stands
      (every_cut versions offs old s0 g es k m x (heads_of k x) (passed_of k x) stands (every_ring passes old s0 g es k m x stands may is)) writes).any_moment
