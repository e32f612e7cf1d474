-- The laws of the crates below on which the pager's calls rest.
use Rattle.btree_descent.specs.lean_proto.Controls.{EveryLoad}
use Rattle.btree_descent.specs.lean_proto.Still.{EveryStood}
use Rattle.row_image.specs.Images.{EveryStay}
use Rattle.row_image.specs.Sights.{EveryPair, EverySight}
use Rattle.row_opening.specs.Openings.{EveryNeed, EveryReached}
use Rattle.cooling_stage.specs.Walk.{EveryPlace}
use Rattle.page_pool.specs.Counts.{EveryFrame}
use Rattle.page_pool.specs.Full.{EveryFull}
use Rattle.page_pool.specs.Pools.{EveryPool, EveryStanding}
use Rattle.page_pool.specs.Queues.{EveryChill, EveryPop, EveryQueue}
use Rattle.disk_runs.specs.disk_slots.Laws.{EveryPage}
use Rattle.disk_runs.specs.disk_image.Laws.{EverySealed}
use Rattle.disk_runs.specs.worker_log.Laws.{EveryKept, EveryPrefix}
use Rattle.disk_runs.specs.core_disk.Versions.{EveryVersion}
use Rattle.disk_runs.specs.Masters.{EveryMasterLine}
use Rattle.disk_runs.specs.Moments.{EveryAmong}
use Rattle.disk_runs.specs.Quiet.{EveryQuiet}

-- of rows, and of what the pager knows of them
pub record RowLaws : Type 0 where
  pub stood : EveryStood
  pub loads : EveryLoad
  pub stays : EveryStay
  pub reached : EveryReached
  pub needs : EveryNeed
  pub pools : EveryPool
  pub standing : EveryStanding
  pub counts : EveryFrame
  pub pages : EveryPage
  pub pairs : EveryPair
  pub queues : EveryQueue
  pub pops : EveryPop
  pub sights : EverySight
  pub chills : EveryChill
  pub full : EveryFull
  pub places : EveryPlace

-- of the disk under a run
pub record DiskLaws : Type 0 where
  pub versions : EveryVersion
  pub kept : EveryKept
  pub prefixes : EveryPrefix
  pub seals : EverySealed
  pub quiet : EveryQuiet
  pub among : EveryAmong
  pub lines : EveryMasterLine
