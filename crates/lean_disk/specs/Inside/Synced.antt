-- The last sync by a moment.
use Rattle.std.specs.Prelude.{◌≡◌, ℕ, ◌+◌, ◌≤◌, true}
use Rattle.lean_disk.specs.declared.area_log.Call.{Call}
use Rattle.lean_disk.specs.declared.area_log.What.TheVariants.{Synced}

-- the call is a sync that answered Done, by the moment
pub record IsSyncedBy (m : ℕ) (call : Call) : Type 0 where
  pub by_then : call.number + call.notes ≤ m
  pub synced : call.what ≡ Synced true
