-- Events that a disk does not see.
use Rattle.std.specs.Prelude.{◌≡◌, Bool, true, false, List}
use Rattle.core_disk.specs.core_state.Openings.{Opening}
use Rattle.core_disk.specs.core_state.Events.{Event}
use Rattle.core_disk.specs.core_state.Steps.{state_after}
use Rattle.core_disk.specs.Versions.{is_cut, then}
use Rattle.disk_runs.specs.Logs.{SameDisk}

-- it enters no record, flushes nothing, saves nothing, and no master is of it
abbrev pub is_quiet : Event → Bool
is_quiet (Event.Change w p k v) = false
is_quiet (Event.Put_back w p) = false
is_quiet (Event.Split w l r q i) = false
is_quiet (Event.Lift w c) = false
is_quiet (Event.Join w l r q) = false
is_quiet (Event.Drop w c) = false
is_quiet (Event.Purge w p keys) = false
is_quiet (Event.End w commit f) = false
is_quiet (Event.Flush w n) = false
is_quiet (Event.Sync n) = false
is_quiet (Event.Save p) = false
is_quiet (Event.Cut x heads) = false
is_quiet _ = true

-- such an event is no cut, and changes nothing that a disk shows
pub record QuietLaws (g : Opening) (es : List Event) (e : Event) : Type 0 where
  pub no_cut : is_cut e ≡ false
  pub same : SameDisk (state_after g es) (state_after g (then es e))

-- in each run, of each such event
abbrev pub EveryQuiet : Type 0
EveryQuiet = (g : Opening) → g.faithful ≡ true → (es : List Event) (e : Event) → is_quiet e ≡ true → QuietLaws g es e
