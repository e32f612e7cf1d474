-- How an account of an area begins.
use Rattle.std.specs.Prelude.{◌≡◌, [], length}
use Rattle.lean_disk.specs.Area.{Area}
use Rattle.master_store.specs.Masters.{IsKept, begun}

-- An area of which a crash leaves nothing else is kept by the account that begins with it.
abbrev pub EverySettled : Type 0
EverySettled = (area : Area) → area.unsynced ≡ [] → area.end ≡ length area.bytes → IsKept (begun area) area
