-- Which records an image has for certain.
use Rattle.map_model.specs.Lists.{Has}
use Rattle.core_paging.specs.image_model.Entries.{Entry, Contents, is_record}
use Rattle.core_paging.specs.image_model.Ends.{reach}
use Rattle.core_paging.specs.image_model.Images.{found}
use Rattle.core_paging.specs.core_state.States.{start}
use Rattle.core_paging.specs.core_state.Openings.{Opening}
use Rattle.core_paging.specs.core_state.Events.{Event}
use Rattle.core_paging.specs.core_state.Steps.{run}
use Rattle.core_crash.specs.Crashes.{Leaves, image_of}
use Rattle.std.specs.Prelude.{◌≡◌, ◌<◌, ◌≤◌, ℕ, true, List}

-- Wherever a crash falls, the logs together have every record up to the reach, but those before a log's head.
abbrev pub EveryFound : Type 0
EveryFound = (g : Opening) (es : List Event) (logs : ℕ → List Entry) (page : ℕ → Contents) → Leaves g es logs page →
    let s = run g (start g) es in let i = image_of g s logs page in
    (r : Entry) → Has r s.entries → is_record r.kind ≡ true → r.number ≤ reach i.logs i.floor (found i) → s.head r.log < r.number → Has r (found i)
