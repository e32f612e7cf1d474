-- Rows with their pager, as the program has them between two calls.
use Rattle.std.specs.Prelude.{◌≡◌, true, false}
use Rattle.paged_opening.specs.Opened.{lone_shape}
use Rattle.paged_rows.specs.Paged.{IsPaged, Paged, paged}
use Rattle.rows_trait.specs.Plain.{sizes}
use Rattle.rows_trait.specs.Rule.{IsPicture, plan}
use Rattle.pager_bench.specs.declared.rig.Rig.{Rig}

abbrev pub pages : Rig → Paged
pages r = paged (lone_shape r.rows.frames r.rows.locks r.rows.workers) r.seat.view r.pager

-- The seat is that of the rows, and the pager keeps what it has to. Nothing is known of what the disk gives.
pub record IsWhole (r : Rig) : Type 0 where
  pub fits : IsPicture (plan (sizes r.rows.frames r.rows.locks r.rows.workers) r.seat.view.given) r.rows.words.items r.seat.view
  pub paged : IsPaged (pages r)
  pub well : r.pager.broken ≡ false
  pub unknown : r.seat.view.given.faithful ≡ false

-- so it is while each page has come
abbrev pub Stands : Rig → Type 0
Stands r = r.works ≡ true → IsWhole r
