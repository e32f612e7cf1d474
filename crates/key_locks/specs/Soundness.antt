-- Rows are sound where their holders and readers are workers: the log of a stamp is a holder's.
use Rattle.std.specs.Prelude.{◌≡◌, ℕ, true, List, []}
use Rattle.lean_proto.specs.core_state.States.{Row}
use Rattle.lean_proto.specs.core_state.Needs.{is_held_by, is_reader}
use Rattle.lean_proto.specs.row_words.declared.event.Event.{Event}
use Rattle.lean_proto.specs.row_words.declared.given.Given.{Given}
use Rattle.lean_proto.specs.row_words.Openings.{opening}
use Rattle.lean_proto.specs.rows_trait.Views.{after_all}
use Rattle.key_locks.specs.Rows.{IsWorker, IsSound}

-- holders and readers are workers
pub record AreWorkers (n : ℕ) (o : Row) : Type 0 where
  pub holder : (w : ℕ) → is_held_by o.holder w ≡ true → IsWorker n w
  pub reader : (w : ℕ) → is_reader w o.readers ≡ true → IsWorker n w

-- what was given, before anything happened
abbrev pub unbegun : Given → Given
unbegun v = record v { before = [] }

-- if so it is with each row at each moment from then on, rows are sound at each moment that can come
abbrev pub EverySound : Type 0
EverySound = (v : Given) → ((es : List Event) (i : ℕ) → AreWorkers (opening v).workers ((after_all (unbegun v) es).core.row i)) → IsSound v
