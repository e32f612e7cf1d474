-- Lock rows in memory, and the core's.
use Rattle.std.specs.Prelude.{if◌then◌else◌, ◌≡◌, ◌<◌, ◌⊎◌, ◌==◌, ℕ, max, Bool, true, false, List, length, replicate, slice_index_or, slice_set, Some, None}
use Rattle.core_commit.specs.core_state.States as core
use Rattle.core_commit.specs.core_state.Events.{Mode}
use Rattle.core_commit.specs.core_state.Needs.{is_held_by, is_free, is_reader, may_hold}
use Rattle.transactions.specs.declared.hindrance.Mode as modes
use Rattle.transactions.specs.declared.hindrance.Mode.TheVariants.{Shared, Alone}
use Rattle.mem_journal.specs.declared.row.Row.{Row}

-- the session shares it
abbrev pub has_reader : List Bool → ℕ → Bool
has_reader readers v = slice_index_or readers v false

-- held by w in the greater of the two modes
abbrev pub row_locked : Row → ℕ → modes.Mode → Row
row_locked r w Shared = if is_held_by r.holder w then r else record r { readers = slice_set r.readers w true }
row_locked r w Alone = if is_held_by r.holder w then r else record r { holder = Some w; readers = replicate 17 false }

-- w's hold goes, and tells of its last end
abbrev pub row_unlocked : Row → ℕ → ℕ → Row
row_unlocked r w end =
    if is_held_by r.holder w
    then record { holder = None; readers = slice_set r.readers w false; number = max r.number end; log = w; read_end = r.read_end }
    else record { holder = r.holder; readers = slice_set r.readers w false; number = r.number; log = r.log; read_end = max r.read_end end }

-- the row is the core's: whoever shares it is among its readers
pub record IsRow (o : core.Row) (r : Row) : Type 0 where
  pub holder : o.holder ≡ r.holder
  pub reader : (v : ℕ) → is_reader v o.readers ≡ has_reader r.readers v
  pub size : length r.readers ≡ 17
  pub number : o.number ≡ r.number
  pub log : o.log ≡ r.log
  pub read_end : o.read_end ≡ r.read_end

-- nobody but w shares it
abbrev pub HasNoOther : List Bool → ℕ → Type 0
HasNoOther readers w = (v : ℕ) → has_reader readers v ≡ true → (v == w) ≡ true

-- v is the least numbered one but w
pub record IsLeastOther (readers : List Bool) (w v : ℕ) : Type 0 where
  pub reads : has_reader readers v ≡ true
  pub other : (v == w) ≡ false
  pub least : (u : ℕ) → u < v → has_reader readers u ≡ true → (u == w) ≡ true

-- w may not hold the row so: v holds it alone, or nobody does and v is the least numbered other reader
pub record IsInTheWay (o : core.Row) (w : ℕ) (mode : Mode) (v : ℕ) : Type 0 where
  pub refused : may_hold o w mode ≡ false
  pub is : (o.holder ≡ Some v) ⊎ ((is_free o.holder ≡ true) × (is_reader v o.readers ≡ true) × ((v == w) ≡ false) × ((u : ℕ) → u < v → is_reader u o.readers ≡ true → (u == w) ≡ true))
