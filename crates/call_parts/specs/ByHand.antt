-- A part of a call by hand: what a get does where its pages are hot.
use Rattle.std.specs.Prelude.{ℕ, [], ◌∷◌, Option}
use Rattle.lean_disk.specs.Story.{Story}
use Rattle.session_state.specs.row_words.declared.event.Event.TheVariants.{Lock, Read}
use Rattle.session_state.specs.row_words.declared.event.Mode.{Mode}
use Rattle.session_state.specs.rows_trait.declared.view.View.{View}
use Rattle.call_parts.specs.Memory.{Memory}
use Rattle.call_parts.specs.Parts.{Part}
use Rattle.call_parts.specs.Steps.{Sees}

-- a lock, and then a read, are one part
abbrev pub Worked : Story → Type 0
Worked s = (many own row page key : ℕ) (mode : Mode) (value : Option ℕ) (v u w : View) (was : Memory) → Sees (Lock own row mode ∷ []) v u → Sees (Read own page key value ∷ []) u w
    → Part many (Lock own row mode ∷ Read own page key value ∷ []) v w was was s s
