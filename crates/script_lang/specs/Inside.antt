-- What private functions of the reader and of lines say.
use Rattle.std.specs.Prelude.{◌≡◌, ◌==◌, ◌<◌, ℕ, List, [], ◌∷◌, Option, Some, None, if◌then◌else◌, slice_index, take, length}
use Rattle.map_model.specs.declared.call.Call.{Call}
use Rattle.script_lang.specs.Lines.{scan_of}
use Rattle.script_lang.specs.Text.{IsLine}
use Rattle.script_lang.specs.Reading.{Unread, IsShort, IsLong, Takes}
use Rattle.script_lang.specs.declared.reader.Look.{Look}
use Rattle.script_lang.specs.declared.reader.Look.TheVariants as look

-- the first newline stands at a place
pub record IsNewline (bytes : List ℕ) (at : ℕ) : Type 0 where
  pub within : at < length bytes
  pub line : IsLine (take at bytes)
  pub newline : slice_index bytes at ≡ 10

-- what was seen among the bytes that were taken
abbrev pub Looked : Look → Unread → Unread → Type 0
Looked look.Line old new = Takes old.bytes new.line new.bytes × (new.ended ≡ old.ended)
Looked look.TooLong old new = IsLong old.bytes × (new.bytes ≡ old.bytes) × (new.ended ≡ old.ended)
Looked look.More old new = IsShort old.bytes × (new.bytes ≡ old.bytes) × (new.ended ≡ old.ended)

-- what stands behind the word `scan`: a space and two keys
abbrev pub behind_scan : List ℕ → Option Call
behind_scan [] = None
behind_scan (b ∷ keys) = if b == 32 then scan_of (Some keys) else None
