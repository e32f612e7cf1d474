-- The hint of a frame row, where it names no frame.
use Rattle.std.specs.Prelude.{◌+◌, ℕ}
use Rattle.page_model.specs.Limits.{frame_bit}

-- of a row in which no hot page stands
abbrev pub mark : ℕ
mark = frame_bit + 1
