-- The master that the bytes of a slot spell, if they spell one; and the one that counts.
use Rattle.std.specs.Prelude.{ℕ, Bool, ◌&&◌, leb, ltb, ◌==◌, ◌^◌, ◌%◌, List, length, drop, take, slice_index, Option, Some, None, if◌then◌else◌}
use Rattle.std.specs.Str.{bytes_eq}
use Rattle.map_model.specs.Lists.{all}
use Rattle.image_model.specs.Fair.{piece}
use Rattle.disk_slots.specs.Masters.{master_slot}
use Rattle.disk_slots.specs.declared.master.Master.{Master}
use Rattle.disk_image.specs.Words.{words_in}

-- the master of 126 words
abbrev pub master_of : List ℕ → Master
master_of ws = record {
  sequence = slice_index ws 1;
  generation = slice_index ws 2;
  floor = slice_index ws 3;
  pages = slice_index ws 4;
  blocks = slice_index ws 5;
  heads = take (slice_index ws 6) (drop 7 ws);
}

-- from one number up to another
abbrev pub is_among : ℕ → ℕ → ℕ → Bool
is_among least most n = leb least n && leb n most

-- a master of slot n
abbrev pub is_master : ℕ → Master → Bool
is_master n m = is_among 16 65536 m.pages && (is_among 64 4096 m.blocks && (is_among 1 16 (length m.heads) && ((m.sequence % 2 == n) && (
    ltb m.sequence (2 ^ 63) && (ltb m.generation (2 ^ 63) && (ltb m.floor (2 ^ 64) && all (λ h. ltb h (2 ^ 63)) m.heads))))))

abbrev pub master_if : ℕ → List ℕ → Master → Option Master
master_if n bytes m = if bytes_eq bytes (master_slot m) && is_master n m then Some m else None

-- the master whose slot n the bytes are
abbrev pub master_in : ℕ → List ℕ → Option Master
master_in n bytes = master_if n bytes (master_of (words_in 126 bytes))

-- of two, the one with the greater sequence number; they never have the same
abbrev pub newer : Option Master → Option Master → Option Master
newer None o = o
newer (Some m) None = Some m
newer (Some m) (Some o) = if ltb m.sequence o.sequence then Some o else Some m

-- the master of a disk whose area 0 has these bytes
abbrev pub master_on : List ℕ → Option Master
master_on bytes = newer (master_in 0 (piece 1024 0 bytes)) (master_in 1 (piece 1024 1 bytes))
