-- Words of private functions: several lines that are put, one after another.
use Rattle.std.specs.Prelude.{◌≡◌, ◌⊎◌, ◌≤◌, ◌++◌, ℕ, List}
use Rattle.map_model.specs.Maps.{Map, key_end}
use Rattle.page_model.specs.Pairs.{Pair}
use Rattle.pair_walk.specs.Listings.{Lists}
use Rattle.lean_disk.specs.Faults.{HasCause}
use Rattle.lean_disk.specs.Story.{Crash, LeavesNow, Story}
use Rattle.buffered_engine.specs.lean_edge.Outside.{Held, Puts}
use Rattle.buffered_engine.specs.lean_edge.declared.sink.Put.{Put}
use Rattle.buffered_engine.specs.lean_edge.declared.sink.Put.TheVariants as answers
use Rattle.buffered_engine.specs.recovery.declared.opening.Recovered.{Recovered}
use Rattle.lean_shell.specs.Dumps.{dump_text, map_text, pair_lines}
use Rattle.lean_shell.specs.Runs.{Counts}

-- Lines may have been noted, and else nothing happened: a crash is one that there was, or one that there might have been before but for its notes.
pub record OnlyPuts (old new : Story) : Type 0 where
  pub area : (a : ℕ) → new.area a ≡ old.area a
  pub tells : (a : ℕ) → new.tells a ≡ old.tells a
  pub areas : new.areas ≡ old.areas
  pub counts : new.counts ≡ old.counts
  pub later : old.moment ≤ new.moment
  pub nothing_else : (m : ℕ) (c : Crash) → new.left_at m c → old.left_at m c ⊎ LeavesNow old (record c { notes = old.notes })

-- the text was put, or after a failure of the sink some prefix of it
pub record ArePut (text : List ℕ) (answer : Put) (held0 held1 : Held) (sink0 sink1 : ℕ) (s0 s1 : Story) : Type 0 where
  pub puts : Puts text answer held0 held1
  pub cause : HasCause sink0 sink1 (answer ≡ answers.Failed)
  pub only : OnlyPuts s0 s1

-- of the text, this is still to be put
pub record IsStillToPut (text rest : List ℕ) (held0 held1 : Held) (sink0 sink1 : ℕ) (s0 s1 : Story) : Type 0 where
  pub done : List ℕ
  pub parts : done ++ rest ≡ text
  pub put : ArePut done answers.Done held0 held1 sink0 sink1 s0 s1

-- the lines of the map's pairs up to a key went out
pub record ArePutTo (map : Map) (high : ℕ) (held0 held1 : Held) (sink0 sink1 : ℕ) (s0 s1 : Story) : Type 0 where
  pub pairs : List Pair
  pub are : Lists map 0 high pairs
  pub put : ArePut (pair_lines pairs) answers.Done held0 held1 sink0 sink1 s0 s1

-- the lines of all pairs of the map were put
pub record PutsPairs (map : Map) (answer : Put) (held0 held1 : Held) (sink0 sink1 : ℕ) (s0 s1 : Story) : Type 0 where
  pub pairs : List Pair
  pub are : Lists map 0 key_end pairs
  pub put : ArePut (pair_lines pairs) answer held0 held1 sink0 sink1 s0 s1

-- and `end`
pub record PutsMap (map : Map) (answer : Put) (held0 held1 : Held) (sink0 sink1 : ℕ) (s0 s1 : Story) : Type 0 where
  pub pairs : List Pair
  pub are : Lists map 0 key_end pairs
  pub put : ArePut (map_text pairs) answer held0 held1 sink0 sink1 s0 s1

-- what the first line tells of what recovery gave
abbrev pub counts_of : Recovered → Counts
counts_of r = record { generation = r.master.generation; winners = r.winners; undone = r.undone }

-- the line of the opening before them
pub record PutsDump (counts : Counts) (map : Map) (answer : Put) (held0 held1 : Held) (sink0 sink1 : ℕ) (s0 s1 : Story) : Type 0 where
  pub pairs : List Pair
  pub are : Lists map 0 key_end pairs
  pub put : ArePut (dump_text counts pairs) answer held0 held1 sink0 sink1 s0 s1
