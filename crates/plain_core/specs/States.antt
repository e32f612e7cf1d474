-- What the program's state stands for.
use Rattle.std.specs.Prelude.{◌≡◌, ◌≤◌, ◌<◌, ◌%◌, ◌==◌, ℕ, Bool, if◌then◌else◌}
use Rattle.map_model.specs.Maps.{key_end, value_end}
use Rattle.page_model.specs.Nodes as nodes
use Rattle.page_model.specs.Tree.{IsTree}
use Rattle.core_state.specs.States as model
use Rattle.core_state.specs.Openings as openings
use Rattle.core_state.specs.Events.{Event}
use Rattle.core_state.specs.Needs.{may}
use Rattle.core_state.specs.Steps.{step}
use Rattle.plain_core.specs.declared.state.Settings.{Settings}
use Rattle.plain_core.specs.declared.state.Place.{Place}
use Rattle.plain_core.specs.declared.state.Place.TheVariants as places
use Rattle.plain_core.specs.declared.state.Row.{Row}
use Rattle.plain_core.specs.declared.state.Worker.{Worker}
use Rattle.plain_core.specs.declared.state.Core.{Core}
use Rattle.plain_core.specs.Tables.{at}
use Rattle.plain_core.specs.Records.{page_of, entries_of}

-- The rest of an opening with these numbers: what its pages hold, and that it may be opened.
pub record Rest (s : Settings) : Type 0 where
  pub gsn : ℕ → ℕ
  pub last : ℕ → ℕ
  pub node : ℕ → nodes.Node
  pub some : 0 < s.room
  pub wide : 0 < s.top
  pub some_worker : 0 < s.workers
  pub some_frame : 0 < s.frames
  pub fit : s.joined ≤ s.room
  pub keys : s.top ≤ key_end
  pub values : s.dead ≤ value_end
  pub low : (p : ℕ) → gsn p ≤ s.base
  pub tree : IsTree (record { pages = s.pages; room = s.room; levels = s.levels; dead = s.dead; top = s.top; some = some; wide = wide }) node

-- the numbers of its format
abbrev pub format_of : (s : Settings) → Rest s → nodes.Format
format_of s x = record { pages = s.pages; room = s.room; levels = s.levels; dead = s.dead; top = s.top; some = x.some; wide = x.wide }

-- the lock row of a key
abbrev pub row_at : ℕ → ℕ → ℕ
row_at rows k = if rows == 0 then k else k % rows

-- the opening
abbrev pub opening : (s : Settings) → Rest s → openings.Opening
opening s x = record { faithful = s.faithful; workers = s.workers; frames = s.frames; row_of = row_at s.rows; changes = s.changes; joined = s.joined; base = s.base; format = format_of s x; gsn = x.gsn; last = x.last; node = x.node; some_worker = x.some_worker; some_frame = x.some_frame; fit = x.fit; keys = x.keys; values = x.values; low = x.low; tree = x.tree }

-- where a page stands
abbrev pub place_of : Place → model.Place
place_of (places.Hot f) = model.Place.Hot f
place_of (places.Cooling f e waited) = model.Place.Cooling f e (at waited)
place_of places.Cold = model.Place.Cold

-- a lock row
abbrev pub row_of : Row → model.Row
row_of o = record { holder = o.holder; readers = o.readers.items; number = o.number; log = o.log; read_end = o.read_end }

-- a worker
abbrev pub worker_of : Worker → model.Worker
worker_of a = record { clock = a.clock; floor = a.floor; debt = a.debt; txn = a.txn; end = a.end; is_open = a.is_open; changes = entries_of a.changes.items }

-- the state: each table is a function from numbers
abbrev pub state_of : Core → model.State
state_of c = record {
  entries = entries_of c.entries.items;
  page = λ p. page_of (at c.pages p);
  saved = λ p. page_of (at c.saved p);
  place = λ p. place_of (at c.places p);
  queue = c.queue.items;
  row = λ i. row_of (at c.rows i);
  worker = λ w. worker_of (at c.workers w);
  flushed = at c.flushed;
  head = at c.heads;
  floor = c.floor;
  cut = c.cut;
  posted = c.posted;
  inside = at c.inside;
  epoch = c.epoch;
}

-- the core stands for this state then, and has its numbers still
pub record Becomes (old new : Core) (s : model.State) : Type 0 where
  pub settings : new.settings ≡ old.settings
  pub state : state_of new ≡ s

-- it is said whether the event's need is met, and the state is that after a step
pub record IsStep (g : openings.Opening) (old new : Core) (e : Event) (is_met : Bool) : Type 0 where
  pub met : is_met ≡ may g (state_of old) e
  pub becomes : Becomes old new (step g (state_of old) e)
