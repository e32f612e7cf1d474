-- A moment: a state of the core, and the pager's last answer to each worker; and how it goes on by events that are plain data.
-- A ghost field may hold neither functions nor proofs, so what rows begin with and what happened are data, and a state is what
-- they lead to.
use Rattle.std.specs.Prelude.{◌-◌, ◌^◌, ℕ, zero, suc, true, false, Bool, ◌==◌, List, [], ◌∷◌, None, slice_index, if◌then◌else◌}
use Rattle.std.proofs.Common.{lit<}
use Rattle.map_model.specs.Lists.{upd}
use Rattle.map_model.specs.Maps.{MapAnswer}
use Rattle.core_state.specs.image_model.Entries.{Contents}
use Rattle.page_model.specs.Pairs.{Pair}
use Rattle.page_model.specs.Nodes.{Format, free}
use Rattle.core_state.specs.Openings.{Opening}
use Rattle.core_state.specs.States as core
use Rattle.core_state.specs.Events as happening
use Rattle.core_state.specs.Steps as steps
use Rattle.row_words.specs.declared.event.Event.{Event}
use Rattle.row_words.specs.declared.event.Event.TheVariants as told
use Rattle.row_words.specs.declared.event.Mode.{Mode}
use Rattle.row_words.specs.declared.event.Mode.TheVariants as mode
use Rattle.row_words.specs.declared.event.Met.{Met}
use Rattle.row_words.specs.declared.event.Met.TheVariants as met
use Rattle.row_words.specs.declared.given.Given.{Given}
use Rattle.row_words.specs.declared.given.Page.{Page}
use Rattle.row_words.specs.declared.given.Entry.{Entry}

-- ## Events

-- the pairs of a page that is given
abbrev pub pairs_of : List Entry → List Pair
pairs_of [] = []
pairs_of (x ∷ xs) = record { key = x.key; word = x.word } ∷ pairs_of xs

-- the core's mode
abbrev pub mode_of : Mode → happening.Mode
mode_of mode.Shared = happening.Mode.Shared
mode_of mode.Alone = happening.Mode.Alone

-- the core's answer of a walk
abbrev pub met_of : Met → MapAnswer
met_of (met.Pair k v) = MapAnswer.Pair k v
met_of (met.Gap h) = MapAnswer.Gap h

-- the core's event
abbrev pub event_of : Event → happening.Event
event_of (told.Enter w e) = happening.Event.Enter w e
event_of (told.Leave w) = happening.Event.Leave w
event_of (told.Begin w f) = happening.Event.Begin w f
event_of (told.Lock w i m) = happening.Event.Lock w i (mode_of m)
event_of (told.Read w p k a) = happening.Event.Read w p k a
event_of (told.Next w p k a) = happening.Event.Next w p k (met_of a)
event_of (told.Peek w p k a) = happening.Event.Peek w p k a
event_of (told.Change w p k v) = happening.Event.Change w p k v
event_of (told.PutBack w p) = happening.Event.Put_back w p
event_of (told.Split w l r q i) = happening.Event.Split w l r q i
event_of (told.Lift w c) = happening.Event.Lift w c
event_of (told.Join w l r q) = happening.Event.Join w l r q
event_of (told.Drop w c) = happening.Event.Drop w c
event_of (told.Purge w p keys) = happening.Event.Purge w p keys
event_of (told.End w commit f) = happening.Event.End w commit f
event_of (told.Unlock w i) = happening.Event.Unlock w i
event_of (told.Flush w n) = happening.Event.Flush w n
event_of (told.Sync n) = happening.Event.Sync n
event_of (told.Post w n) = happening.Event.Post w n
event_of (told.Fetch p pairs) = happening.Event.Fetch p (pairs_of pairs)
event_of (told.Load p f) = happening.Event.Load p f
event_of (told.Cool p) = happening.Event.Cool p
event_of (told.Rescue p) = happening.Event.Rescue p
event_of (told.Save p) = happening.Event.Save p
event_of (told.Evict p) = happening.Event.Evict p
event_of told.Tick = happening.Event.Tick
event_of (told.Cut x heads) = happening.Event.Cut x (slice_index heads)
event_of (told.Ask w) = happening.Event.Ask w
event_of (told.Refused w n m) = happening.Event.Refused w n m
event_of (told.Miss w) = happening.Event.Miss w

-- ## Openings

-- so many pages; sixty pairs a page, levels 0 to 7; a tombstone is 2^63, and no key is 2^64 - 1
abbrev pub format_of : ℕ → Format
format_of pages = record { pages = pages; room = 60; levels = 7; dead = 2 ^ 63; top = 2 ^ 64 - 1; some = lit< tt; wide = lit< tt }

-- page p of those that are given, a free one where there is none
abbrev pub page_in : List Page → ℕ → Contents
page_in [] p = record { gsn = 0; last = 0; node = free }
page_in (x ∷ xs) zero = record { gsn = x.gsn; last = x.last; node = record { live = x.live; level = x.level; low = x.low; high = x.high; pairs = pairs_of x.pairs } }
page_in (x ∷ xs) (suc p) = page_in xs p

-- What a step reads of an opening: how many workers, frames, lock rows and pages there are.
pub record Sizes : Type 0 where
  pub workers : ℕ
  pub frames : ℕ
  pub rows : ℕ
  pub pages : ℕ

-- ## Moments

-- a state of the core; `answer`: what the pager last answered each worker
pub record Moment : Type 0 where
  pub core : core.State
  pub answer : ℕ → ℕ

-- what stands in the answer words after the event: an ask clears its worker's
abbrev pub answered : (ℕ → ℕ) → Event → ℕ → ℕ
answered a (told.Ask w) = upd a w 0
answered a (told.Refused w n m) = upd a w n
answered a _ = a

-- the state before anything happened
abbrev pub first_state : Given → core.State
first_state v = record {
  entries = [];
  page = page_in v.pages;
  saved = page_in v.pages;
  place = upd (λ _. core.Place.Cold) 0 (core.Place.Hot 0);
  queue = [];
  row = λ _. record { holder = None; readers = []; number = 0; log = 0; read_end = 0 };
  worker = λ _. record { clock = v.base; floor = v.base; debt = 0; txn = 0; end = v.base; is_open = false; changes = [] };
  flushed = λ _. v.base;
  head = λ _. 0;
  floor = v.base;
  cut = 0;
  posted = 0;
  inside = λ _. None;
  epoch = 0;
}

module _ (g : Opening) where
  -- the moment after an event
  abbrev pub step : Moment → Event → Moment
  step m e = record { core = steps.step g m.core (event_of e); answer = answered m.answer e }

  -- the first event first
  abbrev pub run : Moment → List Event → Moment
  run m [] = m
  run m (e ∷ es) = run (step m e) es

-- the core's events
abbrev pub events_of : List Event → List happening.Event
events_of [] = []
events_of (e ∷ es) = event_of e ∷ events_of es

-- the moment at which the rows begin
abbrev pub first_moment : Opening → Given → Moment
first_moment g v = run g (record { core = first_state v; answer = λ _. 0 }) v.before

-- ## Actors: 0 is the main actor, w worker w

-- the pager: a number above those of the workers, of which there are at most sixteen
abbrev pub pager : ℕ
pager = 17

-- who acts; the main actor syncs and cuts, the pager moves pages and ticks
abbrev pub actor_of : Event → ℕ
actor_of (told.Enter w e) = w
actor_of (told.Leave w) = w
actor_of (told.Begin w f) = w
actor_of (told.Lock w i m) = w
actor_of (told.Read w p k a) = w
actor_of (told.Next w p k a) = w
actor_of (told.Peek w p k a) = w
actor_of (told.Change w p k v) = w
actor_of (told.PutBack w p) = w
actor_of (told.Split w l r q i) = w
actor_of (told.Lift w c) = w
actor_of (told.Join w l r q) = w
actor_of (told.Drop w c) = w
actor_of (told.Purge w p keys) = w
actor_of (told.End w commit f) = w
actor_of (told.Unlock w i) = w
actor_of (told.Flush w n) = w
actor_of (told.Post w n) = w
actor_of (told.Ask w) = w
actor_of (told.Miss w) = w
actor_of (told.Sync n) = 0
actor_of (told.Cut x heads) = 0
actor_of _ = pager

-- the events of one actor
abbrev pub by : ℕ → List Event → List Event
by a [] = []
by a (e ∷ es) = if actor_of e == a then e ∷ by a es else by a es

-- begins and records of pages, but for put-backs: for these a worker's clock has to be below 2^62
abbrev pub is_rising : Event → Bool
is_rising (told.Begin w f) = true
is_rising (told.Change w p k v) = true
is_rising (told.Split w l r q i) = true
is_rising (told.Lift w c) = true
is_rising (told.Join w l r q) = true
is_rising (told.Drop w c) = true
is_rising (told.Purge w p keys) = true
is_rising _ = false

-- a sync changes all workers
abbrev pub is_sync : Event → Bool
is_sync (told.Sync n) = true
is_sync _ = false
