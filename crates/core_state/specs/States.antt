-- The state of the whole engine, apart from its bytes: pages, frames, locks, workers, logs and epochs.
use Rattle.map_model.specs.Lists.{upd}
use Rattle.rfa_model.specs.Reaches.{least}
use Rattle.image_model.specs.Entries.{Entry, Contents}
use Rattle.page_model.specs.Nodes.{Node}
use Rattle.core_state.specs.Openings.{Opening, start_page}
use Rattle.std.specs.Prelude.{ℕ, Bool, true, false, ◌==◌, List, [], Option, None}

-- Hot: its parent names its frame. Cooling: in a frame, but its parent names the page; with the global epoch of its
-- Cool, and which of the workers that were inside then have not left since. Cold: in no frame.
pub data Place : Type 0 where
  Hot : (f : ℕ) → Place
  Cooling : (f e : ℕ) → (waited : ℕ → Bool) → Place
  Cold : Place

-- who holds it alone, who shares it, the stamp of its last exclusive end, and the greatest end of a reader
pub record Row : Type 0 where
  pub holder : Option ℕ
  pub readers : List ℕ
  pub number : ℕ
  pub log : ℕ
  pub read_end : ℕ

-- `end` is the number of the worker's last end record; `changes` are the open transaction's, the newest first
pub record Worker : Type 0 where
  pub clock : ℕ
  pub floor : ℕ
  pub debt : ℕ
  pub txn : ℕ
  pub end : ℕ
  pub is_open : Bool
  pub changes : List Entry

-- Entries are what happened, the newest first; log w is its records of log w. `flushed`, `head`: of each log, the
-- number up to which it is flushed, and the number behind which it begins. `floor`: the master's. `cut`: the greatest
-- number of a Cut. `inside`: the epoch of each worker that is inside. `posted`: the posted need.
pub record State : Type 0 where
  pub entries : List Entry
  pub page : ℕ → Contents
  pub saved : ℕ → Contents
  pub place : ℕ → Place
  pub queue : List ℕ
  pub row : ℕ → Row
  pub worker : ℕ → Worker
  pub flushed : ℕ → ℕ
  pub head : ℕ → ℕ
  pub floor : ℕ
  pub cut : ℕ
  pub posted : ℕ
  pub inside : ℕ → Option ℕ
  pub epoch : ℕ

-- nothing is open, locked, owed or logged; page 0 alone is hot, in frame 0
abbrev pub start : Opening → State
start g = record {
  entries = [];
  page = start_page g;
  saved = start_page g;
  place = upd (λ _. Place.Cold) 0 (Place.Hot 0);
  queue = [];
  row = λ _. record { holder = None; readers = []; number = 0; log = 0; read_end = 0 };
  worker = λ _. record { clock = g.base; floor = g.base; debt = 0; txn = 0; end = g.base; is_open = false; changes = [] };
  flushed = λ _. g.base;
  head = λ _. 0;
  floor = g.base;
  cut = 0;
  posted = 0;
  inside = λ _. None;
  epoch = 0;
}

-- the least flushed number
abbrev pub flushed_by_all : Opening → State → ℕ
flushed_by_all g s = least s.flushed g.workers

-- the pages' contents
abbrev pub nodes_of : State → ℕ → Node
nodes_of s p = (s.page p).node

-- and their numbers
abbrev pub gsns_of : State → ℕ → ℕ
gsns_of s p = (s.page p).gsn

-- ## Places

-- its parent names its frame
abbrev pub is_hot : Place → Bool
is_hot (Place.Hot f) = true
is_hot (Place.Cooling f e v) = false
is_hot Place.Cold = false

-- it is in a frame, and in the queue
abbrev pub is_cooling : Place → Bool
is_cooling (Place.Hot f) = false
is_cooling (Place.Cooling f e v) = true
is_cooling Place.Cold = false

-- it is in no frame
abbrev pub is_cold : Place → Bool
is_cold (Place.Hot f) = false
is_cold (Place.Cooling f e v) = false
is_cold Place.Cold = true

-- it stands in frame i
abbrev pub in_frame : Place → ℕ → Bool
in_frame (Place.Hot f) i = f == i
in_frame (Place.Cooling f e v) i = f == i
in_frame Place.Cold i = false

-- the frame in which it stands, 0 where in none
abbrev pub frame_of : Place → ℕ
frame_of (Place.Hot f) = f
frame_of (Place.Cooling f e v) = f
frame_of Place.Cold = 0

-- the epoch since which a page cools
abbrev pub epoch_of : Place → ℕ
epoch_of (Place.Hot f) = 0
epoch_of (Place.Cooling f e v) = e
epoch_of Place.Cold = 0

-- it cools, and waits for worker w
abbrev pub waits_for : Place → ℕ → Bool
waits_for (Place.Hot f) w = false
waits_for (Place.Cooling f e v) w = v w
waits_for Place.Cold w = false

-- w left
abbrev pub left_by : ℕ → Place → Place
left_by w (Place.Hot f) = Place.Hot f
left_by w (Place.Cooling f e v) = Place.Cooling f e (upd v w false)
left_by w Place.Cold = Place.Cold
