-- What the queue tells of pages, and what its calls are among the pager's events.
use Rattle.std.specs.Prelude.{◌≡◌, ◌<◌, ℕ, true, false, not, List, [], ◌∷◌, ◌++◌, length, Option, None, Some}
use Rattle.map_model.specs.Lists.{upd}
use Rattle.lean_proto.specs.core_state.Openings.{Opening}
use Rattle.lean_proto.specs.core_state.States.{Place, State, is_hot, is_cooling, in_frame, frame_of, epoch_of}
use Rattle.lean_proto.specs.core_state.Events.{Event}
use Rattle.lean_proto.specs.core_state.Needs.{may}
use Rattle.lean_proto.specs.core_state.Steps.{happens}
use Rattle.lean_proto.specs.core_paging.Paging.{Residence}
use Rattle.cooling_stage.specs.declared.stage.Cooling.{Cooling}
use Rattle.cooling_stage.specs.Queue.{found, without, IsOnce}
use Rattle.page_pool.specs.Pools.{Pool, Agrees, AreOnce, others, after}

-- ## What it tells

-- the entry of a page that stands there: one that cools has one, no other has
abbrev pub entry_of : ℕ → Place → Option Cooling
entry_of p (Place.Hot f) = None
entry_of p (Place.Cooling f e waited) = Some (record { page = p; frame = f; epoch = e })
entry_of p Place.Cold = None

-- an entry that is found of a page: the page cools in this frame, which is not the root's, since this epoch
pub record IsFound (g : Opening) (s : State) (p : ℕ) (x : Cooling) : Type 0 where
  pub page : x.page ≡ p
  pub cooling : is_cooling (s.place p) ≡ true
  pub frame : frame_of (s.place p) ≡ x.frame
  pub here : in_frame (s.place p) x.frame ≡ true
  pub epoch : epoch_of (s.place p) ≡ x.epoch
  pub below : p < g.format.pages
  pub within : x.frame < g.frames
  pub some : 0 < x.frame

pub record Tells (g : Opening) (s : State) (k : Pool) : Type 0 where
  -- each page stands in it once, and page 0 needs a frame of its own
  pub once : IsOnce k.queue
  pub fewer : length k.queue < g.frames
  -- of each page it holds the entry, if it has one
  pub told : (p : ℕ) → found p k.queue ≡ entry_of p (s.place p)
  -- so a page that is found cools, and a hot one is not found
  pub cooling : (p : ℕ) (x : Cooling) → found p k.queue ≡ Some x → IsFound g s p x
  pub hot : (p : ℕ) → is_hot (s.place p) ≡ true → found p k.queue ≡ None

abbrev pub EveryQueue : Type 0
EveryQueue = (g : Opening) (s : State) (k : Pool) → Residence g s → Agrees g s k → Tells g s k

-- ## What its calls are

-- A page that is cooled is chilled, with its frame and the global epoch: it is not there, and there is room.
pub record Chills (g : Opening) (s : State) (p f : ℕ) (k : Pool) : Type 0 where
  pub absent : found p k.queue ≡ None
  pub room : length k.queue < g.frames
  pub pool : after s (Event.Cool p) k ≡ record { queue = k.queue ++ record { page = p; frame = f; epoch = s.epoch } ∷ []; empty = k.empty; free = upd k.free p (not (s.page p).node.live) }

-- where it stands in this frame
abbrev pub EveryChill : Type 0
EveryChill = (g : Opening) (s : State) (p f : ℕ) (k : Pool) → may g s (Event.Cool p) ≡ true → Residence g s → Agrees g s k → in_frame (s.place p) f ≡ true → Chills g s p f k

-- A page that is rescued is there, and is hot in the frame of its entry.
pub record Rescues (g : Opening) (s : State) (p : ℕ) (k : Pool) : Type 0 where
  pub entry : Cooling
  pub there : found p k.queue ≡ Some entry
  pub told : IsFound g s p entry
  pub hot : (happens g s (Event.Rescue p)).place p ≡ Place.Hot entry.frame
  pub pool : after s (Event.Rescue p) k ≡ record { queue = without p k.queue; empty = k.empty; free = upd k.free p false }

abbrev pub EveryRescue : Type 0
EveryRescue = (g : Opening) (s : State) (p : ℕ) (k : Pool) → may g s (Event.Rescue p) ≡ true → Residence g s → Agrees g s k → Rescues g s p k

-- A page that is evicted is there, and the frame of its entry goes behind the empty ones.
pub record Takes (g : Opening) (s : State) (p : ℕ) (k : Pool) : Type 0 where
  pub entry : Cooling
  pub there : found p k.queue ≡ Some entry
  pub told : IsFound g s p entry
  pub pool : after s (Event.Evict p) k ≡ record { queue = without p k.queue; empty = k.empty ++ entry.frame ∷ []; free = k.free }

abbrev pub EveryTake : Type 0
EveryTake = (g : Opening) (s : State) (p : ℕ) (k : Pool) → may g s (Event.Evict p) ≡ true → Residence g s → Agrees g s k → Takes g s p k

-- To take the last of the empty frames leaves the others.
abbrev pub EveryPop : Type 0
EveryPop = (l : List ℕ) (f : ℕ) → AreOnce (l ++ f ∷ []) → others f (l ++ f ∷ []) ≡ l
