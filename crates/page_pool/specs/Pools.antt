-- What the pager knows in memory, and how it agrees with a state of the core.
use Rattle.std.specs.Prelude.{◌≡◌, ◌<◌, ◌==◌, ℕ, Bool, true, false, ◌&&◌, not, List, [], ◌∷◌, ◌++◌, map, if◌then◌else◌}
use Rattle.map_model.specs.Lists.{Has, upd}
use Rattle.lean_proto.specs.core_state.Openings.{Opening}
use Rattle.lean_proto.specs.core_state.States.{State, is_hot, is_cooling, in_frame, frame_of, epoch_of}
use Rattle.lean_proto.specs.core_state.Events.{Event}
use Rattle.lean_proto.specs.core_state.Needs.{may, is_empty_frame}
use Rattle.lean_proto.specs.core_state.Steps.{happens}
use Rattle.lean_proto.specs.core_paging.Paging.{Residence}
use Rattle.lean_proto.specs.row_words.Openings.{opening}
use Rattle.lean_proto.specs.rows_trait.declared.view.View.{View}
use Rattle.lean_proto.specs.rows_trait.Views.{state}
use Rattle.lean_proto.specs.Still.{Stood}
use Rattle.cooling_stage.specs.declared.stage.Cooling.{Cooling}
use Rattle.cooling_stage.specs.Queue.{without}

-- the queue, the frames in which no page stands, and whether a page is free and not hot
pub record Pool : Type 0 where
  pub queue : List Cooling
  pub empty : List ℕ
  pub free : ℕ → Bool

-- an entry of the queue: the page cools in this frame since this epoch
pub record IsEntry (s : State) (x : Cooling) : Type 0 where
  pub frame : in_frame (s.place x.page) x.frame ≡ true
  pub cooling : is_cooling (s.place x.page) ≡ true
  pub epoch : epoch_of (s.place x.page) ≡ x.epoch

-- each number stands once
abbrev pub AreOnce : List ℕ → Type 0
AreOnce [] = Unit {0}
AreOnce (x ∷ xs) = (Has x xs → ⊥) × AreOnce xs

pub record Agrees (g : Opening) (s : State) (k : Pool) : Type 0 where
  pub queue : map (λ (x : Cooling). x.page) k.queue ≡ s.queue
  pub entries : (x : Cooling) → Has x k.queue → IsEntry s x
  -- the empty frames, no others, and each once
  pub empty : (f : ℕ) → Has f k.empty → (f < g.frames) × (is_empty_frame g s f ≡ true)
  pub every : (f : ℕ) → f < g.frames → is_empty_frame g s f ≡ true → Has f k.empty
  pub once : AreOnce k.empty
  -- the free pages that are not hot
  pub free : (p : ℕ) → p < g.format.pages → k.free p ≡ (not (s.page p).node.live && not (is_hot (s.place p)))

-- a frame was taken
abbrev pub others : ℕ → List ℕ → List ℕ
others f [] = []
others f (x ∷ xs) = if x == f then others f xs else x ∷ others f xs

-- what the pager knows behind an event of its own
abbrev pub after : State → Event → Pool → Pool
after s (Event.Load p f) k = record { queue = k.queue; empty = others f k.empty; free = upd k.free p false }
after s (Event.Cool p) k = record { queue = k.queue ++ record { page = p; frame = frame_of (s.place p); epoch = s.epoch } ∷ []; empty = k.empty; free = upd k.free p (not (s.page p).node.live) }
after s (Event.Rescue p) k = record { queue = without p k.queue; empty = k.empty; free = upd k.free p false }
after s (Event.Evict p) k = record { queue = without p k.queue; empty = k.empty ++ frame_of (s.place p) ∷ []; free = k.free }
after s _ k = k

-- the pager's events
abbrev pub is_pagers : Event → Bool
is_pagers (Event.Load p f) = true
is_pagers (Event.Cool p) = true
is_pagers (Event.Rescue p) = true
is_pagers (Event.Save p) = true
is_pagers (Event.Evict p) = true
is_pagers Event.Tick = true
is_pagers _ = false

-- over each of them it agrees on
abbrev pub EveryPool : Type 0
EveryPool = (g : Opening) (s : State) (e : Event) (k : Pool) → is_pagers e ≡ true → may g s e ≡ true → Residence g s → Agrees g s k → Agrees g (happens g s e) (after s e k)

-- and over whatever workers do
abbrev pub EveryStanding : Type 0
EveryStanding = (v u : View) (k : Pool) → u.given ≡ v.given → Stood v u → Agrees (opening v.given) (state v).core k → Agrees (opening u.given) (state u).core k
