-- Where a page that is needed finds no frame: what rules that out, and that nothing but a sync helps then.
use Rattle.std.specs.Prelude.{◌≡◌, ◌<◌, ◌≤◌, ℕ, Bool, true, false, List, [], ◌∷◌}
use Rattle.map_model.specs.Lists.{all, any}
use Rattle.page_model.specs.Nodes.{covers}
use Rattle.core_crash.specs.core_state.Openings.{Opening}
use Rattle.core_crash.specs.core_state.Events.{Event, Mode}
use Rattle.core_crash.specs.core_state.Needs.{is_empty_frame, may}
use Rattle.core_crash.specs.core_state.States.{State, flushed_by_all, in_frame}
use Rattle.core_crash.specs.core_state.Steps.{AllMet, run, state_after, step}
use Rattle.core_calls.specs.LogEvents.{AreTaken, IsTight, SyncsWhere}

-- The frame is empty, or its page is none of the key's way and not above the number up to which all logs are flushed.
pub data IsLoose (g : Opening) (s : State) (key frame : ℕ) : Type 0 where
  Empty : is_empty_frame g s frame ≡ true → IsLoose g s key frame
  Ready : (page : ℕ) → in_frame (s.place page) frame ≡ true → covers (s.page page).node key ≡ false → (s.page page).gsn ≤ flushed_by_all g s → IsLoose g s key frame

-- a page is read, moved or saved, or the epoch goes on
abbrev pub is_move : Event → Bool
is_move (Event.Fetch p pairs) = true
is_move (Event.Load p f) = true
is_move (Event.Cool p) = true
is_move (Event.Rescue p) = true
is_move (Event.Save p) = true
is_move (Event.Evict p) = true
is_move Event.Tick = true
is_move _ = false

-- a page comes into a frame
abbrev pub is_load : Event → Bool
is_load (Event.Load p f) = true
is_load _ = false

-- over these events no page of the key's way leaves its frame
abbrev pub KeepsWay : Opening → State → (key : ℕ) → List Event → Type 0
KeepsWay g s key [] = Unit {0}
KeepsWay g s key (e ∷ es) = ((p f : ℕ) → covers (s.page p).node key ≡ true → in_frame (s.place p) f ≡ true → in_frame ((step g s e).place p) f ≡ true) × KeepsWay g (step g s e) key es

-- after a list of events
pub record PressLaws (g : Opening) (es : List Event) (key : ℕ) : Type 0 where
  -- where one frame could be given, a sync is not due, for whatever page
  pub loose : (frame : ℕ) → frame < g.frames → IsLoose g (state_after g es) key frame → AreTaken g (state_after g es) key → ⊥
  -- where none can, no move of pages changes that, and no page comes into a frame: a sync is due
  pub stuck : (moves : List Event) → all is_move moves ≡ true → AllMet g (state_after g es) moves → KeepsWay g (state_after g es) key moves → IsTight g (state_after g es) key
      → IsTight g (run g (state_after g es) moves) key × (any is_load moves ≡ false)

-- of each opening and each key
abbrev pub EveryPress : Type 0
EveryPress = (g : Opening) (es : List Event) (key : ℕ) → PressLaws g es key

-- ## By hand

-- Two leaves under the root, in frames 0 to 2, of which the second is full and nothing is flushed.
abbrev pub crowded : List Event
crowded =
    Event.Begin 1 0 ∷ Event.Lock 1 1 Mode.Alone ∷ Event.Change 1 0 1 10 ∷ Event.Lock 1 2 Mode.Alone ∷ Event.Change 1 0 2 20
    ∷ Event.Load 1 1 ∷ Event.Lift 1 1 ∷ Event.Load 2 2 ∷ Event.Split 1 1 2 0 1 ∷ Event.Lock 1 3 Mode.Alone ∷ Event.Change 1 2 3 30 ∷ []

-- To put key 4 page 3 is needed then, which is free. With three frames a sync comes first, behind which the first leaf can leave its frame.
abbrev pub pressed : List Event
pressed =
    Event.Lock 1 4 Mode.Alone ∷ Event.Flush 1 5 ∷ Event.Sync 5 ∷ Event.Cool 1 ∷ Event.Tick ∷ Event.Save 1 ∷ Event.Evict 1 ∷ Event.Load 3 1 ∷ []

-- An opening with three frames, and the same with four.
pub record WorkedPress : Type 0 where
  pub three : Opening
  pub frames_three : three.frames ≡ 3
  pub crowded_met : AllMet three (state_after three []) crowded
  pub pressed_met : AllMet three (state_after three crowded) pressed
  pub pressed_where : SyncsWhere (λ s. IsTight three s 4) three (state_after three crowded) false pressed
  -- where a frame is empty, the sync is one too many; and without the sync the page does not come
  pub four : Opening
  pub frames_four : four.frames ≡ 4
  pub early : AllMet four (state_after four crowded) pressed × (SyncsWhere (λ s. IsTight four s 4) four (state_after four crowded) false pressed → ⊥)
  pub unsaved : may three (run three (state_after three crowded) (Event.Lock 1 4 Mode.Alone ∷ Event.Cool 1 ∷ Event.Tick ∷ [])) (Event.Save 1) ≡ false
