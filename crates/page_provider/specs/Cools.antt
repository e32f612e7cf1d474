-- A page that was cooled, and a step of the hand.
use Rattle.std.specs.Prelude.{◌≡◌, ◌≢◌, ◌≤◌, ◌<◌, ◌⊎◌, ℕ, Bool, true, false, List, [], ◌∷◌, ◌++◌, length, Option, Some, None}
use Rattle.btree_descent.specs.core_state.Needs.{has_hot_child}
use Rattle.btree_descent.specs.core_state.States.{Place, State, is_hot}
use Rattle.page_model.specs.Check.{names_page}
use Rattle.btree_descent.specs.row_words.declared.event.Event.TheVariants.{Cool, Tick}
use Rattle.btree_descent.specs.row_words.Openings.{opening}
use Rattle.btree_descent.specs.rows_trait.declared.view.View.{View}
use Rattle.btree_descent.specs.rows_trait.Views.{Shape, state}
use Rattle.row_image.specs.Hot.{IsHotIn}
use Rattle.cooling_stage.specs.declared.stage.Cooling.{Cooling}
use Rattle.page_pool.specs.Full.{NoCandidate}
use Rattle.page_provider.specs.Moves.{AreMet, KeepsPath, Moved, Rested, way}
use Rattle.page_provider.specs.Providers.{Provider}
use Rattle.page_provider.specs.Shares.{cools_in}
use Rattle.page_provider.specs.Steps.{Goes}

-- ## Which page

-- Page q is page p, or a child of a page that hangs under p; each of them is hot.
abbrev pub Hangs : State → (p : ℕ) → List ℕ → (q : ℕ) → Type 0
Hangs s p [] q = p ≡ q
Hangs s p (c ∷ cs) q = (names_page (s.page p).node c ≡ true) × (is_hot (s.place c) ≡ true) × Hangs s c cs q

-- a page other than page 0 stands hot in the frame
pub record CanCool (v : View) (frame page : ℕ) : Type 0 where
  pub hot : IsHotIn v.given (state v) frame page
  pub other : page ≢ 0

-- ## What was done

-- the page went behind the others of the queue, with its frame and the global epoch
abbrev pub chilled : Provider → Cooling → (free : List Bool) → (hand : ℕ) → Provider
chilled was entry free hand = record was { queue = was.queue ++ entry ∷ []; free = free; hand = hand }

-- A page was cooled, and the global epoch went on.
pub record HasCooled (z : Shape) (v : View) (was : Provider) (entry : Cooling) (u : View) (is : Provider) : Type 0 where
  pub moved : Moved 0 z v was u is
  pub events_are : moved.events ≡ Cool entry.page ∷ (Tick ∷ [])
  pub hot : (state v).core.place entry.page ≡ Place.Hot entry.frame
  pub memory : is ≡ chilled was entry is.free is.hand
  pub rested : Rested z v u
  -- every other hot page stands where it stood
  pub others : (p : ℕ) → p ≢ entry.page → is_hot ((state v).core.place p) ≡ true → (state u).core.place p ≡ (state v).core.place p

-- nothing was done: the hand alone may have gone on
pub record Idle (z : Shape) (v : View) (was : Provider) (u : View) (is : Provider) : Type 0 where
  pub moved : Moved 0 z v was u is
  pub events_are : moved.events ≡ []
  pub memory : is ≡ record was { hand = is.hand }
  pub rested : Rested z v u

-- The page was cooled; the global epoch is to go on.
pub record HasUnhooked (z : Shape) (v : View) (was : Provider) (entry : Cooling) (u : View) (is : Provider) : Type 0 where
  pub goes : Goes z v (Cool entry.page ∷ []) u is
  pub met : AreMet v.given (state v) goes.ran.more
  pub hot : (state v).core.place entry.page ≡ Place.Hot entry.frame
  pub memory : is ≡ chilled was entry is.free was.hand
  pub epoch : (state u).core.epoch ≡ (state v).core.epoch
  pub rested : Rested z v u
  pub others : (p : ℕ) → p ≢ entry.page → is_hot ((state v).core.place p) ≡ true → (state u).core.place p ≡ (state v).core.place p

-- it was, or not, which never is where nobody else steps
abbrev pub Unhooks : Bool → Shape → View → Provider → Cooling → View → Provider → Type 0
Unhooks true z v was entry u is = HasUnhooked z v was entry u is
Unhooks false z v was entry u is = Idle z v was u is × (z.alone ≡ false)

-- and the global epoch went on
abbrev pub CoolsOrNot : Shape → View → Provider → (page frame : ℕ) → Option Cooling → View → Provider → Type 0
CoolsOrNot z v was page frame (Some entry) u is = HasCooled z v was entry u is × (entry.page ≡ page) × (entry.frame ≡ frame) × (is.hand ≡ was.hand)
CoolsOrNot z v was page frame None u is = Idle z v was u is × (z.alone ≡ false) × (is ≡ was)

-- The page in the frame was cooled, or one that hangs under it.
pub record CoolsUnder (z : Shape) (frame : ℕ) (v : View) (was : Provider) (u : View) (is : Provider) : Type 0 where
  pub entry : Cooling
  pub cooled : HasCooled z v was entry u is
  pub under : z.alone ≡ true → (page : ℕ) → IsHotIn v.given (state v) frame page → (chain : List ℕ) × Hangs (state v).core page chain entry.page

abbrev pub CoolsIn : Shape → (frame : ℕ) → View → Provider → Bool → View → Provider → Type 0
CoolsIn z frame v was true u is = CoolsUnder z frame v was u is
CoolsIn z frame v was false u is = Idle z v was u is × (z.alone ≡ false)

-- ## A step of the hand, and a turn

-- a page that is off the way was cooled
pub record Stepped (z : Shape) (path : List ℕ) (v : View) (was : Provider) (entry : Cooling) (u : View) (is : Provider) : Type 0 where
  pub cooled : HasCooled z v was entry u is
  pub off : way path (state v).core entry.page ≡ false

-- Or none was: where nobody else steps a page that stands hot in the frame and has no hot child is on the way.
abbrev pub Steps : Shape → List ℕ → (frame : ℕ) → View → Provider → Option Cooling → View → Provider → Type 0
Steps z path frame v was (Some entry) u is = Stepped z path v was entry u is
Steps z path frame v was None u is = Idle z v was u is × (z.alone ≡ true → (q : ℕ) → IsHotIn u.given (state u) frame q → way path (state u).core q ≡ false → has_hot_child (opening u.given) (state u).core q ≡ true)

-- over frames from one to another
abbrev pub Passes : Shape → List ℕ → (from to : ℕ) → View → Provider → Option Cooling → View → Provider → Type 0
Passes z path from to v was (Some entry) u is = Stepped z path v was entry u is
Passes z path from to v was None u is = Idle z v was u is × (z.alone ≡ true → (f q : ℕ) → from ≤ f → f < to → IsHotIn u.given (state u) f q → way path (state u).core q ≡ false → has_hot_child (opening u.given) (state u).core q ≡ true)

-- in a turn over all frames
abbrev pub Turns : Shape → List ℕ → View → Provider → Option Cooling → View → Provider → Type 0
Turns z path v was (Some entry) u is = Stepped z path v was entry u is
Turns z path v was None u is = Idle z v was u is × (z.alone ≡ true → NoCandidate (opening u.given) (state u).core (way path (state u).core))

-- Pages were cooled, none of them on the way: those of the queue came first, and stand there still.
pub record Chills (z : Shape) (path : List ℕ) (v : View) (was : Provider) (u : View) (is : Provider) : Type 0 where
  pub moved : Moved 0 z v was u is
  pub keeps : KeepsPath path v u
  pub rested : Rested z v u
  pub more : List Cooling
  pub queue : is.queue ≡ was.queue ++ more
  pub count : cools_in moved.events ≡ length more
  pub memory : is ≡ record was { queue = is.queue; free = is.free; hand = is.hand }

-- Behind that the queue has so many pages, or a turn has found none to cool. It has no more, or is as long as it was.
pub record HasChilled (z : Shape) (path : List ℕ) (wanted : ℕ) (v : View) (was : Provider) (u : View) (is : Provider) : Type 0 where
  pub chills : Chills z path v was u is
  pub few : (length is.queue ≡ length was.queue) ⊎ (length is.queue ≤ wanted)
  pub enough : (wanted ≤ length is.queue) ⊎ (z.alone ≡ true → NoCandidate (opening u.given) (state u).core (way path (state u).core))
