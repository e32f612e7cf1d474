-- The rule of the table, as a fact on its words and views.
use Rattle.std.specs.Prelude.{◌≡◌, ◌≢◌, length, ℕ, ◌+◌, ◌<◌, ◌≤◌, ◌⊎◌, true, false, List, [], ◌∷◌, ◌++◌}
use Rattle.rows_trait.specs.row_words.declared.event.Event.{Event}
use Rattle.rows_trait.specs.row_words.declared.given.Given.{Given}
use Rattle.rows_trait.specs.row_words.Sealed.{begun}
use Rattle.rows_trait.specs.declared.view.View.{View}
use Rattle.rows_trait.specs.Layout.{Sizes, size_of}
use Rattle.rows_trait.specs.Plain.{sizes}
use Rattle.rows_trait.specs.Views.{Shape, AreLow, AreTame, AreBelow, Ends, IsPart}
use Rattle.rows_trait.specs.Rule.{Plan, Keeps, plan}
use Rattle.rows_trait.specs.Turns.{Taken, Refused, Published, Ran}
use Rattle.atomic_table.specs.Table.{State, Allows}
use Rattle.shared_rows.specs.declared.rule.About.{About}

abbrev pub plan_of : About → Plan
plan_of about = plan (sizes about.frames about.locks about.workers) about.trace.view.given

abbrev pub newcomer : ℕ → Given → List Event → View
newcomer actor given seen = record { live = true; given = given; actor = actor; seen = seen; steps = []; held = []; made = 0; ended = [] }

-- the seat that makes others, after it has made so many
abbrev pub making : ℕ → View → View
making made v = record { live = v.live; given = v.given; actor = v.actor; seen = v.seen; steps = v.steps; held = v.held; made = made; ended = v.ended }

abbrev pub first_view : About → View
first_view about = making 1 (newcomer 0 about.trace.view.given about.trace.view.seen)

-- something has happened under which the words and the views keep the rule
abbrev pub Ruled : Plan → State (Unit {0}) View → Type 0
Ruled k s = (happened : List Event) × Keeps k happened s.words s.views

-- what a seat has loaded from latches is low, and what it has seen is tame
abbrev pub IsLow : View → Type 0
IsLow v = v.live ≡ true → AreLow (length v.seen) v.steps × AreTame v.given (begun v.given) v.seen

-- a step of a seat with this view on the word at this place may tell this
abbrev pub MayTell : Plan → ℕ → ℕ → View → ℕ → (ℕ → ℕ) → (ℕ → View → Type 0) → Type 0
MayTell k slots id v place f then = Allows (Ruled k) slots id (v, []) place f (λ n me. then n me.0 × IsLow me.0 × (me.1 ≡ []))

-- a row was latched from this version, or it had another
abbrev pub Exchanged : Shape → ℕ → ℕ → (ℕ → List Event) → View → ℕ → View → Type 0
Exchanged z row version names v n w = ((n ≡ version) × Taken z row version names v w) ⊎ Refused z row version names v n w

abbrev pub PublishedAs : Shape → ℕ → (ℕ → List Event) → View → ℕ → View → Type 0
PublishedAs z row names v n w = (e : Event) × (names 0 ≡ e ∷ []) × Published z row e v w

-- the seat after it has made another, and the other
abbrev pub maker : View → View
maker v = making (v.made + 1) v

abbrev pub made_by : View → View
made_by v = newcomer v.made v.given v.seen

-- a seat after another has ended in it
abbrev pub joined : View → View → View
joined v w = record { live = v.live; given = v.given; actor = v.actor; seen = v.seen; steps = v.steps; held = v.held; made = v.made; ended = record { actor = w.actor; seen = w.seen } ∷ v.ended }

-- the one seat of plain rows, as a share ends
abbrev pub returned : View → View
returned v = newcomer 0 v.given v.seen

-- all other seats have ended in this one, which has seen all their events and holds no row
pub record IsLast (v : View) : Type 0 where
  pub live : v.live ≡ true
  pub held : v.held ≡ []
  pub makes : 0 < v.made
  pub all : (a : ℕ) → a < v.made → a ≢ v.actor → (seen : List Event) × Ends a seen v.ended
  pub known : (a : ℕ) (seen : List Event) → Ends a seen v.ended → IsPart a seen v.seen

-- A load at which the seat that makes others sees all that the seats did which have ended in it, and no event of an actor that it
-- has not made.
pub record Settled (v : View) (n : ℕ) (w : View) : Type 0 where
  pub ran : Ran false v [] w
  pub held : w.held ≡ v.held
  pub below : 0 < v.made → (rest : List Event) → w.seen ≡ v.seen ++ rest → AreBelow v.made rest
  pub known : (a : ℕ) (seen : List Event) → Ends a seen w.ended → IsPart a seen w.seen

-- an empty list with room for the words of plain rows
abbrev pub IsRoom : Sizes → List ℕ → ℕ → Type 0
IsRoom z items capacity = (items ≡ []) × (size_of z ≤ capacity)
