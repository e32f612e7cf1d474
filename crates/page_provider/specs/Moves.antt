-- What a call of the pager has done by its end: which events it appended, each of them met where it stands.
use Rattle.std.specs.Prelude.{◌≡◌, ◌≤◌, ◌==◌, ◌||◌, ℕ, suc, Bool, true, false, List, [], ◌∷◌}
use Rattle.map_model.specs.Lists.{Has, any}
use Rattle.btree_descent.specs.core_state.Needs as core
use Rattle.btree_descent.specs.core_state.States.{Place, State, is_cold}
use Rattle.btree_descent.specs.row_words.declared.event.Event.{Event}
use Rattle.btree_descent.specs.row_words.declared.event.Event.TheVariants.{Fetch, Load, Cool, Rescue, Save, Evict, Tick, Miss}
use Rattle.btree_descent.specs.row_words.declared.given.Given.{Given}
use Rattle.btree_descent.specs.row_words.Moments.{Moment, actor_of, event_of, pager}
use Rattle.btree_descent.specs.row_words.Openings.{opening}
use Rattle.btree_descent.specs.row_words.Sealed.{stepped}
use Rattle.btree_descent.specs.rows_trait.declared.view.View.{View}
use Rattle.btree_descent.specs.rows_trait.Views.{Shape, state}
use Rattle.page_provider.specs.Providers.{Provider}
use Rattle.page_provider.specs.Steps.{Goes}

-- ## Events

-- a page moves, is saved or read again, or the global epoch goes on; or a row was not as it has to be
abbrev pub is_pagers : Event → Bool
is_pagers (Fetch p pairs) = true
is_pagers (Load p f) = true
is_pagers (Cool p) = true
is_pagers (Rescue p) = true
is_pagers (Save p) = true
is_pagers (Evict p) = true
is_pagers Tick = true
is_pagers (Miss w) = true
is_pagers _ = false

-- each of them is such
abbrev pub ArePagers : List Event → Type 0
ArePagers [] = Unit {0}
ArePagers (e ∷ es) = (is_pagers e ≡ true) × ArePagers es

-- a tick of the global epoch follows each page that cools, and no tick comes else
abbrev pub AreTicked : List Event → Type 0
AreTicked [] = Unit {0}
AreTicked (Cool p ∷ (Tick ∷ es)) = AreTicked es
AreTicked (Cool p ∷ es) = ⊥
AreTicked (Tick ∷ es) = ⊥
AreTicked (e ∷ es) = AreTicked es

-- how many of them are no cool and no tick
abbrev pub others_in : List Event → ℕ
others_in [] = 0
others_in (Cool p ∷ es) = others_in es
others_in (Tick ∷ es) = others_in es
others_in (e ∷ es) = suc (others_in es)

-- each of the pager's among them is met where it stands
abbrev pub AreMet : Given → Moment → List Event → Type 0
AreMet g m [] = Unit {0}
AreMet g m (e ∷ es) = (actor_of e ≡ pager → core.may (opening g) m.core (event_of e) ≡ true) × AreMet g (stepped g m e) es

-- ## A call

-- so many frames and workers, and the generation
pub record IsSame (was is : Provider) : Type 0 where
  pub frames : is.frames ≡ was.frames
  pub workers : is.workers ≡ was.workers
  pub generation : is.generation ≡ was.generation

-- It appended such events, at most so many of them no cool and no tick, and holds no row; its memory agrees with what it has seen.
pub record Moved (most : ℕ) (z : Shape) (v : View) (was : Provider) (u : View) (is : Provider) : Type 0 where
  pub events : List Event
  pub goes : Goes z v events u is
  pub pagers : ArePagers events
  pub ticked : AreTicked events
  pub few : others_in events ≤ most
  pub met : AreMet v.given (state v) goes.ran.more
  pub same : IsSame was is

-- ## The way

-- a page that stands hot in a frame of the path, and page 0
abbrev pub is_on : List ℕ → ℕ → Place → Bool
is_on path p (Place.Hot f) = (p == 0) || any (λ i. i == f) path
is_on path p _ = p == 0

abbrev pub way : List ℕ → State → ℕ → Bool
way path s p = is_on path p (s.place p)

-- each page that stands hot in a frame of the path stands there still
abbrev pub KeepsPath : List ℕ → View → View → Type 0
KeepsPath path v u = (f p : ℕ) → Has f path → (state v).core.place p ≡ Place.Hot f → (state u).core.place p ≡ Place.Hot f

-- No page came: one that was cold is cold still, as it was saved. Where nobody else steps no page changed.
pub record Rested (z : Shape) (v u : View) : Type 0 where
  pub cold : (p : ℕ) → is_cold ((state v).core.place p) ≡ true → is_cold ((state u).core.place p) ≡ true
  pub saved : (p : ℕ) → is_cold ((state v).core.place p) ≡ true → (state u).core.saved p ≡ (state v).core.saved p
  pub pages : z.alone ≡ true → (p : ℕ) → (state u).core.page p ≡ (state v).core.page p
