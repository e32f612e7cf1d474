-- An event that is published at rows which are held.
use Rattle.std.specs.Prelude.{◌≡◌, ℕ, Bool, true, List, [], ◌∷◌, ◌++◌}
use Rattle.row_words.specs.declared.event.Event.{Event}
use Rattle.row_words.specs.Sealed.{changes}
use Rattle.rows_trait.specs.declared.view.View.{View}
use Rattle.rows_trait.specs.Views.{Shape, AreApart, after_all, state}
use Rattle.rows_trait.specs.Turns.{Ran}

-- whatever others do meanwhile, the event changes the row
abbrev pub IsChanged : Shape → View → Event → ℕ → Type 0
IsChanged z v e row = (between : List Event) → (z.alone ≡ true → between ≡ []) → AreApart v (state v) between → changes v.given (after_all v.given (v.seen ++ between)) e row ≡ true

-- The event was published behind what was seen at v and what others did then, apart from what was held; and no row is held.
pub record Went (alone : Bool) (v : View) (e : Event) (w : View) : Type 0 where
  pub between : List Event
  pub quiet : alone ≡ true → between ≡ []
  pub apart : AreApart v (state v) between
  pub ran : Ran alone v (e ∷ []) w
  pub later : List Event
  pub seen : w.seen ≡ ((v.seen ++ between) ++ e ∷ []) ++ later
  pub held : w.held ≡ []
