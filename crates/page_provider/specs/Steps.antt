-- How a call of the pager goes on from what its seat knew.
use Rattle.std.specs.Prelude.{◌≡◌, List, [], ◌∷◌}
use Rattle.btree_descent.specs.row_words.declared.event.Event.{Event}
use Rattle.btree_descent.specs.row_words.declared.event.Event.TheVariants.{Miss}
use Rattle.btree_descent.specs.rows_trait.declared.view.View.{View}
use Rattle.btree_descent.specs.rows_trait.Views.{Shape}
use Rattle.btree_descent.specs.rows_trait.Turns.{Ran}
use Rattle.page_provider.specs.Providers.{Provider, Keeps}

-- The seat has appended these events and holds no row, and the pager, whose memory is this now, agrees with what it has
-- seen by then.
pub record Goes (z : Shape) (v : View) (es : List Event) (u : View) (k : Provider) : Type 0 where
  pub ran : Ran z.alone v es u
  pub held : u.held ≡ []
  pub keeps : Keeps z u k

-- each of the events is a miss
abbrev pub AreMisses : List Event → Type 0
AreMisses [] = Unit {0}
AreMisses (Miss w ∷ es) = AreMisses es
AreMisses (_ ∷ es) = ⊥

-- one miss at most
abbrev pub IsMissAtMost : List Event → Type 0
IsMissAtMost [] = Unit {0}
IsMissAtMost (Miss w ∷ []) = Unit {0}
IsMissAtMost _ = ⊥
