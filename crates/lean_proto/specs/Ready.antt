-- When an event may be published whatever others did meanwhile: its need is met at the state that the seat has seen, and its rows,
-- all held, have the words that it leaves there. What it rests on stays under events apart from it.
use Rattle.std.specs.Prelude.{◌≡◌, ℕ, Bool, true, false, List}
use Rattle.page_model.specs.Tree.{IsTree}
use Rattle.core_paging.specs.core_state.States.{nodes_of}
use Rattle.core_paging.specs.core_state.Needs as core
use Rattle.core_paging.specs.Paging.{Residence}
use Rattle.version_latch.specs.row_words.declared.event.Event.{Event}
use Rattle.version_latch.specs.row_words.declared.event.Event.TheVariants.{Lock, Unlock, Change, PutBack, Split, Lift, Join, Drop, Load, Cool, Rescue, Save, Evict}
use Rattle.version_latch.specs.row_words.Moments.{event_of, actor_of}
use Rattle.version_latch.specs.row_words.Openings.{opening}
use Rattle.version_latch.specs.row_words.Sealed.{IsTame}
use Rattle.version_latch.specs.rows_trait.declared.view.View.{View}
use Rattle.version_latch.specs.rows_trait.Views.{Shape, after_all, state, may}
use Rattle.version_latch.specs.rows_trait.Turns.{Leaves, MayPublish}

-- its need and what it makes of its rows hang on these rows, on its worker and on the locks that the worker holds; that of an event of
-- the pager on where pages are and on what is saved of them, which the pager alone changes, and on flushed numbers, which never fall
abbrev pub is_steady : Event → Bool
is_steady (Lock w i mode) = true
is_steady (Unlock w i) = true
is_steady (Change w p k x) = true
is_steady (PutBack w p) = true
is_steady (Split w l r q i) = true
is_steady (Lift w c) = true
is_steady (Join w l r q) = true
is_steady (Drop w c) = true
is_steady (Load p f) = true
is_steady (Cool p) = true
is_steady (Rescue p) = true
is_steady (Save p) = true
is_steady (Evict p) = true
is_steady _ = false

-- at every moment that can come the pages are a tree, and places are in order
pub record InOrder (v : View) (es : List Event) : Type 0 where
  pub tree : IsTree (opening v.given).format (nodes_of (after_all v.given es).core)
  pub places : Residence (opening v.given) (after_all v.given es).core

-- what the publisher knows at the state that it has seen
pub record IsReady (z : Shape) (v : View) (row : ℕ) (e : Event) : Type 0 where
  pub actor : may z.alone v (actor_of e) ≡ true
  pub order : (es : List Event) → InOrder v es
  pub met : core.may (opening v.given) (state v).core (event_of e) ≡ true
  pub leaves : Leaves z row e v (state v)
  pub tame : IsTame (state v) e

-- who knows this may publish the event
abbrev pub EveryReady : Type 0
EveryReady = (z : Shape) (v : View) (row : ℕ) (e : Event) → is_steady e ≡ true → IsReady z v row e → MayPublish z row e v
