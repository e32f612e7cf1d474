-- What a peek appends, what holds after it, and why it refused.
use Rattle.std.specs.Prelude.{◌≡◌, ℕ, Bool, true, List, [], ◌∷◌, ◌++◌, Option, Some, None}
use Rattle.lean_proto.specs.core_state.Needs as core
use Rattle.lean_proto.specs.row_words.declared.event.Event.{Event}
use Rattle.lean_proto.specs.row_words.declared.event.Event.TheVariants.{Peek, Miss}
use Rattle.lean_proto.specs.row_words.Moments.{event_of}
use Rattle.lean_proto.specs.row_words.Openings.{opening}
use Rattle.lean_proto.specs.rows_trait.declared.view.View.{View}
use Rattle.lean_proto.specs.rows_trait.Views.{after_all, state}
use Rattle.lean_proto.specs.rows_trait.Causes.{IsLatched, HasMoved}
use Rattle.lean_proto.specs.rows_trait.Turns.{Ran}
use Rattle.btree_descent.specs.declared.descent.Stop.{Stop}
use Rattle.btree_descent.specs.declared.descent.Stop.TheVariants as stop
use Rattle.btree_descent.specs.declared.peek.Peeked.{Peeked}
use Rattle.btree_descent.specs.declared.peek.Peeked.TheVariants.{Found, Absent, Cold, Moved, Latched}
use Rattle.btree_descent.specs.Known.{Says}
use Rattle.btree_descent.specs.Descents.{Onward, MetCold}

-- a peek was appended last, where it might be, and the leaf at its page says this
pub record Saw (alone : Bool) (worker key : ℕ) (answer : Option ℕ) (v w : View) : Type 0 where
  pub page : ℕ
  pub past : List Event
  pub onward : Onward alone v past
  pub ran : Ran alone v (Peek worker page key answer ∷ []) w
  pub seen : w.seen ≡ past ++ Peek worker page key answer ∷ []
  pub met : core.may (opening w.given) (after_all w.given past).core (event_of (Peek worker page key answer)) ≡ true
  pub says : Says w.given (state w) page key answer

-- what a peek appends, and what holds after it
abbrev pub Went : Bool → (worker key : ℕ) → View → Peeked → View → Type 0
Went alone worker key v (Found value) w = Saw alone worker key (Some value) v w
Went alone worker key v Absent w = Saw alone worker key None v w
Went alone worker key v (Cold page) w = MetCold alone key page v w
Went alone worker key v (Moved m) w = Ran alone v (Miss worker ∷ []) w
Went alone worker key v (Latched l) w = Ran alone v (Miss worker ∷ []) w

-- what its leaf says, or a page on the way that is not hot
abbrev pub IsSettled : Peeked → Type 0
IsSettled (Found value) = Unit {0}
IsSettled Absent = Unit {0}
IsSettled (Cold page) = Unit {0}
IsSettled (Moved m) = ⊥
IsSettled (Latched l) = ⊥

-- What a call that began at the view u has loaded by the time at which it refused.
abbrev pub Caused : View → Peeked → View → Type 0
Caused u (Found value) w = Unit {0}
Caused u Absent w = Unit {0}
Caused u (Cold page) w = Unit {0}
Caused u (Moved m) w = HasMoved m.row m.seen m.found u w
Caused u (Latched l) w = IsLatched l.row l.word u w

-- where a descent ended short of the leaf
abbrev pub peeked_of : Stop → Peeked
peeked_of (stop.Cold page) = Cold page
peeked_of (stop.Moved m) = Moved m
peeked_of (stop.Latched l) = Latched l

-- what a leaf says of a key
abbrev pub seen_as : Option ℕ → Peeked
seen_as (Some value) = Found value
seen_as None = Absent
