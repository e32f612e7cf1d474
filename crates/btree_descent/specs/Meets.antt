-- A walk within its leaf: words of private functions.
use Rattle.std.specs.Prelude.{◌≡◌, ◌≤◌, ◌<◌, ℕ, Bool, true, List, [], ◌∷◌, ◌++◌, drop, Option, Some, None}
use Rattle.map_model.specs.Maps.{MapAnswer}
use Rattle.page_model.specs.Nodes.{Node}
use Rattle.page_model.specs.Page as stored
use Rattle.lean_proto.specs.btree_node.Inside.{place}
use Rattle.lean_proto.specs.core_state.Openings.{Opening}
use Rattle.lean_proto.specs.core_state.States.{State}
use Rattle.lean_proto.specs.core_state.Needs as core
use Rattle.lean_proto.specs.core_state.Needs.{following, holds_row}
use Rattle.core_index.specs.Walks.{met_keys}
use Rattle.lean_proto.specs.row_words.declared.event.Event.{Event}
use Rattle.lean_proto.specs.row_words.declared.event.Event.TheVariants as event
use Rattle.lean_proto.specs.row_words.declared.event.Met.{Met}
use Rattle.lean_proto.specs.row_words.Moments.{event_of, format_of}
use Rattle.lean_proto.specs.row_words.Openings.{opening}
use Rattle.lean_proto.specs.rows_trait.declared.view.View.{View}
use Rattle.lean_proto.specs.rows_trait.Views.{after_all, state}
use Rattle.lean_proto.specs.rows_trait.Turns.{Ran}
use Rattle.btree_descent.specs.declared.next.Meet.{Meet}
use Rattle.btree_descent.specs.declared.next.Meet.TheVariants as meet
use Rattle.btree_descent.specs.declared.next.Following.{Following}
use Rattle.btree_descent.specs.declared.next.Following.TheVariants.{Cold, Moved, Latched}
use Rattle.btree_descent.specs.declared.descent.Stop.{Stop}
use Rattle.btree_descent.specs.declared.descent.Stop.TheVariants as stop
use Rattle.btree_descent.specs.Descents.{Onward}
use Rattle.btree_descent.specs.Inside.{IsSeen}
use Rattle.btree_descent.specs.Nexts.{AreLocked, IsFirstUnlocked}

-- why a descent ended short of the leaf, as a walk's answer
abbrev pub next_of : Stop → Following
next_of (stop.Cold page) = Cold page
next_of (stop.Moved m) = Moved m
next_of (stop.Latched l) = Latched l

-- What a leaf says of the way from a key on: the pair that follows, or none, and all that is met is locked; or the first entry that is not.
abbrev pub Meets : (ℕ → Type 0) → ℕ → Node → Meet → Type 0
Meets locked key n (meet.Pair at word) = (following (format_of 1) key n.pairs n.high ≡ MapAnswer.Pair at word) × AreLocked locked (met_keys (format_of 1) key n.pairs)
Meets locked key n meet.Gap = (following (format_of 1) key n.pairs n.high ≡ MapAnswer.Gap n.high) × AreLocked locked (met_keys (format_of 1) key n.pairs)
Meets locked key n (meet.Unlocked at) = IsFirstUnlocked locked at (met_keys (format_of 1) key n.pairs)

-- the pair's key is locked
abbrev pub HasIts : (ℕ → Type 0) → Meet → Type 0
HasIts locked (meet.Pair at word) = locked at
HasIts locked meet.Gap = Unit {0}
HasIts locked (meet.Unlocked at) = Unit {0}

-- The entries before place i are below the key, or tombstones that are locked.
pub record Passed (locked : ℕ → Type 0) (key i : ℕ) (p : stored.Page) : Type 0 where
  pub behind : place key p.node.pairs ≤ i
  pub same : following (format_of 1) key (drop i p.node.pairs) p.node.high ≡ following (format_of 1) key p.node.pairs p.node.high
  pub keys : List ℕ
  pub whole : met_keys (format_of 1) key p.node.pairs ≡ keys ++ met_keys (format_of 1) key (drop i p.node.pairs)
  pub locks : AreLocked locked keys

-- a pair, or a gap up to the high fence
abbrev pub answer_with : Option (ℕ × ℕ) → ℕ → MapAnswer
answer_with None high = MapAnswer.Gap high
answer_with (Some x) high = MapAnswer.Pair x.0 x.1

-- the row of the pair is held, if there is one
abbrev pub HoldsIts : Opening → State → ℕ → Option (ℕ × ℕ) → Type 0
HoldsIts g s w None = Unit {0}
HoldsIts g s w (Some x) = holds_row (s.row (g.row_of x.0)) w ≡ true

-- the worker may say so of a leaf
pub record MayFollow (v : View) (worker : ℕ) (pair : Option (ℕ × ℕ)) : Type 0 where
  pub is_open : ((state v).core.worker worker).is_open ≡ true
  pub its : HoldsIts (opening v.given) (state v).core worker pair

-- The walk was appended last, and met; it is of plain numbers, and the page at the moment before it is one with which the loaded words agree.
pub record IsFollowed (alone : Bool) (worker key : ℕ) (answer : Met) (row version count number log high : ℕ) (v w : View) : Type 0 where
  pub page : ℕ
  pub past : List Event
  pub onward : Onward alone v past
  pub ran : Ran alone v (event.Next worker page key answer ∷ []) w
  pub whole : w.seen ≡ past ++ event.Next worker page key answer ∷ []
  pub was_met : core.may (opening w.given) (after_all w.given past).core (event_of (event.Next worker page key answer)) ≡ true
  pub number_is : number ≡ ((after_all w.given past).core.page page).gsn
  pub log_is : log ≡ ((after_all w.given past).core.page page).last
  pub below : key < high
  pub words : stored.Page
  pub seen : IsSeen row version count v.steps words
  pub same : words.node ≡ ((after_all w.given past).core.page page).node
