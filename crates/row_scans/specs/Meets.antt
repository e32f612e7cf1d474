-- What a walk in one leaf does: the rows of the entries that it meets are taken, and then it is made.
use Rattle.std.specs.Prelude.{◌≡◌, ◌≤◌, ◌<◌, ◌^◌, ◌++◌, ℕ, List, [], ◌∷◌, length, Some, Result, Ok, Err}
use Rattle.map_model.specs.declared.call.Refusal.TheVariants as refusal
use Rattle.row_changes.specs.session_state.core_calls.Scans.{IsHinderedNext, IsOnWay, rows_met}
use Rattle.row_changes.specs.session_state.core_state.Needs.{value_in}
use Rattle.row_changes.specs.session_state.core_state.Openings.{Opening}
use Rattle.row_changes.specs.session_state.core_state.States.{State}
use Rattle.row_changes.specs.session_state.core_state.Steps.{AllMet}
use Rattle.row_changes.specs.session_state.flush_avoidance.Clocks.{risen}
use Rattle.row_changes.specs.session_state.key_locks.Rows.{event_mode}
use Rattle.row_changes.specs.session_state.key_locks.declared.mode.Mode.TheVariants.{Shared}
use Rattle.row_changes.specs.session_state.row_words.declared.event.Event.{Event}
use Rattle.row_changes.specs.session_state.row_words.declared.event.Event.TheVariants.{Lock, Next}
use Rattle.row_changes.specs.session_state.row_words.declared.event.Met as told
use Rattle.row_changes.specs.session_state.row_words.declared.event.Met.TheVariants as event
use Rattle.row_changes.specs.session_state.row_words.Moments.{events_of}
use Rattle.row_changes.specs.session_state.row_words.Openings.{opening}
use Rattle.row_changes.specs.session_state.rows_trait.declared.view.View.{View}
use Rattle.row_changes.specs.session_state.rows_trait.Views.{state}
use Rattle.row_changes.specs.Ways.{HasMetCold}
use Rattle.row_changes.specs.session_state.declared.session.Session.{Session}
use Rattle.row_scans.specs.declared.meets.Met.{Met}
use Rattle.row_scans.specs.declared.meets.Met.TheVariants as met
use Rattle.row_scans.specs.declared.meets.Unmet.{Unmet}
use Rattle.row_scans.specs.declared.meets.Unmet.TheVariants as unmet

-- the session is as it was, but for its clock, its debt and the rows that it holds
abbrev pub IsButRows : (x y : Session) → Type 0
IsButRows x y = y ≡ record x { clock = risen x.clock y.clock; held = y.held }

-- session `own` takes these rows, shared, one after another
abbrev pub takes_of : (own : ℕ) → List ℕ → List Event
takes_of own [] = []
takes_of own (i ∷ is) = Lock own i (event_mode Shared) ∷ takes_of own is

-- these rows were taken next, and nothing else was seen
pub record HasTaken (own : ℕ) (rows : List ℕ) (v w : View) : Type 0 where
  pub given : w.given ≡ v.given
  pub seen : w.seen ≡ v.seen ++ takes_of own rows
  pub met : AllMet (opening v.given) (state v).core (events_of (takes_of own rows))

-- what was met, as events tell it
abbrev pub told_of : Met → told.Met
told_of (met.Pair at value) = event.Pair at value
told_of (met.Gap high) = event.Gap high

-- it is not before the key; and the leaf has the pair there
abbrev pub IsInLeaf : Opening → State → (page key : ℕ) → Met → Type 0
IsInLeaf g s page key (met.Pair at value) = (key ≤ at) × (value_in g.format (s.page page).node at ≡ Some value)
IsInLeaf g s page key (met.Gap high) = key < high

-- the rows of the entries that a walk from the key on meets in this leaf are taken, each once, in the order of their keys; and then it is made
abbrev pub walk_of : Opening → State → (own page key : ℕ) → Met → List Event
walk_of g s own page key m = takes_of own (rows_met g s page key) ++ Next own page key (told_of m) ∷ []

-- the walk was seen next, at moments at which its needs were met
pub record HasMet (own : ℕ) (v w : View) (key : ℕ) (m : Met) : Type 0 where
  pub page : ℕ
  pub given : w.given ≡ v.given
  pub seen : w.seen ≡ v.seen ++ walk_of (opening v.given) (state v).core own page key m
  pub met : AllMet (opening v.given) (state v).core (events_of (walk_of (opening v.given) (state v).core own page key m))
  pub leaf : IsInLeaf (opening v.given) (state v).core page key m

-- The rows of some entries that it meets were taken, the first ones, and session h has the row of the next.
pub record HasMetConflict (own : ℕ) (v w : View) (key h : ℕ) : Type 0 where
  pub rows : List ℕ
  pub taken : HasTaken own rows v w
  pub hindered : IsHinderedNext (opening w.given) own h (state w).core key rows

-- or a latch is spent
pub record HasMetSpent (own : ℕ) (v w : View) (key : ℕ) : Type 0 where
  pub rows : List ℕ
  pub taken : HasTaken own rows v w
  pub way : IsOnWay (opening w.given) (state w).core key rows
  pub many : 2 ^ 61 ≤ length w.seen

-- by answer
abbrev pub Meets : Result Met Unmet → (own : ℕ) → (v w : View) → (key : ℕ) → (same : Type 0) → Type 0
Meets (Ok m) own v w key same = HasMet own v w key m
Meets (Err (unmet.Refused (refusal.Conflict h))) own v w key same = HasMetConflict own v w key h
Meets (Err (unmet.Refused refusal.RowSpent)) own v w key same = HasMetSpent own v w key
Meets (Err (unmet.Cold cold)) own v w key same = HasMetCold key cold.page v w × same
Meets (Err why) own v w key same = ⊥

-- a page of the way is not hot
abbrev pub IsCut : Unmet → Type 0
IsCut (unmet.Cold cold) = Unit {0}
IsCut _ = ⊥

-- no other session stands in the way
abbrev pub IsNoConflict : Unmet → Type 0
IsNoConflict (unmet.Refused (refusal.Conflict h)) = ⊥
IsNoConflict _ = Unit {0}
