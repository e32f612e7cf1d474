-- The walk to the pair that follows a key in its leaf: what it appends, what holds after it, and why it refused.
use Rattle.std.specs.Prelude.{◌≡◌, ◌<◌, ℕ, Bool, true, List, [], ◌∷◌, ◌++◌}
use Rattle.map_model.specs.Lists.{Has}
use Rattle.page_model.specs.Nodes.{holds}
use Rattle.lean_proto.specs.core_state.States.{is_hot}
use Rattle.lean_proto.specs.core_state.Needs as core
use Rattle.lean_proto.specs.core_state.Needs.{holds_row}
use Rattle.core_index.specs.Walks.{met_keys}
use Rattle.lean_proto.specs.row_words.declared.event.Event.{Event}
use Rattle.lean_proto.specs.row_words.declared.event.Event.TheVariants as event
use Rattle.lean_proto.specs.row_words.declared.event.Event.TheVariants.{Miss}
use Rattle.lean_proto.specs.row_words.declared.event.Met.{Met}
use Rattle.lean_proto.specs.row_words.declared.event.Met.TheVariants as met
use Rattle.lean_proto.specs.row_words.Moments.{event_of}
use Rattle.lean_proto.specs.row_words.Openings.{opening}
use Rattle.lean_proto.specs.rows_trait.declared.view.View.{View}
use Rattle.lean_proto.specs.rows_trait.Views.{after_all, state}
use Rattle.lean_proto.specs.rows_trait.Causes.{IsLatched, HasMoved}
use Rattle.lean_proto.specs.rows_trait.Turns.{Ran}
use Rattle.btree_descent.specs.declared.next.Following.{Following}
use Rattle.btree_descent.specs.declared.next.Following.TheVariants.{Pair, Gap, Unlocked, Cold, Moved, Latched}
use Rattle.btree_descent.specs.declared.next.Stamp.{Stamp}
use Rattle.btree_descent.specs.Descents.{Onward, MetCold}

-- ## What it needs

-- the worker is open, and where its locks say so it holds the key's row
pub record MayWalk (v : View) (worker : ℕ) (locked : ℕ → Type 0) : Type 0 where
  pub is_open : ((state v).core.worker worker).is_open ≡ true
  pub held : (k : ℕ) → locked k → holds_row ((state v).core.row ((opening v.given).row_of k)) worker ≡ true

-- ## What it appends, and what holds after it

-- each of the keys is locked
abbrev pub AreLocked : (ℕ → Type 0) → List ℕ → Type 0
AreLocked locked keys = (k : ℕ) → Has k keys → locked k

-- Of these keys this is the first that is not locked.
pub record IsFirstUnlocked (locked : ℕ → Type 0) (at : ℕ) (keys : List ℕ) : Type 0 where
  pub before : List ℕ
  pub behind : List ℕ
  pub whole : keys ≡ before ++ at ∷ behind
  pub locks : AreLocked locked before
  pub unlocked : locked at → ⊥

-- The walk was appended last, as it might be at the moment before it: there the leaf had this stamp, each entry that was met, tombstones
-- too, was locked, and the worker held its row.
pub record Walked (alone : Bool) (worker key : ℕ) (locked : ℕ → Type 0) (answer : Met) (stamp : Stamp) (v w : View) : Type 0 where
  pub page : ℕ
  pub past : List Event
  pub onward : Onward alone v past
  pub ran : Ran alone v (event.Next worker page key answer ∷ []) w
  pub whole : w.seen ≡ past ++ event.Next worker page key answer ∷ []
  pub was_met : core.may (opening w.given) (after_all w.given past).core (event_of (event.Next worker page key answer)) ≡ true
  pub number : stamp.number ≡ ((after_all w.given past).core.page page).gsn
  pub log : stamp.log ≡ ((after_all w.given past).core.page page).last
  pub locks : AreLocked locked (met_keys (opening w.given).format key ((after_all w.given past).core.page page).node.pairs)
  pub held : (k : ℕ) → Has k (met_keys (opening w.given).format key ((after_all w.given past).core.page page).node.pairs) → holds_row ((after_all w.given past).core.row ((opening w.given).row_of k)) worker ≡ true

-- Nothing was appended; the key's leaf is hot, and of the entries that a walk meets there this is the first that is not locked.
pub record MetUnlocked (alone : Bool) (key at : ℕ) (locked : ℕ → Type 0) (v w : View) : Type 0 where
  pub ran : Ran alone v [] w
  pub page : ℕ
  pub below : page < (opening w.given).format.pages
  pub hot : is_hot ((state w).core.place page) ≡ true
  pub leaf : holds ((state w).core.page page).node key ≡ true
  pub first : IsFirstUnlocked locked at (met_keys (opening w.given).format key ((state w).core.page page).node.pairs)

-- what a walk appends, and what holds after it
abbrev pub IsWalked : Bool → (worker key : ℕ) → (locked : ℕ → Type 0) → View → Following → View → Type 0
IsWalked alone worker key locked v (Pair at value stamp) w = Walked alone worker key locked (met.Pair at value) stamp v w
IsWalked alone worker key locked v (Gap high stamp) w = Walked alone worker key locked (met.Gap high) stamp v w × (key < high)
IsWalked alone worker key locked v (Unlocked at) w = MetUnlocked alone key at locked v w
IsWalked alone worker key locked v (Cold page) w = MetCold alone key page v w
IsWalked alone worker key locked v (Moved m) w = Ran alone v (Miss worker ∷ []) w
IsWalked alone worker key locked v (Latched l) w = Ran alone v (Miss worker ∷ []) w

-- what a call that began at the view u has loaded by the time at which it refused
abbrev pub WalkCaused : View → Following → View → Type 0
WalkCaused u (Moved m) w = HasMoved m.row m.seen m.found u w
WalkCaused u (Latched l) w = IsLatched l.row l.word u w
WalkCaused u _ w = Unit {0}

-- no other seat was in the way
abbrev pub IsMet : Following → Type 0
IsMet (Moved m) = ⊥
IsMet (Latched l) = ⊥
IsMet _ = Unit {0}
