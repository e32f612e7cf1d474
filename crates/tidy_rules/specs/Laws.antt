-- What purges, joins and drops make of a key's leaf and of the free pages, and that the state fixes a tidying.
use Rattle.std.specs.Prelude.{◌≡◌, ◌≤◌, ◌<◌, ◌+◌, ℕ, suc, Bool, true, false, ltb, List, [], ◌∷◌, length, Some, None, if◌then◌else◌}
use Rattle.page_model.specs.Tree.{IsTree}
use Rattle.core_commit.specs.core_state.Events.{Event}
use Rattle.core_commit.specs.core_state.Needs.{are_hot, may, pages_of}
use Rattle.core_commit.specs.core_state.Openings.{Opening}
use Rattle.core_commit.specs.core_state.States.{State, nodes_of}
use Rattle.core_commit.specs.core_state.Steps.{happens, step}
use Rattle.core_calls.specs.Room.{free_list, full_run, room_takes}
use Rattle.tidy_rules.specs.Growth.{is_full_for}
use Rattle.tidy_rules.specs.Purges.{purgeable}
use Rattle.tidy_rules.specs.Rooms.{IsNextRoom}
use Rattle.tidy_rules.specs.Tidying.{Stage, Tidies, behind, next_tidy}

-- ## Free pages

-- the list with this page in its place, in rising order
abbrev pub put_in : ℕ → List ℕ → List ℕ
put_in p [] = p ∷ []
put_in p (q ∷ qs) = if ltb p q then p ∷ q ∷ qs else q ∷ put_in p qs

pub record FreedLaws (g : Opening) (s : State) : Type 0 where
  pub purge : (w p : ℕ) (keys : List ℕ) → free_list g (happens g s (Event.Purge w p keys)) ≡ free_list g s
  -- a join and a drop free one page each
  pub join : IsTree g.format (nodes_of s) → (w l r q : ℕ) → may g s (Event.Join w l r q) ≡ true → free_list g (happens g s (Event.Join w l r q)) ≡ put_in r (free_list g s)
  pub drop : IsTree g.format (nodes_of s) → (w c : ℕ) → may g s (Event.Drop w c) ≡ true → free_list g (happens g s (Event.Drop w c)) ≡ put_in c (free_list g s)
  pub one_more : (p : ℕ) (ps : List ℕ) → length (put_in p ps) ≡ suc (length ps)

-- of each state of any opening
abbrev pub EveryFreed : Type 0
EveryFreed = (g : Opening) (s : State) → FreedLaws g s

-- ## Purges

-- the keys that go of page p
abbrev pub gone : Opening → State → ℕ → List ℕ
gone g s p = purgeable g s (nodes_of s p).pairs

-- behind the purge of all of them
abbrev pub purged : Opening → State → (w p : ℕ) → State
purged g s w p = happens g s (Event.Purge w p (gone g s p))

-- the key's leaf is not full
pub record IsRoomMade (g : Opening) (t : State) (key : ℕ) : Type 0 where
  pub run : full_run g t key ≡ 0
  pub takes : room_takes g t key ≡ 0
  pub full : is_full_for g t key ≡ false

pub record PurgeLaws (g : Opening) (s : State) : Type 0 where
  -- as many entries are left as are no such tombstones, and no further one can go
  pub left : IsTree g.format (nodes_of s) → (w p : ℕ) → p < g.format.pages → (nodes_of s p).live ≡ true → length (nodes_of (purged g s w p) p).pairs + length (gone g s p) ≡ length (nodes_of s p).pairs
  pub none : (w p : ℕ) → gone g (purged g s w p) p ≡ []
  -- behind a purge for its key a leaf has room: no further page is taken, and nothing makes room once more
  pub room : IsTree g.format (nodes_of s) → (own key w p : ℕ) (keys : List ℕ) → may g s (Event.Purge w p keys) ≡ true → IsNextRoom own g s key (Event.Purge w p keys) → IsRoomMade g (happens g s (Event.Purge w p keys)) key

-- of each state of any opening
abbrev pub EveryPurged : Type 0
EveryPurged = (g : Opening) (s : State) → PurgeLaws g s

-- ## Tidyings

-- a whole tidying, from this stage on, with nothing between its events
abbrev pub IsTidying : (own : ℕ) → Opening → State → (key : ℕ) → Stage → List Event → Type 0
IsTidying own g s key at [] = next_tidy own g s key at ≡ None
IsTidying own g s key at (e ∷ es) = (next_tidy own g s key at ≡ Some e) × IsTidying own g (step g s e) key (behind s at e) es

-- how many of the events pass
abbrev pub counted : (Event → Bool) → List Event → ℕ
counted f [] = 0
counted f (e ∷ es) = if f e then suc (counted f es) else counted f es

abbrev pub is_purge : Event → Bool
is_purge (Event.Purge w p keys) = true
is_purge _ = false

abbrev pub is_join : Event → Bool
is_join (Event.Join w l r q) = true
is_join _ = false

abbrev pub is_drop : Event → Bool
is_drop (Event.Drop w c) = true
is_drop _ = false

-- of one call
pub record IsFew (g : Opening) (es : List Event) : Type 0 where
  pub purges : counted is_purge es ≤ 1
  pub joins : counted is_join es ≤ g.format.levels
  pub drops : counted is_drop es ≤ 1

pub record TidyLaws (own : ℕ) (g : Opening) (s : State) (key : ℕ) : Type 0 where
  -- the state fixes it
  pub one : (at : Stage) (es fs : List Event) → IsTidying own g s key at es → IsTidying own g s key at fs → es ≡ fs
  -- one purge at most, a join for each level below the greatest one, and one drop, whatever else comes between
  pub few : (es : List Event) → Tidies own g s key Stage.Before es → IsFew g es
  -- in a tree, what is next may happen, where its pages are hot and the session is open
  pub met : IsTree g.format (nodes_of s) → (s.worker own).is_open ≡ true → (at : Stage) (e : Event) → next_tidy own g s key at ≡ Some e → are_hot s (pages_of e) ≡ true → may g s e ≡ true

-- by each session, at each state of any opening, for each key
abbrev pub EveryTidy : Type 0
EveryTidy = (own : ℕ) (g : Opening) (s : State) (key : ℕ) → TidyLaws own g s key
