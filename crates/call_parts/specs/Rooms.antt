-- What a call may have done when its disk fails, and in which areas it may have worked.
use Rattle.std.specs.Prelude.{◌≡◌, ◌==◌, ◌&&◌, ◌||◌, ◌≤◌, ◌^◌, ℕ, Bool, true, false, List, [], length}
use Rattle.map_model.specs.Lists.{all, any}
use Rattle.map_model.specs.declared.call.Call.{Call}
use Rattle.map_model.specs.declared.call.Call.TheVariants as call
use Rattle.map_model.specs.Maps.{MapAnswer}
use Rattle.session_state.specs.core_state.Openings.{Opening}
use Rattle.session_state.specs.core_state.Events.{Event, Mode}
use Rattle.session_state.specs.core_state.Steps.{state_after}
use Rattle.session_state.specs.core_calls.Fronts.{Done, front, outcomes}
use Rattle.session_state.specs.core_calls.Steps.{call_behind, is_structure}
use Rattle.session_state.specs.core_state.States.{State}
use Rattle.session_state.specs.engine_trait.Rooms.{needs_sync}
use Rattle.session_state.specs.tidy_rules.Rooms.{MakesRoom, NoneGoes}
use Rattle.session_state.specs.tidy_rules.Tidying.{Stage, Tidies}
pub use Rattle.session_state.specs.tidy_rules.Tidying.{ChangesTree}
use Rattle.call_parts.specs.Steps.{moves_page}

-- ## Which events

-- a log is flushed, or all are synced
abbrev pub makes_sync : Event → Bool
makes_sync (Event.Flush w n) = true
makes_sync (Event.Sync n) = true
makes_sync _ = false

-- a page is moved, or a sync is made for that
abbrev pub is_paging : Event → Bool
is_paging e = moves_page e || makes_sync e

-- pages are moved, and no more
abbrev pub ArePaging : List Event → Type 0
ArePaging es = all is_paging es ≡ true

-- session `own` takes this lock row so
abbrev pub takes_row : (own row : ℕ) → Mode → Event → Bool
takes_row own row Mode.Alone (Event.Lock w i Mode.Alone) = (w == own) && (i == row)
takes_row own row Mode.Shared (Event.Lock w i Mode.Shared) = (w == own) && (i == row)
takes_row own row mode _ = false

-- a row is given up as it stood, or session `own` takes tombstones out of a leaf, or gives the tree a page or takes one from it
abbrev pub changes_tree : (own : ℕ) → Event → Bool
changes_tree own (Event.Miss w) = true
changes_tree own (Event.Purge w p keys) = w == own
changes_tree own (Event.Split w l r q i) = w == own
changes_tree own (Event.Lift w c) = w == own
changes_tree own (Event.Join w l r q) = w == own
changes_tree own (Event.Drop w c) = w == own
changes_tree own _ = false

-- each takes the row, changes the tree, or moves pages: none changes a value or ends anything
abbrev pub AreRoom : (own row : ℕ) → Mode → List Event → Type 0
AreRoom own row mode es = all (λ e. takes_row own row mode e || (changes_tree own e || is_paging e)) es ≡ true

-- a row is given up as it stood, or session `own` puts a change back
abbrev pub puts_back : (own : ℕ) → Event → Bool
puts_back own (Event.Miss w) = true
puts_back own (Event.Put_back w p) = w == own
puts_back own _ = false

-- each puts a change back, or moves pages
abbrev pub AreBacks : (own : ℕ) → List Event → Type 0
AreBacks own es = all (λ e. puts_back own e || is_paging e) es ≡ true

-- session `own` takes a lock row shared, or passes a gap
abbrev pub walks : (own : ℕ) → Event → Bool
walks own (Event.Lock w i Mode.Shared) = w == own
walks own (Event.Next w p k (MapAnswer.Gap high)) = w == own
walks own _ = false

-- each goes on with a walk, or moves pages
abbrev pub AreWalk : (own : ℕ) → List Event → Type 0
AreWalk own es = all (λ e. walks own e || is_paging e) es ≡ true

-- of a call that needs a sync and of one that needs none
abbrev pub AreReady : (syncs : Bool) → List Event → Type 0
AreReady true es = all makes_sync es ≡ true
AreReady false es = es ≡ []

-- a page is given to the tree
abbrev pub grows : Event → Bool
grows (Event.Split w l r q i) = true
grows (Event.Lift w c) = true
grows _ = false

-- ## By call

-- no tombstone of the leaf of the key that a put asks for can go
abbrev pub NoneGoesFor : Opening → State → Call → Type 0
NoneGoesFor g s (call.Put key value) = NoneGoes g s key
NoneGoesFor g s c = Unit {0}

-- Behind these outcomes, by these events a put took its key's row and made room for the key, a del took its row and tidied, a get took its row, a scan took rows and
-- passed gaps, an abort put changes back, all of which may move pages; a sync and a begin flushed logs for a sync; and any other call did nothing.
abbrev pub HasDoneFor : Opening → List Done → (own : ℕ) → Call → List Event → Type 0
HasDoneFor g xs own (call.Put key value) es = AreRoom own (g.row_of key) Mode.Alone es × MakesRoom own g (state_after g (front xs)) key es
HasDoneFor g xs own (call.Get key) es = AreRoom own (g.row_of key) Mode.Shared es × (any is_structure es ≡ false)
HasDoneFor g xs own (call.Del key) es = AreRoom own (g.row_of key) Mode.Alone es × Tidies own g (state_after g (front xs)) key Stage.Before es
HasDoneFor g xs own (call.Scan from to) es = AreWalk own es × (any is_structure es ≡ false)
HasDoneFor g xs own call.Abort es = AreBacks own es
HasDoneFor g xs own c es = AreReady (needs_sync g xs own c) es

-- How many events a call has at most. A step of a scan may pass each leaf of the tree, for each of which the pages of its way may come.
abbrev pub most_of : Call → ℕ
most_of (call.Scan from to) = 2 ^ 26
most_of c = 2 ^ 18

-- and these are few
abbrev pub IsRoomFor : Opening → List Done → (own : ℕ) → Call → List Event → Type 0
IsRoomFor g xs own c es = HasDoneFor g xs own c es × (length es ≤ most_of c)

-- the call looks at pages
abbrev pub looks : Call → Bool
looks (call.Get key) = true
looks (call.Put key value) = true
looks (call.Del key) = true
looks (call.Scan from to) = true
looks call.Abort = true
looks _ = false

-- so it may save some
abbrev pub may_save : List Done → Call → Bool
may_save xs c = looks (call_behind (outcomes xs) c)

-- and make syncs for that, as a call does that needs a sync
abbrev pub may_sync : Opening → List Done → (own : ℕ) → Call → Bool
may_sync g xs own c = may_save xs c || needs_sync g xs own c
