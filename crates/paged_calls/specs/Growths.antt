-- Words of private functions: the room that a put makes for its key, behind the coming of the pages that this needs.
use Rattle.std.specs.Prelude.{◌≡◌, ◌⊎◌, ◌≤◌, ◌<◌, ◌+◌, ◌*◌, ◌%◌, ◌==◌, ℕ, suc, Bool, true, false, List, length, None}
use Rattle.map_model.specs.Lists.{all, any}
use Rattle.page_model.specs.Limits.{transaction_changes}
use Rattle.page_model.specs.Nodes.{Node, is_leaf}
use Rattle.paged_desks.specs.core_calls.Fronts.{Done}
use Rattle.paged_desks.specs.core_calls.LogEvents.{IsTight, SyncsWhere}
use Rattle.paged_desks.specs.core_calls.Room.{room_takes}
use Rattle.paged_desks.specs.core_state.Events as happening
use Rattle.paged_desks.specs.core_state.Needs.{is_held_by}
use Rattle.paged_desks.specs.core_state.Openings.{Opening}
use Rattle.paged_desks.specs.core_state.States.{State, nodes_of}
use Rattle.paged_desks.specs.engine_calls.Parts.{behind_first}
use Rattle.paged_desks.specs.engine_trait.Refusals.{is_full_for, room_refusal}
use Rattle.lean_disk.specs.Story.{Story}
use Rattle.paged_desks.specs.row_words.declared.event.Event.{Event}
use Rattle.paged_desks.specs.row_words.declared.event.Event.TheVariants as told
use Rattle.paged_desks.specs.row_words.Moments.{events_of}
use Rattle.paged_desks.specs.row_words.Openings.{opening}
use Rattle.paged_desks.specs.rows_trait.Views.{state}
use Rattle.paged_desks.specs.session_desks.Desks.{desk_of}
use Rattle.paged_desks.specs.session_desks.Parts.{AreAsMany, here}
use Rattle.paged_desks.specs.session_state.Ties.{Behind}
use Rattle.paged_desks.specs.session_state.tidy_rules.Rooms.{MakesRoom}
use Rattle.paged_desks.specs.session_state.Undo.{HasRoomToStage}
use Rattle.paged_desks.specs.call_parts.Parts.{Part}
use Rattle.paged_desks.specs.call_parts.Rooms.{grows}
use Rattle.paged_desks.specs.Machines.{memory, view_of}
use Rattle.paged_desks.specs.Pages.{hot_in, is_paging}
use Rattle.paged_desks.specs.declared.machine.PagedMachine.{PagedMachine}

-- ## A way to room

-- a node is as it was, but for the entries of a leaf
pub record IsLike (old new : Node) : Type 0 where
  pub fields : new ≡ record old { pairs = new.pairs }
  pub other : is_leaf old ≡ false → new ≡ old

-- so is each page's
abbrev pub AreLike : (s t : State) → Type 0
AreLike s t = (p : ℕ) → IsLike (nodes_of s p) (nodes_of t p)

-- whichever entries leaves have: where the key's is full, there can be room
abbrev pub HasWay : Opening → State → (key : ℕ) → Type 0
HasWay g s key = (t : State) → AreLike s t → is_full_for g t key ≡ true → room_refusal g t key ≡ None

-- ## What was done

-- a page is moved, a sync is made for that, a row is given up as it stood, or session `own` changes the tree
abbrev pub is_making : (own : ℕ) → Event → Bool
is_making own (told.Purge w p keys) = w == own
is_making own (told.Split w l r q i) = w == own
is_making own (told.Lift w c) = w == own
is_making own e = is_paging e

-- each of them
abbrev pub AreMaking : (own : ℕ) → List Event → Type 0
AreMaking own es = all (is_making own) es ≡ true

-- In a run, from this state on: each change of the tree is the next one on the way to room for the key; and where a page was given to the tree, there was a way.
pub record IsRoom (own key : ℕ) (g : Opening) (s : State) (es : List happening.Event) : Type 0 where
  pub makes : MakesRoom own g s key es
  pub way : (any grows es ≡ false) ⊎ HasWay g s key

-- Pages came and the tree was changed, as a part of a call, by at most so many events beside those by which pages cooled. Each is such an event of session `own`; in
-- a run a sync begins where P is so, and Q is so of the events from where they begin. As many sessions are there, whose aborts are half done where they were.
pub record HasMadeWhere {D : Type 0} (story : D → Story) (is_such : (own : ℕ) → Event → Bool) (P : Opening → State → Type 0) (Q : (own : ℕ) → Opening → State → List happening.Event → Type 0) (most : ℕ) (m n : PagedMachine D) : Type 0 where
  pub events : List Event
  pub making : all (is_such m.machine.work.session.own) events ≡ true
  pub few : length events + 2 * hot_in n ≤ 2 * hot_in m + most
  pub part : Part m.machine.work.session.workers events (view_of m) (view_of n) (memory m) (memory n) (story m.machine.work.disk) (story n.machine.work.disk)
  pub tight : (g : Opening) (xs : List Done) (first : List happening.Event) → Behind g xs first (view_of m) → SyncsWhere (P g) g (behind_first g xs first) false (events_of events)
  pub room : (g : Opening) (xs : List Done) (first : List happening.Event) → Behind g xs first (view_of m) → Q m.machine.work.session.own g (behind_first g xs first) (events_of events)
  pub same : AreAsMany m.machine n.machine
  pub turn : n.machine.work.session.own ≡ m.machine.work.session.own
  pub halves : (w : ℕ) → 0 < w → w ≤ m.machine.work.session.workers → (desk_of (here n.machine) n.machine.desks.items w).session.is_half_aborted ≡ (desk_of (here m.machine) m.machine.desks.items w).session.is_half_aborted

-- so room was made: a sync begins where a page of the key's way, or a free one, finds no frame
abbrev pub HasMade : {D : Type 0} → (story : D → Story) → (key most : ℕ) → (m n : PagedMachine D) → Type 0
HasMade story key most m n = HasMadeWhere story is_making (λ g s. IsTight g s key) (λ own g s es. IsRoom own key g s es) most m n

-- ## Before it

-- Beside its clock, no test refuses the session a put; its log has blocks for the changes of the tree that room for the key takes, for the put, and for what is kept; and it holds
-- the key's row alone.
pub record MayPut {D : Type 0} (key : ℕ) (m : PagedMachine D) : Type 0 where
  pub is_open : m.machine.work.session.is_open ≡ true
  pub whole : m.machine.work.session.is_half_aborted ≡ false
  pub few : length m.machine.work.session.undo < transaction_changes
  pub room : HasRoomToStage m.machine.work.log (suc (room_takes (opening (view_of m).given) (state (view_of m)).core key))
  pub row : is_held_by ((state (view_of m)).core.row (key % m.machine.work.session.held.count)).holder m.machine.work.session.own ≡ true

-- the session's transaction goes on, and has not all its changes
pub record IsGoing {D : Type 0} (m : PagedMachine D) : Type 0 where
  pub is_open : m.machine.work.session.is_open ≡ true
  pub whole : m.machine.work.session.is_half_aborted ≡ false
  pub few : length m.machine.work.session.undo < transaction_changes
