-- Room for a further key in a full leaf: what one change of the tree does, whether tombstones go or a page is taken.
use Rattle.std.specs.Prelude.{◌≡◌, ◌≤◌, ◌<◌, ◌+◌, ◌++◌, ℕ, suc, true, List, [], ◌∷◌, length, Option, Some, None, Result, Ok, Err}
use Rattle.map_model.specs.declared.call.Refusal.{Refusal}
use Rattle.map_model.specs.declared.call.Refusal.TheVariants as refusal
use Rattle.row_growth.specs.session_state.engine_trait.declared.unserved.Unanswered.TheVariants as unanswered
use Rattle.row_growth.specs.session_state.engine_trait.declared.unserved.Unserved.{Unserved}
use Rattle.row_growth.specs.session_state.engine_trait.declared.unserved.Unserved.TheVariants as unserved
use Rattle.row_growth.specs.session_state.core_state.Needs.{may}
use Rattle.row_growth.specs.session_state.core_state.Steps.{happens}
use Rattle.row_growth.specs.session_state.core_calls.Room.{room_takes}
use Rattle.lean_disk.specs.Story.{Story}
use Rattle.row_growth.specs.session_state.log_record.declared.record.Record.{Record}
use Rattle.row_growth.specs.session_state.log_block.Block.{records_text}
use Rattle.row_growth.specs.session_state.row_words.declared.event.Event.{Event}
use Rattle.row_growth.specs.session_state.row_words.declared.event.Event.TheVariants.{Lift, Purge, Split}
use Rattle.row_growth.specs.session_state.row_words.Moments.{event_of}
use Rattle.row_growth.specs.session_state.row_words.Openings.{opening}
use Rattle.row_growth.specs.session_state.rows_trait.declared.view.View.{View}
use Rattle.row_growth.specs.session_state.rows_trait.Views.{state}
use Rattle.row_growth.specs.session_state.disk_image.Records.{entry_of}
use Rattle.row_growth.specs.btree_smo.Outcomes.{AreMisses}
use Rattle.row_growth.specs.session_state.worker_log.Calls.{After}
use Rattle.row_growth.specs.session_state.worker_log.Logs.{Log}
use Rattle.row_growth.specs.session_state.log_calls.Calls.{StagesOn}
use Rattle.row_growth.specs.session_state.engine_trait.Refusals.{room_refusal}
use Rattle.row_growth.specs.session_state.flush_avoidance.Clocks.{risen}
use Rattle.row_growth.specs.session_state.Free.{first_of}
use Rattle.row_growth.specs.session_state.Staging.{KeepsLog}
use Rattle.row_growth.specs.session_state.declared.session.Session.{Session}
use Rattle.row_tidying.specs.tidy_rules.Rooms.{IsNextRoom, NoneGoes}
use Rattle.row_growth.specs.row_changes.Ways.{IsWarm}
use Rattle.row_growth.specs.Rooms.{frame_among}
use Rattle.row_growth.specs.declared.room.Growth.{Growth}
use Rattle.row_growth.specs.declared.room.Growth.TheVariants as growth
use Rattle.row_growth.specs.declared.room.Placed.{Placed}
use Rattle.row_tidying.specs.Outcomes.{IsSpentWithin}

-- it makes room, by session `own`
abbrev pub IsRoomBy : (own : ℕ) → Event → Type 0
IsRoomBy own (Purge w p keys) = w ≡ own
IsRoomBy own (Split w l r q i) = w ≡ own
IsRoomBy own (Lift w c) = w ≡ own
IsRoomBy own _ = ⊥

-- a purge takes no free page; every other change takes one, and there can be room
abbrev pub TakesPage : Event → (before now : List ℕ) → (fits : Type 0) → Type 0
TakesPage (Purge w p keys) before now fits = now ≡ before
TakesPage _ before now fits = (suc (length now) ≡ length before) × fits

-- One change of the tree, the next on the way to room for the key, was seen next, with misses before it and behind it; its record was staged.
pub record IsRoomed (key : ℕ) (v w : View) (x y : Session) (was is : Log) (old new : Story) : Type 0 where
  pub event : Event
  pub by : IsRoomBy x.own event
  pub first : List Event
  pub later : List Event
  pub are_first : AreMisses first
  pub are_later : AreMisses later
  pub few : length first + length later ≤ 61
  pub given : w.given ≡ v.given
  pub seen : w.seen ≡ v.seen ++ (first ++ event ∷ later)
  pub met : may (opening v.given) (state v).core (event_of event) ≡ true
  pub happened : (state w).core ≡ happens (opening v.given) (state v).core (event_of event)
  pub next : IsNextRoom x.own (opening v.given) (state v).core key (event_of event)
  pub entry : Record
  pub entry_is : (happens (opening v.given) (state v).core (event_of event)).entries ≡ entry_of x.own entry ∷ (state v).core.entries
  pub after : After entry was is
  pub stands : StagesOn x.own entry was is old new
  pub keeps : KeepsLog x.own was old new
  pub short : length (records_text (entry ∷ [])) ≤ 1031
  pub session : y ≡ record x { clock = risen x.clock y.clock; first = y.first; free = y.free }
  pub free : TakesPage event x.free y.free (room_refusal (opening v.given) (state v).core key ≡ None)
  -- there are fewer to come
  pub takes : room_takes (opening w.given) (state w).core key < room_takes (opening v.given) (state v).core key
  -- no page is moved, and the way to the key is hot still
  pub stays : (state w).core.place ≡ (state v).core.place
  pub warm : IsWarm v key → IsWarm w key

-- nothing was seen but misses: no tombstone of the key's leaf can go
pub record IsKept (key : ℕ) (v w : View) : Type 0 where
  pub misses : List Event
  pub are_misses : AreMisses misses
  pub few : length misses ≤ 61
  pub given : w.given ≡ v.given
  pub seen : w.seen ≡ v.seen ++ misses
  pub none : NoneGoes (opening v.given) (state v).core key

-- so there can be no room
pub record IsNoSpace (key : ℕ) (why : Refusal) (v w : View) : Type 0 where
  pub kept : IsKept key v w
  pub cause : room_refusal (opening v.given) (state v).core key ≡ Some why

-- or there can be, and a change takes this page next, which is not the one that was brought into a frame
pub record IsWanting (key : ℕ) (placed : Option Placed) (page : ℕ) (v w : View) (x : Session) : Type 0 where
  pub kept : IsKept key v w
  pub fits : room_refusal (opening v.given) (state v).core key ≡ None
  pub least : first_of x.free ≡ Some page
  pub other : frame_among placed page ≡ None

-- by answer
abbrev pub MadeSpace : Result Growth Unserved → (key : ℕ) → (placed : Option Placed) → (v w : View) → (x y : Session) → (was is : Log) → (old new : Story) → (same broken : Type 0) → Type 0
MadeSpace (Ok growth.Grown) key placed v w x y was is old new same broken = IsRoomed key v w x y was is old new
MadeSpace (Ok (growth.Needs page)) key placed v w x y was is old new same broken = IsWanting key placed page v w x × same
MadeSpace (Err (unserved.Refused refusal.TooTall)) key placed v w x y was is old new same broken = IsNoSpace key refusal.TooTall v w × same
MadeSpace (Err (unserved.Refused refusal.NoPages)) key placed v w x y was is old new same broken = IsNoSpace key refusal.NoPages v w × same
MadeSpace (Err (unserved.Refused refusal.RowSpent)) key placed v w x y was is old new same broken = IsSpentWithin 69 v w × same
MadeSpace (Err (unserved.Unanswered unanswered.DiskFault)) key placed v w x y was is old new same broken = KeepsLog x.own was old new × broken
MadeSpace (Err why) key placed v w x y was is old new same broken = ⊥
