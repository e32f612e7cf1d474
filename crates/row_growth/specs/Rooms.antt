-- Room for a further key in a full leaf: what one change of the tree does, and all of them.
use Rattle.std.specs.Prelude.{◌≡◌, ◌≢◌, ◌≤◌, ◌<◌, ◌-◌, ◌++◌, ◌^◌, ◌==◌, ◌&&◌, ltb, ℕ, suc, true, false, List, [], ◌∷◌, length, slice_index, Option, Some, None, Result, Ok, Err, if◌then◌else◌}
use Rattle.page_model.specs.Limits.{leaf_room}
use Rattle.map_model.specs.declared.call.Refusal.{Refusal}
use Rattle.map_model.specs.declared.call.Refusal.TheVariants as refusal
use Rattle.row_changes.specs.session_state.engine_trait.declared.unserved.Unanswered.TheVariants as unanswered
use Rattle.row_changes.specs.session_state.engine_trait.declared.unserved.Unserved.{Unserved}
use Rattle.row_changes.specs.session_state.engine_trait.declared.unserved.Unserved.TheVariants as unserved
use Rattle.row_changes.specs.session_state.core_state.Needs.{may}
use Rattle.row_changes.specs.session_state.core_state.Steps.{happens}
use Rattle.row_changes.specs.session_state.core_state.Events as happening
use Rattle.page_model.specs.Check.{names_page}
use Rattle.row_changes.specs.session_state.core_calls.Room.{room_takes}
use Rattle.lean_disk.specs.Story.{Story}
use Rattle.row_changes.specs.session_state.log_record.declared.record.Record.{Record}
use Rattle.row_changes.specs.session_state.log_block.Block.{records_text}
use Rattle.row_changes.specs.session_state.row_words.declared.event.Event.{Event}
use Rattle.row_changes.specs.session_state.row_words.declared.event.Event.TheVariants.{Lift, Split}
use Rattle.row_changes.specs.session_state.row_words.Moments.{event_of}
use Rattle.row_changes.specs.session_state.row_words.Openings.{opening}
use Rattle.row_changes.specs.session_state.rows_trait.declared.view.View.{View}
use Rattle.row_changes.specs.session_state.rows_trait.Views.{state}
use Rattle.row_changes.specs.session_state.disk_image.Records.{entry_of}
use Rattle.row_changes.specs.session_state.draw_trait.declared.draw.Unstaged.TheVariants.{DiskFault}
use Rattle.btree_smo.specs.Outcomes.{AreMisses}
use Rattle.btree_smo.specs.declared.outcome.Outcome.{Outcome}
use Rattle.btree_smo.specs.declared.outcome.Outcome.TheVariants as outcome
use Rattle.row_changes.specs.session_state.worker_log.Calls.{After}
use Rattle.row_changes.specs.session_state.worker_log.Logs.{Log}
use Rattle.row_changes.specs.session_state.log_calls.Calls.{StagesOn}
use Rattle.row_changes.specs.session_state.engine_trait.Refusals.{room_refusal}
use Rattle.row_changes.specs.session_state.engine_trait.Rooms.{IsNextRoom}
use Rattle.row_changes.specs.session_state.flush_avoidance.Clocks.{risen}
use Rattle.row_changes.specs.session_state.declared.session.Session.{Session}
use Rattle.row_changes.specs.session_state.Free.{first_of, without_first}
use Rattle.row_growth.specs.declared.room.Next.{Next}
use Rattle.row_growth.specs.declared.room.Next.TheVariants as next
use Rattle.row_growth.specs.declared.room.Growth.{Growth}
use Rattle.row_growth.specs.declared.room.Growth.TheVariants as growth
use Rattle.row_growth.specs.declared.room.Placed.{Placed}
use Rattle.row_changes.specs.Ways.{IsWarm}
use Rattle.row_changes.specs.session_state.core_state.States.{Place}
use Rattle.row_changes.specs.session_state.Staging.{KeepsLog}

-- ## Where a free page stands

-- the page that was brought into a frame, if one was, stands hot there
abbrev pub IsPlaced : View → Option Placed → Type 0
IsPlaced v None = Unit {0}
IsPlaced v (Some p) = (state v).core.place p.page ≡ Place.Hot p.frame

-- the frame of this page, if it is the one that was brought into a frame
abbrev pub frame_among : Option Placed → (page : ℕ) → Option ℕ
frame_among None page = None
frame_among (Some p) page = if p.page == page then Some p.frame else None

-- ## One change

-- it changes the tree, by session `own`
abbrev pub IsGrowth : (own : ℕ) → Event → Type 0
IsGrowth own (Split w l r q i) = w ≡ own
IsGrowth own (Lift w c) = w ≡ own
IsGrowth own _ = ⊥

-- There can be room for the key. One change of the tree, the next on the way there, was seen next; its record was staged, and the session has one free
-- page less.
pub record IsGrown (key : ℕ) (u w : View) (x y : Session) (was is : Log) (old new : Story) : Type 0 where
  pub event : Event
  pub growth : IsGrowth x.own event
  pub given : w.given ≡ u.given
  pub seen : w.seen ≡ u.seen ++ event ∷ []
  pub met : may (opening u.given) (state u).core (event_of event) ≡ true
  pub next : IsNextRoom x.own (opening u.given) (state u).core key (event_of event)
  pub fits : room_refusal (opening u.given) (state u).core key ≡ None
  pub entry : Record
  pub entry_is : (happens (opening u.given) (state u).core (event_of event)).entries ≡ entry_of x.own entry ∷ (state u).core.entries
  pub after : After entry was is
  pub stands : StagesOn x.own entry was is old new
  pub keeps : KeepsLog x.own was old new
  pub short : length (records_text (entry ∷ [])) ≤ 1031
  pub session : y ≡ record x { clock = risen x.clock y.clock; first = y.first; free = y.free }
  pub fewer : suc (length y.free) ≡ length x.free
  -- there are fewer to come
  pub takes : room_takes (opening w.given) (state w).core key < room_takes (opening u.given) (state u).core key
  -- no page is moved, and the way to the key is hot still
  pub stays : (state w).core.place ≡ (state u).core.place
  pub warm : IsWarm u key → IsWarm w key

-- nothing was seen but misses, and 2^61 events were
pub record IsSpentBehind (v w : View) : Type 0 where
  pub misses : List Event
  pub are_misses : AreMisses misses
  pub few : length misses ≤ 8
  pub given : w.given ≡ v.given
  pub seen : w.seen ≡ v.seen ++ misses
  pub many : 2 ^ 61 ≤ length w.seen

-- nothing was seen, and there can be no room
pub record IsNoRoom (v w : View) (key : ℕ) (why : Refusal) : Type 0 where
  pub given : w.given ≡ v.given
  pub seen : w.seen ≡ v.seen
  pub cause : room_refusal (opening v.given) (state v).core key ≡ Some why

-- nothing was seen; there can be room, and a change takes this page next, which is not the one that was brought into a frame
pub record IsNeeded (v w : View) (x : Session) (key : ℕ) (placed : Option Placed) (page : ℕ) : Type 0 where
  pub given : w.given ≡ v.given
  pub seen : w.seen ≡ v.seen
  pub fits : room_refusal (opening v.given) (state v).core key ≡ None
  pub least : first_of x.free ≡ Some page
  pub other : frame_among placed page ≡ None

-- by answer
abbrev pub Grew : Result Growth Unserved → (key : ℕ) → (placed : Option Placed) → (v w : View) → (x y : Session) → (was is : Log) → (old new : Story) → (same broken : Type 0) → Type 0
Grew (Ok growth.Grown) key placed v w x y was is old new same broken = IsGrown key v w x y was is old new
Grew (Ok (growth.Needs page)) key placed v w x y was is old new same broken = IsNeeded v w x key placed page × same
Grew (Err (unserved.Refused refusal.TooTall)) key placed v w x y was is old new same broken = IsNoRoom v w key refusal.TooTall × same
Grew (Err (unserved.Refused refusal.NoPages)) key placed v w x y was is old new same broken = IsNoRoom v w key refusal.NoPages × same
Grew (Err (unserved.Refused refusal.RowSpent)) key placed v w x y was is old new same broken = IsSpentBehind v w × same
Grew (Err (unserved.Unanswered unanswered.DiskFault)) key placed v w x y was is old new same broken = KeepsLog x.own was old new × broken
Grew (Err why) key placed v w x y was is old new same broken = ⊥

-- ## How a change ends

-- a change of the tree that can be made, where nobody else steps and the log has a block, ends so
abbrev pub IsExpected : Outcome → Type 0
IsExpected outcome.Done = Unit {0}
IsExpected (outcome.RowSpent row) = Unit {0}
IsExpected (outcome.Unstaged DiskFault) = Unit {0}
IsExpected _ = ⊥

-- and is answered so
abbrev pub answer_of : Outcome → Result (Unit {0}) Unserved
answer_of (outcome.RowSpent row) = Err (unserved.Refused refusal.RowSpent)
answer_of (outcome.Unstaged why) = Err (unserved.Unanswered unanswered.DiskFault)
answer_of _ = Ok tt

-- that is
abbrev pub Made : Result (Unit {0}) Unserved → (key : ℕ) → (v w : View) → (x y : Session) → (was is : Log) → (old new : Story) → (same broken : Type 0) → Type 0
Made (Ok u) key v w x y was is old new same broken = IsGrown key v w x y was is old new
Made (Err (unserved.Refused refusal.RowSpent)) key v w x y was is old new same broken = IsSpentBehind v w × same
Made (Err (unserved.Unanswered unanswered.DiskFault)) key v w x y was is old new same broken = KeepsLog x.own was old new × broken
Made (Err why) key v w x y was is old new same broken = ⊥

-- the session behind it: where the change was made, its page is free no more
abbrev pub session_after : Outcome → Session → Session
session_after outcome.Done x = record x { free = without_first x.free }
session_after (outcome.Unstaged why) x = record x { works = false }
session_after _ x = x

-- ## Which change is next

-- what comes next, where so many nodes at the end of the path are full, and these pages are free
abbrev pub next_of : (path : List ℕ) → (run : ℕ) → (free : List ℕ) → Result Next Refusal
next_of path run [] = if (run == length path) && (run == 8) then Err refusal.TooTall else Err refusal.NoPages
next_of path run (p ∷ ps) = if run == length path
    then (if run == 8 then Err refusal.TooTall else (if ltb (suc (length ps)) (suc run) then Err refusal.NoPages else Ok (next.Lift p)))
    else (if ltb (suc (length ps)) run then Err refusal.NoPages else Ok (next.Split (slice_index path (length path - run)) p (slice_index path (length path - run - 1))))

-- the page that it takes
abbrev pub page_of : Next → ℕ
page_of (next.Lift page) = page
page_of (next.Split left page parent) = page

-- the root is to be lifted into the page
pub record TakesLift (v : View) (x : Session) (key page : ℕ) : Type 0 where
  pub least : first_of x.free ≡ Some page
  pub fits : room_refusal (opening v.given) (state v).core key ≡ None
  pub next : IsNextRoom x.own (opening v.given) (state v).core key (happening.Event.Lift x.own page)
  pub full : length ((state v).core.page 0).node.pairs ≡ leaf_room
  pub low : ((state v).core.page 0).node.level < 7

-- the page in the frame `a` is to be split into the page, under the one in the frame `d`
pub record TakesSplit (v : View) (x : Session) (key a page d : ℕ) : Type 0 where
  pub left : ℕ
  pub parent : ℕ
  pub left_hot : (state v).core.place left ≡ Place.Hot a
  pub parent_hot : (state v).core.place parent ≡ Place.Hot d
  pub least : first_of x.free ≡ Some page
  pub fits : room_refusal (opening v.given) (state v).core key ≡ None
  pub next : IsNextRoom x.own (opening v.given) (state v).core key (happening.Event.Split x.own left page parent 30)
  pub below : left < (opening v.given).format.pages
  pub full : length ((state v).core.page left).node.pairs ≡ leaf_room
  pub within : parent < (opening v.given).format.pages
  pub room : length ((state v).core.page parent).node.pairs ≢ leaf_room
  pub names : names_page ((state v).core.page parent).node left ≡ true

-- what comes next is so
abbrev pub Takes : (v : View) → (x : Session) → (key : ℕ) → Next → Type 0
Takes v x key (next.Lift page) = TakesLift v x key page
Takes v x key (next.Split left page parent) = TakesSplit v x key left page parent

-- and its page stands hot in the frame
pub record CanLift (v : View) (x : Session) (key frame : ℕ) : Type 0 where
  pub page : ℕ
  pub takes : TakesLift v x key page
  pub stands : (state v).core.place page ≡ Place.Hot frame

pub record CanSplit (v : View) (x : Session) (key left frame parent : ℕ) : Type 0 where
  pub page : ℕ
  pub takes : TakesSplit v x key left page parent
  pub stands : (state v).core.place page ≡ Place.Hot frame

abbrev pub CanGrow : (v : View) → (x : Session) → (key frame : ℕ) → Next → Type 0
CanGrow v x key frame (next.Lift page) = CanLift v x key frame
CanGrow v x key frame (next.Split left page parent) = CanSplit v x key left frame parent
