-- A change of the tree by which space comes back: what it asks, and that it was made.
use Rattle.std.specs.Prelude.{◌≡◌, ◌≤◌, ◌<◌, ◌^◌, ◌++◌, ℕ, true, false, List, [], ◌∷◌, length}
use Rattle.page_model.specs.Nodes.{is_leaf}
use Rattle.row_changes.specs.session_state.core_state.Needs.{may_drop, may_join}
use Rattle.row_changes.specs.session_state.core_state.Needs as core
use Rattle.row_changes.specs.session_state.core_state.States.{Place, nodes_of}
use Rattle.row_changes.specs.session_state.core_state.Steps.{happens}
use Rattle.lean_disk.specs.Story.{Story}
use Rattle.row_changes.specs.session_state.log_record.declared.record.Record.{Record}
use Rattle.row_changes.specs.session_state.log_block.Block.{records_text}
use Rattle.row_changes.specs.session_state.row_words.declared.event.Event.{Event}
use Rattle.row_changes.specs.session_state.row_words.Moments.{event_of}
use Rattle.row_changes.specs.session_state.row_words.Openings.{opening}
use Rattle.row_changes.specs.session_state.rows_trait.declared.view.View.{View}
use Rattle.row_changes.specs.session_state.rows_trait.Views.{state}
use Rattle.row_changes.specs.session_state.disk_image.Records.{entry_of}
use Rattle.row_changes.specs.session_state.worker_log.Calls.{After}
use Rattle.row_changes.specs.session_state.worker_log.Logs.{Log}
use Rattle.row_changes.specs.session_state.log_calls.Calls.{StagesOn}
use Rattle.row_changes.specs.session_state.flush_avoidance.Clocks.{risen}
use Rattle.row_changes.specs.session_state.Staging.{KeepsLog}
use Rattle.row_changes.specs.session_state.Undo.{HasRoomToStage}
use Rattle.row_changes.specs.session_state.declared.session.Session.{Session}
use Rattle.row_changes.specs.Ways.{IsWarm}
use Rattle.btree_smo.specs.Outcomes.{AreMisses}

-- ## What is asked

-- no test refuses it, and the log has room for its record and for what its session puts back
pub record MayTidy (x : Session) (log : Log) : Type 0 where
  pub works : x.works ≡ true
  pub is_open : x.is_open ≡ true
  pub whole : x.is_half_aborted ≡ false
  pub small : x.clock.clock < 2 ^ 62
  pub room : HasRoomToStage log 1

-- a leaf stands hot in the frame
pub record CanPurge (v : View) (frame : ℕ) : Type 0 where
  pub page : ℕ
  pub stands : (state v).core.place page ≡ Place.Hot frame
  pub leaf : is_leaf (nodes_of (state v).core page) ≡ true

-- the pages in the frames a and b may be joined under the one in the frame d, and this is the right one
pub record CanJoin (v : View) (a b d page : ℕ) : Type 0 where
  pub left : ℕ
  pub parent : ℕ
  pub left_stands : (state v).core.place left ≡ Place.Hot a
  pub right_stands : (state v).core.place page ≡ Place.Hot b
  pub parent_stands : (state v).core.place parent ≡ Place.Hot d
  pub joins : may_join (opening v.given) (nodes_of (state v).core) left page parent ≡ true

-- this page stands hot in the frame, and is the root's one child
pub record CanDrop (v : View) (frame page : ℕ) : Type 0 where
  pub stands : (state v).core.place page ≡ Place.Hot frame
  pub drops : may_drop (nodes_of (state v).core) page ≡ true

-- ## What was done

-- The event was seen next, and misses behind it, and the core is as it makes it. Its record was staged; of the session its clock and its debt have
-- risen, the first record of its transaction may be this one, and these pages are free. No page is moved, and each way that was hot is so still.
pub record IsMade (e : Event) (misses : List Event) (free : List ℕ) (v w : View) (x y : Session) (was is : Log) (old new : Story) : Type 0 where
  pub given : w.given ≡ v.given
  pub seen : w.seen ≡ v.seen ++ e ∷ misses
  pub are_misses : AreMisses misses
  pub met : core.may (opening v.given) (state v).core (event_of e) ≡ true
  pub happened : (state w).core ≡ happens (opening v.given) (state v).core (event_of e)
  pub entry : Record
  pub entry_is : (happens (opening v.given) (state v).core (event_of e)).entries ≡ entry_of x.own entry ∷ (state v).core.entries
  pub after : After entry was is
  pub stands : StagesOn x.own entry was is old new
  pub keeps : KeepsLog x.own was old new
  pub short : length (records_text (entry ∷ [])) ≤ 1031
  pub session : y ≡ record x { clock = risen x.clock y.clock; first = y.first; free = free }
  pub stays : (state w).core.place ≡ (state v).core.place
  pub warm : (key : ℕ) → IsWarm v key → IsWarm w key
