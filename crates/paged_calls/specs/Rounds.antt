-- Words of private functions: what a put did behind the taking of its row, round by round.
use Rattle.std.specs.Prelude.{◌≡◌, ◌⊎◌, ◌≤◌, ◌<◌, ◌*◌, ◌^◌, ℕ, suc, Option, Some, None, Result, Ok, Err}
use Rattle.map_model.specs.declared.call.Refusal.{Refusal}
use Rattle.map_model.specs.declared.call.Refusal.TheVariants as refusal
use Rattle.paged_desks.specs.engine_trait.declared.unserved.Unanswered.TheVariants as unanswered
use Rattle.paged_desks.specs.engine_trait.declared.unserved.Unserved.{Unserved}
use Rattle.paged_desks.specs.engine_trait.declared.unserved.Unserved.TheVariants as unserved
use Rattle.paged_desks.specs.core_calls.Room.{room_takes}
use Rattle.paged_desks.specs.engine_trait.Refusals.{room_refusal}
use Rattle.lean_disk.specs.Story.{Story}
use Rattle.paged_desks.specs.row_words.Openings.{opening}
use Rattle.paged_desks.specs.rows_trait.Views.{state}
use Rattle.paged_desks.specs.session_state.Free.{first_of}
use Rattle.paged_desks.specs.session_state.Holds.{IsSameSession}
use Rattle.paged_desks.specs.session_state.Staging.{KeepsLog}
use Rattle.paged_desks.specs.session_state.tidy_rules.Rooms.{NoneGoes}
use Rattle.paged_desks.specs.paged_rows.Paged.{IsWarm}
use Rattle.row_room.specs.row_changes.Paths.{IsUnfit}
use Rattle.row_room.specs.row_changes.Puts.{IsChanged}
use Rattle.row_room.specs.row_changes.declared.ways.Unmade.{Unmade}
use Rattle.row_room.specs.row_changes.declared.ways.Unmade.TheVariants as unmade
use Rattle.row_room.specs.declared.steps.Stepped.{Stepped}
use Rattle.paged_desks.specs.Calls.{IsAside}
use Rattle.paged_desks.specs.Machines.{IsReady, pages, view_of}
use Rattle.paged_desks.specs.Parts.{HasFailed, IsSpent, StandsNowhere}
use Rattle.paged_desks.specs.declared.machine.PagedMachine.{PagedMachine}
use Rattle.paged_calls.specs.Growths.{HasMade, IsGoing, MayPut}
use Rattle.paged_calls.specs.declared.growing.Round.{Round}
use Rattle.paged_calls.specs.declared.growing.Round.TheVariants as round

-- ## Which change is next

-- the leaf of the key is full, none of its tombstones can go, and a change of the tree takes this page next: the least of the session's free pages
pub record IsWanted {D : Type 0} (key page : ℕ) (m : PagedMachine D) : Type 0 where
  pub leaf : ℕ
  pub unfit : IsUnfit (view_of m) key leaf
  pub none : NoneGoes (opening (view_of m).given) (state (view_of m)).core key
  pub fits : room_refusal (opening (view_of m).given) (state (view_of m)).core key ≡ None
  pub least : first_of m.machine.work.session.free ≡ Some page

-- ## How many events

-- so many rounds has a put at most, one for each change of the tree and one for the key's own
abbrev pub most_rounds : ℕ
most_rounds = 10

-- and so many events a round, or the coming of the key's way, beside those by which pages cool
abbrev pub most_a_round : ℕ
most_a_round = 2 ^ 9

-- of which so many are behind the wish for a free page
abbrev pub most_behind_wish : ℕ
most_behind_wish = 2 ^ 8

abbrev pub most_a_put : ℕ
most_a_put = suc most_rounds * most_a_round

-- ## By answer

-- the key had its word changed, in this many events before that
pub record HasPut {D : Type 0} (story : D → Story) (key value : ℕ) (before : Option ℕ) (most : ℕ) (m n : PagedMachine D) : Type 0 where
  pub between : PagedMachine D
  pub made : HasMade story key most m between
  pub changed : IsChanged m.machine.work.session.own (view_of between) (view_of n) key value before between.machine.work.log n.machine.work.log (story between.machine.work.disk) (story n.machine.work.disk)
  pub ready : IsReady story between
  pub aside : IsAside between n
  pub session : IsSameSession between.machine.work.session n.machine.work.session
  pub is_half_aborted : n.machine.work.session.is_half_aborted ≡ between.machine.work.session.is_half_aborted

-- The tree was changed, and the put goes on: the key's way is hot, and there are fewer changes to come.
pub record GoesOnWarm {D : Type 0} (story : D → Story) (key most : ℕ) (m n : PagedMachine D) : Type 0 where
  pub made : HasMade story key most m n
  pub may : MayPut key n
  pub small : n.machine.work.session.clock.clock < 2 ^ 62
  pub warm : IsWarm (pages n) key 0
  pub takes : room_takes (opening (view_of n).given) (state (view_of n)).core key < room_takes (opening (view_of m).given) (state (view_of m)).core key

-- a latch is spent, or an abort is half done where a sync is needed
pub record IsPutSpent {D : Type 0} (story : D → Story) (key most : ℕ) (m n : PagedMachine D) : Type 0 where
  pub made : HasMade story key most m n
  pub spent : IsSpent m n

-- its clock has come to its end
pub record IsPutStopped {D : Type 0} (story : D → Story) (key most : ℕ) (m n : PagedMachine D) : Type 0 where
  pub made : HasMade story key most m n
  pub going : IsGoing n
  pub spent : 2 ^ 62 ≤ n.machine.work.session.clock.clock

-- its leaf is full, none of its tombstones can go, and there can be no room
pub record IsPutCrowded {D : Type 0} (story : D → Story) (key most : ℕ) (why : Refusal) (m n : PagedMachine D) : Type 0 where
  pub made : HasMade story key most m n
  pub going : IsGoing n
  pub leaf : ℕ
  pub unfit : IsUnfit (view_of n) key leaf
  pub small : n.machine.work.session.clock.clock < 2 ^ 62
  pub none : NoneGoes (opening (view_of n).given) (state (view_of n)).core key
  pub cause : room_refusal (opening (view_of n).given) (state (view_of n)).core key ≡ Some why

-- the log's device failed while a record was staged
pub record FailsPutting {D : Type 0} (story : D → Story) (key most : ℕ) (m n : PagedMachine D) : Type 0 where
  pub between : PagedMachine D
  pub made : HasMade story key most m between
  pub keeps : KeepsLog m.machine.work.session.own between.machine.work.log (story between.machine.work.disk) (story n.machine.work.disk)

-- or that of the pages while these came
pub record FailsComing {D : Type 0} (story : D → Story) (key most : ℕ) (m n : PagedMachine D) : Type 0 where
  pub between : PagedMachine D
  pub made : HasMade story key most m between
  pub failed : HasFailed story between n

-- of a round
abbrev pub Rounds : {D : Type 0} → (story : D → Story) → (key value most : ℕ) → Result Round Unserved → (m n : PagedMachine D) → Type 0
Rounds story key value most (Ok (round.Done before)) m n = HasPut story key value before most m n
Rounds story key value most (Ok round.Grown) m n = GoesOnWarm story key most m n
Rounds story key value most (Err (unserved.Refused refusal.RowSpent)) m n = IsPutSpent story key most m n
Rounds story key value most (Err (unserved.Refused refusal.ClockSpent)) m n = IsPutStopped story key most m n
Rounds story key value most (Err (unserved.Refused refusal.TooTall)) m n = IsPutCrowded story key most refusal.TooTall m n
Rounds story key value most (Err (unserved.Refused refusal.NoPages)) m n = IsPutCrowded story key most refusal.NoPages m n
Rounds story key value most (Err (unserved.Unanswered unanswered.DiskFault)) m n = FailsPutting story key most m n ⊎ FailsComing story key most m n
Rounds story key value most (Err (unserved.Unanswered (unanswered.Damaged place))) m n = FailsComing story key most m n × StandsNowhere story m
Rounds story key value most (Err why) m n = ⊥

-- the last round of a put with this answer
abbrev pub round_of : Result (Option ℕ) Unserved → Result Round Unserved
round_of (Ok before) = Ok (round.Done before)
round_of (Err why) = Err why

-- a refusal of a step, as one of a try
abbrev pub as_stepped : Result Stepped Unserved → Result Stepped Unmade
as_stepped (Ok stepped) = Ok stepped
as_stepped (Err why) = Err (unmade.Unserved why)
