-- Words of private functions: how a del tidies before it changes its key, behind the coming of the pages that this needs.
use Rattle.std.specs.Prelude.{◌≡◌, ◌⊎◌, ◌≤◌, ◌<◌, ◌*◌, ◌%◌, ◌^◌, ◌==◌, ℕ, suc, Bool, true, false, List, [], ◌∷◌, length, Option, Some, None, Result, Ok, Err}
use Rattle.map_model.specs.declared.call.Refusal.TheVariants as refusal
use Rattle.page_model.specs.Limits.{transaction_changes}
use Rattle.page_model.specs.Nodes.{holds}
use Rattle.page_model.specs.Redo.{is_some}
use Rattle.paged_desks.specs.engine_trait.declared.unserved.Unanswered.TheVariants as unanswered
use Rattle.paged_desks.specs.engine_trait.declared.unserved.Unserved.{Unserved}
use Rattle.paged_desks.specs.engine_trait.declared.unserved.Unserved.TheVariants as unserved
use Rattle.paged_desks.specs.btree_descent.declared.descent.TheConstants.{TOMBSTONE}
use Rattle.paged_desks.specs.core_calls.LogEvents.{IsTightAround}
use Rattle.paged_desks.specs.core_state.Events as happening
use Rattle.paged_desks.specs.core_state.Needs.{is_held_by, value_in}
use Rattle.paged_desks.specs.core_state.Openings.{Opening}
use Rattle.paged_desks.specs.core_state.States.{State, nodes_of}
use Rattle.paged_desks.specs.core_state.Steps.{step}
use Rattle.lean_disk.specs.Story.{Story}
use Rattle.paged_desks.specs.row_words.declared.event.Event.{Event}
use Rattle.paged_desks.specs.row_words.declared.event.Event.TheVariants as told
use Rattle.paged_desks.specs.row_words.Openings.{opening}
use Rattle.paged_desks.specs.rows_trait.Views.{state}
use Rattle.paged_desks.specs.session_state.Holds.{IsSameSession}
use Rattle.paged_desks.specs.session_state.Staging.{KeepsLog}
use Rattle.paged_desks.specs.session_state.Undo.{HasRoomToStage}
use Rattle.paged_desks.specs.session_state.tidy_rules.Tidying.{Stage, Tidies, behind, next_tidy}
use Rattle.paged_desks.specs.paged_rows.Paged.{IsWarm}
use Rattle.row_room.specs.row_changes.Puts.{IsChanged}
use Rattle.row_room.specs.row_changes.Reads.{HasRead}
use Rattle.row_room.specs.row_changes.declared.ways.Unmade.{Unmade}
use Rattle.row_room.specs.row_changes.declared.ways.Unmade.TheVariants as unmade
use Rattle.row_walks.specs.Stages.{IsNeighbour, IsPassed, left_of, level_of, stage_of}
use Rattle.row_walks.specs.declared.steps.At.{At}
use Rattle.row_walks.specs.declared.steps.Tidied.{Tidied}
use Rattle.paged_desks.specs.Calls.{IsAside, IsBeside}
use Rattle.paged_desks.specs.Machines.{IsReady, pages, view_of}
use Rattle.paged_desks.specs.Pages.{is_paging}
use Rattle.paged_desks.specs.Parts.{HasFailed, IsSpent, StandsNowhere}
use Rattle.paged_desks.specs.declared.machine.PagedMachine.{PagedMachine}
use Rattle.paged_calls.specs.Growths.{HasMadeWhere, IsGoing}

-- ## What is done

-- a page is moved, a sync is made for that, a row is given up as it stood, or session `own` changes the tree so that space comes back
abbrev pub is_tidying : (own : ℕ) → Event → Bool
is_tidying own (told.Purge w p keys) = w == own
is_tidying own (told.Join w l r q) = w == own
is_tidying own (told.Drop w c) = w == own
is_tidying own e = is_paging e

-- how far a tidying has come behind each of these events
abbrev pub stage_behind : Opening → State → Stage → List happening.Event → Stage
stage_behind g s at [] = at
stage_behind g s at (e ∷ es) = stage_behind g (step g s e) (behind s at e) es

-- each change of the tree is the next one, and from here it has come to there
pub record IsTidyingTo (own key : ℕ) (here there : Stage) (g : Opening) (s : State) (es : List happening.Event) : Type 0 where
  pub tidies : Tidies own g s key here es
  pub now : stage_behind g s here es ≡ there

-- Pages came and the tree was tidied from here to there, as a part of a call.
abbrev pub HasTidied : {D : Type 0} → (story : D → Story) → (key : ℕ) → (here there : At) → (most : ℕ) → (m n : PagedMachine D) → Type 0
HasTidied story key here there most m n = HasMadeWhere story is_tidying (IsTightAround key) (λ own g s es. IsTidyingTo own key (stage_of here) (stage_of there) g s es) most m n

-- ## Before it

-- Beside its clock, no test refuses the session a del; its log has blocks for the changes of the tree that are still to come, for the del, and for what is kept; it
-- holds the key's row alone; and the tidying has come no higher than a tree can be.
pub record MayDel {D : Type 0} (key : ℕ) (here : At) (m : PagedMachine D) : Type 0 where
  pub is_open : m.machine.work.session.is_open ≡ true
  pub whole : m.machine.work.session.is_half_aborted ≡ false
  pub few : length m.machine.work.session.undo < transaction_changes
  pub room : HasRoomToStage m.machine.work.log (suc (left_of (opening (view_of m).given).format.levels here))
  pub row : is_held_by ((state (view_of m)).core.row (key % m.machine.work.session.held.count)).holder m.machine.work.session.own ≡ true
  pub within : level_of here ≤ (opening (view_of m).given).format.levels

-- the levels below this one are passed
abbrev pub HasPassed : {D : Type 0} → (key : ℕ) → (here : At) → (level : ℕ) → PagedMachine D → Type 0
HasPassed key here level m = IsPassed m.machine.work.session.own (opening (view_of m).given) (state (view_of m)).core key here level

-- and there this neighbour is not hot
abbrev pub WantsNeighbour : {D : Type 0} → (key page level : ℕ) → PagedMachine D → Type 0
WantsNeighbour key page level m = IsNeighbour (opening (view_of m).given) (state (view_of m)).core key level page

-- the key's leaf has a value for it
abbrev pub HasValue : {D : Type 0} → (key : ℕ) → PagedMachine D → Type 0
HasValue key m = (p : ℕ) → p < (opening (view_of m).given).format.pages → holds (nodes_of (state (view_of m)).core p) key ≡ true → is_some (value_in (opening (view_of m).given).format (nodes_of (state (view_of m)).core p) key) ≡ true

-- the tree was not changed yet, or it has
abbrev pub IsLive : {D : Type 0} → (key : ℕ) → (here : At) → PagedMachine D → Type 0
IsLive key here m = (stage_of here ≡ Stage.Before) ⊎ HasValue key m

-- no change of the tree is left
abbrev pub IsTidy : {D : Type 0} → (key : ℕ) → (here : At) → PagedMachine D → Type 0
IsTidy key here m = next_tidy m.machine.work.session.own (opening (view_of m).given) (state (view_of m)).core key (stage_of here) ≡ None

-- ## How many events

-- so many events at most has a step, the coming of one neighbour, and that with the step behind it, beside those by which pages cool
abbrev pub most_a_step : ℕ
most_a_step = 69

abbrev pub most_a_coming : ℕ
most_a_coming = 48

abbrev pub most_a_neighbour : ℕ
most_a_neighbour = 2 ^ 7

-- so many a round, which makes one change of the tree: a neighbour comes at each level at most
abbrev pub most_a_tidy_round : ℕ
most_a_tidy_round = 2 ^ 11

-- so many have the rounds from a stage on: one for each change of the tree, and one that finds none
abbrev pub most_behind : (levels : ℕ) → At → ℕ
most_behind levels here = suc (left_of levels here) * most_a_tidy_round

-- and so many has a del, with the coming of the key's way
abbrev pub most_a_del : ℕ
most_a_del = 11 * most_a_tidy_round

-- ## By answer

-- the pages of the key's way are hot, and the clock goes on
pub record GoesOn {D : Type 0} (key : ℕ) (here : At) (n : PagedMachine D) : Type 0 where
  pub may : MayDel key here n
  pub small : n.machine.work.session.clock.clock < 2 ^ 62
  pub warm : IsWarm (pages n) key 0
  pub live : IsLive key here n

-- The tree was changed, and the del goes on from there, with fewer changes to come.
pub record TidiesOn {D : Type 0} (story : D → Story) (key : ℕ) (here there : At) (most : ℕ) (m n : PagedMachine D) : Type 0 where
  pub made : HasTidied story key here there most m n
  pub goes : GoesOn key there n
  pub fewer : left_of (opening (view_of n).given).format.levels there < left_of (opening (view_of m).given).format.levels here

-- no change of the tree is left
pub record HasTidiedAll {D : Type 0} (story : D → Story) (key : ℕ) (here : At) (most : ℕ) (m n : PagedMachine D) : Type 0 where
  pub there : At
  pub made : HasTidied story key here there most m n
  pub goes : GoesOn key there n
  pub tidy : IsTidy key there n

-- a neighbour is wanted
pub record HasWished {D : Type 0} (story : D → Story) (key : ℕ) (here : At) (page level most : ℕ) (m n : PagedMachine D) : Type 0 where
  pub made : HasTidied story key here here most m n
  pub goes : GoesOn key here n
  pub passed : HasPassed key here level n
  pub wants : WantsNeighbour key page level n

-- a latch is spent, or an abort is half done where a sync is needed
pub record IsTidySpent {D : Type 0} (story : D → Story) (key : ℕ) (here : At) (most : ℕ) (m n : PagedMachine D) : Type 0 where
  pub there : At
  pub made : HasTidied story key here there most m n
  pub spent : IsSpent m n

-- its clock has come to its end
pub record IsTidyStopped {D : Type 0} (story : D → Story) (key : ℕ) (here : At) (most : ℕ) (m n : PagedMachine D) : Type 0 where
  pub there : At
  pub made : HasTidied story key here there most m n
  pub going : IsGoing n
  pub spent : 2 ^ 62 ≤ n.machine.work.session.clock.clock

-- the log's device failed while a record was staged
pub record FailsTidying {D : Type 0} (story : D → Story) (key : ℕ) (here : At) (most : ℕ) (m n : PagedMachine D) : Type 0 where
  pub between : PagedMachine D
  pub there : At
  pub made : HasTidied story key here there most m between
  pub keeps : KeepsLog m.machine.work.session.own between.machine.work.log (story between.machine.work.disk) (story n.machine.work.disk)

-- or that of the pages while these came
pub record FailsNeighbour {D : Type 0} (story : D → Story) (key : ℕ) (here : At) (most : ℕ) (m n : PagedMachine D) : Type 0 where
  pub between : PagedMachine D
  pub there : At
  pub made : HasTidied story key here there most m between
  pub failed : HasFailed story between n

-- it was refused, or failed, behind some of the tidying
abbrev pub TidyEnds : {D : Type 0} → (story : D → Story) → (key : ℕ) → (here : At) → (most : ℕ) → Unserved → (m n : PagedMachine D) → Type 0
TidyEnds story key here most (unserved.Refused refusal.RowSpent) m n = IsTidySpent story key here most m n
TidyEnds story key here most (unserved.Refused refusal.ClockSpent) m n = IsTidyStopped story key here most m n
TidyEnds story key here most (unserved.Unanswered unanswered.DiskFault) m n = FailsTidying story key here most m n ⊎ FailsNeighbour story key here most m n
TidyEnds story key here most (unserved.Unanswered (unanswered.Damaged place)) m n = FailsNeighbour story key here most m n × StandsNowhere story m
TidyEnds story key here most why m n = ⊥

-- the coming of a neighbour
abbrev pub BringsNeighbour : {D : Type 0} → (story : D → Story) → (key : ℕ) → (here : At) → (level most : ℕ) → Result (Unit {0}) Unserved → (m n : PagedMachine D) → Type 0
BringsNeighbour story key here level most (Ok u) m n = HasTidied story key here here most m n × (GoesOn key here n × (HasPassed key here level n × ((page : ℕ) → WantsNeighbour key page level n → ⊥)))
BringsNeighbour story key here level most (Err why) m n = TidyEnds story key here most why m n

-- a round: one change of the tree, and so far the tidying has come, or none is left
abbrev pub TidyRounds : {D : Type 0} → (story : D → Story) → (key : ℕ) → (here : At) → (most : ℕ) → Result (Option At) Unserved → (m n : PagedMachine D) → Type 0
TidyRounds story key here most (Ok (Some there)) m n = TidiesOn story key here there most m n
TidyRounds story key here most (Ok None) m n = HasTidiedAll story key here most m n
TidyRounds story key here most (Err why) m n = TidyEnds story key here most why m n

-- all rounds
abbrev pub TidiesAll : {D : Type 0} → (story : D → Story) → (key : ℕ) → (here : At) → (most : ℕ) → Result (Unit {0}) Unserved → (m n : PagedMachine D) → Type 0
TidiesAll story key here most (Ok u) m n = HasTidiedAll story key here most m n
TidiesAll story key here most (Err why) m n = TidyEnds story key here most why m n

-- ## The del

-- no change of the tree was left, and the key's value was taken away
pub record HasDeleted {D : Type 0} (story : D → Story) (key : ℕ) (here : At) (before most : ℕ) (m n : PagedMachine D) : Type 0 where
  pub between : PagedMachine D
  pub there : At
  pub made : HasTidied story key here there most m between
  pub tidy : IsTidy key there between
  pub changed : IsChanged m.machine.work.session.own (view_of between) (view_of n) key TOMBSTONE (Some before) between.machine.work.log n.machine.work.log (story between.machine.work.disk) (story n.machine.work.disk)
  pub ready : IsReady story between
  pub aside : IsAside between n
  pub session : IsSameSession between.machine.work.session n.machine.work.session
  pub is_half_aborted : n.machine.work.session.is_half_aborted ≡ between.machine.work.session.is_half_aborted

-- or no value of it was found, and the tree is as it was
pub record HasMissedKey {D : Type 0} (story : D → Story) (key : ℕ) (here : At) (most : ℕ) (m n : PagedMachine D) : Type 0 where
  pub between : PagedMachine D
  pub there : At
  pub made : HasTidied story key here there most m between
  pub unchanged : stage_of there ≡ Stage.Before
  pub read : HasRead m.machine.work.session.own (view_of between) (view_of n) key None
  pub ready : IsReady story between
  pub may : MayDel key there between
  pub beside : IsBeside between n
  pub session : IsSameSession between.machine.work.session n.machine.work.session
  pub is_half_aborted : n.machine.work.session.is_half_aborted ≡ between.machine.work.session.is_half_aborted

-- by answer
abbrev pub Dels : {D : Type 0} → (story : D → Story) → (key : ℕ) → (here : At) → (most : ℕ) → Result (Option ℕ) Unserved → (m n : PagedMachine D) → Type 0
Dels story key here most (Ok (Some before)) m n = HasDeleted story key here before most m n
Dels story key here most (Ok None) m n = HasMissedKey story key here most m n
Dels story key here most (Err why) m n = TidyEnds story key here most why m n

-- a refusal of a step, as one of a try
abbrev pub as_tidied : Result Tidied Unserved → Result Tidied Unmade
as_tidied (Ok tidied) = Ok tidied
as_tidied (Err why) = Err (unmade.Unserved why)
