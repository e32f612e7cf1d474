-- How a change of the tree ends where it can be made, nobody else steps and the log has a block, and what is answered then.
use Rattle.std.specs.Prelude.{◌<◌, ◌^◌, ℕ, false, List, length, Result, Ok, Err}
use Rattle.map_model.specs.declared.call.Refusal.TheVariants as refusal
use Rattle.row_changes.specs.session_state.engine_trait.declared.unserved.Unanswered.TheVariants as unanswered
use Rattle.row_changes.specs.session_state.engine_trait.declared.unserved.Unserved.{Unserved}
use Rattle.row_changes.specs.session_state.engine_trait.declared.unserved.Unserved.TheVariants as unserved
use Rattle.row_changes.specs.session_state.draw_trait.declared.draw.Unstaged.TheVariants.{DiskFault}
use Rattle.row_changes.specs.session_state.declared.session.Session.{Session}
use Rattle.tidy_rules.specs.Laws.{put_in}
use Rattle.btree_smo.specs.declared.outcome.Outcome.{Outcome}
use Rattle.btree_smo.specs.declared.outcome.Outcome.TheVariants as outcome
use Rattle.btree_smo.specs.declared.purge.Purged.{Purged}
use Rattle.btree_smo.specs.declared.purge.Purged.TheVariants as purged
use Rattle.row_tidying.specs.declared.purges.Cleared.{Cleared}
use Rattle.row_tidying.specs.declared.purges.Cleared.TheVariants as cleared

-- ## A join or a drop

abbrev pub IsExpected : Outcome → Type 0
IsExpected outcome.Done = Unit {0}
IsExpected (outcome.RowSpent row) = Unit {0}
IsExpected (outcome.Unstaged DiskFault) = Unit {0}
IsExpected _ = ⊥

-- of this page
abbrev pub answer_of : Outcome → (page : ℕ) → Result ℕ Unserved
answer_of (outcome.RowSpent row) page = Err (unserved.Refused refusal.RowSpent)
answer_of (outcome.Unstaged why) page = Err (unserved.Unanswered unanswered.DiskFault)
answer_of _ page = Ok page

-- where it was made, there is room for one free page more
abbrev pub HasRoomFor : Outcome → (free : List ℕ) → Type 0
HasRoomFor outcome.Done free = length free < 2 ^ 16
HasRoomFor _ free = Unit {0}

-- the session behind it
abbrev pub session_after : Outcome → (page : ℕ) → Session → Session
session_after outcome.Done page x = record x { free = put_in page x.free }
session_after (outcome.Unstaged why) page x = record x { works = false }
session_after _ page x = x

-- ## A purge

abbrev pub IsExpectedOf : Purged → Type 0
IsExpectedOf purged.Done = Unit {0}
IsExpectedOf (purged.Spared left) = Unit {0}
IsExpectedOf (purged.Refused (outcome.RowSpent row)) = Unit {0}
IsExpectedOf (purged.Refused (outcome.Unstaged DiskFault)) = Unit {0}
IsExpectedOf (purged.Refused _) = ⊥

abbrev pub cleared_of : Purged → Result Cleared Unserved
cleared_of purged.Done = Ok cleared.Done
cleared_of (purged.Spared left) = Ok (cleared.Spared left)
cleared_of (purged.Refused (outcome.RowSpent row)) = Err (unserved.Refused refusal.RowSpent)
cleared_of (purged.Refused why) = Err (unserved.Unanswered unanswered.DiskFault)

abbrev pub session_behind : Purged → Session → Session
session_behind (purged.Refused (outcome.Unstaged why)) x = record x { works = false }
session_behind _ x = x
