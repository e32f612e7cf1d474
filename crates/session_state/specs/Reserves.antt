-- The sixteen blocks of a log that are kept back suffice for all that a call stages behind its test, and for all that its transaction puts back, up to its end; and
-- seven of them for the latter alone.
use Rattle.std.specs.Prelude.{◌≡◌, ◌≤◌, ◌<◌, ◌+◌, ◌*◌, ◌-◌, ◌++◌, ℕ, suc, max, List, [], ◌∷◌, length, replicate}
use Rattle.page_model.specs.Limits.{leaf_room, top_level, transaction_changes}
use Rattle.engine_calls.specs.log_block.Block.{records_text}
use Rattle.btree_descent.specs.log_record.declared.record.Record.{Record}
use Rattle.engine_calls.specs.worker_log.Calls.{After, flushed_log}
use Rattle.engine_calls.specs.worker_log.Logs.{Log, limit, used}
use Rattle.session_state.specs.Undo.{HasHand, HasRoomToUndo, kept_blocks}

-- a record of at most so many bytes is staged, or the log is flushed
pub data Step : Type 0 where
  Stages : (size : ℕ) → Step
  Flushes : Step

-- what it makes of a log
abbrev pub Makes : Step → (was is : Log) → Type 0
Makes (Step.Stages size) was is = (r : Record) × (length (records_text (r ∷ [])) ≤ size) × After r was is
Makes Step.Flushes was is = is ≡ flushed_log was

-- one after another
abbrev pub MakesAll : List Step → (was is : Log) → Type 0
MakesAll [] was is = is ≡ was
MakesAll (x ∷ xs) was is = (mid : Log) × Makes x was mid × MakesAll xs mid is

-- how much of `filled` (Undo) it takes at most: where a record closes a block, that had more than 2,000 bytes with it, and counts 1,900 then
abbrev pub takes : Step → ℕ
takes (Step.Stages size) = max size (2 * size - 100)
takes Step.Flushes = 1900

abbrev pub takes_all : List Step → ℕ
takes_all [] = 0
takes_all (x ∷ xs) = takes x + takes_all xs

-- what a put stages at most: a purge of all keys of a leaf, a lift of a full root, a split of 30 pairs at each level, and the change
abbrev pub of_put : List Step
of_put = Step.Stages (30 + 8 * leaf_room) ∷ Step.Stages (39 + 16 * leaf_room) ∷ (replicate (suc top_level) (Step.Stages (71 + 16 * 30)) ++ Step.Stages 53 ∷ [])

-- a del: a purge, a join of at most 45 pairs at each level, a drop, and the change
abbrev pub of_del : List Step
of_del = Step.Stages (30 + 8 * leaf_room) ∷ (replicate (suc top_level) (Step.Stages (70 + 16 * 45)) ++ Step.Stages (39 + 16 * leaf_room) ∷ Step.Stages 53 ∷ [])

-- and what an abort puts back before its end
abbrev pub of_abort : List Step
of_abort = replicate transaction_changes (Step.Stages 53)

pub record ReserveLaws : Type 0 where
  -- from where blocks for changes are left, so much leaves a block for one record more
  pub room : (xs : List Step) (was is : Log) → used was < limit was → MakesAll xs was is → takes_all xs ≤ 28_399 → used is + 1 ≤ is.blocks
  -- and so much it is, in whatever order, with three flushes anywhere
  pub put : takes_all (of_put ++ of_abort) + 3 * 1900 ≤ 28_399
  pub del : takes_all (of_del ++ of_abort) + 3 * 1900 ≤ 28_399
  -- from where the blocks that are kept are left, so much leaves room behind a flush for so many put-backs and an end
  pub flush : (xs : List Step) (was is : Log) (many : ℕ) → HasHand was → used was + kept_blocks ≤ was.blocks → MakesAll xs was is → takes_all xs + 64 * many ≤ 9_236 → HasRoomToUndo (flushed_log is) many
  -- and so much it is while so many of a transaction's changes were put back and so many are left, in whatever order with two flushes
  pub abort : (back many : ℕ) → back + many ≤ transaction_changes → takes_all (replicate back (Step.Stages 64) ++ replicate 2 Step.Flushes) + 64 * many ≤ 9_236

abbrev pub EveryReserve : Type 0
EveryReserve = ReserveLaws
