-- Receipts of ends, and when a commit is durable.
use Rattle.std.specs.Prelude.{◌≡◌, ◌<◌, ◌≤◌, ℕ, List, length}
use Rattle.rfa_model.specs.Stamps.{need_of}
use Rattle.paged_scans.specs.core_state.States.{flushed_by_all}
use Rattle.paged_scans.specs.row_words.Openings.{opening}
use Rattle.paged_scans.specs.rows_trait.Views.{state}
use Rattle.paged_scans.specs.rows_trait.declared.view.View.{View}
use Rattle.group_commit.specs.Ripeness.{flushed_of, ripeness_of}
use Rattle.group_commit.specs.declared.receipts.Receipt.{Receipt}
use Rattle.group_commit.specs.declared.receipts.Ripeness.{Ripeness}
use Rattle.buffered_engine.specs.States.{State}

-- the numbers up to which the core has flushed the logs, at the moment that the engine has seen
pub record AreFlushed {D : Type 0} (e : State D) (fs : List ℕ) : Type 0 where
  pub logs : length fs ≡ e.sessions
  pub each : (w : ℕ) → 0 < w → w ≤ e.sessions → flushed_of fs w ≡ (state e.view).core.flushed w

-- what becomes of a receipt, by these numbers
pub record IsRipeness {D : Type 0} (e : State D) (r : Receipt) (found : Ripeness) : Type 0 where
  pub flushed : List ℕ
  pub are : AreFlushed e flushed
  pub found_is : found ≡ ripeness_of flushed r

-- up to which number all logs are flushed
abbrev pub flushed_in : View → ℕ
flushed_in v = flushed_by_all (opening v.given) (state v).core

-- The receipt of an end of session `own`: by what the core's worker has behind it, and up to which number all logs were flushed when it was made.
pub record IsReceipt (own : ℕ) (flushed : ℕ) (w : View) (r : Receipt) : Type 0 where
  pub log : r.log ≡ own
  pub txn : r.txn ≡ ((state w).core.worker own).txn
  pub gsn : r.gsn ≡ ((state w).core.worker own).end
  pub need : r.need ≡ need_of ((state w).core.worker own).debt flushed
