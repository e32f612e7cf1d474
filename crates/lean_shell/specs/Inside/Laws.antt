-- Words of private functions: the laws of other crates that a run stands on.
use Rattle.buffered_engine.specs.core_commit.Rises.{EveryRise}
use Rattle.buffered_engine.specs.core_calls.Crashes.{EveryRunCrash}
use Rattle.buffered_engine.specs.core_calls.LineCounts.{EveryLineCount}
use Rattle.buffered_engine.specs.core_calls.Printed.{EveryPrinted}
use Rattle.buffered_engine.specs.core_calls.Runs.{EveryMet}
use Rattle.buffered_engine.specs.core_calls.Told.{EveryTold}
use Rattle.buffered_engine.specs.core_disk.Shows.{EveryShown}
use Rattle.buffered_engine.specs.core_disk.Versions.{EveryVersion}
use Rattle.event_counts.specs.Draws.{EveryDraw}
use Rattle.event_counts.specs.Scans.{EveryScanCount}
use Rattle.buffered_engine.specs.disk_image.Laws.{EveryAgreement, EveryBlockIn, EverySealed}
use Rattle.script_run.specs.Texts.{EveryScript}
use Rattle.std.specs.Prelude.{◌≡◌, Some, None}
use Rattle.map_model.specs.Outputs.{Reply}
use Rattle.script_lang.specs.Notices.{Notice, NoticeFits, notice_text}
use Rattle.script_lang.specs.Replies.{Fits, reply_of, reply_text}
use Rattle.script_lang.specs.Text.{IsLine}
use Rattle.transcripts.specs.Laws.{EveryEnd, EveryMoment, EveryNext, EveryNotice, EveryTail}
use Rattle.buffered_engine.specs.worker_log.Laws.{EveryKept, EveryPrefix}

-- what holds of calls, their numbers and their crashes, of replies and transcripts, of images that agree, and of logs
pub record Laws : Type 0 where
  pub rises : EveryRise
  pub lines : EveryLineCount
  pub printed : EveryPrinted
  pub told : EveryTold
  pub met : EveryMet
  pub crashes : EveryRunCrash
  pub draws : EveryDraw
  pub scans : EveryScanCount
  pub shown : EveryShown
  pub versions : EveryVersion
  -- replies are read back, and notices are no replies
  pub back : (reply : Reply) → Fits reply → (reply_of (reply_text reply) ≡ Some reply) × IsLine (reply_text reply)
  pub quiet : (line : Notice) → NoticeFits line → (reply_of (notice_text line) ≡ None) × IsLine (notice_text line)
  pub moment : EveryMoment
  pub end : EveryEnd
  pub next : EveryNext
  pub notice : EveryNotice
  pub tail : EveryTail
  pub script : EveryScript
  pub agrees : EveryAgreement
  pub blocks : EveryBlockIn
  pub seals : EverySealed
  pub kept : EveryKept
  pub prefixes : EveryPrefix
