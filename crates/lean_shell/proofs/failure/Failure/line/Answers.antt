use Rattle.script_lang.specs.Notices.{Notice}
use Rattle.lean_shell.proofs.Runs.LineLemmas.{whole_line}
use Rattle.lean_shell.proofs.failure.Failure.line.Goals as goal

pub returns-in-Usage-clause-line : goal.returns-in-Usage-clause-line
returns-in-Usage-clause-line c = whole_line c.notices_are_no_replies.ensures Notice.Usage tt _ c.fixed_lines.ensures.usage

pub returns-in-DiskFault-clause-line : goal.returns-in-DiskFault-clause-line
returns-in-DiskFault-clause-line c = whole_line c.notices_are_no_replies.ensures Notice.DiskFault tt _ c.fixed_lines.ensures.disk_fault

pub returns-in-Memory-clause-line : goal.returns-in-Memory-clause-line
returns-in-Memory-clause-line c = whole_line c.notices_are_no_replies.ensures Notice.NoMemory tt _ c.fixed_lines.ensures.no_memory

pub returns-in-AlreadyFormatted-clause-line : goal.returns-in-AlreadyFormatted-clause-line
returns-in-AlreadyFormatted-clause-line c = whole_line c.notices_are_no_replies.ensures Notice.AlreadyFormatted tt _ c.fixed_lines.ensures.already_formatted
