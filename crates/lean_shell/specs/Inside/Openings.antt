-- Words of private functions: lines that are put.
use Rattle.std.specs.Prelude.{◌≡◌, ℕ}
use Rattle.lean_disk.specs.Faults.{HasCause}
use Rattle.lean_disk.specs.Story.{Story}
use Rattle.lean_disk.specs.Told.{TellsSame}
use Rattle.buffered_engine.specs.lean_edge.Outside.{Held}
use Rattle.buffered_engine.specs.lean_edge.declared.sink.Put.{Put}
use Rattle.buffered_engine.specs.lean_edge.declared.sink.Put.TheVariants as put
use Rattle.buffered_engine.specs.recovery.declared.opening.Unrecovered.{Unrecovered}
use Rattle.script_lang.specs.Notices.{Notice, NoticeFits}
use Rattle.script_run.specs.declared.stop.Stop.{Stop}
use Rattle.script_run.specs.declared.stop.Stop.TheVariants as stop
use Rattle.lean_shell.specs.Lines.{IsPut, line_of}
use Rattle.lean_shell.specs.Runs.{last_line, notice_of}

-- The last line was put, if there is one; or nothing was.
abbrev pub EndsWith : Stop → Held → Held → (sink0 sink1 : ℕ) → Story → Story → Type 0
EndsWith stop.End held0 held1 sink0 sink1 s0 s1 = (held1 ≡ held0) × (sink1 ≡ sink0) × TellsSame s0 s1
EndsWith stop.WriteFault held0 held1 sink0 sink1 s0 s1 = (held1 ≡ held0) × (sink1 ≡ sink0) × TellsSame s0 s1
EndsWith (stop.Refused line) held0 held1 sink0 sink1 s0 s1 = NoticeFits (Notice.Refused line) × ((answer : Put) × IsPut (last_line (stop.Refused line)) answer held0 held1 s0 s1 × HasCause sink0 sink1 (answer ≡ put.Failed))
EndsWith (stop.Damaged place) held0 held1 sink0 sink1 s0 s1 = NoticeFits (Notice.Damaged 1 place) × ((answer : Put) × IsPut (last_line (stop.Damaged place)) answer held0 held1 s0 s1 × HasCause sink0 sink1 (answer ≡ put.Failed))
EndsWith stop.ReadFault held0 held1 sink0 sink1 s0 s1 = (answer : Put) × IsPut (last_line stop.ReadFault) answer held0 held1 s0 s1 × HasCause sink0 sink1 (answer ≡ put.Failed)
EndsWith stop.DiskFault held0 held1 sink0 sink1 s0 s1 = (answer : Put) × IsPut (last_line stop.DiskFault) answer held0 held1 s0 s1 × HasCause sink0 sink1 (answer ≡ put.Failed)

-- the line of a disk that was not opened was put
pub record Refuses (reason : Unrecovered) (held0 held1 : Held) (sink0 sink1 : ℕ) (s0 s1 : Story) : Type 0 where
  pub fits : NoticeFits (notice_of reason)
  pub answer : Put
  pub line : IsPut (line_of (notice_of reason)) answer held0 held1 s0 s1
  pub cause : HasCause sink0 sink1 (answer ≡ put.Failed)
