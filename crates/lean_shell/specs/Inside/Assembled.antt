-- Words of private functions: a whole run of a script, from the parts that it is made of.
use Rattle.std.specs.Prelude.{◌≡◌, ◌≤◌, ◌+◌, ◌<◌, ℕ, List, [], Some, IsTrue}
use Rattle.lean_disk.specs.Faults.{HasCause}
use Rattle.lean_disk.specs.Moments.{LeavesOnly}
use Rattle.lean_disk.specs.Story.{IsLawful, Story, areas_of}
use Rattle.buffered_engine.specs.lean_edge.Outside.{Feed, Held, added}
use Rattle.buffered_engine.specs.lean_edge.declared.sink.Put.TheVariants as put
use Rattle.buffered_engine.specs.disk_slots.declared.master.Master.{Master}
use Rattle.buffered_engine.specs.disk_image.Shown.{IsCleanDisk}
use Rattle.buffered_engine.specs.recovery.Crashes.{RecoveryLeaves}
use Rattle.buffered_engine.specs.recovery.Opened.{Keeps}
use Rattle.buffered_engine.specs.recovery.Telling.{TellsAll}
use Rattle.buffered_engine.specs.core_calls.Fronts.{front}
use Rattle.buffered_engine.specs.core_state.Events.{Event}
use Rattle.buffered_engine.specs.core_state.Openings.{Opening}
use Rattle.script_lang.specs.Notices.{Notice, NoticeFits}
use Rattle.script_lang.specs.Reading.{Unread}
use Rattle.script_run.specs.Runs.{ScriptRuns}
use Rattle.script_run.specs.declared.stop.Stop.{Stop}
use Rattle.script_run.specs.declared.stop.Stop.TheVariants as stops
use Rattle.buffered_engine.specs.call_parts.Memory.{Memory}
use Rattle.buffered_engine.specs.paged_engine.declared.opening.Size.{Size}
use Rattle.lean_shell.specs.Ends.{RunEnds}
use Rattle.lean_shell.specs.Headline.{Headline}
use Rattle.lean_shell.specs.Inside.Begins.{HasStarted}
use Rattle.lean_shell.specs.Inside.Openings.{EndsWith}
use Rattle.lean_shell.specs.Lines.{IsPut}
use Rattle.lean_shell.specs.Runs.{Counts, IsClosed, ended, first_line}

-- A disk that told s0 was opened and told sa; the first line was put, which it told as sb; the script was executed, sc; and the last line was put, s1.
pub record IsRun (size : Size) (s0 sa sb sc s1 : Story) (feed0 feed1 : Feed) (held0 held_b held_c held1 : Held) (stop : Stop) (sink_c sink1 : ℕ) (events : List Event) : Type 0 where
  pub law_a : IsLawful sa
  pub law_c : IsLawful sc
  pub law_1 : IsLawful s1
  -- the opening
  pub g : Opening
  pub first : Memory
  pub counts : Counts
  pub few : size.sessions ≤ 16
  pub frames : 32 ≤ size.frames
  pub starts : HasStarted size s0 sa g first counts
  pub keeps : Keeps s0 sa
  pub any : (m : Master) → TellsAll size.sessions s0 → IsCleanDisk m (areas_of s0) → LeavesOnly s0 sa (RecoveryLeaves m s0)
  -- the first line
  pub opened_fits : NoticeFits (Notice.Opened counts.generation counts.winners counts.undone)
  pub put : IsPut (first_line counts) put.Done held0 held_b sa sb
  -- the script
  pub reader : Unread
  pub last_memory : Memory
  pub runs : ScriptRuns (Some stop) g.workers size.group g [] 0 feed0 [] first last_memory reader feed1 held_b held_c sb sc
  pub closed : IsClosed stop runs.newer
  pub made : events ≡ front runs.newer
  -- the last line
  pub last : EndsWith stop held_c held1 sink_c sink1 sc s1

-- what is said of it
pub record RunSays (size : Size) (s0 sa s1 : Story) (feed0 feed1 : Feed) (held0 held1 : Held) (stop : Stop) (sink_c sink1 : ℕ) (events : List Event) : Type 0 where
  pub ends : (status : ℕ) → status ≡ ended stop → (sink0 : ℕ) → HasCause sink0 sink_c (stop ≡ stops.WriteFault) → ((a : ℕ) → 1 + size.sessions < a → sa.area a ≡ s0.area a) → RunEnds size status events s0 s1 feed0 feed1 held0 held1 sink0 sink1
  pub headline : IsTrue feed0.tells → IsTrue held0.tells → TellsAll size.sessions s0 → Headline s0 s1 feed0.left (added held0 held1)

abbrev pub EveryRun : (s0 sa sb sc s1 : Story) → Type 0
EveryRun s0 sa sb sc s1 = (size : Size) (feed0 feed1 : Feed) (held0 held_b held_c held1 : Held) (stop : Stop) (sink_c sink1 : ℕ) (events : List Event) → IsRun size s0 sa sb sc s1 feed0 feed1 held0 held_b held_c held1 stop sink_c sink1 events → RunSays size s0 sa s1 feed0 feed1 held0 held1 stop sink_c sink1 events
