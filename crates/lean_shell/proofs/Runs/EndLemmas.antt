-- How a run ends whose disk was not opened, or whose first line was cut off.
use Rattle.std.proofs.Common.{◌≡◌, ◌<◌, ◌+◌, ℕ, List, Option, IsTrue, drop, length, refl, sym, ◌∙◌, ap, subst, arith, []}
use Rattle.lean_disk.specs.Area.{Area}
use Rattle.lean_disk.specs.Faults.{Rose}
use Rattle.lean_disk.specs.Moments.{LeavesOnly}
use Rattle.lean_disk.specs.Story.{IsLawful, Story, areas_of}
use Rattle.buffered_engine.specs.lean_edge.Outside.{Feed, Held, added}
use Rattle.lean_disk.specs.Told.{TellsOn, OnlyNotes}
use Rattle.lean_disk.proofs.MomentLemmas.{weaker}
use Rattle.std.proofs.Math.Seq.{drop-append_seam}
use Rattle.map_model.specs.Journals.{Journal, Serial}
use Rattle.map_model.specs.Transcripts.{journal}
use Rattle.buffered_engine.specs.lean_edge.declared.sink.Put.{Put}
use Rattle.script_lang.specs.Notices.{Notice, NoticeFits}
use Rattle.buffered_engine.specs.disk_slots.declared.master.Master.{Master}
use Rattle.buffered_engine.specs.disk_image.Shown.{IsCleanDisk}
use Rattle.buffered_engine.specs.recovery.Crashes.{RecoveryLeaves}
use Rattle.buffered_engine.specs.recovery.Opened.{IsRefusal, IsUntouched, Keeps}
use Rattle.buffered_engine.specs.recovery.Telling.{TellsAll}
use Rattle.buffered_engine.specs.recovery.declared.opening.Unrecovered.{Unrecovered}
use Rattle.buffered_engine.specs.core_calls.Fronts.{Done}
use Rattle.buffered_engine.specs.core_state.Openings.{Opening}
use Rattle.transcripts.specs.Laws.{EveryNotice, EveryTail}
use Rattle.transcripts.specs.Told.{IsTail}
use Rattle.transcripts.specs.Transcripts.{first_lines, IsQuiet}
use Rattle.buffered_engine.specs.paged_engine.Openings.{Shows}
use Rattle.buffered_engine.specs.paged_engine.declared.opening.Size.{Size}
use Rattle.lean_shell.specs.Crashes.{IsYoung, MasterLeaves, TellsCrashes}
use Rattle.lean_shell.specs.Headline.{Headline, RunLeaves}
use Rattle.buffered_engine.specs.core_state.Events.{Event}
use Rattle.lean_shell.specs.Ends.{RunEnds}
use Rattle.lean_shell.specs.Inside.Openings.{Refuses}
use Rattle.lean_shell.specs.Inside.Lefts.{LivesOn}
use Rattle.lean_shell.specs.Lines.{IsPut, line_of}
use Rattle.lean_shell.specs.Runs.{Counts, HowRun, IsFrom, first_line, notice_of, status_of}
use Rattle.lean_shell.specs.Runs.HowRun.{OfCut, OfReason, OfScript}
use Rattle.lean_shell.proofs.Runs.LastLemmas.{PutText, put_text, went_out}
use Rattle.lean_shell.proofs.Runs.MomentLemmas.{line_moments}
use Rattle.lean_shell.proofs.Runs.NoteLemmas.{put_notes}
use Rattle.lean_shell.proofs.Runs.OutputLemmas.{notice_tail}
use Rattle.lean_shell.proofs.Runs.QuietLemmas.{master_leaves, run_leaves}

-- ## A disk that was not opened, or a first line that was cut off

module _ (size : Size) (AreIts : Opening → List Done → Option Done → Type 0) (notice_law : EveryNotice) (s0 old new : Story) (law : IsLawful old) (keeps : Keeps s0 old)
    (any : (m : Master) → TellsAll size.sessions s0 → IsCleanDisk m (areas_of s0) → LeavesOnly s0 old (RecoveryLeaves m s0)) (feed : Feed) (n : Notice) (fits : NoticeFits n) (answer : Put) (held0 held1 : Held)
    (p : IsPut (line_of n) answer held0 held1 old new) where
  abbrev pub line_text : PutText (line_of n) answer held0 held1
  line_text = put_text (line_of n) answer held0 held1 p.puts

  notes_put : OnlyNotes old new
  notes_put = put_notes old new answer p.noted p.same

  pub line_on : TellsOn s0 new
  line_on = record {
    counts = notes_put.counts ∙ keeps.counts;
    tells = λ a. notes_put.tells a ∙ keeps.tells a;
    areas = notes_put.areas ∙ keeps.areas;
    later = let a = keeps.later in let b = notes_put.later in omega arith;
  }

  pub line_leaves : (m : Master) → TellsCrashes size.sessions s0 → IsCleanDisk m (areas_of s0) → IsYoung m s0 → LeavesOnly s0 new (LivesOn size AreIts m s0 feed.left line_text.text)
  line_leaves m all clean young = line_moments size AreIts m s0 old new clean young.notes feed.left line_text.text answer (any m all.all clean) law keeps.later keeps.notes p.noted p.same
      (notice_law (length m.heads) n feed.left 0 fits)
      (λ is. subst (λ (t : List ℕ). IsQuiet (length m.heads) feed.left (first_lines 1 t)) (sym (line_text.whole is)) (notice_law (length m.heads) n feed.left 1 fits))

  pub line_masters : (m : Master) → TellsCrashes size.sessions s0 → IsCleanDisk m (areas_of s0) → IsYoung m s0 → LeavesOnly s0 new (MasterLeaves size AreIts m s0 feed.left line_text.text)
  line_masters m all clean young = weaker s0 new (LivesOn size AreIts m s0 feed.left line_text.text) (MasterLeaves size AreIts m s0 feed.left line_text.text) (master_leaves size AreIts m s0 feed.left line_text.text) (line_leaves m all clean young)

  -- the line tells of no call
  pub line_says : EveryTail → TellsAll size.sessions s0 → Headline s0 new feed.left line_text.text
  line_says tail_law all = record {
    serial = λ m map won stands. subst (λ (j : Journal). Serial map j) (sym (ap journal (tail_law (length m.heads) feed.left line_text.text (subst IsTail (sym line_text.is_prefix) (notice_tail n fits line_text.prefix))))) tt;
    any_moment = λ counts m clean young. weaker s0 new (LivesOn size AreIts m s0 feed.left line_text.text) (RunLeaves m s0 feed.left line_text.text) (run_leaves size AreIts m s0 feed.left line_text.text) (line_leaves m (record { all = all; counts = counts }) clean young);
  }

  pub line_headline : EveryTail → IsTrue held0.tells → TellsAll size.sessions s0 → Headline s0 new feed.left (added held0 held1)
  line_headline tail_law sink_tells all =
      subst (Headline s0 new feed.left) (sym (ap (drop (length held0.bytes)) (line_text.holds sink_tells) ∙ drop-append_seam held0.bytes line_text.text)) (line_says tail_law all)

-- no script was executed
abbrev pub IsUnread : {size : Size} {status : ℕ} {s0 s1 : Story} {feed0 feed1 : Feed} {put : List ℕ} {sink0 sink1 : ℕ} → HowRun size status s0 s1 feed0 feed1 put sink0 sink1 → Type 0
IsUnread (OfReason reason unread) = Unit {0}
IsUnread (OfCut cut) = Unit {0}
IsUnread (OfScript ran) = ⊥

-- and this alone was put
pub record OnlyLine (size : Size) (status : ℕ) (events : List Event) (s0 s1 : Story) (feed : Feed) (held0 held1 : Held) (sink0 sink1 : ℕ) (text : List ℕ) : Type 0 where
  pub ends : RunEnds size status events s0 s1 feed feed held0 held1 sink0 sink1
  pub unread : IsUnread ends.how
  pub put_is : ends.put ≡ text

abbrev NoCalls : Opening → List Done → Option Done → Type 0
NoCalls opening heard next_one = ⊥

pub refused_ends : (size : Size) → EveryNotice → EveryTail → (status : ℕ) (s0 old new : Story) → IsLawful old → Keeps s0 old → ((a : ℕ) → 1 + size.sessions < a → old.area a ≡ s0.area a)
    → ((m : Master) → TellsAll size.sessions s0 → IsCleanDisk m (areas_of s0) → LeavesOnly s0 old (RecoveryLeaves m s0)) → (feed : Feed) (reason : Unrecovered) → status ≡ status_of reason → Shows size.sessions s0 reason
    → (IsRefusal reason → (a : ℕ) → IsUntouched (s0.area a) (old.area a))
    → (held0 held1 : Held) (sink0 sink1 : ℕ) → Refuses reason held0 held1 sink0 sink1 old new → (events : List Event) → events ≡ [] → RunEnds size status events s0 new feed feed held0 held1 sink0 sink1
refused_ends size notice_law tail_law status s0 old new law keeps others any feed reason is shown left held0 held1 sink0 sink1 r events none =
    let t = line_text size NoCalls notice_law s0 old new law keeps any feed (notice_of reason) r.fits r.answer held0 held1 r.line in record {
      put = t.text;
      holds = t.holds;
      how = OfReason (
          record {
            reason = reason;
            status_is = is;
            shown = shown;
            printed = went_out (line_of (notice_of reason)) t.text r.answer sink0 sink1 t.prefix t.is_prefix t.whole r.cause;
            left = λ refused a. subst (λ (x : Area). IsUntouched (s0.area a) x) (sym ((put_notes old new r.answer r.line.noted r.line.same).area a)) (left refused a);
          }) refl;
      front = none;
      others = λ a lt. (put_notes old new r.answer r.line.noted r.line.same).area a ∙ others a lt;
      tells_on = line_on size NoCalls notice_law s0 old new law keeps any feed (notice_of reason) r.fits r.answer held0 held1 r.line;
      headline = λ tells. line_says size NoCalls notice_law s0 old new law keeps any feed (notice_of reason) r.fits r.answer held0 held1 r.line tail_law;
      masters = λ tells. line_masters size NoCalls notice_law s0 old new law keeps any feed (notice_of reason) r.fits r.answer held0 held1 r.line;
    }

pub refused_line : (size : Size) → EveryNotice → EveryTail → (status : ℕ) (s0 old new : Story) → IsLawful old → Keeps s0 old → ((a : ℕ) → 1 + size.sessions < a → old.area a ≡ s0.area a)
    → ((m : Master) → TellsAll size.sessions s0 → IsCleanDisk m (areas_of s0) → LeavesOnly s0 old (RecoveryLeaves m s0)) → (feed : Feed) (reason : Unrecovered) → status ≡ status_of reason → Shows size.sessions s0 reason
    → (IsRefusal reason → (a : ℕ) → IsUntouched (s0.area a) (old.area a))
    → (held0 held1 : Held) (sink0 sink1 : ℕ) → (r : Refuses reason held0 held1 sink0 sink1 old new) → (events : List Event) → events ≡ [] → OnlyLine size status events s0 new feed held0 held1 sink0 sink1 (put_text (line_of (notice_of reason)) r.answer held0 held1 r.line.puts).text
unfolding refused_ends
refused_line size notice_law tail_law status s0 old new law keeps others any feed reason is shown left held0 held1 sink0 sink1 r events none =
    record { ends = refused_ends size notice_law tail_law status s0 old new law keeps others any feed reason is shown left held0 held1 sink0 sink1 r events none; unread = tt; put_is = refl }

pub refused_headline : (size : Size) → EveryNotice → EveryTail → (s0 old new : Story) → IsLawful old → Keeps s0 old → ((m : Master) → TellsAll size.sessions s0 → IsCleanDisk m (areas_of s0) → LeavesOnly s0 old (RecoveryLeaves m s0))
    → (feed : Feed) (reason : Unrecovered) (held0 held1 : Held) (sink0 sink1 : ℕ) → Refuses reason held0 held1 sink0 sink1 old new → IsTrue held0.tells → TellsAll size.sessions s0 → Headline s0 new feed.left (added held0 held1)
refused_headline size notice_law tail_law s0 old new law keeps any feed reason held0 held1 sink0 sink1 r = line_headline size NoCalls notice_law s0 old new law keeps any feed (notice_of reason) r.fits r.answer held0 held1 r.line tail_law

module _ (size : Size) (notice_law : EveryNotice) (s0 old new : Story) (law : IsLawful old) (keeps : Keeps s0 old) (any : (m : Master) → TellsAll size.sessions s0 → IsCleanDisk m (areas_of s0) → LeavesOnly s0 old (RecoveryLeaves m s0))
    (feed : Feed) (n : Counts) (fits : NoticeFits (Notice.Opened n.generation n.winners n.undone)) (held0 held1 : Held) (answer : Put) (p : IsPut (first_line n) answer held0 held1 old new) where
  abbrev opened : Notice
  opened = Notice.Opened n.generation n.winners n.undone

  pub cut_ends : EveryTail → ((a : ℕ) → 1 + size.sessions < a → old.area a ≡ s0.area a) → (g : Opening) → (TellsAll size.sessions s0 → IsFrom size.sessions g s0 n) → (sink0 sink1 : ℕ) → Rose sink0 sink1 → (events : List Event) → events ≡ [] → RunEnds size 5 events s0 new feed feed held0 held1 sink0 sink1
  cut_ends tail_law others g from sink0 sink1 rose events none =
      let t = line_text size NoCalls notice_law s0 old new law keeps any feed opened fits answer held0 held1 p in record {
        put = t.text;
        holds = t.holds;
        how = OfCut (record { status_is = refl; cause = rose; counts = n; opening = g; from = from; prefix = t.prefix; printed = t.is_prefix; unread = refl });
        front = none;
        others = λ a lt. (put_notes old new answer p.noted p.same).area a ∙ others a lt;
        tells_on = line_on size NoCalls notice_law s0 old new law keeps any feed opened fits answer held0 held1 p;
        headline = λ tells. line_says size NoCalls notice_law s0 old new law keeps any feed opened fits answer held0 held1 p tail_law;
        masters = λ tells. line_masters size NoCalls notice_law s0 old new law keeps any feed opened fits answer held0 held1 p;
      }

  pub cut_line : EveryTail → ((a : ℕ) → 1 + size.sessions < a → old.area a ≡ s0.area a) → (g : Opening) → (TellsAll size.sessions s0 → IsFrom size.sessions g s0 n) → (sink0 sink1 : ℕ) → Rose sink0 sink1 → (events : List Event) → events ≡ []
      → OnlyLine size 5 events s0 new feed held0 held1 sink0 sink1 (put_text (first_line n) answer held0 held1 p.puts).text
  unfolding cut_ends
  cut_line tail_law others g from sink0 sink1 rose events none = record { ends = cut_ends tail_law others g from sink0 sink1 rose events none; unread = tt; put_is = refl }

  pub cut_headline : EveryTail → IsTrue held0.tells → TellsAll size.sessions s0 → Headline s0 new feed.left (added held0 held1)
  cut_headline = line_headline size NoCalls notice_law s0 old new law keeps any feed opened fits answer held0 held1 p
