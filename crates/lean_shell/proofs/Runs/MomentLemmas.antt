-- Moments of a run: a line is put after other calls.
use Rattle.std.proofs.Common.{◌≡◌, inl, inr, ◌≤◌, ◌<◌, ◌+◌, ◌-◌, ◌^◌, ℕ, List, length, min, Option, refl, sym, ◌∙◌, ap, subst, arith}
use Rattle.lean_disk.specs.Area.{Area, Leaves}
use Rattle.lean_disk.specs.Calls.{Noted}
use Rattle.lean_disk.specs.Moments.{LeavesOnly}
use Rattle.lean_disk.specs.Story.{Crash, IsLawful, LeavesNow, Story, areas_of}
use Rattle.lean_disk.specs.Told.{TellsSame, OnlyNotes}
use Rattle.lean_disk.proofs.MomentLemmas.{goes_on_by, weaker, started}
use Rattle.buffered_engine.specs.lean_edge.declared.sink.Put.{Put}
use Rattle.buffered_engine.specs.lean_edge.declared.sink.Put.TheVariants.{Done, Failed}
use Rattle.buffered_engine.specs.disk_slots.declared.master.Master.{Master}
use Rattle.buffered_engine.specs.core_calls.Fronts.{Done as DoneCall}
use Rattle.buffered_engine.specs.core_state.Openings.{Opening}
use Rattle.buffered_engine.specs.disk_image.Shown.{IsCleanDisk}
use Rattle.buffered_engine.specs.recovery.Crashes.{RecoveryLeaves}
use Rattle.transcripts.specs.Transcripts.{first_lines, IsQuiet}
use Rattle.buffered_engine.specs.paged_engine.declared.opening.Size.{Size}
use Rattle.lean_shell.proofs.Runs.NoteLemmas.{put_notes}
use Rattle.lean_shell.specs.Inside.Lefts.{IsSameBut, LivesOn}
use Rattle.lean_shell.proofs.Runs.QuietLemmas.{quiet_leaves}

-- the same crash, with the notes of another moment
abbrev pub then : Story → Crash → Crash
then s c = record c { notes = s.notes }

pub same_but : (s : Story) (c : Crash) → IsSameBut (then s c) c
same_but s c = record { writes = λ a. refl; image = λ a. refl }

pub was_then : (old new : Story) → IsLawful old → OnlyNotes old new → (c : Crash) → LeavesNow new c → old.left_at old.moment (then old c)
was_then old new law o c now = law.counts_now (then old c) (record {
  counts = sym o.counts ∙ now.counts;
  notes = refl;
  writes = λ a told. now.writes a (o.tells a ∙ told) ∙ ap (λ (x : Area). x.writes) (o.area a);
  leaves = λ a told. subst (λ (x : Area). Leaves x (c.image a)) (o.area a) (now.leaves a (o.tells a ∙ told));
})

-- what holds at every moment of a run still does when a line was put behind it
pub put_moments : (s0 old new : Story) (Q P : Crash → Type 0) → LeavesOnly s0 old Q → ((c : Crash) → Q c → P c) → IsLawful old → s0.moment ≤ old.moment → OnlyNotes old new
    → ((c : Crash) → LeavesNow new c → Q (then old c) → P c) → LeavesOnly s0 new P
put_moments s0 old new Q P run weaker_so law later o close =
    goes_on_by s0 old new P (weaker s0 old Q P weaker_so run) o.nothing_else (λ c now. close c now (run.each old.moment (then old c) later (was_then old new law o c now)))

-- ## Notes

-- a note more
pub noted_more : (old new : Story) → Noted old new → (c : Crash) → LeavesNow new c → old.notes < 2 ^ 63 → c.notes ≡ old.notes + 1
noted_more old new n c now few =
    let e = n.notes (sym n.counts ∙ now.counts) in let f = now.notes in
    f ∙ (e ∙ (let m : min (old.notes + 1) (2 ^ 64 - 1) ≡ old.notes + 1 = omega arith in m))

recovery_notes : (m : Master) (s : Story) (c : Crash) → RecoveryLeaves m s c → c.notes ≡ s.notes
recovery_notes m s c (inl at) = at.notes
recovery_notes m s c (inr l) = l.notes

-- ## A line that answers no call, after an opening or before it

module _ (size : Size) (AreIts : Opening → List DoneCall → Option DoneCall → Type 0) (m : Master) (s0 old new : Story) (clean : IsCleanDisk m (areas_of s0)) (few : s0.notes < 2 ^ 62) (input put : List ℕ) (answer : Put)
    (run : LeavesOnly s0 old (RecoveryLeaves m s0)) (law : IsLawful old) (later : s0.moment ≤ old.moment) (notes : old.notes ≡ s0.notes)
    (noted : answer ≡ Done → Noted old new) (same : answer ≡ Failed → TellsSame old new)
    (none : IsQuiet (length m.heads) input (first_lines 0 put)) (one : answer ≡ Done → IsQuiet (length m.heads) input (first_lines 1 put)) where
  before : (c : Crash) → RecoveryLeaves m s0 c → LivesOn size AreIts m s0 input put c
  before c r = quiet_leaves size AreIts m s0 clean input put 0 none c c (record { writes = λ a. refl; image = λ a. refl }) (let e = recovery_notes m s0 c r in omega arith) r

  after : (r : Put) → answer ≡ r → (c : Crash) → LeavesNow new c → RecoveryLeaves m s0 (then old c) → LivesOn size AreIts m s0 input put c
  after Done is c now r = quiet_leaves size AreIts m s0 clean input put 1 (one is) (then old c) c (same_but old c)
      (let e = noted_more old new (noted is) c now (let n = notes in omega arith) in let n = notes in omega arith) r
  after Failed is c now r = quiet_leaves size AreIts m s0 clean input put 0 none (then old c) c (same_but old c)
      (let e = (same is).notes in let f = now.notes in let n = notes in omega arith) r

  pub line_moments : LeavesOnly s0 new (LivesOn size AreIts m s0 input put)
  line_moments = put_moments s0 old new (RecoveryLeaves m s0) (LivesOn size AreIts m s0 input put) run before law later (put_notes old new answer noted same) (after answer refl)

-- before the first call
pub unmoved : (m : Master) (s : Story) → IsLawful s → LeavesOnly s s (RecoveryLeaves m s)
unmoved m s law = started s (RecoveryLeaves m s) law (λ c now. inl (record { notes = now.notes; writes = now.writes; leaves = now.leaves }))
