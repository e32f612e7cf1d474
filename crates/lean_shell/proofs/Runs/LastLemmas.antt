-- The first line, the last line, and lines of disks that were not opened: what the sink holds of them, and what is noted.
use Rattle.std.proofs.Common.{◌≤◌, ◌≡◌, ◌⊎◌, inl, inr, ◌<◌, ◌+◌, ◌^◌, ◌++◌, ℕ, List, [], length, take, IsTrue, refl, sym, ◌∙◌, ap, subst, arith}
use Rattle.std.proofs.lemmas.List.{append-nil}
use Rattle.std.proofs.Math.Seq.{take-length}
use Rattle.lean_disk.specs.Faults.{HasCause, IsBlamed, Rose}
use Rattle.lean_disk.specs.Story.{Crash, LeavesNow, Story}
use Rattle.lean_disk.specs.Told.{TellsSame, OnlyNotes}
use Rattle.buffered_engine.specs.lean_edge.Outside.{Held, Puts}
use Rattle.buffered_engine.specs.lean_edge.declared.sink.Put.{Put}
use Rattle.buffered_engine.specs.lean_edge.declared.sink.Put.TheVariants.{Done, Failed}
use Rattle.script_lang.specs.Notices.{Notice, NoticeFits}
use Rattle.transcripts.specs.Told.{IsTail}
use Rattle.script_run.specs.declared.stop.Stop.{Stop}
use Rattle.script_run.specs.declared.stop.Stop.TheVariants as stops
use Rattle.lean_shell.specs.Lines.{IsPut, WentOut, line_of}
use Rattle.lean_shell.specs.Inside.Openings.{EndsWith}
use Rattle.lean_shell.specs.Runs.{WentLast, ended, last_line}
use Rattle.lean_shell.proofs.Runs.MomentLemmas.{noted_more}
use Rattle.lean_shell.proofs.Runs.NoteLemmas.{put_notes}
use Rattle.lean_shell.proofs.Runs.OutputLemmas.{notice_tail, no_tail}

-- what a sink holds of a line
pub record PutText (line : List ℕ) (answer : Put) (held0 held1 : Held) : Type 0 where
  pub text : List ℕ
  pub holds : IsTrue held0.tells → held1.bytes ≡ held0.bytes ++ text
  pub prefix : ℕ
  pub is_prefix : text ≡ take prefix line
  pub whole : answer ≡ Done → text ≡ line

not_done : Failed ≡ Done → ⊥
not_done e = cc

pub put_text : (line : List ℕ) (answer : Put) (held0 held1 : Held) → Puts line answer held0 held1 → PutText line answer held0 held1
put_text line Done held0 held1 p = record { text = line; holds = p.done refl; prefix = length line; is_prefix = sym (take-length line); whole = λ e. refl }
put_text line Failed held0 held1 p = let q = p.failed refl in record { text = take q.0 line; holds = q.1; prefix = q.0; is_prefix = refl; whole = λ e. absurd (not_done e) }

-- sinks that took as much of it hold the same text
pub same_text : (line : List ℕ) (answer : Put) (h0 h1 k0 k1 : Held) (p : Puts line answer h0 h1) (q : Puts line answer k0 k1) → ((f : answer ≡ Failed) → (p.failed f).0 ≡ (q.failed f).0) → (put_text line answer h0 h1 p).text ≡ (put_text line answer k0 k1 q).text
unfolding put_text
same_text line Done h0 h1 k0 k1 p q as_much = refl
same_text line Failed h0 h1 k0 k1 p q as_much = ap (λ (n : ℕ). take n line) (as_much refl)

-- it went out, or the sink failed
pub went_out : (line text : List ℕ) (answer : Put) (before now prefix : ℕ) → text ≡ take prefix line → (answer ≡ Done → text ≡ line) → HasCause before now (answer ≡ Failed) → WentOut line text before now
went_out line text Done before now prefix is whole cause = inl (whole refl, cause.calm (λ e. not_done (sym e)))
went_out line text Failed before now prefix is whole cause = inr ((prefix, is), cause.cause refl)

pub put_not_done : (answer : Put) → (answer ≡ Done → ⊥) → answer ≡ Failed
put_not_done Done n = absurd (n refl)
put_not_done Failed n = refl

-- from the first line, which went out, to the end of the script
pub cause_from : (sink0 sink1 sink2 : ℕ) (answer : Put) (stop : Stop) → answer ≡ Done → HasCause sink0 sink1 (answer ≡ Failed) → HasCause sink1 sink2 (stop ≡ stops.WriteFault) → HasCause sink0 sink2 (stop ≡ stops.WriteFault)
cause_from sink0 sink1 sink2 answer stop done first script =
    subst (λ (n : ℕ). HasCause n sink2 (stop ≡ stops.WriteFault)) (first.calm (λ e. not_done (sym e ∙ done))) script

-- ## The status tells of a fault as the reason does

ended_read : (stop : Stop) → ended stop ≡ 4 → stop ≡ stops.ReadFault
ended_read stops.End e = absurd (omega arith)
ended_read (stops.Refused line) e = absurd (omega arith)
ended_read stops.ReadFault e = refl
ended_read stops.WriteFault e = absurd (omega arith)
ended_read stops.DiskFault e = absurd (omega arith)
ended_read (stops.Damaged place) e = absurd (omega arith)

ended_disk : (stop : Stop) → ended stop ≡ 6 → stop ≡ stops.DiskFault
ended_disk stops.End e = absurd (omega arith)
ended_disk (stops.Refused line) e = absurd (omega arith)
ended_disk stops.ReadFault e = absurd (omega arith)
ended_disk stops.WriteFault e = absurd (omega arith)
ended_disk stops.DiskFault e = refl
ended_disk (stops.Damaged place) e = absurd (omega arith)

pub read_cause : (before now : ℕ) (stop : Stop) (status : ℕ) → status ≡ ended stop → HasCause before now (stop ≡ stops.ReadFault) → HasCause before now (status ≡ 4)
read_cause before now stop status is c = record { later = c.later; cause = λ e. c.cause (ended_read stop (sym is ∙ e)); calm = λ none. c.calm (λ e. none (is ∙ ap ended e)) }

ended_write : (stop : Stop) → ended stop ≡ 5 → stop ≡ stops.WriteFault
ended_write stops.End e = absurd (omega arith)
ended_write (stops.Refused line) e = absurd (omega arith)
ended_write stops.ReadFault e = absurd (omega arith)
ended_write stops.WriteFault e = refl
ended_write stops.DiskFault e = absurd (omega arith)
ended_write (stops.Damaged place) e = absurd (omega arith)

-- of a count that may still rise behind the script
pub write_blame : (before now last : ℕ) (stop : Stop) (status : ℕ) → status ≡ ended stop → HasCause before now (stop ≡ stops.WriteFault) → now ≤ last → IsBlamed before last (status ≡ 5)
write_blame before now last stop status is c later = record {
  later = let a : before ≤ now = c.later in omega arith;
  cause = λ e. let a : Rose before now = c.cause (ended_write stop (sym is ∙ e)) in omega arith;
}

-- of a count that stands before the script and behind it
pub disk_cause : (entry before now exit : ℕ) (stop : Stop) (status : ℕ) → status ≡ ended stop → before ≡ entry → exit ≡ now → HasCause before now (stop ≡ stops.DiskFault) → HasCause entry exit (status ≡ 6)
disk_cause entry before now exit stop status is same end c =
    subst (λ (n : ℕ). HasCause n exit (status ≡ 6)) same (subst (λ (n : ℕ). HasCause before n (status ≡ 6)) (sym end)
    (record { later = c.later; cause = λ e. c.cause (ended_disk stop (sym is ∙ e)); calm = λ none. c.calm (λ e. none (is ∙ ap ended e)) }))

-- ## The last line

-- The last line of a script that stopped: what the sink holds of it, and whether it was noted.
pub record Last (stop : Stop) (held0 held1 : Held) (sink0 sink1 : ℕ) (old new : Story) : Type 0 where
  pub text : List ℕ
  pub went : (before : ℕ) → HasCause before sink0 (stop ≡ stops.WriteFault) → WentLast stop text before sink1
  pub holds : IsTrue held0.tells → held1.bytes ≡ held0.bytes ++ text
  pub notes : OnlyNotes old new
  pub noted : old.notes < 2 ^ 63 → (c : Crash) → LeavesNow new c → (c.notes ≡ old.notes) ⊎ ((c.notes ≡ old.notes + 1) × (stop ≡ stops.WriteFault → ⊥))
  pub tail : (stop ≡ stops.WriteFault → ⊥) → (n : Notice) → NoticeFits n → IsTail text
  pub none : stop ≡ stops.WriteFault → text ≡ []

nothing_put : (stop : Stop) (held0 held1 : Held) (sink0 sink1 : ℕ) (old new : Story) → ((before : ℕ) → HasCause before sink0 (stop ≡ stops.WriteFault) → WentLast stop [] before sink1) → held1 ≡ held0 → TellsSame old new
    → Last stop held0 held1 sink0 sink1 old new
nothing_put stop held0 held1 sink0 sink1 old new went held same = record {
  text = [];
  went = went;
  holds = λ told. ap (λ (h : Held). h.bytes) held ∙ sym (append-nil held0.bytes);
  notes = put_notes old new Failed (λ e. absurd (not_done e)) (λ e. same);
  noted = λ few c now. inl (now.notes ∙ same.notes);
  tail = λ not_write n fits. no_tail n fits;
  none = λ e. refl;
}

line_put : (stop : Stop) (n : Notice) → NoticeFits n → last_line stop ≡ line_of n → (stop ≡ stops.WriteFault → ⊥)
    → ((text : List ℕ) (before now : ℕ) → WentOut (last_line stop) text before now → WentLast stop text before now) → (held0 held1 : Held) (sink0 sink1 : ℕ) (old new : Story) (answer : Put) → IsPut (last_line stop) answer held0 held1 old new → HasCause sink0 sink1 (answer ≡ Failed) → Last stop held0 held1 sink0 sink1 old new
line_put stop n fits line not_write last held0 held1 sink0 sink1 old new answer p cause =
    let t = put_text (last_line stop) answer held0 held1 p.puts in
    record {
      text = t.text;
      went = λ before earlier. last t.text before sink1
          (subst (λ (k : ℕ). WentOut (last_line stop) t.text k sink1) (earlier.calm not_write) (went_out (last_line stop) t.text answer sink0 sink1 t.prefix t.is_prefix t.whole cause));
      holds = t.holds;
      notes = put_notes old new answer p.noted p.same;
      noted = λ few c now. how answer refl few c now;
      tail = λ other m m_fits. subst IsTail (sym (t.is_prefix ∙ ap (take t.prefix) line)) (notice_tail n fits t.prefix);
      none = λ e. absurd (not_write e);
    }
  where
    how : (r : Put) → answer ≡ r → old.notes < 2 ^ 63 → (c : Crash) → LeavesNow new c → (c.notes ≡ old.notes) ⊎ ((c.notes ≡ old.notes + 1) × (stop ≡ stops.WriteFault → ⊥))
    how Done is few c now = inr (noted_more old new (p.noted is) c now few, not_write)
    how Failed is few c now = inl (now.notes ∙ (p.same is).notes)

pub last_of : (stop : Stop) (held0 held1 : Held) (sink0 sink1 : ℕ) (old new : Story) → EndsWith stop held0 held1 sink0 sink1 old new → Last stop held0 held1 sink0 sink1 old new
last_of stops.End held0 held1 sink0 sink1 old new e = nothing_put stops.End held0 held1 sink0 sink1 old new (λ before earlier. (refl, e.1 ∙ earlier.calm (λ q. cc))) e.0 e.2
last_of stops.WriteFault held0 held1 sink0 sink1 old new e = nothing_put stops.WriteFault held0 held1 sink0 sink1 old new (λ before earlier. (refl, subst (Rose before) (sym e.1) (earlier.cause refl))) e.0 e.2
last_of (stops.Refused line) held0 held1 sink0 sink1 old new e = line_put (stops.Refused line) (Notice.Refused line) e.0 refl (λ q. cc) (λ text before now w. w) held0 held1 sink0 sink1 old new e.1.0 e.1.1 e.1.2
last_of stops.ReadFault held0 held1 sink0 sink1 old new e = line_put stops.ReadFault Notice.ReadFault tt refl (λ q. cc) (λ text before now w. w) held0 held1 sink0 sink1 old new e.0 e.1 e.2
last_of (stops.Damaged place) held0 held1 sink0 sink1 old new e = line_put (stops.Damaged place) (Notice.Damaged 1 place) e.0 refl (λ q. cc) (λ text before now w. w) held0 held1 sink0 sink1 old new e.1.0 e.1.1 e.1.2
last_of stops.DiskFault held0 held1 sink0 sink1 old new e = line_put stops.DiskFault Notice.DiskFault tt refl (λ q. cc) (λ text before now w. w) held0 held1 sink0 sink1 old new e.0 e.1 e.2
