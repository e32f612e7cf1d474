-- How a workload ends, from what an engine says of its lines.
use Rattle.std.proofs.Common.{◌≡◌, ◌≤◌, ◌<◌, ◌+◌, ◌++◌, [], ◌∷◌, ℕ, List, Option, Some, None, Result, Ok, Err, IfErr, IsTrue, MatchOption, inl, inr, true, true≢false, refl, sym, ◌∙◌, ap, subst, arith}
use Rattle.std.specs.Result.{result_ok}
use mathlib.Core.List.{append_assoc}
use Rattle.std.proofs.lemmas.List.{append-nil}
use Rattle.lean_disk.specs.Faults.{HasCause, IsBlamed, Rose}
use Rattle.lean_disk.specs.Moments.{LeavesOnly}
use Rattle.lean_disk.specs.Story.{IsLawful, Story, areas_of}
use Rattle.lean_disk.specs.Told.{OnlyNotes}
use Rattle.buffered_engine.specs.core_calls.Fronts.{Done, front}
use Rattle.buffered_engine.specs.core_state.Events.{Event}
use Rattle.buffered_engine.specs.core_state.Openings.{Opening}
use Rattle.buffered_engine.specs.call_parts.Memory.{Memory}
use Rattle.buffered_engine.specs.disk_slots.declared.master.Master.{Master}
use Rattle.buffered_engine.specs.disk_image.Shown.{IsCleanDisk}
use Rattle.buffered_engine.specs.lean_edge.Outside.{Feed, Held, Puts}
use Rattle.buffered_engine.specs.lean_edge.declared.sink.Put.{Put}
use Rattle.buffered_engine.specs.lean_edge.declared.sink.Put.TheVariants as put
use Rattle.buffered_engine.specs.paged_engine.Openings.{Shows}
use Rattle.buffered_engine.specs.recovery.Crashes.{RecoveryLeaves}
use Rattle.buffered_engine.specs.recovery.Opened.{IsRefusal, IsUntouched, Keeps}
use Rattle.buffered_engine.specs.recovery.Telling.{TellsAll}
use Rattle.buffered_engine.specs.recovery.declared.opening.Unrecovered.{Unrecovered}
use Rattle.map_model.specs.declared.call.Answered.{Answered}
use Rattle.map_model.specs.declared.call.Call.{Call}
use Rattle.map_model.specs.declared.call.Call.TheVariants.{Begin, Sync}
use Rattle.map_model.specs.Journals.{Name}
use Rattle.script_lang.specs.Notices.{Notice, NoticeFits}
use Rattle.script_lang.specs.Reading.{Unread}
use Rattle.script_run.specs.Inside.{IsOfEngine}
use Rattle.script_run.specs.Runs.{EngineStands, ScriptRuns, calls_of, works_on}
use Rattle.script_run.specs.declared.stop.Stop.{Stop}
use Rattle.script_run.specs.declared.stop.Stop.TheVariants as stops
use Rattle.transcripts.specs.Laws.{EveryNotice, EveryTail}
use Rattle.transcripts.specs.Told.{asked_text}
use Rattle.workload_run.specs.workload.Lines.{lines_of}
use Rattle.workload_run.specs.Makes.{CountsIn, IsCount, MakeRuns, ending, feed_of, held_of, quiet, reader_of, stop_in}
use Rattle.workload_run.specs.Plans.{IsMade, IsWalked, asked_of}
use Rattle.workload_run.specs.declared.run.Made.{Made}
use Rattle.lean_shell.specs.Dumps.{PutOrCut}
use Rattle.lean_shell.specs.Endings.{finished}
use Rattle.lean_shell.specs.Inside.Assembled.{IsRun}
use Rattle.lean_shell.specs.Inside.Begins.{HasStarted}
use Rattle.lean_shell.specs.Inside.Laws.{Laws}
use Rattle.lean_shell.specs.Inside.Makings.{MakesHere}
use Rattle.lean_shell.specs.Inside.Openings.{EndsWith, Refuses}
use Rattle.lean_shell.specs.Lines.{IsPut, line_of}
use Rattle.lean_shell.specs.Makes.{Came, CameTo, MakeEnds, MakesRun, made_line, make_size}
use Rattle.lean_shell.specs.Runs.{Counts, HowRun, IsClosed, IsFrom, Ran, WentLast, ended, first_line, notice_of, status_of}
use Rattle.lean_shell.specs.Runs.HowRun.{OfCut, OfReason, OfScript}
use Rattle.buffered_engine.specs.paged_engine.declared.opening.Size.{Size}
use Rattle.lean_shell.specs.declared.make.Workload.{Workload}
use Rattle.lean_shell.proofs.Runs.EndLemmas.{IsUnread, cut_line, refused_line}
use Rattle.lean_shell.proofs.Runs.LastLemmas.{last_of, put_text, same_text}
use Rattle.lean_shell.proofs.Runs.NoteLemmas.{put_notes, tells_same}
use Rattle.lean_shell.proofs.Runs.RunLemmas.{every_end}

-- ## A sink that tells nothing

quiet_puts : (line : List ℕ) (answer : Put) (h0 h1 : Held) → Puts line answer h0 h1 → Puts line answer quiet quiet
quiet_puts line answer h0 h1 p = record { same = refl; done = λ e tells. absurd (true≢false (sym tells)); failed = λ e. ((p.failed e).0, λ tells. absurd (true≢false (sym tells))) }

quiet_put : (line : List ℕ) (answer : Put) (h0 h1 : Held) (s0 s1 : Story) → IsPut line answer h0 h1 s0 s1 → IsPut line answer quiet quiet s0 s1
quiet_put line answer h0 h1 s0 s1 p = record { puts = quiet_puts line answer h0 h1 p.puts; noted = p.noted; same = p.same }

-- the same text
alike : (line : List ℕ) (answer : Put) (h0 h1 : Held) (p : Puts line answer h0 h1) → (put_text line answer h0 h1 p).text ≡ (put_text line answer quiet quiet (quiet_puts line answer h0 h1 p)).text
unfolding quiet_puts
alike line answer h0 h1 p = same_text line answer h0 h1 quiet quiet p (quiet_puts line answer h0 h1 p) (λ f. refl)

quiet_refuses : (reason : Unrecovered) (h0 h1 : Held) (sink0 sink1 : ℕ) (s0 s1 : Story) → Refuses reason h0 h1 sink0 sink1 s0 s1 → Refuses reason quiet quiet sink0 sink1 s0 s1
quiet_refuses reason h0 h1 sink0 sink1 s0 s1 r = record { fits = r.fits; answer = r.answer; line = quiet_put (line_of (notice_of reason)) r.answer h0 h1 s0 s1 r.line; cause = r.cause }

quiet_ends : (stop : Stop) (h0 h1 : Held) (sink0 sink1 : ℕ) (s0 s1 : Story) → EndsWith stop h0 h1 sink0 sink1 s0 s1 → EndsWith stop quiet quiet sink0 sink1 s0 s1
quiet_ends stops.End h0 h1 sink0 sink1 s0 s1 e = (refl, e.1, e.2)
quiet_ends stops.WriteFault h0 h1 sink0 sink1 s0 s1 e = (refl, e.1, e.2)
quiet_ends (stops.Refused line) h0 h1 sink0 sink1 s0 s1 e = (e.0, (e.1.0, quiet_put (line_of (Notice.Refused line)) e.1.0 h0 h1 s0 s1 e.1.1, e.1.2))
quiet_ends (stops.Damaged place) h0 h1 sink0 sink1 s0 s1 e = (e.0, (e.1.0, quiet_put (line_of (Notice.Damaged 1 place)) e.1.0 h0 h1 s0 s1 e.1.1, e.1.2))
quiet_ends stops.ReadFault h0 h1 sink0 sink1 s0 s1 e = (e.0, quiet_put (line_of Notice.ReadFault) e.0 h0 h1 s0 s1 e.1, e.2)
quiet_ends stops.DiskFault h0 h1 sink0 sink1 s0 s1 e = (e.0, quiet_put (line_of Notice.DiskFault) e.0 h0 h1 s0 s1 e.1, e.2)

module _ (stop : Option Stop) (sessions group : ℕ) (g : Opening) (start feed : Feed) (m0 m1 : Memory) (reader : Unread) (h0 h1 : Held) (old new : Story) (r : ScriptRuns stop sessions group g [] 0 start [] m0 m1 reader feed h0 h1 old new) where
  quiet_runs : ScriptRuns stop sessions group g [] 0 start [] m0 m1 reader feed quiet quiet old new
  quiet_runs = record {
    newer = r.newer;
    fits = r.fits;
    few = r.few;
    memory = r.memory;
    executes = r.executes;
    memory_is = r.memory_is;
    hand = r.hand;
    reads = r.reads;
    replies = r.replies;
    lines = r.lines;
    told = r.told;
    tail = r.tail;
    reply_fits = r.reply_fits;
    prints = r.prints;
    cut = r.cut;
    holds = record { same = refl; bytes = λ tells. absurd (true≢false (sym tells)) };
    others = r.others;
    disk = r.disk;
  }

-- it tells as before
ends_same : (stop : Stop) (h0 h1 : Held) (sink0 sink1 : ℕ) (s0 s1 : Story) → EndsWith stop h0 h1 sink0 sink1 s0 s1 → h1.tells ≡ h0.tells
ends_same stops.End h0 h1 sink0 sink1 s0 s1 e = ap (λ (h : Held). h.tells) e.0
ends_same stops.WriteFault h0 h1 sink0 sink1 s0 s1 e = ap (λ (h : Held). h.tells) e.0
ends_same (stops.Refused line) h0 h1 sink0 sink1 s0 s1 e = e.1.1.puts.same
ends_same (stops.Damaged place) h0 h1 sink0 sink1 s0 s1 e = e.1.1.puts.same
ends_same stops.ReadFault h0 h1 sink0 sink1 s0 s1 e = e.1.puts.same
ends_same stops.DiskFault h0 h1 sink0 sink1 s0 s1 e = e.1.puts.same

-- ## Lines that ran

-- what came of the answers to them
abbrev Comes : Result Made Stop → Stop → (script : List (ℕ × Call)) → List Answered → Type 0
Comes made stop script answered = MatchOption (result_ok made) (IsOfEngine stop) (λ m. (stop ≡ stops.End) × IsCount m answered × IsWalked script answered)

-- They ran, and it stopped so.
pub record LinesRan (workload : Workload) (made : Result Made Stop) (Stands : List Done → Option (List Name) → Type 0) (g : Opening) (m0 m1 : Memory) (old new : Story) (stop : Stop) : Type 0 where
  pub script : List (ℕ × Call)
  pub is : IsMade workload.number workload.count g.workers script
  pub left : Feed
  pub reader : Unread
  pub ran : ScriptRuns (Some stop) g.workers 1 g [] 0 (feed_of (asked_text script)) [] m0 m1 reader left quiet quiet old new
  pub stands : EngineStands stop (Stands (ran.newer ++ [])) g (ran.newer ++ [])
  pub comes : Comes made stop script (calls_of ran.newer)
  pub not_cut : stop ≡ stops.WriteFault → ⊥
  pub goes : works_on stop ≡ true → stop_in made ≡ None

engine_cuts : (stop : Stop) → IsOfEngine stop → stop ≡ stops.WriteFault → ⊥
engine_cuts stops.DiskFault of e = cc
engine_cuts (stops.Damaged place) of e = cc
engine_cuts _ of e = absurd of

engine_works : (stop : Stop) → IsOfEngine stop → works_on stop ≡ true → ⊥
engine_works stops.DiskFault of works = true≢false (sym works)
engine_works (stops.Damaged place) of works = true≢false (sym works)
engine_works _ of works = absurd of

module _ (workload : Workload) (Stands : List Done → Option (List Name) → Type 0) (g : Opening) (m0 m1 : Memory) (old new : Story) where
  ran_so : (made : Result Made Stop) → IfErr made IsOfEngine → MakeRuns workload.number workload.count made Stands g.workers 1 g m0 m1 old new → LinesRan workload made Stands g m0 m1 old new (ending (stop_in made))
  unfolding quiet_runs
  ran_so (Ok m) of r = record {
    script = r.script;
    is = r.is;
    left = feed_of r.left;
    reader = reader_of r.ended;
    ran = quiet_runs (Some stops.End) g.workers 1 g (feed_of (asked_text r.script)) (feed_of r.left) m0 m1 (reader_of r.ended) (held_of []) (held_of r.output) old new r.ran;
    stands = r.stands;
    comes = (refl, r.counts, r.walked refl);
    not_cut = λ e. let clash : stops.End ≡ stops.WriteFault = e in cc;
    goes = λ works. refl;
  }
  ran_so (Err stop) of r = record {
    script = r.script;
    is = r.is;
    left = feed_of r.left;
    reader = reader_of r.ended;
    ran = quiet_runs (Some stop) g.workers 1 g (feed_of (asked_text r.script)) (feed_of r.left) m0 m1 (reader_of r.ended) (held_of []) (held_of r.output) old new r.ran;
    stands = r.stands;
    comes = of;
    not_cut = engine_cuts stop of;
    goes = λ works. absurd (engine_works stop of works);
  }

  -- and as its reason is called
  pub lines_ran : (made : Result Made Stop) (stop : Stop) → stop ≡ ending (stop_in made) → IfErr made IsOfEngine → MakeRuns workload.number workload.count made Stands g.workers 1 g m0 m1 old new → LinesRan workload made Stands g m0 m1 old new stop
  lines_ran made stop is of r = subst (LinesRan workload made Stands g m0 m1 old new) (sym is) (ran_so made of r)

-- ## All of it

-- the first lines that a number makes, of one session
abbrev first_script : Workload → List (ℕ × Call)
first_script workload = asked_of (lines_of workload.number workload.count 1) ++ (0, Sync) ∷ (1, Begin) ∷ []

first_made : (workload : Workload) → IsMade workload.number workload.count 1 (first_script workload)
first_made workload = record { walk = []; scans = tt; is = refl }

-- of lines that were not read, this was put and nothing else
came_unread : (sessions : ℕ) (script : List (ℕ × Call)) {size : Size} {status : ℕ} {s0 s1 : Story} {feed0 feed1 : Feed} {replied : List ℕ} {sink0 sink1 : ℕ} (how : HowRun size status s0 s1 feed0 feed1 replied sink0 sink1) → IsUnread how → (put : List ℕ) → put ≡ replied → Came sessions script None how put
came_unread sessions script (OfReason reason unread) is put same = (refl, same)
came_unread sessions script (OfCut cut) is put same = (refl, same)
came_unread sessions script (OfScript ran) is put same = absurd is

-- of those that ran, what is said of them
came_so : (sessions : ℕ) (script : List (ℕ × Call)) (made : Option Made) {size : Size} {status : ℕ} {s0 s1 : Story} {feed0 feed1 : Feed} {replied : List ℕ} {sink0 sink1 : ℕ} (how : HowRun size status s0 s1 feed0 feed1 replied sink0 sink1) (ran : Ran size status s0 s1 feed0 feed1 replied sink0 sink1) (put : List ℕ) → how ≡ OfScript ran → CameTo sessions script made ran put → Came sessions script made how put
came_so sessions script made how ran put is came = subst (λ h. Came sessions script made h put) (sym is) came

-- the text of a line that was put
abbrev text_of : (line : List ℕ) (answer : Put) (h0 h1 : Held) → Puts line answer h0 h1 → List ℕ
text_of line answer h0 h1 p = (put_text line answer h0 h1 p).text

pub refused_makes : (workload : Workload) → EveryNotice → EveryTail → (status : ℕ) (s0 old new : Story) → IsLawful old → Keeps s0 old → ((a : ℕ) → 1 + 16 < a → old.area a ≡ s0.area a)
    → ((m : Master) → TellsAll 16 s0 → IsCleanDisk m (areas_of s0) → LeavesOnly s0 old (RecoveryLeaves m s0)) → (reason : Unrecovered) → status ≡ status_of reason → Shows 16 s0 reason
    → (IsRefusal reason → (a : ℕ) → IsUntouched (s0.area a) (old.area a))
    → (held0 held1 : Held) (sink0 sink1 : ℕ) → Refuses reason held0 held1 sink0 sink1 old new → (events : List Event) → events ≡ [] → MakesHere workload None status events s0 new held0 held1 sink0 sink1
unfolding quiet_refuses quiet_put
refused_makes workload notice_law tail_law status s0 old new law keeps others any reason is shown left held0 held1 sink0 sink1 r events none =
    let line = line_of (notice_of reason) in
    let only = refused_line make_size notice_law tail_law status s0 old new law keeps others any (feed_of (asked_text (first_script workload))) reason is shown left quiet quiet sink0 sink1 (quiet_refuses reason held0 held1 sink0 sink1 old new r) events none in
    record {
      put = text_of line r.answer held0 held1 r.line.puts;
      run = record {
        sessions = 1;
        script = first_script workload;
        is = first_made workload;
        left = feed_of (asked_text (first_script workload));
        run = only.ends;
        came = came_unread 1 (first_script workload) only.ends.how only.unread (text_of line r.answer held0 held1 r.line.puts) (alike line r.answer held0 held1 r.line.puts ∙ sym only.put_is);
      };
      same = r.line.puts.same;
      holds = (put_text line r.answer held0 held1 r.line.puts).holds;
    }

module _ (workload : Workload) (notice_law : EveryNotice) (tail_law : EveryTail) (s0 old new : Story) (law : IsLawful old) (keeps : Keeps s0 old) (any : (m : Master) → TellsAll 16 s0 → IsCleanDisk m (areas_of s0) → LeavesOnly s0 old (RecoveryLeaves m s0))
    (n : Counts) (fits : NoticeFits (Notice.Opened n.generation n.winners n.undone)) (held0 held1 : Held) (answer : Put) (p : IsPut (first_line n) answer held0 held1 old new) where
  pub cut_makes : ((a : ℕ) → 1 + 16 < a → old.area a ≡ s0.area a) → (g : Opening) → (TellsAll 16 s0 → IsFrom 16 g s0 n) → (sink0 sink1 : ℕ) → Rose sink0 sink1 → (events : List Event) → events ≡ [] → MakesHere workload None 5 events s0 new held0 held1 sink0 sink1
  unfolding quiet_put
  cut_makes others g from sink0 sink1 rose events none =
      let only = cut_line make_size notice_law s0 old new law keeps any (feed_of (asked_text (first_script workload))) n fits quiet quiet answer (quiet_put (first_line n) answer held0 held1 old new p) tail_law others g from sink0 sink1 rose events none in record {
        put = text_of (first_line n) answer held0 held1 p.puts;
        run = record {
          sessions = 1;
          script = first_script workload;
          is = first_made workload;
          left = feed_of (asked_text (first_script workload));
          run = only.ends;
          came = came_unread 1 (first_script workload) only.ends.how only.unread (text_of (first_line n) answer held0 held1 p.puts) (alike (first_line n) answer held0 held1 p.puts ∙ sym only.put_is);
        };
        same = p.puts.same;
        holds = (put_text (first_line n) answer held0 held1 p.puts).holds;
      }

module _ (laws : Laws) (workload : Workload) (s0 sa sb sc s1 : Story) (law_a : IsLawful sa) (law_c : IsLawful sc) (law_1 : IsLawful s1) (g : Opening) (first last_memory : Memory) (counts : Counts) (starts : HasStarted make_size s0 sa g first counts) (keeps : Keeps s0 sa)
    (any : (m : Master) → TellsAll 16 s0 → IsCleanDisk m (areas_of s0) → LeavesOnly s0 sa (RecoveryLeaves m s0)) (fits : NoticeFits (Notice.Opened counts.generation counts.winners counts.undone)) (held0 held_b held1 : Held)
    (p : IsPut (first_line counts) put.Done held0 held_b sa sb) (made : Result Made Stop) (Stands : List Done → Option (List Name) → Type 0) (stop : Stop) (r : LinesRan workload made Stands g first last_memory sb sc stop)
    (closed : IsClosed stop r.ran.newer) (events : List Event) (are : events ≡ front r.ran.newer) (sink0 sink_c sink1 : ℕ) (cause : HasCause sink0 sink_c (stop ≡ stops.WriteFault)) (last : EndsWith stop held_b held1 sink_c sink1 sc s1) where
  here : IsRun make_size s0 sa sb sc s1 (feed_of (asked_text r.script)) r.left quiet quiet quiet quiet stop sink_c sink1 events
  here = record {
    law_a = law_a;
    law_c = law_c;
    law_1 = law_1;
    g = g;
    first = first;
    counts = counts;
    few = omega arith;
    frames = omega arith;
    starts = starts;
    keeps = keeps;
    any = any;
    opened_fits = fits;
    put = quiet_put (first_line counts) put.Done held0 held_b sa sb p;
    reader = r.reader;
    last_memory = last_memory;
    runs = r.ran;
    closed = closed;
    made = are;
    last = quiet_ends stop held_b held1 sink_c sink1 sc s1 last;
  }

  pub run_makes : (status : ℕ) → status ≡ ended stop → ((a : ℕ) → 1 + 16 < a → sa.area a ≡ s0.area a) → MakesHere workload (result_ok made) status events s0 s1 held0 held1 sink0 sink1
  unfolding here
  run_makes status is others =
      let l = last_of stop held_b held1 sink_c sink1 sc s1 last in
      let e = every_end laws s0 sa sb sc s1 make_size (feed_of (asked_text r.script)) r.left quiet quiet quiet quiet stop sink_c sink1 events here status is sink0 cause others in
      record {
        put = first_line counts ++ l.text;
        run = record {
          sessions = g.workers;
          script = r.script;
          is = r.is;
          left = r.left;
          run = e.ends;
          came = came_so g.workers r.script (result_ok made) e.ends.how e.ran (first_line counts ++ l.text) e.how_is (record {
            sessions_are = ap (λ (o : Opening). o.workers) (sym e.opening_is);
            comes = subst (λ (s : Stop). Comes made s r.script (calls_of e.ran.calls)) (sym e.stop_is) (subst (λ (xs : List Done). Comes made stop r.script (calls_of xs)) (sym e.calls_are) r.comes);
            last = l.text;
            last_is = subst (λ (s : Stop). WentLast s l.text sink0 sink1) (sym e.stop_is) (l.went sink0 cause);
            put_is = ap (λ (n : Counts). first_line n ++ l.text) (sym e.counts_are);
          });
        };
        same = ends_same stop held_b held1 sink_c sink1 sc s1 last ∙ p.puts.same;
        holds = λ tells. l.holds (subst IsTrue (sym p.puts.same) tells) ∙ (ap (λ (bytes : List ℕ). bytes ++ l.text) (p.puts.done refl tells) ∙ append_assoc held0.bytes (first_line counts) l.text);
      }

-- ## Why

-- the sink did not fail where the first line went out
pub no_cut : (stop : Stop) (sink0 sink1 : ℕ) (answer : Put) → (stop ≡ stops.WriteFault → ⊥) → answer ≡ put.Done → HasCause sink0 sink1 (answer ≡ put.Failed) → HasCause sink0 sink1 (stop ≡ stops.WriteFault)
no_cut stop sink0 sink1 answer other done cause = record {
  later = cause.later;
  cause = λ e. absurd (other e);
  calm = λ none. cause.calm (λ e. let clash : put.Failed ≡ put.Done = sym e ∙ done in cc);
}

pub stops_so : (made : Result Made Stop) (stop : Stop) → stop ≡ ending (stop_in made) → IfErr made IsOfEngine → stop ≡ stops.WriteFault → ⊥
stops_so (Ok m) stop is of e = let clash : stops.End ≡ stops.WriteFault = sym is ∙ e in cc
stops_so (Err s) stop is of e = engine_cuts s of (sym is ∙ e)

-- it stopped for the disk exactly where it says so
disk_stops : (made : Result Made Stop) → ending (stop_in made) ≡ stops.DiskFault → made ≡ Err stops.DiskFault
disk_stops (Ok m) e = let clash : stops.End ≡ stops.DiskFault = e in cc
disk_stops (Err s) e = ap (λ (x : Stop). let r : Result Made Stop = Err x in r) e

disk_ends : (made : Result Made Stop) → made ≡ Err stops.DiskFault → ending (stop_in made) ≡ stops.DiskFault
disk_ends made e = ap (λ (r : Result Made Stop). ending (stop_in r)) e

pub disk_stop : (made : Result Made Stop) (stop : Stop) → stop ≡ ending (stop_in made) → (before now : ℕ) → HasCause before now (made ≡ Err stops.DiskFault) → HasCause before now (stop ≡ stops.DiskFault)
disk_stop made stop is before now c = record { later = c.later; cause = λ e. c.cause (disk_stops made (sym is ∙ e)); calm = λ none. c.calm (λ e. none (is ∙ disk_ends made e)) }

-- ## The line of what it came to

pub line_makes : (workload : Workload) (made : Made) (before status : ℕ) (answer : Put) → status ≡ finished answer → (events : List Event) (s0 s1 s2 : Story) (held0 held1 held2 : Held) (sink0 sink1 sink2 : ℕ)
    → MakesHere workload (Some made) before events s0 s1 held0 held1 sink0 sink1 → IsPut (made_line workload made) answer held1 held2 s1 s2 → HasCause sink1 sink2 (answer ≡ put.Failed) → MakeEnds workload status events s0 s1 s2 held0 held2 sink0 sink2
line_makes workload made before status answer is events s0 s1 s2 held0 held1 held2 sink0 sink1 sink2 h p cause =
    let t = put_text (made_line workload made) answer held1 held2 p.puts in
    record {
      made = Some made;
      before = before;
      put = h.put;
      sink = sink1;
      run = h.run;
      last = t.text;
      last_is = how answer refl;
      holds = λ tells. t.holds (subst IsTrue (sym h.same) tells) ∙ (ap (λ (bytes : List ℕ). bytes ++ t.text) (h.holds tells) ∙ append_assoc held0.bytes h.put t.text);
      notes = put_notes s1 s2 answer p.noted p.same;
    }
  where
    how : (a : Put) → answer ≡ a → PutOrCut status (made_line workload made) (put_text (made_line workload made) answer held1 held2 p.puts).text sink1 sink2
    how put.Done e = inl (is ∙ ap finished e, (put_text (made_line workload made) answer held1 held2 p.puts).whole e, cause.calm (λ f. let clash : put.Done ≡ put.Failed = sym e ∙ f in cc))
    how put.Failed e = let t = put_text (made_line workload made) answer held1 held2 p.puts in inr (is ∙ ap finished e, (t.prefix, t.is_prefix), cause.cause e)

-- why its status is 5
pub line_blame : (sink0 sink1 sink2 : ℕ) (answer : Put) (status : ℕ) → sink0 ≤ sink1 → status ≡ finished answer → HasCause sink1 sink2 (answer ≡ put.Failed) → IsBlamed sink0 sink2 (status ≡ 5)
line_blame sink0 sink1 sink2 put.Done status later is cause = record { later = let a = cause.later in omega (arith, a, later); cause = λ e. let z : status ≡ 0 = is in absurd (omega (arith, z, e)) }
line_blame sink0 sink1 sink2 put.Failed status later is cause = record { later = let a = cause.later in omega (arith, a, later); cause = λ e. let a : Rose sink1 sink2 = cause.cause refl in omega (arith, a, later) }

-- there is none
pub none_makes : (workload : Workload) (status : ℕ) (events : List Event) (s0 s1 : Story) (held0 held1 : Held) (sink0 sink1 : ℕ) → MakesHere workload None status events s0 s1 held0 held1 sink0 sink1 → MakeEnds workload status events s0 s1 s1 held0 held1 sink0 sink1
none_makes workload status events s0 s1 held0 held1 sink0 sink1 h = record {
  made = None;
  before = status;
  put = h.put;
  sink = sink1;
  run = h.run;
  last = [];
  last_is = (refl, refl, refl);
  holds = λ tells. h.holds tells ∙ ap (λ (bytes : List ℕ). held0.bytes ++ bytes) (sym (append-nil h.put));
  notes = put_notes s1 s1 put.Failed (λ e. let clash : put.Failed ≡ put.Done = e in cc) (λ e. tells_same s1);
}
