-- That a command is complete, from how it ended and the counts of faults.
use Rattle.std.proofs.Common.{◌≡◌, ◌⊎◌, inl, inr, ◌++◌, ◌<◌, ◌+◌, ◌^◌, ℕ, suc, List, [], ◌∷◌, length, IsTrue, Option, Some, None, refl, sym, ◌∙◌, ap, subst, arith}
use Rattle.std.proofs.lemmas.List.{append-nil, length-append}
use Rattle.lean_disk.specs.Faults.{HasCause, IsBlamed, Rose}
use Rattle.lean_disk.specs.Story.{Story, Tells, areas_of}
use Rattle.map_model.specs.declared.call.Answered.{Answered}
use Rattle.map_model.specs.declared.call.Call.{Call}
use Rattle.map_model.specs.Lists.{Has}
use Rattle.map_model.specs.Pairings.{script_of}
use Rattle.map_model.proofs.ListLemmas.{has_right}
use Rattle.buffered_engine.specs.core_calls.Printed.{printed}
use Rattle.buffered_engine.specs.core_state.Events.{Event}
use Rattle.buffered_engine.specs.disk_format.Formatted.{HasMaster}
use Rattle.buffered_engine.specs.disk_format.declared.shape.Shape.{Shape}
use Rattle.disk_image.specs.Laws.{EveryBreak}
use Rattle.buffered_engine.specs.disk_image.Shown.{Areas, IsCleanDisk, IsSoundDisk}
use Rattle.buffered_engine.specs.disk_slots.declared.master.Master.{Master}
use Rattle.buffered_engine.specs.lean_edge.Outside.{Feed, Held}
use Rattle.buffered_engine.specs.lean_edge.declared.sink.Put.{Put}
use Rattle.buffered_engine.specs.lean_edge.declared.sink.Put.TheVariants.{Done, Failed}
use Rattle.buffered_engine.specs.paged_engine.Openings.{Shows}
use Rattle.buffered_engine.specs.paged_engine.declared.opening.Size.{Size}
use Rattle.buffered_engine.specs.recovery.Masters.{IsOpenable}
use Rattle.buffered_engine.specs.recovery.Telling.{TellsAll}
use Rattle.buffered_engine.specs.recovery.declared.opening.Unrecovered.{Unrecovered}
use Rattle.buffered_engine.specs.recovery.declared.opening.Unrecovered.TheVariants as why
use Rattle.script_lang.specs.Lines as grammar
use Rattle.script_lang.specs.Text.{script_lines}
use Rattle.script_lang.specs.declared.line.Line.{Line}
use Rattle.script_run.specs.Inside.{IsOfEngine}
use Rattle.script_run.specs.Runs.{PrintsTo, calls_of, works_on}
use Rattle.script_run.specs.Texts.{LinesRead, Stopped}
use Rattle.script_run.specs.declared.stop.Stop.{Stop}
use Rattle.script_run.specs.declared.stop.Stop.TheVariants as stops
use Rattle.transcripts.specs.Told.{asked_lines, asked_text, text_of}
use Rattle.workload_run.specs.Makes.{feed_of}
use Rattle.workload_run.specs.Plans.{IsMade}
use Rattle.workload_run.specs.declared.run.Made.{Made}
use Rattle.lean_shell.specs.Completeness.{AnswersEach, Faults, FormatsDisk, IsComplete, IsDone, IsReady, IsScript, ListsAll, MakesAll, NoneFailed}
use Rattle.lean_shell.specs.Dumps.{DumpEnds, Dumped, PutOrCut, dump_text}
use Rattle.lean_shell.specs.Endings.{FormatEnds, IsFormatStatus, finished, formatted_line}
use Rattle.lean_shell.specs.Ends.{RunEnds}
use Rattle.lean_shell.specs.Inside.Commands.{CommandEnds}
use Rattle.lean_shell.specs.Makes.{Came, MakeEnds, WentMade, made_line, make_size}
use Rattle.lean_shell.specs.Runs.{HowRun, NotOpened, Ran, WentLast, ended, first_line, status_of}
use Rattle.lean_shell.specs.Runs.HowRun.{OfCut, OfReason, OfScript}
use Rattle.lean_shell.specs.Words.{Asks, AsksMake}
use Rattle.lean_shell.specs.declared.make.Workload.{Workload}
use Rattle.lean_shell.specs.declared.words.Command.TheVariants.{Make}

-- ## An opening

sound_of : (m : Master) (area : Areas) → IsCleanDisk m area → IsSoundDisk m area
sound_of m area c = record { master = c.master; readable = c.readable; sound = c.clean.sound }

one_master : (m n : Master) → Some m ≡ Some n → m ≡ n
one_master m n e = cc

-- a disk that breaks no rule is opened, if it did not fail, or memory was refused
opens : EveryBreak → (most : ℕ) (s : Story) (m : Master) → TellsAll most s → IsOpenable most m → IsSoundDisk m (areas_of s) → (reason : Unrecovered) → Shows most s reason → (status_of reason ≡ 6 → ⊥) → status_of reason ≡ 8
opens breaks most s m tells openable sound why.NotFormatted shown works = absurd (shown tells (record { m = m; master = sound.master; openable = openable }))
opens breaks most s m tells openable sound (why.Damaged area place) shown works =
    let d = (shown tells).1 in
    absurd (breaks d.m (areas_of s) area place d.breaks (subst (λ (n : Master). IsSoundDisk n (areas_of s)) (one_master m d.m (sym sound.master ∙ d.master)) sound))
opens breaks most s m tells openable sound why.DiskFault shown works = absurd (works refl)
opens breaks most s m tells openable sound why.Memory shown works = refl

refused_memory : EveryBreak → (most status : ℕ) (s0 s1 : Story) (put : List ℕ) (sink0 sink1 : ℕ) (m : Master) → TellsAll most s0 → IsOpenable most m → IsSoundDisk m (areas_of s0)
    → NotOpened most status s0 s1 put sink0 sink1 → (status ≡ 6 → ⊥) → status ≡ 8
refused_memory breaks most status s0 s1 put sink0 sink1 m tells openable sound x works =
    x.status_is ∙ opens breaks most s0 m tells openable sound x.reason x.shown (λ six. works (x.status_is ∙ six))

-- ## A script

count_asked : (xs : List (ℕ × Call)) → length (asked_lines xs) ≡ length xs
count_asked [] = refl
count_asked (x ∷ xs) = ap suc (count_asked xs)

none_some : (x : Line) → ◌≡◌ {A = Option Line} None (Some x) → ⊥
none_some x e = cc

-- no line of a script in the grammar is refused
none_refused : (sessions : ℕ) (input : List ℕ) (answered : List Answered) (line : ℕ) (others : List (List ℕ)) → ((text : List ℕ) → Has text (script_lines input) → (x : Line) × (grammar.line_of sessions text ≡ Some x))
    → length (script_lines input) < 2 ^ 40 → script_lines input ≡ asked_lines (script_of answered) ++ others → Stopped (stops.Refused line) sessions answered (length (script_of answered)) others → ⊥
none_refused sessions input answered line others each few lines stopped = by stopped.1.cause
  where
    asked : List (List ℕ)
    asked = asked_lines (script_of answered)

    is : script_lines input ≡ asked ++ stopped.1.next ∷ stopped.1.rest
    is = lines ∙ ap (λ (xs : List (List ℕ)). asked ++ xs) stopped.1.is

    by : (grammar.line_of sessions stopped.1.next ≡ None) ⊎ (line ≡ 2 ^ 40) → ⊥
    by (inl none) =
        let spelled = each stopped.1.next (subst (λ (xs : List (List ℕ)). Has stopped.1.next xs) (sym is) (has_right stopped.1.next asked (stopped.1.next ∷ stopped.1.rest) (inl refl))) in
        none_some spelled.0 (sym none ∙ spelled.1)
    by (inr last) =
        let number : line ≡ suc (length (script_of answered)) = stopped.0 in
        let all : length (script_lines input) ≡ length (asked ++ stopped.1.next ∷ stopped.1.rest) = ap length is in
        let parts = length-append asked (stopped.1.next ∷ stopped.1.rest) in
        let count : length asked ≡ length (script_of answered) = count_asked (script_of answered) in
        omega (arith, last, number, all, parts, count, few)

-- ## A run

module _ (breaks : EveryBreak) (size : Size) (status : ℕ) (s0 s1 : Story) (feed0 feed1 : Feed) (put : List ℕ) (sink0 sink1 source0 source1 : ℕ) (m : Master) (ready : IsReady size.sessions m s0) (script : IsScript (length m.heads) feed0 source0 source1)
    (read : status ≡ 4 → ⊥) (write : status ≡ 5 → ⊥) (disk : status ≡ 6 → ⊥) (held0 held1 : Held) (holds : IsTrue held0.tells → held1.bytes ≡ held0.bytes ++ put) where
  abbrev Answers : Type 0
  Answers = IsDone status (AnswersEach size s0 feed0.left held0 held1)

  module _ (x : Ran size status s0 s1 feed0 feed1 put sink0 sink1) where
    abbrev Stands : Stop → Type 0
    Stands stop = LinesRead stop x.executed.opening.workers (calls_of x.calls) feed0.left

    -- all was executed and put
    whole : x.stop ≡ stops.End → Answers
    whole is =
        let r = subst Stands is (x.read script.tells) in
        let p = x.printed in
        let all = subst (λ (o : Stop). PrintsTo (Some o) (printed x.executed.opening x.calls) p.told p.tail) is p.prints in
        let last = subst (λ (o : Stop). WentLast o p.last sink0 sink1) is p.last_is in
        let nothing : p.tail ++ p.last ≡ [] = ap (λ (bytes : List ℕ). bytes ++ p.last) all.none ∙ last.0 in
        let text : text_of p.told ++ (p.tail ++ p.last) ≡ text_of (printed x.executed.opening x.calls) = ap (λ (bytes : List ℕ). text_of p.told ++ bytes) nothing ∙ (append-nil (text_of p.told) ∙ ap text_of all.told_is) in
        inl (
          x.status_is ∙ ap ended is,
          record {
            counts = x.counts;
            calls = x.calls;
            executed = x.executed;
            lines = r.lines ∙ (ap (λ (xs : List (List ℕ)). asked_lines (script_of (calls_of x.calls)) ++ xs) r.stopped ∙ append-nil (asked_lines (script_of (calls_of x.calls))));
            whole = x.closed (λ w. let clash : stops.End ≡ stops.WriteFault = sym is ∙ w in cc) (ap works_on is);
            put = λ tells. holds tells ∙ ap (λ (bytes : List ℕ). held0.bytes ++ bytes) (p.put_is ∙ ap (λ (bytes : List ℕ). first_line x.counts ++ bytes) text);
          },
        )

    -- the grammar is that of the disk's sessions
    same_sessions : x.executed.opening.workers ≡ length m.heads
    same_sessions =
        let f = x.executed.from ready.tells.all in
        f.starts.logs ∙ ap (λ (n : Master). length n.heads) (one_master f.m m (sym f.sound.master ∙ ready.clean.master))

    by_stop : (stop : Stop) → x.stop ≡ stop → Answers
    by_stop stops.End is = whole is
    by_stop (stops.Refused line) is =
        let r = subst (λ (n : ℕ). LinesRead (stops.Refused line) n (calls_of x.calls) feed0.left) same_sessions (subst Stands is (x.read script.tells)) in
        absurd (none_refused (length m.heads) feed0.left (calls_of x.calls) line r.others script.each script.few r.lines r.stopped)
    by_stop stops.ReadFault is = absurd (read (x.status_is ∙ ap ended is))
    by_stop stops.WriteFault is = absurd (write (x.status_is ∙ ap ended is))
    by_stop stops.DiskFault is = absurd (disk (x.status_is ∙ ap ended is))
    by_stop (stops.Damaged place) is = absurd (x.undamaged script.tells m ready.tells ready.clean ready.young place is)

  answers : HowRun size status s0 s1 feed0 feed1 put sink0 sink1 → Answers
  answers (OfReason x unread) = inr (refused_memory breaks size.sessions status s0 s1 put sink0 sink1 m ready.tells.all ready.openable (sound_of m (areas_of s0) ready.clean) x disk)
  answers (OfCut x) = absurd (write x.status_is)
  answers (OfScript x) = by_stop x x.stop refl

-- ## A workload

module _ (breaks : EveryBreak) (workload : Workload) (before status : ℕ) (s0 s1 : Story) (left : Feed) (replied put last : List ℕ) (sink0 sink sink1 sessions : ℕ) (script : List (ℕ × Call)) (is : IsMade workload.number workload.count sessions script) (m : Master) (ready : IsReady 16 m s0)
    (write : status ≡ 5 → ⊥) (disk : status ≡ 6 → ⊥) (held0 held1 : Held) (holds : IsTrue held0.tells → held1.bytes ≡ held0.bytes ++ (put ++ last)) where
  abbrev Comes : Type 0
  Comes = IsDone status (MakesAll workload s0 held0 held1)

  abbrev Runs : Type 0
  Runs = Ran make_size before s0 s1 (feed_of (asked_text script)) left replied sink0 sink

  -- the engine did not stop
  not_stopped : (x : Runs) (stop : Stop) → x.stop ≡ stop → IsOfEngine stop → status ≡ before → ⊥
  not_stopped x stops.DiskFault at of same = disk (same ∙ (x.status_is ∙ ap ended at))
  not_stopped x (stops.Damaged place) at of same = x.undamaged refl m ready.tells ready.clean ready.young place at
  not_stopped x _ at of same = absurd of

  made_all : (made : Made) (x : Runs) → Came sessions script (Some made) (OfScript x) put → (status ≡ 0) × (last ≡ made_line workload made) → Comes
  made_all made x came went =
      let none = subst (λ (o : Stop). WentLast o came.last sink0 sink) came.comes.0 came.last_is in
      let first : put ≡ first_line x.counts = came.put_is ∙ (ap (λ (bytes : List ℕ). first_line x.counts ++ bytes) none.0 ∙ append-nil (first_line x.counts)) in
      inl (
        went.0,
        record {
          counts = x.counts;
          calls = x.calls;
          executed = x.executed;
          script = script;
          is = subst (λ (n : ℕ). IsMade workload.number workload.count n script) came.sessions_are is;
          walked = came.comes.2;
          made = made;
          count = came.comes.1;
          put = λ tells. holds tells ∙ ap (λ (bytes : List ℕ). held0.bytes ++ bytes) (ap (λ (bytes : List ℕ). bytes ++ last) first ∙ ap (λ (bytes : List ℕ). first_line x.counts ++ bytes) went.1);
        },
      )

  comes : (made : Option Made) (how : HowRun make_size before s0 s1 (feed_of (asked_text script)) left replied sink0 sink) → Came sessions script made how put → WentMade workload made before status last sink sink1 → Comes
  comes None (OfReason x unread) came went =
      inr (went.0 ∙ refused_memory breaks 16 before s0 s1 replied sink0 sink m ready.tells.all ready.openable (sound_of m (areas_of s0) ready.clean) x (λ six. disk (went.0 ∙ six)))
  comes None (OfCut x) came went = absurd (write (went.0 ∙ x.status_is))
  comes None (OfScript x) came went = absurd (not_stopped x x.stop refl came.comes went.0)
  comes (Some made) (OfReason x unread) came went = absurd (let clash : ◌≡◌ {A = Option Made} (Some made) None = came.0 in cc)
  comes (Some made) (OfCut x) came went = absurd (let clash : ◌≡◌ {A = Option Made} (Some made) None = came.0 in cc)
  comes (Some made) (OfScript x) came (inl went) = made_all made x came (went.0, went.1)
  comes (Some made) (OfScript x) came (inr went) = absurd (write went.0)

pub workload_done : EveryBreak → (workload : Workload) (status : ℕ) (events : List Event) (s0 mid s1 : Story) (held0 held1 : Held) (sink0 sink1 disk0 disk1 : ℕ) → MakeEnds workload status events s0 mid s1 held0 held1 sink0 sink1
    → IsBlamed sink0 sink1 (status ≡ 5) → HasCause disk0 disk1 (status ≡ 6) → (Rose sink0 sink1 → ⊥) → (Rose disk0 disk1 → ⊥) → (m : Master) → IsReady 16 m s0 → IsDone status (MakesAll workload s0 held0 held1)
workload_done breaks workload status events s0 mid s1 held0 held1 sink0 sink1 disk0 disk1 x write disk puts works m ready =
    let r = x.run in
    comes breaks workload x.before status s0 mid r.left r.run.put x.put x.last sink0 x.sink sink1 r.sessions r.script r.is m ready (λ five. puts (write.cause five)) (λ six. works (disk.cause six)) held0 held1 x.holds x.made r.run.how r.came x.last_is

-- ## A dump

listed : EveryBreak → (status : ℕ) (s0 s1 : Story) (put : List ℕ) (held0 held1 : Held) (sink0 sink1 : ℕ) (m : Master) → TellsAll 16 s0 → IsOpenable 16 m → IsSoundDisk m (areas_of s0) → (status ≡ 5 → ⊥) → (status ≡ 6 → ⊥)
    → (IsTrue held0.tells → held1.bytes ≡ held0.bytes ++ put) → NotOpened 16 status s0 s1 put sink0 sink1 ⊎ Dumped status s0 s1 put sink0 sink1 → IsDone status (ListsAll s0 held0 held1)
listed breaks status s0 s1 put held0 held1 sink0 sink1 m tells openable sound write disk holds (inl x) = inr (refused_memory breaks 16 status s0 s1 put sink0 sink1 m tells openable sound x disk)
listed breaks status s0 s1 put held0 held1 sink0 sink1 m tells openable sound write disk holds (inr x) = by x.printed
  where
    by : PutOrCut status (dump_text x.counts x.pairs) put sink0 sink1 → IsDone status (ListsAll s0 held0 held1)
    by (inl p) = inl (p.0, record { counts = x.counts; pairs = x.pairs; of_disk = x.of_disk tells; put = λ told. holds told ∙ ap (λ (bytes : List ℕ). held0.bytes ++ bytes) p.1 })
    by (inr p) = absurd (write p.0)

-- ## A new disk

was_done : (r : Put) (n : ℕ) → n ≡ finished r → n ≡ 0 → r ≡ Done
was_done Done n e zero = refl
was_done Failed n e zero = absurd (omega (arith, e, zero))

formats : (shape : Shape) (status : ℕ) (s0 s1 : Story) (held0 held1 : Held) (sink0 sink1 disk0 disk1 : ℕ) → FormatEnds shape status s0 s1 held0 held1 sink0 sink1 disk0 disk1 → Tells s0 0 → (HasMaster (s0.area 0).bytes → ⊥) → (status ≡ 5 → ⊥) → (status ≡ 6 → ⊥)
    → IsFormatStatus status → IsDone status (FormatsDisk shape s0 s1 held0 held1)
formats shape status s0 s1 held0 held1 sink0 sink1 disk0 disk1 x tells none write disk (inl zero) =
    let p = x.printed (inl zero) in
    inl (zero, record { disk = x.after (inl zero); put = p.puts.done (was_done p.answer status p.status_is zero) })
formats shape status s0 s1 held0 held1 sink0 sink1 disk0 disk1 x tells none write disk (inr (inl five)) = absurd (write five)
formats shape status s0 s1 held0 held1 sink0 sink1 disk0 disk1 x tells none write disk (inr (inr (inl six))) = absurd (disk six)
formats shape status s0 s1 held0 held1 sink0 sink1 disk0 disk1 x tells none write disk (inr (inr (inr (inl eight)))) = inr eight
formats shape status s0 s1 held0 held1 sink0 sink1 disk0 disk1 x tells none write disk (inr (inr (inr (inr nine)))) = absurd (none (x.cause_already_formatted nine tells))

-- ## All of them

pub complete : EveryBreak → (words : List (List ℕ)) (status : ℕ) (events : List Event) (s0 s1 : Story) (feed0 feed1 : Feed) (held0 held1 : Held) (before now : Faults) → CommandEnds words status events s0 s1 feed0 feed1 held0 held1 before now → NoneFailed before now
    → ((workload : Workload) (m : Master) → Asks words (Make workload) → IsReady 16 m s0 → IsDone status (MakesAll workload s0 held0 held1)) → IsComplete words status s0 s1 feed0 held0 held1 before now
complete breaks words status events s0 s1 feed0 feed1 held0 held1 before now x none made =
    let write : status ≡ 5 → ⊥ = λ five. none.sink (x.cause_write_fault.cause five) in
    let disk : status ≡ 6 → ⊥ = λ six. none.disk (x.cause_disk_fault.cause six) in
    record {
      run = λ size m asks ready script.
          let r = x.run size asks in
          answers breaks size status s0 s1 feed0 feed1 r.put before.sink now.sink before.source now.source m ready script (λ four. script.works (x.cause_read_fault.cause four)) write disk held0 held1 r.holds r.how;
      make = made;
      dump = λ m asks tells openable sound.
          let d = x.dump asks in
          listed breaks status s0 s1 d.put held0 held1 before.sink now.sink m tells openable sound write disk d.holds d.how;
      format = λ shape asks tells unformatted.
          let f = x.format shape asks in
          formats shape status s0 s1 held0 held1 before.sink now.sink before.disk now.disk f tells unformatted write disk f.known;
    }
