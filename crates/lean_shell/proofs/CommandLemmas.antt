-- How each command ended, as an end whatever the words.
use Rattle.std.proofs.Common.{◌≡◌, ◌≢◌, ◌⊎◌, inl, inr, ◌≤◌, ◌<◌, ◌-◌, ◌^◌, ℕ, List, [], length, Option, Some, None, MatchOption, refl, sym, ◌∙◌, ap, subst, arith, codes}
use Rattle.std.proofs.lemmas.Fmt.{decimal_injective}
use Rattle.lean_disk.specs.Area.{Leaves}
use Rattle.lean_disk.specs.Faults.{HasCause, IsBlamed}
use Rattle.lean_disk.specs.Moments.{LeavesOnly}
use Rattle.lean_disk.specs.Story.{IsLawful, Story}
use Rattle.lean_disk.proofs.MomentLemmas.{started}
use Rattle.buffered_engine.specs.lean_edge.Outside.{Feed, Held}
use Rattle.buffered_engine.specs.recovery.declared.opening.Unrecovered.{Unrecovered}
use Rattle.buffered_engine.specs.recovery.declared.opening.Unrecovered.TheVariants as why
use Rattle.script_run.specs.declared.stop.Stop.{Stop}
use Rattle.script_run.specs.declared.stop.Stop.TheVariants as stops
use Rattle.lean_shell.specs.Dumps.{DumpEnds, Dumped, PutOrCut, dump_text}
use Rattle.buffered_engine.specs.core_state.Events.{Event}
use Rattle.lean_shell.specs.Ends.{RunEnds}
use Rattle.lean_shell.specs.Runs.{HowRun, NotOpened, ended, status_of}
use Rattle.lean_shell.specs.Runs.HowRun.{OfCut, OfReason, OfScript}
use Rattle.lean_shell.specs.declared.failure.Failure.TheVariants.{Usage, DiskFault, Memory, AlreadyFormatted}
use Rattle.lean_shell.specs.Endings.{FormatEnds, IsFormatStatus, IsStatus, Stays, UsageEnds, WentOut, last_line, number_of}
use Rattle.lean_disk.specs.Told.{TellsOn, OnlyNotes}
use Rattle.lean_shell.specs.Completeness.{Faults}
use Rattle.lean_shell.specs.Inside.Commands.{CommandEnds, UnreadEnds}
use Rattle.lean_shell.specs.Inside.Openings.{Refuses}
use Rattle.lean_shell.specs.Words.{AsksDump, AsksFormat, AsksMake, AsksNothing, AsksRun, Gives, Names}
use Rattle.lean_shell.specs.Makes.{Came, MakeEnds, WentMade, made_line, make_size}
use Rattle.map_model.specs.declared.call.Call.{Call}
use Rattle.script_run.specs.Inside.{IsOfEngine}
use Rattle.script_run.specs.Runs.{calls_of}
use Rattle.transcripts.specs.Told.{asked_text}
use Rattle.workload_run.specs.Makes.{IsCount, feed_of}
use Rattle.workload_run.specs.Plans.{IsWalked}
use Rattle.workload_run.specs.declared.run.Made.{Made}
use Rattle.lean_shell.specs.declared.make.Workload.{Workload}
use Rattle.lean_shell.specs.declared.words.Command.TheVariants.{Dump, Format, Make, Run}
use Rattle.buffered_engine.specs.disk_format.declared.shape.Shape.{Shape}
use Rattle.buffered_engine.specs.paged_engine.declared.opening.Size.{Size}
use Rattle.clap.specs.Words.{Row, first_of}
use Rattle.buffered_engine.specs.recovery.Opened.{Keeps}
use Rattle.transcripts.specs.Laws.{EveryNotice, EveryTail}
use Rattle.lean_shell.proofs.EndLemmas.{failed, keeps_all, unmoved}
use Rattle.lean_shell.proofs.Dumps.EndLemmas as dumps
use Rattle.lean_shell.proofs.Runs.EndLemmas.{refused_ends, refused_headline}
use Rattle.lean_shell.proofs.Runs.MomentLemmas.{unmoved as not_moved}
use Rattle.lean_shell.proofs.Runs.NoteLemmas.{put_notes}
use Rattle.lean_shell.proofs.MakeLemmas.{none_makes, refused_makes}
use Rattle.lean_shell.proofs.PutLemmas.{IsOfBytes, noted_moments}
use Rattle.lean_shell.proofs.WordLemmas.{not_alike}

-- ## Words

some_is : {A : Type 0} (x y : A) → Some x ≡ Some y → x ≡ y
some_is x y e = cc

-- words give one command and its options
one_met : (words : List (List ℕ)) (a b : List ℕ) (x y : List Row) → Names words a x → Names words b y → (a ≡ b) × (x ≡ y)
one_met words a b x y is other =
    let pair : ◌≡◌ {A = List ℕ × List Row} (a, x) (b, y) = some_is {A = List ℕ × List Row} (a, x) (b, y) (sym is.are ∙ other.are) in
    (ap (λ (p : List ℕ × List Row). p.0) pair, ap (λ (p : List ℕ × List Row). p.1) pair)

no_command : (words : List (List ℕ)) (a b : List ℕ) (x y : List Row) → length a ≢ length b → Names words a x → Names words b y → ⊥
no_command words a b x y differ is other = differ (ap length (one_met words a b x y is other).0)

-- an option gives one number
one_number : (name : List ℕ) (from to : ℕ) (x y : List Row) (m n : ℕ) → to < 2 ^ 64 → x ≡ y → Gives x name from to m → Gives y name from to n → m ≡ n
one_number name from to x y m n end same is other =
    let text : is.text ≡ other.text = some_is is.text other.text (sym is.value ∙ (ap (first_of name) same ∙ other.value)) in
    decimal_injective m n (omega (arith, end, is.number.most)) (omega (arith, end, other.number.most)) (sym is.number.spelled ∙ (text ∙ other.number.spelled))

-- words ask for one shape at most
same_shape : (words : List (List ℕ)) (x y : Shape) → AsksFormat words x → AsksFormat words y → x ≡ y
same_shape words x y is other =
    let same : is.options ≡ other.options = (one_met words (codes "format") (codes "format") is.options other.options is.names other.names).1 in
    let workers : x.workers ≡ y.workers = one_number (codes "workers") 1 16 is.options other.options x.workers y.workers (omega arith) same is.workers other.workers in
    let pages : x.pages ≡ y.pages = one_number (codes "pages") 16 65536 is.options other.options x.pages y.pages (omega arith) same is.pages other.pages in
    let blocks : x.blocks ≡ y.blocks = one_number (codes "blocks") 64 4096 is.options other.options x.blocks y.blocks (omega arith) same is.blocks other.blocks in
    ap (λ (w : ℕ). record x { workers = w }) workers ∙ (ap (λ (p : ℕ). let s : Shape = record { workers = y.workers; pages = p; blocks = x.blocks } in s) pages ∙ ap (λ (b : ℕ). record y { blocks = b }) blocks)

-- and for one size
same_size : (words : List (List ℕ)) (x y : Size) → AsksRun words x → AsksRun words y → x ≡ y
same_size words x y is other =
    let same : is.options ≡ other.options = (one_met words (codes "run") (codes "run") is.options other.options is.names other.names).1 in
    let rows : x.rows ≡ y.rows = one_number (codes "rows") 16 4096 is.options other.options x.rows y.rows (omega arith) same is.given.rows other.given.rows in
    let group : x.group ≡ y.group = one_number (codes "group") 1 64 is.options other.options x.group y.group (omega arith) same is.given.group other.given.group in
    let frames : x.frames ≡ y.frames = one_number (codes "frames") 32 4096 is.options other.options x.frames y.frames (omega arith) same is.given.frames other.given.frames in
    ap (λ (n : ℕ). record x { frames = n }) frames ∙ (ap (λ (n : ℕ). let s : Size = record { frames = y.frames; rows = n; group = x.group; sessions = x.sessions } in s) rows
    ∙ (ap (λ (n : ℕ). let s : Size = record { frames = y.frames; rows = y.rows; group = n; sessions = x.sessions } in s) group ∙ ap (λ (n : ℕ). record y { sessions = n }) (is.given.sessions ∙ sym other.given.sessions)))

-- words that ask for a new disk ask for no run
pub not_both : (words : List (List ℕ)) (shape : Shape) (size : Size) → AsksFormat words shape → AsksRun words size → ⊥
not_both words shape size format run = no_command words (codes "format") (codes "run") format.options run.options (λ e. omega (arith, e)) format.names run.names

-- nor for a dump, as words that ask for a run
pub not_dumped : (words : List (List ℕ)) (shape : Shape) → AsksFormat words shape → AsksDump words → ⊥
not_dumped words shape format dump = no_command words (codes "format") (codes "dump") format.options dump.options (λ e. omega (arith, e)) format.names dump.names

pub not_run : (words : List (List ℕ)) (size : Size) → AsksDump words → AsksRun words size → ⊥
not_run words size dump run = no_command words (codes "dump") (codes "run") dump.options run.options (λ e. omega (arith, e)) dump.names run.names

-- words that ask for a workload ask for one, and for nothing else
pub same_workload : (words : List (List ℕ)) (x y : Workload) → AsksMake words x → AsksMake words y → x ≡ y
same_workload words x y is other =
    let same : is.options ≡ other.options = (one_met words (codes "make") (codes "make") is.options other.options is.names other.names).1 in
    let number : x.number ≡ y.number = one_number (codes "number") 0 (2 ^ 64 - 1) is.options other.options x.number y.number (omega arith) same is.given.number other.given.number in
    let count : x.count ≡ y.count = one_number (codes "count") 1 1000000 is.options other.options x.count y.count (omega arith) same is.given.count other.given.count in
    ap (λ (n : ℕ). record x { number = n }) number ∙ ap (λ (n : ℕ). record y { count = n }) count

pub no_format : (words : List (List ℕ)) (shape : Shape) (workload : Workload) → AsksFormat words shape → AsksMake words workload → ⊥
no_format words shape workload format make = no_command words (codes "format") (codes "make") format.options make.options (λ e. omega (arith, e)) format.names make.names

pub no_run : (words : List (List ℕ)) (size : Size) (workload : Workload) → AsksRun words size → AsksMake words workload → ⊥
no_run words size workload run make = no_command words (codes "run") (codes "make") run.options make.options (λ e. omega (arith, e)) run.names make.names

pub no_dump : (words : List (List ℕ)) (workload : Workload) → AsksDump words → AsksMake words workload → ⊥
no_dump words workload dump make = not_alike (one_met words (codes "make") (codes "dump") make.options dump.options make.names dump.names).0

-- ## Statuses

of_format_status : (n : ℕ) → IsFormatStatus n → IsStatus n × (n ≡ 4 → ⊥)
of_format_status n (inl e) = (inl e, λ z. omega (arith, e, z))
of_format_status n (inr (inl e)) = (inr (inr (inr (inr (inl e)))), λ z. omega (arith, e, z))
of_format_status n (inr (inr (inl e))) = (inr (inr (inr (inr (inr (inl e))))), λ z. omega (arith, e, z))
of_format_status n (inr (inr (inr (inl e)))) = (inr (inr (inr (inr (inr (inr (inr (inl e))))))), λ z. omega (arith, e, z))
of_format_status n (inr (inr (inr (inr e)))) = (inr (inr (inr (inr (inr (inr (inr (inr e))))))), λ z. omega (arith, e, z))

of_reason : (reason : Unrecovered) (n : ℕ) → n ≡ status_of reason → IsStatus n × (n ≡ 2 → ⊥)
of_reason why.NotFormatted n e = (inr (inr (inr (inr (inr (inr (inl e)))))), λ z. omega (arith, e, z))
of_reason (why.Damaged area place) n e = (inr (inr (inr (inr (inr (inr (inl e)))))), λ z. omega (arith, e, z))
of_reason why.DiskFault n e = (inr (inr (inr (inr (inr (inl e))))), λ z. omega (arith, e, z))
of_reason why.Memory n e = (inr (inr (inr (inr (inr (inr (inr (inl e))))))), λ z. omega (arith, e, z))

not_read : (reason : Unrecovered) (n : ℕ) → n ≡ status_of reason → n ≡ 4 → ⊥
not_read why.NotFormatted n e z = omega (arith, e, z)
not_read (why.Damaged area place) n e z = omega (arith, e, z)
not_read why.DiskFault n e z = omega (arith, e, z)
not_read why.Memory n e z = omega (arith, e, z)

of_stop : (stop : Stop) (n : ℕ) → n ≡ ended stop → IsStatus n × (n ≡ 2 → ⊥)
of_stop stops.End n e = (inl e, λ z. omega (arith, e, z))
of_stop (stops.Refused line) n e = (inr (inr (inl e)), λ z. omega (arith, e, z))
of_stop stops.ReadFault n e = (inr (inr (inr (inl e))), λ z. omega (arith, e, z))
of_stop stops.WriteFault n e = (inr (inr (inr (inr (inl e)))), λ z. omega (arith, e, z))
of_stop stops.DiskFault n e = (inr (inr (inr (inr (inr (inl e))))), λ z. omega (arith, e, z))
of_stop (stops.Damaged place) n e = (inr (inr (inr (inr (inr (inr (inl e)))))), λ z. omega (arith, e, z))

of_run_status : (size : Size) (n : ℕ) (s0 s1 : Story) (feed0 feed1 : Feed) (put : List ℕ) (sink0 sink1 : ℕ) → HowRun size n s0 s1 feed0 feed1 put sink0 sink1 → IsStatus n × (n ≡ 2 → ⊥)
of_run_status size n s0 s1 feed0 feed1 put sink0 sink1 (OfReason x unread) = of_reason x.reason n x.status_is
of_run_status size n s0 s1 feed0 feed1 put sink0 sink1 (OfCut x) = of_stop stops.WriteFault n x.status_is
of_run_status size n s0 s1 feed0 feed1 put sink0 sink1 (OfScript x) = of_stop x.stop n x.status_is

of_printed : (n : ℕ) (text put : List ℕ) (sink0 sink1 : ℕ) → PutOrCut n text put sink0 sink1 → IsStatus n × (n ≡ 2 → ⊥) × (n ≡ 4 → ⊥)
of_printed n text put sink0 sink1 (inl p) = let e = p.0 in (inl e, (λ z. omega (arith, e, z)), λ z. omega (arith, e, z))
of_printed n text put sink0 sink1 (inr p) = let e = p.0 in (inr (inr (inr (inr (inl e)))), (λ z. omega (arith, e, z)), λ z. omega (arith, e, z))

of_dump_status : (n : ℕ) (s0 s1 : Story) (put : List ℕ) (sink0 sink1 : ℕ) → NotOpened 16 n s0 s1 put sink0 sink1 ⊎ Dumped n s0 s1 put sink0 sink1 → IsStatus n × (n ≡ 2 → ⊥) × (n ≡ 4 → ⊥)
of_dump_status n s0 s1 put sink0 sink1 (inl x) = let is = of_reason x.reason n x.status_is in (is.0, is.1, not_read x.reason n x.status_is)
of_dump_status n s0 s1 put sink0 sink1 (inr x) = of_printed n (dump_text x.counts x.pairs) put sink0 sink1 x.printed

not_a_read : (stop : Stop) (n : ℕ) → n ≡ ended stop → (stop ≡ stops.ReadFault → ⊥) → n ≡ 4 → ⊥
not_a_read stops.End n e other z = omega (arith, e, z)
not_a_read (stops.Refused line) n e other z = omega (arith, e, z)
not_a_read stops.ReadFault n e other z = other refl
not_a_read stops.WriteFault n e other z = omega (arith, e, z)
not_a_read stops.DiskFault n e other z = omega (arith, e, z)
not_a_read (stops.Damaged place) n e other z = omega (arith, e, z)

not_read_by : (stop : Stop) → IsOfEngine stop → stop ≡ stops.ReadFault → ⊥
not_read_by stops.DiskFault of e = cc
not_read_by (stops.Damaged place) of e = cc
not_read_by _ of e = absurd of

not_read_made : (made : Option Made) (stop : Stop) (P : Made → Type 0) → ((m : Made) → P m → stop ≡ stops.End) → MatchOption made (IsOfEngine stop) P → stop ≡ stops.ReadFault → ⊥
not_read_made None stop P ends of e = not_read_by stop of e
not_read_made (Some m) stop P ends is e = let clash : stops.End ≡ stops.ReadFault = sym (ends m is) ∙ e in cc

of_came : (sessions : ℕ) (script : List (ℕ × Call)) (made : Option Made) (size : Size) (n : ℕ) (s0 s1 : Story) (feed0 feed1 : Feed) (replied put : List ℕ) (sink0 sink1 : ℕ) (how : HowRun size n s0 s1 feed0 feed1 replied sink0 sink1) → Came sessions script made how put → n ≡ 4 → ⊥
of_came sessions script made size n s0 s1 feed0 feed1 replied put sink0 sink1 (OfReason x unread) came = not_read x.reason n x.status_is
of_came sessions script made size n s0 s1 feed0 feed1 replied put sink0 sink1 (OfCut x) came = λ z. let five = x.status_is in omega (arith, five, z)
of_came sessions script made size n s0 s1 feed0 feed1 replied put sink0 sink1 (OfScript x) came = not_a_read x.stop n x.status_is (not_read_made made x.stop (λ m. (x.stop ≡ stops.End) × IsCount m (calls_of x.calls) × IsWalked script (calls_of x.calls)) (λ m is. is.0) came.comes)

of_made : (workload : Workload) (made : Option Made) (before n : ℕ) (put : List ℕ) (sink0 sink1 : ℕ) → IsStatus before × (before ≡ 2 → ⊥) × (before ≡ 4 → ⊥) → WentMade workload made before n put sink0 sink1 → IsStatus n × (n ≡ 2 → ⊥) × (n ≡ 4 → ⊥)
of_made workload None before n put sink0 sink1 is went = subst (λ (m : ℕ). IsStatus m × (m ≡ 2 → ⊥) × (m ≡ 4 → ⊥)) (sym went.0) is
of_made workload (Some made) before n put sink0 sink1 is went = of_printed n (made_line workload made) put sink0 sink1 went

of_make_status : (workload : Workload) (n : ℕ) (events : List Event) (s0 s1 s2 : Story) (held0 held1 : Held) (sink0 sink1 : ℕ) → MakeEnds workload n events s0 s1 s2 held0 held1 sink0 sink1 → IsStatus n × (n ≡ 2 → ⊥) × (n ≡ 4 → ⊥)
of_make_status workload n events s0 s1 s2 held0 held1 sink0 sink1 x =
    let r = x.run.run in
    let is = of_run_status make_size x.before s0 s1 (feed_of (asked_text x.run.script)) x.run.left r.put sink0 x.sink r.how in
    of_made workload x.made x.before n x.last x.sink sink1
    (is.0, is.1, of_came x.run.sessions x.run.script x.made make_size x.before s0 s1 (feed_of (asked_text x.run.script)) x.run.left r.put x.put sink0 x.sink r.how x.run.came) x.last_is

-- ## Words that ask for nothing

stays_of_bytes : (s : Story) → IsOfBytes (Stays s)
stays_of_bytes s = record { same = λ c d images writes is a told. subst (Leaves (s.area a)) (sym (images a)) (is a told) }

-- a line that was put leaves what is told of
pub tells_on : (s0 s1 : Story) → OnlyNotes s0 s1 → TellsOn s0 s1
tells_on s0 s1 n = record { counts = n.counts; tells = n.tells; areas = n.areas; later = n.later }

-- before the first call nothing is touched
pub usage_moments : (s0 s1 : Story) → IsLawful s0 → OnlyNotes s0 s1 → LeavesOnly s0 s1 (Stays s0)
usage_moments s0 s1 law notes = noted_moments s0 s0 s1 (Stays s0) (stays_of_bytes s0) law (omega arith) (started s0 (Stays s0) law (λ c now. now.leaves)) notes

-- ## Ends

module _ (words : List (List ℕ)) (status : ℕ) (events : List Event) (s0 s1 : Story) (feed0 feed1 : Feed) (held0 held1 : Held) (before now : Faults) where
  abbrev Ends : Type 0
  Ends = CommandEnds words status events s0 s1 feed0 feed1 held0 held1 before now

  pub of_format : (shape : Shape) → AsksFormat words shape → now.source ≡ before.source
      → FormatEnds shape status s0 s1 held0 held1 before.sink now.sink before.disk now.disk → Ends
  of_format shape asks unread ends = record {
    known = (of_format_status status ends.known).0;
    usage = λ e. absurd (ends.words e);
    cause_read_fault = record { later = omega (arith, unread); cause = λ e. absurd ((of_format_status status ends.known).1 e); calm = λ n. unread };
    cause_write_fault = ends.cause_write_fault;
    cause_disk_fault = ends.cause_disk_fault;
    format = λ other also. subst (λ (x : Shape). FormatEnds x status s0 s1 held0 held1 before.sink now.sink before.disk now.disk) (same_shape words shape other asks also) ends;
    run = λ size also. absurd (not_both words shape size asks also);
    dump = λ also. absurd (not_dumped words shape asks also);
    none = λ none. absurd (none (Format shape) asks);
  }

  pub of_run : (size : Size) → AsksRun words size → RunEnds size status events s0 s1 feed0 feed1 held0 held1 before.sink now.sink
      → HasCause before.source now.source (status ≡ 4) → IsBlamed before.sink now.sink (status ≡ 5) → HasCause before.disk now.disk (status ≡ 6) → Ends
  of_run size asks ends read write disk =
      let is = of_run_status size status s0 s1 feed0 feed1 ends.put before.sink now.sink ends.how in
      record {
        known = is.0;
        usage = λ e. absurd (is.1 e);
        cause_read_fault = read;
        cause_write_fault = write;
        cause_disk_fault = disk;
        format = λ shape also. absurd (not_both words shape size also asks);
        run = λ other also. subst (λ (x : Size). RunEnds x status events s0 s1 feed0 feed1 held0 held1 before.sink now.sink) (same_size words size other asks also) ends;
        dump = λ also. absurd (not_run words size also asks);
        none = λ none. absurd (none (Run size) asks);
      }

  pub of_dump : AsksDump words → now.source ≡ before.source → DumpEnds status s0 s1 held0 held1 before.sink now.sink
      → IsBlamed before.sink now.sink (status ≡ 5) → HasCause before.disk now.disk (status ≡ 6) → Ends
  of_dump asks unread ends write disk =
      let is = of_dump_status status s0 s1 ends.put before.sink now.sink ends.how in
      record {
        known = is.0;
        usage = λ e. absurd (is.1 e);
        cause_read_fault = record { later = omega (arith, unread); cause = λ e. absurd (is.2 e); calm = λ n. unread };
        cause_write_fault = write;
        cause_disk_fault = disk;
        format = λ shape also. absurd (not_dumped words shape also asks);
        run = λ size also. absurd (not_run words size asks also);
        dump = λ also. ends;
        none = λ none. absurd (none Dump asks);
      }

  pub of_make : (workload : Workload) (mid : Story) → AsksMake words workload → now.source ≡ before.source → MakeEnds workload status events s0 mid s1 held0 held1 before.sink now.sink
      → IsBlamed before.sink now.sink (status ≡ 5) → HasCause before.disk now.disk (status ≡ 6) → Ends
  of_make workload mid asks unread ends write disk =
      let is = of_make_status workload status events s0 mid s1 held0 held1 before.sink now.sink ends in
      record {
        known = is.0;
        usage = λ e. absurd (is.1 e);
        cause_read_fault = record { later = omega (arith, unread); cause = λ e. absurd (is.2 e); calm = λ n. unread };
        cause_write_fault = write;
        cause_disk_fault = disk;
        format = λ shape also. absurd (no_format words shape workload also asks);
        run = λ size also. absurd (no_run words size workload also asks);
        dump = λ also. absurd (no_dump words workload also asks);
        none = λ none. absurd (none (Make workload) asks);
      }

  pub of_none : AsksNothing words → status ≡ 2 → now.source ≡ before.source
      → UsageEnds status s0 s1 held0 held1 before.sink now.sink before.disk now.disk → Ends
  of_none nothing two unread ends = record {
    known = inr (inl two);
    usage = λ e. nothing;
    cause_read_fault = record { later = omega (arith, unread); cause = λ e. absurd (omega (arith, two, e)); calm = λ n. unread };
    cause_write_fault = record { later = ends.printed.cause.later; cause = λ e. absurd (omega (arith, two, e)) };
    cause_disk_fault = record { later = omega (arith, ends.faults); cause = λ e. absurd (omega (arith, two, e)); calm = λ n. ends.faults };
    format = λ shape asks. absurd (nothing (Format shape) asks);
    run = λ size asks. absurd (nothing (Run size) asks);
    dump = λ asks. absurd (nothing Dump asks);
    none = λ also. ends;
  }

  -- whatever the words
  pub of_unread : feed1 ≡ feed0 → now.source ≡ before.source → UnreadEnds status events s0 s1 held0 held1 before.sink now.sink before.disk now.disk → Ends
  of_unread same unread ends =
      let eight : status ≡ 8 = ends.status_is in
      record {
        known = inr (inr (inr (inr (inr (inr (inr (inl eight)))))));
        usage = λ e. absurd (omega (arith, eight, e));
        cause_read_fault = record { later = omega (arith, unread); cause = λ e. absurd (omega (arith, eight, e)); calm = λ n. unread };
        cause_write_fault = record { later = ends.none.printed.cause.later; cause = λ e. absurd (omega (arith, eight, e)) };
        cause_disk_fault = record { later = omega (arith, ends.none.faults); cause = λ e. absurd (omega (arith, eight, e)); calm = λ n. ends.none.faults };
        format = λ shape asks. ends.format shape;
        run = λ size asks. subst (λ (f : Feed). RunEnds size status events s0 s1 feed0 f held0 held1 before.sink now.sink) (sym same) (ends.run size feed0);
        dump = λ asks. ends.dump;
        none = λ nothing. ends.none;
      }

-- ## Words that could not be read

module _ (notice_law : EveryNotice) (tail_law : EveryTail) (s0 s1 : Story) (law : IsLawful s0) (held0 held1 : Held) (sink0 sink1 disk0 disk1 status : ℕ) (eight : status ≡ 8) (r : Refuses why.Memory held0 held1 sink0 sink1 s0 s1) (calm : disk1 ≡ disk0) (events : List Event) (none : events ≡ []) where
  notes : OnlyNotes s0 s1
  notes = put_notes s0 s1 r.answer r.line.noted r.line.same

  printed : WentOut (last_line Memory) held0 held1 sink0 sink1
  printed = record { answer = r.answer; puts = r.line.puts; cause = r.cause }

  keeps : Keeps s0 s0
  keeps = record { notes = refl; tells = λ a. refl; areas = refl; counts = refl; later = omega arith }

  pub unread : UnreadEnds status events s0 s1 held0 held1 sink0 sink1 disk0 disk1
  unread = record {
    status_is = eight;
    format = λ shape. failed shape s0 s0 s1 law (keeps_all s0) (unmoved shape s0 law) (λ a lt. refl) notes held0 held1 sink0 sink1 disk0 disk1
        Memory status eight (λ e. let n : number_of Memory ≡ number_of Usage = ap number_of e in omega (arith, n)) printed (λ e. absurd (let n : number_of Memory ≡ number_of AlreadyFormatted = ap number_of e in omega (arith, n))) (λ e a. refl)
        (record { later = omega (arith, calm); cause = λ e. absurd (let n : number_of Memory ≡ number_of DiskFault = ap number_of e in omega (arith, n)); calm = λ n. calm });
    run = λ size feed. refused_ends size notice_law tail_law status s0 s0 s1 law keeps (λ a lt. refl) (λ m tells clean. not_moved m s0 law) feed why.Memory eight tt (λ refused a. absurd refused) held0 held1 sink0 sink1 r events none;
    headline = λ feed. refused_headline (record { frames = 32; rows = 16; group = 1; sessions = 16 }) notice_law tail_law s0 s0 s1 law keeps (λ m tells clean. not_moved m s0 law) feed why.Memory held0 held1 sink0 sink1 r;
    make = λ workload. none_makes workload status events s0 s1 held0 held1 sink0 sink1 (refused_makes workload notice_law tail_law status s0 s0 s1 law keeps (λ a lt. refl) (λ m tells clean. not_moved m s0 law) why.Memory eight tt (λ refused a. absurd refused) held0 held1 sink0 sink1 r events none);
    dump = dumps.refused s0 s0 s1 law (record { keeps = keeps; logs = λ a lt. record { bytes = refl; writes = refl; first = refl }; others = λ a lt. refl; any = λ m tells clean. not_moved m s0 law }) why.Memory tt (λ refused a. absurd refused) held0 held1 sink0 sink1 r.answer status eight r.line r.cause;
    none = record {
      failure = Memory;
      is = inr refl;
      status_is = eight;
      printed = printed;
      same = notes.area;
      tells_on = tells_on s0 s1 notes;
      faults = calm;
      any_moment = usage_moments s0 s1 law notes;
    };
  }
