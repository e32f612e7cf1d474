-- One line: it asks nothing, or its call is answered, once or more, and maybe the abort behind it, or the disk fails.
use Rattle.std.proofs.Common.{◌≡◌, ◌++◌, ◌∷◌, [], ◌<◌, ◌+◌, ◌^◌, ℕ, suc, Bool, true, false, cond, List, Option, Some, None, length, refl, sym, ap, ◌∙◌, subst, arith, true≢false}
use Rattle.std.proofs.lemmas.List.{append-nil}
use mathlib.Core.List.{append_assoc}
use Rattle.lean_edge.specs.Outside.{Feed, Held}
use Rattle.lean_disk.specs.Story.{IsLawful, Story}
use Rattle.map_model.specs.declared.call.Answer.{Answer}
use Rattle.map_model.specs.declared.call.Call.{Call}
use Rattle.map_model.specs.declared.call.Call.TheVariants as call
use Rattle.map_model.specs.Journals.{Name}
use Rattle.map_model.specs.Pairings.{is_last, is_open_line, script_of}
use Rattle.call_parts.specs.core_state.Openings.{Opening}
use Rattle.call_parts.specs.core_calls.Deeds.{answered, asked}
use Rattle.call_parts.specs.core_calls.Durables.{durables, moments}
use Rattle.call_parts.specs.core_calls.Fronts.{Done}
use Rattle.call_parts.specs.run_crashes.Lines.{lines_of}
use Rattle.call_parts.specs.Deeds.{Does, Fails}
use Rattle.call_parts.specs.Memory.{Memory}
use Rattle.engine_front.specs.Stops.{StandsNot}
use Rattle.engine_front.specs.Turns.{IsNext, IsScanning}
use Rattle.engine_front.specs.declared.calls.Next.{Next}
use Rattle.engine_front.specs.declared.calls.Next.TheVariants.{Scan}
use Rattle.script_lang.specs.Reading.{Unread, Reading}
use Rattle.transcripts.specs.Told.{ask, asked_text, EachLineFits, LineFits}
use Rattle.script_run.specs.Runs.{EngineStands, Hand, InHand, ReadsTo, ScriptRuns, calls_of, works_behind}
use Rattle.script_run.specs.Runs.InHand.{OfLine, OfAbort, OfScan}
use Rattle.script_run.specs.Inside.{AnsweredTo, AnswersRun, CallsRun, EngineGoes, GoOn, HasTold, IsDueBehind, IsDueTo, IsNewest, IsOfEngine, IsOfPutting, IsOfReading, Laws, LineRuns, LineSteps, MayRun, Says, Stepped, StopsFor}
use Rattle.script_run.specs.Inside.IsDueTo.{Abort, Step}
use Rattle.script_run.specs.declared.stop.Stop.{Stop}
use Rattle.script_run.specs.declared.stop.Stop.TheVariants.{WriteFault, DiskFault, Damaged}
use Rattle.script_run.proofs.CallLemmas.{answer_call, calls_then, fault_call, no_call}
use Rattle.script_run.proofs.FitLemmas.{hindered_open}
use Rattle.script_run.proofs.StopLemmas.{of_no_sink, prints_none, putting_goes, putting_works, reading_stands, reads_putting}

-- a run of calls that asked these lines
module _ (stop : Option Stop) (sessions group : ℕ) (g : Opening) (xs : List Done) (m0 m1 : Memory) (h0 h1 : Held) (old new : Story) (newer : List Done) (hand : Hand) (calls : CallsRun newer stop hand group g xs m0 m1 h0 h1 old new) where
  unfoldable pub script_run : (before : ℕ) (start feed : Feed) (seen : List ℕ) (reader : Unread) → EachLineFits sessions (script_of (calls_of newer)) → before + length (script_of (calls_of newer)) < 2 ^ 40
      → ReadsTo stop sessions newer hand (suc (before + length (script_of (calls_of newer)))) start feed reader (seen ++ asked_text (script_of (calls_of newer)))
      → ScriptRuns stop sessions group g xs before start seen m0 m1 reader feed h0 h1 old new
  script_run before start feed seen reader fits few reads = record {
    newer = newer;
    fits = fits;
    few = few;
    memory = calls.memory;
    executes = calls.executes;
    memory_is = calls.memory_is;
    hand = hand;
    reads = reads;
    replies = calls.replies;
    lines = calls.lines;
    told = calls.told;
    tail = calls.tail;
    reply_fits = calls.reply_fits;
    prints = calls.prints;
    cut = calls.cut;
    holds = calls.holds;
    others = calls.others;
    disk = calls.disk;
  }

  module _ (Stands : List Done → Option (List Name) → Type 0) (stands : EngineGoes stop (Stands (newer ++ xs)) g (newer ++ xs)) (before : ℕ) (start feed : Feed) (seen : List ℕ) (reader : Unread) where
    -- none asked
    pub none_step : newer ≡ [] → before < 2 ^ 40 → ReadsTo stop sessions [] hand (suc before) start feed reader seen → (count : ℕ) → (stop ≡ None → 0 ≡ count)
        → Stepped Stands count stop sessions group g xs before start seen m0 m1 reader feed h0 h1 old new
    unfolding script_run
    none_step is few reads count count_is =
        let P : List Done → Type 0 = λ ys. EachLineFits sessions (script_of (calls_of ys)) in
        let fits : P newer = subst P (sym is) tt in
        let size : length (script_of (calls_of newer)) ≡ 0 = ap (λ (ys : List Done). length (script_of (calls_of ys))) is in
        let R : List Done → Type 0 = λ ys. ReadsTo stop sessions ys hand (suc (before + length (script_of (calls_of ys)))) start feed reader (seen ++ asked_text (script_of (calls_of ys))) in
        let bytes : seen ≡ seen ++ [] = sym (append-nil seen) in
        let number : suc before ≡ suc (before + 0) = omega arith in
        let at : R [] = subst (λ (t : List ℕ). ReadsTo stop sessions [] hand (suc (before + 0)) start feed reader t) bytes (subst (λ (n : ℕ). ReadsTo stop sessions [] hand n start feed reader seen) number reads) in
        record {
          run = script_run before start feed seen reader fits (omega (arith, size, few)) (subst R (sym is) at);
          stands = stands;
          count_is = λ none. size ∙ count_is none;
          closed = λ none. ap (λ (ys : List Done). is_open_line (calls_of ys)) is;
        }

    -- one asked, with this line
    pub one_step : (session : ℕ) (call : Call) → LineFits sessions session call → script_of (calls_of newer) ≡ (session, call) ∷ [] → before + 1 < 2 ^ 40 → (stop ≡ None → is_open_line (calls_of newer) ≡ false)
        → ReadsTo stop sessions newer hand (suc (before + 1)) start feed reader (seen ++ (ask session call ++ 10 ∷ [])) → LineSteps Stands session call stop sessions group g xs before start seen m0 m1 reader feed h0 h1 old new
    unfolding script_run
    one_step session call fits is few closed reads =
        let size : length (script_of (calls_of newer)) ≡ 1 = ap (λ (ls : List (ℕ × Call)). length ls) is in
        record {
          step = record {
            run = script_run before start feed seen reader (subst (EachLineFits sessions) (sym is) (fits, tt)) (omega (arith, size, few))
                (subst (λ (ls : List (ℕ × Call)). ReadsTo stop sessions newer hand (suc (before + length ls)) start feed reader (seen ++ asked_text ls)) (sym is) reads);
            stands = stands;
            count_is = λ none. size;
            closed = closed;
          };
          asks = λ none. is;
        }

-- ## The line of one outcome, and of those that go on with it

-- an outcome alone is of one line
pub line_of_one : (x : Done) (session : ℕ) (call : Call) → x.outcome.session ≡ session → asked x.outcome.deed ≡ call → script_of (calls_of (x ∷ [])) ≡ (session, call) ∷ []
line_of_one x session call s c = ap (λ (w : ℕ). (w, asked x.outcome.deed) ∷ []) s ∙ ap (λ (d : Call). (session, d) ∷ []) c

-- which is done with behind the last answer to it
pub closed_one : (x : Done) (xs : List Done) → is_last (answered x.outcome.deed) ≡ true → is_open_line (calls_of (x ∷ xs)) ≡ false
closed_one x xs last = ap (λ b. cond b false true) last

pub open_one : (x : Done) (xs : List Done) → is_last (answered x.outcome.deed) ≡ false → is_open_line (calls_of (x ∷ xs)) ≡ true
open_one x xs more = ap (λ b. cond b false true) more

-- what goes on with its line is of the same line
module _ (x : Done) (xs : List Done) where
  open_here : (zs : List Done) → is_open_line (calls_of (zs ++ x ∷ xs)) ≡ is_open_line (calls_of (zs ++ x ∷ []))
  open_here [] = refl
  open_here (z ∷ zs) = refl

  line_of_all : (zs : List Done) → GoOn zs (x ∷ xs) → script_of (calls_of (zs ++ x ∷ [])) ≡ script_of (calls_of (x ∷ []))
  line_of_all [] on = refl
  line_of_all (z ∷ zs) on =
      ap (λ (b : Bool). cond b (script_of (calls_of (zs ++ x ∷ []))) (script_of (calls_of (zs ++ x ∷ [])) ++ (z.outcome.session, asked z.outcome.deed) ∷ [])) (sym (open_here zs) ∙ on.1) ∙ line_of_all zs on.0

-- what is so behind any outcome is so behind these
pub behind_any : (P : List Done → Type 0) → ((y : Done) (earlier : List Done) → P (y ∷ earlier)) → (zs : List Done) (x : Done) (xs : List Done) → P (zs ++ x ∷ xs)
behind_any P each [] x xs = each x xs
behind_any P each (z ∷ zs) x xs = each z (zs ++ x ∷ xs)

-- ## What a line did

-- the call that is due behind the newest of some outcomes, and the same behind the first of them alone
due_in_hand : (sessions : ℕ) (newer : List Done) (hand : Hand) (start now : Feed) (r : Unread) (seen : List ℕ) → Reading start now r seen → (y : Done) (earlier : List Done) → newer ≡ y ∷ earlier → IsDueTo y hand → InHand sessions newer hand start now r seen
due_in_hand sessions newer hand start now r seen reading y earlier are (Abort session hindered) = OfAbort y earlier are session hindered reading
due_in_hand sessions newer hand start now r seen reading y earlier are (Step session asks more none) = OfScan y earlier are session asks more none reading

hand_here : (sessions : ℕ) (zs : List Done) (x : Done) (xs : List Done) (hand : Hand) (start now : Feed) (r : Unread) (seen : List ℕ) → Reading start now r seen → IsDueBehind (zs ++ x ∷ xs) hand → InHand sessions (zs ++ x ∷ []) hand start now r seen
hand_here sessions [] x xs hand start now r seen reading due = due_in_hand sessions (x ∷ []) hand start now r seen reading x [] refl due
hand_here sessions (z ∷ zs) x xs hand start now r seen reading due = due_in_hand sessions (z ∷ (zs ++ x ∷ [])) hand start now r seen reading z (zs ++ x ∷ []) refl due

-- where the reader stands behind a line whose first answer was not its last
reads_running : (stop : Option Stop) (sessions : ℕ) (zs : List Done) (x : Done) (xs : List Done) (hand : Hand) (n : ℕ) (start now : Feed) (r : Unread) (seen : List ℕ) → MayRun stop → Reading start now r seen
    → (works_behind stop ≡ false → IsDueBehind (zs ++ x ∷ xs) hand) → ReadsTo stop sessions (zs ++ x ∷ []) hand n start now r seen
reads_running None sessions zs x xs hand n start now r seen may is due = is
reads_running (Some WriteFault) sessions zs x xs hand n start now r seen may is due = is
reads_running (Some DiskFault) sessions zs x xs hand n start now r seen may is due = hand_here sessions zs x xs hand start now r seen is (due refl)
reads_running (Some (Damaged place)) sessions zs x xs hand n start now r seen may is due = hand_here sessions zs x xs hand start now r seen is (due refl)
reads_running (Some _) sessions zs x xs hand n start now r seen may is due = absurd may

-- and behind one whose call was not answered
line_in_hand : (stop : Stop) (sessions : ℕ) (hand : Hand) (n : ℕ) (start now : Feed) (r : Unread) (seen : List ℕ) → IsOfEngine stop → LineFits sessions hand.session hand.call → Reading start now r (seen ++ (ask hand.session hand.call ++ 10 ∷ [])) → ReadsTo (Some stop) sessions [] hand n start now r seen
line_in_hand DiskFault sessions hand n start now r seen of fits is = OfLine fits is
line_in_hand (Damaged place) sessions hand n start now r seen of fits is = OfLine fits is
line_in_hand _ sessions hand n start now r seen of fits is = absurd of

engine_stands : (stop : Stop) (Stands : Option (List Name) → Type 0) (g : Opening) (calls : List Done) → IsOfEngine stop → Stands None → EngineStands stop Stands g calls
engine_stands DiskFault Stands g calls of stood = stood
engine_stands (Damaged place) Stands g calls of stood = stood
engine_stands _ Stands g calls of stood = absurd of

-- a hand that counts for nothing
abbrev nobody : Hand
nobody = record { session = 0; call = call.Begin }

module _ (laws : Laws) (sessions group : ℕ) (g : Opening) (xs : List Done) (before number : ℕ) (is : number ≡ suc before) (start feed : Feed) (seen : List ℕ) (reader : Unread) (m0 : Memory) (h0 : Held) (old : Story) (law : IsLawful old)
    (Stands : List Done → Option (List Name) → Type 0) where
  -- it asked nothing
  pub no_step : (stop : Stop) → before < 2 ^ 40 → IsOfReading stop → Stands xs (Some (durables g (moments xs))) → ((newer : List Done) → (hand : Hand) → ReadsTo (Some stop) sessions newer hand number start feed reader seen)
      → Stepped Stands 1 (Some stop) sessions group g xs before start seen m0 m0 reader feed h0 h0 old old
  no_step stop few of stands reads =
      none_step (Some stop) sessions group g xs m0 m0 h0 h0 old old [] nobody (no_call laws group g xs m0 old law (Some stop) nobody h0 of (prints_none stop of) (of_no_sink stop of)) Stands (reading_stands stop (Stands xs) g xs of stands)
      before start feed seen reader refl few (subst (λ (n : ℕ). ReadsTo (Some stop) sessions [] nobody n start feed reader seen) is (reads [] nobody)) 1 (λ none. let clash : Some stop ≡ None = none in cc)

  -- before the first line
  pub first_step : 0 < 2 ^ 40 → Stands xs (Some (durables g (moments xs))) → Reading start feed reader seen → Stepped Stands 0 None sessions group g xs 0 start seen m0 m0 reader feed h0 h0 old old
  first_step few stands reading =
      none_step None sessions group g xs m0 m0 h0 h0 old old [] nobody (no_call laws group g xs m0 old law None nobody h0 tt (record { told_is = refl; none = refl }) (λ e. let clash : None ≡ Some WriteFault = e in cc)) Stands stands
      0 start feed seen reader refl few reading 0 (λ none. refl)

  module _ (session : ℕ) (asks : Call) (fits : LineFits sessions session asks) (mid : Story) (reading : Reading start feed reader (seen ++ (ask session asks ++ 10 ∷ []))) where
    abbrev hand : Hand
    hand = record { session = session; call = asks }

    abbrev Failed : Type 0
    Failed = Fails g group xs session asks m0 old mid

    abbrev Never : Type 0
    Never = StandsNot g group xs m0 old

    -- the disk failed in its call, or a page of it was damaged
    pub fault_step : (stop : Stop) (m1 : Memory) → before < 2 ^ 40 → IsOfEngine stop → StopsFor stop Failed Never → Stands xs None → LineSteps Stands session asks (Some stop) sessions group g xs before start seen m0 m1 reader feed h0 h0 old mid
    fault_step stop m1 few of stops stood = record {
      step = none_step (Some stop) sessions group g xs m0 m1 h0 h0 old mid [] hand (fault_call laws group g xs m0 old law hand m1 mid h0 stop of stops) Stands (engine_stands stop (Stands xs) g xs of stood)
          before start feed seen reader refl few (line_in_hand stop sessions hand (suc before) start feed reader seen of fits reading) 1 (λ none. let clash : Some stop ≡ None = none in cc);
      asks = λ none. let clash : Some stop ≡ None = none in cc;
    }

    -- it was answered
    module _ (a : Answer) (m1 m2 : Memory) (does : Does g group xs session asks a m0 m1 old mid) (few : before + 1 < 2 ^ 40) (h1 : Held) (new : Story) (same : m2 ≡ m1) where
      script : script_of (calls_of (does.done ∷ [])) ≡ (session, asks) ∷ []
      script = line_of_one does.done session asks does.session does.asked_is

      -- and the sink failed
      pub cut_step : (stop : Stop) → stop ≡ WriteFault → Says (lines_of g xs does.done) (Some stop) h0 h1 mid new → HasTold (Some stop) (λ names. Stands (does.done ∷ xs) (Some names)) (durables g (moments (does.done ∷ xs)))
          → LineSteps Stands session asks (Some stop) sessions group g xs before start seen m0 m2 reader feed h0 h1 old new
      cut_step stop of said told =
          one_step (Some stop) sessions group g xs m0 m2 h0 h1 old new (does.done ∷ []) nobody (answer_call laws group g xs m0 old law session asks a m1 m2 mid new does (Some stop) nobody h0 h1 said same) Stands
          (putting_goes (Some stop) (Stands (does.done ∷ xs)) g (does.done ∷ xs) of told) before start feed seen reader session asks fits script few (λ none. let clash : Some stop ≡ None = none in cc)
          (reads_putting (Some stop) sessions (does.done ∷ []) nobody (suc (before + 1)) start feed reader (seen ++ (ask session asks ++ 10 ∷ [])) of reading)

      -- and then further, as far as its line goes
      pub line_step : Says (lines_of g xs does.done) None h0 h1 mid new → (stop : Option Stop) → MayRun stop → (m3 : Memory) (h2 : Held) (last : Story)
          → LineRuns Stands stop group g (does.done ∷ xs) m2 m3 h1 h2 new last → LineSteps Stands session asks stop sessions group g xs before start seen m0 m3 reader feed h0 h2 old last
      line_step said stop may m3 h2 last b =
          let x = does.done in
          let r : AnswersRun Stands stop group g (x ∷ xs) m2 m3 h1 h2 new last = b.run in
          let one = answer_call laws group g xs m0 old law session asks a m1 m2 mid new does None nobody h0 h1 said same in
          one_step stop sessions group g xs m0 m3 h0 h2 old last (r.newer ++ x ∷ []) r.hand (calls_then laws group g xs m0 m2 m3 h0 h1 h2 old new last (x ∷ []) r.newer stop nobody r.hand one r.calls) Stands
          (subst (λ (ys : List Done). EngineGoes stop (Stands ys) g ys) (sym (append_assoc r.newer (x ∷ []) xs)) r.stands) before start feed seen reader session asks fits
          (line_of_all x xs r.newer r.go_on ∙ script) few (λ none. sym (open_here x xs r.newer) ∙ b.closed none)
          (reads_running stop sessions r.newer x xs r.hand (suc (before + 1)) start feed reader (seen ++ (ask session asks ++ 10 ∷ [])) may reading r.due)

-- ## What the further answers to a line did

-- where a scan may go on, that is due
module _ (n : Next) (y : Done) (earlier : List Done) (is : n ≡ Scan) (next : IsNext n (y ∷ earlier)) where
  scans : IsScanning (y ∷ earlier)
  scans = subst (λ (m : Next). IsNext m (y ∷ earlier)) is next

  newest_is : y ≡ scans.newest
  newest_is = let e : y ∷ earlier ≡ scans.newest ∷ scans.earlier = scans.are in cc

  pub scan_due : IsDueTo y (record { session = y.outcome.session; call = asked y.outcome.deed })
  scan_due = subst (λ (z : Done). IsDueTo z (record { session = z.outcome.session; call = asked z.outcome.deed })) (sym newest_is) (Step refl refl scans.more scans.hindered)

  pub scan_asked : (from : ℕ) × (to : ℕ) × (asked y.outcome.deed ≡ call.Scan from to)
  scan_asked = (scans.from, scans.to, ap (λ (z : Done). asked z.outcome.deed) newest_is ∙ scans.asked_is)

module _ (laws : Laws) (group : ℕ) (g : Opening) (y : Done) (earlier : List Done) (m0 : Memory) (h0 : Held) (old : Story) (law : IsLawful old) where
  abbrev heard : List Done
  heard = y ∷ earlier

  -- none yet
  unfoldable pub none_yet : (Stands : List Done → Option (List Name) → Type 0) → Stands heard (Some (durables g (moments heard))) → AnswersRun Stands None group g heard m0 m0 h0 h0 old old
  none_yet Stands stands = record {
    newer = [];
    go_on = tt;
    hand = nobody;
    due = λ ends. absurd (true≢false ends);
    calls = no_call laws group g heard m0 old law None nobody h0 tt (record { told_is = refl; none = refl }) (λ e. let clash : None ≡ Some WriteFault = e in cc);
    stands = stands;
  }

  pub first_answer : (Stands : List Done → Option (List Name) → Type 0) → Stands heard (Some (durables g (moments heard))) → (session : ℕ) (a : Answer) → IsNewest session a heard → AnsweredTo Stands session a group g heard m0 m0 h0 h0 old old
  unfolding none_yet
  first_answer Stands stands session a newest = record { run = none_yet Stands stands; newest = newest }

  -- none follows, where the newest was the last
  pub none_follows : (Stands : List Done → Option (List Name) → Type 0) → Stands heard (Some (durables g (moments heard))) → is_last (answered y.outcome.deed) ≡ true → LineRuns Stands None group g heard m0 m0 h0 h0 old old
  unfolding none_yet
  none_follows Stands stands last = record { run = none_yet Stands stands; closed = λ none. closed_one y earlier last }

  -- what is due was asked
  module _ (Stands : List Done → Option (List Name) → Type 0) (hand : Hand) (due : IsDueTo y hand) (mid : Story) where
    pub unfinished : IsDueTo y hand → is_last (answered y.outcome.deed) ≡ false
    unfinished (Abort session hindered) = hindered_open y.outcome.deed hand.call hindered
    unfinished (Step session asks more none) = more

    -- the disk failed in it, or a page of it was damaged
    pub further_fault : (stop : Stop) (m1 : Memory) → IsOfEngine stop → StopsFor stop (Fails g group heard hand.session hand.call m0 old mid) (StandsNot g group heard m0 old) → Stands heard None → AnswersRun Stands (Some stop) group g heard m0 m1 h0 h0 old mid
    further_fault stop m1 of stops stood = record {
      newer = [];
      go_on = tt;
      hand = hand;
      due = λ ends. due;
      calls = fault_call laws group g heard m0 old law hand m1 mid h0 stop of stops;
      stands = engine_stands stop (Stands heard) g heard of stood;
    }

    -- it was answered
    unfoldable pub further_answer : (own : ℕ) (a : Answer) (m1 m2 : Memory) (does : Does g group heard own hand.call a m0 m1 old mid) (h1 : Held) (new : Story) → m2 ≡ m1 → (stop : Option Stop) → IsOfPutting stop → Says (lines_of g heard does.done) stop h0 h1 mid new
        → HasTold stop (λ names. Stands (does.done ∷ heard) (Some names)) (durables g (moments (does.done ∷ heard))) → AnswersRun Stands stop group g heard m0 m2 h0 h1 old new
    further_answer own a m1 m2 does h1 new same stop of said told = record {
      newer = does.done ∷ [];
      go_on = (tt, open_one y earlier (unfinished due));
      hand = hand;
      due = λ ends. absurd (true≢false (sym (putting_works stop of) ∙ ends));
      calls = answer_call laws group g heard m0 old law own hand.call a m1 m2 mid new does stop hand h0 h1 said same;
      stands = putting_goes stop (Stands (does.done ∷ heard)) g (does.done ∷ heard) of told;
    }

    -- and a further one may follow
    pub answered_to : (own : ℕ) (a : Answer) (m1 m2 : Memory) (does : Does g group heard own hand.call a m0 m1 old mid) (h1 : Held) (new : Story) → m2 ≡ m1 → Says (lines_of g heard does.done) None h0 h1 mid new
        → Stands (does.done ∷ heard) (Some (durables g (moments (does.done ∷ heard)))) → (session : ℕ) → does.done.outcome.session ≡ session → AnsweredTo Stands session a group g heard m0 m2 h0 h1 old new
    unfolding further_answer
    answered_to own a m1 m2 does h1 new same said told session is = record { run = further_answer own a m1 m2 does h1 new same None tt said told; newest = (is, does.answer_is) }

    -- and it was the last
    pub last_answer : (own : ℕ) (a : Answer) (m1 m2 : Memory) (does : Does g group heard own hand.call a m0 m1 old mid) (h1 : Held) (new : Story) → m2 ≡ m1 → is_last a ≡ true → (stop : Option Stop) → IsOfPutting stop → Says (lines_of g heard does.done) stop h0 h1 mid new
        → HasTold stop (λ names. Stands (does.done ∷ heard) (Some names)) (durables g (moments (does.done ∷ heard))) → LineRuns Stands stop group g heard m0 m2 h0 h1 old new
    unfolding further_answer
    last_answer own a m1 m2 does h1 new same last stop of said told = record { run = further_answer own a m1 m2 does h1 new same stop of said told; closed = λ none. closed_one does.done heard (ap is_last does.answer_is ∙ last) }

-- ## Further answers behind further ones

pub go_on_then : (zs ys xs : List Done) → GoOn zs (ys ++ xs) → GoOn ys xs → GoOn (zs ++ ys) xs
go_on_then [] ys xs second first = first
go_on_then (z ∷ zs) ys xs second first = (go_on_then zs ys xs second.0 first, ap (λ (ws : List Done). is_open_line (calls_of ws)) (append_assoc zs ys xs) ∙ second.1)

module _ (laws : Laws) (group : ℕ) (g : Opening) (xs : List Done) (m0 m1 m2 : Memory) (h0 h1 h2 : Held) (s0 s1 s2 : Story) (First Stands : List Done → Option (List Name) → Type 0) (a : AnswersRun First None group g xs m0 m1 h0 h1 s0 s1) where
  unfoldable pub answers_then : (stop : Option Stop) → AnswersRun Stands stop group g (a.newer ++ xs) m1 m2 h1 h2 s1 s2 → AnswersRun Stands stop group g xs m0 m2 h0 h2 s0 s2
  answers_then stop b = record {
    newer = b.newer ++ a.newer;
    go_on = go_on_then b.newer a.newer xs b.go_on a.go_on;
    hand = b.hand;
    due = λ ends. subst (λ (ws : List Done). IsDueBehind ws b.hand) (sym (append_assoc b.newer a.newer xs)) (b.due ends);
    calls = calls_then laws group g xs m0 m1 m2 h0 h1 h2 s0 s1 s2 a.newer b.newer stop a.hand b.hand a.calls b.calls;
    stands = subst (λ (ws : List Done). EngineGoes stop (Stands ws) g ws) (sym (append_assoc b.newer a.newer xs)) b.stands;
  }

  pub line_then : (stop : Option Stop) → LineRuns Stands stop group g (a.newer ++ xs) m1 m2 h1 h2 s1 s2 → LineRuns Stands stop group g xs m0 m2 h0 h2 s0 s2
  unfolding answers_then
  line_then stop b = record {
    run = answers_then stop b.run;
    closed = λ none. ap (λ (ws : List Done). is_open_line (calls_of ws)) (append_assoc b.run.newer a.newer xs) ∙ b.closed none;
  }

  pub answered_then : (session : ℕ) (e : Answer) → AnsweredTo Stands session e group g (a.newer ++ xs) m1 m2 h1 h2 s1 s2 → AnsweredTo Stands session e group g xs m0 m2 h0 h2 s0 s2
  unfolding answers_then
  answered_then session e b = record {
    run = answers_then None b.run;
    newest = subst (IsNewest session e) (sym (append_assoc b.run.newer a.newer xs)) b.newest;
  }

-- a line that was stopped is not done with
pub stopped_line : (Stands : List Done → Option (List Name) → Type 0) (stop : Stop) (group : ℕ) (g : Opening) (xs : List Done) (m0 m1 : Memory) (h0 h1 : Held) (old new : Story) → AnswersRun Stands (Some stop) group g xs m0 m1 h0 h1 old new → LineRuns Stands (Some stop) group g xs m0 m1 h0 h1 old new
stopped_line Stands stop group g xs m0 m1 h0 h1 old new a = record { run = a; closed = λ none. let clash : Some stop ≡ None = none in cc }
