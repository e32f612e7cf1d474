-- A run of lines, and a run more.
use Rattle.std.proofs.Common.{◌≡◌, ◌++◌, ◌∷◌, [], ◌<◌, ◌+◌, ◌^◌, ℕ, suc, false, List, Option, None, length, refl, sym, ap, ◌∙◌, subst, arith}
use Rattle.std.proofs.lemmas.List.{length-append}
use mathlib.Core.List.{append_assoc}
use Rattle.lean_edge.specs.Outside.{Feed, Held}
use Rattle.lean_disk.specs.Moments.{LeavesOnly}
use Rattle.lean_disk.specs.Story.{Crash, Story}
use Rattle.map_model.specs.declared.call.Call.{Call}
use Rattle.map_model.specs.declared.call.Answered.{Answered}
use Rattle.map_model.specs.Journals.{Name}
use Rattle.map_model.specs.Pairings.{is_open_line, script_of}
use Rattle.call_parts.specs.core_state.Openings.{Opening}
use Rattle.call_parts.specs.core_calls.Deeds.{in_words}
use Rattle.call_parts.specs.core_calls.Fronts.{Done, front}
use Rattle.call_parts.specs.core_calls.Crashes.{EveryRunCrash}
use Rattle.call_parts.specs.core_disk.Shows.{EveryShown}
use Rattle.call_parts.specs.disk_image.Laws.{EveryAgreement}
use Rattle.call_parts.specs.disk_slots.declared.master.Master.{Master}
use Rattle.call_parts.specs.disk_runs.Stands.{Known}
use Rattle.call_parts.proofs.disk_runs.LineLemmas.{every_master_line}
use Rattle.call_parts.specs.run_crashes.Lines.{NoneStopped}
use Rattle.call_parts.specs.engine_calls.Runs as runs
use Rattle.call_parts.specs.engine_trait.Limits.{limits}
use Rattle.call_parts.specs.Memory.{IsOf, Memory}
use Rattle.script_lang.specs.Reading.{Unread, Reading}
use Rattle.transcripts.specs.Told.{asked_text, EachLineFits}
use Rattle.transcripts.proofs.TranscriptLemmas.{script_append}
use Rattle.script_run.specs.Runs.{DiskTo, ScriptRuns, StaysAside, calls_of}
use Rattle.script_run.specs.Inside.{CallsRun, EngineGoes, Laws, LineSteps, Stepped}
use Rattle.script_run.specs.declared.stop.Stop.{Stop}
use Rattle.script_run.proofs.CallLemmas.{calls_then}
use Rattle.script_run.proofs.DiskLemmas.{disk_later}
use Rattle.script_run.proofs.StepLemmas.{script_run}
use Rattle.script_run.proofs.StopLemmas.{reads_more, seen_more}

pub calls_append : (newer xs : List Done) → calls_of (newer ++ xs) ≡ calls_of newer ++ calls_of xs
calls_append [] xs = refl
calls_append (x ∷ newer) xs = ap (λ (ys : List Answered). in_words x.outcome ∷ ys) (calls_append newer xs)

line_append : (sessions : ℕ) (xs ys : List (ℕ × Call)) → EachLineFits sessions xs → EachLineFits sessions ys → EachLineFits sessions (xs ++ ys)
line_append sessions [] ys h k = k
line_append sessions (x ∷ xs) ys h k = (h.0, line_append sessions xs ys h.1 k)

-- the lines of calls behind closed ones
pub script_more : (newer xs : List Done) → is_open_line (calls_of xs) ≡ false → script_of (calls_of (newer ++ xs)) ≡ script_of (calls_of xs) ++ script_of (calls_of newer)
script_more newer xs closed = ap script_of (calls_append newer xs) ∙ script_append (calls_of newer) (calls_of xs) closed

pub closed_more : (newer xs : List Done) → is_open_line (calls_of newer) ≡ false → is_open_line (calls_of xs) ≡ false → is_open_line (calls_of (newer ++ xs)) ≡ false
closed_more [] xs newest closed = closed
closed_more (x ∷ newer) xs newest closed = newest

-- what a run of lines did
pub of_run : (stop : Option Stop) (sessions group : ℕ) (g : Opening) (xs : List Done) (before : ℕ) (start feed : Feed) (seen : List ℕ) (m0 m1 : Memory) (reader : Unread) (h0 h1 : Held) (old new : Story)
    → (a : ScriptRuns stop sessions group g xs before start seen m0 m1 reader feed h0 h1 old new) → CallsRun a.newer stop a.hand group g xs m0 m1 h0 h1 old new
of_run stop sessions group g xs before start feed seen m0 m1 reader h0 h1 old new a = record {
  memory = a.memory;
  executes = a.executes;
  memory_is = a.memory_is;
  replies = a.replies;
  lines = a.lines;
  told = a.told;
  tail = a.tail;
  reply_fits = a.reply_fits;
  prints = a.prints;
  cut = a.cut;
  holds = a.holds;
  others = a.others;
  disk = a.disk;
}

-- From one run to the next: what the run so far leaves is what the next one begins with.
module _ (laws : Laws) (sessions group : ℕ) (g : Opening) (xs : List Done) (start f0 f1 : Feed) (seen : List ℕ) (m0 m1 m2 : Memory) (r0 r1 : Unread) (h0 h1 h2 : Held) (s0 s1 s2 : Story) (stop : Option Stop) (so_far : ℕ) (First Stands : List Done → Option (List Name) → Type 0)
    (a : Stepped First so_far None sessions group g xs 0 start seen m0 m1 r0 f0 h0 h1 s0 s1) where
  abbrev firsts : List (ℕ × Call)
  firsts = script_of (calls_of a.run.newer)

  long : length firsts ≡ so_far
  long = a.count_is refl

  module _ (count : ℕ) (b : Stepped Stands count stop sessions group g (a.run.newer ++ xs) so_far start (seen ++ asked_text firsts) m1 m2 r1 f1 h1 h2 s1 s2) where
    abbrev seconds : List (ℕ × Call)
    seconds = script_of (calls_of b.run.newer)

    abbrev alls : List (ℕ × Call)
    alls = script_of (calls_of (b.run.newer ++ a.run.newer))

    both : alls ≡ firsts ++ seconds
    both = script_more b.run.newer a.run.newer (a.closed refl)

    size : length alls ≡ length firsts + length seconds
    size = ap length both ∙ length-append firsts seconds

    bytes : (seen ++ asked_text firsts) ++ asked_text seconds ≡ seen ++ asked_text alls
    bytes = seen_more seen (calls_of a.run.newer) (calls_of b.run.newer) (a.closed refl) ∙ ap (λ (ys : List Answered). seen ++ asked_text (script_of ys)) (sym (calls_append b.run.newer a.run.newer))

    number : suc (so_far + length seconds) ≡ suc (0 + length alls)
    number = let l : length alls ≡ length firsts + length seconds = size in let m : length firsts ≡ so_far = long in omega arith

    calls : CallsRun (b.run.newer ++ a.run.newer) stop b.run.hand group g xs m0 m2 h0 h2 s0 s2
    calls = calls_then laws group g xs m0 m1 m2 h0 h1 h2 s0 s1 s2 a.run.newer b.run.newer stop a.run.hand b.run.hand
        (of_run None sessions group g xs 0 start f0 seen m0 m1 r0 h0 h1 s0 s1 a.run) (of_run stop sessions group g (a.run.newer ++ xs) so_far start f1 (seen ++ asked_text firsts) m1 m2 r1 h1 h2 s1 s2 b.run)

    both_stepped : Stepped Stands (count + so_far) stop sessions group g xs 0 start seen m0 m2 r1 f1 h0 h2 s0 s2
    unfolding script_run
    both_stepped =
        let l : length alls ≡ length firsts + length seconds = size in
        let m : length firsts ≡ so_far = long in
        let few : so_far + length seconds < 2 ^ 40 = b.run.few in
        record {
          run = script_run stop sessions group g xs m0 m2 h0 h2 s0 s2 (b.run.newer ++ a.run.newer) b.run.hand calls 0 start f1 seen r1
              (subst (EachLineFits sessions) (sym both) (line_append sessions firsts seconds a.run.fits b.run.fits)) (omega arith)
              (reads_more stop sessions b.run.newer a.run.newer b.run.hand (suc (so_far + length seconds)) (suc (0 + length alls)) start f1 r1 ((seen ++ asked_text firsts) ++ asked_text seconds) (seen ++ asked_text alls) number bytes b.run.reads);
          stands = subst (λ (ys : List Done). EngineGoes stop (Stands ys) g ys) (sym (append_assoc b.run.newer a.run.newer xs)) b.stands;
          count_is = λ none. let n : length seconds ≡ count = b.count_is none in omega arith;
          closed = λ none. closed_more b.run.newer a.run.newer (b.closed none) (a.closed refl);
        }

  pub stepped_then : (count : ℕ)
      → ((ys : List Done) (seen : List ℕ) → EngineGoes None (First ys) g ys → Reading start f0 r0 seen → Stepped Stands count stop sessions group g ys so_far start seen m1 m2 r1 f1 h1 h2 s1 s2)
      → Stepped Stands (count + so_far) stop sessions group g xs 0 start seen m0 m2 r1 f1 h0 h2 s0 s2
  stepped_then count next = both_stepped count (next (a.run.newer ++ xs) (seen ++ asked_text firsts) a.stands a.run.reads)

  -- behind it one line
  pub record OneMore (session : ℕ) (call : Call) : Type 0 where
    pub all : Stepped Stands (1 + so_far) stop sessions group g xs 0 start seen m0 m2 r1 f1 h0 h2 s0 s2
    pub news : List Done
    pub are : all.run.newer ≡ news ++ a.run.newer
    pub asks : stop ≡ None → script_of (calls_of news) ≡ (session, call) ∷ []

  pub one_more : (session : ℕ) (call : Call)
      → ((ys : List Done) (seen : List ℕ) → EngineGoes None (First ys) g ys → Reading start f0 r0 seen → LineSteps Stands session call stop sessions group g ys so_far start seen m1 m2 r1 f1 h1 h2 s1 s2)
      → OneMore session call
  unfolding both_stepped script_run
  one_more session call next =
      let b : LineSteps Stands session call stop sessions group g (a.run.newer ++ xs) so_far start (seen ++ asked_text firsts) m1 m2 r1 f1 h1 h2 s1 s2 = next (a.run.newer ++ xs) (seen ++ asked_text firsts) a.stands a.run.reads in
      record { all = both_stepped 1 b.step; news = b.step.run.newer; are = refl; asks = b.asks }

-- for equal sizes
pub same_sizes : (Stands : List Done → Option (List Name) → Type 0) (count : ℕ) (stop : Option Stop) (n p m q : ℕ) (g : Opening) (xs : List Done) (before : ℕ) (start feed : Feed) (seen : List ℕ) (m0 m1 : Memory) (reader : Unread) (h0 h1 : Held) (old new : Story)
    → n ≡ p → m ≡ q → Stepped Stands count stop n m g xs before start seen m0 m1 reader feed h0 h1 old new → Stepped Stands count stop p q g xs before start seen m0 m1 reader feed h0 h1 old new
same_sizes Stands count stop n p m q g xs before start feed seen m0 m1 reader h0 h1 old new sessions group s =
    subst (λ (k : ℕ). Stepped Stands count stop p k g xs before start seen m0 m1 reader feed h0 h1 old new) group (subst (λ (k : ℕ). Stepped Stands count stop k m g xs before start seen m0 m1 reader feed h0 h1 old new) sessions s)

-- ## For callers

module _ (stop : Option Stop) (sessions group : ℕ) (g : Opening) (xs : List Done) (before : ℕ) (start feed : Feed) (seen : List ℕ) (m0 m1 : Memory) (reader : Unread) (h0 h1 : Held) (old new : Story)
    (a : ScriptRuns stop sessions group g xs before start seen m0 m1 reader feed h0 h1 old new) where
  -- a run that began at an earlier story
  pub disk_from : EveryShown → EveryRunCrash → EveryAgreement → (s0 : Crash) (m : Master) (k : Known) (from : Story) → runs.Runs limits g group NoneStopped xs s0 m k from old → IsOf g m0 k → old.notes + length a.told < 2 ^ 64
      → LeavesOnly old new (StaysAside g.workers (length a.told) old) × DiskTo stop a.hand g group (a.newer ++ xs) (front a.newer) s0 m k from new a.memory
  disk_from shown crashes agrees s0 m k from run memory_is room =
      let d = a.disk s0 m k run.between run.of_run memory_is room in (
        d.0,
        disk_later shown crashes agrees g group s0 m xs from old new run.any_moment a.newer [] (front a.newer) k k ((every_master_line k.master k.master k.master).same []) a.memory stop a.hand d.1,
      )

pub not_below_itself : (n : ℕ) → n < n → ⊥
not_below_itself n h = omega arith
