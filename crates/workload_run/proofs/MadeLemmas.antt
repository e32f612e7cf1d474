-- All lines were executed, or it stopped.
use Rattle.std.proofs.Common.{◌≡◌, ◌⊎◌, ◌<◌, ◌≤◌, ◌+◌, ◌-◌, ◌*◌, ◌^◌, ◌++◌, [], ◌∷◌, ℕ, Bool, true, false, List, Option, Some, None, Ok, Err, length, refl, sym, ap, ◌∙◌, subst, arith}
use Rattle.std.proofs.lemmas.List.{append-nil}
use Rattle.call_parts.specs.core_state.Events.{Event}
use Rattle.call_parts.specs.core_state.Openings.{Opening}
use Rattle.call_parts.specs.core_calls.Fronts.{Done}
use Rattle.call_parts.specs.core_calls.LineCounts.{EveryLineCount}
use Rattle.call_parts.specs.Memory.{Memory}
use Rattle.lean_disk.specs.Story.{Story}
use Rattle.lean_edge.specs.Outside.{Feed, Held}
use Rattle.map_model.specs.declared.call.Answered.{Answered}
use Rattle.map_model.specs.declared.call.Call.{Call}
use Rattle.map_model.specs.Journals.{Name}
use Rattle.map_model.specs.Pairings.{script_of}
use Rattle.script_lang.specs.Reading.{Reading, Unread, AtEnd}
use Rattle.script_run.specs.Inside.{IsOfEngine}
use Rattle.script_run.specs.Runs.{EngineStands, ScriptRuns, Standing, calls_of}
use Rattle.script_run.specs.declared.stop.Stop.{Stop}
use Rattle.script_run.specs.declared.stop.Stop.TheVariants.{Damaged, DiskFault, End, WriteFault}
use Rattle.script_run.proofs.FewLemmas.{few_outcomes}
use Rattle.transcripts.specs.Told.{asked_text, text_of}
use Rattle.workload_run.specs.Counts.{goes_on_in, pairs_in, sum_in}
use Rattle.workload_run.specs.Inside.{Both, Goes, IsTally, MadeRuns}
use Rattle.workload_run.specs.Makes.{IsCount, MakeRuns, feed_of, held_of, quiet, reader_of}
use Rattle.workload_run.specs.Plans.{IsEnd, IsMade}
use Rattle.workload_run.specs.declared.run.Made.{Made}
use Rattle.workload_run.specs.declared.tally.Tally.{Tally}
use Rattle.workload_run.proofs.GoLemmas.{reads_all}
use Rattle.workload_run.proofs.TallyLemmas.{pairs_few, refused_few}

-- ## The end

-- a run that goes on has come to the end of its script, where the reader has
module _ (sessions group : ℕ) (g : Opening) (xs : List Done) (before : ℕ) (start feed : Feed) (seen : List ℕ) (m0 m1 : Memory) (reader last : Unread) (h0 h1 : Held) (old new : Story)
    (r : ScriptRuns None sessions group g xs before start seen m0 m1 reader feed h0 h1 old new) where
  unfoldable ended : ((bytes : List ℕ) → Reading start feed reader bytes → Reading start feed last bytes) → AtEnd last → ScriptRuns (Some End) sessions group g xs before start seen m0 m1 last feed h0 h1 old new
  ended reads at_end = record {
    newer = r.newer;
    fits = r.fits;
    few = r.few;
    memory = r.memory;
    executes = r.executes;
    memory_is = r.memory_is;
    hand = r.hand;
    reads = (reads _ r.reads, at_end);
    replies = r.replies;
    lines = r.lines;
    told = r.told;
    tail = r.tail;
    reply_fits = r.reply_fits;
    prints = r.prints;
    cut = λ e. let clash : Some End ≡ Some WriteFault = e in cc;
    holds = r.holds;
    others = r.others;
    disk = r.disk;
  }

module _ (number count sessions group : ℕ) (g : Opening) (m0 m1 : Memory) (s0 s1 : Story) (Stands : List Done → List Name → Type 0) (t : Tally) (events : List Event) (done : List (ℕ × Call)) where
  -- all were executed
  pub all_ran : IsMade number count sessions (done ++ []) → Goes (Standing (Both Stands t) events) done [] None sessions group g m0 m1 s0 s1 → IsEnd t.on ⊎ (length done ≡ 2 ^ 40 - 1) → MadeRuns number count None (Standing (Both Stands t) events) sessions group g m0 m1 s0 s1
  unfolding ended
  all_ran made a over =
      let r = a.step.run in
      let nil : done ++ [] ≡ done = append-nil done in
      let counted : IsTally t (calls_of (r.newer ++ [])) = a.step.stands.1 in
      let here : t.on ≡ goes_on_in (calls_of r.newer) = counted.on ∙ ap (λ (ys : List Done). goes_on_in (calls_of ys)) (append-nil r.newer) in
      record {
        script = done ++ [];
        is = made;
        left = [];
        ended = true;
        ran = ended sessions group g [] 0 (feed_of (asked_text (done ++ []))) (feed_of []) [] m0 m1 (reader_of false) (reader_of true) quiet quiet s0 s1 r
            (λ bytes reads. reads_all (asked_text (done ++ [])) bytes reads) (record { ended = refl; none = refl });
        stands = a.step.stands;
        walked = λ none. record {
          all = a.asks refl ∙ sym nil;
          follows = a.follows refl;
          over = subst (λ (ds : List (ℕ × Call)). IsEnd (goes_on_in (calls_of r.newer)) ⊎ (length ds ≡ 2 ^ 40 - 1)) (sym nil) (subst (λ (o : Option ℕ). IsEnd o ⊎ (length done ≡ 2 ^ 40 - 1)) here over);
        };
      }

-- it stopped in a line
pub stopped_in : (number count sessions group : ℕ) (g : Opening) (m0 m1 : Memory) (s0 s1 : Story) (Stands : List Done → Option (List Name) → Type 0) (done others : List (ℕ × Call)) (stop : Stop)
    → IsMade number count sessions (done ++ others) → Goes Stands done others (Some stop) sessions group g m0 m1 s0 s1 → MadeRuns number count (Some stop) Stands sessions group g m0 m1 s0 s1
stopped_in number count sessions group g m0 m1 s0 s1 Stands done others stop made a = record {
  script = done ++ others;
  is = made;
  left = asked_text others;
  ended = false;
  ran = a.step.run;
  stands = a.step.stands;
  walked = λ none. let clash : Some stop ≡ None = none in cc;
}

-- ## The counts

answers_are : (xs : List Done) → length (calls_of xs) ≡ length xs
answers_are [] = refl
answers_are (x ∷ xs) = let h = answers_are xs in omega (arith, h)

-- each fits its type
counted : (made : Made) (t : Tally) (xs : List Answered) → length xs < 2 ^ 47 → made.refused ≡ t.refused → made.pairs ≡ t.pairs → made.sum ≡ t.sum → IsTally t xs → IsCount made xs
counted made t xs few refused pairs sum is =
    let r = refused_few xs in
    let p = pairs_few xs in
    let low : sum_in xs ≤ pairs_in xs * 2 ^ 64 = is.low in
    record {
      refused = refused ∙ is.refused (omega (arith, few, r));
      pairs = pairs ∙ is.pairs (omega (arith, few, p));
      sum = sum ∙ is.sum (omega (arith, few, p, low));
    }

module _ (every : EveryLineCount) (number count sessions group : ℕ) (g : Opening) (m0 m1 : Memory) (s0 s1 : Story) (Stands : List Done → List Name → Type 0) (t : Tally) (events : List Event) where
  -- what a sink that tells would hold
  module _ (stop : Stop) (script : List (ℕ × Call)) (left : List ℕ) (is_ended : Bool) (r : ScriptRuns (Some stop) sessions group g [] 0 (feed_of (asked_text script)) [] m0 m1 (reader_of is_ended) (feed_of left) quiet quiet s0 s1) where
    abbrev output : List ℕ
    output = text_of r.told ++ r.tail

    unfoldable telling : ScriptRuns (Some stop) sessions group g [] 0 (feed_of (asked_text script)) [] m0 m1 (reader_of is_ended) (feed_of left) (held_of []) (held_of output) s0 s1
    telling = record {
      newer = r.newer;
      fits = r.fits;
      few = r.few;
      memory = r.memory;
      executes = r.executes;
      memory_is = r.memory_is;
      hand = r.hand;
      reads = r.reads;
      replies = r.replies;
      lines = r.lines;
      told = r.told;
      tail = r.tail;
      reply_fits = r.reply_fits;
      prints = r.prints;
      cut = r.cut;
      holds = record { same = refl; bytes = λ tells. refl };
      others = r.others;
      disk = r.disk;
    }

    few_answers : length (calls_of r.newer) < 2 ^ 47
    few_answers =
        let outcomes = few_outcomes every group g m0 r.newer r.memory r.executes in
        let few : 0 + length (script_of (calls_of r.newer)) < 2 ^ 40 = r.few in
        let same = answers_are r.newer in
        omega (arith, outcomes, few, same)

  pub stopped_made : (stop : Stop) → IsOfEngine stop → MadeRuns number count (Some stop) (Standing (Both Stands t) events) sessions group g m0 m1 s0 s1 → MakeRuns number count (Err stop) (Standing Stands events) sessions group g m0 m1 s0 s1
  unfolding telling
  stopped_made stop of a = record {
    script = a.script;
    is = a.is;
    left = a.left;
    ended = a.ended;
    output = output stop a.script a.left a.ended a.ran;
    ran = telling stop a.script a.left a.ended a.ran;
    stands = go stop of (a.ran.newer ++ []) a.stands;
    walked = λ none. let clash : Some stop ≡ None = none in cc;
    counts = tt;
  }
    where
      go : (stop : Stop) → IsOfEngine stop → (calls : List Done) → EngineStands stop (Standing (Both Stands t) events calls) g calls → EngineStands stop (Standing Stands events calls) g calls
      go DiskFault of calls stands = stands
      go (Damaged place) of calls stands = stands
      go _ of calls stands = absurd of

  pub all_made : (made : Made) → made.refused ≡ t.refused → made.pairs ≡ t.pairs → made.sum ≡ t.sum → MadeRuns number count None (Standing (Both Stands t) events) sessions group g m0 m1 s0 s1 → MakeRuns number count (Ok made) (Standing Stands events) sessions group g m0 m1 s0 s1
  unfolding telling
  all_made made refused pairs sum a = record {
    script = a.script;
    is = a.is;
    left = a.left;
    ended = a.ended;
    output = output End a.script a.left a.ended a.ran;
    ran = telling End a.script a.left a.ended a.ran;
    stands = a.stands.0;
    walked = λ none. a.walked refl;
    counts = counted made t (calls_of a.ran.newer) (few_answers End a.script a.left a.ended a.ran) refused pairs sum
        (subst (λ (ys : List Done). IsTally t (calls_of ys)) (append-nil a.ran.newer) a.stands.1);
  }
