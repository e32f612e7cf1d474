-- The lines were executed one by one, as those of a script that a source tells.
use Rattle.std.proofs.Common.{◌≡◌, ◌+◌, ◌++◌, [], ◌∷◌, ℕ, true, false, List, Option, Some, None, length, refl, sym, ap, ◌∙◌, subst, arith, true≢false}
use Rattle.std.proofs.lemmas.List.{append-nil, length-append}
use mathlib.Core.List.{append_assoc}
use Rattle.call_parts.specs.core_state.Events.{Event}
use Rattle.call_parts.specs.core_state.Openings.{Opening}
use Rattle.call_parts.specs.core_calls.Durables.{durables, moments}
use Rattle.call_parts.specs.core_calls.Fronts.{Done}
use Rattle.call_parts.specs.Memory.{Memory}
use Rattle.lean_disk.specs.Story.{IsLawful, Story}
use Rattle.map_model.specs.declared.call.Answered.{Answered}
use Rattle.map_model.specs.declared.call.Call.{Call}
use Rattle.map_model.specs.declared.call.Call.TheVariants as call
use Rattle.map_model.specs.Journals.{Name}
use Rattle.map_model.specs.Pairings.{is_open_line, script_of}
use Rattle.script_lang.specs.Reading.{Reading}
use Rattle.script_lang.specs.Text.{script_lines}
use Rattle.script_run.specs.Inside.{Laws, LineSteps, Stepped}
use Rattle.script_run.specs.Runs.{Standing, calls_of}
use Rattle.script_run.specs.declared.stop.Stop.{Stop}
use Rattle.script_run.proofs.StepLemmas.{first_step}
use Rattle.script_run.proofs.ThenLemmas.{calls_append, one_more, script_more}
use Rattle.transcripts.specs.Told.{ask, asked_text}
use Rattle.workload_run.specs.Counts.{goes_on_in}
use Rattle.workload_run.specs.Inside.{Both, Goes, IsTally}
use Rattle.workload_run.specs.Makes.{feed_of, quiet, reader_of}
use Rattle.workload_run.specs.Plans.{EachFollows, Follows}
use Rattle.workload_run.specs.declared.tally.Tally.{Tally}
use Rattle.workload_run.proofs.FollowLemmas.{line_follows, none_asked}
use Rattle.workload_run.proofs.PlanLemmas.{GoesFrom}

-- ## Reading

-- nothing was handed out yet,
none_read : (all : List ℕ) → Reading (feed_of all) (feed_of all) (reader_of false) []
none_read all = record { same = refl; taken = []; took = λ tells. refl; exact = λ going. refl; lines = refl; end = λ ended. absurd (true≢false (sym ended)) }

-- and then these bytes
reads_on : (all more rest seen : List ℕ) → Reading (feed_of all) (feed_of (more ++ rest)) (reader_of false) seen → Reading (feed_of all) (feed_of rest) (reader_of false) (seen ++ more)
reads_on all more rest seen r =
    let exact : seen ≡ r.taken = sym (append-nil seen) ∙ r.exact refl in
    record {
      same = refl;
      taken = seen ++ more;
      took = λ tells. r.took tells ∙ (ap (λ (t : List ℕ). t ++ (more ++ rest)) (sym exact) ∙ sym (append_assoc seen more rest));
      exact = λ going. append-nil (seen ++ more);
      lines = ap script_lines (append-nil (seen ++ more));
      end = λ ended. absurd (true≢false (sym ended));
    }

-- at the end nothing is left
pub reads_all : (all seen : List ℕ) → Reading (feed_of all) (feed_of []) (reader_of false) seen → Reading (feed_of all) (feed_of []) (reader_of true) seen
reads_all all seen r = record {
  same = refl;
  taken = r.taken;
  took = r.took;
  exact = λ going. absurd (true≢false going);
  lines = r.lines;
  end = λ ended tells. refl;
}

line_text : (session : ℕ) (c : Call) (others : List (ℕ × Call)) → asked_text ((session, c) ∷ others) ≡ (ask session c ++ 10 ∷ []) ++ asked_text others
line_text session c others = sym (append_assoc (ask session c) (10 ∷ []) (asked_text others))

-- ## Lines

none_left : (xs : List (ℕ × Call)) → length xs ≡ 0 → xs ≡ []
none_left [] e = refl
none_left (x ∷ xs) e = absurd (omega (arith, e))

module _ (laws : Laws) (sessions group : ℕ) (g : Opening) (m0 : Memory) (s0 : Story) where
  -- none yet
  pub none_yet : IsLawful s0 → (Stands : List Done → Option (List Name) → Type 0) → Stands [] (Some (durables g (moments []))) → (others : List (ℕ × Call)) → Goes Stands [] others None sessions group g m0 m0 s0 s0
  none_yet law Stands stands others =
      let step = first_step laws sessions group g [] 0 1 refl (feed_of (asked_text others)) (feed_of (asked_text others)) [] (reader_of false) m0 quiet s0 law Stands (omega arith) stands (none_read (asked_text others)) in
      let size : length (script_of (calls_of step.run.newer)) ≡ 0 = step.count_is refl in
      record { step = step; asks = λ none. none_left (script_of (calls_of step.run.newer)) size; follows = λ none. none_asked (calls_of step.run.newer) size }

  -- one more
  module _ (First : List Done → List Name → Type 0) (t : Tally) (events : List Event) (m1 : Memory) (s1 : Story) (done : List (ℕ × Call)) (so_far : (others : List (ℕ × Call)) → Goes (Standing (Both First t) events) done others None sessions group g m0 m1 s0 s1)
      (session : ℕ) (c : Call) (on : Option ℕ) (goes : GoesFrom on c) (is_on : t.on ≡ on) (stop : Option Stop) (Stands : List Done → Option (List Name) → Type 0) (m2 : Memory) (s2 : Story)
      (next : (ys : List Done) (all rest seen : List ℕ) → Both First t ys (durables g (moments ys)) → Reading (feed_of all) (feed_of rest) (reader_of false) (seen ++ (ask session c ++ 10 ∷ []))
      → LineSteps Stands session c stop sessions group g ys (length done) (feed_of all) seen m1 m2 (reader_of false) (feed_of rest) quiet quiet s1 s2) where
    abbrev more : List (ℕ × Call)
    more = done ++ (session, c) ∷ []

    follows_on : (xs : List Answered) → goes_on_in xs ≡ on → Follows xs c
    follows_on xs is = go c goes
      where
        go : (d : Call) → GoesFrom on d → Follows xs d
        go (call.Scan from to) from_is = is ∙ from_is
        go _ from_is = tt

    pub one_on : (others : List (ℕ × Call)) → Goes Stands more others stop sessions group g m0 m2 s0 s2
    one_on others =
        let a = so_far ((session, c) ∷ others) in
        let all = asked_text (done ++ (session, c) ∷ others) in
        let b = one_more laws sessions group g [] (feed_of all) (feed_of (asked_text ((session, c) ∷ others))) (feed_of (asked_text others)) [] m0 m1 m2 (reader_of false) (reader_of false) quiet quiet quiet s0 s1 s2 stop (length done) (Standing (Both First t) events) Stands a.step session c
        (λ ys seen stands reads. next ys all (asked_text others) seen stands (reads_on all (ask session c ++ 10 ∷ []) (asked_text others) seen
        (subst (λ (left : List ℕ). Reading (feed_of all) (feed_of left) (reader_of false) seen) (line_text session c others) reads))) in
        let whole : all ≡ asked_text (more ++ others) = ap asked_text (sym (append_assoc done ((session, c) ∷ []) others)) in
        let long : 1 + length done ≡ length more = (let n : length more ≡ length done + 1 = length-append done ((session, c) ∷ []) in omega (arith, n)) in
        let closed : is_open_line (calls_of a.step.run.newer) ≡ false = a.step.closed refl in
        let firsts : script_of (calls_of a.step.run.newer) ≡ done = a.asks refl in
        let counted : IsTally t (calls_of (a.step.run.newer ++ [])) = a.step.stands.1 in
        let here : goes_on_in (calls_of a.step.run.newer) ≡ on = ap (λ (ys : List Done). goes_on_in (calls_of ys)) (sym (append-nil a.step.run.newer)) ∙ (sym counted.on ∙ is_on) in
        let P : ℕ → List ℕ → Type 0 = λ n start. (st : Stepped Stands n stop sessions group g [] 0 (feed_of start) [] m0 m2 (reader_of false) (feed_of (asked_text others)) quiet quiet s0 s2)
        × (stop ≡ None → script_of (calls_of st.run.newer) ≡ more) × (stop ≡ None → EachFollows (calls_of st.run.newer)) in
        let got : P (1 + length done) all = (
          b.all,
          λ none. ap (λ (ys : List Done). script_of (calls_of ys)) b.are ∙ (script_more b.news a.step.run.newer closed ∙ (ap (λ (ls : List (ℕ × Call)). ls ++ script_of (calls_of b.news)) firsts ∙ ap (λ (ls : List (ℕ × Call)). done ++ ls) (b.asks none))),
          λ none. subst EachFollows (sym (ap calls_of b.are ∙ calls_append b.news a.step.run.newer)) (line_follows (calls_of a.step.run.newer) session c (follows_on (calls_of a.step.run.newer) here) (a.follows refl) (calls_of b.news) (b.asks none)),
        ) in
        let last = subst (λ (n : ℕ). P n (asked_text (more ++ others))) long (subst (P (1 + length done)) whole got) in
        record { step = last.0; asks = last.1; follows = last.2 }
