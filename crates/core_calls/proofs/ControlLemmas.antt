-- Wrong outcomes are refused.
use Rattle.std.proofs.Common.{◌≡◌, ◌⊎◌, ◌≤◌, ◌<◌, ℕ, suc, Bool, true, false, cond, ◌==◌, List, [], ◌∷◌, ◌++◌, map, Option, Some, None, refl, sym, ap, ap₂, ◌∙◌, subst, inl, inr, arith, true≢false}
use Rattle.core_crash.proofs.Journal.{commit_is_end}
use Rattle.std.proofs.lemmas.Bool.{eq-eqb, cond-true}
use Rattle.map_model.specs.Lists.{Has}
use Rattle.map_model.specs.Maps.{Map, MapCall, MapAnswer}
use Rattle.map_model.specs.Histories.{Step, first_of, write_or, last_write}
use Rattle.map_model.specs.Journals.{Name, Txn, Journal, journal_of, after, Gives, Serial}
use Rattle.map_model.specs.Transcripts.{Line, lines_in, steps_of, told, txn_of, journal, is_bound}
use Rattle.core_crash.specs.image_model.Entries.{Entry, is_commit}
use Rattle.core_crash.specs.image_model.Ends.{name_of}
use Rattle.core_crash.specs.core_state.Openings.{Opening, first_map}
use Rattle.core_crash.specs.core_state.States.{start, flushed_by_all}
use Rattle.core_crash.specs.core_state.Events.{Event}
use Rattle.core_crash.specs.core_state.Steps.{run}
use Rattle.core_crash.proofs.Ends.{one_end}
use Rattle.map_model.proofs.ListLemmas.{has_order}
use Rattle.core_calls.specs.Marks.{Mark, Began, Called, Ended}
use Rattle.core_calls.specs.Deeds.{Deed, Begun, Got, Changed, Committed, Aborted, Outcome, marks_for, marks_by, Answers, answered, transcript}
use Rattle.core_calls.specs.Counts.{Undo, AreOrdered, EveryOrdered}
use Rattle.core_calls.specs.Told.{EveryTold}
use Rattle.core_calls.specs.Durables.{is_ripe, up_to, durables, EveryDurable}
use Rattle.core_calls.specs.Controls.{of, Controls, EveryControl}
use Rattle.core_calls.proofs.TranscriptLemmas.{lines, lines_are, line_of}
use Rattle.core_calls.proofs.DurableLemmas.{recorded_of, ripe_to}

-- the marks of a session's own outcome
mine : (w : ℕ) (d : Deed) (earlier : List Outcome) → marks_by w (of w d ∷ earlier) ≡ marks_for (of w d) ++ marks_by w earlier
mine w d earlier = cond-true (w == w) (marks_for (of w d) ++ marks_by w earlier) (marks_by w earlier) (eq-eqb w w refl)

-- the lines of a session's own outcome
own_lines : (w : ℕ) (d : Deed) (earlier : List Outcome) → is_bound (answered d) ≡ false → lines_in w (lines (of w d ∷ earlier)) ≡ line_of (Rattle.std.proofs.Common.length (lines earlier)) w d ∷ lines_in w (lines earlier)
own_lines w d earlier e =
    cond-true (w == w) (cond (is_bound (answered d)) [] (x ∷ lines_in w (lines earlier))) (lines_in w (lines earlier)) (eq-eqb w w refl)
    ∙ ap (λ (b : Bool). cond b [] (x ∷ lines_in w (lines earlier))) e
  where
    x : Line
    x = line_of (Rattle.std.proofs.Common.length (lines earlier)) w d

-- a member's answers are those of a map
gives_of : (m : Map) (j : Journal) (t : Txn) → Serial m j → Has t j → (n : Map) × Gives n t.calls
gives_of m [] t s i = absurd i
gives_of m (u ∷ j) t s (inl e) = (after m j, subst (λ (x : Txn). Gives (after m j) x.calls) (sym e) s.1)
gives_of m (u ∷ j) t s (inr i) = gives_of m j t s.0 i

abbrev value_or : MapAnswer → Option ℕ
value_or (MapAnswer.Value v) = v
value_or _ = None

abbrev got : ℕ → ℕ → Option ℕ → Step
got w k b = record { session = w; call = MapCall.Get k; answer = MapAnswer.Value b }

abbrev wrote : ℕ → ℕ → ℕ → Option ℕ → Step
wrote w k v a = record { session = w; call = MapCall.Put k v; answer = MapAnswer.Was a }

-- a get behind a put of the key
fresh : (m : Map) (w k v : ℕ) (a b : Option ℕ) (l : List Step) → Gives m (got w k b ∷ wrote w k v a ∷ l) → b ≡ Some v
fresh m w k v a b l h = ap value_or (h.1 refl) ∙ ap (λ (o : Option (Option ℕ)). write_or (first_of o (last_write l k)) (m k)) (cond-true (k == k) (Some (Some v)) None (eq-eqb k k refl))

module _ (laws : EveryTold) (durable : EveryDurable) (ordered : EveryOrdered) (g : Opening) where
  stale : g.faithful ≡ true → (es : List Event) (w n at k v : ℕ) (a b : Option ℕ) (alone : Bool) (earlier : List Outcome) →
      Answers g es (of w (Committed n at) ∷ of w (Got k b alone) ∷ of w (Changed k v a) ∷ earlier) → b ≡ Some v
  stale f es w n at k v a b alone earlier x = let q = gives_of (first_map g) (journal (transcript xs)) (txn (steps_of (lines_in w (lines behind)))) ((laws g es xs x).serial f) member in
      fresh q.0 w k v a b (steps_of (lines_in w (lines earlier))) (subst (Gives q.0) calls_are q.1)
    where
      behind : List Outcome
      behind = of w (Got k b alone) ∷ of w (Changed k v a) ∷ earlier

      xs : List Outcome
      xs = of w (Committed n at) ∷ of w (Got k b alone) ∷ of w (Changed k v a) ∷ earlier

      txn : List Step → Txn
      txn c = record { session = w; number = n; at = at; calls = c }

      calls_are : steps_of (lines_in w (lines behind)) ≡ got w k b ∷ wrote w k v a ∷ steps_of (lines_in w (lines earlier))
      calls_are = ap steps_of (own_lines w (Got k b alone) (of w (Changed k v a) ∷ earlier) refl)
          ∙ ap (λ (l : List Line). got w k b ∷ steps_of l) (own_lines w (Changed k v a) earlier refl)

      member : Has (txn (steps_of (lines_in w (lines behind)))) (journal (transcript xs))
      member = subst (λ (l : List Line). Has (txn (steps_of (lines_in w (lines behind)))) (journal_of (map txn_of (told l)))) (sym (lines_are xs))
          (has_order Rattle.map_model.specs.Journals.is_earlier (map txn_of (told (lines xs))) (txn (steps_of (lines_in w (lines behind)))) (inl refl))

  early : (ms : List (List Event)) (e : Entry) → Has e (run g (start g) (up_to ms)).entries → is_commit e.kind ≡ true → is_ripe g (run g (start g) (up_to ms)) e ≡ false → Has (name_of e) (durables g ms) → ⊥
  early ms e i k n h =
      let d = (durable g ms).told (name_of e) h in
      let same = one_end g (flushed_by_all g (run g (start g) (up_to ms))) (run g (start g) (up_to ms)).entries (recorded_of g (up_to ms)) d.0 e d.1 i
      (commit_is_end d.0.kind (ripe_to g (run g (start g) (up_to ms)) d.0 d.2).commit) (commit_is_end e.kind k) (ap (λ (m : Name). m.session) d.3, ap (λ (m : Name). m.number) d.3) in
      true≢false (sym d.2 ∙ (ap (is_ripe g (run g (start g) (up_to ms))) same ∙ n))

  pub controls : Controls g
  controls = record {
    stale_get = λ f es w n at k v a b alone earlier x q no. no (sym q ∙ stale f es w n at k v a b alone earlier x);
    early_line = early;
    lost_put_back = λ es w n m at k v a c earlier x.
        let o = subst AreOrdered (mine w (Aborted c n at []) (of w (Changed k v a) ∷ of w (Begun m) ∷ earlier)
        ∙ ap (λ (l : List Mark). Ended false n at ∷ l) (mine w (Changed k v a) (of w (Begun m) ∷ earlier)
        ∙ ap (λ (l : List Mark). Called (MapCall.Put k v) (MapAnswer.Was a) true ∷ l) (mine w (Begun m) earlier))) (ordered g es (of w (Aborted c n at []) ∷ of w (Changed k v a) ∷ of w (Begun m) ∷ earlier) x w) in
        none (o.3 refl);
    low_number = λ es w n m l at before earlier x le.
        let o = subst AreOrdered (mine w (Committed n at) (of w (Begun m) ∷ of w (Committed l before) ∷ earlier)
        ∙ ap (λ (k : List Mark). Ended true n at ∷ k) (mine w (Begun m) (of w (Committed l before) ∷ earlier)
        ∙ ap (λ (k : List Mark). Began m ∷ k) (mine w (Committed l before) earlier))) (ordered g es (of w (Committed n at) ∷ of w (Begun m) ∷ of w (Committed l before) ∷ earlier) x w) in
        let q = o.2.1 in absurd (omega arith);
    wrong_count = λ es w n m at earlier x no.
        let o = subst AreOrdered (mine w (Begun n) (of w (Committed m at) ∷ earlier)
        ∙ ap (λ (k : List Mark). Began n ∷ k) (mine w (Committed m at) earlier)) (ordered g es (of w (Begun n) ∷ of w (Committed m at) ∷ earlier) x w) in
        no (o.1 ∙ ap suc (sym o.0.1));
  }
    where
      none : {u : Undo} {us : List Undo} → u ∷ us ≡ [] → ⊥
      none e = absurd (cc)

pub every_control : EveryTold → EveryDurable → EveryOrdered → EveryControl
every_control laws durable ordered g = controls laws durable ordered g
