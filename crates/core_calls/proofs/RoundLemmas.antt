-- Rounds.
use Rattle.std.proofs.lemmas.Bool.{cases_Bool, cases_eq, eq-eqb, ne_eqb, cond-true, cond-false}
use Rattle.std.proofs.lemmas.List.{append_assoc, append-nil}
use Rattle.std.proofs.Common.{◌≡◌, ℕ, Bool, true, false, cond, ◌==◌, List, [], ◌∷◌, ◌++◌, refl, sym, ap, ap₂, ◌∙◌, subst, inl, inr}
use Rattle.map_model.specs.Lists.{Has}
use Rattle.map_model.specs.Journals.{Txn, is_earlier}
use Rattle.map_model.specs.Transcripts.{journal}
use Rattle.page_model.specs.Nodes.{Format}
use Rattle.core_crash.specs.image_model.Entries.{Entry, is_commit}
use Rattle.core_crash.specs.image_model.Histories as histories
use Rattle.core_crash.specs.core_state.Openings.{Opening}
use Rattle.core_crash.specs.core_state.States.{State, start}
use Rattle.core_crash.specs.core_state.Events.{Event}
use Rattle.core_crash.specs.core_state.Needs.{may}
use Rattle.core_crash.specs.core_state.Steps.{happens, synced, run}
use Rattle.core_crash.proofs.core_state.Runs.{run_more}
use Rattle.core_crash.specs.core_commit.Rises.{EveryRise}
use Rattle.core_crash.specs.Crashes.{image_of, journal_in, IsRipe}
use Rattle.map_model.proofs.ListLemmas.{order_has}
use Rattle.core_calls.specs.Told.{SameTxn, Survives, ToldLaws, EveryTold}
use Rattle.core_calls.proofs.PairLemmas.{pair_of, none_behind}
use Rattle.core_calls.proofs.DurableLemmas.{Ripe, all_synced}
use Rattle.core_calls.specs.Marks.{Mark, marks}
use Rattle.core_calls.specs.Deeds.{Outcome, marks_for, marks_by, commits, Answers, transcript}
use Rattle.core_calls.specs.Rounds.{Round, all_events, all_outcomes, EachSounds, EveryRound, Finishes, FinishLaws, EveryFinish, EveryRoundSynced}
use Rattle.core_calls.specs.Fronts.{Done}
use Rattle.core_calls.specs.Runs.{Moment, Waiting, InHand}
use Rattle.core_calls.proofs.RunLemmas.{marks_run, marks_more, marks_behind, part}

by_both : (w : ℕ) (a b : List Outcome) → marks_by w (a ++ b) ≡ marks_by w a ++ marks_by w b
by_both w [] b = refl
by_both w (x ∷ a) b = go (by_both w a b) (x.session == w)
  where
    go : marks_by w (a ++ b) ≡ marks_by w a ++ marks_by w b → (c : Bool) → cond c (marks_for x ++ marks_by w (a ++ b)) (marks_by w (a ++ b)) ≡ cond c (marks_for x ++ marks_by w a) (marks_by w a) ++ marks_by w b
    go ih true = ap (λ (l : List Mark). marks_for x ++ l) ih ∙ sym (append_assoc (marks_for x) (marks_by w a) (marks_by w b))
    go ih false = ih

all_marks : (g : Opening) (xs : List Round) → EachSounds g xs → (w : ℕ) → marks g (start g) (all_events xs) w [] ≡ marks_by w (all_outcomes xs)
all_marks g [] t w = refl
all_marks g (x ∷ xs) t w = marks_behind g (all_events xs) x.events w ∙ (ap₂ (λ (a b : List Mark). a ++ b) (t.1 w) (all_marks g xs t.0 w) ∙ sym (by_both w x.outcomes (all_outcomes xs)))

pub every_round : EveryRound
every_round g xs t a = record { rest = λ w. []; each = all_marks g xs t; open_yet = λ w. refl; in_turn = a }

-- ## Behind a round

module _ (g : Opening) (es : List Event) (ys : List Outcome) (a : Answers g es ys) (x : Done) (f : Finishes g es ys a x) where
  abbrev w0 : ℕ
  w0 = x.outcome.session

  module _ (before after : List Event) (e : x.events ≡ before ++ after) where
    abbrev by : ℕ → List Mark
    by w = marks g (run g (start g) es) before w []

    abbrev later : ℕ → List Mark
    later w = marks g (run g (run g (start g) es) before) after w []

    both : (w : ℕ) → later w ++ by w ≡ marks g (run g (start g) es) x.events w []
    both w = sym (marks_run g (run g (start g) es) before after w [] ∙ marks_more g (run g (run g (start g) es) before) after w (by w)) ∙ ap (λ (l : List Event). marks g (run g (start g) es) l w []) (sym e)

    others : (w : ℕ) → (w ≡ w0 → ⊥) → by w ≡ []
    others w n = none_behind (later w) (by w) (both w ∙ f.others w n)

    mine : later w0 ++ (by w0 ++ a.rest w0) ≡ marks_for x.outcome
    mine = sym (append_assoc (later w0) (by w0) (a.rest w0)) ∙ (ap (λ (l : List Mark). l ++ a.rest w0) (both w0) ∙ f.own)

    each : (w : ℕ) → marks g (start g) (es ++ before) w [] ≡ (by w ++ a.rest w) ++ marks_by w ys
    each w = marks_behind g es before w ∙ (ap (λ (l : List Mark). by w ++ l) (a.each w) ∙ sym (append_assoc (by w) (a.rest w) (marks_by w ys)))

    -- what is left of the others
    abbrev left : ℕ → List Mark
    left w = cond (w == w0) [] (a.rest w)

    left_open : (w : ℕ) → commits (left w) ≡ false
    left_open w = go (w == w0)
      where
        go : (b : Bool) → commits (cond b [] (a.rest w)) ≡ false
        go true = refl
        go false = a.open_yet w

    done : later w0 ≡ [] → Answers g (es ++ before) (x.outcome ∷ ys)
    done q = record { rest = left; each = all; open_yet = left_open; in_turn = (a.in_turn, f.in_turn) }
      where
        all : (w : ℕ) → marks g (start g) (es ++ before) w [] ≡ left w ++ marks_by w (x.outcome ∷ ys)
        all w = each w ∙ elim (cases_eq w w0) [
          | inl i ↦ (ap (λ (l : List Mark). l ++ marks_by w ys) (ap (λ (v : ℕ). by v ++ a.rest v) i ∙ (ap (λ (l : List Mark). l ++ (by w0 ++ a.rest w0)) (sym q) ∙ mine))
              ∙ sym (ap₂ (λ (k l : List Mark). k ++ l) (cond-true (w == w0) [] (a.rest w) (eq-eqb w w0 i)) (cond-true (w0 == w) (marks_for x.outcome ++ marks_by w ys) (marks_by w ys) (eq-eqb w0 w (sym i)))))
          | inr n ↦ (ap (λ (l : List Mark). (l ++ a.rest w) ++ marks_by w ys) (others w n)
              ∙ sym (ap₂ (λ (k l : List Mark). k ++ l) (cond-false (w == w0) [] (a.rest w) (ne_eqb w w0 n)) (cond-false (w0 == w) (marks_for x.outcome ++ marks_by w ys) (marks_by w ys) (ne_eqb w0 w (λ z. n (sym z))))))
        ]

    moment : Moment g (es ++ before) ys x.outcome
    moment = elim (cases_Bool (commits (by w0 ++ a.rest w0))) [
      | inr n ↦ Waiting (record { rest = λ w. by w ++ a.rest w; each = each; open_yet = quiet n; in_turn = a.in_turn })
      | inl c ↦ (let q = part (later w0) (by w0 ++ a.rest w0) x.outcome mine c in InHand q.is_commit (done q.none))
    ]
      where
        quiet : commits (by w0 ++ a.rest w0) ≡ false → (w : ℕ) → commits (by w ++ a.rest w) ≡ false
        quiet n w = elim (cases_eq w w0) [ inl i ↦ ap (λ (v : ℕ). commits (by v ++ a.rest v)) i ∙ n | inr i ↦ ap (λ (l : List Mark). commits (l ++ a.rest w)) (others w i) ∙ a.open_yet w ]

  pub finish_laws : FinishLaws g es ys x
  finish_laws = record { whole = done x.events [] (sym (append-nil x.events)) refl; moments = moment }

pub every_finish : EveryFinish
every_finish g es ys a x f = finish_laws g es ys a x f

commit_entry : (f : Format) (h : List Entry) (u : Txn) → Has u (histories.committed f h) → (e : Entry) × Has e h × (is_commit e.kind ≡ true) × (e.log ≡ u.session) × (e.txn ≡ u.number)
commit_entry f [] u i = absurd i
commit_entry f (e ∷ h) u i = go (commit_entry f h u) (is_commit e.kind) refl i
  where
    go : (Has u (histories.committed f h) → (x : Entry) × Has x h × (is_commit x.kind ≡ true) × (x.log ≡ u.session) × (x.txn ≡ u.number)) → (b : Bool) → is_commit e.kind ≡ b →
        Has u (cond b (histories.txn_of f e h ∷ histories.committed f h) (histories.committed f h)) → (x : Entry) × Has x (e ∷ h) × (is_commit x.kind ≡ true) × (x.log ≡ u.session) × (x.txn ≡ u.number)
    go ih true k (inl q) = (e, inl refl, k, ap (λ (t : Txn). t.session) (sym q), ap (λ (t : Txn). t.number) (sym q))
    go ih true k (inr j) = let z = ih j in (z.0, inr z.1, z.2, z.3, z.4)
    go ih false k j = let z = ih j in (z.0, inr z.1, z.2, z.3, z.4)

pub every_round_synced : EveryRise → EveryTold → EveryRoundSynced
every_round_synced rises laws g f es n xs a m logs page c = (survives, λ t i. survives.ripe t i (ripe t i))
  where
    law : ToldLaws g (es ++ Event.Sync n ∷ []) xs
    law = laws g (es ++ Event.Sync n ∷ []) xs a

    survives : Survives g (run g (start g) (es ++ Event.Sync n ∷ [])) (image_of g (run g (start g) (es ++ Event.Sync n ∷ [])) logs page) (journal (transcript xs))
    survives = law.crash f logs page c (journal (transcript xs)) (journal (transcript xs)) (record { falls = law.falls; has_told = λ t i. i; has_kept = λ t i k. i; only = λ t i. (i, inl i) })

    state : run g (start g) (es ++ Event.Sync n ∷ []) ≡ synced (run g (start g) es) n
    state = run_more g (start g) es (Event.Sync n ∷ []) ∙ cond-true (may g (run g (start g) es) (Event.Sync n)) (happens g (run g (start g) es) (Event.Sync n)) (run g (start g) es) m

    ripe : (t : Txn) → Has t (journal (transcript xs)) → IsRipe g (run g (start g) (es ++ Event.Sync n ∷ [])) t
    ripe t i =
        let u = pair_of SameTxn (journal (transcript xs)) (journal_in g (run g (start g) (es ++ Event.Sync n ∷ []))) law.same t i in
        let e = commit_entry g.format (run g (start g) (es ++ Event.Sync n ∷ [])).entries u.0 (order_has is_earlier (histories.committed g.format (run g (start g) (es ++ Event.Sync n ∷ [])).entries) u.0 u.1) in
        let r = subst (λ (s : State). Ripe g s e.0) (sym state) (all_synced rises g es [] n m e.0 (subst (λ (s : State). Has e.0 s.entries) state e.1) e.2) in
        record { end = e.0; has = e.1; commit = e.2; session = e.3 ∙ sym u.2.session; number = e.4 ∙ sym u.2.number; flushed = r.flushed; need = r.need }
