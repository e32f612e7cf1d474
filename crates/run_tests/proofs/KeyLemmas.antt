-- What a transaction that a script and its output tell of writes is asked by a line of the script.
use Rattle.std.proofs.Common.{◌≡◌, ◌⊎◌, inl, inr, ℕ, Bool, true, false, cond, ◌==◌, List, [], ◌∷◌, length, map, Option, Some, None, refl, sym, ◌∙◌, ap, subst, true≢false}
use Rattle.std.proofs.lemmas.Bool.{eqb-true}
use Rattle.map_model.specs.declared.call.Call.{Call}
use Rattle.map_model.specs.declared.call.Call.TheVariants as call
use Rattle.map_model.specs.declared.call.Answer.{Answer}
use Rattle.map_model.specs.declared.call.Answer.TheVariants as answer
use Rattle.map_model.specs.Lists.{Has}
use Rattle.map_model.specs.Maps.{MapAnswer, MapCall, writes_key}
use Rattle.map_model.specs.Histories.{Step}
use Rattle.map_model.specs.Journals.{Txn, Wrote, is_earlier}
use Rattle.map_model.specs.Transcripts.{Line, Told, is_bound, journal, lines_in, lines_of, lines_onto, map_answer, map_call, pair_call, step_onto, steps_of, told, told_onto, txn_of}
use Rattle.map_model.proofs.ListLemmas.{order_has}
use Rattle.lean_shell.specs.script_lang.Lines.{line_of}
use Rattle.lean_shell.specs.script_lang.Text.{script_lines, whole_lines}
use Rattle.lean_shell.specs.script_lang.declared.line.Line as script
use Rattle.map_model.specs.declared.call.Answered.{Answered}
use Rattle.map_model.specs.Pairings.{counted, ends_for, first_call, grouped, is_last, pair_onto, paired, rest_of}
use Rattle.lean_shell.specs.transcripts.Transcripts.{answers, asked, asked_onto, transcript}
use Rattle.run_tests.specs.RuledOut.{AsksToWrite, Writes}

-- ## Lines of a script

record IsAsked (workers : ℕ) (lines : List (List ℕ)) (c : Call) : Type 0 where
  text : List ℕ
  has : Has text lines
  line : script.Line
  is : line_of workers text ≡ Some line
  call_is : line.call ≡ c

asked_has : (workers : ℕ) (lines : List (List ℕ)) (p : ℕ × Call) → Has p (asked workers lines) → IsAsked workers lines p.1
asked_has workers [] p h = absurd h
asked_has workers (l ∷ ls) p h = go (line_of workers l) refl (asked_has workers ls p) h
  where
    go : (o : Option script.Line) → line_of workers l ≡ o → (Has p (asked workers ls) → IsAsked workers ls p.1) → Has p (asked_onto o (asked workers ls)) → IsAsked workers (l ∷ ls) p.1
    go None is ih h = absurd h
    go (Some line) is ih (inl e) = record { text = l; has = inl refl; line = line; is = is; call_is = sym (ap (λ (q : ℕ × Call). q.1) e) }
    go (Some line) is ih (inr h) = let r = ih h in record { text = r.text; has = inr r.has; line = r.line; is = r.is; call_is = r.call_is }

record IsPaired (calls : List (ℕ × Call)) (c : Call) : Type 0 where
  pair : ℕ × Call
  has : Has pair calls
  call_is : pair.1 ≡ c

first_has : (session : ℕ) (calls : List (ℕ × Call)) (c : Call) → first_call session calls ≡ Some c → IsPaired calls c
first_has session [] c e = absurd (cc)
first_has session (p ∷ calls) c e = go (p.0 == session) (first_has session calls c) e
  where
    some_or : Option Call → Call
    some_or (Some z) = z
    some_or None = c

    go : (b : Bool) → (first_call session calls ≡ Some c → IsPaired calls c) → cond b (Some p.1) (first_call session calls) ≡ Some c → IsPaired (p ∷ calls) c
    go true ih q = record { pair = p; has = inl refl; call_is = ap some_or q }
    go false ih q = let r = ih q in record { pair = r.pair; has = inr r.has; call_is = r.call_is }

rest_has : (session : ℕ) (calls : List (ℕ × Call)) (p : ℕ × Call) → Has p (rest_of session calls) → Has p calls
rest_has session [] p h = h
rest_has session (q ∷ calls) p h = go (q.0 == session) (rest_has session calls p) h
  where
    go : (b : Bool) → (Has p (rest_of session calls) → Has p calls) → Has p (cond b calls (q ∷ rest_of session calls)) → Has p (q ∷ calls)
    go true ih h = inr h
    go false ih (inl e) = inl e
    go false ih (inr h) = inr (ih h)

abbrev Grouped : List (ℕ × Answer) → Answered → Type 0
Grouped given y = (calls : List (ℕ × Call)) → Has y (grouped calls given) → IsPaired calls y.call

grouped_has : (given : List (ℕ × Answer)) (y : Answered) → Grouped given y
grouped_has [] y calls h = absurd h
grouped_has (a ∷ given) y calls h = go (grouped_has given y) (first_call a.0 calls) refl h
  where
    later : Grouped given y → (b : Bool) → Has y (grouped (cond b (rest_of a.0 calls) calls) given) → IsPaired calls y.call
    later ih true i = let r = ih (rest_of a.0 calls) i in record { pair = r.pair; has = rest_has a.0 calls r.pair r.has; call_is = r.call_is }
    later ih false i = ih calls i

    go : Grouped given y → (o : Option Call) → first_call a.0 calls ≡ o → Has y (pair_onto o a.0 a.1 (grouped (cond (is_last a.1) (rest_of a.0 calls) calls) given)) → IsPaired calls y.call
    go ih None is i = later ih (is_last a.1) i
    go ih (Some c) is (inl e) = subst (IsPaired calls) (sym (ap (λ (x : Answered). x.call) e)) (first_has a.0 calls c is)
    go ih (Some c) is (inr i) = later ih (is_last a.1) i

counted_has : (xs : List Answered) (y : Answered) → Has y (counted xs) → Has y xs
counted_has [] y h = h
counted_has (x ∷ xs) y h = go (ends_for x.session (x ∷ xs)) (counted_has xs y) h
  where
    go : (b : Bool) → (Has y (counted xs) → Has y xs) → Has y (cond b (x ∷ counted xs) (counted xs)) → Has y (x ∷ xs)
    go true ih (inl e) = inl e
    go true ih (inr i) = inr (ih i)
    go false ih i = inr (ih i)

paired_has : (calls : List (ℕ × Call)) (given : List (ℕ × Answer)) (y : Answered) → Has y (paired calls given) → IsPaired calls y.call
paired_has calls given y h = grouped_has given y calls (counted_has (grouped calls given) y h)

-- ## Lines of a transcript

lines_has : (behind : List Line) (xs : List Answered) (l : Line) → Has l (lines_onto behind xs) → Has l behind ⊎ Has l.said xs
lines_has behind [] l h = inl h
lines_has behind (x ∷ xs) l h = elim (lines_has (record { place = length behind; said = x } ∷ behind) xs l h) [
  | inl there ↦ elim there [
    | inl e ↦ inr (inl (ap (λ (y : Line). y.said) e))
    | inr older ↦ inl older
  ]
  | inr i ↦ inr (inr i)
]

lines_in_has : (session : ℕ) (ls : List Line) (x : Line) → Has x (lines_in session ls) → Has x ls
lines_in_has session [] x h = absurd h
lines_in_has session (y ∷ earlier) x h = go (y.said.session == session) (is_bound y.said.answer) (lines_in_has session earlier x) h
  where
    go : (a b : Bool) → (Has x (lines_in session earlier) → Has x earlier) → Has x (cond a (cond b [] (y ∷ lines_in session earlier)) (lines_in session earlier)) → Has x (y ∷ earlier)
    go true true ih h = absurd h
    go true false ih (inl e) = inl e
    go true false ih (inr h) = inr (ih h)
    go false b ih h = inr (ih h)

-- the lines of a transaction are those of the transcript
onto_has : (a : Answer) (session : ℕ) (lines : List Line) (older : List Told) (t : Told) → Has t (told_onto a session lines older) → (t.lines ≡ lines) ⊎ Has t older
onto_has (answer.Committed number at) session lines older t (inl e) = inl (ap (λ (u : Told). u.lines) e)
onto_has (answer.Committed number at) session lines older t (inr h) = inr h
onto_has (answer.Begun number) session lines older t h = inr h
onto_has (answer.Value value) session lines older t h = inr h
onto_has (answer.Was value) session lines older t h = inr h
onto_has (answer.Pair key value) session lines older t h = inr h
onto_has (answer.More from) session lines older t h = inr h
onto_has answer.End session lines older t h = inr h
onto_has (answer.Aborted number) session lines older t h = inr h
onto_has (answer.Synced at) session lines older t h = inr h
onto_has (answer.Checkpointed at) session lines older t h = inr h
onto_has (answer.Refused why) session lines older t h = inr h

told_has : (ls : List Line) (t : Told) → Has t (told ls) → (x : Line) → Has x t.lines → Has x ls
told_has [] t h x there = absurd h
told_has (y ∷ earlier) t h x there = elim (onto_has y.said.answer y.said.session (lines_in y.said.session earlier) (told earlier) t h) [
  | inl e ↦ inr (lines_in_has y.said.session earlier x (subst (λ (l : List Line). Has x l) e there))
  | inr older ↦ inr (told_has earlier t older x there)
]

map_has : {A B : Type 0} (f : A → B) (xs : List A) (y : B) → Has y (map f xs) → (x : A) × Has x xs × (y ≡ f x)
map_has f [] y h = absurd h
map_has f (x ∷ xs) y (inl e) = (x, inl refl, e)
map_has f (x ∷ xs) y (inr h) = let r = map_has f xs y h in (r.0, inr r.1, r.2)

-- ## Writes

module _ (key : ℕ) where
  abbrev some_writes : Option MapCall → Bool
  some_writes (Some d) = writes_key d key
  some_writes None = false

  pair_reads : (a : Answer) (c : MapCall) → pair_call a ≡ Some c → writes_key c key ≡ true → ⊥
  pair_reads (answer.Pair k value) c e w = true≢false (sym (ap some_writes e ∙ w))
  pair_reads (answer.Begun number) c e w = absurd (cc)
  pair_reads (answer.Value value) c e w = absurd (cc)
  pair_reads (answer.Was value) c e w = absurd (cc)
  pair_reads (answer.More from) c e w = absurd (cc)
  pair_reads answer.End c e w = absurd (cc)
  pair_reads (answer.Committed number at) c e w = absurd (cc)
  pair_reads (answer.Aborted number) c e w = absurd (cc)
  pair_reads (answer.Synced at) c e w = absurd (cc)
  pair_reads (answer.Checkpointed at) c e w = absurd (cc)
  pair_reads (answer.Refused why) c e w = absurd (cc)

  by_call : (k : Call) (a : Answer) (c : MapCall) → map_call k a ≡ Some c → writes_key c key ≡ true → Writes k key
  by_call (call.Get q) a c e w = absurd (true≢false (sym (ap some_writes e ∙ w)))
  by_call (call.Put q v) a c e w = eqb-true q key (ap some_writes e ∙ w)
  by_call (call.Del q) a c e w = eqb-true q key (ap some_writes e ∙ w)
  by_call (call.Scan from to) a c e w = absurd (pair_reads a c e w)
  by_call call.Begin a c e w = absurd (cc)
  by_call call.Commit a c e w = absurd (cc)
  by_call call.Abort a c e w = absurd (cc)
  by_call call.Sync a c e w = absurd (cc)
  by_call call.Checkpoint a c e w = absurd (cc)

  steps_has : (ls : List Line) (s : Step) → Has s (steps_of ls) → writes_key s.call key ≡ true → (x : Line) × Has x ls × Writes x.said.call key
  steps_has [] s h w = absurd h
  steps_has (x ∷ earlier) s h w = go (map_call x.said.call x.said.answer) (map_answer x.said.answer) refl (steps_has earlier s) h
    where
      Found : List Line → Type 0
      Found ls = (y : Line) × Has y ls × Writes y.said.call key

      older : Found earlier → Found (x ∷ earlier)
      older f = (f.0, inr f.1, f.2)

      go : (o : Option MapCall) (a : Option MapAnswer) → map_call x.said.call x.said.answer ≡ o → (Has s (steps_of earlier) → writes_key s.call key ≡ true → Found earlier) →
          Has s (step_onto x.said.session o a (steps_of earlier)) → Found (x ∷ earlier)
      go (Some c) (Some a) is ih (inl e) = (x, inl refl, by_call x.said.call x.said.answer c is (ap (λ (z : Step). writes_key z.call key) (sym e) ∙ w))
      go (Some c) (Some a) is ih (inr h) = older (ih h w)
      go (Some c) None is ih h = older (ih h w)
      go None a is ih h = older (ih h w)

  -- so a line of the script asks it
  pub asks_to_write : (sessions : ℕ) (input output : List ℕ) (t : Txn) → Has t (journal (transcript sessions input output)) → Wrote t key → AsksToWrite sessions input key
  asks_to_write sessions input output t h wrote =
      let ts : List Answered = transcript sessions input output in
      let m = map_has txn_of (told (lines_of ts)) t (order_has is_earlier (map txn_of (told (lines_of ts))) t h) in
      let has : Has wrote.step (steps_of m.0.lines) = subst (λ (u : Txn). Has wrote.step u.calls) m.2 wrote.has in
      let s = steps_has m.0.lines wrote.step has wrote.writes in
      let line : Has s.0 (lines_of ts) = told_has (lines_of ts) m.0 m.1 s.0 s.1 in
      elim (lines_has [] ts s.0 line) [
        | inl none ↦ absurd none
        | inr told ↦
            let p : IsPaired (asked sessions (script_lines input)) s.0.said.call = paired_has (asked sessions (script_lines input)) (answers (whole_lines output)) s.0.said told in
            let a : IsAsked sessions (script_lines input) p.pair.1 = asked_has sessions (script_lines input) p.pair p.has in
            record { text = a.text; has = a.has; line = a.line; is = a.is; writes = subst (λ (c : Call). Writes c key) (sym (a.call_is ∙ p.call_is)) s.2 }
      ]
