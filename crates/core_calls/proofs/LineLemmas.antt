-- The lines of a script and what is printed.
use Rattle.std.proofs.Common.{◌≡◌, ℕ, Bool, true, false, cond, List, [], ◌∷◌, ◌++◌, map, sym, ap, ◌∙◌, subst}
use Rattle.std.proofs.lemmas.List.{append-nil, append_assoc}
use Rattle.map_model.specs.declared.call.Call.{Call}
use Rattle.map_model.specs.declared.call.Answer.{Answer}
use Rattle.map_model.specs.declared.call.Answered.{Answered}
use Rattle.map_model.specs.Transcripts.{journal}
use Rattle.map_model.specs.Pairings.{paired, counted, answers_in, is_open_line, script_of, EachGoesOn}
use Rattle.map_model.specs.PairLaws as pair_laws
use Rattle.map_model.specs.Outputs.{Reply, answers_told}
use Rattle.core_crash.specs.core_state.Openings.{Opening}
use Rattle.core_calls.specs.Deeds.{in_words, transcript}
use Rattle.core_calls.specs.Refusals.{Limits}
use Rattle.core_calls.specs.Fronts.{Done, outcomes}
use Rattle.core_calls.specs.Runs.{EachTells}
use Rattle.core_calls.specs.Printed.{FirstLines, EveryPrinted}
use Rattle.core_calls.specs.Lines.{script_with, ScriptLaws, EveryScript, EveryRoundScript}

-- the outcomes with the newest first, in the words of a transcript
abbrev words : List Done → List Answered
words xs = map in_words (outcomes xs)

goes_on : (l : Limits) (g : Opening) (group : ℕ) (xs : List Done) → EachTells l g group xs → EachGoesOn (words xs)
goes_on l g group [] t = tt
goes_on l g group (x ∷ xs) t = (goes_on l g group xs t.0, t.1.goes_on)

tells_first : (l : Limits) (g : Opening) (group : ℕ) (later heard : List Done) → EachTells l g group (later ++ heard) → EachTells l g group heard
tells_first l g group [] heard t = t
tells_first l g group (x ∷ later) heard t = tells_first l g group later heard t.0

-- more outcomes, more lines behind those before
script_more : (later heard : List Done) → (more : List (ℕ × Call)) × (script_of (words (later ++ heard)) ≡ script_of (words heard) ++ more)
script_more [] heard = ([], sym (append-nil (script_of (words heard))))
script_more (x ∷ later) heard = go (script_more later heard) (is_open_line (words (later ++ heard)))
  where
    line : ℕ × Call
    line = ((in_words x.outcome).session, (in_words x.outcome).call)

    go : ((more : List (ℕ × Call)) × (script_of (words (later ++ heard)) ≡ script_of (words heard) ++ more)) → (b : Bool) →
        (more : List (ℕ × Call)) × (cond b (script_of (words (later ++ heard))) (script_of (words (later ++ heard)) ++ line ∷ []) ≡ script_of (words heard) ++ more)
    go q true = q
    go q false = (q.0 ++ line ∷ [], ap (λ (l : List (ℕ × Call)). l ++ line ∷ []) q.1 ∙ append_assoc (script_of (words heard)) q.0 (line ∷ []))

module _ (script : pair_laws.EveryScript) (count : pair_laws.EveryCount) where
  -- the pairs are those of the outcomes, and so is their journal
  told_pairs : (l : Limits) (g : Opening) (group : ℕ) (xs : List Done) (others : List (ℕ × Call)) → EachTells l g group xs → paired (script_with xs others) (answers_in (transcript (outcomes xs))) ≡ counted (transcript (outcomes xs))
  told_pairs l g group xs others t = (script (words xs) others (goes_on l g group xs t)).pairs

  told_journal : (l : Limits) (g : Opening) (group : ℕ) (xs : List Done) (others : List (ℕ × Call)) → EachTells l g group xs → journal (paired (script_with xs others) (answers_in (transcript (outcomes xs)))) ≡ journal (transcript (outcomes xs))
  told_journal l g group xs others t = ap journal (told_pairs l g group xs others t) ∙ count (transcript (outcomes xs))

  module _ (prints : EveryPrinted) (l : Limits) (g : Opening) (group : ℕ) (xs : List Done) (others : List (ℕ × Call)) (t : EachTells l g group xs) where
    first : (lines : List Reply) (f : FirstLines g xs lines) → journal (paired (script_with xs others) (answers_told lines)) ≡ journal (transcript (outcomes f.heard))
    first lines f =
        let m = script_more f.later f.heard in
        ap (λ (a : List (ℕ × Answer)). journal (paired (script_with xs others) a)) f.answers
        ∙ (ap (λ (s : List (ℕ × Call)). journal (paired s (answers_in (transcript (outcomes f.heard)))))
        (ap (λ (k : List Done). script_of (words k) ++ others) (sym f.are) ∙ (ap (λ (s : List (ℕ × Call)). s ++ others) m.1 ∙ append_assoc (script_of (words f.heard)) m.0 others))
        ∙ told_journal l g group f.heard (m.0 ++ others) (tells_first l g group f.later f.heard (subst (EachTells l g group) (sym f.are) t)))

    pub script_laws : ScriptLaws g xs others
    script_laws = record {
      pairs = ap (paired (script_with xs others)) (prints g xs).answers ∙ told_pairs l g group xs others t;
      journal_is = ap (λ (a : List (ℕ × Answer)). journal (paired (script_with xs others) a)) (prints g xs).answers ∙ told_journal l g group xs others t;
      first = first;
    }

pub every_script : pair_laws.EveryScript → pair_laws.EveryCount → EveryPrinted → EveryScript
every_script script count prints l g group xs others t = script_laws script count prints l g group xs others t

pub every_round_script : pair_laws.EveryRoundScript → pair_laws.EveryCount → EveryRoundScript
every_round_script script count asked xs h = let p = (script asked (map in_words xs) h).pairs in record { pairs = p; journal_is = ap journal p ∙ count (transcript xs) }
