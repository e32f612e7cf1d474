-- The lines of a script and what is printed make the transcript.
use Rattle.std.specs.Prelude.{◌≡◌, ℕ, List, ◌++◌, map}
use Rattle.map_model.specs.declared.call.Call.{Call}
use Rattle.map_model.specs.Transcripts.{journal}
use Rattle.map_model.specs.Pairings.{paired, counted, answers_in, script_of}
use Rattle.map_model.specs.PairLaws.{HasLinesOf}
use Rattle.map_model.specs.Outputs.{Reply, answers_told}
use Rattle.core_crash.specs.core_state.Openings.{Opening}
use Rattle.core_calls.specs.Deeds.{Outcome, in_words, transcript}
use Rattle.core_calls.specs.Refusals.{Limits}
use Rattle.core_calls.specs.Fronts.{Done, outcomes}
use Rattle.core_calls.specs.Runs.{EachTells}
use Rattle.core_calls.specs.Printed.{printed, FirstLines}

-- a script that begins with the lines that were executed, whatever lines follow
abbrev pub script_with : List Done → List (ℕ × Call) → List (ℕ × Call)
script_with xs others = script_of (map in_words (outcomes xs)) ++ others

-- With the printed answers its lines are the transcript, but for answers to a line that is not done with. The journal that they tell is that of
-- the outcomes; and with the first printed lines it is that of the first outcomes.
pub record ScriptLaws (g : Opening) (xs : List Done) (others : List (ℕ × Call)) : Type 0 where
  pub pairs : paired (script_with xs others) (answers_told (printed g xs)) ≡ counted (transcript (outcomes xs))
  pub journal_is : journal (paired (script_with xs others) (answers_told (printed g xs))) ≡ journal (transcript (outcomes xs))
  pub first : (lines : List Reply) (f : FirstLines g xs lines) → journal (paired (script_with xs others) (answers_told lines)) ≡ journal (transcript (outcomes f.heard))

-- of each run on one thread
abbrev pub EveryScript : Type 0
EveryScript = (l : Limits) (g : Opening) (group : ℕ) (xs : List Done) (others : List (ℕ × Call)) → EachTells l g group xs → ScriptLaws g xs others

-- so with many threads
pub record RoundScriptLaws (asked : List (ℕ × Call)) (xs : List Outcome) : Type 0 where
  pub pairs : paired asked (answers_in (transcript xs)) ≡ counted (transcript xs)
  pub journal_is : journal (paired asked (answers_in (transcript xs))) ≡ journal (transcript xs)

-- Where a script has each session's lines in the order in which they were executed, and others behind them, in whatever order the answers
-- are printed.
abbrev pub EveryRoundScript : Type 0
EveryRoundScript = (asked : List (ℕ × Call)) (xs : List Outcome) → ((w : ℕ) → HasLinesOf w asked (map in_words xs)) → RoundScriptLaws asked xs
