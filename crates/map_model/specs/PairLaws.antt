-- What the pairing gives of answers that were given to the lines of a script.
use Rattle.std.specs.Prelude.{◌≡◌, ◌++◌, ℕ, List, [], ◌∷◌, None}
use Rattle.map_model.specs.declared.call.Call.{Call}
use Rattle.map_model.specs.declared.call.Call.TheVariants as call
use Rattle.map_model.specs.declared.call.Answer.{Answer}
use Rattle.map_model.specs.declared.call.Answer.TheVariants as answer
use Rattle.map_model.specs.declared.call.Answered.{Answered}
use Rattle.map_model.specs.declared.call.Refusal.TheVariants as refusal
use Rattle.map_model.specs.Lists.{keep}
use Rattle.map_model.specs.Transcripts.{journal}
use Rattle.map_model.specs.Pairings.{paired, counted, answers_in, is_of, EachIsAnswered, in_turn, script_of, calls_of, EachGoesOn}

-- Where each session's lines are answered in turn, in whatever order the sessions follow one another, the pairs are those of the
-- transcript, but for the answers of unfinished groups.
abbrev pub EveryPair : Type 0
EveryPair = (asked : List (ℕ × Call)) (xs : List Answered) → EachIsAnswered asked xs → paired asked (answers_in xs) ≡ counted xs

-- the lines are answered in turn, and so they are paired
pub record ArePaired (asked : List (ℕ × Call)) (xs : List Answered) : Type 0 where
  pub answered : EachIsAnswered asked xs
  pub pairs : paired asked (answers_in xs) ≡ counted xs

-- So it is where a script begins with the lines that were executed, one after another.
abbrev pub EveryScript : Type 0
EveryScript = (xs : List Answered) (others : List (ℕ × Call)) → EachGoesOn xs → ArePaired (script_of xs ++ others) (in_turn xs)

-- the script has the session's lines in the order in which they were executed, and others behind them
pub record HasLinesOf (session : ℕ) (asked : List (ℕ × Call)) (xs : List Answered) : Type 0 where
  pub goes_on : EachGoesOn (keep (is_of session) xs)
  pub others : List (ℕ × Call)
  pub lines : calls_of session asked ≡ calls_of session (script_of (keep (is_of session) xs) ++ others)

-- So it is where that holds of each session, in whatever order the answers are printed.
abbrev pub EveryRoundScript : Type 0
EveryRoundScript = (asked : List (ℕ × Call)) (xs : List Answered) → ((session : ℕ) → HasLinesOf session asked xs) → ArePaired asked (in_turn xs)

-- The answers of unfinished groups change no journal: a transaction's lines stand before its commit.
abbrev pub EveryCount : Type 0
EveryCount = (xs : List Answered) → journal (counted xs) ≡ journal xs

-- ## One script

-- two sessions, and a line that is of none
abbrev pub worked_lines : List (ℕ × Call)
worked_lines =
    (1, call.Begin) ∷ (2, call.Begin) ∷ (2, call.Put 7 1) ∷ (1, call.Scan 0 9) ∷ (0, call.Sync) ∷ (2, call.Begin) ∷ (1, call.Get 7) ∷ (2, call.Scan 0 9) ∷ (1, call.Commit) ∷ []

-- a conflict with its abort, a scan, an answer of a session that has no line, and in the end a scan that has not come to its end
abbrev pub worked_answers : List (ℕ × Answer)
worked_answers =
    (1, answer.Begun 1) ∷ (1, answer.Pair 5 50) ∷ (3, answer.Begun 1) ∷ (2, answer.Begun 1) ∷ (2, answer.Refused (refusal.Conflict 1)) ∷ (1, answer.Pair 6 60) ∷ (2, answer.Aborted 1) ∷ (1, answer.End)
    ∷ (2, answer.Begun 2) ∷ (2, answer.Pair 5 50) ∷ (1, answer.Value None) ∷ (0, answer.Synced 3) ∷ (2, answer.Pair 6 60) ∷ (1, answer.Committed 1 3) ∷ []

abbrev pub said : ℕ → Call → Answer → Answered
said s c a = record { session = s; call = c; answer = a }

abbrev pub WorkedPairs : Type 0
WorkedPairs =
    paired worked_lines worked_answers
    ≡ said 1 call.Begin (answer.Begun 1) ∷ said 1 (call.Scan 0 9) (answer.Pair 5 50) ∷ said 2 call.Begin (answer.Begun 1) ∷ said 2 (call.Put 7 1) (answer.Refused (refusal.Conflict 1))
    ∷ said 1 (call.Scan 0 9) (answer.Pair 6 60) ∷ said 2 (call.Put 7 1) (answer.Aborted 1) ∷ said 1 (call.Scan 0 9) answer.End ∷ said 2 call.Begin (answer.Begun 2)
    ∷ said 1 (call.Get 7) (answer.Value None) ∷ said 0 call.Sync (answer.Synced 3) ∷ said 1 call.Commit (answer.Committed 1 3) ∷ []
