-- What calls ask and print, as lines and as text. Lists of calls and of replies have the newest first, lists of lines the oldest.
use Rattle.std.specs.Prelude.{◌≡◌, ◌++◌, ℕ, true, List, [], ◌∷◌}
use Rattle.map_model.specs.declared.call.Call.{Call}
use Rattle.map_model.specs.declared.call.Answer.{Answer}
use Rattle.map_model.specs.declared.call.Answer.TheVariants as answer
use Rattle.map_model.specs.declared.call.Answered.{Answered}
use Rattle.map_model.specs.Journals.{Name}
use Rattle.map_model.specs.Outputs.{Reply, answers_told, AreBehind}
use Rattle.map_model.specs.Pairings.{answers_in, in_turn, is_last}
use Rattle.script_lang.specs.Lines.{line_text, CallFits, IsSessionOf}
use Rattle.script_lang.specs.Notices.{Notice, notice_text, NoticeFits}
use Rattle.script_lang.specs.Notices.Notice.{Opened}
use Rattle.script_lang.specs.Replies.{reply_text, reply_line, Fits}

-- ## What is asked

-- the line that asks a session's call, without its newline
abbrev pub ask : ℕ → Call → List ℕ
ask session call = line_text (record { session = session; call = call })

-- the lines that ask calls
abbrev pub asked_lines : List (ℕ × Call) → List (List ℕ)
asked_lines [] = []
asked_lines (x ∷ xs) = ask x.0 x.1 ∷ asked_lines xs

-- and their text
abbrev pub asked_text : List (ℕ × Call) → List ℕ
asked_text [] = []
asked_text (x ∷ xs) = ask x.0 x.1 ++ 10 ∷ asked_text xs

-- the call is in the grammar of a script for so many workers
pub record LineFits (workers number : ℕ) (call : Call) : Type 0 where
  pub session : IsSessionOf workers number call
  pub fits : CallFits call

abbrev pub EachLineFits : ℕ → List (ℕ × Call) → Type 0
EachLineFits workers [] = Unit {0}
EachLineFits workers (x ∷ xs) = LineFits workers x.0 x.1 × EachLineFits workers xs

-- ## What is printed

-- The answers among the replies are those to these calls, and each line that a transaction is durable stands behind the answer to its commit.
pub record AreAnswers (xs : List Answered) (told : List Reply) : Type 0 where
  pub answers : answers_told told ≡ answers_in (in_turn xs)
  pub behind : AreBehind told

-- the text of replies, each with its newline
abbrev pub text_of : List Reply → List ℕ
text_of [] = []
text_of (r ∷ earlier) = text_of earlier ++ reply_line r

-- the transactions that calls commit, the oldest first
abbrev pub committed_by : ℕ → Answer → List Name
committed_by session (answer.Committed number at) = record { session = session; number = number } ∷ []
committed_by session _ = []

abbrev pub committed : List Answered → List Name
committed [] = []
committed (x ∷ earlier) = committed earlier ++ committed_by x.session x.answer

-- ## What is printed where each commit is durable at once

-- a commit is reported durable
abbrev pub durable_of : ℕ → Answer → List Reply
durable_of session (answer.Committed number at) = Reply.Durable session number ∷ []
durable_of session _ = []

-- the replies to calls: each answer, and that a commit is durable
abbrev pub replies : List Answered → List Reply
replies [] = []
replies (x ∷ earlier) = durable_of x.session x.answer ++ Reply.Answered x.session x.answer ∷ replies earlier

-- All answers to these calls are among the replies, and no other: they are the replies to them, or lack only that the last one is durable.
pub record LacksDurable (xs : List Answered) (told : List Reply) : Type 0 where
  pub session : ℕ
  pub call : Call
  pub number : ℕ
  pub at : ℕ
  pub earlier : List Answered
  pub last : xs ≡ record { session = session; call = call; answer = answer.Committed number at } ∷ earlier
  pub told_is : told ≡ Reply.Answered session (answer.Committed number at) ∷ replies earlier

pub data Heard (xs : List Answered) (told : List Reply) : Type 0 where
  Whole : told ≡ replies xs → Heard xs told
  Lacking : LacksDurable xs told → Heard xs told

-- ## What a run prints

-- The calls are in a script's grammar, and their answers in that of its replies. Each has one answer: none is a conflict, or a pair of a scan.
abbrev pub EachFits : ℕ → List Answered → Type 0
EachFits workers [] = Unit {0}
EachFits workers (x ∷ earlier) = EachFits workers earlier × LineFits workers x.session x.call × Fits (Reply.Answered x.session x.answer) × (is_last x.answer ≡ true)

abbrev pub EachReplyFits : List Reply → Type 0
EachReplyFits [] = Unit {0}
EachReplyFits (r ∷ earlier) = EachReplyFits earlier × Fits r

-- what stands of a line that was cut off: its newline lacks at least
pub record IsCut (line tail : List ℕ) : Type 0 where
  pub more : List ℕ
  pub is : tail ++ more ≡ line

-- what stands behind the replies: nothing, a line that was cut off, or the line of a notice
pub data IsTail (tail : List ℕ) : Type 0 where
  CutReply : (r : Reply) → Fits r → IsCut (reply_text r) tail → IsTail tail
  CutNotice : (n : Notice) → NoticeFits n → IsCut (notice_text n) tail → IsTail tail
  WholeNotice : (n : Notice) → NoticeFits n → tail ≡ notice_text n ++ 10 ∷ [] → IsTail tail

-- the line of an opening
abbrev pub opened_line : ℕ → ℕ → ℕ → List ℕ
opened_line generation winners undone = notice_text (Opened generation winners undone) ++ 10 ∷ []

-- An output: the line of an opening, replies, and a tail.
pub record IsOutput (generation winners undone : ℕ) (told : List Reply) (output : List ℕ) : Type 0 where
  pub opened : NoticeFits (Opened generation winners undone)
  pub fit : EachReplyFits told
  pub tail : List ℕ
  pub ends : IsTail tail
  pub is : output ≡ opened_line generation winners undone ++ (text_of told ++ tail)
