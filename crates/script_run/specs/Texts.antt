-- What a run from the beginning of a script says in text: of the lines of the script, and of what was printed.
use Rattle.std.specs.Prelude.{◌≡◌, ◌⊎◌, ◌<◌, ◌^◌, ◌+◌, ◌++◌, ℕ, suc, true, List, [], ◌∷◌, length, Some, None, IsTrue}
use Rattle.map_model.specs.declared.call.Call.{Call}
use Rattle.map_model.specs.declared.call.Answered.{Answered}
use Rattle.map_model.specs.Outputs.{Reply}
use Rattle.map_model.specs.Pairings.{is_open_line, script_of}
use Rattle.lean_edge.specs.Outside.{Feed, Held}
use Rattle.call_parts.specs.core_calls.Fronts.{Done}
use Rattle.script_lang.specs.Lines.{line_of}
use Rattle.script_lang.specs.Reading.{Unread}
use Rattle.script_lang.specs.Text.{script_lines}
use Rattle.transcripts.specs.Told.{ask, asked_lines, asked_text, text_of, EachLineFits, EachReplyFits, IsTail, LineFits}
use Rattle.script_run.specs.Runs.{Hand, ReadsTo, PrintsTo, Holds, calls_of}
use Rattle.script_run.specs.declared.stop.Stop.{Stop}
use Rattle.script_run.specs.declared.stop.Stop.TheVariants.{End, Refused, ReadFault, WriteFault, DiskFault, Damaged}

-- the next line asks nothing, or has the last number
pub record IsRefusedNext (sessions number : ℕ) (others : List (List ℕ)) : Type 0 where
  pub next : List ℕ
  pub rest : List (List ℕ)
  pub is : others ≡ next ∷ rest
  pub cause : (line_of sessions next ≡ None) ⊎ (number ≡ 2 ^ 40)

-- The call that was not answered: the next line asks it, or it is due to the last one, which waits for a further answer.
pub data IsUnanswered (sessions : ℕ) (answered : List Answered) (others : List (List ℕ)) : Type 0 where
  OfLine : (session : ℕ) → (call : Call) → LineFits sessions session call → (rest : List (List ℕ)) → others ≡ ask session call ∷ rest → IsUnanswered sessions answered others
  OfLast : is_open_line answered ≡ true → IsUnanswered sessions answered others

-- why it stopped, by the lines behind those that ask so many calls
abbrev pub Stopped : Stop → (sessions : ℕ) → (answered : List Answered) → ℕ → List (List ℕ) → Type 0
Stopped End sessions answered count others = others ≡ []
Stopped (Refused line) sessions answered count others = (line ≡ suc count) × IsRefusedNext sessions line others
Stopped ReadFault sessions answered count others = Unit {0}
Stopped WriteFault sessions answered count others = Unit {0}
Stopped DiskFault sessions answered count others = IsUnanswered sessions answered others
Stopped (Damaged place) sessions answered count others = IsUnanswered sessions answered others

-- the script begins with the lines that ask the calls
pub record LinesRead (stop : Stop) (sessions : ℕ) (answered : List Answered) (input : List ℕ) : Type 0 where
  pub others : List (List ℕ)
  pub lines : script_lines input ≡ asked_lines (script_of answered) ++ others
  pub stopped : Stopped stop sessions answered (length (script_of answered)) others

-- only a sink that failed holds a part of a line
abbrev pub IsTailOf : Stop → List ℕ → Type 0
IsTailOf End tail = tail ≡ []
IsTailOf (Refused line) tail = tail ≡ []
IsTailOf ReadFault tail = tail ≡ []
IsTailOf WriteFault tail = IsTail tail
IsTailOf DiskFault tail = tail ≡ []
IsTailOf (Damaged place) tail = tail ≡ []

-- The calls that were answered, and the replies that were put of those that are due behind them.
pub record ScriptText (stop : Stop) (sessions : ℕ) (answered : List Answered) (replies told : List Reply) (start : Feed) (held0 held1 : Held) : Type 0 where
  pub read : IsTrue start.tells → LinesRead stop sessions answered start.left
  -- the replies whose lines are held whole: those that were put, and maybe the one whose put failed
  pub out : List Reply
  pub more : List Reply
  pub out_is : more ++ told ≡ out
  pub whole : (stop ≡ WriteFault → ⊥) → out ≡ replies
  -- they are the first of the replies
  pub later : List Reply
  pub first : later ++ out ≡ replies
  pub fit : EachReplyFits out
  pub tail : List ℕ
  pub ends : IsTailOf stop tail
  pub bytes : IsTrue held0.tells → held1.bytes ≡ held0.bytes ++ (text_of out ++ tail)

-- It follows from what a run from the beginning of a script says of its reader and its sink.
abbrev pub EveryScript : Type 0
EveryScript = (stop : Stop) (sessions : ℕ) (newer : List Done) (hand : Hand) (start feed : Feed) (reader : Unread) (replies told : List Reply) (tail : List ℕ) (held0 held1 : Held) → sessions < 2 ^ 32 →
    EachLineFits sessions (script_of (calls_of newer)) → ReadsTo (Some stop) sessions newer hand (suc (0 + length (script_of (calls_of newer)))) start feed reader (asked_text (script_of (calls_of newer))) →
    EachReplyFits told → PrintsTo (Some stop) replies told tail → Holds told tail held0 held1 → ScriptText stop sessions (calls_of newer) replies told start held0 held1
