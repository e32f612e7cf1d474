-- The words of a command line, and what they ask for: which options there are, of clap's definitions that these are their arguments, and which numbers.
use Rattle.std.specs.Prelude.{◌≡◌, ◌≢◌, ◌≤◌, ◌<◌, ◌-◌, ◌^◌, ℕ, true, List, [], ◌∷◌, length, map, slice_index, codes, Some, String, string_bytes}
use Rattle.std.specs.declared.alloc.Global.{Global}
use Rattle.std.specs.Fmt.{decimal}
use Rattle.clap.specs.Words.{App, Row, Rule, fault_of, first_of, new_app, new_rule, subcommand_of, with_rule, with_subcommand}
use Rattle.buffered_engine.specs.disk_format.declared.shape.Shape.{Shape}
use Rattle.buffered_engine.specs.paged_engine.declared.opening.Size.{Size}
use Rattle.lean_shell.specs.declared.make.Workload.{Workload}
use Rattle.lean_shell.specs.declared.words.Command.{Command}
use Rattle.lean_shell.specs.declared.words.Command.TheVariants.{Dump, Format, Make, Run}

abbrev pub texts : List (String Global) → List (List ℕ)
texts words = map string_bytes words

-- ## Numbers

-- a text with no sign and no leading zero
pub record IsPlain (text : List ℕ) : Type 0 where
  pub some : 0 < length text
  pub no_sign : slice_index text 0 ≢ 43
  pub no_zero : slice_index text 0 ≡ 48 → length text ≡ 1

-- a text that spells a number in a range
pub record IsNumberIn (from to : ℕ) (text : List ℕ) (n : ℕ) : Type 0 where
  pub spelled : text ≡ decimal n
  pub least : from ≤ n
  pub most : n ≤ to

-- ## Commands and options

-- an option that has to be there: `--NAME VALUE` or `--NAME=VALUE`, once
abbrev pub wanted : List ℕ → Rule
wanted name = record (new_rule name) { long = Some name; required = true }

-- one that has this value where it is not there
abbrev pub with_default : (name value : List ℕ) → Rule
with_default name value = record (new_rule name) { long = Some name; defaults = value ∷ [] }

-- one that has no name, and has to be there: a VALUE in its place
abbrev pub placed : List ℕ → Rule
placed name = record (new_rule name) { required = true }

abbrev pub format_words : App
format_words = with_rule (with_rule (with_rule (new_app (codes "format")) (wanted (codes "workers"))) (wanted (codes "pages"))) (wanted (codes "blocks"))

abbrev pub run_words : App
run_words = with_rule (with_rule (with_rule (new_app (codes "run")) (with_default (codes "rows") (codes "256"))) (with_default (codes "group") (codes "1"))) (with_default (codes "frames") (codes "256"))

abbrev pub make_words : App
make_words = with_rule (with_rule (new_app (codes "make")) (placed (codes "number"))) (placed (codes "count"))

abbrev pub dump_words : App
dump_words = new_app (codes "dump")

-- a command has to be there
abbrev pub wanting : App → App
wanting app = record app { top = record app.top { subcommand_required = true } }

-- the program's command line
unfoldable pub lean_words : App
lean_words = wanting (with_subcommand (with_subcommand (with_subcommand (with_subcommand (new_app (codes "lean")) format_words.top) run_words.top) make_words.top) dump_words.top)

-- ## What words ask for

-- As clap takes words, behind the program's name, these give this command with its options; there is no fault in them, and they ask for no help.
pub record Names (words : List (List ℕ)) (command : List ℕ) (options : List Row) : Type 0 where
  pub no_fault : fault_of lean_words words ≡ []
  pub are : subcommand_of lean_words words ≡ Some (command, options)

-- an option's value spells a number in a range
pub record Gives (options : List Row) (name : List ℕ) (from to n : ℕ) : Type 0 where
  pub text : List ℕ
  pub value : first_of name options ≡ Some text
  pub number : IsNumberIn from to text n

-- so do those of lock rows, of how many commits are flushed at once, and of frames; there may be sixteen sessions
pub record GivesSize (options : List Row) (size : Size) : Type 0 where
  pub rows : Gives options (codes "rows") 16 4096 size.rows
  pub group : Gives options (codes "group") 1 64 size.group
  pub frames : Gives options (codes "frames") 32 4096 size.frames
  pub sessions : size.sessions ≡ 16

-- `format --workers W --pages P --blocks N`, in any order
pub record AsksFormat (words : List (List ℕ)) (shape : Shape) : Type 0 where
  pub options : List Row
  pub names : Names words (codes "format") options
  pub workers : Gives options (codes "workers") 1 16 shape.workers
  pub pages : Gives options (codes "pages") 16 65536 shape.pages
  pub blocks : Gives options (codes "blocks") 64 4096 shape.blocks

-- `run`, or `run --rows R --group C --frames F`, in any order, or with some of them
pub record AsksRun (words : List (List ℕ)) (size : Size) : Type 0 where
  pub options : List Row
  pub names : Names words (codes "run") options
  pub given : GivesSize options size

-- the number of a workload, and how many transactions it has
pub record GivesWorkload (options : List Row) (workload : Workload) : Type 0 where
  pub number : Gives options (codes "number") 0 (2 ^ 64 - 1) workload.number
  pub count : Gives options (codes "count") 1 1000000 workload.count

-- `make NUMBER COUNT`
pub record AsksMake (words : List (List ℕ)) (workload : Workload) : Type 0 where
  pub options : List Row
  pub names : Names words (codes "make") options
  pub given : GivesWorkload options workload

-- `dump`
pub record AsksDump (words : List (List ℕ)) : Type 0 where
  pub options : List Row
  pub names : Names words (codes "dump") options

-- the words ask for this
abbrev pub Asks : List (List ℕ) → Command → Type 0
Asks words (Format shape) = AsksFormat words shape
Asks words (Run size) = AsksRun words size
Asks words (Make workload) = AsksMake words workload
Asks words Dump = AsksDump words

-- they ask for nothing
abbrev pub AsksNothing : List (List ℕ) → Type 0
AsksNothing words = (command : Command) → Asks words command → ⊥
