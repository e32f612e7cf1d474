-- Words of private functions: a command line of clap's, and what its matches ask for.
use Rattle.std.specs.Prelude.{◌≡◌, ℕ, false, List, Some, Option, codes}
use Rattle.clap.specs.Words.{App, Row, app_of}
use Rattle.clap.specs.declared.builder.Command.TheViews.{out-Command as fields_of}
use Rattle.clap.specs.declared.builder.Command.{Command as Line}
use Rattle.buffered_engine.specs.disk_format.declared.shape.Shape.{Shape}
use Rattle.lean_shell.specs.Words.{Gives, GivesSize, GivesWorkload}
use Rattle.lean_shell.specs.declared.words.Command.{Command}
use Rattle.lean_shell.specs.declared.words.Command.TheVariants.{Dump, Format, Make, Run}

-- a command line with these commands and options
pub record IsLine (app : App) (line : Line) : Type 0 where
  pub reads : app_of line ≡ app
  pub local : (fields_of line).has_globals ≡ false

-- the numbers of workers, of pages and of blocks
pub record GivesShape (options : List Row) (shape : Shape) : Type 0 where
  pub workers : Gives options (codes "workers") 1 16 shape.workers
  pub pages : Gives options (codes "pages") 16 65536 shape.pages
  pub blocks : Gives options (codes "blocks") 64 4096 shape.blocks

-- a command's name and its options ask for this
abbrev pub AsksBy : (name : List ℕ) (options : List Row) → Command → Type 0
AsksBy name options (Format shape) = (name ≡ codes "format") × GivesShape options shape
AsksBy name options (Run size) = (name ≡ codes "run") × GivesSize options size
AsksBy name options (Make workload) = (name ≡ codes "make") × GivesWorkload options workload
AsksBy name options Dump = name ≡ codes "dump"

-- so do the matches, if they are of a command
abbrev pub AsksAs : Option (List ℕ × List Row) → Command → Type 0
AsksAs met command = (name : List ℕ) × (options : List Row) × (met ≡ Some (name, options)) × AsksBy name options command
