-- What is printed: the lines of output that name a session. Lists of them have the newest first.
use Rattle.std.specs.Prelude.{ℕ, List, [], ◌∷◌, ◌++◌}
use Rattle.map_model.specs.declared.call.Answer.{Answer}
use Rattle.map_model.specs.declared.call.Answer.TheVariants as answer
use Rattle.map_model.specs.Lists.{Has}
use Rattle.map_model.specs.Journals.{Name}

-- a session is answered, or told that its transaction is durable
pub data Reply : Type 0 where
  Answered : ℕ → Answer → Reply
  Durable : ℕ → ℕ → Reply

-- the answers among them, the oldest first
abbrev pub answer_of : Reply → List (ℕ × Answer)
answer_of (Reply.Answered session a) = (session, a) ∷ []
answer_of _ = []

abbrev pub answers_told : List Reply → List (ℕ × Answer)
answers_told [] = []
answers_told (r ∷ earlier) = answers_told earlier ++ answer_of r

-- the transactions that they tell to be durable, the oldest first
abbrev pub name_of : Reply → List Name
name_of (Reply.Durable session number) = record { session = session; number = number } ∷ []
name_of _ = []

abbrev pub names : List Reply → List Name
names [] = []
names (r ∷ earlier) = names earlier ++ name_of r

-- the session is told that its transaction of this number is committed
pub record TellsCommit (session number : ℕ) (told : List Reply) : Type 0 where
  pub at : ℕ
  pub has : Has (Reply.Answered session (answer.Committed number at)) told

-- each line that a transaction is durable stands behind the answer to its commit
abbrev pub AreBehind : List Reply → Type 0
AreBehind [] = Unit {0}
AreBehind (Reply.Durable session number ∷ earlier) = AreBehind earlier × TellsCommit session number earlier
AreBehind (_ ∷ earlier) = AreBehind earlier
