-- Which line of a script an answer belongs to: the k-th line of a session is answered by the k-th group of answers that name it.
use Rattle.std.specs.Prelude.{◌≡◌, if◌then◌else◌, ℕ, Bool, true, false, ◌&&◌, ◌==◌, List, [], ◌∷◌, ◌++◌, Option, Some, None}
use Rattle.map_model.specs.declared.call.Call.{Call}
use Rattle.map_model.specs.declared.call.Answer.{Answer}
use Rattle.map_model.specs.declared.call.Answer.TheVariants as answer
use Rattle.map_model.specs.declared.call.Answered.{Answered}
use Rattle.map_model.specs.declared.call.Refusal.{Refusal}
use Rattle.map_model.specs.declared.call.Refusal.TheVariants as refusal
use Rattle.map_model.specs.Lists.{any, keep}

-- behind a conflict comes that its transaction is aborted
abbrev pub is_last_refusal : Refusal → Bool
is_last_refusal (refusal.Conflict holder) = false
is_last_refusal _ = true

-- No further answer belongs to the same line. Behind a pair of a scan, and behind a conflict, there comes one.
abbrev pub is_last : Answer → Bool
is_last (answer.Pair key value) = false
is_last (answer.Refused why) = is_last_refusal why
is_last _ = true

-- the first line of a session, if it has one
abbrev pub first_call : ℕ → List (ℕ × Call) → Option Call
first_call session [] = None
first_call session (x ∷ xs) = if x.0 == session then Some x.1 else first_call session xs

-- the lines without it
abbrev pub rest_of : ℕ → List (ℕ × Call) → List (ℕ × Call)
rest_of session [] = []
rest_of session (x ∷ xs) = if x.0 == session then xs else x ∷ rest_of session xs

-- an answer for which there is no line is left out
abbrev pub pair_onto : Option Call → ℕ → Answer → List Answered → List Answered
pair_onto None session a behind = behind
pair_onto (Some c) session a behind = record { session = session; call = c; answer = a } ∷ behind

-- each answer, the oldest first, with the first line of its session that is not answered in full before it
abbrev pub grouped : List (ℕ × Call) → List (ℕ × Answer) → List Answered
grouped asked [] = []
grouped asked (x ∷ xs) = pair_onto (first_call x.0 asked) x.0 x.1 (grouped (if is_last x.1 then rest_of x.0 asked else asked) xs)

-- one of them is the last to a line of the session
abbrev pub ends_for : ℕ → List Answered → Bool
ends_for session xs = any (λ x. (x.session == session) && is_last x.answer) xs

-- An answer counts only with the last one to its line: those of an unfinished group are left out.
abbrev pub counted : List Answered → List Answered
counted [] = []
counted (x ∷ xs) = if ends_for x.session (x ∷ xs) then x ∷ counted xs else counted xs

-- the answers that count, each with its line
abbrev pub paired : List (ℕ × Call) → List (ℕ × Answer) → List Answered
paired asked answers = counted (grouped asked answers)

-- ## Of answers that were given

-- they without their lines
abbrev pub answers_in : List Answered → List (ℕ × Answer)
answers_in [] = []
answers_in (x ∷ xs) = (x.session, x.answer) ∷ answers_in xs

-- the lines of one session
abbrev pub calls_of : ℕ → List (ℕ × Call) → List Call
calls_of session [] = []
calls_of session (x ∷ xs) = if x.0 == session then x.1 ∷ calls_of session xs else calls_of session xs

abbrev pub is_of : ℕ → Answered → Bool
is_of session x = x.session == session

-- One session's lines are answered in turn: each answer is to the line that comes first, which is done with behind the last answer to it.
abbrev pub AreAnswered : List Call → List Answered → Type 0
AreAnswered lines [] = Unit {0}
AreAnswered [] (x ∷ xs) = ⊥
AreAnswered (c ∷ lines) (x ∷ xs) = (x.call ≡ c) × AreAnswered (if is_last x.answer then lines else c ∷ lines) xs

-- and so are those of each session
abbrev pub EachIsAnswered : List (ℕ × Call) → List Answered → Type 0
EachIsAnswered asked xs = (session : ℕ) → AreAnswered (calls_of session asked) (keep (is_of session) xs)

-- What follows is of lists that have the newest first. They, the oldest first:
abbrev pub in_turn : List Answered → List Answered
in_turn [] = []
in_turn (x ∷ earlier) = in_turn earlier ++ x ∷ []

-- the newest answer is not the last to its line
abbrev pub is_open_line : List Answered → Bool
is_open_line [] = false
is_open_line (x ∷ earlier) = if is_last x.answer then false else true

-- the lines that were executed, the oldest first
abbrev pub script_of : List Answered → List (ℕ × Call)
script_of [] = []
script_of (x ∷ earlier) = if is_open_line earlier then script_of earlier else script_of earlier ++ (x.session, x.call) ∷ []

-- a further answer to a line is of its session, and to its call
abbrev pub GoesOn : List Answered → Answered → Type 0
GoesOn [] x = Unit {0}
GoesOn (y ∷ earlier) x = is_last y.answer ≡ false → (x.session ≡ y.session) × (x.call ≡ y.call)

abbrev pub EachGoesOn : List Answered → Type 0
EachGoesOn [] = Unit {0}
EachGoesOn (x ∷ earlier) = EachGoesOn earlier × GoesOn earlier x
