-- The lines of output that are replies, each without its newline: how one is spelled, and how it is read back.
use Rattle.std.specs.Prelude.{◌≡◌, ◌^◌, ◌++◌, ◌<◌, ℕ, List, [], ◌∷◌, Option, Some, None, if◌then◌else◌, codes, length, take, drop}
use Rattle.std.specs.Str.{bytes_eq}
use Rattle.std.specs.Fmt.{decimal}
use Rattle.script_lang.specs.Words.{word, rest, number_of, ends, with_one, with_two}
use Rattle.script_lang.specs.Pieces.{name}
use Rattle.map_model.specs.declared.call.Answer.{Answer}
use Rattle.map_model.specs.declared.call.Answer.TheVariants.{Begun, Value, Was, Pair, More, End, Committed, Aborted, Synced, Refused}
use Rattle.map_model.specs.declared.call.Refusal.{Refusal}
use Rattle.map_model.specs.Outputs.{Reply}
use Rattle.map_model.specs.Outputs.Reply.{Answered, Durable}
use Rattle.map_model.specs.declared.call.Refusal.TheVariants.{InTransaction, NoTransaction, TooLong, LogFull, ClockSpent, RowSpent, Conflict, TooTall, NoPages}

-- A refusal or an answer with no line yet has no text.
abbrev pub refusal_text : Refusal → List ℕ
refusal_text InTransaction = codes "in-transaction"
refusal_text NoTransaction = codes "no-transaction"
refusal_text TooLong = codes "too-long"
refusal_text (LogFull used limit) = codes "log-full " ++ (decimal used ++ 32 ∷ decimal limit)
refusal_text ClockSpent = codes "clock-spent"
refusal_text RowSpent = codes "row-spent"
refusal_text (Conflict holder) = codes "conflict " ++ decimal holder
refusal_text TooTall = codes "too-tall"
refusal_text NoPages = codes "no-pages"
refusal_text _ = []

-- an answer, behind the session that it names
abbrev pub answer_text : ℕ → Answer → List ℕ
answer_text s (Begun n) = codes "begun " ++ name s n
answer_text s (Value (Some v)) = codes "value " ++ decimal v
answer_text s (Value None) = codes "none"
answer_text s (Was (Some v)) = codes "was " ++ decimal v
answer_text s (Was None) = codes "was none"
answer_text s (Pair key value) = codes "pair " ++ (decimal key ++ 32 ∷ decimal value)
answer_text s (More from) = codes "more " ++ decimal from
answer_text s End = codes "end"
answer_text s (Committed n g) = codes "committed " ++ (name s n ++ (codes " at " ++ decimal g))
answer_text s (Aborted n) = codes "aborted " ++ name s n
answer_text s (Synced g) = codes "synced " ++ decimal g
answer_text s (Refused r) = refusal_text r
answer_text s _ = []

-- a reply: that to a sync names no session
abbrev pub reply_text : Reply → List ℕ
reply_text (Answered s (Synced g)) = answer_text s (Synced g)
reply_text (Answered s a) = decimal s ++ 32 ∷ answer_text s a
reply_text (Durable s n) = decimal s ++ 32 ∷ (codes "durable " ++ name s n)

-- and with its newline
abbrev pub reply_line : Reply → List ℕ
reply_line reply = reply_text reply ++ 10 ∷ []

-- Read back: the number of a session's transaction, from its name.
abbrev pub after_prefix : List ℕ → List ℕ → Option ℕ
after_prefix prefix text = if bytes_eq (take (length prefix) text) prefix then number_of (drop (length prefix) text) else None

abbrev pub numbered : ℕ → List ℕ → Option ℕ
numbered s text = after_prefix (decimal s ++ 46 ∷ []) text

abbrev pub was_of : ℕ → Option ℕ → Option (List ℕ) → Option Reply
was_of s (Some n) words = ends (Answered s (Was (Some n))) (rest words)
was_of s None words = if bytes_eq (word words) (codes "none") then ends (Answered s (Was None)) (rest words) else None

abbrev pub committed_of : ℕ → Option (List ℕ) → Option Reply
committed_of s words =
    if bytes_eq (word (rest words)) (codes "at") then with_two (λ n g. Answered s (Committed n g)) (numbered s (word words)) (number_of (word (rest (rest words)))) (rest (rest (rest words)))
    else None

abbrev pub refused_of : ℕ → Option (List ℕ) → Option Reply
refused_of s words =
    if bytes_eq (word words) (codes "in-transaction") then ends (Answered s (Refused InTransaction)) (rest words)
    else if bytes_eq (word words) (codes "no-transaction") then ends (Answered s (Refused NoTransaction)) (rest words)
    else if bytes_eq (word words) (codes "too-long") then ends (Answered s (Refused TooLong)) (rest words)
    else if bytes_eq (word words) (codes "log-full") then
    with_two (λ u l. Answered s (Refused (LogFull u l))) (number_of (word (rest words))) (number_of (word (rest (rest words)))) (rest (rest (rest words)))
    else if bytes_eq (word words) (codes "clock-spent") then ends (Answered s (Refused ClockSpent)) (rest words)
    else if bytes_eq (word words) (codes "row-spent") then ends (Answered s (Refused RowSpent)) (rest words)
    else if bytes_eq (word words) (codes "conflict") then with_one (λ h. Answered s (Refused (Conflict h))) (number_of (word (rest words))) (rest (rest words))
    else if bytes_eq (word words) (codes "too-tall") then ends (Answered s (Refused TooTall)) (rest words)
    else if bytes_eq (word words) (codes "no-pages") then ends (Answered s (Refused NoPages)) (rest words)
    else None

abbrev pub said_of : ℕ → Option (List ℕ) → Option Reply
said_of s words =
    if bytes_eq (word words) (codes "begun") then with_one (λ n. Answered s (Begun n)) (numbered s (word (rest words))) (rest (rest words))
    else if bytes_eq (word words) (codes "value") then with_one (λ n. Answered s (Value (Some n))) (number_of (word (rest words))) (rest (rest words))
    else if bytes_eq (word words) (codes "none") then ends (Answered s (Value None)) (rest words)
    else if bytes_eq (word words) (codes "was") then was_of s (number_of (word (rest words))) (rest words)
    else if bytes_eq (word words) (codes "pair") then
    with_two (λ k v. Answered s (Pair k v)) (number_of (word (rest words))) (number_of (word (rest (rest words)))) (rest (rest (rest words)))
    else if bytes_eq (word words) (codes "more") then with_one (λ k. Answered s (More k)) (number_of (word (rest words))) (rest (rest words))
    else if bytes_eq (word words) (codes "end") then ends (Answered s End) (rest words)
    else if bytes_eq (word words) (codes "committed") then committed_of s (rest words)
    else if bytes_eq (word words) (codes "aborted") then with_one (λ n. Answered s (Aborted n)) (numbered s (word (rest words))) (rest (rest words))
    else if bytes_eq (word words) (codes "durable") then with_one (λ n. Durable s n) (numbered s (word (rest words))) (rest (rest words))
    else refused_of s words

-- what is said to no session
abbrev pub synced_of : Option (List ℕ) → Option Reply
synced_of words =
    if bytes_eq (word words) (codes "synced") then with_one (λ g. Answered 0 (Synced g)) (number_of (word (rest words))) (rest (rest words))
    else None

abbrev pub said_by : Option ℕ → Option (List ℕ) → Option Reply
said_by (Some s) words = said_of s (rest words)
said_by None words = synced_of words

abbrev pub reply_of : List ℕ → Option Reply
reply_of line = said_by (number_of (word (Some line))) (Some line)

-- it has a line by now, and numbers fit their types
abbrev pub RefusalFits : Refusal → Type 0
RefusalFits InTransaction = Unit {0}
RefusalFits NoTransaction = Unit {0}
RefusalFits TooLong = Unit {0}
RefusalFits (LogFull used limit) = (used < 2 ^ 32) × (limit < 2 ^ 32)
RefusalFits ClockSpent = Unit {0}
RefusalFits RowSpent = Unit {0}
RefusalFits (Conflict holder) = holder < 2 ^ 32
RefusalFits TooTall = Unit {0}
RefusalFits NoPages = Unit {0}
RefusalFits _ = ⊥

abbrev pub AnswerFits : Answer → Type 0
AnswerFits (Begun n) = n < 2 ^ 64
AnswerFits (Value (Some v)) = v < 2 ^ 64
AnswerFits (Value None) = Unit {0}
AnswerFits (Was (Some v)) = v < 2 ^ 64
AnswerFits (Was None) = Unit {0}
AnswerFits (Pair key value) = (key < 2 ^ 64) × (value < 2 ^ 64)
AnswerFits (More from) = from < 2 ^ 64
AnswerFits End = Unit {0}
AnswerFits (Committed n g) = (n < 2 ^ 64) × (g < 2 ^ 64)
AnswerFits (Aborted n) = n < 2 ^ 64
AnswerFits (Synced g) = g < 2 ^ 64
AnswerFits (Refused r) = RefusalFits r
AnswerFits _ = ⊥

-- a sync is answered to session 0
abbrev pub SessionFits : ℕ → Answer → Type 0
SessionFits s (Synced g) = s ≡ 0
SessionFits s a = s < 2 ^ 32

abbrev pub Fits : Reply → Type 0
Fits (Answered s a) = SessionFits s a × AnswerFits a
Fits (Durable s n) = (s < 2 ^ 32) × (n < 2 ^ 64)
