-- What is written as a reply is read back.
use Rattle.std.proofs.Common.{◌≡◌, ◌++◌, ◌∷◌, [], ℕ, List, Some, None, codes, ◌∙◌, refl, sym, ap, subst, ◌^◌, ◌<◌, true, length, take, drop, arith, rules}
use Rattle.std.proofs.lemmas.List.{take_at, drop_at}
use mathlib.Core.List.{append_assoc}
use Rattle.std.proofs.lemmas.Slice.Eq.{bytes_eq-Decides}
use Rattle.std.specs.Str.{bytes_eq}
use Rattle.std.specs.Fmt.{decimal}
use Rattle.script_lang.specs.Words.{number_of}
use Rattle.script_lang.specs.Pieces.{name}
use Rattle.map_model.specs.Outputs.{Reply}
use Rattle.script_lang.specs.Replies.{reply_text, reply_of, answer_text, said_of, after_prefix, numbered, Fits, AnswerFits}
use Rattle.script_lang.specs.Text.{IsLine}
use Rattle.map_model.specs.Outputs.Reply.{Answered, Durable}
use Rattle.map_model.specs.declared.call.Answer.{Answer}
use Rattle.map_model.specs.declared.call.Answer.TheVariants.{Begun, Value, Was, Pair, More, End, Committed, Aborted, Synced, Refused}
use Rattle.map_model.specs.declared.call.Refusal.TheVariants.{InTransaction, NoTransaction, TooLong, LogFull, ClockSpent, RowSpent, Conflict, TooTall, NoPages}
use Rattle.script_lang.proofs.NumberLemmas.{Digits, digits, digits_wide, word_number, word_name, word_last, after_last, word_before, after_before, number_is}

prefix_is : (prefix ds : List ℕ) → after_prefix prefix (prefix ++ ds) ≡ number_of ds
prefix_is prefix ds =
    let t : take (length prefix) (prefix ++ ds) ≡ prefix = take_at prefix ds (length prefix) refl in
    let d : drop (length prefix) (prefix ++ ds) ≡ ds = drop_at prefix ds (length prefix) refl in
    let same : bytes_eq prefix prefix ≡ true = (bytes_eq-Decides prefix prefix).1 refl in
    rw (t, d, same) refl

name_is : (s n : ℕ) → n < 2 ^ 64 → numbered s (name s n) ≡ Some n
name_is s n small =
    let e : (decimal s ++ 46 ∷ []) ++ decimal n ≡ name s n = append_assoc (decimal s) (46 ∷ []) (decimal n) in
    let P : List ℕ → Type 0 = λ t. numbered s t ≡ Some n in
    subst P e (prefix_is (decimal s ++ 46 ∷ []) (decimal n) ∙ number_is n small)

-- an answer to a session is read behind it
abbrev IsSaid : ℕ → Answer → Type 0
IsSaid s (Synced g) = Unit {0}
IsSaid s a = said_of s (Some (answer_text s a)) ≡ Some (Answered s a)

said_back : (s : ℕ) (a : Answer) → s < 2 ^ 64 → AnswerFits a → IsSaid s a
said_back s (Begun n) small h = let d = word_name s n small h in rw (word_last (name s n) d, after_last (name s n) d, name_is s n h) refl
said_back s (Value (Some n)) small h = let d = word_number n h in rw (word_last (decimal n) d, number_is n h, after_last (decimal n) d) refl
said_back s (Value None) small h = refl
said_back s (Was (Some n)) small h = let d = word_number n h in rw (word_last (decimal n) d, number_is n h, after_last (decimal n) d) refl
said_back s (Was None) small h = refl
said_back s (Pair k v) small h =
    let d = word_number k h.0 in
    let e = word_number v h.1 in
    rw (word_before (decimal k) (decimal v) d, after_before (decimal k) (decimal v) d, number_is k h.0, word_last (decimal v) e, number_is v h.1, after_last (decimal v) e) refl
said_back s (More k) small h = let d = word_number k h in rw (word_last (decimal k) d, number_is k h, after_last (decimal k) d) refl
said_back s End small h = refl
said_back s (Committed n g) small h =
    let d = word_name s n small h.0 in
    let e = word_number g h.1 in
    let more = codes "at " ++ decimal g in
    rw (word_before (name s n) more d, after_before (name s n) more d, name_is s n h.0, word_last (decimal g) e, number_is g h.1, after_last (decimal g) e) refl
said_back s (Aborted n) small h = let d = word_name s n small h in rw (word_last (name s n) d, after_last (name s n) d, name_is s n h) refl
said_back s (Synced g) small h = tt
said_back s (Refused InTransaction) small h = refl
said_back s (Refused NoTransaction) small h = refl
said_back s (Refused TooLong) small h = refl
said_back s (Refused (LogFull u l)) small h =
    let used : u < 2 ^ 64 = omega arith in
    let limit : l < 2 ^ 64 = omega arith in
    let d = word_number u used in
    let e = word_number l limit in
    rw (word_before (decimal u) (decimal l) d, after_before (decimal u) (decimal l) d, number_is u used, word_last (decimal l) e, number_is l limit, after_last (decimal l) e) refl
said_back s (Refused ClockSpent) small h = refl
said_back s (Refused RowSpent) small h = refl
said_back s (Refused (Conflict n)) small h =
    let fits : n < 2 ^ 64 = omega arith in
    let d = word_number n fits in rw (word_last (decimal n) d, number_is n fits, after_last (decimal n) d) refl
said_back s (Refused TooTall) small h = refl
said_back s (Refused NoPages) small h = refl
said_back s (Refused _) small h = absurd h
said_back s _ small h = absurd h

named_back : (s : ℕ) (a : Answer) → s < 2 ^ 32 → (s < 2 ^ 64 → said_of s (Some (answer_text s a)) ≡ Some (Answered s a)) → reply_of (decimal s ++ 32 ∷ answer_text s a) ≡ Some (Answered s a)
named_back s a fits said =
    let small : s < 2 ^ 64 = omega arith in
    let w = word_number s small in
    rw (word_before (decimal s) (answer_text s a) w, number_is s small, after_before (decimal s) (answer_text s a) w) (said small)

synced_back : (g : ℕ) → g < 2 ^ 64 → reply_of (codes "synced " ++ decimal g) ≡ Some (Answered 0 (Synced g))
synced_back g fits = let d = word_number g fits in rw (word_last (decimal g) d, number_is g fits, after_last (decimal g) d) refl

pub read_back : (r : Reply) → Fits r → reply_of (reply_text r) ≡ Some r
read_back (Answered s (Synced g)) h = synced_back g h.1 ∙ ap (λ (s : ℕ). Some (Answered s (Synced g))) (sym h.0)
read_back (Answered s a) h = named_back s a h.0 (λ small. said_back s a small h.1)
read_back (Durable s n) h =
    let small : s < 2 ^ 64 = let k : s < 2 ^ 32 = h.0 in omega arith in
    let w = word_number s small in
    let d = word_name s n small h.1 in
    let more = codes "durable " ++ name s n in
    rw (word_before (decimal s) more w, number_is s small, after_before (decimal s) more w, word_last (name s n) d, after_last (name s n) d, name_is s n h.1) refl

line_digits : (ds more : List ℕ) → Digits ds → IsLine more → IsLine (ds ++ more)
line_digits [] more h is = is
line_digits (d ∷ ds) more h is = let low : 47 < d = h.0 in ((λ e. omega arith), line_digits ds more h.2 is)

line_only : (ds : List ℕ) → Digits ds → IsLine ds
line_only [] h = tt
line_only (d ∷ ds) h = let low : 47 < d = h.0 in ((λ e. omega arith), line_only ds h.2)

pub line_wide : (n : ℕ) → n < 10 ^ 64 → IsLine (decimal n)
line_wide n small = line_only (decimal n) (digits_wide n small)

pub line_number : (n : ℕ) → n < 2 ^ 64 → IsLine (decimal n)
line_number n small = line_only (decimal n) (digits n small)

pub line_with_number : (n : ℕ) (more : List ℕ) → n < 2 ^ 64 → IsLine more → IsLine (decimal n ++ more)
line_with_number n more small is = line_digits (decimal n) more (digits n small) is

line_name : (s n : ℕ) → s < 2 ^ 64 → n < 2 ^ 64 → IsLine (name s n)
line_name s n h k = line_with_number s (46 ∷ decimal n) h (let t = line_number n k in search (rules, t))

line_append : (xs ys : List ℕ) → IsLine xs → IsLine ys → IsLine (xs ++ ys)
line_append [] ys h k = k
line_append (x ∷ xs) ys h k = (h.0, line_append xs ys h.1 k)

answer_line : (s : ℕ) (a : Answer) → s < 2 ^ 64 → AnswerFits a → IsLine (answer_text s a)
answer_line s (Begun n) small h = let t = line_name s n small h in search (rules, t)
answer_line s (Value (Some n)) small h = let t = line_number n h in search (rules, t)
answer_line s (Value None) small h = search rules
answer_line s (Was (Some n)) small h = let t = line_number n h in search (rules, t)
answer_line s (Was None) small h = search rules
answer_line s (Pair k v) small h =
    let last = line_number v h.1 in
    let value : IsLine (32 ∷ decimal v) = search (rules, last) in
    let t = line_with_number k (32 ∷ decimal v) h.0 value in
    search (rules, t)
answer_line s (More k) small h = let t = line_number k h in search (rules, t)
answer_line s End small h = search rules
answer_line s (Committed n g) small h =
    let g_line = line_number g h.1 in
    let at_line : IsLine (codes " at " ++ decimal g) = search (rules, g_line) in
    let t = line_append (name s n) (codes " at " ++ decimal g) (line_name s n small h.0) at_line in
    search (rules, t)
answer_line s (Aborted n) small h = let t = line_name s n small h in search (rules, t)
answer_line s (Synced n) small h = let t = line_number n h in search (rules, t)
answer_line s (Refused InTransaction) small h = search rules
answer_line s (Refused NoTransaction) small h = search rules
answer_line s (Refused TooLong) small h = search rules
answer_line s (Refused (LogFull u l)) small h =
    let limit = line_number l (omega arith) in
    let space : IsLine (32 ∷ decimal l) = search (rules, limit) in
    let t = line_with_number u (32 ∷ decimal l) (omega arith) space in
    search (rules, t)
answer_line s (Refused ClockSpent) small h = search rules
answer_line s (Refused RowSpent) small h = search rules
answer_line s (Refused (Conflict n)) small h = let fits : n < 2 ^ 64 = omega arith in let t = line_number n fits in search (rules, t)
answer_line s (Refused TooTall) small h = search rules
answer_line s (Refused NoPages) small h = search rules
answer_line s (Refused _) small h = absurd h
answer_line s _ small h = absurd h

named_line : (s : ℕ) (a : Answer) → s < 2 ^ 32 → AnswerFits a → IsLine (decimal s ++ 32 ∷ answer_text s a)
named_line s a h fits =
    let small : s < 2 ^ 64 = omega arith in
    let t = answer_line s a small fits in
    line_with_number s (32 ∷ answer_text s a) small ((λ e. omega arith), t)

pub one_line : (r : Reply) → Fits r → IsLine (reply_text r)
one_line (Answered s (Synced g)) h = answer_line 0 (Synced g) (omega arith) h.1
one_line (Answered s a) h = named_line s a h.0 h.1
one_line (Durable s n) h =
    let small : s < 2 ^ 64 = let k : s < 2 ^ 32 = h.0 in omega arith in
    let t = line_name s n small h.1 in
    let u : IsLine (32 ∷ (codes "durable " ++ name s n)) = search (rules, t) in
    line_with_number s (32 ∷ (codes "durable " ++ name s n)) small u
