-- The lines of a script, each without its newline: how a line is spelled, and the line that bytes spell.
use Rattle.std.specs.Prelude.{◌≡◌, ◌^◌, ◌-◌, ◌+◌, ◌++◌, ◌<◌, ◌≤◌, ℕ, List, [], ◌∷◌, Option, Some, None, if◌then◌else◌, codes, length, nat_lt, option_map}
use Rattle.std.specs.Str.{bytes_eq}
use Rattle.std.specs.Fmt.{decimal}
use Rattle.script_lang.specs.Words.{word, rest, number_of, ranged, ends, with_one, with_two}
use Rattle.script_lang.specs.declared.line.Line.{Line}
use Rattle.map_model.specs.declared.call.Call.{Call}
use Rattle.map_model.specs.declared.call.Call.TheVariants.{Begin, Get, Put, Del, Scan, Commit, Abort, Sync}

-- what is asked, as it is spelled; a call with no line yet has no text
abbrev pub call_text : Call → List ℕ
call_text Begin = codes "begin"
call_text (Get key) = codes "get " ++ decimal key
call_text (Put key value) = codes "put " ++ (decimal key ++ 32 ∷ decimal value)
call_text (Del key) = codes "del " ++ decimal key
call_text (Scan from to) = codes "scan " ++ (decimal from ++ 32 ∷ decimal to)
call_text Commit = codes "commit"
call_text Abort = codes "abort"
call_text Sync = codes "sync"
call_text _ = []

-- a line, as it is spelled: no session stands before a sync
abbrev pub text_by : ℕ → Call → List ℕ
text_by session Sync = call_text Sync
text_by session call = decimal session ++ 32 ∷ call_text call

abbrev pub line_text : Line → List ℕ
line_text line = text_by line.session line.call

-- a sync is of session 0, any other call of a worker's session
abbrev pub IsSessionOf : ℕ → ℕ → Call → Type 0
IsSessionOf workers session Sync = session ≡ 0
IsSessionOf workers session call = (1 ≤ session) × (session ≤ workers)

-- the call has a line by now, keys are below 2 ^ 64 - 1, values below 2 ^ 63
abbrev pub CallFits : Call → Type 0
CallFits Begin = Unit {0}
CallFits (Get key) = key < 2 ^ 64 - 1
CallFits (Put key value) = (key < 2 ^ 64 - 1) × (value < 2 ^ 63)
CallFits (Del key) = key < 2 ^ 64 - 1
CallFits (Scan from to) = (from < 2 ^ 64 - 1) × (to < 2 ^ 64 - 1)
CallFits Commit = Unit {0}
CallFits Abort = Unit {0}
CallFits Sync = Unit {0}
CallFits _ = ⊥

-- the bytes spell this line of a script for so many workers
pub record Spells (workers : ℕ) (bytes : List ℕ) (line : Line) : Type 0 where
  pub spelled : bytes ≡ line_text line
  pub session : IsSessionOf workers line.session line.call
  pub call : CallFits line.call

-- The same, read from the bytes: what the words after the verb ask, those after the session, and the line.
abbrev pub key_of : Option (List ℕ) → Option ℕ
key_of words = with_one (λ key. key) (ranged 0 (2 ^ 64 - 1) (number_of (word words))) (rest words)

abbrev pub put_of : Option (List ℕ) → Option Call
put_of words = with_two Put (ranged 0 (2 ^ 64 - 1) (number_of (word words))) (ranged 0 (2 ^ 63) (number_of (word (rest words)))) (rest (rest words))

abbrev pub scan_of : Option (List ℕ) → Option Call
scan_of words = with_two Scan (ranged 0 (2 ^ 64 - 1) (number_of (word words))) (ranged 0 (2 ^ 64 - 1) (number_of (word (rest words)))) (rest (rest words))

abbrev pub lone_verb_of : Option (List ℕ) → Option Call
lone_verb_of words =
    if bytes_eq (word words) (codes "begin") then ends Begin (rest words)
    else if bytes_eq (word words) (codes "commit") then ends Commit (rest words)
    else if bytes_eq (word words) (codes "abort") then ends Abort (rest words)
    else None

abbrev pub verb_of : Option (List ℕ) → Option Call
verb_of words =
    if bytes_eq (word words) (codes "get") then option_map Get (key_of (rest words))
    else if bytes_eq (word words) (codes "put") then put_of (rest words)
    else if bytes_eq (word words) (codes "del") then option_map Del (key_of (rest words))
    else if bytes_eq (word words) (codes "scan") then scan_of (rest words)
    else lone_verb_of words

abbrev pub line_with : Option ℕ → Option Call → Option Line
line_with (Some session) (Some call) = Some (record { session = session; call = call })
line_with (Some session) None = None
line_with None call = None

abbrev pub sync_line : Line
sync_line = record { session = 0; call = Sync }

abbrev pub line_of : ℕ → List ℕ → Option Line
line_of workers bytes =
    if nat_lt 80 (length bytes) then None
    else if bytes_eq bytes (codes "sync") then Some sync_line
    else line_with (ranged 1 (workers + 1) (number_of (word (Some bytes)))) (verb_of (rest (Some bytes)))
