-- What asks and answers more calls stands behind what asks and answers the earlier ones.
use Rattle.std.proofs.Common.{◌≡◌, ◌++◌, ◌∷◌, ◌<◌, ◌≤◌, ◌^◌, [], ℕ, List, Bool, true, false, IsTrue, refl, sym, ap, ◌∙◌, arith, rules}
use Rattle.std.proofs.lemmas.List.{append-nil}
use mathlib.Core.List.{append_assoc}
use Rattle.std.specs.Fmt.{decimal}
use Rattle.map_model.specs.declared.call.Call.{Call}
use Rattle.map_model.specs.declared.call.Call.TheVariants as call
use Rattle.lean_edge.specs.Outside.{Feed}
use Rattle.script_lang.specs.Lines.{CallFits, call_text}
use Rattle.script_lang.specs.Reading.{Unread, Reading}
use Rattle.map_model.specs.Outputs.{Reply}
use Rattle.script_lang.specs.Replies.{reply_line}
use Rattle.script_lang.specs.Text.{last_line, script_lines, IsLine}
use Rattle.script_lang.proofs.ReplyLemmas.{line_number, line_with_number}
use Rattle.map_model.specs.declared.call.Answered.{Answered}
use Rattle.transcripts.specs.Told.{ask, asked_lines, asked_text, durable_of, replies, text_of, LineFits, EachLineFits}
use Rattle.transcripts.proofs.LineLemmas.{first_line}

pub text_append : (newer told : List Reply) → text_of (newer ++ told) ≡ text_of told ++ text_of newer
text_append [] told = sym (append-nil (text_of told))
text_append (r ∷ newer) told = ap (λ (t : List ℕ). t ++ reply_line r) (text_append newer told) ∙ append_assoc (text_of told) (text_of newer) (reply_line r)

pub replies_append : (newer xs : List Answered) → replies (newer ++ xs) ≡ replies newer ++ replies xs
replies_append [] xs = refl
replies_append (x ∷ newer) xs =
    ap (λ (rs : List Reply). durable_of x.session x.answer ++ Reply.Answered x.session x.answer ∷ rs) (replies_append newer xs)
    ∙ sym (append_assoc (durable_of x.session x.answer) (Reply.Answered x.session x.answer ∷ replies newer) (replies xs))

pub lines_append : (xs ys : List (ℕ × Call)) → asked_lines (xs ++ ys) ≡ asked_lines xs ++ asked_lines ys
lines_append [] ys = refl
lines_append (x ∷ xs) ys = ap (λ (ls : List (List ℕ)). ask x.0 x.1 ∷ ls) (lines_append xs ys)

pub asked_append : (xs ys : List (ℕ × Call)) → asked_text (xs ++ ys) ≡ asked_text xs ++ asked_text ys
asked_append [] ys = refl
asked_append (x ∷ xs) ys = ap (λ (t : List ℕ). ask x.0 x.1 ++ 10 ∷ t) (asked_append xs ys) ∙ sym (append_assoc (ask x.0 x.1) (10 ∷ asked_text xs) (asked_text ys))

call_line : (c : Call) → CallFits c → IsLine (call_text c)
call_line call.Begin fits = search rules
call_line call.Commit fits = search rules
call_line call.Abort fits = search rules
call_line call.Sync fits = search rules
call_line (call.Get key) fits = let fits_64 : key < 2 ^ 64 = omega arith in let number = line_number key fits_64 in search (rules, number)
call_line (call.Del key) fits = let fits_64 : key < 2 ^ 64 = omega arith in let number = line_number key fits_64 in search (rules, number)
call_line (call.Put key value) fits =
    let key_64 : key < 2 ^ 64 = omega arith in
    let value_64 : value < 2 ^ 64 = omega arith in
    let last = line_number value value_64 in
    let second : IsLine (32 ∷ decimal value) = search (rules, last) in
    let first = line_with_number key (32 ∷ decimal value) key_64 second in
    search (rules, first)
call_line (call.Scan from to) fits =
    let from_64 : from < 2 ^ 64 = omega arith in
    let to_64 : to < 2 ^ 64 = omega arith in
    let last = line_number to to_64 in
    let second : IsLine (32 ∷ decimal to) = search (rules, last) in
    let first = line_with_number from (32 ∷ decimal to) from_64 second in
    search (rules, first)
call_line _ fits = absurd fits

asked_line : (s : ℕ) (c : Call) → s < 2 ^ 32 → CallFits c → IsLine (decimal s ++ 32 ∷ call_text c)
asked_line s c small fits =
    let rest = call_line c fits in
    let spaced : IsLine (32 ∷ call_text c) = search (rules, rest) in
    line_with_number s (32 ∷ call_text c) (omega arith) spaced

pub ask_line : (workers session : ℕ) (c : Call) → workers < 2 ^ 32 → LineFits workers session c → IsLine (ask session c)
ask_line workers s call.Sync many fits = search rules
ask_line workers s c many fits = asked_line s c (within fits.session) fits.fits
  where
    within : (1 ≤ s) × (s ≤ workers) → s < 2 ^ 32
    within is = let last : s ≤ workers = is.1 in omega arith

-- the lines of a script that begins with what asks calls
pub asked_begins : (workers : ℕ) (xs : List (ℕ × Call)) (more : List ℕ) → workers < 2 ^ 32 → EachLineFits workers xs → script_lines (asked_text xs ++ more) ≡ asked_lines xs ++ script_lines more
asked_begins workers [] more many fit = refl
asked_begins workers (x ∷ xs) more many fit =
    ap script_lines (append_assoc (ask x.0 x.1) (10 ∷ asked_text xs) more)
    ∙ first_line last_line (ask x.0 x.1) (asked_text xs ++ more) (ask_line workers x.0 x.1 many fit.0)
    ∙ ap (λ (ls : List (List ℕ)). ask x.0 x.1 ∷ ls) (asked_begins workers xs more many fit.1)

pub reading : (workers : ℕ) (start now : Feed) (reader : Unread) (xs : List (ℕ × Call)) → workers < 2 ^ 32 → EachLineFits workers xs → Reading start now reader (asked_text xs) → IsTrue start.tells →
    script_lines start.left ≡ asked_lines xs ++ script_lines (reader.bytes ++ now.left)
reading workers start now reader xs many fit r tells = go reader.ended refl
  where
    go : (b : Bool) → reader.ended ≡ b → script_lines start.left ≡ asked_lines xs ++ script_lines (reader.bytes ++ now.left)
    go false e =
        ap script_lines (r.took tells ∙ ap (λ (t : List ℕ). t ++ now.left) (sym (r.exact e)) ∙ append_assoc (asked_text xs) reader.bytes now.left)
        ∙ asked_begins workers xs (reader.bytes ++ now.left) many fit
    go true e =
        let none : now.left ≡ [] = r.end e tells in
        ap script_lines (r.took tells ∙ ap (λ (t : List ℕ). r.taken ++ t) none ∙ append-nil r.taken) ∙ sym r.lines
        ∙ asked_begins workers xs reader.bytes many fit
        ∙ ap (λ (t : List ℕ). asked_lines xs ++ script_lines t) (sym (append-nil reader.bytes) ∙ ap (λ (t : List ℕ). reader.bytes ++ t) (sym none))
