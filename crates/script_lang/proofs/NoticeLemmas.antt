-- The program's own lines are no replies, and are lines.
use Rattle.std.proofs.Common.{◌≡◌, ◌++◌, ◌∷◌, None, codes, refl, arith, rules}
use Rattle.std.specs.Fmt.{decimal}
use Rattle.script_lang.specs.Notices.{Notice, notice_text, NoticeFits}
use Rattle.script_lang.specs.Notices.Notice.{Opened, Formatted, Refused, Damaged, Pair, Made, End, Usage, ReadFault, DiskFault, NoMemory, NotFormatted, AlreadyFormatted}
use Rattle.script_lang.specs.Replies.{reply_of}
use Rattle.script_lang.specs.Text.{IsLine}
use Rattle.script_lang.proofs.ReplyLemmas.{line_number, line_wide, line_with_number}

pub no_reply : (n : Notice) → reply_of (notice_text n) ≡ None
no_reply (Opened g w u) = refl
no_reply (Formatted w p n) = refl
no_reply (Refused n) = refl
no_reply (Damaged a p) = refl
no_reply (Pair k v) = refl
no_reply (Made n r p t) = refl
no_reply End = refl
no_reply Usage = refl
no_reply ReadFault = refl
no_reply DiskFault = refl
no_reply NoMemory = refl
no_reply NotFormatted = refl
no_reply AlreadyFormatted = refl

pub one_line : (n : Notice) → NoticeFits n → IsLine (notice_text n)
one_line (Opened g w u) h =
    let last = line_number u h.2 in
    let undone : IsLine (codes " undone " ++ decimal u) = search (rules, last) in
    let second = line_with_number w (codes " undone " ++ decimal u) h.1 undone in
    let winners : IsLine (codes " winners " ++ (decimal w ++ (codes " undone " ++ decimal u))) = search (rules, second) in
    let first = line_with_number g (codes " winners " ++ (decimal w ++ (codes " undone " ++ decimal u))) h.0 winners in
    search (rules, first)
one_line (Formatted w p n) h =
    let last = line_number n (omega arith) in
    let blocks : IsLine (32 ∷ decimal n) = search (rules, last) in
    let second = line_with_number p (32 ∷ decimal n) (omega arith) blocks in
    let pages : IsLine (32 ∷ (decimal p ++ 32 ∷ decimal n)) = search (rules, second) in
    let first = line_with_number w (32 ∷ (decimal p ++ 32 ∷ decimal n)) (omega arith) pages in
    search (rules, first)
one_line (Refused n) h =
    let end : IsLine (codes " refused") = search rules in
    let first = line_with_number n (codes " refused") h end in
    search (rules, first)
one_line (Damaged a p) h =
    let last = line_number p h.1 in
    let place : IsLine (codes " place " ++ decimal p) = search (rules, last) in
    let first = line_with_number a (codes " place " ++ decimal p) (omega arith) place in
    search (rules, first)
one_line (Pair k v) h =
    let last = line_number v h.1 in
    let value : IsLine (32 ∷ decimal v) = search (rules, last) in
    let first = line_with_number k (32 ∷ decimal v) h.0 value in
    search (rules, first)
one_line (Made n r p t) h =
    let last = line_wide t (omega arith) in
    let sum : IsLine (codes " sum " ++ decimal t) = search (rules, last) in
    let third = line_with_number p (codes " sum " ++ decimal t) h.2 sum in
    let pairs : IsLine (codes " pairs " ++ (decimal p ++ (codes " sum " ++ decimal t))) = search (rules, third) in
    let second = line_with_number r (codes " pairs " ++ (decimal p ++ (codes " sum " ++ decimal t))) h.1 pairs in
    let refused : IsLine (codes " refused " ++ (decimal r ++ (codes " pairs " ++ (decimal p ++ (codes " sum " ++ decimal t))))) = search (rules, second) in
    let first = line_with_number n (codes " refused " ++ (decimal r ++ (codes " pairs " ++ (decimal p ++ (codes " sum " ++ decimal t))))) (omega arith) refused in
    search (rules, first)
one_line End h = search rules
one_line Usage h = search rules
one_line ReadFault h = search rules
one_line DiskFault h = search rules
one_line NoMemory h = search rules
one_line NotFormatted h = search rules
one_line AlreadyFormatted h = search rules
