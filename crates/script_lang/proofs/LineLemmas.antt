-- A line that is spelled is read, and a line that is read was spelled so.
use Rattle.std.proofs.Common.{◌≡◌, ◌⊎◌, inl, inr, ⊎_elim, ◌++◌, ◌∷◌, [], ℕ, List, Option, Some, None, codes, ◌∙◌, sym, refl, ap, subst, ◌+◌, ◌-◌, ◌^◌, ◌<◌, ◌≤◌, Bool, true, false, cond, nat_eq, nat_lt, length, take, option_map, arith}
use Rattle.std.proofs.lemmas.List.{length-append, take_at}
use Rattle.std.proofs.lemmas.Bool.Decides.{nat_tests}
use Rattle.std.proofs.lemmas.Slice.Eq.{bytes_eq-Decides}
use Rattle.std.proofs.lemmas.Fmt.{length-decimal-le}
use Rattle.std.specs.Str.{bytes_eq}
use Rattle.std.specs.Fmt.{decimal}
use Rattle.script_lang.specs.Words.{first_word, after_word, number_of, ranged, word, rest, ends, with_one, with_two}
use Rattle.script_lang.specs.Lines.{call_text, text_by, IsSessionOf, CallFits, Spells, key_of, put_of, scan_of, lone_verb_of, verb_of, line_with, sync_line, line_of}
use Rattle.script_lang.specs.Inside.{behind_scan}
use Rattle.script_lang.specs.declared.line.Line.{Line}
use Rattle.map_model.specs.declared.call.Call.{Call}
use Rattle.map_model.specs.declared.call.Call.TheVariants.{Begin, Get, Put, Del, Scan, Commit, Abort, Sync}
use Rattle.script_lang.proofs.NumberLemmas.{word_number, word_last, after_last, word_before, after_before, Joins, joins, guard, number_is, number_spelled, ranged_is, in_range}

-- what is spelled is read
key_read : (k : ℕ) → k < 2 ^ 64 - 1 → key_of (Some (decimal k)) ≡ Some k
key_read k h =
    let small : k < 2 ^ 64 = omega arith in
    let w = word_number k small in
    rw (word_last (decimal k) w, after_last (decimal k) w, number_is k small, ranged_is 0 (2 ^ 64 - 1) k (omega arith) h) refl

-- a session asks this call: it is no sync
abbrev pub HasSession : Call → Type 0
HasSession Sync = ⊥
HasSession _ = Unit {0}

pub record IsAsked (workers session : ℕ) (call : Call) : Type 0 where
  pub session_asks : HasSession call
  pub first : 1 ≤ session
  pub last : session ≤ workers

pub of_session : (workers s : ℕ) (call : Call) → IsSessionOf workers s call → ((s ≡ 0) × (call ≡ Sync)) ⊎ IsAsked workers s call
of_session workers s Sync is = inl (is, refl)
of_session workers s _ is = inr (record { session_asks = tt; first = is.0; last = is.1 })

session_of : (workers s : ℕ) (call : Call) → HasSession call → 1 ≤ s → s ≤ workers → IsSessionOf workers s call
session_of workers s Sync has first last = absurd has
session_of workers s _ has first last = (first, last)

-- its number stands before it
pub with_session : (s : ℕ) (call : Call) → HasSession call → text_by s call ≡ decimal s ++ 32 ∷ call_text call
with_session s Sync has = absurd has
with_session s _ has = refl

call_read : (call : Call) → CallFits call → HasSession call → verb_of (Some (call_text call)) ≡ Some call
call_read Begin h has = refl
call_read Commit h has = refl
call_read Abort h has = refl
call_read Sync h has = absurd has
call_read (Get k) h has = ap (option_map Get) (key_read k h)
call_read (Del k) h has = ap (option_map Del) (key_read k h)
call_read (Put k v) h has =
    let key : k < 2 ^ 64 - 1 = h.0 in
    let value : v < 2 ^ 63 = h.1 in
    let small : k < 2 ^ 64 = omega arith in
    let fits : v < 2 ^ 64 = omega arith in
    let w = word_number k small in
    let u = word_number v fits in
    rw (
      word_before (decimal k) (decimal v) w,
      after_before (decimal k) (decimal v) w,
      number_is k small,
      ranged_is 0 (2 ^ 64 - 1) k (omega arith) key,
      word_last (decimal v) u,
      after_last (decimal v) u,
      number_is v fits,
      ranged_is 0 (2 ^ 63) v (omega arith) value,
    ) refl
call_read (Scan from to) h has =
    let first : from < 2 ^ 64 - 1 = h.0 in
    let last : to < 2 ^ 64 - 1 = h.1 in
    let low : from < 2 ^ 64 = omega arith in
    let high : to < 2 ^ 64 = omega arith in
    let w = word_number from low in
    let u = word_number to high in
    rw (
      word_before (decimal from) (decimal to) w,
      after_before (decimal from) (decimal to) w,
      number_is from low,
      ranged_is 0 (2 ^ 64 - 1) from (omega arith) first,
      word_last (decimal to) u,
      after_last (decimal to) u,
      number_is to high,
      ranged_is 0 (2 ^ 64 - 1) to (omega arith) last,
    ) refl
call_read _ h has = absurd h

call_short : (call : Call) → CallFits call → length (call_text call) ≤ 50
call_short Begin h = omega arith
call_short Commit h = omega arith
call_short Abort h = omega arith
call_short Sync h = omega arith
call_short (Get k) h = let key : k < 2 ^ 64 - 1 = h in let l = length-decimal-le 20 k (omega arith) (omega arith) (omega arith) in omega arith
call_short (Del k) h = let key : k < 2 ^ 64 - 1 = h in let l = length-decimal-le 20 k (omega arith) (omega arith) (omega arith) in omega arith
call_short (Put k v) h =
    let key : k < 2 ^ 64 - 1 = h.0 in
    let value : v < 2 ^ 63 = h.1 in
    let l = length-decimal-le 20 k (omega arith) (omega arith) (omega arith) in
    let m = length-decimal-le 20 v (omega arith) (omega arith) (omega arith) in
    let e = length-append (decimal k) (32 ∷ decimal v) in omega arith
call_short (Scan from to) h =
    let first : from < 2 ^ 64 - 1 = h.0 in
    let last : to < 2 ^ 64 - 1 = h.1 in
    let l = length-decimal-le 20 from (omega arith) (omega arith) (omega arith) in
    let m = length-decimal-le 20 to (omega arith) (omega arith) (omega arith) in
    let e = length-append (decimal from) (32 ∷ decimal to) in omega arith
call_short _ h = absurd h

split : {A : Type 0} (b : Bool) (x y : Option A) (a : A) → cond b x y ≡ Some a → ((b ≡ true) × (x ≡ Some a)) ⊎ (y ≡ Some a)
split true x y a e = inl (refl, e)
split false x y a e = inr e

same : (xs ys : List ℕ) → bytes_eq xs ys ≡ true → xs ≡ ys
same xs ys e = (bytes_eq-Decides xs ys).0 e

-- what begins with a number is no sync
pub no_sync : (bytes : List ℕ) (n : ℕ) → number_of (first_word bytes) ≡ Some n → bytes_eq bytes (codes "sync") ≡ false
no_sync bytes n e = at (bytes_eq bytes (codes "sync")) refl
  where
    at : (b : Bool) → bytes_eq bytes (codes "sync") ≡ b → bytes_eq bytes (codes "sync") ≡ false
    at false is = is
    at true is = absurd (let no : None ≡ Some n = ap (λ (ws : List ℕ). number_of (first_word ws)) (sym (same bytes (codes "sync") is)) ∙ e in cc)

abbrev line_by : ℕ → Call → Line
line_by s call = record { session = s; call = call }

sync_read : (workers : ℕ) (bytes : List ℕ) (s : ℕ) (call : Call) → s ≡ 0 → call ≡ Sync → bytes ≡ text_by s call → line_of workers bytes ≡ Some (line_by s call)
sync_read workers bytes s call none is spelled =
    let read : line_of workers bytes ≡ Some sync_line = ap (line_of workers) (spelled ∙ ap (text_by s) is) in
    read ∙ ap (λ (s : ℕ). Some (line_by s Sync)) (sym none) ∙ ap (λ (call : Call). Some (line_by s call)) (sym is)

asked_read : (workers : ℕ) (bytes : List ℕ) (s : ℕ) (call : Call) → workers < 2 ^ 32 → IsAsked workers s call → CallFits call → bytes ≡ text_by s call → line_of workers bytes ≡ Some (line_by s call)
asked_read workers bytes s call many is fits spelled =
    let first : 1 ≤ s = is.first in
    let last : s ≤ workers = is.last in
    let small : s < 2 ^ 64 = omega arith in
    let w = word_number s small in
    let text : List ℕ = call_text call in
    let l = length-decimal-le 20 s (omega arith) (omega arith) small in
    let m = call_short call fits in
    let e = length-append (decimal s) (32 ∷ text) in
    let short : length (decimal s ++ 32 ∷ text) ≤ 80 = omega arith in
    let no : nat_lt 80 (length (decimal s ++ 32 ∷ text)) ≡ false = grind (arith, nat_tests) in
    let number : number_of (first_word (decimal s ++ 32 ∷ text)) ≡ Some s = rw (word_before (decimal s) text w) (number_is s small) in
    let unlike : bytes_eq (decimal s ++ 32 ∷ text) (codes "sync") ≡ false = no_sync (decimal s ++ 32 ∷ text) s number in
    let P : List ℕ → Type 0 = λ bytes. line_of workers bytes ≡ Some (line_by s call) in
    subst P (sym (spelled ∙ with_session s call is.session_asks))
    (rw (no, unlike, number, after_before (decimal s) text w, ranged_is 1 (workers + 1) s first (omega arith), call_read call fits is.session_asks) refl)

pub line_read : (workers : ℕ) (bytes : List ℕ) (line : Line) → workers < 2 ^ 32 → Spells workers bytes line → line_of workers bytes ≡ Some line
line_read workers bytes line many is =
    ⊎_elim (λ h. sync_read workers bytes line.session line.call h.0 h.1 is.spelled) (λ a. asked_read workers bytes line.session line.call many a is.call is.spelled)
    (of_session workers line.session line.call is.session)

-- what is read was spelled
ends_is : {A : Type 0} (x y : A) (left : Option (List ℕ)) → ends x left ≡ Some y → (x ≡ y) × (left ≡ None)
ends_is x y None e = let s : x ≡ y = cc in (s, refl)
ends_is x y (Some more) e = cc

-- the word is the last one
last_word : (bytes word : List ℕ) → first_word bytes ≡ word → after_word bytes ≡ None → bytes ≡ word
last_word bytes word is none = subst (λ (r : Option (List ℕ)). Joins bytes (first_word bytes) r) none (joins bytes) ∙ is

then_word : (bytes word more : List ℕ) → first_word bytes ≡ word → after_word bytes ≡ Some more → bytes ≡ word ++ 32 ∷ more
then_word bytes word more is some = subst (λ (r : Option (List ℕ)). Joins bytes (first_word bytes) r) some (joins bytes) ∙ ap (λ (w : List ℕ). w ++ 32 ∷ more) is

-- words that spell a call
pub record Says (words : Option (List ℕ)) (call : Call) : Type 0 where
  pub spelled : words ≡ Some (call_text call)
  pub fits : CallFits call
  pub session : HasSession call

pub record OneIs {A : Type 0} (f : ℕ → A) (n : Option ℕ) (left : Option (List ℕ)) (a : A) : Type 0 where
  pub number : ℕ
  pub is : n ≡ Some number
  pub made : f number ≡ a
  pub last : left ≡ None

one_is : {A : Type 0} (f : ℕ → A) (n : Option ℕ) (left : Option (List ℕ)) (a : A) → with_one f n left ≡ Some a → OneIs f n left a
one_is f None left a e = cc
one_is f (Some m) left a e = let h = ends_is (f m) a left e in record { number = m; is = refl; made = h.0; last = h.1 }

pub record TwoAre {A : Type 0} (f : ℕ → ℕ → A) (m n : Option ℕ) (left : Option (List ℕ)) (a : A) : Type 0 where
  pub first : ℕ
  pub is : m ≡ Some first
  pub second : OneIs (f first) n left a

two_are : {A : Type 0} (f : ℕ → ℕ → A) (m n : Option ℕ) (left : Option (List ℕ)) (a : A) → with_two f m n left ≡ Some a → TwoAre f m n left a
two_are f None n left a e = cc
two_are f (Some m) n left a e = record { first = m; is = refl; second = one_is (f m) n left a e }

-- a verb alone
lone_says : (c : Call) (verb ws : List ℕ) (call : Call) → call_text c ≡ verb → CallFits c → HasSession c → bytes_eq (first_word ws) verb ≡ true → ends c (after_word ws) ≡ Some call → Says (Some ws) call × (ws ≡ verb)
lone_says c verb ws call text fits has is e =
    let h = ends_is c call (after_word ws) e in
    let words : ws ≡ verb = last_word ws verb (same (first_word ws) verb is) h.1 in
    let P : Call → Type 0 = λ call. Says (Some ws) call in
    (subst P h.0 (record { spelled = ap (λ (w : List ℕ). Some w) (words ∙ sym text); fits = fits; session = has }), words)

-- a key that is the last word
pub record KeyIs (words : List ℕ) (key : ℕ) : Type 0 where
  pub spelled : words ≡ decimal key
  pub fits : key < 2 ^ 64 - 1

key_is : (more : List ℕ) (key : ℕ) → key_of (Some more) ≡ Some key → KeyIs more key
key_is more key e =
    let o = one_is (λ (k : ℕ). k) (ranged 0 (2 ^ 64 - 1) (number_of (first_word more))) (after_word more) key e in
    let r = in_range 0 (2 ^ 64 - 1) o.number (number_of (first_word more)) o.is in
    let n = number_spelled (first_word more) o.number r.read in
    let P : ℕ → Type 0 = λ key. KeyIs more key in
    subst P o.made (record { spelled = last_word more (decimal o.number) n.0 o.last; fits = r.under })

-- a verb and a key
key_says : (c : ℕ → Call) (verb ws : List ℕ) (call : Call) (more : Option (List ℕ)) → ((k : ℕ) → call_text (c k) ≡ verb ++ 32 ∷ decimal k) → ((k : ℕ) → k < 2 ^ 64 - 1 → CallFits (c k)) → ((k : ℕ) → HasSession (c k))
    → after_word ws ≡ more → bytes_eq (first_word ws) verb ≡ true → option_map c (key_of more) ≡ Some call → Says (Some ws) call
key_says c verb ws call None text fits has after is e = cc
key_says c verb ws call (Some more) text fits has after is e = at (key_of (Some more)) refl e
  where
    at : (key : Option ℕ) → key_of (Some more) ≡ key → option_map c key ≡ Some call → Says (Some ws) call
    at None read e = cc
    at (Some k) read e =
        let h = key_is more k read in
        let made : c k ≡ call = cc in
        let words : ws ≡ verb ++ 32 ∷ more = then_word ws verb more (same (first_word ws) verb is) after in
        let P : Call → Type 0 = λ call. Says (Some ws) call in
        subst P made (record { spelled = ap (λ (w : List ℕ). Some w) (words ∙ ap (λ (w : List ℕ). verb ++ 32 ∷ w) h.spelled ∙ sym (text k)); fits = fits k h.fits; session = has k })

-- the second number of a put or a scan, whose first is k
second_says : (c : ℕ → Call) (k end : ℕ) (more : List ℕ) (left : Option (List ℕ)) (call : Call) → after_word more ≡ left → first_word more ≡ decimal k
    → OneIs c (ranged 0 end (number_of (word left))) (rest left) call
    → (v : ℕ) × (more ≡ decimal k ++ 32 ∷ decimal v) × (v < end) × (c v ≡ call)
second_says c k end more None call after is o = let no = o.is in cc
second_says c k end more (Some last) call after is o =
    let v : ℕ = o.number in
    let r = in_range 0 end v (number_of (first_word last)) o.is in
    let n = number_spelled (first_word last) v r.read in
    let words : last ≡ decimal v = last_word last (decimal v) n.0 o.last in
    (v, then_word more (decimal k) last is after ∙ ap (λ (w : List ℕ). decimal k ++ 32 ∷ w) words, r.under, o.made)

-- a key, and a number below an end
abbrev pair_of : (ℕ → ℕ → Call) → ℕ → Option (List ℕ) → Option Call
pair_of c end words = with_two c (ranged 0 (2 ^ 64 - 1) (number_of (word words))) (ranged 0 end (number_of (word (rest words)))) (rest (rest words))

-- a verb and two numbers
two_says : (c : ℕ → ℕ → Call) (verb : List ℕ) (end : ℕ) (ws : List ℕ) (call : Call) (more : Option (List ℕ)) → ((k v : ℕ) → call_text (c k v) ≡ verb ++ 32 ∷ (decimal k ++ 32 ∷ decimal v))
    → ((k v : ℕ) → k < 2 ^ 64 - 1 → v < end → CallFits (c k v)) → ((k v : ℕ) → HasSession (c k v))
    → after_word ws ≡ more → bytes_eq (first_word ws) verb ≡ true → pair_of c end more ≡ Some call → Says (Some ws) call
two_says c verb end ws call None text fits has after is e = let t = two_are c None (ranged 0 end None) None call e in let no = t.is in cc
two_says c verb end ws call (Some more) text fits has after is e =
    let t = two_are c (ranged 0 (2 ^ 64 - 1) (number_of (first_word more))) (ranged 0 end (number_of (word (after_word more)))) (rest (after_word more)) call e in
    let k : ℕ = t.first in
    let r = in_range 0 (2 ^ 64 - 1) k (number_of (first_word more)) t.is in
    let n = number_spelled (first_word more) k r.read in
    let s = second_says (c k) k end more (after_word more) call refl n.0 t.second in
    let words : ws ≡ verb ++ 32 ∷ more = then_word ws verb more (same (first_word ws) verb is) after in
    let P : Call → Type 0 = λ call. Says (Some ws) call in
    subst P s.3 (record { spelled = ap (λ (w : List ℕ). Some w) (words ∙ ap (λ (w : List ℕ). verb ++ 32 ∷ w) s.1 ∙ sym (text k s.0)); fits = fits k s.0 r.under s.2; session = has k s.0 })

abbrev abort_tail : List ℕ → Option Call
abort_tail ws = cond (bytes_eq (first_word ws) (codes "abort")) (ends Abort (after_word ws)) None

abbrev commit_tail : List ℕ → Option Call
commit_tail ws = cond (bytes_eq (first_word ws) (codes "commit")) (ends Commit (after_word ws)) (abort_tail ws)

-- a verb that is read alone is one of three
pub record LoneSays (ws : List ℕ) (call : Call) : Type 0 where
  pub says : Says (Some ws) call
  pub one : (ws ≡ codes "begin") ⊎ ((ws ≡ codes "commit") ⊎ (ws ≡ codes "abort"))

lone_verb_says : (ws : List ℕ) (call : Call) → lone_verb_of (Some ws) ≡ Some call → LoneSays ws call
lone_verb_says ws call e =
    ⊎_elim (λ h. let s = lone_says Begin (codes "begin") ws call refl tt tt h.0 h.1 in record { says = s.0; one = inl s.1 })
    (λ e. ⊎_elim (λ h. let s = lone_says Commit (codes "commit") ws call refl tt tt h.0 h.1 in record { says = s.0; one = inr (inl s.1) })
    (λ e. let h = guard (bytes_eq (first_word ws) (codes "abort")) (ends Abort (after_word ws)) call e in
    let s = lone_says Abort (codes "abort") ws call refl tt tt h.0 h.1 in record { says = s.0; one = inr (inr s.1) })
    (split (bytes_eq (first_word ws) (codes "commit")) (ends Commit (after_word ws)) (abort_tail ws) call e))
    (split (bytes_eq (first_word ws) (codes "begin")) (ends Begin (after_word ws)) (commit_tail ws) call e)

abbrev scan_tail : List ℕ → Option Call
scan_tail ws = cond (bytes_eq (first_word ws) (codes "scan")) (scan_of (after_word ws)) (lone_verb_of (Some ws))

abbrev del_tail : List ℕ → Option Call
del_tail ws = cond (bytes_eq (first_word ws) (codes "del")) (option_map Del (key_of (after_word ws))) (scan_tail ws)

abbrev put_tail : List ℕ → Option Call
put_tail ws = cond (bytes_eq (first_word ws) (codes "put")) (put_of (after_word ws)) (del_tail ws)

pub verb_says : (words : Option (List ℕ)) (call : Call) → verb_of words ≡ Some call → Says words call
verb_says None call e = cc
verb_says (Some ws) call e =
    ⊎_elim (λ h. key_says Get (codes "get") ws call (after_word ws) (λ k. refl) (λ k small. small) (λ k. tt) refl h.0 h.1)
    (λ e. ⊎_elim (λ h. two_says Put (codes "put") (2 ^ 63) ws call (after_word ws) (λ k v. refl) (λ k v key value. (key, value)) (λ k v. tt) refl h.0 h.1)
    (λ e. ⊎_elim (λ h. key_says Del (codes "del") ws call (after_word ws) (λ k. refl) (λ k small. small) (λ k. tt) refl h.0 h.1)
    (λ e. ⊎_elim (λ h. two_says Scan (codes "scan") (2 ^ 64 - 1) ws call (after_word ws) (λ k v. refl) (λ k v first last. (first, last)) (λ k v. tt) refl h.0 h.1)
    (λ e. (lone_verb_says ws call e).says)
    (split (bytes_eq (first_word ws) (codes "scan")) (scan_of (after_word ws)) (lone_verb_of (Some ws)) call e))
    (split (bytes_eq (first_word ws) (codes "del")) (option_map Del (key_of (after_word ws))) (scan_tail ws) call e))
    (split (bytes_eq (first_word ws) (codes "put")) (put_of (after_word ws)) (del_tail ws) call e))
    (split (bytes_eq (first_word ws) (codes "get")) (option_map Get (key_of (after_word ws))) (put_tail ws) call e)

pub record WithIs (n : Option ℕ) (c : Option Call) (line : Line) : Type 0 where
  pub session : n ≡ Some line.session
  pub call : c ≡ Some line.call

with_is : (n : Option ℕ) (c : Option Call) (line : Line) → line_with n c ≡ Some line → WithIs n c line
with_is None c line e = cc
with_is (Some s) None line e = cc
with_is (Some s) (Some call) line e =
    let is : record { session = s; call = call } ≡ line = cc in
    record { session = ap (λ (l : Line). Some l.session) is; call = ap (λ (l : Line). Some l.call) is }

unless : (b : Bool) (r : Option Line) (line : Line) → cond b None r ≡ Some line → r ≡ Some line
unless true r line e = cc
unless false r line e = e

sync_says : (workers : ℕ) (bytes : List ℕ) (line : Line) → bytes ≡ codes "sync" → Some sync_line ≡ Some line → Spells workers bytes line
sync_says workers bytes line is e =
    let made : sync_line ≡ line = cc in
    subst (Spells workers bytes) made (record { spelled = is; session = refl; call = tt })

asked_says : (workers : ℕ) (bytes : List ℕ) (line : Line) → line_with (ranged 1 (workers + 1) (number_of (first_word bytes))) (verb_of (after_word bytes)) ≡ Some line → Spells workers bytes line
asked_says workers bytes line e =
    let w = with_is (ranged 1 (workers + 1) (number_of (first_word bytes))) (verb_of (after_word bytes)) line e in
    let r = in_range 1 (workers + 1) line.session (number_of (first_word bytes)) w.session in
    let n = number_spelled (first_word bytes) line.session r.read in
    let v = verb_says (after_word bytes) line.call w.call in
    let high : line.session < workers + 1 = r.under in
    record {
      spelled = then_word bytes (decimal line.session) (call_text line.call) n.0 v.spelled ∙ sym (with_session line.session line.call v.session);
      session = session_of workers line.session line.call v.session r.above (omega arith);
      call = v.fits;
    }

pub line_says : (workers : ℕ) (bytes : List ℕ) (line : Line) → line_of workers bytes ≡ Some line → Spells workers bytes line
line_says workers bytes line e =
    let words : Option Line = line_with (ranged 1 (workers + 1) (number_of (first_word bytes))) (verb_of (after_word bytes)) in
    ⊎_elim (λ h. sync_says workers bytes line (same bytes (codes "sync") h.0) h.1) (λ h. asked_says workers bytes line h)
    (split (bytes_eq bytes (codes "sync")) (Some sync_line) words line (unless (nat_lt 80 (length bytes)) (cond (bytes_eq bytes (codes "sync")) (Some sync_line) words) line e))

-- what is no verb alone is read as none
pub no_lone_verb : (ws : List ℕ) → (ws ≡ codes "begin" → ⊥) → (ws ≡ codes "commit" → ⊥) → (ws ≡ codes "abort" → ⊥) → lone_verb_of (Some ws) ≡ None
no_lone_verb ws begin commit abort = at (lone_verb_of (Some ws)) refl
  where
    at : (r : Option Call) → lone_verb_of (Some ws) ≡ r → lone_verb_of (Some ws) ≡ None
    at None e = e
    at (Some call) e = absurd (⊎_elim begin (λ h. ⊎_elim commit abort h) (lone_verb_says ws call e).one)

-- a verb that no further word stands behind asks nothing, if it wants a number
passed : (verb ws : List ℕ) (of : Option (List ℕ) → Option Call) (other : Option Call) → ((more : List ℕ) → ws ≡ verb ++ 32 ∷ more → ⊥) → of None ≡ None → (ws ≡ verb → other ≡ None)
    → cond (bytes_eq (first_word ws) verb) (of (after_word ws)) other ≡ other
passed verb ws of other unlike none alone = at (bytes_eq (first_word ws) verb) refl (after_word ws) refl
  where
    at : (b : Bool) → bytes_eq (first_word ws) verb ≡ b → (more : Option (List ℕ)) → after_word ws ≡ more → cond b (of more) other ≡ other
    at false is more after = refl
    at true is None after = none ∙ sym (alone (last_word ws verb (same (first_word ws) verb is) after))
    at true is (Some more) after = absurd (unlike more (then_word ws verb more (same (first_word ws) verb is) after))

-- words that begin with no verb that wants a number are read as a verb alone
pub no_numbers : (ws : List ℕ) → ((more : List ℕ) → ws ≡ codes "get " ++ more → ⊥) → ((more : List ℕ) → ws ≡ codes "put " ++ more → ⊥) → ((more : List ℕ) → ws ≡ codes "del " ++ more → ⊥)
    → ((more : List ℕ) → ws ≡ codes "scan " ++ more → ⊥) → verb_of (Some ws) ≡ lone_verb_of (Some ws)
no_numbers ws get put del scan =
    passed (codes "get") ws (λ more. option_map Get (key_of more)) (put_tail ws) get refl (λ e. subst (λ (ws : List ℕ). put_tail ws ≡ None) (sym e) refl)
    ∙ passed (codes "put") ws put_of (del_tail ws) put refl (λ e. subst (λ (ws : List ℕ). del_tail ws ≡ None) (sym e) refl)
    ∙ passed (codes "del") ws (λ more. option_map Del (key_of more)) (scan_tail ws) del refl (λ e. subst (λ (ws : List ℕ). scan_tail ws ≡ None) (sym e) refl)
    ∙ passed (codes "scan") ws scan_of (lone_verb_of (Some ws)) scan refl (λ e. subst (λ (ws : List ℕ). lone_verb_of (Some ws) ≡ None) (sym e) refl)

-- words that begin with these four bytes ask for a scan, or nothing
pub scan_read : (ws behind : List ℕ) → ws ≡ codes "scan" ++ behind → behind_scan behind ≡ verb_of (Some ws)
scan_read ws behind e = subst (λ (ws : List ℕ). behind_scan behind ≡ verb_of (Some ws)) (sym e) (at behind)
  where
    space : (b : ℕ) (keys : List ℕ) (t : Bool) → nat_eq b 32 ≡ t → behind_scan (b ∷ keys) ≡ verb_of (Some (codes "scan" ++ b ∷ keys))
    space b keys true is = rw is refl
    space b keys false is = rw is refl

    at : (behind : List ℕ) → behind_scan behind ≡ verb_of (Some (codes "scan" ++ behind))
    at [] = refl
    at (b ∷ keys) = space b keys (nat_eq b 32) refl

-- words whose first four bytes are others begin with no such four
pub begins_so : (verb front ws : List ℕ) → length verb ≡ 4 → front ≡ take 4 ws → bytes_eq front verb ≡ false → (more : List ℕ) → ws ≡ verb ++ more → ⊥
begins_so verb front ws four first other more e =
    let is : front ≡ verb = first ∙ ap (take 4) e ∙ take_at verb more 4 four in
    let yes : bytes_eq front verb ≡ true = (bytes_eq-Decides front verb).1 is in cc
