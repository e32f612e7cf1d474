-- Calls that were answered one after another, where a line may have several answers.
use Rattle.std.proofs.Common.{◌≡◌, ⊎_elim, ◌++◌, ◌∷◌, [], ◌<◌, ◌^◌, ◌&&◌, ◌==◌, ℕ, Bool, true, false, cond, List, refl, sym, ap, ◌∙◌, subst, true≢false}
use Rattle.std.proofs.lemmas.Bool.{and_from, cond-true, eq-eqb, or_cases, or_left, or_right}
use Rattle.std.proofs.lemmas.List.{append-nil}
use mathlib.Core.List.{append_assoc}
use Rattle.map_model.specs.declared.call.Call.{Call}
use Rattle.map_model.specs.declared.call.Answered.{Answered}
use Rattle.map_model.specs.Pairings.{counted, EachGoesOn, GoesOn, EachIsAnswered, ends_for, in_turn, is_last, is_open_line, script_of}
use Rattle.map_model.proofs.PairLemmas.{every_script}
use Rattle.script_lang.specs.Text.{script_lines}
use Rattle.transcripts.specs.Told.{asked_lines, EachLineFits}
use Rattle.transcripts.specs.Transcripts.{asked}
use Rattle.transcripts.proofs.TranscriptLemmas.{every_asked}

-- ## The lines of the first calls

-- what else was executed behind the first calls
pub record FirstScript (later first : List Answered) : Type 0 where
  pub more : List (ℕ × Call)
  pub is : script_of (later ++ first) ≡ script_of first ++ more

pub first_script : (later first : List Answered) → FirstScript later first
first_script [] first = record { more = []; is = sym (append-nil (script_of first)) }
first_script (x ∷ later) first = go (first_script later first) (is_open_line (later ++ first)) refl
  where
    go : FirstScript later first → (b : Bool) → is_open_line (later ++ first) ≡ b → FirstScript (x ∷ later) first
    go f true e = record { more = f.more; is = ap (λ (c : Bool). cond c (script_of (later ++ first)) (script_of (later ++ first) ++ (x.session, x.call) ∷ [])) e ∙ f.is }
    go f false e = record {
      more = f.more ++ (x.session, x.call) ∷ [];
      is = ap (λ (c : Bool). cond c (script_of (later ++ first)) (script_of (later ++ first) ++ (x.session, x.call) ∷ [])) e
          ∙ (ap (λ (l : List (ℕ × Call)). l ++ (x.session, x.call) ∷ []) f.is ∙ append_assoc (script_of first) f.more ((x.session, x.call) ∷ []));
    }

pub line_first : (workers : ℕ) (xs ys : List (ℕ × Call)) → EachLineFits workers (xs ++ ys) → EachLineFits workers xs
line_first workers [] ys fit = tt
line_first workers (x ∷ xs) ys fit = (fit.0, line_first workers xs ys fit.1)

-- lines behind which others come are answered in turn
pub lines_answered : (workers : ℕ) (xs : List Answered) (others : List (List ℕ)) (input : List ℕ) → workers < 2 ^ 32 → EachLineFits workers (script_of xs) → EachGoesOn xs → script_lines input ≡ asked_lines (script_of xs) ++ others →
    EachIsAnswered (asked workers (script_lines input)) (in_turn xs)
lines_answered workers xs others input many fit goes begins =
    subst (λ (cs : List (ℕ × Call)). EachIsAnswered cs (in_turn xs)) (sym (ap (asked workers) begins ∙ every_asked workers (script_of xs) others many fit))
    (every_script xs (asked workers others) goes).answered

-- ## Which answers count

-- of each answer's session one that comes with it or behind it is the last to its line
abbrev AllEnd : List Answered → Type 0
AllEnd [] = Unit {0}
AllEnd (x ∷ xs) = (ends_for x.session (x ∷ xs) ≡ true) × AllEnd xs

all_counted : (xs : List Answered) → AllEnd xs → counted xs ≡ xs
all_counted [] a = refl
all_counted (x ∷ xs) a = cond-true (ends_for x.session (x ∷ xs)) (x ∷ counted xs) (counted xs) a.0 ∙ ap (λ (ys : List Answered). x ∷ ys) (all_counted xs a.1)

own_end : (x z : Answered) → x.session ≡ z.session → is_last z.answer ≡ true → ends_for x.session (z ∷ []) ≡ true
own_end x z e last = or_left ((z.session == x.session) && is_last z.answer) false (and_from (z.session == x.session) (is_last z.answer) (eq-eqb z.session x.session (sym e)) last)

more_ends : (s : ℕ) (before behind : List Answered) (x : Answered) → ends_for s (before ++ behind) ≡ true → ends_for s (before ++ x ∷ behind) ≡ true
more_ends s [] behind x e = or_right ((x.session == s) && is_last x.answer) (ends_for s behind) e
more_ends s (y ∷ before) behind x e =
    ⊎_elim (λ own. or_left ((y.session == s) && is_last y.answer) (ends_for s (before ++ x ∷ behind)) own)
    (λ rest. or_right ((y.session == s) && is_last y.answer) (ends_for s (before ++ x ∷ behind)) (more_ends s before behind x rest))
    (or_cases ((y.session == s) && is_last y.answer) (ends_for s (before ++ behind)) e)

insert : (before : List Answered) (x z : Answered) → x.session ≡ z.session → is_last z.answer ≡ true → AllEnd (before ++ z ∷ []) → AllEnd (before ++ x ∷ z ∷ [])
insert [] x z e last a = (or_right ((x.session == x.session) && is_last x.answer) (ends_for x.session (z ∷ [])) (own_end x z e last), a)
insert (y ∷ before) x z e last a = (more_ends y.session (y ∷ before) (z ∷ []) x a.0, insert before x z e last a.1)

push_end : (before : List Answered) (z : Answered) → is_last z.answer ≡ true → AllEnd before → AllEnd (before ++ z ∷ [])
push_end [] z last a = (own_end z z refl last, tt)
push_end (y ∷ before) z last a =
    (more_ends y.session (y ∷ before) [] z (subst (λ (ys : List Answered). ends_for y.session ys ≡ true) (sym (append-nil (y ∷ before))) a.0), push_end before z last a.1)

-- a line that goes on is gone on with by whatever has its session and its call
goes_on_as : (earlier : List Answered) (x z : Answered) → GoesOn earlier x → z.session ≡ x.session → z.call ≡ x.call → GoesOn earlier z
goes_on_as [] x z g s c = tt
goes_on_as (y ∷ earlier) x z g s c = λ more. (s ∙ (g more).0, c ∙ (g more).1)

ended : (xs : List Answered) (z : Answered) → EachGoesOn (z ∷ xs) → is_last z.answer ≡ true → AllEnd (in_turn xs ++ z ∷ [])
ended [] z goes last = (own_end z z refl last, tt)
ended (x ∷ earlier) z goes last = go (λ g. ended earlier z g last) (λ e. ended earlier x goes.0 e) (is_last x.answer) refl
  where
    go : (EachGoesOn (z ∷ earlier) → AllEnd (in_turn earlier ++ z ∷ [])) → (is_last x.answer ≡ true → AllEnd (in_turn earlier ++ x ∷ [])) → (b : Bool) → is_last x.answer ≡ b → AllEnd (in_turn (x ∷ earlier) ++ z ∷ [])
    go further whole true e = push_end (in_turn earlier ++ x ∷ []) z last (whole e)
    go further whole false e =
        let same = goes.1 e in
        subst AllEnd (sym (append_assoc (in_turn earlier) (x ∷ []) (z ∷ [])))
        (insert (in_turn earlier) x z (sym same.0) last (further (goes.0.0, goes_on_as earlier x z goes.0.1 same.0 same.1)))

-- where the newest of them is the last to its line, all count
pub all_count : (xs : List Answered) → EachGoesOn xs → is_open_line xs ≡ false → counted (in_turn xs) ≡ in_turn xs
all_count [] goes e = refl
all_count (x ∷ earlier) goes e = all_counted (in_turn (x ∷ earlier)) (ended earlier x goes (closed (is_last x.answer) refl))
  where
    closed : (b : Bool) → is_last x.answer ≡ b → is_last x.answer ≡ true
    closed true q = q
    closed false q = absurd (true≢false (sym (ap (λ (c : Bool). cond c false true) q) ∙ e))
