-- What a script and its output tell.
use Rattle.std.proofs.Common.{◌≡◌, ◌++◌, ◌∷◌, [], ◌<◌, ◌^◌, ◌&&◌, ◌==◌, ℕ, Bool, true, false, cond, List, Option, Some, None, refl, sym, ap, ◌∙◌, subst, true≢false}
use Rattle.std.proofs.lemmas.Bool.{and_from, cond-true, cond-false, eq-eqb, or_left}
use Rattle.std.proofs.lemmas.List.{append-nil}
use mathlib.Core.List.{append_assoc}
use Rattle.map_model.specs.declared.call.Call.{Call}
use Rattle.map_model.specs.declared.call.Answered.{Answered}
use Rattle.map_model.specs.Lists.{Has}
use Rattle.map_model.specs.Outputs.{Reply, answers_told, names}
use Rattle.map_model.specs.Transcripts as model
use Rattle.map_model.specs.Pairings.{is_last, ends_for, counted, paired, answers_in, EachIsAnswered, in_turn, is_open_line, script_of, EachGoesOn}
use Rattle.map_model.proofs.PairLemmas.{every_pair, every_script}
use Rattle.map_model.proofs.CountLemmas.{every_count}
use Rattle.script_lang.specs.declared.line.Line.{Line}
use Rattle.script_lang.specs.Notices.{Notice, notice_text, NoticeFits}
use Rattle.script_lang.specs.Replies.{reply_of, reply_text, Fits}
use Rattle.script_lang.specs.Text.{script_lines, IsLine}
use Rattle.script_lang.proofs.LineLemmas.{line_read}
use Rattle.transcripts.specs.Told.{ask, asked_lines, AreAnswers, EachLineFits, EachFits, Heard, IsOutput}
use Rattle.transcripts.specs.Transcripts.{asked, asked_onto, transcript, durables}
use Rattle.transcripts.specs.Laws.{EveryAsked, TellsOf, TellsInTurn}
use Rattle.transcripts.proofs.HeardLemmas.{durable_committed, heard_answers, names_are}
use Rattle.transcripts.proofs.ReplyLemmas.{answers_output, durables_output}

-- ## The lines of a script

-- the lines that ask calls are read as these calls
pub every_asked : EveryAsked
every_asked workers [] others many fit = refl
every_asked workers (x ∷ xs) others many fit =
    let line : Line = record { session = x.0; call = x.1 } in
    ap (λ (o : Option Line). asked_onto o (asked workers (asked_lines xs ++ others))) (line_read workers (ask x.0 x.1) line many (record { spelled = refl; session = fit.0.session; call = fit.0.fits }))
    ∙ ap (λ (l : List (ℕ × Call)). x ∷ l) (every_asked workers xs others many fit.1)

line_append : (workers : ℕ) (xs ys : List (ℕ × Call)) → EachLineFits workers xs → EachLineFits workers ys → EachLineFits workers (xs ++ ys)
line_append workers [] ys f g = g
line_append workers (x ∷ xs) ys f g = (f.0, line_append workers xs ys f.1 g)

-- the lines of calls that fit
pub lines_fit : (workers : ℕ) (xs : List Answered) → EachFits workers xs → EachLineFits workers (script_of xs)
lines_fit workers [] fit = tt
lines_fit workers (x ∷ earlier) fit = go (lines_fit workers earlier fit.0) (is_open_line earlier)
  where
    go : EachLineFits workers (script_of earlier) → (b : Bool) → EachLineFits workers (cond b (script_of earlier) (script_of earlier ++ (x.session, x.call) ∷ []))
    go ih true = ih
    go ih false = line_append workers (script_of earlier) ((x.session, x.call) ∷ []) ih (fit.1, tt)

-- ## Answers that are each the last one to its line

abbrev EachIsLast : List Answered → Type 0
EachIsLast [] = Unit {0}
EachIsLast (x ∷ xs) = EachIsLast xs × (is_last x.answer ≡ true)

fits_last : (workers : ℕ) (xs : List Answered) → EachFits workers xs → EachIsLast xs
fits_last workers [] fit = tt
fits_last workers (x ∷ earlier) fit = (fits_last workers earlier fit.0, fit.3)

last_push : (xs : List Answered) (x : Answered) → EachIsLast xs → is_last x.answer ≡ true → EachIsLast (xs ++ x ∷ [])
last_push [] x l e = (tt, e)
last_push (y ∷ xs) x l e = (last_push xs x l.0 e, l.1)

last_in_turn : (xs : List Answered) → EachIsLast xs → EachIsLast (in_turn xs)
last_in_turn [] l = tt
last_in_turn (x ∷ earlier) l = last_push (in_turn earlier) x (last_in_turn earlier l.0) l.1

all_count : (xs : List Answered) → EachIsLast xs → counted xs ≡ xs
all_count [] l = refl
all_count (x ∷ xs) l =
    cond-true (ends_for x.session (x ∷ xs)) (x ∷ counted xs) (counted xs)
    (or_left ((x.session == x.session) && is_last x.answer) (ends_for x.session xs) (and_from (x.session == x.session) (is_last x.answer) (eq-eqb x.session x.session refl) l.1))
    ∙ ap (λ (ys : List Answered). x ∷ ys) (all_count xs l.0)

goes_on : (xs : List Answered) → EachIsLast xs → EachGoesOn xs
goes_on [] l = tt
goes_on (x ∷ []) l = (tt, tt)
goes_on (x ∷ y ∷ earlier) l = (goes_on (y ∷ earlier) l.0, λ e. absurd (true≢false (sym l.0.1 ∙ e)))

closed : (xs : List Answered) → EachIsLast xs → is_open_line xs ≡ false
closed [] l = refl
closed (x ∷ earlier) l = cond-true (is_last x.answer) false true l.1

-- behind calls whose last one was answered in full there come the lines of further calls
pub script_append : (newer xs : List Answered) → is_open_line xs ≡ false → script_of (newer ++ xs) ≡ script_of xs ++ script_of newer
script_append [] xs e = sym (append-nil (script_of xs))
script_append (x ∷ []) xs e = cond-false (is_open_line xs) (script_of xs) (script_of xs ++ (x.session, x.call) ∷ []) e
script_append (x ∷ y ∷ newer) xs e = go (script_append (y ∷ newer) xs e) (is_last y.answer)
  where
    one : List (ℕ × Call)
    one = (x.session, x.call) ∷ []

    go : script_of (y ∷ newer ++ xs) ≡ script_of xs ++ script_of (y ∷ newer) → (b : Bool) →
        cond (cond b false true) (script_of (y ∷ newer ++ xs)) (script_of (y ∷ newer ++ xs) ++ one) ≡ script_of xs ++ cond (cond b false true) (script_of (y ∷ newer)) (script_of (y ∷ newer) ++ one)
    go ih true = ap (λ (l : List (ℕ × Call)). l ++ one) ih ∙ append_assoc (script_of xs) (script_of (y ∷ newer)) one
    go ih false = ih

pub fits_closed : (workers : ℕ) (xs : List Answered) → EachFits workers xs → is_open_line xs ≡ false
fits_closed workers xs fit = closed xs (fits_last workers xs fit)

-- ## What is told

module _ (back : (reply : Reply) → Fits reply → (reply_of (reply_text reply) ≡ Some reply) × IsLine (reply_text reply)) (quiet : (line : Notice) → NoticeFits line → (reply_of (notice_text line) ≡ None) × IsLine (notice_text line)) where
  -- where the answers to these lines are among the replies
  pub calls_told : (workers g w u : ℕ) (xs : List Answered) (told : List Reply) (input output : List ℕ) → EachIsAnswered (asked workers (script_lines input)) (in_turn xs) → answers_told told ≡ answers_in (in_turn xs) → IsOutput g w u told output →
      transcript workers input output ≡ counted (in_turn xs)
  calls_told workers g w u xs told input output each are is =
      ap (paired (asked workers (script_lines input))) (answers_output back quiet g w u told output is ∙ are) ∙ every_pair (asked workers (script_lines input)) (in_turn xs) each

  pub names_told : (g w u : ℕ) (told : List Reply) (output : List ℕ) → IsOutput g w u told output → durables output ≡ names told
  names_told g w u told output is = durables_output back quiet g w u told output is

  pub tells_of : (workers g w u : ℕ) (xs : List Answered) (told : List Reply) (input output : List ℕ) → EachIsAnswered (asked workers (script_lines input)) (in_turn xs) → AreAnswers xs told → IsOutput g w u told output →
      TellsOf workers xs told input output
  tells_of workers g w u xs told input output each are is =
      let turn : transcript workers input output ≡ counted (in_turn xs) = calls_told workers g w u xs told input output each are.answers is in
      let durable : durables output ≡ names told = names_told g w u told output is in
      record {
        transcript_is = turn;
        journal_is = ap model.journal turn ∙ every_count (in_turn xs);
        durables_are = durable;
        committed_by_them = λ name has. durable_committed xs told are name (subst (Has name) durable has);
      }

  -- the lines of a script that begins with those that ask calls, which have one answer each
  pub answered_in_turn : (workers : ℕ) (xs : List Answered) (others : List (List ℕ)) (input : List ℕ) → workers < 2 ^ 32 → EachFits workers xs → script_lines input ≡ asked_lines (script_of xs) ++ others →
      EachIsAnswered (asked workers (script_lines input)) (in_turn xs)
  answered_in_turn workers xs others input many fit begins =
      subst (λ (cs : List (ℕ × Call)). EachIsAnswered cs (in_turn xs)) (sym (ap (asked workers) begins ∙ every_asked workers (script_of xs) others many (lines_fit workers xs fit)))
      (every_script xs (asked workers others) (goes_on xs (fits_last workers xs fit))).answered

  pub counted_in_turn : (workers : ℕ) (xs : List Answered) → EachFits workers xs → counted (in_turn xs) ≡ in_turn xs
  counted_in_turn workers xs fit = all_count (in_turn xs) (last_in_turn xs (fits_last workers xs fit))

  pub tells_in_turn : (workers g w u : ℕ) (xs : List Answered) (told : List Reply) (others : List (List ℕ)) (input output : List ℕ) → workers < 2 ^ 32 → EachFits workers xs →
      script_lines input ≡ asked_lines (script_of xs) ++ others → Heard xs told → IsOutput g w u told output → TellsInTurn workers xs told input output
  tells_in_turn workers g w u xs told others input output many fit begins heard is =
      let t : TellsOf workers xs told input output = tells_of workers g w u xs told input output (answered_in_turn workers xs others input many fit begins) (heard_answers xs told heard) is in
      record {
        transcript_is = t.transcript_is ∙ counted_in_turn workers xs fit;
        journal_is = t.journal_is;
        durables_are = t.durables_are;
        all_durable = λ e. t.durables_are ∙ (ap names e ∙ names_are xs);
      }
