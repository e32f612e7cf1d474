-- A reply more behind the first lines of an output; and a tail alone.
use Rattle.std.proofs.Common.{◌≡◌, ◌++◌, ◌∷◌, [], ◌==◌, ℕ, zero, suc, Bool, true, false, List, Some, None, take, refl, sym, ap, ◌∙◌, subst}
use Rattle.std.proofs.lemmas.Bool.{cond-true, cond-false, eqb-false}
use Rattle.map_model.specs.declared.call.Answer.{Answer}
use Rattle.script_lang.specs.Notices.{Notice, notice_text, NoticeFits}
use Rattle.map_model.specs.Outputs.{Reply, answers_told}
use Rattle.map_model.specs.declared.call.Answered.{Answered}
use Rattle.script_lang.specs.Replies.{reply_line, reply_of, reply_text, Fits}
use Rattle.script_lang.specs.Text.{lines_on, no_line, script_lines, whole_lines, IsLine}
use Rattle.map_model.specs.Pairings.{counted, paired, answers_in, EachIsAnswered, in_turn, script_of}
use Rattle.map_model.proofs.PairLemmas.{every_pair}
use mathlib.Core.List.{append_assoc}
use Rattle.transcripts.specs.Told.{ask, asked_lines, IsOutput}
use Rattle.transcripts.specs.Transcripts.{answers, asked, first_lines, transcript}
use Rattle.transcripts.specs.Laws.{EveryNextInTurn, EveryNextReply, EveryTail}
use Rattle.transcripts.proofs.LineLemmas.{each_append, EachIsLine, lines_back, lines_text_append}
use Rattle.transcripts.proofs.ReplyLemmas.{answers_append, answers_one, answers_output, tail_is_quiet}
use Rattle.transcripts.proofs.TranscriptLemmas.{answered_in_turn, counted_in_turn, fits_closed, script_append}
use Rattle.transcripts.proofs.HeardLemmas as heard
use Rattle.transcripts.proofs.AskedLemmas.{lines_append}

-- ## The lines of a text are lines

each_push : (prefix : List ℕ) (b : ℕ) → IsLine prefix → (b ≡ 10 → ⊥) → IsLine (prefix ++ b ∷ [])
each_push [] b is ne = (ne, tt)
each_push (a ∷ prefix) b is ne = (is.0, each_push prefix b is.1 ne)

by_byte : (prefix bytes : List ℕ) (b : ℕ) (t : Bool) → (b == 10) ≡ t → IsLine prefix → EachIsLine (lines_on no_line [] bytes) → ((b ≡ 10 → ⊥) → EachIsLine (lines_on no_line (prefix ++ b ∷ []) bytes)) →
    EachIsLine (lines_on no_line prefix (b ∷ bytes))
by_byte prefix bytes b true e is rest more =
    subst EachIsLine (sym (cond-true (b == 10) (prefix ∷ lines_on no_line [] bytes) (lines_on no_line (prefix ++ b ∷ []) bytes) e)) (is, rest)
by_byte prefix bytes b false e is rest more =
    subst EachIsLine (sym (cond-false (b == 10) (prefix ∷ lines_on no_line [] bytes) (lines_on no_line (prefix ++ b ∷ []) bytes) e)) (more (eqb-false b 10 e))

each_whole : (prefix bytes : List ℕ) → IsLine prefix → EachIsLine (lines_on no_line prefix bytes)
each_whole prefix [] is = tt
each_whole prefix (b ∷ bytes) is = by_byte prefix bytes b (b == 10) refl is (each_whole [] bytes tt) (λ ne. each_whole (prefix ++ b ∷ []) bytes (each_push prefix b is ne))

each_take : (count : ℕ) (ls : List (List ℕ)) → EachIsLine ls → EachIsLine (take count ls)
each_take zero ls each = tt
each_take (suc count) [] each = tt
each_take (suc count) (l ∷ ls) each = (each.0, each_take count ls each.1)

-- ## The laws

module _ (back : (reply : Reply) → Fits reply → (reply_of (reply_text reply) ≡ Some reply) × IsLine (reply_text reply)) (quiet : (line : Notice) → NoticeFits line → (reply_of (notice_text line) ≡ None) × IsLine (notice_text line)) where
  pub every_tail : EveryTail
  every_tail workers input tail is = ap (paired (asked workers (script_lines input))) (tail_is_quiet back quiet tail is).answers_none

  -- where the answers to the earlier lines are among the replies
  pub next_told : (workers g w u : ℕ) (x : Answered) (xs : List Answered) (told : List Reply) (input output : List ℕ) (count : ℕ) → EachIsAnswered (asked workers (script_lines input)) (in_turn (x ∷ xs)) → Fits (Reply.Answered x.session x.answer)
      → answers_told told ≡ answers_in (in_turn xs) → IsOutput g w u told (first_lines count output) → transcript workers input (first_lines count output ++ reply_line (Reply.Answered x.session x.answer)) ≡ counted (in_turn (x ∷ xs))
  next_told workers g w u x xs told input output count each_answered fits are is =
      let ls : List (List ℕ) = take count (whole_lines output) in
      let r : Reply = Reply.Answered x.session x.answer in
      let each : EachIsLine (take count (whole_lines output)) = each_take count (whole_lines output) (each_whole [] output tt) in
      let whole : whole_lines (first_lines count output ++ reply_line r) ≡ take count (whole_lines output) ++ reply_text r ∷ [] =
      ap whole_lines (sym (lines_text_append (take count (whole_lines output)) (reply_text r ∷ [])))
      ∙ lines_back (take count (whole_lines output) ++ reply_text r ∷ []) (each_append (take count (whole_lines output)) (reply_text r ∷ []) each ((back r fits).1, tt)) in
      let were : answers (take count (whole_lines output)) ≡ answers_in (in_turn xs) =
      ap answers (sym (lines_back (take count (whole_lines output)) each)) ∙ answers_output back quiet g w u told (first_lines count output) is ∙ are in
      let said : answers (whole_lines (first_lines count output ++ reply_line r)) ≡ answers_in (in_turn (x ∷ xs)) =
      ap answers whole ∙ answers_append (take count (whole_lines output)) (reply_text r ∷ [])
      ∙ ap (λ (more : List (ℕ × Answer)). answers (take count (whole_lines output)) ++ more) (answers_one back quiet r fits)
      ∙ ap (λ (before : List (ℕ × Answer)). before ++ (x.session, x.answer) ∷ []) were
      ∙ sym (heard.answers_append (in_turn xs) (x ∷ [])) in
      ap (paired (asked workers (script_lines input))) said ∙ every_pair (asked workers (script_lines input)) (in_turn (x ∷ xs)) each_answered

  pub every_next_reply : EveryNextReply
  every_next_reply workers g w u x xs told input output count each_answered fits are is = next_told workers g w u x xs told input output count each_answered fits are.answers is

  pub every_next_in_turn : EveryNextInTurn
  every_next_in_turn workers g w u x xs told others input output count many fit begins heard_so is =
      let lines : script_of (x ∷ xs) ≡ script_of xs ++ (x.session, x.call) ∷ [] = script_append (x ∷ []) xs (fits_closed workers xs fit.0) in
      let more : script_lines input ≡ asked_lines (script_of (x ∷ xs)) ++ others =
      begins ∙ sym (append_assoc (asked_lines (script_of xs)) (ask x.session x.call ∷ []) others)
      ∙ ap (λ (l : List (List ℕ)). l ++ others) (sym (ap asked_lines lines ∙ lines_append (script_of xs) ((x.session, x.call) ∷ []))) in
      every_next_reply workers g w u x xs told input output count (answered_in_turn back quiet workers (x ∷ xs) others input many fit more) fit.2 (heard.heard_answers xs told heard_so) is
      ∙ counted_in_turn back quiet workers (x ∷ xs) fit
