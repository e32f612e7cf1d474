-- What a run says in text.
use Rattle.std.proofs.Common.{◌≡◌, inl, inr, ⊎_elim, ◌<◌, ◌^◌, ◌++◌, ◌∷◌, ◌+◌, [], ℕ, suc, true, false, cond, List, Some, IsTrue, length, take, refl, sym, ap, ◌∙◌, subst, arith}
use Rattle.std.proofs.lemmas.List.{append-nil}
use mathlib.Core.List.{append_assoc}
use Rattle.lean_edge.specs.Outside.{Feed, Held}
use Rattle.script_lang.specs.Reading.{Unread, Reading}
use Rattle.map_model.specs.Outputs.{Reply}
use Rattle.map_model.specs.declared.call.Answered.{Answered}
use Rattle.map_model.specs.Pairings.{is_last, is_open_line, script_of}
use Rattle.call_parts.specs.core_calls.Deeds.{answered}
use Rattle.call_parts.specs.core_calls.Fronts.{Done}
use Rattle.script_lang.specs.Replies.{reply_line, reply_text}
use Rattle.script_lang.specs.Text.{script_lines}
use Rattle.transcripts.specs.Told.{ask, asked_lines, asked_text, text_of, EachLineFits, EachReplyFits, IsCut}
use Rattle.transcripts.specs.Told.IsTail.{CutReply}
use Rattle.transcripts.specs.Laws.{NextLaws}
use Rattle.transcripts.proofs.AskedLemmas.{reading}
use Rattle.transcripts.proofs.NextLemmas.{next_laws, part}
use Rattle.script_run.specs.Runs.{Hand, Holds, InHand, IsRefusedLine, ReadsTo, PrintsTo, IsCutOff, calls_of}
use Rattle.script_run.specs.Runs.InHand.{OfLine, OfAbort, OfScan}
use Rattle.script_run.specs.Runs.IsRefusedLine.{NoLine, TooLong, TooMany}
use Rattle.script_run.specs.Texts.{IsTailOf, IsUnanswered, IsUnanswered as unanswered, LinesRead, ScriptText, Stopped}
use Rattle.script_run.specs.declared.stop.Stop.{Stop}
use Rattle.script_run.specs.declared.stop.Stop.TheVariants.{End, Refused, ReadFault, WriteFault, DiskFault, Damaged}
use Rattle.script_run.proofs.FitLemmas.{hindered_open}

-- ## The script

module _ (sessions : ℕ) (few : sessions < 2 ^ 32) (start feed : Feed) (reader : Unread) (newer : List Done) (fit : EachLineFits sessions (script_of (calls_of newer))) (tells : IsTrue start.tells) where
  abbrev xs : List Answered
  xs = calls_of newer

  laws : NextLaws sessions start feed reader (script_of xs)
  laws = next_laws sessions start feed reader (script_of xs) few fit tells

  -- the line of this number, which was refused
  refused : (line number : ℕ) → line ≡ number → number ≡ suc (length (script_of xs)) → IsRefusedLine sessions number start feed reader (asked_text (script_of xs)) → LinesRead (Refused line) sessions xs start.left
  refused line number is count (NoLine got outside) = let n = laws.got got in record { others = reader.line ∷ n.others; lines = n.begins; stopped = (is ∙ count, record { next = reader.line; rest = n.others; is = refl; cause = inl outside.value }) }
  refused line number is count (TooLong long) = let n = laws.long long in record { others = n.line ∷ n.next.others; lines = n.next.begins; stopped = (is ∙ count, record { next = n.line; rest = n.next.others; is = refl; cause = inl (n.none sessions) }) }
  refused line number is count (TooMany got last) = let n = laws.got got in record { others = reader.line ∷ n.others; lines = n.begins; stopped = (is ∙ count, record { next = reader.line; rest = n.others; is = refl; cause = inr (is ∙ last) }) }

  others_left : Reading start feed reader (asked_text (script_of xs)) → script_lines start.left ≡ asked_lines (script_of xs) ++ script_lines (reader.bytes ++ feed.left)
  others_left r = reading sessions start feed reader (script_of xs) few fit r tells

  -- the line of an answer that is not its last waits for one more
  open_line : (y : Done) (earlier : List Done) → newer ≡ y ∷ earlier → is_open_line (calls_of (y ∷ earlier)) ≡ true → is_open_line xs ≡ true
  open_line y earlier are is = ap (λ (ds : List Done). is_open_line (calls_of ds)) are ∙ is

  further : (stop : Stop) → ((others : List (List ℕ)) → IsUnanswered sessions xs others → Stopped stop sessions xs (length (script_of xs)) others) → (y : Done) (earlier : List Done) → newer ≡ y ∷ earlier → is_last (answered y.outcome.deed) ≡ false
      → Reading start feed reader (asked_text (script_of xs)) → LinesRead stop sessions xs start.left
  further stop is y earlier are more r = record {
    others = script_lines (reader.bytes ++ feed.left);
    lines = others_left r;
    stopped = is (script_lines (reader.bytes ++ feed.left)) (unanswered.OfLast (open_line y earlier are (ap (λ b. cond b false true) more)));
  }

  in_hand : (stop : Stop) → ((others : List (List ℕ)) → IsUnanswered sessions xs others → Stopped stop sessions xs (length (script_of xs)) others) → (hand : Hand) → InHand sessions newer hand start feed reader (asked_text (script_of xs)) → LinesRead stop sessions xs start.left
  in_hand stop is hand (OfLine fits r) =
      let n = laws.asks hand.session hand.call fits r in
      record { others = ask hand.session hand.call ∷ n.others; lines = n.begins; stopped = is (ask hand.session hand.call ∷ n.others) (unanswered.OfLine hand.session hand.call fits n.others refl) }
  in_hand stop is hand (OfAbort y earlier are session hindered r) = further stop is y earlier are (hindered_open y.outcome.deed hand.call hindered) r
  in_hand stop is hand (OfScan y earlier are session asks more none r) = further stop is y earlier are more r

  lines_read : (stop : Stop) (hand : Hand) → ReadsTo (Some stop) sessions newer hand (suc (0 + length (script_of xs))) start feed reader (asked_text (script_of xs)) → LinesRead stop sessions xs start.left
  lines_read End hand r = record { others = []; lines = laws.ends r.0 r.1 ∙ sym (append-nil (asked_lines (script_of xs))); stopped = refl }
  lines_read (Refused line) hand r = refused line (suc (0 + length (script_of xs))) r.0 (omega arith) r.1
  lines_read ReadFault hand r = record { others = script_lines (reader.bytes ++ feed.left); lines = others_left r; stopped = tt }
  lines_read WriteFault hand r = record { others = script_lines (reader.bytes ++ feed.left); lines = others_left r; stopped = tt }
  lines_read DiskFault hand r = in_hand DiskFault (λ others un. un) hand r
  lines_read (Damaged place) hand r = in_hand (Damaged place) (λ others un. un) hand r

-- ## The output

module _ (sessions : ℕ) (xs : List Answered) (start : Feed) (replies told : List Reply) (tail : List ℕ) (h0 h1 : Held) (fit : EachReplyFits told) (holds : Holds told tail h0 h1) where
  -- all was put
  whole_text : (stop : Stop) → (IsTrue start.tells → LinesRead stop sessions xs start.left) → IsTailOf stop tail → told ≡ replies → ScriptText stop sessions xs replies told start h0 h1
  whole_text stop read ends all = record { read = read; out = told; more = []; out_is = refl; whole = λ other. all; later = []; first = all; fit = fit; tail = tail; ends = ends; bytes = holds.bytes }

  -- the sink failed
  cut_text : (IsTrue start.tells → LinesRead WriteFault sessions xs start.left) → IsCutOff replies told tail → ScriptText WriteFault sessions xs replies told start h0 h1
  cut_text read c = ⊎_elim cut whole (part c.next c.count)
    where
      cut : IsCut (reply_text c.next) (take c.count (reply_line c.next)) → ScriptText WriteFault sessions xs replies told start h0 h1
      cut is = record {
        read = read;
        out = told;
        more = [];
        out_is = refl;
        whole = λ other. absurd (other refl);
        later = c.later ++ c.next ∷ [];
        first = append_assoc c.later (c.next ∷ []) told ∙ c.split;
        fit = fit;
        tail = tail;
        ends = CutReply c.next c.fits (subst (IsCut (reply_text c.next)) (sym c.prefix) is);
        bytes = holds.bytes;
      }

      whole : take c.count (reply_line c.next) ≡ reply_line c.next → ScriptText WriteFault sessions xs replies told start h0 h1
      whole is = record {
        read = read;
        out = c.next ∷ told;
        more = c.next ∷ [];
        out_is = refl;
        whole = λ other. absurd (other refl);
        later = c.later;
        first = c.split;
        fit = (fit, c.fits);
        tail = [];
        ends = CutReply c.next c.fits (record { more = reply_text c.next; is = refl });
        bytes = λ tells. holds.bytes tells ∙ ap (λ (t : List ℕ). h0.bytes ++ (text_of told ++ t)) (c.prefix ∙ is) ∙ ap (λ (t : List ℕ). h0.bytes ++ t) (sym (append-nil (text_of told ++ reply_line c.next)));
      }

  printed : (stop : Stop) → (IsTrue start.tells → LinesRead stop sessions xs start.left) → PrintsTo (Some stop) replies told tail → ScriptText stop sessions xs replies told start h0 h1
  printed End read w = whole_text End read w.none w.told_is
  printed (Refused line) read w = whole_text (Refused line) read w.none w.told_is
  printed ReadFault read w = whole_text ReadFault read w.none w.told_is
  printed WriteFault read c = cut_text read c
  printed DiskFault read w = whole_text DiskFault read w.none w.told_is
  printed (Damaged place) read w = whole_text (Damaged place) read w.none w.told_is

pub script_text : (stop : Stop) (sessions : ℕ) (newer : List Done) (hand : Hand) (start feed : Feed) (reader : Unread) (replies told : List Reply) (tail : List ℕ) (held0 held1 : Held) → sessions < 2 ^ 32 →
    EachLineFits sessions (script_of (calls_of newer)) → ReadsTo (Some stop) sessions newer hand (suc (0 + length (script_of (calls_of newer)))) start feed reader (asked_text (script_of (calls_of newer))) →
    EachReplyFits told → PrintsTo (Some stop) replies told tail → Holds told tail held0 held1 → ScriptText stop sessions (calls_of newer) replies told start held0 held1
script_text stop sessions newer hand start feed reader replies told tail held0 held1 few fits reads fit prints holds =
    printed sessions (calls_of newer) start replies told tail held0 held1 fit holds stop (λ tells. lines_read sessions few start feed reader newer fits tells stop hand reads) prints
