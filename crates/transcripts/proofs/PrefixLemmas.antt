-- The first lines of an output, and the first of the replies.
use Rattle.std.proofs.Common.{Bool, true, false, cond, ◌≡◌, ◌⊎◌, ◌++◌, ◌∷◌, ◌≤◌, [], ℕ, suc, List, Option, Some, None, length, take, refl, sym, ap, ◌∙◌, subst, inl, inr, ⊎_elim, arith}
use Rattle.std.proofs.lemmas.List.{append-nil, take_at}
use mathlib.Core.List.{append_assoc}
use Rattle.map_model.specs.declared.call.Call.{Call}
use Rattle.map_model.specs.declared.call.Answer.{Answer}
use Rattle.map_model.specs.declared.call.Answer.TheVariants as answer
use Rattle.script_lang.specs.Notices.{Notice, notice_text, NoticeFits}
use Rattle.script_lang.specs.Notices.Notice.{Opened}
use Rattle.map_model.specs.Outputs.{Reply, answers_told, AreBehind}
use Rattle.script_lang.specs.Replies.{reply_of, reply_text, Fits}
use Rattle.script_lang.specs.Text.{whole_lines, IsLine}
use Rattle.map_model.specs.declared.call.Answered.{Answered}
use Rattle.map_model.specs.Lists.{keep}
use Rattle.map_model.specs.Pairings.{answers_in, AreAnswered, calls_of, EachIsAnswered, in_turn, is_last, is_of}
use Rattle.transcripts.specs.Told.{AreAnswers, durable_of, replies, text_of, EachFits, EachReplyFits, IsOutput}
use Rattle.transcripts.specs.Told.Heard.{Whole, Lacking}
use Rattle.transcripts.specs.Transcripts.{durables_in, name_onto, durables, lines_text}
use Rattle.transcripts.specs.Laws.{WasPrinted, FirstReplies, Moments, EveryPrefix, FirstCalls, Prefix, EveryHeard}
use Rattle.transcripts.proofs.LineLemmas.{EachIsLine, lines_back}
use Rattle.transcripts.proofs.HeardLemmas.{answers_append, heard_answers}
use Rattle.transcripts.proofs.ReplyLemmas.{texts, text_is, texts_append, length_texts, each_text, whole_output, durables_texts}

older_fit : (newer first : List Reply) → EachReplyFits (newer ++ first) → EachReplyFits first
older_fit [] first fit = fit
older_fit (r ∷ newer) first fit = older_fit newer first fit.0

module _ (back : (reply : Reply) → Fits reply → (reply_of (reply_text reply) ≡ Some reply) × IsLine (reply_text reply)) (quiet : (line : Notice) → NoticeFits line → (reply_of (notice_text line) ≡ None) × IsLine (notice_text line)) where
  was_printed : (g w u : ℕ) (newer first : List Reply) (output : List ℕ) → IsOutput g w u (newer ++ first) output → WasPrinted g w u first output
  was_printed g w u newer first output o =
      let opened : List ℕ = notice_text (Opened g w u) in
      let fit : EachReplyFits first = older_fit newer first o.fit in
      let lines : whole_lines output ≡ (opened ∷ texts first) ++ (texts newer ++ whole_lines o.tail) =
      whole_output back quiet g w u (newer ++ first) output o
      ∙ ap (λ (ls : List (List ℕ)). opened ∷ (ls ++ whole_lines o.tail)) (texts_append newer first)
      ∙ ap (λ (ls : List (List ℕ)). opened ∷ ls) (append_assoc (texts first) (texts newer) (whole_lines o.tail)) in
      let prefix : take (suc (length first)) (whole_lines output) ≡ opened ∷ texts first =
      ap (take (suc (length first))) lines ∙ take_at (opened ∷ texts first) (texts newer ++ whole_lines o.tail) (suc (length first)) (ap suc (length_texts first)) in
      let are : EachIsLine (opened ∷ texts first) = ((quiet (Opened g w u) o.opened).1, each_text back quiet first fit) in
      record {
        lines = ap lines_text prefix ∙ ap (λ (t : List ℕ). opened ++ 10 ∷ t) (sym (text_is first)) ∙ sym (append_assoc opened (10 ∷ []) (text_of first));
        durables_are =
            ap (λ (ls : List (List ℕ)). durables (lines_text ls)) prefix
            ∙ ap durables_in (lines_back (opened ∷ texts first) are)
            ∙ ap (λ (r : Option Reply). name_onto r (durables_in (texts first))) (quiet (Opened g w u) o.opened).0
            ∙ durables_texts back quiet first fit;
      }

  first_replies : (told : List Reply) (count : ℕ) → count ≤ length told → FirstReplies told count
  first_replies [] count le = record { first = []; newer = []; is = refl; count_is = omega arith }
  first_replies (r ∷ earlier) count le =
      go (le_cases count (length earlier) le) (first_replies earlier count)
    where
      le_cases : (m n : ℕ) → m ≤ suc n → (m ≡ suc n) ⊎ (m ≤ n)
      le_cases m n h = grind arith

      go : (count ≡ suc (length earlier)) ⊎ (count ≤ length earlier) → (count ≤ length earlier → FirstReplies earlier count) → FirstReplies (r ∷ earlier) count
      go (inl all) more = record { first = r ∷ earlier; newer = []; is = refl; count_is = sym all }
      go (inr some) more = let f = more some in record { first = f.first; newer = r ∷ f.newer; is = ap (λ (rs : List Reply). r ∷ rs) f.is; count_is = f.count_is }

  pub moments : (g w u : ℕ) (told : List Reply) (output : List ℕ) → IsOutput g w u told output → Moments g w u told output
  moments g w u told output o = record {
    each = λ newer first e. was_printed g w u newer first output (subst (λ (rs : List Reply). IsOutput g w u rs output) (sym e) o);
    every = first_replies told;
  }

-- ## The first of the replies to calls

-- the replies to calls fit
durable_fits : (s : ℕ) (a : Answer) (earlier : List Reply) → Fits (Reply.Answered s a) → EachReplyFits earlier → EachReplyFits (durable_of s a ++ Reply.Answered s a ∷ earlier)
durable_fits s (answer.Committed n g) earlier fits before = ((before, fits), (fits.0, fits.1.0))
durable_fits s _ earlier fits before = (before, fits)

pub replies_fit : (workers : ℕ) (xs : List Answered) → EachFits workers xs → EachReplyFits (replies xs)
replies_fit workers [] fit = tt
replies_fit workers (x ∷ earlier) fit = durable_fits x.session x.answer (replies earlier) fit.2 (replies_fit workers earlier fit.0)

first_fit : (workers : ℕ) (later first xs : List Answered) → later ++ first ≡ xs → EachFits workers xs → EachFits workers first
first_fit workers [] first xs e fit = subst (EachFits workers) (sym e) fit
first_fit workers (x ∷ later) first xs e fit = first_fit workers later first (later ++ first) refl (let all : EachFits workers (x ∷ later ++ first) = subst (EachFits workers) (sym e) fit in all.0)

abbrev here : (xs : List Answered) (told : List Reply) → told ≡ replies xs → FirstCalls xs told
here xs told e = record { first = xs; later = []; is = refl; heard = Whole e }

abbrev further : (x : Answered) (xs : List Answered) (told : List Reply) → FirstCalls xs told → FirstCalls (x ∷ xs) told
further x xs told f = record { first = f.first; later = x ∷ f.later; is = ap (λ (ys : List Answered). x ∷ ys) f.is; heard = f.heard }

tail_is : (r s : Reply) (rs bs : List Reply) → r ∷ rs ≡ s ∷ bs → rs ≡ bs
tail_is r s rs bs e = cc

peel_one : (r : Reply) (rest newer told : List Reply) → newer ++ told ≡ r ∷ rest → (told ≡ r ∷ rest) ⊎ ((n : List Reply) × (n ++ told ≡ rest))
peel_one r rest [] told e = inl e
peel_one r rest (q ∷ newer) told e = inr (newer, tail_is q r (newer ++ told) rest e)

peel_two : (r d : Reply) (rest newer told : List Reply) → newer ++ told ≡ d ∷ r ∷ rest → (told ≡ d ∷ r ∷ rest) ⊎ ((told ≡ r ∷ rest) ⊎ ((n : List Reply) × (n ++ told ≡ rest)))
peel_two r d rest [] told e = inl e
peel_two r d rest (q ∷ newer) told e = inr (peel_one r rest newer told (tail_is q d (newer ++ told) (r ∷ rest) e))

first_calls : (xs : List Answered) (newer told : List Reply) → newer ++ told ≡ replies xs → FirstCalls xs told
first_calls [] newer told e = here [] told (none newer told e)
  where
    none : (newer told : List Reply) → newer ++ told ≡ [] → told ≡ []
    none [] told e = e
    none (r ∷ newer) told e = cc
first_calls (x ∷ earlier) newer told e = step x.session x.call x.answer newer e (first_calls earlier)
  where
    one : (s : ℕ) (call : Call) (a : Answer) → durable_of s a ≡ [] → (newer : List Reply) → newer ++ told ≡ Reply.Answered s a ∷ replies earlier
        → ((n t : List Reply) → n ++ t ≡ replies earlier → FirstCalls earlier t) → FirstCalls (record { session = s; call = call; answer = a } ∷ earlier) told
    one s call a none newer e more =
        ⊎_elim (λ h. here (record { session = s; call = call; answer = a } ∷ earlier) told (h ∙ ap (λ (d : List Reply). d ++ Reply.Answered s a ∷ replies earlier) (sym none)))
        (λ h. further (record { session = s; call = call; answer = a }) earlier told (more h.0 told h.1))
        (peel_one (Reply.Answered s a) (replies earlier) newer told e)

    step : (s : ℕ) (call : Call) (a : Answer) (newer : List Reply) → newer ++ told ≡ durable_of s a ++ Reply.Answered s a ∷ replies earlier
        → ((n t : List Reply) → n ++ t ≡ replies earlier → FirstCalls earlier t) → FirstCalls (record { session = s; call = call; answer = a } ∷ earlier) told
    step s call (answer.Committed n g) newer e more =
        let a : Answer = answer.Committed n g in
        let x : Answered = record { session = s; call = call; answer = a } in
        ⊎_elim (λ h. here (x ∷ earlier) told h)
        (λ k. ⊎_elim (λ h. record {
          first = x ∷ earlier;
          later = [];
          is = refl;
          heard = Lacking (record { session = s; call = call; number = n; at = g; earlier = earlier; last = refl; told_is = h });
        })
        (λ h. further x earlier told (more h.0 told h.1))
        k)
        (peel_two (Reply.Answered s a) (Reply.Durable s n) (replies earlier) newer told e)
    step s call a newer e more = one s call a refl newer e more

pub prefix : (xs : List Answered) (newer told : List Reply) → newer ++ told ≡ replies xs → Prefix xs told
prefix xs newer told e =
    let f : FirstCalls xs told = first_calls xs newer told e in
    record {
      calls = f;
      fit = λ workers fit. (first_fit workers f.later f.first xs f.is fit, older_fit newer told (subst EachReplyFits (sym e) (replies_fit workers xs fit)));
    }

pub every_heard : EveryHeard
every_heard xs = record { answers = heard_answers xs; prefix = prefix xs }

-- ## The first of the answers to calls

-- two lists with one more at the end each
abbrev init : {A : Type 0} → List A → List A
init [] = []
init (x ∷ []) = []
init (x ∷ y ∷ ys) = x ∷ init (y ∷ ys)

init_push : {A : Type 0} (xs : List A) (x : A) → init (xs ++ x ∷ []) ≡ xs
init_push [] x = refl
init_push (y ∷ []) x = refl
init_push (y ∷ z ∷ zs) x = ap (λ l. y ∷ l) (init_push (z ∷ zs) x)

push_same : {A : Type 0} (xs ys : List A) (x y : A) → xs ++ x ∷ [] ≡ ys ++ y ∷ [] → xs ≡ ys
push_same xs ys x y e = sym (init_push xs x) ∙ (ap init e ∙ init_push ys y)

push_some : {A : Type 0} (xs : List A) (x : A) → xs ++ x ∷ [] ≡ [] → ⊥
push_some [] x e = cc
push_some (y ∷ xs) x e = cc

older_behind : (r : Reply) (earlier : List Reply) → AreBehind (r ∷ earlier) → AreBehind earlier
older_behind (Reply.Durable s n) earlier b = b.0
older_behind (Reply.Answered s a) earlier b = b

record Found (xs : List Answered) (told : List Reply) : Type 0 where
  first : List Answered
  later : List Answered
  is : later ++ first ≡ xs
  answers : AreAnswers first told

found : (newer told : List Reply) (xs : List Answered) → AreAnswers xs (newer ++ told) → Found xs told
found [] told xs a = record { first = xs; later = []; is = refl; answers = a }
found (Reply.Durable s n ∷ newer) told xs a =
    found newer told xs (record { answers = sym (append-nil (answers_told (newer ++ told))) ∙ a.answers; behind = a.behind.0 })
found (Reply.Answered s c ∷ newer) told [] a = absurd (push_some (answers_told (newer ++ told)) (s, c) a.answers)
found (Reply.Answered s c ∷ newer) told (x ∷ earlier) a = more (found newer told earlier (record {
  answers = push_same (answers_told (newer ++ told)) (answers_in (in_turn earlier)) (s, c) (x.session, x.answer) (a.answers ∙ answers_append (in_turn earlier) (x ∷ []));
  behind = older_behind (Reply.Answered s c) (newer ++ told) a.behind;
}))
  where
    more : Found earlier told → Found (x ∷ earlier) told
    more f = record { first = f.first; later = x ∷ f.later; is = ap (λ (ys : List Answered). x ∷ ys) f.is; answers = f.answers }

-- lines that are answered in turn are so by the first of the answers
first_answer : (lines : List Call) (xs more : List Answered) → AreAnswered lines (xs ++ more) → AreAnswered lines xs
first_answer lines [] more a = tt
first_answer [] (x ∷ xs) more a = absurd a
first_answer (c ∷ lines) (x ∷ xs) more a = (a.0, first_answer (cond (is_last x.answer) lines (c ∷ lines)) xs more a.1)

turn_append : (later first : List Answered) → in_turn (later ++ first) ≡ in_turn first ++ in_turn later
turn_append [] first = sym (append-nil (in_turn first))
turn_append (x ∷ later) first = ap (λ (ys : List Answered). ys ++ x ∷ []) (turn_append later first) ∙ append_assoc (in_turn first) (in_turn later) (x ∷ [])

keep_append : (p : Answered → Bool) (xs ys : List Answered) → keep p (xs ++ ys) ≡ keep p xs ++ keep p ys
keep_append p [] ys = refl
keep_append p (x ∷ xs) ys = go (keep_append p xs ys) (p x)
  where
    go : keep p (xs ++ ys) ≡ keep p xs ++ keep p ys → (b : Bool) → cond b (x ∷ keep p (xs ++ ys)) (keep p (xs ++ ys)) ≡ cond b (x ∷ keep p xs) (keep p xs) ++ keep p ys
    go ih true = ap (λ (l : List Answered). x ∷ l) ih
    go ih false = ih

pub first_in_order : (lines : List (ℕ × Call)) (later first xs : List Answered) → later ++ first ≡ xs → EachIsAnswered lines (in_turn xs) → EachIsAnswered lines (in_turn first)
first_in_order lines later first xs e a w =
    first_answer (calls_of w lines) (keep (is_of w) (in_turn first)) (keep (is_of w) (in_turn later))
    (subst (AreAnswered (calls_of w lines)) (ap (λ (ys : List Answered). keep (is_of w) (in_turn ys)) (sym e) ∙ (ap (keep (is_of w)) (turn_append later first) ∙ keep_append (is_of w) (in_turn first) (in_turn later))) (a w))

pub every_prefix : EveryPrefix
every_prefix xs newer told a =
    let f : Found xs told = found newer told xs a in
    record { first = f.first; later = f.later; is = f.is; answers = f.answers; in_order = λ lines each. first_in_order lines f.later f.first xs f.is each }
