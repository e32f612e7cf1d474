-- Which lines of a script ask the calls of a run.
use Rattle.std.proofs.Common.{◌≡◌, ◌<◌, ◌^◌, ◌++◌, ℕ, Bool, true, false, cond, List, [], ◌∷◌, Option, Some, None, refl, sym, ◌∙◌, ap, subst, true≢false}
use Rattle.std.proofs.lemmas.Bool.{cond-false, cond-true}
use Rattle.std.proofs.lemmas.List.{append-nil}
use mathlib.Core.List.{append_assoc}
use Rattle.map_model.specs.declared.call.Answered.{Answered}
use Rattle.map_model.specs.declared.call.Call.{Call}
use Rattle.map_model.specs.declared.call.Call.TheVariants as call
use Rattle.map_model.specs.declared.call.Refusal.{Refusal}
use Rattle.map_model.specs.declared.call.Refusal.TheVariants as refusal
use Rattle.map_model.specs.Pairings.{EachIsAnswered, in_turn, is_last, is_last_refusal, is_open_line, script_of}
use Rattle.buffered_engine.specs.core_state.Openings.{Opening}
use Rattle.buffered_engine.specs.core_calls.Deeds.{Committed, Deed, Met, Refused, answered, asked}
use Rattle.buffered_engine.specs.core_calls.Fronts.{Done}
use Rattle.buffered_engine.specs.core_calls.Runs.{EachTells, Tells}
use Rattle.buffered_engine.specs.core_calls.Steps.{IsAbortOf, IsBehind, hindered_in, is_conflict}
use Rattle.buffered_engine.specs.call_parts.Memory.{Memory}
use Rattle.buffered_engine.specs.engine_trait.Limits.{limits}
use Rattle.script_lang.specs.Text.{script_lines}
use Rattle.script_run.specs.Runs.{Executes, calls_of}
use Rattle.transcripts.proofs.AskedLemmas.{lines_append}
use Rattle.transcripts.proofs.OrderLemmas.{first_script, line_first, lines_answered}
use Rattle.transcripts.proofs.PrefixLemmas.{first_in_order}
use Rattle.transcripts.proofs.TranscriptLemmas.{every_asked}
use Rattle.transcripts.specs.Laws.{ComesNext}
use Rattle.transcripts.specs.Told.{ask, asked_lines, EachLineFits, LineFits}
use Rattle.transcripts.specs.Transcripts.{asked as asked_by}
use Rattle.lean_shell.specs.Starts.{HasLinesFor}
use Rattle.lean_shell.proofs.Runs.PrintedLemmas.{calls_append, goes_on}

-- what was executed is told
pub executes_tell : (g : Opening) (group : ℕ) (first : Memory) (xs : List Done) (last : Memory) → Executes g group [] first xs last → EachTells limits g group xs
executes_tell g group first [] last e = tt
executes_tell g group first (x ∷ earlier) last e =
    (executes_tell g group first earlier e.0 e.1, subst (λ (ys : List Done). Tells limits g group ys x) (append-nil earlier) e.2.tells)

-- ## The lines of the first of the calls

pub first_lines_for : (sessions : ℕ) (input : List ℕ) (later first calls : List Done) → later ++ first ≡ calls → HasLinesFor sessions input calls → HasLinesFor sessions input first
first_lines_for sessions input later first calls e l =
    let f = first_script (calls_of later) (calls_of first) in
    let all : script_of (calls_of calls) ≡ script_of (calls_of first) ++ f.more = ap (λ (xs : List Done). script_of (calls_of xs)) (sym e) ∙ (ap script_of (calls_append later first) ∙ f.is) in
    record {
      fits = line_first sessions (script_of (calls_of first)) f.more (subst (EachLineFits sessions) all l.fits);
      others = asked_lines f.more ++ l.others;
      lines = l.lines
          ∙ (ap (λ (xs : List (ℕ × Call)). asked_lines xs ++ l.others) all
          ∙ (ap (λ (ls : List (List ℕ)). ls ++ l.others) (lines_append (script_of (calls_of first)) f.more)
          ∙ append_assoc (asked_lines (script_of (calls_of first))) (asked_lines f.more) l.others));
    }

-- they are answered in turn
pub answered_by : (sessions : ℕ) (input : List ℕ) (g : Opening) (group : ℕ) (calls : List Done) → sessions < 2 ^ 32 → EachTells limits g group calls → HasLinesFor sessions input calls → EachIsAnswered (asked_by sessions (script_lines input)) (in_turn (calls_of calls))
answered_by sessions input g group calls many each l = lines_answered sessions (calls_of calls) l.others input many l.fits (goes_on g group calls each) l.lines

pub answered_first : (lines : List (ℕ × Call)) (later first calls : List Done) → later ++ first ≡ calls → EachIsAnswered lines (in_turn (calls_of calls)) → EachIsAnswered lines (in_turn (calls_of first))
answered_first lines later first calls e a = first_in_order lines (calls_of later) (calls_of first) (calls_of calls) (sym (calls_append later first) ∙ ap calls_of e) a

-- ## One call more

-- it begins a line
pub begins_line : (sessions : ℕ) (input : List ℕ) (calls : List Done) (x : Done) → is_open_line (calls_of calls) ≡ false → EachLineFits sessions (script_of (calls_of calls)) → LineFits sessions x.outcome.session (asked x.outcome.deed)
    → ComesNext (script_of (calls_of calls)) (ask x.outcome.session (asked x.outcome.deed)) input → HasLinesFor sessions input (x ∷ calls)
begins_line sessions input calls x closed fits own next =
    let more : List (ℕ × Call) = (x.outcome.session, asked x.outcome.deed) ∷ [] in
    let all : script_of (calls_of (x ∷ calls)) ≡ script_of (calls_of calls) ++ more = cond-false (is_open_line (calls_of calls)) (script_of (calls_of calls)) (script_of (calls_of calls) ++ more) closed in
    record {
      fits = subst (EachLineFits sessions) (sym all) (both (script_of (calls_of calls)) fits);
      others = next.others;
      lines = next.begins
          ∙ sym (ap (λ (xs : List (ℕ × Call)). asked_lines xs ++ next.others) all
          ∙ (ap (λ (ls : List (List ℕ)). ls ++ next.others) (lines_append (script_of (calls_of calls)) more)
          ∙ append_assoc (asked_lines (script_of (calls_of calls))) (asked_lines more) next.others));
    }
  where
    both : (xs : List (ℕ × Call)) → EachLineFits sessions xs → EachLineFits sessions (xs ++ (x.outcome.session, asked x.outcome.deed) ∷ [])
    both [] f = (own, tt)
    both (y ∷ ys) f = (f.0, both ys f.1)

-- its line comes next
pub comes_behind : (sessions : ℕ) (input : List ℕ) (x : Answered) (said : List Answered) (others : List (List ℕ)) → sessions < 2 ^ 32 → is_open_line said ≡ false → EachLineFits sessions (script_of (x ∷ said)) → script_lines input ≡ asked_lines (script_of (x ∷ said)) ++ others
    → asked_by sessions (script_lines input) ≡ script_of said ++ (x.session, x.call) ∷ asked_by sessions others
comes_behind sessions input x said others many closed fits lines =
    ap (asked_by sessions) lines
    ∙ (every_asked sessions (script_of (x ∷ said)) others many fits
    ∙ (ap (λ (xs : List (ℕ × Call)). xs ++ asked_by sessions others) (cond-false (is_open_line said) (script_of said) (script_of said ++ (x.session, x.call) ∷ []) closed)
    ∙ append_assoc (script_of said) ((x.session, x.call) ∷ []) (asked_by sessions others)))

-- it goes on with the newest one
pub same_line : (sessions : ℕ) (input : List ℕ) (calls : List Done) (x : Done) → is_open_line (calls_of calls) ≡ true → HasLinesFor sessions input calls → HasLinesFor sessions input (x ∷ calls)
same_line sessions input calls x open_yet l =
    let all : script_of (calls_of (x ∷ calls)) ≡ script_of (calls_of calls) = cond-true (is_open_line (calls_of calls)) (script_of (calls_of calls)) (script_of (calls_of calls) ++ (x.outcome.session, asked x.outcome.deed) ∷ []) open_yet in
    record {
      fits = subst (EachLineFits sessions) (sym all) l.fits;
      others = l.others;
      lines = l.lines ∙ ap (λ (xs : List (ℕ × Call)). asked_lines xs ++ l.others) (sym all);
    }

-- a commit goes on with no line: behind a conflict comes an abort, and behind a pair the same scan
pub commit_closed : (g : Opening) (group : ℕ) (x : Done) (xs : List Done) (n at : ℕ) → EachTells limits g group (x ∷ xs) → x.outcome.deed ≡ Committed n at → is_open_line (calls_of xs) ≡ false
commit_closed g group x [] n at t e = refl
commit_closed g group x (y ∷ xs) n at t e = go (is_last (answered y.outcome.deed)) refl
  where
    none : (c : Call) → IsAbortOf c (Committed n at) → ⊥
    none c i = i

    behind : (c : Call) → hindered_in y.outcome.deed ≡ Some c → ⊥
    behind c h = none c (subst (IsAbortOf c) e (subst (λ (o : Option Call). IsBehind o y.outcome.session x.outcome) h t.1.hindered).1)

    open_yet : (d : Deed) → is_last (answered d) ≡ false → call.Commit ≡ asked d → (c : Call) × (hindered_in d ≡ Some c)
    open_yet (Met from to k v alone) more same = absurd (cc)
    open_yet (Refused c why backs) more same = (c, conflict why more)
      where
        conflict : (why : Refusal) → is_last_refusal why ≡ false → cond (is_conflict why) (Some c) None ≡ Some c
        conflict (refusal.Conflict h) q = refl
        conflict _ q = absurd (true≢false q)
    open_yet _ more same = absurd (true≢false more)

    go : (b : Bool) → is_last (answered y.outcome.deed) ≡ b → cond b false true ≡ false
    go true q = refl
    go false q =
        let same : call.Commit ≡ asked y.outcome.deed = sym (ap asked e) ∙ (t.1.goes_on q).1 in
        let h = open_yet y.outcome.deed q same in
        absurd (behind h.0 h.1)
