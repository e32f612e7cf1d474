-- A run that nothing hindered leaves no line out.
use Rattle.std.proofs.Common.{◌≡◌, ◌⊎◌, inl, inr, ◌++◌, ℕ, Bool, true, false, cond, List, [], ◌∷◌, refl, ap, subst, arith}
use Rattle.map_model.specs.declared.call.Call.{Call}
use Rattle.map_model.specs.Lists.{Has}
use Rattle.map_model.specs.Pairings.{is_open_line, script_of}
use Rattle.map_model.proofs.ListLemmas.{has_cases}
use Rattle.lean_disk.specs.Story.{Story}
use Rattle.lean_shell.specs.core_calls.Deeds.{asked}
use Rattle.lean_shell.specs.core_calls.Fronts.{Done}
use Rattle.lean_shell.specs.script_lang.Text.{script_lines}
use Rattle.lean_shell.specs.script_run.Runs.{calls_of}
use Rattle.lean_shell.specs.transcripts.Told.{ask, asked_lines}
use Rattle.lean_shell.specs.lean_edge.Outside.{Held}
use Rattle.lean_shell.specs.paged_engine.declared.opening.Size.{Size}
use Rattle.lean_shell.specs.Completeness.{AnswersEach, IsDone}
use Rattle.run_tests.specs.RuledOut.{EveryLineIsAnswered, HasItsAnswer, NothingLacks}

-- a line that asks calls asks one of them
pub record IsAsked (xs : List (ℕ × Call)) (text : List ℕ) : Type 0 where
  pub it : ℕ × Call
  pub has : Has it xs
  pub asks : text ≡ ask it.0 it.1

asked_by : (xs : List (ℕ × Call)) (text : List ℕ) → Has text (asked_lines xs) → IsAsked xs text
asked_by [] text has = absurd has
asked_by (x ∷ xs) text (inl e) = record { it = x; has = inl refl; asks = e }
asked_by (x ∷ xs) text (inr has) = let r = asked_by xs text has in record { it = r.it; has = inr r.has; asks = r.asks }

-- and an outcome is the answer to it
pub record IsAnswered (calls : List Done) (x : ℕ × Call) : Type 0 where
  pub it : Done
  pub has : Has it calls
  pub is : x ≡ (it.outcome.session, asked it.outcome.deed)

answered_by : (calls : List Done) (x : ℕ × Call) → Has x (script_of (calls_of calls)) → IsAnswered calls x
answered_by [] x has = absurd has
answered_by (y ∷ earlier) x has = by (is_open_line (calls_of earlier)) has (answered_by earlier x)
  where
    lines : List (ℕ × Call)
    lines = script_of (calls_of earlier)

    more : IsAnswered earlier x → IsAnswered (y ∷ earlier) x
    more r = record { it = r.it; has = inr r.has; is = r.is }

    last : Has x ((y.outcome.session, asked y.outcome.deed) ∷ []) → IsAnswered (y ∷ earlier) x
    last (inl e) = record { it = y; has = inl refl; is = e }
    last (inr none) = absurd none

    either : Has x lines ⊎ Has x ((y.outcome.session, asked y.outcome.deed) ∷ []) → (Has x lines → IsAnswered earlier x) → IsAnswered (y ∷ earlier) x
    either (inl has) rest = more (rest has)
    either (inr has) rest = last has

    by : (b : Bool) → Has x (cond b lines (lines ++ (y.outcome.session, asked y.outcome.deed) ∷ [])) → (Has x lines → IsAnswered earlier x) → IsAnswered (y ∷ earlier) x
    by true has rest = more (rest has)
    by false has rest = either (has_cases x lines ((y.outcome.session, asked y.outcome.deed) ∷ []) has) rest

has_answer : (size : Size) (s : Story) (input : List ℕ) (held0 held1 : Held) → AnswersEach size s input held0 held1 → (text : List ℕ) → Has text (script_lines input) → HasItsAnswer size s text
has_answer size s input held0 held1 x text has =
    let a = asked_by (script_of (calls_of x.calls)) text (subst (λ (lines : List (List ℕ)). Has text lines) x.lines has) in
    let b = answered_by x.calls a.it a.has in
    record {
      counts = x.counts;
      calls = x.calls;
      executed = x.executed;
      it = b.it;
      has = b.has;
      asks = subst (λ (c : ℕ × Call). text ≡ ask c.0 c.1) b.is a.asks;
    }

nothing_lacks : (size : Size) (status : ℕ) (s : Story) (input : List ℕ) (held0 held1 : Held) → IsDone status (AnswersEach size s input held0 held1) → NothingLacks size status s input
nothing_lacks size status s input held0 held1 (inl done) = let zero = done.0 in record {
  opened = λ e. omega (arith, zero, e);
  accepted = λ e. omega (arith, zero, e);
  each = λ e. has_answer size s input held0 held1 done.1;
}
nothing_lacks size status s input held0 held1 (inr eight) = record {
  opened = λ e. omega (arith, eight, e);
  accepted = λ e. omega (arith, eight, e);
  each = λ e. absurd (omega (arith, eight, e));
}

pub every_line_is_answered : (s0 s1 : Story) → EveryLineIsAnswered s0 s1
every_line_is_answered s0 s1 words status feed held0 held1 before now complete none size m asks ready script =
    nothing_lacks size status s0 feed.left held0 held1 ((complete none).run size m asks ready script)
