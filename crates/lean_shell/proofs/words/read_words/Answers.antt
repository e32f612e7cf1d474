use Rattle.std.proofs.Common.{◌≡◌, [], ◌∙◌, ap, subst}
use Rattle.clap.specs.Words.{App, HasKind, fault_of, is_simple, is_simple_and_free, subcommand_of, subcommand_rows_of}
use Rattle.lean_shell.specs.Words.{texts}
use Rattle.lean_shell.proofs.WordLemmas.{asks_none, asks_some, is_exact, is_known, not_taken}
use Rattle.lean_shell.proofs.words.read_words.Goals as goal

pub returns-in-Ok-clause-some : goal.returns-in-Ok-clause-some
returns-in-Ok-clause-some c =
    let words = texts c.args.words.now in
    let line = c.in_ok-lean_line.ensures in
    asks_some words (subcommand_rows_of c.in-Ok.matches)
    (subst (λ (a : App). fault_of a words ≡ []) line (c.in-Ok.ensures.kinds (ap is_simple_and_free line ∙ is_exact)))
    ((c.in-Ok.ensures.matches (ap is_simple line ∙ is_known)).1 ∙ ap (λ (a : App). subcommand_of a words) line)
    c.asked_by.result c.asked_by.ensures.some

pub returns-in-Ok-clause-none : goal.returns-in-Ok-clause-none
returns-in-Ok-clause-none c =
    let words = texts c.args.words.now in
    let line = c.in_ok-lean_line.ensures in
    asks_none words (subcommand_rows_of c.in-Ok.matches)
    (subst (λ (a : App). fault_of a words ≡ []) line (c.in-Ok.ensures.kinds (ap is_simple_and_free line ∙ is_exact)))
    ((c.in-Ok.ensures.matches (ap is_simple line ∙ is_known)).1 ∙ ap (λ (a : App). subcommand_of a words) line)
    c.asked_by.result c.asked_by.ensures.none

pub returns : goal.returns
returns c =
    let words = texts c.args.words.now in
    let line = c.in_ok-lean_line.ensures in
    record {
      some = tt;
      none = not_taken words c.in-Err.error (subst (λ (a : App). HasKind (fault_of a words) c.in-Err.error) line (c.in-Err.ensures.kinds (ap is_simple_and_free line ∙ is_exact)))
          (λ memory. c.in_default.not-OutOfMemory (c.kind.ensures ∙ memory));
    }
