use Rattle.std.proofs.Common.{rules, ◌≡◌, List, ℕ, Some, codes, sym, ap, length, get_or, arith}
use Rattle.std.proofs.lemmas.Slice.Eq.{text_from_reads}
use Rattle.script_lang.specs.Lines.{lone_verb_of}
use Rattle.script_lang.proofs.LineLemmas.{no_lone_verb}
use Rattle.script_lang.proofs.line.read_lone_verb.Goals as goal

is : (verb ws : List ℕ) → ws ≡ verb → lone_verb_of (Some verb) ≡ lone_verb_of (Some ws)
is verb ws e = ap (λ (w : List ℕ). lone_verb_of (Some w)) (sym e)

pub returns-in-begin : goal.returns-in-begin
returns-in-begin c = is (codes "begin") c.args.words.now (text_from_reads c.args.words.now (codes "begin") (omega arith) (search rules))

pub returns-in-commit : goal.returns-in-commit
returns-in-commit c = is (codes "commit") c.args.words.now (text_from_reads c.args.words.now (codes "commit") (omega arith) (search rules))

pub returns-in-abort : goal.returns-in-abort
returns-in-abort c = is (codes "abort") c.args.words.now (text_from_reads c.args.words.now (codes "abort") (omega arith) (search rules))

pub returns-in_default : goal.returns-in_default
returns-in_default c = sym (no_lone_verb c.args.words.now (λ e. omega (arith, ap length e)) (λ e. omega (arith, ap length e)) (λ e. omega (arith, ap length e)))

pub returns-in_default-10 : goal.returns-in_default-10
returns-in_default-10 c =
    sym (no_lone_verb c.args.words.now (λ e. omega (arith, ap (λ (w : List ℕ). get_or w 0 0) e)) (λ e. omega (arith, ap length e)) (λ e. omega (arith, ap (λ (w : List ℕ). get_or w 0 0) e)))

pub returns-in_default-16 : goal.returns-in_default-16
returns-in_default-16 c =
    sym (no_lone_verb c.args.words.now (λ e. omega (arith, ap length e)) (λ e. omega (arith, ap (λ (w : List ℕ). get_or w 0 0) e)) (λ e. omega (arith, ap length e)))

pub returns-in_default-17 : goal.returns-in_default-17
returns-in_default-17 c = sym (no_lone_verb c.args.words.now (λ e. omega (arith, ap length e)) (λ e. omega (arith, ap length e)) (λ e. omega (arith, ap length e)))
