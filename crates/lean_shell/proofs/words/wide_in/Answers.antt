use Rattle.std.proofs.Common.{option_map, sym, ◌∙◌, ap}
use Rattle.clap.specs.Words.{found_of, rows_of}
use Rattle.clap.proofs.WalkLemmas.{first_value-rows}
use Rattle.lean_shell.proofs.WordLemmas.{given, if_none, none_given, not_given}
use Rattle.lean_shell.proofs.words.wide_in.Goals as goal

pub returns-in_err-text-clause-none : goal.returns-in_err-text-clause-none
returns-in_err-text-clause-none c =
    let options = rows_of (found_of c.args.options.now) in
    if_none c.from_residual.result (not_given options c.args.name.now c.args.from c.args.to (option_map (λ s. s.now) c.get_str.result)
    (c.get_str.ensures ∙ first_value-rows (found_of c.args.options.now) c.args.name.now) (ap (option_map (λ s. s.now)) c.in_err-text.was))

pub returns-clause-some : goal.returns-clause-some
returns-clause-some c =
    given (rows_of (found_of c.args.options.now)) c.args.name.now c.args.from c.args.to c.in_ok-text.text.now
    (sym (ap (option_map (λ s. s.now)) c.in_ok-text.was) ∙ (c.get_str.ensures ∙ first_value-rows (found_of c.args.options.now) c.args.name.now)) c.number_in.result c.number_in.ensures.some

pub returns-clause-none : goal.returns-clause-none
returns-clause-none c =
    none_given (rows_of (found_of c.args.options.now)) c.args.name.now c.args.from c.args.to c.in_ok-text.text.now
    (sym (ap (option_map (λ s. s.now)) c.in_ok-text.was) ∙ (c.get_str.ensures ∙ first_value-rows (found_of c.args.options.now) c.args.name.now)) c.number_in.result c.number_in.ensures.none
