use Rattle.std.proofs.Common.{◌≡◌, ◌∙◌, ap, ap₂, codes}
use Rattle.clap.specs.Simple.{app_of_fields}
use Rattle.clap.specs.Words.{App, app_of, new_app, with_subcommand}
use Rattle.lean_shell.specs.Words.{dump_words, format_words, lean_words, make_words, run_words, wanting}
use Rattle.lean_shell.proofs.command_line.lean_line.Goals as goal

pub returns : goal.returns
unfolding lean_words
returns c =
    let one : app_of c.in_ok-subcommand.field-0 ≡ with_subcommand (new_app (codes "lean")) format_words.top =
    c.in_ok-subcommand.ensures.shape c.in_ok-format_line.ensures.local ∙ ap₂ with_subcommand c.new.ensures.app (ap (λ (a : App). a.top) c.in_ok-format_line.ensures.reads) in
    let two : app_of c.in_ok-subcommand-2.field-0 ≡ with_subcommand (with_subcommand (new_app (codes "lean")) format_words.top) run_words.top =
    c.in_ok-subcommand-2.ensures.shape c.in_ok-run_line.ensures.local ∙ ap₂ with_subcommand one (ap (λ (a : App). a.top) c.in_ok-run_line.ensures.reads) in
    let three : app_of c.in_ok-subcommand-3.field-0 ≡ with_subcommand (with_subcommand (with_subcommand (new_app (codes "lean")) format_words.top) run_words.top) make_words.top =
    c.in_ok-subcommand-3.ensures.shape c.in_ok-make_line.ensures.local ∙ ap₂ with_subcommand two (ap (λ (a : App). a.top) c.in_ok-make_line.ensures.reads) in
    let four : app_of c.in_ok-lean.lean ≡ with_subcommand (with_subcommand (with_subcommand (with_subcommand (new_app (codes "lean")) format_words.top) run_words.top) make_words.top) dump_words.top =
    c.in_ok-lean.ensures.shape c.dump_line.ensures.local ∙ ap₂ with_subcommand three (ap (λ (a : App). a.top) c.dump_line.ensures.reads) in
    ap app_of_fields c.subcommand_required.ensures ∙ ap wanting four
