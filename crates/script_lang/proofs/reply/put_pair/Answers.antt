use Rattle.std.proofs.Common.{◌++◌, codes}
use Rattle.std.specs.Fmt.{decimal}
use Rattle.script_lang.proofs.PieceLemmas.{holds_regrouped}
use Rattle.script_lang.proofs.reply.put_pair.Goals as goal

pub returns-clause-written : goal.returns-clause-written
returns-clause-written c =
    let s = decimal c.args.session in
    let k = decimal c.args.key in
    holds_regrouped s (codes " pair ") k (codes " " ++ decimal c.args.value) c.args.into.now c.put_with_number.new.into c.put_with_number.result
    (c.put_with_number.ensures.written (s ++ (codes " pair " ++ k)) c.args.into.now c.say_number-at.ensures.written)
