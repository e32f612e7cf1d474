use Rattle.std.proofs.Common.{◌++◌, codes}
use Rattle.std.specs.Fmt.{decimal}
use Rattle.script_lang.specs.Pieces.{name}
use Rattle.script_lang.proofs.PieceLemmas.{holds_regrouped}
use Rattle.script_lang.proofs.reply.put_committed.Goals as goal

pub returns-clause-written : goal.returns-clause-written
returns-clause-written c =
    let s = decimal c.args.session in
    let named = name c.args.session c.args.number in
    holds_regrouped s (codes " committed ") named (codes " at " ++ decimal c.args.commit) c.args.into.now c.put_with_number.new.into c.put_with_number.result
    (c.put_with_number.ensures.written (s ++ (codes " committed " ++ named)) c.args.into.now c.say_name-at.ensures.written)
