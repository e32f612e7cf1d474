use Rattle.std.proofs.Common.{◌+◌, [], arith}
use Rattle.std.proofs.lemmas.Fmt.{decimal_digit}
use Rattle.std.specs.Fmt.{decimal}
use Rattle.script_lang.proofs.PieceLemmas.{holds_none, holds_one}
use Rattle.script_lang.proofs.text.put_session.Goals as goal

pub returns-then-session-lt10-clause-written : goal.returns-then-session-lt10-clause-written
returns-then-session-lt10-clause-written c =
    holds_one (decimal c.args.session) (48 + c.args.session) c.args.into.now (decimal_digit c.args.session c.if-session-lt10.true) (omega arith)

pub returns-clause-written : goal.returns-clause-written
returns-clause-written c = c.put_number.ensures.written [] c.args.into.now (holds_none c.args.into.now)
