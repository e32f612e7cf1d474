use Rattle.std.proofs.Common.{[], ◌∷◌, ◌++◌}
use Rattle.lean_bytes.specs.Numbers.{number_bytes}
use Rattle.log_record.proofs.HoldLemmas.{holds_none}
use Rattle.log_record.proofs.write.put_head.Goals as goal

pub returns-clause-written : goal.returns-clause-written
returns-clause-written c =
    let f = c.args.into.now in
    let k = c.args.kind ∷ [] in
    c.put_word.ensures.written (k ++ number_bytes 8 c.args.txn) f (c.put_word-at.ensures.written k f (c.put_byte-at.ensures.written [] f (holds_none f)))
