use Rattle.std.proofs.Common.{◌++◌, ◌∷◌, []}
use Rattle.log_record.specs.Spelling.{pairs_text}
use Rattle.log_record.specs.Inside.{siblings_text}
use Rattle.log_record.proofs.HoldLemmas.{holds_same}
use Rattle.log_record.proofs.PartLemmas.{split_pieces}
use Rattle.log_record.proofs.write.put_split.Goals as goal

pub returns-clause-written : goal.returns-clause-written
returns-clause-written c prefix first h =
    let s = c.args.siblings.now in
    let p = prefix ++ siblings_text s [] in
    holds_same _ _ first c.put_pairs.new.into c.put_pairs.result (split_pieces prefix s c.args.level (pairs_text c.args.pairs.now))
    (c.put_pairs.ensures.written (p ++ c.args.level ∷ []) first (c.put_byte-at.ensures.written p first (c.put_siblings-at.ensures.written prefix first h)))
