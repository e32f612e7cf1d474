use Rattle.std.proofs.Common.{◌++◌}
use Rattle.lean_bytes.specs.Numbers.{number_bytes}
use Rattle.log_record.specs.Spelling.{ref_text}
use Rattle.log_record.proofs.HoldLemmas.{holds_same, siblings_pieces}
use Rattle.log_record.proofs.parts.put_siblings.Goals as goal

pub returns-clause-written : goal.returns-clause-written
returns-clause-written c prefix first h =
    let s = c.args.siblings.now in
    let l = prefix ++ ref_text s.left in
    let r = l ++ ref_text s.right in
    let p = r ++ ref_text s.parent in
    holds_same _ _ first c.put_word.new.into c.put_word.result (siblings_pieces prefix (ref_text s.left) (ref_text s.right) (ref_text s.parent) (number_bytes 8 s.separator) (number_bytes 8 s.high))
    (c.put_word.ensures.written (p ++ number_bytes 8 s.separator) first
    (c.put_word-at.ensures.written p first (c.put_ref-at-3.ensures.written r first (c.put_ref-at-2.ensures.written l first (c.put_ref-at.ensures.written prefix first h)))))
