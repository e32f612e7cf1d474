use Rattle.std.proofs.Common.{[], ◌++◌}
use Rattle.lean_bytes.specs.Numbers.{number_bytes}
use Rattle.log_record.proofs.HoldLemmas.{holds_none}
use Rattle.log_block.specs.Block.{header_text}
use Rattle.log_block.proofs.BlockLemmas.{holds_same, header_pieces}
use Rattle.log_block.proofs.block.put_header.Goals as goal

pub returns-clause-written : goal.returns-clause-written
returns-clause-written c =
    let f = c.args.into.now in
    let h = c.args.header in
    let g = number_bytes 8 h.generation in
    let s = number_bytes 8 h.log in
    let q = number_bytes 8 h.block in
    let n = number_bytes 4 h.size in
    let k = number_bytes 4 h.count in
    holds_same ((((g ++ s) ++ q) ++ n) ++ k) (header_text h.generation h.log h.block h.size h.count) f c.put_short.new.into c.put_short.result (header_pieces g s q n k)
    (c.put_short.ensures.written (((g ++ s) ++ q) ++ n) f
    (c.put_short-at.ensures.written ((g ++ s) ++ q) f
    (c.put_word-at-3.ensures.written (g ++ s) f
    (c.put_word-at-2.ensures.written g f
    (c.put_word-at.ensures.written [] f (holds_none f))))))
