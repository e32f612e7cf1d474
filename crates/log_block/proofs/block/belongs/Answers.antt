use Rattle.std.proofs.Common.{◌≡◌, false, true, sym, ap, ◌∙◌}
use Rattle.log_block.specs.Block.{seal_text}
use Rattle.log_block.proofs.BlockLemmas.{generation_read, log_read, block_read}
use Rattle.log_block.proofs.block.belongs.Goals as goal

pub returns-then-header-generation : goal.returns-then-header-generation
returns-then-header-generation c =
    let h = c.split_header.result.0 in
    let e = c.split_header.ensures in (
      λ t. let no_way : false ≡ true = t in cc,
      λ is. absurd (c.if-header-generation.true (sym (generation_read h.generation h.log h.block h.size h.count c.args.bytes.now c.split_header.result.1.now e.generation e.log e.block e.prefix) ∙ is.of_generation)),
    )

pub returns-then-header-log : goal.returns-then-header-log
returns-then-header-log c =
    let h = c.split_header.result.0 in
    let e = c.split_header.ensures in (
      λ t. let no_way : false ≡ true = t in cc,
      λ is. absurd (c.if-header-log.true (sym (log_read h.generation h.log h.block h.size h.count c.args.bytes.now c.split_header.result.1.now e.generation e.log e.block e.prefix) ∙ is.of_log)),
    )

pub returns-then-header-block : goal.returns-then-header-block
returns-then-header-block c =
    let h = c.split_header.result.0 in
    let e = c.split_header.ensures in (
      λ t. let no_way : false ≡ true = t in cc,
      λ is. absurd (c.if-header-block.true (sym (block_read h.generation h.log h.block h.size h.count c.args.bytes.now c.split_header.result.1.now e.generation e.log e.block e.prefix) ∙ is.of_block)),
    )

pub returns : goal.returns
returns c =
    let h = c.split_header.result.0 in
    let e = c.split_header.ensures in
    let r = c.split_header.result.1.now in
    let bytes = c.args.bytes.now in (
      λ t. record {
        sealed = record {
          whole = c.if-bytes-ne-BLOCK.false;
          seal = sym c.split_at.ensures.back ∙ c.check.ensures.0 t ∙ ap seal_text c.split_at.ensures.front;
        };
        of_generation = generation_read h.generation h.log h.block h.size h.count bytes r e.generation e.log e.block e.prefix ∙ c.if-header-generation.false;
        of_log = log_read h.generation h.log h.block h.size h.count bytes r e.generation e.log e.block e.prefix ∙ c.if-header-log.false;
        of_block = block_read h.generation h.log h.block h.size h.count bytes r e.generation e.log e.block e.prefix ∙ c.if-header-block.false;
      },
      λ is. c.check.ensures.1 (c.split_at.ensures.back ∙ is.sealed.seal ∙ ap seal_text (sym c.split_at.ensures.front)),
    )
