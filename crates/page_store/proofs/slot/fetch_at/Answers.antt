use Rattle.std.proofs.Common.{◌≡◌, ◌+◌, ◌*◌, ℕ, List, take, subst}
use Rattle.lean_disk.proofs.MomentLemmas.{reads_none, reads_more}
use Rattle.page_store.specs.Slots.{HoldsIn, slot_bytes}
use Rattle.page_store.proofs.PieceLemmas.{read_piece}
use Rattle.page_store.proofs.slot.fetch_at.Goals as goal

pub returns-clause-answer : goal.returns-clause-answer
returns-clause-answer g c told =
    let s = g.P.Part.story c.args.dev.now in
    let bytes : List ℕ = (s.area (g.P.Part.seat c.args.dev.now).area).bytes in
    let read : take c.in-Got.n c.read.new.into ≡ slot_bytes c.args.page c.args.slot bytes =
    read_piece c.args.page c.args.slot c.in-Got.n bytes c.args.buffer.now c.read.new.into c.requires.room (c.in-Got.ensures.looked.bytes told) in
    subst (λ (b : List ℕ). HoldsIn c.args.bounds c.args.page b c.take_page.result) read c.take_page.ensures.answer

pub returns-clause-reads : goal.returns-clause-reads
returns-clause-reads g c =
    let s0 = g.P.Part.story c.args.dev.now in
    reads_more (g.P.Part.seat c.args.dev.now).area (2048 * c.args.page + 1024 * c.args.slot) c.args.buffer.now c.read.new.into c.read.result s0 s0 (g.P.Part.story c.read.new.self)
    (reads_none s0 (g.met.P.Part.lawful c.args.dev.now)) c.read.ensures.looked
