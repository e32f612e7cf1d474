use Rattle.std.proofs.Common.{ℕ, List, sym, subst}
use Rattle.page_store.specs.Slots.{HasSeal, slot_bytes}
use Rattle.page_store.proofs.SlotLemmas.{held_seal}
use Rattle.page_store.proofs.known.seal_at.Goals as goal

pub returns-in-Ok-clause-answer : goal.returns-in-Ok-clause-answer
returns-in-Ok-clause-answer g c told =
    let bytes : List ℕ = slot_bytes c.args.page c.args.slot ((g.P.Part.story c.args.dev.now).area (g.P.Part.seat c.args.dev.now).area).bytes in
    subst (HasSeal c.args.bounds c.args.page bytes) (sym c.seal_of.ensures) (held_seal c.args.bounds c.args.page bytes c.in-Ok.held (c.in-Ok.ensures.answer told))
