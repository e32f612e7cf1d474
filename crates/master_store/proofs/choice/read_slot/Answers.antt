use Rattle.std.proofs.Common.{◌≡◌, ℕ, take, ap, subst, sym, ◌∙◌, refl}
use Rattle.page_store.specs.image_model.Fair.{piece}
use Rattle.lean_disk.specs.Story.{Tells}
use Rattle.page_store.specs.disk_image.MasterSlots.{master_in}
use Rattle.master_store.proofs.ReadLemmas.{read_slot}
use Rattle.master_store.proofs.choice.read_slot.Goals as goal

pub returns-clause-answer : goal.returns-clause-answer
returns-clause-answer g c told =
    let s0 = g.P.Part.story c.args.dev.now in
    let a = (g.P.Part.seat c.args.dev.now).area in
    let there : Tells s0 a = subst (Tells s0) (sym c.requires.seat) told in
    let gave = (c.in-Got.ensures).looked.bytes there in
    let prefix : take c.in-Got.n c.read.new.into ≡ piece 1024 c.args.slot (s0.area a).bytes =
    read_slot c.args.slot c.in-Got.n (s0.area a).bytes _ c.read.new.into refl gave.0 gave.1 in
    c.take_master.ensures.answer ∙ ap (master_in c.args.slot) (prefix ∙ ap (λ (b : ℕ). piece 1024 c.args.slot (s0.area b).bytes) c.requires.seat)
