use Rattle.std.proofs.Common.{refl, ap, ℕ}
use Rattle.core_state.specs.image_model.Entries as logged
use Rattle.plain_core.specs.Tables.{at}
use Rattle.plain_core.specs.Records.{entry_of}
use Rattle.plain_core.specs.States.{state_of}
use Rattle.plain_core.proofs.Placings.{pages_placed}
use Rattle.plain_core.proofs.state.Core.change_pages.Goals as goal

pub returns : goal.returns
returns c = record {
  settings = refl;
  state = ap (λ (f : ℕ → logged.Contents). record (state_of c.args.self.now) { page = f })
      (pages_placed (entry_of c.args.entry.now) c.in_ok-placed.placed.items (at c.args.self.now.pages) (at c.set_all.new.self) c.in_ok-set_all.ensures c.in_ok-placed.ensures);
}
