use Rattle.std.proofs.Common.{refl}
use Rattle.lean_proto.specs.row_words.declared.event.Event.TheVariants.{Evict}
use Rattle.held_rows.specs.Waits.{opens_one}
use Rattle.page_moves.proofs.Alone.{evict_may}
use Rattle.page_moves.proofs.single.evict.Goals as goal

pub publish_one-requires-clause-one : goal.publish_one-requires-clause-one
publish_one-requires-clause-one g c = opens_one (λ q. refl) c.requires.one refl

pub publish_one-requires-clause-event : goal.publish_one-requires-clause-event
publish_one-requires-clause-event g c = (Evict c.args.page, refl, evict_may c.args.hold.row c.args.page c.requires.one c.requires.evicts)

pub returns-clause-went : goal.returns-clause-went
returns-clause-went g c = c.publish_one.ensures.went (Evict c.args.page) refl
