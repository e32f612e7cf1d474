use Rattle.session_desks.proofs.DeskLemmas.{from_first}
use Rattle.session_desks.proofs.desk.from_first.Goals as goal

pub returns-clause-turned : goal.returns-clause-turned
returns-clause-turned g c =
    from_first c.args.session (record { session = c.args.work.now.session; log = c.args.work.now.log }) (record { session = c.change_places.new.work.session; log = c.change_places.new.work.log }) c.index_mut.result.now _ c.change_places.new.desk c.args.desks.now.items
    c.requires.seated c.requires.first c.requires.session.0 c.requires.session.1 c.requires.further c.index_mut.ensures.value c.change_places.ensures.session c.change_places.ensures.log c.change_places.ensures.desk
