use Rattle.std.proofs.Common.{[], ◌∷◌, refl}
use Rattle.shared_rows.proofs.Whole.{is_last, is_returned}
use Rattle.shared_peeks.proofs.Two.{taken_two, both_there}
use Rattle.shared_peeks.proofs.peeks.gather.Goals as goal

pub end-requires-clause-last : goal.end-requires-clause-last
end-requires-clause-last c =
    let id = c.args.rows.table.shared.table_id in
    let t1 = c.args.first in
    let t2 = c.args.second in
    let taken = taken_two c.args.rows c.args.main c.take_in.new.maker_seat c.take_in-2.new.maker_seat t1 t2 c.requires.main.0 c.take_in.ensures.0 c.take_in.ensures.1 c.take_in-2.ensures.0 c.take_in-2.ensures.1 in
    is_last id c.args.main (t2 ∷ t1 ∷ []) c.take_in-2.new.maker_seat c.settle.ensures.settled.0 c.settle.new.seat.me.0 c.requires.main.1 (both_there (t2 ∷ t1 ∷ []) t1 t2 refl c.requires.first.1 c.requires.second.1 c.args.main.me.0.made c.requires.main.2) taken c.settle.ensures.settled.1

pub returns-clause-front : goal.returns-clause-front
returns-clause-front c =
    let id = c.args.rows.table.shared.table_id in
    let t1 = c.args.first in
    let t2 = c.args.second in
    let taken = taken_two c.args.rows c.args.main c.take_in.new.maker_seat c.take_in-2.new.maker_seat t1 t2 c.requires.main.0 c.take_in.ensures.0 c.take_in.ensures.1 c.take_in-2.ensures.0 c.take_in-2.ensures.1 in
    is_returned id c.args.main (t2 ∷ t1 ∷ []) c.take_in-2.new.maker_seat c.settle.ensures.settled.0 c.settle.new.seat.me.0 c.requires.main.1 (both_there (t2 ∷ t1 ∷ []) t1 t2 refl c.requires.first.1 c.requires.second.1 c.args.main.me.0.made c.requires.main.2) taken c.settle.ensures.settled.1 c.end.result.1.view c.end.ensures.view
