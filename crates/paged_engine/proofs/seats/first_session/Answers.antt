use Rattle.std.proofs.Common.{refl, ap}
use Rattle.paged_engine.proofs.seats.first_session.Goals as goal

pub returns : goal.returns
returns c = record {
  first = record { group = c.requires.group; behind = refl; works = refl; is_open = refl; txn = refl; clock = ap (λ k. k.clock) c.new.ensures; floor = ap (λ k. k.floor) c.new.ensures; debt = ap (λ k. k.debt) c.new.ensures; end = refl; undo = c.in_ok-new.ensures; first = refl; is_half_aborted = refl; rows = ap (λ h. h.rows) c.in_ok-new-2.ensures };
  own = refl;
  workers = c.logs.ensures.answer;
  group = refl;
  frames = refl;
  rows = ap (λ h. h.count) c.in_ok-new-2.ensures;
  free = refl;
}
