use Rattle.session_state.proofs.HeldLemmas.{grown, none_marked}
use Rattle.session_state.proofs.held.HeldRows.new.Goals as goal

pub invariant_of-result : goal.invariant_of-result
invariant_of-result c = none_marked _ _ c.args.count _ (grown _ _ c.args.count _ c.in_ok-resize.ensures.items c.new-marks.ensures.items c.new-marks.ensures.len) c.in_ok-rows.ensures.items c.ranges.count.fits c.in_ok-rows.ensures.capacity
