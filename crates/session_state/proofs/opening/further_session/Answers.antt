use Rattle.session_state.proofs.OpeningLemmas.{further}
use Rattle.session_state.proofs.opening.further_session.Goals as goal

pub returns : goal.returns
returns c = further c.args.first.now c.args.own _ _ _ _ _ c.in_ok-new.ensures c.requires.undo c.in_ok-new-2.ensures c.count.ensures c.requires.held c.in_ok-new-3.ensures
