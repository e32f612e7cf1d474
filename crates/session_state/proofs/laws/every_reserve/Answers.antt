use Rattle.session_state.proofs.ReserveLemmas.{every_reserve}
use Rattle.session_state.proofs.laws.every_reserve.Goals as goal

pub returns : goal.returns
returns c = every_reserve
