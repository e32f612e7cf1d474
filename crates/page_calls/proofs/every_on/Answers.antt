use Rattle.page_calls.proofs.Knowing.{knows_opened}
use Rattle.page_calls.proofs.every_on.Goals as goal

pub returns : goal.returns
returns g c s0 o es x firm stands count is none = record { stands = stands; knows = knows_opened x firm count is (λ p lt. (stands.pages.firms p lt).half) none }
