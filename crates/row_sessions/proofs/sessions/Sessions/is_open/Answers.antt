use Rattle.std.proofs.Common.{◌∙◌, ap, sym}
use Rattle.row_sessions.proofs.sessions.Sessions.is_open.Goals as goal

pub returns : goal.returns
returns c yes_is = (c.requires.stands.sessions.each c.args.worker c.requires.worker).is_open ∙ (ap (λ s. s.is_open) (sym c.session_of.ensures) ∙ yes_is)
