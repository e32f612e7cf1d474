use Rattle.std.proofs.Common.{ap, ◌∙◌}
use Rattle.session_state.specs.declared.session.Session.{Session}
use Rattle.session_desks.proofs.DeskLemmas.{desk_is, free_set}
use Rattle.session_desks.proofs.desk.change_places.Goals as goal

pub returns-clause-session : goal.returns-clause-session
returns-clause-session g c = free_set c.swap.new.x c.args.desk.now.session c.swap-3.new.x c.args.work.now.session.free _ c.swap.ensures.x_after (c.swap-3.ensures.x_after ∙ ap (λ (s : Session). s.free) c.swap.ensures.y_after)

pub returns-clause-desk : goal.returns-clause-desk
returns-clause-desk g c =
    desk_is _ _ _ _ (free_set c.swap.new.y c.args.work.now.session c.swap-3.new.y c.args.desk.now.session.free _ c.swap.ensures.y_after (c.swap-3.ensures.y_after ∙ ap (λ (s : Session). s.free) c.swap.ensures.x_after)) c.swap-2.ensures.y_after
