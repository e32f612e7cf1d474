use Rattle.std.proofs.Common.{◌∙◌, ap, map, sym}
use Rattle.core_state.specs.Needs as needs
use Rattle.core_state.specs.Events as events
use Rattle.plain_images.specs.Pages.{pair_of}
use Rattle.plain_core.specs.Events.{event_of}
use Rattle.plain_core.specs.Tables.{at}
use Rattle.plain_core.specs.States.{opening, state_of}
use Rattle.plain_core.proofs.state.Core.may.Goals as goal

pub returns-in-Enter : goal.returns-in-Enter
returns-in-Enter c = λ x. c.may_enter.ensures x ∙ ap (λ e. needs.may (opening c.args.self.now.settings x) (state_of c.args.self.now) (event_of e)) (sym c.in-Enter.is)

pub returns-in-Begin : goal.returns-in-Begin
returns-in-Begin c = λ x. c.may_begin.ensures x ∙ ap (λ e. needs.may (opening c.args.self.now.settings x) (state_of c.args.self.now) (event_of e)) (sym c.in-Begin.is)

pub returns-in-Lock : goal.returns-in-Lock
returns-in-Lock c = λ x. c.may_lock.ensures x ∙ ap (λ e. needs.may (opening c.args.self.now.settings x) (state_of c.args.self.now) (event_of e)) (sym c.in-Lock.is)

pub returns-in-Change : goal.returns-in-Change
returns-in-Change c = λ x. c.may_change.ensures x ∙ ap (λ e. needs.may (opening c.args.self.now.settings x) (state_of c.args.self.now) (event_of e)) (sym c.in-Change.is)

pub returns-in-End : goal.returns-in-End
returns-in-End c = λ x. c.may_end.ensures x ∙ ap (λ e. needs.may (opening c.args.self.now.settings x) (state_of c.args.self.now) (event_of e)) (sym c.in-End.is)

pub returns-in-Unlock : goal.returns-in-Unlock
returns-in-Unlock c = λ x. c.may_unlock.ensures x ∙ ap (λ e. needs.may (opening c.args.self.now.settings x) (state_of c.args.self.now) (event_of e)) (sym c.in-Unlock.is)

pub returns-in-Flush : goal.returns-in-Flush
returns-in-Flush c = λ x. c.may_flush.ensures x ∙ ap (λ e. needs.may (opening c.args.self.now.settings x) (state_of c.args.self.now) (event_of e)) (sym c.in-Flush.is)

pub returns-in-Sync : goal.returns-in-Sync
returns-in-Sync c = λ x. c.may_sync.ensures x ∙ ap (λ e. needs.may (opening c.args.self.now.settings x) (state_of c.args.self.now) (event_of e)) (sym c.in-Sync.is)

pub returns-in-Post : goal.returns-in-Post
returns-in-Post c = λ x. c.may_post.ensures x ∙ ap (λ e. needs.may (opening c.args.self.now.settings x) (state_of c.args.self.now) (event_of e)) (sym c.in-Post.is)

pub returns-in-Refused : goal.returns-in-Refused
returns-in-Refused c = λ x. c.may_refuse.ensures x ∙ ap (λ e. needs.may (opening c.args.self.now.settings x) (state_of c.args.self.now) (event_of e)) (sym c.in-Refused.is)

pub returns-in-Save : goal.returns-in-Save
returns-in-Save c = λ x. c.may_save.ensures x ∙ ap (λ e. needs.may (opening c.args.self.now.settings x) (state_of c.args.self.now) (event_of e)) (sym c.in-Save.is)

pub returns-in-Leave : goal.returns-in-Leave
returns-in-Leave c = λ x. c.is_inside.ensures ∙ ap (λ e. needs.may (opening c.args.self.now.settings x) (state_of c.args.self.now) (event_of e)) (sym c.in-Leave.is)

pub returns-in-Load : goal.returns-in-Load
returns-in-Load c = λ x. c.may_load.ensures x ∙ ap (λ e. needs.may (opening c.args.self.now.settings x) (state_of c.args.self.now) (event_of e)) (sym c.in-Load.is)

pub returns-in-Cool : goal.returns-in-Cool
returns-in-Cool c = λ x. c.may_cool.ensures x ∙ ap (λ e. needs.may (opening c.args.self.now.settings x) (state_of c.args.self.now) (event_of e)) (sym c.in-Cool.is)

pub returns-in-Rescue : goal.returns-in-Rescue
returns-in-Rescue c = λ x. c.may_rescue.ensures x ∙ ap (λ e. needs.may (opening c.args.self.now.settings x) (state_of c.args.self.now) (event_of e)) (sym c.in-Rescue.is)

pub returns-in-Evict : goal.returns-in-Evict
returns-in-Evict c = λ x. c.may_evict.ensures x ∙ ap (λ e. needs.may (opening c.args.self.now.settings x) (state_of c.args.self.now) (event_of e)) (sym c.in-Evict.is)

pub returns-in-Cut : goal.returns-in-Cut
returns-in-Cut c = λ x. c.may_cut.ensures x (at c.in-Cut.heads) ∙ ap (λ e. needs.may (opening c.args.self.now.settings x) (state_of c.args.self.now) (event_of e)) (sym c.in-Cut.is)

pub returns-in-Split : goal.returns-in-Split
returns-in-Split c = λ x. c.may_split.ensures x ∙ ap (λ e. needs.may (opening c.args.self.now.settings x) (state_of c.args.self.now) (event_of e)) (sym c.in-Split.is)

pub returns-in-Lift : goal.returns-in-Lift
returns-in-Lift c = λ x. c.may_lift.ensures x ∙ ap (λ e. needs.may (opening c.args.self.now.settings x) (state_of c.args.self.now) (event_of e)) (sym c.in-Lift.is)

pub returns-in-Join : goal.returns-in-Join
returns-in-Join c = λ x. c.may_join.ensures x ∙ ap (λ e. needs.may (opening c.args.self.now.settings x) (state_of c.args.self.now) (event_of e)) (sym c.in-Join.is)

pub returns-in-Drop : goal.returns-in-Drop
returns-in-Drop c = λ x. c.may_drop.ensures x ∙ ap (λ e. needs.may (opening c.args.self.now.settings x) (state_of c.args.self.now) (event_of e)) (sym c.in-Drop.is)

pub returns-in-Fetch : goal.returns-in-Fetch
returns-in-Fetch c = λ x. c.may_fetch.ensures x ∙ ap (λ pairs. needs.may (opening c.args.self.now.settings x) (state_of c.args.self.now) (events.Event.Fetch c.in-Fetch.page (map pair_of pairs))) c.deref-in-Fetch.ensures.value ∙ ap (λ e. needs.may (opening c.args.self.now.settings x) (state_of c.args.self.now) (event_of e)) (sym c.in-Fetch.is)

pub returns-in-Purge : goal.returns-in-Purge
returns-in-Purge c = λ x. c.may_purge.ensures x ∙ ap (λ keys. needs.may (opening c.args.self.now.settings x) (state_of c.args.self.now) (events.Event.Purge c.in-Purge.worker c.in-Purge.page keys)) c.deref.ensures.value ∙ ap (λ e. needs.may (opening c.args.self.now.settings x) (state_of c.args.self.now) (event_of e)) (sym c.in-Purge.is)
