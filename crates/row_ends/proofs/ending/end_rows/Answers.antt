use Rattle.std.proofs.Common.{refl, ap, ◌∙◌, arith}
use Rattle.session_state.specs.rows_trait.Views.{Shape}
use Rattle.row_ends.proofs.LatchLemmas.{sized_on}
use Rattle.row_ends.proofs.EndLemmas.{closed, end_is, ended, held, may_turn, mine}
use Rattle.session_state.proofs.SyncLemmas.{has_word}
use Rattle.row_ends.proofs.ending.end_rows.Goals as goal

pub store_control-requires-clause-event : goal.store_control-requires-clause-event
store_control-requires-clause-event g c = may_turn c.every_turn.ensures (g.R.Rows.shape c.args.rows.now) (g.R.Rows.view c.args.seat.now) c.args.session.now c.args.commit c.args.floor c.args.number c.args.latches.now c.requires.may_end c.requires.number

pub store_control-requires-clause-place : goal.store_control-requires-clause-place
store_control-requires-clause-place g c = let m = c.requires.may_end in (let q = m.workers in let k = m.high in omega arith, has_word c.args.session.now.own 1 m.locks.works.one (omega arith))

pub unlock_rows-requires-clause-alone : goal.unlock_rows-requires-clause-alone
unlock_rows-requires-clause-alone g c = ap (λ (z : Shape). z.alone) c.store_control.ensures.shape ∙ c.requires.may_end.alone

pub unlock_rows-requires-clause-locks : goal.unlock_rows-requires-clause-locks
unlock_rows-requires-clause-locks g c = sized_on (g.R.Rows.shape c.args.rows.now) (g.R.Rows.shape c.store_control.new.self) (g.R.Rows.view c.args.seat.now) (g.R.Rows.view c.store_control.new.seat) c.args.session.now.own c.args.session.now.frames c.args.session.now.held.count _ c.store_control.ensures.shape c.store_control.ensures.step.1.goes.given refl c.requires.may_end.locks

pub unlock_rows-requires-clause-mine : goal.unlock_rows-requires-clause-mine
unlock_rows-requires-clause-mine g c = mine c.every_turn.ensures (g.R.Rows.shape c.args.rows.now) (g.R.Rows.view c.args.seat.now) c.args.session.now c.args.commit c.args.floor c.args.number c.args.latches.now c.requires.may_end c.requires.number c.store_control.ensures.step.0 (g.R.Rows.view c.store_control.new.seat) c.store_control.ensures.step.1

pub unlock_rows-requires-clause-held : goal.unlock_rows-requires-clause-held
unlock_rows-requires-clause-held g c = held c.every_turn.ensures (g.R.Rows.shape c.args.rows.now) (g.R.Rows.view c.args.seat.now) c.args.session.now c.args.commit c.args.floor c.args.number c.args.latches.now c.requires.may_end c.requires.number c.store_control.ensures.step.0 (g.R.Rows.view c.store_control.new.seat) c.store_control.ensures.step.1

pub unlock_rows-requires-clause-ended : goal.unlock_rows-requires-clause-ended
unlock_rows-requires-clause-ended g c = (closed c.every_turn.ensures (g.R.Rows.shape c.args.rows.now) (g.R.Rows.view c.args.seat.now) c.args.session.now c.args.commit c.args.floor c.args.number c.args.latches.now c.requires.may_end c.requires.number c.store_control.ensures.step.0 (g.R.Rows.view c.store_control.new.seat) c.store_control.ensures.step.1, end_is c.every_turn.ensures (g.R.Rows.shape c.args.rows.now) (g.R.Rows.view c.args.seat.now) c.args.session.now c.args.commit c.args.floor c.args.number c.args.latches.now c.requires.may_end c.requires.number c.store_control.ensures.step.0 (g.R.Rows.view c.store_control.new.seat) c.store_control.ensures.step.1)

pub returns-clause-ended : goal.returns-clause-ended
returns-clause-ended g c = ended c.every_turn.ensures (g.R.Rows.shape c.args.rows.now) (g.R.Rows.view c.args.seat.now) c.args.session.now c.args.commit c.args.floor c.args.number c.args.latches.now c.requires.may_end c.requires.number c.store_control.ensures.step.0 (g.R.Rows.view c.store_control.new.seat) c.store_control.ensures.step.1 _ (g.R.Rows.view c.unlock_rows.new.seat) c.unlock_rows.ensures.gave
