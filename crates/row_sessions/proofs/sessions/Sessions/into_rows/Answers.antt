use Rattle.std.proofs.Common.{◌∙◌, arith, refl, sym}
use Rattle.row_sessions.proofs.sessions.Sessions.into_rows.Goals as goal

pub returns-clause-locks : goal.returns-clause-locks
returns-clause-locks c =
    let z = c.requires.stands.sized in
    let e = z.locks in
    let some = z.some_lock in
    (omega arith, z.rows ∙ sym z.locks, c.requires.stands.locks_sound)

pub returns-clause-workers : goal.returns-clause-workers
returns-clause-workers c = (c.requires.stands.sized.workers, refl, c.requires.stands.sized.few)

pub returns-clause-small : goal.returns-clause-small
returns-clause-small c = let t = c.args.self.rows.small in omega arith
