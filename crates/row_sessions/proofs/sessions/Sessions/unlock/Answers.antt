use Rattle.std.proofs.Common.{refl, ◌∙◌, ◌%◌, ◌+◌, ◌<◌, ap, subst, ◌≡◌, true, false, arith, length, get_or}
use Rattle.std.proofs.lemmas.List.{get_or-set_same, length-set, length-replicate}
use Rattle.btree_descent.specs.rows_trait.Views.{state}
use Rattle.key_locks.specs.Latching.{is_marked}
use Rattle.row_sessions.proofs.Standings.{stands_then, sessions_core}
use Rattle.row_sessions.proofs.Unlocks.{unlatched_core, marks_back, held_back, unlocked_after}
use Rattle.row_sessions.proofs.sessions.Sessions.unlock.Goals as goal

pub returns-in-Err-clause-stands : goal.returns-in-Err-clause-stands
returns-in-Err-clause-stands c =
    let s = c.holds.new.self in
    let st = c.if-not-holds.ensures.stands in
    let u = c.latch.new.seat.view in
    let o = c.in-Err.ensures in
    let same = unlatched_core c.args.worker (s.frames + c.args.key % length s.latches) s.seat.view u c.in-Err.field-0 o.err in
    stands_then s _ st o.fits.1 refl refl refl o.fits.0 (o.same.1 ∙ st.held) same.0 o.same.0
    (sessions_core s.rows.workers s.base s.sessions.items (state s.seat.view) (state u) same.1 st.sessions)

pub returns-clause-stands : goal.returns-clause-stands
returns-clause-stands c =
    let s = c.holds.new.self in
    let st = c.if-not-holds.ensures.stands in
    let second = c.latch.new.seat.view in
    let third = c.unlock.new.seat.view in
    let o = c.in-Ok.ensures in
    let p = c.unlock.ensures in
    let n = s.locks in
    let some = st.sized.some_lock in
    let long : length s.latches ≡ n = ap length st.unmarked ∙ length-replicate n false in
    let i = c.args.key % length s.latches in
    let j = c.args.key % length c.latch.new.self in
    let same_long : length c.latch.new.self ≡ length s.latches = ap length o.ok.0 ∙ length-set s.latches i true in
    let at : j ≡ i = ap (λ k. c.args.key % k) same_long in
    let lt : i < n = omega arith in
    let marks = marks_back s.latches c.latch.new.self c.unlock.new.self n i j st.unmarked lt at o.ok.0 p.marks in
    let marked : is_marked c.latch.new.self j ≡ true = ap (λ k. is_marked c.latch.new.self k) at ∙ (ap (λ l. get_or l i false) o.ok.0 ∙ get_or-set_same s.latches i true false (omega arith)) in
    let after = unlocked_after s.seat.view second third s.rows.workers s.base c.args.worker j c.session_of-session.result.end s.sessions.items o.ok.1 (p.given_up marked) st.sessions in
    let held = held_back s.frames i n c.unlock.new.self s.seat.view.held second.held third.held st.held o.rest (subst (λ k. Rattle.btree_descent.specs.rows_trait.Views.without third.held (s.frames + k) ≡ Rattle.btree_descent.specs.rows_trait.Views.without second.held (s.frames + k)) at p.rest) (marks ∙ st.unmarked) lt p.tied in
    stands_then s _ st (p.fits.1 ∙ o.fits.1) refl refl refl p.fits.0 held after.0 marks after.1
