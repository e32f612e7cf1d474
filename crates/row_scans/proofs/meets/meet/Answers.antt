use Rattle.std.proofs.Common.{◌∙◌, ap, arith, subst, sym}
use Rattle.row_changes.specs.session_state.declared.session.Session.{Session}
use Rattle.row_changes.proofs.WayLemmas.{warm_met}
use Rattle.row_scans.specs.Inside.{AreHeld, HasWalked}
use Rattle.row_scans.proofs.MeetLemmas.{cold_first, few_more, has_met, meets_refused, no_conflict, rows_taken, rows_then, turn_more}
use Rattle.row_scans.proofs.meets.meet.Goals as goal

pub returns-in-Met-clause-meets : goal.returns-in-Met-clause-meets
returns-in-Met-clause-meets g c =
    let v = g.R.Rows.view c.args.seat.now in
    let u = g.R.Rows.view c.loop-turn.seat in
    let a = g.R.Rows.view c.look.new.seat in
    let i = c.loop-turn.invariant in
    has_met c.args.session.now.own v u a c.args.key c.loop-turn.taken c.in-Met.met i.rows
    (subst (λ o. HasWalked o u a c.args.key c.loop-turn.taken c.in-Met.met) (ap (λ (s : Session). s.own) i.session) c.in-Met.ensures.looks)

pub returns-in-Cold-clause-cause_cold : goal.returns-in-Cold-clause-cause_cold
returns-in-Cold-clause-cause_cold g c warm _ =
    let v = g.R.Rows.view c.args.seat.now in
    let u = g.R.Rows.view c.loop-turn.seat in
    let a = g.R.Rows.view c.look.new.seat in
    let l = c.in-Cold.ensures.looks in
    warm_met (g.R.Rows.shape c.args.rows.now) v a c.args.session.now c.args.log.now c.args.key c.in-Cold.page c.requires.holds warm
    (cold_first c.args.session.now.own v u a c.args.key c.in-Cold.page c.loop-turn.taken c.loop-turn.invariant.rows l.0 l.1)

pub returns-in-Err-clause-meets : goal.returns-in-Err-clause-meets
returns-in-Err-clause-meets g c =
    let v = g.R.Rows.view c.args.seat.now in
    let u = g.R.Rows.view c.loop-turn.seat in
    let a = g.R.Rows.view c.look.new.seat in
    let w = g.R.Rows.view c.take_row.new.seat in
    let i = c.loop-turn.invariant in
    let o = c.in-Untaken.ensures in
    meets_refused (g.R.Rows.shape c.look.new.rows) c.args.session.now.own v u a w c.look.new.session c.args.log.now c.args.key c.in-Untaken.at c.loop-turn.taken (ap (λ (s : Session). s.own) o.session ∙ ap (λ (s : Session). s.own) i.session) o.holds i.rows o.looks.0 _ c.in-Err.why c.in-Err.ensures.not_taken.0

pub returns-in-Err-clause-only : goal.returns-in-Err-clause-only
returns-in-Err-clause-only g c one =
    let o = c.in-Untaken.ensures in
    no_conflict c.in-Err.why (c.in-Err.ensures.only (ap (λ (s : Session). s.workers) o.session ∙ (ap (λ (s : Session). s.workers) c.loop-turn.invariant.session ∙ one)))

pub push-requires : goal.push-requires
push-requires g c =
    let u = g.R.Rows.view c.loop-turn.seat in
    record { room = few_more u c.args.key c.in-Untaken.at c.loop-turn.taken (c.loop-turn.invariant.holds.rows.tree_sound u.seen) c.in-Untaken.ensures.looks.0.first }

pub loop-turn-preserved : goal.loop-turn-preserved
loop-turn-preserved g c =
    let z = g.R.Rows.shape c.look.new.rows in
    let v = g.R.Rows.view c.args.seat.now in
    let u = g.R.Rows.view c.loop-turn.seat in
    let a = g.R.Rows.view c.look.new.seat in
    let w = g.R.Rows.view c.take_row.new.seat in
    let i = c.loop-turn.invariant in
    let o = c.in-Untaken.ensures in
    let k = c.in_default.ensures in
    let t = turn_more z c.args.session.now.own v u a w c.look.new.session c.take_row.new.session c.args.log.now c.args.key c.in-Untaken.at c.loop-turn.taken c.push.new.self c.loop-turn._turn
    (ap (λ (s : Session). s.own) o.session ∙ ap (λ (s : Session). s.own) i.session) o.holds (i.holds.rows.tree_sound u.seen) i.rows (subst (λ (s : Session). AreHeld s c.loop-turn.taken) (sym o.looks.1) i.held) i.count o.looks.0 k.taken c.push.ensures in
    record {
      fits = k.fits.0;
      shape = k.fits.1 ∙ (o.fits.1 ∙ i.shape);
      holds = k.holds;
      session = rows_then c.args.session.now c.look.new.session c.take_row.new.session (subst (λ (s : Session). Rattle.row_scans.specs.Meets.IsButRows c.args.session.now s) (sym o.looks.1) i.session) (rows_taken a w c.look.new.session c.take_row.new.session _ k.taken);
      count = (let n = t.count in omega arith);
      few = t.few;
      rows = t.rows;
      held = t.held;
      first = t.first;
      none = λ e. absurd (t.some e);
    }
