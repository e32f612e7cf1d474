use Rattle.session_state.proofs.numbers.next_fits.Goals as goal

pub returns : goal.returns
returns g c w p going =
    let v = g.R.Rows.view c.args.seat.now in
    let n = c.requires.numbered in
    c.every_fit.ensures v w p n.few (c.every_view.ensures v n.begun c.versions.ensures.tame) going
