use Rattle.session_state.proofs.numbers.clocks_low.Goals as goal

pub returns : goal.returns
returns g c w =
    let v = g.R.Rows.view c.args.seat.now in
    let n = c.requires.numbered in
    c.every_clock.ensures v w n.few (c.every_view.ensures v n.begun c.versions.ensures.tame)
