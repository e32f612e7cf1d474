use Rattle.rows_trait.specs.Plain.{sizes}
use Rattle.rows_trait.specs.Rule.{plan}
use Rattle.rows_trait.proofs.OneSeat.{plain_low, plain_tame}
use Rattle.rows_trait.proofs.plain.PlainRowsRows.versions.Goals as goal

pub returns : goal.returns
returns c =
    let r = c.args.self.now in
    let v = c.args.seat.now.view in
    record { low = plain_low (plan (sizes r.frames r.locks r.workers) v.given) r.words.items v c.requires.fits; tame = plain_tame (plan (sizes r.frames r.locks r.workers) v.given) r.words.items v c.requires.fits }
