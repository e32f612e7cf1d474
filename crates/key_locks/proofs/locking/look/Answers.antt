use Rattle.std.proofs.Common.{◌∙◌}
use Rattle.lean_proto.proofs.version_latch.Keeping.{kept_load, kept_more}
use Rattle.key_locks.proofs.locking.look.Goals as goal

pub returns-clause-kept : goal.returns-clause-kept
returns-clause-kept g c =
    let z = g.R.Rows.shape c.args.rows.now in
    let row = c.args.glimpse.now.row in
    let v = g.R.Rows.view c.args.seat.now in
    let u1 = g.R.Rows.view c.word-readers.new.seat in
    let u2 = g.R.Rows.view c.word-holder.new.seat in
    let u3 = g.R.Rows.view c.word-number.new.seat in
    let u4 = g.R.Rows.view c.word-log.new.seat in
    let u5 = g.R.Rows.view c.word-ends.new.seat in
    let s1 = c.word-readers.ensures.fits.1 in
    let s2 = c.word-holder.ensures.fits.1 ∙ s1 in
    let s3 = c.word-number.ensures.fits.1 ∙ s2 in
    let s4 = c.word-log.ensures.fits.1 ∙ s3 in
    let k1 = kept_load z row 0 c.word-readers.result v u1 c.word-readers.ensures.step in
    let k2 = kept_more (g.R.Rows.shape c.word-readers.new.rows) z row 1 c.word-holder.result v u1 u2 s1 k1 c.word-holder.ensures.step in
    let k3 = kept_more (g.R.Rows.shape c.word-holder.new.rows) z row 2 c.word-number.result v u2 u3 s2 k2 c.word-number.ensures.step in
    let k4 = kept_more (g.R.Rows.shape c.word-number.new.rows) z row 3 c.word-log.result v u3 u4 s3 k3 c.word-log.ensures.step in
    kept_more (g.R.Rows.shape c.word-log.new.rows) z row 4 c.word-ends.result v u4 u5 s4 k4 c.word-ends.ensures.step

pub word-readers-requires-clause-fits : goal.word-readers-requires-clause-fits
word-readers-requires-clause-fits g c = c.requires.fits

pub word-holder-requires-clause-fits : goal.word-holder-requires-clause-fits
word-holder-requires-clause-fits g c = c.word-readers.ensures.fits.0

pub word-number-requires-clause-fits : goal.word-number-requires-clause-fits
word-number-requires-clause-fits g c = c.word-holder.ensures.fits.0

pub word-log-requires-clause-fits : goal.word-log-requires-clause-fits
word-log-requires-clause-fits g c = c.word-number.ensures.fits.0

pub word-ends-requires-clause-fits : goal.word-ends-requires-clause-fits
word-ends-requires-clause-fits g c = c.word-log.ensures.fits.0

pub returns-clause-fits : goal.returns-clause-fits
returns-clause-fits g c = (c.word-ends.ensures.fits.0, c.word-ends.ensures.fits.1 ∙ c.word-log.ensures.fits.1 ∙ c.word-number.ensures.fits.1 ∙ c.word-holder.ensures.fits.1 ∙ c.word-readers.ensures.fits.1)

pub word-readers-requires-clause-seen : goal.word-readers-requires-clause-seen
word-readers-requires-clause-seen g c = c.requires.seen
