use Rattle.std.proofs.Common.{arith}
use Rattle.btree_descent.proofs.log_record.SizeLemmas.{counted, size_range}
use Rattle.row_sessions.proofs.drawing.DrawingDraw.stage.Goals as goal

pub record_bytes-requires-clause-counted : goal.record_bytes-requires-clause-counted
record_bytes-requires-clause-counted c = counted c.args.entry.now.body c.requires.fits.body

pub record_bytes-requires-clause-room : goal.record_bytes-requires-clause-room
record_bytes-requires-clause-room c = let range = size_range c.args.entry.now.body c.requires.fits.body in omega arith
