-- Others step on these rows, so what the trait asks is never met.
use Rattle.std.proofs.Common.{true≢false, sym}
use Rattle.shared_rows.proofs.shared.SharedRefRows.TheImpl.Goals as goal

pub store_flushed-tells : goal.store_flushed-tells
store_flushed-tells g c = absurd (true≢false (sym c.requires.alone))
