-- The records that are staged are the entries of their events.
use Rattle.std.proofs.Common.{refl}
use Rattle.engine_calls.specs.Entries.{EveryEntry}

pub every_entry : EveryEntry
every_entry g s w a = record { commit = λ f. refl; abort = λ f. refl; change = λ p k v. refl }
