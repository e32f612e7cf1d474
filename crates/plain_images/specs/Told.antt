-- What an image tells of its transactions depends on what its records say of their ends alone.
use Rattle.std.specs.Prelude.{◌≡◌, ℕ, List, [], map}
use Rattle.page_model.specs.Records.{no_record}
use Rattle.image_model.specs.Entries.{Kind, Entry}
use Rattle.image_model.specs.Ends as ends

-- a record that ends no transaction stands as a change
abbrev pub ending_of : Kind → Kind
ending_of Kind.Commit = Kind.Commit
ending_of Kind.Abort = Kind.Abort
ending_of _ = Kind.Change

abbrev pub need_of : Kind → ℕ → ℕ
need_of Kind.Commit need = need
need_of Kind.Abort need = need
need_of _ need = 0

-- a record of which no more is told than its log, its numbers and how it ends its transaction
abbrev pub told_of : Entry → Entry
told_of r = record { kind = ending_of r.kind; log = r.log; txn = r.txn; number = r.number; key = 0; before = 0; after = 0; need = need_of r.kind r.need; refs = []; record_of = no_record }

pub record ToldLaws (z : List Entry) : Type 0 where
  pub reach : (logs floor : ℕ) → ends.reach logs floor (map told_of z) ≡ ends.reach logs floor z
  pub winners : (far : ℕ) → ends.winners far (map told_of z) ≡ ends.winners far z
  pub losers : (far : ℕ) → ends.losers far (map told_of z) ≡ ends.losers far z

abbrev pub EveryTold : Type 0
EveryTold = (z : List Entry) → ToldLaws z
