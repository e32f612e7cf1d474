-- What the program's records and pages stand for.
use Rattle.std.specs.Prelude.{List, map}
use Rattle.page_model.specs.Records as records
use Rattle.image_model.specs.Entries as entries
use Rattle.plain_images.specs.Pages.{node_of, pairs_of}
use Rattle.plain_images.specs.declared.records.Kind.{Kind}
use Rattle.plain_images.specs.declared.records.Kind.TheVariants as kind
use Rattle.plain_images.specs.declared.records.Ref.{Ref}
use Rattle.plain_images.specs.declared.records.Record.{Record}
use Rattle.plain_images.specs.declared.records.Page.{Page}

abbrev pub kind_of : Kind → entries.Kind
kind_of kind.Change = entries.Kind.Change
kind_of kind.PutBack = entries.Kind.Put_back
kind_of kind.Split = entries.Kind.Split
kind_of kind.Lift = entries.Kind.Lift
kind_of kind.Join = entries.Kind.Join
kind_of kind.Drop = entries.Kind.Drop
kind_of kind.Purge = entries.Kind.Purge
kind_of kind.Commit = entries.Kind.Commit
kind_of kind.Abort = entries.Kind.Abort

abbrev pub ref_of : Ref → records.Ref
ref_of x = record { page = x.page; prev = x.prev }

abbrev pub refs_of : List Ref → List records.Ref
refs_of xs = map ref_of xs

-- what the record makes of pages
abbrev pub record_of : Record → records.Record
record_of r = record { kind = entries.page_kind (kind_of r.kind); left = ref_of r.left; right = ref_of r.right; parent = ref_of r.parent; key = r.key; before = r.before; after = r.after; sep = r.sep; high = r.high; level = r.level; pairs = pairs_of r.pairs.items; keys = r.keys.items }

abbrev pub entry_of : Record → entries.Entry
entry_of r = record { kind = kind_of r.kind; log = r.log; txn = r.txn; number = r.number; key = r.key; before = r.before; after = r.after; need = r.need; refs = refs_of r.refs.items; record_of = record_of r }

abbrev pub entries_of : List Record → List entries.Entry
entries_of rs = map entry_of rs

abbrev pub page_of : Page → entries.Contents
page_of v = record { gsn = v.number; last = v.log; node = node_of v.node }
