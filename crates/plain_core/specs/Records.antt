-- What the program's pages and entries stand for.
use Rattle.std.specs.Prelude.{List, map}
use Rattle.page_model.specs.Nodes as nodes
use Rattle.page_model.specs.Records as records
use Rattle.core_state.specs.image_model.Entries as model
use Rattle.plain_images.specs.Pages.{pair_of}
use Rattle.plain_core.specs.declared.records.Node.{Node}
use Rattle.plain_core.specs.declared.records.Page.{Page}
use Rattle.plain_core.specs.declared.records.Ref.{Ref}
use Rattle.plain_core.specs.declared.records.PageKind.{PageKind}
use Rattle.plain_core.specs.declared.records.PageKind.TheVariants as page_kinds
use Rattle.plain_core.specs.declared.records.PageRecord.{PageRecord}
use Rattle.plain_core.specs.declared.records.Kind.{Kind}
use Rattle.plain_core.specs.declared.records.Kind.TheVariants as kinds
use Rattle.plain_core.specs.declared.records.Entry.{Entry}

-- a node, or a free page
abbrev pub node_of : Node → nodes.Node
node_of v = record { live = v.live; level = v.level; low = v.low; high = v.high; pairs = map pair_of v.pairs.items }

-- a page with its last record's number and log
abbrev pub page_of : Page → model.Contents
page_of p = record { gsn = p.number; last = p.log; node = node_of p.node }

-- a page with its number before
abbrev pub ref_of : Ref → records.Ref
ref_of f = record { page = f.page; prev = f.previous }

-- the kinds of records of pages
abbrev pub page_kind_of : PageKind → records.Kind
page_kind_of page_kinds.Change = records.Kind.Change
page_kind_of page_kinds.PutBack = records.Kind.Put_back
page_kind_of page_kinds.Split = records.Kind.Split
page_kind_of page_kinds.Lift = records.Kind.Lift
page_kind_of page_kinds.Join = records.Kind.Join
page_kind_of page_kinds.Drop = records.Kind.Drop
page_kind_of page_kinds.Purge = records.Kind.Purge

-- what a record makes of its pages
abbrev pub record_of : PageRecord → records.Record
record_of r = record { kind = page_kind_of r.kind; left = ref_of r.left; right = ref_of r.right; parent = ref_of r.parent; key = r.key; before = r.before; after = r.after; sep = r.separator; high = r.high; level = r.level; pairs = map pair_of r.pairs.items; keys = r.keys.items }

-- the kinds of entries
abbrev pub kind_of : Kind → model.Kind
kind_of kinds.Change = model.Kind.Change
kind_of kinds.PutBack = model.Kind.Put_back
kind_of kinds.Split = model.Kind.Split
kind_of kinds.Lift = model.Kind.Lift
kind_of kinds.Join = model.Kind.Join
kind_of kinds.Drop = model.Kind.Drop
kind_of kinds.Purge = model.Kind.Purge
kind_of kinds.Read = model.Kind.Read
kind_of kinds.Commit = model.Kind.Commit
kind_of kinds.Abort = model.Kind.Abort

-- a record of a log, or a read
abbrev pub entry_of : Entry → model.Entry
entry_of r = record { kind = kind_of r.kind; log = r.log; txn = r.txn; number = r.number; key = r.key; before = r.before; after = r.after; need = r.need; refs = map ref_of r.refs.items; record_of = record_of r.page_record }

-- entries, the newest first
abbrev pub entries_of : List Entry → List model.Entry
entries_of es = map entry_of es
