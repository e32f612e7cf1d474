-- Words of private functions: what changes of the tree need and say, by the numbers of an opening and the pages that they name.
use Rattle.std.specs.Prelude.{◌+◌, ℕ, suc, Bool, false, ◌&&◌, not, ltb, leb, ◌==◌, List, [], ◌∷◌, length, Option, Some, None}
use Rattle.rfa_model.specs.Reaches.{least}
use Rattle.core_state.specs.image_model.Entries.{Kind, Entry, Contents, written}
use Rattle.page_model.specs.Pairs.{find, onward}
use Rattle.page_model.specs.Nodes.{Node}
use Rattle.page_model.specs.Records as records
use Rattle.page_model.specs.Redo.{all_keys}
use Rattle.page_model.specs.Check.{names_page}
use Rattle.page_model.specs.Needs.{key_at}
use Rattle.page_model.specs.Records.{nowhere}
use Rattle.core_state.specs.Lists.{is_empty}
use Rattle.core_state.specs.States.{State, Worker}
use Rattle.core_state.specs.Needs.{is_free}
use Rattle.plain_core.specs.declared.state.Settings.{Settings}
use Rattle.plain_core.specs.declared.table.Placed.{Placed}
use Rattle.plain_core.specs.declared.records.Page as pages
use Rattle.plain_core.specs.Records.{page_of}
use Rattle.plain_core.specs.States.{row_at}

-- ## Needs

-- i is the place of a pair, but not of the first one
abbrev pub is_inner_place : Node → ℕ → Bool
is_inner_place n i = ltb 0 i && ltb i (length n.pairs)

-- q names l and has room for one more, and l has a pair i behind its first one
abbrev pub may_part : Settings → (ℕ → Node) → (l q i : ℕ) → Bool
may_part s node l q i = ltb q s.pages && (names_page (node q) l && (ltb (length (node q).pairs) s.room && is_inner_place (node l) i))

-- l is full, and r is free
abbrev pub may_split_in : Settings → (ℕ → Node) → (l r q i : ℕ) → Bool
may_split_in s node l r q i = (length (node l).pairs == s.room) && (ltb r s.pages && (not (node r).live && may_part s node l q i))

-- the root is full and below the greatest level, and c is free
abbrev pub may_lift_in : Settings → (ℕ → Node) → (c : ℕ) → Bool
may_lift_in s node c = (length (node 0).pairs == s.room) && (ltb c s.pages && (not (node c).live && ltb (node 0).level s.levels))

-- l ends where r begins, and together they have few pairs
abbrev pub are_few : Settings → Node → Node → Bool
are_few s l r = (l.high == r.low) && leb (length l.pairs + length r.pairs) s.joined

-- q names both
abbrev pub may_join_in : Settings → (ℕ → Node) → (l r q : ℕ) → Bool
may_join_in s node l r q = ltb q s.pages && (names_page (node q) l && (names_page (node q) r && are_few s (node l) (node r)))

-- there is an entry, and it is a tombstone
abbrev pub is_dead_in : ℕ → Option ℕ → Bool
is_dead_in dead None = false
is_dead_in dead (Some x) = x == dead

-- each key is a tombstone of the leaf p
abbrev pub may_purge_in : Settings → Node → (p : ℕ) → List ℕ → Bool
may_purge_in s n p keys = ltb p s.pages && (n.live && ((n.level == 0) && all_keys (λ k. is_dead_in s.dead (find k n.pairs)) keys))

-- nobody holds the key's row, and all know of its last end
abbrev pub is_settled_in : Settings → State → ℕ → Bool
is_settled_in s c k = is_free (c.row (row_at s.rows k)).holder && (is_empty (c.row (row_at s.rows k)).readers && leb (c.row (row_at s.rows k)).number (least c.flushed s.workers))

-- ## Records

-- at the pair i of left, whose node is v
abbrev pub split_record_in : (left right parent : records.Ref) → Node → ℕ → records.Record
split_record_in left right parent v i = record { kind = records.Kind.Split; left = left; right = right; parent = parent; key = 0; before = 0; after = 0; sep = key_at i v.pairs; high = v.high; level = v.level; pairs = onward (key_at i v.pairs) v.pairs; keys = [] }

-- the root's node is v
abbrev pub lift_record_in : (root child : records.Ref) → Node → records.Record
lift_record_in root child v = record { kind = records.Kind.Lift; left = root; right = child; parent = nowhere; key = 0; before = 0; after = 0; sep = 0; high = v.high; level = v.level; pairs = v.pairs; keys = [] }

-- right's node is v
abbrev pub join_record_in : (left right parent : records.Ref) → Node → records.Record
join_record_in left right parent v = record { kind = records.Kind.Join; left = left; right = right; parent = parent; key = 0; before = 0; after = 0; sep = v.low; high = v.high; level = 0; pairs = v.pairs; keys = [] }

-- the child's node is v
abbrev pub drop_record_in : (root child : records.Ref) → Node → records.Record
drop_record_in root child v = record { kind = records.Kind.Drop; left = root; right = child; parent = nowhere; key = 0; before = 0; after = 0; sep = 0; high = 0; level = v.level; pairs = v.pairs; keys = [] }

-- left is the leaf
abbrev pub purge_record_in : records.Ref → List ℕ → records.Record
purge_record_in left keys = record { kind = records.Kind.Purge; left = left; right = nowhere; parent = nowhere; key = 0; before = 0; after = 0; sep = 0; high = 0; level = 0; pairs = []; keys = keys }

-- a record that changes no value, by the worker a
abbrev pub page_entry_in : Kind → ℕ → Worker → List records.Ref → records.Record → Entry
page_entry_in kind w a refs x = record { kind = kind; log = w; txn = a.txn; number = suc a.clock; key = 0; before = 0; after = 0; need = 0; refs = refs; record_of = x }

-- ## Pages

-- each of the pages, as the record leaves it
abbrev pub placed_by : (ℕ → Contents) → Entry → List records.Ref → List (Placed Contents)
placed_by page r [] = []
placed_by page r (f ∷ fs) = record { place = f.page; value = written r f.page (page f.page) } ∷ placed_by page r fs

-- a page that is set, as it stands for one
abbrev pub placing_of : Placed pages.Page → Placed Contents
placing_of x = record { place = x.place; value = page_of x.value }

-- the worker's clock is at the number
abbrev pub at_number : ℕ → Worker → Worker
at_number n a = record a { clock = n }
