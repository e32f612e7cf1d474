-- Words of private functions: needs that lean on the numbers of an opening alone.
use Rattle.std.specs.Prelude.{ℕ, suc, max, Bool, true, false, ◌&&◌, ◌||◌, not, ltb, leb, List, [], ◌∷◌, length, map, Option, Some, None, if◌then◌else◌}
use Rattle.map_model.specs.Lists.{any, all as every}
use Rattle.core_state.specs.image_model.Entries.{Kind, Entry, Contents, page_kind, is_record}
use Rattle.page_model.specs.Records as records
use Rattle.page_model.specs.Records.{nowhere}
use Rattle.page_model.specs.Pairs.{Pair, find, put}
use Rattle.page_model.specs.Tree.{word_or}
use Rattle.page_model.specs.Nodes.{Node, is_leaf, holds}
use Rattle.page_model.specs.Redo.{has_key}
use Rattle.page_model.specs.Check.{is_rising, names_page}
use Rattle.rfa_model.specs.Reaches.{least}
use Rattle.core_state.specs.Lists.{all_below}
use Rattle.core_state.specs.States.{State, Worker, is_hot, in_frame, waits_for}
use Rattle.core_state.specs.Needs.{holds_row, are_same, is_ripe_end}
use Rattle.plain_core.specs.declared.table.Placed.{Placed}
use Rattle.plain_core.specs.declared.state.Settings.{Settings}
use Rattle.plain_core.specs.States.{row_at}

-- what a word says: a value, or none
abbrev pub value_at : ℕ → Option ℕ → Option ℕ
value_at dead None = None
value_at dead (Some w) = if ltb w dead then Some w else None

-- one of the workers
abbrev pub is_worker_of : Settings → ℕ → Bool
is_worker_of s w = ltb 0 w && leb w s.workers

-- a leaf with the key in its fences, which has the key, or is not full
abbrev pub may_put_in : Settings → Node → (p k v : ℕ) → Bool
may_put_in s n p k v = ltb p s.pages && (holds n k && (leb v s.dead && (has_key k n || ltb (length n.pairs) s.room)))

-- the last listed change is of a key in p
abbrev pub may_put_back_in : Settings → Node → ℕ → List Entry → Bool
may_put_back_in s n p [] = false
may_put_back_in s n p (c ∷ cs) = ltb p s.pages && (holds n c.key && has_key c.key n)

-- w is open, holds the key's row, and p is the key's leaf
abbrev pub may_look : Settings → State → (w p k : ℕ) → Bool
may_look s c w p k = (c.worker w).is_open && (holds_row (c.row (row_at s.rows k)) w && (ltb p s.pages && holds (c.page p).node k))

-- with its clock at n or above
abbrev pub raised : ℕ → Worker → Worker
raised n a = record a { clock = max a.clock n }

-- a page in which the key has the word, by a record of the log with the number
abbrev pub written_in : (log number : ℕ) → Contents → (k v : ℕ) → Contents
written_in log number p k v = record { gsn = number; last = log; node = record { live = p.node.live; level = p.node.level; low = p.node.low; high = p.node.high; pairs = put k v p.node.pairs } }

-- a change, or one that is put back
abbrev pub write_kind : Bool → Kind
write_kind true = Kind.Change
write_kind false = Kind.Put_back

-- what a write says of its page
abbrev pub write_record_in : Kind → records.Ref → (k before after : ℕ) → records.Record
write_record_in kind left k before after = record { kind = page_kind kind; left = left; right = nowhere; parent = nowhere; key = k; before = before; after = after; sep = 0; high = 0; level = 0; pairs = []; keys = [] }

-- a write of key k in page p
abbrev pub write_entry_in : Kind → ℕ → Worker → ℕ → Contents → (dead k v : ℕ) → Entry
write_entry_in kind w a p leaf dead k v = record { kind = kind; log = w; txn = a.txn; number = suc a.clock; key = k; before = word_or dead (find k leaf.node.pairs); after = v; need = 0; refs = record { page = p; prev = leaf.gsn } ∷ []; record_of = write_record_in kind (record { page = p; prev = leaf.gsn }) k (word_or dead (find k leaf.node.pairs)) v }

-- the entries but for the newest
abbrev pub tail : List Entry → List Entry
tail [] = []
tail (x ∷ xs) = xs

-- the newest entry's key, and the word before it
abbrev pub newest_of : List Entry → Option (ℕ × ℕ)
newest_of [] = None
newest_of (x ∷ xs) = Some (x.key, x.before)

-- a record up to x, of a transaction that is open or whose end is not ripe
abbrev pub is_unripe : (ℕ → ℕ) → (F x : ℕ) → List Entry → Entry → Bool
is_unripe flushed F x all r = is_record r.kind && (leb r.number x && not (any (λ e. is_ripe_end flushed F r e) all))

-- above x, or the saved contents of its pages have its changes
abbrev pub is_saved : (ℕ → Contents) → ℕ → Entry → Bool
is_saved saved x r = not (leb r.number x) || every (λ f. leb r.number (saved f.page).gsn) r.refs

-- x is below the first record of each transaction that is open or whose end is not ripe
abbrev pub is_ripe_in : Settings → State → ℕ → Bool
is_ripe_in s c x = not (any (is_unripe c.flushed (least c.flushed s.workers) x c.entries) c.entries)

-- what the function is at these places
abbrev pub heads_at : (ℕ → ℕ) → List (Placed ℕ) → List (Placed ℕ)
heads_at f xs = map (λ x. record { place = x.place; value = f x.place }) xs

-- a leaf for which these pairs are well formed, and its own where that is asked
abbrev pub may_have_in : Settings → Node → List Pair → Bool
may_have_in s n pairs = is_leaf n && (leb (length pairs) s.room && (is_rising n.low pairs n.high && (every (λ x. leb x.word s.dead) pairs && (not s.faithful || are_same pairs n.pairs))))

-- each page that names p is hot
abbrev pub has_hot_parent_in : Settings → State → ℕ → Bool
has_hot_parent_in s c p = all_below s.pages (λ q. not (names_page (c.page q).node p) || is_hot (c.place q))

-- some page that p names is hot
abbrev pub has_hot_child_in : Settings → State → ℕ → Bool
has_hot_child_in s c p = not (all_below s.pages (λ q. not (names_page (c.page p).node q && is_hot (c.place q))))

-- no page stands in frame f
abbrev pub is_empty_in : Settings → State → ℕ → Bool
is_empty_in s c f = all_below s.pages (λ p. not (in_frame (c.place p) f))

-- p waits for no worker
abbrev pub is_ripe_page : Settings → State → ℕ → Bool
is_ripe_page s c p = all_below (suc s.workers) (λ w. not (waits_for (c.place p) w))
