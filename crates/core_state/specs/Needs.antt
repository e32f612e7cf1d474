-- What each event needs. One whose need is not met changes nothing.
use Rattle.map_model.specs.Lists.{any, all}
use Rattle.map_model.specs.Maps.{MapAnswer}
use Rattle.image_model.specs.Entries.{Entry, is_record, is_end, same_txn}
use Rattle.page_model.specs.Pairs.{Pair, find}
use Rattle.page_model.specs.Nodes.{Format, Node, holds, is_leaf}
use Rattle.page_model.specs.Tree.{value_of}
use Rattle.page_model.specs.Redo.{has_key, all_keys}
use Rattle.page_model.specs.Check.{is_nil, is_rising, names_page}
use Rattle.core_state.specs.Lists.{is_empty, most, all_below, count_below}
use Rattle.core_state.specs.States.{Row, State, flushed_by_all, nodes_of, is_hot, is_cooling, is_cold, in_frame, waits_for}
use Rattle.core_state.specs.Openings.{Opening}
use Rattle.core_state.specs.Events.{Event, Mode}
use Rattle.std.specs.Prelude.{◌+◌, ℕ, suc, Bool, true, false, ◌&&◌, ◌||◌, not, ltb, leb, ◌==◌, List, [], ◌∷◌, Option, Some, None, length, if◌then◌else◌}

-- one of the workers, 1 to their number
abbrev pub is_worker : Opening → ℕ → Bool
is_worker g w = ltb 0 w && leb w g.workers

-- ## Rows

-- w is the one who holds it alone
abbrev pub is_held_by : Option ℕ → ℕ → Bool
is_held_by None w = false
is_held_by (Some v) w = v == w

-- nobody holds it alone
abbrev pub is_free : Option ℕ → Bool
is_free None = true
is_free (Some v) = false

-- w is one of its readers
abbrev pub is_reader : ℕ → List ℕ → Bool
is_reader w l = any (λ v. v == w) l

-- w holds it, alone or with others
abbrev pub holds_row : Row → ℕ → Bool
holds_row o w = is_held_by o.holder w || is_reader w o.readers

-- nobody else holds it so that w may not
abbrev pub may_hold : Row → ℕ → Mode → Bool
may_hold o w Mode.Shared = is_held_by o.holder w || is_free o.holder
may_hold o w Mode.Alone = is_held_by o.holder w || (is_free o.holder && not (any (λ v. not (v == w)) o.readers))

-- nobody holds the key's row, and all know of its last end
abbrev pub is_settled : Opening → State → ℕ → Bool
is_settled g s k = is_free (s.row (g.row_of k)).holder && (is_empty (s.row (g.row_of k)).readers && leb (s.row (g.row_of k)).number (flushed_by_all g s))

-- ## Pages

-- a leaf with the key in its fences
abbrev pub is_leaf_of : Opening → Node → (p k : ℕ) → Bool
is_leaf_of g n p k = ltb p g.format.pages && holds n k

-- which has the key, or is not full
abbrev pub may_put : Opening → Node → (p k v : ℕ) → Bool
may_put g n p k v = ltb p g.format.pages && (holds n k && (leb v g.format.dead && (has_key k n || ltb (length n.pairs) g.format.room)))

-- the worker's last listed change is of a key in p
abbrev pub may_put_back : Opening → Node → ℕ → List Entry → Bool
may_put_back g n p [] = false
may_put_back g n p (c ∷ cs) = ltb p g.format.pages && (holds n c.key && has_key c.key n)

-- l is full, r is free, q is the parent of l and not full, and the pair i of l is not its first one
abbrev pub may_split : Opening → (ℕ → Node) → (l r q i : ℕ) → Bool
may_split g node l r q i = (length (node l).pairs == g.format.room) && (ltb r g.format.pages && (not (node r).live && (ltb q g.format.pages && (
    names_page (node q) l && (ltb (length (node q).pairs) g.format.room && (ltb 0 i && ltb i (length (node l).pairs)))))))

-- the root is full and below the greatest level, and c is free
abbrev pub may_lift : Opening → (ℕ → Node) → (c : ℕ) → Bool
may_lift g node c = (length (node 0).pairs == g.format.room) && (ltb c g.format.pages && (not (node c).live && ltb (node 0).level g.format.levels))

-- l and r are neighbours under q, with few pairs together
abbrev pub may_join : Opening → (ℕ → Node) → (l r q : ℕ) → Bool
may_join g node l r q = ltb q g.format.pages && (names_page (node q) l && (names_page (node q) r && (((node l).high == (node r).low) && leb (length (node l).pairs + length (node r).pairs) g.joined)))

-- the one pair names c
abbrev pub is_single : List Pair → ℕ → Bool
is_single [] c = false
is_single (x ∷ xs) c = (x.word == c) && is_nil xs

-- the root's one child is c
abbrev pub may_drop : (ℕ → Node) → (c : ℕ) → Bool
may_drop node c = ltb 0 (node 0).level && is_single (node 0).pairs c

-- there is an entry, and it is a tombstone
abbrev pub is_dead : Format → Option ℕ → Bool
is_dead f None = false
is_dead f (Some x) = x == f.dead

-- each key is a tombstone of the leaf p
abbrev pub may_purge : Opening → (ℕ → Node) → (p : ℕ) → List ℕ → Bool
may_purge g node p keys = ltb p g.format.pages && ((node p).live && (((node p).level == 0) && all_keys (λ k. is_dead g.format (find k (node p).pairs)) keys))

-- ## Answers

-- the same value, or none both
abbrev pub is_value : Option ℕ → Option ℕ → Bool
is_value None None = true
is_value (Some a) (Some b) = a == b
is_value _ _ = false

-- the same pair, or a gap with the same bound
abbrev pub is_following : MapAnswer → MapAnswer → Bool
is_following (MapAnswer.Pair k v) (MapAnswer.Pair j u) = (k == j) && (v == u)
is_following (MapAnswer.Gap h) (MapAnswer.Gap i) = h == i
is_following _ _ = false

-- the least live pair at or above k, or that there is none up to the high fence
abbrev pub following : Format → ℕ → List Pair → ℕ → MapAnswer
following f k [] high = MapAnswer.Gap high
following f k (x ∷ xs) high = if leb k x.key && ltb x.word f.dead then MapAnswer.Pair x.key x.word else following f k xs high

-- the key's value in the leaf, if it has one
abbrev pub value_in : Format → Node → ℕ → Option ℕ
value_in f n k = value_of f (find k n.pairs)

-- w is open, holds the key's row, and p is the key's leaf
abbrev pub may_read : Opening → State → (w p k : ℕ) → Bool
may_read g s w p k = (s.worker w).is_open && (holds_row (s.row (g.row_of k)) w && (ltb p g.format.pages && holds (s.page p).node k))

-- the row of the pair that follows is held too
abbrev pub holds_answer : Opening → State → ℕ → MapAnswer → Bool
holds_answer g s w (MapAnswer.Pair k v) = holds_row (s.row (g.row_of k)) w
holds_answer g s w _ = true

-- ## Frames

-- each page that names p is hot; of a free page there is none
abbrev pub has_hot_parent : Opening → State → ℕ → Bool
has_hot_parent g s p = all_below g.format.pages (λ q. not (names_page (s.page q).node p) || is_hot (s.place q))

-- the same pairs
abbrev pub are_same : List Pair → List Pair → Bool
are_same [] [] = true
are_same (x ∷ xs) (y ∷ ys) = (x.key == y.key) && ((x.word == y.word) && are_same xs ys)
are_same _ _ = false

-- no word is above a tombstone's
abbrev pub are_words : Format → List Pair → Bool
are_words f pairs = all (λ x. leb x.word f.dead) pairs

-- the leaf may be read with these pairs: they would be well formed there, and where the opening is faithful they are its own
abbrev pub may_have : Opening → Node → List Pair → Bool
may_have g n pairs = is_leaf n && (leb (length pairs) g.format.room && (is_rising n.low pairs n.high && (are_words g.format pairs && (not g.faithful || are_same pairs n.pairs))))

-- some page that p names is hot
abbrev pub has_hot_child : Opening → State → ℕ → Bool
has_hot_child g s p = not (all_below g.format.pages (λ c. not (names_page (s.page p).node c && is_hot (s.place c))))

-- no page stands in the frame
abbrev pub is_empty_frame : Opening → State → ℕ → Bool
is_empty_frame g s f = all_below g.format.pages (λ p. not (in_frame (s.place p) f))

-- its contents are not the saved ones
abbrev pub is_dirty : State → ℕ → Bool
is_dirty s p = ltb (s.saved p).gsn (s.page p).gsn

-- the worker is inside
abbrev pub is_inside : Option ℕ → Bool
is_inside None = false
is_inside (Some e) = true

-- the pages that are free and not hot
abbrev pub free_pages : Opening → State → ℕ
free_pages g s = count_below g.format.pages (λ p. not (s.page p).node.live && not (is_hot (s.place p)))

-- ## Logs

-- an end of r's transaction that is flushed in its own log, and everywhere as far as it needs
abbrev pub is_ripe_end : (ℕ → ℕ) → ℕ → Entry → Entry → Bool
is_ripe_end flushed F r e = is_end e.kind && (same_txn e r && (leb e.number (flushed e.log) && leb e.need F))

-- x is below the first record of each transaction that is open or whose end is not ripe
abbrev pub is_ripe_up_to : Opening → State → ℕ → Bool
is_ripe_up_to g s x = not (any (λ r. is_record r.kind && (leb r.number x && not (any (λ e. is_ripe_end s.flushed (flushed_by_all g s) r e) s.entries))) s.entries)

-- each page's saved contents hold its changes up to x
abbrev pub is_saved_up_to : State → ℕ → Bool
is_saved_up_to s x = all (λ r. not (leb r.number x) || all (λ f. leb r.number (s.saved f.page).gsn) r.refs) s.entries

-- some log has a record that is not flushed
abbrev pub is_behind : State → Bool
is_behind s = any (λ r. is_record r.kind && ltb (s.flushed r.log) r.number) s.entries

-- ## Events

-- the pages that an event needs hot: all that it names, but those that it brings into frames or out of them
abbrev pub pages_of : Event → List ℕ
pages_of (Event.Read w p k a) = p ∷ []
pages_of (Event.Next w p k a) = p ∷ []
pages_of (Event.Peek w p k a) = p ∷ []
pages_of (Event.Change w p k v) = p ∷ []
pages_of (Event.Put_back w p) = p ∷ []
pages_of (Event.Split w l r q i) = l ∷ r ∷ q ∷ []
pages_of (Event.Lift w c) = 0 ∷ c ∷ []
pages_of (Event.Join w l r q) = l ∷ r ∷ q ∷ []
pages_of (Event.Drop w c) = 0 ∷ c ∷ []
pages_of (Event.Purge w p keys) = p ∷ []
pages_of (Event.Cool p) = p ∷ []
pages_of _ = []

-- all of them are hot
abbrev pub are_hot : State → List ℕ → Bool
are_hot s ps = all (λ p. is_hot (s.place p)) ps

-- what an event needs besides
abbrev pub needs : Opening → State → Event → Bool
needs g s (Event.Enter w e) = is_worker g w && (not (is_inside (s.inside w)) && leb e s.epoch)
needs g s (Event.Leave w) = is_inside (s.inside w)
needs g s (Event.Begin w f) = is_worker g w && (not (s.worker w).is_open && (leb (s.worker w).floor f && leb f (flushed_by_all g s)))
needs g s (Event.Lock w i mode) = (s.worker w).is_open && may_hold (s.row i) w mode
needs g s (Event.Read w p k a) = may_read g s w p k && is_value a (value_in g.format (s.page p).node k)
needs g s (Event.Next w p k a) = (s.worker w).is_open && (is_leaf_of g (s.page p).node p k && (is_following a (following g.format k (s.page p).node.pairs (s.page p).node.high) && holds_answer g s w a))
needs g s (Event.Peek w p k a) = is_leaf_of g (s.page p).node p k && is_value a (value_in g.format (s.page p).node k)
needs g s (Event.Change w p k v) = ltb (length (s.worker w).changes) g.changes && ((s.worker w).is_open && (is_held_by (s.row (g.row_of k)).holder w && may_put g (s.page p).node p k v))
needs g s (Event.Put_back w p) = (s.worker w).is_open && may_put_back g (s.page p).node p (s.worker w).changes
needs g s (Event.Split w l r q i) = (s.worker w).is_open && may_split g (nodes_of s) l r q i
needs g s (Event.Lift w c) = (s.worker w).is_open && may_lift g (nodes_of s) c
needs g s (Event.Join w l r q) = (s.worker w).is_open && may_join g (nodes_of s) l r q
needs g s (Event.Drop w c) = (s.worker w).is_open && may_drop (nodes_of s) c
needs g s (Event.Purge w p keys) = (s.worker w).is_open && (may_purge g (nodes_of s) p keys && all_keys (λ k. is_settled g s k) keys)
needs g s (Event.End w commit f) = (s.worker w).is_open && (leb (s.worker w).floor f && (leb f (flushed_by_all g s) && (commit || is_empty (s.worker w).changes)))
needs g s (Event.Unlock w i) = not (s.worker w).is_open && holds_row (s.row i) w
needs g s (Event.Flush w n) = leb (s.flushed w) n && any (λ r. is_record r.kind && ((r.log == w) && (r.number == n))) s.entries
needs g s (Event.Sync n) = (n == most (λ w. (s.worker w).clock) g.workers) && not (is_behind s)
needs g s (Event.Post w n) = leb n (s.worker w).debt
needs g s (Event.Fetch p pairs) = ltb p g.format.pages && (is_cold (s.place p) && may_have g (s.saved p).node pairs)
needs g s (Event.Load p f) = ltb p g.format.pages && (ltb f g.frames && (is_cold (s.place p) && (has_hot_parent g s p && is_empty_frame g s f)))
needs g s (Event.Cool p) = not (p == 0) && not (has_hot_child g s p)
needs g s (Event.Rescue p) = is_cooling (s.place p) && has_hot_parent g s p
needs g s (Event.Save p) = not (is_cold (s.place p)) && leb (s.page p).gsn (flushed_by_all g s)
needs g s (Event.Evict p) = is_cooling (s.place p) && (not (is_dirty s p) && all_below (suc g.workers) (λ w. not (waits_for (s.place p) w)))
needs g s Event.Tick = true
needs g s (Event.Cut x heads) = leb x (flushed_by_all g s) && (is_ripe_up_to g s x && is_saved_up_to s x)
needs g s (Event.Ask w) = true
needs g s (Event.Refused w n m) = not (n == 4) || ltb (free_pages g s) m
needs g s (Event.Miss w) = true

-- whether the event may happen
abbrev pub may : Opening → State → Event → Bool
may g s e = are_hot s (pages_of e) && needs g s e
