-- What redo tests before it applies a record: what the record asks of its own pages as they stand.
use Rattle.std.specs.Prelude.{length, ◌≡◌, ◌+◌, ℕ, Bool, true, false, ◌&&◌, ◌||◌, ◌++◌, not, leb, ltb, ◌==◌, List, [], ◌∷◌, Option, Some, None, if◌then◌else◌}
use Rattle.page_model.specs.Pairs.{Pair, find}
use Rattle.page_model.specs.Nodes.{Format, Node}
use Rattle.page_model.specs.Check.{is_nil, is_rising}
use Rattle.page_model.specs.Tree.{IsTree}
use Rattle.page_model.specs.Records.{Kind, Record}
use Rattle.page_model.specs.Fits.{Fits}
use Rattle.page_model.specs.Records.Kind.{Change, Put_back, Split, Lift, Join, Drop, Purge}

abbrev pub is_some : Option ℕ → Bool
is_some None = false
is_some (Some x) = true

abbrev pub has_key : ℕ → Node → Bool
has_key k v = is_some (find k v.pairs)

abbrev pub inside : ℕ → Node → Bool
inside k v = ltb v.low k && ltb k v.high

abbrev pub within : ℕ → Node → Bool
within k v = leb v.low k && ltb k v.high

-- keys rise strictly and stand within the fences; without pairs any fences will do
abbrev pub is_ordered : ℕ → List Pair → ℕ → Bool
is_ordered low pairs high = is_nil pairs || is_rising low pairs high

abbrev pub all_keys : (ℕ → Bool) → List ℕ → Bool
all_keys p [] = true
all_keys p (k ∷ ks) = p k && all_keys p ks

-- a leaf with the key within its fences, and words that a leaf can have
abbrev pub can_write : Format → (ℕ → Node) → Record → Bool
can_write f node r = ltb r.left.page f.pages && ((node r.left.page).live && (((node r.left.page).level == 0) && (within r.key (node r.left.page) && (leb r.before f.dead && leb r.after f.dead))))

abbrev pub three_pages : Format → Record → Bool
three_pages f r = ltb r.left.page f.pages && (ltb r.right.page f.pages && (ltb r.parent.page f.pages && (
    not (r.left.page == r.right.page) && (not (r.left.page == r.parent.page) && not (r.right.page == r.parent.page)))))

abbrev pub doable_as : Format → Kind → (ℕ → Node) → Record → Bool
doable_as f Change node r = can_write f node r && (has_key r.key (node r.left.page) || ltb (length (node r.left.page).pairs) f.room)
doable_as f Put_back node r = can_write f node r && has_key r.key (node r.left.page)
doable_as f Split node r = three_pages f r && ((node r.left.page).live && (inside r.sep (node r.left.page) && ((node r.parent.page).live && (inside r.sep (node r.parent.page) && (
    ltb (length (node r.parent.page).pairs) f.room && (leb (length r.pairs) f.room && (leb r.level f.levels && is_ordered r.sep r.pairs r.high)))))))
doable_as f Join node r = three_pages f r && ((node r.left.page).live && ((node r.parent.page).live && (has_key r.sep (node r.parent.page) && (
    leb (length (node r.left.page).pairs + length r.pairs) f.room && is_ordered (node r.left.page).low ((node r.left.page).pairs ++ r.pairs) r.high))))
doable_as f Lift node r = ltb r.right.page f.pages && (not (r.right.page == 0) && ((node 0).live && (within 0 (node 0) && (ltb r.level f.levels && (leb (length r.pairs) f.room && is_ordered 0 r.pairs r.high)))))
doable_as f Drop node r = ltb r.right.page f.pages && (not (r.right.page == 0) && ((node 0).live && (is_ordered (node 0).low r.pairs (node 0).high && (leb (length r.pairs) f.room && leb r.level f.levels))))
doable_as f Purge node r = ltb r.left.page f.pages && ((node r.left.page).live && (((node r.left.page).level == 0) && all_keys (λ k. has_key k (node r.left.page)) r.keys))

abbrev pub doable : Format → (ℕ → Node) → Record → Bool
doable f node r = doable_as f r.kind node r

-- what the record asks of its page p, as it stands, where redo changes that page
abbrev pub can_be : Format → Kind → Record → ℕ → Node → Bool
can_be f Change r p v = v.live && ((v.level == 0) && (within r.key v && (has_key r.key v || ltb (length v.pairs) f.room)))
can_be f Put_back r p v = v.live && ((v.level == 0) && (within r.key v && has_key r.key v))
can_be f Split r p v =
    if p == r.left.page then v.live && inside r.sep v
    else (if p == r.right.page then true else v.live && (inside r.sep v && ltb (length v.pairs) f.room))
can_be f Join r p v =
    if p == r.left.page then v.live && (leb (length v.pairs + length r.pairs) f.room && is_ordered v.low (v.pairs ++ r.pairs) r.high)
    else (if p == r.right.page then true else v.live && has_key r.sep v)
can_be f Lift r p v = if p == 0 then v.live && within 0 v else true
can_be f Drop r p v = if p == 0 then v.live && is_ordered v.low r.pairs v.high else true
can_be f Purge r p v = v.live && ((v.level == 0) && all_keys (λ k. has_key k v) r.keys)

-- In a tree, a record that fits can be done.
abbrev pub EveryDoable : Type 0
EveryDoable = (f : Format) (node : ℕ → Node) (r : Record) → IsTree f node → Fits f node r → doable f node r ≡ true
