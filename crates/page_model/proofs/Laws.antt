-- The laws of trees and of records.
use Rattle.std.proofs.Common.{length, ◌≡◌, ◌<◌, ◌≤◌, ◌+◌, ℕ, true, false, ◌&&◌, ◌==◌, List, [], ◌∷◌, Some, None, refl, sym, ap, ◌∙◌, subst, inl, inr, true≢false}
use Rattle.std.proofs.lemmas.Bool.{cases_Bool, eq-eqb, eqb-true, ne_eqb, and_parts, or_parts, or_left, or_right}
use Rattle.page_model.specs.Pairs.{Pair, Has, onward, find, is_in}
use Rattle.page_model.specs.Nodes.{Format, Node}
use Rattle.page_model.specs.Tree.{Names, IsTree, entry, lookup, word_or}
use Rattle.page_model.specs.Records.{Kind, Ref, Record, refs_as, any, applied_as, after}
use Rattle.page_model.specs.Fits.{FitsWrite, FitsAs}
use Rattle.page_model.specs.Records.Kind.{Change, Put_back, Split, Lift, Join, Drop, Purge}
use Rattle.page_model.specs.Laws.{is_write, is_purge, on_key, EveryTree, EveryRecord, EveryLocal}
use Rattle.page_model.proofs.Tree.{only, leaf_of, route_lies}
use Rattle.page_model.proofs.Entries.{holds_to, holds_from, one_leaf}
use Rattle.page_model.proofs.Leaves.{before_is, change_tree, change_on, change_off, back_tree, back_on, back_off, purge_tree, purge_on, purge_off}
use Rattle.page_model.proofs.Roots.{lift_tree, lift_same, drop_tree, drop_same}
use Rattle.page_model.proofs.Splits.{split_tree, split_same}
use Rattle.page_model.proofs.Joins.{join_tree, join_same}

pub every_tree : EveryTree
every_tree f node t = record {
  leaf = λ k l. (let x = leaf_of f node t k l in (x.0, x.1, holds_from (node x.0) k (record { lies = x.2; leaf = x.3 })));
  one_leaf = λ p q k lp lq a b. one_leaf f node t p q k lp lq (holds_to (node p) k a) (holds_to (node q) k b);
  named = λ p l v n. (let u = t.up p l v n in (u.page, u.below, (u.span, u.names, u.child)));
  once = λ q o s z lq lo m n e. only f node t q o s z lq lo m n e;
  routed = λ q k l v a b i. (let x = route_lies f node t q k 0 l (record { live = v; low = a; high = b }) i in (x.0, x.1.live, x.1.low, x.1.high, x.2));
}

-- ## Records

pub keeps_tree : (K : Kind) (f : Format) (node : ℕ → Node) (r : Record) → IsTree f node → FitsAs f K node r → IsTree f (λ p. applied_as K r p (node p))
keeps_tree Change f node r t m = change_tree f node t r m
keeps_tree Put_back f node r t m = back_tree f node t r m
keeps_tree Split f node r t m = split_tree f node t r m
keeps_tree Lift f node r t m = lift_tree f node t r m
keeps_tree Join f node r t m = join_tree f node t r m
keeps_tree Drop f node r t m = drop_tree f node t r m
keeps_tree Purge f node r t m = purge_tree f node t r m

pub says_before : (K : Kind) (f : Format) (node : ℕ → Node) (r : Record) → IsTree f node → FitsAs f K node r → is_write K ≡ true → r.before ≡ lookup f node r.key
says_before Change f node r t m w = before_is f node t r m.write
says_before Put_back f node r t m w = before_is f node t r m.write
says_before Split f node r t m w = absurd (true≢false (sym w))
says_before Lift f node r t m w = absurd (true≢false (sym w))
says_before Join f node r t m w = absurd (true≢false (sym w))
says_before Drop f node r t m w = absurd (true≢false (sym w))
says_before Purge f node r t m w = absurd (true≢false (sym w))

pub sets_key : (K : Kind) (f : Format) (node : ℕ → Node) (r : Record) → IsTree f node → FitsAs f K node r → is_write K ≡ true → entry f.pages (λ p. applied_as K r p (node p)) r.key ≡ Some r.after
sets_key Change f node r t m w = change_on f node t r m
sets_key Put_back f node r t m w = back_on f node t r m
sets_key Split f node r t m w = absurd (true≢false (sym w))
sets_key Lift f node r t m w = absurd (true≢false (sym w))
sets_key Join f node r t m w = absurd (true≢false (sym w))
sets_key Drop f node r t m w = absurd (true≢false (sym w))
sets_key Purge f node r t m w = absurd (true≢false (sym w))

other_key : (r : Record) (k : ℕ) → (r.key == k) ≡ false → r.key ≡ k → ⊥
other_key r k h e = true≢false (sym (eq-eqb r.key k e) ∙ h)

pub keeps_entry : (K : Kind) (f : Format) (node : ℕ → Node) (r : Record) → IsTree f node → FitsAs f K node r → (k : ℕ) → (is_write K && (r.key == k)) ≡ false → (is_purge K && is_in k r.keys) ≡ false → entry f.pages (λ p. applied_as K r p (node p)) k ≡ entry f.pages node k
keeps_entry Change f node r t m k a b = change_off f node t r m k (other_key r k a)
keeps_entry Put_back f node r t m k a b = back_off f node t r m k (other_key r k a)
keeps_entry Split f node r t m k a b = split_same f node t r m k
keeps_entry Lift f node r t m k a b = lift_same f node t r m k
keeps_entry Join f node r t m k a b = join_same f node t r m k
keeps_entry Drop f node r t m k a b = drop_same f node t r m k
keeps_entry Purge f node r t m k a b = purge_off f node t r m k b

takes_entry : (K : Kind) (f : Format) (node : ℕ → Node) (r : Record) → IsTree f node → FitsAs f K node r → (k : ℕ) → (is_purge K && is_in k r.keys) ≡ true → (entry f.pages node k ≡ Some f.dead) × (entry f.pages (λ p. applied_as K r p (node p)) k ≡ None)
takes_entry Purge f node r t m k h = purge_on f node t r m k h
takes_entry Change f node r t m k h = absurd (true≢false (sym h))
takes_entry Put_back f node r t m k h = absurd (true≢false (sym h))
takes_entry Split f node r t m k h = absurd (true≢false (sym h))
takes_entry Lift f node r t m k h = absurd (true≢false (sym h))
takes_entry Join f node r t m k h = absurd (true≢false (sym h))
takes_entry Drop f node r t m k h = absurd (true≢false (sym h))

pub keeps_word : (K : Kind) (f : Format) (node : ℕ → Node) (r : Record) → IsTree f node → FitsAs f K node r → (k : ℕ) → (is_write K && (r.key == k)) ≡ false → lookup f (λ p. applied_as K r p (node p)) k ≡ lookup f node k
keeps_word K f node r t m k o = elim (cases_Bool (is_purge K && is_in k r.keys)) [
  | inl e ↦ (let x = takes_entry K f node r t m k e in ap (word_or f.dead) x.1 ∙ sym (ap (word_or f.dead) x.0))
  | inr e ↦ ap (word_or f.dead) (keeps_entry K f node r t m k o e)
]

pub every_record : EveryRecord
every_record f node r t m = record {
  tree = keeps_tree r.kind f node r t m;
  before = says_before r.kind f node r t m;
  on = λ k o. ap (word_or f.dead) (set k o);
  off = keeps_word r.kind f node r t m;
  entered = set;
  purged = takes_entry r.kind f node r t m;
  kept = keeps_entry r.kind f node r t m;
}
  where
    set : (k : ℕ) → on_key k r ≡ true → entry f.pages (after node r) k ≡ Some r.after
    set k o = let q = and_parts (is_write r.kind) (r.key == k) o in
        subst (λ (i : ℕ). entry f.pages (after node r) i ≡ Some r.after) (eqb-true r.key k q.1) (sets_key r.kind f node r t m q.0)

-- ## What a record asks of its own pages alone

pub touch_at : (xs : List Ref) (x : Ref) → Has x xs → any (λ (z : Ref). z.page == x.page) xs ≡ true
touch_at [] x h = absurd h
touch_at (y ∷ ys) x (inl e) = or_left (y.page == x.page) (any (λ (z : Ref). z.page == x.page) ys) (eq-eqb y.page x.page (ap (λ (z : Ref). z.page) (sym e)))
touch_at (y ∷ ys) x (inr h) = or_right (y.page == x.page) (any (λ (z : Ref). z.page == x.page) ys) (touch_at ys x h)

off_page : (x : Ref) (p : ℕ) → (x.page == p) ≡ false → p ≡ x.page → ⊥
off_page x p h e = true≢false (sym (eq-eqb x.page p (sym e)) ∙ h)

local_write : (f : Format) (node other : ℕ → Node) (r : Record) → node r.left.page ≡ other r.left.page → FitsWrite f node r → FitsWrite f other r
local_write f node other r e w = record {
  page = w.page;
  live = subst (λ (v : Node). v.live ≡ true) e w.live;
  leaf = subst (λ (v : Node). v.level ≡ 0) e w.leaf;
  within = subst (λ (v : Node). (v.low ≤ r.key) × (r.key < v.high)) e w.within;
  before = subst (λ (v : Node). r.before ≡ word_or f.dead (find r.key v.pairs)) e w.before;
  after = w.after;
}

pub local_as : (K : Kind) (f : Format) (node other : ℕ → Node) (r : Record) → ((x : Ref) → Has x (refs_as K r) → node x.page ≡ other x.page) → FitsAs f K node r → FitsAs f K other r
local_as Change f node other r h m = let e = h r.left (inl refl) in record {
  write = local_write f node other r e m.write;
  room = subst (λ (v : Node). find r.key v.pairs ≡ None → length v.pairs < f.room) e m.room;
}
local_as Put_back f node other r h m = let e = h r.left (inl refl) in record {
  write = local_write f node other r e m.write;
  entry = subst (λ (v : Node). find r.key v.pairs ≡ None → ⊥) e m.entry;
}
local_as Purge f node other r h m = let e = h r.left (inl refl) in record {
  page = m.page;
  live = subst (λ (v : Node). v.live ≡ true) e m.live;
  leaf = subst (λ (v : Node). v.level ≡ 0) e m.leaf;
  dead = subst (λ (v : Node). (k : ℕ) → is_in k r.keys ≡ true → find k v.pairs ≡ Some f.dead) e m.dead;
}
local_as Lift f node other r h m = let z = h (record { page = 0; prev = r.left.prev }) (inl refl) in let e = h r.right (inr (inl refl)) in record {
  right = m.right;
  empty = subst (λ (v : Node). v.live ≡ false) e m.empty;
  level = subst (λ (v : Node). r.level ≡ v.level) z m.level;
  low = subst (λ (v : Node). v.level < f.levels) z m.low;
  high = subst (λ (v : Node). r.high ≡ v.high) z m.high;
  pairs = subst (λ (v : Node). r.pairs ≡ v.pairs) z m.pairs;
}
local_as Drop f node other r h m = let z = h (record { page = 0; prev = r.left.prev }) (inl refl) in let e = h r.right (inr (inl refl)) in record {
  inner = subst (λ (v : Node). 0 < v.level) z m.inner;
  one = subst (λ (v : Node). (k : ℕ) × (v.pairs ≡ record { key = k; word = r.right.page } ∷ [])) z m.one;
  level = subst (λ (v : Node). r.level ≡ v.level) e m.level;
  pairs = subst (λ (v : Node). r.pairs ≡ v.pairs) e m.pairs;
}
local_as Split f node other r h m = let a = h r.left (inl refl) in let b = h r.right (inr (inl refl)) in let c = h r.parent (inr (inr (inl refl))) in record {
  right = m.right;
  parent = m.parent;
  empty = subst (λ (v : Node). v.live ≡ false) b m.empty;
  names = subst (λ (v : Node). Names (other r.parent.page) (record { child = r.left.page; low = v.low; high = r.high })) a (subst (λ (w : Node). Names w (record { child = r.left.page; low = (node r.left.page).low; high = r.high })) c m.names);
  level = subst (λ (v : Node). r.level ≡ v.level) a m.level;
  inside = subst (λ (v : Node). (v.low < r.sep) × (r.sep < r.high)) a m.inside;
  pair = subst (λ (v : Node). 0 < v.level → (x : Pair) × Has x v.pairs × (x.key ≡ r.sep)) a m.pair;
  pairs = subst (λ (v : Node). r.pairs ≡ onward r.sep v.pairs) a m.pairs;
  room = subst (λ (v : Node). length v.pairs < f.room) c m.room;
}
local_as Join f node other r h m = let a = h r.left (inl refl) in let b = h r.right (inr (inl refl)) in let c = h r.parent (inr (inr (inl refl))) in record {
  parent = m.parent;
  left_named = subst (λ (v : Node). Names (other r.parent.page) (record { child = r.left.page; low = v.low; high = r.sep })) a (subst (λ (w : Node). Names w (record { child = r.left.page; low = (node r.left.page).low; high = r.sep })) c m.left_named);
  right_named = subst (λ (w : Node). Names w (record { child = r.right.page; low = r.sep; high = r.high })) c m.right_named;
  pairs = subst (λ (v : Node). r.pairs ≡ v.pairs) b m.pairs;
  room = subst (λ (v : Node). length v.pairs + length (other r.right.page).pairs ≤ f.room) a (subst (λ (w : Node). length (node r.left.page).pairs + length w.pairs ≤ f.room) b m.room);
}

-- a page that is not touched stays
off_one : (a : Ref) (p : ℕ) → any (λ (w : Ref). w.page == p) (a ∷ []) ≡ false → (p == a.page) ≡ false
off_one a p h = ne_eqb p a.page (off_page a p (or_parts (a.page == p) false h).0)

off_two : (a b : Ref) (p : ℕ) → any (λ (w : Ref). w.page == p) (a ∷ b ∷ []) ≡ false → ((p == a.page) ≡ false) × ((p == b.page) ≡ false)
off_two a b p h = let q = or_parts (a.page == p) (any (λ (w : Ref). w.page == p) (b ∷ [])) h in (ne_eqb p a.page (off_page a p q.0), off_one b p q.1)

off_three : (a b c : Ref) (p : ℕ) → any (λ (w : Ref). w.page == p) (a ∷ b ∷ c ∷ []) ≡ false → ((p == a.page) ≡ false) × ((p == b.page) ≡ false) × ((p == c.page) ≡ false)
off_three a b c p h = let q = or_parts (a.page == p) (any (λ (w : Ref). w.page == p) (b ∷ c ∷ [])) h in let z = off_two b c p q.1 in (ne_eqb p a.page (off_page a p q.0), z.0, z.1)

pub applied_off : (K : Kind) (r : Record) (p : ℕ) (v : Node) → any (λ (x : Ref). x.page == p) (refs_as K r) ≡ false → applied_as K r p v ≡ v
applied_off Change r p v h = rw (off_one r.left p h) refl
applied_off Put_back r p v h = rw (off_one r.left p h) refl
applied_off Purge r p v h = rw (off_one r.left p h) refl
applied_off Lift r p v h = let q = off_two (record { page = 0; prev = r.left.prev }) r.right p h in rw (q.0, q.1) refl
applied_off Drop r p v h = let q = off_two (record { page = 0; prev = r.left.prev }) r.right p h in rw (q.0, q.1) refl
applied_off Split r p v h = let q = off_three r.left r.right r.parent p h in rw (q.0, q.1, q.2) refl
applied_off Join r p v h = let q = off_three r.left r.right r.parent p h in rw (q.0, q.1, q.2) refl

pub every_local : EveryLocal
every_local f node other r = (
  λ h m. local_as r.kind f node other r (λ x i. h x.page (touch_at (refs_as r.kind r) x i)) m,
  λ p h. applied_off r.kind r p (node p) h,
)
