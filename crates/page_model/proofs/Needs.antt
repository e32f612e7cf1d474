-- The needs of events make their records fit, and records that fit can be done.
use Rattle.std.proofs.Common.{◌++◌, length, ◌≡◌, ◌<◌, ◌≤◌, ◌+◌, ℕ, zero, suc, Bool, true, false, ◌&&◌, ◌||◌, not, leb, ltb, ◌==◌, List, [], ◌∷◌, Option, Some, None, if◌then◌else◌, refl, sym, ap, ◌∙◌, subst, inl, inr, arith, true≢false}
use Rattle.std.proofs.lemmas.Bool.{cases_eq, eq-eqb, eqb-true, ne_eqb, and_from, and_parts, or_cases, or_left, or_right, le-leb, lt-ltb, cond-true, cond-false}
use Rattle.page_model.specs.Pairs.{Pair, Has, find, first_key, is_in, Span, spans, Rising, onward}
use Rattle.page_model.specs.Nodes.{Format, Node, NodeOk}
use Rattle.page_model.specs.Tree.{Names, IsChild, IsTree, word_or}
use Rattle.page_model.specs.Records.{any, Ref, refs_as, Kind, Record, write_record}
use Rattle.page_model.specs.Fits.{FitsWrite, FitsChange, FitsBack, FitsSplit, FitsLift, FitsJoin, FitsDrop, FitsPurge, FitsAs}
use Rattle.page_model.specs.Records.Kind.{Change, Put_back, Split, Lift, Join, Drop, Purge}
use Rattle.page_model.specs.Needs.{key_at, NeedsChange, NeedsBack, NeedsSplit, NeedsLift, NeedsJoin, NeedsDrop, NeedsPurge, NeedLaws, EveryNeed}
use Rattle.page_model.specs.Redo.{is_some, has_key, inside, within, all_keys, can_be, can_write, three_pages, is_ordered, doable_as, EveryDoable}
use Rattle.page_model.specs.Check.{is_nil, is_rising}
use Rattle.page_model.proofs.Pairs.{rising_in, rising_append, rising_onward, append_right, size_keep, some_none}
use Rattle.page_model.proofs.Check.{rising_from}
use Rattle.page_model.proofs.Spans.{span_pair, spans_append}
use Rattle.page_model.proofs.Tree.{ok, span_eq, not_free, child_page, span_fences}
use Rattle.page_model.proofs.Entries.{LeafWith, holds_to}

key_has : (i : ℕ) (xs : List Pair) → i < length xs → (x : Pair) × Has x xs × (x.key ≡ key_at i xs)
key_has i [] l = absurd (omega arith)
key_has zero (x ∷ xs) l = (x, inl refl, refl)
key_has (suc i) (x ∷ xs) l = let h = key_has i xs (omega arith) in (h.0, inr h.1, h.2)

key_above : (a i : ℕ) (xs : List Pair) (b : ℕ) → Rising a xs b → 0 < i → i < length xs → a < key_at i xs
key_above a i [] b r z l = absurd (omega arith)
key_above a zero (x ∷ xs) b r z l = absurd (omega arith)
key_above a (suc i) (x ∷ xs) b r z l = let h = key_has i xs (omega arith) in let q = (rising_in (suc x.key) xs b h.0 r.1 h.1).0 in let e = h.2 in let r0 = r.0 in omega arith

word_le : (f : Format) (v : Node) (k : ℕ) → ((x : Pair) → Has x v.pairs → x.word ≤ f.dead) → word_or f.dead (find k v.pairs) ≤ f.dead
word_le f v k h = go v.pairs h
  where
    go : (xs : List Pair) → ((x : Pair) → Has x xs → x.word ≤ f.dead) → word_or f.dead (find k xs) ≤ f.dead
    go [] h = omega arith
    go (x ∷ xs) h = step (go xs (λ y m. h y (inr m))) (x.key == k)
      where
        step : word_or f.dead (find k xs) ≤ f.dead → (b : Bool) → word_or f.dead (if b then Some x.word else find k xs) ≤ f.dead
        step ih true = h x (inl refl)
        step ih false = ih

module _ (f : Format) (node : ℕ → Node) (gsn : ℕ → ℕ) (t : IsTree f node) where
  writes : (K : Kind) (p k v : ℕ) → p < f.pages → LeafWith (node p) k → v ≤ f.dead → FitsWrite f node (write_record K f node gsn p k v)
  writes K p k v l w b = record { page = l; live = w.lies.live; leaf = w.leaf; within = (w.lies.low, w.lies.high); before = refl; after = b }

  splits : (l r q i : ℕ) → (m : NeedsSplit f node l r q i) → FitsSplit f node (Rattle.page_model.specs.Needs.split_record node gsn l r q i)
  splits l r q i m = record {
    right = m.right;
    parent = m.parent;
    empty = m.empty;
    names = subst (Names (node q)) whole m.named.1;
    level = refl;
    inside = (let a = d.low in let x = key_has i (node l).pairs m.middle.1 in let b = rising_in (node l).low (node l).pairs (node l).high x.0 o.rising x.1 in let e = x.2 in let b1 = b.1 in
        (key_above (node l).low i (node l).pairs (node l).high o.rising m.middle.0 m.middle.1, omega arith));
    pair = λ _. key_has i (node l).pairs m.middle.1;
    pairs = refl;
    room = m.room;
  }
    where
      s : Span
      s = m.named.0

      d0 : IsChild (node q) (node s.child) s
      d0 = t.down q m.parent s m.named.1

      d : IsChild (node q) (node l) s
      d = subst (λ (j : ℕ). IsChild (node q) (node j) s) m.named.2 d0

      whole : s ≡ record { child = l; low = (node l).low; high = (node l).high }
      whole = ap (λ (j : ℕ). record { child = j; low = s.low; high = s.high }) m.named.2 ∙ (ap (λ (j : ℕ). record { child = l; low = j; high = s.high }) (sym d.low) ∙ ap (λ (j : ℕ). record { child = l; low = (node l).low; high = j }) (sym d.high))

      o : NodeOk f (node l)
      o = ok f node t l (subst (λ (j : ℕ). j < f.pages) m.named.2 (child_page f node t q s m.parent m.named.1).1) d.live

  joins : (l r q : ℕ) → (m : NeedsJoin f node l r q) → FitsJoin f node (Rattle.page_model.specs.Needs.join_record node gsn l r q)
  joins l r q m = go m.beside.0 m.beside.1 m.beside.2.0 m.beside.2.1 m.beside.2.2 m.beside.2.3 m.beside.2.4
    where
      go : (prefix back : List Pair) (x y : Pair) → (node q).pairs ≡ (prefix ++ (x ∷ y ∷ back)) → x.word ≡ l → y.word ≡ r → FitsJoin f node (Rattle.page_model.specs.Needs.join_record node gsn l r q)
      go prefix back x y e el er = record {
        parent = m.parent;
        left_named = subst (Names (node q)) one first;
        right_named = subst (Names (node q)) two second;
        pairs = refl;
        room = m.room;
      }
        where
          all : spans (node q).pairs (node q).high ≡ ((spans prefix x.key) ++ (record { child = x.word; low = x.key; high = y.key } ∷ record { child = y.word; low = y.key; high = first_key back (node q).high } ∷ spans back (node q).high))
          all = ap (λ (z : List Pair). spans z (node q).high) e ∙ spans_append prefix (x ∷ y ∷ back) (node q).high

          first : Names (node q) (record { child = x.word; low = x.key; high = y.key })
          first = record { live = m.live; inner = m.inner; has = subst (Has (record { child = x.word; low = x.key; high = y.key })) (sym all) (append_right (record { child = x.word; low = x.key; high = y.key }) (spans prefix x.key) (record { child = x.word; low = x.key; high = y.key } ∷ record { child = y.word; low = y.key; high = first_key back (node q).high } ∷ spans back (node q).high) (inl refl)) }

          second : Names (node q) (record { child = y.word; low = y.key; high = first_key back (node q).high })
          second = record { live = m.live; inner = m.inner; has = subst (Has (record { child = y.word; low = y.key; high = first_key back (node q).high })) (sym all) (append_right (record { child = y.word; low = y.key; high = first_key back (node q).high }) (spans prefix x.key) (record { child = x.word; low = x.key; high = y.key } ∷ record { child = y.word; low = y.key; high = first_key back (node q).high } ∷ spans back (node q).high) (inr (inl refl))) }

          a : IsChild (node q) (node l) (record { child = x.word; low = x.key; high = y.key })
          a = subst (λ (j : ℕ). IsChild (node q) (node j) (record { child = x.word; low = x.key; high = y.key })) el (t.down q m.parent (record { child = x.word; low = x.key; high = y.key }) first)

          b : IsChild (node q) (node r) (record { child = y.word; low = y.key; high = first_key back (node q).high })
          b = subst (λ (j : ℕ). IsChild (node q) (node j) (record { child = y.word; low = y.key; high = first_key back (node q).high })) er (t.down q m.parent (record { child = y.word; low = y.key; high = first_key back (node q).high }) second)

          one : ◌≡◌ {A = Span} (record { child = x.word; low = x.key; high = y.key }) (record { child = l; low = (node l).low; high = (node r).low })
          one = span_eq (record { child = x.word; low = x.key; high = y.key }) (record { child = l; low = (node l).low; high = (node r).low }) el (sym a.low) (sym b.low)

          two : ◌≡◌ {A = Span} (record { child = y.word; low = y.key; high = first_key back (node q).high }) (record { child = r; low = (node r).low; high = (node r).high })
          two = span_eq (record { child = y.word; low = y.key; high = first_key back (node q).high }) (record { child = r; low = (node r).low; high = (node r).high }) er (sym b.low) (sym b.high)

-- the span by which a page is named
pub span_is : (f : Format) (node : ℕ → Node) → IsTree f node → (q l : ℕ) (s : Span) → q < f.pages → Names (node q) s → s.child ≡ l → ◌≡◌ {A = Span} s (record { child = l; low = (node l).low; high = (node l).high })
span_is f node t q l s b n e =
    let d = subst (λ (j : ℕ). IsChild (node q) (node j) s) e (t.down q b s n) in
    span_eq s (record { child = l; low = (node l).low; high = (node l).high }) e (sym d.low) (sym d.high)

pub every_need : EveryNeed
every_need f node gsn t = record {
  change = λ p k v m. record { write = writes f node gsn t Change p k v m.page (holds_to (node p) k m.leaf) m.word; room = m.room };
  back = λ p k v m. record { write = writes f node gsn t Put_back p k v m.page (holds_to (node p) k m.leaf) m.word; entry = m.entry };
  split = λ l r q i m. splits f node gsn t l r q i m;
  lift = λ c m. record { right = m.page; empty = m.empty; level = refl; low = m.low; high = refl; pairs = refl };
  join = λ l r q m. joins f node gsn t l r q m;
  drop = λ c m. record { inner = m.inner; one = m.one; level = refl; pairs = refl };
  purge = λ p keys m. record { page = m.page; live = m.live; leaf = m.leaf; dead = m.dead };
}

-- ## Records that fit can be done

has_some : (k : ℕ) (xs : List Pair) → (find k xs ≡ None → ⊥) → is_some (find k xs) ≡ true
has_some k xs n = go (find k xs) refl
  where
    go : (z : Option ℕ) → find k xs ≡ z → is_some (find k xs) ≡ true
    go None e = absurd (n e)
    go (Some x) e = ap is_some e

find_pair : (xs : List Pair) (x : Pair) → Has x xs → find x.key xs ≡ None → ⊥
find_pair [] x h e = h
find_pair (y ∷ ys) x (inl d) e = some_none y.word (sym (cond-true (y.key == x.key) (Some y.word) (find x.key ys) (eq-eqb y.key x.key (ap (λ (z : Pair). z.key) (sym d)))) ∙ e)
find_pair (y ∷ ys) x (inr h) e = go (find_pair ys x h) (y.key == x.key) refl
  where
    go : (find x.key ys ≡ None → ⊥) → (b : Bool) → (y.key == x.key) ≡ b → ⊥
    go ih true w = some_none y.word (sym (cond-true (y.key == x.key) (Some y.word) (find x.key ys) w) ∙ e)
    go ih false w = ih (sym (cond-false (y.key == x.key) (Some y.word) (find x.key ys) w) ∙ e)

ne_not : (a b : ℕ) → (a ≡ b → ⊥) → not (a == b) ≡ true
ne_not a b n = ap not (ne_eqb a b n)

ordered : (low : ℕ) (xs : List Pair) (high : ℕ) → Rising low xs high → is_ordered low xs high ≡ true
ordered low xs high h = or_right (is_nil xs) (is_rising low xs high) (rising_from low xs high h)

module _ (f : Format) (node : ℕ → Node) (r : Record) (t : IsTree f node) where
  does_write : FitsWrite f node r → can_write f node r ≡ true
  does_write w =
      let o = ok f node t r.left.page w.page w.live in
      let b = w.before in let c = word_le f (node r.left.page) r.key (o.values w.leaf) in
      and_from (ltb r.left.page f.pages) ((node r.left.page).live && (((node r.left.page).level == 0) && (within r.key (node r.left.page) && (leb r.before f.dead && leb r.after f.dead)))) (lt-ltb r.left.page f.pages w.page)
      (and_from (node r.left.page).live (((node r.left.page).level == 0) && (within r.key (node r.left.page) && (leb r.before f.dead && leb r.after f.dead))) w.live
      (and_from ((node r.left.page).level == 0) (within r.key (node r.left.page) && (leb r.before f.dead && leb r.after f.dead)) (eq-eqb (node r.left.page).level 0 w.leaf)
      (and_from (within r.key (node r.left.page)) (leb r.before f.dead && leb r.after f.dead) (and_from (leb (node r.left.page).low r.key) (ltb r.key (node r.left.page).high) (le-leb (node r.left.page).low r.key w.within.0) (lt-ltb r.key (node r.left.page).high w.within.1))
      (and_from (leb r.before f.dead) (leb r.after f.dead) (le-leb r.before f.dead (omega arith)) (le-leb r.after f.dead w.after)))))

  three : r.left.page < f.pages → r.right.page < f.pages → r.parent.page < f.pages → (r.left.page ≡ r.right.page → ⊥) → (r.left.page ≡ r.parent.page → ⊥) → (r.right.page ≡ r.parent.page → ⊥) → three_pages f r ≡ true
  three a b c x y z =
      let xy = and_from (not (r.left.page == r.parent.page)) (not (r.right.page == r.parent.page)) (ne_not r.left.page r.parent.page y) (ne_not r.right.page r.parent.page z) in
      let xyz = and_from (not (r.left.page == r.right.page)) (not (r.left.page == r.parent.page) && not (r.right.page == r.parent.page)) (ne_not r.left.page r.right.page x) xy in
      and_from (ltb r.left.page f.pages) (ltb r.right.page f.pages && (ltb r.parent.page f.pages && (not (r.left.page == r.right.page) && (not (r.left.page == r.parent.page) && not (r.right.page == r.parent.page))))) (lt-ltb r.left.page f.pages a)
      (and_from (ltb r.right.page f.pages) (ltb r.parent.page f.pages && (not (r.left.page == r.right.page) && (not (r.left.page == r.parent.page) && not (r.right.page == r.parent.page)))) (lt-ltb r.right.page f.pages b)
      (and_from (ltb r.parent.page f.pages) (not (r.left.page == r.right.page) && (not (r.left.page == r.parent.page) && not (r.right.page == r.parent.page))) (lt-ltb r.parent.page f.pages c) xyz))

  strictly : (k : ℕ) (v : Node) → v.low < k → k < v.high → inside k v ≡ true
  strictly k v a b = and_from (ltb v.low k) (ltb k v.high) (lt-ltb v.low k a) (lt-ltb k v.high b)

  does_change : FitsChange f node r → doable_as f Change node r ≡ true
  does_change m = and_from (can_write f node r) (has_key r.key (node r.left.page) || ltb (length (node r.left.page).pairs) f.room) (does_write m.write) (go (find r.key (node r.left.page).pairs) refl)
    where
      go : (z : Option ℕ) → find r.key (node r.left.page).pairs ≡ z → (has_key r.key (node r.left.page) || ltb (length (node r.left.page).pairs) f.room) ≡ true
      go None e = or_right (has_key r.key (node r.left.page)) (ltb (length (node r.left.page).pairs) f.room) (lt-ltb (length (node r.left.page).pairs) f.room (m.room e))
      go (Some x) e = or_left (has_key r.key (node r.left.page)) (ltb (length (node r.left.page).pairs) f.room) (ap is_some e)

  does_back : FitsBack f node r → doable_as f Put_back node r ≡ true
  does_back m = and_from (can_write f node r) (has_key r.key (node r.left.page)) (does_write m.write) (has_some r.key (node r.left.page).pairs m.entry)

  does_purge : FitsPurge f node r → doable_as f Purge node r ≡ true
  does_purge m =
      and_from (ltb r.left.page f.pages) ((node r.left.page).live && (((node r.left.page).level == 0) && all_keys (λ k. has_key k (node r.left.page)) r.keys)) (lt-ltb r.left.page f.pages m.page)
      (and_from (node r.left.page).live (((node r.left.page).level == 0) && all_keys (λ k. has_key k (node r.left.page)) r.keys) m.live
      (and_from ((node r.left.page).level == 0) (all_keys (λ k. has_key k (node r.left.page)) r.keys) (eq-eqb (node r.left.page).level 0 m.leaf)
      (each r.keys (λ k e. ap is_some (m.dead k e)))))
    where
      each : (ks : List ℕ) → ((k : ℕ) → is_in k ks ≡ true → has_key k (node r.left.page) ≡ true) → all_keys (λ k. has_key k (node r.left.page)) ks ≡ true
      each [] h = refl
      each (k ∷ ks) h = and_from (has_key k (node r.left.page)) (all_keys (λ k. has_key k (node r.left.page)) ks) (h k (cond-true (k == k) true (is_in k ks) (eq-eqb k k refl)))
          (each ks (λ j e. h j (go j e (k == j))))
        where
          go : (j : ℕ) → is_in j ks ≡ true → (b : Bool) → (if b then true else is_in j ks) ≡ true
          go j e true = refl
          go j e false = e

  does_lift : FitsLift f node r → doable_as f Lift node r ≡ true
  does_lift m =
      let o = ok f node t 0 t.some t.root.0 in let e = m.level in let lo = m.low in
      let low = t.root.1 in let high = t.root.2 in let wide = f.wide in
      let rises = subst (λ (xs : List Pair). Rising 0 xs r.high) (sym m.pairs) (subst (λ (i : ℕ). Rising 0 (node 0).pairs i) (sym m.high) (subst (λ (i : ℕ). Rising i (node 0).pairs (node 0).high) low o.rising)) in
      let sized = leb (length r.pairs) f.room && is_ordered 0 r.pairs r.high in
      let tall = ltb r.level f.levels && sized in
      let root = (node 0).live && (within 0 (node 0) && tall) in
      and_from (ltb r.right.page f.pages) (not (r.right.page == 0) && root) (lt-ltb r.right.page f.pages m.right)
      (and_from (not (r.right.page == 0)) root (ne_not r.right.page 0 (λ z. not_free (node 0).live t.root.0 (ap (λ (i : ℕ). (node i).live) (sym z) ∙ m.empty)))
      (and_from (node 0).live (within 0 (node 0) && tall) t.root.0
      (and_from (within 0 (node 0)) tall (and_from (leb (node 0).low 0) (ltb 0 (node 0).high) (le-leb (node 0).low 0 (omega arith)) (lt-ltb 0 (node 0).high (omega arith)))
      (and_from (ltb r.level f.levels) sized (lt-ltb r.level f.levels (omega arith))
      (and_from (leb (length r.pairs) f.room) (is_ordered 0 r.pairs r.high) (le-leb (length r.pairs) f.room (subst (λ (z : List Pair). length z ≤ f.room) (sym m.pairs) o.sized)) (ordered 0 r.pairs r.high rises))))))

  does_drop : FitsDrop f node r → doable_as f Drop node r ≡ true
  does_drop m =
      let single : Span = record { child = r.right.page; low = m.one.0; high = (node 0).high } in
      let n : Names (node 0) single = record { live = t.root.0; inner = m.inner; has = subst (λ (z : List Pair). Has single (spans z (node 0).high)) (sym m.one.1) (inl refl) } in
      let p = child_page f node t 0 single t.some n in let p0 = p.0 in
      let c = t.down 0 t.some single n in
      let o = ok f node t r.right.page p.1 c.live in
      let e = m.level in let tall = o.tall in
      let first : m.one.0 ≡ (node 0).low = sym (ap (λ (z : List Pair). first_key z (node 0).high) m.one.1) ∙ ((ok f node t 0 t.some t.root.0).first m.inner).1 in
      let rises = subst (λ (xs : List Pair). Rising (node 0).low xs (node 0).high) (sym m.pairs)
      (subst (λ (i : ℕ). Rising (node 0).low (node r.right.page).pairs i) c.high (subst (λ (i : ℕ). Rising i (node r.right.page).pairs (node r.right.page).high) (c.low ∙ first) o.rising)) in
      let sized = leb (length r.pairs) f.room && leb r.level f.levels in
      let root = is_ordered (node 0).low r.pairs (node 0).high && sized in
      and_from (ltb r.right.page f.pages) (not (r.right.page == 0) && ((node 0).live && root)) (lt-ltb r.right.page f.pages p.1)
      (and_from (not (r.right.page == 0)) ((node 0).live && root) (ne_not r.right.page 0 (λ z. omega arith))
      (and_from (node 0).live root t.root.0
      (and_from (is_ordered (node 0).low r.pairs (node 0).high) sized (ordered (node 0).low r.pairs (node 0).high rises)
      (and_from (leb (length r.pairs) f.room) (leb r.level f.levels) (le-leb (length r.pairs) f.room (subst (λ (z : List Pair). length z ≤ f.room) (sym m.pairs) o.sized)) (le-leb r.level f.levels (omega arith))))))

  does_split : FitsSplit f node r → doable_as f Split node r ≡ true
  does_split m =
      let v = node r.left.page in let q = node r.parent.page in
      let s : Span = record { child = r.left.page; low = (node r.left.page).low; high = r.high } in
      let d = t.down r.parent.page m.parent s m.names in let dh : (node r.left.page).high ≡ r.high = d.high in let dl : suc (node r.left.page).level ≡ (node r.parent.page).level = d.level in
      let p = child_page f node t r.parent.page s m.parent m.names in
      let b = span_fences f node t r.parent.page s m.parent m.names in let b0 : (node r.parent.page).low ≤ (node r.left.page).low = b.0 in let b2 : r.high ≤ (node r.parent.page).high = b.2 in
      let i0 = m.inside.0 in let i1 = m.inside.1 in
      let o = ok f node t r.left.page p.1 d.live in let oz = o.sized in let tall = o.tall in let e = m.level in
      let k = size_keep (λ (j : ℕ). leb r.sep j) (node r.left.page).pairs in
      let z = ap (λ (w : List Pair). length w) m.pairs in
      let rises = subst (λ (xs : List Pair). Rising r.sep xs r.high) (sym m.pairs)
      (subst (λ (i : ℕ). Rising r.sep (onward r.sep (node r.left.page).pairs) i) dh (rising_onward (node r.left.page).low r.sep (node r.left.page).high (node r.left.page).pairs o.rising (omega arith))) in
      let high = leb r.level f.levels && is_ordered r.sep r.pairs r.high in
      let sized = leb (length r.pairs) f.room && high in
      let room = ltb (length q.pairs) f.room && sized in
      let parent = q.live && (inside r.sep q && room) in
      let left = v.live && (inside r.sep v && parent) in
      and_from (three_pages f r) left
      (three p.1 m.right m.parent (λ e. not_free (node r.left.page).live d.live (ap (λ (i : ℕ). (node i).live) e ∙ m.empty)) (λ e. (let w = ap (λ (i : ℕ). (node i).level) e in omega arith)) (λ e. not_free (node r.parent.page).live m.names.live (ap (λ (i : ℕ). (node i).live) (sym e) ∙ m.empty)))
      (and_from v.live (inside r.sep v && parent) d.live
      (and_from (inside r.sep v) parent (strictly r.sep (node r.left.page) i0 (omega arith))
      (and_from q.live (inside r.sep q && room) m.names.live
      (and_from (inside r.sep q) room (strictly r.sep (node r.parent.page) (omega arith) (omega arith))
      (and_from (ltb (length q.pairs) f.room) sized (lt-ltb (length (node r.parent.page).pairs) f.room m.room)
      (and_from (leb (length r.pairs) f.room) high (le-leb (length r.pairs) f.room (omega arith))
      (and_from (leb r.level f.levels) (is_ordered r.sep r.pairs r.high) (le-leb r.level f.levels (omega arith)) (ordered r.sep r.pairs r.high rises))))))))

  does_join : FitsJoin f node r → doable_as f Join node r ≡ true
  does_join m =
      let v = node r.left.page in let q = node r.parent.page in
      let s : Span = record { child = r.left.page; low = (node r.left.page).low; high = r.sep } in
      let u : Span = record { child = r.right.page; low = r.sep; high = r.high } in
      let d = t.down r.parent.page m.parent s m.left_named in let dl : suc (node r.left.page).level ≡ (node r.parent.page).level = d.level in
      let e = t.down r.parent.page m.parent u m.right_named in let el : suc (node r.right.page).level ≡ (node r.parent.page).level = e.level in let elo : (node r.right.page).low ≡ r.sep = e.low in
      let p = child_page f node t r.parent.page s m.parent m.left_named in
      let w = child_page f node t r.parent.page u m.parent m.right_named in
      let b = (span_fences f node t r.parent.page s m.parent m.left_named).1 in let b1 : (node r.left.page).low < r.sep = b in
      let x = span_pair (node r.parent.page).pairs (node r.parent.page).high u m.right_named.has in
      let k = m.room in let z = ap (λ (w : List Pair). length w) m.pairs in
      let lo = ok f node t r.left.page p.1 d.live in let ro = ok f node t r.right.page w.1 e.live in
      let left_rises = subst (λ (i : ℕ). Rising (node r.left.page).low (node r.left.page).pairs i) d.high lo.rising in
      let right_rises = subst (λ (xs : List Pair). Rising r.sep xs r.high) (sym m.pairs)
      (subst (λ (i : ℕ). Rising i (node r.right.page).pairs r.high) e.low (subst (λ (i : ℕ). Rising (node r.right.page).low (node r.right.page).pairs i) e.high ro.rising)) in
      let rises = rising_append (node r.left.page).low r.sep r.high (node r.left.page).pairs r.pairs left_rises right_rises in
      let fits = leb (length v.pairs + length r.pairs) f.room && is_ordered v.low (v.pairs ++ r.pairs) r.high in
      let parent = q.live && (has_key r.sep q && fits) in
      and_from (three_pages f r) (v.live && parent)
      (three p.1 w.1 m.parent (λ g. (let y = ap (λ (i : ℕ). (node i).low) g in omega arith)) (λ g. (let y = ap (λ (i : ℕ). (node i).level) g in omega arith)) (λ g. (let y = ap (λ (i : ℕ). (node i).level) g in omega arith)))
      (and_from v.live parent d.live
      (and_from q.live (has_key r.sep q && fits) m.left_named.live
      (and_from (has_key r.sep q) fits (has_some r.sep (node r.parent.page).pairs (subst (λ (i : ℕ). find i (node r.parent.page).pairs ≡ None → ⊥) x.3 (find_pair (node r.parent.page).pairs x.0 x.1)))
      (and_from (leb (length v.pairs + length r.pairs) f.room) (is_ordered v.low (v.pairs ++ r.pairs) r.high) (le-leb (length (node r.left.page).pairs + length r.pairs) f.room (omega arith))
      (ordered (node r.left.page).low ((node r.left.page).pairs ++ r.pairs) r.high rises)))))

pub does : (K : Kind) (f : Format) (node : ℕ → Node) (r : Record) → IsTree f node → FitsAs f K node r → doable_as f K node r ≡ true
does Change f node r t m = does_change f node r t m
does Put_back f node r t m = does_back f node r t m
does Split f node r t m = does_split f node r t m
does Lift f node r t m = does_lift f node r t m
does Join f node r t m = does_join f node r t m
does Drop f node r t m = does_drop f node r t m
does Purge f node r t m = does_purge f node r t m

pub every_doable : EveryDoable
every_doable f node r t m = does r.kind f node r t m

-- ## One page

touch_one : (x : Ref) (p : ℕ) → any (λ (z : Ref). z.page == p) (x ∷ []) ≡ true → p ≡ x.page
touch_one x p h = elim (or_cases (x.page == p) false h) [ inl e ↦ sym (eqb-true x.page p e) | inr e ↦ absurd (true≢false (sym e)) ]

touch_third : (a b c : Ref) (p : ℕ) → any (λ (z : Ref). z.page == p) (a ∷ b ∷ c ∷ []) ≡ true → (p ≡ a.page → ⊥) → (p ≡ b.page → ⊥) → p ≡ c.page
touch_third a b c p h x y = elim (or_cases (a.page == p) (any (λ (z : Ref). z.page == p) (b ∷ c ∷ [])) h) [
  | inl e ↦ absurd (x (sym (eqb-true a.page p e)))
  | inr e ↦ elim (or_cases (b.page == p) (any (λ (z : Ref). z.page == p) (c ∷ [])) e) [ inl e ↦ absurd (y (sym (eqb-true b.page p e))) | inr e ↦ touch_one c p e ]
]

-- a record that can be done can be done on each of its pages
pub can_do : (K : Kind) (f : Format) (node : ℕ → Node) (r : Record) → doable_as f K node r ≡ true → (p : ℕ) → any (λ (z : Ref). z.page == p) (refs_as K r) ≡ true → can_be f K r p (node p) ≡ true
can_do Change f node r h p o = subst (λ (i : ℕ). can_be f Change r i (node i) ≡ true) (sym (touch_one r.left p o)) (
    let v = node r.left.page in
    let w = and_parts (can_write f node r) (has_key r.key v || ltb (length v.pairs) f.room) h in
    let a = and_parts (ltb r.left.page f.pages) (v.live && ((v.level == 0) && (within r.key v && (leb r.before f.dead && leb r.after f.dead)))) w.0 in
    let b = and_parts v.live ((v.level == 0) && (within r.key v && (leb r.before f.dead && leb r.after f.dead))) a.1 in
    let c = and_parts (v.level == 0) (within r.key v && (leb r.before f.dead && leb r.after f.dead)) b.1 in
    let d = and_parts (within r.key v) (leb r.before f.dead && leb r.after f.dead) c.1 in
    and_from v.live ((v.level == 0) && (within r.key v && (has_key r.key v || ltb (length v.pairs) f.room))) b.0
    (and_from (v.level == 0) (within r.key v && (has_key r.key v || ltb (length v.pairs) f.room)) c.0 (and_from (within r.key v) (has_key r.key v || ltb (length v.pairs) f.room) d.0 w.1)))
can_do Put_back f node r h p o = subst (λ (i : ℕ). can_be f Put_back r i (node i) ≡ true) (sym (touch_one r.left p o)) (
    let v = node r.left.page in
    let w = and_parts (can_write f node r) (has_key r.key v) h in
    let a = and_parts (ltb r.left.page f.pages) (v.live && ((v.level == 0) && (within r.key v && (leb r.before f.dead && leb r.after f.dead)))) w.0 in
    let b = and_parts v.live ((v.level == 0) && (within r.key v && (leb r.before f.dead && leb r.after f.dead))) a.1 in
    let c = and_parts (v.level == 0) (within r.key v && (leb r.before f.dead && leb r.after f.dead)) b.1 in
    let d = and_parts (within r.key v) (leb r.before f.dead && leb r.after f.dead) c.1 in
    and_from v.live ((v.level == 0) && (within r.key v && has_key r.key v)) b.0
    (and_from (v.level == 0) (within r.key v && has_key r.key v) c.0 (and_from (within r.key v) (has_key r.key v) d.0 w.1)))
can_do Purge f node r h p o = subst (λ (i : ℕ). can_be f Purge r i (node i) ≡ true) (sym (touch_one r.left p o)) (
    let v = node r.left.page in (and_parts (ltb r.left.page f.pages) (v.live && ((v.level == 0) && all_keys (λ k. has_key k v) r.keys)) h).1)
can_do Lift f node r h p o = elim (cases_eq p 0) [
  | inl e ↦ subst (λ (i : ℕ). can_be f Lift r i (node i) ≡ true) (sym e) (
      let tall = ltb r.level f.levels && (leb (length r.pairs) f.room && is_ordered 0 r.pairs r.high) in
      let root = (node 0).live && (within 0 (node 0) && tall) in
      let a = and_parts (ltb r.right.page f.pages) (not (r.right.page == 0) && root) h in
      let b = and_parts (not (r.right.page == 0)) root a.1 in
      let c = and_parts (node 0).live (within 0 (node 0) && tall) b.1 in
      and_from (node 0).live (within 0 (node 0)) c.0 (and_parts (within 0 (node 0)) tall c.1).0)
  | inr n ↦ cond-false (p == 0) ((node p).live && within 0 (node p)) true (ne_eqb p 0 n)
]
can_do Drop f node r h p o = elim (cases_eq p 0) [
  | inl e ↦ subst (λ (i : ℕ). can_be f Drop r i (node i) ≡ true) (sym e) (
      let sized = leb (length r.pairs) f.room && leb r.level f.levels in
      let rises = is_ordered (node 0).low r.pairs (node 0).high in
      let a = and_parts (ltb r.right.page f.pages) (not (r.right.page == 0) && ((node 0).live && (rises && sized))) h in
      let b = and_parts (not (r.right.page == 0)) ((node 0).live && (rises && sized)) a.1 in
      let c = and_parts (node 0).live (rises && sized) b.1 in
      and_from (node 0).live rises c.0 (and_parts rises sized c.1).0)
  | inr n ↦ cond-false (p == 0) ((node p).live && is_ordered (node p).low r.pairs (node p).high) true (ne_eqb p 0 n)
]
can_do Split f node r h p o =
    let v = node r.left.page in let q = node r.parent.page in
    let sized = leb (length r.pairs) f.room && (leb r.level f.levels && is_ordered r.sep r.pairs r.high) in
    let room = ltb (length q.pairs) f.room && sized in
    let parent = q.live && (inside r.sep q && room) in
    let a = and_parts (three_pages f r) (v.live && (inside r.sep v && parent)) h in
    let b = and_parts v.live (inside r.sep v && parent) a.1 in
    let c = and_parts (inside r.sep v) parent b.1 in
    let d = and_parts q.live (inside r.sep q && room) c.1 in
    let e = and_parts (inside r.sep q) room d.1 in
    let g = and_parts (ltb (length q.pairs) f.room) sized e.1 in
    elim (cases_eq p r.left.page) [
      | inl z ↦ rw (eq-eqb p r.left.page z) (subst (λ (i : ℕ). ((node i).live && inside r.sep (node i)) ≡ true) (sym z) (and_from v.live (inside r.sep v) b.0 c.0))
      | inr x ↦ elim (cases_eq p r.right.page) [
        | inl z ↦ rw (ne_eqb p r.left.page x, eq-eqb p r.right.page z) refl
        | inr y ↦ rw (ne_eqb p r.left.page x, ne_eqb p r.right.page y) (subst (λ (i : ℕ). ((node i).live && (inside r.sep (node i) && ltb (length (node i).pairs) f.room)) ≡ true) (sym (touch_third r.left r.right r.parent p o x y))
            (and_from q.live (inside r.sep q && ltb (length q.pairs) f.room) d.0 (and_from (inside r.sep q) (ltb (length q.pairs) f.room) e.0 g.0)))
      ]
    ]
can_do Join f node r h p o =
    let v = node r.left.page in let q = node r.parent.page in
    let fits = leb (length v.pairs + length r.pairs) f.room && is_ordered v.low (v.pairs ++ r.pairs) r.high in
    let a = and_parts (three_pages f r) (v.live && (q.live && (has_key r.sep q && fits))) h in
    let b = and_parts v.live (q.live && (has_key r.sep q && fits)) a.1 in
    let c = and_parts q.live (has_key r.sep q && fits) b.1 in
    let d = and_parts (has_key r.sep q) fits c.1 in
    elim (cases_eq p r.left.page) [
      | inl z ↦ rw (eq-eqb p r.left.page z) (subst (λ (i : ℕ). ((node i).live && (leb (length (node i).pairs + length r.pairs) f.room && is_ordered (node i).low ((node i).pairs ++ r.pairs) r.high)) ≡ true) (sym z) (and_from v.live fits b.0 d.1))
      | inr x ↦ elim (cases_eq p r.right.page) [
        | inl z ↦ rw (ne_eqb p r.left.page x, eq-eqb p r.right.page z) refl
        | inr y ↦ rw (ne_eqb p r.left.page x, ne_eqb p r.right.page y) (subst (λ (i : ℕ). ((node i).live && has_key r.sep (node i)) ≡ true) (sym (touch_third r.left r.right r.parent p o x y)) (and_from q.live (has_key r.sep q) c.0 d.0))
      ]
    ]
