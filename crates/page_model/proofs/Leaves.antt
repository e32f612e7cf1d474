-- Records that change the pairs of one leaf.
use Rattle.std.proofs.Common.{length, ◌≡◌, ◌<◌, ◌≤◌, ℕ, Bool, true, false, not, ◌==◌, List, Option, Some, None, refl, sym, ap, ◌∙◌, subst, inl, inr, arith}
use Rattle.std.proofs.lemmas.Bool.{cases_eq, eq-eqb, ne_eqb, cond-true, cond-false}
use Rattle.page_model.specs.Pairs.{Pair, Has, Rising, find, put, keep, is_in, Span}
use Rattle.page_model.specs.Nodes.{Format, Node, WellFormed}
use Rattle.page_model.specs.Tree.{Names, IsChild, Parent, IsTree, entry, word_or}
use Rattle.page_model.specs.Records.{Record, applied_as}
use Rattle.page_model.specs.Fits.{FitsWrite, FitsChange, FitsBack, FitsPurge}
use Rattle.page_model.specs.Records.Kind.{Change, Put_back, Purge}
use Rattle.page_model.proofs.Pairs.{rising_put, put_has, size_put, size_put_old, find_put_same, find_put_other, rising_keep, keep_has, size_keep, find_keep_on, find_keep_off, some_none, found_in}
use Rattle.page_model.proofs.Tree.{ok, not_free}
use Rattle.page_model.proofs.Entries.{LeafWith, entry_at, same_entry}

abbrev pub with_pairs : Node → List Pair → Node
with_pairs v xs = record { live = v.live; level = v.level; low = v.low; high = v.high; pairs = xs }

-- the pages new have the pairs xs in the leaf p, and are else as before
pub record Refilled (f : Format) (node new : ℕ → Node) (p : ℕ) (xs : List Pair) : Type 0 where
  pub here : new p ≡ with_pairs (node p) xs
  pub others : (i : ℕ) → (i ≡ p → ⊥) → new i ≡ node i
  pub page : p < f.pages
  pub live : (node p).live ≡ true
  pub leaf : (node p).level ≡ 0
  pub sized : length xs ≤ f.room
  pub rising : Rising (node p).low xs (node p).high
  pub values : (x : Pair) → Has x xs → x.word ≤ f.dead

module _ (f : Format) (node new : ℕ → Node) (t : IsTree f node) (p : ℕ) (xs : List Pair) (c : Refilled f node new p xs) where
  shape : (i : ℕ) → ((new i).live ≡ (node i).live) × ((new i).level ≡ (node i).level) × ((new i).low ≡ (node i).low) × ((new i).high ≡ (node i).high)
  shape i = elim (cases_eq i p) [
    | inl e ↦ (let q = ap new e ∙ (c.here ∙ ap (λ (j : ℕ). with_pairs (node j) xs) (sym e)) in
        (ap (λ (v : Node). v.live) q, ap (λ (v : Node). v.level) q, ap (λ (v : Node). v.low) q, ap (λ (v : Node). v.high) q))
    | inr n ↦ (let q = c.others i n in (ap (λ (v : Node). v.live) q, ap (λ (v : Node). v.level) q, ap (λ (v : Node). v.low) q, ap (λ (v : Node). v.high) q))
  ]

  formed : (i : ℕ) → i < f.pages → WellFormed f (new i)
  formed i l = elim (cases_eq i p) [
    | inl e ↦ subst (WellFormed f) (sym (ap new e ∙ c.here)) (record {
      node = λ v. (let o = ok f node t p c.page c.live in let lv = c.leaf in record {
        sized = c.sized;
        tall = o.tall;
        rising = c.rising;
        values = λ z. c.values;
        children = λ z. absurd (omega arith);
        first = λ z. absurd (omega arith);
      });
      other = λ v. not_free (node p).live c.live v;
    })
    | inr n ↦ subst (WellFormed f) (sym (c.others i n)) (t.formed i l)
  ]

  down : (q : ℕ) → q < f.pages → (s : Span) → Names (new q) s → IsChild (new q) (new s.child) s
  down q l s m =
      let sh = shape q in let sc = shape s.child in let sh1 = sh.1 in let sc1 = sc.1 in let mi = m.inner in let lv = c.leaf in
      let e = c.others q (λ z. (let w = ap (λ (i : ℕ). (node i).level) z in omega arith)) in
      let d = t.down q l s (subst (λ (v : Node). Names v s) e m) in let dl = d.level in
      record { live = sc.0 ∙ d.live; level = omega arith; low = sc.2 ∙ d.low; high = sc.3 ∙ d.high }

  up : (q : ℕ) → q < f.pages → (new q).live ≡ true → (q ≡ 0 → ⊥) → Parent f new q
  up q l v n =
      let u = t.up q l (sym (shape q).0 ∙ v) n in let ui = u.names.inner in let lv = c.leaf in
      let e = c.others u.page (λ z. (let w = ap (λ (i : ℕ). (node i).level) z in omega arith)) in
      record { page = u.page; below = u.below; span = u.span; names = subst (λ (v : Node). Names v u.span) (sym e) u.names; child = u.child }

  pub refilled_tree : IsTree f new
  refilled_tree = let r = t.root in let s = shape 0 in record {
    some = t.some;
    root = (s.0 ∙ r.0, s.2 ∙ r.1, s.3 ∙ r.2);
    formed = formed;
    down = down;
    up = up;
  }

  lies_new : (i k : ℕ) → LeafWith (node i) k → LeafWith (new i) k
  lies_new i k w = let s = shape i in let l = w.lies in let s2 = s.2 in let s3 = s.3 in let a = l.low in let b = l.high in
      record { lies = record { live = s.0 ∙ l.live; low = omega arith; high = omega arith }; leaf = s.1 ∙ w.leaf }

  -- the leaf's keys have their words from xs
  pub refilled_on : (k : ℕ) → LeafWith (node p) k → entry f.pages new k ≡ find k xs
  refilled_on k w = entry_at f new refilled_tree k p c.page (lies_new p k w) ∙ ap (λ (v : Node). find k v.pairs) c.here

  pub refilled_off : (k : ℕ) → find k xs ≡ find k (node p).pairs → entry f.pages new k ≡ entry f.pages node k
  refilled_off k e = same_entry f node new t refilled_tree k (λ i l w. record {
    page = i;
    below = l;
    has = lies_new i k w;
    same = elim (cases_eq i p) [
      | inl q ↦ ap (λ (v : Node). find k v.pairs) (ap new q ∙ c.here) ∙ (e ∙ ap (λ (j : ℕ). find k (node j).pairs) (sym q))
      | inr n ↦ ap (λ (v : Node). find k v.pairs) (c.others i n)
    ];
  })

-- ## Change and put-back

module _ (f : Format) (node : ℕ → Node) (t : IsTree f node) (r : Record) where
  abbrev wrote : ℕ → Node
  wrote p = applied_as Change r p (node p)

  abbrev leaf : Node
  leaf = node r.left.page

  wrote_fills : FitsWrite f node r → length (put r.key r.after leaf.pairs) ≤ f.room → Refilled f node wrote r.left.page (put r.key r.after leaf.pairs)
  wrote_fills w s = let o = ok f node t r.left.page w.page w.live in record {
    here = cond-true (r.left.page == r.left.page) (with_pairs leaf (put r.key r.after leaf.pairs)) leaf (eq-eqb r.left.page r.left.page refl);
    others = λ i n. cond-false (i == r.left.page) (with_pairs (node i) (put r.key r.after (node i).pairs)) (node i) (ne_eqb i r.left.page n);
    page = w.page;
    live = w.live;
    leaf = w.leaf;
    sized = s;
    rising = rising_put leaf.low r.key r.after leaf.pairs leaf.high o.rising w.within.0 w.within.1;
    values = λ x h. elim (put_has r.key r.after leaf.pairs x h) [ inl e ↦ (let z = ap (λ (y : Pair). y.word) e in let a = w.after in omega arith) | inr h ↦ o.values w.leaf x h ];
  }

  change_fills : FitsChange f node r → Refilled f node wrote r.left.page (put r.key r.after leaf.pairs)
  change_fills m = wrote_fills m.write (go (find r.key leaf.pairs) refl)
    where
      go : (z : Option ℕ) → find r.key leaf.pairs ≡ z → length (put r.key r.after leaf.pairs) ≤ f.room
      go None e = let a = m.room e in let b = size_put r.key r.after leaf.pairs in omega arith
      go (Some x) e = let o = ok f node t r.left.page m.write.page m.write.live in let a = o.sized in
          let b = size_put_old leaf.low r.key r.after leaf.pairs leaf.high o.rising (λ n. some_none x (sym e ∙ n)) in omega arith

  back_fills : FitsBack f node r → Refilled f node wrote r.left.page (put r.key r.after leaf.pairs)
  back_fills m = let o = ok f node t r.left.page m.write.page m.write.live in let a = o.sized in
      let b = size_put_old leaf.low r.key r.after leaf.pairs leaf.high o.rising m.entry in wrote_fills m.write (omega arith)

  in_leaf : FitsWrite f node r → LeafWith leaf r.key
  in_leaf w = record { lies = record { live = w.live; low = w.within.0; high = w.within.1 }; leaf = w.leaf }

  pub before_is : FitsWrite f node r → r.before ≡ word_or f.dead (entry f.pages node r.key)
  before_is w = w.before ∙ ap (word_or f.dead) (sym (entry_at f node t r.key r.left.page w.page (in_leaf w)))

  wrote_on : FitsWrite f node r → Refilled f node wrote r.left.page (put r.key r.after leaf.pairs) → entry f.pages wrote r.key ≡ Some r.after
  wrote_on w c = refilled_on f node wrote t r.left.page (put r.key r.after leaf.pairs) c r.key (in_leaf w) ∙ find_put_same r.key r.after leaf.pairs

  wrote_off : (c : Refilled f node wrote r.left.page (put r.key r.after leaf.pairs)) → (k : ℕ) → (r.key ≡ k → ⊥) → entry f.pages wrote k ≡ entry f.pages node k
  wrote_off c k n = refilled_off f node wrote t r.left.page (put r.key r.after leaf.pairs) c k (find_put_other r.key r.after k leaf.pairs n)

  pub change_tree : FitsChange f node r → IsTree f (λ p. applied_as Change r p (node p))
  change_tree m = refilled_tree f node wrote t r.left.page (put r.key r.after leaf.pairs) (change_fills m)

  pub change_on : FitsChange f node r → entry f.pages (λ p. applied_as Change r p (node p)) r.key ≡ Some r.after
  change_on m = wrote_on m.write (change_fills m)

  pub change_off : FitsChange f node r → (k : ℕ) → (r.key ≡ k → ⊥) → entry f.pages (λ p. applied_as Change r p (node p)) k ≡ entry f.pages node k
  change_off m = wrote_off (change_fills m)

  pub back_tree : FitsBack f node r → IsTree f (λ p. applied_as Put_back r p (node p))
  back_tree m = refilled_tree f node wrote t r.left.page (put r.key r.after leaf.pairs) (back_fills m)

  pub back_on : FitsBack f node r → entry f.pages (λ p. applied_as Put_back r p (node p)) r.key ≡ Some r.after
  back_on m = wrote_on m.write (back_fills m)

  pub back_off : FitsBack f node r → (k : ℕ) → (r.key ≡ k → ⊥) → entry f.pages (λ p. applied_as Put_back r p (node p)) k ≡ entry f.pages node k
  back_off m = wrote_off (back_fills m)

-- ## Purge

module _ (f : Format) (node : ℕ → Node) (t : IsTree f node) (r : Record) (m : FitsPurge f node r) where
  abbrev stays : ℕ → Bool
  stays k = not (is_in k r.keys)

  abbrev purged : ℕ → Node
  purged p = applied_as Purge r p (node p)

  abbrev left : Node
  left = node r.left.page

  purge_fills : Refilled f node purged r.left.page (keep stays left.pairs)
  purge_fills = let o = ok f node t r.left.page m.page m.live in record {
    here = cond-true (r.left.page == r.left.page) (with_pairs left (keep stays left.pairs)) left (eq-eqb r.left.page r.left.page refl);
    others = λ i n. cond-false (i == r.left.page) (with_pairs (node i) (keep stays (node i).pairs)) (node i) (ne_eqb i r.left.page n);
    page = m.page;
    live = m.live;
    leaf = m.leaf;
    sized = (let a = size_keep stays left.pairs in let b = o.sized in omega arith);
    rising = rising_keep stays left.low left.pairs left.high o.rising;
    values = λ x h. o.values m.leaf x (keep_has stays left.pairs x h).0;
  }

  pub purge_tree : IsTree f (λ p. applied_as Purge r p (node p))
  purge_tree = refilled_tree f node purged t r.left.page (keep stays left.pairs) purge_fills

  pub purge_off : (k : ℕ) → is_in k r.keys ≡ false → entry f.pages (λ p. applied_as Purge r p (node p)) k ≡ entry f.pages node k
  purge_off k e = refilled_off f node purged t r.left.page (keep stays left.pairs) purge_fills k (find_keep_on stays k left.pairs (ap not e))

  -- a key that goes has a tombstone, and no entry from then on
  pub purge_on : (k : ℕ) → is_in k r.keys ≡ true → (entry f.pages node k ≡ Some f.dead) × (entry f.pages (λ p. applied_as Purge r p (node p)) k ≡ None)
  purge_on k e =
      let o = ok f node t r.left.page m.page m.live in
      let i = found_in left.low k left.pairs left.high o.rising (λ n. some_none f.dead (sym (m.dead k e) ∙ n)) in
      let w : LeafWith left k = record { lies = record { live = m.live; low = i.0; high = i.1 }; leaf = m.leaf } in
      (entry_at f node t k r.left.page m.page w ∙ m.dead k e, refilled_on f node purged t r.left.page (keep stays left.pairs) purge_fills k w ∙ find_keep_off stays k left.pairs (ap not e))
