-- What a page is that is as it was kept, and how the table stays right.
use Rattle.std.proofs.Common.{◌≡◌, ◌≢◌, ◌⊎◌, inl, inr, ◌<◌, ℕ, Bool, true, false, ◌==◌, ◌&&◌, List, [], ◌∷◌, length, set, Option, Some, None, refl, sym, ap, ◌∙◌, subst, arith, true≢false}
use Rattle.std.proofs.lemmas.Bool.{cases_eq, cond-true, cond-false, eq-eqb, ne_eqb}
use Rattle.std.proofs.lemmas.List.{length-set, get_or-set_same, get_or-set_other}
use Rattle.image_model.specs.Entries.{Contents}
use Rattle.page_model.specs.Pairs.{Pair, Has, Span}
use Rattle.page_model.specs.Nodes.{Format, Node, free, is_leaf}
use Rattle.page_model.specs.Tree.{Names, IsTree}
use Rattle.page_model.specs.Needs.{key_at}
use Rattle.page_model.specs.Page.{Page, word_at}
use Rattle.page_model.proofs.Tree.{child_page, only}
use Rattle.btree_node.specs.Words.{IsOrdered}
use Rattle.cold_pages.specs.declared.kept.Kept.{Kept}
use Rattle.cold_pages.specs.Kept.{nothing, kept_of, level_of, children, own, named, left, come}
use Rattle.cold_pages.specs.Compared.{IsKeptUnder, AreAsKept, IsAsKept}
use Rattle.cold_pages.specs.Laws.{IsOf, NamesFrom, IsRight, contents, IsButEntries, EveryKept}
use Rattle.cold_pages.proofs.PairLemmas.{pair_at, place_of, pair_of_span, span_of_pair, AllIn, same_ordered}
use Rattle.cold_pages.proofs.TableLemmas.{children_inner, children_none, IsOff, Naming, named_or_off, named_but, named_off, named_on, length-named}

-- ## Nodes

bool_is : (b : Bool) → (b ≡ true) ⊎ (b ≡ false)
bool_is true = inl refl
bool_is false = inr refl

some_is : {a b : ℕ} → Some a ≡ Some b → a ≡ b
some_is {a} e = ap (λ (o : Option ℕ). value a o) e
  where
    value : ℕ → Option ℕ → ℕ
    value d (Some n) = n
    value d None = d

some_none : {a : ℕ} {A : Type 0} → None ≡ Some a → A
some_none e = absurd (true≢false (ap (λ (o : Option ℕ). is_none o) e))
  where
    is_none : Option ℕ → Bool
    is_none None = true
    is_none (Some n) = false

level_live : (v : Node) → v.live ≡ true → level_of v ≡ Some v.level
level_live v e = cond-true v.live (Some v.level) None e

level_free : (v : Node) → v.live ≡ false → level_of v ≡ None
level_free v e = cond-false v.live (Some v.level) None e

-- nodes of one level are both live, or none is
same_live : (v w : Node) → level_of v ≡ level_of w → v.live ≡ w.live
same_live v w e = at (bool_is v.live) (bool_is w.live)
  where
    at : (v.live ≡ true) ⊎ (v.live ≡ false) → (w.live ≡ true) ⊎ (w.live ≡ false) → v.live ≡ w.live
    at (inl a) (inl b) = a ∙ sym b
    at (inr a) (inr b) = a ∙ sym b
    at (inl a) (inr b) = some_none (sym (level_free w b) ∙ (sym e ∙ level_live v a))
    at (inr a) (inl b) = some_none (sym (level_free v a) ∙ (e ∙ level_live w b))

same_level : (v w : Node) → level_of v ≡ level_of w → v.live ≡ true → v.level ≡ w.level
same_level v w e a = some_is (sym (level_live v a) ∙ (e ∙ level_live w (sym (same_live v w e) ∙ a)))

-- nodes of the same fields are one
node_eq : (v w : Node) → v.live ≡ w.live → v.level ≡ w.level → v.low ≡ w.low → v.high ≡ w.high → v ≡ record w { pairs = v.pairs }
node_eq v w a b c d =
    ap (λ (z : Bool). record { live = z; level = v.level; low = v.low; high = v.high; pairs = v.pairs }) a
    ∙ (ap (λ (z : ℕ). record { live = w.live; level = z; low = v.low; high = v.high; pairs = v.pairs }) b
    ∙ (ap (λ (z : ℕ). record { live = w.live; level = w.level; low = z; high = v.high; pairs = v.pairs }) c
    ∙ ap (λ (z : ℕ). record { live = w.live; level = w.level; low = w.low; high = z; pairs = v.pairs }) d))

-- with the same pairs too
whole_eq : (v w : Node) → v ≡ record w { pairs = v.pairs } → v.pairs ≡ w.pairs → v ≡ w
whole_eq v w e d = e ∙ ap (λ (z : List Pair). record w { pairs = z }) d

no_pairs : (xs : List Pair) → length xs ≡ 0 → xs ≡ []
no_pairs [] e = refl
no_pairs (x ∷ xs) e = absurd (let no : ⊥ = omega arith in no)

-- a node above leaves is no leaf
inner_other : (v : Node) → 0 < v.level → is_leaf v ≡ false
inner_other v l = subst (λ (b : Bool). (v.live && b) ≡ false) (sym (ne_eqb v.level 0 (λ e. (let no : ⊥ = omega arith in no)))) (and_false v.live)
  where
    and_false : (b : Bool) → (b && false) ≡ false
    and_false true = refl
    and_false false = refl

leaf_of : (v : Node) → v.live ≡ true → v.level ≡ 0 → is_leaf v ≡ true
leaf_of v a b = subst (λ (c : Bool). (c && (v.level == 0)) ≡ true) (sym a) (eq-eqb v.level 0 b)

-- a page that is no leaf is free, or above leaves
other_is : (v : Node) → is_leaf v ≡ false → (v.live ≡ false) ⊎ (0 < v.level)
other_is v e = at (bool_is v.live) (cases_eq v.level 0)
  where
    at : (v.live ≡ true) ⊎ (v.live ≡ false) → (v.level ≡ 0) ⊎ (v.level ≢ 0) → (v.live ≡ false) ⊎ (0 < v.level)
    at (inr a) b = inl a
    at (inl a) (inr b) = inr (omega arith)
    at (inl a) (inl b) = absurd (true≢false (sym (leaf_of v a b) ∙ e))

-- ## A page that comes

module _ (f : Format) (page : ℕ → Contents) (t : IsTree f (λ p. (page p).node)) where
  live_of : (p : ℕ) → p < f.pages → 0 < (page p).node.level → (page p).node.live ≡ true
  live_of p l i = at (bool_is (page p).node.live)
    where
      at : ((page p).node.live ≡ true) ⊎ ((page p).node.live ≡ false) → (page p).node.live ≡ true
      at (inl e) = e
      at (inr e) = let z = ap (λ (n : Node). n.level) ((t.formed p l).other e) in absurd (let no : ⊥ = omega arith in no)

  module _ (cold : ℕ → Bool) (table : List Kept) (right : IsRight f page cold table) where
    -- a pair whose child is kept under a page is one of the page's own
    own_pair : (p key child : ℕ) → IsKeptUnder table p key child → Has (record { key = key; word = child }) (page p).node.pairs
    own_pair p key child k =
        let n = (right.parent child p (subst (λ (i : ℕ). child < i) right.pages k.within) k.parent).2 in
        let m = pair_of_span (page p).node.pairs (page p).node.high n.span n.names.has in
        let low : n.span.low ≡ key = n.low ∙ k.low in
        subst (λ (z : ℕ). Has (record { key = key; word = z }) (page p).node.pairs) n.child (subst (λ (z : ℕ). Has (record { key = z; word = n.span.child }) (page p).node.pairs) low m)

    own_pairs : (p : ℕ) (xs : List Pair) → AreAsKept table p xs → AllIn xs (page p).node.pairs
    own_pairs p xs as_kept x m =
        let i = place_of xs x m in
        own_pair p x.key x.word (subst (λ (z : ℕ). IsKeptUnder table p x.key z) i.3 (subst (λ (z : ℕ). IsKeptUnder table p z (word_at i.0 xs)) i.2 (as_kept.each i.0 i.1)))

    module _ (p : ℕ) (v : Page) (l : p < f.pages) (c : cold p ≡ true) where
      o : IsOf (kept_of table p) (page p)
      o = right.own p l c

      module _ (ordered : IsOrdered v.node.low v.node.pairs v.node.high) (k : IsAsKept table p v) where
        same : level_of v.node ≡ level_of (page p).node
        same = k.fields.level ∙ o.level

        live : v.node.live ≡ (page p).node.live
        live = same_live v.node (page p).node same

        freed : (page p).node.live ≡ false → (page p).node ≡ free
        freed e = (t.formed p l).other e

        level_at : (v.node.live ≡ true) ⊎ (v.node.live ≡ false) → v.node.level ≡ (page p).node.level
        level_at (inl e) = same_level v.node (page p).node same e
        level_at (inr e) = (k.free e).0 ∙ sym (ap (λ (n : Node). n.level) (freed (sym live ∙ e)))

        level : v.node.level ≡ (page p).node.level
        level = level_at (bool_is v.node.live)

        fields : v.node ≡ record (page p).node { pairs = v.node.pairs }
        fields = node_eq v.node (page p).node live level (k.fields.low ∙ o.low) (k.fields.high ∙ o.high)

        whole : ((page p).node.live ≡ false) ⊎ (0 < (page p).node.level) → v.node ≡ (page p).node
        whole (inl e) = whole_eq v.node (page p).node fields (no_pairs v.node.pairs (k.free (live ∙ e)).1 ∙ sym (ap (λ (n : Node). n.pairs) (freed e)))
        whole (inr i) =
            let lv = level in
            let pairs = k.pairs (omega arith) in
            let formed = (t.formed p l).node (live_of p l i) in
            whole_eq v.node (page p).node fields (same_ordered v.node.low (page p).node.low v.node.pairs (page p).node.pairs v.node.high (page p).node.high ordered formed.rising (own_pairs p v.node.pairs pairs) (pairs.count ∙ o.count i))

        came : IsButEntries (page p) (contents v)
        came = record { gsn = k.fields.gsn ∙ o.gsn; last = k.fields.last_log ∙ o.last; fields = fields; other = λ e. whole (other_is (page p).node e) }

      -- each pair of the node is kept under it
      kept_pair : 0 < (page p).node.level → (i : ℕ) → i < length (page p).node.pairs → IsKeptUnder table p (key_at i (page p).node.pairs) (word_at i (page p).node.pairs)
      kept_pair inner i within =
          let xs = (page p).node.pairs in
          let m = pair_at xs i within in
          let s = span_of_pair xs (page p).node.high (record { key = key_at i xs; word = word_at i xs }) m in
          let n : Names (page p).node s.0 = record { live = live_of p l inner; inner = inner; has = s.1 } in
          let r = right.children p s.0 l c n in record {
            within = subst (λ (z : ℕ). z < length table) s.2 (subst (λ (z : ℕ). s.0.child < z) (sym right.pages) (child_page f (λ q. (page q).node) t p s.0 l n).1);
            parent = subst (λ (z : ℕ). (kept_of table z).parent ≡ Some p) s.2 r.0;
            low = subst (λ (z : ℕ). (kept_of table z).low ≡ s.0.low) s.2 r.1 ∙ s.3;
          }

      passes : contents v ≡ page p → IsAsKept table p v
      passes e =
          let n : v.node ≡ (page p).node = ap (λ (y : Contents). y.node) e in record {
            fields = record {
              gsn = ap (λ (y : Contents). y.gsn) e ∙ sym o.gsn;
              last_log = ap (λ (y : Contents). y.last) e ∙ sym o.last;
              level = ap level_of n ∙ sym o.level;
              low = ap (λ (w : Node). w.low) n ∙ sym o.low;
              high = ap (λ (w : Node). w.high) n ∙ sym o.high;
            };
            free = λ dead.
                (let z : v.node ≡ free = n ∙ (t.formed p l).other (sym (ap (λ (w : Node). w.live) n) ∙ dead) in
                (ap (λ (w : Node). w.level) z, ap (λ (w : Node). length w.pairs) z));
            pairs = λ inner.
                (let i : 0 < (page p).node.level = subst (λ (w : Node). 0 < w.level) n inner in
                let r : AreAsKept table p (page p).node.pairs = record { count = sym (o.count i); each = kept_pair i } in
                subst (λ (w : Node). AreAsKept table p w.pairs) (sym n) r);
          }

    -- ## The table stays right

    stays : (other : ℕ → Contents) (later : ℕ → Bool) → ((p : ℕ) → p < f.pages → later p ≡ cold p) → ((p : ℕ) → p < f.pages → cold p ≡ true → IsButEntries (page p) (other p)) → IsRight f other later table
    stays other later same but = record {
      pages = right.pages;
      own = λ p l c.
          (let k = sym (same p l) ∙ c in
          let o = right.own p l k in
          let b = but p l k in record {
            gsn = o.gsn ∙ sym b.gsn;
            last = o.last ∙ sym b.last;
            level = o.level ∙ sym (ap level_of b.fields);
            low = o.low ∙ sym (ap (λ (n : Node). n.low) b.fields);
            high = o.high ∙ sym (ap (λ (n : Node). n.high) b.fields);
            count = λ i.
                (let j : 0 < (page p).node.level = subst (λ (z : ℕ). 0 < z) (ap (λ (n : Node). n.level) b.fields) i in
                o.count j ∙ sym (ap (λ (n : Node). length n.pairs) (b.other (inner_other (page p).node j))));
          });
      parent = λ c q l e.
          (let x = right.parent c q l e in
          let b = but q x.0 x.1 in
          (x.0, same q x.0 ∙ x.1, subst (λ (n : Node). NamesFrom n (kept_of table c).low c) (sym (b.other (inner_other (page q).node x.2.names.inner))) x.2));
      children = λ q s l c m.
          (let k = sym (same q l) ∙ c in
          let b = but q l k in
          let j : 0 < (page q).node.level = subst (λ (z : ℕ). 0 < z) (ap (λ (n : Node). n.level) b.fields) m.inner in
          right.children q s l k (subst (λ (n : Node). Names n s) (b.other (inner_other (page q).node j)) m));
    }

  -- ## The children of one page are named

  -- a pair that names a page is that of a span
  child_span : (p : ℕ) → p < f.pages → (x : Pair) → Has x (children (page p).node) → (s : Span) × Names (page p).node s × (s.child ≡ x.word) × (s.low ≡ x.key)
  child_span p l x m = at (cases_eq (page p).node.level 0)
    where
      at : ((page p).node.level ≡ 0) ⊎ ((page p).node.level ≢ 0) → (s : Span) × Names (page p).node s × (s.child ≡ x.word) × (s.low ≡ x.key)
      at (inl e) = absurd (subst (λ (xs : List Pair). Has x xs) (children_none (page p).node e) m)
      at (inr n) =
          let inner : 0 < (page p).node.level = omega arith in
          let s = span_of_pair (page p).node.pairs (page p).node.high x (subst (λ (xs : List Pair). Has x xs) (children_inner (page p).node inner) m) in
          (s.0, record { live = live_of p l inner; inner = inner; has = s.1 }, s.2, s.3)

  span_child : (p : ℕ) (s : Span) → Names (page p).node s → Has (record { key = s.low; word = s.child }) (children (page p).node)
  span_child p s m = subst (λ (xs : List Pair). Has (record { key = s.low; word = s.child }) xs) (sym (children_inner (page p).node m.inner)) (pair_of_span (page p).node.pairs (page p).node.high s m.has)

  within_tree : (p : ℕ) → p < f.pages → (x : Pair) → Has x (children (page p).node) → x.word < f.pages
  within_tree p l x m = let s = child_span p l x m in subst (λ (n : ℕ). n < f.pages) s.2 (child_page f (λ q. (page q).node) t p s.0 l s.1).1

  -- the page names it by a span
  abbrev pub IsNamed : ℕ → ℕ → Type 0
  IsNamed p c = (s : Span) × Names (page p).node s × (s.child ≡ c)

  -- or by none
  abbrev pub NotNamed : ℕ → ℕ → Type 0
  NotNamed p c = (s : Span) → Names (page p).node s → s.child ≢ c

  module _ (p : ℕ) (l : p < f.pages) where
    decide : (c : ℕ) → IsNamed p c ⊎ NotNamed p c
    decide c = at (named_or_off c (children (page p).node))
      where
        at : Naming c (children (page p).node) ⊎ IsOff c (children (page p).node) → IsNamed p c ⊎ NotNamed p c
        at (inl n) = let s = child_span p l n.pair n.has in inl (s.0, s.1, s.2 ∙ n.word)
        at (inr off) = inr (λ s m. off (record { key = s.low; word = s.child }) (span_child p s m))

    -- no other page names what it names
    others_off : (q : ℕ) (s : Span) → q < f.pages → q ≢ p → Names (page q).node s → NotNamed p s.child
    others_off q s lq ne m z n e = ne (only f (λ i. (page i).node) t q p s z lq l m n (sym e)).0

    module _ (o : Option ℕ) (before : List Kept) (long : length before ≡ f.pages) where
      abbrev pub after : List Kept
      after = named o (children (page p).node) before

      on : (s : Span) → Names (page p).node s → ((kept_of after s.child).parent ≡ o) × ((kept_of after s.child).low ≡ s.low)
      on s m =
          named_on o (record { key = s.low; word = s.child }) (children (page p).node) before (span_child p s m)
          (subst (λ (n : ℕ). s.child < n) (sym long) (child_page f (λ q. (page q).node) t p s l m).1)
          (λ y k w. (let z = child_span p l y k in sym z.3 ∙ ap (λ (r : Span). r.low) (only f (λ q. (page q).node) t p p z.0 s l l z.1 m (z.2 ∙ w)).1))

      off : (c : ℕ) → NotNamed p c → kept_of after c ≡ kept_of before c
      off c none = named_off o c (children (page p).node) before (λ x m e. (let s = child_span p l x m in none s.0 s.1 (s.2 ∙ e)))

      long_after : length after ≡ f.pages
      long_after = length-named o (children (page p).node) before ∙ long

      within : (x : Pair) → Has x (children (page p).node) → x.word < length before
      within x m = let s = child_span p l x m in subst (λ (n : ℕ). x.word < n) (sym long) (subst (λ (n : ℕ). n < f.pages) s.2 (child_page f (λ q. (page q).node) t p s.0 l s.1).1)

      still_of : (c : ℕ) → IsOf (kept_of before c) (page c) → IsOf (kept_of after c) (page c)
      still_of c k =
          let b = named_but o c (children (page p).node) before within in
          record { gsn = b.gsn ∙ k.gsn; last = b.last ∙ k.last; level = b.level ∙ k.level; low = low (decide c); high = b.high ∙ k.high; count = λ i. b.count ∙ k.count i }
        where
          low : IsNamed p c ⊎ NotNamed p c → (kept_of after c).low ≡ (page c).node.low
          low (inl n) = subst (λ (i : ℕ). (kept_of after i).low ≡ (page i).node.low) n.2 ((on n.0 n.1).1 ∙ sym (t.down p l n.0 n.1).low)
          low (inr none) = ap (λ (z : Kept). z.low) (off c none) ∙ k.low

  -- ## One page more has left

  module _ (cold : ℕ → Bool) (table : List Kept) (right : IsRight f page cold table) (p : ℕ) (v : Page) (later : ℕ → Bool) (l : p < f.pages) (is : contents v ≡ page p) (same : (q : ℕ) → q < f.pages → q ≢ p → later q ≡ cold q) (now : later p ≡ true) where
    abbrev pub noted : List Kept
    noted = set table p (own (kept_of table p) v)

    long : length noted ≡ f.pages
    long = length-set table p (own (kept_of table p) v) ∙ right.pages

    at_page : kept_of noted p ≡ own (kept_of table p) v
    at_page = get_or-set_same table p (own (kept_of table p) v) nothing (subst (λ (n : ℕ). p < n) (sym right.pages) l)

    at_other : (c : ℕ) → c ≢ p → kept_of noted c ≡ kept_of table c
    at_other c ne = get_or-set_other table p c (own (kept_of table p) v) nothing ne

    is_own : IsOf (own (kept_of table p) v) (page p)
    is_own =
        let n : v.node ≡ (page p).node = ap (λ (y : Contents). y.node) is in
        record { gsn = ap (λ (y : Contents). y.gsn) is; last = ap (λ (y : Contents). y.last) is; level = ap level_of n; low = ap (λ (w : Node). w.low) n; high = ap (λ (w : Node). w.high) n; count = λ i. ap (λ (w : Node). length w.pairs) n }

    noted_of : (c : ℕ) → c < f.pages → later c ≡ true → (c ≡ p) ⊎ (c ≢ p) → IsOf (kept_of noted c) (page c)
    noted_of c lc cc (inl e) = subst (λ (i : ℕ). IsOf (kept_of noted i) (page i)) (sym e) (subst (λ (k : Kept). IsOf k (page p)) (sym at_page) is_own)
    noted_of c lc cc (inr n) = subst (λ (k : Kept). IsOf k (page c)) (sym (at_other c n)) (right.own c lc (sym (same c lc n) ∙ cc))

    -- who names a page is kept as before
    noted_parent : (c : ℕ) → (c ≡ p) ⊎ (c ≢ p) → (kept_of noted c).parent ≡ (kept_of table c).parent
    noted_parent c (inl e) = ap (λ (i : ℕ). (kept_of noted i).parent) e ∙ (ap (λ (k : Kept). k.parent) at_page ∙ ap (λ (i : ℕ). (kept_of table i).parent) (sym e))
    noted_parent c (inr n) = ap (λ (k : Kept). k.parent) (at_other c n)

    -- and from where on it does
    noted_low : (q : ℕ) (s : Span) → q < f.pages → Names (page q).node s → (kept_of table s.child).low ≡ s.low → (s.child ≡ p) ⊎ (s.child ≢ p) → (kept_of noted s.child).low ≡ s.low
    noted_low q s lq m low (inl e) =
        ap (λ (i : ℕ). (kept_of noted i).low) e
        ∙ (ap (λ (k : Kept). k.low) at_page ∙ (is_own.low ∙ (ap (λ (i : ℕ). (page i).node.low) (sym e) ∙ (t.down q lq s m).low)))
    noted_low q s lq m low (inr n) = ap (λ (k : Kept). k.low) (at_other s.child n) ∙ low

    is_cold : (q : ℕ) → q < f.pages → cold q ≡ true → (q ≡ p) ⊎ (q ≢ p) → later q ≡ true
    is_cold q lq c (inl e) = ap later e ∙ now
    is_cold q lq c (inr n) = same q lq n ∙ c

    abbrev pub behind : List Kept
    behind = named (Some p) (children (page p).node) noted

    gone_parent : (c q : ℕ) → c < f.pages → (kept_of behind c).parent ≡ Some q → IsNamed p c ⊎ NotNamed p c → (q < f.pages) × (later q ≡ true) × NamesFrom (page q).node (kept_of behind c).low c
    gone_parent c q lc e (inl n) =
        let o = on p l (Some p) noted long n.0 n.1 in
        let q_is : p ≡ q = some_is (sym o.0 ∙ (ap (λ (i : ℕ). (kept_of behind i).parent) n.2 ∙ e)) in
        let low : n.0.low ≡ (kept_of behind c).low = sym o.1 ∙ ap (λ (i : ℕ). (kept_of behind i).low) n.2 in
        let names : NamesFrom (page p).node (kept_of behind c).low c = record { span = n.0; names = n.1; child = n.2; low = low } in
        subst (λ (i : ℕ). (i < f.pages) × (later i ≡ true) × NamesFrom (page i).node (kept_of behind c).low c) q_is (l, now, names)
    gone_parent c q lc e (inr none) =
        let same_kept = off p l (Some p) noted long c none in
        let x = right.parent c q lc (sym (noted_parent c (cases_eq c p)) ∙ (sym (ap (λ (k : Kept). k.parent) same_kept) ∙ e)) in
        let y = x.2 in
        let low : (kept_of noted y.span.child).low ≡ y.span.low = noted_low q y.span x.0 y.names (ap (λ (i : ℕ). (kept_of table i).low) y.child ∙ sym y.low) (cases_eq y.span.child p) in
        (x.0, is_cold q x.0 x.1 (cases_eq q p), record { span = y.span; names = y.names; child = y.child; low = sym low ∙ (ap (λ (i : ℕ). (kept_of noted i).low) y.child ∙ sym (ap (λ (k : Kept). k.low) same_kept)) })

    gone_children : (q : ℕ) (s : Span) → q < f.pages → later q ≡ true → Names (page q).node s → (q ≡ p) ⊎ (q ≢ p) → ((kept_of behind s.child).parent ≡ Some q) × ((kept_of behind s.child).low ≡ s.low)
    gone_children q s lq c m (inl e) =
        let o = on p l (Some p) noted long s (subst (λ (i : ℕ). Names (page i).node s) e m) in
        (o.0 ∙ ap (λ (i : ℕ). Some i) (sym e), o.1)
    gone_children q s lq c m (inr n) =
        let same_kept = off p l (Some p) noted long s.child (others_off p l q s lq n m) in
        let r = right.children q s lq (sym (same q lq n) ∙ c) m in (
          ap (λ (k : Kept). k.parent) same_kept ∙ (noted_parent s.child (cases_eq s.child p) ∙ r.0),
          ap (λ (k : Kept). k.low) same_kept ∙ noted_low q s lq m r.1 (cases_eq s.child p),
        )

    leaves_as : IsRight f page later behind
    leaves_as = record {
      pages = long_after p l (Some p) noted long;
      own = λ c lc cc. still_of p l (Some p) noted long c (noted_of c lc cc (cases_eq c p));
      parent = λ c q lc e. gone_parent c q lc e (decide p l c);
      children = λ q s lq c m. gone_children q s lq c m (cases_eq q p);
    }

    leaves : IsRight f page later (left table p v)
    leaves = subst (λ (w : Node). IsRight f page later (named (Some p) (children w) noted)) (sym (ap (λ (y : Contents). y.node) is)) leaves_as

  -- ## One has come

  module _ (cold : ℕ → Bool) (table : List Kept) (right : IsRight f page cold table) (p : ℕ) (v : Node) (later : ℕ → Bool) (l : p < f.pages) (is : v ≡ (page p).node) (same : (q : ℕ) → q < f.pages → q ≢ p → later q ≡ cold q) (now : later p ≡ false) where
    abbrev pub without : List Kept
    without = named None (children (page p).node) table

    other_than : (q : ℕ) → later q ≡ true → q ≢ p
    other_than q c e = true≢false (sym c ∙ (ap later e ∙ now))

    come_parent : (c q : ℕ) → c < f.pages → (kept_of without c).parent ≡ Some q → IsNamed p c ⊎ NotNamed p c → (q < f.pages) × (later q ≡ true) × NamesFrom (page q).node (kept_of without c).low c
    come_parent c q lc e (inl n) = some_none (sym (on p l None table right.pages n.0 n.1).0 ∙ (ap (λ (i : ℕ). (kept_of without i).parent) n.2 ∙ e))
    come_parent c q lc e (inr none) =
        let same_kept = off p l None table right.pages c none in
        let x = right.parent c q lc (sym (ap (λ (k : Kept). k.parent) same_kept) ∙ e) in
        let y = x.2 in
        let ne : q ≢ p = λ i. none y.span (subst (λ (j : ℕ). Names (page j).node y.span) i y.names) y.child in
        (x.0, same q x.0 ne ∙ x.1, record { span = y.span; names = y.names; child = y.child; low = y.low ∙ sym (ap (λ (k : Kept). k.low) same_kept) })

    come_children : (q : ℕ) (s : Span) → q < f.pages → later q ≡ true → Names (page q).node s → ((kept_of without s.child).parent ≡ Some q) × ((kept_of without s.child).low ≡ s.low)
    come_children q s lq c m =
        let ne = other_than q c in
        let same_kept = off p l None table right.pages s.child (others_off p l q s lq ne m) in
        let r = right.children q s lq (sym (same q lq ne) ∙ c) m in
        (ap (λ (k : Kept). k.parent) same_kept ∙ r.0, ap (λ (k : Kept). k.low) same_kept ∙ r.1)

    comes_as : IsRight f page later without
    comes_as = record {
      pages = long_after p l None table right.pages;
      own = λ c lc cc. still_of p l None table right.pages c (right.own c lc (sym (same c lc (other_than c cc)) ∙ cc));
      parent = λ c q lc e. come_parent c q lc e (decide p l c);
      children = come_children;
    }

    comes : IsRight f page later (come table v)
    comes = subst (λ (w : Node). IsRight f page later (named None (children w) table)) (sym is) comes_as

pub every_kept : EveryKept
every_kept f page cold table t right = record {
  within = λ p l x m. subst (λ (n : ℕ). x.word < n) (sym right.pages) (within_tree f page t p l x m);
  came = λ p v l c. came f page t cold table right p v l c;
  passes = λ p v l c. passes f page t cold table right p v l c;
  stays = stays f page t cold table right;
  leaves = leaves f page t cold table right;
  comes = comes f page t cold table right;
}
