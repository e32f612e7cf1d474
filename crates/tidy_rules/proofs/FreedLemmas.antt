-- A page that is freed comes among the free pages, at its place.
use Rattle.std.proofs.Common.{◌≡◌, ◌⊎◌, ◌<◌, ◌≤◌, ◌+◌, ◌++◌, ℕ, zero, suc, Bool, true, false, cond, ◌&&◌, ◌||◌, not, leb, ltb, ◌==◌, List, [], ◌∷◌, length, refl, sym, ap, ◌∙◌, subst, inl, inr, arith, true≢false}
use Rattle.std.proofs.lemmas.Bool.{cases_eq, eq-eqb, ne_eqb, eqb-true, and_parts, or_left, or_right, ltb-true, leb-true, lt-ltb, le-ltb, cond-true, cond-false}
use Rattle.page_model.specs.Check.{names_page}
use Rattle.page_model.specs.Needs.{drop_record, join_record, purge_record}
use Rattle.page_model.specs.Nodes.{Node, free}
use Rattle.page_model.specs.Pairs.{Has, Pair, Span, is_in, keep, spans, without}
use Rattle.page_model.specs.Records as records
use Rattle.page_model.specs.Tree.{IsTree, Names}
use Rattle.page_model.proofs.Tree.{child_page, span_fences}
use Rattle.core_commit.specs.core_state.image_model.Entries.{Entry, Kind, applied_as, touches, written}
use Rattle.core_commit.specs.core_state.Events.{Event}
use Rattle.core_commit.specs.core_state.Needs.{are_hot, is_single, may, may_drop, may_join, needs}
use Rattle.core_commit.specs.core_state.Openings.{Opening}
use Rattle.core_commit.specs.core_state.States.{State, Worker, gsns_of, nodes_of}
use Rattle.core_commit.specs.core_state.Steps.{at_pages, happens, page_entry, records_in}
use Rattle.core_commit.proofs.Events.{names_to}
use Rattle.core_calls.specs.Room.{free_list, frees_from}
use Rattle.tidy_rules.specs.Laws.{EveryFreed, put_in}

-- ## The list

-- the pages from here on are live as they were
frees_same : (node other : ℕ → Node) (n a : ℕ) → ((p : ℕ) → a ≤ p → (other p).live ≡ (node p).live) → frees_from other n a ≡ frees_from node n a
frees_same node other zero a h = refl
frees_same node other (suc n) a h =
    ap (λ (b : Bool). cond b (frees_from other n (suc a)) (a ∷ frees_from other n (suc a))) (h a (omega arith))
    ∙ ap (λ (l : List ℕ). cond (node a).live l (a ∷ l)) (frees_same node other n (suc a) (λ p l. h p (omega arith)))

-- a page below all of them comes first
put_first : (node : ℕ → Node) (n a r : ℕ) → r < a → put_in r (frees_from node n a) ≡ r ∷ frees_from node n a
put_first node zero a r lt = refl
put_first node (suc n) a r lt = go (node a).live (put_first node n (suc a) r (omega arith))
  where
    go : (b : Bool) → put_in r (frees_from node n (suc a)) ≡ r ∷ frees_from node n (suc a) → put_in r (cond b (frees_from node n (suc a)) (a ∷ frees_from node n (suc a))) ≡ r ∷ cond b (frees_from node n (suc a)) (a ∷ frees_from node n (suc a))
    go true ih = ih
    go false ih = cond-true (ltb r a) (r ∷ a ∷ frees_from node n (suc a)) (a ∷ put_in r (frees_from node n (suc a))) (lt-ltb r a lt)

-- a page that was live is free, and all others are as they were
frees_more : (node other : ℕ → Node) (r n a : ℕ) → a ≤ r → r < a + n → (node r).live ≡ true → (other r).live ≡ false → ((p : ℕ) → (p ≡ r → ⊥) → (other p).live ≡ (node p).live) → frees_from other n a ≡ put_in r (frees_from node n a)
frees_more node other r zero a low high on off same = absurd (omega arith)
frees_more node other r (suc n) a low high on off same = go (λ l h. frees_more node other r n (suc a) l h on off same) (cases_eq a r)
  where
    here : a ≡ r → cond (other a).live (frees_from other n (suc a)) (a ∷ frees_from other n (suc a)) ≡ put_in r (cond (node a).live (frees_from node n (suc a)) (a ∷ frees_from node n (suc a)))
    here e =
        cond-false (other a).live (frees_from other n (suc a)) (a ∷ frees_from other n (suc a)) (ap (λ (i : ℕ). (other i).live) e ∙ off)
        ∙ ((λ i. e i ∷ frees_same node other n (suc a) (λ p l. same p (λ q. omega arith)) i)
        ∙ (sym (put_first node n (suc a) r (omega arith))
        ∙ ap (put_in r) (sym (cond-true (node a).live (frees_from node n (suc a)) (a ∷ frees_from node n (suc a)) (ap (λ (i : ℕ). (node i).live) e ∙ on)))))

    past : (frees_from other n (suc a) ≡ put_in r (frees_from node n (suc a))) → a < r → (b : Bool) → cond b (frees_from other n (suc a)) (a ∷ frees_from other n (suc a)) ≡ put_in r (cond b (frees_from node n (suc a)) (a ∷ frees_from node n (suc a)))
    past ih lt true = ih
    past ih lt false = ap (λ l. a ∷ l) ih ∙ sym (cond-false (ltb r a) (r ∷ a ∷ frees_from node n (suc a)) (a ∷ put_in r (frees_from node n (suc a))) (le-ltb r a (omega arith)))

    go : (suc a ≤ r → r < suc a + n → frees_from other n (suc a) ≡ put_in r (frees_from node n (suc a))) → (a ≡ r) ⊎ (a ≡ r → ⊥)
        → cond (other a).live (frees_from other n (suc a)) (a ∷ frees_from other n (suc a)) ≡ put_in r (cond (node a).live (frees_from node n (suc a)) (a ∷ frees_from node n (suc a)))
    go ih (inl e) = here e
    go ih (inr q) =
        ap (λ (b : Bool). cond b (frees_from other n (suc a)) (a ∷ frees_from other n (suc a))) (same a q)
        ∙ past (ih (omega arith) (omega arith)) (omega arith) (node a).live

one_more : (p : ℕ) (ps : List ℕ) → length (put_in p ps) ≡ suc (length ps)
one_more p [] = refl
one_more p (q ∷ qs) = go (ltb p q) (one_more p qs)
  where
    go : (b : Bool) → length (put_in p qs) ≡ suc (length qs) → length (cond b (p ∷ q ∷ qs) (q ∷ put_in p qs)) ≡ suc (suc (length qs))
    go true ih = refl
    go false ih = ap suc ih

-- ## Events

-- a page that the record leaves live, or free
entered_same : (s : State) (w : ℕ) (a : Worker) (r : Entry) (cs : List Entry) (p : ℕ) → (applied_as r.kind r p (nodes_of s p)).live ≡ (nodes_of s p).live → (nodes_of (records_in s w a r cs) p).live ≡ (nodes_of s p).live
entered_same s w a r cs p e = go (touches p r)
  where
    go : (b : Bool) → (cond b (written r p (s.page p)) (s.page p)).node.live ≡ (nodes_of s p).live
    go true = e
    go false = refl

-- a page that it frees
entered_free : (s : State) (w : ℕ) (a : Worker) (r : Entry) (cs : List Entry) (p : ℕ) → touches p r ≡ true → (applied_as r.kind r p (nodes_of s p)).live ≡ false → (nodes_of (records_in s w a r cs) p).live ≡ false
entered_free s w a r cs p on e = go (touches p r) on
  where
    go : (b : Bool) → b ≡ true → (cond b (written r p (s.page p)) (s.page p)).node.live ≡ false
    go true q = e
    go false q = absurd (true≢false (sym q))

-- of three pages, the second alone is freed
live_else : (a b c : Bool) (x y z v : Node) → b ≡ false → x.live ≡ v.live → z.live ≡ v.live → (cond a x (cond b y (cond c z v))).live ≡ v.live
live_else true b c x y z v q e f = e
live_else false true c x y z v q e f = absurd (true≢false q)
live_else false false true x y z v q e f = f
live_else false false false x y z v q e f = refl

free_there : (a b : Bool) (x z : Node) → a ≡ false → b ≡ true → (cond a x (cond b free z)).live ≡ false
free_there true b x z p q = absurd (true≢false p)
free_there false false x z p q = absurd (true≢false (sym q))
free_there false true x z p q = refl

abbrev joined : records.Record → Node → Node
joined x v = record { live = v.live; level = v.level; low = v.low; high = x.high; pairs = v.pairs ++ x.pairs }

abbrev above_it : records.Record → Node → Node
above_it x v = record { live = v.live; level = v.level; low = v.low; high = v.high; pairs = without x.sep v.pairs }

abbrev lowered : records.Record → Node → Node
lowered x v = record { live = v.live; level = x.level; low = v.low; high = v.high; pairs = x.pairs }

abbrev cleared : records.Record → Node → Node
cleared x v = record { live = v.live; level = v.level; low = v.low; high = v.high; pairs = keep (λ k. not (is_in k x.keys)) v.pairs }

join_else : (x : records.Record) (p : ℕ) (v : Node) → (p ≡ x.right.page → ⊥) → (records.applied_as records.Kind.Join x p v).live ≡ v.live
join_else x p v n = live_else (p == x.left.page) (p == x.right.page) (p == x.parent.page) (joined x v) free (above_it x v) v (ne_eqb p x.right.page n) refl refl

join_there : (x : records.Record) (p : ℕ) (v : Node) → (p ≡ x.left.page → ⊥) → p ≡ x.right.page → (records.applied_as records.Kind.Join x p v).live ≡ false
join_there x p v n e = free_there (p == x.left.page) (p == x.right.page) (joined x v) (cond (p == x.parent.page) (above_it x v) v) (ne_eqb p x.left.page n) (eq-eqb p x.right.page e)

drop_else : (x : records.Record) (p : ℕ) (v : Node) → (p ≡ x.right.page → ⊥) → (records.applied_as records.Kind.Drop x p v).live ≡ v.live
drop_else x p v n = live_else (p == 0) (p == x.right.page) false (lowered x v) free v v (ne_eqb p x.right.page n) refl refl

drop_there : (x : records.Record) (p : ℕ) (v : Node) → (p ≡ 0 → ⊥) → p ≡ x.right.page → (records.applied_as records.Kind.Drop x p v).live ≡ false
drop_there x p v n e = free_there (p == 0) (p == x.right.page) (lowered x v) v (ne_eqb p 0 n) (eq-eqb p x.right.page e)

purge_else : (x : records.Record) (p : ℕ) (v : Node) → (records.applied_as records.Kind.Purge x p v).live ≡ v.live
purge_else x p v = live_else (p == x.left.page) false false (cleared x v) v v v refl refl refl

-- ## What a join and a drop need

pub record IsJoinIn (g : Opening) (n : ℕ → Node) (l r q : ℕ) : Type 0 where
  pub below : q < g.format.pages
  pub left : (z : Span) × Names (n q) z × (z.child ≡ l)
  pub right : (z : Span) × Names (n q) z × (z.child ≡ r)
  pub beside : (n l).high ≡ (n r).low
  pub room : length (n l).pairs + length (n r).pairs ≤ g.joined

pub join_in : (g : Opening) (s : State) (w l r q : ℕ) → may g s (Event.Join w l r q) ≡ true → IsJoinIn g (nodes_of s) l r q
join_in g s w l r q m =
    let n = nodes_of s in
    let p0 = and_parts (s.worker w).is_open (may_join g n l r q) (and_parts (are_hot s (l ∷ r ∷ q ∷ [])) (needs g s (Event.Join w l r q)) m).1 in
    let p1 = and_parts (ltb q g.format.pages) (names_page (n q) l && (names_page (n q) r && (((n l).high == (n r).low) && leb (length (n l).pairs + length (n r).pairs) g.joined))) p0.1 in
    let p2 = and_parts (names_page (n q) l) (names_page (n q) r && (((n l).high == (n r).low) && leb (length (n l).pairs + length (n r).pairs) g.joined)) p1.1 in
    let p3 = and_parts (names_page (n q) r) (((n l).high == (n r).low) && leb (length (n l).pairs + length (n r).pairs) g.joined) p2.1 in
    let p4 = and_parts ((n l).high == (n r).low) (leb (length (n l).pairs + length (n r).pairs) g.joined) p3.1 in
    record { below = ltb-true q g.format.pages p1.0; left = names_to (n q) l p2.0; right = names_to (n q) r p3.0; beside = eqb-true (n l).high (n r).low p4.0; room = leb-true (length (n l).pairs + length (n r).pairs) g.joined p4.1 }

-- the root has one pair, of this child
single_is : (xs : List Pair) (c : ℕ) → is_single xs c ≡ true → (x : Pair) × (xs ≡ x ∷ []) × (x.word ≡ c)
single_is [] c e = absurd (true≢false (sym e))
single_is (x ∷ []) c e = (x, refl, eqb-true x.word c (and_parts (x.word == c) true e).0)
single_is (x ∷ y ∷ ys) c e = absurd (true≢false (sym (and_parts (x.word == c) false e).1))

root_names : (v : Node) (c : ℕ) → v.live ≡ true → 0 < v.level → is_single v.pairs c ≡ true → (z : Span) × Names v z × (z.child ≡ c)
root_names v c live inner e =
    let x = single_is v.pairs c e in
    (record { child = x.0.word; low = x.0.key; high = v.high }, record { live = live; inner = inner; has = subst (λ (ys : List Pair). Has (record { child = x.0.word; low = x.0.key; high = v.high }) (spans ys v.high)) (sym x.1) (inl refl) }, x.2)

module _ (g : Opening) (s : State) where
  abbrev n : ℕ → Node
  n = nodes_of s

  module _ (t : IsTree g.format n) where
    pub join_frees : (w l r q : ℕ) → may g s (Event.Join w l r q) ≡ true → free_list g (happens g s (Event.Join w l r q)) ≡ put_in r (free_list g s)
    join_frees w l r q m = frees_more n (nodes_of (happens g s (Event.Join w l r q))) r g.format.pages 0 (omega arith) within live off (λ p d. entered_same s w a x a.changes p (join_else y p (n p) d))
      where
        y : records.Record
        y = join_record n (gsns_of s) l r q

        a : Worker
        a = at_pages s w (s.worker w) (l ∷ r ∷ q ∷ [])

        x : Entry
        x = page_entry Kind.Join s w a (l ∷ r ∷ q ∷ []) y

        j : IsJoinIn g n l r q
        j = join_in g s w l r q m

        within : r < 0 + g.format.pages
        within = let b = (child_page g.format n t q j.right.0 j.below j.right.1).1 in let e = j.right.2 in omega arith

        live : (n r).live ≡ true
        live = subst (λ (i : ℕ). (n i).live ≡ true) j.right.2 (t.down q j.below j.right.0 j.right.1).live

        -- the one ends where the other begins, and neither is empty
        apart : r ≡ l → ⊥
        apart e =
            let f = span_fences g.format n t q j.right.0 j.below j.right.1 in let f1 = f.1 in
            let d = t.down q j.below j.right.0 j.right.1 in let d0 = d.low in let d1 = d.high in
            let c = j.right.2 in
            let low = ap (λ (i : ℕ). (n i).low) c in let high = ap (λ (i : ℕ). (n i).high) c in
            let same = ap (λ (i : ℕ). (n i).high) e in let b = j.beside in omega arith

        off : (nodes_of (happens g s (Event.Join w l r q)) r).live ≡ false
        off = entered_free s w a x a.changes r (or_right (l == r) ((r == r) || ((q == r) || false)) (or_left (r == r) ((q == r) || false) (eq-eqb r r refl))) (join_there y r (n r) apart refl)

    pub drop_frees : (w c : ℕ) → may g s (Event.Drop w c) ≡ true → free_list g (happens g s (Event.Drop w c)) ≡ put_in c (free_list g s)
    drop_frees w c m = frees_more n (nodes_of (happens g s (Event.Drop w c))) c g.format.pages 0 (omega arith) within live off (λ p d. entered_same s w a x a.changes p (drop_else y p (n p) d))
      where
        y : records.Record
        y = drop_record n (gsns_of s) c

        a : Worker
        a = at_pages s w (s.worker w) (0 ∷ c ∷ [])

        x : Entry
        x = page_entry Kind.Drop s w a (0 ∷ c ∷ []) y

        m0 : (ltb 0 (n 0).level ≡ true) × (is_single (n 0).pairs c ≡ true)
        m0 = and_parts (ltb 0 (n 0).level) (is_single (n 0).pairs c) (and_parts (s.worker w).is_open (may_drop n c) (and_parts (are_hot s (0 ∷ c ∷ [])) (needs g s (Event.Drop w c)) m).1).1

        named : (z : Span) × Names (n 0) z × (z.child ≡ c)
        named = root_names (n 0) c t.root.0 (ltb-true 0 (n 0).level m0.0) m0.1

        within : c < 0 + g.format.pages
        within = let b = (child_page g.format n t 0 named.0 t.some named.1).1 in let e = named.2 in omega arith

        live : (n c).live ≡ true
        live = subst (λ (i : ℕ). (n i).live ≡ true) named.2 (t.down 0 t.some named.0 named.1).live

        apart : c ≡ 0 → ⊥
        apart e = let d = (t.down 0 t.some named.0 named.1).level in let b = ap (λ (i : ℕ). (n i).level) (named.2 ∙ e) in omega arith

        off : (nodes_of (happens g s (Event.Drop w c)) c).live ≡ false
        off = entered_free s w a x a.changes c (or_right (0 == c) ((c == c) || false) (or_left (c == c) false (eq-eqb c c refl))) (drop_there y c (n c) apart refl)

  pub purge_frees : (w p : ℕ) (keys : List ℕ) → free_list g (happens g s (Event.Purge w p keys)) ≡ free_list g s
  purge_frees w p keys = frees_same n (nodes_of (happens g s (Event.Purge w p keys))) g.format.pages 0 (λ j _. entered_same s w a x a.changes j (purge_else x.record_of j (n j)))
    where
      a : Worker
      a = at_pages s w (s.worker w) (p ∷ [])

      x : Entry
      x = page_entry Kind.Purge s w a (p ∷ []) (purge_record (gsns_of s) p keys)

pub every_freed : EveryFreed
every_freed g s = record { purge = purge_frees g s; join = λ t. join_frees g s t; drop = λ t. drop_frees g s t; one_more = one_more }
