-- Which nodes of a key's way are full, and which pages are free.
use Rattle.std.proofs.Common.{◌≡◌, ◌⊎◌, ◌<◌, ◌≤◌, ◌+◌, ℕ, zero, suc, Bool, true, false, cond, ◌&&◌, ◌||◌, not, leb, ltb, ◌==◌, List, [], ◌∷◌, length, refl, sym, ap, ◌∙◌, subst, inl, inr, arith, true≢false}
use Rattle.std.proofs.lemmas.Bool.{cases_eq, cases_lt, eq-eqb, ne_eqb, eqb-true, and_parts, and_from, or_cases, or_left, or_right, leb-true, ltb-true, le-leb, lt-ltb, cond-true, cond-false, not-true, false_from_ne_true}
use Rattle.map_model.specs.Lists.{Has}
use Rattle.page_model.specs.Check.{some_below, names_page}
use Rattle.page_model.specs.Nodes.{Node, covers}
use Rattle.page_model.specs.Pairs.{put, below}
use Rattle.page_model.specs.Records as records
use Rattle.page_model.specs.Needs.{split_record, lift_record}
use Rattle.page_model.specs.Tree.{IsTree}
use Rattle.page_model.proofs.Tree.{Lies, ok, one, tall, span_fences}
use Rattle.core_crash.specs.image_model.Entries.{Kind, Entry, applied_as, touches, written}
use Rattle.core_crash.specs.core_state.Openings.{Opening}
use Rattle.core_crash.specs.core_state.States.{State, Worker, nodes_of, gsns_of}
use Rattle.core_crash.specs.core_state.Events.{Event}
use Rattle.core_crash.specs.core_state.Needs.{may, may_split, may_lift, needs, are_hot}
use Rattle.core_crash.specs.core_state.Steps.{at_pages, page_entry, write_entry, records_in, happens}
use Rattle.core_crash.proofs.core_commit.Events.{names_to}
use Rattle.core_calls.specs.Room.{is_full_at, full_from, full_run, frees_from, free_list, IsWay, EveryRoom}

-- ## The nodes of the way

lies_to : (v : Node) (k : ℕ) → covers v k ≡ true → Lies v k
lies_to v k h =
    let a = and_parts v.live (leb v.low k && ltb k v.high) h in
    let b = and_parts (leb v.low k) (ltb k v.high) a.1 in
    record { live = a.0; low = leb-true v.low k b.0; high = ltb-true k v.high b.1 }

lies_from : (v : Node) (k : ℕ) → Lies v k → covers v k ≡ true
lies_from v k c = and_from v.live (leb v.low k && ltb k v.high) c.live (and_from (leb v.low k) (ltb k v.high) (le-leb v.low k c.low) (lt-ltb k v.high c.high))

below_has : (n : ℕ) (p : ℕ → Bool) → some_below n p ≡ true → (i : ℕ) × (i < n) × (p i ≡ true)
below_has zero p h = absurd (true≢false (sym h))
below_has (suc n) p h = elim (or_cases (p n) (some_below n p) h) [ inl e ↦ (n, omega arith, e) | inr e ↦ let r = below_has n p e in (r.0, (let l = r.1 in omega arith), r.2) ]

has_below : (n : ℕ) (p : ℕ → Bool) (i : ℕ) → i < n → p i ≡ true → some_below n p ≡ true
has_below zero p i l e = absurd (omega arith)
has_below (suc n) p i l e = go (has_below n p i) (cases_eq i n)
  where
    go : (i < n → p i ≡ true → some_below n p ≡ true) → (i ≡ n) ⊎ (i ≡ n → ⊥) → some_below (suc n) p ≡ true
    go ih (inl q) = or_left (p n) (some_below n p) (ap p (sym q) ∙ e)
    go ih (inr q) = or_right (p n) (some_below n p) (ih (omega arith) e)

-- The run is as long as the levels from this one up are full.
from_exact : (g : Opening) (s : State) (k d n l : ℕ) → ((i : ℕ) → l ≤ i → i < l + n → is_full_at g s k i ≡ true) → ((i : ℕ) → i ≡ l + n → n < d → is_full_at g s k i ≡ false) → n ≤ d → full_from g s k d l ≡ n
from_exact g s k zero n l full next le = omega arith
from_exact g s k (suc d) zero l full next le = cond-false (is_full_at g s k l) (suc (full_from g s k d (suc l))) 0 (next l (omega arith) (omega arith))
from_exact g s k (suc d) (suc n) l full next le =
    cond-true (is_full_at g s k l) (suc (full_from g s k d (suc l))) 0 (full l (omega arith) (omega arith))
    ∙ ap suc (from_exact g s k d n (suc l) (λ i a b. full i (omega arith) (omega arith)) (λ i e b. next i (omega arith) (omega arith)) (omega arith))

module _ (g : Opening) (s : State) (k : ℕ) (t : IsTree g.format (nodes_of s)) where
  -- a node of this level on the way, that is full
  full_at : (p l : ℕ) → p < g.format.pages → covers (nodes_of s p) k ≡ true → (nodes_of s p).level ≡ l → length (nodes_of s p).pairs ≡ g.format.room → is_full_at g s k l ≡ true
  full_at p l lt c e f =
      has_below g.format.pages (λ p. covers (s.page p).node k && (((s.page p).node.level == l) && (length (s.page p).node.pairs == g.format.room))) p lt
      (and_from (covers (nodes_of s p) k) (((nodes_of s p).level == l) && (length (nodes_of s p).pairs == g.format.room)) c
      (and_from ((nodes_of s p).level == l) (length (nodes_of s p).pairs == g.format.room) (eq-eqb (nodes_of s p).level l e) (eq-eqb (length (nodes_of s p).pairs) g.format.room f)))

  -- what is full at a level is a node of the way
  at_full : (l : ℕ) → is_full_at g s k l ≡ true → (p : ℕ) × (p < g.format.pages) × Lies (nodes_of s p) k × ((nodes_of s p).level ≡ l) × (length (nodes_of s p).pairs ≡ g.format.room)
  at_full l h =
      let q = below_has g.format.pages (λ p. covers (s.page p).node k && (((s.page p).node.level == l) && (length (s.page p).node.pairs == g.format.room))) h in
      let a = and_parts (covers (nodes_of s q.0) k) (((nodes_of s q.0).level == l) && (length (nodes_of s q.0).pairs == g.format.room)) q.2 in
      let b = and_parts ((nodes_of s q.0).level == l) (length (nodes_of s q.0).pairs == g.format.room) a.1 in
      (q.0, q.1, lies_to (nodes_of s q.0) k a.0, eqb-true (nodes_of s q.0).level l b.0, eqb-true (length (nodes_of s q.0).pairs) g.format.room b.1)

  -- the one node of the level is not full
  not_full : (p l : ℕ) → p < g.format.pages → covers (nodes_of s p) k ≡ true → (nodes_of s p).level ≡ l → (length (nodes_of s p).pairs ≡ g.format.room → ⊥) → is_full_at g s k l ≡ false
  not_full p l lt c e f = false_from_ne_true (is_full_at g s k l) (λ h.
      let q = at_full l h in
      let same = one g.format (nodes_of s) t p q.0 k lt q.1 (lies_to (nodes_of s p) k c) q.2 (e ∙ sym q.3) in
      f (ap (λ (i : ℕ). length (nodes_of s i).pairs) same ∙ q.4))

  -- no node lies above the root
  none_above : (l : ℕ) → (nodes_of s 0).level < l → is_full_at g s k l ≡ false
  none_above l lt = false_from_ne_true (is_full_at g s k l) (λ h.
      let q = at_full l h in
      let e = q.3 in
      let low = tall g.format (nodes_of s) t q.0 q.1 q.2.live in
      omega arith)

  run_is : (h : ℕ) (page : ℕ → ℕ) → IsWay g s k h page → (n : ℕ) → n ≤ suc h → ((l : ℕ) → l < n → length (s.page (page l)).node.pairs ≡ g.format.room) →
      (n ≤ h → length (s.page (page n)).node.pairs ≡ g.format.room → ⊥) → full_run g s k ≡ n
  run_is h page way n le full stop = from_exact g s k (suc g.format.levels) n 0
      (λ i a b. full_at (page i) i (way.below i (omega arith)) (way.covers i (omega arith)) (way.level i (omega arith)) (full i (omega arith)))
      next (let r = way.root in let u = (ok g.format (nodes_of s) t 0 t.some t.root.0).tall in omega arith)
    where
      at_n : (n ≤ h) ⊎ (h < n) → is_full_at g s k n ≡ false
      at_n (inl b) = not_full (page n) n (way.below n b) (way.covers n b) (way.level n b) (stop b)
      at_n (inr b) = let r = way.root in none_above n (omega arith)

      next : (i : ℕ) → i ≡ 0 + n → n < suc g.format.levels → is_full_at g s k i ≡ false
      next i e _ = let same : n ≡ i = omega arith in subst (λ (j : ℕ). is_full_at g s k j ≡ false) same (at_n (elim (cases_lt h n) [ inl b ↦ inr b | inr b ↦ inl b ]))

-- ## Free pages

has_free : (node : ℕ → Node) (n a p : ℕ) → Has p (frees_from node n a) → (a ≤ p) × (p < a + n) × ((node p).live ≡ false)
has_free node zero a p h = absurd h
has_free node (suc n) a p h = go (has_free node n (suc a) p) (node a).live refl h
  where
    go : (Has p (frees_from node n (suc a)) → (suc a ≤ p) × (p < suc a + n) × ((node p).live ≡ false)) → (b : Bool) → (node a).live ≡ b → Has p (cond b (frees_from node n (suc a)) (a ∷ frees_from node n (suc a))) →
        (a ≤ p) × (p < a + suc n) × ((node p).live ≡ false)
    go ih true e h = let q = ih h in let low = q.0 in let high = q.1 in (omega arith, omega arith, q.2)
    go ih false e (inl i) = (omega arith, omega arith, ap (λ (j : ℕ). (node j).live) i ∙ e)
    go ih false e (inr h) = let q = ih h in let low = q.0 in let high = q.1 in (omega arith, omega arith, q.2)

free_has : (node : ℕ → Node) (n a p : ℕ) → a ≤ p → p < a + n → (node p).live ≡ false → Has p (frees_from node n a)
free_has node zero a p low high e = absurd (omega arith)
free_has node (suc n) a p low high e = go (free_has node n (suc a) p) (cases_eq p a) (node a).live refl
  where
    go : (suc a ≤ p → p < suc a + n → (node p).live ≡ false → Has p (frees_from node n (suc a))) → (p ≡ a) ⊎ (p ≡ a → ⊥) → (b : Bool) → (node a).live ≡ b → Has p (cond b (frees_from node n (suc a)) (a ∷ frees_from node n (suc a)))
    go ih (inl q) true x = absurd (true≢false (sym x ∙ (ap (λ (j : ℕ). (node j).live) (sym q) ∙ e)))
    go ih (inl q) false x = inl q
    go ih (inr q) true x = ih (omega arith) (omega arith) e
    go ih (inr q) false x = inr (ih (omega arith) (omega arith) e)

-- the pages from here on are live as they were
frees_same : (node other : ℕ → Node) (n a : ℕ) → ((p : ℕ) → a ≤ p → (other p).live ≡ (node p).live) → frees_from other n a ≡ frees_from node n a
frees_same node other zero a h = refl
frees_same node other (suc n) a h =
    ap (λ (b : Bool). cond b (frees_from other n (suc a)) (a ∷ frees_from other n (suc a))) (h a (omega arith))
    ∙ ap (λ (l : List ℕ). cond (node a).live l (a ∷ l)) (frees_same node other n (suc a) (λ p l. h p (omega arith)))

abbrev first : List ℕ → ℕ
first [] = 0
first (x ∷ xs) = x

abbrev behind_first : List ℕ → List ℕ
behind_first [] = []
behind_first (x ∷ xs) = xs

-- The least free page is taken, and no other.
frees_taken : (node other : ℕ → Node) (r n a : ℕ) (rest : List ℕ) → (other r).live ≡ true → ((p : ℕ) → (p ≡ r → ⊥) → (other p).live ≡ (node p).live) → frees_from node n a ≡ r ∷ rest → frees_from other n a ≡ rest
frees_taken node other r zero a rest on off e = let q = ap (λ (l : List ℕ). length l) e in absurd (omega arith)
frees_taken node other r (suc n) a rest on off e = go (λ x. frees_taken node other r n (suc a) rest on off x) (node a).live refl e
  where
    is_live : ((a ≡ r → ⊥) → (node a).live ≡ true) → (other a).live ≡ true
    is_live was = elim (cases_eq a r) [ inl q ↦ ap (λ (j : ℕ). (other j).live) q ∙ on | inr q ↦ off a q ∙ was q ]

    go : (frees_from node n (suc a) ≡ r ∷ rest → frees_from other n (suc a) ≡ rest) → (b : Bool) → (node a).live ≡ b → cond b (frees_from node n (suc a)) (a ∷ frees_from node n (suc a)) ≡ r ∷ rest →
        cond (other a).live (frees_from other n (suc a)) (a ∷ frees_from other n (suc a)) ≡ rest
    go ih true x e = cond-true (other a).live (frees_from other n (suc a)) (a ∷ frees_from other n (suc a)) (is_live (λ q. x)) ∙ ih e
    go ih false x e =
        let is : a ≡ r = ap (λ (l : List ℕ). first l) e in
        cond-true (other a).live (frees_from other n (suc a)) (a ∷ frees_from other n (suc a)) (is_live (λ q. absurd (q is)))
        ∙ (frees_same node other n (suc a) (λ p l. off p (λ q. omega arith)) ∙ ap (λ (l : List ℕ). behind_first l) e)

-- ## Events

-- a page that the record leaves live, or free
entered_same : (s : State) (w : ℕ) (a : Worker) (r : Entry) (cs : List Entry) (p : ℕ) → (applied_as r.kind r p (nodes_of s p)).live ≡ (nodes_of s p).live → (nodes_of (records_in s w a r cs) p).live ≡ (nodes_of s p).live
entered_same s w a r cs p e = go (touches p r)
  where
    go : (b : Bool) → (cond b (written r p (s.page p)) (s.page p)).node.live ≡ (nodes_of s p).live
    go true = e
    go false = refl

-- a page that it makes live
entered_live : (s : State) (w : ℕ) (a : Worker) (r : Entry) (cs : List Entry) (p : ℕ) → touches p r ≡ true → (applied_as r.kind r p (nodes_of s p)).live ≡ true → (nodes_of (records_in s w a r cs) p).live ≡ true
entered_live s w a r cs p on e = go (touches p r) on
  where
    go : (b : Bool) → b ≡ true → (cond b (written r p (s.page p)) (s.page p)).node.live ≡ true
    go true q = e
    go false q = absurd (true≢false (sym q))

-- of three pages, the second alone is made live
live_else : (a b c : Bool) (x y z v : Node) → b ≡ false → x.live ≡ v.live → z.live ≡ v.live → (cond a x (cond b y (cond c z v))).live ≡ v.live
live_else true b c x y z v q e f = e
live_else false true c x y z v q e f = absurd (true≢false q)
live_else false false true x y z v q e f = f
live_else false false false x y z v q e f = refl

live_there : (a b : Bool) (x y z : Node) → a ≡ false → b ≡ true → y.live ≡ true → (cond a x (cond b y z)).live ≡ true
live_there true b x y z p q e = absurd (true≢false p)
live_there false false x y z p q e = absurd (true≢false (sym q))
live_there false true x y z p q e = e

-- the pages of a split, of a lift and of a change
abbrev left_part : records.Record → Node → Node
left_part x v = record { live = v.live; level = v.level; low = v.low; high = x.sep; pairs = below x.sep v.pairs }

abbrev right_part : records.Record → Node
right_part x = record { live = true; level = x.level; low = x.sep; high = x.high; pairs = x.pairs }

abbrev above_both : records.Record → Node → Node
above_both x v = record { live = v.live; level = v.level; low = v.low; high = v.high; pairs = put x.sep x.right.page v.pairs }

abbrev new_root : records.Record → Node → Node
new_root x v = record { live = v.live; level = suc x.level; low = v.low; high = v.high; pairs = record { key = 0; word = x.right.page } ∷ [] }

abbrev old_root : records.Record → Node
old_root x = record { live = true; level = x.level; low = 0; high = x.high; pairs = x.pairs }

abbrev changed : records.Record → Node → Node
changed x v = record { live = v.live; level = v.level; low = v.low; high = v.high; pairs = put x.key x.after v.pairs }

split_else : (x : records.Record) (p : ℕ) (v : Node) → (p ≡ x.right.page → ⊥) → (records.applied_as records.Kind.Split x p v).live ≡ v.live
split_else x p v n = live_else (p == x.left.page) (p == x.right.page) (p == x.parent.page) (left_part x v) (right_part x) (above_both x v) v (ne_eqb p x.right.page n) refl refl

split_there : (x : records.Record) (p : ℕ) (v : Node) → (p ≡ x.left.page → ⊥) → p ≡ x.right.page → (records.applied_as records.Kind.Split x p v).live ≡ true
split_there x p v n e = live_there (p == x.left.page) (p == x.right.page) (left_part x v) (right_part x) (cond (p == x.parent.page) (above_both x v) v) (ne_eqb p x.left.page n) (eq-eqb p x.right.page e) refl

lift_else : (x : records.Record) (p : ℕ) (v : Node) → (p ≡ x.right.page → ⊥) → (records.applied_as records.Kind.Lift x p v).live ≡ v.live
lift_else x p v n = live_else (p == 0) (p == x.right.page) false (new_root x v) (old_root x) v v (ne_eqb p x.right.page n) refl refl

lift_there : (x : records.Record) (p : ℕ) (v : Node) → (p ≡ 0 → ⊥) → p ≡ x.right.page → (records.applied_as records.Kind.Lift x p v).live ≡ true
lift_there x p v n e = live_there (p == 0) (p == x.right.page) (new_root x v) (old_root x) v (ne_eqb p 0 n) (eq-eqb p x.right.page e) refl

change_else : (x : records.Record) (p : ℕ) (v : Node) → (records.applied_as records.Kind.Change x p v).live ≡ v.live
change_else x p v = live_else (p == x.left.page) false false (changed x v) v v v refl refl refl

module _ (g : Opening) (s : State) where
  -- the new right page was free, and the left one is live
  split_takes : IsTree g.format (nodes_of s) → (w l r q i : ℕ) (rest : List ℕ) → may g s (Event.Split w l r q i) ≡ true → free_list g s ≡ r ∷ rest → free_list g (happens g s (Event.Split w l r q i)) ≡ rest
  split_takes t w l r q i rest m e = frees_taken (nodes_of s) (nodes_of (happens g s (Event.Split w l r q i))) r g.format.pages 0 rest on (λ p d. entered_same s w a x a.changes p (split_else y p (nodes_of s p) d)) e
    where
      n : ℕ → Node
      n = nodes_of s

      y : records.Record
      y = split_record n (gsns_of s) l r q i

      a : Worker
      a = at_pages s w (s.worker w) (l ∷ r ∷ q ∷ [])

      x : Entry
      x = page_entry Kind.Split s w a (l ∷ r ∷ q ∷ []) y

      m0 : may_split g n l r q i ≡ true
      m0 = (and_parts (s.worker w).is_open (may_split g n l r q i) (and_parts (are_hot s (l ∷ r ∷ q ∷ [])) (needs g s (Event.Split w l r q i)) m).1).1

      m1 : (ltb r g.format.pages && (not (n r).live && (ltb q g.format.pages && (names_page (n q) l && (ltb (length (n q).pairs) g.format.room && (ltb 0 i && ltb i (length (n l).pairs))))))) ≡ true
      m1 = (and_parts (length (n l).pairs == g.format.room) (ltb r g.format.pages && (not (n r).live && (ltb q g.format.pages && (names_page (n q) l && (ltb (length (n q).pairs) g.format.room && (ltb 0 i && ltb i (length (n l).pairs))))))) m0).1

      m2 : (not (n r).live ≡ true) × ((ltb q g.format.pages && (names_page (n q) l && (ltb (length (n q).pairs) g.format.room && (ltb 0 i && ltb i (length (n l).pairs))))) ≡ true)
      m2 = and_parts (not (n r).live) (ltb q g.format.pages && (names_page (n q) l && (ltb (length (n q).pairs) g.format.room && (ltb 0 i && ltb i (length (n l).pairs)))))
          (and_parts (ltb r g.format.pages) (not (n r).live && (ltb q g.format.pages && (names_page (n q) l && (ltb (length (n q).pairs) g.format.room && (ltb 0 i && ltb i (length (n l).pairs)))))) m1).1

      m3 : (ltb q g.format.pages ≡ true) × ((names_page (n q) l && (ltb (length (n q).pairs) g.format.room && (ltb 0 i && ltb i (length (n l).pairs)))) ≡ true)
      m3 = and_parts (ltb q g.format.pages) (names_page (n q) l && (ltb (length (n q).pairs) g.format.room && (ltb 0 i && ltb i (length (n l).pairs)))) m2.1

      l_live : (n l).live ≡ true
      l_live =
          let z = names_to (n q) l (and_parts (names_page (n q) l) (ltb (length (n q).pairs) g.format.room && (ltb 0 i && ltb i (length (n l).pairs))) m3.1).0 in
          subst (λ (j : ℕ). (n j).live ≡ true) z.2 (t.down q (ltb-true q g.format.pages m3.0) z.0 z.1).live

      apart : r ≡ l → ⊥
      apart z = true≢false (sym l_live ∙ (ap (λ (j : ℕ). (n j).live) (sym z) ∙ not-true (n r).live m2.0))

      on : (nodes_of (happens g s (Event.Split w l r q i)) r).live ≡ true
      on = entered_live s w a x a.changes r (or_right (l == r) ((r == r) || ((q == r) || false)) (or_left (r == r) ((q == r) || false) (eq-eqb r r refl))) (split_there y r (n r) apart refl)

  -- the root's new child was free, and the root is live
  lift_takes : IsTree g.format (nodes_of s) → (w c : ℕ) (rest : List ℕ) → may g s (Event.Lift w c) ≡ true → free_list g s ≡ c ∷ rest → free_list g (happens g s (Event.Lift w c)) ≡ rest
  lift_takes t w c rest m e = frees_taken (nodes_of s) (nodes_of (happens g s (Event.Lift w c))) c g.format.pages 0 rest on (λ p d. entered_same s w a x a.changes p (lift_else y p (nodes_of s p) d)) e
    where
      n : ℕ → Node
      n = nodes_of s

      y : records.Record
      y = lift_record n (gsns_of s) c

      a : Worker
      a = at_pages s w (s.worker w) (0 ∷ c ∷ [])

      x : Entry
      x = page_entry Kind.Lift s w a (0 ∷ c ∷ []) y

      m0 : may_lift g n c ≡ true
      m0 = (and_parts (s.worker w).is_open (may_lift g n c) (and_parts (are_hot s (0 ∷ c ∷ [])) (needs g s (Event.Lift w c)) m).1).1

      m1 : (ltb c g.format.pages && (not (n c).live && ltb (n 0).level g.format.levels)) ≡ true
      m1 = (and_parts (length (n 0).pairs == g.format.room) (ltb c g.format.pages && (not (n c).live && ltb (n 0).level g.format.levels)) m0).1

      m2 : not (n c).live ≡ true
      m2 = (and_parts (not (n c).live) (ltb (n 0).level g.format.levels) (and_parts (ltb c g.format.pages) (not (n c).live && ltb (n 0).level g.format.levels) m1).1).0

      apart : c ≡ 0 → ⊥
      apart z = true≢false (sym t.root.0 ∙ (ap (λ (j : ℕ). (n j).live) (sym z) ∙ not-true (n c).live m2))

      on : (nodes_of (happens g s (Event.Lift w c)) c).live ≡ true
      on = entered_live s w a x a.changes c (or_right (0 == c) ((c == c) || false) (or_left (c == c) false (eq-eqb c c refl))) (lift_there y c (n c) apart refl)

  change_takes : (w p key v : ℕ) → may g s (Event.Change w p key v) ≡ true → free_list g (happens g s (Event.Change w p key v)) ≡ free_list g s
  change_takes w p key v m = frees_same (nodes_of s) (nodes_of (happens g s (Event.Change w p key v))) g.format.pages 0 (λ j _. entered_same s w a x (x ∷ (s.worker w).changes) j (change_else x.record_of j (nodes_of s j)))
    where
      a : Worker
      a = at_pages s w (s.worker w) (p ∷ [])

      x : Entry
      x = write_entry g Kind.Change s w a p key v

pub every_room : EveryRoom
every_room g s k = record {
  parent = λ t q l z n low high.
      let c = t.down q l z n in let c0 = c.low in let c1 = c.high in
      let f = span_fences g.format (nodes_of s) t q z l n in let f0 = f.0 in let f2 = f.2 in
      (lies_from (nodes_of s q) k (record { live = n.live; low = omega arith; high = omega arith }), lies_from (nodes_of s z.child) k (record { live = c.live; low = omega arith; high = omega arith }), c.level);
  one = λ t p q lp lq cp cq e. one g.format (nodes_of s) t p q k lp lq (lies_to (nodes_of s p) k cp) (lies_to (nodes_of s q) k cq) e;
  run = λ t. run_is g s k t;
  free = λ p. (
    λ h. (let q = has_free (nodes_of s) g.format.pages 0 p h in let high = q.1 in (omega arith, q.2)),
    λ h. (let high = h.0 in free_has (nodes_of s) g.format.pages 0 p (omega arith) (omega arith) h.1),
  );
  split = split_takes g s;
  lift = lift_takes g s;
  change = change_takes g s;
  same = λ other h. frees_same (nodes_of s) (nodes_of other) g.format.pages 0 (λ p _. h p);
}
