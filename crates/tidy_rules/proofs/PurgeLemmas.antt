-- What is left of a leaf behind a purge, and that it has room.
use Rattle.std.proofs.Common.{◌≡◌, ◌<◌, ◌≤◌, ◌+◌, ℕ, zero, suc, Bool, true, false, cond, ◌&&◌, ◌||◌, not, leb, ltb, ◌==◌, List, [], ◌∷◌, length, refl, sym, ap, ◌∙◌, inl, inr, arith, true≢false}
use Rattle.std.proofs.lemmas.Bool.{eq-eqb, ne_eqb, eqb-true, and_parts, or_cases, leb-true, ltb-true, le-ltb, cond-true, cond-false, false_from_ne_true}
use Rattle.page_model.specs.Check.{some_below}
use Rattle.page_model.specs.Needs.{purge_record}
use Rattle.page_model.specs.Nodes.{Node, covers, holds, is_leaf}
use Rattle.page_model.specs.Pairs.{Has, Pair, Rising, is_in, keep}
use Rattle.page_model.specs.Redo.{has_key}
use Rattle.page_model.specs.Tree.{IsTree}
use Rattle.page_model.proofs.Tree.{Lies, ok, one}
use Rattle.core_commit.specs.core_state.image_model.Entries.{Contents, Entry, Kind, touches, written}
use Rattle.core_commit.specs.core_state.Events.{Event}
use Rattle.core_commit.specs.core_state.Needs.{are_hot, is_settled, may, may_purge, needs}
use Rattle.core_commit.specs.core_state.Openings.{Opening}
use Rattle.core_commit.specs.core_state.States.{State, Worker, gsns_of, nodes_of}
use Rattle.core_commit.specs.core_state.Steps.{at_pages, happens, page_entry}
use Rattle.core_calls.specs.Room.{full_from, full_run, is_all_full, is_full_at}
use Rattle.tidy_rules.specs.Growth.{is_full_for}
use Rattle.tidy_rules.specs.Laws.{EveryPurged, IsRoomMade, gone, purged}
use Rattle.tidy_rules.specs.Purges.{purgeable}
use Rattle.tidy_rules.specs.Rooms.{IsNextRoom}

-- ## Lists of pairs

-- a pair of this list can go
abbrev pub goes : Opening → State → Pair → Bool
goes g s x = (x.word == g.format.dead) && is_settled g s x.key

-- what remains of pairs where these keys are taken out
abbrev rest : List ℕ → List Pair → List Pair
rest keys = keep (λ k. not (is_in k keys))

module _ (g : Opening) (s : State) where
  -- a key below all pairs does not go
  pub below_none : (a : ℕ) (xs : List Pair) (b k : ℕ) → Rising a xs b → k < a → is_in k (purgeable g s xs) ≡ false
  below_none a [] b k r lt = refl
  below_none a (x ∷ xs) b k r lt = go (goes g s x) (below_none (suc x.key) xs b k r.1 (let low = r.0 in omega arith))
    where
      go : (c : Bool) → is_in k (purgeable g s xs) ≡ false → is_in k (cond c (x.key ∷ purgeable g s xs) (purgeable g s xs)) ≡ false
      go true ih = cond-false (x.key == k) true (is_in k (purgeable g s xs)) (ne_eqb x.key k (λ e. let low = r.0 in omega arith)) ∙ ih
      go false ih = ih

  -- the key of a pair goes where the pair can, and only there
  goes_just : (a : ℕ) (xs : List Pair) (b : ℕ) → Rising a xs b → (x : Pair) → Has x xs → is_in x.key (purgeable g s xs) ≡ goes g s x
  goes_just a [] b r x h = absurd h
  goes_just a (y ∷ ys) b r x (inl e) = ap (λ (z : Pair). is_in z.key (purgeable g s (y ∷ ys))) e ∙ (go (goes g s y) ∙ ap (goes g s) (sym e))
    where
      go : (c : Bool) → is_in y.key (cond c (y.key ∷ purgeable g s ys) (purgeable g s ys)) ≡ c
      go true = cond-true (y.key == y.key) true (is_in y.key (purgeable g s ys)) (eq-eqb y.key y.key refl)
      go false = below_none (suc y.key) ys b y.key r.1 (omega arith)
  goes_just a (y ∷ ys) b r x (inr h) = go (goes g s y) (goes_just (suc y.key) ys b r.1 x h)
    where
      go : (c : Bool) → is_in x.key (purgeable g s ys) ≡ goes g s x → is_in x.key (cond c (y.key ∷ purgeable g s ys) (purgeable g s ys)) ≡ goes g s x
      go true ih = cond-false (y.key == x.key) true (is_in x.key (purgeable g s ys)) (ne_eqb y.key x.key (λ e. let q = (rising_above (suc y.key) ys b x r.1 h) in omega arith)) ∙ ih
        where
          rising_above : (a : ℕ) (xs : List Pair) (b : ℕ) (x : Pair) → Rising a xs b → Has x xs → a ≤ x.key
          rising_above a [] b x r h = absurd h
          rising_above a (y ∷ ys) b x r (inl e) = let low = r.0 in let q = ap (λ (z : Pair). z.key) e in omega arith
          rising_above a (y ∷ ys) b x r (inr h) = let low = r.0 in let q = rising_above (suc y.key) ys b x r.1 h in omega arith
      go false ih = ih

  -- so as many pairs go as keys
  counts : (keys : List ℕ) (xs : List Pair) → ((x : Pair) → Has x xs → is_in x.key keys ≡ goes g s x) → length (rest keys xs) + length (purgeable g s xs) ≡ length xs
  counts keys [] h = refl
  counts keys (x ∷ xs) h = go (is_in x.key keys) (goes g s x) (h x (inl refl)) (counts keys xs (λ y m. h y (inr m)))
    where
      go : (b c : Bool) → b ≡ c → length (rest keys xs) + length (purgeable g s xs) ≡ length xs
          → length (cond (not b) (x ∷ rest keys xs) (rest keys xs)) + length (cond c (x.key ∷ purgeable g s xs) (purgeable g s xs)) ≡ suc (length xs)
      go true true e ih = omega arith
      go false false e ih = omega arith
      go true false e ih = absurd (true≢false e)
      go false true e ih = absurd (true≢false (sym e))

  -- the key of a pair that can go is among those that do
  goes_in : (xs : List Pair) (x : Pair) → Has x xs → goes g s x ≡ true → is_in x.key (purgeable g s xs) ≡ true
  goes_in [] x h e = absurd h
  goes_in (y ∷ ys) x (inl q) e =
      ap (λ (c : Bool). is_in x.key (cond c (y.key ∷ purgeable g s ys) (purgeable g s ys))) (ap (goes g s) (sym q) ∙ e)
      ∙ cond-true (y.key == x.key) true (is_in x.key (purgeable g s ys)) (eq-eqb y.key x.key (ap (λ (z : Pair). z.key) (sym q)))
  goes_in (y ∷ ys) x (inr h) e = go (goes g s y) (y.key == x.key) (goes_in ys x h e)
    where
      go : (c d : Bool) → is_in x.key (purgeable g s ys) ≡ true → is_in x.key (cond c (y.key ∷ purgeable g s ys) (purgeable g s ys)) ≡ true
      go false d ih = ih
      go true d ih = or_there (y.key == x.key) ih
        where
          or_there : (d : Bool) → is_in x.key (purgeable g s ys) ≡ true → cond d true (is_in x.key (purgeable g s ys)) ≡ true
          or_there true ih = refl
          or_there false ih = ih

  -- of what is left, none can go
  none_left : (keys : List ℕ) (xs : List Pair) → ((x : Pair) → Has x xs → goes g s x ≡ true → is_in x.key keys ≡ true) → purgeable g s (rest keys xs) ≡ []
  none_left keys [] h = refl
  none_left keys (x ∷ xs) h = go (is_in x.key keys) refl (none_left keys xs (λ y m. h y (inr m)))
    where
      stays : (b : Bool) → goes g s x ≡ b → is_in x.key keys ≡ false → purgeable g s (rest keys xs) ≡ [] → cond b (x.key ∷ purgeable g s (rest keys xs)) (purgeable g s (rest keys xs)) ≡ []
      stays true e q ih = absurd (true≢false (sym (h x (inl refl) e) ∙ q))
      stays false e q ih = ih

      go : (b : Bool) → is_in x.key keys ≡ b → purgeable g s (rest keys xs) ≡ [] → purgeable g s (cond (not b) (x ∷ rest keys xs) (rest keys xs)) ≡ []
      go true e ih = ih
      go false e ih = stays (goes g s x) refl e ih

-- where rows and flushed numbers are the same, the same keys go
goes_same : (g : Opening) (s t : State) → ((k : ℕ) → is_settled g t k ≡ is_settled g s k) → (xs : List Pair) → purgeable g t xs ≡ purgeable g s xs
goes_same g s t h [] = refl
goes_same g s t h (x ∷ xs) = λ i. cond ((x.word == g.format.dead) && h x.key i) (x.key ∷ goes_same g s t h xs i) (goes_same g s t h xs i)

-- ## The leaf

module _ (g : Opening) (s : State) (w p : ℕ) (keys : List ℕ) where
  abbrev t : State
  t = happens g s (Event.Purge w p keys)

  abbrev a : Worker
  a = at_pages s w (s.worker w) (p ∷ [])

  abbrev r : Entry
  r = page_entry Kind.Purge s w a (p ∷ []) (purge_record (gsns_of s) p keys)

  -- the leaf's pairs
  pairs_left : (nodes_of t p).pairs ≡ rest keys (nodes_of s p).pairs
  pairs_left =
      ap (λ (c : Contents). c.node.pairs) (cond-true (touches p r) (written r p (s.page p)) (s.page p) (or_self (p == p) (eq-eqb p p refl)))
      ∙ ap (λ (v : Node). v.pairs) (cond-true (p == p) (record { live = (nodes_of s p).live; level = (nodes_of s p).level; low = (nodes_of s p).low; high = (nodes_of s p).high; pairs = rest keys (nodes_of s p).pairs }) (nodes_of s p) (eq-eqb p p refl))
    where
      or_self : (b : Bool) → b ≡ true → (b || false) ≡ true
      or_self true e = refl
      or_self false e = absurd (true≢false (sym e))

  -- and everything of a page but its pairs is as it was
  fences_left : (q : ℕ) → ((nodes_of t q).live ≡ (nodes_of s q).live) × ((nodes_of t q).level ≡ (nodes_of s q).level) × ((nodes_of t q).low ≡ (nodes_of s q).low) × ((nodes_of t q).high ≡ (nodes_of s q).high)
  fences_left q = go (touches q r) (q == p)
    where
      go : (b c : Bool) →
          ((cond b (record { gsn = r.number; last = r.log; node = cond c (record { live = (nodes_of s q).live; level = (nodes_of s q).level; low = (nodes_of s q).low; high = (nodes_of s q).high; pairs = rest keys (nodes_of s q).pairs }) (nodes_of s q) }) (s.page q)).node.live ≡ (nodes_of s q).live)
          × ((cond b (record { gsn = r.number; last = r.log; node = cond c (record { live = (nodes_of s q).live; level = (nodes_of s q).level; low = (nodes_of s q).low; high = (nodes_of s q).high; pairs = rest keys (nodes_of s q).pairs }) (nodes_of s q) }) (s.page q)).node.level ≡ (nodes_of s q).level)
          × ((cond b (record { gsn = r.number; last = r.log; node = cond c (record { live = (nodes_of s q).live; level = (nodes_of s q).level; low = (nodes_of s q).low; high = (nodes_of s q).high; pairs = rest keys (nodes_of s q).pairs }) (nodes_of s q) }) (s.page q)).node.low ≡ (nodes_of s q).low)
          × ((cond b (record { gsn = r.number; last = r.log; node = cond c (record { live = (nodes_of s q).live; level = (nodes_of s q).level; low = (nodes_of s q).low; high = (nodes_of s q).high; pairs = rest keys (nodes_of s q).pairs }) (nodes_of s q) }) (s.page q)).node.high ≡ (nodes_of s q).high)
      go true true = (refl, refl, refl, refl)
      go true false = (refl, refl, refl, refl)
      go false c = (refl, refl, refl, refl)

  covers_left : (q k : ℕ) → covers (nodes_of t q) k ≡ covers (nodes_of s q) k
  covers_left q k = let f = fences_left q in λ i. f.0 i && (leb (f.2 i) k && ltb k (f.3 i))

  goes_left : (xs : List Pair) → purgeable g t xs ≡ purgeable g s xs
  goes_left xs = goes_same g s t (λ k. refl) xs

-- ## The laws

module _ (g : Opening) (s : State) where
  left : IsTree g.format (nodes_of s) → (w p : ℕ) → p < g.format.pages → (nodes_of s p).live ≡ true → length (nodes_of (purged g s w p) p).pairs + length (gone g s p) ≡ length (nodes_of s p).pairs
  left tree w p lt live =
      let v = nodes_of s p in
      ap (λ (xs : List Pair). length xs + length (gone g s p)) (pairs_left g s w p (gone g s p))
      ∙ counts g s (gone g s p) v.pairs (goes_just g s v.low v.pairs v.high (ok g.format (nodes_of s) tree p lt live).rising)

  none : (w p : ℕ) → gone g (purged g s w p) p ≡ []
  none w p =
      goes_left g s w p (gone g s p) (nodes_of (purged g s w p) p).pairs
      ∙ (ap (purgeable g s) (pairs_left g s w p (gone g s p)) ∙ none_left g s (gone g s p) (nodes_of s p).pairs (goes_in g s (nodes_of s p).pairs))

lies_to : (v : Node) (k : ℕ) → covers v k ≡ true → Lies v k
lies_to v k h =
    let a = and_parts v.live (leb v.low k && ltb k v.high) h in
    let b = and_parts (leb v.low k) (ltb k v.high) a.1 in
    record { live = a.0; low = leb-true v.low k b.0; high = ltb-true k v.high b.1 }

below_has : (n : ℕ) (p : ℕ → Bool) → some_below n p ≡ true → (i : ℕ) × (i < n) × (p i ≡ true)
below_has zero p h = absurd (true≢false (sym h))
below_has (suc n) p h = elim (or_cases (p n) (some_below n p) h) [ inl e ↦ (n, omega arith, e) | inr e ↦ let r = below_has n p e in (r.0, (let l = r.1 in omega arith), r.2) ]

module _ (g : Opening) (s : State) (tree : IsTree g.format (nodes_of s)) (own key w p : ℕ) (keys : List ℕ) (m : may g s (Event.Purge w p keys) ≡ true) (next : IsNextRoom own g s key (Event.Purge w p keys)) where
  abbrev after : State
  after = happens g s (Event.Purge w p keys)

  below : p < g.format.pages
  below =
      let p0 = and_parts (s.worker w).is_open _ (and_parts (are_hot s (p ∷ [])) (needs g s (Event.Purge w p keys)) m).1 in
      let p1 = and_parts (may_purge g (nodes_of s) p keys) _ p0.1 in
      ltb-true p g.format.pages (and_parts (ltb p g.format.pages) _ p1.0).0

  -- the key's leaf is p
  over : (is_leaf (nodes_of s p) ≡ true) × (covers (nodes_of s p) key ≡ true)
  over = and_parts (is_leaf (nodes_of s p)) (covers (nodes_of s p) key) next.2

  at_leaf : ((nodes_of s p).live ≡ true) × ((nodes_of s p).level ≡ 0)
  at_leaf = let a = and_parts (nodes_of s p).live ((nodes_of s p).level == 0) over.0 in (a.0, eqb-true (nodes_of s p).level 0 a.1)

  fewer : length (nodes_of after p).pairs < g.format.room
  fewer =
      let e = next.3 in
      let now = ap (λ (ks : List ℕ). length (nodes_of (happens g s (Event.Purge w p ks)) p).pairs) e in
      let sum = left g s tree w p below at_leaf.0 in
      let many = ap (λ (ks : List ℕ). length ks) e in
      let some = next.4 in
      let size = (ok g.format (nodes_of s) tree p below at_leaf.0).sized in
      omega arith

  -- no other leaf has the key
  one_leaf : (q : ℕ) → q < g.format.pages → covers (nodes_of after q) key ≡ true → (nodes_of after q).level ≡ 0 → q ≡ p
  one_leaf q lt c e =
      one g.format (nodes_of s) tree q p key lt below (lies_to (nodes_of s q) key (sym (covers_left g s w p keys q key) ∙ c)) (lies_to (nodes_of s p) key over.1)
      (sym (fences_left g s w p keys q).1 ∙ (e ∙ sym at_leaf.1))

  not_full : (q : ℕ) → q < g.format.pages → covers (nodes_of after q) key ≡ true → (nodes_of after q).level ≡ 0 → length (nodes_of after q).pairs ≡ g.format.room → ⊥
  not_full q lt c e f = let b = fewer in let is = ap (λ (i : ℕ). length (nodes_of after i).pairs) (one_leaf q lt c e) in omega arith

  leaf_open : is_full_at g after key 0 ≡ false
  leaf_open = false_from_ne_true (is_full_at g after key 0) (λ h.
      let q = below_has g.format.pages (λ p. covers (nodes_of after p) key && (((nodes_of after p).level == 0) && (length (nodes_of after p).pairs == g.format.room))) h in
      let a = and_parts (covers (nodes_of after q.0) key) (((nodes_of after q.0).level == 0) && (length (nodes_of after q.0).pairs == g.format.room)) q.2 in
      let b = and_parts ((nodes_of after q.0).level == 0) (length (nodes_of after q.0).pairs == g.format.room) a.1 in
      not_full q.0 q.1 a.0 (eqb-true (nodes_of after q.0).level 0 b.0) (eqb-true (length (nodes_of after q.0).pairs) g.format.room b.1))

  run_is : full_run g after key ≡ 0
  run_is = cond-false (is_full_at g after key 0) (suc (full_from g after key g.format.levels 1)) 0 leaf_open

  all_is : is_all_full g after key ≡ false
  all_is = ap (ltb (nodes_of after 0).level) run_is ∙ le-ltb (nodes_of after 0).level 0 (omega arith)

  full_is : is_full_for g after key ≡ false
  full_is = false_from_ne_true (is_full_for g after key) (λ h.
      let q = below_has g.format.pages (λ p. holds (nodes_of after p) key && ((length (nodes_of after p).pairs == g.format.room) && not (has_key key (nodes_of after p)))) h in
      let a = and_parts (holds (nodes_of after q.0) key) ((length (nodes_of after q.0).pairs == g.format.room) && not (has_key key (nodes_of after q.0))) q.2 in
      let b = and_parts (is_leaf (nodes_of after q.0)) (covers (nodes_of after q.0) key) a.0 in
      let c = and_parts (nodes_of after q.0).live ((nodes_of after q.0).level == 0) b.0 in
      let d = and_parts (length (nodes_of after q.0).pairs == g.format.room) (not (has_key key (nodes_of after q.0))) a.1 in
      not_full q.0 q.1 b.1 (eqb-true (nodes_of after q.0).level 0 c.1) (eqb-true (length (nodes_of after q.0).pairs) g.format.room d.0))

  pub room_made : IsRoomMade g after key
  room_made = record {
    run = run_is;
    takes = cond-false (is_all_full g after key) (suc (full_run g after key)) (full_run g after key) all_is ∙ run_is;
    full = full_is;
  }

pub every_purged : EveryPurged
every_purged g s = record {
  left = left g s;
  none = none g s;
  room = λ t own key w p keys m n. room_made g s t own key w p keys m n;
}
