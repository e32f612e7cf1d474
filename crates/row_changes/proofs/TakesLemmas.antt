-- Behind a change of the tree, room for the key takes fewer pages.
use Rattle.std.proofs.Common.{◌≡◌, ◌⊎◌, inl, inr, ◌≤◌, ◌<◌, ◌-◌, ◌==◌, ◌&&◌, ◌||◌, ltb, leb, ℕ, zero, suc, Bool, true, false, cond, List, [], ◌∷◌, length, refl, sym, ap, ◌∙◌, arith, true≢false, eq-eqb}
use Rattle.std.proofs.lemmas.Bool.{and_from, and_parts, cases_eq, cases_lt, cond-false, cond-true, eqb-true, false_from_ne_true, le-leb, le-ltb, lt-ltb, ltb-true, ne_eqb, or_cases, or_left, or_right}
use Rattle.std.proofs.lemmas.List.{length-drop, length-take-le}
use Rattle.page_model.specs.Check.{some_below}
use Rattle.page_model.specs.Needs.{key_at, lift_record, split_record}
use Rattle.page_model.specs.Nodes.{Node, covers}
use Rattle.page_model.specs.Pairs.{Pair, Rising, below, onward}
use Rattle.page_model.specs.Tree.{IsTree}
use Rattle.page_model.proofs.Tree.{tall}
use Rattle.session_state.specs.image_model.Entries.{Contents, Entry, Kind, touches, written}
use Rattle.session_state.specs.core_state.Events.{Event}
use Rattle.session_state.specs.core_state.Openings.{Opening}
use Rattle.session_state.specs.core_state.States.{State, gsns_of, nodes_of}
use Rattle.session_state.specs.core_state.Steps.{at_pages, happens, page_entry}
use Rattle.session_state.specs.core_calls.Room.{EveryRoom, full_from, full_run, is_all_full, is_full_at, room_takes}
use Rattle.session_state.proofs.btree_node.PlaceLemmas.{drop-onward, take-below}

below_has : (n : ℕ) (p : ℕ → Bool) → some_below n p ≡ true → (i : ℕ) × (i < n) × (p i ≡ true)
below_has zero p h = absurd (true≢false (sym h))
below_has (suc n) p h = elim (or_cases (p n) (some_below n p) h) [ inl e ↦ (n, omega arith, e) | inr e ↦ let r = below_has n p e in (r.0, (let l = r.1 in omega arith), r.2) ]

-- ## What it takes at most

module _ (g : Opening) (t : State) (k : ℕ) where
  from_most : (d l : ℕ) → full_from g t k d l ≤ d
  from_most zero l = omega arith
  from_most (suc d) l = go (is_full_at g t k l) (from_most d (suc l))
    where
      go : (b : Bool) → full_from g t k d (suc l) ≤ d → cond b (suc (full_from g t k d (suc l))) 0 ≤ suc d
      go true ih = omega arith
      go false ih = omega arith

  -- one page for each level that there can be, and one for a lift
  pub takes_most : room_takes g t k ≤ suc (suc g.format.levels)
  takes_most = go (is_all_full g t k) (from_most (suc g.format.levels) 0)
    where
      go : (b : Bool) → full_run g t k ≤ suc g.format.levels → cond b (suc (full_run g t k)) (full_run g t k) ≤ suc (suc g.format.levels)
      go true m = omega arith
      go false m = omega arith

  -- the run ends below a level that is not full
  from_stops : (d a l : ℕ) → a ≤ l → is_full_at g t k l ≡ false → full_from g t k d a ≤ l - a
  from_stops zero a l le e = omega arith
  from_stops (suc d) a l le e = go (is_full_at g t k a) refl (cases_eq a l) (λ lt. from_stops d (suc a) l lt e)
    where
      go : (b : Bool) → is_full_at g t k a ≡ b → (a ≡ l) ⊎ (a ≡ l → ⊥) → (suc a ≤ l → full_from g t k d (suc a) ≤ l - suc a) → cond b (suc (full_from g t k d (suc a))) 0 ≤ l - a
      go false q c ih = omega arith
      go true q (inl c) ih = absurd (true≢false (sym q ∙ (ap (is_full_at g t k) c ∙ e)))
      go true q (inr c) ih = let less : suc a ≤ l = omega arith in let r = ih less in omega arith

  module _ (rooms : EveryRoom) (tree : IsTree g.format (nodes_of t)) (p : ℕ) (lt : p < g.format.pages) (over : covers (nodes_of t p) k ≡ true) (some : length (nodes_of t p).pairs ≡ g.format.room → ⊥) where
    abbrev l : ℕ
    l = (nodes_of t p).level

    not_full : is_full_at g t k l ≡ false
    not_full = false_from_ne_true (is_full_at g t k l) (λ h.
        let q = below_has g.format.pages (λ p. covers (t.page p).node k && (((t.page p).node.level == l) && (length (t.page p).node.pairs == g.format.room))) h in
        let a = and_parts (covers (nodes_of t q.0) k) (((nodes_of t q.0).level == l) && (length (nodes_of t q.0).pairs == g.format.room)) q.2 in
        let b = and_parts ((nodes_of t q.0).level == l) (length (nodes_of t q.0).pairs == g.format.room) a.1 in
        let same = (rooms g t k).one tree p q.0 lt q.1 over a.0 (sym (eqb-true (nodes_of t q.0).level l b.0)) in
        some (ap (λ (i : ℕ). length (nodes_of t i).pairs) same ∙ eqb-true (length (nodes_of t q.0).pairs) g.format.room b.1))

    -- a node of the way that is not full takes nothing, nor does what stands above it
    takes_at : room_takes g t k ≤ l
    takes_at =
        let stops = from_stops (suc g.format.levels) 0 l (omega arith) not_full in
        let run : full_run g t k ≤ l = omega arith in
        let high = tall g.format (nodes_of t) tree p lt (and_parts (nodes_of t p).live (leb (nodes_of t p).low k && ltb k (nodes_of t p).high) over).0 in
        let part : is_all_full g t k ≡ false = le-ltb (nodes_of t 0).level (full_run g t k) (omega arith) in
        let is : room_takes g t k ≡ full_run g t k = cond-false (is_all_full g t k) (suc (full_run g t k)) (full_run g t k) part in
        omega arith

-- ## Behind a split

module _ (rooms : EveryRoom) (g : Opening) (s : State) (k own left right parent : ℕ) (room_is : g.format.room ≡ 60) (tree : IsTree g.format (nodes_of s)) where
  abbrev split : State
  split = happens g s (Event.Split own left right parent 30)

  abbrev v : Node
  v = nodes_of s left

  abbrev sep : ℕ
  sep = key_at 30 v.pairs

  abbrev entry : Entry
  entry = page_entry Kind.Split s own (at_pages s own (s.worker own) (left ∷ right ∷ parent ∷ [])) (left ∷ right ∷ parent ∷ []) (split_record (nodes_of s) (gsns_of s) left right parent 30)

  abbrev lower : Node
  lower = record { live = v.live; level = v.level; low = v.low; high = sep; pairs = below sep v.pairs }

  abbrev upper : Node
  upper = record { live = true; level = v.level; low = sep; high = v.high; pairs = onward sep v.pairs }

  left_is : nodes_of split left ≡ lower
  left_is = ap (λ (c : Contents). c.node) (cond-true (touches left entry) (written entry left (s.page left)) (s.page left) (or_left (left == left) ((right == left) || ((parent == left) || false)) (eq-eqb left left refl)))
      ∙ cond-true (left == left) lower _ (eq-eqb left left refl)

  right_is : (right ≡ left → ⊥) → nodes_of split right ≡ upper
  right_is apart = ap (λ (c : Contents). c.node) (cond-true (touches right entry) (written entry right (s.page right)) (s.page right) (or_right (left == right) ((right == right) || ((parent == right) || false)) (or_left (right == right) ((parent == right) || false) (eq-eqb right right refl))))
      ∙ (cond-false (right == left) _ _ (ne_eqb right left apart) ∙ cond-true (right == right) upper _ (eq-eqb right right refl))

  module _ (tree_now : IsTree g.format (nodes_of split)) (left_below : left < g.format.pages) (right_below : right < g.format.pages) (bare : (nodes_of s right).live ≡ false) (full : length v.pairs ≡ 60) (over : covers v k ≡ true)
      (run : suc v.level ≡ full_run g s k) (part : is_all_full g s k ≡ false) where
    lives : (v.live ≡ true) × ((leb v.low k && ltb k v.high) ≡ true)
    lives = and_parts v.live (leb v.low k && ltb k v.high) over

    between : (leb v.low k ≡ true) × (ltb k v.high ≡ true)
    between = and_parts (leb v.low k) (ltb k v.high) lives.1

    apart : right ≡ left → ⊥
    apart e = true≢false (sym lives.0 ∙ (ap (λ (i : ℕ). (nodes_of s i).live) (sym e) ∙ bare))

    rising : Rising v.low v.pairs v.high
    rising = ((tree.formed left left_below).node lives.0).rising

    few_below : length (below sep v.pairs) ≡ 30
    few_below = ap (λ (ps : List Pair). length ps) (sym (take-below v.low v.high v.pairs 30 rising (omega arith))) ∙ length-take-le 30 v.pairs (omega arith)

    few_onward : length (onward sep v.pairs) ≡ 30
    few_onward = ap (λ (ps : List Pair). length ps) (sym (drop-onward v.low v.high v.pairs 30 rising (omega arith))) ∙ (let a = length-drop 30 v.pairs in omega arith)

    takes_now : room_takes g split k ≤ v.level
    takes_now = elim (cases_lt k sep) [
      | inl before ↦
          let c : covers (nodes_of split left) k ≡ true = ap (λ (n : Node). covers n k) left_is ∙ and_from v.live (leb v.low k && ltb k sep) lives.0 (and_from (leb v.low k) (ltb k sep) between.0 (lt-ltb k sep before)) in
          let n : length (nodes_of split left).pairs ≡ 30 = ap (λ (n : Node). length n.pairs) left_is ∙ few_below in
          let e : (nodes_of split left).level ≡ v.level = ap (λ (n : Node). n.level) left_is in
          let most = takes_at g split k rooms tree_now left left_below c (λ q. let r = room_is in absurd (omega arith)) in
          omega arith
      | inr behind ↦
          let c : covers (nodes_of split right) k ≡ true = ap (λ (n : Node). covers n k) (right_is apart) ∙ and_from (leb sep k) (ltb k v.high) (le-leb sep k behind) between.1 in
          let n : length (nodes_of split right).pairs ≡ 30 = ap (λ (n : Node). length n.pairs) (right_is apart) ∙ few_onward in
          let e : (nodes_of split right).level ≡ v.level = ap (λ (n : Node). n.level) (right_is apart) in
          let most = takes_at g split k rooms tree_now right right_below c (λ q. let r = room_is in absurd (omega arith)) in
          omega arith
    ]

    pub takes_split : room_takes g split k < room_takes g s k
    takes_split =
        let is : room_takes g s k ≡ full_run g s k = cond-false (is_all_full g s k) (suc (full_run g s k)) (full_run g s k) part in
        let a = takes_now in
        let b = run in
        omega arith

-- ## Behind a lift

module _ (rooms : EveryRoom) (g : Opening) (s : State) (k own page : ℕ) (room_is : g.format.room ≡ 60) (tree : IsTree g.format (nodes_of s)) where
  abbrev lifted : State
  lifted = happens g s (Event.Lift own page)

  abbrev root : Node
  root = nodes_of s 0

  abbrev raised : Entry
  raised = page_entry Kind.Lift s own (at_pages s own (s.worker own) (0 ∷ page ∷ [])) (0 ∷ page ∷ []) (lift_record (nodes_of s) (gsns_of s) page)

  abbrev higher : Node
  higher = record { live = root.live; level = suc root.level; low = root.low; high = root.high; pairs = record { key = 0; word = page } ∷ [] }

  root_is : nodes_of lifted 0 ≡ higher
  root_is = ap (λ (c : Contents). c.node) (cond-true (touches 0 raised) (written raised 0 (s.page 0)) (s.page 0) (or_left (0 == 0) ((page == 0) || false) refl))

  module _ (tree_now : IsTree g.format (nodes_of lifted)) (key_low : k < g.format.top) (all : is_all_full g s k ≡ true) where
    pub takes_lift : room_takes g lifted k < room_takes g s k
    takes_lift =
        let low = tree.root.1 in
        let high = tree.root.2 in
        let c : covers (nodes_of lifted 0) k ≡ true = ap (λ (n : Node). covers n k) root_is
        ∙ and_from root.live (leb root.low k && ltb k root.high) tree.root.0 (and_from (leb root.low k) (ltb k root.high) (le-leb root.low k (omega arith)) (lt-ltb k root.high (omega arith))) in
        let n : length (nodes_of lifted 0).pairs ≡ 1 = ap (λ (n : Node). length n.pairs) root_is in
        let e : (nodes_of lifted 0).level ≡ suc root.level = ap (λ (n : Node). n.level) root_is in
        let most = takes_at g lifted k rooms tree_now 0 tree.some c (λ q. let r = room_is in absurd (omega arith)) in
        let run : root.level < full_run g s k = ltb-true root.level (full_run g s k) all in
        let is : room_takes g s k ≡ suc (full_run g s k) = cond-true (is_all_full g s k) (suc (full_run g s k)) (full_run g s k) all in
        omega arith
