-- Each call is answered by the map that the pages hold.
use Rattle.map_model.specs.Maps.{Map, MapCall, MapAnswer, IsMap, HasNone, IsLawful, key_end, value_end}
use Rattle.map_model.specs.Histories.{Step, last_write, over, first_of, write_or, IsLegal}
use Rattle.page_model.specs.Pairs.{Pair, Rising, find}
use Rattle.page_model.specs.Nodes.{Format, Node, holds}
use Rattle.page_model.specs.Tree.{IsTree, entry, value, value_of, word_or, lookup}
use Rattle.page_model.specs.Records.{Record}
use Rattle.page_model.specs.Redo.{has_key}
use Rattle.page_model.specs.Needs as record_needs
use Rattle.page_model.proofs.Pairs.{find_out}
use Rattle.page_model.proofs.Entries.{holds_to, holds_from, entry_at, entry_beyond}
use Rattle.page_model.proofs.Tree.{below_top}
use Rattle.core_commit.specs.image_model.Entries.{Kind, Entry, Contents, is_write}
use Rattle.core_commit.specs.image_model.Histories.{said}
use Rattle.core_commit.specs.core_state.States.{State, start, nodes_of, gsns_of, flushed_by_all}
use Rattle.core_commit.specs.core_state.Openings.{Opening}
use Rattle.core_commit.specs.core_state.Events.{Event}
use Rattle.core_commit.specs.core_state.Needs.{is_value, is_following, following, holds_answer, is_leaf_of, is_held_by, holds_row, value_in, may_put, may_put_back, may_read, pages_of, are_hot, may, needs}
use Rattle.core_commit.specs.core_state.Steps.{at_pages, page_entry, write_entry, read_entry, moves, put_back, follows, happens, step, run}
use Rattle.core_commit.proofs.Nodes.{on_key}
use Rattle.core_commit.proofs.History.{history_value, history_on, history_off}
use Rattle.core_commit.proofs.Invariants.{IsTold, Inv}
use Rattle.core_commit.proofs.Events.{same_nodes}
use Rattle.core_commit.proofs.Nexts.{following_is, following_at, follows_in, no_answer}
use Rattle.core_commit.proofs.Says.{said_word, write_here, write_else}
use Rattle.core_commit.proofs.Runs.{Good, good_event, good_run, good_start}
use Rattle.core_index.specs.Calls.{EveryCall}
use Rattle.core_index.specs.Answers.{write_told, put_back_told, told, history, map_in, EveryLegal, EveryMap, EveryTree}
use mathlib.Core.Path.{fun_ext}
use Rattle.std.proofs.Common.{◌≡◌, ◌≤◌, ◌<◌, ℕ, suc, Bool, true, false, cond, ◌&&◌, ◌||◌, leb, ltb, ◌==◌, List, [], ◌∷◌, Option, Some, None, length, refl, sym, ap, ◌∙◌, subst, inl, inr, arith, true≢false}
use Rattle.std.proofs.lemmas.Bool.{cases_Bool, cases_eq, cases_lt, eq-eqb, ne_eqb, eqb-true, and_parts, and_left, leb-true, ltb-true, le-leb, lt-ltb, le-ltb, cond-true, cond-false}

-- ## The map of the pages

-- the key's value is what its leaf says
value_at : (f : Format) (node : ℕ → Node) → IsTree f node → (p k : ℕ) → p < f.pages → holds (node p) k ≡ true → value f node k ≡ value_of f (find k (node p).pairs)
value_at f node t p k l h = ap (value_of f) (entry_at f node t k p l (holds_to (node p) k h))

-- it is what the newest write says
value_is : (g : Opening) (s : State) → IsTold g s → (k : ℕ) → map_in g s k ≡ said g.format (history_value g k s.entries)
value_is g s i k = sym (said_word g.format (entry g.format.pages (nodes_of s) k)) ∙ ap (λ (n : ℕ → Node). said g.format (lookup g.format n k)) (same_nodes g s i)

-- an entry came
value_on : (g : Opening) (t : State) (x : Entry) (h : List Entry) → IsTold g t → t.entries ≡ x ∷ h → (k : ℕ) → on_key k x ≡ true → map_in g t k ≡ said g.format x.after
value_on g t x h i e k o =
    let hist = subst (λ (l : List Entry). Rattle.core_commit.proofs.History.IsHistory g (flushed_by_all g t) l) e i.history in
    value_is g t i k ∙ (ap (λ (l : List Entry). said g.format (history_value g k l)) e ∙ ap (said g.format) (history_on g (flushed_by_all g t) k x h hist.1 hist.0.fits o))

value_off : (g : Opening) (s t : State) (x : Entry) → IsTold g s → IsTold g t → t.entries ≡ x ∷ s.entries → (k : ℕ) → on_key k x ≡ false → map_in g t k ≡ map_in g s k
value_off g s t x j i e k o =
    let hist = subst (λ (l : List Entry). Rattle.core_commit.proofs.History.IsHistory g (flushed_by_all g t) l) e i.history in
    value_is g t i k ∙ (ap (λ (l : List Entry). said g.format (history_value g k l)) e ∙ (ap (said g.format) (history_off g (flushed_by_all g t) k x s.entries hist.1 hist.0.fits o) ∙ sym (value_is g s j k)))

-- none came
value_same : (g : Opening) (s t : State) → IsTold g s → IsTold g t → t.entries ≡ s.entries → (k : ℕ) → map_in g t k ≡ map_in g s k
value_same g s t j i e k = value_is g t i k ∙ (ap (λ (l : List Entry). said g.format (history_value g k l)) e ∙ sym (value_is g s j k))

-- ## What follows

is_none : (f : Format) (w : ℕ) → ltb w f.dead ≡ false → value_of f (Some w) ≡ None
is_none f w e = cond-false (ltb w f.dead) (Some w) None e

abbrev pair_key : MapAnswer → ℕ
pair_key (MapAnswer.Pair q v) = q
pair_key _ = 0

abbrev gap_bound : MapAnswer → ℕ
gap_bound (MapAnswer.Gap h) = h
gap_bound _ = 0

abbrev is_pair : MapAnswer → Bool
is_pair (MapAnswer.Pair q v) = true
is_pair _ = false

-- no live pair from k up to the one that follows
none_before : (f : Format) (k low : ℕ) (xs : List Pair) (high at word : ℕ) → Rising low xs high → following f k xs high ≡ MapAnswer.Pair at word → (j : ℕ) → k ≤ j → j < at → value_of f (find j xs) ≡ None
none_before f k low [] high at word r e j a b = refl
none_before f k low (x ∷ xs) high at word r e j a b = go (leb k x.key && ltb x.word f.dead) refl e (none_before f k (suc x.key) xs high at word r.1)
  where
    off : (x.key ≡ j → ⊥) → find j (x ∷ xs) ≡ find j xs
    off n = cond-false (x.key == j) (Some x.word) (find j xs) (ne_eqb x.key j n)

    go : (c : Bool) → (leb k x.key && ltb x.word f.dead) ≡ c → cond c (MapAnswer.Pair x.key x.word) (following f k xs high) ≡ MapAnswer.Pair at word → (following f k xs high ≡ MapAnswer.Pair at word → (j : ℕ) → k ≤ j → j < at → value_of f (find j xs) ≡ None) → value_of f (find j (x ∷ xs)) ≡ None
    go true t q ih = let z : x.key ≡ at = key q in ap (value_of f) (off (λ y. absurd (omega arith)) ∙ find_out (suc x.key) j xs high r.1 (omega arith))
      where
        key : MapAnswer.Pair x.key x.word ≡ MapAnswer.Pair at word → x.key ≡ at
        key q = ap (λ (m : MapAnswer). pair_key m) q
    go false t q ih = elim (cases_eq x.key j) [
      | inr n ↦ ap (value_of f) (off n) ∙ ih q j a b
      | inl y ↦ ap (value_of f) (cond-true (x.key == j) (Some x.word) (find j xs) (eq-eqb x.key j y)) ∙ is_none f x.word (dead y)
    ]
      where
        dead : x.key ≡ j → ltb x.word f.dead ≡ false
        dead y = sym (ap (λ (c : Bool). c && ltb x.word f.dead) (le-leb k x.key (omega arith))) ∙ t

-- no live pair from k on
none_after : (f : Format) (k low : ℕ) (xs : List Pair) (high h : ℕ) → Rising low xs high → following f k xs high ≡ MapAnswer.Gap h → (h ≡ high) × ((j : ℕ) → k ≤ j → value_of f (find j xs) ≡ None)
none_after f k low [] high h r e = (sym (ap (λ (m : MapAnswer). gap_bound m) e), λ j a. refl)
none_after f k low (x ∷ xs) high h r e = go (leb k x.key && ltb x.word f.dead) refl e (none_after f k (suc x.key) xs high h r.1)
  where
    go : (c : Bool) → (leb k x.key && ltb x.word f.dead) ≡ c → cond c (MapAnswer.Pair x.key x.word) (following f k xs high) ≡ MapAnswer.Gap h → (following f k xs high ≡ MapAnswer.Gap h → (h ≡ high) × ((j : ℕ) → k ≤ j → value_of f (find j xs) ≡ None)) → (h ≡ high) × ((j : ℕ) → k ≤ j → value_of f (find j (x ∷ xs)) ≡ None)
    go true t q ih = absurd (true≢false (ap (λ (m : MapAnswer). is_pair m) q))
    go false t q ih = (
      (ih q).0,
      λ j a. elim (cases_eq x.key j) [
        | inr n ↦ ap (value_of f) (cond-false (x.key == j) (Some x.word) (find j xs) (ne_eqb x.key j n)) ∙ (ih q).1 j a
        | inl y ↦ ap (value_of f) (cond-true (x.key == j) (Some x.word) (find j xs) (eq-eqb x.key j y)) ∙ is_none f x.word (sym (ap (λ (c : Bool). c && ltb x.word f.dead) (le-leb k x.key (omega arith))) ∙ t)
      ],
    )

-- ## Answers

value_to : (a b : Option ℕ) → is_value a b ≡ true → a ≡ b
value_to None None h = refl
value_to (Some a) (Some b) h = ap (λ (x : ℕ). Some x) (eqb-true a b h)
value_to None (Some b) h = absurd (true≢false (sym h))
value_to (Some a) None h = absurd (true≢false (sym h))

leaf_parts : (g : Opening) (n : Node) (p k : ℕ) → is_leaf_of g n p k ≡ true → (p < g.format.pages) × (holds n k ≡ true)
leaf_parts g n p k h = let q = and_parts (ltb p g.format.pages) (holds n k) h in (ltb-true p g.format.pages q.0, q.1)

-- a point read
lawful_get : (g : Opening) (s : State) → Inv g s → (p k : ℕ) (a : Option ℕ) → is_leaf_of g (s.page p).node p k ≡ true → is_value a (value_in g.format (s.page p).node k) ≡ true → IsLawful (map_in g s) (MapCall.Get k) (MapAnswer.Value a)
lawful_get g s i p k a l v =
    let q = leaf_parts g (s.page p).node p k l in
    ap (λ (x : Option ℕ). MapAnswer.Value x) (value_to a (value_in g.format (s.page p).node k) v ∙ sym (value_at g.format (nodes_of s) i.tree p k q.0 q.1))

-- a write
lawful_write : (g : Opening) (s : State) → Inv g s → (w p k v : ℕ) → is_leaf_of g (s.page p).node p k ≡ true → IsLawful (map_in g s) (write_told g s w p k v).call (write_told g s w p k v).answer
lawful_write g s i w p k v l = go (ltb v g.format.dead)
  where
    same : value_in g.format (s.page p).node k ≡ map_in g s k
    same = let q = leaf_parts g (s.page p).node p k l in sym (value_at g.format (nodes_of s) i.tree p k q.0 q.1)

    go : (b : Bool) → IsLawful (map_in g s) (cond b (MapCall.Put k v) (MapCall.Del k)) (MapAnswer.Was (value_in g.format (s.page p).node k))
    go true = ap (λ (x : Option ℕ). MapAnswer.Was x) same
    go false = ap (λ (x : Option ℕ). MapAnswer.Was x) same

-- the pair that follows
lawful_next : (g : Opening) (s : State) → Inv g s → (w p k : ℕ) (a : MapAnswer) → needs g s (Event.Next w p k a) ≡ true → IsLawful (map_in g s) (MapCall.Next k) a
lawful_next g s i w p k a m = go a refl
  where
    v : Node
    v = (s.page p).node

    m1 : ((s.worker w).is_open ≡ true) × ((is_leaf_of g v p k && (is_following a (following g.format k v.pairs v.high) && holds_answer g s w a)) ≡ true)
    m1 = and_parts (s.worker w).is_open (is_leaf_of g v p k && (is_following a (following g.format k v.pairs v.high) && holds_answer g s w a)) m

    m2 : (is_leaf_of g v p k ≡ true) × ((is_following a (following g.format k v.pairs v.high) && holds_answer g s w a) ≡ true)
    m2 = and_parts (is_leaf_of g v p k) (is_following a (following g.format k v.pairs v.high) && holds_answer g s w a) m1.1

    is : a ≡ following g.format k v.pairs v.high
    is = following_is a (following g.format k v.pairs v.high) (and_parts (is_following a (following g.format k v.pairs v.high)) (holds_answer g s w a) m2.1).0

    leaf : (p < g.format.pages) × (holds v k ≡ true)
    leaf = leaf_parts g v p k m2.0

    tree : IsTree g.format (nodes_of s)
    tree = i.tree

    lies : Rattle.page_model.proofs.Entries.LeafWith v k
    lies = holds_to v k leaf.1

    rising : Rising v.low v.pairs v.high
    rising = ((tree.formed p leaf.0).node lies.lies.live).rising

    -- a key from k on, below the high fence, is in the leaf
    here : (j : ℕ) → k ≤ j → j < v.high → map_in g s j ≡ value_of g.format (find j v.pairs)
    here j a b = let z = lies.lies.low in value_at g.format (nodes_of s) tree p j leaf.0 (holds_from v j (record { lies = record { live = lies.lies.live; low = omega arith; high = b }; leaf = lies.leaf }))

    go : (b : MapAnswer) → a ≡ b → IsLawful (map_in g s) (MapCall.Next k) b
    go (MapAnswer.Pair at word) e =
        let q = sym is ∙ e in
        let f = following_at g.format k v.low v.pairs v.high at word rising q in
        let inside = (holds_to v at (follows_in v k at word rising leaf.1 f.found)).lies in
        let hi = inside.high in (
          f.least,
          here at f.least hi ∙ (ap (value_of g.format) f.found ∙ cond-true (ltb word g.format.dead) (Some word) None (lt-ltb word g.format.dead f.live)),
          λ j x y. here j x (omega arith) ∙ none_before g.format k v.low v.pairs v.high at word rising q j x y,
        )
    go (MapAnswer.Gap h) e =
        let q = none_after g.format k v.low v.pairs v.high h rising (sym is ∙ e) in
        let z = q.0 in let hi = lies.lies.high in let top = below_top g.format (nodes_of s) tree p leaf.0 lies.lies.live in let keys = g.keys in (
          omega arith,
          omega arith,
          λ j x y. here j x (omega arith) ∙ q.1 j x,
        )
    go (MapAnswer.Value x) e = absurd (no_answer g s w p k (MapAnswer.Value x) refl (subst (λ (b : MapAnswer). needs g s (Event.Next w p k b) ≡ true) e m))
    go (MapAnswer.Was x) e = absurd (no_answer g s w p k (MapAnswer.Was x) refl (subst (λ (b : MapAnswer). needs g s (Event.Next w p k b) ≡ true) e m))

-- ## Histories

-- the history is legal, and the pages hold the map after it
pub record Tells (start_map : Map) (g : Opening) (s : State) (h : List Step) : Type 0 where
  pub legal : IsLegal (start_map) h
  pub map : (k : ℕ) → map_in g s k ≡ over (start_map) (last_write h) k

now : (start_map : Map) (g : Opening) (s : State) (h : List Step) → Tells start_map g s h → map_in g s ≡ over (start_map) (last_write h)
now start_map g s h t = fun_ext t.map

tells_same : (start_map : Map) (g : Opening) (s t : State) (h : List Step) → IsTold g s → IsTold g t → t.entries ≡ s.entries → Tells start_map g s h → Tells start_map g t h
tells_same start_map g s t h i j e k = record { legal = k.legal; map = λ n. value_same g s t i j e n ∙ k.map n }

-- an entry came that writes nothing
tells_entry : (start_map : Map) (g : Opening) (s t : State) (h : List Step) (x : Entry) → IsTold g s → IsTold g t → t.entries ≡ x ∷ s.entries → is_write x.kind ≡ false → Tells start_map g s h → Tells start_map g t h
tells_entry start_map g s t h x i j e w k = record { legal = k.legal; map = λ n. value_off g s t x i j e n (and_left (is_write x.kind) (x.key == n) w) ∙ k.map n }

-- a call that writes nothing
tells_call : (start_map : Map) (g : Opening) (s t : State) (h : List Step) (x : Step) → ((k : ℕ) → first_of (Rattle.map_model.specs.Maps.write_of x.call k) (last_write h k) ≡ last_write h k) → IsLawful (map_in g s) x.call x.answer → Tells start_map g s h → Tells start_map g t h → Tells start_map g t (x ∷ h)
tells_call start_map g s t h x n l a b = record {
  legal = (a.legal, subst (λ (m : Map). IsLawful m x.call x.answer) (now start_map g s h a) l);
  map = λ k. b.map k ∙ sym (ap (λ (w : Option (Option ℕ)). write_or w (start_map k)) (n k));
}

-- a write
tells_write : (start_map : Map) (g : Opening) (s t : State) (h : List Step) (K : Kind) (w p k v : ℕ) → Inv g s → IsTold g s → IsTold g t → is_write K ≡ true → t.entries ≡ write_entry g K s w (at_pages s w (s.worker w) (p ∷ [])) p k v ∷ s.entries → is_leaf_of g (s.page p).node p k ≡ true → Tells start_map g s h → Tells start_map g t (write_told g s w p k v ∷ h)
tells_write start_map g s t h K w p k v inv i j kw e leaf a = record {
  legal = (a.legal, subst (λ (m : Map). IsLawful m (write_told g s w p k v).call (write_told g s w p k v).answer) (now start_map g s h a) (lawful_write g s inv w p k v leaf));
  map = λ n. elim (cases_eq n k) [
    | inl q ↦ value_on g t x s.entries j e n (Rattle.std.proofs.lemmas.Bool.and_from (is_write K) (k == n) kw (eq-eqb k n (sym q))) ∙ sym (ap (λ (o : Option (Option ℕ)). write_or (first_of o (last_write h n)) (start_map n)) (write_here g.format k v n q))
    | inr q ↦ value_off g s t x i j e n (Rattle.std.proofs.lemmas.Bool.and_right (is_write K) (k == n) (ne_eqb k n (λ z. q (sym z)))) ∙ (a.map n ∙ sym (ap (λ (o : Option (Option ℕ)). write_or (first_of o (last_write h n)) (start_map n)) (write_else g.format k v n q)))
  ];
}
  where
    x : Entry
    x = write_entry g K s w (at_pages s w (s.worker w) (p ∷ [])) p k v

tells_moves : (start_map : Map) (g : Opening) (s : State) (h : List Step) (K : Kind) (w : ℕ) (ps : List ℕ) (y : Record) → IsTold g s → IsTold g (moves s K w ps y) → is_write K ≡ false → Tells start_map g s h → Tells start_map g (moves s K w ps y) h
tells_moves start_map g s h K w ps y i j kw a = tells_entry start_map g s (moves s K w ps y) h (page_entry K s w (at_pages s w (s.worker w) ps) ps y) i j refl kw a

tells_event : (start_map : Map) (g : Opening) (s : State) (h : List Step) (e : Event) → Inv g s → IsTold g s → IsTold g (happens g s e) → needs g s e ≡ true → Tells start_map g s h → Tells start_map g (happens g s e) (told g s e h)
tells_event start_map g s h (Event.Read w p k a) inv i j m t =
    let q = and_parts (may_read g s w p k) (is_value a (value_in g.format (s.page p).node k)) m in
    let r = and_parts (s.worker w).is_open (holds_row (s.row (g.row_of k)) w && is_leaf_of g (s.page p).node p k) q.0 in
    let l = and_parts (holds_row (s.row (g.row_of k)) w) (is_leaf_of g (s.page p).node p k) r.1 in
    tells_call start_map g s (happens g s (Event.Read w p k a)) h (record { session = w; call = MapCall.Get k; answer = MapAnswer.Value a }) (λ n. refl) (lawful_get g s inv p k a l.1 q.1) t
    (tells_entry start_map g s (happens g s (Event.Read w p k a)) h (read_entry w (at_pages s w (s.worker w) (p ∷ [])) k (Rattle.core_commit.specs.image_model.Entries.word_in g.format (s.page p).node k) (is_held_by (s.row (g.row_of k)).holder w)) i j refl refl t)
tells_event start_map g s h (Event.Peek w p k a) inv i j m t =
    let q = and_parts (is_leaf_of g (s.page p).node p k) (is_value a (value_in g.format (s.page p).node k)) m in
    tells_call start_map g s s h (record { session = w; call = MapCall.Get k; answer = MapAnswer.Value a }) (λ n. refl) (lawful_get g s inv p k a q.0 q.1) t t
tells_event start_map g s h (Event.Next w p k a) inv i j m t = tells_call start_map g s (happens g s (Event.Next w p k a)) h (record { session = w; call = MapCall.Next k; answer = a }) (λ n. refl) (lawful_next g s inv w p k a m) t (go a j)
  where
    go : (a : MapAnswer) → IsTold g (follows g s w p a) → Tells start_map g (follows g s w p a) h
    go (MapAnswer.Pair at word) j = tells_entry start_map g s (follows g s w p (MapAnswer.Pair at word)) h (read_entry w (at_pages s w (s.worker w) (p ∷ [])) at (Rattle.core_commit.specs.image_model.Entries.word_in g.format (s.page p).node at) (is_held_by (s.row (g.row_of at)).holder w)) i j refl refl t
    go (MapAnswer.Gap b) j = tells_same start_map g s (follows g s w p (MapAnswer.Gap b)) h i j refl t
    go (MapAnswer.Value b) j = t
    go (MapAnswer.Was b) j = t
tells_event start_map g s h (Event.Change w p k v) inv i j m t =
    let q = and_parts (ltb (length (s.worker w).changes) g.changes) ((s.worker w).is_open && (is_held_by (s.row (g.row_of k)).holder w && may_put g (s.page p).node p k v)) m in
    let r = and_parts (s.worker w).is_open (is_held_by (s.row (g.row_of k)).holder w && may_put g (s.page p).node p k v) q.1 in
    let u = and_parts (is_held_by (s.row (g.row_of k)).holder w) (may_put g (s.page p).node p k v) r.1 in
    let x = and_parts (ltb p g.format.pages) (holds (s.page p).node k && (leb v g.format.dead && (has_key k (s.page p).node || ltb (length (s.page p).node.pairs) g.format.room))) u.1 in
    let y = and_parts (holds (s.page p).node k) (leb v g.format.dead && (has_key k (s.page p).node || ltb (length (s.page p).node.pairs) g.format.room)) x.1 in
    tells_write start_map g s (happens g s (Event.Change w p k v)) h Kind.Change w p k v inv i j refl refl (Rattle.std.proofs.lemmas.Bool.and_from (ltb p g.format.pages) (holds (s.page p).node k) x.0 y.0) t
tells_event start_map g s h (Event.Put_back w p) inv i j m t = go (s.worker w).changes (and_parts (s.worker w).is_open (may_put_back g (s.page p).node p (s.worker w).changes) m).1 j
  where
    go : (cs : List Entry) → may_put_back g (s.page p).node p cs ≡ true → IsTold g (put_back g s w p cs) → Tells start_map g (put_back g s w p cs) (put_back_told g s w p cs h)
    go [] z j = t
    go (c ∷ cs) z j =
        let x = and_parts (ltb p g.format.pages) (holds (s.page p).node c.key && has_key c.key (s.page p).node) z in
        let y = and_parts (holds (s.page p).node c.key) (has_key c.key (s.page p).node) x.1 in
        tells_write start_map g s (put_back g s w p (c ∷ cs)) h Kind.Put_back w p c.key c.before inv i j refl refl (Rattle.std.proofs.lemmas.Bool.and_from (ltb p g.format.pages) (holds (s.page p).node c.key) x.0 y.0) t
tells_event start_map g s h (Event.Split w l r q n) inv i j m t = tells_moves start_map g s h Kind.Split w (l ∷ r ∷ q ∷ []) (record_needs.split_record (nodes_of s) (gsns_of s) l r q n) i j refl t
tells_event start_map g s h (Event.Lift w c) inv i j m t = tells_moves start_map g s h Kind.Lift w (0 ∷ c ∷ []) (record_needs.lift_record (nodes_of s) (gsns_of s) c) i j refl t
tells_event start_map g s h (Event.Join w l r q) inv i j m t = tells_moves start_map g s h Kind.Join w (l ∷ r ∷ q ∷ []) (record_needs.join_record (nodes_of s) (gsns_of s) l r q) i j refl t
tells_event start_map g s h (Event.Drop w c) inv i j m t = tells_moves start_map g s h Kind.Drop w (0 ∷ c ∷ []) (record_needs.drop_record (nodes_of s) (gsns_of s) c) i j refl t
tells_event start_map g s h (Event.Purge w p keys) inv i j m t = tells_moves start_map g s h Kind.Purge w (p ∷ []) (record_needs.purge_record (gsns_of s) p keys) i j refl t
tells_event start_map g s h (Event.End w commit f) inv i j m t = go commit j
  where
    go : (b : Bool) → IsTold g (happens g s (Event.End w b f)) → Tells start_map g (happens g s (Event.End w b f)) h
    go true j = tells_entry start_map g s (happens g s (Event.End w true f)) h (Rattle.core_commit.specs.core_state.Steps.end_entry Kind.Commit w (s.worker w) f) i j refl refl t
    go false j = tells_entry start_map g s (happens g s (Event.End w false f)) h (Rattle.core_commit.specs.core_state.Steps.end_entry Kind.Abort w (s.worker w) f) i j refl refl t
tells_event start_map g s h (Event.Enter w e) inv i j m t = tells_same start_map g s (happens g s (Event.Enter w e)) h i j refl t
tells_event start_map g s h (Event.Leave w) inv i j m t = tells_same start_map g s (happens g s (Event.Leave w)) h i j refl t
tells_event start_map g s h (Event.Begin w f) inv i j m t = tells_same start_map g s (happens g s (Event.Begin w f)) h i j refl t
tells_event start_map g s h (Event.Lock w o mode) inv i j m t = tells_same start_map g s (happens g s (Event.Lock w o mode)) h i j refl t
tells_event start_map g s h (Event.Unlock w o) inv i j m t = tells_same start_map g s (happens g s (Event.Unlock w o)) h i j refl t
tells_event start_map g s h (Event.Flush w n) inv i j m t = tells_same start_map g s (happens g s (Event.Flush w n)) h i j refl t
tells_event start_map g s h (Event.Sync n) inv i j m t = tells_same start_map g s (happens g s (Event.Sync n)) h i j refl t
tells_event start_map g s h (Event.Post w n) inv i j m t = tells_same start_map g s (happens g s (Event.Post w n)) h i j refl t
tells_event start_map g s h (Event.Fetch p pairs) inv i j m t = tells_same start_map g s (happens g s (Event.Fetch p pairs)) h i j refl t
tells_event start_map g s h (Event.Load p f) inv i j m t = tells_same start_map g s (happens g s (Event.Load p f)) h i j refl t
tells_event start_map g s h (Event.Cool p) inv i j m t = tells_same start_map g s (happens g s (Event.Cool p)) h i j refl t
tells_event start_map g s h (Event.Rescue p) inv i j m t = tells_same start_map g s (happens g s (Event.Rescue p)) h i j refl t
tells_event start_map g s h (Event.Save p) inv i j m t = tells_same start_map g s (happens g s (Event.Save p)) h i j refl t
tells_event start_map g s h (Event.Evict p) inv i j m t = tells_same start_map g s (happens g s (Event.Evict p)) h i j refl t
tells_event start_map g s h Event.Tick inv i j m t = tells_same start_map g s (happens g s Event.Tick) h i j refl t
tells_event start_map g s h (Event.Cut x heads) inv i j m t = tells_same start_map g s (happens g s (Event.Cut x heads)) h i j refl t
tells_event start_map g s h (Event.Ask w) inv i j m t = t
tells_event start_map g s h (Event.Refused w n k) inv i j m t = t
tells_event start_map g s h (Event.Miss w) inv i j m t = t

tells_run : (start_map : Map) (g : Opening) → g.faithful ≡ true → (es : List Event) (s : State) (h : List Step) → Good g s → Tells start_map g s h → Tells start_map g (run g s es) (history g s es h)
tells_run start_map g f [] s h i t = t
tells_run start_map g f (e ∷ es) s h i t = go (may g s e) refl (λ u k j x. tells_run start_map g f es u k j x)
  where
    go : (b : Bool) → may g s e ≡ b → ((u : State) (k : List Step) → Good g u → Tells start_map g u k → Tells start_map g (run g u es) (history g u es k)) → Tells start_map g (run g (cond b (happens g s e) s) es) (history g (cond b (happens g s e) s) es (cond b (told g s e h) h))
    go true m ih = let j = good_event g s i e m in ih (happens g s e) (told g s e h) j (tells_event start_map g s h e i.inv (i.inv.told f) (j.inv.told f) (and_parts (are_hot s (pages_of e)) (needs g s e) m).1 t)
    go false m ih = ih s h i t

every_tells : (g : Opening) → g.faithful ≡ true → (es : List Event) → Tells (map_in g (start g)) g (run g (start g) es) (history g (start g) es [])
every_tells g f es = tells_run (map_in g (start g)) g f es (start g) [] (good_start g) (record { legal = tt; map = λ k. refl })

-- from any state that has the invariants
pub every_call : EveryCall
every_call g f s i e m =
    let t = tells_event (map_in g s) g s [] e i.inv (i.inv.told f) ((good_event g s i e m).inv.told f) (and_parts (are_hot s (pages_of e)) (needs g s e) m).1 (record { legal = tt; map = λ k. refl }) in
    record { legal = t.legal; map = t.map }

pub every_legal : EveryLegal
every_legal g f es = (every_tells g f es).legal

pub every_map : EveryMap
every_map g es = record {
  map = λ f. (every_tells g f es).map;
  ranges = record {
    keys = λ k h. ap (value_of g.format) (entry_beyond g.format (nodes_of s) tree k (let t = g.keys in omega arith));
    values = λ k v e. let l = live (entry g.format.pages (nodes_of s) k) v e in let t = g.values in omega arith;
  };
}
  where
    s : State
    s = run g (start g) es

    tree : IsTree g.format (nodes_of s)
    tree = (good_run g es (start g) (good_start g)).inv.tree

    live : (o : Option ℕ) (v : ℕ) → value_of g.format o ≡ Some v → v < g.format.dead
    live None v e = absurd (true≢false (sym (ap Rattle.page_model.specs.Redo.is_some e)))
    live (Some w) v e = go (ltb w g.format.dead) refl e
      where
        go : (b : Bool) → ltb w g.format.dead ≡ b → cond b (Some w) None ≡ Some v → v < g.format.dead
        go true q e = let z = ltb-true w g.format.dead q in let y : w ≡ v = ap (λ (o : Option ℕ). word_or 0 o) e in omega arith
        go false q e = absurd (true≢false (sym (ap Rattle.page_model.specs.Redo.is_some e)))

pub every_tree : EveryTree
every_tree g es = (good_run g es (start g) (good_start g)).inv.tree
