-- The rules one by one, and all of them.
use Rattle.std.proofs.Common.{◌≡◌, ◌<◌, ◌≤◌, ℕ, zero, suc, Bool, true, false, cond, ◌&&◌, ◌||◌, not, leb, ltb, ◌==◌, List, [], ◌∷◌, ◌++◌, ◌+◌, ◌-◌, length, get_or, take, drop, length-drop, map, Option, Some, None, refl, sym, ◌∙◌, ap, inl, inr, arith}
use Rattle.std.proofs.lemmas.Bool.{cases_lt, and_parts, ltb-true, cond-true, cond-false, ne_eqb}
use Rattle.std.proofs.Math.Seq.{drop-cons}
use Rattle.std.proofs.Math.Numerals.{add-one}
use Rattle.std.proofs.lemmas.List.{take_all}
use Rattle.page_model.specs.Pairs.{Pair, first_key, spans}
use Rattle.page_model.specs.Nodes.{Format, Node, free}
use Rattle.page_model.specs.Check.{all, is_nil, word_ok, is_formed, is_node_ok, is_free, is_rising, is_root, is_child, has_children, is_named, names_page, some_below, or_else, first_bad, page_ok, first_break}
use Rattle.image_model.specs.Entries.{Entry, Contents}
use Rattle.image_model.specs.Redo.{Redone, redo, passes}
use Rattle.image_model.specs.Images as images
use Rattle.image_model.specs.Damage as rules
use Rattle.plain_images.specs.declared.pages.Node as declared
use Rattle.plain_images.specs.Pages.{node_of, nodes, format_of}
use Rattle.plain_images.specs.declared.records.Record.{Record}
use Rattle.plain_images.specs.Records.{entry_of, entries_of}
use Rattle.plain_images.specs.Damages.{undoable, undoable_in, without, without_in, taken}

-- ## One more

pub first_log_more : (g : ℕ → Option rules.Damage) (i j : ℕ) (was other now : Option rules.Damage) → j ≡ suc i → was ≡ rules.first_in_logs g i → other ≡ g (suc i) → now ≡ rules.or_first was other →
    now ≡ rules.first_in_logs g j
first_log_more g i j was other now e before here step =
    step ∙ ap (λ o. rules.or_first o other) before ∙ ap (rules.or_first (rules.first_in_logs g i)) here ∙ ap (rules.first_in_logs g) (sym e)

rest_of : (records : List Record) (k : ℕ) → take (length records - k) (drop k records) ≡ drop k records
rest_of records k = let l = length-drop k records in take_all (length records - k) (drop k records) (omega arith)

pub undoable_more : (f : Format) (page : ℕ → Contents) (records : List Record) (i j : ℕ) (x : Record) (was other now : Option rules.Damage) → j ≡ suc i → i < length records → x ≡ get_or records i x →
    was ≡ undoable_in f page (entries_of (drop j records)) → other ≡ undoable f page (entry_of x) (entries_of (take (length records - (i + 1)) (drop (i + 1) records))) → now ≡ rules.or_first was other →
    now ≡ undoable_in f page (entries_of (drop i records))
undoable_more f page records i j x was other now e lt at before here step =
    step ∙ ap (λ o. rules.or_first o other) before ∙ ap (rules.or_first (undoable_in f page (entries_of (drop j records)))) (here ∙ ap (λ ys. undoable f page (entry_of x) (entries_of ys)) (rest_of records (i + 1)) ∙ ap (λ n. undoable f page (entry_of x) (entries_of (drop n records))) (add-one i ∙ sym e))
    ∙ ap (λ n. undoable_in f page (entry_of x ∷ entries_of (drop n records))) e
    ∙ ap (λ y. undoable_in f page (entry_of y ∷ entries_of (drop (suc i) records))) at
    ∙ ap (λ ys. undoable_in f page (entries_of ys)) (sym (drop-cons records i x lt))

pub without_more : (lost : Entry → Bool) (has : ℕ → Bool) (records : List Record) (i j : ℕ) (x : Record) (was other now : Option rules.Damage) → j ≡ suc i → i < length records → x ≡ get_or records i x →
    was ≡ without_in lost has (entries_of (drop j records)) → other ≡ without lost has (entry_of x) → now ≡ rules.or_first other was →
    now ≡ without_in lost has (entries_of (drop i records))
without_more lost has records i j x was other now e lt at before here step =
    step ∙ ap (λ o. rules.or_first o was) here ∙ ap (rules.or_first (without lost has (entry_of x))) before
    ∙ ap (λ n. without_in lost has (entry_of x ∷ entries_of (drop n records))) e
    ∙ ap (λ y. without_in lost has (entry_of y ∷ entries_of (drop (suc i) records))) at
    ∙ ap (λ ys. without_in lost has (entries_of ys)) (sym (drop-cons records i x lt))

-- ## Whether a record is undoable

pub is_undoable : (f : Format) (page pages : ℕ → Contents) (r : Entry) (z : List Entry) (d : Redone) (b : Bool) → pages ≡ d.page → d ≡ redo page z → b ≡ passes f pages r →
    cond b None (Some (rules.Damage.Undoable r.log r.number)) ≡ undoable f page r z
is_undoable f page pages r z d b ep ed e =
    ap (λ c. cond c None (Some (rules.Damage.Undoable r.log r.number))) (e ∙ ap (λ (g : ℕ → Contents). passes f g r) (ep ∙ ap (λ (x : Redone). x.page) ed))

-- ## Pages that are the same below the number of pages

module _ (n : ℕ) (node other : ℕ → Node) (same : (p : ℕ) → p < n → node p ≡ other p) where
  abbrev f : Format
  f = format_of n

  some_same : (m : ℕ) (p : ℕ) → m ≤ n → some_below m (λ q. names_page (node q) p) ≡ some_below m (λ q. names_page (other q) p)
  some_same zero p l = refl
  some_same (suc m) p l =
      ap (λ (v : Node). names_page v p || some_below m (λ q. names_page (node q) p)) (same m (omega arith))
      ∙ ap (λ b. names_page (other m) p || b) (some_same m p (omega arith))

  named_same : (p : ℕ) → p < n → is_named f node p ≡ is_named f other p
  named_same p l =
      ap (λ (v : Node). cond (v.live && not (p == 0)) (some_below n (λ q. names_page (node q) p)) true) (same p l)
      ∙ ap (λ b. cond ((other p).live && not (p == 0)) b true) (some_same n p (omega arith))

  spans_same : (v : Node) (xs : List Pair) (high : ℕ) → (v.level == 0) ≡ false → all (word_ok f v) xs ≡ true → all (λ s. is_child v (node s.child) s) (spans xs high) ≡ all (λ s. is_child v (other s.child) s) (spans xs high)
  spans_same v [] high e h = refl
  spans_same v (x ∷ xs) high e h =
      let parts = and_parts (word_ok f v x) (all (word_ok f v) xs) h in
      let words = and_parts (ltb 0 x.word) (ltb x.word n) (sym (cond-false (v.level == 0) (leb x.word f.dead) (ltb 0 x.word && ltb x.word n) e) ∙ parts.0) in
      ap (λ (c : Node). is_child v c (record { child = x.word; low = x.key; high = first_key xs high }) && all (λ s. is_child v (node s.child) s) (spans xs high)) (same x.word (ltb-true x.word n words.1))
      ∙ ap (λ b. is_child v (other x.word) (record { child = x.word; low = x.key; high = first_key xs high }) && b) (spans_same v xs high e parts.1)

  children_same : (v : Node) → is_formed f v ≡ true → has_children node v ≡ has_children other v
  children_same v h = go (v.live && ltb 0 v.level) refl
    where
      inner : (v.live && ltb 0 v.level) ≡ true → all (λ s. is_child v (node s.child) s) (spans v.pairs v.high) ≡ all (λ s. is_child v (other s.child) s) (spans v.pairs v.high)
      inner e =
          let live = and_parts v.live (ltb 0 v.level) e in
          let up = ltb-true 0 v.level live.1 in
          let ok = sym (cond-true v.live (is_node_ok f v) (is_free v) live.0) ∙ h in
          let z = (v.level == 0) || (not (is_nil v.pairs) && (first_key v.pairs v.high == v.low)) in
          let w = all (word_ok f v) v.pairs in
          let u = is_rising v.low v.pairs v.high in
          let a = and_parts (leb (length v.pairs) f.room) (leb v.level f.levels && (u && (w && z))) ok in
          let b = and_parts (leb v.level f.levels) (u && (w && z)) a.1 in
          let c = and_parts u (w && z) b.1 in
          let d = and_parts w z c.1 in
          spans_same v v.pairs v.high (ne_eqb v.level 0 (λ q. omega arith)) d.0

      go : (b : Bool) → (v.live && ltb 0 v.level) ≡ b → cond b (all (λ s. is_child v (node s.child) s) (spans v.pairs v.high)) true ≡ cond b (all (λ s. is_child v (other s.child) s) (spans v.pairs v.high)) true
      go true e = inner e
      go false e = refl

  guard : (a c x y d : Bool) → (a ≡ true → x ≡ y) → (a && (c && (x && d))) ≡ (a && (c && (y && d)))
  guard true c x y d h = ap (λ b. c && (b && d)) (h refl)
  guard false c x y d h = refl

  page_same : (p : ℕ) → p < n → page_ok f node p ≡ page_ok f other p
  page_same p l =
      ap (λ (v : Node). is_formed f v && (is_root f v p && (has_children node v && is_named f node p))) (same p l)
      ∙ guard (is_formed f (other p)) (is_root f (other p) p) (has_children node (other p)) (has_children other (other p)) (is_named f node p) (children_same (other p))
      ∙ ap (λ b. is_formed f (other p) && (is_root f (other p) p && (has_children other (other p) && b))) (named_same p l)

  bad_same : (m : ℕ) → m ≤ n → first_bad m (page_ok f node) ≡ first_bad m (page_ok f other)
  bad_same zero l = refl
  bad_same (suc m) l =
      ap (λ o. or_else o (page_ok f node m) m) (bad_same m (omega arith))
      ∙ ap (λ b. or_else (first_bad m (page_ok f other)) b m) (page_same m (omega arith))

  pub break_same : first_break f node ≡ first_break f other
  break_same = bad_same n (omega arith)

-- ## The nodes that were taken

abbrev at : List Node → ℕ → Node
at [] p = free
at (x ∷ xs) zero = x
at (x ∷ xs) (suc p) = at xs p

last : (xs : List Node) (y : Node) (p : ℕ) → p ≡ length xs → at (xs ++ y ∷ []) p ≡ y
last [] y zero e = refl
last [] y (suc p) e = absurd (omega arith)
last (x ∷ xs) y zero e = absurd (omega arith)
last (x ∷ xs) y (suc p) e = last xs y p (omega arith)

prefix : (xs : List Node) (y : Node) (p : ℕ) → p < length xs → at (xs ++ y ∷ []) p ≡ at xs p
prefix [] y p l = absurd (omega arith)
prefix (x ∷ xs) y zero l = refl
prefix (x ∷ xs) y (suc p) l = prefix xs y p (omega arith)

size_last : (xs : List Node) (y : Node) → length (xs ++ y ∷ []) ≡ suc (length xs)
size_last [] y = refl
size_last (x ∷ xs) y = ap suc (size_last xs y)

size_taken : (n : ℕ) (node : ℕ → Node) → length (taken n node) ≡ n
size_taken zero node = refl
size_taken (suc n) node = size_last (taken n node) (node n) ∙ ap suc (size_taken n node)

at_taken : (n : ℕ) (node : ℕ → Node) (p : ℕ) → p < n → at (taken n node) p ≡ node p
at_taken zero node p l = absurd (omega arith)
at_taken (suc n) node p l = let z = size_taken n node in elim (cases_lt p n) [
  | inl q ↦ prefix (taken n node) (node n) p (omega arith) ∙ at_taken n node p q
  | inr q ↦ let e : p ≡ n = omega arith in last (taken n node) (node n) p (omega arith) ∙ ap node (sym e)
]

size_map : (vs : List declared.Node) → length (map node_of vs) ≡ length vs
size_map [] = refl
size_map (v ∷ vs) = ap suc (size_map vs)

at_nodes : (vs : List declared.Node) (p : ℕ) → nodes vs p ≡ at (map node_of vs) p
at_nodes [] p = refl
at_nodes (v ∷ vs) zero = refl
at_nodes (v ∷ vs) (suc p) = at_nodes vs p

pub break_taken : (n : ℕ) (node : ℕ → Node) (vs : List declared.Node) → map node_of vs ≡ taken n node → first_break (format_of (length vs)) (nodes vs) ≡ first_break (format_of n) node
break_taken n node vs e =
    ap (λ m. first_break (format_of m) (nodes vs)) (sym (size_map vs) ∙ ap length e ∙ size_taken n node)
    ∙ break_same n (nodes vs) node (λ p l. at_nodes vs p ∙ ap (λ xs. at xs p) e ∙ at_taken n node p l)

-- ## All of them

pub first_without_is : (i : images.Image) (z : List Entry) → rules.first_without i z ≡ without_in (images.lost i) (images.has_entry i) z
first_without_is i [] = refl
first_without_is i (r ∷ z) = ap (rules.or_first (without (images.lost i) (images.has_entry i) r)) (first_without_is i z)
