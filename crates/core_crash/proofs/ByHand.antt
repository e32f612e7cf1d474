-- The run by hand, computed.
use Rattle.std.proofs.Common.{◌≡◌, ◌<◌, ◌≤◌, ◌^◌, ◌-◌, ◌==◌, ℕ, zero, suc, Bool, true, false, cond, List, [], ◌∷◌, ◌++◌, Some, None, if◌then◌else◌, refl, sym, ap, ◌∙◌, inl, inr, arith}
use Rattle.std.proofs.lemmas.Bool.{cases_eq, ne_eqb}
use Rattle.map_model.specs.Journals.{Txn, after}
use Rattle.map_model.specs.Lists.{Has}
use Rattle.page_model.specs.Nodes.{Format, Node}
use Rattle.page_model.specs.Tree.{IsTree, value_of}
use Rattle.page_model.specs.Nodes.{holds}
use Rattle.page_model.proofs.Check as page_check
use Rattle.core_paging.specs.image_model.Entries.{Entry}
use Rattle.core_paging.specs.core_state.States.{State, start}
use Rattle.core_paging.specs.core_state.Openings.{Opening, start_page, first_map}
use Rattle.core_paging.specs.core_state.Steps.{run}
use Rattle.core_crash.specs.Crashes.{Leaves, IsPrefix, log_of, kept_in}
use Rattle.core_crash.specs.Example.{events, logs_left, second, Example, image, WorkedExample}
use Rattle.core_crash.proofs.Recovery.{every_crash}

abbrev pub format : Format
format = record { pages = 1; room = 60; levels = 7; dead = 2 ^ 63; top = 2 ^ 64 - 1; some = omega arith; wide = omega arith }

-- one empty leaf
abbrev pub leaf : ℕ → Node
leaf _ = record { live = true; level = 0; low = 0; high = 2 ^ 64 - 1; pairs = [] }

pub leaf_tree : IsTree format leaf
leaf_tree = (page_check.every_check format leaf).sound (omega arith) refl

abbrev pub opening : Opening
opening = record {
  faithful = true;
  workers = 2;
  frames = 1;
  row_of = λ k. k;
  changes = 64;
  joined = 45;
  base = 0;
  format = format;
  gsn = λ _. 0;
  last = λ _. 0;
  node = leaf;
  some_worker = omega arith;
  some_frame = omega arith;
  fit = omega arith;
  keys = omega arith;
  values = omega arith;
  low = λ p. omega arith;
  tree = leaf_tree;
}

abbrev last : State
last = run opening (start opening) events

-- workers 1 and 2
two : (P : ℕ → Type 0) → P 1 → P 2 → (w : ℕ) → 0 < w → w ≤ 2 → P w
two P a b zero l h = absurd (omega arith)
two P a b (suc zero) l h = a
two P a b (suc (suc zero)) l h = b
two P a b (suc (suc (suc w))) l h = absurd (omega arith)

nothing : (k : ℕ) → first_map opening k ≡ None
nothing k = go (holds (leaf 0) k)
  where
    go : (b : Bool) → value_of format (cond b None None) ≡ None
    go true = refl
    go false = refl

append_nil : (xs : List Entry) → xs ++ [] ≡ xs
append_nil [] = refl
append_nil (x ∷ xs) = ap (λ (l : List Entry). x ∷ l) (append_nil xs)

leaves_without : Leaves opening events (logs_left last false) (start_page opening)
leaves_without = record {
  prefixes = two (λ w. IsPrefix (logs_left last false w) (log_of w last.entries)) (log_of 1 last.entries, append_nil (log_of 1 last.entries)) ([], refl);
  flushed = two (λ w. (r : Entry) → Has r (log_of w last.entries) → r.number ≤ last.flushed w → Has r (logs_left last false w)) (λ r i l. first r i l) (λ r i l. i);
  pages = λ p. inl refl;
  numbers = λ p. omega arith;
  changes = λ p r i t l. l;
}
  where
    first : (r : Entry) → Has r (log_of 1 last.entries) → r.number ≤ 0 → ⊥
    first r (inl e) l = let n : r.number ≡ 1 = ap (λ (x : Entry). x.number) e in absurd (omega arith)
    first r (inr i) l = i

leaves_with : Leaves opening events (logs_left last true) (start_page opening)
leaves_with = record {
  prefixes = two (λ w. IsPrefix (logs_left last true w) (log_of w last.entries)) ([], refl) ([], refl);
  flushed = two (λ w. (r : Entry) → Has r (log_of w last.entries) → r.number ≤ last.flushed w → Has r (logs_left last true w)) (λ r i l. i) (λ r i l. i);
  pages = λ p. inl refl;
  numbers = λ p. omega arith;
  changes = λ p r i t l. l;
}

abbrev example : Example
example = record {
  opening = opening;
  workers = refl;
  base = refl;
  empty = nothing;
  met = (refl, (refl, (refl, (refl, (refl, (refl, (refl, (refl, (refl, (refl, (refl, (refl, (refl, (refl, (refl, tt)))))))))))))));
  without = leaves_without;
  with = leaves_with;
}

none_kept : kept_in opening last (image example false) ≡ []
none_kept = refl

one_kept : kept_in opening last (image example true) ≡ second ∷ []
one_kept = refl

-- the map after the second transaction
second_map : (k : ℕ) → after (first_map opening) (second ∷ []) k ≡ (if k == 6 then Some 2 else None)
second_map k = elim (cases_eq k 6) [
  | inl e ↦ rw e refl
  | inr n ↦ rw (ne_eqb k 6 n, ne_eqb 6 k (λ e. n (sym e))) (nothing k)
]

pub worked : WorkedExample
worked = record {
  x = example;
  no_reach = refl;
  none_kept = none_kept;
  no_map = λ k. sym ((every_crash opening refl events (logs_left last false) (start_page opening) leaves_without).stands.map k) ∙ (ap (λ (l : List Txn). after (first_map opening) l k) none_kept ∙ nothing k);
  reached = refl;
  one_kept = one_kept;
  map = λ k. sym ((every_crash opening refl events (logs_left last true) (start_page opening) leaves_with).stands.map k) ∙ (ap (λ (l : List Txn). after (first_map opening) l k) one_kept ∙ second_map k);
}
