-- A table in which pages are named by another one, or by none.
use Rattle.std.proofs.Common.{◌≡◌, ◌≢◌, ◌⊎◌, inl, inr, ◌<◌, ℕ, zero, suc, ltb, List, [], ◌∷◌, length, set, drop, Option, refl, sym, ap, ◌∙◌, subst, arith}
use Rattle.std.proofs.lemmas.Bool.{cases_eq, cond-true, cond-false, lt-ltb, le-ltb}
use Rattle.std.proofs.lemmas.List.{length-set, get_or-set_same, get_or-set_other}
use Rattle.page_model.specs.Pairs.{Pair, Has}
use Rattle.page_model.specs.Nodes.{Node}
use Rattle.page_model.specs.Needs.{key_at}
use Rattle.page_model.specs.Page.{word_at}
use Rattle.cold_pages.specs.declared.kept.Kept.{Kept}
use Rattle.cold_pages.specs.Kept.{nothing, kept_of, children, named}

-- ## A place

-- the pairs from a place on
pub drop_one : (xs : List Pair) (i : ℕ) → i < length xs → drop i xs ≡ record { key = key_at i xs; word = word_at i xs } ∷ drop (suc i) xs
drop_one [] i l = absurd (let no : ⊥ = omega arith in no)
drop_one (x ∷ xs) zero l = refl
drop_one (x ∷ xs) (suc i) l = drop_one xs i (omega arith)

pub drop_all : (xs : List Pair) → drop (length xs) xs ≡ []
drop_all [] = refl
drop_all (x ∷ xs) = drop_all xs

-- ## Children

pub children_inner : (v : Node) → 0 < v.level → children v ≡ v.pairs
children_inner v l = cond-true (ltb 0 v.level) v.pairs [] (lt-ltb 0 v.level l)

pub children_none : (v : Node) → v.level ≡ 0 → children v ≡ []
children_none v e = cond-false (ltb 0 v.level) v.pairs [] (le-ltb 0 v.level (omega arith))

-- ## Names

-- what is written of a child
abbrev pub under : Option ℕ → ℕ → Kept → Kept
under parent key was = record was { low = key; parent = parent }

-- but for the low fence and the parent, an entry is the other one
pub record IsBut (was is : Kept) : Type 0 where
  pub gsn : is.gsn ≡ was.gsn
  pub last : is.last ≡ was.last
  pub level : is.level ≡ was.level
  pub high : is.high ≡ was.high
  pub count : is.count ≡ was.count

but_same : {a b : Kept} → b ≡ a → IsBut a b
but_same e = record { gsn = ap (λ (k : Kept). k.gsn) e; last = ap (λ (k : Kept). k.last) e; level = ap (λ (k : Kept). k.level) e; high = ap (λ (k : Kept). k.high) e; count = ap (λ (k : Kept). k.count) e }

but_then : {a b c : Kept} → IsBut a b → IsBut b c → IsBut a c
but_then x y = record { gsn = y.gsn ∙ x.gsn; last = y.last ∙ x.last; level = y.level ∙ x.level; high = y.high ∙ x.high; count = y.count ∙ x.count }

-- a key is not that of one of the pairs
abbrev pub IsOff : ℕ → List Pair → Type 0
IsOff c xs = (x : Pair) → Has x xs → x.word ≢ c

-- some pair names the page, or none does
pub record Naming (c : ℕ) (xs : List Pair) : Type 0 where
  pub pair : Pair
  pub has : Has pair xs
  pub word : pair.word ≡ c

pub named_or_off : (c : ℕ) (xs : List Pair) → Naming c xs ⊎ IsOff c xs
named_or_off c [] = inr (λ x m. absurd m)
named_or_off c (x ∷ xs) = at (cases_eq x.word c) (named_or_off c xs)
  where
    at : (x.word ≡ c) ⊎ (x.word ≢ c) → Naming c xs ⊎ IsOff c xs → Naming c (x ∷ xs) ⊎ IsOff c (x ∷ xs)
    at (inl e) r = inl (record { pair = x; has = inl refl; word = e })
    at (inr n) (inl r) = inl (record { pair = r.pair; has = inr r.has; word = r.word })
    at (inr n) (inr r) = inr (λ y m. elim m [ inl e ↦ (λ w. n (sym (ap (λ (z : Pair). z.word) e) ∙ w)) | inr k ↦ r y k ])

module _ (parent : Option ℕ) where
  -- the table behind one pair
  abbrev pub one : List Kept → Pair → List Kept
  one table x = set table x.word (under parent x.key (kept_of table x.word))

  pub length-named : (xs : List Pair) (table : List Kept) → length (named parent xs table) ≡ length table
  length-named [] table = refl
  length-named (x ∷ xs) table = length-named xs (one table x) ∙ length-set table x.word (under parent x.key (kept_of table x.word))

  -- a page that none of the pairs names is kept as before
  pub named_off : (c : ℕ) (xs : List Pair) (table : List Kept) → IsOff c xs → kept_of (named parent xs table) c ≡ kept_of table c
  named_off c [] table off = refl
  named_off c (x ∷ xs) table off =
      named_off c xs (one table x) (λ y m. off y (inr m))
      ∙ get_or-set_other table x.word c (under parent x.key (kept_of table x.word)) nothing (λ e. off x (inl refl) (sym e))

  one_but : (c : ℕ) (table : List Kept) (x : Pair) → x.word < length table → IsBut (kept_of table c) (kept_of (one table x) c)
  one_but c table x l = at (cases_eq c x.word)
    where
      at : (c ≡ x.word) ⊎ (c ≢ x.word) → IsBut (kept_of table c) (kept_of (one table x) c)
      at (inl e) =
          let k = under parent x.key (kept_of table x.word) in
          let s : kept_of (one table x) c ≡ k = ap (λ (i : ℕ). kept_of (one table x) i) e ∙ get_or-set_same table x.word k nothing l in
          let w : kept_of table x.word ≡ kept_of table c = ap (λ (i : ℕ). kept_of table i) (sym e) in
          but_then (but_same w) (but_then (record { gsn = refl; last = refl; level = refl; high = refl; count = refl }) (but_same s))
      at (inr n) = but_same (get_or-set_other table x.word c (under parent x.key (kept_of table x.word)) nothing n)

  -- of each page all else is kept as before
  pub named_but : (c : ℕ) (xs : List Pair) (table : List Kept) → ((x : Pair) → Has x xs → x.word < length table) → IsBut (kept_of table c) (kept_of (named parent xs table) c)
  named_but c [] table l = but_same refl
  named_but c (x ∷ xs) table l =
      let n = length-set table x.word (under parent x.key (kept_of table x.word)) in
      but_then (one_but c table x (l x (inl refl))) (named_but c xs (one table x) (λ y m. subst (λ (i : ℕ). y.word < i) (sym n) (l y (inr m))))

  -- a page that a pair names is kept under this one, from the pair's key on, where no other pair names it from another
  pub named_on : (x : Pair) (xs : List Pair) (table : List Kept) → Has x xs → x.word < length table → ((y : Pair) → Has y xs → y.word ≡ x.word → y.key ≡ x.key)
      → ((kept_of (named parent xs table) x.word).parent ≡ parent) × ((kept_of (named parent xs table) x.word).low ≡ x.key)
  named_on x [] table m l only = absurd m
  named_on x (y ∷ ys) table m l only = at (λ z k b o. named_on z ys (one table y) k b o) (named_or_off x.word ys)
    where
      long : length (one table y) ≡ length table
      long = length-set table y.word (under parent y.key (kept_of table y.word))

      last : x ≡ y → IsOff x.word ys → ((kept_of (named parent ys (one table y)) x.word).parent ≡ parent) × ((kept_of (named parent ys (one table y)) x.word).low ≡ x.key)
      last e off =
          let k = under parent y.key (kept_of table y.word) in
          let w : x.word ≡ y.word = ap (λ (z : Pair). z.word) e in
          let s : kept_of (named parent ys (one table y)) x.word ≡ k = named_off x.word ys (one table y) off ∙ (ap (λ (i : ℕ). kept_of (one table y) i) w ∙ get_or-set_same table y.word k nothing (subst (λ (i : ℕ). i < length table) w l)) in
          (ap (λ (z : Kept). z.parent) s, ap (λ (z : Kept). z.low) s ∙ sym (ap (λ (z : Pair). z.key) e))

      off_it : IsOff x.word ys → Has x (y ∷ ys) → x ≡ y
      off_it off (inl e) = e
      off_it off (inr k) = absurd (off x k refl)

      at : ((z : Pair) → Has z ys → z.word < length (one table y) → ((w : Pair) → Has w ys → w.word ≡ z.word → w.key ≡ z.key) → ((kept_of (named parent ys (one table y)) z.word).parent ≡ parent) × ((kept_of (named parent ys (one table y)) z.word).low ≡ z.key))
          → Naming x.word ys ⊎ IsOff x.word ys → ((kept_of (named parent ys (one table y)) x.word).parent ≡ parent) × ((kept_of (named parent ys (one table y)) x.word).low ≡ x.key)
      at ih (inl n) =
          let key : n.pair.key ≡ x.key = only n.pair (inr n.has) n.word in
          let r = ih n.pair n.has (subst (λ (i : ℕ). i < length (one table y)) (sym n.word) (subst (λ (i : ℕ). x.word < i) (sym long) l)) (λ z k e. only z (inr k) (e ∙ n.word) ∙ sym key) in
          (subst (λ (i : ℕ). (kept_of (named parent ys (one table y)) i).parent ≡ parent) n.word r.0, subst (λ (i : ℕ). (kept_of (named parent ys (one table y)) i).low ≡ n.pair.key) n.word r.1 ∙ key)
      at ih (inr off) = last (off_it off m) off
