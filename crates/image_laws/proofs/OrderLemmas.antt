-- What is kept by a swap of two neighbours, and under a common head, is kept where a list is put in order.
use Rattle.std.proofs.Common.{◌≡◌, ℕ, suc, max, Bool, true, false, cond, ◌&&◌, ◌||◌, not, leb, ◌==◌, List, [], ◌∷◌, length, refl, sym, ◌∙◌, inl, inr, ap, ap₂, arith}
use Rattle.std.proofs.lemmas.Bool.{eqb-true, eq-eqb, ne_eqb, cases_eq, and_parts}
use Rattle.map_model.specs.Lists.{any, keep, insert_by, in_order}
use Rattle.map_model.proofs.ListLemmas.{order_has, has_order}
use Rattle.rfa_model.specs.Reaches.{least}
use Rattle.image_model.specs.Entries.{Entry, is_end, earlier, same_txn}
use Rattle.image_model.specs.Ends as images
use Rattle.image_laws.specs.Orders.{EveryOrder}
use mathlib.Core.Path.{fun_ext}

-- ## A relation between lists

-- each list has it to itself, and it goes through chains, common heads and swaps of two neighbours
pub record IsKept {A : Type 0} (R : List A → List A → Type 0) : Type 0 where
  pub same : (xs : List A) → R xs xs
  pub joined : (xs ys zs : List A) → R xs ys → R ys zs → R xs zs
  pub headed : (x : A) (xs ys : List A) → R xs ys → R (x ∷ xs) (x ∷ ys)
  pub swapped : (x y : A) (xs : List A) → R (y ∷ x ∷ xs) (x ∷ y ∷ xs)

module _ {A : Type 0} (lt : A → A → Bool) (R : List A → List A → Type 0) (k : IsKept R) where
  kept_insert : (x : A) (ys : List A) → R (insert_by lt x ys) (x ∷ ys)
  kept_insert x [] = k.same (x ∷ [])
  kept_insert x (y ∷ ys) = go (kept_insert x ys) (lt x y)
    where
      go : R (insert_by lt x ys) (x ∷ ys) → (b : Bool) → R (cond b (y ∷ insert_by lt x ys) (x ∷ y ∷ ys)) (x ∷ y ∷ ys)
      go ih true = k.joined (y ∷ insert_by lt x ys) (y ∷ x ∷ ys) (x ∷ y ∷ ys) (k.headed y (insert_by lt x ys) (x ∷ ys) ih) (k.swapped x y ys)
      go ih false = k.same (x ∷ y ∷ ys)

  pub kept_order : (xs : List A) → R (in_order lt xs) xs
  kept_order [] = k.same []
  kept_order (x ∷ xs) =
      k.joined (insert_by lt x (in_order lt xs)) (x ∷ in_order lt xs) (x ∷ xs) (kept_insert x (in_order lt xs))
      (k.headed x (in_order lt xs) xs (kept_order xs))

-- ## What tests tell of a list

any_kept : {A : Type 0} (p : A → Bool) → IsKept (λ xs ys. any p xs ≡ any p ys)
any_kept {A} p = record {
  same = λ xs. refl;
  joined = λ xs ys zs a b. a ∙ b;
  headed = λ x xs ys a. ap (λ b. p x || b) a;
  swapped = λ x y xs. swap (p x) (p y) (any p xs);
}
  where
    swap : (a b c : Bool) → (b || (a || c)) ≡ (a || (b || c))
    swap true true c = refl
    swap true false c = refl
    swap false true c = refl
    swap false false c = refl

pub any_order : {A : Type 0} (lt : A → A → Bool) (p : A → Bool) (xs : List A) → any p (in_order lt xs) ≡ any p xs
any_order lt p = kept_order lt (λ xs ys. any p xs ≡ any p ys) (any_kept p)

-- one more where the test holds
abbrev one_more : Bool → ℕ → ℕ
one_more b n = cond b (suc n) n

one_more_swap : (a b : Bool) (n : ℕ) → one_more b (one_more a n) ≡ one_more a (one_more b n)
one_more_swap true true n = refl
one_more_swap true false n = refl
one_more_swap false true n = refl
one_more_swap false false n = refl

keep_one : {A : Type 0} (p : A → Bool) (x : A) (xs : List A) → length (keep p (x ∷ xs)) ≡ one_more (p x) (length (keep p xs))
keep_one {A} p x xs = go (p x)
  where
    go : (b : Bool) → length (cond b (x ∷ keep p xs) (keep p xs)) ≡ one_more b (length (keep p xs))
    go true = refl
    go false = refl

keep_kept : {A : Type 0} (p : A → Bool) → IsKept (λ xs ys. length (keep p xs) ≡ length (keep p ys))
keep_kept {A} p = record {
  same = λ xs. refl;
  joined = λ xs ys zs a b. a ∙ b;
  headed = λ x xs ys a. keep_one p x xs ∙ (ap (λ n. one_more (p x) n) a ∙ sym (keep_one p x ys));
  swapped = λ x y xs. two y x xs ∙ (one_more_swap (p x) (p y) (length (keep p xs)) ∙ sym (two x y xs));
}
  where
    two : (x y : A) (xs : List A) → length (keep p (x ∷ y ∷ xs)) ≡ one_more (p x) (one_more (p y) (length (keep p xs)))
    two x y xs = keep_one p x (y ∷ xs) ∙ ap (λ n. one_more (p x) n) (keep_one p y xs)

pub keep_order : {A : Type 0} (lt : A → A → Bool) (p : A → Bool) (xs : List A) → length (keep p (in_order lt xs)) ≡ length (keep p xs)
keep_order lt p = kept_order lt (λ xs ys. length (keep p xs) ≡ length (keep p ys)) (keep_kept p)

-- ## The reach of the logs

greatest_kept : (w : ℕ) → IsKept (λ xs ys. images.greatest w xs ≡ images.greatest w ys)
greatest_kept w = record {
  same = λ xs. refl;
  joined = λ xs ys zs a b. a ∙ b;
  headed = λ x xs ys a. ap (λ g. cond (x.log == w) (max x.number g) g) a;
  swapped = λ x y xs. swap (x.log == w) (y.log == w) x.number y.number (images.greatest w xs);
}
  where
    swap : (a b : Bool) (m n g : ℕ) →
        cond b (max n (cond a (max m g) g)) (cond a (max m g) g) ≡ cond a (max m (cond b (max n g) g)) (cond b (max n g) g)
    swap true true m n g = omega arith
    swap true false m n g = refl
    swap false true m n g = refl
    swap false false m n g = refl

reach_order : (logs floor : ℕ) (z : List Entry) → images.reach logs floor (in_order earlier z) ≡ images.reach logs floor z
reach_order logs floor z =
    ap (λ (g : ℕ → ℕ). least (λ w. max floor (g w)) logs)
    (fun_ext (λ w. kept_order earlier (λ xs ys. images.greatest w xs ≡ images.greatest w ys) (greatest_kept w) z))

-- ## Transactions

names_length : (z : List Entry) → length (images.names_of z) ≡ length z
names_length [] = refl
names_length (r ∷ z) = ap suc (names_length z)

same_back : (a b : ℕ) → (a == b) ≡ (b == a)
same_back a b = elim (cases_eq a b) [
  | inl e ↦ eq-eqb a b e ∙ sym (eq-eqb b a (sym e))
  | inr n ↦ ne_eqb a b n ∙ sym (ne_eqb b a (λ e. n (sym e)))
]

txn_back : (x y : Entry) → same_txn x y ≡ same_txn y x
txn_back x y = ap₂ (λ a b. a && b) (same_back x.log y.log) (same_back x.txn y.txn)

-- a value of the transaction alone
alike : {B : Type 0} (f : ℕ → ℕ → B) (x y : Entry) → same_txn x y ≡ true → f x.log x.txn ≡ f y.log y.txn
alike f x y e = let p = and_parts (x.log == y.log) (x.txn == y.txn) e in ap₂ f (eqb-true x.log y.log p.0) (eqb-true x.txn y.txn p.1)

any_alike : (z : List Entry) (x y : Entry) → same_txn x y ≡ true → any (same_txn x) z ≡ any (same_txn y) z
any_alike z = alike (λ l t. any (λ e. (l == e.log) && (t == e.txn)) z)

-- a test that tells the same of two records of one transaction
module _ (p : Entry → Bool) (told : (x y : Entry) → same_txn x y ≡ true → p x ≡ p y) where
  abbrev count : List Entry → ℕ
  count z = length (keep p (images.firsts z))

  count_one : (r : Entry) (z : List Entry) → count (r ∷ z) ≡ one_more (not (any (same_txn r) z) && p r) (count z)
  count_one r z = go (not (any (same_txn r) z))
    where
      go : (b : Bool) → length (keep p (cond b (r ∷ images.firsts z) (images.firsts z))) ≡ one_more (b && p r) (count z)
      go true = keep_one p r (images.firsts z)
      go false = refl

  -- a record that passes, with none of its transaction behind it; met: the one next to it is of its transaction
  abbrev counts : Bool → Entry → List Entry → Bool
  counts met r z = not (met || any (same_txn r) z) && p r

  count_two : (x y : Entry) (z : List Entry) → count (x ∷ y ∷ z) ≡ one_more (counts (same_txn x y) x z) (one_more (counts false y z) (count z))
  count_two x y z = count_one x (y ∷ z) ∙ ap (λ n. one_more (counts (same_txn x y) x z) n) (count_one y z)

  swap : (x y : Entry) (z : List Entry) (met : Bool) → same_txn x y ≡ met →
      one_more (counts met y z) (one_more (counts false x z) (count z)) ≡ one_more (counts met x z) (one_more (counts false y z) (count z))
  swap x y z true e = ap₂ (λ a b. one_more (not a && b) (count z)) (any_alike z x y e) (told x y e)
  swap x y z false e = one_more_swap (counts false x z) (counts false y z) (count z)

  -- the same transactions, and as many that pass
  record AsMany (xs ys : List Entry) : Type 0 where
    txns : (r : Entry) → any (same_txn r) xs ≡ any (same_txn r) ys
    many : count xs ≡ count ys

  count_kept : IsKept AsMany
  count_kept = record {
    same = λ xs. record { txns = λ r. refl; many = refl };
    joined = λ xs ys zs a b. record { txns = λ r. a.txns r ∙ b.txns r; many = a.many ∙ b.many };
    headed = λ x xs ys a. record {
      txns = λ r. (any_kept (same_txn r)).headed x xs ys (a.txns r);
      many = count_one x xs ∙ (ap₂ (λ b n. one_more (not b && p x) n) (a.txns x) a.many ∙ sym (count_one x ys));
    };
    swapped = λ x y xs. record {
      txns = λ r. (any_kept (same_txn r)).swapped x y xs;
      many = count_two y x xs
          ∙ (ap (λ met. one_more (counts met y xs) (one_more (counts false x xs) (count xs))) (txn_back y x)
          ∙ (swap x y xs (same_txn x y) refl ∙ sym (count_two x y xs)));
    };
  }

  count_order : (z : List Entry) → count (in_order earlier z) ≡ count z
  count_order z = (kept_order earlier AsMany count_kept z).many

-- ## The law

ended_order : (far : ℕ) (z : List Entry) (r : Entry) → images.ended far (in_order earlier z) r ≡ images.ended far z r
ended_order far z r = any_order earlier (images.ends far r) z

ended_alike : (far : ℕ) (z : List Entry) (x y : Entry) → same_txn x y ≡ true → images.ended far z x ≡ images.ended far z y
ended_alike far z = alike (λ l t. any (λ e. is_end e.kind && (((e.log == l) && (e.txn == t)) && leb e.need far)) z)

winners_order : (far : ℕ) (z : List Entry) → length (images.winners far (in_order earlier z)) ≡ length (images.winners far z)
winners_order far z =
    names_length (keep (images.wins far) (in_order earlier z))
    ∙ (keep_order earlier (images.wins far) z
    ∙ sym (names_length (keep (images.wins far) z)))

losers_order : (far : ℕ) (z : List Entry) → length (images.losers far (in_order earlier z)) ≡ length (images.losers far z)
losers_order far z =
    ap (λ (p : Entry → Bool). length (images.names_of (keep p (images.firsts (in_order earlier z))))) (fun_ext (λ r. ap not (ended_order far z r)))
    ∙ (names_length (keep (λ r. not (images.ended far z r)) (images.firsts (in_order earlier z)))
    ∙ (count_order (λ r. not (images.ended far z r)) (λ x y e. ap not (ended_alike far z x y e)) z
    ∙ sym (names_length (keep (λ r. not (images.ended far z r)) (images.firsts z)))))

pub every_order : EveryOrder
every_order z = record {
  reach = λ logs floor. reach_order logs floor z;
  ended = λ far r. ended_order far z r;
  winners = λ far. winners_order far z;
  losers = λ far. losers_order far z;
  has = λ r. (order_has earlier z r, has_order earlier z r);
}
