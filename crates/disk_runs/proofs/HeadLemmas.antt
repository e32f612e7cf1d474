-- Records from a head on, and those up to it.
use Rattle.std.proofs.Common.{◌≡◌, inl, inr, ◌≤◌, ℕ, Bool, true, false, cond, leb, not, List, [], ◌∷◌, ◌++◌, refl, sym, ap, ap₂, ◌∙◌, subst, arith, true≢false}
use Rattle.std.proofs.lemmas.Bool.{leb-true, le-leb}
use Rattle.map_model.specs.Lists.{Has, keep}
use Rattle.master_store.specs.image_model.Entries.{Entry}
use Rattle.map_model.proofs.ListLemmas.{has_right, keep_has}
use Rattle.core_disk.proofs.core_crash.Images.{Numbers}
use Rattle.core_disk.specs.core_crash.Crashes.{from_head}
use Rattle.std.proofs.lemmas.List.{append-nil}

-- the records up to the head
abbrev pub up_to_head : ℕ → List Entry → List Entry
up_to_head h l = keep (λ r. leb r.number h) l

-- a list of records none of which is beyond the head
none_beyond : (h : ℕ) (l : List Entry) → ((r : Entry) → Has r l → r.number ≤ h) → (from_head h l ≡ []) × (up_to_head h l ≡ l)
none_beyond h [] low = (refl, refl)
none_beyond h (r ∷ l) low = go (none_beyond h l (λ x i. low x (inr i))) (leb r.number h) (le-leb r.number h (low r (inl refl)))
  where
    go : (from_head h l ≡ []) × (up_to_head h l ≡ l) → (b : Bool) → b ≡ true → (cond (not b) (r ∷ from_head h l) (from_head h l) ≡ []) × (cond b (r ∷ up_to_head h l) (up_to_head h l) ≡ r ∷ l)
    go ih true e = (ih.0, ap (λ (z : List Entry). r ∷ z) ih.1)
    go ih false e = absurd (true≢false (sym e))

-- a list whose numbers fall is the records beyond the head, and then those up to it
pub split_at : (h : ℕ) (l : List Entry) → Numbers l → from_head h l ++ up_to_head h l ≡ l
split_at h [] n = refl
split_at h (r ∷ l) n = go (split_at h l n.1) (leb r.number h) refl
  where
    go : from_head h l ++ up_to_head h l ≡ l → (b : Bool) → leb r.number h ≡ b → cond (not b) (r ∷ from_head h l) (from_head h l) ++ cond b (r ∷ up_to_head h l) (up_to_head h l) ≡ r ∷ l
    go ih false e = ap (λ (z : List Entry). r ∷ z) ih
    go ih true e =
        let most = leb-true r.number h e in
        let q = none_beyond h l (λ x i. let lt = n.0 x i in omega arith) in
        ap₂ (λ (a b : List Entry). a ++ r ∷ b) q.0 q.1

keep_append : (p : Entry → Bool) (a b : List Entry) → keep p (a ++ b) ≡ keep p a ++ keep p b
keep_append p [] b = refl
keep_append p (x ∷ a) b = go (keep_append p a b) (p x)
  where
    go : keep p (a ++ b) ≡ keep p a ++ keep p b → (c : Bool) → cond c (x ∷ keep p (a ++ b)) (keep p (a ++ b)) ≡ cond c (x ∷ keep p a) (keep p a) ++ keep p b
    go ih true = ap (λ (z : List Entry). x ∷ z) ih
    go ih false = ih

keep_all : (p : Entry → Bool) (l : List Entry) → ((r : Entry) → Has r l → p r ≡ true) → keep p l ≡ l
keep_all p [] all = refl
keep_all p (x ∷ l) all = go (keep_all p l (λ r i. all r (inr i))) (p x) (all x (inl refl))
  where
    go : keep p l ≡ l → (c : Bool) → c ≡ true → cond c (x ∷ keep p l) (keep p l) ≡ x ∷ l
    go ih true e = ap (λ (z : List Entry). x ∷ z) ih
    go ih false e = absurd (true≢false (sym e))

keep_none : (p : Entry → Bool) (l : List Entry) → ((r : Entry) → Has r l → p r ≡ false) → keep p l ≡ []
keep_none p [] none = refl
keep_none p (x ∷ l) none = go (keep_none p l (λ r i. none r (inr i))) (p x) (none x (inl refl))
  where
    go : keep p l ≡ [] → (c : Bool) → c ≡ false → cond c (x ∷ keep p l) (keep p l) ≡ []
    go ih true e = absurd (true≢false e)
    go ih false e = ih

-- the records beyond the head of some of these with those up to the head behind them
pub from_prefix : (h : ℕ) (l newer xs : List Entry) → newer ++ xs ≡ from_head h l → from_head h (xs ++ up_to_head h l) ≡ xs
from_prefix h l newer xs e =
    keep_append (λ r. not (leb r.number h)) xs (up_to_head h l)
    ∙ (ap₂ (λ (a b : List Entry). a ++ b)
    (keep_all (λ r. not (leb r.number h)) xs (λ r i. (keep_has (λ r. not (leb r.number h)) l r (subst (Has r) e (has_right r newer xs i))).1))
    (keep_none (λ r. not (leb r.number h)) (up_to_head h l) (λ r i. ap not (keep_has (λ r. leb r.number h) l r i).1))
    ∙ append-nil xs)
