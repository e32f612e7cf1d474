-- Facts on lists whose elements are related pair by pair, and on lists that fall.
use Rattle.std.proofs.Common.{◌≡◌, ◌⊎◌, ◌<◌, ℕ, Bool, true, false, cond, ◌&&◌, ◌||◌, ltb, ◌==◌, List, [], ◌∷◌, ◌++◌, refl, sym, ap, ap₂, ◌∙◌, subst, inl, inr, arith}
use Rattle.map_model.proofs.ListLemmas.{has_keep, keep_has}
use Rattle.std.proofs.lemmas.Bool.{eq-eqb, eqb-true, ltb-true, and_parts, or_cases, cond-true}
use Rattle.map_model.specs.Lists.{Has, keep}
use Rattle.map_model.specs.Journals.{Txn, Journal, is_earlier}
use Rattle.map_model.specs.Laws.{IsFalling, AreApart}
use Rattle.core_calls.specs.Told.{Pairwise, Covers}

-- ## Pair by pair

pub pair_of : {A B : Type 0} (R : A → B → Type 0) (xs : List A) (ys : List B) → Pairwise R xs ys → (x : A) → Has x xs → (y : B) × Has y ys × R x y
pair_of R [] ys p x i = absurd i
pair_of R (a ∷ xs) [] p x i = absurd p
pair_of R (a ∷ xs) (b ∷ ys) p x (inl e) = (b, inl refl, subst (λ z. R z b) (sym e) p.1)
pair_of R (a ∷ xs) (b ∷ ys) p x (inr i) = let q = pair_of R xs ys p.0 x i in (q.0, inr q.1, q.2)

pub pair_for : {A B : Type 0} (R : A → B → Type 0) (xs : List A) (ys : List B) → Pairwise R xs ys → (y : B) → Has y ys → (x : A) × Has x xs × R x y
pair_for R [] [] p y i = absurd i
pair_for R [] (b ∷ ys) p y i = absurd p
pair_for R (a ∷ xs) [] p y i = absurd p
pair_for R (a ∷ xs) (b ∷ ys) p y (inl e) = (a, inl refl, subst (λ z. R a z) (sym e) p.1)
pair_for R (a ∷ xs) (b ∷ ys) p y (inr i) = let q = pair_for R xs ys p.0 y i in (q.0, inr q.1, q.2)

pub pairs_map : {A B : Type 0} (R S : A → B → Type 0) → ((x : A) (y : B) → R x y → S x y) → (xs : List A) (ys : List B) → Pairwise R xs ys → Pairwise S xs ys
pairs_map R S f [] [] p = tt
pairs_map R S f [] (b ∷ ys) p = absurd p
pairs_map R S f (a ∷ xs) [] p = absurd p
pairs_map R S f (a ∷ xs) (b ∷ ys) p = (pairs_map R S f xs ys p.0, f a b p.1)

-- those that pass, where pairs pass together
pub pairs_keep : {A B : Type 0} (R : A → B → Type 0) (p : A → Bool) (q : B → Bool) → ((x : A) (y : B) → R x y → p x ≡ q y) → (xs : List A) (ys : List B) → Pairwise R xs ys → Pairwise R (keep p xs) (keep q ys)
pairs_keep R p q f [] [] k = tt
pairs_keep R p q f [] (b ∷ ys) k = absurd k
pairs_keep R p q f (a ∷ xs) [] k = absurd k
pairs_keep R p q f (a ∷ xs) (b ∷ ys) k = subst (λ (c : Bool). Pairwise R (cond (p a) (a ∷ keep p xs) (keep p xs)) (cond c (b ∷ keep q ys) (keep q ys))) (f a b k.1) (go (pairs_keep R p q f xs ys k.0) (p a))
  where
    go : Pairwise R (keep p xs) (keep q ys) → (c : Bool) → Pairwise R (cond c (a ∷ keep p xs) (keep p xs)) (cond c (b ∷ keep q ys) (keep q ys))
    go ih true = (ih, k.1)
    go ih false = ih

-- through a third list
pub pairs_join : {A B C : Type 0} (R : A → C → Type 0) (S : B → C → Type 0) (T : A → B → Type 0) → ((x : A) (y : B) (z : C) → R x z → S y z → T x y) →
    (xs : List A) (ys : List B) (zs : List C) → Pairwise R xs zs → Pairwise S ys zs → Pairwise T xs ys
pairs_join R S T f [] [] [] p q = tt
pairs_join R S T f [] [] (z ∷ zs) p q = absurd p
pairs_join R S T f [] (y ∷ ys) [] p q = absurd q
pairs_join R S T f [] (y ∷ ys) (z ∷ zs) p q = absurd p
pairs_join R S T f (x ∷ xs) [] [] p q = absurd p
pairs_join R S T f (x ∷ xs) [] (z ∷ zs) p q = absurd q
pairs_join R S T f (x ∷ xs) (y ∷ ys) [] p q = absurd p
pairs_join R S T f (x ∷ xs) (y ∷ ys) (z ∷ zs) p q = (pairs_join R S T f xs ys zs p.0 q.0, f x y z p.1 q.1)

-- ## Two lists that have nothing

pub none_before : {A : Type 0} (a b : List A) → a ++ b ≡ [] → a ≡ []
none_before [] b e = refl
none_before (x ∷ a) b e = absurd (cc)

pub none_behind : {A : Type 0} (a b : List A) → a ++ b ≡ [] → b ≡ []
none_behind [] b e = e
none_behind (x ∷ a) b e = absurd (cc)

-- ## But for some

pub covers_of : {A B : Type 0} (R : A → B → Type 0) (K : B → Type 0) (xs : List A) (ys : List B) → Covers R K xs ys → (x : A) → Has x xs → (y : B) × Has y ys × R x y
covers_of R K [] ys c x i = absurd i
covers_of R K (a ∷ xs) [] c x i = absurd c
covers_of {A} {B} R K (a ∷ xs) (b ∷ ys) c x i = go (λ d j. covers_of R K xs ys d x j) (λ d. covers_of R K (a ∷ xs) ys d x i) c i
  where
    later : ((y : B) × Has y ys × R x y) → (y : B) × Has y (b ∷ ys) × R x y
    later q = (q.0, inr q.1, q.2)

    go : (Covers R K xs ys → Has x xs → (y : B) × Has y ys × R x y) → (Covers R K (a ∷ xs) ys → (y : B) × Has y ys × R x y) → Covers R K (a ∷ xs) (b ∷ ys) → Has x (a ∷ xs) → (y : B) × Has y (b ∷ ys) × R x y
    go f h (inl d) (inl e) = (b, inl refl, subst (λ z. R z b) (sym e) d.1)
    go f h (inl d) (inr j) = later (f d.0 j)
    go f h (inr d) j = later (h d.0)

-- what another list shows pair by pair covers no less
pub covers_join : {A B C : Type 0} (R : A → C → Type 0) (K : C → Type 0) (S : B → C → Type 0) (T : A → B → Type 0) (L : B → Type 0) → ((x : A) (y : B) (z : C) → R x z → S y z → T x y) → ((y : B) (z : C) → K z → S y z → L y) →
    (xs : List A) (ys : List B) (zs : List C) → Covers R K xs zs → Pairwise S ys zs → Covers T L xs ys
covers_join R K S T L f h [] [] [] c p = tt
covers_join R K S T L f h [] [] (z ∷ zs) c p = absurd p
covers_join R K S T L f h [] (y ∷ ys) [] c p = absurd p
covers_join R K S T L f h [] (y ∷ ys) (z ∷ zs) c p = (covers_join R K S T L f h [] ys zs c.0 p.0, h y z c.1 p.1)
covers_join R K S T L f h (x ∷ xs) [] [] c p = absurd c
covers_join R K S T L f h (x ∷ xs) (y ∷ ys) [] c p = absurd p
covers_join R K S T L f h (x ∷ xs) [] (z ∷ zs) c p = absurd p
covers_join R K S T L f h (x ∷ xs) (y ∷ ys) (z ∷ zs) c p = go (λ d. covers_join R K S T L f h xs ys zs d p.0) (λ d. covers_join R K S T L f h (x ∷ xs) ys zs d p.0) c
  where
    go : (Covers R K xs zs → Covers T L xs ys) → (Covers R K (x ∷ xs) zs → Covers T L (x ∷ xs) ys) → Covers R K (x ∷ xs) (z ∷ zs) → Covers T L (x ∷ xs) (y ∷ ys)
    go a b (inl d) = inl (a d.0, f x y z d.1 p.1)
    go a b (inr d) = inr (b d.0, h y z d.1 p.1)

pub covers_less : {A B : Type 0} (R : A → B → Type 0) (K : B → Type 0) (xs : List A) (y : B) (ys : List B) → K y → Covers R K xs ys → Covers R K xs (y ∷ ys)
covers_less R K [] y ys k c = (c, k)
covers_less R K (x ∷ xs) y ys k c = inr (c, k)

-- ## The order of transactions

pub record SameKey (t u : Txn) : Type 0 where
  pub session : t.session ≡ u.session
  pub at : t.at ≡ u.at

earlier_or : (a b x y : ℕ) → (ltb a b || ((a == b) && ltb x y)) ≡ true → (a < b) ⊎ ((a ≡ b) × (x < y))
earlier_or a b x y h = elim (or_cases (ltb a b) ((a == b) && ltb x y) h) [
  | inl l ↦ inl (ltb-true a b l)
  | inr r ↦ let q = and_parts (a == b) (ltb x y) r in inr (eqb-true a b q.0, ltb-true x y q.1)
]

-- two that have each other's places
pub no_cross : (t u t2 u2 : Txn) → SameKey t u2 → SameKey t2 u → is_earlier t2 t ≡ true → is_earlier u2 u ≡ true → ⊥
no_cross t u t2 u2 a b e f =
    let a1 = a.session in let a2 = a.at in let b1 = b.session in let b2 = b.at in
    elim (earlier_or t2.at t.at t2.session t.session e) [
      | inl p ↦ elim (earlier_or u2.at u.at u2.session u.session f) [ inl q ↦ absurd (omega arith) | inr q ↦ (let q0 = q.0 in absurd (omega arith)) ]
      | inr p ↦ (let p0 = p.0 in let p1 = p.1 in elim (earlier_or u2.at u.at u2.session u.session f) [ inl q ↦ absurd (omega arith) | inr q ↦ (let q0 = q.0 in let q1 = q.1 in absurd (omega arith)) ])
    ]

pub no_self : (t u : Txn) → SameKey t u → is_earlier t u ≡ true → ⊥
no_self t u a e = let a1 = a.session in let a2 = a.at in elim (earlier_or t.at u.at t.session u.session e) [ inl p ↦ absurd (omega arith) | inr p ↦ (let p1 = p.1 in absurd (omega arith)) ]

-- two lists that fall, whose members are related one to one, are related pair by pair
pub falls_pair : (R : Txn → Txn → Type 0) → ((t u : Txn) → R t u → SameKey t u) → (ts us : Journal) → IsFalling ts → IsFalling us →
    ((t : Txn) → Has t ts → (u : Txn) × Has u us × R t u) → ((u : Txn) → Has u us → (t : Txn) × Has t ts × R t u) → Pairwise R ts us
falls_pair R key [] [] a b f h = tt
falls_pair R key [] (u ∷ us) a b f h = (h u (inl refl)).1
falls_pair R key (t ∷ ts) [] a b f h = (f t (inl refl)).1
falls_pair R key (t ∷ ts) (u ∷ us) a b f h = (falls_pair R key ts us a.0 b.0 tail_of tail_for, first (f t (inl refl)) (h u (inl refl)))
  where
    first : ((v : Txn) × Has v (u ∷ us) × R t v) → ((v : Txn) × Has v (t ∷ ts) × R v u) → R t u
    first (v, inl e, r) q = subst (λ (z : Txn). R t z) e r
    first (v, inr i, r) (x, inl e, k) = subst (λ (z : Txn). R z u) e k
    first (v, inr i, r) (x, inr j, k) = absurd (no_cross t u x v (key t v r) (key x u k) (a.1 x j) (b.1 v i))

    tail_of : (x : Txn) → Has x ts → (y : Txn) × Has y us × R x y
    tail_of x i = go (f x (inr i))
      where
        go : ((y : Txn) × Has y (u ∷ us) × R x y) → (y : Txn) × Has y us × R x y
        go (y, inr j, r) = (y, j, r)
        go (y, inl e, r) = absurd (head (f t (inl refl)))
          where
            xu : SameKey x u
            xu = key x u (subst (λ (z : Txn). R x z) e r)

            -- t is above x, so what goes with t is above u, which is the first
            head : ((v : Txn) × Has v (u ∷ us) × R t v) → ⊥
            head (v, inl e2, r2) = let k = key t u (subst (λ (z : Txn). R t z) e2 r2) in no_self x t (record { session = xu.session ∙ sym k.session; at = xu.at ∙ sym k.at }) (a.1 x i)
            head (v, inr j2, r2) = let k = key t v r2 in no_cross t u x v k xu (a.1 x i) (b.1 v j2)

    tail_for : (y : Txn) → Has y us → (x : Txn) × Has x ts × R x y
    tail_for y i = go (h y (inr i))
      where
        go : ((x : Txn) × Has x (t ∷ ts) × R x y) → (x : Txn) × Has x ts × R x y
        go (x, inr j, r) = (x, j, r)
        go (x, inl e, r) = absurd (head (h u (inl refl)))
          where
            ty : SameKey t y
            ty = key t y (subst (λ (z : Txn). R z y) e r)

            head : ((v : Txn) × Has v (t ∷ ts) × R v u) → ⊥
            head (v, inl e2, r2) = let k = key t u (subst (λ (z : Txn). R z u) e2 r2) in no_self y u (record { session = sym ty.session ∙ k.session; at = sym ty.at ∙ k.at }) (b.1 y i)
            head (v, inr j2, r2) = let k = key v u r2 in no_cross t u v y ty k (a.1 v j2) (b.1 y i)

pairs_eq : (ts us : Journal) → Pairwise (λ t u. t ≡ u) ts us → ts ≡ us
pairs_eq [] [] p = refl
pairs_eq [] (u ∷ us) p = absurd p
pairs_eq (t ∷ ts) [] p = absurd p
pairs_eq (t ∷ ts) (u ∷ us) p = ap₂ (λ (x : Txn) (l : Journal). x ∷ l) p.1 (pairs_eq ts us p.0)

-- two that fall and have the same members are one
pub falls_eq : (ts us : Journal) → IsFalling ts → IsFalling us → ((t : Txn) → Has t ts → Has t us) → ((t : Txn) → Has t us → Has t ts) → ts ≡ us
falls_eq ts us a b f h = pairs_eq ts us (falls_pair (λ t u. t ≡ u) (λ t u e. record { session = ap (λ (x : Txn). x.session) e; at = ap (λ (x : Txn). x.at) e }) ts us a b (λ t i. (t, f t i, refl)) (λ u i. (u, h u i, refl)))

pub falls_keep : (p : Txn → Bool) (ts : Journal) → IsFalling ts → IsFalling (keep p ts)
falls_keep p [] a = tt
falls_keep p (t ∷ ts) a = go (falls_keep p ts a.0) (p t)
  where
    kept : (u : Txn) → Has u (keep p ts) → Has u ts
    kept u i = (keep_has p ts u i).0

    go : IsFalling (keep p ts) → (b : Bool) → IsFalling (cond b (t ∷ keep p ts) (keep p ts))
    go ih true = (ih, λ u i. a.1 u (kept u i))
    go ih false = ih

-- ## Transactions that are apart

pub apart_keep : (p : Txn → Bool) (ts : List Txn) → AreApart ts → AreApart (keep p ts)
apart_keep p [] a = tt
apart_keep p (t ∷ ts) a = go (apart_keep p ts a.0) (p t)
  where
    go : AreApart (keep p ts) → (b : Bool) → AreApart (cond b (t ∷ keep p ts) (keep p ts))
    go ih true = (ih, λ u i. a.1 u (keep_has p ts u i).0)
    go ih false = ih

pub apart_pairs : (R : Txn → Txn → Type 0) → ((t u : Txn) → R t u → SameKey t u) → (ts us : List Txn) → Pairwise R ts us → AreApart us → AreApart ts
apart_pairs R key [] [] p a = tt
apart_pairs R key [] (u ∷ us) p a = tt
apart_pairs R key (t ∷ ts) [] p a = absurd p
apart_pairs R key (t ∷ ts) (u ∷ us) p a = (
  apart_pairs R key ts us p.0 a.0,
  λ x i e. let q = pair_of R ts us p.0 x i in let k = key x q.0 q.2 in let l = key t u p.1 in a.1 q.0 q.1 (sym k.at ∙ (e.0 ∙ l.at), sym k.session ∙ (e.1 ∙ l.session)),
)

abbrev pub of_session : ℕ → Txn → Bool
of_session w t = t.session == w

pub apart_from : (ts : List Txn) → ((w : ℕ) → AreApart (keep (of_session w) ts)) → AreApart ts
apart_from [] h = tt
apart_from (t ∷ ts) h = (apart_from ts (λ w. rest w (of_session w t) (h w)), first)
  where
    rest : (w : ℕ) (b : Bool) → AreApart (cond b (t ∷ keep (of_session w) ts) (keep (of_session w) ts)) → AreApart (keep (of_session w) ts)
    rest w true a = a.0
    rest w false a = a

    first : (u : Txn) → Has u ts → ¬ ((u.at ≡ t.at) × (u.session ≡ t.session))
    first u i e = (subst AreApart (cond-true (of_session t.session t) (t ∷ keep (of_session t.session) ts) (keep (of_session t.session) ts) (eq-eqb t.session t.session refl)) (h t.session)).1 u (has_keep (of_session t.session) ts u i (eq-eqb u.session t.session e.1)) e
