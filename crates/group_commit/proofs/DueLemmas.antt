-- The durable line that is due first, and the others.
use Rattle.std.proofs.Common.{◌≡◌, ◌<◌, ◌≤◌, ◌⊎◌, ℕ, Bool, true, false, cond, ◌&&◌, ◌||◌, not, ltb, ◌==◌, List, [], ◌∷◌, ◌++◌, refl, sym, ap, ◌∙◌, subst, inl, inr, arith}
use Rattle.std.proofs.lemmas.Bool.{cases_Bool, eq-eqb, ne_eqb, eqb-true, ltb-true, lt-ltb, and_parts, and_from, and_left, and_right, or_cases, or_left, or_right, cond-true, cond-false, both_ways, false_from_ne_true}
use Rattle.map_model.specs.Lists.{Has, keep, insert_by, in_order}
use Rattle.map_model.specs.Journals.{Name}
use Rattle.map_model.proofs.ListLemmas.{order_has, keep_has}
use Rattle.core_crash.specs.image_model.Entries.{Entry, is_end, same_txn, earlier}
use Rattle.core_crash.specs.image_model.Ends.{name_of, names_of}
use Rattle.core_crash.specs.core_state.Openings.{Opening}
use Rattle.core_crash.specs.core_state.States.{State}
use Rattle.core_crash.proofs.core_commit.History.{IsRecorded, SameTxn, same_from, same_to}
use Rattle.core_crash.proofs.core_commit.KindFacts.{end_is_record}
use Rattle.core_calls.specs.Durables.{is_ripe, is_told, due}
use Rattle.core_calls.proofs.DurableLemmas.{passes}

-- ## In order

-- what is no earlier than the last stands before it
insert_last : (x e : Entry) (ys : List Entry) → earlier x e ≡ false → insert_by earlier x (ys ++ e ∷ []) ≡ insert_by earlier x ys ++ e ∷ []
insert_last x e [] n = cond-false (earlier x e) (e ∷ x ∷ []) (x ∷ e ∷ []) n
insert_last x e (y ∷ ys) n = go (earlier x y) (insert_last x e ys n)
  where
    go : (b : Bool) → insert_by earlier x (ys ++ e ∷ []) ≡ insert_by earlier x ys ++ e ∷ [] →
        cond b (y ∷ insert_by earlier x (ys ++ e ∷ [])) (x ∷ y ∷ (ys ++ e ∷ [])) ≡ cond b (y ∷ insert_by earlier x ys) (x ∷ y ∷ ys) ++ e ∷ []
    go true ih = ap (λ (l : List Entry). y ∷ l) ih
    go false ih = refl

-- the earliest of all stands last
insert_first : (e : Entry) (ys : List Entry) → ((y : Entry) → Has y ys → earlier e y ≡ true) → insert_by earlier e ys ≡ ys ++ e ∷ []
insert_first e [] h = refl
insert_first e (y ∷ ys) h = cond-true (earlier e y) (y ∷ insert_by earlier e ys) (e ∷ y ∷ ys) (h y (inl refl)) ∙ ap (λ (l : List Entry). y ∷ l) (insert_first e ys (λ z i. h z (inr i)))

keep_same : (p q : Entry → Bool) (h : List Entry) → ((y : Entry) → Has y h → p y ≡ q y) → keep p h ≡ keep q h
keep_same p q [] a = refl
keep_same p q (x ∷ h) a = go (p x) (q x) (a x (inl refl)) (keep_same p q h (λ y i. a y (inr i)))
  where
    go : (b c : Bool) → b ≡ c → keep p h ≡ keep q h → cond b (x ∷ keep p h) (keep p h) ≡ cond c (x ∷ keep q h) (keep q h)
    go b c e ih = subst (λ (d : Bool). cond b (x ∷ keep p h) (keep p h) ≡ cond d (x ∷ keep q h) (keep q h)) e (at b)
      where
        at : (b : Bool) → cond b (x ∷ keep p h) (keep p h) ≡ cond b (x ∷ keep q h) (keep q h)
        at true = ap (λ (l : List Entry). x ∷ l) ih
        at false = ih

-- e does not come behind x
abbrev pub NotBehind : Entry → Entry → Type 0
NotBehind e x = (e.number < x.number) ⊎ ((e.number ≡ x.number) × (e.log ≤ x.log))

not_earlier : (e x : Entry) → NotBehind e x → earlier x e ≡ false
not_earlier e x n = false_from_ne_true (earlier x e) (λ t. elim (or_cases (ltb x.number e.number) ((x.number == e.number) && ltb x.log e.log) t) [
  | inl a ↦ less (ltb-true x.number e.number a) n
  | inr a ↦ (let p = and_parts (x.number == e.number) (ltb x.log e.log) a in ties (eqb-true x.number e.number p.0) (ltb-true x.log e.log p.1) n)
])
  where
    less : x.number < e.number → NotBehind e x → ⊥
    less a (inl b) = omega arith
    less a (inr b) = let c = b.0 in omega arith

    ties : x.number ≡ e.number → x.log < e.log → NotBehind e x → ⊥
    ties a b (inl c) = omega arith
    ties a b (inr c) = let d = c.1 in omega arith

is_earlier : (e x : Entry) → NotBehind e x → (x.log ≡ e.log → x.number ≡ e.number → ⊥) → earlier e x ≡ true
is_earlier e x (inl a) n = or_left (ltb e.number x.number) ((e.number == x.number) && ltb e.log x.log) (lt-ltb e.number x.number a)
is_earlier e x (inr a) n = or_right (ltb e.number x.number) ((e.number == x.number) && ltb e.log x.log)
    (and_from (e.number == x.number) (ltb e.log x.log) (eq-eqb e.number x.number a.0) (lt-ltb e.log x.log less))
  where
    less : e.log < x.log
    less = elim (Rattle.std.proofs.lemmas.Bool.cases_eq x.log e.log) [ inl q ↦ absurd (n q (sym a.0)) | inr q ↦ (let b = a.1 in omega arith) ]

-- ## One of them goes

-- of those that pass, e is the earliest; q is p but for it
pub record Parts (p q : Entry → Bool) (e : Entry) : Type 0 where
  pub ends : (x : Entry) → p x ≡ true → is_end x.kind ≡ true
  pub agree : (x : Entry) → (SameTxn x e → ⊥) → p x ≡ q x
  pub gone : (x : Entry) → SameTxn x e → q x ≡ false
  pub end : is_end e.kind ≡ true
  pub passes : p e ≡ true

parted : (g : Opening) (F : ℕ) (p q : Entry → Bool) (e : Entry) → Parts p q e → (h : List Entry) → IsRecorded g F h → Has e h → ((x : Entry) → Has x h → p x ≡ true → NotBehind e x) →
    in_order earlier (keep p h) ≡ in_order earlier (keep q h) ++ e ∷ []
parted g F p q e a [] hist i first = absurd i
parted g F p q e a (x ∷ h) hist (inl k) first =
    ap (in_order earlier) (cond-true (p x) (x ∷ keep p h) (keep p h) (ap p (sym k) ∙ a.passes))
    ∙ (insert_first x (in_order earlier (keep p h)) least
    ∙ (ap (λ (y : Entry). in_order earlier (keep p h) ++ y ∷ []) (sym k)
    ∙ ap (λ (l : List Entry). in_order earlier l ++ e ∷ []) (keep_same p q h agree ∙ sym (cond-false (q x) (x ∷ keep q h) (keep q h) (a.gone x (ap (λ (y : Entry). y.log) (sym k), ap (λ (y : Entry). y.txn) (sym k)))))))
  where
    least : (y : Entry) → Has y (in_order earlier (keep p h)) → earlier x y ≡ true
    least y i = subst (λ (z : Entry). earlier z y ≡ true) k (is_earlier e y (first y (inr m.0) m.1) (λ l n. let b = hist.0.later (end_is_record x.kind (ap (λ (z : Entry). is_end z.kind) (sym k) ∙ a.end)) y m.0 (l ∙ ap (λ (z : Entry). z.log) k) in let c = ap (λ (z : Entry). z.number) k in omega arith))
      where
        m : Has y h × (p y ≡ true)
        m = keep_has p h y (order_has earlier (keep p h) y i)

    agree : (y : Entry) → Has y h → p y ≡ q y
    agree y i = elim (cases_Bool (same_txn y e)) [
      | inl t ↦ (let s = same_to y e t in
          false_from_ne_true (p y) (λ r. hist.0.still_open y i (a.ends y r) (s.0 ∙ ap (λ (z : Entry). z.log) k, s.1 ∙ ap (λ (z : Entry). z.txn) k)) ∙ sym (a.gone y s))
      | inr f ↦ a.agree y (λ s. both_ways (same_txn y e) f (same_from y e s))
    ]
parted g F p q e a (x ∷ h) hist (inr i) first = go (parted g F p q e a h hist.1 i (λ y j. first y (inr j))) (p x) refl
  where
    go : in_order earlier (keep p h) ≡ in_order earlier (keep q h) ++ e ∷ [] → (b : Bool) → p x ≡ b → in_order earlier (cond b (x ∷ keep p h) (keep p h)) ≡ in_order earlier (keep q (x ∷ h)) ++ e ∷ []
    go ih true t =
        ap (insert_by earlier x) ih
        ∙ (insert_last x e (in_order earlier (keep q h)) (not_earlier e x (first x (inl refl) t))
        ∙ ap (λ (l : List Entry). in_order earlier l ++ e ∷ []) (sym (cond-true (q x) (x ∷ keep q h) (keep q h) (sym (a.agree x (λ s. hist.0.still_open e i a.end (sym s.0, sym s.1))) ∙ t))))
    go ih false t = ih ∙ ap (λ (l : List Entry). in_order earlier l ++ e ∷ []) (sym (cond-false (q x) (x ∷ keep q h) (keep q h) off))
      where
        off : q x ≡ false
        off = elim (cases_Bool (same_txn x e)) [ inl s ↦ a.gone x (same_to x e s) | inr s ↦ sym (a.agree x (λ z. both_ways (same_txn x e) s (same_from x e z))) ∙ t ]

-- ## Durable lines

names_last : (xs : List Entry) (e : Entry) → names_of (xs ++ e ∷ []) ≡ names_of xs ++ name_of e ∷ []
names_last [] e = refl
names_last (x ∷ xs) e = ap (λ (l : List Name). name_of x ∷ l) (names_last xs e)

-- told of its own name
own_name : (told : List Name) (e x : Entry) → SameTxn x e → is_told (name_of e ∷ told) x ≡ true
own_name told e x s = or_left ((e.log == x.log) && (e.txn == x.txn)) (is_told told x) (and_from (e.log == x.log) (e.txn == x.txn) (eq-eqb e.log x.log (sym s.0)) (eq-eqb e.txn x.txn (sym s.1)))

pub other_name : (told : List Name) (e x : Entry) → (SameTxn x e → ⊥) → is_told (name_of e ∷ told) x ≡ is_told told x
other_name told e x n = ap (λ (b : Bool). b || is_told told x) (false_from_ne_true ((e.log == x.log) && (e.txn == x.txn)) (λ t. let p = and_parts (e.log == x.log) (e.txn == x.txn) t in n (sym (eqb-true e.log x.log p.0), sym (eqb-true e.txn x.txn p.1))))

pub due_parted : (g : Opening) (F : ℕ) (s : State) (told : List Name) (e : Entry) → IsRecorded g F s.entries → Has e s.entries → is_end e.kind ≡ true → ((x : Entry) → passes g s told x ≡ true → is_end x.kind ≡ true) → passes g s told e ≡ true →
    ((x : Entry) → Has x s.entries → passes g s told x ≡ true → NotBehind e x) → due g s told ≡ due g s (name_of e ∷ told) ++ name_of e ∷ []
due_parted g F s told e hist i k ends p first =
    ap names_of (parted g F (passes g s told) (passes g s (name_of e ∷ told)) e parts s.entries hist i first)
    ∙ names_last (in_order earlier (keep (passes g s (name_of e ∷ told)) s.entries)) e
  where
    parts : Parts (passes g s told) (passes g s (name_of e ∷ told)) e
    parts = record {
      ends = ends;
      agree = λ x n. ap (λ (b : Bool). is_ripe g s x && not b) (sym (other_name told e x n));
      gone = λ x t. and_right (is_ripe g s x) (not (is_told (name_of e ∷ told) x)) (ap not (own_name told e x t));
      end = k;
      passes = p;
    }
