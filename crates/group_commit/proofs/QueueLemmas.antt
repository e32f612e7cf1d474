-- The ends of a session, the oldest first: their numbers rise, and each is ripe where one behind it is.
use Rattle.std.proofs.Common.{◌≡◌, ◌<◌, ◌≤◌, ◌⊎◌, ℕ, Bool, true, false, cond, ◌&&◌, leb, ltb, ◌==◌, List, [], ◌∷◌, ◌++◌, length, refl, sym, ap, ap₂, ◌∙◌, subst, inl, inr, arith}
use Rattle.std.proofs.lemmas.Bool.{cases_Bool, cases_lt, eq-eqb, eqb-true, ltb-true, lt-ltb, le-ltb, leb-true, le-leb, and_parts, and_from, cond-true, cond-false, both_ways, false_from_ne_true}
use Rattle.std.proofs.lemmas.List.{append-nil, length_push}
use Rattle.map_model.specs.Lists.{Has, keep}
use Rattle.map_model.proofs.ListLemmas.{has_cases, has_left, has_right}
use Rattle.core_crash.specs.image_model.Entries.{Entry, is_end}
use Rattle.core_crash.specs.core_state.Openings.{Opening}
use Rattle.core_crash.proofs.core_commit.History.{IsRecorded}
use Rattle.core_crash.proofs.core_commit.KindFacts.{end_is_record}
use Rattle.group_commit.specs.declared.queue.End.{End}
use Rattle.group_commit.specs.Queues.{is_ripe_at, is_done, settled}
use Rattle.group_commit.specs.Tracks.{end_of, ends_above}
use Rattle.group_commit.proofs.ListLemmas.{keep_append, keep_all}

-- ## Queues that rise

abbrev pub Ordered : (f all : ℕ) → List End → Type 0
Ordered f all [] = Unit {0}
Ordered f all (e ∷ q) = Ordered f all q × ((d : End) → Has d q → (e.gsn < d.gsn) × (is_ripe_at f all d ≡ true → is_ripe_at f all e ≡ true))

ordered_push : (f all : ℕ) (q : List End) (d : End) → Ordered f all q → ((x : End) → Has x q → (x.gsn < d.gsn) × (is_ripe_at f all d ≡ true → is_ripe_at f all x ≡ true)) → Ordered f all (q ++ d ∷ [])
ordered_push f all [] d o h = (tt, λ x i. absurd i)
ordered_push f all (e ∷ q) d o h = (ordered_push f all q d o.0 (λ x i. h x (inr i)), λ x i. elim (has_cases x q (d ∷ []) i) [ inl j ↦ o.1 x j | inr j ↦ last x j ])
  where
    last : (x : End) → Has x (d ∷ []) → (e.gsn < x.gsn) × (is_ripe_at f all x ≡ true → is_ripe_at f all e ≡ true)
    last x (inl p) = subst (λ (y : End). (e.gsn < y.gsn) × (is_ripe_at f all y ≡ true → is_ripe_at f all e ≡ true)) (sym p) (h e (inl refl))
    last x (inr j) = absurd j

-- those above the first are those behind it
above_first : (f all : ℕ) (x : End) (q : List End) → Ordered f all (x ∷ q) → keep (λ (y : End). ltb x.gsn y.gsn) (x ∷ q) ≡ q
above_first f all x q o =
    cond-false (ltb x.gsn x.gsn) (x ∷ keep (λ (y : End). ltb x.gsn y.gsn) q) (keep (λ (y : End). ltb x.gsn y.gsn) q) (le-ltb x.gsn x.gsn (omega arith))
    ∙ keep_all (λ (y : End). ltb x.gsn y.gsn) q (λ y i. lt-ltb x.gsn y.gsn (o.1 y i).0)

-- ## The ends of a session

abbrev picks : (w from : ℕ) → Entry → Bool
picks w from e = is_end e.kind && ((e.log == w) && ltb from e.number)

pub record Picked (w from : ℕ) (e : Entry) : Type 0 where
  pub is_end : is_end e.kind ≡ true
  pub log : e.log ≡ w
  pub above : from < e.number

picks_to : (w from : ℕ) (e : Entry) → picks w from e ≡ true → Picked w from e
picks_to w from e h =
    let a = and_parts (is_end e.kind) ((e.log == w) && ltb from e.number) h in
    let b = and_parts (e.log == w) (ltb from e.number) a.1 in
    record { is_end = a.0; log = eqb-true e.log w b.0; above = ltb-true from e.number b.1 }

picks_from : (w from : ℕ) (e : Entry) → Picked w from e → picks w from e ≡ true
picks_from w from e p = and_from (is_end e.kind) ((e.log == w) && ltb from e.number) p.is_end (and_from (e.log == w) (ltb from e.number) (eq-eqb e.log w p.log) (lt-ltb from e.number p.above))

-- an end of the queue, in the entries
pub record EndIn (w from : ℕ) (h : List Entry) (x : End) : Type 0 where
  pub entry : Entry
  pub has : Has entry h
  pub picked : Picked w from entry
  pub is : end_of entry ≡ x

pub ends_has : (w from : ℕ) (h : List Entry) (x : End) → Has x (ends_above w from h) → EndIn w from h x
ends_has w from [] x i = absurd i
ends_has w from (e ∷ h) x i = go (ends_has w from h x) (picks w from e) refl i
  where
    more : EndIn w from h x → EndIn w from (e ∷ h) x
    more r = record { entry = r.entry; has = inr r.has; picked = r.picked; is = r.is }

    here : picks w from e ≡ true → Has x (end_of e ∷ []) → EndIn w from (e ∷ h) x
    here q (inl p) = record { entry = e; has = inl refl; picked = picks_to w from e q; is = sym p }
    here q (inr j) = absurd j

    go : (Has x (ends_above w from h) → EndIn w from h x) → (b : Bool) → picks w from e ≡ b → Has x (cond b (ends_above w from h ++ end_of e ∷ []) (ends_above w from h)) → EndIn w from (e ∷ h) x
    go ih true q j = elim (has_cases x (ends_above w from h) (end_of e ∷ []) j) [ inl k ↦ more (ih k) | inr k ↦ here q k ]
    go ih false q j = more (ih j)

ends_more : (w from : ℕ) (e : Entry) (h : List Entry) → picks w from e ≡ true → ends_above w from (e ∷ h) ≡ ends_above w from h ++ end_of e ∷ []
ends_more w from e h q = cond-true (picks w from e) (ends_above w from h ++ end_of e ∷ []) (ends_above w from h) q

ends_same : (w from : ℕ) (e : Entry) (h : List Entry) → picks w from e ≡ false → ends_above w from (e ∷ h) ≡ ends_above w from h
ends_same w from e h q = cond-false (picks w from e) (ends_above w from h ++ end_of e ∷ []) (ends_above w from h) q

pub has_ends : (w from : ℕ) (h : List Entry) (e : Entry) → Has e h → Picked w from e → Has (end_of e) (ends_above w from h)
has_ends w from [] e i p = absurd i
has_ends w from (x ∷ h) e (inl q) p =
    subst (λ (l : List End). Has (end_of e) l) (sym (ends_more w from x h (ap (picks w from) (sym q) ∙ picks_from w from e p)))
    (has_right (end_of e) (ends_above w from h) (end_of x ∷ []) (inl (ap end_of q)))
has_ends w from (x ∷ h) e (inr i) p = go (has_ends w from h e i p) (picks w from x)
  where
    go : Has (end_of e) (ends_above w from h) → (b : Bool) → Has (end_of e) (cond b (ends_above w from h ++ end_of x ∷ []) (ends_above w from h))
    go ih true = has_left (end_of e) (ends_above w from h) (end_of x ∷ []) ih
    go ih false = ih

-- a new end is the last
pub ends_end : (w from : ℕ) (e : Entry) (h : List Entry) → Picked w from e → ends_above w from (e ∷ h) ≡ ends_above w from h ++ end_of e ∷ []
ends_end w from e h p = ends_more w from e h (picks_from w from e p)

-- what is no end of the session's changes nothing
pub ends_other : (w from : ℕ) (e : Entry) (h : List Entry) → (Picked w from e → ⊥) → ends_above w from (e ∷ h) ≡ ends_above w from h
ends_other w from e h n = ends_same w from e h (false_from_ne_true (picks w from e) (λ q. n (picks_to w from e q)))

-- the queue by the ends alone
pub ends_kept : (w from : ℕ) (h : List Entry) → ends_above w from h ≡ ends_above w from (keep (λ (e : Entry). is_end e.kind) h)
ends_kept w from [] = refl
ends_kept w from (e ∷ h) = go (is_end e.kind) refl (ends_kept w from h)
  where
    go : (b : Bool) → is_end e.kind ≡ b → ends_above w from h ≡ ends_above w from (keep (λ (e : Entry). is_end e.kind) h) →
        ends_above w from (e ∷ h) ≡ ends_above w from (cond b (e ∷ keep (λ (e : Entry). is_end e.kind) h) (keep (λ (e : Entry). is_end e.kind) h))
    go true q ih = ap (λ (l : List End). cond (picks w from e) (l ++ end_of e ∷ []) l) ih
    go false q ih = ends_other w from e h (λ p. both_ways (is_end e.kind) q p.is_end) ∙ ih

pub ordered_ends : (g : Opening) (all f w from : ℕ) (h : List Entry) → IsRecorded g all h → Ordered f all (ends_above w from h)
ordered_ends g all f w from [] hist = tt
ordered_ends g all f w from (e ∷ h) hist = go (ordered_ends g all f w from h hist.1) (picks w from e) refl
  where
    behind : Picked w from e → (x : End) → Has x (ends_above w from h) → (x.gsn < e.number) × (is_ripe_at f all (end_of e) ≡ true → is_ripe_at f all x ≡ true)
    behind p x i = subst (λ (y : End). (y.gsn < e.number) × (is_ripe_at f all (end_of e) ≡ true → is_ripe_at f all y ≡ true)) r.is (before, ripe)
      where
        r : EndIn w from h x
        r = ends_has w from h x i

        before : r.entry.number < e.number
        before = hist.0.later (end_is_record e.kind p.is_end) r.entry r.has (r.picked.log ∙ sym p.log)

        ripe : is_ripe_at f all (end_of e) ≡ true → is_ripe_at f all (end_of r.entry) ≡ true
        ripe k =
            let a = and_parts (leb e.number f) (leb e.need all) k in
            let b = leb-true e.number f a.0 in
            let c = leb-true e.need all a.1 in
            let d = (hist.0.closes p.is_end).ends r.entry r.has r.picked.is_end (r.picked.log ∙ sym p.log) in
            let n = before in
            and_from (leb r.entry.number f) (leb r.entry.need all) (le-leb r.entry.number f (omega arith)) (le-leb r.entry.need all (omega arith))

    go : Ordered f all (ends_above w from h) → (b : Bool) → picks w from e ≡ b → Ordered f all (cond b (ends_above w from h ++ end_of e ∷ []) (ends_above w from h))
    go ih true q = ordered_push f all (ends_above w from h) (end_of e) ih (behind (picks_to w from e q))
    go ih false q = ih

-- those of them above a greater number
keep_above : (w from m : ℕ) (h : List Entry) → from ≤ m → keep (λ (x : End). ltb m x.gsn) (ends_above w from h) ≡ ends_above w m h
keep_above w from m [] l = refl
keep_above w from m (e ∷ h) l = go (keep_above w from m h l) (cases_Bool (picks w from e)) (cases_Bool (picks w m e))
  where
    test : End → Bool
    test x = ltb m x.gsn

    go : keep (λ (x : End). ltb m x.gsn) (ends_above w from h) ≡ ends_above w m h → (picks w from e ≡ true) ⊎ (picks w from e ≡ false) → (picks w m e ≡ true) ⊎ (picks w m e ≡ false) →
        keep (λ (x : End). ltb m x.gsn) (ends_above w from (e ∷ h)) ≡ ends_above w m (e ∷ h)
    go ih (inl a) (inl b) =
        ap (keep (λ (x : End). ltb m x.gsn)) (ends_more w from e h a)
        ∙ (keep_append (λ (x : End). ltb m x.gsn) (ends_above w from h) (end_of e ∷ [])
        ∙ (ap₂ (λ (x y : List End). x ++ y) ih (cond-true (ltb m e.number) (end_of e ∷ []) [] (lt-ltb m e.number (picks_to w m e b).above)) ∙ sym (ends_more w m e h b)))
    go ih (inl a) (inr b) =
        ap (keep (λ (x : End). ltb m x.gsn)) (ends_more w from e h a)
        ∙ (keep_append (λ (x : End). ltb m x.gsn) (ends_above w from h) (end_of e ∷ [])
        ∙ (ap₂ (λ (x y : List End). x ++ y) ih (cond-false (ltb m e.number) (end_of e ∷ []) [] below) ∙ (append-nil (ends_above w m h) ∙ sym (ends_same w m e h b))))
      where
        below : ltb m e.number ≡ false
        below = false_from_ne_true (ltb m e.number) (λ t. both_ways (picks w m e) b (picks_from w m e (record { is_end = (picks_to w from e a).is_end; log = (picks_to w from e a).log; above = ltb-true m e.number t })))
    go ih (inr a) (inl b) = absurd (both_ways (picks w from e) a (picks_from w from e (let p = picks_to w m e b in let n = p.above in record { is_end = p.is_end; log = p.log; above = omega arith })))
    go ih (inr a) (inr b) = ap (keep (λ (x : End). ltb m x.gsn)) (ends_same w from e h a) ∙ (ih ∙ sym (ends_same w m e h b))

-- where the first goes, the others are above it
pub behind_first : (g : Opening) (all f w from : ℕ) (h : List Entry) → IsRecorded g all h → (x : End) (q : List End) → ends_above w from h ≡ x ∷ q → ends_above w x.gsn h ≡ q
behind_first g all f w from h hist x q e =
    sym (keep_above w from x.gsn h (let n = above in omega arith))
    ∙ (ap (keep (λ (y : End). ltb x.gsn y.gsn)) e ∙ above_first f all x q (subst (Ordered f all) e (ordered_ends g all f w from h hist)))
  where
    r : EndIn w from h x
    r = ends_has w from h x (subst (λ (l : List End). Has x l) (sym e) (inl refl))

    above : from < x.gsn
    above = subst (λ (y : End). from < y.gsn) r.is r.picked.above

-- ## Ripe aborts go

pub record Settles (f all w from : ℕ) (h : List Entry) : Type 0 where
  pub to : ℕ
  pub least : from ≤ to
  pub most : (b : ℕ) → from ≤ b → ((e : Entry) → Has e h → Picked w from e → e.number ≤ b) → to ≤ b
  pub is : settled f all (ends_above w from h) ≡ ends_above w to h
  pub done : (e : Entry) → Has e h → Picked w from e → e.number ≤ to → is_done f all (end_of e) ≡ true

pub settles : (g : Opening) (all f w : ℕ) (h : List Entry) → IsRecorded g all h → (q : List End) (from : ℕ) → ends_above w from h ≡ q → Settles f all w from h
settles g all f w h hist [] from e = record { to = from; least = omega arith; most = λ b k n. k; is = ap (settled f all) e ∙ sym e; done = λ y i p l. let n = p.above in absurd (omega arith) }
settles g all f w h hist (x ∷ q) from e = go (is_done f all x) refl (settles g all f w h hist q x.gsn rest)
  where
    rest : ends_above w x.gsn h ≡ q
    rest = behind_first g all f w from h hist x q e

    r : EndIn w from h x
    r = ends_has w from h x (subst (λ (l : List End). Has x l) (sym e) (inl refl))

    above : from < x.gsn
    above = subst (λ (y : End). from < y.gsn) r.is r.picked.above

    o : Ordered f all (x ∷ q)
    o = subst (Ordered f all) e (ordered_ends g all f w from h hist)

    go : (b : Bool) → is_done f all x ≡ b → Settles f all w x.gsn h → Settles f all w from h
    go true d s = record {
      to = s.to;
      least = (let a = above in let b = s.least in omega arith);
      most = λ b k n. s.most b (subst (λ (y : End). y.gsn ≤ b) r.is (n r.entry r.has r.picked)) (λ y i p. n y i (let a = above in let c = p.above in record { is_end = p.is_end; log = p.log; above = omega arith }));
      is = ap (settled f all) e ∙ (cond-true (is_done f all x) (settled f all q) (x ∷ q) d ∙ (ap (settled f all) (sym rest) ∙ s.is));
      done = λ y i p l. elim (cases_lt x.gsn y.number) [
        | inl n ↦ s.done y i (record { is_end = p.is_end; log = p.log; above = n }) l
        | inr n ↦ first y n (subst (λ (l : List End). Has (end_of y) l) e (has_ends w from h y i p))
      ];
    }
      where
        first : (y : Entry) → y.number ≤ x.gsn → Has (end_of y) (x ∷ q) → is_done f all (end_of y) ≡ true
        first y n (inl k) = ap (is_done f all) k ∙ d
        first y n (inr k) = let c = (o.1 (end_of y) k).0 in absurd (omega arith)
    go false d s = record { to = from; least = omega arith; most = λ b k n. k; is = ap (settled f all) e ∙ (cond-false (is_done f all x) (settled f all q) (x ∷ q) d ∙ sym e); done = λ y i p l. let n = p.above in absurd (omega arith) }

-- what is left does not begin with one
pub settled_first : (f all : ℕ) (q : List End) (x : End) (rest : List End) → settled f all q ≡ x ∷ rest → is_done f all x ≡ false
settled_first f all [] x rest e = absurd (cc)
settled_first f all (y ∷ q) x rest e = go (is_done f all y) refl (settled_first f all q x rest) e
  where
    go : (b : Bool) → is_done f all y ≡ b → (settled f all q ≡ x ∷ rest → is_done f all x ≡ false) → cond b (settled f all q) (y ∷ q) ≡ x ∷ rest → is_done f all x ≡ false
    go true d ih k = ih k
    go false d ih k = let same : y ≡ x = cc in ap (is_done f all) (sym same) ∙ d

-- as many as pass another test that agrees
pub length_ends : (w from : ℕ) (p : Entry → Bool) (h : List Entry) → ((e : Entry) → Has e h → picks w from e ≡ p e) → length (ends_above w from h) ≡ length (keep p h)
length_ends w from p [] a = refl
length_ends w from p (e ∷ h) a = go (length_ends w from p h (λ x i. a x (inr i))) (picks w from e) (p e) (a e (inl refl))
  where
    go : length (ends_above w from h) ≡ length (keep p h) → (b c : Bool) → b ≡ c → length (cond b (ends_above w from h ++ end_of e ∷ []) (ends_above w from h)) ≡ length (cond c (e ∷ keep p h) (keep p h))
    go ih b c q = subst (λ (d : Bool). length (cond b (ends_above w from h ++ end_of e ∷ []) (ends_above w from h)) ≡ length (cond d (e ∷ keep p h) (keep p h))) q (at b)
      where
        at : (b : Bool) → length (cond b (ends_above w from h ++ end_of e ∷ []) (ends_above w from h)) ≡ length (cond b (e ∷ keep p h) (keep p h))
        at true = let l = length_push (ends_above w from h) (end_of e) in omega arith
        at false = ih
