-- How far the logs reach, who won and who lost, one record more at a time.
use Rattle.std.proofs.Common.{◌≡◌, ◌<◌, ◌≤◌, ◌⊎◌, ◌+◌, ◌-◌, ℕ, zero, suc, max, min, Bool, true, false, cond, ◌&&◌, ◌||◌, not, ◌==◌, List, [], ◌∷◌, ◌++◌, length, get_or, set, take, replicate, refl, sym, ◌∙◌, ap, inl, inr, arith, subst}
use Rattle.std.proofs.lemmas.Bool.{cases_eq, cases_lt, eq-eqb, ne_eqb, cond-true, cond-false}
use Rattle.std.proofs.lemmas.List.{take_all, length-set, get_or-set_same, get_or-set_other}
use Rattle.std.specs.Ordering.{nat_cmp}
use Rattle.std.specs.BTreeSet.{BTreeSet, contains}
use Rattle.map_model.specs.Lists.{Has, any, keep}
use Rattle.rfa_model.specs.Reaches.{least, reach_of}
use Rattle.disk_image.specs.image_model.Entries.{Entry, same_txn}
use Rattle.disk_image.specs.image_model.Ends as ends
use Rattle.log_index.specs.Items.{Item}
use Rattle.recovery_scan.specs.Records.{entry_of, entries_of}
use Rattle.recovery_redo.specs.Inside.{number_in, AreGreatest, IsTop, of_txn, has_txn, HasNone, AreEnded}
use Rattle.recovery_redo.proofs.LogLemmas.{entries_at}

-- ## The greatest number of all

pub top_none : (floor : ℕ) → IsTop floor [] floor
top_none floor = record { low = omega arith; each = λ r m. absurd m; met = inl refl }

pub top_more : (floor : ℕ) (items : List Item) (k j : ℕ) (x d : Item) (n now : ℕ) → j ≡ suc k → k < length items → x ≡ get_or items k d →
    IsTop floor (entries_of (take k items)) n → now ≡ max n x.said.gsn → IsTop floor (entries_of (take j items)) now
top_more floor items k j x d n now e l is before step =
    subst (λ (z : List Entry). IsTop floor z now) (sym (entries_at items k j x d e l is)) (record {
      low = (let b = before.low in omega (arith, b, step));
      each = each;
      met = met (cases_lt n x.said.gsn) before.met;
    })
  where
    each : (r : Entry) → Has r (entry_of x ∷ entries_of (take k items)) → r.number ≤ now
    each r (inl q) = let w = ap (λ (u : Entry). u.number) q in omega (arith, w, step)
    each r (inr m) = let b = before.each r m in omega (arith, b, step)

    met : (n < x.said.gsn) ⊎ (x.said.gsn ≤ n) → (n ≡ floor) ⊎ ((r : Entry) × Has r (entries_of (take k items)) × (n ≡ r.number)) → (now ≡ floor) ⊎ ((r : Entry) × Has r (entry_of x ∷ entries_of (take k items)) × (now ≡ r.number))
    met (inl a) m = inr (entry_of x, inl refl, omega (arith, step, a))
    met (inr a) (inl b) = inl (omega (arith, step, a, b))
    met (inr a) (inr b) = let w = b.2 in inr (b.0, inr b.1, omega (arith, step, a, w))

pub top_all : (floor : ℕ) (items : List Item) (k n : ℕ) → length items ≤ k → IsTop floor (entries_of (take k items)) n → IsTop floor (entries_of items) n
top_all floor items k n h t = subst (λ (xs : List Item). IsTop floor (entries_of xs) n) (take_all k items h) t

-- ## The greatest number of each log

get_zeros : (n i : ℕ) → get_or (replicate n zero) i zero ≡ zero
get_zeros zero i = refl
get_zeros (suc n) zero = refl
get_zeros (suc n) (suc i) = get_zeros n i

pub greatest_none : (row : List ℕ) → row ≡ replicate (length row) 0 → AreGreatest [] row
greatest_none row e = record { at = λ w o l. ap (λ (xs : List ℕ). number_in xs w) e ∙ get_zeros (length row) (w - 1) }

pub greatest_more : (items : List Item) (k j : ℕ) (x d : Item) (row : List ℕ) (place n : ℕ) → j ≡ suc k → k < length items → x ≡ get_or items k d →
    0 < x.log → x.log ≤ length row → place ≡ x.log - 1 → n ≡ max (get_or row place 0) x.said.gsn → AreGreatest (entries_of (take k items)) row → AreGreatest (entries_of (take j items)) (set row place n)
greatest_more items k j x d row place n e l is some most at step before =
    subst (λ (z : List Entry). AreGreatest z (set row place n)) (sym (entries_at items k j x d e l is))
    (record { at = λ w o h. one w o (let q = length-set row place n in omega arith) (cases_eq x.log w) })
  where
    z : List Entry
    z = entries_of (take k items)

    one : (w : ℕ) → 0 < w → w ≤ length row → (x.log ≡ w) ⊎ (x.log ≡ w → ⊥) → number_in (set row place n) w ≡ ends.greatest w (entry_of x ∷ z)
    one w o h (inl q) =
        let p : w - 1 ≡ place = omega arith in
        let g : get_or row place 0 ≡ ends.greatest w z = ap (λ i. get_or row i 0) (sym p) ∙ before.at w o h in
        let m : n ≡ max x.said.gsn (ends.greatest w z) = omega arith in
        ap (λ i. get_or (set row place n) i 0) p ∙ get_or-set_same row place n 0 (omega arith) ∙ m
        ∙ sym (cond-true (x.log == w) (max x.said.gsn (ends.greatest w z)) (ends.greatest w z) (eq-eqb x.log w q))
    one w o h (inr q) =
        get_or-set_other row place (w - 1) n 0 (λ p. q (omega arith)) ∙ before.at w o h
        ∙ sym (cond-false (x.log == w) (max x.said.gsn (ends.greatest w z)) (ends.greatest w z) (ne_eqb x.log w q))

pub greatest_all : (items : List Item) (k : ℕ) (row : List ℕ) → length items ≤ k → AreGreatest (entries_of (take k items)) row → AreGreatest (entries_of items) row
greatest_all items k row h g = subst (λ (xs : List Item). AreGreatest (entries_of xs) row) (take_all k items h) g

-- ## The reach

pub least_none : (floor : ℕ) (row : List ℕ) (far n : ℕ) → n ≡ get_or row 0 0 → far ≡ max floor n → far ≡ reach_of 0 floor (number_in row)
least_none floor row far n e f = f ∙ ap (max floor) e

pub least_more : (floor : ℕ) (row : List ℕ) (k n far now : ℕ) → n ≡ get_or row k 0 → far ≡ reach_of k floor (number_in row) → now ≡ min far (max floor n) → now ≡ reach_of (k + 1) floor (number_in row)
least_more floor row k n far now e before step =
    let a : k + 1 ≡ suc k = omega arith in
    let b : suc k - 1 ≡ k = omega arith in
    let c : number_in row (suc k) ≡ n = ap (λ i. get_or row i 0) b ∙ sym e in
    let f : now ≡ min (max floor n) far = omega arith in
    f ∙ ap (λ m. min (max floor m) far) (sym c) ∙ ap (λ m. min (max floor (number_in row (suc k))) m) before
    ∙ ap (λ i. reach_of i floor (number_in row)) (sym a)

least_same : (f g : ℕ → ℕ) (n : ℕ) → ((w : ℕ) → 0 < w → w ≤ suc n → f w ≡ g w) → least f (suc n) ≡ least g (suc n)
least_same f g zero h = ap (λ m. min m m) (h 1 (omega arith) (omega arith))
least_same f g (suc n) h = ap (λ m. min m (least f (suc n))) (h (suc (suc n)) (omega arith) (omega arith)) ∙ ap (λ m. min (g (suc (suc n))) m) (least_same f g n (λ w o l. h w o (omega arith)))

pub reach_from : (logs floor : ℕ) (z : List Entry) (row : List ℕ) (far : ℕ) → 0 < logs → logs ≤ length row → AreGreatest z row → far ≡ reach_of logs floor (number_in row) → far ≡ ends.reach logs floor z
reach_from zero floor z row far some l g e = absurd (omega arith)
reach_from (suc n) floor z row far some l g e =
    e ∙ least_same (λ w. max floor (number_in row w)) (λ w. max floor (ends.greatest w z)) n (λ w o h. ap (max floor) (g.at w o (omega arith)))

-- ## Winners

pub winners_more : (far : ℕ) (items : List Item) (k j : ℕ) (x d : Item) (b : Bool) (n m : ℕ) → j ≡ suc k → k < length items → x ≡ get_or items k d →
    n ≡ length (ends.winners far (entries_of (take k items))) → b ≡ ends.wins far (entry_of x) → m ≡ cond b (n + 1) n → m ≡ length (ends.winners far (entries_of (take j items)))
winners_more far items k j x d b n m e l is before wins step =
    step ∙ ap (λ c. cond c (n + 1) n) wins ∙ ap (λ o. cond (ends.wins far (entry_of x)) (o + 1) o) before
    ∙ kept (ends.wins far (entry_of x)) (keep (ends.wins far) (entries_of (take k items)))
    ∙ ap (λ (z : List Entry). length (ends.winners far z)) (sym (entries_at items k j x d e l is))
  where
    kept : (c : Bool) (z : List Entry) → cond c (length (ends.names_of z) + 1) (length (ends.names_of z)) ≡ length (ends.names_of (cond c (entry_of x ∷ z) z))
    kept true z = omega arith
    kept false z = refl

-- ## Sets of transactions

no_keys : (s : BTreeSet ℕ) (t : ℕ) → s.keys ≡ [] → contains nat_cmp s t ≡ false
no_keys s t e = ap (λ (ks : List ℕ). contains nat_cmp (record { keys = ks }) t) e

pushed : (sets : List (BTreeSet ℕ)) (s : BTreeSet ℕ) (t i : ℕ) → s.keys ≡ [] → ((i : ℕ) → contains nat_cmp (get_or sets i (record { keys = [] })) t ≡ false) → contains nat_cmp (get_or (sets ++ s ∷ []) i (record { keys = [] })) t ≡ false
pushed [] s t zero e h = no_keys s t e
pushed [] s t (suc i) e h = refl
pushed (y ∷ ys) s t zero e h = h 0
pushed (y ∷ ys) s t (suc i) e h = pushed ys s t i e (λ i. h (suc i))

pub none_at_first : (sets : List (BTreeSet ℕ)) → sets ≡ [] → HasNone 0 sets
none_at_first sets e = record { count = ap length e; none = λ w t. ap (λ (xs : List (BTreeSet ℕ)). has_txn xs w t) e }

pub none_more : (k j : ℕ) (sets now : List (BTreeSet ℕ)) (s : BTreeSet ℕ) → j ≡ suc k → now ≡ sets ++ s ∷ [] → length now ≡ suc (length sets) → s.keys ≡ [] → HasNone k sets → HasNone j now
none_more k j sets now s e is long keys before = record {
  count = (let c = before.count in omega arith);
  none = λ w t. ap (λ (xs : List (BTreeSet ℕ)). has_txn xs w t) is ∙ pushed sets s t (w - 1) keys
      (λ i. ap (λ n. contains nat_cmp (get_or sets n (record { keys = [] })) t) (let q : i ≡ suc i - 1 = omega arith in q) ∙ before.none (suc i) t);
}

pub none_all : (k logs : ℕ) (sets : List (BTreeSet ℕ)) → k ≡ logs → HasNone k sets → HasNone logs sets
none_all k logs sets e h = subst (λ n. HasNone n sets) e h

-- ## Ended transactions

pub ended_none : (logs far : ℕ) (sets : List (BTreeSet ℕ)) → HasNone logs sets → AreEnded logs far [] sets
ended_none logs far sets h = record { at = λ w t o l. h.none w t }

pub ended_more : (logs far : ℕ) (items : List Item) (k j : ℕ) (x d : Item) (was now : List (BTreeSet ℕ)) → j ≡ suc k → k < length items → x ≡ get_or items k d →
    AreEnded logs far (entries_of (take k items)) was → ((w t : ℕ) → 0 < w → has_txn now w t ≡ (ends.ends far (of_txn w t) (entry_of x) || has_txn was w t)) → AreEnded logs far (entries_of (take j items)) now
ended_more logs far items k j x d was now e l is before step = record {
  at = λ w t o h. step w t o ∙ ap (λ b. ends.ends far (of_txn w t) (entry_of x) || b) (before.at w t o h) ∙ ap (λ (z : List Entry). ends.ended far z (of_txn w t)) (sym (entries_at items k j x d e l is));
}

pub ended_all : (logs far : ℕ) (items : List Item) (k : ℕ) (sets : List (BTreeSet ℕ)) → length items ≤ k → AreEnded logs far (entries_of (take k items)) sets → AreEnded logs far (entries_of items) sets
ended_all logs far items k sets h a = subst (λ (xs : List Item). AreEnded logs far (entries_of xs) sets) (take_all k items h) a

-- ## Losers

-- what was seen so far, and how many losers
pub record AreSeen (ended : List (BTreeSet ℕ)) (z : List Entry) (seen : List (BTreeSet ℕ)) (n : ℕ) : Type 0 where
  pub count : length seen ≡ length ended
  pub each : (w t : ℕ) → 0 < w → w ≤ length ended → has_txn ended w t ≡ false → has_txn seen w t ≡ any (same_txn (of_txn w t)) z
  pub many : (far : ℕ) (all : List Entry) → AreEnded (length ended) far all ended → n ≡ length (ends.names_of (keep (λ r. not (ends.ended far all r)) (ends.firsts z)))

pub seen_none : (ended s : List (BTreeSet ℕ)) → HasNone (length ended) s → AreSeen ended [] s 0
seen_none ended s h = record { count = h.count; each = λ w t o l _. h.none w t; many = λ _ _ _. refl }

pub seen_more : (ended : List (BTreeSet ℕ)) (items : List Item) (k j : ℕ) (x d : Item) (was now : List (BTreeSet ℕ)) (b : Bool) (n m : ℕ) → j ≡ suc k → k < length items → x ≡ get_or items k d →
    AreSeen ended (entries_of (take k items)) was n →
    0 < x.log → x.log ≤ length ended → length now ≡ length was →
    b ≡ (not (has_txn ended x.log x.said.txn) && not (has_txn was x.log x.said.txn)) →
    ((w t : ℕ) → 0 < w → has_txn ended w t ≡ false → has_txn now w t ≡ (((x.log == w) && (x.said.txn == t)) || has_txn was w t)) →
    m ≡ cond b (n + 1) n → AreSeen ended (entries_of (take j items)) now m
seen_more ended items k j x d was now b n m e l is before some most long new seen step =
    subst (λ (z : List Entry). AreSeen ended z now m) (sym (entries_at items k j x d e l is)) (record {
      count = long ∙ before.count;
      each = λ w t s h o. seen w t s o ∙ ap (λ c. ((x.log == w) && (x.said.txn == t)) || c) (before.each w t s h o)
          ∙ ap (λ c. (c && (x.said.txn == t)) || any (same_txn (of_txn w t)) z) (flip x.log w) ∙ ap (λ c. ((w == x.log) && c) || any (same_txn (of_txn w t)) z) (flip x.said.txn t);
      many = λ far all a. step ∙ ap (λ c. cond c (n + 1) n) new ∙ ap (λ o. cond (not (has_txn ended x.log x.said.txn) && not (has_txn was x.log x.said.txn)) (o + 1) o) (before.many far all a)
          ∙ counted far all a (has_txn ended x.log x.said.txn) refl;
    })
  where
    z : List Entry
    z = entries_of (take k items)

    flip : (a t : ℕ) → (a == t) ≡ (t == a)
    flip a t = elim (cases_eq a t) [ inl q ↦ eq-eqb a t q ∙ sym (eq-eqb t a (sym q)) | inr q ↦ ne_eqb a t q ∙ sym (ne_eqb t a (λ h. q (sym h))) ]

    counted : (far : ℕ) (all : List Entry) → AreEnded (length ended) far all ended → (g : Bool) → has_txn ended x.log x.said.txn ≡ g →
        cond (not g && not (has_txn was x.log x.said.txn)) (length (ends.names_of (keep (λ r. not (ends.ended far all r)) (ends.firsts z))) + 1) (length (ends.names_of (keep (λ r. not (ends.ended far all r)) (ends.firsts z))))
        ≡ length (ends.names_of (keep (λ r. not (ends.ended far all r)) (ends.firsts (entry_of x ∷ z))))
    counted far all a true q = gone (ends.is_first z (entry_of x)) (ends.ended far all (entry_of x)) (sym (a.at x.log x.said.txn some most) ∙ q)
      where
        gone : (f o : Bool) → o ≡ true → length (ends.names_of (keep (λ r. not (ends.ended far all r)) (ends.firsts z)))
            ≡ length (ends.names_of (keep (λ r. not (ends.ended far all r)) (cond f (entry_of x ∷ ends.firsts z) (ends.firsts z))))
        gone false o h = refl
        gone true o h = ap (λ c. length (ends.names_of (cond (not c) (entry_of x ∷ keep (λ r. not (ends.ended far all r)) (ends.firsts z)) (keep (λ r. not (ends.ended far all r)) (ends.firsts z))))) (sym (sym (a.at x.log x.said.txn some most) ∙ q))
    counted far all a false q =
        ap (λ c. cond (not c) (length (ends.names_of (keep (λ r. not (ends.ended far all r)) (ends.firsts z))) + 1) (length (ends.names_of (keep (λ r. not (ends.ended far all r)) (ends.firsts z))))) (before.each x.log x.said.txn some most q)
        ∙ kept (ends.is_first z (entry_of x))
      where
        kept : (f : Bool) → cond f (length (ends.names_of (keep (λ r. not (ends.ended far all r)) (ends.firsts z))) + 1) (length (ends.names_of (keep (λ r. not (ends.ended far all r)) (ends.firsts z))))
            ≡ length (ends.names_of (keep (λ r. not (ends.ended far all r)) (cond f (entry_of x ∷ ends.firsts z) (ends.firsts z))))
        kept false = refl
        kept true =
            let o : length (ends.names_of (keep (λ r. not (ends.ended far all r)) (ends.firsts z))) + 1 ≡ suc (length (ends.names_of (keep (λ r. not (ends.ended far all r)) (ends.firsts z)))) = omega arith in
            o ∙ ap (λ c. length (ends.names_of (cond (not c) (entry_of x ∷ keep (λ r. not (ends.ended far all r)) (ends.firsts z)) (keep (λ r. not (ends.ended far all r)) (ends.firsts z))))) (sym (sym (a.at x.log x.said.txn some most) ∙ q))

pub seen_all : (ended : List (BTreeSet ℕ)) (items : List Item) (k : ℕ) (seen : List (BTreeSet ℕ)) (n : ℕ) → length items ≤ k → AreSeen ended (entries_of (take k items)) seen n →
    (far : ℕ) → AreEnded (length ended) far (entries_of items) ended → n ≡ length (ends.losers far (entries_of items))
seen_all ended items k seen n h a far w = a.many far (entries_of items) w ∙ ap (λ (xs : List Item). length (ends.names_of (keep (λ r. not (ends.ended far (entries_of items) r)) (ends.firsts (entries_of xs))))) (take_all k items h)
