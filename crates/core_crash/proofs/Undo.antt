-- What recovery leaves of a key, and that the order in which the records are taken doesn't matter.
use Rattle.std.proofs.Common.{◌≡◌, ℕ, ◌≤◌, ◌<◌, Bool, true, false, cond, ◌&&◌, ◌||◌, not, ltb, leb, ◌==◌, List, [], ◌∷◌, ◌⊎◌, refl, sym, ap, ap₂, ◌∙◌, inl, inr, arith, true≢false}
use Rattle.std.proofs.lemmas.Bool.{cases_Bool, cases_eq, eq-eqb, eqb-true, and_parts, or_cases, and_from, ltb-true, and_left, and_right, cond-true, cond-false, false_from_ne_true}
use Rattle.page_model.specs.Redo as page_redo
use Rattle.map_model.specs.Lists.{all, upd, keep, Has}
use Rattle.core_paging.specs.image_model.Entries.{is_page, page_kind, earlier, Entry, is_write, touches, Contents, written}
use Rattle.page_model.specs.Records.{Ref}
use Rattle.core_paging.specs.image_model.Redo.{passes, names_pages, is_sayable_as, Redone, stands, at_prev, redo_one, redo}
use Rattle.core_crash.proofs.Words.{Tested, test_one, tested, found, recovered}
use Rattle.map_model.specs.Lists.{in_order}
use Rattle.core_paging.specs.image_model.Ends.{reach, ended}
use Rattle.core_paging.specs.image_model.Undo.{undo_one, undo, values, is_lost}
use Rattle.core_paging.proofs.core_commit.KindFacts.{write_is_call, end_is_record, write_is_record, write_is_no_end}
use Rattle.core_paging.specs.core_state.Openings.{Opening, first}
use Rattle.core_paging.proofs.core_commit.Lists.{each_at, has_before, before_has, Each, Before, upd_comm, pick}
use Rattle.map_model.proofs.ListLemmas.{keep_has, upd_same, upd_other, all_same}
use Rattle.core_crash.proofs.Order.{fold_up, fold_down, Swaps, Apart, fold_up_order, fold_down_order}
use Rattle.core_paging.proofs.core_commit.Nodes.{on_key}
use Rattle.core_paging.proofs.core_commit.History.{EndOf, Recorded, IsRecorded, IsHistory, number_le_gsn, ref_touch}
use Rattle.core_crash.proofs.Ends.{behind_end, Cut, is_ended, ended_found, ended_counts, ended_before, counting, whole}
use Rattle.core_crash.proofs.Redo.{redo_stays, at_prev_off, counts_here, counts_else, value, value_on, value_cut, value_key_off, value_before, redo_value, CountsAre, counts_are, Had}
use mathlib.Core.Path.{fun_ext}

-- ## Undo, the records taken in the order in which they were staged

-- a write of the key by a transaction that is ended
abbrev pub stays : ℕ → (ℕ → ℕ) → List Entry → ℕ → Entry → List Entry → Bool
stays R up_to all k r b = on_key k r && is_ended R up_to all r

abbrev pub lasting : Opening → ℕ → (ℕ → ℕ) → List Entry → ℕ → List Entry → ℕ
lasting g R up_to all k h = pick (stays R up_to all k) (λ r b. r.after) (first g k) h

pub undo_one_off : (lost : Entry → Bool) (m : ℕ → ℕ) (r : Entry) (k : ℕ) → (lost r ≡ true → r.key ≡ k → ⊥) → undo_one lost m r k ≡ m k
undo_one_off lost m r k n = go (lost r) refl
  where
    go : (b : Bool) → lost r ≡ b → (cond b (upd m r.key r.before) m) k ≡ m k
    go true e = upd_other m r.key r.before k (λ s. n e (sym s))
    go false e = refl

undo_one_on : (lost : Entry → Bool) (m : ℕ → ℕ) (r : Entry) (k : ℕ) → lost r ≡ true → r.key ≡ k → undo_one lost m r k ≡ r.before
undo_one_on lost m r k l e = rw l (upd_same m r.key r.before k (sym e))

pub undo_keep_found : (lost : Entry → Bool) (f : Entry → Bool) (r : Entry) (h : List Entry) (m : ℕ → ℕ) → f r ≡ true → undo lost (keep f (r ∷ h)) m ≡ undo lost (keep f h) (undo_one lost m r)
undo_keep_found lost f r h m e = ap (λ (z : List Entry). undo lost z m) (cond-true (f r) (r ∷ keep f h) (keep f h) e)

pub undo_keep_lost : (lost : Entry → Bool) (f : Entry → Bool) (r : Entry) (h : List Entry) (m : ℕ → ℕ) → f r ≡ false → undo lost (keep f (r ∷ h)) m ≡ undo lost (keep f h) m
undo_keep_lost lost f r h m e = ap (λ (z : List Entry). undo lost z m) (cond-false (f r) (r ∷ keep f h) (keep f h) e)

-- where no write of the key is lost
undo_none : (lost : Entry → Bool) (f : Entry → Bool) (k : ℕ) (h : List Entry) → ((y : Entry) → Has y h → lost y ≡ true → y.key ≡ k → ⊥) → (m : ℕ → ℕ) → undo lost (keep f h) m k ≡ m k
undo_none lost f k [] n m = refl
undo_none lost f k (r ∷ h) n m = go (undo_none lost f k h (λ y i. n y (inr i))) (cases_Bool (f r))
  where
    go : ((m : ℕ → ℕ) → undo lost (keep f h) m k ≡ m k) → (f r ≡ true) ⊎ (f r ≡ false) → undo lost (keep f (r ∷ h)) m k ≡ m k
    go ih (inl e) = ap (λ (v : ℕ → ℕ). v k) (undo_keep_found lost f r h m e) ∙ (ih (undo_one lost m r) ∙ undo_one_off lost m r k (n r (inl refl)))
    go ih (inr e) = ap (λ (v : ℕ → ℕ). v k) (undo_keep_lost lost f r h m e) ∙ ih m

-- the lost writes, where `counts` says which counted
abbrev pub lost_by : ℕ → (ℕ → ℕ) → List Entry → (ℕ → ℕ → Bool) → Entry → Bool
lost_by R up_to all counts r = is_write r.kind && (counts r.log r.number && not (is_ended R up_to all r))

undo_value : (g : Opening) (F R : ℕ) (up_to : ℕ → ℕ) (all : List Entry) → Cut g F R up_to all → (counts : ℕ → ℕ → Bool) (k : ℕ) (h : List Entry) →
    ((r : Entry) (b : List Entry) → Before r b h → Before r b all) → IsHistory g F h → Each (CountsAre up_to counts) h →
    (m : ℕ → ℕ) → m k ≡ value g up_to k h → undo (lost_by R up_to all counts) (keep (found up_to) h) m k ≡ lasting g R up_to all k h
undo_value g F R up_to all c counts k [] sub hist ca m e = e
undo_value g F R up_to all c counts k (r ∷ h) sub hist ca m e = go (undo_value g F R up_to all c counts k h (λ y b i. sub y b (inr i)) hist.1 ca.1) (cases_Bool (on_key k r)) (cases_Bool (found up_to r)) (cases_Bool (is_ended R up_to all r))
  where
    lost : Entry → Bool
    lost = lost_by R up_to all counts

    here : Before r h all
    here = sub r h (inl (refl, refl))

    last_off : stays R up_to all k r h ≡ false → lasting g R up_to all k (r ∷ h) ≡ lasting g R up_to all k h
    last_off o = cond-false (stays R up_to all k r h) r.after (lasting g R up_to all k h) o

    last_on : stays R up_to all k r h ≡ true → lasting g R up_to all k (r ∷ h) ≡ r.after
    last_on o = cond-true (stays R up_to all k r h) r.after (lasting g R up_to all k h) o

    Goal : Type 0
    Goal = undo lost (keep (found up_to) (r ∷ h)) m k ≡ lasting g R up_to all k (r ∷ h)

    IH : Type 0
    IH = (m : ℕ → ℕ) → m k ≡ value g up_to k h → undo lost (keep (found up_to) h) m k ≡ lasting g R up_to all k h

    is_w : on_key k r ≡ true → is_write r.kind ≡ true
    is_w o = (and_parts (is_write r.kind) (r.key == k) o).0

    key : on_key k r ≡ true → r.key ≡ k
    key o = eqb-true r.key k (and_parts (is_write r.kind) (r.key == k) o).1

    -- nothing happens to the key
    skip : IH → value g up_to k (r ∷ h) ≡ value g up_to k h → stays R up_to all k r h ≡ false → found up_to r ≡ false → Goal
    skip ih v s f = ap (λ (w : ℕ → ℕ). w k) (undo_keep_lost lost (found up_to) r h m f) ∙ (ih m (e ∙ v) ∙ sym (last_off s))

    same : IH → value g up_to k (r ∷ h) ≡ value g up_to k h → stays R up_to all k r h ≡ false → (lost r ≡ true → r.key ≡ k → ⊥) → (found up_to r ≡ true) ⊎ (found up_to r ≡ false) → Goal
    same ih v s n (inl f) = ap (λ (w : ℕ → ℕ). w k) (undo_keep_found lost (found up_to) r h m f) ∙ (ih (undo_one lost m r) (undo_one_off lost m r k n ∙ (e ∙ v)) ∙ sym (last_off s))
    same ih v s n (inr f) = skip ih v s f

    deep : IH → on_key k r ≡ true → found up_to r ≡ true → is_ended R up_to all r ≡ false → (counting up_to r h ≡ true) ⊎ (counting up_to r h ≡ false) → Goal
    deep ih o f n (inl w) =
        let cnt = ca.0 f ∙ w in
        let l : lost r ≡ true = and_from (is_write r.kind) (counts r.log r.number && not (is_ended R up_to all r)) (is_w o) (and_from (counts r.log r.number) (not (is_ended R up_to all r)) cnt (ap not n)) in
        let bf = value_before g F up_to r h hist (is_w o) w ∙ ap (λ (i : ℕ). value g up_to i h) (key o) in
        ap (λ (v : ℕ → ℕ). v k) (undo_keep_found lost (found up_to) r h m f)
        ∙ (ih (undo_one lost m r) (undo_one_on lost m r k l (key o) ∙ bf) ∙ sym (last_off (and_right (on_key k r) (is_ended R up_to all r) n)))
    deep ih o f n (inr w) =
        let cnt = ca.0 f ∙ w in
        same ih (value_cut g up_to k r h w) (and_right (on_key k r) (is_ended R up_to all r) n)
        (λ l s. true≢false (sym (and_parts (counts r.log r.number) (not (is_ended R up_to all r)) (and_parts (is_write r.kind) (counts r.log r.number && not (is_ended R up_to all r)) l).1).0 ∙ cnt)) (inl f)

    go : IH → (on_key k r ≡ true) ⊎ (on_key k r ≡ false) → (found up_to r ≡ true) ⊎ (found up_to r ≡ false) → (is_ended R up_to all r ≡ true) ⊎ (is_ended R up_to all r ≡ false) → Goal
    go ih (inr o) f n = same ih (value_key_off g F up_to k r h hist o) (and_left (on_key k r) (is_ended R up_to all r) o)
        (λ l s. true≢false (sym (and_from (is_write r.kind) (r.key == k) (and_parts (is_write r.kind) (counts r.log r.number && not (is_ended R up_to all r)) l).0 (eq-eqb r.key k s)) ∙ o)) f
    go ih (inl o) (inr f) (inl n) = absurd (true≢false (sym (ended_found g F R up_to all c r h here (is_w o) n) ∙ f))
    go ih (inl o) (inr f) (inr n) = skip ih (value_cut g up_to k r h (and_left (found up_to r) (Rattle.map_model.specs.Lists.all (λ f. whole up_to f.page h) r.refs) f)) (and_right (on_key k r) (is_ended R up_to all r) n) f
    go ih (inl o) (inl f) (inr n) = deep ih o f n (cases_Bool (counting up_to r h))
    go ih (inl o) (inl f) (inl n) =
        let w : counting up_to r h ≡ true = ended_counts g F R up_to all c r h here (is_w o) n in
        let not_lost : (y : Entry) → is_ended R up_to all y ≡ true → lost y ≡ true → ⊥ = λ y en l. true≢false (sym (and_parts (counts y.log y.number) (not (is_ended R up_to all y)) (and_parts (is_write y.kind) (counts y.log y.number && not (is_ended R up_to all y)) l).1).1 ∙ ap not en) in
        ap (λ (v : ℕ → ℕ). v k) (undo_keep_found lost (found up_to) r h m f)
        ∙ (undo_none lost (found up_to) k h (λ y i l s. not_lost y (ended_before g F R up_to all c r h here (write_is_call r.kind (is_w o)) n y i (and_parts (is_write y.kind) (counts y.log y.number && not (is_ended R up_to all y)) l).0 (s ∙ sym (key o))) l) (undo_one lost m r)
        ∙ (undo_one_off lost m r k (λ l s. not_lost r n l)
        ∙ (e ∙ (value_on g F up_to k r h hist o w ∙ sym (last_on (and_from (on_key k r) (is_ended R up_to all r) o n))))))

-- ## The order of the records

earlier_to : (a b : Entry) → earlier a b ≡ true → (a.number < b.number) ⊎ ((a.number ≡ b.number) × (a.log < b.log))
earlier_to a b h = elim (or_cases (ltb a.number b.number) ((a.number == b.number) && ltb a.log b.log) h) [
  | inl e ↦ inl (ltb-true a.number b.number e)
  | inr e ↦ let q = and_parts (a.number == b.number) (ltb a.log b.log) e in inr (eqb-true a.number b.number q.0, ltb-true a.log b.log q.1)
]

pub earlier_le : (a b : Entry) → earlier a b ≡ true → a.number ≤ b.number
earlier_le a b h = elim (earlier_to a b h) [ inl e ↦ omega arith | inr e ↦ let q = e.0 in omega arith ]

pub earlier_differ : (a b : Entry) → earlier a b ≡ true → a.log ≡ b.log → a.number ≡ b.number → ⊥
earlier_differ a b h l n = elim (earlier_to a b h) [ inl e ↦ omega arith | inr e ↦ let q = e.1 in omega arith ]

-- a newer record that is earlier shares no page
pub pages_apart : (g : Opening) (F : ℕ) (x : Entry) (b : List Entry) → IsRecorded g F b → Recorded g F x b → (y : Entry) → Has y b → earlier x y ≡ true → (p : ℕ) → touches p x ≡ true → touches p y ≡ true → ⊥
pages_apart g F x b hist n y i e p tx ty =
    let a = number_le_gsn g F p b hist y i ty in
    let up = n.rises p tx in
    let le = earlier_le x y e in
    omega arith

redone_path : (a b : Redone) → a.page ≡ b.page → a.counts ≡ b.counts → a ≡ b
redone_path a b p q = λ i. record { page = p i; counts = q i }

-- what a record does depends on its own pages alone
pub stands_local : (d e : ℕ → Contents) (r : Entry) → ((p : ℕ) → touches p r ≡ true → d p ≡ e p) → stands d r ≡ stands e r
stands_local d e r h = all_same (λ f. ((d f.page).gsn == f.prev) || leb r.number (d f.page).gsn) (λ f. ((e f.page).gsn == f.prev) || leb r.number (e f.page).gsn) r.refs (λ f i. ap (λ (v : Contents). (v.gsn == f.prev) || leb r.number v.gsn) (h f.page (ref_touch r f i)))

pub redo_local : (d e : Redone) (r : Entry) (p : ℕ) → ((q : ℕ) → touches q r ≡ true → d.page q ≡ e.page q) → d.page p ≡ e.page p → (redo_one d r).page p ≡ (redo_one e r).page p
redo_local d e r p h s = ap₂ (λ (b : Bool) (v : Contents). cond (b && at_prev r p v) (written r p v) v) (stands_local d.page e.page r h) s

pub redo_off : (d : Redone) (r : Entry) (p : ℕ) → touches p r ≡ false → (redo_one d r).page p ≡ d.page p
redo_off d r p o = redo_stays d r p (at_prev_off r p (d.page p) o)

redo_swaps : (x y : Entry) → ((p : ℕ) → touches p x ≡ true → touches p y ≡ true → ⊥) → (x.log ≡ y.log → x.number ≡ y.number → ⊥) → Swaps redo_one x y
redo_swaps x y np ne d = redone_path (redo_one (redo_one d x) y) (redo_one (redo_one d y) x) (fun_ext (λ p. pages p (cases_Bool (touches p x)) (cases_Bool (touches p y)))) (fun_ext (λ k. fun_ext (counts k)))
  where
    x_keeps : (e : Redone) (q : ℕ) → touches q y ≡ true → (redo_one e x).page q ≡ e.page q
    x_keeps e q o = redo_off e x q (false_from_ne_true (touches q x) (λ z. np q z o))

    y_keeps : (e : Redone) (q : ℕ) → touches q x ≡ true → (redo_one e y).page q ≡ e.page q
    y_keeps e q o = redo_off e y q (false_from_ne_true (touches q y) (λ z. np q o z))

    pages : (p : ℕ) → (touches p x ≡ true) ⊎ (touches p x ≡ false) → (touches p y ≡ true) ⊎ (touches p y ≡ false) → (redo_one (redo_one d x) y).page p ≡ (redo_one (redo_one d y) x).page p
    pages p (inl a) b = y_keeps (redo_one d x) p a ∙ redo_local d (redo_one d y) x p (λ q o. sym (y_keeps d q o)) (sym (y_keeps d p a))
    pages p (inr a) (inl b) = redo_local (redo_one d x) d y p (λ q o. x_keeps d q o) (x_keeps d p b) ∙ sym (x_keeps (redo_one d y) p b)
    pages p (inr a) (inr b) = redo_off (redo_one d x) y p b ∙ (redo_off d x p a ∙ (sym (redo_off d y p b) ∙ sym (redo_off (redo_one d y) x p a)))

    at_x : (k l : ℕ) → k ≡ x.log → l ≡ x.number → (redo_one (redo_one d x) y).counts k l ≡ (redo_one (redo_one d y) x).counts k l
    at_x k l a b =
        counts_else (redo_one d x) y k l (λ u v. ne (sym a ∙ u) (sym b ∙ v))
        ∙ (rw (a, b) (counts_here d x ∙ (stands_local d.page (redo_one d y).page x (λ q o. sym (y_keeps d q o)) ∙ sym (counts_here (redo_one d y) x))))

    at_y : (k l : ℕ) → k ≡ y.log → l ≡ y.number → (redo_one (redo_one d x) y).counts k l ≡ (redo_one (redo_one d y) x).counts k l
    at_y k l a b =
        (rw (a, b) (counts_here (redo_one d x) y ∙ (stands_local (redo_one d x).page d.page y (λ q o. x_keeps d q o) ∙ sym (counts_here d y))))
        ∙ sym (counts_else (redo_one d y) x k l (λ u v. ne (sym u ∙ a) (sym v ∙ b)))

    neither : (k l : ℕ) → (k ≡ x.log → l ≡ x.number → ⊥) → (k ≡ y.log → l ≡ y.number → ⊥) → (redo_one (redo_one d x) y).counts k l ≡ (redo_one (redo_one d y) x).counts k l
    neither k l a b = counts_else (redo_one d x) y k l b ∙ (counts_else d x k l a ∙ (sym (counts_else d y k l b) ∙ sym (counts_else (redo_one d y) x k l a)))

    both : (k l i j : ℕ) → ((k ≡ i) × (l ≡ j)) ⊎ (k ≡ i → l ≡ j → ⊥)
    both k l i j = elim (cases_eq k i) [ inl a ↦ elim (cases_eq l j) [ inl b ↦ inl (a, b) | inr b ↦ inr (λ _ q. b q) ] | inr a ↦ inr (λ q _. a q) ]

    counts : (k l : ℕ) → (redo_one (redo_one d x) y).counts k l ≡ (redo_one (redo_one d y) x).counts k l
    counts k l = elim (both k l x.log x.number) [
      | inl a ↦ at_x k l a.0 a.1
      | inr a ↦ elim (both k l y.log y.number) [ inl b ↦ at_y k l b.0 b.1 | inr b ↦ neither k l a b ]
    ]

redo_commutes : (g : Opening) (F : ℕ) (x : Entry) (b : List Entry) → IsRecorded g F b → Recorded g F x b → (y : Entry) → Has y b → earlier x y ≡ true → Swaps redo_one x y
redo_commutes g F x b hist n y i e = redo_swaps x y (pages_apart g F x b hist n y i e) (earlier_differ x y e)

-- the numbers of a key's writes rise
keys_rise : (g : Opening) (F : ℕ) (x : Entry) (b : List Entry) → IsRecorded g F b → Recorded g F x b → (y : Entry) → Has y b → is_write x.kind ≡ true → is_write y.kind ≡ true → x.key ≡ y.key → y.number < x.number
keys_rise g F x b hist n y i kx ky e = elim (n.locked kx y i ky (ap g.row_of (sym e))) [
  | inl s ↦ n.later (write_is_record x.kind kx) y i s.0
  | inr d ↦ go d.0 d.1
]
  where
    go : (d : EndOf b y) → d.end.number < x.number → y.number < x.number
    go d lt =
        let pd = has_before d.end b d.stands in
        let py = has_before y b i in
        let q = behind_end g F b hist d.end pd.0 pd.1 d.is_end y py.0 py.1 (write_is_no_end y.kind ky) d.same in
        let l = (each_at (Recorded g F) b d.end pd.0 hist pd.1).later (end_is_record d.end.kind d.is_end) y (before_has y py.0 pd.0 q) (sym d.same.0) in
        omega arith

undo_commutes : (g : Opening) (F : ℕ) (lost : Entry → Bool) → ((r : Entry) → lost r ≡ true → is_write r.kind ≡ true) → (x : Entry) (b : List Entry) → IsRecorded g F b → Recorded g F x b → (y : Entry) → Has y b → earlier x y ≡ true → Swaps (undo_one lost) x y
undo_commutes g F lost lw x b hist n y i e m = go (lost x) refl (lost y) refl
  where
    go : (a : Bool) → lost x ≡ a → (c : Bool) → lost y ≡ c → undo_one lost (undo_one lost m x) y ≡ undo_one lost (undo_one lost m y) x
    go true a true c = rw (a, c) (upd_comm m x.key y.key x.before y.before (λ k. let lt = keys_rise g F x b hist n y i (lw x a) (lw y c) k in let le = earlier_le x y e in omega arith))
    go true a false c = rw (a, c) refl
    go false a c _ = rw a refl

pub apart_keep : {A S : Type 0} (lt : A → A → Bool) (step : S → A → S) (f : A → Bool) (h : List A) → Apart lt step h → Apart lt step (keep f h)
apart_keep lt step f [] a = tt
apart_keep lt step f (x ∷ h) a = go (apart_keep lt step f h a.1) (f x)
  where
    go : Apart lt step (keep f h) → (b : Bool) → Apart lt step (cond b (x ∷ keep f h) (keep f h))
    go ih true = (λ y i e. a.0 y (keep_has f h y i).0 e, ih)
    go ih false = ih

redo_apart : (g : Opening) (F : ℕ) (h : List Entry) → IsRecorded g F h → Apart earlier redo_one h
redo_apart g F [] hist = tt
redo_apart g F (x ∷ h) hist = (redo_commutes g F x h hist.1 hist.0, redo_apart g F h hist.1)

undo_apart : (g : Opening) (F : ℕ) (lost : Entry → Bool) → ((r : Entry) → lost r ≡ true → is_write r.kind ≡ true) → (h : List Entry) → IsRecorded g F h → Apart earlier (undo_one lost) h
undo_apart g F lost lw [] hist = tt
undo_apart g F lost lw (x ∷ h) hist = (undo_commutes g F lost lw x h hist.1 hist.0, undo_apart g F lost lw h hist.1)

redo_fold : (page : ℕ → Contents) (z : List Entry) → redo page z ≡ fold_up redo_one (record { page = page; counts = λ _ _. false }) z
redo_fold page [] = refl
redo_fold page (r ∷ z) = ap (λ (d : Redone). redo_one d r) (redo_fold page z)

undo_fold : (lost : Entry → Bool) (z : List Entry) (m : ℕ → ℕ) → undo lost z m ≡ fold_down (undo_one lost) m z
undo_fold lost [] m = refl
undo_fold lost (r ∷ z) m = undo_fold lost z (undo_one lost m r)

pub redo_sorted : (g : Opening) (F : ℕ) (f : Entry → Bool) (page : ℕ → Contents) (h : List Entry) → IsRecorded g F h → redo page (in_order earlier (keep f h)) ≡ redo page (keep f h)
redo_sorted g F f page h hist =
    redo_fold page (in_order earlier (keep f h))
    ∙ (fold_up_order earlier redo_one (keep f h) (apart_keep earlier redo_one f h (redo_apart g F h hist)) (record { page = page; counts = λ _ _. false })
    ∙ sym (redo_fold page (keep f h)))

-- redo with its tests doesn't mind the order either
pub passes_local : (g : Opening) (d e : ℕ → Contents) (r : Entry) → ((p : ℕ) → touches p r ≡ true → d p ≡ e p) → passes g.format d r ≡ passes g.format e r
passes_local g d e r h =
    ap (λ (b : Bool). names_pages g.format r && (not (is_page r.kind && b) || (is_sayable_as g.format (page_kind r.kind) r.record_of && all (test d) r.refs))) (stands_local d e r h)
    ∙ ap (λ (b : Bool). names_pages g.format r && (not (is_page r.kind && stands e r) || (is_sayable_as g.format (page_kind r.kind) r.record_of && b))) (all_same (test d) (test e) r.refs (λ f i. ap (λ (v : Contents). not (at_prev r f.page v) || page_redo.can_be g.format (page_kind r.kind) r.record_of f.page v.node) (h f.page (ref_touch r f i))))
  where
    test : (ℕ → Contents) → Ref → Bool
    test d f = not (at_prev r f.page (d f.page)) || page_redo.can_be g.format (page_kind r.kind) r.record_of f.page (d f.page).node

and_swap : (a b c : Bool) → ((a && b) && c) ≡ ((a && c) && b)
and_swap false b c = refl
and_swap true false false = refl
and_swap true false true = refl
and_swap true true false = refl
and_swap true true true = refl

tested_path : (a b : Tested) → a.done ≡ b.done → a.sound ≡ b.sound → a ≡ b
tested_path a b p q = λ i. record { done = p i; sound = q i }

test_swaps : (g : Opening) (x y : Entry) → ((p : ℕ) → touches p x ≡ true → touches p y ≡ true → ⊥) → (x.log ≡ y.log → x.number ≡ y.number → ⊥) → Swaps (test_one g.format) x y
test_swaps g x y np ne t = tested_path (test_one g.format (test_one g.format t x) y) (test_one g.format (test_one g.format t y) x) (redo_swaps x y np ne t.done) (
    ap (λ (b : Bool). (t.sound && passes g.format t.done.page x) && b) (passes_local g (redo_one t.done x).page t.done.page y (λ q o. redo_off t.done x q (false_from_ne_true (touches q x) (λ z. np q z o))))
    ∙ (and_swap t.sound (passes g.format t.done.page x) (passes g.format t.done.page y)
    ∙ ap (λ (b : Bool). (t.sound && passes g.format t.done.page y) && b) (sym (passes_local g (redo_one t.done y).page t.done.page x (λ q o. redo_off t.done y q (false_from_ne_true (touches q y) (λ z. np q o z)))))))

test_apart : (g : Opening) (F : ℕ) (h : List Entry) → IsRecorded g F h → Apart earlier (test_one g.format) h
test_apart g F [] hist = tt
test_apart g F (x ∷ h) hist = (λ y i e. test_swaps g x y (pages_apart g F x h hist.1 hist.0 y i e) (earlier_differ x y e), test_apart g F h hist.1)

test_fold : (g : Opening) (page : ℕ → Contents) (z : List Entry) → tested g.format page z ≡ fold_up (test_one g.format) (record { done = record { page = page; counts = λ _ _. false }; sound = true }) z
test_fold g page [] = refl
test_fold g page (r ∷ z) = ap (λ (d : Tested). test_one g.format d r) (test_fold g page z)

pub tested_sorted : (g : Opening) (F : ℕ) (f : Entry → Bool) (page : ℕ → Contents) (h : List Entry) → IsRecorded g F h → tested g.format page (in_order earlier (keep f h)) ≡ tested g.format page (keep f h)
tested_sorted g F f page h hist =
    test_fold g page (in_order earlier (keep f h))
    ∙ (fold_up_order earlier (test_one g.format) (keep f h) (apart_keep earlier (test_one g.format) f h (test_apart g F h hist)) (record { done = record { page = page; counts = λ _ _. false }; sound = true })
    ∙ sym (test_fold g page (keep f h)))

pub tested_done : (g : Opening) (page : ℕ → Contents) (z : List Entry) → (tested g.format page z).done ≡ redo page z
tested_done g page [] = refl
tested_done g page (r ∷ z) = ap (λ (d : Redone). redo_one d r) (tested_done g page z)

undo_sorted : (g : Opening) (F : ℕ) (f lost : Entry → Bool) → ((r : Entry) → lost r ≡ true → is_write r.kind ≡ true) → (h : List Entry) → IsRecorded g F h → (m : ℕ → ℕ) → undo lost (in_order earlier (keep f h)) m ≡ undo lost (keep f h) m
undo_sorted g F f lost lw h hist m =
    undo_fold lost (in_order earlier (keep f h)) m
    ∙ (fold_down_order earlier (undo_one lost) (keep f h) (apart_keep earlier (undo_one lost) f h (undo_apart g F lost lw h hist)) m
    ∙ sym (undo_fold lost (keep f h) m))

-- ## What recovery gives

pub recovered_unsorted : (g : Opening) (F floor : ℕ) (f : Entry → Bool) (h : List Entry) (snap : ℕ → Contents) → IsRecorded g F h → (k : ℕ) →
    recovered g floor snap (keep f h) k ≡ undo (is_lost g.workers floor (keep f h) (redo snap (keep f h))) (keep f h) (values g.format (redo snap (keep f h))) k
recovered_unsorted g F floor f h snap hist k =
    ap (λ (d : Redone). undo (is_lost g.workers floor z d) (in_order earlier z) (values g.format d) k) (redo_sorted g F f snap h hist)
    ∙ ap (λ (m : ℕ → ℕ). m k) (undo_sorted g F f (is_lost g.workers floor z d) (λ r l. (and_parts (is_write r.kind) (d.counts r.log r.number && not (ended (reach g.workers floor z) z r)) l).0) h hist (values g.format d))
  where
    z : List Entry
    z = keep f h

    d : Redone
    d = redo snap z

pub recovered_lasting : (g : Opening) (F floor : ℕ) (up_to : ℕ → ℕ) (h : List Entry) (snap : ℕ → Contents) →
    Cut g F (reach g.workers floor (keep (found up_to) h)) up_to h → IsHistory g F h → ((p : ℕ) → (snap p).gsn ≤ F) → ((p : ℕ) → Had g h p (snap p)) →
    (k : ℕ) → recovered g floor snap (keep (found up_to) h) k ≡ lasting g (reach g.workers floor (keep (found up_to) h)) up_to h k h
recovered_lasting g F floor up_to h snap c hist low had k =
    recovered_unsorted g F floor (found up_to) h snap c.records k
    ∙ undo_value g F R up_to h c d.counts k h (λ r b i. i) hist
    (counts_are g F R up_to snap low_R h c.records c.all (λ p. inl (had p)))
    (values g.format d) (redo_value g F R up_to snap low_R k h c.records c.all had)
  where
    z : List Entry
    z = keep (found up_to) h

    R : ℕ
    R = reach g.workers floor z

    d : Redone
    d = redo snap z

    low_R : (p : ℕ) → (snap p).gsn ≤ R
    low_R p = let a = low p in let b = c.far in omega arith
