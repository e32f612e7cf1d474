-- The records of the logs, taken log by log, are those of the history.
use Rattle.page_model.specs.Tree as page_tree
use Rattle.std.proofs.Common.{◌≡◌, ℕ, zero, suc, ◌≤◌, ◌<◌, max, Bool, true, false, cond, ◌&&◌, ◌||◌, not, ltb, leb, ◌==◌, List, [], ◌∷◌, ◌++◌, ◌⊎◌, refl, sym, ap, ap₂, ◌∙◌, subst, inl, inr, arith, true≢false}
use Rattle.std.proofs.lemmas.Bool.{cases_eq, cases_lt, cases_order, eq-eqb, eqb-true, and_parts, or_cases, or_left, or_right, and_from, lt-ltb}
use Rattle.map_model.specs.Lists.{any, keep, Has}
use Rattle.rfa_model.specs.Reaches.{least}
use Rattle.core_paging.specs.image_model.Entries.{earlier, Entry, is_record, is_write, is_commit, same_txn, Contents}
use Rattle.core_crash.proofs.Words.{tested, found, is_cut, there, recovered, left, Crash, Stands, Done, journal, after, wins, kept, IsClosed, IsRipe}
use Rattle.map_model.specs.Lists.{in_order, insert_by}
use Rattle.core_paging.specs.image_model.Ends.{greatest, reach, ends, ended}
use Rattle.core_paging.specs.image_model.Redo.{Redone, redo}
use Rattle.core_paging.specs.image_model.Undo.{undo, values, is_lost}
use Rattle.page_model.specs.Tree.{IsTree}
use Rattle.core_paging.specs.core_state.States.{State, start, flushed_by_all}
use Rattle.core_paging.specs.core_state.Openings.{Opening, first}
use Rattle.core_paging.specs.core_state.Events.{Event}
use Rattle.core_paging.specs.core_state.Steps.{run}
use Rattle.core_crash.specs.Crashes.{log_of, IsPrefix, Leaves, from_head}
use Rattle.core_paging.specs.image_model.Images.{gathered}
use Rattle.core_paging.proofs.core_commit.Lists.{Within, Each, has_before, each_at}
use Rattle.map_model.proofs.ListLemmas.{any_has, has_any, keep_has, has_keep, insert_has, order_has, has_order, has_cases, has_left, has_right}
use Rattle.core_paging.proofs.core_commit.History.{Recorded, IsRecorded}
use Rattle.core_crash.proofs.Ends.{le_greatest, found_from, found_to}
use Rattle.core_crash.proofs.Cuts.{keep_same, same_bool}
use Rattle.core_paging.proofs.core_commit.Invariants.{Inv}
use Rattle.core_paging.proofs.core_commit.Runs.{good_run, good_start}
use Rattle.core_crash.proofs.Main.{every_crash}
use mathlib.Core.Path.{fun_ext}

-- ## Lists in order

abbrev Comparable : Entry → Entry → Type 0
Comparable x y = (earlier x y ≡ true) ⊎ (earlier y x ≡ true)

abbrev Distinct : List Entry → Type 0
Distinct l = Each (λ x ys. (y : Entry) → Has y ys → Comparable x y) l

abbrev Falls : List Entry → Type 0
Falls l = Each (λ x ys. (y : Entry) → Has y ys → earlier y x ≡ true) l

earlier_lt : (a b : Entry) → earlier a b ≡ true → (a.number < b.number) ⊎ ((a.number ≡ b.number) × (a.log < b.log))
earlier_lt a b h = elim (or_cases (ltb a.number b.number) ((a.number == b.number) && ltb a.log b.log) h) [
  | inl e ↦ inl (Rattle.std.proofs.lemmas.Bool.ltb-true a.number b.number e)
  | inr e ↦ let q = and_parts (a.number == b.number) (ltb a.log b.log) e in inr (eqb-true a.number b.number q.0, Rattle.std.proofs.lemmas.Bool.ltb-true a.log b.log q.1)
]

earlier_by : (a b : Entry) → (a.number < b.number) ⊎ ((a.number ≡ b.number) × (a.log < b.log)) → earlier a b ≡ true
earlier_by a b (inl l) = or_left (ltb a.number b.number) ((a.number == b.number) && ltb a.log b.log) (lt-ltb a.number b.number l)
earlier_by a b (inr l) = or_right (ltb a.number b.number) ((a.number == b.number) && ltb a.log b.log) (and_from (a.number == b.number) (ltb a.log b.log) (eq-eqb a.number b.number l.0) (lt-ltb a.log b.log l.1))

not_both : (a b : Entry) → earlier a b ≡ true → earlier b a ≡ true → ⊥
not_both a b h k = go (earlier_lt a b h) (earlier_lt b a k)
  where
    go : (a.number < b.number) ⊎ ((a.number ≡ b.number) × (a.log < b.log)) → (b.number < a.number) ⊎ ((b.number ≡ a.number) × (b.log < a.log)) → ⊥
    go (inl x) (inl y) = omega arith
    go (inl x) (inr y) = let q = y.0 in omega arith
    go (inr x) (inl y) = let q = x.0 in omega arith
    go (inr x) (inr y) = let q = x.1 in let p = y.1 in omega arith

comparable : (x y : Entry) → (x.log ≡ y.log → y.number < x.number) → Comparable x y
comparable x y h = elim (cases_order x.number y.number) [
  | inl e ↦ elim (cases_order x.log y.log) [
    | inl l ↦ let lt = h l in inr (earlier_by y x (inl lt))
    | inr l ↦ elim l [ inl a ↦ inl (earlier_by x y (inr (e, a))) | inr a ↦ inr (earlier_by y x (inr (sym e, a))) ]
  ]
  | inr n ↦ elim n [ inl a ↦ inl (earlier_by x y (inl a)) | inr a ↦ inr (earlier_by y x (inl a)) ]
]

earlier_trans : (a b c : Entry) → earlier a b ≡ true → earlier b c ≡ true → earlier a c ≡ true
earlier_trans a b c h k = earlier_by a c (go (earlier_lt a b h) (earlier_lt b c k))
  where
    go : (a.number < b.number) ⊎ ((a.number ≡ b.number) × (a.log < b.log)) → (b.number < c.number) ⊎ ((b.number ≡ c.number) × (b.log < c.log)) → (a.number < c.number) ⊎ ((a.number ≡ c.number) × (a.log < c.log))
    go (inl x) (inl y) = inl (omega arith)
    go (inl x) (inr y) = inl (let q = y.0 in omega arith)
    go (inr x) (inl y) = inl (let q = x.0 in omega arith)
    go (inr x) (inr y) = inr (x.0 ∙ y.0, let q = x.1 in let p = y.1 in omega arith)

insert_falls : (x : Entry) (ys : List Entry) → Falls ys → ((y : Entry) → Has y ys → Comparable x y) → Falls (insert_by earlier x ys)
insert_falls x [] f c = (λ y i. absurd i, tt)
insert_falls x (y ∷ ys) f c = go (insert_falls x ys f.1 (λ z i. c z (inr i))) (earlier x y) refl
  where
    below : earlier x y ≡ true → (z : Entry) → Has z (x ∷ ys) → earlier z y ≡ true
    below e z (inl q) = ap (λ (w : Entry). earlier w y) q ∙ e
    below e z (inr i) = f.0 z i

    above : earlier x y ≡ false → (z : Entry) → Has z (y ∷ ys) → earlier z x ≡ true
    above e z i = elim (c y (inl refl)) [
      | inl q ↦ absurd (true≢false (sym q ∙ e))
      | inr q ↦ deep q z i
    ]
      where
        deep : earlier y x ≡ true → (z : Entry) → Has z (y ∷ ys) → earlier z x ≡ true
        deep q z (inl p) = ap (λ (w : Entry). earlier w x) p ∙ q
        deep q z (inr i) = earlier_trans z y x (f.0 z i) q

    go : Falls (insert_by earlier x ys) → (b : Bool) → earlier x y ≡ b → Falls (cond b (y ∷ insert_by earlier x ys) (x ∷ y ∷ ys))
    go ih true e = (λ z i. below e z (insert_has earlier x ys z i), ih)
    go ih false e = (λ z i. above e z i, f)

order_falls : (l : List Entry) → Distinct l → Falls (in_order earlier l)
order_falls [] d = tt
order_falls (x ∷ l) d = insert_falls x (in_order earlier l) (order_falls l d.1) (λ y i. d.0 y (order_has earlier l y i))

abbrev SameMembers : List Entry → List Entry → Type 0
SameMembers a b = ((x : Entry) → Has x a → Has x b) × ((x : Entry) → Has x b → Has x a)

falls_same : (a b : List Entry) → Falls a → Falls b → SameMembers a b → a ≡ b
falls_same [] [] fa fb s = refl
falls_same [] (y ∷ b) fa fb s = absurd (s.1 y (inl refl))
falls_same (x ∷ a) [] fa fb s = absurd (s.0 x (inl refl))
falls_same (x ∷ a) (y ∷ b) fa fb s = go (λ e. falls_same a b fa.1 fb.1 (sub e, back e)) (s.0 x (inl refl)) (s.1 y (inl refl))
  where
    self : (z w : Entry) → z ≡ w → earlier z w ≡ true → ⊥
    self z w e h = not_both z w h (subst (λ (v : Entry). earlier v z ≡ true) e (subst (λ (v : Entry). earlier z v ≡ true) (sym e) h))

    sub : x ≡ y → (z : Entry) → Has z a → Has z b
    sub e z i = elim (s.0 z (inr i)) [ inl q ↦ absurd (self z x (q ∙ sym e) (fa.0 z i)) | inr j ↦ j ]

    back : x ≡ y → (z : Entry) → Has z b → Has z a
    back e z i = elim (s.1 z (inr i)) [ inl q ↦ absurd (self z y (q ∙ e) (fb.0 z i)) | inr j ↦ j ]

    go : (x ≡ y → a ≡ b) → Has x (y ∷ b) → Has y (x ∷ a) → (x ∷ a) ≡ (y ∷ b)
    go ih (inl e) j = ap₂ (λ (z : Entry) (l : List Entry). z ∷ l) e (ih e)
    go ih (inr i) (inl e) = ap₂ (λ (z : Entry) (l : List Entry). z ∷ l) (sym e) (ih (sym e))
    go ih (inr i) (inr j) = absurd (not_both x y (fb.0 x i) (fa.0 y j))

-- ## Recovery sees no more than which records are there

pub greatest_upper : (w n : ℕ) (z : List Entry) → ((r : Entry) → Has r z → r.log ≡ w → r.number ≤ n) → greatest w z ≤ n
greatest_upper w n [] h = omega arith
greatest_upper w n (r ∷ z) h = go (greatest_upper w n z (λ y i. h y (inr i))) (r.log == w) refl
  where
    go : greatest w z ≤ n → (b : Bool) → (r.log == w) ≡ b → cond b (max r.number (greatest w z)) (greatest w z) ≤ n
    go ih true e = let q = h r (inl refl) (eqb-true r.log w e) in omega arith
    go ih false e = ih

module _ (a b : List Entry) (s : SameMembers a b) (da : Distinct a) (db : Distinct b) where
  order_same : in_order earlier a ≡ in_order earlier b
  order_same = falls_same (in_order earlier a) (in_order earlier b) (order_falls a da) (order_falls b db)
      (λ x i. has_order earlier b x (s.0 x (order_has earlier a x i)), λ x i. has_order earlier a x (s.1 x (order_has earlier b x i)))

  log_same : (w : ℕ) → greatest w a ≡ greatest w b
  log_same w =
      let p = greatest_upper w (greatest w b) a (λ r i l. le_greatest w b r (s.0 r i) l) in
      let q = greatest_upper w (greatest w a) b (λ r i l. le_greatest w a r (s.1 r i) l) in
      omega arith

  reach_same : (g : Opening) (floor : ℕ) → reach g.workers floor a ≡ reach g.workers floor b
  reach_same g floor = ap (λ (f : ℕ → ℕ). least f g.workers) (fun_ext (λ w. ap (λ (n : ℕ). max floor n) (log_same w)))

  any_same : (p : Entry → Bool) → any p a ≡ any p b
  any_same p = same_bool (any p a) (any p b)
      (λ h. let x = any_has p a h in has_any p b x.0 (s.0 x.0 x.1) x.2)
      (λ h. let x = any_has p b h in has_any p a x.0 (s.1 x.0 x.1) x.2)

  pub recovered_same : (g : Opening) (floor : ℕ) (page : ℕ → Contents) → recovered g floor page a ≡ recovered g floor page b
  recovered_same g floor page =
      ap (λ (l : List Entry). undo (is_lost g.workers floor a (redo page l)) l (values g.format (redo page l))) order_same
      ∙ ap (λ (f : Entry → Bool). undo f (in_order earlier b) (values g.format (redo page (in_order earlier b)))) (fun_ext (λ r.
      ap (λ (e : Bool). is_write r.kind && ((redo page (in_order earlier b)).counts r.log r.number && not e))
      (ap (λ (n : ℕ). ended n a r) (reach_same g floor) ∙ any_same (ends (reach g.workers floor b) r))))

  pub lost_same : (g : Opening) (floor : ℕ) (d : Redone) (r : Entry) → is_lost g.workers floor a d r ≡ is_lost g.workers floor b d r
  lost_same g floor d r = ap (λ (e : Bool). is_write r.kind && (d.counts r.log r.number && not e)) (ap (λ (n : ℕ). ended n a r) (reach_same g floor) ∙ any_same (ends (reach g.workers floor b) r))

  pub kept_same : (g : Opening) (floor : ℕ) (j : List Done) → kept g floor a j ≡ kept g floor b j
  kept_same g floor j = keep_same (λ t. leb t.end.number floor || wins (reach g.workers floor a) a t) (λ t. leb t.end.number floor || wins (reach g.workers floor b) b t) j (λ t i.
      ap (λ (e : Bool). leb t.end.number floor || e) (ap (λ (n : ℕ). wins n a t) (reach_same g floor) ∙ any_same (λ e. is_commit e.kind && (same_txn e t.end && leb e.need (reach g.workers floor b)))))

-- ## The logs

distinct_append : (a b : List Entry) → Distinct a → Distinct b → ((x y : Entry) → Has x a → Has y b → Comparable x y) → Distinct (a ++ b)
distinct_append [] b da db h = db
distinct_append (x ∷ a) b da db h = (
  λ y i. elim (has_cases y a b i) [ inl j ↦ da.0 y j | inr j ↦ h x y (inl refl) j ],
  distinct_append a b da.1 db (λ u v i j. h u v (inr i) j),
)

distinct_keep : (p : Entry → Bool) (l : List Entry) → Distinct l → Distinct (keep p l)
distinct_keep p [] d = tt
distinct_keep p (x ∷ l) d = go (distinct_keep p l d.1) (p x)
  where
    go : Distinct (keep p l) → (b : Bool) → Distinct (cond b (x ∷ keep p l) (keep p l))
    go ih true = (λ y i. d.0 y (keep_has p l y i).0, ih)
    go ih false = ih

pub gathered_has : (f : ℕ → List Entry) (n : ℕ) (r : Entry) → Has r (gathered f n) → (w : ℕ) × Within n w × Has r (f w)
gathered_has f zero r i = absurd i
gathered_has f (suc n) r i = elim (has_cases r (f (suc n)) (gathered f n) i) [
  | inl j ↦ (suc n, (omega arith, omega arith), j)
  | inr j ↦ let q = gathered_has f n r j in (q.0, (q.1.0, (let l = q.1.1 in omega arith)), q.2)
]

pub has_gathered : (f : ℕ → List Entry) (n w : ℕ) (r : Entry) → Within n w → Has r (f w) → Has r (gathered f n)
has_gathered f zero w r l i = let a = l.0 in let b = l.1 in absurd (omega arith)
has_gathered f (suc n) w r l i = elim (cases_eq w (suc n)) [
  | inl e ↦ has_left r (f (suc n)) (gathered f n) (subst (λ (k : ℕ). Has r (f k)) e i)
  | inr e ↦ has_right r (f (suc n)) (gathered f n) (has_gathered f n w r (l.0, (let b = l.1 in omega arith)) i)
]

distinct_gathered : (f : ℕ → List Entry) (n : ℕ) → ((w : ℕ) → Within n w → Distinct (f w)) → ((w : ℕ) → Within n w → (r : Entry) → Has r (f w) → r.log ≡ w) → Distinct (gathered f n)
distinct_gathered f zero d l = tt
distinct_gathered f (suc n) d l = distinct_append (f (suc n)) (gathered f n) (d (suc n) (omega arith, omega arith)) (distinct_gathered f n (λ w q. d w (q.0, let z = q.1 in omega arith)) (λ w q. l w (q.0, let z = q.1 in omega arith)))
    (λ x y i j. comparable x y (λ e.
    let q = gathered_has f n y j in
    let a = l (suc n) (omega arith, omega arith) x i in
    let b = l q.0 (q.1.0, let z = q.1.1 in omega arith) y q.2 in
    let z = q.1.1 in
    absurd (omega arith)))

-- the numbers of a log fall
abbrev pub Numbers : List Entry → Type 0
Numbers l = Each (λ x ys. (y : Entry) → Has y ys → y.number < x.number) l

pub log_numbers : (g : Opening) (F w : ℕ) (h : List Entry) → IsRecorded g F h → Numbers (log_of w h)
log_numbers g F w [] hist = tt
log_numbers g F w (r ∷ h) hist = go (log_numbers g F w h hist.1) (is_record r.kind && (r.log == w)) refl
  where
    go : Numbers (log_of w h) → (b : Bool) → (is_record r.kind && (r.log == w)) ≡ b → Numbers (cond b (r ∷ log_of w h) (log_of w h))
    go ih true e = (
      λ y i.
          let p = and_parts (is_record r.kind) (r.log == w) e in
          let q = keep_has (λ r. is_record r.kind && (r.log == w)) h y i in
          let z = and_parts (is_record y.kind) (y.log == w) q.1 in
          hist.0.later p.0 y q.0 (eqb-true y.log w z.1 ∙ sym (eqb-true r.log w p.1)),
      ih,
    )
    go ih false e = ih

pub numbers_behind : (a b : List Entry) → Numbers (a ++ b) → Numbers b
numbers_behind [] b n = n
numbers_behind (x ∷ a) b n = numbers_behind a b n.1

pub numbers_across : (a b : List Entry) → Numbers (a ++ b) → (x y : Entry) → Has x a → Has y b → y.number < x.number
numbers_across [] b n x y i j = absurd i
numbers_across (z ∷ a) b n x y (inl e) j = let q = n.0 y (has_right y a b j) in let w = ap (λ (v : Entry). v.number) e in omega arith
numbers_across (z ∷ a) b n x y (inr i) j = numbers_across a b n.1 x y i j

numbers_distinct : (l : List Entry) → Numbers l → Distinct l
numbers_distinct [] n = tt
numbers_distinct (x ∷ l) n = (λ y i. inr (earlier_by y x (inl (n.0 y i))), numbers_distinct l n.1)

distinct_history : (g : Opening) (F : ℕ) (p : Entry → Bool) (h : List Entry) → ((r : Entry) → p r ≡ true → is_record r.kind ≡ true) → IsRecorded g F h → Distinct (keep p h)
distinct_history g F p [] pr hist = tt
distinct_history g F p (r ∷ h) pr hist = go (distinct_history g F p h pr hist.1) (p r) refl
  where
    go : Distinct (keep p h) → (b : Bool) → p r ≡ b → Distinct (cond b (r ∷ keep p h) (keep p h))
    go ih true e = (λ y i. comparable r y (λ l. hist.0.later (pr r e) y (keep_has p h y i).0 (sym l)), ih)
    go ih false e = ih

pub every_image : (g : Opening) → g.faithful ≡ true → (es : List Event) (logs : ℕ → List Entry) (page : ℕ → Contents) → Leaves g es logs page →
    let s = run g (start g) es in
    let z = gathered (λ w. from_head (s.head w) (logs w)) g.workers in
    Stands g s.entries s.floor z page × ((t : Done) → Has t (journal s.entries) → IsRipe g s t → Has t (kept g s.floor z (journal s.entries)))
every_image g faithful es logs page c = (
  record {
    map = λ k. ap (λ (f : ℕ → ℕ). f k) (recovered_same z1 z2 same d1 d2 g s.floor page) ∙ (main.0.map k ∙ ap (λ (l : List Done). after (first g) l k) (sym keeps));
    closed = subst (IsClosed (journal s.entries)) (sym keeps) main.0.closed;
    tree = subst (λ (z : List Entry). IsTree g.format (λ p. ((redo page z).page p).node)) (sym (order_same z1 z2 same d1 d2)) main.0.tree;
    entries = λ r i l e. main.0.entries r (same.0 r i)
        (sym (lost_same z1 z2 same d1 d2 g s.floor (redo page (in_order earlier z2)) r) ∙ (ap (λ (z : List Entry). is_lost g.workers s.floor z1 (redo page z) r) (sym (order_same z1 z2 same d1 d2)) ∙ l))
        (ap (λ (z : List Entry). page_tree.entry g.format.pages (λ p. ((redo page z).page p).node) r.key) (sym (order_same z1 z2 same d1 d2)) ∙ e);
    sound = ap (λ (z : List Entry). (tested g.format page z).sound) (order_same z1 z2 same d1 d2) ∙ main.0.sound;
  },
  λ t i r. subst (λ (l : List Done). Has t l) (sym keeps) (main.1 t i r),
)
  where
    s : State
    s = run g (start g) es

    v : Inv g s
    v = (good_run g es (start g) (good_start g)).inv

    up_to : ℕ → ℕ
    up_to w = max (s.flushed w) (greatest w (logs w))

    z1 : List Entry
    z1 = gathered (λ w. from_head (s.head w) (logs w)) g.workers

    z2 : List Entry
    z2 = left up_to s

    in_log : (w : ℕ) → Within g.workers w → (r : Entry) → Has r (logs w) → Has r (log_of w s.entries)
    in_log w l r i = let f = c.prefixes w l.0 l.1 in subst (λ (x : List Entry). Has r x) f.1 (has_right r f.0 (logs w) i)

    of_log : (w : ℕ) → Within g.workers w → (r : Entry) → Has r (logs w) → Has r s.entries × (is_record r.kind ≡ true) × (r.log ≡ w)
    of_log w l r i =
        let q = keep_has (λ r. is_record r.kind && (r.log == w)) s.entries r (in_log w l r i) in
        let p = and_parts (is_record r.kind) (r.log == w) q.1 in
        (q.0, p.0, eqb-true r.log w p.1)

    crash : Crash g es up_to page
    crash = record { logs = λ w l. omega arith; pages = c.pages; numbers = c.numbers; changes = c.changes }

    main : Stands g s.entries s.floor z2 page × ((t : Done) → Has t (journal s.entries) → IsRipe g s t → Has t (kept g s.floor z2 (journal s.entries)))
    main = every_crash g faithful es up_to page crash

    -- a record up to the greatest number left is left
    filled : (r : Entry) → Has r s.entries → is_record r.kind ≡ true → Within g.workers r.log → r.number ≤ up_to r.log → Has r (logs r.log)
    filled r i k l n = elim (cases_lt (s.flushed r.log) r.number) [
      | inr q ↦ c.flushed r.log l.0 l.1 r mine q
      | inl q ↦ elim (has_cases r f.0 (logs r.log) (subst (λ (x : List Entry). Has r x) (sym f.1) mine)) [
        | inr j ↦ j
        | inl j ↦ absurd (let u = greatest_upper r.log (Rattle.std.proofs.Common.pred r.number) (logs r.log) (λ y iy _. let z = numbers_across f.0 (logs r.log) nums r y j iy in omega arith) in omega arith)
      ]
    ]
      where
        mine : Has r (log_of r.log s.entries)
        mine = has_keep (λ x. is_record x.kind && (x.log == r.log)) s.entries r i (and_from (is_record r.kind) (r.log == r.log) k (eq-eqb r.log r.log refl))

        f : IsPrefix (logs r.log) (log_of r.log s.entries)
        f = c.prefixes r.log l.0 l.1

        nums : Numbers (f.0 ++ logs r.log)
        nums = subst Numbers (sym f.1) (log_numbers g (flushed_by_all g s) r.log s.entries v.records)

    same : SameMembers z1 z2
    same = (to, from)
      where
        to : (r : Entry) → Has r z1 → Has r z2
        to r i =
            let q = gathered_has (λ w. from_head (s.head w) (logs w)) g.workers r i in
            let p = keep_has (λ r. not (leb r.number (s.head q.0))) (logs q.0) r q.2 in
            let o = of_log q.0 q.1 r p.0 in
            has_keep (there s.head up_to) s.entries r o.0 (and_from (found up_to r) (not (is_cut s.head r))
            (found_from up_to r o.1 (subst (λ (w : ℕ). r.number ≤ up_to w) (sym o.2) (let u = le_greatest q.0 (logs q.0) r p.0 o.2 in omega arith)))
            (subst (λ (w : ℕ). not (leb r.number (s.head w)) ≡ true) (sym o.2) p.1))

        from : (r : Entry) → Has r z2 → Has r z1
        from r i =
            let q = keep_has (there s.head up_to) s.entries r i in
            let p = and_parts (found up_to r) (not (is_cut s.head r)) q.1 in
            let b = has_before r s.entries q.0 in
            let l = (each_at (Recorded g (flushed_by_all g s)) s.entries r b.0 v.records b.1).log in
            has_gathered (λ w. from_head (s.head w) (logs w)) g.workers r.log r l
            (has_keep (λ x. not (leb x.number (s.head r.log))) (logs r.log) r (filled r q.0 (and_parts (is_record r.kind) (leb r.number (up_to r.log)) p.0).0 l (found_to up_to r p.0)) p.1)

    d1 : Distinct z1
    d1 = distinct_gathered (λ w. from_head (s.head w) (logs w)) g.workers
        (λ w l. distinct_keep (λ r. not (leb r.number (s.head w))) (logs w) (numbers_distinct (logs w) (numbers_behind (c.prefixes w l.0 l.1).0 (logs w) (subst Numbers (sym (c.prefixes w l.0 l.1).1) (log_numbers g (flushed_by_all g s) w s.entries v.records)))))
        (λ w l r i. (of_log w l r (keep_has (λ r. not (leb r.number (s.head w))) (logs w) r i).0).2)

    d2 : Distinct z2
    d2 = distinct_history g (flushed_by_all g s) (there s.head up_to) s.entries (λ r e. (and_parts (is_record r.kind) (leb r.number (up_to r.log)) (and_parts (found up_to r) (not (is_cut s.head r)) e).0).0) v.records

    keeps : kept g s.floor z1 (journal s.entries) ≡ kept g s.floor z2 (journal s.entries)
    keeps = kept_same z1 z2 same d1 d2 g s.floor (journal s.entries)
