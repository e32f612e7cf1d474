-- What every state of the core keeps, and how it lasts where a state grows.
use Rattle.std.proofs.Common.{◌≡◌, ℕ, ◌≤◌, ◌<◌, max, Bool, true, false, cond, ◌&&◌, not, ltb, ◌==◌, List, [], ◌∷◌, ◌⊎◌, Some, refl, sym, ap, ◌∙◌, inl, inr, arith, true≢false}
use Rattle.std.proofs.lemmas.Bool.{cases_Bool, cases_eq, cases_lt, ne_eqb, and_from, lt-ltb, and_left, cond-true, cond-false, not_from_false}
use Rattle.map_model.specs.Lists.{upd, Has}
use Rattle.core_state.specs.image_model.Entries.{Entry, touches, is_call, is_write, is_record, same_txn, written}
use Rattle.rfa_model.specs.Stamps.{is_remote}
use Rattle.core_state.specs.States.{Row, Worker, State, flushed_by_all}
use Rattle.core_state.specs.Openings.{Opening}
use Rattle.core_state.specs.Steps.{claims, touch}
use Rattle.core_commit.proofs.KindFacts.{claims_call}
use Rattle.core_commit.proofs.Lists.{le_least, each_map}
use Rattle.map_model.proofs.ListLemmas.{upd_same, upd_other, at_upd}
use Rattle.core_commit.proofs.History.{Covered, PagesCovered, EndOf, Recorded, IsRecorded, Entered, IsHistory, page_at, page_hit, page_miss, number_le_gsn, nodes, history_on, history_off, not_by, without}
use Rattle.core_commit.proofs.Nodes.{key_parts, on_key, Fits}
pub use Rattle.core_commit.specs.Invariants.{Holds, top_of, RowOk, marker, undone, values_of, WorkerOk, Undoes, bound, tops, CutsOk, IsTold, Inv}

-- ## Rows

abbrev pub end_more : (h : List Entry) (y x : Entry) → EndOf h y → EndOf (x ∷ h) y
end_more h y x d = record { end = d.end; stands = inr d.stands; is_end = d.is_end; same = d.same }

pub covered_more : (w x y : ℕ) (r : Entry) → x ≤ y → Covered w x r → Covered w y r
covered_more w x y r l (inl e) = inl e
covered_more w x y r l (inr e) = inr (omega arith)

pub some_same : (a b : ℕ) → Some a ≡ Some b → a ≡ b
some_same a b e = cc

abbrev pub AtMost : (ℕ → ℕ) → (ℕ → ℕ) → Type 0
AtMost f f' = (w : ℕ) → f w ≤ f' w

-- bounds grow
pub row_same : (g : Opening) (X T X' T' : ℕ → ℕ) (h : List Entry) (i : ℕ) (o : Row) → AtMost X X' → AtMost T T' → RowOk g X T h i o → RowOk g X' T' h i o
row_same g X T X' T' h i o lx lt r = record {
  writes = λ y s k q. elim (r.writes y s k q) [ inl e ↦ inl e | inr e ↦ inr (e.0, e.1, covered_more o.log (X o.log) (X' o.log) e.0.end (lx o.log) e.2) ];
  reads = r.reads;
  alone = r.alone;
  touched = λ w hw y s k q. elim (r.touched w hw y s k q) [ inl e ↦ inl e | inr e ↦ inr (e.0, (let m = e.1 in let n = lt w in omega arith), covered_more w (X w) (X' w) e.0.end (lx w) e.2) ];
  sole = λ w hw y s k q. elim (r.sole w hw y s k q) [ inl e ↦ inl e | inr e ↦ inr (e.0, let m = e.1 in let n = lt w in omega arith) ];
  known = r.known;
  fresh = r.fresh;
}

-- an entry comes, from one who holds the row
abbrev pub MayEnter : Opening → ℕ → Row → Entry → Type 0
MayEnter g i o x = is_call x.kind ≡ true → g.row_of x.key ≡ i → Holds o x.log × (claims x ≡ true → o.holder ≡ Some x.log)

pub row_more : (g : Opening) (X T : ℕ → ℕ) (h : List Entry) (i : ℕ) (o : Row) (x : Entry) → MayEnter g i o x → RowOk g X T h i o → RowOk g X T (x ∷ h) i o
row_more g X T h i o x m r = record { writes = writes; reads = reads; alone = r.alone; touched = touched; sole = sole; known = r.known; fresh = r.fresh }
  where
    no_end : claims x ≡ true → is_call x.kind ≡ true
    no_end k = claims_call x k

    writes : (y : Entry) → Has y (x ∷ h) → claims y ≡ true → g.row_of y.key ≡ i → (o.holder ≡ Some y.log) ⊎ ((d : EndOf (x ∷ h) y) × (d.end.number ≤ o.number) × Covered o.log (X o.log) d.end)
    writes y (inl e) k q = inl (rw e ((m (no_end (ap claims (sym e) ∙ k)) (ap (λ (r : Entry). g.row_of r.key) (sym e) ∙ q)).1 (ap claims (sym e) ∙ k)))
    writes y (inr s) k q = elim (r.writes y s k q) [ inl e ↦ inl e | inr e ↦ inr (end_more h y x e.0, e.1, e.2) ]

    reads : (y : Entry) → Has y (x ∷ h) → is_call y.kind ≡ true → g.row_of y.key ≡ i → Holds o y.log ⊎ ((d : EndOf (x ∷ h) y) × (d.end.number ≤ max o.number o.read_end))
    reads y (inl e) k q = inl (rw e ((m (ap (λ (r : Entry). is_call r.kind) (sym e) ∙ k) (ap (λ (r : Entry). g.row_of r.key) (sym e) ∙ q)).0))
    reads y (inr s) k q = elim (r.reads y s k q) [ inl e ↦ inl e | inr e ↦ inr (end_more h y x e.0, e.1) ]

    same_as : (w : ℕ) → Holds o w → o.holder ≡ Some x.log → x.log ≡ w
    same_as w (inl a) b = some_same x.log w (sym b ∙ a)
    same_as w (inr a) b = sym (r.alone x.log w b a)

    same_too : (w : ℕ) → o.holder ≡ Some w → Holds o x.log → x.log ≡ w
    same_too w a (inl b) = some_same x.log w (sym b ∙ a)
    same_too w a (inr b) = r.alone w x.log a b

    touched : (w : ℕ) → Holds o w → (y : Entry) → Has y (x ∷ h) → claims y ≡ true → g.row_of y.key ≡ i → (y.log ≡ w) ⊎ ((d : EndOf (x ∷ h) y) × (d.end.number ≤ T w) × Covered w (X w) d.end)
    touched w hw y (inl e) k q = inl (rw e (same_as w hw ((m (no_end (ap claims (sym e) ∙ k)) (ap (λ (r : Entry). g.row_of r.key) (sym e) ∙ q)).1 (ap claims (sym e) ∙ k))))
    touched w hw y (inr s) k q = elim (r.touched w hw y s k q) [ inl e ↦ inl e | inr e ↦ inr (end_more h y x e.0, e.1, e.2) ]

    sole : (w : ℕ) → o.holder ≡ Some w → (y : Entry) → Has y (x ∷ h) → is_call y.kind ≡ true → g.row_of y.key ≡ i → (y.log ≡ w) ⊎ ((d : EndOf (x ∷ h) y) × (d.end.number ≤ T w))
    sole w hw y (inl e) k q = inl (rw e (same_too w hw ((m (ap (λ (r : Entry). is_call r.kind) (sym e) ∙ k) (ap (λ (r : Entry). g.row_of r.key) (sym e) ∙ q)).0)))
    sole w hw y (inr s) k q = elim (r.sole w hw y s k q) [ inl e ↦ inl e | inr e ↦ inr (end_more h y x e.0, e.1) ]

-- ## Workers

pub pages_more : (w x y : ℕ) (h : List Entry) → x ≤ y → PagesCovered w x h → PagesCovered w y h
pages_more w x y h l p = each_map _ _ h (λ r b c lg q t z i u. covered_more w x y z l (c lg q t z i u)) p

abbrev pub KeepsHolds : (ℕ → Row) → (ℕ → Row) → ℕ → Type 0
KeepsHolds row row' w = (i : ℕ) → ((row i).holder ≡ Some w → (row' i).holder ≡ Some w) × (Holds (row i) w → Holds (row' i) w)

-- F grows, rows change but keep w's holds
pub worker_same : (g : Opening) (F F' base flushed : ℕ) (h : List Entry) (row row' : ℕ → Row) (w : ℕ) (a : Worker) → F ≤ F' → KeepsHolds row row' w → WorkerOk g F base flushed h row w a → WorkerOk g F' base flushed h row' w a
worker_same g F F' base flushed h row row' w a l kh o = record {
  floor = let m = o.floor in omega arith;
  debt = o.debt;
  end = o.end;
  flushed = o.flushed;
  based = o.based;
  in_log = o.in_log;
  numbers = o.numbers;
  ends = λ e i k q. let m = o.ends e i k q in (m.0, omega arith);
  past = o.past;
  unended = o.unended;
  pages = pages_more w (max a.debt F) (max a.debt F') h (omega arith) o.pages;
  is_log = o.is_log;
  used = λ op r i k lg t. let u = o.used op r i k lg t in ((kh (g.row_of r.key)).1 u.0, λ k. (kh (g.row_of r.key)).0 (u.1 k));
  changes = λ op c i. (kh (g.row_of c.key)).0 (o.changes op c i);
  words = o.words;
}

pub undone_at : (cs : List Entry) (m m' : ℕ → ℕ) (k : ℕ) → m k ≡ m' k → undone cs m k ≡ undone cs m' k
undone_at [] m m' k e = e
undone_at (c ∷ cs) m m' k e = undone_at cs (upd m c.key c.before) (upd m' c.key c.before) k (elim (cases_eq k c.key) [
  | inl q ↦ upd_same m c.key c.before k q ∙ sym (upd_same m' c.key c.before k q)
  | inr n ↦ upd_other m c.key c.before k n ∙ (e ∙ sym (upd_other m' c.key c.before k n))
])

pub undone_off : (cs : List Entry) (m : ℕ → ℕ) (k : ℕ) → ((c : Entry) → Has c cs → c.key ≡ k → ⊥) → undone cs m k ≡ m k
undone_off [] m k n = refl
undone_off (c ∷ cs) m k n = undone_off cs (upd m c.key c.before) k (λ d i. n d (inr i)) ∙ upd_other m c.key c.before k (λ e. n c (inl refl) (sym e))

-- an entry of another worker comes
pub worker_more : (g : Opening) (F base flushed : ℕ) (h : List Entry) (row : ℕ → Row) (w : ℕ) (a : Worker) (x : Entry) → (x.log ≡ w → ⊥) → WorkerOk g F base flushed h row w a → WorkerOk g F base flushed (x ∷ h) row w a
worker_more g F base flushed h row w a x ne o = record {
  floor = o.floor;
  debt = o.debt;
  end = o.end;
  flushed = o.flushed;
  based = o.based;
  in_log = elim o.in_log [ inl e ↦ inl e | inr e ↦ inr (e.0, inr e.1, e.2, e.3, e.4) ];
  numbers = λ r i l. o.numbers r (old r i l) l;
  ends = λ e i k l. o.ends e (old e i l) k l;
  past = λ r i l. elim (o.past r (old r i l) l) [ inl e ↦ inl e | inr e ↦ inr (end_more h r x e) ];
  unended = λ op e i k l t. o.unended op e (old e i l) k l t;
  pages = (λ l p t y i u. absurd (ne l), o.pages);
  is_log = o.is_log;
  used = λ op r i k l t. o.used op r (old r i l) k l t;
  changes = o.changes;
  words = o.words;
}
  where
    old : (r : Entry) → Has r (x ∷ h) → r.log ≡ w → Has r h
    old r (inl e) l = absurd (ne (ap (λ (y : Entry). y.log) (sym e) ∙ l))
    old r (inr i) l = i

-- where this one holds the rows of its changes, and the other the row of its write
pub undo_more : (g : Opening) (F : ℕ) (h : List Entry) (row : ℕ → Row) (w : ℕ) (a : Worker) (x : Entry) → IsHistory g F h → Fits g.format (nodes (page_at g h)) x → (x.log ≡ w → ⊥) → (is_write x.kind ≡ true → (row (g.row_of x.key)).holder ≡ Some x.log) →
    (a.is_open ≡ true → (c : Entry) → Has c a.changes → (row (g.row_of c.key)).holder ≡ Some w) → Undoes g h w a → Undoes g (x ∷ h) w a
undo_more g F h row w a x hist fit ne hx held undo op k = go (cases_Bool (on_key k x))
  where
    not_same : same_txn x (marker w a) ≡ false
    not_same = and_left (x.log == w) (x.txn == a.txn) (ne_eqb x.log w ne)

    go : (on_key k x ≡ true) ⊎ (on_key k x ≡ false) → undone a.changes (values_of g (x ∷ h)) k ≡ without g (marker w a) k (x ∷ h)
    go (inl q) =
        let kx = key_parts k x q in
        undone_off a.changes (values_of g (x ∷ h)) k (λ c i e. ne (some_same x.log w (sym (hx kx.0) ∙ (ap (λ (j : ℕ). (row (g.row_of j)).holder) (kx.1 ∙ sym e) ∙ held op c i))))
        ∙ (history_on g F k x h hist fit q ∙ sym (cond-true (not_by (marker w a) k x h) x.after (without g (marker w a) k h) (and_from (on_key k x) (not (same_txn x (marker w a))) q (not_from_false (same_txn x (marker w a)) not_same))))
    go (inr q) =
        undone_at a.changes (values_of g (x ∷ h)) (values_of g h) k (history_off g F k x h hist fit q)
        ∙ (undo op k ∙ sym (cond-false (not_by (marker w a) k x h) x.after (without g (marker w a) k h) (and_left (on_key k x) (not (same_txn x (marker w a))) q)))

-- ## States

pub cuts_more : (g : Opening) (F floor cut : ℕ) (head flushed : ℕ → ℕ) (h : List Entry) (x : Entry) → (is_record x.kind ≡ true → cut < x.number) → CutsOk g F floor cut head flushed h → CutsOk g F floor cut head flushed (x ∷ h)
cuts_more g F floor cut head flushed h x n o = record { base = o.base; low = o.low; heads = o.heads; ripe = ripe }
  where
    ripe : (r : Entry) → Has r (x ∷ h) → is_record r.kind ≡ true → r.number ≤ cut → (e : EndOf (x ∷ h) r) × (e.end.number ≤ flushed e.end.log) × (e.end.need ≤ F)
    ripe r (inl e) k l = let lt = n (ap (λ (z : Entry). is_record z.kind) (sym e) ∙ k) in let q = ap (λ (z : Entry). z.number) e in absurd (omega arith)
    ripe r (inr i) k l = let q = o.ripe r i k l in (end_more h r x q.0, q.1, q.2)

-- one worker's part changes
pub undo_at : (g : Opening) (h : List Entry) (worker : ℕ → Worker) (w : ℕ) (a : Worker) → ((j : ℕ) → Undoes g h j (worker j)) → Undoes g h w a → (j : ℕ) → Undoes g h j (upd worker w a j)
undo_at g h worker w a undo own j = at_upd (λ j b. Undoes g h j b) worker w a j own (λ _. undo j)

-- ## Touches

-- a stamp of no log is flushed everywhere
pub touch_covers : (w : ℕ) (a : Worker) (n l F : ℕ) → a.floor ≤ F → (l ≡ 0 → n ≤ F) → (l ≡ w) ⊎ (n ≤ max (touch w a n l).debt F)
touch_covers w a n l F fl none = elim (cases_eq l w) [
  | inl e ↦ inl e
  | inr ne ↦ elim (cases_eq l 0) [
    | inl z ↦ (let q = none z in inr (omega arith))
    | inr nz ↦ elim (cases_lt a.floor n) [
      | inl lt ↦ inr (rw (and_from (ltb a.floor n) (not (l == w) && not (l == 0)) (lt-ltb a.floor n lt) (and_from (not (l == w)) (not (l == 0)) (not_from_false (l == w) (ne_eqb l w ne)) (not_from_false (l == 0) (ne_eqb l 0 nz)))) (omega arith))
      | inr le ↦ inr (omega arith)
    ]
  ]
]

pub touch_debt : (w : ℕ) (a : Worker) (n l : ℕ) → a.debt ≤ a.clock → (a.debt ≤ (touch w a n l).debt) × ((touch w a n l).debt ≤ max a.clock n)
touch_debt w a n l d = go (is_remote w a.floor n l)
  where
    go : (b : Bool) → (a.debt ≤ cond b (max a.debt n) a.debt) × (cond b (max a.debt n) a.debt ≤ max a.clock n)
    go true = (omega arith, omega arith)
    go false = (omega arith, omega arith)

-- the start's base number is flushed by all
pub base_flushed : (g : Opening) (s : State) → Inv g s → g.base ≤ flushed_by_all g s
base_flushed g s i = le_least s.flushed g.workers g.base g.some_worker (λ w l. let a = (i.workers w).based l in let b = i.cuts.base in omega arith)

-- a page without a last log is as at the start
pub page_log : (g : Opening) (F p : ℕ) (h : List Entry) → IsRecorded g F h → (page_at g h p).last ≡ 0 → (page_at g h p).gsn ≤ g.base
page_log g F p [] hist e = g.low p
page_log g F p (r ∷ h) hist e = go (page_log g F p h hist.1) (touches p r) e
  where
    go : ((page_at g h p).last ≡ 0 → (page_at g h p).gsn ≤ g.base) → (b : Bool) → (cond b (written r p (page_at g h p)) (page_at g h p)).last ≡ 0 → (cond b (written r p (page_at g h p)) (page_at g h p)).gsn ≤ g.base
    go ih true z = let l = hist.0.log.0 in absurd (omega arith)
    go ih false z = ih z

pub stamp_flushed : (g : Opening) (s : State) → Inv g s → (p : ℕ) → (s.page p).last ≡ 0 → (s.page p).gsn ≤ flushed_by_all g s
stamp_flushed g s i p z =
    let b = base_flushed g s i in
    let q = page_log g (flushed_by_all g s) p s.entries i.records (sym (i.stamps p).1 ∙ z) in
    let e = (i.stamps p).0 in omega arith

-- what a page's stamp covers
pub page_covers : (g : Opening) (F w x p : ℕ) (h : List Entry) → IsRecorded g F h → PagesCovered w x h → ((page_at g h p).last ≡ w) ⊎ ((page_at g h p).gsn ≤ x) → (y : Entry) → Has y h → touches p y ≡ true → Covered w x y
page_covers g F w x p [] hist pc s y i o = absurd i
page_covers g F w x p (r ∷ h) hist pc s y i o = go (page_covers g F w x p h hist.1 pc.1) (cases_Bool (touches p r)) s i
  where
    go : (((page_at g h p).last ≡ w) ⊎ ((page_at g h p).gsn ≤ x) → (y : Entry) → Has y h → touches p y ≡ true → Covered w x y) → (touches p r ≡ true) ⊎ (touches p r ≡ false) →
        ((page_at g (r ∷ h) p).last ≡ w) ⊎ ((page_at g (r ∷ h) p).gsn ≤ x) → Has y (r ∷ h) → Covered w x y
    go ih (inl q) (inl s) (inl e) = inl (ap (λ (z : Entry). z.log) e ∙ (rw (page_hit g p r h q) at s))
    go ih (inl q) (inl s) (inr i) = pc.0 (rw (page_hit g p r h q) at s) p q y i o
    go ih (inl q) (inr s) i = inr (let n = number_le_gsn g F p (r ∷ h) hist y i o in omega arith)
    go ih (inr q) s (inl e) = absurd (true≢false (sym o ∙ (ap (touches p) e ∙ q)))
    go ih (inr q) s (inr i) = ih (rw (page_miss g p r h q) at s) y i o

-- F grows
pub recorded_same : (g : Opening) (F F' : ℕ) (r : Entry) (b : List Entry) → F ≤ F' → Recorded g F r b → Recorded g F' r b
recorded_same g F F' r b l n = record {
  log = n.log;
  later = n.later;
  logged = n.logged;
  prev = n.prev;
  rises = n.rises;
  still_open = n.still_open;
  purged = λ c k i y j w e. (let d = n.purged c k i y j w e in (d.0, let q = d.1 in omega arith));
  locked = n.locked;
  guarded = n.guarded;
  closes = λ k. let c = n.closes k in record {
    pages = pages_more r.log (max r.need F) (max r.need F') b (omega arith) c.pages;
    rows = λ z i s cz y iy ky q. elim (c.rows z i s cz y iy ky q) [ inl e ↦ inl e | inr e ↦ inr (e.0, covered_more r.log (max r.need F) (max r.need F') e.0.end (omega arith) e.1, e.2) ];
    order = c.order;
    ends = λ d i k q. let m = c.ends d i k q in omega arith;
    need = c.need;
  };
}

pub records_same : (g : Opening) (F F' : ℕ) (h : List Entry) → F ≤ F' → IsRecorded g F h → IsRecorded g F' h
records_same g F F' h l p = each_map (Recorded g F) (Recorded g F') h (λ r b n. recorded_same g F F' r b l n) p

pub history_same : (g : Opening) (F F' : ℕ) (h : List Entry) → F ≤ F' → IsHistory g F h → IsHistory g F' h
history_same g F F' h l p = each_map (Entered g F) (Entered g F') h (λ r b n. record { recorded = recorded_same g F F' r b l n.recorded; fits = n.fits; answers = n.answers; aborts = n.aborts }) p
