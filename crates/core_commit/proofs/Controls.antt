-- Each event that writes nothing keeps the invariants; so each event does.
use Rattle.std.proofs.Common.{◌≡◌, ℕ, zero, suc, ◌≤◌, ◌<◌, max, Bool, true, false, cond, if◌then◌else◌, ◌&&◌, ◌||◌, not, leb, ltb, ◌==◌, List, [], ◌∷◌, ◌⊎◌, Option, Some, None, refl, sym, ap, ◌∙◌, subst, inl, inr, arith, true≢false}
use Rattle.std.proofs.lemmas.Bool.{cases_Bool, cases_eq, cases_lt, eq-eqb, ne_eqb, eqb-true, and_parts, and_from, leb-true, ltb-true, le-leb, lt-leb, and_left, cond-true, cond-false, false_from_ne_true, not_from_true, not_from_false, not-true}
use Rattle.core_state.specs.image_model.Entries.{is_end, is_record, is_call, Entry, same_txn}
use Rattle.map_model.specs.Lists.{upd, keep, any, Has}
use Rattle.rfa_model.specs.Reaches.{least}
use Rattle.core_state.specs.Needs.{is_worker, is_ripe_end, is_ripe_up_to, is_saved_up_to, is_behind, holds_row, may_hold, is_held_by, is_free, is_reader, needs}
use Rattle.core_state.specs.States.{Row, Worker, State, flushed_by_all, start}
use Rattle.core_state.specs.Openings.{first, Opening}
use Rattle.core_state.specs.Lists.{most}
use Rattle.core_state.specs.Events.{Event, Mode}
use Rattle.core_state.specs.Steps.{claims, touch, at_pages, at_row, begun, locked, unlocked, looks, synced, happens}
use Rattle.core_commit.proofs.Lists.{Within, has_before, each_at, least_le, le_least, pick}
use Rattle.map_model.proofs.ListLemmas.{any_has, has_any, keep_has, has_keep, upd_same, at_upd}
use Rattle.core_commit.proofs.History.{same_to, Recorded, Covered, EndOf, IsHistory, history_pick, history_value, not_by, without}
use Rattle.core_commit.proofs.Nodes.{on_key}
use Rattle.core_commit.proofs.Invariants.{Holds, top_of, RowOk, some_same, AtMost, row_same, marker, WorkerOk, pages_more, KeepsHolds, worker_same, bound, tops, IsTold, Inv, undo_at, touch_covers, touch_debt, records_same, history_same, stamp_flushed}
use Rattle.core_commit.proofs.Events.{upd_at_most, worker_raised, holds_to, held_to, free_to, open_top, shut_top, touched_all}

-- ## Begin

-- where no write is of the transaction
without_none : (g : Opening) (F : ℕ) (e : Entry) (k : ℕ) (h : List Entry) → IsHistory g F h → ((r : Entry) → Has r h → same_txn r e ≡ false) → history_value g k h ≡ without g e k h
without_none g F e k h hist n = history_pick g F k h hist ∙ go h n
  where
    go : (h : List Entry) → ((r : Entry) → Has r h → same_txn r e ≡ false) → pick (λ r b. on_key k r) (λ r b. r.after) (first g k) h ≡ without g e k h
    go [] n = refl
    go (r ∷ h) n = deep (go h (λ z i. n z (inr i))) (cases_Bool (on_key k r))
      where
        P : ℕ
        P = pick (λ r b. on_key k r) (λ r b. r.after) (first g k) h

        W : ℕ
        W = without g e k h

        deep : P ≡ W → (on_key k r ≡ true) ⊎ (on_key k r ≡ false) → cond (on_key k r) r.after P ≡ cond (not_by e k r h) r.after W
        deep ih (inl o) = cond-true (on_key k r) r.after P o ∙ sym (cond-true (not_by e k r h) r.after W (and_from (on_key k r) (not (same_txn r e)) o (not_from_false (same_txn r e) (n r (inl refl)))))
        deep ih (inr o) = cond-false (on_key k r) r.after P o ∙ (ih ∙ sym (cond-false (not_by e k r h) r.after W (and_left (on_key k r) (not (same_txn r e)) o)))

pub worker_to : (g : Opening) (w : ℕ) → is_worker g w ≡ true → Within g.workers w
worker_to g w h = let p = and_parts (ltb 0 w) (leb w g.workers) h in (ltb-true 0 w p.0, leb-true w g.workers p.1)

pub inv_begin : (g : Opening) (s : State) → Inv g s → (w f : ℕ) → needs g s (Event.Begin w f) ≡ true → Inv g (happens g s (Event.Begin w f))
inv_begin g s i w f m = record {
  cuts = i.cuts;
  records = i.records;
  stamps = i.stamps;
  tree = i.tree;
  rows = λ j. row_same g (bound g s) (tops s) (λ v. max (upd s.worker w (begun a f) v).debt F) (λ v. top_of (upd s.worker w (begun a f) v)) h j (s.row j)
      (upd_at_most (λ b. max b.debt F) s.worker w (begun a f) debt_le.1) (upd_at_most top_of s.worker w (begun a f) (let e = o.end in rw (shut_top a shut) (omega arith))) (i.rows j);
  workers = λ j. at_upd (λ j b. WorkerOk g F s.floor (s.flushed j) h s.row j b) s.worker w (begun a f) j own (λ _. i.workers j);
  told = λ f. told (i.told f);
}
  where
    h : List Entry
    h = s.entries

    F : ℕ
    F = flushed_by_all g s

    a : Worker
    a = s.worker w

    o : WorkerOk g F s.floor (s.flushed w) h s.row w a
    o = i.workers w

    p1 : (is_worker g w ≡ true) × ((not a.is_open && (leb a.floor f && leb f F)) ≡ true)
    p1 = and_parts (is_worker g w) (not a.is_open && (leb a.floor f && leb f F)) m

    p2 : (not a.is_open ≡ true) × ((leb a.floor f && leb f F) ≡ true)
    p2 = and_parts (not a.is_open) (leb a.floor f && leb f F) p1.1

    shut : a.is_open ≡ false
    shut = not-true a.is_open p2.0

    fF : f ≤ F
    fF = leb-true f F (and_parts (leb a.floor f) (leb f F) p2.1).1

    debt_le : ((begun a f).debt ≤ a.debt) × (max a.debt F ≤ max (begun a f).debt F)
    debt_le = elim (cases_lt f a.debt) [ inl q ↦ rw (lt-leb a.debt f q) (omega arith, omega arith) | inr q ↦ let z = fF in rw (le-leb a.debt f q) (omega arith, omega arith) ]

    old : (r : Entry) → Has r h → r.log ≡ w → r.txn ≡ suc a.txn → ⊥
    old r ir l t = let q = (o.numbers r ir l).1 in omega arith

    own : WorkerOk g F s.floor (s.flushed w) h s.row w (begun a f)
    own = record {
      floor = fF;
      debt = let e = o.debt in let q = debt_le.0 in omega arith;
      end = o.end;
      flushed = o.flushed;
      based = o.based;
      in_log = o.in_log;
      numbers = λ r ir l. let q = o.numbers r ir l in (q.0, omega arith);
      ends = λ e ie k l. let q = o.ends e ie k l in let z = debt_le.1 in (q.0, omega arith);
      past = λ r ir l. elim (o.past r ir l) [ inl q ↦ absurd (true≢false (sym q.0 ∙ shut)) | inr d ↦ inr d ];
      unended = λ _ e ie k l t. old e ie l t;
      pages = pages_more w (max a.debt F) (max (begun a f).debt F) h debt_le.1 o.pages;
      is_log = λ _. worker_to g w p1.0;
      used = λ _ r ir k l t. absurd (old r ir l t);
      changes = λ _ c ic. absurd ic;
      words = λ _ c ic. absurd ic;
    }

    told : IsTold g s → IsTold g (happens g s (Event.Begin w f))
    told t = record {
      history = t.history;
      pages = t.pages;
      undo = undo_at g h s.worker w (begun a f) t.undo (λ _ k. without_none g F (marker w (begun a f)) k h t.history (λ r ir. false_from_ne_true (same_txn r (marker w (begun a f))) (λ q. let z = same_to r (marker w (begun a f)) q in old r ir z.0 z.1)));
    }

-- ## Locks

-- the worker touches a row, and row i is another
inv_lock : (g : Opening) (s : State) → Inv g s → (w i : ℕ) (o' : Row) → (s.worker w).is_open ≡ true →
    ((v : ℕ) → ((s.row i).holder ≡ Some v → o'.holder ≡ Some v) × (Holds (s.row i) v → Holds o' v)) →
    ((X T : ℕ → ℕ) → AtMost (bound g s) X → AtMost (tops s) T → max (s.row i).number (s.row i).read_end ≤ T w → ((s.row i).log ≡ w) ⊎ ((s.row i).number ≤ X w) → RowOk g X T s.entries i o') →
    Inv g (record s { row = upd s.row i o'; worker = upd s.worker w (at_row w (s.worker w) (s.row i)) })
inv_lock g s v w i o' op hold mk = record {
  cuts = v.cuts;
  records = v.records;
  stamps = v.stamps;
  tree = v.tree;
  rows = λ j. at_upd (λ j r. RowOk g X T h j r) s.row i o' j
      (mk X T lx lt (subst (λ t. max r.number r.read_end ≤ t) (sym (ap top_of (upd_same s.worker w a' w refl) ∙ open_top a' op)) (omega arith))
      (subst (λ b. (r.log ≡ w) ⊎ (r.number ≤ max b.debt F)) (sym (upd_same s.worker w a' w refl)) (touch_covers w a r.number r.log F o.floor (λ z. let q = (v.rows i).fresh z in omega arith))))
      (λ _. row_same g (bound g s) (tops s) X T h j (s.row j) lx lt (v.rows j));
  workers = λ j. at_upd (λ j b. WorkerOk g F s.floor (s.flushed j) h (upd s.row i o') j b) s.worker w a' j
      (worker_same g F F s.floor (s.flushed w) h s.row (upd s.row i o') w a' (omega arith) (keeps w) (worker_raised g F s.floor (s.flushed w) h s.row w a a'.clock a'.debt (omega arith) td.0 (let q = td.1 in omega arith) o))
      (λ _. worker_same g F F s.floor (s.flushed j) h s.row (upd s.row i o') j (s.worker j) (omega arith) (keeps j) (v.workers j));
  told = λ f. let t = v.told f in record { history = t.history; pages = t.pages; undo = undo_at g h s.worker w a' t.undo (t.undo w) };
}
  where
    h : List Entry
    h = s.entries

    F : ℕ
    F = flushed_by_all g s

    r : Row
    r = s.row i

    a : Worker
    a = s.worker w

    a' : Worker
    a' = at_row w a r

    o : WorkerOk g F s.floor (s.flushed w) h s.row w a
    o = v.workers w

    X : ℕ → ℕ
    X = λ u. max (upd s.worker w a' u).debt F

    T : ℕ → ℕ
    T = λ u. top_of (upd s.worker w a' u)

    td : (a.debt ≤ (touch w a r.number r.log).debt) × ((touch w a r.number r.log).debt ≤ max a.clock r.number)
    td = touch_debt w a r.number r.log o.debt

    lx : AtMost (bound g s) X
    lx = upd_at_most (λ b. max b.debt F) s.worker w a' (let q = td.0 in omega arith)

    lt : AtMost (tops s) T
    lt = upd_at_most top_of s.worker w a' (rw (open_top a op, open_top a' op) (omega arith))

    keeps : (u : ℕ) → KeepsHolds s.row (upd s.row i o') u
    keeps u j = at_upd (λ j z. ((s.row j).holder ≡ Some u → z.holder ≡ Some u) × (Holds (s.row j) u → Holds z u)) s.row i o' j (hold u) (λ _. (λ e. e, λ e. e))

none_some : {A : Type 0} (h : Option ℕ) (w : ℕ) → h ≡ None → h ≡ Some w → A
none_some h w a b = cc

-- what the stamp of a row covers, for a worker who touches it
stamped : (h : List Entry) (o : Row) (X T : ℕ → ℕ) (w : ℕ) → max o.number o.read_end ≤ T w → (o.log ≡ w) ⊎ (o.number ≤ X w) → (y : Entry) → ((d : EndOf h y) × (d.end.number ≤ o.number) × Covered o.log (X o.log) d.end) → (u : ℕ) → u ≡ w → (d : EndOf h y) × (d.end.number ≤ T u) × Covered u (X u) d.end
stamped h o X T w tw cw y d u e = rw e (d.0, (let q = d.1 in omega arith), go cw d.2)
  where
    go : (o.log ≡ w) ⊎ (o.number ≤ X w) → Covered o.log (X o.log) d.0.end → Covered w (X w) d.0.end
    go (inl l) c = subst (λ (j : ℕ). Covered j (X j) d.0.end) l c
    go (inr n) c = inr (let q = d.1 in omega arith)

pub or_second : (x y : Bool) → x ≡ false → (x || y) ≡ true → y ≡ true
or_second true y e h = absurd (true≢false e)
or_second false y e h = h

-- w holds it alone already
lock_again : (g : Opening) (s : State) → Inv g s → (w i : ℕ) (mode : Mode) → (s.worker w).is_open ≡ true → is_held_by (s.row i).holder w ≡ true → Inv g (happens g s (Event.Lock w i mode))
lock_again g s v w i mode op h = subst (λ (z : Row). Inv g (record s { row = upd s.row i z; worker = upd s.worker w (at_row w (s.worker w) (s.row i)) })) (sym (same mode))
    (inv_lock g s v w i (s.row i) op (λ u. (λ e. e, λ e. e)) (λ X T lx lt _ _. row_same g (bound g s) (tops s) X T s.entries i (s.row i) lx lt (v.rows i)))
  where
    same : (m : Mode) → locked (s.row i) w m ≡ s.row i
    same Mode.Shared = rw h refl
    same Mode.Alone = rw h refl

-- the readers with w
readers_with : (w : ℕ) (l : List ℕ) → ((u : ℕ) → Has u (if is_reader w l then l else w ∷ l) → (u ≡ w) ⊎ Has u l) × ((u : ℕ) → Has u l → Has u (if is_reader w l then l else w ∷ l))
readers_with w l = go (is_reader w l)
  where
    go : (b : Bool) → ((u : ℕ) → Has u (cond b l (w ∷ l)) → (u ≡ w) ⊎ Has u l) × ((u : ℕ) → Has u l → Has u (cond b l (w ∷ l)))
    go true = (λ u i. inr i, λ u i. i)
    go false = (λ u i. i, λ u i. inr i)

lock_shared : (g : Opening) (s : State) → Inv g s → (w i : ℕ) → (s.worker w).is_open ≡ true → is_held_by (s.row i).holder w ≡ false → is_free (s.row i).holder ≡ true → Inv g (happens g s (Event.Lock w i Mode.Shared))
lock_shared g s v w i op h f = subst (λ (z : Row). Inv g (record s { row = upd s.row i z; worker = upd s.worker w (at_row w (s.worker w) (s.row i)) })) (sym (cond-false (is_held_by o.holder w) o o' h))
    (inv_lock g s v w i o' op (λ u. (λ e. e, λ e. elim e [ inl a ↦ inl a | inr a ↦ inr (more.1 u a) ])) mk)
  where
    o : Row
    o = s.row i

    o' : Row
    o' = record o { readers = if is_reader w o.readers then o.readers else w ∷ o.readers }

    more : ((u : ℕ) → Has u o'.readers → (u ≡ w) ⊎ Has u o.readers) × ((u : ℕ) → Has u o.readers → Has u o'.readers)
    more = readers_with w o.readers

    free : o.holder ≡ None
    free = free_to o.holder f

    mk : (X T : ℕ → ℕ) → AtMost (bound g s) X → AtMost (tops s) T → max o.number o.read_end ≤ T w → (o.log ≡ w) ⊎ (o.number ≤ X w) → RowOk g X T s.entries i o'
    mk X T lx lt tw cw = record {
      writes = r.writes;
      reads = λ y iy ky q. elim (r.reads y iy ky q) [ inl e ↦ inl (elim e [ inl a ↦ inl a | inr a ↦ inr (more.1 y.log a) ]) | inr d ↦ inr d ];
      alone = λ u z hu hz. none_some o.holder u free hu;
      touched = touched;
      sole = λ u hu. none_some o.holder u free hu;
      known = λ u hu. elim hu [ inl a ↦ none_some o.holder u free a | inr a ↦ known u (more.0 u a) ];
      fresh = r.fresh;
    }
      where
        r : RowOk g X T s.entries i o
        r = row_same g (bound g s) (tops s) X T s.entries i o lx lt (v.rows i)

        known : (u : ℕ) → (u ≡ w) ⊎ Has u o.readers → 0 < u
        known u (inl e) = let q = ((v.workers w).is_log op).0 in omega arith
        known u (inr a) = r.known u (inr a)

        touched : (u : ℕ) → Holds o' u → (y : Entry) → Has y s.entries → claims y ≡ true → g.row_of y.key ≡ i → (y.log ≡ u) ⊎ ((d : EndOf s.entries y) × (d.end.number ≤ T u) × Covered u (X u) d.end)
        touched u (inl e) y iy ky q = none_some o.holder u free e
        touched u (inr e) y iy ky q = elim (more.0 u e) [
          | inr a ↦ r.touched u (inr a) y iy ky q
          | inl a ↦ elim (r.writes y iy ky q) [
            | inl z ↦ none_some o.holder y.log free z
            | inr d ↦ inr (stamped s.entries o X T w tw cw y d u a)
          ]
        ]

lock_alone : (g : Opening) (s : State) → Inv g s → (w i : ℕ) → (s.worker w).is_open ≡ true → is_held_by (s.row i).holder w ≡ false → (is_free (s.row i).holder && not (any (λ v. not (v == w)) (s.row i).readers)) ≡ true → Inv g (happens g s (Event.Lock w i Mode.Alone))
lock_alone g s v w i op h m = subst (λ (z : Row). Inv g (record s { row = upd s.row i z; worker = upd s.worker w (at_row w (s.worker w) (s.row i)) })) (sym (cond-false (is_held_by o.holder w) o o' h))
    (inv_lock g s v w i o' op (λ u. (λ e. none_some o.holder u free e, λ e. elim e [ inl a ↦ none_some o.holder u free a | inr a ↦ inl (ap (λ (j : ℕ). Some j) (sym (only u a))) ])) mk)
  where
    o : Row
    o = s.row i

    o' : Row
    o' = record o { holder = Some w; readers = [] }

    parts2 : (is_free o.holder ≡ true) × (not (any (λ v. not (v == w)) o.readers) ≡ true)
    parts2 = and_parts (is_free o.holder) (not (any (λ v. not (v == w)) o.readers)) m

    free : o.holder ≡ None
    free = free_to o.holder parts2.0

    only : (u : ℕ) → Has u o.readers → u ≡ w
    only u iu = elim (cases_eq u w) [
      | inl e ↦ e
      | inr n ↦ absurd (true≢false (sym (has_any (λ v. not (v == w)) o.readers u iu (not_from_false (u == w) (ne_eqb u w n))) ∙ not-true (any (λ v. not (v == w)) o.readers) parts2.1))
    ]

    mk : (X T : ℕ → ℕ) → AtMost (bound g s) X → AtMost (tops s) T → max o.number o.read_end ≤ T w → (o.log ≡ w) ⊎ (o.number ≤ X w) → RowOk g X T s.entries i o'
    mk X T lx lt tw cw = record {
      writes = λ y iy ky q. elim (r.writes y iy ky q) [ inl e ↦ none_some o.holder y.log free e | inr d ↦ inr d ];
      reads = λ y iy ky q. elim (r.reads y iy ky q) [ inl e ↦ inl (elim e [ inl a ↦ none_some o.holder y.log free a | inr a ↦ inl (ap (λ (j : ℕ). Some j) (sym (only y.log a))) ]) | inr d ↦ inr d ];
      alone = λ u z hu hz. absurd hz;
      touched = touched;
      sole = sole;
      known = λ u hu. elim hu [ inl a ↦ (let q = ((v.workers w).is_log op).0 in let z = some_same w u a in omega arith) | inr a ↦ absurd a ];
      fresh = r.fresh;
    }
      where
        r : RowOk g X T s.entries i o
        r = row_same g (bound g s) (tops s) X T s.entries i o lx lt (v.rows i)

        touched : (u : ℕ) → Holds o' u → (y : Entry) → Has y s.entries → claims y ≡ true → g.row_of y.key ≡ i → (y.log ≡ u) ⊎ ((d : EndOf s.entries y) × (d.end.number ≤ T u) × Covered u (X u) d.end)
        touched u (inr e) y iy ky q = absurd e
        touched u (inl e) y iy ky q = elim (r.writes y iy ky q) [
          | inl z ↦ none_some o.holder y.log free z
          | inr d ↦ inr (stamped s.entries o X T w tw cw y d u (sym (some_same w u e)))
        ]

        sole : (u : ℕ) → Some w ≡ Some u → (y : Entry) → Has y s.entries → is_call y.kind ≡ true → g.row_of y.key ≡ i → (y.log ≡ u) ⊎ ((d : EndOf s.entries y) × (d.end.number ≤ T u))
        sole u e y iy ky q = elim (r.reads y iy ky q) [
          | inl z ↦ elim z [ inl a ↦ none_some o.holder y.log free a | inr a ↦ inl (only y.log a ∙ some_same w u e) ]
          | inr d ↦ inr (d.0, subst (λ (j : ℕ). d.0.end.number ≤ T j) (some_same w u e) (let q = d.1 in omega arith))
        ]

pub inv_lock_event : (g : Opening) (s : State) → Inv g s → (w i : ℕ) (mode : Mode) → needs g s (Event.Lock w i mode) ≡ true → Inv g (happens g s (Event.Lock w i mode))
inv_lock_event g s v w i mode m = go mode (cases_Bool (is_held_by (s.row i).holder w)) (and_parts (s.worker w).is_open (may_hold (s.row i) w mode) m)
  where
    go : (mode : Mode) → (is_held_by (s.row i).holder w ≡ true) ⊎ (is_held_by (s.row i).holder w ≡ false) → ((s.worker w).is_open ≡ true) × (may_hold (s.row i) w mode ≡ true) → Inv g (happens g s (Event.Lock w i mode))
    go mode (inl h) p = lock_again g s v w i mode p.0 h
    go Mode.Shared (inr h) p = lock_shared g s v w i p.0 h (or_second (is_held_by (s.row i).holder w) (is_free (s.row i).holder) h p.1)
    go Mode.Alone (inr h) p = lock_alone g s v w i p.0 h (or_second (is_held_by (s.row i).holder w) (is_free (s.row i).holder && not (any (λ v. not (v == w)) (s.row i).readers)) h p.1)

-- ## Unlock

pub inv_unlock : (g : Opening) (s : State) → Inv g s → (w i : ℕ) → needs g s (Event.Unlock w i) ≡ true → Inv g (happens g s (Event.Unlock w i))
inv_unlock g s v w i m = record {
  cuts = v.cuts;
  records = v.records;
  stamps = v.stamps;
  tree = v.tree;
  rows = λ j. at_upd (λ j r. RowOk g X T h j r) s.row i (unlocked o w a.end) j (mk (cases_Bool (is_held_by o.holder w))) (λ _. v.rows j);
  workers = λ j. elim (cases_eq j w) [
    | inl e ↦ subst (λ j. WorkerOk g F s.floor (s.flushed j) h (upd s.row i (unlocked o w a.end)) j (s.worker j)) (sym e) shut_own
    | inr n ↦ worker_same g F F s.floor (s.flushed j) h s.row (upd s.row i (unlocked o w a.end)) j (s.worker j) (omega arith) (keeps j n) (v.workers j)
  ];
  told = λ f. let t = v.told f in record { history = t.history; pages = t.pages; undo = t.undo };
}
  where
    h : List Entry
    h = s.entries

    F : ℕ
    F = flushed_by_all g s

    o : Row
    o = s.row i

    a : Worker
    a = s.worker w

    X : ℕ → ℕ
    X = bound g s

    T : ℕ → ℕ
    T = tops s

    r : RowOk g X T h i o
    r = v.rows i

    ow : WorkerOk g F s.floor (s.flushed w) h s.row w a
    ow = v.workers w

    parts : (not a.is_open ≡ true) × (holds_row o w ≡ true)
    parts = and_parts (not a.is_open) (holds_row o w) m

    shut : a.is_open ≡ false
    shut = not-true a.is_open parts.0

    hold : Holds o w
    hold = holds_to o w parts.1

    others : List ℕ
    others = keep (λ v. not (v == w)) o.readers

    still : (u : ℕ) → (u ≡ w → ⊥) → Has u o.readers → Has u others
    still u n iu = has_keep (λ v. not (v == w)) o.readers u iu (not_from_false (u == w) (ne_eqb u w n))

    was : (u : ℕ) → Has u others → Has u o.readers × (u ≡ w → ⊥)
    was u iu = let q = keep_has (λ v. not (v == w)) o.readers u iu in (q.0, λ e. true≢false (sym q.1 ∙ not_from_true (u == w) (eq-eqb u w e)))

    -- w's own are ended
    own : (y : Entry) → Has y h → y.log ≡ w → (d : EndOf h y) × (d.end.number ≤ a.end) × (d.end.log ≡ w)
    own y iy l = elim (ow.past y iy l) [
      | inl q ↦ absurd (true≢false (sym q.0 ∙ shut))
      | inr d ↦ (d, (ow.ends d.end d.stands d.is_end (d.same.0 ∙ l)).0, d.same.0 ∙ l)
    ]

    lone : (w : ℕ) → o.holder ≡ Some w → (u : ℕ) → o.holder ≡ Some u → u ≡ w
    lone w a u b = some_same u w (sym b ∙ a)

    mk : (is_held_by o.holder w ≡ true) ⊎ (is_held_by o.holder w ≡ false) → RowOk g X T h i (unlocked o w a.end)
    mk (inl e) = rw e (record {
      writes = λ y iy ky q. elim (r.touched w (inl hw) y iy ky q) [
        | inl l ↦ let z = own y iy l in inr (z.0, (let p = z.1 in omega arith), inl z.2)
        | inr d ↦ inr (d.0, (let p = low d.0.end.number d.1 in omega arith), d.2)
      ];
      reads = λ y iy ky q. elim (r.sole w hw y iy ky q) [
        | inl l ↦ let z = own y iy l in inr (z.0, let p = z.1 in omega arith)
        | inr d ↦ inr (d.0, let p = low d.0.end.number d.1 in omega arith)
      ];
      alone = λ u z hu hz. absurd (none_some None u refl hu);
      known = λ u hu. elim hu [ inl z ↦ none_some None u refl z | inr z ↦ r.known u (inr (was u z).0) ];
      fresh = λ z. (let q = r.known w hold in absurd (omega arith));
      touched = λ u hu y iy ky q. reader u hu y iy ky q;
      sole = λ u hu. none_some None u refl hu;
    })
      where
        hw : o.holder ≡ Some w
        hw = held_to o.holder w e

        low : (n : ℕ) → n ≤ top_of a → n ≤ a.end
        low n l = subst (λ t. n ≤ t) (shut_top a shut) l

        reader : (u : ℕ) → (None ≡ Some u) ⊎ Has u others → (y : Entry) → Has y h → claims y ≡ true → g.row_of y.key ≡ i → (y.log ≡ u) ⊎ ((d : EndOf h y) × (d.end.number ≤ T u) × Covered u (X u) d.end)
        reader u (inl z) = none_some None u refl z
        reader u (inr z) = r.touched u (inr (was u z).0)
    mk (inr e) = rw e (record {
      writes = r.writes;
      reads = λ y iy ky q. elim (r.reads y iy ky q) [
        | inl z ↦ elim (cases_eq y.log w) [
          | inl l ↦ let p = own y iy l in inr (p.0, let t = p.1 in omega arith)
          | inr n ↦ inl (elim z [ inl b ↦ inl b | inr b ↦ inr (still y.log n b) ])
        ]
        | inr d ↦ inr (d.0, let t = d.1 in omega arith)
      ];
      alone = λ u z hu hz. r.alone u z hu (was z hz).0;
      known = λ u hu. r.known u (elim hu [ inl b ↦ inl b | inr b ↦ inr (was u b).0 ]);
      fresh = r.fresh;
      touched = λ u hu. r.touched u (elim hu [ inl b ↦ inl b | inr b ↦ inr (was u b).0 ]);
      sole = r.sole;
    })

    keeps : (u : ℕ) → (u ≡ w → ⊥) → KeepsHolds s.row (upd s.row i (unlocked o w a.end)) u
    keeps u n j = at_upd (λ j z. ((s.row j).holder ≡ Some u → z.holder ≡ Some u) × (Holds (s.row j) u → Holds z u)) s.row i (unlocked o w a.end) j (here (cases_Bool (is_held_by o.holder w))) (λ _. (λ e. e, λ e. e))
      where
        here : (is_held_by o.holder w ≡ true) ⊎ (is_held_by o.holder w ≡ false) → (o.holder ≡ Some u → (unlocked o w a.end).holder ≡ Some u) × (Holds o u → Holds (unlocked o w a.end) u)
        here (inl e) = rw e (λ q. absurd (n (lone w (held_to o.holder w e) u q)), λ z. elim z [ inl q ↦ absurd (n (lone w (held_to o.holder w e) u q)) | inr q ↦ inr (still u n q) ])
        here (inr e) = rw e (λ q. q, λ z. elim z [ inl q ↦ inl q | inr q ↦ inr (still u n q) ])

    shut_own : WorkerOk g F s.floor (s.flushed w) h (upd s.row i (unlocked o w a.end)) w a
    shut_own = record {
      floor = ow.floor;
      debt = ow.debt;
      end = ow.end;
      flushed = ow.flushed;
      based = ow.based;
      in_log = ow.in_log;
      numbers = ow.numbers;
      ends = ow.ends;
      past = ow.past;
      unended = ow.unended;
      pages = ow.pages;
      is_log = ow.is_log;
      used = λ q. absurd (true≢false (sym q ∙ shut));
      changes = λ q. absurd (true≢false (sym q ∙ shut));
      words = λ q. absurd (true≢false (sym q ∙ shut));
    }

-- ## Flush and Sync

pub least_mono : (f f' : ℕ → ℕ) (n : ℕ) → 0 < n → AtMost f f' → least f n ≤ least f' n
least_mono f f' n z l = le_least f' n (least f n) z (λ i q. let a = least_le f n i q in let b = l i in omega arith)

pub upd_rises : (f : ℕ → ℕ) (i a : ℕ) → f i ≤ a → AtMost f (upd f i a)
upd_rises f i a l j = at_upd (λ j x. f j ≤ x) f i a j l (λ _. omega arith)

pub inv_flush : (g : Opening) (s : State) → Inv g s → (w n : ℕ) → needs g s (Event.Flush w n) ≡ true → Inv g (happens g s (Event.Flush w n))
inv_flush g s v w n m = record {
  cuts = record {
    base = v.cuts.base;
    low = v.cuts.low;
    heads = v.cuts.heads;
    ripe = λ r ir k l. let q = v.cuts.ripe r ir k l in let z = lF in let u = upd_rises s.flushed w n up q.0.end.log in let q1 = q.1 in let q2 = q.2 in (q.0, omega arith, omega arith);
  };
  records = records_same g F F' h lF v.records;
  stamps = v.stamps;
  tree = v.tree;
  rows = λ j. row_same g (bound g s) (tops s) (λ u. max (s.worker u).debt F') (tops s) h j (s.row j) (λ u. let z = lF in omega arith) (λ u. omega arith) (v.rows j);
  workers = λ j. at_upd (λ j fl. WorkerOk g F' s.floor fl h s.row j (s.worker j)) s.flushed w n j own (λ _. grown j);
  told = λ f. let t = v.told f in record { history = history_same g F F' h lF t.history; pages = t.pages; undo = t.undo };
}
  where
    h : List Entry
    h = s.entries

    F : ℕ
    F = flushed_by_all g s

    F' : ℕ
    F' = least (upd s.flushed w n) g.workers

    test : Entry → Bool
    test r = is_record r.kind && ((r.log == w) && (r.number == n))

    parts : (leb (s.flushed w) n ≡ true) × (any test h ≡ true)
    parts = and_parts (leb (s.flushed w) n) (any test h) m

    up : s.flushed w ≤ n
    up = leb-true (s.flushed w) n parts.0

    lF : F ≤ F'
    lF = least_mono s.flushed (upd s.flushed w n) g.workers g.some_worker (upd_rises s.flushed w n up)

    grown : (j : ℕ) → WorkerOk g F' s.floor (s.flushed j) h s.row j (s.worker j)
    grown j = worker_same g F F' s.floor (s.flushed j) h s.row s.row j (s.worker j) lF (λ i. (λ e. e, λ e. e)) (v.workers j)

    own : WorkerOk g F' s.floor n h s.row w (s.worker w)
    own =
        let o = grown w in
        let x = any_has test h parts.1 in
        let p = and_parts (is_record x.0.kind) ((x.0.log == w) && (x.0.number == n)) x.2 in
        let q = and_parts (x.0.log == w) (x.0.number == n) p.1 in
        let l = eqb-true x.0.log w q.0 in
        let k = eqb-true x.0.number n q.1 in
        let c = (o.numbers x.0 x.1 l).0 in
        let b = o.based in
        let u = up in
        record {
          floor = o.floor;
          debt = o.debt;
          end = o.end;
          flushed = omega arith;
          based = λ l. let bb = b l in omega arith;
          in_log = inr (x.0, x.1, p.0, l, k);
          numbers = o.numbers;
          ends = o.ends;
          past = o.past;
          unended = o.unended;
          pages = o.pages;
          is_log = o.is_log;
          used = o.used;
          changes = o.changes;
          words = o.words;
        }

pub le_most : (f : ℕ → ℕ) (n i : ℕ) → Within n i → f i ≤ most f n
le_most f zero i l = let a = l.0 in let b = l.1 in absurd (omega arith)
le_most f (suc n) i l = let a = l.0 in let b = l.1 in elim (cases_eq i (suc n)) [ inl e ↦ rw e (omega arith) | inr ne ↦ let q : i ≤ n = omega arith in let r = le_most f n i (a, q) in omega arith ]

inv_synced : (g : Opening) (s : State) → Inv g s → Inv g (synced s (most (λ w. (s.worker w).clock) g.workers))
inv_synced g s v = record {
  cuts = record {
    base = let a = v.cuts.base in let z = g.some_worker in let b = (v.workers 1).based (omega arith, omega arith) in let d = (v.workers 1).flushed in let e = le_most (λ w. (s.worker w).clock) g.workers 1 (omega arith, omega arith) in omega arith;
    low = let a = v.cuts.low in let z = g.some_worker in let b = (v.workers 1).based (omega arith, omega arith) in let d = (v.workers 1).flushed in let e = le_most (λ w. (s.worker w).clock) g.workers 1 (omega arith, omega arith) in omega arith;
    heads = v.cuts.heads;
    ripe = λ r ir k l.
        let q = v.cuts.ripe r ir k l in
        let p = has_before q.0.end h q.0.stands in
        let lg = (each_at (Recorded g F) h q.0.end p.0 v.records p.1).log in
        let a = (v.workers q.0.end.log).flushed in
        let b = le_most (λ w. (s.worker w).clock) g.workers q.0.end.log lg in
        let z = lF in
        let q1 = q.1 in let q2 = q.2 in
        (q.0, omega arith, omega arith);
  };
  records = records_same g F F' h lF v.records;
  stamps = v.stamps;
  tree = v.tree;
  rows = λ j. row_same g (bound g s) (tops s) (λ u. max (s.worker u).debt F') (tops (synced s n)) h j (s.row j) (λ u. let z = lF in omega arith) tops_rise (v.rows j);
  workers = own;
  told = λ f. let t = v.told f in record { history = history_same g F F' h lF t.history; pages = t.pages; undo = t.undo };
}
  where
    h : List Entry
    h = s.entries

    n : ℕ
    n = most (λ w. (s.worker w).clock) g.workers

    F : ℕ
    F = flushed_by_all g s

    F' : ℕ
    F' = least (λ _. n) g.workers

    lF : F ≤ F'
    lF = le_least (λ _. n) g.workers F g.some_worker (λ i l. let a = least_le s.flushed g.workers i l in let b = (v.workers i).flushed in let c = le_most (λ w. (s.worker w).clock) g.workers i l in omega arith)

    tops_rise : AtMost (tops s) (tops (synced s n))
    tops_rise u = go (s.worker u).is_open
      where
        go : (b : Bool) → cond b (s.worker u).clock (s.worker u).end ≤ cond b (max (s.worker u).clock n) (s.worker u).end
        go true = omega arith
        go false = omega arith

    own : (w : ℕ) → WorkerOk g F' n n h s.row w (record { clock = max (s.worker w).clock n; floor = (s.worker w).floor; debt = (s.worker w).debt; txn = (s.worker w).txn; end = (s.worker w).end; is_open = (s.worker w).is_open; changes = (s.worker w).changes })
    own w =
        let o = worker_same g F F' s.floor (s.flushed w) h s.row s.row w (s.worker w) lF (λ i. (λ e. e, λ e. e)) (v.workers w) in
        record {
          floor = o.floor;
          debt = let e = o.debt in omega arith;
          end = let e = o.end in omega arith;
          flushed = omega arith;
          based = λ l. omega arith;
          in_log = inl (omega arith);
          numbers = λ r ir l. let q = o.numbers r ir l in (omega arith, q.1);
          ends = o.ends;
          past = o.past;
          unended = o.unended;
          pages = o.pages;
          is_log = o.is_log;
          used = o.used;
          changes = o.changes;
          words = o.words;
        }

pub inv_sync : (g : Opening) (s : State) → Inv g s → (n : ℕ) → needs g s (Event.Sync n) ≡ true → Inv g (happens g s (Event.Sync n))
inv_sync g s v n m = subst (λ (n : ℕ). Inv g (synced s n)) (sym (eqb-true n (most (λ w. (s.worker w).clock) g.workers) (and_parts (n == most (λ w. (s.worker w).clock) g.workers) (not (is_behind s)) m).0)) (inv_synced g s v)

-- ## Cut

any_not : {A : Type 0} (p : A → Bool) (xs : List A) → any p xs ≡ false → (x : A) → Has x xs → p x ≡ false
any_not p xs h x i = false_from_ne_true (p x) (λ e. true≢false (sym (has_any p xs x i e) ∙ h))

pub inv_cut : (g : Opening) (s : State) → Inv g s → (x : ℕ) (heads : ℕ → ℕ) → needs g s (Event.Cut x heads) ≡ true → Inv g (happens g s (Event.Cut x heads))
inv_cut g s v x heads m = record {
  cuts = record {
    base = let a = v.cuts.base in omega arith;
    low = let a = v.cuts.low in let b = xF in omega arith;
    heads = λ w. let a = v.cuts.heads w in omega arith;
    ripe = λ r ir k l. elim (cases_lt s.cut r.number) [
      | inr q ↦ v.cuts.ripe r ir k q
      | inl q ↦ ripe r ir k (omega arith)
    ];
  };
  records = v.records;
  stamps = v.stamps;
  tree = v.tree;
  rows = v.rows;
  workers = λ w. let o = v.workers w in record {
    floor = o.floor;
    debt = o.debt;
    end = o.end;
    flushed = o.flushed;
    based = λ l. let a = o.based l in let b = least_le s.flushed g.workers w l in omega arith;
    in_log = elim o.in_log [ inl e ↦ inl (omega arith) | inr e ↦ inr e ];
    numbers = o.numbers;
    ends = o.ends;
    past = o.past;
    unended = o.unended;
    pages = o.pages;
    is_log = o.is_log;
    used = o.used;
    changes = o.changes;
    words = o.words;
  };
  told = λ f. let t = v.told f in record { history = t.history; pages = t.pages; undo = t.undo };
}
  where
    h : List Entry
    h = s.entries

    F : ℕ
    F = flushed_by_all g s

    ripes : Entry → Bool
    ripes r = any (λ e. is_ripe_end s.flushed F r e) h

    unripe : Entry → Bool
    unripe r = is_record r.kind && (leb r.number x && not (ripes r))

    parts : (leb x F ≡ true) × (not (any unripe h) ≡ true)
    parts = let q = and_parts (leb x F) (is_ripe_up_to g s x && is_saved_up_to s x) m in (q.0, (and_parts (is_ripe_up_to g s x) (is_saved_up_to s x) q.1).0)

    xF : x ≤ F
    xF = leb-true x F parts.0

    ripe : (r : Entry) → Has r h → is_record r.kind ≡ true → r.number ≤ x → (e : EndOf h r) × (e.end.number ≤ s.flushed e.end.log) × (e.end.need ≤ F)
    ripe r ir k l =
        let n = any_not unripe h (not-true (any unripe h) parts.1) r ir in
        let yes : ripes r ≡ true = elim (cases_Bool (ripes r)) [
          | inl e ↦ e
          | inr e ↦ absurd (true≢false (sym (and_from (is_record r.kind) (leb r.number x && not (ripes r)) k (and_from (leb r.number x) (not (ripes r)) (le-leb r.number x l) (not_from_false (ripes r) e))) ∙ n))
        ] in
        let e = any_has (λ e. is_ripe_end s.flushed F r e) h yes in
        let p1 = and_parts (is_end e.0.kind) (same_txn e.0 r && (leb e.0.number (s.flushed e.0.log) && leb e.0.need F)) e.2 in
        let p2 = and_parts (same_txn e.0 r) (leb e.0.number (s.flushed e.0.log) && leb e.0.need F) p1.1 in
        let p3 = and_parts (leb e.0.number (s.flushed e.0.log)) (leb e.0.need F) p2.1 in
        (record { end = e.0; stands = e.1; is_end = p1.0; same = same_to e.0 r p2.0 }, leb-true e.0.number (s.flushed e.0.log) p3.0, leb-true e.0.need F p3.1)

-- ## Reads of a gap

pub inv_looks : (g : Opening) (s : State) → Inv g s → (w p : ℕ) → (s.worker w).is_open ≡ true → Inv g (looks s w p)
inv_looks g s v w p op = record {
  cuts = v.cuts;
  records = v.records;
  stamps = v.stamps;
  tree = v.tree;
  rows = λ j. row_same g (bound g s) (tops s) (λ u. max (upd s.worker w a u).debt F) (λ u. top_of (upd s.worker w a u)) s.entries j (s.row j)
      (upd_at_most (λ b. max b.debt F) s.worker w a (let q = t.1 in omega arith)) (upd_at_most top_of s.worker w a (rw (open_top (s.worker w) op, open_top a op) (let q = t.0 in omega arith))) (v.rows j);
  workers = λ j. at_upd (λ j b. WorkerOk g F s.floor (s.flushed j) s.entries s.row j b) s.worker w a j
      (worker_raised g F s.floor (s.flushed w) s.entries s.row w (s.worker w) a.clock a.debt t.0 t.1 t.2 (v.workers w)) (λ _. v.workers j);
  told = λ f. let k = v.told f in record { history = k.history; pages = k.pages; undo = undo_at g s.entries s.worker w a k.undo (k.undo w) };
}
  where
    F : ℕ
    F = flushed_by_all g s

    a : Worker
    a = at_pages s w (s.worker w) (p ∷ [])

    t : ((s.worker w).clock ≤ a.clock) × ((s.worker w).debt ≤ a.debt) × (a.debt ≤ a.clock) × (a.floor ≤ F) × ((q : ℕ) → Has q (p ∷ []) → ((s.page q).gsn ≤ a.clock) × (((s.page q).last ≡ w) ⊎ ((s.page q).gsn ≤ max a.debt F)))
    t = touched_all s w F (s.worker w) (p ∷ []) (stamp_flushed g s v) (v.workers w).floor (v.workers w).debt

pub inv_start : (g : Opening) → Inv g (start g)
inv_start g = record {
  cuts = record { base = omega arith; low = omega arith; heads = λ w. omega arith; ripe = λ r ir. absurd ir };
  records = tt;
  stamps = λ p. (refl, refl);
  tree = g.tree;
  rows = λ i. record { writes = λ y iy. absurd iy; reads = λ y iy. absurd iy; alone = λ w u e hu. absurd hu; touched = λ w hw y iy. absurd iy; sole = λ w hw y iy. absurd iy; known = λ w hw. elim hw [ inl e ↦ none_some None w refl e | inr e ↦ absurd e ]; fresh = λ _. refl };
  workers = λ w. record {
    floor = le_least (λ _. g.base) g.workers g.base g.some_worker (λ i l. omega arith);
    debt = omega arith;
    end = omega arith;
    flushed = omega arith;
    based = λ l. omega arith;
    in_log = inl (omega arith);
    numbers = λ r ir. absurd ir;
    ends = λ r ir. absurd ir;
    past = λ r ir. absurd ir;
    unended = λ q. absurd (true≢false (sym q));
    pages = tt;
    is_log = λ q. absurd (true≢false (sym q));
    used = λ q. absurd (true≢false (sym q));
    changes = λ q. absurd (true≢false (sym q));
    words = λ q. absurd (true≢false (sym q));
  };
  told = λ _. record { history = tt; pages = λ p. refl; undo = λ w q. absurd (true≢false (sym q)) };
}
