-- The journal is serial.
use Rattle.std.proofs.Common.{◌≡◌, ℕ, ◌≤◌, ◌<◌, max, Bool, true, false, cond, ◌&&◌, ◌==◌, List, [], ◌∷◌, ◌⊎◌, refl, sym, ap, ap₂, ◌∙◌, subst, inl, inr, arith, true≢false}
use Rattle.std.proofs.lemmas.Bool.{cases_Bool, eq-eqb, eqb-true, and_parts, or_left, or_right, and_from, cond-true, false_from_ne_true}
use Rattle.map_model.specs.Lists.{any, keep, Has}
use Rattle.core_paging.specs.image_model.Entries.{earlier, Entry, is_call, is_write, is_end, is_commit, same_txn}
use Rattle.map_model.specs.Lists.{in_order, insert_by}
use Rattle.core_crash.proofs.Words.{found, Lawful, Serial, Done, calls_of, committed, done_earlier, write_all, after, wins, EverySerial, EveryLegal}
use Rattle.core_paging.proofs.core_commit.History.{answer, history_pick}
use Rattle.core_paging.proofs.core_commit.KindFacts.{write_claims, write_is_record, write_is_call, end_is_record}
use Rattle.core_paging.proofs.core_commit.Nodes.{key_parts}
use Rattle.core_paging.specs.core_state.States.{State, start, flushed_by_all}
use Rattle.core_paging.specs.core_state.Openings.{Opening, first}
use Rattle.core_paging.specs.core_state.Steps.{run}
use Rattle.core_paging.proofs.core_commit.Lists.{pick, Each, Before, has_before, before_has, behind_has, each_at, Newest, NoneOf, newest, newest_before, newest_holds, newest_first, newest_from, pick_newest, pick_none}
use Rattle.map_model.proofs.ListLemmas.{any_has, has_any, keep_has, order_has}
use Rattle.core_crash.proofs.Order.{fold_up, Swaps, Apart, fold_up_insert, fold_up_order}
use Rattle.core_paging.proofs.core_commit.Nodes.{on_key}
use Rattle.core_paging.proofs.core_commit.History.{SameTxn, same_to, same_from, EndOf, Recorded, IsRecorded, Entered, IsHistory, records_of, history_value, before_trans}
use Rattle.core_crash.proofs.Ends.{Cut, is_ended, ended_to, ended_from, one_end, found_from}
use Rattle.core_crash.proofs.Undo.{earlier_le, lasting, stays}
use Rattle.core_crash.proofs.Journal.{key_from, same_row, flip, chain, write_pick, apply_one, stood, Stood, commit_is_end, won, lasting_settled, settled_applied, history_newest}
use Rattle.core_crash.proofs.Kept.{hits, write_miss, write_hit, apply_swaps}
use Rattle.core_paging.proofs.core_commit.Invariants.{Inv}
use Rattle.core_paging.proofs.core_commit.Runs.{good_run, good_start}

-- ## Transactions that use no key that the other writes

abbrev pub uses : ℕ → List Entry → Bool
uses k rs = any (λ r. is_call r.kind && (r.key == k)) rs

pub record Independent (t u : Done) : Type 0 where
  pub left : (k : ℕ) → uses k t.calls ≡ true → hits k u.calls ≡ true → ⊥
  pub right : (k : ℕ) → uses k u.calls ≡ true → hits k t.calls ≡ true → ⊥

hits_uses : (k : ℕ) (rs : List Entry) → hits k rs ≡ true → uses k rs ≡ true
hits_uses k rs h = let a = any_has (λ r. on_key k r) rs h in let q = and_parts (is_write a.0.kind) (a.0.key == k) a.2 in has_any (λ r. is_call r.kind && (r.key == k)) rs a.0 a.1 (and_from (is_call a.0.kind) (a.0.key == k) (write_is_call a.0.kind q.0) q.1)

write_agree : (rs : List Entry) (m m' : ℕ → ℕ) (k : ℕ) → m k ≡ m' k → write_all rs m k ≡ write_all rs m' k
write_agree rs m m' k e = elim (cases_Bool (hits k rs)) [
  | inl h ↦ write_hit rs m m' k h
  | inr h ↦ write_miss rs m k h ∙ (e ∙ sym (write_miss rs m' k h))
]

lawful_agree : (rs : List Entry) (m m' : ℕ → ℕ) → ((k : ℕ) → uses k rs ≡ true → m k ≡ m' k) → Lawful m rs → Lawful m' rs
lawful_agree [] m m' a l = tt
lawful_agree (r ∷ rs) m m' a l = (
  lawful_agree rs m m' (λ k u. a k (or_right (is_call r.kind && (r.key == k)) (uses k rs) u)) l.0,
  λ c. l.1 c ∙ write_agree rs m m' r.key (a r.key (or_left (is_call r.kind && (r.key == r.key)) (uses r.key rs) (and_from (is_call r.kind) (r.key == r.key) c (eq-eqb r.key r.key refl)))),
)

abbrev always : Done → Bool
always t = true

after_fold_all : (m : ℕ → ℕ) (l : List Done) → after m l ≡ fold_up (apply_one always) m l
after_fold_all m [] = refl
after_fold_all m (t ∷ l) = ap (write_all t.calls) (after_fold_all m l)

independent_swaps : (t u : Done) → Independent t u → Swaps (apply_one always) t u
independent_swaps t u i = apply_swaps always t u (λ k a b. i.left k (hits_uses k t.calls a) b)

serial_insert : (m : ℕ → ℕ) (x : Done) (ys : List Done) → ((y : Done) → Has y ys → done_earlier x y ≡ true → Independent x y) → Serial m (x ∷ ys) → Serial m (insert_by done_earlier x ys)
serial_insert m x [] i s = s
serial_insert m x (y ∷ ys) i s = go (serial_insert m x ys (λ z j. i z (inr j))) (done_earlier x y) refl
  where
    go : (Serial m (x ∷ ys) → Serial m (insert_by done_earlier x ys)) → (b : Bool) → done_earlier x y ≡ b → Serial m (cond b (y ∷ insert_by done_earlier x ys) (x ∷ y ∷ ys))
    go ih false e = s
    go ih true e =
        let ind = i y (inl refl) e in (
          ih (s.0.0, lawful_agree x.calls (after m (y ∷ ys)) (after m ys) (λ k u. write_miss y.calls (after m ys) k (false_from_ne_true (hits k y.calls) (ind.left k u))) s.1),
          lawful_agree y.calls (after m ys) (after m (insert_by done_earlier x ys)) (λ k u. sym (moved k ∙ write_miss x.calls (after m ys) k (false_from_ne_true (hits k x.calls) (ind.right k u)))) s.0.1,
        )
      where
        moved : (k : ℕ) → after m (insert_by done_earlier x ys) k ≡ write_all x.calls (after m ys) k
        moved k = ap (λ (f : ℕ → ℕ). f k) (after_fold_all m (insert_by done_earlier x ys)
            ∙ (fold_up_insert done_earlier (apply_one always) x ys (λ z j q. independent_swaps x z (i z (inr j) q)) m ∙ ap (write_all x.calls) (sym (after_fold_all m ys))))

serial_order : (m : ℕ → ℕ) (l : List Done) → Each (λ x ys. (y : Done) → Has y ys → done_earlier x y ≡ true → Independent x y) l → Serial m l → Serial m (in_order done_earlier l)
serial_order m [] i s = s
serial_order m (x ∷ l) i s = serial_insert m x (in_order done_earlier l) (λ y j. i.0 y (order_has done_earlier l y j)) (
  serial_order m l i.1 s.0,
  subst (λ (v : ℕ → ℕ). Lawful v x.calls) (after_fold_all m l ∙ (sym (fold_up_order done_earlier (apply_one always) l (apart l i.1) m) ∙ sym (after_fold_all m (in_order done_earlier l)))) s.1,
)
  where
    apart : (l : List Done) → Each (λ x ys. (y : Done) → Has y ys → done_earlier x y ≡ true → Independent x y) l → Apart done_earlier (apply_one always) l
    apart [] i = tt
    apart (z ∷ l) i = (λ y j q. independent_swaps z y (i.0 y j q), apart l i.1)

-- ## A history in which all is there

abbrev greatest_of : ℕ → List Entry → ℕ
greatest_of n [] = n
greatest_of n (r ∷ h) = max r.number (greatest_of n h)

le_greatest_of : (n : ℕ) (h : List Entry) (r : Entry) → Has r h → r.number ≤ greatest_of n h
le_greatest_of n [] r i = absurd i
le_greatest_of n (y ∷ h) r (inl e) = let q = ap (λ (x : Entry). x.number) e in omega arith
le_greatest_of n (y ∷ h) r (inr i) = let q = le_greatest_of n h r i in omega arith

start_le : (n : ℕ) (h : List Entry) → n ≤ greatest_of n h
start_le n [] = omega arith
start_le n (y ∷ h) = let q = start_le n h in omega arith

fold_always : (w : Done → Bool) (m : ℕ → ℕ) (l : List Done) → ((t : Done) → Has t l → w t ≡ true) → fold_up (apply_one w) m l ≡ after m l
fold_always w m [] h = refl
fold_always w m (t ∷ l) h = cond-true (w t) (write_all t.calls (fold_up (apply_one w) m l)) (fold_up (apply_one w) m l) (h t (inl refl)) ∙ ap (write_all t.calls) (fold_always w m l (λ u i. h u (inr i)))

module _ (g : Opening) (F : ℕ) (b : List Entry) (hist : IsHistory g F b) where
  abbrev top : ℕ
  top = greatest_of F b

  abbrev upto : ℕ → ℕ
  upto w = greatest_of F b

  whole_cut : Cut g F (greatest_of F b) (λ _. greatest_of F b) b
  whole_cut = record { records = records_of g F b hist; far = start_le F b; all = λ r i k n. found_from (λ _. greatest_of F b) r k n }

  -- a transaction with an end here is ended
  has_end : (y : Entry) → EndOf b y → is_ended (greatest_of F b) (λ _. greatest_of F b) b y ≡ true
  has_end y d =
      let p = has_before d.end b d.stands in
      let n = ((each_at (Entered g F) b d.end p.0 hist p.1).recorded.closes d.is_end).need in
      let l = le_greatest_of F b d.end d.stands in
      ended_from (greatest_of F b) (λ _. greatest_of F b) b y d.end d.stands d.is_end d.same (found_from (λ _. greatest_of F b) d.end (end_is_record d.end.kind d.is_end) l) (omega arith)

  -- the map after its transactions
  pub after_lasting : (k : ℕ) → after (first g) (committed b) k ≡ lasting g (greatest_of F b) (λ _. greatest_of F b) b k b
  after_lasting k =
      sym (lasting_settled g F (greatest_of F b) (λ _. greatest_of F b) b whole_cut hist k
      ∙ (settled_applied g F (greatest_of F b) (λ _. greatest_of F b) b whole_cut hist k b (λ x c i. i)
      ∙ ap (λ (m : ℕ → ℕ). m k) (fold_always (wins (greatest_of F b) (keep (found (λ _. greatest_of F b)) b)) (first g) (committed b) win)))
    where
      win : (t : Done) → Has t (committed b) → wins (greatest_of F b) (keep (found (λ _. greatest_of F b)) b) t ≡ true
      win t i =
          let s = stood t b i in
          let j = before_has t.end s.behind b s.place in
          won g F (greatest_of F b) (λ _. greatest_of F b) b whole_cut t j s.commit ∙ has_end t.end (record { end = t.end; stands = j; is_end = commit_is_end t.end.kind s.commit; same = (refl, refl) })

  -- ## The calls of a transaction that ends now

  module _ (e : Entry) (en : Recorded g F e b) (ke : is_end e.kind ≡ true) where
    -- none of its own has an end here
    own_open : (x : Entry) → SameTxn x e → (d : EndOf b x) → ⊥
    own_open x s d = en.still_open d.end d.stands d.is_end (chain d.end x e d.same s)

    own_not_ended : (x : Entry) → SameTxn x e → is_ended (greatest_of F b) (λ _. greatest_of F b) b x ≡ true → ⊥
    own_not_ended x s q = let d = ended_to (greatest_of F b) (λ _. greatest_of F b) b x q in own_open x s (record { end = d.end; stands = before_has d.end d.behind b d.place; is_end = d.is_end; same = d.same })

    at : (x : Entry) (bx : List Entry) → Before x bx b → Recorded g F x bx
    at x bx p = (each_at (Entered g F) b x bx hist p).recorded

    later_end : (x : Entry) (bx : List Entry) → Before x bx b → (y : Entry) → EndOf bx y → EndOf b y
    later_end x bx p y d = record { end = d.end; stands = behind_has x bx b p d.end d.stands; is_end = d.is_end; same = d.same }

    self_behind : (r : Entry) (c : List Entry) → Before r c b → is_write r.kind ≡ true → Has r c → ⊥
    self_behind r c p k i = let lt = (at r c p).later (write_is_record r.kind k) r i refl in omega arith

    -- a write of another after a call of its own on that key: there is none
    none_after : (r : Entry) (c : List Entry) → Before r c b → is_call r.kind ≡ true → SameTxn r e → (x : Entry) (bx : List Entry) → Before x bx b → Has r bx → on_key r.key x ≡ true → SameTxn x e
    none_after r c pr cr sr x bx px ir o =
        let kx = key_parts r.key x o in
        elim ((at x bx px).guarded (write_is_call x.kind kx.0) r ir cr (or_left (is_write x.kind) (is_write r.kind) kx.0) (ap g.row_of (sym kx.1))) [
          | inl s ↦ chain x r e (flip r x s) sr
          | inr d ↦ absurd (own_open r sr (later_end x bx px r d))
        ]

    -- where it has written the key, that is the value
    own_value : (k : ℕ) (c : List Entry) (r : Entry) → Before r c b → IsHistory g F c → (w : Entry) (bw : List Entry) → Newest (λ r b. on_key k r && same_txn r e) w bw c → history_value g k c ≡ w.after
    own_value k c r pr hc w bw n =
        history_newest g F k w bw c hc (newest_from (λ r b. on_key k r) w bw c pw q.0 (λ x bx px pb. false_from_ne_true (on_key k x) (λ o.
        let kx = key_parts k x o in
        let pxb = before_trans b r c x bx pr px in
        let same = none_after w bw pwb (write_is_call w.kind kw.0) (same_to w e q.1) x bx pxb (before_has w bw bx pb) (key_from w.key x kx.0 (kx.1 ∙ sym kw.1)) in
        elim (newest_first (λ r b. on_key k r && same_txn r e) w bw c n x bx px (and_from (on_key k x) (same_txn x e) o (same_from x e same))) [
          | inl u ↦ self_behind w bw pwb kw.0 (before_has w bw bw (subst (λ (l : List Entry). Before w bw l) u.1 pb))
          | inr u ↦ self_behind w bw pwb kw.0 (behind_has x bx bw u w (before_has w bw bx pb))
        ])))
      where
        pw : Before w bw c
        pw = newest_before (λ r b. on_key k r && same_txn r e) w bw c n

        pwb : Before w bw b
        pwb = before_trans b r c w bw pr pw

        q : (on_key k w ≡ true) × (same_txn w e ≡ true)
        q = and_parts (on_key k w) (same_txn w e) (newest_holds (λ r b. on_key k r && same_txn r e) w bw c n)

        kw : (is_write w.kind ≡ true) × (w.key ≡ k)
        kw = key_parts k w q.0

    -- where it has not, that is the value after the transactions that have ended
    foreign_value : (c : List Entry) (r : Entry) → Before r c b → IsHistory g F c → is_call r.kind ≡ true → SameTxn r e → NoneOf (λ x bx. on_key r.key x && same_txn x e) c → history_value g r.key c ≡ after (first g) (committed b) r.key
    foreign_value c r pr hc cr sr nope = go (newest (λ x bx. on_key r.key x) c)
      where
        N : ℕ
        N = greatest_of F b

        -- a write that stays stands behind r
        behind : (x : Entry) (bx : List Entry) → Before x bx b → stays N (λ _. N) b r.key x bx ≡ true → Before x bx c
        behind x bx px s = where_is (Rattle.core_paging.proofs.core_commit.History.compare b x bx r c px pr)
          where
            sp : (on_key r.key x ≡ true) × (is_ended N (λ _. N) b x ≡ true)
            sp = and_parts (on_key r.key x) (is_ended N (λ _. N) b x) s

            where_is : ((x ≡ r) × (bx ≡ c)) ⊎ (Before x bx c ⊎ Before r c bx) → Before x bx c
            where_is (inl u) = absurd (own_not_ended x (subst (λ (y : Entry). SameTxn y e) (sym u.0) sr) sp.1)
            where_is (inr (inl u)) = u
            where_is (inr (inr u)) = absurd (own_not_ended x (none_after r c pr cr sr x bx px (before_has r c bx u) sp.0) sp.1)

        go : NoneOf (λ x bx. on_key r.key x) c ⊎ ((w : Entry) × (bw : List Entry) × Newest (λ x bx. on_key r.key x) w bw c) → history_value g r.key c ≡ after (first g) (committed b) r.key
        go (inl none) =
            history_pick g F r.key c hc ∙ (pick_none (λ x bx. on_key r.key x) (λ x bx. x.after) (first g r.key) c none
            ∙ sym (after_lasting r.key ∙ pick_none (stays N (λ _. N) b r.key) (λ x bx. x.after) (first g r.key) b (λ x bx px. false_from_ne_true (stays N (λ _. N) b r.key x bx) (λ s.
            true≢false (sym (and_parts (on_key r.key x) (is_ended N (λ _. N) b x) s).0 ∙ none x bx (behind x bx px s))))))
        go (inr n) =
            history_newest g F r.key n.0 n.1 c hc n.2 ∙ sym (after_lasting r.key ∙ pick_newest (stays N (λ _. N) b r.key) (λ x bx. x.after) (first g r.key) n.0 n.1 b
            (newest_from (stays N (λ _. N) b r.key) n.0 n.1 b pwb (and_from (on_key r.key n.0) (is_ended N (λ _. N) b n.0) ow ended) (λ x bx px pb. false_from_ne_true (stays N (λ _. N) b r.key x bx) (λ s.
            let pc = behind x bx px s in
            elim (newest_first (λ x bx. on_key r.key x) n.0 n.1 c n.2 x bx pc (and_parts (on_key r.key x) (is_ended N (λ _. N) b x) s).0) [
              | inl u ↦ self_behind n.0 n.1 pwb kw.0 (before_has n.0 n.1 n.1 (subst (λ (l : List Entry). Before n.0 n.1 l) u.1 pb))
              | inr u ↦ self_behind n.0 n.1 pwb kw.0 (behind_has x bx n.1 u n.0 (before_has n.0 n.1 bx pb))
            ]))))
          where
            pw : Before n.0 n.1 c
            pw = newest_before (λ x bx. on_key r.key x) n.0 n.1 c n.2

            pwb : Before n.0 n.1 b
            pwb = before_trans b r c n.0 n.1 pr pw

            ow : on_key r.key n.0 ≡ true
            ow = newest_holds (λ x bx. on_key r.key x) n.0 n.1 c n.2

            kw : (is_write n.0.kind ≡ true) × (n.0.key ≡ r.key)
            kw = key_parts r.key n.0 ow

            ended : is_ended N (λ _. N) b n.0 ≡ true
            ended = elim ((at r c pr).guarded cr n.0 (before_has n.0 n.1 c pw) (write_is_call n.0.kind kw.0) (or_right (is_write r.kind) (is_write n.0.kind) kw.0) (ap g.row_of kw.1)) [
              | inl s ↦ absurd (true≢false (sym (and_from (on_key r.key n.0) (same_txn n.0 e) ow (same_from n.0 e (chain n.0 r e s sr))) ∙ nope n.0 n.1 pw))
              | inr d ↦ has_end n.0 (later_end r c pr n.0 d)
            ]

    lawful_calls : (c : List Entry) → ((x : Entry) (bx : List Entry) → Before x bx c → Before x bx b) → IsHistory g F c → Lawful (after (first g) (committed b)) (keep (λ r. same_txn r e) c)
    lawful_calls [] sub hc = tt
    lawful_calls (r ∷ c) sub hc = go (lawful_calls c (λ x bx i. sub x bx (inr i)) hc.1) (same_txn r e) refl
      where
        A : ℕ → ℕ
        A = after (first g) (committed b)

        pr : Before r c b
        pr = sub r c (inl (refl, refl))

        value : SameTxn r e → is_call r.kind ≡ true → NoneOf (λ x bx. on_key r.key x && same_txn x e) c ⊎ ((w : Entry) × (bw : List Entry) × Newest (λ x bx. on_key r.key x && same_txn x e) w bw c) → answer r ≡ write_all (keep (λ r. same_txn r e) c) A r.key
        value s k (inl n) = hc.0.answers k ∙ (foreign_value c r pr hc.1 k s n ∙ sym (write_pick (λ r. same_txn r e) A r.key c ∙ pick_none (λ x bx. on_key r.key x && same_txn x e) (λ x bx. x.after) (A r.key) c n))
        value s k (inr n) = hc.0.answers k ∙ (own_value r.key c r pr hc.1 n.0 n.1 n.2 ∙ sym (write_pick (λ r. same_txn r e) A r.key c ∙ pick_newest (λ x bx. on_key r.key x && same_txn x e) (λ x bx. x.after) (A r.key) n.0 n.1 c n.2))

        go : Lawful A (keep (λ r. same_txn r e) c) → (q : Bool) → same_txn r e ≡ q → Lawful A (cond q (r ∷ keep (λ r. same_txn r e) c) (keep (λ r. same_txn r e) c))
        go ih true s = (ih, λ k. value (same_to r e s) k (newest (λ x bx. on_key r.key x && same_txn x e) c))
        go ih false s = ih

serial_history : (g : Opening) (F : ℕ) (h : List Entry) → IsHistory g F h → Serial (first g) (committed h)
serial_history g F [] hist = tt
serial_history g F (e ∷ b) hist = go (serial_history g F b hist.1) (is_commit e.kind) refl
  where
    go : Serial (first g) (committed b) → (q : Bool) → is_commit e.kind ≡ q → Serial (first g) (cond q (record { end = e; calls = calls_of e b } ∷ committed b) (committed b))
    go ih true k = (ih, lawful_calls g F b hist.1 e hist.0.recorded (commit_is_end e.kind k) b (λ x bx i. i) hist.1)
    go ih false k = ih

-- a newer commit with the smaller number uses no key that the older wrote, nor the other way round
independent : (g : Opening) (F : ℕ) (e : Entry) (b : List Entry) → Recorded g F e b → IsRecorded g F b → is_commit e.kind ≡ true → (u : Done) → Has u (committed b) → earlier e u.end ≡ true → Independent (record { end = e; calls = calls_of e b }) u
independent g F e b n hist ke u iu lt = record { left = left; right = right }
  where
    s : Stood u b
    s = stood u b iu

    iu_b : Has u.end b
    iu_b = before_has u.end s.behind b s.place

    ku : is_end u.end.kind ≡ true
    ku = commit_is_end u.end.kind s.commit

    own : (r : Entry) → Has r (calls_of e b) → Has r b × SameTxn r e
    own r i = let q = keep_has (λ r. same_txn r e) b r i in (q.0, same_to r e q.1)

    theirs : (r : Entry) → Has r u.calls → Has r b × SameTxn r u.end
    theirs r i = let q = keep_has (λ r. same_txn r u.end) s.behind r (subst (λ (l : List Entry). Has r l) s.calls i) in (behind_has u.end s.behind b s.place r q.0, same_to r u.end q.1)

    clash : (y : Entry) → SameTxn y u.end → SameTxn y e ⊎ ((d : EndOf b y) × (d.end.number < e.number)) → ⊥
    clash y sy (inl t) = n.still_open u.end iu_b ku (chain u.end y e (flip y u.end sy) t)
    clash y sy (inr d) =
        let q = one_end g F b hist d.0.end u.end d.0.stands iu_b d.0.is_end ku (chain d.0.end y u.end d.0.same sy) in
        let l = subst (λ (x : Entry). x.number < e.number) q d.1 in
        let le = earlier_le e u.end lt in
        omega arith

    left : (k : ℕ) → uses k (calls_of e b) ≡ true → hits k u.calls ≡ true → ⊥
    left k a h =
        let x = any_has (λ r. is_call r.kind && (r.key == k)) (calls_of e b) a in
        let y = any_has (λ r. on_key k r) u.calls h in
        let cx = and_parts (is_call x.0.kind) (x.0.key == k) x.2 in
        let ky = key_parts k y.0 y.2 in
        let o = own x.0 x.1 in
        let t = theirs y.0 y.1 in
        elim ((n.closes (commit_is_end e.kind ke)).rows x.0 o.0 o.1 cx.0 y.0 t.0 (write_claims y.0 ky.0) (same_row g k y.0 x.0 ky.1 (eqb-true x.0.key k cx.1))) [
          | inl z ↦ clash y.0 t.1 (inl z)
          | inr d ↦ clash y.0 t.1 (inr (d.0, d.2))
        ]

    right : (k : ℕ) → uses k u.calls ≡ true → hits k (calls_of e b) ≡ true → ⊥
    right k a h =
        let y = any_has (λ r. is_call r.kind && (r.key == k)) u.calls a in
        let x = any_has (λ r. on_key k r) (calls_of e b) h in
        let cy = and_parts (is_call y.0.kind) (y.0.key == k) y.2 in
        let kx = key_parts k x.0 x.2 in
        let o = own x.0 x.1 in
        let t = theirs y.0 y.1 in
        clash y.0 t.1 ((n.closes (commit_is_end e.kind ke)).order x.0 o.0 o.1 (write_claims x.0 kx.0) y.0 t.0 cy.0 (same_row g k y.0 x.0 (eqb-true y.0.key k cy.1) kx.1))

independent_each : (g : Opening) (F : ℕ) (h : List Entry) → IsRecorded g F h → Each (λ x ys. (y : Done) → Has y ys → done_earlier x y ≡ true → Independent x y) (committed h)
independent_each g F [] hist = tt
independent_each g F (e ∷ b) hist = go (independent_each g F b hist.1) (is_commit e.kind) refl
  where
    go : Each (λ x ys. (y : Done) → Has y ys → done_earlier x y ≡ true → Independent x y) (committed b) → (q : Bool) → is_commit e.kind ≡ q → Each (λ x ys. (y : Done) → Has y ys → done_earlier x y ≡ true → Independent x y) (cond q (record { end = e; calls = calls_of e b } ∷ committed b) (committed b))
    go ih true k = (independent g F e b hist.0 hist.1 k, ih)
    go ih false k = ih

pub every_serial : EverySerial
every_serial g f es =
    let s : State = run g (start g) es in
    let v : Inv g s = (good_run g es (start g) (good_start g)).inv in
    serial_order (first g) (committed s.entries) (independent_each g (flushed_by_all g s) s.entries v.records) (serial_history g (flushed_by_all g s) s.entries (v.told f).history)

write_pick_all : (m : ℕ → ℕ) (k : ℕ) (h : List Entry) → write_all h m k ≡ pick (λ r b. on_key k r) (λ r b. r.after) (m k) h
write_pick_all m k h = ap (λ (l : List Entry). write_all l m k) (sym (keep_all h)) ∙ (write_pick (λ _. true) m k h ∙ go h)
  where
    keep_all : (h : List Entry) → keep (λ _. true) h ≡ h
    keep_all [] = refl
    keep_all (r ∷ h) = ap (λ (l : List Entry). r ∷ l) (keep_all h)

    go : (h : List Entry) → pick (λ r b. on_key k r && true) (λ r b. r.after) (m k) h ≡ pick (λ r b. on_key k r) (λ r b. r.after) (m k) h
    go [] = refl
    go (r ∷ h) = ap₂ (λ (b : Bool) (n : ℕ). cond b r.after n) (and_true (on_key k r)) (go h)
      where
        and_true : (b : Bool) → (b && true) ≡ b
        and_true true = refl
        and_true false = refl

legal_history : (g : Opening) (F : ℕ) (h : List Entry) → IsHistory g F h → Lawful (first g) h
legal_history g F [] hist = tt
legal_history g F (r ∷ h) hist = (legal_history g F h hist.1, λ c. hist.0.answers c ∙ (history_pick g F r.key h hist.1 ∙ sym (write_pick_all (first g) r.key h)))

pub every_legal : EveryLegal
every_legal g f es = let v : Inv g (run g (start g) es) = (good_run g es (start g) (good_start g)).inv in legal_history g (flushed_by_all g (run g (start g) es)) (run g (start g) es).entries (v.told f).history
