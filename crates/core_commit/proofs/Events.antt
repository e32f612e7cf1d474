-- Each event keeps the invariants.
use Rattle.page_model.specs.Nodes as page_nodes
use Rattle.page_model.specs.Records as page_records
use Rattle.page_model.specs.Fits.{FitsAs}
use Rattle.page_model.specs.Tree as page_tree
use Rattle.page_model.specs.Pairs as pairs
use Rattle.page_model.specs.Needs as record_needs
use Rattle.page_model.specs.Redo as redo_of
use Rattle.page_model.specs.Check as check
use Rattle.page_model.proofs.Needs as page_needs
use Rattle.page_model.proofs.Check as page_check
use Rattle.std.proofs.Common.{◌≡◌, ◌+◌, ℕ, suc, ◌≤◌, ◌<◌, max, Bool, true, false, cond, ◌&&◌, ◌||◌, if◌then◌else◌, not, ltb, leb, ◌==◌, List, [], ◌∷◌, ◌⊎◌, Option, Some, None, length, refl, sym, ap, ◌∙◌, subst, inl, inr, arith, true≢false}
use Rattle.std.proofs.lemmas.Bool.{cases_Bool, cases_eq, cases_lt, eq-eqb, ne_eqb, eqb-true, and_parts, or_cases, or_left, or_right, and_from, leb-true, ltb-true, lt-ltb, le-ltb, and_left, and_right, cond-true, cond-false, not_from_true}
use Rattle.map_model.specs.Lists.{any, upd, Has}
use Rattle.core_state.specs.image_model.Entries.{Entry, Kind, is_call, is_write, is_end, is_commit, is_record, touches, same_txn, word_in, is_purge, is_page, page_kind, Contents, written}
use Rattle.page_model.specs.Records.{Ref, Record}
use Rattle.core_state.specs.Lists.{is_empty}
use Rattle.page_model.specs.Pairs.{Pair}
use Rattle.core_state.specs.States.{Row, Worker, State, flushed_by_all, nodes_of, gsns_of}
use Rattle.core_state.specs.Openings.{Opening}
use Rattle.core_state.specs.Events.{Event}
use Rattle.page_model.specs.Nodes.{Node, holds}
use Rattle.core_state.specs.Steps.{claims, at_pages, refs_of, end_entry, read_entry, write_entry, page_entry, moves, finished, records_in, writes, put_back, reads, happens}
use Rattle.core_state.specs.Needs.{may_put, may_put_back, may_split, may_lift, may_join, may_drop, may_purge, is_single, is_dead, is_settled, holds_row, is_held_by, is_free, is_reader, may_read, needs}
use Rattle.page_model.specs.Tree.{IsTree}
use Rattle.core_state.specs.image_model.Entries.Kind.{Change, Put_back, Split, Lift, Join, Drop, Purge, Read, Commit, Abort}
use Rattle.core_commit.proofs.Lists.{Within}
use Rattle.map_model.proofs.ListLemmas.{any_has, upd_same, upd_other, at_upd}
use Rattle.core_commit.proofs.Nodes.{lookup_at, on_key, is_move, Fits, fits_parted, fits_before}
use Rattle.core_commit.proofs.History.{SameTxn, Covered, EndOf, Recorded, Entered, IsHistory, HasStamp, stamp_step, page_at, nodes, nodes_step, not_by, without, touch_ref, history_on, history_off, history_parted}
use Rattle.core_commit.proofs.KindFacts.{write_claims, claims_call, write_is_no_end, write_is_call, write_is_record}
use Rattle.core_commit.proofs.Invariants.{cuts_more, Holds, top_of, end_more, covered_more, AtMost, row_same, MayEnter, row_more, marker, undone, values_of, WorkerOk, Undoes, pages_more, undone_at, worker_more, undo_more, bound, tops, IsTold, Inv, touch_covers, touch_debt, page_covers, stamp_flushed}
use mathlib.Core.Path.{fun_ext}

pub upd_at_most : (f : Worker → ℕ) (worker : ℕ → Worker) (w : ℕ) (a : Worker) → f (worker w) ≤ f a → AtMost (λ v. f (worker v)) (λ v. f (upd worker w a v))
upd_at_most f worker w a l v = elim (cases_eq v w) [
  | inl e ↦ rw (upd_same worker w a v e) (rw e l)
  | inr n ↦ rw (upd_other worker w a v n) (omega arith)
]

-- ## Entries

pub inv_entry : (g : Opening) (s : State) → Inv g s → (w : ℕ) (a : Worker) (x : Entry) (page : ℕ → Contents) →
    x.log ≡ w → ((p : ℕ) → HasStamp (page p) (page_at g (x ∷ s.entries) p)) → IsTree g.format (nodes page) → Recorded g (flushed_by_all g s) x s.entries → ((i : ℕ) → MayEnter g i (s.row i) x) →
    max (s.worker w).debt (flushed_by_all g s) ≤ max a.debt (flushed_by_all g s) → top_of (s.worker w) ≤ top_of a →
    WorkerOk g (flushed_by_all g s) s.floor (s.flushed w) (x ∷ s.entries) s.row w a → (is_record x.kind ≡ true → s.cut < x.number) →
    (IsTold g s → IsTold g (record s { entries = x ∷ s.entries; page = page; worker = upd s.worker w a })) →
    Inv g (record s { entries = x ∷ s.entries; page = page; worker = upd s.worker w a })
inv_entry g s v w a x page l st tree en me lx lt own fresh told = record {
  cuts = cuts_more g (flushed_by_all g s) s.floor s.cut s.head s.flushed s.entries x fresh v.cuts;
  records = (en, v.records);
  stamps = st;
  tree = tree;
  rows = λ i. row_same g (bound g s) (tops s) (λ v. max (upd s.worker w a v).debt (flushed_by_all g s)) (λ v. top_of (upd s.worker w a v)) (x ∷ s.entries) i (s.row i)
      (upd_at_most (λ b. max b.debt (flushed_by_all g s)) s.worker w a lx) (upd_at_most top_of s.worker w a lt)
      (row_more g (bound g s) (tops s) s.entries i (s.row i) x (me i) (v.rows i));
  workers = λ j. at_upd (λ j b. WorkerOk g (flushed_by_all g s) s.floor (s.flushed j) (x ∷ s.entries) s.row j b) s.worker w a j own
      (λ n. worker_more g (flushed_by_all g s) s.floor (s.flushed j) s.entries s.row j (s.worker j) x (λ e. n (sym e ∙ l)) (v.workers j));
  told = λ f. told (v.told f);
}

-- what is told of contents then
pub told_entry : (g : Opening) (s : State) → Inv g s → IsTold g s → (w : ℕ) (a : Worker) (x : Entry) (page : ℕ → Contents) →
    x.log ≡ w → ((p : ℕ) → page p ≡ page_at g (x ∷ s.entries) p) → Entered g (flushed_by_all g s) x s.entries → ((i : ℕ) → MayEnter g i (s.row i) x) →
    Undoes g (x ∷ s.entries) w a → IsTold g (record s { entries = x ∷ s.entries; page = page; worker = upd s.worker w a })
told_entry g s v k w a x page l pg en me own = record {
  history = (en, k.history);
  pages = pg;
  undo = λ j. at_upd (λ j b. Undoes g (x ∷ s.entries) j b) s.worker w a j own
      (λ n. undo_more g (flushed_by_all g s) s.entries s.row j (s.worker j) x k.history en.fits (λ e. n (sym e ∙ l)) (λ k. (me (g.row_of x.key) (write_is_call x.kind k) refl).1 (write_claims x k)) (v.workers j).changes (k.undo j));
}

-- clock and debt rise
pub worker_raised : (g : Opening) (F base fl : ℕ) (h : List Entry) (row : ℕ → Row) (w : ℕ) (a : Worker) (n m : ℕ) → a.clock ≤ n → a.debt ≤ m → m ≤ n → WorkerOk g F base fl h row w a →
    WorkerOk g F base fl h row w (record a { clock = n; debt = m })
worker_raised g F base fl h row w a n m ln lm mn o = record {
  floor = o.floor;
  debt = mn;
  end = let e = o.end in omega arith;
  flushed = let e = o.flushed in omega arith;
  based = o.based;
  in_log = o.in_log;
  numbers = λ r i l. let q = o.numbers r i l in (omega arith, q.1);
  ends = λ e i k l. let q = o.ends e i k l in (q.0, omega arith);
  past = o.past;
  unended = o.unended;
  pages = pages_more w (max a.debt F) (max m F) h (omega arith) o.pages;
  is_log = o.is_log;
  used = o.used;
  changes = o.changes;
  words = o.words;
}

-- an entry of the worker's own comes
pub own_more : (g : Opening) (F base fl : ℕ) (h : List Entry) (row : ℕ → Row) (w : ℕ) (a : Worker) (x : Entry) (n : ℕ) (cs : List Entry) →
    WorkerOk g F base fl h row w a → x.log ≡ w → x.txn ≡ a.txn → is_end x.kind ≡ false → a.is_open ≡ true → x.number ≤ n → a.clock ≤ n →
    ((p : ℕ) → touches p x ≡ true → (y : Entry) → Has y h → touches p y ≡ true → Covered w (max a.debt F) y) →
    (is_call x.kind ≡ true → Holds (row (g.row_of x.key)) w × (claims x ≡ true → (row (g.row_of x.key)).holder ≡ Some w)) →
    ((c : Entry) → Has c cs → ((row (g.row_of c.key)).holder ≡ Some w) × (c.before ≤ g.format.dead)) →
    WorkerOk g F base fl (x ∷ h) row w (record { clock = n; floor = a.floor; debt = a.debt; txn = a.txn; end = a.end; is_open = a.is_open; changes = cs })
own_more g F base fl h row w a x n cs o lx tx kx op nx cn pg us ch = record {
  floor = o.floor;
  debt = let e = o.debt in omega arith;
  end = let e = o.end in omega arith;
  flushed = let e = o.flushed in omega arith;
  based = o.based;
  in_log = elim o.in_log [ inl e ↦ inl e | inr e ↦ inr (e.0, inr e.1, e.2, e.3, e.4) ];
  numbers = numbers;
  ends = λ e i k l. o.ends e (older e i k) k l;
  past = past;
  unended = λ op e i k l t. o.unended op e (older e i k) k l t;
  pages = (λ l p t. pg p t, o.pages);
  is_log = o.is_log;
  used = used;
  changes = λ op c i. (ch c i).0;
  words = λ op c i. (ch c i).1;
}
  where
    older : (e : Entry) → Has e (x ∷ h) → is_end e.kind ≡ true → Has e h
    older e (inl q) k = absurd (true≢false (sym k ∙ (ap (λ (y : Entry). is_end y.kind) q ∙ kx)))
    older e (inr i) k = i

    numbers : (r : Entry) → Has r (x ∷ h) → r.log ≡ w → (r.number ≤ n) × (r.txn ≤ a.txn)
    numbers r (inl e) l = (rw e (omega arith), rw e (omega arith))
    numbers r (inr i) l = let q = o.numbers r i l in (omega arith, q.1)

    past : (r : Entry) → Has r (x ∷ h) → r.log ≡ w → ((a.is_open ≡ true) × (r.txn ≡ a.txn)) ⊎ EndOf (x ∷ h) r
    past r (inl e) l = inl (op, ap (λ (y : Entry). y.txn) e ∙ tx)
    past r (inr i) l = elim (o.past r i l) [ inl q ↦ inl q | inr d ↦ inr (end_more h r x d) ]

    used : a.is_open ≡ true → (r : Entry) → Has r (x ∷ h) → is_call r.kind ≡ true → r.log ≡ w → r.txn ≡ a.txn → Holds (row (g.row_of r.key)) w × (claims r ≡ true → (row (g.row_of r.key)).holder ≡ Some w)
    used op r (inl e) k l t = rw e (us (ap (λ (z : Entry). is_call z.kind) (sym e) ∙ k))
    used op r (inr i) k l t = o.used op r i k l t

-- it is put back with the others of the list
pub own_undo : (g : Opening) (h : List Entry) (w : ℕ) (a : Worker) (x : Entry) (n : ℕ) (cs : List Entry) → x.log ≡ w → x.txn ≡ a.txn → ((k : ℕ) → undone cs (values_of g (x ∷ h)) k ≡ undone a.changes (values_of g h) k) → Undoes g h w a →
    Undoes g (x ∷ h) w (record { clock = n; floor = a.floor; debt = a.debt; txn = a.txn; end = a.end; is_open = a.is_open; changes = cs })
own_undo g h w a x n cs lx tx un undo op k =
    un k ∙ (undo op k ∙ sym (cond-false (not_by (marker w a) k x h) x.after (without g (marker w a) k h) (and_right (on_key k x) (not (same_txn x (marker w a))) (not_from_true (same_txn x (marker w a)) (and_from (x.log == w) (x.txn == a.txn) (eq-eqb x.log w lx) (eq-eqb x.txn a.txn tx))))))

pub holds_to : (o : Row) (w : ℕ) → holds_row o w ≡ true → Holds o w
holds_to o w h = elim (or_cases (is_held_by o.holder w) (is_reader w o.readers) h) [
  | inl e ↦ inl (held_to o.holder w e)
  | inr e ↦ let q = any_has (λ v. v == w) o.readers e in inr (subst (λ (v : ℕ). Has v o.readers) (eqb-true q.0 w q.2) q.1)
]
  where
    held_to : (h : Option ℕ) (w : ℕ) → is_held_by h w ≡ true → h ≡ Some w
    held_to None w e = absurd (true≢false (sym e))
    held_to (Some v) w e = ap (λ (x : ℕ). Some x) (eqb-true v w e)

pub held_to : (h : Option ℕ) (w : ℕ) → is_held_by h w ≡ true → h ≡ Some w
held_to None w e = absurd (true≢false (sym e))
held_to (Some v) w e = ap (λ (x : ℕ). Some x) (eqb-true v w e)

pub free_to : (h : Option ℕ) → is_free h ≡ true → h ≡ None
free_to None e = refl
free_to (Some v) e = absurd (true≢false (sym e))

pub open_top : (a : Worker) → a.is_open ≡ true → top_of a ≡ a.clock
open_top a e = cond-true a.is_open a.clock a.end e

pub shut_top : (a : Worker) → a.is_open ≡ false → top_of a ≡ a.end
shut_top a e = cond-false a.is_open a.clock a.end e

pub top_le : (g : Opening) (F base fl : ℕ) (h : List Entry) (row : ℕ → Row) (w : ℕ) (a : Worker) → WorkerOk g F base fl h row w a → top_of a ≤ a.clock
top_le g F base fl h row w a o = let e = o.end in elim (cases_Bool a.is_open) [ inl q ↦ rw (open_top a q) (omega arith) | inr q ↦ rw (shut_top a q) (omega arith) ]

-- ## Records of pages

pub touched_all : (s : State) (w F : ℕ) (a : Worker) (ps : List ℕ) → ((p : ℕ) → (s.page p).last ≡ 0 → (s.page p).gsn ≤ F) → a.floor ≤ F → a.debt ≤ a.clock →
    (a.clock ≤ (at_pages s w a ps).clock) × (a.debt ≤ (at_pages s w a ps).debt) × ((at_pages s w a ps).debt ≤ (at_pages s w a ps).clock) × ((at_pages s w a ps).floor ≤ F)
    × ((p : ℕ) → Has p ps → ((s.page p).gsn ≤ (at_pages s w a ps).clock) × (((s.page p).last ≡ w) ⊎ ((s.page p).gsn ≤ max (at_pages s w a ps).debt F)))
touched_all s w F a [] none fl d = (omega arith, omega arith, d, fl, λ p i. absurd i)
touched_all s w F a (q ∷ ps) none fl d = go (touched_all s w F a ps none fl d)
  where
    b : Worker
    b = at_pages s w a ps

    go : (a.clock ≤ b.clock) × (a.debt ≤ b.debt) × (b.debt ≤ b.clock) × (b.floor ≤ F) × ((p : ℕ) → Has p ps → ((s.page p).gsn ≤ b.clock) × (((s.page p).last ≡ w) ⊎ ((s.page p).gsn ≤ max b.debt F))) →
        (a.clock ≤ (at_pages s w a (q ∷ ps)).clock) × (a.debt ≤ (at_pages s w a (q ∷ ps)).debt) × ((at_pages s w a (q ∷ ps)).debt ≤ (at_pages s w a (q ∷ ps)).clock) × ((at_pages s w a (q ∷ ps)).floor ≤ F)
        × ((p : ℕ) → Has p (q ∷ ps) → ((s.page p).gsn ≤ (at_pages s w a (q ∷ ps)).clock) × (((s.page p).last ≡ w) ⊎ ((s.page p).gsn ≤ max (at_pages s w a (q ∷ ps)).debt F)))
    go ih =
        let t = touch_debt w b (s.page q).gsn (s.page q).last ih.2 in
        let c = touch_covers w b (s.page q).gsn (s.page q).last F ih.3 (none q) in
        let l0 = ih.0 in let l1 = ih.1 in let t0 = t.0 in let t1 = t.1 in
        (omega arith, omega arith, omega arith, ih.3, λ p i. each ih t0 c p i)
      where
        each : (a.clock ≤ b.clock) × (a.debt ≤ b.debt) × (b.debt ≤ b.clock) × (b.floor ≤ F) × ((p : ℕ) → Has p ps → ((s.page p).gsn ≤ b.clock) × (((s.page p).last ≡ w) ⊎ ((s.page p).gsn ≤ max b.debt F))) →
            b.debt ≤ (at_pages s w a (q ∷ ps)).debt → ((s.page q).last ≡ w) ⊎ ((s.page q).gsn ≤ max (at_pages s w a (q ∷ ps)).debt F) → (p : ℕ) → Has p (q ∷ ps) → ((s.page p).gsn ≤ (at_pages s w a (q ∷ ps)).clock) × (((s.page p).last ≡ w) ⊎ ((s.page p).gsn ≤ max (at_pages s w a (q ∷ ps)).debt F))
        each ih t0 c p (inl e) = rw e (omega arith, c)
        each ih t0 c p (inr i) = let z = ih.4 p i in let z0 = z.0 in (omega arith, elim z.1 [ inl e ↦ inl e | inr e ↦ inr (omega arith) ])

refs_have : (s : State) (ps : List ℕ) (f : Ref) → Has f (refs_of s ps) → Has f.page ps × (f.prev ≡ (s.page f.page).gsn)
refs_have s [] f i = absurd i
refs_have s (p ∷ ps) f (inl e) = (inl (ap (λ (x : Ref). x.page) e), ap (λ (x : Ref). x.prev) e ∙ ap (λ (j : ℕ). (s.page j).gsn) (sym (ap (λ (x : Ref). x.page) e)))
refs_have s (p ∷ ps) f (inr i) = let r = refs_have s ps f i in (inr r.0, r.1)

has_touch : (s : State) (ps : List ℕ) (x : Entry) → x.refs ≡ refs_of s ps → (p : ℕ) → Has p ps → touches p x ≡ true
has_touch s ps x e p i = ap (λ (l : List Ref). any (λ f. f.page == p) l) e ∙ go ps i
  where
    go : (ps : List ℕ) → Has p ps → any (λ (f : Ref). f.page == p) (refs_of s ps) ≡ true
    go [] i = absurd i
    go (q ∷ ps) (inl e) = or_left (q == p) (any (λ (f : Ref). f.page == p) (refs_of s ps)) (eq-eqb q p (sym e))
    go (q ∷ ps) (inr i) = or_right (q == p) (any (λ (f : Ref). f.page == p) (refs_of s ps)) (go ps i)

pub touch_has : (s : State) (ps : List ℕ) (x : Entry) → x.refs ≡ refs_of s ps → (p : ℕ) → touches p x ≡ true → Has p ps
touch_has s ps x e p o =
    let f = touch_ref p x o in
    subst (λ (q : ℕ). Has q ps) f.2 (refs_have s ps f.0 (subst (λ (l : List Ref). Has f.0 l) e f.1)).0

pub same_nodes : (g : Opening) (s : State) → IsTold g s → nodes s.page ≡ nodes (page_at g s.entries)
same_nodes g s k = fun_ext (λ p. ap (λ (z : Contents). z.node) (k.pages p))

-- a record of these pages, by a worker who touched them: its clock is n then, its debt m, and cs its changes from then on
pub record IsNext (g : Opening) (s : State) (w : ℕ) (ps : List ℕ) (n m : ℕ) (x : Entry) (cs : List Entry) : Type 0 where
  pub is_open : (s.worker w).is_open ≡ true
  pub clock : (s.worker w).clock ≤ n
  pub debt : (s.worker w).debt ≤ m
  pub low : m ≤ n
  pub met : (p : ℕ) → Has p ps → ((s.page p).gsn ≤ n) × (((s.page p).last ≡ w) ⊎ ((s.page p).gsn ≤ max m (flushed_by_all g s)))
  pub log : x.log ≡ w
  pub txn : x.txn ≡ (s.worker w).txn
  pub number : n < x.number
  pub no_end : is_end x.kind ≡ false
  pub is_record : is_record x.kind ≡ true
  pub refs : x.refs ≡ refs_of s ps
  pub fits : Fits g.format (nodes_of s) x
  pub call : is_call x.kind ≡ true → is_write x.kind ≡ true
  pub hold : is_call x.kind ≡ true → (s.row (g.row_of x.key)).holder ≡ Some w
  pub changes : (c : Entry) → Has c cs → ((s.row (g.row_of c.key)).holder ≡ Some w) × (c.before ≤ g.format.dead)
  pub settled : is_purge x.kind ≡ true → (k : ℕ) → pairs.is_in k x.record_of.keys ≡ true → is_settled g s k ≡ true

module _ (g : Opening) (s : State) (i : Inv g s) (w : ℕ) (ps : List ℕ) (n m : ℕ) (x : Entry) (cs : List Entry) (e : IsNext g s w ps n m x cs) where
  -- the worker before the record, and after it
  abbrev raised : Worker
  raised = record (s.worker w) { clock = n; debt = m }

  abbrev next_worker : Worker
  next_worker = record raised { clock = x.number; changes = cs }

  abbrev next_page : ℕ → Contents
  next_page p = if touches p x then written x p (s.page p) else s.page p

  next_enters : (j : ℕ) → MayEnter g j (s.row j) x
  next_enters j cx at = let q = subst (λ (u : ℕ). (s.row u).holder ≡ Some w) at (e.hold cx) in (inl (q ∙ ap (λ (u : ℕ). Some u) (sym e.log)), λ _. q ∙ ap (λ (u : ℕ). Some u) (sym e.log))

  next_cover : (p : ℕ) → touches p x ≡ true → (y : Entry) → Has y s.entries → touches p y ≡ true → Covered w (max m (flushed_by_all g s)) y
  next_cover p tp y iy ty = page_covers g (flushed_by_all g s) w (max m (flushed_by_all g s)) p s.entries i.records (pages_more w (max (s.worker w).debt (flushed_by_all g s)) (max m (flushed_by_all g s)) s.entries (let q = e.debt in omega arith) (i.workers w).pages)
      (let z = (i.stamps p).0 in elim (e.met p (touch_has s ps x e.refs p tp)).1 [ inl q ↦ inl (sym (i.stamps p).1 ∙ q) | inr q ↦ inr (omega arith) ]) y iy ty

  next_recorded : Recorded g (flushed_by_all g s) x s.entries
  next_recorded = record {
    log = subst (Within g.workers) (sym e.log) ((i.workers w).is_log e.is_open);
    later = λ _ y iy l. let q = ((i.workers w).numbers y iy (l ∙ e.log)).0 in let u = e.number in let v = e.clock in omega arith;
    logged = λ p t. e.is_record;
    prev = λ f jf. let z = refs_have s ps f (subst (λ (l : List Ref). Has f l) e.refs jf) in z.1 ∙ (i.stamps f.page).0;
    rises = λ p t. let z = (e.met p (touch_has s ps x e.refs p t)).0 in let q = (i.stamps p).0 in let u = e.number in omega arith;
    still_open = λ d id kd sd. (i.workers w).unended e.is_open d id kd (sd.0 ∙ e.log) (sd.1 ∙ e.txn);
    purged = λ c k ik y iy ky is. (let z = and_parts (is_free (s.row (g.row_of k)).holder) (is_empty (s.row (g.row_of k)).readers && leb (s.row (g.row_of k)).number (flushed_by_all g s)) (e.settled c k ik) in
        let zz = and_parts (is_empty (s.row (g.row_of k)).readers) (leb (s.row (g.row_of k)).number (flushed_by_all g s)) z.1 in
        elim ((i.rows (g.row_of k)).writes y iy (write_claims y ky) (ap g.row_of is)) [
          | inl q ↦ absurd (true≢false (sym z.0 ∙ ap is_free q))
          | inr d ↦ (d.0, let u = leb-true (s.row (g.row_of k)).number (flushed_by_all g s) zz.1 in let v = d.1 in omega arith)
        ]);
    locked = λ kx y iy ky row. elim ((i.rows (g.row_of x.key)).touched w (inl (e.hold (write_is_call x.kind kx))) y iy (write_claims y ky) row) [
      | inl l ↦ elim ((i.workers w).past y iy l) [ inl q ↦ inl (l ∙ sym e.log, q.1 ∙ sym e.txn) | inr d ↦ inr (d, let q = ((i.workers w).numbers d.end d.stands (d.same.0 ∙ l)).0 in let u = e.number in let v = e.clock in omega arith) ]
      | inr d ↦ inr (d.0, let q : d.0.end.number ≤ (s.worker w).clock = subst (λ t. d.0.end.number ≤ t) (open_top (s.worker w) e.is_open) d.1 in let u = e.number in let v = e.clock in omega arith)
    ];
    guarded = λ cx y iy cy _ row. elim ((i.rows (g.row_of x.key)).sole w (e.hold cx) y iy cy row) [
      | inl l ↦ elim ((i.workers w).past y iy l) [ inl q ↦ inl (l ∙ sym e.log, q.1 ∙ sym e.txn) | inr d ↦ inr d ]
      | inr d ↦ inr d.0
    ];
    closes = λ ke. absurd (true≢false (sym ke ∙ e.no_end));
  }

  told_records : ((j : ℕ) → undone cs (values_of g (x ∷ s.entries)) j ≡ undone (s.worker w).changes (values_of g s.entries) j) → IsTold g s → IsTold g (records_in s w (record (s.worker w) { clock = n; debt = m }) x cs)
  told_records un k = told_entry g s i k w next_worker x next_page e.log (λ q. ap (λ (z : Contents). cond (touches q x) (written x q z) z) (k.pages q)) entered next_enters (own_undo g s.entries w raised x x.number cs e.log e.txn un (k.undo w))
    where
      fits : Fits g.format (nodes (page_at g s.entries)) x
      fits = subst (λ (v : ℕ → Node). Fits g.format v x) (same_nodes g s k) e.fits

      entered : Entered g (flushed_by_all g s) x s.entries
      entered = record {
        recorded = next_recorded;
        fits = fits;
        answers = λ cx. cond-true (is_write x.kind) x.before x.after (e.call cx) ∙ fits_before g.format (nodes (page_at g s.entries)) x (history_parted g (flushed_by_all g s) s.entries k.history) fits (e.call cx);
        aborts = λ ke. absurd (true≢false (sym ke ∙ e.no_end));
      }

  pub inv_records : (IsTold g s → (j : ℕ) → undone cs (values_of g (x ∷ s.entries)) j ≡ undone (s.worker w).changes (values_of g s.entries) j) → Inv g (records_in s w (record (s.worker w) { clock = n; debt = m }) x cs)
  inv_records un =
      inv_entry g s i w next_worker x next_page e.log (λ p. stamp_step x p (s.page p) (page_at g s.entries p) (i.stamps p)) (subst (IsTree g.format) (sym (nodes_step s.page x)) (fits_parted g.format (nodes_of s) x i.tree e.fits)) next_recorded next_enters
      (let q = e.debt in omega arith) (let q = e.clock in let u = e.number in rw (open_top (s.worker w) e.is_open, open_top next_worker e.is_open) (omega arith))
      (own_more g (flushed_by_all g s) s.floor (s.flushed w) s.entries s.row w raised x x.number cs (worker_raised g (flushed_by_all g s) s.floor (s.flushed w) s.entries s.row w (s.worker w) n m e.clock e.debt e.low (i.workers w)) e.log e.txn e.no_end e.is_open (omega arith) (let u = e.number in omega arith)
      next_cover (λ cx. (inl (e.hold cx), λ _. e.hold cx)) e.changes)
      (λ _. let z0 = (i.workers w).based ((i.workers w).is_log e.is_open) in let z1 = (i.workers w).flushed in let z2 = i.cuts.low in let q = e.clock in let u = e.number in omega arith) (λ k. told_records (un k) k)

write_no_clean : (K : Kind) → is_write K ≡ true → is_purge K ≡ false
write_no_clean Purge h = absurd (true≢false (sym h))
write_no_clean _ h = refl

-- a write by the one who holds the row alone
pub inv_write : (g : Opening) (s : State) → Inv g s → (kind : Kind) (w p k v : ℕ) (changes : Entry → List Entry) → is_write kind ≡ true → (s.worker w).is_open ≡ true → (s.row (g.row_of k)).holder ≡ Some w →
    Fits g.format (nodes_of s) (write_entry g kind s w (at_pages s w (s.worker w) (p ∷ [])) p k v) →
    ((c : Entry) → Has c (changes (write_entry g kind s w (at_pages s w (s.worker w) (p ∷ [])) p k v)) → ((s.row (g.row_of c.key)).holder ≡ Some w) × (c.before ≤ g.format.dead)) →
    (IsTold g s → (j : ℕ) → undone (changes (write_entry g kind s w (at_pages s w (s.worker w) (p ∷ [])) p k v)) (values_of g (write_entry g kind s w (at_pages s w (s.worker w) (p ∷ [])) p k v ∷ s.entries)) j ≡ undone (s.worker w).changes (values_of g s.entries) j) →
    Inv g (writes g s kind w p k v changes)
inv_write g s i kind w p k v changes kw op hold fit ch un = inv_records g s i w (p ∷ []) a.clock a.debt x (changes x) next un
  where
    a : Worker
    a = at_pages s w (s.worker w) (p ∷ [])

    x : Entry
    x = write_entry g kind s w a p k v

    t : ((s.worker w).clock ≤ a.clock) × ((s.worker w).debt ≤ a.debt) × (a.debt ≤ a.clock) × (a.floor ≤ flushed_by_all g s) × ((q : ℕ) → Has q (p ∷ []) → ((s.page q).gsn ≤ a.clock) × (((s.page q).last ≡ w) ⊎ ((s.page q).gsn ≤ max a.debt (flushed_by_all g s))))
    t = touched_all s w (flushed_by_all g s) (s.worker w) (p ∷ []) (stamp_flushed g s i) (i.workers w).floor (i.workers w).debt

    next : IsNext g s w (p ∷ []) a.clock a.debt x (changes x)
    next = record {
      is_open = op;
      clock = t.0;
      debt = t.1;
      low = t.2;
      met = t.4;
      log = refl;
      txn = refl;
      number = omega arith;
      no_end = write_is_no_end kind kw;
      is_record = write_is_record kind kw;
      refs = refl;
      fits = fit;
      call = λ _. kw;
      hold = λ _. hold;
      changes = ch;
      settled = λ c. absurd (true≢false (sym c ∙ write_no_clean kind kw));
    }

none_has : (k : ℕ) (n : Node) → pairs.find k n.pairs ≡ None → redo_of.has_key k n ≡ false
none_has k n e = ap redo_of.is_some e

-- a word that a leaf has, or says of an absent key
before_le : (f : page_nodes.Format) (node : ℕ → Node) (r : Record) → IsTree f node → FitsAs f page_records.Kind.Change node r → r.before ≤ f.dead
before_le f node r t m =
    let d = page_needs.does page_records.Kind.Change f node r t m in
    let v = node r.left.page in
    let a = and_parts (redo_of.can_write f node r) (redo_of.has_key r.key v || ltb (length v.pairs) f.room) d in
    let b = and_parts (ltb r.left.page f.pages) (v.live && ((v.level == 0) && (redo_of.within r.key v && (leb r.before f.dead && leb r.after f.dead)))) a.0 in
    let c = and_parts v.live ((v.level == 0) && (redo_of.within r.key v && (leb r.before f.dead && leb r.after f.dead))) b.1 in
    let e = and_parts (v.level == 0) (redo_of.within r.key v && (leb r.before f.dead && leb r.after f.dead)) c.1 in
    let h = and_parts (redo_of.within r.key v) (leb r.before f.dead && leb r.after f.dead) e.1 in
    leb-true r.before f.dead (and_parts (leb r.before f.dead) (leb r.after f.dead) h.1).0

pub inv_change : (g : Opening) (s : State) → Inv g s → (w p k v : ℕ) → needs g s (Event.Change w p k v) ≡ true → Inv g (happens g s (Event.Change w p k v))
inv_change g s i w p k v m = inv_write g s i Change w p k v (λ r. r ∷ (s.worker w).changes) refl p1.0 hold fits ch
    (λ t j. undone_at (s.worker w).changes (upd (values_of g (x ∷ s.entries)) k x.before) (values_of g s.entries) j (back t.history (subst (λ (n : ℕ → Node). Fits g.format n x) (same_nodes g s t) fits) j))
  where
    n : Node
    n = (s.page p).node

    p1 : ((s.worker w).is_open ≡ true) × ((is_held_by (s.row (g.row_of k)).holder w && may_put g n p k v) ≡ true)
    p1 = and_parts (s.worker w).is_open (is_held_by (s.row (g.row_of k)).holder w && may_put g n p k v) (and_parts (ltb (length (s.worker w).changes) g.changes) ((s.worker w).is_open && (is_held_by (s.row (g.row_of k)).holder w && may_put g n p k v)) m).1

    p2 : (is_held_by (s.row (g.row_of k)).holder w ≡ true) × (may_put g n p k v ≡ true)
    p2 = and_parts (is_held_by (s.row (g.row_of k)).holder w) (may_put g n p k v) p1.1

    p3 : (ltb p g.format.pages ≡ true) × ((holds n k && (leb v g.format.dead && (redo_of.has_key k n || ltb (length n.pairs) g.format.room))) ≡ true)
    p3 = and_parts (ltb p g.format.pages) (holds n k && (leb v g.format.dead && (redo_of.has_key k n || ltb (length n.pairs) g.format.room))) p2.1

    p4 : (holds n k ≡ true) × ((leb v g.format.dead && (redo_of.has_key k n || ltb (length n.pairs) g.format.room)) ≡ true)
    p4 = and_parts (holds n k) (leb v g.format.dead && (redo_of.has_key k n || ltb (length n.pairs) g.format.room)) p3.1

    p5 : (leb v g.format.dead ≡ true) × ((redo_of.has_key k n || ltb (length n.pairs) g.format.room) ≡ true)
    p5 = and_parts (leb v g.format.dead) (redo_of.has_key k n || ltb (length n.pairs) g.format.room) p4.1

    hold : (s.row (g.row_of k)).holder ≡ Some w
    hold = held_to (s.row (g.row_of k)).holder w p2.0

    x : Entry
    x = write_entry g Change s w (at_pages s w (s.worker w) (p ∷ [])) p k v

    fit : FitsAs g.format page_records.Kind.Change (nodes_of s) x.record_of
    fit = (page_needs.every_need g.format (nodes_of s) (gsns_of s) i.tree).change p k v (record {
      page = ltb-true p g.format.pages p3.0;
      leaf = p4.0;
      word = leb-true v g.format.dead p5.0;
      room = λ e. elim (or_cases (redo_of.has_key k n) (ltb (length n.pairs) g.format.room) p5.1) [
        | inl h ↦ absurd (true≢false (sym h ∙ none_has k n e))
        | inr h ↦ ltb-true (length n.pairs) g.format.room h
      ];
    })

    fits : Fits g.format (nodes_of s) x
    fits = record { page = λ _. record { refs = refl; key = λ _. (refl, refl, refl); fits = fit }; none = λ z. absurd (true≢false z) }

    ch : (c : Entry) → Has c (x ∷ (s.worker w).changes) → ((s.row (g.row_of c.key)).holder ≡ Some w) × (c.before ≤ g.format.dead)
    ch c (inl e) = rw e (hold, before_le g.format (nodes_of s) x.record_of i.tree fit)
    ch c (inr ic) = ((i.workers w).changes p1.0 c ic, (i.workers w).words p1.0 c ic)

    back : IsHistory g (flushed_by_all g s) s.entries → Fits g.format (nodes (page_at g s.entries)) x → (j : ℕ) → upd (values_of g (x ∷ s.entries)) k x.before j ≡ values_of g s.entries j
    back hist fit j = elim (cases_eq j k) [
      | inl e ↦ upd_same (values_of g (x ∷ s.entries)) k x.before j e ∙ (fits_before g.format (nodes (page_at g s.entries)) x (history_parted g (flushed_by_all g s) s.entries hist) fit refl ∙ ap (values_of g s.entries) (sym e))
      | inr n ↦ upd_other (values_of g (x ∷ s.entries)) k x.before j n ∙ history_off g (flushed_by_all g s) j x s.entries hist fit (ne_eqb k j (λ e. n (sym e)))
    ]

pub inv_put_back : (g : Opening) (s : State) → Inv g s → (w p : ℕ) → needs g s (Event.Put_back w p) ≡ true → Inv g (happens g s (Event.Put_back w p))
inv_put_back g s i w p m = go (s.worker w).changes refl parts.1
  where
    n : Node
    n = (s.page p).node

    parts : ((s.worker w).is_open ≡ true) × (may_put_back g n p (s.worker w).changes ≡ true)
    parts = and_parts (s.worker w).is_open (may_put_back g n p (s.worker w).changes) m

    op : (s.worker w).is_open ≡ true
    op = parts.0

    go : (cs : List Entry) → (s.worker w).changes ≡ cs → may_put_back g n p cs ≡ true → Inv g (put_back g s w p cs)
    go [] e z = i
    go (c ∷ cs) e z = inv_write g s i Put_back w p c.key c.before (λ _. cs) refl op (held c (inl refl)).0 fits (λ d id. held d (inr id))
        (λ t j. undone_at cs (values_of g (x ∷ s.entries)) (upd (values_of g s.entries) c.key c.before) j (back t.history (subst (λ (n : ℕ → Node). Fits g.format n x) (same_nodes g s t) fits) j) ∙ ap (λ (l : List Entry). undone l (values_of g s.entries) j) (sym e))
      where
        x : Entry
        x = write_entry g Put_back s w (at_pages s w (s.worker w) (p ∷ [])) p c.key c.before

        held : (d : Entry) → Has d (c ∷ cs) → ((s.row (g.row_of d.key)).holder ≡ Some w) × (d.before ≤ g.format.dead)
        held d id = let id' = subst (λ (l : List Entry). Has d l) (sym e) id in ((i.workers w).changes op d id', (i.workers w).words op d id')

        p3 : (ltb p g.format.pages ≡ true) × ((holds n c.key && redo_of.has_key c.key n) ≡ true)
        p3 = and_parts (ltb p g.format.pages) (holds n c.key && redo_of.has_key c.key n) z

        p4 : (holds n c.key ≡ true) × (redo_of.has_key c.key n ≡ true)
        p4 = and_parts (holds n c.key) (redo_of.has_key c.key n) p3.1

        fits : Fits g.format (nodes_of s) x
        fits = record {
          page = λ _. record {
            refs = refl;
            key = λ _. (refl, refl, refl);
            fits = (page_needs.every_need g.format (nodes_of s) (gsns_of s) i.tree).back p c.key c.before (record {
              page = ltb-true p g.format.pages p3.0;
              leaf = p4.0;
              word = (held c (inl refl)).1;
              entry = λ e. true≢false (sym p4.1 ∙ none_has c.key n e);
            });
          };
          none = λ z. absurd (true≢false z);
        }

        back : IsHistory g (flushed_by_all g s) s.entries → Fits g.format (nodes (page_at g s.entries)) x → (j : ℕ) → values_of g (x ∷ s.entries) j ≡ upd (values_of g s.entries) c.key c.before j
        back hist fit j = elim (cases_eq j c.key) [
          | inl q ↦ history_on g (flushed_by_all g s) j x s.entries hist fit (eq-eqb c.key j (sym q)) ∙ sym (upd_same (values_of g s.entries) c.key c.before j q)
          | inr n ↦ history_off g (flushed_by_all g s) j x s.entries hist fit (ne_eqb c.key j (λ q. n (sym q))) ∙ sym (upd_other (values_of g s.entries) c.key c.before j n)
        ]

-- ## Records that change no value

move_no_end : (K : Kind) → is_move K ≡ true → is_end K ≡ false
move_no_end Commit h = absurd (true≢false (sym h))
move_no_end Abort h = absurd (true≢false (sym h))
move_no_end _ h = refl

move_is_record : (K : Kind) → is_move K ≡ true → is_record K ≡ true
move_is_record Read h = absurd (true≢false (sym h))
move_is_record _ h = refl

move_no_call : (K : Kind) → is_move K ≡ true → is_call K ≡ false
move_no_call Change h = absurd (true≢false (sym h))
move_no_call Put_back h = absurd (true≢false (sym h))
move_no_call Read h = absurd (true≢false (sym h))
move_no_call _ h = refl

move_no_write : (K : Kind) → is_move K ≡ true → is_write K ≡ false
move_no_write Change h = absurd (true≢false (sym h))
move_no_write Put_back h = absurd (true≢false (sym h))
move_no_write _ h = refl

move_is_page : (K : Kind) → is_move K ≡ true → is_page K ≡ true
move_is_page Read h = absurd (true≢false (sym h))
move_is_page Commit h = absurd (true≢false (sym h))
move_is_page Abort h = absurd (true≢false (sym h))
move_is_page _ h = refl

at_shape : (s : State) (w : ℕ) (a : Worker) (ps : List ℕ) → ◌≡◌ {A = Worker} (record a { clock = (at_pages s w a ps).clock; debt = (at_pages s w a ps).debt }) (at_pages s w a ps)
at_shape s w a [] = refl
at_shape s w a (p ∷ ps) = ap (λ (z : Worker). record z { clock = (at_pages s w a (p ∷ ps)).clock; debt = (at_pages s w a (p ∷ ps)).debt }) (at_shape s w a ps)

pub inv_move : (g : Opening) (s : State) → Inv g s → (K : Kind) (w : ℕ) (ps : List ℕ) (y : Record) → (s.worker w).is_open ≡ true → is_move K ≡ true → refs_of s ps ≡ page_records.refs_as (page_kind K) y →
    FitsAs g.format (page_kind K) (nodes_of s) y → (is_purge K ≡ true → (k : ℕ) → pairs.is_in k y.keys ≡ true → is_settled g s k ≡ true) → Inv g (moves s K w ps y)
inv_move g s i K w ps y op mx xr fm settled = subst (λ (z : Worker). Inv g (records_in s w z (page_entry K s w z ps y) z.changes)) (at_shape s w (s.worker w) ps) (
    inv_records g s i w ps a.clock a.debt x (s.worker w).changes next
    (λ k j. undone_at (s.worker w).changes (values_of g (x ∷ s.entries)) (values_of g s.entries) j (history_off g (flushed_by_all g s) j x s.entries k.history (subst (λ (n : ℕ → Node). Fits g.format n x) (same_nodes g s k) fit) (and_left (is_write K) (0 == j) (move_no_write K mx)))))
  where
    a : Worker
    a = at_pages s w (s.worker w) ps

    a0 : Worker
    a0 = record (s.worker w) { clock = a.clock; debt = a.debt }

    x : Entry
    x = page_entry K s w a0 ps y

    t : ((s.worker w).clock ≤ a.clock) × ((s.worker w).debt ≤ a.debt) × (a.debt ≤ a.clock) × (a.floor ≤ flushed_by_all g s) × ((p : ℕ) → Has p ps → ((s.page p).gsn ≤ a.clock) × (((s.page p).last ≡ w) ⊎ ((s.page p).gsn ≤ max a.debt (flushed_by_all g s))))
    t = touched_all s w (flushed_by_all g s) (s.worker w) ps (stamp_flushed g s i) (i.workers w).floor (i.workers w).debt

    fit : Fits g.format (nodes_of s) x
    fit = record {
      page = λ _. record { refs = xr; key = λ z. absurd (true≢false (sym z ∙ move_no_write K mx)); fits = fm };
      none = λ z. absurd (true≢false (sym (move_is_page K mx) ∙ z));
    }

    next : IsNext g s w ps a.clock a.debt x (s.worker w).changes
    next = record {
      is_open = op;
      clock = t.0;
      debt = t.1;
      low = t.2;
      met = t.4;
      log = refl;
      txn = refl;
      number = omega arith;
      no_end = move_no_end K mx;
      is_record = move_is_record K mx;
      refs = refl;
      fits = fit;
      call = λ c. absurd (true≢false (sym c ∙ move_no_call K mx));
      hold = λ c. absurd (true≢false (sym c ∙ move_no_call K mx));
      changes = λ c ic. ((i.workers w).changes op c ic, (i.workers w).words op c ic);
      settled = settled;
    }

pub names_to : (v : Node) (c : ℕ) → check.names_page v c ≡ true → (z : pairs.Span) × page_tree.Names v z × (z.child ≡ c)
names_to v c h =
    let a = and_parts (v.live && ltb 0 v.level) (any (λ (z : pairs.Span). z.child == c) (pairs.spans v.pairs v.high)) h in
    let b = and_parts v.live (ltb 0 v.level) a.0 in
    let e = any_has (λ (z : pairs.Span). z.child == c) (pairs.spans v.pairs v.high) a.1 in
    (e.0, record { live = b.0; inner = ltb-true 0 v.level b.1; has = e.1 }, eqb-true e.0.child c e.2)

not_to : (b : Bool) → not b ≡ true → b ≡ false
not_to false h = refl
not_to true h = absurd (true≢false (sym h))

pub inv_split : (g : Opening) (s : State) → Inv g s → (w l r q j : ℕ) → needs g s (Event.Split w l r q j) ≡ true → Inv g (happens g s (Event.Split w l r q j))
inv_split g s i w l r q j m =
    let n = nodes_of s in
    let p0 = and_parts (s.worker w).is_open (may_split g n l r q j) m in
    let p' = and_parts (length (n l).pairs == g.format.room) (ltb r g.format.pages && (not (n r).live && (ltb q g.format.pages && (check.names_page (n q) l && (ltb (length (n q).pairs) g.format.room && (ltb 0 j && ltb j (length (n l).pairs))))))) p0.1 in
    let p1 = and_parts (ltb r g.format.pages) (not (n r).live && (ltb q g.format.pages && (check.names_page (n q) l && (ltb (length (n q).pairs) g.format.room && (ltb 0 j && ltb j (length (n l).pairs)))))) p'.1 in
    let p2 = and_parts (not (n r).live) (ltb q g.format.pages && (check.names_page (n q) l && (ltb (length (n q).pairs) g.format.room && (ltb 0 j && ltb j (length (n l).pairs))))) p1.1 in
    let p3 = and_parts (ltb q g.format.pages) (check.names_page (n q) l && (ltb (length (n q).pairs) g.format.room && (ltb 0 j && ltb j (length (n l).pairs)))) p2.1 in
    let p4 = and_parts (check.names_page (n q) l) (ltb (length (n q).pairs) g.format.room && (ltb 0 j && ltb j (length (n l).pairs))) p3.1 in
    let p5 = and_parts (ltb (length (n q).pairs) g.format.room) (ltb 0 j && ltb j (length (n l).pairs)) p4.1 in
    let p6 = and_parts (ltb 0 j) (ltb j (length (n l).pairs)) p5.1 in
    inv_move g s i Split w (l ∷ r ∷ q ∷ []) (record_needs.split_record n (gsns_of s) l r q j) p0.0 refl refl
    ((page_needs.every_need g.format n (gsns_of s) i.tree).split l r q j (record {
      right = ltb-true r g.format.pages p1.0;
      empty = not_to (n r).live p2.0;
      parent = ltb-true q g.format.pages p3.0;
      named = names_to (n q) l p4.0;
      room = ltb-true (length (n q).pairs) g.format.room p5.0;
      middle = (ltb-true 0 j p6.0, ltb-true j (length (n l).pairs) p6.1);
    })) (λ z. absurd (true≢false (sym z)))

pub inv_lift : (g : Opening) (s : State) → Inv g s → (w c : ℕ) → needs g s (Event.Lift w c) ≡ true → Inv g (happens g s (Event.Lift w c))
inv_lift g s i w c m =
    let n = nodes_of s in
    let p0 = and_parts (s.worker w).is_open (may_lift g n c) m in
    let p' = and_parts (length (n 0).pairs == g.format.room) (ltb c g.format.pages && (not (n c).live && ltb (n 0).level g.format.levels)) p0.1 in
    let p1 = and_parts (ltb c g.format.pages) (not (n c).live && ltb (n 0).level g.format.levels) p'.1 in
    let p2 = and_parts (not (n c).live) (ltb (n 0).level g.format.levels) p1.1 in
    inv_move g s i Lift w (0 ∷ c ∷ []) (record_needs.lift_record n (gsns_of s) c) p0.0 refl refl
    ((page_needs.every_need g.format n (gsns_of s) i.tree).lift c (record { page = ltb-true c g.format.pages p1.0; empty = not_to (n c).live p2.0; low = ltb-true (n 0).level g.format.levels p2.1 })) (λ z. absurd (true≢false (sym z)))

pub inv_join : (g : Opening) (s : State) → Inv g s → (w l r q : ℕ) → needs g s (Event.Join w l r q) ≡ true → Inv g (happens g s (Event.Join w l r q))
inv_join g s i w l r q m =
    let n = nodes_of s in
    let p0 = and_parts (s.worker w).is_open (may_join g n l r q) m in
    let p1 = and_parts (ltb q g.format.pages) (check.names_page (n q) l && (check.names_page (n q) r && (((n l).high == (n r).low) && leb (length (n l).pairs + length (n r).pairs) g.joined))) p0.1 in
    let p2 = and_parts (check.names_page (n q) l) (check.names_page (n q) r && (((n l).high == (n r).low) && leb (length (n l).pairs + length (n r).pairs) g.joined)) p1.1 in
    let p3 = and_parts (check.names_page (n q) r) (((n l).high == (n r).low) && leb (length (n l).pairs + length (n r).pairs) g.joined) p2.1 in
    let p4 = and_parts ((n l).high == (n r).low) (leb (length (n l).pairs + length (n r).pairs) g.joined) p3.1 in
    let lq = ltb-true q g.format.pages p1.0 in
    let a = names_to (n q) l p2.0 in let b = names_to (n q) r p3.0 in
    let ea = page_needs.span_is g.format n i.tree q l a.0 lq a.1 a.2 in
    let eb = page_needs.span_is g.format n i.tree q r b.0 lq b.1 b.2 in
    let meet = eqb-true (n l).high (n r).low p4.0 in
    inv_move g s i Join w (l ∷ r ∷ q ∷ []) (record_needs.join_record n (gsns_of s) l r q) p0.0 refl refl
    (record {
      parent = lq;
      left_named = subst (λ (h : ℕ). page_tree.Names (n q) (record { child = l; low = (n l).low; high = h })) meet (subst (page_tree.Names (n q)) ea a.1);
      right_named = subst (page_tree.Names (n q)) eb b.1;
      pairs = refl;
      room = (let u = leb-true (length (n l).pairs + length (n r).pairs) g.joined p4.1 in let v = g.fit in omega arith);
    }) (λ z. absurd (true≢false (sym z)))

single_to : (xs : List Pair) (c : ℕ) → is_single xs c ≡ true → (k : ℕ) × (xs ≡ record { key = k; word = c } ∷ [])
single_to [] c h = absurd (true≢false (sym h))
single_to (x ∷ xs) c h = let a = and_parts (x.word == c) (check.is_nil xs) h in
    (x.key, ap (λ (z : List Pair). x ∷ z) (page_check.nil_is xs a.1) ∙ ap (λ (z : ℕ). record { key = x.key; word = z } ∷ []) (eqb-true x.word c a.0))

pub inv_drop : (g : Opening) (s : State) → Inv g s → (w c : ℕ) → needs g s (Event.Drop w c) ≡ true → Inv g (happens g s (Event.Drop w c))
inv_drop g s i w c m =
    let n = nodes_of s in
    let p0 = and_parts (s.worker w).is_open (may_drop n c) m in
    let p1 = and_parts (ltb 0 (n 0).level) (is_single (n 0).pairs c) p0.1 in
    inv_move g s i Drop w (0 ∷ c ∷ []) (record_needs.drop_record n (gsns_of s) c) p0.0 refl refl
    ((page_needs.every_need g.format n (gsns_of s) i.tree).drop c (record { inner = ltb-true 0 (n 0).level p1.0; one = single_to (n 0).pairs c p1.1 })) (λ z. absurd (true≢false (sym z)))

dead_to : (f : page_nodes.Format) (z : Option ℕ) → is_dead f z ≡ true → z ≡ Some f.dead
dead_to f None h = absurd (true≢false (sym h))
dead_to f (Some x) h = ap (λ (y : ℕ). Some y) (eqb-true x f.dead h)

all_dead : (p : ℕ → Bool) (ks : List ℕ) → redo_of.all_keys p ks ≡ true → (k : ℕ) → pairs.is_in k ks ≡ true → p k ≡ true
all_dead p [] h k e = absurd (true≢false (sym e))
all_dead p (j ∷ ks) h k e = go (all_dead p ks (and_parts (p j) (redo_of.all_keys p ks) h).1 k) (j == k) refl
  where
    go : (pairs.is_in k ks ≡ true → p k ≡ true) → (b : Bool) → (j == k) ≡ b → p k ≡ true
    go ih true q = ap p (sym (eqb-true j k q)) ∙ (and_parts (p j) (redo_of.all_keys p ks) h).0
    go ih false q = ih (sym (cond-false (j == k) true (pairs.is_in k ks) q) ∙ e)

pub inv_purge : (g : Opening) (s : State) → Inv g s → (w p : ℕ) (keys : List ℕ) → needs g s (Event.Purge w p keys) ≡ true → Inv g (happens g s (Event.Purge w p keys))
inv_purge g s i w p keys m =
    let n = nodes_of s in
    let p0' = and_parts (s.worker w).is_open (may_purge g n p keys && redo_of.all_keys (λ k. is_settled g s k) keys) m in
    let p0'' = and_parts (may_purge g n p keys) (redo_of.all_keys (λ k. is_settled g s k) keys) p0'.1 in
    let p1 = and_parts (ltb p g.format.pages) ((n p).live && (((n p).level == 0) && redo_of.all_keys (λ k. is_dead g.format (pairs.find k (n p).pairs)) keys)) p0''.0 in
    let p2 = and_parts (n p).live (((n p).level == 0) && redo_of.all_keys (λ k. is_dead g.format (pairs.find k (n p).pairs)) keys) p1.1 in
    let p3 = and_parts ((n p).level == 0) (redo_of.all_keys (λ k. is_dead g.format (pairs.find k (n p).pairs)) keys) p2.1 in
    inv_move g s i Purge w (p ∷ []) (record_needs.purge_record (gsns_of s) p keys) p0'.0 refl refl
    (record {
      page = ltb-true p g.format.pages p1.0;
      live = p2.0;
      leaf = eqb-true (n p).level 0 p3.0;
      dead = λ k e. dead_to g.format (pairs.find k (n p).pairs) (all_dead (λ k. is_dead g.format (pairs.find k (n p).pairs)) keys p3.1 k e);
    }) (λ _ k e. all_dead (λ k. is_settled g s k) keys p0''.1 k e)

pub inv_reads : (g : Opening) (s : State) → Inv g s → (w p k : ℕ) → may_read g s w p k ≡ true → Inv g (reads g s w p k)
inv_reads g s i w p k m =
    inv_entry g s i w a x s.page refl i.stamps i.tree recorded enters
    (let q = t.1 in omega arith) (rw (open_top (s.worker w) op, open_top a op) (let q = t.0 in omega arith))
    (own_more g F s.floor (s.flushed w) h s.row w a x a.clock a.changes (worker_raised g F s.floor (s.flushed w) h s.row w (s.worker w) a.clock a.debt t.0 t.1 t.2 o) refl refl refl op (omega arith) (omega arith)
    (λ q tq. absurd (true≢false (sym tq))) (λ _. (hold, λ kw. alone kw)) (λ c ic. (o.changes op c ic, o.words op c ic))) (λ kr. absurd (true≢false (sym kr)))
    (λ z. told_entry g s i z w a x s.page refl (λ q. z.pages q) (entered z) enters (own_undo g h w a x a.clock a.changes refl refl (λ j. undone_at a.changes (values_of g (x ∷ h)) (values_of g h) j refl) (z.undo w)))
  where
    h : List Entry
    h = s.entries

    F : ℕ
    F = flushed_by_all g s

    a : Worker
    a = at_pages s w (s.worker w) (p ∷ [])

    x : Entry
    x = read_entry w a k (word_in g.format (s.page p).node k) (is_held_by (s.row (g.row_of k)).holder w)

    -- it tells whether the row is held alone
    alone : claims x ≡ true → (s.row (g.row_of k)).holder ≡ Some w
    alone c = held_to (s.row (g.row_of k)).holder w (go (is_held_by (s.row (g.row_of k)).holder w) c)
      where
        go : (b : Bool) → (cond b 1 0 == 1) ≡ true → b ≡ true
        go true e = refl
        go false e = absurd (true≢false (sym e))

    o : WorkerOk g F s.floor (s.flushed w) h s.row w (s.worker w)
    o = i.workers w

    op : (s.worker w).is_open ≡ true
    op = (and_parts (s.worker w).is_open (holds_row (s.row (g.row_of k)) w && (ltb p g.format.pages && holds (s.page p).node k)) m).0

    hold : Holds (s.row (g.row_of k)) w
    hold = holds_to (s.row (g.row_of k)) w (and_parts (holds_row (s.row (g.row_of k)) w) (ltb p g.format.pages && holds (s.page p).node k) (and_parts (s.worker w).is_open (holds_row (s.row (g.row_of k)) w && (ltb p g.format.pages && holds (s.page p).node k)) m).1).0

    own_leaf : (ltb p g.format.pages ≡ true) × (holds (s.page p).node k ≡ true)
    own_leaf = and_parts (ltb p g.format.pages) (holds (s.page p).node k) (and_parts (holds_row (s.row (g.row_of k)) w) (ltb p g.format.pages && holds (s.page p).node k) (and_parts (s.worker w).is_open (holds_row (s.row (g.row_of k)) w && (ltb p g.format.pages && holds (s.page p).node k)) m).1).1

    t : ((s.worker w).clock ≤ a.clock) × ((s.worker w).debt ≤ a.debt) × (a.debt ≤ a.clock) × (a.floor ≤ F) × ((q : ℕ) → Has q (p ∷ []) → ((s.page q).gsn ≤ a.clock) × (((s.page q).last ≡ w) ⊎ ((s.page q).gsn ≤ max a.debt F)))
    t = touched_all s w F (s.worker w) (p ∷ []) (stamp_flushed g s i) o.floor o.debt

    enters : (j : ℕ) → MayEnter g j (s.row j) x
    enters j nk e = (rw (← e) hold, λ kw. rw (← e) (alone kw))

    recorded : Recorded g F x h
    recorded = record {
      log = o.is_log op;
      later = λ kr. absurd (true≢false (sym kr));
      logged = λ q tq. absurd (true≢false (sym tq));
      prev = λ f jf. absurd jf;
      rises = λ q tq. absurd (true≢false (sym tq));
      still_open = λ d id kd sd. o.unended op d id kd sd.0 sd.1;
      purged = λ c. absurd (true≢false (sym c));
      locked = λ kw. absurd (true≢false (sym kw));
      guarded = λ _ y iy cy yw row. elim ((i.rows (g.row_of k)).touched w hold y iy (write_claims y yw) row) [
        | inl l ↦ elim (o.past y iy l) [ inl q ↦ inl (l, q.1) | inr d ↦ inr d ]
        | inr d ↦ inr d.0
      ];
      closes = λ ke. absurd (true≢false (sym ke));
    }

    entered : IsTold g s → Entered g F x h
    entered z = record {
      recorded = recorded;
      fits = record { page = λ kw. absurd (true≢false (sym kw)); none = λ _ q. refl };
      answers = λ _. ap (λ (v : Contents). word_in g.format v.node k) (z.pages p) ∙ sym (lookup_at g.format (nodes (page_at g h)) k p (history_parted g F h z.history) (ltb-true p g.format.pages own_leaf.0) (subst (λ (v : Contents). holds v.node k ≡ true) (z.pages p) own_leaf.1));
      aborts = λ ke. absurd (true≢false (sym ke));
    }

-- ## Ends

pub need_covers : (f debt F : ℕ) → f ≤ F → (max debt F ≤ max (cond (ltb f debt) debt 0) F) × (cond (ltb f debt) debt 0 ≤ debt)
need_covers f debt F l = elim (cases_lt f debt) [ inl q ↦ rw (lt-ltb f debt q) (omega arith, omega arith) | inr q ↦ rw (le-ltb f debt q) (omega arith, omega arith) ]

pub inv_end : (g : Opening) (s : State) → Inv g s → (w : ℕ) (commit : Bool) (f : ℕ) → needs g s (Event.End w commit f) ≡ true → Inv g (happens g s (Event.End w commit f))
inv_end g s i w commit f m =
    inv_entry g s i w (finished a n) x s.page refl i.stamps i.tree recorded
    enters (omega arith) (rw (open_top a op) (omega arith)) own
    (λ _. let z0 = o.based (o.is_log op) in let z1 = o.flushed in let z2 = i.cuts.low in omega arith)
    (λ t. told_entry g s i t w (finished a n) x s.page refl (λ p. t.pages p) (entered t) enters (λ q. absurd (true≢false (sym q))))
  where
    h : List Entry
    h = s.entries

    F : ℕ
    F = flushed_by_all g s

    a : Worker
    a = s.worker w

    kind : Kind
    kind = if commit then Commit else Abort

    x : Entry
    x = end_entry kind w a f

    n : ℕ
    n = suc a.clock

    o : WorkerOk g F s.floor (s.flushed w) h s.row w a
    o = i.workers w

    parts : (a.is_open ≡ true) × ((leb f F && (commit || is_empty a.changes)) ≡ true)
    parts = let q = and_parts a.is_open (leb a.floor f && (leb f F && (commit || is_empty a.changes))) m in (q.0, (and_parts (leb a.floor f) (leb f F && (commit || is_empty a.changes)) q.1).1)

    op : a.is_open ≡ true
    op = parts.0

    fF : f ≤ F
    fF = leb-true f F (and_parts (leb f F) (commit || is_empty a.changes) parts.1).0

    nd : (max a.debt F ≤ max x.need F) × (x.need ≤ a.debt)
    nd = need_covers f a.debt F fF

    no_write : (b : Bool) → is_write (if b then Commit else Abort) ≡ false
    no_write true = refl
    no_write false = refl

    no_call : (b : Bool) → is_call (if b then Commit else Abort) ≡ false
    no_call true = refl
    no_call false = refl

    no_clean : (b : Bool) → is_purge (if b then Commit else Abort) ≡ false
    no_clean true = refl
    no_clean false = refl

    no_page : (b : Bool) → is_page (if b then Commit else Abort) ≡ false
    no_page true = refl
    no_page false = refl

    ends_too : (b : Bool) → is_end (if b then Commit else Abort) ≡ true
    ends_too true = refl
    ends_too false = refl

    never : {A : Type 0} → is_write kind ≡ true → A
    never k = absurd (true≢false (sym k ∙ no_write commit))

    empty : (b : Bool) → is_commit (if b then Commit else Abort) ≡ false → (cs : List Entry) → (b || is_empty cs) ≡ true → (mm : ℕ → ℕ) → undone cs mm ≡ mm
    empty true k cs e mm = absurd (true≢false k)
    empty false k [] e mm = refl
    empty false k (c ∷ cs) e mm = absurd (true≢false (sym e))

    enters : (j : ℕ) → MayEnter g j (s.row j) x
    enters j nk e = absurd (true≢false (sym nk ∙ no_call commit))

    recorded : Recorded g F x h
    recorded = record {
      log = o.is_log op;
      later = λ _ y iy l. let q = (o.numbers y iy l).0 in omega arith;
      logged = λ q tq. absurd (true≢false (sym tq));
      prev = λ f jf. absurd jf;
      rises = λ q tq. absurd (true≢false (sym tq));
      still_open = λ d id kd sd. o.unended op d id kd sd.0 sd.1;
      purged = λ c. absurd (true≢false (sym c ∙ no_clean commit));
      locked = λ k. never k;
      guarded = λ c. absurd (true≢false (sym c ∙ no_call commit));
      closes = λ _. record {
        pages = pages_more w (max a.debt F) (max x.need F) h nd.0 o.pages;
        rows = λ r ir sr cr y iy ky row. elim ((i.rows (g.row_of r.key)).touched w (used r ir sr cr).0 y iy ky row) [
          | inl l ↦ own y iy l
          | inr d ↦ inr (d.0, covered_more w (max a.debt F) (max x.need F) d.0.end nd.0 d.2, below d.0.end.number d.1)
        ];
        order = λ r ir sr kr y iy ky row. elim ((i.rows (g.row_of r.key)).sole w ((used r ir sr (claims_call r kr)).1 kr) y iy ky row) [
          | inl l ↦ elim (own y iy l) [ inl q ↦ inl q | inr d ↦ inr (d.0, d.2) ]
          | inr d ↦ inr (d.0, below d.0.end.number d.1)
        ];
        ends = λ d id kd l. let q = (o.ends d id kd l).1 in let p = nd.0 in omega arith;
        need = let q = nd.1 in let p = o.debt in omega arith;
      };
    }
      where
        used : (r : Entry) → Has r h → SameTxn r x → is_call r.kind ≡ true → Holds (s.row (g.row_of r.key)) w × (claims r ≡ true → (s.row (g.row_of r.key)).holder ≡ Some w)
        used r ir sr cr = o.used op r ir cr sr.0 sr.1

        below : (j : ℕ) → j ≤ top_of a → j < n
        below j l = let q : j ≤ a.clock = subst (λ t. j ≤ t) (open_top a op) l in omega arith

        own : (y : Entry) → Has y h → y.log ≡ w → SameTxn y x ⊎ ((d : EndOf h y) × Covered w (max x.need F) d.end × (d.end.number < n))
        own y iy l = elim (o.past y iy l) [
          | inl q ↦ inl (l, q.1)
          | inr d ↦ inr (d, inl (d.same.0 ∙ l), let q = (o.numbers d.end d.stands (d.same.0 ∙ l)).0 in omega arith)
        ]

    entered : IsTold g s → Entered g F x h
    entered t = record {
      recorded = recorded;
      fits = record { page = λ k. absurd (true≢false (sym k ∙ no_page commit)); none = λ _ q. refl };
      answers = λ c. absurd (true≢false (sym c ∙ no_call commit));
      aborts = λ _ kc k. sym (ap (λ (m : ℕ → ℕ). m k) (empty commit kc a.changes (and_parts (leb f F) (commit || is_empty a.changes) parts.1).1 (values_of g h))) ∙ t.undo w op k;
    }

    own : WorkerOk g F s.floor (s.flushed w) (x ∷ h) s.row w (finished a n)
    own = record {
      floor = o.floor;
      debt = let e = o.debt in omega arith;
      end = omega arith;
      flushed = let e = o.flushed in omega arith;
      based = o.based;
      in_log = elim o.in_log [ inl e ↦ inl e | inr e ↦ inr (e.0, inr e.1, e.2, e.3, e.4) ];
      numbers = numbers;
      ends = ends;
      past = past;
      unended = λ q. absurd (true≢false (sym q));
      pages = (λ l p tp. absurd (true≢false (sym tp)), o.pages);
      is_log = λ q. absurd (true≢false (sym q));
      used = λ q. absurd (true≢false (sym q));
      changes = λ q. absurd (true≢false (sym q));
      words = λ q. absurd (true≢false (sym q));
    }
      where
        numbers : (r : Entry) → Has r (x ∷ h) → r.log ≡ w → (r.number ≤ n) × (r.txn ≤ a.txn)
        numbers r (inl e) l = (rw e (omega arith), rw e (omega arith))
        numbers r (inr ir) l = let q = o.numbers r ir l in (omega arith, q.1)

        ends : (e : Entry) → Has e (x ∷ h) → is_end e.kind ≡ true → e.log ≡ w → (e.number ≤ n) × (e.need ≤ max a.debt F)
        ends e (inl q) k l = (rw q (omega arith), rw q (let z = nd.1 in omega arith))
        ends e (inr ie) k l = let q = o.ends e ie k l in let z = o.end in (omega arith, q.1)

        past : (r : Entry) → Has r (x ∷ h) → r.log ≡ w → ((false ≡ true) × (r.txn ≡ a.txn)) ⊎ EndOf (x ∷ h) r
        past r (inl e) l = inr (record { end = x; stands = inl refl; is_end = ends_too commit; same = (sym l, ap (λ (y : Entry). y.txn) (sym e)) })
        past r (inr ir) l = elim (o.past r ir l) [
          | inl q ↦ inr (record { end = x; stands = inl refl; is_end = ends_too commit; same = (sym l, sym q.1) })
          | inr d ↦ inr (end_more h r x d)
        ]
