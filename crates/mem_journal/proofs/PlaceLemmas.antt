-- Calls of a place in memory.
use Rattle.std.proofs.Common.{◌≡◌, ℕ, zero, suc, ◌-◌, ◌<◌, ◌≤◌, ◌^◌, min, Bool, true, false, cond, not, ◌&&◌, ◌||◌, ◌==◌, leb, ltb, List, [], ◌∷◌, ◌++◌, length, Option, Some, None, refl, sym, ap, ap₂, ◌∙◌, subst, arith, true≢false, append-nil}
use Rattle.std.proofs.lemmas.Bool.{cond-true, cond-false, and_from, eq-eqb, le-leb, lt-ltb, ltb-true}
use Rattle.page_model.specs.Nodes.{holds}
use Rattle.page_model.specs.Pairs.{Pair, find}
use Rattle.page_model.specs.Redo.{is_some}
use Rattle.page_model.specs.Tree.{value_of}
use Rattle.rfa_model.specs.Reaches.{least}
use Rattle.core_commit.specs.image_model.Entries.{Entry}
use Rattle.core_commit.specs.core_state.States.{State, start, flushed_by_all, is_hot}
use Rattle.core_commit.specs.core_state.Openings.{Opening}
use Rattle.core_commit.specs.core_state.Events.{Event}
use Rattle.core_commit.specs.core_state.Lists.{is_empty}
use Rattle.core_commit.specs.core_state.Needs.{is_worker, holds_row, is_held_by, is_reader, may_hold, may, is_value, value_in}
use Rattle.core_commit.specs.core_state.Steps.{happens, state_after}
use Rattle.core_commit.proofs.core_state.Runs.{run_more}
use Rattle.core_commit.proofs.FloorLemmas.{every_floor}
use Rattle.core_commit.proofs.HolderLemmas.{every_holder}
use Rattle.transactions.specs.declared.hindrance.Hindrance.{Hindrance}
use Rattle.transactions.specs.declared.hindrance.Hindrance.TheVariants.{DiskFault}
use Rattle.transactions.specs.declared.hindrance.Mode as modes
use Rattle.transactions.specs.declared.hindrance.Receipt.{Receipt}
use Rattle.transactions.specs.Steps.{is_step_of}
use Rattle.transactions.specs.Kinds.{in_any, in_changes, in_flushes}
use Rattle.transactions.specs.Paths.{Any, Takes, Idles, Flushes, Hindered, is_fault}
use Rattle.transactions.specs.Memory.{mode_of, live_value}
use Rattle.transactions.specs.Answers.{IsReceipt}
use Rattle.transactions.proofs.QuietLemmas.{stepped}
use Rattle.transactions.proofs.RowLemmas.{upd_here}
use Rattle.mem_journal.specs.declared.place.MemJournal.{MemJournal}
use Rattle.mem_journal.specs.Views.{View, view_of, worker_at, IsSession, after_begin, after_lock, after_read, after_write, after_end, after_unlock, after_flush, receipt_at}
use Rattle.mem_journal.specs.Places.{Pictures, Stands, Leaves, Alone, Cause, Waits}
use Rattle.mem_journal.proofs.PictureLemmas as pictures

-- ## Paths

abbrev pub nothing : (K : ℕ → Event → Bool) (g : Opening) (es : List Event) (w : ℕ) (latched after : List ℕ) (a : MemJournal) → Stands g es latched a → Idles Stands Leaves Alone K g es w after a a
nothing K g es w latched after a s = record { more = []; goes = record { met = tt; stands = subst (λ (l : List Event). Stands g l after a) (sym (append-nil es)) s; leaves = tt; alone = refl }; quiet = tt; only = λ h. tt; kinds = tt }

-- nothing was done
pub hindered : (K : ℕ → Event → Bool) (g : Opening) (es : List Event) (w : ℕ) (May : List Event → Type 0) (latched : List ℕ) (h : Hindrance) (a : MemJournal) → is_fault h ≡ false → Cause h g es a a → Stands g es latched a → Hindered Stands Leaves Alone K g es Cause w May latched h a a
hindered K g es w May latched h a sound cause s = record { cause = cause; breaks = λ f. absurd (true≢false (sym f ∙ sound)); idles = λ f. nothing K g es w latched latched a s }

-- memory or numbers were wanting
pub broken : (K : ℕ → Event → Bool) (g : Opening) (es : List Event) (w : ℕ) (May : List Event → Type 0) (latched : List ℕ) (a b : MemJournal) → May [] → Hindered Stands Leaves Alone K g es Cause w May latched DiskFault a b
broken K g es w May latched a b none = record { cause = tt; breaks = λ f. record { more = []; met = tt; leaves = tt; may = none; only = λ h. tt; kinds = tt }; idles = λ f. absurd (true≢false f) }

stands_step : (g : Opening) (es : List Event) (e : Event) (v : View) (b : MemJournal) → may g (state_after g es) e ≡ true → Pictures g (happens g (state_after g es) e) v → view_of b ≡ v → Pictures g (state_after g (es ++ e ∷ [])) (view_of b)
stands_step g es e v b m p q = subst (λ (x : View). Pictures g (state_after g (es ++ e ∷ [])) x) (sym q) (subst (λ (t : State). Pictures g t v) (sym (run_more g (start g) es (e ∷ []) ∙ stepped g (state_after g es) e m)) p)

taken : (K : ℕ → Event → Bool) (g : Opening) (es : List Event) (w : ℕ) (e : Event) (At : State → Type 0) (latched after : List ℕ) (a b : MemJournal) (v : View) → is_step_of w e ≡ true → K w e ≡ true → may g (state_after g es) e ≡ true → Pictures g (happens g (state_after g es) e) v → view_of b ≡ v → At (state_after g es) →
    Takes Stands Leaves Alone K g es w e At after a b
taken K g es w e At latched after a b v own kind m p q at = record {
  before = [];
  after = [];
  goes = record { met = (m, tt); stands = stands_step g es e v b m p q; leaves = tt; alone = refl };
  quiet_before = tt;
  quiet_after = tt;
  at = at;
  only = λ h. ((λ s. own), tt);
  kinds = (kind, tt);
}

-- ## Needs

node_holds : (g : Opening) (s : State) (v : View) (k : ℕ) → Pictures g s v → k < v.keys → holds (s.page 0).node k ≡ true
node_holds g s v k p l =
    and_from ((s.page 0).node.live && ((s.page 0).node.level == 0)) ((s.page 0).node.live && (leb (s.page 0).node.low k && ltb k (s.page 0).node.high))
    (and_from (s.page 0).node.live ((s.page 0).node.level == 0) p.live (eq-eqb (s.page 0).node.level 0 p.level))
    (and_from (s.page 0).node.live (leb (s.page 0).node.low k && ltb k (s.page 0).node.high) p.live
    (and_from (leb (s.page 0).node.low k) (ltb k (s.page 0).node.high) (le-leb (s.page 0).node.low k (let e = p.low in omega arith)) (lt-ltb k (s.page 0).node.high (let e = p.high in omega arith))))

hot : (g : Opening) (s : State) (v : View) → Pictures g s v → (is_hot (s.place 0) && true) ≡ true
hot g s v p = ap (λ (b : Bool). b && true) p.hot

same_value : (o : Option ℕ) → is_value o o ≡ true
same_value None = refl
same_value (Some x) = eq-eqb x x refl

value_live : (g : Opening) (s : State) (v : View) (k : ℕ) → Pictures g s v → value_in g.format (s.page 0).node k ≡ live_value (find k v.pairs)
value_live g s v k p = ap (λ (ps : List Pair). value_of g.format (find k ps)) p.pairs ∙ go (find k v.pairs)
  where
    go : (o : Option ℕ) → value_of g.format o ≡ live_value o
    go None = refl
    go (Some x) = ap (λ (d : ℕ). cond (ltb x d) (Some x) None) p.dead

pages : (g : Opening) (s : State) (v : View) → Pictures g s v → ltb 0 g.format.pages ≡ true
pages g s v p = lt-ltb 0 g.format.pages p.pages

may_read : (g : Opening) (s : State) (v : View) (w k : ℕ) (answer : Option ℕ) → Pictures g s v → k < v.keys → answer ≡ live_value (find k v.pairs) → (s.worker w).is_open ≡ true → holds_row (s.row (g.row_of k)) w ≡ true → may g s (Event.Read w 0 k answer) ≡ true
may_read g s v w k answer p l e o h =
    and_from (is_hot (s.place 0) && true) (Rattle.core_commit.specs.core_state.Needs.may_read g s w 0 k && is_value answer (value_in g.format (s.page 0).node k)) (hot g s v p)
    (and_from (Rattle.core_commit.specs.core_state.Needs.may_read g s w 0 k) (is_value answer (value_in g.format (s.page 0).node k))
    (and_from (s.worker w).is_open (holds_row (s.row (g.row_of k)) w && (ltb 0 g.format.pages && holds (s.page 0).node k)) o
    (and_from (holds_row (s.row (g.row_of k)) w) (ltb 0 g.format.pages && holds (s.page 0).node k) h (and_from (ltb 0 g.format.pages) (holds (s.page 0).node k) (pages g s v p) (node_holds g s v k p l))))
    (ap₂ is_value e (value_live g s v k p) ∙ same_value (live_value (find k v.pairs))))

may_change : (g : Opening) (s : State) (v : View) (w k x : ℕ) → Pictures g s v → k < v.keys → x ≤ 2 ^ 63 → (is_some (find k v.pairs) || ltb (length v.pairs) v.places) ≡ true →
    (s.worker w).is_open ≡ true → length (s.worker w).changes < g.changes → is_held_by (s.row (g.row_of k)).holder w ≡ true → may g s (Event.Change w 0 k x) ≡ true
may_change g s v w k x p l small fits o few held =
    let n = (s.page 0).node in
    let has = is_some (find k n.pairs) in
    let room = ltb (length n.pairs) g.format.room in
    let fit : (is_some (find k n.pairs) || ltb (length n.pairs) g.format.room) ≡ true = ap₂ (λ (ps : List Pair) (m : ℕ). is_some (find k ps) || ltb (length ps) m) p.pairs p.room ∙ fits in
    let put = ltb 0 g.format.pages && (holds n k && (leb x g.format.dead && (has || room))) in
    and_from (is_hot (s.place 0) && true) (ltb (length (s.worker w).changes) g.changes && ((s.worker w).is_open && (is_held_by (s.row (g.row_of k)).holder w && put))) (hot g s v p)
    (and_from (ltb (length (s.worker w).changes) g.changes) ((s.worker w).is_open && (is_held_by (s.row (g.row_of k)).holder w && put)) (lt-ltb (length (s.worker w).changes) g.changes few)
    (and_from (s.worker w).is_open (is_held_by (s.row (g.row_of k)).holder w && put) o
    (and_from (is_held_by (s.row (g.row_of k)).holder w) put held
    (and_from (ltb 0 g.format.pages) (holds n k && (leb x g.format.dead && (has || room))) (pages g s v p)
    (and_from (holds n k) (leb x g.format.dead && (has || room)) (node_holds g s v k p l)
    (and_from (leb x g.format.dead) (has || room) (le-leb x g.format.dead (subst (λ (d : ℕ). x ≤ d) (sym p.dead) small)) fit))))))

may_back : (g : Opening) (s : State) (v : View) (w k : ℕ) (c : Entry) (cs : List Entry) → Pictures g s v → k < v.keys → is_some (find k v.pairs) ≡ true → (s.worker w).is_open ≡ true → (s.worker w).changes ≡ c ∷ cs → c.key ≡ k → may g s (Event.Put_back w 0) ≡ true
may_back g s v w k c cs p l has o e q =
    let n = (s.page 0).node in
    and_from (is_hot (s.place 0) && true) ((s.worker w).is_open && Rattle.core_commit.specs.core_state.Needs.may_put_back g n 0 (s.worker w).changes) (hot g s v p)
    (and_from (s.worker w).is_open (Rattle.core_commit.specs.core_state.Needs.may_put_back g n 0 (s.worker w).changes) o
    (ap (Rattle.core_commit.specs.core_state.Needs.may_put_back g n 0) e
    ∙ and_from (ltb 0 g.format.pages) (holds n c.key && is_some (find c.key n.pairs)) (pages g s v p)
    (and_from (holds n c.key) (is_some (find c.key n.pairs)) (ap (holds n) q ∙ node_holds g s v k p l) (ap₂ (λ (j : ℕ) (ps : List Pair). is_some (find j ps)) q p.pairs ∙ has))))

-- the least flushed number is the core's
least_same : (f h : ℕ → ℕ) (m n : ℕ) → 1 < m → n < m → ((i : ℕ) → i < m → f i ≡ h i) → least f n ≡ least h n
least_same f h m zero two l e = e 1 two
least_same f h m (suc n) two l e = ap₂ min (e (suc n) l) (least_same f h m n two (omega arith) e)

flushed_is : (g : Opening) (s : State) (v : View) → Pictures g s v → 1 < length v.workers → least (λ w. (worker_at v w).flushed) (length v.workers - 1) ≡ flushed_by_all g s
flushed_is g s v p two =
    let n : length v.workers - 1 ≡ g.workers = (let e = p.workers in omega arith) in
    ap (least (λ w. (worker_at v w).flushed)) n ∙ sym (least_same s.flushed (λ w. (worker_at v w).flushed) (length v.workers) g.workers two (let e = p.workers in omega arith) (λ i l. (p.worker i l).flushed))

floor_low : (g : Opening) (es : List Event) (w : ℕ) → ((state_after g es).worker w).floor ≤ flushed_by_all g (state_after g es)
floor_low g es w = (every_floor g es [] w).flushed_by_all

-- ## Calls

pub begin_done : (g : Opening) (es : List Event) (w f number : ℕ) (a b : MemJournal) → Stands g es [] a → IsSession (view_of a) w → ((state_after g es).worker w).is_open ≡ false → f ≡ least (λ i. (worker_at (view_of a) i).flushed) (length (view_of a).workers - 1) → number ≡ suc (worker_at (view_of a) w).txn →
    view_of b ≡ after_begin (view_of a) w f → (f : ℕ) × Takes Stands Leaves Alone in_any g es w (Event.Begin w f) (λ s. number ≡ suc (s.worker w).txn) [] a b
begin_done g es w f number a b p is o fl n q =
    let s = state_after g es in
    let v = view_of a in
    let all : f ≡ flushed_by_all g s = fl ∙ flushed_is g s v p (omega (arith, is.0, is.1)) in
    let floor : (s.worker w).floor ≤ f = subst (λ (x : ℕ). (s.worker w).floor ≤ x) (sym all) (floor_low g es w) in
    let worker : is_worker g w ≡ true = and_from (ltb 0 w) (leb w g.workers) (lt-ltb 0 w is.0) (le-leb w g.workers (let e = p.workers in omega (arith, is.1, e))) in
    let m : may g s (Event.Begin w f) ≡ true =
    and_from (is_worker g w) (not (s.worker w).is_open && (leb (s.worker w).floor f && leb f (flushed_by_all g s))) worker
    (and_from (not (s.worker w).is_open) (leb (s.worker w).floor f && leb f (flushed_by_all g s)) (ap not o)
    (and_from (leb (s.worker w).floor f) (leb f (flushed_by_all g s)) (le-leb (s.worker w).floor f floor) (le-leb f (flushed_by_all g s) (omega (arith, all))))) in (
      f,
      taken in_any g es w (Event.Begin w f) (λ t. number ≡ suc (t.worker w).txn) [] [] a b (after_begin v w f) (eq-eqb w w refl) refl m (pictures.begins g s v w f p is.1) q (n ∙ ap suc (sym (p.worker w is.1).like.txn)),
    )

pub end_done : (g : Opening) (es : List Event) (w f : ℕ) (commit : Bool) (latched : List ℕ) (r : Receipt) (a b : MemJournal) → Stands g es latched a → IsSession (view_of a) w → ((state_after g es).worker w).is_open ≡ true → (commit ≡ false → ((state_after g es).worker w).changes ≡ []) →
    f ≡ least (λ i. (worker_at (view_of a) i).flushed) (length (view_of a).workers - 1) → r ≡ receipt_at (view_of a) w f → view_of b ≡ after_end (view_of a) w commit f →
    (f : ℕ) × Takes Stands Leaves Alone in_any g es w (Event.End w commit f) (IsReceipt w f r) latched a b
end_done g es w f commit latched r a b p is o back fl n q =
    let s = state_after g es in
    let v = view_of a in
    let all : f ≡ flushed_by_all g s = fl ∙ flushed_is g s v p (omega (arith, is.0, is.1)) in
    let floor : (s.worker w).floor ≤ f = subst (λ (x : ℕ). (s.worker w).floor ≤ x) (sym all) (floor_low g es w) in
    let x = (p.worker w is.1).like in
    let m : may g s (Event.End w commit f) ≡ true =
    and_from (s.worker w).is_open (leb (s.worker w).floor f && (leb f (flushed_by_all g s) && (commit || is_empty (s.worker w).changes))) o
    (and_from (leb (s.worker w).floor f) (leb f (flushed_by_all g s) && (commit || is_empty (s.worker w).changes)) (le-leb (s.worker w).floor f floor)
    (and_from (leb f (flushed_by_all g s)) (commit || is_empty (s.worker w).changes) (le-leb f (flushed_by_all g s) (omega (arith, all))) (none commit back))) in (
      f,
      taken in_any g es w (Event.End w commit f) (IsReceipt w f r) latched latched a b (after_end v w commit f) (eq-eqb w w refl) refl m (pictures.ends g s v w commit f p is.1 is.3) q
          (subst (λ (y : Receipt). IsReceipt w f y s) (sym n) (record { txn = sym x.txn; log = refl; gsn = ap suc (sym x.clock); need = ap (λ (d : ℕ). Rattle.rfa_model.specs.Stamps.need_of d f) (sym x.debt) })),
    )
  where
    none : (c : Bool) → (c ≡ false → ((state_after g es).worker w).changes ≡ []) → (c || is_empty ((state_after g es).worker w).changes) ≡ true
    none true h = refl
    none false h = ap is_empty (h refl)

pub lock_done : (g : Opening) (es : List Event) (w i : ℕ) (mode : modes.Mode) (a b : MemJournal) → Stands g es [] a → IsSession (view_of a) w → i < length (view_of a).rows → ((state_after g es).worker w).is_open ≡ true → may_hold ((state_after g es).row i) w (mode_of mode) ≡ true →
    view_of b ≡ after_lock (view_of a) w i mode → Takes Stands Leaves Alone in_any g es w (Event.Lock w i (mode_of mode)) Any [] a b
lock_done g es w i mode a b p is l o h q =
    taken in_any g es w (Event.Lock w i (mode_of mode)) Any [] [] a b (after_lock (view_of a) w i mode) (eq-eqb w w refl) refl (and_from ((state_after g es).worker w).is_open (may_hold ((state_after g es).row i) w (mode_of mode)) o h)
    (pictures.locks g (state_after g es) (view_of a) w i mode p is.1 is.2 l) q tt

pub unlock_done : (g : Opening) (es : List Event) (w i : ℕ) (latched after : List ℕ) (a b : MemJournal) → Stands g es latched a → IsSession (view_of a) w → i < length (view_of a).rows → ((state_after g es).worker w).is_open ≡ false → holds_row ((state_after g es).row i) w ≡ true →
    view_of b ≡ after_unlock (view_of a) w i → Takes Stands Leaves Alone in_any g es w (Event.Unlock w i) Any after a b
unlock_done g es w i latched after a b p is l o h q =
    taken in_any g es w (Event.Unlock w i) Any latched after a b (after_unlock (view_of a) w i) (eq-eqb w w refl) refl (and_from (not ((state_after g es).worker w).is_open) (holds_row ((state_after g es).row i) w) (ap not o) h)
    (pictures.unlocks g (state_after g es) (view_of a) w i p is.1 is.2 l) q tt

-- whoever holds a row is a session of the place
pub holder_is : (g : Opening) (es : List Event) (w i : ℕ) (latched : List ℕ) (a : MemJournal) → Stands g es latched a → holds_row ((state_after g es).row i) w ≡ true → IsSession (view_of a) w
holder_is g es w i latched a p h = go (is_held_by ((state_after g es).row i).holder w) refl h
  where
    session : is_worker g w ≡ true → IsSession (view_of a) w
    session e =
        let ps = Rattle.std.proofs.lemmas.Bool.and_parts (ltb 0 w) (leb w g.workers) e in
        let low = ltb-true 0 w ps.0 in
        let high = Rattle.std.proofs.lemmas.Bool.leb-true w g.workers ps.1 in
        let n = p.workers in
        let few = p.few in let logs = p.logs in (low, omega arith, omega arith, omega arith)

    go : (b : Bool) → is_held_by ((state_after g es).row i).holder w ≡ b → (b || is_reader w ((state_after g es).row i).readers) ≡ true → IsSession (view_of a) w
    go true e q = session ((every_holder g es).holder i w e)
    go false e q = session ((every_holder g es).reader i w q)

pub find_done : (K : ℕ → Event → Bool) (g : Opening) (es : List Event) (w k : ℕ) (answer : Option ℕ) (a b : MemJournal) → K w (Event.Read w 0 k answer) ≡ true → Stands g es [] a → IsSession (view_of a) w → k < (view_of a).keys → answer ≡ live_value (find k (view_of a).pairs) →
    ((state_after g es).worker w).is_open ≡ true → holds_row ((state_after g es).row (g.row_of k)) w ≡ true → view_of b ≡ after_read (view_of a) w → (page : ℕ) × Takes Stands Leaves Alone K g es w (Event.Read w page k answer) Any [] a b
find_done K g es w k answer a b kind p is l e o h q = (
  0,
  taken K g es w (Event.Read w 0 k answer) Any [] [] a b (after_read (view_of a) w) (eq-eqb w w refl) kind (may_read g (state_after g es) (view_of a) w k answer p l e o h)
      (pictures.looks g (state_after g es) (view_of a) w k answer p is.1) q tt,
)

pub change_done : (g : Opening) (es : List Event) (w k x : ℕ) (was : Option ℕ) (a b : MemJournal) → Stands g es [] a → IsSession (view_of a) w → k < (view_of a).keys → x ≤ 2 ^ 63 → (is_some (find k (view_of a).pairs) || ltb (length (view_of a).pairs) (view_of a).places) ≡ true →
    ((state_after g es).worker w).is_open ≡ true → length ((state_after g es).worker w).changes < g.changes → is_held_by ((state_after g es).row (g.row_of k)).holder w ≡ true → was ≡ find k (view_of a).pairs → view_of b ≡ after_write (view_of a) w k x →
    (page : ℕ) × Takes Stands Leaves Alone in_changes g es w (Event.Change w page k x) (λ s. was ≡ find k (s.page page).node.pairs) [] a b
change_done g es w k x was a b p is l small fits o few held e q = (
  0,
  taken in_changes g es w (Event.Change w 0 k x) (λ s. was ≡ find k (s.page 0).node.pairs) [] [] a b (after_write (view_of a) w k x) (eq-eqb w w refl) refl (may_change g (state_after g es) (view_of a) w k x p l small fits o few held)
      (pictures.changes g (state_after g es) (view_of a) w k x p is.1 is.3) q (e ∙ ap (find k) (sym p.pairs)),
)

pub back_done : (g : Opening) (es : List Event) (w k x : ℕ) (c : Entry) (cs : List Entry) (a b : MemJournal) → Stands g es [] a → IsSession (view_of a) w → k < (view_of a).keys → is_some (find k (view_of a).pairs) ≡ true →
    ((state_after g es).worker w).is_open ≡ true → ((state_after g es).worker w).changes ≡ c ∷ cs → c.key ≡ k → c.before ≡ x → view_of b ≡ after_write (view_of a) w k x →
    (page : ℕ) × Takes Stands Leaves Alone in_any g es w (Event.Put_back w page) Any [] a b
back_done g es w k x c cs a b p is l has o e ck cx q = (
  0,
  taken in_any g es w (Event.Put_back w 0) Any [] [] a b (after_write (view_of a) w c.key c.before) (eq-eqb w w refl) refl (may_back g (state_after g es) (view_of a) w k c cs p l has o e ck)
      (pictures.puts_back g (state_after g es) (view_of a) w c cs e p is.1 is.3) (q ∙ ap₂ (λ (i y : ℕ). after_write (view_of a) w i y) (sym ck) (sym cx)) tt,
)

-- a live value is a word of the leaf
pub live_some : (o : Option ℕ) (v : ℕ) → Some v ≡ live_value o → (v < 2 ^ 63) × (Some v ≡ o) × (is_some o ≡ true)
live_some None v e = absurd (cc)
live_some (Some x) v e = go (ltb x (2 ^ 63)) refl e
  where
    go : (b : Bool) → ltb x (2 ^ 63) ≡ b → Some v ≡ cond b (Some x) None → (v < 2 ^ 63) × (Some v ≡ Some x) × (true ≡ true)
    go true t q = let y : x ≡ v = cc in (subst (λ (n : ℕ). n < 2 ^ 63) y (ltb-true x (2 ^ 63) t), ap Some (sym y), refl)
    go false t q = absurd (cc)

-- ## Flushes

pub flush_done : (g : Opening) (es : List Event) (w : ℕ) (a b : MemJournal) → Stands g es [] a → IsSession (view_of a) w → (worker_at (view_of a) w).flushed < (worker_at (view_of a) w).end → view_of b ≡ after_flush (view_of a) w → Flushes Stands Leaves Alone in_flushes g es w (λ s. Waits b s w) a b
flush_done g es w a b p is l q =
    let s = state_after g es in
    let x = p.worker w is.1 in
    let e = Event.Flush w (s.worker w).end in
    let behind : s.flushed w < (s.worker w).end = (let f = x.flushed in let n = x.like.end in omega arith) in
    let m : may g s e ≡ true =
    and_from (leb (s.flushed w) (s.worker w).end) _ (le-leb (s.flushed w) (s.worker w).end (omega arith)) (subst (λ (n : ℕ). Rattle.mem_journal.specs.Workers.HasRecord s.entries w n) (sym x.like.end) (x.ended l)) in
    let now : state_after g (es ++ e ∷ []) ≡ happens g s e = run_more g (start g) es (e ∷ []) ∙ stepped g s e m in
    let own : (w == w) ≡ true = eq-eqb w w refl in
    record {
      idles = record {
        more = e ∷ [];
        goes = record { met = (m, tt); stands = stands_step g es e (after_flush (view_of a) w) b m (pictures.flushes g s (view_of a) w p is.1) q; leaves = tt; alone = refl };
        quiet = (refl, tt);
        only = λ h. ((λ i. absurd (true≢false (sym i))), tt);
        kinds = (refl, tt);
      };
      flushes_are = cond-true (w == w) (e ∷ []) [] own ∙ sym (cond-true (ltb (s.flushed w) (s.worker w).end) (e ∷ []) [] (lt-ltb (s.flushed w) (s.worker w).end behind));
      none_waits = ap (λ (t : State). ltb (t.flushed w) (t.worker w).end) now ∙ (ap (λ (n : ℕ). ltb n (s.worker w).end) (upd_here s.flushed w (s.worker w).end) ∙ not_below (s.worker w).end);
    }
  where
    not_below : (n : ℕ) → ltb n n ≡ false
    not_below n = Rattle.std.proofs.lemmas.Bool.le-ltb n n (omega arith)

pub no_flush : (g : Opening) (es : List Event) (w : ℕ) (a : MemJournal) → Stands g es [] a → IsSession (view_of a) w → (worker_at (view_of a) w).end ≤ (worker_at (view_of a) w).flushed → Flushes Stands Leaves Alone in_flushes g es w (λ s. Waits a s w) a a
no_flush g es w a p is l =
    let s = state_after g es in
    let x = p.worker w is.1 in
    let not_behind : ltb (s.flushed w) (s.worker w).end ≡ false = Rattle.std.proofs.lemmas.Bool.le-ltb (s.flushed w) (s.worker w).end (let f = x.flushed in let n = x.like.end in omega arith) in
    record {
      idles = nothing in_flushes g es w [] [] a p;
      flushes_are = sym (cond-false (ltb (s.flushed w) (s.worker w).end) (Event.Flush w (s.worker w).end ∷ []) [] not_behind);
      none_waits = ap (λ (l : List Event). Waits a (state_after g l) w) (append-nil es) ∙ not_behind;
    }
