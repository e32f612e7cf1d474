-- How far the numbers of a run go: an event draws one number, or none.
use Rattle.std.proofs.Common.{◌≡◌, inl, inr, ◌≤◌, ◌+◌, ◌++◌, max, ℕ, zero, suc, Bool, true, false, cond, ◌&&◌, ◌==◌, not, leb, List, [], ◌∷◌, length, Some, None, refl, sym, ◌∙◌, ap, subst, arith, true≢false}
use Rattle.std.proofs.lemmas.Bool.{and_parts, eqb-true}
use Rattle.map_model.proofs.ListLemmas.{any_has, at_upd}
use Rattle.map_model.specs.Lists.{Has, any, keep, upd}
use Rattle.map_model.specs.Maps.{MapAnswer}
use Rattle.page_model.specs.Needs as page_needs
use Rattle.page_model.specs.Records.{Record}
use Rattle.disk_runs.specs.image_model.Entries.{Contents, Entry, Kind, is_record, touches, word_in, written}
use Rattle.disk_runs.specs.core_state.Events.{Event, Mode}
use Rattle.disk_runs.specs.core_state.Lists.{most}
use Rattle.disk_runs.specs.core_state.Needs.{are_hot, is_behind, is_held_by, is_reader, may, needs, pages_of}
use Rattle.disk_runs.specs.core_state.Openings.{Opening}
use Rattle.disk_runs.specs.core_state.States.{Row, State, Worker, gsns_of, nodes_of, start}
use Rattle.disk_runs.specs.core_state.Steps.{at_pages, at_row, begun, end_entry, finished, follows, happens, locked, moves, page_entry, put_back, read_entry, run, step, unlocked, with_pairs, write_entry, writes}
use Rattle.disk_runs.proofs.core_commit.Lists.{least_le}
use Rattle.event_counts.specs.Draws.{EveryDraw, draws, draws_one}

-- no number of these is above top
record UpTo (top : ℕ) (entries : List Entry) (page saved : ℕ → Contents) (row : ℕ → Row) (worker : ℕ → Worker) (flushed : ℕ → ℕ) (floor : ℕ) : Type 0 where
  entered : (r : Entry) → Has r entries → r.number ≤ top
  pages : (p : ℕ) → (page p).gsn ≤ top
  saves : (p : ℕ) → (saved p).gsn ≤ top
  rows : (i : ℕ) → ((row i).number ≤ top) × ((row i).read_end ≤ top)
  workers : (w : ℕ) → ((worker w).clock ≤ top) × ((worker w).end ≤ top)
  flushes : (w : ℕ) → flushed w ≤ top
  low : floor ≤ top

abbrev IsUpTo : ℕ → State → Type 0
IsUpTo top s = UpTo top s.entries s.page s.saved s.row s.worker s.flushed s.floor

raise : (top high : ℕ) → top ≤ high → (s : State) → IsUpTo top s → IsUpTo high s
raise top high le s u = record {
  entered = λ r h. let a = u.entered r h in omega (arith, a, le);
  pages = λ p. let a = u.pages p in omega (arith, a, le);
  saves = λ p. let a = u.saves p in omega (arith, a, le);
  rows = λ i. let a = (u.rows i).0 in let b = (u.rows i).1 in (omega (arith, a, le), omega (arith, b, le));
  workers = λ w. let a = (u.workers w).0 in let b = (u.workers w).1 in (omega (arith, a, le), omega (arith, b, le));
  flushes = λ w. let a = u.flushes w in omega (arith, a, le);
  low = let a = u.low in omega (arith, a, le);
}

-- a worker that met pages, or a row
met_pages : (top : ℕ) (s : State) (w : ℕ) (a : Worker) (ps : List ℕ) → ((p : ℕ) → (s.page p).gsn ≤ top) → a.clock ≤ top → a.end ≤ top → ((at_pages s w a ps).clock ≤ top) × ((at_pages s w a ps).end ≤ top)
met_pages top s w a [] pages c e = (c, e)
met_pages top s w a (p ∷ ps) pages c e = let r = met_pages top s w a ps pages c e in let x = r.0 in let y = pages p in (omega arith, r.1)

workers_with : (top : ℕ) (worker : ℕ → Worker) (w : ℕ) (a : Worker) → ((v : ℕ) → ((worker v).clock ≤ top) × ((worker v).end ≤ top)) → a.clock ≤ top → a.end ≤ top → (v : ℕ) → ((upd worker w a v).clock ≤ top) × ((upd worker w a v).end ≤ top)
workers_with top worker w a all c e v = at_upd (λ j b. (b.clock ≤ top) × (b.end ≤ top)) worker w a v (c, e) (λ other. all v)

entered_with : (top : ℕ) (x : Entry) (entries : List Entry) → ((r : Entry) → Has r entries → r.number ≤ top) → x.number ≤ top → (r : Entry) → Has r (x ∷ entries) → r.number ≤ top
entered_with top x entries all own r (inl same) = let a = ap (λ (e : Entry). e.number) same in omega arith
entered_with top x entries all own r (inr h) = all r h

-- the pages with a record
pages_with : (top : ℕ) (r : Entry) (page : ℕ → Contents) → ((p : ℕ) → (page p).gsn ≤ top) → r.number ≤ top → (p : ℕ) → (cond (touches p r) (written r p (page p)) (page p)).gsn ≤ top
pages_with top r page all own p = go (touches p r)
  where
    go : (b : Bool) → (cond b (written r p (page p)) (page p)).gsn ≤ top
    go true = own
    go false = all p

locked_as : (o : Row) (w : ℕ) (mode : Mode) → ((locked o w mode).number ≡ o.number) × ((locked o w mode).read_end ≡ o.read_end)
locked_as o w Mode.Shared = go (is_held_by o.holder w)
  where
    go : (b : Bool) → ((cond b o (record o { readers = cond (is_reader w o.readers) o.readers (w ∷ o.readers) })).number ≡ o.number) × ((cond b o (record o { readers = cond (is_reader w o.readers) o.readers (w ∷ o.readers) })).read_end ≡ o.read_end)
    go true = (refl, refl)
    go false = (refl, refl)
locked_as o w Mode.Alone = go (is_held_by o.holder w)
  where
    go : (b : Bool) → ((cond b o (record o { holder = Some w; readers = [] })).number ≡ o.number) × ((cond b o (record o { holder = Some w; readers = [] })).read_end ≡ o.read_end)
    go true = (refl, refl)
    go false = (refl, refl)

abbrev left_with : Row → ℕ → ℕ → Bool → Row
left_with o w end z = cond z (record { holder = None; readers = keep (λ v. not (v == w)) o.readers; number = max o.number end; log = w; read_end = o.read_end }) (record { holder = o.holder; readers = keep (λ v. not (v == w)) o.readers; number = o.number; log = o.log; read_end = max o.read_end end })

unlocked_as : (top : ℕ) (o : Row) (w end : ℕ) → o.number ≤ top → o.read_end ≤ top → end ≤ top → ((unlocked o w end).number ≤ top) × ((unlocked o w end).read_end ≤ top)
unlocked_as top o w end a b c = go (is_held_by o.holder w)
  where
    go : (z : Bool) → ((left_with o w end z).number ≤ top) × ((left_with o w end z).read_end ≤ top)
    go true = (omega arith, b)
    go false = (a, omega arith)

most_up : (top : ℕ) (f : ℕ → ℕ) (n : ℕ) → ((w : ℕ) → f w ≤ top) → most f n ≤ top
most_up top f zero all = all 1
most_up top f (suc n) all = let a = all (suc n) in let b = most_up top f n all in omega arith

module _ (g : Opening) (top high : ℕ) (le : top ≤ high) (s : State) (u : IsUpTo top s) where
  up : IsUpTo high s
  up = raise top high le s u

  -- a record is entered by w
  entry_up : (w : ℕ) (a : Worker) (r : Entry) → r.number ≤ high → a.clock ≤ high → a.end ≤ high → (page : ℕ → Contents) → ((p : ℕ) → (page p).gsn ≤ high)
      → UpTo high (r ∷ s.entries) page s.saved s.row (upd s.worker w a) s.flushed s.floor
  entry_up w a r n c e page pages = record {
    entered = entered_with high r s.entries up.entered n;
    pages = pages;
    saves = up.saves;
    rows = up.rows;
    workers = workers_with high s.worker w a up.workers c e;
    flushes = up.flushes;
    low = up.low;
  }

  worker_up : (w : ℕ) (a : Worker) → a.clock ≤ high → a.end ≤ high → UpTo high s.entries s.page s.saved s.row (upd s.worker w a) s.flushed s.floor
  worker_up w a c e = record {
    entered = up.entered;
    pages = up.pages;
    saves = up.saves;
    rows = up.rows;
    workers = workers_with high s.worker w a up.workers c e;
    flushes = up.flushes;
    low = up.low;
  }

  met : (w : ℕ) (ps : List ℕ) → ((at_pages s w (s.worker w) ps).clock ≤ top) × ((at_pages s w (s.worker w) ps).end ≤ top)
  met w ps = met_pages top s w (s.worker w) ps u.pages (u.workers w).0 (u.workers w).1

  moves_up : (k : Kind) (w : ℕ) (ps : List ℕ) (x : Record) → suc top ≤ high → IsUpTo high (moves s k w ps x)
  moves_up k w ps x more =
      let d = more in let m = met w ps in let c = m.0 in let e = m.1 in
      let a : Worker = at_pages s w (s.worker w) ps in
      let r : Entry = page_entry k s w a ps x in
      entry_up w (record a { clock = r.number; changes = a.changes }) r (omega arith) (omega arith) (omega arith) (λ p. cond (touches p r) (written r p (s.page p)) (s.page p)) (pages_with high r s.page up.pages (omega arith))

  writes_up : (k : Kind) (w p key word : ℕ) (changes : Entry → List Entry) → suc top ≤ high → IsUpTo high (writes g s k w p key word changes)
  writes_up k w p key word changes more =
      let d = more in let m = met w (p ∷ []) in let c = m.0 in let e = m.1 in
      let a : Worker = at_pages s w (s.worker w) (p ∷ []) in
      let r : Entry = write_entry g k s w a p key word in
      entry_up w (record a { clock = r.number; changes = changes r }) r (omega arith) (omega arith) (omega arith) (λ q. cond (touches q r) (written r q (s.page q)) (s.page q)) (pages_with high r s.page up.pages (omega arith))

  reads_up : (w p k : ℕ) → IsUpTo high (Rattle.disk_runs.specs.core_state.Steps.reads g s w p k)
  reads_up w p k =
      let d = le in let m = met w (p ∷ []) in let c = m.0 in let e = m.1 in
      let a : Worker = at_pages s w (s.worker w) (p ∷ []) in
      entry_up w a (read_entry w a k (word_in g.format (s.page p).node k) (is_held_by (s.row (g.row_of k)).holder w)) (omega arith) (omega arith) (omega arith) s.page up.pages

  -- an event draws one number, or none
  happens_up : (e : Event) → (draws_one e ≡ true → suc top ≤ high) → needs g s e ≡ true → IsUpTo high (happens g s e)
  happens_up (Event.Begin w f) n m = let a = (up.workers w).0 in let b = (up.workers w).1 in worker_up w (begun (s.worker w) f) (omega arith) (omega arith)
  happens_up (Event.Lock w i mode) n m =
      let l = locked_as (s.row i) w mode in let x = l.0 in let y = l.1 in
      let a = (up.rows i).0 in let r = (up.rows i).1 in let c = (up.workers w).0 in let e = (up.workers w).1 in
      record {
        entered = up.entered;
        pages = up.pages;
        saves = up.saves;
        rows = λ j. at_upd (λ i o. (o.number ≤ high) × (o.read_end ≤ high)) s.row i (locked (s.row i) w mode) j (omega arith, omega arith) (λ other. up.rows j);
        workers = workers_with high s.worker w (at_row w (s.worker w) (s.row i)) up.workers (omega arith) (omega arith);
        flushes = up.flushes;
        low = up.low;
      }
  happens_up (Event.Read w p k a) n m = reads_up w p k
  happens_up (Event.Next w p k a) n m = go a
    where
      go : (a : MapAnswer) → IsUpTo high (follows g s w p a)
      go (MapAnswer.Pair at word) = reads_up w p at
      go (MapAnswer.Gap h) = let t = met w (p ∷ []) in let c = t.0 in let e = t.1 in worker_up w (at_pages s w (s.worker w) (p ∷ [])) (omega arith) (omega arith)
      go (MapAnswer.Value v) = up
      go (MapAnswer.Was v) = up
  happens_up (Event.Change w p k v) n m = writes_up Kind.Change w p k v (λ r. r ∷ (s.worker w).changes) (n refl)
  happens_up (Event.Put_back w p) n m = go (s.worker w).changes
    where
      go : (cs : List Entry) → IsUpTo high (put_back g s w p cs)
      go [] = up
      go (c ∷ cs) = writes_up Kind.Put_back w p c.key c.before (λ r. cs) (n refl)
  happens_up (Event.Split w l r q i) n m = moves_up Kind.Split w (l ∷ r ∷ q ∷ []) (page_needs.split_record (nodes_of s) (gsns_of s) l r q i) (n refl)
  happens_up (Event.Lift w c) n m = moves_up Kind.Lift w (0 ∷ c ∷ []) (page_needs.lift_record (nodes_of s) (gsns_of s) c) (n refl)
  happens_up (Event.Join w l r q) n m = moves_up Kind.Join w (l ∷ r ∷ q ∷ []) (page_needs.join_record (nodes_of s) (gsns_of s) l r q) (n refl)
  happens_up (Event.Drop w c) n m = moves_up Kind.Drop w (0 ∷ c ∷ []) (page_needs.drop_record (nodes_of s) (gsns_of s) c) (n refl)
  happens_up (Event.Purge w p keys) n m = moves_up Kind.Purge w (p ∷ []) (page_needs.purge_record (gsns_of s) p keys) (n refl)
  happens_up (Event.End w commit f) n m =
      let c = (u.workers w).0 in let d = n refl in let x = (up.workers w).1 in
      entry_up w (finished (s.worker w) (suc (s.worker w).clock)) (end_entry (cond commit Kind.Commit Kind.Abort) w (s.worker w) f) (omega arith) (omega arith) (omega arith) s.page up.pages
  happens_up (Event.Unlock w i) n m =
      let a = (up.rows i).0 in let r = (up.rows i).1 in let e = (up.workers w).1 in
      record {
        entered = up.entered;
        pages = up.pages;
        saves = up.saves;
        rows = λ j. at_upd (λ i o. (o.number ≤ high) × (o.read_end ≤ high)) s.row i (unlocked (s.row i) w (s.worker w).end) j (unlocked_as high (s.row i) w (s.worker w).end a r e) (λ other. up.rows j);
        workers = up.workers;
        flushes = up.flushes;
        low = up.low;
      }
  happens_up (Event.Flush w up_to) n m =
      let found = any_has (λ (r : Entry). is_record r.kind && ((r.log == w) && (r.number == up_to))) s.entries (and_parts (leb (s.flushed w) up_to) (any (λ (r : Entry). is_record r.kind && ((r.log == w) && (r.number == up_to))) s.entries) m).1 in
      let own = eqb-true found.0.number up_to (and_parts (found.0.log == w) (found.0.number == up_to) (and_parts (is_record found.0.kind) ((found.0.log == w) && (found.0.number == up_to)) found.2).1).1 in
      let a = up.entered found.0 found.1 in
      record {
        entered = up.entered;
        pages = up.pages;
        saves = up.saves;
        rows = up.rows;
        workers = up.workers;
        flushes = λ v. at_upd (λ i b. b ≤ high) s.flushed w up_to v (omega arith) (λ other. up.flushes v);
        low = up.low;
      }
  happens_up (Event.Sync at) n m =
      let is = eqb-true at (most (λ w. (s.worker w).clock) g.workers) (and_parts (at == most (λ w. (s.worker w).clock) g.workers) (not (is_behind s)) m).0 in
      let d = le in let a = most_up top (λ w. (s.worker w).clock) g.workers (λ w. (u.workers w).0) in
      record {
        entered = up.entered;
        pages = up.pages;
        saves = up.saves;
        rows = up.rows;
        workers = λ w. let c = (up.workers w).0 in (omega arith, (up.workers w).1);
        flushes = λ w. omega arith;
        low = omega arith;
      }
  happens_up (Event.Fetch p pairs) n m = record {
    entered = up.entered;
    pages = λ q. at_upd (λ i (v : Contents). v.gsn ≤ high) s.page p (with_pairs pairs (s.saved p)) q (up.saves p) (λ other. up.pages q);
    saves = λ q. at_upd (λ i (v : Contents). v.gsn ≤ high) s.saved p (with_pairs pairs (s.saved p)) q (up.saves p) (λ other. up.saves q);
    rows = up.rows;
    workers = up.workers;
    flushes = up.flushes;
    low = up.low;
  }
  happens_up (Event.Load p f) n m = record {
    entered = up.entered;
    pages = λ q. at_upd (λ i (v : Contents). v.gsn ≤ high) s.page p (s.saved p) q (up.saves p) (λ other. up.pages q);
    saves = up.saves;
    rows = up.rows;
    workers = up.workers;
    flushes = up.flushes;
    low = up.low;
  }
  happens_up (Event.Save p) n m = record {
    entered = up.entered;
    pages = up.pages;
    saves = λ q. at_upd (λ i (v : Contents). v.gsn ≤ high) s.saved p (s.page p) q (up.pages p) (λ other. up.saves q);
    rows = up.rows;
    workers = up.workers;
    flushes = up.flushes;
    low = up.low;
  }
  happens_up (Event.Cut x heads) n m = record {
    entered = up.entered;
    pages = up.pages;
    saves = up.saves;
    rows = up.rows;
    workers = up.workers;
    flushes = up.flushes;
    low = let a = up.low in let z = g.some_worker in let b = least_le s.flushed g.workers 1 (omega arith, omega arith) in let c = up.flushes 1 in omega arith;
  }
  happens_up (Event.Enter w e) n m = up
  happens_up (Event.Leave w) n m = up
  happens_up (Event.Peek w p k a) n m = up
  happens_up (Event.Post w at) n m = up
  happens_up (Event.Cool p) n m = up
  happens_up (Event.Rescue p) n m = up
  happens_up (Event.Evict p) n m = up
  happens_up Event.Tick n m = up
  happens_up (Event.Ask w) n m = up
  happens_up (Event.Refused w a b) n m = up
  happens_up (Event.Miss w) n m = up

  step_up : (e : Event) → (draws_one e ≡ true → suc top ≤ high) → IsUpTo high (step g s e)
  step_up e more = go (may g s e) refl
    where
      go : (b : Bool) → may g s e ≡ b → IsUpTo high (cond b (happens g s e) s)
      go true is = happens_up e more (and_parts (are_hot s (pages_of e)) (needs g s e) is).1
      go false is = up

self : (n : ℕ) → n ≤ n
self n = omega arith

next : (n : ℕ) → n ≤ suc n
next n = omega arith

run_up : (g : Opening) (top : ℕ) (s : State) (es : List Event) → IsUpTo top s → (n : ℕ) → n ≡ top + draws es → IsUpTo n (run g s es)
run_up g top s [] u n is = same top n s (omega arith) u
  where
    same : (a b : ℕ) (s : State) → b ≡ a → IsUpTo a s → IsUpTo b s
    same a b s e u = subst (λ (k : ℕ). IsUpTo k s) (sym e) u
run_up g top s (e ∷ es) u n is = go (draws_one e) refl (λ high le. step_up g top high le s u e) (λ high v. run_up g high (step g s e) es v n) is
  where
    go : (b : Bool) → draws_one e ≡ b → ((high : ℕ) → top ≤ high → (draws_one e ≡ true → suc top ≤ high) → IsUpTo high (step g s e)) → ((high : ℕ) → IsUpTo high (step g s e) → n ≡ high + draws es → IsUpTo n (run g (step g s e) es))
        → n ≡ top + length (cond b (e ∷ keep draws_one es) (keep draws_one es)) → IsUpTo n (run g (step g s e) es)
    go true one here further is = further (suc top) (here (suc top) (next top) (λ _. self (suc top))) (omega arith)
    go false none here further is = further top (here top (self top) (λ one. absurd (true≢false (sym one ∙ none)))) (omega arith)

start_up : (g : Opening) → IsUpTo g.base (start g)
start_up g = record {
  entered = λ r h. absurd h;
  pages = g.low;
  saves = g.low;
  rows = λ i. (omega arith, omega arith);
  workers = λ w. (omega arith, omega arith);
  flushes = λ w. omega arith;
  low = omega arith;
}

-- ## How many draw one

draws_more : (xs ys : List Event) → draws (xs ++ ys) ≡ draws xs + draws ys
draws_more [] ys = omega arith
draws_more (e ∷ xs) ys = go (draws_more xs ys) (draws_one e)
  where
    go : draws (xs ++ ys) ≡ draws xs + draws ys → (b : Bool) → length (cond b (e ∷ keep draws_one (xs ++ ys)) (keep draws_one (xs ++ ys))) ≡ length (cond b (e ∷ keep draws_one xs) (keep draws_one xs)) + draws ys
    go ih true = omega (arith, ih)
    go ih false = ih

draws_few : (es : List Event) → draws es ≤ length es
draws_few [] = omega arith
draws_few (e ∷ es) = go (draws_few es) (draws_one e)
  where
    go : draws es ≤ length es → (b : Bool) → length (cond b (e ∷ keep draws_one es) (keep draws_one es)) ≤ length (e ∷ es)
    go ih true = omega (arith, ih)
    go ih false = omega (arith, ih)

pub every_draw : EveryDraw
every_draw g xs ys = record {
  goes_to = let u = run_up g g.base (start g) xs (start_up g) (g.base + draws xs) refl in record { entered = u.entered; floor = u.low; pages = u.pages };
  more = draws_more xs ys;
  few = draws_few xs;
}
