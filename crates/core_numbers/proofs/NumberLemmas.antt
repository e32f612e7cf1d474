-- What each event makes of the numbers so far, and of those that may come.
use Rattle.std.proofs.Common.{◌≡◌, ◌⊎◌, inl, inr, ◌≤◌, ◌<◌, ◌+◌, ◌*◌, ◌^◌, ◌&&◌, ◌||◌, not, ℕ, zero, suc, max, Bool, true, false, cond, ◌==◌, ltb, leb, List, [], ◌∷◌, Option, Some, None, length, refl, sym, ap, ◌∙◌, subst, arith, true≢false}
use Rattle.std.proofs.lemmas.Bool.{and_parts, cases_lt, cases_eq, ltb-true, leb-true, eqb-true}
use Rattle.map_model.specs.Lists.{keep, upd}
use Rattle.map_model.specs.Maps.{MapAnswer}
use Rattle.map_model.proofs.ListLemmas.{at_upd, upd_other, upd_same}
use Rattle.page_model.specs.Nodes.{holds}
use Rattle.page_model.specs.Records.{Record}
use Rattle.page_model.specs.Redo.{all_keys}
use Rattle.page_model.specs.Needs as record_needs
use Rattle.core_state.specs.image_model.Entries.{Contents, Entry, Kind, touches, written}
use Rattle.core_state.specs.Events.{Event, Mode}
use Rattle.core_state.specs.Lists.{is_empty, most}
use Rattle.core_state.specs.Needs.{are_hot, holds_row, is_behind, is_held_by, is_leaf_of, is_following, following, holds_answer, is_settled, is_value, is_worker, may, may_drop, may_hold, may_join, may_lift, may_purge, may_put, may_put_back, may_read, may_split, needs, pages_of, value_in}
use Rattle.core_state.specs.Openings.{Opening}
use Rattle.core_state.specs.States.{Row, State, Worker, start, flushed_by_all, nodes_of, gsns_of}
use Rattle.core_state.specs.Steps.{at_pages, at_row, begun, finished, follows, happens, with_pairs, locked, moves, page_entry, put_back, records_in, run, step, synced, touch, unlocked, write_entry}
use Rattle.core_numbers.specs.Numbers.{AreLow, AreNumbered, AreTame, AreUpTo, EveryNext, EveryNumber, EveryStart, IsTame, last_of, left_to, left_to_all}
use Rattle.core_numbers.proofs.Lefts.{left_low, left_high, left_none, left_some, left_all, less, most_up}
use Rattle.core_numbers.proofs.Rooms.{by_room, by_end, by_number, Met, met_pages, met_row, by_met, up_more, clocks, ends, up_same, locked_same, by_record}

-- no clock is below the base; who is open is a worker that began where the base is low, and has few changes
record Sane (b : ℕ) (g : Opening) (s : State) : Type 0 where
  pub few : (w : ℕ) → length (s.worker w).changes ≤ 64
  pub worker : (w : ℕ) → (s.worker w).is_open ≡ true → (0 < w) × (w ≤ g.workers) × (b < 2 ^ 62)
  pub based : (w : ℕ) → b ≤ (s.worker w).clock

-- ## What stays sane

module _ (b : ℕ) (g : Opening) (s : State) (h : Sane b g s) where
  -- where one worker has changed
  sane_with : (t : State) (w : ℕ) (a : Worker) → t.worker ≡ upd s.worker w a → length a.changes ≤ 64 → (a.is_open ≡ true → (0 < w) × (w ≤ g.workers) × (b < 2 ^ 62)) → (s.worker w).clock ≤ a.clock → Sane b g t
  sane_with t w a e few who rises = record {
    few = λ u. subst (λ (f : ℕ → Worker). length (f u).changes ≤ 64) (sym e) (at_upd (λ (v : ℕ) (b : Worker). length b.changes ≤ 64) s.worker w a u few (λ _. h.few u));
    worker = λ u. subst (λ (f : ℕ → Worker). (f u).is_open ≡ true → (0 < u) × (u ≤ g.workers) × (b < 2 ^ 62)) (sym e) (at_upd (λ (v : ℕ) (k : Worker). k.is_open ≡ true → (0 < v) × (v ≤ g.workers) × (b < 2 ^ 62)) s.worker w a u who (λ _. h.worker u));
    based = λ u. subst (λ (f : ℕ → Worker). b ≤ (f u).clock) (sym e) (at_upd (λ (v : ℕ) (k : Worker). b ≤ k.clock) s.worker w a u (let q = h.based w in omega arith) (λ _. h.based u));
  }

  sane_back : (w p : ℕ) (cs : List Entry) → (s.worker w).changes ≡ cs → Sane b g (put_back g s w p cs)
  sane_back w p [] e = h
  sane_back w p (c ∷ cs) e = sane_with (put_back g s w p (c ∷ cs)) w _ refl (let a = h.few w in let q = ap (λ (l : List Entry). length l) e in omega arith) (h.worker w) (omega arith)

  sane_follows : (w p : ℕ) (a : MapAnswer) → Sane b g (follows g s w p a)
  sane_follows w p (MapAnswer.Pair k v) = sane_with (follows g s w p (MapAnswer.Pair k v)) w _ refl (h.few w) (h.worker w) (omega arith)
  sane_follows w p (MapAnswer.Gap k) = sane_with (follows g s w p (MapAnswer.Gap k)) w _ refl (h.few w) (h.worker w) (omega arith)
  sane_follows w p (MapAnswer.Value v) = h
  sane_follows w p (MapAnswer.Was v) = h

  sane_same : (t : State) → t.worker ≡ s.worker → Sane b g t
  sane_same t e = record { few = λ u. subst (λ (f : ℕ → Worker). length (f u).changes ≤ 64) (sym e) (h.few u); worker = λ u. subst (λ (f : ℕ → Worker). (f u).is_open ≡ true → (0 < u) × (u ≤ g.workers) × (b < 2 ^ 62)) (sym e) (h.worker u); based = λ u. subst (λ (f : ℕ → Worker). b ≤ (f u).clock) (sym e) (h.based u) }

few_change : (g : Opening) (s : State) (w p k v : ℕ) → needs g s (Event.Change w p k v) ≡ true → (length (s.worker w).changes < g.changes) × ((s.worker w).is_open ≡ true)
few_change g s w p k v m =
    let a = and_parts (ltb (length (s.worker w).changes) g.changes) ((s.worker w).is_open && (is_held_by (s.row (g.row_of k)).holder w && may_put g (s.page p).node p k v)) m in
    (ltb-true (length (s.worker w).changes) g.changes a.0, (and_parts (s.worker w).is_open (is_held_by (s.row (g.row_of k)).holder w && may_put g (s.page p).node p k v) a.1).0)

worker_begin : (g : Opening) (s : State) (w f : ℕ) → needs g s (Event.Begin w f) ≡ true → (0 < w) × (w ≤ g.workers)
worker_begin g s w f m =
    let a = and_parts (is_worker g w) (not (s.worker w).is_open && (leb (s.worker w).floor f && leb f (flushed_by_all g s))) m in
    let b = and_parts (ltb 0 w) (leb w g.workers) a.0 in (ltb-true 0 w b.0, leb-true w g.workers b.1)

sane_event : (b : ℕ) (g : Opening) (s : State) → g.changes ≤ 64 → Sane b g s → (e : Event) → IsTame s e → needs g s e ≡ true → Sane b g (happens g s e)
sane_event b g s most h (Event.Begin w f) t m = let q = worker_begin g s w f m in let k = h.based w in sane_with b g s h (happens g s (Event.Begin w f)) w (begun (s.worker w) f) refl (omega arith) (λ _. (q.0, q.1, omega arith)) (omega arith)
sane_event b g s most h (Event.Lock w i mode) t m = sane_with b g s h (happens g s (Event.Lock w i mode)) w _ refl (h.few w) (h.worker w) (omega arith)
sane_event b g s most h (Event.Read w p k a) t m = sane_with b g s h (happens g s (Event.Read w p k a)) w _ refl (h.few w) (h.worker w) (omega arith)
sane_event b g s most h (Event.Next w p k a) t m = sane_follows b g s h w p a
sane_event b g s most h (Event.Change w p k v) t m = sane_with b g s h (happens g s (Event.Change w p k v)) w _ refl (let a = (few_change g s w p k v m).0 in omega arith) (h.worker w) (omega arith)
sane_event b g s most h (Event.Put_back w p) t m = sane_back b g s h w p (s.worker w).changes refl
sane_event b g s most h (Event.Split w l r q i) t m = sane_with b g s h (happens g s (Event.Split w l r q i)) w _ refl (h.few w) (h.worker w) (omega arith)
sane_event b g s most h (Event.Lift w c) t m = sane_with b g s h (happens g s (Event.Lift w c)) w _ refl (h.few w) (h.worker w) (omega arith)
sane_event b g s most h (Event.Join w l r q) t m = sane_with b g s h (happens g s (Event.Join w l r q)) w _ refl (h.few w) (h.worker w) (omega arith)
sane_event b g s most h (Event.Drop w c) t m = sane_with b g s h (happens g s (Event.Drop w c)) w _ refl (h.few w) (h.worker w) (omega arith)
sane_event b g s most h (Event.Purge w p keys) t m = sane_with b g s h (happens g s (Event.Purge w p keys)) w _ refl (h.few w) (h.worker w) (omega arith)
sane_event b g s most h (Event.End w commit f) t m = sane_with b g s h (happens g s (Event.End w commit f)) w (finished (s.worker w) (suc (s.worker w).clock)) refl (omega arith) (λ e. absurd (true≢false (sym e))) (omega arith)
sane_event b g s most h (Event.Sync n) t m = record { few = h.few; worker = h.worker; based = λ u. let q = h.based u in omega arith }
sane_event b g s most h (Event.Enter w e) t m = sane_same b g s h (happens g s (Event.Enter w e)) refl
sane_event b g s most h (Event.Leave w) t m = sane_same b g s h (happens g s (Event.Leave w)) refl
sane_event b g s most h (Event.Peek w p k a) t m = h
sane_event b g s most h (Event.Unlock w i) t m = sane_same b g s h (happens g s (Event.Unlock w i)) refl
sane_event b g s most h (Event.Flush w n) t m = sane_same b g s h (happens g s (Event.Flush w n)) refl
sane_event b g s most h (Event.Post w n) t m = sane_same b g s h (happens g s (Event.Post w n)) refl
sane_event b g s most h (Event.Fetch p pairs) t m = sane_same b g s h (happens g s (Event.Fetch p pairs)) refl
sane_event b g s most h (Event.Load p f) t m = sane_same b g s h (happens g s (Event.Load p f)) refl
sane_event b g s most h (Event.Cool p) t m = sane_same b g s h (happens g s (Event.Cool p)) refl
sane_event b g s most h (Event.Rescue p) t m = sane_same b g s h (happens g s (Event.Rescue p)) refl
sane_event b g s most h (Event.Save p) t m = sane_same b g s h (happens g s (Event.Save p)) refl
sane_event b g s most h (Event.Evict p) t m = sane_same b g s h (happens g s (Event.Evict p)) refl
sane_event b g s most h Event.Tick t m = sane_same b g s h (happens g s Event.Tick) refl
sane_event b g s most h (Event.Cut x heads) t m = sane_same b g s h (happens g s (Event.Cut x heads)) refl
sane_event b g s most h (Event.Ask w) t m = h
sane_event b g s most h (Event.Refused w n k) t m = h
sane_event b g s most h (Event.Miss w) t m = h

-- ## What stays low

module _ (b : ℕ) (g : Opening) (s : State) (most_is : g.changes ≤ 64) (h : Sane b g s) (l : AreLow b g.workers s) where
  abbrev Low : State → Type 0
  Low t = AreLow b g.workers t

  abbrev n : ℕ
  n = g.workers

  -- the workers, pages and rows are as they were
  low_same : (t : State) → t.page ≡ s.page → t.saved ≡ s.saved → t.row ≡ s.row → t.worker ≡ s.worker → Low t
  low_same t page saved row worker = record { top = l.top; up_to = up_same s t l.top page saved row worker l.up_to; room = subst (λ (f : ℕ → Worker). l.top + left_to_all f n ≤ last_of b n) (sym worker) l.room }

  -- pages are as they were, or as they were saved
  low_pages : (t : State) → ((p : ℕ) → (t.page p).gsn ≤ l.top) → ((p : ℕ) → (t.saved p).gsn ≤ l.top) → t.row ≡ s.row → t.worker ≡ s.worker → Low t
  low_pages t page saved row worker = record {
    top = l.top;
    up_to = record {
      page = page;
      saved = saved;
      row = λ i. subst (λ (f : ℕ → Row). (f i).number ≤ l.top) (sym row) (l.up_to.row i);
      read_end = λ i. subst (λ (f : ℕ → Row). (f i).read_end ≤ l.top) (sym row) (l.up_to.read_end i);
      clock = λ w. subst (λ (f : ℕ → Worker). (f w).clock ≤ l.top) (sym worker) (l.up_to.clock w);
      end = λ w. subst (λ (f : ℕ → Worker). (f w).end ≤ l.top) (sym worker) (l.up_to.end w);
    };
    room = subst (λ (f : ℕ → Worker). l.top + left_to_all f n ≤ last_of b n) (sym worker) l.room;
  }

  -- a worker that is open has met numbers of pages
  low_met : (w : ℕ) (t : State) (ps : List ℕ) → (s.worker w).is_open ≡ true → t.page ≡ s.page → t.saved ≡ s.saved → t.row ≡ s.row → t.worker ≡ upd s.worker w (at_pages s w (s.worker w) ps) → Low t
  low_met w t ps going page saved row worker =
      let who = h.worker w going in
      let m = met_pages s w l.top l.up_to ps in
      by_met b n s t w (at_pages s w (s.worker w) ps) l who.0 who.1 worker m going (h.few w) record {
        page = λ p. subst (λ (f : ℕ → Contents). (f p).gsn ≤ l.top) (sym page) (l.up_to.page p);
        saved = λ p. subst (λ (f : ℕ → Contents). (f p).gsn ≤ l.top) (sym saved) (l.up_to.saved p);
        row = λ i. subst (λ (f : ℕ → Row). (f i).number ≤ l.top) (sym row) (l.up_to.row i);
        read_end = λ i. subst (λ (f : ℕ → Row). (f i).read_end ≤ l.top) (sym row) (l.up_to.read_end i);
        clock = λ u. subst (λ (f : ℕ → Worker). (f u).clock ≤ l.top) (sym worker) (clocks s w (at_pages s w (s.worker w) ps) l.top l.up_to m.low u);
        end = λ u. subst (λ (f : ℕ → Worker). (f u).end ≤ l.top) (sym worker) (ends s w (at_pages s w (s.worker w) ps) l.top l.up_to (let e = m.end in let q = l.up_to.end w in omega arith) u);
      }

  low_follows : (w p : ℕ) (a : MapAnswer) → (s.worker w).is_open ≡ true → Low (follows g s w p a)
  low_follows w p (MapAnswer.Pair k v) going = low_met w (follows g s w p (MapAnswer.Pair k v)) (p ∷ []) going refl refl refl refl
  low_follows w p (MapAnswer.Gap k) going = low_met w (follows g s w p (MapAnswer.Gap k)) (p ∷ []) going refl refl refl refl
  low_follows w p (MapAnswer.Value v) going = l
  low_follows w p (MapAnswer.Was v) going = l

  low_lock : (w i : ℕ) (mode : Mode) → (s.worker w).is_open ≡ true → Low (happens g s (Event.Lock w i mode))
  low_lock w i mode going =
      let who = h.worker w going in
      let m = met_row s w i l.top l.up_to in
      by_met b n s (happens g s (Event.Lock w i mode)) w (at_row w (s.worker w) (s.row i)) l who.0 who.1 refl m going (h.few w) record {
        page = l.up_to.page;
        saved = l.up_to.saved;
        row = λ j. at_upd (λ (k : ℕ) (o : Row). o.number ≤ l.top) s.row i (locked (s.row i) w mode) j (subst (λ (k : ℕ). k ≤ l.top) (sym (locked_same (s.row i) w mode).0) (l.up_to.row i)) (λ _. l.up_to.row j);
        read_end = λ j. at_upd (λ (k : ℕ) (o : Row). o.read_end ≤ l.top) s.row i (locked (s.row i) w mode) j (subst (λ (k : ℕ). k ≤ l.top) (sym (locked_same (s.row i) w mode).1) (l.up_to.read_end i)) (λ _. l.up_to.read_end j);
        clock = clocks s w (at_row w (s.worker w) (s.row i)) l.top l.up_to m.low;
        end = ends s w (at_row w (s.worker w) (s.row i)) l.top l.up_to (l.up_to.end w);
      }

  -- a row that is given back tells of an end so far
  low_unlock : (w i : ℕ) → Low (happens g s (Event.Unlock w i))
  low_unlock w i = record {
    top = l.top;
    up_to = record {
      page = l.up_to.page;
      saved = l.up_to.saved;
      row = λ j. at_upd (λ (k : ℕ) (o : Row). o.number ≤ l.top) s.row i (unlocked (s.row i) w (s.worker w).end) j tells.0 (λ _. l.up_to.row j);
      read_end = λ j. at_upd (λ (k : ℕ) (o : Row). o.read_end ≤ l.top) s.row i (unlocked (s.row i) w (s.worker w).end) j tells.1 (λ _. l.up_to.read_end j);
      clock = l.up_to.clock;
      end = l.up_to.end;
    };
    room = l.room;
  }
    where
      told : (o : Row) (end top : ℕ) → o.number ≤ top → o.read_end ≤ top → end ≤ top → ((unlocked o w end).number ≤ top) × ((unlocked o w end).read_end ≤ top)
      told o end top number read_end low = both (is_held_by o.holder w) (record { holder = None; readers = others; number = max o.number end; log = w; read_end = o.read_end })
          (record { holder = o.holder; readers = others; number = o.number; log = o.log; read_end = max o.read_end end }) (omega arith, read_end) (number, omega arith)
        where
          others : List ℕ
          others = keep (λ v. not (v == w)) o.readers

          both : (c : Bool) (x y : Row) → (x.number ≤ top) × (x.read_end ≤ top) → (y.number ≤ top) × (y.read_end ≤ top) → ((cond c x y).number ≤ top) × ((cond c x y).read_end ≤ top)
          both true x y p q = p
          both false x y p q = q

      tells : ((unlocked (s.row i) w (s.worker w).end).number ≤ l.top) × ((unlocked (s.row i) w (s.worker w).end).read_end ≤ l.top)
      tells = told (s.row i) (s.worker w).end l.top (l.up_to.row i) (l.up_to.read_end i) (l.up_to.end w)

  low_begin : (w f : ℕ) → (s.worker w).clock < 2 ^ 62 → needs g s (Event.Begin w f) ≡ true → Low (happens g s (Event.Begin w f))
  low_begin w f young m =
      let who = worker_begin g s w f m in
      by_room b n s (happens g s (Event.Begin w f)) w (begun (s.worker w) f) l who.0 who.1 refl l.top record {
        page = l.up_to.page;
        saved = l.up_to.saved;
        row = l.up_to.row;
        read_end = l.up_to.read_end;
        clock = clocks s w (begun (s.worker w) f) l.top l.up_to (l.up_to.clock w);
        end = ends s w (begun (s.worker w) f) l.top l.up_to (l.up_to.end w);
      } (as_before l.top (left_to (begun (s.worker w) f)) (left_to (s.worker w)) (left_low (begun (s.worker w) f) young) (left_low (s.worker w) young))
    where
      as_before : (top after before : ℕ) → after ≡ 66 → before ≡ 66 → top + after ≤ top + before
      as_before top after before p q = omega arith

  low_change : (w p k v : ℕ) → (s.worker w).clock < 2 ^ 62 → needs g s (Event.Change w p k v) ≡ true → Low (happens g s (Event.Change w p k v))
  low_change w p k v young m =
      let c = few_change g s w p k v m in
      let who = h.worker w c.1 in
      by_record b n s w a r (r ∷ (s.worker w).changes) l who.0 who.1 c.1 (met_pages s w l.top l.up_to (p ∷ [])) refl
      (less (suc (suc (length (s.worker w).changes))) (left_to (s.worker w)) (suc (suc (length (s.worker w).changes))) 66 refl (left_low (s.worker w) young) (let q = c.0 in omega arith))
    where
      a : Worker
      a = at_pages s w (s.worker w) (p ∷ [])

      r : Entry
      r = write_entry g Kind.Change s w a p k v

  low_back : (w p : ℕ) (cs : List Entry) → (s.worker w).is_open ≡ true → (s.worker w).changes ≡ cs → Low (put_back g s w p cs)
  low_back w p [] going e = l
  low_back w p (c ∷ cs) going e = let who = h.worker w going in by_record b n s w a r cs l who.0 who.1 going (met_pages s w l.top l.up_to (p ∷ [])) refl fewer
    where
      a : Worker
      a = at_pages s w (s.worker w) (p ∷ [])

      r : Entry
      r = write_entry g Kind.Put_back s w a p c.key c.before

      many : length (s.worker w).changes ≡ suc (length cs)
      many = ap (λ (x : List Entry). length x) e

      fewer : suc (length cs) < left_to (s.worker w)
      fewer = go (cases_lt (s.worker w).clock (2 ^ 62))
        where
          go : ((s.worker w).clock < 2 ^ 62) ⊎ (2 ^ 62 ≤ (s.worker w).clock) → suc (length cs) < left_to (s.worker w)
          go (inl low) = less (suc (length cs)) (left_to (s.worker w)) (suc (length cs)) 66 refl (left_low (s.worker w) low) (let m = many in let q = h.few w in omega arith)
          go (inr far) = less (suc (length cs)) (left_to (s.worker w)) (suc (length cs)) (suc (length (s.worker w).changes)) refl (left_high (s.worker w) far going) (let m = many in omega arith)

  low_moves : (kind : Kind) (w : ℕ) (ps : List ℕ) (x : Record) → (s.worker w).is_open ≡ true → (s.worker w).clock < 2 ^ 62 → Low (moves s kind w ps x)
  low_moves kind w ps x going young = stepped (met_pages s w l.top l.up_to ps)
    where
      a : Worker
      a = at_pages s w (s.worker w) ps

      stepped : Met l.top (s.worker w) a → Low (records_in s w a (page_entry kind s w a ps x) a.changes)
      stepped m = let who = h.worker w going in by_record b n s w a (page_entry kind s w a ps x) a.changes l who.0 who.1 going m refl
          (less (suc (length a.changes)) (left_to (s.worker w)) (suc (length a.changes)) 66 refl (left_low (s.worker w) young) (let e = many in let q = h.few w in omega arith))
        where
          many : length a.changes ≡ length (s.worker w).changes
          many = ap (λ (y : List Entry). length y) m.changes

  low_end : (w : ℕ) (commit : Bool) (f : ℕ) → (s.worker w).is_open ≡ true → Low (happens g s (Event.End w commit f))
  low_end w commit f going = let who = h.worker w going in by_number b n s (happens g s (Event.End w commit f)) w (finished (s.worker w) (suc (s.worker w).clock)) l who.0 who.1 refl (omega arith) (let c = l.up_to.clock w in omega arith) up
      (λ far. less (left_to (finished (s.worker w) (suc (s.worker w).clock))) (left_to (s.worker w)) 0 (left_to (s.worker w)) (left_none (finished (s.worker w) (suc (s.worker w).clock)) far refl) refl (left_some (s.worker w) going))
    where
      before : AreUpTo s (max l.top (suc (s.worker w).clock))
      before = up_more s l.top (max l.top (suc (s.worker w).clock)) (omega arith) l.up_to

      up : AreUpTo (happens g s (Event.End w commit f)) (max l.top (suc (s.worker w).clock))
      up = record {
        page = before.page;
        saved = before.saved;
        row = before.row;
        read_end = before.read_end;
        clock = clocks s w (finished (s.worker w) (suc (s.worker w).clock)) (max l.top (suc (s.worker w).clock)) before (omega arith);
        end = ends s w (finished (s.worker w) (suc (s.worker w).clock)) (max l.top (suc (s.worker w).clock)) before (omega arith);
      }

  low_sync : (k : ℕ) → k ≡ most (λ w. (s.worker w).clock) g.workers → Low (synced s k)
  low_sync k is = record {
    top = l.top;
    up_to = record { page = l.up_to.page; saved = l.up_to.saved; row = l.up_to.row; read_end = l.up_to.read_end; clock = λ w. let a = l.up_to.clock w in let c = most_up (λ w. (s.worker w).clock) n l.top l.up_to.clock in let e = is in omega arith; end = l.up_to.end };
    room = let a = left_all s.worker k n h.few in let c = l.room in omega arith;
  }

  -- ## Every event

  low_event : (e : Event) → IsTame s e → needs g s e ≡ true → Low (happens g s e)
  low_event (Event.Begin w f) t m = low_begin w f t m
  low_event (Event.Lock w i mode) t m = low_lock w i mode (and_parts (s.worker w).is_open (may_hold (s.row i) w mode) m).0
  low_event (Event.Read w p k a) t m = low_met w (happens g s (Event.Read w p k a)) (p ∷ []) (and_parts (s.worker w).is_open (holds_row (s.row (g.row_of k)) w && (ltb p g.format.pages && holds (s.page p).node k)) (and_parts (may_read g s w p k) (is_value a (value_in g.format (s.page p).node k)) m).0).0 refl refl refl refl
  low_event (Event.Next w p k a) t m = low_follows w p a (and_parts (s.worker w).is_open (is_leaf_of g (s.page p).node p k && (is_following a (following g.format k (s.page p).node.pairs (s.page p).node.high) && holds_answer g s w a)) m).0
  low_event (Event.Change w p k v) t m = low_change w p k v t m
  low_event (Event.Put_back w p) t m = low_back w p (s.worker w).changes (and_parts (s.worker w).is_open (may_put_back g (s.page p).node p (s.worker w).changes) m).0 refl
  low_event (Event.Split w x r q i) t m = low_moves Kind.Split w (x ∷ r ∷ q ∷ []) (record_needs.split_record (nodes_of s) (gsns_of s) x r q i) (and_parts (s.worker w).is_open (may_split g (nodes_of s) x r q i) m).0 t
  low_event (Event.Lift w c) t m = low_moves Kind.Lift w (0 ∷ c ∷ []) (record_needs.lift_record (nodes_of s) (gsns_of s) c) (and_parts (s.worker w).is_open (may_lift g (nodes_of s) c) m).0 t
  low_event (Event.Join w x r q) t m = low_moves Kind.Join w (x ∷ r ∷ q ∷ []) (record_needs.join_record (nodes_of s) (gsns_of s) x r q) (and_parts (s.worker w).is_open (may_join g (nodes_of s) x r q) m).0 t
  low_event (Event.Drop w c) t m = low_moves Kind.Drop w (0 ∷ c ∷ []) (record_needs.drop_record (nodes_of s) (gsns_of s) c) (and_parts (s.worker w).is_open (may_drop (nodes_of s) c) m).0 t
  low_event (Event.Purge w p keys) t m = low_moves Kind.Purge w (p ∷ []) (record_needs.purge_record (gsns_of s) p keys) (and_parts (s.worker w).is_open (may_purge g (nodes_of s) p keys && all_keys (λ k. is_settled g s k) keys) m).0 t
  low_event (Event.End w commit f) t m = low_end w commit f (and_parts (s.worker w).is_open (leb (s.worker w).floor f && (leb f (flushed_by_all g s) && (commit || is_empty (s.worker w).changes))) m).0
  low_event (Event.Unlock w i) t m = low_unlock w i
  low_event (Event.Sync k) t m = low_sync k (eqb-true k (most (λ w. (s.worker w).clock) g.workers) (and_parts (k == most (λ w. (s.worker w).clock) g.workers) (not (is_behind s)) m).0)
  low_event (Event.Fetch p pairs) t m = low_pages (happens g s (Event.Fetch p pairs)) (λ q. at_upd (λ (k : ℕ) (c : Contents). c.gsn ≤ l.top) s.page p (with_pairs pairs (s.saved p)) q (l.up_to.saved p) (λ _. l.up_to.page q))
      (λ q. at_upd (λ (k : ℕ) (c : Contents). c.gsn ≤ l.top) s.saved p (with_pairs pairs (s.saved p)) q (l.up_to.saved p) (λ _. l.up_to.saved q)) refl refl
  low_event (Event.Load p f) t m = low_pages (happens g s (Event.Load p f)) (λ q. at_upd (λ (k : ℕ) (c : Contents). c.gsn ≤ l.top) s.page p (s.saved p) q (l.up_to.saved p) (λ _. l.up_to.page q)) l.up_to.saved refl refl
  low_event (Event.Save p) t m = low_pages (happens g s (Event.Save p)) l.up_to.page (λ q. at_upd (λ (k : ℕ) (c : Contents). c.gsn ≤ l.top) s.saved p (s.page p) q (l.up_to.page p) (λ _. l.up_to.saved q)) refl refl
  low_event (Event.Enter w e) t m = low_same (happens g s (Event.Enter w e)) refl refl refl refl
  low_event (Event.Leave w) t m = low_same (happens g s (Event.Leave w)) refl refl refl refl
  low_event (Event.Peek w p k a) t m = l
  low_event (Event.Flush w k) t m = low_same (happens g s (Event.Flush w k)) refl refl refl refl
  low_event (Event.Post w k) t m = low_same (happens g s (Event.Post w k)) refl refl refl refl
  low_event (Event.Cool p) t m = low_same (happens g s (Event.Cool p)) refl refl refl refl
  low_event (Event.Rescue p) t m = low_same (happens g s (Event.Rescue p)) refl refl refl refl
  low_event (Event.Evict p) t m = low_same (happens g s (Event.Evict p)) refl refl refl refl
  low_event Event.Tick t m = low_same (happens g s Event.Tick) refl refl refl refl
  low_event (Event.Cut x heads) t m = low_same (happens g s (Event.Cut x heads)) refl refl refl refl
  low_event (Event.Ask w) t m = l
  low_event (Event.Refused w k j) t m = l
  low_event (Event.Miss w) t m = l

-- ## Every run

numbered_step : (b : ℕ) (g : Opening) (s : State) (e : Event) → g.changes ≤ 64 → IsTame s e → AreNumbered b g s → AreNumbered b g (step g s e)
numbered_step b g s e most t h = go (may g s e) refl
  where
    sane : Sane b g s
    sane = record { few = h.few; worker = λ w going. let q = h.worker w going in (q.0, q.1, h.young w going); based = h.based }

    go : (c : Bool) → may g s e ≡ c → AreNumbered b g (cond c (happens g s e) s)
    go true m = let q = (and_parts (are_hot s (pages_of e)) (needs g s e) m).1 in let k = sane_event b g s most sane e t q in record { low = low_event b g s most sane h.low e t q; few = k.few; worker = λ w going. let z = k.worker w going in (z.0, z.1); based = k.based; young = λ w going. (k.worker w going).2 }
    go false m = h

pub every_number : EveryNumber
every_number g b s [] few h t = h
every_number g b s (e ∷ es) few h t = every_number g b (step g s e) es few (numbered_step b g s e few t.0 h) t.1

pub every_start : EveryStart
every_start g s base up clock closed none = record { low = go (cases_lt base (2 ^ 62)); few = λ w. let e = ap (λ (l : List Entry). length l) (none w) in omega arith; worker = λ w e. absurd (true≢false (sym e ∙ closed w)); based = λ w. let e = clock w in omega arith; young = λ w e. absurd (true≢false (sym e ∙ closed w)) }
  where
    nothing : 2 ^ 62 ≤ base → (k : ℕ) → left_to_all s.worker k ≡ 0
    nothing far zero = refl
    nothing far (suc k) = let a = nothing far k in let c = left_none (s.worker (suc k)) (let e = clock (suc k) in let q = far in omega arith) (closed (suc k)) in omega arith

    go : (base < 2 ^ 62) ⊎ (2 ^ 62 ≤ base) → AreLow base g.workers s
    go (inl low) = by_end base g.workers s base up low
    go (inr far) = record { top = base; up_to = up; room = let e = nothing far g.workers in omega arith }

-- what is left to one is left to all
left_in : (f : ℕ → Worker) (w n : ℕ) → 0 < w → w ≤ n → left_to (f w) ≤ left_to_all f n
left_in f w zero some high = absurd (omega arith)
left_in f w (suc n) some high = go (left_in f w n some) (cases_eq w (suc n))
  where
    go : (w ≤ n → left_to (f w) ≤ left_to_all f n) → (w ≡ suc n) ⊎ (w ≡ suc n → ⊥) → left_to (f w) ≤ left_to_all f (suc n)
    go before (inl e) = let q = ap (λ (v : ℕ). left_to (f v)) e in omega arith
    go before (inr ne) = let q = before (elim (cases_lt n w) [ inl x ↦ absurd (ne (let y = x in let z = high in omega arith)) | inr x ↦ x ]) in omega arith

pub every_next : EveryNext
every_next base g s h w going = let who = h.worker w going in let a = left_some (s.worker w) going in let c = left_in s.worker w g.workers who.0 who.1 in let r = h.low.room in let y = h.young w going in omega arith
