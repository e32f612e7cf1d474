-- What events make of a place in memory, and when they may happen there.
use Rattle.std.proofs.Common.{◌≡◌, ℕ, suc, ◌<◌, ◌≤◌, Bool, true, false, cond, List, [], ◌∷◌, length, get_or, set, length-set, Option, refl, sym, ap, ◌∙◌, subst, arith}
use Rattle.std.proofs.lemmas.Bool.{cond-false}
use Rattle.map_model.specs.Lists.{upd}
use Rattle.page_model.specs.Pairs.{find, put}
use Rattle.core_commit.specs.image_model.Entries.{Kind, Entry, is_commit, is_record, Contents}
use Rattle.core_commit.specs.core_state.States.{State, Worker, is_hot}
use Rattle.core_commit.specs.core_state.Openings.{Opening}
use Rattle.core_commit.specs.core_state.Events.{Event}
use Rattle.core_commit.specs.core_state.Needs.{is_held_by}
use Rattle.core_commit.specs.core_state.Steps.{touch, at_pages, at_row, begun, finished, end_entry, read_entry, write_entry, writes, reads, happens}
use Rattle.flush_avoidance.specs.Clocks as clocks
use Rattle.transactions.specs.declared.hindrance.Mode as modes
use Rattle.transactions.specs.Memory.{mode_of}
use Rattle.transactions.proofs.RowLemmas.{upd_here}
use Rattle.mem_journal.specs.declared.worker.Worker as own
use Rattle.mem_journal.specs.declared.log.What.TheVariants.{Wrote, Ended}
use Rattle.mem_journal.specs.Rows.{IsRow, row_locked, row_unlocked}
use Rattle.mem_journal.specs.Workers.{IsLike, IsWorker, HasRecord, no_worker, committed}
use Rattle.mem_journal.specs.Views.{View, worker_at, row_at, no_row, with_worker, after_begin, after_lock, after_read, after_write, after_end, after_unlock, after_flush}
use Rattle.mem_journal.specs.Places.{Pictures}
use Rattle.mem_journal.specs.Logs.{count_of}
use Rattle.mem_journal.proofs.LogLemmas.{logs_set}
use Rattle.mem_journal.proofs.RowLemmas.{locked_row, unlocked_row}
use Rattle.mem_journal.proofs.WorkerLemmas.{each_set, upd_apart, still, record_more, like_touch, like_row, like_begun, like_next, like_end, end_stands, ends_in}

-- ## One worker stepped

-- its worker is another, and no record is lost
workers_set : (g : Opening) (s t : State) (v : View) (w : ℕ) (a : Worker) (b : own.Worker) → Pictures g s v → w < length v.workers → t.worker ≡ upd s.worker w a → t.flushed ≡ s.flushed → ((i n : ℕ) → HasRecord s.entries i n → HasRecord t.entries i n) →
    IsLike a b → b.flushed ≡ (worker_at v w).flushed → (b.flushed < b.end → HasRecord t.entries w b.end) → (i : ℕ) → i < length (set v.workers w b) → IsWorker t i (get_or (set v.workers w b) i no_worker)
workers_set g s t v w a b p l e f more like fl ended =
    each_set (λ i x. IsWorker s i x) (λ i x. IsWorker t i x) v.workers no_worker w b l
    (λ i n x y. still s t i x (ap (λ (h : ℕ → Worker). h i) e ∙ upd_apart s.worker w i a n) (ap (λ (h : ℕ → ℕ). h i) f) (more i) y) p.worker
    (record {
      like = subst (λ (c : Worker). IsLike c b) (sym (ap (λ (h : ℕ → Worker). h w) e ∙ upd_here s.worker w a)) like;
      flushed = ap (λ (h : ℕ → ℕ). h w) f ∙ ((p.worker w l).flushed ∙ sym fl);
      ended = ended;
    })

others_still : (g : Opening) (s t : State) (v : View) (w : ℕ) (a : Worker) (j : ℕ) → Pictures g s v → w < length v.workers → t.worker ≡ upd s.worker w a → length v.workers ≤ j → (t.worker j).clock ≡ v.base
others_still g s t v w a j p l e n = ap (λ (c : Worker). c.clock) (ap (λ (h : ℕ → Worker). h j) e ∙ upd_apart s.worker w j a (λ q. absurd (omega arith))) ∙ p.other j n

-- nothing but the worker and entries that are no commits
stepped : (g : Opening) (s t : State) (v : View) (w : ℕ) (a : Worker) (b : own.Worker) → Pictures g s v → w < length v.workers → t.worker ≡ upd s.worker w a → t.flushed ≡ s.flushed → ((i n : ℕ) → HasRecord s.entries i n → HasRecord t.entries i n) →
    IsLike a b → b.flushed ≡ (worker_at v w).flushed → b.end ≡ (worker_at v w).end → t.page ≡ s.page → t.place ≡ s.place → t.row ≡ s.row → committed t.entries ≡ committed s.entries → ((i : ℕ) → count_of t.entries i ≡ count_of s.entries i) → Pictures g t (with_worker v w b)
stepped g s t v w a b p l e f more like fl en page place row journal counts = record {
  workers = length-set v.workers w b ∙ p.workers;
  few = subst (λ (n : ℕ). n ≤ 17) (sym (length-set v.workers w b)) p.few;
  logs = p.logs;
  pages = p.pages;
  room = p.room;
  dead = p.dead;
  live = ap (λ (h : ℕ → Contents). (h 0).node.live) page ∙ p.live;
  level = ap (λ (h : ℕ → Contents). (h 0).node.level) page ∙ p.level;
  low = ap (λ (h : ℕ → Contents). (h 0).node.low) page ∙ p.low;
  high = ap (λ (h : ℕ → Contents). (h 0).node.high) page ∙ p.high;
  pairs = ap (λ (h : ℕ → Contents). (h 0).node.pairs) page ∙ p.pairs;
  number = ap (λ (h : ℕ → Contents). (h 0).gsn) page ∙ p.number;
  log = ap (λ (h : ℕ → Contents). (h 0).last) page ∙ p.log;
  hot = ap (λ h. is_hot (h 0)) place ∙ p.hot;
  row = λ i n. subst (λ h. IsRow (h i) (row_at v i)) (sym row) (p.row i n);
  worker = workers_set g s t v w a b p l e f more like fl (λ n. more w b.end (subst (λ (m : ℕ). HasRecord s.entries w m) (sym en) ((p.worker w l).ended (let q : b.flushed ≡ (worker_at v w).flushed = fl in let r : b.end ≡ (worker_at v w).end = en in omega arith))));
  other = λ j n. others_still g s t v w a j p l e (subst (λ (m : ℕ). m ≤ j) (length-set v.workers w b) n);
  records = λ i m. p.records i m ∙ sym (counts i);
  journal = p.journal ∙ sym journal;
}

-- the leaf's stamp was met
met : (w : ℕ) (s : State) (v : View) (g : Opening) (a : Worker) (b : own.Worker) → Pictures g s v → IsLike a b → IsLike (touch w a (s.page 0).gsn (s.page 0).last) (record b { clock = clocks.after_touch w b.clock v.number v.log })
met w s v g a b p x =
    subst (λ (n : ℕ). IsLike (touch w a n (s.page 0).last) (record b { clock = clocks.after_touch w b.clock v.number v.log })) (sym p.number)
    (subst (λ (n : ℕ). IsLike (touch w a v.number n) (record b { clock = clocks.after_touch w b.clock v.number v.log })) (sym p.log) (like_touch w a b v.number v.log x))

-- ## Events

pub begins : (g : Opening) (s : State) (v : View) (w f : ℕ) → Pictures g s v → w < length v.workers → Pictures g (happens g s (Event.Begin w f)) (after_begin v w f)
begins g s v w f p l =
    stepped g s (happens g s (Event.Begin w f)) v w (begun (s.worker w) f) (record (worker_at v w) { clock = clocks.after_begin (worker_at v w).clock f; txn = suc (worker_at v w).txn }) p l
    refl refl (λ i n h. h) (like_begun f (s.worker w) (worker_at v w) (p.worker w l).like) refl refl refl refl refl refl (λ i. refl)

pub looks : (g : Opening) (s : State) (v : View) (w k : ℕ) (answer : Option ℕ) → Pictures g s v → w < length v.workers → Pictures g (happens g s (Event.Read w 0 k answer)) (after_read v w)
looks g s v w k answer p l =
    let r = read_entry w (at_pages s w (s.worker w) (0 ∷ [])) k (Rattle.core_commit.specs.image_model.Entries.word_in g.format (s.page 0).node k) (is_held_by (s.row (g.row_of k)).holder w) in
    stepped g s (happens g s (Event.Read w 0 k answer)) v w (touch w (s.worker w) (s.page 0).gsn (s.page 0).last) (record (worker_at v w) { clock = clocks.after_touch w (worker_at v w).clock v.number v.log }) p l
    refl refl (λ i n h. record_more r s.entries i n h) (met w s v g (s.worker w) (worker_at v w) p (p.worker w l).like) refl refl refl refl refl refl (λ i. refl)

pub locks : (g : Opening) (s : State) (v : View) (w i : ℕ) (mode : modes.Mode) → Pictures g s v → w < length v.workers → w < 17 → i < length v.rows → Pictures g (happens g s (Event.Lock w i (mode_of mode))) (after_lock v w i mode)
locks g s v w i mode p l few n =
    let r = row_at v i in
    let b : own.Worker = record (worker_at v w) { clock = clocks.after_raise (clocks.after_touch w (worker_at v w).clock r.number r.log) r.read_end } in
    let t = happens g s (Event.Lock w i (mode_of mode)) in
    record {
      workers = length-set v.workers w b ∙ p.workers;
      few = subst (λ (n : ℕ). n ≤ 17) (sym (length-set v.workers w b)) p.few;
      logs = p.logs;
      pages = p.pages;
      room = p.room;
      dead = p.dead;
      live = p.live;
      level = p.level;
      low = p.low;
      high = p.high;
      pairs = p.pairs;
      number = p.number;
      log = p.log;
      hot = p.hot;
      row = each_set (λ j x. IsRow (s.row j) x) (λ j x. IsRow (t.row j) x) v.rows no_row i (row_locked r w mode) n (λ j ne x y. subst (λ o. IsRow o x) (sym (upd_apart s.row i j _ ne)) y) p.row
          (subst (λ o. IsRow o (row_locked r w mode)) (sym (upd_here s.row i _)) (locked_row (s.row i) r w mode few (p.row i n)));
      worker = workers_set g s t v w (at_row w (s.worker w) (s.row i)) b p l refl refl (λ j m h. h) (like_row w (s.worker w) (worker_at v w) (s.row i) r (p.row i n) (p.worker w l).like) refl (p.worker w l).ended;
      other = λ j m. others_still g s t v w (at_row w (s.worker w) (s.row i)) j p l refl (subst (λ (k : ℕ). k ≤ j) (length-set v.workers w b) m);
      records = p.records;
      journal = p.journal;
    }

pub unlocks : (g : Opening) (s : State) (v : View) (w i : ℕ) → Pictures g s v → w < length v.workers → w < 17 → i < length v.rows → Pictures g (happens g s (Event.Unlock w i)) (after_unlock v w i)
unlocks g s v w i p l few n =
    let r = row_at v i in
    let t = happens g s (Event.Unlock w i) in
    let now = row_unlocked r w (worker_at v w).end in
    record {
      workers = p.workers;
      few = p.few;
      logs = p.logs;
      pages = p.pages;
      room = p.room;
      dead = p.dead;
      live = p.live;
      level = p.level;
      low = p.low;
      high = p.high;
      pairs = p.pairs;
      number = p.number;
      log = p.log;
      hot = p.hot;
      row = each_set (λ j x. IsRow (s.row j) x) (λ j x. IsRow (t.row j) x) v.rows no_row i now n (λ j ne x y. subst (λ o. IsRow o x) (sym (upd_apart s.row i j _ ne)) y) p.row
          (subst (λ o. IsRow o now) (sym (upd_here s.row i _)) (subst (λ (m : ℕ). IsRow (Rattle.core_commit.specs.core_state.Steps.unlocked (s.row i) w m) now) (sym (p.worker w l).like.end) (unlocked_row (s.row i) r w (worker_at v w).end few (p.row i n))));
      worker = λ j m. let x = p.worker j m in record { like = x.like; flushed = x.flushed; ended = x.ended };
      other = p.other;
      records = p.records;
      journal = p.journal;
    }

pub ends : (g : Opening) (s : State) (v : View) (w : ℕ) (commit : Bool) (f : ℕ) → Pictures g s v → w < length v.workers → w < length v.logs → Pictures g (happens g s (Event.End w commit f)) (after_end v w commit f)
ends g s v w commit f p l in_log =
    let x = (p.worker w l).like in
    let b : own.Worker = record (worker_at v w) { clock = clocks.after_next (worker_at v w).clock; end = suc (worker_at v w).clock.clock } in
    let r = end_entry (cond commit Kind.Commit Kind.Abort) w (s.worker w) f in
    let t = happens g s (Event.End w commit f) in
    record {
      workers = length-set v.workers w b ∙ p.workers;
      few = subst (λ (n : ℕ). n ≤ 17) (sym (length-set v.workers w b)) p.few;
      logs = length-set v.logs w _ ∙ p.logs;
      pages = p.pages;
      room = p.room;
      dead = p.dead;
      live = p.live;
      level = p.level;
      low = p.low;
      high = p.high;
      pairs = p.pairs;
      number = p.number;
      log = p.log;
      hot = p.hot;
      row = p.row;
      worker = workers_set g s t v w (finished (s.worker w) (suc (s.worker w).clock)) b p l refl refl (λ j m h. record_more r s.entries j m h) (like_end (s.worker w) (worker_at v w) x) refl
          (λ n. end_stands w f commit (s.worker w) (worker_at v w) s.entries x);
      other = λ j m. others_still g s t v w (finished (s.worker w) (suc (s.worker w).clock)) j p l refl (subst (λ (k : ℕ). k ≤ j) (length-set v.workers w b) m);
      records = logs_set r s.entries v.logs w (record { number = suc (worker_at v w).clock.clock; what = Ended commit }) in_log (is_end commit) refl p.records;
      journal = ends_in w f commit (s.worker w) (worker_at v w) s.entries v.journal x p.journal;
    }
  where
    is_end : (c : Bool) → is_record (cond c Kind.Commit Kind.Abort) ≡ true
    is_end true = refl
    is_end false = refl

pub flushes : (g : Opening) (s : State) (v : View) (w : ℕ) → Pictures g s v → w < length v.workers → Pictures g (happens g s (Event.Flush w (s.worker w).end)) (after_flush v w)
flushes g s v w p l =
    let b : own.Worker = record (worker_at v w) { flushed = (worker_at v w).end } in
    let t = happens g s (Event.Flush w (s.worker w).end) in
    let x = p.worker w l in
    record {
      workers = length-set v.workers w b ∙ p.workers;
      few = subst (λ (n : ℕ). n ≤ 17) (sym (length-set v.workers w b)) p.few;
      logs = p.logs;
      pages = p.pages;
      room = p.room;
      dead = p.dead;
      live = p.live;
      level = p.level;
      low = p.low;
      high = p.high;
      pairs = p.pairs;
      number = p.number;
      log = p.log;
      hot = p.hot;
      row = p.row;
      worker = each_set (λ i y. IsWorker s i y) (λ i y. IsWorker t i y) v.workers no_worker w b l
          (λ i ne y h. record { like = h.like; flushed = upd_apart s.flushed w i (s.worker w).end ne ∙ h.flushed; ended = h.ended }) p.worker
          (record { like = record { clock = x.like.clock; floor = x.like.floor; debt = x.like.debt; txn = x.like.txn; end = x.like.end }; flushed = upd_here s.flushed w (s.worker w).end ∙ x.like.end; ended = λ n. absurd (omega arith) });
      other = λ j m. p.other j (subst (λ (k : ℕ). k ≤ j) (length-set v.workers w b) m);
      records = p.records;
      journal = p.journal;
    }

-- a write that is entered, of either kind
wrote : (g : Opening) (s t : State) (v : View) (w k x : ℕ) (r : Entry) (changes : List Entry) → Pictures g s v → w < length v.workers → w < length v.logs →
    t.worker ≡ upd s.worker w (let a = touch w (s.worker w) (s.page 0).gsn (s.page 0).last in record a { clock = suc a.clock; changes = changes }) → t.flushed ≡ s.flushed → t.entries ≡ r ∷ s.entries → is_commit r.kind ≡ false → is_record r.kind ≡ true → r.log ≡ w →
    t.page 0 ≡ record { gsn = suc (touch w (s.worker w) (s.page 0).gsn (s.page 0).last).clock; last = w; node = record (s.page 0).node { pairs = put k x (s.page 0).node.pairs } } → t.place ≡ s.place → t.row ≡ s.row → Pictures g t (after_write v w k x)
wrote g s t v w k x r changes p l in_log worker fl entries other_kind kind of_log page place row =
    let a = touch w (s.worker w) (s.page 0).gsn (s.page 0).last in
    let c : own.Worker = record (worker_at v w) { clock = clocks.after_touch w (worker_at v w).clock v.number v.log } in
    let b : own.Worker = record (worker_at v w) { clock = clocks.after_next c.clock } in
    let like = met w s v g (s.worker w) (worker_at v w) p (p.worker w l).like in
    let more : (i n : ℕ) → HasRecord s.entries i n → HasRecord t.entries i n = λ i n h. subst (λ (es : List Entry). HasRecord es i n) (sym entries) (record_more r s.entries i n h) in
    record {
      workers = length-set v.workers w b ∙ p.workers;
      few = subst (λ (n : ℕ). n ≤ 17) (sym (length-set v.workers w b)) p.few;
      logs = length-set v.logs w _ ∙ p.logs;
      pages = p.pages;
      room = p.room;
      dead = p.dead;
      live = ap (λ (h : Contents). h.node.live) page ∙ p.live;
      level = ap (λ (h : Contents). h.node.level) page ∙ p.level;
      low = ap (λ (h : Contents). h.node.low) page ∙ p.low;
      high = ap (λ (h : Contents). h.node.high) page ∙ p.high;
      pairs = ap (λ (h : Contents). h.node.pairs) page ∙ ap (put k x) p.pairs;
      number = ap (λ (h : Contents). h.gsn) page ∙ ap suc like.clock;
      log = ap (λ (h : Contents). h.last) page;
      hot = ap (λ h. is_hot (h 0)) place ∙ p.hot;
      row = λ i n. subst (λ h. IsRow (h i) (row_at v i)) (sym row) (p.row i n);
      worker = workers_set g s t v w (record a { clock = suc a.clock; changes = changes }) b p l worker fl more (like_next a c changes like) refl (λ n. more w b.end ((p.worker w l).ended n));
      other = λ j m. others_still g s t v w (record a { clock = suc a.clock; changes = changes }) j p l worker (subst (λ (k : ℕ). k ≤ j) (length-set v.workers w b) m);
      records = λ i m. logs_set r s.entries v.logs w (record { number = b.clock.clock; what = Wrote k (find k v.pairs) x }) in_log kind of_log p.records i m ∙ sym (ap (λ (es : List Entry). count_of es i) entries);
      journal = p.journal ∙ sym (ap committed entries ∙ cond-false (is_commit r.kind) _ (committed s.entries) other_kind);
    }

pub changes : (g : Opening) (s : State) (v : View) (w k x : ℕ) → Pictures g s v → w < length v.workers → w < length v.logs → Pictures g (happens g s (Event.Change w 0 k x)) (after_write v w k x)
changes g s v w k x p l in_log =
    let r = write_entry g Kind.Change s w (at_pages s w (s.worker w) (0 ∷ [])) 0 k x in
    wrote g s (happens g s (Event.Change w 0 k x)) v w k x r (r ∷ (s.worker w).changes) p l in_log refl refl refl refl refl refl refl refl refl

pub puts_back : (g : Opening) (s : State) (v : View) (w : ℕ) (c : Entry) (cs : List Entry) → (s.worker w).changes ≡ c ∷ cs → Pictures g s v → w < length v.workers → w < length v.logs → Pictures g (happens g s (Event.Put_back w 0)) (after_write v w c.key c.before)
puts_back g s v w c cs e p l in_log =
    let r = write_entry g Kind.Put_back s w (at_pages s w (s.worker w) (0 ∷ [])) 0 c.key c.before in
    subst (λ (t : State). Pictures g t (after_write v w c.key c.before)) (sym (ap (Rattle.core_commit.specs.core_state.Steps.put_back g s w 0) e))
    (wrote g s (writes g s Kind.Put_back w 0 c.key c.before (λ _. cs)) v w c.key c.before r cs p l in_log refl refl refl refl refl refl refl refl refl)
