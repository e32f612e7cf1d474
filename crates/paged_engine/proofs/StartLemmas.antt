-- Sessions on rows of which page 0 alone is in a frame, and which have done nothing.
use Rattle.std.proofs.Common.{◌≡◌, ◌↔◌, ◌≤◌, ◌<◌, ◌-◌, ◌^◌, ℕ, zero, suc, Bool, true, false, cond, List, [], ◌∷◌, length, refl, sym, ap, ◌∙◌, subst, arith, true≢false}
use Rattle.std.proofs.lemmas.Bool.{and_parts, ltb-true, leb-true}
use Rattle.std.specs.Prelude.{leb, ltb}
use Rattle.map_model.specs.Lists.{Has}
use Rattle.page_model.specs.Nodes.{Node}
use Rattle.page_model.specs.Page.{Page}
use Rattle.rfa_model.proofs.ReachLemmas.{least_from}
use Rattle.paged_desks.specs.core_state.Needs.{holds_row, is_worker}
use Rattle.paged_desks.specs.core_state.Openings.{Opening, start_page}
use Rattle.paged_desks.specs.core_state.States.{State, flushed_by_all, nodes_of, start}
use Rattle.paged_desks.specs.core_calls.LogEvents.{behind}
use Rattle.paged_desks.specs.core_calls.Room.{frees_from}
use Rattle.paged_desks.specs.core_numbers.Numbers.{AreUpTo}
use Rattle.paged_desks.specs.row_numbers.Views.{EveryBegun}
use Rattle.paged_desks.specs.row_words.declared.given.Given.{Given}
use Rattle.paged_desks.specs.row_words.Moments.{format_of}
use Rattle.paged_desks.specs.row_words.Openings.{opening}
use Rattle.paged_desks.specs.rows_trait.Views.{Shape, first_plain, state}
use Rattle.paged_desks.specs.row_opening.Opened.{contents_of, page_at, pages_of}
use Rattle.paged_desks.specs.row_opening.Openings.{EveryOpened, EveryReached, Opens}
use Rattle.paged_desks.specs.row_opening.Rooted.{IsRooted, rooted_of}
use Rattle.paged_desks.specs.btree_descent.Known as descent
use Rattle.paged_desks.specs.key_locks.Rows as locking
use Rattle.paged_desks.specs.key_locks.Rows.{IsWorker}
use Rattle.paged_desks.specs.key_locks.Soundness.{EverySound, unbegun}
use Rattle.paged_desks.specs.worker_log.Logs.{Log}
use Rattle.paged_desks.specs.core_covers.Firsts.{first_of}
use Rattle.paged_desks.specs.session_state.Free.{nodes_in}
use Rattle.paged_desks.specs.session_state.Holds.{AreNumbers, AreRows, Holds, IsOf}
use Rattle.paged_desks.specs.session_state.Numbers.{AreNumbered}
use Rattle.paged_desks.specs.session_state.Opened.{IsFirst, plain_shape}
use Rattle.paged_desks.specs.session_state.Ties.{Behind, Ties}
use Rattle.paged_desks.specs.session_state.Undo.{HasHand}
use Rattle.paged_desks.specs.session_state.declared.session.Session.{Session}
use Rattle.paged_desks.proofs.session_state.EntryNumbers.{entries_clocked}
use Rattle.paged_opening.proofs.BeginLemmas.{pages_long}

-- ## Rows

of_worker : (g : Opening) (w : ℕ) → is_worker g w ≡ true → IsWorker g.workers w
of_worker g w h = let t = and_parts (ltb 0 w) (leb w g.workers) h in record { one = ltb-true 0 w t.0; among = leb-true w g.workers t.1 }

locks_sound : EveryOpened → EverySound → (g : Opening) (v : Given) → v.before ≡ [] → Opens g v → locking.IsSound v
locks_sound every sound g v none o = sound v (λ es i. let l = (every g (unbegun v) (subst (Opens g) (λ i. record v { before = none i }) o) es).locks in record {
  holder = λ w h. of_worker (opening v) w (l.holder i w h);
  reader = λ w h. of_worker (opening v) w (l.reader i w h);
})

-- at the start no number is above the base
up_to : (g : Opening) (base : ℕ) → g.base ≡ base → AreUpTo (start g) base
up_to g base e = record {
  page = λ p. let a = g.low p in omega arith;
  saved = λ p. let a = g.low p in omega arith;
  row = λ i. omega arith;
  read_end = λ i. omega arith;
  clock = λ w. omega arith;
  end = λ w. omega arith;
}

-- pages that are alike have the same free ones
frees_same : (f h : ℕ → Node) → ((p : ℕ) → f p ≡ h p) → (n p : ℕ) → frees_from f n p ≡ frees_from h n p
frees_same f h e zero p = refl
frees_same f h e (suc n) p = let ih = frees_same f h e n (suc p) in (λ i. cond (e p i).live (ih i) (p ∷ ih i))

-- no more than there are
as_few : (f : ℕ → Node) (n p : ℕ) → length (frees_from f n p) ≤ n
as_few f zero p = omega arith
as_few f (suc n) p = let ih = as_few f n (suc p) in go (f p).live ih
  where
    go : (c : Bool) → length (frees_from f n (suc p)) ≤ n → length (cond c (frees_from f n (suc p)) (p ∷ frees_from f n (suc p))) ≤ suc n
    go true h = omega arith
    go false h = omega arith

-- what is so of a first session does not hang on its number
pub first_too : (n : ℕ) (x : Session) (own : ℕ) (free : List ℕ) (few : own ≤ 16) → IsFirst n x → IsFirst n (record x { own = own; free = free; few = few })
first_too n x own free few s = record { group = s.group; behind = s.behind; works = s.works; is_open = s.is_open; txn = s.txn; clock = s.clock; floor = s.floor; debt = s.debt; end = s.end; undo = s.undo; first = s.first; is_half_aborted = s.is_half_aborted; rows = s.rows }

-- ## Where they begin

-- the laws of such rows
pub record Laws : Type 0 where
  pub every : EveryOpened
  pub reached : EveryReached
  pub sound : EverySound
  pub numbers : EveryBegun

-- Such rows, on these pages: so many frames, lock rows and workers, and the base number.
pub record Begun : Type 0 where
  pub pages : List Page
  pub faithful : Bool
  pub frames : ℕ
  pub count : ℕ
  pub many : ℕ
  pub base : ℕ
  pub some_page : 0 < length pages
  pub few_pages : length pages ≤ 65536
  pub some_frame : 1 ≤ frames
  pub few_frames : frames ≤ 65536
  pub some_lock : 1 ≤ count
  pub few_locks : count ≤ 65536
  pub some_worker : 1 ≤ many
  pub few_workers : many ≤ 16
  pub small : base < 2 ^ 64
  pub rooted : IsRooted pages (rooted_of faithful frames count many base pages)
  pub tree_sound : descent.IsSound (rooted_of faithful frames count many base pages)

module _ (laws : Laws) (b : Begun) where
  abbrev v : Given
  v = rooted_of b.faithful b.frames b.count b.many b.base b.pages

  abbrev z : Shape
  z = plain_shape b.frames b.count b.many

  abbrev g : Opening
  g = b.rooted.start

  workers_is : (opening v).workers ≡ b.many
  workers_is = let l = b.some_worker in let e : suc (b.many - 1) ≡ b.many = omega arith in e

  pub base_is : g.base ≡ b.base
  base_is = ap (λ (s : State). (s.worker 0).clock) b.rooted.opens.first

  -- the rows began at the start of the run
  pub rest : (state (first_plain v)).core ≡ start g
  rest = ap (λ m. m.core) b.rooted.rest ∙ sym b.rooted.opens.first

  pub page_is : (p : ℕ) → start_page g p ≡ contents_of (page_at b.pages p)
  page_is p = ap (λ (s : State). s.page p) (sym rest) ∙ b.rooted.page p

  long : suc (length (pages_of b.pages) - 1) ≡ length b.pages
  long = let a = pages_long b.pages in let l = b.some_page in omega arith

  pub format_is : g.format ≡ format_of (length b.pages)
  format_is = b.rooted.opens.format ∙ ap format_of long

  numbered : AreNumbered v
  numbered = record {
    small = b.small;
    few = let e = workers_is in let l = b.few_workers in omega arith;
    begun = laws.numbers v (subst (λ (s : State). AreUpTo s b.base) b.rooted.opens.first (up_to g b.base base_is)) tt;
  }

  frames_is : (opening v).frames ≡ b.frames
  frames_is = let l = b.some_frame in let e : suc (b.frames - 1) ≡ b.frames = omega arith in e

  rows : (own : ℕ) → 0 < own → own ≤ b.many → AreRows z (first_plain v) own b.many b.frames b.count
  rows own low high = record {
    tree = record { some = b.some_frame; shape = refl; given = frames_is };
    tree_sound = b.tree_sound;
    locks = record {
      spans = record { shape = refl; rows = refl; some = b.some_lock; small = let f = b.few_frames in let l = b.few_locks in omega arith };
      given = frames_is;
      locks = refl;
      few = let e = workers_is in let l = b.few_workers in omega arith;
      works = record { one = low; among = let e = workers_is in omega arith };
    };
    locks_sound = locks_sound laws.every laws.sound g v refl b.rooted.opens;
    clocked = entries_clocked laws.reached g v b.rooted.opens;
    numbered = numbered;
    workers = workers_is;
    sized = refl;
    low = low;
    high = high;
    most = b.few_workers;
    few = let l = b.few_locks in omega arith;
    few_pages = let e = long in let l = b.few_pages in omega arith;
  }

  -- ## The run

  pub behind_none : Behind g [] [] (first_plain v)
  behind_none = record { opens = b.rooted.opens; met = tt; seen = refl }

  pub ties_none : (group w : ℕ) → Ties g group [] w false (first_plain v)
  ties_none group w = record { opens = b.rooted.opens; told = tt; half_is = refl; loads = []; are_loads = tt; few = omega arith; met = tt; seen = refl }

  -- ## A session

  module _ (x : Session) (log : Log) (s : IsFirst b.base x) (last : log.last ≡ b.base) (flushed : log.flushed ≡ b.base) (hand : HasHand log) where
    -- of the state, and of the start
    at : (P : State → Type 0) → P (start g) → P (state (first_plain v)).core
    at P p = subst P (sym rest) p

    of_start : IsOf x ((start g).worker x.own)
    of_start = record { is_open = sym s.is_open; txn = sym s.txn; clock = base_is ∙ sym s.clock; floor = base_is ∙ sym s.floor; debt = sym s.debt; end = base_is ∙ sym s.end; undo = sym s.undo }

    numbers : AreNumbers x log
    numbers = record {
      last = let e = last in let k = s.clock in omega arith;
      order = let e = last in let k = flushed in omega arith;
      end = let e = s.end in let k = s.clock in omega arith;
      room = λ q. absurd (true≢false (sym q ∙ s.is_open));
      closed_txn = λ q. let a = s.txn in omega arith;
      txn = let a = s.txn in omega arith;
      undo_room = λ some. let a = ap length s.undo in absurd (omega arith);
      flush_room = λ _ some. let a = ap length s.undo in absurd (omega arith);
      hand = hand;
      few = let a = ap length s.undo in omega arith;
      behind = let e = s.behind in let k = s.group in omega arith;
    }

    floor : x.clock.floor ≤ flushed_by_all (opening v) (state (first_plain v)).core
    floor = at (λ (t : State). x.clock.floor ≤ flushed_by_all (opening v) t)
        (least_from (start g).flushed (opening v).workers x.clock.floor (opening v).some_worker (λ u some high. let e = s.floor in let k = base_is in omega arith))

    module _ (low : 0 < x.own) (high : x.own ≤ b.many) (workers : x.workers ≡ b.many) (frames_are : x.frames ≡ b.frames) (held : x.held.count ≡ b.count) (free : x.free ≡ frees_from (nodes_in b.pages) (length b.pages) 0) where
      rows_are : AreRows z (first_plain v) x.own x.workers x.frames x.held.count
      rows_are =
          subst (λ (n : ℕ). AreRows z (first_plain v) x.own n x.frames x.held.count) (sym workers)
          (subst (λ (n : ℕ). AreRows z (first_plain v) x.own b.many n x.held.count) (sym frames_are)
          (subst (λ (n : ℕ). AreRows z (first_plain v) x.own b.many b.frames n) (sym held) (rows x.own low high)))

      -- it is as between two calls
      pub holding : Holds z (first_plain v) x log
      holding = record {
        alone = refl;
        idle = refl;
        rows = rows_are;
        session = at (λ (t : State). IsOf x (t.worker x.own)) of_start;
        first = at (λ (t : State). first_of t x.own ≡ x.first) (sym s.first);
        numbers = numbers;
        flushed = at (λ (t : State). t.flushed x.own ≡ log.flushed) (base_is ∙ sym flushed);
        floor = floor;
        behind = at (λ (t : State). behind t x.own ≡ x.unflushed) (sym s.behind);
        held = λ i. at (λ (t : State). holds_row (t.row i) x.own ≡ true ↔ Has i x.held.rows) ((λ q. absurd (true≢false (sym q)), λ h. absurd (subst (Has i) s.rows h)));
        within = λ i h. absurd (subst (Has i) s.rows h);
        fewer = let e = ap length s.rows in omega arith;
        none = λ _. s.rows;
        free = free ∙ (frees_same (nodes_in b.pages) (nodes_of (state (first_plain v)).core) (λ p. ap (λ c. c.node) (sym (b.rooted.page p))) (length b.pages) 0 ∙ ap (λ (n : ℕ). frees_from (nodes_of (state (first_plain v)).core) n 0) (sym long));
        spare = let a = ap (λ (ps : List ℕ). length ps) free in let k = as_few (nodes_in b.pages) (length b.pages) 0 in let l = b.few_pages in omega arith;
      }
