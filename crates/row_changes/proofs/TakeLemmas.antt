-- The taking of a lock row.
use Rattle.std.proofs.Common.{◌≡◌, ◌⊎◌, inl, inr, ◌↔◌, ◌≤◌, ◌<◌, ◌%◌, ◌++◌, ◌==◌, ◌&&◌, ◌||◌, ℕ, max, Bool, true, false, cond, not, List, [], ◌∷◌, length, Some, refl, sym, ap, ◌∙◌, subst, arith, true≢false, append-nil, eq-eqb}
use Rattle.std.proofs.lemmas.Bool.{cases_eq, ne_eqb}
use Rattle.std.proofs.Math.Bridge.{le_prop}
use Rattle.std.proofs.lemmas.List.{length-append}
use Rattle.map_model.specs.Lists.{Has, upd}
use Rattle.map_model.proofs.ListLemmas.{has_cases, has_left, has_right}
use Rattle.rfa_model.specs.Stamps.{is_remote, owed}
use Rattle.session_state.specs.flush_avoidance.Clocks.{after_raise, after_touch, risen}
use Rattle.session_state.specs.flush_avoidance.declared.Clock.{Clock}
use Rattle.session_state.specs.core_state.Events as happening
use Rattle.session_state.specs.core_state.Needs.{holds_row, is_held_by, is_reader, may, may_hold}
use Rattle.session_state.specs.core_state.States.{Row, State, Worker, flushed_by_all}
use Rattle.session_state.specs.core_state.Steps.{at_row, happens, locked}
use Rattle.session_state.specs.core_calls.LogEvents.{behind}
use Rattle.session_state.specs.core_calls.Refusals.{Hinders}
use Rattle.session_state.proofs.core_calls.HinderLemmas.{every_hinder}
use Rattle.session_state.specs.worker_log.Logs.{Log}
use Rattle.session_state.specs.row_words.declared.event.Event.{Event}
use Rattle.session_state.specs.row_words.declared.event.Event.TheVariants.{Lock}
use Rattle.session_state.specs.row_words.Moments.{event_of, mode_of}
use Rattle.session_state.specs.row_words.Openings.{opening}
use Rattle.session_state.specs.rows_trait.Causes.{EveryLow}
use Rattle.session_state.specs.rows_trait.Views.{AreLow, Shape, after_all, state}
use Rattle.session_state.specs.rows_trait.declared.view.View.{View}
use Rattle.session_state.specs.key_locks.declared.mode.Mode.{Mode}
use Rattle.session_state.specs.key_locks.declared.mode.Mode.TheVariants.{Alone, Shared}
use Rattle.session_state.specs.key_locks.declared.locking.Stamp.{Stamp}
use Rattle.session_state.specs.key_locks.Locking as locking
use Rattle.session_state.specs.key_locks.Rows.{IsRow, core_mode, event_mode}
use Rattle.session_state.specs.Held.{Held, with_row}
use Rattle.session_state.specs.Holds.{AreNumbers, AreRows, Holds, IsOf}
use Rattle.row_changes.specs.Takes.{IsHindered, IsSpent, Takes}
use Rattle.session_state.specs.declared.session.Session.{Session}
use Rattle.session_state.specs.core_covers.Firsts.{first_of}
use Rattle.session_state.proofs.FirstLemmas.{first_same}
use Rattle.session_state.proofs.HoldLemmas.{rows_on}
use Rattle.row_changes.proofs.ConflictLemmas.{blocking_hinders, lone_free}
use Rattle.session_state.proofs.HeldLemmas.{reader_has}
use Rattle.row_changes.proofs.LoneLemmas.{lone_row}
use Rattle.session_state.proofs.Moments.{free_same}
use Rattle.row_changes.proofs.SeenLemmas.{ran_seen, seen_core, still}

no_between : (xs ys : List Event) (e : Event) → (xs ++ ys) ++ e ∷ [] ≡ xs ++ e ∷ [] → ys ≡ []
no_between xs [] e q = refl
no_between xs (y ∷ ys) e q =
    let a = ap (λ zs. length zs) q in
    let b = length-append (xs ++ y ∷ ys) (e ∷ []) in
    let c = length-append xs (y ∷ ys) in
    let d = length-append xs (e ∷ []) in
    absurd (omega arith)

-- ## Touches

-- a session that has met what a row tells
abbrev pub met_session : Session → (number log readers : ℕ) → Session
met_session x number log readers = record x { clock = after_raise (after_touch x.own x.clock number log) readers }

-- step by step, with the row that it takes
pub session_taken : (x : Session) (t r : Clock) (k : Held) (number log readers row : ℕ) → t ≡ after_touch x.own x.clock number log → r ≡ after_raise t readers → k ≡ with_row x.held row →
    (few : x.own ≤ 16) → record x { clock = r; held = k; few = few } ≡ record (met_session x number log readers) { held = with_row x.held row }
session_taken x t r k number log readers row t_is r_is k_is few i = record x { clock = (r_is ∙ ap (λ (c : Clock). after_raise c readers) t_is) i; held = k_is i; few = le_prop few x.few i }

no_max : (a n : ℕ) → n ≤ a → max a n ≡ a
no_max a n le = omega arith

own_of : (n l floor debt : ℕ) → l ≤ 1 → owed 1 floor debt n l ≡ debt
own_of n l floor debt le = go (is_remote 1 floor n l) refl
  where
    parts : (a b c : Bool) → (a && (not b && not c)) ≡ true → (b ≡ false) × (c ≡ false)
    parts true false false e = (refl, refl)
    parts false b c e = absurd (true≢false (sym e))
    parts true true c e = absurd (true≢false (sym e))
    parts true false true e = absurd (true≢false (sym e))

    neither : (l == 1) ≡ false → (l == 0) ≡ false → ⊥
    neither p q = other (cases_eq l 1) (cases_eq l 0)
      where
        other : (l ≡ 1) ⊎ (l ≡ 1 → ⊥) → (l ≡ 0) ⊎ (l ≡ 0 → ⊥) → ⊥
        other (inl e) y = true≢false (sym (eq-eqb l 1 e) ∙ p)
        other x (inl e) = true≢false (sym (eq-eqb l 0 e) ∙ q)
        other (inr x) (inr y) = omega arith

    go : (b : Bool) → is_remote 1 floor n l ≡ b → cond b (max debt n) debt ≡ debt
    go false e = refl
    go true e = let p = parts _ (l == 1) (l == 0) e in absurd (neither p.0 p.1)

-- where its numbers are no more than the clock, and its log is session 1's or none, session 1 stays as it is
met_nothing : (x : Session) (n l r : ℕ) → x.own ≡ 1 → n ≤ x.clock.clock → r ≤ x.clock.clock → l ≤ 1 → met_session x n l r ≡ x
met_nothing x n l r one number ends log =
    (λ i. record x { clock = record x.clock { clock = max (no_max x.clock.clock n number i) r; debt = (ap (λ w. owed w x.clock.floor x.clock.debt n l) one ∙ own_of n l x.clock.floor x.clock.debt log) i } })
    ∙ (λ i. record x { clock = record x.clock { clock = no_max x.clock.clock r ends i } })

-- ## A row that is taken

shared_holds : (o : Row) (w : ℕ) → holds_row (locked o w happening.Mode.Shared) w ≡ true
shared_holds o w = held_case (is_held_by o.holder w) refl
  where
    or_right : (a b : Bool) → b ≡ true → (a || b) ≡ true
    or_right true b e = refl
    or_right false b e = e

    reader_case : (b : Bool) → is_reader w o.readers ≡ b → is_reader w (cond b o.readers (w ∷ o.readers)) ≡ true
    reader_case true e = e
    reader_case false e = ap (λ b. b || is_reader w o.readers) (eq-eqb w w refl)

    held_case : (b : Bool) → is_held_by o.holder w ≡ b → holds_row (cond b o (record o { readers = cond (is_reader w o.readers) o.readers (w ∷ o.readers) })) w ≡ true
    held_case true e = ap (λ b. b || is_reader w o.readers) e
    held_case false e = or_right (is_held_by o.holder w) _ (reader_case (is_reader w o.readers) refl)

alone_held : (o : Row) (w : ℕ) → is_held_by (locked o w happening.Mode.Alone).holder w ≡ true
alone_held o w = go (is_held_by o.holder w) refl
  where
    go : (b : Bool) → is_held_by o.holder w ≡ b → is_held_by (cond b o (record o { holder = Some w; readers = [] })).holder w ≡ true
    go true e = e
    go false e = eq-eqb w w refl

or_left : (a b : Bool) → a ≡ true → (a || b) ≡ true
or_left a b e = ap (λ c. c || b) e

now_held : (o : Row) (w : ℕ) (m : happening.Mode) → holds_row (locked o w m) w ≡ true
now_held o w happening.Mode.Shared = shared_holds o w
now_held o w happening.Mode.Alone = or_left (is_held_by (locked o w happening.Mode.Alone).holder w) (is_reader w (locked o w happening.Mode.Alone).readers) (alone_held o w)

-- ## The rows of a session, with one more

pub with_count : (h : Held) (row : ℕ) → (with_row h row).count ≡ h.count
with_count h row = go (is_reader row h.rows)
  where
    go : (b : Bool) → (cond b h (record { count = h.count; rows = h.rows ++ row ∷ [] })).count ≡ h.count
    go true = refl
    go false = refl

with_has : (h : Held) (row : ℕ) → Has row (with_row h row).rows
with_has h row = go (is_reader row h.rows) refl
  where
    go : (b : Bool) → is_reader row h.rows ≡ b → Has row (cond b h (record { count = h.count; rows = h.rows ++ row ∷ [] })).rows
    go true e = reader_has row h.rows e
    go false e = has_right row h.rows (row ∷ []) (inl refl)

with_more : (h : Held) (row i : ℕ) → Has i h.rows → Has i (with_row h row).rows
with_more h row i t = go (is_reader row h.rows)
  where
    go : (b : Bool) → Has i (cond b h (record { count = h.count; rows = h.rows ++ row ∷ [] })).rows
    go true = t
    go false = has_left i h.rows (row ∷ []) t

with_cases : (h : Held) (row i : ℕ) → Has i (with_row h row).rows → Has i h.rows ⊎ (i ≡ row)
with_cases h row i = go (is_reader row h.rows)
  where
    one : Has i h.rows ⊎ Has i (row ∷ []) → Has i h.rows ⊎ (i ≡ row)
    one (inl t) = inl t
    one (inr (inl e)) = inr e
    one (inr (inr no_more)) = absurd no_more

    go : (b : Bool) → Has i (cond b h (record { count = h.count; rows = h.rows ++ row ∷ [] })).rows → Has i h.rows ⊎ (i ≡ row)
    go true t = inl t
    go false t = one (has_cases i h.rows (row ∷ []) t)

-- ## The session keeps what it has

-- the numbers are those of a session with other rows, whose clock may have risen
pub numbers_on : (x y : Session) (log : Log) (rows : Held) → y ≡ record x { clock = risen x.clock y.clock; held = rows } → x.clock.clock ≤ y.clock.clock → AreNumbers x log → AreNumbers y log
numbers_on x y log rows is le n = subst (λ k. AreNumbers k log) (sym is) (record {
  last = let a = n.last in omega arith;
  order = n.order;
  end = let a = n.end in omega arith;
  room = n.room;
  undo_room = n.undo_room;
  flush_room = n.flush_room;
  hand = n.hand;
  closed_txn = λ q. let a = n.closed_txn q in omega arith;
  txn = let a = n.txn in omega arith;
  few = n.few;
  behind = n.behind;
})

-- where nothing was seen
pub holds_still : (z : Shape) (v w : View) (x : Session) (log : Log) → w.given ≡ v.given → w.seen ≡ v.seen → w.held ≡ v.held → Holds z v x log → Holds z w x log
holds_still z v w x log given seen held h = record {
  alone = h.alone;
  idle = held ∙ h.idle;
  rows = rows_on z v w x.own x.workers x.frames x.held.count given h.rows;
  session = subst (λ m. IsOf x (m.core.worker x.own)) (sym same) h.session;
  first = ap (λ m. first_of m.core x.own) same ∙ h.first;
  numbers = h.numbers;
  flushed = ap (λ m. m.core.flushed x.own) same ∙ h.flushed;
  floor = subst (λ n. x.clock.floor ≤ n) (λ i. flushed_by_all (opening (sym given i)) (sym same i).core) h.floor;
  behind = ap (λ m. behind m.core x.own) same ∙ h.behind;
  held = λ i. subst (λ m. holds_row (m.core.row i) x.own ≡ true ↔ Has i x.held.rows) (sym same) (h.held i);
  within = h.within;
  fewer = h.fewer;
  none = h.none;
  free = free_same v w x.free given (ap (λ m. m.core.page) same) h.free;
  spare = h.spare;
}
  where
    same : state w ≡ state v
    same = still v w given seen

module _ (z : Shape) (v w : View) (x : Session) (log : Log) (h : Holds z v x log) (row : ℕ) (m : happening.Mode) (low : row < x.held.count) (is_open : x.is_open ≡ true)
    (given : w.given ≡ v.given) (held_is : w.held ≡ v.held) (core_is : (state w).core ≡ happens (opening v.given) (state v).core (happening.Event.Lock x.own row m)) where
  abbrev s : State
  s = (state v).core

  abbrev o : Row
  o = s.row row

  abbrev a : Worker
  a = s.worker x.own

  -- the session as it is then
  abbrev y : Session
  y = record (met_session x o.number o.log o.read_end) { held = with_row x.held row }

  now_of : IsOf y (at_row x.own a o)
  now_of = record {
    is_open = h.session.is_open;
    txn = h.session.txn;
    clock = ap (λ n. max (max n o.number) o.read_end) h.session.clock;
    floor = h.session.floor;
    debt = λ i. owed x.own (h.session.floor i) (h.session.debt i) o.number o.log;
    end = h.session.end;
    undo = h.session.undo;
  }

  at_worker : upd s.worker x.own (at_row x.own a o) x.own ≡ at_row x.own a o
  at_worker = ap (λ b. cond b (at_row x.own a o) (s.worker x.own)) (eq-eqb x.own x.own refl)

  at_it : upd s.row row (locked o x.own m) row ≡ locked o x.own m
  at_it = ap (λ b. cond b (locked o x.own m) (s.row row)) (eq-eqb row row refl)

  elsewhere : (i : ℕ) → (i ≡ row → ⊥) → upd s.row row (locked o x.own m) i ≡ s.row i
  elsewhere i ne = ap (λ b. cond b (locked o x.own m) (s.row i)) (ne_eqb i row ne)

  row_held : (i : ℕ) → holds_row (upd s.row row (locked o x.own m) i) x.own ≡ true ↔ Has i (with_row x.held row).rows
  row_held i = go (cases_eq i row)
    where
      go : (i ≡ row) ⊎ (i ≡ row → ⊥) → holds_row (upd s.row row (locked o x.own m) i) x.own ≡ true ↔ Has i (with_row x.held row).rows
      go (inl e) = (λ _. subst (λ k. Has k (with_row x.held row).rows) (sym e) (with_has x.held row), λ _. ap (λ k. holds_row (upd s.row row (locked o x.own m) k) x.own) e ∙ (ap (λ r. holds_row r x.own) at_it ∙ now_held o x.own m))
      go (inr ne) = (λ t. with_more x.held row i ((h.held i).0 (ap (λ r. holds_row r x.own) (sym (elsewhere i ne)) ∙ t)), λ t. ap (λ r. holds_row r x.own) (elsewhere i ne) ∙ (h.held i).1 (old ne (with_cases x.held row i t)))
        where
          old : (i ≡ row → ⊥) → Has i x.held.rows ⊎ (i ≡ row) → Has i x.held.rows
          old no_it (inl t) = t
          old no_it (inr e) = absurd (no_it e)

  row_within : (i : ℕ) → Has i (with_row x.held row).rows → i < (with_row x.held row).count
  row_within i t = go (with_cases x.held row i t)
    where
      go : Has i x.held.rows ⊎ (i ≡ row) → i < (with_row x.held row).count
      go (inl a) = let c = with_count x.held row in let l = h.within i a in omega arith
      go (inr e) = let c = with_count x.held row in omega arith

  -- the worker has the row
  pub lock_mine : holds_row ((state w).core.row row) x.own ≡ true
  lock_mine = ap (λ k. holds_row (k.row row) x.own) core_is ∙ (ap (λ r. holds_row r x.own) at_it ∙ now_held o x.own m)

  pub lock_alone : m ≡ happening.Mode.Alone → is_held_by ((state w).core.row row).holder x.own ≡ true
  lock_alone is = ap (λ k. is_held_by (k.row row).holder x.own) core_is ∙ (ap (λ r. is_held_by r.holder x.own) at_it ∙ (ap (λ k. is_held_by (locked o x.own k).holder x.own) is ∙ alone_held o x.own))

  -- the session holds one row more, and has met what it tells
  pub after_lock : length (with_row x.held row).rows ≤ (with_row x.held row).count → Holds z w y log
  after_lock fewer = record {
    alone = h.alone;
    idle = held_is ∙ h.idle;
    rows = subst (λ n. AreRows z w x.own x.workers x.frames n) (sym (with_count x.held row)) (rows_on z v w x.own x.workers x.frames x.held.count given h.rows);
    session = subst (λ k. IsOf y (k.worker x.own)) (sym core_is) (subst (λ b. IsOf y b) (sym at_worker) now_of);
    first = ap (λ k. first_of k x.own) core_is ∙ (first_same s (happens (opening v.given) s (happening.Event.Lock x.own row m)) x.own (ap (λ k. k.is_open) at_worker) (ap (λ k. k.txn) at_worker) refl ∙ h.first);
    numbers = numbers_on x y log (with_row x.held row) refl (omega arith) h.numbers;
    flushed = ap (λ k. k.flushed x.own) core_is ∙ h.flushed;
    floor = subst (λ n. x.clock.floor ≤ n) (λ i. flushed_by_all (opening (sym given i)) (sym core_is i)) h.floor;
    behind = ap (λ k. behind k x.own) core_is ∙ h.behind;
    held = λ i. subst (λ k. holds_row (k.row i) x.own ≡ true ↔ Has i (with_row x.held row).rows) (sym core_is) (row_held i);
    within = row_within;
    fewer = fewer;
    none = λ q. absurd (true≢false (sym is_open ∙ q));
    free = free_same v w x.free given (ap (λ k. k.page) core_is) h.free;
    spare = h.spare;
  }

-- ## The taking

-- the lock row of a key is that of the opening
pub row_is : (z : Shape) (v : View) (own workers frames count key : ℕ) → AreRows z v own workers frames count → (opening v.given).row_of key ≡ key % count
row_is z v own workers frames count key r = ap (λ n. key % n) r.locks.locks

pub same_mode : (mode : Mode) → mode_of (event_mode mode) ≡ core_mode mode
same_mode Shared = refl
same_mode Alone = refl

module _ (z : Shape) (v w : View) (x : Session) (log : Log) (h : Holds z v x log) (is_open : x.is_open ≡ true) (row : ℕ) (low : row < x.held.count) (mode : Mode) (stamp : Stamp)
    (t : locking.HasLock z.alone x.own row mode v stamp w) (held_is : w.held ≡ v.held) where
  seen : w.seen ≡ v.seen ++ Lock x.own row (event_mode mode) ∷ []
  seen = ran_seen z.alone v w (Lock x.own row (event_mode mode) ∷ []) h.alone t.published.ran

  given : w.given ≡ v.given
  given = t.published.ran.given

  -- others saw nothing meanwhile
  whole : v.seen ++ t.published.between ≡ v.seen
  whole = ap (λ ys. v.seen ++ ys) (no_between v.seen t.published.between (Lock x.own row (event_mode mode)) (sym t.published.seen ∙ seen)) ∙ append-nil v.seen

  met : may (opening v.given) (state v).core (event_of (Lock x.own row (event_mode mode))) ≡ true
  met = subst (λ ys. may (opening v.given) (after_all v.given ys).core (event_of (Lock x.own row (event_mode mode))) ≡ true) whole t.published.met

  core_is : (state w).core ≡ happens (opening v.given) (state v).core (happening.Event.Lock x.own row (mode_of (event_mode mode)))
  core_is = seen_core v w (Lock x.own row (event_mode mode)) given seen met

  abbrev told_row : Row
  told_row = (state v).core.row row

  row_then : told_row ≡ t.row
  row_then = ap (λ ys. (after_all v.given ys).core.row row) (sym whole) ∙ t.published.was

  -- the session that has the row, and has met its stamp
  abbrev pub taken_session : Session
  taken_session = record (met_session x stamp.number stamp.log stamp.readers) { held = with_row x.held row }

  session_is : taken_session ≡ record (met_session x told_row.number told_row.log told_row.read_end) { held = with_row x.held row }
  session_is = λ i. record (met_session x (number i) (log_of i) (readers i)) { held = with_row x.held row }
    where
      number : stamp.number ≡ told_row.number
      number = t.stamped.number ∙ ap (λ o. o.number) (sym row_then)

      log_of : stamp.log ≡ told_row.log
      log_of = t.stamped.log ∙ ap (λ o. o.log) (sym row_then)

      readers : stamp.readers ≡ told_row.read_end
      readers = t.stamped.readers ∙ ap (λ o. o.read_end) (sym row_then)

  pub holds_taken : length (with_row x.held row).rows ≤ (with_row x.held row).count → Holds z w taken_session log
  holds_taken few = subst (λ k. Holds z w k log) (sym session_is) (after_lock z v w x log h row (mode_of (event_mode mode)) low is_open given held_is core_is few)

  pub takes : (y : Session) → y ≡ taken_session → Takes v w x y row mode
  takes y y_is = record {
    given = given;
    seen = seen;
    met = met;
    held = held_is;
    session = subst (λ k. k ≡ record x { clock = risen x.clock k.clock; held = with_row x.held row }) (sym y_is) refl;
    mine = lock_mine z v w x log h row (mode_of (event_mode mode)) low is_open given held_is core_is;
    alone = λ e. lock_alone z v w x log h row (mode_of (event_mode mode)) low is_open given held_is core_is (ap (λ k. mode_of (event_mode k)) e);
  }

-- as the row that another number names
pub takes_row : (v w : View) (x y : Session) (a b : ℕ) (mode : Mode) → a ≡ b → Takes v w x y a mode → Takes v w x y b mode
takes_row v w x y a b mode e t = subst (λ k. Takes v w x y k mode) e t

-- ## A conflict

-- nothing was seen, and the one who blocks the lock hinders it
pub hindered : (z : Shape) (v w : View) (x : Session) (row : ℕ) (mode : Mode) (b : ℕ) → z.alone ≡ true → locking.IsRefused z.alone x.own row mode b v w → IsHindered v w x.own row mode b
hindered z v w x row mode b alone r = record {
  given = r.ran.given;
  seen = seen;
  hinders = subst (λ m. Hinders (m.core.row row) x.own (core_mode mode) b) (still v w r.ran.given seen) (blocking_hinders ((state w).core.row row) x.own (core_mode mode) b r.blocked);
}
  where
    seen : w.seen ≡ v.seen
    seen = ran_seen z.alone v w [] alone r.ran ∙ append-nil v.seen

-- the one session that there is is number 1
pub lone_own : (z : Shape) (v : View) (x : Session) (log : Log) → Holds z v x log → x.workers ≡ 1 → x.own ≡ 1
lone_own z v x log h one = let a = h.rows.low in let b = h.rows.high in omega arith

-- ## A row that is held already

-- to take it shared again leaves it as it is
shared_again : (o : Row) (w : ℕ) → holds_row o w ≡ true → locked o w happening.Mode.Shared ≡ o
shared_again o w e = go (is_held_by o.holder w) refl
  where
    reader : (b : Bool) → b ≡ true → record o { readers = cond b o.readers (w ∷ o.readers) } ≡ o
    reader true p = refl
    reader false p = absurd (true≢false (sym p))

    go : (b : Bool) → is_held_by o.holder w ≡ b → cond b o (record o { readers = cond (is_reader w o.readers) o.readers (w ∷ o.readers) }) ≡ o
    go true p = refl
    go false p = reader (is_reader w o.readers) (sym (ap (λ b. b || is_reader w o.readers) p) ∙ e)

-- who cannot be hindered may take a row
free_may : (o : Row) (w : ℕ) (m : happening.Mode) → ((h : ℕ) → Hinders o w m h → ⊥) → may_hold o w m ≡ true
free_may o w m f = go (may_hold o w m) refl
  where
    go : (b : Bool) → may_hold o w m ≡ b → b ≡ true
    go true e = refl
    go false e = let k = every_hinder o w m e in absurd (f k.0 k.1)

module _ (z : Shape) (v : View) (x : Session) (log : Log) (h : Holds z v x log) (only : x.workers ≡ 1) (row : ℕ) (has : is_reader row x.held.rows ≡ true) where
  abbrev held_row : Row
  held_row = (state v).core.row row

  one : x.own ≡ 1
  one = lone_own z v x log h only

  sound : IsRow 1 held_row
  sound = subst (λ n. IsRow n held_row) (h.rows.workers ∙ only) (h.rows.locks_sound v.seen row)

  pub already : locking.HasAlready held_row x.own (core_mode Shared)
  already = record {
    may = free_may held_row x.own happening.Mode.Shared (λ b k. lone_free held_row x.own happening.Mode.Shared b sound one k);
    same = shared_again held_row x.own ((h.held row).1 (reader_has row x.held.rows has));
  }

  same_held : with_row x.held row ≡ x.held
  same_held = ap (λ b. cond b x.held (record { count = x.held.count; rows = x.held.rows ++ row ∷ [] })) has

  -- the row tells nothing that the session has not met
  same_session : record (met_session x held_row.number held_row.log held_row.read_end) { held = with_row x.held row } ≡ x
  same_session =
      let t = lone_row v (h.rows.workers ∙ only) row in
      let c = subst (λ w. ((state v).core.worker w).clock ≡ x.clock.clock) one h.session.clock in
      (λ i. record (met_nothing x held_row.number held_row.log held_row.read_end one (let n = t.number in omega arith) (let n = t.read_end in omega arith) sound.log i) { held = with_row x.held row }) ∙ ap (λ k. record x { held = k }) same_held

  module _ (w : View) (is_open : x.is_open ≡ true) (low : row < x.held.count) (t : locking.HasAgain z.alone x.own row Shared v w) (held_is : w.held ≡ v.held) where
    abbrev stamp : Stamp
    stamp = record { number = held_row.number; log = held_row.log; readers = held_row.read_end }

    lock_of : locking.HasLock z.alone x.own row Shared v stamp w
    lock_of = record {
      row = held_row;
      published = subst (λ o. locking.IsPublished z.alone (Lock x.own row (event_mode Shared)) row held_row o v w) (sym already.same) t;
      stamped = record { number = refl; log = refl; readers = refl };
    }

    pub holds_again : Holds z w x log
    holds_again = subst (λ k. Holds z w k log) same_session
        (holds_taken z v w x log h is_open row low Shared stamp lock_of held_is (subst (λ k. length k.rows ≤ k.count) (sym same_held) h.fewer))

    pub takes_again : Takes v w x x row Shared
    takes_again = takes z v w x log h is_open row low Shared stamp lock_of held_is x (sym same_session)

-- ## A row that is spent

pub spent : (z : Shape) (v w : View) → z.alone ≡ true → EveryLow → AreLow (length w.seen) w.steps → (row r : ℕ) → locking.IsSpent z.alone row r v w → IsSpent v w
spent z v w alone every low row r s = record {
  given = s.ran.given;
  seen = ran_seen z.alone v w [] alone s.ran ∙ append-nil v.seen;
  many = let q = every (length w.seen) s.found.loads.acts v.steps row s.version (subst (λ ss. AreLow (length w.seen) ss) s.found.loads.steps low) s.found.finds in let l = s.last in omega arith;
}
