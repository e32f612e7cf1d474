-- The read of a key behind its lock.
use Rattle.std.proofs.Common.{◌≡◌, ◌↔◌, ◌≤◌, ◌<◌, ◌%◌, ◌++◌, ◌&&◌, ℕ, max, Bool, true, false, cond, ltb, [], ◌∷◌, Option, Some, None, refl, sym, ap, ◌∙◌, subst, arith, append-nil, eq-eqb, lt-ltb}
use Rattle.map_model.specs.Lists.{Has, upd}
use Rattle.page_model.specs.Nodes.{holds}
use Rattle.rfa_model.specs.Stamps.{owed}
use Rattle.session_state.specs.core_state.States.{State, flushed_by_all, is_hot}
use Rattle.session_state.specs.core_state.Events as happening
use Rattle.session_state.specs.core_state.Needs.{holds_row, is_value, may, value_in}
use Rattle.session_state.specs.core_state.Steps.{at_pages, happens}
use Rattle.session_state.specs.core_calls.LogEvents.{behind as waits}
use Rattle.session_state.specs.worker_log.Logs.{Log}
use Rattle.session_state.specs.row_words.declared.event.Event.{Event}
use Rattle.session_state.specs.row_words.declared.event.Event.TheVariants.{Read}
use Rattle.session_state.specs.row_words.declared.given.Given.{Given}
use Rattle.session_state.specs.row_words.Moments.{Moment}
use Rattle.session_state.specs.row_words.Openings.{opening}
use Rattle.session_state.specs.row_words.Sealed.{stepped}
use Rattle.session_state.specs.rows_trait.declared.view.View.{View}
use Rattle.session_state.specs.rows_trait.Views.{Shape, after_all, state}
use Rattle.session_state.specs.btree_descent.declared.descent.Found.{Found}
use Rattle.session_state.specs.btree_descent.Descents as descents
use Rattle.session_state.specs.btree_descent.Known as pages
use Rattle.session_state.specs.flush_avoidance.Clocks.{after_touch}
use Rattle.row_changes.specs.Reads.{HasRead}
use Rattle.session_state.specs.Holds.{Holds, IsOf}
use Rattle.session_state.specs.declared.session.Session.{Session}
use Rattle.session_state.specs.core_covers.Firsts.{first_of}
use Rattle.session_state.proofs.FirstLemmas.{first_read}
use Rattle.session_state.proofs.HoldLemmas.{rows_on}
use Rattle.session_state.proofs.Moments.{free_same, seen_state}
use Rattle.row_changes.proofs.TakeLemmas.{numbers_on, row_is}
use Rattle.row_changes.proofs.SeenLemmas.{ran_seen, seen_core}

-- it changes entries and its worker alone
record LeavesPages (m n : State) : Type 0 where
  page : n.page ≡ m.page
  place : n.place ≡ m.place

read_pages : (v : Given) (m : Moment) (own p k : ℕ) (a : Option ℕ) → LeavesPages m.core (stepped v m (Read own p k a)).core
unfolding stepped
read_pages v m own p k a = go (may (opening v) m.core (happening.Event.Read own p k a))
  where
    go : (b : Bool) → LeavesPages m.core (cond b (happens (opening v) m.core (happening.Event.Read own p k a)) m.core)
    go true = record { page = refl; place = refl }
    go false = record { page = refl; place = refl }

all_true : (a b c d e f : Bool) → a ≡ true → b ≡ true → c ≡ true → d ≡ true → e ≡ true → f ≡ true → ((a && true) && ((b && (c && (d && e))) && f)) ≡ true
all_true false b c d e f p q r s t u = p
all_true true false c d e f p q r s t u = q
all_true true true false d e f p q r s t u = r
all_true true true true false e f p q r s t u = s
all_true true true true true false f p q r s t u = t
all_true true true true true true f p q r s t u = u

same_value : (a : Option ℕ) → is_value a a ≡ true
same_value None = refl
same_value (Some n) = eq-eqb n n refl

module _ (z : Shape) (v w : View) (x : Session) (log : Log) (h : Holds z v x log) (is_open : x.is_open ≡ true) (key : ℕ) (found : Found) (st : descents.Stamped z.alone x.own key found v w) (held_is : w.held ≡ v.held)
    (row : holds_row ((state v).core.row (key % x.held.count)) x.own ≡ true) where
  mine : holds_row ((state v).core.row ((opening v.given).row_of key)) x.own ≡ true
  mine = ap (λ r. holds_row ((state v).core.row r) x.own) (row_is z v x.own x.workers x.frames x.held.count key h.rows) ∙ row

  abbrev a : descents.Answered z.alone x.own key found.word v w
  a = st.answered

  abbrev e : Event
  e = Read x.own a.page key (pages.said found.word)

  abbrev s : State
  s = (state v).core

  read_given : w.given ≡ v.given
  read_given = a.ran.given

  read_seen : w.seen ≡ v.seen ++ e ∷ []
  read_seen = ran_seen z.alone v w (e ∷ []) h.alone a.ran

  then_is : state w ≡ stepped v.given (state v) e
  then_is = seen_state v w (e ∷ []) read_given read_seen

  leaves : LeavesPages s (state w).core
  leaves = subst (λ m. LeavesPages s m.core) (sym then_is) (read_pages v.given (state v) x.own a.page key (pages.said found.word))

  below : a.page < (opening v.given).format.pages
  below = subst (λ k. a.page < (opening k).format.pages) read_given a.says.below

  hot : is_hot (s.place a.page) ≡ true
  hot = ap (λ f. is_hot (f a.page)) (sym leaves.place) ∙ a.says.hot

  leaf : holds (s.page a.page).node key ≡ true
  leaf = ap (λ f. holds (f a.page).node key) (sym leaves.page) ∙ a.says.leaf

  -- the leaf said it before the read
  read_value : pages.said found.word ≡ value_in (opening v.given).format (s.page a.page).node key
  read_value = a.says.value ∙ (λ i. value_in (opening (read_given i)).format (leaves.page i a.page).node key)

  read_met : may (opening v.given) s (happening.Event.Read x.own a.page key (pages.said found.word)) ≡ true
  read_met = all_true (is_hot (s.place a.page)) (s.worker x.own).is_open (holds_row (s.row ((opening v.given).row_of key)) x.own) (ltb a.page (opening v.given).format.pages) (holds (s.page a.page).node key) (is_value (pages.said found.word) (value_in (opening v.given).format (s.page a.page).node key))
      hot (h.session.is_open ∙ is_open) mine (lt-ltb a.page (opening v.given).format.pages below) leaf (ap (λ k. is_value (pages.said found.word) k) (sym read_value) ∙ same_value (pages.said found.word))

  -- the read is all that happened
  pub has_read : HasRead x.own v w key (pages.said found.word)
  has_read = record { page = a.page; given = read_given; seen = read_seen; met = read_met; told = read_value }

  core_is : (state w).core ≡ happens (opening v.given) s (happening.Event.Read x.own a.page key (pages.said found.word))
  core_is = seen_core v w e read_given read_seen read_met

  -- the leaf's stamp was that before the read
  before : after_all w.given a.past ≡ state v
  before = λ i. after_all (read_given i) (past i)
    where
      past : a.past ≡ v.seen
      past = a.onward.whole ∙ (ap (λ ys. v.seen ++ ys) (a.onward.quiet h.alone) ∙ append-nil v.seen)

  number_is : found.number ≡ (s.page a.page).gsn
  number_is = st.number ∙ ap (λ m. (m.core.page a.page).gsn) before

  log_is : found.log ≡ (s.page a.page).last
  log_is = st.log ∙ ap (λ m. (m.core.page a.page).last) before

  -- the session that has met it
  abbrev now : Session
  now = record x { clock = after_touch x.own x.clock found.number found.log }

  now_of : IsOf now (at_pages s x.own (s.worker x.own) (a.page ∷ []))
  now_of = record {
    is_open = h.session.is_open;
    txn = h.session.txn;
    clock = λ i. max (h.session.clock i) (sym number_is i);
    floor = h.session.floor;
    debt = λ i. owed x.own (h.session.floor i) (h.session.debt i) (sym number_is i) (sym log_is i);
    end = h.session.end;
    undo = h.session.undo;
  }

  at_worker : upd s.worker x.own (at_pages s x.own (s.worker x.own) (a.page ∷ [])) x.own ≡ at_pages s x.own (s.worker x.own) (a.page ∷ [])
  at_worker = ap (λ b. cond b (at_pages s x.own (s.worker x.own) (a.page ∷ [])) (s.worker x.own)) (eq-eqb x.own x.own refl)

  pub after_read : Holds z w now log
  after_read = record {
    alone = h.alone;
    idle = held_is ∙ h.idle;
    rows = rows_on z v w x.own x.workers x.frames x.held.count read_given h.rows;
    session = subst (λ k. IsOf now (k.worker x.own)) (sym core_is) (subst (λ k. IsOf now k) (sym at_worker) now_of);
    first = ap (λ k. first_of k x.own) core_is ∙ (first_read s (happens (opening v.given) s (happening.Event.Read x.own a.page key (pages.said found.word))) x.own _ (ap (λ k. k.is_open) at_worker) (ap (λ k. k.txn) at_worker) refl refl ∙ h.first);
    numbers = numbers_on x now log x.held refl (omega arith) h.numbers;
    flushed = ap (λ k. k.flushed x.own) core_is ∙ h.flushed;
    floor = subst (λ n. x.clock.floor ≤ n) (λ i. flushed_by_all (opening (sym read_given i)) (sym core_is i)) h.floor;
    behind = ap (λ k. waits k x.own) core_is ∙ h.behind;
    held = λ i. subst (λ k. holds_row (k.row i) x.own ≡ true ↔ Has i x.held.rows) (sym core_is) (h.held i);
    within = h.within;
    fewer = h.fewer;
    none = h.none;
    free = free_same v w x.free read_given (ap (λ k. k.page) core_is) h.free;
    spare = h.spare;
  }
