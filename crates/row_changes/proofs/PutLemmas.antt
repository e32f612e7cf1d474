-- A put behind the taking of its row.
use Rattle.std.proofs.Common.{◌≡◌, ◌↔◌, ◌≤◌, ◌<◌, ◌^◌, ◌+◌, ◌++◌, ℕ, suc, Bool, true, false, cond, leb, ltb, List, [], ◌∷◌, length, Option, Some, None, Ok, refl, sym, ap, ◌∙◌, subst, arith, true≢false, append-nil}
use Rattle.std.proofs.lemmas.Bool.{cond-true, le-leb, leb-true, lt-ltb}
use Rattle.map_model.specs.Lists.{Has}
use Rattle.map_model.proofs.ListLemmas.{upd_same}
use Rattle.page_model.specs.Nodes.{Format}
use Rattle.page_model.specs.Pairs.{find}
use Rattle.page_model.specs.Tree.{value_of, word_or}
use Rattle.session_state.specs.image_model.Entries.{Entry, Kind}
use Rattle.rfa_model.specs.Reaches.{least}
use Rattle.session_state.specs.core_state.Events as happening
use Rattle.session_state.specs.core_state.Needs.{holds_row, is_held_by, may}
use Rattle.session_state.specs.core_state.States.{State, Worker, flushed_by_all, nodes_of}
use Rattle.session_state.specs.core_calls.LogEvents.{behind}
use Rattle.session_state.specs.core_calls.Room.{EveryRoom, free_list, frees_from}
use Rattle.session_state.specs.core_state.Steps.{at_pages, happens, write_entry}
use Rattle.lean_disk.specs.Story.{Story}
use Rattle.session_state.specs.log_record.declared.record.Record.{Record}
use Rattle.session_state.specs.log_block.Block.{records_text}
use Rattle.session_state.specs.worker_log.Calls.{After}
use Rattle.session_state.specs.worker_log.Logs.{Log}
use Rattle.session_state.specs.row_words.declared.event.Event.TheVariants.{Change}
use Rattle.session_state.specs.row_words.Openings.{opening}
use Rattle.session_state.specs.rows_trait.Causes.{EveryLow}
use Rattle.session_state.specs.rows_trait.Turns.{Ran}
use Rattle.session_state.specs.rows_trait.Views.{AreLow, Shape, after_all, state}
use Rattle.session_state.specs.rows_trait.declared.view.View.{View}
use Rattle.session_state.specs.btree_descent.Known.{said}
use Rattle.session_state.specs.btree_descent.Puts.{Changed, IsRowSpent, MayPut, MetFull, MetSpent, change_of, clock_in}
use Rattle.session_state.specs.btree_descent.Trails.{Came, IsAbove}
use Rattle.session_state.specs.btree_descent.declared.put.Put.TheVariants as put
use Rattle.session_state.specs.flush_avoidance.Clocks.{risen}
use Rattle.session_state.specs.Holds.{AreNumbers, Holds, IsOf}
use Rattle.session_state.specs.Numbers.{HaveRoom}
use Rattle.row_changes.specs.Outcomes.{HasNoRoom}
use Rattle.row_changes.specs.Puts.{IsChanged, MayWrite}
use Rattle.session_state.specs.Staging.{Staging}
use Rattle.row_changes.specs.Takes.{IsSpent}
use Rattle.session_state.specs.declared.session.Session.{Session}
use Rattle.row_changes.proofs.TakeLemmas.{row_is}
use Rattle.session_state.specs.Undo.{HasHand, HasRoomToStage}
use Rattle.session_state.proofs.UndoLemmas.{hand_after, many_of, room_after, room_kept, room_to_end, room_to_undo}
use Rattle.session_state.specs.core_covers.Firsts.{first_of}
use Rattle.session_state.proofs.FirstLemmas.{first_staged}
use Rattle.session_state.proofs.HoldLemmas.{rows_on}
use Rattle.session_state.proofs.Moments.{free_same}
use Rattle.row_changes.proofs.SeenLemmas.{none_seen, seen_core, still}

-- the least flushed number is as it was, where no log was flushed
pub floor_same : (v w : View) (floor : ℕ) → w.given ≡ v.given → (state w).core.flushed ≡ (state v).core.flushed → floor ≤ flushed_by_all (opening v.given) (state v).core → floor ≤ flushed_by_all (opening w.given) (state w).core
floor_same v w floor given flushed le = let e : flushed_by_all (opening w.given) (state w).core ≡ flushed_by_all (opening v.given) (state v).core = (λ i. least (flushed i) (opening (given i)).workers) in omega arith

-- ## Where nothing was seen

pub holds_still : (z : Shape) (v w : View) (x : Session) (log : Log) → w.given ≡ v.given → w.seen ≡ v.seen → w.held ≡ [] → Holds z v x log → Holds z w x log
holds_still z v w x log given seen held h =
    let core : (state w).core ≡ (state v).core = ap (λ m. m.core) (still v w given seen) in
    record {
      alone = h.alone;
      idle = held;
      rows = rows_on z v w x.own x.workers x.frames x.held.count given h.rows;
      session = subst (λ s. IsOf x (s.worker x.own)) (sym core) h.session;
      first = ap (λ s. first_of s x.own) core ∙ h.first;
      numbers = h.numbers;
      flushed = ap (λ s. s.flushed x.own) core ∙ h.flushed;
      floor = floor_same v w x.clock.floor given (ap (λ s. s.flushed) core) h.floor;
      behind = ap (λ s. behind s x.own) core ∙ h.behind;
      held = λ i. subst (λ s. holds_row (s.row i) x.own ≡ true ↔ Has i x.held.rows) (sym core) (h.held i);
      within = h.within;
      fewer = h.fewer;
      none = h.none;
      free = free_same v w x.free given (ap (λ s. s.page) core) h.free;
      spare = h.spare;
    }

-- no page's number comes near the last one while a transaction is open
pub low_page : (z : Shape) (v : View) (x : Session) (log : Log) → Holds z v x log → HaveRoom v → x.is_open ≡ true → (p : ℕ) → ((state v).core.page p).gsn < 2 ^ 63
low_page z v x log h room opened p = let a = (room x.own p (h.session.is_open ∙ opened)).page in omega arith

-- so the number of a leaf is none
pub not_last : (z : Shape) (v w : View) (x : Session) (log : Log) (key : ℕ) → Holds z v x log → HaveRoom v → x.is_open ≡ true → MetSpent z.alone key v w → ⊥
not_last z v w x log key h room opened m =
    let e = ap (λ k. (k.core.page m.page).gsn) (still v w m.ran.given (none_seen z.alone v w h.alone m.ran)) in
    let a = low_page z v x log h room opened m.page in
    let b = m.spent in
    omega arith

-- a version that was loaded is low, so many events were seen
pub spent_many : EveryLow → (row : ℕ) (v w : View) → AreLow (length w.seen) w.steps → IsRowSpent row v w → 2 ^ 61 ≤ length w.seen
spent_many low row v w are r =
    let a = low (length w.seen) r.found.loads.acts v.steps row r.version (subst (AreLow (length w.seen)) r.found.loads.steps are) r.found.finds in
    let b = r.spent in
    omega arith

pub is_spent : EveryLow → (z : Shape) (row : ℕ) (v w : View) → z.alone ≡ true → Ran z.alone v [] w → AreLow (length w.seen) w.steps → IsRowSpent row v w → IsSpent v w
is_spent low z row v w alone ran are r = record { given = ran.given; seen = none_seen z.alone v w alone ran; many = spent_many low row v w are r }

-- ## Where the leaf is full

pub no_room : (z : Shape) (v w : View) (x : Session) (log : Log) (key row : ℕ) (path : List ℕ) → Holds z v x log → MetFull z.alone key row v w → Came z.alone x.own x.frames key path v (put.Full row) w → HasNoRoom v w x.frames key path
no_room z v w x log key row path h m t = record {
  given = m.ran.given;
  seen = seen_is;
  full = record {
    leaf = m.page;
    unfit = record { below = m.leaf.below; holds = m.leaf.leaf; none = m.none; full = m.full };
    frame = row;
    stands = m.leaf.hot;
    path_to = record {
      under_root = t.trail.below;
      starts = t.trail.starts;
      ends = t.trail.ends ∙ ap Some (sym t.ends);
      few = t.trail.few;
      within = t.trail.within;
      led = λ n frame next p q. carried (t.trail.still h.alone n frame next p q);
    };
  };
}
  where
    seen_is : w.seen ≡ v.seen
    seen_is = none_seen z.alone v w h.alone m.ran

    carried : {frame next : ℕ} → IsAbove v.given (state v) key frame next → IsAbove w.given (state w) key frame next
    carried {frame} {next} a = subst (λ es. IsAbove w.given (after_all w.given es) key frame next) (sym seen_is) (subst (λ k. IsAbove k (after_all k v.seen) key frame next) (sym m.ran.given) a)

-- ## The change

-- what it needs, whichever its word
pub may_put : {many : ℕ} (z : Shape) (v : View) (x : Session) (log : Log) (key word : ℕ) → Holds z v x log → MayWrite many v x log key → word ≤ 2 ^ 63 → MayPut v x.own key word
may_put z v x log key word h f low = record {
  is_open = h.session.is_open ∙ f.is_open;
  few = let m = many_of ((state v).core.worker x.own).changes x.undo h.session.undo in let q = f.few in omega arith;
  lock = ap (λ r. is_held_by ((state v).core.row r).holder x.own) (row_is z v x.own x.workers x.frames x.held.count key h.rows) ∙ f.row;
  word = low;
  small = let a = h.rows.high in let b = h.rows.most in omega arith;
  young = let e = h.session.clock in let y = f.small in omega arith;
}

-- a word as it is said is a value, if it is one
said_value : (f : Format) (a : Option ℕ) → f.dead ≡ 2 ^ 63 → said a ≡ value_of f a
said_value f None e = refl
said_value f (Some w) e = ap (λ d. cond (ltb w d) (Some w) None) (sym e)

pub value_said : (n : ℕ) → n < 2 ^ 63 → said (Some n) ≡ Some n
value_said n lt = cond-true (ltb n (2 ^ 63)) (Some n) None (lt-ltb n (2 ^ 63) lt)

-- it was seen next, and its record was staged
pub is_changed : (z : Shape) (v w : View) (x : Session) (log : Log) (key word : ℕ) (before : Option ℕ) (rs now : List Record) (y : Session) (log_now : Log) (old new : Story) (S : Type 0) (f0 f1 : ℕ) → z.alone ≡ true
    → Changed z.alone x.own key word before v rs w y.clock now → Staging (Ok tt) x y rs now log log_now old new S f0 f1 → IsChanged x.own v w key word (said before) log log_now old new
is_changed z v w x log key word before rs now y log_now old new S f0 f1 alone d st = record {
  page = d.page;
  given = d.ran.given;
  seen = d.seen ∙ ap (λ ys. ys ++ Change x.own d.page key word ∷ []) past_is;
  met = (λ i. may (opening (sym d.ran.given i)) (after_all (sym d.ran.given i) (sym past_is i)).core (happening.Event.Change x.own d.page key word)) ∙ d.met;
  told = ap said (d.told ∙ (λ i. find key ((after_all (d.ran.given i) (past_is i)).core.page d.page).node.pairs)) ∙ said_value (opening v.given).format (find key ((state v).core.page d.page).node.pairs) refl;
  entry = st.came.entry;
  entry_is = first_is st.came.entry (change_of (opening w.given) (after_all w.given d.past).core x.own d.page key word) rs (sym st.came.told ∙ d.staged) ∙ (λ i. change_of (opening (d.ran.given i)) (after_all (d.ran.given i) (past_is i)).core x.own d.page key word);
  after = st.came.after;
  stands = st.came.stands;
  keeps = st.came.keeps;
}
  where
    past_is : d.past ≡ v.seen
    past_is = d.onward.whole ∙ (ap (λ ys. v.seen ++ ys) (d.onward.quiet alone) ∙ append-nil v.seen)

    first_is : (a b : Record) (ts : List Record) → a ∷ ts ≡ b ∷ ts → a ≡ b
    first_is a b ts e = cc

-- ## Behind a change

-- the log is flushed as it was
pub same_flushed : (r : Record) (old new : Log) → After r old new → new.flushed ≡ old.flushed
same_flushed r old new a = go (leb (length old.payload + length (records_text (r ∷ []))) 2000) refl
  where
    go : (b : Bool) → leb (length old.payload + length (records_text (r ∷ []))) 2000 ≡ b → new.flushed ≡ old.flushed
    go true e = ap (λ k. k.flushed) (a.room (leb-true (length old.payload + length (records_text (r ∷ []))) 2000 e))
    go false e = ap (λ k. k.flushed) (a.full (λ le. true≢false (sym (le-leb (length old.payload + length (records_text (r ∷ []))) 2000 le) ∙ e)))

module _ {many : ℕ} (rooms : EveryRoom) (z : Shape) (v w : View) (x : Session) (log : Log) (h : Holds z v x log) (key value : ℕ) (f : MayWrite many v x log key) (before : Option ℕ) (rs now : List Record) (y : Session) (log_now : Log)
    (d : Changed z.alone x.own key value before v rs w y.clock now) where
  abbrev s : State
  s = (state v).core

  abbrev page : ℕ
  page = d.page

  abbrev a : Worker
  a = at_pages s x.own (s.worker x.own) (page ∷ [])

  abbrev r : Entry
  r = write_entry (opening v.given) Kind.Change s x.own a page key value

  past_is : d.past ≡ v.seen
  past_is = d.onward.whole ∙ (ap (λ ys. v.seen ++ ys) (d.onward.quiet h.alone) ∙ append-nil v.seen)

  pub seen_is : w.seen ≡ v.seen ++ Change x.own page key value ∷ []
  seen_is = d.seen ∙ ap (λ ys. ys ++ Change x.own page key value ∷ []) past_is

  pub change_met : may (opening v.given) s (happening.Event.Change x.own page key value) ≡ true
  change_met = (λ i. may (opening (sym d.ran.given i)) (after_all (sym d.ran.given i) (sym past_is i)).core (happening.Event.Change x.own page key value)) ∙ d.met

  -- the state behind it
  abbrev t : State
  t = happens (opening v.given) s (happening.Event.Change x.own page key value)

  core_is : (state w).core ≡ t
  core_is = seen_core v w (Change x.own page key value) d.ran.given seen_is change_met

  -- its worker has met the page's stamp, and has taken the next number
  abbrev b : Worker
  b = record a { clock = r.number; changes = r ∷ (s.worker x.own).changes }

  worker_is : t.worker x.own ≡ b
  worker_is = upd_same s.worker x.own b x.own refl

  there : y.clock ≡ clock_in b
  there = d.clock ∙ (ap (λ k. clock_in (k.worker x.own)) core_is ∙ ap clock_in worker_is)

  pub clock_rises : x.clock.clock < y.clock.clock
  clock_rises = let e = ap (λ c. c.clock) there in let q = h.session.clock in omega arith

  module _ (old new : Story) (S : Type 0) (f0 f1 : ℕ) (held : w.held ≡ []) (st : Staging (Ok tt) x y rs now log log_now old new S f0 f1) (last : log_now.last ≡ y.clock.clock) where
    abbrev u : Session
    u = record x { clock = risen x.clock y.clock; first = y.first; undo = record { key = key; word = word_or (2 ^ 63) before } ∷ x.undo }

    flushed_is : log_now.flushed ≡ log.flushed
    flushed_is = same_flushed st.came.entry log log_now st.came.after

    -- the word before
    before_is : r.before ≡ word_or (2 ^ 63) before
    before_is = ap (word_or (2 ^ 63)) ((λ i. find key ((after_all (sym d.ran.given i) (sym past_is i)).core.page page).node.pairs) ∙ sym d.told)

    session_on : IsOf u b
    session_on = record {
      is_open = h.session.is_open;
      txn = h.session.txn;
      clock = sym (ap (λ c. c.clock) there);
      floor = h.session.floor;
      debt = sym (ap (λ c. c.debt) there);
      end = h.session.end;
      undo = λ i. record { key = key; word = before_is i } ∷ h.session.undo i;
    }

    -- the change may be put back
    room_on : HasRoomToStage log_now many
    room_on = room_after st.came.entry log log_now many st.came.short st.came.after h.numbers.hand f.room

    hand_on : HasHand log_now
    hand_on = hand_after st.came.entry log log_now st.came.after

    numbers_on : AreNumbers u log_now
    numbers_on = record {
      last = omega arith;
      order = let a = flushed_is in let b = h.numbers.order in let c = h.numbers.last in let q = clock_rises in omega arith;
      end = let a = h.numbers.end in let q = clock_rises in omega arith;
      room = λ _. room_to_end log_now _ room_on;
      closed_txn = λ e. absurd (true≢false (sym f.is_open ∙ e));
      txn = let a = h.numbers.txn in let q = clock_rises in omega arith;
      undo_room = λ _. let c = f.few in room_to_undo log_now (suc (length x.undo)) hand_on (room_kept log_now _ room_on) (omega arith);
      flush_room = λ _ _. room_kept log_now _ room_on;
      hand = hand_on;
      few = let a = f.few in omega arith;
      behind = h.numbers.behind;
    }

    -- the same pages are free
    free_after : x.free ≡ free_list (opening w.given) (state w).core
    free_after = h.free ∙ (sym ((rooms (opening v.given) s key).change x.own page key value change_met)
        ∙ (λ i. frees_from (nodes_of (sym core_is i)) (opening (sym d.ran.given i)).format.pages 0))

    after_put : Holds z w u log_now
    after_put = record {
      alone = h.alone;
      idle = held;
      rows = rows_on z v w x.own x.workers x.frames x.held.count d.ran.given h.rows;
      session = subst (λ k. IsOf u (k.worker x.own)) (sym core_is) (subst (λ k. IsOf u k) (sym worker_is) session_on);
      first = ap (λ k. first_of k x.own) core_is ∙ first_staged s t x y r h.session f.is_open h.first (ap (λ k. k.is_open) worker_is) (ap (λ k. k.txn) worker_is) refl refl refl refl (sym (ap (λ c. c.clock) there)) st.first;
      numbers = numbers_on;
      flushed = ap (λ k. k.flushed x.own) core_is ∙ (h.flushed ∙ sym flushed_is);
      floor = floor_same v w x.clock.floor d.ran.given (ap (λ k. k.flushed) core_is) h.floor;
      behind = ap (λ k. behind k x.own) core_is ∙ h.behind;
      held = λ i. subst (λ k. holds_row (k.row i) x.own ≡ true ↔ Has i x.held.rows) (sym core_is) (h.held i);
      within = h.within;
      fewer = h.fewer;
      none = h.none;
      free = free_after;
      spare = h.spare;
    }

    pub holds_changed : Holds z w (record y { undo = record { key = key; word = word_or (2 ^ 63) before } ∷ y.undo }) log_now
    holds_changed = subst (λ k. Holds z w (record k { undo = record { key = key; word = word_or (2 ^ 63) before } ∷ k.undo }) log_now) (sym st.session) after_put

-- an engine that is as another
pub holds_as : (z u : Shape) (v : View) (x y : Session) (log l : Log) → u ≡ z → y ≡ x → l ≡ log → Holds z v x log → Holds u v y l
holds_as z u v x y log l p q e h = subst (λ s. Holds s v y l) (sym p) (subst (λ k. Holds z v k l) (sym q) (subst (λ k. Holds z v x k) (sym e) h))
