-- One change is put back.
use Rattle.std.proofs.Common.{◌≡◌, ◌==◌, ◌↔◌, ◌≤◌, ◌<◌, ◌^◌, ◌+◌, ◌++◌, ℕ, suc, Bool, true, false, cond, List, [], ◌∷◌, length, Option, Some, Ok, refl, sym, ap, ◌∙◌, subst, arith, true≢false, append-nil}
use Rattle.std.specs.Prelude.{if◌then◌else◌}
use Rattle.std.proofs.Math.Bridge.{le_prop}
use Rattle.map_model.specs.Lists.{Has}
use Rattle.map_model.proofs.ListLemmas.{upd_same}
use Rattle.session_state.specs.image_model.Entries.{Contents, Entry, Kind, applied_as, touches, written}
use Rattle.session_state.specs.core_state.Events as happening
use Rattle.session_state.specs.core_state.Needs.{holds_row, may}
use Rattle.session_state.specs.core_state.States.{State, Worker, flushed_by_all}
use Rattle.session_state.specs.core_state.Steps.{at_pages, happens, put_back, write_entry, writes}
use Rattle.session_state.specs.core_calls.LogEvents as commits
use Rattle.session_state.specs.core_calls.Room.{EveryRoom, free_list}
use Rattle.session_state.specs.disk_image.Records.{entry_of}
use Rattle.lean_disk.specs.Story.{Story}
use Rattle.session_state.specs.log_record.declared.record.Record.{Record}
use Rattle.session_state.specs.log_record.declared.record.Body.TheVariants as body
use Rattle.session_state.specs.log_record.Spelling.{record_text}
use Rattle.session_state.proofs.log_record.PartLemmas.{key_change_long}
use Rattle.session_state.proofs.log_record.RecordLemmas.{head_long}
use Rattle.session_state.specs.log_block.Block.{records_text}
use Rattle.session_state.specs.worker_log.Logs.{Log, used}
use Rattle.session_state.specs.row_words.declared.event.Event.TheVariants.{PutBack}
use Rattle.session_state.specs.row_words.Openings.{opening}
use Rattle.session_state.specs.rows_trait.Views.{Shape, after_all, state}
use Rattle.session_state.specs.rows_trait.declared.view.View.{View}
use Rattle.session_state.specs.lean_proto.declared.change.Write.TheVariants as write
use Rattle.session_state.specs.lean_proto.Writes.{IsNewest}
use Rattle.session_state.specs.btree_descent.Puts.{DrawsFor, MayPutBack, MetNone, Written, back_of}
use Rattle.session_state.specs.flush_avoidance.Clocks.{risen}
use Rattle.row_changes.specs.Backs.{IsLostBack, IsPutBack}
use Rattle.session_state.specs.Holds.{AreNumbers, Holds, IsOf}
use Rattle.session_state.specs.Numbers.{HaveRoom}
use Rattle.session_state.specs.Staging.{Staging}
use Rattle.session_state.specs.Undo.{HasRoomToUndo, newest_of, undo_of, without_newest}
use Rattle.session_state.specs.declared.session.Session.{Session}
use Rattle.session_state.specs.declared.undo.Undone.{Undone}
use Rattle.session_state.specs.core_covers.Firsts.{first_of}
use Rattle.session_state.proofs.FirstLemmas.{first_staged}
use Rattle.session_state.proofs.HoldLemmas.{rows_on}
use Rattle.row_changes.proofs.PutLemmas.{same_flushed}
use Rattle.row_changes.proofs.SeenLemmas.{none_seen, seen_core}
use Rattle.session_state.proofs.UndoLemmas.{hand_after, room_behind}

-- ## The newest change

-- the worker's list begins with it
record Begins (k x : ℕ) (cs : List Entry) : Type 0 where
  pub first : Entry
  pub rest : List Entry
  pub is : cs ≡ first ∷ rest
  pub key : first.key ≡ k
  pub before : first.before ≡ x

begins : (k x : ℕ) (cs : List Entry) → IsNewest k x cs → Begins k x cs
begins k x [] n = absurd n
begins k x (c ∷ cs) n = record { first = c; rest = cs; is = refl; key = n.0; before = n.1 }

-- what is told of a list that has one
told : (u : Undone) (us : List Undone) → newest_of us ≡ Some u → us ≡ u ∷ without_newest us
told u [] e = absurd (cc)
told u (c ∷ cs) e = let q : c ≡ u = cc in ap (λ (y : Undone). y ∷ cs) q

newest_in : (u : Undone) (us : List Undone) (cs : List Entry) → undo_of cs ≡ us → newest_of us ≡ Some u → IsNewest u.key u.word cs
newest_in u us [] e n = absurd (let q : us ≡ u ∷ without_newest us = told u us n in cc)
newest_in u us (c ∷ cs) e n =
    let q : record { key = c.key; word = c.before } ∷ undo_of cs ≡ u ∷ without_newest us = e ∙ told u us n in
    let same : record { key = c.key; word = c.before } ≡ u = cc in
    (ap (λ (y : Undone). y.key) same, ap (λ (y : Undone). y.word) same)

-- ## The session

-- an abort is under way
half_set : (x : Session) (is_half_aborted : Bool) (f : x.own ≤ 16) → record x { is_half_aborted = is_half_aborted; few = f } ≡ record x { is_half_aborted = is_half_aborted }
half_set x is_half_aborted f i = record x { is_half_aborted = is_half_aborted; few = le_prop f x.few i }

-- or it is not any more, and all is as it was
pub half_back : (x y : Session) (f : x.own ≤ 16) (k : y.own ≤ 16) → y ≡ record x { is_half_aborted = true; few = f } → record y { is_half_aborted = x.is_half_aborted; few = k } ≡ x
half_back x y f k e =
    (λ i. record y { is_half_aborted = x.is_half_aborted; few = le_prop k y.few i })
    ∙ ((λ i. record (e i) { is_half_aborted = x.is_half_aborted })
    ∙ (λ i. record x { few = le_prop f x.few i }))

-- ## What a put-back needs

-- the clock of an open transaction has not come to the last number
pub clock_low : (z : Shape) (v : View) (x : Session) (log : Log) → Holds z v x log → HaveRoom v → x.is_open ≡ true → x.clock.clock < 2 ^ 63
clock_low z v x log h fits is_open = let a = (fits x.own 0 (h.session.is_open ∙ is_open)).end in let q = h.session.clock in omega arith

-- so one more may be drawn
pub draws_back : (z : Shape) (v : View) (x : Session) (log : Log) → Holds z v x log → HaveRoom v → x.is_open ≡ true → DrawsFor v x.own x.own x.txn x.clock log.last
draws_back z v x log h fits is_open = record {
  log = refl;
  txn = sym h.session.txn;
  clock = λ i. record { clock = sym h.session.clock i; floor = sym h.session.floor i; debt = sym h.session.debt i };
  room = clock_low z v x log h fits is_open;
  last = h.numbers.last;
}

module _ (z : Shape) (v : View) (x : Session) (log : Log) (h : Holds z v x log) (u : Undone) (is_open : x.is_open ≡ true) (newest : newest_of x.undo ≡ Some u) where
  pub may_put_back : MayPutBack v x.own u.key u.word
  may_put_back = record { is_open = h.session.is_open ∙ is_open; newest = newest_in u x.undo ((state v).core.worker x.own).changes h.session.undo newest; small = let a = h.rows.high in let b = h.rows.most in omega arith }

  many_left : suc (length (without_newest x.undo)) ≡ length x.undo
  many_left = sym (ap length (told u x.undo newest))

-- the leaf of its key has no entry of it
pub lost_back : (z : Shape) (v w : View) (x : Session) (u : Undone) (frame : ℕ) → z.alone ≡ true → newest_of x.undo ≡ Some u → MetNone z.alone u.key frame v w → IsLostBack v w x
lost_back z v w x u frame alone newest m = record { undone = u; newest = newest; given = m.ran.given; seen = none_seen z.alone v w alone m.ran; page = m.page; frame = frame; leaf = m.leaf; none = m.none }

-- ## Behind it

-- the record of a put-back is short
back_short : (r : Record) (leaf : _) (key before after : ℕ) → r.body ≡ body.PutBack leaf key before after → length (records_text (r ∷ [])) ≤ 64
back_short r leaf key before after is =
    let t = ap length (append-nil (record_text r)) in
    let a = head_long r in
    let b = ap (λ y. length (Rattle.session_state.specs.log_record.Spelling.body_text y)) is in
    let c = key_change_long (record { leaf = leaf; key = key; before = before; after = after }) in
    omega arith

-- a write leaves a free page free
written_live : (r : Entry) (p : ℕ) (n : Contents) → r.kind ≡ Kind.Put_back → (b : Bool) → (cond b (written r p n) n).node.live ≡ n.node.live
written_live r p n is false = refl
written_live r p n is true = ap (λ kind. (applied_as kind r p n.node).live) is ∙ put_live (p == r.record_of.left.page)
  where
    put_live : (c : Bool) → (if c then record { live = n.node.live; level = n.node.level; low = n.node.low; high = n.node.high; pairs = Rattle.page_model.specs.Pairs.put r.record_of.key r.record_of.after n.node.pairs } else n.node).live ≡ n.node.live
    put_live true = refl
    put_live false = refl

module _ (rooms : EveryRoom) (z : Shape) (v w : View) (x : Session) (log : Log) (h : Holds z v x log) (u : Undone) (is_open : x.is_open ≡ true) (newest : newest_of x.undo ≡ Some u) (before : Option ℕ) (few : x.own ≤ 16) (rs now : List Record) (y : Session) (log_now : Log)
    (d : Written write.PutBack z.alone x.own u.key u.word before v rs w y.clock now) where
  abbrev s : State
  s = (state v).core

  abbrev page : ℕ
  page = d.page

  abbrev a : Worker
  a = at_pages s x.own (s.worker x.own) (page ∷ [])

  past_is : d.past ≡ v.seen
  past_is = d.onward.whole ∙ (ap (λ ys. v.seen ++ ys) (d.onward.quiet h.alone) ∙ append-nil v.seen)

  seen_is : w.seen ≡ v.seen ++ PutBack x.own page ∷ []
  seen_is = d.seen ∙ ap (λ ys. ys ++ PutBack x.own page ∷ []) past_is

  back_met : may (opening v.given) s (happening.Event.Put_back x.own page) ≡ true
  back_met = (λ i. may (opening (sym d.ran.given i)) (after_all (sym d.ran.given i) (sym past_is i)).core (happening.Event.Put_back x.own page)) ∙ d.met

  abbrev b : Begins u.key u.word (s.worker x.own).changes
  b = begins u.key u.word (s.worker x.own).changes (may_put_back z v x log h u is_open newest).newest

  -- what was entered
  abbrev r : Entry
  r = write_entry (opening v.given) Kind.Put_back s x.own a page b.first.key b.first.before

  -- the worker behind it
  abbrev restored : Worker
  restored = record a { clock = r.number; changes = b.rest }

  abbrev behind : State
  behind = writes (opening v.given) s Kind.Put_back x.own page b.first.key b.first.before (λ _. b.rest)

  happens_is : happens (opening v.given) s (happening.Event.Put_back x.own page) ≡ behind
  happens_is = ap (put_back (opening v.given) s x.own page) b.is

  core_seen : (state w).core ≡ happens (opening v.given) s (happening.Event.Put_back x.own page)
  core_seen = seen_core v w (PutBack x.own page) d.ran.given seen_is back_met

  core_is : (state w).core ≡ behind
  core_is = core_seen ∙ happens_is

  worker_is : behind.worker x.own ≡ restored
  worker_is = upd_same s.worker x.own restored x.own refl

  clock_is : y.clock.clock ≡ suc a.clock
  clock_is = ap (λ c. c.clock) d.clock ∙ (ap (λ k. (k.worker x.own).clock) core_is ∙ ap (λ (k : Worker). k.clock) worker_is)

  debt_is : y.clock.debt ≡ a.debt
  debt_is = ap (λ c. c.debt) d.clock ∙ (ap (λ k. (k.worker x.own).debt) core_is ∙ ap (λ (k : Worker). k.debt) worker_is)

  -- the clock has risen
  clock_above : suc x.clock.clock ≤ y.clock.clock
  clock_above = let q = h.session.clock in let c = clock_is in omega arith

  -- its record
  abbrev entry : Record
  entry = back_of (opening v.given) s x.own page b.first.key b.first.before

  staged_is : now ≡ entry ∷ rs
  staged_is = d.staged ∙ (λ i. back_of (opening (d.ran.given i)) (after_all (d.ran.given i) (past_is i)).core x.own page (sym b.key i) (sym b.before i) ∷ rs)

  module _ (old new : Story) (S : Type 0) (f0 f1 : ℕ) (held : w.held ≡ []) (staging : Staging (Ok tt) (record x { is_half_aborted = true; few = few }) y rs now log log_now old new S f0 f1) (last : log_now.last ≡ y.clock.clock) where
    st : Staging (Ok tt) (record x { is_half_aborted = true }) y rs now log log_now old new S f0 f1
    st = subst (λ (k : Session). Staging (Ok tt) k y rs now log log_now old new S f0 f1) (half_set x true few) staging

    abbrev next : Session
    next = record x { is_half_aborted = true; clock = risen x.clock y.clock; first = y.first; undo = without_newest x.undo }

    entry_told : st.came.entry ≡ entry
    entry_told = let q : st.came.entry ∷ rs ≡ entry ∷ rs = sym st.came.told ∙ staged_is in cc

    short : length (records_text (st.came.entry ∷ [])) ≤ 64
    short = back_short st.came.entry (record { page = page; prev = (s.page page).gsn }) r.key r.before r.after (ap (λ (q : Record). q.body) entry_told)

    left_is : suc (length (without_newest x.undo)) ≡ length x.undo
    left_is = many_left z v x log h u is_open newest

    room : HasRoomToUndo log_now (length (without_newest x.undo)) × (used log_now + 1 ≤ log_now.blocks)
    room = room_behind st.came.entry log log_now (length (without_newest x.undo)) short st.came.after (subst (HasRoomToUndo log) (sym left_is) (h.numbers.undo_room (let q = left_is in omega arith)))

    flushed_is : log_now.flushed ≡ log.flushed
    flushed_is = same_flushed st.came.entry log log_now st.came.after

    session_on : IsOf next restored
    session_on = record {
      is_open = h.session.is_open;
      txn = h.session.txn;
      clock = sym clock_is;
      floor = h.session.floor;
      debt = sym debt_is;
      end = h.session.end;
      undo = ap without_newest (ap undo_of (sym b.is) ∙ h.session.undo);
    }

    numbers_on : AreNumbers next log_now
    numbers_on = record {
      last = let q = last in omega arith;
      order = let k = flushed_is in let o = h.numbers.order in let c = h.numbers.last in let q = clock_above in let t = last in omega arith;
      end = let k = h.numbers.end in let q = clock_above in omega arith;
      room = λ _. room.1;
      closed_txn = λ e. absurd (true≢false (sym is_open ∙ e));
      txn = let k = h.numbers.txn in let q = clock_above in omega arith;
      undo_room = λ _. room.0;
      flush_room = λ going. absurd (true≢false going);
      hand = hand_after st.came.entry log log_now st.came.after;
      few = let k = h.numbers.few in let l = left_is in omega arith;
      behind = h.numbers.behind;
    }

    -- the same pages are free
    free_after : x.free ≡ free_list (opening w.given) (state w).core
    free_after = h.free ∙ (sym ((rooms (opening v.given) s u.key).same behind (λ p. written_live r p (s.page p) refl (touches p r)))
        ∙ (λ i. free_list (opening (sym d.ran.given i)) (sym core_is i)))

    after_back : Holds z w next log_now
    after_back = record {
      alone = h.alone;
      idle = held;
      rows = rows_on z v w x.own x.workers x.frames x.held.count d.ran.given h.rows;
      session = subst (λ k. IsOf next (k.worker x.own)) (sym core_is) (subst (IsOf next) (sym worker_is) session_on);
      first = ap (λ k. first_of k x.own) core_is ∙ first_staged s behind x y r h.session is_open h.first (ap (λ k. k.is_open) worker_is) (ap (λ k. k.txn) worker_is) refl refl refl refl (sym clock_is) st.first;
      numbers = numbers_on;
      flushed = ap (λ k. k.flushed x.own) core_is ∙ (h.flushed ∙ sym flushed_is);
      floor = subst (λ n. x.clock.floor ≤ n) (λ i. flushed_by_all (opening (sym d.ran.given i)) (sym core_is i)) h.floor;
      behind = ap (λ k. commits.behind k x.own) core_is ∙ h.behind;
      held = λ i. subst (λ k. holds_row (k.row i) x.own ≡ true ↔ Has i x.held.rows) (sym core_is) (h.held i);
      within = h.within;
      fewer = h.fewer;
      none = h.none;
      free = free_after;
      spare = h.spare;
    }

    -- the session, as it comes from the leaf
    session_is : record y { undo = without_newest y.undo } ≡ next
    session_is = ap (λ (k : Session). record k { undo = without_newest k.undo }) st.session

    pub holds_back : Holds z w (record y { undo = without_newest y.undo }) log_now
    holds_back = subst (λ k. Holds z w k log_now) (sym session_is) after_back

    pub is_put_back : IsPutBack v w x (record y { undo = without_newest y.undo }) log log_now old new
    is_put_back = record {
      page = page;
      given = d.ran.given;
      seen = seen_is;
      met = back_met;
      entry = st.came.entry;
      entry_is = ap (λ (k : State). k.entries) happens_is ∙ ap (λ (q : Record). entry_of x.own q ∷ s.entries) (sym entry_told);
      after = st.came.after;
      stands = st.came.stands;
      keeps = st.came.keeps;
      session = session_is;
      fewer = ap (λ (k : Session). suc (length k.undo)) session_is ∙ left_is;
    }
