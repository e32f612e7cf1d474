-- What holds behind a change of the tree that was staged, where nobody else steps.
use Rattle.std.proofs.Common.{◌≡◌, ◌↔◌, ◌⊎◌, ◌≤◌, ◌<◌, ◌++◌, ◌^◌, ◌&&◌, ◌==◌, ltb, ℕ, zero, suc, Bool, true, false, cond, List, [], ◌∷◌, length, Ok, inl, inr, refl, sym, ap, ◌∙◌, subst, arith, true≢false, eq-eqb, append-nil}
use Rattle.std.proofs.lemmas.Bool.{and_parts, cond-false, eqb-true, or_cases}
use Rattle.map_model.specs.Lists.{Has, any, keep}
use Rattle.map_model.proofs.ListLemmas.{upd_same}
use Rattle.page_model.specs.Nodes.{Node, covers}
use Rattle.page_model.specs.Records as records
use Rattle.row_changes.specs.session_state.image_model.Entries.{Contents, Entry, Kind, is_commit, is_record, touches, written}
use Rattle.row_changes.specs.session_state.core_state.Needs.{are_hot, holds_row, may, needs, pages_of}
use Rattle.row_changes.specs.session_state.core_state.Openings.{Opening}
use Rattle.row_changes.specs.session_state.core_state.States.{Place, State, Worker, in_frame, is_hot}
use Rattle.row_changes.specs.session_state.core_state.Steps.{at_pages, happens, moves, page_entry, records_in, refs_of}
use Rattle.row_changes.specs.session_state.core_covers.Firsts.{first_of}
use Rattle.row_changes.specs.session_state.core_calls.LogEvents.{behind}
use Rattle.row_changes.specs.session_state.core_calls.Warms.{IsWarmFrom}
use Rattle.row_changes.specs.session_state.core_calls.Room.{free_list, frees_from}
use Rattle.lean_disk.specs.Story.{Story}
use Rattle.row_changes.specs.session_state.log_record.declared.record.Record.{Record}
use Rattle.row_changes.specs.session_state.disk_image.Records.{entry_of}
use Rattle.row_changes.specs.session_state.worker_log.Logs.{Log}
use Rattle.row_changes.specs.session_state.row_words.declared.event.Event.{Event}
use Rattle.row_changes.specs.session_state.row_words.declared.given.Given.{Given}
use Rattle.row_changes.specs.session_state.row_words.Moments.{Moment, event_of}
use Rattle.row_changes.specs.session_state.row_words.Openings.{opening}
use Rattle.row_changes.specs.session_state.row_words.Sealed.{begun, stepped}
use Rattle.row_changes.proofs.session_state.row_words.SealedLemmas.{run_append}
use Rattle.row_changes.specs.session_state.rows_trait.Causes.{EveryLow}
use Rattle.row_changes.specs.session_state.rows_trait.Turns.{Ran}
use Rattle.row_changes.specs.session_state.rows_trait.Views.{AreLow, Shape, after_all, state}
use Rattle.row_changes.specs.session_state.rows_trait.declared.view.View.{View}
use Rattle.row_changes.specs.session_state.btree_descent.Known.{Sound}
use Rattle.row_changes.specs.session_state.btree_descent.Puts.{Onward, clock_in}
use Rattle.btree_smo.specs.Outcomes.{AreMisses, Caused, Changed, IsHotIn, MissedUpTo, WasSo}
use Rattle.btree_smo.specs.Purges.{Cleared, purge_entry}
use Rattle.btree_smo.specs.declared.outcome.Outcome.TheVariants.{RowSpent}
use Rattle.row_changes.specs.session_state.row_words.declared.event.Event.TheVariants.{Purge}
use Rattle.row_changes.specs.session_state.draw_trait.Clocks.{Clock}
use Rattle.row_changes.specs.session_state.flush_avoidance.Clocks.{risen}
use Rattle.row_changes.specs.session_state.Holds.{AreNumbers, Holds, IsOf}
use Rattle.row_changes.specs.session_state.Staging.{Staging}
use Rattle.row_changes.specs.session_state.Undo.{HasHand, HasRoomToStage, undo_of}
use Rattle.row_changes.specs.session_state.declared.session.Session.{Session}
use Rattle.row_changes.proofs.session_state.FirstLemmas.{first_staged}
use Rattle.row_changes.proofs.session_state.HoldLemmas.{rows_on}
use Rattle.row_changes.proofs.session_state.Moments.{met_core}
use Rattle.row_changes.proofs.session_state.UndoLemmas.{hand_after, room_after, room_kept, room_to_end, room_to_undo}
use Rattle.row_changes.proofs.TouchLemmas.{Touched, touched}
use Rattle.row_changes.proofs.Misses.{misses_core}
use Rattle.row_changes.proofs.PutLemmas.{floor_same, same_flushed}
use Rattle.row_changes.proofs.SeenLemmas.{ran_seen}
use Rattle.row_tidying.specs.Changes.{IsMade, MayTidy}
use Rattle.row_tidying.specs.Outcomes.{IsSpentWithin}

-- ## Moments of a call, where nobody else steps

-- the moment is that of the view at which the call began
pub now_is : (alone : Bool) (v w : View) (past : List Event) → alone ≡ true → w.given ≡ v.given → Onward alone v past → after_all w.given past ≡ state v
now_is alone v w past is given o =
    let whole : past ≡ v.seen = o.whole ∙ (ap (λ ys. v.seen ++ ys) (o.quiet is) ∙ append-nil v.seen) in
    λ i. after_all (given i) (whole i)

-- so what was so at some moment is so there
pub was_then : (alone : Bool) (v w : View) (P : Moment → Type 0) → alone ≡ true → w.given ≡ v.given → WasSo alone v w P → P (state v)
was_then alone v w P is given so = subst P (now_is alone v w so.past is given so.onward) so.so

-- misses leave the core as it was
pub missed_core : (most : ℕ) (alone : Bool) (v w : View) → alone ≡ true → MissedUpTo most alone v w → (state w).core ≡ (state v).core
missed_core most alone v w is m =
    ap (λ n. n.core) ((λ i. after_all (m.ran.given i) (ran_seen alone v w m.events is m.ran i)) ∙ run_append v.given (begun v.given) v.seen m.events)
    ∙ misses_core v.given (state v) m.events m.misses

pub holds_same : (z : Shape) (v w : View) (x : Session) (log : Log) → w.given ≡ v.given → (state w).core ≡ (state v).core → w.held ≡ [] → Holds z v x log → Holds z w x log
holds_same z v w x log given core held h = record {
  alone = h.alone;
  idle = held;
  rows = rows_on z v w x.own x.workers x.frames x.held.count given h.rows;
  session = subst (λ s. IsOf x (s.worker x.own)) (sym core) h.session;
  first = ap (λ s. first_of s x.own) core ∙ h.first;
  numbers = h.numbers;
  flushed = ap (λ s. s.flushed x.own) core ∙ h.flushed;
  floor = floor_same v w x.clock.floor given (ap (λ s. s.flushed) core) h.floor;
  behind = ap (λ s. behind s x.own) core ∙ h.behind;
  held = λ i. subst (λ s. holds_row (s.row i) x.own ≡ true ↔ Has i x.held.rows) (sym core) (h.held i);
  within = h.within;
  fewer = h.fewer;
  none = h.none;
  free = h.free ∙ (λ i. free_list (opening (sym given i)) (sym core i));
  spare = h.spare;
}

-- a version that was found is low, so many events were seen
pub spent_within : EveryLow → (most : ℕ) (alone : Bool) (v w : View) (row : ℕ) → alone ≡ true → AreLow (length w.seen) w.steps → MissedUpTo most alone v w → Caused v (RowSpent row) w → IsSpentWithin most v w
spent_within low most alone v w row is are m c = record {
  misses = m.events;
  are_misses = m.misses;
  few = m.few;
  given = m.ran.given;
  seen = ran_seen alone v w m.events is m.ran;
  many =
      let a = low (length w.seen) c.2.since.acts v.steps row c.0 (subst (AreLow (length w.seen)) c.2.since.steps are) c.2.finds in
      let b = c.1 in
      omega arith;
}

-- ## Where each page stands

module _ (z : Shape) (v : View) (x : Session) (log : Log) (h : Holds z v x log) where
  pub sound : Sound v.given (state v)
  sound = h.rows.tree_sound v.seen

  in_it : (p frame : ℕ) → (state v).core.place p ≡ Place.Hot frame → in_frame ((state v).core.place p) frame ≡ true
  in_it p frame hot = ap (λ k. in_frame k frame) hot ∙ eq-eqb frame frame refl

  -- one page stands in a frame
  pub one_in : (p q frame : ℕ) → (state v).core.place p ≡ Place.Hot frame → (state v).core.place q ≡ Place.Hot frame → p ≡ q
  one_in p q frame a b = sound.residence.one p q frame (in_it p frame a) (in_it q frame b)

  -- it is one of the disk's pages
  pub hot_in : (p frame : ℕ) → (state v).core.place p ≡ Place.Hot frame → IsHotIn v.given (state v) frame p
  hot_in p frame hot = record { below = (sound.residence.within p frame (in_it p frame hot)).0; hot = hot }

  -- and the frame one of the rows'
  pub framed : (p frame : ℕ) → (state v).core.place p ≡ Place.Hot frame → frame < x.frames
  framed p frame hot =
      let within = (sound.residence.within p frame (in_it p frame hot)).1 in
      let given = h.rows.tree.given in
      omega arith

-- there are no more free pages than pages
pub frees_few : (node : ℕ → Node) (n p : ℕ) → length (frees_from node n p) ≤ n
frees_few node zero p = omega arith
frees_few node (suc n) p = go (node p).live (frees_few node n (suc p))
  where
    go : (b : Bool) → length (frees_from node n (suc p)) ≤ n → length (cond b (frees_from node n (suc p)) (p ∷ frees_from node n (suc p))) ≤ suc n
    go true ih = omega arith
    go false ih = omega arith

-- ## What was told of a change

-- The event was appended, and misses behind it. At the moment before it, it was met, and the record of its entry was staged; the draw has the clock that its
-- worker has after it.
pub record Told (alone : Bool) (worker : ℕ) (e : Event) (misses : List Event) (entry : State → Entry) (v : View) (rs : List Record) (w : View) (c : Clock) (now : List Record) : Type 0 where
  pub past : List Event
  pub onward : Onward alone v past
  pub ran : Ran alone v (e ∷ misses) w
  pub are_misses : AreMisses misses
  pub met : may (opening w.given) (after_all w.given past).core (event_of e) ≡ true
  pub staged : (r : Record) × (now ≡ r ∷ rs) × (entry_of worker r ≡ entry (after_all w.given past).core)
  pub clock : c ≡ clock_in ((after_all w.given (past ++ e ∷ [])).core.worker worker)

pub told_changed : (alone : Bool) (worker : ℕ) (e : Event) (entry : State → Entry) (v : View) (rs : List Record) (w : View) (c : Clock) (now : List Record) → Changed alone worker e entry v rs w c now → Told alone worker e [] entry v rs w c now
told_changed alone worker e entry v rs w c now d = record { past = d.past; onward = d.onward; ran = d.ran; are_misses = tt; met = d.met; staged = d.staged; clock = d.clock }

pub told_cleared : (alone : Bool) (worker frame most : ℕ) (v : View) (rs : List Record) (w : View) (c : Clock) (now : List Record) (d : Cleared alone worker frame most v rs w c now) → Told alone worker (Purge worker d.page d.keys) d.misses (purge_entry worker d.page d.keys) v rs w c now
told_cleared alone worker frame most v rs w c now d = record { past = d.past; onward = d.onward; ran = d.ran; are_misses = d.only.0; met = d.met; staged = d.staged; clock = d.clock }

-- ## Ways

-- a page that the record touches is hot
touched_hot : (s : State) (p : ℕ) (ps : List ℕ) → are_hot s ps ≡ true → any (λ (f : records.Ref). f.page == p) (refs_of s ps) ≡ true → is_hot (s.place p) ≡ true
touched_hot s p [] hot e = absurd (true≢false (sym e))
touched_hot s p (q ∷ ps) hot e =
    let a = and_parts (is_hot (s.place q)) (are_hot s ps) hot in
    go a.0 (touched_hot s p ps a.1) (or_cases (q == p) (any (λ (f : records.Ref). f.page == p) (refs_of s ps)) e)
  where
    go : is_hot (s.place q) ≡ true → (any (λ (f : records.Ref). f.page == p) (refs_of s ps) ≡ true → is_hot (s.place p) ≡ true) → ((q == p) ≡ true) ⊎ (any (λ (f : records.Ref). f.page == p) (refs_of s ps) ≡ true) → is_hot (s.place p) ≡ true
    go here ih (inl k) = ap (λ (i : ℕ). is_hot (s.place i)) (sym (eqb-true q p k)) ∙ here
    go here ih (inr k) = ih k

module _ (g : Opening) (s : State) (own : ℕ) (kind : Kind) (ps : List ℕ) (made : records.Record) (hot : are_hot s ps ≡ true) where
  abbrev entered : Entry
  entered = page_entry kind s own (at_pages s own (s.worker own) ps) ps made

  -- each page that it touches is hot, so a way that was hot is so still
  warm_moved : (key : ℕ) → IsWarmFrom g s key 0 → IsWarmFrom g (moves s kind own ps made) key 0
  warm_moved key warm p below over low = go (touches p entered) refl
    where
      go : (t : Bool) → touches p entered ≡ t → is_hot (s.place p) ≡ true
      go true e = touched_hot s p ps hot e
      go false e = warm p below (subst (λ (c : Contents). covers c.node key ≡ true) (cond-false (touches p entered) (written entered p (s.page p)) (s.page p) e) over) (omega arith)

-- ## Behind a change

module _ (z : Shape) (v w : View) (x : Session) (log : Log) (h : Holds z v x log) (f : MayTidy x log) (kind : Kind) (no_commit : is_commit kind ≡ false) (recorded : is_record kind ≡ true) (e : Event) (misses : List Event) (ps : List ℕ) (made : records.Record) (entry_in : State → Entry)
    (rs now : List Record) (y : Session) (log_now : Log) (d : Told z.alone x.own e misses entry_in v rs w y.clock now)
    (does : happens (opening v.given) (state v).core (event_of e) ≡ moves (state v).core kind x.own ps made)
    (enters : entry_in (state v).core ≡ page_entry kind (state v).core x.own (at_pages (state v).core x.own ((state v).core.worker x.own) ps) ps made)
    (pages : pages_of (event_of e) ≡ ps) where
  abbrev s : State
  s = (state v).core

  -- the worker has met the stamps of the pages
  abbrev a : Worker
  a = at_pages s x.own (s.worker x.own) ps

  met_by : Touched (s.worker x.own) a
  met_by = touched s x.own (s.worker x.own) ps

  abbrev r : Entry
  r = page_entry kind s x.own a ps made

  -- and has taken the next number
  abbrev b : Worker
  b = record a { clock = r.number; changes = a.changes }

  abbrev t : State
  t = records_in s x.own a r a.changes

  then_is : after_all w.given d.past ≡ state v
  then_is = now_is z.alone v w d.past h.alone d.ran.given d.onward

  past_is : d.past ≡ v.seen
  past_is = d.onward.whole ∙ (ap (λ ys. v.seen ++ ys) (d.onward.quiet h.alone) ∙ append-nil v.seen)

  seen_is : w.seen ≡ v.seen ++ e ∷ misses
  seen_is = ran_seen z.alone v w (e ∷ misses) h.alone d.ran

  pub met : may (opening v.given) s (event_of e) ≡ true
  met = (λ i. may (opening (sym d.ran.given i)) (sym then_is i).core (event_of e)) ∙ d.met

  -- behind the event, and behind the misses
  between : (after_all w.given (d.past ++ e ∷ [])).core ≡ happens (opening v.given) s (event_of e)
  between = ap (λ m. m.core) ((λ i. after_all (d.ran.given i) (past_is i ++ e ∷ [])) ∙ run_append v.given (begun v.given) v.seen (e ∷ [])) ∙ met_core v.given (state v) e met

  pub happened : (state w).core ≡ happens (opening v.given) s (event_of e)
  happened =
      ap (λ m. m.core) ((λ i. after_all (d.ran.given i) (seen_is i)) ∙ run_append v.given (begun v.given) v.seen (e ∷ misses))
      ∙ (misses_core v.given (stepped v.given (state v) e) misses d.are_misses ∙ met_core v.given (state v) e met)

  core_is : (state w).core ≡ t
  core_is = happened ∙ does

  worker_is : t.worker x.own ≡ b
  worker_is = upd_same s.worker x.own b x.own refl

  clock_of : y.clock ≡ clock_in b
  clock_of = d.clock ∙ (ap (λ k. clock_in (k.worker x.own)) (between ∙ does) ∙ ap clock_in worker_is)

  clock_rises : x.clock.clock < y.clock.clock
  clock_rises = let e = ap (λ c. c.clock) clock_of in let q = h.session.clock in let k = met_by.clock in omega arith

  -- which is no commit
  abbrev waiting : List Entry
  waiting = keep (λ q. is_commit q.kind && ((q.log == x.own) && ltb (s.flushed x.own) q.number)) s.entries

  behind_on : behind t x.own ≡ x.unflushed
  behind_on = (λ i. length (cond (no_commit i && ((r.log == x.own) && ltb (s.flushed x.own) r.number)) (r ∷ waiting) waiting)) ∙ h.behind

  hot_pages : are_hot s ps ≡ true
  hot_pages = (λ i. are_hot s (sym pages i)) ∙ (and_parts (are_hot s (pages_of (event_of e))) (needs (opening v.given) s (event_of e)) met).0

  module _ (old new : Story) (S : Type 0) (f0 f1 : ℕ) (held : w.held ≡ []) (st : Staging (Ok tt) x y rs now log log_now old new S f0 f1) (last : log_now.last ≡ y.clock.clock) where
    flushed_is : log_now.flushed ≡ log.flushed
    flushed_is = same_flushed st.came.entry log log_now st.came.after

    -- what is still to come finds room
    room_on : HasRoomToStage log_now 0
    room_on = room_after st.came.entry log log_now 0 st.came.short st.came.after h.numbers.hand f.room

    hand_on : HasHand log_now
    hand_on = hand_after st.came.entry log log_now st.came.after

    module _ (rest : List ℕ) (left : free_list (opening v.given) (happens (opening v.given) s (event_of e)) ≡ rest) where
      abbrev u : Session
      u = record (record x { clock = risen x.clock y.clock; first = y.first }) { free = rest }

      session_on : IsOf u b
      session_on = record {
        is_open = met_by.is_open ∙ h.session.is_open;
        txn = met_by.txn ∙ h.session.txn;
        clock = sym (ap (λ c. c.clock) clock_of);
        floor = met_by.floor ∙ h.session.floor;
        debt = sym (ap (λ c. c.debt) clock_of);
        end = met_by.end ∙ h.session.end;
        undo = ap undo_of met_by.changes ∙ h.session.undo;
      }

      numbers_on : AreNumbers u log_now
      numbers_on = record {
        last = omega arith;
        order = let q = flushed_is in let b = h.numbers.order in let c = h.numbers.last in let k = clock_rises in omega arith;
        end = let b = h.numbers.end in let k = clock_rises in omega arith;
        room = λ _. room_to_end log_now 0 room_on;
        closed_txn = λ q. absurd (true≢false (sym f.is_open ∙ q));
        txn = let b = h.numbers.txn in let k = clock_rises in omega arith;
        undo_room = λ _. room_to_undo log_now (length x.undo) hand_on (room_kept log_now 0 room_on) h.numbers.few;
        flush_room = λ _ _. room_kept log_now 0 room_on;
        hand = hand_on;
        few = h.numbers.few;
        behind = h.numbers.behind;
      }

      few_left : length rest ≤ 2 ^ 16
      few_left =
          let n = frees_few (λ p. ((happens (opening v.given) s (event_of e)).page p).node) (opening v.given).format.pages 0 in
          let q = ap (λ (l : List ℕ). length l) left in
          let k = h.rows.few_pages in
          omega arith

      after_change : Holds z w u log_now
      after_change = record {
        alone = h.alone;
        idle = held;
        rows = rows_on z v w x.own x.workers x.frames x.held.count d.ran.given h.rows;
        session = subst (λ k. IsOf u (k.worker x.own)) (sym core_is) (subst (λ k. IsOf u k) (sym worker_is) session_on);
        first = ap (λ k. first_of k x.own) core_is ∙ first_staged s t x y r h.session f.is_open h.first (ap (λ k. k.is_open) worker_is ∙ met_by.is_open) (ap (λ k. k.txn) worker_is ∙ met_by.txn) refl recorded refl met_by.txn (sym (ap (λ c. c.clock) clock_of)) st.first;
        numbers = numbers_on;
        flushed = ap (λ k. k.flushed x.own) core_is ∙ (h.flushed ∙ sym flushed_is);
        floor = floor_same v w x.clock.floor d.ran.given (ap (λ k. k.flushed) core_is) h.floor;
        behind = ap (λ k. behind k x.own) core_is ∙ behind_on;
        held = λ i. subst (λ k. holds_row (k.row i) x.own ≡ true ↔ Has i x.held.rows) (sym core_is) (h.held i);
        within = h.within;
        fewer = h.fewer;
        none = h.none;
        free = sym ((λ i. free_list (opening (d.ran.given i)) (happened i)) ∙ left);
        spare = few_left;
      }

      -- the session, with these free pages
      pub holds_made : Holds z w (record y { free = rest }) log_now
      holds_made = subst (λ k. Holds z w k log_now) (λ i. record (sym st.session i) { free = rest }) after_change

    staged_is : entry_of x.own st.came.entry ≡ entry_in s
    staged_is = ap (entry_of x.own) same ∙ (d.staged.2 ∙ ap (λ m. entry_in m.core) then_is)
      where
        same : st.came.entry ≡ d.staged.0
        same = let told = st.came.told in let staged = d.staged.1 in cc

    pub is_made : (free : List ℕ) → IsMade e misses free v w x (record y { free = free }) log log_now old new
    is_made free = record {
      given = d.ran.given;
      seen = seen_is;
      are_misses = d.are_misses;
      met = met;
      happened = happened;
      entry = st.came.entry;
      entry_is = ap (λ k. k.entries) does ∙ ap (λ t. t ∷ s.entries) (sym enters ∙ sym staged_is);
      after = st.came.after;
      stands = st.came.stands;
      keeps = st.came.keeps;
      short = st.came.short;
      session = ap (λ (k : Session). record k { free = free }) st.session;
      stays = ap (λ k. k.place) core_is;
      warm = λ key hot. subst (λ (k : Given). IsWarmFrom (opening k) (state w).core key 0) (sym d.ran.given) (subst (λ k. IsWarmFrom (opening v.given) k key 0) (sym core_is) (warm_moved (opening v.given) s x.own kind ps made hot_pages key hot));
    }
