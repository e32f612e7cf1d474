-- What one session has lasts while a call of another goes on.
use Rattle.std.proofs.Common.{◌≡◌, ◌≤◌, ◌&&◌, ◌||◌, ◌==◌, ◌++◌, ℕ, max, Bool, true, false, cond, not, leb, List, [], ◌∷◌, Option, Some, None, refl, sym, ap, ◌∙◌, subst, arith, append-nil, eq-eqb, true≢false}
use Rattle.std.proofs.lemmas.List.{append_assoc}
use Rattle.std.proofs.lemmas.Bool.{and_from, and_parts, eqb-true, leb-true, ne_eqb}
use Rattle.map_model.specs.Lists.{all, any, keep, upd}
use Rattle.map_model.proofs.ListLemmas.{at_upd}
use Rattle.map_model.specs.Maps.{MapAnswer}
use Rattle.btree_descent.specs.image_model.Entries.{Entry, Kind, is_commit, is_record, word_in}
use Rattle.page_model.specs.Needs as page_needs
use Rattle.rfa_model.specs.Reaches.{least}
use Rattle.btree_descent.specs.core_state.Events as happening
use Rattle.btree_descent.specs.core_state.Local as local
use Rattle.btree_descent.specs.core_state.Needs.{are_hot, holds_row, is_free, is_held_by, is_reader, may, may_hold, needs, pages_of}
use Rattle.btree_descent.specs.core_state.Openings.{Opening}
use Rattle.btree_descent.specs.core_state.States.{Row, State, flushed_by_all, gsns_of, nodes_of}
use Rattle.btree_descent.specs.core_state.Steps as core
use Rattle.btree_descent.specs.core_state.Steps.{AllMet, end_entry, happens, locked, put_back, unlocked}
use Rattle.btree_descent.proofs.core_state.Locality.{every_local}
use Rattle.core_covers.specs.Firsts as covers
use Rattle.core_covers.specs.Firsts.{FirstSteps, first_of}
use Rattle.core_covers.proofs.FirstLemmas.{every_first_step}
use Rattle.engine_calls.specs.core_calls.LogEvents.{behind}
use Rattle.engine_calls.proofs.MarkLemmas.{met_join}
use Rattle.btree_descent.specs.row_words.declared.event.Event.{Event}
use Rattle.btree_descent.specs.row_words.declared.event.Event.TheVariants as told
use Rattle.btree_descent.specs.row_words.declared.event.Met.TheVariants as met
use Rattle.btree_descent.specs.row_words.declared.given.Given.{Given}
use Rattle.btree_descent.specs.row_words.Moments.{Moment, event_of, events_of, mode_of}
use Rattle.btree_descent.specs.row_words.Openings.{opening}
use Rattle.btree_descent.specs.row_words.Sealed.{begun, run, stepped}
use Rattle.btree_descent.proofs.row_words.SealedLemmas.{run_append}
use Rattle.btree_descent.specs.rows_trait.declared.view.View.{View}
use Rattle.btree_descent.specs.rows_trait.Views.{after_all, state}
use Rattle.key_locks.proofs.Masks.{others_else, reads_else}
use Rattle.session_state.specs.Holds.{IsOf}
use Rattle.session_state.specs.Others.{EveryOther, EverySteps, Steps, is_of}
use Rattle.session_state.proofs.HoldLemmas.{rows_on}
use Rattle.session_state.proofs.WaitLemmas.{behind_more, behind_same, floor_flush}
use Rattle.session_state.proofs.Moments.{events_more}

-- ## A row

-- as w takes it and gives it back, for another u
module _ (o : Row) (w u : ℕ) (other : u ≡ w → ⊥) where
  -- nobody else reads what one may hold alone
  unread : (rs : List ℕ) → not (any (λ v. not (v == w)) rs) ≡ true → is_reader u rs ≡ false
  unread [] lone = refl
  unread (r ∷ rs) lone = go (unread rs) (r == w) refl lone
    where
      go : (not (any (λ v. not (v == w)) rs) ≡ true → is_reader u rs ≡ false) → (b : Bool) → (r == w) ≡ b → not (not b || any (λ v. not (v == w)) rs) ≡ true → ((r == u) || is_reader u rs) ≡ false
      go rest true e k = ap (λ b. b || is_reader u rs) (ne_eqb r u (λ q. other (sym q ∙ eqb-true r w e))) ∙ rest k
      go rest false e k = absurd (true≢false (sym k))

  -- where w holds it alone, u does not
  held_else : (h : Option ℕ) → is_held_by h w ≡ true → is_held_by h u ≡ false
  held_else None e = refl
  held_else (Some v) e = ne_eqb v u (λ q. other (sym q ∙ eqb-true v w e))

  free_else : (h : Option ℕ) → is_free h ≡ true → is_held_by h u ≡ false
  free_else None e = refl
  free_else (Some v) e = absurd (true≢false (sym e))

  lock_else : (m : happening.Mode) → may_hold o w m ≡ true → holds_row (locked o w m) u ≡ holds_row o u
  lock_else happening.Mode.Shared ok = go (is_held_by o.holder w)
    where
      go : (b : Bool) → holds_row (cond b o (record o { readers = cond (is_reader w o.readers) o.readers (w ∷ o.readers) })) u ≡ holds_row o u
      go true = refl
      go false = ap (λ b. is_held_by o.holder u || b) (reads_else w u o.readers other)
  lock_else happening.Mode.Alone ok = go (is_held_by o.holder w) refl ok
    where
      go : (b : Bool) → is_held_by o.holder w ≡ b → (b || (is_free o.holder && not (any (λ v. not (v == w)) o.readers))) ≡ true → holds_row (cond b o (record o { holder = Some w; readers = [] })) u ≡ holds_row o u
      go true e k = refl
      go false e k =
          let p = and_parts (is_free o.holder) (not (any (λ v. not (v == w)) o.readers)) k in
          ap (λ b. b || false) (ne_eqb w u (λ q. other (sym q))) ∙ sym (ap (λ b. b || is_reader u o.readers) (free_else o.holder p.0) ∙ unread o.readers p.1)

  unlock_else : (end : ℕ) → holds_row (unlocked o w end) u ≡ holds_row o u
  unlock_else end = go (is_held_by o.holder w) refl
    where
      go : (b : Bool) → is_held_by o.holder w ≡ b →
          holds_row (cond b (record { holder = None; readers = keep (λ v. not (v == w)) o.readers; number = max o.number end; log = w; read_end = o.read_end })
          (record { holder = o.holder; readers = keep (λ v. not (v == w)) o.readers; number = o.number; log = o.log; read_end = max o.read_end end })) u ≡ holds_row o u
      go true e = others_else w u o.readers other ∙ sym (ap (λ b. b || is_reader u o.readers) (held_else o.holder e))
      go false e = ap (λ b. is_held_by o.holder u || b) (others_else w u o.readers other)

-- ## An event

-- what of u's stays, and that no flush is taken back
record Stays (g : Opening) (u : ℕ) (s t : State) : Type 0 where
  worker : t.worker u ≡ s.worker u
  flushed : t.flushed u ≡ s.flushed u
  commits : behind t u ≡ behind s u
  first : first_of t u ≡ first_of s u
  held : (i : ℕ) → holds_row (t.row i) u ≡ holds_row (s.row i) u
  least : flushed_by_all g s ≤ flushed_by_all g t

stays : (g : Opening) (u : ℕ) (s : State) → Stays g u s s
stays g u s = record { worker = refl; flushed = refl; commits = refl; first = refl; held = λ i. refl; least = omega arith }

stays_on : (g : Opening) (u : ℕ) (s t r : State) → Stays g u s t → Stays g u t r → Stays g u s r
stays_on g u s t r a b = record {
  worker = b.worker ∙ a.worker;
  flushed = b.flushed ∙ a.flushed;
  commits = b.commits ∙ a.commits;
  first = b.first ∙ a.first;
  held = λ i. b.held i ∙ a.held i;
  least = let p = a.least in let q = b.least in omega arith;
}

module _ (g : Opening) (s : State) (own u : ℕ) (other : u ≡ own → ⊥) where
  -- an event of session own is none of u
  apart : (w : ℕ) → (w == own) ≡ true → u ≡ w → ⊥
  apart w is q = other (q ∙ eqb-true w own is)

  not_of : (w : ℕ) → (w == own) ≡ true → (w == u) ≡ false
  not_of w is = ne_eqb w u (λ q. apart w is (sym q))

  abbrev Kept : State → Type 0
  Kept t = (t.worker u ≡ s.worker u) × (t.flushed u ≡ s.flushed u)

  kept : (e : happening.Event) → local.is_of e u ≡ false → local.is_sync e ≡ false → Kept (happens g s e)
  kept e none part = let l = every_local g s e in (l.workers u none part, l.flushed u none part)

  -- its first record is the same
  firsts : (t : State) → Kept t → FirstSteps s t u
  firsts t k = every_first_step s t u (ap (λ a. a.is_open) k.0) (ap (λ a. a.txn) k.0)

  -- no row and no flushed number changes, and no commit of u is entered
  quiet : (t : State) → Kept t → t.row ≡ s.row → t.flushed ≡ s.flushed → behind t u ≡ behind s u → first_of t u ≡ first_of s u → Stays g u s t
  quiet t k row flushed commits first = record {
    worker = k.0;
    flushed = k.1;
    commits = commits;
    first = first;
    held = λ i. ap (λ (f : ℕ → Row). holds_row (f i) u) row;
    least = let q = ap (λ (f : ℕ → ℕ). least f g.workers) flushed in omega arith;
  }

  still : (t : State) → Kept t → t.row ≡ s.row → t.flushed ≡ s.flushed → t.entries ≡ s.entries → Stays g u s t
  still t k row flushed entries = quiet t k row flushed (behind_same s t u entries k.1) ((firsts t k).same entries)

  -- an entry of another log is none of u's, whatever it is
  enters : (t : State) → Kept t → t.row ≡ s.row → t.flushed ≡ s.flushed → (r : Entry) → t.entries ≡ r ∷ s.entries → (r.log == u) ≡ false → Stays g u s t
  enters t k row flushed r entries none = quiet t k row flushed (behind_more s t u r entries k.1 (else_none (is_commit r.kind))) ((firsts t k).other r entries own_none)
    where
      else_none : (b : Bool) → (b && (r.log == u)) ≡ false
      else_none true = none
      else_none false = refl

      own_none : covers.is_own u (s.worker u).txn r ≡ false
      own_none = go (is_record r.kind)
        where
          go : (b : Bool) → (b && ((r.log == u) && (r.txn == (s.worker u).txn))) ≡ false
          go true = ap (λ c. c && (r.txn == (s.worker u).txn)) none
          go false = refl

  -- a row changes, but not for u
  turns : (t : State) → Kept t → (i : ℕ) (o : Row) → holds_row o u ≡ holds_row (s.row i) u → t.row ≡ upd s.row i o → t.flushed ≡ s.flushed → t.entries ≡ s.entries → Stays g u s t
  turns t k i o same row flushed entries = record {
    worker = k.0;
    flushed = k.1;
    commits = behind_same s t u entries k.1;
    first = (firsts t k).same entries;
    held = λ j. ap (λ (f : ℕ → Row). holds_row (f j) u) row ∙ at_upd (λ n (r : Row). holds_row r u ≡ holds_row (s.row n) u) s.row i o j same (λ _. refl);
    least = let q = ap (λ (f : ℕ → ℕ). least f g.workers) flushed in omega arith;
  }

  back : (w p : ℕ) (changes : List Entry) → (w == u) ≡ false → Kept (put_back g s w p changes) → Stays g u s (put_back g s w p changes)
  back w p [] none k = stays g u s
  back w p (c ∷ cs) none k = enters (put_back g s w p (c ∷ cs)) k refl refl (core.write_entry g Kind.Put_back s w (core.at_pages s w (s.worker w) (p ∷ [])) p c.key c.before) refl none

  stays_event : (e : Event) → is_of own e ≡ true → needs g s (event_of e) ≡ true → Stays g u s (happens g s (event_of e))
  stays_event (told.Begin w f) is need = let e = happening.Event.Begin w f in still (happens g s e) (kept e (not_of w is) refl) refl refl refl
  stays_event (told.Lock w i m) is need =
      let e = happening.Event.Lock w i (mode_of m) in
      turns (happens g s e) (kept e (not_of w is) refl) i (locked (s.row i) w (mode_of m)) (lock_else (s.row i) w u (apart w is) (mode_of m) (and_parts (s.worker w).is_open (may_hold (s.row i) w (mode_of m)) need).1) refl refl refl
  stays_event (told.Read w p k a) is need =
      let e = happening.Event.Read w p k a in
      let b = core.at_pages s w (s.worker w) (p ∷ []) in
      enters (happens g s e) (kept e (not_of w is) refl) refl refl (core.read_entry w b k (word_in g.format (s.page p).node k) (is_held_by (s.row (g.row_of k)).holder w)) refl (not_of w is)
  stays_event (told.Next w p k (met.Pair j x)) is need =
      let e = happening.Event.Next w p k (MapAnswer.Pair j x) in
      let b = core.at_pages s w (s.worker w) (p ∷ []) in
      enters (happens g s e) (kept e (not_of w is) refl) refl refl (core.read_entry w b j (word_in g.format (s.page p).node j) (is_held_by (s.row (g.row_of j)).holder w)) refl (not_of w is)
  stays_event (told.Next w p k (met.Gap h)) is need = let e = happening.Event.Next w p k (MapAnswer.Gap h) in still (happens g s e) (kept e (not_of w is) refl) refl refl refl
  stays_event (told.Change w p k v) is need =
      let e = happening.Event.Change w p k v in
      enters (happens g s e) (kept e (not_of w is) refl) refl refl (core.write_entry g Kind.Change s w (core.at_pages s w (s.worker w) (p ∷ [])) p k v) refl (not_of w is)
  stays_event (told.PutBack w p) is need = back w p (s.worker w).changes (not_of w is) (kept (happening.Event.Put_back w p) (not_of w is) refl)
  stays_event (told.Split w l r q i) is need =
      let e = happening.Event.Split w l r q i in
      enters (happens g s e) (kept e (not_of w is) refl) refl refl (core.page_entry Kind.Split s w (core.at_pages s w (s.worker w) (l ∷ r ∷ q ∷ [])) (l ∷ r ∷ q ∷ []) (page_needs.split_record (nodes_of s) (gsns_of s) l r q i)) refl (not_of w is)
  stays_event (told.Lift w c) is need =
      let e = happening.Event.Lift w c in
      enters (happens g s e) (kept e (not_of w is) refl) refl refl (core.page_entry Kind.Lift s w (core.at_pages s w (s.worker w) (0 ∷ c ∷ [])) (0 ∷ c ∷ []) (page_needs.lift_record (nodes_of s) (gsns_of s) c)) refl (not_of w is)
  stays_event (told.Join w l r q) is need =
      let e = happening.Event.Join w l r q in
      enters (happens g s e) (kept e (not_of w is) refl) refl refl (core.page_entry Kind.Join s w (core.at_pages s w (s.worker w) (l ∷ r ∷ q ∷ [])) (l ∷ r ∷ q ∷ []) (page_needs.join_record (nodes_of s) (gsns_of s) l r q)) refl (not_of w is)
  stays_event (told.Drop w c) is need =
      let e = happening.Event.Drop w c in
      enters (happens g s e) (kept e (not_of w is) refl) refl refl (core.page_entry Kind.Drop s w (core.at_pages s w (s.worker w) (0 ∷ c ∷ [])) (0 ∷ c ∷ []) (page_needs.drop_record (nodes_of s) (gsns_of s) c)) refl (not_of w is)
  stays_event (told.Purge w p keys) is need =
      let e = happening.Event.Purge w p keys in
      enters (happens g s e) (kept e (not_of w is) refl) refl refl (core.page_entry Kind.Purge s w (core.at_pages s w (s.worker w) (p ∷ [])) (p ∷ []) (page_needs.purge_record (gsns_of s) p keys)) refl (not_of w is)
  stays_event (told.End w commit f) is need =
      let e = happening.Event.End w commit f in
      enters (happens g s e) (kept e (not_of w is) refl) refl refl (end_entry (cond commit Kind.Commit Kind.Abort) w (s.worker w) f) refl (not_of w is)
  stays_event (told.Unlock w i) is need =
      let e = happening.Event.Unlock w i in
      turns (happens g s e) (kept e (not_of w is) refl) i (unlocked (s.row i) w (s.worker w).end) (unlock_else (s.row i) w u (apart w is) (s.worker w).end) refl refl refl
  stays_event (told.Flush w n) is need = let k = kept (happening.Event.Flush w n) (not_of w is) refl in record {
    worker = k.0;
    flushed = k.1;
    commits = behind_same s (happens g s (happening.Event.Flush w n)) u refl k.1;
    first = refl;
    held = λ i. refl;
    least = floor_flush g s w n (flushed_by_all g s) (leb-true (s.flushed w) n (and_parts (leb (s.flushed w) n) (any (λ r. is_record r.kind && ((r.log == w) && (r.number == n))) s.entries) need).0) (omega arith);
  }
  stays_event (told.Miss w) is need = stays g u s
  stays_event (told.Load p f) is need = let e = happening.Event.Load p f in still (happens g s e) (kept e refl refl) refl refl refl
  stays_event _ is need = absurd (true≢false (sym is))

-- ## Events one behind another

stays_step : (v : Given) (m : Moment) (own u : ℕ) → (u ≡ own → ⊥) → (e : Event) → is_of own e ≡ true → Stays (opening v) u m.core (stepped v m e).core
unfolding stepped
stays_step v m own u other e is = go (may (opening v) m.core (event_of e)) refl
  where
    go : (b : Bool) → may (opening v) m.core (event_of e) ≡ b → Stays (opening v) u m.core (cond b (happens (opening v) m.core (event_of e)) m.core)
    go true can = stays_event (opening v) m.core own u other e is (and_parts (are_hot m.core (pages_of (event_of e))) (needs (opening v) m.core (event_of e)) can).1
    go false _ = stays (opening v) u m.core

stays_run : (v : Given) (m : Moment) (own u : ℕ) → (u ≡ own → ⊥) → (es : List Event) → all (is_of own) es ≡ true → Stays (opening v) u m.core (run v m es).core
stays_run v m own u other [] are = stays (opening v) u m.core
stays_run v m own u other (e ∷ es) are =
    let p = and_parts (is_of own e) (all (is_of own) es) are in
    stays_on (opening v) u m.core (stepped v m e).core (run v (stepped v m e) es).core (stays_step v m own u other e p.0) (stays_run v (stepped v m e) own u other es p.1)

-- where steps lead
pub steps_state : (own : ℕ) (v w : View) (t : Steps own v w) → state w ≡ run v.given (state v) t.events
steps_state own v w t = (λ i. after_all (t.given i) (t.seen i)) ∙ run_append v.given (begun v.given) v.seen t.events

-- ## Two sessions

pub every_other : EveryOther
every_other z v w x y log log_of_y h k other _ _ _ t = record {
  alone = k.alone;
  idle = k.idle;
  rows = rows_on z v w x.own x.workers x.frames x.held.count t.given h.rows;
  session = let i = subst (λ a. IsOf x a) (sym now.worker) h.session in record { is_open = i.is_open; txn = i.txn; clock = i.clock; floor = i.floor; debt = i.debt; end = i.end; undo = i.undo };
  numbers = let n = h.numbers in record { last = n.last; order = n.order; end = n.end; room = n.room; undo_room = n.undo_room; flush_room = n.flush_room; hand = n.hand; closed_txn = n.closed_txn; txn = n.txn; few = n.few; behind = n.behind };
  first = now.first ∙ h.first;
  flushed = now.flushed ∙ h.flushed;
  floor = let a = h.floor in let b = now.least in let c = ap (λ q. flushed_by_all (opening q) (state w).core) t.given in omega arith;
  behind = now.commits ∙ h.behind;
  held = λ i. ((λ e. (h.held i).0 (sym (now.held i) ∙ e)), (λ e. now.held i ∙ (h.held i).1 e));
  within = h.within;
  fewer = h.fewer;
  none = h.none;
  free = k.free;
  spare = k.spare;
}
  where
    now : Stays (opening v.given) x.own (state v).core (state w).core
    now = subst (λ m. Stays (opening v.given) x.own (state v).core m.core) (sym (steps_state y.own v w t)) (stays_run v.given (state v) y.own x.own other t.events t.are_own)

    many : x.workers ≡ y.workers
    many = sym h.rows.workers ∙ (ap (λ q. (opening q).workers) (sym t.given) ∙ k.rows.workers)

-- ## Two calls of a session

all_join : (f : Event → Bool) (es fs : List Event) → all f es ≡ true → all f fs ≡ true → all f (es ++ fs) ≡ true
all_join f [] fs a b = b
all_join f (e ∷ es) fs a b = let p = and_parts (f e) (all f es) a in and_from (f e) (all f (es ++ fs)) p.0 (all_join f es fs p.1 b)

stepped_core : (v : Given) (m : Moment) (e : Event) → (stepped v m e).core ≡ core.step (opening v) m.core (event_of e)
unfolding stepped
stepped_core v m e = refl

run_core : (v : Given) (m : Moment) (es : List Event) → (run v m es).core ≡ core.run (opening v) m.core (events_of es)
run_core v m [] = refl
run_core v m (e ∷ es) = run_core v (stepped v m e) es ∙ ap (λ s. core.run (opening v) s (events_of es)) (stepped_core v m e)

pub every_steps : EverySteps
every_steps own v u w a b = record {
  events = a.events ++ b.events;
  given = b.given ∙ a.given;
  seen = b.seen ∙ (ap (λ es. es ++ b.events) a.seen ∙ append_assoc v.seen a.events b.events);
  are_own = all_join (is_of own) a.events b.events a.are_own b.are_own;
  met = subst (λ es. AllMet (opening v.given) (state v).core es) (sym (events_more a.events b.events)) (met_join (opening v.given) (state v).core (events_of a.events) (events_of b.events) a.met later);
}
  where
    core_is : (state u).core ≡ core.run (opening v.given) (state v).core (events_of a.events)
    core_is = ap (λ m. m.core) (steps_state own v u a) ∙ run_core v.given (state v) a.events

    later : AllMet (opening v.given) (core.run (opening v.given) (state v).core (events_of a.events)) (events_of b.events)
    later = subst (λ s. AllMet (opening v.given) s (events_of b.events)) core_is (subst (λ q. AllMet (opening q) (state u).core (events_of b.events)) a.given b.met)

-- ## Single events

-- nothing was seen
pub no_steps : (own : ℕ) (v w : View) → w.given ≡ v.given → w.seen ≡ v.seen → Steps own v w
no_steps own v w given seen = record { events = []; given = given; seen = seen ∙ sym (append-nil v.seen); are_own = refl; met = tt }

-- one event was
pub one_step : (own : ℕ) (v w : View) (e : Event) → w.given ≡ v.given → w.seen ≡ v.seen ++ e ∷ [] → is_of own e ≡ true → may (opening v.given) (state v).core (event_of e) ≡ true → Steps own v w
one_step own v w e given seen is met = record { events = e ∷ []; given = given; seen = seen; are_own = and_from (is_of own e) true is refl; met = (met, tt) }

-- an event of the worker is one of the session
pub is_own : (own : ℕ) → (own == own) ≡ true
is_own own = eq-eqb own own refl
