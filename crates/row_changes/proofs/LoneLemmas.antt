-- Where there is one worker, no lock row tells of a number above its clock.
use Rattle.std.proofs.Common.{◌≡◌, ◌⊎◌, inl, inr, ◌≤◌, ◌<◌, ◌||◌, ◌==◌, ℕ, suc, max, Bool, true, false, cond, not, ltb, leb, List, [], ◌∷◌, Some, None, refl, sym, ap, ◌∙◌, subst, arith, true≢false}
use Rattle.std.proofs.lemmas.Bool.{and_parts, or_cases, eqb-true, leb-true, ltb-true}
use Rattle.map_model.specs.Lists.{keep, upd}
use Rattle.map_model.specs.Maps.{MapAnswer}
use Rattle.map_model.proofs.ListLemmas.{any_has, at_upd, has_any, keep_has, upd_same}
use Rattle.session_state.specs.image_model.Entries.{Entry, Kind}
use Rattle.page_model.specs.Records.{Record}
use Rattle.session_state.specs.core_state.Events as happening
use Rattle.session_state.specs.core_state.Needs.{are_hot, holds_row, is_held_by, is_reader, is_worker, may, may_hold, needs, pages_of}
use Rattle.session_state.specs.core_state.Openings.{Opening}
use Rattle.session_state.specs.core_state.States.{Row, State, Worker}
use Rattle.session_state.specs.core_state.Steps as core
use Rattle.session_state.specs.core_state.Steps.{at_pages, at_row, finished, follows, happens, locked, moves, put_back, unlocked, writes}
use Rattle.session_state.specs.row_words.declared.event.Event.{Event}
use Rattle.session_state.specs.row_words.declared.given.Given.{Given}
use Rattle.session_state.specs.row_words.Moments as moments
use Rattle.session_state.specs.row_words.Moments.{Moment, event_of, first_state}
use Rattle.session_state.specs.row_words.Openings.{opening}
use Rattle.session_state.specs.row_words.Sealed.{begun, run, stepped}
use Rattle.session_state.specs.rows_trait.Views.{state}
use Rattle.session_state.specs.rows_trait.declared.view.View.{View}

-- ## What each event keeps

-- Who is open or holds a row is a worker; no end is above its clock, and what a row tells is not above that of worker 1.
record Kept (g : Opening) (s : State) : Type 0 where
  opened : (w : ℕ) → (s.worker w).is_open ≡ true → is_worker g w ≡ true
  holder : (i w : ℕ) → holds_row (s.row i) w ≡ true → is_worker g w ≡ true
  end : (w : ℕ) → (s.worker w).end ≤ (s.worker w).clock
  number : (i : ℕ) → (s.row i).number ≤ (s.worker 1).clock
  read_end : (i : ℕ) → (s.row i).read_end ≤ (s.worker 1).clock

-- worker w goes on
record Goes (g : Opening) (w : ℕ) (a b : Worker) : Type 0 where
  opened : b.is_open ≡ true → is_worker g w ≡ true
  end : b.end ≤ b.clock
  clock : a.clock ≤ b.clock

worker_goes : (g : Opening) (s : State) → Kept g s → (w : ℕ) (b : Worker) → Goes g w (s.worker w) b → (t : State) → t.row ≡ s.row → t.worker ≡ upd s.worker w b → Kept g t
worker_goes g s k w b r t row worker = record {
  opened = λ u o. at_upd (λ v (a : Worker). a.is_open ≡ true → is_worker g v ≡ true) s.worker w b u r.opened (λ _. k.opened u) (ap (λ f. (f u).is_open) (sym worker) ∙ o);
  holder = λ i u h. k.holder i u (ap (λ f. holds_row (f i) u) (sym row) ∙ h);
  end = λ u. subst (λ (f : ℕ → Worker). (f u).end ≤ (f u).clock) (sym worker) (at_upd (λ v (a : Worker). a.end ≤ a.clock) s.worker w b u r.end (λ _. k.end u));
  number = λ i. let c = ap (λ (f : ℕ → Row). (f i).number) row in let d = k.number i in let e = rises in omega arith;
  read_end = λ i. let c = ap (λ (f : ℕ → Row). (f i).read_end) row in let d = k.read_end i in let e = rises in omega arith;
}
  where
    rises : (s.worker 1).clock ≤ (t.worker 1).clock
    rises = subst (λ (f : ℕ → Worker). (s.worker 1).clock ≤ (f 1).clock) (sym worker) (at_upd (λ v (a : Worker). (s.worker v).clock ≤ a.clock) s.worker w b 1 r.clock (λ _. omega arith))

row_goes : (g : Opening) (s : State) → Kept g s → (i : ℕ) (o : Row) → ((w : ℕ) → holds_row o w ≡ true → is_worker g w ≡ true) → o.number ≤ (s.worker 1).clock → o.read_end ≤ (s.worker 1).clock → Kept g (record s { row = upd s.row i o })
row_goes g s k i o holder number ends = record {
  opened = k.opened;
  holder = λ j. at_upd (λ _ (r : Row). (w : ℕ) → holds_row r w ≡ true → is_worker g w ≡ true) s.row i o j holder (λ _. k.holder j);
  end = k.end;
  number = λ j. at_upd (λ _ (r : Row). r.number ≤ (s.worker 1).clock) s.row i o j number (λ _. k.number j);
  read_end = λ j. at_upd (λ _ (r : Row). r.read_end ≤ (s.worker 1).clock) s.row i o j ends (λ _. k.read_end j);
}

-- ## Touches

record Touched (a b : Worker) : Type 0 where
  open_is : b.is_open ≡ a.is_open
  end_is : b.end ≡ a.end
  clock : a.clock ≤ b.clock

touched : (s : State) (w : ℕ) (a : Worker) (ps : List ℕ) → Touched a (at_pages s w a ps)
touched s w a [] = record { open_is = refl; end_is = refl; clock = omega arith }
touched s w a (p ∷ ps) = let r = touched s w a ps in record { open_is = r.open_is; end_is = r.end_is; clock = let c = r.clock in omega arith }

-- with a clock that is no less, maybe, a worker goes on that was touched
goes_on : (g : Opening) (s : State) → Kept g s → (w : ℕ) (b : Worker) → Touched (s.worker w) b → (n : ℕ) → b.clock ≤ n → (changes : List Entry) → Goes g w (s.worker w) (record b { clock = n; changes = changes })
goes_on g s k w b r n le changes = record {
  opened = λ o. k.opened w (sym r.open_is ∙ o);
  end = let e = r.end_is in let c = k.end w in let d = r.clock in omega arith;
  clock = let d = r.clock in omega arith;
}

kept_moves : (g : Opening) (s : State) → Kept g s → (kind : Kind) (w : ℕ) (ps : List ℕ) (x : Record) → Kept g (moves s kind w ps x)
kept_moves g s k kind w ps x =
    let b = at_pages s w (s.worker w) ps in
    worker_goes g s k w (record b { clock = suc b.clock; changes = b.changes }) (goes_on g s k w b (touched s w (s.worker w) ps) (suc b.clock) (omega arith) b.changes) (moves s kind w ps x) refl refl

kept_writes : (g : Opening) (s : State) → Kept g s → (kind : Kind) (w p key v : ℕ) (changes : Entry → List Entry) → Kept g (writes g s kind w p key v changes)
kept_writes g s k kind w p key v changes =
    let b = at_pages s w (s.worker w) (p ∷ []) in
    let t = writes g s kind w p key v changes in
    worker_goes g s k w (t.worker w) (subst (λ c. Goes g w (s.worker w) c) (sym here) (goes_on g s k w b (touched s w (s.worker w) (p ∷ [])) (suc b.clock) (omega arith) (changes (core.write_entry g kind s w b p key v)))) t refl
    (ap (upd s.worker w) (sym here))
  where
    here : (writes g s kind w p key v changes).worker w ≡ record (at_pages s w (s.worker w) (p ∷ [])) { clock = suc (at_pages s w (s.worker w) (p ∷ [])).clock; changes = changes (core.write_entry g kind s w (at_pages s w (s.worker w) (p ∷ [])) p key v) }
    here = upd_same s.worker w (record (at_pages s w (s.worker w) (p ∷ [])) { clock = suc (at_pages s w (s.worker w) (p ∷ [])).clock; changes = changes (core.write_entry g kind s w (at_pages s w (s.worker w) (p ∷ [])) p key v) }) w refl

kept_looks : (g : Opening) (s : State) → Kept g s → (w : ℕ) (ps : List ℕ) (t : State) → t.row ≡ s.row → t.worker ≡ upd s.worker w (at_pages s w (s.worker w) ps) → Kept g t
kept_looks g s k w ps t row worker =
    let b = at_pages s w (s.worker w) ps in
    worker_goes g s k w b (goes_on g s k w b (touched s w (s.worker w) ps) b.clock (omega arith) b.changes) t row worker

-- ## Rows

-- one more may hold it
locked_holder : (o : Row) (w u : ℕ) (m : happening.Mode) → holds_row (locked o w m) u ≡ true → (u ≡ w) ⊎ (holds_row o u ≡ true)
locked_holder o w u happening.Mode.Shared = go (is_held_by o.holder w)
  where
    or_right : (a b : Bool) → b ≡ true → (a || b) ≡ true
    or_right true b e = refl
    or_right false b e = e

    reader : (b : Bool) → (is_held_by o.holder u || is_reader u (cond b o.readers (w ∷ o.readers))) ≡ true → (u ≡ w) ⊎ (holds_row o u ≡ true)
    reader true h = inr h
    reader false h = elim (or_cases (is_held_by o.holder u) ((w == u) || is_reader u o.readers) h) [
      | inl e ↦ inr (ap (λ b. b || is_reader u o.readers) e)
      | inr e ↦ elim (or_cases (w == u) (is_reader u o.readers) e) [
        | inl q ↦ inl (sym (eqb-true w u q))
        | inr q ↦ inr (or_right (is_held_by o.holder u) (is_reader u o.readers) q)
      ]
    ]

    go : (b : Bool) → holds_row (cond b o (record o { readers = cond (is_reader w o.readers) o.readers (w ∷ o.readers) })) u ≡ true → (u ≡ w) ⊎ (holds_row o u ≡ true)
    go true h = inr h
    go false h = reader (is_reader w o.readers) h
locked_holder o w u happening.Mode.Alone = go (is_held_by o.holder w)
  where
    go : (b : Bool) → holds_row (cond b o (record o { holder = Some w; readers = [] })) u ≡ true → (u ≡ w) ⊎ (holds_row o u ≡ true)
    go true h = inr h
    go false h = elim (or_cases (w == u) false h) [ inl q ↦ inl (sym (eqb-true w u q)) | inr q ↦ absurd (true≢false (sym q)) ]

record SameStamps (o r : Row) : Type 0 where
  number : r.number ≡ o.number
  read_end : r.read_end ≡ o.read_end

locked_stamps : (o : Row) (w : ℕ) (m : happening.Mode) → SameStamps o (locked o w m)
locked_stamps o w happening.Mode.Shared = go (is_held_by o.holder w)
  where
    go : (b : Bool) → SameStamps o (cond b o (record o { readers = cond (is_reader w o.readers) o.readers (w ∷ o.readers) }))
    go true = record { number = refl; read_end = refl }
    go false = record { number = refl; read_end = refl }
locked_stamps o w happening.Mode.Alone = go (is_held_by o.holder w)
  where
    go : (b : Bool) → SameStamps o (cond b o (record o { holder = Some w; readers = [] }))
    go true = record { number = refl; read_end = refl }
    go false = record { number = refl; read_end = refl }

kept_lock : (g : Opening) (s : State) → Kept g s → (w i : ℕ) (m : happening.Mode) → (s.worker w).is_open ≡ true → Kept g (happens g s (happening.Event.Lock w i m))
kept_lock g s k w i m is_open =
    worker_goes g t rows w a (record { opened = λ _. k.opened w is_open; end = let e = k.end w in omega arith; clock = omega arith }) (happens g s (happening.Event.Lock w i m)) refl refl
  where
    a : Worker
    a = at_row w (s.worker w) (s.row i)

    t : State
    t = record s { row = upd s.row i (locked (s.row i) w m) }

    rows : Kept g t
    rows = row_goes g s k i (locked (s.row i) w m)
        (λ u h. elim (locked_holder (s.row i) w u m h) [ inl e ↦ subst (λ v. is_worker g v ≡ true) (sym e) (k.opened w is_open) | inr e ↦ k.holder i u e ])
        (let q = (locked_stamps (s.row i) w m).number in let c = k.number i in omega arith) (let q = (locked_stamps (s.row i) w m).read_end in let c = k.read_end i in omega arith)

still_reader : (w u : ℕ) (l : List ℕ) → is_reader u (keep (λ v. not (v == w)) l) ≡ true → is_reader u l ≡ true
still_reader w u l h =
    let q = any_has (λ v. v == u) (keep (λ v. not (v == w)) l) h in
    has_any (λ v. v == u) l q.0 (keep_has (λ v. not (v == w)) l q.0 q.1).0 q.2

record Unlocked (o r : Row) (end : ℕ) : Type 0 where
  holder : (u : ℕ) → holds_row r u ≡ true → holds_row o u ≡ true
  number : r.number ≤ max o.number end
  read_end : r.read_end ≤ max o.read_end end

unlocked_row : (o : Row) (w end : ℕ) → Unlocked o (unlocked o w end) end
unlocked_row o w end = go (is_held_by o.holder w)
  where
    or_right : (a b : Bool) → b ≡ true → (a || b) ≡ true
    or_right true b e = refl
    or_right false b e = e

    others : List ℕ
    others = keep (λ v. not (v == w)) o.readers

    go : (b : Bool) → Unlocked o (cond b (record { holder = None; readers = keep (λ v. not (v == w)) o.readers; number = max o.number end; log = w; read_end = o.read_end }) (record { holder = o.holder; readers = keep (λ v. not (v == w)) o.readers; number = o.number; log = o.log; read_end = max o.read_end end })) end
    go true = record { holder = λ u h. or_right (is_held_by o.holder u) (is_reader u o.readers) (still_reader w u o.readers h); number = omega arith; read_end = omega arith }
    go false = record {
      holder = λ u h. elim (or_cases (is_held_by o.holder u) (is_reader u (keep (λ v. not (v == w)) o.readers)) h) [
        | inl e ↦ ap (λ b. b || is_reader u o.readers) e
        | inr e ↦ or_right (is_held_by o.holder u) (is_reader u o.readers) (still_reader w u o.readers e)
      ];
      number = omega arith;
      read_end = omega arith;
    }

-- the one worker there is
the_one : (g : Opening) (w : ℕ) → g.workers ≡ 1 → is_worker g w ≡ true → w ≡ 1
the_one g w one e = let p = and_parts (ltb 0 w) (leb w g.workers) e in let a = some w p.0 in let b = leb-true w g.workers p.1 in omega arith
  where
    some : (n : ℕ) → ltb 0 n ≡ true → 0 < n
    some n q = ltb-true 0 n q

kept_unlock : (g : Opening) (s : State) → g.workers ≡ 1 → Kept g s → (w i : ℕ) → holds_row (s.row i) w ≡ true → Kept g (happens g s (happening.Event.Unlock w i))
kept_unlock g s one k w i h =
    let r = unlocked_row (s.row i) w (s.worker w).end in
    row_goes g s k i (unlocked (s.row i) w (s.worker w).end) (λ u q. k.holder i u (r.holder u q)) (let a = r.number in let b = k.number i in let c = low in omega arith) (let a = r.read_end in let b = k.read_end i in let c = low in omega arith)
  where
    low : (s.worker w).end ≤ (s.worker 1).clock
    low = subst (λ v. (s.worker w).end ≤ (s.worker v).clock) (the_one g w one (k.holder i w h)) (k.end w)

-- ## Every event

kept_event : (g : Opening) (s : State) → g.workers ≡ 1 → Kept g s → (e : happening.Event) → needs g s e ≡ true → Kept g (happens g s e)
kept_event g s one k (happening.Event.Begin w f) m =
    worker_goes g s k w (core.begun (s.worker w) f) (record { opened = λ _. (and_parts (is_worker g w) _ m).0; end = k.end w; clock = omega arith }) (happens g s (happening.Event.Begin w f)) refl refl
kept_event g s one k (happening.Event.Lock w i mode) m = kept_lock g s k w i mode (and_parts (s.worker w).is_open (may_hold (s.row i) w mode) m).0
kept_event g s one k (happening.Event.Read w p key a) m = kept_looks g s k w (p ∷ []) (happens g s (happening.Event.Read w p key a)) refl refl
kept_event g s one k (happening.Event.Next w p key a) m = go a
  where
    go : (a : MapAnswer) → Kept g (follows g s w p a)
    go (MapAnswer.Pair at word) = kept_looks g s k w (p ∷ []) (follows g s w p (MapAnswer.Pair at word)) refl refl
    go (MapAnswer.Gap h) = kept_looks g s k w (p ∷ []) (follows g s w p (MapAnswer.Gap h)) refl refl
    go (MapAnswer.Value v) = k
    go (MapAnswer.Was v) = k
kept_event g s one k (happening.Event.Change w p key v) m = kept_writes g s k Kind.Change w p key v (λ r. r ∷ (s.worker w).changes)
kept_event g s one k (happening.Event.Put_back w p) m = go (s.worker w).changes
  where
    go : (cs : List Entry) → Kept g (put_back g s w p cs)
    go [] = k
    go (c ∷ cs) = kept_writes g s k Kind.Put_back w p c.key c.before (λ _. cs)
kept_event g s one k (happening.Event.Split w l r q i) m = kept_moves g s k Kind.Split w (l ∷ r ∷ q ∷ []) _
kept_event g s one k (happening.Event.Lift w c) m = kept_moves g s k Kind.Lift w (0 ∷ c ∷ []) _
kept_event g s one k (happening.Event.Join w l r q) m = kept_moves g s k Kind.Join w (l ∷ r ∷ q ∷ []) _
kept_event g s one k (happening.Event.Drop w c) m = kept_moves g s k Kind.Drop w (0 ∷ c ∷ []) _
kept_event g s one k (happening.Event.Purge w p keys) m = kept_moves g s k Kind.Purge w (p ∷ []) _
kept_event g s one k (happening.Event.End w commit f) m =
    worker_goes g s k w (finished (s.worker w) (suc (s.worker w).clock)) (record { opened = λ e. absurd (true≢false (sym e)); end = omega arith; clock = omega arith }) (happens g s (happening.Event.End w commit f)) refl refl
kept_event g s one k (happening.Event.Unlock w i) m = kept_unlock g s one k w i (and_parts (not (s.worker w).is_open) (holds_row (s.row i) w) m).1
kept_event g s one k (happening.Event.Sync n) m = record {
  opened = k.opened;
  holder = k.holder;
  end = λ w. let e = k.end w in omega arith;
  number = λ i. let e = k.number i in omega arith;
  read_end = λ i. let e = k.read_end i in omega arith;
}
kept_event g s one k _ m = record { opened = k.opened; holder = k.holder; end = k.end; number = k.number; read_end = k.read_end }

kept_step : (g : Opening) (s : State) (e : happening.Event) → g.workers ≡ 1 → Kept g s → Kept g (core.step g s e)
kept_step g s e one k = go (may g s e) refl
  where
    go : (b : Bool) → may g s e ≡ b → Kept g (cond b (happens g s e) s)
    go true m = kept_event g s one k e (and_parts (are_hot s (pages_of e)) (needs g s e) m).1
    go false m = k

-- ## Every moment

kept_before : (g : Opening) (m : Moment) (es : List Event) → g.workers ≡ 1 → Kept g m.core → Kept g (moments.run g m es).core
kept_before g m [] one k = k
kept_before g m (e ∷ es) one k = kept_before g (moments.step g m e) es one (kept_step g m.core (event_of e) one k)

kept_first : (g : Opening) (v : Given) → Kept g (first_state v)
kept_first g v = record {
  opened = λ w e. absurd (true≢false (sym e));
  holder = λ i w e. absurd (true≢false (sym e));
  end = λ w. omega arith;
  number = λ i. omega arith;
  read_end = λ i. omega arith;
}

kept_begun : (v : Given) → (opening v).workers ≡ 1 → Kept (opening v) (begun v).core
unfolding begun
kept_begun v one = kept_before (opening v) (record { core = first_state v; answer = λ _. 0 }) v.before one (kept_first (opening v) v)

stepped_core : (v : Given) (m : Moment) (e : Event) → (stepped v m e).core ≡ core.step (opening v) m.core (event_of e)
unfolding stepped
stepped_core v m e = refl

kept_run : (v : Given) (m : Moment) (es : List Event) → (opening v).workers ≡ 1 → Kept (opening v) m.core → Kept (opening v) (run v m es).core
kept_run v m [] one k = k
kept_run v m (e ∷ es) one k = kept_run v (stepped v m e) es one (subst (λ s. Kept (opening v) s) (sym (stepped_core v m e)) (kept_step (opening v) m.core (event_of e) one k))

-- the row tells nothing new to the one worker
pub record TellsNothing (o : Row) (a : Worker) : Type 0 where
  pub number : o.number ≤ a.clock
  pub read_end : o.read_end ≤ a.clock

pub lone_row : (v : View) → (opening v.given).workers ≡ 1 → (i : ℕ) → TellsNothing ((state v).core.row i) ((state v).core.worker 1)
lone_row v one i = let k = kept_run v.given (begun v.given) v.seen one (kept_begun v.given one) in record { number = k.number i; read_end = k.read_end i }
