-- Who holds the lock rows.
use Rattle.map_model.specs.Lists.{keep}
use Rattle.map_model.specs.Maps.{MapAnswer}
use Rattle.core_state.specs.image_model.Entries.{Entry}
use Rattle.core_state.specs.States.{Row, State, start}
use Rattle.core_state.specs.Openings.{Opening}
use Rattle.core_state.specs.Events.{Event, Mode}
use Rattle.core_state.specs.Needs.{are_hot, pages_of, is_worker, is_held_by, is_free, is_reader, may_hold, needs}
use Rattle.core_state.specs.Steps.{locked, unlocked, put_back, follows, happens, step, run}
use Rattle.map_model.proofs.ListLemmas.{any_has, has_any, keep_has, at_upd}
use Rattle.core_commit.specs.Holders.{EveryHolder}
use Rattle.core_commit.proofs.Invariants.{Inv}
use Rattle.core_commit.proofs.Controls.{or_second}
use Rattle.core_commit.proofs.Runs.{Good, step_keeps, good_step, good_start}
use Rattle.std.proofs.Common.{◌≡◌, ◌≤◌, ℕ, Bool, true, false, cond, if◌then◌else◌, not, ltb, leb, ◌==◌, List, [], ◌∷◌, Option, Some, None, refl, sym, ap, subst, inl, inr, true≢false, arith}
use Rattle.std.proofs.lemmas.Bool.{and_parts, and_from, or_cases, eqb-true, leb-true, lt-ltb, le-leb}

-- ## One row

-- what is known of a row
record Held (g : Opening) (o : Row) : Type 0 where
  holder : (w : ℕ) → is_held_by o.holder w ≡ true → is_worker g w ≡ true
  reader : (w : ℕ) → is_reader w o.readers ≡ true → is_worker g w ≡ true
  apart : (w : ℕ) → is_held_by o.holder w ≡ true → o.readers ≡ []
  log : o.log ≤ g.workers

-- nobody is the holder of a free row
free_held : {A : Type 0} (h : Option ℕ) (w : ℕ) → is_free h ≡ true → is_held_by h w ≡ true → A
free_held None w f e = absurd (true≢false (sym e))
free_held (Some v) w f e = absurd (true≢false (sym f))

-- who joins the readers is a worker
reader_with : (g : Opening) (w : ℕ) (l : List ℕ) → is_worker g w ≡ true → ((u : ℕ) → is_reader u l ≡ true → is_worker g u ≡ true) → (b : Bool) (u : ℕ) → is_reader u (cond b l (w ∷ l)) ≡ true → is_worker g u ≡ true
reader_with g w l k r true u h = r u h
reader_with g w l k r false u h = elim (or_cases (w == u) (is_reader u l) h) [
  | inl e ↦ subst (λ j. is_worker g j ≡ true) (eqb-true w u e) k
  | inr e ↦ r u e
]

held_lock : (g : Opening) (o : Row) (w : ℕ) (mode : Mode) → is_worker g w ≡ true → may_hold o w mode ≡ true → Held g o → Held g (locked o w mode)
held_lock g o w mode k m i = go mode m (is_held_by o.holder w) refl
  where
    shared : Row
    shared = record o { readers = if is_reader w o.readers then o.readers else w ∷ o.readers }

    alone : Row
    alone = record o { holder = Some w; readers = [] }

    go : (mode : Mode) → may_hold o w mode ≡ true → (b : Bool) → is_held_by o.holder w ≡ b → Held g (locked o w mode)
    go Mode.Shared m true e = rw e i
    go Mode.Alone m true e = rw e i
    go Mode.Shared m false e = rw e (record {
      holder = i.holder;
      reader = reader_with g w o.readers k i.reader (is_reader w o.readers);
      apart = λ u h. free_held o.holder u (or_second (is_held_by o.holder w) (is_free o.holder) e m) h;
      log = i.log;
    })
    go Mode.Alone m false e = rw e (record {
      holder = λ u h. subst (λ j. is_worker g j ≡ true) (eqb-true w u h) k;
      reader = λ u h. absurd (true≢false (sym h));
      apart = λ u h. refl;
      log = i.log;
    })

-- those who stay were readers
still_reader : (w u : ℕ) (l : List ℕ) → is_reader u (keep (λ v. not (v == w)) l) ≡ true → is_reader u l ≡ true
still_reader w u l h =
    let q = any_has (λ v. v == u) (keep (λ v. not (v == w)) l) h in
    has_any (λ v. v == u) l q.0 (keep_has (λ v. not (v == w)) l q.0 q.1).0 q.2

-- the number of a worker is at most that of all
worker_log : (g : Opening) (w : ℕ) → is_worker g w ≡ true → w ≤ g.workers
worker_log g w k = leb-true w g.workers (and_parts (ltb 0 w) (leb w g.workers) k).1

held_unlock : (g : Opening) (o : Row) (w end : ℕ) → Held g o → Held g (unlocked o w end)
held_unlock g o w end i = go (is_held_by o.holder w) refl
  where
    go : (b : Bool) → is_held_by o.holder w ≡ b → Held g (unlocked o w end)
    go true e = rw e (record {
      holder = λ u h. absurd (true≢false (sym h));
      reader = λ u h. i.reader u (still_reader w u o.readers h);
      apart = λ u h. absurd (true≢false (sym h));
      log = worker_log g w (i.holder w e);
    })
    go false e = rw e (record {
      holder = i.holder;
      reader = λ u h. i.reader u (still_reader w u o.readers h);
      apart = λ u h. ap (keep (λ v. not (v == w))) (i.apart u h);
      log = i.log;
    })

-- ## Every event

-- who is open is a worker
pub open_worker : (g : Opening) (s : State) → Inv g s → (w : ℕ) → (s.worker w).is_open ≡ true → is_worker g w ≡ true
open_worker g s i w op = let l = (i.workers w).is_log op in and_from (ltb 0 w) (leb w g.workers) (lt-ltb 0 w l.0) (le-leb w g.workers l.1)

held_event : (g : Opening) (s : State) → Inv g s → ((j : ℕ) → Held g (s.row j)) → (e : Event) → needs g s e ≡ true → (j : ℕ) → Held g ((happens g s e).row j)
held_event g s i k (Event.Lock w o mode) m j =
    let p = and_parts (s.worker w).is_open (may_hold (s.row o) w mode) m in
    at_upd (λ _ r. Held g r) s.row o (locked (s.row o) w mode) j (held_lock g (s.row o) w mode (open_worker g s i w p.0) p.1 (k o)) (λ _. k j)
held_event g s i k (Event.Unlock w o) m j = at_upd (λ _ r. Held g r) s.row o (unlocked (s.row o) w (s.worker w).end) j (held_unlock g (s.row o) w (s.worker w).end (k o)) (λ _. k j)
held_event g s i k (Event.Next w p q a) m j = go a
  where
    go : (a : MapAnswer) → Held g ((follows g s w p a).row j)
    go (MapAnswer.Pair at word) = k j
    go (MapAnswer.Gap h) = k j
    go (MapAnswer.Value v) = k j
    go (MapAnswer.Was v) = k j
held_event g s i k (Event.Put_back w p) m j = go (s.worker w).changes
  where
    go : (cs : List Entry) → Held g ((put_back g s w p cs).row j)
    go [] = k j
    go (c ∷ cs) = k j
held_event g s i k _ m j = k j

held_run : (g : Opening) (es : List Event) (s : State) → Good g s → ((j : ℕ) → Held g (s.row j)) → (j : ℕ) → Held g ((run g s es).row j)
held_run g [] s i k = k
held_run g (e ∷ es) s i k = held_run g es (step g s e) (good_step g s e i)
    (step_keeps (λ t. (j : ℕ) → Held g (t.row j)) g s e k (λ m. held_event g s i.inv k e (and_parts (are_hot s (pages_of e)) (needs g s e) m).1))

held_start : (g : Opening) (j : ℕ) → Held g ((start g).row j)
held_start g j = record { holder = λ w h. absurd (true≢false (sym h)); reader = λ w h. absurd (true≢false (sym h)); apart = λ w h. refl; log = omega arith }

pub every_holder : EveryHolder
every_holder g es = let k = held_run g es (start g) (good_start g) (held_start g) in record { holder = λ j. (k j).holder; reader = λ j. (k j).reader; apart = λ j. (k j).apart; log = λ j. (k j).log }
