-- Durable lines: each is ripe, each ripe one is told, once.
use Rattle.std.proofs.Common.{◌≡◌, ◌⊎◌, ◌≤◌, ℕ, Bool, true, false, cond, ◌&&◌, not, leb, ◌==◌, List, [], ◌∷◌, ◌++◌, refl, sym, ap, ap₂, ◌∙◌, subst, inl, inr, arith, true≢false}
use Rattle.core_crash.proofs.Journal.{commit_is_end}
use Rattle.std.proofs.lemmas.List.{append_assoc}
use Rattle.std.proofs.lemmas.Bool.{cases_Bool, eq-eqb, eqb-true, leb-true, le-leb, and_parts, and_from, cond-true}
use Rattle.map_model.specs.Lists.{Has, keep, in_order, insert_by}
use Rattle.map_model.specs.Journals.{Name, Txn, Journal}
use Rattle.map_model.specs.Transcripts.{journal}
use Rattle.core_crash.specs.image_model.Entries.{Entry, Contents, is_commit, earlier}
use Rattle.core_crash.specs.image_model.Ends.{name_of, names_of, is_kept}
use Rattle.core_crash.specs.image_model.Images.{Image}
use Rattle.core_crash.specs.image_model.Histories as histories
use Rattle.core_crash.specs.core_state.Lists.{most}
use Rattle.core_crash.specs.core_state.Openings.{Opening}
use Rattle.core_crash.specs.core_state.States.{State, start, flushed_by_all}
use Rattle.core_crash.specs.core_state.Events.{Event}
use Rattle.core_crash.specs.core_state.Needs.{pages_of, are_hot, is_behind, needs, may}
use Rattle.core_crash.specs.core_state.Steps.{happens, synced, step, run}
use Rattle.core_crash.proofs.core_state.Runs.{run_more}
use Rattle.core_crash.specs.core_commit.Rises.{EveryRise}
use Rattle.map_model.proofs.ListLemmas.{any_has, has_any, insert_has, order_has, has_order, has_keep, keep_has, has_cases, has_left, has_right}
use Rattle.core_crash.proofs.core_commit.Lists.{Before, has_before, each_at, le_least}
use Rattle.core_crash.proofs.core_commit.Controls.{le_most}
use Rattle.core_crash.proofs.core_commit.History.{Recorded, IsRecorded}
use Rattle.core_crash.proofs.core_commit.Invariants.{Inv}
use Rattle.core_crash.proofs.core_commit.Runs.{good_run, good_start}
use Rattle.core_crash.specs.Crashes.{Leaves, image_of, journal_in, IsRipe}
use Rattle.core_calls.specs.Deeds.{Outcome, Answers, transcript}
use Rattle.core_calls.specs.Told.{SameTxn, ByThen, kept_of, ToldLaws, EveryTold}
use Rattle.core_calls.specs.Durables.{is_ripe, is_told, due, up_to, durables, AreOnce, IsKept, DurableLaws, EveryDurable}
use Rattle.core_calls.proofs.PairLemmas.{pair_for}
use Rattle.core_calls.proofs.EntryLemmas.{Adds, None_new, One_new, Begin_new, adds}

-- ## What stays

has_step : (g : Opening) (s : State) (e : Event) (x : Entry) → Has x s.entries → Has x (step g s e).entries
has_step g s e x i = go (may g s e) refl
  where
    more : Adds g s e → Has x (happens g s e).entries
    more (None_new q) = subst (λ (h : List Entry). Has x h) (sym q.entries) i
    more (One_new q) = subst (λ (h : List Entry). Has x h) (sym q.entries) (inr i)
    more (Begin_new q) = subst (λ (h : List Entry). Has x h) (sym q.entries) i

    go : (b : Bool) → may g s e ≡ b → Has x (cond b (happens g s e) s).entries
    go true m = more (adds g s e (and_parts (are_hot s (pages_of e)) (needs g s e) m).1)
    go false m = i

pub has_later : (g : Opening) (es : List Event) (s : State) (x : Entry) → Has x s.entries → Has x (run g s es).entries
has_later g [] s x i = i
has_later g (e ∷ es) s x i = has_later g es (step g s e) x (has_step g s e x i)

pub recorded_of : (g : Opening) (es : List Event) → IsRecorded g (flushed_by_all g (run g (start g) es)) (run g (start g) es).entries
recorded_of g es = (good_run g es (start g) (good_start g)).inv.records

pub entered : (g : Opening) (es : List Event) (e : Entry) → Has e (run g (start g) es).entries → (b : List Entry) × Before e b (run g (start g) es).entries × Recorded g (flushed_by_all g (run g (start g) es)) e b
entered g es e i = let p = has_before e (run g (start g) es).entries i in (p.0, p.1, each_at (Recorded g (flushed_by_all g (run g (start g) es))) (run g (start g) es).entries e p.0 (recorded_of g es) p.1)

pub record Ripe (g : Opening) (s : State) (e : Entry) : Type 0 where
  pub commit : is_commit e.kind ≡ true
  pub flushed : e.number ≤ s.flushed e.log
  pub need : e.need ≤ flushed_by_all g s

pub ripe_to : (g : Opening) (s : State) (e : Entry) → is_ripe g s e ≡ true → Ripe g s e
ripe_to g s e h =
    let p = and_parts (is_commit e.kind) (leb e.number (s.flushed e.log) && leb e.need (flushed_by_all g s)) h in
    let q = and_parts (leb e.number (s.flushed e.log)) (leb e.need (flushed_by_all g s)) p.1 in
    record { commit = p.0; flushed = leb-true e.number (s.flushed e.log) q.0; need = leb-true e.need (flushed_by_all g s) q.1 }

pub ripe_from : (g : Opening) (s : State) (e : Entry) → Ripe g s e → is_ripe g s e ≡ true
ripe_from g s e r = and_from (is_commit e.kind) (leb e.number (s.flushed e.log) && leb e.need (flushed_by_all g s)) r.commit
    (and_from (leb e.number (s.flushed e.log)) (leb e.need (flushed_by_all g s)) (le-leb e.number (s.flushed e.log) r.flushed) (le-leb e.need (flushed_by_all g s) r.need))

pub ripe_later : EveryRise → (g : Opening) (before es : List Event) (e : Entry) → Has e (run g (start g) before).entries → Ripe g (run g (start g) before) e → Ripe g (run g (run g (start g) before) es) e
ripe_later rises g before es e i r =
    let u = rises g before es in
    let w = (entered g before e i).2.log in
    let a = u.flushed e.log w.0 w.1 in let b = u.flushed_by_all in let c = r.flushed in let d = r.need in
    record { commit = r.commit; flushed = omega arith; need = omega arith }

-- ## Names

pub names_has : (z : List Entry) (n : Name) → Has n (names_of z) → (e : Entry) × Has e z × (name_of e ≡ n)
names_has [] n i = absurd i
names_has (e ∷ z) n (inl q) = (e, inl refl, sym q)
names_has (e ∷ z) n (inr i) = let r = names_has z n i in (r.0, inr r.1, r.2)

pub has_names : (z : List Entry) (e : Entry) → Has e z → Has (name_of e) (names_of z)
has_names [] e i = absurd i
has_names (x ∷ z) e (inl q) = inl (ap name_of q)
has_names (x ∷ z) e (inr i) = inr (has_names z e i)

pub told_to : (ns : List Name) (e : Entry) → is_told ns e ≡ true → Has (name_of e) ns
told_to ns e h =
    let a = any_has (λ n. (n.session == e.log) && (n.number == e.txn)) ns h in
    let q = and_parts (a.0.session == e.log) (a.0.number == e.txn) a.2 in
    subst (λ (n : Name). Has n ns) (ap₂ (λ (x y : ℕ). record { session = x; number = y }) (eqb-true a.0.session e.log q.0) (eqb-true a.0.number e.txn q.1)) a.1

pub told_from : (ns : List Name) (e : Entry) → Has (name_of e) ns → is_told ns e ≡ true
told_from ns e i = has_any (λ n. (n.session == e.log) && (n.number == e.txn)) ns (name_of e) i (and_from (e.log == e.log) (e.txn == e.txn) (eq-eqb e.log e.log refl) (eq-eqb e.txn e.txn refl))

-- ## What is due

abbrev pub passes : Opening → State → List Name → Entry → Bool
passes g s told e = is_ripe g s e && not (is_told told e)

not_true : (b : Bool) → not b ≡ true → b ≡ false
not_true false e = refl
not_true true e = absurd (true≢false (sym e))

pub due_has : (g : Opening) (s : State) (told : List Name) (n : Name) → Has n (due g s told) → (e : Entry) × Has e s.entries × (is_ripe g s e ≡ true) × (is_told told e ≡ false) × (name_of e ≡ n)
due_has g s told n i =
    let a = names_has (in_order earlier (keep (passes g s told) s.entries)) n i in
    let k = keep_has (passes g s told) s.entries a.0 (order_has earlier (keep (passes g s told) s.entries) a.0 a.1) in
    let p = and_parts (is_ripe g s a.0) (not (is_told told a.0)) k.1 in
    (a.0, k.0, p.0, not_true (is_told told a.0) p.1, a.2)

pub has_due : (g : Opening) (s : State) (told : List Name) (e : Entry) → Has e s.entries → is_ripe g s e ≡ true → is_told told e ≡ false → Has (name_of e) (due g s told)
has_due g s told e i r n =
    has_names (in_order earlier (keep (passes g s told) s.entries)) e
    (has_order earlier (keep (passes g s told) s.entries) e (has_keep (passes g s told) s.entries e i (and_from (is_ripe g s e) (not (is_told told e)) r (ap not n))))

-- no name twice
once_insert : (lt : Entry → Entry → Bool) (x : Entry) (ys : List Entry) → AreOnce (names_of ys) → (Has (name_of x) (names_of ys) → ⊥) → AreOnce (names_of (insert_by lt x ys))
once_insert lt x [] o n = (tt, λ i. i)
once_insert lt x (y ∷ ys) o n = go (once_insert lt x ys o.0 (λ i. n (inr i))) (lt x y)
  where
    go : AreOnce (names_of (insert_by lt x ys)) → (b : Bool) → AreOnce (names_of (cond b (y ∷ insert_by lt x ys) (x ∷ y ∷ ys)))
    go ih true = (ih, λ i. let a = names_has (insert_by lt x ys) (name_of y) i in at a.0 (insert_has lt x ys a.0 a.1) a.2)
      where
        at : (e : Entry) → Has e (x ∷ ys) → name_of e ≡ name_of y → ⊥
        at e (inl q) p = n (inl (ap name_of (sym q) ∙ p))
        at e (inr j) p = o.1 (subst (λ (m : Name). Has m (names_of ys)) p (has_names ys e j))
    go ih false = (o, n)

once_order : (lt : Entry → Entry → Bool) (xs : List Entry) → AreOnce (names_of xs) → AreOnce (names_of (in_order lt xs))
once_order lt [] o = tt
once_order lt (x ∷ xs) o = once_insert lt x (in_order lt xs) (once_order lt xs o.0) (λ i. let a = names_has (in_order lt xs) (name_of x) i in o.1 (subst (λ (m : Name). Has m (names_of xs)) a.2 (has_names xs a.0 (order_has lt xs a.0 a.1))))

once_keep : (g : Opening) (F : ℕ) (p : Entry → Bool) (h : List Entry) → ((e : Entry) → p e ≡ true → is_commit e.kind ≡ true) → IsRecorded g F h → AreOnce (names_of (keep p h))
once_keep g F p [] c hist = tt
once_keep g F p (e ∷ h) c hist = go (once_keep g F p h c hist.1) (p e) refl
  where
    go : AreOnce (names_of (keep p h)) → (b : Bool) → p e ≡ b → AreOnce (names_of (cond b (e ∷ keep p h) (keep p h)))
    go ih true q = (
      ih,
      λ i.
          let a = names_has (keep p h) (name_of e) i in
          let k = keep_has p h a.0 a.1 in
          hist.0.still_open a.0 k.0 (commit_is_end a.0.kind (c a.0 k.1)) (ap (λ (m : Name). m.session) a.2, ap (λ (m : Name). m.number) a.2),
    )
    go ih false q = ih

once_both : (a b : List Name) → AreOnce a → AreOnce b → ((n : Name) → Has n a → Has n b → ⊥) → AreOnce (a ++ b)
once_both [] b x y d = y
once_both (n ∷ a) b x y d = (once_both a b x.0 y (λ m i j. d m (inr i) j), λ i. elim (has_cases n a b i) [ inl j ↦ x.1 j | inr j ↦ d n (inl refl) j ])

-- ## All of them

module _ (rises : EveryRise) (g : Opening) where
  abbrev at : List (List Event) → State
  at ms = run g (start g) (up_to ms)

  abbrev past : List (List Event) → List Event → State
  past ms later = run g (start g) (up_to ms ++ later)

  pub was_ripe : (ms : List (List Event)) (n : Name) → Has n (durables g ms) → (e : Entry) × Has e (run g (start g) (up_to ms)).entries × (is_ripe g (run g (start g) (up_to ms)) e ≡ true) × (name_of e ≡ n)
  was_ripe [] n i = absurd i
  was_ripe (es ∷ ms) n i = go (was_ripe ms n) (has_cases n (due g (at (es ∷ ms)) (durables g ms)) (durables g ms) i)
    where
      go : (Has n (durables g ms) → (e : Entry) × Has e (run g (start g) (up_to ms)).entries × (is_ripe g (run g (start g) (up_to ms)) e ≡ true) × (name_of e ≡ n)) →
          Has n (due g (at (es ∷ ms)) (durables g ms)) ⊎ Has n (durables g ms) → (e : Entry) × Has e (at (es ∷ ms)).entries × (is_ripe g (at (es ∷ ms)) e ≡ true) × (name_of e ≡ n)
      go ih (inl j) = let d = due_has g (at (es ∷ ms)) (durables g ms) n j in (d.0, d.1, d.2, d.4)
      go ih (inr j) =
          let d = ih j in
          let e = run_more g (start g) (up_to ms) es in (
            d.0,
            subst (λ (s : State). Has d.0 s.entries) (sym e) (has_later g es (run g (start g) (up_to ms)) d.0 d.1),
            ripe_from g (at (es ∷ ms)) d.0 (subst (λ (s : State). Ripe g s d.0) (sym e) (ripe_later rises g (up_to ms) es d.0 d.1 (ripe_to g (run g (start g) (up_to ms)) d.0 d.2))),
            d.3,
          )

  all_told : (ms : List (List Event)) (e : Entry) → Has e (run g (start g) (up_to ms)).entries → is_ripe g (run g (start g) (up_to ms)) e ≡ true → Has (name_of e) (durables g ms)
  all_told [] e i r = absurd i
  all_told (es ∷ ms) e i r = elim (cases_Bool (is_told (durables g ms) e)) [
    | inl t ↦ has_right (name_of e) (due g (run g (start g) (up_to (es ∷ ms))) (durables g ms)) (durables g ms) (told_to (durables g ms) e t)
    | inr n ↦ has_left (name_of e) (due g (run g (start g) (up_to (es ∷ ms))) (durables g ms)) (durables g ms) (has_due g (run g (start g) (up_to (es ∷ ms))) (durables g ms) e i r n)
  ]

  once : (ms : List (List Event)) → AreOnce (durables g ms)
  once [] = tt
  once (es ∷ ms) = once_both (due g (at (es ∷ ms)) (durables g ms)) (durables g ms)
      (once_order earlier (keep (passes g (at (es ∷ ms)) (durables g ms)) (at (es ∷ ms)).entries) (once_keep g (flushed_by_all g (at (es ∷ ms))) (passes g (at (es ∷ ms)) (durables g ms)) (at (es ∷ ms)).entries commits (recorded_of g (up_to (es ∷ ms))))) (once ms) apart
    where
      commits : (e : Entry) → passes g (at (es ∷ ms)) (durables g ms) e ≡ true → is_commit e.kind ≡ true
      commits e q = (ripe_to g (at (es ∷ ms)) e (and_parts (is_ripe g (at (es ∷ ms)) e) (not (is_told (durables g ms) e)) q).0).commit

      apart : (n : Name) → Has n (due g (at (es ∷ ms)) (durables g ms)) → Has n (durables g ms) → ⊥
      apart n i j = let d = due_has g (at (es ∷ ms)) (durables g ms) n i in true≢false (sym (told_from (durables g ms) d.0 (subst (λ (m : Name). Has m (durables g ms)) (sym d.4) j)) ∙ d.3)

  -- a commit is a transaction of the journal
  has_commit : (f : Rattle.page_model.specs.Nodes.Format) (h : List Entry) (e : Entry) → Has e h → is_commit e.kind ≡ true → (u : Txn) × Has u (histories.committed f h) × (u.session ≡ e.log) × (u.number ≡ e.txn)
  has_commit f [] e i k = absurd i
  has_commit f (x ∷ h) e i k = go (λ j. has_commit f h e j k) (is_commit x.kind) refl i
    where
      go : (Has e h → (u : Txn) × Has u (histories.committed f h) × (u.session ≡ e.log) × (u.number ≡ e.txn)) → (b : Bool) → is_commit x.kind ≡ b → Has e (x ∷ h) →
          (u : Txn) × Has u (cond b (histories.txn_of f x h ∷ histories.committed f h) (histories.committed f h)) × (u.session ≡ e.log) × (u.number ≡ e.txn)
      go ih true q (inl p) = (histories.txn_of f x h, inl refl, ap (λ (y : Entry). y.log) (sym p), ap (λ (y : Entry). y.txn) (sym p))
      go ih true q (inr j) = let r = ih j in (r.0, inr r.1, r.2, r.3)
      go ih false q (inl p) = absurd (true≢false (sym k ∙ (ap (λ (y : Entry). is_commit y.kind) p ∙ q)))
      go ih false q (inr j) = ih j

  kept_later : EveryTold → g.faithful ≡ true → (ms : List (List Event)) (later : List Event) (xs : List Outcome) → Answers g (up_to ms ++ later) xs → (logs : ℕ → List Entry) (page : ℕ → Contents) → Leaves g (up_to ms ++ later) logs page →
      (told by_then : Journal) → ByThen (image_of g (run g (start g) (up_to ms ++ later)) logs page) told (journal (transcript xs)) by_then →
      (n : Name) → Has n (durables g ms) → IsKept g (run g (start g) (up_to ms ++ later)) logs page by_then n
  kept_later laws f ms later xs a logs page c told by_then b n i = record { txn = t.0; session = t.2.session ∙ (u.2 ∙ ap (λ (m : Name). m.session) d.3); number = t.2.number ∙ (u.3 ∙ ap (λ (m : Name). m.number) d.3); kept = kept }
    where
      law : ToldLaws g (up_to ms ++ later) xs
      law = laws g (up_to ms ++ later) xs a

      d : (e : Entry) × Has e (run g (start g) (up_to ms)).entries × (is_ripe g (run g (start g) (up_to ms)) e ≡ true) × (name_of e ≡ n)
      d = was_ripe ms n i

      there : Has d.0 (past ms later).entries
      there = subst (λ (s : State). Has d.0 s.entries) (sym (run_more g (start g) (up_to ms) later)) (has_later g later (run g (start g) (up_to ms)) d.0 d.1)

      ripe : Ripe g (past ms later) d.0
      ripe = subst (λ (s : State). Ripe g s d.0) (sym (run_more g (start g) (up_to ms) later)) (ripe_later rises g (up_to ms) later d.0 d.1 (ripe_to g (run g (start g) (up_to ms)) d.0 d.2))

      u : (u : Txn) × Has u (histories.committed g.format (past ms later).entries) × (u.session ≡ d.0.log) × (u.number ≡ d.0.txn)
      u = has_commit g.format (past ms later).entries d.0 there ripe.commit

      t : (t : Txn) × Has t (journal (transcript xs)) × SameTxn t u.0
      t = pair_for SameTxn (journal (transcript xs)) (journal_in g (past ms later)) law.same u.0 (has_order Rattle.map_model.specs.Journals.is_earlier (histories.committed g.format (past ms later).entries) u.0 u.1)

      is : IsRipe g (past ms later) t.0
      is = record { end = d.0; has = there; commit = ripe.commit; session = sym (t.2.session ∙ u.2); number = sym (t.2.number ∙ u.3); flushed = ripe.flushed; need = ripe.need }

      -- it is kept of all, so it is one of those by then
      whole : ByThen (image_of g (past ms later) logs page) (journal (transcript xs)) (journal (transcript xs)) (journal (transcript xs))
      whole = record { falls = law.falls; has_told = λ x j. j; has_kept = λ x j k. j; only = λ x j. (j, inl j) }

      among : Has t.0 by_then
      among = b.has_kept t.0 t.1 (keep_has (is_kept (image_of g (past ms later) logs page).logs (image_of g (past ms later) logs page).floor (Rattle.core_crash.specs.image_model.Images.found (image_of g (past ms later) logs page))) (journal (transcript xs)) t.0
          ((law.crash f logs page c (journal (transcript xs)) (journal (transcript xs)) whole).ripe t.0 t.1 is)).1

      kept : Has t.0 (kept_of (image_of g (past ms later) logs page) by_then)
      kept = (law.crash f logs page c told by_then b).ripe t.0 among is

  -- behind a sync all is flushed
  pub all_synced : (before es : List Event) (n : ℕ) → may g (run g (start g) before) (Event.Sync n) ≡ true → (e : Entry) → Has e (run g (start g) before).entries → is_commit e.kind ≡ true → Ripe g (synced (run g (start g) before) n) e
  all_synced before es n m e i k = record { commit = k; flushed = number; need = (let a = need in let b = le_least (λ _. n) g.workers n g.some_worker (λ w l. omega arith) in omega arith) }
    where
      inv : Inv g (run g (start g) before)
      inv = (good_run g before (start g) (good_start g)).inv

      is : n ≡ most (λ w. ((run g (start g) before).worker w).clock) g.workers
      is = eqb-true n (most (λ w. ((run g (start g) before).worker w).clock) g.workers) (and_parts (n == most (λ w. ((run g (start g) before).worker w).clock) g.workers) (not (is_behind (run g (start g) before))) (and_parts true (needs g (run g (start g) before) (Event.Sync n)) m).1).0

      own : (b : List Entry) × Before e b (run g (start g) before).entries × Recorded g (flushed_by_all g (run g (start g) before)) e b
      own = entered g before e i

      number : e.number ≤ n
      number = let c = is in let a = ((inv.workers e.log).numbers e i refl).0 in let b = le_most (λ w. ((run g (start g) before).worker w).clock) g.workers e.log own.2.log in omega arith

      need : e.need ≤ n
      need = let a = (own.2.closes (commit_is_end e.kind k)).need in let b = number in omega arith

  sync_told : (ms before : List (List Event)) (es : List Event) (n : ℕ) → ms ≡ (es ++ Event.Sync n ∷ []) ∷ before → may g (run g (start g) (up_to before ++ es)) (Event.Sync n) ≡ true →
      (e : Entry) → Has e (run g (start g) (up_to ms)).entries → is_commit e.kind ≡ true → Has (name_of e) (durables g ms)
  sync_told ms before es n q m e i k = all_told ms e i (ripe_from g (run g (start g) (up_to ms)) e (subst (λ (s : State). Ripe g s e) (sym state) (all_synced (up_to before ++ es) es n m e (subst (λ (s : State). Has e s.entries) state i) k)))
    where
      state : run g (start g) (up_to ms) ≡ synced (run g (start g) (up_to before ++ es)) n
      state = ap (λ (l : List (List Event)). run g (start g) (up_to l)) q
          ∙ (ap (run g (start g)) (sym (append_assoc (up_to before) es (Event.Sync n ∷ [])))
          ∙ (run_more g (start g) (up_to before ++ es) (Event.Sync n ∷ [])
          ∙ cond-true (may g (run g (start g) (up_to before ++ es)) (Event.Sync n)) (happens g (run g (start g) (up_to before ++ es)) (Event.Sync n)) (run g (start g) (up_to before ++ es)) m))

  pub durable_laws : EveryTold → (ms : List (List Event)) → DurableLaws g ms
  durable_laws laws ms = record {
    told = was_ripe ms;
    all = all_told ms;
    once = once ms;
    kept = λ f. kept_later laws f ms;
    synced = sync_told ms;
  }

pub every_durable : EveryRise → EveryTold → EveryDurable
every_durable rises laws g ms = durable_laws rises g laws ms
