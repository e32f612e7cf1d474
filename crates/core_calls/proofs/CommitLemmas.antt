-- Behind a commit: how many commits of its log wait, and when its durable line follows at once.
use Rattle.std.proofs.Common.{◌≡◌, ◌⊎◌, ◌≤◌, ◌<◌, ℕ, Bool, true, false, cond, ◌&&◌, leb, ltb, ◌==◌, List, [], ◌∷◌, ◌++◌, length, Option, refl, sym, ap, ◌∙◌, subst, inl, inr, arith, true≢false}
use Rattle.core_crash.proofs.Journal.{commit_is_end}
use Rattle.map_model.proofs.ListLemmas.{has_keep, keep_has, upd_same}
use Rattle.std.proofs.lemmas.List.{append-nil, append_assoc}
use Rattle.std.proofs.lemmas.Bool.{cases_Bool, cases_eq, eq-eqb, ne_eqb, eqb-true, le-ltb, lt-ltb, and_parts, and_from, and_right, cond-true, cond-false, leb-false}
use Rattle.map_model.specs.Lists.{Has, keep}
use Rattle.map_model.specs.Journals.{Name}
use Rattle.map_model.specs.Pairings.{is_last}
use Rattle.page_model.specs.Nodes.{Format}
use Rattle.core_crash.specs.image_model.Entries.{Kind, Entry, is_commit, is_end}
use Rattle.core_crash.specs.image_model.Ends.{name_of}
use Rattle.core_crash.specs.core_state.Openings.{Opening}
use Rattle.core_crash.specs.core_state.States.{State, start, flushed_by_all}
use Rattle.core_crash.specs.core_state.Events.{Event}
use Rattle.core_crash.specs.core_state.Local.{is_of}
use Rattle.core_crash.specs.core_state.Needs.{pages_of, are_hot, needs, may}
use Rattle.core_crash.specs.core_state.Steps.{happens, run, AllMet, state_after}
use Rattle.core_crash.proofs.core_state.Runs.{run_more, met_more}
use Rattle.core_crash.specs.core_commit.Rises.{EveryRise}
use Rattle.core_crash.proofs.core_commit.History.{IsRecorded}
use Rattle.core_crash.proofs.core_commit.Invariants.{Inv}
use Rattle.core_crash.proofs.core_commit.Runs.{Good, good_event, good_start}
use Rattle.core_crash.proofs.Ends.{one_end}
use Rattle.core_calls.specs.Marks.{Mark, Ended, mark, onto, marks}
use Rattle.core_calls.specs.Deeds.{Deed, Committed, Synced, Unsaid, answered, reads_of, marks_of, marks_for, marks_by}
use Rattle.core_calls.specs.Refusals.{Limits}
use Rattle.core_calls.specs.Fronts.{Done, front, outcomes}
use Rattle.core_calls.specs.LogEvents.{behind, Flushes, LogsGo}
use Rattle.core_calls.specs.Runs.{EachTells}
use Rattle.core_calls.specs.Durables.{is_told, up_to, durables, pending, moments, CommitLaws, EveryCommit, EveryDurable, EverySynced}
use Rattle.core_calls.proofs.EntryLemmas.{entry_mark, Deal, deal_of, deals_of, deals_in, Adds, None_new, One_new, Begin_new, adds, commit_record}
use Rattle.core_calls.proofs.MarkLemmas.{is_by, marked}
use Rattle.core_calls.proofs.RunLemmas.{marks_all}
use Rattle.core_calls.proofs.DurableLemmas.{recorded_of, has_later, ripe_from, ripe_to, was_ripe, has_due}

-- ## The newest record of a log whose session has ended

abbrev one : Opening → State → Event → ℕ → List Mark → List Mark
one g s e w earlier = cond (is_of e w) (onto (mark g s e) earlier) earlier

-- the newest mark is an end
abbrev pub ended_last : List Mark → ℕ → Bool
ended_last [] n = false
ended_last (Ended c m at ∷ ms) n = at == n
ended_last (m ∷ ms) n = false

-- w is not open, and no record of its log is above its end
pub record Rests (s : State) (w n : ℕ) : Type 0 where
  pub closed : (s.worker w).is_open ≡ false
  pub last : (r : Entry) → Has r s.entries → r.log ≡ w → r.number ≤ n

abbrev pub RestsAt : State → ℕ → List Mark → Type 0
RestsAt s w ms = (n : ℕ) → ended_last ms n ≡ true → Rests s w n

-- what an entry's mark ends
end_is : (f : Format) (K : Kind) (r : Entry) (ms : List Mark) (n : ℕ) → ended_last (onto (entry_mark f K r) ms) n ≡ true → ((is_end K ≡ true) × (r.number ≡ n)) ⊎ (ended_last ms n ≡ true)
end_is f Kind.Commit r ms n e = inl (refl, eqb-true r.number n e)
end_is f Kind.Abort r ms n e = inl (refl, eqb-true r.number n e)
end_is f Kind.Change r ms n e = absurd (true≢false (sym e))
end_is f Kind.Put_back r ms n e = absurd (true≢false (sym e))
end_is f Kind.Read r ms n e = absurd (true≢false (sym e))
end_is f Kind.Split r ms n e = inr e
end_is f Kind.Lift r ms n e = inr e
end_is f Kind.Join r ms n e = inr e
end_is f Kind.Drop r ms n e = inr e
end_is f Kind.Purge r ms n e = inr e

rests_event : (g : Opening) (s : State) (e : Event) (w : ℕ) (ms : List Mark) → Inv g (happens g s e) → Adds g s e → RestsAt s w ms → RestsAt (happens g s e) w (one g s e w ms)
rests_event g s e w ms inv (None_new q) h n k =
    let r = h n (sym (ap (λ (l : List Mark). ended_last l n) still) ∙ k) in
    record { closed = q.opens w ∙ r.closed; last = λ x i. r.last x (subst (λ (l : List Entry). Has x l) q.entries i) }
  where
    still : one g s e w ms ≡ ms
    still = ap (λ (o : Option Mark). cond (is_of e w) (onto o ms) ms) q.mark ∙ go (is_of e w)
      where
        go : (b : Bool) → cond b ms ms ≡ ms
        go true = refl
        go false = refl
rests_event g s e w ms inv (Begin_new q) h n k = elim (cases_eq w q.worker) [
  | inl i ↦ absurd (true≢false (sym k ∙ ap (λ (l : List Mark). ended_last l n) (cond-true (is_of e w) (onto (mark g s e) ms) ms (q.by w ∙ eq-eqb q.worker w (sym i)) ∙ ap (λ (o : Option Mark). onto o ms) q.mark)))
  | inr i ↦ (let r = h n (sym (ap (λ (l : List Mark). ended_last l n) (cond-false (is_of e w) (onto (mark g s e) ms) ms (q.by w ∙ ne_eqb q.worker w (λ j. i (sym j))))) ∙ k) in
      record { closed = ap (λ (a : Rattle.core_crash.specs.core_state.States.Worker). a.is_open) (q.others w i) ∙ r.closed; last = λ x j. r.last x (subst (λ (l : List Entry). Has x l) q.entries j) })
]
rests_event g s e w ms inv (One_new q) h n k = elim (cases_eq w q.worker) [ inl i ↦ own i | inr i ↦ other i ]
  where
    own : w ≡ q.worker → Rests (happens g s e) w n
    own i = elim (end_is g.format q.entry.kind q.entry ms n (sym (ap (λ (l : List Mark). ended_last l n) (cond-true (is_of e w) (onto (mark g s e) ms) ms (q.by w ∙ eq-eqb q.worker w (sym i)) ∙ ap (λ (o : Option Mark). onto o ms) q.mark)) ∙ k)) [
      | inl z ↦ record {
        closed = ap (λ (v : ℕ). ((happens g s e).worker v).is_open) i ∙ q.closed z.0;
        last = λ x j o. let a = ((inv.workers w).numbers x j o).0 in let b = ap (λ (v : ℕ). ((happens g s e).worker v).clock) i in let c = q.clock z.0 in let d = z.1 in omega arith;
      }
      | inr z ↦ absurd (true≢false (sym q.was_open ∙ (ap (λ (v : ℕ). (s.worker v).is_open) (sym i) ∙ (h n z).closed)))
    ]

    other : (w ≡ q.worker → ⊥) → Rests (happens g s e) w n
    other i =
        let r = h n (sym (ap (λ (l : List Mark). ended_last l n) (cond-false (is_of e w) (onto (mark g s e) ms) ms (q.by w ∙ ne_eqb q.worker w (λ j. i (sym j))))) ∙ k) in record {
          closed = elim (cases_Bool ((happens g s e).worker w).is_open) [ inl o ↦ absurd (true≢false (sym (q.opens w o) ∙ r.closed)) | inr o ↦ o ];
          last = λ x j o. at x (subst (λ (l : List Entry). Has x l) q.entries j) o r;
        }
      where
        at : (x : Entry) → Has x (q.entry ∷ s.entries) → x.log ≡ w → Rests s w n → x.number ≤ n
        at x (inl y) o r = absurd (i (sym o ∙ (ap (λ (z : Entry). z.log) y ∙ q.log)))
        at x (inr y) o r = r.last x y o

rests_run : (g : Opening) (es : List Event) (s : State) (w : ℕ) (ms : List Mark) → Good g s → RestsAt s w ms → RestsAt (run g s es) w (marks g s es w ms)
rests_run g [] s w ms i h = h
rests_run g (e ∷ es) s w ms i h = go (may g s e) refl (λ t ns k j. rests_run g es t w ns k j)
  where
    go : (b : Bool) → may g s e ≡ b → ((t : State) (ns : List Mark) → Good g t → RestsAt t w ns → RestsAt (run g t es) w (marks g t es w ns)) →
        RestsAt (run g (cond b (happens g s e) s) es) w (marks g (cond b (happens g s e) s) es w (cond b (one g s e w ms) ms))
    go true m ih = let j = good_event g s i e m in ih (happens g s e) (one g s e w ms) j (rests_event g s e w ms j.inv (adds g s e (and_parts (are_hot s (pages_of e)) (needs g s e) m).1) h)
    go false m ih = ih s ms i h

pub rests : (g : Opening) (es : List Event) (w : ℕ) → RestsAt (run g (start g) es) w (marks g (start g) es w [])
rests g es w = rests_run g es (start g) w [] (good_start g) (λ n e. absurd (true≢false (sym e)))

-- ## The entry of a deal

pub record CommitOf (h : List Entry) (d : Deal) : Type 0 where
  pub entry : Entry
  pub has : Has entry h
  pub commit : is_commit entry.kind ≡ true
  pub session : entry.log ≡ d.session
  pub number : entry.txn ≡ d.number
  pub at : entry.number ≡ d.at

pub commit_of : (f : Format) (h : List Entry) (d : Deal) → Has d (deals_of f h) → CommitOf h d
commit_of f [] d i = absurd i
commit_of f (e ∷ h) d i = go (commit_of f h d) (is_commit e.kind) refl i
  where
    more : CommitOf h d → CommitOf (e ∷ h) d
    more c = record { entry = c.entry; has = inr c.has; commit = c.commit; session = c.session; number = c.number; at = c.at }

    go : (Has d (deals_of f h) → CommitOf h d) → (b : Bool) → is_commit e.kind ≡ b → Has d (cond b (deal_of f e h ∷ deals_of f h) (deals_of f h)) → CommitOf (e ∷ h) d
    go ih true k (inl q) = record { entry = e; has = inl refl; commit = k; session = ap (λ (x : Deal). x.session) (sym q); number = ap (λ (x : Deal). x.number) (sym q); at = ap (λ (x : Deal). x.at) (sym q) }
    go ih true k (inr j) = more (ih j)
    go ih false k j = more (ih j)

-- the numbers of a session's commits rise
abbrev pub DealsFall : List Deal → Type 0
DealsFall [] = Unit {0}
DealsFall (d ∷ ds) = DealsFall ds × ((x : Deal) → Has x ds → x.session ≡ d.session → x.at < d.at)

deals_fall : (g : Opening) (F : ℕ) (f : Format) (h : List Entry) → IsRecorded g F h → DealsFall (deals_of f h)
deals_fall g F f [] hist = tt
deals_fall g F f (e ∷ h) hist = go (deals_fall g F f h hist.1) (is_commit e.kind) refl
  where
    go : DealsFall (deals_of f h) → (b : Bool) → is_commit e.kind ≡ b → DealsFall (cond b (deal_of f e h ∷ deals_of f h) (deals_of f h))
    go ih true k = (ih, λ x i q. let c = commit_of f h x i in let l = hist.0.later (commit_record e.kind k) c.entry c.has (c.session ∙ q) in let a = c.at in omega arith)
    go ih false k = ih

fall_keep : (p : Deal → Bool) (ds : List Deal) → DealsFall ds → DealsFall (keep p ds)
fall_keep p [] a = tt
fall_keep p (d ∷ ds) a = go (fall_keep p ds a.0) (p d)
  where
    go : DealsFall (keep p ds) → (b : Bool) → DealsFall (cond b (d ∷ keep p ds) (keep p ds))
    go ih true = (ih, λ x i q. a.1 x (keep_has p ds x i).0 q)
    go ih false = ih

-- what a session's marks commit falls
pub session_falls : (g : Opening) (es : List Event) (w : ℕ) → DealsFall (deals_in w (marks g (start g) es w []))
session_falls g es w = subst DealsFall ((marked g es).done w) (fall_keep (is_by w) (deals_of g.format (run g (start g) es).entries) (deals_fall g (flushed_by_all g (run g (start g) es)) g.format (run g (start g) es).entries (recorded_of g es)))

-- a deal of its marks has its entry
pub session_commit : (g : Opening) (es : List Event) (w : ℕ) (d : Deal) → Has d (deals_in w (marks g (start g) es w [])) → CommitOf (run g (start g) es).entries d × (d.session ≡ w)
session_commit g es w d i =
    let k = keep_has (is_by w) (deals_of g.format (run g (start g) es).entries) d (subst (λ (l : List Deal). Has d l) (sym ((marked g es).done w)) i) in
    (commit_of g.format (run g (start g) es).entries d k.0, eqb-true d.session w k.1)

-- a commit of the session has a deal of its marks
deal_for : (f : Format) (h : List Entry) (e : Entry) → Has e h → is_commit e.kind ≡ true → (d : Deal) × Has d (deals_of f h) × (d.session ≡ e.log) × (d.number ≡ e.txn) × (d.at ≡ e.number)
deal_for f [] e i k = absurd i
deal_for f (x ∷ h) e i k = go (λ j. deal_for f h e j k) (is_commit x.kind) refl i
  where
    go : (Has e h → (d : Deal) × Has d (deals_of f h) × (d.session ≡ e.log) × (d.number ≡ e.txn) × (d.at ≡ e.number)) → (b : Bool) → is_commit x.kind ≡ b → Has e (x ∷ h) →
        (d : Deal) × Has d (cond b (deal_of f x h ∷ deals_of f h) (deals_of f h)) × (d.session ≡ e.log) × (d.number ≡ e.txn) × (d.at ≡ e.number)
    go ih true q (inl p) = (deal_of f x h, inl refl, ap (λ (y : Entry). y.log) (sym p), ap (λ (y : Entry). y.txn) (sym p), ap (λ (y : Entry). y.number) (sym p))
    go ih true q (inr j) = let r = ih j in (r.0, inr r.1, r.2, r.3, r.4)
    go ih false q (inl p) = absurd (true≢false (sym k ∙ (ap (λ (y : Entry). is_commit y.kind) p ∙ q)))
    go ih false q (inr j) = ih j

pub session_deal : (g : Opening) (es : List Event) (e : Entry) → Has e (run g (start g) es).entries → is_commit e.kind ≡ true → (d : Deal) × Has d (deals_in e.log (marks g (start g) es e.log [])) × (d.number ≡ e.txn) × (d.at ≡ e.number)
session_deal g es e i k =
    let d = deal_for g.format (run g (start g) es).entries e i k in
    (d.0, subst (λ (l : List Deal). Has d.0 l) ((marked g es).done e.log) (has_keep (is_by e.log) (deals_of g.format (run g (start g) es).entries) d.0 d.1 (eq-eqb d.0.session e.log d.2)), d.3, d.4)

-- ## A commit's outcome

-- none is behind where all are up to what is flushed
behind_none : (h : List Entry) (w n : ℕ) → ((r : Entry) → Has r h → r.log ≡ w → r.number ≤ n) → keep (λ e. is_commit e.kind && ((e.log == w) && ltb n e.number)) h ≡ []
behind_none [] w n l = refl
behind_none (e ∷ h) w n l =
    cond-false (is_commit e.kind && ((e.log == w) && ltb n e.number)) (e ∷ keep (λ e. is_commit e.kind && ((e.log == w) && ltb n e.number)) h) (keep (λ e. is_commit e.kind && ((e.log == w) && ltb n e.number)) h)
    (and_right (is_commit e.kind) ((e.log == w) && ltb n e.number) (off (cases_eq e.log w))) ∙ behind_none h w n (λ r i. l r (inr i))
  where
    off : (e.log ≡ w) ⊎ (e.log ≡ w → ⊥) → ((e.log == w) && ltb n e.number) ≡ false
    off (inl q) = and_right (e.log == w) (ltb n e.number) (le-ltb n e.number (l e (inl refl) q))
    off (inr q) = Rattle.std.proofs.lemmas.Bool.and_left (e.log == w) (ltb n e.number) (ne_eqb e.log w q)

some_behind : (h : List Entry) (p : Entry → Bool) (e : Entry) → Has e h → p e ≡ true → 0 < length (keep p h)
some_behind h p e i k = go (keep p h) (has_keep p h e i k)
  where
    go : (l : List Entry) → Has e l → 0 < length l
    go [] j = absurd j
    go (x ∷ l) j = omega arith

-- ## The moments of a run

-- nothing stands behind the last outcome of a line
pub pending_last : (x : Done) (xs : List Done) → is_last (answered x.outcome.deed) ≡ true → pending (x ∷ xs) ≡ []
pending_last x xs e = cond-true (is_last (answered x.outcome.deed)) [] (pending xs ++ x.events) e

-- there a moment is
pub moments_last : (x : Done) (xs : List Done) → is_last (answered x.outcome.deed) ≡ true → moments (x ∷ xs) ≡ (pending xs ++ x.events) ∷ moments xs
moments_last x xs e = cond-true (is_last (answered x.outcome.deed)) ((pending xs ++ x.events) ∷ moments xs) (moments xs) e

-- and behind no other one
pub moments_open : (x : Done) (xs : List Done) → is_last (answered x.outcome.deed) ≡ false → moments (x ∷ xs) ≡ moments xs
moments_open x xs e = cond-false (is_last (answered x.outcome.deed)) ((pending xs ++ x.events) ∷ moments xs) (moments xs) e

-- with one moment more
more_moments : (x : Done) (xs : List Done) → up_to (moments xs) ++ pending xs ≡ front xs → up_to ((pending xs ++ x.events) ∷ moments xs) ≡ front (x ∷ xs)
more_moments x xs e = sym (append_assoc (up_to (moments xs)) (pending xs) x.events) ∙ ap (λ (l : List Event). l ++ x.events) e

-- what happened up to the last moment, and behind it
pub up_to_moments : (xs : List Done) → up_to (moments xs) ++ pending xs ≡ front xs
up_to_moments [] = refl
up_to_moments (x ∷ xs) = go (is_last (answered x.outcome.deed)) (more_moments x xs (up_to_moments xs))
  where
    go : (b : Bool) → up_to ((pending xs ++ x.events) ∷ moments xs) ≡ front (x ∷ xs) →
        up_to (cond b ((pending xs ++ x.events) ∷ moments xs) (moments xs)) ++ cond b [] (pending xs ++ x.events) ≡ front (x ∷ xs)
    go true e = append-nil (up_to ((pending xs ++ x.events) ∷ moments xs)) ∙ e
    go false e = e

-- where the next outcome is the last of its line, its moment has all that happened
pub up_to_next : (x : Done) (xs : List Done) → up_to ((pending xs ++ x.events) ∷ moments xs) ≡ front (x ∷ xs)
up_to_next x xs = more_moments x xs (up_to_moments xs)

-- behind the last outcome of a line that is all
pub up_to_last : (x : Done) (xs : List Done) → is_last (answered x.outcome.deed) ≡ true → up_to (moments (x ∷ xs)) ≡ front (x ∷ xs)
up_to_last x xs e = ap up_to (moments_last x xs e) ∙ up_to_next x xs

-- with what came later
pub up_to_later : (xs : List Done) (later : List Event) → up_to (moments xs) ++ (pending xs ++ later) ≡ front xs ++ later
up_to_later xs later = sym (append_assoc (up_to (moments xs)) (pending xs) later) ∙ ap (λ (l : List Event). l ++ later) (up_to_moments xs)

-- what stood there at the last moment stands there
pub since_moments : (g : Opening) (xs : List Done) (e : Entry) → Has e (state_after g (up_to (moments xs))).entries → Has e (state_after g (front xs)).entries
since_moments g xs e i = subst (λ (s : State). Has e s.entries)
    (sym (run_more g (start g) (up_to (moments xs)) (pending xs)) ∙ ap (λ (es : List Event). state_after g es) (up_to_moments xs))
    (has_later g (pending xs) (state_after g (up_to (moments xs))) e i)

module _ (rises : EveryRise) (l : Limits) (g : Opening) (group n at : ℕ) (x : Done) (xs : List Done) (t : EachTells l g group (x ∷ xs)) (d : x.outcome.deed ≡ Committed n at) where
  abbrev w : ℕ
  w = x.outcome.session

  abbrev before : State
  before = state_after g (front xs)

  abbrev now : State
  now = state_after g (front (x ∷ xs))

  -- the session's marks
  newest : marks g (start g) (front (x ∷ xs)) w [] ≡ Ended true n at ∷ (reads_of x.outcome.unsaid ++ marks_by w (outcomes xs))
  newest = marks_all l g group (x ∷ xs) t w
      ∙ (cond-true (w == w) (marks_for x.outcome ++ marks_by w (outcomes xs)) (marks_by w (outcomes xs)) (eq-eqb w w refl)
      ∙ ap (λ (y : Deed). (marks_of y ++ reads_of x.outcome.unsaid) ++ marks_by w (outcomes xs)) d)

  deals_reads : (us : List Unsaid) (ms : List Mark) → deals_in w (reads_of us ++ ms) ≡ deals_in w ms
  deals_reads [] ms = refl
  deals_reads (u ∷ us) ms = deals_reads us ms

  abbrev deal : Deal
  deal = record { session = w; number = n; at = at; marks = Rattle.core_calls.proofs.EntryLemmas.marks_in (reads_of x.outcome.unsaid ++ marks_by w (outcomes xs)) }

  found : CommitOf now.entries deal
  found = (session_commit g (front (x ∷ xs)) w deal (subst (λ (ms : List Mark). Has deal (deals_in w ms)) (sym newest) (inl refl))).0

  resting : Rests now w at
  resting = rests g (front (x ∷ xs)) w at (ap (λ (ms : List Mark). ended_last ms at) newest ∙ eq-eqb at at refl)

  logs : Flushes g group before w at x.events
  logs = subst (λ (y : Deed). LogsGo l g group xs w y x.events) d t.1.logs

  abbrev mid : State
  mid = run g before logs.before

  now_is : (b : Bool) → leb group (behind mid w) ≡ b → now ≡ run g mid (cond b (Event.Flush w at ∷ []) [])
  now_is b e = run_more g (start g) (front xs) x.events
      ∙ (ap (run g before) logs.is ∙ (run_more g before logs.before (cond (leb group (behind mid w)) (Event.Flush w at ∷ []) [])
      ∙ ap (λ (c : Bool). run g mid (cond c (Event.Flush w at ∷ []) [])) e))

  met_flush : leb group (behind mid w) ≡ true → may g mid (Event.Flush w at) ≡ true
  met_flush e = (subst (λ (c : Bool). AllMet g mid (cond c (Event.Flush w at ∷ []) [])) e (met_more g before logs.before (cond (leb group (behind mid w)) (Event.Flush w at ∷ []) []) (subst (AllMet g before) logs.is t.1.met))).0

  flushed_now : leb group (behind mid w) ≡ true → now.flushed w ≡ at
  flushed_now e = ap (λ (s : State). s.flushed w) (now_is true e ∙ cond-true (may g mid (Event.Flush w at)) (happens g mid (Event.Flush w at)) mid (met_flush e)) ∙ upd_same mid.flushed w at w refl

  abbrev waits : State → Entry → Bool
  waits s e = is_commit e.kind && ((e.log == w) && ltb (s.flushed w) e.number)

  few : 0 < group → behind now w < group
  few z = elim (cases_Bool (leb group (behind mid w))) [
    | inl e ↦ (let q = ap length (ap (λ (f : ℕ). keep (λ e. is_commit e.kind && ((e.log == w) && ltb f e.number)) now.entries) (flushed_now e) ∙ behind_none now.entries w at resting.last) in omega arith)
    | inr e ↦ (let q = leb-false group (behind mid w) e in let r = ap (λ (s : State). behind s w) (now_is false e) in omega arith)
  ]

  -- the commit is flushed in its own log, where each is
  own_flushed : group ≡ 1 → found.entry.number ≤ now.flushed w
  own_flushed z = elim (cases_Bool (ltb (now.flushed w) found.entry.number)) [
    | inl e ↦ (let a = some_behind now.entries (waits now) found.entry found.has (and_from (is_commit found.entry.kind) ((found.entry.log == w) && ltb (now.flushed w) found.entry.number) found.commit (and_from (found.entry.log == w) (ltb (now.flushed w) found.entry.number) (eq-eqb found.entry.log w found.session) e)) in let b = few (omega arith) in absurd (omega arith))
    | inr e ↦ (elim (Rattle.std.proofs.lemmas.Bool.cases_lt (now.flushed w) found.entry.number) [ inl y ↦ absurd (true≢false (sym (lt-ltb (now.flushed w) found.entry.number y) ∙ e)) | inr y ↦ (omega arith) ])
  ]

  -- it was not told before: it was not there
  not_told : is_told (durables g (moments xs)) found.entry ≡ false
  not_told = elim (cases_Bool (is_told (durables g (moments xs)) found.entry)) [ inr e ↦ e | inl e ↦ absurd (twice e) ]
    where
      twice : is_told (durables g (moments xs)) found.entry ≡ true → ⊥
      twice e =
          let i = was_ripe rises g (moments xs) (name_of found.entry) (Rattle.core_calls.proofs.DurableLemmas.told_to (durables g (moments xs)) found.entry e) in
          let y = i.0 in
          let there = since_moments g xs i.0 i.1 in
          let c = (ripe_to g (run g (start g) (up_to (moments xs))) i.0 i.2).commit in
          let later = subst (λ (s : State). Has i.0 s.entries) (sym (run_more g (start g) (front xs) x.events)) (has_later g x.events before i.0 there) in
          let same = one_end g (flushed_by_all g now) now.entries (recorded_of g (front (x ∷ xs))) i.0 found.entry later found.has (Rattle.core_crash.proofs.Journal.commit_is_end i.0.kind c) (Rattle.core_crash.proofs.Journal.commit_is_end found.entry.kind found.commit) (ap (λ (m : Name). m.session) i.3, ap (λ (m : Name). m.number) i.3) in
          let old = session_deal g (front xs) i.0 there c in
          let log_is = ap (λ (m : Entry). m.log) same ∙ found.session in
          let has_old = subst (λ (v : ℕ). Has old.0 (deals_in v (marks g (start g) (front xs) v []))) log_is old.1 in
          let has_new = subst (λ (k : List Mark). Has old.0 (deals_in w k)) (marks_all l g group xs t.0 w) has_old in
          let falls = subst (λ (ms : List Mark). DealsFall (deals_in w ms)) newest (session_falls g (front (x ∷ xs)) w) in
          let of_w = (session_commit g (front xs) w old.0 has_old).1 in
          let less = falls.1 old.0 (subst (λ (k : List Deal). Has old.0 k) (sym (deals_reads x.outcome.unsaid (marks_by w (outcomes xs)))) has_new) of_w in
          let a = old.3 in let b = ap (λ (m : Entry). m.number) same in let f = found.at in omega arith

  pub commit_laws : CommitLaws g group w n at x xs
  commit_laws = record {
    few = few;
    entry = found.entry;
    has = found.has;
    commit = found.commit;
    session = found.session;
    number = found.number;
    at_is = found.at;
    at_once = λ z y. has_due g now (durables g (moments xs)) found.entry found.has
        (ripe_from g now found.entry (record {
          commit = found.commit;
          flushed = (let a = own_flushed z in let b = ap now.flushed found.session in omega arith);
          need = (let a = y in omega arith);
        })) not_told;
  }

pub every_commit : EveryRise → EveryCommit
every_commit rises l g group n at x xs t d = commit_laws rises l g group n at x xs t d

pub every_synced : EveryDurable → EverySynced
every_synced durable l g group at x xs t d e i k =
    subst (λ (ms : List (List Event)). Has (name_of e) (durables g ms)) (sym (moments_last x xs last))
    ((durable g ((pending xs ++ x.events) ∷ moments xs)).synced (moments xs) (pending xs ++ logs.0) at
    (ap (λ (es : List Event). (pending xs ++ es) ∷ moments xs) logs.1 ∙ ap (λ (es : List Event). es ∷ moments xs) (sym (append_assoc (pending xs) logs.0 (Event.Sync at ∷ []))))
    (subst (λ (es : List Event). may g (run g (start g) es) (Event.Sync at) ≡ true) (sym (up_to_later xs logs.0)) (subst (λ (s : State). may g s (Event.Sync at) ≡ true) (sym (run_more g (start g) (front xs) logs.0)) met))
    e (subst (λ (es : List Event). Has e (run g (start g) es).entries) (sym (up_to_next x xs)) i) k)
  where
    last : is_last (answered x.outcome.deed) ≡ true
    last = ap (λ (y : Deed). is_last (answered y)) d

    logs : LogsGo l g group xs x.outcome.session (Synced at) x.events
    logs = subst (λ (y : Deed). LogsGo l g group xs x.outcome.session y x.events) d t.1.logs

    met : may g (run g (state_after g (front xs)) logs.0) (Event.Sync at) ≡ true
    met = (met_more g (state_after g (front xs)) logs.0 (Event.Sync at ∷ []) (subst (AllMet g (state_after g (front xs))) logs.1 t.1.met)).0
