-- One worker: no end needs anything, each commit is ripe at once, and its line alone is due.
use Rattle.std.proofs.Common.{◌≡◌, ◌⊎◌, ◌≤◌, ℕ, Bool, true, false, cond, ◌&&◌, not, ltb, ◌==◌, List, [], ◌∷◌, ◌++◌, Option, Some, refl, sym, ap, ap₂, ◌∙◌, subst, inl, inr, arith, true≢false}
use Rattle.std.proofs.lemmas.Bool.{cases_eq, eq-eqb, eqb-true, ltb-true, and_parts}
use Rattle.map_model.specs.Maps.{MapAnswer}
use Rattle.map_model.specs.Histories.{Step}
use Rattle.map_model.specs.Journals.{Name}
use Rattle.map_model.specs.Lists.{Has}
use Rattle.map_model.specs.Pairings.{is_last}
use Rattle.map_model.proofs.ListLemmas.{has_left}
use Rattle.core_crash.specs.image_model.Entries.{Entry, is_commit, touches, written}
use Rattle.core_crash.specs.image_model.Ends.{name_of}
use Rattle.rfa_model.specs.Stamps.{is_remote, need_of}
use Rattle.core_crash.specs.core_state.Openings.{Opening}
use Rattle.core_crash.specs.core_state.States.{State, start, flushed_by_all}
use Rattle.core_crash.specs.core_state.Events.{Event}
use Rattle.core_crash.specs.core_state.Needs.{pages_of, are_hot, needs, may}
use Rattle.core_crash.specs.core_state.Steps.{happens, step, run}
use Rattle.core_crash.proofs.core_state.Runs.{run_more}
use Rattle.core_crash.specs.core_commit.Debts.{Stamp, stamps_of, touched, Touched, EveryNeed}
use Rattle.core_crash.specs.core_commit.Holders.{EveryHolder}
use Rattle.core_crash.specs.core_commit.Rises.{EveryRise}
use Rattle.core_crash.specs.core_commit.Floors.{EveryFloor}
use Rattle.core_crash.proofs.core_commit.History.{IsRecorded, page_at}
use Rattle.core_crash.proofs.core_commit.Runs.{good_run, good_start}
use Rattle.core_crash.proofs.Ends.{one_end}
use Rattle.core_crash.proofs.Journal.{commit_is_end}
use Rattle.core_calls.specs.Marks.{Mark, Ended, back_in, mark, marks}
use Rattle.core_calls.specs.Deeds.{Deed, Begun, Got, Changed, Deleted, Absent, Met, Paused, Over, Committed, Aborted, Refused, Synced, Checkpointed, Unsaid, answered, put_backs, marks_of, reads_of, marks_for}
use Rattle.core_calls.specs.Refusals.{Limits}
use Rattle.core_calls.specs.Fronts.{Done, front}
use Rattle.core_calls.specs.Runs.{EachTells}
use Rattle.core_calls.specs.Durables.{is_ripe, is_told, due, durables, AreOnce, pending, moments, EveryDurable, EveryCommit}
use Rattle.core_calls.specs.Alone.{names_by, commits_name, EveryAlone}
use Rattle.core_calls.proofs.EntryLemmas.{Deal, deals_in, Adds, None_new, One_new, Begin_new, adds}
use Rattle.core_calls.proofs.MarkLemmas.{commit_is}
use Rattle.core_calls.proofs.RunLemmas.{marks_behind}
use Rattle.core_calls.proofs.DurableLemmas.{has_later, recorded_of, entered, Ripe, ripe_from, ripe_to, ripe_later, told_from, due_has}
use Rattle.core_calls.proofs.CommitLemmas.{session_commit, session_deal, moments_open, up_to_last, up_to_next}

-- ## What is touched

-- a stamp is of a log up to n, or its number is up to the base
abbrev Near : ℕ → ℕ → Stamp → Type 0
Near n base x = (x.log ≤ n) ⊎ (x.number ≤ base)

abbrev page_stamp : State → ℕ → Stamp
page_stamp s p = record { number = (s.page p).gsn; log = (s.page p).last }

stamps_near : (s : State) (n base : ℕ) → ((p : ℕ) → Near n base (page_stamp s p)) → (ps : List ℕ) (x : Stamp) → Has x (stamps_of s ps) → Near n base x
stamps_near s n base h [] x i = absurd i
stamps_near s n base h (p ∷ ps) x (inl q) = subst (Near n base) (sym q) (h p)
stamps_near s n base h (p ∷ ps) x (inr i) = stamps_near s n base h ps x i

touched_near : (s : State) (n base : ℕ) → ((p : ℕ) → Near n base (page_stamp s p)) → ((i : ℕ) → (s.row i).log ≤ n) → (e : Event) (x : Stamp) → Has x (touched s e) → Near n base x
touched_near s n base h r (Event.Lock v i mode) x (inl q) = subst (Near n base) (sym q) (inl (r i))
touched_near s n base h r (Event.Lock v i mode) x (inr q) = absurd q
touched_near s n base h r (Event.Read v p k a) x i = stamps_near s n base h (p ∷ []) x i
touched_near s n base h r (Event.Next v p k a) x i = stamps_near s n base h (p ∷ []) x i
touched_near s n base h r (Event.Change v p k a) x i = stamps_near s n base h (p ∷ []) x i
touched_near s n base h r (Event.Put_back v p) x i = stamps_near s n base h (p ∷ []) x i
touched_near s n base h r (Event.Split v a b q j) x i = stamps_near s n base h (a ∷ b ∷ q ∷ []) x i
touched_near s n base h r (Event.Lift v c) x i = stamps_near s n base h (0 ∷ c ∷ []) x i
touched_near s n base h r (Event.Join v a b q) x i = stamps_near s n base h (a ∷ b ∷ q ∷ []) x i
touched_near s n base h r (Event.Drop v c) x i = stamps_near s n base h (0 ∷ c ∷ []) x i
touched_near s n base h r (Event.Purge v p keys) x i = stamps_near s n base h (p ∷ []) x i
touched_near s n base h r _ x i = absurd i

-- a page that has been changed has the log of a worker, and any other has a number up to the base
page_near : (g : Opening) (f p : ℕ) (h : List Entry) → IsRecorded g f h → ((page_at g h p).last ≤ g.workers) ⊎ ((page_at g h p).gsn ≤ g.base)
page_near g f p [] all = inr (g.low p)
page_near g f p (r ∷ h) all = go (page_near g f p h all.1) (touches p r)
  where
    go : ((page_at g h p).last ≤ g.workers) ⊎ ((page_at g h p).gsn ≤ g.base) → (b : Bool) → ((cond b (written r p (page_at g h p)) (page_at g h p)).last ≤ g.workers) ⊎ ((cond b (written r p (page_at g h p)) (page_at g h p)).gsn ≤ g.base)
    go ih true = inl all.0.log.1
    go ih false = ih

-- neither the only log nor a number up to the floor is another's
not_remote : (floor base : ℕ) (x : Stamp) → base ≤ floor → Near 1 base x → is_remote 1 floor x.number x.log ≡ true → ⊥
not_remote floor base x low (inr n) r = let a = ltb-true floor x.number (and_parts (ltb floor x.number) (not (x.log == 1) && not (x.log == 0)) r).0 in absurd (omega arith)
not_remote floor base x low (inl l) r = elim (cases_eq x.log 1) [
  | inl q ↦ true≢false (sym (and_parts (not (x.log == 1)) (not (x.log == 0)) (and_parts (ltb floor x.number) (not (x.log == 1) && not (x.log == 0)) r).1).0 ∙ ap not (eq-eqb x.log 1 q))
  | inr n ↦ true≢false (sym (and_parts (not (x.log == 1)) (not (x.log == 0)) (and_parts (ltb floor x.number) (not (x.log == 1) && not (x.log == 0)) r).1).1 ∙ ap not (eq-eqb x.log 0 (omega (arith, n, l))))
]

-- ## What an end's entry is

-- an event that tells of a commit is its end
pub record IsEnd (e : Event) : Type 0 where
  pub w : ℕ
  pub commit : Bool
  pub f : ℕ
  pub is : e ≡ Event.End w commit f

abbrev tells_end : Option Mark → Bool
tells_end (Some (Ended c n at)) = true
tells_end _ = false

end_of : (g : Opening) (s : State) (e : Event) → tells_end (mark g s e) ≡ true → IsEnd e
end_of g s (Event.End w commit f) t = record { w = w; commit = commit; f = f; is = refl }
end_of g s (Event.Next w p k (MapAnswer.Pair at v)) t = absurd (true≢false (sym t))
end_of g s (Event.Next w p k _) t = absurd (true≢false (sym t))
end_of g s (Event.Put_back w p) t = go (s.worker w).changes t
  where
    go : (cs : List Entry) → tells_end (back_in g s p cs) ≡ true → IsEnd (Event.Put_back w p)
    go [] q = absurd (true≢false (sym q))
    go (c ∷ cs) q = absurd (true≢false (sym q))
end_of g s _ t = absurd (true≢false (sym t))

abbrev first_of_list : Entry → List Entry → Entry
first_of_list d [] = d
first_of_list d (e ∷ h) = e

-- no commit needs anything
abbrev pub Needless : List Entry → Type 0
Needless h = (e : Entry) → Has e h → is_commit e.kind ≡ true → e.need ≡ 0

module _ (need_laws : EveryNeed) (holders : EveryHolder) (floors : EveryFloor) (g : Opening) (alone : g.workers ≡ 1) where
  -- what every page is stamped with
  pages_near : (before : List Event) (p : ℕ) → Near 1 g.base (page_stamp (run g (start g) before) p)
  pages_near before p =
      let i = (good_run g before (start g) (good_start g)).inv in
      let k = i.stamps p in let number = k.0 in let log = k.1 in
      elim (page_near g (flushed_by_all g (run g (start g) before)) p (run g (start g) before).entries i.records) [
        | inl l ↦ inl (omega (arith, l, log, alone))
        | inr n ↦ inr (omega (arith, n, number))
      ]

  untouched : (es before : List Event) (n : ℕ) → Touched g (run g (start g) before) es 1 n → ⊥
  untouched [] before n t = t
  untouched (e ∷ es) before n (inl t) = not_remote ((run g (start g) before).worker 1).floor g.base t.stamp
      (floors g before [] 1).base
      (touched_near (run g (start g) before) 1 g.base (pages_near before)
      (λ i. let a = (holders g before).log i in omega arith)
      e t.stamp t.has) t.remote
  untouched (e ∷ es) before n (inr t) = untouched es (before ++ e ∷ []) n (subst (λ (s : State). Touched g s es 1 n) (sym (run_more g (start g) before (e ∷ []))) t)

  needs_none : (es : List Event) (w : ℕ) (commit : Bool) (f : ℕ) → w ≡ 1 → may g (run g (start g) es) (Event.End w commit f) ≡ true → need_of ((run g (start g) es).worker w).debt f ≡ 0
  needs_none es w commit f i m = elim (cases_eq (need_of ((run g (start g) es).worker w).debt f) 0) [
    | inl q ↦ q
    | inr n ↦ absurd (untouched es [] (need_of ((run g (start g) es).worker w).debt f) (subst (λ (v : ℕ). Touched g (start g) es v (need_of ((run g (start g) es).worker w).debt f)) i ((need_laws g es w commit f m).1 n).0))
  ]

  -- the entry that an end enters
  ended_need : (before : List Event) (e : Event) (r : Entry) → may g (run g (start g) before) e ≡ true → (happens g (run g (start g) before) e).entries ≡ r ∷ (run g (start g) before).entries → r.log ≡ 1 → IsEnd e → r.need ≡ 0
  ended_need before e r m h i d =
      let h1 = subst (λ (x : Event). (happens g (run g (start g) before) x).entries ≡ r ∷ (run g (start g) before).entries) d.is h in
      let is = ap (first_of_list r) h1 in
      ap (λ (x : Entry). x.need) (sym is) ∙ needs_none before d.w d.commit d.f (ap (λ (x : Entry). x.log) is ∙ i) (subst (λ (x : Event). may g (run g (start g) before) x ≡ true) d.is m)

  needless_step : (before : List Event) (e : Event) → Needless (run g (start g) before).entries → Needless (step g (run g (start g) before) e).entries
  needless_step before e h = go (may g s e) refl
    where
      s : State
      s = run g (start g) before

      new : may g s e ≡ true → Adds g s e → (y : Entry) → Has y (happens g s e).entries → is_commit y.kind ≡ true → y.need ≡ 0
      new m (None_new q) y i k = h y (subst (λ (l : List Entry). Has y l) q.entries i) k
      new m (Begin_new q) y i k = h y (subst (λ (l : List Entry). Has y l) q.entries i) k
      new m (One_new q) y i k = at (subst (λ (l : List Entry). Has y l) q.entries i)
        where
          now : run g (start g) (before ++ e ∷ []) ≡ happens g s e
          now = run_more g (start g) before (e ∷ []) ∙ rw m refl

          own : q.entry.log ≡ 1
          own =
              let w = (entered g (before ++ e ∷ []) q.entry (subst (λ (l : List Entry). Has q.entry l) (sym (ap (λ (t : State). t.entries) now ∙ q.entries)) (inl refl))).2.log in
              let a = w.0 in let b = w.1 in omega arith

          at : Has y (q.entry ∷ s.entries) → y.need ≡ 0
          at (inr j) = h y j k
          at (inl j) =
              ap (λ (x : Entry). x.need) j
              ∙ ended_need before e q.entry m q.entries own (end_of g s e (ap tells_end (q.mark ∙ commit_is g.format q.entry.kind q.entry (ap (λ (x : Entry). is_commit x.kind) (sym j) ∙ k))))

      go : (b : Bool) → may g s e ≡ b → Needless (cond b (happens g s e) s).entries
      go true m = new m (adds g s e (and_parts (are_hot s (pages_of e)) (needs g s e) m).1)
      go false m = h

  needless_run : (es before : List Event) → Needless (run g (start g) before).entries → Needless (run g (run g (start g) before) es).entries
  needless_run [] before h = h
  needless_run (e ∷ es) before h =
      subst (λ (s : State). Needless (run g s es).entries) (run_more g (start g) before (e ∷ []))
      (needless_run es (before ++ e ∷ []) (subst (λ (s : State). Needless s.entries) (sym (run_more g (start g) before (e ∷ []))) (needless_step before e h)))

  pub needless : (es : List Event) → Needless (run g (start g) es).entries
  needless es = needless_run es [] (λ e i. absurd i)

-- ## The commits of an outcome

deals_reads : (w : ℕ) (us : List Unsaid) (ms : List Mark) → deals_in w (reads_of us ++ ms) ≡ deals_in w ms
deals_reads w [] ms = refl
deals_reads w (u ∷ us) ms = deals_reads w us ms

deals_backs : (w : ℕ) (bs : List Step) (us : List Unsaid) (ms : List Mark) → deals_in w ((put_backs bs ++ reads_of us) ++ ms) ≡ deals_in w ms
deals_backs w [] us ms = deals_reads w us ms
deals_backs w (b ∷ bs) us ms = deals_backs w bs us ms

-- the deed commits this transaction
abbrev pub Commits : Deed → Deal → Type 0
Commits d z = (at : ℕ) × (d ≡ Committed z.number at)

-- a deal is an earlier one, or the deed's
more_deals : (w : ℕ) (d : Deed) (us : List Unsaid) (ms : List Mark) (z : Deal) → Has z (deals_in w ((marks_of d ++ reads_of us) ++ ms)) → Has z (deals_in w ms) ⊎ Commits d z
more_deals w d us ms z i = go d i
  where
    old : Has z (deals_in w (reads_of us ++ ms)) → Has z (deals_in w ms)
    old j = subst (λ (l : List Deal). Has z l) (deals_reads w us ms) j

    go : (d : Deed) → Has z (deals_in w ((marks_of d ++ reads_of us) ++ ms)) → Has z (deals_in w ms) ⊎ Commits d z
    go (Committed n at) (inl q) = inr (at, ap (λ (y : Deal). Committed y.number at) (sym q))
    go (Committed n at) (inr j) = inl (old j)
    go (Begun n) j = inl (old j)
    go (Got k v alone) j = inl (old j)
    go (Changed k v a) j = inl (old j)
    go (Deleted k a) j = inl (old j)
    go (Absent k) j = inl (old j)
    go (Met from to k v alone) j = inl (old j)
    go (Paused from to k) j = inl (old j)
    go (Over from to) j = inl (old j)
    go (Aborted c n at bs) j = inl (subst (λ (l : List Deal). Has z l) (deals_backs w bs us ms) j)
    go (Refused c why bs) j = inl (subst (λ (l : List Deal). Has z l) (deals_backs w bs us ms) j)
    go (Synced at) j = inl (old j)
    go (Checkpointed at) j = inl (old j)

-- a commit of an outcome's session
pub record OfOutcome (x : Done) (e : Entry) : Type 0 where
  pub session : x.outcome.session ≡ e.log
  pub at : ℕ
  pub deed : x.outcome.deed ≡ Committed e.txn at

module _ (l : Limits) (g : Opening) (group : ℕ) (x : Done) (xs : List Done) (t : EachTells l g group (x ∷ xs)) where
  abbrev before : State
  before = run g (start g) (front xs)

  abbrev now : State
  now = run g (start g) (front (x ∷ xs))

  same_end : (d e : Entry) → Has d now.entries → Has e now.entries → is_commit d.kind ≡ true → is_commit e.kind ≡ true → d.log ≡ e.log → d.txn ≡ e.txn → d ≡ e
  same_end d e i j k m s n = one_end g (flushed_by_all g now) now.entries (recorded_of g (front (x ∷ xs))) d e i j (commit_is_end d.kind k) (commit_is_end e.kind m) (s, n)

  stays : (e : Entry) → Has e before.entries → Has e now.entries
  stays e i = subst (λ (s : State). Has e s.entries) (sym (run_more g (start g) (front xs) x.events)) (has_later g x.events before e i)

  -- each commit stood before, or is the outcome's
  pub new_or_old : (e : Entry) → Has e now.entries → is_commit e.kind ≡ true → Has e before.entries ⊎ OfOutcome x e
  new_or_old e i k = go (x.outcome.session == e.log) refl (subst (λ (ms : List Mark). Has z (deals_in e.log ms)) newest d.1)
    where
      d : (d : Deal) × Has d (deals_in e.log (marks g (start g) (front (x ∷ xs)) e.log [])) × (d.number ≡ e.txn) × (d.at ≡ e.number)
      d = session_deal g (front (x ∷ xs)) e i k

      z : Deal
      z = (session_deal g (front (x ∷ xs)) e i k).0

      past : List Mark
      past = marks g (start g) (front xs) e.log []

      newest : marks g (start g) (front (x ∷ xs)) e.log [] ≡ cond (x.outcome.session == e.log) (marks_for x.outcome) [] ++ past
      newest = marks_behind g (front xs) x.events e.log ∙ ap (λ (ms : List Mark). ms ++ past) (t.1.told e.log)

      old : Has z (deals_in e.log past) → Has e before.entries
      old j =
          let c = session_commit g (front xs) e.log z j in
          let r = c.0 in
          subst (λ (y : Entry). Has y before.entries)
          (same_end r.entry e (stays r.entry r.has) i r.commit k (r.session ∙ c.1) (r.number ∙ d.2))
          r.has

      go : (b : Bool) → (x.outcome.session == e.log) ≡ b → Has z (deals_in e.log (cond b (marks_for x.outcome) [] ++ past)) → Has e before.entries ⊎ OfOutcome x e
      go false q j = inl (old j)
      go true q j = elim (more_deals e.log x.outcome.deed x.outcome.unsaid past z j) [
        | inl a ↦ inl (old a)
        | inr c ↦ inr (record { session = eqb-true x.outcome.session e.log q; at = c.0; deed = c.1 ∙ ap (λ (n : ℕ). Committed n c.0) d.2 })
      ]

-- ## Lists of names

once_left : (a b : List Name) → AreOnce (a ++ b) → AreOnce a
once_left [] b o = tt
once_left (n ∷ a) b o = (once_left a b o.0, λ i. o.1 (has_left n a b i))

abbrev first_name : Name → List Name → Name
first_name d [] = d
first_name d (n ∷ ns) = n

-- each name of the first list is all of the second, which has no other
as_one : (ns cs : List Name) → AreOnce ns → ((m : Name) → Has m ns → cs ≡ m ∷ []) → ((m : Name) → Has m cs → Has m ns) → ns ≡ cs
as_one [] [] o h k = refl
as_one [] (c ∷ cs) o h k = absurd (k c (inl refl))
as_one (n ∷ []) cs o h k = sym (h n (inl refl))
as_one (n ∷ m ∷ ns) cs o h k = absurd (o.1 (inl (ap (first_name n) (sym (h n (inl refl)) ∙ h m (inr (inl refl))))))

-- ## What is due

module _ (need_laws : EveryNeed) (holders : EveryHolder) (floors : EveryFloor) (rises : EveryRise) (durable : EveryDurable) (commit : EveryCommit) (l : Limits) (g : Opening) (alone : g.workers ≡ 1) where
  -- each commit is ripe
  all_ripe : (xs : List Done) → EachTells l g 1 xs → (e : Entry) → Has e (run g (start g) (front xs)).entries → is_commit e.kind ≡ true → Ripe g (run g (start g) (front xs)) e
  all_ripe [] t e i k = absurd i
  all_ripe (x ∷ xs) t e i k = go (all_ripe xs t.0 e) (new_or_old l g 1 x xs t e i k)
    where
      go : (Has e (run g (start g) (front xs)).entries → is_commit e.kind ≡ true → Ripe g (run g (start g) (front xs)) e) → Has e (run g (start g) (front xs)).entries ⊎ OfOutcome x e → Ripe g (run g (start g) (front (x ∷ xs))) e
      go ih (inl j) = subst (λ (s : State). Ripe g s e) (sym (run_more g (start g) (front xs) x.events)) (ripe_later rises g (front xs) x.events e j (ih j k))
      go ih (inr o) =
          let c = commit l g 1 e.txn o.at x xs t o.deed in
          let y = due_has g (run g (start g) (front (x ∷ xs))) (durables g (moments xs)) (name_of c.entry) (c.at_once refl (needless need_laws holders floors g alone (front (x ∷ xs)) c.entry c.has c.commit)) in
          let r = ripe_to g (run g (start g) (front (x ∷ xs))) y.0 y.2 in
          subst (λ (a : Entry). Ripe g (run g (start g) (front (x ∷ xs))) a)
          (same_end l g 1 x xs t y.0 e y.1 i r.commit k (ap (λ (m : Name). m.session) y.4 ∙ (c.session ∙ o.session)) (ap (λ (m : Name). m.number) y.4 ∙ c.number))
          r

  -- a commit that stood before was told: none stands behind the last moment
  was_told : (xs : List Done) → EachTells l g 1 xs → (e : Entry) → Has e (run g (start g) (front xs)).entries → is_commit e.kind ≡ true → is_told (durables g (moments xs)) e ≡ true
  was_told [] t e i k = absurd i
  was_told (x ∷ xs) t e i k = go (is_last (answered x.outcome.deed)) refl (was_told xs t.0 e)
    where
      behind : (Has e (run g (start g) (front xs)).entries → is_commit e.kind ≡ true → is_told (durables g (moments xs)) e ≡ true) → is_last (answered x.outcome.deed) ≡ false →
          Has e (run g (start g) (front xs)).entries ⊎ OfOutcome x e → is_told (durables g (moments xs)) e ≡ true
      behind ih q (inl j) = ih j k
      behind ih q (inr o) = absurd (true≢false (sym (ap (λ (d : Deed). is_last (answered d)) o.deed) ∙ q))

      go : (b : Bool) → is_last (answered x.outcome.deed) ≡ b → (Has e (run g (start g) (front xs)).entries → is_commit e.kind ≡ true → is_told (durables g (moments xs)) e ≡ true) →
          is_told (durables g (moments (x ∷ xs))) e ≡ true
      go true q ih = told_from (durables g (moments (x ∷ xs))) e ((durable g (moments (x ∷ xs))).all e
          (subst (λ (es : List Event). Has e (run g (start g) es).entries) (sym (up_to_last x xs q)) i)
          (subst (λ (es : List Event). is_ripe g (run g (start g) es) e ≡ true) (sym (up_to_last x xs q)) (ripe_from g (run g (start g) (front (x ∷ xs))) e (all_ripe (x ∷ xs) t e i k))))
      go false q ih = ap (λ (ms : List (List Event)). is_told (durables g ms) e) (moments_open x xs q) ∙ behind ih q (new_or_old l g 1 x xs t e i k)

  module _ (x : Done) (xs : List Done) (t : EachTells l g 1 (x ∷ xs)) where
    abbrev lines : List Name
    lines = due g (run g (start g) (front (x ∷ xs))) (durables g (moments xs))

    -- what is due is the outcome's
    only : (m : Name) → Has m lines → commits_name x.outcome ≡ m ∷ []
    only m i = go (new_or_old l g 1 x xs t d.0 d.1 k)
      where
        d : (e : Entry) × Has e (run g (start g) (front (x ∷ xs))).entries × (is_ripe g (run g (start g) (front (x ∷ xs))) e ≡ true) × (is_told (durables g (moments xs)) e ≡ false) × (name_of e ≡ m)
        d = due_has g (run g (start g) (front (x ∷ xs))) (durables g (moments xs)) m i

        k : is_commit d.0.kind ≡ true
        k = (ripe_to g (run g (start g) (front (x ∷ xs))) d.0 d.2).commit

        go : Has d.0 (run g (start g) (front xs)).entries ⊎ OfOutcome x d.0 → commits_name x.outcome ≡ m ∷ []
        go (inl j) = absurd (true≢false (sym (was_told xs t.0 d.0 j k) ∙ d.3))
        go (inr o) = ap₂ names_by o.session o.deed ∙ ap (λ (n : Name). n ∷ []) d.4

    -- and the outcome's is due
    due_at_once : (m : Name) → Has m (commits_name x.outcome) → Has m lines
    due_at_once m i = go x.outcome.deed refl i
      where
        go : (d : Deed) → x.outcome.deed ≡ d → Has m (names_by x.outcome.session d) → Has m lines
        go (Committed n at) q (inl j) =
            let c = commit l g 1 n at x xs t q in
            subst (λ (y : Name). Has y lines) (ap₂ (λ (a b : ℕ). record { session = a; number = b }) c.session c.number ∙ sym j)
            (c.at_once refl (needless need_laws holders floors g alone (front (x ∷ xs)) c.entry c.has c.commit))
        go (Committed n at) q (inr j) = absurd j
        go (Begun n) q j = absurd j
        go (Got k v b) q j = absurd j
        go (Changed k v a) q j = absurd j
        go (Deleted k a) q j = absurd j
        go (Absent k) q j = absurd j
        go (Met from to k v b) q j = absurd j
        go (Paused from to k) q j = absurd j
        go (Over from to) q j = absurd j
        go (Aborted c n at bs) q j = absurd j
        go (Refused c why bs) q j = absurd j
        go (Synced at) q j = absurd j
        go (Checkpointed at) q j = absurd j

    once : AreOnce lines
    once = once_left lines (durables g (moments xs))
        (subst (λ (es : List Event). AreOnce (due g (run g (start g) es) (durables g (moments xs)) ++ durables g (moments xs))) (up_to_next x xs) (durable g ((pending xs ++ x.events) ∷ moments xs)).once)

    pub lines_are : lines ≡ commits_name x.outcome
    lines_are = as_one lines (commits_name x.outcome) once only due_at_once

pub every_alone : EveryNeed → EveryHolder → EveryFloor → EveryRise → EveryDurable → EveryCommit → EveryAlone
every_alone need_laws holders floors rises durable commit l g x xs alone t = lines_are need_laws holders floors rises durable commit l g alone x xs t
