-- What a scan takes: its steps draw no number, and where a page finds no frame a sync is made, of which there are few.
use Rattle.std.proofs.Common.{◌≡◌, ◌⊎◌, inl, inr, ⊎_elim, ◌≤◌, ◌&&◌, ltb, ℕ, suc, Bool, true, false, cond, List, [], ◌∷◌, length, Option, Some, None, refl, sym, ◌∙◌, ap, subst, arith, true≢false}
use Rattle.std.proofs.lemmas.Bool.{and_parts, cond-true, ltb-true}
use Rattle.map_model.specs.declared.call.Call.{Call}
use Rattle.map_model.specs.declared.call.Call.TheVariants as call
use Rattle.map_model.specs.declared.call.Refusal.{Refusal}
use Rattle.map_model.specs.declared.call.Refusal.TheVariants as refusal
use Rattle.map_model.specs.Lists.{any, keep, upd}
use Rattle.map_model.specs.Maps.{MapAnswer}
use Rattle.map_model.proofs.ListLemmas.{at_upd, upd_same}
use Rattle.disk_runs.specs.image_model.Entries.{Entry}
use Rattle.disk_runs.specs.core_state.Events.{Event, Mode}
use Rattle.disk_runs.specs.core_state.Needs.{are_hot, may, may_put_back, needs, pages_of}
use Rattle.disk_runs.specs.core_state.Openings.{Opening}
use Rattle.disk_runs.specs.core_state.States.{State, Worker, start}
use Rattle.disk_runs.specs.core_state.Steps.{AllMet, follows, happens, put_back, run, state_after, step}
use Rattle.core_calls.specs.Deeds.{Aborted, Deed, Met, Outcome, Over, Paused, Refused, Unsaid, asked}
use Rattle.core_calls.specs.Fronts.{Done, front, outcomes}
use Rattle.core_calls.specs.LogEvents.{IsPressedYet, IsTightSomewhere, LogsGo, SyncsWhere}
use Rattle.core_calls.specs.Refusals.{Limits}
use Rattle.core_calls.specs.Steps.{FollowsConflict, Goes, IsAnAbort, IsBehind, PutsBack, Tries, Undoes, Unlocks, Walks, call_behind, due_call, hindered_in, is_change, is_step, is_structure}
use Rattle.core_calls.proofs.WhereLemmas.{syncs_weaker}
use Rattle.core_covers.specs.Highs.{writes, written_in}
use Rattle.disk_runs.specs.Masters.{masters}
use Rattle.sync_counts.specs.Syncs.{EverySyncCount, syncs}
use Rattle.event_counts.specs.Draws.{draws, draws_one}
use Rattle.event_counts.specs.Scans.{EveryScanCount}

-- ## What a transaction has to put back

-- how many changes it has
abbrev changes : State → ℕ → ℕ
changes s w = length (s.worker w).changes

-- a worker that has few has few among the others
module _ (g : Opening) (s : State) (all : (v : ℕ) → changes s v ≤ g.changes) where
  with_few : (w : ℕ) (a : Worker) → length a.changes ≤ g.changes → (v : ℕ) → length (upd s.worker w a v).changes ≤ g.changes
  with_few w a own v = at_upd (λ j b. length b.changes ≤ g.changes) s.worker w a v own (λ other. all v)

  few_happens : (e : Event) → needs g s e ≡ true → (v : ℕ) → changes (happens g s e) v ≤ g.changes
  few_happens (Event.Begin w f) m = with_few w _ (omega arith)
  few_happens (Event.Lock w i mode) m = with_few w _ (all w)
  few_happens (Event.Read w p k a) m = with_few w _ (all w)
  few_happens (Event.Next w p k a) m = go a
    where
      go : (a : MapAnswer) → (v : ℕ) → changes (follows g s w p a) v ≤ g.changes
      go (MapAnswer.Pair at word) = with_few w _ (all w)
      go (MapAnswer.Gap h) = with_few w _ (all w)
      go (MapAnswer.Value x) = all
      go (MapAnswer.Was x) = all
  few_happens (Event.Change w p k x) m = with_few w _ (let a = ltb-true (changes s w) g.changes (and_parts (ltb (changes s w) g.changes) _ m).0 in omega arith)
  few_happens (Event.Put_back w p) m = go (s.worker w).changes refl
    where
      go : (cs : List Entry) → (s.worker w).changes ≡ cs → (v : ℕ) → changes (put_back g s w p cs) v ≤ g.changes
      go [] e = all
      go (c ∷ cs) e = with_few w _ (let a = ap (λ (l : List Entry). length l) e in let b = all w in omega arith)
  few_happens (Event.Split w l r q i) m = with_few w _ (all w)
  few_happens (Event.Lift w c) m = with_few w _ (all w)
  few_happens (Event.Join w l r q) m = with_few w _ (all w)
  few_happens (Event.Drop w c) m = with_few w _ (all w)
  few_happens (Event.Purge w p keys) m = with_few w _ (all w)
  few_happens (Event.End w commit f) m = with_few w _ (omega arith)
  few_happens _ m = all

  few_step : (e : Event) (v : ℕ) → changes (step g s e) v ≤ g.changes
  few_step e = go (may g s e) refl
    where
      go : (b : Bool) → may g s e ≡ b → (v : ℕ) → changes (cond b (happens g s e) s) v ≤ g.changes
      go true is = few_happens e (and_parts (are_hot s (pages_of e)) (needs g s e) is).1
      go false is = all

few_run : (g : Opening) (es : List Event) (s : State) → ((v : ℕ) → changes s v ≤ g.changes) → (v : ℕ) → changes (run g s es) v ≤ g.changes
few_run g [] s all = all
few_run g (e ∷ es) s all = few_run g es (step g s e) (few_step g s all e)

-- none has more than a transaction makes
few_changes : (g : Opening) (es : List Event) (v : ℕ) → changes (state_after g es) v ≤ g.changes
few_changes g es = few_run g es (start g) (λ v. omega arith)

at_own : (f : ℕ → Worker) (v : ℕ) (a : Worker) (w : ℕ) → v ≡ w → length (upd f v a w).changes ≡ length a.changes
at_own f v a w same = ap (λ (x : Worker). length x.changes) (upd_same f v a w (sym same))

-- a put-back leaves one fewer
put_less : (g : Opening) (s : State) (v w p : ℕ) → v ≡ w → may g s (Event.Put_back v p) ≡ true → suc (changes (step g s (Event.Put_back v p)) w) ≤ changes s w
put_less g s v w p same met = go (s.worker v).changes refl
  where
    may_back : may_put_back g (s.page p).node p (s.worker v).changes ≡ true
    may_back = (and_parts (s.worker v).is_open (may_put_back g (s.page p).node p (s.worker v).changes) (and_parts (are_hot s (pages_of (Event.Put_back v p))) (needs g s (Event.Put_back v p)) met).1).1

    now : (cs : List Entry) → (s.worker v).changes ≡ cs → changes (step g s (Event.Put_back v p)) w ≡ changes (put_back g s v p cs) w
    now cs e = ap (λ (t : State). changes t w) (cond-true (may g s (Event.Put_back v p)) (happens g s (Event.Put_back v p)) s met) ∙ ap (λ (l : List Entry). changes (put_back g s v p l) w) e

    go : (cs : List Entry) → (s.worker v).changes ≡ cs → suc (changes (step g s (Event.Put_back v p)) w) ≤ changes s w
    go [] e = absurd (true≢false (sym may_back ∙ ap (λ (l : List Entry). may_put_back g (s.page p).node p l) e))
    go (c ∷ cs) e =
        let a = now (c ∷ cs) e in
        let b : changes (put_back g s v p (c ∷ cs)) w ≡ length cs = at_own s.worker v _ w same in
        let d = ap (λ (l : List Entry). length l) e in
        let f = ap (λ (i : ℕ). changes s i) same in
        omega (arith, a, b, d, f)

-- what is no step and no change of the tree leaves them
same_happens : (g : Opening) (s : State) (w : ℕ) (e : Event) → is_step e ≡ false → is_structure e ≡ false → changes (happens g s e) w ≡ changes s w
same_happens g s w (Event.Begin v f) a b = absurd (true≢false a)
same_happens g s w (Event.Lock v i mode) a b = absurd (true≢false a)
same_happens g s w (Event.Read v p k x) a b = absurd (true≢false a)
same_happens g s w (Event.Next v p k x) a b = absurd (true≢false a)
same_happens g s w (Event.Change v p k x) a b = absurd (true≢false a)
same_happens g s w (Event.Put_back v p) a b = absurd (true≢false a)
same_happens g s w (Event.End v commit f) a b = absurd (true≢false a)
same_happens g s w (Event.Unlock v i) a b = absurd (true≢false a)
same_happens g s w (Event.Split v l r q i) a b = absurd (true≢false b)
same_happens g s w (Event.Lift v c) a b = absurd (true≢false b)
same_happens g s w (Event.Join v l r q) a b = absurd (true≢false b)
same_happens g s w (Event.Drop v c) a b = absurd (true≢false b)
same_happens g s w (Event.Purge v p keys) a b = absurd (true≢false b)
same_happens g s w _ a b = refl

same_step : (g : Opening) (s : State) (w : ℕ) (e : Event) → is_step e ≡ false → is_structure e ≡ false → changes (step g s e) w ≡ changes s w
same_step g s w e a b = go (may g s e)
  where
    go : (c : Bool) → changes (cond c (happens g s e) s) w ≡ changes s w
    go true = same_happens g s w e a b
    go false = refl

-- ## What is drawn and written

record IsStill (es : List Event) : Type 0 where
  draw : draws es ≡ 0
  write : writes es ≡ 0

still_none : (es : List Event) → es ≡ [] → IsStill es
still_none es e = record { draw = ap draws e; write = ap writes e }

-- where the tree is not changed, its session's steps alone draw and write
of_steps : (es : List Event) → any is_structure es ≡ false → (draws es ≡ draws (keep is_step es)) × (writes es ≡ writes (keep is_step es))
of_steps [] none = (refl, refl)
of_steps (Event.Split w l r q i ∷ es) none = absurd (true≢false none)
of_steps (Event.Lift w c ∷ es) none = absurd (true≢false none)
of_steps (Event.Join w l r q ∷ es) none = absurd (true≢false none)
of_steps (Event.Drop w c ∷ es) none = absurd (true≢false none)
of_steps (Event.Purge w p keys ∷ es) none = absurd (true≢false none)
of_steps (e ∷ es) none = let h = of_steps es none in let a = h.0 in let b = h.1 in (omega arith, omega arith)

still_steps : (es : List Event) → any is_structure es ≡ false → IsStill (keep is_step es) → IsStill es
still_steps es none t = let a = of_steps es none in record { draw = a.0 ∙ t.draw; write = a.1 ∙ t.write }

-- one more that draws none
same_still : (e : Event) (es : List Event) → draws_one e ≡ false → written_in e ≡ [] → IsStill es → IsStill (e ∷ es)
same_still e es none empty t = record {
  draw = ap (λ (b : Bool). length (cond b (e ∷ keep draws_one es) (keep draws_one es))) none ∙ t.draw;
  write = let a = ap (λ (l : List ℕ). length l) empty in let b = t.write in omega arith;
}

unlocks_still : (w : ℕ) (es : List Event) → Unlocks w es → IsStill es
unlocks_still w [] h = record { draw = refl; write = refl }
unlocks_still w (Event.Unlock v i ∷ es) h = same_still (Event.Unlock v i) es refl refl (unlocks_still w es h.1)
unlocks_still w (_ ∷ es) h = absurd h

walks_still : (w at : ℕ) (es : List Event) (P : ℕ → Type 0) → Walks w at es P → IsStill es
walks_still w at [] P h = record { draw = refl; write = refl }
walks_still w at (Event.Lock v i Mode.Shared ∷ es) P h = same_still (Event.Lock v i Mode.Shared) es refl refl (walks_still w at es P h.1)
walks_still w at (Event.Next v p k (MapAnswer.Pair j x) ∷ es) P h = same_still (Event.Next v p k (MapAnswer.Pair j x)) es refl refl (walks_still w (suc j) es P h.2)
walks_still w at (Event.Next v p k (MapAnswer.Gap i) ∷ es) P h = same_still (Event.Next v p k (MapAnswer.Gap i)) es refl refl (walks_still w i es P h.2)
walks_still w at (_ ∷ es) P h = absurd h

-- Put-backs, with an end and the rows behind them, or not.
abbrev AreBacks : ℕ → List Event → Type 0
AreBacks w [] = Unit {0}
AreBacks w (Event.Put_back v p ∷ es) = (v ≡ w) × AreBacks w es
AreBacks w (Event.End v commit f ∷ es) = Unlocks w es
AreBacks w _ = ⊥

undoes_backs : (w : ℕ) (es : List Event) → Undoes w es → AreBacks w es
undoes_backs w (Event.Put_back v p ∷ es) h = (h.0, undoes_backs w es h.1)
undoes_backs w (Event.End v false f ∷ es) h = h.1
undoes_backs w (Event.End v true f ∷ es) h = absurd h
undoes_backs w [] h = absurd h
undoes_backs w (_ ∷ es) h = absurd h

puts_backs : (w : ℕ) (es : List Event) → PutsBack w es → AreBacks w es
puts_backs w [] h = tt
puts_backs w (Event.Put_back v p ∷ es) h = (h.0, puts_backs w es h.1)
puts_backs w (_ ∷ es) h = absurd h

-- so few are drawn by them
backs_few : (g : Opening) (w : ℕ) (es : List Event) (s : State) → AllMet g s es → any is_structure es ≡ false → AreBacks w (keep is_step es) → (draws es ≤ suc (changes s w)) × (writes es ≤ changes s w)
backs_few g w [] s met none h = (omega arith, omega arith)
backs_few g w (Event.Put_back v p ∷ es) s met none h =
    let r = backs_few g w es (step g s (Event.Put_back v p)) met.1 none h.1 in
    let a = r.0 in let b = r.1 in let c = put_less g s v w p h.0 met.0 in
    (omega arith, omega arith)
backs_few g w (Event.End v commit f ∷ es) s met none h = let t = still_steps es none (unlocks_still w (keep is_step es) h) in let a = t.draw in let b = t.write in (omega arith, omega arith)
backs_few g w (Event.Begin v f ∷ es) s met none h = absurd h
backs_few g w (Event.Lock v i mode ∷ es) s met none h = absurd h
backs_few g w (Event.Read v p k x ∷ es) s met none h = absurd h
backs_few g w (Event.Next v p k x ∷ es) s met none h = absurd h
backs_few g w (Event.Change v p k x ∷ es) s met none h = absurd h
backs_few g w (Event.Unlock v i ∷ es) s met none h = absurd h
backs_few g w (Event.Split v l r q i ∷ es) s met none h = absurd (true≢false none)
backs_few g w (Event.Lift v c ∷ es) s met none h = absurd (true≢false none)
backs_few g w (Event.Join v l r q ∷ es) s met none h = absurd (true≢false none)
backs_few g w (Event.Drop v c ∷ es) s met none h = absurd (true≢false none)
backs_few g w (Event.Purge v p keys ∷ es) s met none h = absurd (true≢false none)
backs_few g w (e ∷ es) s met none h =
    let r = backs_few g w es (step g s e) met.1 none h in
    let a = r.0 in let b = r.1 in let c = same_step g s w e refl refl in
    (omega arith, omega arith)

-- ## Masters

-- where whole syncs stand alone there are no cuts
masters_are : (P : State → Type 0) (g : Opening) (es : List Event) (s : State) (b : Bool) → SyncsWhere P g s b es → masters es ≡ syncs es
masters_are P g [] s b x = refl
masters_are P g (Event.Cut z heads ∷ es) s false x = absurd x
masters_are P g (Event.Cut z heads ∷ es) s true x = absurd x
masters_are P g (Event.Flush w n ∷ es) s false x = masters_are P g es (step g s (Event.Flush w n)) true x.1
masters_are P g (Event.Flush w n ∷ es) s true x = masters_are P g es (step g s (Event.Flush w n)) true x
masters_are P g (Event.Sync n ∷ es) s false x = ap suc (masters_are P g es (step g s (Event.Sync n)) false x.1)
masters_are P g (Event.Sync n ∷ es) s true x = ap suc (masters_are P g es (step g s (Event.Sync n)) false x)
masters_are P g (e ∷ es) s false x = masters_are P g es (step g s e) false x
masters_are P g (e ∷ es) s true x = absurd x

-- a scan that is refused, or the abort behind it, comes to some page
yet_scan : (g : Opening) (from to : ℕ) (why : Refusal) (t : State) → IsPressedYet g (call.Scan from to) why t → IsTightSomewhere g t
yet_scan g from to refusal.TooTall t x = x
yet_scan g from to refusal.NoPages t x = x
yet_scan g from to refusal.ClockSpent t x = x
yet_scan g from to refusal.RowSpent t x = x
yet_scan g from to (refusal.Conflict h) t x = x
yet_scan g from to _ t x = absurd x

yet_abort : (g : Opening) (why : Refusal) (t : State) → IsPressedYet g call.Abort why t → IsTightSomewhere g t
yet_abort g refusal.TooTall t x = x
yet_abort g refusal.NoPages t x = x
yet_abort g refusal.ClockSpent t x = x
yet_abort g refusal.RowSpent t x = x
yet_abort g _ t x = absurd x

-- ## The deed

-- behind a call that met a conflict an abort is due, and else what is asked
due_is : (xs : List Outcome) (c : Call) → (call_behind xs c ≡ c) ⊎ (call_behind xs c ≡ call.Abort)
due_is [] c = inl refl
due_is (y ∷ xs) c = go (hindered_in y.deed)
  where
    go : (o : Option Call) → (due_call o c ≡ c) ⊎ (due_call o c ≡ call.Abort)
    go None = inl refl
    go (Some h) = inr refl

-- where it is a step of the scan none is aborted
not_aborted : (xs : List Outcome) (x : Outcome) (from to : ℕ) → asked x.deed ≡ call.Scan from to → call_behind xs (asked x.deed) ≡ asked x.deed → FollowsConflict xs x → IsAnAbort x.deed
not_aborted [] x from to is own f = f
not_aborted (y ∷ xs) x from to is own f = go (hindered_in y.deed) own f
  where
    go : (o : Option Call) → due_call o (asked x.deed) ≡ asked x.deed → IsBehind o y.session x → IsAnAbort x.deed
    go None own f = f
    go (Some h) own f = absurd (differ (own ∙ is))
      where
        differ : call.Abort ≡ call.Scan from to → ⊥
        differ e = cc

module _ (l : Limits) (g : Opening) (group w from to : ℕ) (xs : List Done) (us : List Unsaid) (es : List Event) where
  abbrev ks : List Event
  ks = keep is_step es

  abbrev s : State
  s = state_after g (front xs)

  tries_scan : (why : Refusal) → Tries g w (outcomes xs) (call.Scan from to) why ks → IsStill ks
  tries_scan (refusal.Conflict h) t = walks_still w _ ks _ t
  tries_scan refusal.RowSpent t = walks_still w _ ks _ t
  tries_scan _ t = still_none ks t

  tries_abort : (why : Refusal) → Tries g w (outcomes xs) call.Abort why ks → AreBacks w ks
  tries_abort refusal.RowSpent t = puts_backs w ks t
  tries_abort _ t = subst (AreBacks w) (sym t) tt

  -- its steps: those of a walk, or of an abort
  steps : (d : Deed) → asked d ≡ call.Scan from to → Goes l g w (outcomes xs) us d ks → IsStill ks ⊎ AreBacks w ks
  steps (Met a b k v alone) is go = inl (walks_still w _ ks _ go.3)
  steps (Paused a b k) is go = inl (still_none ks go.1)
  steps (Over a b) is go = inl (walks_still w _ ks _ go.2)
  steps (Aborted c n at backs) is go = inr (undoes_backs w ks go.1)
  steps (Refused c why backs) is go = ⊎_elim
      (λ own. inl (tries_scan why (subst (λ (d : Call). Tries g w (outcomes xs) d why ks) (own ∙ is) go.2)))
      (λ abort. inr (tries_abort why (subst (λ (d : Call). Tries g w (outcomes xs) d why ks) abort go.2)))
      (due_is (outcomes xs) c)
  steps _ is go = absurd (cc)

  steps_own : (d : Deed) → asked d ≡ call.Scan from to → IsAnAbort d → call_behind (outcomes xs) (asked d) ≡ asked d → Goes l g w (outcomes xs) us d ks → IsStill ks
  steps_own (Met a b k v alone) is whole own go = walks_still w _ ks _ go.3
  steps_own (Paused a b k) is whole own go = still_none ks go.1
  steps_own (Over a b) is whole own go = walks_still w _ ks _ go.2
  steps_own (Aborted c n at backs) is whole own go = absurd (differ (sym whole ∙ is))
    where
      differ : call.Abort ≡ call.Scan from to → ⊥
      differ e = cc
  steps_own (Refused c why backs) is whole own go = tries_scan why (subst (λ (d : Call). Tries g w (outcomes xs) d why ks) (own ∙ is) go.2)
  steps_own _ is whole own go = absurd (cc)

  -- it changes nothing of the tree
  no_change : (d : Deed) → asked d ≡ call.Scan from to → is_change d ≡ false
  no_change (Refused c why backs) is = subst (λ (d : Call). Rattle.core_calls.specs.Steps.is_change_call d && Rattle.core_calls.specs.Steps.is_behind_row why ≡ false) (sym is) refl
  no_change (Met a b k v alone) is = refl
  no_change (Paused a b k) is = refl
  no_change (Over a b) is = refl
  no_change (Aborted c n at backs) is = refl
  no_change _ is = absurd (cc)

  -- syncs stand where a page finds no frame
  logs : (d : Deed) → asked d ≡ call.Scan from to → LogsGo l g group xs w d es → SyncsWhere (IsTightSomewhere g) g s false es
  logs (Met a b k v alone) is x = x
  logs (Paused a b k) is x = x
  logs (Over a b) is x = x
  logs (Aborted c n at backs) is x = x
  logs (Refused c why backs) is x = refused (subst (λ (d : Call). Rattle.core_calls.specs.LogEvents.RefusedLogs l g xs w d why es) is x)
    where
      refused : SyncsWhere (IsPressedYet g (call_behind (outcomes xs) (call.Scan from to)) why) g s false es → SyncsWhere (IsTightSomewhere g) g s false es
      refused x = ⊎_elim
          (λ own. syncs_weaker (IsPressedYet g (call_behind (outcomes xs) (call.Scan from to)) why) (IsTightSomewhere g) (λ t p. yet_scan g from to why t (subst (λ (d : Call). IsPressedYet g d why t) own p)) g es s false x)
          (λ abort. syncs_weaker (IsPressedYet g (call_behind (outcomes xs) (call.Scan from to)) why) (IsTightSomewhere g) (λ t p. yet_abort g why t (subst (λ (d : Call). IsPressedYet g d why t) abort p)) g es s false x)
          (due_is (outcomes xs) (call.Scan from to))
  logs _ is x = absurd (cc)

pub every_scan_count : EverySyncCount → EveryScanCount
every_scan_count counts l g group xs x from to frames changes t is = record { step = step_takes; few = few }
  where
    w : ℕ
    w = x.outcome.session

    s : State
    s = state_after g (front xs)

    none : any is_structure x.events ≡ false
    none = t.structure (no_change l g group w from to xs x.outcome.unsaid x.events x.outcome.deed is)

    stand : SyncsWhere (IsTightSomewhere g) g s false x.events
    stand = logs l g group w from to xs x.outcome.unsaid x.events x.outcome.deed is t.logs

    are : masters x.events ≡ syncs x.events
    are = masters_are (IsTightSomewhere g) g x.events s false stand

    still_takes : IsStill x.events → (draws x.events ≡ 0) × (masters x.events ≤ 1)
    still_takes q =
        let a = (counts g (front xs) x.events).count 24 frames t.met stand in
        let b = q.write in let c = are in
        (q.draw, omega arith)

    step_takes : call_behind (outcomes xs) (asked x.outcome.deed) ≡ asked x.outcome.deed → (draws x.events ≡ 0) × (masters x.events ≤ 1)
    step_takes own = still_takes (still_steps x.events none (steps_own l g group w from to xs x.outcome.unsaid x.events x.outcome.deed is (not_aborted (outcomes xs) x.outcome from to is own t.hindered) own t.steps))

    few : (draws x.events ≤ suc g.changes) × (masters x.events ≤ 3)
    few = ⊎_elim
        (λ q. let r = still_takes (still_steps x.events none q) in let a = r.0 in let b = r.1 in (omega arith, omega arith))
        (λ q.
        let r = backs_few g w x.events s t.met none q in let a = r.0 in let b = r.1 in
        let c = few_changes g (front xs) w in let d = changes in
        let e = (counts g (front xs) x.events).abort frames t.met stand (omega (arith, b, c, d)) in
        let f = are in
        (omega (arith, a, c), omega (arith, e, f)))
        (steps l g group w from to xs x.outcome.unsaid x.events x.outcome.deed is t.steps)
