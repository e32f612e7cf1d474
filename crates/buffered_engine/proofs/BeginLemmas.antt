-- Behind a begin that makes a sync no end waits.
use Rattle.std.proofs.Common.{◌≡◌, ◌≤◌, inl, inr, ℕ, Bool, true, false, cond, ◌&&◌, ◌||◌, ◌==◌, not, leb, List, [], ◌∷◌, ◌++◌, length, refl, sym, ap, ◌∙◌, subst, arith, true≢false}
use Rattle.std.proofs.lemmas.Bool.{and_from, and_parts, and_right, cases_Bool, cond-true, eqb-true, le-leb}
use Rattle.std.proofs.lemmas.List.{append_assoc}
use Rattle.map_model.specs.Lists.{Has, any, keep}
use Rattle.paged_scans.specs.image_model.Entries.{Entry, is_end}
use Rattle.rfa_model.specs.Reaches.{least}
use Rattle.paged_scans.specs.core_state.Lists.{most}
use Rattle.paged_scans.specs.core_state.Openings.{Opening}
use Rattle.paged_scans.specs.core_state.States.{State, start, flushed_by_all}
use Rattle.paged_scans.specs.core_state.Events.{Event}
use Rattle.paged_scans.specs.core_state.Needs.{is_behind, may, needs}
use Rattle.paged_scans.specs.core_state.Steps.{AllMet, happens, run, state_after, synced}
use Rattle.paged_scans.proofs.core_state.Runs.{met_more, run_more}
use Rattle.paged_scans.proofs.core_commit.Controls.{le_most}
use Rattle.paged_scans.proofs.core_commit.History.{Recorded}
use Rattle.paged_scans.proofs.core_commit.Invariants.{Inv}
use Rattle.paged_scans.proofs.core_commit.Lists.{Before, le_least}
use Rattle.paged_scans.proofs.core_commit.Runs.{good_run, good_start}
use Rattle.paged_scans.proofs.core_calls.DurableLemmas.{entered}
use Rattle.paged_scans.specs.core_calls.Deeds.{Begun, Deed}
use Rattle.paged_scans.specs.core_calls.Fronts.{Done, front, outcomes}
use Rattle.paged_scans.specs.core_calls.LogEvents.{IsSync, LogsGo, PreparesBy, is_log}
use Rattle.paged_scans.specs.core_calls.Refusals.{waiting}
use Rattle.paged_scans.specs.core_calls.Runs.{Tells}
use Rattle.paged_scans.specs.core_calls.Steps.{Goes, is_step}
use Rattle.paged_scans.specs.engine_trait.Limits.{limits}
use Rattle.group_commit.proofs.EventLemmas.{quiet_run, same_ends}
use Rattle.group_commit.proofs.ListLemmas.{keep_none}
use Rattle.group_commit.proofs.OutcomeEvents.{flushed_run, no_end}
use Rattle.group_commit.specs.Tracks.{is_ending}

-- ## The last that passes

record Last {A : Type 0} (p : A → Bool) (es : List A) (y : A) : Type 0 where
  pub before : List A
  pub after : List A
  pub is : es ≡ before ++ y ∷ after
  pub none : any p after ≡ false

or_none : (a b : Bool) → a ≡ false → b ≡ false → (a || b) ≡ false
or_none a b p q = ap (λ (x : Bool). x || b) p ∙ q

none_kept : {A : Type 0} (p : A → Bool) (es : List A) → keep p es ≡ [] → any p es ≡ false
none_kept p [] q = refl
none_kept {A} p (e ∷ es) q = go (λ k. none_kept p es k) (p e) refl q
  where
    go : (keep p es ≡ [] → any p es ≡ false) → (b : Bool) → p e ≡ b → cond b (e ∷ keep p es) (keep p es) ≡ [] → (p e || any p es) ≡ false
    go ih true r k = absurd (cc)
    go ih false r k = or_none (p e) (any p es) r (ih k)

last_in : {A : Type 0} (p : A → Bool) (es fs : List A) (y : A) → keep p es ≡ fs ++ y ∷ [] → Last p es y
last_in p [] [] y q = absurd (cc)
last_in p [] (f ∷ fs) y q = absurd (cc)
last_in {A} p (e ∷ es) fs y q = go (λ fs k. last_in p es fs y k) (p e) fs q
  where
    more : Last p es y → Last p (e ∷ es) y
    more l = record { before = e ∷ l.before; after = l.after; is = ap (λ (xs : List A). e ∷ xs) l.is; none = l.none }

    go : ((fs : List A) → keep p es ≡ fs ++ y ∷ [] → Last p es y) → (b : Bool) (fs : List A) → cond b (e ∷ keep p es) (keep p es) ≡ fs ++ y ∷ [] → Last p (e ∷ es) y
    go ih true [] k = record { before = []; after = es; is = ap (λ (x : A). x ∷ es) (first k); none = none_kept p es (rest k) }
      where
        first : ◌≡◌ {A = List A} (e ∷ keep p es) (y ∷ []) → e ≡ y
        first r = cc

        rest : ◌≡◌ {A = List A} (e ∷ keep p es) (y ∷ []) → keep p es ≡ []
        rest r = cc
    go ih true (f ∷ fs) k = more (ih fs (rest k))
      where
        rest : ◌≡◌ {A = List A} (e ∷ keep p es) (f ∷ (fs ++ y ∷ [])) → keep p es ≡ fs ++ y ∷ []
        rest r = cc
    go ih false fs k = more (ih fs k)

-- ## A sync

-- each end is numbered up to it, and so is what it needs
record Under (n : ℕ) (e : Entry) : Type 0 where
  pub number : e.number ≤ n
  pub need : e.need ≤ n

under_sync : (g : Opening) (es : List Event) (n : ℕ) → may g (state_after g es) (Event.Sync n) ≡ true → (e : Entry) → Has e (state_after g es).entries → is_end e.kind ≡ true → Under n e
under_sync g es n m e i k = record { number = number; need = need }
  where
    inv : Inv g (run g (start g) es)
    inv = (good_run g es (start g) (good_start g)).inv

    is : n ≡ most (λ w. ((run g (start g) es).worker w).clock) g.workers
    is = eqb-true n (most (λ w. ((run g (start g) es).worker w).clock) g.workers) (and_parts (n == most (λ w. ((run g (start g) es).worker w).clock) g.workers) (not (is_behind (run g (start g) es))) (and_parts true (needs g (run g (start g) es) (Event.Sync n)) m).1).0

    own : (b : List Entry) × Before e b (run g (start g) es).entries × Recorded g (flushed_by_all g (run g (start g) es)) e b
    own = entered g es e i

    number : e.number ≤ n
    number = let c = is in let a = ((inv.workers e.log).numbers e i refl).0 in let b = le_most (λ w. ((run g (start g) es).worker w).clock) g.workers e.log own.2.log in omega arith

    need : e.need ≤ n
    need = let a = (own.2.closes k).need in let b = number in omega arith

-- behind it and events that end nothing and touch no log, no end waits
none_wait : (g : Opening) (es more : List Event) (n w : ℕ) → may g (state_after g es) (Event.Sync n) ≡ true → any is_ending more ≡ false → any is_log more ≡ false → waiting g (run g (synced (state_after g es) n) more) w ≡ 0
none_wait g es more n w m quiet still = ap length (keep_none passes t.entries none)
  where
    t : State
    t = run g (synced (state_after g es) n) more

    passes : Entry → Bool
    passes e = is_end e.kind && ((e.log == w) && not (leb e.number (t.flushed w) && leb e.need (flushed_by_all g t)))

    flushed : t.flushed ≡ (λ (v : ℕ). n)
    flushed = flushed_run g more (synced (state_after g es) n) still

    enough : n ≤ flushed_by_all g t
    enough = subst (λ (f : ℕ → ℕ). n ≤ least f g.workers) (sym flushed) (le_least (λ _. n) g.workers n g.some_worker (λ v l. omega arith))

    ripe : (e : Entry) → Under n e → (leb e.number (t.flushed w) && leb e.need (flushed_by_all g t)) ≡ true
    ripe e u = let a = u.number in let b = u.need in let c = enough in let d = ap (λ (f : ℕ → ℕ). f w) flushed in
        and_from (leb e.number (t.flushed w)) (leb e.need (flushed_by_all g t)) (le-leb e.number (t.flushed w) (omega arith)) (le-leb e.need (flushed_by_all g t) (omega arith))

    none : (e : Entry) → Has e t.entries → passes e ≡ false
    none e i = elim (cases_Bool (is_end e.kind)) [
      | inl k ↦ and_right (is_end e.kind) ((e.log == w) && not (leb e.number (t.flushed w) && leb e.need (flushed_by_all g t)))
          (and_right (e.log == w) (not (leb e.number (t.flushed w) && leb e.need (flushed_by_all g t)))
          (ap not (ripe e (under_sync g es n m e (same_ends t.entries (state_after g es).entries (quiet_run g more (synced (state_after g es) n) quiet) e i k) k))))
      | inr k ↦ ap (λ (b : Bool). b && ((e.log == w) && not (leb e.number (t.flushed w) && leb e.need (flushed_by_all g t)))) k
    ]

-- ## A begin

any_right : {A : Type 0} (p : A → Bool) (a b : List A) → any p (a ++ b) ≡ false → any p b ≡ false
any_right p [] b q = q
any_right p (x ∷ a) b q = any_right p a b (right (p x) (any p (a ++ b)) q)
  where
    right : (s t : Bool) → (s || t) ≡ false → t ≡ false
    right true t e = absurd (true≢false e)
    right false t e = e

pub none_wait_behind : (g : Opening) (group : ℕ) (xs : List Done) (x : Done) (n : ℕ) → Tells limits g group xs x → x.outcome.deed ≡ Begun n → leb 256 (waiting g (state_after g (front xs)) x.outcome.session) ≡ true
    → (w : ℕ) → waiting g (state_after g (front (x ∷ xs))) w ≡ 0
none_wait_behind g group xs x n t deed long w = ap (λ (s : State). waiting g s w) state ∙ none_wait g (front xs ++ l.before) l.after sync.0 w met quiet l.none
  where
    logs : LogsGo limits g group xs x.outcome.session (Begun n) x.events
    logs = subst (λ (d : Deed). LogsGo limits g group xs x.outcome.session d x.events) deed t.logs

    sync : (m : ℕ) × IsSync m (keep is_log x.events)
    sync = subst (λ (b : Bool). PreparesBy false b (keep is_log x.events)) long logs.4

    l : Last is_log x.events (Event.Sync sync.0)
    l = last_in is_log x.events sync.1.0 (Event.Sync sync.0) sync.1.1

    goes : Goes limits g x.outcome.session (outcomes xs) x.outcome.unsaid (Begun n) (keep is_step x.events)
    goes = subst (λ (d : Deed). Goes limits g x.outcome.session (outcomes xs) x.outcome.unsaid d (keep is_step x.events)) deed t.steps

    ends_none : any is_ending x.events ≡ false
    ends_none = no_end x.events (ap (any is_ending) goes.2)

    quiet : any is_ending l.after ≡ false
    quiet = any_right is_ending (l.before ++ Event.Sync sync.0 ∷ []) l.after (ap (any is_ending) (append_assoc l.before (Event.Sync sync.0 ∷ []) l.after ∙ sym l.is) ∙ ends_none)

    here : state_after g (front xs ++ l.before) ≡ run g (state_after g (front xs)) l.before
    here = run_more g (start g) (front xs) l.before

    met : may g (state_after g (front xs ++ l.before)) (Event.Sync sync.0) ≡ true
    met = subst (λ (s : State). may g s (Event.Sync sync.0) ≡ true) (sym here)
        (met_more g (state_after g (front xs)) l.before (Event.Sync sync.0 ∷ l.after) (subst (λ (es : List Event). AllMet g (state_after g (front xs)) es) l.is t.met)).0

    state : state_after g (front (x ∷ xs)) ≡ run g (synced (state_after g (front xs ++ l.before)) sync.0) l.after
    state = ap (λ (es : List Event). state_after g (front xs ++ es)) l.is
        ∙ (ap (state_after g) (sym (append_assoc (front xs) l.before (Event.Sync sync.0 ∷ l.after)))
        ∙ (run_more g (start g) (front xs ++ l.before) (Event.Sync sync.0 ∷ l.after)
        ∙ ap (λ (s : State). run g s l.after) (cond-true (may g (state_after g (front xs ++ l.before)) (Event.Sync sync.0)) (happens g (state_after g (front xs ++ l.before)) (Event.Sync sync.0)) (state_after g (front xs ++ l.before)) met)))
