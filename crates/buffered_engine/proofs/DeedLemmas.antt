-- What the answer of an outcome says: what may be asked next, whether a transaction was open, and whether it ended.
use Rattle.std.proofs.Common.{◌≡◌, ◌^◌, inl, inr, ℕ, Bool, true, false, cond, List, [], ◌∷◌, Option, Some, None, leb, refl, sym, ap, ◌∙◌, subst, true≢false, Ok}
use Rattle.std.proofs.lemmas.Bool.{cases_Bool}
use Rattle.map_model.specs.Pairings.{is_last}
use Rattle.map_model.specs.declared.call.Answer.{Answer}
use Rattle.map_model.specs.declared.call.Answer.TheVariants as answer
use Rattle.map_model.specs.declared.call.Call.{Call}
use Rattle.map_model.specs.declared.call.Call.TheVariants as call
use Rattle.map_model.specs.declared.call.Refusal.{Refusal}
use Rattle.map_model.specs.declared.call.Refusal.TheVariants as refusal
use Rattle.paged_scans.specs.core_state.Openings.{Opening}
use Rattle.paged_scans.specs.core_state.States.{State}
use Rattle.paged_scans.specs.core_state.Steps.{state_after}
use Rattle.paged_scans.specs.core_calls.Deeds.{Aborted, Absent, Begun, Changed, Checkpointed, Committed, Deed, Deleted, Got, Met, Outcome, Over, Paused, Refused, Synced, answered, asked}
use Rattle.paged_scans.specs.core_calls.Fronts.{Done, front, outcomes}
use Rattle.paged_scans.specs.core_calls.Runs.{Tells}
use Rattle.paged_scans.specs.core_calls.Steps.{FollowsConflict, IsAnAbort, IsBehind, call_behind, due_call, hindered_in}
use Rattle.paged_scans.specs.worker_log.Logs.{Log, limit, used}
use Rattle.paged_scans.specs.call_parts.Deeds.{Answers}
use Rattle.paged_scans.specs.engine_trait.Calls.{HasCome, is_half_done}
use Rattle.paged_scans.specs.engine_trait.Limits.{limits}
use Rattle.paged_scans.specs.engine_trait.Refusals.{IsMetOnWay, in_transaction, log_refusal, refusal_in}
use Rattle.engine_front.specs.Turns.{IsNext, behind_answer, behind_last, is_conflict_in}
use Rattle.group_commit.specs.Outcomes.{ends_by}
use Rattle.buffered_engine.specs.Inside.Asks.{ends_in, is_commit_in}
use Rattle.buffered_engine.specs.States.{IsSettled, WhereDue, WhereScanning}
use Rattle.buffered_engine.proofs.OpenMarks.{open_after, open_own}

-- ## What may be asked next

next_of : (n : ℕ) (x : Done) (xs : List Done) (d : Deed) → x.outcome.deed ≡ d → HasCome n (answered d) → IsNext (behind_answer (answered d)) (x ∷ xs)
next_of n x xs (Met from to k v alone) e m = record { newest = x; earlier = xs; are = refl; from = from; to = to; asked_is = ap asked e; more = ap (λ (d : Deed). is_last (answered d)) e; hindered = ap hindered_in e }
next_of n x xs (Checkpointed at) e m = absurd m
next_of n x xs (Refused c (refusal.Conflict h) backs) e m = record { newest = x; earlier = xs; are = refl; hindered = c; is = ap hindered_in e }
next_of n x xs (Refused c why backs) e m = (ap hindered_in e, ap (λ (d : Deed). is_last (answered d)) e)
next_of n x xs d e m = (ap hindered_in e, ap (λ (d : Deed). is_last (answered d)) e)

pub next_behind : (n : ℕ) (x : Done) (xs : List Done) (a : Answer) → answered x.outcome.deed ≡ a → HasCome n a → IsNext (behind_answer a) (x ∷ xs)
next_behind n x xs a e m = subst (λ (b : Answer). IsNext (behind_answer b) (x ∷ xs)) e (next_of n x xs x.outcome.deed refl (subst (HasCome n) (sym e) m))

pub due_behind : (a : Answer) (P : Type 0) → (is_conflict_in a ≡ true → P) → WhereDue (behind_answer a) P
due_behind (answer.Pair key value) P h = tt
due_behind a P h = go (is_conflict_in a) refl
  where
    go : (b : Bool) → is_conflict_in a ≡ b → WhereDue (behind_last b) P
    go true e = h e
    go false e = tt

pub scanning_behind : (a : Answer) (P : Type 0) → ((key value : ℕ) → a ≡ answer.Pair key value → P) → WhereScanning (behind_answer a) P
scanning_behind (answer.Pair key value) P h = h key value refl
scanning_behind a P h = go (is_conflict_in a)
  where
    go : (b : Bool) → WhereScanning (behind_last b) P
    go true = tt
    go false = tt

pub unsettled : (a : Answer) (P : Type 0) → IsSettled (behind_answer a) P
unsettled (answer.Pair key value) P = tt
unsettled a P = go (is_conflict_in a)
  where
    go : (b : Bool) → IsSettled (behind_last b) P
    go true = tt
    go false = tt

-- a further answer comes behind a conflict
pub conflict_more : (a : Answer) → is_conflict_in a ≡ true → is_last a ≡ false
conflict_more (answer.Refused (refusal.Conflict h)) e = refl
conflict_more (answer.Refused why) e = absurd (true≢false (sym e))
conflict_more a e = absurd (true≢false (sym e))

-- ## Ends

ended_of : (d : Deed) → ends_in (Ok (answered d)) ≡ true → ends_by d ≡ Some (is_commit_in (Ok (answered d)))
ended_of (Committed n at) e = refl
ended_of (Aborted c n at backs) e = refl
ended_of (Begun n) e = absurd (true≢false (sym e))
ended_of (Got k a alone) e = absurd (true≢false (sym e))
ended_of (Changed k v a) e = absurd (true≢false (sym e))
ended_of (Deleted k a) e = absurd (true≢false (sym e))
ended_of (Absent k) e = absurd (true≢false (sym e))
ended_of (Met from to k v alone) e = absurd (true≢false (sym e))
ended_of (Paused from to k) e = absurd (true≢false (sym e))
ended_of (Over from to) e = absurd (true≢false (sym e))
ended_of (Refused c why backs) e = absurd (true≢false (sym e))
ended_of (Synced at) e = absurd (true≢false (sym e))
ended_of (Checkpointed at) e = absurd (true≢false (sym e))

pub ended : (x : Done) (a : Answer) → answered x.outcome.deed ≡ a → ends_in (Ok a) ≡ true → ends_by x.outcome.deed ≡ Some (is_commit_in (Ok a))
ended x a is e = subst (λ (b : Answer). ends_in (Ok b) ≡ true → ends_by x.outcome.deed ≡ Some (is_commit_in (Ok b))) is (ended_of x.outcome.deed) e

unended_of : (d : Deed) → ends_in (Ok (answered d)) ≡ false → ends_by d ≡ None
unended_of (Committed n at) e = absurd (true≢false e)
unended_of (Aborted c n at backs) e = absurd (true≢false e)
unended_of d e = refl

pub unended : (x : Done) (a : Answer) → answered x.outcome.deed ≡ a → ends_in (Ok a) ≡ false → ends_by x.outcome.deed ≡ None
unended x a is e = subst (λ (b : Answer). ends_in (Ok b) ≡ false → ends_by x.outcome.deed ≡ None) is (unended_of x.outcome.deed) e

-- a deed begins a transaction, ends one, or does neither
pub data Sort (d : Deed) : Type 0 where
  Begins : (n : ℕ) → d ≡ Begun n → Sort d
  Ends : ends_in (Ok (answered d)) ≡ true → ((b : Bool) → open_after d b ≡ false) → Sort d
  Neither : ends_in (Ok (answered d)) ≡ false → ((b : Bool) → open_after d b ≡ b) → Sort d

pub sort : (d : Deed) → Sort d
sort (Begun n) = Begins n refl
sort (Committed n at) = Ends refl (λ b. refl)
sort (Aborted c n at backs) = Ends refl (λ b. refl)
sort d = Neither refl (λ b. refl)

-- ## Where a transaction is open

not_open : (s : State) (own : ℕ) (is_half_aborted : Bool) (later : Option Refusal) (h : ℕ) → in_transaction s own is_half_aborted later ≡ Some (refusal.Conflict h) → (s.worker own).is_open ≡ true
not_open s own true later h e = absurd (cc)
not_open s own false later h e = go (s.worker own).is_open e
  where
    go : (b : Bool) → cond b later (Some refusal.NoTransaction) ≡ Some (refusal.Conflict h) → b ≡ true
    go true q = refl
    go false q = absurd (cc)

no_begin : (s : State) (own : ℕ) (log : Log) (h : ℕ) → cond (s.worker own).is_open (Some refusal.InTransaction) (log_refusal (s.worker own).clock log None) ≡ Some (refusal.Conflict h) → (s.worker own).is_open ≡ true
no_begin s own log h e = go (s.worker own).is_open (leb (limit log) (used log)) (leb (2 ^ 62) (s.worker own).clock) e
  where
    go : (b c d : Bool) → cond b (Some refusal.InTransaction) (cond c (Some (refusal.LogFull (used log) (limit log))) (cond d (Some refusal.ClockSpent) None)) ≡ Some (refusal.Conflict h) → b ≡ true
    go true c d q = refl
    go false true d q = absurd (cc)
    go false false true q = absurd (cc)
    go false false false q = absurd (cc)

-- only a call in an open transaction meets a conflict
pub conflict_open : (g : Opening) (s : State) (own : ℕ) (is_half_aborted : Bool) (log : Log) (c : Call) (h : ℕ) → refusal_in g s own is_half_aborted log c ≡ Some (refusal.Conflict h) → (s.worker own).is_open ≡ true
conflict_open g s own is_half_aborted log call.Begin h e = no_begin s own log h e
conflict_open g s own is_half_aborted log (call.Get k) h e = not_open s own is_half_aborted _ h e
conflict_open g s own is_half_aborted log (call.Put k v) h e = not_open s own is_half_aborted _ h e
conflict_open g s own is_half_aborted log (call.Del k) h e = not_open s own is_half_aborted _ h e
conflict_open g s own is_half_aborted log (call.Scan from to) h e = not_open s own is_half_aborted _ h e
conflict_open g s own is_half_aborted log call.Commit h e = not_open s own is_half_aborted _ h e
conflict_open g s own is_half_aborted log call.Abort h e = not_open s own false _ h e
conflict_open g s own is_half_aborted log c h e = absurd (cc)

-- a commit and an abort are refused where none is open
shut : (s : State) (own : ℕ) (is_half_aborted : Bool) → (s.worker own).is_open ≡ false → in_transaction s own is_half_aborted None ≡ Some refusal.NoTransaction
shut s own true closed = refl
shut s own false closed = ap (λ (b : Bool). cond b None (Some refusal.NoTransaction)) closed

-- an end was asked as a commit or an abort
data IsEnding (c : Call) : Type 0 where
  Commits : c ≡ call.Commit → IsEnding c
  Aborts : c ≡ call.Abort → IsEnding c

ending_of : (ys : List Outcome) (x : Outcome) (d : Deed) → x.deed ≡ d → FollowsConflict ys x → ends_in (Ok (answered d)) ≡ true → IsEnding (call_behind ys (asked d))
ending_of [] x (Committed n at) e f k = Commits refl
ending_of [] x (Aborted c n at backs) e f k = Aborts (subst (λ (d : Deed). IsAnAbort d) e f)
ending_of (y ∷ earlier) x (Committed n at) e f k = go (hindered_in y.deed) f
  where
    go : (o : Option Call) → IsBehind o y.session x → IsEnding (due_call o call.Commit)
    go None b = Commits refl
    go (Some c) b = Aborts refl
ending_of (y ∷ earlier) x (Aborted c n at backs) e f k = go (hindered_in y.deed) f
  where
    go : (o : Option Call) → IsBehind o y.session x → IsEnding (due_call o c)
    go None b = Aborts (subst (λ (d : Deed). IsAnAbort d) e b)
    go (Some h) b = Aborts refl
ending_of ys x (Begun n) e f k = absurd (true≢false (sym k))
ending_of ys x (Got q a alone) e f k = absurd (true≢false (sym k))
ending_of ys x (Changed q v a) e f k = absurd (true≢false (sym k))
ending_of ys x (Deleted q a) e f k = absurd (true≢false (sym k))
ending_of ys x (Absent q) e f k = absurd (true≢false (sym k))
ending_of ys x (Met from to q v alone) e f k = absurd (true≢false (sym k))
ending_of ys x (Paused from to q) e f k = absurd (true≢false (sym k))
ending_of ys x (Over from to) e f k = absurd (true≢false (sym k))
ending_of ys x (Refused c why backs) e f k = absurd (true≢false (sym k))
ending_of ys x (Synced at) e f k = absurd (true≢false (sym k))
ending_of ys x (Checkpointed at) e f k = absurd (true≢false (sym k))

refused_shut : (g : Opening) (s : State) (own : ℕ) (is_half_aborted : Bool) (log : Log) (c : Call) → IsEnding c → (s.worker own).is_open ≡ false → refusal_in g s own is_half_aborted log c ≡ Some refusal.NoTransaction
refused_shut g s own is_half_aborted log c (Commits e) closed = ap (refusal_in g s own is_half_aborted log) e ∙ shut s own is_half_aborted closed
refused_shut g s own is_half_aborted log c (Aborts e) closed = ap (refusal_in g s own is_half_aborted log) e ∙ shut s own false closed

-- so what ended was open
pub end_open : (g : Opening) (xs : List Done) (x : Done) (was : Log) (h : Answers g xs x was) → FollowsConflict (outcomes xs) x.outcome → ends_in (Ok (answered x.outcome.deed)) ≡ true → ((state_after g (front xs)).worker x.outcome.session).is_open ≡ true
end_open g xs x was h f k = elim (cases_Bool ((state_after g (front xs)).worker x.outcome.session).is_open) [
  | inl e ↦ e
  | inr e ↦ absurd (elim (h.refuses refusal.NoTransaction tt (refused_shut g (state_after g (front xs)) x.outcome.session (is_half_done x.outcome.session xs) was (call_behind (outcomes xs) (asked x.outcome.deed)) (ending_of (outcomes xs) x.outcome x.outcome.deed refl f k) e)) [
    | inl q ↦ true≢false (sym k ∙ ap (λ (b : Answer). ends_in (Ok b)) q)
    | inr o ↦ elim o [
      | inl q ↦ true≢false (sym k ∙ ap (λ (b : Answer). ends_in (Ok b)) q)
      | inr q ↦ true≢false (sym k ∙ ap (λ (b : Answer). ends_in (Ok b)) q)
    ]
  ])
]

-- and where a conflict was met, one is
conflict_is : (a : Answer) → is_conflict_in a ≡ true → (h : ℕ) × (a ≡ answer.Refused (refusal.Conflict h))
conflict_is (answer.Refused (refusal.Conflict h)) e = (h, refl)
conflict_is (answer.Refused why) e = absurd (true≢false (sym e))
conflict_is a e = absurd (true≢false (sym e))

-- a scan is refused where none is open
met_shut : (g : Opening) (s : State) (own : ℕ) (is_half_aborted : Bool) (log : Log) (c : Call) (why : Refusal) → IsMetOnWay c why → (s.worker own).is_open ≡ false → refusal_in g s own is_half_aborted log c ≡ Some refusal.NoTransaction
met_shut g s own is_half_aborted log (call.Scan from to) (refusal.Conflict h) met closed = shut s own is_half_aborted closed
met_shut g s own is_half_aborted log c why met closed = absurd met

-- so one that met a conflict on its way was of an open transaction
met_open : (g : Opening) (xs : List Done) (x : Done) (was : Log) (h : Answers g xs x was) (why : Refusal) → IsMetOnWay (call_behind (outcomes xs) (asked x.outcome.deed)) why → is_conflict_in (answered x.outcome.deed) ≡ true
    → ((state_after g (front xs)).worker x.outcome.session).is_open ≡ true
met_open g xs x was h why met k = elim (cases_Bool ((state_after g (front xs)).worker x.outcome.session).is_open) [
  | inl e ↦ e
  | inr e ↦ absurd (elim (h.refuses refusal.NoTransaction tt (met_shut g (state_after g (front xs)) x.outcome.session (is_half_done x.outcome.session xs) was (call_behind (outcomes xs) (asked x.outcome.deed)) why met e)) [
    | inl q ↦ true≢false (sym k ∙ ap is_conflict_in q)
    | inr o ↦ elim o [
      | inl q ↦ true≢false (sym k ∙ ap is_conflict_in q)
      | inr q ↦ true≢false (sym k ∙ ap is_conflict_in q)
    ]
  ])
]

-- and a conflict ends none
still_open : (d : Deed) (b : Bool) → is_conflict_in (answered d) ≡ true → open_after d b ≡ b
still_open (Begun n) b e = absurd (true≢false (sym e))
still_open (Committed n at) b e = absurd (true≢false (sym e))
still_open (Aborted c n at backs) b e = absurd (true≢false (sym e))
still_open _ b e = refl

pub hindered_open : (g : Opening) (group : ℕ) (xs : List Done) (x : Done) (was : Log) → Tells limits g group xs x → Answers g xs x was → is_conflict_in (answered x.outcome.deed) ≡ true → ((state_after g (front (x ∷ xs))).worker x.outcome.session).is_open ≡ true
hindered_open g group xs x was t h e = let c = conflict_is (answered x.outcome.deed) e in elim (h.refused (refusal.Conflict c.0) c.1) [
  | inl q ↦ conflict_open g (state_after g (front (x ∷ xs))) x.outcome.session (is_half_done x.outcome.session xs) was (call_behind (outcomes xs) (asked x.outcome.deed)) c.0 q
  | inr o ↦ elim o [
    | inl q ↦ absurd (no_latch c.0 q)
    | inr q ↦ open_own limits g group xs x t x.outcome.session refl
        ∙ (still_open x.outcome.deed ((state_after g (front xs)).worker x.outcome.session).is_open e ∙ met_open g xs x was h (refusal.Conflict c.0) q e)
  ]
]
  where
    no_latch : (h : ℕ) → refusal.Conflict h ≡ refusal.RowSpent → ⊥
    no_latch h q = absurd (cc)
