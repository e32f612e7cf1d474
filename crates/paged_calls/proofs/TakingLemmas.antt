-- The key's lock row in a run, and the tests of a call there.
use Rattle.std.proofs.Common.{◌≡◌, ◌∙◌, ◌⊎◌, inl, inr, ◌≤◌, ◌+◌, ◌^◌, ◌%◌, ◌++◌, ℕ, suc, Bool, true, false, cond, List, [], ◌∷◌, length, Some, None, Result, Err, ◌↔◌, ap, refl, sym, subst, arith, true≢false}
use Rattle.std.proofs.lemmas.Bool.{and_parts}
use Rattle.std.proofs.lemmas.List.{length-append}
use Rattle.paged_desks.specs.image_model.Entries.{Entry}
use Rattle.map_model.specs.Maps.{MapAnswer}
use Rattle.map_model.specs.declared.call.Call.TheVariants as call
use Rattle.map_model.specs.declared.call.Refusal.{Refusal}
use Rattle.map_model.specs.declared.call.Refusal.TheVariants as refusal
use Rattle.paged_desks.specs.engine_trait.declared.unserved.Unanswered.TheVariants as unanswered
use Rattle.paged_desks.specs.engine_trait.declared.unserved.Unserved.{Unserved}
use Rattle.paged_desks.specs.engine_trait.declared.unserved.Unserved.TheVariants as unserved
use Rattle.paged_desks.specs.core_calls.Fronts.{Done, front}
use Rattle.paged_desks.specs.core_calls.Refusals.{Hinders}
use Rattle.paged_desks.specs.core_state.Events as happening
use Rattle.paged_desks.specs.core_state.Needs.{holds_row, may, may_hold}
use Rattle.paged_desks.specs.core_state.Openings.{Opening}
use Rattle.paged_desks.specs.core_state.States.{State, start}
use Rattle.paged_desks.specs.core_state.Steps.{happens, put_back, run, step}
use Rattle.paged_desks.specs.engine_calls.Parts.{behind_first}
use Rattle.paged_desks.specs.engine_trait.Calls.{MayCome}
use Rattle.paged_desks.specs.engine_trait.Serving.{MayRefuse, refused_by}
use Rattle.paged_desks.specs.engine_trait.Refusals.{lock_refusal, refusal_in}
use Rattle.paged_desks.specs.key_locks.declared.mode.Mode.{Mode}
use Rattle.paged_desks.specs.key_locks.Rows.{core_mode, event_mode}
use Rattle.row_room.proofs.row_changes.TakeLemmas.{row_is, same_mode, with_count}
use Rattle.row_room.specs.row_changes.Takes.{IsHindered, NotTaken, Takes}
use Rattle.paged_desks.specs.row_words.Moments.{events_of, mode_of}
use Rattle.paged_desks.specs.row_opening.Openings.{EveryNeed, EveryReached}
use Rattle.paged_desks.specs.rows_trait.declared.view.View.{View}
use Rattle.paged_desks.specs.rows_trait.Views.{Shape, state}
use Rattle.paged_desks.specs.session_state.Holds.{AreRows}
use Rattle.paged_desks.specs.session_state.Ties.{Behind}
use Rattle.paged_desks.specs.session_state.declared.session.Session.{Session}
use Rattle.paged_desks.specs.worker_log.Logs.{Log}
use Rattle.paged_desks.proofs.call_parts.RunLemmas.{core_is, front_is}
use Rattle.paged_desks.specs.Parts.{IsLate}
use Rattle.paged_desks.specs.Calls.{EndsWork, ends_work, works_behind}
use Rattle.paged_calls.specs.Tests.{call_test, is_going}
use Rattle.paged_calls.proofs.Conflicts.{lock_free}
use Rattle.paged_calls.proofs.EventLemmas.{length_events}
use Rattle.paged_calls.proofs.GoingLemmas.{going}

-- ## The tests

pub some_is : {A : Type 0} (r q : A) → Some r ≡ Some q → r ≡ q
some_is r q e = cc

pub none_is : {A : Type 0} (r : A) → None ≡ Some r → ⊥
none_is r e = absurd (cc)

-- no test refuses it
pub call_open : (x : Session) → call_test x ≡ None → (x.works ≡ true) × (x.is_open ≡ true) × (x.is_half_aborted ≡ false)
call_open x e = works_case x.works refl e
  where
    open_case : x.works ≡ true → (b : Bool) → is_going x ≡ b → refused_by (cond b None (Some refusal.NoTransaction)) ≡ None → (x.works ≡ true) × (x.is_open ≡ true) × (x.is_half_aborted ≡ false)
    open_case w true q r = let k = going x q in (w, k.is_open, k.whole)
    open_case w false q r = absurd (none_is _ (sym r))

    works_case : (b : Bool) → x.works ≡ b → cond b (refused_by (cond (is_going x) None (Some refusal.NoTransaction))) (Some (unserved.Unanswered unanswered.Broken)) ≡ None → (x.works ≡ true) × (x.is_open ≡ true) × (x.is_half_aborted ≡ false)
    works_case true q r = open_case q (is_going x) refl r
    works_case false q r = absurd (none_is _ (sym r))

-- why one does
pub call_closed : (x : Session) (why : Unserved) → call_test x ≡ Some why → ((x.works ≡ false) × (why ≡ unserved.Unanswered unanswered.Broken)) ⊎ ((x.works ≡ true) × (is_going x ≡ false) × (why ≡ unserved.Refused refusal.NoTransaction))
call_closed x why e = works_case x.works refl e
  where
    open_case : x.works ≡ true → (b : Bool) → is_going x ≡ b → refused_by (cond b None (Some refusal.NoTransaction)) ≡ Some why → (x.works ≡ true) × (is_going x ≡ false) × (why ≡ unserved.Refused refusal.NoTransaction)
    open_case w true q r = absurd (none_is why r)
    open_case w false q r = (w, q, sym (some_is _ why r))

    works_case : (b : Bool) → x.works ≡ b → cond b (refused_by (cond (is_going x) None (Some refusal.NoTransaction))) (Some (unserved.Unanswered unanswered.Broken)) ≡ Some why → ((x.works ≡ false) × (why ≡ unserved.Unanswered unanswered.Broken)) ⊎ ((x.works ≡ true) × (is_going x ≡ false) × (why ≡ unserved.Refused refusal.NoTransaction))
    works_case true q r = inr (open_case q (is_going x) refl r)
    works_case false q r = inl (q, sym (some_is _ why r))

-- what is told of it then
module _ (x : Session) (why : Unserved) (e : call_test x ≡ Some why) where
  pub closed_works : (A : Type 0) → x.works ≡ works_behind {A = A} (Err why)
  closed_works A = elim (call_closed x why e) [ inl q ↦ q.0 ∙ ap (λ (r : Unserved). works_behind {A = A} (Err r)) (sym q.1) | inr q ↦ q.0 ∙ ap (λ (r : Unserved). works_behind {A = A} (Err r)) (sym q.2) ]

  pub closed_come : (workers : ℕ) → MayRefuse workers why ⊎ EndsWork why
  closed_come workers = elim (call_closed x why e) [ inl q ↦ inr (ap ends_work q.1) | inr q ↦ inl (subst (MayRefuse workers) (sym q.2) tt) ]

  pub closed_broken : (A : Type 0) → ◌≡◌ {A = Result A Unserved} (Err why) (Err (unserved.Unanswered unanswered.Broken)) ↔ (x.works ≡ false)
  closed_broken A = elim (call_closed x why e) [ inl q ↦ ((λ _. q.0), (λ _. ap (λ (r : Unserved). Err r) q.1)) | inr q ↦ ((λ r. absurd (differs (sym q.2) r)), (λ f. absurd (true≢false (sym q.0 ∙ f)))) ]
    where
      differs : unserved.Refused refusal.NoTransaction ≡ why → ◌≡◌ {A = Result A Unserved} (Err why) (Err (unserved.Unanswered unanswered.Broken)) → ⊥
      differs p r = absurd (cc)

-- ## The row

-- it is held behind its taking, by what the session has then
pub row_held : (v w : View) (x y : Session) (key : ℕ) (mode : Mode) → Takes v w x y (key % x.held.count) mode → holds_row ((state w).core.row (key % y.held.count)) y.own ≡ true
row_held v w x y key mode k = ap (λ (n : ℕ). holds_row ((state w).core.row (key % n)) y.own) (ap (λ (s : Session). s.held.count) k.session ∙ with_count x.held (key % x.held.count))
    ∙ (ap (λ (s : Session). holds_row ((state w).core.row (key % x.held.count)) s.own) k.session ∙ k.mine)

module _ (reached : EveryReached) (needs : EveryNeed) (g : Opening) (xs : List Done) (first : List happening.Event) (z : Shape) (v : View) (x : Session) (key : ℕ) (b : Behind g xs first v) (rows : AreRows z v x.own x.workers x.frames x.held.count) where
  -- the lock row of the key is that of the opening in the run
  pub key_row : g.row_of key ≡ key % x.held.count
  key_row = ap (λ f. f key) b.opens.locks ∙ row_is z v x.own x.workers x.frames x.held.count key rows

  -- before it was taken the session might have it
  pub key_free : (w : View) (y : Session) (mode : Mode) → Takes v w x y (key % x.held.count) mode → may_hold ((behind_first g xs first).row (g.row_of key)) x.own (core_mode mode) ≡ true
  key_free w y mode t = ap (λ (s : State). may_hold (s.row (g.row_of key)) x.own (core_mode mode)) (sym (core_is reached needs g xs first v b))
      ∙ ((λ i. may_hold ((state v).core.row (key_row i)) x.own (sym (same_mode mode) i)) ∙ (and_parts ((state v).core.worker x.own).is_open (may_hold ((state v).core.row (key % x.held.count)) x.own (mode_of (event_mode mode))) t.met).1)

  -- who hinders the session does so in the run
  pub key_hindered : (w : View) (mode : Mode) (h : ℕ) → IsHindered v w x.own (key % x.held.count) mode h → Hinders ((behind_first g xs first).row (g.row_of key)) x.own (core_mode mode) h
  key_hindered w mode h s = subst (λ o. Hinders o x.own (core_mode mode) h) (λ i. (core_is reached needs g xs first v b i).row (sym key_row i)) s.hinders

-- so many events stand before it that a latch may be spent
pub spent_end : (g : Opening) (xs : List Done) (first : List happening.Event) (w : View) → Behind g xs first w → 2 ^ 61 ≤ length w.seen → 2 ^ 61 ≤ length (front xs ++ first)
spent_end g xs first w b many =
    let d = ap (λ es. length es) b.seen in
    let e = length-append (events_of w.given.before) (events_of w.seen) in
    let f = length_events w.seen in
    omega arith

-- ## The global epoch

up : (n : ℕ) → n ≤ suc n
up n = omega arith

-- an event raises it by one at most
epoch_one : (g : Opening) (s : State) (e : happening.Event) → (happens g s e).epoch ≤ suc s.epoch
epoch_one g s (happening.Event.Put_back w p) = at (s.worker w).changes
  where
    at : (cs : List Entry) → (put_back g s w p cs).epoch ≤ suc s.epoch
    at [] = up s.epoch
    at (c ∷ cs) = up s.epoch
epoch_one g s (happening.Event.Next w p k (MapAnswer.Pair j x)) = up s.epoch
epoch_one g s (happening.Event.Next w p k (MapAnswer.Gap h)) = up s.epoch
epoch_one g s (happening.Event.Next w p k _) = up s.epoch
epoch_one g s happening.Event.Tick = (let n = suc s.epoch in omega arith)
epoch_one g s e = up s.epoch

epoch_step : (g : Opening) (s : State) (e : happening.Event) → (step g s e).epoch ≤ suc s.epoch
epoch_step g s e = go (may g s e)
  where
    go : (b : Bool) → (cond b (happens g s e) s).epoch ≤ suc s.epoch
    go true = epoch_one g s e
    go false = up s.epoch

epoch_run : (g : Opening) (es : List happening.Event) (s : State) → (run g s es).epoch ≤ s.epoch + length es
epoch_run g [] s = omega arith
epoch_run g (e ∷ es) s = let a = epoch_run g es (step g s e) in let b = epoch_step g s e in omega arith

-- so it ends late
pub late_end : EveryReached → EveryNeed → (g : Opening) (xs : List Done) (first : List happening.Event) (w : View) → Behind g xs first w → IsLate w → 2 ^ 61 ≤ length (front xs ++ first)
late_end reached needs g xs first w b (inl many) = spent_end g xs first w b many
late_end reached needs g xs first w b (inr old) =
    let a = epoch_run g (front xs ++ first) (start g) in
    let c = ap (λ (s : State). s.epoch) (core_is reached needs g xs first w b ∙ sym (front_is g xs first)) in
    omega arith

-- no test refuses a get where its row may be had
pub none_refuses : (g : Opening) (s : State) (own : ℕ) (is_half_aborted : Bool) (log : Log) (key : ℕ) → (s.worker own).is_open ≡ true → is_half_aborted ≡ false → may_hold (s.row (g.row_of key)) own happening.Mode.Shared ≡ true → refusal_in g s own is_half_aborted log (call.Get key) ≡ None
none_refuses g s own is_half_aborted log key is_open whole free =
    (λ i. cond (whole i) (Some refusal.NoTransaction) (cond (is_open i) (lock_refusal g s own key happening.Mode.Shared None) (Some refusal.NoTransaction))) ∙ lock_free g s own key happening.Mode.Shared free None

-- why a row was not taken may come, a conflict where there are several sessions
pub may_come : (workers : ℕ) (why : Refusal) (v w : View) (own row : ℕ) (mode : Mode) → NotTaken why v w own row mode → (workers ≡ 1 → why ≡ refusal.RowSpent) → MayCome workers why
may_come workers refusal.RowSpent v w own row mode n only = tt
may_come workers (refusal.Conflict h) v w own row mode n only = λ one. let e = only one in absurd (cc)
may_come workers _ v w own row mode n only = absurd n
