-- An abort in every run, by its answer.
use Rattle.std.proofs.Common.{◌≡◌, ◌∙◌, ◌⊎◌, inl, inr, ◌≤◌, ◌<◌, ◌+◌, ◌^◌, ◌||◌, ◌++◌, ◌↔◌, ℕ, Bool, true, false, cond, List, [], ◌∷◌, length, Some, None, Result, Ok, Err, IfOk, ap, refl, sym, subst, arith, true≢false}
use Rattle.std.proofs.lemmas.Bool.{cases_eq}
use Rattle.map_model.specs.Lists.{any}
use Rattle.map_model.specs.declared.call.Call.{Call}
use Rattle.map_model.specs.declared.call.Refusal.TheVariants as refusal
use Rattle.paged_desks.specs.engine_trait.Serving.{MayRefuse, refused_by}
use Rattle.paged_desks.specs.engine_trait.declared.unserved.Unanswered.TheVariants as unanswered
use Rattle.paged_desks.specs.engine_trait.declared.unserved.Unserved.{Unserved}
use Rattle.paged_desks.specs.engine_trait.declared.unserved.Unserved.TheVariants as unserved
use Rattle.paged_desks.proofs.core_calls.WhereLemmas.{syncs_kept}
use Rattle.paged_desks.specs.core_calls.LogEvents.{EveryWhere, IsTightSomewhere, is_log}
use Rattle.paged_desks.proofs.engine_calls.MarkLemmas.{keep_none}
use Rattle.paged_desks.specs.engine_calls.Answers.{EveryAnswer}
use Rattle.paged_desks.specs.engine_calls.Clauses.{EveryComing}
use Rattle.paged_desks.specs.engine_calls.Entries.{EveryEntry}
use Rattle.paged_desks.specs.engine_calls.Parts.{behind_first}
use Rattle.held_rows.specs.Steps.{AreMisses}
use Rattle.lean_disk.specs.Story.{IsLawful, Story}
use Rattle.paged_desks.specs.page_pool.Counts.{EveryFrame, hot_pages}
use Rattle.row_ends.proofs.Misses.{misses_core, misses_log, misses_met, misses_quiet}
use Rattle.row_ends.specs.Ends.{gives}
use Rattle.row_ends.specs.Outcomes.{IsSpent}
use Rattle.row_ends.specs.Receipts.{IsEnded}
use Rattle.row_ends.specs.Tests.{abort_test}
use Rattle.row_ends.specs.declared.ending.Ended as replies
use Rattle.paged_desks.specs.row_words.declared.event.Event.{Event}
use Rattle.paged_desks.specs.row_words.declared.event.Event.TheVariants as told
use Rattle.paged_desks.specs.row_words.Moments.{events_of}
use Rattle.paged_desks.specs.row_words.Openings.{opening}
use Rattle.paged_desks.specs.rows_trait.Views.{state}
use Rattle.paged_desks.proofs.session_desks.DeskLemmas.{desk_own}
use Rattle.paged_desks.proofs.session_desks.SeatLemmas.{holds_of, turn_high, turn_low}
use Rattle.paged_desks.specs.session_desks.Parts.{here, shape}
use Rattle.paged_desks.specs.session_desks.declared.desk.Desk.{Desk}
use Rattle.paged_desks.proofs.session_state.Moments.{seen_state}
use Rattle.paged_desks.specs.session_state.Holds.{IsSameSession}
use Rattle.paged_desks.specs.session_state.declared.session.Session.{Session}
use Rattle.paged_desks.proofs.call_parts.StepLemmas.{every_step}
use Rattle.paged_desks.specs.call_parts.Memory.{Memory}
use Rattle.paged_desks.specs.call_parts.Parts.{Part}
use Rattle.paged_desks.specs.call_parts.Rooms.{AreBacks}
use Rattle.paged_desks.proofs.Doing.{sessions_few}
use Rattle.paged_desks.proofs.EndingLemmas.{Grounds}
use Rattle.paged_desks.proofs.StandLemmas.{halves_are, memory_is}
use Rattle.paged_desks.specs.Calls.{CallDoes, EndsWork, IsAside, IsBeside, ends_work, works_behind}
use Rattle.paged_desks.specs.Machines.{IsReady, memory, view_of}
use Rattle.paged_desks.specs.Pages.{hot_in}
use Rattle.paged_desks.specs.Parts.{HasHalf, IsLate, IsStuck}
use Rattle.paged_desks.specs.declared.machine.PagedMachine.{PagedMachine}
use Rattle.paged_aborts.specs.Aborts.{HasReceipt, MayAbort, abort_answer}
use Rattle.paged_aborts.specs.Backs.{EndsAbort, HasFailedBack, HasUndone, IsWhy, NoneLeft, PutsBack, backs_in, is_back, most_in_all}
use Rattle.paged_aborts.proofs.AbortRuns.{b0, closed_does, failed_does, halved_does, late_of, never}
use Rattle.paged_aborts.proofs.CrampedLemmas.{Bounds, not_own}
use Rattle.paged_aborts.proofs.EndRuns.{aborted_does}
use Rattle.paged_aborts.proofs.UndoneLemmas.{failed_then, undone_then}

-- in each run in which it may come, whatever its line asked, it was answered so by one outcome more; or the disk failed so
abbrev pub DoesAbort : {D : Type 0} → (story : D → Story) → (own : ℕ) → (is_open : Bool) → Result replies.Ended Unserved → (m n : PagedMachine D) → Type 0
DoesAbort story own is_open r m n = (c : Call) → CallDoes story (MayAbort own is_open c) own c (abort_answer r) m n

pub some_is : {A : Type 0} (p q : A) → Some p ≡ Some q → p ≡ q
some_is p q e = cc

pub none_is : {A : Type 0} (r : A) → None ≡ Some r → ⊥
none_is r e = absurd (cc)

-- ## Its tests

-- why it is refused
data Refused (x : Session) (why : Unserved) : Type 0 where
  Fails : x.works ≡ false → why ≡ unserved.Unanswered unanswered.Broken → Refused x why
  Closed : x.works ≡ true → x.is_open ≡ false → why ≡ unserved.Refused refusal.NoTransaction → Refused x why

refused_how : (x : Session) (why : Unserved) → abort_test x ≡ Some why → Refused x why
refused_how x why e = go x.works x.is_open refl refl e
  where
    go : (a b : Bool) → x.works ≡ a → x.is_open ≡ b → cond a (refused_by (cond b None (Some refusal.NoTransaction))) (Some (unserved.Unanswered unanswered.Broken)) ≡ Some why → Refused x why
    go true true p q r = absurd (cc)
    go true false p q r = Closed p q (cc)
    go false b p q r = Fails p (cc)

-- it works, and a transaction is open
pub record MayAbortNow (x : Session) : Type 0 where
  pub works : x.works ≡ true
  pub is_open : x.is_open ≡ true

pub may_abort : (x : Session) → abort_test x ≡ None → MayAbortNow x
may_abort x e = go x.works x.is_open refl refl e
  where
    go : (a b : Bool) → x.works ≡ a → x.is_open ≡ b → cond a (refused_by (cond b None (Some refusal.NoTransaction))) (Some (unserved.Unanswered unanswered.Broken)) ≡ None → MayAbortNow x
    go true true p q r = record { works = p; is_open = q }
    go true false p q r = absurd (cc)
    go false b p q r = absurd (cc)

module _ (x : Session) (why : Unserved) (e : abort_test x ≡ Some why) where
  pub closed_works : x.works ≡ works_behind {A = replies.Ended} (Err why)
  closed_works = go (refused_how x why e)
    where
      go : Refused x why → x.works ≡ works_behind {A = replies.Ended} (Err why)
      go (Fails broken is) = broken ∙ ap (λ (k : Unserved). works_behind {A = replies.Ended} (Err k)) (sym is)
      go (Closed w closed is) = w ∙ ap (λ (k : Unserved). works_behind {A = replies.Ended} (Err k)) (sym is)

  pub closed_comes : MayRefuse 1 why ⊎ EndsWork why
  closed_comes = go (refused_how x why e)
    where
      go : Refused x why → MayRefuse 1 why ⊎ EndsWork why
      go (Fails broken is) = inr (ap ends_work is)
      go (Closed w closed is) = inl (subst (MayRefuse 1) (sym is) tt)

  pub closed_broken : ◌≡◌ {A = Result replies.Ended Unserved} (Err why) (Err (unserved.Unanswered unanswered.Broken)) ↔ (x.works ≡ false)
  closed_broken = go (refused_how x why e)
    where
      differs : unserved.Refused refusal.NoTransaction ≡ why → ◌≡◌ {A = Result replies.Ended Unserved} (Err why) (Err (unserved.Unanswered unanswered.Broken)) → ⊥
      differs p r = absurd (cc)

      go : Refused x why → ◌≡◌ {A = Result replies.Ended Unserved} (Err why) (Err (unserved.Unanswered unanswered.Broken)) ↔ (x.works ≡ false)
      go (Fails broken is) = ((λ _. broken), (λ _. ap (λ (k : Unserved). Err k) is))
      go (Closed w closed is) = ((λ r. absurd (differs (sym is) r)), (λ f. absurd (true≢false (sym w ∙ f))))

-- ## Misses

misses_backs : (own : ℕ) (es : List Event) → AreMisses es → AreBacks own (events_of es)
misses_backs own [] a = refl
misses_backs own (told.Miss w ∷ es) a = misses_backs own es a
misses_backs own (_ ∷ es) a = absurd a

misses_none : (es : List Event) → AreMisses es → any is_back es ≡ false
misses_none [] a = refl
misses_none (told.Miss w ∷ es) a = misses_none es a
misses_none (_ ∷ es) a = absurd a

misses_some : (es : List Event) → AreMisses es → backs_in es ≡ 0
misses_some [] a = refl
misses_some (told.Miss w ∷ es) a = misses_some es a
misses_some (_ ∷ es) a = absurd a

module _ (l : Grounds) (bounds : Bounds) (places : EveryWhere) (answers : EveryAnswer) (coming : EveryComing) (entries : EveryEntry) (frames : EveryFrame) {D : Type 0} (story : D → Story) (lawful : (d : D) → IsLawful (story d)) where
  -- a latch of a row that the session holds has come to its end
  module _ (k n : PagedMachine D) (a : IsAside k n) (s : IsSpent (view_of k) (view_of n) k.machine.work.session n.machine.work.session k.machine.work.log n.machine.work.log k.machine.work.disk n.machine.work.disk) where
    abbrev y : Session
    y = k.machine.work.session

    abbrev es : List Event
    es = s.missed.misses

    own_is : n.machine.work.session.own ≡ y.own
    own_is = ap (λ (q : Session). q.own) s.session

    b : IsBeside k n
    b = record { shape = a.shape; disk = s.disk; log = s.log; desks = a.desks; latches = a.latches; master = a.master; pager = a.pager }

    core : (state (view_of n)).core ≡ (state (view_of k)).core
    core = ap (λ q. q.core) (seen_state (view_of k) (view_of n) es s.missed.given s.missed.seen) ∙ misses_core (view_of k).given (state (view_of k)) es s.missed.are_misses

    hot_is : hot_in n ≡ hot_in k
    hot_is = λ i. hot_pages (opening (s.missed.given i)) (core i)

    undone_missed : HasUndone story (length y.held.rows) k n
    undone_missed = record {
      events = es;
      part = subst (λ (q : Memory × D). Part y.workers es (view_of k) (view_of n) (memory k) q.0 (story k.machine.work.disk) (story q.1)) (λ i. (sym (memory_is story k n b own_is) i, sym s.disk i))
          ((every_step l.reached l.needs l.versions l.kept l.prefixes l.seals (story k.machine.work.disk) (story k.machine.work.disk) (lawful k.machine.work.disk) y.workers (view_of k) (view_of n) (memory k)).rest es
          (record { given = s.missed.given; seen = s.missed.seen; met = misses_met (opening (view_of k).given) (state (view_of k)).core es s.missed.are_misses }) (misses_quiet es s.missed.are_misses));
      backs = misses_backs y.own es s.missed.are_misses;
      left = (let p = misses_some es s.missed.are_misses in let q = ap (λ (q : Session). length q.undo) s.session in omega arith);
      few = (let p = s.missed.few in let q = hot_is in omega arith);
      tight = λ g xs first t. syncs_kept (IsTightSomewhere g) g (events_of es) (behind_first g xs first) (keep_none is_log (events_of es) (misses_log es s.missed.are_misses));
      same = (ap (λ (q : Session). q.workers) s.session, ap (λ (q : Session). q.group) s.session);
      turn = own_is;
      is_open = ap (λ (q : Session). q.is_open) s.session;
      half = ap (λ (q : Session). q.is_half_aborted) s.session ∙ ap (λ h. h || y.is_half_aborted) (sym (misses_none es s.missed.are_misses));
      others = λ w lo hi other. halves_are story k n b own_is (ap (λ (q : Session). q.is_half_aborted) s.session) w;
    }

  module _ (m : PagedMachine D) (ready : IsReady story m) where
    abbrev x : Session
    x = m.machine.work.session

    abbrev own : ℕ
    own = x.own

    abbrev all_most : ℕ
    all_most = most_in_all x.workers

    small : all_most ≤ 2 ^ 15
    small = let a = sessions_few story m ready frames in omega arith

    low : 0 < own
    low = turn_low (shape m.machine) (view_of m) (here m.machine) m.machine.desks.items ready.sound.desks

    high : own ≤ x.workers
    high = turn_high (shape m.machine) (view_of m) (here m.machine) m.machine.desks.items ready.sound.desks

    -- no transaction is open
    pub abort_closed : x.works ≡ true → (why : Unserved) → abort_test x ≡ Some why → DoesAbort story own x.is_open (Err why) m m
    abort_closed works why e = go (refused_how x why e)
      where
        go : Refused x why → DoesAbort story own x.is_open (Err why) m m
        go (Fails broken is) = absurd (true≢false (sym works ∙ broken))
        go (Closed w closed is) = subst (λ (k : Unserved). DoesAbort story own x.is_open (Err k) m m) (sym is) (λ c g xs many tied halves due. closed_does l answers coming frames story lawful m ready c g xs many tied halves due closed)

    -- ## A change could not be put back

    -- since a latch is spent
    late_does : (most : ℕ) → most ≤ 2 ^ 17 → (n : PagedMachine D) → IsReady story n → HasUndone story most m n → IsLate (view_of n) ⊎ HasHalf m → DoesAbort story own x.is_open (Err (unserved.Refused refusal.RowSpent)) m n
    late_does most le n ready_n u late = λ c g xs many tied halves due. halved_does l answers coming frames story lawful m ready c g xs many tied halves due most le n u ready_n.logged (late_of l answers coming frames story lawful m ready c g xs many tied halves due most le n u late)

    -- or since a page finds no frame
    stuck_does : (n : PagedMachine D) → IsReady story n → HasUndone story all_most m n → (key : ℕ) → IsStuck key n → DoesAbort story own x.is_open (Err (unserved.Refused refusal.RowSpent)) m n
    stuck_does n ready_n u key s = go (cases_eq s.cramped.session own) x.is_half_aborted refl
      where
        within : s.cramped.session ≤ x.workers
        within = let a = s.cramped.high in let b = u.same.0 in omega arith

        wide : all_most ≤ 2 ^ 17
        wide = let q = small in omega arith

        go : (s.cramped.session ≡ own) ⊎ (s.cramped.session ≡ own → ⊥) → (half : Bool) → x.is_half_aborted ≡ half → DoesAbort story own x.is_open (Err (unserved.Refused refusal.RowSpent)) m n
        go (inl is) true half = late_does all_most wide n ready_n u (inr (record { session = own; low = low; high = high; half = ap (λ (d : Desk). d.session.is_half_aborted) (desk_own (here m.machine) m.machine.desks.items own refl) ∙ half }))
        go (inl is) false half = λ c g xs many tied halves due. absurd (not_own l.reached l.needs bounds story m n ready all_most u g xs (b0 l answers coming frames story lawful m ready c g xs many tied halves due) key s half is)
        go (inr other) _ half = late_does all_most wide n ready_n u (inr (record { session = s.cramped.session; low = s.cramped.low; high = within; half = sym (u.others s.cramped.session s.cramped.low within other) ∙ s.cramped.half }))

    pub not_back : (n : PagedMachine D) (why : Unserved) → (works_behind {A = Unit {0}} (Err why) ≡ true → IsReady story n) → PutsBack story all_most NoneLeft (Err why) m n → DoesAbort story own x.is_open (Err why) m n
    not_back n (unserved.Refused refusal.RowSpent) ready_n p = go p.1
      where
        go : IsWhy n → DoesAbort story own x.is_open (Err (unserved.Refused refusal.RowSpent)) m n
        go (inl late) = late_does all_most (let q = small in omega arith) n (ready_n refl) p.0 (inl late)
        go (inr stuck) = stuck_does n (ready_n refl) p.0 stuck.0 stuck.1
    not_back n (unserved.Unanswered unanswered.DiskFault) ready_n p = λ c g xs many tied halves due. failed_does l answers coming frames story lawful m ready c g xs many tied halves due all_most (let q = small in omega arith) n p
    not_back n (unserved.Unanswered (unanswered.Damaged place)) ready_n p = λ c g xs many tied halves due. (failed_does l answers coming frames story lawful m ready c g xs many tied halves due all_most (let q = small in omega arith) n p.0, never l answers coming frames story lawful m ready c g xs many tied halves due p.1)
    not_back n _ ready_n p = absurd p

    -- ## The end

    module _ (k n : PagedMachine D) (u : HasUndone story all_most m k) (opened : x.is_open ≡ true) (ready_k : IsReady story k) (same : IsSameSession k.machine.work.session n.machine.work.session) where
      pub ends_by : (r : Result replies.Ended Unserved) → EndsAbort story r k n → (works_behind r ≡ true → IsReady story n) → (works_behind r ≡ true → IsAside k n) → (r ≡ Err (unserved.Unanswered unanswered.DiskFault) → HasFailedBack story 0 k n) → DoesAbort story own x.is_open r m n
      ends_by (Ok reply) e ready_n a f = λ c g xs many tied halves due. aborted_does l answers coming entries frames story lawful m ready opened c g xs many tied halves due all_most (let q = small in omega arith) k n u ready_k (a refl) same (ready_n refl) reply e.0 e.1
      ends_by (Err (unserved.Refused refusal.RowSpent)) e ready_n a f = late_does (all_most + length k.machine.work.session.held.rows) wide n (ready_n refl) (undone_then l places story lawful m k n all_most (length k.machine.work.session.held.rows) u (undone_missed k n (a refl) e)) (inl (inl e.late))
        where
          wide : all_most + length k.machine.work.session.held.rows ≤ 2 ^ 17
          wide = let h = holds_of (shape k.machine) (view_of k) (here k.machine) k.machine.desks.items ready_k.sound.desks in let a = h.fewer in let b = h.rows.few in let q = small in omega arith
      ends_by (Err (unserved.Unanswered unanswered.DiskFault)) e ready_n a f = (λ c g xs many tied halves due. failed_does l answers coming frames story lawful m ready c g xs many tied halves due (all_most + 0) (let q = small in omega arith) n
          (failed_then l places story lawful m k n all_most 0 u (f refl)))
      ends_by (Err _) e ready_n a f = absurd e

-- ## What a script is told

module _ {D : Type 0} (story : D → Story) (m n : PagedMachine D) where
  pub back_comes : (most : ℕ) (Left : PagedMachine D → PagedMachine D → Type 0) (why : Unserved) → PutsBack story most Left (Err why) m n → MayRefuse 1 why ⊎ EndsWork why
  back_comes most Left (unserved.Refused refusal.RowSpent) p = inl tt
  back_comes most Left (unserved.Unanswered unanswered.DiskFault) p = inr refl
  back_comes most Left (unserved.Unanswered (unanswered.Damaged place)) p = inr refl
  back_comes most Left _ p = absurd p

  -- a test that refuses it comes before that
  pub back_late : (most : ℕ) (Left : PagedMachine D → PagedMachine D → Type 0) (why : Unserved) → PutsBack story most Left (Err why) m n → (why ≡ unserved.Unanswered unanswered.Broken) ⊎ (why ≡ unserved.Refused refusal.NoTransaction) → ⊥
  back_late most Left (unserved.Refused refusal.RowSpent) p (inl e) = absurd (cc)
  back_late most Left (unserved.Refused refusal.RowSpent) p (inr e) = absurd (cc)
  back_late most Left (unserved.Unanswered unanswered.DiskFault) p (inl e) = absurd (cc)
  back_late most Left (unserved.Unanswered unanswered.DiskFault) p (inr e) = absurd (cc)
  back_late most Left (unserved.Unanswered (unanswered.Damaged place)) p (inl e) = absurd (cc)
  back_late most Left (unserved.Unanswered (unanswered.Damaged place)) p (inr e) = absurd (cc)
  back_late most Left _ p e = absurd p

  pub end_late : (r : Result replies.Ended Unserved) → EndsAbort story r m n → (r ≡ Err (unserved.Unanswered unanswered.Broken)) ⊎ (r ≡ Err (unserved.Refused refusal.NoTransaction)) → ⊥
  end_late (Ok reply) c (inl e) = absurd (cc)
  end_late (Ok reply) c (inr e) = absurd (cc)
  end_late (Err (unserved.Refused refusal.RowSpent)) c (inl e) = absurd (cc)
  end_late (Err (unserved.Refused refusal.RowSpent)) c (inr e) = absurd (cc)
  end_late (Err (unserved.Unanswered unanswered.DiskFault)) c (inl e) = absurd (cc)
  end_late (Err (unserved.Unanswered unanswered.DiskFault)) c (inr e) = absurd (cc)
  end_late (Err _) c e = absurd c

err_is : (p q : Unserved) → ◌≡◌ {A = Result replies.Ended Unserved} (Err p) (Err q) → p ≡ q
err_is p q e = cc

pub err_late : (why : Unserved) → ((why ≡ unserved.Unanswered unanswered.Broken) ⊎ (why ≡ unserved.Refused refusal.NoTransaction) → ⊥) → (◌≡◌ {A = Result replies.Ended Unserved} (Err why) (Err (unserved.Unanswered unanswered.Broken))) ⊎ (◌≡◌ {A = Result replies.Ended Unserved} (Err why) (Err (unserved.Refused refusal.NoTransaction))) → ⊥
err_late why never (inl e) = never (inl (err_is why (unserved.Unanswered unanswered.Broken) e))
err_late why never (inr e) = never (inr (err_is why (unserved.Refused refusal.NoTransaction) e))

-- a machine that works is not broken
pub not_broken : (P : Type 0) (works : Bool) → (P → ⊥) → works ≡ true → P ↔ (works ≡ false)
not_broken P works never on = ((λ p. absurd (never p)), (λ off. absurd (true≢false (sym on ∙ off))))

-- ## What it tells

pub receipt_of : {D : Type 0} (story : D → Story) (most : ℕ) (m k n : PagedMachine D) → HasUndone story most m k → (r : Result replies.Ended Unserved) → EndsAbort story r k n → IfOk r (IsEnded (view_of k) n.machine.work.session) → IfOk r (HasReceipt m n)
receipt_of story most m k n u (Ok reply) c is_told = record {
  kept = c.0.ended.given ∙ u.part.given;
  before = view_of k;
  events = u.events;
  given = u.part.given;
  seen = u.part.seen;
  told = is_told;
  floor = c.0.floor;
  floor_is = c.0.floor_is;
  rows = c.0.ended.rows;
  ended = c.0.ended.seen ∙ ap (λ w. (view_of k).seen ++ told.End w false c.0.floor ∷ gives w c.0.ended.rows) u.turn;
}
receipt_of story most m k n u (Err why) c told = tt
