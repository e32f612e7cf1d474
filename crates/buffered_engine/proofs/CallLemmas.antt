-- What a caller is told of a call.
use Rattle.std.proofs.Common.{◌≡◌, inl, inr, ◌↔◌, ℕ, true, false, not, Result, Ok, Err, IfErr, IfOk, IsErr, refl, sym, ◌∙◌, true≢false}
use Rattle.std.proofs.lemmas.Bool.{cases_Bool}
use Rattle.map_model.specs.declared.call.Answer.{Answer}
use Rattle.map_model.specs.declared.call.Call.{Call}
use Rattle.lean_disk.specs.Faults.{HasCause}
use Rattle.lean_disk.specs.Story.{Story}
use Rattle.paged_scans.specs.engine_trait.declared.unserved.Unanswered.{Unanswered}
use Rattle.paged_scans.specs.engine_trait.declared.unserved.Unanswered.TheVariants as unanswered
use Rattle.engine_front.specs.Turns.{behind_answer}
use Rattle.paged_scans.specs.paged_desks.Calls.{Comes}
use Rattle.buffered_engine.specs.Calls.{AbortAnswered, AbortStopped, AbortsInRuns, Answered, Asked, AskedAbort, AskedScan, DoesInRuns, HinderedDoes, LineDoes, MayBe, ScanAnswered, ScanDoes, ScanStopped, ScansInRuns, Stopped, TellsFewer, Went, is_stop}
use Rattle.buffered_engine.specs.Inside.Asks.{next_behind}
use Rattle.buffered_engine.specs.States.{State}

abbrev pub no_device : Result Answer Unanswered
no_device = Err unanswered.Broken

abbrev pub fault : Result Answer Unanswered
fault = Err unanswered.DiskFault

-- ## One answer

pub comes_as : (r : Result Answer Unanswered) (d e : Answer → Type 0) (f k h l : Type 0) → ((a : Answer) → d a → e a) → (f → k) → (h → l) → Comes r d f h → Comes r e k l
comes_as (Ok a) d e f k h l to fails never x = to a x
comes_as (Err unanswered.DiskFault) d e f k h l to fails never x = fails x
comes_as (Err (unanswered.Damaged place)) d e f k h l to fails never x = (fails x.0, never x.1)
comes_as (Err unanswered.Broken) d e f k h l to fails never x = absurd x

-- where it came from an engine that works
pub comes_if : (r : Result Answer Unanswered) (d e : Answer → Type 0) (f h : Type 0) → ((a : Answer) → r ≡ Ok a → d a → e a) → Comes r d f h → Comes r e f h
comes_if (Ok a) d e f h to x = to a refl x
comes_if (Err unanswered.DiskFault) d e f h to x = x
comes_if (Err (unanswered.Damaged place)) d e f h to x = x
comes_if (Err unanswered.Broken) d e f h to x = absurd x

works_told : (r : Result Answer Unanswered) → (not (is_stop r) ≡ true) ↔ (IsErr r → ⊥)
works_told (Ok a) = (λ _ e. true≢false (sym e), λ _. refl)
works_told (Err why) = (λ e. absurd (true≢false (sym e)), λ n. absurd (n refl))

-- ## A call that went

pub went_broken : {D : Type 0} (Did : Type 0) (was : State D) → was.works ≡ false → Went Did no_device was was
went_broken Did was broken = record {
  does = λ w. absurd (true≢false (sym w ∙ broken));
  may = tt;
  works = broken;
  next = tt;
  waits = λ e. refl;
  sessions = refl;
  group = refl;
  same = λ e. refl;
  broken = (λ e. broken, λ e. refl);
}

next_told : (r : Result Answer Unanswered) {D : Type 0} (was is : State D) → is.next ≡ next_behind was.next r → IfOk r (λ a. is.next ≡ behind_answer a)
next_told (Ok a) was is e = e
next_told (Err why) was is e = tt

next_waits : (r : Result Answer Unanswered) {D : Type 0} (was is : State D) → is.next ≡ next_behind was.next r → IsErr r → is.next ≡ was.next
next_waits (Ok a) was is e i = absurd (true≢false (sym i))
next_waits (Err why) was is e i = e

pub went : {D : Type 0} (Did : Type 0) (r : Result Answer Unanswered) (was is : State D) → was.works ≡ true → Did → MayBe was.sessions r → is.works ≡ not (is_stop r) → (r ≡ no_device → ⊥)
    → is.next ≡ next_behind was.next r → is.sessions ≡ was.sessions → is.group ≡ was.group → Went Did r was is
went Did r was is worked does may works other next sessions group = record {
  does = λ w. does;
  may = may;
  works = works;
  next = next_told r was is next;
  waits = next_waits r was is next;
  sessions = sessions;
  group = group;
  same = λ e. absurd (other e);
  broken = (λ e. absurd (other e), λ e. absurd (true≢false (sym worked ∙ e)));
}

-- ## What is told of it

module _ {D : Type 0} (Did : Type 0) (r : Result Answer Unanswered) (was is : State D) (w : Went Did r was is) where
  -- the engine worked
  pub worked : (r ≡ no_device → ⊥) → Did
  worked other = elim (cases_Bool was.works) [ inl t ↦ w.does t | inr f ↦ absurd (other (w.broken.1 f)) ]

  works : is.works ≡ true ↔ (IsErr r → ⊥)
  works = (λ o. (works_told r).0 (sym w.works ∙ o), λ n. w.works ∙ (works_told r).1 n)

-- ## Of a line

module _ {D : Type 0} (story : D → Story) (own : ℕ) (c : Call) (was is : State D) where
  abbrev Did : Result Answer Unanswered → Type 0
  Did r = DoesInRuns own c r was is (story was.disk) (story is.disk)

  does : (r : Result Answer Unanswered) → ((r ≡ no_device → ⊥) → Did r) → IfOk r (Answered story own c was is)
  does (Ok a) h = λ g xs names run. let d = h (λ e. absurd (cc)) g xs names run in (d.does, d.in_run)
  does (Err why) h = tt

  stopped : (r : Result Answer Unanswered) → ((r ≡ no_device → ⊥) → Did r) → IfErr r (Stopped story own c was is)
  stopped (Ok a) h = tt
  stopped (Err unanswered.Broken) h = λ g xs names run. tt
  stopped (Err unanswered.DiskFault) h = λ g xs names run. h (λ e. absurd (cc)) g xs names run
  stopped (Err (unanswered.Damaged place)) h = λ g xs names run. h (λ e. absurd (cc)) g xs names run

  pub line_does : (faults : D → ℕ) (r : Result Answer Unanswered) → Asked story own c r was is → HasCause (faults was.disk) (faults is.disk) (r ≡ fault) → LineDoes story faults own c r was is
  line_does faults r w cause = record {
    does = does r (worked (Did r) r was is w);
    come = w.may;
    next = w.next;
    stops = stopped r (worked (Did r) r was is w);
    works = works (Did r) r was is w;
    sizes = (w.sessions, w.group);
    same = w.same;
    cause_broken = w.broken;
    cause_disk_fault = cause;
  }

-- ## Of an abort that is due

module _ {D : Type 0} (story : D → Story) (was is : State D) where
  abbrev Aborts : Result Answer Unanswered → Type 0
  Aborts r = AbortsInRuns r was is (story was.disk) (story is.disk)

  abort_does : (r : Result Answer Unanswered) → ((r ≡ no_device → ⊥) → Aborts r) → IfOk r (AbortAnswered story was is)
  abort_does (Ok a) h = λ g y earlier names run c due. let d = h (λ e. absurd (cc)) g y earlier names run c due in (d.does, d.in_run)
  abort_does (Err why) h = tt

  abort_stopped : (r : Result Answer Unanswered) → ((r ≡ no_device → ⊥) → Aborts r) → IfErr r (AbortStopped story was is)
  abort_stopped (Ok a) h = tt
  abort_stopped (Err unanswered.Broken) h = λ g y earlier names run c due. tt
  abort_stopped (Err unanswered.DiskFault) h = λ g y earlier names run c due. h (λ e. absurd (cc)) g y earlier names run c due
  abort_stopped (Err (unanswered.Damaged place)) h = λ g y earlier names run c due. h (λ e. absurd (cc)) g y earlier names run c due

  pub hindered_does : (faults : D → ℕ) (r : Result Answer Unanswered) → AskedAbort story r was is → MayBe 1 r → HasCause (faults was.disk) (faults is.disk) (r ≡ fault) → HinderedDoes story faults r was is
  hindered_does faults r w may cause = record {
    does = abort_does r (worked (Aborts r) r was is w);
    come = may;
    next = w.next;
    stops = abort_stopped r (worked (Aborts r) r was is w);
    works = works (Aborts r) r was is w;
    sizes = (w.sessions, w.group);
    same = w.same;
    cause_broken = w.broken;
    cause_disk_fault = cause;
  }

-- ## Of what follows a pair

module _ {D : Type 0} (story : D → Story) (was is : State D) where
  abbrev Scans : Result Answer Unanswered → Type 0
  Scans r = ScansInRuns r was is (story was.disk) (story is.disk)

  scan_answered : (r : Result Answer Unanswered) → ((r ≡ no_device → ⊥) → Scans r) → IfOk r (ScanAnswered story was is)
  scan_answered (Ok a) h = λ g y earlier names run. let d = h (λ e. absurd (cc)) g y earlier names run in (d.does, d.in_run)
  scan_answered (Err why) h = tt

  scan_stopped : (r : Result Answer Unanswered) → ((r ≡ no_device → ⊥) → Scans r) → IfErr r (ScanStopped story was is)
  scan_stopped (Ok a) h = tt
  scan_stopped (Err unanswered.Broken) h = λ g y earlier names run. tt
  scan_stopped (Err unanswered.DiskFault) h = λ g y earlier names run. h (λ e. absurd (cc)) g y earlier names run
  scan_stopped (Err (unanswered.Damaged place)) h = λ g y earlier names run. h (λ e. absurd (cc)) g y earlier names run

  pub scan_does : (faults : D → ℕ) (r : Result Answer Unanswered) → AskedScan story r was is → HasCause (faults was.disk) (faults is.disk) (r ≡ fault) → ScanDoes story faults r was is
  scan_does faults r w cause = record {
    does = scan_answered r (worked (Scans r) r was is w);
    come = w.may;
    next = w.next;
    stops = scan_stopped r (worked (Scans r) r was is w);
    works = works (Scans r) r was is w;
    sizes = (w.sessions, w.group);
    same = w.same;
    cause_broken = w.broken;
    cause_disk_fault = cause;
  }

  -- where it goes on still, fewer pairs are left
  pub fewer_told : (r : Result Answer Unanswered) → is.works ≡ not (is_stop r) → (is.works ≡ true → TellsFewer was is) → IfOk r (λ b. TellsFewer was is)
  fewer_told (Ok a) goes h = h goes
  fewer_told (Err why) goes h = tt
