-- What an end did, by answer.
use Rattle.std.proofs.Common.{◌≡◌, ◌∙◌, ◌≤◌, ◌<◌, ◌+◌, ℕ, suc, Bool, true, false, length, Result, Ok, Err, refl, sym, ap, subst, arith}
use Rattle.map_model.specs.declared.call.Refusal.TheVariants as refusal
use Rattle.session_state.specs.engine_trait.declared.unserved.Unanswered.TheVariants as unanswered
use Rattle.session_state.specs.engine_trait.declared.unserved.Unserved.{Unserved}
use Rattle.session_state.specs.engine_trait.declared.unserved.Unserved.TheVariants as unserved
use Rattle.rfa_model.specs.Stamps.{need_of}
use Rattle.session_state.specs.core_state.States.{flushed_by_all}
use Rattle.lean_disk.specs.Faults.{HasCause}
use Rattle.lean_disk.specs.Story.{Story}
use Rattle.session_state.specs.log_calls.Calls.{StagesOn}
use Rattle.session_state.specs.log_record.declared.record.Body.{Body}
use Rattle.session_state.specs.log_record.declared.record.Body.TheVariants as body
use Rattle.session_state.specs.log_record.declared.record.Record.{Record}
use Rattle.session_state.specs.row_words.Openings.{opening}
use Rattle.session_state.specs.rows_trait.declared.view.View.{View}
use Rattle.session_state.specs.rows_trait.Views.{state}
use Rattle.session_state.specs.worker_log.Calls.{After}
use Rattle.session_state.specs.worker_log.Logs.{Log}
use Rattle.session_state.proofs.OtherLemmas.{every_steps, no_steps}
use Rattle.session_state.specs.Others.{Steps}
use Rattle.session_state.specs.Staging.{KeepsLog}
use Rattle.session_state.specs.declared.session.Session.{Session}
use Rattle.row_ends.specs.Ends.{Ended, ended_session, waiting_session}
use Rattle.row_ends.specs.Outcomes.{Aborts, Commits, FailsToCommit, HasCommitted, HasEnded, IsGrouped, end_record}
use Rattle.row_ends.specs.declared.ending.Ended as answers
use Rattle.row_ends.proofs.CommitLemmas.{ended_as, same_state}
use Rattle.row_ends.proofs.EndSteps.{ended_steps, flushed_steps, latch_steps}

-- ## The record

pub next : (c : ℕ) → suc c ≡ c + 1
next c = omega arith

abbrev pub body_of : Bool → ℕ → Body
body_of true need = body.Commit need
body_of false need = body.Abort need

-- it is what is staged
pub record_is : (commit : Bool) (x : Session) (need floor : ℕ) → need ≡ need_of x.clock.debt floor → ◌≡◌ {A = Record} (record { txn = x.txn; gsn = x.clock.clock + 1; body = body_of commit need }) (end_record commit x floor)
record_is true x need floor need_is = λ i. record { txn = x.txn; gsn = sym (next x.clock.clock) i; body = body.Commit (need_is i) }
record_is false x need floor need_is = λ i. record { txn = x.txn; gsn = sym (next x.clock.clock) i; body = body.Abort (need_is i) }

-- ## The end

-- where words were loaded before it
pub has_ended : (commit : Bool) (v0 v w : View) (x : Session) (need floor : ℕ) → need ≡ need_of x.clock.debt floor → floor ≡ flushed_by_all (opening v0.given) (state v0).core → v.given ≡ v0.given → v.seen ≡ v0.seen → Ended x.own (length x.held.rows) v commit floor w
    → (was is : Log) (old new : Story) → After (record { txn = x.txn; gsn = x.clock.clock + 1; body = body_of commit need }) was is → is.last ≡ x.clock.clock + 1 → StagesOn x.own (record { txn = x.txn; gsn = x.clock.clock + 1; body = body_of commit need }) was is old new → KeepsLog x.own was old new
    → HasEnded (record { number = x.txn; at = x.clock.clock + 1; need = need }) commit v0 w x was is old new
has_ended commit v0 v w x need floor need_is floor_is given seen e was is old new after last stands keeps = record {
  floor = floor;
  floor_is = floor_is;
  ended = ended_as x.own (length x.held.rows) commit v0 v w floor given seen e;
  after = subst (λ (r : Record). After r was is) (record_is commit x need floor need_is) after;
  last = last ∙ sym (next x.clock.clock);
  stands = subst (λ (r : Record). StagesOn x.own r was is old new) (record_is commit x need floor need_is) stands;
  keeps = keeps;
  told_is = λ i. record { number = x.txn; at = sym (next x.clock.clock) i; need = need_is i };
}

-- from a view that has seen the same
pub ended_from : (told : answers.Ended) (commit : Bool) (v u w : View) (x : Session) (was is : Log) (old new : Story) → u.given ≡ v.given → u.seen ≡ v.seen → HasEnded told commit u w x was is old new → HasEnded told commit v w x was is old new
ended_from told commit v u w x was is old new given seen e = record {
  floor = e.floor;
  floor_is = e.floor_is ∙ (λ i. flushed_by_all (opening (given i)) (same_state v u given seen i).core);
  ended = ended_as x.own (length x.held.rows) commit v u w e.floor given seen e.ended;
  after = e.after;
  last = e.last;
  stands = e.stands;
  keeps = e.keeps;
  told_is = e.told_is;
}

-- ## A commit

pub waiting_suc : (x y : Session) → y ≡ waiting_session x (x.clock.clock + 1) (x.unflushed + 1) → y ≡ waiting_session x (suc x.clock.clock) (suc x.unflushed)
waiting_suc x y e = e ∙ (λ i. waiting_session x (sym (next x.clock.clock) i) (sym (next x.unflushed) i))

pub waits_is : (x y : Session) → y ≡ waiting_session x (suc x.clock.clock) (suc x.unflushed) → y.unflushed < y.group → suc x.unflushed < x.group
waits_is x y e lt = let a = ap (λ (k : Session). k.unflushed) e in let c = ap (λ (k : Session). k.group) e in omega arith

pub full_is : (x y : Session) → y ≡ waiting_session x (suc x.clock.clock) (suc x.unflushed) → y.group ≤ y.unflushed → x.group ≤ suc x.unflushed
full_is x y e le = let a = ap (λ (k : Session). k.unflushed) e in let c = ap (λ (k : Session). k.group) e in omega arith

module _ {D : Type 0} (story : D → Story) (v u w : View) (x y : Session) (was is : Log) (old new : D) (given : u.given ≡ v.given) (seen : u.seen ≡ v.seen) where
  committed_from : (told : answers.Ended) → HasCommitted story told u w x y was is old new → HasCommitted story told v w x y was is old new
  committed_from told c = record { view = c.view; log = c.log; disk = c.disk; ended = ended_from told true v u c.view x was c.log (story old) (story c.disk) given seen c.ended; grouped = c.grouped }

  fails_from : FailsToCommit story u x was old new → FailsToCommit story v x was old new
  fails_from (FailsToCommit.Unstaged k) = FailsToCommit.Unstaged k
  fails_from (FailsToCommit.Unflushed told view log disk e full k) = FailsToCommit.Unflushed told view log disk (ended_from told true v u view x was log (story old) (story disk) given seen e) full k

  pub commits_ok : (told : answers.Ended) → HasCommitted story told u w x y was is old new → Commits story (Ok told) v w x y was is old new
  commits_ok told c = committed_from told c

  pub commits_err : FailsToCommit story u x was old new → Commits story (Err (unserved.Unanswered unanswered.DiskFault)) v w x y was is old new
  commits_err f = fails_from f

  pub aborts_ok : (told : answers.Ended) → HasEnded told false u w x was is (story old) (story new) × (y ≡ ended_session x (suc x.clock.clock)) → Aborts story (Ok told) v w x y was is old new
  aborts_ok told a = (ended_from told false v u w x was is (story old) (story new) given seen a.0, a.1)

-- ## Steps

grouped_steps : {D : Type 0} (story : D → Story) (v w : View) (x y : Session) (was is : Log) (old new : D) → IsGrouped story v w x y was is old new → Steps x.own v w
grouped_steps story v w x y was is old new (IsGrouped.Waits few view session log disk) = no_steps x.own v w (ap (λ (k : View). k.given) view) (ap (λ (k : View). k.seen) view)
grouped_steps story v w x y was is old new (IsGrouped.Flushed full f k) = flushed_steps v w (waiting_session x (suc x.clock.clock) (suc x.unflushed)) y was is (story old) (story new) f

pub commits_steps : {D : Type 0} (story : D → Story) (r : Result answers.Ended Unserved) (v w : View) (x y : Session) (was is : Log) (old new : D) → Commits story r v w x y was is old new → (r ≡ Err (unserved.Unanswered unanswered.DiskFault) → ⊥) → Steps x.own v w
commits_steps story (Ok told) v w x y was is old new c works = every_steps x.own v c.view w (ended_steps x.own (length x.held.rows) v c.view true c.ended.floor c.ended.ended) (grouped_steps story c.view w x y c.log is c.disk new c.grouped)
commits_steps story (Err (unserved.Refused refusal.RowSpent)) v w x y was is old new c works = latch_steps x.own (length x.held.rows) v w c.missed
commits_steps story (Err (unserved.Unanswered unanswered.DiskFault)) v w x y was is old new c works = absurd (works refl)
commits_steps story (Err _) v w x y was is old new c works = absurd c

pub aborts_steps : {D : Type 0} (story : D → Story) (r : Result answers.Ended Unserved) (v w : View) (x y : Session) (was is : Log) (old new : D) → Aborts story r v w x y was is old new → (r ≡ Err (unserved.Unanswered unanswered.DiskFault) → ⊥) → Steps x.own v w
aborts_steps story (Ok told) v w x y was is old new c works = ended_steps x.own (length x.held.rows) v w false c.0.floor c.0.ended
aborts_steps story (Err (unserved.Refused refusal.RowSpent)) v w x y was is old new c works = latch_steps x.own (length x.held.rows) v w c.missed
aborts_steps story (Err (unserved.Unanswered unanswered.DiskFault)) v w x y was is old new c works = absurd (works refl)
aborts_steps story (Err _) v w x y was is old new c works = absurd c

-- ## Causes

pub ok_err : {A E : Type 0} (a : A) (why : E) → ◌≡◌ {A = Result A E} (Ok a) (Err why) → ⊥
ok_err a why e = absurd (cc)

pub cause_as : (a b : ℕ) (P Q : Type 0) → (P → Q) → (Q → P) → HasCause a b P → HasCause a b Q
cause_as a b P Q to back h = record { later = h.later; cause = λ q. h.cause (back q); calm = λ no. h.calm (λ p. no (to p)) }
