-- What comes of either change, by how it ends.
use Rattle.std.proofs.Common.{◌≡◌, ℕ, true, List, Result, Ok, Err, refl, ap, ◌∙◌, arith}
use Rattle.map_model.specs.declared.call.Refusal.TheVariants as refusal
use Rattle.row_changes.specs.session_state.engine_trait.declared.unserved.Unanswered.TheVariants as unanswered
use Rattle.row_changes.specs.session_state.engine_trait.declared.unserved.Unserved.{Unserved}
use Rattle.row_changes.specs.session_state.engine_trait.declared.unserved.Unserved.TheVariants as unserved
use Rattle.row_changes.specs.session_state.draw_trait.declared.draw.Unstaged.{Unstaged}
use Rattle.row_changes.specs.session_state.draw_trait.declared.draw.Unstaged.TheVariants.{DiskFault, LogFull}
use Rattle.lean_disk.specs.Faults.{HasCause}
use Rattle.lean_disk.specs.Story.{Story}
use Rattle.row_changes.specs.session_state.log_record.declared.record.Record.{Record}
use Rattle.row_changes.specs.session_state.worker_log.Logs.{Log}
use Rattle.row_changes.specs.session_state.rows_trait.Views.{Shape, state}
use Rattle.row_changes.specs.session_state.rows_trait.declared.view.View.{View}
use Rattle.btree_smo.specs.Outcomes.{Drew, IsSpentIn}
use Rattle.btree_smo.specs.Purges.{DrewOf}
use Rattle.btree_smo.specs.declared.outcome.Outcome.{Outcome}
use Rattle.btree_smo.specs.declared.outcome.Outcome.TheVariants as outcome
use Rattle.btree_smo.specs.declared.purge.Purged.{Purged}
use Rattle.btree_smo.specs.declared.purge.Purged.TheVariants as purged
use Rattle.row_changes.specs.session_state.Holds.{Holds, IsSameSession}
use Rattle.row_changes.specs.session_state.Numbers.{HaveRoom}
use Rattle.row_changes.specs.session_state.Staging.{Staging}
use Rattle.row_changes.specs.session_state.declared.session.Session.{Session}
use Rattle.row_changes.proofs.session_state.UndoLemmas.{room_to_end}
use Rattle.row_changes.specs.Puts.{works_after}
use Rattle.row_changes.proofs.DelLemmas.{same_by_staged, same_then}
use Rattle.row_changes.proofs.PutLemmas.{low_page}
use Rattle.row_tidying.specs.Changes.{MayTidy}
use Rattle.row_tidying.specs.Ends.{IsExpected, IsExpectedOf, answer_of, cleared_of, session_after, session_behind}
use Rattle.row_tidying.specs.declared.purges.Cleared.{Cleared}
use Rattle.row_tidying.specs.declared.purges.Cleared.TheVariants as cleared

-- the number of no page is the last one
pub not_spent : (z : Shape) (v w : View) (x : Session) (log : Log) → Holds z v x log → HaveRoom v → MayTidy x log → (row : ℕ) → IsSpentIn w.given (state v) row → ⊥
not_spent z v w x log h fits f row t = let a = t.spent in let b = low_page z v x log h fits f.is_open t.page in omega arith

-- the log had a block, and be it one that is kept back
pub not_full : (v : View) (x y : Session) (log log_now : Log) (rs now : List Record) (old new : Story) (S : Type 0) (f0 f1 used limit : ℕ) → MayTidy x log → Staging (Err (LogFull used limit)) x y rs now log log_now old new S f0 f1 → ⊥
not_full v x y log log_now rs now old new S f0 f1 used limit f st = let a = st.came.full in let b = room_to_end log 1 f.room in omega arith

-- ## Faults

abbrev drawn : Result (Unit {0}) Unstaged
drawn = Ok tt

staged_no_fault : drawn ≡ Err DiskFault → ⊥
staged_no_fault e = cc

-- the answers
abbrev served : (A : Type 0) → A → Result A Unserved
served A a = Ok a

abbrev spent : (A : Type 0) → Result A Unserved
spent A = Err (unserved.Refused refusal.RowSpent)

abbrev failed : (A : Type 0) → Result A Unserved
failed A = Err (unserved.Unanswered unanswered.DiskFault)

served_calm : (A : Type 0) (a : A) → served A a ≡ failed A → ⊥
served_calm A a e = cc

spent_calm : (A : Type 0) → spent A ≡ failed A → ⊥
spent_calm A e = cc

module _ (x y : Session) (rs now : List Record) (log log_now : Log) (old new : Story) (S same : Type 0) (f0 f1 : ℕ) where
  -- a fault is told just where the disk counts one
  pub faults_told : (same → f1 ≡ f0) → (page : ℕ) (o : Outcome) → IsExpected o → Drew o (λ r. Staging r x y rs now log log_now old new S f0 f1) same → HasCause f0 f1 (answer_of o page ≡ Err (unserved.Unanswered unanswered.DiskFault))
  faults_told sf page outcome.Done t d = record { later = d.cause.later; cause = λ e. absurd (served_calm ℕ page e); calm = λ _. d.cause.calm staged_no_fault }
  faults_told sf page (outcome.RowSpent row) t d = record { later = let e = sf d in omega arith; cause = λ e. absurd (spent_calm ℕ e); calm = λ _. sf d }
  faults_told sf page (outcome.Unstaged DiskFault) t d = record { later = d.cause.later; cause = λ e. d.cause.cause refl; calm = λ no. absurd (no refl) }
  faults_told sf page _ t d = absurd t

  pub purge_told : (same → f1 ≡ f0) → (o : Purged) → IsExpectedOf o → DrewOf o (λ r. Staging r x y rs now log log_now old new S f0 f1) same → HasCause f0 f1 (cleared_of o ≡ Err (unserved.Unanswered unanswered.DiskFault))
  purge_told sf purged.Done t d = record { later = d.cause.later; cause = λ e. absurd (served_calm Cleared cleared.Done e); calm = λ _. d.cause.calm staged_no_fault }
  purge_told sf (purged.Spared left) t d = record { later = let e = sf d in omega arith; cause = λ e. absurd (served_calm Cleared (cleared.Spared left) e); calm = λ _. sf d }
  purge_told sf (purged.Refused (outcome.RowSpent row)) t d = record { later = let e = sf d in omega arith; cause = λ e. absurd (spent_calm Cleared e); calm = λ _. sf d }
  purge_told sf (purged.Refused (outcome.Unstaged DiskFault)) t d = record { later = d.cause.later; cause = λ e. d.cause.cause refl; calm = λ no. absurd (no refl) }
  purge_told sf (purged.Refused _) t d = absurd t

  -- ## The session

  -- it is the same session, whatever came of it
  pub session_kept : (same → y ≡ x) → (page : ℕ) (o : Outcome) → Drew o (λ r. Staging r x y rs now log log_now old new S f0 f1) same → (k : Session) → k ≡ session_after o page y → IsSameSession x k
  session_kept sx page outcome.Done d k e = same_then x y k (same_by_staged x y d.session) (ap (λ (s : Session). s.own) e, ap (λ (s : Session). s.workers) e, ap (λ (s : Session). s.group) e)
  session_kept sx page (outcome.Unstaged why) d k e = same_then x y k (same_by_staged x y d.session) (ap (λ (s : Session). s.own) e, ap (λ (s : Session). s.workers) e, ap (λ (s : Session). s.group) e)
  session_kept sx page _ d k e = let q = e ∙ sx d in (ap (λ (s : Session). s.own) q, ap (λ (s : Session). s.workers) q, ap (λ (s : Session). s.group) q)

  pub session_spared : (same → y ≡ x) → (o : Purged) → DrewOf o (λ r. Staging r x y rs now log log_now old new S f0 f1) same → (k : Session) → k ≡ session_behind o y → IsSameSession x k
  session_spared sx purged.Done d k e = same_then x y k (same_by_staged x y d.session) (ap (λ (s : Session). s.own) e, ap (λ (s : Session). s.workers) e, ap (λ (s : Session). s.group) e)
  session_spared sx (purged.Refused (outcome.Unstaged why)) d k e = same_then x y k (same_by_staged x y d.session) (ap (λ (s : Session). s.own) e, ap (λ (s : Session). s.workers) e, ap (λ (s : Session). s.group) e)
  session_spared sx _ d k e = let q = e ∙ sx d in (ap (λ (s : Session). s.own) q, ap (λ (s : Session). s.workers) q, ap (λ (s : Session). s.group) q)

  -- and whether it works is told
  pub works_told : (same → y ≡ x) → x.works ≡ true → (page : ℕ) (o : Outcome) → IsExpected o → Drew o (λ r. Staging r x y rs now log log_now old new S f0 f1) same → (session_after o page y).works ≡ works_after (answer_of o page)
  works_told sx on page outcome.Done t d = ap (λ (s : Session). s.works) d.session ∙ on
  works_told sx on page (outcome.RowSpent row) t d = ap (λ (s : Session). s.works) (sx d) ∙ on
  works_told sx on page (outcome.Unstaged DiskFault) t d = refl
  works_told sx on page _ t d = absurd t

  pub works_spared : (same → y ≡ x) → x.works ≡ true → (o : Purged) → IsExpectedOf o → DrewOf o (λ r. Staging r x y rs now log log_now old new S f0 f1) same → (session_behind o y).works ≡ works_after (cleared_of o)
  works_spared sx on purged.Done t d = ap (λ (s : Session). s.works) d.session ∙ on
  works_spared sx on (purged.Spared left) t d = ap (λ (s : Session). s.works) (sx d) ∙ on
  works_spared sx on (purged.Refused (outcome.RowSpent row)) t d = ap (λ (s : Session). s.works) (sx d) ∙ on
  works_spared sx on (purged.Refused (outcome.Unstaged DiskFault)) t d = refl
  works_spared sx on (purged.Refused _) t d = absurd t
