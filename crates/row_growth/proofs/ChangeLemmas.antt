-- What comes of a change of the tree that room for a key takes.
use Rattle.std.proofs.Common.{◌≡◌, inl, ◌<◌, ℕ, false, List, [], ◌∷◌, length, None, Some, Result, Ok, Err, refl, sym, ap, ◌∙◌, subst, arith}
use Rattle.map_model.specs.Lists.{Has}
use Rattle.row_changes.specs.session_state.engine_trait.declared.unserved.Unanswered.TheVariants as unanswered
use Rattle.row_changes.specs.session_state.engine_trait.declared.unserved.Unserved.{Unserved}
use Rattle.row_changes.specs.session_state.engine_trait.declared.unserved.Unserved.TheVariants as unserved
use Rattle.page_model.specs.Nodes.{Node}
use Rattle.row_changes.specs.session_state.core_state.States.{nodes_of}
use Rattle.row_changes.specs.session_state.core_calls.Room.{EveryRoom}
use Rattle.row_changes.specs.session_state.draw_trait.declared.draw.Unstaged.{Unstaged}
use Rattle.row_changes.specs.session_state.draw_trait.declared.draw.Unstaged.TheVariants.{DiskFault, LogFull}
use Rattle.lean_disk.specs.Faults.{HasCause}
use Rattle.lean_disk.specs.Story.{Story}
use Rattle.row_changes.specs.session_state.log_record.declared.record.Record.{Record}
use Rattle.row_changes.specs.session_state.worker_log.Logs.{Log}
use Rattle.row_changes.specs.session_state.row_words.Openings.{opening}
use Rattle.row_changes.specs.session_state.rows_trait.Views.{Shape, state}
use Rattle.row_changes.specs.session_state.rows_trait.declared.view.View.{View}
use Rattle.btree_smo.specs.Outcomes.{Drew, IsSpentIn}
use Rattle.btree_smo.specs.declared.outcome.Outcome.{Outcome}
use Rattle.btree_smo.specs.declared.outcome.Outcome.TheVariants as outcome
use Rattle.row_changes.specs.session_state.Free.{first_of, without_first}
use Rattle.row_changes.specs.session_state.Holds.{Holds, IsSameSession}
use Rattle.row_changes.specs.session_state.Numbers.{HaveRoom}
use Rattle.row_changes.specs.Puts.{MayChange}
use Rattle.row_growth.specs.Rooms.{IsExpected, answer_of, session_after}
use Rattle.row_changes.specs.session_state.Staging.{Staging}
use Rattle.row_changes.specs.session_state.declared.session.Session.{Session}
use Rattle.row_changes.proofs.DelLemmas.{same_by_staged, same_then}
use Rattle.row_growth.proofs.GrowthLemmas.{sound}
use Rattle.row_changes.proofs.PutLemmas.{low_page}
use Rattle.row_changes.proofs.session_state.UndoLemmas.{room_to_end}

-- ## Free pages

some_is : (a b : ℕ) → Some a ≡ Some b → a ≡ b
some_is a b e = cc

none_some : (b : ℕ) → None ≡ Some b → ⊥
none_some b e = cc

first_has : (ps : List ℕ) (p : ℕ) → first_of ps ≡ Some p → Has p ps
first_has [] p e = absurd (none_some p e)
first_has (q ∷ ps) p e = inl (sym (some_is q p e))

pub first_rest : (ps : List ℕ) (p : ℕ) → first_of ps ≡ Some p → ps ≡ p ∷ without_first ps
first_rest [] p e = absurd (none_some p e)
first_rest (q ∷ ps) p e = ap (λ k. k ∷ ps) (some_is q p e)

module _ (rooms : EveryRoom) (z : Shape) (v : View) (x : Session) (log : Log) (h : Holds z v x log) (key page : ℕ) (least : first_of x.free ≡ Some page) where
  -- the least free page is one
  pub page_free : (page < (opening v.given).format.pages) × ((nodes_of (state v).core page).live ≡ false)
  page_free = ((rooms (opening v.given) (state v).core key).free page).0 (subst (Has page) h.free (first_has x.free page least))

  -- so it has no pairs
  pub page_bare : length (nodes_of (state v).core page).pairs ≡ 0
  page_bare = ap (λ (n : Node). length n.pairs) (((sound z v x log h).tree.formed page page_free.0).other page_free.1)

-- ## What comes of either

-- the number of no page is the last one
pub not_spent : (z : Shape) (v w : View) (x : Session) (log : Log) (key : ℕ) → Holds z v x log → HaveRoom v → MayChange v x log key → (row : ℕ) → IsSpentIn w.given (state v) row → ⊥
not_spent z v w x log key h fits f row t = let a = t.spent in let b = low_page z v x log h fits f.is_open t.page in omega arith

-- the log had a block, and be it one that is kept back
pub not_full : (v : View) (x y : Session) (log log_now : Log) (key : ℕ) (rs now : List Record) (old new : Story) (S : Type 0) (f0 f1 used limit : ℕ) → MayChange v x log key → Staging (Err (LogFull used limit)) x y rs now log log_now old new S f0 f1 → ⊥
not_full v x y log log_now key rs now old new S f0 f1 used limit f st = let a = st.came.full in let b = room_to_end log _ f.room in omega arith

abbrev failed : Result (Unit {0}) Unserved
failed = Err (unserved.Unanswered unanswered.DiskFault)

done_no_fault : answer_of outcome.Done ≡ failed → ⊥
done_no_fault e = cc

spent_no_fault : (row : ℕ) → answer_of (outcome.RowSpent row) ≡ failed → ⊥
spent_no_fault row e = cc

abbrev drawn : Result (Unit {0}) Unstaged
drawn = Ok tt

staged_no_fault : drawn ≡ Err DiskFault → ⊥
staged_no_fault e = cc

-- a fault is told just where the disk counts one
pub faults_told : (x y : Session) (rs now : List Record) (log log_now : Log) (old new : Story) (S same : Type 0) (f0 f1 : ℕ) → (same → f1 ≡ f0) → (o : Outcome) → IsExpected o
    → Drew o (λ r. Staging r x y rs now log log_now old new S f0 f1) same → HasCause f0 f1 (answer_of o ≡ Err (unserved.Unanswered unanswered.DiskFault))
faults_told x y rs now log log_now old new S same f0 f1 sf outcome.Done t d = record { later = d.cause.later; cause = λ e. absurd (done_no_fault e); calm = λ _. d.cause.calm staged_no_fault }
faults_told x y rs now log log_now old new S same f0 f1 sf (outcome.RowSpent row) t d = record { later = let e = sf d in omega arith; cause = λ e. absurd (spent_no_fault row e); calm = λ _. sf d }
faults_told x y rs now log log_now old new S same f0 f1 sf (outcome.Unstaged DiskFault) t d = record { later = d.cause.later; cause = λ e. d.cause.cause refl; calm = λ no. absurd (no refl) }
faults_told x y rs now log log_now old new S same f0 f1 sf _ t d = absurd t

-- it is the same session, whatever came of it
pub session_kept : (x y : Session) (rs now : List Record) (log log_now : Log) (old new : Story) (S same : Type 0) (f0 f1 : ℕ) → (same → y ≡ x) → (o : Outcome) → Drew o (λ r. Staging r x y rs now log log_now old new S f0 f1) same
    → (k : Session) → k ≡ session_after o y → IsSameSession x k
session_kept x y rs now log log_now old new S same f0 f1 sx outcome.Done d k e = same_then x y k (same_by_staged x y d.session) (ap (λ (s : Session). s.own) e, ap (λ (s : Session). s.workers) e, ap (λ (s : Session). s.group) e)
session_kept x y rs now log log_now old new S same f0 f1 sx (outcome.Unstaged why) d k e = same_then x y k (same_by_staged x y d.session) (ap (λ (s : Session). s.own) e, ap (λ (s : Session). s.workers) e, ap (λ (s : Session). s.group) e)
session_kept x y rs now log log_now old new S same f0 f1 sx _ d k e = let q = e ∙ sx d in (ap (λ (s : Session). s.own) q, ap (λ (s : Session). s.workers) q, ap (λ (s : Session). s.group) q)
