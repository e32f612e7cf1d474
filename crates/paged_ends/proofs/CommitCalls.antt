-- A commit in every run: it was refused by a test, or answered so.
use Rattle.std.proofs.Common.{◌≡◌, ◌∙◌, ◌⊎◌, inl, inr, ◌↔◌, true, false, Some, Result, Ok, Err, ap, refl, sym, subst, true≢false}
use Rattle.map_model.specs.declared.call.Call.TheVariants as call
use Rattle.map_model.specs.declared.call.Refusal.TheVariants as refusal
use Rattle.paged_desks.specs.engine_trait.Serving.{MayRefuse, unserved_answer}
use Rattle.paged_desks.specs.engine_trait.declared.unserved.Unanswered.TheVariants as unanswered
use Rattle.paged_desks.specs.engine_trait.declared.unserved.Unserved.{Unserved}
use Rattle.paged_desks.specs.engine_trait.declared.unserved.Unserved.TheVariants as unserved
use Rattle.paged_desks.specs.engine_calls.Answers.{EveryAnswer}
use Rattle.paged_desks.specs.engine_calls.Clauses.{EveryComing}
use Rattle.paged_desks.specs.engine_calls.Entries.{EveryEntry}
use Rattle.lean_disk.specs.Story.{IsLawful, Story}
use Rattle.row_ends.proofs.GoingLemmas.{Tested, tested}
use Rattle.row_ends.specs.Tests.{call_test}
use Rattle.row_ends.specs.declared.ending.Ended as replies
use Rattle.paged_desks.specs.session_state.Holds.{IsSameSession}
use Rattle.paged_desks.specs.session_state.declared.session.Session.{Session}
use Rattle.paged_desks.specs.Calls.{CallDoes, EndsWork, IsAside, OnLine, ends_work, works_behind}
use Rattle.paged_desks.specs.Machines.{IsReady}
use Rattle.paged_desks.specs.declared.machine.PagedMachine.{PagedMachine}
use Rattle.paged_desks.proofs.EndingLemmas.{Grounds}
use Rattle.paged_ends.proofs.CommitLemmas.{committed, fails_commit}
use Rattle.paged_ends.proofs.CommitPieces.{closed_does, spent_does}
use Rattle.paged_ends.specs.Ends.{commit_answer}
use Rattle.paged_ends.specs.Pieces.{CommitsOn}

module _ (l : Grounds) (answers : EveryAnswer) (coming : EveryComing) {D : Type 0} (story : D → Story) (lawful : (d : D) → IsLawful (story d)) (m : PagedMachine D) (ready : IsReady story m) where
  pub closed_tested : m.machine.work.session.works ≡ true → (why : Unserved) → call_test m.machine.work.session ≡ Some why → CallDoes story OnLine m.machine.work.session.own call.Commit (unserved_answer why) m m
  closed_tested works why e = go (tested m.machine.work.session why e)
    where
      go : Tested m.machine.work.session why → CallDoes story OnLine m.machine.work.session.own call.Commit (unserved_answer why) m m
      go (Tested.Fails broken is) = absurd (true≢false (sym works ∙ broken))
      go (Tested.Closed w closed is) = subst (λ (k : Unserved). CallDoes story OnLine m.machine.work.session.own call.Commit (unserved_answer k) m m) (sym is)
          (λ g xs many tied halves line. closed_does l answers coming story lawful m m ready g xs many tied halves line closed)

pub commit_did : (l : Grounds) → EveryAnswer → EveryComing → EveryEntry → {D : Type 0} (story : D → Story) → ((d : D) → IsLawful (story d)) → (m n : PagedMachine D) → IsReady story m → m.machine.work.session.is_open ≡ true → m.machine.work.session.is_half_aborted ≡ false
    → (r : Result replies.Ended Unserved) → CommitsOn story r m n → (works_behind r ≡ true → IsReady story n) → (works_behind r ≡ true → IsAside m n) → IsSameSession m.machine.work.session n.machine.work.session → CallDoes story OnLine m.machine.work.session.own call.Commit (commit_answer r) m n
commit_did l answers coming entries story lawful m n ready opened whole (Ok told) c ready_n a same g xs many tied halves line = committed l answers entries story lawful m n ready opened whole g xs many tied halves line (a refl) same (ready_n refl) told c
commit_did l answers coming entries story lawful m n ready opened whole (Err (unserved.Refused refusal.RowSpent)) c ready_n a same g xs many tied halves line = spent_does l answers coming story lawful m n ready g xs many tied halves line c (a refl) (ready_n refl)
commit_did l answers coming entries story lawful m n ready opened whole (Err (unserved.Unanswered unanswered.DiskFault)) c ready_n a same g xs many tied halves line = fails_commit l answers entries story lawful m n ready opened whole g xs many tied halves line c
commit_did l answers coming entries story lawful m n ready opened whole (Err _) c ready_n a same g xs many tied halves line = absurd c

module _ (x : Session) (why : Unserved) (e : call_test x ≡ Some why) where
  pub closed_works : x.works ≡ works_behind {A = replies.Ended} (Err why)
  closed_works = go (tested x why e)
    where
      go : Tested x why → x.works ≡ works_behind {A = replies.Ended} (Err why)
      go (Tested.Fails broken is) = broken ∙ ap (λ (k : Unserved). works_behind {A = replies.Ended} (Err k)) (sym is)
      go (Tested.Closed w closed is) = w ∙ ap (λ (k : Unserved). works_behind {A = replies.Ended} (Err k)) (sym is)

  pub closed_comes : MayRefuse 1 why ⊎ EndsWork why
  closed_comes = go (tested x why e)
    where
      go : Tested x why → MayRefuse 1 why ⊎ EndsWork why
      go (Tested.Fails broken is) = inr (ap ends_work is)
      go (Tested.Closed w closed is) = inl (subst (MayRefuse 1) (sym is) tt)

  pub closed_broken : ◌≡◌ {A = Result replies.Ended Unserved} (Err why) (Err (unserved.Unanswered unanswered.Broken)) ↔ (x.works ≡ false)
  closed_broken = go (tested x why e)
    where
      differs : unserved.Refused refusal.NoTransaction ≡ why → ◌≡◌ {A = Result replies.Ended Unserved} (Err why) (Err (unserved.Unanswered unanswered.Broken)) → ⊥
      differs p r = absurd (cc)

      go : Tested x why → ◌≡◌ {A = Result replies.Ended Unserved} (Err why) (Err (unserved.Unanswered unanswered.Broken)) ↔ (x.works ≡ false)
      go (Tested.Fails broken is) = ((λ _. broken), (λ _. ap (λ (k : Unserved). Err k) is))
      go (Tested.Closed w closed is) = ((λ r. absurd (differs (sym is) r)), (λ f. absurd (true≢false (sym w ∙ f))))
