-- What a call left of a machine, from what it said.
use Rattle.std.proofs.Common.{◌≡◌, ◌⊎◌, inl, inr, ◌↔◌, ℕ, true, false, not, List, ◌∷◌, ◌++◌, Option, Some, None, Result, Ok, Err, IfErr, IfOk, refl, sym, ap, ◌∙◌, subst, true≢false}
use Rattle.std.proofs.lemmas.List.{append_assoc}
use Rattle.map_model.proofs.ListLemmas.{has_right}
use Rattle.map_model.specs.declared.call.Answer.{Answer}
use Rattle.map_model.specs.declared.call.Answer.TheVariants as answer
use Rattle.map_model.specs.declared.call.Call.{Call}
use Rattle.paged_scans.specs.engine_trait.declared.unserved.Unanswered.{Unanswered}
use Rattle.paged_scans.specs.engine_trait.Serving.{MayRefuse, unserved_answer}
use Rattle.paged_scans.specs.engine_trait.declared.unserved.Unanswered.TheVariants as unanswered
use Rattle.paged_scans.specs.engine_trait.declared.unserved.Unserved.{Unserved}
use Rattle.paged_scans.specs.engine_trait.declared.unserved.Unserved.TheVariants as unserved
use Rattle.rfa_model.specs.Stamps.{need_of}
use Rattle.paged_scans.specs.core_state.Openings.{Opening}
use Rattle.paged_scans.specs.core_calls.Fronts.{Done}
use Rattle.lean_disk.specs.Faults.{HasCause}
use Rattle.lean_disk.specs.Story.{Story}
use Rattle.group_commit.specs.declared.receipts.Receipt.{Receipt}
use Rattle.paged_scans.specs.row_ends.Ends.{gives}
use Rattle.paged_scans.specs.row_ends.Receipts.{IsEnded}
use Rattle.paged_scans.specs.row_ends.declared.ending.Ended.{Ended}
use Rattle.paged_scans.specs.row_words.declared.event.Event.{Event}
use Rattle.paged_scans.specs.row_words.declared.event.Event.TheVariants.{End}
use Rattle.paged_scans.specs.rows_trait.declared.view.View.{View}
use Rattle.paged_scans.specs.session_desks.Parts.{AreAsMany, SeatFits, Works, here, shape}
use Rattle.paged_scans.proofs.session_desks.SeatLemmas.{holds_of}
use Rattle.paged_scans.specs.paged_desks.Calls.{CallDoes, EndsWork, works_behind}
use Rattle.paged_scans.specs.paged_desks.Machines.{IsReady, view_of}
use Rattle.paged_scans.specs.paged_desks.declared.machine.PagedMachine.{PagedMachine}
use Rattle.paged_scans.specs.paged_calls.Calls.{del_answer, get_answer, put_answer}
use Rattle.paged_ends.specs.Ends.{begin_answer, commit_answer, sync_answer}
use Rattle.paged_scans.specs.Calls.{step_answer}
use Rattle.paged_scans.specs.declared.scans.Step.{Step}
use Rattle.paged_scans.specs.declared.scans.Step.TheVariants as step
use Rattle.buffered_engine.specs.Calls.{IsTo, MayBe, is_stop}
use Rattle.paged_aborts.specs.Aborts.{HasReceipt, abort_answer}
use Rattle.buffered_engine.specs.Inside.Asks.{FindsFlushed, IsEndOf, IsEnding, ends_in, receipt_in}
use Rattle.buffered_engine.specs.Inside.Parts.{MachineWent}
use Rattle.buffered_engine.specs.Receipts.{IsReceipt, flushed_in}
use Rattle.buffered_engine.specs.declared.ends.Response.{Response}
use Rattle.buffered_engine.proofs.AskingLemmas.{may_more}
use Rattle.buffered_engine.proofs.ScanLemmas.{is_step}

-- ## Refusals

may_be : (many : ℕ) (why : Unserved) → MayRefuse many why ⊎ EndsWork why → MayBe many (unserved_answer why)
may_be many (unserved.Refused why) (inl m) = m
may_be many (unserved.Refused why) (inr e) = absurd (true≢false (sym e))
may_be many (unserved.Unanswered why) h = tt

works_still : (T : Type 0) (why : Unserved) → not (is_stop (unserved_answer why)) ≡ works_behind {A = T} (Err why)
works_still T (unserved.Refused why) = refl
works_still T (unserved.Unanswered why) = refl

stop_is : (why : Unserved) (q : Unanswered) → unserved_answer why ≡ Err q → why ≡ unserved.Unanswered q
stop_is (unserved.Refused why) q e = absurd (cc)
stop_is (unserved.Unanswered why) q e = cc

ends_unserved : (why : Unserved) → ends_in (unserved_answer why) ≡ false
ends_unserved (unserved.Refused why) = refl
ends_unserved (unserved.Unanswered why) = refl

-- ## Answers

-- a result as an answer to this call
pub record IsAnswer {T : Type 0} (many : ℕ) (c : Call) (f : Result T Unserved → Result Answer Unanswered) : Type 0 where
  pub refused : (q : Unserved) → f (Err q) ≡ unserved_answer q
  pub to : (r : Result T Unserved) → IsTo c (f r)
  pub come : (x : T) → MayBe many (f (Ok x))
  pub goes : (x : T) → is_stop (f (Ok x)) ≡ false
  pub apart : (x : T) (q : Unanswered) → f (Ok x) ≡ Err q → ⊥

pub begins : (many : ℕ) → IsAnswer many Call.Begin begin_answer
begins many = record { refused = λ q. refl; to = to; come = λ x. tt; goes = λ x. refl; apart = λ x q e. absurd (cc) }
  where
    to : (r : Result ℕ Unserved) → IsTo Call.Begin (begin_answer r)
    to (Ok x) = tt
    to (Err (unserved.Refused q)) = tt
    to (Err (unserved.Unanswered q)) = tt

pub gets : (many key : ℕ) → IsAnswer many (Call.Get key) get_answer
gets many key = record { refused = λ q. refl; to = to; come = λ x. tt; goes = λ x. refl; apart = λ x q e. absurd (cc) }
  where
    to : (r : Result (Option ℕ) Unserved) → IsTo (Call.Get key) (get_answer r)
    to (Ok x) = tt
    to (Err (unserved.Refused q)) = tt
    to (Err (unserved.Unanswered q)) = tt

pub puts : (many key value : ℕ) → IsAnswer many (Call.Put key value) put_answer
puts many key value = record { refused = λ q. refl; to = to; come = λ x. tt; goes = λ x. refl; apart = λ x q e. absurd (cc) }
  where
    to : (r : Result (Option ℕ) Unserved) → IsTo (Call.Put key value) (put_answer r)
    to (Ok x) = tt
    to (Err (unserved.Refused q)) = tt
    to (Err (unserved.Unanswered q)) = tt

pub dels : (many key : ℕ) → IsAnswer many (Call.Del key) del_answer
dels many key = record { refused = λ q. refl; to = to; come = λ x. tt; goes = λ x. refl; apart = λ x q e. absurd (cc) }
  where
    to : (r : Result (Option ℕ) Unserved) → IsTo (Call.Del key) (del_answer r)
    to (Ok x) = tt
    to (Err (unserved.Refused q)) = tt
    to (Err (unserved.Unanswered q)) = tt

pub steps : (many from to : ℕ) → IsAnswer many (Call.Scan from to) step_answer
steps many from to = record { refused = λ q. refl; to = is_step from to; come = come; goes = goes; apart = apart }
  where
    come : (x : Step) → MayBe many (step_answer (Ok x))
    come (step.Pair key value) = tt
    come (step.More at) = tt
    come step.End = tt

    goes : (x : Step) → is_stop (step_answer (Ok x)) ≡ false
    goes (step.Pair key value) = refl
    goes (step.More at) = refl
    goes step.End = refl

    apart : (x : Step) (q : Unanswered) → step_answer (Ok x) ≡ Err q → ⊥
    apart (step.Pair key value) q e = absurd (cc)
    apart (step.More at) q e = absurd (cc)
    apart step.End q e = absurd (cc)

pub commits : (many : ℕ) → IsAnswer many Call.Commit commit_answer
commits many = record { refused = λ q. refl; to = to; come = λ x. tt; goes = λ x. refl; apart = λ x q e. absurd (cc) }
  where
    to : (r : Result Ended Unserved) → IsTo Call.Commit (commit_answer r)
    to (Ok x) = tt
    to (Err (unserved.Refused q)) = tt
    to (Err (unserved.Unanswered q)) = tt

pub aborts : (many : ℕ) → IsAnswer many Call.Abort abort_answer
aborts many = record { refused = λ q. refl; to = to; come = λ x. tt; goes = λ x. refl; apart = λ x q e. absurd (cc) }
  where
    to : (r : Result Ended Unserved) → IsTo Call.Abort (abort_answer r)
    to (Ok x) = tt
    to (Err (unserved.Refused q)) = tt
    to (Err (unserved.Unanswered q)) = tt

pub syncs : (many : ℕ) → IsAnswer many Call.Sync sync_answer
syncs many = record { refused = λ q. refl; to = to; come = λ x. tt; goes = λ x. refl; apart = λ x q e. absurd (cc) }
  where
    to : (r : Result ℕ Unserved) → IsTo Call.Sync (sync_answer r)
    to (Ok x) = tt
    to (Err (unserved.Refused q)) = tt
    to (Err (unserved.Unanswered q)) = tt

-- ## Ends

ends_none : (own : ℕ) (v w : View) (a : Result Answer Unanswered) → ends_in a ≡ false → IsEndOf own v w a None
ends_none own v w a e = record {
  ended = λ r q. absurd (cc);
  none = λ _. e;
  some = λ r q. absurd (cc);
  commit = λ number at q. absurd (true≢false (sym (ap ends_in q) ∙ e));
}

pub begins_none : (own : ℕ) (v w : View) (r : Result ℕ Unserved) → IsEndOf own v w (begin_answer r) None
begins_none own v w (Ok x) = ends_none own v w (Ok (answer.Begun x)) refl
begins_none own v w (Err why) = ends_none own v w (unserved_answer why) (ends_unserved why)

pub gets_none : (own : ℕ) (v w : View) (r : Result (Option ℕ) Unserved) → IsEndOf own v w (get_answer r) None
gets_none own v w (Ok x) = ends_none own v w (Ok (answer.Value x)) refl
gets_none own v w (Err why) = ends_none own v w (unserved_answer why) (ends_unserved why)

pub puts_none : (own : ℕ) (v w : View) (r : Result (Option ℕ) Unserved) → IsEndOf own v w (put_answer r) None
puts_none own v w (Ok x) = ends_none own v w (Ok (answer.Was x)) refl
puts_none own v w (Err why) = ends_none own v w (unserved_answer why) (ends_unserved why)

pub dels_none : (own : ℕ) (v w : View) (r : Result (Option ℕ) Unserved) → IsEndOf own v w (del_answer r) None
dels_none own v w (Ok x) = ends_none own v w (Ok (answer.Was x)) refl
dels_none own v w (Err why) = ends_none own v w (unserved_answer why) (ends_unserved why)

pub steps_none : (own : ℕ) (v w : View) (r : Result Step Unserved) → IsEndOf own v w (step_answer r) None
steps_none own v w (Ok (step.Pair key value)) = ends_none own v w (Ok (answer.Pair key value)) refl
steps_none own v w (Ok (step.More at)) = ends_none own v w (Ok (answer.More at)) refl
steps_none own v w (Ok step.End) = ends_none own v w (Ok answer.End) refl
steps_none own v w (Err why) = ends_none own v w (unserved_answer why) (ends_unserved why)

pub syncs_none : (own : ℕ) (v w : View) (r : Result ℕ Unserved) → IsEndOf own v w (sync_answer r) None
syncs_none own v w (Ok x) = ends_none own v w (Ok (answer.Synced x)) refl
syncs_none own v w (Err why) = ends_none own v w (unserved_answer why) (ends_unserved why)

some_is : {A : Type 0} (a b : A) → Some a ≡ Some b → a ≡ b
some_is a b e = cc

some_none : {A : Type 0} (a : A) → ◌≡◌ {A = Option A} (Some a) None → ⊥
some_none a e = absurd (cc)

-- the receipt of an end
abbrev receipt_of : (own : ℕ) → Ended → Receipt
receipt_of own e = record { txn = e.number; log = own; gsn = e.at; need = e.need }

end_of : (own : ℕ) (v w : View) (e : Ended) (a : Result Answer Unanswered) → IsEnding own v w a (receipt_of own e) → ends_in a ≡ true → ((number at : ℕ) → a ≡ Ok (answer.Committed number at) → (e.number ≡ number) × (e.at ≡ at)) → IsEndOf own v w a (Some (receipt_of own e))
end_of own v w e a is ends commit = record {
  ended = λ q p. subst (IsEnding own v w a) (some_is (receipt_of own e) q p) is;
  none = λ p. absurd (some_none (receipt_of own e) p);
  some = λ q p. ends;
  commit = λ number at p. let k = commit number at p in (receipt_of own e, refl, k.0, k.1);
}

module _ {D : Type 0} (story : D → Story) (m n : PagedMachine D) (ready : Works n.machine → IsReady story n) (turn : Works n.machine → n.machine.work.session.own ≡ m.machine.work.session.own) where
  abbrev own : ℕ
  own = m.machine.work.session.own

  -- the receipt has what the core's worker has
  receipt_is : Works n.machine → (e : Ended) (flushed : ℕ) → e.number ≡ n.machine.work.session.txn → e.at ≡ n.machine.work.session.end → e.need ≡ need_of n.machine.work.session.clock.debt flushed → IsReceipt own flushed (view_of n) (receipt_of own e)
  receipt_is works e flushed number at need = subst (λ (k : ℕ). IsReceipt k flushed (view_of n) (receipt_of k e)) (turn works)
      (let h = holds_of (shape n.machine) (view_of n) (here n.machine) n.machine.desks.items (ready works).sound.desks in record {
        log = refl;
        txn = number ∙ sym h.session.txn;
        gsn = at ∙ sym h.session.end;
        need = need ∙ ap (λ (d : ℕ). need_of d flushed) (sym h.session.debt);
      })

  pub commit_ends : (r : Result Ended Unserved) → n.machine.work.session.works ≡ works_behind r → IfOk r (IsEnded (view_of m) n.machine.work.session) → IsEndOf own (view_of m) (view_of n) (commit_answer r) (receipt_in own r)
  commit_ends (Err why) works is = ends_none own (view_of m) (view_of n) (unserved_answer why) (ends_unserved why)
  commit_ends (Ok e) works is = end_of own (view_of m) (view_of n) e (Ok (answer.Committed e.number e.at))
      (record { flushed = flushed_in (view_of m); was = refl; is = receipt_is works e (flushed_in (view_of m)) is.number is.at is.need }) refl (λ number at q. (cc, cc))

  -- what an abort found flushed
  finds : (e : Ended) (h : HasReceipt m n e) → FindsFlushed own h.floor (view_of m) (view_of n)
  finds e h = let ends : List Event = End own false h.floor ∷ gives own h.rows in record {
    events = h.events ++ ends;
    given = h.kept;
    seen = h.ended ∙ (ap (λ (es : List Event). es ++ ends) h.seen ∙ append_assoc (view_of m).seen h.events ends);
    has = has_right (End own false h.floor) h.events ends (inl refl);
  }

  pub abort_ends : (r : Result Ended Unserved) → n.machine.work.session.works ≡ works_behind r → IfOk r (HasReceipt m n) → IsEndOf own (view_of m) (view_of n) (abort_answer r) (receipt_in own r)
  abort_ends (Err why) works is = ends_none own (view_of m) (view_of n) (unserved_answer why) (ends_unserved why)
  abort_ends (Ok e) works is = end_of own (view_of m) (view_of n) e (Ok (answer.Aborted e.number))
      (record {
        flushed = is.floor;
        was = finds e is;
        is = receipt_is works e is.floor is.told.number is.told.at (is.told.need ∙ ap (need_of n.machine.work.session.clock.debt) (sym is.floor_is));
      }) refl (λ number at q. absurd (cc))

-- ## A call

-- of the call that it is, and with the response that it had
pub told_as : (P : Call → Response → Type 0) (c d : Call) (r t : Response) → c ≡ d → r ≡ t → P d t → P c r
told_as P c d r t e f p = subst (λ (q : Call). P q r) (sym e) (subst (P d) (sym f) p)

module _ {D T : Type 0} (story : D → Story) (faults : D → ℕ) (May : Opening → List Done → Type 0) (many own : ℕ) (c : Call) (f : Result T Unserved → Result Answer Unanswered) (k : IsAnswer many c f) (receipt : Option Receipt) (m n : PagedMachine D) where
  back : (r : Result T Unserved) (q : Unanswered) → f r ≡ Err q → r ≡ Err (unserved.Unanswered q)
  back (Ok t) q e = absurd (k.apart t q e)
  back (Err why) q e = ap Err (stop_is why q (sym (k.refused why) ∙ e))

  may_come : (r : Result T Unserved) → IfErr r (λ why. MayRefuse many why ⊎ EndsWork why) → MayBe many (f r)
  may_come (Ok t) h = k.come t
  may_come (Err why) h = subst (MayBe many) (sym (k.refused why)) (may_be many why h)

  stops_is : (r : Result T Unserved) → not (is_stop (f r)) ≡ works_behind r
  stops_is (Ok t) = ap not (k.goes t)
  stops_is (Err why) = ap (λ (a : Result Answer Unanswered). not (is_stop a)) (k.refused why) ∙ works_still T why

  pub call_went : (r : Result T Unserved) → IsReady story m → CallDoes story May own c (f r) m n → IsEndOf own (view_of m) (view_of n) (f r) receipt → (Works n.machine → IsReady story n) → (SeatFits m.machine → SeatFits n.machine) → AreAsMany m.machine n.machine
      → n.machine.work.session.works ≡ works_behind r → IfErr r (λ why. MayRefuse many why ⊎ EndsWork why) → (r ≡ Err (unserved.Unanswered unanswered.Broken)) ↔ (m.machine.work.session.works ≡ false)
      → HasCause (faults m.machine.work.disk) (faults n.machine.work.disk) (r ≡ Err (unserved.Unanswered unanswered.DiskFault)) → MachineWent story faults May many own c (record { answer = f r; receipt = receipt }) m n
  call_went r was does ends ready fits session works come broken cause = record {
    does = does;
    to = k.to r;
    may = may_come r come;
    ends = ends;
    ready = ready;
    fits = fits was.sound.fits;
    session = session;
    works = works ∙ sym (stops_is r);
    not_broken = λ q. true≢false (sym was.works ∙ broken.0 (back r unanswered.Broken q));
    cause_disk_fault = record { later = cause.later; cause = λ q. cause.cause (back r unanswered.DiskFault q); calm = λ x. cause.calm (λ q. x (ap f q ∙ k.refused (unserved.Unanswered unanswered.DiskFault))) };
  }

-- it may have come to any number of sessions
pub went_more : {D : Type 0} (story : D → Story) (faults : D → ℕ) (May : Opening → List Done → Type 0) (own : ℕ) (c : Call) (r : Response) (m n : PagedMachine D) (many : ℕ) → MachineWent story faults May 1 own c r m n → MachineWent story faults May many own c r m n
went_more story faults May session c r m n many w = record {
  does = w.does;
  to = w.to;
  may = may_more many r.answer w.may;
  ends = w.ends;
  ready = w.ready;
  fits = w.fits;
  session = w.session;
  works = w.works;
  not_broken = w.not_broken;
  cause_disk_fault = w.cause_disk_fault;
}
