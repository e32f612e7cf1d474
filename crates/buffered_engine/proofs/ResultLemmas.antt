-- The answer of a commit, by its receipt.
use Rattle.std.proofs.Common.{◌≡◌, inl, inr, ◌↔◌, ℕ, Bool, true, false, Option, None, Some, Result, refl, Ok, Err, sym, ap, ◌∙◌, subst}
use Rattle.std.proofs.lemmas.Bool.{cases_Bool}
use Rattle.map_model.specs.declared.call.Answer.{Answer}
use Rattle.map_model.specs.declared.call.Answer.TheVariants as answer
use Rattle.map_model.specs.declared.call.Call.TheVariants as call
use Rattle.paged_scans.specs.engine_trait.declared.unserved.Unanswered.TheVariants as unanswered
use Rattle.group_commit.specs.declared.receipts.Receipt.{Receipt}
use Rattle.paged_scans.specs.rows_trait.declared.view.View.{View}
use Rattle.buffered_engine.specs.Calls.{IsTo}
use Rattle.buffered_engine.specs.Inside.Asks.{IsEndOf, IsEnding, IsServed, is_commit_in}
use Rattle.buffered_engine.specs.Receipts.{IsReceipt, flushed_in}
use Rattle.buffered_engine.proofs.AskLemmas.{commit_flushed}
use Rattle.paged_scans.specs.engine_trait.declared.unserved.Unanswered.{Unanswered}

some_is : (p q : Receipt) → Some p ≡ Some q → p ≡ q
some_is p q e = cc

no_commit : (n at : ℕ) → ◌≡◌ {A = Result Answer Unanswered} (Ok (answer.Committed n at)) (Err unanswered.Broken) → ⊥
no_commit n at e = absurd (cc)

-- where a commit is answered, its receipt has the numbers of the answer
pub committed_is : (works : Bool) (own : ℕ) (v w : View) (a : Result Answer Unanswered) (receipt : Option Receipt) (r : Receipt) (n at : ℕ) → (a ≡ Err unanswered.Broken) ↔ (works ≡ false) → (works ≡ true → IsEndOf own v w a receipt)
    → a ≡ Ok (answer.Committed n at) → receipt ≡ Some r → a ≡ Ok (answer.Committed r.txn r.gsn)
committed_is works own v w a receipt r n at broken ended e f =
    let end : IsEndOf own v w a receipt = ended (elim (cases_Bool works) [ inl t ↦ t | inr q ↦ absurd (no_commit n at (sym e ∙ broken.1 q)) ]) in
    let k = end.commit n at e in
    let same : k.0 ≡ r = some_is k.0 r (sym k.1 ∙ f) in
    e ∙ (ap (λ (x : ℕ). Ok (answer.Committed x at)) (sym k.2 ∙ ap (λ (x : Receipt). x.txn) same) ∙ ap (λ (x : ℕ). Ok (answer.Committed r.txn x)) (sym k.3 ∙ ap (λ (x : Receipt). x.gsn) same))

-- and it is what the end needs
pub receipt_is : (works : Bool) (own : ℕ) (v w : View) (a : Result Answer Unanswered) (receipt : Option Receipt) (r : Receipt) (n at : ℕ) → (a ≡ Err unanswered.Broken) ↔ (works ≡ false) → (works ≡ true → IsEndOf own v w a receipt)
    → a ≡ Ok (answer.Committed n at) → receipt ≡ Some r → IsReceipt own (flushed_in v) w r
receipt_is works own v w a receipt r n at broken ended e f =
    let end : IsEndOf own v w a receipt = ended (elim (cases_Bool works) [ inl t ↦ t | inr q ↦ absurd (no_commit n at (sym e ∙ broken.1 q)) ]) in
    let k : IsEnding own v w a r = end.ended r f in
    subst (λ (flushed : ℕ). IsReceipt own flushed w r) (commit_flushed a own v w k.flushed (ap is_commit_in e) k.was) k.is

-- a commit that was served has ended
pub served_end : (a : Result Answer Unanswered) → IsTo call.Commit a → IsServed a → (n : ℕ) × (at : ℕ) × (a ≡ Ok (answer.Committed n at))
served_end (Ok (answer.Committed n at)) t s = (n, at, refl)
served_end (Ok (answer.Refused why)) t s = absurd s
served_end (Ok a) t s = absurd t
served_end (Err why) t s = absurd s

no_receipt : (r : Receipt) → ◌≡◌ {A = Option Receipt} (Some r) None → ⊥
no_receipt r e = absurd (cc)

-- and has a receipt
pub receipt_some : (works : Bool) (own : ℕ) (v w : View) (a : Result Answer Unanswered) (receipt : Option Receipt) (n at : ℕ) → (a ≡ Err unanswered.Broken) ↔ (works ≡ false) → (works ≡ true → IsEndOf own v w a receipt) → a ≡ Ok (answer.Committed n at) → receipt ≡ None → ⊥
receipt_some works own v w a receipt n at broken ended e f =
    let end : IsEndOf own v w a receipt = ended (elim (cases_Bool works) [ inl t ↦ t | inr q ↦ absurd (no_commit n at (sym e ∙ broken.1 q)) ]) in
    let k = end.commit n at e in
    no_receipt k.0 (sym k.1 ∙ f)
