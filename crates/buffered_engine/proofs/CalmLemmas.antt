-- When a take finds none of the ends: behind a call, and behind a take.
use Rattle.std.proofs.Common.{◌≡◌, ◌≤◌, ◌<◌, ◌-◌, ℕ, suc, List, length, get_or, take, Option, Some, None, refl, sym, ◌∙◌, subst, arith, Result}
use Rattle.std.proofs.lemmas.Grind.{same_number_lists}
use Rattle.std.proofs.lemmas.List.{length-take-le}
use Rattle.map_model.specs.declared.call.Answer.{Answer}
use Rattle.group_commit.specs.Queues.{Takes}
use Rattle.group_commit.specs.Ripeness.{flushed_of}
use Rattle.group_commit.specs.declared.queue.End.{End}
use Rattle.group_commit.specs.declared.receipts.Receipt.{Receipt}
use Rattle.paged_scans.specs.worker_log.Logs.{Log}
use Rattle.buffered_engine.specs.Inside.Asks.{AreNumbers, put_ends}
use Rattle.buffered_engine.specs.Inside.Calm.{AreSame, IsCalm, IsStill, calm_behind}
use Rattle.buffered_engine.proofs.TakeLemmas.{flushed_take}
use Rattle.paged_scans.specs.engine_trait.declared.unserved.Unanswered.{Unanswered}

-- behind a call
calm_put : (calm : Option (List ℕ)) (receipt : Option Receipt) (a : Result Answer Unanswered) (logs now : ℕ) (ends : List (List End)) → now ≡ logs → IsCalm calm logs ends → IsCalm (calm_behind calm receipt) now (put_ends receipt a ends)
calm_put calm None a logs now ends e h = subst (λ (n : ℕ). IsCalm calm n ends) (sym e) h
calm_put calm (Some r) a logs now ends e h = tt

-- so behind it, by what is in memory then
pub calm_behind_put : (calm calm_new : Option (List ℕ)) (receipt : Option Receipt) (a : Result Answer Unanswered) (logs now : ℕ) (ends ends_new : List (List End)) → calm_new ≡ calm_behind calm receipt → ends_new ≡ put_ends receipt a ends → now ≡ logs → IsCalm calm logs ends → IsCalm calm_new now ends_new
calm_behind_put calm calm_new receipt a logs now ends ends_new is are e h =
    subst (λ (o : Option (List ℕ)). IsCalm o now ends_new) (sym is) (subst (λ (qs : List (List End)). IsCalm (calm_behind calm receipt) now qs) (sym are) (calm_put calm receipt a logs now ends e h))

-- the numbers that were taken
pub same_taken : (logs : ℕ) (numbers : List ℕ) → logs ≤ length numbers → AreSame logs numbers (take logs numbers)
same_taken logs numbers long = record { count = length-take-le logs numbers long; each = λ w low high. flushed_take logs w numbers low high }

-- a take that found none is none by the same numbers
pub calm_found : (logs : ℕ) (numbers : List ℕ) (ends : List (List End)) → logs ≤ length numbers → Takes (take logs numbers) ends None ends → IsCalm (Some numbers) logs ends
calm_found logs numbers ends long takes fs same =
    subst (λ (ys : List ℕ). Takes ys ends None ends) (same_number_lists (take logs numbers) fs (length-take-le logs numbers long ∙ sym same.count) (λ k l. at k (subst (λ (n : ℕ). k < n) (length-take-le logs numbers long) l))) takes
  where
    at : (k : ℕ) → k < logs → get_or (take logs numbers) k 0 ≡ get_or fs k 0
    at k l =
        let first : suc k - 1 ≡ k = omega arith in
        let e : flushed_of (take logs numbers) (suc k) ≡ flushed_of fs (suc k) = flushed_take logs (suc k) numbers (omega arith) (omega arith) ∙ sym (same.each (suc k) (omega arith) (omega arith)) in
        subst (λ (i : ℕ). get_or (take logs numbers) i 0 ≡ get_or fs i 0) first e

-- so the next would find none
pub takes_calm : (calm : Option (List ℕ)) (numbers : List ℕ) (logs : ℕ) (ends : List (List End)) → calm ≡ Some numbers → logs ≤ length numbers → IsCalm calm logs ends → Takes (take logs numbers) ends None ends
takes_calm calm numbers logs ends e long h = subst (λ (o : Option (List ℕ)). IsCalm o logs ends) e h (take logs numbers) (same_taken logs numbers long)

-- what a take by numbers finds that the logs have
pub record FindsNone (logs : ℕ) (log : ℕ → Log) (ends : List (List End)) : Type 0 where
  pub numbers : List ℕ
  pub long : logs ≤ length numbers
  pub are : AreNumbers logs log numbers
  pub takes : Takes (take logs numbers) ends None ends

pub finds_none : (calm : Option (List ℕ)) (logs : ℕ) (log : ℕ → Log) (ends : List (List End)) → IsStill calm logs log → IsCalm calm logs ends → FindsNone logs log ends
finds_none None logs log ends s h = absurd s
finds_none (Some numbers) logs log ends s h = record { numbers = numbers; long = s.long; are = s.are; takes = takes_calm (Some numbers) numbers logs ends refl s.long h }
