-- What places answer.
use Rattle.std.specs.Prelude.{◌≡◌, ◌<◌, ◌^◌, ℕ, Bool, suc, leb, List, [], Option, Some, None, Result, Ok, Err, if◌then◌else◌}
use Rattle.page_model.specs.Pairs.{find}
use Rattle.rfa_model.specs.Stamps.{need_of}
use Rattle.core_state.specs.States.{State}
use Rattle.core_state.specs.Openings.{Opening}
use Rattle.core_state.specs.Events.{Event}
use Rattle.transactions.specs.declared.hindrance.Refusal.{Refusal}
use Rattle.transactions.specs.declared.hindrance.Refusal.TheVariants.{LogFull}
use Rattle.transactions.specs.declared.hindrance.Receipt.{Receipt}
use Rattle.transactions.specs.Kinds.{in_changes}
use Rattle.transactions.specs.Paths.{Any, Takes}

-- a log has room while changes may use more blocks
abbrev pub room_of : ℕ → ℕ → Result Unit Refusal
room_of used limit = if leb limit used then Err (LogFull used limit) else Ok tt

-- a value was deleted, or none was found
abbrev pub Deleted : {A : Type 0} → (Opening → List Event → List ℕ → A → Type 0) → (Opening → List Event → List Event → A → A → Type 0) → (A → Bool) → Opening → List Event → (w key : ℕ) → A → A → Option ℕ → Type 0
Deleted S L Q g es w key a b (Some value) = (value < 2 ^ 63) × (page : ℕ) × Takes S L Q in_changes g es w (Event.Change w page key (2 ^ 63)) (λ s. Some value ≡ find key (s.page page).node.pairs) [] a b
Deleted S L Q g es w key a b None = (page : ℕ) × Takes S L Q in_changes g es w (Event.Read w page key None) Any [] a b

-- what the end of w's transaction says, where it found all logs flushed up to f
pub record IsReceipt (w f : ℕ) (r : Receipt) (s : State) : Type 0 where
  pub txn : r.txn ≡ (s.worker w).txn
  pub log : r.log ≡ w
  pub gsn : r.gsn ≡ suc (s.worker w).clock
  pub need : r.need ≡ need_of (s.worker w).debt f
