-- What staging is to a session whose clock alone has changed before it.
use Rattle.std.proofs.Common.{◌≡◌, inl, inr, ◌≤◌, ◌+◌, ℕ, List, [], ◌∷◌, length, Option, Some, None, Result, refl, sym, ap, ◌∙◌, subst, arith}
use Rattle.std.proofs.lemmas.Bool.{cases_lt}
use Rattle.std.specs.Option.{option_or}
use Rattle.core_covers.specs.Firsts.{or_else}
use Rattle.btree_descent.specs.draw_trait.declared.draw.Unstaged.{Unstaged}
use Rattle.flush_avoidance.specs.declared.Clock.{Clock}
use Rattle.lean_disk.specs.Story.{Story}
use Rattle.btree_descent.specs.log_record.declared.record.Record.{Record}
use Rattle.engine_calls.specs.log_block.Block.{records_text}
use Rattle.engine_calls.specs.worker_log.Calls.{After, HasRoom}
use Rattle.engine_calls.specs.worker_log.Logs.{Log}
use Rattle.flush_avoidance.specs.Clocks.{risen}
use Rattle.session_state.specs.Staging.{IsButClock, IsButStaged, Staging}
use Rattle.session_state.specs.declared.session.Session.{Session}
use Rattle.session_state.specs.declared.undo.Undone.{Undone}
use denote.Struct.Props.{props}

-- a session whose clock has another number and debt
pub but_clock : (x y : Session) (number debt : ℕ) → y ≡ record x { clock = record x.clock { clock = number; debt = debt } } → IsButClock x y
but_clock x y number debt e = e ∙ (λ i. record x { clock = risen x.clock (sym e i).clock })

-- a record flushes nothing
pub staged_flushed : (r : Record) (was is : Log) → After r was is → is.flushed ≡ was.flushed
staged_flushed r was is a = elim (cases_lt 2000 (length was.payload + length (records_text (r ∷ [])))) [
  | inl over ↦ ap (λ (l : Log). l.flushed) (a.full (λ (fits : HasRoom was r). absurd (omega arith)))
  | inr fits ↦ ap (λ (l : Log). l.flushed) (a.room fits)
]

-- what came of a record is told of the session as it was
pub stages_from : (r : Result (Unit {0}) Unstaged) (x y z : Session) (before now : List Record) (was is : Log) (old new : Story) (S : Type 0) (f0 f1 : ℕ) → IsButClock x y → Staging r y z before now was is old new S f0 f1 → Staging r x z before now was is old new S f0 f1
stages_from r x y z before now was is old new S f0 f1 same st = record { came = t.came; cause = t.cause; session = t.session; first = t.first }
  where
    t : Staging r (record x { clock = risen x.clock y.clock }) z before now was is old new S f0 f1
    t = subst (λ (k : Session). Staging r k z before now was is old new S f0 f1) same st

-- the first record's number is what it was, or else that of this one
pub first_or : (first : Option ℕ) (n k : ℕ) → n ≡ k → option_or first (Some n) ≡ or_else first (Some k)
first_or None n k e = ap Some e
first_or (Some m) n k e = refl

-- ## Two sessions by what they hold

-- that a session's number is low is a fact, whatever it rests on
few_is : (n : ℕ) (p q : n ≤ 16) → p ≡ q
few_is n p q = let low : IsProp (n ≤ 16) = hlevel props in low p q

-- the clock alone was set
pub clock_set : (x : Session) (c d : Clock) (f : x.own ≤ 16) → c ≡ d → record x { clock = c; few = f } ≡ record x { clock = d }
clock_set x c d f e i = record x { clock = e i; few = few_is x.own f x.few i }

-- or what is to put back
pub undo_set : (x : Session) (us vs : List Undone) (f : x.own ≤ 16) → us ≡ vs → record x { undo = us; few = f } ≡ record x { undo = vs }
undo_set x us vs f e i = record x { undo = e i; few = few_is x.own f x.few i }

-- or the first record's number
pub first_set : (x : Session) (n : Option ℕ) (f : x.own ≤ 16) → IsButStaged x (record x { first = n; few = f })
first_set x n f i = record x { first = n; few = few_is x.own f x.few i }
