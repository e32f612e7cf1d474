-- What refuses a begin before a sync refuses it behind it.
use Rattle.std.proofs.Common.{◌≡◌, ◌≤◌, ◌+◌, ◌-◌, ◌^◌, ◌==◌, ℕ, leb, Bool, true, false, cond, Option, None, Some, refl, ap, ◌∙◌, arith, true≢false}
use Rattle.std.proofs.lemmas.Bool.{le-leb, leb-true}
use Rattle.map_model.specs.declared.call.Refusal.{Refusal}
use Rattle.map_model.specs.declared.call.Refusal.TheVariants as refusal
use Rattle.paged_desks.specs.core_state.States.{State}
use Rattle.paged_desks.specs.engine_trait.Refusals.{log_refusal}
use Rattle.paged_desks.specs.worker_log.Calls.{flushed_log}
use Rattle.paged_desks.specs.worker_log.Logs.{Log, limit, used}
use Rattle.paged_desks.specs.session_state.Syncs.{flushed_of}

none_is : (r : Refusal) → None ≡ Some r → ⊥
none_is r e = absurd (cc)

-- ## What a log that is full stays

used_one : (log : Log) → log.head ≤ log.next → (b : Bool) → ((log.next + cond b 0 1) - log.head) + 0 ≡ (log.next - log.head) + cond b 0 1
used_one log order true = omega arith
used_one log order false = omega arith

used_flushed : (log : Log) → log.head ≤ log.next → used (flushed_log log) ≡ used log
used_flushed log order = used_one log order (log.count == 0)

pub used_of : (log : Log) → log.head ≤ log.next → used (flushed_of log) ≡ used log
used_of log order = go (log.last == log.flushed)
  where
    go : (b : Bool) → used (cond b log (flushed_log log)) ≡ used log
    go true = refl
    go false = used_flushed log order

pub limit_of : (log : Log) → limit (flushed_of log) ≡ limit log
limit_of log = go (log.last == log.flushed)
  where
    go : (b : Bool) → limit (cond b log (flushed_log log)) ≡ limit log
    go true = refl
    go false = refl

-- what refuses a begin, by how many blocks its log uses
abbrev pub begin_by : State → (own used limit : ℕ) → Option Refusal
begin_by s own u l = cond (s.worker own).is_open (Some refusal.InTransaction) (cond (leb l u) (Some (refusal.LogFull u l)) (cond (leb (2 ^ 62) (s.worker own).clock) (Some refusal.ClockSpent) None))

-- what refuses a begin before a sync refuses it behind it
stays_so : (u l c d : ℕ) → c ≤ d → (q : Refusal) → cond (leb l u) (Some (refusal.LogFull u l)) (cond (leb (2 ^ 62) c) (Some refusal.ClockSpent) None) ≡ Some q
    → cond (leb l u) (Some (refusal.LogFull u l)) (cond (leb (2 ^ 62) d) (Some refusal.ClockSpent) None) ≡ Some q
stays_so u l c d le q = full (leb l u)
  where
    spent : (b : Bool) → leb (2 ^ 62) c ≡ b → ◌≡◌ {A = Option Refusal} (cond b (Some refusal.ClockSpent) None) (Some q) → ◌≡◌ {A = Option Refusal} (cond (leb (2 ^ 62) d) (Some refusal.ClockSpent) None) (Some q)
    spent true e h = ap (λ (b : Bool). cond b (Some refusal.ClockSpent) None) (le-leb (2 ^ 62) d (let a = leb-true (2 ^ 62) c e in omega arith)) ∙ h
    spent false e h = absurd (none_is q h)

    full : (b : Bool) → cond b (Some (refusal.LogFull u l)) (cond (leb (2 ^ 62) c) (Some refusal.ClockSpent) None) ≡ Some q → cond b (Some (refusal.LogFull u l)) (cond (leb (2 ^ 62) d) (Some refusal.ClockSpent) None) ≡ Some q
    full true h = h
    full false h = spent (leb (2 ^ 62) c) refl h

stays_log : (c d : ℕ) (a b : Log) → used b ≡ used a → limit b ≡ limit a → c ≤ d → (q : Refusal) → log_refusal c a None ≡ Some q → log_refusal d b None ≡ Some q
stays_log c d a b u l le q h = (λ i. cond (leb (l i) (u i)) (Some (refusal.LogFull (u i) (l i))) (cond (leb (2 ^ 62) d) (Some refusal.ClockSpent) None)) ∙ stays_so (used a) (limit a) c d le q h

-- where no transaction is open
pub stays_closed : (c d : ℕ) (a b : Log) (open0 open1 : Bool) → open0 ≡ false → open1 ≡ false → used b ≡ used a → limit b ≡ limit a → c ≤ d → (q : Refusal) → cond open0 (Some refusal.InTransaction) (log_refusal c a None) ≡ Some q → cond open1 (Some refusal.InTransaction) (log_refusal d b None) ≡ Some q
stays_closed c d a b true open1 e f u l le q h = absurd (true≢false e)
stays_closed c d a b false true e f u l le q h = absurd (true≢false f)
stays_closed c d a b false false e f u l le q h = stays_log c d a b u l le q h
