-- How far logs are flushed, and how many commits wait for a flush.
use Rattle.std.proofs.Common.{◌≡◌, ◌⊎◌, inl, inr, ◌≤◌, ◌<◌, ◌^◌, ℕ, zero, suc, true, ◌&&◌, ◌==◌, ltb, List, ◌∷◌, length, refl, ap, arith}
use Rattle.std.proofs.lemmas.Bool.{and_from, cases_eq, cases_lt, cond-true, eq-eqb, lt-ltb}
use Rattle.map_model.specs.Lists.{keep}
use Rattle.rfa_model.specs.Reaches.{least}
use Rattle.rfa_model.proofs.ReachLemmas.{least_from, least_low}
use Rattle.session_state.specs.image_model.Entries.{Entry, Kind, is_commit}
use Rattle.session_state.specs.core_state.Events.{Event}
use Rattle.session_state.specs.core_state.Openings.{Opening}
use Rattle.session_state.specs.core_state.States.{State, flushed_by_all}
use Rattle.session_state.specs.core_state.Steps.{end_entry, happens}
use Rattle.session_state.specs.core_calls.LogEvents.{behind}
use Rattle.row_ends.specs.Flushed.{flushed_to}

-- ## The least number

-- it is at most each
pub flushed_low : (s : State) (n u : ℕ) → 0 < u → u ≤ n → flushed_to s n ≤ s.flushed u
flushed_low s zero u some high = absurd (omega arith)
flushed_low s (suc n) u some high = go (flushed_low s n u some) (cases_eq u (suc n))
  where
    go : (u ≤ n → flushed_to s n ≤ s.flushed u) → (u ≡ suc n) ⊎ (u ≡ suc n → ⊥) → flushed_to s (suc n) ≤ s.flushed u
    go before (inl e) = let q = ap (λ (v : ℕ). s.flushed v) e in omega arith
    go before (inr other) = let q = before (lower other) in omega arith
      where
        lower : (u ≡ suc n → ⊥) → u ≤ n
        lower apart = elim (cases_lt n u) [ inl l ↦ absurd (apart (let q = l in let h = high in omega arith)) | inr l ↦ l ]

-- and at least what each is at least
pub flushed_from : (s : State) (n x : ℕ) → x < 2 ^ 64 → ((u : ℕ) → 0 < u → u ≤ n → x ≤ s.flushed u) → x ≤ flushed_to s n
flushed_from s zero x small each = omega arith
flushed_from s (suc n) x small each =
    let a = flushed_from s n x small (λ u some high. each u some (omega arith)) in
    let b = each (suc n) (omega arith) (omega arith) in omega arith

-- the least of all, where it fits its word
flushed_is : (s : State) (n : ℕ) → 0 < n → least s.flushed n < 2 ^ 64 → flushed_to s n ≡ least s.flushed n
flushed_is s n some small = equal (flushed_to s n) (least s.flushed n)
    (least_from s.flushed n (flushed_to s n) some (λ u low high. flushed_low s n u low high))
    (flushed_from s n (least s.flushed n) small (λ u low high. least_low s.flushed n u low high))
  where
    equal : (a b : ℕ) → a ≤ b → b ≤ a → a ≡ b
    equal a b p q = omega arith

pub flushed_all : (g : Opening) (s : State) → flushed_by_all g s < 2 ^ 64 → flushed_to s g.workers ≡ flushed_by_all g s
flushed_all g s small = flushed_is s g.workers g.some_worker small

-- ## The commits that wait

-- a commit waits, since it is behind all that is flushed
pub behind_commit : (g : Opening) (s : State) (w f : ℕ) → s.flushed w ≤ (s.worker w).clock → behind (happens g s (Event.End w true f)) w ≡ suc (behind s w)
behind_commit g s w f low = ap (λ (es : List Entry). length es) (cond-true ((w == w) && ltb (s.flushed w) (suc (s.worker w).clock)) (end_entry Kind.Commit w (s.worker w) f ∷ rest) rest
    (and_from (w == w) (ltb (s.flushed w) (suc (s.worker w).clock)) (eq-eqb w w refl) (lt-ltb (s.flushed w) (suc (s.worker w).clock) (omega arith))))
  where
    rest : List Entry
    rest = keep (λ e. is_commit e.kind && ((e.log == w) && ltb (s.flushed w) e.number)) s.entries
