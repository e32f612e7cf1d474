-- Who stands in the way of a lock: as a lock finds and as the core names.
use Rattle.std.proofs.Common.{◌≡◌, ◌⊎◌, inl, inr, ◌≤◌, ℕ, true, Option, Some, None, refl, sym, ap, ◌∙◌, arith, eq-eqb}
use Rattle.session_state.specs.core_state.Events as happening
use Rattle.session_state.specs.core_state.Needs.{is_free, is_held_by, is_reader}
use Rattle.session_state.specs.core_state.States.{Row}
use Rattle.session_state.specs.core_calls.Refusals.{Hinders}
use Rattle.session_state.specs.key_locks.Rows.{IsBlocking, IsRow, IsWorker, Stands}

-- ## As the core names it

-- who blocks a lock hinders it
pub blocking_hinders : (o : Row) (w : ℕ) (m : happening.Mode) (b : ℕ) → IsBlocking o w m b → Hinders o w m b
blocking_hinders o w m b k = record { may_not = k.refused; other = (parts o.holder refl k.blocks).0; holds = (parts o.holder refl k.blocks).1 }
  where
    parts : (h : Option ℕ) → o.holder ≡ h → Stands h o.readers w b
        → (b ≡ w → ⊥) × ((is_held_by o.holder b ≡ true) ⊎ ((is_free o.holder ≡ true) × (is_reader b o.readers ≡ true) × ((v : ℕ) → is_reader v o.readers ≡ true → (v ≡ w → ⊥) → b ≤ v)))
    parts None e s = (s.other, inr (ap is_free e, s.reads, s.least))
    parts (Some v) e s = (λ q. s.0 (sym s.1 ∙ q), inl (ap (λ (h : Option ℕ). is_held_by h b) e ∙ eq-eqb v b (sym s.1)))

-- ## One session alone

-- whoever holds or reads a row is worker 1, so nobody is in its way
pub lone_free : (o : Row) (own : ℕ) (m : happening.Mode) (h : ℕ) → IsRow 1 o → own ≡ 1 → Hinders o own m h → ⊥
lone_free o own m h r own_is k = k.other (one h (holds k.holds) ∙ sym own_is)
  where
    one : (w : ℕ) → IsWorker 1 w → w ≡ 1
    one w i = let a = i.one in let b = i.among in omega arith

    holds : (is_held_by o.holder h ≡ true) ⊎ ((is_free o.holder ≡ true) × (is_reader h o.readers ≡ true) × ((v : ℕ) → is_reader v o.readers ≡ true → (v ≡ own → ⊥) → h ≤ v)) → IsWorker 1 h
    holds (inl e) = r.holder h e
    holds (inr e) = r.reader h e.1
