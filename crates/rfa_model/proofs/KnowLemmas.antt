-- What a worker knows stays known.
use Rattle.std.proofs.Common.{◌≡◌, ◌⊎◌, ◌≤◌, ◌<◌, ℕ, max, Bool, true, false, cond, inl, inr, arith}
use Rattle.std.proofs.lemmas.Bool.{cases_eq, cases_lt, ne_eqb, le-leb, lt-leb, lt-ltb, le-ltb}
use Rattle.rfa_model.specs.Stamps.{is_remote, owed, debt_at_begin, need_of}
use Rattle.rfa_model.specs.Knows.{Knows, EveryKnown}

touched : (own floor debt flushed number log : ℕ) → floor ≤ flushed → ¬ (log ≡ 0) → Knows own (owed own floor debt number log) flushed number log
touched own floor debt flushed number log low some = go (cases_lt floor number)
  where
    go : (floor < number) ⊎ (number ≤ floor) → Knows own (owed own floor debt number log) flushed number log
    go (inr le) = inr (rw (le-ltb floor number le) (let l = low in let k = le in omega arith))
    go (inl lt) = elim (cases_eq log own) [
      | inl e ↦ inl e
      | inr n ↦ inr (rw (lt-ltb floor number lt, ne_eqb log own n, ne_eqb log 0 some) (omega arith))
    ]

more : (own debt debt' flushed flushed' n l : ℕ) → max debt flushed ≤ max debt' flushed' → Knows own debt flushed n l → Knows own debt' flushed' n l
more own debt debt' flushed flushed' n l h (inl e) = inl e
more own debt debt' flushed flushed' n l h (inr k) = inr (let a = h in let b = k in omega arith)

at_touch : (own floor debt flushed : ℕ) (number log : ℕ) (n l : ℕ) → Knows own debt flushed n l → Knows own (owed own floor debt number log) flushed n l
at_touch own floor debt flushed number log n l k = more own debt (owed own floor debt number log) flushed flushed n l (go (is_remote own floor number log)) k
  where
    go : (b : Bool) → max debt flushed ≤ max (cond b (max debt number) debt) flushed
    go true = omega arith
    go false = omega arith

at_begin : (own debt flushed f n l : ℕ) → f ≤ flushed → Knows own debt flushed n l → Knows own (debt_at_begin debt f) flushed n l
at_begin own debt flushed f n l low k = more own debt (debt_at_begin debt f) flushed flushed n l (go (cases_lt f debt)) k
  where
    go : (f < debt) ⊎ (debt ≤ f) → max debt flushed ≤ max (debt_at_begin debt f) flushed
    go (inl lt) = rw (lt-leb debt f lt) (omega arith)
    go (inr le) = rw (le-leb debt f le) (let a = low in let b = le in omega arith)

at_end : (own debt flushed f n l : ℕ) → f ≤ flushed → Knows own debt flushed n l → Knows own (need_of debt f) flushed n l
at_end own debt flushed f n l low k = more own debt (need_of debt f) flushed flushed n l (go (cases_lt f debt)) k
  where
    go : (f < debt) ⊎ (debt ≤ f) → max debt flushed ≤ max (need_of debt f) flushed
    go (inl lt) = rw (lt-ltb f debt lt) (omega arith)
    go (inr le) = rw (le-ltb f debt le) (let a = low in let b = le in omega arith)

pub every_known : EveryKnown
every_known = record {
  touched = touched;
  at_touch = at_touch;
  at_begin = at_begin;
  at_flush = λ own debt flushed later n l h k. more own debt debt flushed later n l (let a = h in omega arith) k;
  at_end = at_end;
}
