-- The soonest of one receipt more.
use Rattle.std.proofs.Common.{◌≡◌, ◌<◌, ◌≤◌, ◌⊎◌, ℕ, suc, Bool, true, false, cond, leb, Option, Some, None, refl, sym, ap, ◌∙◌, inl, inr, arith}
use Rattle.std.proofs.lemmas.Bool.{cases_eq, leb-true, leb-false}
use Rattle.group_commit.specs.declared.receipts.Receipt.{Receipt}
use Rattle.group_commit.specs.declared.queue.End.{End}
use Rattle.group_commit.specs.Queues.{sooner, Soonest, IsSoonest, receipt_if}

module _ (next : ℕ → Option Receipt) (n : ℕ) where
  -- up to n, or the last
  last : (w : ℕ) → w ≤ suc n → (w ≤ n) ⊎ (w ≡ suc n)
  last w l = elim (cases_eq w (suc n)) [ inl q ↦ inr q | inr q ↦ inl (omega arith) ]

  pub soonest_none : (found : Option Receipt) → next (suc n) ≡ None → IsSoonest next n found → IsSoonest next (suc n) found
  soonest_none None k h = λ w z l. elim (last w l) [ inl m ↦ h w z m | inr q ↦ ap next q ∙ k ]
  soonest_none (Some a) k h = record { some = h.some; within = (let c = h.within in omega arith); is = h.is; first = first }
    where
      first : (w : ℕ) (x : Receipt) → 0 < w → w ≤ suc n → next w ≡ Some x → (a.gsn < x.gsn) ⊎ ((a.gsn ≡ x.gsn) × (a.log ≤ w))
      first w x z l e = elim (last w l) [ inl m ↦ h.first w x z m e | inr q ↦ absurd (let c = ap next q ∙ k in cc) ]

  pub soonest_some : (found : Option Receipt) (r : Receipt) → next (suc n) ≡ Some r → r.log ≡ suc n → IsSoonest next n found → IsSoonest next (suc n) (sooner found r)
  soonest_some None r k g h = record { some = omega arith; within = omega arith; is = ap next g ∙ k; first = first }
    where
      first : (w : ℕ) (x : Receipt) → 0 < w → w ≤ suc n → next w ≡ Some x → (r.gsn < x.gsn) ⊎ ((r.gsn ≡ x.gsn) × (r.log ≤ w))
      first w x z l e = elim (last w l) [
        | inl m ↦ absurd (let c = h w z m in cc)
        | inr q ↦ (let c = ap next q ∙ k in let d : r ≡ x = cc in inr (ap (λ (y : Receipt). y.gsn) d, omega arith))
      ]
  soonest_some (Some a) r k g h = go (leb a.gsn r.gsn) refl
    where
      stays : a.gsn ≤ r.gsn → Soonest next (suc n) a
      stays o = record { some = h.some; within = (let c = h.within in omega arith); is = h.is; first = first }
        where
          first : (w : ℕ) (x : Receipt) → 0 < w → w ≤ suc n → next w ≡ Some x → (a.gsn < x.gsn) ⊎ ((a.gsn ≡ x.gsn) × (a.log ≤ w))
          first w x z l e = elim (last w l) [
            | inl m ↦ h.first w x z m e
            | inr q ↦ (let c = ap next q ∙ k in let d : r ≡ x = cc in let b = ap (λ (y : Receipt). y.gsn) d in
                elim (cases_eq a.gsn x.gsn) [ inl y ↦ inr (y, (let v = h.within in omega arith)) | inr y ↦ inl (omega arith) ])
          ]

      goes : r.gsn < a.gsn → Soonest next (suc n) r
      goes o = record { some = omega arith; within = omega arith; is = ap next g ∙ k; first = first }
        where
          first : (w : ℕ) (x : Receipt) → 0 < w → w ≤ suc n → next w ≡ Some x → (r.gsn < x.gsn) ⊎ ((r.gsn ≡ x.gsn) × (r.log ≤ w))
          first w x z l e = elim (last w l) [
            | inl m ↦ elim (h.first w x z m e) [ inl y ↦ inl (omega arith) | inr y ↦ inl (let v = y.0 in omega arith) ]
            | inr q ↦ (let c = ap next q ∙ k in let d : r ≡ x = cc in inr (ap (λ (y : Receipt). y.gsn) d, omega arith))
          ]

      go : (b : Bool) → leb a.gsn r.gsn ≡ b → IsSoonest next (suc n) (cond b (Some a) (Some r))
      go true q = stays (leb-true a.gsn r.gsn q)
      go false q = goes (leb-false a.gsn r.gsn q)

-- a queue's receipt is of its own log
pub own_log : (w : ℕ) (o : Option End) (r : Receipt) → receipt_if w o ≡ Some r → r.log ≡ w
own_log w None r k = absurd (cc)
own_log w (Some e) r k = go k
  where
    log_or : Option Receipt → ℕ
    log_or None = 0
    log_or (Some x) = x.log

    go : Some (record { txn = e.txn; log = w; gsn = e.gsn; need = e.need }) ≡ Some r → r.log ≡ w
    go q = sym (ap log_or q)
