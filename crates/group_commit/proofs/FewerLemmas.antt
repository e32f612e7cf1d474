-- What is taken leaves fewer ends.
use Rattle.std.proofs.Common.{◌≡◌, ◌<◌, ◌≤◌, ◌-◌, ℕ, zero, suc, Bool, true, false, cond, List, [], ◌∷◌, length, get_or, drop, set, Some, ap, subst, arith}
use Rattle.std.proofs.lemmas.List.{length-drop}
use Rattle.group_commit.specs.declared.queue.End.{End}
use Rattle.group_commit.specs.declared.receipts.Receipt.{Receipt}
use Rattle.group_commit.specs.Queues.{IsSettled, is_done, next_of, queue_of, queued, receipt_if, ripe_first, settled, without_first}
use Rattle.group_commit.specs.Ripeness.{flushed_of}

settled_less : (f all : ℕ) (q : List End) → length (settled f all q) ≤ length q
settled_less f all [] = omega arith
settled_less f all (e ∷ q) = go (settled_less f all q) (is_done f all e)
  where
    go : length (settled f all q) ≤ length q → (b : Bool) → length (cond b (settled f all q) (e ∷ q)) ≤ length (e ∷ q)
    go h true = omega arith
    go h false = omega arith

-- queues that are no longer have no more ends
queued_less : (old new : List (List End)) → length new ≡ length old → ((k : ℕ) → k < length old → length (get_or new k []) ≤ length (get_or old k [])) → queued new ≤ queued old
queued_less [] [] e h = omega arith
queued_less [] (p ∷ ps) e h = absurd (omega arith)
queued_less (q ∷ qs) [] e h = absurd (omega arith)
queued_less (q ∷ qs) (p ∷ ps) e h = let a = h 0 (omega arith) in let b = queued_less qs ps (omega arith) (λ k l. h (suc k) (omega arith)) in omega arith

-- an end that goes is one less
queued_dropped : (qs : List (List End)) (k : ℕ) → k < length qs → 0 < length (get_or qs k []) → queued (set qs k (drop 1 (get_or qs k []))) < queued qs
queued_dropped [] k l n = absurd (omega arith)
queued_dropped (q ∷ qs) zero l n = let a = length-drop 1 q in omega arith
queued_dropped (q ∷ qs) (suc k) l n = let a = queued_dropped qs k (omega arith) n in omega arith

nonempty : (f all w : ℕ) (q : List End) (r : Receipt) → receipt_if w (ripe_first f all q) ≡ Some r → 0 < length q
nonempty f all w [] r e = absurd (cc)
nonempty f all w (x ∷ q) r e = omega arith

pub taken_fewer : (fs : List ℕ) (all : ℕ) (old mid : List (List End)) (r : Receipt) → IsSettled fs all old mid → 0 < r.log → r.log ≤ length mid → next_of fs all mid r.log ≡ Some r → queued (without_first r.log mid) < queued old
taken_fewer fs all old mid r s low high next =
    let a = queued_dropped mid (r.log - 1) (omega arith) (nonempty (flushed_of fs r.log) all r.log (queue_of mid r.log) r next) in
    let b = queued_less old mid s.sessions (λ k l. at k l) in omega arith
  where
    at : (k : ℕ) → k < length old → length (get_or mid k []) ≤ length (get_or old k [])
    at k l =
        let e : suc k - 1 ≡ k = omega arith in
        let c = subst (λ (n : ℕ). length (get_or mid n []) ≡ length (settled (flushed_of fs (suc k)) all (get_or old n []))) e (ap length (s.each (suc k) (omega arith) (omega arith))) in
        let d = settled_less (flushed_of fs (suc k)) all (get_or old k []) in
        omega arith
