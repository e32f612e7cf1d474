use Rattle.std.proofs.Common.{◌≡◌, ◌+◌, ◌==◌, ◌&&◌, ◌||◌, not, ℕ, List, cond, length, get_or, take, refl, ◌∙◌, ap, sym, subst, arith}
use Rattle.std.specs.BTreeSet.{BTreeSet}
use Rattle.recovery_scan.specs.Records.{entries_of}
use Rattle.recovery_redo.specs.Inside.{has_txn}
use Rattle.recovery_redo.proofs.LogLemmas.{nothing}
use Rattle.recovery_redo.proofs.MarkLemmas.{written}
use Rattle.recovery_redo.proofs.OutcomeLemmas.{AreSeen, seen_more}
use Rattle.recovery_redo.proofs.outcome.losers.Goals as goal
use Rattle.recovery_redo.proofs.outcome.losers.Goals.{then-branch, else-branch}

pub loop-i-preserved : goal.loop-i-preserved
loop-i-preserved c =
    let k = c.loop-i.i in
    let n = c.loop-i.losers in
    let items = c.args.index.now in
    let ended = c.args.ended.now in
    let value = c.deref_mut.ensures.value in
    let v : length c.deref_mut.result.now ≡ length c.loop-i.seen.items = ap length value in
    let ok = c.loop-i.seen.ok.0 in
    let count = c.in_ok-is_new_loser.ensures.count in
    let all = written c.loop-i.seen.len c.is_new_loser.new.seen _ (omega arith) in
    let h = c.head_in-head.ensures.head nothing in
    let a = h.0 in let txn = h.1 in let log = h.2 in
    let w = c.head_in-head.ensures.log in
    let some = w.0 in let most = w.1 in
    let before = subst (λ (sets : List (BTreeSet ℕ)). AreSeen ended (entries_of (take k items)) sets n) (sym value) c.loop-i.invariant.0 in
    let made : c.if-branch.losers ≡ cond c.in_ok-is_new_loser.field-0 (n + 1) n =
    elim c.if-branch.branch [ then-branch w ↦ w.losers-is ∙ ap (λ b. cond b (n + 1) n) (sym w.if-branch.true) | else-branch w ↦ w.losers-is ∙ ap (λ b. cond b (n + 1) n) (sym w.if-branch.false) ] in
    let x = get_or items k nothing in
    let more = seen_more ended items k (k + 1) x nothing c.deref_mut.result.now c.is_new_loser.new.seen c.in_ok-is_new_loser.field-0 n c.if-branch.losers
    (omega arith) (let l = c.loop-i-test.true in let e = c.len-i-end.ensures in omega arith) refl before (omega arith) (omega arith) count
    (c.in_ok-is_new_loser.ensures.answer ∙ ap (λ i. not (has_txn ended i c.head_in-head.result.txn) && not (has_txn c.deref_mut.result.now i c.head_in-head.result.txn)) log ∙ ap (λ t. not (has_txn ended x.log t) && not (has_txn c.deref_mut.result.now x.log t)) txn)
    (λ i t o g. c.in_ok-is_new_loser.ensures.seen i t o g ∙ ap (λ j. ((j == i) && (c.head_in-head.result.txn == t)) || has_txn c.deref_mut.result.now i t) log ∙ ap (λ j. ((x.log == i) && (j == t)) || has_txn c.deref_mut.result.now i t) txn)
    made in (
      subst (λ (sets : List (BTreeSet ℕ)). AreSeen ended (entries_of (take (k + 1) items)) sets c.if-branch.losers) (sym all) more,
      elim c.if-branch.branch [ then-branch w ↦ omega (arith, c.loop-i.invariant.1, w.losers-is) | else-branch w ↦ omega (arith, c.loop-i.invariant.1, w.losers-is) ],
    )
