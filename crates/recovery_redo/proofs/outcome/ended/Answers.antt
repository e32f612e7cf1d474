use Rattle.std.proofs.Common.{◌≡◌, ◌+◌, ℕ, List, length, get_or, refl, sym, ◌∙◌, ap, subst, arith}
use Rattle.std.specs.BTreeSet.{BTreeSet}
use Rattle.recovery_scan.specs.Records.{entries_of}
use Rattle.recovery_redo.specs.Inside.{AreEnded}
use Rattle.recovery_redo.proofs.LogLemmas.{nothing}
use Rattle.recovery_redo.proofs.MarkLemmas.{written}
use Rattle.recovery_redo.proofs.OutcomeLemmas.{ended_more}
use Rattle.recovery_redo.proofs.outcome.ended.Goals as goal

pub loop-i-preserved : goal.loop-i-preserved
loop-i-preserved c =
    let k = c.loop-i.i in
    let items = c.args.index.now in
    let value = c.deref_mut.ensures.value in
    let v : length c.deref_mut.result.now ≡ length c.loop-i.ended.items = ap length value in
    let ok = c.loop-i.ended.ok.0 in
    let count = c.in_ok-add_end.ensures.count in
    let held = c.loop-i.invariant.1 in
    let all = written c.loop-i.ended.len c.add_end.new.ended _ (omega arith) in
    let before = subst (λ (sets : List (BTreeSet ℕ)). AreEnded c.args.logs c.args.far (entries_of (Rattle.std.proofs.Common.take k items)) sets) (sym value) c.loop-i.invariant.0 in
    let more = ended_more c.args.logs c.args.far items k (k + 1) (get_or items k nothing) nothing c.deref_mut.result.now c.add_end.new.ended (omega arith) (let l = c.loop-i-test.true in let e = c.len-i-end.ensures in omega arith) refl
    before (c.in_ok-add_end.ensures.after nothing) in (
      subst (λ (sets : List (BTreeSet ℕ)). AreEnded c.args.logs c.args.far (entries_of (Rattle.std.proofs.Common.take (k + 1) items)) sets) (sym all) more,
      ap length all ∙ count ∙ v ∙ held,
    )
