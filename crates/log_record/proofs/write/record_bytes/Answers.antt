use Rattle.std.proofs.Common.{◌++◌, ◌∷◌, ◌∙◌, ap, subst, ℕ, List}
use Rattle.lean_bytes.specs.Numbers.{number_bytes}
use Rattle.log_record.specs.Spelling.{Holds, body_text}
use Rattle.log_record.proofs.HoldLemmas.{holds_same, end_pieces}
use Rattle.log_record.proofs.write.record_bytes.Goals as goal

pub returns-clause-written : goal.returns-clause-written
returns-clause-written c =
    let entry = c.args.entry.now in
    let first = c.args.into.now in
    let t = number_bytes 8 entry.txn in
    let g = number_bytes 8 entry.gsn in
    let b = body_text entry.body in
    let head : List ℕ = c.kind_of.result ∷ (t ++ g) in
    let P : ℕ → Type 0 = λ end. Holds head first c.put_head.new.into end in
    holds_same _ _ first c.put_body.new.into c.put_body.result (end_pieces c.kind_of.result t g b ∙ ap (λ (k : ℕ). k ∷ (t ++ (g ++ b))) c.kind_of.ensures)
    (c.put_body.ensures.written head first (subst P c.put_head.ensures.end c.put_head.ensures.written))
