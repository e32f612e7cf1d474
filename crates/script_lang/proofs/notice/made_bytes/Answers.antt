use Rattle.std.proofs.Common.{[], ◌∷◌, ◌++◌, List, ℕ, ap, codes}
use Rattle.std.specs.Fmt.{decimal}
use Rattle.script_lang.proofs.PieceLemmas.{four_pieces, holds_none, holds_same}
use Rattle.script_lang.proofs.notice.made_bytes.Goals as goal

pub returns : goal.returns
returns c =
    let f = c.args.into.now in
    let a = codes "made " in
    let n = decimal c.args.count in
    let b = codes " refused " in
    let r = decimal c.args.refused in
    let d = codes " pairs " in
    let p = decimal c.args.pairs in
    let s = codes " sum " in
    let t = decimal c.args.sum in
    holds_same (((((a ++ n) ++ (b ++ r)) ++ (d ++ p)) ++ (s ++ t)) ++ 10 ∷ []) ((a ++ (n ++ (b ++ (r ++ (d ++ (p ++ (s ++ t))))))) ++ 10 ∷ []) f c.put_text.new.into c.put_text.result
    (ap (λ (x : List ℕ). x ++ 10 ∷ []) (four_pieces a n b r d p s t))
    (c.put_text.ensures.written ((((a ++ n) ++ (b ++ r)) ++ (d ++ p)) ++ (s ++ t)) f
    (c.put_wide-at.ensures.written (((a ++ n) ++ (b ++ r)) ++ (d ++ p)) f
    (c.put_with_number-at-3.ensures.written ((a ++ n) ++ (b ++ r)) f
    (c.put_with_number-at-2.ensures.written (a ++ n) f
    (c.put_with_number-at.ensures.written [] f (holds_none f))))))
