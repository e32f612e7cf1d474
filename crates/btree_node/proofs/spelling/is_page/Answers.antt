use Rattle.std.proofs.Common.{◌≡◌, ◌+◌, ◌-◌, ◌*◌, ◌/◌, ◌%◌, ◌⊎◌, inl, inr, true, take, drop, get_or, ap, ◌∙◌, sym, arith, length-drop}
use Rattle.std.proofs.lemmas.List.{take_all}
use Rattle.btree_node.specs.Inside.{all_zero, rises}
use Rattle.btree_node.proofs.SpellingLemmas.{page-from, page-zero, page-rises}
use Rattle.btree_node.proofs.spelling.is_page.Goals as goal
use Rattle.btree_node.proofs.spelling.is_page.Goals.{else-kind-ne1-via-then-kind-ne1+else-kind-ne2, else-kind-ne1-via-else-kind-ne1}

pub returns-then-not-is_zero : goal.returns-then-not-is_zero
returns-then-not-is_zero c =
    let ws = c.args.words.now in
    let n = get_or ws 3 0 % 256 in
    let t : take (126 - (6 + 2 * n)) (drop (6 + 2 * n) ws) ≡ drop (6 + 2 * n) ws = take_all _ _ (let l = length-drop (6 + 2 * n) ws in omega arith) in
    let z : c.is_zero.result ≡ all_zero (drop (6 + 2 * n) ws) = c.is_zero.ensures ∙ ap all_zero t in
    ((λ never. absurd (cc)), (λ h. let e = page-zero ws h in cc))

pub returns : goal.returns
returns c =
    let ws = c.args.words.now in
    let n = get_or ws 3 0 % 256 in
    let t : take (126 - (6 + 2 * n)) (drop (6 + 2 * n) ws) ≡ drop (6 + 2 * n) ws = take_all _ _ (let l = length-drop (6 + 2 * n) ws in omega arith) in
    let z : c.is_zero.result ≡ all_zero (drop (6 + 2 * n) ws) = c.is_zero.ensures ∙ ap all_zero t in
    let s : 6 + 2 * n - 6 ≡ 2 * n = omega arith in
    let r : c.is_rising.result ≡ rises (get_or ws 4 0) (get_or ws 5 0) (take (2 * n) (drop 6 ws)) = c.is_rising.ensures ∙ ap (λ j. rises (get_or ws 4 0) (get_or ws 5 0) (take j (drop 6 ws))) s in
    let zt : c.is_zero.result ≡ true = c.if-not-is_zero.false in
    let kind : (get_or ws 3 0 / 16777216 ≡ 1) ⊎ (get_or ws 3 0 / 16777216 ≡ 2) = elim c.else-kind-ne1.branch [
      | else-kind-ne1-via-then-kind-ne1+else-kind-ne2 w ↦ inr w.if-kind-ne2.false
      | else-kind-ne1-via-else-kind-ne1 w ↦ inl w.if-kind-ne1.false
    ] in
    ((λ h. page-from ws (omega arith) kind (omega arith) (omega arith) (sym z ∙ zt) (sym r ∙ h)), (λ h. r ∙ page-rises ws h))
