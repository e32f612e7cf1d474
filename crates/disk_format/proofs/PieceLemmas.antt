-- Pieces of pages, written one after the other.
use Rattle.std.proofs.Common.{◌≡◌, ◌+◌, ◌-◌, ◌*◌, ℕ, zero, suc, List, ◌++◌, length, take, drop, replicate, sym, ◌∙◌, ap, arith, append_assoc, append-nil, length-append}
use Rattle.std.proofs.lemmas.List.{length-take, take_at, drop_at, drop_all, drop-drop}
use Rattle.lean_disk.specs.Area.{put_over}
use Rattle.disk_format.specs.Pieces.{pages_from}

module _ (page : ℕ → List ℕ) (size : ℕ) (whole : (p : ℕ) → length (page p) ≡ size) where
  pub length-pages_from : (first count : ℕ) → length (pages_from page first count) ≡ size * count
  length-pages_from first zero = omega arith
  length-pages_from first (suc count) =
      let rest = length-pages_from (suc first) count in
      let one = whole first in
      omega (arith, length-append (page first) (pages_from page (suc first) count), rest, one)

  pub pages_from-more : (first count more : ℕ) → pages_from page first (count + more) ≡ pages_from page first count ++ pages_from page (first + count) more
  pages_from-more first zero more =
      let e : first ≡ first + 0 = omega arith in
      let n : 0 + more ≡ more = omega arith in
      ap (pages_from page first) n ∙ ap (λ (f : ℕ). pages_from page f more) e
  pages_from-more first (suc count) more =
      let e : suc first + count ≡ first + suc count = omega arith in
      let n : suc count + more ≡ suc (count + more) = omega arith in
      ap (pages_from page first) n
      ∙ ap (λ (ys : List ℕ). page first ++ ys) (pages_from-more (suc first) count more ∙ ap (λ (f : ℕ). pages_from page (suc first) count ++ pages_from page f more) e)
      ∙ sym (append_assoc (page first) (pages_from page (suc first) count) (pages_from page (first + suc count) more))

-- bytes put right behind a prefix
pub prefix-put_over : (at : ℕ) (prefix bytes old : List ℕ) → take at old ≡ prefix → length prefix ≡ at → take (at + length bytes) (put_over at bytes old) ≡ prefix ++ bytes
prefix-put_over at prefix bytes old is long =
    let fits : at - length old ≡ 0 = omega (arith, length-take at old, ap (λ (xs : List ℕ). length xs) is, long) in
    let before : take at old ++ replicate (at - length old) 0 ≡ prefix = ap (λ (n : ℕ). take at old ++ replicate n 0) fits ∙ append-nil (take at old) ∙ is in
    let size : length (prefix ++ bytes) ≡ at + length bytes = omega (arith, length-append prefix bytes, long) in
    ap (λ (xs : List ℕ). take (at + length bytes) (xs ++ bytes ++ drop (at + length bytes) old)) before ∙ take_at (prefix ++ bytes) (drop (at + length bytes) old) (at + length bytes) size

-- one page more, behind those that were written
pub pages_from-written : (page : ℕ → List ℕ) (size : ℕ) → ((p : ℕ) → length (page p) ≡ size) → (first i : ℕ) (old now new : List ℕ)
    → now ≡ pages_from page first i ++ drop (size * i) old
    → new ≡ take (size * i) now ++ (page (first + i) ++ drop (size * i + size) now)
    → new ≡ pages_from page first (i + 1) ++ drop (size * (i + 1)) old
pages_from-written page size whole first i old now new is wrote =
    let before : List ℕ = pages_from page first i in
    let rest : List ℕ = drop (size * i) old in
    let long : length before ≡ size * i = length-pages_from page size whole first i in
    let prefix : take (size * i) now ≡ before = ap (take (size * i)) is ∙ take_at before rest (size * i) long in
    let back : drop (size * i + size) now ≡ drop (size * (i + 1)) old =
    ap (drop (size * i + size)) is
    ∙ (sym (drop-drop size (size * i) (before ++ rest)) ∙ (ap (drop size) (drop_at before rest (size * i) long) ∙ (drop-drop size (size * i) old ∙ ap (λ (n : ℕ). drop n old) (let e : size * i + size ≡ size * (i + 1) = omega arith in e)))) in
    let one : pages_from page first (i + 1) ≡ before ++ page (first + i) = pages_from-more page size whole first i 1 ∙ ap (λ (ys : List ℕ). before ++ ys) (append-nil (page (first + i))) in
    wrote
    ∙ (ap (λ (xs : List ℕ). xs ++ (page (first + i) ++ drop (size * i + size) now)) prefix
    ∙ (ap (λ (ys : List ℕ). before ++ (page (first + i) ++ ys)) back
    ∙ (sym (append_assoc before (page (first + i)) (drop (size * (i + 1)) old))
    ∙ ap (λ (xs : List ℕ). xs ++ drop (size * (i + 1)) old) (sym one))))

-- no byte is left behind the pages
pub pages_from-all : (page : ℕ → List ℕ) (size first count : ℕ) (old now : List ℕ) → now ≡ pages_from page first count ++ drop (size * count) old → length old ≡ size * count → now ≡ pages_from page first count
pages_from-all page size first count old now is long =
    is ∙ (ap (λ (ys : List ℕ). pages_from page first count ++ ys) (drop_all (size * count) old (omega (arith, long))) ∙ append-nil (pages_from page first count))
