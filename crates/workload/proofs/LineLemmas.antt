-- The lines of transactions, one taken from their head.
use Rattle.std.proofs.Common.{◌≡◌, ℕ, inl, inr, zero, suc, ◌+◌, ◌-◌, ◌*◌, ◌/◌, ◌%◌, ◌<◌, ◌≤◌, List, [], ◌∷◌, ◌++◌, length, drop, refl, sym, ap, subst, ◌∙◌, arith, length-append, length-drop}
use Rattle.std.proofs.Math.Seq.{drop-append_seam, drop-nil}
use Rattle.std.proofs.lemmas.Bool.{cases_lt}
use Rattle.std.proofs.lemmas.List.{drop-append-le}
use Rattle.script_lang.specs.declared.line.Line.{Line}
use Rattle.workload.specs.Lines.{ask, call_at, line_at, lines_of, transaction, transactions}
use Rattle.rand_pcg.specs.Lcg.{Lcg}
use Rattle.map_model.specs.declared.call.Call.{Call}
use Rattle.workload.specs.Inside.{Stands, asked, drawn_from, to_come}
use Rattle.workload.specs.Draws.{behind_words}
use Rattle.workload.proofs.WordLemmas.{drawn_on}

-- the line at a place of the first transaction, and those behind it
line_next : (number workers i count place : ℕ) → place < 10
    → drop place (transactions number workers i (suc count)) ≡ ask workers i (call_at number i place) ∷ drop (suc place) (transactions number workers i (suc count))
line_next number workers i count zero lt = refl
line_next number workers i count (suc zero) lt = refl
line_next number workers i count (suc (suc zero)) lt = refl
line_next number workers i count (suc (suc (suc zero))) lt = refl
line_next number workers i count (suc (suc (suc (suc zero)))) lt = refl
line_next number workers i count (suc (suc (suc (suc (suc zero))))) lt = refl
line_next number workers i count (suc (suc (suc (suc (suc (suc zero)))))) lt = refl
line_next number workers i count (suc (suc (suc (suc (suc (suc (suc zero))))))) lt = refl
line_next number workers i count (suc (suc (suc (suc (suc (suc (suc (suc zero)))))))) lt = refl
line_next number workers i count (suc (suc (suc (suc (suc (suc (suc (suc (suc zero))))))))) lt = refl
line_next number workers i count (suc (suc (suc (suc (suc (suc (suc (suc (suc (suc n)))))))))) lt = absurd (omega arith)

-- behind its ten lines come the other transactions
transaction_behind : (number workers i count : ℕ) → drop 10 (transactions number workers i (suc count)) ≡ transactions number workers (suc i) count
transaction_behind number workers i count = refl

-- nothing is to come where all are done
pub to_come_none : (number count workers done place : ℕ) → done ≡ count → to_come number count workers done place ≡ []
to_come_none number count workers done place e =
    let z : count - done ≡ 0 = omega arith in ap (λ (n : ℕ). drop place (transactions number workers done n)) z ∙ drop-nil place

one_less : (count done : ℕ) → done < count → suc (count - suc done) ≡ count - done
one_less count done lt = omega arith

-- else the line at the place
pub to_come_next : (number count workers done place : ℕ) → done < count → place < 10
    → to_come number count workers done place ≡ ask workers done (call_at number done place) ∷ to_come number count workers done (suc place)
to_come_next number count workers done place lt within =
    subst (λ (n : ℕ). drop place (transactions number workers done n) ≡ ask workers done (call_at number done place) ∷ drop (suc place) (transactions number workers done n)) (one_less count done lt)
    (line_next number workers done (count - suc done) place within)

-- behind the last line of a transaction comes the next one
pub to_come_behind : (number count workers done : ℕ) → done < count → to_come number count workers done 10 ≡ to_come number count workers (suc done) 0
to_come_behind number count workers done lt =
    subst (λ (n : ℕ). drop 10 (transactions number workers done n) ≡ transactions number workers (suc done) (count - suc done)) (one_less count done lt)
    (transaction_behind number workers done (count - suc done))

-- the head is taken, and the others stand from the next place on
pub took : (number count workers done place : ℕ) (words : Lcg) (call : Call) (old : List Line) (next : ℕ) → Stands number count workers done place words → (done ≡ count → ⊥) → call ≡ asked place words
    → to_come number count workers done place ≡ old → next ≡ suc place → old ≡ ask workers done call ∷ to_come number count workers done next
took number count workers done place words call old next s open_one is view more =
    let le : done ≤ count = s.so_far in
    let lt : done < count = omega arith in
    let c : call ≡ call_at number done place = is ∙ ap (asked place) s.drawn in
    sym view ∙ to_come_next number count workers done place lt s.within ∙ ap (λ (x : Call). ask workers done x ∷ to_come number count workers done (suc place)) (sym c)
    ∙ ap (λ (n : ℕ). ask workers done call ∷ to_come number count workers done n) (sym more)

-- or the others are those of the next transactions
pub took_last : (number count workers done place : ℕ) (words : Lcg) (call : Call) (old : List Line) (i : ℕ) → Stands number count workers done place words → (done ≡ count → ⊥) → call ≡ asked place words
    → to_come number count workers done place ≡ old → place ≡ 9 → i ≡ suc done → old ≡ ask workers done call ∷ transactions number workers i (count - i)
took_last number count workers done place words call old i s open_one is view at_last more =
    let le : done ≤ count = s.so_far in
    let lt : done < count = omega arith in
    let ten : 10 ≡ suc place = omega arith in
    took number count workers done place words call old 10 s open_one is view ten ∙ ap (λ (xs : List Line). ask workers done call ∷ xs) (to_come_behind number count workers done lt)
    ∙ ap (λ (n : ℕ). ask workers done call ∷ transactions number workers n (count - n)) (sym more)

-- and so the generator stands there
pub stands_on : (number count workers done place : ℕ) (words moved : Lcg) (next : ℕ) → Stands number count workers done place words → (place ≡ 9 → ⊥) → moved ≡ drawn_from place words → next ≡ suc place
    → Stands number count workers done next moved
stands_on number count workers done place words moved next s inner is more =
    let lt : place < 10 = s.within in
    let low : place < 9 = omega arith in
    record {
      drawn = is ∙ ap (drawn_from place) s.drawn ∙ drawn_on number done place low ∙ ap (λ (n : ℕ). behind_words number (8 * done + (n - 1))) (sym more);
      within = omega arith;
      so_far = s.so_far;
      some = s.some;
    }

-- there are ten lines for each transaction
pub length_transactions : (number workers i count : ℕ) → length (transactions number workers i count) ≡ 10 * count
length_transactions number workers i zero = refl
length_transactions number workers i (suc count) =
    let others = transactions number workers (suc i) count in
    let e : length (transaction number workers i ++ others) ≡ 10 + length others = length-append (transaction number workers i) others in
    let n : length others ≡ 10 * count = length_transactions number workers (suc i) count in
    let s : 10 + length others ≡ 10 * suc count = omega arith in e ∙ s

head_of : Line → List Line → Line
head_of x [] = x
head_of x (y ∷ ys) = y

heads : (x y : Line) (xs ys : List Line) → x ∷ xs ≡ y ∷ ys → x ≡ y
unfolding head_of
heads x y xs ys e = ap (head_of x) e

-- the line that so many stand before
pub line_behind : (number workers i count : ℕ) (earlier : List Line) (line : Line) (later : List Line) → earlier ++ line ∷ later ≡ transactions number workers i count
    → line ≡ ask workers (i + length earlier / 10) (call_at number (i + length earlier / 10) (length earlier % 10))
line_behind number workers i zero earlier line later e =
    let a : length (earlier ++ line ∷ later) ≡ length earlier + suc (length later) = length-append earlier (line ∷ later) in
    let b : length (earlier ++ line ∷ later) ≡ 0 = ap length e in absurd (omega arith)
line_behind number workers i (suc count) earlier line later e = elim (cases_lt (length earlier) 10) [
  | inl lt ↦ (let first : line ∷ later ≡ ask workers i (call_at number i (length earlier)) ∷ drop (suc (length earlier)) (transactions number workers i (suc count)) =
      sym (drop-append_seam earlier (line ∷ later)) ∙ ap (drop (length earlier)) e ∙ line_next number workers i count (length earlier) lt in
      let d : i ≡ i + length earlier / 10 = omega arith in
      let r : length earlier ≡ length earlier % 10 = omega arith in
      heads _ _ _ _ first ∙ ap (λ (n : ℕ). ask workers n (call_at number n (length earlier))) d ∙ ap (λ (p : ℕ). ask workers (i + length earlier / 10) (call_at number (i + length earlier / 10) p)) r)
  | inr ge ↦ (let rest : drop 10 earlier ++ line ∷ later ≡ transactions number workers (suc i) count =
      sym (drop-append-le 10 earlier (line ∷ later) ge) ∙ ap (drop 10) e ∙ transaction_behind number workers i count in
      let n : length (drop 10 earlier) ≡ length earlier - 10 = length-drop 10 earlier in
      let d : suc i + length (drop 10 earlier) / 10 ≡ i + length earlier / 10 = omega arith in
      let r : length (drop 10 earlier) % 10 ≡ length earlier % 10 = omega arith in
      line_behind number workers (suc i) count (drop 10 earlier) line later rest
      ∙ ap (λ (n : ℕ). ask workers n (call_at number n (length (drop 10 earlier) % 10))) d ∙ ap (λ (p : ℕ). ask workers (i + length earlier / 10) (call_at number (i + length earlier / 10) p)) r)
]

-- the line of its number
pub line_of_number : (number count workers : ℕ) (earlier : List Line) (line : Line) (later : List Line) → earlier ++ line ∷ later ≡ lines_of number count workers
    → line ≡ line_at number workers (length earlier)
line_of_number number count workers earlier line later e =
    let z : 0 + length earlier / 10 ≡ length earlier / 10 = omega arith in
    line_behind number workers 0 count earlier line later e ∙ ap (λ (n : ℕ). ask workers n (call_at number n (length earlier % 10))) z
