-- Where a word of a row lies.
use Rattle.std.proofs.Common.{◌≡◌, ◌≢◌, ℕ, zero, suc, ◌+◌, ◌*◌, ◌-◌, ◌<◌, ◌≤◌, ◌==◌, ltb, Bool, true, false, List, length, set, refl, sym, ap, subst, ◌∙◌, arith}
use Rattle.std.specs.Prelude.{slice_index}
use Rattle.std.proofs.lemmas.Bool.{ltb-true, cond-true, cond-false}
use Rattle.std.proofs.lemmas.List.{get_or-set_other, get_or-set_same}
use Rattle.std.proofs.lemmas.Bool.Decides.{nat_tests}
use Rattle.rows_trait.specs.Layout.{Sizes, rows_of, width, base, row_at, count_of, control_at, size_of, cell}
use Rattle.rows_trait.specs.Inside.{cells, row_cells, flushed_words}

pub bool_cases : {P : Type 0} (b : Bool) → (b ≡ true → P) → (b ≡ false → P) → P
bool_cases true f g = f refl
bool_cases false f g = g refl

not_less : (a b : ℕ) → ltb a b ≡ false → b ≤ a
not_less a b h = grind (arith, nat_tests)

module _ (z : Sizes) where
  -- where a row lies, and how wide it is: a frame row, or a lock row
  data Lies (row : ℕ) : Type 0 where
    Frame : row < z.frames → ((i : ℕ) → row_at z row i ≡ base z + row * 129 + i) → width z row ≡ 128 → Lies row
    Lock : z.frames ≤ row → ((i : ℕ) → row_at z row i ≡ base z + z.frames * 129 + (row - z.frames) * 6 + i) → width z row ≡ 5 → Lies row

  lies : (row : ℕ) → Lies row
  lies row = bool_cases (ltb row z.frames)
      (λ t. Frame (ltb-true row z.frames t) (λ i. cond-true (ltb row z.frames) (base z + row * 129 + i) (base z + z.frames * 129 + (row - z.frames) * 6 + i) t) (cond-true (ltb row z.frames) 128 5 t))
      (λ t. Lock (not_less row z.frames t) (λ i. cond-false (ltb row z.frames) (base z + row * 129 + i) (base z + z.frames * 129 + (row - z.frames) * 6 + i) t) (cond-false (ltb row z.frames) 128 5 t))

  pub inside : (row i : ℕ) → row < rows_of z → i < width z row + 1 → row_at z row i < size_of z
  inside row i h l = go (lies row)
    where
      go : Lies row → row_at z row i < size_of z
      go (Frame lt at wide) = let e = at i in omega arith
      go (Lock le at wide) = let e = at i in omega arith

  pub same_row : (q row i j : ℕ) → j < width z q + 1 → i < width z row + 1 → row_at z q j ≡ row_at z row i → q ≡ row
  same_row q row i j l m e = go (lies q) (lies row)
    where
      go : Lies q → Lies row → q ≡ row
      go (Frame a at wide) (Frame b to broad) = let x = at j in let y = to i in omega arith
      go (Frame a at wide) (Lock b to broad) = let x = at j in let y = to i in absurd (omega arith)
      go (Lock a at wide) (Frame b to broad) = let x = at j in let y = to i in absurd (omega arith)
      go (Lock a at wide) (Lock b to broad) = let x = at j in let y = to i in omega arith

  pub next_to : (row i : ℕ) → row_at z row (i + 1) ≡ row_at z row 1 + i
  next_to row i = go (lies row)
    where
      go : Lies row → row_at z row (i + 1) ≡ row_at z row 1 + i
      go (Frame lt at wide) = let a = at (i + 1) in let b = at 1 in omega arith
      go (Lock le at wide) = let a = at (i + 1) in let b = at 1 in omega arith

  pub same_word : (row i j : ℕ) → row_at z row j ≡ row_at z row i → j ≡ i
  same_word row i j e = go (lies row)
    where
      go : Lies row → j ≡ i
      go (Frame lt at wide) = let a = at i in let b = at j in omega arith
      go (Lock le at wide) = let a = at i in let b = at j in omega arith

  pub behind : (row i : ℕ) → base z ≤ row_at z row i
  behind row i = go (lies row)
    where
      go : Lies row → base z ≤ row_at z row i
      go (Frame lt at wide) = let a = at i in omega arith
      go (Lock le at wide) = let a = at i in omega arith

  pub before : (c i : ℕ) → c ≤ z.workers → i < count_of c → control_at c i < base z
  before zero i h l = omega arith
  before (suc c) i h l = omega arith

  pub control_inside : (c i : ℕ) → c ≤ z.workers → i < count_of c → control_at c i < size_of z
  control_inside c i h l = let a = before c i h l in omega arith

  pub set_here : (words : List ℕ) (row i x : ℕ) → row_at z row i < length words → cell z (set words (row_at z row i) x) row i ≡ x
  set_here words row i x h = get_or-set_same words (row_at z row i) x 0 h

  pub set_row_apart : (words : List ℕ) (row q i j x : ℕ) → j < width z q + 1 → i < width z row + 1 → q ≢ row → cell z (set words (row_at z row i) x) q j ≡ cell z words q j
  set_row_apart words row q i j x l m ne = get_or-set_other words (row_at z row i) (row_at z q j) x 0 (λ e. ne (same_row q row i j l m e))

  pub set_word_apart : (words : List ℕ) (row i j x : ℕ) → j ≢ i → cell z (set words (row_at z row i) x) row j ≡ cell z words row j
  set_word_apart words row i j x ne = get_or-set_other words (row_at z row i) (row_at z row j) x 0 (λ e. ne (same_word row i j e))

  pub set_control_apart : (words : List ℕ) (row i c j x : ℕ) → c ≤ z.workers → j < count_of c → slice_index (set words (row_at z row i) x) (control_at c j) ≡ slice_index words (control_at c j)
  set_control_apart words row i c j x h l = get_or-set_other words (row_at z row i) (control_at c j) x 0 (λ e. let a = before c j h l in let b = behind row i in absurd (omega arith))

  pub set_cell_apart : (words : List ℕ) (row i c j x : ℕ) → c ≤ z.workers → j < count_of c → cell z (set words (control_at c j) x) row i ≡ cell z words row i
  set_cell_apart words row i c j x h l = get_or-set_other words (control_at c j) (row_at z row i) x 0 (λ e. let a = before c j h l in let b = behind row i in absurd (omega arith))

pub same_control : (c d i j : ℕ) → i < count_of c → j < count_of d → control_at c i ≡ control_at d j → (c ≡ d) × (i ≡ j)
same_control zero zero i j l m e = (refl, e)
same_control zero (suc d) i j l m e = absurd (omega arith)
same_control (suc c) zero i j l m e = absurd (omega arith)
same_control (suc c) (suc d) i j l m e = (let s : c ≡ d = omega arith in ap (λ z. suc z) s, omega arith)

pub cells_length : (words : List ℕ) (from n : ℕ) → length (cells words from n) ≡ n
cells_length words from zero = refl
cells_length words from (suc n) = let h = cells_length words (suc from) n in omega arith

pub cells_at : (words : List ℕ) (from n i : ℕ) → i < n → slice_index (cells words from n) i ≡ slice_index words (from + i)
cells_at words from zero i h = absurd (omega arith)
cells_at words from (suc n) zero h = let e : from + 0 ≡ from = omega arith in ap (slice_index words) (sym e)
cells_at words from (suc n) (suc i) h = cells_at words (suc from) n i (omega arith) ∙ (let e : suc from + i ≡ from + suc i = omega arith in ap (slice_index words) e)

pub row_cells_at : (z : Sizes) (words : List ℕ) (row i : ℕ) → i < width z row → slice_index (row_cells z words row) i ≡ cell z words row (i + 1)
row_cells_at z words row i h = cells_at words (row_at z row 1) (width z row) i h ∙ ap (slice_index words) (sym (next_to z row i))

pub flushed_length : (n : ℕ) (words : List ℕ) (number : ℕ) → length (flushed_words n words number) ≡ length words
flushed_length zero words number = refl
flushed_length (suc n) words number = Rattle.std.proofs.Math.ListN.length-set (flushed_words n words number) (control_at (suc n) 0) number ∙ flushed_length n words number

pub flushed_cell : (z : Sizes) (n : ℕ) (words : List ℕ) (number row i : ℕ) → n ≤ z.workers → cell z (flushed_words n words number) row i ≡ cell z words row i
flushed_cell z zero words number row i h = refl
flushed_cell z (suc n) words number row i h = set_cell_apart z (flushed_words n words number) row i (suc n) 0 number h (omega arith) ∙ flushed_cell z n words number row i (omega arith)

pub flushed_other : (n : ℕ) (words : List ℕ) (number d j : ℕ) → j < count_of d → ((0 < d) × (j ≡ 0) → ⊥) → slice_index (flushed_words n words number) (control_at d j) ≡ slice_index words (control_at d j)
flushed_other zero words number d j l ne = refl
flushed_other (suc n) words number d j l ne =
    get_or-set_other (flushed_words n words number) (control_at (suc n) 0) (control_at d j) number 0 (λ e. let s = same_control d (suc n) j 0 l (omega arith) e in let p = s.0 in ne (omega arith, s.1)) ∙ flushed_other n words number d j l ne

pub flushed_here : (z : Sizes) (n : ℕ) (words : List ℕ) (number d : ℕ) → n ≤ z.workers → length words ≡ size_of z → 0 < d → d ≤ n → slice_index (flushed_words n words number) (control_at d 0) ≡ number
flushed_here z zero words number d h size some le = absurd (omega arith)
flushed_here z (suc n) words number d h size some le = bool_cases (d == suc n)
    (λ t. let s : d ≡ suc n = grind (arith, nat_tests) in
    let P : ℕ → Type 0 = λ c. slice_index (flushed_words (suc n) words number) (control_at c 0) ≡ number in
    subst P (sym s) (get_or-set_same (flushed_words n words number) (control_at (suc n) 0) number 0 (let a = control_inside z (suc n) 0 h (omega arith) in let b = flushed_length n words number in omega arith)))
    (λ f. let d' : d ≢ suc n = grind (arith, nat_tests) in
    get_or-set_other (flushed_words n words number) (control_at (suc n) 0) (control_at d 0) number 0 (λ e. d' (same_control d (suc n) 0 0 (let c = some in lt_count d some) (omega arith) e).0) ∙ flushed_here z n words number d (omega arith) size some (omega arith))
  where
    lt_count : (d : ℕ) → 0 < d → 0 < count_of d
    lt_count zero h = absurd (omega arith)
    lt_count (suc d) h = omega arith
