-- Marks of rows that are held.
use Rattle.std.proofs.Common.{◌≡◌, ◌⊎◌, inl, inr, ◌≤◌, ◌<◌, ◌^◌, ◌+◌, ◌++◌, ◌-◌, take, ◌==◌, ℕ, zero, suc, Bool, true, false, cond, List, [], ◌∷◌, length, get_or, set, replicate, drop, refl, sym, ap, ◌∙◌, subst, arith, true≢false, eq-eqb, get_or-set_same, get_or-set_other}
use Rattle.std.proofs.lemmas.Bool.{cases_eq, cases_lt, eqb-true}
use Rattle.std.proofs.lemmas.List.{drop_all, drop_more, get_or-replicate, get_or_default, get_or_past, length-append, length-replicate, length-set}
use Rattle.map_model.specs.Lists.{Has}
use Rattle.map_model.proofs.ListLemmas.{any_has, has_any, has_cases, has_left, has_right}
use Rattle.btree_descent.specs.core_state.Needs.{is_reader}
use Rattle.session_state.specs.Held.{AreMarked, Held, count_of, with_row}

-- ## How many stand

pub count_most : (bs : List Bool) → count_of bs ≤ length bs
count_most [] = omega arith
count_most (true ∷ bs) = let q = count_most bs in omega arith
count_most (false ∷ bs) = let q = count_most bs in omega arith

-- one does not
count_free : (bs : List Bool) (i : ℕ) → i < length bs → get_or bs i false ≡ false → count_of bs < length bs
count_free [] i lt e = omega arith
count_free (true ∷ bs) zero lt e = absurd (true≢false e)
count_free (false ∷ bs) zero lt e = let q = count_most bs in omega arith
count_free (true ∷ bs) (suc i) lt e = let q = count_free bs i (omega arith) e in omega arith
count_free (false ∷ bs) (suc i) lt e = let q = count_free bs i (omega arith) e in omega arith

-- that one is set
count_set : (bs : List Bool) (i : ℕ) → i < length bs → get_or bs i false ≡ false → count_of (set bs i true) ≡ suc (count_of bs)
count_set [] i lt e = omega arith
count_set (true ∷ bs) zero lt e = absurd (true≢false e)
count_set (false ∷ bs) zero lt e = refl
count_set (true ∷ bs) (suc i) lt e = ap suc (count_set bs i (omega arith) e)
count_set (false ∷ bs) (suc i) lt e = count_set bs i (omega arith) e

-- none does
count_none : (bs : List Bool) → ((i : ℕ) → get_or bs i false ≡ true → ⊥) → count_of bs ≡ 0
count_none [] f = refl
count_none (true ∷ bs) f = absurd (f 0 refl)
count_none (false ∷ bs) f = count_none bs (λ i. f (suc i))

-- ## Readers and rows

pub has_reader : (row : ℕ) (rows : List ℕ) → Has row rows → is_reader row rows ≡ true
has_reader row rows i = has_any (λ v. v == row) rows row i (eq-eqb row row refl)

pub reader_has : (row : ℕ) (rows : List ℕ) → is_reader row rows ≡ true → Has row rows
reader_has row rows e = let x = any_has (λ v. v == row) rows e in subst (λ k. Has k rows) (eqb-true x.0 row x.2) x.1

no_reader : (row : ℕ) (rows : List ℕ) → (Has row rows → ⊥) → is_reader row rows ≡ false
no_reader row rows f = go (is_reader row rows) refl
  where
    go : (b : Bool) → is_reader row rows ≡ b → b ≡ false
    go false e = refl
    go true e = absurd (f (reader_has row rows e))

-- ## Rows

-- none are held
pub none_marked : (marks : List Bool) (rows : List ℕ) (count most : ℕ) → marks ≡ replicate count false → rows ≡ [] → count < 2 ^ 32 → count ≤ most → AreMarked marks rows most
none_marked marks rows count most m r few room = subst (λ ms. AreMarked ms rows most) (sym m) (subst (λ rs. AreMarked (replicate count false) rs most) (sym r) (record {
  few = let q = length-replicate count false in omega arith;
  room = let q = length-replicate count false in omega arith;
  count = sym (count_none (replicate count false) not_one);
  marked = λ i. (λ e. not_one i e, λ h. absurd h);
  within = λ i h. absurd h;
}))
  where
    lies : (i : ℕ) (b : Bool) → get_or (replicate count false) i false ≡ b → b ≡ false
    lies i b e = go (cases_lt i count)
      where
        go : (i < count) ⊎ (count ≤ i) → b ≡ false
        go (inl lt) = sym e ∙ get_or-replicate count i false false lt
        go (inr ge) = sym e ∙ get_or_past (replicate count false) i false (let q = length-replicate count false in omega arith)

    not_one : (i : ℕ) → get_or (replicate count false) i false ≡ true → ⊥
    not_one i e = true≢false (lies i true e)

module _ (marks : List Bool) (rows : List ℕ) (most row : ℕ) (m : AreMarked marks rows most) (lt : row < length marks) (b : Bool) (read : b ≡ get_or marks row b) where
  -- the mark says whether the row is held
  pub mark_is : b ≡ is_reader row rows
  mark_is = go b refl (is_reader row rows) refl
    where
      mark : get_or marks row false ≡ b
      mark = get_or_default marks row false b lt ∙ sym read

      go : (c : Bool) → b ≡ c → (d : Bool) → is_reader row rows ≡ d → b ≡ is_reader row rows
      go true e d f = e ∙ sym (has_reader row rows ((m.marked row).0 (mark ∙ e)))
      go false e true f = absurd (true≢false (sym ((m.marked row).1 (reader_has row rows f)) ∙ (mark ∙ e)))
      go false e false f = e ∙ sym f

  free : b ≡ false → get_or marks row false ≡ false
  free e = get_or_default marks row false b lt ∙ (sym read ∙ e)

  -- one that is not marked finds room
  pub has_room : b ≡ false → length rows < most
  has_room e = let a = count_free marks row lt (free e) in let c = m.count in let d = m.room in omega arith

  not_among : b ≡ false → Has row rows → ⊥
  not_among e h = true≢false (sym ((m.marked row).1 h) ∙ free e)

  -- it is taken
  pub marked_more : b ≡ false → AreMarked (set marks row true) (rows ++ row ∷ []) most
  marked_more e = record {
    few = let q = length-set marks row true in let p = m.few in omega arith;
    room = let q = length-set marks row true in let p = m.room in omega arith;
    count = let l = length-append rows (row ∷ []) in let c = count_set marks row lt (free e) in let d = m.count in omega arith;
    marked = λ i. (to i (cases_eq i row), back i (cases_eq i row));
    within = λ i h. let q = length-set marks row true in within i (has_cases i rows (row ∷ []) h);
  }
    where
      to : (i : ℕ) → (i ≡ row) ⊎ (i ≡ row → ⊥) → get_or (set marks row true) i false ≡ true → Has i (rows ++ row ∷ [])
      to i (inl same) t = has_right i rows (row ∷ []) (inl same)
      to i (inr ne) t = has_left i rows (row ∷ []) ((m.marked i).0 (sym (get_or-set_other marks row i true false ne) ∙ t))

      stands : (i : ℕ) → (i ≡ row) ⊎ (i ≡ row → ⊥) → Has i rows ⊎ Has i (row ∷ []) → get_or (set marks row true) i false ≡ true
      stands i (inl same) h = ap (λ k. get_or (set marks row true) k false) same ∙ get_or-set_same marks row true false lt
      stands i (inr ne) (inl h) = get_or-set_other marks row i true false ne ∙ (m.marked i).1 h
      stands i (inr ne) (inr (inl same)) = absurd (ne same)
      stands i (inr ne) (inr (inr no_more)) = absurd no_more

      back : (i : ℕ) → (i ≡ row) ⊎ (i ≡ row → ⊥) → Has i (rows ++ row ∷ []) → get_or (set marks row true) i false ≡ true
      back i o h = stands i o (has_cases i rows (row ∷ []) h)

      within : (i : ℕ) → Has i rows ⊎ Has i (row ∷ []) → i < length (set marks row true)
      within i (inl h) = let q = length-set marks row true in let p = m.within i h in omega arith
      within i (inr (inl same)) = let q = length-set marks row true in omega arith
      within i (inr (inr no_more)) = absurd no_more

  -- as the value has it
  pub taken_row : b ≡ false → (h : Held) → h ≡ record { count = length marks; rows = rows } → (ms : List Bool) (rs : List ℕ) → ms ≡ set marks row true → rs ≡ rows ++ row ∷ [] → record { count = length ms; rows = rs } ≡ with_row h row
  taken_row e h is ms rs p q =
      (λ i. record { count = length (p i); rows = q i })
      ∙ ((λ i. record { count = length-set marks row true i; rows = rows ++ row ∷ [] })
      ∙ ((λ i. cond (sym (no_reader row rows (not_among e)) i) (record { count = length marks; rows = rows }) (record { count = length marks; rows = rows ++ row ∷ [] }))
      ∙ ap (λ k. with_row k row) (sym is)))

  -- one that is marked is held already
  pub kept_row : b ≡ true → (h : Held) → h ≡ record { count = length marks; rows = rows } → h ≡ with_row h row
  kept_row e h is = is ∙ ((λ i. cond (sym (has_reader row rows ((m.marked row).0 (get_or_default marks row false b lt ∙ (sym read ∙ e)))) i) (record { count = length marks; rows = rows }) (record { count = length marks; rows = rows ++ row ∷ [] })) ∙ ap (λ k. with_row k row) (sym is))

-- ## Giving back

-- of these rows those from this place on are marked at most
abbrev pub AreLeft : (now : List Bool) (rows : List ℕ) (at : ℕ) → Type 0
AreLeft now rows at = (i : ℕ) → get_or now i false ≡ true → Has i (drop at rows)

pub left_first : (marks : List Bool) (rows : List ℕ) (most : ℕ) → AreMarked marks rows most → AreLeft marks rows 0
left_first marks rows most m i e = (m.marked i).0 e

pub left_next : (now : List Bool) (rows : List ℕ) (at row : ℕ) → AreLeft now rows at → at < length rows → row ≡ get_or rows at row → row < length now → AreLeft (set now row false) rows (at + 1)
left_next now rows at row l lt is low i e = go (cases_eq i row)
  where
    rest : (i ≡ row → ⊥) → Has i (get_or rows at row ∷ drop (at + 1) rows) → Has i (drop (at + 1) rows)
    rest ne (inl same) = absurd (ne (same ∙ sym is))
    rest ne (inr h) = h

    go : (i ≡ row) ⊎ (i ≡ row → ⊥) → Has i (drop (at + 1) rows)
    go (inl same) = absurd (true≢false (sym e ∙ (ap (λ k. get_or (set now row false) k false) same ∙ get_or-set_same now row false false low)))
    go (inr ne) = rest ne (subst (λ ks. Has i ks) (drop_more rows at row lt) (l i (sym (get_or-set_other now row i false false ne) ∙ e)))

-- a row that stands at a place is among the marks
pub row_within : (marks : List Bool) (rows : List ℕ) (most at row : ℕ) → AreMarked marks rows most → at < length rows → row ≡ get_or rows at row → row < length marks
row_within marks rows most at row m lt is = m.within row (subst (λ k. Has k rows) (sym is) (has_at rows at row lt))
  where
    has_at : (xs : List ℕ) (i d : ℕ) → i < length xs → Has (get_or xs i d) xs
    has_at [] i d lt = omega arith
    has_at (x ∷ xs) zero d lt = inl refl
    has_at (x ∷ xs) (suc i) d lt = inr (has_at xs i d (omega arith))

pub left_last : (now : List Bool) (rows none : List ℕ) (at most : ℕ) → AreLeft now rows at → length rows ≤ at → none ≡ [] → length now < 2 ^ 32 → length now ≤ most → AreMarked now none most
left_last now rows none at most l ge is few room = subst (λ ks. AreMarked now ks most) (sym is) (record {
  few = few;
  room = room;
  count = sym (count_none now nobody);
  marked = λ i. (λ e. nobody i e, λ h. absurd h);
  within = λ i h. absurd h;
})
  where
    nobody : (i : ℕ) → get_or now i false ≡ true → ⊥
    nobody i e = subst (λ ks. Has i ks) (drop_all at rows ge) (l i e)

-- as they lie in memory
pub marked_as : (ms ns : List Bool) (rs qs : List ℕ) (most room : ℕ) → AreMarked ms rs most → ns ≡ ms → qs ≡ rs → room ≡ most → AreMarked ns qs room
marked_as ms ns rs qs most room m p q r = subst (λ k. AreMarked k qs room) (sym p) (subst (λ k. AreMarked ms k room) (sym q) (subst (λ k. AreMarked ms rs k) (sym r) m))

-- marks that grew from nothing
pub grown : (xs ys : List Bool) (n len : ℕ) → ys ≡ take n xs ++ replicate (n - len) false → xs ≡ [] → len ≡ 0 → ys ≡ replicate n false
grown xs ys n len is none zero_is = is ∙ ((λ i. take n (none i) ++ replicate (n - zero_is i) false) ∙ (ap (λ zs. zs ++ replicate (n - 0) false) (take_none n) ∙ ap (λ k. replicate k false) (less n)))
  where
    less : (n : ℕ) → n - 0 ≡ n
    less n = omega arith

    take_none : (n : ℕ) → take {A = Bool} n [] ≡ []
    take_none zero = refl
    take_none (suc n) = refl
