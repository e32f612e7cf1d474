-- The words of the pages, and what they say.
use Rattle.std.proofs.Common.{◌≡◌, ◌<◌, ℕ, zero, suc, List, [], ◌∷◌, length, set, map, get_or, replicate, Option, None, Some, IfSome, ◌==◌, refl, ap, ◌∙◌, arith}
use Rattle.std.specs.List.{zip}
use Rattle.std.proofs.lemmas.Bool.{eq-eqb, ne_eqb, cond-true, cond-false}
use Rattle.std.proofs.lemmas.List.{get_or-map, length-map, map-set}
use Rattle.std.proofs.lemmas.Slice.Zip.{get_or-zip}
use Rattle.cold_pages.specs.declared.kept.Kept.{Kept}
use Rattle.cold_pages.specs.declared.kept.TheConstants.{FREE, NOBODY}
use Rattle.cold_pages.specs.Kept.{nothing, kept_of}
use Rattle.cold_pages.specs.Inside.{or_none, unless, byte_of, word_of, row, rows, AreEven}

-- ## Two lists beside each other

module _ {A B : Type 0} where
  zip-set : (xs : List A) (ys : List B) (i : ℕ) (x : A) (y : B) → zip (set xs i x) (set ys i y) ≡ set (zip xs ys) i (x, y)
  zip-set [] ys i x y = refl
  zip-set (a ∷ xs) [] zero x y = refl
  zip-set (a ∷ xs) [] (suc i) x y = refl
  zip-set (a ∷ xs) (b ∷ ys) zero x y = refl
  zip-set (a ∷ xs) (b ∷ ys) (suc i) x y = ap (λ (z : List (A × B)). (a, b) ∷ z) (zip-set xs ys i x y)

  length-zip_even : (xs : List A) (ys : List B) (n : ℕ) → length xs ≡ n → length ys ≡ n → length (zip xs ys) ≡ n
  length-zip_even [] ys n e d = e
  length-zip_even (a ∷ xs) [] n e d = d
  length-zip_even (a ∷ xs) (b ∷ ys) zero e d = absurd (let no : ⊥ = omega arith in no)
  length-zip_even (a ∷ xs) (b ∷ ys) (suc n) e d = ap suc (length-zip_even xs ys n (omega arith) (omega arith))

  zip-replicate : (n : ℕ) (x : A) (y : B) → zip (replicate n x) (replicate n y) ≡ replicate n (x, y)
  zip-replicate zero x y = refl
  zip-replicate (suc n) x y = ap (λ (z : List (A × B)). (x, y) ∷ z) (zip-replicate n x y)

  map-replicate : (f : A → B) (n : ℕ) (x : A) → map f (replicate n x) ≡ replicate n (f x)
  map-replicate f zero x = refl
  map-replicate f (suc n) x = ap (λ (z : List B). f x ∷ z) (map-replicate f n x)

-- ## A number, or one that stands for none

module _ (none : ℕ) where
  some_number : (o : Option ℕ) → IfSome o (λ n. n < none) → unless none (or_none none o) ≡ o
  some_number None l = cond-true (none == none) None (Some none) (eq-eqb none none refl)
  some_number (Some n) l = cond-false (n == none) None (Some n) (ne_eqb n none (λ e. (let no : ⊥ = omega (arith, l) in no)))

parent_below : (parent : Option ℕ) → IfSome parent (λ q. q < 4294967295) → IfSome parent (λ q. q < NOBODY)
parent_below None l = l
parent_below (Some q) l = omega (arith, l)

level_below : (level : Option ℕ) → IfSome level (λ l. l < 255) → IfSome level (λ l. l < FREE)
level_below None l = l
level_below (Some n) l = omega (arith, l)

-- ## Rows

module _ (gs ls vs ms hs cs ps : List ℕ) (even : AreEven gs ls vs ms hs cs ps) where
  z6 : length (zip cs ps) ≡ length gs
  z6 = length-zip_even cs ps (length gs) even.counts even.parents

  z5 : length (zip hs (zip cs ps)) ≡ length gs
  z5 = length-zip_even hs (zip cs ps) (length gs) even.highs z6

  z4 : length (zip ms (zip hs (zip cs ps))) ≡ length gs
  z4 = length-zip_even ms (zip hs (zip cs ps)) (length gs) even.lows z5

  z3 : length (zip vs (zip ms (zip hs (zip cs ps)))) ≡ length gs
  z3 = length-zip_even vs (zip ms (zip hs (zip cs ps))) (length gs) even.levels z4

  z2 : length (zip ls (zip vs (zip ms (zip hs (zip cs ps))))) ≡ length gs
  z2 = length-zip_even ls (zip vs (zip ms (zip hs (zip cs ps)))) (length gs) even.lasts z3

  z1 : length (zip gs (zip ls (zip vs (zip ms (zip hs (zip cs ps)))))) ≡ length gs
  z1 = length-zip_even gs (zip ls (zip vs (zip ms (zip hs (zip cs ps))))) (length gs) refl z2

  pub length-rows : length (rows gs ls vs ms hs cs ps) ≡ length gs
  length-rows = length-map (zip gs (zip ls (zip vs (zip ms (zip hs (zip cs ps)))))) row ∙ z1

  -- so a page of the table has its words
  pub page_within : (now : List Kept) (p : ℕ) → rows gs ls vs ms hs cs ps ≡ now → p < length now → p < length gs
  page_within now p e l = let n = length-rows in let m = ap (λ (z : List Kept). length z) e in omega arith

  -- what is kept of a page is what its words say
  pub kept_of-rows : (p : ℕ) → p < length gs → kept_of (rows gs ls vs ms hs cs ps) p ≡ row (get_or gs p 0, (get_or ls p 0, (get_or vs p 0, (get_or ms p 0, (get_or hs p 0, (get_or cs p 0, get_or ps p 0))))))
  kept_of-rows p l =
      let e1 = z1 in let e2 = z2 in let e3 = z3 in let e4 = z4 in let e5 = z5 in let e6 = z6 in
      let f1 = even.lasts in let f2 = even.levels in let f3 = even.lows in let f4 = even.highs in let f5 = even.counts in let f6 = even.parents in
      get_or-map row (zip gs (zip ls (zip vs (zip ms (zip hs (zip cs ps)))))) p (0, (0, (0, (0, (0, (0, 0)))))) nothing (omega arith)
      ∙ ap row (get_or-zip gs (zip ls (zip vs (zip ms (zip hs (zip cs ps))))) p (0, (0, (0, (0, (0, (0, 0)))))) l (omega arith)
      ∙ ap (λ (z : ℕ × (ℕ × (ℕ × (ℕ × (ℕ × ℕ))))). (get_or gs p 0, z)) (get_or-zip ls (zip vs (zip ms (zip hs (zip cs ps)))) p (0, (0, (0, (0, (0, 0))))) (omega arith) (omega arith)
      ∙ ap (λ (z : ℕ × (ℕ × (ℕ × (ℕ × ℕ)))). (get_or ls p 0, z)) (get_or-zip vs (zip ms (zip hs (zip cs ps))) p (0, (0, (0, (0, 0)))) (omega arith) (omega arith)
      ∙ ap (λ (z : ℕ × (ℕ × (ℕ × ℕ))). (get_or vs p 0, z)) (get_or-zip ms (zip hs (zip cs ps)) p (0, (0, (0, 0))) (omega arith) (omega arith)
      ∙ ap (λ (z : ℕ × (ℕ × ℕ)). (get_or ms p 0, z)) (get_or-zip hs (zip cs ps) p (0, (0, 0)) (omega arith) (omega arith)
      ∙ ap (λ (z : ℕ × ℕ). (get_or hs p 0, z)) (get_or-zip cs ps p (0, 0) (omega arith) (omega arith)))))))

  -- and the words of a page are written
  pub rows-set : (p : ℕ) (kept : Kept) → IfSome kept.level (λ level. level < 255) → IfSome kept.parent (λ q. q < 4294967295) → rows (set gs p kept.gsn) (set ls p kept.last) (set vs p (byte_of kept.level)) (set ms p kept.low) (set hs p kept.high) (set cs p kept.count) (set ps p (word_of kept.parent)) ≡ set (rows gs ls vs ms hs cs ps) p kept
  rows-set p kept tall below =
      let b = byte_of kept.level in
      let w = word_of kept.parent in
      let x5 : ℕ × ℕ = (kept.count, w) in
      let x4 : ℕ × (ℕ × ℕ) = (kept.high, x5) in
      let x3 : ℕ × (ℕ × (ℕ × ℕ)) = (kept.low, x4) in
      let x2 : ℕ × (ℕ × (ℕ × (ℕ × ℕ))) = (b, x3) in
      let x1 : ℕ × (ℕ × (ℕ × (ℕ × (ℕ × ℕ)))) = (kept.last, x2) in
      ap (λ (z : List (ℕ × ℕ)). map row (zip (set gs p kept.gsn) (zip (set ls p kept.last) (zip (set vs p b) (zip (set ms p kept.low) (zip (set hs p kept.high) z)))))) (zip-set cs ps p kept.count w)
      ∙ (ap (λ (z : List (ℕ × (ℕ × ℕ))). map row (zip (set gs p kept.gsn) (zip (set ls p kept.last) (zip (set vs p b) (zip (set ms p kept.low) z))))) (zip-set hs (zip cs ps) p kept.high x5)
      ∙ (ap (λ (z : List (ℕ × (ℕ × (ℕ × ℕ)))). map row (zip (set gs p kept.gsn) (zip (set ls p kept.last) (zip (set vs p b) z)))) (zip-set ms (zip hs (zip cs ps)) p kept.low x4)
      ∙ (ap (λ (z : List (ℕ × (ℕ × (ℕ × (ℕ × ℕ))))). map row (zip (set gs p kept.gsn) (zip (set ls p kept.last) z))) (zip-set vs (zip ms (zip hs (zip cs ps))) p b x3)
      ∙ (ap (λ (z : List (ℕ × (ℕ × (ℕ × (ℕ × (ℕ × ℕ)))))). map row (zip (set gs p kept.gsn) z)) (zip-set ls (zip vs (zip ms (zip hs (zip cs ps)))) p kept.last x2)
      ∙ (ap (map row) (zip-set gs (zip ls (zip vs (zip ms (zip hs (zip cs ps))))) p kept.gsn x1)
      ∙ (map-set row (zip gs (zip ls (zip vs (zip ms (zip hs (zip cs ps)))))) p (kept.gsn, x1)
      ∙ (ap (λ (z : Option ℕ). set (rows gs ls vs ms hs cs ps) p (record { gsn = kept.gsn; last = kept.last; level = z; low = kept.low; high = kept.high; count = kept.count; parent = unless NOBODY w })) (some_number FREE kept.level (level_below kept.level tall))
      ∙ ap (λ (z : Option ℕ). set (rows gs ls vs ms hs cs ps) p (record kept { parent = z })) (some_number NOBODY kept.parent (parent_below kept.parent below)))))))))

-- no page was noted
pub rows-replicate : (n : ℕ) → rows (replicate n 0) (replicate n 0) (replicate n FREE) (replicate n 0) (replicate n 0) (replicate n 0) (replicate n NOBODY) ≡ replicate n nothing
rows-replicate n =
    ap (λ (z : List (ℕ × ℕ)). map row (zip (replicate n 0) (zip (replicate n 0) (zip (replicate n FREE) (zip (replicate n 0) (zip (replicate n 0) z)))))) (zip-replicate n 0 NOBODY)
    ∙ (ap (λ (z : List (ℕ × (ℕ × ℕ))). map row (zip (replicate n 0) (zip (replicate n 0) (zip (replicate n FREE) (zip (replicate n 0) z))))) (zip-replicate n 0 (0, NOBODY))
    ∙ (ap (λ (z : List (ℕ × (ℕ × (ℕ × ℕ)))). map row (zip (replicate n 0) (zip (replicate n 0) (zip (replicate n FREE) z)))) (zip-replicate n 0 (0, (0, NOBODY)))
    ∙ (ap (λ (z : List (ℕ × (ℕ × (ℕ × (ℕ × ℕ))))). map row (zip (replicate n 0) (zip (replicate n 0) z))) (zip-replicate n FREE (0, (0, (0, NOBODY))))
    ∙ (ap (λ (z : List (ℕ × (ℕ × (ℕ × (ℕ × (ℕ × ℕ)))))). map row (zip (replicate n 0) z)) (zip-replicate n 0 (FREE, (0, (0, (0, NOBODY)))))
    ∙ (ap (map row) (zip-replicate n 0 (0, (FREE, (0, (0, (0, NOBODY))))))
    ∙ (map-replicate row n (0, (0, (FREE, (0, (0, (0, NOBODY))))))
    ∙ (ap (λ (z : Option ℕ). replicate n (record { gsn = 0; last = 0; level = z; low = 0; high = 0; count = 0; parent = unless NOBODY NOBODY })) (some_number FREE None tt)
    ∙ ap (λ (z : Option ℕ). replicate n (record { gsn = 0; last = 0; level = None; low = 0; high = 0; count = 0; parent = z })) (some_number NOBODY None tt))))))))
