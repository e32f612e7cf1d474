-- Rows side by side.
use Rattle.std.proofs.Common.{◌≡◌, ◌⊎◌, ◌<◌, ◌≤◌, ◌+◌, ◌*◌, ◌-◌, ℕ, zero, suc, List, ◌++◌, length, get_or, take, drop, replicate, refl, sym, ap, ◌∙◌, inl, inr, arith}
use Rattle.std.proofs.lemmas.Bool.{cases_eq}
use Rattle.std.proofs.lemmas.List.{length-append, length-take-le, length-drop, get_or_append_left, get_or-append_right, get_or-take, get_or-drop, get_or-replicate, ext_get_or}
use borrow.Rule.Slice.PartMut.{put_mid}
use Rattle.page_model.specs.Page.{Page}
use Rattle.row_opening.specs.Inside.{empty_row, root_row, AreTiled}

-- ## A write to a part

module _ (at k : ℕ) (ws piece : List ℕ) (fits : at + k ≤ length ws) (long : length piece ≡ k) where
  front : length (take at ws) ≡ at
  front = length-take-le at ws (omega arith)

  pub mid_long : length (put_mid at k ws piece) ≡ length ws
  mid_long =
      let a = length-append (take at ws) (piece ++ drop k (drop at ws)) in
      let b = length-append piece (drop k (drop at ws)) in
      let d = length-drop k (drop at ws) in let e = length-drop at ws in let f = front in omega arith

  pub mid_before : (j : ℕ) → j < at → get_or (put_mid at k ws piece) j 0 ≡ get_or ws j 0
  mid_before j l = get_or_append_left (take at ws) (piece ++ drop k (drop at ws)) 0 j (let f = front in omega arith) ∙ get_or-take at ws j 0 l

  pub mid_in : (i : ℕ) → i < k → get_or (put_mid at k ws piece) (at + i) 0 ≡ get_or piece i 0
  mid_in i l =
      let e : at + i - at ≡ i = omega arith in
      get_or-append_right (take at ws) (piece ++ drop k (drop at ws)) at (at + i) 0 front (omega arith)
      ∙ (ap (λ j. get_or (piece ++ drop k (drop at ws)) j 0) e ∙ get_or_append_left piece (drop k (drop at ws)) 0 i (omega arith))

  pub mid_behind : (j : ℕ) → at + k ≤ j → get_or (put_mid at k ws piece) j 0 ≡ get_or ws j 0
  mid_behind j l =
      let e : at + (k + (j - at - k)) ≡ j = omega arith in
      get_or-append_right (take at ws) (piece ++ drop k (drop at ws)) at j 0 front (omega arith)
      ∙ (get_or-append_right piece (drop k (drop at ws)) k (j - at) 0 long (omega arith)
      ∙ (get_or-drop k (drop at ws) (j - at - k) 0 ∙ (get_or-drop at ws (k + (j - at - k)) 0 ∙ ap (λ z. get_or ws z 0) e)))

-- ## Frame rows

-- the row behind the first n is as it was: zeros
pub tiled_zeros : (piece : ℕ → List ℕ) (first n : ℕ) (old ws : List ℕ) → AreTiled piece first 129 n old ws → old ≡ replicate (length old) 0 → (at m : ℕ) → at ≡ first + 129 * n → m ≡ 129 → at + 129 ≤ length ws → take m (drop at ws) ≡ replicate 129 0
tiled_zeros piece first n old ws t zeros at m e em fits = ext_get_or 0 (take m (drop at ws)) (replicate 129 0) size each
  where
    size : length (take m (drop at ws)) ≡ length (replicate {A = ℕ} 129 0)
    size = let a = length-drop at ws in length-take-le m (drop at ws) (omega arith) ∙ em

    each : (i : ℕ) → i < length (take m (drop at ws)) → get_or (take m (drop at ws)) i 0 ≡ get_or (replicate 129 0) i 0
    each i l =
        let s = size in
        let r : length (replicate {A = ℕ} 129 0) ≡ 129 = refl in
        let o = t.long in
        get_or-take m (drop at ws) i 0 (omega arith)
        ∙ (get_or-drop at ws i 0
        ∙ (t.others (at + i) (inr (omega arith))
        ∙ (ap (λ z. get_or z (at + i) 0) zeros
        ∙ (get_or-replicate (length old) (at + i) 0 0 (omega arith) ∙ sym (get_or-replicate 129 i 0 0 (omega arith))))))

-- no row yet
pub untiled : (piece : ℕ → List ℕ) (first : ℕ) (ws : List ℕ) → AreTiled piece first 129 0 ws ws
untiled piece first ws = record { long = refl; tiles = λ k i kl. absurd (omega arith); others = λ j out. refl }

-- a row behind the root's
pub empty_at : (root : Page) (f : ℕ) → 1 ≤ f → empty_row ≡ root_row root f
empty_at root zero h = absurd (omega arith)
empty_at root (suc f) h = refl

-- one row more
pub tiled_more : (piece : ℕ → List ℕ) (first n : ℕ) (old ws row : List ℕ) → AreTiled piece first 129 n old ws → (at m : ℕ) → at ≡ first + 129 * n → m ≡ 129 → at + 129 ≤ length ws → row ≡ piece n → length row ≡ 129 → AreTiled piece first 129 (n + 1) old (put_mid at m ws row)
tiled_more piece first n old ws row t at m e em fits is long = record {
  long = mid_long at m ws row (omega arith) (long ∙ sym em) ∙ t.long;
  tiles = tiles;
  others = others;
}
  where
    tiles : (k i : ℕ) → k < n + 1 → i < 129 → get_or (put_mid at m ws row) (first + 129 * k + i) 0 ≡ get_or (piece k) i 0
    tiles k i kl il = elim (cases_eq k n) [
      | inl s ↦
          let here : first + 129 * k + i ≡ at + i = omega arith in
          ap (λ j. get_or (put_mid at m ws row) j 0) here ∙ (mid_in at m ws row (omega arith) (long ∙ sym em) i (omega arith) ∙ ap (λ z. get_or z i 0) (is ∙ ap piece (sym s)))
      | inr ne ↦
          let lt : k < n = omega arith in
          mid_before at m ws row (omega arith) (long ∙ sym em) (first + 129 * k + i) (omega arith) ∙ t.tiles k i lt il
    ]

    others : (j : ℕ) → (j < first) ⊎ (first + 129 * (n + 1) ≤ j) → get_or (put_mid at m ws row) j 0 ≡ get_or old j 0
    others j (inl l) = mid_before at m ws row (omega arith) (long ∙ sym em) j (omega arith) ∙ t.others j (inl l)
    others j (inr l) = mid_behind at m ws row (omega arith) (long ∙ sym em) j (omega arith) ∙ t.others j (inr (omega arith))
