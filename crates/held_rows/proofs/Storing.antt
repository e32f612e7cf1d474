-- Words that are stored in a held row, and loaded from it, one by one.
use Rattle.std.proofs.Common.{◌≡◌, ◌≢◌, ◌==◌, ◌<◌, ◌+◌, ℕ, Bool, true, false, List, [], ◌∷◌, ◌++◌, length, set, take, drop, refl, sym, ap, subst, ◌∙◌, arith}
use Rattle.std.specs.Prelude.{slice_index}
use Rattle.std.proofs.lemmas.List.{get_or-set_same, get_or-set_other, take_more, drop_more, set_at, append_assoc, length-take-le}
use Rattle.std.proofs.lemmas.Bool.Decides.{nat_tests}
use Rattle.rows_trait.specs.declared.view.View.{View}
use Rattle.rows_trait.specs.Views.{Shape, holds, held_at}
use Rattle.rows_trait.specs.Turns.{Stored}
use Rattle.rows_trait.proofs.Holds.{holds_write, write_apart, write_here}
use Rattle.held_rows.specs.Rows.{Wrote}
use Rattle.held_rows.specs.Waits.{waited_goes}

-- said of the shape and the row that others speak of
pub stored_as : {z y : Shape} {row q i x : ℕ} {v w : View} → y ≡ z → q ≡ row → Stored y q i x v w → Stored z row i x v w
stored_as {i = i} {x = x} {v = v} {w = w} a b s = subst (λ (k : Shape × ℕ). Stored k.0 k.1 i x v w) (λ j. (a j, b j)) s

-- a word is stored
pub wrote_one : {z : Shape} {row i x : ℕ} {v w : View} → holds v.held row ≡ true → Stored z row i x v w → Wrote z.alone row (set (held_at v.held row).now i x) v w
wrote_one {row = row} {i = i} {x = x} {v = v} {w = w} mine s =
    let here = ap (λ hs. held_at hs row) s.held ∙ write_here v.held row i x mine in record {
      waited = waited_goes s.goes (λ q. ap (λ hs. holds hs q) s.held ∙ holds_write v.held row i x q);
      was = ap (λ h. h.was) here;
      now = ap (λ h. h.now) here;
      done = ap (λ h. h.done) here;
      others = λ q ne. ap (λ hs. held_at hs q) s.held ∙ write_apart v.held row i x q (λ e. ne (sym e));
    }

-- one more word is written over
pub over_more : (ws now : List ℕ) (i : ℕ) → i < length ws → i < length now → set (take i ws ++ drop i now) i (slice_index ws i) ≡ take (i + 1) ws ++ drop (i + 1) now
over_more ws now i short long =
    let x = slice_index ws i in
    let a : take (i + 1) ws ≡ take i ws ++ x ∷ [] = take_more ws i 0 short in
    let b : drop i now ≡ slice_index now i ∷ drop (i + 1) now = drop_more now i 0 long in
    ap (λ (ys : List ℕ). set (take i ws ++ ys) i x) b
    ∙ (set_at (take i ws) (slice_index now i) (drop (i + 1) now) x i (length-take-le i ws (omega arith))
    ∙ (sym (append_assoc (take i ws) (x ∷ []) (drop (i + 1) now)) ∙ ap (λ (ys : List ℕ). ys ++ drop (i + 1) now) (sym a)))

-- the first words are those of another list, and one more
pub one_more : (xs ys : List ℕ) (n x : ℕ) → n < length xs → ((i : ℕ) → i < n → slice_index xs i ≡ slice_index ys i) → x ≡ slice_index ys n → (i : ℕ) → i < n + 1 → slice_index (set xs n x) i ≡ slice_index ys i
one_more xs ys n x long first one i lt = at (i == n) refl
  where
    at : (b : Bool) → (i == n) ≡ b → slice_index (set xs n x) i ≡ slice_index ys i
    at true e = let is : i ≡ n = grind (arith, nat_tests) in ap (slice_index (set xs n x)) is ∙ (get_or-set_same xs n x 0 long ∙ (one ∙ ap (slice_index ys) (sym is)))
    at false e = let ne : i ≢ n = grind (arith, nat_tests) in get_or-set_other xs n i x 0 ne ∙ first i (omega arith)
