-- What `==` says of two lists of pairs.
use Rattle.std.proofs.Common.{◌≡◌, ◌==◌, ◌&&◌, Bool, List, [], ◌∷◌, map, refl, ◌∙◌, ap}
use Rattle.std.proofs.Math.Bool.{and_assoc}
use Rattle.std.specs.Cmp.Lexicographic.{pointwise}
use Rattle.core_state.specs.Needs as needs
use Rattle.plain_images.specs.declared.pages.Pair.{Pair}
use Rattle.plain_images.specs.Pages.{pair_of}

abbrev pub is_one : Pair → Pair → Bool
is_one a b = (a.key == b.key) && (a.word == b.word)

-- pair by pair, as the need does
pub same_pairs : (xs ys : List Pair) → pointwise is_one xs ys ≡ needs.are_same (map pair_of xs) (map pair_of ys)
same_pairs [] [] = refl
same_pairs [] (y ∷ ys) = refl
same_pairs (x ∷ xs) [] = refl
same_pairs (x ∷ xs) (y ∷ ys) =
    and_assoc (x.key == y.key) (x.word == y.word) (pointwise is_one xs ys) ∙ ap (λ b. (x.key == y.key) && ((x.word == y.word) && b)) (same_pairs xs ys)
