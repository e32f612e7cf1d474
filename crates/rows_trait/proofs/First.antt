-- Rows whose words are those of an opening are a picture of no events.
use Rattle.std.proofs.Common.{◌≡◌, ℕ, zero, suc, take, ◌-◌, true≢false, List, [], ◌∷◌, ◌++◌, replicate, refl, sym, ap, subst, ◌∙◌, arith}
use mathlib.Core.Option.{some, some-ne-none, some-injective}
use lib.ListN.{get_elem?}
use Rattle.row_words.specs.declared.given.Given.{Given}
use Rattle.rows_trait.specs.declared.view.View.{View}
use Rattle.rows_trait.specs.Layout.{Sizes}
use Rattle.rows_trait.specs.Plain.{IsOpening}
use Rattle.rows_trait.specs.Views.{Ends, first_plain}
use Rattle.rows_trait.specs.Rule.{plan, Fits, IsPicture}

module _ (z : Sizes) (v : Given) (words : List ℕ) (o : IsOpening z v words) where
  abbrev first : View
  first = first_plain v

  only : (j : ℕ) (u : View) → get_elem? (first ∷ []) j ≡ some u → (j ≡ 0) × (first ≡ u)
  only zero u e = (refl, some-injective first u e)
  only (suc j) u e = absurd (some-ne-none u (sym e))

  first_fits : Fits (plan z v) [] words first
  first_fits = record { given = refl; rest = []; whole = refl; apart = tt; memory = record { rising = λ row s h. absurd h; within = λ row s i x h. absurd h; known = λ row s i x h e. absurd h }; still = λ row s at h e. absurd h; held = λ row h. absurd (true≢false (sym h)); low = tt }

  pub opens_plain : IsPicture (plan z v) words first
  opens_plain = record {
    happened = [];
    live = refl;
    keeps = record {
      size = o.size;
      free = λ row lt ev i l. o.rows row lt i l;
      few = λ row lt. let y = o.latch row lt in omega arith;
      controls = o.controls;
      tame = tt;
      fits = λ j u e l. subst (Fits (plan z v) [] words) (only j u e).1 first_fits;
      actors = λ i j a b ea eb la lb same. (only i a ea).0 ∙ sym (only j b eb).0;
      owners = λ i j a b ea eb la lb row ha hb. (only i a ea).0 ∙ sym (only j b eb).0;
      makers = λ i j a b ea eb la lb up. (let s = ap (λ z. z.made) (only i a ea).1 in absurd (omega arith), λ u. (only i a ea).0 ∙ sym (only j b eb).0);
      below = λ i a ea la up rest e. let s = ap (λ z. z.made) (only i a ea).1 in absurd (omega arith);
      ended = λ i a ea la n own is. absurd (subst (λ (y : View). Ends n own y.ended) (sym (only i a ea).1) is);
      latched = λ row lt odd. let y = o.latch row lt in absurd (omega arith);
    };
    alone = record { seen = refl; only = refl; made = refl; ended = refl; steady = λ row s lt x. absurd (cc) };
  }

pub resized : (n len : ℕ) (old items : List ℕ) → old ≡ [] → len ≡ 0 → items ≡ take n old ++ replicate {A = ℕ} (n - len) 0 → items ≡ replicate {A = ℕ} n 0
resized n len old items e l is = is ∙ (let P : List ℕ × ℕ → Type 0 = λ z. take n z.0 ++ replicate {A = ℕ} (n - z.1) 0 ≡ replicate {A = ℕ} n 0 in subst P (λ i. (sym e i, sym l i)) (nothing_taken n))
  where
    nothing_taken : (n : ℕ) → take {A = ℕ} n [] ++ replicate {A = ℕ} (n - 0) 0 ≡ replicate {A = ℕ} n 0
    nothing_taken zero = refl
    nothing_taken (suc n) = let e : suc n - 0 ≡ suc n = omega arith in ap (λ z. replicate {A = ℕ} z 0) e
