-- Plain rows that hold no latch keep the rule, as one seat's that has seen what they have seen.
use Rattle.std.proofs.Common.{◌≡◌, ℕ, zero, suc, ◌<◌, ◌%◌, true≢false, List, [], ◌∷◌, ◌++◌, refl, sym, ap, subst, ◌∙◌, arith, append-nil}
use mathlib.Core.Option.{some, some-ne-none, some-injective}
use lib.ListN.{get_elem?}
use Rattle.rows_trait.specs.declared.view.View.{View}
use Rattle.rows_trait.specs.Layout.{Sizes, rows_of, cell}
use Rattle.rows_trait.specs.Views.{IsEven, holds, AreBelow, Ends}
use Rattle.rows_trait.specs.Rule.{plan, Fits, Keeps, IsPicture}
use Rattle.std.proofs.lemmas.List.{append_cancel_left}
use Rattle.rows_trait.proofs.Stepping.{lone}
use Rattle.shared_rows.specs.Ruled.{making, newcomer}

module _ (z : Sizes) (words : List ℕ) (v : View) (p : IsPicture (plan z v.given) words v) (none : v.held ≡ []) where
  abbrev first : View
  first = making 1 (newcomer 0 v.given v.seen)

  only : (j : ℕ) (u : View) → get_elem? (first ∷ []) j ≡ some u → (j ≡ 0) × (first ≡ u)
  only zero u e = (refl, some-injective first u e)
  only (suc j) u e = absurd (some-ne-none u (sym e))

  free_row : (row : ℕ) → row < rows_of z → IsEven (cell z words row 0)
  free_row row lt = at (cell z words row 0 % 2) refl
    where
      at : (m : ℕ) → cell z words row 0 % 2 ≡ m → IsEven (cell z words row 0)
      at zero e = e
      at (suc m) e =
          let l = p.keeps.latched row lt (omega arith) in
          let s = lone l.0 v l.1 l.2 in
          let same = some-injective v l.1 (ap (get_elem? (v ∷ [])) (sym s) ∙ l.2) in
          absurd (true≢false (sym l.4 ∙ (ap (λ y. holds y.held row) (sym same) ∙ ap (λ y. holds y row) none)))

  first_fits : Fits (plan z v.given) p.happened words first
  first_fits = record {
    given = refl;
    rest = [];
    whole = p.alone.seen ∙ sym (append-nil v.seen);
    apart = tt;
    memory = record { rising = λ row s h. absurd h; within = λ row s i x h. absurd h; known = λ row s i x h e. absurd h };
    still = λ row s at h e. absurd h;
    held = λ row h. absurd (true≢false (sym h));
    low = tt;
  }

  pub shares : Keeps (plan z v.given) p.happened words (first ∷ [])
  shares = record {
    size = p.keeps.size;
    free = p.keeps.free;
    few = p.keeps.few;
    controls = p.keeps.controls;
    tame = p.keeps.tame;
    fits = λ j u e l. subst (Fits (plan z v.given) p.happened words) (only j u e).1 first_fits;
    actors = λ i j a b ea eb la lb same. (only i a ea).0 ∙ sym (only j b eb).0;
    owners = λ i j a b ea eb la lb row ha hb. (only i a ea).0 ∙ sym (only j b eb).0;
    makers = λ i j a b ea eb la lb up. (let s = ap (λ y. y.actor) (only j b eb).1 in let t = ap (λ y. y.made) (only i a ea).1 in omega arith, λ u. (only i a ea).0 ∙ sym (only j b eb).0);
    below = λ i a ea la up rest e. subst (AreBelow a.made) (append_cancel_left v.seen [] rest (append-nil v.seen ∙ (sym p.alone.seen ∙ (e ∙ ap (λ y. y.seen ++ rest) (sym (only i a ea).1))))) tt;
    ended = λ i a ea la n own is. absurd (subst (λ (y : View). Ends n own y.ended) (sym (only i a ea).1) is);
    latched = λ row lt odd. let e = free_row row lt in absurd (omega arith);
  }
