-- The page that the words of a row spell.
use Rattle.std.proofs.Common.{◌≡◌, ◌≢◌, ◌==◌, ◌<◌, inr, ℕ, Bool, true, false, List, [], ◌∷◌, ◌++◌, length, refl, sym, ap, subst, ◌∙◌, arith, true≢false}
use Rattle.std.specs.Prelude.{slice_index}
use Rattle.std.proofs.lemmas.Bool.Decides.{nat_tests}
use Rattle.std.proofs.lemmas.List.{ext_get_or}
use Rattle.page_model.specs.Page as stored
use Rattle.btree_descent.specs.btree_node.Words.{words_of, Fits, Spells}
use Rattle.btree_descent.proofs.btree_node.SpellingLemmas.{one-page}
use Rattle.btree_descent.specs.core_state.States.{Place, in_frame, is_cooling, is_hot}
use Rattle.btree_descent.specs.row_words.declared.given.Given.{Given}
use Rattle.btree_descent.specs.row_words.Moments.{Moment}
use Rattle.btree_descent.specs.row_words.Openings.{opening}
use Rattle.btree_descent.specs.row_words.Sealed.{Shown}
use Rattle.btree_descent.specs.row_words.Words.{framed_page}
use Rattle.btree_descent.proofs.row_words.Frames.{hot_place, one_word}
use Rattle.btree_descent.specs.rows_trait.declared.view.Act.{Act}
use Rattle.btree_descent.specs.rows_trait.declared.view.Act.TheVariants.{Look, Load, Store, Set, Hear, Turn}
use Rattle.btree_descent.specs.rows_trait.Views.{Knows}
use Rattle.btree_descent.specs.swips.declared.hint.TheConstants.{MARK}
use Rattle.btree_descent.specs.Known.{Sound}
use Rattle.btree_descent.proofs.Nodes.{shown_frame, stands, fits}
use Rattle.row_image.specs.Hot.{IsHotIn, StandsIn, IsBare}
use Rattle.row_image.specs.Sights.{EverySight}
use Rattle.row_image.proofs.Pages.{length_words}

-- the word of the mark and the words of the page that a row shows
module _ (v : Given) (m : Moment) (row hint : ℕ) (lt : row < (opening v).frames) (shown : Shown v m row 126 hint) where
  -- under the mark no hot page stands
  pub bare_in : hint ≡ MARK → IsBare v m row
  bare_in is p h = ((shown_frame v m row 126 hint lt shown).page p h.below (hot_place (m.core.place p) row h.hot)).hint refl (ap is_cooling h.hot) is

  module _ (words : List ℕ) (long : length words ≡ 126) (all : (i : ℕ) → i < 126 → Shown v m row i (slice_index words i)) (sound : Sound v m) where
    -- the words of a page that stands in it
    pub words_in : (p : ℕ) → p < (opening v).format.pages → in_frame (m.core.place p) row ≡ true → Spells words (framed_page m.core p (slice_index words 2))
    words_in p below there =
        let page = framed_page m.core p (slice_index words 2) in
        let f0 = fits v m p sound below in
        let f : Fits page = record { room = f0.room; level = f0.level; last_log = f0.last_log; ordered = f0.ordered } in
        record { spelled = ext_get_or 0 words (words_of page) (long ∙ sym (length_words page f.room)) (λ i l. at i (omega arith) (i == 2) refl); fits = f }
      where
        at : (i : ℕ) → i < 126 → (b : Bool) → (i == 2) ≡ b → slice_index words i ≡ slice_index (words_of (framed_page m.core p (slice_index words 2))) i
        at i l true e = let is : i ≡ 2 = grind (arith, nat_tests) in subst (λ z. slice_index words z ≡ slice_index (words_of (framed_page m.core p (slice_index words 2))) z) (sym is) refl
        at i l false e =
            let ne : i ≢ 2 = grind (arith, nat_tests) in
            let k = ((shown_frame v m row i (slice_index words i) lt (all i l)).page p below there).page l in
            k.1 ∙ one_word m.core p k.0 (slice_index words 2) i ne

    -- a page stands there hot, and the words spell it
    pub record Here : Type 0 where
      pub page : ℕ
      pub hot : IsHotIn v m row page
      pub spells : Spells words (framed_page m.core page (slice_index words 2))

    pub page_here : hint ≢ MARK → Here
    page_here ne =
        let it = stands (opening v) m.core row hint (shown_frame v m row 126 hint lt shown) ne in record {
          page = it.0;
          hot = record { below = it.1; hot = in_hot (m.core.place it.0) it.2 it.3 };
          spells = words_in it.0 it.1 it.2;
        }
      where
        in_hot : (x : Place) → in_frame x row ≡ true → is_hot x ≡ true → x ≡ Place.Hot row
        in_hot (Place.Hot f) i h = ap Place.Hot (let e : (f == row) ≡ true = i in grind (arith, nat_tests))
        in_hot (Place.Cooling f e w) i h = absurd (true≢false (sym h))
        in_hot Place.Cold i h = absurd (true≢false (sym h))

    -- so a page of these words is that one
    pub stands_in : hint ≢ MARK → (n : stored.Page) → Spells words n → StandsIn v m row n
    stands_in ne n s =
        let h = page_here ne in
        let e : framed_page m.core h.page (slice_index words 2) ≡ n = sym (one-page words (framed_page m.core h.page (slice_index words 2)) h.spells) ∙ one-page words n s in record {
          stands = subst (λ (q : stored.Page). IsHotIn v m row q.number) e h.hot;
          page = subst (λ (q : stored.Page). q ≡ framed_page m.core q.number q.generation) e refl;
        }

-- ## Sights

-- whatever the seat does
knows_more : (row version i x : ℕ) (more acts : List Act) → Knows row version i x acts → Knows row version i x (more ++ acts)
knows_more row version i x [] acts k = k
knows_more row version i x (Look q n at ∷ more) acts k = knows_more row version i x more acts k
knows_more row version i x (Load q j n ∷ more) acts k = inr (knows_more row version i x more acts k)
knows_more row version i x (Store q j n ∷ more) acts k = knows_more row version i x more acts k
knows_more row version i x (Set q n ∷ more) acts k = knows_more row version i x more acts k
knows_more row version i x (Hear d j n ∷ more) acts k = knows_more row version i x more acts k
knows_more row version i x (Turn d j n ∷ more) acts k = knows_more row version i x more acts k

pub every_sight : EverySight
every_sight s = record {
  known = λ more acts k. record {
    free = k.free;
    fits = k.fits;
    words = λ i lt. knows_more s.glimpse.row s.glimpse.version i (slice_index (words_of s.node) i) more acts (k.words i lt);
    hint = k.hint;
    unmarked = k.unmarked;
    shows = knows_more s.glimpse.row s.glimpse.version 126 k.hint more acts k.shows;
  };
  stands = λ v m row was lt sound h shown.
      stands_in v m row (slice_index was 126) lt (shown 126 (omega arith)) (words_of s.node) (length_words s.node h.fits.room) (λ i l. subst (Shown v m row i) (h.words i l) (shown i (omega arith))) sound h.unmarked s.node (record { spelled = refl; fits = h.fits });
}
