-- Each step of a seat over a row keeps the rule, and makes of the view of the seat what it says.
use Rattle.std.proofs.Common.{◌≡◌, ◌≢◌, ℕ, ◌+◌, ◌*◌, ◌%◌, ◌<◌, ◌≤◌, Bool, true, false, true≢false, cond, ◌||◌, ◌⊎◌, inl, inr, List, [], ◌∷◌, ◌++◌, length, set, refl, sym, ap, subst, ◌∙◌, arith, ◌==◌, Some}
use Rattle.std.specs.Prelude.{slice_index}
use Rattle.std.proofs.lemmas.Bool.Decides.{nat_tests}
use Rattle.std.proofs.lemmas.List.{get_or-set_other, get_or-set_same}
use Rattle.std.proofs.Math.ListN.{length-set}
use mathlib.Core.Option.{some}
use lib.ListN.{get_elem?}
use Rattle.atomic_table.specs.Seated.{TableId}
use Rattle.row_words.specs.declared.event.Event.{Event}
use Rattle.row_words.specs.declared.event.Event.TheVariants.{Miss}
use Rattle.row_words.specs.declared.given.Given.{Given}
use Rattle.row_words.specs.Moments.{Moment, actor_of}
use Rattle.row_words.specs.Sealed.{begun, stepped, Shown, changes, heard}
use Rattle.row_words.proofs.SealedLemmas.{run_append, calm_tame, shown_stays, heard_stays, miss_changes, miss_sets}
use Rattle.rows_trait.specs.Layout.{rows_of, width, row_at, cell, count_of, control_at}
use Rattle.rows_trait.specs.Inside.{row_cells, after, look_at, NoneBy}
use Rattle.rows_trait.specs.declared.view.Act.{Act}
use Rattle.rows_trait.specs.declared.view.Act.TheVariants.{Look, Load, Store, Set}
use Rattle.rows_trait.specs.declared.view.Hold.{Hold}
use Rattle.rows_trait.specs.declared.view.View.{View}
use Rattle.rows_trait.specs.Views.{Shape, IsEven, after_all, state, Spells, AreStill, latest, hold, holds, held_at, without, write, settle, AreApart, AreAside, AreSilent, AreTame, may, AreBelow, Ends}
use Rattle.rows_trait.specs.Turns.{Looked, Loaded, Taken, Refused, Stored, Leaves, MayPublish, Published, Released}
use Rattle.rows_trait.specs.Rule.{Plan, moment, IsHeld, Keeps, IsAlone}
use Rattle.rows_trait.proofs.Cells.{bool_cases, inside, set_here, set_row_apart, set_word_apart, set_control_apart, cells_length, row_cells_at}
use Rattle.rows_trait.proofs.Holds.{holds_write, write_apart, write_here, holds_without_here, holds_without, without_apart, settled, holds_settle, settle_at}
use Rattle.rows_trait.proofs.EventLemmas.{silent_sync, silent_aside, silent_calm, calm_are}
use Rattle.rows_trait.proofs.Memory.{Moves, moves_not, remembers_on, remembers_look, remembers_load, remembers_store, remembers_set}
use Rattle.rows_trait.proofs.Keeping.{Step, odd_of, advances}
use Rattle.rows_trait.proofs.Stepping.{row_cases, Stepping, fit, at_length, seen_all, to_view, quiet, goes, longer, few_still, counted_still, version_low, low_still, low_looked, silent_is, silent_word, tame_now, may_other, others_silent, acts_silent, acts_one, still_old, still_looked, silent_rows, still_view, fits_after, solo_after, steady_look, held_still, stays, odd_free, spelled, steady_still}

module _ (alone : Bool) (spot : TableId) (k : Plan) (happened : List Event) (words : List ℕ) (views : List View) (id : ℕ) (v : View)
    (keeps : Keeps k happened words views) (mine : get_elem? views id ≡ some v) (alive : v.live ≡ true)
    (between : List Event) (whole : happened ≡ v.seen ++ between) (apart : AreApart v (state v) between)
    (solo : alone ≡ true → IsAlone k happened words views v) where
  abbrev shape : Shape
  shape = record { sizes = k.sizes; alone = alone; place = spot }

  -- what each step begins from
  abbrev on : Stepping alone k happened words views id v
  on = record { spot = spot; keeps = keeps; mine = mine; alive = alive; between = between; whole = whole; apart = apart; solo = solo }

  looked_is : (row n : ℕ) (names : ℕ → List Event) → row < rows_of k.sizes → n ≡ cell k.sizes words row 0 → AreAside (may alone v) v.given (names n)
      → Looked shape row names v n (after v between (names n) (look_at row n v between (names n) ∷ v.steps) v.held)
  looked_is row n names lt is s = record {
    goes = goes on (names n) (look_at row n v between (names n) ∷ []) v.held words (held_still on (names n) s) (λ y. silent_sync (may alone v) v.given (names n) s);
    steps = refl;
    held = refl;
    known = λ ev i x kn. to_view on (names n) row i x (silent_is on (names n) s row i x (spelled on row n i x lt is ev kn));
    still = λ ev at h. still_view on row at (names n) (still_old on (names n) words (moves_not k.sizes words) (silent_rows on (names n) s) row n at h (sym is));
    rising = λ t h. let a = (fit on).memory.rising row t h in omega arith;
    steady = λ a t e. is ∙ (solo a).steady row t lt e;
    free = λ a f. subst IsEven (sym is) (odd_free on row lt a f);
    own = λ h. is ∙ ((fit on).held row h).odd;
  }

  pub looks : (row n : ℕ) (names : ℕ → List Event) → row < rows_of k.sizes → n ≡ cell k.sizes words row 0 → AreSilent (may alone v) v.given (names n)
      → (w : View) × (w ≡ after v between (names n) (look_at row n v between (names n) ∷ v.steps) v.held) × Keeps k (happened ++ names n) words (set views id w) × Looked shape row names v n w
      × (alone ≡ true → IsAlone k (happened ++ names n) words (set views id w) w)
  looks row n names lt is quiet_names =
      let s = silent_aside (may alone v) v.given (names n) quiet_names in
      let w = after v between (names n) (look_at row n v between (names n) ∷ v.steps) v.held in (
        w,
        refl,
        advances k happened words views id v (names n) words w keeps mine alive (stays on (names n) (look_at row n v between (names n) ∷ v.steps) (calm_are k.given (moment k happened) (names n) (silent_calm (may alone v) v.given (names n) quiet_names)) s (remembers_look k.sizes words v.steps row n ((v.seen ++ between) ++ names n) is (fit on).memory) (still_looked on row n (names n) words (moves_not k.sizes words) (silent_rows on (names n) s)) (low_looked on row n (names n) lt is)) (at_length on),
        looked_is row n names lt is s,
        λ a. solo_after on (names n) words (look_at row n v between (names n) ∷ v.steps) v.held a (steady_look on row n ((v.seen ++ between) ++ names n) is a),
      )

  -- a word of a row is loaded
  pub loads : (row i n : ℕ) → row < rows_of k.sizes → i < width k.sizes row → n ≡ cell k.sizes words row (i + 1)
      → (w : View) × (w ≡ after v between [] (Load row i n ∷ v.steps) v.held) × Keeps k (happened ++ []) words (set views id w) × Loaded shape row i v n w
      × (alone ≡ true → IsAlone k (happened ++ []) words (set views id w) w)
  loads row i n lt l is =
      let w = after v between [] (Load row i n ∷ v.steps) v.held in (
        w,
        refl,
        advances k happened words views id v [] words w keeps mine alive (stays on [] (Load row i n ∷ v.steps) tt tt (remembers_load k.sizes words v.steps row i n lt l is (fit on).memory) (still_old on [] words (moves_not k.sizes words) (silent_rows on [] tt)) (low_still on [])) (at_length on),
        record {
          goes = goes on [] (Load row i n ∷ []) v.held words (held_still on [] tt) (λ y. tt);
          steps = refl;
          held = refl;
          own = λ h. is ∙ ((fit on).held row h).now i l;
        },
        λ a. solo_after on [] words (Load row i n ∷ v.steps) v.held a (steady_still on words (λ q t. refl) a),
      )

  -- a word of a held row is stored
  module _ (row i x : ℕ) (lt : row < rows_of k.sizes) (l : i < width k.sizes row) (mine_row : holds v.held row ≡ true) where
    abbrev stored : List ℕ
    stored = set words (row_at k.sizes row (i + 1)) x

    in_words : row_at k.sizes row (i + 1) < length words
    in_words = let a = inside k.sizes row (i + 1) lt (omega arith) in let b = keeps.size in omega arith

    row_odd : IsEven (cell k.sizes words row 0 + 1)
    row_odd = odd_of k happened words row (held_at v.held row) ((fit on).held row mine_row)

    latch_still : (q : ℕ) → cell k.sizes stored q 0 ≡ cell k.sizes words q 0
    latch_still q = row_cases q row
        (λ same. let P : ℕ → Type 0 = λ z. cell k.sizes stored z 0 ≡ cell k.sizes words z 0 in subst P (sym same) (set_word_apart k.sizes words row (i + 1) 0 x (omega arith)))
        (λ ne. set_row_apart k.sizes words row q (i + 1) 0 x (omega arith) (omega arith) ne)

    row_still : (q j : ℕ) → j < width k.sizes q + 1 → q ≢ row → cell k.sizes stored q j ≡ cell k.sizes words q j
    row_still q j t ne = set_row_apart k.sizes words row q (i + 1) j x t (omega arith) ne

    not_even : (q : ℕ) → IsEven (cell k.sizes words q 0) → q ≢ row
    not_even q ev same = let P : ℕ → Type 0 = λ z. IsEven (cell k.sizes words z 0) in let o = row_odd in let w : IsEven (cell k.sizes words row 0) = subst P same ev in omega arith

    stored_moves : Moves k.sizes words stored
    stored_moves = record {
      rises = λ q. let e = latch_still q in omega arith;
      stays = λ q r e ev j t. row_still q (j + 1) (omega arith) (not_even q ev);
    }

    abbrev wrote : List Hold
    wrote = write v.held row i x

    stored_here : IsHeld k (happened ++ []) stored row (held_at wrote row)
    stored_here = let g = (fit on).held row mine_row in subst (IsHeld k (happened ++ []) stored row) (sym (write_here v.held row i x mine_row)) record {
      inside = g.inside;
      even = g.even;
      room = g.room;
      odd = latch_still row ∙ g.odd;
      size = length-set (held_at v.held row).now i x ∙ g.size;
      now = λ j t. row_cases j i
          (λ e. ap (λ z. cell k.sizes stored row (z + 1)) e ∙ (set_here k.sizes words row (i + 1) x in_words ∙ (sym (get_or-set_same (held_at v.held row).now i x 0 (let s = g.size in omega arith)) ∙ ap (λ z. slice_index (set (held_at v.held row).now i x) z) (sym e))))
          (λ ne. set_word_apart k.sizes words row (i + 1) (j + 1) x (λ e. ne (omega arith)) ∙ (g.now j t ∙ sym (get_or-set_other (held_at v.held row).now i j x 0 ne)));
      was = λ j t. silent_is on [] tt row j (slice_index (held_at v.held row).was j) (g.was j t);
      counted = counted_still on [] row mine_row;
    }

    stored_there : (q : ℕ) → q ≢ row → holds v.held q ≡ true → IsHeld k (happened ++ []) stored q (held_at wrote q)
    stored_there q ne h = let g = (fit on).held q h in subst (IsHeld k (happened ++ []) stored q) (sym (write_apart v.held row i x q ne)) record {
      inside = g.inside;
      even = g.even;
      room = g.room;
      odd = latch_still q ∙ g.odd;
      size = g.size;
      now = λ j t. row_still q (j + 1) (omega arith) ne ∙ g.now j t;
      was = λ j t. silent_is on [] tt q j (slice_index (held_at v.held q).was j) (g.was j t);
      counted = counted_still on [] q h;
    }

    stored_held : (q : ℕ) → holds wrote q ≡ true → IsHeld k (happened ++ []) stored q (held_at wrote q)
    stored_held q h =
        let y : holds v.held q ≡ true = sym (holds_write v.held row i x q) ∙ h in
        row_cases q row
        (λ same. let P : ℕ → Type 0 = λ z. IsHeld k (happened ++ []) stored z (held_at wrote z) in subst P (sym same) stored_here)
        (λ ne. stored_there q ne y)

    pub stores : (w : View) × (w ≡ after v between [] (Store row i x ∷ v.steps) (write v.held row i x)) × Keeps k (happened ++ []) (set words (row_at k.sizes row (i + 1)) x) (set views id w) × Stored shape row i x v w
        × (alone ≡ true → IsAlone k (happened ++ []) (set words (row_at k.sizes row (i + 1)) x) (set views id w) w)
    stores =
        let w = after v between [] (Store row i x ∷ v.steps) wrote in (
          w,
          refl,
          advances k happened words views id v [] stored w keeps mine alive record {
            moves = stored_moves;
            size = length-set words (row_at k.sizes row (i + 1)) x;
            others = others_silent on [] tt;
            still = silent_rows on [] tt;
            acts = acts_silent on [] tt;
            steady = λ q t f o j u. row_still q j u (λ same. true≢false (sym mine_row ∙ (ap (holds v.held) (sym same) ∙ f)));
            free = λ q t ev j u. let ev' : IsEven (cell k.sizes words q 0) = subst IsEven (latch_still q) ev in
                silent_is on [] tt q j (cell k.sizes stored q (j + 1)) (subst (λ y. Shown k.given (moment k happened) q j y) (sym (row_still q (j + 1) (omega arith) (not_even q ev'))) (keeps.free q t ev' j u));
            few = few_still on [] stored (λ q t. latch_still q);
            controls = λ c j h u. set_control_apart k.sizes words row (i + 1) c j x h u ∙ (keeps.controls c j h u ∙ sym (silent_word on [] tt c j));
            tame = tt;
            live = alive;
            actor = refl;
            made = refl;
            done = refl;
            all = seen_all on [];
            fits = fits_after on [] stored (Store row i x ∷ v.steps) wrote (remembers_store k.sizes stored v.steps row i x (remembers_on k.sizes words stored v.steps stored_moves (fit on).memory)) (still_old on [] stored stored_moves (silent_rows on [] tt)) stored_held (low_still on []);
            owner = λ q h. inl (sym (holds_write v.held row i x q) ∙ h);
            latched = λ q t o. bool_cases (holds v.held q) (λ y. inl (holds_write v.held row i x q ∙ y)) (λ n. inr (let e = latch_still q in omega arith, n));
          } (at_length on),
          record { goes = goes on [] (Store row i x ∷ []) wrote stored stored_held (λ y. tt); steps = refl; held = refl },
          λ a. solo_after on [] stored (Store row i x ∷ v.steps) wrote a (steady_still on stored (λ q t. latch_still q) a),
        )

  -- the latch of a row is stored
  module _ (row m : ℕ) (lt : row < rows_of k.sizes) where
    abbrev relatched : List ℕ
    relatched = set words (row_at k.sizes row 0) m

    latch_in : row_at k.sizes row 0 < length words
    latch_in = let a = inside k.sizes row 0 lt (omega arith) in let b = keeps.size in omega arith

    latch_here : cell k.sizes relatched row 0 ≡ m
    latch_here = set_here k.sizes words row 0 m latch_in

    others_latch : (q j : ℕ) → j < width k.sizes q + 1 → q ≢ row → cell k.sizes relatched q j ≡ cell k.sizes words q j
    others_latch q j t ne = set_row_apart k.sizes words row q 0 j m t (omega arith) ne

    words_still : (q j : ℕ) → j < width k.sizes q → cell k.sizes relatched q (j + 1) ≡ cell k.sizes words q (j + 1)
    words_still q j t = row_cases q row
        (λ same. let P : ℕ → Type 0 = λ z. cell k.sizes relatched z (j + 1) ≡ cell k.sizes words z (j + 1) in subst P (sym same) (set_word_apart k.sizes words row 0 (j + 1) m (omega arith)))
        (λ ne. set_row_apart k.sizes words row q 0 (j + 1) m (omega arith) (omega arith) ne)

    relatch_controls : (c j : ℕ) → c ≤ k.sizes.workers → j < count_of c → slice_index relatched (control_at c j) ≡ slice_index words (control_at c j)
    relatch_controls c j h u = set_control_apart k.sizes words row 0 c j m h u

    relatch_moves : cell k.sizes words row 0 < m → Moves k.sizes words relatched
    relatch_moves up = record {
      rises = λ q. row_cases q row
          (λ same. let P : ℕ → Type 0 = λ z. cell k.sizes words z 0 ≤ cell k.sizes relatched z 0 in subst P (sym same) (let e = latch_here in omega arith))
          (λ ne. let e = others_latch q 0 (omega arith) ne in omega arith);
      stays = λ q r e ev j t. words_still q j t;
    }

    relatch_few : (es : List Event) → m ≤ 2 * length (happened ++ es) + 1 → (q : ℕ) → q < rows_of k.sizes → cell k.sizes relatched q 0 ≤ 2 * length (happened ++ es) + 1
    relatch_few es low q t = row_cases q row
        (λ same. let P : ℕ → Type 0 = λ z. cell k.sizes relatched z 0 ≤ 2 * length (happened ++ es) + 1 in subst P (sym same) (let e = latch_here in omega arith))
        (λ ne. let e = others_latch q 0 (omega arith) ne in let f = keeps.few q t in let l = longer on es in omega arith)

    relatch_size : length relatched ≡ length words
    relatch_size = length-set words (row_at k.sizes row 0) m

    steady_set : (steps : List Act) → alone ≡ true → ((q : ℕ) → latest q steps ≡ latest q v.steps) → (q s : ℕ) → q < rows_of k.sizes → latest q (Set row m ∷ steps) ≡ Some s → cell k.sizes relatched q 0 ≡ s
    steady_set steps a old q s t = at (row == q) refl
      where
        at : (b : Bool) → (row == q) ≡ b → cond b (Some m) (latest q steps) ≡ Some s → cell k.sizes relatched q 0 ≡ s
        at true r e = let same : row ≡ q = grind (arith, nat_tests) in let n : m ≡ s = (cc) in ap (λ z. cell k.sizes relatched z 0) (sym same) ∙ (latch_here ∙ n)
        at false r e = others_latch q 0 (omega arith) (λ same. let d : row ≢ q = grind (arith, nat_tests) in d (sym same)) ∙ (solo a).steady q s t (sym (old q) ∙ e)

    steady_taken : (n : ℕ) (seen : List Event) → alone ≡ true → (q s : ℕ) → q < rows_of k.sizes → latest q (Set row m ∷ Look row n seen ∷ v.steps) ≡ Some s → cell k.sizes relatched q 0 ≡ s
    steady_taken n seen a q s t = at (row == q) refl
      where
        at : (b : Bool) → (row == q) ≡ b → cond b (Some m) (cond b (Some n) (latest q v.steps)) ≡ Some s → cell k.sizes relatched q 0 ≡ s
        at true r e = let same : row ≡ q = grind (arith, nat_tests) in let n : m ≡ s = (cc) in ap (λ z. cell k.sizes relatched z 0) (sym same) ∙ (latch_here ∙ n)
        at false r e = others_latch q 0 (omega arith) (λ same. let d : row ≢ q = grind (arith, nat_tests) in d (sym same)) ∙ (solo a).steady q s t e

  -- a row is latched
  module _ (row version : ℕ) (names : ℕ → List Event) (lt : row < rows_of k.sizes) (ev : IsEven version) (fits_word : version + 2 < 18446744073709551616) (is : cell k.sizes words row 0 ≡ version) (quiet_names : AreSilent (may alone v) v.given (names version)) where
    silent : AreAside (may alone v) v.given (names version)
    silent = silent_aside (may alone v) v.given (names version) quiet_names

    abbrev found : List ℕ
    found = row_cells k.sizes words row

    abbrev taken_held : List Hold
    taken_held = hold row version found found false ∷ v.held

    abbrev taken_words : List ℕ
    taken_words = set words (row_at k.sizes row 0) (version + 1)

    abbrev taken_view : View
    taken_view = after v between (names version) (Set row (version + 1) ∷ look_at row version v between (names version) ∷ v.steps) taken_held

    row_free : IsEven (cell k.sizes words row 0)
    row_free = subst IsEven (sym is) ev

    not_held : holds v.held row ≡ false
    not_held = bool_cases (holds v.held row) (λ y. let o = odd_of k happened words row (held_at v.held row) ((fit on).held row y) in let f = row_free in absurd (omega arith)) (λ n. n)

    -- the version is even, so it is not one above
    taken_low : version + 1 ≤ 2 * length (happened ++ names version) + 1
    taken_low = let f = keeps.few row lt in let e = is in let v' = ev in let l = longer on (names version) in omega arith

    taken_here : IsHeld k (happened ++ names version) taken_words row (hold row version found found false)
    taken_here = record {
      inside = lt;
      even = ev;
      room = fits_word;
      odd = latch_here row (version + 1) lt;
      size = cells_length words (row_at k.sizes row 1) (width k.sizes row);
      now = λ j t. words_still row (version + 1) lt row j t ∙ sym (row_cells_at k.sizes words row j t);
      was = λ j t. silent_is on (names version) silent row j (slice_index found j) (subst (λ y. Shown k.given (moment k happened) row j y) (sym (row_cells_at k.sizes words row j t)) (keeps.free row lt row_free j t));
      counted = λ y. absurd (true≢false (sym y));
    }

    taken_there : (q : ℕ) → q ≢ row → holds v.held q ≡ true → IsHeld k (happened ++ names version) taken_words q (held_at v.held q)
    taken_there q ne h = let g = (fit on).held q h in record {
      inside = g.inside;
      even = g.even;
      room = g.room;
      odd = others_latch row (version + 1) lt q 0 (omega arith) ne ∙ g.odd;
      size = g.size;
      now = λ j t. words_still row (version + 1) lt q j t ∙ g.now j t;
      was = λ j t. silent_is on (names version) silent q j (slice_index (held_at v.held q).was j) (g.was j t);
      counted = counted_still on (names version) q h;
    }

    taken_fits : (q : ℕ) → holds taken_held q ≡ true → IsHeld k (happened ++ names version) taken_words q (held_at taken_held q)
    taken_fits q = at (row == q) refl
      where
        at : (b : Bool) → (row == q) ≡ b → cond b true (holds v.held q) ≡ true → IsHeld k (happened ++ names version) taken_words q (cond b (hold row version found found false) (held_at v.held q))
        at true r e = let same : row ≡ q = grind (arith, nat_tests) in subst (λ (z : ℕ). IsHeld k (happened ++ names version) taken_words z (hold row version found found false)) same taken_here
        at false r e = taken_there q (λ same. let d : row ≢ q = grind (arith, nat_tests) in d (sym same)) e

    taken_owner : (q : ℕ) → holds taken_held q ≡ true → (holds v.held q ≡ true) ⊎ IsEven (cell k.sizes words q 0)
    taken_owner q = at (row == q) refl
      where
        at : (b : Bool) → (row == q) ≡ b → cond b true (holds v.held q) ≡ true → (holds v.held q ≡ true) ⊎ IsEven (cell k.sizes words q 0)
        at true r e = let same : row ≡ q = grind (arith, nat_tests) in let P : ℕ → Type 0 = λ z. IsEven (cell k.sizes words z 0) in inr (subst P same row_free)
        at false r e = inl e

    holds_head : holds taken_held row ≡ true
    holds_head = at (row == row) refl
      where
        at : (b : Bool) → (row == row) ≡ b → cond b true (holds v.held row) ≡ true
        at true r = refl
        at false r = absurd (grind (arith, nat_tests))

    holds_tail : (q : ℕ) → holds v.held q ≡ true → holds taken_held q ≡ true
    holds_tail q h = at (row == q)
      where
        at : (b : Bool) → cond b true (holds v.held q) ≡ true
        at true = refl
        at false = h

    pub takes : (w : View) × (w ≡ taken_view) × Keeps k (happened ++ names version) (set words (row_at k.sizes row 0) (version + 1)) (set views id w) × Taken shape row version names v w
        × (alone ≡ true → IsAlone k (happened ++ names version) (set words (row_at k.sizes row 0) (version + 1)) (set views id w) w)
    takes = (
      taken_view,
      refl,
      advances k happened words views id v (names version) taken_words taken_view keeps mine alive record {
        moves = relatch_moves row (version + 1) lt (let e = is in omega arith);
        size = relatch_size row (version + 1) lt;
        others = others_silent on (names version) silent;
        still = silent_rows on (names version) silent;
        acts = acts_silent on (names version) silent;
        steady = λ q t f o j u. others_latch row (version + 1) lt q j u (λ same. let P : ℕ → Type 0 = λ z. IsEven (cell k.sizes words z 0 + 1) in let o' : IsEven (cell k.sizes words row 0 + 1) = subst P same o in let f' = row_free in omega arith);
        free = λ q t ev' j u. row_cases q row
            (λ same. let P : ℕ → Type 0 = λ z. IsEven (cell k.sizes taken_words z 0) in let e : IsEven (cell k.sizes taken_words row 0) = subst P same ev' in let l = latch_here row (version + 1) lt in let v' = ev in absurd (omega arith))
            (λ ne. silent_is on (names version) silent q j (cell k.sizes taken_words q (j + 1)) (subst (λ y. Shown k.given (moment k happened) q j y) (sym (words_still row (version + 1) lt q j u)) (keeps.free q t (subst IsEven (others_latch row (version + 1) lt q 0 (omega arith) ne) ev') j u)));
        few = relatch_few row (version + 1) lt (names version) taken_low;
        controls = λ c j h u. relatch_controls row (version + 1) lt c j h u ∙ (keeps.controls c j h u ∙ sym (silent_word on (names version) silent c j));
        tame = calm_are k.given (moment k happened) (names version) (silent_calm (may alone v) v.given (names version) quiet_names);
        live = alive;
        actor = refl;
        made = refl;
        done = refl;
        all = seen_all on (names version);
        fits = fits_after on (names version) taken_words (Set row (version + 1) ∷ look_at row version v between (names version) ∷ v.steps) taken_held
            (remembers_set k.sizes taken_words (look_at row version v between (names version) ∷ v.steps) row (version + 1)
            (remembers_on k.sizes words taken_words (look_at row version v between (names version) ∷ v.steps) (relatch_moves row (version + 1) lt (let e = is in omega arith)) (remembers_look k.sizes words v.steps row version ((v.seen ++ between) ++ names version) (sym is) (fit on).memory)))
            (still_looked on row version (names version) taken_words (relatch_moves row (version + 1) lt (let e = is in omega arith)) (silent_rows on (names version) silent))
            taken_fits
            (low_looked on row version (names version) lt (sym is));
        owner = taken_owner;
        latched = λ q t o. row_cases q row
            (λ same. inl (ap (holds taken_held) same ∙ holds_head))
            (λ ne. bool_cases (holds v.held q) (λ y. inl (holds_tail q y)) (λ n. inr (let e = others_latch row (version + 1) lt q 0 (omega arith) ne in omega arith, n)));
      } (at_length on),
      record {
        goes = goes on (names version) (Set row (version + 1) ∷ look_at row version v between (names version) ∷ []) taken_held taken_words taken_fits (λ y. silent_sync (may alone v) v.given (names version) silent);
        steps = refl;
        was = found;
        held = refl;
        known = λ i x kn. row_cells_at k.sizes words row i ((fit on).memory.within row version i x kn).1 ∙ (fit on).memory.known row version i x kn is;
        still = λ at h. still_view on row at (names version) (still_old on (names version) words (moves_not k.sizes words) (silent_rows on (names version) silent) row version at h is);
        rising = λ t h. let a = (fit on).memory.rising row t h in let e = is in omega arith;
        fresh = not_held;
        size = cells_length words (row_at k.sizes row 1) (width k.sizes row);
      },
      λ a. solo_after on (names version) taken_words (Set row (version + 1) ∷ look_at row version v between (names version) ∷ v.steps) taken_held a (steady_taken row (version + 1) lt version ((v.seen ++ between) ++ names version) a),
    )

  -- a row is not latched
  pub refuses : (row version n : ℕ) (names : ℕ → List Event) → row < rows_of k.sizes → n ≡ cell k.sizes words row 0 → n ≢ version → AreSilent (may alone v) v.given (names n)
      → (w : View) × (w ≡ after v between (names n) (look_at row n v between (names n) ∷ v.steps) v.held) × Keeps k (happened ++ names n) words (set views id w) × Refused shape row version names v n w
      × (alone ≡ true → IsAlone k (happened ++ names n) words (set views id w) w)
  refuses row version n names lt is ne s = let l = looks row n names lt is s in (l.0, l.1, l.2, record { looked = l.3; other = ne }, l.4)

  -- the latch of a held row is given up
  module _ (row : ℕ) (lt : row < rows_of k.sizes) (mine_row : holds v.held row ≡ true) (es : List Event) (kept : List Hold)
      (others : (j : ℕ) (u : View) → get_elem? views j ≡ some u → u.live ≡ true → j ≢ id → AreApart u (moment k happened) es)
      (acts : (j : ℕ) (u : View) → get_elem? views j ≡ some u → u.live ≡ true → (0 < u.made → AreBelow u.made es) × ((a : ℕ) (own : List Event) → Ends a own u.ended → NoneBy a es))
      (still_rows : (row : ℕ) → IsEven (cell k.sizes words row 0) → AreStill k.given row (moment k happened) es)
      (kept_of : (q : ℕ) → holds kept q ≡ true → (q ≢ row) × (holds v.held q ≡ true))
      (kept_all : (q : ℕ) → q ≢ row → holds v.held q ≡ true → holds kept q ≡ true)
      (spells : Spells k.given (moment k (happened ++ es)) (width k.sizes row) row (held_at v.held row).now)
      (untouched : (q : ℕ) → holds v.held q ≡ false → (i x : ℕ) → Shown k.given (moment k happened) q i x → Shown k.given (moment k (happened ++ es)) q i x)
      (word_kept : (c i : ℕ) → heard (moment k (happened ++ es)) c i ≡ heard (moment k happened) c i)
      (kept_hold : (q : ℕ) → holds kept q ≡ true → ((held_at kept q).version ≡ (held_at v.held q).version) × ((held_at kept q).now ≡ (held_at v.held q).now) × Spells k.given (moment k (happened ++ es)) (width k.sizes q) q (held_at kept q).was × ((held_at kept q).done ≡ true → (held_at kept q).version + 2 ≤ 2 * length (happened ++ es)))
      (counts : (held_at v.held row).version + 2 ≤ 2 * length (happened ++ es))
      (tame_es : AreTame k.given (moment k happened) es) where
    abbrev up : ℕ
    up = (held_at v.held row).version + 2

    abbrev given_words : List ℕ
    given_words = set words (row_at k.sizes row 0) up

    given_hold : IsHeld k happened words row (held_at v.held row)
    given_hold = (fit on).held row mine_row

    given_moves : Moves k.sizes words given_words
    given_moves = relatch_moves row up lt (let o = given_hold.odd in omega arith)

    given_fits : (q : ℕ) → holds kept q ≡ true → IsHeld k (happened ++ es) given_words q (held_at kept q)
    given_fits q h = let p = kept_of q h in let g = (fit on).held q p.1 in let d = kept_hold q h in record {
      inside = g.inside;
      even = ap (λ z. z % 2) d.0 ∙ g.even;
      room = (let e = d.0 in let r = g.room in omega arith);
      odd = others_latch row up lt q 0 (omega arith) p.0 ∙ (g.odd ∙ ap (λ z. z + 1) (sym d.0));
      size = ap length d.1 ∙ g.size;
      now = λ j t. words_still row up lt q j t ∙ (g.now j t ∙ ap (λ z. slice_index z j) (sym d.1));
      was = d.2;
      counted = d.3;
    }

    given_even : IsEven (cell k.sizes given_words row 0)
    given_even = let l = latch_here row up lt in let e = given_hold.even in omega arith

    not_held_even : (q : ℕ) → IsEven (cell k.sizes words q 0) → holds v.held q ≡ false
    not_held_even q ev = bool_cases (holds v.held q) (λ y. let o = odd_of k happened words q (held_at v.held q) ((fit on).held q y) in absurd (omega arith)) (λ n. n)

    given_free : (q : ℕ) → q < rows_of k.sizes → IsEven (cell k.sizes given_words q 0) → (j : ℕ) → j < width k.sizes q → Shown k.given (moment k (happened ++ es)) q j (cell k.sizes given_words q (j + 1))
    given_free q t ev j u = row_cases q row
        (λ same. let P : ℕ → Type 0 = λ z. j < width k.sizes z → Shown k.given (moment k (happened ++ es)) z j (cell k.sizes given_words z (j + 1)) in
        subst P (sym same) (λ u'. subst (λ y. Shown k.given (moment k (happened ++ es)) row j y) (sym (words_still row up lt row j u' ∙ given_hold.now j u')) (spells j u')) u)
        (λ ne.
        let ev' : IsEven (cell k.sizes words q 0) = subst IsEven (others_latch row up lt q 0 (omega arith) ne) ev in
        untouched q (not_held_even q ev') j (cell k.sizes given_words q (j + 1)) (subst (λ y. Shown k.given (moment k happened) q j y) (sym (words_still row up lt q j u)) (keeps.free q t ev' j u)))

    given_step : Step k happened words views id v es given_words (after v between es (Set row up ∷ v.steps) kept)
    given_step = record {
      moves = given_moves;
      size = relatch_size row up lt;
      others = others;
      still = still_rows;
      acts = acts;
      steady = λ q t f o j u. others_latch row up lt q j u (λ same. true≢false (sym mine_row ∙ (ap (holds v.held) (sym same) ∙ f)));
      free = given_free;
      few = relatch_few row up lt es (let c = counts in omega arith);
      controls = λ c j h u. relatch_controls row up lt c j h u ∙ (keeps.controls c j h u ∙ sym (word_kept c j));
      tame = tame_es;
      live = alive;
      actor = refl;
      made = refl;
      done = refl;
      all = seen_all on es;
      fits = fits_after on es given_words (Set row up ∷ v.steps) kept (remembers_set k.sizes given_words v.steps row up (remembers_on k.sizes words given_words v.steps given_moves (fit on).memory)) (still_old on es given_words given_moves still_rows) given_fits (low_still on es);
      owner = λ q h. inl (kept_of q h).1;
      latched = λ q t o. row_cases q row
          (λ same. let P : ℕ → Type 0 = λ z. IsEven (cell k.sizes given_words z 0 + 1) in let o' : IsEven (cell k.sizes given_words row 0 + 1) = subst P same o in let e = given_even in absurd (omega arith))
          (λ ne. bool_cases (holds v.held q) (λ y. inl (kept_all q ne y)) (λ n. inr (let e = others_latch row up lt q 0 (omega arith) ne in omega arith, n)));
    }

    given : Keeps k (happened ++ es) given_words (set views id (after v between es (Set row up ∷ v.steps) kept))
    given = advances k happened words views id v es given_words (after v between es (Set row up ∷ v.steps) kept) keeps mine alive given_step (at_length on)

    given_alone : alone ≡ true → IsAlone k (happened ++ es) given_words (set views id (after v between es (Set row up ∷ v.steps) kept)) (after v between es (Set row up ∷ v.steps) kept)
    given_alone a = solo_after on es given_words (Set row up ∷ v.steps) kept a (steady_set row up lt v.steps a (λ q. refl))

  held_without : (row q : ℕ) → holds (without v.held row) q ≡ true → (q ≢ row) × (holds v.held q ≡ true)
  held_without row q h = row_cases q row
      (λ same. absurd (true≢false (sym h ∙ (ap (holds (without v.held row)) same ∙ holds_without_here v.held row))))
      (λ ne. (ne, sym (holds_without v.held row q ne) ∙ h))

  -- the event of a held row is published
  module _ (row : ℕ) (e : Event) (lt : row < rows_of k.sizes) (mine_row : holds v.held row ≡ true) (may_publish : MayPublish shape row e v) where
    -- the moment at which it is
    abbrev then : Moment
    then = after_all v.given (v.seen ++ between)

    abbrev settled_held : List Hold
    settled_held = settle v.given then (without v.held row) e

    leaves : Leaves shape row e v then
    leaves = may_publish.leaves between (quiet on) apart

    then_is : then ≡ moment k happened
    then_is = λ i. after_all ((fit on).given i) (sym whole i)

    next_is : stepped v.given then e ≡ moment k (happened ++ e ∷ [])
    next_is = (λ i. stepped ((fit on).given i) (then_is i) e) ∙ sym (run_append k.given (begun k.given) happened (e ∷ []))

    changes_is : (q : ℕ) → changes k.given (moment k happened) e q ≡ changes v.given then e q
    changes_is q = λ i. changes (sym (fit on).given i) (sym then_is i) e q

    published_shown : (q : ℕ) → changes v.given then e q ≡ true → Spells k.given (moment k (happened ++ e ∷ [])) (width k.sizes q) q (held_at v.held q).now
    published_shown q p = let s = (leaves.rows q p).1 in λ i l. subst (λ (p : Given × Moment). Shown p.0 p.1 q i (slice_index (held_at v.held q).now i)) (λ j. ((fit on).given j, next_is j)) (s i l)

    other_shown : (q : ℕ) → changes v.given then e q ≡ false → (i x : ℕ) → Shown k.given (moment k happened) q i x → Shown k.given (moment k (happened ++ e ∷ [])) q i x
    other_shown q p i x s = subst (λ m. Shown k.given m q i x) (sym (run_append k.given (begun k.given) happened (e ∷ []))) (shown_stays k.given (moment k happened) e q i x (changes_is q ∙ p) s)

    published_word : (c i : ℕ) → heard (moment k (happened ++ e ∷ [])) c i ≡ heard (moment k happened) c i
    published_word c i = ap (λ m. heard m c i) (run_append k.given (begun k.given) happened (e ∷ [])) ∙ heard_stays k.given (moment k happened) e c i (may_publish.words c i)

    publish_others : (j : ℕ) (u : View) → get_elem? views j ≡ some u → u.live ≡ true → j ≢ id → AreApart u (moment k happened) (e ∷ [])
    publish_others j u at l ne = (
      record {
        other = may_other on (actor_of e) may_publish.actor j u at l ne;
        part = may_publish.part;
        rows = λ q h. (λ i. changes ((keeps.fits j u at l).given i) (moment k happened) e q) ∙ (changes_is q
            ∙ bool_cases (changes v.given then e q) (λ p. absurd (ne (keeps.owners j id u v at mine l alive q h (leaves.rows q p).0))) (λ n. n));
      },
      tt,
    )

    -- a free row is none of the event's
    publish_still : (q : ℕ) → IsEven (cell k.sizes words q 0) → AreStill k.given q (moment k happened) (e ∷ [])
    publish_still q ev = (
      bool_cases (changes v.given then e q)
          (λ p. let h = (leaves.rows q p).0 in let o = odd_of k happened words q (held_at v.held q) ((fit on).held q h) in absurd (omega arith))
          (λ n. changes_is q ∙ n),
      tt,
    )

    settled_at : (q : ℕ) → holds settled_held q ≡ true → ((q ≢ row) × (holds v.held q ≡ true)) × (held_at settled_held q ≡ settled (changes v.given then e q) (held_at v.held q))
    settled_at q h =
        let w : holds (without v.held row) q ≡ true = sym (holds_settle v.given then (without v.held row) e q) ∙ h in
        let p = held_without row q w in
        (p, settle_at v.given then (without v.held row) e q w ∙ ap (settled (changes v.given then e q)) (without_apart v.held row q p.0))

    -- the version of a row that was held counts the event, too
    publish_counts : (q : ℕ) → holds v.held q ≡ true → (held_at v.held q).version + 2 ≤ 2 * length (happened ++ e ∷ [])
    publish_counts q h = let a = version_low on q h in let l = longer on (e ∷ []) in omega arith

    settled_hold : (q : ℕ) → holds settled_held q ≡ true
        → ((held_at settled_held q).version ≡ (held_at v.held q).version) × ((held_at settled_held q).now ≡ (held_at v.held q).now) × Spells k.given (moment k (happened ++ e ∷ [])) (width k.sizes q) q (held_at settled_held q).was
        × ((held_at settled_held q).done ≡ true → (held_at settled_held q).version + 2 ≤ 2 * length (happened ++ e ∷ []))
    settled_hold q h =
        let s = settled_at q h in
        let g = (fit on).held q s.0.1 in
        let P : Hold → Type 0 = λ z. (z.version ≡ (held_at v.held q).version) × (z.now ≡ (held_at v.held q).now) × Spells k.given (moment k (happened ++ e ∷ [])) (width k.sizes q) q z.was × (z.done ≡ true → z.version + 2 ≤ 2 * length (happened ++ e ∷ [])) in
        let Q : Bool → Type 0 = λ b. P (settled b (held_at v.held q)) in
        subst P (sym s.1) (bool_cases (changes v.given then e q)
        (λ p. subst Q (sym p) (refl, refl, published_shown q p, λ y. publish_counts q s.0.1))
        (λ n. subst Q (sym n) (refl, refl, λ i l. other_shown q n i (slice_index (held_at v.held q).was i) (g.was i l), counted_still on (e ∷ []) q s.0.1)))

    publish_tame : AreTame k.given (moment k happened) (e ∷ [])
    publish_tame = (tame_now on e may_publish.actor may_publish.tame, tt)

    settled_all : (q : ℕ) → q ≢ row → holds v.held q ≡ true → holds settled_held q ≡ true
    settled_all q ne h = holds_settle v.given then (without v.held row) e q ∙ (holds_without v.held row q ne ∙ h)

    not_published : (q : ℕ) → holds v.held q ≡ false → (i x : ℕ) → Shown k.given (moment k happened) q i x → Shown k.given (moment k (happened ++ e ∷ [])) q i x
    not_published q n = other_shown q (bool_cases (changes v.given then e q) (λ p. absurd (true≢false (sym (leaves.rows q p).0 ∙ n))) (λ f. f))

    published_fits : (q : ℕ) → holds settled_held q ≡ true → IsHeld k (happened ++ e ∷ []) (set words (row_at k.sizes row 0) ((held_at v.held row).version + 2)) q (held_at settled_held q)
    published_fits = given_fits row lt mine_row (e ∷ []) settled_held publish_others (acts_one on e may_publish.actor) publish_still (λ q h. (settled_at q h).0) settled_all (published_shown row leaves.here) not_published published_word settled_hold (publish_counts row mine_row) publish_tame

    pub publishing : (w : View) × (w ≡ after v between (e ∷ []) (Set row ((held_at v.held row).version + 2) ∷ v.steps) settled_held) × Keeps k (happened ++ e ∷ []) (set words (row_at k.sizes row 0) ((held_at v.held row).version + 2)) (set views id w) × Published shape row e v w
        × (alone ≡ true → IsAlone k (happened ++ e ∷ []) (set words (row_at k.sizes row 0) ((held_at v.held row).version + 2)) (set views id w) w)
    unfolding goes
    publishing = (
      after v between (e ∷ []) (Set row ((held_at v.held row).version + 2) ∷ v.steps) settled_held,
      refl,
      given row lt mine_row (e ∷ []) settled_held publish_others (acts_one on e may_publish.actor) publish_still (λ q h. (settled_at q h).0) settled_all (published_shown row leaves.here) not_published published_word settled_hold (publish_counts row mine_row) publish_tame,
      record { goes = goes on (e ∷ []) (Set row ((held_at v.held row).version + 2) ∷ []) settled_held (set words (row_at k.sizes row 0) ((held_at v.held row).version + 2)) published_fits (λ y. (may_publish.part, tt)); steps = refl; held = refl },
      given_alone row lt mine_row (e ∷ []) settled_held publish_others (acts_one on e may_publish.actor) publish_still (λ q h. (settled_at q h).0) settled_all (published_shown row leaves.here) not_published published_word settled_hold (publish_counts row mine_row) publish_tame,
    )

  -- a held row is given up without a publish
  module _ (row : ℕ) (lt : row < rows_of k.sizes) (mine_row : holds v.held row ≡ true) (same : (held_at v.held row).now ≡ (held_at v.held row).was) where
    abbrev missed : List Event
    missed = cond (held_at v.held row).done [] (Miss v.actor ∷ [])

    may_own : may alone v v.actor ≡ true
    may_own = at alone
      where
        at : (b : Bool) → (b || (v.actor == v.actor)) ≡ true
        at true = refl
        at false = grind (arith, nat_tests)

    miss_silent : AreAside (may alone v) v.given missed
    miss_silent = at (held_at v.held row).done
      where
        at : (b : Bool) → AreAside (may alone v) v.given (cond b [] (Miss v.actor ∷ []))
        at true = tt
        at false = (record { own = may_own; part = refl; rows = λ m q. miss_changes v.given m v.actor q; words = λ c i. miss_sets v.actor c i }, tt)

    miss_tame : AreTame k.given (moment k happened) missed
    miss_tame = at (held_at v.held row).done
      where
        at : (b : Bool) → AreTame k.given (moment k happened) (cond b [] (Miss v.actor ∷ []))
        at true = tt
        at false = (calm_tame (moment k happened) (Miss v.actor) refl, tt)

    release_hold : (q : ℕ) → holds (without v.held row) q ≡ true
        → ((held_at (without v.held row) q).version ≡ (held_at v.held q).version) × ((held_at (without v.held row) q).now ≡ (held_at v.held q).now) × Spells k.given (moment k (happened ++ missed)) (width k.sizes q) q (held_at (without v.held row) q).was
        × ((held_at (without v.held row) q).done ≡ true → (held_at (without v.held row) q).version + 2 ≤ 2 * length (happened ++ missed))
    release_hold q h =
        let p = held_without row q h in
        let g = (fit on).held q p.1 in
        let P : Hold → Type 0 = λ z. (z.version ≡ (held_at v.held q).version) × (z.now ≡ (held_at v.held q).now) × Spells k.given (moment k (happened ++ missed)) (width k.sizes q) q z.was × (z.done ≡ true → z.version + 2 ≤ 2 * length (happened ++ missed)) in
        subst P (sym (without_apart v.held row q p.0)) (refl, refl, λ i l. silent_is on missed miss_silent q i (slice_index (held_at v.held q).was i) (g.was i l), counted_still on missed q p.1)

    -- the miss, or the event that was published before, is counted
    release_counts : (held_at v.held row).version + 2 ≤ 2 * length (happened ++ missed)
    release_counts = at (held_at v.held row).done refl
      where
        at : (b : Bool) → (held_at v.held row).done ≡ b → (held_at v.held row).version + 2 ≤ 2 * length (happened ++ cond b [] (Miss v.actor ∷ []))
        at true y = counted_still on [] row mine_row y
        at false y = let a = version_low on row mine_row in let l = longer on (Miss v.actor ∷ []) in omega arith

    release_all : (q : ℕ) → q ≢ row → holds v.held q ≡ true → holds (without v.held row) q ≡ true
    release_all q ne h = holds_without v.held row q ne ∙ h

    release_spells : Spells k.given (moment k (happened ++ missed)) (width k.sizes row) row (held_at v.held row).now
    release_spells = subst (λ ws. Spells k.given (moment k (happened ++ missed)) (width k.sizes row) row ws) (sym same) (λ i l. silent_is on missed miss_silent row i (slice_index (held_at v.held row).was i) (((fit on).held row mine_row).was i l))

    released_fits : (q : ℕ) → holds (without v.held row) q ≡ true → IsHeld k (happened ++ missed) (set words (row_at k.sizes row 0) ((held_at v.held row).version + 2)) q (held_at (without v.held row) q)
    released_fits = given_fits row lt mine_row missed (without v.held row) (others_silent on missed miss_silent) (acts_silent on missed miss_silent) (silent_rows on missed miss_silent) (held_without row) release_all release_spells (λ q n. silent_is on missed miss_silent q) (silent_word on missed miss_silent) release_hold release_counts miss_tame

    pub releases : (w : View) × (w ≡ after v between missed (Set row ((held_at v.held row).version + 2) ∷ v.steps) (without v.held row)) × Keeps k (happened ++ missed) (set words (row_at k.sizes row 0) ((held_at v.held row).version + 2)) (set views id w) × Released shape row v w
        × (alone ≡ true → IsAlone k (happened ++ missed) (set words (row_at k.sizes row 0) ((held_at v.held row).version + 2)) (set views id w) w)
    releases = (
      after v between missed (Set row ((held_at v.held row).version + 2) ∷ v.steps) (without v.held row),
      refl,
      given row lt mine_row missed (without v.held row) (others_silent on missed miss_silent) (acts_silent on missed miss_silent) (silent_rows on missed miss_silent) (held_without row) release_all release_spells (λ q n. silent_is on missed miss_silent q) (silent_word on missed miss_silent) release_hold release_counts miss_tame,
      record { goes = goes on missed (Set row ((held_at v.held row).version + 2) ∷ []) (without v.held row) (set words (row_at k.sizes row 0) ((held_at v.held row).version + 2)) released_fits (λ y. silent_sync (may alone v) v.given missed miss_silent); steps = refl; held = refl },
      given_alone row lt mine_row missed (without v.held row) (others_silent on missed miss_silent) (acts_silent on missed miss_silent) (silent_rows on missed miss_silent) (held_without row) release_all release_spells (λ q n. silent_is on missed miss_silent q) (silent_word on missed miss_silent) release_hold release_counts miss_tame,
    )

  -- the latch of a held row
  pub latch_of : (row : ℕ) → holds v.held row ≡ true → (cell k.sizes words row 0 ≡ (held_at v.held row).version + 1) × ((held_at v.held row).version + 2 < 18446744073709551616)
  latch_of row h = (((fit on).held row h).odd, ((fit on).held row h).room)
