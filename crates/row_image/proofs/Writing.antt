-- The words of the page as it is written, from those that stood in its row.
use Rattle.std.proofs.Common.{◌≡◌, ◌≢◌, ◌==◌, ltb, ◌<◌, ◌≤◌, ◌+◌, ◌-◌, ◌*◌, ◌/◌, ◌%◌, ◌^◌, ◌⊎◌, inl, inr, ℕ, zero, suc, Bool, true, false, List, length, set, get_or, refl, sym, ap, subst, ◌∙◌, arith, length-set}
use Rattle.std.specs.Prelude.{slice_index}
use Rattle.std.proofs.lemmas.List.{ext_get_or, get_or-set_same, get_or-set_other}
use Rattle.std.proofs.lemmas.Bool.Decides.{nat_tests}
use Rattle.page_model.specs.Pairs.{Pair}
use Rattle.page_model.specs.Nodes.{Node, WellFormed}
use Rattle.page_model.specs.Page as stored
use Rattle.btree_descent.specs.btree_node.Words.{words_of, packed, kind_of, Spells}
use Rattle.btree_descent.proofs.btree_node.SpellingLemmas.{page_of-words_of}
use Rattle.btree_descent.specs.core_state.States.{State, in_frame}
use Rattle.btree_descent.specs.row_words.declared.event.Event.{Event}
use Rattle.btree_descent.specs.row_words.declared.given.Given.{Given}
use Rattle.btree_descent.specs.row_words.Openings.{opening}
use Rattle.btree_descent.specs.row_words.Sealed.{Shown}
use Rattle.btree_descent.specs.row_words.Words.{swip, swips, framed_page}
use Rattle.btree_descent.specs.rows_trait.declared.view.View.{View}
use Rattle.btree_descent.specs.rows_trait.Views.{Since, IsStill, Knows, state}
use Rattle.btree_descent.proofs.rows_trait.Causes.{since_after}
use Rattle.btree_descent.specs.Known.{IsSound}
use Rattle.btree_descent.proofs.row_words.Stays.{cases}
use Rattle.btree_descent.proofs.Nodes.{shown_frame, fits}
use Rattle.btree_descent.proofs.Calls.{sound_given}
use Rattle.row_image.specs.Images.{written, StaysIn}
use Rattle.row_image.specs.Inside.{Watched, AreKnown, Stood, AreNamed, HasChildren, IsSpelled}
use Rattle.row_image.proofs.Watching.{watched_then, stays_now, stays_on, children_within}
use Rattle.row_image.proofs.Pages.{word_in, key_in, swips_key, IsPair, IsBehind, pair_or_behind, length_words, key_at_words, word_at_words, each_word, fits_written}
use Rattle.btree_descent.proofs.row_words.Frames.{swips_length, hot_swip, hot_place, cold_swip, one_word, framed_level, framed_leaf, framed_inner}
use Rattle.row_image.proofs.Stillness.{framed_word, child_small, child_stood}

-- the page with these pairs
abbrev with_pairs : State → (p generation : ℕ) → List Pair → stored.Page
with_pairs s p generation xs = record { number = p; gsn = (s.page p).gsn; generation = generation; last_log = (s.page p).last; node = record ((s.page p).node) { pairs = xs } }

-- the head's words hang on the number of pairs alone
one_head : (s : State) (p generation : ℕ) (xs ys : List Pair) → length xs ≡ length ys → (i : ℕ) → i < 6 → slice_index (words_of (with_pairs s p generation xs)) i ≡ slice_index (words_of (with_pairs s p generation ys)) i
one_head s p generation xs ys e zero lt = refl
one_head s p generation xs ys e (suc zero) lt = refl
one_head s p generation xs ys e (suc (suc zero)) lt = refl
one_head s p generation xs ys e (suc (suc (suc zero))) lt = ap (λ k. packed k (s.page p).node.level (s.page p).last (kind_of (s.page p).node.live)) e
one_head s p generation xs ys e (suc (suc (suc (suc zero)))) lt = refl
one_head s p generation xs ys e (suc (suc (suc (suc (suc zero))))) lt = refl
one_head s p generation xs ys e (suc (suc (suc (suc (suc (suc i)))))) lt = absurd (omega arith)

-- page p stays in the row, whose words were loaded as `raw` and which has been still since the view v, and the children were named
module _ (alone : Bool) (v w : View) (row frames p generation : ℕ) (raw now : List ℕ) (frames_is : (opening w.given).frames ≡ frames) (lt : row < (opening w.given).frames)
    (sound : IsSound w.given) (same : w.given ≡ v.given) (still : IsStill w.given row v.seen w.seen) (stays : StaysIn alone v row p) (stands : in_frame ((state w).core.place p) row ≡ true)
    (long : length now ≡ 126) (shown : (i : ℕ) → i < 126 → Shown w.given (state w) row i (slice_index raw i)) (children : HasChildren alone frames v raw now w) where
  abbrev core : State
  core = (state w).core

  abbrev node : Node
  node = (core.page p).node

  below : p < (opening w.given).format.pages
  below = ((sound w.seen).residence.within p row stands).0

  formed : WellFormed (opening w.given).format node
  formed = (sound w.seen).tree.formed p below

  raw_word : (i : ℕ) → i < 126 → i ≢ 2 → slice_index raw i ≡ slice_index (words_of (framed_page core p generation)) i
  raw_word i l ne = let k = ((shown_frame w.given (state w) row i (slice_index raw i) lt (shown i l)).page p below stands).page l in k.1 ∙ one_word core p k.0 generation i ne

  raw_level : slice_index raw 3 / 256 % 256 ≡ node.level
  raw_level =
      let k = ((shown_frame w.given (state w) row 3 (slice_index raw 3) lt (shown 3 (omega arith))).page p below stands).page (omega arith) in
      ap (λ z. z / 256 % 256) (k.1 ∙ one_word core p k.0 0 3 (λ z. omega arith))
      ∙ (ap (λ (q : stored.Page). q.node.level) (page_of-words_of (framed_page core p 0) (fits w.given (state w) p (sound w.seen) below)) ∙ framed_level core.place node)

  abbrev Right : ℕ → Type 0
  Right i = i ≢ 2 → slice_index now i ≡ slice_index (words_of (written core p generation)) i

  leaf_word : node.level ≡ 0 → (i : ℕ) → i < 126 → Right i
  leaf_word z i l ne =
      ap (λ (ws : List ℕ). slice_index ws i) (children.leaf (raw_level ∙ z))
      ∙ (raw_word i l ne
      ∙ ap (λ (n : Node). slice_index (words_of (record { number = p; gsn = (core.page p).gsn; generation = generation; last_log = (core.page p).last; node = n })) i) (framed_leaf core.place node z))

  module _ (up : 0 < node.level) where
    live : node.live ≡ true
    live = cases node.live (λ y. y) (λ n. absurd (let e = ap (λ (z : Node). z.level) (formed.other n) in omega arith))

    named : AreNamed alone frames 60 v raw now w
    named = children.inner (let e = raw_level in omega arith)

    framed_is : framed_page core p generation ≡ with_pairs core p generation (swips core.place node.pairs)
    framed_is = ap (λ (n : Node). record { number = p; gsn = (core.page p).gsn; generation = generation; last_log = (core.page p).last; node = n }) (framed_inner core.place node live up)

    abbrev zeros : ℕ
    zeros = 120 - 2 * length node.pairs

    head_word : (i : ℕ) → i < 6 → Right i
    head_word i l ne =
        named.same i (λ j k e. omega arith)
        ∙ (raw_word i (omega arith) ne
        ∙ (ap (λ (q : stored.Page). slice_index (words_of q) i) framed_is
        ∙ one_head core p generation (swips core.place node.pairs) node.pairs (swips_length core.place node.pairs) i l))

    key_word : (j : ℕ) → j < 60 → Right (6 + 2 * j)
    key_word j l ne =
        named.same (6 + 2 * j) (λ k f e. omega arith)
        ∙ (raw_word (6 + 2 * j) (omega arith) ne
        ∙ (ap (λ (q : stored.Page). slice_index (words_of q) (6 + 2 * j)) framed_is
        ∙ (key_at_words (with_pairs core p generation (swips core.place node.pairs)) j
        ∙ (ap (λ (k : ℕ). key_in (swips core.place node.pairs) (120 - 2 * k) j) (swips_length core.place node.pairs)
        ∙ (swips_key core.place node.pairs zeros j
        ∙ sym (key_at_words (written core p generation) j))))))

    -- where no pair stands
    behind_word : (j : ℕ) → j < 60 → IsBehind node.pairs zeros j → Right (7 + 2 * j)
    behind_word j l b ne =
        let r : slice_index raw (7 + 2 * j) ≡ 0 =
        raw_word (7 + 2 * j) (omega arith) ne
        ∙ (ap (λ (q : stored.Page). slice_index (words_of q) (7 + 2 * j)) framed_is
        ∙ (word_at_words (with_pairs core p generation (swips core.place node.pairs)) j
        ∙ (ap (λ (k : ℕ). word_in (swips core.place node.pairs) (120 - 2 * k) j) (swips_length core.place node.pairs)
        ∙ b.framed core.place))) in
        (named.named j l).number (omega arith) ∙ (r ∙ (sym b.word ∙ sym (word_at_words (written core p generation) j)))

    -- where one stands
    pair_word : (j : ℕ) → j < 60 → IsPair node.pairs zeros j → Right (7 + 2 * j)
    pair_word j l at ne =
        let c = at.pair.word in
        let x = slice_index raw (7 + 2 * j) in
        let y = slice_index now (7 + 2 * j) in
        let r : x ≡ swip (core.place c) c = raw_word (7 + 2 * j) (omega arith) ne ∙ framed_word core p generation j node refl live up at in
        let one = named.named j l in
        let is : y ≡ c = cases (ltb x (2 ^ 63))
        (λ t. let low : x < 2 ^ 63 = grind (arith, nat_tests) in one.number low ∙ (r ∙ (cold_swip (core.place c) c (omega arith)).1))
        (λ t.
        let high : 2 ^ 63 ≤ x = grind (arith, nat_tests) in
        let up_swip : 2 ^ 63 ≤ swip (core.place c) c = omega arith in
        let hot = hot_swip (core.place c) c (child_small alone v w row p j lt l sound same still stays stands live up at) up_swip in
        let inside : hot.0 < (opening w.given).frames = ((sound w.seen).residence.within c hot.0 (hot_place (core.place c) hot.0 hot.1)).1 in
        let stood = one.frame high (let e = hot.2 in omega arith) in
        child_stood alone v w row p j lt l sound same still stays stands live up at y up_swip (subst (λ z. Stood alone v (z - 2 ^ 63) y w) r stood)) in
        is ∙ (sym at.word ∙ sym (word_at_words (written core p generation) j))

    inner_word : (i : ℕ) → i < 126 → Right i
    inner_word = each_word Right head_word key_word (λ j l. either j l (pair_or_behind node.pairs zeros j))
      where
        either : (j : ℕ) → j < 60 → IsPair node.pairs zeros j ⊎ IsBehind node.pairs zeros j → Right (7 + 2 * j)
        either j l (inl at) = pair_word j l at
        either j l (inr b) = behind_word j l b

  each : (i : ℕ) → i < 126 → Right i
  each i l = cases (node.level == 0)
      (λ t. leaf_word (grind (arith, nat_tests)) i l)
      (λ t. let ne : node.level ≢ 0 = grind (arith, nat_tests) in inner_word (omega arith) i l)

  -- The words are those of the page as it is written, once the generation is set.
  pub spells_written : Spells (set now 2 generation) (written core p generation)
  spells_written =
      let f = fits_written w.given (state w) p generation (sound w.seen) below in
      let n : length (set now 2 generation) ≡ 126 = length-set now 2 generation ∙ long in
      record { spelled = ext_get_or 0 (set now 2 generation) (words_of (written core p generation)) (n ∙ sym (length_words (written core p generation) f.room)) (λ i l. at i (omega arith) (i == 2) refl); fits = f }
    where
      at : (i : ℕ) → i < 126 → (b : Bool) → (i == 2) ≡ b → get_or (set now 2 generation) i 0 ≡ get_or (words_of (written core p generation)) i 0
      at i l true e =
          let is : i ≡ 2 = grind (arith, nat_tests) in
          subst (λ z. get_or (set now 2 generation) z 0 ≡ get_or (words_of (written core p generation)) z 0) (sym is) (get_or-set_same now 2 generation 0 (omega arith))
      at i l false e =
          let ne : i ≢ 2 = grind (arith, nat_tests) in
          get_or-set_other now 2 i generation 0 ne ∙ each i l ne

-- ## A whole call

-- The call began at v, looked at the row at t, loaded its words by u, named the children by n, and checked the row at w.
pub whole : (alone : Bool) (v t u n w : View) (row version frames p generation : ℕ) (raw now : List ℕ) → Watched alone v t → Watched alone t u → Watched alone u n → Watched alone n w
    → (opening v.given).frames ≡ frames → row < frames → IsSound v.given → Since row version t.seen t.steps → AreKnown row version 126 raw u.steps → HasChildren alone frames u raw now n → length now ≡ 126
    → ((i x : ℕ) → Knows row version i x n.steps → Shown w.given (state w) row i x) → ((at : List Event) → Since row version at n.steps → IsStill w.given row at w.seen)
    → StaysIn alone v row p → IsSpelled w row p generation (set now 2 generation)
whole alone v t u n w row version frames p generation raw now vt tu un nw frames_is lt sound since known children long valid still stays =
    let tw = watched_then tu (watched_then un nw) in
    let given : w.given ≡ v.given = tw.ran.given ∙ vt.ran.given in
    let frames_w : (opening w.given).frames ≡ frames = ap (λ (g : Given). (opening g).frames) given ∙ frames_is in
    let stands = stays_now alone v w row p (watched_then vt tw) stays in
    let at_n = since_after row version t.seen t n (watched_then tu un).loads since in record {
      stands = stands;
      spells = spells_written alone t w row frames p generation raw now frames_w (omega arith) (sound_given v w given sound) tw.ran.given (still t.seen at_n) (stays_on alone v t row p vt stays) stands long
          (λ i l. valid i (slice_index raw i) (un.knows row version i (slice_index raw i) (known i l)))
          (children_within alone frames t u n w raw now tu nw children);
    }
