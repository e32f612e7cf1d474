-- A frame that a still row names has the page that the row's page names.
use Rattle.std.proofs.Common.{◌≡◌, ◌==◌, ◌<◌, ◌≤◌, ◌+◌, ◌-◌, ◌*◌, ◌^◌, ℕ, Bool, true, false, List, [], ◌∷◌, ◌++◌, length, refl, sym, ap, subst, ◌∙◌, append_assoc, true≢false, arith}
use Rattle.std.specs.Prelude.{slice_index}
use Rattle.std.proofs.lemmas.List.{append_cancel_left}
use Rattle.std.proofs.lemmas.Bool.{lt-ltb}
use Rattle.std.proofs.lemmas.Bool.Decides.{nat_tests}
use Rattle.page_model.specs.Pairs.{Pair}
use Rattle.page_model.specs.Nodes.{Node, NodeOk}
use Rattle.btree_descent.specs.image_model.Entries.{Contents}
use Rattle.btree_descent.specs.btree_node.Words.{words_of}
use Rattle.btree_descent.specs.core_state.States.{Place, State, is_hot, is_cooling, in_frame}
use Rattle.btree_descent.specs.core_paging.Paging.{Residence}
use Rattle.btree_descent.specs.row_words.declared.event.Event.{Event}
use Rattle.btree_descent.specs.row_words.declared.given.Given.{Given}
use Rattle.btree_descent.specs.row_words.Moments.{Moment}
use Rattle.btree_descent.specs.row_words.Openings.{opening}
use Rattle.btree_descent.specs.row_words.Sealed.{begun, stepped, run, Shown}
use Rattle.btree_descent.specs.row_words.Words.{swip, swips, framed, framed_page, ShowsPage}
use Rattle.btree_descent.proofs.row_words.SealedLemmas.{run_append, hot_kept, shown_stays}
use Rattle.btree_descent.specs.rows_trait.declared.view.View.{View}
use Rattle.btree_descent.specs.rows_trait.Views.{AreStill, IsStill, after_all, state}
use Rattle.btree_descent.proofs.rows_trait.EventLemmas.{still_rest}
use Rattle.btree_descent.specs.Known.{Sound, IsSound}
use Rattle.btree_descent.specs.swips.Hints.{mark}
use Rattle.btree_descent.proofs.row_words.Stays.{cases}
use Rattle.btree_descent.proofs.row_words.Frames.{hot_place, hot_swip, framed_inner, swips_length}
use Rattle.btree_descent.proofs.Nodes.{shown_frame}
use Rattle.row_image.specs.Images.{StaysIn}
use Rattle.row_image.specs.Inside.{Stood}
use Rattle.row_image.proofs.Watching.{stays_now}
use Rattle.row_image.proofs.Pages.{IsPair, word_in, word_at_words, names_pair}

-- ## Words of a page that stands in a row

-- what the page shows the row shows, since no other page stands there
shown_page : (v : Given) (m : Moment) (row p i x : ℕ) → row < (opening v).frames → Residence (opening v) m.core → in_frame (m.core.place p) row ≡ true
    → ShowsPage m.core p i x → (i ≡ 126 → x ≡ mark) → Shown v m row i x
unfolding Shown
shown_page v m row p i x lt r stands shows empty = record {
  frame = λ t. record {
    page = λ q l at. subst (λ z. ShowsPage m.core z i x) (r.one p q row stands at) shows;
    empty = λ is e. empty is;
  };
  lock = λ t. absurd (true≢false (sym (lt-ltb row (opening v).frames lt) ∙ t));
}

-- and while the row is still it goes on to show it
still_shown : (v : Given) (row i x : ℕ) (es : List Event) (m : Moment) → AreStill v row m es → Shown v m row i x → Shown v (run v m es) row i x
still_shown v row i x [] m a s = s
still_shown v row i x (e ∷ es) m a s = still_shown v row i x es (stepped v m e) a.1 (shown_stays v m e row i x a.0 s)

still_hot : (v : Given) (row p : ℕ) (es : List Event) (m : Moment) → row < (opening v).frames → AreStill v row m es → m.core.place p ≡ Place.Hot row
    → ((run v m es).core.place p ≡ Place.Hot row) × ((run v m es).core.page p ≡ m.core.page p)
still_hot v row p [] m lt a hot = (hot, refl)
still_hot v row p (e ∷ es) m lt a hot =
    let k = hot_kept v m e row p lt a.0 hot in
    let r = still_hot v row p es (stepped v m e) lt a.1 k.0 in
    (r.0, r.1 ∙ k.1)

-- ## Places

hot_in : (x : Place) (f : ℕ) → in_frame x f ≡ true → is_cooling x ≡ false → x ≡ Place.Hot f
hot_in (Place.Hot i) f h c = ap Place.Hot (let e : (i == f) ≡ true = h in grind (arith, nat_tests))
hot_in (Place.Cooling i e v) f h c = absurd (true≢false c)
hot_in Place.Cold f h c = absurd (true≢false (sym h))

hot_not_cooling : (x : Place) → is_hot x ≡ true → is_cooling x ≡ false
hot_not_cooling (Place.Hot f) h = refl
hot_not_cooling (Place.Cooling f e v) h = absurd (true≢false (sym h))
hot_not_cooling Place.Cold h = refl

hot_at : (x : Place) (i f : ℕ) → x ≡ Place.Hot i → i ≡ f → x ≡ Place.Hot f
hot_at x i f e is = e ∙ ap Place.Hot is

-- a page that is hot at the end of still events, and in the row before them, was hot there before them
hot_before : (v : Given) (row p : ℕ) (es : List Event) (m : Moment) → row < (opening v).frames → Residence (opening v) m.core → p < (opening v).format.pages → AreStill v row m es
    → in_frame (m.core.place p) row ≡ true → in_frame ((run v m es).core.place p) row ≡ true → is_hot ((run v m es).core.place p) ≡ true → m.core.place p ≡ Place.Hot row
hot_before v row p es m lt r below a stands after hot = hot_in (m.core.place p) row stands (cases (is_cooling (m.core.place p)) cooling (λ n. n))
  where
    cooling : is_cooling (m.core.place p) ≡ true → is_cooling (m.core.place p) ≡ false
    cooling y =
        let shows : ShowsPage m.core p 126 mark = record { page = λ l. absurd (omega arith); marked = λ is c. refl; hint = λ is c. absurd (true≢false (sym y ∙ c)); saved = λ is. absurd (omega arith) } in
        let shown = still_shown v row 126 mark es m a (shown_page v m row p 126 mark lt r stands shows (λ is. refl)) in
        absurd (((shown_frame v (run v m es) row 126 mark lt shown).page p below after).hint refl (hot_not_cooling ((run v m es).core.place p) hot) refl)

-- ## A child

-- the pairs of an inner node as it stands in a frame
pub framed_pairs : (place : ℕ → Place) (v : Node) → v.live ≡ true → 0 < v.level → (framed place v).pairs ≡ swips place v.pairs
framed_pairs place v live up = ap (λ (z : Node). z.pairs) (framed_inner place v live up)

-- the word of a pair in a frame is the swip of its page
pub framed_word : (s : State) (p generation j : ℕ) (v : Node) → (s.page p).node ≡ v → v.live ≡ true → 0 < v.level → (at : IsPair v.pairs (120 - 2 * length v.pairs) j)
    → slice_index (words_of (framed_page s p generation)) (7 + 2 * j) ≡ swip (s.place at.pair.word) at.pair.word
framed_word s p generation j v is live up at =
    let pairs : (framed s.place (s.page p).node).pairs ≡ swips s.place v.pairs = ap (λ (z : Node). (framed s.place z).pairs) is ∙ framed_pairs s.place v live up in
    word_at_words (framed_page s p generation) j
    ∙ (ap (λ (zs : List Pair). word_in zs (120 - 2 * length zs) j) pairs
    ∙ (ap (λ (k : ℕ). word_in (swips s.place v.pairs) (120 - 2 * k) j) (swips_length s.place v.pairs)
    ∙ at.framed s.place))

meet : (x y a b : ℕ) → x ≡ y → x ≡ a → y ≡ b → a ≡ b
meet x y a b e f g = sym f ∙ (e ∙ g)

-- A page that a still row's page names hot at the end was hot in that frame before.
child_before : (v : Given) (row p j : ℕ) (es : List Event) (m : Moment) → row < (opening v).frames → j < 60 → Sound v m → Sound v (run v m es) → AreStill v row m es
    → in_frame (m.core.place p) row ≡ true → in_frame ((run v m es).core.place p) row ≡ true
    → ((run v m es).core.page p).node.live ≡ true → 0 < ((run v m es).core.page p).node.level
    → (at : IsPair ((run v m es).core.page p).node.pairs (120 - 2 * length ((run v m es).core.page p).node.pairs) j)
    → (f : ℕ) → (run v m es).core.place at.pair.word ≡ Place.Hot f → m.core.place at.pair.word ≡ Place.Hot f
child_before v row p j es m lt few before after a stands still live up at f hot =
    let s = (run v m es).core in
    let n = (s.page p).node in
    let c = at.pair.word in
    let below = (after.residence.within p row still).0 in
    let ok : NodeOk (opening v).format n = (after.tree.formed p below).node live in
    let parent : is_hot (s.place p) ≡ true = after.residence.parent p c below (names_pair n at.pair live up at.has) (ap is_hot hot) in
    let was = hot_before v row p es m lt before.residence below a stands still parent in
    let same : m.core.page p ≡ s.page p = sym (still_hot v row p es m lt a was).1 in
    let node : (m.core.page p).node ≡ n = ap (λ (z : Contents). z.node) same in
    let x = slice_index (words_of (framed_page m.core p 0)) (7 + 2 * j) in
    let shows : ShowsPage m.core p (7 + 2 * j) x = record { page = λ l. (0, refl); marked = λ is y. absurd (omega arith); hint = λ is y. absurd (omega arith); saved = λ is. absurd (omega arith) } in
    let shown = still_shown v row (7 + 2 * j) x es m a (shown_page v m row p (7 + 2 * j) x lt before.residence stands shows (λ is. absurd (omega arith))) in
    let w = ((shown_frame v (run v m es) row (7 + 2 * j) x lt shown).page p below still).page (omega arith) in
    let y = slice_index (words_of (framed_page s p w.0)) (7 + 2 * j) in
    let old = swip (m.core.place c) c in
    let new = swip (s.place c) c in
    let swips_are : old ≡ new = meet x y old new w.1 (framed_word m.core p 0 j n node live up at) (framed_word s p w.0 j n refl live up at) in
    let swip_is : swip (s.place c) c ≡ 2 ^ 63 + f = ap (λ z. swip z c) hot in
    let small : c < 2 ^ 63 = (let l = (ok.children up at.pair at.has).1 in let k = after.few in omega arith) in
    let it = hot_swip (m.core.place c) c small (omega arith) in
    let e : it.0 ≡ f = (let i = it.2 in omega arith) in
    hot_at (m.core.place c) it.0 f it.1 e

-- the page in an inner node's row, which has been still since the view v
module _ (alone : Bool) (v w : View) (row p j : ℕ) (lt : row < (opening w.given).frames) (few : j < 60) (sound : IsSound w.given) (same : w.given ≡ v.given) (still : IsStill w.given row v.seen w.seen)
    (stays : StaysIn alone v row p) (stands : in_frame ((state w).core.place p) row ≡ true) (live : ((state w).core.page p).node.live ≡ true) (up : 0 < ((state w).core.page p).node.level)
    (at : IsPair ((state w).core.page p).node.pairs (120 - 2 * length ((state w).core.page p).node.pairs) j) where
  -- the child's number is below 2^63
  pub child_small : at.pair.word < 2 ^ 63
  child_small =
      let below = ((sound w.seen).residence.within p row stands).0 in
      let ok : NodeOk (opening w.given).format ((state w).core.page p).node = ((sound w.seen).tree.formed p below).node live in
      let a = (ok.children up at.pair at.has).1 in let b = (sound w.seen).few in omega arith

  -- where it is hot in a frame, that frame had it at each view since then
  pub child_stood : (y : ℕ) → 2 ^ 63 ≤ swip ((state w).core.place at.pair.word) at.pair.word
      → Stood alone v (swip ((state w).core.place at.pair.word) at.pair.word - 2 ^ 63) y w → y ≡ at.pair.word
  child_stood y high stood =
      let g = w.given in
      let c = at.pair.word in
      let u = stood.at in
      let m = after_all g u.seen in
      let b0 = stood.before.between in
      let b = stood.after.between in
      let gu : u.given ≡ g = sym stood.after.ran.given in
      let state_u : state u ≡ m = ap (λ (q : Given). after_all q u.seen) gu in
      let w_is : state w ≡ run g m b = ap (after_all g) stood.after.seen ∙ run_append g (begun g) u.seen b in
      let m_is : m ≡ run g (after_all g v.seen) b0 = ap (after_all g) stood.before.seen ∙ run_append g (begun g) v.seen b0 in
      let whole : w.seen ≡ v.seen ++ (b0 ++ b) = stood.after.seen ∙ (ap (λ z. z ++ b) stood.before.seen ∙ append_assoc v.seen b0 b) in
      let more : still.more ≡ b0 ++ b = append_cancel_left v.seen still.more (b0 ++ b) (sym still.whole ∙ whole) in
      let rest : AreStill g row m b = subst (λ (z : Moment). AreStill g row z b) (sym m_is) (still_rest g row (after_all g v.seen) b0 b (subst (AreStill g row (after_all g v.seen)) more still.still)) in
      let stood_there : in_frame (m.core.place p) row ≡ true = subst (λ (z : Moment). in_frame (z.core.place p) row ≡ true) state_u (stays_now alone v u row p stood.before stays) in
      let hot = hot_swip ((state w).core.place c) c child_small high in
      let f = hot.0 in
      let f_is : swip ((state w).core.place c) c - 2 ^ 63 ≡ f = (let e = hot.2 in omega arith) in
      let P : Moment → Type 0 = λ z. Sound g z → in_frame (z.core.place p) row ≡ true → (z.core.page p).node.live ≡ true → 0 < (z.core.page p).node.level
      → (at : IsPair (z.core.page p).node.pairs (120 - 2 * length (z.core.page p).node.pairs) j) → (f : ℕ) → z.core.place at.pair.word ≡ Place.Hot f → m.core.place at.pair.word ≡ Place.Hot f in
      let before : P (run g m b) = λ after i l h t k e. child_before g row p j b m lt few (sound u.seen) after rest stood_there i l h t k e in
      let there : m.core.place c ≡ Place.Hot f = subst P (sym w_is) before (sound w.seen) stands live up at f hot.1 in
      let inside = (sound u.seen).residence.within c f (hot_place (m.core.place c) f there) in
      let shown : Shown g m f 0 y = subst (λ (z : Moment). Shown g z f 0 y) state_u (subst (λ (q : Given). Shown q (state u) f 0 y) gu (subst (λ z. Shown u.given (state u) z 0 y) f_is stood.shown)) in
      let word = ((shown_frame g m f 0 y inside.1 shown).page c inside.0 (hot_place (m.core.place c) f there)).page (omega arith) in
      word.1
