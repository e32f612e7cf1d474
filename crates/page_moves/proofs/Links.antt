-- A page is unlinked from the node that names it, or linked there again.
use Rattle.std.proofs.Common.{◌≡◌, ◌≢◌, ◌==◌, ◌||◌, ◌&&◌, ◌<◌, ◌≤◌, ◌+◌, ◌*◌, ◌-◌, ltb, ℕ, Bool, true, false, List, ◌⊎◌, inl, inr, length, set, refl, sym, ap, subst, ◌∙◌, arith, true≢false}
use Rattle.std.specs.Prelude.{slice_index}
use Rattle.std.proofs.lemmas.Bool.{eqb-true, eq-eqb, cases_eq, cond-true, cond-false, lt-ltb}
use Rattle.std.proofs.lemmas.List.{get_or-set_other, get_or-set_same}
use Rattle.map_model.specs.Lists.{upd}
use Rattle.page_model.specs.Nodes.{Node}
use Rattle.page_model.specs.Page.{word_at}
use Rattle.page_model.specs.Tree.{Names, IsTree}
use Rattle.page_model.specs.Check.{names_page}
use Rattle.page_model.proofs.Tree.{only}
use Rattle.lean_proto.specs.btree_node.Words.{words_of}
use Rattle.lean_proto.specs.core_state.Openings.{Opening}
use Rattle.lean_proto.specs.core_state.States.{Place, State, nodes_of, is_cooling, in_frame}
use Rattle.lean_proto.specs.core_state.Local.{publishes_row}
use Rattle.lean_proto.proofs.core_commit.Events.{names_to}
use Rattle.lean_proto.specs.core_paging.Paging.{Residence}
use Rattle.lean_proto.specs.row_words.declared.event.Event.{Event}
use Rattle.lean_proto.specs.row_words.declared.given.Given.{Given}
use Rattle.lean_proto.specs.row_words.Moments.{Moment, event_of}
use Rattle.lean_proto.specs.row_words.Openings.{opening}
use Rattle.lean_proto.specs.row_words.Sealed.{Shown, changes}
use Rattle.lean_proto.specs.row_words.Words.{swip, swips, framed, framed_page, is_inner, ShowsPage, has_parent_in, publishes_frame}
use Rattle.lean_proto.proofs.row_words.Frames.{framed_inner, framed_same, swips_length}
use Rattle.lean_proto.proofs.row_words.Stays as words
use Rattle.lean_proto.proofs.Lengths.{words-length}
use Rattle.lean_proto.proofs.Loads.{names_from}
use Rattle.lean_proto.proofs.Moves.{links, parent_in, any_of, first_of}
use Rattle.swips.specs.Hints.{mark}
use Rattle.page_moves.proofs.Shown.{page_shown, row_shown}
use Rattle.page_moves.proofs.Words.{reword, set_words, swips_moved, named_at, names_pair, once, not_self, is_inner_to}

-- a place is in one frame
pub one_frame : (x : Place) (a b : ℕ) → in_frame x a ≡ true → in_frame x b ≡ true → a ≡ b
one_frame (Place.Hot f) a b i j = sym (eqb-true f a i) ∙ eqb-true f b j
one_frame (Place.Cooling f c w) a b i j = sym (eqb-true f a i) ∙ eqb-true f b j
one_frame Place.Cold a b i j = absurd (true≢false (sym i))

-- an event that moves page p from or to a link changes these rows
abbrev pub IsLinking : Opening → Event → ℕ → Type 0
IsLinking g e p = (s : State) (q : ℕ) → publishes_frame g s (event_of e) q ≡ links g s p q

links_parts : (v : Given) (m : Moment) (e : Event) (p q : ℕ) → IsLinking (opening v) e p → ((j : ℕ) → publishes_row (event_of e) j ≡ false) → changes v m e q ≡ true → (in_frame (m.core.place p) q ≡ true) ⊎ (has_parent_in (opening v) m.core q p ≡ true)
unfolding changes
links_parts v m e p q is none h = go (ltb q (opening v).frames) refl
  where
    parts : (a b : Bool) → ((a || false) || (false || (b || false))) ≡ true → (a ≡ true) ⊎ (b ≡ true)
    parts true b x = inl refl
    parts false true x = inr refl
    parts false false x = absurd (true≢false (sym x))

    go : (b : Bool) → ltb q (opening v).frames ≡ b → (in_frame (m.core.place p) q ≡ true) ⊎ (has_parent_in (opening v) m.core q p ≡ true)
    go true t = parts (in_frame (m.core.place p) q) (has_parent_in (opening v) m.core q p) (sym (is m.core q) ∙ (sym (cond-true (ltb q (opening v).frames) (publishes_frame (opening v) m.core (event_of e) q) (publishes_row (event_of e) (q - (opening v).frames)) t) ∙ h))
    go false t = absurd (true≢false (sym h ∙ (cond-false (ltb q (opening v).frames) (publishes_frame (opening v) m.core (event_of e) q) (publishes_row (event_of e) (q - (opening v).frames)) t ∙ none (q - (opening v).frames))))

pub row_changes_at : (v : Given) (m : Moment) (e : Event) (r : ℕ) → r < (opening v).frames → publishes_frame (opening v) m.core (event_of e) r ≡ true → changes v m e r ≡ true
unfolding changes
row_changes_at v m e r lt h = cond-true (ltb r (opening v).frames) (publishes_frame (opening v) m.core (event_of e) r) (publishes_row (event_of e) (r - (opening v).frames)) (lt-ltb r (opening v).frames lt) ∙ h

-- ## At a moment

-- The node q stands in row a, its pair `at` names page p.
pub record Linked (v : Given) (m : Moment) (a at p q : ℕ) : Type 0 where
  pub tree : IsTree (opening v).format (nodes_of m.core)
  pub places : Residence (opening v) m.core
  pub below_q : q < (opening v).format.pages
  pub below_p : p < (opening v).format.pages
  pub in_a : in_frame (m.core.place q) a ≡ true
  pub inner : is_inner (m.core.page q).node ≡ true
  pub short : at < length (m.core.page q).node.pairs
  pub names : word_at at (m.core.page q).node.pairs ≡ p
  pub other : (p == q) ≡ false

module _ (v : Given) (m : Moment) (a at p q : ℕ) (k : Linked v m a at p q) where
  abbrev g : Opening
  g = opening v

  abbrev s : State
  s = m.core

  abbrev here_span : Names (s.page q).node (named_at (s.page q).node.pairs (s.page q).node.high at k.short).span
  here_span = names_pair g.format (nodes_of s) k.tree q k.below_q k.inner at k.short

  pub names_it : names_page (s.page q).node p ≡ true
  names_it = names_from (s.page q).node (named_at (s.page q).node.pairs (s.page q).node.high at k.short).span p here_span ((named_at (s.page q).node.pairs (s.page q).node.high at k.short).child ∙ k.names)

  -- no other page names p
  pub sole : (o : ℕ) → o < g.format.pages → names_page (s.page o).node p ≡ true → o ≡ q
  sole o lt n =
      let z = names_to (s.page o).node p n in
      let w = named_at (s.page q).node.pairs (s.page q).node.high at k.short in
      (only g.format (nodes_of s) k.tree o q z.0 w.span lt k.below_q z.1 here_span (z.2 ∙ sym (w.child ∙ k.names))).0

  -- the row in which its parent stands is that one
  pub parent_row : (r : ℕ) → has_parent_in g s r p ≡ true → r ≡ a
  parent_row r y =
      let o = words.some_below g.format.pages (λ o. names_page (s.page o).node p && in_frame (s.place o) r) y in
      let w = words.and_true (names_page (s.page o.0).node p) (in_frame (s.place o.0) r) o.2 in
      one_frame (s.place q) r a (subst (λ j. in_frame (s.place j) r ≡ true) (sole o.0 o.1 w.0) w.1) k.in_a

  pub has_parent : has_parent_in g s a p ≡ true
  has_parent = parent_in g s p q a k.below_q names_it k.in_a

  -- a row that such an event changes is one of the two
  pub row_of : (b : ℕ) → in_frame (s.place p) b ≡ true → (e : Event) → IsLinking g e p → ((j : ℕ) → publishes_row (event_of e) j ≡ false) → (r : ℕ) → changes v m e r ≡ true → (r ≡ a) ⊎ (r ≡ b)
  row_of b in_b e is none r h = elim (links_parts v m e p r is none h) [
    | inl x ↦ inr (one_frame (s.place p) r b x in_b)
    | inr y ↦ inl (parent_row r y)
  ]

  pub changes_a : (e : Event) → IsLinking g e p → a < g.frames → changes v m e a ≡ true
  changes_a e is lt = row_changes_at v m e a lt (is s a ∙ any_of (in_frame (s.place p) a) false (has_parent_in g s a p) has_parent)

  pub changes_b : (b : ℕ) → in_frame (s.place p) b ≡ true → (e : Event) → IsLinking g e p → b < g.frames → changes v m e b ≡ true
  changes_b b in_b e is lt = row_changes_at v m e b lt (is s b ∙ first_of (in_frame (s.place p) b) (false || (has_parent_in g s b p || false)) in_b)

  -- ## Behind a change of its place

  module _ (x : Place) (n : Moment) (place_is : n.core.place ≡ upd s.place p x) (page_is : (c : ℕ) → n.core.page c ≡ s.page c) (saved_is : n.core.saved ≡ s.saved) (places : Residence g n.core) where
    -- the node, with another swip
    node_after : (generation : ℕ) → words_of (framed_page n.core q generation) ≡ set (words_of (framed_page s q generation)) (7 + 2 * at) (swip x p)
    node_after generation =
        let i = is_inner_to (s.page q).node k.inner in
        let old : framed s.place (s.page q).node ≡ record (s.page q).node { pairs = swips s.place (s.page q).node.pairs } = framed_inner s.place (s.page q).node i.0 i.1 in
        let moved : framed (upd s.place p x) (s.page q).node ≡ record (s.page q).node { pairs = reword (swips s.place (s.page q).node.pairs) at (swip x p) } =
        framed_inner (upd s.place p x) (s.page q).node i.0 i.1
        ∙ ap (λ ps. record (s.page q).node { pairs = ps }) (swips_moved s.place p x (s.page q).node.pairs at k.short k.names (λ j l e. once g.format (nodes_of s) k.tree q k.below_q k.inner at j k.short l (e ∙ sym k.names))) in
        let new : framed n.core.place (n.core.page q).node ≡ record (s.page q).node { pairs = reword (swips s.place (s.page q).node.pairs) at (swip x p) } = (λ j. framed (place_is j) (page_is q j).node) ∙ moved in
        (λ j. words_of (record { number = q; gsn = (page_is q j).gsn; generation = generation; last_log = (page_is q j).last; node = new j }))
        ∙ (sym (set_words (record { number = q; gsn = (s.page q).gsn; generation = generation; last_log = (s.page q).last; node = record (s.page q).node { pairs = swips s.place (s.page q).node.pairs } }) at (swip x p) (let l = swips_length s.place (s.page q).node.pairs in let sh = k.short in omega arith))
        ∙ (λ j. set (words_of (record { number = q; gsn = (s.page q).gsn; generation = generation; last_log = (s.page q).last; node = sym old j })) (7 + 2 * at) (swip x p)))

    -- the page itself, whose words don't hang on where it stands
    self_after : (generation : ℕ) → framed_page n.core p generation ≡ framed_page s p generation
    self_after generation =
        let node : framed n.core.place (n.core.page p).node ≡ framed s.place (s.page p).node = (λ j. framed (place_is j) (page_is p j).node)
        ∙ framed_same s.place (upd s.place p x) (s.page p).node (λ c named. words.cases (p == c)
        (λ y. let z = names_to (s.page p).node c named in absurd (not_self g.format (nodes_of s) k.tree p z.0 k.below_p z.1 (z.2 ∙ sym (eqb-true p c y))))
        (λ no. ap (λ w. swip w c) (words.kept s.place p x c no))) in
        (λ j. record { number = p; gsn = (page_is p j).gsn; generation = generation; last_log = (page_is p j).last; node = node j })

    q_place : n.core.place q ≡ s.place q
    q_place = ap (λ f. f q) place_is ∙ words.kept s.place p x q k.other

    p_place : n.core.place p ≡ x
    p_place = ap (λ f. f p) place_is ∙ words.here s.place p x p (eq-eqb p p refl)

    module _ (was : List ℕ) (size : length was ≡ 128) where
      -- the words of the node's row
      pub shows_node : a < g.frames → length (s.page q).node.pairs ≤ 60 → ((i : ℕ) → i < 128 → Shown v m a i (slice_index was i)) → (i : ℕ) → i < 128 → Shown v n a i (slice_index (set was (7 + 2 * at) (swip x p)) i)
      shows_node lt room old i l = row_shown v n a q i (slice_index (set was (7 + 2 * at) (swip x p)) i) lt places k.below_q (ap (λ y. in_frame y a) q_place ∙ k.in_a) (shows (cases_eq i (7 + 2 * at)))
        where
          page : ShowsPage s q i (slice_index was i)
          page = page_shown v m a q i (slice_index was i) lt k.below_q k.in_a (old i l)

          few : at < 60
          few = let sh = k.short in omega arith

          long : (generation : ℕ) → length (words_of (framed_page s q generation)) ≡ 126
          long generation = words-length (framed_page s q generation) (let e : length (framed s.place (s.page q).node).pairs ≡ length (s.page q).node.pairs = ap (λ (v : Node). length v.pairs) (framed_inner s.place (s.page q).node (is_inner_to (s.page q).node k.inner).0 (is_inner_to (s.page q).node k.inner).1) ∙ swips_length s.place (s.page q).node.pairs in omega arith)

          shows : (i ≡ 7 + 2 * at) ⊎ (i ≡ 7 + 2 * at → ⊥) → ShowsPage n.core q i (slice_index (set was (7 + 2 * at) (swip x p)) i)
          shows (inl e) = record {
            page = λ c. (
              0,
              ap (slice_index (set was (7 + 2 * at) (swip x p))) e ∙ (get_or-set_same was (7 + 2 * at) (swip x p) 0 (omega arith)
                  ∙ sym (ap (λ ws. slice_index ws i) (node_after 0) ∙ (ap (slice_index (set (words_of (framed_page s q 0)) (7 + 2 * at) (swip x p))) e ∙ get_or-set_same (words_of (framed_page s q 0)) (7 + 2 * at) (swip x p) 0 (let n = long 0 in omega arith)))),
            );
            marked = λ c _. absurd (omega arith);
            hint = λ c _. absurd (omega arith);
            saved = λ c. absurd (omega arith);
          }
          shows (inr ne) =
              let rest = get_or-set_other was (7 + 2 * at) i (swip x p) 0 ne in record {
                page = λ c. let o = page.page c in (o.0, rest ∙ (o.1 ∙ sym (ap (λ ws. slice_index ws i) (node_after o.0) ∙ get_or-set_other (words_of (framed_page s q o.0)) (7 + 2 * at) i (swip x p) 0 ne)));
                marked = λ c h. rest ∙ page.marked c (ap is_cooling (sym q_place) ∙ h);
                hint = λ c h w. page.hint c (ap is_cooling (sym q_place) ∙ h) (sym rest ∙ w);
                saved = λ c. rest ∙ (page.saved c ∙ ap (λ f. (f q).gsn) (sym saved_is));
              }

      -- the words of its own row
      pub shows_self : (b hint : ℕ) → in_frame (s.place p) b ≡ true → ((i : ℕ) → in_frame x i ≡ in_frame (s.place p) i) → b < g.frames → (is_cooling x ≡ true → hint ≡ mark) → (is_cooling x ≡ false → hint ≢ mark) → ((i : ℕ) → i < 128 → Shown v m b i (slice_index was i)) → (i : ℕ) → i < 128 → Shown v n b i (slice_index (set was 126 hint) i)
      shows_self b hint in_b same lt marked unmarked old i l = row_shown v n b p i (slice_index (set was 126 hint) i) lt places k.below_p (ap (λ y. in_frame y b) p_place ∙ (same b ∙ in_b)) (shows (cases_eq i 126))
        where
          page : ShowsPage s p i (slice_index was i)
          page = page_shown v m b p i (slice_index was i) lt k.below_p in_b (old i l)

          shows : (i ≡ 126) ⊎ (i ≡ 126 → ⊥) → ShowsPage n.core p i (slice_index (set was 126 hint) i)
          shows (inl e) =
              let is : slice_index (set was 126 hint) i ≡ hint = ap (slice_index (set was 126 hint)) e ∙ get_or-set_same was 126 hint 0 (omega arith) in record {
                page = λ c. absurd (omega arith);
                marked = λ c h. is ∙ marked (ap is_cooling (sym p_place) ∙ h);
                hint = λ c h w. unmarked (ap is_cooling (sym p_place) ∙ h) (sym is ∙ w);
                saved = λ c. absurd (omega arith);
              }
          shows (inr ne) =
              let rest = get_or-set_other was 126 i hint 0 ne in record {
                page = λ c. let o = page.page c in (o.0, rest ∙ (o.1 ∙ ap (λ y. slice_index (words_of y) i) (sym (self_after o.0))));
                marked = λ c. absurd (ne c);
                hint = λ c. absurd (ne c);
                saved = λ c. rest ∙ (page.saved c ∙ ap (λ f. (f p).gsn) (sym saved_is));
              }
