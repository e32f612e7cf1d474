-- A page that was loaded into a held empty row may be published there.
use Rattle.std.proofs.Common.{◌≡◌, ◌≢◌, ◌==◌, ◌||◌, ◌&&◌, ◌<◌, ◌≤◌, ◌+◌, ◌*◌, ◌^◌, ◌-◌, not, ltb, ℕ, suc, Bool, true, false, List, [], ◌∷◌, ◌++◌, ◌⊎◌, inl, inr, length, set, drop, refl, sym, ap, subst, ◌∙◌, arith, true≢false}
use Rattle.std.specs.Prelude.{slice_index, if◌then◌else◌}
use Rattle.std.proofs.lemmas.Bool.{eq-eqb, eqb-true, ne_eqb, cond-true, cond-false, cases_eq}
use Rattle.std.proofs.lemmas.List.{get_or-set_other, get_or-set_same, get_or_append_left}
use Rattle.std.proofs.Math.ListN.{length-set}
use Rattle.map_model.specs.Lists.{upd}
use Rattle.lean_proto.specs.image_model.Entries.{Contents}
use Rattle.page_model.specs.Pairs.{Pair}
use Rattle.page_model.specs.Nodes.{Node}
use Rattle.page_model.specs.Page.{word_at}
use Rattle.page_model.specs.Page as stored
use Rattle.page_model.specs.Tree.{IsTree}
use Rattle.page_model.specs.Check.{names_page}
use Rattle.lean_proto.specs.btree_node.Words.{words_of}
use Rattle.lean_proto.specs.core_state.Openings.{Opening}
use Rattle.lean_proto.specs.core_state.States.{Place, State, nodes_of, is_hot, is_cooling, is_cold, in_frame}
use Rattle.lean_proto.specs.core_state.Events as happening
use Rattle.lean_proto.specs.core_state.Needs as core
use Rattle.lean_proto.specs.core_state.Needs.{has_hot_parent, is_empty_frame}
use Rattle.lean_proto.specs.core_state.Steps.{happens}
use Rattle.lean_proto.specs.core_state.Local.{publishes_row}
use Rattle.lean_proto.specs.core_paging.Paging.{Residence}
use Rattle.lean_proto.specs.row_words.declared.event.Event.{Event}
use Rattle.lean_proto.specs.row_words.declared.event.Event.TheVariants as told
use Rattle.lean_proto.specs.row_words.declared.given.Given.{Given}
use Rattle.lean_proto.specs.row_words.Moments.{Moment, event_of}
use Rattle.lean_proto.specs.row_words.Openings.{opening}
use Rattle.lean_proto.specs.row_words.Sealed.{begun, stepped, Shown, changes}
use Rattle.lean_proto.specs.row_words.Words.{swip, swips, framed, framed_page, is_inner, ShowsPage, has_parent_in, publishes_frame}
use Rattle.lean_proto.proofs.row_words.Frames.{hot_place}
use Rattle.lean_proto.proofs.row_words.SealedLemmas.{run_append, calm_tame}
use Rattle.lean_proto.proofs.row_words.Stays as words
use Rattle.lean_proto.specs.rows_trait.declared.view.View.{View}
use Rattle.lean_proto.specs.rows_trait.Layout.{width}
use Rattle.lean_proto.specs.rows_trait.Views.{Shape, Spells, state, after_all, holds, held_at}
use Rattle.lean_proto.specs.rows_trait.Turns.{MayPublish}
use Rattle.lean_proto.specs.Ready.{IsReady}
use Rattle.lean_proto.proofs.Lengths.{words-length}
use Rattle.lean_proto.proofs.Loads.{names_from, all_same}
use Rattle.lean_proto.proofs.Moves.{Stays, Around, around, any_of}
use Rattle.lean_proto.proofs.Steady.{every_ready}
use Rattle.held_rows.specs.Rows.{Waited, HoldsTwo, Wrote, OpensTwo}
use Rattle.held_rows.specs.Publishing.{IsChanged}
use Rattle.page_moves.specs.Moves.{CanFill, contents_of}
use Rattle.swips.specs.Hints.{mark}
use Rattle.held_rows.specs.Waits.{was_on, moment_is, waited_then, waited_apart, opens_two}
use Rattle.page_moves.proofs.Waiting.{stays_wait, pager_on}
use Rattle.page_moves.proofs.Shown.{row_shown, stepped_is}
use Rattle.page_moves.proofs.Words.{named_at, names_pair, not_self, is_inner_to}
use Rattle.page_moves.proofs.Links.{Linked, sole, parent_row, has_parent, row_changes_at, shows_node}
use Rattle.page_moves.proofs.Stored.{whole_length}

-- ## Pages that are not hot

swip_plain : (x : Place) (c : ℕ) → is_hot x ≡ false → swip x c ≡ c
swip_plain (Place.Hot f) c h = absurd (true≢false h)
swip_plain (Place.Cooling f e v) c h = refl
swip_plain Place.Cold c h = refl

swips_plain : (place : ℕ → Place) (xs : List Pair) → ((j : ℕ) → j < length xs → is_hot (place (word_at j xs)) ≡ false) → swips place xs ≡ xs
swips_plain place [] h = refl
swips_plain place (x ∷ xs) h =
    let first = swip_plain (place x.word) x.word (h 0 (omega arith)) in
    let rest = swips_plain place xs (λ j lt. h (suc j) (omega arith)) in
    (λ i. record { key = x.key; word = first i } ∷ rest i)

pub framed_plain : (place : ℕ → Place) (v : Node) → (is_inner v ≡ true → (j : ℕ) → j < length v.pairs → is_hot (place (word_at j v.pairs)) ≡ false) → framed place v ≡ v
framed_plain place v h = go (is_inner v) refl
  where
    go : (b : Bool) → is_inner v ≡ b → (if b then record v { pairs = swips place v.pairs } else v) ≡ v
    go true e = ap (λ ps. record v { pairs = ps }) (swips_plain place v.pairs (h e))
    go false e = refl

not_cold : (x : Place) (f : ℕ) → x ≡ Place.Hot f → is_cold x ≡ false
not_cold x f e = ap is_cold e

-- the rows that a load changes
pub load_rows : (v : Given) (m : Moment) (p b r : ℕ) → is_cold (m.core.place p) ≡ true → changes v m (told.Load p b) r ≡ true → (r ≡ b) ⊎ (has_parent_in (opening v) m.core r p ≡ true)
unfolding changes
load_rows v m p b r cold h = go (ltb r (opening v).frames) refl
  where
    out : (x : Place) → is_cold x ≡ true → in_frame x r ≡ false
    out (Place.Hot f) c = absurd (true≢false (sym c))
    out (Place.Cooling f e w) c = absurd (true≢false (sym c))
    out Place.Cold c = refl

    parts : (x y z : Bool) → x ≡ false → ((x || false) || (y || (z || false))) ≡ true → (y ≡ true) ⊎ (z ≡ true)
    parts true y z e k = absurd (true≢false e)
    parts false true z e k = inl refl
    parts false false true e k = inr refl
    parts false false false e k = absurd (true≢false (sym k))

    go : (t : Bool) → ltb r (opening v).frames ≡ t → (r ≡ b) ⊎ (has_parent_in (opening v) m.core r p ≡ true)
    go true t = elim (parts (in_frame (m.core.place p) r) (b == r) (has_parent_in (opening v) m.core r p) (out (m.core.place p) cold)
        (sym (cond-true (ltb r (opening v).frames) (publishes_frame (opening v) m.core (happening.Event.Load p b) r) (publishes_row (happening.Event.Load p b) (r - (opening v).frames)) t) ∙ h)) [
          | inl y ↦ inl (sym (eqb-true b r y))
          | inr w ↦ inr w
        ]
    go false t = absurd (true≢false (sym h ∙ cond-false (ltb r (opening v).frames) (publishes_frame (opening v) m.core (happening.Event.Load p b) r) (publishes_row (happening.Event.Load p b) (r - (opening v).frames)) t))

-- the row that it fills, after any other row of its
pub fills_row : (a c : Bool) → ((a || false) || (true || c)) ≡ true
fills_row true c = refl
fills_row false c = refl

module _ {z : Shape} {v : View} {a b at p : ℕ} {n : stored.Page} (t : HoldsTwo z v a b) (c : CanFill z v a b at p n) where
  abbrev g : Opening
  g = opening v.given

  abbrev q : ℕ
  q = c.link.parent

  abbrev ev : Event
  ev = told.Load p b

  cold : is_cold ((state v).core.place p) ≡ true
  cold =
      let s = (state v).core in
      let x = words.and_true (ltb p g.format.pages) (ltb b g.frames && (is_cold (s.place p) && (has_hot_parent g s p && is_empty_frame g s b))) c.met in
      let y = words.and_true (ltb b g.frames) (is_cold (s.place p) && (has_hot_parent g s p && is_empty_frame g s b)) x.1 in
      (words.and_true (is_cold (s.place p)) (has_hot_parent g s p && is_empty_frame g s b) y.1).0

  differ : (p == q) ≡ false
  differ = ne_eqb p q (λ e. true≢false (sym (subst (λ j. is_cold ((state v).core.place j) ≡ true) e cold) ∙ not_cold ((state v).core.place q) a c.link.hot))

  module _ {w : View} (k : Waited z.alone v w) where
    stays : Stays v (state v).core (state w).core
    stays = stays_wait c.on k

    node_same : (state w).core.page q ≡ (state v).core.page q
    node_same = stays.page a q t.first.frames t.first.mine (hot_place ((state v).core.place q) a c.link.hot)

    pub places_w : Residence g (state w).core
    places_w = subst (λ (m : Moment). Residence g m.core) (sym (moment_is k)) (c.on.order (v.seen ++ k.between)).places

    tree_w : IsTree g.format (nodes_of (state w).core)
    tree_w = subst (λ (m : Moment). IsTree g.format (nodes_of m.core)) (sym (moment_is k)) (c.on.order (v.seen ++ k.between)).tree

    pub cold_w : is_cold ((state w).core.place p) ≡ true
    cold_w = stays.places.cold p ∙ cold

    own_same : (state w).core.page p ≡ (state v).core.page p
    own_same = places_w.cold p cold_w ∙ (stays.places.saved p ∙ sym ((c.on.order v.seen).places.cold p cold))

    pub linked : Linked v.given (state w) a at p q
    linked = record {
      tree = tree_w;
      places = places_w;
      below_q = c.link.below;
      below_p = c.below;
      in_a = stays.places.frame q a ∙ hot_place ((state v).core.place q) a c.link.hot;
      inner = ap (λ y. is_inner y.node) node_same ∙ c.link.inner;
      short = subst (λ y. at < length y.node.pairs) (sym node_same) c.link.short;
      names = ap (λ y. word_at at y.node.pairs) node_same ∙ c.link.names;
      other = differ;
    }

    first : Linked v.given (state v) a at p q
    first = record {
      tree = (c.on.order v.seen).tree;
      places = (c.on.order v.seen).places;
      below_q = c.link.below;
      below_p = c.below;
      in_a = hot_place ((state v).core.place q) a c.link.hot;
      inner = c.link.inner;
      short = c.link.short;
      names = c.link.names;
      other = differ;
    }

    around_p : Around g p (state v).core (state w).core
    around_p = around g p (state v).core (state w).core (c.on.order v.seen).tree tree_w c.below stays.places own_same
        (λ o lt m. subst (λ j. (state w).core.page j ≡ (state v).core.page j) (sym (sole v.given (state v) a at p q first o lt m)) node_same)

    pub met_w : core.may g (state w).core (event_of ev) ≡ true
    met_w =
        let s = (state v).core in
        let u = (state w).core in
        let cool = stays.places.cold p in
        let parents : has_hot_parent g u p ≡ has_hot_parent g s p = all_same g.format.pages (λ o. not (names_page (u.page o).node p) || is_hot (u.place o)) (λ o. not (names_page (s.page o).node p) || is_hot (s.place o))
        (λ o lt. let x = around_p.named o lt in let y = stays.places.hot o in (λ i. not (x i) || y i)) in
        let empty : is_empty_frame g u b ≡ is_empty_frame g s b = all_same g.format.pages (λ o. not (in_frame (u.place o) b)) (λ o. not (in_frame (s.place o) b)) (λ o lt. ap not (stays.places.frame o b)) in
        (λ i. ltb p g.format.pages && (ltb b g.frames && (cool i && (parents i && empty i)))) ∙ c.met

    pub saved_w : contents_of n ≡ (state w).core.saved p
    saved_w = c.contents ∙ sym (stays.places.saved p)

    pub changes_own : changes v.given (state w) ev b ≡ true
    changes_own = row_changes_at v.given (state w) ev b t.second.frames (ap (λ y. (in_frame ((state w).core.place p) b || false) || (y || (has_parent_in g (state w).core b p || false))) (eq-eqb b b refl) ∙ fills_row (in_frame ((state w).core.place p) b) (has_parent_in g (state w).core b p || false))

  -- ## Both rows are stored

  module _ {u1 u2 : View} (hint : ℕ) (hint_is : hint ≢ mark) (w1 : Wrote z.alone b (set (set (words_of n ++ drop 126 (held_at v.held b).now) 126 hint) 127 n.gsn) v u1) (w2 : Wrote z.alone a (set (held_at u1.held a).now (7 + 2 * at) (2 ^ 63 + b)) u1 u2) where
    pub both : Waited z.alone v u2
    both = waited_then w1.waited w2.waited

    apart : b ≢ a
    apart e = t.apart (sym e)

    abbrev own_words : List ℕ
    own_words = set (set (words_of n ++ drop 126 (held_at v.held b).now) 126 hint) 127 n.gsn

    node_now : (held_at u2.held a).now ≡ set (held_at v.held a).was (7 + 2 * at) (2 ^ 63 + b)
    node_now = w2.now ∙ ap (λ ws. set ws (7 + 2 * at) (2 ^ 63 + b)) (ap (λ h. h.now) (w1.others a apart) ∙ t.first.same)

    self_now : (held_at u2.held b).now ≡ own_words
    self_now = ap (λ h. h.now) (w2.others b t.apart) ∙ w1.now

    -- both rows are open still
    pub both_open : OpensTwo z u2 a b
    both_open = opens_two both.rows t (w2.done ∙ ap (λ h. h.done) (w1.others a apart)) (ap (λ h. h.done) (w2.others b t.apart) ∙ w1.done)

    pub own_changed : IsChanged z u2 ev b
    own_changed between quiet apart = subst (λ (y : Given). changes y (state (record u2 { seen = u2.seen ++ between })) ev b ≡ true) (sym both.ran.given) (changes_own (waited_then both (waited_apart z u2 between quiet apart)))

    abbrev s : State
    s = (state u2).core

    abbrev m2 : Moment
    m2 = stepped v.given (state u2) ev

    after : m2.core ≡ happens g s (event_of ev)
    after = stepped_is v.given (state u2) ev (met_w both)

    place_is : m2.core.place ≡ upd s.place p (Place.Hot b)
    place_is = ap (λ y. y.place) after

    page_is : (o : ℕ) → m2.core.page o ≡ s.page o
    page_is o = ap (λ y. y.page o) after ∙ words.cases (p == o)
        (λ y. words.here s.page p (s.saved p) o y ∙ (sym ((places_w both).cold p (cold_w both)) ∙ ap s.page (eqb-true p o y)))
        (λ no. words.kept s.page p (s.saved p) o no)

    saved_is : m2.core.saved ≡ s.saved
    saved_is = ap (λ y. y.saved) after

    residence : Residence g m2.core
    residence =
        let e : m2 ≡ after_all v.given ((v.seen ++ both.between) ++ ev ∷ []) = ap (λ m. stepped v.given m ev) (moment_is both) ∙ sym (run_append v.given (begun v.given) (v.seen ++ both.between) (ev ∷ [])) in
        subst (λ (m : Moment). Residence g m.core) (sym e) (c.on.order ((v.seen ++ both.between) ++ ev ∷ [])).places

    room_q : length (s.page q).node.pairs ≤ 60
    room_q = (((linked both).tree.formed q c.link.below).node (is_inner_to (s.page q).node (linked both).inner).0).sized

    shows_a : (i : ℕ) → i < 128 → Shown v.given m2 a i (slice_index (set (held_at v.held a).was (7 + 2 * at) (2 ^ 63 + b)) i)
    shows_a = shows_node v.given (state u2) a at p q (linked both) (Place.Hot b) m2 place_is page_is saved_is residence (held_at v.held a).was t.first.size t.first.frames room_q (was_on both t.first)

    -- the page as it is loaded
    here : s.page p ≡ contents_of n
    here = (places_w both).cold p (cold_w both) ∙ sym (saved_w both)

    -- no page that it names is hot
    children : is_inner (s.page p).node ≡ true → (j : ℕ) → j < length (s.page p).node.pairs → is_hot (m2.core.place (word_at j (s.page p).node.pairs)) ≡ false
    children inner j lt =
        let d = word_at j (s.page p).node.pairs in
        let w = named_at (s.page p).node.pairs (s.page p).node.high j lt in
        let names = names_pair g.format (nodes_of s) (linked both).tree p c.below inner j lt in
        words.cases (is_hot (m2.core.place d))
        (λ y. words.cases (p == d)
        (λ own. absurd (not_self g.format (nodes_of s) (linked both).tree p w.span c.below names (w.child ∙ sym (eqb-true p d own))))
        (λ no. let hot : is_hot (s.place d) ≡ true = sym (ap (λ f. is_hot (f d)) place_is ∙ ap is_hot (words.kept s.place p (Place.Hot b) d no)) ∙ y in
        let up = (places_w both).parent p d c.below (names_from (s.page p).node w.span d names w.child) hot in
        absurd (true≢false (sym up ∙ cold_not (s.place p) (cold_w both)))))
        (λ no. no)
      where
        cold_not : (x : Place) → is_cold x ≡ true → is_hot x ≡ false
        cold_not (Place.Hot f) h = absurd (true≢false (sym h))
        cold_not (Place.Cooling f e w) h = refl
        cold_not Place.Cold h = refl

    page_after : framed_page m2.core p n.generation ≡ n
    page_after =
        let node : framed m2.core.place (m2.core.page p).node ≡ n.node = ap (λ y. framed m2.core.place y.node) (page_is p) ∙ (framed_plain m2.core.place (s.page p).node children ∙ ap (λ y. y.node) here) in
        let e = page_is p ∙ here in
        (λ i. record { number = sym c.number_is i; gsn = (e i).gsn; generation = n.generation; last_log = (e i).last; node = node i })

    sized : length n.node.pairs ≤ 60
    sized = subst (λ (y : Contents). length y.node.pairs ≤ 60) here (fits ((linked both).tree.formed p c.below))
      where
        fits : Rattle.page_model.specs.Nodes.WellFormed g.format (s.page p).node → length (s.page p).node.pairs ≤ 60
        fits f = words.cases (s.page p).node.live (λ y. (f.node y).sized) (λ no. let e = ap (λ (x : Node). length x.pairs) (f.other no) in omega arith)

    long : length (words_of n) ≡ 126
    long = words-length n sized

    whole : length (words_of n ++ drop 126 (held_at v.held b).now) ≡ 128
    whole = whole_length (words_of n) (held_at v.held b).now 126 long (let e = ap length t.second.same in let l = t.second.size in omega arith) ∙ (ap length t.second.same ∙ t.second.size)

    p_place : m2.core.place p ≡ Place.Hot b
    p_place = ap (λ f. f p) place_is ∙ words.here s.place p (Place.Hot b) p (eq-eqb p p refl)

    shows_b : (i : ℕ) → i < 128 → Shown v.given m2 b i (slice_index own_words i)
    shows_b i l = row_shown v.given m2 b p i (slice_index own_words i) t.second.frames residence c.below (ap (λ y. in_frame y b) p_place ∙ eq-eqb b b refl) (shows (cases_eq i 127) (cases_eq i 126))
      where
        saved_here : (m2.core.saved p).gsn ≡ n.gsn
        saved_here = ap (λ f. (f p).gsn) saved_is ∙ ap (λ y. y.gsn) (sym (saved_w both))

        shows : (i ≡ 127) ⊎ (i ≡ 127 → ⊥) → (i ≡ 126) ⊎ (i ≡ 126 → ⊥) → ShowsPage m2.core p i (slice_index own_words i)
        shows (inl e) _ = record {
          page = λ d. absurd (omega arith);
          marked = λ d _. absurd (omega arith);
          hint = λ d _. absurd (omega arith);
          saved = λ _. ap (slice_index own_words) e ∙ (get_or-set_same (set (words_of n ++ drop 126 (held_at v.held b).now) 126 hint) 127 n.gsn 0 (let x = length-set (words_of n ++ drop 126 (held_at v.held b).now) 126 hint in let y = whole in omega arith) ∙ sym saved_here);
        }
        shows (inr ne) (inl e) =
            let is : slice_index own_words i ≡ hint = get_or-set_other (set (words_of n ++ drop 126 (held_at v.held b).now) 126 hint) 127 i n.gsn 0 ne ∙ (ap (slice_index (set (words_of n ++ drop 126 (held_at v.held b).now) 126 hint)) e ∙ get_or-set_same (words_of n ++ drop 126 (held_at v.held b).now) 126 hint 0 (let y = whole in omega arith)) in record {
              page = λ d. absurd (omega arith);
              marked = λ d cool. absurd (true≢false (sym cool ∙ ap is_cooling p_place));
              hint = λ d cool w. hint_is (sym is ∙ w);
              saved = λ d. absurd (omega arith);
            }
        shows (inr ne) (inr away) = record {
          page = λ d. (n.generation, get_or-set_other (set (words_of n ++ drop 126 (held_at v.held b).now) 126 hint) 127 i n.gsn 0 ne ∙ (get_or-set_other (words_of n ++ drop 126 (held_at v.held b).now) 126 i hint 0 away ∙ (get_or_append_left (words_of n) (drop 126 (held_at v.held b).now) 0 i (let y = long in omega arith) ∙ sym (ap (λ y. slice_index (words_of y) i) page_after))));
          marked = λ d _. absurd (away d);
          hint = λ d _. absurd (away d);
          saved = λ d. absurd (ne d);
        }

    ready : IsReady z u2 a ev
    ready = record {
      actor = (pager_on c.on both).actor;
      order = (pager_on c.on both).order;
      met = subst (λ (y : Given). core.may (opening y) s (event_of ev) ≡ true) (sym both.ran.given) (met_w both);
      tame = calm_tame (state u2) ev refl;
      leaves = record {
        here = subst (λ (y : Given). changes y (state u2) ev a ≡ true) (sym both.ran.given) (row_changes_at v.given (state u2) ev a t.first.frames (any_of (in_frame (s.place p) a) (b == a) (has_parent_in g s a p) (has_parent v.given (state u2) a at p q (linked both))));
        rows = λ r h. elim (load_rows v.given (state u2) p b r (cold_w both) (subst (λ (y : Given). changes y (state u2) ev r ≡ true) both.ran.given h)) [
          | inl x2 ↦ subst (λ o. (holds u2.held o ≡ true) × Spells u2.given (stepped u2.given (state u2) ev) (width z.sizes o) o (held_at u2.held o).now) (sym x2) (
            both.rows b ∙ t.second.mine,
            λ i lt. let small : i < 128 = (let w = t.second.wide in omega arith) in
                subst (λ (y : Given × List ℕ). Shown y.0 (stepped y.0 (state u2) ev) b i (slice_index y.1 i)) (λ j. (sym both.ran.given j, sym self_now j)) (shows_b i small),
          )
          | inr y ↦ subst (λ o. (holds u2.held o ≡ true) × Spells u2.given (stepped u2.given (state u2) ev) (width z.sizes o) o (held_at u2.held o).now) (sym (parent_row v.given (state u2) a at p q (linked both) r y)) (
            both.rows a ∙ t.first.mine,
            λ i lt. let small : i < 128 = (let w = t.first.wide in omega arith) in
                subst (λ (y : Given × List ℕ). Shown y.0 (stepped y.0 (state u2) ev) a i (slice_index y.1 i)) (λ j. (sym both.ran.given j, sym node_now j)) (shows_a i small),
          )
        ];
      };
    }

    pub fill_may : MayPublish z a ev u2
    fill_may = every_ready z u2 a ev refl ready
