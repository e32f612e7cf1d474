-- A free page, which no node names, cools, is rescued or is loaded by a publish of its own row.
use Rattle.std.proofs.Common.{◌≡◌, ◌≢◌, ◌||◌, ◌&&◌, ◌<◌, ◌⊎◌, not, ltb, ℕ, zero, suc, Bool, true, false, List, [], ◌∷◌, ◌++◌, inl, inr, length, set, drop, refl, sym, ap, subst, ◌∙◌, arith, true≢false}
use Rattle.std.specs.Prelude.{slice_index}
use Rattle.std.proofs.lemmas.Bool.{eq-eqb, cases_eq, and_from}
use Rattle.std.proofs.lemmas.List.{get_or-set_other, get_or-set_same, get_or_append_left}
use Rattle.std.proofs.Math.ListN.{length-set}
use Rattle.map_model.specs.Lists.{upd}
use Rattle.lean_proto.specs.image_model.Entries.{Contents}
use Rattle.page_model.specs.Nodes.{Node, Format}
use Rattle.page_model.specs.Page as stored
use Rattle.page_model.specs.Tree.{IsTree}
use Rattle.page_model.specs.Check.{names_page}
use Rattle.lean_proto.specs.btree_node.Words.{words_of}
use Rattle.lean_proto.specs.core_state.Lists.{all_below}
use Rattle.lean_proto.specs.core_state.Openings.{Opening}
use Rattle.lean_proto.specs.core_state.States.{Place, State, nodes_of, is_hot, is_cooling, is_cold, in_frame, frame_of}
use Rattle.lean_proto.specs.core_state.Events as happening
use Rattle.lean_proto.specs.core_state.Needs as core
use Rattle.lean_proto.specs.core_state.Needs.{has_hot_parent, has_hot_child, is_empty_frame, is_inside}
use Rattle.lean_proto.specs.core_state.Steps.{happens}
use Rattle.lean_proto.specs.core_state.Local.{publishes_row}
use Rattle.lean_proto.proofs.core_commit.Events.{names_to}
use Rattle.lean_proto.specs.core_paging.Paging.{Residence}
use Rattle.lean_proto.proofs.core_paging.Places.{own_frame, framed_not_cold}
use Rattle.lean_proto.specs.row_words.declared.event.Event.{Event}
use Rattle.lean_proto.specs.row_words.declared.event.Event.TheVariants as told
use Rattle.lean_proto.specs.row_words.declared.given.Given.{Given}
use Rattle.lean_proto.specs.row_words.Moments.{Moment, event_of, actor_of, pager, is_rising}
use Rattle.lean_proto.specs.row_words.Openings.{opening}
use Rattle.lean_proto.specs.row_words.Sealed.{begun, stepped, Shown, changes}
use Rattle.lean_proto.specs.row_words.Words.{framed, framed_page, is_inner, ShowsPage, has_parent_in, publishes_frame}
use Rattle.lean_proto.proofs.row_words.SealedLemmas.{run_append, calm_tame}
use Rattle.lean_proto.proofs.row_words.Stays as words
use Rattle.lean_proto.specs.rows_trait.declared.view.View.{View}
use Rattle.lean_proto.specs.rows_trait.Layout.{width}
use Rattle.lean_proto.specs.rows_trait.Views.{Shape, Spells, state, after_all, holds, held_at}
use Rattle.lean_proto.specs.rows_trait.Turns.{MayPublish}
use Rattle.lean_proto.specs.Ready.{IsReady}
use Rattle.lean_proto.proofs.Lengths.{words-length}
use Rattle.lean_proto.proofs.Loads.{all_same}
use Rattle.lean_proto.proofs.Moves.{Stays, Around, around, lone, cool_again, rescue_again}
use Rattle.lean_proto.proofs.Steady.{every_ready}
use Rattle.held_rows.specs.Rows.{HoldsOne, Wrote}
use Rattle.page_moves.specs.Moves.{IsPager, IsIn, CanChill, CanRevive, CanFillFree, contents_of}
use Rattle.swips.specs.Hints.{mark}
use Rattle.held_rows.specs.Waits.{was_on, moment_is}
use Rattle.page_moves.proofs.Waiting.{stays_wait, pager_on}
use Rattle.page_moves.proofs.Shown.{page_shown, row_shown, stepped_is}
use Rattle.page_moves.proofs.Alone.{ready}
use Rattle.page_moves.proofs.Links.{row_changes_at}
use Rattle.page_moves.proofs.Loading.{load_rows, fills_row, framed_plain}
use Rattle.page_moves.proofs.Stored.{whole_length}

-- ## No node names it

all_true : (n : ℕ) (P : ℕ → Bool) → ((q : ℕ) → q < n → P q ≡ true) → all_below n P ≡ true
all_true zero P h = refl
all_true (suc n) P h = and_from (P n) (all_below n P) (h n (omega arith)) (all_true n P (λ q l. h q (omega arith)))

unnamed : (f : Format) (node : ℕ → Node) → IsTree f node → (p : ℕ) → (node p).live ≡ false → (q : ℕ) → q < f.pages → names_page (node q) p ≡ false
unnamed f node t p free q lt = words.cases (names_page (node q) p)
    (λ y. let z = names_to (node q) p y in absurd (true≢false (sym (subst (λ j. (node j).live ≡ true) z.2 (t.down q lt z.0 z.1).live) ∙ free)))
    (λ n. n)

and_off : (a b : Bool) → a ≡ false → not (a && b) ≡ true
and_off true b e = absurd (true≢false e)
and_off false b e = refl

no_parent : (g : Opening) (s : State) → IsTree g.format (nodes_of s) → (p : ℕ) → (s.page p).node.live ≡ false → (row : ℕ) → has_parent_in g s row p ≡ false
no_parent g s t p free row = ap not (all_true g.format.pages (λ q. not (names_page (s.page q).node p && in_frame (s.place q) row)) (λ q lt. and_off (names_page (s.page q).node p) (in_frame (s.place q) row) (unnamed g.format (nodes_of s) t p free q lt)))

not_inner : (v : Node) → v.live ≡ false → is_inner v ≡ false
not_inner v e = ap (λ b. b && ltb 0 v.level) e

not_framed : (place : ℕ → Place) (v : Node) → v.live ≡ false → framed place v ≡ v
not_framed place v e = framed_plain place v (λ inner. absurd (true≢false (sym inner ∙ not_inner v e)))

-- ## Behind a change of its place

-- its row shows it with another hint
shows_hint : (v : Given) (m n : Moment) (b p : ℕ) (was : List ℕ) (size : length was ≡ 128) (hint : ℕ) → b < (opening v).frames → p < (opening v).format.pages → Residence (opening v) n.core
    → in_frame (m.core.place p) b ≡ true → in_frame (n.core.place p) b ≡ true → n.core.page p ≡ m.core.page p → n.core.saved p ≡ m.core.saved p → (m.core.page p).node.live ≡ false
    → (is_cooling (n.core.place p) ≡ true → hint ≡ mark) → (is_cooling (n.core.place p) ≡ false → hint ≢ mark)
    → ((i : ℕ) → i < 128 → Shown v m b i (slice_index was i)) → (i : ℕ) → i < 128 → Shown v n b i (slice_index (set was 126 hint) i)
shows_hint v m n b p was size hint lt below r in_m in_n page_is saved_is free marked unmarked old i l = row_shown v n b p i (slice_index (set was 126 hint) i) lt r below in_n (shows (cases_eq i 126))
  where
    page : ShowsPage m.core p i (slice_index was i)
    page = page_shown v m b p i (slice_index was i) lt below in_m (old i l)

    same : (generation : ℕ) → framed_page n.core p generation ≡ framed_page m.core p generation
    same generation =
        let node : framed n.core.place (n.core.page p).node ≡ framed m.core.place (m.core.page p).node = ap (λ y. framed n.core.place y.node) page_is ∙ (not_framed n.core.place (m.core.page p).node free ∙ sym (not_framed m.core.place (m.core.page p).node free)) in
        (λ j. record { number = p; gsn = (page_is j).gsn; generation = generation; last_log = (page_is j).last; node = node j })

    shows : (i ≡ 126) ⊎ (i ≡ 126 → ⊥) → ShowsPage n.core p i (slice_index (set was 126 hint) i)
    shows (inl e) =
        let is : slice_index (set was 126 hint) i ≡ hint = ap (slice_index (set was 126 hint)) e ∙ get_or-set_same was 126 hint 0 (omega arith) in record {
          page = λ c. absurd (omega arith);
          marked = λ c h. is ∙ marked h;
          hint = λ c h w. unmarked h (sym is ∙ w);
          saved = λ c. absurd (omega arith);
        }
    shows (inr ne) =
        let rest = get_or-set_other was 126 i hint 0 ne in record {
          page = λ c. let o = page.page c in (o.0, rest ∙ (o.1 ∙ ap (λ y. slice_index (words_of y) i) (sym (same o.0))));
          marked = λ c. absurd (ne c);
          hint = λ c. absurd (ne c);
          saved = λ c. rest ∙ (page.saved c ∙ ap (λ y. y.gsn) (sym saved_is));
        }

module _ {z : Shape} {v u : View} (b p hint : ℕ) (t : HoldsOne z v b) (on : IsPager z v) (here : IsIn v b p) (free : ((state v).core.page p).node.live ≡ false) (k : Wrote z.alone b (set (held_at v.held b).now 126 hint) v u) where
  abbrev g : Opening
  g = opening v.given

  abbrev s : State
  s = (state u).core

  stays : Stays v (state v).core s
  stays = stays_wait on k.waited

  own : s.page p ≡ (state v).core.page p
  own = stays.page b p t.first.frames t.first.mine here.stands

  standing : in_frame (s.place p) b ≡ true
  standing = stays.places.frame p b ∙ here.stands

  free_u : (s.page p).node.live ≡ false
  free_u = ap (λ y. y.node.live) own ∙ free

  tree_u : IsTree g.format (nodes_of s)
  tree_u = subst (λ (m : Moment). IsTree g.format (nodes_of m.core)) (sym (moment_is k.waited)) (on.order (v.seen ++ k.waited.between)).tree

  around_u : Around g p (state v).core s
  around_u = around g p (state v).core s (on.order v.seen).tree tree_u here.below stays.places own (λ q lt n. absurd (true≢false (sym n ∙ unnamed g.format (nodes_of (state v).core) (on.order v.seen).tree p free q lt)))

  lone_u : (q : ℕ) → ((in_frame (s.place p) q || false) || (false || (has_parent_in g s q p || false))) ≡ lone s p q
  lone_u q = ap (λ y. (in_frame (s.place p) q || false) || (false || (y || false))) (no_parent g s tree_u p free_u q)

  module _ (e : Event) (moves : actor_of e ≡ pager) (calm : is_rising e ≡ false) (none : (j : ℕ) → publishes_row (event_of e) j ≡ false) (is : (q : ℕ) → publishes_frame g s (event_of e) q ≡ lone s p q) (met : core.may g s (event_of e) ≡ true) (x : Place)
      (place_is : (stepped v.given (state u) e).core.place ≡ upd s.place p x) (page_is : (stepped v.given (state u) e).core.page ≡ s.page) (saved_is : (stepped v.given (state u) e).core.saved ≡ s.saved)
      (same : in_frame x b ≡ in_frame (s.place p) b) (marked : is_cooling x ≡ true → hint ≡ mark) (unmarked : is_cooling x ≡ false → hint ≢ mark) where
    at_p : (stepped v.given (state u) e).core.place p ≡ x
    at_p = ap (λ f. f p) place_is ∙ words.here s.place p x p (eq-eqb p p refl)

    residence : Residence g (stepped v.given (state u) e).core
    residence =
        let y : stepped v.given (state u) e ≡ after_all v.given ((v.seen ++ k.waited.between) ++ e ∷ []) = ap (λ m. stepped v.given m e) (moment_is k.waited) ∙ sym (run_append v.given (begun v.given) (v.seen ++ k.waited.between) (e ∷ [])) in
        subst (λ (m : Moment). Residence g m.core) (sym y) (on.order ((v.seen ++ k.waited.between) ++ e ∷ [])).places

    pub hint_ready : IsReady z u b e
    hint_ready = ready b p e (set (held_at v.held b).now 126 hint) t on here k moves calm is none met
        (λ i l. subst (λ ws. Shown v.given (stepped v.given (state u) e) b i (slice_index (set ws 126 hint) i)) (sym t.first.same)
        (shows_hint v.given (state u) (stepped v.given (state u) e) b p (held_at v.held b).was t.first.size hint t.first.frames here.below residence standing
        (ap (λ y. in_frame y b) at_p ∙ (same ∙ standing)) (ap (λ f. f p) page_is) (ap (λ f. f p) saved_is) free_u (λ h. marked (ap is_cooling (sym at_p) ∙ h)) (λ h. unmarked (ap is_cooling (sym at_p) ∙ h)) (was_on k.waited t.first) i l))

module _ {z : Shape} {v u : View} (b p hint : ℕ) (t : HoldsOne z v b) (c : CanChill z v b p) (hint_is : hint ≡ mark) (k : Wrote z.alone b (set (held_at v.held b).now 126 hint) v u) where
  abbrev s1 : State
  s1 = (state u).core

  met1 : core.may (opening v.given) s1 (happening.Event.Cool p) ≡ true
  met1 = cool_again (opening v.given) p (state v).core s1 (stays b p hint t c.on c.here c.free k).places (own b p hint t c.on c.here c.free k) ∙ c.met

  after1 : (stepped v.given (state u) (told.Cool p)).core ≡ happens (opening v.given) s1 (happening.Event.Cool p)
  after1 = stepped_is v.given (state u) (told.Cool p) met1

  pub chill_may : MayPublish z b (told.Cool p) u
  chill_may = every_ready z u b (told.Cool p) refl (hint_ready b p hint t c.on c.here c.free k (told.Cool p) refl refl (λ j. refl) (lone_u b p hint t c.on c.here c.free k) met1
      (Place.Cooling (frame_of (s1.place p)) s1.epoch (λ w. is_inside (s1.inside w))) (ap (λ y. y.place) after1) (ap (λ y. y.page) after1) (ap (λ y. y.saved) after1)
      (own_frame (s1.place p) b (framed_not_cold (s1.place p) b (standing b p hint t c.on c.here c.free k))) (λ _. hint_is) (λ h. absurd (true≢false h)))

module _ {z : Shape} {v u : View} (b p hint : ℕ) (t : HoldsOne z v b) (c : CanRevive z v b p) (hint_is : hint ≢ mark) (k : Wrote z.alone b (set (held_at v.held b).now 126 hint) v u) where
  abbrev s2 : State
  s2 = (state u).core

  met2 : core.may (opening v.given) s2 (happening.Event.Rescue p) ≡ true
  met2 = rescue_again (opening v.given) p (state v).core s2 (around_u b p hint t c.on c.here c.free k) ∙ c.met

  after2 : (stepped v.given (state u) (told.Rescue p)).core ≡ happens (opening v.given) s2 (happening.Event.Rescue p)
  after2 = stepped_is v.given (state u) (told.Rescue p) met2

  pub revive_may : MayPublish z b (told.Rescue p) u
  revive_may = every_ready z u b (told.Rescue p) refl (hint_ready b p hint t c.on c.here c.free k (told.Rescue p) refl refl (λ j. refl) (lone_u b p hint t c.on c.here c.free k) met2
      (Place.Hot (frame_of (s2.place p))) (ap (λ y. y.place) after2) (ap (λ y. y.page) after2) (ap (λ y. y.saved) after2)
      (own_frame (s2.place p) b (framed_not_cold (s2.place p) b (standing b p hint t c.on c.here c.free k))) (λ h. absurd (true≢false (sym h))) (λ _. hint_is))

-- ## A load

module _ {z : Shape} {v u : View} (b p hint : ℕ) (n : stored.Page) (t : HoldsOne z v b) (c : CanFillFree z v b p n) (hint_is : hint ≢ mark)
    (k : Wrote z.alone b (set (set (words_of n ++ drop 126 (held_at v.held b).now) 126 hint) 127 n.gsn) v u) where
  abbrev o : Opening
  o = opening v.given

  abbrev s3 : State
  s3 = (state u).core

  abbrev ev : Event
  ev = told.Load p b

  abbrev own_words : List ℕ
  own_words = set (set (words_of n ++ drop 126 (held_at v.held b).now) 126 hint) 127 n.gsn

  cold : is_cold ((state v).core.place p) ≡ true
  cold =
      let s = (state v).core in
      let x = words.and_true (ltb p o.format.pages) (ltb b o.frames && (is_cold (s.place p) && (has_hot_parent o s p && is_empty_frame o s b))) c.met in
      let y = words.and_true (ltb b o.frames) (is_cold (s.place p) && (has_hot_parent o s p && is_empty_frame o s b)) x.1 in
      (words.and_true (is_cold (s.place p)) (has_hot_parent o s p && is_empty_frame o s b) y.1).0

  stays3 : Stays v (state v).core s3
  stays3 = stays_wait c.on k.waited

  places3 : Residence o s3
  places3 = subst (λ (m : Moment). Residence o m.core) (sym (moment_is k.waited)) (c.on.order (v.seen ++ k.waited.between)).places

  tree3 : IsTree o.format (nodes_of s3)
  tree3 = subst (λ (m : Moment). IsTree o.format (nodes_of m.core)) (sym (moment_is k.waited)) (c.on.order (v.seen ++ k.waited.between)).tree

  cold3 : is_cold (s3.place p) ≡ true
  cold3 = stays3.places.cold p ∙ cold

  here3 : s3.page p ≡ contents_of n
  here3 = places3.cold p cold3 ∙ (stays3.places.saved p ∙ sym c.contents)

  free3 : (s3.page p).node.live ≡ false
  free3 = ap (λ y. y.node.live) here3 ∙ c.free

  own3 : s3.page p ≡ (state v).core.page p
  own3 = places3.cold p cold3 ∙ (stays3.places.saved p ∙ sym ((c.on.order v.seen).places.cold p cold))

  free_v : ((state v).core.page p).node.live ≡ false
  free_v = ap (λ y. y.node.live) (sym own3) ∙ free3

  around3 : Around o p (state v).core s3
  around3 = around o p (state v).core s3 (c.on.order v.seen).tree tree3 c.below stays3.places own3 (λ q lt m. absurd (true≢false (sym m ∙ unnamed o.format (nodes_of (state v).core) (c.on.order v.seen).tree p free_v q lt)))

  met3 : core.may o s3 (event_of ev) ≡ true
  met3 =
      let s = (state v).core in
      let cool = stays3.places.cold p in
      let parents : has_hot_parent o s3 p ≡ has_hot_parent o s p = all_same o.format.pages (λ j. not (names_page (s3.page j).node p) || is_hot (s3.place j)) (λ j. not (names_page (s.page j).node p) || is_hot (s.place j))
      (λ j lt. let x = around3.named j lt in let y = stays3.places.hot j in (λ i. not (x i) || y i)) in
      let empty : is_empty_frame o s3 b ≡ is_empty_frame o s b = all_same o.format.pages (λ j. not (in_frame (s3.place j) b)) (λ j. not (in_frame (s.place j) b)) (λ j lt. ap not (stays3.places.frame j b)) in
      (λ i. ltb p o.format.pages && (ltb b o.frames && (cool i && (parents i && empty i)))) ∙ c.met

  abbrev m3 : Moment
  m3 = stepped v.given (state u) ev

  after3 : m3.core ≡ happens o s3 (event_of ev)
  after3 = stepped_is v.given (state u) ev met3

  place3 : m3.core.place p ≡ Place.Hot b
  place3 = ap (λ y. y.place p) after3 ∙ words.here s3.place p (Place.Hot b) p (eq-eqb p p refl)

  page3 : m3.core.page p ≡ contents_of n
  page3 = ap (λ y. y.page p) after3 ∙ (words.here s3.page p (s3.saved p) p (eq-eqb p p refl) ∙ (stays3.places.saved p ∙ sym c.contents))

  saved3 : (m3.core.saved p).gsn ≡ n.gsn
  saved3 = ap (λ y. (y.saved p).gsn) after3 ∙ (ap (λ y. y.gsn) (stays3.places.saved p) ∙ ap (λ y. y.gsn) (sym c.contents))

  residence3 : Residence o m3.core
  residence3 =
      let e : m3 ≡ after_all v.given ((v.seen ++ k.waited.between) ++ ev ∷ []) = ap (λ m. stepped v.given m ev) (moment_is k.waited) ∙ sym (run_append v.given (begun v.given) (v.seen ++ k.waited.between) (ev ∷ [])) in
      subst (λ (m : Moment). Residence o m.core) (sym e) (c.on.order ((v.seen ++ k.waited.between) ++ ev ∷ [])).places

  shown3 : framed_page m3.core p n.generation ≡ n
  shown3 =
      let node : framed m3.core.place (m3.core.page p).node ≡ n.node = ap (λ y. framed m3.core.place y.node) page3 ∙ not_framed m3.core.place n.node c.free in
      (λ i. record { number = sym c.number_is i; gsn = (page3 i).gsn; generation = n.generation; last_log = (page3 i).last; node = node i })

  long3 : length (words_of n) ≡ 126
  long3 = words-length n (let e = ap (λ (y : Contents). length y.node.pairs) here3 in let f = ap (λ (y : Node). length y.pairs) ((tree3.formed p c.below).other free3) in omega arith)

  whole3 : length (words_of n ++ drop 126 (held_at v.held b).now) ≡ 128
  whole3 = whole_length (words_of n) (held_at v.held b).now 126 long3 (let e = ap length t.first.same in let l = t.first.size in omega arith) ∙ (ap length t.first.same ∙ t.first.size)

  shows3 : (i : ℕ) → i < 128 → Shown v.given m3 b i (slice_index own_words i)
  shows3 i l = row_shown v.given m3 b p i (slice_index own_words i) t.first.frames residence3 c.below (ap (λ y. in_frame y b) place3 ∙ eq-eqb b b refl) (shows (cases_eq i 127) (cases_eq i 126))
    where
      shows : (i ≡ 127) ⊎ (i ≡ 127 → ⊥) → (i ≡ 126) ⊎ (i ≡ 126 → ⊥) → ShowsPage m3.core p i (slice_index own_words i)
      shows (inl e) _ = record {
        page = λ d. absurd (omega arith);
        marked = λ d _. absurd (omega arith);
        hint = λ d _. absurd (omega arith);
        saved = λ _. ap (slice_index own_words) e ∙ (get_or-set_same (set (words_of n ++ drop 126 (held_at v.held b).now) 126 hint) 127 n.gsn 0 (let x = length-set (words_of n ++ drop 126 (held_at v.held b).now) 126 hint in let y = whole3 in omega arith) ∙ sym saved3);
      }
      shows (inr ne) (inl e) =
          let is : slice_index own_words i ≡ hint = get_or-set_other (set (words_of n ++ drop 126 (held_at v.held b).now) 126 hint) 127 i n.gsn 0 ne ∙ (ap (slice_index (set (words_of n ++ drop 126 (held_at v.held b).now) 126 hint)) e ∙ get_or-set_same (words_of n ++ drop 126 (held_at v.held b).now) 126 hint 0 (let y = whole3 in omega arith)) in record {
            page = λ d. absurd (omega arith);
            marked = λ d cool. absurd (true≢false (sym cool ∙ ap is_cooling place3));
            hint = λ d cool w. hint_is (sym is ∙ w);
            saved = λ d. absurd (omega arith);
          }
      shows (inr ne) (inr away) = record {
        page = λ d. (n.generation, get_or-set_other (set (words_of n ++ drop 126 (held_at v.held b).now) 126 hint) 127 i n.gsn 0 ne ∙ (get_or-set_other (words_of n ++ drop 126 (held_at v.held b).now) 126 i hint 0 away ∙ (get_or_append_left (words_of n) (drop 126 (held_at v.held b).now) 0 i (let y = long3 in omega arith) ∙ sym (ap (λ y. slice_index (words_of y) i) shown3))));
        marked = λ d _. absurd (away d);
        hint = λ d _. absurd (away d);
        saved = λ d. absurd (ne d);
      }

  ready3 : IsReady z u b ev
  ready3 = record {
    actor = (pager_on c.on k.waited).actor;
    order = (pager_on c.on k.waited).order;
    met = subst (λ (y : Given). core.may (opening y) s3 (event_of ev) ≡ true) (sym k.waited.ran.given) met3;
    tame = calm_tame (state u) ev refl;
    leaves = record {
      here = subst (λ (y : Given). changes y (state u) ev b ≡ true) (sym k.waited.ran.given) (row_changes_at v.given (state u) ev b t.first.frames (ap (λ y. (in_frame (s3.place p) b || false) || (y || (has_parent_in o s3 b p || false))) (eq-eqb b b refl) ∙ fills_row (in_frame (s3.place p) b) (has_parent_in o s3 b p || false)));
      rows = λ r h. elim (load_rows v.given (state u) p b r cold3 (subst (λ (y : Given). changes y (state u) ev r ≡ true) k.waited.ran.given h)) [
        | inl x ↦ subst (λ j. (holds u.held j ≡ true) × Spells u.given (stepped u.given (state u) ev) (width z.sizes j) j (held_at u.held j).now) (sym x) (
          k.waited.rows b ∙ t.first.mine,
          λ i lt. let small : i < 128 = (let w = t.first.wide in omega arith) in
              subst (λ (y : Given × List ℕ). Shown y.0 (stepped y.0 (state u) ev) b i (slice_index y.1 i)) (λ j. (sym k.waited.ran.given j, sym k.now j)) (shows3 i small),
        )
        | inr y ↦ absurd (true≢false (sym y ∙ no_parent o s3 tree3 p free3 r))
      ];
    };
  }

  pub fill_free_may : MayPublish z b ev u
  fill_free_may = every_ready z u b ev refl ready3
