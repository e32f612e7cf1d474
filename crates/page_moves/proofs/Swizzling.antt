-- What the pager has stored in two held rows it may publish.
use Rattle.std.proofs.Common.{◌≡◌, ◌≢◌, ◌==◌, ◌<◌, ◌≤◌, ◌+◌, ◌*◌, ◌^◌, ℕ, true, false, List, [], ◌∷◌, ◌++◌, inl, inr, length, set, refl, sym, ap, subst, ◌∙◌, arith, true≢false}
use Rattle.std.specs.Prelude.{slice_index}
use Rattle.std.proofs.lemmas.Bool.{ne_eqb}
use Rattle.map_model.specs.Lists.{upd}
use Rattle.page_model.specs.Page.{word_at}
use Rattle.page_model.specs.Tree.{IsTree}
use Rattle.lean_proto.specs.core_state.Openings.{Opening}
use Rattle.lean_proto.specs.core_state.States.{Place, State, nodes_of, is_cooling, in_frame, frame_of}
use Rattle.lean_proto.specs.core_state.Events as happening
use Rattle.lean_proto.specs.core_state.Needs as core
use Rattle.lean_proto.specs.core_state.Needs.{is_inside, has_hot_child, has_hot_parent}
use Rattle.lean_proto.specs.core_state.Local.{publishes_row}
use Rattle.lean_proto.specs.core_paging.Paging.{Residence}
use Rattle.lean_proto.proofs.core_paging.Places.{framed, framed_not_cold, own_frame}
use Rattle.lean_proto.specs.row_words.declared.event.Event.{Event}
use Rattle.lean_proto.specs.row_words.declared.event.Event.TheVariants as told
use Rattle.lean_proto.specs.row_words.declared.given.Given.{Given}
use Rattle.lean_proto.specs.row_words.Moments.{Moment, event_of, actor_of, pager, is_rising}
use Rattle.lean_proto.specs.row_words.Openings.{opening}
use Rattle.lean_proto.specs.row_words.Sealed.{begun, stepped, Shown, changes}
use Rattle.lean_proto.specs.row_words.Words.{swip, is_inner}
use Rattle.lean_proto.proofs.row_words.Frames.{hot_place}
use Rattle.lean_proto.proofs.row_words.SealedLemmas.{run_append, calm_tame}
use Rattle.lean_proto.specs.rows_trait.declared.view.View.{View}
use Rattle.lean_proto.specs.rows_trait.Layout.{width}
use Rattle.lean_proto.specs.rows_trait.Views.{Shape, Spells, state, after_all, holds, held_at, may}
use Rattle.lean_proto.specs.rows_trait.Turns.{MayPublish}
use Rattle.lean_proto.specs.Ready.{IsReady, is_steady}
use Rattle.lean_proto.proofs.Moves.{Stays, Around, around, cool_again, rescue_again}
use Rattle.lean_proto.proofs.Steady.{every_ready}
use Rattle.held_rows.specs.Rows.{Waited, HoldsTwo, Wrote, OpensTwo}
use Rattle.held_rows.specs.Publishing.{IsChanged}
use Rattle.page_moves.specs.Moves.{IsPager, IsIn, HasLink, CanUnlink, CanRelink}
use Rattle.swips.specs.Hints.{mark}
use Rattle.held_rows.specs.Waits.{was_on, moment_is, waited_then, waited_apart, opens_two}
use Rattle.page_moves.proofs.Waiting.{stays_wait, pager_on}
use Rattle.page_moves.proofs.Shown.{stepped_is}
use Rattle.page_moves.proofs.Links.{IsLinking, Linked, one_frame, sole, row_of, changes_a, changes_b, shows_node, shows_self}

-- ## What stands between the two rows

module _ {z : Shape} {v : View} {a b at p : ℕ} (t : HoldsTwo z v a b) (on : IsPager z v) (l : HasLink v a at p) (here : IsIn v b p) where
  abbrev g : Opening
  g = opening v.given

  abbrev q : ℕ
  q = l.parent

  -- they are two
  differ : (p == q) ≡ false
  differ = ne_eqb p q (λ e. t.apart (one_frame ((state v).core.place q) a b (hot_place ((state v).core.place q) a l.hot) (subst (λ j. in_frame ((state v).core.place j) b ≡ true) e here.stands)))

  module _ {w : View} (k : Waited z.alone v w) where
    pub stays : Stays v (state v).core (state w).core
    stays = stays_wait on k

    pub node_same : (state w).core.page q ≡ (state v).core.page q
    node_same = stays.page a q t.first.frames t.first.mine (hot_place ((state v).core.place q) a l.hot)

    pub own_same : (state w).core.page p ≡ (state v).core.page p
    own_same = stays.page b p t.second.frames t.second.mine here.stands

    abbrev order : (es : List Event) → Residence g (after_all v.given es).core
    order = λ es. (on.order es).places

    pub linked : Linked v.given (state w) a at p q
    linked = record {
      tree = subst (λ (m : Moment). IsTree g.format (nodes_of m.core)) (sym (moment_is k)) (on.order (v.seen ++ k.between)).tree;
      places = subst (λ (m : Moment). Residence g m.core) (sym (moment_is k)) (on.order (v.seen ++ k.between)).places;
      below_q = l.below;
      below_p = here.below;
      in_a = stays.places.frame q a ∙ hot_place ((state v).core.place q) a l.hot;
      inner = ap (λ c. is_inner c.node) node_same ∙ l.inner;
      short = subst (λ c. at < length c.node.pairs) (sym node_same) l.short;
      names = ap (λ c. word_at at c.node.pairs) node_same ∙ l.names;
      other = differ;
    }

    pub in_b : in_frame ((state w).core.place p) b ≡ true
    in_b = stays.places.frame p b ∙ here.stands

    -- the same pages name p
    pub around_p : Around g p (state v).core (state w).core
    around_p = around g p (state v).core (state w).core (on.order v.seen).tree linked.tree here.below stays.places own_same
        (λ o lt n. subst (λ j. (state w).core.page j ≡ (state v).core.page j) (sym (sole v.given (state v) a at p q first o lt n)) node_same)
      where
        first : Linked v.given (state v) a at p q
        first = record {
          tree = (on.order v.seen).tree;
          places = (on.order v.seen).places;
          below_q = l.below;
          below_p = here.below;
          in_a = hot_place ((state v).core.place q) a l.hot;
          inner = l.inner;
          short = l.short;
          names = l.names;
          other = differ;
        }

  -- ## Both rows are stored

  module _ {u1 u2 : View} (word hint : ℕ) (w1 : Wrote z.alone a (set (held_at v.held a).now (7 + 2 * at) word) v u1) (w2 : Wrote z.alone b (set (held_at u1.held b).now 126 hint) u1 u2) where
    pub both : Waited z.alone v u2
    both = waited_then w1.waited w2.waited

    node_now : (held_at u2.held a).now ≡ set (held_at v.held a).was (7 + 2 * at) word
    node_now = ap (λ h. h.now) (w2.others a (λ e. t.apart (sym e))) ∙ (w1.now ∙ ap (λ ws. set ws (7 + 2 * at) word) t.first.same)

    self_now : (held_at u2.held b).now ≡ set (held_at v.held b).was 126 hint
    self_now = w2.now ∙ ap (λ ws. set ws 126 hint) (ap (λ h. h.now) (w1.others b t.apart) ∙ t.second.same)

    room : length ((state u2).core.page q).node.pairs ≤ 60
    room = (((linked both).tree.formed q l.below).node (Rattle.page_moves.proofs.Words.is_inner_to ((state u2).core.page q).node (linked both).inner).0).sized

    -- Who knows the event's need behind the stores, and where the page stands then, may publish it.
    module _ (e : Event) (steady : is_steady e ≡ true) (moves : actor_of e ≡ pager) (calm : is_rising e ≡ false) (is : IsLinking g e p) (none : (j : ℕ) → publishes_row (event_of e) j ≡ false) (x : Place)
        (met : core.may g (state u2).core (event_of e) ≡ true)
        (place_is : (stepped v.given (state u2) e).core.place ≡ upd (state u2).core.place p x) (page_is : (stepped v.given (state u2) e).core.page ≡ (state u2).core.page) (saved_is : (stepped v.given (state u2) e).core.saved ≡ (state u2).core.saved)
        (same : (i : ℕ) → in_frame x i ≡ in_frame ((state u2).core.place p) i) (word_is : word ≡ swip x p) (marked : is_cooling x ≡ true → hint ≡ mark) (unmarked : is_cooling x ≡ false → hint ≢ mark) where
      residence : Residence g (stepped v.given (state u2) e).core
      residence =
          let s : stepped v.given (state u2) e ≡ after_all v.given ((v.seen ++ both.between) ++ e ∷ []) = ap (λ m. stepped v.given m e) (moment_is both) ∙ sym (run_append v.given (begun v.given) (v.seen ++ both.between) (e ∷ [])) in
          subst (λ (m : Moment). Residence g m.core) (sym s) (on.order ((v.seen ++ both.between) ++ e ∷ [])).places

      shows_a : (i : ℕ) → i < 128 → Shown v.given (stepped v.given (state u2) e) a i (slice_index (set (held_at v.held a).was (7 + 2 * at) word) i)
      shows_a i lt = subst (λ k. Shown v.given (stepped v.given (state u2) e) a i (slice_index (set (held_at v.held a).was (7 + 2 * at) k) i)) (sym word_is)
          (shows_node v.given (state u2) a at p q (linked both) x (stepped v.given (state u2) e) place_is (λ c j. page_is j c) saved_is residence (held_at v.held a).was t.first.size t.first.frames room (was_on both t.first) i lt)

      shows_b : (i : ℕ) → i < 128 → Shown v.given (stepped v.given (state u2) e) b i (slice_index (set (held_at v.held b).was 126 hint) i)
      shows_b i lt = shows_self v.given (state u2) a at p q (linked both) x (stepped v.given (state u2) e) place_is (λ c j. page_is j c) saved_is residence (held_at v.held b).was t.second.size b hint (in_b both) same t.second.frames marked unmarked (was_on both t.second) i lt

      ready : IsReady z u2 a e
      ready = record {
        actor = subst (λ y. may z.alone u2 y ≡ true) (sym moves) (pager_on on both).actor;
        order = (pager_on on both).order;
        met = subst (λ (y : Given). core.may (opening y) (state u2).core (event_of e) ≡ true) (sym both.ran.given) met;
        tame = calm_tame (state u2) e calm;
        leaves = record {
          here = subst (λ (y : Given). changes y (state u2) e a ≡ true) (sym both.ran.given) (changes_a v.given (state u2) a at p q (linked both) e is t.first.frames);
          rows = λ r h. elim (row_of v.given (state u2) a at p q (linked both) b (in_b both) e is none r (subst (λ (y : Given). changes y (state u2) e r ≡ true) both.ran.given h)) [
            | inl x1 ↦ subst (λ o. (holds u2.held o ≡ true) × Spells u2.given (stepped u2.given (state u2) e) (width z.sizes o) o (held_at u2.held o).now) (sym x1) (
              both.rows a ∙ t.first.mine,
              λ i lt. let small : i < 128 = (let w = t.first.wide in omega arith) in
                  subst (λ (y : Given × List ℕ). Shown y.0 (stepped y.0 (state u2) e) a i (slice_index y.1 i)) (λ j. (sym both.ran.given j, sym node_now j)) (shows_a i small),
            )
            | inr x2 ↦ subst (λ o. (holds u2.held o ≡ true) × Spells u2.given (stepped u2.given (state u2) e) (width z.sizes o) o (held_at u2.held o).now) (sym x2) (
              both.rows b ∙ t.second.mine,
              λ i lt. let small : i < 128 = (let w = t.second.wide in omega arith) in
                  subst (λ (y : Given × List ℕ). Shown y.0 (stepped y.0 (state u2) e) b i (slice_index y.1 i)) (λ j. (sym both.ran.given j, sym self_now j)) (shows_b i small),
            )
          ];
        };
      }

      pub link_may : MayPublish z a e u2
      link_may = every_ready z u2 a e steady ready

    -- it changes the row of the page too, whatever others did before the publish
    pub changes_own : (e : Event) → IsLinking g e p → (w : View) → (k : Waited z.alone v w) → w.given ≡ v.given → changes w.given (state w) e b ≡ true
    changes_own e is w k given = subst (λ (y : Given). changes y (state w) e b ≡ true) (sym given) (changes_b v.given (state w) a at p q (linked k) b (in_b k) e is t.second.frames)

    -- both rows are open still
    pub both_open : OpensTwo z u2 a b
    both_open = opens_two both.rows t (ap (λ h. h.done) (w2.others a (λ e. t.apart (sym e))) ∙ w1.done) (w2.done ∙ ap (λ h. h.done) (w1.others b t.apart))

    pub own_changed : (e : Event) → IsLinking g e p → IsChanged z u2 e b
    own_changed e is between quiet apart = changes_own e is (record u2 { seen = u2.seen ++ between }) (waited_then both (waited_apart z u2 between quiet apart)) both.ran.given

-- ## Cooling

module _ {z : Shape} {v u1 u2 : View} {a b at p : ℕ} (t : HoldsTwo z v a b) (c : CanUnlink z v a b at p) (hint : ℕ) (hint_is : hint ≡ mark) (w1 : Wrote z.alone a (set (held_at v.held a).now (7 + 2 * at) p) v u1) (w2 : Wrote z.alone b (set (held_at u1.held b).now 126 hint) u1 u2) where
  abbrev k1 : Waited z.alone v u2
  k1 = both t c.on c.link c.here p hint w1 w2

  abbrev s1 : State
  s1 = (state u2).core

  met1 : core.may (opening v.given) s1 (happening.Event.Cool p) ≡ true
  met1 = cool_again (opening v.given) p (state v).core s1 (stays t c.on c.link c.here k1).places (own_same t c.on c.link c.here k1) ∙ c.met

  abbrev x1 : Place
  x1 = Place.Cooling (frame_of (s1.place p)) s1.epoch (λ w. is_inside (s1.inside w))

  after1 : (stepped v.given (state u2) (told.Cool p)).core ≡ Rattle.lean_proto.specs.core_state.Steps.happens (opening v.given) s1 (happening.Event.Cool p)
  after1 = stepped_is v.given (state u2) (told.Cool p) met1

  pub unlink_may : MayPublish z a (told.Cool p) u2
  unlink_may = link_may t c.on c.link c.here p hint w1 w2 (told.Cool p) refl refl refl (λ s r. refl) (λ j. refl) x1 met1
      (ap (λ s. s.place) after1) (ap (λ s. s.page) after1) (ap (λ s. s.saved) after1)
      (λ i. own_frame (s1.place p) i (framed_not_cold (s1.place p) b (in_b t c.on c.link c.here k1))) refl (λ _. hint_is) (λ h. absurd (true≢false h))

-- ## Rescues

module _ {z : Shape} {v u1 u2 : View} {a b at p : ℕ} (t : HoldsTwo z v a b) (c : CanRelink z v a b at p) (hint : ℕ) (hint_is : hint ≢ mark) (w1 : Wrote z.alone a (set (held_at v.held a).now (7 + 2 * at) (2 ^ 63 + b)) v u1) (w2 : Wrote z.alone b (set (held_at u1.held b).now 126 hint) u1 u2) where
  abbrev k2 : Waited z.alone v u2
  k2 = both t c.on c.link c.here (2 ^ 63 + b) hint w1 w2

  abbrev s2 : State
  s2 = (state u2).core

  met2 : core.may (opening v.given) s2 (happening.Event.Rescue p) ≡ true
  met2 = rescue_again (opening v.given) p (state v).core s2 (around_p t c.on c.link c.here k2) ∙ c.met

  abbrev x2 : Place
  x2 = Place.Hot (frame_of (s2.place p))

  after2 : (stepped v.given (state u2) (told.Rescue p)).core ≡ Rattle.lean_proto.specs.core_state.Steps.happens (opening v.given) s2 (happening.Event.Rescue p)
  after2 = stepped_is v.given (state u2) (told.Rescue p) met2

  pub relink_may : MayPublish z a (told.Rescue p) u2
  relink_may =
      let there = in_b t c.on c.link c.here k2 in
      link_may t c.on c.link c.here (2 ^ 63 + b) hint w1 w2 (told.Rescue p) refl refl refl (λ s r. refl) (λ j. refl) x2 met2
      (ap (λ s. s.place) after2) (ap (λ s. s.page) after2) (ap (λ s. s.saved) after2)
      (λ i. own_frame (s2.place p) i (framed_not_cold (s2.place p) b there)) (ap (λ f. 2 ^ 63 + f) (sym (framed (s2.place p) b there))) (λ h. absurd (true≢false (sym h))) (λ _. hint_is)
