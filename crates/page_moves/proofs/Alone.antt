-- A page is noted as saved, or evicted, in its row.
use Rattle.std.proofs.Common.{◌≡◌, ◌≢◌, ◌==◌, ◌||◌, ◌&&◌, not, leb, ltb, ◌<◌, ℕ, suc, Bool, true, false, List, [], ◌∷◌, ◌++◌, length, set, refl, sym, ap, subst, ◌∙◌, arith, true≢false}
use Rattle.std.specs.Prelude.{slice_index}
use Rattle.std.proofs.lemmas.Bool.{eqb-true, eq-eqb, cases_eq}
use Rattle.std.proofs.lemmas.List.{get_or-set_other, get_or-set_same}
use Rattle.std.proofs.Common.{inl, inr}
use Rattle.map_model.specs.Lists.{upd}
use Rattle.lean_proto.specs.core_state.Lists.{all_below}
use Rattle.lean_proto.specs.core_state.Openings.{Opening}
use Rattle.lean_proto.specs.core_state.States.{Place, State, is_cooling, in_frame, waits_for}
use Rattle.lean_proto.specs.core_state.Events as happening
use Rattle.lean_proto.specs.core_state.Needs as core
use Rattle.lean_proto.specs.core_state.Needs.{is_dirty}
use Rattle.lean_proto.specs.core_state.Steps.{happens}
use Rattle.lean_proto.specs.core_paging.Paging.{Residence}
use Rattle.lean_proto.specs.row_words.declared.event.Event.{Event}
use Rattle.lean_proto.specs.row_words.declared.event.Event.TheVariants as told
use Rattle.lean_proto.specs.row_words.declared.given.Given.{Given}
use Rattle.lean_proto.specs.row_words.Moments.{Moment, event_of, actor_of, pager, is_rising}
use Rattle.lean_proto.specs.row_words.Openings.{opening}
use Rattle.lean_proto.specs.row_words.Sealed.{stepped, Shown, changes}
use Rattle.lean_proto.specs.row_words.Words.{ShowsPage, publishes_frame}
use Rattle.lean_proto.proofs.row_words.Stays as words
use Rattle.lean_proto.proofs.row_words.SealedLemmas.{run_append, calm_tame}
use Rattle.lean_proto.specs.rows_trait.declared.view.View.{View}
use Rattle.lean_proto.specs.rows_trait.Layout.{width}
use Rattle.lean_proto.specs.rows_trait.Views.{Shape, Spells, state, after_all, holds, held_at, may}
use Rattle.lean_proto.specs.rows_trait.Turns.{MayPublish}
use Rattle.lean_proto.specs.Ready.{IsReady}
use Rattle.lean_proto.proofs.Moves.{Stays, save_again, row_changes, lone, first_of}
use Rattle.lean_proto.proofs.Steady.{every_ready}
use Rattle.held_rows.specs.Rows.{HoldsOne, Wrote}
use Rattle.page_moves.specs.Moves.{IsPager, IsIn, CanSave, CanEvict}
use Rattle.held_rows.specs.Waits.{was_on, moment_is, wrote_none}
use Rattle.page_moves.proofs.Waiting.{stays_wait, pager_on}
use Rattle.page_moves.proofs.Shown.{page_shown, row_shown, empty_shown, stepped_is}

-- the rows that an event changes which changes that of its page alone
row_is : (s : State) (p q : ℕ) → lone s p q ≡ true → in_frame (s.place p) q ≡ true
row_is s p q h = go (in_frame (s.place p) q) h
  where
    go : (b : Bool) → ((b || false) || (false || false)) ≡ true → b ≡ true
    go true x = refl
    go false x = x

frame_changes : (v : Given) (m : Moment) (e : Event) (p q : ℕ) → ((r : ℕ) → publishes_frame (opening v) m.core (event_of e) r ≡ lone m.core p r) → ((j : ℕ) → Rattle.lean_proto.specs.core_state.Local.publishes_row (event_of e) j ≡ false) → changes v m e q ≡ true → in_frame (m.core.place p) q ≡ true
unfolding changes
frame_changes v m e p q is none h = go (ltb q (opening v).frames) refl
  where
    go : (b : Bool) → ltb q (opening v).frames ≡ b → in_frame (m.core.place p) q ≡ true
    go true t = row_is m.core p q (sym (is q) ∙ (sym (Rattle.std.proofs.lemmas.Bool.cond-true (ltb q (opening v).frames) (publishes_frame (opening v) m.core (event_of e) q) (Rattle.lean_proto.specs.core_state.Local.publishes_row (event_of e) (Rattle.std.proofs.Common.◌-◌ q (opening v).frames)) t) ∙ h))
    go false t = absurd (true≢false (sym h ∙ (Rattle.std.proofs.lemmas.Bool.cond-false (ltb q (opening v).frames) (publishes_frame (opening v) m.core (event_of e) q) (Rattle.lean_proto.specs.core_state.Local.publishes_row (event_of e) (Rattle.std.proofs.Common.◌-◌ q (opening v).frames)) t ∙ none (Rattle.std.proofs.Common.◌-◌ q (opening v).frames))))

-- What is to be shown of an event of one row: its need at the later view, and the words of the row behind it.
module _ {z : Shape} {v u : View} (row p : ℕ) (e : Event) (ws : List ℕ) (t : HoldsOne z v row) (on : IsPager z v) (here : IsIn v row p) (k : Wrote z.alone row ws v u)
    (moves : actor_of e ≡ pager) (calm : is_rising e ≡ false) (is : (q : ℕ) → publishes_frame (opening v.given) (state u).core (event_of e) q ≡ lone (state u).core p q) (none : (j : ℕ) → Rattle.lean_proto.specs.core_state.Local.publishes_row (event_of e) j ≡ false) where
  abbrev g : Opening
  g = opening v.given

  pub at_u : Stays v (state v).core (state u).core
  at_u = stays_wait on k.waited

  pub own : (state u).core.page p ≡ (state v).core.page p
  own = at_u.page row p t.first.frames t.first.mine here.stands

  pub standing : in_frame ((state u).core.place p) row ≡ true
  standing = at_u.places.frame p row ∙ here.stands

  pub order_u : Residence g (state u).core
  order_u = subst (λ (m : Moment). Residence g m.core) (sym (moment_is k.waited)) (on.order (v.seen ++ k.waited.between)).places

  pub ready : core.may g (state u).core (event_of e) ≡ true
      → ((i : ℕ) → i < 128 → Shown v.given (stepped v.given (state u) e) row i (slice_index ws i))
      → IsReady z u row e
  ready met shows = record {
    actor = subst (λ a. may z.alone u a ≡ true) (sym moves) (pager_on on k.waited).actor;
    order = (pager_on on k.waited).order;
    met = subst (λ (q : Given). core.may (opening q) (state u).core (event_of e) ≡ true) (sym k.waited.ran.given) met;
    tame = calm_tame (state u) e calm;
    leaves = record {
      here = subst (λ (q : Given). changes q (state u) e row ≡ true) (sym k.waited.ran.given) (row_changes v (state u) e row t.first.frames (is row ∙ first_of (in_frame ((state u).core.place p) row) (false || false) standing));
      rows = λ q h.
          let one : row ≡ q = only q (frame_changes v.given (state u) e p q is none (subst (λ (x : Given). changes x (state u) e q ≡ true) k.waited.ran.given h)) in
          subst (λ r. (holds u.held r ≡ true) × Spells u.given (stepped u.given (state u) e) (width z.sizes r) r (held_at u.held r).now) one (
            k.waited.rows row ∙ t.first.mine,
            λ i l. let small : i < 128 = (let w = t.first.wide in omega arith) in
                subst (λ (x : Given × List ℕ). Shown x.0 (stepped x.0 (state u) e) row i (slice_index x.1 i)) (λ j. (sym k.waited.ran.given j, sym k.now j)) (shows i small),
          );
    };
  }
    where
      -- the page stands in one frame
      only : (q : ℕ) → in_frame ((state u).core.place p) q ≡ true → row ≡ q
      only q h = two ((state u).core.place p) row q standing h
        where
          two : (x : Place) (a b : ℕ) → in_frame x a ≡ true → in_frame x b ≡ true → a ≡ b
          two (Place.Hot f) a b i j = sym (eqb-true f a i) ∙ eqb-true f b j
          two (Place.Cooling f c w) a b i j = sym (eqb-true f a i) ∙ eqb-true f b j
          two Place.Cold a b i j = absurd (true≢false (sym i))

-- ## A page is saved

module _ {z : Shape} {v u : View} (row p number : ℕ) (t : HoldsOne z v row) (c : CanSave z v row p number) (k : Wrote z.alone row (set (held_at v.held row).now 127 number) v u) where
  abbrev g1 : Opening
  g1 = opening v.given

  abbrev ws : List ℕ
  ws = set (held_at v.held row).now 127 number

  stays1 : Stays v (state v).core (state u).core
  stays1 = stays_wait c.on k.waited

  own1 : (state u).core.page p ≡ (state v).core.page p
  own1 = stays1.page row p t.first.frames t.first.mine c.here.stands

  met1 : core.may g1 (state u).core (happening.Event.Save p) ≡ true
  met1 = save_again g1 p (state v).core (state u).core stays1.places own1 stays1.flushed c.met

  shows1 : (i : ℕ) → i < 128 → Shown v.given (stepped v.given (state u) (told.Save p)) row i (slice_index ws i)
  shows1 i l =
      let after = stepped_is v.given (state u) (told.Save p) met1 in
      let place : (stepped v.given (state u) (told.Save p)).core.place ≡ (state u).core.place = ap (λ s. s.place) after in
      let stands : in_frame ((stepped v.given (state u) (told.Save p)).core.place p) row ≡ true = ap (λ f. in_frame (f p) row) place ∙ (stays1.places.frame p row ∙ c.here.stands) in
      row_shown v.given (stepped v.given (state u) (told.Save p)) row p i (slice_index ws i) t.first.frames residence c.here.below stands
      (subst (λ s. ShowsPage s p i (slice_index ws i)) (sym after) (shows i l))
    where
      residence : Residence g1 (stepped v.given (state u) (told.Save p)).core
      residence =
          let e : stepped v.given (state u) (told.Save p) ≡ after_all v.given ((v.seen ++ k.waited.between) ++ told.Save p ∷ []) = ap (λ m. stepped v.given m (told.Save p)) (moment_is k.waited) ∙ sym (run_append v.given (Rattle.lean_proto.specs.row_words.Sealed.begun v.given) (v.seen ++ k.waited.between) (told.Save p ∷ [])) in
          subst (λ (m : Moment). Residence g1 m.core) (sym e) (c.on.order ((v.seen ++ k.waited.between) ++ told.Save p ∷ [])).places

      same : (j : ℕ) → j ≢ 127 → slice_index ws j ≡ slice_index (held_at v.held row).was j
      same j ne = get_or-set_other (held_at v.held row).now 127 j number 0 ne ∙ ap (λ xs. slice_index xs j) t.first.same

      old : (j : ℕ) → j < 128 → ShowsPage (state u).core p j (slice_index (held_at v.held row).was j)
      old j l = page_shown v.given (state u) row p j (slice_index (held_at v.held row).was j) t.first.frames c.here.below (stays1.places.frame p row ∙ c.here.stands) (was_on k.waited t.first j l)

      shows : (j : ℕ) → j < 128 → ShowsPage (happens g1 (state u).core (happening.Event.Save p)) p j (slice_index ws j)
      shows j l = elim (cases_eq j 127) [
        | inl e ↦ record {
          page = λ few. absurd (omega arith);
          marked = λ is _. absurd (omega arith);
          hint = λ is _. absurd (omega arith);
          saved = λ _.
              ap (slice_index ws) e ∙ (get_or-set_same (held_at v.held row).now 127 number 0 (let a = ap length t.first.same in let b = t.first.size in omega arith)
              ∙ (c.number_is ∙ (ap (λ q. q.gsn) (sym own1) ∙ ap (λ q. q.gsn) (sym (words.here (state u).core.saved p ((state u).core.page p) p (eq-eqb p p refl))))));
        }
        | inr ne ↦
            let o = old j l in record {
              page = λ few. let q = o.page few in (q.0, same j ne ∙ q.1);
              marked = λ is cool. same j ne ∙ o.marked is cool;
              hint = λ is cool e. o.hint is cool (sym (same j ne) ∙ e);
              saved = λ is. absurd (ne is);
            }
      ]

  pub save_may : MayPublish z row (told.Save p) u
  save_may = every_ready z u row (told.Save p) refl (ready row p (told.Save p) ws t c.on c.here k refl refl (λ q. refl) (λ j. refl) met1 shows1)

-- ## A page is evicted

module _ {z : Shape} {v : View} (row p : ℕ) (t : HoldsOne z v row) (c : CanEvict z v row p) where
  abbrev g2 : Opening
  g2 = opening v.given

  none2 : Wrote z.alone row (held_at v.held row).now v v
  none2 = wrote_none z.alone v row

  cools : is_cooling ((state v).core.place p) ≡ true
  cools = (words.and_true (is_cooling ((state v).core.place p)) (not (is_dirty (state v).core p) && all_below (suc g2.workers) (λ w. not (waits_for ((state v).core.place p) w))) c.met).0

  shows2 : (i : ℕ) → i < 128 → Shown v.given (stepped v.given (state v) (told.Evict p)) row i (slice_index (held_at v.held row).now i)
  shows2 i l = empty_shown v.given (stepped v.given (state v) (told.Evict p)) row i (slice_index (held_at v.held row).now i) t.first.frames none
      (λ is. ap (λ xs. slice_index xs i) t.first.same ∙ (page_shown v.given (state v) row p i (slice_index (held_at v.held row).was i) t.first.frames c.here.below c.here.stands (t.first.spells i l)).marked is cools)
    where
      none : (q : ℕ) → in_frame ((stepped v.given (state v) (told.Evict p)).core.place q) row ≡ true → ⊥
      none q h =
          let after : in_frame (upd (state v).core.place p Place.Cold q) row ≡ true = sym (ap (λ s. in_frame (s.place q) row) (stepped_is v.given (state v) (told.Evict p) c.met)) ∙ h in
          words.cases (p == q)
          (λ y. true≢false (sym after ∙ ap (λ x. in_frame x row) (words.here (state v).core.place p Place.Cold q y)))
          (λ n. let before = ap (λ x. in_frame x row) (sym (words.kept (state v).core.place p Place.Cold q n)) ∙ after in
          true≢false (sym (eq-eqb p q ((c.on.order v.seen).places.one p q row c.here.stands before)) ∙ n))

  pub evict_may : MayPublish z row (told.Evict p) v
  evict_may = every_ready z v row (told.Evict p) refl (ready row p (told.Evict p) (held_at v.held row).now t c.on c.here none2 refl refl (λ q. refl) (λ j. refl) c.met shows2)
