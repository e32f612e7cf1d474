-- A write may be published, whatever others did meanwhile.
use Rattle.std.proofs.Common.{◌≡◌, ◌≢◌, ◌||◌, ltb, ◌<◌, ◌-◌, ℕ, suc, max, Bool, true, false, List, [], ◌∷◌, refl, sym, ap, subst, ◌∙◌, true≢false, arith}
use Rattle.std.specs.Prelude.{slice_index, if◌then◌else◌}
use Rattle.std.proofs.lemmas.Bool.{cond-true, lt-ltb, eqb-true}
use Rattle.core_paging.specs.image_model.Entries.{Contents}
use Rattle.page_model.specs.Nodes.{Node}
use Rattle.page_model.specs.Pairs.{put}
use Rattle.version_latch.specs.btree_node.Words.{words_of}
use Rattle.core_paging.specs.core_state.Openings.{Opening}
use Rattle.core_paging.specs.core_state.States.{Place, State, Worker, is_cooling, in_frame}
use Rattle.core_paging.specs.core_state.Events as happening
use Rattle.core_paging.specs.core_state.Needs as core
use Rattle.map_model.specs.Lists.{any}
use Rattle.core_paging.specs.core_state.Needs.{is_held_by}
use Rattle.core_paging.specs.core_state.Steps.{happens}
use Rattle.core_paging.specs.core_state.Steps as steps
use Rattle.core_paging.specs.core_state.Local.{publishes_row}
use Rattle.core_paging.proofs.core_state.Locality.{every_local}
use Rattle.version_latch.specs.row_words.declared.event.Event.{Event}
use Rattle.version_latch.specs.row_words.Moments.{Moment, event_of, actor_of}
use Rattle.version_latch.specs.row_words.Openings.{opening}
use Rattle.version_latch.specs.row_words.Sealed.{stepped, run, Shown, changes}
use Rattle.version_latch.specs.row_words.Words.{framed, framed_page, ShowsPage, Shows, publishes, publishes_frame}
use Rattle.version_latch.proofs.row_words.Stays as words
use Rattle.version_latch.proofs.row_words.Controls.{every_own}
use Rattle.version_latch.proofs.row_words.SealedLemmas.{hot_kept}
use Rattle.version_latch.specs.rows_trait.declared.view.View.{View}
use Rattle.version_latch.specs.rows_trait.Layout.{width}
use Rattle.version_latch.specs.rows_trait.Views.{Shape, may, state, IsApart, AreApart, holds, held_at}
use Rattle.version_latch.specs.rows_trait.Turns.{Leaves, MayPublish}
use Rattle.lean_proto.specs.Changes.{changed, IsChange, EveryChange}
use Rattle.version_latch.proofs.row_words.Frames.{hot_place, framed_leaf}
use Rattle.lean_proto.proofs.Owns.{holder_next}
use Rattle.lean_proto.specs.declared.change.Write.{Write}
use Rattle.lean_proto.specs.Writes.{event_by, MayWrite}
use Rattle.lean_proto.proofs.Again.{IsPlain}
use Rattle.lean_proto.proofs.Writing.{write_of, writer, write_part, write_steady, write_pages, write_rows, write_tame, plain_write, again_write, write_page}
use Rattle.lean_proto.proofs.Steady.{empty_not, no_words, may_publish}

-- What a publisher of a write rests on, at a moment.
pub record Rests (v : View) (row w p k : ℕ) (page : Contents) (saved : ℕ) (worker : Worker) (m : Moment) : Type 0 where
  pub hot : m.core.place p ≡ Place.Hot row
  pub same_page : m.core.page p ≡ page
  pub same_saved : (m.core.saved p).gsn ≡ saved
  pub same_worker : m.core.worker w ≡ worker
  pub holder : is_held_by (m.core.row ((opening v.given).row_of k)).holder w ≡ true

module _ (v : View) (row w p k : ℕ) (page : Contents) (saved : ℕ) (worker : Worker) (lt : row < (opening v.given).frames) (mine : holds v.held row ≡ true) (is_mine : v.actor ≡ w) where
  abbrev g : Opening
  g = opening v.given

  saved_next : (m : Moment) (e : Event) → changes v.given m e row ≡ false → m.core.place p ≡ Place.Hot row → (stepped v.given m e).core.saved p ≡ m.core.saved p
  unfolding stepped changes
  saved_next m e off hot = go (core.may g m.core (event_of e)) refl
    where
      frame : publishes_frame g m.core (event_of e) row ≡ false
      frame = sym (cond-true (ltb row g.frames) (publishes_frame g m.core (event_of e) row) (publishes_row (event_of e) (row - g.frames)) (lt-ltb row g.frames lt)) ∙ off

      go : (b : Bool) → core.may g m.core (event_of e) ≡ b → (if b then happens g m.core (event_of e) else m.core).saved p ≡ m.core.saved p
      go true met = (every_local g m.core (event_of e)).saved p (words.not_published g m.core (event_of e) row p met frame (hot_place (m.core.place p) row hot))
      go false met = refl

  rests_next : (m : Moment) (e : Event) → IsApart v m e → Rests v row w p k page saved worker m → Rests v row w p k page saved worker (stepped v.given m e)
  unfolding stepped
  rests_next m e a r =
      let ne : actor_of e ≢ w = λ z. a.other (z ∙ sym is_mine) in
      let off = a.rows row mine in
      let kept = hot_kept v.given m e row p lt off r.hot in record {
        hot = kept.0;
        same_page = kept.1 ∙ r.same_page;
        same_saved = ap (λ z. z.gsn) (saved_next m e off r.hot) ∙ r.same_saved;
        same_worker = (every_own g m e w ne a.part).worker ∙ r.same_worker;
        holder = holder_next v.given w (g.row_of k) m e ne r.holder;
      }

  pub rests_all : (es : List Event) (m : Moment) → AreApart v m es → Rests v row w p k page saved worker m → Rests v row w p k page saved worker (run v.given m es)
  rests_all [] m a r = r
  rests_all (e ∷ es) m a r = rests_all es (stepped v.given m e) a.1 (rests_next m e a.0 r)

-- ## The write itself

-- the page after it
changed_is : (how : Write) (g : Opening) (s : State) (w p k x generation : ℕ) → MayWrite how g s w p k x → (s.page p).node.level ≡ 0
    → framed_page (happens g s (write_of how w p k x)) p generation ≡ changed (s.page p) (s.worker w) w p k x generation
changed_is how g s w p k x generation may leaf =
    let n : Node = record (s.page p).node { pairs = put k x (s.page p).node.pairs } in
    let after = happens g s (write_of how w p k x) in
    let page_is : after.page p ≡ record { gsn = suc (max (s.worker w).clock (s.page p).gsn); last = w; node = n } = write_page g s w p k x how may in
    (λ i. record { number = p; gsn = (page_is i).gsn; generation = generation; last_log = (page_is i).last; node = (ap (λ z. framed after.place z.node) page_is ∙ framed_leaf after.place n leaf) i })

module _ (how : Write) (g : Opening) (s : State) (w p k x row : ℕ) (hot : s.place p ≡ Place.Hot row) where
  abbrev e : happening.Event
  e = write_of how w p k x

  -- the frames that it publishes
  frames : (q : ℕ) → publishes_frame g s e q ≡ (in_frame (s.place p) q || false)
  frames q = (plain_write w p k x how).frame g s q ∙ ap (λ ps. any (λ y. in_frame (s.place y) q) ps) (write_pages w p k x how)

  only_row : (q : ℕ) → publishes g s e q ≡ true → q ≡ row
  only_row q h = go (ltb q g.frames) h
    where
      first : (b : Bool) → (b || false) ≡ true → b ≡ true
      first true e = refl
      first false e = absurd (true≢false (sym e))

      go : (b : Bool) → (if b then publishes_frame g s e q else publishes_row e (q - g.frames)) ≡ true → q ≡ row
      go true y = let i : in_frame (s.place p) q ≡ true = first (in_frame (s.place p) q) (sym (frames q) ∙ y) in sym (eqb-true row q (sym (ap (λ z. in_frame z q) hot) ∙ i))
      go false n = absurd (true≢false (sym n ∙ write_rows w p k x how (q - g.frames)))

  its_row : row < g.frames → publishes g s e row ≡ true
  its_row lt = cond-true (ltb row g.frames) (publishes_frame g s e row) (publishes_row e (row - g.frames)) (lt-ltb row g.frames lt) ∙ (frames row ∙ ap (λ b. b || false) (hot_place (s.place p) row hot))

module _ (z : Shape) (v : View) (row : ℕ) (how : Write) (w p k x : ℕ) (it : IsChange z v row how w p k x) where
  abbrev o : Opening
  o = opening v.given

  abbrev m0 : Moment
  m0 = state v

  abbrev c : happening.Event
  c = write_of how w p k x

  abbrev after : State
  after = happens o m0.core c

  abbrev plain : IsPlain c
  plain = plain_write w p k x how

  -- no page is moved by it, nor saved
  place_is : after.place ≡ m0.core.place
  place_is = plain.place o m0.core

  page_shows : (i : ℕ) → i < 128 → ShowsPage after p i (slice_index (held_at v.held row).now i)
  unfolding Shown
  page_shows i l =
      let old = ((it.was i l).frame (lt-ltb row o.frames it.frames)).page p it.below (hot_place (m0.core.place p) row it.hot) in record {
        page = λ lt. let n = it.page i lt in (n.0, n.1 ∙ ap (λ y. slice_index (words_of y) i) (sym (changed_is how o m0.core w p k x n.0 it.met it.leaf)));
        marked = λ at cool. absurd (true≢false (sym cool ∙ (ap (λ y. is_cooling (y p)) place_is ∙ ap is_cooling it.hot)));
        hint = λ at cool e. old.hint at (ap is_cooling it.hot) (sym (it.rest i (omega arith)) ∙ e);
        saved = λ at. it.rest i (omega arith) ∙ (old.saved at ∙ sym (ap (λ y. (y p).gsn) (plain.saved o m0.core)));
      }

  row_shows : (i : ℕ) → i < 128 → Shows o after row i (slice_index (held_at v.held row).now i)
  row_shows i l = record {
    frame = λ t. record {
      page = λ q lt inside. subst (λ y. ShowsPage after y i (slice_index (held_at v.held row).now i)) ((it.places v.seen).one p q row (hot_place (m0.core.place p) row it.hot) (sym (ap (λ y. in_frame (y q) row) place_is) ∙ inside)) (page_shows i l);
      empty = λ at none. absurd (empty_not o after row p it.below (ap (λ y. in_frame (y p) row) place_is ∙ hot_place (m0.core.place p) row it.hot) none);
    };
    lock = λ t. absurd (true≢false (sym (lt-ltb row o.frames it.frames) ∙ t));
  }

  -- the row, as it is held, is what the write leaves at the state that was seen
  leaves : Leaves z row (event_by how w p k x) v m0
  unfolding changes stepped Shown
  leaves = record {
    here = its_row how o m0.core w p k x row it.hot it.frames;
    rows = λ q h. let e = only_row how o m0.core w p k x row it.hot q h in (ap (holds v.held) e ∙ it.held, spells q e);
  }
    where
      step_is : steps.step o m0.core c ≡ happens o m0.core c
      step_is = cond-true (core.may o m0.core c) (happens o m0.core c) m0.core it.met.met

      spells : (q : ℕ) → q ≡ row → (i : ℕ) → i < width z.sizes q → Shows o (steps.step o m0.core c) q i (slice_index (held_at v.held q).now i)
      spells q e i l = subst (λ y. Shows o (steps.step o m0.core c) y i (slice_index (held_at v.held y).now i)) (sym e)
          (subst (λ s. Shows o s row i (slice_index (held_at v.held row).now i)) (sym step_is) (row_shows i (let a = it.wide in let b = ap (width z.sizes) e in omega arith)))

  pub may_change : MayPublish z row (event_by how w p k x) v
  may_change = may_publish z v row (event_by how w p k x) plain (write_part w p k x how) (no_words (event_by how w p k x) (write_steady w p k x how)) (ap (may z.alone v) (writer w p k x how) ∙ it.actor) it.places it.met.met (write_tame o m0.core w p k x how m0 refl it.met) leaves
      (λ t kept rest. again_write o m0.core w p k x how t it.met rest)

pub every_change : EveryChange
every_change = may_change
