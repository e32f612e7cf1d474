-- A purge is published at the row of its leaf, and then the lock rows of its keys are given up.
use Rattle.std.proofs.Common.{◌≡◌, ◌≢◌, ◌==◌, ◌≤◌, ◌+◌, ◌-◌, inl, inr, ℕ, true, false, List, [], ◌∷◌, ◌++◌, drop, refl, sym, ap, subst, ◌∙◌, arith, true≢false}
use Rattle.std.proofs.lemmas.Bool.{cond-false, le-ltb, eq-eqb, eqb-true}
use Rattle.map_model.specs.Lists.{Has}
use Rattle.page_model.specs.Pairs.{is_in}
use Rattle.page_model.specs.Page as stored
use Rattle.disk_image.specs.btree_node.Words.{words_of}
use Rattle.btree_descent.specs.core_state.Local.{publishes_row}
use Rattle.btree_descent.specs.row_words.declared.event.Event.{Event}
use Rattle.btree_descent.specs.row_words.declared.event.Event.TheVariants.{Purge}
use Rattle.btree_descent.specs.row_words.declared.given.Given.{Given}
use Rattle.btree_descent.specs.row_words.Moments.{Moment, event_of}
use Rattle.btree_descent.specs.row_words.Openings.{opening}
use Rattle.btree_descent.specs.row_words.Sealed.{changes}
use Rattle.btree_descent.specs.row_words.Words.{publishes_frame}
use Rattle.btree_descent.proofs.row_words.SealedLemmas.{low_tame}
use Rattle.btree_descent.proofs.row_words.Stays.{cases}
use Rattle.btree_descent.specs.rows_trait.declared.view.Hold.{Hold}
use Rattle.btree_descent.specs.rows_trait.declared.view.View.{View}
use Rattle.btree_descent.specs.rows_trait.Views.{Shape, after_all, state, holds, held_at, without}
use Rattle.btree_descent.specs.rows_trait.Turns.{Published, MayPublish}
use Rattle.btree_descent.proofs.rows_trait.Holds.{holds_without, holds_without_here, without_apart, holds_settle, settle_at, settled}
use Rattle.btree_descent.proofs.rows_trait.Runs.{ran_goes, ran_append}
use Rattle.btree_descent.proofs.version_latch.Keeping.{may_ran}
use Rattle.btree_descent.proofs.lean_proto.Again.{plain_purge}
use Rattle.btree_descent.proofs.lean_proto.Steady.{every_purge}
use Rattle.btree_smo.specs.Outcomes.{MissedUpTo}
use Rattle.held_rows.specs.Rows.{Waited, Wrote}
use Rattle.held_rows.specs.Waits.{waited_then, waited_apart}
use Rattle.btree_smo.specs.Inside.Purging.{IsKept, IsPlace, KeepsPlaces, IsPurged, WentOn}
use Rattle.btree_smo.proofs.Leaving.{HasNode, Stored, leaves_all, publish_on}

abbrev one_of : Event → List Event → Event
one_of d [] = d
one_of d (e ∷ es) = e

-- said of the shape and the row that others speak of, and of the one event that was named
pub published_as : {z y : Shape} {row q : ℕ} {u w : View} (e : Event) → y ≡ z → q ≡ row → (f : Event) × (e ∷ [] ≡ f ∷ []) × Published y q f u w → Published z row e u w
published_as {u = u} {w = w} e a b p = subst (λ (s : Shape × ℕ × Event). Published s.0 s.1 s.2 u w) (λ i. (a i, b i, sym (ap (one_of e) p.1) i)) p.2

-- a purge changes no lock row
purge_changes : (v : Given) (m : Moment) (w p : ℕ) (keys : List ℕ) (frames i : ℕ) → (opening v).frames ≡ frames → changes v m (Purge w p keys) (frames + i) ≡ false
unfolding changes
purge_changes v m w p keys frames i is = cond-false _ (publishes_frame (opening v) m.core (event_of (Purge w p keys)) (frames + i)) (publishes_row (event_of (Purge w p keys)) ((frames + i) - (opening v).frames)) (le-ltb (frames + i) (opening v).frames (omega arith))

module _ {z : Shape} {v : View} {worker page : ℕ} {keys : List ℕ} {frames leaf : ℕ} {n : stored.Page} {places : List ℕ} (it : IsPurged z v worker page keys frames leaf n places) where
  abbrev e : Event
  e = Purge worker page keys

  each_of : (hs : List Hold) → HasNode v hs leaf n → (p : ℕ) → Has p (page ∷ []) → Stored z v hs e p
  each_of hs has p (inl s) = record { row = leaf; node = n; is = it.is ∙ sym s; left = it.left; has = has }
  each_of hs has p (inr h) = absurd h

  pub may_purge : {u : View} → Waited z.alone v u → HasNode v u.held leaf n → MayPublish z leaf e u
  unfolding each_of
  may_purge {u} k has = publish_on u.held k.rows k refl ((every_purge z (record v { held = u.held }) leaf worker page keys).ready (record {
    ready = record {
      actor = it.actor;
      order = λ es. record { tree = (it.sound es).tree; places = (it.sound es).residence };
      met = it.met;
      tame = low_tame (state v) e it.young;
      leaves = leaves_all z v u.held e (plain_purge worker page keys) (λ j. refl) (it.sound v.seen).residence it.met (each_of u.held has) page (inl refl);
    };
    locks = λ j h. let b = (it.rows.beside.each ((opening v.given).row_of j) (it.rows.locked j h)).mine in
        ap (λ f. holds u.held (f + (opening v.given).row_of j)) it.rows.frames_is ∙ (k.rows (frames + (opening v.given).row_of j) ∙ b);
  }))

  module _ {u1 : View} (w1 : Wrote z.alone leaf (words_of n ++ drop 126 (held_at v.held leaf).now) v u1) where
    pub node_has : HasNode v u1.held leaf n
    node_has = record {
      mine = w1.waited.rows leaf ∙ it.rows.frame.mine;
      now = w1.now ∙ ap (λ (ws : List ℕ). words_of n ++ drop 126 ws) it.rows.frame.same;
    }

    module _ {u2 : View} (p : Published z leaf e u1 u2) where
      abbrev at : Moment
      at = after_all u1.given (u1.seen ++ p.goes.between)

      frames_now : (opening u1.given).frames ≡ frames
      frames_now = ap (λ (g : Given). (opening g).frames) w1.waited.ran.given ∙ it.rows.frames_is

      pub keeps_after : KeepsPlaces z u2 frames places
      keeps_after = record { each = each; only = only; distinct = it.rows.beside.distinct }
        where
          each : (i : ℕ) → is_in i places ≡ true → IsKept z u2 (frames + i)
          each i h =
              let k = it.rows.beside.each i h in
              let ne : frames + i ≢ leaf = (λ x. it.rows.beside.far i h (sym x)) in
              let mine : holds (without u1.held leaf) (frames + i) ≡ true = holds_without u1.held leaf (frames + i) ne ∙ (w1.waited.rows (frames + i) ∙ k.mine) in
              let same : held_at u2.held (frames + i) ≡ held_at v.held (frames + i) =
              ap (λ hs. held_at hs (frames + i)) p.held
              ∙ (settle_at u1.given at (without u1.held leaf) e (frames + i) mine
              ∙ ((λ j. settled (purge_changes u1.given at worker page keys frames i frames_now j) (without_apart u1.held leaf (frames + i) ne j))
              ∙ w1.others (frames + i) (it.rows.beside.far i h))) in record {
                mine = ap (λ hs. holds hs (frames + i)) p.held ∙ (holds_settle u1.given at (without u1.held leaf) e (frames + i) ∙ mine);
                inside = k.inside;
                done = ap (λ b. b.done) same ∙ k.done;
                same = ap (λ b. b.now) same ∙ (k.same ∙ sym (ap (λ b. b.was) same));
              }

          only : (q : ℕ) → holds u2.held q ≡ true → IsPlace frames places q
          only q h =
              let rest : holds (without u1.held leaf) q ≡ true = sym (holds_settle u1.given at (without u1.held leaf) e q) ∙ (sym (ap (λ hs. holds hs q) p.held) ∙ h) in
              cases (q == leaf)
              (λ y. absurd (true≢false (sym rest ∙ (ap (holds (without u1.held leaf)) (eqb-true q leaf y) ∙ holds_without_here u1.held leaf))))
              (λ t. let ne : q ≢ leaf = (λ x. true≢false (sym (eq-eqb q leaf x) ∙ t)) in
              elim (it.rows.beside.only q (sym (w1.waited.rows q) ∙ (sym (holds_without u1.held leaf q ne) ∙ rest))) [ inl x ↦ absurd (ne x) | inr x ↦ x ])

      pub went_on : {w : View} {most : ℕ} → most ≤ 60 → MissedUpTo most z.alone u2 w → WentOn z.alone v e w
      went_on {w} {most} few m =
          let k = w1.waited in
          let whole : Waited z.alone v (record u1 { seen = u1.seen ++ p.goes.between }) = waited_then k (waited_apart z u1 p.goes.between p.goes.quiet p.goes.apart) in record {
            between = whole.between;
            quiet = whole.quiet;
            apart = whole.apart;
            misses = m.events;
            ran = ran_append z.alone v [] u1 (e ∷ m.events) w k.ran (ran_append z.alone u1 (e ∷ []) u2 m.events w (ran_goes z u1 (e ∷ []) u2 (may_ran z.alone v u1 [] worker k.ran it.actor, tt) p.goes) m.ran);
            only = (m.misses, (let l = m.few in omega arith));
            later = m.ran.more;
            seen = m.ran.seen ∙ ap (λ ys. ys ++ m.ran.more) (p.goes.seen ∙ ap (λ ys. ys ++ e ∷ []) whole.seen);
          }
