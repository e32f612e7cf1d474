-- A look at a frame row as a whole, and a latch from it.
use Rattle.std.proofs.Common.{◌≡◌, ◌≢◌, ◌==◌, ◌<◌, ℕ, Bool, true, false, List, [], ◌∷◌, Some, length, refl, sym, ap, subst, ◌∙◌, eq-eqb}
use Rattle.std.specs.Prelude.{slice_index}
use Rattle.std.proofs.lemmas.Bool.{cond-true}
use Rattle.page_model.specs.Page as stored
use Rattle.btree_descent.specs.btree_node.Words.{words_of, Spells}
use Rattle.btree_descent.specs.row_words.declared.event.Event.{Event}
use Rattle.btree_descent.specs.row_words.declared.event.Event.TheVariants.{Miss}
use Rattle.btree_descent.specs.row_words.Openings.{opening}
use Rattle.btree_descent.specs.rows_trait.declared.view.View.{View}
use Rattle.btree_descent.specs.rows_trait.Layout.{width}
use Rattle.btree_descent.specs.rows_trait.Views.{Shape, Knows, hold, holds, held_at, latest, may, state}
use Rattle.btree_descent.specs.rows_trait.Views as rows
use Rattle.btree_descent.specs.rows_trait.Causes.{HasFound}
use Rattle.btree_descent.specs.rows_trait.Turns.{Goes, Taken}
use Rattle.btree_descent.proofs.rows_trait.Causes.{found_after, looked_found}
use Rattle.btree_descent.proofs.rows_trait.Runs.{ran_goes}
use Rattle.btree_descent.specs.version_latch.Named.{checked}
use Rattle.btree_descent.specs.version_latch.Unheld.{NotHeld}
use Rattle.btree_descent.specs.version_latch.declared.glimpse.Glimpse.{Glimpse}
use Rattle.btree_descent.specs.version_latch.declared.glimpse.Unheld.{Unheld}
use Rattle.btree_descent.specs.version_latch.declared.glimpse.Unheld.TheVariants.{Moved, RowSpent}
use Rattle.btree_descent.proofs.version_latch.Naming.{checked_same, checked_other}
use Rattle.btree_descent.proofs.version_latch.Keeping.{looked_ran}
use Rattle.btree_descent.specs.swips.declared.hint.TheConstants.{MARK}
use Rattle.btree_descent.specs.Known.{Sound, IsSound}
use Rattle.btree_descent.proofs.Calls.{sound_after}
use Rattle.row_image.specs.declared.refusal.Unseen.{Unseen}
use Rattle.row_image.specs.declared.sight.Sight.{Sight}
use Rattle.row_image.specs.Looks.{Watched, AreKnown}
use Rattle.row_image.specs.Hot.{IsBare}
use Rattle.row_image.specs.Sights.{IsKnown, IsSight, HasWords, HasTaken, IsUnheld, IsSpent}
use Rattle.row_image.specs.Inside.{Begun, Again, IsMovedSince, Refused}
use Rattle.row_image.proofs.Watching.{watched_then}
use Rattle.row_image.proofs.Standing.{Here, bare_in, page_here, stands_in, every_sight}

-- ## Looks

-- at the row of the glimpse
pub begun_at : {alone : Bool} {row q version : ℕ} {v u : View} → q ≡ row → Begun alone row version v u → Begun alone q version v u
begun_at {alone = alone} {version = version} {v = v} {u = u} is b = subst (λ r. Begun alone r version v u) (sym is) b

pub again_shape : {z y : Shape} {row version : ℕ} {u w : View} → z ≡ y → Again z.alone row version u w → Again y.alone row version u w
again_shape {row = row} {version = version} {u = u} {w = w} same a = subst (λ (s : Shape). Again s.alone row version u w) same a

-- the row had moved in a call that began at v
pub moved_since : {z y : Shape} {actor row version : ℕ} {v v1 u w : View} {why : Unseen} → z ≡ y → Begun y.alone row version v v1 → Watched y.alone v1 u → IsMovedSince z.alone actor row version u why w
    → Refused y.alone actor (λ q. q ≡ row) v why w
moved_since {actor = actor} {row = row} {version = version} {v = v} {v1 = v1} {u = u} {w = w} {why = why} same b k e =
    let at = subst (λ (s : Shape). IsMovedSince s.alone actor row version u why w) same e in
    at v (watched_then b.watched k) (found_after row version v v1 u b.found k.loads) (λ alone. k.latest alone row version b.last)

-- the row was still
module _ {alone : Bool} {v v1 u w : View} (g : Glimpse) (b : Begun alone g.row g.version v v1) (k : Watched alone v1 u) (a : Again alone g.row g.version u w) (lt : g.row < (opening w.given).frames) where
  pub all_watched : Watched alone v w
  all_watched = watched_then b.watched (watched_then k a.watched)

  module _ (hint : ℕ) (hint_known : Knows g.row g.version 126 hint u.steps) where
    pub bare : hint ≡ MARK → IsBare w.given (state w) g.row
    bare is = bare_in w.given (state w) g.row hint lt (a.shown 126 hint hint_known) is

    module _ (words : List ℕ) (long : length words ≡ 126) (words_known : AreKnown g.row g.version 126 words u.steps) (sound : IsSound v.given) (unmarked : hint ≢ MARK) where
      pub sound_w : Sound w.given (state w)
      sound_w = sound_after v w all_watched.ran.given sound

      pub here : Here w.given (state w) g.row hint lt (a.shown 126 hint hint_known) words long (λ i l. a.shown i (slice_index words i) (words_known i l)) sound_w
      here = page_here w.given (state w) g.row hint lt (a.shown 126 hint hint_known) words long (λ i l. a.shown i (slice_index words i) (words_known i l)) sound_w unmarked

      pub is_sight : (n : stored.Page) → Spells words n → IsSight alone g.row v (record { glimpse = g; hint = hint; node = n }) w
      is_sight n s = record {
        ran = all_watched.ran;
        of_row = refl;
        found = found_after g.row g.version v v1 w b.found (watched_then k a.watched).loads;
        stands = stands_in w.given (state w) g.row hint lt (a.shown 126 hint hint_known) words long (λ i l. a.shown i (slice_index words i) (words_known i l)) sound_w unmarked n s;
        known = record {
          free = b.free;
          fits = s.fits;
          words = λ i l. subst (λ (ws : List ℕ). Knows g.row g.version i (slice_index ws i) w.steps) s.spelled (a.watched.knows g.row g.version i (slice_index words i) (words_known i l));
          hint = hint;
          unmarked = unmarked;
          shows = a.watched.knows g.row g.version 126 hint hint_known;
        };
        last = a.last;
      }

pub sight_at : {alone : Bool} {row q : ℕ} {v w : View} {s : Sight} → q ≡ row → IsSight alone q v s w → IsSight alone row v s w
sight_at {alone = alone} {v = v} {w = w} {s = s} is k = subst (λ r. IsSight alone r v s w) is k

-- ## Latches

module _ (z : Shape) (v w : View) (actor : ℕ) (s : Sight) where
  pub unheld : may z.alone v actor ≡ true → (why : Unheld) → NotHeld z s.glimpse.row s.glimpse.version (checked actor s.glimpse.version) v why w → IsUnheld z.alone actor s v why w
  unheld own (Moved m) h = record {
    ran = looked_ran z s.glimpse.row m.found (checked actor s.glimpse.version) v w (Miss actor ∷ []) h.2.looked (checked_other actor s.glimpse.version m.found h.2.other) (own, tt);
    held = h.2.looked.held;
    of_row = h.0;
    seen = h.1;
    unequal = λ e. h.2.other (e ∙ h.1);
    looked = subst (λ q. HasFound q m.found v w) (sym h.0) (looked_found z s.glimpse.row m.found (checked actor s.glimpse.version) v w h.2.looked);
    cause = h.3;
  }
  unheld own RowSpent h = h

  pub never_moved : (why : Unheld) → NotHeld z s.glimpse.row s.glimpse.version (checked actor s.glimpse.version) v why w → z.alone ≡ true → latest s.glimpse.row v.steps ≡ Some s.glimpse.version → IsSpent why
  never_moved (Moved m) h alone last = h.2.other (h.2.looked.steady alone s.glimpse.version last)
  never_moved RowSpent h alone last = tt

  module _ (t : Taken z s.glimpse.row s.glimpse.version (checked actor s.glimpse.version) v w) where
    abbrev row : ℕ
    row = s.glimpse.row

    goes : Goes z v [] w
    goes = subst (λ (es : List Event). Goes z v es w) (checked_same actor s.glimpse.version) t.goes

    mine : holds w.held row ≡ true
    mine = ap (λ hs. holds hs row) t.held ∙ cond-true (row == row) true (holds v.held row) (eq-eqb row row refl)

    was_is : (held_at w.held row).was ≡ t.was
    was_is = ap (λ hs. (held_at hs row).was) t.held ∙ ap (λ (h : Rattle.btree_descent.specs.rows_trait.declared.view.Hold.Hold). h.was) (cond-true (row == row) (hold row s.glimpse.version t.was t.was false) (held_at v.held row) (eq-eqb row row refl))

    pub has_taken : width z.sizes row ≡ 128 → row < (opening v.given).frames → IsSound v.given → IsKnown s v.steps → HasTaken z s v w
    has_taken wide lt sound known = record {
      ran = ran_goes z v [] w tt goes;
      taken = record { goes = goes; was = t.was; steps = t.steps; held = t.held; size = t.size; known = t.known; still = t.still; rising = t.rising; fresh = t.fresh };
      words = words;
      stands = (every_sight s).stands w.given (state w) row t.was (subst (λ (g : Rattle.btree_descent.specs.row_words.declared.given.Given.Given). row < (opening g).frames) (sym goes.given) lt) (sound_after v w goes.given sound) words spells;
    }
      where
        words : HasWords s t.was
        words = record { size = t.size ∙ wide; fits = known.fits; words = λ i l. t.known i (slice_index (words_of s.node) i) (known.words i l); unmarked = λ e. known.unmarked (sym (t.known 126 known.hint known.shows) ∙ e) }

        spells : rows.Spells w.given (state w) 128 row t.was
        spells = subst (λ (p : ℕ × List ℕ). rows.Spells w.given (state w) p.0 row p.1) (λ i. (wide i, was_is i)) (t.goes.stands row mine)
