-- Looks of the pager at the row of a frame: what they append, why they refuse, and what a latched row is.
use Rattle.std.proofs.Common.{◌≡◌, ◌≢◌, ◌<◌, ◌≤◌, ◌%◌, ◌==◌, cond, ltb, ℕ, Bool, true, false, List, [], ◌∷◌, length, Some, refl, sym, ap, subst, ◌∙◌, arith}
use Rattle.std.proofs.lemmas.Bool.{cond-true, eq-eqb, eqb-true, lt-ltb}
use Rattle.btree_descent.specs.Descents.{Sized}
use Rattle.btree_descent.specs.core_state.States.{in_frame}
use Rattle.btree_descent.specs.row_words.declared.event.Event.{Event}
use Rattle.btree_descent.specs.row_words.declared.event.Event.TheVariants.{Miss}
use Rattle.btree_descent.specs.row_words.declared.given.Given.{Given}
use Rattle.btree_descent.specs.row_words.Moments.{Moment, pager}
use Rattle.btree_descent.specs.row_words.Openings.{opening}
use Rattle.btree_descent.specs.row_words.Sealed.{Shown}
use Rattle.btree_descent.specs.rows_trait.declared.view.View.{View}
use Rattle.btree_descent.specs.rows_trait.Causes.{HasFound, HasMoved, IsLatched}
use Rattle.btree_descent.specs.rows_trait.Layout.{width}
use Rattle.btree_descent.specs.rows_trait.Turns.{Looked, Ran}
use Rattle.btree_descent.specs.rows_trait.Views.{Shape, IsEven, Spells, held_at, hold, holds, latest, may, state}
use Rattle.btree_descent.proofs.rows_trait.Runs.{ran_append}
use Rattle.btree_descent.specs.version_latch.Named.{missed, checked}
use Rattle.btree_descent.specs.version_latch.declared.glimpse.Latched.{Latched}
use Rattle.btree_descent.specs.version_latch.declared.glimpse.Moved.{Moved}
use Rattle.btree_descent.proofs.version_latch.Naming.{checked_other, missed_even, missed_odd}
use Rattle.btree_descent.proofs.version_latch.Keeping.{looked_ran, may_ran}
use Rattle.held_rows.specs.Latching as latching
use Rattle.held_rows.specs.Latching.{Refused, Took}
use Rattle.held_rows.specs.declared.latching.Refusal.TheVariants.{RowSpent}
use Rattle.held_rows.specs.Rows.{HoldsOne, OpensOne}
use Rattle.held_rows.specs.Steps as steps
use Rattle.page_provider.specs.Inside.{Judges, Missed, Numbers, Takes}
use Rattle.page_provider.specs.declared.refusal.Refusal.{Refusal}
use Rattle.page_provider.specs.declared.refusal.Refusal.TheVariants as refusal
use Rattle.page_provider.specs.Refusals.{Caused, IsOfRow, IsOthers, SpentAt}
use Rattle.page_provider.specs.Steps.{IsMissAtMost}
use Rattle.page_provider.proofs.Loaded.{found_loaded, latched_loaded, moved_loaded}

-- ## Looks

module _ {z : Shape} {row : ℕ} {v u : View} where
  pub start_ran : {version : ℕ} → IsEven version → Looked z row (missed pager) v version u → Ran z.alone v [] u
  start_ran {version} even look = looked_ran z row version (missed pager) v u [] look (missed_even pager version even) tt

  pub start_missed : {l : Latched} → may z.alone v pager ≡ true → l.word % 2 ≡ 1 → Looked z row (missed pager) v l.word u → IsLatched l.row l.word v u → Missed z v (refusal.Latched l) u
  start_missed {l} actor odd look why = record {
    misses = Miss pager ∷ [];
    few = tt;
    ran = looked_ran z row l.word (missed pager) v u (Miss pager ∷ []) look (missed_odd pager l.word odd) (actor, tt);
    held = look.held;
    kind = tt;
    cause = latched_loaded why;
    quiet = λ alone none _. let e : l.word % 2 ≡ 0 = look.free alone (ap (λ hs. holds hs row) none) in absurd (omega arith);
  }

  -- the row was found to have another version than at the first look
  pub look_moved : {version : ℕ} {m : Moved} {w : View} → may z.alone v pager ≡ true → Ran z.alone v [] u → u.held ≡ v.held → (z.alone ≡ true → latest row u.steps ≡ Some version) → m.found ≢ version
      → Looked z row (checked pager version) u m.found w → HasMoved m.row m.seen m.found v w → Missed z v (refusal.Moved m) w
  look_moved {version} {m} {w} actor r held last ne look why = record {
    misses = Miss pager ∷ [];
    few = tt;
    ran = ran_append z.alone v [] u (Miss pager ∷ []) w r (looked_ran z row m.found (checked pager version) u w (Miss pager ∷ []) look (checked_other pager version m.found ne) (may_ran z.alone v u [] pager r actor, tt));
    held = look.held ∙ held;
    kind = tt;
    cause = moved_loaded why;
    quiet = λ alone none _. absurd (ne (look.steady alone version (last alone)));
  }

-- ## Words of the row

number_at : (v : Given) (m : Moment) (row p x : ℕ) → row < (opening v).frames → p < (opening v).format.pages → in_frame (m.core.place p) row ≡ true → Shown v m row 1 x → x ≡ (m.core.page p).gsn
unfolding Shown
number_at v m row p x lt below here s = ((((s.frame (lt-ltb row (opening v).frames lt)).page p below here).page (omega arith)).1)

saved_at : (v : Given) (m : Moment) (row p x : ℕ) → row < (opening v).frames → p < (opening v).format.pages → in_frame (m.core.place p) row ≡ true → Shown v m row 127 x → x ≡ (m.core.saved p).gsn
unfolding Shown
saved_at v m row p x lt below here s = ((s.frame (lt-ltb row (opening v).frames lt)).page p below here).saved refl

pub judges : {z : Shape} {v w : View} (row frames number saved : ℕ) → Sized z v frames → row < frames → Ran z.alone v [] w → Shown w.given (state w) row 1 number → Shown w.given (state w) row 127 saved → Judges z v row (ltb saved number) w
judges {v = v} {w = w} row frames number saved sized lt r a b = record {
  ran = r;
  says = λ p below here.
      let within : row < (opening w.given).frames = subst (λ (g : Given). row < (opening g).frames) (sym r.given) (subst (λ n. row < n) (sym sized.given) lt) in
      let x = number_at w.given (state w) row p number within below here a in
      let y = saved_at w.given (state w) row p saved within below here b in
      (λ i. ltb (y i) (x i));
}

pub numbers : {z : Shape} {v w : View} (row frames number : ℕ) → Sized z v frames → row < frames → Ran z.alone v [] w → Shown w.given (state w) row 1 number → Numbers z v row number w
numbers {v = v} {w = w} row frames number sized lt r a = record {
  ran = r;
  says = λ p below here.
      let within : row < (opening w.given).frames = subst (λ (g : Given). row < (opening g).frames) (sym r.given) (subst (λ n. row < n) (sym sized.given) lt) in
      number_at w.given (state w) row p number within below here a;
}

-- ## A row that was latched, or not

pub takes : {z : Shape} {v w : View} (row frames : ℕ) → Sized z v frames → row < frames → v.held ≡ [] → Took z row v w → Takes z v row w
takes {z = z} {v = v} {w = w} row frames sized lt none t =
    let held : w.held ≡ hold row t.version t.was t.was false ∷ [] = t.held ∙ ap (λ hs. hold row t.version t.was t.was false ∷ hs) none in
    let own : (row == row) ≡ true = eq-eqb row row refl in
    let at : held_at w.held row ≡ hold row t.version t.was t.was false = ap (λ hs. held_at hs row) held ∙ cond-true (row == row) (hold row t.version t.was t.was false) (held_at [] row) own in
    let mine : holds w.held row ≡ true = ap (λ hs. holds hs row) held ∙ cond-true (row == row) true false own in
    let low : row < z.sizes.frames = subst (λ n. row < n) (sym sized.shape) lt in
    let wide : width z.sizes row ≡ 128 = cond-true (ltb row z.sizes.frames) 128 5 (lt-ltb row z.sizes.frames low) in
    record {
      ran = t.ran;
      one = record {
        first = record {
          mine = mine;
          frames = subst (λ (g : Given). row < (opening g).frames) (sym t.ran.given) (subst (λ n. row < n) (sym sized.given) lt);
          inside = omega arith;
          wide = wide;
          done = ap (λ h. h.done) at;
          same = ap (λ h. h.now) at ∙ sym (ap (λ h. h.was) at);
          size = ap (λ h. length h.was) at ∙ (t.size ∙ wide);
          spells = subst (λ n. Spells w.given (state w) n row (held_at w.held row).was) wide (t.stands row mine);
        };
        only = λ q h. only_row q (q == row) (sym (ap (λ hs. holds hs q) held) ∙ h);
      };
    }
  where
    only_row : (q : ℕ) (b : Bool) → cond (row == q) true false ≡ true → q ≡ row
    only_row q b h = sym (eqb-true row q (bare (row == q) h))
      where
        bare : (b : Bool) → cond b true false ≡ true → b ≡ true
        bare true e = refl
        bare false e = e

pub at_most : (es : List Event) → steps.AreMisses es → length es ≤ 1 → IsMissAtMost es
at_most [] m few = tt
at_most (Miss w ∷ []) m few = tt
at_most (Miss w ∷ (e ∷ es)) m few = absurd (omega arith)
at_most (_ ∷ es) m few = absurd m

pub refused : {z : Shape} {v w : View} {why : Refusal} → Refused z.alone v w → IsOfRow why → Caused v why w → (z.alone ≡ true → v.held ≡ [] → IsOthers why → ⊥) → Missed z v why w
refused r kind cause quiet = record { misses = r.missed.events; few = at_most r.missed.events r.missed.misses r.missed.few; ran = r.missed.ran; held = r.held; kind = kind; cause = cause; quiet = quiet }

-- of a row that was not latched since its version has come to the last one
pub spent_taken : {z : Shape} {v w : View} {row frames q : ℕ} → Sized z v frames → row < frames → Refused z.alone v w → latching.Caused row v (RowSpent q) w → SpentAt row v (refusal.RowSpent q) w
spent_taken {v = v} {w = w} {row = row} {q = q} sized lt r k =
    let version = k.1.0 in
    let low : row < (opening v.given).frames = subst (λ n. row < n) (sym sized.given) lt in
    (k.0, (subst (λ (y : Given × ℕ). y.1 < (opening y.0).frames) (λ i. (sym r.missed.ran.given i, sym k.0 i)) low, (version, k.1.1, found_loaded (subst (λ n. HasFound n version v w) (sym k.0) k.1.2))))

-- a row that is held may be given up
pub opens : {z : Shape} {v : View} {row : ℕ} → HoldsOne z v row → OpensOne z v row
opens one = record { first = record { mine = one.first.mine; inside = one.first.inside; done = one.first.done }; only = one.only }
