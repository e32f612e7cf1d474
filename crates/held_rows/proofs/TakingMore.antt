-- Rows that are latched one after the other, where none was held.
use Rattle.std.proofs.Common.{◌≡◌, ◌≢◌, ◌==◌, cond, ◌<◌, ◌⊎◌, inl, inr, ℕ, Bool, true, false, [], length, refl, sym, ap, subst, ◌∙◌, eq-eqb, arith, true≢false}
use Rattle.std.proofs.lemmas.Bool.{cond-true, cond-false, ne_eqb}
use Rattle.std.proofs.lemmas.Bool.Decides.{nat_tests}
use Rattle.row_words.specs.declared.given.Given.{Given}
use Rattle.row_words.specs.Openings.{opening}
use Rattle.rows_trait.specs.declared.view.View.{View}
use Rattle.rows_trait.specs.Views.{Shape, hold, holds, held_at}
use Rattle.rows_trait.proofs.Runs.{ran_append}
use Rattle.held_rows.specs.Steps.{MissedUpTo}
use Rattle.held_rows.specs.Rows.{IsFrame, HoldsOne}
use Rattle.held_rows.specs.Latching.{Took, IsFrameRow, TookTwo, TookThree}

-- the frames are the same for each view of the rows
pub frame_row_on : {z : Shape} {v w : View} {row : ℕ} → w.given ≡ v.given → IsFrameRow z v row → IsFrameRow z w row
frame_row_on {row = row} e f = record { frames = subst (λ (g : Given). row < (opening g).frames) (sym e) f.frames; inside = f.inside; wide = f.wide }

-- another row than the one that was latched is held as before
pub took_other : {z : Shape} {v u : View} {a : ℕ} (q : ℕ) → a ≢ q → Took z a v u → holds v.held q ≡ false → holds u.held q ≡ false
took_other {v = v} {a = a} q ne t none = ap (λ hs. holds hs q) t.held ∙ (cond-false (a == q) true (holds v.held q) (ne_eqb a q ne) ∙ none)

pub took_missed : {z : Shape} {v u : View} {a : ℕ} → Took z a v u → MissedUpTo 0 z.alone v u
took_missed t = record { events = []; ran = t.ran; misses = tt; few = omega arith }

module _ {z : Shape} {v w : View} {a : ℕ} (t : Took z a v w) where
  at_taken : held_at w.held a ≡ hold a t.version t.was t.was false
  at_taken = ap (λ hs. held_at hs a) t.held ∙ cond-true (a == a) _ (held_at v.held a) (eq-eqb a a refl)

  -- the row that was latched
  taken : IsFrameRow z w a → IsFrame z w a
  taken f =
      let mine : holds w.held a ≡ true = ap (λ hs. holds hs a) t.held ∙ cond-true (a == a) true (holds v.held a) (eq-eqb a a refl) in record {
        mine = mine;
        frames = f.frames;
        inside = f.inside;
        wide = f.wide;
        done = ap (λ h. h.done) at_taken;
        same = ap (λ h. h.now) at_taken ∙ sym (ap (λ h. h.was) at_taken);
        size = ap (λ h. length h.was) at_taken ∙ (t.size ∙ f.wide);
        spells = λ i l. t.stands a mine i (let e = f.wide in omega arith);
      }

  pub not_held : (q : ℕ) → holds v.held q ≡ true → q ≢ a
  not_held q h e = true≢false (sym h ∙ (ap (holds v.held) e ∙ t.fresh))

  -- a row that was held before
  held_still : (q : ℕ) → IsFrame z v q → IsFrame z w q
  held_still q f =
      let off : (a == q) ≡ false = ne_eqb a q (λ e. not_held q f.mine (sym e)) in
      let at : held_at w.held q ≡ held_at v.held q = ap (λ hs. held_at hs q) t.held ∙ cond-false (a == q) _ (held_at v.held q) off in
      let mine : holds w.held q ≡ true = ap (λ hs. holds hs q) t.held ∙ (cond-false (a == q) true (holds v.held q) off ∙ f.mine) in record {
        mine = mine;
        frames = subst (λ (g : Given). q < (opening g).frames) (sym t.ran.given) f.frames;
        inside = f.inside;
        wide = f.wide;
        done = ap (λ h. h.done) at ∙ f.done;
        same = ap (λ h. h.now) at ∙ (f.same ∙ sym (ap (λ h. h.was) at));
        size = ap (λ h. length h.was) at ∙ f.size;
        spells = λ i l. t.stands q mine i (let e = f.wide in omega arith);
      }

  -- what is held is that row, or was held
  held_or : (q : ℕ) → holds w.held q ≡ true → (q ≡ a) ⊎ (holds v.held q ≡ true)
  held_or q h = go (a == q) refl (sym (ap (λ hs. holds hs q) t.held) ∙ h)
    where
      go : (x : Bool) → (a == q) ≡ x → cond (a == q) true (holds v.held q) ≡ true → (q ≡ a) ⊎ (holds v.held q ≡ true)
      go true e h = inl (grind (arith, nat_tests))
      go false e h = inr (sym (cond-false (a == q) true (holds v.held q) e) ∙ h)

-- the first one
pub took_one : {z : Shape} {v w : View} {a : ℕ} → v.held ≡ [] → IsFrameRow z v a → Took z a v w → HoldsOne z w a
took_one {v = v} {a = a} none f t = record {
  first = taken t (frame_row_on t.ran.given f);
  only = λ q h. elim (held_or t q h) [ inl i ↦ i | inr j ↦ absurd (true≢false (sym j ∙ ap (λ hs. holds hs q) none)) ];
}

-- a second one
pub took_two : {z : Shape} {v u w : View} {a b : ℕ} → HoldsOne z u a → IsFrameRow z v b → Took z a v u → Took z b u w → TookTwo z a b v w
took_two {z = z} {v = v} {u = u} {w = w} {a = a} {b = b} o f s t =
    let ran = ran_append z.alone v [] u [] w s.ran t.ran in record {
      ran = ran;
      two = record {
        first = held_still t a o.first;
        second = taken t (frame_row_on ran.given f);
        apart = not_held t a o.first.mine;
        only = λ q h. elim (held_or t q h) [ inl i ↦ inr i | inr j ↦ inl (o.only q j) ];
      };
    }

-- a third one
pub took_three : {z : Shape} {v u w : View} {a b d : ℕ} → IsFrameRow z v d → TookTwo z a b v u → Took z d u w → TookThree z a b d v w
took_three {z = z} {v = v} {u = u} {w = w} {a = a} {b = b} {d = d} f s t =
    let ran = ran_append z.alone v [] u [] w s.ran t.ran in record {
      ran = ran;
      three = record {
        first = held_still t a s.two.first;
        second = held_still t b s.two.second;
        third = taken t (frame_row_on ran.given f);
        apart = s.two.apart;
        far = not_held t a s.two.first.mine;
        near = not_held t b s.two.second.mine;
        only = λ q h. elim (held_or t q h) [ inl i ↦ inr (inr i) | inr j ↦ elim (s.two.only q j) [ inl x ↦ inl x | inr y ↦ inr (inl y) ] ];
      };
    }

pub two_missed : {z : Shape} {v u : View} {a b : ℕ} → TookTwo z a b v u → MissedUpTo 0 z.alone v u
two_missed t = record { events = []; ran = t.ran; misses = tt; few = omega arith }
