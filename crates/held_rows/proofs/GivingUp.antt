-- Rows that are given up.
use Rattle.std.proofs.Common.{◌≡◌, ◌≢◌, cond, ◌⊎◌, inl, inr, ℕ, true, List, [], ◌∷◌, sym, ap, subst, ◌∙◌, arith}
use Rattle.row_words.specs.declared.event.Event.{Event}
use Rattle.row_words.specs.declared.event.Event.TheVariants.{Miss}
use Rattle.rows_trait.specs.declared.view.View.{View}
use Rattle.rows_trait.specs.Views.{Shape, holds, held_at}
use Rattle.rows_trait.specs.Turns.{Goes, Released}
use Rattle.rows_trait.proofs.Holds.{holds_without, without_apart}
use Rattle.rows_trait.proofs.Runs.{ran_goes}
use Rattle.lean_proto.proofs.version_latch.Keeping.{may_self}
use Rattle.held_rows.specs.Steps.{MissedUpTo}
use Rattle.held_rows.specs.Rows.{IsOpen, IsUnchanged, OpensOne, OpensTwo, OpensThree}
use Rattle.held_rows.proofs.Holding.{others_left}

-- said of the shape and the row that others speak of
pub released_as : {z y : Shape} {row q : ℕ} {v w : View} → y ≡ z → q ≡ row → Released y q v w → Released z row v w
released_as {v = v} {w = w} a b r = subst (λ (s : Shape × ℕ). Released s.0 s.1 v w) (λ i. (a i, b i)) r

-- ## What is left

module _ {z : Shape} {v w : View} {row : ℕ} (r : Released z row v w) where
  pub still_at : {q : ℕ} → q ≢ row → held_at w.held q ≡ held_at v.held q
  still_at {q} ne = ap (λ hs. held_at hs q) r.held ∙ without_apart v.held row q ne

  pub still_holds : {q : ℕ} → q ≢ row → holds w.held q ≡ holds v.held q
  still_holds {q} ne = ap (λ hs. holds hs q) r.held ∙ holds_without v.held row q ne

  -- what is held was held, and is another row
  pub held_before : (P : ℕ → Type 0) → ((q : ℕ) → holds v.held q ≡ true → (q ≡ row) ⊎ P q) → (q : ℕ) → holds w.held q ≡ true → P q
  held_before P only q h = others_left v.held row P only q (sym (ap (λ hs. holds hs q) r.held) ∙ h)

  still_open : {q : ℕ} → q ≢ row → IsOpen z v q → IsOpen z w q
  still_open ne o = record { mine = still_holds ne ∙ o.mine; inside = o.inside; done = ap (λ h. h.done) (still_at ne) ∙ o.done }

  pub still_unchanged : {q : ℕ} → q ≢ row → IsUnchanged v q → IsUnchanged w q
  still_unchanged ne same = ap (λ h. h.now) (still_at ne) ∙ (same ∙ sym (ap (λ h. h.was) (still_at ne)))

-- of two rows the first one is left
pub one_left : {z : Shape} {v w : View} {a b : ℕ} → OpensTwo z v a b → Released z b v w → OpensOne z w a
one_left {a = a} t r = record {
  first = still_open r t.apart t.first;
  only = held_before r (λ q. q ≡ a) (λ q h. elim (t.only q h) [ inl i ↦ inr i | inr j ↦ inl j ]);
}

-- of three rows the first two
pub two_left : {z : Shape} {v w : View} {a b d : ℕ} → OpensThree z v a b d → Released z d v w → OpensTwo z w a b
two_left {a = a} {b = b} t r = record {
  first = still_open r t.far t.first;
  second = still_open r t.near t.second;
  apart = t.apart;
  only = held_before r (λ q. (q ≡ a) ⊎ (q ≡ b)) (λ q h. elim (t.only q h) [ inl i ↦ inr (inl i) | inr j ↦ elim j [ inl i ↦ inr (inr i) | inr j ↦ inl j ] ]);
}

-- ## Misses

-- a row that had no event is given up, which is a miss
pub released_missed : {z : Shape} {v w : View} {row : ℕ} → IsOpen z v row → Released z row v w → MissedUpTo 1 z.alone v w
released_missed {z = z} {v = v} {w = w} o r = record {
  events = Miss v.actor ∷ [];
  ran = ran_goes z v (Miss v.actor ∷ []) w (may_self z.alone v, tt) (subst (λ (es : List Event). Goes z v es w) (ap (λ b. cond b [] (Miss v.actor ∷ [])) o.done) r.goes);
  misses = tt;
  few = omega arith;
}

-- a row of which an event was published is given up with nothing
pub released_free : {z : Shape} {v w : View} {row : ℕ} → (held_at v.held row).done ≡ true → Released z row v w → Goes z v [] w
released_free {z = z} {v = v} {w = w} done r = subst (λ (es : List Event). Goes z v es w) (ap (λ b. cond b [] (Miss v.actor ∷ [])) done) r.goes
