-- An event is published at a held row, and then the others which it changes are given up.
use Rattle.std.proofs.Common.{◌≡◌, ◌≢◌, ◌⊎◌, inl, ℕ, true, List, [], ◌∷◌, ◌++◌, append-nil, append_assoc, sym, ap, ◌∙◌}
use Rattle.row_words.specs.declared.event.Event.{Event}
use Rattle.row_words.specs.Moments.{Moment, actor_of}
use Rattle.rows_trait.specs.declared.view.View.{View}
use Rattle.rows_trait.specs.Views.{Shape, after_all, holds, held_at, without, may}
use Rattle.rows_trait.specs.Turns.{Published, Released, Ran}
use Rattle.rows_trait.proofs.Holds.{holds_without, without_apart, holds_settle, settle_at, settled}
use Rattle.rows_trait.proofs.Runs.{ran_goes, ran_append}
use Rattle.held_rows.specs.Rows.{OpensOne, OpensTwo, OpensThree}
use Rattle.held_rows.specs.Publishing.{IsChanged, Went}
use Rattle.held_rows.proofs.Holding.{none_held, others_left}
use Rattle.held_rows.proofs.GivingUp.{still_at, still_holds, held_before, released_free}

abbrev one_of : Event → List Event → Event
one_of d [] = d
one_of d (e ∷ es) = e

-- of two that are named alone the one is the other
pub named_once : {e f : Event} {names : List Event} → names ≡ e ∷ [] → names ≡ f ∷ [] → e ≡ f
named_once {e} a b = ap (one_of e) (sym a ∙ b)

module _ {z : Shape} {v u : View} {a : ℕ} {e : Event} (p : Published z a e v u) where
  abbrev at : Moment
  at = after_all v.given (v.seen ++ p.goes.between)

  -- what is held behind it was held, and is another row
  held_on : (P : ℕ → Type 0) → ((q : ℕ) → holds v.held q ≡ true → (q ≡ a) ⊎ P q) → (q : ℕ) → holds u.held q ≡ true → P q
  held_on P only q h = others_left v.held a P only q (sym (ap (λ hs. holds hs q) p.held ∙ holds_settle v.given at (without v.held a) e q) ∙ h)

  -- another row that the event changes
  module _ {q : ℕ} (apart : q ≢ a) (mine : holds v.held q ≡ true) (its : IsChanged z v e q) where
    settled_is : held_at u.held q ≡ settled true (held_at v.held q)
    settled_is =
        ap (λ hs. held_at hs q) p.held
        ∙ (settle_at v.given at (without v.held a) e q (holds_without v.held a q apart ∙ mine)
        ∙ (λ i. settled (its p.goes.between p.goes.quiet p.goes.apart i) (without_apart v.held a q apart i)))

    settled_holds : holds u.held q ≡ true
    settled_holds = ap (λ hs. holds hs q) p.held ∙ (holds_settle v.given at (without v.held a) e q ∙ (holds_without v.held a q apart ∙ mine))

    settled_done : (held_at u.held q).done ≡ true
    settled_done = ap (λ h. h.done) settled_is

    -- it can be given up
    pub settled_free : (holds u.held q ≡ true) × ((held_at u.held q).now ≡ (held_at u.held q).was)
    settled_free = (settled_holds, ap (λ h. h.now) settled_is ∙ sym (ap (λ h. h.was) settled_is))

  -- what was published went, where nothing is appended behind it and nothing is held then
  went : {w : View} → may z.alone v (actor_of e) ≡ true → Ran z.alone u [] w → (later : List Event) → w.seen ≡ u.seen ++ later → w.held ≡ [] → Went z.alone v e w
  went {w} actor ran later seen held = record {
    between = p.goes.between;
    quiet = p.goes.quiet;
    apart = p.goes.apart;
    ran = ran_append z.alone v (e ∷ []) u [] w (ran_goes z v (e ∷ []) u (actor, tt) p.goes) ran;
    later = later;
    seen = seen ∙ ap (λ ys. ys ++ later) p.goes.seen;
    held = held;
  }

  pub one_went : may z.alone v (actor_of e) ≡ true → OpensOne z v a → Went z.alone v e u
  one_went actor t = went actor (Rattle.rows_trait.proofs.Runs.ran_none z.alone u) [] (sym (append-nil u.seen)) (none_held u.held (held_on (λ q. ⊥) (λ q h. inl (t.only q h))))

  -- ## Two rows

  module _ {b : ℕ} (t : OpensTwo z v a b) (its : IsChanged z v e b) where
    pub second_free : (holds u.held b ≡ true) × ((held_at u.held b).now ≡ (held_at u.held b).was)
    second_free = settled_free (λ x. t.apart (sym x)) t.second.mine its

    pub two_went : {w : View} → may z.alone v (actor_of e) ≡ true → Released z b u w → Went z.alone v e w
    two_went {w} actor r =
        let g = released_free (settled_done (λ x. t.apart (sym x)) t.second.mine its) r in
        went actor (ran_goes z u [] w tt g) g.between (g.seen ∙ append-nil (u.seen ++ g.between))
        (none_held w.held (held_before r (λ q. ⊥) (λ q h. inl (held_on (λ q. q ≡ b) t.only q h))))

  -- ## Three rows

  module _ {b d : ℕ} (t : OpensThree z v a b d) (second : IsChanged z v e b) (third : IsChanged z v e d) where
    pub middle_free : (holds u.held b ≡ true) × ((held_at u.held b).now ≡ (held_at u.held b).was)
    middle_free = settled_free (λ x. t.apart (sym x)) t.second.mine second

    module _ {x : View} (r : Released z b u x) where
      abbrev far : d ≢ b
      far = λ (y : d ≡ b). t.near (sym y)

      last_free : (held_at u.held d).now ≡ (held_at u.held d).was
      last_free = (settled_free (λ y. t.far (sym y)) t.third.mine third).1

      pub third_free : (holds x.held d ≡ true) × ((held_at x.held d).now ≡ (held_at x.held d).was)
      third_free = (
        still_holds r far ∙ settled_holds (λ y. t.far (sym y)) t.third.mine third,
        ap (λ h. h.now) (still_at r far) ∙ (last_free ∙ sym (ap (λ h. h.was) (still_at r far))),
      )

      pub three_went : {w : View} → may z.alone v (actor_of e) ≡ true → Released z d x w → Went z.alone v e w
      three_went {w} actor s =
          let g = released_free (settled_done (λ y. t.apart (sym y)) t.second.mine second) r in
          let f = released_free (ap (λ h. h.done) (still_at r far) ∙ settled_done (λ y. t.far (sym y)) t.third.mine third) s in
          went actor (ran_append z.alone u [] x [] w (ran_goes z u [] x tt g) (ran_goes z x [] w tt f)) (g.between ++ f.between)
          (f.seen ∙ (append-nil (x.seen ++ f.between) ∙ (ap (λ ys. ys ++ f.between) (g.seen ∙ append-nil (u.seen ++ g.between)) ∙ append_assoc u.seen g.between f.between)))
          (none_held w.held (held_before s (λ q. ⊥) (λ q h. inl (held_before r (λ q. q ≡ d) (held_on (λ q. (q ≡ b) ⊎ (q ≡ d)) t.only) q h))))
