-- A seat that takes in another keeps the rule. What is left of the other is a spent view, which the rule excepts.
use Rattle.std.proofs.Common.{◌≡◌, ◌≢◌, ℕ, ◌<◌, true, true≢false, ◌⊎◌, inl, inr, ⊎_elim, List, [], ◌∷◌, ◌++◌, set, refl, sym, ap, subst, ◌∙◌, arith}
use mathlib.Core.Option.{some, some-injective}
use lib.ListN.{get_elem?}
use Rattle.atomic_table.specs.Table as table
use Rattle.atomic_table.proofs.Lists.{at_set, set_here, set_else}
use Rattle.rows_trait.specs.row_words.declared.event.Event.{Event}
use Rattle.rows_trait.specs.row_words.Moments.{Moment}
use Rattle.rows_trait.specs.row_words.Sealed.{stepped}
use Rattle.rows_trait.specs.declared.view.Ended.{Ended}
use Rattle.rows_trait.specs.declared.view.View.{View}
use Rattle.rows_trait.specs.Views.{holds, after_all, AreApart, AreBelow, Ends, IsPart}
use Rattle.rows_trait.specs.Inside.{no_view}
use Rattle.rows_trait.specs.Rule.{Plan, Fits, Keeps}
use Rattle.rows_trait.proofs.EventLemmas.{by_none, none_apart}
use Rattle.rows_trait.proofs.Stepping.{in_length, row_cases}
use Rattle.shared_rows.specs.Ruled.{Ruled, joined}

same_apart : (v w : View) (m : Moment) (es : List Event) → AreApart v m es → AreApart (joined v w) m es
same_apart v w m [] a = tt
same_apart v w m (e ∷ es) a = (record { other = a.0.other; part = a.0.part; rows = a.0.rows }, same_apart v w (stepped v.given m e) es a.1)

module _ (k : Plan) (front : List Event) (words : List ℕ) (views : List View) (id : ℕ) (v : View) (other : ℕ) (w : View)
    (keeps : Keeps k front words views) (mine : get_elem? views id ≡ some v) (alive : v.live ≡ true) (apart : other ≢ id) (theirs : get_elem? views other ≡ some w) (w_alive : w.live ≡ true) (w_holds : w.held ≡ []) (makes : 0 < v.made) where
  abbrev now : List View
  now = set (set views id (joined v w)) other no_view

  f : Fits k front words v
  f = keeps.fits id v mine alive

  h : Fits k front words w
  h = keeps.fits other w theirs w_alive

  -- what the other had seen is a part of what has happened
  ended_part : IsPart w.actor w.seen front
  ended_part = record { rest = h.rest; whole = h.whole; others = by_none w.actor h.rest (none_apart w (after_all k.given w.seen) h.rest h.apart) }

  joined_fits : Fits k front words (joined v w)
  joined_fits = record {
    given = f.given;
    rest = f.rest;
    whole = f.whole;
    apart = same_apart v w (after_all k.given v.seen) f.rest f.apart;
    memory = f.memory;
    still = f.still;
    held = f.held;
    low = f.low;
  }

  -- a live view was there before, with the same actor and holds
  abbrev Was : ℕ → View → Type 0
  Was j u = (x : View) × (get_elem? views j ≡ some x) × (x.live ≡ true) × (x.actor ≡ u.actor) × (x.held ≡ u.held) × (x.made ≡ u.made) × (j ≢ other) × (((j ≡ id) × (joined v w ≡ u)) ⊎ (x ≡ u))

  was : (j : ℕ) (u : View) → get_elem? now j ≡ some u → u.live ≡ true → Was j u
  was j u e l = ⊎_elim
      (λ (t : (j ≡ other) × (no_view ≡ u)). absurd (true≢false (sym l ∙ ap (λ z. z.live) (sym t.1))))
      (λ (t : (j ≢ other) × (get_elem? (set views id (joined v w)) j ≡ some u)). ⊎_elim
      (λ (r : (j ≡ id) × (joined v w ≡ u)). (v, ap (get_elem? views) r.0 ∙ mine, alive, ap (λ z. z.actor) r.1, ap (λ z. z.held) r.1, ap (λ z. z.made) r.1, t.0, inl r))
      (λ (r : (j ≢ id) × (get_elem? views j ≡ some u)). (u, r.1, l, refl, refl, refl, t.0, inr refl))
      (at_set views id j (joined v w) u t.1))
      (at_set (set views id (joined v w)) other j no_view u e)

  ended_now : (i : ℕ) (a : View) → get_elem? now i ≡ some a → a.live ≡ true → (n : ℕ) (own : List Event) → Ends n own a.ended
      → (n < a.made) × IsPart n own front × ((j : ℕ) (b : View) → get_elem? now j ≡ some b → b.live ≡ true → b.actor ≢ n)
  ended_now i a ea la n own is =
      let x = was i a ea la in
      let old : (y : View) (at : ℕ) → get_elem? views at ≡ some y → y.live ≡ true → y.made ≡ a.made → Ends n own y.ended → (n < a.made) × IsPart n own front × ((j : ℕ) (b : View) → get_elem? now j ≡ some b → b.live ≡ true → b.actor ≢ n)
      = λ y at ey ly same en. let o = keeps.ended at y ey ly n own en in let lt = o.0 in (omega arith, o.1, λ j b eb lb s. let z = was j b eb lb in o.2 j z.0 z.1 z.2 (z.3 ∙ s)) in
      ⊎_elim
      (λ (r : (i ≡ id) × (joined v w ≡ a)).
      let P : List Ended → Type 0 = λ z. Ends n own z in
      ⊎_elim
      (λ (t : (w.actor ≡ n) × (w.seen ≡ own)).
      let m = ap (λ z. z.made) r.1 in
      let b = (keeps.makers id other v w mine theirs alive w_alive makes).0 in
      let s = t.0 in
      (omega arith, subst (λ (z : ℕ × List Event). IsPart z.0 z.1 front) (λ q. (t.0 q, t.1 q)) ended_part, λ j c ec lc same. let z = was j c ec lc in z.6 (keeps.actors j other z.0 w z.1 theirs z.2 w_alive (z.3 ∙ (same ∙ sym s)))))
      (λ (t : Ends n own v.ended). old v id mine alive (ap (λ z. z.made) r.1) t)
      (subst P (sym (ap (λ z. z.ended) r.1)) is))
      (λ (s : x.0 ≡ a). let P : View → Type 0 = λ z. Ends n own z.ended in old x.0 i x.1 x.2 x.5 (subst P (sym s) is))
      x.7

  pub joins : Keeps k front words now
  joins = record {
    size = keeps.size;
    free = keeps.free;
    few = keeps.few;
    controls = keeps.controls;
    tame = keeps.tame;
    fits = λ j u e l. let x = was j u e l in ⊎_elim
        (λ (r : (j ≡ id) × (joined v w ≡ u)). subst (Fits k front words) r.1 joined_fits)
        (λ (s : x.0 ≡ u). subst (Fits k front words) s (keeps.fits j x.0 x.1 x.2))
        x.7;
    actors = λ i j a b ea eb la lb same. let x = was i a ea la in let y = was j b eb lb in keeps.actors i j x.0 y.0 x.1 y.1 x.2 y.2 (x.3 ∙ (same ∙ sym y.3));
    owners = λ i j a b ea eb la lb row ha hb. let x = was i a ea la in let y = was j b eb lb in keeps.owners i j x.0 y.0 x.1 y.1 x.2 y.2 row (ap (λ z. holds z row) x.4 ∙ ha) (ap (λ z. holds z row) y.4 ∙ hb);
    makers = λ i j a b ea eb la lb up.
        let x = was i a ea la in let y = was j b eb lb in
        let m = keeps.makers i j x.0 y.0 x.1 y.1 x.2 y.2 (let e = x.5 in omega arith) in
        (let e = x.5 in let g = y.3 in let o = m.0 in omega arith, λ up'. m.1 (let e = y.5 in omega arith));
    below = λ i a ea la up rest e. let x = was i a ea la in ⊎_elim
        (λ (r : (i ≡ id) × (joined v w ≡ a)). subst (λ (y : View). front ≡ y.seen ++ rest → AreBelow y.made rest) r.1 (keeps.below id v mine alive makes rest) e)
        (λ (s : x.0 ≡ a). let P : View → Type 0 = λ y. front ≡ y.seen ++ rest → 0 < y.made → AreBelow y.made rest in subst P s (λ e' up'. keeps.below i x.0 x.1 x.2 up' rest e') e up)
        x.7;
    ended = ended_now;
    latched = λ row lt o. let l = keeps.latched row lt o in still row l.0 l.1 l.2 l.3 l.4;
  }
    where
      still : (row j : ℕ) (u : View) → get_elem? views j ≡ some u → u.live ≡ true → holds u.held row ≡ true → (j : ℕ) × (x : View) × (get_elem? now j ≡ some x) × (x.live ≡ true) × (holds x.held row ≡ true)
      still row j u e l y = row_cases j other
          (λ s. let same = some-injective u w (sym e ∙ (ap (get_elem? views) s ∙ theirs)) in absurd (true≢false (sym y ∙ (ap (λ z. holds z.held row) same ∙ ap (λ z. holds z row) w_holds))))
          (λ ne. row_cases j id
          (λ s. let same = some-injective u v (sym e ∙ (ap (get_elem? views) s ∙ mine)) in
          (id, joined v w, set_else (set views id (joined v w)) other id no_view (λ z. apart (sym z)) ∙ set_here views id (joined v w) (in_length views id v mine), alive, ap (λ z. holds z.held row) (sym same) ∙ y))
          (λ off. (j, u, set_else (set views id (joined v w)) other j no_view ne ∙ (set_else views id j (joined v w) off ∙ e), l, y)))

pub may_join : (k : Plan) (id : ℕ) (v : View) (other : ℕ) (w : View) → v.live ≡ true → 0 < v.made → w.live ≡ true → w.held ≡ [] → table.Joins (Ruled k) id v other w (joined v w) no_view
may_join k id v other w alive makes w_alive w_holds s ruled mine apart theirs =
    (ruled.0, joins k ruled.0 s.words s.views id v other w ruled.1 mine alive apart (sym (set_else s.views id other (joined v w) apart) ∙ theirs) w_alive w_holds makes)
