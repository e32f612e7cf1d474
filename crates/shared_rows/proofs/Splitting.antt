-- A seat that makes another keeps the rule.
use Rattle.std.proofs.Common.{◌≡◌, ◌≢◌, ℕ, zero, suc, ◌<◌, ◌≤◌, true, true≢false, ◌⊎◌, inl, inr, ⊎_elim, List, [], ◌∷◌, ◌++◌, length, set, refl, sym, ap, subst, ◌∙◌, arith}
use mathlib.Core.Option.{some, some-ne-none, some-injective}
use lib.ListN.{get_elem?}
use Rattle.atomic_table.specs.Table as table
use Rattle.atomic_table.proofs.Lists.{at_set, set_here, set_else, at_longer}
use Rattle.rows_trait.specs.row_words.declared.event.Event.{Event}
use Rattle.rows_trait.specs.row_words.declared.given.Given.{Given}
use Rattle.rows_trait.specs.row_words.Moments.{Moment}
use Rattle.rows_trait.specs.row_words.Sealed.{stepped}
use Rattle.rows_trait.specs.Layout.{Sizes}
use Rattle.rows_trait.specs.declared.view.Ended.{Ended}
use Rattle.rows_trait.specs.declared.view.View.{View}
use Rattle.rows_trait.specs.Views.{holds, after_all, AreApart, NoSync, AreBelow, Ends, IsPart}
use Rattle.rows_trait.specs.Inside.{NoneBy}
use Rattle.rows_trait.specs.Rule.{Plan, Remembers, Fits, Keeps}
use Rattle.rows_trait.proofs.EventLemmas.{apart_sync}
use Rattle.rows_trait.proofs.Stepping.{in_length, row_cases}
use Rattle.shared_rows.specs.Ruled.{Ruled, newcomer, making, maker, made_by}

pub at_end : {A : Type 0} (l : List A) (a b : A) (j : ℕ) → get_elem? (l ++ a ∷ []) j ≡ some b → (get_elem? l j ≡ some b) ⊎ ((j ≡ length l) × (a ≡ b))
at_end [] a b zero e = inr (refl, some-injective a b e)
at_end [] a b (suc j) e = absurd (some-ne-none b (sym e))
at_end (x ∷ xs) a b zero e = inl e
at_end (x ∷ xs) a b (suc j) e = ⊎_elim (λ t. inl t) (λ (t : (j ≡ length xs) × (a ≡ b)). inr (ap suc t.0, t.1)) (at_end xs a b j e)

below_up : (m n : ℕ) (es : List Event) → m < n → AreBelow m es → AreBelow n es
below_up m n [] lt a = tt
below_up m n (e ∷ es) lt a = (let h = a.0 in omega arith, below_up m n es lt a.1)

none_below : (m a : ℕ) (es : List Event) → a ≡ m → AreBelow m es → NoneBy a es
none_below m a [] e b = tt
none_below m a (x ∷ es) e b = ((λ s. let h = b.0 in omega arith), none_below m a es e b.1)

-- events of others, none of which is a sync, are apart from a new seat
pub none_apart_of : (actor : ℕ) (given : Given) (seen : List Event) (m : Moment) (es : List Event) → NoneBy actor es → NoSync es → AreApart (newcomer actor given seen) m es
none_apart_of actor given seen m [] n s = tt
none_apart_of actor given seen m (e ∷ es) n s = (record { other = n.0; part = s.0; rows = λ row h. absurd (true≢false (sym h)) }, none_apart_of actor given seen (stepped given m e) es n.1 s.1)

pub remembers_nothing : (z : Sizes) (words : List ℕ) → Remembers z words []
remembers_nothing z words = record { rising = λ row s h. absurd h; within = λ row s i x h. absurd h; known = λ row s i x h e. absurd h }

module _ (k : Plan) (front : List Event) (words : List ℕ) (views : List View) (id : ℕ) (v : View) (keeps : Keeps k front words views) (mine : get_elem? views id ≡ some v) (alive : v.live ≡ true) (makes : 0 < v.made) where
  abbrev now : List View
  now = set views id (maker v) ++ made_by v ∷ []

  fit : Fits k front words v
  fit = keeps.fits id v mine alive

  -- a seat that was there before, in what a split leaves
  abbrev Was : ℕ → View → Type 0
  Was j u = (x : View) × (get_elem? views j ≡ some x) × (x.live ≡ u.live) × (u ≡ making u.made x) × (x.made ≤ u.made) × ((j ≡ id) ⊎ (u.made ≡ x.made))

  abbrev IsNew : ℕ → View → Type 0
  IsNew j u = (j ≡ length (set views id (maker v))) × (made_by v ≡ u)

  origin : (j : ℕ) (u : View) → get_elem? now j ≡ some u → Was j u ⊎ IsNew j u
  origin j u e = ⊎_elim
      (λ (o : get_elem? (set views id (maker v)) j ≡ some u). inl (⊎_elim
      (λ (t : (j ≡ id) × (maker v ≡ u)). let P : View → Type 0 = λ z. (x : View) × (get_elem? views j ≡ some x) × (x.live ≡ z.live) × (z ≡ making z.made x) × (x.made ≤ z.made) × ((j ≡ id) ⊎ (z.made ≡ x.made)) in
      subst P t.1 (v, ap (get_elem? views) t.0 ∙ mine, refl, refl, omega arith, inl t.0))
      (λ (t : (j ≢ id) × (get_elem? views j ≡ some u)). (u, t.1, refl, refl, omega arith, inr refl))
      (at_set views id j (maker v) u o)))
      (λ (n : IsNew j u). inr n)
      (at_end (set views id (maker v)) (made_by v) u j e)

  kept_fits : (j : ℕ) (u : View) → u.live ≡ true → Was j u → Fits k front words u
  kept_fits j u l w = let f = keeps.fits j w.0 w.1 (w.2 ∙ l) in subst (Fits k front words) (sym w.3) record {
    given = f.given;
    rest = f.rest;
    whole = f.whole;
    apart = same_apart f.rest (after_all k.given w.0.seen) f.apart;
    memory = f.memory;
    still = f.still;
    held = λ row h. let g = f.held row h in record { inside = g.inside; even = g.even; room = g.room; odd = g.odd; size = g.size; now = g.now; was = g.was; counted = g.counted };
    low = f.low;
  }
    where
      same_apart : (es : List Event) (m : Moment) → AreApart w.0 m es → AreApart (making u.made w.0) m es
      same_apart [] m a = tt
      same_apart (e ∷ es) m a = (record { other = a.0.other; part = a.0.part; rows = a.0.rows }, same_apart es (stepped w.0.given m e) a.1)

  none_of_new : NoneBy v.made fit.rest
  none_of_new = none_below v.made v.made fit.rest refl (keeps.below id v mine alive makes fit.rest fit.whole)

  new_fits : Fits k front words (made_by v)
  new_fits = record {
    given = fit.given;
    rest = fit.rest;
    whole = fit.whole;
    apart = none_apart_of v.made v.given v.seen (after_all k.given v.seen) fit.rest none_of_new (apart_sync v (after_all k.given v.seen) fit.rest fit.apart);
    memory = remembers_nothing k.sizes words;
    still = λ row s at h e. absurd h;
    held = λ row h. absurd (true≢false (sym h));
    low = tt;
  }

  -- who makes seats is the one that made this one
  maker_is : (j : ℕ) (x : View) → get_elem? views j ≡ some x → x.live ≡ true → 0 < x.made → (j ≡ id) × (x ≡ v)
  maker_is j x e l up = let s = (keeps.makers j id x v e mine l alive up).1 makes in (s, some-injective x v (sym e ∙ (ap (get_elem? views) s ∙ mine)))

  actor_below : (j : ℕ) (x : View) → get_elem? views j ≡ some x → x.live ≡ true → x.actor < v.made
  actor_below j x e l = (keeps.makers id j v x mine e alive l makes).0

  actor_was : (j : ℕ) (u : View) (w : Was j u) → u.actor ≡ w.0.actor
  actor_was j u w = ap (λ z. z.actor) w.3

  was_made : (j : ℕ) (u : View) → u.live ≡ true → (w : Was j u) → 0 < u.made → 0 < w.0.made
  was_made j u l w up = ⊎_elim
      (λ (s : j ≡ id). let same = some-injective w.0 v (sym w.1 ∙ (ap (get_elem? views) s ∙ mine)) in let e = ap (λ z. z.made) same in omega arith)
      (λ (s : u.made ≡ w.0.made). omega arith) w.5

  -- the maker has a number more
  more : (j : ℕ) (u : View) → get_elem? now j ≡ some u → u.live ≡ true → 0 < u.made → (w : Was j u) → v.made < u.made
  more j u e l up w =
      let m = maker_is j w.0 w.1 (w.2 ∙ l) (was_made j u l w up) in
      let at : get_elem? now j ≡ some (maker v) = ap (get_elem? now) m.0 ∙ at_longer (set views id (maker v)) (made_by v ∷ []) id (maker v) (set_here views id (maker v) (in_length views id v mine)) in
      let same = some-injective (maker v) u (sym at ∙ e) in
      let s = ap (λ z. z.made) same in omega arith

  new_makes_none : (u : View) → made_by v ≡ u → 0 < u.made → ⊥
  new_makes_none u e up = let s = ap (λ z. z.made) e in omega arith

  split_makers : (i j : ℕ) (a b : View) → get_elem? now i ≡ some a → get_elem? now j ≡ some b → a.live ≡ true → b.live ≡ true → 0 < a.made → (b.actor < a.made) × (0 < b.made → i ≡ j)
  split_makers i j a b ea eb la lb up = ⊎_elim
      (λ (w : Was i a). let up' = was_made i a la w up in let m = more i a ea la up w in ⊎_elim
      (λ (y : Was j b). let s = actor_was j b y in let t = actor_below j y.0 y.1 (y.2 ∙ lb) in
      (omega arith, λ ub. (keeps.makers i j w.0 y.0 w.1 y.1 (w.2 ∙ la) (y.2 ∙ lb) up').1 (was_made j b lb y ub)))
      (λ (n : IsNew j b). let s = ap (λ z. z.actor) n.1 in (omega arith, λ ub. absurd (new_makes_none b n.1 ub)))
      (origin j b eb))
      (λ (n : IsNew i a). absurd (new_makes_none a n.1 up))
      (origin i a ea)

  split_ended : (i : ℕ) (a : View) → get_elem? now i ≡ some a → a.live ≡ true → (n : ℕ) (own : List Event) → Ends n own a.ended
      → (n < a.made) × IsPart n own front × ((j : ℕ) (b : View) → get_elem? now j ≡ some b → b.live ≡ true → b.actor ≢ n)
  split_ended i a ea la n own is = ⊎_elim
      (λ (w : Was i a).
      let P : List Ended → Type 0 = λ z. Ends n own z in
      let old = keeps.ended i w.0 w.1 (w.2 ∙ la) n own (subst P (ap (λ z. z.ended) w.3) is) in
      let le = w.4 in let lt = old.0 in
      let m = maker_is i w.0 w.1 (w.2 ∙ la) (omega arith) in
      let vm = ap (λ z. z.made) m.1 in (
        omega arith,
        old.1,
        λ j b eb lb same. ⊎_elim
            (λ (y : Was j b). old.2 j y.0 y.1 (y.2 ∙ lb) (sym (actor_was j b y) ∙ same))
            (λ (t : IsNew j b). let s = ap (λ z. z.actor) t.1 in absurd (omega arith))
            (origin j b eb),
      ))
      (λ (t : IsNew i a). let P : List Ended → Type 0 = λ z. Ends n own z in absurd (subst P (sym (ap (λ z. z.ended) t.1)) is))
      (origin i a ea)

  pub splits : Keeps k front words now
  splits = record {
    size = keeps.size;
    free = keeps.free;
    few = keeps.few;
    controls = keeps.controls;
    tame = keeps.tame;
    fits = λ j u e l. ⊎_elim (λ (w : Was j u). kept_fits j u l w) (λ (n : IsNew j u). subst (Fits k front words) n.1 new_fits) (origin j u e);
    actors = λ i j a b ea eb la lb same. ⊎_elim
        (λ (w : Was i a). ⊎_elim
        (λ (y : Was j b). keeps.actors i j w.0 y.0 w.1 y.1 (w.2 ∙ la) (y.2 ∙ lb) (sym (actor_was i a w) ∙ (same ∙ actor_was j b y)))
        (λ (n : IsNew j b). let s = ap (λ z. z.actor) n.1 in let t = actor_was i a w in let h = actor_below i w.0 w.1 (w.2 ∙ la) in absurd (omega arith))
        (origin j b eb))
        (λ (m : IsNew i a). ⊎_elim
        (λ (y : Was j b). let s = ap (λ z. z.actor) m.1 in let t = actor_was j b y in let h = actor_below j y.0 y.1 (y.2 ∙ lb) in absurd (omega arith))
        (λ (n : IsNew j b). m.0 ∙ sym n.0)
        (origin j b eb))
        (origin i a ea);
    owners = λ i j a b ea eb la lb row ha hb. ⊎_elim
        (λ (w : Was i a). ⊎_elim
        (λ (y : Was j b). keeps.owners i j w.0 y.0 w.1 y.1 (w.2 ∙ la) (y.2 ∙ lb) row (ap (λ z. holds z.held row) (sym w.3) ∙ ha) (ap (λ z. holds z.held row) (sym y.3) ∙ hb))
        (λ (n : IsNew j b). absurd (true≢false (sym hb ∙ ap (λ z. holds z.held row) (sym n.1))))
        (origin j b eb))
        (λ (m : IsNew i a). absurd (true≢false (sym ha ∙ ap (λ z. holds z.held row) (sym m.1))))
        (origin i a ea);
    makers = split_makers;
    below = λ i a ea la up rest e. ⊎_elim
        (λ (w : Was i a).
        let m = maker_is i w.0 w.1 (w.2 ∙ la) (was_made i a la w up) in
        let at : v.seen ≡ a.seen = ap (λ z. z.seen) (sym m.1) ∙ ap (λ z. z.seen) (sym w.3) in
        below_up v.made a.made rest (more i a ea la up w) (keeps.below id v mine alive makes rest (e ∙ ap (λ z. z ++ rest) (sym at))))
        (λ (n : IsNew i a). absurd (new_makes_none a n.1 up))
        (origin i a ea);
    ended = split_ended;
    latched = λ row lt o. let l = keeps.latched row lt o in split_latched row l.0 l.1 l.2 l.3 l.4;
  }
    where
      split_latched : (row j : ℕ) (u : View) → get_elem? views j ≡ some u → u.live ≡ true → holds u.held row ≡ true → (j : ℕ) × (x : View) × (get_elem? now j ≡ some x) × (x.live ≡ true) × (holds x.held row ≡ true)
      split_latched row j u e l h = ⊎_elim
          (λ (s : j ≡ id). let same = some-injective u v (sym e ∙ (ap (get_elem? views) s ∙ mine)) in
          (id, maker v, at_longer (set views id (maker v)) (made_by v ∷ []) id (maker v) (set_here views id (maker v) (in_length views id v mine)), alive, ap (λ z. holds z.held row) (sym same) ∙ h))
          (λ (ne : j ≢ id). (j, u, at_longer (set views id (maker v)) (made_by v ∷ []) j u (set_else views id j (maker v) ne ∙ e), l, h))
          (row_cases j id (λ s. inl s) (λ ne. inr ne))

pub may_split : (k : Plan) (id : ℕ) (v : View) → v.live ≡ true → 0 < v.made → table.Splits (Ruled k) id v (maker v) (made_by v)
may_split k id v alive makes s ruled mine = (ruled.0, splits k ruled.0 s.words s.views id v ruled.1 mine alive makes)
