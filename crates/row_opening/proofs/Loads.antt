-- The loads of all levels, the greatest first, and of the free pages behind them: each need is met, and then each page is hot in the frame
-- of its own number.
use Rattle.std.proofs.Common.{◌≡◌, ◌<◌, ◌≤◌, ◌+◌, ◌&&◌, ◌||◌, ◌==◌, not, ltb, leb, ℕ, zero, suc, Bool, true, false, List, [], ◌∷◌, ◌++◌, length, refl, sym, ap, ◌∙◌, subst, true≢false, arith}
use Rattle.std.specs.Prelude.{if◌then◌else◌}
use Rattle.std.proofs.lemmas.Bool.{lt-ltb, le-ltb, eqb-true, ne_eqb, and_parts, not-true, and_from, or_left, or_right, cond-true, cond-false}
use Rattle.std.proofs.lemmas.Bool.Decides.{nat_tests}
use Rattle.map_model.specs.Lists.{upd}
use Rattle.page_model.specs.Nodes.{Node}
use Rattle.page_model.specs.Tree.{IsTree}
use Rattle.page_model.specs.Check.{names_page}
use Rattle.core_paging.specs.core_state.Lists.{all_below}
use Rattle.core_paging.specs.core_state.Openings.{Opening}
use Rattle.core_paging.specs.core_state.States.{Place, State, is_hot, is_cold, in_frame}
use Rattle.core_paging.specs.core_state.Events as happening
use Rattle.core_paging.specs.core_state.Needs.{may, has_hot_parent, is_empty_frame}
use Rattle.core_paging.specs.core_state.Steps as steps
use Rattle.core_paging.specs.core_state.Steps.{AllMet}
use Rattle.core_paging.proofs.core_commit.Events.{names_to}
use Rattle.rows_trait.specs.row_words.declared.event.Event.{Event}
use Rattle.rows_trait.specs.row_words.declared.event.Event.TheVariants as told
use Rattle.rows_trait.specs.row_words.declared.given.Given.{Given}
use Rattle.rows_trait.specs.row_words.declared.given.Page as plain
use Rattle.rows_trait.specs.row_words.Moments.{Moment, page_in, first_state, events_of}
use Rattle.rows_trait.specs.row_words.Moments as moments
use Rattle.rows_trait.specs.row_words.Openings.{opening}
use Rattle.rows_trait.specs.row_words.Sealed.{begun}
use Rattle.row_opening.specs.Opened.{comes, loads_at, loads, frees}

-- ## Tests

pub cases : {P : Type 0} (b : Bool) → (b ≡ true → P) → (b ≡ false → P) → P
cases true f g = f refl
cases false f g = g refl

pub all_from : (n : ℕ) (P : ℕ → Bool) → ((i : ℕ) → i < n → P i ≡ true) → all_below n P ≡ true
all_from zero P h = refl
all_from (suc n) P h = and_from (P n) (all_below n P) (h n (omega arith)) (all_from n P (λ i l. h i (omega arith)))

same_tests : (a b : Bool) → (a ≡ true → b ≡ true) → (b ≡ true → a ≡ true) → a ≡ b
same_tests true b f g = sym (f refl)
same_tests false true f g = g refl
same_tests false false f g = refl

-- whether a page is hot once those of the levels above n, and of level n those with numbers below p, have come in
abbrev pub in_by : (live : Bool) (level n p q : ℕ) → Bool
in_by live level n p q = live && ((q == 0) || (ltb n level || ((level == n) && ltb q p)))

-- once those of the levels from n on have come in
abbrev pub in_from : (live : Bool) (level n q : ℕ) → Bool
in_from live level n q = live && ((q == 0) || leb n level)

-- page p comes in
one_more : (live : Bool) (level n p q : ℕ) → (q ≡ p → (live ≡ true) × (level ≡ n)) → in_by live level n (suc p) q ≡ (in_by live level n p q || (q == p))
one_more live level n p q h = same_tests (in_by live level n (suc p) q) (in_by live level n p q || (q == p)) there back
  where
    there : in_by live level n (suc p) q ≡ true → (in_by live level n p q || (q == p)) ≡ true
    there t = grind (arith, nat_tests)

    back : (in_by live level n p q || (q == p)) ≡ true → in_by live level n (suc p) q ≡ true
    back t = grind (arith, nat_tests)

-- page p does not: it is not live, of another level, or the root
no_more : (live : Bool) (level n p q : ℕ) → (q ≡ p → (live && ((level == n) && not (q == 0))) ≡ false) → in_by live level n (suc p) q ≡ in_by live level n p q
no_more live level n p q h = same_tests (in_by live level n (suc p) q) (in_by live level n p q) there back
  where
    there : in_by live level n (suc p) q ≡ true → in_by live level n p q ≡ true
    there t = grind (arith, nat_tests)

    back : in_by live level n p q ≡ true → in_by live level n (suc p) q ≡ true
    back t = grind (arith, nat_tests)

at_first : (live : Bool) (level n q : ℕ) → in_by live level n 0 q ≡ in_from live level (suc n) q
at_first live level n q = same_tests (in_by live level n 0 q) (in_from live level (suc n) q) (λ t. grind (arith, nat_tests)) (λ t. grind (arith, nat_tests))

at_last : (live : Bool) (level n p q : ℕ) → (live ≡ true → q < p) → in_by live level n p q ≡ in_from live level n q
at_last live level n p q h = same_tests (in_by live level n p q) (in_from live level n q) (λ t. grind (arith, nat_tests)) (λ t. grind (arith, nat_tests))

-- page p, which is free, comes in behind the free ones below it
one_free : (live : Bool) (p q : ℕ) → (live || ltb q (suc p)) ≡ ((live || ltb q p) || (q == p))
one_free live p q = same_tests (live || ltb q (suc p)) ((live || ltb q p) || (q == p)) (λ t. grind (arith, nat_tests)) (λ t. grind (arith, nat_tests))

-- page p does not: it is live
no_free : (live : Bool) (p q : ℕ) → (q ≡ p → live ≡ true) → (live || ltb q (suc p)) ≡ (live || ltb q p)
no_free live p q h = same_tests (live || ltb q (suc p)) (live || ltb q p) (λ t. grind (arith, nat_tests)) (λ t. grind (arith, nat_tests))

at_first_free : (live : Bool) (q : ℕ) → (live || ltb q 0) ≡ live
at_first_free live q = same_tests (live || ltb q 0) live (λ t. grind (arith, nat_tests)) (λ t. grind (arith, nat_tests))

at_last_free : (live : Bool) (n q : ℕ) → (live ≡ true → q < n) → (live || ltb q n) ≡ ltb q n
at_last_free live n q h = same_tests (live || ltb q n) (ltb q n) (λ t. grind (arith, nat_tests)) (λ t. grind (arith, nat_tests))

-- ## States

abbrev pub node_in : List plain.Page → ℕ → Node
node_in xs p = (page_in xs p).node

-- a place, hot or cold
abbrev pub place_of : Bool → ℕ → Place
place_of b p = if b then Place.Hot p else Place.Cold

hot_place : (b : Bool) (p : ℕ) → is_hot (place_of b p) ≡ b
hot_place true p = refl
hot_place false p = refl

cold_place : (b : Bool) (p : ℕ) → b ≡ false → is_cold (place_of b p) ≡ true
cold_place true p h = absurd (true≢false h)
cold_place false p h = refl

pub framed_place : (b : Bool) (p f : ℕ) → in_frame (place_of b p) f ≡ (b && (p == f))
framed_place true p f = refl
framed_place false p f = refl

-- pages behind the last are not live
pub live_below : (xs : List plain.Page) (p : ℕ) → (node_in xs p).live ≡ true → p < length xs
live_below [] p h = absurd (true≢false (sym h))
live_below (x ∷ xs) zero h = omega arith
live_below (x ∷ xs) (suc p) h = let ih = live_below xs p h in omega arith

-- each page that is said to be hot is so in the frame of its own number; all else is as at the start
abbrev pub stands : Given → (ℕ → Bool) → State
stands v hot = record (first_state v) { place = λ p. place_of (hot p) p }

abbrev pub at : Given → (ℕ → Bool) → Moment
at v hot = record { core = stands v hot; answer = λ _. 0 }

-- page 0 alone is hot at the start
pub root_alone : (v : Given) → stands v (λ q. q == 0) ≡ first_state v
root_alone v = λ i. record (first_state v) { place = λ q. root_place q i }
  where
    root_place : (q : ℕ) → place_of (q == 0) q ≡ upd (λ _. Place.Cold) 0 (Place.Hot 0) q
    root_place q = cases (q == 0)
        (λ t. ap (λ b. place_of b q) t ∙ (ap Place.Hot (eqb-true q 0 t) ∙ sym (cond-true (q == 0) (Place.Hot 0) Place.Cold t)))
        (λ f. ap (λ b. place_of b q) f ∙ sym (cond-false (q == 0) (Place.Hot 0) Place.Cold f))

pub cold_others : (q : ℕ) → 0 < q → place_of (q == 0) q ≡ Place.Cold
cold_others q some = ap (λ b. place_of b q) (ne_eqb q 0 (λ e. absurd (omega arith)))

module _ (v : Given) (tree : IsTree (opening v).format (node_in v.pages)) (some : 0 < length v.pages) (fit : length v.pages ≤ v.frames) where
  abbrev g : Opening
  g = opening v

  abbrev node : ℕ → Node
  node = node_in v.pages

  -- ## One load

  module _ (hot : ℕ → Bool) (p : ℕ) (within : p < length v.pages) (off : hot p ≡ false) (parents : (q : ℕ) → q < g.format.pages → names_page (node q) p ≡ true → hot q ≡ true) where
    below_pages : ltb p g.format.pages ≡ true
    below_pages = lt-ltb p g.format.pages (omega arith)

    below_frames : ltb p g.frames ≡ true
    below_frames = lt-ltb p g.frames (omega arith)

    has_hot : has_hot_parent g (stands v hot) p ≡ true
    has_hot = all_from g.format.pages (λ q. not (names_page (node q) p) || is_hot (place_of (hot q) q)) each
      where
        each : (q : ℕ) → q < g.format.pages → (not (names_page (node q) p) || is_hot (place_of (hot q) q)) ≡ true
        each q l = cases (names_page (node q) p)
            (λ t. or_right (not (names_page (node q) p)) (is_hot (place_of (hot q) q)) (hot_place (hot q) q ∙ parents q l t))
            (λ f. or_left (not (names_page (node q) p)) (is_hot (place_of (hot q) q)) (ap not f))

    is_free : is_empty_frame g (stands v hot) p ≡ true
    is_free = all_from g.format.pages (λ q. not (in_frame (place_of (hot q) q) p)) each
      where
        each : (q : ℕ) → q < g.format.pages → not (in_frame (place_of (hot q) q) p) ≡ true
        each q l = ap not (framed_place (hot q) q p ∙ cases (q == p)
            (λ t. ap (λ z. hot z && (z == p)) (eqb-true q p t) ∙ ap (λ b. b && (p == p)) off)
            (λ f. ap (λ b. hot q && b) f ∙ cases (hot q) (λ t. ap (λ b. b && false) t) (λ z. ap (λ b. b && false) z)))

    pub may_load : may g (stands v hot) (happening.Event.Load p p) ≡ true
    may_load = and_from (ltb p g.format.pages) (ltb p g.frames && (is_cold (place_of (hot p) p) && (has_hot_parent g (stands v hot) p && is_empty_frame g (stands v hot) p))) below_pages
        (and_from (ltb p g.frames) (is_cold (place_of (hot p) p) && (has_hot_parent g (stands v hot) p && is_empty_frame g (stands v hot) p)) below_frames
        (and_from (is_cold (place_of (hot p) p)) (has_hot_parent g (stands v hot) p && is_empty_frame g (stands v hot) p) (cold_place (hot p) p off)
        (and_from (has_hot_parent g (stands v hot) p) (is_empty_frame g (stands v hot) p) has_hot is_free)))

    place_after : (q : ℕ) → upd (λ z. place_of (hot z) z) p (Place.Hot p) q ≡ place_of (hot q || (q == p)) q
    place_after q = cases (q == p)
        (λ t. cond-true (q == p) (Place.Hot p) (place_of (hot q) q) t ∙ (ap Place.Hot (sym (eqb-true q p t)) ∙ sym (ap (λ b. place_of b q) (or_right (hot q) (q == p) t))))
        (λ f. cond-false (q == p) (Place.Hot p) (place_of (hot q) q) f ∙ ap (λ b. place_of b q) (sym (ap (λ b. hot q || b) f ∙ or_none (hot q))))
      where
        or_none : (b : Bool) → (b || false) ≡ b
        or_none true = refl
        or_none false = refl

    page_after : (q : ℕ) → upd (page_in v.pages) p (page_in v.pages p) q ≡ page_in v.pages q
    page_after q = cases (q == p)
        (λ t. cond-true (q == p) (page_in v.pages p) (page_in v.pages q) t ∙ ap (page_in v.pages) (sym (eqb-true q p t)))
        (λ f. cond-false (q == p) (page_in v.pages p) (page_in v.pages q) f)

    loaded : steps.happens g (stands v hot) (happening.Event.Load p p) ≡ stands v (λ q. hot q || (q == p))
    loaded = λ i. record (first_state v) { place = λ q. place_after q i; page = λ q. page_after q i }

    pub after : moments.step g (at v hot) (told.Load p p) ≡ at v (λ q. hot q || (q == p))
    after = ap (λ s. record { core = s; answer = λ _. 0 }) (cond-true (may g (stands v hot) (happening.Event.Load p p)) (steps.happens g (stands v hot) (happening.Event.Load p p)) (stands v hot) may_load ∙ loaded)

  -- ## Many loads

  -- each need is met, and these pages are hot before and after
  record Loaded (es : List Event) (from to : ℕ → Bool) : Type 0 where
    met : AllMet g (stands v from) (events_of es)
    comes_to : moments.run g (at v from) es ≡ at v to

  same_hot : (f h : ℕ → Bool) → ((q : ℕ) → f q ≡ h q) → f ≡ h
  same_hot f h e = λ i q. e q i

  both : (es fs : List Event) (from mid to : ℕ → Bool) → Loaded es from mid → Loaded fs mid to → Loaded (es ++ fs) from to
  both [] fs from mid to a b = let e : at v mid ≡ at v from = sym a.comes_to in record {
    met = subst (λ (m : Moment). AllMet g m.core (events_of fs)) e b.met;
    comes_to = subst (λ (m : Moment). moments.run g m fs ≡ at v to) e b.comes_to;
  }
  both (e ∷ es) fs from mid to a b = record {
    met = (a.met.0, mets es (moments.step g (at v from) e) a.met.1 a.comes_to);
    comes_to = runs es (moments.step g (at v from) e) a.comes_to;
  }
    where
      mets : (es : List Event) (m : Moment) → AllMet g m.core (events_of es) → moments.run g m es ≡ at v mid → AllMet g m.core (events_of (es ++ fs))
      mets [] m x is = subst (λ (m : Moment). AllMet g m.core (events_of fs)) (sym is) b.met
      mets (e ∷ es) m x is = (x.0, mets es (moments.step g m e) x.1 is)

      runs : (es : List Event) (m : Moment) → moments.run g m es ≡ at v mid → moments.run g m (es ++ fs) ≡ at v to
      runs [] m is = subst (λ (m : Moment). moments.run g m fs ≡ at v to) (sym is) b.comes_to
      runs (e ∷ es) m is = runs es (moments.step g m e) is

  none_loaded : (from to : ℕ → Bool) → ((q : ℕ) → from q ≡ to q) → Loaded [] from to
  none_loaded from to e = record { met = tt; comes_to = ap (at v) (same_hot from to e) }

  -- the pages of level n below p are hot, and those of greater levels
  abbrev by_then : ℕ → ℕ → ℕ → Bool
  by_then n p q = in_by (node q).live (node q).level n p q

  -- pages of level n and greater are
  abbrev from_level : ℕ → ℕ → Bool
  from_level n q = in_from (node q).live (node q).level n q

  one_loaded : (n p : ℕ) → p < length v.pages → (node p).live ≡ true → (node p).level ≡ n → (p == 0) ≡ false → Loaded (told.Load p p ∷ []) (by_then n p) (by_then n (suc p))
  one_loaded n p within live level other = record {
    met = (may_load (by_then n p) p within off parents, tt);
    comes_to = after (by_then n p) p within off parents ∙ ap (at v) (same_hot (λ q. by_then n p q || (q == p)) (by_then n (suc p)) (λ q. sym (one_more (node q).live (node q).level n p q
        (λ e. (ap (λ z. (node z).live) e ∙ live, ap (λ z. (node z).level) e ∙ level)))));
  }
    where
      off : by_then n p p ≡ false
      off = not_in (node p).live (node p).level n p level other
        where
          not_in : (l : Bool) (k n p : ℕ) → k ≡ n → (p == 0) ≡ false → in_by l k n p p ≡ false
          not_in l k n p e o = cases (in_by l k n p p) (λ t. absurd (grind (arith, nat_tests))) (λ f. f)

      parents : (q : ℕ) → q < g.format.pages → names_page (node q) p ≡ true → by_then n p q ≡ true
      parents q l named =
          let z = names_to (node q) p named in
          let c = tree.down q l z.0 z.1 in
          let e : suc (node p).level ≡ (node q).level = ap (λ c. suc (node c).level) (sym z.2) ∙ c.level in
          inner (node q).live (node q).level n p q z.1.live (omega arith)
        where
          inner : (l : Bool) (k n p q : ℕ) → l ≡ true → n < k → in_by l k n p q ≡ true
          inner l k n p q t lt = grind (arith, nat_tests)

  -- page p stands first
  page_or_none : (n p : ℕ) (x : plain.Page) (xs : List plain.Page) → p < length v.pages → page_in (x ∷ xs) 0 ≡ page_in v.pages p → Loaded (loads_at n (suc p) xs) (by_then n (suc p)) (by_then n (length v.pages)) →
      (b : Bool) → comes n p x ≡ b → Loaded (if b then told.Load p p ∷ loads_at n (suc p) xs else loads_at n (suc p) xs) (by_then n p) (by_then n (length v.pages))
  page_or_none n p x xs within here rest true e =
      let a = and_parts x.live ((x.level == n) && not (p == 0)) e in
      let b = and_parts (x.level == n) (not (p == 0)) a.1 in
      both (told.Load p p ∷ []) (loads_at n (suc p) xs) (by_then n p) (by_then n (suc p)) (by_then n (length v.pages))
      (one_loaded n p within (sym (ap (λ z. z.node.live) here) ∙ a.0) (sym (ap (λ z. z.node.level) here) ∙ eqb-true x.level n b.0) (not-true (p == 0) b.1))
      rest
  page_or_none n p x xs within here rest false e = subst (λ f. Loaded (loads_at n (suc p) xs) f (by_then n (length v.pages))) (same_hot (by_then n (suc p)) (by_then n p) (λ q. no_more (node q).live (node q).level n p q
      (λ s. ap (λ z. (node z).live && (((node z).level == n) && not (z == 0))) s ∙ (ap (λ z. z.node.live && ((z.node.level == n) && not (p == 0))) (sym here) ∙ e)))) rest

  at_level : (n p : ℕ) (xs : List plain.Page) → p + length xs ≡ length v.pages → ((i : ℕ) → page_in xs i ≡ page_in v.pages (p + i)) → Loaded (loads_at n p xs) (by_then n p) (by_then n (length v.pages))
  at_level n p [] size same = let e : p ≡ length v.pages = omega arith in none_loaded (by_then n p) (by_then n (length v.pages)) (λ q. ap (λ z. by_then n z q) e)
  at_level n p (x ∷ xs) size same =
      let e : p + 0 ≡ p = omega arith in
      let rest = at_level n (suc p) xs (omega arith) (λ i. let e : p + suc i ≡ suc p + i = omega arith in same (suc i) ∙ ap (page_in v.pages) e) in
      page_or_none n p x xs (omega arith) (same 0 ∙ ap (page_in v.pages) e) rest (comes n p x) refl

  levels : (n : ℕ) → Loaded (loads n v.pages) (from_level n) (from_level 0)
  levels zero = none_loaded (from_level 0) (from_level 0) (λ q. refl)
  levels (suc n) = both (loads_at n 0 v.pages) (loads n v.pages) (from_level (suc n)) (from_level n) (from_level 0)
      (subst (λ (z : (ℕ → Bool) × (ℕ → Bool)). Loaded (loads_at n 0 v.pages) z.0 z.1) (λ i. (first i, last i)) (at_level n 0 v.pages (omega arith) (λ i. let e : 0 + i ≡ i = omega arith in ap (page_in v.pages) (sym e))))
      (levels n)
    where
      first : by_then n 0 ≡ from_level (suc n)
      first = same_hot (by_then n 0) (from_level (suc n)) (λ q. at_first (node q).live (node q).level n q)

      last : by_then n (length v.pages) ≡ from_level n
      last = same_hot (by_then n (length v.pages)) (from_level n) (λ q. at_last (node q).live (node q).level n (length v.pages) q (live_below v.pages q))

  -- ## All loads

  starts : stands v (from_level 8) ≡ first_state v
  starts = ap (stands v) (same_hot (from_level 8) (λ q. q == 0) (λ q. only_root (node q).live (node q).level q (low q) (λ e. ap (λ z. (node z).live) e ∙ tree.root.0))) ∙ root_alone v
    where
      low : (q : ℕ) → (node q).live ≡ true → (node q).level ≤ 7
      low q t = let l = live_below v.pages q t in ((tree.formed q (omega arith)).node t).tall

      only_root : (l : Bool) (k q : ℕ) → (l ≡ true → k ≤ 7) → (q ≡ 0 → l ≡ true) → in_from l k 8 q ≡ (q == 0)
      only_root l k q h r = same_tests (in_from l k 8 q) (q == 0) (λ t. grind (arith, nat_tests)) (λ t. grind (arith, nat_tests))

  ends : (q : ℕ) → from_level 0 q ≡ (node q).live
  ends q = all_in (node q).live (node q).level q
    where
      all_in : (l : Bool) (k q : ℕ) → in_from l k 0 q ≡ l
      all_in l k q = same_tests (in_from l k 0 q) l (λ t. grind (arith, nat_tests)) (λ t. grind (arith, nat_tests))

  -- ## Free pages

  -- each live page is hot, and of the free ones those below p
  abbrev with_free : ℕ → ℕ → Bool
  with_free p q = (node q).live || ltb q p

  -- no page names a free one
  free_loaded : (p : ℕ) → p < length v.pages → (node p).live ≡ false → Loaded (told.Load p p ∷ []) (with_free p) (with_free (suc p))
  free_loaded p within free = record {
    met = (may_load (with_free p) p within off parents, tt);
    comes_to = after (with_free p) p within off parents ∙ ap (at v) (same_hot (λ q. with_free p q || (q == p)) (with_free (suc p)) (λ q. sym (one_free (node q).live p q)));
  }
    where
      off : with_free p p ≡ false
      off = ap (λ b. b || ltb p p) free ∙ le-ltb p p (omega arith)

      parents : (q : ℕ) → q < g.format.pages → names_page (node q) p ≡ true → with_free p q ≡ true
      parents q l named =
          let z = names_to (node q) p named in
          let c = tree.down q l z.0 z.1 in
          absurd (true≢false (sym c.live ∙ (ap (λ c. (node c).live) z.2 ∙ free)))

  -- page p stands first
  free_or_not : (p : ℕ) (x : plain.Page) (xs : List plain.Page) → p < length v.pages → page_in (x ∷ xs) 0 ≡ page_in v.pages p → Loaded (frees (suc p) xs) (with_free (suc p)) (with_free (length v.pages)) →
      (b : Bool) → x.live ≡ b → Loaded (if b then frees (suc p) xs else told.Load p p ∷ frees (suc p) xs) (with_free p) (with_free (length v.pages))
  free_or_not p x xs within here rest true e = subst (λ f. Loaded (frees (suc p) xs) f (with_free (length v.pages))) (same_hot (with_free (suc p)) (with_free p) (λ q. no_free (node q).live p q
      (λ s. ap (λ z. (node z).live) s ∙ (sym (ap (λ z. z.node.live) here) ∙ e)))) rest
  free_or_not p x xs within here rest false e = both (told.Load p p ∷ []) (frees (suc p) xs) (with_free p) (with_free (suc p)) (with_free (length v.pages))
      (free_loaded p within (sym (ap (λ z. z.node.live) here) ∙ e)) rest

  free_from : (p : ℕ) (xs : List plain.Page) → p + length xs ≡ length v.pages → ((i : ℕ) → page_in xs i ≡ page_in v.pages (p + i)) → Loaded (frees p xs) (with_free p) (with_free (length v.pages))
  free_from p [] size same = let e : p ≡ length v.pages = omega arith in none_loaded (with_free p) (with_free (length v.pages)) (λ q. ap (λ z. with_free z q) e)
  free_from p (x ∷ xs) size same =
      let e : p + 0 ≡ p = omega arith in
      let rest = free_from (suc p) xs (omega arith) (λ i. let e : p + suc i ≡ suc p + i = omega arith in same (suc i) ∙ ap (page_in v.pages) e) in
      free_or_not p x xs (omega arith) (same 0 ∙ ap (page_in v.pages) e) rest x.live refl

  -- ## All pages

  abbrev every_load : List Event
  every_load = loads 8 v.pages ++ frees 0 v.pages

  -- each page is hot
  abbrev among : ℕ → Bool
  among q = ltb q (length v.pages)

  loaded_all : Loaded every_load (from_level 8) among
  loaded_all = both (loads 8 v.pages) (frees 0 v.pages) (from_level 8) (from_level 0) among (levels 8)
      (subst (λ (z : (ℕ → Bool) × (ℕ → Bool)). Loaded (frees 0 v.pages) z.0 z.1) (λ i. (first i, last i)) (free_from 0 v.pages (omega arith) (λ i. let e : 0 + i ≡ i = omega arith in ap (page_in v.pages) (sym e))))
    where
      first : with_free 0 ≡ from_level 0
      first = same_hot (with_free 0) (from_level 0) (λ q. at_first_free (node q).live q ∙ sym (ends q))

      last : with_free (length v.pages) ≡ among
      last = same_hot (with_free (length v.pages)) among (λ q. at_last_free (node q).live (length v.pages) q (live_below v.pages q))

  module _ (all : v.before ≡ every_load) where
    pub begins : begun v ≡ at v among
    unfolding begun
    begins =
        ap (λ es. moments.run g (record { core = first_state v; answer = λ _. 0 }) es) all
        ∙ (ap (λ s. moments.run g (record { core = s; answer = λ _. 0 }) every_load) (sym starts) ∙ loaded_all.comes_to)

    pub met : AllMet g (first_state v) (events_of v.before)
    met = subst (λ es. AllMet g (first_state v) (events_of es)) (sym all) (subst (λ s. AllMet g s (events_of every_load)) starts loaded_all.met)
