-- What is known where a seat steps, and what each kind of step leaves: of what others did, of rows that are held, and of what was loaded.
use Rattle.std.proofs.Common.{◌≡◌, ◌≢◌, ℕ, zero, suc, ◌+◌, ◌*◌, ◌%◌, ◌<◌, ◌≤◌, Bool, true, false, true≢false, cond, ◌||◌, inl, inr, ⊎_elim, List, [], ◌∷◌, ◌++◌, length, set, refl, sym, ap, subst, ◌∙◌, arith, append-nil, length-append, ◌==◌, Some}
use Rattle.std.specs.Prelude.{slice_index}
use Rattle.std.proofs.lemmas.Bool.Decides.{nat_tests}
use mathlib.Core.Option.{some, some-ne-none, some-injective}
use lib.ListN.{get_elem?}
use Rattle.atomic_table.specs.Seated.{TableId}
use Rattle.row_words.specs.declared.event.Event.{Event}
use Rattle.row_words.specs.declared.given.Given.{Given}
use Rattle.row_words.specs.Moments.{Moment, actor_of}
use Rattle.row_words.specs.Sealed.{begun, run, Shown, heard, IsTame}
use Rattle.row_words.proofs.SealedLemmas.{run_append}
use Rattle.rows_trait.specs.Layout.{rows_of, cell}
use Rattle.rows_trait.specs.Inside.{after, look_at, NoneBy}
use Rattle.rows_trait.specs.declared.view.Act.{Act}
use Rattle.rows_trait.specs.declared.view.Act.TheVariants.{Look}
use Rattle.rows_trait.specs.declared.view.Hold.{Hold}
use Rattle.rows_trait.specs.declared.view.Ended.{Ended}
use Rattle.rows_trait.specs.declared.view.View.{View}
use Rattle.rows_trait.specs.Views.{Shape, IsEven, after_all, state, Since, AreStill, IsStill, Knows, latest, AreLow, holds, held_at, AreApart, AreAside, AreTame, BeginsTame, NoSync, may, AreBelow, Ends}
use Rattle.rows_trait.specs.Turns.{Goes}
use Rattle.rows_trait.specs.Rule.{Plan, moment, Remembers, IsHeld, Fits, Keeps, IsAlone}
use Rattle.rows_trait.proofs.Cells.{bool_cases}
use Rattle.rows_trait.proofs.EventLemmas.{silent_shown, silent_heard, silent_apart, silent_none, silent_below, silent_still, still_none, apart_tame}
use Rattle.rows_trait.proofs.Memory.{Moves, moves_not, low_more}
use Rattle.rows_trait.proofs.Keeping.{still_on, Step}

pub none_of_length : {A : Type 0} (xs : List A) → length xs ≡ 0 → xs ≡ []
none_of_length [] e = refl
none_of_length (x ∷ xs) e = absurd (omega arith)

pub nothing_more : {A : Type 0} (xs ys : List A) → xs ≡ xs ++ ys → ys ≡ []
nothing_more xs ys e = none_of_length ys (omega (arith, length-append xs ys, ap length e))

pub lone : (id : ℕ) (v u : View) → get_elem? (v ∷ []) id ≡ some u → id ≡ 0
lone zero v u e = refl
lone (suc id) v u e = absurd (some-ne-none u (sym e))

pub in_length : {A : Type 0} (l : List A) (i : ℕ) (a : A) → get_elem? l i ≡ some a → i < length l
in_length [] i a e = absurd (some-ne-none a (sym e))
in_length (x ∷ xs) zero a e = omega arith
in_length (x ∷ xs) (suc i) a e = let h = in_length xs i a e in omega arith

-- one row or another
pub row_cases : {P : Type 0} (q row : ℕ) → (q ≡ row → P) → (q ≢ row → P) → P
row_cases q row f g = bool_cases (q == row) (λ e. f (grind (arith, nat_tests))) (λ e. g (grind (arith, nat_tests)))

-- what is known where a seat steps
pub record Stepping (alone : Bool) (k : Plan) (happened : List Event) (words : List ℕ) (views : List View) (id : ℕ) (v : View) : Type 0 where
  pub spot : TableId
  pub keeps : Keeps k happened words views
  pub mine : get_elem? views id ≡ some v
  pub alive : v.live ≡ true
  pub between : List Event
  pub whole : happened ≡ v.seen ++ between
  pub apart : AreApart v (state v) between
  pub solo : alone ≡ true → IsAlone k happened words views v

module _ {alone : Bool} {k : Plan} {happened : List Event} {words : List ℕ} {views : List View} {id : ℕ} {v : View} (on : Stepping alone k happened words views id v) where
  abbrev pub shape : Shape
  shape = record { sizes = k.sizes; alone = alone; place = on.spot }

  pub fit : Fits k happened words v
  fit = on.keeps.fits id v on.mine on.alive

  pub at_length : id < length views
  at_length = in_length views id v on.mine

  pub seen_all : (es : List Event) → happened ++ es ≡ (v.seen ++ on.between) ++ es
  seen_all es = ap (λ z. z ++ es) on.whole

  pub state_is : (es : List Event) → after_all v.given ((v.seen ++ on.between) ++ es) ≡ moment k (happened ++ es)
  state_is es = λ i. after_all (fit.given i) (sym (seen_all es) i)

  -- what the state after all that has happened shows, the view's does
  pub to_view : (es : List Event) (row i x : ℕ) → Shown k.given (moment k (happened ++ es)) row i x → Shown v.given (after_all v.given ((v.seen ++ on.between) ++ es)) row i x
  to_view es row i x s = subst (λ (p : Given × Moment). Shown p.0 p.1 row i x) (λ j. (sym fit.given j, sym (state_is es) j)) s

  pub quiet : alone ≡ true → on.between ≡ []
  quiet a = nothing_more v.seen on.between (sym (on.solo a).seen ∙ on.whole)

  unfoldable pub goes : (es : List Event) (acts : List Act) (held : List Hold) (now : List ℕ) → ((row : ℕ) → holds held row ≡ true → IsHeld k (happened ++ es) now row (held_at held row)) → (alone ≡ false → NoSync es) → Goes shape v es (after v on.between es (acts ++ v.steps) held)
  goes es acts held now is part = record {
    between = on.between;
    quiet = quiet;
    apart = on.apart;
    seen = refl;
    part = part;
    since = record { acts = acts; steps = refl };
    given = refl;
    actor = refl;
    live = refl;
    made = refl;
    ended = refl;
    stands = λ row h. λ i lt. to_view es row i (slice_index (held_at held row).was i) ((is row h).was i lt);
  }

  pub longer : (es : List Event) → length (happened ++ es) ≡ length happened + length es
  longer es = length-append happened es

  -- a latch that stays, stays low
  pub few_still : (es : List Event) (now : List ℕ) → ((row : ℕ) → row < rows_of k.sizes → cell k.sizes now row 0 ≡ cell k.sizes words row 0) → (row : ℕ) → row < rows_of k.sizes → cell k.sizes now row 0 ≤ 2 * length (happened ++ es) + 1
  few_still es now same row lt = let e = same row lt in let f = on.keeps.few row lt in let l = longer es in omega arith

  pub counted_still : (es : List Event) (row : ℕ) → holds v.held row ≡ true → (held_at v.held row).done ≡ true → (held_at v.held row).version + 2 ≤ 2 * length (happened ++ es)
  counted_still es row h y = let f = (fit.held row h).counted y in let l = longer es in omega arith

  -- the version of a held row
  pub version_low : (row : ℕ) → holds v.held row ≡ true → (held_at v.held row).version ≤ 2 * length happened
  version_low row h = let g = fit.held row h in let o = g.odd in let f = on.keeps.few row g.inside in omega arith

  pub low_still : (es : List Event) → AreLow (length ((v.seen ++ on.between) ++ es)) v.steps
  low_still es = low_more (length v.seen) (length ((v.seen ++ on.between) ++ es)) v.steps (let a = length-append v.seen on.between in let b = length-append (v.seen ++ on.between) es in omega arith) fit.low

  pub low_looked : (row n : ℕ) (es : List Event) → row < rows_of k.sizes → n ≡ cell k.sizes words row 0 → AreLow (length ((v.seen ++ on.between) ++ es)) (look_at row n v on.between es ∷ v.steps)
  low_looked row n es lt is = ((let f = on.keeps.few row lt in let l = longer es in let s = ap length (seen_all es) in omega arith), low_still es)

  pub silent_in : (es : List Event) → AreAside (may alone v) v.given es → AreAside (may alone v) k.given es
  silent_in es s = subst (λ g. AreAside (may alone v) g es) fit.given s

  pub silent_is : (es : List Event) → AreAside (may alone v) v.given es → (row i x : ℕ) → Shown k.given (moment k happened) row i x → Shown k.given (moment k (happened ++ es)) row i x
  silent_is es s row i x h = subst (λ m. Shown k.given m row i x) (sym (run_append k.given (begun k.given) happened es)) (silent_shown (may alone v) k.given es (moment k happened) row i x (silent_in es s) h)

  pub silent_word : (es : List Event) → AreAside (may alone v) v.given es → (c i : ℕ) → heard (moment k (happened ++ es)) c i ≡ heard (moment k happened) c i
  silent_word es s c i = ap (λ m. heard m c i) (run_append k.given (begun k.given) happened es) ∙ silent_heard (may alone v) k.given es (moment k happened) c i (silent_in es s)

  pub no_other : alone ≡ true → (j : ℕ) (u : View) → get_elem? views j ≡ some u → j ≢ id → ⊥
  no_other a j u e ne =
      let o = (on.solo a).only in
      let p = lone j v u (sym (ap (λ z. get_elem? z j) o) ∙ e) in
      let q = lone id v v (sym (ap (λ z. get_elem? z id) o) ∙ on.mine) in
      ne (p ∙ sym q)

  pub not_actor : (j : ℕ) (u : View) → get_elem? views j ≡ some u → u.live ≡ true → j ≢ id → u.actor ≢ v.actor
  not_actor j u e l ne same = ne (on.keeps.actors j id u v e on.mine l on.alive same)

  pub may_other : (a : ℕ) → may alone v a ≡ true → (j : ℕ) (u : View) → get_elem? views j ≡ some u → u.live ≡ true → j ≢ id → a ≢ u.actor
  may_other a m j u e l ne same = bool_cases alone
      (λ y. no_other y j u e ne)
      (λ n. let t : (false || (a == v.actor)) ≡ true = subst (λ (z : Bool). (z || (a == v.actor)) ≡ true) n m in
      let s : a ≡ v.actor = grind (arith, nat_tests) in not_actor j u e l ne (sym same ∙ s))

  pub others_silent : (es : List Event) → AreAside (may alone v) v.given es → (j : ℕ) (u : View) → get_elem? views j ≡ some u → u.live ≡ true → j ≢ id → AreApart u (moment k happened) es
  others_silent es s j u e l ne = bool_cases alone
      (λ y. absurd (no_other y j u e ne))
      (λ n. silent_apart v u es (moment k happened) ((on.keeps.fits j u e l).given ∙ sym fit.given) (not_actor j u e l ne) (subst (λ (z : Bool). AreAside (may z v) v.given es) n s))

  -- the one view of those who step alone makes no seats
  pub alone_acts : {P : Type 0} → alone ≡ true → (j : ℕ) (u : View) → get_elem? views j ≡ some u → (0 < u.made → P) × ((a : ℕ) (own : List Event) → Ends a own u.ended → P)
  alone_acts y j u e =
      let o = (on.solo y).only in
      let z : j ≡ 0 = lone j v u (sym (ap (λ l. get_elem? l j) o) ∙ e) in
      let same : v ≡ u = some-injective v u ((λ i. get_elem? (sym o i) (sym z i)) ∙ e) in (
        (λ up. let m : u.made ≡ 0 = ap (λ x. x.made) (sym same) ∙ (on.solo y).made in absurd (omega arith)),
        (λ a own en. let Q : List Ended → Type 0 = λ l. Ends a own l in absurd (subst Q (ap (λ x. x.ended) (sym same) ∙ (on.solo y).ended) en)),
      )

  pub acts_silent : (es : List Event) → AreAside (may alone v) v.given es → (j : ℕ) (u : View) → get_elem? views j ≡ some u → u.live ≡ true → (0 < u.made → AreBelow u.made es) × ((a : ℕ) (own : List Event) → Ends a own u.ended → NoneBy a es)
  acts_silent es s j u e l = bool_cases alone
      (λ y. ((alone_acts y j u e).0, λ a own en. (alone_acts y j u e).1 a own en))
      (λ n. let t = subst (λ (z : Bool). AreAside (may z v) v.given es) n s in
      ((λ up. silent_below v u.made es (on.keeps.makers j id u v e on.mine l on.alive up).0 t), λ a own en. silent_none v a es ((on.keeps.ended j u e l a own en).2 id v on.mine on.alive) t))

  pub acts_one : (x : Event) → may alone v (actor_of x) ≡ true → (j : ℕ) (u : View) → get_elem? views j ≡ some u → u.live ≡ true → (0 < u.made → AreBelow u.made (x ∷ [])) × ((a : ℕ) (own : List Event) → Ends a own u.ended → NoneBy a (x ∷ []))
  acts_one x m j u e l = bool_cases alone
      (λ y. ((alone_acts y j u e).0, λ a own en. (alone_acts y j u e).1 a own en))
      (λ n. let t : (false || (actor_of x == v.actor)) ≡ true = subst (λ (z : Bool). (z || (actor_of x == v.actor)) ≡ true) n m in
      let same : actor_of x ≡ v.actor = grind (arith, nat_tests) in
      ((λ up. let b = (on.keeps.makers j id u v e on.mine l on.alive up).0 in (omega arith, tt)), λ a own en. ((λ z. (on.keeps.ended j u e l a own en).2 id v on.mine on.alive (sym same ∙ z)), tt)))

  -- the rows that were looked at, after events that leave free rows
  pub still_old : (es : List Event) (now : List ℕ) → Moves k.sizes words now → ((row : ℕ) → IsEven (cell k.sizes words row 0) → AreStill k.given row (moment k happened) es)
      → (row s : ℕ) (at : List Event) → Since row s at v.steps → cell k.sizes now row 0 ≡ s → IsStill k.given row at (happened ++ es)
  still_old es now m still = still_on k happened words now es v.steps m fit.memory still fit.still

  pub still_looked : (row n : ℕ) (es : List Event) (now : List ℕ) → Moves k.sizes words now → ((row : ℕ) → IsEven (cell k.sizes words row 0) → AreStill k.given row (moment k happened) es)
      → (q s : ℕ) (at : List Event) → Since q s at (look_at row n v on.between es ∷ v.steps) → cell k.sizes now q 0 ≡ s → IsStill k.given q at (happened ++ es)
  still_looked row n es now m still q s at h e = ⊎_elim
      (λ (t : (row ≡ q) × (n ≡ s) × ((v.seen ++ on.between) ++ es ≡ at) × IsEven s). subst (λ z. IsStill k.given q z (happened ++ es)) (seen_all es ∙ t.2) (still_none k.given q (happened ++ es)))
      (λ (t : Since q s at v.steps). still_old es now m still q s at t e) h

  pub silent_rows : (es : List Event) → AreAside (may alone v) v.given es → (row : ℕ) → IsEven (cell k.sizes words row 0) → AreStill k.given row (moment k happened) es
  silent_rows es s row e = silent_still (may alone v) k.given row es (moment k happened) (silent_in es s)

  -- what a view has seen is all that has happened
  pub still_view : (row : ℕ) (at es : List Event) → IsStill k.given row at (happened ++ es) → IsStill v.given row at ((v.seen ++ on.between) ++ es)
  still_view row at es s = subst (λ (p : Given × List Event). IsStill p.0 row at p.1) (λ j. (sym fit.given j, seen_all es j)) s

  pub fits_after : (es : List Event) (now : List ℕ) (steps : List Act) (held : List Hold) → Remembers k.sizes now steps
      → ((row s : ℕ) (at : List Event) → Since row s at steps → cell k.sizes now row 0 ≡ s → IsStill k.given row at (happened ++ es))
      → ((row : ℕ) → holds held row ≡ true → IsHeld k (happened ++ es) now row (held_at held row))
      → AreLow (length ((v.seen ++ on.between) ++ es)) steps
      → Fits k (happened ++ es) now (after v on.between es steps held)
  fits_after es now steps held r st h low = record {
    given = fit.given;
    rest = [];
    whole = seen_all es ∙ sym (append-nil ((v.seen ++ on.between) ++ es));
    apart = tt;
    memory = r;
    still = st;
    held = h;
    low = low;
  }

  pub solo_after : (es : List Event) (now : List ℕ) (steps : List Act) (held : List Hold) → alone ≡ true
      → ((row s : ℕ) → row < rows_of k.sizes → latest row steps ≡ Some s → cell k.sizes now row 0 ≡ s)
      → IsAlone k (happened ++ es) now (set views id (after v on.between es steps held)) (after v on.between es steps held)
  solo_after es now steps held a st =
      let w = after v on.between es steps held in
      let o = (on.solo a).only in
      let z : id ≡ 0 = lone id v v (sym (ap (λ l. get_elem? l id) o) ∙ on.mine) in record {
        seen = seen_all es;
        only = (λ i. set (o i) (z i) w);
        made = (on.solo a).made;
        ended = (on.solo a).ended;
        steady = st;
      }

  -- the latch of a row is loaded
  pub steady_look : (row n : ℕ) (seen : List Event) → n ≡ cell k.sizes words row 0 → alone ≡ true → (q s : ℕ) → q < rows_of k.sizes → latest q (Look row n seen ∷ v.steps) ≡ Some s → cell k.sizes words q 0 ≡ s
  steady_look row n seen is a q s lt = at (row == q) refl
    where
      at : (b : Bool) → (row == q) ≡ b → cond b (Some n) (latest q v.steps) ≡ Some s → cell k.sizes words q 0 ≡ s
      at true t e = let r : row ≡ q = grind (arith, nat_tests) in let m : n ≡ s = (cc) in ap (λ z. cell k.sizes words z 0) (sym r) ∙ (sym is ∙ m)
      at false t e = (on.solo a).steady q s lt e

  pub held_still : (es : List Event) → AreAside (may alone v) v.given es → (row : ℕ) → holds v.held row ≡ true → IsHeld k (happened ++ es) words row (held_at v.held row)
  held_still es s row h = let g = fit.held row h in record {
    inside = g.inside;
    even = g.even;
    room = g.room;
    odd = g.odd;
    size = g.size;
    now = g.now;
    was = λ i lt. silent_is es s row i (slice_index (held_at v.held row).was i) (g.was i lt);
    counted = counted_still es row h;
  }

  -- an event that is tame where the seat stands is so where it happens
  pub tame_now : (x : Event) → may alone v (actor_of x) ≡ true → IsTame (state v) x → IsTame (moment k happened) x
  tame_now x m t = subst (λ s. IsTame s x) (λ i. after_all (fit.given i) (sym on.whole i)) (subst (λ s. IsTame s x) (sym (run_append v.given (begun v.given) v.seen on.between)) later)
    where
      later : IsTame (run v.given (state v) on.between) x
      later = bool_cases alone
          (λ y. subst (λ z. IsTame (run v.given (state v) z) x) (sym (quiet y)) t)
          (λ n. let u : (false || (actor_of x == v.actor)) ≡ true = subst (λ (z : Bool). (z || (actor_of x == v.actor)) ≡ true) n m in
          let same : actor_of x ≡ v.actor = grind (arith, nat_tests) in apart_tame v (state v) on.between x same on.apart t)

  pub begins_now : (es : List Event) → AreAside (may alone v) v.given es → BeginsTame (state v) es → BeginsTame (moment k happened) es
  begins_now [] s t = tt
  begins_now (x ∷ es) s t = (tame_now x s.0.own t.0, t.1)

  pub stays : (es : List Event) (steps : List Act) → AreTame k.given (moment k happened) es → AreAside (may alone v) v.given es → Remembers k.sizes words steps
      → ((row s : ℕ) (at : List Event) → Since row s at steps → cell k.sizes words row 0 ≡ s → IsStill k.given row at (happened ++ es))
      → AreLow (length ((v.seen ++ on.between) ++ es)) steps
      → Step k happened words views id v es words (after v on.between es steps v.held)
  stays es steps tame s r st low = record {
    moves = moves_not k.sizes words;
    size = refl;
    others = others_silent es s;
    still = silent_rows es s;
    acts = acts_silent es s;
    steady = λ row lt f o i l. refl;
    free = λ row lt ev i l. silent_is es s row i (cell k.sizes words row (i + 1)) (on.keeps.free row lt ev i l);
    few = few_still es words (λ row lt. refl);
    controls = λ c i h l. on.keeps.controls c i h l ∙ sym (silent_word es s c i);
    tame = tame;
    live = on.alive;
    actor = refl;
    made = refl;
    done = refl;
    all = seen_all es;
    fits = fits_after es words steps v.held r st (held_still es s) low;
    owner = λ row h. inl h;
    latched = λ row lt o. bool_cases (holds v.held row) (λ y. inl y) (λ n. inr (o, n));
  }

  pub odd_free : (row : ℕ) → row < rows_of k.sizes → alone ≡ true → holds v.held row ≡ false → IsEven (cell k.sizes words row 0)
  odd_free row lt a n = at (cell k.sizes words row 0 % 2) refl
    where
      at : (m : ℕ) → cell k.sizes words row 0 % 2 ≡ m → IsEven (cell k.sizes words row 0)
      at zero e = e
      at (suc m) e =
          let l = on.keeps.latched row lt (omega arith) in
          absurd (⊎_elim
          (λ (t : (l.0 ≡ id) × Unit {0}). true≢false (sym l.4 ∙ (ap (λ z. holds z.held row) (some-injective l.1 v (sym l.2 ∙ (ap (get_elem? views) t.0 ∙ on.mine))) ∙ n)))
          (λ (t : l.0 ≢ id). no_other a l.0 l.1 l.2 t)
          (row_cases l.0 id (λ e'. inl (e', tt)) (λ ne. inr ne)))

  -- what was loaded of a row after its even version is so in the core state
  pub spelled : (row n i x : ℕ) → row < rows_of k.sizes → n ≡ cell k.sizes words row 0 → IsEven n → Knows row n i x v.steps → Shown k.given (moment k happened) row i x
  spelled row n i x lt is ev kn =
      subst (λ y. Shown k.given (moment k happened) row i y) (fit.memory.known row n i x kn (sym is)) (on.keeps.free row lt (subst IsEven is ev) i (fit.memory.within row n i x kn).1)

  pub steady_still : (now : List ℕ) → ((row : ℕ) → row < rows_of k.sizes → cell k.sizes now row 0 ≡ cell k.sizes words row 0) → alone ≡ true → (q s : ℕ) → q < rows_of k.sizes → latest q v.steps ≡ Some s → cell k.sizes now q 0 ≡ s
  steady_still now same a q s lt e = same q lt ∙ (on.solo a).steady q s lt e
