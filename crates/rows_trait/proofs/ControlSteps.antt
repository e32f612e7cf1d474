-- Each step of a seat over a control word keeps the rule, and makes of the view of the seat what it says.
use Rattle.std.proofs.Common.{◌≡◌, ◌≢◌, ℕ, zero, suc, ◌+◌, ◌^◌, ◌<◌, ◌≤◌, Bool, true, false, true≢false, inl, inr, List, [], ◌∷◌, ◌++◌, set, refl, sym, ap, subst, ◌∙◌, arith, ◌==◌}
use Rattle.std.specs.Prelude.{slice_index}
use Rattle.std.proofs.lemmas.Bool.Decides.{nat_tests}
use Rattle.std.proofs.lemmas.List.{get_or-set_other, get_or-set_same}
use Rattle.std.proofs.Math.ListN.{length-set}
use mathlib.Core.Option.{some}
use lib.ListN.{get_elem?}
use Rattle.atomic_table.specs.Seated.{TableId}
use Rattle.row_words.specs.declared.event.Event.{Event}
use Rattle.row_words.specs.declared.given.Given.{Given}
use Rattle.row_words.specs.Moments.{Moment, actor_of}
use Rattle.row_words.specs.Sealed.{begun, stepped, run, Shown, changes, heard}
use Rattle.row_words.proofs.SealedLemmas.{run_append, shown_stays, heard_stays}
use Rattle.rows_trait.specs.Layout.{cell, count_of, control_at}
use Rattle.rows_trait.specs.Inside.{flushed_words, after, NoneBy}
use Rattle.rows_trait.specs.declared.view.Act.TheVariants.{Hear, Turn}
use Rattle.rows_trait.specs.declared.view.View.{View}
use Rattle.rows_trait.specs.Views.{Shape, IsEven, after_all, state, AreStill, holds, held_at, AreApart, AreAside, AreCalm, BeginsTame, NoSync, may, AreBelow, Ends}
use Rattle.rows_trait.specs.Turns.{Heard, AreTurning, MayTurn, Turned, AreSyncing, MaySync, Synced}
use Rattle.rows_trait.specs.Rule.{Plan, moment, IsHeld, Keeps, IsAlone}
use Rattle.rows_trait.proofs.Cells.{bool_cases, control_inside, set_cell_apart, same_control, flushed_length, flushed_cell, flushed_other, flushed_here}
use Rattle.rows_trait.proofs.EventLemmas.{silent_sync, begins_are, calm_are}
use Rattle.rows_trait.proofs.Memory.{Moves, moves_not, remembers_on, remembers_hear, remembers_turn}
use Rattle.rows_trait.proofs.Keeping.{advances}
use Rattle.rows_trait.proofs.Stepping.{row_cases, Stepping, fit, at_length, seen_all, state_is, quiet, goes, few_still, counted_still, low_still, silent_word, begins_now, no_other, not_actor, alone_acts, still_old, silent_rows, fits_after, solo_after, held_still, stays, steady_still}

module _ (alone : Bool) (spot : TableId) (k : Plan) (happened : List Event) (words : List ℕ) (views : List View) (id : ℕ) (v : View)
    (keeps : Keeps k happened words views) (mine : get_elem? views id ≡ some v) (alive : v.live ≡ true)
    (between : List Event) (whole : happened ≡ v.seen ++ between) (apart : AreApart v (state v) between)
    (solo : alone ≡ true → IsAlone k happened words views v) where
  abbrev shape : Shape
  shape = record { sizes = k.sizes; alone = alone; place = spot }

  -- what each step begins from
  abbrev on : Stepping alone k happened words views id v
  on = record { spot = spot; keeps = keeps; mine = mine; alive = alive; between = between; whole = whole; apart = apart; solo = solo }

  pub hears : (c i n : ℕ) (names : ℕ → List Event) → c ≤ k.sizes.workers → i < count_of c → n ≡ slice_index words (control_at c i) → AreAside (may alone v) v.given (names n) → BeginsTame (state v) (names n)
      → (w : View) × (w ≡ after v between (names n) (Hear c i n ∷ v.steps) v.held) × Keeps k (happened ++ names n) words (set views id w) × Heard shape c i names v n w
      × (alone ≡ true → IsAlone k (happened ++ names n) words (set views id w) w)
  hears c i n names h l is s b =
      let w = after v between (names n) (Hear c i n ∷ v.steps) v.held in (
        w,
        refl,
        advances k happened words views id v (names n) words w keeps mine alive (stays on (names n) (Hear c i n ∷ v.steps) (begins_are k.given (moment k happened) (names n) (begins_now on (names n) s b)) s (remembers_hear k.sizes words v.steps c i n (fit on).memory) (still_old on (names n) words (moves_not k.sizes words) (silent_rows on (names n) s)) (low_still on (names n))) (at_length on),
        record {
          goes = goes on (names n) (Hear c i n ∷ []) v.held words (held_still on (names n) s) (λ y. silent_sync (may alone v) v.given (names n) s);
          steps = refl;
          held = refl;
          word = ap (λ m. heard m c i) (state_is on (names n)) ∙ (silent_word on (names n) s c i ∙ (sym (keeps.controls c i h l) ∙ sym is));
        },
        λ a. solo_after on (names n) words (Hear c i n ∷ v.steps) v.held a (steady_still on words (λ q t. refl) a),
      )

  -- a control word is turned
  module _ (c i n : ℕ) (f : ℕ → ℕ) (names : ℕ → List Event) (h : c ≤ k.sizes.workers) (l : i < count_of c) (is : n ≡ slice_index words (control_at c i)) (may_turn : MayTurn shape c i f names v) where
    abbrev turned_words : List ℕ
    turned_words = set words (control_at c i) (f n)

    turn_row : (p : ℕ → Bool) (g : Given) (es : List Event) (m : Moment) (row j x : ℕ) → AreTurning p alone g k.sizes.workers c i es → Shown g m row j x → Shown g (run g m es) row j x
    turn_row p g [] m row j x a s = s
    turn_row p g (e ∷ es) m row j x a s = turn_row p g es (stepped g m e) row j x a.1 (shown_stays g m e row j x (a.0.rows m row) s)

    turn_word : (p : ℕ → Bool) (g : Given) (es : List Event) (m : Moment) (d j : ℕ) → d ≤ k.sizes.workers → ((d ≡ c) × (j ≡ i) → ⊥) → AreTurning p alone g k.sizes.workers c i es → heard (run g m es) d j ≡ heard m d j
    turn_word p g [] m d j le ne a = refl
    turn_word p g (e ∷ es) m d j le ne a = turn_word p g es (stepped g m e) d j le ne a.1 ∙ heard_stays g m e d j (a.0.words d j le ne)

    turn_sync : (p : ℕ → Bool) (g : Given) (es : List Event) → AreTurning p alone g k.sizes.workers c i es → alone ≡ false → NoSync es
    turn_sync p g [] a n = tt
    turn_sync p g (e ∷ es) a n = (a.0.part n, turn_sync p g es a.1 n)

    own_k : AreTurning (may alone v) alone k.given k.sizes.workers c i (names n)
    own_k = subst (λ g. AreTurning (may alone v) alone g k.sizes.workers c i (names n)) (fit on).given (may_turn.own n)

    turning_calm : (es : List Event) → AreTurning (may alone v) alone k.given k.sizes.workers c i es → AreCalm es
    turning_calm [] a = tt
    turning_calm (e ∷ es) a = (a.0.calm, turning_calm es a.1)

    then_words : after_all v.given (v.seen ++ between) ≡ moment k happened
    then_words = λ j. after_all ((fit on).given j) (sym whole j)

    found_word : heard (after_all v.given (v.seen ++ between)) c i ≡ n
    found_word = ap (λ m. heard m c i) then_words ∙ (sym (keeps.controls c i h l) ∙ sym is)

    -- it does not overflow
    pub turn_small : f n < 2 ^ 64
    turn_small = (may_turn.turns between (quiet on) apart n found_word).1

    turned_word : heard (moment k (happened ++ names n)) c i ≡ f n
    turned_word = sym (ap (λ m. heard m c i) (state_is on (names n))) ∙ (may_turn.turns between (quiet on) apart n found_word).0

    turn_is : (row j x : ℕ) → Shown k.given (moment k happened) row j x → Shown k.given (moment k (happened ++ names n)) row j x
    turn_is row j x s = subst (λ m. Shown k.given m row j x) (sym (run_append k.given (begun k.given) happened (names n))) (turn_row (may alone v) k.given (names n) (moment k happened) row j x own_k s)

    turn_cell : (row j : ℕ) → cell k.sizes turned_words row j ≡ cell k.sizes words row j
    turn_cell row j = set_cell_apart k.sizes words row j c i (f n) h l

    turned_controls : (d j : ℕ) → d ≤ k.sizes.workers → j < count_of d → slice_index turned_words (control_at d j) ≡ heard (moment k (happened ++ names n)) d j
    turned_controls d j le u = row_cases d c
        (λ same. row_cases j i
        (λ this. let P : ℕ × ℕ → Type 0 = λ p. slice_index turned_words (control_at p.0 p.1) ≡ heard (moment k (happened ++ names n)) p.0 p.1 in
        subst P (λ z. (sym same z, sym this z)) (get_or-set_same words (control_at c i) (f n) 0 (let a = control_inside k.sizes c i h l in let b = keeps.size in omega arith) ∙ sym turned_word))
        (λ ne. apart_word (λ p. ne p.1)))
        (λ ne. apart_word (λ p. ne p.0))
      where
        apart_word : ((d ≡ c) × (j ≡ i) → ⊥) → slice_index turned_words (control_at d j) ≡ heard (moment k (happened ++ names n)) d j
        apart_word ne = get_or-set_other words (control_at c i) (control_at d j) (f n) 0 (λ e. ne (same_control d c j i u l e))
            ∙ (keeps.controls d j le u ∙ sym (ap (λ m. heard m d j) (run_append k.given (begun k.given) happened (names n)) ∙ turn_word (may alone v) k.given (names n) (moment k happened) d j le ne own_k))

    turn_moves : Moves k.sizes words turned_words
    turn_moves = record { rises = λ q. let e = turn_cell q 0 in omega arith; stays = λ q r e ev j t. turn_cell q (j + 1) }

    turning_apart : (u : View) (es : List Event) (m : Moment) → u.given ≡ v.given → u.actor ≢ v.actor → alone ≡ false → AreTurning (may false v) alone v.given k.sizes.workers c i es → AreApart u m es
    turning_apart u [] m same ne solo_not a = tt
    turning_apart u (e ∷ es) m same ne solo_not a =
        let s : actor_of e ≡ v.actor = let t : (actor_of e == v.actor) ≡ true = a.0.own in grind (arith, nat_tests) in
        (record { other = λ (x : actor_of e ≡ u.actor). ne (sym x ∙ s); part = a.0.part solo_not; rows = λ row y. ap (λ z. changes z m e row) same ∙ a.0.rows m row }, turning_apart u es (stepped u.given m e) same ne solo_not a.1)

    turning_silent : (es : List Event) → AreTurning (may false v) alone v.given k.sizes.workers c i es → (a : ℕ) → (v.actor < a → AreBelow a es) × (v.actor ≢ a → NoneBy a es)
    turning_silent [] t a = (λ z. tt, λ z. tt)
    turning_silent (e ∷ es) t a =
        let x : (actor_of e == v.actor) ≡ true = t.0.own in
        let s : actor_of e ≡ v.actor = grind (arith, nat_tests) in
        let ih = turning_silent es t.1 a in
        (λ z. (omega arith, ih.0 z), λ z. ((λ y. z (sym s ∙ y)), ih.1 z))

    false_own : alone ≡ false → AreTurning (may false v) alone v.given k.sizes.workers c i (names n)
    false_own e = subst (λ (z : Bool). AreTurning (may z v) alone v.given k.sizes.workers c i (names n)) e (may_turn.own n)

    turn_others : (j : ℕ) (u : View) → get_elem? views j ≡ some u → u.live ≡ true → j ≢ id → AreApart u (moment k happened) (names n)
    turn_others j u at al ne = bool_cases alone
        (λ y. absurd (no_other on y j u at ne))
        (λ z. turning_apart u (names n) (moment k happened) ((keeps.fits j u at al).given ∙ sym (fit on).given) (not_actor on j u at al ne) z (false_own z))

    turn_acts : (j : ℕ) (u : View) → get_elem? views j ≡ some u → u.live ≡ true → (0 < u.made → AreBelow u.made (names n)) × ((a : ℕ) (own : List Event) → Ends a own u.ended → NoneBy a (names n))
    turn_acts j u e al = bool_cases alone
        (λ y. ((alone_acts on y j u e).0, λ a own en. (alone_acts on y j u e).1 a own en))
        (λ z. (
          (λ up. (turning_silent (names n) (false_own z) u.made).0 (keeps.makers j id u v e mine al alive up).0),
          λ a own en. (turning_silent (names n) (false_own z) a).1 ((keeps.ended j u e al a own en).2 id v mine alive),
        ))

    turning_still : (p : ℕ → Bool) (row : ℕ) (es : List Event) (m : Moment) → AreTurning p alone k.given k.sizes.workers c i es → AreStill k.given row m es
    turning_still p row [] m a = tt
    turning_still p row (e ∷ es) m a = (a.0.rows m row, turning_still p row es (stepped k.given m e) a.1)

    turn_still : (row : ℕ) → IsEven (cell k.sizes words row 0) → AreStill k.given row (moment k happened) (names n)
    turn_still row e = turning_still (may alone v) row (names n) (moment k happened) own_k

    turned_held : (q : ℕ) → holds v.held q ≡ true → IsHeld k (happened ++ names n) turned_words q (held_at v.held q)
    turned_held q y = let g = (fit on).held q y in record {
      inside = g.inside;
      even = g.even;
      room = g.room;
      odd = turn_cell q 0 ∙ g.odd;
      size = g.size;
      now = λ j t. turn_cell q (j + 1) ∙ g.now j t;
      was = λ j t. turn_is q j (slice_index (held_at v.held q).was j) (g.was j t);
      counted = counted_still on (names n) q y;
    }

    pub turns : (w : View) × (w ≡ after v between (names n) (Turn c i n ∷ v.steps) v.held) × Keeps k (happened ++ names n) (set words (control_at c i) (f n)) (set views id w) × Turned shape c i f names v n w
        × (alone ≡ true → IsAlone k (happened ++ names n) (set words (control_at c i) (f n)) (set views id w) w)
    unfolding goes
    turns =
        let w = after v between (names n) (Turn c i n ∷ v.steps) v.held in (
          w,
          refl,
          advances k happened words views id v (names n) turned_words w keeps mine alive record {
            moves = turn_moves;
            size = length-set words (control_at c i) (f n);
            others = turn_others;
            still = turn_still;
            acts = turn_acts;
            steady = λ q t z o j u. turn_cell q j;
            free = λ q t ev j u. turn_is q j (cell k.sizes turned_words q (j + 1)) (subst (λ y. Shown k.given (moment k happened) q j y) (sym (turn_cell q (j + 1))) (keeps.free q t (subst IsEven (turn_cell q 0) ev) j u));
            few = few_still on (names n) turned_words (λ q t. turn_cell q 0);
            controls = turned_controls;
            tame = calm_are k.given (moment k happened) (names n) (turning_calm (names n) own_k);
            live = alive;
            actor = refl;
            made = refl;
            done = refl;
            all = seen_all on (names n);
            fits = fits_after on (names n) turned_words (Turn c i n ∷ v.steps) v.held (remembers_turn k.sizes turned_words v.steps c i n (remembers_on k.sizes words turned_words v.steps turn_moves (fit on).memory)) (still_old on (names n) turned_words turn_moves turn_still) turned_held (low_still on (names n));
            owner = λ q y. inl y;
            latched = λ q t o. bool_cases (holds v.held q) (λ y. inl y) (λ z. inr (let e = turn_cell q 0 in omega arith, z));
          } (at_length on),
          record {
            goes = goes on (names n) (Turn c i n ∷ []) v.held turned_words turned_held (turn_sync (may alone v) v.given (names n) (may_turn.own n));
            steps = refl;
            held = refl;
            found = found_word;
            word = (may_turn.turns between (quiet on) apart n found_word).0;
          },
          λ a. solo_after on (names n) turned_words (Turn c i n ∷ v.steps) v.held a (steady_still on turned_words (λ q t. turn_cell q 0) a),
        )

  -- each flushed word is turned, where nobody else steps
  module _ (number : ℕ) (es : List Event) (single : alone ≡ true) (may_sync : MaySync shape number es v) where
    abbrev flushed : List ℕ
    flushed = flushed_words k.sizes.workers words number

    flushed_row : (row j : ℕ) → cell k.sizes flushed row j ≡ cell k.sizes words row j
    flushed_row row j = flushed_cell k.sizes k.sizes.workers words number row j (omega arith)

    sync_row : (es : List Event) (m : Moment) (row j x : ℕ) → AreSyncing k.given k.sizes.workers es → Shown k.given m row j x → Shown k.given (run k.given m es) row j x
    sync_row [] m row j x a s = s
    sync_row (e ∷ es) m row j x a s = sync_row es (stepped k.given m e) row j x a.1 (shown_stays k.given m e row j x (a.0.rows m row) s)

    sync_word : (es : List Event) (m : Moment) (d j : ℕ) → d ≤ k.sizes.workers → ((0 < d) × (j ≡ 0) → ⊥) → AreSyncing k.given k.sizes.workers es → heard (run k.given m es) d j ≡ heard m d j
    sync_word [] m d j le ne a = refl
    sync_word (e ∷ es) m d j le ne a = sync_word es (stepped k.given m e) d j le ne a.1 ∙ heard_stays k.given m e d j (a.0.words d j le ne)

    sync_still : (row : ℕ) (es : List Event) (m : Moment) → AreSyncing k.given k.sizes.workers es → AreStill k.given row m es
    sync_still row [] m a = tt
    sync_still row (e ∷ es) m a = (a.0.rows m row, sync_still row es (stepped k.given m e) a.1)

    syncing_calm : (es : List Event) → AreSyncing k.given k.sizes.workers es → AreCalm es
    syncing_calm [] a = tt
    syncing_calm (e ∷ es) a = (a.0.calm, syncing_calm es a.1)

    sync_own : AreSyncing k.given k.sizes.workers es
    sync_own = subst (λ g. AreSyncing g k.sizes.workers es) (fit on).given may_sync.own

    sync_is : (row j x : ℕ) → Shown k.given (moment k happened) row j x → Shown k.given (moment k (happened ++ es)) row j x
    sync_is row j x s = subst (λ m. Shown k.given m row j x) (sym (run_append k.given (begun k.given) happened es)) (sync_row es (moment k happened) row j x sync_own s)

    sync_controls : (d j : ℕ) → d ≤ k.sizes.workers → j < count_of d → slice_index flushed (control_at d j) ≡ heard (moment k (happened ++ es)) d j
    sync_controls d j le u = at d j le u
      where
        other : (d j : ℕ) → d ≤ k.sizes.workers → j < count_of d → ((0 < d) × (j ≡ 0) → ⊥) → slice_index flushed (control_at d j) ≡ heard (moment k (happened ++ es)) d j
        other d j le u ne = flushed_other k.sizes.workers words number d j u ne ∙ (keeps.controls d j le u ∙ sym (ap (λ m. heard m d j) (run_append k.given (begun k.given) happened es) ∙ sync_word es (moment k happened) d j le ne sync_own))

        seen_is : v.seen ++ es ≡ happened ++ es
        seen_is = ap (λ z. z ++ es) (sym (solo single).seen)

        at : (d j : ℕ) → d ≤ k.sizes.workers → j < count_of d → slice_index flushed (control_at d j) ≡ heard (moment k (happened ++ es)) d j
        at zero j le u = other zero j le u (λ p. let x = p.0 in absurd (omega arith))
        at (suc d) zero le u = flushed_here k.sizes k.sizes.workers words number (suc d) (omega arith) keeps.size (omega arith) le
            ∙ (sym (may_sync.syncs (suc d) (omega arith) le) ∙ (λ i. heard (after_all ((fit on).given i) (seen_is i)) (suc d) 0))
        at (suc d) (suc j) le u = other (suc d) (suc j) le u (λ p. let x = p.1 in absurd (omega arith))

    sync_moves : Moves k.sizes words flushed
    sync_moves = record { rises = λ q. let e = flushed_row q 0 in omega arith; stays = λ q r e ev j t. flushed_row q (j + 1) }

    synced_held : (q : ℕ) → holds v.held q ≡ true → IsHeld k (happened ++ es) flushed q (held_at v.held q)
    synced_held q y = let g = (fit on).held q y in record {
      inside = g.inside;
      even = g.even;
      room = g.room;
      odd = flushed_row q 0 ∙ g.odd;
      size = g.size;
      now = λ j t. flushed_row q (j + 1) ∙ g.now j t;
      was = λ j t. sync_is q j (slice_index (held_at v.held q).was j) (g.was j t);
      counted = counted_still on es q y;
    }

    pub syncs : (w : View) × (w ≡ after v between es v.steps v.held) × Keeps k (happened ++ es) (flushed_words k.sizes.workers words number) (set views id w) × Synced shape number es v w
        × (alone ≡ true → IsAlone k (happened ++ es) (flushed_words k.sizes.workers words number) (set views id w) w)
    syncs =
        let w = after v between es v.steps v.held in (
          w,
          refl,
          advances k happened words views id v es flushed w keeps mine alive record {
            moves = sync_moves;
            size = flushed_length k.sizes.workers words number;
            others = λ j u at al ne. absurd (no_other on single j u at ne);
            still = λ row e. sync_still row es (moment k happened) sync_own;
            acts = λ j u e al. ((alone_acts on single j u e).0, λ a own en. (alone_acts on single j u e).1 a own en);
            steady = λ q t z o j u. flushed_row q j;
            free = λ q t ev j u. sync_is q j (cell k.sizes flushed q (j + 1)) (subst (λ y. Shown k.given (moment k happened) q j y) (sym (flushed_row q (j + 1))) (keeps.free q t (subst IsEven (flushed_row q 0) ev) j u));
            few = few_still on es flushed (λ q t. flushed_row q 0);
            controls = sync_controls;
            tame = calm_are k.given (moment k happened) es (syncing_calm es sync_own);
            live = alive;
            actor = refl;
            made = refl;
            done = refl;
            all = seen_all on es;
            fits = fits_after on es flushed v.steps v.held (remembers_on k.sizes words flushed v.steps sync_moves (fit on).memory) (still_old on es flushed sync_moves (λ row e. sync_still row es (moment k happened) sync_own)) synced_held (low_still on es);
            owner = λ q y. inl y;
            latched = λ q t o. bool_cases (holds v.held q) (λ y. inl y) (λ z. inr (let e = flushed_row q 0 in omega arith, z));
          } (at_length on),
          record { goes = goes on es [] v.held flushed synced_held (λ n. absurd (true≢false (sym single ∙ n))); steps = refl; held = refl },
          λ a. solo_after on es flushed v.steps v.held a (steady_still on flushed (λ q t. flushed_row q 0) a),
        )
