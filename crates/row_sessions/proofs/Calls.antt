-- What the calls of sessions owe to the calls that they make, and how sessions stand after these.
use Rattle.std.proofs.Common.{refl, ◌≡◌, ◌<◌, ◌≤◌, ◌+◌, ◌^◌, ltb, ℕ, suc, true, false, List, [], ◌∷◌, sym, ap, subst, ◌∙◌, arith, true≢false}
use Rattle.std.proofs.lemmas.Bool.{and_from, lt-ltb, le-leb}
use Rattle.std.specs.Prelude.{slice_set}
use Rattle.btree_descent.specs.core_state.Steps as core
use Rattle.btree_descent.specs.row_words.declared.event.Event.TheVariants as told
use Rattle.btree_descent.specs.row_words.Openings.{opening}
use Rattle.btree_descent.proofs.row_words.SealedLemmas.{silent_sets}
use Rattle.btree_descent.specs.rows_trait.declared.view.View.{View}
use Rattle.btree_descent.specs.rows_trait.Views.{Shape, state}
use Rattle.btree_descent.specs.rows_trait.Views as views
use Rattle.btree_descent.specs.rows_trait.Turns.{Heard, MayTurn, Turned}
use Rattle.btree_descent.specs.lean_proto.Controls.{IsBegin, IsEnd}
use Rattle.btree_descent.proofs.lean_proto.Turning.{every_begin, every_turn, end_sets}
use Rattle.btree_descent.specs.declared.descent.Answer.{Answer}
use Rattle.btree_descent.specs.declared.descent.Answer.TheVariants as answer
use Rattle.btree_descent.specs.Known.{said}
use Rattle.btree_descent.specs.Descents.{Went}
use Rattle.row_sessions.specs.declared.session.Session.{Session}
use Rattle.row_sessions.specs.Standing.{IsOf, session_at, AreSessions}
use Rattle.row_sessions.proofs.Standings.{ran_state, goes_state, miss_same, read_same, sessions_own}

-- ## A find of the main actor

pub went_core : (key : ℕ) (v w : View) (a : Answer) → ((state v).core.worker 0).is_open ≡ false → Went true 0 key v a w → (w.given ≡ v.given) × ((state w).core ≡ (state v).core)
went_core key v w (answer.Found found) closed d = (d.answered.ran.given, ap (λ m. m.core) (ran_state v w _ d.answered.ran) ∙ read_same v.given (state v) 0 d.answered.page key (said found.word) closed)
went_core key v w (answer.Cold page) closed d = (d.ran.given, ap (λ m. m.core) (ran_state v w [] d.ran))
went_core key v w (answer.Moved m) closed r = (r.given, ap (λ m. m.core) (ran_state v w _ r) ∙ miss_same v.given (state v) 0)
went_core key v w (answer.Latched l) closed r = (r.given, ap (λ m. m.core) (ran_state v w _ r) ∙ miss_same v.given (state v) 0)

-- ## Begins and ends, over sessions

-- where nobody else steps a seat acts for everyone
plays : (z : Shape) (v : View) (w : ℕ) → z.alone ≡ true → views.may z.alone v w ≡ true
plays z v w alone = ap (λ b. views.may b v w) alone

module _ (v : View) (n base w : ℕ) (xs : List Session) (s : AreSessions n base xs (state v)) (workers : (opening v.given).workers ≡ n) (some : 0 < w) (among : w ≤ n) where
  flushed : (u : ℕ) → 0 < u → u ≤ (opening v.given).workers → (state v).core.flushed u ≡ base
  flushed u pos le = s.flushed u pos (subst (λ k. u ≤ k) workers le)

  of_w : IsOf base (session_at xs w) ((state v).core.worker w)
  of_w = s.each w among

  floor_is : ((state v).core.worker w).floor ≡ base
  floor_is = of_w.floor ∙ of_w.low

  -- ## A begin

  begin_known : (z : Shape) → z.alone ≡ true → (session_at xs w).is_open ≡ false → IsBegin z v w w (λ _. base)
  begin_known z alone closed = record {
    actor = plays z v w alone;
    worker = and_from (ltb 0 w) _ (lt-ltb 0 w some) (le-leb w (opening v.given).workers (subst (λ k. w ≤ k) (sym workers) among));
    closed = of_w.is_open ∙ closed;
    log = some;
    low = λ k h. let e = floor_is in omega arith;
    own = λ k h. let e = s.flushed w some among in omega arith;
    others = λ k u h pos le ne. let e = flushed u pos le in omega arith;
  }

  pub begin_after : (u : View) (z : Shape) (x : Session) (k : ℕ) → z.alone ≡ true → Heard z w 0 (λ _. told.Begin w base ∷ []) v k u → (session_at xs w).is_open ≡ false
      → ((a : _) → IsOf base (session_at xs w) a → IsOf base x (core.begun a base)) → AreSessions n base (slice_set xs w x) (state u)
  begin_after u z x k alone h closed to =
      let after = goes_state z v u _ alone h.goes in
      subst (AreSessions n base (slice_set xs w x)) (sym after)
      (sessions_own v.given (state v) (told.Begin w base) n base w xs x refl refl (silent_sets (told.Begin w base) w 0 refl) some among s
      (subst (IsOf base x) (sym (ap (λ m. m.core.worker w) (sym after) ∙ ((every_begin z v w).begun w (λ _. base) k u (begin_known z alone closed) h).worker)) (to ((state v).core.worker w) of_w)))

  -- ## An end

  end_known : (z : Shape) (value : ℕ) → z.alone ≡ true → (session_at xs w).is_open ≡ true → value ≡ (session_at xs w).clock + 1 → value < 2 ^ 64 → IsEnd z v w true base value
  end_known z value alone opened is small = record {
    actor = plays z v w alone;
    some = some;
    met = (every_turn z v w).need true base (record {
      is_open = of_w.is_open ∙ opened;
      low = let e = floor_is in omega arith;
      flushed = λ u pos le. let e = flushed u pos le in omega arith;
      back = λ e. absurd (true≢false e);
    });
    number_is = let e = of_w.clock in omega arith;
    small = small;
  }

  pub end_after : (u : View) (z : Shape) (x : Session) (value k : ℕ) → z.alone ≡ true → Turned z w 1 (λ _. value) (λ _. told.End w true base ∷ []) v k u → (session_at xs w).is_open ≡ true
      → value ≡ (session_at xs w).clock + 1 → value < 2 ^ 64 → ((a : _) → IsOf base (session_at xs w) a → IsOf base x (core.finished a (suc a.clock))) → AreSessions n base (slice_set xs w x) (state u)
  end_after u z x value k alone t opened is small to =
      let after = goes_state z v u _ alone t.goes in
      let known = end_known z value alone opened is small in
      subst (AreSessions n base (slice_set xs w x)) (sym after)
      (sessions_own v.given (state v) (told.End w true base) n base w xs x refl refl (end_sets w true base w 0 (λ h. absurd (omega (arith, h.1)))) some among s
      (subst (IsOf base x) (sym (ap (λ m. m.core.worker w) (sym after) ∙ (((every_turn z v w).ended true base value k u known t).worker ∙ ap (core.finished ((state v).core.worker w)) known.number_is))) (to ((state v).core.worker w) of_w)))

  -- the end number is what the worker's second control word turns into
  pub end_turns : (z : Shape) (value : ℕ) → z.alone ≡ true → (session_at xs w).is_open ≡ true → value ≡ (session_at xs w).clock + 1 → value < 2 ^ 64
      → MayTurn z w 1 (λ _. value) (λ _. told.End w true base ∷ []) v
  end_turns z value alone opened is small = (every_turn z v w).end true base value (end_known z value alone opened is small)
