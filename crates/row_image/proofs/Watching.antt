-- Looking at rows: what others did meanwhile, and what stays.
use Rattle.std.proofs.Common.{◌≡◌, ◌≢◌, ◌==◌, ◌||◌, ◌<◌, ◌+◌, ◌-◌, ◌*◌, ◌^◌, ℕ, suc, set, length, Bool, true, false, List, [], ◌∷◌, ◌++◌, refl, sym, ap, subst, ◌∙◌, append-nil, append_assoc, inr, arith}
use Rattle.std.specs.Prelude.{slice_index, Result, Err, IfErr}
use Rattle.std.proofs.lemmas.List.{get_or-set_same, get_or-set_other}
use Rattle.std.proofs.lemmas.Bool.Decides.{nat_tests}
use Rattle.btree_descent.specs.core_state.States.{in_frame}
use Rattle.btree_descent.specs.row_words.declared.event.Event.{Event}
use Rattle.btree_descent.specs.row_words.declared.event.Event.TheVariants.{Miss}
use Rattle.btree_descent.specs.row_words.declared.given.Given.{Given}
use Rattle.btree_descent.specs.row_words.Moments.{Moment}
use Rattle.btree_descent.specs.row_words.Sealed.{begun, run}
use Rattle.btree_descent.proofs.row_words.SealedLemmas.{run_append}
use Rattle.btree_descent.specs.rows_trait.declared.view.Act.{Act}
use Rattle.btree_descent.specs.rows_trait.declared.view.View.{View}
use Rattle.btree_descent.specs.rows_trait.Views.{Shape, Has, Knows, latest, AreApart, after_all, state, holds, IsEven, AreSilent, may}
use Rattle.btree_descent.specs.rows_trait.Turns.{Goes, Looked, Loaded}
use Rattle.btree_descent.proofs.rows_trait.Runs.{ran_goes, ran_none, ran_append}
use Rattle.btree_descent.proofs.rows_trait.EventLemmas.{apart_append}
use Rattle.btree_descent.proofs.rows_trait.Causes.{loads_none, loads_then, loaded_loads, looked_loads}
use Rattle.btree_descent.specs.version_latch.Named.{missed, checked}
use Rattle.btree_descent.proofs.version_latch.Naming.{checked_silent, missed_even, checked_same}
use Rattle.btree_descent.proofs.version_latch.Keeping.{may_ran, may_shape, latest_look}
use Rattle.row_image.specs.declared.refusal.Unseen.{Unseen}
use Rattle.row_image.specs.Images.{StaysIn, IsMissed}
use Rattle.btree_descent.proofs.lean_proto.Meanwhile.{apart_as}
use Rattle.row_image.specs.Inside.{Watched, AreKnown, Stood, IsNamed, AreNamed, HasChildren, Refused}

-- what is apart from a view is apart from one of the same actor that holds the same rows
apart_same : (v w : View) (m : Moment) (es : List Event) → w.given ≡ v.given → w.actor ≡ v.actor → w.held ≡ v.held → AreApart w m es → AreApart v m es
apart_same v w m es g a h x = apart_as v w g a (λ row. ap (λ z. holds z row) h) es m x

-- the moment to which a view leads that was only watched
state_is : (alone : Bool) (v w : View) (k : Watched alone v w) → state w ≡ after_all v.given (v.seen ++ k.between)
state_is alone v w k = ap (λ (g : Given). after_all g w.seen) k.ran.given ∙ ap (after_all v.given) k.seen

pub moment_is : (alone : Bool) (v w : View) (k : Watched alone v w) → state w ≡ run v.given (state v) k.between
moment_is alone v w k = state_is alone v w k ∙ run_append v.given (begun v.given) v.seen k.between

pub watched_none : (alone : Bool) (v : View) → Watched alone v v
watched_none alone v = record {
  ran = ran_none alone v;
  between = [];
  quiet = λ y. refl;
  apart = tt;
  seen = sym (append-nil v.seen);
  held = refl;
  loads = loads_none v;
  has = λ row s h. h;
  knows = λ row s i x h. h;
  latest = λ y row s h. h;
}

pub watched_then : {alone : Bool} {v w u : View} → Watched alone v w → Watched alone w u → Watched alone v u
watched_then {alone = alone} {v = v} {w = w} {u = u} a b = record {
  ran = ran_append alone v [] w [] u a.ran b.ran;
  between = a.between ++ b.between;
  quiet = λ y. (λ i. a.quiet y i ++ b.quiet y i);
  apart = apart_append v (state v) a.between b.between a.apart (apart_same v w (run v.given (state v) a.between) b.between a.ran.given a.ran.actor a.held (subst (λ m. AreApart w m b.between) (moment_is alone v w a) b.apart));
  seen = b.seen ∙ (ap (λ z. z ++ b.between) a.seen ∙ append_assoc v.seen a.between b.between);
  held = b.held ∙ a.held;
  loads = loads_then v w u a.loads b.loads;
  has = λ row s h. b.has row s (a.has row s h);
  knows = λ row s i x h. b.knows row s i x (a.knows row s i x h);
  latest = λ y row s h. b.latest y row s (a.latest y row s h);
}

pub watched_load : {z : Shape} {row i n : ℕ} {v w : View} → Loaded z row i v n w → Watched z.alone v w
watched_load {z = z} {row = row} {i = i} {n = n} {v = v} {w = w} l = record {
  ran = ran_goes z v [] w tt l.goes;
  between = l.goes.between;
  quiet = l.goes.quiet;
  apart = l.goes.apart;
  seen = l.goes.seen ∙ append-nil (v.seen ++ l.goes.between);
  held = l.held;
  loads = loaded_loads z row i n v w l;
  has = λ q s h. let P : List Act → Type 0 = λ ss. Has q s ss in subst P (sym l.steps) h;
  knows = λ q s j x h. let P : List Act → Type 0 = λ ss. Knows q s j x ss in subst P (sym l.steps) (inr h);
  latest = λ y q s h. ap (latest q) l.steps ∙ h;
}

-- a look that appends nothing
watched_look : (z : Shape) (row n : ℕ) (names : ℕ → List Event) (v w : View) → names n ≡ [] → Looked z row names v n w → Watched z.alone v w
watched_look z row n names v w none l =
    let goes : Goes z v [] w = subst (λ (es : List Event). Goes z v es w) none l.goes in record {
      ran = ran_goes z v [] w tt goes;
      between = goes.between;
      quiet = goes.quiet;
      apart = goes.apart;
      seen = goes.seen ∙ append-nil (v.seen ++ goes.between);
      held = l.held;
      loads = looked_loads z row n names v w l;
      has = λ q s h. let P : List Act → Type 0 = λ ss. Has q s ss in subst P (sym l.steps) (inr h);
      knows = λ q s j x h. let P : List Act → Type 0 = λ ss. Knows q s j x ss in subst P (sym l.steps) h;
      latest = λ y q s h. latest_look z row n q s names v w l y h;
    }

-- the look at a free row, and the one that finds its version again
pub watched_start : {z : Shape} {row n : ℕ} {v w : View} (actor : ℕ) → IsEven n → Looked z row (missed actor) v n w → Watched z.alone v w
watched_start {z = z} {row = row} {n = n} {v = v} {w = w} actor even l = watched_look z row n (missed actor) v w (missed_even actor n even) l

pub watched_check : {z : Shape} {row n : ℕ} {v w : View} (actor : ℕ) → Looked z row (checked actor n) v n w → Watched z.alone v w
watched_check {z = z} {row = row} {n = n} {v = v} {w = w} actor l = watched_look z row n (checked actor n) v w (checked_same actor n) l

-- a check after it changes nothing
pub check_silent : {z y : Shape} {v w : View} (actor version n : ℕ) → may y.alone v actor ≡ true → z ≡ y → Watched y.alone v w → AreSilent (may z.alone w) w.given (checked actor version n)
check_silent {z = z} {y = y} {v = v} {w = w} actor version n own same k = checked_silent (may z.alone w) w.given actor version n (may_shape z y w actor same (may_ran y.alone v w [] actor k.ran own))

-- who may act after it could before
pub may_before : (alone : Bool) (v w : View) (a : ℕ) → Watched alone v w → may alone w a ≡ true → may alone v a ≡ true
may_before alone v w a k m = subst (λ (z : ℕ). (alone || (a == z)) ≡ true) k.ran.actor m

-- on rows of the same shape
pub watched_shape : {z y : Shape} {v w : View} → z ≡ y → Watched z.alone v w → Watched y.alone v w
watched_shape {v = v} {w = w} same k = subst (λ (s : Shape). Watched s.alone v w) same k

-- ## What stays in a row

-- where a page stays it stands, and goes on to stay
pub stays_now : (alone : Bool) (v w : View) (row p : ℕ) → Watched alone v w → StaysIn alone v row p → in_frame ((state w).core.place p) row ≡ true
stays_now alone v w row p k s = subst (λ m. in_frame (m.core.place p) row ≡ true) (sym (state_is alone v w k)) (s.stays k.between k.quiet k.apart)

pub stays_on : (alone : Bool) (v w : View) (row p : ℕ) → Watched alone v w → StaysIn alone v row p → StaysIn alone w row p
stays_on alone v w row p k s = record {
  stays = λ more q a.
      let b = apart_append v (state v) k.between more k.apart (apart_same v w (run v.given (state v) k.between) more k.ran.given k.ran.actor k.held (subst (λ m. AreApart w m more) (moment_is alone v w k) a)) in
      let t = s.stays (k.between ++ more) (λ y. (λ i. k.quiet y i ++ q y i)) b in
      let e : v.seen ++ (k.between ++ more) ≡ w.seen ++ more = sym (append_assoc v.seen k.between more) ∙ ap (λ z. z ++ more) (sym k.seen) in
      subst (λ (y : Given). in_frame ((after_all y (w.seen ++ more)).core.place p) row ≡ true) (sym k.ran.given) (subst (λ z. in_frame ((after_all v.given z).core.place p) row ≡ true) e t);
}

-- ## Numbers of children

pub stood_after : (alone : Bool) (v w u : View) (frame number : ℕ) → Watched alone w u → Stood alone v frame number w → Stood alone v frame number u
stood_after alone v w u frame number k s = record { at = s.at; before = s.before; after = watched_then s.after k; shown = s.shown }

pub stood_before : (alone : Bool) (u v w : View) (frame number : ℕ) → Watched alone u v → Stood alone v frame number w → Stood alone u frame number w
stood_before alone u v w frame number k s = record { at = s.at; before = watched_then k s.before; after = s.after; shown = s.shown }

pub named_after : (alone : Bool) (frames : ℕ) (v w u : View) (x y : ℕ) → Watched alone w u → IsNamed alone frames v x y w → IsNamed alone frames v x y u
named_after alone frames v w u x y k n = record { number = n.number; frame = λ h l. stood_after alone v w u (x - 2 ^ 63) y k (n.frame h l) }

pub named_before : (alone : Bool) (frames : ℕ) (u v w : View) (x y : ℕ) → Watched alone u v → IsNamed alone frames v x y w → IsNamed alone frames u x y w
named_before alone frames u v w x y k n = record { number = n.number; frame = λ h l. stood_before alone u v w (x - 2 ^ 63) y k (n.frame h l) }

pub named_none : (alone : Bool) (frames : ℕ) (v w : View) (words : List ℕ) → AreNamed alone frames 0 v words words w
named_none alone frames v w words = record { same = λ i h. refl; named = λ j lt. absurd (omega arith) }

-- one pair more
pub named_more : (alone : Bool) (frames n : ℕ) (v w u : View) (was now : List ℕ) (y : ℕ) → length now ≡ 126 → n < 60 → Watched alone v w → Watched alone w u
    → AreNamed alone frames n v was now w → IsNamed alone frames w (slice_index now (7 + 2 * n)) y u → AreNamed alone frames (suc n) v was (set now (7 + 2 * n) y) u
named_more alone frames n v w u was now y size small before step a one = record {
  same = λ i h. get_or-set_other now (7 + 2 * n) i y 0 (λ e. h n (omega arith) e) ∙ a.same i (λ j lt. h j (omega arith));
  named = λ j lt. each j lt (j == n) refl;
}
  where
    each : (j : ℕ) → j < suc n → (b : Bool) → (j == n) ≡ b → IsNamed alone frames v (slice_index was (7 + 2 * j)) (slice_index (set now (7 + 2 * n) y) (7 + 2 * j)) u
    each j lt true e =
        let is : j ≡ n = grind (arith, nat_tests) in
        let P : ℕ → Type 0 = λ k. IsNamed alone frames v (slice_index was (7 + 2 * k)) (slice_index (set now (7 + 2 * n) y) (7 + 2 * k)) u in
        let x_is : slice_index now (7 + 2 * n) ≡ slice_index was (7 + 2 * n) = a.same (7 + 2 * n) (λ k l z. absurd (omega arith)) in
        let y_is : slice_index (set now (7 + 2 * n) y) (7 + 2 * n) ≡ y = get_or-set_same now (7 + 2 * n) y 0 (omega arith) in
        subst P (sym is) (subst (λ z. IsNamed alone frames v (slice_index was (7 + 2 * n)) z u) (sym y_is) (subst (λ z. IsNamed alone frames v z y u) x_is (named_before alone frames v w u (slice_index now (7 + 2 * n)) y before one)))
    each j lt false e =
        let ne : j ≢ n = grind (arith, nat_tests) in
        let y_is : slice_index (set now (7 + 2 * n) y) (7 + 2 * j) ≡ slice_index now (7 + 2 * j) = get_or-set_other now (7 + 2 * n) (7 + 2 * j) y 0 (λ z. absurd (omega arith)) in
        subst (λ z. IsNamed alone frames v (slice_index was (7 + 2 * j)) z u) (sym y_is) (named_after alone frames v w u (slice_index was (7 + 2 * j)) (slice_index now (7 + 2 * j)) step (a.named j (omega arith)))

-- ## Refusals

pub refused_after : {alone : Bool} {actor : ℕ} {IsOne : ℕ → Type 0} {v w u : View} {why : Unseen} → Watched alone v w → Refused alone actor IsOne w why u → Refused alone actor IsOne v why u
refused_after {alone = alone} {actor = actor} {v = v} {w = w} {u = u} {why = why} k r = record {
  ran = ran_append alone v [] w (Miss actor ∷ []) u k.ran r.ran;
  cause = λ a l. r.cause a (loads_then a v w l k.loads);
  held = r.held ∙ k.held;
  at = r.at;
  one = r.one;
  never = λ y none. r.never y (ap (λ hs. holds hs r.at) k.held ∙ none);
}

-- at one of fewer rows
pub refused_one : {alone : Bool} {actor : ℕ} {IsOne IsOther : ℕ → Type 0} {v w : View} {why : Unseen} → ((q : ℕ) → IsOne q → IsOther q) → Refused alone actor IsOne v why w → Refused alone actor IsOther v why w
refused_one f r = record { ran = r.ran; cause = r.cause; held = r.held; at = r.at; one = f r.at r.one; never = r.never }

-- no row is held
pub never_refused : {alone : Bool} {actor : ℕ} {IsOne : ℕ → Type 0} {v w : View} {why : Unseen} → Refused alone actor IsOne v why w → alone ≡ true → v.held ≡ [] → ⊥
never_refused r y none = r.never y (ap (λ hs. holds hs r.at) none)

pub refused_shape : {z y : Shape} {actor : ℕ} {IsOne : ℕ → Type 0} {v w : View} {why : Unseen} → z ≡ y → Refused z.alone actor IsOne v why w → Refused y.alone actor IsOne v why w
refused_shape {actor = actor} {IsOne = IsOne} {v = v} {w = w} {why = why} same r = subst (λ (s : Shape). Refused s.alone actor IsOne v why w) same r

-- what a fact of an error says of its answer
pub if_err : {A E : Type 0} (r : Result A E) (e : E) (P : E → Type 0) → r ≡ Err e → P e → IfErr r P
if_err r e P is h = subst (λ z. IfErr z P) (sym is) h

-- ## Words

-- one word more
pub known_more : (row version n x : ℕ) (words : List ℕ) (acts more : List Act) → n < length words → ((i y : ℕ) → Knows row version i y acts → Knows row version i y more)
    → AreKnown row version n words acts → Knows row version n x more → AreKnown row version (n + 1) (set words n x) more
known_more row version n x words acts more long on known one i lt = at (i == n) refl
  where
    at : (b : Bool) → (i == n) ≡ b → Knows row version i (slice_index (set words n x) i) more
    at true e =
        let is : i ≡ n = grind (arith, nat_tests) in
        let P : ℕ → Type 0 = λ k. Knows row version k (slice_index (set words n x) k) more in
        let Q : ℕ → Type 0 = λ y. Knows row version n y more in
        subst P (sym is) (subst Q (sym (get_or-set_same words n x 0 long)) one)
    at false e =
        let ne : i ≢ n = grind (arith, nat_tests) in
        let Q : ℕ → Type 0 = λ y. Knows row version i y more in
        subst Q (sym (get_or-set_other words n i x 0 ne)) (on i (slice_index words i) (known i (omega arith)))

-- ## Of a whole call

pub children_within : (alone : Bool) (frames : ℕ) (t v w u : View) (was now : List ℕ) → Watched alone t v → Watched alone w u → HasChildren alone frames v was now w → HasChildren alone frames t was now u
children_within alone frames t v w u was now before after h = record {
  leaf = h.leaf;
  inner = λ up. let a = h.inner up in record {
    same = a.same;
    named = λ j lt. named_after alone frames t w u (slice_index was (7 + 2 * j)) (slice_index now (7 + 2 * j)) after (named_before alone frames t v w (slice_index was (7 + 2 * j)) (slice_index now (7 + 2 * j)) before (a.named j lt));
  };
}

pub missed_refused : {IsOne : ℕ → Type 0} (alone : Bool) (actor : ℕ) (v w : View) (why : Unseen) → Refused alone actor IsOne v why w → IsMissed alone actor v why w
missed_refused alone actor v w why r = record { ran = r.ran; cause = r.cause v (loads_none v) }
