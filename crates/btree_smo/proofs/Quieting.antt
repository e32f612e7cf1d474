-- A lock row that is latched from words that say nobody has it.
use Rattle.std.proofs.Common.{◌≡◌, ◌==◌, ◌<◌, ◌+◌, ℕ, zero, suc, Bool, true, false, List, [], ◌∷◌, ◌++◌, append-nil, Option, Some, None, refl, sym, ap, subst, ◌∙◌, eq-eqb, arith, true≢false}
use Rattle.std.specs.Prelude.{slice_index}
use Rattle.std.proofs.lemmas.Bool.{cond-true}
use Rattle.btree_descent.specs.core_state.States.{Row}
use Rattle.btree_descent.specs.core_state.Needs.{is_free, is_reader}
use Rattle.btree_descent.specs.row_words.declared.event.Event.{Event}
use Rattle.btree_descent.specs.row_words.declared.given.Given.{Given}
use Rattle.btree_descent.specs.row_words.Openings.{opening}
use Rattle.btree_descent.specs.row_words.Sealed.{Shown}
use Rattle.btree_descent.specs.row_words.Words.{mask, holder_word, lock_words}
use Rattle.btree_descent.specs.rows_trait.declared.view.Hold.{Hold}
use Rattle.btree_descent.specs.rows_trait.declared.view.View.{View}
use Rattle.btree_descent.specs.rows_trait.Views.{Shape, Knows, state, latest, hold, holds, held_at}
use Rattle.btree_descent.specs.rows_trait.Turns.{Goes, Looked, Loaded, Taken, Ran}
use Rattle.btree_descent.specs.rows_trait.Causes.{HasFound}
use Rattle.btree_descent.proofs.version_latch.Keeping.{kept_load, looked_latest}
use Rattle.key_locks.specs.Rows.{Sized}
use Rattle.btree_smo.proofs.Causes.{found_after, found_loads}
use Rattle.btree_smo.specs.Outcomes.{Found}
use Rattle.btree_descent.proofs.rows_trait.Runs.{ran_goes, ran_append}
use Rattle.key_locks.specs.Rows.{IsRow, IsSound}
use Rattle.key_locks.specs.Inside.{IsAt}
use Rattle.key_locks.proofs.Masks.{no_reader}
use Rattle.key_locks.proofs.Staying.{shown_word, five_wide}
use Rattle.btree_descent.specs.lean_proto.Purges.{IsQuiet}
use Rattle.held_rows.specs.Rows.{Waited, Stood}
use Rattle.held_rows.specs.Latching.{Took}
use Rattle.btree_smo.specs.Inside.Quiet.{AreQuiet, with_holds}
use Rattle.held_rows.specs.Waits.{waited_then, waited_goes, stood_then, stood_shape, stood_load}

-- ## Words

no_mask : (n : ℕ) → mask n [] ≡ 0
no_mask zero = refl
no_mask (suc n) = no_mask n

pub quiet_row : (n : ℕ) (o : Row) (f a b c : ℕ) → IsRow n o → AreQuiet a b c f → a ≡ mask n o.readers → b ≡ holder_word o.holder → c ≡ o.number → IsQuiet o f
quiet_row n o f a b c r q x y z = record {
  holder = free o.holder (sym y ∙ q.free) (λ w h. (r.holder w h).one);
  readers = no_reader n o.readers r.reader (sym x ∙ q.nobody);
  number = (let l = q.low in let e = z in omega arith);
}
  where
    free : (h : Option ℕ) → holder_word h ≡ 0 → ((w : ℕ) → Rattle.btree_descent.specs.core_state.Needs.is_held_by h w ≡ true → 0 < w) → is_free h ≡ true
    free None e some = refl
    free (Some w) e some = absurd (let lt = some w (eq-eqb w w refl) in omega arith)

pub words_quiet : (n : ℕ) (o : Row) (f a b c : ℕ) → IsQuiet o f → a ≡ mask n o.readers → b ≡ holder_word o.holder → c ≡ o.number → AreQuiet a b c f
words_quiet n o f a b c q x y z = record {
  nobody = x ∙ (ap (mask n) q.readers ∙ no_mask n);
  free = y ∙ none o.holder q.holder;
  low = (let l = q.number in let e = z in omega arith);
}
  where
    none : (h : Option ℕ) → is_free h ≡ true → holder_word h ≡ 0
    none None e = refl
    none (Some w) e = absurd (true≢false (sym e))

-- ## Steps

pub stood_look : {z : Shape} {row n : ℕ} {v w : View} → Looked z row (λ _. []) v n w → Stood z.alone v w
stood_look l = record { waited = waited_goes l.goes (λ q. ap (λ hs. holds hs q) l.held); held = l.held }

-- what ran, whatever is held
pub ran_held : {alone : Bool} {v w : View} {es : List Event} (hs : List Hold) → Ran alone v es w → Ran alone v es (record w { held = hs })
ran_held hs r = record { more = r.more; seen = r.seen; own = r.own; all = r.all; part = r.part; since = record { acts = r.since.acts; steps = r.since.steps }; given = r.given; actor = r.actor; live = r.live; made = r.made; ended = r.ended }

grew_goes : {z : Shape} {v w : View} → Goes z v [] w → Waited z.alone v (with_holds w v)
grew_goes {z} {v} {w} g = record { ran = ran_held v.held (ran_goes z v [] w tt g); between = g.between; quiet = g.quiet; apart = g.apart; seen = g.seen ∙ append-nil (v.seen ++ g.between); rows = λ q. refl }

pub taken_all : {z : Shape} {row version : ℕ} {v u w : View} → Stood z.alone v u → Taken z row version (λ _. []) u w → Took z row v w
taken_all {z} {row} {version} {v} {u} {w} s t = record {
  ran = ran_append z.alone v [] u [] w s.waited.ran (ran_goes z u [] w tt t.goes);
  version = version;
  was = t.was;
  held = t.held ∙ ap (λ hs. hold row version t.was t.was false ∷ hs) s.held;
  size = t.size;
  stands = t.goes.stands;
  fresh = ap (λ hs. holds hs row) (sym s.held) ∙ t.fresh;
}

pub taken_grew : {z : Shape} {row version : ℕ} {v u w : View} → Stood z.alone v u → Taken z row version (λ _. []) u w → Waited z.alone v (with_holds w v)
taken_grew {z} {row} {version} {v} {u} {w} s t = waited_then s.waited (subst (λ (hs : List Hold). Waited z.alone u (record w { held = hs })) s.held (grew_goes t.goes))

-- three words were loaded
pub record Three (z : Shape) (row version a b c : ℕ) (v u : View) : Type 0 where
  pub stood : Stood z.alone v u
  pub readers : Knows row version 0 a u.steps
  pub holder : Knows row version 1 b u.steps
  pub number : Knows row version 2 c u.steps
  pub last : latest row u.steps ≡ Some version
  pub found : Found row version v u

pub three : (z y0 y1 y2 : Shape) (row version a b c : ℕ) (v u0 u1 u2 u3 : View) → y0 ≡ z → y1 ≡ z → y2 ≡ z → Looked z row (λ _. []) v version u0 → HasFound row version v u0 → Loaded y0 row 0 u0 a u1 → Loaded y1 row 1 u1 b u2 → Loaded y2 row 2 u2 c u3
    → Knows row version 0 a u1.steps → Knows row version 1 b u2.steps → Knows row version 2 c u3.steps → Three z row version a b c v u3
three z y0 y1 y2 row version a b c v u0 u1 u2 u3 e0 e1 e2 l found s1 s2 s3 k1 k2 k3 =
    let h2 = kept_load y1 row 1 b u1 u2 s2 in
    let h3 = kept_load y2 row 2 c u2 u3 s3 in
    let h1 = kept_load y0 row 0 a u0 u1 s1 in
    let rest = stood_then (stood_shape e0 (stood_load s1)) (stood_then (stood_shape e1 (stood_load s2)) (stood_shape e2 (stood_load s3))) in record {
      stood = stood_then (stood_look l) rest;
      readers = h3.knows row version 0 a (h2.knows row version 0 a k1);
      holder = h3.knows row version 1 b k2;
      number = k3;
      last = h3.latest row ∙ (h2.latest row ∙ (h1.latest row ∙ looked_latest z row version (λ _. []) v u0 l));
      found = found_after (found_loads found) rest.waited.ran.since;
    }

pub lock_at : {z : Shape} {v : View} {worker frames count i row : ℕ} → Sized z v worker frames count → i < count → row ≡ frames + i → IsAt z v row i
lock_at {z} {v} {worker} {frames} {count} {i} {row} s lt e = record {
  place = ap (λ n. n + i) s.given ∙ sym e;
  shape = s.spans.shape ∙ sym s.given;
  inside = (let a = s.spans.shape in let b = s.spans.rows in omega arith);
}

-- the words of a row that was latched are those that were loaded
module _ {z : Shape} {row version i : ℕ} {v u w : View} (at : IsAt z v row i) (sound : IsSound v.given) (s : Stood z.alone v u) (t : Taken z row version (λ _. []) u w) where
  given : w.given ≡ v.given
  given = t.goes.given ∙ s.waited.ran.given

  place : (opening w.given).frames + i ≡ row
  place = ap (λ (g : Given). (opening g).frames + i) given ∙ at.place

  mine : holds w.held row ≡ true
  mine = ap (λ hs. holds hs row) t.held ∙ cond-true (row == row) true (holds u.held row) (eq-eqb row row refl)

  was_is : (held_at w.held row).was ≡ t.was
  was_is = ap (λ hs. (held_at hs row).was) t.held ∙ ap (λ (h : Hold). h.was) (cond-true (row == row) (hold row version t.was t.was false) (held_at u.held row) (eq-eqb row row refl))

  word_is : (j x : ℕ) → j < 5 → Knows row version j x u.steps → x ≡ slice_index (lock_words (opening w.given).workers ((state w).core.row i)) j
  word_is j x lt k =
      let e = five_wide z v row i at in
      let sh = t.goes.stands row mine j (omega arith) in
      let sh2 : Shown w.given (state w) row j x = subst (λ y. Shown w.given (state w) row j y) (ap (λ (ws : List ℕ). slice_index ws j) was_is ∙ t.known j x k) sh in
      shown_word w.given row i place (state w) j x sh2

  pub taken_quiet : (f a b c : ℕ) → AreQuiet a b c f → Knows row version 0 a u.steps → Knows row version 1 b u.steps → Knows row version 2 c u.steps → IsQuiet ((state w).core.row i) f
  taken_quiet f a b c q x y k =
      let r : IsRow (opening w.given).workers ((state w).core.row i) = subst IsSound (sym given) sound w.seen i in
      quiet_row (opening w.given).workers ((state w).core.row i) f a b c r q (word_is 0 a (omega arith) x) (word_is 1 b (omega arith) y) (word_is 2 c (omega arith) k)

-- and those of a row that is found again
pub found_busy : {z : Shape} {row i : ℕ} {v : View} (u w : View) (version f a b c : ℕ) → IsAt z v row i → w.given ≡ v.given → ((j x : ℕ) → Knows row version j x u.steps → Shown w.given (state w) row j x)
    → (AreQuiet a b c f → ⊥) → Knows row version 0 a u.steps → Knows row version 1 b u.steps → Knows row version 2 c u.steps → IsQuiet ((state w).core.row i) f → ⊥
found_busy {z} {row} {i} {v} u w version f a b c at same valid off x y k q =
    let place : (opening w.given).frames + i ≡ row = ap (λ (g : Given). (opening g).frames + i) same ∙ at.place in
    off (words_quiet (opening w.given).workers ((state w).core.row i) f a b c q (shown_word w.given row i place (state w) 0 a (valid 0 a x)) (shown_word w.given row i place (state w) 1 b (valid 1 b y)) (shown_word w.given row i place (state w) 2 c (valid 2 c k)))
