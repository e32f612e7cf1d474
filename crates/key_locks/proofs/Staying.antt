-- What stays of a lock row that a seat holds, and of its worker, while others go on.
use Rattle.std.proofs.Common.{◌≡◌, ◌+◌, ◌-◌, ℕ, Bool, true, false, List, [], length, get_or, refl, sym, ap, ◌∙◌, arith, ltb}
use Rattle.std.proofs.lemmas.Bool.{le-ltb}
use Rattle.lean_proto.specs.core_state.Openings.{Opening}
use Rattle.lean_proto.specs.row_words.declared.event.Event.{Event}
use Rattle.lean_proto.specs.row_words.declared.given.Given.{Given}
use Rattle.lean_proto.specs.row_words.Moments.{Moment}
use Rattle.lean_proto.specs.row_words.Openings.{opening}
use Rattle.lean_proto.specs.row_words.Sealed.{run, Shown}
use Rattle.lean_proto.specs.row_words.Words.{lock_words}
use Rattle.lean_proto.specs.rows_trait.declared.view.View.{View}
use Rattle.lean_proto.specs.rows_trait.Layout.{width}
use Rattle.lean_proto.specs.rows_trait.Views.{Shape, state, AreApart, Spells, holds, may}
use Rattle.lean_proto.specs.rows_trait.Turns.{Goes, Ran}
use Rattle.lean_proto.proofs.Carrying.{moment_run}
use Rattle.lean_proto.proofs.Owns.{own_after}
use Rattle.lean_proto.proofs.Steady.{row_on}
use Rattle.key_locks.specs.Inside.{IsAt}
use Rattle.key_locks.proofs.Lists.{same_five}

-- ## Over others' events

module _ (v : Given) (row i : ℕ) (place : (opening v).frames + i ≡ row) where
  abbrev g : Opening
  g = opening v

  pub past : ltb row g.frames ≡ false
  past = le-ltb row g.frames (omega arith)

  pub index : row - g.frames ≡ i
  index = omega arith

  -- the words that a lock row shows
  pub shown_word : (m : Moment) (j x : ℕ) → Shown v m row j x → x ≡ get_or (lock_words g.workers (m.core.row i)) j 0
  unfolding Shown
  shown_word m j x s = s.lock past ∙ ap (λ q. get_or (lock_words g.workers (m.core.row q)) j 0) index

  pub spelled_words : (m : Moment) (words : List ℕ) → length words ≡ 5 → Spells v m 5 row words → words ≡ lock_words g.workers (m.core.row i)
  spelled_words m words size s = same_five words (lock_words g.workers (m.core.row i)) size refl (λ j l. shown_word m j (get_or words j 0) (s j l))

pub row_apart : (v : View) (row i : ℕ) → (opening v.given).frames + i ≡ row → holds v.held row ≡ true → (es : List Event) (m : Moment) → AreApart v m es → (run v.given m es).core.row i ≡ m.core.row i
row_apart v row i place here = row_on v i (ap (holds v.held) place ∙ here)

-- ## Over steps

-- a held row over a step without events of its own
pub row_goes : (z : Shape) (v w : View) (row : ℕ) → holds v.held row ≡ true → Goes z v [] w → (i : ℕ) → (opening v.given).frames + i ≡ row → (state w).core.row i ≡ (state v).core.row i
row_goes z v w row here g i place = ap (λ m. m.core.row i) (moment_run z v w g) ∙ row_apart v row i place here g.between (state v) g.apart

-- a worker's own record over a call in which it appends nothing
pub worker_ran : (alone : Bool) (v w : View) (a : ℕ) → may alone v a ≡ true → Ran alone v [] w → (state w).core.worker a ≡ (state v).core.worker a
worker_ran alone v w a m r = (own_after alone v w a m r).worker

-- a lock row has five words
pub five_wide : (z : Shape) (v : View) (row i : ℕ) → IsAt z v row i → width z.sizes row ≡ 5
five_wide z v row i at = let p = at.place in let s = at.shape in let t : ltb row z.sizes.frames ≡ false = le-ltb row z.sizes.frames (omega arith) in rw t refl

-- and is the same one later
pub at_after : (z y : Shape) (v w : View) (row i : ℕ) → y ≡ z → w.given ≡ v.given → IsAt z v row i → IsAt y w row i
at_after z y v w row i shape given at = record {
  place = ap (λ u. (opening u).frames + i) given ∙ at.place;
  shape = ap (λ s. s.sizes.frames) shape ∙ (at.shape ∙ sym (ap (λ u. (opening u).frames) given));
  inside = (let e = ap (λ (s : Shape). Rattle.lean_proto.specs.rows_trait.Layout.rows_of s.sizes) shape in let l = at.inside in omega arith);
}
