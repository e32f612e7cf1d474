-- Lists of holds, and the five words of a lock row.
use Rattle.std.proofs.Common.{◌≡◌, ◌≢◌, ◌==◌, ℕ, Bool, true, false, cond, List, [], ◌∷◌, length, set, get_or, refl, sym, ap, ◌∙◌, true≢false, arith}
use Rattle.std.proofs.lemmas.Bool.{eq-eqb}
use Rattle.lean_proto.specs.row_words.declared.event.Event.{Event}
use Rattle.lean_proto.specs.row_words.declared.given.Given.{Given}
use Rattle.lean_proto.specs.row_words.Moments.{Moment}
use Rattle.lean_proto.specs.row_words.Sealed.{changes}
use Rattle.lean_proto.specs.rows_trait.declared.view.Hold.{Hold}
use Rattle.lean_proto.specs.rows_trait.Views.{hold, holds, held_at, without, write, settle}

-- a row that is not held
pub without_none : (hs : List Hold) (row : ℕ) → holds hs row ≡ false → without hs row ≡ hs
without_none [] row e = refl
without_none (h ∷ hs) row e = go (h.row == row) e (without_none hs row)
  where
    go : (b : Bool) → cond b true (holds hs row) ≡ false → (holds hs row ≡ false → without hs row ≡ hs) → cond b (without hs row) (h ∷ without hs row) ≡ h ∷ hs
    go true e ih = absurd (true≢false e)
    go false e ih = ap (λ z. h ∷ z) (ih e)

-- a store touches no other hold
pub without_write : (hs : List Hold) (row i x : ℕ) → without (write hs row i x) row ≡ without hs row
without_write [] row i x = refl
without_write (h ∷ hs) row i x = go (h.row == row) refl (without_write hs row i x)
  where
    go : (b : Bool) → (h.row == row) ≡ b → without (write hs row i x) row ≡ without hs row
        → without (cond b (hold h.row h.version h.was (set h.now i x) h.done) h ∷ write hs row i x) row ≡ cond b (without hs row) (h ∷ without hs row)
    go true t ih = rw t ih
    go false t ih = rw t (ap (λ z. h ∷ z) ih)

-- a new hold of a row
pub without_new : (hs : List Hold) (row version : ℕ) (was now : List ℕ) → without (hold row version was now false ∷ hs) row ≡ without hs row
without_new hs row version was now = let t : (row == row) ≡ true = eq-eqb row row refl in rw t refl

pub holds_new : (hs : List Hold) (row version : ℕ) (was now : List ℕ) → holds (hold row version was now false ∷ hs) row ≡ true
holds_new hs row version was now = let t : (row == row) ≡ true = eq-eqb row row refl in rw t refl

pub at_new : (hs : List Hold) (row version : ℕ) (was now : List ℕ) → held_at (hold row version was now false ∷ hs) row ≡ hold row version was now false
at_new hs row version was now = let t : (row == row) ≡ true = eq-eqb row row refl in rw t refl

-- an event that changes none of the rows that are held
pub settle_none : (v : Given) (m : Moment) (hs : List Hold) (e : Event) → ((row : ℕ) → holds hs row ≡ true → changes v m e row ≡ false) → settle v m hs e ≡ hs
settle_none v m [] e off = refl
settle_none v m (h ∷ hs) e off =
    let t : (h.row == h.row) ≡ true = eq-eqb h.row h.row refl in
    let here : changes v m e h.row ≡ false = off h.row (rw t refl) in
    let rest = settle_none v m hs e (λ row y. off row (later (h.row == row) row y)) in
    rw here (ap (λ z. h ∷ z) rest)
  where
    later : (b : Bool) (row : ℕ) → holds hs row ≡ true → cond b true (holds hs row) ≡ true
    later true row y = refl
    later false row y = y

-- ## Five words

pub five : (l : List ℕ) → length l ≡ 5 → l ≡ get_or l 0 0 ∷ get_or l 1 0 ∷ get_or l 2 0 ∷ get_or l 3 0 ∷ get_or l 4 0 ∷ []
five [] e = absurd (omega arith)
five (a ∷ []) e = absurd (omega arith)
five (a ∷ b ∷ []) e = absurd (omega arith)
five (a ∷ b ∷ c ∷ []) e = absurd (omega arith)
five (a ∷ b ∷ c ∷ d ∷ []) e = absurd (omega arith)
five (a ∷ b ∷ c ∷ d ∷ f ∷ []) e = refl
five (a ∷ b ∷ c ∷ d ∷ f ∷ x ∷ xs) e = absurd (omega arith)

-- two lists of five words that are alike word by word
pub same_five : (l k : List ℕ) → length l ≡ 5 → length k ≡ 5 → ((i : ℕ) → Rattle.std.proofs.Common.◌<◌ i 5 → get_or l i 0 ≡ get_or k i 0) → l ≡ k
same_five l k a b f = five l a ∙ ((λ i. f 0 (omega arith) i ∷ f 1 (omega arith) i ∷ f 2 (omega arith) i ∷ f 3 (omega arith) i ∷ f 4 (omega arith) i ∷ []) ∙ sym (five k b))
